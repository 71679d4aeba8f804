-- what a tie says of a ticket: its end, and whose bytes it has
use Rattle.std.proofs.Common.{◌≡◌, ◌∙◌, ◌⊎◌, inl, inr, ℕ, ◌^◌, ◌<◌, ◌≤◌, Bool, true, false, eqb, List, [], ◌∷◌, ◌++◌, length, take, drop, Option, None, refl, ap, sym, subst, append-nil, arith}
use Rattle.usbip_wire.specs.declared.submit.SubmitHead.{SubmitHead}
use Rattle.usbip_wire.specs.Up as up
use Rattle.std.proofs.Math.Seq.{take-nil}
use Rattle.tmc_wire.specs.Header.{in_header_bytes}
use Rattle.tmc_wire.specs.HeaderFault.{TransferSize}
use Rattle.tmc_wire.specs.Transfer.{alignment_of}
use Rattle.tmc_law.specs.Endpoint.{BulkOut, BulkIn}
use Rattle.tmc_law.specs.State.{State}
use Rattle.tmc_law.specs.Logging.{unread}
use Rattle.tmc_law.specs.Put.{Put}
use Rattle.host_joint.specs.Jobs.{Job, last_header}
use Rattle.host_joint.specs.Reads.{Flow}
use Rattle.host_joint.specs.Stage.{Stage, Follows, Gathers, Waits, Rests, Owes, Sends, Sent, Tears, Barred, Dropped, IsFinal}
use Rattle.host_joint.specs.Asking.{Asking}
use Rattle.host_joint.specs.Owned.{Owned, NothingRead, PiecesRead, PieceRead}
use Rattle.host_joint.specs.Hand.{Hand, Free, Says, Said, Reads, Pauses}
use Rattle.host_joint.specs.Pieces.{header_of}
use Rattle.host_joint.specs.Bond.{WasReading, WasRead}
use Rattle.host_joint.specs.Tie.{IsOwned, asked_of, Holds, Tie, ask_with, data_in_read, Owns, WasAccepted}
use Rattle.tmc_wire.specs.Header.{IsTag}
use Rattle.host_joint.proofs.Parts.{ask_of}
use Rattle.tmc_wire.specs.declared.header.OutHeader.{OutHeader}
use Rattle.host_joint.proofs.Listing.{last_more}
use Rattle.host_joint.proofs.Counting.{all_past}
use Rattle.host_joint.proofs.Flows.{all_answered}
use Rattle.host_joint.proofs.Sending.{inner_final, no_mix}
use Rattle.host_joint.proofs.Handing.{hands_none, hands_message}
use Rattle.host_joint.proofs.Owning.{take_own}
use Rattle.host_joint.proofs.Transfers.{WireLaws, begun_size}
use Rattle.host_joint.proofs.Given.{owned_of, piece_text}
use Rattle.host_joint.proofs.Tying.{asks_between}

-- ---- a ticket ends

over : (hand later : Hand) (next : ℕ) (ups : List up.Message) (downs : List Put) (s : State) → Tie hand None next ups downs s → Holds later None ups downs s → Tie later None next ups downs s
over hand later next ups downs s tie held = record {
  run = tie.run;
  reached = tie.reached;
  lines = tie.lines;
  fitting = tie.fitting;
  good = tie.good;
  out_usable = tie.out_usable;
  in_usable = tie.in_usable;
  rises = tie.rises;
  below = tie.below;
  held = held;
}

pub tell_over : (last : ℕ) (message : List ℕ) (next : ℕ) (ups : List up.Message) (downs : List Put) (s : State) → Tie (Said last message) None next ups downs s → Tie Free None next ups downs s
tell_over last message next ups downs s tie =
    let h = tie.held in
    over (Said last message) Free next ups downs s tie (
      refl,
      hands_message last message h.tag h.size (h.front ++ h.job ∷ []) [] [] false ups downs s
          (subst (λ (n : ℕ). Asking (ask_with last message h.tag h.size (h.front ++ h.job ∷ []) n [] []) ups downs s) (omega (arith, h.counted)) h.asking) (subst (λ (o : Option OutHeader). IsFinal o) (sym (last_more h.front h.job)) h.ended)
          (all_answered (asked_of None) BulkOut ups downs s tie.lines refl).queue (all_answered (asked_of None) BulkIn ups downs s tie.lines refl).queue,
    )

pub pieces_over : (last : ℕ) (message sofar : List ℕ) (next : ℕ) (ups : List up.Message) (downs : List Put) (s : State) → Tie (Pauses last message sofar) None next ups downs s → Tie Free None next ups downs s
pieces_over last message sofar next ups downs s tie =
    let h = tie.held in
    over (Pauses last message sofar) Free next ups downs s tie (
      refl,
      hands_none last message h.tag h.size sofar [] false ups downs s h.asking h.some
          (all_answered (asked_of None) BulkOut ups downs s tie.lines refl).queue (all_answered (asked_of None) BulkIn ups downs s tie.lines refl).queue,
    )

-- the message whose last transfer was taken is at the device, or was executed
accepted_at : (last : ℕ) (message : List ℕ) (tag size : ℕ) (past todo : List Job) (sofar : List ℕ) (flow : Flow) (s : State) → IsFinal (last_header past) → Stage last message tag size past todo sofar flow s → WasAccepted last message s
accepted_at last message tag size past todo sofar flow s final (Follows seq earlier waits other part idle none empty still carries at) = no_mix (last_header past) at final
accepted_at last message tag size past todo sofar flow s final (Gathers done rest whole waits part idle none empty still carries at own) = inner_final (last_header past) at final
accepted_at last message tag size past todo sofar flow s final (Barred shuts another part idle none empty still over_it at) = inner_final (last_header past) at final
accepted_at last message tag size past todo sofar flow s final (Waits waits part idle none empty still asks at) = inl waits
accepted_at last message tag size past todo sofar flow s final (Rests response waits part idle ran all still asks at further) = inr (response, ran)
accepted_at last message tag size past todo sofar flow s final (Owes response waits part owed ran all still none at further) = inr (response, ran)
accepted_at last message tag size past todo sofar flow s final (Sends response carried bytes piece waits part sends ran all giving fits text none own at) = inr (response, ran)
accepted_at last message tag size past todo sofar flow s final (Sent response carried bytes waits part idle ran all whole fits text none at) = inr (response, ran)
accepted_at last message tag size past todo sofar flow s final (Tears response carried bytes dropped waits part idle ran all torn fits text none at) = inr (response, ran)
accepted_at last message tag size past todo sofar flow s final (Dropped response closed waits part idle ran all still none at) = inr (response, ran)

pub accepted : (last : ℕ) (message : List ℕ) (next : ℕ) (ups : List up.Message) (downs : List Put) (s : State) → Tie (Said last message) None next ups downs s → WasAccepted last message s
accepted last message next ups downs s tie =
    let h = tie.held in
    let a = h.asking in
    let past = all_past (h.front ++ h.job ∷ []) a.past a.todo a.hit a.came a.whole (omega (arith, a.counted, h.counted)) in
    accepted_at last message h.tag h.size a.past a.todo [] a.flow s (subst (λ (l : List Job). IsFinal (last_header l)) (sym past.past_all) (subst (λ (o : Option OutHeader). IsFinal o) (sym (last_more h.front h.job)) h.ended)) a.stage

-- ---- whose bytes it has

pub reads_own : (laws : WireLaws) (last : ℕ) (message : List ℕ) (tag size : ℕ) (written : List Job) (answered : ℕ) (sofar read : List ℕ) (gone : Bool) (s : State) → IsTag tag → size < 2 ^ 32 → (read ≡ []) ⊎ (12 ≤ length read)
    → Owned (ask_of last message tag size written answered sofar read gone) s → Owns (Reads last message tag size sofar read) s
reads_own laws last message tag size written answered sofar read gone s tagged small header_there (NothingRead empty none) =
    inl (ap (λ (l : List ℕ). l ++ data_in_read read) empty ∙ ap (λ (l : List ℕ). data_in_read l) none ∙ take-nil (TransferSize []))
reads_own laws last message tag size written answered sofar read gone s tagged small header_there (PiecesRead response ran all none) =
    inr (response, ran, (unread s, all ∙ ap (λ (l : List ℕ). l ++ unread s) (sym (ap (λ (l : List ℕ). sofar ++ data_in_read l) none ∙ ap (λ (l : List ℕ). sofar ++ l) (take-nil (TransferSize [])) ∙ append-nil sofar))))
reads_own laws last message tag size written answered sofar read gone s tagged small header_there (PieceRead response carried rest ran all some fits text first) = by header_there
  where
    by : (read ≡ []) ⊎ (12 ≤ length read) → Owns (Reads last message tag size sofar read) s
    by (inl none) =
        inr (response, ran, (carried ++ unread s, all ∙ ap (λ (l : List ℕ). l ++ (carried ++ unread s)) (sym (ap (λ (l : List ℕ). sofar ++ data_in_read l) none ∙ ap (λ (l : List ℕ). sofar ++ l) (take-nil (TransferSize [])) ∙ append-nil sofar))))
    by (inr long) =
        let eom : Bool = eqb (length carried) (length (carried ++ unread s)) in
        let piece = piece_text laws tag size eom carried (read ++ rest) tagged some fits small
        (sym text ∙ ap (λ (l : List ℕ). in_header_bytes (header_of tag (length carried) eom) ++ (l ++ alignment_of (length carried))) (take_own carried (unread s))) in
        let size_is : TransferSize read ≡ length carried = begun_size laws tag size read rest carried eom piece long in
        inr (response, ran, (first.0, first.1 ∙ ap (λ (n : ℕ). (sofar ++ take n (drop 12 read)) ++ first.0) (sym size_is)))

pub owns : (laws : WireLaws) (hand : Hand) (waits : Option SubmitHead) (next : ℕ) (ups : List up.Message) (downs : List Put) (s : State) → Tie hand waits next ups downs s → Holds hand waits ups downs s → Owns hand s
owns laws Free waits next ups downs s tie h = tt
owns laws (Says message said) waits next ups downs s tie h = tt
owns laws (Said last message) waits next ups downs s tie h = tt
owns laws (Reads last message tag size sofar read) waits next ups downs s tie h =
    reads_own laws last message tag size (h.front ++ h.request ∷ []) h.answered sofar read false s h.tagged h.sized.1 h.long (owned_of last message tag size (h.front ++ h.request ∷ []) h.answered sofar read false ups downs s h.asking)
owns laws (Pauses last message sofar) waits next ups downs s tie h =
    let b = asks_between _ ups downs s refl h.some h.asking in (b.response, b.ran, (unread s, b.all))

pub cancelled_owns : (laws : WireLaws) (last : ℕ) (message : List ℕ) (tag size : ℕ) (sofar read : List ℕ) (taken : Bool) (ups : List up.Message) (downs : List Put) (s : State) → WasReading last message tag size sofar read taken ups downs s
    → Owns (Reads last message tag size sofar read) s
cancelled_owns laws last message tag size sofar read taken ups downs s h =
    reads_own laws last message tag size (h.front ++ h.request ∷ []) h.answered sofar read true s h.tagged h.sized.1 h.long (owned_of last message tag size (h.front ++ h.request ∷ []) h.answered sofar read true ups downs s h.asking)

pub read_owns : (last : ℕ) (message sofar : List ℕ) (ups : List up.Message) (downs : List Put) (s : State) → WasRead last message sofar ups downs s → IsOwned last message sofar s
read_owns last message sofar ups downs s h = let b = asks_between _ ups downs s refl h.some h.asking in (b.response, b.ran, (unread s, b.all))

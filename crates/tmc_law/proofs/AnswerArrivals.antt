-- what comes: submits and unlinks
use Rattle.std.proofs.Common.{◌≡◌, ℕ, ◌+◌, ◌<◌, ◌≤◌, ◌^◌, List, [], ◌∷◌, ◌++◌, length, Some, refl, sym, subst, ◌∙◌, arith, append_assoc}
use Rattle.std.specs.Prelude.{◌≢◌}
use Rattle.usbip_wire.specs.declared.submit.SubmitHead.{SubmitHead}
use Rattle.usbip_wire.specs.declared.unlink.UnlinkHead.{UnlinkHead}
use Rattle.usbip_wire.specs.declared.dirs.Outstanding.{Outstanding}
use Rattle.usbip_wire.specs.declared.dirs.Outstanding.TheVariants as outstanding
use Rattle.usbip_wire.specs.Dirs.{find, others}
use Rattle.tmc_wire.specs.ClassStatus.{STATUS_SUCCESS}
use Rattle.tmc_law.specs.Endpoint.{Endpoint, Control, BulkOut, BulkIn, InterruptIn}
use Rattle.tmc_law.specs.State.{State, Pending, arrived, queue_of, with_queue, pending, Avoids}
use Rattle.tmc_law.specs.Put.{Put, answer_of, unlink_answer, success, stalled, unlinked}
use Rattle.tmc_law.specs.Queues.{Arrives, Queued, TurnedAway, Unlinks, Hits, Polled, Misses, Holds}
use Rattle.tmc_law.specs.Status.{status_layout}
use Rattle.tmc_law.proofs.AnswerBytes.{success_is, stalled_is, unlinked_is, sent_back_fits}
use Rattle.tmc_law.proofs.Outstanding.{NoneHas, find_new, find_others, none_more, none_others, none_left}
use Rattle.tmc_law.proofs.Owing.{asked_by, IsOwed, AreListed, avoids_at, avoids_with, listed_more, listed_apart, listed_at, listed_rest, listed_without, listed_answered}
use Rattle.tmc_law.proofs.Owed.{AreOwed, owed_added, owed_passed}
use Rattle.tmc_law.proofs.Answering.{Settles, submit_accepted, unlink_settles}
use Rattle.tmc_law.proofs.AnswerPlaces.{in_front, in_back, owed_here, owed_out, settles_out, placed_now, amid, around, AreWhole, whole_more, whole_without, TiesAt, LastsAt, lasts, lasts_at, none_lasts}

-- ---- a submit

whole_arrived : (endpoint : Endpoint) (s : State) (submit : Pending) → length submit.moved + length submit.left ≤ submit.head.length
    → AreWhole s.bulk_out → AreWhole (with_queue endpoint (queue_of endpoint s ++ submit ∷ []) s).bulk_out
whole_arrived Control s submit fits whole = whole
whole_arrived BulkOut s submit fits whole = whole_more s.bulk_out submit whole fits
whole_arrived BulkIn s submit fits whole = whole
whole_arrived InterruptIn s submit fits whole = whole

owed_arrived : (entries : List Outstanding) (endpoint : Endpoint) (s : State) (submit : Pending) → IsOwed (entries ++ asked_by submit.head ∷ []) submit
    → Avoids submit.head.seqnum (pending s) → AreOwed entries (pending s)
    → AreOwed (entries ++ asked_by submit.head ∷ []) (pending (with_queue endpoint (queue_of endpoint s ++ submit ∷ []) s))
owed_arrived entries endpoint s submit one avoids owed =
    let front = in_front endpoint s in
    let queue = queue_of endpoint s in
    let back = in_back endpoint s in
    let is : pending s ≡ (front ++ queue) ++ back = placed_now endpoint s ∙ sym (append_assoc front queue back) in
    let apart : Avoids submit.head.seqnum ((front ++ queue) ++ back) = subst (λ (l : List Pending). Avoids submit.head.seqnum l) is avoids in
    let before : AreOwed entries ((front ++ queue) ++ back) = subst (λ (l : List Pending). AreOwed entries l) is owed in
    let all : List Outstanding = entries ++ asked_by submit.head ∷ [] in
    let after : AreOwed all ((front ++ queue) ++ submit ∷ back) = owed_added entries (front ++ queue) submit back one apart before in
    owed_out all endpoint (queue ++ submit ∷ []) s
    (subst (λ (l : List Pending). AreOwed all l) (sym (amid front queue submit [] back)) after)

-- what a submit that comes is known to be
pub record IsComing (entries : List Outstanding) (s : State) (head : SubmitHead) (transferred : List ℕ) : Type 0 where
  pub wide : head.seqnum < 2 ^ 32
  pub sized : head.length < 2 ^ 32
  pub carried : length transferred ≤ head.length
  pub unknown : NoneHas head.seqnum entries
  pub avoids : Avoids head.seqnum (pending s)

owed_coming : (entries : List Outstanding) (s : State) (head : SubmitHead) (transferred : List ℕ) → IsComing entries s head transferred
    → IsOwed (entries ++ asked_by head ∷ []) (arrived head transferred)
owed_coming entries s head transferred coming = record {
  found = find_new head.seqnum entries (asked_by head) refl coming.unknown;
  wide = coming.wide;
  sized = coming.sized;
  fits = omega arith;
}

pub arrives_last : (entries : List Outstanding) (s : State) (head : SubmitHead) (transferred : List ℕ) (puts : List Put) (t : State)
    → IsComing entries s head transferred → TiesAt entries s → Arrives s head transferred puts t → LastsAt (entries ++ asked_by head ∷ []) puts t
arrives_last entries s head transferred puts t coming ties (Queued endpoint taken a i) =
    let submit : Pending = arrived head transferred in
    let fits : length submit.moved + length submit.left ≤ submit.head.length = omega (arith, coming.carried) in
    lasts_at (entries ++ asked_by head ∷ []) puts [] t _ a i
    (none_lasts (entries ++ asked_by head ∷ []) _ _ (record {
      owed = owed_arrived entries endpoint s submit (owed_coming entries s head transferred coming) coming.avoids ties.owed;
      whole = whole_arrived endpoint s submit fits ties.whole;
    }))
arrives_last entries s head transferred puts t coming ties (TurnedAway refused a i) =
    lasts_at (entries ++ asked_by head ∷ []) puts (answer_of head stalled [] ∷ []) t s a i (record {
      accepted = (submit_accepted (entries ++ asked_by head ∷ []) (arrived head transferred) stalled [] stalled_is (owed_coming entries s head transferred coming) (omega arith), tt);
      ties = record {
        owed = owed_passed entries (asked_by head) head.seqnum (pending s) refl coming.avoids ties.owed;
        whole = ties.whole;
      };
    })

-- ---- an unlink

whole_taken : (endpoint : Endpoint) (s : State) (before : List Pending) (submit : Pending) (behind : List Pending)
    → Holds s endpoint before submit behind → AreWhole s.bulk_out → AreWhole (with_queue endpoint (before ++ behind) s).bulk_out
whole_taken Control s before submit behind holds whole = whole
whole_taken BulkOut s before submit behind holds whole =
    whole_without before submit behind (subst (λ (l : List Pending). AreWhole l) holds whole)
whole_taken BulkIn s before submit behind holds whole = whole
whole_taken InterruptIn s before submit behind holds whole = whole

pub owed_amid : (entries : List Outstanding) (endpoint : Endpoint) (s : State) (before : List Pending) (submit : Pending) (behind : List Pending)
    → Holds s endpoint before submit behind → AreOwed entries (pending s)
    → AreOwed entries ((in_front endpoint s ++ before) ++ submit ∷ (behind ++ in_back endpoint s))
owed_amid entries endpoint s before submit behind holds owed =
    subst (λ (l : List Pending). AreOwed entries l) (amid (in_front endpoint s) before submit behind (in_back endpoint s))
    (owed_here entries endpoint s (before ++ submit ∷ behind) holds owed)

settles_around : (entries : List Outstanding) (puts : List Put) (endpoint : Endpoint) (s : State) (before behind : List Pending)
    → Settles entries puts ((in_front endpoint s ++ before) ++ (behind ++ in_back endpoint s))
    → Settles entries puts (pending (with_queue endpoint (before ++ behind) s))
settles_around entries puts endpoint s before behind settles =
    settles_out entries puts endpoint (before ++ behind) s
    (subst (λ (l : List Pending). Settles entries puts l) (around (in_front endpoint s) before behind (in_back endpoint s)) settles)

-- the submit that was to be unlinked is none of the others
target_gone : (head : UnlinkHead) (entries : List Outstanding) (front : List Pending) (submit : Pending) (back : List Pending)
    → submit.head.seqnum ≡ head.target → AreOwed entries (front ++ submit ∷ back) → Avoids head.target (front ++ back)
target_gone head entries front submit back number owed =
    subst (λ (n : ℕ). Avoids n (front ++ back)) number (listed_rest entries front submit back owed.listed)

-- behind an unlink nothing is outstanding but what was, without the submit that was to be unlinked
none_behind : (n : ℕ) (head : UnlinkHead) (entries : List Outstanding) → (head.target ≢ n → NoneHas n entries)
    → NoneHas n (others head.target (others head.seqnum (entries ++ outstanding.Unlink head.seqnum ∷ [])))
none_behind n head entries none =
    none_left n head.target (others head.seqnum (entries ++ outstanding.Unlink head.seqnum ∷ []))
    (λ apart. none_left n head.seqnum (entries ++ outstanding.Unlink head.seqnum ∷ [])
    (λ differs. none_more n entries (outstanding.Unlink head.seqnum) (none apart) differs))

-- what else was outstanding, beside the submit
none_beside : (n : ℕ) (head : UnlinkHead) (entries : List Outstanding) (front : List Pending) (submit : Pending) (back : List Pending)
    → submit.head.seqnum ≡ head.target → AreOwed entries (front ++ submit ∷ back) → Avoids n (front ++ back) → head.target ≢ n → NoneHas n entries
none_beside n head entries front submit back number owed avoids apart =
    owed.covered n (avoids_with n front submit back (λ e. apart (sym number ∙ e)) avoids)

hit_lasts : (entries : List Outstanding) (endpoint : Endpoint) (s : State) (head : UnlinkHead) (before : List Pending) (submit : Pending) (behind : List Pending)
    → Holds s endpoint before submit behind → submit.head.seqnum ≡ head.target → head.seqnum < 2 ^ 32 → NoneHas head.seqnum entries → TiesAt entries s
    → LastsAt (entries ++ outstanding.Unlink head.seqnum ∷ []) (unlink_answer head unlinked ∷ []) (with_queue endpoint (before ++ behind) s)
hit_lasts entries endpoint s head before submit behind holds number wide none ties =
    let front = in_front endpoint s ++ before in
    let back = behind ++ in_back endpoint s in
    let all : List Outstanding = entries ++ outstanding.Unlink head.seqnum ∷ [] in
    let owed : AreOwed entries (front ++ submit ∷ back) = owed_amid entries endpoint s before submit behind holds ties.owed in
    let left : AreListed entries (front ++ back) = listed_without entries front submit back owed.listed in
    lasts all (unlink_answer head unlinked ∷ []) _ _
    (settles_around all (unlink_answer head unlinked ∷ []) endpoint s before behind
    (unlink_settles all head unlinked (front ++ back) unlinked_is wide
    (find_new head.seqnum entries (outstanding.Unlink head.seqnum) refl none)
    (listed_apart head.seqnum entries (front ++ back) none left)
    (target_gone head entries front submit back number owed)
    (listed_more entries (outstanding.Unlink head.seqnum ∷ []) (front ++ back) left)
    (λ n avoids. none_behind n head entries (none_beside n head entries front submit back number owed avoids))))
    (whole_taken endpoint s before submit behind holds ties.whole)

none_then : (n : ℕ) (head : UnlinkHead) (seqnum : ℕ) (entries : List Outstanding) → (head.target ≢ n → NoneHas n entries)
    → NoneHas n (others head.target (others head.seqnum (others seqnum (entries ++ outstanding.Unlink head.seqnum ∷ []))))
none_then n head seqnum entries none =
    let all : List Outstanding = entries ++ outstanding.Unlink head.seqnum ∷ [] in
    none_left n head.target (others head.seqnum (others seqnum all))
    (λ apart. none_left n head.seqnum (others seqnum all)
    (λ differs. none_others n seqnum all (none_more n entries (outstanding.Unlink head.seqnum) (none apart) differs)))

-- the answer to the submit comes first, and then the one to the unlink
polled_settles : (entries : List Outstanding) (head : UnlinkHead) (front : List Pending) (submit : Pending) (back : List Pending) (moved : List ℕ)
    → submit.head.seqnum ≡ head.target → head.seqnum < 2 ^ 32 → NoneHas head.seqnum entries → length moved ≤ submit.head.length → AreOwed entries (front ++ submit ∷ back)
    → Settles (entries ++ outstanding.Unlink head.seqnum ∷ []) (answer_of submit.head success moved ∷ unlink_answer head success ∷ []) (front ++ back)
polled_settles entries head front submit back moved number wide none fits owed =
    let unlink : Outstanding = outstanding.Unlink head.seqnum in
    let all : List Outstanding = entries ++ unlink ∷ [] in
    let listed : AreListed all (front ++ submit ∷ back) = listed_more entries (unlink ∷ []) (front ++ submit ∷ back) owed.listed in
    let first = submit_accepted all submit success moved success_is (listed_at all front submit back listed) fits in
    let apart : submit.head.seqnum ≢ head.seqnum =
    avoids_at head.seqnum front submit back (listed_apart head.seqnum entries (front ++ submit ∷ back) none owed.listed) in
    let found : find head.seqnum (others submit.head.seqnum all) ≡ Some unlink =
    find_others head.seqnum submit.head.seqnum all (λ e. apart (sym e)) ∙ find_new head.seqnum entries unlink refl none in
    let then : Settles (others submit.head.seqnum all) (unlink_answer head success ∷ []) (front ++ back) =
    unlink_settles (others submit.head.seqnum all) head success (front ++ back) success_is wide found
    (listed_apart head.seqnum entries (front ++ back) none (listed_without entries front submit back owed.listed))
    (target_gone head entries front submit back number owed) (listed_answered all front submit back listed)
    (λ n avoids. none_then n head submit.head.seqnum entries (none_beside n head entries front submit back number owed avoids)) in
    record { accepted = (first, then.accepted); owed = then.owed }

pub unlinks_last : (entries : List Outstanding) (s : State) (head : UnlinkHead) (puts : List Put) (t : State)
    → head.seqnum < 2 ^ 32 → NoneHas head.seqnum entries → TiesAt entries s → Unlinks s head puts t
    → LastsAt (entries ++ outstanding.Unlink head.seqnum ∷ []) puts t
unlinks_last entries s head puts t wide none ties (Hits endpoint before submit behind holds number polled a i) =
    lasts_at _ puts _ t _ a i (hit_lasts entries endpoint s head before submit behind holds number wide none ties)
unlinks_last entries s head puts t wide none ties (Polled endpoint before submit behind setup tag holds number polled asks row a i) =
    let front = in_front endpoint s ++ before in
    let back = behind ++ in_back endpoint s in
    lasts_at _ puts _ t _ a i
    (lasts _ _ _ _
    (settles_around _ _ endpoint s before behind
    (polled_settles entries head front submit back _ number wide none
    (sent_back_fits submit.head.dir submit.head.length setup.length (status_layout STATUS_SUCCESS tag))
    (owed_amid entries endpoint s before submit behind holds ties.owed)))
    (whole_taken endpoint s before submit behind holds ties.whole))
unlinks_last entries s head puts t wide none ties (Misses avoids a i) =
    let unlink : Outstanding = outstanding.Unlink head.seqnum in
    let all : List Outstanding = entries ++ unlink ∷ [] in
    lasts_at all puts (unlink_answer head success ∷ []) t s a i
    (lasts all (unlink_answer head success ∷ []) (pending s) s.bulk_out
    (unlink_settles all head success (pending s) success_is wide (find_new head.seqnum entries unlink refl none)
    (listed_apart head.seqnum entries (pending s) none ties.owed.listed) avoids (listed_more entries (unlink ∷ []) (pending s) ties.owed.listed)
    (λ n apart. none_behind n head entries (λ differs. ties.owed.covered n apart)))
    ties.whole)

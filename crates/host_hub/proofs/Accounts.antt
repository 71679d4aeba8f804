-- a record stands behind a hub as it begins, and behind a call that moves no byte
use Rattle.std.proofs.Common.{◌≡◌, ◌∙◌, ◌≤◌, ◌+◌, ℕ, Bool, true, false, List, [], ◌∷◌, ◌++◌, length, Option, Some, None, refl, sym, ap, subst, arith, append-nil, length-append}
use Rattle.std.proofs.lemmas.Bool.{le-ltb}
use Rattle.std.specs.Prelude.{nat_lt, if◌then◌else◌}
use Rattle.tmc_base.specs.Link.{Counts}
use Rattle.tmc_base.specs.Told.{Told}
use Rattle.tmc_base.specs.declared.field.Field.{Field}
use Rattle.usbip_wire.specs.Awaited.{Awaited, entries_of, number_of, sent_by}
use Rattle.usbip_wire.specs.Down as down
use Rattle.usbip_wire.specs.DownFed.{BadAt, Held, NoneWhole, kept}
use Rattle.usbip_wire.specs.Up as up
use Rattle.usbip_wire.specs.declared.dirs.Outstanding as wire
use Rattle.std.specs.Int.{w32, to_be_bytes}
use Rattle.host_joint.specs.Hand as joint_hand
use Rattle.host_joint.specs.Joint.{Joint}
use Rattle.tmc_base.specs.declared.run_step.RunStep.{RunStep}
use Rattle.tmc_law.specs.State.{State}
use Rattle.usbip_wire.specs.declared.down.DownPhase.TheVariants.{Urbs}
use Rattle.host_urbs.specs.Record as urbs
use Rattle.host_urbs.specs.declared.limits.TheConstants.{OUTBOX_MAX}
use Rattle.host_hub.specs.declared.hub_core.HubCore.{HubCore}
use Rattle.host_hub.specs.declared.limits.TheConstants.{LIMITS_MAX}
use Rattle.host_hub.specs.declared.outcome.End.{End}
use Rattle.host_hub.specs.declared.outcome.End.TheVariants as end
use Rattle.host_hub.specs.Behind.{Account}
use Rattle.host_hub.specs.Calls.{All}
use Rattle.host_hub.specs.Crossings.{crossings}
use Rattle.host_hub.specs.Fed.{Reads}
use Rattle.host_hub.specs.Hand.{ended}
use Rattle.host_hub.specs.Joined.{IsJoined, IsPlain, ReadsOn}
use Rattle.host_hub.specs.Law.{Lawful}
use Rattle.host_hub.specs.Order.{Setting, message_of}
use Rattle.host_hub.specs.Record.{Asked, Cancelled, Cleared, Fell, GaveUp, Past, Recovers, Settled, Stopped, Took, Wrote, next, written}
use Rattle.host_hub.specs.Refusals.{limits}
use Rattle.host_hub.specs.Stands.{Rests}
use Rattle.host_hub.specs.Tied.{NothingLies, below, entries_sent, stopped, takes_all_by}
use Rattle.host_hub.proofs.Exchanging.{exchanged_none}
use Rattle.host_hub.proofs.Messages.{next_same, written_same}
use Rattle.host_hub.proofs.Numbers.{entry_number, may_next}
use Rattle.host_hub.proofs.Sendings.{sent_none, sent_still}
use Rattle.host_hub.proofs.Counts.{stands_so}
use Rattle.host_hub.proofs.Falls.{not_stopped_yet}
use Rattle.host_hub.proofs.Undisturbing.{Joins, StaysJoined, joined_added, joined_start, outbox_more, written_more}
use Rattle.host_hub.proofs.AccountAdds.{IsQuiet, TakesNone, all_joined, no_some, quiet_reads, quiet_received, quiet_stop, takes_quiet}

-- ---- what is written is not sent yet

pub next_counts : (s : Setting) (past : Past) → next s.first past ≡ s.first + length (written s past)
next_counts s past = next_same s past ∙ ap (λ (ms : List up.Message). s.first + length ms) (sym (written_same s past))

below_back : (n : ℕ) (xs : List Awaited) (x : Awaited) → n ≤ number_of x → below n (xs ++ x ∷ []) ≡ below n xs
below_back n [] x h = ap (λ (b : Bool). if b then x ∷ [] else []) (le-ltb (number_of x) n h)
below_back n (y ∷ xs) x h = by (nat_lt (number_of y) n) (below_back n xs x h)
  where
    by : (b : Bool) → below n (xs ++ x ∷ []) ≡ below n xs → (if b then y ∷ below n (xs ++ x ∷ []) else below n (xs ++ x ∷ [])) ≡ (if b then y ∷ below n xs else below n xs)
    by true again = ap (λ (l : List Awaited). y ∷ l) again
    by false again = again

grown : (s : Setting) (more past : Past) → length (written s past) ≤ length (written s (more ++ past))
grown s more past = omega (arith, ap length (written_more s more past), length-append (written s past) (written s more))

quiet_below : (s : Setting) (more past : Past) (count : ℕ) → count ≤ length (written s past) → Lawful s (more ++ past) → All TakesNone more
    → below (s.first + count) (urbs.outstanding (crossings s (more ++ past))) ≡ below (s.first + count) (urbs.outstanding (crossings s past))
quiet_below s [] past count few h a = refl
quiet_below s (Wrote n o k ∷ more) past count few h a =
    below_back (s.first + count) (urbs.outstanding (crossings s (more ++ past))) (sent_by (message_of s n k))
    (omega (arith, entry_number s n k, may_next s (more ++ past) n k h.1.1, next_counts s (more ++ past), grown s more past, few))
    ∙ quiet_below s more past count few h.0 a.1
quiet_below s (Took m ∷ more) past count few h a = absurd a.0
quiet_below s (Fell m g ∷ more) past count few h a = absurd a.0
quiet_below s (Stopped g ∷ more) past count few h a = quiet_below s more past count few h.0 a.1
quiet_below s (Recovers ∷ more) past count few h a = quiet_below s more past count few h.0 a.1
quiet_below s (Asked t b ∷ more) past count few h a = quiet_below s more past count few h.0 a.1
quiet_below s (Cancelled t ∷ more) past count few h a = quiet_below s more past count few h.0 a.1
quiet_below s (Cleared w ∷ more) past count few h a = quiet_below s more past count few h.0 a.1
quiet_below s (GaveUp ∷ more) past count few h a = quiet_below s more past count few h.0 a.1
quiet_below s (Settled t o ∷ more) past count few h a = quiet_below s more past count few h.0 a.1

pub quiet_lies : (s : Setting) (more past : Past) (count : ℕ) (rest : List ℕ) → count ≤ length (written s past) → Lawful s (more ++ past) → All TakesNone more → NothingLies s past count rest
    → NothingLies s (more ++ past) count rest
quiet_lies s more past count rest few h a lies =
    let same : entries_sent s past count ≡ entries_sent s (more ++ past) count = ap entries_of (sym (quiet_below s more past count few h a)) in
    record {
      none_whole = subst (λ (es : List wire.Outstanding). NoneWhole Urbs es rest) same lies.none_whole;
      none_bad = λ f bad. lies.none_bad f (subst (λ (es : List wire.Outstanding). BadAt Urbs es rest f) (sym same) bad);
    }

-- ---- a call that moves no byte

pub account_entered : Joins → (start now : Told) (counts : Counts) (s : Setting) (past more : Past) (sent received : List ℕ) (core new : HubCore) → Account start now counts s past sent received core
    → ended past ≡ None → All IsQuiet more → All IsPlain more → Rests s (more ++ past) sent new → limits (more ++ past) ≤ LIMITS_MAX → new.reader ≡ core.reader → (length core.urbs.outbox ≤ OUTBOX_MAX → length new.urbs.outbox ≤ OUTBOX_MAX)
    → Account start now counts s (more ++ past) sent received new
account_entered laws start now counts s past more sent received core new a running quiet plain rests sum same short = record {
  told = a.told;
  rests = rests;
  rest = a.rest;
  tied = record {
    front = a.tied.front;
    written = stands_so s (more ++ past) sent new rests.knows;
    taken = a.tied.taken;
    answers = quiet_received s more past a.tied.front (takes_quiet more quiet) a.tied.answers;
  };
  held = λ runs.
      let was = a.held (a.rests.knows.over ∙ running) in
      record { urbs = ap (λ (r : Held). r.phase) same ∙ was.urbs; held = ap kept same ∙ was.held; good = ap (λ (r : Held). r.bad) same ∙ was.good };
  count = a.count;
  whole = sent_still s more past sent a.count a.whole;
  taken = λ all. quiet_lies s more past a.count a.rest a.whole.among rests.kept.lawful (takes_quiet more quiet) (a.taken (ap (λ (e : Option End). takes_all_by e (stopped past)) running));
  shows = record {
    fault = λ e. absurd (quiet_stop more past end.LinkFault quiet none e);
    closing = λ e. absurd (quiet_stop more past end.Unplugged quiet none e);
    refused = λ f e. absurd (quiet_stop more past (end.PeerFault f) quiet none e);
  };
  sum = sum;
  plain = all_joined IsPlain more past plain a.plain;
  short = short a.short;
  joined = subst (λ (l : List ℕ). StaysJoined s (more ++ past) start now l a.rest) (sym (outbox_more s more past sent core.urbs.outbox new.urbs.outbox received a.rest a.rest a.tied (stands_so s (more ++ past) sent new rests.knows)))
      (joined_added laws s past more start now core.urbs.outbox a.rest [] a.rest rests.kept.lawful refl
      (λ read. subst (λ (l : List ℕ). ReadsOn s more past read l) (sym (append-nil read)) (quiet_reads s more past read (takes_quiet more quiet))) a.joined);
}
  where
    none : stopped past ≡ None
    none = not_stopped_yet past running

-- nothing has changed but how much takes no memory
pub account_roomier : (start now : Told) (counts : Counts) (s : Setting) (past : Past) (sent received : List ℕ) (core : HubCore) (room places : ℕ)
    → Account start now counts s past sent received core → Rests s past sent (record core { notes = record core.notes { room = room; places = places } })
    → Account start now counts s past sent received (record core { notes = record core.notes { room = room; places = places } })
account_roomier start now counts s past sent received core room places a rests = record {
  told = a.told;
  rests = rests;
  rest = a.rest;
  tied = a.tied;
  held = λ runs. let was = a.held runs in record { urbs = was.urbs; held = was.held; good = was.good };
  count = a.count;
  whole = a.whole;
  taken = a.taken;
  shows = a.shows;
  sum = a.sum;
  plain = a.plain;
  short = a.short;
  joined = a.joined;
}

-- ---- a hub begins

pub account_begins : ((s : Setting) (bytes read : List ℕ) (steps : List RunStep) (state : State) → Joint s.devid joint_hand.Free None s.first bytes read steps state
    → IsJoined s [] bytes read steps state) → (start : Told) (counts : Counts) (s : Setting) (core : HubCore) → Rests s [] [] core → Reads [] core
    → Account start start counts s [] [] [] core
account_begins begins start counts s core rests reads = record {
  told = exchanged_none start;
  rests = rests;
  rest = [];
  tied = record { front = []; written = stands_so s [] [] core rests.knows; taken = refl; answers = refl };
  held = λ runs. reads;
  count = 0;
  whole = sent_none s;
  taken = λ all. record { none_whole = none_whole; none_bad = none_bad };
  shows = record { fault = λ e. no_some end.LinkFault e; closing = λ e. no_some end.Unplugged e; refused = λ f e. no_some (end.PeerFault f) e };
  sum = omega arith;
  plain = tt;
  short = omega (arith, ap length (stands_so s [] [] core rests.knows));
  joined = subst (λ (l : List ℕ). StaysJoined s [] start start l []) (sym (stands_so s [] [] core rests.knows)) (joined_start begins s start);
}
  where
    none_whole : NoneWhole Urbs [] []
    none_whole (down.RetSubmit head bytes) front tail spells e = let f : ◌≡◌ {A = Option (Rattle.usbip_wire.specs.declared.urb.Dir.Dir × ℕ)} None (Some (spells.0.dir, spells.0.size)) = spells.1 in cc
    none_whole (down.RetUnlink head) front tail spells e = let f : false ≡ true = spells.0 in cc

    none_bad : (f : Field) → BadAt Urbs [] [] f → ⊥
    none_bad f bad = let e : [] ≡ to_be_bytes w32 bad.0 ++ bad.1 = bad.3 in cc

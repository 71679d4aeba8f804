-- answers to pending submits, accepted one behind the other
use Rattle.std.proofs.Common.{◌≡◌, ℕ, ◌<◌, ◌≤◌, ◌^◌, List, [], ◌∷◌, ◌++◌, length, Option, Some, refl, ap, arith}
use Rattle.std.specs.Prelude.{ℤ, map}
use Rattle.usbip_wire.specs.declared.unlink.UnlinkHead.{UnlinkHead}
use Rattle.usbip_wire.specs.declared.dirs.Outstanding.{Outstanding}
use Rattle.usbip_wire.specs.declared.dirs.Outstanding.TheVariants as outstanding
use Rattle.usbip_wire.specs.Dirs.{find, others, submit_of, is_unlink}
use Rattle.usbip_wire.specs.Down as down
use Rattle.usbip_wire.specs.RetSubmit.{ret_submit_bytes, unused}
use Rattle.usbip_wire.specs.RetUnlink.{ret_unlink_bytes, unused as unused_unlink}
use Rattle.tmc_law.specs.State.{Pending, Avoids}
use Rattle.tmc_law.specs.Put.{Put, answer_of, ended, unlink_answer, returned, success}
use Rattle.tmc_law.specs.Halts.{all_ended}
use Rattle.tmc_law.specs.Aborts.{part_answer, without_part}
use Rattle.tmc_law.specs.Laws.{message_of}
use Rattle.tmc_law.proofs.Entries.{AreAccepted, without_answered}
use Rattle.tmc_law.proofs.AnswerBytes.{IsStatus, success_is, head_of, submit_spelled, unlink_spelled}
use Rattle.tmc_law.proofs.Outstanding.{NoneHas}
use Rattle.tmc_law.proofs.Owing.{IsOwed, AreListed, listed_others}
use Rattle.tmc_law.proofs.Owed.{AreOwed, owed_at, owed_answered}

-- the answers are accepted, and behind them the answers to these submits are owed
pub record Settles (entries : List Outstanding) (puts : List Put) (submits : List Pending) : Type 0 where
  pub accepted : AreAccepted entries puts
  pub owed : AreOwed (without_answered entries puts) submits

pub none_settles : (entries : List Outstanding) (submits : List Pending) → AreOwed entries submits → Settles entries [] submits
none_settles entries submits owed = record { accepted = tt; owed = owed }

accepted_append : (puts more : List Put) (entries : List Outstanding) → AreAccepted entries puts → AreAccepted (without_answered entries puts) more
    → AreAccepted entries (puts ++ more)
accepted_append [] more entries few rest = rest
accepted_append (put ∷ puts) more entries few rest = (few.0, accepted_append puts more _ few.1 rest)

pub answered_append : (puts more : List Put) (entries : List Outstanding)
    → without_answered entries (puts ++ more) ≡ without_answered (without_answered entries puts) more
answered_append [] more entries = refl
answered_append (put ∷ puts) more entries = answered_append puts more _

pub settles_append : (entries : List Outstanding) (puts more : List Put) (submits rest : List Pending) → Settles entries puts submits
    → ((later : List Outstanding) → AreOwed later submits → Settles later more rest) → Settles entries (puts ++ more) rest
settles_append entries puts more submits rest few then =
    let next = then (without_answered entries puts) few.owed in
    record {
      accepted = accepted_append puts more entries few.accepted next.accepted;
      owed = rw (answered_append puts more entries) next.owed;
    }

-- ---- one answer

pub submit_accepted : (entries : List Outstanding) (submit : Pending) (status : ℤ) (moved : List ℕ) → IsStatus status
    → IsOwed entries submit → length moved ≤ submit.head.length
    → (bytes : List ℕ) × down.SpellsAnswer entries (message_of (answer_of submit.head status moved)) bytes
submit_accepted entries submit status moved is owed fits = (
  ret_submit_bytes (head_of submit.head status moved) unused (returned submit.head.dir moved),
  (
    record { dir = submit.head.dir; size = submit.head.length },
    ap (λ (o : Option Outstanding). submit_of o) owed.found,
    submit_spelled submit.head status moved is owed.wide owed.sized fits,
  ),
)

pub one_settles : (entries : List Outstanding) (front : List Pending) (submit : Pending) (back : List Pending) (status : ℤ) (moved : List ℕ)
    → IsStatus status → length moved ≤ submit.head.length → AreOwed entries (front ++ submit ∷ back)
    → Settles entries (answer_of submit.head status moved ∷ []) (front ++ back)
one_settles entries front submit back status moved is fits owed = record {
  accepted = (submit_accepted entries submit status moved is (owed_at entries front submit back owed) fits, tt);
  owed = owed_answered entries front submit back owed;
}

pub unlink_settles : (entries : List Outstanding) (head : UnlinkHead) (status : ℤ) (submits : List Pending) → IsStatus status
    → head.seqnum < 2 ^ 32 → find head.seqnum entries ≡ Some (outstanding.Unlink head.seqnum) → Avoids head.seqnum submits
    → Avoids head.target submits → AreListed entries submits
    → ((n : ℕ) → Avoids n submits → NoneHas n (others head.target (others head.seqnum entries))) → Settles entries (unlink_answer head status ∷ []) submits
unlink_settles entries head status submits is wide found avoids gone listed covered = record {
  accepted = (
    (
      ret_unlink_bytes (record { seqnum = head.seqnum; status = status }) unused_unlink,
      (ap (λ (o : Option Outstanding). is_unlink o) found, unlink_spelled (record { seqnum = head.seqnum; status = status }) is wide),
    ),
    tt,
  );
  owed = record {
    listed = listed_others head.target (others head.seqnum entries) submits gone (listed_others head.seqnum entries submits avoids listed);
    covered = covered;
  };
}

-- ---- the answers to a queue

others_settle : (entries : List Outstanding) (front queue back : List Pending) (status : ℤ) → IsStatus status
    → AreOwed entries (front ++ (queue ++ back))
    → Settles entries (map (λ submit. answer_of submit.head status []) queue) (front ++ back)
others_settle entries front [] back status is owed = none_settles entries (front ++ back) owed
others_settle entries front (submit ∷ queue) back status is owed =
    settles_append entries (answer_of submit.head status [] ∷ []) (map (λ submit. answer_of submit.head status []) queue) (front ++ (queue ++ back)) (front ++ back)
    (one_settles entries front submit (queue ++ back) status [] is (omega arith) owed)
    (λ later rest. others_settle later front queue back status is rest)

pub queue_settles : (entries : List Outstanding) (front queue back : List Pending) (status : ℤ) → IsStatus status
    → AreOwed entries (front ++ (queue ++ back)) → Settles entries (all_ended status queue) (front ++ back)
queue_settles entries front [] back status is owed = none_settles entries (front ++ back) owed
queue_settles entries front (submit ∷ queue) back status is owed =
    settles_append entries (ended status submit ∷ []) (map (λ submit. answer_of submit.head status []) queue) (front ++ (queue ++ back)) (front ++ back)
    (one_settles entries front submit (queue ++ back) status submit.moved is (owed_at entries front submit (queue ++ back) owed).fits owed)
    (λ later rest. others_settle later front queue back status is rest)

-- a part-filled submit, where the first of a queue is one
part_settles_at : (entries : List Outstanding) (front : List Pending) (moved : List ℕ) (first : Pending) (queue back : List Pending)
    → AreOwed entries (front ++ (record first { moved = moved }) ∷ (queue ++ back))
    → Settles entries (part_answer ((record first { moved = moved }) ∷ queue)) (front ++ (without_part ((record first { moved = moved }) ∷ queue) ++ back))
part_settles_at entries front [] first queue back owed = none_settles entries _ owed
part_settles_at entries front (byte ∷ bytes) first queue back owed =
    let submit : Pending = record first { moved = byte ∷ bytes } in
    one_settles entries front submit (queue ++ back) success submit.moved success_is (owed_at entries front submit (queue ++ back) owed).fits owed

pub part_settles : (entries : List Outstanding) (front queue back : List Pending) → AreOwed entries (front ++ (queue ++ back))
    → Settles entries (part_answer queue) (front ++ (without_part queue ++ back))
part_settles entries front [] back owed = none_settles entries _ owed
part_settles entries front (first ∷ queue) back owed = part_settles_at entries front first.moved first queue back owed

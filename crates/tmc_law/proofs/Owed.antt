-- the answers to pending submits are owed, and nothing else is outstanding
use Rattle.std.proofs.Common.{◌≡◌, ℕ, ◌≤◌, List, [], ◌∷◌, ◌++◌, length, sym, ◌∙◌}
use Rattle.std.specs.Prelude.{Bool}
use Rattle.usbip_wire.specs.declared.dirs.Outstanding.{Outstanding}
use Rattle.usbip_wire.specs.Dirs.{others, number_of}
use Rattle.tmc_law.specs.State.{Pending, Avoids}
use Rattle.tmc_law.proofs.Outstanding.{NoneHas, none_more, none_left}
use Rattle.tmc_law.proofs.Owing.{asked_by, IsOwed, AreListed, avoids_without, avoids_at, avoids_with, listed_more, listed_others, listed_at, listed_answered, listed_with, listed_replaced}

pub record AreOwed (entries : List Outstanding) (submits : List Pending) : Type 0 where
  pub listed : AreListed entries submits
  pub covered : (n : ℕ) → Avoids n submits → NoneHas n entries

pub owed_at : (entries : List Outstanding) (front : List Pending) (submit : Pending) (back : List Pending)
    → AreOwed entries (front ++ submit ∷ back) → IsOwed entries submit
owed_at entries front submit back owed = listed_at entries front submit back owed.listed

-- an answered submit, and its entry, are gone
pub owed_answered : (entries : List Outstanding) (front : List Pending) (submit : Pending) (back : List Pending)
    → AreOwed entries (front ++ submit ∷ back) → AreOwed (others submit.head.seqnum entries) (front ++ back)
owed_answered entries front submit back owed = record {
  listed = listed_answered entries front submit back owed.listed;
  covered = λ n avoids. none_left n submit.head.seqnum entries (λ differs. owed.covered n (avoids_with n front submit back differs avoids));
}

-- a submit in the place of another with the same head
pub owed_replaced : (entries : List Outstanding) (front : List Pending) (submit : Pending) (moved left : List ℕ) (polled : Bool) (back : List Pending)
    → length moved ≤ submit.head.length → AreOwed entries (front ++ submit ∷ back)
    → AreOwed entries (front ++ (record { head = submit.head; left = left; moved = moved; polled = polled }) ∷ back)
owed_replaced entries front submit moved left polled back fits owed =
    let later : Pending = record { head = submit.head; left = left; moved = moved; polled = polled } in
    record {
      listed = listed_replaced entries front submit moved left polled back fits owed.listed;
      covered = λ n avoids. owed.covered n
          (avoids_with n front submit back (avoids_at n front later back avoids) (avoids_without n front later back avoids));
    }

-- a submit that came
pub owed_added : (entries : List Outstanding) (front : List Pending) (submit : Pending) (back : List Pending)
    → IsOwed (entries ++ asked_by submit.head ∷ []) submit → Avoids submit.head.seqnum (front ++ back) → AreOwed entries (front ++ back)
    → AreOwed (entries ++ asked_by submit.head ∷ []) (front ++ submit ∷ back)
owed_added entries front submit back one apart owed =
    let asked : Outstanding = asked_by submit.head in
    record {
      listed = listed_with (entries ++ asked ∷ []) front submit back one apart (listed_more entries (asked ∷ []) (front ++ back) owed.listed);
      covered = λ n avoids. none_more n entries asked (owed.covered n (avoids_without n front submit back avoids)) (avoids_at n front submit back avoids);
    }

-- one that came and was answered
pub owed_passed : (entries : List Outstanding) (asked : Outstanding) (seqnum : ℕ) (submits : List Pending) → number_of asked ≡ seqnum
    → Avoids seqnum submits → AreOwed entries submits → AreOwed (others seqnum (entries ++ asked ∷ [])) submits
owed_passed entries asked seqnum submits is apart owed = record {
  listed = listed_others seqnum (entries ++ asked ∷ []) submits apart (listed_more entries (asked ∷ []) submits owed.listed);
  covered = λ n avoids. none_left n seqnum (entries ++ asked ∷ [])
      (λ differs. none_more n entries asked (owed.covered n avoids) (λ e. differs (sym is ∙ e)));
}

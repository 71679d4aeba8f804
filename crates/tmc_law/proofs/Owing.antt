-- pending submits: each is outstanding, and no two have one number
use Rattle.std.proofs.Common.{◌≡◌, ℕ, ◌<◌, ◌≤◌, ◌^◌, List, [], ◌∷◌, ◌++◌, length, Some, None, sym, subst, ◌∙◌}
use Rattle.std.specs.Prelude.{◌≢◌, Bool}
use Rattle.usbip_wire.specs.declared.submit.SubmitHead.{SubmitHead}
use Rattle.usbip_wire.specs.declared.dirs.Outstanding.{Outstanding}
use Rattle.usbip_wire.specs.declared.dirs.Outstanding.TheVariants as outstanding
use Rattle.usbip_wire.specs.Dirs.{find, others}
use Rattle.tmc_law.specs.State.{Pending, Avoids}
use Rattle.tmc_law.proofs.Outstanding.{NoneHas, find_more, find_none, find_others}

abbrev pub asked_by : SubmitHead → Outstanding
asked_by head = outstanding.Submit head.seqnum head.dir head.length

-- a submit is outstanding, and has room for what it has
pub record IsOwed (entries : List Outstanding) (submit : Pending) : Type 0 where
  pub found : find submit.head.seqnum entries ≡ Some (asked_by submit.head)
  pub wide : submit.head.seqnum < 2 ^ 32
  pub sized : submit.head.length < 2 ^ 32
  pub fits : length submit.moved ≤ submit.head.length

abbrev pub AreListed : List Outstanding → List Pending → Type 0
AreListed entries [] = Unit {0}
AreListed entries (submit ∷ submits) = IsOwed entries submit × Avoids submit.head.seqnum submits × AreListed entries submits

-- ---- numbers

pub avoids_without : (n : ℕ) (front : List Pending) (submit : Pending) (back : List Pending) → Avoids n (front ++ submit ∷ back)
    → Avoids n (front ++ back)
avoids_without n [] submit back avoids = avoids.1
avoids_without n (first ∷ front) submit back avoids = (avoids.0, avoids_without n front submit back avoids.1)

pub avoids_at : (n : ℕ) (front : List Pending) (submit : Pending) (back : List Pending) → Avoids n (front ++ submit ∷ back)
    → submit.head.seqnum ≢ n
avoids_at n [] submit back avoids = avoids.0
avoids_at n (first ∷ front) submit back avoids = avoids_at n front submit back avoids.1

pub avoids_with : (n : ℕ) (front : List Pending) (submit : Pending) (back : List Pending) → submit.head.seqnum ≢ n → Avoids n (front ++ back)
    → Avoids n (front ++ submit ∷ back)
avoids_with n [] submit back differs avoids = (differs, avoids)
avoids_with n (first ∷ front) submit back differs avoids = (avoids.0, avoids_with n front submit back differs avoids.1)

-- ---- entries that come and go

pub listed_more : (entries more : List Outstanding) (submits : List Pending) → AreListed entries submits → AreListed (entries ++ more) submits
listed_more entries more [] owed = tt
listed_more entries more (submit ∷ submits) owed = (
  record {
    found = find_more submit.head.seqnum entries more (asked_by submit.head) owed.0.found;
    wide = owed.0.wide;
    sized = owed.0.sized;
    fits = owed.0.fits;
  },
  owed.1,
  listed_more entries more submits owed.2,
)

is_owed_others : (n : ℕ) (entries : List Outstanding) (submit : Pending) → submit.head.seqnum ≢ n → IsOwed entries submit
    → IsOwed (others n entries) submit
is_owed_others n entries submit differs owed = record {
  found = find_others submit.head.seqnum n entries differs ∙ owed.found;
  wide = owed.wide;
  sized = owed.sized;
  fits = owed.fits;
}

pub listed_others : (n : ℕ) (entries : List Outstanding) (submits : List Pending) → Avoids n submits → AreListed entries submits
    → AreListed (others n entries) submits
listed_others n entries [] avoids owed = tt
listed_others n entries (submit ∷ submits) avoids owed =
    (is_owed_others n entries submit avoids.0 owed.0, owed.1, listed_others n entries submits avoids.1 owed.2)

pub listed_apart : (n : ℕ) (entries : List Outstanding) (submits : List Pending) → NoneHas n entries → AreListed entries submits → Avoids n submits
listed_apart n entries [] none owed = tt
listed_apart n entries (submit ∷ submits) none owed =
    let differs : submit.head.seqnum ≢ n = λ e.
    let found : find n entries ≡ Some (asked_by submit.head) = subst (λ k. find k entries ≡ Some (asked_by submit.head)) e owed.0.found in
    let missing : find n entries ≡ None = find_none n entries none in
    cc in
    (differs, listed_apart n entries submits none owed.2)

-- ---- submits that come and go

pub listed_at : (entries : List Outstanding) (front : List Pending) (submit : Pending) (back : List Pending)
    → AreListed entries (front ++ submit ∷ back) → IsOwed entries submit
listed_at entries [] submit back owed = owed.0
listed_at entries (first ∷ front) submit back owed = listed_at entries front submit back owed.2

-- the others of the same
pub listed_rest : (entries : List Outstanding) (front : List Pending) (submit : Pending) (back : List Pending)
    → AreListed entries (front ++ submit ∷ back) → Avoids submit.head.seqnum (front ++ back)
listed_rest entries [] submit back owed = owed.1
listed_rest entries (first ∷ front) submit back owed =
    (λ e. avoids_at first.head.seqnum front submit back owed.1 (sym e), listed_rest entries front submit back owed.2)

pub listed_without : (entries : List Outstanding) (front : List Pending) (submit : Pending) (back : List Pending)
    → AreListed entries (front ++ submit ∷ back) → AreListed entries (front ++ back)
listed_without entries [] submit back owed = owed.2
listed_without entries (first ∷ front) submit back owed =
    (owed.0, avoids_without first.head.seqnum front submit back owed.1, listed_without entries front submit back owed.2)

-- an answered submit, and its entry, are gone
pub listed_answered : (entries : List Outstanding) (front : List Pending) (submit : Pending) (back : List Pending)
    → AreListed entries (front ++ submit ∷ back) → AreListed (others submit.head.seqnum entries) (front ++ back)
listed_answered entries front submit back owed =
    listed_others submit.head.seqnum entries (front ++ back) (listed_rest entries front submit back owed) (listed_without entries front submit back owed)

pub listed_with : (entries : List Outstanding) (front : List Pending) (submit : Pending) (back : List Pending)
    → IsOwed entries submit → Avoids submit.head.seqnum (front ++ back) → AreListed entries (front ++ back)
    → AreListed entries (front ++ submit ∷ back)
listed_with entries [] submit back one avoids owed = (one, avoids, owed)
listed_with entries (first ∷ front) submit back one avoids owed = (
  owed.0,
  avoids_with first.head.seqnum front submit back (λ e. avoids.0 (sym e)) owed.1,
  listed_with entries front submit back one avoids.1 owed.2,
)

-- a submit in the place of another with the same head
pub listed_replaced : (entries : List Outstanding) (front : List Pending) (submit : Pending) (moved left : List ℕ) (polled : Bool) (back : List Pending)
    → length moved ≤ submit.head.length → AreListed entries (front ++ submit ∷ back)
    → AreListed entries (front ++ (record { head = submit.head; left = left; moved = moved; polled = polled }) ∷ back)
listed_replaced entries front submit moved left polled back fits owed =
    let one = listed_at entries front submit back owed in
    listed_with entries front (record { head = submit.head; left = left; moved = moved; polled = polled }) back
    (record { found = one.found; wide = one.wide; sized = one.sized; fits = fits })
    (listed_rest entries front submit back owed) (listed_without entries front submit back owed)

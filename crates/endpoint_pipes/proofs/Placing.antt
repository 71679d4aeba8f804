-- the submit at a place of a queue
use Rattle.std.proofs.Common.{◌≡◌, ◌∙◌, ℕ, ◌+◌, ◌<◌, suc, zero, List, [], ◌∷◌, ◌++◌, length, take, drop, get_or, Option, Some, None, IsSome, refl, ap, sym, subst, inl, arith}
use Rattle.std.proofs.lemmas.List.{take-append-drop, drop_more, take_more, length-take-le, length-append, take_at, drop_at}
use Rattle.tmc_law.specs.Endpoint.{Endpoint, Control, BulkOut, BulkIn, InterruptIn}
use Rattle.tmc_law.specs.State.{Pending, Halted, Avoids}
use Rattle.endpoint_pipes.specs.declared.entry.Entry.{Entry}
use Rattle.endpoint_pipes.specs.Held.{Held, endpoint_of, list_of, all_of, IsPending}
use Rattle.endpoint_pipes.specs.Outcome.{first_of, HasRoom}
use Rattle.endpoint_pipes.specs.Keys.{Keys, keys_at}
use Rattle.endpoint_pipes.specs.Kept.{submit_of, entry_at, in_front, submits_of, held_of, IsThere, IsWhole, AreThere, IsSound, StandsAt}
use Rattle.endpoint_pipes.proofs.Counts.{avoids-append, pending-left, pending-right}
use Rattle.endpoint_pipes.proofs.Stored.{submits-append, there-left, there-right, length-submits}
use Rattle.endpoint_pipes.proofs.Changes.{list-held}

pub whole_there : (o : Option Entry) (entry : Entry) → o ≡ Some entry → IsThere o → IsWhole entry
whole_there o entry is there = subst (λ (v : Option Entry). IsThere v) is there

pub some_there : (o : Option Entry) → IsThere o → IsSome o
some_there None there = absurd there
some_there (Some entry) there = refl

pub split : (keys : List ℕ) (i key : ℕ) → i < length keys → key ≡ get_or keys i key → keys ≡ take i keys ++ key ∷ drop (suc i) keys
split keys i key within read =
    let next : i + 1 ≡ suc i = omega arith in
    sym (take-append-drop i keys) ∙ ap (λ (l : List ℕ). take i keys ++ l) (drop_more keys i key within ∙ ap (λ (k : ℕ). k ∷ drop (i + 1) keys) (sym read) ∙ ap (λ (m : ℕ). key ∷ drop m keys) next)

pub entry_there : (slots : List (Option Entry)) (keys : List ℕ) (i key : ℕ) → i < length keys → key ≡ get_or keys i key → AreThere slots keys → IsThere (entry_at slots key)
entry_there slots keys i key within read there =
    (there-right slots (take i keys) (key ∷ drop (suc i) keys) (subst (AreThere slots) (split keys i key within read) there)).0

pub submits_split : (slots : List (Option Entry)) (keys : List ℕ) (i key : ℕ) (entry : Entry) → i < length keys → key ≡ get_or keys i key → entry_at slots key ≡ Some entry
    → submits_of slots keys ≡ submits_of slots (take i keys) ++ submit_of entry ∷ submits_of slots (drop (suc i) keys)
submits_split slots keys i key entry within read is =
    ap (submits_of slots) (split keys i key within read) ∙ submits-append slots (take i keys) (key ∷ drop (suc i) keys)
    ∙ ap (λ (o : Option Entry). submits_of slots (take i keys) ++ in_front o (submits_of slots (drop (suc i) keys))) is

pub length_before : (slots : List (Option Entry)) (keys : List ℕ) (i : ℕ) → i < length keys → AreThere slots keys → length (submits_of slots (take i keys)) ≡ i
length_before slots keys i within there =
    length-submits slots (take i keys) (there-left slots (take i keys) (drop i keys) (subst (AreThere slots) (sym (take-append-drop i keys)) there))
    ∙ length-take-le i keys (omega (arith, within))

pub stands : (slots : List (Option Entry)) (keys : List ℕ) (i key : ℕ) (entry : Entry) (n : ℕ) → i < length keys → key ≡ get_or keys i key → entry_at slots key ≡ Some entry
    → entry.head.seqnum ≡ n → AreThere slots keys → StandsAt n (submits_of slots keys) i
stands slots keys i key entry n within read is number there = record {
  before = submits_of slots (take i keys);
  submit = submit_of entry;
  behind = submits_of slots (drop (suc i) keys);
  stands = submits_split slots keys i key entry within read is;
  at = length_before slots keys i within there;
  number = number;
}

pub next_avoided : (slots : List (Option Entry)) (keys : List ℕ) (i key n : ℕ) → i < length keys → key ≡ get_or keys i key → Avoids n (submits_of slots (take i keys))
    → Avoids n (in_front (entry_at slots key) []) → Avoids n (submits_of slots (take (i + 1) keys))
next_avoided slots keys i key n within read before here =
    subst (λ (l : List Pending). Avoids n l)
    (sym (ap (submits_of slots) (take_more keys i key within ∙ ap (λ (k : ℕ). take i keys ++ k ∷ []) (sym read)) ∙ submits-append slots (take i keys) (key ∷ [])))
    (avoids-append n (submits_of slots (take i keys)) (in_front (entry_at slots key) []) before here)

-- the list of an endpoint, where this is held
pub list_is : (slots : List (Option Entry)) (keys : Keys) (h : Halted) (held : Held) (e : Endpoint) → held_of slots keys h ≡ held → submits_of slots (keys_at e keys) ≡ list_of e held
list_is slots keys h held e view = sym (list-held slots keys h e) ∙ ap (list_of e) view

pub place_within : (slots : List (Option Entry)) (keys : Keys) (h : Halted) (held : Held) (e : Endpoint) (place : ℕ) → held_of slots keys h ≡ held → IsSound slots keys
    → place < length (list_of e held) → place < length (keys_at e keys)
place_within slots keys h held e place view sound within =
    let same : length (list_of e held) ≡ length (keys_at e keys) = sym (ap length (list_is slots keys h held e view)) ∙ length-submits slots (keys_at e keys) (sound.there e) in
    omega (arith, same, within)

-- a list has one element at a place, and one list on each side of it
pub same_split : (b before : List Pending) (x y : Pending) (a behind : List Pending) → b ++ x ∷ a ≡ before ++ y ∷ behind → length b ≡ length before
    → (b ≡ before) × (x ≡ y) × (a ≡ behind)
same_split b before x y a behind same long =
    let first : b ≡ before = sym (take_at b (x ∷ a) (length before) long) ∙ ap (take (length before)) same ∙ take_at before (y ∷ behind) (length before) refl in
    let rest : x ∷ a ≡ y ∷ behind = sym (drop_at b (x ∷ a) (length before) long) ∙ ap (drop (length before)) same ∙ drop_at before (y ∷ behind) (length before) refl in
    (first, ap (λ (l : List Pending). get_or l zero x) rest, ap (λ (l : List Pending). drop (suc zero) l) rest)

-- the list of an endpoint, from its first entry on
pub first_list : (slots : List (Option Entry)) (keys : Keys) (h : Halted) (held : Held) (e : Endpoint) (key : ℕ) (entry : Entry) → held_of slots keys h ≡ held
    → 0 < length (keys_at e keys) → key ≡ get_or (keys_at e keys) 0 key → entry_at slots key ≡ Some entry
    → list_of e held ≡ submit_of entry ∷ submits_of slots (drop 1 (keys_at e keys))
first_list slots keys h held e key entry view within read is =
    sym (list_is slots keys h held e view) ∙ submits_split slots (keys_at e keys) 0 key entry within read is

pub some_room : (n : ℕ) (list : List Pending) → HasRoom n (first_of list) → 0 < length list
some_room n [] there = absurd there
some_room n (first ∷ others) there = omega arith

pub some_first : (list : List Pending) → IsSome (first_of list) → 0 < length list
some_first [] there = absurd (cc)
some_first (first ∷ others) there = omega arith

pub stands_within : (n : ℕ) (list : List Pending) (place : ℕ) → StandsAt n list place → place < length list
stands_within n list place s =
    let long : length list ≡ length s.before + length (s.submit ∷ s.behind) = ap length s.stands ∙ length-append s.before (s.submit ∷ s.behind) in
    let at = s.at in omega (arith, long, at)

pub stands_pending : (n : ℕ) (list : List Pending) (place : ℕ) → StandsAt n list place → IsPending n list
stands_pending n list place s = subst (IsPending n) (sym s.stands) (pending-right n s.before (s.submit ∷ s.behind) (inl s.number))

pub pending_all : (n : ℕ) (held : Held) (e : Endpoint) → IsPending n (list_of e held) → IsPending n (all_of held)
pending_all n held Control there = pending-left n held.control (held.bulk_out ++ (held.bulk_in ++ held.interrupt_in)) there
pending_all n held BulkOut there =
    pending-right n held.control (held.bulk_out ++ (held.bulk_in ++ held.interrupt_in)) (pending-left n held.bulk_out (held.bulk_in ++ held.interrupt_in) there)
pending_all n held BulkIn there =
    pending-right n held.control (held.bulk_out ++ (held.bulk_in ++ held.interrupt_in))
    (pending-right n held.bulk_out (held.bulk_in ++ held.interrupt_in) (pending-left n held.bulk_in held.interrupt_in there))
pending_all n held InterruptIn there =
    pending-right n held.control (held.bulk_out ++ (held.bulk_in ++ held.interrupt_in))
    (pending-right n held.bulk_out (held.bulk_in ++ held.interrupt_in) (pending-right n held.bulk_in held.interrupt_in there))

pub avoids_all : (n : ℕ) (held : Held) → ((k : ℕ) → k < 4 → Avoids n (list_of (endpoint_of k) held)) → Avoids n (all_of held)
avoids_all n held each =
    avoids-append n held.control (held.bulk_out ++ (held.bulk_in ++ held.interrupt_in)) (each 0 (omega arith))
    (avoids-append n held.bulk_out (held.bulk_in ++ held.interrupt_in) (each 1 (omega arith))
    (avoids-append n held.bulk_in held.interrupt_in (each 2 (omega arith)) (each 3 (omega arith))))

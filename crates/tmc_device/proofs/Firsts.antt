-- the first submit of an endpoint, and its list
use Rattle.std.proofs.Common.{◌≡◌, ◌∙◌, ℕ, suc, ◌+◌, ◌<◌, false, List, [], ◌∷◌, ◌++◌, length, map, Some, IsSome, is_some, refl, ap, sym, append_assoc, arith}
use Rattle.tmc_law.specs.Endpoint.{Endpoint, Control, BulkOut, BulkIn, InterruptIn}
use Rattle.tmc_law.specs.State.{Pending}
use Rattle.tmc_law.specs.Put.{Put}
use Rattle.endpoint_pipes.specs.declared.outcome.Pending.{Pending as First}
use Rattle.endpoint_pipes.specs.Held.{Held, list_of, with_list}
use Rattle.endpoint_pipes.specs.Outcome.{first_of}

pub record IsFirst (list : List Pending) : Type 0 where
  pub submit : Pending
  pub behind : List Pending
  pub is : list ≡ submit ∷ behind

pub there : (list : List Pending) → IsSome (first_of list) → IsFirst list
there [] h = absurd (cc)
there (submit ∷ behind) h = record { submit = submit; behind = behind; is = refl }

pub record FirstIs (list : List Pending) (first : First) : Type 0 where
  pub submit : Pending
  pub behind : List Pending
  pub is : list ≡ submit ∷ behind
  pub value : first ≡ record { head = submit.head; moved = length submit.moved }

pub first_is : (list : List Pending) (first : First) → first_of list ≡ Some first → FirstIs list first
first_is [] first h = absurd (cc)
first_is (submit ∷ behind) first h = record { submit = submit; behind = behind; is = refl; value = cc }

pub with_own : (e : Endpoint) (held : Held) → with_list e (list_of e held) held ≡ held
with_own Control held = refl
with_own BulkOut held = refl
with_own BulkIn held = refl
with_own InterruptIn held = refl

pub with_twice : (e : Endpoint) (held : Held) (a b : List Pending) → with_list e a (with_list e b held) ≡ with_list e a held
with_twice Control held a b = refl
with_twice BulkOut held a b = refl
with_twice BulkIn held a b = refl
with_twice InterruptIn held a b = refl

pub list_with : (e : Endpoint) (held : Held) (a : List Pending) → list_of e (with_list e a held) ≡ a
list_with Control held a = refl
list_with BulkOut held a = refl
list_with BulkIn held a = refl
list_with InterruptIn held a = refl

-- where the first submit left, the others are left
pub others_left : (e : Endpoint) (held next : Held) (behind : List Pending) → next ≡ with_list e behind held → list_of e next ≡ behind
others_left e held next behind left = ap (list_of e) left ∙ list_with e held behind

-- a queue whose submits leave one by one
pub leaves_more : (e : Endpoint) (start held next : Held) (behind : List Pending) → held ≡ with_list e (list_of e held) start → next ≡ with_list e behind held
    → next ≡ with_list e (list_of e next) start
leaves_more e start held next behind before left =
    left ∙ ap (with_list e behind) before ∙ with_twice e start behind (list_of e held) ∙ ap (λ (l : List Pending). with_list e l start) (sym (others_left e held next behind left))

pub puts_more : (f : Pending → Put) (e : Endpoint) (held next : Held) (submit : Pending) (behind : List Pending) (puts later all : List Put) → list_of e held ≡ submit ∷ behind
    → next ≡ with_list e behind held → later ≡ puts ++ f submit ∷ [] → puts ++ map f (list_of e held) ≡ all → later ++ map f (list_of e next) ≡ all
puts_more f e held next submit behind puts later all is left put before =
    ap (λ (l : List Put). l ++ map f (list_of e next)) put
    ∙ append_assoc puts (f submit ∷ []) (map f (list_of e next))
    ∙ ap (λ (l : List Pending). puts ++ f submit ∷ map f l) (others_left e held next behind left)
    ∙ ap (λ (l : List Pending). puts ++ map f l) (sym is)
    ∙ before

pub room_more : (e : Endpoint) (held next : Held) (submit : Pending) (behind : List Pending) (room later start all : ℕ) → list_of e held ≡ submit ∷ behind
    → next ≡ with_list e behind held → later + 1 ≡ room → room + start ≡ all + length (list_of e held) → later + start ≡ all + length (list_of e next)
room_more e held next submit behind room later start all is left one before =
    let here : length (list_of e held) ≡ suc (length behind) = ap length is in
    let rest : length (list_of e next) ≡ length behind = ap length (others_left e held next behind left) in
    omega (arith, here, rest, one, before)

pub fewer : (e : Endpoint) (held next : Held) (submit : Pending) (behind : List Pending) → list_of e held ≡ submit ∷ behind → next ≡ with_list e behind held
    → length (list_of e next) < length (list_of e held)
fewer e held next submit behind is left =
    let here : length (list_of e held) ≡ suc (length behind) = ap length is in
    let rest : length (list_of e next) ≡ length behind = ap length (others_left e held next behind left) in
    omega (arith, here, rest)

pub none_there : (list : List Pending) → is_some (first_of list) ≡ false → list ≡ []
none_there [] h = refl
none_there (submit ∷ behind) h = absurd (cc)

-- the first of a kind, and what stands before a stop, in a list that grows at its end
use Rattle.std.proofs.Common.{◌≡◌, ℕ, Bool, true, false, not, ◌||◌, cond, List, [], ◌∷◌, ◌++◌, Option, Some, None, refl, sym, ap, ◌∙◌, append_assoc}
use Rattle.std.specs.Prelude.{option_map, find, take_while}
use Rattle.std.specs.List.{concat, list_any, AllByRecursion}
use Rattle.std.specs.Option.{option_or}
use Rattle.std.proofs.lemmas.List.{append-nil}
use Rattle.std.proofs.lemmas.List.Sums.{take_while-cons}
use Rattle.std.proofs.lemmas.List.Folds.{list_any-append}

pub or_false : (a b : Bool) → (a || b) ≡ false → (a ≡ false) × (b ≡ false)
or_false true b e = absurd cc
or_false false b e = (refl, e)

pub concat-push : (xs : List (List ℕ)) (d : List ℕ) → concat (xs ++ d ∷ []) ≡ concat xs ++ d
concat-push [] d = append-nil d
concat-push (x ∷ xs) d = ap (λ (t : List ℕ). x ++ t) (concat-push xs d) ∙ sym (append_assoc x (concat xs) d)

pub each-push : (P : List ℕ → Type 0) (xs : List (List ℕ)) (d : List ℕ) → AllByRecursion P xs → P d → AllByRecursion P (xs ++ d ∷ [])
each-push P [] d each here = (here, tt)
each-push P (x ∷ xs) d each here = (each.0, each-push P xs d each.1 here)

pub any-push : {X : Type 0} (p : X → Bool) (xs : List X) (d : X) (b : Bool) → list_any p xs ≡ false → p d ≡ b → list_any p (xs ++ d ∷ []) ≡ b
any-push p [] d true none here = rw here refl
any-push p [] d false none here = rw here refl
any-push p (x ∷ xs) d b none here =
    let n = or_false (p x) (list_any p xs) none in
    ap (λ (c : Bool). c || list_any p (xs ++ d ∷ [])) n.0 ∙ any-push p xs d b n.1 here

pub any-stays : {X : Type 0} (p : X → Bool) (xs : List X) (d : X) → list_any p xs ≡ true → list_any p (xs ++ d ∷ []) ≡ true
any-stays p xs d some = list_any-append p xs (d ∷ []) ∙ ap (λ (c : Bool). c || (p d || false)) some

-- what stands before the first stop
abbrev pub until : {X : Type 0} → (X → Bool) → List X → List X
until stop xs = take_while (λ x. not (stop x)) xs

stopped : {X : Type 0} (b : Bool) (x : X) → cond (not b) (x ∷ []) [] ≡ cond b [] (x ∷ [])
stopped true x = refl
stopped false x = refl

under : {X : Type 0} (b : Bool) (x d : X) (us : List X) → x ∷ cond b us (us ++ d ∷ []) ≡ cond b (x ∷ us) (x ∷ us ++ d ∷ [])
under true x d us = refl
under false x d us = refl

behind_one : {X : Type 0} (b s : Bool) (x d : X) (us vs : List X) → vs ≡ cond s us (us ++ d ∷ []) → cond (not b) (x ∷ vs) [] ≡ cond (b || s) (cond (not b) (x ∷ us) []) (cond (not b) (x ∷ us) [] ++ d ∷ [])
behind_one {X} true s x d us vs e = refl
behind_one {X} false s x d us vs e = ap (λ (ts : List X). x ∷ ts) e ∙ under s x d us

or_assoc : (a b c : Bool) → (a || (b || c)) ≡ ((a || b) || c)
or_assoc true b c = refl
or_assoc false b c = refl

until-push : {X : Type 0} (stop : X → Bool) (xs : List X) (d : X) → until stop (xs ++ d ∷ []) ≡ cond (list_any stop xs || stop d) (until stop xs) (until stop xs ++ d ∷ [])
until-push {X} stop [] d = take_while-cons (λ x. not (stop x)) d [] ∙ stopped (stop d) d
until-push {X} stop (x ∷ xs) d =
    let keep : X → Bool = λ x. not (stop x) in
    let now = take_while-cons keep x xs in
    take_while-cons keep x (xs ++ d ∷ [])
    ∙ behind_one (stop x) (list_any stop xs || stop d) x d (until stop xs) (until stop (xs ++ d ∷ [])) (until-push stop xs d)
    ∙ ap (λ (us : List X). cond (stop x || (list_any stop xs || stop d)) us (us ++ d ∷ [])) (sym now)
    ∙ ap (λ (b : Bool). cond b (until stop (x ∷ xs)) (until stop (x ∷ xs) ++ d ∷ [])) (or_assoc (stop x) (list_any stop xs) (stop d))

-- behind a stop nothing is added
pub until-push_behind : {X : Type 0} (stop : X → Bool) (xs : List X) (d : X) → list_any stop xs ≡ true → until stop (xs ++ d ∷ []) ≡ until stop xs
until-push_behind stop xs d some = until-push stop xs d ∙ ap (λ (b : Bool). cond (b || stop d) (until stop xs) (until stop xs ++ d ∷ [])) some

-- nor is the stop
pub until-push_stop : {X : Type 0} (stop : X → Bool) (xs : List X) (d : X) → list_any stop xs ≡ false → stop d ≡ true → until stop (xs ++ d ∷ []) ≡ until stop xs
until-push_stop stop xs d none here =
    until-push stop xs d
    ∙ ap (λ (b : Bool). cond (b || stop d) (until stop xs) (until stop xs ++ d ∷ [])) none
    ∙ ap (λ (b : Bool). cond b (until stop xs) (until stop xs ++ d ∷ [])) here

-- before it each element is
pub until-push_more : {X : Type 0} (stop : X → Bool) (xs : List X) (d : X) → list_any stop xs ≡ false → stop d ≡ false → until stop (xs ++ d ∷ []) ≡ until stop xs ++ d ∷ []
until-push_more stop xs d none here =
    until-push stop xs d
    ∙ ap (λ (b : Bool). cond (b || stop d) (until stop xs) (until stop xs ++ d ∷ [])) none
    ∙ ap (λ (b : Bool). cond b (until stop xs) (until stop xs ++ d ∷ [])) here

map_one : {X Y : Type 0} (b : Bool) (f : X → Y) (d : X) → option_map f (cond b (Some d) None) ≡ cond b (Some (f d)) None
map_one true f d = refl
map_one false f d = refl

map_cond : {X Y : Type 0} (b : Bool) (f : X → Y) (x : X) (o q : Option X) (r : Option Y) → option_map f q ≡ option_or (option_map f o) r → option_map f (cond b (Some x) q) ≡ option_or (option_map f (cond b (Some x) o)) r
map_cond true f x o q r e = refl
map_cond false f x o q r e = e

-- the first of a kind in a longer list
pub find-push : {X Y : Type 0} (p : X → Bool) (f : X → Y) (xs : List X) (d : X) → option_map f (find p (xs ++ d ∷ [])) ≡ option_or (option_map f (find p xs)) (cond (p d) (Some (f d)) None)
find-push p f [] d = map_one (p d) f d
find-push p f (x ∷ xs) d = map_cond (p x) f x (find p xs) (find p (xs ++ d ∷ [])) (cond (p d) (Some (f d)) None) (find-push p f xs d)

-- a list has one first element that passes a test
pub one_first : {X : Type 0} (p : X → Bool) (a b : List X) (x y : X) (us vs : List X) → list_any p a ≡ false → list_any p b ≡ false → p x ≡ true → p y ≡ true → a ++ x ∷ us ≡ b ++ y ∷ vs → (x ≡ y) × (us ≡ vs)
one_first p [] [] x y us vs none-a none-b is-x is-y e = (cc, cc)
one_first p [] (c ∷ b) x y us vs none-a none-b is-x is-y e =
    let same : x ≡ c = cc in
    let here = or_false (p c) (list_any p b) none-b in
    absurd (let clash : true ≡ false = sym is-x ∙ ap p same ∙ here.0 in cc)
one_first p (c ∷ a) [] x y us vs none-a none-b is-x is-y e =
    let same : c ≡ y = cc in
    let here = or_false (p c) (list_any p a) none-a in
    absurd (let clash : true ≡ false = sym is-y ∙ sym (ap p same) ∙ here.0 in cc)
one_first p (c ∷ a) (d ∷ b) x y us vs none-a none-b is-x is-y e =
    let rest : a ++ x ∷ us ≡ b ++ y ∷ vs = cc in
    one_first p a b x y us vs (or_false (p c) (list_any p a) none-a).1 (or_false (p d) (list_any p b) none-b).1 is-x is-y rest

-- where none passes there is no first
pub no_first : {X : Type 0} (p : X → Bool) (a : List X) (x : X) (us : List X) → p x ≡ true → list_any p (a ++ x ∷ us) ≡ false → ⊥
no_first p [] x us is none = let clash : true ≡ false = sym is ∙ (or_false (p x) (list_any p us) none).0 in cc
no_first p (c ∷ a) x us is none = no_first p a x us is (or_false (p c) (list_any p (a ++ x ∷ us)) none).1

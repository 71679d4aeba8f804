-- the words of a command name it alone
use Rattle.std.proofs.Common.{◌≡◌, ⊎_elim, ℕ, ◌<◌, ◌≤◌, List, [], ◌∷◌, length, Bool, true, map, get_or, Some, refl, sym, ap, ◌∙◌, subst, arith}
use Rattle.std.proofs.lemmas.Fmt.{decimal_injective}
use Rattle.std.proofs.lemmas.Slice.Eq.{bytes_eq-Decides}
use Rattle.std.specs.Str.{bytes_eq}
use Rattle.usbip_wire.specs.declared.urb.Dir.{Dir}
use Rattle.usbip_wire.specs.declared.urb.Dir.TheVariants.{Out, In}
use Rattle.tmc_tool.specs.declared.command.Command.{Command}
use Rattle.tmc_tool.specs.declared.command.Command.TheVariants.{Ask, Replay, Show}
use Rattle.tmc_tool.specs.Command.{way_word, Names, IsLimit, IsLimitWord}

-- a list of one element, and of two
pub map-one : {A : Type 0} (f : A → List ℕ) (xs : List A) (x : A) → 1 ≤ length xs → length xs < 2 → x ≡ get_or xs 0 x → map f xs ≡ f x ∷ []
map-one f [] x some few e = absurd (omega (arith, some))
map-one f (y ∷ []) x some few e = ap (λ z. f z ∷ []) (sym e)
map-one f (y ∷ z ∷ zs) x some few e = absurd (omega (arith, few))

pub map-two : {A : Type 0} (f : A → List ℕ) (xs : List A) (x y : A) → 2 ≤ length xs → length xs < 3 → x ≡ get_or xs 0 x → y ≡ get_or xs 1 y
    → map f xs ≡ f x ∷ f y ∷ []
map-two f [] x y some few e d = absurd (omega (arith, some))
map-two f (u ∷ []) x y some few e d = absurd (omega (arith, some))
map-two f (u ∷ v ∷ []) x y some few e d = ap (λ z. f z ∷ f v ∷ []) (sym e) ∙ ap (λ z. f x ∷ f z ∷ []) (sym d)
map-two f (u ∷ v ∷ w ∷ ws) x y some few e d = absurd (omega (arith, few))

first_same : {x y : List ℕ} {xs ys : List (List ℕ)} → x ∷ xs ≡ y ∷ ys → x ≡ y
first_same e = cc

second_same : {x y a b : List ℕ} → x ∷ a ∷ [] ≡ y ∷ b ∷ [] → a ≡ b
second_same e = cc

same_way : (way other : Dir) → way_word way ≡ way_word other → way ≡ other
same_way Out Out e = refl
same_way Out In e = absurd (omega (arith, ap length e))
same_way In Out e = absurd (omega (arith, ap length e))
same_way In In e = refl

pub same_limit : (limit other : ℕ) (word : List ℕ) → IsLimitWord limit word → IsLimitWord other word → limit ≡ other
same_limit limit other word first second =
    decimal_injective limit other (omega (arith, first.is.1)) (omega (arith, second.is.1)) (sym first.written ∙ second.written)

other_count : {x y z : List ℕ} → x ∷ [] ≡ y ∷ z ∷ [] → ⊥
other_count e = omega (arith, ap length e)

-- words name one command
pub same_command : (words : List (List ℕ)) (command other : Command) → Names words command → Names words other → command ≡ other
same_command words (Ask limit) (Ask second) first then =
    ⊎_elim
    (λ f. ⊎_elim (λ t. ap Ask (f.1 ∙ sym t.1)) (λ t. absurd (other_count (sym f.0 ∙ t.1))) then)
    (λ f. ⊎_elim
    (λ t. absurd (other_count (sym t.0 ∙ f.1)))
    (λ t. ap Ask (same_limit limit second f.0 f.2 (subst (λ w. IsLimitWord second w) (sym (second_same (sym f.1 ∙ t.1))) t.2)))
    then)
    first
same_command words (Ask limit) Replay first then =
    absurd (⊎_elim (λ f. omega (arith, ap length (first_same (sym f.0 ∙ then)))) (λ f. other_count (sym then ∙ f.1)) first)
same_command words (Ask limit) (Show way) first then =
    absurd (⊎_elim (λ f. other_count (sym f.0 ∙ then)) (λ f. omega (arith, ap length (first_same (sym f.1 ∙ then)))) first)
same_command words Replay (Ask limit) first then =
    absurd (⊎_elim (λ t. omega (arith, ap length (first_same (sym first ∙ t.0)))) (λ t. other_count (sym first ∙ t.1)) then)
same_command words Replay Replay first then = refl
same_command words Replay (Show way) first then = absurd (other_count (sym first ∙ then))
same_command words (Show way) (Ask limit) first then =
    absurd (⊎_elim (λ t. other_count (sym t.0 ∙ first)) (λ t. omega (arith, ap length (first_same (sym first ∙ t.1)))) then)
same_command words (Show way) Replay first then = absurd (other_count (sym then ∙ first))
same_command words (Show way) (Show other) first then = ap Show (same_way way other (second_same (sym first ∙ then)))

-- a word is the text that it was found equal to
pub is_text : (word read text : List ℕ) (result : Bool) → read ≡ word → result ≡ bytes_eq read text → result ≡ true → word ≡ text
is_text word read text result same test holds = sym same ∙ (bytes_eq-Decides read text).0 (sym test ∙ holds)

some_same : {x y : Command} → Some x ≡ Some y → x ≡ y
some_same e = cc

-- the words of a command are no other's
pub named_alone : (words : List (List ℕ)) (named command : Command) → Names words named
    → (Some named ≡ Some command → Names words command) × (Names words command → Some named ≡ Some command)
named_alone words named command names =
    (λ some. subst (λ c. Names words c) (some_same some) names, λ other. ap Some (same_command words named command names other))

-- a limit that words name is one
pub has_limit : (words : List (List ℕ)) (limit : ℕ) → Names words (Ask limit) → IsLimit limit
has_limit words limit names = ⊎_elim (λ unnamed. (omega (arith, unnamed.1), omega (arith, unnamed.1))) (λ named. named.2.is) names

-- the words of `serve`
use Rattle.std.proofs.Common.{◌≡◌, ℕ, ◌<◌, ◌≤◌, List, [], ◌∷◌, length, Bool, true, map, get_or, codes, refl, sym, ap, ◌∙◌, arith}
use Rattle.std.proofs.lemmas.Slice.Eq.{bytes_eq-Decides}
use Rattle.std.specs.Fmt.{decimal}
use Rattle.std.specs.Str.{bytes_eq}
use Rattle.tmc_live.specs.Command.{IsCount, Asks}

-- a list of three elements
pub map-three : {A : Type 0} (f : A → List ℕ) (xs : List A) (x y z : A) → 3 ≤ length xs → length xs < 4
    → x ≡ get_or xs 0 x → y ≡ get_or xs 1 y → z ≡ get_or xs 2 z → map f xs ≡ f x ∷ f y ∷ f z ∷ []
map-three f [] x y z some few e d h = absurd (omega (arith, some))
map-three f (u ∷ []) x y z some few e d h = absurd (omega (arith, some))
map-three f (u ∷ v ∷ []) x y z some few e d h = absurd (omega (arith, some))
map-three f (u ∷ v ∷ w ∷ []) x y z some few e d h =
    ap (λ a. f a ∷ f v ∷ f w ∷ []) (sym e) ∙ (ap (λ a. f x ∷ f a ∷ f w ∷ []) (sym d) ∙ ap (λ a. f x ∷ f y ∷ f a ∷ []) (sym h))
map-three f (u ∷ v ∷ w ∷ a ∷ more) x y z some few e d h = absurd (omega (arith, few))

-- a word is the text that it was found equal to
pub is_text : (word read text : List ℕ) (result : Bool) → read ≡ word → result ≡ bytes_eq read text → result ≡ true → word ≡ text
is_text word read text result same test holds = sym same ∙ (bytes_eq-Decides read text).0 (sym test ∙ holds)

pub asks : (words : List (List ℕ)) (word second third address number : List ℕ) (count : ℕ)
    → words ≡ word ∷ second ∷ third ∷ [] → word ≡ codes "serve" → address ≡ second → number ≡ third → IsCount number count → Asks words address count
asks words word second third address number count e serve at read is = record {
  spelled =
      e ∙ (ap (λ w. w ∷ second ∷ third ∷ []) serve
      ∙ (ap (λ w. codes "serve" ∷ w ∷ third ∷ []) (sym at) ∙ ap (λ w. codes "serve" ∷ address ∷ w ∷ []) (sym read ∙ is.spelled)));
  some = is.some;
  few = is.few;
}

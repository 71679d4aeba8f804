-- Sets of words as rows of tokens, by which a proof tells them apart: each token stands behind the sets that it joins.
use Rattle.std.specs.Prelude.{◌≡◌, List, [], ◌∷◌, ◌++◌}
use Rattle.std.specs.Coded.{Coded, code_by, coded_list}
use Rattle.std.proofs.Common.{refl, ◌∙◌, ap}
use Rattle.host_recover.specs.Letter.{Letter}
use Rattle.host_recover.specs.Words.{Words, Empty, One, ◌then◌, ◌or◌, Many}

pub data Token : Type 0 where
  Nothing : Token
  Just : (letter : Letter) → Token
  Then : Token
  Either : Token
  Repeated : Token

abbrev pub tokens_of : Words → List Token
tokens_of Empty = Nothing ∷ []
tokens_of (One letter) = Just letter ∷ []
tokens_of (first then second) = tokens_of first ++ (tokens_of second ++ Then ∷ [])
tokens_of (one or other) = tokens_of one ++ (tokens_of other ++ Either ∷ [])
tokens_of (Many words) = tokens_of words ++ Repeated ∷ []

-- what a token makes of the sets before it, the last one first
abbrev pub joined : Token → List Words → List Words
joined Nothing sets = Empty ∷ sets
joined (Just letter) sets = One letter ∷ sets
joined Then (second ∷ (first ∷ sets)) = (first then second) ∷ sets
joined Either (other ∷ (one ∷ sets)) = (one or other) ∷ sets
joined Repeated (words ∷ sets) = Many words ∷ sets
joined token sets = sets

abbrev pub read_behind : List Words → List Token → List Words
read_behind sets [] = sets
read_behind sets (token ∷ tokens) = read_behind (joined token sets) tokens

abbrev pub top_of : List Words → Words
top_of [] = Empty
top_of (words ∷ sets) = words

abbrev pub words_from : List Token → Words
words_from tokens = top_of (read_behind [] tokens)

pub read_join : (sets : List Words) (a b : List Token) → read_behind sets (a ++ b) ≡ read_behind (read_behind sets a) b
read_join sets [] b = refl
read_join sets (token ∷ a) b = read_join (joined token sets) a b

pub reads_back : (words : Words) (sets : List Words) → read_behind sets (tokens_of words) ≡ words ∷ sets
reads_back Empty sets = refl
reads_back (One letter) sets = refl
reads_back (first then second) sets =
    read_join sets (tokens_of first) (tokens_of second ++ Then ∷ [])
    ∙ (ap (λ (s : List Words). read_behind s (tokens_of second ++ Then ∷ [])) (reads_back first sets)
    ∙ (read_join (first ∷ sets) (tokens_of second) (Then ∷ []) ∙ ap (λ (s : List Words). read_behind s (Then ∷ [])) (reads_back second (first ∷ sets))))
reads_back (one or other) sets =
    read_join sets (tokens_of one) (tokens_of other ++ Either ∷ [])
    ∙ (ap (λ (s : List Words). read_behind s (tokens_of other ++ Either ∷ [])) (reads_back one sets)
    ∙ (read_join (one ∷ sets) (tokens_of other) (Either ∷ []) ∙ ap (λ (s : List Words). read_behind s (Either ∷ [])) (reads_back other (one ∷ sets))))
reads_back (Many words) sets =
    read_join sets (tokens_of words) (Repeated ∷ []) ∙ ap (λ (s : List Words). read_behind s (Repeated ∷ [])) (reads_back words sets)

abbrev pub words_code : Coded Token → Coded Words
words_code code = code_by (List Token) (coded_list code) tokens_of words_from (λ words. ap top_of (reads_back words []))

-- the lines and the links of connections, with one connection more
use Rattle.std.proofs.Common.{◌≡◌, ℕ, ◌+◌, List, [], ◌∷◌, ◌++◌, length, map, Option, Some, None, refl, sym, ap, ◌∙◌, append_assoc, arith}
use Rattle.tmc_base.specs.Sink.{PutsFront, put_after}
use Rattle.usbip_export.specs.declared.serving.ServeEnd.{ServeEnd}
use Rattle.tmc_live.specs.Line.{connection_line, lines_from}
use Rattle.tmc_live.specs.Net.{back_after}
use Rattle.tmc_live.specs.Live.{Connection, backs_after, lines_of}

append_none : {A : Type 0} (xs : List A) → xs ++ [] ≡ xs
append_none [] = refl
append_none (x ∷ xs) = ap (λ ys. x ∷ ys) (append_none xs)

pub map_more : {A B : Type 0} (f : A → B) (xs : List A) (x : A) → map f (xs ++ x ∷ []) ≡ map f xs ++ f x ∷ []
map_more f [] x = refl
map_more f (y ∷ ys) x = ap (λ zs. f y ∷ zs) (map_more f ys x)

pub length_map : {A B : Type 0} (f : A → B) (xs : List A) → length (map f xs) ≡ length xs
length_map f [] = refl
length_map f (x ∷ xs) = omega (arith, length_map f xs)

pub length_more : {A : Type 0} (xs : List A) (x : A) → length (xs ++ x ∷ []) ≡ length xs + 1
length_more [] x = refl
length_more (y ∷ ys) x = omega (arith, length_more ys x)

lines_behind : (number : ℕ) (ends : List ServeEnd) (end : ServeEnd) (last : ℕ) → last ≡ length ends + number
    → lines_from number (ends ++ end ∷ []) ≡ lines_from number ends ++ connection_line last end
lines_behind number [] end last e =
    let same : number ≡ last = omega (arith, e) in append_none (connection_line number end) ∙ ap (λ n. connection_line n end) same
lines_behind number (first ∷ ends) end last e =
    ap (λ ls. connection_line number first ++ ls) (lines_behind (number + 1) ends end last (omega (arith, e)))
    ∙ sym (append_assoc (connection_line number first) (lines_from (number + 1) ends) (connection_line last end))

pub lines_more : {L : Type 0} (done : List (Connection L)) (one : Connection L)
    → lines_of (done ++ one ∷ []) ≡ lines_of done ++ connection_line (length done + 1) one.end
lines_more {L} done one =
    ap (lines_from 1) (map_more (λ (o : Connection L). o.end) done one)
    ∙ lines_behind 1 (map (λ (o : Connection L). o.end) done) one.end (length done + 1) (omega (arith, length_map (λ (o : Connection L). o.end) done))

pub put_again : (first second : List ℕ) (put : Option (List ℕ)) → put_after second (put_after first put) ≡ put_after (first ++ second) put
put_again first second None = refl
put_again first second (Some before) = ap (λ t. Some t) (append_assoc before first second)

pub back_more : {L : Type 0} (done : List (Connection L)) (one : Connection L) (back : Option (List L))
    → back_after one.after (backs_after done back) ≡ backs_after (done ++ one ∷ []) back
back_more done one None = refl
back_more {L} done one (Some before) =
    ap (λ t. Some t) (append_assoc before (map (λ (o : Connection L). o.after) done) (one.after ∷ [])
    ∙ ap (λ links. before ++ links) (sym (map_more (λ (o : Connection L). o.after) done one)))

pub back_none : {L : Type 0} (back : Option (List L)) → back ≡ backs_after [] back
back_none None = refl
back_none (Some before) = ap (λ t. Some t) (sym (append_none before))

pub put_none : (put : Option (List ℕ)) → put ≡ put_after [] put
put_none None = refl
put_none (Some before) = ap (λ t. Some t) (sym (append_none before))

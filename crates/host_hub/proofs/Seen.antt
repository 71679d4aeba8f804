-- the tickets that are seen are those that are kept
use Rattle.std.proofs.Common.{◌≡◌, ℕ, ◌-◌, zero, suc, true, false, nat_lt, List, [], ◌∷◌, length, Some, None, refl, sym, subst, ◌∙◌, arith, ap}
use Rattle.std.specs.Prelude.{◌==◌, slice_get, get_or}
use Rattle.std.proofs.lemmas.Bool.{ltb-true, ltb-false}
use Rattle.std.proofs.lemmas.Option.{slice_get-get_or, slice_get_past}
use Rattle.host_hub.specs.declared.ticket.Ticket.{Ticket}
use Rattle.host_hub.specs.BookSeen.{BookSeen, Seen, seen_of, all_seen, ticket_of}

pub seen_count : (tickets : List Ticket) → length (all_seen tickets) ≡ length tickets
seen_count [] = refl
seen_count (x ∷ xs) = omega (arith, seen_count xs)

pub seen_at : (tickets : List Ticket) (i : ℕ) (ticket : Ticket) → slice_get tickets i ≡ Some ticket → slice_get (all_seen tickets) i ≡ Some (seen_of ticket)
seen_at [] i ticket e = cc
seen_at (x ∷ xs) zero ticket e = ap Some (same e)
  where
    same : Some x ≡ Some ticket → seen_of x ≡ seen_of ticket
    same h = let k : x ≡ ticket = cc in ap seen_of k
seen_at (x ∷ xs) (suc i) ticket e = seen_at xs i ticket e

pub seen_past : (tickets : List Ticket) (i : ℕ) → slice_get tickets i ≡ None → slice_get (all_seen tickets) i ≡ None
seen_past [] i e = refl
seen_past (x ∷ xs) zero e = cc
seen_past (x ∷ xs) (suc i) e = seen_past xs i e

pub ticket_there : (kept : List Ticket) (book : BookSeen) (xs : List Ticket) (n : ℕ) (x d : Ticket) → all_seen kept ≡ book.tickets → xs ≡ kept → (n == 0) ≡ false
    → true ≡ nat_lt (n - 1) (length xs) → x ≡ get_or xs (n - 1) d → ticket_of n book.tickets ≡ Some (seen_of x)
ticket_there kept book xs n x d same is other within e =
    subst (λ (l : List Seen). ticket_of n l ≡ Some (seen_of x)) same
    (subst (λ (l : List Ticket). ticket_of n (all_seen l) ≡ Some (seen_of x)) is
    (rw other (seen_at xs (n - 1) x (slice_get-get_or xs (n - 1) d (ltb-true (n - 1) (length xs) (sym within)) ∙ ap Some (sym e)))))

pub ticket_none : (kept : List Ticket) (book : BookSeen) (xs : List Ticket) (n : ℕ) → all_seen kept ≡ book.tickets → xs ≡ kept → (n == 0) ≡ false
    → false ≡ nat_lt (n - 1) (length xs) → ticket_of n book.tickets ≡ None
ticket_none kept book xs n same is other past =
    subst (λ (l : List Seen). ticket_of n l ≡ None) same
    (subst (λ (l : List Ticket). ticket_of n (all_seen l) ≡ None) is
    (rw other (seen_past xs (n - 1) (slice_get_past xs (n - 1) (ltb-false (n - 1) (length xs) (sym past))))))

pub tickets_count : (kept : List Ticket) (book : BookSeen) (n : ℕ) → all_seen kept ≡ book.tickets → n ≡ length kept → n ≡ length book.tickets
tickets_count kept book n same e = e ∙ (sym (seen_count kept) ∙ ap (λ (l : List Seen). length l) same)

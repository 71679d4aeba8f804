-- a submit is written: what a hub's fields say of its record then
use Rattle.std.proofs.Common.{◌≡◌, ◌≤◌, ℕ, ◌+◌, ◌-◌, zero, suc, Bool, true, false, List, [], ◌∷◌, ◌++◌, length, Some, refl, sym, subst, ◌∙◌, ap, arith}
use Rattle.std.specs.Prelude.{◌==◌, slice_get, slice_set}
use Rattle.std.proofs.lemmas.Bool.{eqb-true, eqb-false}
use Rattle.std.proofs.Math.Seq.{take-nil}
use Rattle.tmc_wire.specs.HeaderFault.{TransferSize}
use Rattle.host_transfers.specs.Piece.{data_of}
use Rattle.host_urbs.specs.Held.{Held, Follows}
use Rattle.host_urbs.specs.Record as urbs
use Rattle.host_hub.specs.declared.hub_core.HubCore.{HubCore}
use Rattle.host_hub.specs.declared.hub_core.Phase.{Phase}
use Rattle.host_transfers.specs.Assembly as assembly
use Rattle.host_hub.specs.BookSeen.{BookSeen, Seen, ticket_of}
use Rattle.host_hub.specs.BookChanges.{with_seen}
use Rattle.host_hub.specs.Noted.{Noted}
use Rattle.host_hub.specs.Order.{Order, Part, Request, Trigger, Read, Listen, Class, ClearHalt, Unlink, Setting, message_of}
use Rattle.host_hub.specs.Record.{Past, next}
use Rattle.host_hub.specs.Crossings.{crossings}
use Rattle.host_hub.specs.Hand.{is_begun, start}
use Rattle.host_hub.specs.Book.{active}
use Rattle.host_hub.specs.Pieces.{Piece, data_in, opened, pieces}
use Rattle.host_hub.specs.Plan.{ended_at, tag_of}
use Rattle.host_hub.specs.Shown.{ShowsBook, ShowsTicket}
use Rattle.host_hub.specs.Steps.{wrote}
use Rattle.host_hub.specs.Knows.{Knows}
use Rattle.host_hub.proofs.Lists.{differ, own}
use Rattle.host_hub.specs.BookRoom.{first_open_from, open_from, opens}
use Rattle.host_hub.proofs.Knowing.{anew_opens, each_set, known_first, set_length, some_number, no_number}

-- ---- the bytes of a ticket stay

none_of : data_of [] ≡ []
none_of = take-nil (TransferSize [])

append_none : (xs : List ℕ) → xs ++ [] ≡ xs
append_none [] = refl
append_none (x ∷ xs) = ap (λ (l : List ℕ). x ∷ l) (append_none xs)

data_opened : (n : ℕ) (order : Order) (ps : List Piece) → data_in (opened n order ps) ≡ data_in ps
data_opened n (Request tag size) ps = ap (λ (l : List ℕ). data_in ps ++ l) none_of ∙ append_none (data_in ps)
data_opened n Read [] = refl
data_opened n Read (p ∷ ps) = refl
data_opened n (Part tag text eom) ps = refl
data_opened n (Trigger tag) ps = refl
data_opened n Listen ps = refl
data_opened n (Class request) ps = refl
data_opened n (ClearHalt endpoint) ps = refl
data_opened n (Unlink target) ps = refl

-- ---- the book

shown_other : (s : Setting) (past : Past) (t u : ℕ) (order : Order) (one : Seen) → (t ≡ u → ⊥) → ShowsTicket past u one → ShowsTicket (wrote s past t order) u one
shown_other s past t u order one apart h = record {
  asking = h.asking;
  last = rw (differ t u apart) h.last;
  bytes = rw (differ t u apart) h.bytes;
  outcome = h.outcome;
}

shown_mine : (s : Setting) (past : Past) (t : ℕ) (order : Order) (one : Seen) → ShowsTicket past t one
    → ShowsTicket (wrote s past t order) t (record one { last = ended_at (next s.first past) order one.last })
shown_mine s past t order one h = record {
  asking = h.asking;
  last = rw (own t) (ap (λ (n : ℕ). ended_at (next s.first past) order n) h.last);
  bytes = rw (own t) (h.bytes ∙ sym (data_opened (next s.first past) order (pieces t past)));
  outcome = h.outcome;
}

pub book_wrote : (s : Setting) (past : Past) (shown : BookSeen) (t : ℕ) (order : Order) (seen : Seen) → 1 ≤ t → ticket_of t shown.tickets ≡ Some seen → ShowsBook s past shown
    → ShowsBook s (wrote s past t order) (with_seen t (record seen { last = ended_at (next s.first past) order seen.last }) shown)
book_wrote s past shown t order seen first found h = record {
  count = set_length shown.tickets (t - 1) (record seen { last = ended_at (next s.first past) order seen.last }) ∙ h.count;
  each = each_set (wrote s past t order) shown.tickets t (record seen { last = ended_at (next s.first past) order seen.last }) first
      (shown_mine s past t order seen (h.each t seen found)) (λ u one apart e. shown_other s past t u order one apart (h.each u one e));
  entries = h.entries;
  service = h.service;
}

-- ---- the starts

start_same : (s : Setting) (past : Past) (t u : ℕ) (order : Order) → is_begun t past ≡ true → start u (wrote s past t order) ≡ start u past
start_same s past t u order begun = step (t == u) refl
  where
    step : (b : Bool) → (t == u) ≡ b → start u (wrote s past t order) ≡ start u past
    step true e = let here : is_begun u past ≡ true = subst (λ (n : ℕ). is_begun n past ≡ true) (eqb-true t u e) begun in rw e (rw here refl)
    step false e = rw e refl

start_other : (s : Setting) (past : Past) (t u : ℕ) (order : Order) → (t ≡ u → ⊥) → start u (wrote s past t order) ≡ start u past
start_other s past t u order apart = rw (differ t u apart) refl

start_first : (s : Setting) (past : Past) (t : ℕ) (order : Order) → is_begun t past ≡ false → start t (wrote s past t order) ≡ next s.first past
start_first s past t order new = rw (own t) (rw new refl)

pub Starts : Past → List ℕ → Type 0
Starts past xs = (t n : ℕ) → slice_get xs t ≡ Some n → n ≡ start (t + 1) past

pub starts_begun : (s : Setting) (past : Past) (t : ℕ) (order : Order) (xs : List ℕ) → is_begun t past ≡ true → ((u n : ℕ) → slice_get xs u ≡ Some n → n ≡ start (u + 1) past)
    → (u n : ℕ) → slice_get xs u ≡ Some n → n ≡ start (u + 1) (wrote s past t order)
starts_begun s past t order xs begun h u n e = h u n e ∙ sym (start_same s past t (u + 1) order begun)

same_get : (xs : List ℕ) (i x n : ℕ) → slice_get (slice_set xs i x) i ≡ Some n → x ≡ n
same_get [] i x n e = no_number n e
same_get (y ∷ ys) zero x n e = some_number x n e
same_get (y ∷ ys) (suc i) x n e = same_get ys i x n e

other_get : (xs : List ℕ) (i j x : ℕ) → (i ≡ j → ⊥) → slice_get (slice_set xs i x) j ≡ slice_get xs j
other_get [] i j x h = refl
other_get (y ∷ ys) zero zero x h = absurd (h refl)
other_get (y ∷ ys) zero (suc j) x h = refl
other_get (y ∷ ys) (suc i) zero x h = refl
other_get (y ∷ ys) (suc i) (suc j) x h = other_get ys i j x (λ e. h (ap suc e))

pub numbers_set : (xs : List ℕ) (i x : ℕ) → length (slice_set xs i x) ≡ length xs
numbers_set [] i x = refl
numbers_set (y ∷ ys) zero x = refl
numbers_set (y ∷ ys) (suc i) x = ap suc (numbers_set ys i x)

pub starts_first : (s : Setting) (past : Past) (t : ℕ) (order : Order) (xs : List ℕ) → 1 ≤ t → is_begun t past ≡ false
    → ((u n : ℕ) → slice_get xs u ≡ Some n → n ≡ start (u + 1) past)
    → (u n : ℕ) → slice_get (slice_set xs (t - 1) (next s.first past)) u ≡ Some n → n ≡ start (u + 1) (wrote s past t order)
starts_first s past t order xs first new h u n e = step (t == u + 1) refl
  where
    step : (b : Bool) → (t == u + 1) ≡ b → n ≡ start (u + 1) (wrote s past t order)
    step true k =
        let here : t ≡ u + 1 = eqb-true t (u + 1) k in
        let at : t - 1 ≡ u = omega (arith, here) in
        sym (same_get xs (t - 1) (next s.first past) n (subst (λ (j : ℕ). slice_get (slice_set xs (t - 1) (next s.first past)) j ≡ Some n) (sym at) e))
        ∙ sym (subst (λ (v : ℕ). start v (wrote s past t order) ≡ next s.first past) here (start_first s past t order new))
    step false k =
        let apart : t ≡ u + 1 → ⊥ = eqb-false t (u + 1) k in
        h u n (sym (other_get xs (t - 1) u (next s.first past) (λ m. apart (omega (arith, m, first)))) ∙ e) ∙ sym (start_other s past t (u + 1) order apart)

-- ---- the whole

pub knows_wrote : (s : Setting) (past : Past) (sent : List ℕ) (core : HubCore) (order : Order) (seen : Seen) (u : Held) (g q r : ℕ) (p : Phase) (a : assembly.Held) (b : BookSeen) (n : Noted)
    → active past ≡ Some core.active → Knows s past sent core → ticket_of core.active core.book.tickets ≡ Some seen
    → Follows s.first (urbs.Wrote (message_of s (next s.first past) order) ∷ crossings s past) sent u → u.devid ≡ core.urbs.devid → g ≡ tag_of order core.tags
    → b ≡ with_seen core.active (record seen { last = ended_at (next s.first past) order seen.last }) core.book
    → n.marks ≡ core.notes.marks → n.births ≡ core.notes.births → n.room ≡ core.notes.room → length n.starts ≡ length core.notes.starts
    → ((v m : ℕ) → slice_get n.starts v ≡ Some m → m ≡ start (v + 1) (wrote s past core.active order))
    → Knows s (wrote s past core.active order) sent (record core { urbs = u; tags = g; book = b; notes = n; phase = p; parts = q; asked = r; assembly = a })
knows_wrote s past sent core order seen u g q r p a b n turn k found follows same tag shows marks births room count starts =
    let opened : opens (slice_set core.book.tickets (core.active - 1) (record seen { last = ended_at (next s.first past) order seen.last })) ≡ opens core.book.tickets =
    anew_opens core.book.tickets core.active seen (record seen { last = ended_at (next s.first past) order seen.last }) found refl in
    rw shows (rw tag (record {
      shallow = k.shallow;
      first_number = k.first_number;
      interface = k.interface;
      device = same ∙ k.device;
      follows = follows;
      shows = book_wrote s past core.book core.active order seen (known_first s past sent core k) found k.shows;
      marks = marks ∙ k.marks;
      all_started = count ∙ k.all_started;
      starts = starts;
      all_born = ap (λ (l : List ℕ). length l) births ∙ k.all_born;
      limit_sum = k.limit_sum;
      tag = ap (tag_of order) k.tag;
      answers = k.answers;
      over = k.over;
      proper = k.proper;
      few = k.few;
      lives = k.lives ∙ ap (open_from 1) (sym opened);
      turn = k.turn ∙ ap (first_open_from 1) (sym opened);
      room = rw opened (omega (arith, k.room, room));
    }))

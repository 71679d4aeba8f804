-- what a hub's fields say of its record, as that goes on
use Rattle.std.proofs.Common.{◌≡◌, ◌≤◌, ◌<◌, ◌⊎◌, ℕ, ◌+◌, ◌-◌, zero, suc, Bool, true, false, List, [], ◌∷◌, ◌++◌, length, Option, Some, None, refl, sym, subst, ◌∙◌, ap, arith, inl, inr}
use Rattle.std.specs.Prelude.{◌*◌, ◌==◌, drop, slice_get, slice_set, if◌then◌else◌}
use Rattle.std.proofs.lemmas.Bool.{eqb-true, eqb-false}
use Rattle.usbip_wire.specs.Up as up
use Rattle.host_hub.specs.declared.book.BookEntry.{BookEntry}
use Rattle.host_hub.specs.declared.book.BookEntry.TheVariants as entry
use Rattle.host_hub.specs.declared.notes.Mark.{Mark}
use Rattle.host_hub.specs.declared.hub_core.HubCore.{HubCore}
use Rattle.host_hub.specs.declared.outcome.Outcome.{Outcome}
use Rattle.host_hub.specs.declared.outcome.Outcome.TheVariants.{Live}
use Rattle.host_hub.specs.declared.outcome.End.{End}
use Rattle.host_hub.specs.BookSeen.{BookSeen, Seen, IsTicket, ticket_of}
use Rattle.host_hub.specs.BookChanges.{with_asked, with_settled}
use Rattle.host_hub.specs.Noted.{Noted, with_mark, with_ticket}
use Rattle.host_hub.specs.Order.{Setting}
use Rattle.host_hub.specs.Record.{Past, Marked, Asking, Settled, Stopped, Wrote, book, written, taken, next}
use Rattle.host_hub.specs.Law.{Lawful}
use Rattle.host_hub.specs.Book.{KeepsBook, active, first_of, tickets, live, remove, settled, asking_of, has}
use Rattle.host_hub.specs.Shown.{ShowsBook, ShowsTicket, entries_in}
use Rattle.host_hub.specs.Proper.{AllProper, IsProper}
use Rattle.host_hub.specs.Knows.{Knows, marks_in, mark_in, mark_of, spare}
use Rattle.host_hub.specs.BookRoom.{comes_from, first_open_from, is_open, open_count, open_from, open_tickets, opens, to_come}
use Rattle.host_hub.proofs.Lawful.{lawful_book}
use Rattle.host_hub.proofs.Tickets.{settled_low}
use Rattle.host_hub.proofs.Pasts.{unasked_begun}
use Rattle.host_hub.proofs.Starts.{unbegun_start}
use Rattle.host_hub.proofs.Within.{none_unbegun}
use Rattle.host_hub.specs.Hand.{is_begun, is_of, start}
use Rattle.host_hub.specs.Pieces.{data_in}
use Rattle.host_hub.specs.Plan.{message_end}
use Rattle.host_hub.specs.Steps.{asked, settle_all}
use Rattle.host_hub.specs.Causes.{named}
use Rattle.host_hub.specs.declared.limits.TheConstants.{TICKETS_MAX}
use Rattle.host_hub.proofs.Lists.{clash, differ, own, first_has, neither}
use Rattle.host_hub.proofs.Messages.{written_same}
use Rattle.host_hub.proofs.Opens.{comes_asked, comes_entered, comes_most, comes_settled, first_added, first_low, first_most, first_none, first_settled, first_there, none_there, open_added, open_at, open_first, open_removed, open_within, opens_added, opens_at, opens_get, opens_length, opens_same, opens_set, some_to_come}

-- ---- lists

pub some_one : (a b : Seen) → Some a ≡ Some b → a ≡ b
some_one a b e = cc

no_some : {P : Type 0} (a : Seen) → None ≡ Some a → P
no_some a e = absurd (none e)
  where
    none : None ≡ Some a → ⊥
    none k = cc

get_same : (xs : List Seen) (i : ℕ) (x one : Seen) → slice_get (slice_set xs i x) i ≡ Some one → x ≡ one
get_same [] i x one e = no_some one e
get_same (y ∷ ys) zero x one e = some_one x one e
get_same (y ∷ ys) (suc i) x one e = get_same ys i x one e

get_other : (xs : List Seen) (i j : ℕ) (x : Seen) → (i ≡ j → ⊥) → slice_get (slice_set xs i x) j ≡ slice_get xs j
get_other [] i j x h = refl
get_other (y ∷ ys) zero zero x h = absurd (h refl)
get_other (y ∷ ys) zero (suc j) x h = refl
get_other (y ∷ ys) (suc i) zero x h = refl
get_other (y ∷ ys) (suc i) (suc j) x h = get_other ys i j x (λ e. h (ap suc e))

pub set_length : (xs : List Seen) (i : ℕ) (x : Seen) → length (slice_set xs i x) ≡ length xs
set_length [] i x = refl
set_length (y ∷ ys) zero x = refl
set_length (y ∷ ys) (suc i) x = ap suc (set_length ys i x)

-- ---- each ticket is shown

pub Each : (Past) → List Seen → Type 0
Each past xs = (u : ℕ) (one : Seen) → ticket_of u xs ≡ Some one → ShowsTicket past u one

ticket_step : (b : Bool) (o : Option Seen) (one : Seen) → (if b then None else o) ≡ Some one → (b ≡ false) × (o ≡ Some one)
ticket_step true o one e = no_some one e
ticket_step false o one e = (refl, e)

pub at_number : (u : ℕ) (xs : List Seen) (one : Seen) → ticket_of u xs ≡ Some one → ((u == 0) ≡ false) × (slice_get xs (u - 1) ≡ Some one)
at_number u xs one e = ticket_step (u == 0) (slice_get xs (u - 1)) one e

from_number : (u : ℕ) (xs : List Seen) (one : Seen) → (u == 0) ≡ false → slice_get xs (u - 1) ≡ Some one → ticket_of u xs ≡ Some one
from_number u xs one h e = rw h e

not_zero : (u : ℕ) → (u == 0) ≡ false → 1 ≤ u
not_zero zero h = clash (sym h)
not_zero (suc u) h = omega arith

-- one is seen anew, and of the others what was shown still is
pub each_set : (past : Past) (xs : List Seen) (t : ℕ) (x : Seen) → 1 ≤ t → ShowsTicket past t x
    → ((u : ℕ) (one : Seen) → (t ≡ u → ⊥) → ticket_of u xs ≡ Some one → ShowsTicket past u one)
    → (u : ℕ) (one : Seen) → ticket_of u (slice_set xs (t - 1) x) ≡ Some one → ShowsTicket past u one
each_set past xs t x first mine others u one e = step (t == u) refl
  where
    at : ((u == 0) ≡ false) × (slice_get (slice_set xs (t - 1) x) (u - 1) ≡ Some one)
    at = at_number u (slice_set xs (t - 1) x) one e

    step : (b : Bool) → (t == u) ≡ b → ShowsTicket past u one
    step true h =
        let same : t ≡ u = eqb-true t u h in
        let is : x ≡ one = get_same xs (t - 1) x one (subst (λ (n : ℕ). slice_get (slice_set xs (t - 1) x) (n - 1) ≡ Some one) (sym same) at.1) in
        subst (λ (n : ℕ). ShowsTicket past n one) same (subst (λ (y : Seen). ShowsTicket past t y) is mine)
    step false h =
        let apart : t ≡ u → ⊥ = eqb-false t u h in
        let there : 1 ≤ u = not_zero u at.0 in
        others u one apart (from_number u xs one at.0
        (sym (get_other xs (t - 1) (u - 1) x (λ k. apart (omega (arith, k, first, there)))) ∙ at.1))

-- ---- the tickets that are not settled

pub some_number : (a b : ℕ) → Some a ≡ Some b → a ≡ b
some_number a b e = cc

pub no_number : {P : Type 0} (a : ℕ) → None ≡ Some a → P
no_number a e = absurd (none e)
  where
    none : None ≡ Some a → ⊥
    none k = cc

-- ---- the active one

-- it is in the book, and open there
pub live_ticket : (s : Setting) (past : Past) (sent : List ℕ) (core : HubCore) (t : ℕ) → Knows s past sent core → has t (live past) ≡ true → IsTicket core.book t
live_ticket s past sent core t k lives =
    let at : (1 ≤ t) × (t < 1 + length (opens core.book.tickets)) = open_within 1 t (opens core.book.tickets) (ap (has t) (sym k.lives) ∙ lives) in
    record { first = at.0; last = omega (arith, at.1, opens_length core.book.tickets) }

pub live_open : (s : Setting) (past : Past) (sent : List ℕ) (core : HubCore) (t : ℕ) → Knows s past sent core → has t (live past) ≡ true → (seen : Seen)
    → ticket_of t core.book.tickets ≡ Some seen → is_open seen.outcome ≡ true
live_open s past sent core t k lives seen found =
    opens_get core.book.tickets (t - 1) seen true (open_at 1 t (opens core.book.tickets) (ap (has t) (sym k.lives) ∙ lives)) (at_number t core.book.tickets seen found).1

pub live_room : (s : Setting) (past : Past) (sent : List ℕ) (core : HubCore) (t : ℕ) → Knows s past sent core → has t (live past) ≡ true → 0 < core.notes.room
live_room s past sent core t k lives =
    omega (arith, k.room, some_to_come 1 t (opens core.book.tickets) core.book.entries (ap (has t) (sym k.lives) ∙ lives))

pub known_ticket : (s : Setting) (past : Past) (sent : List ℕ) (core : HubCore) → Knows s past sent core → active past ≡ Some core.active → IsTicket core.book core.active
known_ticket s past sent core k turn = live_ticket s past sent core core.active k (first_has core.active (live past) turn)

pub known_first : (s : Setting) (past : Past) (sent : List ℕ) (core : HubCore) → Knows s past sent core → 1 ≤ core.active
known_first s past sent core k = omega (arith, k.turn, first_low 1 (opens core.book.tickets))

pub known_open : (s : Setting) (past : Past) (sent : List ℕ) (core : HubCore) → Knows s past sent core → active past ≡ Some core.active → (seen : Seen)
    → ticket_of core.active core.book.tickets ≡ Some seen → is_open seen.outcome ≡ true
known_open s past sent core k turn = live_open s past sent core core.active k (first_has core.active (live past) turn)

there_in : (xs : List Seen) (i : ℕ) → i < length xs → (seen : Seen) × (slice_get xs i ≡ Some seen)
there_in [] i h = absurd (omega (arith, h))
there_in (x ∷ xs) zero h = (x, refl)
there_in (x ∷ xs) (suc i) h = there_in xs i (omega (arith, h))

pub seen_there : (book : BookSeen) (n : ℕ) → IsTicket book n → (seen : Seen) × (ticket_of n book.tickets ≡ Some seen)
seen_there book n there =
    let at : (seen : Seen) × (slice_get book.tickets (n - 1) ≡ Some seen) = there_in book.tickets (n - 1) (omega (arith, there.first, there.last)) in
    (at.0, from_number n book.tickets at.0 (differ n 0 (λ e. omega (arith, e, there.first))) at.1)

pub never_none : (s : Setting) (past : Past) (sent : List ℕ) (core : HubCore) → Knows s past sent core → active past ≡ Some core.active
    → ticket_of core.active core.book.tickets ≡ None → ⊥
never_none s past sent core k turn none =
    let at : (seen : Seen) × (ticket_of core.active core.book.tickets ≡ Some seen) = seen_there core.book core.active (known_ticket s past sent core k turn) in
    no_some at.0 (sym none ∙ at.1)

pub opens_is : (book : BookSeen) (n : ℕ) (b : Bool) → IsTicket book n → ((seen : Seen) → ticket_of n book.tickets ≡ Some seen → b ≡ is_open seen.outcome)
    → slice_get (opens book.tickets) (n - 1) ≡ Some b
opens_is book n b there is =
    let at : (seen : Seen) × (ticket_of n book.tickets ≡ Some seen) = seen_there book n there in
    opens_at book.tickets (n - 1) at.0 (at_number n book.tickets at.0 at.1).1 ∙ ap Some (sym (is at.0 at.1))

-- ---- entries and their marks

pub entries_added : (xs : List Marked) (x : Marked) → entries_in (xs ++ x ∷ []) ≡ entries_in xs ++ x.entry ∷ []
entries_added [] x = refl
entries_added (y ∷ ys) x = ap (λ (l : List BookEntry). y.entry ∷ l) (entries_added ys x)

marks_added : (xs : List Marked) (x : Marked) → marks_in (xs ++ x ∷ []) ≡ marks_in xs ++ mark_in x ∷ []
marks_added [] x = refl
marks_added (y ∷ ys) x = ap (λ (l : List Mark). mark_in y ∷ l) (marks_added ys x)

abbrev pub now_mark : Setting → Past → Mark
now_mark s past = record { written = length (written s past); taken = length (taken past) }

pub mark_is : (s : Setting) (past : Past) (sent : List ℕ) (core : HubCore) → Knows s past sent core → mark_of core ≡ now_mark s past
mark_is s past sent core k =
    let count : core.urbs.next - core.first ≡ length (written s past) =
    omega (arith, k.follows.number, k.first_number, ap (λ (l : List up.Message). length l) (written_same s past)) in
    rw count (rw k.answers refl)

-- the entries and the marks with one more
pub entered : (s : Setting) (past : Past) (made : List BookEntry) (e : BookEntry) → made ≡ entries_in (book s past)
    → made ++ e ∷ [] ≡ entries_in (book s past ++ record { entry = e; written = length (written s past); taken = length (taken past) } ∷ [])
entered s past made e h =
    rw h (sym (entries_added (book s past) (record { entry = e; written = length (written s past); taken = length (taken past) })))

pub marked_too : (s : Setting) (past : Past) (sent : List ℕ) (core : HubCore) (e : BookEntry) → Knows s past sent core
    → core.notes.marks ++ mark_of core ∷ [] ≡ marks_in (book s past ++ record { entry = e; written = length (written s past); taken = length (taken past) } ∷ [])
marked_too s past sent core e k =
    rw (mark_is s past sent core k) (rw k.marks (sym (marks_added (book s past) (record { entry = e; written = length (written s past); taken = length (taken past) }))))

-- ---- a ticket is settled

settled_shown : (s : Setting) (past : Past) (t u : ℕ) (o : Outcome) (one : Seen) → (t ≡ u → ⊥) → ShowsTicket past u one → ShowsTicket (Settled t o ∷ past) u one
settled_shown s past t u o one apart h = record { asking = h.asking; last = h.last; bytes = h.bytes; outcome = rw (differ t u apart) h.outcome }

settled_mine : (past : Past) (t : ℕ) (o : Outcome) (one : Seen) → ShowsTicket past t one → ShowsTicket (Settled t o ∷ past) t (record one { outcome = o })
settled_mine past t o one h = record { asking = h.asking; last = h.last; bytes = h.bytes; outcome = rw (own t) refl }

book_settled : (s : Setting) (past : Past) (shown : BookSeen) (t : ℕ) (o : Outcome) (seen : Seen) → 1 ≤ t → ticket_of t shown.tickets ≡ Some seen → ShowsBook s past shown
    → ShowsBook s (Settled t o ∷ past) (with_settled t seen o shown)
book_settled s past shown t o seen first found h = record {
  count = set_length shown.tickets (t - 1) (record seen { outcome = o }) ∙ h.count;
  each = each_set (Settled t o ∷ past) shown.tickets t (record seen { outcome = o }) first (settled_mine past t o seen (h.each t seen found))
      (λ u one apart e. settled_shown s past t u o one apart (h.each u one e));
  entries = entered s past shown.entries (entry.Settled t) h.entries;
  service = h.service;
}

-- a ticket is seen anew, and is as open as it was
pub anew_opens : (xs : List Seen) (t : ℕ) (old new : Seen) → ticket_of t xs ≡ Some old → is_open new.outcome ≡ is_open old.outcome
    → opens (slice_set xs (t - 1) new) ≡ opens xs
anew_opens xs t old new found same = opens_same xs (t - 1) new old (at_number t xs old found).1 same

settled_opens : (xs : List Seen) (t : ℕ) (seen : Seen) (o : Outcome) → is_open o ≡ false
    → opens (slice_set xs (t - 1) (record seen { outcome = o })) ≡ slice_set (opens xs) (t - 1) false
settled_opens xs t seen o settled = opens_set xs (t - 1) (record seen { outcome = o }) ∙ ap (slice_set (opens xs) (t - 1)) settled

-- the active ticket is one of them still, or the next
pub settled_there : (s : Setting) (past : Past) (sent : List ℕ) (core : HubCore) (t : ℕ) (o : Outcome) (b : BookSeen) → has t (live past) ≡ true → Knows s past sent core
    → ((seen : Seen) → ticket_of t core.book.tickets ≡ Some seen → b ≡ with_settled t seen o core.book) → core.active ≤ length b.tickets + 1
settled_there s past sent core t o b lives k settles =
    let at : (seen : Seen) × (ticket_of t core.book.tickets ≡ Some seen) = seen_there core.book t (live_ticket s past sent core t k lives) in
    omega (
      arith,
      k.turn,
      first_most 1 (opens core.book.tickets),
      opens_length core.book.tickets,
      ap (λ (x : BookSeen). length x.tickets) (settles at.0 at.1),
      set_length core.book.tickets (t - 1) (record at.0 { outcome = o }),
    )

pub knows_settled : (s : Setting) (past : Past) (sent : List ℕ) (core : HubCore) (t : ℕ) (o : Outcome) (b : BookSeen) (n : Noted) (next : ℕ) → has t (live past) ≡ true
    → is_open o ≡ false → Knows s past sent core
    → ((seen : Seen) → ticket_of t core.book.tickets ≡ Some seen → b ≡ with_settled t seen o core.book)
    → n ≡ with_mark (mark_of core) core.notes → next ≡ first_open_from core.active (drop (core.active - 1) (opens b.tickets))
    → Knows s (Settled t o ∷ past) sent (record core { book = b; notes = n; active = next })
knows_settled s past sent core t o b n next lives settled k settles notes is =
    let there : IsTicket core.book t = live_ticket s past sent core t k lives in
    let at : (seen : Seen) × (ticket_of t core.book.tickets ≡ Some seen) = seen_there core.book t there in
    let now : opens (slice_set core.book.tickets (t - 1) (record at.0 { outcome = o })) ≡ slice_set (opens core.book.tickets) (t - 1) false =
    settled_opens core.book.tickets t at.0 o settled in
    let opened : opens b.tickets ≡ slice_set (opens core.book.tickets) (t - 1) false = ap (λ (x : BookSeen). opens x.tickets) (settles at.0 at.1) ∙ now in
    let opened_there : slice_get (opens core.book.tickets) (t - 1) ≡ Some true = open_at 1 t (opens core.book.tickets) (ap (has t) (sym k.lives) ∙ lives) in
    let less : comes_from 1 (slice_set (opens core.book.tickets) (t - 1) false) core.book.entries + 1 ≤ to_come core.book.tickets core.book.entries =
    comes_settled 1 (t - 1) (opens core.book.tickets) core.book.entries opened_there in
    let come : comes_from 1 (slice_set (opens core.book.tickets) (t - 1) false) (core.book.entries ++ entry.Settled t ∷ [])
    ≡ comes_from 1 (slice_set (opens core.book.tickets) (t - 1) false) core.book.entries =
    comes_entered 1 (slice_set (opens core.book.tickets) (t - 1) false) core.book.entries (entry.Settled t) (λ u. refl) in
    let first : next ≡ first_open_from 1 (slice_set (opens core.book.tickets) (t - 1) false) =
    is ∙ (ap (λ (l : List Bool). first_open_from core.active (drop (core.active - 1) l)) opened
    ∙ sym (first_settled 1 core.active (t - 1) (opens core.book.tickets) (sym k.turn))) in
    rw (settles at.0 at.1) (rw notes (record {
      shallow = k.shallow;
      first_number = k.first_number;
      interface = k.interface;
      device = k.device;
      follows = k.follows;
      shows = book_settled s past core.book t o at.0 there.first at.1 k.shows;
      marks = marked_too s past sent core (entry.Settled t) k;
      all_started = k.all_started;
      starts = k.starts;
      all_born = k.all_born;
      limit_sum = k.limit_sum;
      tag = k.tag;
      answers = k.answers;
      over = k.over;
      proper = k.proper;
      few = k.few;
      lives = ap (remove t) k.lives ∙ (open_removed t 1 (t - 1) (opens core.book.tickets) (omega (arith, there.first)) ∙ ap (open_from 1) (sym now));
      turn = first ∙ ap (first_open_from 1) (sym now);
      room = rw now (omega (arith, k.room, less, come));
    }))

-- ---- a ticket is asked

-- the last of a list, or one before it
get_added : (xs : List Seen) (i : ℕ) (x one : Seen) → slice_get (xs ++ x ∷ []) i ≡ Some one → (slice_get xs i ≡ Some one) ⊎ ((i ≡ length xs) × (x ≡ one))
get_added [] zero x one e = inr (refl, some_one x one e)
get_added [] (suc i) x one e = no_some one e
get_added (y ∷ ys) zero x one e = inl e
get_added (y ∷ ys) (suc i) x one e = step (get_added ys i x one e)
  where
    step : (slice_get ys i ≡ Some one) ⊎ ((i ≡ length ys) × (x ≡ one)) → (slice_get ys i ≡ Some one) ⊎ ((suc i ≡ suc (length ys)) × (x ≡ one))
    step (inl h) = inl h
    step (inr h) = inr (ap suc h.0, h.1)

number_added : (xs : List ℕ) (i : ℕ) (x n : ℕ) → slice_get (xs ++ x ∷ []) i ≡ Some n → (slice_get xs i ≡ Some n) ⊎ ((i ≡ length xs) × (x ≡ n))
number_added [] zero x n e = inr (refl, some_number x n e)
number_added [] (suc i) x n e = no_number n e
number_added (y ∷ ys) zero x n e = inl e
number_added (y ∷ ys) (suc i) x n e = step (number_added ys i x n e)
  where
    step : (slice_get ys i ≡ Some n) ⊎ ((i ≡ length ys) × (x ≡ n)) → (slice_get ys i ≡ Some n) ⊎ ((suc i ≡ suc (length ys)) × (x ≡ n))
    step (inl h) = inl h
    step (inr h) = inr (ap suc h.0, h.1)

get_within : (xs : List Seen) (i : ℕ) (one : Seen) → slice_get xs i ≡ Some one → i < length xs
get_within [] i one e = no_some one e
get_within (y ∷ ys) zero one e = omega arith
get_within (y ∷ ys) (suc i) one e = omega (arith, get_within ys i one e)

seen_length : (xs : List Seen) (x : Seen) → length (xs ++ x ∷ []) ≡ length xs + 1
seen_length [] x = refl
seen_length (y ∷ ys) x = omega (arith, seen_length ys x)

number_length : (xs : List ℕ) (x : ℕ) → length (xs ++ x ∷ []) ≡ length xs + 1
number_length [] x = refl
number_length (y ∷ ys) x = omega (arith, number_length ys x)

unbegun_end : (t : ℕ) (past : Past) → is_begun t past ≡ false → message_end t past ≡ 0
unbegun_end t [] h = refl
unbegun_end t (Wrote n o k ∷ past) h =
    let e : (is_of t o ≡ false) × (is_begun t past ≡ false) = neither (is_of t o) (is_begun t past) h in
    let other : is_of t o ≡ false = e.0 in
    rw other (unbegun_end t past e.1)
unbegun_end t (x ∷ past) h = unbegun_end t past h

unasked_settled : (past : Past) (t : ℕ) → KeepsBook past → tickets past < t → settled t past ≡ None
unasked_settled past t book h = step (settled t past) refl
  where
    step : (o : Option Outcome) → settled t past ≡ o → settled t past ≡ None
    step None e = e
    step (Some o) e = absurd (omega (arith, h, settled_low past t o book e))

abbrev pub seen_asked : Asking → Seen
seen_asked a = record { session = a.session; kind = a.kind; limit = a.limit; last = 0; message = a.message; bytes = []; outcome = Live }

asked_mine : (s : Setting) (past : Past) (a : Asking) → Lawful s past → ShowsTicket (asked past a) (tickets past + 1) (seen_asked a)
asked_mine s past a lawful =
    let new : is_begun (tickets past + 1) past ≡ false = unasked_begun s past lawful (tickets past + 1) (omega arith) in
    record {
      asking = rw (own (tickets past + 1)) refl;
      last = sym (unbegun_end (tickets past + 1) past new);
      bytes = sym (ap data_in (none_unbegun (tickets past + 1) past new));
      outcome = rw (unasked_settled past (tickets past + 1) (lawful_book s past lawful) (omega arith)) refl;
    }

asked_other : (past : Past) (a : Asking) (u : ℕ) (one : Seen) → (tickets past + 1 ≡ u → ⊥) → ShowsTicket past u one → ShowsTicket (asked past a) u one
asked_other past a u one apart h = record { asking = rw (differ (tickets past + 1) u apart) h.asking; last = h.last; bytes = h.bytes; outcome = h.outcome }

book_asked : (s : Setting) (past : Past) (shown : BookSeen) (a : Asking) → Lawful s past → ShowsBook s past shown
    → ShowsBook s (asked past a) (with_asked (seen_asked a) shown)
book_asked s past shown a lawful h = record {
  count = seen_length shown.tickets (seen_asked a) ∙ ap (λ (n : ℕ). n + 1) h.count;
  each = λ u one e.
      (let at : ((u == 0) ≡ false) × (slice_get (shown.tickets ++ seen_asked a ∷ []) (u - 1) ≡ Some one) = at_number u (shown.tickets ++ seen_asked a ∷ []) one e in
      let there : 1 ≤ u = not_zero u at.0 in
      which u one at.0 there (get_added shown.tickets (u - 1) (seen_asked a) one at.1));
  entries = rw h.count (entered s past shown.entries (entry.Asked (tickets past + 1)) h.entries);
  service = h.service;
}
  where
    which : (u : ℕ) (one : Seen) → (u == 0) ≡ false → 1 ≤ u
        → (slice_get shown.tickets (u - 1) ≡ Some one) ⊎ ((u - 1 ≡ length shown.tickets) × (seen_asked a ≡ one)) → ShowsTicket (asked past a) u one
    which u one other there (inl e) =
        asked_other past a u one (λ k. omega (arith, k, h.count, there, get_within shown.tickets (u - 1) one e)) (h.each u one (from_number u shown.tickets one other e))
    which u one other there (inr e) =
        let is : tickets past + 1 ≡ u = omega (arith, e.0, h.count, there) in
        subst (λ (n : ℕ). ShowsTicket (asked past a) n one) is (subst (ShowsTicket (asked past a) (tickets past + 1)) e.1 (asked_mine s past a lawful))

starts_asked : (s : Setting) (past : Past) (a : Asking) (xs : List ℕ) → Lawful s past → length xs ≡ tickets past → ((t n : ℕ) → slice_get xs t ≡ Some n → n ≡ start (t + 1) past)
    → (t n : ℕ) → slice_get (xs ++ 0 ∷ []) t ≡ Some n → n ≡ start (t + 1) (asked past a)
starts_asked s past a xs lawful count h t n e = which (number_added xs t 0 n e)
  where
    which : (slice_get xs t ≡ Some n) ⊎ ((t ≡ length xs) × (0 ≡ n)) → n ≡ start (t + 1) past
    which (inl k) = h t n k
    which (inr k) = sym k.1 ∙ sym (unbegun_start (t + 1) past (unasked_begun s past lawful (t + 1) (omega (arith, k.0, count))))

proper_asked : (past : Past) (a : Asking) → IsProper a → AllProper past → AllProper (asked past a)
proper_asked past a good h t one e = step (tickets past + 1 == t) e
  where
    step : (b : Bool) → (if b then Some a else asking_of t past) ≡ Some one → IsProper one
    step true k = let same : a ≡ one = cc in subst IsProper same good
    step false k = h t one k

pub knows_asked : (s : Setting) (past : Past) (sent : List ℕ) (core : HubCore) (a : Asking) (room places sum : ℕ) (b : BookSeen) (n : Noted) → Lawful s past
    → IsProper a → Knows s past sent core → core.end ≡ None → length core.book.tickets < TICKETS_MAX → 2 * open_count core.book.tickets + 4 ≤ room → b ≡ with_asked (seen_asked a) core.book
    → n ≡ with_ticket (mark_of core) core.turned (record core.notes { room = room; places = places }) → sum ≡ core.limits + a.limit
    → Knows s (asked past a) sent (record core { book = b; notes = n; limits = sum })
knows_asked s past sent core a room places sum b n lawful good k running few spare asks notes total =
    let opened : opens (core.book.tickets ++ seen_asked a ∷ []) ≡ opens core.book.tickets ++ true ∷ [] = opens_added core.book.tickets (seen_asked a) in
    let number : tickets past + 1 ≡ 1 + length (opens core.book.tickets) = omega (arith, k.shows.count, opens_length core.book.tickets) in
    let come : comes_from 1 (opens core.book.tickets ++ true ∷ []) (core.book.entries ++ entry.Asked (length core.book.tickets + 1) ∷ [])
    ≡ comes_from 1 (opens core.book.tickets ++ true ∷ []) core.book.entries =
    comes_entered 1 (opens core.book.tickets ++ true ∷ []) core.book.entries (entry.Asked (length core.book.tickets + 1)) (λ u. refl) in
    rw asks (rw notes (rw total (record {
      shallow = k.shallow;
      first_number = k.first_number;
      interface = k.interface;
      device = k.device;
      follows = k.follows;
      shows = book_asked s past core.book a lawful k.shows;
      marks = marked_too s past sent core (entry.Asked (tickets past + 1)) k;
      all_started = number_length core.notes.starts 0 ∙ ap (λ (m : ℕ). m + 1) k.all_started;
      starts = starts_asked s past a core.notes.starts lawful k.all_started k.starts;
      all_born = number_length core.notes.births core.turned ∙ ap (λ (m : ℕ). m + 1) k.all_born;
      limit_sum = ap (λ (m : ℕ). m + a.limit) k.limit_sum;
      tag = k.tag;
      answers = k.answers;
      over = k.over;
      proper = proper_asked past a good k.proper;
      few = omega (arith, few, k.shows.count);
      lives = ap (λ (l : List ℕ). l ++ (tickets past + 1) ∷ []) k.lives
          ∙ (ap (λ (m : ℕ). open_tickets core.book.tickets ++ m ∷ []) number
          ∙ (sym (open_added 1 (opens core.book.tickets)) ∙ ap (open_from 1) (sym opened)));
      turn = k.turn ∙ (sym (first_added 1 (opens core.book.tickets)) ∙ ap (first_open_from 1) (sym opened));
      room = rw running (rw opened (omega (
        arith,
        spare,
        come,
        comes_asked 1 (opens core.book.tickets) core.book.entries,
        comes_most 1 core.book.tickets core.book.entries,
      )));
    })))

pub knows_roomier : (s : Setting) (past : Past) (sent : List ℕ) (core : HubCore) (room places : ℕ) → (k : Knows s past sent core) → core.notes.room ≤ room
    → Knows s past sent (record core { notes = record core.notes { room = room; places = places } })
knows_roomier s past sent core room places k more = record {
  shallow = k.shallow;
  first_number = k.first_number;
  interface = k.interface;
  device = k.device;
  follows = k.follows;
  shows = k.shows;
  marks = k.marks;
  all_started = k.all_started;
  starts = k.starts;
  all_born = k.all_born;
  limit_sum = k.limit_sum;
  tag = k.tag;
  answers = k.answers;
  over = k.over;
  proper = k.proper;
  few = k.few;
  lives = k.lives;
  turn = k.turn;
  room = omega (arith, k.room, more);
}

-- ---- the hub ends

pub has_active : (s : Setting) (past : Past) (sent : List ℕ) (core : HubCore) → Knows s past sent core → core.active ≤ length core.book.tickets
    → active past ≡ Some core.active
has_active s past sent core k h =
    rw k.lives (rw k.turn (first_there 1 (opens core.book.tickets) (omega (arith, h, k.turn, opens_length core.book.tickets))))

pub none_active : (s : Setting) (past : Past) (sent : List ℕ) (core : HubCore) → Knows s past sent core → length core.book.tickets < core.active → live past ≡ []
none_active s past sent core k h = k.lives ∙ none_there 1 (opens core.book.tickets) (omega (arith, h, k.turn, opens_length core.book.tickets))

-- the number of the next ticket
pub active_next : (s : Setting) (past : Past) (sent : List ℕ) (core : HubCore) → Knows s past sent core → live past ≡ [] → core.active ≡ tickets past + 1
active_next s past sent core k none =
    omega (arith, k.turn, first_none 1 (opens core.book.tickets) (sym k.lives ∙ none), opens_length core.book.tickets, k.shows.count)

pub knows_stopped : (s : Setting) (past : Past) (sent : List ℕ) (core : HubCore) (e : End) → core.end ≡ None → Knows s past sent core
    → Knows s (Stopped e ∷ past) sent (record core { end = Some e })
knows_stopped s past sent core e running k = record {
  shallow = k.shallow;
  first_number = k.first_number;
  interface = k.interface;
  device = k.device;
  follows = k.follows;
  shows = record { count = k.shows.count; each = λ u one h. shown_still u one (k.shows.each u one h); entries = k.shows.entries; service = k.shows.service };
  marks = k.marks;
  all_started = k.all_started;
  starts = k.starts;
  all_born = k.all_born;
  limit_sum = k.limit_sum;
  tag = k.tag;
  answers = k.answers;
  over = refl;
  proper = k.proper;
  few = k.few;
  lives = k.lives;
  turn = k.turn;
  room = omega (arith, k.room);
}
  where
    shown_still : (u : ℕ) (one : Seen) → ShowsTicket past u one → ShowsTicket (Stopped e ∷ past) u one
    shown_still u one h = record { asking = h.asking; last = h.last; bytes = h.bytes; outcome = h.outcome }

-- the tickets that are left settle as they would have
pub record Reached (s : Setting) (e : End) (sent : List ℕ) (past : Past) (now : HubCore) : Type 0 where
  pub when : Past
  pub knows : Knows s when sent now
  pub keeps : KeepsBook when
  pub same : settle_all e (live when) when ≡ settle_all e (live past) past

pub record GoesOnTo (s : Setting) (e : End) (sent : List ℕ) (old now : HubCore) : Type 0 where
  pub to : (past : Past) → KeepsBook past → Knows s past sent old → Reached s e sent past now

pub begins : (s : Setting) (e : End) (sent : List ℕ) (core : HubCore) → GoesOnTo s e sent core core
begins s e sent core = record { to = λ past keeps k. record { when = past; knows = k; keeps = keeps; same = refl } }

pub live_one : (s : Setting) (past : Past) (sent : List ℕ) (core : HubCore) → Knows s past sent core → active past ≡ Some core.active
    → live past ≡ core.active ∷ remove core.active (live past)
live_one s past sent core k turn =
    subst (λ (l : List ℕ). l ≡ core.active ∷ remove core.active l) (sym k.lives)
    (open_first 1 core.active (opens core.book.tickets) (ap first_of (sym k.lives) ∙ turn))

settles_next : (e : End) (t : ℕ) (ts : List ℕ) (past : Past) → live past ≡ t ∷ ts → live (Settled t (named e) ∷ past) ≡ ts
    → settle_all e (live (Settled t (named e) ∷ past)) (Settled t (named e) ∷ past) ≡ settle_all e (live past) past
settles_next e t ts past now next =
    ap (λ (l : List ℕ). settle_all e l (Settled t (named e) ∷ past)) next ∙ sym (ap (λ (l : List ℕ). settle_all e l past) now)

pub goes_further : (s : Setting) (e : End) (sent : List ℕ) (old now next : HubCore) → GoesOnTo s e sent old now
    → ((past : Past) → KeepsBook past → Knows s past sent now → active past ≡ Some now.active)
    → ((past : Past) → active past ≡ Some now.active → Knows s past sent now → Knows s (Settled now.active (named e) ∷ past) sent next)
    → GoesOnTo s e sent old next
goes_further s e sent old now next goes turns settles = record { to = λ past keeps k. step past (goes.to past keeps k) }
  where
    step : (past : Past) → Reached s e sent past now → Reached s e sent past next
    step past r =
        let turn : active r.when ≡ Some now.active = turns r.when r.keeps r.knows in
        record {
          when = Settled now.active (named e) ∷ r.when;
          knows = settles r.when turn r.knows;
          keeps = (r.keeps, first_has now.active (live r.when) turn);
          same = settles_next e now.active (remove now.active (live r.when)) r.when (live_one s r.when sent now r.knows turn) refl ∙ r.same;
        }

pub all_settled : (s : Setting) (e : End) (sent : List ℕ) (old now : HubCore) → GoesOnTo s e sent old now → length now.book.tickets < now.active
    → (past : Past) → KeepsBook past → Knows s past sent old → Knows s (settle_all e (live past) past) sent now
all_settled s e sent old now goes none past keeps k = step (goes.to past keeps k)
  where
    step : Reached s e sent past now → Knows s (settle_all e (live past) past) sent now
    step r =
        subst (λ (p : Past). Knows s p sent now)
        (sym (ap (λ (l : List ℕ). settle_all e l r.when) (none_active s r.when sent now r.knows none)) ∙ r.same) r.knows

-- a hub is made, and given up
use Rattle.std.proofs.Common.{◌≡◌, ◌≤◌, ℕ, ◌+◌, ◌-◌, true, false, List, [], ◌∷◌, ◌++◌, length, Option, Some, None, refl, sym, subst, ◌∙◌, ap, arith, append_assoc}
use Rattle.host_urbs.specs.Held as held
use Rattle.host_urbs.specs.Held.{Follows}
use Rattle.host_hub.specs.declared.book.BookEntry.{BookEntry}
use Rattle.host_hub.specs.declared.book.BookEntry.TheVariants as entry
use Rattle.host_hub.specs.declared.hub_core.HubCore.{HubCore}
use Rattle.host_hub.specs.declared.hub_core.Phase.TheVariants as phase
use Rattle.host_hub.specs.declared.outcome.End.{End}
use Rattle.host_hub.specs.declared.outcome.End.TheVariants as end
use Rattle.host_hub.specs.BookSeen.{BookSeen, Seen}
use Rattle.host_hub.specs.BookChanges.{with_given_up}
use Rattle.host_hub.specs.BookRoom.{has_given_up, opens, to_come}
use Rattle.host_hub.specs.Noted.{Noted, with_mark}
use Rattle.host_hub.specs.Order.{Setting}
use Rattle.host_hub.specs.Record.{Past, Asked, Cancelled, Cleared, GaveUp, Settled, Stopped, Wrote, Took, Fell, Recovers, Marked, Happening, book}
use Rattle.host_hub.specs.Book.{KeepsBook, is_given_up, live}
use Rattle.host_hub.specs.Causes.{named}
use Rattle.host_hub.specs.Calls.{All, IsOfGivingUp}
use Rattle.host_hub.specs.Law.{Kept}
use Rattle.host_hub.specs.Shown.{ShowsTicket, entries_in}
use Rattle.host_hub.specs.Steps.{settle_all}
use Rattle.host_hub.specs.Knows.{Knows, mark_of, spare}
use Rattle.host_hub.specs.Stands.{IsGivenUp, Rests}
use Rattle.std.specs.Prelude.{slice_get}
use Rattle.host_hub.specs.declared.hub_core.Phase.{Phase}
use Rattle.host_hub.specs.BookSeen.{ticket_of}
use Rattle.host_hub.specs.Record.{Asking}
use Rattle.host_hub.specs.Shown.{ShowsBook}
use Rattle.host_hub.specs.Proper.{IsProper}
use Rattle.host_hub.specs.Stands.{Stands}
use Rattle.host_hub.proofs.Lawful.{lawful_book}
use Rattle.host_hub.proofs.Lists.{clash}
use Rattle.host_hub.proofs.Quiets.{none_planned_idle}
use Rattle.host_hub.proofs.Booking.{given_added, given_now}
use Rattle.host_hub.proofs.Begins.{ended_rests}
use Rattle.host_hub.proofs.Endings.{gave_up_kept, not_given}
use Rattle.host_hub.proofs.Opens.{comes_entered}
use Rattle.host_hub.proofs.Knowing.{at_number, entered, entries_added, marked_too, no_number}
use Rattle.host_hub.specs.Queued.{Queued}

-- ---- whether it was entered

added_not : (xs : List Marked) (x : Marked) → has_given_up (x.entry ∷ []) ≡ false → has_given_up (entries_in (xs ++ x ∷ [])) ≡ has_given_up (entries_in xs)
added_not xs x h = ap has_given_up (entries_added xs x) ∙ given_added (entries_in xs) x.entry h

added_now : (xs : List Marked) (x : Marked) → x.entry ≡ entry.GaveUp → has_given_up (entries_in (xs ++ x ∷ [])) ≡ true
added_now xs x h = ap has_given_up (entries_added xs x ∙ ap (λ (e : BookEntry). entries_in xs ++ e ∷ []) h) ∙ given_now (entries_in xs)

pub given_entries : (s : Setting) (past : Past) → has_given_up (entries_in (book s past)) ≡ is_given_up past
given_entries s [] = refl
given_entries s (Asked t a ∷ past) = added_not (book s past) _ refl ∙ given_entries s past
given_entries s (Cancelled t ∷ past) = added_not (book s past) _ refl ∙ given_entries s past
given_entries s (Cleared w ∷ past) = added_not (book s past) _ refl ∙ given_entries s past
given_entries s (Settled t o ∷ past) = added_not (book s past) _ refl ∙ given_entries s past
given_entries s (GaveUp ∷ past) = added_now (book s past) _ refl
given_entries s (Wrote n o k ∷ past) = given_entries s past
given_entries s (Took m ∷ past) = given_entries s past
given_entries s (Fell m e ∷ past) = given_entries s past
given_entries s (Stopped e ∷ past) = given_entries s past
given_entries s (Recovers ∷ past) = given_entries s past

pub none_given : (s : Setting) (past : Past) (sent : List ℕ) (core : HubCore) → Rests s past sent core → core.end ≡ None → has_given_up core.book.entries ≡ false
none_given s past sent core r running =
    ap has_given_up r.knows.shows.entries ∙ (given_entries s past ∙ not_given past (r.kept.quiet.over (sym r.knows.over ∙ running)))

-- ---- it is given up

shown_given : (past : Past) (u : ℕ) (one : Seen) → ShowsTicket past u one → ShowsTicket (Stopped end.GivenUp ∷ GaveUp ∷ past) u one
shown_given past u one h = record { asking = h.asking; last = h.last; bytes = h.bytes; outcome = h.outcome }

pub knows_given : (s : Setting) (past : Past) (sent : List ℕ) (core : HubCore) (b : BookSeen) (n : Noted) → Knows s past sent core → core.end ≡ None
    → b ≡ with_given_up core.book → n ≡ with_mark (mark_of core) core.notes
    → Knows s (Stopped end.GivenUp ∷ GaveUp ∷ past) sent (record core { book = b; notes = n; end = Some end.GivenUp })
knows_given s past sent core b n k running gives notes =
    let room : to_come core.book.tickets core.book.entries + 1 ≤ core.notes.room =
    subst (λ (e : Option End). to_come core.book.tickets core.book.entries + spare e ≤ core.notes.room) running k.room in
    let come : to_come core.book.tickets (core.book.entries ++ entry.GaveUp ∷ []) ≡ to_come core.book.tickets core.book.entries =
    comes_entered 1 (opens core.book.tickets) core.book.entries entry.GaveUp (λ u. refl) in
    rw gives (rw notes (record {
      shallow = k.shallow;
      first_number = k.first_number;
      interface = k.interface;
      device = k.device;
      follows = k.follows;
      shows = record {
        count = k.shows.count;
        each = λ u one h. shown_given past u one (k.shows.each u one h);
        entries = entered s past core.book.entries entry.GaveUp k.shows.entries;
        service = k.shows.service;
      };
      marks = marked_too s past sent core entry.GaveUp k;
      all_started = k.all_started;
      starts = k.starts;
      all_born = k.all_born;
      limit_sum = k.limit_sum;
      tag = k.tag;
      answers = k.answers;
      over = refl;
      proper = k.proper;
      few = k.few;
      lives = k.lives;
      turn = k.turn;
      room = omega (arith, room, come);
    }))

-- the tickets that settle, in the record
record Gives (ts : List ℕ) (past : Past) : Type 0 where
  pub more : Past
  pub all : All IsOfGivingUp more
  pub same : settle_all end.GivenUp ts past ≡ more ++ past

of_added : (past : Past) (x : Happening) → All IsOfGivingUp past → IsOfGivingUp x → All IsOfGivingUp (past ++ x ∷ [])
of_added [] x h i = (i, tt)
of_added (y ∷ ys) x h i = (h.0, of_added ys x h.1 i)

gives : (ts : List ℕ) (past : Past) → Gives ts past
gives [] past = record { more = []; all = tt; same = refl }
gives (t ∷ ts) past =
    let a : Gives ts (Settled t (named end.GivenUp) ∷ past) = gives ts (Settled t (named end.GivenUp) ∷ past) in
    record {
      more = a.more ++ Settled t (named end.GivenUp) ∷ [];
      all = of_added a.more (Settled t (named end.GivenUp)) a.all tt;
      same = a.same ∙ sym (append_assoc a.more (Settled t (named end.GivenUp) ∷ []) past);
    }

pub given_rests : (s : Setting) (past : Past) (sent : List ℕ) (core new : HubCore) → Rests s past sent core → core.end ≡ None → new.end ≡ Some end.GivenUp
    → Knows s (settle_all end.GivenUp (live past) (Stopped end.GivenUp ∷ GaveUp ∷ past)) sent new → IsGivenUp s past sent new
given_rests s past sent core new r running is k =
    let a : Gives (live past) (Stopped end.GivenUp ∷ GaveUp ∷ past) = gives (live past) (Stopped end.GivenUp ∷ GaveUp ∷ past) in
    let same : settle_all end.GivenUp (live past) (Stopped end.GivenUp ∷ GaveUp ∷ past) ≡ ((a.more ++ Stopped end.GivenUp ∷ []) ++ GaveUp ∷ []) ++ past =
    a.same ∙ (sym (append_assoc a.more (Stopped end.GivenUp ∷ []) (GaveUp ∷ past)) ∙ sym (append_assoc (a.more ++ Stopped end.GivenUp ∷ []) (GaveUp ∷ []) past)) in
    record {
      more = (a.more ++ Stopped end.GivenUp ∷ []) ++ GaveUp ∷ [];
      adds = record { own = a.more ++ Stopped end.GivenUp ∷ []; by_itself = of_added a.more (Stopped end.GivenUp) a.all refl; is = refl };
      rests = subst (λ (p : Past). Rests s p sent new) same
          (ended_rests s (settle_all end.GivenUp (live past) (Stopped end.GivenUp ∷ GaveUp ∷ past)) sent new end.GivenUp is k
          (gave_up_kept s past r.kept (sym r.knows.over ∙ running)));
    }

pub given_keeps : (s : Setting) (past : Past) (sent : List ℕ) (core : HubCore) → Rests s past sent core → core.end ≡ None → KeepsBook (Stopped end.GivenUp ∷ GaveUp ∷ past)
given_keeps s past sent core r running = ((lawful_book s past r.kept.lawful, not_given past (r.kept.quiet.over (sym r.knows.over ∙ running))), tt)

-- ---- it is made

start_kept : (s : Setting) → Kept s []
start_kept s = record {
  lawful = tt;
  quiet = record { settled = λ t h. clash h; unlinked = refl; written = λ runs. none_planned_idle s [] refl; waits = (tt, λ e. (refl, refl)); over = λ runs. refl };
}

no_seen : {P : Type 0} (u : ℕ) (one : Seen) → ticket_of u [] ≡ Some one → P
no_seen u one e = absurd (no (at_number u [] one e).1)
  where
    no : slice_get [] (u - 1) ≡ Some one → ⊥
    no h = let k : None ≡ Some one = h in cc

no_start : {P : Type 0} (t n : ℕ) → slice_get [] t ≡ Some n → P
no_start t n e = no_number n e

pub fresh_rests : (s : Setting) (core : HubCore) → s.depth ≡ 1 → core.first ≡ s.first → core.ends ≡ s.ends
    → core.urbs ≡ record { devid = s.devid; next = s.first; entries = []; outbox = [] } → Follows s.first [] [] core.urbs
    → core.book ≡ record { tickets = []; entries = []; service = record { count = 0; last = None } }
    → core.notes ≡ record { marks = []; starts = []; births = []; room = 1; places = 0 }
    → core.tags ≡ 0 → core.limits ≡ 0 → core.active ≡ 1 → core.phase ≡ phase.Idle → core.taken ≡ 0 → core.end ≡ None → Rests s [] [] core
fresh_rests s core depth first ends urbs follows book notes tags limits active idle taken running = record {
  knows = record {
    shallow = depth;
    first_number = first;
    interface = ends;
    device = ap (λ (h : held.Held). h.devid) urbs;
    follows = follows;
    shows = subst (ShowsBook s []) (sym book) (record { count = refl; each = λ u one e. no_seen u one e; entries = refl; service = refl });
    marks = ap (λ (n : Noted). n.marks) notes;
    all_started = ap (λ (n : Noted). length n.starts) notes;
    starts = λ t n e. no_start t n (subst (λ (l : List ℕ). slice_get l t ≡ Some n) (ap (λ (x : Noted). x.starts) notes) e);
    all_born = ap (λ (n : Noted). length n.births) notes;
    limit_sum = limits;
    tag = tags;
    answers = taken;
    over = running;
    proper = λ t a e. no_asking a e;
    few = omega arith;
    lives = rw book refl;
    turn = rw book active;
    room = rw book (rw running (omega (arith, ap (λ (n : Noted). n.room) notes)));
  };
  kept = start_kept s;
  stands = λ _. subst (λ (p : Phase). Stands p s [] core) (sym idle) (record {
    none = refl;
    nothing = refl;
    recovered = (refl, refl);
    queue = subst Queued (sym urbs) refl;
  });
}
  where
    no_asking : (a : Asking) → None ≡ Some a → IsProper a
    no_asking a e = absurd (no e)
      where
        no : None ≡ Some a → ⊥
        no k = cc

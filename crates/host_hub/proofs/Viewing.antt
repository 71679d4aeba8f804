-- a ticket that is asked adds one view
use Rattle.std.proofs.Common.{◌≡◌, ◌∙◌, ◌+◌, ℕ, Bool, List, [], ◌∷◌, ◌++◌, length, Some, Result, Ok, Err, refl, sym, ap, arith, append_assoc}
use Rattle.std.specs.Prelude.{if◌then◌else◌}
use Rattle.host_hub.specs.declared.hub_core.HubCore.{HubCore}
use Rattle.host_hub.specs.declared.refusals.AskFault.{AskFault}
use Rattle.host_hub.specs.Asks.{Asks, Enters}
use Rattle.host_hub.specs.Book.{asking_of, tickets}
use Rattle.host_hub.specs.Calls.{All, IsOwn}
use Rattle.host_hub.specs.HubCalls.{AddsView, HasView}
use Rattle.host_hub.specs.Order.{Setting}
use Rattle.host_hub.specs.Record.{Asked, Asking, Cancelled, Cleared, Fell, GaveUp, Past, Recovers, Settled, Stopped, Took, Wrote}
use Rattle.host_hub.specs.Stands.{Rests}
use Rattle.host_hub.proofs.Knowing.{seen_there}
use Rattle.host_hub.proofs.Lists.{own}

same_tickets : (more past : Past) → All IsOwn more → tickets (more ++ past) ≡ tickets past
same_tickets [] past a = refl
same_tickets (Wrote n o k ∷ more) past a = same_tickets more past a.1
same_tickets (Recovers ∷ more) past a = same_tickets more past a.1
same_tickets (Settled t o ∷ more) past a = same_tickets more past a.1
same_tickets (Stopped e ∷ more) past a = same_tickets more past a.1
same_tickets (Took m ∷ more) past a = absurd a.0
same_tickets (Fell m e ∷ more) past a = absurd a.0
same_tickets (Asked t b ∷ more) past a = absurd a.0
same_tickets (Cancelled t ∷ more) past a = absurd a.0
same_tickets (Cleared w ∷ more) past a = absurd a.0
same_tickets (GaveUp ∷ more) past a = absurd a.0

same_asking : (more past : Past) (t : ℕ) → All IsOwn more → asking_of t (more ++ past) ≡ asking_of t past
same_asking [] past t a = refl
same_asking (Wrote n o k ∷ more) past t a = same_asking more past t a.1
same_asking (Recovers ∷ more) past t a = same_asking more past t a.1
same_asking (Settled u o ∷ more) past t a = same_asking more past t a.1
same_asking (Stopped e ∷ more) past t a = same_asking more past t a.1
same_asking (Took m ∷ more) past t a = absurd a.0
same_asking (Fell m e ∷ more) past t a = absurd a.0
same_asking (Asked u b ∷ more) past t a = absurd a.0
same_asking (Cancelled u ∷ more) past t a = absurd a.0
same_asking (Cleared w ∷ more) past t a = absurd a.0
same_asking (GaveUp ∷ more) past t a = absurd a.0

same_one : (a b : Asking) → Some a ≡ Some b → a ≡ b
same_one a b e = cc

module _ (s : Setting) (past : Past) (sent : List ℕ) (asking : Asking) (core new : HubCore) (r : Rests s past sent core) (e : Enters s past sent asking new) where
  whole : e.more ++ past ≡ e.adds.own ++ Asked (tickets past + 1) asking ∷ past
  whole = ap (λ (l : Past). l ++ past) e.adds.is ∙ append_assoc e.adds.own (Asked (tickets past + 1) asking ∷ []) past

  count : tickets (e.more ++ past) ≡ tickets past + 1
  count = ap tickets whole ∙ same_tickets e.adds.own (Asked (tickets past + 1) asking ∷ past) e.adds.by_itself

  asks : asking_of (tickets past + 1) (e.more ++ past) ≡ Some asking
  asks =
      ap (asking_of (tickets past + 1)) whole ∙ same_asking e.adds.own (Asked (tickets past + 1) asking ∷ past) (tickets past + 1) e.adds.by_itself
      ∙ ap (λ (b : Bool). if b then Some asking else asking_of (tickets past + 1) past) (own (tickets past + 1))

  pub view_added : (ticket : ℕ) → ticket ≡ tickets past + 1 → AddsView asking ticket core.book new.book
  view_added ticket is =
      let there : length new.book.tickets ≡ tickets past + 1 = e.rests.knows.shows.count ∙ count in
      let seen = seen_there new.book ticket (record { first = omega (arith, is); last = omega (arith, is, there) }) in
      let shows = e.rests.knows.shows.each ticket seen.0 seen.1 in
      let same : record { session = seen.0.session; kind = seen.0.kind; limit = seen.0.limit; message = seen.0.message } ≡ asking =
      same_one _ asking (sym shows.asking ∙ ap (λ (t : ℕ). asking_of t (e.more ++ past)) is ∙ asks) in
      record {
        next = is ∙ ap (λ (n : ℕ). n + 1) (sym r.knows.shows.count);
        one = there ∙ ap (λ (n : ℕ). n + 1) (sym r.knows.shows.count);
        seen = seen.0;
        found = seen.1;
        session = ap (λ (a : Asking). a.session) same;
        kind = ap (λ (a : Asking). a.kind) same;
        limit = ap (λ (a : Asking). a.limit) same;
        message = ap (λ (a : Asking). a.message) same;
      }

pub has_view : (s : Setting) (past : Past) (sent : List ℕ) (asking : Asking) (result : Result ℕ AskFault) (core new : HubCore) → Rests s past sent core
    → Asks s past sent asking result core new → HasView asking result core.book new.book
has_view s past sent asking (Ok ticket) core new r a = view_added s past sent asking core new r a.2 ticket a.1
has_view s past sent asking (Err why) core new r a = ap (λ (c : HubCore). c.book) a.1

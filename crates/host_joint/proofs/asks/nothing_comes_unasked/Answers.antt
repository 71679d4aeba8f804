use Rattle.std.proofs.Common.{◌≡◌, ◌≢◌, ◌∙◌, ℕ, List, [], ◌∷◌, Some, None, refl, sym, subst}
use Rattle.tmc_law.specs.Endpoint.{BulkIn}
use Rattle.tmc_law.specs.State.{Pending, Transfer}
use Rattle.tmc_law.specs.Reached.{GoesOn}
use Rattle.host_joint.specs.Lines.{Event, events_of, sent_to}
use Rattle.host_joint.specs.Reads.{InLine, gives}
use Rattle.host_joint.proofs.Hosting.{own_event}
use Rattle.host_joint.proofs.Handing.{none_front}
use Rattle.host_joint.proofs.Setting.{still_flow, still_read}
use Rattle.host_joint.proofs.asks.nothing_comes_unasked.Goals as goal

pub returns-clause-reads : goal.returns-clause-reads
returns-clause-reads c ask ups head answer transferred downs s own none some a =
    still_read s.halted.bulk_in ask.gone a.flow ask.read head answer transferred (gives (events_of BulkIn downs)) (sent_to BulkIn ups) s.bulk_in
    (still_flow ask.last ask.message ask.tag ask.size a.past a.todo ask.sofar a.flow s (none_front a.past a.todo a.hit (sym none ∙ a.whole)).0 some a.stage)
    (subst (λ (l : List Event). InLine s.halted.bulk_in ask.gone a.flow ask.read (gives l) (sent_to BulkIn ups) s.bulk_in) (own_event BulkIn head answer transferred downs own) a.ins)

pub returns-clause-packets : goal.returns-clause-packets
returns-clause-packets c run s message first behind reached waits line =
    let order = c.transfers_are_in_order.ensures run s reached in
    let free = (order.waits message waits).1 in
    (free, none first.moved (λ some. began (subst (λ (q : List Pending). GoesOn q s.transfer) line order.goes_on some) free))
  where
    began : {P : Transfer → Type 0} → (transfer : Transfer) × (s.transfer ≡ Some transfer) × P transfer → s.transfer ≡ None → ⊥
    began h free = let e : None ≡ Some h.0 = sym free ∙ h.1 in cc

    none : (l : List ℕ) → (l ≢ [] → ⊥) → l ≡ []
    none [] h = refl
    none (x ∷ l) h = absurd (h (λ e. cc))

-- a request of a recovery that is written, taken in and answered, in two steps
use Rattle.std.proofs.Common.{◌≡◌, List, [], ◌∷◌, ◌++◌, refl, sym, subst}
use Rattle.std.proofs.lemmas.Bool.{eq-eqb}
use Rattle.usbip_wire.specs.declared.submit.SubmitHead.{SubmitHead}
use Rattle.usbip_wire.specs.Up as up
use Rattle.tmc_wire.specs.declared.class_request.ClassRequest.{ClassRequest}
use Rattle.tmc_law.specs.Endpoint.{Endpoint, Control}
use Rattle.tmc_law.specs.State.{State, start}
use Rattle.tmc_law.specs.Put.{Put}
use Rattle.tmc_law.specs.Step.{Comes, Answer}
use Rattle.tmc_law.specs.Run.{Entry, Runs}
use Rattle.tmc_law.specs.WorkedSession.{submits, step}
use Rattle.host_joint.specs.Lines.{sent_to, events_of, Fitting}
use Rattle.host_joint.specs.Positions.{Position, IsAt}
use Rattle.host_joint.specs.Requests as recovery
use Rattle.host_joint.specs.Requests.{Choice, RequestAt, RequestStays, ClearHaltStays, IsClass, IsClearHalt, NoBulk}

abbrev Joins : Type 0
Joins = (a b : List Entry) (s m t : State) → Runs s a m → Runs m b t → Runs s (a ++ b) t

own_sent : (head : SubmitHead) → head.ep ≡ 0 → sent_to Control (up.Submit head [] ∷ []) ≡ record { head = head; transferred = [] } ∷ []
own_sent head own = rw (eq-eqb head.ep 0 own) refl

no_bulk : (head : SubmitHead) → head.ep ≡ 0 → NoBulk (up.Submit head [] ∷ [])
no_bulk head own = record { outs = rw own refl; ins = rw own refl; unlinks = refl }

pub class_run : (request : ClassRequest) (position : Position) (one other : Choice) → RequestStays request position one other → Joins → (head : SubmitHead) → IsClass head request → Fitting head
    → (before : List Entry) (puts : List Put) (s t : State) → Runs start before s → IsAt position s → s.control ≡ [] → Runs s (submits head [] ∷ step Answer puts ∷ []) t
    → RequestAt head position one other [] (events_of Control puts) t
class_run request position one other stays joins head is fits before puts s t reached at free r =
    let pending = stays before head [] [] [] s r.0 (Comes (up.Submit head [])) reached is (no_bulk head is.number) (fits, tt) tt r.1 (recovery.Comes (own_sent head is.number) refl free at) in
    subst (λ (x : State). RequestAt head position one other [] (events_of Control puts) x) (sym r.2.2)
    (stays (before ++ submits head [] ∷ []) head [] [] puts r.0 r.2.0 Answer (joins before (submits head [] ∷ []) start s r.0 reached (r.0, r.1, refl)) is (record { outs = refl; ins = refl; unlinks = refl }) tt tt r.2.1 pending)

pub clear_halt_run : (e : Endpoint) (position : Position) (one other : Choice) → ClearHaltStays e position one other → Joins → (head : SubmitHead) → IsClearHalt head e → Fitting head
    → (before : List Entry) (puts : List Put) (s t : State) → Runs start before s → IsAt position s → s.control ≡ [] → Runs s (submits head [] ∷ step Answer puts ∷ []) t
    → RequestAt head position one other [] (events_of Control puts) t
clear_halt_run e position one other stays joins head is fits before puts s t reached at free r =
    let pending = stays before head [] [] [] s r.0 (Comes (up.Submit head [])) reached is (no_bulk head is.number) (fits, tt) tt r.1 (recovery.Comes (own_sent head is.number) refl free at) in
    subst (λ (x : State). RequestAt head position one other [] (events_of Control puts) x) (sym r.2.2)
    (stays (before ++ submits head [] ∷ []) head [] [] puts r.0 r.2.0 Answer (joins before (submits head [] ∷ []) start s r.0 reached (r.0, r.1, refl)) is (record { outs = refl; ins = refl; unlinks = refl }) tt tt r.2.1 pending)

-- the answers that come suit what they answer
use Rattle.std.proofs.Common.{◌≡◌, ◌⊎◌, inl, inr, ℤ, List, [], ◌∷◌, ◌++◌, refl, sym, subst, append_assoc, append-nil}
use Rattle.usbip_wire.specs.Up as up
use Rattle.tmc_law.specs.Endpoint.{Endpoint}
use Rattle.tmc_law.specs.State.{State, Pending, queue_of, start}
use Rattle.tmc_law.specs.Put.{Put, success, stalled, unplugged}
use Rattle.tmc_law.specs.Reached.{AllFit}
use Rattle.tmc_law.specs.AnswerFits.{AllAnswers, IsAnswer, ToPending, ToArriving, ToUnlink, StatusBy, FitsAsked}
use Rattle.tmc_law.specs.Step.{Move, Comes, Refuses, Take, Exec, Begin, Fill, Answer, Pend, Poll, Notify, Halt, Unplug, Steps}
use Rattle.tmc_law.specs.Run.{Entry, Runs, taken, inputs, outputs}
use Rattle.host_joint.specs.Lines.{AllFitting}
use Rattle.host_joint.specs.Given.{Suits}
use Rattle.host_joint.proofs.Flows.{fitting_behind}
use Rattle.host_joint.proofs.Tying.{stands_at, arriving_fits}

-- what this asks of the laws
pub record SuitLaws : Type 0 where
  pub answers : (run : List Entry) (s t : State) (move : Move) (puts : List Put) → Runs start run s → Steps s move puts t → AllAnswers (IsAnswer s move t) puts
  pub fit : (run : List Entry) (s t : State) (move : Move) (puts : List Put) → Runs start run s → Steps s move puts t → AllAnswers FitsAsked puts
  pub stand : (run : List Entry) (s : State) (endpoint : Endpoint) → Runs start run s → AllFit endpoint (queue_of endpoint s)
  pub joins : (a b : List Entry) (s m t : State) → Runs s a m → Runs m b t → Runs s (a ++ b) t

status_of : (move : Move) (status : ℤ) → StatusBy move status → (status ≡ success) ⊎ ((status ≡ stalled) ⊎ (status ≡ unplugged))
status_of (Comes (up.Submit head transferred)) status h = inr (inl h)
status_of (Comes (up.Unlink head)) status h = inl h
status_of (Refuses devid bytes f) status h = absurd h
status_of (Take count) status (inl h) = inl h
status_of (Take count) status (inr h) = inr (inl h)
status_of Exec status h = absurd h
status_of (Begin count) status h = absurd h
status_of (Fill count) status (inl h) = inl h
status_of (Fill count) status (inr h) = inr (inl h)
status_of Answer status (inl h) = inl h
status_of Answer status (inr h) = inr (inl h)
status_of Pend status h = inl h
status_of Poll status h = absurd h
status_of Notify status (inl h) = inl h
status_of Notify status (inr h) = inr (inl h)
status_of (Halt e) status h = inr (inl h)
status_of Unplug status h = inr (inr h)

suits_one : (s t : State) (move : Move) (ups : List up.Message) (put : Put) → ((e : Endpoint) → AllFit e (queue_of e s)) → AllFitting (taken move ++ ups) → IsAnswer s move t put → FitsAsked put → Suits put
suits_one s t move ups put stand fit (ToPending e before submit behind status moved line is within by stall packet) fits =
    let at = stands_at e before submit behind (subst (λ (q : List Pending). AllFit e q) line (stand e)) in
    subst (λ (p : Put). Suits p) (sym is) (record {
      fitting = record { endpoint = e; number = at.number; way = at.way };
      fits = subst (λ (p : Put). FitsAsked p) is fits;
      status = status_of move status by;
    })
suits_one s t move ups put stand fit (ToArriving head transferred comes is) fits =
    subst (λ (p : Put). Suits p) (sym is) (record { fitting = arriving_fits head transferred move ups comes fit; fits = subst (λ (p : Put). FitsAsked p) is fits; status = inr (inl refl) })
suits_one s t move ups put stand fit (ToUnlink head status comes is what) fits =
    subst (λ (p : Put). Suits p) (sym is) (record { fits = subst (λ (p : Put). FitsAsked p) is fits; status = what })

suits_all : (s t : State) (move : Move) (ups : List up.Message) (puts : List Put) → ((e : Endpoint) → AllFit e (queue_of e s)) → AllFitting (taken move ++ ups)
    → AllAnswers (IsAnswer s move t) puts → AllAnswers FitsAsked puts → AllAnswers Suits puts
suits_all s t move ups [] stand fit are fits = tt
suits_all s t move ups (put ∷ puts) stand fit are fits = (suits_one s t move ups put stand fit are.0 fits.0, suits_all s t move ups puts stand fit are.1 fits.1)

suits_more : (a b : List Put) → AllAnswers Suits a → AllAnswers Suits b → AllAnswers Suits (a ++ b)
suits_more [] b h k = k
suits_more (x ∷ a) b h k = (h.0, suits_more a b h.1 k)

pub suits_run : (laws : SuitLaws) (before run : List Entry) (ups : List up.Message) (downs : List Put) (s t : State) → Runs start before s → Runs s run t
    → AllFitting (inputs run ++ ups) → AllAnswers Suits downs → AllAnswers Suits (downs ++ outputs run)
suits_run laws before [] ups downs s t reached goes fit suits = subst (λ (l : List Put). AllAnswers Suits l) (sym (append-nil downs)) suits
suits_run laws before (entry ∷ run) ups downs s t reached goes fit suits =
    let here : AllFitting (taken entry.move ++ (inputs run ++ ups)) = subst (λ (l : List up.Message). AllFitting l) (append_assoc (taken entry.move) (inputs run) ups) fit in
    let new = suits_all s goes.0 entry.move (inputs run ++ ups) entry.puts (λ e. laws.stand before s e reached) here (laws.answers before s goes.0 entry.move entry.puts reached goes.1) (laws.fit before s goes.0 entry.move entry.puts reached goes.1) in
    subst (λ (l : List Put). AllAnswers Suits l) (append_assoc downs entry.puts (outputs run))
    (suits_run laws (before ++ entry ∷ []) run ups (downs ++ entry.puts) goes.0 t (laws.joins before (entry ∷ []) start s goes.0 reached (goes.0, goes.1, refl)) goes.2
    (fitting_behind (taken entry.move) (inputs run ++ ups) here) (suits_more downs entry.puts suits new))

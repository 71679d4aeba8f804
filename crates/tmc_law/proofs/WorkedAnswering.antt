-- how the first control submit of a worked run is answered
use Rattle.std.proofs.Common.{◌≡◌, List, [], ◌∷◌, refl}
use Rattle.usb_setup.specs.declared.setup.Setup.{Setup}
use Rattle.tmc_wire.specs.declared.class_request.ClassRequest.{ClassRequest}
use Rattle.tmc_wire.specs.ControlTable.{TagFits, row}
use Rattle.tmc_law.specs.Endpoint.{ends}
use Rattle.tmc_law.specs.State.{State, Pending, Plugged}
use Rattle.tmc_law.specs.Control.{Asks, control_answer}
use Rattle.tmc_law.specs.Aborts.{Served}
use Rattle.tmc_law.specs.Class.{Serves, ByClass, ByStandard}
use Rattle.tmc_law.specs.Standard.{Standard, IsStandard, standard_layout, standard_effect}
use Rattle.tmc_law.specs.Step.{Steps, Answer}

-- a class request, as the row of its table says it
pub answers_class : (s : State) (submit : Pending) (behind : List Pending) (request : ClassRequest) (served : Served) → s.presence ≡ Plugged → s.control ≡ submit ∷ behind
    → Asks submit (row ends request) → TagFits request → Serves request submit (record s { control = behind }) served
    → Steps s Answer (control_answer submit (row ends request) served.layout ∷ served.behind) served.state
answers_class s submit behind request served plugged first asks fits serves = record {
  plugged = plugged;
  leads = ByClass submit behind (row ends request) request served first asks (record { fits = fits; is = refl }) serves refl refl;
}

-- a standard request
pub answers_standard : (s : State) (submit : Pending) (behind : List Pending) (setup : Setup) (request : Standard) → s.presence ≡ Plugged → s.control ≡ submit ∷ behind
    → Asks submit setup → IsStandard request setup
    → Steps s Answer (control_answer submit setup (standard_layout request s) ∷ []) (standard_effect request (record s { control = behind }))
answers_standard s submit behind setup request plugged first asks is = record {
  plugged = plugged;
  leads = ByStandard submit behind setup request first asks is refl refl;
}

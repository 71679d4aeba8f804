-- a class request is served
use Rattle.std.proofs.Common.{◌≡◌, List, ◌∷◌, ◌++◌, subst}
use Rattle.usb_setup.specs.declared.setup.Setup.{Setup}
use Rattle.tmc_law.specs.State.{State, Pending}
use Rattle.tmc_law.specs.Control.{control_answer}
use Rattle.tmc_law.specs.Aborts.{Served}
use Rattle.tmc_device.specs.Seen.{Seen}
use Rattle.tmc_device.specs.Control.{IsServed}

-- what is served is this
pub served_as : (Serves : State → Served → Type 0) (submit : Pending) (behind : List Pending) (setup : Setup) (old new : Seen) (v w : Served)
    → Serves (record old.state { control = behind }) v → v ≡ w
    → new.puts ≡ old.puts ++ control_answer submit setup w.layout ∷ w.behind → new.state ≡ w.state
    → IsServed Serves submit behind setup old new
served_as Serves submit behind setup old new v w serves is puts state = record {
  served = w;
  serves = subst (λ (z : Served). Serves (record old.state { control = behind }) z) is serves;
  joins = puts;
  is = state;
}

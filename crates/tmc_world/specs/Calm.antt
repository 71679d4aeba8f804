-- acts of an instrument, and events of a script, that disturb nothing
use Rattle.std.specs.Prelude.{List, [], ◌∷◌}
use Rattle.tmc_law.specs.declared.dev_event.DevEvent.{DevEvent}
use Rattle.tmc_law.specs.declared.dev_event.DevEvent.TheVariants as device
use Rattle.tmc_law.specs.Run.{Entry}
use Rattle.event_text.specs.declared.event.Event.{Event}
use Rattle.event_text.specs.declared.event.Event.TheVariants as event
use Rattle.host_joint.specs.Tie.{IsUndisturbed}

-- every act but a halt and an unplugging
abbrev pub IsCalmAct : DevEvent → Type 0
IsCalmAct (device.Halt ep) = ⊥
IsCalmAct device.Unplug = ⊥
IsCalmAct does = Unit {0}

abbrev pub AreCalmActs : List DevEvent → Type 0
AreCalmActs [] = Unit {0}
AreCalmActs (does ∷ others) = IsCalmAct does × AreCalmActs others

-- where these were all acts, and calm ones, nothing disturbs the instrument in this run
abbrev pub IsQuiet : List DevEvent → List Entry → Type 0
IsQuiet acts run = AreCalmActs acts → IsUndisturbed run

-- every line of a script but `halt` and `unplug`
abbrev pub IsCalmEvent : Event → Type 0
IsCalmEvent (event.Dev does) = IsCalmAct does
IsCalmEvent does = Unit {0}

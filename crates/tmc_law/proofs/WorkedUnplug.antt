-- submits on all endpoints, and then the device is unplugged, step by step
use Rattle.std.proofs.Common.{[], ◌∷◌, refl}
use Rattle.tmc_law.specs.State.{State, start, arrived, Unplugged}
use Rattle.tmc_law.specs.Run.{Runs}
use Rattle.tmc_law.specs.WorkedSession.{out_submit, in_submit, notify_submit}
use Rattle.tmc_law.specs.WorkedQuery.{query_text}
use Rattle.tmc_law.specs.WorkedUnplug.{pulse_submit, unplugging}
use Rattle.tmc_law.proofs.WorkedComing.{out_comes, in_comes, notify_comes, asking_comes}

abbrev notify_came : State
notify_came = record start { interrupt_in = arrived (notify_submit 1 8) [] ∷ [] }

abbrev in_came : State
in_came = record notify_came { bulk_in = arrived (in_submit 2 4096) [] ∷ [] }

abbrev out_came : State
out_came = record in_came { bulk_out = arrived (out_submit 3 20) query_text ∷ [] }

abbrev pulse_came : State
pulse_came = record out_came { control = arrived pulse_submit [] ∷ [] }

pub unplugs : Runs start unplugging (record start { presence = Unplugged })
unplugs = (
  notify_came,
  notify_comes start 1 8 (record { plugged = refl; free = refl; few = refl }) refl refl,
  (
    in_came,
    in_comes notify_came 2 4096 (record { plugged = refl; free = refl; few = refl }) refl refl,
    (
      out_came,
      out_comes in_came 3 20 query_text (record { plugged = refl; free = refl; few = refl }) refl refl,
      (
        pulse_came,
        asking_comes out_came 4 1 0xA1 _ (record { plugged = refl; free = refl; few = refl }) refl refl,
        (record start { presence = Unplugged }, record { plugged = refl; leads = record { answered = refl; is = refl } }, refl),
      ),
    ),
  ),
)

-- an example trigger, one whose endpoint halts, and one whose device is unplugged
use Rattle.std.specs.Prelude.{List, [], ◌∷◌, true, false}
use Rattle.tmc_wire.specs.declared.header.OutHeader.TheVariants.{Trigger}
use Rattle.tmc_law.specs.Endpoint.{BulkOut}
use Rattle.instr_plain.specs.Standing.{power_on, at_power_on}
use Rattle.tmc_law.specs.State.{State, Unplugged, start}
use Rattle.tmc_law.specs.Put.{stalled, unplugged}
use Rattle.tmc_law.specs.Step.{Halt, Unplug}
use Rattle.tmc_law.specs.Run.{Entry}
use Rattle.tmc_law.specs.WorkedSession.{out_submit, submits, step, answered}
use Rattle.tmc_law.specs.WorkedTrigger.{trigger_text, trigger_log}
use Rattle.host_joint.specs.Jobs.{Job}

abbrev pub trigger_job : Job
trigger_job = record { head = out_submit 1 12; header = Trigger 1; message = []; bytes = trigger_text }

-- the device behind it
abbrev pub triggered : State
triggered = record start { log = trigger_log; standing = record at_power_on { state = record power_on { acquisitions = 1 } } }

-- Bulk-OUT halts before it was taken
abbrev pub shutting : List Entry
shutting = submits (out_submit 1 12) trigger_text ∷ step (Halt BulkOut) (answered (out_submit 1 12) stalled 0 [] ∷ []) ∷ []

abbrev pub shut : State
shut = record start { halted = record { bulk_out = true; bulk_in = false; interrupt_in = false } }

-- the device is unplugged before it was taken
abbrev pub unplugging_trigger : List Entry
unplugging_trigger = submits (out_submit 1 12) trigger_text ∷ step Unplug (answered (out_submit 1 12) unplugged 0 [] ∷ []) ∷ []

abbrev pub unplugged_trigger : State
unplugged_trigger = record start { presence = Unplugged }

use Rattle.usbip_wire.specs.declared.down.DownPhase.TheVariants.{Ops}
use Rattle.usbip_wire.proofs.DownTurns.{turns_determined, turns_again, list_reads, list_again, given_turns}
use Rattle.usbip_wire.proofs.laws.device_lists_are_determined.Goals as goal

pub returns-clause-determined : goal.returns-clause-determined
returns-clause-determined c = λ devices interfaces. turns_determined (Ops devices interfaces)

pub returns-clause-again : goal.returns-clause-again
returns-clause-again c = λ devices interfaces. turns_again (Ops devices interfaces)

pub returns-clause-list : goal.returns-clause-list
returns-clause-list c = list_reads

pub returns-clause-list_again : goal.returns-clause-list_again
returns-clause-list_again c = list_again

pub returns-clause-given : goal.returns-clause-given
returns-clause-given c = given_turns

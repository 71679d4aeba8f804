use Rattle.usbip_wire.specs.DevList.{SpellsPart}
use Rattle.usbip_wire.proofs.Determined.{determined, read_again}
use Rattle.usbip_wire.proofs.Free.{parts_free}
use Rattle.usbip_wire.proofs.laws.parts_are_determined.Goals as goal

pub returns-clause-free : goal.returns-clause-free
returns-clause-free c = parts_free

pub returns-clause-determined : goal.returns-clause-determined
returns-clause-determined c = λ devices interfaces. determined (SpellsPart devices interfaces) (parts_free devices interfaces)

pub returns-clause-again : goal.returns-clause-again
returns-clause-again c = λ devices interfaces. read_again (SpellsPart devices interfaces) (parts_free devices interfaces)

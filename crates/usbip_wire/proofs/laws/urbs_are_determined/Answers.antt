use Rattle.usbip_wire.specs.Up.{Spells}
use Rattle.usbip_wire.proofs.Determined.{determined, read_again}
use Rattle.usbip_wire.proofs.Free.{urbs_free}
use Rattle.usbip_wire.proofs.laws.urbs_are_determined.Goals as goal

pub returns-clause-free : goal.returns-clause-free
returns-clause-free c = urbs_free

pub returns-clause-determined : goal.returns-clause-determined
returns-clause-determined c = λ devid. determined (Spells devid) (urbs_free devid)

pub returns-clause-again : goal.returns-clause-again
returns-clause-again c = λ devid. read_again (Spells devid) (urbs_free devid)

use Rattle.usbip_wire.specs.OpRequest.{SpellsRequest}
use Rattle.usbip_wire.proofs.Determined.{determined, read_again}
use Rattle.usbip_wire.proofs.Free.{requests_free}
use Rattle.usbip_wire.proofs.laws.requests_are_determined.Goals as goal

pub returns-clause-free : goal.returns-clause-free
returns-clause-free c = requests_free

pub returns-clause-determined : goal.returns-clause-determined
returns-clause-determined c = determined SpellsRequest requests_free

pub returns-clause-again : goal.returns-clause-again
returns-clause-again c = read_again SpellsRequest requests_free

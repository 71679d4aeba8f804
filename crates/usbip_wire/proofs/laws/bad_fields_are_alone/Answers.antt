use Rattle.usbip_wire.proofs.Alone.{request_alone, urb_alone, part_alone, answer_alone}
use Rattle.usbip_wire.proofs.laws.bad_fields_are_alone.Goals as goal

pub returns-clause-request : goal.returns-clause-request
returns-clause-request c = request_alone

pub returns-clause-urb : goal.returns-clause-urb
returns-clause-urb c = urb_alone

pub returns-clause-part : goal.returns-clause-part
returns-clause-part c = λ devices interfaces entries. part_alone devices interfaces

pub returns-clause-answer : goal.returns-clause-answer
returns-clause-answer c = answer_alone

use Rattle.usbip_wire.proofs.Places.{bad_request, bad_urb, bad_part, bad_answer}
use Rattle.usbip_wire.proofs.laws.bad_fields_are_refused.Goals as goal

pub returns-clause-request : goal.returns-clause-request
returns-clause-request c = bad_request

pub returns-clause-urb : goal.returns-clause-urb
returns-clause-urb c = bad_urb

pub returns-clause-part : goal.returns-clause-part
returns-clause-part c = λ devices interfaces entries. bad_part devices interfaces

pub returns-clause-answer : goal.returns-clause-answer
returns-clause-answer c = bad_answer

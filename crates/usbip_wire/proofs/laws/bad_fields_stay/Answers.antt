use Rattle.usbip_wire.proofs.FromLast.{requests_from_last, urbs_from_last, parts_from_last, answers_from_last}
use Rattle.usbip_wire.proofs.laws.bad_fields_stay.Goals as goal

pub returns-clause-request : goal.returns-clause-request
returns-clause-request c = requests_from_last

pub returns-clause-urb : goal.returns-clause-urb
returns-clause-urb c = urbs_from_last

pub returns-clause-part : goal.returns-clause-part
returns-clause-part c = λ devices interfaces entries. parts_from_last devices interfaces

pub returns-clause-answer : goal.returns-clause-answer
returns-clause-answer c = answers_from_last

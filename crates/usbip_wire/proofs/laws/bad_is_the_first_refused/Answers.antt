use Rattle.usbip_wire.proofs.Firsts.{request_first, urb_first, part_first, command_first, answer_first}
use Rattle.usbip_wire.proofs.laws.bad_is_the_first_refused.Goals as goal

pub returns-clause-request : goal.returns-clause-request
returns-clause-request c = request_first

pub returns-clause-urb : goal.returns-clause-urb
returns-clause-urb c = urb_first

pub returns-clause-part : goal.returns-clause-part
returns-clause-part c = λ devices interfaces entries. part_first devices interfaces

pub returns-clause-command : goal.returns-clause-command
returns-clause-command c = command_first

pub returns-clause-answer : goal.returns-clause-answer
returns-clause-answer c = answer_first

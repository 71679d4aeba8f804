use Rattle.usbip_wire.proofs.Ranged.{requests_have, urbs_have, parts_have, answers_have}
use Rattle.usbip_wire.proofs.laws.messages_have_spellings.Goals as goal

pub returns-clause-request : goal.returns-clause-request
returns-clause-request c = requests_have

pub returns-clause-urb : goal.returns-clause-urb
returns-clause-urb c = urbs_have

pub returns-clause-part : goal.returns-clause-part
returns-clause-part c = parts_have

pub returns-clause-answer : goal.returns-clause-answer
returns-clause-answer c = answers_have

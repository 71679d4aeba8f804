use Rattle.std.proofs.Common.{arith}
use Rattle.usbip_wire.proofs.DownSpelled.{ops_sound}
use Rattle.usbip_wire.proofs.Begun.{begun, answers_go_on, submit_goes_on, unlink_goes_on}
use Rattle.usbip_wire.proofs.Good.{goes_on}
use Rattle.usbip_wire.specs.DevList.{SpellsPart}
use Rattle.usbip_wire.specs.DownForm.{ops_form}
use Rattle.usbip_wire.specs.JudgedFields.{op_fields, part_fields, urb_fields}
use Rattle.usbip_wire.specs.OpRequest.{SpellsRequest}
use Rattle.usbip_wire.specs.Up.{Spells}
use Rattle.usbip_wire.specs.UpForm.{request_form, urb_form}
use Rattle.usbip_wire.proofs.Lasting.{requests_last, urbs_last, ops_last, request_back, urb_back}
use Rattle.usbip_wire.proofs.Places.{requests_placed, urbs_placed, ops_placed}
use Rattle.usbip_wire.proofs.laws.good_bytes_go_on.Goals as goal

pub returns-clause-request : goal.returns-clause-request
returns-clause-request c = λ rest fits none good. goes_on op_fields request_form SpellsRequest 0 request_back requests_last requests_placed (λ f listed lt. omega arith) rest (omega arith) fits none good

pub returns-clause-urb : goal.returns-clause-urb
returns-clause-urb c = λ devid rest below fits none good. goes_on urb_fields (urb_form devid) (Spells devid) 0 (urb_back devid) (urbs_last devid below) (urbs_placed devid) (λ f listed lt. omega arith) rest (omega arith) fits none good

pub returns-clause-part : goal.returns-clause-part
returns-clause-part c = λ devices interfaces entries rest fits none good. goes_on (part_fields devices interfaces) (ops_form devices interfaces) (SpellsPart devices interfaces) 0 (λ what bytes s. (what, ops_sound devices interfaces what bytes s)) (ops_last devices interfaces) (ops_placed devices interfaces) (λ f listed lt. omega arith) rest (omega arith) fits none good

pub returns-clause-answer : goal.returns-clause-answer
returns-clause-answer c = answers_go_on

pub returns-clause-submit : goal.returns-clause-submit
returns-clause-submit c = submit_goes_on

pub returns-clause-unlink : goal.returns-clause-unlink
returns-clause-unlink c = unlink_goes_on

pub returns-clause-begun : goal.returns-clause-begun
returns-clause-begun c = begun

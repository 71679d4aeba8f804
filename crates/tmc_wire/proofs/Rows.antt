-- the only candidate of a row's setup is the row's request
use Rattle.std.proofs.Common.{◌≡◌, Option, Some, sym, ap, ◌∙◌}
use Rattle.usb_setup.specs.declared.setup.Setup.{Setup}
use Rattle.usb_setup.specs.declared.ends.Ends.{Ends}
use Rattle.tmc_wire.specs.declared.class_request.ClassRequest.{ClassRequest}
use Rattle.tmc_wire.specs.ControlTable.{IsRow}
use Rattle.tmc_wire.specs.Candidate.{IsOnly}

some_is : (a b : ClassRequest) → (let x : Option ClassRequest = Some a in x) ≡ Some b → a ≡ b
some_is a b e = cc

pub same_request : (ends : Ends) (setup : Setup) (request found : ClassRequest) (answer : Option ClassRequest)
    → IsRow ends request setup → IsOnly setup.request setup.value answer → answer ≡ Some found → found ≡ request
same_request ends setup request found answer k only was =
    some_is found request (sym was ∙ only ends request k.fits (ap (λ (s : Setup). s.request) k.is) (ap (λ (s : Setup). s.value) k.is))

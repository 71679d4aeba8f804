-- which request a setup may be by its bRequest and wValue: for the contract of one of the reader's own functions
use Rattle.std.specs.Prelude.{◌≡◌, ℕ, Option, Some}
use Rattle.usb_setup.specs.declared.ends.Ends.{Ends}
use Rattle.tmc_wire.specs.declared.class_request.ClassRequest.{ClassRequest}
use Rattle.tmc_wire.specs.ControlTable.{row, TagFits}

-- the row has this bRequest
abbrev pub HasCode : ℕ → ClassRequest → Type 0
HasCode code request = (ends : Ends) → code ≡ (row ends request).request

-- no other request has a row with this bRequest and wValue
abbrev pub IsOnly : (code value : ℕ) → Option ClassRequest → Type 0
IsOnly code value answer =
    (ends : Ends) (request : ClassRequest) → TagFits request → code ≡ (row ends request).request → value ≡ (row ends request).value → answer ≡ Some request

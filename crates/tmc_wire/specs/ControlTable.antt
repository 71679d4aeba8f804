-- the table of class requests: USBTMC 1.0 section 4.2.1 (table 15), USB488 1.0 section 4.3 (table 9)
use Rattle.std.specs.Prelude.{◌≡◌, ℕ, ◌<◌, true, false}
use Rattle.usb_setup.specs.declared.setup.Setup.{Setup}
use Rattle.usb_setup.specs.declared.ends.Ends.{Ends}
use Rattle.tmc_wire.specs.declared.class_request.ClassRequest.{ClassRequest}
use Rattle.tmc_wire.specs.declared.class_request.ClassRequest.TheVariants.{AbortOut, CheckOut, AbortIn, CheckIn, Clear, CheckClear, Capabilities, Pulse, ReadStatus, Ren, GoLocal, Lockout}

-- a row's fields in the order of the standard's tables of setups
abbrev pub fields : (bmRequestType bRequest wValue wIndex wLength : ℕ) → Setup
fields bmRequestType bRequest wValue wIndex wLength =
    record { request_type = bmRequestType; request = bRequest; value = wValue; index = wIndex; length = wLength }

-- bmRequestType is 0xA2 for a request to an endpoint, with its address in wIndex, and 0xA1 for one to the
-- interface, with its number in wIndex; wLength is the length of the answer
abbrev pub row : Ends → ClassRequest → Setup
-- INITIATE_ABORT_BULK_OUT
row ends (AbortOut tag) = fields 0xA2 1 tag ends.bulk_out 2
-- CHECK_ABORT_BULK_OUT_STATUS
row ends CheckOut = fields 0xA2 2 0 ends.bulk_out 8
-- INITIATE_ABORT_BULK_IN
row ends (AbortIn tag) = fields 0xA2 3 tag ends.bulk_in 2
-- CHECK_ABORT_BULK_IN_STATUS
row ends CheckIn = fields 0xA2 4 0 ends.bulk_in 8
-- INITIATE_CLEAR
row ends Clear = fields 0xA1 5 0 ends.interface 1
-- CHECK_CLEAR_STATUS
row ends CheckClear = fields 0xA1 6 0 ends.interface 2
-- GET_CAPABILITIES
row ends Capabilities = fields 0xA1 7 0 ends.interface 24
-- INDICATOR_PULSE
row ends Pulse = fields 0xA1 64 0 ends.interface 1
-- READ_STATUS_BYTE
row ends (ReadStatus tag) = fields 0xA1 128 tag ends.interface 3
-- REN_CONTROL
row ends (Ren true) = fields 0xA1 160 1 ends.interface 1
row ends (Ren false) = fields 0xA1 160 0 ends.interface 1
-- GO_TO_LOCAL
row ends GoLocal = fields 0xA1 161 0 ends.interface 1
-- LOCAL_LOCKOUT
row ends Lockout = fields 0xA1 162 0 ends.interface 1

-- a tag is the low byte of wValue, whose high byte is 0
abbrev pub TagFits : ClassRequest → Type 0
TagFits (AbortOut tag) = tag < 256
TagFits (AbortIn tag) = tag < 256
TagFits (ReadStatus tag) = tag < 256
TagFits _ = Unit {0}

-- the setup is the request's row, with any wLength: the host may want fewer bytes than the answer has
pub record IsRow (ends : Ends) (request : ClassRequest) (setup : Setup) : Type 0 where
  pub fits : TagFits request
  pub is : setup ≡ record (row ends request) { length = setup.length }

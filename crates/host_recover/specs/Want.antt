-- what a recovery wants, and what it hears of that
use Rattle.std.specs.Prelude.{ℕ, Option, Some, None}
use Rattle.usb_setup.specs.declared.ends.Ends.{Ends}
use Rattle.usb_setup.specs.declared.setup.Setup.{Setup}
use Rattle.tmc_wire.specs.ControlTable.{row, fields}
use Rattle.host_recover.specs.declared.want.Heard.{Heard}
use Rattle.host_recover.specs.declared.want.Heard.TheVariants as heard
use Rattle.host_recover.specs.declared.want.Want.{Want}
use Rattle.host_recover.specs.declared.want.Want.TheVariants as want
use Rattle.host_recover.specs.Letter.{Letter, Asked, Cleared, Drained, Endpoint, BulkIn, Notify, BulkOut, Submit, Ask, Clear, Read, Full, Short, Faulty, says_of}

abbrev pub notify_address : Option ℕ → ℕ
notify_address None = 0
notify_address (Some address) = address

-- the address of an endpoint of the interface
abbrev pub address_of : Ends → Endpoint → ℕ
address_of ends BulkIn = ends.bulk_in
address_of ends Notify = notify_address ends.notify
address_of ends BulkOut = ends.bulk_out

-- CLEAR_FEATURE of ENDPOINT_HALT (USB 2.0, section 9.4.1, tables 9-4 and 9-6)
abbrev pub clear_halt_setup : (address : ℕ) → Setup
clear_halt_setup address = fields 0x02 1 0 address 0

-- the want that is this submit
abbrev pub want_of : Ends → Submit → Want
want_of ends (Ask request) = want.Control (row ends request)
want_of ends (Clear endpoint) = want.Control (clear_halt_setup (address_of ends endpoint))
want_of ends Read = want.Drain

-- the letter that a submit becomes by what is heard of it, where that answers it
abbrev pub heard_as : Submit → Heard → Option Letter
heard_as (Ask request) (heard.Class answer) = Some (Asked request (says_of request answer.status answer.second))
heard_as (Clear endpoint) heard.Feature = Some (Cleared endpoint)
heard_as Read heard.FullRead = Some (Drained Full)
heard_as Read heard.ShortRead = Some (Drained Short)
heard_as Read heard.FailedRead = Some (Drained Faulty)
heard_as submit other = None

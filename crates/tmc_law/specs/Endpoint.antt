-- the endpoints of the instrument (USB 2.0, section 5.3.1, and the descriptors of section 9.6.6)
use Rattle.std.specs.Prelude.{ℕ, nat_lt, if◌then◌else◌, Some}
use Rattle.usb_setup.specs.declared.ends.Ends.{Ends}
use Rattle.usb_setup.specs.Identity as identity
use Rattle.usbip_wire.specs.declared.urb.Dir.{Dir}
use Rattle.usbip_wire.specs.declared.urb.Dir.TheVariants as dir

pub data Endpoint : Type 0 where
  Control : Endpoint
  BulkOut : Endpoint
  BulkIn : Endpoint
  InterruptIn : Endpoint

-- the number by which a submit names it
abbrev pub number_of : Endpoint → ℕ
number_of Control = 0
number_of BulkOut = 1
number_of BulkIn = 2
number_of InterruptIn = 3

-- the address by which a control request names it: bit 7 is set where data goes to the host
abbrev pub address_of : Endpoint → ℕ
address_of Control = 0x00
address_of BulkOut = identity.bulk_out.bEndpointAddress
address_of BulkIn = identity.bulk_in.bEndpointAddress
address_of InterruptIn = identity.interrupt_in.bEndpointAddress

-- what the instrument's descriptors say of its endpoints, and so the numbers in class requests
abbrev pub ends : Ends
ends = record {
  configuration = identity.own_configuration.bConfigurationValue;
  interface = identity.own_interface.bInterfaceNumber;
  protocol = identity.own_interface.bInterfaceProtocol;
  bulk_out = address_of BulkOut;
  bulk_in = address_of BulkIn;
  notify = Some (address_of InterruptIn);
  notify_size = identity.interrupt_in.wMaxPacketSize;
}

-- a bulk packet has at most so many bytes (wMaxPacketSize), and a shorter one ends a transfer (USB 2.0, section 5.8.3)
abbrev pub packet_size : ℕ
packet_size = identity.bulk_out.wMaxPacketSize

-- bit 7 of bmRequestType says which way the data of a control request goes (USB 2.0, table 9-2)
abbrev pub way_of_request : ℕ → Dir
way_of_request request_type = if nat_lt request_type 128 then dir.Out else dir.In

-- which way data goes at an endpoint
abbrev pub way_of : Endpoint → (request_type : ℕ) → Dir
way_of Control request_type = way_of_request request_type
way_of BulkOut request_type = dir.Out
way_of BulkIn request_type = dir.In
way_of InterruptIn request_type = dir.In

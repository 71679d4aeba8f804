-- what the scan of a list has found so far: for the contracts of the scan's own functions, no public one
use Rattle.std.specs.Prelude.{◌≡◌, ℕ, List, [], ◌++◌, Bool, true, false, Option, Some, None, Result, Ok, Err, option_map, find, if◌then◌else◌}
use Rattle.std.specs.List.{concat, list_any, AllByRecursion}
use Rattle.std.specs.Option.{option_or, option_map_or}
use Rattle.usb_setup.specs.declared.ends.Ends.{Ends}
use Rattle.usb_setup.specs.declared.desc_fault.DescFault.{DescFault}
use Rattle.usb_setup.specs.declared.desc_fault.DescFault.TheVariants.{Length, NoInterface, NoBulkOut, NoBulkIn}
use Rattle.usb_setup.specs.declared.descriptor.Interface.{Interface}
use Rattle.usb_setup.specs.declared.descriptor.Endpoint.{Endpoint}
use Rattle.usb_setup.specs.declared.scan.Pipes.{Pipes}
use Rattle.usb_setup.specs.declared.scan.Scan.{Scan}
use Rattle.usb_setup.specs.declared.scan.Scan.TheVariants.{Before, Within, Behind}
use Rattle.usb_setup.specs.Descriptors.{bInterfaceNumber, bInterfaceProtocol, bEndpointAddress, bmAttributes, wMaxPacketSize, IsDescriptor, IsBadAt}
use Rattle.usb_setup.specs.Interface.{is_interface, is_tmc, is_bulk_out, is_bulk_in, is_interrupt_in, IsFirst, own_part}

-- the parts of a descriptor that the scan keeps
abbrev pub interface_of : List ℕ → Interface
interface_of d = record { number = bInterfaceNumber d; protocol = bInterfaceProtocol d }

abbrev pub endpoint_of : List ℕ → Endpoint
endpoint_of d = record { address = bEndpointAddress d; attributes = bmAttributes d; max_packet_size = wMaxPacketSize d }

-- the first endpoint of each kind in a list
abbrev pub pipes_of : List (List ℕ) → Pipes
pipes_of ds = record {
  bulk_out = option_map endpoint_of (find is_bulk_out ds);
  bulk_in = option_map endpoint_of (find is_bulk_in ds);
  interrupt_in = option_map endpoint_of (find is_interrupt_in ds);
}

-- the descriptor's endpoint, where it is one of the kind
abbrev pub if_kind : (List ℕ → Bool) → List ℕ → Option Endpoint
if_kind is_kind d = if is_kind d then Some (endpoint_of d) else None

-- the first endpoints after one more descriptor
abbrev pub pipes_with : Pipes → List ℕ → Pipes
pipes_with pipes d = record {
  bulk_out = option_or pipes.bulk_out (if_kind is_bulk_out d);
  bulk_in = option_or pipes.bulk_in (if_kind is_bulk_in d);
  interrupt_in = option_or pipes.interrupt_in (if_kind is_interrupt_in d);
}

-- the scan after one more descriptor
abbrev pub scan_after : Scan → List ℕ → Scan
scan_after Before d = if is_tmc d then Within (interface_of d) (pipes_of []) else Before
scan_after (Within interface pipes) d =
    if is_interface d then Behind interface pipes else Within interface (pipes_with pipes d)
scan_after (Behind interface pipes) d = Behind interface pipes

-- the descriptors so far have this first interface with these endpoints, and another interface behind it or not
pub record HasFound (ds : List (List ℕ)) (interface : Interface) (pipes : Pipes) (another : Bool) : Type 0 where
  pub before : List (List ℕ)
  pub text : List ℕ
  pub behind : List (List ℕ)
  pub first : IsFirst ds before text behind
  pub interface_is : interface ≡ interface_of text
  pub pipes_are : pipes ≡ pipes_of (own_part behind)
  pub another_is : list_any is_interface behind ≡ another

-- what the scan says of the descriptors so far
abbrev pub HasScanned : List (List ℕ) → Scan → Type 0
HasScanned ds Before = list_any is_tmc ds ≡ false
HasScanned ds (Within interface pipes) = HasFound ds interface pipes false
HasScanned ds (Behind interface pipes) = HasFound ds interface pipes true

-- the scan of the bytes up to this rest
pub record HasScannedTo (bytes rest : List ℕ) (scan : Scan) : Type 0 where
  pub front : List (List ℕ)
  pub in_row : bytes ≡ concat front ++ rest
  pub each : AllByRecursion IsDescriptor front
  pub scanned : HasScanned front scan

-- a scan ends before the end of the bytes at a bad length alone
abbrev pub HasStopped : List ℕ → DescFault → Type 0
HasStopped bytes (Length at) = IsBadAt bytes at
HasStopped bytes NoInterface = ⊥
HasStopped bytes NoBulkOut = ⊥
HasStopped bytes NoBulkIn = ⊥

-- the ends of an interface with these endpoints, or the first that it lacks
abbrev pub ends_by : ℕ → Interface → Option Endpoint → Option Endpoint → Option Endpoint → Result Ends DescFault
ends_by configuration interface None bulk_in interrupt_in = Err NoBulkOut
ends_by configuration interface (Some bulk_out) None interrupt_in = Err NoBulkIn
ends_by configuration interface (Some bulk_out) (Some bulk_in) interrupt_in = Ok (record {
  configuration = configuration;
  interface = interface.number;
  protocol = interface.protocol;
  bulk_out = bulk_out.address;
  bulk_in = bulk_in.address;
  notify = option_map (λ (e : Endpoint). e.address) interrupt_in;
  notify_size = option_map_or (λ (e : Endpoint). e.max_packet_size) interrupt_in 0;
})

abbrev pub ends_with : ℕ → Interface → Pipes → Result Ends DescFault
ends_with configuration interface pipes =
    ends_by configuration interface pipes.bulk_out pipes.bulk_in pipes.interrupt_in

abbrev pub ends_of : ℕ → Scan → Result Ends DescFault
ends_of configuration Before = Err NoInterface
ends_of configuration (Within interface pipes) = ends_with configuration interface pipes
ends_of configuration (Behind interface pipes) = ends_with configuration interface pipes

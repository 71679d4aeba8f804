-- the USBTMC interface in a list of descriptors
use Rattle.std.specs.Prelude.{◌≡◌, ℕ, List, ◌∷◌, ◌++◌, Bool, true, false, not, ◌&&◌, ◌||◌, ◌==◌, Option, Some, None, option_map, find, take_while, bit_and}
use Rattle.std.specs.List.{list_any}
use Rattle.std.specs.Option.{option_map_or}
use Rattle.usb_setup.specs.declared.ends.Ends.{Ends}
use Rattle.usb_setup.specs.declared.desc_fault.DescFault.{DescFault}
use Rattle.usb_setup.specs.declared.desc_fault.DescFault.TheVariants.{Length, NoInterface, NoBulkOut, NoBulkIn}
use Rattle.usb_setup.specs.Standard.{interface_type, endpoint_type}
use Rattle.usb_setup.specs.Descriptors.{bDescriptorType, bConfigurationValue, bInterfaceNumber, bInterfaceClass, bInterfaceSubClass, bInterfaceProtocol, bEndpointAddress, bmAttributes, wMaxPacketSize, AreDescriptors, IsBrokenAt}

abbrev pub is_interface : List ℕ → Bool
is_interface d = bDescriptorType d == interface_type

abbrev pub is_endpoint : List ℕ → Bool
is_endpoint d = bDescriptorType d == endpoint_type

-- USBTMC 1.0: class 0xFE (application specific), subclass 3, protocol 0, or 1 where it speaks USB488
abbrev pub is_tmc : List ℕ → Bool
is_tmc d =
    is_interface d
    && (bInterfaceClass d == 0xFE && (bInterfaceSubClass d == 3 && (bInterfaceProtocol d == 0 || bInterfaceProtocol d == 1)))

-- USB 2.0 table 9-13: bits 1 and 0 of bmAttributes are the transfer type, 2 is bulk and 3 interrupt
abbrev pub transfer_type : List ℕ → ℕ
transfer_type d = bit_and (bmAttributes d) 3

-- bit 7 of bEndpointAddress is the direction, 0 is OUT and 0x80 is IN
abbrev pub direction : List ℕ → ℕ
direction d = bit_and (bEndpointAddress d) 0x80

abbrev pub is_bulk_out : List ℕ → Bool
is_bulk_out d = is_endpoint d && (transfer_type d == 2 && direction d == 0)

abbrev pub is_bulk_in : List ℕ → Bool
is_bulk_in d = is_endpoint d && (transfer_type d == 2 && direction d == 0x80)

abbrev pub is_interrupt_in : List ℕ → Bool
is_interrupt_in d = is_endpoint d && (transfer_type d == 3 && direction d == 0x80)

-- the first USBTMC interface of a list, and what stands before and behind it
pub record IsFirst (ds before : List (List ℕ)) (interface : List ℕ) (behind : List (List ℕ)) : Type 0 where
  pub parts : ds ≡ before ++ interface ∷ behind
  pub none_before : list_any is_tmc before ≡ false
  pub is : is_tmc interface ≡ true

-- the descriptors that belong to an interface: those behind it up to the next interface
abbrev pub own_part : List (List ℕ) → List (List ℕ)
own_part behind = take_while (λ d. not (is_interface d)) behind

-- the first endpoint of a kind among them
abbrev pub first_of : (List ℕ → Bool) → List (List ℕ) → Option (List ℕ)
first_of is_kind behind = find is_kind (own_part behind)

-- what the list has of its first USBTMC interface
pub record Finds (bytes : List ℕ) (ends : Ends) : Type 0 where
  pub ds : List (List ℕ)
  pub before : List (List ℕ)
  pub interface : List ℕ
  pub behind : List (List ℕ)
  pub are : AreDescriptors bytes ds
  pub first : IsFirst ds before interface behind
  -- of the configuration descriptor, with which the bytes begin
  pub configuration : ends.configuration ≡ bConfigurationValue bytes
  pub number : ends.interface ≡ bInterfaceNumber interface
  pub protocol : ends.protocol ≡ bInterfaceProtocol interface
  pub bulk_out : Some ends.bulk_out ≡ option_map bEndpointAddress (first_of is_bulk_out behind)
  pub bulk_in : Some ends.bulk_in ≡ option_map bEndpointAddress (first_of is_bulk_in behind)
  pub notify : ends.notify ≡ option_map bEndpointAddress (first_of is_interrupt_in behind)
  pub notify_size : ends.notify_size ≡ option_map_or wMaxPacketSize (first_of is_interrupt_in behind) 0

-- no interface is one of USBTMC
pub record HasNoInterface (bytes : List ℕ) : Type 0 where
  pub ds : List (List ℕ)
  pub are : AreDescriptors bytes ds
  pub none : list_any is_tmc ds ≡ false

-- the first USBTMC interface has no Bulk-OUT endpoint
pub record HasNoBulkOut (bytes : List ℕ) : Type 0 where
  pub ds : List (List ℕ)
  pub before : List (List ℕ)
  pub interface : List ℕ
  pub behind : List (List ℕ)
  pub are : AreDescriptors bytes ds
  pub first : IsFirst ds before interface behind
  pub no_bulk_out : first_of is_bulk_out behind ≡ None

-- the first USBTMC interface has a Bulk-OUT endpoint and no Bulk-IN endpoint
pub record HasNoBulkIn (bytes : List ℕ) : Type 0 where
  pub ds : List (List ℕ)
  pub before : List (List ℕ)
  pub interface : List ℕ
  pub behind : List (List ℕ)
  pub are : AreDescriptors bytes ds
  pub first : IsFirst ds before interface behind
  pub bulk_out : List ℕ
  pub has_bulk_out : first_of is_bulk_out behind ≡ Some bulk_out
  pub no_bulk_in : first_of is_bulk_in behind ≡ None

-- which fault the bytes have
abbrev pub FaultIs : List ℕ → DescFault → Type 0
FaultIs bytes (Length at) = IsBrokenAt bytes at
FaultIs bytes NoInterface = HasNoInterface bytes
FaultIs bytes NoBulkOut = HasNoBulkOut bytes
FaultIs bytes NoBulkIn = HasNoBulkIn bytes

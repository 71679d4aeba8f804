-- what the URB messages share (Linux kernel documentation, "USB/IP protocol": usbip_header_basic)
use Rattle.std.specs.Prelude.{◌≡◌, ◌⊎◌, ◌==◌, ◌||◌, Bool, if◌then◌else◌, ℕ, ℤ, ◌+◌, ◌<◌, ◌^◌, List, slice_index}
use Rattle.std.specs.Int.{w16, w32, to_be_bytes, cast_signed, cast_unsigned}
use Rattle.std.specs.List.{flat_map}
use Rattle.tmc_base.specs.declared.limits.TheConstants.{SUBMIT_MAX}
use Rattle.usbip_wire.specs.declared.urb.Dir.{Dir}
use Rattle.usbip_wire.specs.declared.urb.Dir.TheVariants.{Out, In}
use Rattle.usbip_wire.specs.declared.urb.TheConstants.{NOT_ISOCHRONOUS, URB_HEADER}

-- fields of four bytes each, the highest byte of each first
unfoldable pub fields : List ℕ → List ℕ
fields words = flat_map (λ word. to_be_bytes w32 word) words

-- fields of two bytes each
unfoldable pub halves : List ℕ → List ℕ
halves words = flat_map (λ word. to_be_bytes w16 word) words

-- each of these fits a field of four bytes
abbrev pub AreWide : List ℕ → Type 0
AreWide words = (i : ℕ) → slice_index words i < 2 ^ 32

-- a status is a signed number of four bytes, in two's complement
abbrev pub Fits32 : ℤ → Type 0
Fits32 status = cast_signed w32 (cast_unsigned w32 status) ≡ status

-- the number of a direction
abbrev pub direction_code : Dir → ℕ
direction_code Out = 0
direction_code In = 1

-- a number_of_packets of a transfer that is not isochronous: 0xffffffff by the protocol, 0 by old clients
abbrev pub IsNoPacketCount : ℕ → Type 0
IsNoPacketCount packets = (packets ≡ NOT_ISOCHRONOUS) ⊎ (packets ≡ 0)

-- the direction of this number
abbrev pub dir_of : ℕ → Dir
dir_of direction = if direction == 0 then Out else In

-- the bytes of data behind a submit's header
abbrev pub carried : Dir → ℕ → ℕ
carried Out size = size
carried In size = 0

-- a number_of_packets of a transfer that is not isochronous
abbrev pub is_no_packet_count : ℕ → Bool
is_no_packet_count packets = (packets == NOT_ISOCHRONOUS) || (packets == 0)

-- the bytes of data behind an answer's header
abbrev pub returned : Dir → ℕ → ℕ
returned Out actual = 0
returned In actual = actual

-- no message is longer: a header, and the data of the longest submit
abbrev pub message_max : ℕ
message_max = URB_HEADER + SUBMIT_MAX

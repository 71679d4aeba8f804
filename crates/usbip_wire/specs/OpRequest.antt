-- OP_REQ_DEVLIST and OP_REQ_IMPORT (Linux kernel documentation, "USB/IP protocol")
use Rattle.std.specs.Prelude.{◌≡◌, ℕ, ◌<◌, ◌^◌, List, ◌++◌, length}
use Rattle.usbip_wire.specs.declared.op.TheConstants.{REQ_DEVLIST, REQ_IMPORT}
use Rattle.usbip_wire.specs.declared.op_request.OpRequest.{OpRequest}
use Rattle.usbip_wire.specs.declared.op_request.OpRequest.TheVariants.{DevList, Import}
use Rattle.usbip_wire.specs.Op.{op_header}

-- the layout, with this in its status, which a request does not use
abbrev pub request_bytes : OpRequest → ℕ → List ℕ
request_bytes DevList status = op_header REQ_DEVLIST status
request_bytes (Import busid) status = op_header REQ_IMPORT status ++ busid

-- its length
abbrev pub request_size : OpRequest → ℕ
request_size DevList = 8
request_size (Import busid) = 40

-- a bus id has 32 bytes
abbrev pub IsRequest : OpRequest → Type 0
IsRequest DevList = Unit {0}
IsRequest (Import busid) = length busid ≡ 32

-- these bytes are this request; its status may hold anything
pub record SpellsRequest (request : OpRequest) (bytes : List ℕ) : Type 0 where
  pub status : ℕ
  pub wide : status < 2 ^ 32
  pub whole : IsRequest request
  pub layout : bytes ≡ request_bytes request status

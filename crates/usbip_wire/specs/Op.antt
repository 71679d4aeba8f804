-- what the operations share (Linux kernel documentation, "USB/IP protocol": OP_REQ and OP_REP)
use Rattle.std.specs.Prelude.{ℕ, List, ◌++◌}
use Rattle.std.specs.Int.{w16, w32, to_be_bytes}
use Rattle.usbip_wire.specs.declared.op.TheConstants.{USBIP_VERSION}

-- the version, the operation's code, and a status
unfoldable pub op_header : ℕ → ℕ → List ℕ
op_header code status = to_be_bytes w16 USBIP_VERSION ++ (to_be_bytes w16 code ++ to_be_bytes w32 status)

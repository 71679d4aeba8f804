use Rattle.std.proofs.Common.{rules, arith, ◌≡◌, ℕ, ◌-◌, ◌<◌, ◌≢◌, get_or, true}
use Rattle.tmc_wire.specs.Standard.{trigger}
use Rattle.tmc_wire.specs.Fields.{is_known}
use Rattle.tmc_wire.proofs.Cutting.{read_proper}
use Rattle.tmc_wire.proofs.fields.Fields.read.Goals as goal
use Rattle.tmc_wire.proofs.fields.Fields.read.Goals.{else-size-eq0-via-then-size-eq0+else-msg_id, else-size-eq0-via-else-size-eq0}

pub returns : goal.returns
returns c =
    let bytes = c.args.bytes.now in
    let fits : (k : ℕ) → get_or bytes k 0 < 256 = λ k. omega (arith, c.type_inv.bytes k) in
    let known : is_known c.args.direction (get_or bytes 0 0) ≡ true = search rules in
    let inverse : get_or bytes 2 0 ≡ 255 - get_or bytes 1 0 = search rules in
    let above : get_or bytes 0 0 ≢ trigger → 0 < c.from_le_bytes-size.result = λ other.
    elim c.else-size-eq0.branch [ else-size-eq0-via-then-size-eq0+else-msg_id w ↦ absurd (other w.if-msg_id.false) | else-size-eq0-via-else-size-eq0 w ↦ omega arith ] in
    read_proper c.args.direction bytes c.from_le_bytes-size.result c.in-len12-up.len_at_least fits (omega arith) c.from_le_bytes-size.ensures
    known (omega arith) inverse above

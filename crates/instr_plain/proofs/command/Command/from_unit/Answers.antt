use Rattle.std.proofs.Common.{◌∙◌}
use Rattle.instr_plain.proofs.Commands.{unknown_header}
use Rattle.instr_plain.proofs.command.Command.from_unit.Goals as goal

pub returns-in_err-header : goal.returns-in_err-header
returns-in_err-header c = rw c.from_residual.ensures (unknown_header c.args.unit.now (λ header e. c.in_err-header.ensures header (c.as_bytes.ensures ∙ e)))

use Rattle.std.proofs.Common.{refl, ap}
use Rattle.tmc_wire.specs.declared.class_request.ClassRequest.TheVariants as request
use Rattle.tmc_law.specs.State.{State}
use Rattle.tmc_law.specs.State as law
use Rattle.tmc_law.specs.Class.{Serves}
use Rattle.tmc_device.specs.declared.running.Running.TheVariants as running
use Rattle.tmc_device.specs.Body.{state_of, seen_of}
use Rattle.tmc_device.proofs.Served.{served_as}
use Rattle.tmc_device.proofs.Checked.{clear_ends, clear_none}
use Rattle.tmc_device.proofs.body.Body.check_clear.Goals as goal

pub returns-in-Clears : goal.returns-in-Clears
returns-in-Clears c = λ submit behind first.
    let old = c.args.self.now in
    let setup = c.args.asked.now.setup in
    let replied = c.reply.ensures submit behind first in
    served_as (Serves request.CheckClear submit) submit behind setup (seen_of old) (seen_of (record c.reply.new.self { running = running.Nothing })) _ _ refl
    (clear_ends (record (state_of old) { control = behind }) old.running c.in-Clears.is)
    (replied.puts)
    (ap (λ (z : State). record z { running = law.Nothing }) replied.state)

pub returns-in_default : goal.returns-in_default
returns-in_default c = λ submit behind first.
    let old = c.args.self.now in
    let setup = c.args.asked.now.setup in
    let replied = c.reply-in_default.ensures submit behind first in
    served_as (Serves request.CheckClear submit) submit behind setup (seen_of old) (seen_of c.reply-in_default.new.self) _ _ refl
    (clear_none (record (state_of old) { control = behind }) old.running c.in_default.not-Clears)
    (replied.puts)
    replied.state

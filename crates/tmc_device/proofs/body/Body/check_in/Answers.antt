use Rattle.std.proofs.Common.{◌∙◌, refl, ap, ℕ, Bool, List, [], ◌∷◌, ◌++◌}
use Rattle.tmc_wire.specs.declared.class_request.ClassRequest.TheVariants as request
use Rattle.tmc_law.specs.State.{State}
use Rattle.tmc_law.specs.State as law
use Rattle.tmc_law.specs.Control.{control_answer}
use Rattle.tmc_law.specs.Class.{Serves}
use Rattle.tmc_device.specs.declared.running.Running.TheVariants as running
use Rattle.tmc_device.specs.Body.{state_of, seen_of}
use Rattle.tmc_device.proofs.Served.{served_as}
use Rattle.tmc_device.proofs.Checked.{in_pending, in_ends, in_none}
use Rattle.tmc_device.proofs.body.Body.check_in.Goals as goal

pub returns-then-wanting : goal.returns-then-wanting
returns-then-wanting c = λ submit behind first.
    let old = c.args.self.now in
    let setup = c.args.asked.now.setup in
    let replied = c.reply.ensures submit behind first in
    served_as (Serves request.CheckIn submit) submit behind setup (seen_of old) (seen_of c.reply.new.self) _ _ refl
    (in_pending (record (state_of old) { control = behind }) old.running c.in-AbortsIn.given
    (c.in-AbortsIn.is ∙ ap (λ (b : Bool). running.AbortsIn b c.in-AbortsIn.given) c.if-wanting.true))
    (replied.puts ∙ ap (λ (l : List ℕ). old.outputs.puts ++ control_answer submit setup l ∷ []) c.in_layout.ensures)
    replied.state

pub returns-else-wanting : goal.returns-else-wanting
returns-else-wanting c = λ submit behind first.
    let old = c.args.self.now in
    let setup = c.args.asked.now.setup in
    let replied = c.reply-else-wanting.ensures submit behind first in
    served_as (Serves request.CheckIn submit) submit behind setup (seen_of old) (seen_of (record c.reply-else-wanting.new.self { running = running.Nothing })) _ _ refl
    (in_ends (record (state_of old) { control = behind }) old.running c.in-AbortsIn.given
    (c.in-AbortsIn.is ∙ ap (λ (b : Bool). running.AbortsIn b c.in-AbortsIn.given) c.if-wanting.false))
    (replied.puts ∙ ap (λ (l : List ℕ). old.outputs.puts ++ control_answer submit setup l ∷ []) c.in_layout-else-wanting.ensures)
    (ap (λ (z : State). record z { running = law.Nothing }) replied.state)

pub returns-in_default : goal.returns-in_default
returns-in_default c = λ submit behind first.
    let old = c.args.self.now in
    let setup = c.args.asked.now.setup in
    let replied = c.reply-in_default.ensures submit behind first in
    served_as (Serves request.CheckIn submit) submit behind setup (seen_of old) (seen_of c.reply-in_default.new.self) _ _ refl
    (in_none (record (state_of old) { control = behind }) old.running (λ wanting given is. c.in_default.not-AbortsIn wanting given is))
    (replied.puts ∙ ap (λ (l : List ℕ). old.outputs.puts ++ control_answer submit setup l ∷ []) c.in_layout-in_default.ensures)
    replied.state

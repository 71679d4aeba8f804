use Rattle.std.proofs.Common.{◌∙◌, refl, sym, ap, subst, ℕ, List, [], ◌∷◌, ◌++◌, length, append_assoc, arith}
use Rattle.std.specs.Option.{unwrap_or}
use Rattle.tmc_law.specs.Endpoint.{BulkOut}
use Rattle.tmc_law.specs.State.{State, Pending, AbortsOut}
use Rattle.tmc_law.specs.Put.{Put}
use Rattle.tmc_law.specs.Control.{control_answer}
use Rattle.tmc_law.specs.Halts.{halts, halt_answers}
use Rattle.tmc_law.specs.Aborts.{out_tag, NotBegun, DoesAbort}
use Rattle.tmc_law.specs.Reached.{FirstBegins}
use Rattle.tmc_device.specs.Body.{state_of}
use Rattle.tmc_device.proofs.Aborting.{declined_as}
use Rattle.tmc_device.proofs.Roomy.{few_out}
use Rattle.tmc_device.proofs.body.Body.abort_out.Goals as goal

pub halts-requires : goal.halts-requires
halts-requires c =
    let old = c.args.self.now in
    let asked = c.requires.asked in
    let replied = c.reply-in-None.ensures asked.submit asked.behind asked.first in
    let same = ap (λ (s : State). s.bulk_out) replied.state in
    record {
      endpoint = (omega arith, omega arith);
      sound = subst (λ (l : List Pending). FirstBegins l) (sym same) (c.requires.ready.sound.first BulkOut);
      room = omega (arith, ap (λ (l : List Pending). length l) same, few_out old.pipes, replied.outputs, c.requires.ready.room.outputs);
    }

pub returns-in-Some : goal.returns-in-Some
returns-in-Some c = λ submit behind first.
    let old = c.args.self.now in
    let replied = c.reply.ensures submit behind first in
    let s = record (state_of old) { control = behind } in
    let layout : List ℕ = c.in-Some.status ∷ unwrap_or c.tag-current.result 0 ∷ [] in
    record {
      served = record { layout = layout; behind = []; state = s };
      serves = NotBegun layout (declined_as s.running c.tag-current.result (out_tag s) c.args.tag c.in-Some.status (c.tag-current.ensures s c.args.self.now.exchange.coming refl) c.in-Some.ensures) refl;
      joins = replied.puts ∙ ap (λ (n : ℕ). old.outputs.puts ++ control_answer submit c.args.asked.now.setup (c.in-Some.status ∷ n ∷ []) ∷ []) c.unwrap_or.ensures;
      is = replied.state;
    }

pub returns-in-None : goal.returns-in-None
returns-in-None c = λ submit behind first.
    let old = c.args.self.now in
    let mid = c.reply-in-None.new.self in
    let replied = c.reply-in-None.ensures submit behind first in
    let s = record (state_of old) { control = behind } in
    let answer = control_answer submit c.args.asked.now.setup (1 ∷ c.args.tag ∷ []) in
    record {
      served = record { layout = 1 ∷ c.args.tag ∷ []; behind = halt_answers BulkOut s; state = record (halts BulkOut s) { running = AbortsOut } };
      serves = DoesAbort c.in-None.ensures.0 (sym (c.tag-current.ensures s c.args.self.now.exchange.coming refl) ∙ c.in-None.ensures.1) refl;
      joins = c.halts.ensures.puts
          ∙ (ap (λ (p : List Put). p ++ halt_answers BulkOut (state_of mid)) replied.puts
          ∙ (ap (λ (z : State). (old.outputs.puts ++ answer ∷ []) ++ halt_answers BulkOut z) replied.state
          ∙ append_assoc old.outputs.puts (answer ∷ []) (halt_answers BulkOut s)));
      is = ap (λ (z : State). record z { running = AbortsOut }) (c.halts.ensures.state ∙ ap (λ (z : State). halts BulkOut z) replied.state);
    }

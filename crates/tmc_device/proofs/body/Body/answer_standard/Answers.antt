use Rattle.std.proofs.Common.{◌∙◌, ap, List, [], ◌∷◌, ◌++◌, ℕ}
use Rattle.tmc_law.specs.State.{State}
use Rattle.tmc_law.specs.Control.{control_answer}
use Rattle.tmc_law.specs.Standard.{standard_effect}
use Rattle.tmc_device.specs.Parts.{Outbox}
use Rattle.tmc_device.specs.Standard.{standard_of}
use Rattle.tmc_device.proofs.body.Body.answer_standard.Goals as goal

pub returns : goal.returns
returns c = λ submit behind first.
    let request = standard_of c.args.request in
    let replied = c.reply.ensures submit behind first in
    record {
      state = c.do_standard.ensures.state ∙ ap (λ (s : State). standard_effect request s) replied.state;
      puts =
          ap (λ (o : Outbox). o.puts) c.do_standard.ensures.outputs
          ∙ (replied.puts
          ∙ ap (λ (l : List ℕ). c.args.self.now.outputs.puts ++ control_answer submit c.args.asked.now.setup l ∷ []) (c.as_slice.ensures ∙ c.lay_out.ensures.laid_out));
    }

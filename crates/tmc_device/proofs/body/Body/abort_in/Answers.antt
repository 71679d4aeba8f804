use Rattle.std.proofs.Common.{◌≡◌, ◌∙◌, refl, sym, ap, ℕ, true, List, [], ◌∷◌, ◌++◌}
use Rattle.std.specs.Option.{unwrap_or}
use Rattle.tmc_law.specs.State.{State, Side, AbortsIn}
use Rattle.tmc_law.specs.Control.{control_answer}
use Rattle.tmc_law.specs.Aborts.{in_tag, cut, given_of, NotBegun, DoesAbort}
use Rattle.tmc_device.specs.Body.{state_of}
use Rattle.tmc_device.proofs.Aborting.{declined_as}
use Rattle.tmc_device.proofs.body.Body.abort_in.Goals as goal

pub returns-in-Some : goal.returns-in-Some
returns-in-Some c = λ submit behind first.
    let old = c.args.self.now in
    let replied = c.reply.ensures submit behind first in
    let s = record (state_of old) { control = behind } in
    let layout : List ℕ = c.in-Some.status ∷ unwrap_or c.tag-current.result 0 ∷ [] in
    record {
      served = record { layout = layout; behind = []; state = s };
      serves = NotBegun layout (declined_as s.running c.tag-current.result (in_tag s) c.args.tag c.in-Some.status (c.tag-current.ensures s refl) c.in-Some.ensures) refl;
      joins = replied.puts ∙ ap (λ (n : ℕ). old.outputs.puts ++ control_answer submit c.args.asked.now.setup (c.in-Some.status ∷ n ∷ []) ∷ []) c.unwrap_or.ensures;
      is = replied.state;
    }

pub returns-in-None : goal.returns-in-None
returns-in-None c = λ submit behind first.
    let old = c.args.self.now in
    let mid = c.reply-in-None.new.self in
    let replied = c.reply-in-None.ensures submit behind first in
    let s = record (state_of old) { control = behind } in
    let side : mid.side ≡ old.side = ap (λ (z : State). z.side) replied.state in
    record {
      served = record { layout = 1 ∷ c.args.tag ∷ []; behind = []; state = record s { side = cut s.side; running = AbortsIn true (given_of s.side) } };
      serves = DoesAbort c.in-None.ensures.0 (sym (c.tag-current.ensures s refl) ∙ c.in-None.ensures.1) refl;
      joins = replied.puts;
      is = ap (λ (x : Side). record (state_of mid) { side = x; running = AbortsIn true c.cut-given.result }) (c.cut-given.ensures.cut ∙ ap cut side)
          ∙ (ap (λ (n : ℕ). record (state_of mid) { side = cut old.side; running = AbortsIn true n }) (c.cut-given.ensures.given ∙ ap given_of side)
          ∙ ap (λ (z : State). record z { side = cut old.side; running = AbortsIn true (given_of old.side) }) replied.state);
    }

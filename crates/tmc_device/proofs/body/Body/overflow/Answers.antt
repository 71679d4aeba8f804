use Rattle.std.proofs.Common.{◌∙◌, ◌++◌, List, length, ap, sym, subst, arith}
use Rattle.tmc_law.specs.Endpoint.{BulkIn}
use Rattle.tmc_law.specs.State.{State, Pending}
use Rattle.tmc_law.specs.Halts.{halts, halt_answers}
use Rattle.tmc_law.specs.Reached.{FirstBegins}
use Rattle.tmc_device.specs.Body.{state_of}
use Rattle.tmc_device.specs.Parts.{Outbox}
use Rattle.tmc_device.proofs.Filling.{giving, same_outputs, first_gave, state_gave}
use Rattle.tmc_device.proofs.body.Body.overflow.Goals as goal

pub halts-requires-clause-sound : goal.halts-requires-clause-sound
halts-requires-clause-sound c =
    let f = giving c.args.size c.args.self.now.pipes.bulk_in c.args.self.now.side c.requires.room c.requires.sending in
    subst (λ (l : List Pending). FirstBegins l) (sym (first_gave c.args.size f.submit f.behind f.piece c.args.self.now c.give.new.self (c.give.ensures f.submit f.behind f.piece f.first f.sending)))
    (subst (λ (l : List Pending). FirstBegins l) f.first c.requires.first)

pub halts-requires-clause-room : goal.halts-requires-clause-room
halts-requires-clause-room c =
    let f = giving c.args.size c.args.self.now.pipes.bulk_in c.args.self.now.side c.requires.room c.requires.sending in
    let g = c.give.ensures f.submit f.behind f.piece f.first f.sending in
    let same = ap (λ (o : Outbox). o.room) (same_outputs c.args.size f.submit f.behind f.piece c.args.self.now c.give.new.self g) in
    let long = ap length (first_gave c.args.size f.submit f.behind f.piece c.args.self.now c.give.new.self g) in
    let before = ap length f.first in
    omega (arith, same, long, before, c.requires.outputs)

pub returns : goal.returns
returns c submit behind piece stood sending =
    let g = c.give.ensures submit behind piece stood sending in
    let gave = state_gave c.args.size submit behind piece c.args.self.now c.give.new.self g in record {
      state = c.halts.ensures.state ∙ ap (λ (s : State). halts BulkIn s) gave;
      puts = c.halts.ensures.puts
          ∙ ap (λ (o : Outbox). o.puts ++ halt_answers BulkIn (state_of c.give.new.self)) (same_outputs c.args.size submit behind piece c.args.self.now c.give.new.self g)
          ∙ ap (λ (s : State). c.args.self.now.outputs.puts ++ halt_answers BulkIn s) gave;
    }

use Rattle.std.proofs.Common.{◌<◌, ◌∷◌, [], sym, subst}
use Rattle.tmc_law.specs.State.{Side}
use Rattle.tmc_law.specs.Put.{ended, success}
use Rattle.tmc_law.specs.BulkIn.{filled}
use Rattle.tmc_device.specs.Body.{state_of}
use Rattle.tmc_device.specs.Fill.{Became}
use Rattle.tmc_device.specs.Parts.{Outbox}
use Rattle.tmc_device.proofs.Filling.{giving, some_gave, same_outputs, first_gave, answered}
use Rattle.tmc_device.proofs.body.Body.end_piece.Goals as goal

pub end_first-requires-clause-there : goal.end_first-requires-clause-there
end_first-requires-clause-there c =
    let f = giving c.args.left c.args.self.now.pipes.bulk_in c.args.self.now.side c.requires.room c.requires.sending in
    some_gave c.args.left f.submit f.behind f.piece c.args.self.now c.give.new.self (c.give.ensures f.submit f.behind f.piece f.first f.sending)

pub end_first-requires-clause-room : goal.end_first-requires-clause-room
end_first-requires-clause-room c =
    let f = giving c.args.left c.args.self.now.pipes.bulk_in c.args.self.now.side c.requires.room c.requires.sending in
    subst (λ (o : Outbox). 0 < o.room) (sym (same_outputs c.args.left f.submit f.behind f.piece c.args.self.now c.give.new.self (c.give.ensures f.submit f.behind f.piece f.first f.sending))) c.requires.outputs

pub returns : goal.returns
returns c submit behind piece stood sending =
    let g = c.give.ensures submit behind piece stood sending in
    let first = first_gave c.args.left submit behind piece c.args.self.now c.give.new.self g in
    subst (λ (v : Side). Became (record (state_of c.args.self.now) { bulk_in = behind; side = v }) (ended success (filled c.args.left piece submit) ∷ []) c.args.self.now
    (record c.give.new.self { pipes = c.end_first.new.pipes; outputs = c.end_first.new.outputs; side = c.end.new.self })) c.end.ensures
    (answered c.args.left submit behind piece c.args.self.now c.give.new.self g c.end_first.new.pipes c.end_first.new.outputs c.end.new.self
    (c.end_first.ensures.left (filled c.args.left piece submit) behind first) (c.end_first.ensures.put (filled c.args.left piece submit) behind first))

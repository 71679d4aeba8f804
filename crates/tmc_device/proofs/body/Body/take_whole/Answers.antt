use Rattle.std.proofs.Common.{◌∙◌, List, IsSome, length, refl, ap, sym, subst}
use Rattle.tmc_law.specs.State.{Pending}
use Rattle.tmc_law.specs.BulkOut.{packets_of}
use Rattle.endpoint_pipes.specs.Held.{Held}
use Rattle.endpoint_pipes.specs.Outcome.{first_of, left_of}
use Rattle.tmc_device.proofs.Firsts.{there}
use Rattle.tmc_device.proofs.Making.{is_plugged}
use Rattle.tmc_device.proofs.TakeSteps.{first_whole, first_made}
use Rattle.tmc_device.proofs.body.Body.take_whole.Goals as goal

pub take_effect-requires-clause-whole : goal.take_effect-requires-clause-whole
take_effect-requires-clause-whole c =
    let f = there c.args.self.now.pipes.bulk_out c.requires.there in
    first_whole c.args.self.now f.submit f.behind c.args.header (is_plugged c.args.self.now.unplugged c.requires.ready.plugged) c.requires.none_waits f.is (c.requires.length f.submit f.behind f.is).0
    (c.requires.judged f.submit f.behind f.is) c.requires.ready.sound c.requires.begins (sym (ap (λ (l : List Pending). length (left_of l)) f.is) ∙ c.requires.whole)

pub end_first-requires-clause-there : goal.end_first-requires-clause-there
end_first-requires-clause-there c =
    let f = there c.args.self.now.pipes.bulk_out c.requires.there in
    let first = ap (λ (held : Held). held.bulk_out) c.take_effect.ensures.pipes ∙ f.is in
    subst (λ (held : Held). IsSome (first_of held.bulk_out)) (sym (c.take_out.ensures f.submit f.behind first)) refl

pub returns : goal.returns
returns c =
    let f = there c.args.self.now.pipes.bulk_out c.requires.there in
    let first = ap (λ (held : Held). held.bulk_out) c.take_effect.ensures.pipes ∙ f.is in
    let taken = c.take_out.ensures f.submit f.behind first in
    let left = ap (λ (held : Held). held.bulk_out) taken in
    first_made c.args.self.now f.submit f.behind c.args.header (is_plugged c.args.self.now.unplugged c.requires.ready.plugged) c.requires.none_waits f.is (c.requires.length f.submit f.behind f.is).0
    (c.requires.judged f.submit f.behind f.is) c.args.packets c.args.seqnum c.take_effect.new.self c.take_out.new.self c.end_first.new.pipes c.end_first.new.outputs
    (c.requires.length f.submit f.behind f.is).1 (c.requires.all ∙ ap (λ (l : List Pending). packets_of (length (left_of l))) f.is) c.requires.begins
    (sym (ap (λ (l : List Pending). length (left_of l)) f.is) ∙ c.requires.whole) c.take_effect.ensures.effect c.take_effect.ensures.outputs taken
    (c.end_first.ensures.left _ f.behind left) (c.end_first.ensures.put _ f.behind left)

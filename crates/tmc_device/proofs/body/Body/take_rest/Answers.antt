use Rattle.std.proofs.Common.{◌≡◌, ◌∙◌, ◌++◌, ℕ, List, Some, Option, IsSome, length, refl, ap, sym, subst, arith}
use Rattle.tmc_law.specs.State.{Pending, Transfer}
use Rattle.tmc_law.specs.BulkOut.{packets_of}
use Rattle.endpoint_pipes.specs.Held.{Held}
use Rattle.endpoint_pipes.specs.Outcome.{first_of, left_of}
use Rattle.tmc_device.specs.Parts.{Opening, transfer_of, taken_in}
use Rattle.tmc_device.specs.Body.{state_of, transfer_in}
use Rattle.tmc_device.proofs.Firsts.{there}
use Rattle.tmc_device.proofs.Judging.{none_taken}
use Rattle.tmc_device.proofs.Making.{is_plugged}
use Rattle.tmc_device.proofs.Wanting.{wanted, fits_place, long_enough}
use Rattle.tmc_device.proofs.TakeSteps.{on, goes_with, rest_made, whole_made, whole_there, rest_length}
use Rattle.tmc_device.proofs.body.Body.take_rest.Goals as goal

pub gather-requires : goal.gather-requires
gather-requires c =
    let old = c.args.self.now in
    let f = there old.pipes.bulk_out c.requires.there in
    let judged = c.requires.judged f.submit f.behind f.is in
    let w = wanted (state_of old) f.submit f.behind (on old c.args.header) c.requires.ready.sound f.is judged.0 judged.1 in
    let fits = fits_place (state_of old) f.submit (on old c.args.header) w in
    let long = long_enough (state_of old) f.submit (on old c.args.header) w in
    let rest : length c.rest_out.result.now ≡ length f.submit.left = ap length c.rest_out.ensures ∙ ap (λ (l : List Pending). length (left_of l)) f.is in
    record {
      none_waits = c.requires.none_waits;
      goes_on = goes_with old f.submit f.behind c.args.header (is_plugged old.unplugged c.requires.ready.plugged) c.requires.none_waits f.is (c.requires.length f.submit f.behind f.is).0 judged;
      begins = λ none.
          let empty = ap (λ (t : Option Opening). length (taken_in (transfer_of t old.exchange.coming))) (none_taken old.transfer none) in omega (arith, long, rest, empty);
      fits = omega (arith, fits, rest);
    }

pub end_first-requires-clause-there : goal.end_first-requires-clause-there
end_first-requires-clause-there c =
    let f = there c.args.self.now.pipes.bulk_out c.requires.there in
    subst (λ (held : Held). IsSome (first_of held.bulk_out)) (sym (c.take_out.ensures f.submit f.behind f.is)) refl

pub take_effect-requires-clause-whole : goal.take_effect-requires-clause-whole
take_effect-requires-clause-whole c =
    let old = c.args.self.now in
    let f = there old.pipes.bulk_out c.requires.there in
    let grown = c.gather.ensures.grown ∙ ap (λ (l : List ℕ). Some (record { header = c.args.header; taken = taken_in (transfer_in old) ++ l })) (c.rest_out.ensures ∙ ap left_of f.is) in
    let long : c.taken_len.result ≡ length (taken_in (transfer_in old) ++ f.submit.left) = c.taken_len.ensures ∙ ap (λ (t : Option Transfer). length (taken_in t)) grown in
    whole_there old f.submit f.behind c.args.header (is_plugged old.unplugged c.requires.ready.plugged) c.requires.none_waits f.is (c.requires.length f.submit f.behind f.is).0
    (c.requires.judged f.submit f.behind f.is) c.gather.new.exchange c.end_first.new.pipes c.gather.new.transfer c.end_first.new.outputs c.requires.ready.sound c.gather.ensures.held grown
    (sym long ∙ c.if-taken_len-out_len.true ∙ c.out_len.ensures)

pub returns-then-taken_len-out_len : goal.returns-then-taken_len-out_len
returns-then-taken_len-out_len c =
    let old = c.args.self.now in
    let f = there old.pipes.bulk_out c.requires.there in
    let first = ap (λ (held : Held). held.bulk_out) (c.take_out.ensures f.submit f.behind f.is) in
    let grown = c.gather.ensures.grown ∙ ap (λ (l : List ℕ). Some (record { header = c.args.header; taken = taken_in (transfer_in old) ++ l })) (c.rest_out.ensures ∙ ap left_of f.is) in
    let long : c.taken_len.result ≡ length (taken_in (transfer_in old) ++ f.submit.left) = c.taken_len.ensures ∙ ap (λ (t : Option Transfer). length (taken_in t)) grown in
    whole_made old f.submit f.behind c.args.header (is_plugged old.unplugged c.requires.ready.plugged) c.requires.none_waits f.is (c.requires.length f.submit f.behind f.is).0
    (c.requires.judged f.submit f.behind f.is) c.args.packets c.args.seqnum c.gather.new.exchange c.take_out.new.self c.end_first.new.pipes c.gather.new.transfer c.end_first.new.outputs c.take_effect.new.self
    (c.requires.length f.submit f.behind f.is).1 (c.requires.all ∙ ap (λ (l : List Pending). packets_of (length (left_of l))) f.is) c.gather.ensures.held
    (c.take_out.ensures f.submit f.behind f.is) (c.end_first.ensures.left _ f.behind first) (c.end_first.ensures.put _ f.behind first)
    (sym long ∙ c.if-taken_len-out_len.true ∙ c.out_len.ensures)
    grown c.take_effect.ensures.effect c.take_effect.ensures.outputs

pub returns-else-taken_len-out_len : goal.returns-else-taken_len-out_len
returns-else-taken_len-out_len c =
    let old = c.args.self.now in
    let f = there old.pipes.bulk_out c.requires.there in
    let first = ap (λ (held : Held). held.bulk_out) (c.take_out.ensures f.submit f.behind f.is) in
    let grown = c.gather.ensures.grown ∙ ap (λ (l : List ℕ). Some (record { header = c.args.header; taken = taken_in (transfer_in old) ++ l })) (c.rest_out.ensures ∙ ap left_of f.is) in
    let long : c.taken_len.result ≡ length (taken_in (transfer_in old) ++ f.submit.left) = c.taken_len.ensures ∙ ap (λ (t : Option Transfer). length (taken_in t)) grown in
    let most = rest_length old f.submit f.behind c.args.header (is_plugged old.unplugged c.requires.ready.plugged) c.requires.none_waits f.is (c.requires.length f.submit f.behind f.is).0
    (c.requires.judged f.submit f.behind f.is) c.requires.ready.sound in
    rest_made old f.submit f.behind c.args.header (is_plugged old.unplugged c.requires.ready.plugged) c.requires.none_waits f.is (c.requires.length f.submit f.behind f.is).0
    (c.requires.judged f.submit f.behind f.is) c.args.packets c.gather.new.exchange c.take_out.new.self c.end_first.new.pipes c.gather.new.transfer c.end_first.new.outputs
    (c.requires.all ∙ ap (λ (l : List Pending). packets_of (length (left_of l))) f.is) c.gather.ensures.held (c.take_out.ensures f.submit f.behind f.is) (c.end_first.ensures.left _ f.behind first) grown
    (c.end_first.ensures.put _ f.behind first)
    (omega (arith, most, long, c.out_len.ensures, c.if-taken_len-out_len.false))

use Rattle.std.proofs.Common.{◌≡◌, ◌∙◌, ◌*◌, ◌++◌, ◌<◌, ℕ, List, Some, length, take, ap, subst, arith}
use Rattle.std.proofs.lemmas.List.{length-take}
use Rattle.tmc_law.specs.State.{Pending}
use Rattle.tmc_law.specs.BulkOut.{packets_of}
use Rattle.endpoint_pipes.specs.Outcome.{left_of}
use Rattle.tmc_device.specs.Parts.{taken_in}
use Rattle.tmc_device.specs.Body.{state_of, transfer_in}
use Rattle.tmc_device.proofs.Making.{is_plugged}
use Rattle.tmc_device.proofs.Wanting.{wanted, fits_place}
use Rattle.tmc_device.proofs.TakeSteps.{on, first_left, goes_with, some_made}
use Rattle.tmc_device.proofs.body.Body.take_some.Goals as goal

pub gather-requires : goal.gather-requires
gather-requires c =
    let old = c.args.self.now in
    let f = first_left old.pipes.bulk_out c.args.packets c.requires.some c.requires.more in
    let judged = c.requires.judged f.submit f.behind f.is in
    let w = wanted (state_of old) f.submit f.behind (on old c.args.header) c.requires.ready.sound f.is judged.0 judged.1 in
    let fits = fits_place (state_of old) f.submit (on old c.args.header) w in
    let rest : length c.rest_out.result.now ≡ length f.submit.left = ap length c.rest_out.ensures ∙ ap (λ (l : List Pending). length (left_of l)) f.is in
    let more = subst (λ (l : List Pending). c.args.packets < packets_of (length (left_of l))) f.is c.requires.more in
    let long = length-take (c.args.packets * 64) c.rest_out.result.now in
    record {
      none_waits = c.requires.none_waits;
      goes_on = goes_with old f.submit f.behind c.args.header (is_plugged old.unplugged c.requires.ready.plugged) c.requires.none_waits f.is (c.requires.length f.submit f.behind f.is) judged;
      begins = λ none. omega (arith, long, rest, more, c.requires.some);
      fits = omega (arith, fits, rest, long);
    }

pub returns : goal.returns
returns c =
    let old = c.args.self.now in
    let f = first_left old.pipes.bulk_out c.args.packets c.requires.some c.requires.more in
    let rest = c.rest_out.ensures ∙ ap left_of f.is in
    some_made old f.submit f.behind c.args.header (is_plugged old.unplugged c.requires.ready.plugged) c.requires.none_waits f.is (c.requires.length f.submit f.behind f.is)
    (c.requires.judged f.submit f.behind f.is) c.args.packets c.gather.new.exchange c.take_out.new.self c.gather.new.transfer c.requires.some
    (subst (λ (l : List Pending). c.args.packets < packets_of (length (left_of l))) f.is c.requires.more) (c.take_out.ensures f.submit f.behind f.is) c.gather.ensures.held
    (c.gather.ensures.grown ∙ ap (λ (l : List ℕ). Some (record { header = c.args.header; taken = taken_in (transfer_in old) ++ take (c.args.packets * 64) l })) rest)

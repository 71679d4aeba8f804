use Rattle.std.proofs.Common.{rules, ◌≡◌, ◌∙◌, ℕ, [], length, min, ap, sym, subst, arith}
use Rattle.tmc_law.specs.State.{Side}
use Rattle.tmc_law.specs.Logging.{unread}
use Rattle.tmc_law.specs.BulkIn.{NoAbortIn}
use Rattle.tmc_law.specs.Step.{Begin}
use Rattle.tmc_device.specs.Parts.{running_of}
use Rattle.tmc_device.specs.Seen.{Makes}
use Rattle.tmc_device.specs.Events.{IsOwed, largest_piece}
use Rattle.tmc_device.specs.Body.{state_of, seen_of}
use Rattle.tmc_device.proofs.Making.{from_same, is_plugged}
use Rattle.tmc_device.proofs.Beginning.{owed_is, largest_is, least_of}
use Rattle.tmc_device.proofs.body.Body.begin.Goals as goal

pub returns : goal.returns
returns c =
    let owed = owed_is c.args.self.now.side c.in-Owed.tag c.in-Owed.size (sym c.phase.ensures ∙ c.in-Owed.is) in
    let none : NoAbortIn (running_of c.args.self.now.running) = search rules in
    let there = ap length c.unread.ensures.unread in
    let count : c.min-count.result ≡ min c.args.most (largest_piece (state_of c.args.self.now)) =
    least_of c.args.most c.in-Owed.size (length c.args.self.now.exchange.held.standing.unread) _ c.min-count.result c.min.result
    (largest_is (state_of c.args.self.now) c.in-Owed.tag c.in-Owed.size owed) c.min.ensures (c.min-count.ensures ∙ ap (λ (n : ℕ). min c.min.result n) there) in (
      record {
        plugged = is_plugged c.args.self.now.unplugged c.requires.plugged;
        needs = (
          omega (arith, c.min.ensures, c.min-count.ensures, c.if-count-eq0.false),
          subst (λ (v : Side). IsOwed v) (sym owed) tt,
          none,
          λ (empty : unread (state_of c.args.self.now) ≡ []). let zero : length c.unread.result.now ≡ 0 = there ∙ ap length empty in
              absurd (omega (arith, zero, c.min.ensures, c.min-count.ensures, c.if-count-eq0.false)),
        );
      },
      subst (λ (n : ℕ). Makes (Begin n) (seen_of c.args.self.now) (seen_of c.begin_piece.new.self)) count
          (from_same (Begin c.min-count.result) _ _ _ c.prepare.ensures.same.seen c.begin_piece.ensures),
    )

use Rattle.std.proofs.Common.{◌∙◌, ℕ, List, if◌then◌else◌, length, ap}
use Rattle.tmc_world.proofs.Feeding.{hears_on, sound_sent}
use Rattle.tmc_world.proofs.line.Line.send.Goals as goal

pub returns-clause-hears : goal.returns-clause-hears
returns-clause-hears c =
    rw (← c.self.view_is) (hears_on c.args.bytes.now c.self.inside.node c.feed.new.node c.spell-spelled.new.node c.lacks-self-inside.result c.spell-spelled.result c.self.invariant.0.imported
    (c.feed.ensures.works c.if-not-feed.false) c.feed.ensures.shut c.spell-spelled.ensures.works c.spell-spelled.ensures.caught_up c.lacks-self-inside.ensures.spelled)

pub invariant_of-self-2 : goal.invariant_of-self-2
invariant_of-self-2 c =
    let hears = hears_on c.args.bytes.now c.self.inside.node c.feed.new.node c.spell-spelled.new.node c.lacks-self-inside.result c.spell-spelled.result c.self.invariant.0.imported
    (c.feed.ensures.works c.if-not-feed.false) c.feed.ensures.shut c.spell-spelled.ensures.works c.spell-spelled.ensures.caught_up c.lacks-self-inside.ensures.spelled in (
      sound_sent c.args.bytes.now _ _ c.closed-shut.result c.self.invariant.0 hears c.closed-shut.ensures c.in_ok-extend_from_slice.ensures.items
          (c.fed-self-inside.ensures ∙ ap (λ n. if c.closed-shut.result then c.self.inside.fed else n) (ap (λ (l : List ℕ). length l) c.as_slice.ensures.value))
          (λ unlate. c.spell-spelled.ensures.spelled (c.lacks-self-inside.ensures.spelled unlate)),
      c.lacks-self-inside.ensures.room,
    )

pub returns-clause-sound : goal.returns-clause-sound
returns-clause-sound c = (invariant_of-self-2 c).0

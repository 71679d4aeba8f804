use Rattle.std.proofs.Common.{[]}
use Rattle.tmc_world.specs.Telling.{told_of}
use Rattle.tmc_world.proofs.Quiet.{calming_still}
use Rattle.tmc_world.proofs.Moving.{telling_on, front_told, shown_moved}
use Rattle.tmc_world.proofs.loop_link.LoopLink.calm_down.Goals as goal

pub invariant_of-self : goal.invariant_of-self
invariant_of-self c =
    telling_on _ _ _ _ _ c.self.invariant c.and-self-inside.ensures c.calm.ensures.sound c.calm.ensures.works.works
    (λ _. calming_still _ c.calm.ensures.works.only) c.calm.ensures.is

pub returns-clause-moved : goal.returns-clause-moved
returns-clause-moved c =
    rw (← c.self.view_is) (record {
      works = c.calm.ensures.works;
      tells = front_told _ _ _ c.and-self-inside.ensures;
      is = shown_moved c.self.inside.pace c.self.inside.send_fails c.self.inside.poll_fails c.self.inside.wants c.self.inside.tally c.self.inside.acts.moments c.self.inside.acts.moments (told_of [] c.self.inside.history.moments)
          (told_of [] c.and-self-inside.result.moments) c.self.inside.line c.calm.new.self c.calm.ensures.is;
    })

use Rattle.std.proofs.Common.{[]}
use Rattle.tmc_world.specs.Telling.{told_of}
use Rattle.tmc_world.proofs.Quiet.{arrivals_still}
use Rattle.tmc_world.proofs.Moving.{telling_on, front_told, shown_moved}
use Rattle.tmc_world.proofs.loop_link.LoopLink.catch_up.Goals as goal

pub invariant_of-self : goal.invariant_of-self
invariant_of-self c =
    telling_on _ _ _ _ _ c.self.invariant c.and-self-inside.ensures c.catch_up.ensures.sound c.catch_up.ensures.works.works
    (λ _. arrivals_still _ c.catch_up.ensures.works.only) c.catch_up.ensures.is

pub returns : goal.returns
returns c =
    record {
      moved = rw (← c.self.view_is) (record {
        works = c.catch_up.ensures.works;
        tells = front_told _ _ _ c.and-self-inside.ensures;
        is = shown_moved c.self.inside.pace c.self.inside.send_fails c.self.inside.poll_fails c.self.inside.wants c.self.inside.tally c.self.inside.acts.moments c.self.inside.acts.moments (told_of [] c.self.inside.history.moments)
            (told_of [] c.and-self-inside.result.moments) c.self.inside.line c.catch_up.new.self c.catch_up.ensures.is;
      });
    }

use Rattle.std.proofs.Common.{◌∙◌, List, [], ap}
use Rattle.tmc_law.specs.declared.dev_event.DevEvent.{DevEvent}
use Rattle.tmc_world.specs.Telling.{told_of}
use Rattle.tmc_world.proofs.Moving.{telling_acted, telling_same, front_told, shown, shown_moved}
use Rattle.tmc_world.proofs.loop_link.LoopLink.step.Goals as goal

pub invariant_of-self : goal.invariant_of-self
invariant_of-self c =
    telling_acted _ _ c.args.event _ _ _ _ c.self.invariant c.and-self-inside-in-Applied.ensures c.and-self-inside.ensures c.act.ensures.sound
    (c.act.ensures.applied c.in-Applied.is) c.act.ensures.is

pub invariant_of-self-in-NotEnabled : goal.invariant_of-self-in-NotEnabled
invariant_of-self-in-NotEnabled c = telling_same _ _ _ _ c.self.invariant (c.in-NotEnabled.ensures.kept (λ e. cc))

pub invariant_of-self-in-Memory : goal.invariant_of-self-in-Memory
invariant_of-self-in-Memory c = telling_same _ _ _ _ c.self.invariant (c.in-Memory.ensures.kept (λ e. cc))

pub returns-in-Applied : goal.returns-in-Applied
returns-in-Applied c = record {
  ends = rw (← c.self.view_is) (record {
    drives = c.act.ensures.applied c.in-Applied.is;
    tells = front_told _ _ _ c.and-self-inside.ensures;
    is =
        shown_moved c.self.inside.pace c.self.inside.send_fails c.self.inside.poll_fails c.self.inside.wants c.self.inside.tally c.self.inside.acts.moments
        c.and-self-inside-in-Applied.result.moments (told_of [] c.self.inside.history.moments) (told_of [] c.and-self-inside.result.moments) c.self.inside.line
        c.act.new.self c.act.ensures.is
        ∙ ap (λ (made : List DevEvent). record (shown c.self.inside.pace c.self.inside.send_fails c.self.inside.poll_fails c.self.inside.wants c.self.inside.tally
        c.self.inside.acts.moments (told_of [] c.self.inside.history.moments) c.self.inside.line) {
          node = c.act.new.self.node;
          acts = made;
          run = told_of [] c.and-self-inside.result.moments;
          late = c.act.new.self.late;
        }) c.and-self-inside-in-Applied.ensures;
  });
}

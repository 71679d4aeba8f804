use Rattle.std.proofs.Common.{◌∙◌, [], take, sym, ap, arith}
use Rattle.tmc_world.specs.declared.pace.Pace.{Pace}
use Rattle.tmc_world.specs.Pacing.{send_shut}
use Rattle.tmc_world.specs.Telling.{told_of}
use Rattle.tmc_world.proofs.Feeding.{on_ok}
use Rattle.tmc_world.proofs.Moving.{on_ok_err, telling_same, telling_sent, front_told, shown, shown_sent}
use Rattle.tmc_world.proofs.loop_link.LoopLink.send_on.Goals as goal

pub invariant_of-self-then-is_err : goal.invariant_of-self-then-is_err
invariant_of-self-then-is_err c =
    telling_same _ _ _ _ c.self.invariant (on_ok_err c.send.result _ c.send.ensures.err (sym c.is_err.ensures.value ∙ c.if-is_err.true))

pub invariant_of-self-2 : goal.invariant_of-self-2
invariant_of-self-2 c =
    let went = sym c.is_err.ensures.value ∙ c.if-is_err.false in
    telling_sent _ _ _ _ _ _ c.self.invariant c.and-self-inside.ensures c.send.ensures.sound
    (on_ok c.send.result _ c.send.ensures.hears went) (on_ok c.send.result _ c.send.ensures.fed went) (on_ok c.send.result _ c.send.ensures.taken went)

pub returns-clause-goes : goal.returns-clause-goes
returns-clause-goes c =
    let went = sym c.is_err.ensures.value ∙ c.if-is_err.false in
    rw (← c.self.view_is) (record {
      unnamed = c.if-self.false;
      some = omega (arith, c.if-count-eq0.false);
      fits = c.send_room-count.ensures;
      hears = on_ok c.send.result _ c.send.ensures.hears went;
      tells = front_told _ _ _ c.and-self-inside.ensures;
      is =
          ap (λ (p : Pace). shown p c.self.inside.send_fails c.self.inside.poll_fails c.self.inside.wants c.self.inside.tally c.self.inside.acts.moments (told_of [] c.and-self-inside.result.moments) c.send.new.self)
          c.send_shut-self-inside-2.ensures
          ∙ shown_sent c.self.inside.pace (send_shut c.self.inside.pace) c.self.inside.send_fails c.self.inside.poll_fails c.self.inside.wants c.self.inside.tally c.self.inside.acts.moments
          (told_of [] c.self.inside.history.moments) (told_of [] c.and-self-inside.result.moments) (take c.send_room-count.result c.args.piece.now)
          c.self.inside.line c.send.new.self (on_ok c.send.result _ c.send.ensures.sent went) (on_ok c.send.result _ c.send.ensures.taken went);
    })

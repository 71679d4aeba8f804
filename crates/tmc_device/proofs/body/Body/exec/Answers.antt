use Rattle.std.proofs.Common.{rules, refl, sym, subst}
use Rattle.tmc_law.specs.State.{State}
use Rattle.tmc_law.specs.BulkOut.{Executes}
use Rattle.tmc_law.specs.Step.{Exec}
use Rattle.msg_exchange.specs.Held.{Holds, led_to}
use Rattle.tmc_device.specs.Body.{state_of}
use Rattle.tmc_device.proofs.Making.{on_ok, quiet, is_plugged, own, logged}
use Rattle.tmc_device.proofs.body.Body.exec.Goals as goal

pub returns : goal.returns
returns c =
    let ran : (s : State) → Holds s c.args.self.now.exchange.held → Executes s (led_to s c.run.new.self.held) =
    on_ok ((s : State) → Holds s c.args.self.now.exchange.held → Executes s (led_to s c.run.new.self.held)) c.run.result (cc) c.run.ensures.executes in
    let is = logged c.args.self.now c.run.new.self c.notice.new.self c.run.ensures.coming
    (c.notice.ensures c.args.self.now.exchange.held.standing c.run.new.self.held.standing c.status-before.ensures c.status.ensures) in
    let plugged = is_plugged c.args.self.now.unplugged c.requires.plugged in (
      search rules,
      quiet Exec _ _ plugged (subst (λ (t : State). Executes (state_of c.args.self.now) t) (sym is) (ran (state_of c.args.self.now) (own c.args.self.now)), refl) refl,
    )

use Rattle.std.proofs.Common.{refl, sym, ap, subst, arith, List, [], ◌∷◌}
use Rattle.tmc_law.specs.State.{State, Packet}
use Rattle.tmc_law.specs.Reached.{AreFew}
use Rattle.tmc_law.specs.Aborts.{Served}
use Rattle.tmc_law.specs.Class.{Operates, DoesOperate}
use Rattle.msg_exchange.specs.Held.{led_to}
use Rattle.tmc_device.specs.Body.{state_of}
use Rattle.tmc_device.proofs.Making.{logged}
use Rattle.tmc_device.proofs.Logged.{own}
use Rattle.tmc_device.proofs.body.Body.operate.Goals as goal

pub remote-requires : goal.remote-requires
remote-requires c =
    let asked = c.requires.asked in
    omega (arith, (c.reply.ensures asked.submit asked.behind asked.first).log, c.requires.ready.room.log)

pub notice-requires : goal.notice-requires
notice-requires c =
    let asked = c.requires.asked in
    subst (λ (p : List Packet). AreFew p) (sym (ap (λ (s : State). s.packets) (c.reply.ensures asked.submit asked.behind asked.first).state)) c.requires.ready.sound.few

pub returns : goal.returns
returns c = λ submit behind first.
    let mid = c.reply.new.self in
    let replied = c.reply.ensures submit behind first in
    let to = led_to (state_of mid) c.remote.new.self.held in
    let served : Served = record { layout = 1 ∷ []; behind = []; state = to } in
    record {
      served = served;
      serves = subst (λ (z : State). Operates c.args.act z served) replied.state (DoesOperate to (c.remote.ensures.changes (state_of mid) (own mid)) refl);
      joins = replied.puts;
      is = logged mid c.remote.new.self c.notice.new.self c.remote.ensures.coming
          (c.notice.ensures mid.exchange.held.standing c.remote.new.self.held.standing c.status-before.ensures c.status.ensures);
    }

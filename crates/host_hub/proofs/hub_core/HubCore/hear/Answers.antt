use Rattle.std.proofs.Common.{rules, ◌≡◌, ◌∙◌, ap, sym, ℤ, to_z, of_z, w32}
use Rattle.usbip_wire.specs.DownFed.{data_of}
use Rattle.host_hub.specs.Ends.{is_gone}
use Rattle.host_hub.proofs.Failed.{idle_hears, now_gone, now_heard, now_hears, out_now}
use Rattle.host_hub.proofs.hub_core.HubCore.hear.Goals as goal

pub fall-requires-clause-heard : goal.fall-requires-clause-heard
fall-requires-clause-heard c =
    let k = c.requires in
    record {
      setting = k.setting;
      past = k.past;
      sent = k.sent;
      bytes = data_of c.args.self.now.reader;
      hears = now_hears k.setting k.past k.sent c.args.self.now c.args.head (data_of c.args.self.now.reader) k.out
          (out_now k.setting k.past k.sent c.args.self.now c.args.head (data_of c.args.self.now.reader) k.out);
    }

pub returns-then-is_gone-clause-goes : goal.returns-then-is_gone-clause-goes
returns-then-is_gone-clause-goes c = λ s past sent h.
    let same : to_z w32 (of_z w32 c.args.head.status) ≡ c.args.head.status = search rules in
    let o = out_now s past sent c.args.self.now c.args.head (data_of c.args.self.now.reader) h in
    c.fall.ensures.goes s past sent (data_of c.args.self.now.reader) (now_hears s past sent c.args.self.now c.args.head (data_of c.args.self.now.reader) h o) h.rests.kept
    (now_heard s past sent c.args.self.now c.args.head (data_of c.args.self.now.reader) h o).may
    (now_gone s past sent c.args.self.now c.args.head (data_of c.args.self.now.reader) h o
    (sym (ap (λ (z : ℤ). is_gone z) same) ∙ (sym c.is_gone.ensures ∙ c.if-is_gone.true)))

pub unreachable-requires : goal.unreachable-requires
unreachable-requires c =
    let k = c.requires in
    idle_hears k.setting k.past k.sent c.args.self.now c.args.head (data_of c.args.self.now.reader) k.out c.in-Idle.is

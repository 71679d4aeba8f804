use Rattle.std.proofs.Common.{Some, ◌∷◌, ◌∙◌, ◌≤◌, ℕ, List, length, ap, sym, subst}
use Rattle.host_urbs.specs.declared.limits.TheConstants.{OUTBOX_MAX}
use Rattle.usbip_wire.specs.Down as down
use Rattle.host_hub.specs.declared.hub_core.HubCore.{HubCore}
use Rattle.host_hub.specs.Record.{Fell}
use Rattle.host_hub.specs.Knows.{Knows}
use Rattle.host_hub.proofs.Lawful.{lawful_book}
use Rattle.host_hub.proofs.Falls.{fell_goes, knows_fell}
use Rattle.host_hub.proofs.hub_core.HubCore.fall.Goals as goal

pub settle_all-requires : goal.settle_all-requires
settle_all-requires c =
    let k = c.requires.heard in
    record {
      setting = k.setting;
      past = Fell (down.RetSubmit c.args.head k.bytes) c.args.end ∷ k.past;
      sent = k.sent;
      knows = subst (λ (h : HubCore). Knows k.setting (Fell (down.RetSubmit c.args.head k.bytes) c.args.end ∷ k.past) k.sent (record h { end = Some c.args.end })) (sym c.take.ensures.rest)
          (knows_fell k.setting k.past k.sent c.args.self.now (down.RetSubmit c.args.head k.bytes) c.args.end c.take.new.self.urbs k.hears.knows c.requires.running
          (c.take.ensures.follows k.setting k.past k.sent k.bytes k.hears) c.take.ensures.device);
      keeps = (lawful_book k.setting k.past k.hears.lawful, tt);
    }

pub returns-clause-goes : goal.returns-clause-goes
returns-clause-goes c = λ s past sent bytes h kept may ends.
    fell_goes s past sent c.settle_all.new.self (down.RetSubmit c.args.head bytes) c.args.end kept (sym h.knows.over ∙ c.requires.running) may ends
    (ap (λ (x : HubCore). x.end) c.settle_all.ensures.rest)
    (c.settle_all.ensures.goes s (Fell (down.RetSubmit c.args.head bytes) c.args.end ∷ past) sent (lawful_book s past h.lawful, tt)
    (subst (λ (x : HubCore). Knows s (Fell (down.RetSubmit c.args.head bytes) c.args.end ∷ past) sent (record x { end = Some c.args.end })) (sym c.take.ensures.rest)
    (knows_fell s past sent c.args.self.now (down.RetSubmit c.args.head bytes) c.args.end c.take.new.self.urbs h.knows c.requires.running
    (c.take.ensures.follows s past sent bytes h) c.take.ensures.device)))

pub returns-clause-leaves : goal.returns-clause-leaves
returns-clause-leaves c = record {
  keeps = record {
    first = ap (λ (h : HubCore). h.first) c.settle_all.ensures.rest ∙ ap (λ (h : HubCore). h.first) c.take.ensures.rest;
    ends = ap (λ (h : HubCore). h.ends) c.settle_all.ensures.rest ∙ ap (λ (h : HubCore). h.ends) c.take.ensures.rest;
    turned = ap (λ (h : HubCore). h.turned) c.settle_all.ensures.rest ∙ ap (λ (h : HubCore). h.turned) c.take.ensures.rest;
    births = c.settle_all.ensures.births ∙ ap (λ (h : HubCore). h.notes.births) c.take.ensures.rest;
    short = λ h. subst (λ (x : HubCore). length x.urbs.outbox ≤ OUTBOX_MAX) (sym c.settle_all.ensures.rest)
        (subst (λ (l : List ℕ). length l ≤ OUTBOX_MAX) (sym c.take.ensures.outbox) h);
  };
  reader = ap (λ (h : HubCore). h.reader) c.settle_all.ensures.rest ∙ ap (λ (h : HubCore). h.reader) c.take.ensures.rest;
}

use Rattle.std.proofs.Common.{arith, ap, length, ◌∙◌, ℕ}
use Rattle.host_hub.specs.declared.hub_core.HubCore.{HubCore}
use Rattle.host_hub.specs.Noted.{Noted, with_start}
use Rattle.host_hub.proofs.Lawful.{lawful_book}
use Rattle.host_hub.proofs.Begins.{begins_can, begins_exhausted, begins_goes}
use Rattle.host_hub.specs.BookSeen.{IsTicket}
use Rattle.host_hub.proofs.Knowing.{known_first, known_ticket}
use Rattle.host_hub.proofs.Leaving.{leaves_ended}
use Rattle.host_hub.proofs.hub_core.HubCore.begin.Goals as goal

pub stop-requires-clause-known : goal.stop-requires-clause-known
stop-requires-clause-known c =
    let k = c.requires in
    record { setting = k.setting; past = k.past; sent = k.sent; knows = k.ready.knows; keeps = lawful_book k.setting k.past k.ready.working.lawful }

pub returns-then-next-gt-LAST_SUBMIT-clause-goes : goal.returns-then-next-gt-LAST_SUBMIT-clause-goes
returns-then-next-gt-LAST_SUBMIT-clause-goes c = λ s past sent r.
    begins_exhausted s past sent c.args.self.now c.stop.new.self r (omega arith) c.stop.ensures.ended
    (c.stop.ensures.goes s past sent (lawful_book s past r.working.lawful) r.knows)

pub write_part-requires : goal.write_part-requires
write_part-requires c = begins_can c.requires.setting c.requires.past c.requires.sent c.args.self.now c.requires.ready (omega arith)

pub start-requires-clause-first : goal.start-requires-clause-first
start-requires-clause-first c =
    let k = c.requires in
    omega (arith, ap (λ (h : HubCore). h.active) c.write_part.ensures.rest, known_first k.setting k.past k.sent c.args.self.now k.ready.knows)

pub start-requires-clause-last : goal.start-requires-clause-last
start-requires-clause-last c =
    let k = c.requires in
    let there : IsTicket c.args.self.now.book c.args.self.now.active = known_ticket k.setting k.past k.sent c.args.self.now k.ready.knows k.ready.turn in
    omega (
      arith,
      ap (λ (h : HubCore). h.active) c.write_part.ensures.rest,
      ap (λ (h : HubCore). length h.notes.starts) c.write_part.ensures.rest,
      k.ready.knows.all_started,
      k.ready.knows.shows.count,
      there.last,
    )

pub returns-clause-goes : goal.returns-clause-goes
returns-clause-goes c = λ s past sent r.
    begins_goes s past sent c.args.self.now c.write_part.new.self c.start.new.self r (omega arith) c.write_part.ensures.urbs c.write_part.ensures.book c.write_part.ensures.asked
    c.write_part.ensures.rest
    (c.start.ensures ∙ (ap (λ (h : HubCore). with_start h.active c.next-number.result h.notes) c.write_part.ensures.rest
    ∙ ap (λ (k : ℕ). with_start c.args.self.now.active k c.args.self.now.notes) c.next-number.ensures))

pub returns-then-next-gt-LAST_SUBMIT-clause-leaves : goal.returns-then-next-gt-LAST_SUBMIT-clause-leaves
returns-then-next-gt-LAST_SUBMIT-clause-leaves c = leaves_ended c.args.self.now c.stop.new.self c.stop.ensures.births c.stop.ensures.rest

pub returns-clause-leaves : goal.returns-clause-leaves
returns-clause-leaves c = record {
  keeps = record {
    first = ap (λ (h : HubCore). h.first) c.write_part.ensures.rest;
    ends = ap (λ (h : HubCore). h.ends) c.write_part.ensures.rest;
    turned = ap (λ (h : HubCore). h.turned) c.write_part.ensures.rest;
    births = ap (λ (n : Noted). n.births) c.start.ensures ∙ ap (λ (h : HubCore). h.notes.births) c.write_part.ensures.rest;
    short = λ h. c.write_part.ensures.short;
  };
  reader = ap (λ (h : HubCore). h.reader) c.write_part.ensures.rest;
}

use Rattle.std.proofs.Common.{◌∙◌, ℕ, List, length, sym, ap, arith}
use Rattle.usbip_wire.specs.DownFed.{data_of}
use Rattle.host_hub.specs.Stands.{IsInMessage}
use Rattle.host_hub.specs.Steps.{took}
use Rattle.host_hub.proofs.Knowing.{never_none}
use Rattle.host_hub.proofs.Makes.{goes_behind, in_message, part_heard, part_hears, part_short, then_ends, then_part, then_requests}
use Rattle.host_hub.proofs.hub_core.HubCore.part_answered.Goals as goal

pub fall-requires-clause-heard : goal.fall-requires-clause-heard
fall-requires-clause-heard c =
    let k = c.requires.heard in
    record {
      setting = k.setting;
      past = k.past;
      sent = k.sent;
      bytes = data_of c.args.self.now.reader;
      hears = part_hears k.setting k.past k.sent c.args.self.now c.args.head (data_of c.args.self.now.reader) k.out
          (in_message k.setting k.past k.sent c.args.self.now c.args.head (data_of c.args.self.now.reader) k.out c.requires.phase) c.requires.fine;
    }

pub returns-then-head-self-clause-goes : goal.returns-then-head-self-clause-goes
returns-then-head-self-clause-goes c = λ s past sent h.
    let m : IsInMessage s past c.args.self.now = in_message s past sent c.args.self.now c.args.head (data_of c.args.self.now.reader) h c.requires.phase in
    c.fall.ensures.goes s past sent (data_of c.args.self.now.reader)
    (part_hears s past sent c.args.self.now c.args.head (data_of c.args.self.now.reader) h m c.requires.fine) h.rests.kept
    (part_heard s past sent c.args.self.now c.args.head (data_of c.args.self.now.reader) h m c.requires.fine).may
    (part_short s past sent c.args.self.now c.args.head (data_of c.args.self.now.reader) h m c.requires.fine c.if-head-self.true)

pub unreachable-requires : goal.unreachable-requires
unreachable-requires c =
    let k = c.requires.heard in
    let m : IsInMessage k.setting k.past c.args.self.now = in_message k.setting k.past k.sent c.args.self.now c.args.head (data_of c.args.self.now.reader) k.out c.requires.phase in
    never_none k.setting k.past k.sent c.args.self.now k.out.rests.knows m.out.turn c.in_default.ensures

pub take-requires : goal.take-requires
take-requires c =
    let k = c.requires.heard in
    record {
      setting = k.setting;
      past = k.past;
      sent = k.sent;
      bytes = data_of c.args.self.now.reader;
      hears = part_hears k.setting k.past k.sent c.args.self.now c.args.head (data_of c.args.self.now.reader) k.out
          (in_message k.setting k.past k.sent c.args.self.now c.args.head (data_of c.args.self.now.reader) k.out c.requires.phase) c.requires.fine;
    }

pub next_part-requires : goal.next_part-requires
next_part-requires c =
    let k = c.requires.heard in
    record {
      setting = k.setting;
      past = took k.past c.args.head (data_of c.args.self.now.reader);
      sent = k.sent;
      is = then_part c.args.self.now c.take.new.self c.args.head c.requires.phase c.requires.fine c.if-head-self.false c.take.ensures.goes c.take.ensures.queue
          c.take.ensures.rest c.in-Some.ensures.seen c.in-Some.ensures.found k.setting k.past k.sent (data_of c.args.self.now.reader) k.out
          (omega (arith, c.if-is_left.true, ap (λ (l : List ℕ). length l) c.in-Some.ensures.shows.message));
    }

pub returns-then-is_left-clause-goes : goal.returns-then-is_left-clause-goes
returns-then-is_left-clause-goes c = λ s past sent h.
    goes_behind s past sent c.args.head (data_of c.args.self.now.reader) c.next_part.new.self
    (c.next_part.ensures.goes s (took past c.args.head (data_of c.args.self.now.reader)) sent (then_part c.args.self.now c.take.new.self c.args.head c.requires.phase c.requires.fine c.if-head-self.false c.take.ensures.goes c.take.ensures.queue
    c.take.ensures.rest c.in-Some.ensures.seen c.in-Some.ensures.found s past sent (data_of c.args.self.now.reader) h
    (omega (arith, c.if-is_left.true, ap (λ (l : List ℕ). length l) c.in-Some.ensures.shows.message))))

pub finish-requires-clause-ends : goal.finish-requires-clause-ends
finish-requires-clause-ends c =
    let k = c.requires.heard in
    record {
      setting = k.setting;
      past = took k.past c.args.head (data_of c.args.self.now.reader);
      sent = k.sent;
      ends = then_ends c.args.self.now c.take.new.self c.args.head c.requires.phase c.requires.fine c.if-head-self.false c.take.ensures.goes c.take.ensures.queue
          c.take.ensures.rest c.in-Some.ensures.seen c.in-Some.ensures.found k.setting k.past k.sent (data_of c.args.self.now.reader) k.out
          (omega (arith, c.if-is_left.false, ap (λ (l : List ℕ). length l) c.in-Some.ensures.shows.message)) (sym c.in-Some.ensures.shows.kind ∙ c.in-Tell.is);
    }

pub returns-in-Tell-clause-goes : goal.returns-in-Tell-clause-goes
returns-in-Tell-clause-goes c = λ s past sent h.
    goes_behind s past sent c.args.head (data_of c.args.self.now.reader) c.finish.new.self
    (c.finish.ensures.goes s (took past c.args.head (data_of c.args.self.now.reader)) sent (then_ends c.args.self.now c.take.new.self c.args.head c.requires.phase c.requires.fine c.if-head-self.false c.take.ensures.goes c.take.ensures.queue
    c.take.ensures.rest c.in-Some.ensures.seen c.in-Some.ensures.found s past sent (data_of c.args.self.now.reader) h
    (omega (arith, c.if-is_left.false, ap (λ (l : List ℕ). length l) c.in-Some.ensures.shows.message)) (sym c.in-Some.ensures.shows.kind ∙ c.in-Tell.is)))

pub request-requires : goal.request-requires
request-requires c =
    let k = c.requires.heard in
    record {
      setting = k.setting;
      past = took k.past c.args.head (data_of c.args.self.now.reader);
      sent = k.sent;
      is = then_requests c.args.self.now c.take.new.self c.args.head c.requires.phase c.requires.fine c.if-head-self.false c.take.ensures.goes c.take.ensures.queue
          c.take.ensures.rest c.in-Some.ensures.seen c.in-Some.ensures.found k.setting k.past k.sent (data_of c.args.self.now.reader) k.out
          (omega (arith, c.if-is_left.false, ap (λ (l : List ℕ). length l) c.in-Some.ensures.shows.message)) (λ e. c.in_default-kind.not-Tell (c.in-Some.ensures.shows.kind ∙ e));
    }

pub returns-in_default-kind-clause-goes : goal.returns-in_default-kind-clause-goes
returns-in_default-kind-clause-goes c = λ s past sent h.
    goes_behind s past sent c.args.head (data_of c.args.self.now.reader) c.request.new.self
    (c.request.ensures.goes s (took past c.args.head (data_of c.args.self.now.reader)) sent (then_requests c.args.self.now c.take.new.self c.args.head c.requires.phase c.requires.fine c.if-head-self.false c.take.ensures.goes c.take.ensures.queue
    c.take.ensures.rest c.in-Some.ensures.seen c.in-Some.ensures.found s past sent (data_of c.args.self.now.reader) h
    (omega (arith, c.if-is_left.false, ap (λ (l : List ℕ). length l) c.in-Some.ensures.shows.message)) (λ e. c.in_default-kind.not-Tell (c.in-Some.ensures.shows.kind ∙ e))))

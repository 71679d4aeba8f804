use Rattle.std.proofs.Common.{◌∙◌, ℕ, List, length, sym, ap}
use Rattle.host_hub.proofs.Knowing.{never_none}
use Rattle.host_hub.proofs.Readings.{piece_completes, piece_fills, piece_requests}
use Rattle.host_hub.proofs.hub_core.HubCore.piece_ended.Goals as goal

pub finish-requires-clause-ends : goal.finish-requires-clause-ends
finish-requires-clause-ends c =
    let k = c.requires in
    record { setting = k.setting; past = k.past; sent = k.sent; ends = piece_completes k.setting k.past k.sent c.args.self.now c.args.eom k.ends c.if-eom.true }

pub returns-then-eom-clause-goes : goal.returns-then-eom-clause-goes
returns-then-eom-clause-goes c = λ s past sent p. c.finish.ensures.goes s past sent (piece_completes s past sent c.args.self.now c.args.eom p c.if-eom.true)

pub unreachable-requires : goal.unreachable-requires
unreachable-requires c = never_none c.requires.setting c.requires.past c.requires.sent c.args.self.now c.requires.ends.knows c.requires.ends.turn c.in_default.ensures

pub finish-requires-then-view-clause-ends : goal.finish-requires-then-view-clause-ends
finish-requires-then-view-clause-ends c =
    let k = c.requires in
    let v = c.in-Some.ensures in
    record {
      setting = k.setting;
      past = k.past;
      sent = k.sent;
      ends = piece_fills k.setting k.past k.sent c.args.self.now c.args.eom v.seen k.ends c.if-eom.false v.found
          (sym (ap (λ (l : List ℕ). length l) v.shows.bytes) ∙ (c.if-view.true ∙ v.shows.limit));
    }

pub returns-then-view-clause-goes : goal.returns-then-view-clause-goes
returns-then-view-clause-goes c = λ s past sent p.
    let v = c.in-Some.ensures in
    c.finish-then-view.ensures.goes s past sent (piece_fills s past sent c.args.self.now c.args.eom v.seen p c.if-eom.false v.found
    (sym (ap (λ (l : List ℕ). length l) v.shows.bytes) ∙ (c.if-view.true ∙ v.shows.limit)))

pub request-requires : goal.request-requires
request-requires c =
    let k = c.requires in
    let v = c.in-Some.ensures in
    record {
      setting = k.setting;
      past = k.past;
      sent = k.sent;
      is = piece_requests k.setting k.past k.sent c.args.self.now c.args.eom v.seen k.ends c.if-eom.false v.found
          (λ e. c.if-view.false (ap (λ (l : List ℕ). length l) v.shows.bytes ∙ (e ∙ sym v.shows.limit)));
    }

pub returns-clause-goes : goal.returns-clause-goes
returns-clause-goes c = λ s past sent p.
    let v = c.in-Some.ensures in
    c.request.ensures.goes s past sent (piece_requests s past sent c.args.self.now c.args.eom v.seen p c.if-eom.false v.found
    (λ e. c.if-view.false (ap (λ (l : List ℕ). length l) v.shows.bytes ∙ (e ∙ sym v.shows.limit))))

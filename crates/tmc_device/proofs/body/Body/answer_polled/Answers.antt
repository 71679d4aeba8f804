use Rattle.std.proofs.Common.{◌≡◌, ◌∙◌, List, ℕ, Some, ap, subst}
use Rattle.tmc_wire.specs.declared.class_request.ClassRequest.{ClassRequest}
use Rattle.tmc_wire.specs.declared.class_request.ClassRequest.TheVariants.{ReadStatus}
use Rattle.tmc_law.specs.Control.{control_answer}
use Rattle.tmc_device.specs.Body.{state_of}
use Rattle.tmc_device.specs.Control.{IsReplied}
use Rattle.tmc_device.proofs.Asked.{asked_asks}
use Rattle.tmc_device.proofs.Unlinking.{polled_row}
use Rattle.tmc_device.proofs.body.Body.answer_polled.Goals as goal

pub unreachable-requires-in_default-read_class : goal.unreachable-requires-in_default-read_class
unreachable-requires-in_default-read_class c =
    let row = polled_row (state_of c.args.self.now) c.in-Some.asked c.requires.polled.0 c.requires.sound c.in-Some.ensures c.requires.polled.1 in
    c.in_default-read_class.not-Some (ReadStatus row.tag) ((c.read_class.ensures.some (ReadStatus row.tag)).1 row.row)

pub unreachable-requires-in_default-request : goal.unreachable-requires-in_default-request
unreachable-requires-in_default-request c =
    let row = polled_row (state_of c.args.self.now) c.in-Some.asked c.requires.polled.0 c.requires.sound c.in-Some.ensures c.requires.polled.1 in
    let is = (c.read_class.ensures.some (ReadStatus row.tag)).1 row.row in
    let was = c.in-Some-read_class.is in
    let same : c.in-Some-read_class.request ≡ ReadStatus row.tag = cc in
    c.in_default-request.not-ReadStatus row.tag same

pub returns : goal.returns
returns c submit behind first = record {
  setup = c.in-Some.asked.setup;
  tag = c.in-ReadStatus.tag;
  asks = asked_asks (state_of c.args.self.now) c.in-Some.asked c.in-Some.ensures submit behind first;
  row = (c.read_class.ensures.some (ReadStatus c.in-ReadStatus.tag)).0 (c.in-Some-read_class.is ∙ ap (λ (r : ClassRequest). Some r) c.in-ReadStatus.is);
  replied = subst (λ (l : List ℕ). IsReplied behind (control_answer submit c.in-Some.asked.setup l) c.args.self.now c.reply.new.self) c.status_layout.ensures
      (c.reply.ensures submit behind first);
}

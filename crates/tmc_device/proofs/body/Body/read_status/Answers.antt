use Rattle.std.proofs.Common.{◌≡◌, ◌∙◌, refl, sym, ap, subst, arith, ℕ, false, List, [], ◌∷◌, ◌++◌}
use Rattle.usbip_wire.specs.declared.submit.SubmitHead.{SubmitHead}
use Rattle.tmc_law.specs.State.{State, Packet}
use Rattle.tmc_law.specs.Control.{control_answer}
use Rattle.tmc_law.specs.Logging.{is_queued}
use Rattle.tmc_law.specs.Status.{BadTag, PolledBefore, Busy, PolledNow, Polls, is_status, status_layout}
use Rattle.tmc_law.specs.Reached.{AreFew}
use Rattle.tmc_device.specs.Parts.{Outbox}
use Rattle.tmc_device.specs.Body.{state_of}
use Rattle.tmc_device.proofs.Asked.{asked_head, asked_polled}
use Rattle.tmc_device.proofs.body.Body.read_status.Goals as goal

pub poll_for-requires : goal.poll_for-requires
poll_for-requires c =
    let asked = c.requires.asked in
    let replied = c.reply-else-has_status.ensures asked.submit asked.behind asked.first in
    let packets = sym (ap (λ (s : State). s.packets) replied.state) in
    record {
      room = omega (arith, replied.log, c.requires.ready.room.log);
      few = subst (λ (p : List Packet). AreFew p) packets c.requires.ready.sound.few;
      none_queued = subst (λ (p : List Packet). is_queued is_status p ≡ false) packets (sym c.has_status.ensures ∙ c.if-has_status.false);
    }

pub returns-then-not-is_status_tag : goal.returns-then-not-is_status_tag
returns-then-not-is_status_tag c = λ submit behind first.
    let old = c.args.self.now in
    let replied = c.reply.ensures submit behind first in
    record {
      served = record { layout = status_layout 0x80 c.args.tag; behind = []; state = record (state_of old) { control = behind } };
      serves = BadTag c.if-not-is_status_tag.ensures refl;
      joins = replied.puts ∙ ap (λ (l : List ℕ). old.outputs.puts ++ control_answer submit c.args.asked.now.setup l ∷ []) c.status_layout.ensures;
      is = replied.state;
    }

pub returns-then-asked : goal.returns-then-asked
returns-then-asked c = λ submit behind first.
    let old = c.args.self.now in
    let asked = c.args.asked.now in
    let replied = c.reply-then-asked.ensures submit behind first in
    record {
      served = record { layout = status_layout 1 c.args.tag; behind = []; state = record (state_of old) { control = behind } };
      serves = PolledBefore c.if-not-is_status_tag.ensures (asked_polled (state_of old) asked c.requires.asked submit behind first ∙ c.if-asked.true) refl;
      joins = replied.puts ∙ ap (λ (l : List ℕ). old.outputs.puts ++ control_answer submit asked.setup l ∷ []) c.status_layout-then-asked.ensures;
      is = replied.state;
    }

pub returns-then-has_status : goal.returns-then-has_status
returns-then-has_status c = λ submit behind first.
    let old = c.args.self.now in
    let asked = c.args.asked.now in
    let replied = c.reply-then-has_status.ensures submit behind first in
    record {
      served = record { layout = status_layout 0x20 c.args.tag; behind = []; state = record (state_of old) { control = behind } };
      serves = Busy c.if-not-is_status_tag.ensures (asked_polled (state_of old) asked c.requires.asked submit behind first ∙ c.if-asked.false)
          (sym c.has_status.ensures ∙ c.if-has_status.true) refl;
      joins = replied.puts ∙ ap (λ (l : List ℕ). old.outputs.puts ++ control_answer submit asked.setup l ∷ []) c.status_layout-then-has_status.ensures;
      is = replied.state;
    }

pub returns-else-has_status : goal.returns-else-has_status
returns-else-has_status c = λ submit behind first.
    let old = c.args.self.now in
    let asked = c.args.asked.now in
    let replied = c.reply-else-has_status.ensures submit behind first in
    let to = state_of c.poll_for.new.self in
    let polls : Polls submit.head.seqnum c.args.tag (record (state_of old) { control = behind }) to =
    subst (λ (s : State). Polls submit.head.seqnum c.args.tag s to) replied.state
    (subst (λ (h : SubmitHead). Polls h.seqnum c.args.tag (state_of c.reply-else-has_status.new.self) to)
    (sym (asked_head (state_of old) asked c.requires.asked submit behind first)) c.poll_for.ensures.polls) in
    record {
      served = record { layout = status_layout 1 c.args.tag; behind = []; state = to };
      serves = PolledNow to c.if-not-is_status_tag.ensures (asked_polled (state_of old) asked c.requires.asked submit behind first ∙ c.if-asked.false)
          (sym c.has_status.ensures ∙ c.if-has_status.false) polls refl;
      joins = ap (λ (o : Outbox). o.puts) c.poll_for.ensures.outputs
          ∙ (replied.puts ∙ ap (λ (l : List ℕ). old.outputs.puts ++ control_answer submit asked.setup l ∷ []) c.status_layout-else-has_status.ensures);
      is = refl;
    }

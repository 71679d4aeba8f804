use Rattle.std.proofs.Common.{◌≡◌, ◌∙◌, refl, sym, ap, subst, true, List, [], ◌∷◌, append-nil}
use Rattle.usb_setup.specs.declared.setup.Setup.{Setup}
use Rattle.usbip_wire.specs.declared.submit.SubmitHead.{SubmitHead}
use Rattle.tmc_wire.specs.declared.class_request.ClassRequest.{ClassRequest}
use Rattle.tmc_wire.specs.declared.class_request.ClassRequest.TheVariants.{ReadStatus}
use Rattle.tmc_wire.specs.ControlTable.{IsRow}
use Rattle.tmc_law.specs.Endpoint.{Control, ends}
use Rattle.tmc_law.specs.State.{State, Pending}
use Rattle.tmc_law.specs.Status.{Polls}
use Rattle.tmc_law.specs.Class.{DoesPollFirst}
use Rattle.endpoint_pipes.specs.Held as pipes
use Rattle.endpoint_pipes.specs.Part.{queue_from}
use Rattle.tmc_device.specs.Seen.{Seen}
use Rattle.tmc_device.specs.Parts.{Outbox, presence_of}
use Rattle.tmc_device.specs.Body.{state_of}
use Rattle.tmc_device.proofs.Asked.{asked_is, polled_again}
use Rattle.tmc_device.proofs.body.Body.poll.Goals as goal

pub returns-in_default-read_class : goal.returns-in_default-read_class
returns-in_default-read_class c = (
  (λ enabled.
      let needs = enabled.needs in
      let asked = c.in-Some.asked in
      let same = asked_is (state_of c.args.self.now) asked c.in-Some.ensures needs.submit needs.behind needs.setup needs.first needs.asks in
      c.read_class.ensures.none.0 c.in_default-read_class.is (ReadStatus needs.tag) (subst (λ (z : Setup). IsRow ends (ReadStatus needs.tag) z) (sym same) needs.row)),
  refl,
)

pub returns-then-is_err : goal.returns-then-is_err
returns-then-is_err c =
    let is = c.in-Some.ensures in (
      (record {
        plugged = ap presence_of c.requires.plugged;
        needs = record {
          submit = is.submit;
          behind = is.behind;
          setup = c.in-Some.asked.setup;
          tag = c.in-ReadStatus.tag;
          first = is.first;
          asks = is.asks;
          row = subst (λ (r : ClassRequest). IsRow ends r c.in-Some.asked.setup) c.in-ReadStatus.is ((c.in-Some-read_class.ensures.some c.in-Some-read_class.request).0 refl);
          tagged = c.if-not-is_status_tag.ensures;
          unpolled = is.polled ∙ c.if-asked.false;
          none_queued = sym c.has_status.ensures ∙ c.if-has_status.false;
        };
      }),
      c.prepare.ensures.same.seen,
    )

pub returns : goal.returns
returns c =
    let old = c.args.self.now in
    let is = c.in-Some.ensures in
    let asked = c.in-Some.asked in
    let tag = c.in-ReadStatus.tag in
    let to = state_of c.poll_for.new.self in
    let same = c.prepare.ensures.same in
    let row : IsRow ends (ReadStatus tag) asked.setup =
    subst (λ (r : ClassRequest). IsRow ends r asked.setup) c.in-ReadStatus.is ((c.in-Some-read_class.ensures.some c.in-Some-read_class.request).0 refl) in
    let unpolled = is.polled ∙ c.if-asked.false in
    let none = sym c.has_status.ensures ∙ c.if-has_status.false in
    let marked : state_of (record c.prepare.new.self { polled = true }) ≡ record (state_of old) { control = record is.submit { polled = true } ∷ is.behind } =
    ap (λ (z : Seen). record z.state { control = queue_from Control true c.prepare.new.self.pipes.control }) same.seen
    ∙ (ap (λ (p : pipes.Held). record (state_of old) { control = queue_from Control true p.control }) same.pipes
    ∙ ap (λ (l : List Pending). record (state_of old) { control = l }) (polled_again old.polled old.pipes.control is.submit is.behind is.first)) in
    let polls : Polls is.submit.head.seqnum tag (record (state_of old) { control = record is.submit { polled = true } ∷ is.behind }) to =
    subst (λ (s : State). Polls is.submit.head.seqnum tag s to) marked
    (subst (λ (h : SubmitHead). Polls h.seqnum tag (state_of (record c.prepare.new.self { polled = true })) to) (sym is.head) c.poll_for.ensures.polls) in (
      (record {
        plugged = ap presence_of c.requires.plugged;
        needs = record {
          submit = is.submit;
          behind = is.behind;
          setup = asked.setup;
          tag = tag;
          first = is.first;
          asks = is.asks;
          row = row;
          tagged = c.if-not-is_status_tag.ensures;
          unpolled = unpolled;
          none_queued = none;
        };
      }),
      record {
        puts = [];
        steps = record {
          plugged = ap presence_of c.requires.plugged;
          leads = (DoesPollFirst is.submit is.behind asked.setup tag is.first is.asks row c.if-not-is_status_tag.ensures unpolled none polls, refl);
        };
        joins = ap (λ (o : Outbox). o.puts) c.poll_for.ensures.outputs ∙ (same.outputs ∙ sym (append-nil old.outputs.puts));
      },
    )

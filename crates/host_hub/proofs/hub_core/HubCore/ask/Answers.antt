use Rattle.std.proofs.Common.{◌≡◌, ◌∙◌, ◌+◌, ℕ, refl, sym, ap, subst, arith, None, Some}
use Rattle.std.specs.Prelude.{Option}
use Rattle.host_hub.specs.declared.hub_core.HubCore.{HubCore}
use Rattle.host_hub.specs.declared.refusals.AskFault.{AskFault}
use Rattle.host_hub.specs.Record.{Asking}
use Rattle.host_hub.specs.Refusals.{ask_fault}
use Rattle.host_hub.specs.Stands.{Rests}
use Rattle.host_hub.specs.Steps.{asked}
use Rattle.host_hub.specs.Asks.{IsWhy}
use Rattle.host_hub.proofs.Asks.{unrefused, tells, fewer, enters_queued, enters_begun, roomier_rests, ready_by, queued_by}
use Rattle.host_hub.proofs.hub_core.HubCore.ask.Goals as goal

pub returns-in-Some-clause-asks : goal.returns-in-Some-clause-asks
returns-in-Some-clause-asks c = λ s past sent r.
    let e : Some c.in-Some.fault ≡ ask_fault s past (record { session = c.args.session; kind = c.args.kind; limit = c.args.limit; message = c.args.message.now }) =
    c.in-Some.ensures s past (tells s past sent c.args.self.now r.knows) in
    (subst (λ (o : Option AskFault). IsWhy o c.in-Some.fault) e refl, refl, r)

pub enter-requires-clause-running : goal.enter-requires-clause-running
enter-requires-clause-running c =
    let r = c.requires.rests in
    let u = unrefused r.setting r.past (record { session = c.args.session; kind = c.args.kind; limit = c.args.limit; message = c.args.message.now }) c.requires.message
    (sym (c.in_default.ensures r.setting r.past (tells r.setting r.past r.sent c.args.self.now r.rests.knows))) in
    r.rests.knows.over ∙ u.running

pub enter-requires-clause-few : goal.enter-requires-clause-few
enter-requires-clause-few c =
    let r = c.requires.rests in
    fewer r.setting r.past r.sent c.args.self.now (record { session = c.args.session; kind = c.args.kind; limit = c.args.limit; message = c.args.message.now }) r.rests.knows
    (unrefused r.setting r.past (record { session = c.args.session; kind = c.args.kind; limit = c.args.limit; message = c.args.message.now }) c.requires.message
    (sym (c.in_default.ensures r.setting r.past (tells r.setting r.past r.sent c.args.self.now r.rests.knows))))

pub enter-requires-clause-proper : goal.enter-requires-clause-proper
enter-requires-clause-proper c =
    let r = c.requires.rests in
    let u = unrefused r.setting r.past (record { session = c.args.session; kind = c.args.kind; limit = c.args.limit; message = c.args.message.now }) c.requires.message
    (sym (c.in_default.ensures r.setting r.past (tells r.setting r.past r.sent c.args.self.now r.rests.knows))) in
    u.proper

pub enter-requires-clause-sum : goal.enter-requires-clause-sum
enter-requires-clause-sum c =
    let r = c.requires.rests in
    let u = unrefused r.setting r.past (record { session = c.args.session; kind = c.args.kind; limit = c.args.limit; message = c.args.message.now }) c.requires.message
    (sym (c.in_default.ensures r.setting r.past (tells r.setting r.past r.sent c.args.self.now r.rests.knows))) in
    omega (arith, u.sum, r.rests.knows.limit_sum)

pub begin-requires : goal.begin-requires
begin-requires c =
    let r = c.requires.rests in
    let a : Asking = record { session = c.args.session; kind = c.args.kind; limit = c.args.limit; message = c.args.message.now } in
    let u = unrefused r.setting r.past (record { session = c.args.session; kind = c.args.kind; limit = c.args.limit; message = c.args.message.now }) c.requires.message
    (sym (c.in_default.ensures r.setting r.past (tells r.setting r.past r.sent c.args.self.now r.rests.knows))) in
    record {
      setting = r.setting;
      past = asked r.past (record { session = c.args.session; kind = c.args.kind; limit = c.args.limit; message = c.args.message.now });
      sent = r.sent;
      ready = ready_by r.setting r.past r.sent c.args.self.now c.enter.new.self (record { session = c.args.session; kind = c.args.kind; limit = c.args.limit; message = c.args.message.now })
          r.rests (r.rests.knows.over ∙ u.running) (c.in-Ok.ensures.rest) c.in-Idle.is (c.in-Ok.ensures.goes r.setting r.past r.sent r.rests.kept.lawful r.rests.knows);
    }

pub returns-in-Idle-clause-asks : goal.returns-in-Idle-clause-asks
returns-in-Idle-clause-asks c = λ s past sent r.
    let none : ask_fault s past (record { session = c.args.session; kind = c.args.kind; limit = c.args.limit; message = c.args.message.now }) ≡ None =
    sym (c.in_default.ensures s past (tells s past sent c.args.self.now r.knows)) in
    let u = unrefused s past (record { session = c.args.session; kind = c.args.kind; limit = c.args.limit; message = c.args.message.now }) c.requires.message none in (
      none,
      c.in-Ok.ensures.number ∙ ap (λ (n : ℕ). n + 1) r.knows.shows.count,
      enters_begun s past sent (record { session = c.args.session; kind = c.args.kind; limit = c.args.limit; message = c.args.message.now }) c.begin.new.self
          (c.begin.ensures.goes s (asked past (record { session = c.args.session; kind = c.args.kind; limit = c.args.limit; message = c.args.message.now })) sent
          (ready_by s past sent c.args.self.now c.enter.new.self (record { session = c.args.session; kind = c.args.kind; limit = c.args.limit; message = c.args.message.now })
          r (r.knows.over ∙ u.running) (c.in-Ok.ensures.rest) c.in-Idle.is (c.in-Ok.ensures.goes s past sent r.kept.lawful r.knows))),
    )

pub returns-in_default-phase-clause-asks : goal.returns-in_default-phase-clause-asks
returns-in_default-phase-clause-asks c = λ s past sent r.
    let none : ask_fault s past (record { session = c.args.session; kind = c.args.kind; limit = c.args.limit; message = c.args.message.now }) ≡ None =
    sym (c.in_default.ensures s past (tells s past sent c.args.self.now r.knows)) in
    let u = unrefused s past (record { session = c.args.session; kind = c.args.kind; limit = c.args.limit; message = c.args.message.now }) c.requires.message none in (
      none,
      c.in-Ok.ensures.number ∙ ap (λ (n : ℕ). n + 1) r.knows.shows.count,
      enters_queued s past sent (record { session = c.args.session; kind = c.args.kind; limit = c.args.limit; message = c.args.message.now }) c.enter.new.self
          (queued_by s past sent c.args.self.now c.enter.new.self (record { session = c.args.session; kind = c.args.kind; limit = c.args.limit; message = c.args.message.now })
          r (r.knows.over ∙ u.running) (c.in-Ok.ensures.rest) c.in_default-phase.not-Idle (c.in-Ok.ensures.goes s past sent r.kept.lawful r.knows)),
    )

pub returns-in-Err-clause-asks : goal.returns-in-Err-clause-asks
returns-in-Err-clause-asks c = λ s past sent r.
    let none : ask_fault s past (record { session = c.args.session; kind = c.args.kind; limit = c.args.limit; message = c.args.message.now }) ≡ None =
    sym (c.in_default.ensures s past (tells s past sent c.args.self.now r.knows)) in (
      subst (λ (o : Option AskFault). IsWhy o c.in-Err.fault) (sym none) c.in-Err.ensures.cause,
      c.in-Err.ensures.unchanged,
      subst (λ (h : HubCore). Rests s past sent h) (sym (c.in-Err.ensures.unchanged))
          (roomier_rests s past sent c.args.self.now c.enter.new.self.notes.room c.enter.new.self.notes.places r (c.in-Err.ensures.no_less)),
    )

use Rattle.std.proofs.Common.{◌∙◌, ◌∷◌, ap}
use Rattle.host_hub.specs.declared.notes.Mark.{Mark}
use Rattle.host_hub.specs.declared.hub_core.HubCore.{HubCore}
use Rattle.host_hub.specs.declared.outcome.End.TheVariants as end
use Rattle.host_hub.specs.Noted.{with_mark}
use Rattle.host_hub.specs.Record.{GaveUp, Stopped}
use Rattle.host_hub.proofs.Givings.{given_keeps, given_rests, knows_given, none_given}
use Rattle.host_hub.proofs.hub_core.HubCore.give_up.Goals as goal

pub give_up-requires : goal.give_up-requires
give_up-requires c = none_given c.requires.setting c.requires.past c.requires.sent c.args.self.now c.requires.rests c.in_default.is

pub settle_all-requires : goal.settle_all-requires
settle_all-requires c =
    let k = c.requires in
    record {
      setting = k.setting;
      past = Stopped end.GivenUp ∷ GaveUp ∷ k.past;
      sent = k.sent;
      knows = knows_given k.setting k.past k.sent c.args.self.now c.give_up.new.self c.mark.new.self k.rests.knows c.in_default.is c.give_up.ensures
          (c.mark.ensures ∙ ap (λ (m : Mark). with_mark m c.args.self.now.notes) c.mark-mark.ensures);
      keeps = given_keeps k.setting k.past k.sent c.args.self.now k.rests c.in_default.is;
    }

pub returns-clause-given : goal.returns-clause-given
returns-clause-given c = λ running s past sent r.
    given_rests s past sent c.args.self.now c.settle_all.new.self r running (ap (λ (h : HubCore). h.end) c.settle_all.ensures.rest)
    (c.settle_all.ensures.goes s (Stopped end.GivenUp ∷ GaveUp ∷ past) sent (given_keeps s past sent c.args.self.now r running)
    (knows_given s past sent c.args.self.now c.give_up.new.self c.mark.new.self r.knows running c.give_up.ensures
    (c.mark.ensures ∙ ap (λ (m : Mark). with_mark m c.args.self.now.notes) c.mark-mark.ensures)))

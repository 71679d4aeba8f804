use Rattle.std.proofs.Common.{[], ◌∷◌, ◌++◌, ◌∙◌, ap, subst}
use Rattle.instr_plain.specs.declared.log.LogEntry.TheVariants as entry
use Rattle.instr_plain.specs.Log.{After}
use Rattle.tmc_law.specs.Log.{Entries}
use Rattle.msg_exchange.specs.Held.{Kept}
use Rattle.msg_exchange.proofs.Logging.{logs_held}
use Rattle.msg_exchange.proofs.exchange.Exchange.trigger.Goals as goal

pub returns-clause-triggers : goal.returns-clause-triggers
returns-clause-triggers c s holds =
    logs_held (entry.Trigger c.args.seq) s c.args.self.now.held _ holds (ap (λ (k : Kept). k.held.part) c.self.view_is) (ap (λ (k : Kept). k.held.waiting) c.self.view_is)
    (ap (λ (e : Entries). e.entries) c.push.ensures ∙ ap (λ (k : Kept). k.held.log ++ entry.Trigger c.args.seq ∷ []) c.self.view_is)
    (subst (λ (k : Kept). After k.held.standing (entry.Trigger c.args.seq) c.trigger.new.self) c.self.view_is (c.trigger.ensures c.args.seq))

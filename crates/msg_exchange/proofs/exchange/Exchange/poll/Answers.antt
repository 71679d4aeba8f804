use Rattle.std.proofs.Common.{[], ◌∷◌, ◌++◌, ◌∙◌, ap, subst}
use Rattle.instr_plain.specs.declared.log.LogEntry.TheVariants as entry
use Rattle.instr_plain.specs.Log.{After}
use Rattle.tmc_law.specs.Log.{Entries}
use Rattle.msg_exchange.specs.Held.{Kept}
use Rattle.msg_exchange.proofs.Logging.{logs_held}
use Rattle.msg_exchange.proofs.exchange.Exchange.poll.Goals as goal

pub returns-clause-polls : goal.returns-clause-polls
returns-clause-polls c s holds =
    logs_held (entry.Poll c.args.seq) s c.args.self.now.held _ holds (ap (λ (k : Kept). k.held.part) c.self.view_is) (ap (λ (k : Kept). k.held.waiting) c.self.view_is)
    (ap (λ (e : Entries). e.entries) c.push.ensures ∙ ap (λ (k : Kept). k.held.log ++ entry.Poll c.args.seq ∷ []) c.self.view_is)
    (subst (λ (k : Kept). After k.held.standing (entry.Poll c.args.seq) c.poll_status-byte.new.self) c.self.view_is (c.poll_status-byte.ensures.entry c.args.seq))

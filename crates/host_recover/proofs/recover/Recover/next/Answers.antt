use Rattle.std.proofs.Common.{sym, ◌∙◌}
use Rattle.host_recover.proofs.Follows.{follows_next, follows_stuck}
use Rattle.host_recover.proofs.recover.Recover.next.Goals as goal

pub returns-in-Ok-clause-follows : goal.returns-in-Ok-clause-follows
returns-in-Ok-clause-follows c = follows_next _ _ c.self.inside.last _ _ _ _ c.in-Ok.stage _ c.self.view_is c.requires.awaited (sym c.step-next.ensures ∙ c.in-Ok.is) c.wanted.ensures

pub returns-in-Err-clause-follows : goal.returns-in-Err-clause-follows
returns-in-Err-clause-follows c = follows_stuck _ _ c.self.inside.last _ _ _ _ c.in-Err.status c.self.view_is c.requires.awaited (sym c.step-next.ensures ∙ c.in-Err.is)

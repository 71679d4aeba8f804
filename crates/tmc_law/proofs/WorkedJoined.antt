-- two runs of a worked session, end to end
use Rattle.std.proofs.Common.{List, [], ◌∷◌, ◌++◌, subst}
use Rattle.tmc_law.specs.State.{State}
use Rattle.tmc_law.specs.Run.{Entry, Runs}

pub joined : (a b : List Entry) (s m t : State) → Runs s a m → Runs m b t → Runs s (a ++ b) t
joined [] b s m t same r = subst (λ (x : State). Runs x b t) same r
joined (entry ∷ a) b s m t (mid, goes, rest) r = (mid, goes, joined a b mid m t rest r)

use Rattle.std.proofs.Common.{refl}
use Rattle.host_hub.proofs.Givings.{fresh_rests}
use Rattle.host_hub.proofs.hub_core.HubCore.new.Goals as goal

pub returns-clause-rests : goal.returns-clause-rests
returns-clause-rests c =
    fresh_rests _ _ refl refl refl (c.in_ok-new.ensures.begun) (c.in_ok-new.ensures.recorded) (c.in_ok-new-2.ensures) (c.in_ok-new-3.ensures) c.new-2.ensures refl refl refl refl refl

-- what the exchange does is logged
use Rattle.std.proofs.Common.{refl}
use Rattle.msg_exchange.specs.Held.{Holds}
use Rattle.tmc_device.specs.declared.body.Body.{Body}
use Rattle.tmc_device.specs.Body.{state_of}

-- the exchange is part of the body's state
pub own : (body : Body) → Holds (state_of body) body.exchange.held
own body = record { part = refl; waiting = refl; log = refl; standing = refl }

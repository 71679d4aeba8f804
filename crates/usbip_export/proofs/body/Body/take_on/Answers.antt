use Rattle.usbip_export.specs.Steps.{AreArrivals}
use Rattle.usbip_export.specs.Body.{seen_of}
use Rattle.usbip_export.proofs.Worked.{wanting_by}
use Rattle.usbip_export.proofs.body.Body.take_on.Goals as goal

pub returns-in-Ok-clause-moves : goal.returns-in-Ok-clause-moves
returns-in-Ok-clause-moves c = wanting_by AreArrivals (seen_of c.args.self.now) (seen_of c.take_in.new.self) _ c.in-Ok.ensures.moves

pub returns-in-Err-clause-moves : goal.returns-in-Err-clause-moves
returns-in-Err-clause-moves c = wanting_by AreArrivals (seen_of c.args.self.now) (seen_of c.take_in.new.self) _ c.in-Err.ensures.moves

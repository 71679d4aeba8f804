use Rattle.std.proofs.Common.{refl, sym, ◌∙◌}
use Rattle.usbip_export.proofs.Driven.{drives_body, unrefused}
use Rattle.usbip_export.proofs.body.Body.drive.Goals as goal

pub returns-in-Applied-clause-applied : goal.returns-in-Applied-clause-applied
returns-in-Applied-clause-applied c = λ _.
    drives_body c.args.event c.args.self.now c.spell.new.self c.drive.new.self (unrefused _ (sym c.is_some.ensures ∙ c.if-is_some.false))
    (c.in-Applied.ensures.applied refl) c.spell.ensures.off

use Rattle.std.proofs.Common.{◌≡◌, ◌∙◌, refl, []}
use Rattle.usbip_wire.specs.declared.urb.Dir.{Dir}
use Rattle.usbip_wire.specs.declared.urb.Dir.TheVariants.{Out, In}
use Rattle.tmc_law.specs.Put.{returned}
use Rattle.tmc_device.proofs.body.Body.stall.Goals as goal

returned_none : (d : Dir) → [] ≡ returned d []
returned_none Out = refl
returned_none In = refl

pub returns : goal.returns
returns c = λ submit behind first. c.end_asked.ensures submit behind [] first refl (c.requires.empty ∙ returned_none submit.head.dir)

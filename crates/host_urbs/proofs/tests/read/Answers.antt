use Rattle.std.proofs.Common.{ℕ, length, ap, ◌∙◌, length-append}
use Rattle.host_urbs.specs.Held.{Held}
use Rattle.host_urbs.proofs.tests.read.Goals as goal

pub returns : goal.returns
returns g c = ap (λ (h : Held). length h.entries) c.submit.ensures.written ∙ length-append c.args.urbs.now.entries _

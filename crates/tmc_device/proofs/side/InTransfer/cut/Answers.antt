use Rattle.std.proofs.Common.{◌∙◌, sym, ap, List, ℕ, length}
use Rattle.tmc_law.specs.State.{Side}
use Rattle.tmc_law.specs.Aborts.{given_of}
use Rattle.tmc_device.specs.declared.side.Phase.{Phase}
use Rattle.tmc_device.specs.Parts.{side_of}
use Rattle.tmc_device.proofs.side.InTransfer.cut.Goals as goal

pub returns-clause-given : goal.returns-clause-given
returns-clause-given c =
    let left = c.self.inside.left.items in
    c.data_given-given.ensures c.in-Sending.tag left (ap (λ (l : List ℕ). length l) c.as_slice.ensures)
    ∙ (ap (λ (p : Phase). given_of (side_of p left)) (sym c.in-Sending.is) ∙ ap (λ (s : Side). given_of s) c.self.view_is)

use Rattle.std.proofs.Common.{ap, refl}
use Rattle.tmc_law.specs.Aborts.{Another}
use Rattle.tmc_device.specs.Parts.{running_of}
use Rattle.tmc_device.proofs.aborts.declined.Goals as goal
use Rattle.tmc_device.proofs.aborts.declined.Goals.{in-Nothing, in_default}

pub returns-in-Some : goal.returns-in-Some
returns-in-Some c = elim c.match-matches.branch [
  | in-Nothing w ↦ Another c.in-Some.other (ap running_of w.in-Nothing.is) c.in-Some.is c.if-other-tag.true refl
  | in_default w ↦ let a = w.matches-is in let b = c.if-not-matches.false in absurd (cc)
]

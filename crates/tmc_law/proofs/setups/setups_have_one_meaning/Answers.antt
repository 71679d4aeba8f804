use Rattle.std.proofs.Common.{sym, ◌∙◌}
use Rattle.tmc_law.specs.Endpoint.{ends}
use Rattle.tmc_law.proofs.SetupRows.{one_standard, not_both}
use Rattle.tmc_law.proofs.setups.setups_have_one_meaning.Goals as goal

pub returns-clause-carried : goal.returns-clause-carried
returns-clause-carried c head transferred is =
    let setup = c.setups_are_eight_bytes.ensures.every head.setup is.eight is.setup in
    (setup.0, record { fits = setup.1; layout = sym setup.2 })

pub returns-clause-one : goal.returns-clause-one
returns-clause-one c submit a b p q = c.setups_are_eight_bytes.ensures.one a b p.fits q.fits (sym p.layout ∙ q.layout)

pub returns-clause-class : goal.returns-clause-class
returns-clause-class c setup a b p q = c.requests_are_read_again.ensures.one_row ends setup a b p q

pub returns-clause-standard : goal.returns-clause-standard
returns-clause-standard c = one_standard

pub returns-clause-apart : goal.returns-clause-apart
returns-clause-apart c = not_both

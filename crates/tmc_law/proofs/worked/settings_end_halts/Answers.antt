use Rattle.tmc_law.proofs.WorkedStandard.{sets_configuration, sets_interface, clears_interrupt}
use Rattle.tmc_law.proofs.worked.settings_end_halts.Goals as goal

pub returns-clause-configuration : goal.returns-clause-configuration
returns-clause-configuration c = sets_configuration

pub returns-clause-interface : goal.returns-clause-interface
returns-clause-interface c = sets_interface

pub returns-clause-endpoint : goal.returns-clause-endpoint
returns-clause-endpoint c = clears_interrupt

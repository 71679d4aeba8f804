use Rattle.tmc_law.proofs.WorkedUnknown.{stalls_string, stalls_configure, stalls_select, stalls_pulse}
use Rattle.tmc_law.proofs.worked.near_requests_stall.Goals as goal

pub returns-clause-string : goal.returns-clause-string
returns-clause-string c = stalls_string

pub returns-clause-configuration : goal.returns-clause-configuration
returns-clause-configuration c = stalls_configure

pub returns-clause-alternate : goal.returns-clause-alternate
returns-clause-alternate c = stalls_select

pub returns-clause-pulse : goal.returns-clause-pulse
returns-clause-pulse c = stalls_pulse

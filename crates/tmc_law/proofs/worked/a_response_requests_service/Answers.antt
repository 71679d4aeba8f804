use Rattle.tmc_law.proofs.WorkedService.{requests_service}
use Rattle.tmc_law.proofs.worked.a_response_requests_service.Goals as goal

pub returns : goal.returns
returns c = requests_service

use Rattle.host_hub.proofs.Polls.{is_written, polled_written}
use Rattle.host_hub.proofs.sentences.status_reads_have_their_request.Goals as goal

pub returns-clause-request : goal.returns-clause-request
returns-clause-request c = polled_written

pub returns-clause-message : goal.returns-clause-message
returns-clause-message c = is_written

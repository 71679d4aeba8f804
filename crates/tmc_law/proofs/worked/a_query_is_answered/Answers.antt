use Rattle.std.proofs.Common.{[], ◌++◌, refl, lit<, lit≤}
use Rattle.usbip_wire.specs.Urb.{fields}
use Rattle.usbip_wire.specs.RetSubmit.{ret_submit_bytes, unused}
use Rattle.tmc_law.specs.State.{start}
use Rattle.tmc_law.specs.WorkedQuery.{query_submit, request_submit, response_submit, response_text, asking, answering}
use Rattle.tmc_law.proofs.WorkedSpelling.{succeeded, success_spelled}
use Rattle.tmc_law.proofs.WorkedJoined.{joined}
use Rattle.tmc_law.proofs.WorkedQuery.{requested, done, asks, answers}
use Rattle.tmc_law.proofs.worked.a_query_is_answered.Goals as goal

pub returns-clause-runs : goal.returns-clause-runs
returns-clause-runs c = joined asking answering start requested done asks answers

pub returns-clause-spelled : goal.returns-clause-spelled
unfolding ret_submit_bytes fields
returns-clause-spelled c = (
  ret_submit_bytes (succeeded 1 20) unused [],
  ret_submit_bytes (succeeded 2 12) unused [] ++ (ret_submit_bytes (succeeded 3 32) unused response_text ++ []),
  refl,
  success_spelled query_submit 20 [] (lit< tt) (lit< tt) (lit≤ tt) refl,
  (
    ret_submit_bytes (succeeded 2 12) unused [],
    ret_submit_bytes (succeeded 3 32) unused response_text ++ [],
    refl,
    success_spelled request_submit 12 [] (lit< tt) (lit< tt) (lit≤ tt) refl,
    (
      ret_submit_bytes (succeeded 3 32) unused response_text,
      [],
      refl,
      success_spelled response_submit 32 response_text (lit< tt) (lit< tt) (lit≤ tt) refl,
      refl,
    ),
  ),
)

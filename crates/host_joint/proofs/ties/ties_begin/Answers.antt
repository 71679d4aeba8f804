use Rattle.std.proofs.Common.{[], List, None, refl, ap, ◌++◌}
use Rattle.tmc_law.specs.Endpoint.{Endpoint, Control, BulkOut, BulkIn, InterruptIn}
use Rattle.tmc_law.specs.State.{Pending}
use Rattle.host_joint.specs.Lines.{Line, heads}
use Rattle.host_joint.specs.Tie.{asked_of}
use Rattle.host_joint.proofs.Booking.{begins}
use Rattle.host_joint.proofs.ties.ties_begin.Goals as goal

pub returns-clause-power_on : goal.returns-clause-power_on
returns-clause-power_on c next = record {
  run = [];
  reached = refl;
  lines = begins (asked_of None) (λ e. refl);
  fitting = tt;
  good = tt;
  out_usable = refl;
  in_usable = refl;
  rises = tt;
  below = tt;
  held = (refl, record { bulk_out = refl; bulk_in = refl; running = refl; side = refl; out = (refl, refl); waits = tt; shut = tt });
}

pub returns-clause-rest : goal.returns-clause-rest
returns-clause-rest c run next s reached at control interrupt outs ins rises below = record {
  run = run;
  reached = reached;
  lines = record { submits = line; unlinked = refl };
  fitting = tt;
  good = tt;
  out_usable = outs;
  in_usable = ins;
  rises = rises;
  below = below;
  held = (refl, at);
}
  where
    line : (e : Endpoint) → Line e (asked_of None e) [] [] s
    line Control = ap (λ (q : List Pending). heads q ++ []) control
    line BulkOut = ap (λ (q : List Pending). heads q ++ []) at.bulk_out
    line BulkIn = ap (λ (q : List Pending). heads q ++ []) at.bulk_in
    line InterruptIn = ap (λ (q : List Pending). heads q ++ []) interrupt

use Rattle.std.proofs.Common.{◌≡◌, true}
use Rattle.tmc_law.specs.Endpoint.{Endpoint, Control, BulkOut, BulkIn, InterruptIn}
use Rattle.tmc_law.specs.State.{start, is_halted}
use Rattle.host_joint.specs.Unlinking.{IsBulk}
use Rattle.host_joint.proofs.Reasoning.{newly, reasons_step, reasons_run}
use Rattle.host_joint.proofs.reasons.halts_have_reasons.Goals as goal

none : {B : Type 0} (e : Endpoint) → IsBulk e → is_halted e start ≡ true → B
none Control bulk on = absurd bulk
none BulkOut bulk on = absurd (cc)
none BulkIn bulk on = absurd (cc)
none InterruptIn bulk on = absurd bulk

pub returns-clause-begins : goal.returns-clause-begins
returns-clause-begins c e bulk on = none e bulk on

pub returns-clause-step : goal.returns-clause-step
returns-clause-step c run s t move puts ups downs reached step hosts have =
    reasons_step run s t move puts reached step (λ e bulk off on. newly (record {
      asks = c.asks_halt_nothing.ensures;
      causes = c.halts_have_causes.ensures.halts;
      one_header = c.headers_are_read_again.ensures.out_one;
      stays = c.bonds_stay.ensures.bound;
    }) s t move puts ups downs e hosts step bulk off on) have

pub returns-clause-run : goal.returns-clause-run
returns-clause-run c =
    reasons_run (record {
      asks = c.asks_halt_nothing.ensures;
      causes = c.halts_have_causes.ensures.halts;
      one_header = c.headers_are_read_again.ensures.out_one;
      stays = c.bonds_stay.ensures.bound;
    }) c.runs_join.ensures.together

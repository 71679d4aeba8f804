use Rattle.host_joint.proofs.Flows.{lines_step, lines_run}
use Rattle.host_joint.proofs.lines.lines_stay.Goals as goal

pub returns-clause-step : goal.returns-clause-step
returns-clause-step c = λ run asked unlinks s t move puts ups downs reached step fit order lines.
    lines_step (record {
      fits = c.pending_submits_are_sound.ensures.stand;
      empty = c.pending_submits_are_sound.ensures.halted;
      does = c.steps_act.ensures;
      joins = c.runs_join.ensures.together;
    }) run asked unlinks s t move puts ups downs reached step fit order lines

pub returns-clause-run : goal.returns-clause-run
returns-clause-run c = λ before run asked unlinks s t ups downs reached goes fit order lines.
    lines_run (record {
      fits = c.pending_submits_are_sound.ensures.stand;
      empty = c.pending_submits_are_sound.ensures.halted;
      does = c.steps_act.ensures;
      joins = c.runs_join.ensures.together;
    }) before run asked unlinks s t ups downs reached goes fit order lines

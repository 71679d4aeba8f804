use Rattle.host_hub.proofs.Stepping.{rests, idle_kept, queued_kept, planned_kept, waiting_kept}
use Rattle.host_hub.proofs.steps.a_hub_waits.Goals as goal

pub returns-clause-rests : goal.returns-clause-rests
returns-clause-rests c = rests

pub returns-clause-idle : goal.returns-clause-idle
returns-clause-idle c = idle_kept

pub returns-clause-queued : goal.returns-clause-queued
returns-clause-queued c = queued_kept

pub returns-clause-planned : goal.returns-clause-planned
returns-clause-planned c = planned_kept

pub returns-clause-waiting : goal.returns-clause-waiting
returns-clause-waiting c = waiting_kept

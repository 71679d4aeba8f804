use Rattle.usbip_export.proofs.Each.{takes_each, pieces_join}
use Rattle.usbip_export.proofs.laws.each_message_is_one_step.Goals as goal

pub returns-clause-each : goal.returns-clause-each
returns-clause-each c = takes_each c.runs_take_in_messages.ensures c.a_closed_run_ends_with_refused_bytes.ensures.ends

pub returns-clause-joins : goal.returns-clause-joins
returns-clause-joins c = pieces_join

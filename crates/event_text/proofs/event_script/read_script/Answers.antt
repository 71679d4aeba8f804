use Rattle.std.proofs.lemmas.Result.{IfOk-weaker}
use Rattle.event_text.proofs.Begins.{may_begin}
use Rattle.event_text.proofs.EventAnswered.{script_answer, refused_answer}
use Rattle.event_text.proofs.event_script.read_script.Goals as goal

pub returns-clause-begins : goal.returns-clause-begins
returns-clause-begins c = IfOk-weaker c.script_of.result _ _ (λ script is. may_begin c.args.source.now script is) c.script_of.ensures.read

pub returns-clause-all_read : goal.returns-clause-all_read
returns-clause-all_read c = λ script is. script_answer c.args.source.now c.script_of.result c.script_of.ensures.read c.script_of.ensures.refused script is

pub returns-clause-all_refused : goal.returns-clause-all_refused
returns-clause-all_refused c = λ number what refused. refused_answer c.args.source.now c.script_of.result c.script_of.ensures.read c.script_of.ensures.refused number what refused

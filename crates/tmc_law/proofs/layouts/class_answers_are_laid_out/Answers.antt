use Rattle.tmc_law.proofs.ClassLayouts.{answers, postpones}
use Rattle.tmc_law.proofs.layouts.class_answers_are_laid_out.Goals as goal

pub returns-clause-answers : goal.returns-clause-answers
returns-clause-answers c = answers

pub returns-clause-postpones : goal.returns-clause-postpones
returns-clause-postpones c = postpones

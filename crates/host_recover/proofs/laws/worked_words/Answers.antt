use Rattle.std.proofs.Common.{◌≡◌, [], ◌∷◌, Some, refl, true, false}
use Rattle.tmc_wire.specs.declared.class_request.ClassRequest.TheVariants as class
use Rattle.host_recover.specs.declared.need.Need.TheVariants as need
use Rattle.host_recover.specs.Letter.{Asked, Failed}
use Rattle.host_recover.proofs.Phases.{Clears, Done}
use Rattle.host_recover.proofs.Leads.{words_lead}
use Rattle.host_recover.proofs.Words.{is_word}
use Rattle.host_recover.proofs.laws.worked_words.Goals as goal

pub returns-clause-response : goal.returns-clause-response
returns-clause-response c = is_word (need.In 2) _ refl

pub returns-clause-message : goal.returns-clause-message
returns-clause-message c = is_word (need.Out 1 false) _ refl

pub returns-clause-unknown : goal.returns-clause-unknown
returns-clause-unknown c = is_word (need.Out 1 false) _ refl

pub returns-clause-parts : goal.returns-clause-parts
returns-clause-parts c = λ h. no ((words_lead (need.Out 1 true)).run (Asked (class.AbortOut 1) Failed ∷ []) h)
  where
    no : Some Clears ≡ Some Done → ⊥
    no e = cc

pub returns-clause-clear : goal.returns-clause-clear
returns-clause-clear c = is_word need.Full _ refl

use Rattle.host_hub.specs.Crossings.{crossings}
use Rattle.host_hub.proofs.Lawful.{lawful_crossings}
use Rattle.host_hub.proofs.Numbers.{same_outstanding, few}
use Rattle.host_hub.proofs.laws.messages_are_lawful.Goals as goal

pub returns-clause-lawful : goal.returns-clause-lawful
returns-clause-lawful c = lawful_crossings

pub returns-clause-outstanding : goal.returns-clause-outstanding
returns-clause-outstanding c = same_outstanding

pub returns-clause-count : goal.returns-clause-count
returns-clause-count c = λ setting past lawful. few setting past lawful (c.few_are_outstanding.ensures.most setting.first (crossings setting past) (lawful_crossings setting past lawful))

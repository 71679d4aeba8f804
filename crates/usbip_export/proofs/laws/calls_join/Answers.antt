use Rattle.usbip_export.proofs.Chained.{drives_works, joins, lawfully}
use Rattle.usbip_export.proofs.Worked.{moves_works, sent_works}
use Rattle.usbip_export.proofs.laws.calls_join.Goals as goal

pub returns-clause-drives : goal.returns-clause-drives
returns-clause-drives c = drives_works

pub returns-clause-moves : goal.returns-clause-moves
returns-clause-moves c = moves_works

pub returns-clause-sends : goal.returns-clause-sends
returns-clause-sends c = sent_works

pub returns-clause-joins : goal.returns-clause-joins
returns-clause-joins c = joins

pub returns-clause-lawful : goal.returns-clause-lawful
returns-clause-lawful c = lawfully

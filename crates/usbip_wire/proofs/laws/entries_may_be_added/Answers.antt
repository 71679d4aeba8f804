use Rattle.usbip_wire.proofs.Added.{added_neither, added_spells}
use Rattle.usbip_wire.proofs.laws.entries_may_be_added.Goals as goal

pub returns-clause-neither : goal.returns-clause-neither
returns-clause-neither c = added_neither

pub returns-clause-answer : goal.returns-clause-answer
returns-clause-answer c = added_spells

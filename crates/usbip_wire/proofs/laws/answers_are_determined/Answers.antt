use Rattle.usbip_wire.specs.Down.{SpellsAnswer}
use Rattle.usbip_wire.proofs.Determined.{determined, read_again}
use Rattle.usbip_wire.proofs.Free.{answers_free}
use Rattle.usbip_wire.proofs.laws.answers_are_determined.Goals as goal

pub returns-clause-free : goal.returns-clause-free
returns-clause-free c = answers_free

pub returns-clause-determined : goal.returns-clause-determined
returns-clause-determined c = λ entries. determined (SpellsAnswer entries) (answers_free entries)

pub returns-clause-again : goal.returns-clause-again
returns-clause-again c = λ entries. read_again (SpellsAnswer entries) (answers_free entries)

use Rattle.tmc_law.proofs.Packets.{takes, fills}
use Rattle.tmc_law.proofs.steps.packets_are_of_transfers.Goals as goal

pub returns-clause-takes : goal.returns-clause-takes
returns-clause-takes c s t count puts h = takes s t count puts h

pub returns-clause-fills : goal.returns-clause-fills
returns-clause-fills c s t count puts h = fills s t count puts h

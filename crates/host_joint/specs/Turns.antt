-- in which order the answers of an ask come, where its request and its reads were written ahead (USBTMC 1.0, section 3.3)
use Rattle.std.specs.Prelude.{◌≡◌, ◌≢◌, List, [], ◌∷◌}
use Rattle.tmc_wire.specs.declared.header.OutHeader.{OutHeader}
use Rattle.tmc_wire.specs.declared.header.OutHeader.TheVariants.{Message, Request, Trigger}
use Rattle.tmc_law.specs.Endpoint.{BulkOut, BulkIn, number_of}
use Rattle.tmc_law.specs.Put.{Put, Submitted, Unlinked, success}
use Rattle.host_joint.specs.Jobs.{Job}

-- none of these answers says that a transfer was taken
abbrev pub NoneTaken : List Put → Type 0
NoneTaken [] = Unit {0}
NoneTaken (Submitted head answer transferred ∷ downs) = (head.ep ≡ number_of BulkOut → answer.status ≢ success) × NoneTaken downs
NoneTaken (Unlinked asked answer ∷ downs) = NoneTaken downs

-- Behind an answer to a read that has bytes of a piece, none says that a transfer was taken: the answer to the request of the piece came before.
abbrev pub InTurn : List Put → Type 0
InTurn [] = Unit {0}
InTurn (Submitted head answer transferred ∷ downs) = (head.ep ≡ number_of BulkIn → answer.status ≡ success → NoneTaken downs) × InTurn downs
InTurn (Unlinked asked answer ∷ downs) = InTurn downs

-- these transfers are parts of a message
abbrev pub IsPart : OutHeader → Type 0
IsPart (Message tag size eom) = Unit {0}
IsPart (Request tag size) = ⊥
IsPart (Trigger tag) = ⊥

abbrev pub AreParts : List Job → Type 0
AreParts [] = Unit {0}
AreParts (job ∷ jobs) = IsPart job.header × AreParts jobs

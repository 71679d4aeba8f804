-- with which answers a recovery goes on
use Rattle.std.specs.Prelude.{◌≡◌, ◌⊎◌, ℕ, Bool, true, false}
use Rattle.tmc_wire.specs.declared.class_request.ClassRequest.{ClassRequest}
use Rattle.tmc_wire.specs.declared.class_request.ClassRequest.TheVariants as class
use Rattle.host_recover.specs.Letter.{Letter, Asked, Cleared, Drained, Says, Success, Failed, Otherwise, says_of, submit_of}

-- a clear that the device refuses: no recovery goes on from there
abbrev pub is_stuck : ClassRequest → Says → Bool
is_stuck class.Clear Success = false
is_stuck class.Clear says = true
is_stuck class.CheckClear Failed = true
is_stuck class.CheckClear Otherwise = true
is_stuck request says = false

-- the letter is one that some answer makes, and does not end the recovery
abbrev pub GoesOn : Letter → Type 0
GoesOn (Asked request says) = (status second : ℕ) × (says ≡ says_of request status second) × (is_stuck request says ≡ false)
GoesOn (Cleared endpoint) = Unit {0}
GoesOn (Drained ending) = Unit {0}

-- both clear a halt
abbrev pub BothClear : Letter → Letter → Type 0
BothClear (Cleared endpoint) (Cleared other) = Unit {0}
BothClear letter other = ⊥

-- the letters are answers to one submit, or both clear a halt: of which endpoint depends on what was seen halted
abbrev pub AreOfOne : Letter → Letter → Type 0
AreOfOne letter other = (submit_of letter ≡ submit_of other) ⊎ BothClear letter other

-- what an instrument has left to do, which each calm move makes less
use Rattle.std.specs.Prelude.{ℕ, ◌+◌, ◌-◌, ◌*◌, List, [], ◌∷◌, length, Option, Some, None}
use Rattle.tmc_law.specs.State.{State, Pending, Waiting, Side, Owed}

-- each OUT submit, and each of its bytes that is left
abbrev pub outs : List Pending → ℕ
outs [] = 0
outs (submit ∷ submits) = 1 + length submit.left + outs submits

-- each IN submit, and each of its bytes that is free
abbrev pub ins : List Pending → ℕ
ins [] = 0
ins (submit ∷ submits) = 1 + (submit.head.length - length submit.moved) + ins submits

abbrev pub waits : Option Waiting → ℕ
waits None = 0
waits (Some waiting) = 1

abbrev pub owes : Side → ℕ
owes (Owed tag size) = 1
owes _ = 0

-- the work at the queues
abbrev pub work : State → ℕ
work s = length s.control + outs s.bulk_out + ins s.bulk_in + length s.interrupt_in

-- what is left to do
abbrev pub weight : State → ℕ
weight s = 3 * work s + waits s.waiting + owes s.side

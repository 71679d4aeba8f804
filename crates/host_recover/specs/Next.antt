-- which submit a recovery makes next (USBTMC 1.0, sections 4.2.1.2 to 4.2.1.7; USB 2.0, section 9.4.1)
use Rattle.std.specs.Prelude.{◌≡◌, ℕ, Bool, true, false, List, [], ◌∷◌, ◌++◌, if◌then◌else◌}
use Rattle.tmc_wire.specs.declared.class_request.ClassRequest.TheVariants as class
use Rattle.host_recover.specs.declared.need.Need.{Need}
use Rattle.host_recover.specs.Letter.{Letter, Asked, Cleared, Drained, Endpoint, BulkIn, Notify, BulkOut, Submit, Ask, Clear, Read, submit_of}
use Rattle.host_recover.specs.Words.{Has, Begins, words_of}

abbrev pub is_check_out : Letter → Bool
is_check_out (Asked class.CheckOut says) = true
is_check_out letter = false

abbrev pub ends_by_check_out : List Letter → Bool
ends_by_check_out [] = false
ends_by_check_out (letter ∷ []) = is_check_out letter
ends_by_check_out (letter ∷ (other ∷ letters)) = ends_by_check_out (other ∷ letters)

-- Which halt is cleared, by whether Bulk-IN and Interrupt-IN were answered with a stall since theirs was cleared last:
-- behind the check of an aborted message that of Bulk-OUT, and at the end of a full clear those that were seen, Bulk-IN
-- first, and then that of Bulk-OUT.
abbrev pub due_halt : List Letter → (in_halted notify_halted : Bool) → Endpoint
due_halt letters in_halted notify_halted =
    if ends_by_check_out letters then BulkOut
    else if in_halted then BulkIn
    else if notify_halted then Notify
    else BulkOut

-- a submit that clears a halt clears this one
abbrev pub ClearsOnly : Endpoint → Submit → Type 0
ClearsOnly endpoint (Clear e) = e ≡ endpoint
ClearsOnly endpoint submit = Unit {0}

-- behind these letters, this submit may be made next
pub record IsNext (called : Need) (letters : List Letter) (in_halted notify_halted : Bool) (submit : Submit) : Type 0 where
  pub letter : Letter
  pub is : submit_of letter ≡ submit
  pub begins : Begins (words_of called) (letters ++ letter ∷ [])
  pub halt : ClearsOnly (due_halt letters in_halted notify_halted) submit

-- the recovery is over
abbrev pub IsOver : Need → List Letter → Type 0
IsOver called letters = Has (words_of called) letters

-- a recovery that runs: what it waits for, what it has heard, and what it wants next (USBTMC 1.0, sections 4.2.1.2 to 4.2.1.7)
use Rattle.std.specs.Prelude.{◌≡◌, ◌↔◌, ℕ, Bool, true, false, Option, Some, None, IsSome, List, [], ◌∷◌, ◌++◌}
use Rattle.usb_setup.specs.declared.ends.Ends.{Ends}
use Rattle.tmc_wire.specs.declared.class_answer.ClassAnswer.{ClassAnswer}
use Rattle.tmc_wire.specs.declared.class_request.ClassRequest.{ClassRequest}
use Rattle.host_recover.specs.declared.need.Need.{Need}
use Rattle.host_recover.specs.declared.want.Heard.{Heard}
use Rattle.host_recover.specs.declared.want.Heard.TheVariants as heard
use Rattle.host_recover.specs.declared.want.Want.{Want}
use Rattle.host_recover.specs.declared.want.Want.TheVariants as want
use Rattle.host_recover.specs.Goes.{is_stuck}
use Rattle.host_recover.specs.Letter.{Letter, Cleared, BulkIn, Notify, Submit, Ask, submit_of, says_of}
use Rattle.host_recover.specs.Next.{IsNext, IsOver}
use Rattle.host_recover.specs.Want.{want_of, heard_as}
use Rattle.host_recover.specs.Words.{Words, Has, Begins, words_of}

-- what a recovery waits for: to be begun, for the answer to a submit, or for nothing more
pub data Awaits : Type 0 where
  Start : Awaits
  Answer : (submit : Submit) → Awaits
  Nothing : Awaits

-- What is seen of a recovery that runs. The letters that it heard are not kept: their number has no bound. What is left of
-- its words is, from the submit on whose answer it waits for.
pub record Recovering : Type 0 where
  pub need : Need
  pub ends : Ends
  pub awaits : Awaits
  pub left : Words

-- the letter may answer what is waited for
abbrev pub MayAnswer : Awaits → Letter → Type 0
MayAnswer (Answer submit) letter = submit_of letter ≡ submit
MayAnswer awaits letter = Unit {0}

-- It has heard these letters: what is left goes on from them, and nothing else does that answers what is waited for.
pub record HasHeard (letters : List Letter) (recovering : Recovering) : Type 0 where
  pub goes_on : (rest : List Letter) → Has recovering.left rest → Has (words_of recovering.need) (letters ++ rest)
  pub only : (letter : Letter) (rest : List Letter) → MayAnswer recovering.awaits letter
      → Has (words_of recovering.need) (letters ++ letter ∷ rest) → Has recovering.left (letter ∷ rest)

-- ---- what is heard

-- it is what is waited for
abbrev pub IsAwaited : Awaits → Heard → Type 0
IsAwaited Start hears = hears ≡ heard.Start
IsAwaited (Answer submit) hears = IsSome (heard_as submit hears)
IsAwaited Nothing hears = ⊥

-- the letters behind it
abbrev pub with_letter : List Letter → Option Letter → List Letter
with_letter letters None = letters
with_letter letters (Some letter) = letters ++ letter ∷ []

abbrev pub behind : List Letter → Awaits → Heard → List Letter
behind letters (Answer submit) heard = with_letter letters (heard_as submit heard)
behind letters awaits heard = letters

-- ---- what is wanted

-- the submit whose answer is waited for, or nothing
abbrev pub Wants : Ends → Awaits → Want → Type 0
Wants ends Start wants = ⊥
Wants ends (Answer submit) wants = wants ≡ want_of ends submit
Wants ends Nothing want.Done = Unit {0}
Wants ends Nothing (want.Stuck status) = Unit {0}
Wants ends Nothing wants = ⊥

-- a request of the clear was answered with this status, and no word goes on from it
pub record IsStuckAt (awaits : Awaits) (hears : Heard) (status : ℕ) : Type 0 where
  pub request : ClassRequest
  pub answer : ClassAnswer
  pub asked : awaits ≡ Answer (Ask request)
  pub answered : hears ≡ heard.Class answer
  pub refused : is_stuck request (says_of request answer.status answer.second) ≡ true
  pub is : status ≡ answer.status

abbrev pub EndsBy : Letter → List Letter → Type 0
EndsBy letter letters = (front : List Letter) × (letters ≡ front ++ letter ∷ [])

-- The halts seen are those since an endpoint's was cleared last. A recovery makes one submit at a time, so none is seen
-- behind the clearing of its own endpoint, and none of Bulk-IN behind that of Interrupt-IN, which comes second.
pub record AreSeen (letters : List Letter) (in_halted notify_halted : Bool) : Type 0 where
  pub bulk_in : EndsBy (Cleared BulkIn) letters → in_halted ≡ false
  pub notify : EndsBy (Cleared Notify) letters → (in_halted ≡ false) × (notify_halted ≡ false)

-- behind these letters a word goes on by this submit
pub record MayCome (called : Need) (letters : List Letter) (submit : Submit) : Type 0 where
  pub letter : Letter
  pub is : submit_of letter ≡ submit
  pub begins : Begins (words_of called) (letters ++ letter ∷ [])

abbrev pub IsStuck : Want → Type 0
IsStuck (want.Stuck status) = Unit {0}
IsStuck wants = ⊥

-- Behind these letters, with these halts seen, the recovery wants this and runs so. The letters begin a word of it, which is
-- whole exactly where it is done, but where they end with an answer that it is stuck at. What it waits for is the one submit
-- that comes next.
pub record Follows (letters : List Letter) (in_halted notify_halted : Bool) (wants : Want) (recovering : Recovering) : Type 0 where
  pub heard : (IsStuck wants → ⊥) → HasHeard letters recovering
  pub begins : (IsStuck wants → ⊥) → Begins (words_of recovering.need) letters
  pub may_come : (submit : Submit) → recovering.awaits ≡ Answer submit → MayCome recovering.need letters submit
  pub next : (submit : Submit) → recovering.awaits ≡ Answer submit → AreSeen letters in_halted notify_halted
      → IsNext recovering.need letters in_halted notify_halted submit
  pub exact : (submit : Submit) → IsNext recovering.need letters in_halted notify_halted submit → recovering.awaits ≡ Answer submit
  pub done : (wants ≡ want.Done) ↔ IsOver recovering.need letters

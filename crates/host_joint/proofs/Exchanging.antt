-- a tied host writes one submit, the device goes on, and the answer is taken
use Rattle.std.proofs.Common.{◌≡◌, ◌∙◌, ℕ, ◌+◌, ◌<◌, true, false, Option, Some, None, List, [], ◌∷◌, ◌++◌, length, sym, subst, append-nil, arith}
use Rattle.usbip_wire.specs.declared.submit.SubmitHead.{SubmitHead}
use Rattle.usbip_wire.specs.declared.ret_submit.RetSubmitHead.{RetSubmitHead}
use Rattle.usbip_wire.specs.Up as up
use Rattle.tmc_law.specs.State.{State}
use Rattle.tmc_law.specs.Put.{Put, Submitted}
use Rattle.tmc_law.specs.Run.{Entry, Runs, IsFront, inputs, outputs}
use Rattle.host_joint.specs.Reads.{read_size}
use Rattle.host_joint.specs.Stage.{Ran}
use Rattle.host_joint.specs.Hand.{Hand, Free, Says, Said, Reads, Pauses, Writes}
use Rattle.host_joint.specs.Pieces.{IsPiece}
use Rattle.host_joint.specs.Tie.{IsUndisturbed, Tie, IsGiven, Goes, TakesTransfer, TakesFull, TakesLast, TakesPiece}

-- what it asks of the laws of ties
pub record TieLaws : Type 0 where
  pub writes : (before after : Hand) (head : SubmitHead) (bytes : List ℕ) (next : ℕ) (ups : List up.Message) (downs : List Put) (s : State)
      → Writes before head bytes after → head.seqnum ≡ next → Tie before None next ups downs s
      → Tie after (Some head) (next + 1) (ups ++ up.Submit head bytes ∷ []) downs s
  pub stays : (run : List Entry) (hand : Hand) (waits : Option SubmitHead) (next : ℕ) (ups : List up.Message) (downs : List Put) (s t : State)
      → Runs s run t → IsUndisturbed run → Tie hand waits next (inputs run ++ ups) downs s → Tie hand waits next ups (downs ++ outputs run) t
  pub given : (hand : Hand) (head : SubmitHead) (next : ℕ) (put : Put) (ups : List up.Message) (downs : List Put) (s : State)
      → Tie hand (Some head) next ups (put ∷ downs) s → IsGiven hand head put next ups downs s

-- what was given are this answer's bytes
pub goes_of : (hand : Hand) (head : SubmitHead) (a : RetSubmitHead) (transferred : List ℕ) (next : ℕ) (ups : List up.Message) (downs : List Put) (s : State) → IsGiven hand head (Submitted head a transferred) next ups downs s
    → Goes hand head a.actual transferred next ups downs s
goes_of hand head a transferred next ups downs s given =
    let same : a ≡ given.answer = answer_is a given.answer transferred given.transferred given.is in
    let bytes : transferred ≡ given.transferred = bytes_are a given.answer transferred given.transferred given.is in
    subst (λ (l : List ℕ). Goes hand head a.actual l next ups downs s) (sym bytes)
    (subst (λ (r : RetSubmitHead). Goes hand head r.actual given.transferred next ups downs s) (sym same) given.goes)
  where
    answer_is : (x y : RetSubmitHead) (b c : List ℕ) → Submitted head x b ≡ Submitted head y c → x ≡ y
    answer_is x y b c e = cc

    bytes_are : (x y : RetSubmitHead) (b c : List ℕ) → Submitted head x b ≡ Submitted head y c → b ≡ c
    bytes_are x y b c e = cc

pub exchange : (laws : TieLaws) (before after : Hand) (head : SubmitHead) (bytes : List ℕ) (run : List Entry) (a : RetSubmitHead) (transferred : List ℕ) (next : ℕ) (s t : State)
    → Writes before head bytes after → head.seqnum ≡ next → inputs run ≡ up.Submit head bytes ∷ [] → outputs run ≡ Submitted head a transferred ∷ []
    → Runs s run t → IsUndisturbed run → Tie before None next [] [] s → Goes after head a.actual transferred (next + 1) [] [] t
exchange laws before after head bytes run a transferred next s t writes number takes gives runs calm tie =
    let wrote : Tie after (Some head) (next + 1) (inputs run ++ []) [] s =
    subst (λ (l : List up.Message). Tie after (Some head) (next + 1) l [] s) (sym (append-nil (inputs run) ∙ takes)) (laws.writes before after head bytes next [] [] s writes number tie) in
    let went : Tie after (Some head) (next + 1) [] (Submitted head a transferred ∷ []) t =
    subst (λ (l : List Put). Tie after (Some head) (next + 1) [] l t) gives (laws.stays run after (Some head) (next + 1) [] [] s t runs calm wrote) in
    goes_of after head a transferred (next + 1) [] [] t (laws.given after head (next + 1) (Submitted head a transferred) [] [] t went)

-- ---- what came

-- a transfer was taken
pub on : (hand : Hand) (head : SubmitHead) (actual : ℕ) (transferred : List ℕ) (next : ℕ) (ups : List up.Message) (downs : List Put) (s : State) → head.ep ≡ 1 → Goes hand head actual transferred next ups downs s
    → Tie hand None next ups downs s
on hand head actual transferred next ups downs s out (TakesTransfer own whole none tie) = tie
on hand head actual transferred next ups downs s out (TakesFull last tag size message sofar read is own whole all piece tie) = absurd (omega (arith, out, own))
on hand head actual transferred next ups downs s out (TakesLast last tag size message sofar read carried is own whole small piece ran tie) = absurd (omega (arith, out, own))
on hand head actual transferred next ups downs s out (TakesPiece last tag size message sofar read carried response is own whole small piece ran first less tie) = absurd (omega (arith, out, own))

-- a short read ended a piece: with EOM, or without
pub data Ends (last : ℕ) (message : List ℕ) (tag size : ℕ) (sofar read transferred : List ℕ) (next : ℕ) (ups : List up.Message) (downs : List Put) (s : State) : Type 0 where
  EndsAll : (carried : List ℕ) → IsPiece tag size true carried (read ++ transferred) → Ran last message (sofar ++ carried) s.log → Tie Free None next ups downs s
      → Ends last message tag size sofar read transferred next ups downs s
  EndsPart : (carried response : List ℕ) → IsPiece tag size false carried (read ++ transferred) → Ran last message response s.log → IsFront (sofar ++ carried) response
      → length (sofar ++ carried) < length response → Tie (Pauses last message (sofar ++ carried)) None next ups downs s
      → Ends last message tag size sofar read transferred next ups downs s

abbrev pub EndsOf : Hand → List ℕ → ℕ → List up.Message → List Put → State → Type 0
EndsOf Free transferred next ups downs s = Unit {0}
EndsOf (Says message said) transferred next ups downs s = Unit {0}
EndsOf (Said last message) transferred next ups downs s = Unit {0}
EndsOf (Reads last message tag size sofar read) transferred next ups downs s = Ends last message tag size sofar read transferred next ups downs s
EndsOf (Pauses last message sofar) transferred next ups downs s = Unit {0}

pub ends : (hand : Hand) (head : SubmitHead) (actual : ℕ) (transferred : List ℕ) (next : ℕ) (ups : List up.Message) (downs : List Put) (s : State) → head.ep ≡ 2 → length transferred < read_size
    → Goes hand head actual transferred next ups downs s → EndsOf hand transferred next ups downs s
ends hand head actual transferred next ups downs s reads short (TakesTransfer own whole none tie) = absurd (omega (arith, reads, own))
ends hand head actual transferred next ups downs s reads short (TakesFull last tag size message sofar read is own whole all piece tie) = absurd (omega (arith, short, all))
ends hand head actual transferred next ups downs s reads short (TakesLast last tag size message sofar read carried is own whole small piece ran tie) =
    subst (λ (h : Hand). EndsOf h transferred next ups downs s) (sym is) (EndsAll carried piece ran tie)
ends hand head actual transferred next ups downs s reads short (TakesPiece last tag size message sofar read carried response is own whole small piece ran first less tie) =
    subst (λ (h : Hand). EndsOf h transferred next ups downs s) (sym is) (EndsPart carried response piece ran first less tie)

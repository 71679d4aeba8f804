-- example hosts that are tied
use Rattle.std.proofs.Common.{◌≡◌, ◌∙◌, inl, inr, ℕ, ◌+◌, ◌<◌, Bool, true, false, List, [], ◌∷◌, ◌++◌, take, drop, replicate, codes, slice_index, ◌^◌, zero, suc, Some, None, refl, ap, sym, subst, arith, lit<, lit≤}
use Rattle.usbip_wire.specs.declared.submit.SubmitHead.{SubmitHead}
use Rattle.usbip_wire.specs.Up as up
use Rattle.tmc_wire.specs.declared.header.OutHeader.TheVariants.{Message}
use Rattle.tmc_wire.specs.Header.{out_header_bytes}
use Rattle.tmc_law.specs.Endpoint.{Endpoint, Control, BulkOut, BulkIn, InterruptIn}
use Rattle.tmc_law.specs.State.{State, start}
use Rattle.usbip_wire.specs.declared.ret_submit.RetSubmitHead.{RetSubmitHead}
use Rattle.tmc_law.specs.Put.{Put, Submitted, success}
use Rattle.tmc_law.specs.AnswerFits.{FitsSubmit}
use Rattle.tmc_law.specs.Run.{Runs}
use Rattle.tmc_law.specs.WorkedSession.{out_submit, answered}
use Rattle.tmc_law.specs.WorkedParts.{spaces_text, last_text, sending_parts}
use Rattle.tmc_law.specs.WorkedQuery.{response_submit, response_text, identity, asking, answering, query_log}
use Rattle.host_joint.specs.Lines.{Line}
use Rattle.host_joint.specs.Stage.{Ran}
use Rattle.host_joint.specs.Asking.{Asking}
use Rattle.host_joint.specs.Hand.{Free, Says, Said, Reads, IsTransfer}
use Rattle.host_joint.specs.Pieces.{IsPiece, IsWhole, IsFaultless}
use Rattle.host_joint.specs.Tie.{IsUndisturbed, asked_of, Tie, IsGiven, Goes, TakesTransfer, TakesFull, TakesLast, TakesPiece, Owns}
use Rattle.host_joint.specs.WorkedAsks.{query_ask, query_job, request_job}
use Rattle.host_joint.specs.WorkedTies.{querying, queried, foreign}
use Rattle.host_joint.specs.Bond.{WasSaying}
use Rattle.host_joint.specs.Lines.{Sent}
use Rattle.host_joint.specs.Jobs.{Job, sent, OutLine, Unbegun, Partly, Cut, Shut}
use Rattle.tmc_law.specs.WorkedSession.{unlink}
use Rattle.host_joint.proofs.Counting.{all_past}
use Rattle.host_joint.proofs.Examples.{none_ran}

pub spaces_are : IsTransfer (out_submit 1 112) (Message 1 100 false) (replicate 100 32) spaces_text
unfolding out_header_bytes
spaces_are = record { number = refl; way = refl; proper = (lit< tt, lit< tt); fits = (lit< tt, lit< tt); counted = refl; layout = refl; sized = refl }

pub last_is : IsTransfer (out_submit 2 20) (Message 2 5 true) (codes "*IDN?") last_text
unfolding out_header_bytes
last_is = record { number = refl; way = refl; proper = (lit< tt, lit< tt); fits = (lit< tt, lit< tt); counted = refl; layout = refl; sized = refl }

pub first_calm : IsUndisturbed (take 3 sending_parts)
first_calm = ((λ e. cc), (λ endpoint e. cc), ((λ e. cc), (λ endpoint e. cc), ((λ e. cc), (λ endpoint e. cc), tt)))

pub last_calm : IsUndisturbed (drop 3 sending_parts)
last_calm = ((λ e. cc), (λ endpoint e. cc), ((λ e. cc), (λ endpoint e. cc), ((λ e. cc), (λ endpoint e. cc), tt)))

pub says_on : (message said : List ℕ) (head : SubmitHead) (actual : ℕ) (transferred : List ℕ) (next : ℕ) (ups : List up.Message) (downs : List Put) (s : State) → Goes (Says message said) head actual transferred next ups downs s
    → Tie (Says message said) None next ups downs s
says_on message said head actual transferred next ups downs s (TakesTransfer own whole none tie) = tie
says_on message said head actual transferred next ups downs s (TakesFull last tag size other sofar read is own whole all piece tie) = absurd (cc)
says_on message said head actual transferred next ups downs s (TakesLast last tag size other sofar read carried is own whole all piece ran tie) = absurd (cc)
says_on message said head actual transferred next ups downs s (TakesPiece last tag size other sofar read carried response is own whole all piece ran first less tie) = absurd (cc)

pub said_on : (last : ℕ) (message : List ℕ) (head : SubmitHead) (actual : ℕ) (transferred : List ℕ) (next : ℕ) (ups : List up.Message) (downs : List Put) (s : State) → Goes (Said last message) head actual transferred next ups downs s
    → Tie (Said last message) None next ups downs s
said_on n message head actual transferred next ups downs s (TakesTransfer own whole none tie) = tie
said_on n message head actual transferred next ups downs s (TakesFull last tag size other sofar read is own whole all piece tie) = absurd (cc)
said_on n message head actual transferred next ups downs s (TakesLast last tag size other sofar read carried is own whole all piece ran tie) = absurd (cc)
said_on n message head actual transferred next ups downs s (TakesPiece last tag size other sofar read carried response is own whole all piece ran first less tie) = absurd (cc)

-- ---- the response to a query is yet to be taken

query_line : (e : Endpoint) → Line e (asked_of (Some response_submit) e) [] (answered response_submit success 32 response_text ∷ []) queried
query_line Control = refl
query_line BulkOut = refl
query_line BulkIn = ([], refl, refl)
query_line InterruptIn = refl

pub answer_fits : FitsSubmit response_submit (record { seqnum = 3; status = success; actual = 32 }) response_text
answer_fits = record { number = refl; within = lit≤ tt; returned = refl; wide = wide; status = refl }
  where
    none : (i : ℕ) → slice_index [] i < 2 ^ 32
    none zero = lit< tt
    none (suc i) = none i

    wide : (i : ℕ) → slice_index (3 ∷ 32 ∷ []) i < 2 ^ 32
    wide zero = lit< tt
    wide (suc zero) = lit< tt
    wide (suc (suc i)) = none i

pub query_tie : FitsSubmit response_submit (record { seqnum = 3; status = success; actual = 32 }) response_text → Runs start (asking ++ answering) queried
    → Asking (record query_ask { answered = 2 }) [] (answered response_submit success 32 response_text ∷ []) queried
    → Tie querying (Some response_submit) 4 [] (answered response_submit success 32 response_text ∷ []) queried
query_tie fits runs asks = record {
  run = asking ++ answering;
  reached = runs;
  lines = record { submits = query_line; unlinked = refl };
  fitting = tt;
  good = ((record { endpoint = BulkIn; number = refl; way = refl }, fits), tt);
  out_usable = refl;
  in_usable = refl;
  rises = (tt, tt);
  below = (lit< tt, tt);
  held = record {
    front = query_job ∷ [];
    request = request_job;
    answered = 2;
    asking = asks;
    counted = refl;
    behind = inl tt;
    header = refl;
    tagged = (lit< tt, lit< tt);
    sized = (lit< tt, lit< tt);
    long = inl refl;
    bulk = inr refl;
  };
}

-- ---- it is taken

pub record Queried : Type 0 where
  pub over : Tie Free None 4 [] [] queried
  pub ran : Ran 1 (codes "*IDN?") identity query_log

same_hand : (last tag size other more most : ℕ) (message words sofar got read bytes : List ℕ) → Reads last message tag size sofar read ≡ Reads other words more most got bytes → (last ≡ other) × (message ≡ words) × (sofar ≡ got) × (read ≡ bytes)
same_hand last tag size other more most message words sofar got read bytes e = (cc, cc, cc, cc)

-- what was given are this answer's bytes
pub query_goes : IsGiven querying response_submit (answered response_submit success 32 response_text) 4 [] [] queried → Goes querying response_submit 32 response_text 4 [] [] queried
query_goes given =
    subst (λ (l : List ℕ). Goes querying response_submit 32 l 4 [] [] queried) (sym (own given.answer given.transferred given.is).1)
    (subst (λ (n : ℕ). Goes querying response_submit n given.transferred 4 [] [] queried) (sym (own given.answer given.transferred given.is).0) given.goes)
  where
    own : (a : RetSubmitHead) (b : List ℕ) → answered response_submit success 32 response_text ≡ Submitted response_submit a b → (32 ≡ a.actual) × (response_text ≡ b)
    own a b e = let same : record { seqnum = 3; status = success; actual = 32 } ≡ a = cc in (ap (λ (r : RetSubmitHead). r.actual) same, cc)

pub query_ends : ((tag size : ℕ) (eom : Bool) (carried bytes : List ℕ) → IsPiece tag size eom carried bytes → IsFaultless tag size bytes × IsWhole eom carried bytes)
    → Goes querying response_submit 32 response_text 4 [] [] queried → Queried
query_ends fields (TakesTransfer own whole none tie) = absurd (omega (arith, own))
query_ends fields (TakesFull last tag size message sofar read is own whole all piece tie) = absurd (omega (arith, all))
query_ends fields (TakesLast last tag size message sofar read carried is own whole small piece ran tie) =
    let same = same_hand 1 2 4000 last tag size (codes "*IDN?") message [] sofar [] read is in
    let own_data : identity ≡ carried = (fields tag size true carried response_text (subst (λ (l : List ℕ). IsPiece tag size true carried (l ++ response_text)) (sym same.3) piece)).1.data_is in
    record {
      over = tie;
      ran = subst (λ (n : ℕ). Ran n (codes "*IDN?") identity query_log) (sym same.0)
          (subst (λ (l : List ℕ). Ran last l identity query_log) (sym same.1)
          (subst (λ (l : List ℕ). Ran last message l query_log) (ap (λ (l : List ℕ). l ++ carried) (sym same.2) ∙ sym own_data) ran));
    }
query_ends fields (TakesPiece last tag size message sofar read carried response is own whole small piece ran first less tie) =
    let same = same_hand 1 2 4000 last tag size (codes "*IDN?") message [] sofar [] read is in
    let eom : 1 ≡ 0 = (fields tag size false carried response_text (subst (λ (l : List ℕ). IsPiece tag size false carried (l ++ response_text)) (sym same.3) piece)).1.last in
    absurd (omega (arith, eom))

-- ---- and it is nobody else's

pub not_foreign : Owns foreign queried → ⊥
not_foreign (inl none) = let e : identity ≡ [] = none in absurd (cc)
not_foreign (inr owned) = none_ran owned.0 owned.1

-- ---- a transfer that is on its way was not taken

no_job : {B : Type 0} (x : Sent) (todo here later : List Job) → todo ≡ [] → todo ≡ here ++ later → x ∷ [] ≡ sent later → B
no_job x todo [] [] none whole come = absurd (cc)
no_job x todo [] (y ∷ later) none whole come = absurd (cc)
no_job x todo (y ∷ here) later none whole come = absurd (cc)

still_coming : (x : Sent) (todo : List Job) → todo ≡ [] → OutLine false true todo (x ∷ []) [] None → ⊥
still_coming x todo none (Unbegun here later unshut whole come line free) = no_job x todo here later none whole come
still_coming x todo none (Partly job here later moved left unshut whole come bytes begun more line runs) = cc
still_coming x todo none (Cut job moved left was unshut whole come bytes begun more line runs) = cc
still_coming x todo none (Shut shuts whole line free) = cc

pub not_taken : WasSaying 1 true false true (up.Submit (out_submit 1 112) spaces_text ∷ up.Unlink (unlink 2 1) ∷ []) [] start → ⊥
not_taken h =
    let a = h.asking in
    let past = all_past (h.front ++ h.job ∷ []) a.past a.todo a.hit a.came a.whole (a.counted ∙ ap (λ (n : ℕ). n + a.came) h.counted) in
    still_coming (record { head = out_submit 1 112; transferred = spaces_text }) a.todo past.todo_none a.out

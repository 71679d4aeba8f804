-- an ask whose response comes in two pieces, by the laws of asks
use Rattle.std.proofs.Common.{◌≡◌, ◌≢◌, ◌∙◌, inl, inr, ℕ, zero, suc, ◌≤◌, Bool, true, false, List, [], ◌∷◌, ◌++◌, length, take, drop, codes, refl, ap, sym, subst, arith, lit<, lit≤}
use Rattle.std.proofs.lemmas.Bool.{eqb-false}
use Rattle.usbip_wire.specs.declared.submit.SubmitHead.{SubmitHead}
use Rattle.usbip_wire.specs.declared.ret_submit.RetSubmitHead.{RetSubmitHead}
use Rattle.usbip_wire.specs.Up as up
use Rattle.tmc_wire.specs.declared.header.OutHeader.TheVariants.{Request}
use Rattle.tmc_wire.specs.Header.{IsTag, eom_bit}
use Rattle.host_joint.specs.Pieces.{IsWhole}
use Rattle.tmc_law.specs.Endpoint.{BulkOut, BulkIn, number_of}
use Rattle.tmc_law.specs.State.{State, start}
use Rattle.tmc_law.specs.Logging.{unread}
use Rattle.tmc_law.specs.Put.{Put, Submitted, success}
use Rattle.tmc_law.specs.BulkOut.{message_most}
use Rattle.tmc_law.specs.Run.{Entry, Runs, inputs, outputs}
use Rattle.tmc_law.specs.WorkedParts.{spaced, spaces_text, last_text, sending_parts}
use Rattle.tmc_law.specs.WorkedQuery.{identity}
use Rattle.tmc_law.specs.WorkedSession.{out_submit, in_submit}
use Rattle.host_joint.specs.Lines.{Gives, AllFitting, unlinks_in}
use Rattle.host_joint.specs.Jobs.{Job, IsJob}
use Rattle.host_joint.specs.Reads.{IsRead}
use Rattle.host_joint.specs.Stage.{Ran, NoneComes, Inner, Final, Carries, IsUnasked}
use Rattle.host_joint.specs.Asking.{Ask, Asking, AtRest, IsQuiet, StaysPlugged}
use Rattle.host_joint.specs.Hosted.{OutAnswered, InAnswered, PieceEnd, IsNextOf}
use Rattle.host_joint.specs.Owned.{Owned, NothingRead, PiecesRead, PieceRead}
use Rattle.host_joint.specs.WorkedTies.{told_to}
use Rattle.host_joint.specs.WorkedPieces.{requested_first, requested_second, first_data, second_data, first_piece, second_piece, second_log, requesting_first, giving_first, requesting_second, giving_second, behind_first, behind_second, spaces_job, last_job, request_job, next_job, asked_with}
use Rattle.host_joint.proofs.Taking.{OneHeader}
use Rattle.host_joint.proofs.Serving.{first_is, next_is, requests_first, gives_first, requests_second, gives_second}
use Rattle.host_joint.proofs.Examples.{no_fault, good, piece_ends}
use Rattle.host_joint.proofs.Transfers.{WireLaws, piece_whole}
use Rattle.host_joint.proofs.Given.{piece_text}

-- the laws of asks that this one takes
pub record AskMoves : Type 0 where
  pub begins : (last : ℕ) (message : List ℕ) (tag size : ℕ) (job : Job) (ups : List up.Message) (downs : List Put) (s : State)
      → AtRest last s → IsQuiet ups downs → IsJob job → length message ≤ message_most → Carries last tag size message (job ∷ [])
      → Asking (record { last = last; message = message; tag = tag; size = size; written = job ∷ []; answered = 0; sofar = []; read = []; gone = false }) (ups ++ up.Submit job.head job.bytes ∷ []) downs s
  pub stays : (before run : List Entry) (ask : Ask) (s t : State) (ups : List up.Message) (downs : List Put)
      → Runs start before s → Runs s run t → AllFitting (inputs run ++ ups) → unlinks_in (inputs run) ≡ [] → StaysPlugged run
      → Asking ask (inputs run ++ ups) downs s → Asking ask ups (downs ++ outputs run) t
  pub outs : (ask : Ask) (ups : List up.Message) (head : SubmitHead) (answer : RetSubmitHead) (transferred : List ℕ) (downs : List Put) (s : State)
      → head.ep ≡ number_of BulkOut → Asking ask ups (Submitted head answer transferred ∷ downs) s → OutAnswered ask ups head answer downs s
  pub ins : (ask : Ask) (ups : List up.Message) (head : SubmitHead) (answer : RetSubmitHead) (transferred : List ℕ) (downs : List Put) (s : State)
      → head.ep ≡ number_of BulkIn → Asking ask ups (Submitted head answer transferred ∷ downs) s → InAnswered ask ups (Gives head answer transferred) downs s
  pub part : (ask : Ask) (ups : List up.Message) (downs : List Put) (s : State) (job : Job) → IsJob job → IsNextOf ask job → ask.answered ≡ length ask.written → Asking ask ups downs s
      → Asking (record ask { written = ask.written ++ job ∷ [] }) (ups ++ up.Submit job.head job.bytes ∷ []) downs s
  pub request : (ask : Ask) (ups : List up.Message) (downs : List Put) (s : State) (job : Job) → IsJob job → job.header ≡ Request ask.tag ask.size → IsUnasked ask.written ask.sofar
      → (ask.sofar ≢ [] → unread s ≢ []) → ask.answered ≡ length ask.written → Asking ask ups downs s
      → Asking (record ask { written = ask.written ++ job ∷ [] }) (ups ++ up.Submit job.head job.bytes ∷ []) downs s
  pub one_read : (ask : Ask) (ups : List up.Message) (downs : List Put) (s : State) (head : SubmitHead) → IsRead head → ask.gone ≡ false → Asking ask ups downs s
      → Asking ask (ups ++ up.Submit head [] ∷ []) downs s

spaces_is : IsJob spaces_job
spaces_is = record {
  number = refl;
  way = refl;
  text = record {
    head = 0x01 ∷ 0x01 ∷ 0xfe ∷ 0x00 ∷ 0x64 ∷ 0x00 ∷ 0x00 ∷ 0x00 ∷ 0x00 ∷ 0x00 ∷ 0x00 ∷ 0x00 ∷ [];
    alignment = [];
    headed = record { reserved = 0; attributes = 0; ninth = 0; tenth = 0; eleventh = 0; tagged = (lit< tt, lit< tt); counted = (lit< tt, lit< tt); accepted = refl; layout = refl };
    counted = refl;
    least = lit< tt;
    aligned = refl;
    layout = refl;
  };
  headed = record { reserved = 0; attributes = 0; ninth = 0; tenth = 0; eleventh = 0; tagged = (lit< tt, lit< tt); counted = (lit< tt, lit< tt); accepted = refl; layout = refl };
  faultless = λ f is. no_fault spaces_text f (record { long = lit≤ tt; known = refl; tagged = eqb-false _ _ refl; inverse = refl; counted = inr (eqb-false _ _ refl) }) is.here;
  whole = refl;
  sized = refl;
}

last_is : IsJob last_job
last_is = record {
  number = refl;
  way = refl;
  text = record {
    head = 0x01 ∷ 0x02 ∷ 0xfd ∷ 0x00 ∷ 0x05 ∷ 0x00 ∷ 0x00 ∷ 0x00 ∷ 0x01 ∷ 0x00 ∷ 0x00 ∷ 0x00 ∷ [];
    alignment = 0x00 ∷ 0x00 ∷ 0x00 ∷ [];
    headed = record { reserved = 0; attributes = 1; ninth = 0; tenth = 0; eleventh = 0; tagged = (lit< tt, lit< tt); counted = (lit< tt, lit< tt); accepted = refl; layout = refl };
    counted = refl;
    least = lit< tt;
    aligned = refl;
    layout = refl;
  };
  headed = record { reserved = 0; attributes = 1; ninth = 0; tenth = 0; eleventh = 0; tagged = (lit< tt, lit< tt); counted = (lit< tt, lit< tt); accepted = refl; layout = refl };
  faultless = λ f is. no_fault last_text f (record { long = lit≤ tt; known = refl; tagged = eqb-false _ _ refl; inverse = refl; counted = inr (eqb-false _ _ refl) }) is.here;
  whole = refl;
  sized = refl;
}

-- the transfers of the message, and with the first request
abbrev pub message_jobs : List Job
message_jobs = spaces_job ∷ last_job ∷ []

abbrev pub all_jobs : List Job
all_jobs = spaces_job ∷ last_job ∷ request_job ∷ []

pub begun : AskMoves → Asking (asked_with 3 (spaces_job ∷ []) 0 []) (up.Submit (out_submit 1 112) spaces_text ∷ []) [] start
begun moves =
    moves.begins 2 spaced 3 4000 spaces_job [] [] start
    (record { control = refl; bulk_out = refl; bulk_in = refl; transfer = refl; part = refl; waiting = tt; side = refl; running = refl; log = tt })
    (record { control = refl; bulk_out = refl; bulk_in = refl; unlinks = refl; outs = refl; ins = refl })
    spaces_is (lit≤ tt) (Inner 1 100 (codes "*IDN?") refl refl tt)

-- the message was told, behind this run's first part
pub said : AskMoves → (mid : State) → Runs start (take 3 sending_parts) mid → Runs mid (drop 3 sending_parts) told_to → Asking (asked_with 3 message_jobs 2 []) [] [] told_to
said moves mid first last =
    let part = moves.stays [] (take 3 sending_parts) (asked_with 3 (spaces_job ∷ []) 0 []) start mid [] [] refl first ((record { endpoint = BulkOut; number = refl; way = refl }), tt) refl
    ((λ e. cc), ((λ e. cc), ((λ e. cc), tt))) (begun moves) in
    let taken = good (asked_with 3 (spaces_job ∷ []) 0 []) [] (out_submit 1 112) (record { seqnum = 1; status = success; actual = 112 }) [] mid refl
    (moves.outs (asked_with 3 (spaces_job ∷ []) 0 []) [] (out_submit 1 112) (record { seqnum = 1; status = success; actual = 112 }) [] [] mid refl part) in
    let wrote = moves.part (asked_with 3 (spaces_job ∷ []) 1 []) [] [] mid last_job last_is
    (record { rest = codes "*IDN?"; inner = tt; left = refl; carries = Final 2 5 refl refl refl (NoneComes refl); unread = refl }) refl taken in
    let whole = moves.stays (take 3 sending_parts) (drop 3 sending_parts) (asked_with 3 message_jobs 1 []) mid told_to [] [] first last ((record { endpoint = BulkOut; number = refl; way = refl }), tt) refl
    ((λ e. cc), ((λ e. cc), ((λ e. cc), tt))) wrote in
    good (asked_with 3 message_jobs 1 []) [] (out_submit 2 20) (record { seqnum = 2; status = success; actual = 20 }) [] told_to refl
    (moves.outs (asked_with 3 message_jobs 1 []) [] (out_submit 2 20) (record { seqnum = 2; status = success; actual = 20 }) [] [] told_to refl whole)

-- a piece is requested, the request is taken, one read is written and given the piece
abbrev pub Gave : (tag : ℕ) (written : List Job) (count : ℕ) (sofar piece : List ℕ) → State → Type 0
Gave tag written count sofar piece t = PieceEnd (asked_with tag written count sofar) piece [] [] t

pub first_given : AskMoves → OneHeader → Runs start sending_parts told_to → Runs start (sending_parts ++ requesting_first) requested_first → Asking (asked_with 3 message_jobs 2 []) [] [] told_to
    → Gave 3 all_jobs 3 [] first_piece behind_first
first_given moves one_header before behind asks =
    let wrote = moves.request (asked_with 3 message_jobs 2 []) [] [] told_to request_job first_is refl (inl tt) (λ some. absurd (some refl)) refl asks in
    let went = moves.stays sending_parts requesting_first (asked_with 3 all_jobs 2 []) told_to requested_first [] [] before (requests_first one_header) ((record { endpoint = BulkOut; number = refl; way = refl }), tt) refl
    ((λ e. cc), ((λ e. cc), tt)) wrote in
    let taken = good (asked_with 3 all_jobs 2 []) [] (out_submit 3 12) (record { seqnum = 3; status = success; actual = 12 }) [] requested_first refl
    (moves.outs (asked_with 3 all_jobs 2 []) [] (out_submit 3 12) (record { seqnum = 3; status = success; actual = 12 }) [] [] requested_first refl went) in
    let reads = moves.one_read (asked_with 3 all_jobs 3 []) [] [] requested_first (in_submit 4 4096) (record { number = refl; way = refl; size = refl }) refl taken in
    let gave = moves.stays (sending_parts ++ requesting_first) giving_first (asked_with 3 all_jobs 3 []) requested_first behind_first [] [] behind gives_first ((record { endpoint = BulkIn; number = refl; way = refl }), tt) refl
    ((λ e. cc), ((λ e. cc), ((λ e. cc), tt))) reads in
    piece_ends (asked_with 3 all_jobs 3 []) [] (in_submit 4 4096) (record { seqnum = 4; status = success; actual = 24 }) first_piece [] behind_first (lit< tt) refl
    (moves.ins (asked_with 3 all_jobs 3 []) [] (in_submit 4 4096) (record { seqnum = 4; status = success; actual = 24 }) first_piece [] behind_first refl gave)

-- what the piece carried, by its bytes
pub carried_is : (laws : WireLaws) (tag : ℕ) (written : List Job) (count : ℕ) (sofar piece : List ℕ) (t : State) → IsTag tag → (end : Gave tag written count sofar piece t)
    → IsWhole end.eom end.carried piece
carried_is laws tag written count sofar piece t tagged end =
    piece_whole laws tag 4000 piece end.carried end.eom (piece_text laws tag 4000 end.eom end.carried piece tagged end.some end.fits (lit< tt) end.text)

-- whether it ended the response
pub no_eom : (eom : Bool) → 0 ≡ eom_bit eom → eom ≡ false
no_eom true e = absurd (omega (arith, e))
no_eom false e = refl

pub has_eom : (eom : Bool) → 1 ≡ eom_bit eom → eom ≡ true
has_eom true e = refl
has_eom false e = absurd (omega (arith, e))

-- it goes on behind the first piece
pub paused : (carried : List ℕ) → carried ≡ first_data → ((tag size : ℕ) → Asking (record { last = 2; message = spaced; tag = tag; size = size; written = []; answered = 0; sofar = carried; read = []; gone = false }) [] [] behind_first)
    → Asking (asked_with 4 [] 0 first_data) [] [] behind_first
paused carried is next = subst (λ (l : List ℕ). Asking (asked_with 4 [] 0 l) [] [] behind_first) is (next 4 4000)

some_first : first_data ≢ []
some_first e = cc

some_second : second_data ≢ []
some_second e = cc

pub second_taken : AskMoves → OneHeader → (before : List Entry) → Runs start before behind_first → Asking (asked_with 4 [] 0 first_data) [] [] behind_first
    → Asking (asked_with 4 (next_job ∷ []) 1 first_data) [] [] requested_second
second_taken moves one_header before reached asks =
    let wrote = moves.request (asked_with 4 [] 0 first_data) [] [] behind_first next_job next_is refl (inr (refl, some_first)) (λ some. some_second) refl asks in
    let went = moves.stays before requesting_second (asked_with 4 (next_job ∷ []) 0 first_data) behind_first requested_second [] [] reached (requests_second one_header) ((record { endpoint = BulkOut; number = refl; way = refl }), tt) refl
    ((λ e. cc), ((λ e. cc), tt)) wrote in
    good (asked_with 4 (next_job ∷ []) 0 first_data) [] (out_submit 5 12) (record { seqnum = 5; status = success; actual = 12 }) [] requested_second refl
    (moves.outs (asked_with 4 (next_job ∷ []) 0 first_data) [] (out_submit 5 12) (record { seqnum = 5; status = success; actual = 12 }) [] [] requested_second refl went)

pub second_given : AskMoves → (before : List Entry) → Runs start before requested_second → Asking (asked_with 4 (next_job ∷ []) 1 first_data) [] [] requested_second
    → Gave 4 (next_job ∷ []) 1 first_data second_piece behind_second
second_given moves before reached asks =
    let reads = moves.one_read (asked_with 4 (next_job ∷ []) 1 first_data) [] [] requested_second (in_submit 6 4096) (record { number = refl; way = refl; size = refl }) refl asks in
    let gave = moves.stays before giving_second (asked_with 4 (next_job ∷ []) 1 first_data) requested_second behind_second [] [] reached gives_second ((record { endpoint = BulkIn; number = refl; way = refl }), tt) refl
    ((λ e. cc), ((λ e. cc), ((λ e. cc), tt))) reads in
    piece_ends (asked_with 4 (next_job ∷ []) 1 first_data) [] (in_submit 6 4096) (record { seqnum = 6; status = success; actual = 24 }) second_piece [] behind_second (lit< tt) refl
    (moves.ins (asked_with 4 (next_job ∷ []) 1 first_data) [] (in_submit 6 4096) (record { seqnum = 6; status = success; actual = 24 }) second_piece [] behind_second refl gave)

-- ---- a host that takes the second piece for the first one

front_of : (n : ℕ) (x : ℕ) (xs : List ℕ) → 1 ≤ n → (rest : List ℕ) × (take n (x ∷ xs) ≡ x ∷ rest)
front_of zero x xs some = absurd (omega (arith, some))
front_of (suc n) x xs some = (take n xs, refl)

pub not_skipping : ((response : List ℕ) → Ran 2 spaced response second_log → response ≡ identity)
    → Owned (record (asked_with 4 (next_job ∷ []) 1 []) { read = second_piece }) behind_second → ⊥
not_skipping one (NothingRead empty none) = absurd (cc)
not_skipping one (PiecesRead response ran all none) = absurd (cc)
not_skipping one (PieceRead response carried rest ran all some fits text first) =
    let begins = front_of (length carried) 67 (drop 13 second_piece) some in
    let e : identity ≡ (67 ∷ begins.0) ++ first.0 = sym (one response ran) ∙ (first.1 ∙ ap (λ (l : List ℕ). l ++ first.0) begins.1) in
    omega (arith, ap (λ (l : List ℕ). head_of l) e)
  where
    head_of : List ℕ → ℕ
    head_of [] = 0
    head_of (x ∷ xs) = x

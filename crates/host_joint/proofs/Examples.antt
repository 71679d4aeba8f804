-- example asks
use Rattle.std.proofs.Common.{◌≡◌, ◌≢◌, ◌⊎◌, inl, inr, ℕ, ◌-◌, ◌≤◌, true, false, List, [], ◌∷◌, ◌++◌, length, codes, refl, ap, sym, ◌∙◌, arith, lit<, lit≤, ◌+◌, ◌<◌, subst}
use Rattle.std.proofs.lemmas.Bool.{eqb-false}
use Rattle.usbip_wire.specs.Up as up
use Rattle.tmc_wire.specs.declared.header_fault.HeaderFault.{HeaderFault}
use Rattle.tmc_wire.specs.declared.header_fault.HeaderFault.TheVariants.{Length, MsgId, Tag, Inverse, Size}
use Rattle.tmc_wire.specs.Standard.{trigger}
use Rattle.tmc_wire.specs.HeaderFault as fault
use Rattle.instr_plain.specs.declared.log.LogEntry.{LogEntry}
use Rattle.instr_plain.specs.declared.log.LogEntry.TheVariants as entry
use Rattle.tmc_law.specs.Endpoint.{Endpoint, Control, BulkOut, BulkIn, InterruptIn}
use Rattle.tmc_law.specs.State.{State, start}
use Rattle.tmc_law.specs.Run.{inputs, outputs}
use Rattle.tmc_law.specs.WorkedQuery.{query_submit, request_submit, response_submit, response_text, asking, answering, query_log}
use Rattle.tmc_law.specs.WorkedSession.{answered}
use Rattle.tmc_law.specs.Put.{Put, success, stalled}
use Rattle.usbip_wire.specs.declared.submit.SubmitHead.{SubmitHead}
use Rattle.usbip_wire.specs.declared.ret_submit.RetSubmitHead.{RetSubmitHead}
use Rattle.host_joint.specs.Hosted.{OutAnswered, InAnswered, TookFull, TookEnd, TookHalt, PieceEnd}
use Rattle.host_joint.proofs.Hosting.{out_answered, in_answered}
use Rattle.tmc_law.specs.WorkedRead.{reading}
use Rattle.host_joint.specs.Lines.{Line, AllFitting, Gives}
use Rattle.host_joint.specs.Jobs.{IsJob, Unbegun}
use Rattle.host_joint.specs.Reads.{read_size, Still, Unread}
use Rattle.host_joint.specs.Stage.{Ran, OneComes, Final, Gathers}
use Rattle.host_joint.specs.Asking.{Ask, Asking}
use Rattle.host_joint.specs.Owned.{Owned, NothingRead, PiecesRead, PieceRead}
use Rattle.host_joint.specs.WorkedAsks.{query_job, read_job, request_job, query_ask, read_ask, query_asked, foreign_ask}

-- the bytes have no fault of a header
pub record IsFine (bytes : List ℕ) : Type 0 where
  pub long : 12 ≤ length bytes
  pub known : fault.is_out_message (fault.MsgID bytes) ≡ true
  pub tagged : fault.bTag bytes ≢ 0
  pub inverse : fault.bTagInverse bytes ≡ 255 - fault.bTag bytes
  pub counted : (fault.MsgID bytes ≡ trigger) ⊎ (fault.TransferSize bytes ≢ 0)

pub no_fault : (bytes : List ℕ) (f : HeaderFault) → IsFine bytes → fault.HasFault fault.is_out_message bytes f → ⊥
no_fault bytes Length fine h = omega (arith, h, fine.long)
no_fault bytes MsgId fine h = let e : true ≡ false = sym fine.known ∙ h in cc
no_fault bytes Tag fine h = fine.tagged h
no_fault bytes Inverse fine h = h fine.inverse
no_fault bytes Size fine h = no_size fine.counted h
  where
    no_size : (fault.MsgID bytes ≡ trigger) ⊎ (fault.TransferSize bytes ≢ 0) → (fault.MsgID bytes ≢ trigger) × (fault.TransferSize bytes ≡ 0) → ⊥
    no_size (inl is) h = h.0 is
    no_size (inr some) h = some h.1

pub query_is : IsJob query_job
query_is = record {
  number = refl;
  way = refl;
  text = record {
    head = 0x01 ∷ 0x01 ∷ 0xfe ∷ 0x00 ∷ 0x05 ∷ 0x00 ∷ 0x00 ∷ 0x00 ∷ 0x01 ∷ 0x00 ∷ 0x00 ∷ 0x00 ∷ [];
    alignment = 0x00 ∷ 0x00 ∷ 0x00 ∷ [];
    headed = record { reserved = 0; attributes = 1; ninth = 0; tenth = 0; eleventh = 0; tagged = (lit< tt, lit< tt); counted = (lit< tt, lit< tt); accepted = refl; layout = refl };
    counted = refl;
    least = lit< tt;
    aligned = refl;
    layout = refl;
  };
  headed = record { reserved = 0; attributes = 1; ninth = 0; tenth = 0; eleventh = 0; tagged = (lit< tt, lit< tt); counted = (lit< tt, lit< tt); accepted = refl; layout = refl };
  faultless = λ f is. no_fault query_job.bytes f (record { long = lit≤ tt; known = refl; tagged = eqb-false _ _ refl; inverse = refl; counted = inr (eqb-false _ _ refl) }) is.here;
  whole = refl;
  sized = refl;
}

read_is : IsJob read_job
read_is = record {
  number = refl;
  way = refl;
  text = record {
    head = 0x01 ∷ 0x01 ∷ 0xfe ∷ 0x00 ∷ 0x08 ∷ 0x00 ∷ 0x00 ∷ 0x00 ∷ 0x01 ∷ 0x00 ∷ 0x00 ∷ 0x00 ∷ [];
    alignment = [];
    headed = record { reserved = 0; attributes = 1; ninth = 0; tenth = 0; eleventh = 0; tagged = (lit< tt, lit< tt); counted = (lit< tt, lit< tt); accepted = refl; layout = refl };
    counted = refl;
    least = lit< tt;
    aligned = refl;
    layout = refl;
  };
  headed = record { reserved = 0; attributes = 1; ninth = 0; tenth = 0; eleventh = 0; tagged = (lit< tt, lit< tt); counted = (lit< tt, lit< tt); accepted = refl; layout = refl };
  faultless = λ f is. no_fault read_job.bytes f (record { long = lit≤ tt; known = refl; tagged = eqb-false _ _ refl; inverse = refl; counted = inr (eqb-false _ _ refl) }) is.here;
  whole = refl;
  sized = refl;
}

pub request_is : IsJob request_job
request_is = record {
  number = refl;
  way = refl;
  text = record {
    head = request_job.bytes;
    alignment = [];
    headed = record { reserved = 0; attributes = 0; ninth = 0; tenth = 0; eleventh = 0; tagged = (lit< tt, lit< tt); counted = (lit< tt, lit< tt); accepted = tt; layout = refl };
    counted = refl;
    least = lit< tt;
    aligned = refl;
    layout = refl;
  };
  headed = record { reserved = 0; attributes = 0; ninth = 0; tenth = 0; eleventh = 0; tagged = (lit< tt, lit< tt); counted = (lit< tt, lit< tt); accepted = tt; layout = refl };
  faultless = λ f is. no_fault request_job.bytes f (record { long = lit≤ tt; known = refl; tagged = eqb-false _ _ refl; inverse = refl; counted = inr (eqb-false _ _ refl) }) is.here;
  whole = refl;
  sized = refl;
}

-- before their messages arrive
pub query_begins : Asking query_ask (inputs (asking ++ answering)) [] start
query_begins = record {
  past = [];
  todo = query_job ∷ request_job ∷ [];
  hit = [];
  whole = refl;
  missed = λ kept usable. refl;
  jobs = (query_is, (request_is, tt));
  short = lit≤ tt;
  out = Unbegun [] (query_job ∷ request_job ∷ []) refl refl refl refl refl;
  came = 0;
  taken = refl;
  counted = refl;
  flow = Still;
  stage = Gathers [] (codes "*IDN?") refl refl refl refl tt refl refl (Final 1 5 refl refl refl (OneComes request_job refl refl)) tt refl;
  ins = Unread [] refl refl refl refl refl tt;
  reads = (record { number = refl; way = refl; size = refl }, refl, tt);
  calm = record { control = refl; none_comes = refl; running = refl; unlinks = λ e. refl };
}

pub read_begins : Asking read_ask (inputs reading) [] start
read_begins = record {
  past = [];
  todo = read_job ∷ request_job ∷ [];
  hit = [];
  whole = refl;
  missed = λ kept usable. refl;
  jobs = (read_is, (request_is, tt));
  short = lit≤ tt;
  out = Unbegun [] (read_job ∷ request_job ∷ []) refl refl refl refl refl;
  came = 0;
  taken = refl;
  counted = refl;
  flow = Still;
  stage = Gathers [] (codes "READ? 60") refl refl refl refl tt refl refl (Final 1 8 refl refl refl (OneComes request_job refl refl)) tt refl;
  ins = Unread [] refl refl refl refl refl tt;
  reads = (record { number = refl; way = refl; size = refl }, refl, tt);
  calm = record { control = refl; none_comes = refl; running = refl; unlinks = λ e. refl };
}

pub query_fits : AllFitting (inputs (asking ++ answering))
query_fits = (record { endpoint = BulkOut; number = refl; way = refl }, (record { endpoint = BulkOut; number = refl; way = refl }, (record { endpoint = BulkIn; number = refl; way = refl }, tt)))

pub read_fits : AllFitting (inputs reading)
read_fits = (record { endpoint = BulkOut; number = refl; way = refl }, (record { endpoint = BulkOut; number = refl; way = refl }, (record { endpoint = BulkIn; number = refl; way = refl }, tt)))

-- a log without an execution under this number
not_executed : (n : ℕ) (before behind : List LogEntry) (message : List ℕ) → entry.Exec 1 (codes "*IDN?") ∷ entry.Took 19 ∷ [] ≡ before ++ entry.Exec n message ∷ behind → n ≡ 1
not_executed n [] behind message e = ap (λ (l : List LogEntry). number l) (sym e)
  where
    number : List LogEntry → ℕ
    number [] = 0
    number (entry.Exec seq text ∷ l) = seq
    number (_ ∷ l) = 0
not_executed n (x ∷ []) behind message e = absurd (cc)
not_executed n (x ∷ y ∷ []) behind message e = absurd (cc)
not_executed n (x ∷ y ∷ z ∷ before) behind message e = absurd (cc)

pub none_ran : (response : List ℕ) → Ran 4 (codes "*IDN?") response query_log → ⊥
none_ran response ran = let e : 4 ≡ 1 = not_executed 4 ran.before ran.behind (codes "*IDN?") ran.whole in omega (arith, e)

pub foreign_is_not : Owned foreign_ask (record start { log = query_log }) → ⊥
foreign_is_not (NothingRead empty none) = absurd (cc)
foreign_is_not (PiecesRead response ran all none) = none_ran response ran
foreign_is_not (PieceRead response carried rest ran all some fits text first) = none_ran response ran

-- the submits of the query, before they arrive
pub query_lines : (e : Endpoint) → Line e (query_asked e) (inputs (asking ++ answering)) [] start
query_lines Control = refl
query_lines BulkOut = refl
query_lines BulkIn = refl
query_lines InterruptIn = refl

-- ---- the answers of the query are taken

pub good : (ask : Ask) (ups : List up.Message) (head : SubmitHead) (a : RetSubmitHead) (downs : List Put) (s : State) → a.status ≡ success → OutAnswered ask ups head a downs s
    → Asking (record ask { answered = ask.answered + 1 }) ups downs s
good ask ups head a downs s ok (inl h) = h.2
good ask ups head a downs s ok (inr e) = let f : success ≡ stalled = sym ok ∙ e.0 in absurd (cc)

pub piece_ends : (ask : Ask) (ups : List up.Message) (head : SubmitHead) (a : RetSubmitHead) (transferred : List ℕ) (downs : List Put) (s : State) → length transferred < read_size
    → s.halted.bulk_in ≡ false → InAnswered ask ups (Gives head a transferred) downs s → PieceEnd ask transferred ups downs s
piece_ends ask ups head a transferred downs s short usable (TookFull x is full next) = let e : transferred ≡ x.bytes = cc in absurd (omega (arith, short, full, ap (λ (l : List ℕ). length l) e))
piece_ends ask ups head a transferred downs s short usable (TookEnd x is small end) = let e : x.bytes ≡ transferred = cc in subst (λ (l : List ℕ). PieceEnd ask l ups downs s) e end
piece_ends ask ups head a transferred downs s short usable (TookHalt shuts halted later) = let e : false ≡ true = sym usable ∙ shuts in absurd (cc)

-- the first two answers of the query are taken
pub query_taken : Asking query_ask [] (outputs (asking ++ answering)) (record start { log = query_log })
    → Asking (record query_ask { answered = 2 }) [] (answered response_submit success 32 response_text ∷ []) (record start { log = query_log })
query_taken a =
    let t : State = record start { log = query_log } in
    let message : Put = answered query_submit success 20 [] in
    let request : Put = answered request_submit success 12 [] in
    let response : Put = answered response_submit success 32 response_text in
    let first = good query_ask [] query_submit (record { seqnum = 1; status = success; actual = 20 }) (request ∷ response ∷ []) t refl
    (out_answered 1 (codes "*IDN?") 2 4000 (query_job ∷ request_job ∷ []) 0 [] [] false [] query_submit (record { seqnum = 1; status = success; actual = 20 }) [] (request ∷ response ∷ []) t refl a) in
    good (record query_ask { answered = 1 }) [] request_submit (record { seqnum = 2; status = success; actual = 12 }) (response ∷ []) t refl
    (out_answered 1 (codes "*IDN?") 2 4000 (query_job ∷ request_job ∷ []) 1 [] [] false [] request_submit (record { seqnum = 2; status = success; actual = 12 }) [] (response ∷ []) t refl first)

pub query_read : Asking query_ask [] (outputs (asking ++ answering)) (record start { log = query_log })
    → PieceEnd (record query_ask { answered = 2 }) response_text [] [] (record start { log = query_log })
query_read a =
    let t : State = record start { log = query_log } in
    piece_ends (record query_ask { answered = 2 }) [] response_submit (record { seqnum = 3; status = success; actual = 32 }) response_text [] t (lit< tt) refl
    (in_answered 1 (codes "*IDN?") 2 4000 (query_job ∷ request_job ∷ []) 2 [] [] false [] response_submit (record { seqnum = 3; status = success; actual = 32 }) response_text [] t refl (query_taken a))

status_of : (h k : SubmitHead) (a b : RetSubmitHead) (x y : List ℕ) → Gives h a x ≡ Gives k b y → a.status ≡ b.status
status_of h k a b x y e = let same : a ≡ b = cc in ap (λ (r : RetSubmitHead). r.status) same

-- an answer that tells of a halt leaves the ask in hand
pub not_answered : (ask : Ask) (ups : List up.Message) (head : SubmitHead) (a : RetSubmitHead) (transferred : List ℕ) (downs : List Put) (s : State) → a.status ≡ stalled → InAnswered ask ups (Gives head a transferred) downs s
    → Asking ask ups downs s
not_answered ask ups head a transferred downs s bad (TookFull x is full next) = let e : success ≡ stalled = sym (status_of head x.head a (record { seqnum = x.head.seqnum; status = success; actual = length x.bytes }) transferred x.bytes is) ∙ bad in absurd (cc)
not_answered ask ups head a transferred downs s bad (TookEnd x is small end) = let e : success ≡ stalled = sym (status_of head x.head a (record { seqnum = x.head.seqnum; status = success; actual = length x.bytes }) transferred x.bytes is) ∙ bad in absurd (cc)
not_answered ask ups head a transferred downs s bad (TookHalt shuts halted later) = later

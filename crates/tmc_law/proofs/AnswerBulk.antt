-- the bulk endpoints, Interrupt-IN, halts and unplugging
use Rattle.std.proofs.Common.{◌≡◌, ℕ, ◌+◌, ◌-◌, ◌*◌, ◌≤◌, inl, inr, List, [], ◌∷◌, ◌++◌, length, take, drop, refl, sym, ap, subst, ◌∙◌, arith, length-append, length-take, length-drop}
use Rattle.std.proofs.lemmas.List.{append-nil}
use Rattle.usbip_wire.specs.declared.submit.SubmitHead.{SubmitHead}
use Rattle.usbip_wire.specs.declared.dirs.Outstanding.{Outstanding}
use Rattle.instr_plain.specs.declared.log.LogEntry.{LogEntry}
use Rattle.tmc_law.specs.Endpoint.{Endpoint, BulkOut, BulkIn, InterruptIn, packet_size}
use Rattle.tmc_law.specs.State.{State, Pending, Transfer, Piece, Packet, StatusPacket, ServicePacket, queue_of, with_queue, pending, room}
use Rattle.tmc_law.specs.Put.{Put, answer_of, ended, success, unplugged}
use Rattle.tmc_law.specs.Logging.{Logs}
use Rattle.tmc_law.specs.Halts.{all_ended, HaltsItself, DoesHalt, Unplugs, unplug_answers}
use Rattle.tmc_law.specs.BulkOut.{Moves, DoesMove, Interrupts, Dropped, NothingUnread, LaterPart, TakesEffect, Part, Last, Requests, RequestsNothing, Triggers, Takes, Empty, Spoiled, Inside, SubmitEnds, TransferEnds, Executes, DoesExecute}
use Rattle.tmc_law.specs.BulkIn as bulk_in
use Rattle.tmc_law.specs.Status.{packet_bytes, notified, Notifies, Gives, NoRoom}
use Rattle.tmc_law.proofs.AnswerBytes.{success_is, unplugged_is}
use Rattle.tmc_law.proofs.Owed.{AreOwed}
use Rattle.tmc_law.proofs.Answering.{Settles, settles_append, queue_settles}
use Rattle.tmc_law.proofs.AnswerPlaces.{AreWhole, TiesAt, LastsAt, lasts, lasts_at, none_lasts, is_owed_first, first_lasts, owed_changed, halts_last}

-- ---- states with the same pending submits

pub record Same (s t : State) : Type 0 where
  pub submits : pending t ≡ pending s
  pub out : t.bulk_out ≡ s.bulk_out

same_by : (s t u : State) → t ≡ u → Same s u → Same s t
same_by s t u e same = record { submits = ap (λ (v : State). pending v) e ∙ same.submits; out = ap (λ (v : State). v.bulk_out) e ∙ same.out }

pub same_ties : (entries : List Outstanding) (s t : State) → Same s t → TiesAt entries s → TiesAt entries t
same_ties entries s t same ties =
    record { owed = subst (λ (l : List Pending). AreOwed entries l) (sym same.submits) ties.owed; whole = subst (λ (l : List Pending). AreWhole l) (sym same.out) ties.whole }

pub same_lasts : (entries : List Outstanding) (puts : List Put) (s t : State) → Same s t → LastsAt entries puts s → LastsAt entries puts t
same_lasts entries puts s t same last = record { accepted = last.accepted; ties = same_ties _ s t same last.ties }

pub logs_same : (entry : LogEntry) (s t : State) → Logs entry s t → Same s t
logs_same entry s t logs = record { submits = ap (λ (v : State). pending v) logs.is; out = ap (λ (v : State). v.bulk_out) logs.is }

-- ---- a submit that has more than before

-- it has the head of another, and room for what it has
pub record Follows (submit later : Pending) : Type 0 where
  pub head : later.head ≡ submit.head
  pub fits : length later.moved ≤ submit.head.length

later_is : (submit later : Pending) → later.head ≡ submit.head
    → (record { head = submit.head; left = later.left; moved = later.moved; polled = later.polled }) ≡ later
later_is submit later e =
    ap (λ (h : SubmitHead). let p : Pending = record { head = h; left = later.left; moved = later.moved; polled = later.polled } in p) (sym e)

pub owed_later : (entries : List Outstanding) (endpoint : Endpoint) (s : State) (submit later : Pending) (behind : List Pending)
    → queue_of endpoint s ≡ submit ∷ behind → Follows submit later → TiesAt entries s → AreOwed entries (pending (with_queue endpoint (later ∷ behind) s))
owed_later entries endpoint s submit later behind is follows ties =
    subst (λ (p : Pending). AreOwed entries (pending (with_queue endpoint (p ∷ behind) s))) (later_is submit later follows.head)
    (owed_changed entries endpoint s submit behind later.moved later.left later.polled is follows.fits ties.owed)

pub later_lasts : (entries : List Outstanding) (endpoint : Endpoint) (s : State) (submit later : Pending) (behind : List Pending)
    → queue_of endpoint s ≡ submit ∷ behind → Follows submit later → TiesAt entries s
    → LastsAt entries (ended success later ∷ []) (with_queue endpoint behind s)
later_lasts entries endpoint s submit later behind is follows ties =
    subst (λ (h : SubmitHead). LastsAt entries (answer_of h success later.moved ∷ []) (with_queue endpoint behind s)) (sym follows.head)
    (first_lasts entries endpoint s submit behind success later.moved is success_is follows.fits ties)

-- it is answered as it is
pub ended_lasts : (entries : List Outstanding) (endpoint : Endpoint) (s : State) (submit : Pending) (behind : List Pending)
    → queue_of endpoint s ≡ submit ∷ behind → TiesAt entries s → LastsAt entries (ended success submit ∷ []) (with_queue endpoint behind s)
ended_lasts entries endpoint s submit behind is ties =
    first_lasts entries endpoint s submit behind success submit.moved is success_is (is_owed_first entries endpoint s submit behind is ties.owed).fits ties

-- ---- Bulk-OUT

interrupts_same : (s t : State) → Interrupts s t → Same s t
interrupts_same s t (Dropped part some logs) = logs_same _ s t logs
interrupts_same s t (NothingUnread none i) = same_by s t s i (record { submits = refl; out = refl })
interrupts_same s t (LaterPart part i) = same_by s t s i (record { submits = refl; out = refl })

effect_same : (seq : ℕ) (transfer : Transfer) (s t : State) → TakesEffect seq transfer s t → Same s t
effect_same seq transfer s t (Part tag size message mid header text interrupts i) =
    let same = interrupts_same s mid interrupts in
    same_by s t _ i (record { submits = same.submits; out = same.out })
effect_same seq transfer s t (Last tag size message mid header text interrupts i) =
    let same = interrupts_same s mid interrupts in
    same_by s t _ i (record { submits = same.submits; out = same.out })
effect_same seq transfer s t (Requests tag size header some i) = same_by s t _ i (record { submits = refl; out = refl })
effect_same seq transfer s t (RequestsNothing tag size header none logs) =
    let same = logs_same _ _ t logs in
    record { submits = same.submits; out = same.out }
effect_same seq transfer s t (Triggers tag header logs) = logs_same _ s t logs

-- the packets that were taken, and what is left
moved_fits : (moved left : List ℕ) (k size : ℕ) → length moved + length left ≤ size → length (moved ++ take k left) + length (drop k left) ≤ size
moved_fits moved left k size fits =
    omega (arith, length-append moved (take k left), length-take k left, length-drop k left)

record MovesOn (submit later : Pending) : Type 0 where
  follows : Follows submit later
  whole : length later.moved + length later.left ≤ later.head.length

moves_on : (count : ℕ) (submit : Pending) (transfer : Transfer) (later : Pending) (grown : Transfer)
    → length submit.moved + length submit.left ≤ submit.head.length → Moves count submit transfer later grown → MovesOn submit later
moves_on count submit transfer later grown fits (DoesMove l g) =
    let k : ℕ = count * packet_size in
    let whole : length (submit.moved ++ take k submit.left) + length (drop k submit.left) ≤ submit.head.length =
    moved_fits submit.moved submit.left k submit.head.length fits in
    subst (λ (p : Pending). MovesOn submit p) (sym l)
    (record { follows = record { head = refl; fits = omega (arith, whole) }; whole = whole })

whole_now : (s : State) (submit : Pending) (behind : List Pending) → s.bulk_out ≡ submit ∷ behind → AreWhole s.bulk_out → AreWhole (submit ∷ behind)
whole_now s submit behind is whole = subst (λ (l : List Pending). AreWhole l) is whole

pub takes_last : (entries : List Outstanding) (s : State) (count : ℕ) (puts : List Put) (t : State) → TiesAt entries s → Takes s count puts t
    → LastsAt entries puts t
takes_last entries s count puts t ties (Empty submit behind is zero one a i) =
    lasts_at entries puts _ t _ a i (ended_lasts entries BulkOut s submit behind is ties)
takes_last entries s count puts t ties (Spoiled submit behind is some from to spoils a i) =
    lasts_at entries puts _ t _ a i (halts_last entries BulkOut s ties)
takes_last entries s count puts t ties (Inside submit later behind transfer grown is some from fine belongs moves left a i) =
    let whole = whole_now s submit behind is ties.whole in
    let on = moves_on count submit transfer later grown whole.0 moves in
    lasts_at entries puts [] t _ a i
    (none_lasts entries _ _ (record { owed = owed_later entries BulkOut s submit later behind is on.follows ties; whole = (on.whole, whole.1) }))
takes_last entries s count puts t ties (SubmitEnds submit later behind transfer grown is some all fine belongs moves wanting a i) =
    let on = moves_on count submit transfer later grown (whole_now s submit behind is ties.whole).0 moves in
    lasts_at entries puts _ t _ a i (later_lasts entries BulkOut s submit later behind is on.follows ties)
takes_last entries s count puts t ties (TransferEnds submit later behind transfer grown is some all fine belongs moves done effect a) =
    let on = moves_on count submit transfer later grown (whole_now s submit behind is ties.whole).0 moves in
    lasts_at entries puts _ t t a refl
    (same_lasts entries (ended success later ∷ []) _ t (effect_same _ grown _ t effect) (later_lasts entries BulkOut s submit later behind is on.follows ties))

pub executes_same : (s t : State) → Executes s t → Same s t
executes_same s t (DoesExecute seq message waiting logs) =
    let same = logs_same _ _ t logs in
    record { submits = same.submits; out = same.out }

-- ---- Bulk-IN

pub begins_same : (s : State) (count : ℕ) (t : State) → bulk_in.Begins s count t → Same s t
begins_same s count t (bulk_in.DoesBegin tag size side none from to logs) =
    let same = logs_same _ _ t logs in
    record { submits = same.submits; out = same.out }

grown_fits : (moved left : List ℕ) (k size : ℕ) → length moved ≤ size → k ≤ size - length moved → length (moved ++ take k left) ≤ size
grown_fits moved left k size fits room = omega (arith, length-append moved (take k left), length-take k left)

filled_follows : (entries : List Outstanding) (s : State) (submit : Pending) (behind : List Pending) (k : ℕ) (piece : Piece)
    → s.bulk_in ≡ submit ∷ behind → k ≤ room submit → TiesAt entries s → Follows submit (bulk_in.filled k piece submit)
filled_follows entries s submit behind k piece is room ties = record {
  head = refl;
  fits = grown_fits submit.moved piece.left k submit.head.length (is_owed_first entries BulkIn s submit behind is ties.owed).fits room;
}

leaves_room : (full : ℕ) (submit : Pending) → bulk_in.LeavesRoom full submit → full * packet_size ≤ room submit
leaves_room full submit (inl none) = rw none (omega arith)
leaves_room full submit (inr some) = omega (arith, some)

pub fills_last : (entries : List Outstanding) (s : State) (count : ℕ) (puts : List Put) (t : State) → TiesAt entries s → bulk_in.Fills s count puts t
    → LastsAt entries puts t
fills_last entries s count puts t ties (bulk_in.Ends submit behind given is running one a i) =
    lasts_at entries puts _ t _ a i (ended_lasts entries BulkIn s submit behind is ties)
fills_last entries s count puts t ties (bulk_in.Inside submit behind piece is side none from within fits a i) =
    let follows = filled_follows entries s submit behind (count * packet_size) piece is (omega (arith, fits)) ties in
    lasts_at entries puts [] t _ a i
    (none_lasts entries _ _ (record { owed = owed_later entries BulkIn s submit _ behind is follows ties; whole = ties.whole }))
fills_last entries s count puts t ties (bulk_in.Full submit behind piece is side none from within fits a i) =
    let follows = filled_follows entries s submit behind (count * packet_size) piece is (omega (arith, fits)) ties in
    lasts_at entries puts _ t _ a i (later_lasts entries BulkIn s submit _ behind is follows ties)
fills_last entries s count puts t ties (bulk_in.Short submit behind piece full is side none counted leaves within short fits a i) =
    let follows = filled_follows entries s submit behind (length piece.left) piece is fits ties in
    lasts_at entries puts _ t _ a i (later_lasts entries BulkIn s submit _ behind is follows ties)
fills_last entries s count puts t ties (bulk_in.Overflows submit behind piece full is side none counted leaves within over a i) =
    let follows = filled_follows entries s submit behind (full * packet_size) piece is (leaves_room full submit leaves) ties in
    let mid : State = record s { bulk_in = bulk_in.filled (full * packet_size) piece submit ∷ behind } in
    lasts_at entries puts _ t _ a i
    (halts_last entries BulkIn mid (record { owed = owed_later entries BulkIn s submit _ behind is follows ties; whole = ties.whole }))

-- ---- Interrupt-IN

packet_length : (packet : Packet) → length (packet_bytes packet) ≡ 2
packet_length (StatusPacket tag byte) = refl
packet_length (ServicePacket byte) = refl

pub notifies_last : (entries : List Outstanding) (s : State) (puts : List Put) (t : State) → TiesAt entries s → Notifies s puts t → LastsAt entries puts t
notifies_last entries s puts t ties (Gives submit behind packet packets is first fits a i) =
    let follows : Follows submit (notified packet submit) = record { head = refl; fits = omega (arith, packet_length packet) } in
    lasts_at entries puts _ t _ a i (later_lasts entries InterruptIn s submit (notified packet submit) behind is follows ties)
notifies_last entries s puts t ties (NoRoom submit behind packet packets is first short a i) =
    lasts_at entries puts _ t _ a i (halts_last entries InterruptIn s ties)

-- ---- halts and unplugging

pub halts_itself_last : (entries : List Outstanding) (s : State) (endpoint : Endpoint) (puts : List Put) (t : State) → TiesAt entries s
    → HaltsItself s endpoint puts t → LastsAt entries puts t
halts_itself_last entries s endpoint puts t ties (DoesHalt other running a i) =
    lasts_at entries puts _ t _ a i (halts_last entries endpoint s ties)

unplugged_settles : (entries : List Outstanding) (control out into notify : List Pending) → AreOwed entries (control ++ (out ++ (into ++ notify)))
    → Settles entries (all_ended unplugged control ++ (all_ended unplugged out ++ (all_ended unplugged into ++ all_ended unplugged notify))) []
unplugged_settles entries control out into notify owed =
    settles_append entries (all_ended unplugged control) _ (out ++ (into ++ notify)) []
    (queue_settles entries [] control (out ++ (into ++ notify)) unplugged unplugged_is owed)
    (λ e1 owed1. settles_append e1 (all_ended unplugged out) _ (into ++ notify) []
    (queue_settles e1 [] out (into ++ notify) unplugged unplugged_is owed1)
    (λ e2 owed2. settles_append e2 (all_ended unplugged into) _ notify []
    (queue_settles e2 [] into notify unplugged unplugged_is owed2)
    (λ e3 owed3. queue_settles e3 [] notify [] unplugged unplugged_is (subst (λ (l : List Pending). AreOwed e3 l) (sym (append-nil notify)) owed3))))

pub unplugs_last : (entries : List Outstanding) (s : State) (puts : List Put) (t : State) → TiesAt entries s → Unplugs s puts t → LastsAt entries puts t
unplugs_last entries s puts t ties unplugs =
    lasts_at entries puts _ t _ unplugs.answered unplugs.is
    (lasts entries (unplug_answers s) [] [] (unplugged_settles entries s.control s.bulk_out s.bulk_in s.interrupt_in ties.owed) tt)

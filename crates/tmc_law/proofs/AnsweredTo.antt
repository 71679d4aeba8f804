-- what each answer of a step answers
use Rattle.std.proofs.Common.{◌≡◌, ◌∙◌, ◌⊎◌, inl, inr, ℕ, ℤ, ◌+◌, ◌*◌, ◌≤◌, true, false, List, [], ◌∷◌, ◌++◌, map, length, take, min, refl, ap, sym, subst, append_assoc, length-append, length-take, arith}
use Rattle.usbip_wire.specs.declared.submit.SubmitHead.{SubmitHead}
use Rattle.usbip_wire.specs.declared.unlink.UnlinkHead.{UnlinkHead}
use Rattle.usbip_wire.specs.declared.urb.Dir.{Dir}
use Rattle.usbip_wire.specs.declared.urb.Dir.TheVariants.{Out, In}
use Rattle.usbip_wire.specs.Up as up
use Rattle.usb_setup.specs.declared.setup.Setup.{Setup}
use Rattle.tmc_wire.specs.declared.class_request.ClassRequest.{ClassRequest}
use Rattle.tmc_wire.specs.declared.class_request.ClassRequest.TheVariants.{AbortOut, CheckOut, AbortIn, CheckIn, Clear, CheckClear, Capabilities, Pulse, ReadStatus, Ren, GoLocal, Lockout}
use Rattle.tmc_law.specs.Endpoint.{Endpoint, Control, BulkOut, BulkIn, InterruptIn, packet_size}
use Rattle.tmc_law.specs.State.{State, Pending, Transfer, Piece, Running, Nothing, AbortsOut, AbortsIn, Clears, Packet, StatusPacket, ServicePacket, room, queue_of, is_halted}
use Rattle.tmc_law.specs.Put.{Put, answer_of, ended, success, stalled, unlinked, unplugged}
use Rattle.tmc_law.specs.Control.{sent_back, control_answer}
use Rattle.tmc_law.specs.Queues.{Arrives, Queued, TurnedAway, Unlinks, Hits, Polled, Misses}
use Rattle.tmc_law.specs.Halts.{halts, halt_answers, all_ended, HaltsItself, DoesHalt, Unplugs}
use Rattle.tmc_law.specs.BulkOut as out
use Rattle.tmc_law.specs.BulkIn as «in»
use Rattle.tmc_law.specs.Aborts as aborts
use Rattle.tmc_law.specs.Aborts.{Served}
use Rattle.tmc_law.specs.Status as status
use Rattle.tmc_law.specs.Class as class
use Rattle.tmc_law.specs.Step.{Move, Comes, Refuses, Take, Exec, Begin, Fill, Answer, Pend, Poll, Notify, Halt, Unplug, Leads}
use Rattle.tmc_law.specs.AnswerFits.{AllAnswers, StatusBy, IsAnswer, ToPending, ToArriving, ToUnlink}
use Rattle.tmc_law.specs.Acts.{Sized, FitsAt}
use Rattle.tmc_law.specs.Reached.{AllFit}
use Rattle.tmc_law.proofs.Queued.{NonePolled, FirstPolled, IsSound}

abbrev pub Ok : State → Move → State → List Put → Type 0
Ok s move t puts = AllAnswers (IsAnswer s move t) puts

ok_none : (s t : State) (move : Move) (puts : List Put) → puts ≡ [] → Ok s move t puts
ok_none s t move puts none = subst (λ (p : List Put). Ok s move t p) (sym none) tt

ok_put : (s t : State) (move : Move) (puts put : List Put) → puts ≡ put → Ok s move t put → Ok s move t puts
ok_put s t move puts put is h = subst (λ (p : List Put). Ok s move t p) (sym is) h

ok_append : (s t : State) (move : Move) (a b : List Put) → Ok s move t a → Ok s move t b → Ok s move t (a ++ b)
ok_append s t move [] b h k = k
ok_append s t move (put ∷ a) b h k = (h.0, ok_append s t move a b h.1 k)

stalls : stalled ≡ success → ⊥
stalls e = cc

gone : unplugged ≡ success → ⊥
gone e = cc

not_stalled : success ≡ stalled → ⊥
not_stalled e = cc

gone_not_stalled : unplugged ≡ stalled → ⊥
gone_not_stalled e = cc

-- ---- what fits

first_fits : (e : Endpoint) (s : State) (submit : Pending) (behind : List Pending) → IsSound s → queue_of e s ≡ submit ∷ behind → FitsAt e submit
first_fits e s submit behind sound queue = (subst (λ (q : List Pending). AllFit e q) queue (sound.fits e)).0

pub fits_in : (e : Endpoint) (before : List Pending) (submit : Pending) (behind : List Pending) → AllFit e (before ++ submit ∷ behind) → FitsAt e submit
fits_in e [] submit behind h = h.0
fits_in e (x ∷ before) submit behind h = fits_in e before submit behind h.1

sized_within : (d : Dir) (submit : Pending) → Sized d submit → length submit.moved ≤ submit.head.length
sized_within Out submit h = omega (arith, h)
sized_within In submit h = h.0

within : (e : Endpoint) (submit : Pending) → FitsAt e submit → length submit.moved ≤ submit.head.length
within e submit fits = sized_within submit.head.dir submit fits.sized

moved_within : (submit : Pending) (n : ℕ) → length submit.moved + length submit.left ≡ submit.head.length → length (submit.moved ++ take n submit.left) ≤ submit.head.length
moved_within submit n h = omega (arith, h, length-append submit.moved (take n submit.left), length-take n submit.left)

filled_within : (submit : Pending) (n : ℕ) (left : List ℕ) → length submit.moved ≤ submit.head.length → n ≤ room submit → length (submit.moved ++ take n left) ≤ submit.head.length
filled_within submit n left h fits = omega (arith, h, fits, length-append submit.moved (take n left), length-take n left)

sent_within : (dir : Dir) (n size : ℕ) (layout : List ℕ) → n ≤ size → length (sent_back dir n layout) ≤ size
sent_within Out n size layout h = omega arith
sent_within In n size layout h = omega (arith, h, length-take n layout)

-- ---- queues that end

others : (s t : State) (move : Move) (e : Endpoint) (status : ℤ) (before rest : List Pending) → queue_of e s ≡ before ++ rest → StatusBy move status
    → (status ≡ stalled → (e ≡ Control) ⊎ (is_halted e t ≡ true)) → (status ≡ success → ⊥) → Ok s move t (map (λ submit. answer_of submit.head status []) rest)
others s t move e status before [] is by halted none = tt
others s t move e status before (submit ∷ rest) is by halted none = (
  ToPending e before submit rest status [] is refl (omega arith) by halted (λ own good. absurd (none good)),
  others s t move e status (before ++ submit ∷ []) rest (is ∙ sym (append_assoc before (submit ∷ []) rest)) by halted none,
)

-- the first one has these bytes
first_others : (s t : State) (move : Move) (e : Endpoint) (status : ℤ) (first : Pending) (rest : List Pending) (moved : List ℕ) → queue_of e s ≡ first ∷ rest → length moved ≤ first.head.length
    → StatusBy move status → (status ≡ stalled → (e ≡ Control) ⊎ (is_halted e t ≡ true)) → (status ≡ success → ⊥)
    → Ok s move t (answer_of first.head status moved ∷ map (λ submit. answer_of submit.head status []) rest)
first_others s t move e status first rest moved is short by halted none = (
  ToPending e [] first rest status moved is refl short by halted (λ own good. absurd (none good)),
  others s t move e status (first ∷ []) rest is by halted none,
)

all_end : (s t : State) (move : Move) (e : Endpoint) (status : ℤ) (queue : List Pending) → IsSound s → queue_of e s ≡ queue → StatusBy move status
    → (status ≡ stalled → (e ≡ Control) ⊎ (is_halted e t ≡ true)) → (status ≡ success → ⊥) → Ok s move t (all_ended status queue)
all_end s t move e status [] sound is by halted none = tt
all_end s t move e status (first ∷ rest) sound is by halted none =
    first_others s t move e status first rest first.moved is (within e first (first_fits e s first rest sound is)) by halted none

-- an endpoint that halts
halts_all : (e : Endpoint) (s : State) → (e ≡ Control) ⊎ (is_halted e (halts e s) ≡ true)
halts_all Control s = inl refl
halts_all BulkOut s = inr refl
halts_all BulkIn s = inr refl
halts_all InterruptIn s = inr refl

halts_now : (e : Endpoint) (s t : State) → t ≡ halts e s → (e ≡ Control) ⊎ (is_halted e t ≡ true)
halts_now e s t is = subst (λ (x : State). (e ≡ Control) ⊎ (is_halted e x ≡ true)) (sym is) (halts_all e s)

all_halt : (s t : State) (move : Move) (puts : List Put) (e : Endpoint) → IsSound s → StatusBy move stalled → puts ≡ halt_answers e s → t ≡ halts e s → Ok s move t puts
all_halt s t move puts e sound by put is =
    ok_put s t move puts (halt_answers e s) put (all_end s t move e stalled (queue_of e s) sound refl by (λ h. halts_now e s t is) stalls)

-- the first submit of a queue succeeds
succeeds : (s t : State) (move : Move) (puts : List Put) (e : Endpoint) (submit : Pending) (behind : List Pending) (moved : List ℕ) → queue_of e s ≡ submit ∷ behind → length moved ≤ submit.head.length
    → StatusBy move success → (e ≡ InterruptIn → length moved ≡ 2) → puts ≡ answer_of submit.head success moved ∷ [] → Ok s move t puts
succeeds s t move puts e submit behind moved queue short by packet put =
    ok_put s t move puts (answer_of submit.head success moved ∷ []) put (ToPending e [] submit behind success moved queue refl short by (λ h. absurd (not_stalled h)) (λ own good. packet own), tt)

out_other : BulkOut ≡ InterruptIn → ⊥
out_other e = cc

in_other : BulkIn ≡ InterruptIn → ⊥
in_other e = cc

control_other : Control ≡ InterruptIn → ⊥
control_other e = cc

-- ---- Bulk-OUT

out_sized : (submit : Pending) → FitsAt BulkOut submit → length submit.moved + length submit.left ≡ submit.head.length
out_sized submit h = subst (λ (d : Dir). Sized d submit) h.way h.sized

later_ends : (s t : State) (puts : List Put) (count : ℕ) (submit later : Pending) (behind : List Pending) (transfer grown : Transfer) → IsSound s → s.bulk_out ≡ submit ∷ behind
    → out.Moves count submit transfer later grown → puts ≡ ended success later ∷ [] → Ok s (Take count) t puts
later_ends s t puts count submit later behind transfer grown sound queue (out.DoesMove is growth) put =
    succeeds s t (Take count) puts BulkOut submit behind (submit.moved ++ take (count * packet_size) submit.left) queue
    (moved_within submit (count * packet_size) (out_sized submit (first_fits BulkOut s submit behind sound queue))) (inl refl) (λ own. absurd (out_other own))
    (put ∙ ap (λ (x : Pending). ended success x ∷ []) is)

takes : (s t : State) (count : ℕ) (puts : List Put) → IsSound s → out.Takes s count puts t → Ok s (Take count) t puts
takes s t count puts sound (out.Empty submit behind queue none one put is) =
    succeeds s t (Take count) puts BulkOut submit behind submit.moved queue (within BulkOut submit (first_fits BulkOut s submit behind sound queue)) (inl refl) (λ own. absurd (out_other own)) put
takes s t count puts sound (out.Spoiled submit behind queue some low high spoils put is) = all_halt s t (Take count) puts BulkOut sound (inr refl) put is
takes s t count puts sound (out.Inside submit later behind transfer grown queue some low fine belongs moves more put is) = ok_none s t (Take count) puts put
takes s t count puts sound (out.SubmitEnds submit later behind transfer grown queue some all fine belongs moves wants put is) =
    later_ends s t puts count submit later behind transfer grown sound queue moves put
takes s t count puts sound (out.TransferEnds submit later behind transfer grown queue some all fine belongs moves wants effect put) =
    later_ends s t puts count submit later behind transfer grown sound queue moves put

-- ---- Bulk-IN

leaves_room : (full : ℕ) (submit : Pending) → «in».LeavesRoom full submit → full * packet_size ≤ room submit
leaves_room full submit (inl none) = rw none (omega arith)
leaves_room full submit (inr less) = omega arith

filled_ends : (s t : State) (puts : List Put) (count n : ℕ) (submit : Pending) (behind : List Pending) (piece : Piece) → IsSound s → s.bulk_in ≡ submit ∷ behind → n ≤ room submit
    → puts ≡ ended success («in».filled n piece submit) ∷ [] → Ok s (Fill count) t puts
filled_ends s t puts count n submit behind piece sound queue free put =
    succeeds s t (Fill count) puts BulkIn submit behind (submit.moved ++ take n piece.left) queue
    (filled_within submit n piece.left (within BulkIn submit (first_fits BulkIn s submit behind sound queue)) free) (inl refl) (λ own. absurd (in_other own)) put

fills : (s t : State) (count : ℕ) (puts : List Put) → IsSound s → «in».Fills s count puts t → Ok s (Fill count) t puts
fills s t count puts sound («in».Ends submit behind n queue runs one put is) =
    succeeds s t (Fill count) puts BulkIn submit behind submit.moved queue (within BulkIn submit (first_fits BulkIn s submit behind sound queue)) (inl refl) (λ own. absurd (in_other own)) put
fills s t count puts sound («in».Inside submit behind piece queue sends free low inside fits put is) = ok_none s t (Fill count) puts put
fills s t count puts sound («in».Full submit behind piece queue sends free low inside fits put is) =
    filled_ends s t puts count (count * packet_size) submit behind piece sound queue (omega arith) put
fills s t count puts sound («in».Short submit behind piece full queue sends free counts leaves inside less fits put is) =
    filled_ends s t puts count (length piece.left) submit behind piece sound queue fits put
fills s t count puts sound («in».Overflows submit behind piece full queue sends free counts leaves inside over put is) =
    ok_put s t (Fill count) puts (all_ended stalled («in».filled (full * packet_size) piece submit ∷ behind)) put
    (first_others s t (Fill count) BulkIn stalled submit behind (submit.moved ++ take (full * packet_size) piece.left) queue
    (filled_within submit (full * packet_size) piece.left (within BulkIn submit (first_fits BulkIn s submit behind sound queue)) (leaves_room full submit leaves))
    (inr refl) (λ h. halts_now BulkIn s t is) stalls)

-- ---- control requests

-- the answer to the first control submit
answered : (s t : State) (move : Move) (submit : Pending) (behind : List Pending) (setup : Setup) (layout : List ℕ) → s.control ≡ submit ∷ behind → StatusBy move success
    → IsAnswer s move t (control_answer submit setup layout)
answered s t move submit behind setup layout queue by =
    ToPending Control [] submit behind success (sent_back submit.head.dir (min setup.length submit.head.length) layout) queue refl
    (sent_within submit.head.dir (min setup.length submit.head.length) submit.head.length layout (omega arith)) by (λ h. absurd (not_stalled h)) (λ own. absurd (control_other own))

-- nothing else is put out
alone : (s t : State) (served w : Served) → served ≡ w → w.behind ≡ [] → Ok s Answer t served.behind
alone s t served w is none = ok_none s t Answer served.behind (ap (λ (v : Served). v.behind) is ∙ none)

check_out : (s : State) (r : Running) → (aborts.checked_out (record s { running = r })).behind ≡ []
check_out s Nothing = refl
check_out s AbortsOut = refl
check_out s (AbortsIn wanting given) = refl
check_out s Clears = refl

check_in : (s : State) (r : Running) → (aborts.checked_in (record s { running = r })).behind ≡ []
check_in s Nothing = refl
check_in s AbortsOut = refl
check_in s (AbortsIn true given) = refl
check_in s (AbortsIn false given) = refl
check_in s Clears = refl

check_clear : (s : State) (r : Running) → (aborts.checked_clear (record s { running = r })).behind ≡ []
check_clear s Nothing = refl
check_clear s AbortsOut = refl
check_clear s (AbortsIn wanting given) = refl
check_clear s Clears = refl

-- Bulk-OUT halts with the request
out_halts : (s t : State) → IsSound s → t.halted.bulk_out ≡ true → Ok s Answer t (halt_answers BulkOut s)
out_halts s t sound halted = all_end s t Answer BulkOut stalled s.bulk_out sound refl (inr refl) (λ h. inr halted) stalls

abort_out : (tag : ℕ) (s : State) (behind : List Pending) (served : Served) → IsSound s → aborts.AbortsBulkOut tag (record s { control = behind }) served → Ok s Answer served.state served.behind
abort_out tag s behind served sound (aborts.NotBegun layout declined is) = alone s served.state served _ is refl
abort_out tag s behind served sound (aborts.DoesAbort nothing runs is) =
    ok_put s served.state Answer served.behind (halt_answers BulkOut s) (ap (λ (v : Served). v.behind) is) (out_halts s served.state sound (ap (λ (v : Served). v.state.halted.bulk_out) is))

abort_in : (tag : ℕ) (s w t : State) (served : Served) → aborts.AbortsBulkIn tag w served → Ok s Answer t served.behind
abort_in tag s w t served (aborts.NotBegun layout declined is) = alone s t served _ is refl
abort_in tag s w t served (aborts.DoesAbort nothing runs is) = alone s t served _ is refl

-- a part-filled Bulk-IN submit
part_ends : (s t : State) (queue : List Pending) → IsSound s → s.bulk_in ≡ queue → Ok s Answer t (aborts.part_answer queue)
part_ends s t [] sound is = tt
part_ends s t (first ∷ rest) sound is = by first.moved (within BulkIn first (first_fits BulkIn s first rest sound is))
  where
    by : (moved : List ℕ) → length moved ≤ first.head.length → Ok s Answer t (aborts.part_answer (record first { moved = moved } ∷ rest))
    by [] short = tt
    by (byte ∷ bytes) short = succeeds s t Answer _ BulkIn first rest (byte ∷ bytes) is short (inl refl) (λ own. absurd (in_other own)) refl

clears : (s : State) (behind : List Pending) (served : Served) → IsSound s → aborts.ClearsAll (record s { control = behind }) served → Ok s Answer served.state served.behind
clears s behind served sound (aborts.DoesClear t logs is) =
    ok_put s served.state Answer served.behind (aborts.part_answer s.bulk_in ++ halt_answers BulkOut s) (ap (λ (v : Served). v.behind) is)
    (ok_append s served.state Answer (aborts.part_answer s.bulk_in) (halt_answers BulkOut s) (part_ends s served.state s.bulk_in sound refl)
    (out_halts s served.state sound (ap (λ (v : Served). v.state.halted.bulk_out) is ∙ ap (λ (x : State). x.halted.bulk_out) logs.is)))

reads_status : (tag : ℕ) (submit : Pending) (s w t : State) (served : Served) → status.ReadsStatus tag submit w served → Ok s Answer t served.behind
reads_status tag submit s w t served (status.BadTag bad is) = alone s t served _ is refl
reads_status tag submit s w t served (status.PolledBefore good before is) = alone s t served _ is refl
reads_status tag submit s w t served (status.Busy good fresh queued is) = alone s t served _ is refl
reads_status tag submit s w t served (status.PolledNow x good fresh free polls is) = alone s t served _ is refl

operates : (act : _) (s w t : State) (served : Served) → class.Operates act w served → Ok s Answer t served.behind
operates act s w t served (class.DoesOperate x logs is) = alone s t served _ is refl

serves : (request : ClassRequest) (submit : Pending) (behind : List Pending) (s : State) (served : Served) → IsSound s → class.Serves request submit (record s { control = behind }) served
    → Ok s Answer served.state served.behind
serves (AbortOut tag) submit behind s served sound h = abort_out tag s behind served sound h
serves CheckOut submit behind s served sound h = alone s served.state served _ h (check_out (record s { control = behind }) s.running)
serves (AbortIn tag) submit behind s served sound h = abort_in tag s _ served.state served h
serves CheckIn submit behind s served sound h = alone s served.state served _ h (check_in (record s { control = behind }) s.running)
serves Clear submit behind s served sound h = clears s behind served sound h
serves CheckClear submit behind s served sound h = alone s served.state served _ h (check_clear (record s { control = behind }) s.running)
serves Capabilities submit behind s served sound h = alone s served.state served _ h refl
serves Pulse submit behind s served sound h = alone s served.state served _ h refl
serves (ReadStatus tag) submit behind s served sound h = reads_status tag submit s _ served.state served h
serves (Ren true) submit behind s served sound h = operates _ s _ served.state served h
serves (Ren false) submit behind s served sound h = operates _ s _ served.state served h
serves GoLocal submit behind s served sound h = operates _ s _ served.state served h
serves Lockout submit behind s served sound h = operates _ s _ served.state served h

answers : (s t : State) (puts : List Put) → IsSound s → class.Answers s puts t → Ok s Answer t puts
answers s t puts sound (class.ByClass submit behind setup request served queue asks row serving put is) =
    ok_put s t Answer puts (control_answer submit setup served.layout ∷ served.behind) put (
      answered s t Answer submit behind setup served.layout queue (inl refl),
      subst (λ (x : State). Ok s Answer x served.behind) (sym is) (serves request submit behind s served sound serving),
    )
answers s t puts sound (class.ByStandard submit behind setup request queue asks row put is) =
    ok_put s t Answer puts _ put (answered s t Answer submit behind setup _ queue (inl refl), tt)
answers s t puts sound (class.Unknown submit behind setup queue asks unknown put is) =
    ok_put s t Answer puts _ put (ToPending Control [] submit behind stalled [] queue refl (omega arith) (inr refl) (λ h. inl refl) (λ own. absurd (control_other own)), tt)

postpones : (s t : State) (puts : List Put) → class.Postpones s puts t → Ok s Pend t puts
postpones s t puts (class.DoesPostpone submit behind setup request layout queue asks row stays put is) =
    ok_put s t Pend puts _ put (answered s t Pend submit behind setup layout queue refl, tt)

-- ---- the other moves

packet_long : (packet : Packet) → length (status.packet_bytes packet) ≡ 2
packet_long (StatusPacket tag byte) = refl
packet_long (ServicePacket byte) = refl

notifies : (s t : State) (puts : List Put) → IsSound s → status.Notifies s puts t → Ok s Notify t puts
notifies s t puts sound (status.Gives submit behind packet packets queue there long put is) =
    succeeds s t Notify puts InterruptIn submit behind (status.packet_bytes packet) queue (rw (packet_long packet) long) (inl refl) (λ own. packet_long packet) put
notifies s t puts sound (status.NoRoom submit behind packet packets queue there short put is) = all_halt s t Notify puts InterruptIn sound (inr refl) put is

halts_itself : (s t : State) (e : Endpoint) (puts : List Put) → IsSound s → HaltsItself s e puts t → Ok s (Halt e) t puts
halts_itself s t e puts sound (DoesHalt other usable put is) = all_halt s t (Halt e) puts e sound refl put is

unplugs : (s t : State) (puts : List Put) → IsSound s → Unplugs s puts t → Ok s Unplug t puts
unplugs s t puts sound h =
    ok_put s t Unplug puts _ h.answered
    (ok_append s t Unplug (all_ended unplugged s.control) _ (all_end s t Unplug Control unplugged s.control sound refl refl (λ e. absurd (gone_not_stalled e)) gone)
    (ok_append s t Unplug (all_ended unplugged s.bulk_out) _ (all_end s t Unplug BulkOut unplugged s.bulk_out sound refl refl (λ e. absurd (gone_not_stalled e)) gone)
    (ok_append s t Unplug (all_ended unplugged s.bulk_in) _ (all_end s t Unplug BulkIn unplugged s.bulk_in sound refl refl (λ e. absurd (gone_not_stalled e)) gone)
    (all_end s t Unplug InterruptIn unplugged s.interrupt_in sound refl refl (λ e. absurd (gone_not_stalled e)) gone))))

arrives : (s t : State) (head : SubmitHead) (transferred : List ℕ) (puts : List Put) → Arrives s head transferred puts t → Ok s (Comes (up.Submit head transferred)) t puts
arrives s t head transferred puts (Queued e taken put is) = ok_none s t _ puts put
arrives s t head transferred puts (TurnedAway none put is) = ok_put s t _ puts _ put (ToArriving head transferred refl refl, tt)

none_polled : (before : List Pending) (submit : Pending) (behind : List Pending) → NonePolled (before ++ submit ∷ behind) → submit.polled ≡ true → ⊥
none_polled [] submit behind h polled = clash (sym h.0 ∙ polled)
  where
    clash : false ≡ true → ⊥
    clash e = cc
none_polled (x ∷ before) submit behind h polled = none_polled before submit behind h.1 polled

-- a submit that was polled is one of the control endpoint
polled_control : (e : Endpoint) (before : List Pending) (submit : Pending) (behind : List Pending) → FirstPolled e (before ++ submit ∷ behind) → submit.polled ≡ true → e ≡ Control
polled_control Control before submit behind h polled = refl
polled_control BulkOut [] submit behind h polled = absurd (none_polled [] submit behind h polled)
polled_control BulkIn [] submit behind h polled = absurd (none_polled [] submit behind h polled)
polled_control InterruptIn [] submit behind h polled = absurd (none_polled [] submit behind h polled)
polled_control BulkOut (x ∷ before) submit behind h polled = absurd (none_polled before submit behind h.1 polled)
polled_control BulkIn (x ∷ before) submit behind h polled = absurd (none_polled before submit behind h.1 polled)
polled_control InterruptIn (x ∷ before) submit behind h polled = absurd (none_polled before submit behind h.1 polled)

unlinks : (s t : State) (head : UnlinkHead) (puts : List Put) → IsSound s → Unlinks s head puts t → Ok s (Comes (up.Unlink head)) t puts
unlinks s t head puts sound (Hits e before submit behind queue target fresh put is) = ok_put s t _ puts _ put (ToUnlink head unlinked refl refl (inr refl), tt)
unlinks s t head puts sound (Polled e before submit behind setup tag queue target polled asks row put is) =
    ok_put s t _ puts _ put (
      ToPending e before submit behind success (sent_back submit.head.dir (min setup.length submit.head.length) _) queue refl
          (sent_within submit.head.dir (min setup.length submit.head.length) submit.head.length _ (omega arith)) refl (λ h. absurd (not_stalled h))
          (λ own. absurd (control_other (sym (polled_control e before submit behind (subst (λ (q : List Pending). FirstPolled e q) queue (sound.polled e)) polled) ∙ own))),
      (ToUnlink head success refl refl (inl refl), tt),
    )
unlinks s t head puts sound (Misses avoids put is) = ok_put s t _ puts _ put (ToUnlink head success refl refl (inl refl), tt)

pub answers_to : (s t : State) (move : Move) (puts : List Put) → IsSound s → Leads s move puts t → Ok s move t puts
answers_to s t (Comes (up.Submit head transferred)) puts sound h = arrives s t head transferred puts h.3
answers_to s t (Comes (up.Unlink head)) puts sound h = unlinks s t head puts sound h.1
answers_to s t (Refuses devid bytes f) puts sound h = ok_none s t _ puts h.1
answers_to s t (Take count) puts sound h = takes s t count puts sound h.1
answers_to s t Exec puts sound h = ok_none s t _ puts h.1
answers_to s t (Begin count) puts sound h = ok_none s t _ puts h.1
answers_to s t (Fill count) puts sound h = fills s t count puts sound h
answers_to s t Answer puts sound h = answers s t puts sound h
answers_to s t Pend puts sound h = postpones s t puts h
answers_to s t Poll puts sound h = ok_none s t _ puts h.1
answers_to s t Notify puts sound h = notifies s t puts sound h
answers_to s t (Halt e) puts sound h = halts_itself s t e puts sound h
answers_to s t Unplug puts sound h = unplugs s t puts sound h

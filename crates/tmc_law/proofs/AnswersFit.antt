-- each answer fits what it answers, and can be written
use Rattle.std.proofs.Common.{◌≡◌, ◌∙◌, ◌⊎◌, inl, inr, ℕ, ℤ, ◌<◌, ◌≤◌, ◌^◌, List, [], ◌∷◌, ◌++◌, length, refl, ap, sym, subst, arith}
use Rattle.usbip_wire.specs.declared.submit.SubmitHead.{SubmitHead}
use Rattle.usbip_wire.specs.declared.unlink.UnlinkHead.{UnlinkHead}
use Rattle.usbip_wire.specs.declared.urb.Dir.{Dir}
use Rattle.usbip_wire.specs.declared.urb.Dir.TheVariants.{Out, In}
use Rattle.usbip_wire.specs.RetSubmit.{Returns}
use Rattle.usbip_wire.specs.Up as up
use Rattle.tmc_law.specs.Endpoint.{Endpoint, Control, BulkOut, BulkIn, InterruptIn, number_of}
use Rattle.tmc_law.specs.State.{State, Pending, queue_of, start}
use Rattle.tmc_law.specs.Put.{Put, answer_of, unlink_answer, returned, success, stalled, unlinked}
use Rattle.tmc_law.specs.Step.{Move, Comes, Refuses, Take, Exec, Begin, Fill, Answer, Pend, Poll, Notify, Halt, Unplug, Leads, Steps}
use Rattle.tmc_law.specs.Run.{Entry, Runs, SpellsPut}
use Rattle.tmc_law.specs.AnswerFits.{AllAnswers, StatusBy, IsAnswer, ToPending, ToArriving, ToUnlink, FitsAsked, HasPacket, written}
use Rattle.tmc_law.specs.Acts.{FitsAt}
use Rattle.tmc_law.specs.Reached.{AllFit}
use Rattle.tmc_law.proofs.Queued.{IsSound}
use Rattle.tmc_law.proofs.Sound.{sound}
use Rattle.tmc_law.proofs.AnswerBytes.{each_wide, IsStatus, success_is, stalled_is, unlinked_is, unplugged_is, submit_spelled, unlink_spelled}
use Rattle.tmc_law.proofs.AnsweredTo.{answers_to, fits_in}

either : (status : ℤ) → (status ≡ success) ⊎ (status ≡ stalled) → IsStatus status
either status (inl is) = subst (λ (x : ℤ). IsStatus x) (sym is) success_is
either status (inr is) = subst (λ (x : ℤ). IsStatus x) (sym is) stalled_is

status_of : (move : Move) (status : ℤ) → StatusBy move status → IsStatus status
status_of (Comes (up.Submit head transferred)) status h = subst (λ (x : ℤ). IsStatus x) (sym h) stalled_is
status_of (Comes (up.Unlink head)) status h = subst (λ (x : ℤ). IsStatus x) (sym h) success_is
status_of (Refuses devid bytes f) status h = absurd h
status_of (Take count) status h = either status h
status_of Exec status h = absurd h
status_of (Begin count) status h = absurd h
status_of (Fill count) status h = either status h
status_of Answer status h = either status h
status_of Pend status h = subst (λ (x : ℤ). IsStatus x) (sym h) success_is
status_of Poll status h = absurd h
status_of Notify status h = either status h
status_of (Halt e) status h = subst (λ (x : ℤ). IsStatus x) (sym h) stalled_is
status_of Unplug status h = subst (λ (x : ℤ). IsStatus x) (sym h) unplugged_is

unlink_status : (status : ℤ) → (status ≡ success) ⊎ (status ≡ unlinked) → IsStatus status
unlink_status status (inl is) = subst (λ (x : ℤ). IsStatus x) (sym is) success_is
unlink_status status (inr is) = subst (λ (x : ℤ). IsStatus x) (sym is) unlinked_is

returns : (dir : Dir) (moved : List ℕ) → Returns dir (length moved) (returned dir moved)
returns Out moved = refl
returns In moved = refl

-- an answer to a submit whose numbers are of 32 bits
pub record Fine (put : Put) : Type 0 where
  pub fits : FitsAsked put
  pub spelled : SpellsPut put (written put)

answer_fine : (head : SubmitHead) (status : ℤ) (moved : List ℕ) → IsStatus status → head.seqnum < 2 ^ 32 → head.length < 2 ^ 32 → length moved ≤ head.length → Fine (answer_of head status moved)
answer_fine head status moved is wide sized short = record {
  fits = record { number = refl; within = short; returned = returns head.dir moved; wide = each_wide (head.seqnum ∷ length moved ∷ []) (wide, (omega arith, tt)); status = is.fits };
  spelled = submit_spelled head status moved is wide sized short;
}

-- what arrives has numbers of 32 bits
arriving : (s t : State) (move : Move) (puts : List Put) (head : SubmitHead) (transferred : List ℕ) → move ≡ Comes (up.Submit head transferred) → Leads s move puts t → (head.seqnum < 2 ^ 32) × (head.length < 2 ^ 32)
arriving s t move puts head transferred is h = by (subst (λ (m : Move). Leads s m puts t) is h)
  where
    by : Leads s (Comes (up.Submit head transferred)) puts t → (head.seqnum < 2 ^ 32) × (head.length < 2 ^ 32)
    by h = (h.0.wide 0, h.0.wide 3)

unlinking : (s t : State) (move : Move) (puts : List Put) (head : UnlinkHead) → move ≡ Comes (up.Unlink head) → Leads s move puts t → head.seqnum < 2 ^ 32
unlinking s t move puts head is h = by (subst (λ (m : Move). Leads s m puts t) is h)
  where
    by : Leads s (Comes (up.Unlink head)) puts t → head.seqnum < 2 ^ 32
    by h = h.0 0

stands : (s : State) (e : Endpoint) (before : List Pending) (submit : Pending) (behind : List Pending) → IsSound s → queue_of e s ≡ before ++ submit ∷ behind → FitsAt e submit
stands s e before submit behind whole queue = fits_in e before submit behind (subst (λ (q : List Pending). AllFit e q) queue (whole.fits e))

fine : (s t : State) (move : Move) (puts : List Put) (put : Put) → IsSound s → Leads s move puts t → IsAnswer s move t put → Fine put
fine s t move puts put whole h (ToPending e before submit behind status moved holds is short by halted packet) =
    let fits = stands s e before submit behind whole holds in
    subst (λ (p : Put). Fine p) (sym is) (answer_fine submit.head status moved (status_of move status by) (fits.came.wide 0) (fits.came.wide 3) short)
fine s t move puts put whole h (ToArriving head transferred comes is) =
    let wide = arriving s t move puts head transferred comes h in
    subst (λ (p : Put). Fine p) (sym is) (answer_fine head stalled [] stalled_is wide.0 wide.1 (omega arith))
fine s t move puts put whole h (ToUnlink head status comes is by) =
    subst (λ (p : Put). Fine p) (sym is) (unlink_fine (unlinking s t move puts head comes h))
  where
    unlink_fine : head.seqnum < 2 ^ 32 → Fine (unlink_answer head status)
    unlink_fine wide = record {
      fits = record { number = refl; wide = each_wide (head.seqnum ∷ []) (wide, tt); status = (unlink_status status by).fits };
      spelled = unlink_spelled (record { seqnum = head.seqnum; status = status }) (unlink_status status by) wide;
    }

-- ---- packets

interrupt_number : (e : Endpoint) → number_of e ≡ number_of InterruptIn → e ≡ InterruptIn
interrupt_number Control h = absurd (omega (arith, h))
interrupt_number BulkOut h = absurd (omega (arith, h))
interrupt_number BulkIn h = absurd (omega (arith, h))
interrupt_number InterruptIn h = refl

packet : (s t : State) (move : Move) (put : Put) → IsSound s → IsAnswer s move t put → HasPacket put
packet s t move put whole (ToPending e before submit behind status moved holds is short by halted long) =
    subst (λ (p : Put). HasPacket p) (sym is) (λ number good. here number good)
  where
    here : submit.head.ep ≡ number_of InterruptIn → status ≡ success → (length moved ≡ 2) × (length (returned submit.head.dir moved) ≡ 2)
    here number good =
        let fits = stands s e before submit behind whole holds in
        let own = interrupt_number e (sym fits.number ∙ number) in
        let way : submit.head.dir ≡ In = (subst (λ (x : Endpoint). FitsAt x submit) own fits).way in
        (long own good, ap (λ (d : Dir). length (returned d moved)) way ∙ long own good)
packet s t move put whole (ToArriving head transferred comes is) = subst (λ (p : Put). HasPacket p) (sym is) (λ number good. absurd (stalls good))
  where
    stalls : stalled ≡ success → ⊥
    stalls e = cc
packet s t move put whole (ToUnlink head status comes is by) = subst (λ (p : Put). HasPacket p) (sym is) tt

-- ---- all answers of a step

all_are : (P Q : Put → Type 0) (puts : List Put) → ((put : Put) → P put → Q put) → AllAnswers P puts → AllAnswers Q puts
all_are P Q [] f h = tt
all_are P Q (put ∷ puts) f h = (f put h.0, all_are P Q puts f h.1)

pub are_answers : (run : List Entry) (s t : State) (move : Move) (puts : List Put) → Runs start run s → Steps s move puts t → AllAnswers (IsAnswer s move t) puts
are_answers run s t move puts goes step = answers_to s t move puts (sound run s goes) step.leads

pub all_fit : (run : List Entry) (s t : State) (move : Move) (puts : List Put) → Runs start run s → Steps s move puts t → AllAnswers FitsAsked puts
all_fit run s t move puts goes step =
    all_are (IsAnswer s move t) FitsAsked puts (λ put h. (fine s t move puts put (sound run s goes) step.leads h).fits) (are_answers run s t move puts goes step)

pub all_spelled : (run : List Entry) (s t : State) (move : Move) (puts : List Put) → Runs start run s → Steps s move puts t → AllAnswers (λ put. SpellsPut put (written put)) puts
all_spelled run s t move puts goes step =
    all_are (IsAnswer s move t) (λ put. SpellsPut put (written put)) puts (λ put h. (fine s t move puts put (sound run s goes) step.leads h).spelled) (are_answers run s t move puts goes step)

pub all_packets : (run : List Entry) (s t : State) (move : Move) (puts : List Put) → Runs start run s → Steps s move puts t → AllAnswers HasPacket puts
all_packets run s t move puts goes step =
    all_are (IsAnswer s move t) HasPacket puts (λ put h. packet s t move put (sound run s goes) h) (are_answers run s t move puts goes step)

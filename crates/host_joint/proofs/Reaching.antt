-- what a device reached with submits to Interrupt-IN, it can have reached with each of them answered as soon as it came
use Rattle.std.proofs.Common.{◌≡◌, ◌≢◌, ◌∙◌, ◌⊎◌, inl, inr, ℕ, ◌<◌, ◌≤◌, Bool, true, false, List, [], ◌∷◌, ◌++◌, length, refl, ap, sym, subst, append_assoc, append-nil, length-append, arith}
use Rattle.usbip_wire.specs.declared.submit.SubmitHead.{SubmitHead}
use Rattle.usbip_wire.specs.Up as up
use Rattle.tmc_wire.specs.declared.class_request.ClassRequest.{ClassRequest}
use Rattle.tmc_wire.specs.declared.class_request.ClassRequest.TheVariants.{AbortOut, CheckOut, AbortIn, CheckIn, Clear, CheckClear, Capabilities, Pulse, ReadStatus, Ren, GoLocal, Lockout}
use Rattle.tmc_wire.specs.ControlTable.{IsRow}
use Rattle.instr_plain.specs.declared.log.LogEntry.TheVariants as entry
use Rattle.tmc_law.specs.Logging.{Logs}
use Rattle.tmc_law.specs.Endpoint.{InterruptIn, ends}
use Rattle.tmc_law.specs.State.{State, Pending, Packet, Presence, Plugged, start, arrived, pending, Avoids}
use Rattle.tmc_law.specs.Put.{Put, ended, success}
use Rattle.tmc_law.specs.Queues.{Arrives, Queued, TurnedAway, pending_most}
use Rattle.tmc_law.specs.Aborts.{Served}
use Rattle.tmc_law.specs.Status as status
use Rattle.tmc_law.specs.Status.{Polls, DoesPoll}
use Rattle.tmc_law.specs.Class as class
use Rattle.tmc_law.specs.Control.{control_answer}
use Rattle.tmc_law.specs.Halts.{unplug_answers, halt_answers}
use Rattle.tmc_law.specs.Acts.{FitsAt}
use Rattle.tmc_law.specs.Reached.{AllFit, AreDistinct}
use Rattle.tmc_law.specs.Step.{Move, Comes, Refuses, Take, Exec, Begin, Fill, Answer, Pend, Poll, Notify, Halt, Unplug, Leads, Steps}
use Rattle.tmc_law.specs.Run.{Entry, Runs}
use Rattle.host_joint.specs.Beside.{answers_beside, device_beside, unclosed}
use Rattle.host_joint.proofs.Queues.{IsSound}
use Rattle.host_joint.proofs.Running.{AskLaws, sound}
use Rattle.host_joint.proofs.Aside.{Left, Leaves, Goes, HitsOthers, take_left, exec_left, begin_left, fill_left, class_left, standard_left, unknown_left, pend_left, halt_left, submit_left, unlink_left, logs_beside, logged}

-- what this asks of the laws
pub record ReachLaws : Type 0 where
  pub ask : AskLaws
  pub distinct : (run : List Entry) (s : State) → Runs start run s → AreDistinct (pending s)
  pub few : (run : List Entry) (s : State) → Runs start run s → length (pending s) ≤ pending_most

-- the device without its Interrupt-IN submits, and with its packets
abbrev pub bare : State → State
bare s = device_beside s.packets s

-- steps lead from the one to the other
abbrev pub BareLeads : State → State → Type 0
BareLeads s t = (run : List Entry) × Runs (bare s) run (bare t)

one_step : (s t : State) (move : Move) (puts : List Put) → Steps (bare s) move puts (bare t) → BareLeads s t
one_step s t move puts step = (record { move = move; puts = puts } ∷ [], (bare t, step, refl))

no_step : (s t : State) → bare t ≡ bare s → BareLeads s t
no_step s t same = ([], same)

from_left : (s t : State) (move : Move) (puts : List Put) → move ≢ Notify → Left s.packets s move puts t → BareLeads s t
from_left s t move puts other (Leaves none own same streams (inl still)) = no_step s t (ap (λ (l : List Packet). device_beside l t) still ∙ same)
from_left s t move puts other (Leaves none own same streams (inr is)) = absurd (other is)
from_left s t move puts other (Goes later none step streams tracks) = one_step s t move (answers_beside puts) (subst (λ (l : List Packet). Steps (bare s) move (answers_beside puts) (device_beside l t)) (tracks refl) step)

-- ---- the status byte

polls_bare : (seq tag : ℕ) (s t : State) → Polls seq tag s t → Polls seq tag (bare s) (bare t)
polls_bare seq tag s t (DoesPoll mid logs is) =
    DoesPoll (bare mid) (subst (λ (l : List Packet). Logs (entry.Poll seq) (bare s) (device_beside l mid)) ((logged _ s.packets s mid logs).tracks refl) (logs_beside _ s.packets s mid logs))
    (ap (λ (x : State). bare x) is)

abbrev bare_served : Served → Served
bare_served served = record { layout = served.layout; behind = served.behind; state = bare served.state }

reads_bare : (tag : ℕ) (submit : Pending) (s : State) (served : Served) → status.ReadsStatus tag submit s served → status.ReadsStatus tag submit (bare s) (bare_served served)
reads_bare tag submit s served (status.BadTag bad is) = status.BadTag bad (ap bare_served is)
reads_bare tag submit s served (status.PolledBefore good polled is) = status.PolledBefore good polled (ap bare_served is)
reads_bare tag submit s served (status.Busy good fresh queued is) = status.Busy good fresh queued (ap bare_served is)
reads_bare tag submit s served (status.PolledNow t good fresh free polls is) = status.PolledNow (bare t) good fresh free (polls_bare submit.head.seqnum tag s t polls) (ap bare_served is)

reads_status : (request : ClassRequest) → ((tag : ℕ) × (request ≡ ReadStatus tag)) ⊎ ((tag : ℕ) → request ≡ ReadStatus tag → ⊥)
reads_status (ReadStatus tag) = inl (tag, refl)
reads_status (AbortOut tag) = inr (λ n e. cc)
reads_status CheckOut = inr (λ n e. cc)
reads_status (AbortIn tag) = inr (λ n e. cc)
reads_status CheckIn = inr (λ n e. cc)
reads_status Clear = inr (λ n e. cc)
reads_status CheckClear = inr (λ n e. cc)
reads_status Capabilities = inr (λ n e. cc)
reads_status Pulse = inr (λ n e. cc)
reads_status (Ren on) = inr (λ n e. cc)
reads_status GoLocal = inr (λ n e. cc)
reads_status Lockout = inr (λ n e. cc)

answers_bare : (s t : State) (puts : List Put) → s.presence ≡ Plugged → IsSound s → class.Answers s puts t → BareLeads s t
answers_bare s t puts plugged is_sound (class.ByStandard submit behind setup request line asks row put is) = from_left s t Answer puts (λ e. cc) (standard_left s.packets s t puts plugged is_sound submit behind setup request line asks row put is)
answers_bare s t puts plugged is_sound (class.Unknown submit behind setup line asks unknown put is) = from_left s t Answer puts (λ e. cc) (unknown_left s.packets s t puts plugged is_sound submit behind setup line asks unknown put is)
answers_bare s t puts plugged is_sound (class.ByClass submit behind setup request served line asks row serves put is) = by (reads_status request)
  where
    by : ((tag : ℕ) × (request ≡ ReadStatus tag)) ⊎ ((tag : ℕ) → request ≡ ReadStatus tag → ⊥) → BareLeads s t
    by (inr other) = from_left s t Answer puts (λ e. cc) (class_left s.packets s t puts plugged is_sound submit behind setup request served other line asks row serves put is)
    by (inl reads) =
        let its = subst (λ (r : ClassRequest). class.Serves r submit (record s { control = behind }) served) reads.1 serves in
        let its_row = subst (λ (r : ClassRequest). IsRow ends r setup) reads.1 row in
        one_step s t Answer (control_answer submit setup served.layout ∷ served.behind)
        (record { plugged = ap unclosed plugged; leads = class.ByClass submit behind setup (ReadStatus reads.0) (bare_served served) line asks its_row (reads_bare reads.0 submit _ served its) refl (ap (λ (x : State). bare x) is) })

first_polls_bare : (s t : State) → s.presence ≡ Plugged → class.PollsFirst s t → BareLeads s t
first_polls_bare s t plugged (class.DoesPollFirst submit behind setup tag line asks row good fresh free polls) =
    one_step s t Poll [] (record { plugged = ap unclosed plugged; leads = (class.DoesPollFirst submit behind setup tag line asks row good fresh free (polls_bare submit.head.seqnum tag _ t polls), refl) })

-- ---- a packet leaves

avoids_middle : (n : ℕ) (a : List Pending) (x : Pending) (b : List Pending) → Avoids n (a ++ x ∷ b) → x.head.seqnum ≢ n
avoids_middle n [] x b free = free.0
avoids_middle n (y ∷ a) x b free = avoids_middle n a x b free.1

distinct_apart : (a : List Pending) (x : Pending) (b : List Pending) → AreDistinct (a ++ x ∷ b) → Avoids x.head.seqnum a
distinct_apart [] x b h = tt
distinct_apart (y ∷ a) x b h = ((λ e. avoids_middle y.head.seqnum a x b h.0 (sym e)), distinct_apart a x b h.1)

-- a submit that is pending at Interrupt-IN could come where none is
abbrev waits_alone : SubmitHead → List ℕ → State → State
waits_alone head transferred s = record (bare s) { interrupt_in = arrived head transferred ∷ [] }

could_come : (laws : ReachLaws) (run : List Entry) (s : State) (submit : Pending) (behind : List Pending) → Runs start run s → s.presence ≡ Plugged → s.interrupt_in ≡ submit ∷ behind → (fit : FitsAt InterruptIn submit)
    → Steps (bare s) (Comes (up.Submit submit.head fit.transferred)) [] (waits_alone submit.head fit.transferred s)
could_come laws run s submit behind reached plugged line fit = record {
  plugged = ap unclosed plugged;
  leads = (fit.came, free, few, Queued InterruptIn (record { number = fit.number; way = fit.way; usable = usable s.halted.interrupt_in refl }) refl refl);
}
  where
    front : List Pending
    front = s.control ++ (s.bulk_out ++ s.bulk_in)

    together : (a b c d : List Pending) → a ++ (b ++ (c ++ d)) ≡ (a ++ (b ++ c)) ++ d
    together a b c d = ap (λ (l : List Pending). a ++ l) (sym (append_assoc b c d)) ∙ sym (append_assoc a (b ++ c) d)

    all : pending s ≡ front ++ submit ∷ behind
    all = together s.control s.bulk_out s.bulk_in s.interrupt_in ∙ ap (λ (l : List Pending). front ++ l) line

    left : pending (bare s) ≡ front
    left = together s.control s.bulk_out s.bulk_in [] ∙ append-nil front

    free : Avoids submit.head.seqnum (pending (bare s))
    free = subst (λ (l : List Pending). Avoids submit.head.seqnum l) (sym left) (distinct_apart front submit behind (subst (λ (l : List Pending). AreDistinct l) all (laws.distinct run s reached)))

    few : length (pending (bare s)) < pending_most
    few = omega (arith, ap (λ (l : List Pending). length l) left, ap (λ (l : List Pending). length l) all, length-append front (submit ∷ behind), laws.few run s reached)

    usable : (b : Bool) → s.halted.interrupt_in ≡ b → b ≡ false
    usable false is = refl
    usable true is = let e : [] ≡ submit ∷ behind = sym (laws.ask.reaches.empty run s reached InterruptIn is) ∙ line in absurd (cc)

notifies_bare : (laws : ReachLaws) (run : List Entry) (s t : State) (puts : List Put) → Runs start run s → s.presence ≡ Plugged → IsSound s → status.Notifies s puts t → BareLeads s t
notifies_bare laws run s t puts reached plugged is_sound (status.Gives submit behind packet packets line there long put is) =
    let fit : FitsAt InterruptIn submit = (subst (λ (q : List Pending). AllFit InterruptIn q) line (is_sound.fits InterruptIn)).0 in (
      record { move = Comes (up.Submit submit.head fit.transferred); puts = [] } ∷ record { move = Notify; puts = ended success (status.notified packet (arrived submit.head fit.transferred)) ∷ [] } ∷ [],
      (
        waits_alone submit.head fit.transferred s,
        could_come laws run s submit behind reached plugged line fit,
        (
          bare t,
          record { plugged = ap unclosed plugged; leads = status.Gives (arrived submit.head fit.transferred) [] packet packets refl there long refl (ap (λ (x : State). bare x) is) },
          refl,
        ),
      ),
    )
notifies_bare laws run s t puts reached plugged is_sound (status.NoRoom submit behind packet packets line there short put is) =
    let fit : FitsAt InterruptIn submit = (subst (λ (q : List Pending). AllFit InterruptIn q) line (is_sound.fits InterruptIn)).0 in (
      record { move = Comes (up.Submit submit.head fit.transferred); puts = [] } ∷ record { move = Notify; puts = halt_answers InterruptIn (waits_alone submit.head fit.transferred s) } ∷ [],
      (
        waits_alone submit.head fit.transferred s,
        could_come laws run s submit behind reached plugged line fit,
        (
          bare t,
          record { plugged = ap unclosed plugged; leads = status.NoRoom (arrived submit.head fit.transferred) [] packet packets refl there short refl (ap (λ (x : State). bare x) is) },
          refl,
        ),
      ),
    )

-- ---- each step

submits_bare : (s t : State) (head : SubmitHead) (transferred : List ℕ) (puts : List Put) → s.presence ≡ Plugged → Leads s (Comes (up.Submit head transferred)) puts t → BareLeads s t
submits_bare s t head transferred puts plugged leads = by leads.3
  where
    by : Arrives s head transferred puts t → BareLeads s t
    by (TurnedAway none put is) = no_step s t (ap (λ (x : State). bare x) is)
    by (Queued e h put is) =
        from_left s t (Comes (up.Submit head transferred)) puts (λ e. cc) (submit_left s.packets s t head transferred puts plugged (record { endpoint = e; number = h.number; way = h.way }) leads)

step_bare : (laws : ReachLaws) (run : List Entry) (s t : State) (move : Move) (puts : List Put) → Runs start run s → s.presence ≡ Plugged → IsSound s → Leads s move puts t → BareLeads s t
step_bare laws run s t (Comes (up.Submit head transferred)) puts reached here is_sound leads = submits_bare s t head transferred puts here leads
step_bare laws run s t (Comes (up.Unlink head)) puts reached here is_sound leads = by (unlink_left s.packets s t head puts here is_sound leads)
  where
    by : Left s.packets s (Comes (up.Unlink head)) puts t ⊎ ((HitsOthers head.target s → ⊥) × (device_beside s.packets t ≡ device_beside s.packets s) × (t.packets ≡ s.packets)) → BareLeads s t
    by (inl left) = from_left s t (Comes (up.Unlink head)) puts (λ e. cc) left
    by (inr (hit, same, still)) = no_step s t (ap (λ (l : List Packet). device_beside l t) still ∙ same)
step_bare laws run s t (Refuses devid bytes f) puts reached here is_sound (refused, put, is) =
    no_step s t (ap (λ (x : State). bare x) is ∙ ap (λ (x : Presence). record s { interrupt_in = []; presence = unclosed x }) (sym here))
step_bare laws run s t (Take count) puts reached here is_sound leads = from_left s t (Take count) puts (λ e. cc) (take_left s.packets s t count puts here is_sound leads)
step_bare laws run s t Exec puts reached here is_sound leads = from_left s t Exec puts (λ e. cc) (exec_left s.packets s t puts here leads)
step_bare laws run s t (Begin count) puts reached here is_sound leads = from_left s t (Begin count) puts (λ e. cc) (begin_left s.packets s t count puts here leads)
step_bare laws run s t (Fill count) puts reached here is_sound leads = from_left s t (Fill count) puts (λ e. cc) (fill_left s.packets s t count puts here is_sound leads)
step_bare laws run s t Answer puts reached here is_sound leads = answers_bare s t puts here is_sound leads
step_bare laws run s t Pend puts reached here is_sound leads = from_left s t Pend puts (λ e. cc) (pend_left s.packets s t puts here is_sound leads)
step_bare laws run s t Poll puts reached here is_sound leads = first_polls_bare s t here leads.0
step_bare laws run s t Notify puts reached here is_sound leads = notifies_bare laws run s t puts reached here is_sound leads
step_bare laws run s t (Halt e) puts reached here is_sound leads = from_left s t (Halt e) puts (λ k. cc) (halt_left s.packets s t e puts here is_sound leads)
step_bare laws run s t Unplug puts reached here is_sound leads =
    one_step s t Unplug (unplug_answers (bare s)) (record { plugged = ap unclosed here; leads = record { answered = refl; is = ap (λ (x : State). bare x) leads.is } })

-- ---- each run

run_bare : (laws : ReachLaws) (before run : List Entry) (s t : State) → Runs start before s → Runs s run t → BareLeads s t
run_bare laws before [] s t reached goes = no_step s t (ap (λ (x : State). bare x) goes)
run_bare laws before (this ∷ run) s t reached goes =
    let first = step_bare laws before s goes.0 this.move this.puts reached goes.1.plugged (sound laws.ask before s reached) goes.1.leads in
    let rest = run_bare laws (before ++ this ∷ []) run goes.0 t (laws.ask.reaches.joins before (this ∷ []) start s goes.0 reached (goes.0, goes.1, refl)) goes.2 in
    (first.0 ++ rest.0, laws.ask.reaches.joins first.0 rest.0 (bare s) (bare goes.0) (bare t) first.1 rest.1)

-- the device without its Interrupt-IN submits came there from power-on
pub reached_bare : (laws : ReachLaws) (run : List Entry) (s : State) → Runs start run s → (other : List Entry) × Runs start other (bare s)
reached_bare laws run s reached = run_bare laws [] run start s refl reached

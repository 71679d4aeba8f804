-- a ticket of one submit is held under each run, until the device is unplugged
use Rattle.std.proofs.Common.{◌≡◌, Some, None, inl, inr, ℕ, Option, List, [], ◌∷◌, ◌++◌, sym, subst}
use Rattle.usbip_wire.specs.declared.submit.SubmitHead.{SubmitHead}
use Rattle.usbip_wire.specs.declared.unlink.UnlinkHead.{UnlinkHead}
use Rattle.usbip_wire.specs.Up as up
use Rattle.tmc_law.specs.State.{State}
use Rattle.tmc_law.specs.Put.{Put}
use Rattle.tmc_law.specs.Halts.{unplug_answers}
use Rattle.tmc_law.specs.Laws.{message_of}
use Rattle.tmc_law.specs.Run.{Entry, Runs, inputs, outputs, SpellsPut}
use Rattle.usbip_wire.specs.Down.{SpellsAnswer}
use Rattle.host_joint.specs.Joint.{entries_of, IsApart}
use Rattle.host_joint.proofs.Joining.{Never, rising_asked, apart_asked, few_total, first_of_bond}
use Rattle.host_joint.proofs.UntilJoined.{NeverOver, Spelled, told_spelled}
use Rattle.host_joint.specs.Lines.{Lines, AllFitting}
use Rattle.host_joint.specs.Asking.{StaysPlugged}
use Rattle.host_joint.specs.Tie.{asked_of}
use Rattle.host_joint.specs.Unplugged.{Until}
use Rattle.host_joint.specs.Races.{Ticket, Acts, ActRaces, ActIsLate, Triggers, TriggerRaces, TriggerIsLate, TicketHolds, waits_of, unlinks_of, NextHeld, HeldPlugged, HeldBefore, HeldBehind}
use Rattle.host_joint.proofs.Tying.{TieLaws}
use Rattle.host_joint.proofs.Requesting.{Meaning}
use Rattle.host_joint.proofs.Until.{tells}
use Rattle.host_joint.proofs.Operating.{act_run}
use Rattle.host_joint.proofs.TriggerTied.{trigger_run}
use Rattle.host_joint.proofs.Racing.{race_run, late_run}
use Rattle.host_joint.proofs.ActRacing.{act_race, act_late}
use Rattle.host_joint.proofs.TriggerRacing.{trigger_race, trigger_late}

pub ticket_run : (laws : TieLaws) (meaning : Meaning) (ticket : Ticket) (run : List Entry) (next : ℕ) (ups : List up.Message) (downs : List Put) (s t : State) → Runs s run t → StaysPlugged run
    → TicketHolds ticket next (inputs run ++ ups) downs s → TicketHolds ticket next ups (downs ++ outputs run) t
ticket_run laws meaning (Acts act since head) run next ups downs s t goes plugged o = act_run laws meaning act since head run next ups downs s t goes plugged o
ticket_run laws meaning (ActRaces act since head unlink) run next ups downs s t goes plugged o =
    record { asks = o.asks; names = o.names; bond = race_run laws (act_race laws meaning act since head o.asks) unlink o.names run next ups downs s t goes plugged o.bond }
ticket_run laws meaning (ActIsLate act since unlink) run next ups downs s t goes plugged bond = late_run laws _ (act_late laws act since) unlink run next ups downs s t goes plugged bond
ticket_run laws meaning (Triggers job) run next ups downs s t goes plugged o = trigger_run laws job run next ups downs s t goes plugged o
ticket_run laws meaning (TriggerRaces job unlink) run next ups downs s t goes plugged o =
    record { trigger = o.trigger; names = o.names; bond = race_run laws (trigger_race laws job o.trigger) unlink o.names run next ups downs s t goes plugged o.bond }
ticket_run laws meaning (TriggerIsLate counted n unlink) run next ups downs s t goes plugged bond = late_run laws _ (trigger_late laws counted n) unlink run next ups downs s t goes plugged bond

pub ticket_lines : (ticket : Ticket) (next : ℕ) (ups : List up.Message) (downs : List Put) (s : State) → TicketHolds ticket next ups downs s → Lines (asked_of (waits_of ticket)) (unlinks_of ticket) ups downs s
ticket_lines (Acts act since head) next ups downs s o = o.bond.lines
ticket_lines (ActRaces act since head unlink) next ups downs s o = o.bond.lines
ticket_lines (ActIsLate act since unlink) next ups downs s bond = bond.lines
ticket_lines (Triggers job) next ups downs s o = o.bond.lines
ticket_lines (TriggerRaces job unlink) next ups downs s o = o.bond.lines
ticket_lines (TriggerIsLate counted n unlink) next ups downs s bond = bond.lines

pub next_held : (Ties : List up.Message → List Put → State → Type 0) (waits : Option SubmitHead) (unlinks : List UnlinkHead) → ((ups : List up.Message) (downs : List Put) (s : State) → Ties ups downs s → Lines (asked_of waits) unlinks ups downs s)
    → (put : Put) (ups : List up.Message) (downs : List Put) (t : State) → Until Ties ups (put ∷ downs) t → NextHeld Ties waits put ups downs t
next_held Ties waits unlinks lines put ups downs t (inl tie) = HeldPlugged tie
next_held Ties waits unlinks lines put ups downs t (inr held) = by held.front held.tie held.behind
  where
    first : (p : Put) (front rest : List Put) → put ∷ downs ≡ p ∷ (front ++ rest) → (p ≡ put) × (downs ≡ front ++ rest)
    first p front rest h = (cc, cc)

    by : (front : List Put) → Ties ups front held.before → put ∷ downs ≡ front ++ unplug_answers held.before → NextHeld Ties waits put ups downs t
    by [] tie is = HeldBehind held.before tie held.unplugs (tells waits unlinks put ups downs held.before (lines ups [] held.before tie) (sym is))
    by (p ∷ front) tie is =
        let same = first p front (unplug_answers held.before) is in
        HeldBefore held.before front (subst (λ (x : Put). Ties ups (x ∷ front) held.before) same.0 tie) held.unplugs same.1

-- ---- over a link

pub ticket_never : Never → (ticket : Ticket) (next : ℕ) → NeverOver (λ ups downs s. TicketHolds ticket next ups downs s)
ticket_never never ticket next head transferred ups downs s f o over =
    never (asked_of (waits_of ticket)) (unlinks_of ticket) head transferred ups downs s f (ticket_fitting ticket o).0 (record { rising = rising_asked (waits_of ticket); apart = apart_asked (waits_of ticket) }) (few_total (waits_of ticket))
    (ticket_lines ticket next (up.Submit head transferred ∷ ups) downs s o) over
  where
    ticket_fitting : (x : Ticket) → TicketHolds x next (up.Submit head transferred ∷ ups) downs s → AllFitting (up.Submit head transferred ∷ ups)
    ticket_fitting (Acts act since asked) h = h.bond.fitting
    ticket_fitting (ActRaces act since asked unlink) h = h.bond.fitting
    ticket_fitting (ActIsLate act since unlink) h = h.fitting
    ticket_fitting (Triggers job) h = h.bond.fitting
    ticket_fitting (TriggerRaces job unlink) h = h.bond.fitting
    ticket_fitting (TriggerIsLate counted n unlink) h = h.fitting

ticket_first : (ticket : Ticket) (next : ℕ) (put : Put) (ups : List up.Message) (downs : List Put) (s : State) (bytes : List ℕ) → IsApart (waits_of ticket) (unlinks_of ticket) → TicketHolds ticket next ups (put ∷ downs) s → SpellsPut put bytes
    → SpellsAnswer (entries_of (waits_of ticket) (unlinks_of ticket)) (message_of put) bytes
ticket_first (Acts act since head) next put ups downs s bytes apart o spelled = first_of_bond _ (Some head) [] next put ups downs s bytes apart o.bond spelled
ticket_first (ActRaces act since head unlink) next put ups downs s bytes apart o spelled = first_of_bond _ (Some head) (unlink ∷ []) next put ups downs s bytes apart o.bond spelled
ticket_first (ActIsLate act since unlink) next put ups downs s bytes apart bond spelled = first_of_bond _ None (unlink ∷ []) next put ups downs s bytes apart bond spelled
ticket_first (Triggers job) next put ups downs s bytes apart o spelled = first_of_bond _ (Some job.head) [] next put ups downs s bytes apart o.bond spelled
ticket_first (TriggerRaces job unlink) next put ups downs s bytes apart o spelled = first_of_bond _ (Some job.head) (unlink ∷ []) next put ups downs s bytes apart o.bond spelled
ticket_first (TriggerIsLate counted n unlink) next put ups downs s bytes apart bond spelled = first_of_bond _ None (unlink ∷ []) next put ups downs s bytes apart bond spelled

pub ticket_spelled : (ticket : Ticket) (next : ℕ) → IsApart (waits_of ticket) (unlinks_of ticket)
    → Spelled (λ ups downs t. Until (λ ups downs t. TicketHolds ticket next ups downs t) ups downs t) (entries_of (waits_of ticket) (unlinks_of ticket))
ticket_spelled ticket next apart put ups downs t bytes tie spelled =
    by (next_held (λ ups downs s. TicketHolds ticket next ups downs s) (waits_of ticket) (unlinks_of ticket) (λ ups downs s o. ticket_lines ticket next ups downs s o) put ups downs t tie)
  where
    by : NextHeld (λ ups downs t. TicketHolds ticket next ups downs t) (waits_of ticket) put ups downs t → SpellsAnswer (entries_of (waits_of ticket) (unlinks_of ticket)) (message_of put) bytes
    by (HeldPlugged o) = ticket_first ticket next put ups downs t bytes apart o spelled
    by (HeldBefore before front o unplugs behind) = ticket_first ticket next put ups front before bytes apart o spelled
    by (HeldBehind before o unplugs told) = told_spelled (waits_of ticket) (unlinks_of ticket) put downs bytes told spelled

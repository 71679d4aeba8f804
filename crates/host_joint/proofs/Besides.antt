-- a host that keeps a submit to Interrupt-IN out while it does something else
use Rattle.std.proofs.Common.{◌≡◌, ◌≢◌, ◌∙◌, ◌⊎◌, inl, inr, ℕ, ◌+◌, ◌≤◌, Bool, true, false, cond, eqb, Option, Some, None, List, [], ◌∷◌, ◌++◌, length, refl, ap, sym, subst, append_assoc, append-nil, arith}
use Rattle.std.proofs.lemmas.Bool.{eq-eqb, ne_eqb, eqb-true}
use Rattle.usbip_wire.specs.declared.submit.SubmitHead.{SubmitHead}
use Rattle.usbip_wire.specs.declared.unlink.UnlinkHead.{UnlinkHead}
use Rattle.usbip_wire.specs.declared.ret_submit.RetSubmitHead.{RetSubmitHead}
use Rattle.usbip_wire.specs.Up as up
use Rattle.usbip_wire.specs.Down as down
use Rattle.usbip_wire.specs.Down.{SpellsAnswer}
use Rattle.usbip_wire.specs.declared.ret_unlink.RetUnlinkHead.{RetUnlinkHead}
use Rattle.usbip_wire.specs.declared.dirs.Outstanding.{Outstanding}
use Rattle.usbip_wire.specs.declared.dirs.Outstanding.TheVariants as outstanding
use Rattle.usbip_wire.specs.Dirs as dirs
use Rattle.usbip_wire.specs.Dirs.{find, submit_of, is_unlink}
use Rattle.tmc_law.specs.Queues.{pending_most}
use Rattle.tmc_law.specs.Endpoint.{Endpoint, Control, BulkOut, BulkIn, InterruptIn, number_of}
use Rattle.tmc_law.specs.State.{State, Pending, Packet, StatusPacket, start, queue_of}
use Rattle.tmc_law.specs.Put.{Put, Submitted, Unlinked}
use Rattle.tmc_law.specs.AnswerFits.{AllAnswers}
use Rattle.tmc_law.specs.Reached.{AllFit}
use Rattle.tmc_law.specs.Numbers.{AllBelow, Rises, numbers, coming_out, effects, waits, numbers_of}
use Rattle.tmc_law.specs.Step.{Move, Comes, Halt, Unplug, Steps}
use Rattle.tmc_law.specs.Run.{Entry, Runs, SpellsPut, taken, inputs, outputs}
use Rattle.tmc_law.specs.Laws.{message_of}
use Rattle.host_joint.specs.Lines.{Sent, sent_to, sent_heads, Event, Gives, Drops, events_of, without, LeftBy, heads, unlinks_in, unlinked_by, Line, Lines, Fitting, AllFitting, InOrder, NoneNumbered}
use Rattle.host_joint.specs.Unlinking.{AllHeads, AllUnlinks, IsNamed, Rising, AreApart, total_of}
use Rattle.host_joint.specs.Positions.{IsAt, rests}
use Rattle.host_joint.specs.Hand.{Hand, Free}
use Rattle.host_joint.specs.Asking.{StaysPlugged}
use Rattle.host_joint.specs.Tie.{IsUndisturbed, asked_of, Tie}
use Rattle.host_joint.specs.Bond.{IsFit, Bond, Bound, Situation, Stands, Resting}
use Rattle.host_joint.specs.Races.{Ticket, TicketHolds, Acts, ActRaces, ActIsLate, Triggers, TriggerRaces, TriggerIsLate}
use Rattle.host_joint.specs.StatusReads.{packets_in, IsUsual, Brings, Quiet, none_or_one, asked_by, IsEarlier, IsOther, IsNotify}
use Rattle.host_joint.specs.Beside.{messages_beside, answers_beside, device_beside, Doing, HasAsk, HasRecovery, HasTicket, Does, MayHalt, waits_for, unlinks_for, asked_beside, AsksNoStatus, IfAny, NamesOther, KeepsApart, IsElsewhere, entries_beside, AreAllApart, DoesBeside, Beside, GivesBeside, ServiceBeside, OlderBeside, HaltBeside, DoesAsIt}
use Rattle.host_joint.proofs.Flows.{lines_step, fitting_behind, order_behind}
use Rattle.host_joint.proofs.Falling.{left_all}
use Rattle.host_joint.proofs.Running.{sound}
use Rattle.host_joint.proofs.Tying.{TieLaws, none_unlinked, in_order}
use Rattle.host_joint.proofs.Hosting.{own_event, other_event}
use Rattle.host_joint.specs.Joint.{entries_for, entries_of, unlink_entries}
use Rattle.host_joint.proofs.Booking.{submit_written}
use Rattle.host_joint.proofs.Joining.{IsKind, IsKept, Never, rising_asked, apart_asked, few_asked}
use Rattle.host_joint.proofs.UntilJoined.{Spelled}
use Rattle.host_joint.proofs.Bonding.{fits_step}
use Rattle.host_joint.proofs.Packeting.{brings_same, all_usual}
use Rattle.host_joint.proofs.StatusTied.{First, FirstService, FirstStatus, FirstHalt, first, first_asked_by, one_only}
use Rattle.host_joint.proofs.Aside.{Left, Leaves, Goes, ReadsNone, AreRoomy, NamesNone, step_left, answers-append, messages-append, keep_put, drop_put, drop_message}
use Rattle.host_joint.proofs.Reaching.{ReachLaws, reached_bare}

-- ---- what the lists without that submit keep

pub sent_kept : (e : Endpoint) → eqb 3 (number_of e) ≡ false → (ups : List up.Message) → sent_to e (messages_beside ups) ≡ sent_to e ups
sent_kept e other [] = refl
sent_kept e other (up.Unlink head ∷ ups) = sent_kept e other ups
sent_kept e other (up.Submit head transferred ∷ ups) = by (eqb head.ep 3) refl (eqb head.ep (number_of e)) refl (sent_kept e other ups)
  where
    this : Sent
    this = record { head = head; transferred = transferred }

    here : (c : Bool) → eqb head.ep (number_of e) ≡ c → sent_to e (messages_beside ups) ≡ sent_to e ups
        → cond (eqb head.ep (number_of e)) (this ∷ sent_to e (messages_beside ups)) (sent_to e (messages_beside ups)) ≡ cond c (this ∷ sent_to e ups) (sent_to e ups)
    here true is h = rw is (ap (λ (l : List Sent). this ∷ l) h)
    here false is h = rw is h

    by : (b : Bool) → eqb head.ep 3 ≡ b → (c : Bool) → eqb head.ep (number_of e) ≡ c → sent_to e (messages_beside ups) ≡ sent_to e ups
        → sent_to e (cond b (messages_beside ups) (up.Submit head transferred ∷ messages_beside ups)) ≡ cond c (this ∷ sent_to e ups) (sent_to e ups)
    by false is c own h = here c own h
    by true is true own h = let no : eqb head.ep (number_of e) ≡ false = ap (λ (n : ℕ). eqb n (number_of e)) (eqb-true head.ep 3 is) ∙ other in let clash : true ≡ false = sym own ∙ no in absurd (cc)
    by true is false own h = h

pub events_kept : (e : Endpoint) → eqb 3 (number_of e) ≡ false → (downs : List Put) → events_of e (answers_beside downs) ≡ events_of e downs
events_kept e other [] = refl
events_kept e other (Unlinked asked answer ∷ downs) = ap (λ (l : List Event). Drops asked.target ∷ l) (events_kept e other downs)
events_kept e other (Submitted asked answer transferred ∷ downs) = by (eqb asked.ep 3) refl (eqb asked.ep (number_of e)) refl (events_kept e other downs)
  where
    here : (c : Bool) → eqb asked.ep (number_of e) ≡ c → events_of e (answers_beside downs) ≡ events_of e downs
        → cond (eqb asked.ep (number_of e)) (Gives asked answer transferred ∷ events_of e (answers_beside downs)) (events_of e (answers_beside downs)) ≡ cond c (Gives asked answer transferred ∷ events_of e downs) (events_of e downs)
    here true is h = rw is (ap (λ (l : List Event). Gives asked answer transferred ∷ l) h)
    here false is h = rw is h

    by : (b : Bool) → eqb asked.ep 3 ≡ b → (c : Bool) → eqb asked.ep (number_of e) ≡ c → events_of e (answers_beside downs) ≡ events_of e downs
        → events_of e (cond b (answers_beside downs) (Submitted asked answer transferred ∷ answers_beside downs)) ≡ cond c (Gives asked answer transferred ∷ events_of e downs) (events_of e downs)
    by false is c own h = here c own h
    by true is true own h = let no : eqb asked.ep (number_of e) ≡ false = ap (λ (n : ℕ). eqb n (number_of e)) (eqb-true asked.ep 3 is) ∙ other in let clash : true ≡ false = sym own ∙ no in absurd (cc)
    by true is false own h = h

pub unlinks_kept : (ups : List up.Message) → unlinks_in (messages_beside ups) ≡ unlinks_in ups
unlinks_kept [] = refl
unlinks_kept (up.Unlink head ∷ ups) = ap (λ (l : List UnlinkHead). head ∷ l) (unlinks_kept ups)
unlinks_kept (up.Submit head transferred ∷ ups) = by (eqb head.ep 3) (unlinks_kept ups)
  where
    by : (b : Bool) → unlinks_in (messages_beside ups) ≡ unlinks_in ups → unlinks_in (cond b (messages_beside ups) (up.Submit head transferred ∷ messages_beside ups)) ≡ unlinks_in ups
    by true h = h
    by false h = h

pub unlinked_kept : (downs : List Put) → unlinked_by (answers_beside downs) ≡ unlinked_by downs
unlinked_kept [] = refl
unlinked_kept (Unlinked asked answer ∷ downs) = ap (λ (l : List UnlinkHead). asked ∷ l) (unlinked_kept downs)
unlinked_kept (Submitted asked answer transferred ∷ downs) = by (eqb asked.ep 3) (unlinked_kept downs)
  where
    by : (b : Bool) → unlinked_by (answers_beside downs) ≡ unlinked_by downs → unlinked_by (cond b (answers_beside downs) (Submitted asked answer transferred ∷ answers_beside downs)) ≡ unlinked_by downs
    by true h = h
    by false h = h

pub coming_kept : (ups : List up.Message) → coming_out (messages_beside ups) ≡ coming_out ups
coming_kept [] = refl
coming_kept (up.Unlink head ∷ ups) = coming_kept ups
coming_kept (up.Submit head transferred ∷ ups) = by (eqb head.ep 3) refl (coming_kept ups)
  where
    by : (b : Bool) → eqb head.ep 3 ≡ b → coming_out (messages_beside ups) ≡ coming_out ups
        → coming_out (cond b (messages_beside ups) (up.Submit head transferred ∷ messages_beside ups)) ≡ cond (eqb head.ep 1) (head.seqnum ∷ coming_out ups) (coming_out ups)
    by true is h = let no : eqb head.ep 1 ≡ false = ap (λ (n : ℕ). eqb n 1) (eqb-true head.ep 3 is) in rw no h
    by false is h = ap (λ (l : List ℕ). cond (eqb head.ep 1) (head.seqnum ∷ l) l) h

pub numbers_kept : (packets : List Packet) (ups : List up.Message) (s : State) → numbers (device_beside packets s) (messages_beside ups) ≡ numbers s ups
numbers_kept packets ups s = ap (λ (l : List ℕ). effects s.log ++ (waits s.waiting ++ (numbers_of s.bulk_out ++ l))) (coming_kept ups)

-- ---- what is on its way to Interrupt-IN is that submit

-- what holds of that submit, of all submits of its line
pub line_all : (P : SubmitHead → Type 0) (notify : Option SubmitHead) (ups : List up.Message) (downs : List Put) (s : State) → IfAny P notify → Line InterruptIn (none_or_one notify) ups downs s
    → AllHeads P (heads s.interrupt_in) × AllHeads P (sent_heads (sent_to InterruptIn ups))
line_all P notify ups downs s holds line = apart (heads s.interrupt_in) (left_all P (none_or_one notify) _ (events_of InterruptIn downs) line (one notify holds))
  where
    one : (o : Option SubmitHead) → IfAny P o → AllHeads P (none_or_one o)
    one None h = tt
    one (Some x) h = (h, tt)

    apart : (a : List SubmitHead) → AllHeads P (a ++ sent_heads (sent_to InterruptIn ups)) → AllHeads P a × AllHeads P (sent_heads (sent_to InterruptIn ups))
    apart [] h = (tt, h)
    apart (x ∷ a) h = let rest = apart a h.1 in ((h.0, rest.0), rest.1)

-- all messages fit, where those without that submit do
fitting_up : (ups : List up.Message) → AllFitting (messages_beside ups) → AllHeads (λ (head : SubmitHead). Fitting head) (sent_heads (sent_to InterruptIn ups)) → AllFitting ups
fitting_up [] h k = tt
fitting_up (up.Unlink head ∷ ups) h k = fitting_up ups h k
fitting_up (up.Submit head transferred ∷ ups) h k = by (eqb head.ep 3) (λ a c. fitting_up ups a c) h k
  where
    by : (b : Bool) → (AllFitting (messages_beside ups) → AllHeads (λ (x : SubmitHead). Fitting x) (sent_heads (sent_to InterruptIn ups)) → AllFitting ups) → AllFitting (cond b (messages_beside ups) (up.Submit head transferred ∷ messages_beside ups))
        → AllHeads (λ (x : SubmitHead). Fitting x) (sent_heads (cond b (record { head = head; transferred = transferred } ∷ sent_to InterruptIn ups) (sent_to InterruptIn ups))) → AllFitting (up.Submit head transferred ∷ ups)
    by true rest a c = (c.0, rest a c.1)
    by false rest a c = (a.0, rest a.1 c)

fitting_down : (ups : List up.Message) → AllFitting ups → AllFitting (messages_beside ups)
fitting_down [] h = tt
fitting_down (up.Unlink head ∷ ups) h = fitting_down ups h
fitting_down (up.Submit head transferred ∷ ups) h = by (eqb head.ep 3) (fitting_down ups h.1)
  where
    by : (b : Bool) → AllFitting (messages_beside ups) → AllFitting (cond b (messages_beside ups) (up.Submit head transferred ∷ messages_beside ups))
    by true rest = rest
    by false rest = (h.0, rest)

fits_down : (downs : List Put) → AllAnswers IsFit downs → AllAnswers IsFit (answers_beside downs)
fits_down [] h = tt
fits_down (Unlinked asked answer ∷ downs) h = (h.0, fits_down downs h.1)
fits_down (Submitted asked answer transferred ∷ downs) h = by (eqb asked.ep 3) (fits_down downs h.1)
  where
    by : (b : Bool) → AllAnswers IsFit (answers_beside downs) → AllAnswers IsFit (cond b (answers_beside downs) (Submitted asked answer transferred ∷ answers_beside downs))
    by true rest = rest
    by false rest = (h.0, rest)

-- an unlink on its way names nothing that comes behind it, where it names none without that submit
abbrev Unnamed : List UnlinkHead → SubmitHead → Type 0
Unnamed unlinks head = AllUnlinks (λ (unlink : UnlinkHead). head.seqnum ≢ unlink.target) unlinks

fewer_unnamed : (head : UnlinkHead) (unlinks : List UnlinkHead) (l : List SubmitHead) → AllHeads (Unnamed (head ∷ unlinks)) l → AllHeads (Unnamed unlinks) l
fewer_unnamed head unlinks [] c = tt
fewer_unnamed head unlinks (x ∷ l) c = (c.0.1, fewer_unnamed head unlinks l c.1)

none_named : (head : UnlinkHead) (unlinks : List UnlinkHead) (l : List SubmitHead) → AllHeads (Unnamed (head ∷ unlinks)) l → NoneNumbered head.target l
none_named head unlinks [] c = tt
none_named head unlinks (x ∷ l) c = (c.0.0, none_named head unlinks l c.1)

order_up : (ups : List up.Message) → InOrder (messages_beside ups) → AllHeads (Unnamed (unlinks_in ups)) (sent_heads (sent_to InterruptIn ups)) → InOrder ups
order_up [] h k = tt
order_up (up.Submit head transferred ∷ ups) h k = by (eqb head.ep 3) (λ a c. order_up ups a c) h k
  where
    by : (b : Bool) → (InOrder (messages_beside ups) → AllHeads (Unnamed (unlinks_in ups)) (sent_heads (sent_to InterruptIn ups)) → InOrder ups) → InOrder (cond b (messages_beside ups) (up.Submit head transferred ∷ messages_beside ups))
        → AllHeads (Unnamed (unlinks_in ups)) (sent_heads (cond b (record { head = head; transferred = transferred } ∷ sent_to InterruptIn ups) (sent_to InterruptIn ups))) → InOrder ups
    by true rest a c = rest a c.1
    by false rest a c = rest a c
order_up (up.Unlink head ∷ ups) h k = (each, order_up ups h.1 (fewer_unnamed head (unlinks_in ups) (sent_heads (sent_to InterruptIn ups)) k))
  where
    each : (e : Endpoint) → NoneNumbered head.target (sent_heads (sent_to e ups))
    each Control = subst (λ (l : List Sent). NoneNumbered head.target (sent_heads l)) (sent_kept Control refl ups) (h.0 Control)
    each BulkOut = subst (λ (l : List Sent). NoneNumbered head.target (sent_heads l)) (sent_kept BulkOut refl ups) (h.0 BulkOut)
    each BulkIn = subst (λ (l : List Sent). NoneNumbered head.target (sent_heads l)) (sent_kept BulkIn refl ups) (h.0 BulkIn)
    each InterruptIn = none_named head (unlinks_in ups) (sent_heads (sent_to InterruptIn ups)) k

-- nothing of it is left at Interrupt-IN
pub none_sent : (ups : List up.Message) → sent_to InterruptIn (messages_beside ups) ≡ []
none_sent [] = refl
none_sent (up.Unlink head ∷ ups) = none_sent ups
none_sent (up.Submit head transferred ∷ ups) = by (eqb head.ep 3) refl (none_sent ups)
  where
    by : (b : Bool) → eqb head.ep 3 ≡ b → sent_to InterruptIn (messages_beside ups) ≡ [] → sent_to InterruptIn (cond b (messages_beside ups) (up.Submit head transferred ∷ messages_beside ups)) ≡ []
    by true is h = h
    by false is h = rw is h

none_given : (downs : List Put) → LeftBy [] (events_of InterruptIn (answers_beside downs)) []
none_given [] = refl
none_given (Unlinked asked answer ∷ downs) = none_given downs
none_given (Submitted asked answer transferred ∷ downs) = by (eqb asked.ep 3) refl (none_given downs)
  where
    by : (b : Bool) → eqb asked.ep 3 ≡ b → LeftBy [] (events_of InterruptIn (answers_beside downs)) []
        → LeftBy [] (events_of InterruptIn (cond b (answers_beside downs) (Submitted asked answer transferred ∷ answers_beside downs))) []
    by true is h = h
    by false is h = rw is h

order_down : (ups : List up.Message) → InOrder ups → InOrder (messages_beside ups)
order_down [] h = tt
order_down (up.Submit head transferred ∷ ups) h = by (eqb head.ep 3) (order_down ups h)
  where
    by : (b : Bool) → InOrder (messages_beside ups) → InOrder (cond b (messages_beside ups) (up.Submit head transferred ∷ messages_beside ups))
    by true rest = rest
    by false rest = rest
order_down (up.Unlink head ∷ ups) h = (each, order_down ups h.1)
  where
    each : (e : Endpoint) → NoneNumbered head.target (sent_heads (sent_to e (messages_beside ups)))
    each Control = subst (λ (l : List Sent). NoneNumbered head.target (sent_heads l)) (sym (sent_kept Control refl ups)) (h.0 Control)
    each BulkOut = subst (λ (l : List Sent). NoneNumbered head.target (sent_heads l)) (sym (sent_kept BulkOut refl ups)) (h.0 BulkOut)
    each BulkIn = subst (λ (l : List Sent). NoneNumbered head.target (sent_heads l)) (sym (sent_kept BulkIn refl ups)) (h.0 BulkIn)
    each InterruptIn = subst (λ (l : List Sent). NoneNumbered head.target (sent_heads l)) (sym (none_sent ups)) tt

-- ---- what the host does gives all else

pub record Facts (doing : Doing) (next : ℕ) (ups : List up.Message) (downs : List Put) (s : State) : Type 0 where
  pub lines : Lines (asked_of (waits_for doing)) (unlinks_for doing) ups downs s
  pub fitting : AllFitting ups
  pub order : InOrder ups
  pub rises : Rises (numbers s ups)
  pub below : AllBelow next (numbers s ups)

bond_facts : (Holds : List up.Message → List Put → State → Type 0) (doing : Doing) (next : ℕ) (ups : List up.Message) (downs : List Put) (s : State) → Bond Holds (asked_of (waits_for doing)) (unlinks_for doing) next ups downs s → Facts doing next ups downs s
bond_facts Holds doing next ups downs s b = record { lines = b.lines; fitting = b.fitting; order = b.order; rises = b.rises; below = b.below }

pub facts : (doing : Doing) (next : ℕ) (ups : List up.Message) (downs : List Put) (s : State) → Does doing next ups downs s → Facts doing next ups downs s
facts (HasAsk hand waits) next ups downs s tie =
    record { lines = tie.lines; fitting = tie.fitting; order = in_order ups (none_unlinked (unlinked_by downs) (unlinks_in ups) tie.lines.unlinked).1; rises = tie.rises; below = tie.below }
facts (HasRecovery situation waits unlinks) next ups downs s bound = bond_facts _ (HasRecovery situation waits unlinks) next ups downs s bound.bond
facts (HasTicket (Acts act since head)) next ups downs s o = bond_facts _ (HasTicket (Acts act since head)) next ups downs s o.bond
facts (HasTicket (ActRaces act since head unlink)) next ups downs s o = bond_facts _ (HasTicket (ActRaces act since head unlink)) next ups downs s o.bond
facts (HasTicket (ActIsLate act since unlink)) next ups downs s bond = bond_facts _ (HasTicket (ActIsLate act since unlink)) next ups downs s bond
facts (HasTicket (Triggers job)) next ups downs s o = bond_facts _ (HasTicket (Triggers job)) next ups downs s o.bond
facts (HasTicket (TriggerRaces job unlink)) next ups downs s o = bond_facts _ (HasTicket (TriggerRaces job unlink)) next ups downs s o.bond
facts (HasTicket (TriggerIsLate counted n unlink)) next ups downs s bond = bond_facts _ (HasTicket (TriggerIsLate counted n unlink)) next ups downs s bond

-- what a host knows of its lists
pub record Known (doing : Doing) (notify : Option SubmitHead) (next : ℕ) : Type 0 where
  pub notices : IfAny (λ (head : SubmitHead). IsNotify head) notify
  pub earlier : IsEarlier notify next
  pub apart : KeepsApart doing notify

line_up : (e : Endpoint) (asked : List SubmitHead) (packets : List Packet) (ups : List up.Message) (downs : List Put) (s : State) → eqb 3 (number_of e) ≡ false → queue_of e (device_beside packets s) ≡ queue_of e s
    → Line e asked (messages_beside ups) (answers_beside downs) (device_beside packets s) → Line e asked ups downs s
line_up e asked packets ups downs s other same line =
    subst (λ (l : List Event). LeftBy asked l (heads (queue_of e s) ++ sent_heads (sent_to e ups))) (events_kept e other downs)
    (subst (λ (l : List Sent). LeftBy asked (events_of e (answers_beside downs)) (heads (queue_of e s) ++ sent_heads l)) (sent_kept e other ups)
    (subst (λ (q : List Pending). LeftBy asked (events_of e (answers_beside downs)) (heads q ++ sent_heads (sent_to e (messages_beside ups)))) same line))

line_down : (e : Endpoint) (asked : List SubmitHead) (packets : List Packet) (ups : List up.Message) (downs : List Put) (s : State) → eqb 3 (number_of e) ≡ false → queue_of e (device_beside packets s) ≡ queue_of e s
    → Line e asked ups downs s → Line e asked (messages_beside ups) (answers_beside downs) (device_beside packets s)
line_down e asked packets ups downs s other same line =
    subst (λ (q : List Pending). LeftBy asked (events_of e (answers_beside downs)) (heads q ++ sent_heads (sent_to e (messages_beside ups)))) (sym same)
    (subst (λ (l : List Sent). LeftBy asked (events_of e (answers_beside downs)) (heads (queue_of e s) ++ sent_heads l)) (sym (sent_kept e other ups))
    (subst (λ (l : List Event). LeftBy asked l (heads (queue_of e s) ++ sent_heads (sent_to e ups))) (sym (events_kept e other downs)) line))

suffix_all : (P : UnlinkHead → Type 0) (a b : List UnlinkHead) → AllUnlinks P (a ++ b) → AllUnlinks P b
suffix_all P [] b h = h
suffix_all P (x ∷ a) b h = suffix_all P a b h.1

unnamed_one : (notify : Option SubmitHead) (l : List UnlinkHead) → AllUnlinks (λ (unlink : UnlinkHead). NamesOther notify unlink) l → IfAny (Unnamed l) notify
unnamed_one None l h = tt
unnamed_one (Some x) l h = h

fits_notify : (o : Option SubmitHead) → IfAny (λ (head : SubmitHead). IsNotify head) o → IfAny (λ (head : SubmitHead). Fitting head) o
fits_notify None h = tt
fits_notify (Some x) h = record { endpoint = InterruptIn; number = h.number; way = h.way }

pub build : (doing : Doing) (notify : Option SubmitHead) (older : List Packet) (next : ℕ) (packets : List Packet) (run : List Entry) (ups : List up.Message) (downs : List Put) (s : State) → Known doing notify next → Runs start run s
    → AllAnswers IsFit downs → Line InterruptIn (none_or_one notify) ups downs s → Does doing next (messages_beside ups) (answers_beside downs) (device_beside packets s) → Brings older downs s → Beside doing notify older next ups downs s
build doing notify older next packets run ups downs s known reached fits line does brings =
    let has = facts doing next (messages_beside ups) (answers_beside downs) (device_beside packets s) does in
    let unlinked : unlinks_for doing ≡ unlinked_by downs ++ unlinks_in ups =
    has.lines.unlinked ∙ ap (λ (l : List UnlinkHead). l ++ unlinks_in (messages_beside ups)) (unlinked_kept downs) ∙ ap (λ (l : List UnlinkHead). unlinked_by downs ++ l) (unlinks_kept ups) in
    let still : AllUnlinks (λ (unlink : UnlinkHead). NamesOther notify unlink) (unlinks_in ups) =
    suffix_all _ (unlinked_by downs) (unlinks_in ups) (subst (λ (l : List UnlinkHead). AllUnlinks (λ (unlink : UnlinkHead). NamesOther notify unlink) l) unlinked known.apart.unnamed) in
    record {
      notices = known.notices;
      earlier = known.earlier;
      apart = known.apart;
      bond = record {
        run = run;
        reached = reached;
        lines = record { submits = submits has.lines; unlinked = unlinked };
        fitting = fitting_up ups has.fitting (line_all _ notify ups downs s (fits_notify notify known.notices) line).1;
        order = order_up ups has.order (line_all (Unnamed (unlinks_in ups)) notify ups downs s (unnamed_one notify (unlinks_in ups) still) line).1;
        fits = fits;
        rises = subst (λ (l : List ℕ). Rises l) (numbers_kept packets ups s) has.rises;
        below = subst (λ (l : List ℕ). AllBelow next l) (numbers_kept packets ups s) has.below;
        held = record { packets = packets; tie = does; brings = brings };
      };
    }
  where
    submits : Lines (asked_of (waits_for doing)) (unlinks_for doing) (messages_beside ups) (answers_beside downs) (device_beside packets s) → (e : Endpoint) → Line e (asked_beside (waits_for doing) notify e) ups downs s
    submits lines Control = line_up Control _ packets ups downs s refl refl (lines.submits Control)
    submits lines BulkOut = line_up BulkOut _ packets ups downs s refl refl (lines.submits BulkOut)
    submits lines BulkIn = line_up BulkIn _ packets ups downs s refl refl (lines.submits BulkIn)
    submits lines InterruptIn = line

-- ---- they stay

-- what the host does is kept by each step of this kind
abbrev pub StepsOn : (Move → Type 0) → Doing → ℕ → Type 0
StepsOn Allowed doing next =
    (s t : State) (move : Move) (puts : List Put) (ups : List up.Message) (downs : List Put) → Steps s move puts t → Allowed move → Does doing next (taken move ++ ups) downs s → Does doing next ups (downs ++ puts) t

reads_none : (queue : List Pending) → AllFit Control queue → AllHeads (λ (head : SubmitHead). AsksNoStatus head) (heads queue) → ReadsNone queue
reads_none [] fit h = tt
reads_none (x ∷ queue) fit h = ((λ setup tag asks row. h.0 fit.0.number setup tag asks.layout row), reads_none queue fit.1 h.1)

are_roomy : (queue : List Pending) → AllHeads (λ (head : SubmitHead). IsNotify head) (heads queue) → AreRoomy queue
are_roomy [] h = tt
are_roomy (x ∷ queue) h = (h.0.room, are_roomy queue h.1)

-- what holds of the submit of what it does, of all that are at the control endpoint
control_all : (P : SubmitHead → Type 0) (waits : Option SubmitHead) (ups : List up.Message) (downs : List Put) (s : State) → IfAny P waits → Line Control (asked_of waits Control) ups downs s → AllHeads P (heads s.control)
control_all P waits ups downs s holds line = front (heads s.control) (left_all P (asked_of waits Control) _ (events_of Control downs) line (one waits holds))
  where
    one : (o : Option SubmitHead) → IfAny P o → AllHeads P (asked_of o Control)
    one None h = tt
    one (Some x) h = by (eqb x.ep 0)
      where
        by : (b : Bool) → AllHeads P (cond b (x ∷ []) [])
        by true = (h, tt)
        by false = tt

    front : (a : List SubmitHead) → AllHeads P (a ++ sent_heads (sent_to Control ups)) → AllHeads P a
    front [] h = tt
    front (x ∷ a) h = (h.0, front a h.1)

names_none : (notify : Option SubmitHead) (move : Move) (unlinks : List UnlinkHead) (ups : List up.Message) (downs : List Put) (s : State) → AllUnlinks (λ (unlink : UnlinkHead). NamesOther notify unlink) unlinks
    → unlinks ≡ unlinked_by downs ++ unlinks_in (taken move ++ ups) → Line InterruptIn (none_or_one notify) (taken move ++ ups) downs s → NamesNone move s
names_none notify (Comes (up.Submit head transferred)) unlinks ups downs s h is line = tt
names_none notify (Comes (up.Unlink head)) unlinks ups downs s h is line =
    let named : NamesOther notify head = (suffix_all _ (unlinked_by downs) (head ∷ unlinks_in ups) (subst (λ (l : List UnlinkHead). AllUnlinks (λ (unlink : UnlinkHead). NamesOther notify unlink) l) is h)).0 in
    none (heads s.interrupt_in) (line_all (λ (x : SubmitHead). x.seqnum ≢ head.target) notify (up.Unlink head ∷ ups) downs s (other notify named) line).0
  where
    other : (o : Option SubmitHead) → NamesOther o head → IfAny (λ (x : SubmitHead). x.seqnum ≢ head.target) o
    other None k = tt
    other (Some x) k = k

    none : (l : List SubmitHead) → AllHeads (λ (x : SubmitHead). x.seqnum ≢ head.target) l → NoneNumbered head.target l
    none [] k = tt
    none (x ∷ l) k = (k.0, none l k.1)
names_none notify _ unlinks ups downs s h is line = tt

beside_step : (laws : TieLaws) (Allowed : Move → Type 0) (doing : Doing) (notify : Option SubmitHead) (older : List Packet) (next : ℕ) → StepsOn Allowed doing next → (ups : List up.Message) (downs puts : List Put) (s t : State) (move : Move)
    → Steps s move puts t → move ≢ Unplug → Allowed move → Beside doing notify older next (taken move ++ ups) downs s → Beside doing notify older next ups (downs ++ puts) t
beside_step laws Allowed doing notify older next one ups downs puts s t move step plugged allowed b =
    let is_sound = sound laws.ask b.bond.run s b.bond.reached in
    let reads = reads_none s.control (is_sound.fits Control) (control_all _ (waits_for doing) (taken move ++ ups) downs s b.apart.no_status (b.bond.lines.submits Control)) in
    let roomy = are_roomy s.interrupt_in (line_all _ notify (taken move ++ ups) downs s b.notices (b.bond.lines.submits InterruptIn)).0 in
    let names = names_none notify move (unlinks_for doing) ups downs s b.apart.unnamed b.bond.lines.unlinked (b.bond.lines.submits InterruptIn) in
    let usual = all_usual s t move puts plugged (laws.answers b.bond.run s t move puts b.bond.reached step) in
    let lines = lines_step laws.ask.reaches b.bond.run (asked_beside (waits_for doing) notify) (unlinks_for doing) s t move puts ups downs b.bond.reached step b.bond.fitting b.bond.order b.bond.lines in
    record {
      notices = b.notices;
      earlier = b.earlier;
      apart = b.apart;
      bond = record {
        run = b.bond.run ++ record { move = move; puts = puts } ∷ [];
        reached = laws.ask.reaches.joins b.bond.run (record { move = move; puts = puts } ∷ []) start s t b.bond.reached (t, step, refl);
        lines = lines;
        fitting = fitting_behind (taken move) ups b.bond.fitting;
        order = order_behind (taken move) ups b.bond.order;
        fits = fits_step laws b.bond.run s t move ups downs puts b.bond.reached step b.bond.fitting b.bond.fits;
        rises = laws.rises s t move puts ups step b.bond.rises;
        below = laws.below next s t move puts ups step b.bond.below;
        held = goes usual (step_left b.bond.held.packets s t move puts ups step.plugged is_sound reads roomy names b.bond.fitting plugged step.leads);
      };
    }
  where
    p : List Packet
    p = b.bond.held.packets

    goes : AllAnswers IsUsual puts → Left b.bond.held.packets s move puts t → DoesBeside doing older next ups (downs ++ puts) t
    goes usual (Leaves none own same streams still) = record {
      packets = p;
      tie = subst (λ (x : State). Does doing next (messages_beside ups) (answers_beside (downs ++ puts)) x) (sym same)
          (subst (λ (l : List Put). Does doing next (messages_beside ups) l (device_beside p s)) (sym (answers-append downs puts ∙ ap (λ (l : List Put). answers_beside downs ++ l) own ∙ append-nil (answers_beside downs)))
          (subst (λ (l : List up.Message). Does doing next l (answers_beside downs) (device_beside p s)) (messages-append (taken move) ups ∙ ap (λ (l : List up.Message). l ++ messages_beside ups) none) b.bond.held.tie));
      brings = brings_same older downs puts s t streams usual b.bond.held.brings;
    }
    goes usual (Goes later none step_there streams tracks) = record {
      packets = later;
      tie = subst (λ (l : List Put). Does doing next (messages_beside ups) l (device_beside later t)) (sym (answers-append downs puts))
          (one (device_beside p s) (device_beside later t) move (answers_beside puts) (messages_beside ups) (answers_beside downs) step_there allowed
          (subst (λ (l : List up.Message). Does doing next l (answers_beside downs) (device_beside p s)) (messages-append (taken move) ups ∙ ap (λ (l : List up.Message). l ++ messages_beside ups) none) b.bond.held.tie));
      brings = brings_same older downs puts s t streams usual b.bond.held.brings;
    }

-- a kind of runs, and of moves
pub record IsRunOf (Kind : List Entry → Type 0) (Allowed : Move → Type 0) : Type 0 where
  pub first : (entry : Entry) (run : List Entry) → Kind (entry ∷ run) → (entry.move ≢ Unplug) × Allowed entry.move × Kind run

pub beside_run : (laws : TieLaws) (Kind : List Entry → Type 0) (Allowed : Move → Type 0) → IsRunOf Kind Allowed → (doing : Doing) (notify : Option SubmitHead) (older : List Packet) (next : ℕ) → StepsOn Allowed doing next
    → (run : List Entry) (ups : List up.Message) (downs : List Put) (s t : State) → Runs s run t → Kind run → Beside doing notify older next (inputs run ++ ups) downs s → Beside doing notify older next ups (downs ++ outputs run) t
beside_run laws Kind Allowed kind doing notify older next one [] ups downs s t goes is b =
    subst (λ (x : State). Beside doing notify older next ups (downs ++ []) x) (sym goes) (subst (λ (l : List Put). Beside doing notify older next ups l s) (sym (append-nil downs)) b)
beside_run laws Kind Allowed kind doing notify older next one (entry ∷ run) ups downs s t goes is b =
    let its = kind.first entry run is in
    let same : ((taken entry.move ++ inputs run) ++ ups) ≡ (taken entry.move ++ (inputs run ++ ups)) = append_assoc (taken entry.move) (inputs run) ups in
    let go = beside_step laws Allowed doing notify older next one (inputs run ++ ups) downs entry.puts s goes.0 entry.move goes.1 its.0 its.1 (subst (λ (l : List up.Message). Beside doing notify older next l downs s) same b) in
    subst (λ (l : List Put). Beside doing notify older next ups l t) (append_assoc downs entry.puts (outputs run)) (beside_run laws Kind Allowed kind doing notify older next one run ups (downs ++ entry.puts) goes.0 t goes.2 its.2 go)

-- one step, as a run of one
pub one_of_run : (doing : Doing) (next : ℕ) (Kind : List Entry → Type 0) → ((run : List Entry) (ups : List up.Message) (downs : List Put) (s t : State) → Runs s run t → Kind run → Does doing next (inputs run ++ ups) downs s → Does doing next ups (downs ++ outputs run) t)
    → (s t : State) (move : Move) (puts : List Put) (ups : List up.Message) (downs : List Put) → Steps s move puts t → Kind (record { move = move; puts = puts } ∷ []) → Does doing next (taken move ++ ups) downs s → Does doing next ups (downs ++ puts) t
one_of_run doing next Kind stays s t move puts ups downs step kind does =
    subst (λ (l : List Put). Does doing next ups (downs ++ l) t) (append-nil puts)
    (stays (record { move = move; puts = puts } ∷ []) ups downs s t (t, step, refl) kind (subst (λ (l : List up.Message). Does doing next (l ++ ups) downs s) (sym (append-nil (taken move))) does))

pub plugged_runs : IsRunOf StaysPlugged (λ move. move ≢ Unplug)
plugged_runs = record { first = λ entry run h. (h.0, h.0, h.1) }

abbrev pub IsCalm : Move → Type 0
IsCalm move = (move ≢ Unplug) × ((endpoint : Endpoint) → move ≢ Halt endpoint)

pub calm_runs : IsRunOf IsUndisturbed IsCalm
calm_runs = record { first = λ entry run h. (h.0, (h.0, h.1), h.2) }

-- what ties a host, without that submit, is kept by each run
pub record Stays : Type 0 where
  pub tie : (run : List Entry) (hand : Hand) (waits : Option SubmitHead) (next : ℕ) (ups : List up.Message) (downs : List Put) (s t : State)
      → Runs s run t → IsUndisturbed run → Tie hand waits next (inputs run ++ ups) downs s → Tie hand waits next ups (downs ++ outputs run) t
  pub bound : (situation : Situation) (run : List Entry) (waits : Option SubmitHead) (unlinks : List UnlinkHead) (next : ℕ) (ups : List up.Message) (downs : List Put) (s t : State)
      → Runs s run t → StaysPlugged run → Bound situation waits unlinks next (inputs run ++ ups) downs s → Bound situation waits unlinks next ups (downs ++ outputs run) t
  pub ticket : (ticket : Ticket) (run : List Entry) (next : ℕ) (ups : List up.Message) (downs : List Put) (s t : State)
      → Runs s run t → StaysPlugged run → TicketHolds ticket next (inputs run ++ ups) downs s → TicketHolds ticket next ups (downs ++ outputs run) t

pub steps_calmly : Stays → (doing : Doing) (next : ℕ) → StepsOn IsCalm doing next
steps_calmly stays (HasAsk hand waits) next s t move puts ups downs step calm does =
    one_of_run (HasAsk hand waits) next IsUndisturbed (λ run ups downs s t goes kind tie. stays.tie run hand waits next ups downs s t goes kind tie) s t move puts ups downs step (calm.0, calm.1, tt) does
steps_calmly stays (HasRecovery situation waits unlinks) next s t move puts ups downs step calm does =
    one_of_run (HasRecovery situation waits unlinks) next StaysPlugged (λ run ups downs s t goes kind tie. stays.bound situation run waits unlinks next ups downs s t goes kind tie) s t move puts ups downs step (calm.0, tt) does
steps_calmly stays (HasTicket ticket) next s t move puts ups downs step calm does =
    one_of_run (HasTicket ticket) next StaysPlugged (λ run ups downs s t goes kind tie. stays.ticket ticket run next ups downs s t goes kind tie) s t move puts ups downs step (calm.0, tt) does

pub steps_plugged : Stays → (doing : Doing) (next : ℕ) → MayHalt doing → StepsOn (λ move. move ≢ Unplug) doing next
steps_plugged stays (HasAsk hand waits) next may s t move puts ups downs step plugged does = absurd may
steps_plugged stays (HasRecovery situation waits unlinks) next may s t move puts ups downs step plugged does =
    one_of_run (HasRecovery situation waits unlinks) next StaysPlugged (λ run ups downs s t goes kind tie. stays.bound situation run waits unlinks next ups downs s t goes kind tie) s t move puts ups downs step (plugged, tt) does
steps_plugged stays (HasTicket ticket) next may s t move puts ups downs step plugged does =
    one_of_run (HasTicket ticket) next StaysPlugged (λ run ups downs s t goes kind tie. stays.ticket ticket run next ups downs s t goes kind tie) s t move puts ups downs step (plugged, tt) does

-- ---- from and to a host that is in no status read

none_unnamed : (l : List UnlinkHead) → AllUnlinks (λ (unlink : UnlinkHead). NamesOther None unlink) l
none_unnamed [] = tt
none_unnamed (x ∷ l) = (tt, none_unnamed l)

pub quiet_beside : (laws : ReachLaws) (notify : Option SubmitHead) (older : List Packet) (next : ℕ) (ups : List up.Message) (downs : List Put) (s : State) → IfAny (λ (head : SubmitHead). IsNotify head) notify → Quiet notify older next ups downs s
    → Beside (HasRecovery (Stands Resting) None []) notify older next ups downs s
quiet_beside laws notify older next ups downs s notices q =
    build (HasRecovery (Stands Resting) None []) notify older next s.packets q.bond.run ups downs s (record { notices = notices; earlier = q.earlier; apart = record { other = tt; unnamed = tt; no_status = tt } }) q.bond.reached q.bond.fits (q.bond.lines.submits InterruptIn)
    (record {
      bond = record {
        run = (reached_bare laws q.bond.run s q.bond.reached).0;
        reached = (reached_bare laws q.bond.run s q.bond.reached).1;
        lines = record {
          submits = submits;
          unlinked = q.bond.lines.unlinked ∙ ap (λ (l : List UnlinkHead). l ++ unlinks_in ups) (sym (unlinked_kept downs)) ∙ ap (λ (l : List UnlinkHead). unlinked_by (answers_beside downs) ++ l) (sym (unlinks_kept ups));
        };
        fitting = fitting_down ups q.bond.fitting;
        order = order_down ups q.bond.order;
        fits = fits_down downs q.bond.fits;
        rises = subst (λ (l : List ℕ). Rises l) (sym (numbers_kept s.packets ups s)) q.bond.rises;
        below = subst (λ (l : List ℕ). AllBelow next l) (sym (numbers_kept s.packets ups s)) q.bond.below;
        held = record { bulk_out = q.bond.held.rest.bulk_out; bulk_in = q.bond.held.rest.bulk_in; running = q.bond.held.rest.running; side = q.bond.held.rest.side; out = q.bond.held.rest.out; waits = tt; shut = tt };
      };
      awaited = (refl, refl);
    }) q.bond.held.brings
  where
    submits : (e : Endpoint) → Line e (asked_of None e) (messages_beside ups) (answers_beside downs) (device_beside s.packets s)
    submits Control = line_down Control [] s.packets ups downs s refl refl (q.bond.lines.submits Control)
    submits BulkOut = line_down BulkOut [] s.packets ups downs s refl refl (q.bond.lines.submits BulkOut)
    submits BulkIn = line_down BulkIn [] s.packets ups downs s refl refl (q.bond.lines.submits BulkIn)
    submits InterruptIn = subst (λ (l : List Sent). LeftBy [] (events_of InterruptIn (answers_beside downs)) (sent_heads l)) (sym (none_sent ups)) (none_given downs)

quiet_again : (doing : Doing) (notify : Option SubmitHead) (older : List Packet) (next : ℕ) (ups : List up.Message) (downs : List Put) (s : State) → waits_for doing ≡ None → unlinks_for doing ≡ [] → IsAt rests s → Beside doing notify older next ups downs s
    → Quiet notify older next ups downs s
quiet_again doing notify older next ups downs s waits none rest b = record {
  earlier = b.earlier;
  bond = record {
    run = b.bond.run;
    reached = b.bond.reached;
    lines = record { submits = submits; unlinked = sym none ∙ b.bond.lines.unlinked };
    fitting = b.bond.fitting;
    order = b.bond.order;
    fits = b.bond.fits;
    rises = b.bond.rises;
    below = b.bond.below;
    held = record { rest = rest; brings = b.bond.held.brings };
  };
}
  where
    submits : (e : Endpoint) → Line e (asked_by None notify e) ups downs s
    submits Control = subst (λ (o : Option SubmitHead). Line Control (asked_of o Control) ups downs s) waits (b.bond.lines.submits Control)
    submits BulkOut = subst (λ (o : Option SubmitHead). Line BulkOut (asked_of o BulkOut) ups downs s) waits (b.bond.lines.submits BulkOut)
    submits BulkIn = subst (λ (o : Option SubmitHead). Line BulkIn (asked_of o BulkIn) ups downs s) waits (b.bond.lines.submits BulkIn)
    submits InterruptIn = b.bond.lines.submits InterruptIn

at_real : (packets : List Packet) (s : State) → IsAt rests (device_beside packets s) → IsAt rests s
at_real packets s at = record { bulk_out = at.bulk_out; bulk_in = at.bulk_in; running = at.running; side = at.side; out = at.out; waits = tt; shut = tt }

pub rest_quiet : (notify : Option SubmitHead) (older : List Packet) (next : ℕ) (ups : List up.Message) (downs : List Put) (s : State) → Beside (HasRecovery (Stands Resting) None []) notify older next ups downs s → Quiet notify older next ups downs s
rest_quiet notify older next ups downs s b = quiet_again (HasRecovery (Stands Resting) None []) notify older next ups downs s refl refl (at_real b.bond.held.packets s b.bond.held.tie.bond.held) b

pub free_quiet : (notify : Option SubmitHead) (older : List Packet) (next : ℕ) (ups : List up.Message) (downs : List Put) (s : State) → Beside (HasAsk Free None) notify older next ups downs s → Quiet notify older next ups downs s
free_quiet notify older next ups downs s b = quiet_again (HasAsk Free None) notify older next ups downs s refl refl (at_real b.bond.held.packets s b.bond.held.tie.held.1) b

-- ---- what the host does goes on

pub turned : (doing after : Doing) (notify : Option SubmitHead) (older : List Packet) (next : ℕ) (ups : List up.Message) (downs : List Put) (s : State)
    → ((packets : List Packet) (ups : List up.Message) (downs : List Put) → Does doing next ups downs (device_beside packets s) → Does after next ups downs (device_beside packets s)) → Known after notify next → Beside doing notify older next ups downs s → Beside after notify older next ups downs s
turned doing after notify older next ups downs s turns known b =
    build after notify older next b.bond.held.packets b.bond.run ups downs s known b.bond.reached b.bond.fits (b.bond.lines.submits InterruptIn) (turns b.bond.held.packets (messages_beside ups) (answers_beside downs) b.bond.held.tie) b.bond.held.brings

-- ---- what it is given

any_other : (o : Option SubmitHead) → IfAny (λ (head : SubmitHead). IsOther None head) o
any_other None = tt
any_other (Some x) = tt

apart_none : (doing : Doing) (notify : Option SubmitHead) → KeepsApart doing notify → KeepsApart doing None
apart_none doing notify apart = record { other = any_other (waits_for doing); unnamed = none_unnamed (unlinks_for doing); no_status = apart.no_status }

behind_notify : (doing : Doing) (notify : Option SubmitHead) (asked : SubmitHead) (a : RetSubmitHead) (transferred : List ℕ) (older left : List Packet) (next : ℕ) (ups : List up.Message) (downs : List Put) (s : State) → asked.ep ≡ 3 → notify ≡ Some asked
    → Brings left downs s → Beside doing notify older next ups (Submitted asked a transferred ∷ downs) s → Beside doing None left next ups downs s
behind_notify doing notify asked a transferred older left next ups downs s own is brings b =
    build doing None left next b.bond.held.packets b.bond.run ups downs s (record { notices = tt; earlier = tt; apart = apart_none doing notify b.apart }) b.bond.reached b.bond.fits.1 line
    (subst (λ (l : List Put). Does doing next (messages_beside ups) l (device_beside b.bond.held.packets s)) (drop_put asked a transferred downs own) b.bond.held.tie) brings
  where
    queue : List SubmitHead
    queue = heads s.interrupt_in ++ sent_heads (sent_to InterruptIn ups)

    given : LeftBy (asked ∷ []) (Gives asked a transferred ∷ events_of InterruptIn downs) queue
    given = subst (λ (l : List Event). LeftBy (asked ∷ []) l queue) (own_event InterruptIn asked a transferred downs own)
        (subst (λ (o : Option SubmitHead). LeftBy (none_or_one o) (events_of InterruptIn (Submitted asked a transferred ∷ downs)) queue) is (b.bond.lines.submits InterruptIn))

    tail : (x y : SubmitHead) (l : List SubmitHead) → x ∷ [] ≡ y ∷ l → l ≡ []
    tail x y l e = cc

    line : Line InterruptIn [] ups downs s
    line = subst (λ (l : List SubmitHead). LeftBy l (events_of InterruptIn downs) queue) (tail asked asked given.0 given.1) given.2

without_other : (o : Option SubmitHead) (n : ℕ) → IfAny (λ (head : SubmitHead). head.seqnum ≢ n) o → without n (none_or_one o) ≡ none_or_one o
without_other None n h = refl
without_other (Some x) n h = rw (ne_eqb x.seqnum n h) refl

brings_unlinked : (l : List Packet) (asked : UnlinkHead) (a : RetUnlinkHead) (downs : List Put) (s : State) → Brings l (Unlinked asked a ∷ downs) s → Brings l downs s
brings_unlinked l asked a downs s b = record { sent = b.sent; carried = b.carried; queued = b.queued; usual = b.usual.1 }

brings_other : (n : ℕ) (l : List Packet) (head : SubmitHead) (a : RetSubmitHead) (transferred : List ℕ) (downs : List Put) (s : State) → head.ep ≡ n → eqb n 3 ≡ false → Brings l (Submitted head a transferred ∷ downs) s → Brings l downs s
brings_other n l head a transferred downs s own other b = record {
  sent = b.sent;
  carried = ap (λ (x : List Event). packets_in x) (sym (other_event InterruptIn head a transferred downs n own other)) ∙ b.carried;
  queued = b.queued;
  usual = b.usual.1;
}

pub beside_given : (doing : Doing) (notify : Option SubmitHead) (older : List Packet) (put : Put) (next : ℕ) (ups : List up.Message) (downs : List Put) (s : State) → Beside doing notify older next ups (put ∷ downs) s
    → GivesBeside doing notify older put next ups downs s
beside_given doing notify older (Unlinked asked a) next ups downs s b =
    DoesAsIt b.bond.held.packets b.bond.held.tie (λ after does apart. build after notify older next b.bond.held.packets b.bond.run ups downs s (record { notices = b.notices; earlier = b.earlier; apart = apart }) b.bond.reached b.bond.fits.1 line does
    (brings_unlinked older asked a downs s b.bond.held.brings))
  where
    names : NamesOther notify asked
    names = (subst (λ (l : List UnlinkHead). AllUnlinks (λ (unlink : UnlinkHead). NamesOther notify unlink) l) b.bond.lines.unlinked b.apart.unnamed).0

    line : Line InterruptIn (none_or_one notify) ups downs s
    line = subst (λ (l : List SubmitHead). LeftBy l (events_of InterruptIn downs) (heads s.interrupt_in ++ sent_heads (sent_to InterruptIn ups))) (without_other notify asked.target names) (b.bond.lines.submits InterruptIn)
beside_given doing notify older (Submitted asked a transferred) next ups downs s b = by fits.endpoint refl
  where
    fits : Fitting asked
    fits = b.bond.fits.0.0

    elsewhere : (n : ℕ) → asked.ep ≡ n → eqb n 3 ≡ false → GivesBeside doing notify older (Submitted asked a transferred) next ups downs s
    elsewhere n own other =
        let line : Line InterruptIn (none_or_one notify) ups downs s =
        subst (λ (l : List Event). LeftBy (none_or_one notify) l (heads s.interrupt_in ++ sent_heads (sent_to InterruptIn ups))) (other_event InterruptIn asked a transferred downs n own other) (b.bond.lines.submits InterruptIn) in
        DoesAsIt b.bond.held.packets (subst (λ (l : List Put). Does doing next (messages_beside ups) l (device_beside b.bond.held.packets s)) (keep_put n asked a transferred downs own other) b.bond.held.tie)
        (λ after does apart. build after notify older next b.bond.held.packets b.bond.run ups downs s (record { notices = b.notices; earlier = b.earlier; apart = apart }) b.bond.reached b.bond.fits.1 line does
        (brings_other n older asked a transferred downs s own other b.bond.held.brings))

    which : asked.ep ≡ 3 → notify ≡ Some asked → First older a transferred downs s → GivesBeside doing notify older (Submitted asked a transferred) next ups downs s
    which own is (FirstService byte good text brings) =
        ServiceBeside asked a byte is (ap (λ (l : List ℕ). Submitted asked a l) text) good (behind_notify doing notify asked a transferred older older next ups downs s own is brings b)
    which own is (FirstStatus tag byte others good line text brings) =
        OlderBeside asked a (StatusPacket tag byte) others is (ap (λ (l : List ℕ). Submitted asked a l) text) good line (behind_notify doing notify asked a transferred older others next ups downs s own is brings b)
    which own is (FirstHalt halted brings) = HaltBeside asked a transferred is refl halted (behind_notify doing notify asked a transferred older older next ups downs s own is brings b)

    by : (e : Endpoint) → fits.endpoint ≡ e → GivesBeside doing notify older (Submitted asked a transferred) next ups downs s
    by Control is = elsewhere 0 (fits.number ∙ ap number_of is) refl
    by BulkOut is = elsewhere 1 (fits.number ∙ ap number_of is) refl
    by BulkIn is = elsewhere 2 (fits.number ∙ ap number_of is) refl
    by InterruptIn is =
        let own : asked.ep ≡ 3 = fits.number ∙ ap number_of is in
        let e = first_asked_by (asked_beside (waits_for doing) notify) (unlinks_for doing) _ asked a transferred next ups downs s InterruptIn own b.bond in
        which own (one_only notify asked e.0 e.1) (first older asked a transferred downs s own b.bond.held.brings)

-- ---- what it writes

sent-append : (e : Endpoint) (a b : List up.Message) → sent_to e (a ++ b) ≡ sent_to e a ++ sent_to e b
sent-append e [] b = refl
sent-append e (up.Unlink head ∷ a) b = sent-append e a b
sent-append e (up.Submit head transferred ∷ a) b = by (eqb head.ep (number_of e)) (sent-append e a b)
  where
    by : (c : Bool) → sent_to e (a ++ b) ≡ sent_to e a ++ sent_to e b
        → cond c (record { head = head; transferred = transferred } ∷ sent_to e (a ++ b)) (sent_to e (a ++ b)) ≡ cond c (record { head = head; transferred = transferred } ∷ sent_to e a) (sent_to e a) ++ sent_to e b
    by true h = ap (λ (l : List Sent). record { head = head; transferred = transferred } ∷ l) h
    by false h = h

none_there : (message : up.Message) → IsElsewhere message → (sent_to InterruptIn (message ∷ []) ≡ []) × (messages_beside (message ∷ []) ≡ message ∷ [])
none_there (up.Submit head transferred) other = let e : eqb head.ep 3 ≡ false = ne_eqb head.ep 3 other in (rw e refl, rw e refl)
none_there (up.Unlink head) other = (refl, refl)

pub beside_written : (before after : Doing) (notify : Option SubmitHead) (older : List Packet) (next later : ℕ) (message : up.Message) (ups : List up.Message) (downs : List Put) (s : State) → IsElsewhere message → KeepsApart after notify → next ≤ later
    → ((ups : List up.Message) (downs : List Put) (s : State) → Does before next ups downs s → Does after later (ups ++ message ∷ []) downs s)
    → Beside before notify older next ups downs s → Beside after notify older later (ups ++ message ∷ []) downs s
beside_written before after notify older next later message ups downs s other apart more writes b =
    let none = none_there message other in
    build after notify older later b.bond.held.packets b.bond.run (ups ++ message ∷ []) downs s (record { notices = b.notices; earlier = still notify b.earlier; apart = apart }) b.bond.reached b.bond.fits
    (subst (λ (l : List Sent). LeftBy (none_or_one notify) (events_of InterruptIn downs) (heads s.interrupt_in ++ sent_heads l))
    (sym (sent-append InterruptIn ups (message ∷ []) ∙ ap (λ (l : List Sent). sent_to InterruptIn ups ++ l) none.0 ∙ append-nil (sent_to InterruptIn ups))) (b.bond.lines.submits InterruptIn))
    (subst (λ (l : List up.Message). Does after later l (answers_beside downs) (device_beside b.bond.held.packets s)) (sym (messages-append ups (message ∷ []) ∙ ap (λ (l : List up.Message). messages_beside ups ++ l) none.1))
    (writes (messages_beside ups) (answers_beside downs) (device_beside b.bond.held.packets s) b.bond.held.tie)) b.bond.held.brings
  where
    still : (o : Option SubmitHead) → IsEarlier o next → IsEarlier o later
    still None h = tt
    still (Some x) h = omega (arith, h, more)

-- a number may be left out
below_more : (n : ℕ) (l : List ℕ) → AllBelow n l → AllBelow (n + 1) l
below_more n [] h = tt
below_more n (x ∷ l) h = (omega (arith, h.0), below_more n l h.1)

bond_more : (Holds : List up.Message → List Put → State → Type 0) (asked : Endpoint → List SubmitHead) (unlinks : List UnlinkHead) (next : ℕ) (ups : List up.Message) (downs : List Put) (s : State) → Bond Holds asked unlinks next ups downs s
    → Bond Holds asked unlinks (next + 1) ups downs s
bond_more Holds asked unlinks next ups downs s b = record {
  run = b.run;
  reached = b.reached;
  lines = b.lines;
  fitting = b.fitting;
  order = b.order;
  fits = b.fits;
  rises = b.rises;
  below = below_more next (numbers s ups) b.below;
  held = b.held;
}

pub does_more : (doing : Doing) (next : ℕ) (ups : List up.Message) (downs : List Put) (s : State) → Does doing next ups downs s → Does doing (next + 1) ups downs s
does_more (HasAsk hand waits) next ups downs s tie = record {
  run = tie.run;
  reached = tie.reached;
  lines = tie.lines;
  fitting = tie.fitting;
  good = tie.good;
  out_usable = tie.out_usable;
  in_usable = tie.in_usable;
  rises = tie.rises;
  below = below_more next (numbers s ups) tie.below;
  held = tie.held;
}
does_more (HasRecovery situation waits unlinks) next ups downs s bound = record { bond = bond_more _ _ _ next ups downs s bound.bond; awaited = bound.awaited }
does_more (HasTicket (Acts act since head)) next ups downs s o = record { asks = o.asks; bond = bond_more _ _ _ next ups downs s o.bond }
does_more (HasTicket (ActRaces act since head unlink)) next ups downs s o = record { asks = o.asks; names = o.names; bond = bond_more _ _ _ next ups downs s o.bond }
does_more (HasTicket (ActIsLate act since unlink)) next ups downs s bond = bond_more _ _ _ next ups downs s bond
does_more (HasTicket (Triggers job)) next ups downs s o = record { trigger = o.trigger; bond = bond_more _ _ _ next ups downs s o.bond }
does_more (HasTicket (TriggerRaces job unlink)) next ups downs s o = record { trigger = o.trigger; names = o.names; bond = bond_more _ _ _ next ups downs s o.bond }
does_more (HasTicket (TriggerIsLate counted n unlink)) next ups downs s bond = bond_more _ _ _ next ups downs s bond

not_named : (head : SubmitHead) (a b : List UnlinkHead) → AllUnlinks (λ (unlink : UnlinkHead). NamesOther (Some head) unlink) (a ++ b) → IsNamed a head.seqnum → ⊥
not_named head [] b h named = named
not_named head (x ∷ a) b h (inl is) = h.0 (sym is)
not_named head (x ∷ a) b h (inr more) = not_named head a b h.1 more

pub beside_notified : (doing : Doing) (head : SubmitHead) (older : List Packet) (next : ℕ) (ups : List up.Message) (downs : List Put) (s : State) → IsNotify head → head.seqnum ≡ next → KeepsApart doing (Some head)
    → Beside doing None older next ups downs s → Beside doing (Some head) older (next + 1) (ups ++ up.Submit head [] ∷ []) downs s
beside_notified doing head older next ups downs s is number apart b =
    let unlinked = b.bond.lines.unlinked in
    let unnamed = subst (λ (l : List UnlinkHead). AllUnlinks (λ (unlink : UnlinkHead). NamesOther (Some head) unlink) l) unlinked apart.unnamed in
    let lines = submit_written (asked_beside (waits_for doing) None) (asked_beside (waits_for doing) (Some head)) (unlinks_for doing) ups downs s InterruptIn head [] is.number refl kept
    (not_named head (unlinked_by downs) (unlinks_in ups) unnamed) b.bond.lines in
    build doing (Some head) older (next + 1) b.bond.held.packets b.bond.run (ups ++ up.Submit head [] ∷ []) downs s (record { notices = is; earlier = omega (arith, number); apart = apart }) b.bond.reached b.bond.fits (lines.submits InterruptIn)
    (subst (λ (l : List up.Message). Does doing (next + 1) l (answers_beside downs) (device_beside b.bond.held.packets s))
    (sym (messages-append ups (up.Submit head [] ∷ []) ∙ ap (λ (l : List up.Message). messages_beside ups ++ l) (drop_message head [] is.number) ∙ append-nil (messages_beside ups)))
    (does_more doing next (messages_beside ups) (answers_beside downs) (device_beside b.bond.held.packets s) b.bond.held.tie)) b.bond.held.brings
  where
    kept : (d : Endpoint) → d ≢ InterruptIn → asked_beside (waits_for doing) (Some head) d ≡ asked_beside (waits_for doing) None d
    kept Control differ = refl
    kept BulkOut differ = refl
    kept BulkIn differ = refl
    kept InterruptIn differ = absurd (differ refl)

-- ---- over a link

one_at : (waits : Option SubmitHead) (e : Endpoint) (P : SubmitHead → Type 0) → IfAny P waits → AllHeads P (asked_of waits e)
one_at None e P h = tt
one_at (Some x) e P h = by (eqb x.ep (number_of e))
  where
    by : (b : Bool) → AllHeads P (cond b (x ∷ []) [])
    by true = (h, tt)
    by false = tt

pub apart_beside : (waits notify : Option SubmitHead) → IfAny (λ (head : SubmitHead). IsOther notify head) waits → AreApart (asked_beside waits notify)
apart_beside waits notify other = record { rising = rising; apart = apart }
  where
    one_rises : (o : Option SubmitHead) → Rising (none_or_one o)
    one_rises None = tt
    one_rises (Some x) = (tt, tt)

    rising : (e : Endpoint) → Rising (asked_beside waits notify e)
    rising Control = rising_asked waits Control
    rising BulkOut = rising_asked waits BulkOut
    rising BulkIn = rising_asked waits BulkIn
    rising InterruptIn = one_rises notify

    there : (o p : Option SubmitHead) → IfAny (λ (head : SubmitHead). IsOther p head) o → IfAny (λ (head : SubmitHead). NoneNumbered head.seqnum (none_or_one p)) o
    there None p h = tt
    there (Some x) None h = tt
    there (Some x) (Some y) h = (h, tt)

    back : (e : Endpoint) (o p : Option SubmitHead) → IfAny (λ (head : SubmitHead). IsOther p head) o → AllHeads (λ (head : SubmitHead). NoneNumbered head.seqnum (asked_of o e)) (none_or_one p)
    back e o None h = tt
    back e None (Some y) h = (tt, tt)
    back e (Some x) (Some y) h = (by (eqb x.ep (number_of e)), tt)
      where
        by : (b : Bool) → NoneNumbered y.seqnum (cond b (x ∷ []) [])
        by true = ((λ k. h (sym k)), tt)
        by false = tt

    apart : (d e : Endpoint) → d ≢ e → AllHeads (λ (head : SubmitHead). NoneNumbered head.seqnum (asked_beside waits notify e)) (asked_beside waits notify d)
    apart Control Control differ = absurd (differ refl)
    apart Control BulkOut differ = apart_asked waits Control BulkOut differ
    apart Control BulkIn differ = apart_asked waits Control BulkIn differ
    apart Control InterruptIn differ = one_at waits Control _ (there waits notify other)
    apart BulkOut Control differ = apart_asked waits BulkOut Control differ
    apart BulkOut BulkOut differ = absurd (differ refl)
    apart BulkOut BulkIn differ = apart_asked waits BulkOut BulkIn differ
    apart BulkOut InterruptIn differ = one_at waits BulkOut _ (there waits notify other)
    apart BulkIn Control differ = apart_asked waits BulkIn Control differ
    apart BulkIn BulkOut differ = apart_asked waits BulkIn BulkOut differ
    apart BulkIn BulkIn differ = absurd (differ refl)
    apart BulkIn InterruptIn differ = one_at waits BulkIn _ (there waits notify other)
    apart InterruptIn Control differ = back Control waits notify other
    apart InterruptIn BulkOut differ = back BulkOut waits notify other
    apart InterruptIn BulkIn differ = back BulkIn waits notify other
    apart InterruptIn InterruptIn differ = absurd (differ refl)

few_beside : (waits notify : Option SubmitHead) → total_of (asked_beside waits notify) ≤ pending_most
few_beside waits notify = omega (arith, few_asked waits Control, few_asked waits BulkOut, few_asked waits BulkIn, one notify)
  where
    one : (o : Option SubmitHead) → length (none_or_one o) ≤ 1
    one None = omega arith
    one (Some x) = omega arith

pub beside_kept : (Kind : List Entry → Type 0) → IsKind Kind → Never → (doing : Doing) (notify : Option SubmitHead) (older : List Packet) (next : ℕ)
    → ((run : List Entry) (ups : List up.Message) (downs : List Put) (s t : State) → Runs s run t → Kind run → Beside doing notify older next (inputs run ++ ups) downs s → Beside doing notify older next ups (downs ++ outputs run) t)
    → IsKept Kind (λ ups downs t. Beside doing notify older next ups downs t)
beside_kept Kind kind never doing notify older next goes = record {
  kind = kind;
  goes = goes;
  taken = λ x transferred ups downs s f b over.
      never (asked_beside (waits_for doing) notify) (unlinks_for doing) x transferred ups downs s f b.bond.fitting.0 (apart_beside (waits_for doing) notify b.apart.other) (few_beside (waits_for doing) notify) b.bond.lines over;
}

-- an entry that is found among the first ones is found
found_first : (n : ℕ) (a b : List Outstanding) (x : Outstanding) → find n a ≡ Some x → find n (a ++ b) ≡ Some x
found_first n [] b x e = absurd (cc)
found_first n (y ∷ a) b x e = by (eqb (dirs.number_of y) n) (λ k. found_first n a b x k) e
  where
    by : (c : Bool) → (find n a ≡ Some x → find n (a ++ b) ≡ Some x) → cond c (Some y) (find n a) ≡ Some x → cond c (Some y) (find n (a ++ b)) ≡ Some x
    by true rest k = k
    by false rest k = rest k

found_behind : (n : ℕ) (a b : List Outstanding) → find n a ≡ None → find n (a ++ b) ≡ find n b
found_behind n [] b e = refl
found_behind n (y ∷ a) b e = by (eqb (dirs.number_of y) n) (λ k. found_behind n a b k) e
  where
    by : (c : Bool) → (find n a ≡ None → find n (a ++ b) ≡ find n b) → cond c (Some y) (find n a) ≡ None → cond c (Some y) (find n (a ++ b)) ≡ find n b
    by true rest k = absurd (cc)
    by false rest k = rest k

no_unlink_found : (n : ℕ) (unlinks : List UnlinkHead) → AllUnlinks (λ (unlink : UnlinkHead). n ≢ unlink.seqnum) unlinks → find n (unlink_entries unlinks) ≡ None
no_unlink_found n [] h = refl
no_unlink_found n (x ∷ unlinks) h = rw (ne_eqb x.seqnum n (λ e. h.0 (sym e))) (no_unlink_found n unlinks h.1)

none_before : (n : ℕ) (waits : Option SubmitHead) (unlinks : List UnlinkHead) → IfAny (λ (head : SubmitHead). n ≢ head.seqnum) waits → AllUnlinks (λ (unlink : UnlinkHead). n ≢ unlink.seqnum) unlinks → find n (entries_of waits unlinks) ≡ None
none_before n None unlinks h k = no_unlink_found n unlinks k
none_before n (Some x) unlinks h k = rw (ne_eqb x.seqnum n (λ e. h (sym e))) (no_unlink_found n unlinks k)

its_first : (e : Endpoint) (o : Option SubmitHead) (head : SubmitHead) (rest : List SubmitHead) → asked_of o e ≡ head ∷ rest → o ≡ Some head
its_first e None head rest k = absurd (cc)
its_first e (Some x) head rest k = at (eqb x.ep (number_of e)) k
  where
    at : (c : Bool) → cond c (x ∷ []) [] ≡ head ∷ rest → Some x ≡ Some head
    at true j = let same : x ≡ head = cc in ap (λ (y : SubmitHead). Some y) same
    at false j = absurd (cc)

-- the answer to one of two submits is spelled as one to what is not answered
pub submit_spelled : (waits notify : Option SubmitHead) (unlinks : List UnlinkHead) → IfAny (λ (head : SubmitHead). IsOther notify head) waits → AreAllApart waits notify unlinks → (asked : SubmitHead) (a : RetSubmitHead) (transferred bytes : List ℕ) → a.seqnum ≡ asked.seqnum
    → (waits ≡ Some asked) ⊎ (notify ≡ Some asked) → SpellsPut (Submitted asked a transferred) bytes → SpellsAnswer (entries_of waits unlinks ++ entries_for notify) (down.RetSubmit a transferred) bytes
submit_spelled waits notify unlinks other apart asked a transferred bytes number which spelled = by which
  where
    Goal : Type 0
    Goal = SpellsAnswer (entries_of waits unlinks ++ entries_for notify) (down.RetSubmit a transferred) bytes

    entry : Outstanding
    entry = outstanding.Submit asked.seqnum asked.dir asked.length

    spells : find a.seqnum (entries_of waits unlinks ++ entries_for notify) ≡ Some entry → Goal
    spells e = (record { dir = asked.dir; size = asked.length }, ap (λ (o : Option Outstanding). submit_of o) e, spelled)

    own : (o : Option SubmitHead) → o ≡ Some asked → find a.seqnum (entries_of o unlinks) ≡ Some entry
    own None e = absurd (cc)
    own (Some x) e = let same : x ≡ asked = cc in subst (λ (y : SubmitHead). find a.seqnum (entries_of (Some y) unlinks) ≡ Some entry) (sym same) (rw (eq-eqb asked.seqnum a.seqnum (sym number)) refl)

    its_other : (o : Option SubmitHead) → IfAny (λ (head : SubmitHead). IsOther (Some asked) head) o → IfAny (λ (head : SubmitHead). a.seqnum ≢ head.seqnum) o
    its_other None h = tt
    its_other (Some x) h = λ e. h (sym number ∙ e)

    its_unlinks : (l : List UnlinkHead) → AllUnlinks (λ (unlink : UnlinkHead). asked.seqnum ≢ unlink.seqnum) l → AllUnlinks (λ (unlink : UnlinkHead). a.seqnum ≢ unlink.seqnum) l
    its_unlinks l h = subst (λ (n : ℕ). AllUnlinks (λ (unlink : UnlinkHead). n ≢ unlink.seqnum) l) (sym number) h

    by : (waits ≡ Some asked) ⊎ (notify ≡ Some asked) → Goal
    by (inl is) = spells (found_first a.seqnum (entries_of waits unlinks) (entries_for notify) entry (own waits is))
    by (inr is) =
        spells (found_behind a.seqnum (entries_of waits unlinks) (entries_for notify)
        (none_before a.seqnum waits unlinks (its_other waits (subst (λ (o : Option SubmitHead). IfAny (λ (head : SubmitHead). IsOther o head) waits) is other))
        (its_unlinks unlinks (subst (λ (o : Option SubmitHead). IfAny (λ (head : SubmitHead). AllUnlinks (λ (unlink : UnlinkHead). head.seqnum ≢ unlink.seqnum) unlinks) o) is apart.notify_apart)))
        ∙ ap (λ (o : Option SubmitHead). find a.seqnum (entries_for o)) is ∙ rw (eq-eqb asked.seqnum a.seqnum (sym number)) refl)

-- the first answer is spelled as one to what is not answered
pub pair_spelled : (Holds : List up.Message → List Put → State → Type 0) (asked_at : Endpoint → List SubmitHead) (waits notify : Option SubmitHead) (unlinks : List UnlinkHead) (next : ℕ) → IfAny (λ (head : SubmitHead). IsOther notify head) waits → AreAllApart waits notify unlinks
    → ((e : Endpoint) (head : SubmitHead) (rest : List SubmitHead) → e ≢ InterruptIn → asked_at e ≡ head ∷ rest → waits ≡ Some head) → asked_at InterruptIn ≡ none_or_one notify
    → (put : Put) (ups : List up.Message) (downs : List Put) (s : State) (bytes : List ℕ) → Bond Holds asked_at unlinks next ups (put ∷ downs) s → SpellsPut put bytes → SpellsAnswer (entries_of waits unlinks ++ entries_for notify) (message_of put) bytes
pair_spelled Holds asked_at waits notify unlinks next other apart firsts last (Unlinked asked a) ups downs s bytes b spelled = (found, spelled)
  where
    number : a.seqnum ≡ asked.seqnum
    number = b.fits.0.number

    here : find a.seqnum (unlink_entries unlinks) ≡ Some (outstanding.Unlink asked.seqnum)
    here = ap (λ (l : List UnlinkHead). find a.seqnum (unlink_entries l)) b.lines.unlinked ∙ (rw (eq-eqb asked.seqnum a.seqnum (sym number)) refl)

    its : (head : SubmitHead) → AllUnlinks (λ (unlink : UnlinkHead). head.seqnum ≢ unlink.seqnum) unlinks → head.seqnum ≢ a.seqnum
    its head h e = (subst (λ (l : List UnlinkHead). AllUnlinks (λ (unlink : UnlinkHead). head.seqnum ≢ unlink.seqnum) l) b.lines.unlinked h).0 (e ∙ number)

    skip : (o : Option SubmitHead) → IfAny (λ (head : SubmitHead). AllUnlinks (λ (unlink : UnlinkHead). head.seqnum ≢ unlink.seqnum) unlinks) o → find a.seqnum (entries_of o unlinks) ≡ Some (outstanding.Unlink asked.seqnum)
    skip None h = here
    skip (Some x) h = rw (ne_eqb x.seqnum a.seqnum (its x h)) here

    found : is_unlink (find a.seqnum (entries_of waits unlinks ++ entries_for notify)) ≡ true
    found = ap (λ (o : Option Outstanding). is_unlink o) (found_first a.seqnum (entries_of waits unlinks) (entries_for notify) (outstanding.Unlink asked.seqnum) (skip waits apart.waits_apart))
pair_spelled Holds asked_at waits notify unlinks next other apart firsts last (Submitted asked a transferred) ups downs s bytes b spelled = by fits.endpoint refl
  where
    fits : Fitting asked
    fits = b.fits.0.0

    Goal : Type 0
    Goal = SpellsAnswer (entries_of waits unlinks ++ entries_for notify) (down.RetSubmit a transferred) bytes

    its : (waits ≡ Some asked) ⊎ (notify ≡ Some asked) → Goal
    its which = submit_spelled waits notify unlinks other apart asked a transferred bytes b.fits.0.1.number which spelled

    at : (e : Endpoint) → asked.ep ≡ number_of e → e ≢ InterruptIn → Goal
    at e own_end elsewhere = let x = first_asked_by asked_at unlinks Holds asked a transferred next ups downs s e own_end b in its (inl (firsts e asked x.0 elsewhere x.1))

    by : (e : Endpoint) → fits.endpoint ≡ e → Goal
    by Control is = at Control (fits.number ∙ ap number_of is) (λ e. cc)
    by BulkOut is = at BulkOut (fits.number ∙ ap number_of is) (λ e. cc)
    by BulkIn is = at BulkIn (fits.number ∙ ap number_of is) (λ e. cc)
    by InterruptIn is =
        let x = first_asked_by asked_at unlinks Holds asked a transferred next ups downs s InterruptIn (fits.number ∙ ap number_of is) b in
        its (inr (one_only notify asked x.0 (sym last ∙ x.1)))

first_of_waits : (waits notify : Option SubmitHead) (e : Endpoint) (head : SubmitHead) (rest : List SubmitHead) → e ≢ InterruptIn → asked_beside waits notify e ≡ head ∷ rest → waits ≡ Some head
first_of_waits waits notify Control head rest elsewhere is = its_first Control waits head rest is
first_of_waits waits notify BulkOut head rest elsewhere is = its_first BulkOut waits head rest is
first_of_waits waits notify BulkIn head rest elsewhere is = its_first BulkIn waits head rest is
first_of_waits waits notify InterruptIn head rest elsewhere is = absurd (elsewhere refl)

pub beside_spelled : (doing : Doing) (notify : Option SubmitHead) (older : List Packet) (next : ℕ) → AreAllApart (waits_for doing) notify (unlinks_for doing) → Spelled (λ ups downs t. Beside doing notify older next ups downs t) (entries_beside doing notify)
beside_spelled doing notify older next apart put ups downs s bytes b spelled =
    pair_spelled _ (asked_beside (waits_for doing) notify) (waits_for doing) notify (unlinks_for doing) next b.apart.other apart (first_of_waits (waits_for doing) notify) refl put ups downs s bytes b.bond spelled

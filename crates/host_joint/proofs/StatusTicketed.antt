-- a status read in any of its situations, until the device is unplugged and over a link
use Rattle.std.proofs.Common.{◌≡◌, ◌≢◌, ◌∙◌, ◌⊎◌, inl, inr, ℕ, Bool, true, false, Option, Some, None, List, [], ◌∷◌, ◌++◌, refl, ap, sym, subst, append_assoc, append-nil}
use Rattle.usbip_wire.specs.declared.submit.SubmitHead.{SubmitHead}
use Rattle.usbip_wire.specs.declared.unlink.UnlinkHead.{UnlinkHead}
use Rattle.usbip_wire.specs.Up as up
use Rattle.usbip_wire.specs.Down.{SpellsAnswer}
use Rattle.tmc_law.specs.Endpoint.{Endpoint, Control, BulkOut, BulkIn, InterruptIn}
use Rattle.tmc_law.specs.State.{State, Pending, Packet}
use Rattle.tmc_law.specs.Put.{Put, ended, unplugged}
use Rattle.tmc_law.specs.Halts.{all_ended, unplug_answers}
use Rattle.tmc_law.specs.Laws.{message_of}
use Rattle.tmc_law.specs.Run.{SpellsPut}
use Rattle.host_joint.specs.Lines.{heads, Lines, AllFitting}
use Rattle.host_joint.specs.Joint.{entries_for, entries_of}
use Rattle.host_joint.specs.Unplugged.{Until, TellsUnplugged, TellsOf, TellsBoth, TellsOne, TellsTwo, TellsNotify, NextBoth, BothPlugged, BothBefore, BothBehind}
use Rattle.host_joint.specs.StatusReads.{while, none_or_one, asked_by, IsOther}
use Rattle.host_joint.specs.Beside.{IfAny, AreAllApart}
use Rattle.host_joint.specs.StatusTickets.{StatusTicket, NoRead, HasRead, StopsRead, StopsLate, StatusHolds, request_for, unlinks_of_read, entries_with}
use Rattle.host_joint.proofs.Until.{its_answer}
use Rattle.host_joint.proofs.Joining.{Never}
use Rattle.host_joint.proofs.UntilJoined.{NeverOver, Spelled}
use Rattle.host_joint.proofs.StatusTied.{apart_by, few_by, one_only}
use Rattle.host_joint.proofs.Besides.{submit_spelled, pair_spelled}

-- ---- two submits are told of the unplugging, one behind the other

told_of : (asked : Option SubmitHead) (put : Put) (downs : List Put) → TellsUnplugged asked put downs → TellsOf asked put
told_of asked put downs t = record { head = t.head; answer = t.answer; transferred = t.transferred; is = t.is; awaited = t.awaited; number = t.number; status = t.status }

-- a queue has nothing, or the one submit that is not answered
data OneOf (asked : Option SubmitHead) (queue : List Pending) : Type 0 where
  NoneOf : queue ≡ [] → OneOf asked queue
  ThisOf : (x : Pending) → queue ≡ x ∷ [] → asked ≡ Some x.head → OneOf asked queue

one_of : (asked : Option SubmitHead) (queue : List Pending) (more : List SubmitHead) → heads queue ++ more ≡ none_or_one asked → OneOf asked queue
one_of asked [] more line = NoneOf refl
one_of None (x ∷ queue) more line = absurd (cc)
one_of (Some head) (x ∷ []) more line = ThisOf x refl (one_only (Some head) x.head more (sym line))
one_of (Some head) (x ∷ y ∷ queue) more line = absurd (cc)

cons_parts : (x y : Put) (l m : List Put) → x ∷ l ≡ y ∷ m → (x ≡ y) × (l ≡ m)
cons_parts x y l m e = (cc, cc)

told_one : (asked : Option SubmitHead) (x : Pending) (put : Put) (downs : List Put) → asked ≡ Some x.head → ended unplugged x ∷ [] ≡ put ∷ downs → TellsUnplugged asked put downs
told_one asked x put downs is e = subst (λ (o : Option SubmitHead). TellsUnplugged o put downs) (sym is) (its_answer x.head x put downs refl e)

pub tells_both : (waits notify : Option SubmitHead) (front : List Put) (queue : List Pending) (more : List SubmitHead) → ((put : Put) (downs : List Put) → front ≡ put ∷ downs → TellsUnplugged waits put downs) → heads queue ++ more ≡ none_or_one notify
    → (put : Put) (downs : List Put) → front ++ all_ended unplugged queue ≡ put ∷ downs → TellsBoth waits notify put downs
tells_both waits notify [] queue more told line put downs is = by (one_of notify queue more line)
  where
    by : OneOf notify queue → TellsBoth waits notify put downs
    by (NoneOf none) = let e : all_ended unplugged [] ≡ put ∷ downs = ap (λ (q : List Pending). all_ended unplugged q) (sym none) ∙ is in absurd (cc)
    by (ThisOf x this own) =
        let t = told_one notify x put downs own (ap (λ (q : List Pending). all_ended unplugged q) (sym this) ∙ is) in TellsNotify (told_of notify put downs t) t.last
tells_both waits notify (p ∷ rest) queue more told line put downs is = by (one_of notify queue more line)
  where
    first : TellsUnplugged waits p rest
    first = told p rest refl

    same : (p ≡ put) × (rest ++ all_ended unplugged queue ≡ downs)
    same = cons_parts p put (rest ++ all_ended unplugged queue) downs is

    behind : all_ended unplugged queue ≡ downs
    behind = ap (λ (l : List Put). l ++ all_ended unplugged queue) (sym first.last) ∙ same.1

    one : TellsOf waits put
    one = subst (λ (x : Put). TellsOf waits x) same.0 (told_of waits p rest first)

    by : OneOf notify queue → TellsBoth waits notify put downs
    by (NoneOf none) = TellsOne one (sym behind ∙ ap (λ (q : List Pending). all_ended unplugged q) none)
    by (ThisOf x this own) =
        TellsTwo (ended unplugged x) one (told_of notify (ended unplugged x) [] (told_one notify x (ended unplugged x) [] own refl)) (sym behind ∙ ap (λ (q : List Pending). all_ended unplugged q) this)

pub together : (a b c d : List Put) → a ++ (b ++ (c ++ d)) ≡ (a ++ (b ++ c)) ++ d
together a b c d = ap (λ (l : List Put). a ++ l) (sym (append_assoc b c d)) ∙ sym (append_assoc a (b ++ c) d)

-- ---- what each situation says

pub status_lines : (ticket : StatusTicket) (notify : Option SubmitHead) (older : List Packet) (next : ℕ) (ups : List up.Message) (downs : List Put) (s : State) → StatusHolds ticket notify older next ups downs s → Lines (asked_by (request_for ticket) notify) (unlinks_of_read ticket) ups downs s
status_lines NoRead notify older next ups downs s r = r.bond.lines
status_lines (HasRead read waits got) notify older next ups downs s r = r.bond.lines
status_lines (StopsRead read unlink waits got) notify older next ups downs s r = r.bond.lines
status_lines (StopsLate unlink) notify older next ups downs s r = r.bond.lines

status_fitting : (ticket : StatusTicket) (notify : Option SubmitHead) (older : List Packet) (next : ℕ) (ups : List up.Message) (downs : List Put) (s : State) → StatusHolds ticket notify older next ups downs s → AllFitting ups
status_fitting NoRead notify older next ups downs s r = r.bond.fitting
status_fitting (HasRead read waits got) notify older next ups downs s r = r.bond.fitting
status_fitting (StopsRead read unlink waits got) notify older next ups downs s r = r.bond.fitting
status_fitting (StopsLate unlink) notify older next ups downs s r = r.bond.fitting

while_other : (notify : Option SubmitHead) (waits : Bool) (head : SubmitHead) → IsOther notify head → IfAny (λ (x : SubmitHead). IsOther notify x) (while waits head)
while_other notify true head other = other
while_other notify false head other = tt

status_other : (ticket : StatusTicket) (notify : Option SubmitHead) (older : List Packet) (next : ℕ) (ups : List up.Message) (downs : List Put) (s : State) → StatusHolds ticket notify older next ups downs s → IfAny (λ (x : SubmitHead). IsOther notify x) (request_for ticket)
status_other NoRead notify older next ups downs s r = tt
status_other (HasRead read waits got) notify older next ups downs s r = while_other notify waits read.head r.other
status_other (StopsRead read unlink waits got) notify older next ups downs s r = while_other notify waits read.head r.other
status_other (StopsLate unlink) notify older next ups downs s r = tt

if_any : (P : SubmitHead → Type 0) (o : Option SubmitHead) → IfAny P o → (head : SubmitHead) → o ≡ Some head → P head
if_any P o h head is = subst (λ (x : Option SubmitHead). IfAny P x) is h

pub status_never : Never → (ticket : StatusTicket) (notify : Option SubmitHead) (older : List Packet) (next : ℕ) → NeverOver (λ ups downs s. StatusHolds ticket notify older next ups downs s)
status_never never ticket notify older next head transferred ups downs s f r over =
    never (asked_by (request_for ticket) notify) (unlinks_of_read ticket) head transferred ups downs s f (status_fitting ticket notify older next (up.Submit head transferred ∷ ups) downs s r).0
    (apart_by (request_for ticket) notify (if_any (λ (x : SubmitHead). IsOther notify x) (request_for ticket) (status_other ticket notify older next (up.Submit head transferred ∷ ups) downs s r))) (few_by (request_for ticket) notify)
    (status_lines ticket notify older next (up.Submit head transferred ∷ ups) downs s r) over

-- ---- the next answer

none_pends : (queue : List Pending) (more : List SubmitHead) → heads queue ++ more ≡ [] → all_ended unplugged queue ≡ []
none_pends [] more line = refl
none_pends (x ∷ queue) more line = absurd (cc)

status_told : (request notify : Option SubmitHead) (unlinks : List UnlinkHead) (put : Put) (ups : List up.Message) (downs : List Put) (s : State) → Lines (asked_by request notify) unlinks ups [] s → unplug_answers s ≡ put ∷ downs → TellsBoth request notify put downs
status_told request notify unlinks put ups downs s lines is =
    tells_both request notify (all_ended unplugged s.control ++ (all_ended unplugged s.bulk_out ++ all_ended unplugged s.bulk_in)) s.interrupt_in _ front (lines.submits InterruptIn) put downs
    (sym (together (all_ended unplugged s.control) (all_ended unplugged s.bulk_out) (all_ended unplugged s.bulk_in) (all_ended unplugged s.interrupt_in)) ∙ is)
  where
    only : all_ended unplugged s.control ++ (all_ended unplugged s.bulk_out ++ all_ended unplugged s.bulk_in) ≡ all_ended unplugged s.control
    only = ap (λ (l : List Put). all_ended unplugged s.control ++ (l ++ all_ended unplugged s.bulk_in)) (none_pends s.bulk_out _ (lines.submits BulkOut))
        ∙ ap (λ (l : List Put). all_ended unplugged s.control ++ l) (none_pends s.bulk_in _ (lines.submits BulkIn)) ∙ append-nil (all_ended unplugged s.control)

    front : (p : Put) (rest : List Put) → all_ended unplugged s.control ++ (all_ended unplugged s.bulk_out ++ all_ended unplugged s.bulk_in) ≡ p ∷ rest → TellsUnplugged request p rest
    front p rest e = by (one_of request s.control _ (lines.submits Control))
      where
        by : OneOf request s.control → TellsUnplugged request p rest
        by (NoneOf none) = let k : all_ended unplugged [] ≡ p ∷ rest = ap (λ (q : List Pending). all_ended unplugged q) (sym none) ∙ sym only ∙ e in absurd (cc)
        by (ThisOf x this own) = told_one request x p rest own (ap (λ (q : List Pending). all_ended unplugged q) (sym this) ∙ sym only ∙ e)

-- the first answer on its way, plugged or not
pub next_both : (Ties : List up.Message → List Put → State → Type 0) (waits notify : Option SubmitHead) → ((put : Put) (ups : List up.Message) (downs : List Put) (s : State) → Ties ups [] s → unplug_answers s ≡ put ∷ downs → TellsBoth waits notify put downs)
    → (put : Put) (ups : List up.Message) (downs : List Put) (t : State) → Until Ties ups (put ∷ downs) t → NextBoth Ties waits notify put ups downs t
next_both Ties waits notify told put ups downs t (inl tie) = BothPlugged tie
next_both Ties waits notify told put ups downs t (inr held) = by held.front held.tie held.behind
  where
    by : (front : List Put) → Ties ups front held.before → put ∷ downs ≡ front ++ unplug_answers held.before → NextBoth Ties waits notify put ups downs t
    by [] tie is = BothBehind held.before tie held.unplugs (told put ups downs held.before tie (sym is))
    by (p ∷ front) tie is =
        let same = cons_parts put p downs (front ++ unplug_answers held.before) is in
        BothBefore held.before front (subst (λ (x : Put). Ties ups (x ∷ front) held.before) (sym same.0) tie) held.unplugs same.1

pub status_next : (ticket : StatusTicket) (notify : Option SubmitHead) (older : List Packet) (next : ℕ) (put : Put) (ups : List up.Message) (downs : List Put) (t : State) → Until (λ ups downs t. StatusHolds ticket notify older next ups downs t) ups (put ∷ downs) t
    → NextBoth (λ ups downs t. StatusHolds ticket notify older next ups downs t) (request_for ticket) notify put ups downs t
status_next ticket notify older next put ups downs t tie =
    next_both (λ ups downs t. StatusHolds ticket notify older next ups downs t) (request_for ticket) notify
    (λ put ups downs s r is. status_told (request_for ticket) notify (unlinks_of_read ticket) put ups downs s (status_lines ticket notify older next ups [] s r) is) put ups downs t tie

-- ---- over a link

first_of_request : (request notify : Option SubmitHead) (e : Endpoint) (head : SubmitHead) (rest : List SubmitHead) → e ≢ InterruptIn → asked_by request notify e ≡ head ∷ rest → request ≡ Some head
first_of_request request notify Control head rest elsewhere is = one_only request head rest is
first_of_request request notify BulkOut head rest elsewhere is = absurd (cc)
first_of_request request notify BulkIn head rest elsewhere is = absurd (cc)
first_of_request request notify InterruptIn head rest elsewhere is = absurd (elsewhere refl)

pub told_both_spelled : (waits notify : Option SubmitHead) (unlinks : List UnlinkHead) → IfAny (λ (head : SubmitHead). IsOther notify head) waits → AreAllApart waits notify unlinks → (put : Put) (downs : List Put) (bytes : List ℕ) → TellsBoth waits notify put downs → SpellsPut put bytes
    → SpellsAnswer (entries_of waits unlinks ++ entries_for notify) (message_of put) bytes
told_both_spelled waits notify unlinks other apart put downs bytes told spelled = by told
  where
    its : (o : Option SubmitHead) → ((head : SubmitHead) → o ≡ Some head → (waits ≡ Some head) ⊎ (notify ≡ Some head)) → TellsOf o put → SpellsAnswer (entries_of waits unlinks ++ entries_for notify) (message_of put) bytes
    its o which t =
        subst (λ (p : Put). SpellsAnswer (entries_of waits unlinks ++ entries_for notify) (message_of p) bytes) (sym t.is)
        (submit_spelled waits notify unlinks other apart t.head t.answer t.transferred bytes t.number (which t.head t.awaited) (subst (λ (p : Put). SpellsPut p bytes) t.is spelled))

    by : TellsBoth waits notify put downs → SpellsAnswer (entries_of waits unlinks ++ entries_for notify) (message_of put) bytes
    by (TellsOne one none) = its waits (λ head is. inl is) one
    by (TellsTwo last one two behind) = its waits (λ head is. inl is) one
    by (TellsNotify one none) = its notify (λ head is. inr is) one

status_first : (ticket : StatusTicket) (notify : Option SubmitHead) (older : List Packet) (next : ℕ) (put : Put) (ups : List up.Message) (downs : List Put) (s : State) (bytes : List ℕ) → AreAllApart (request_for ticket) notify (unlinks_of_read ticket)
    → StatusHolds ticket notify older next ups (put ∷ downs) s → SpellsPut put bytes → SpellsAnswer (entries_with ticket notify) (message_of put) bytes
status_first NoRead notify older next put ups downs s bytes apart r spelled =
    pair_spelled _ (asked_by None notify) None notify [] next tt apart (first_of_request None notify) refl put ups downs s bytes r.bond spelled
status_first (HasRead read waits got) notify older next put ups downs s bytes apart r spelled =
    pair_spelled _ (asked_by (while waits read.head) notify) (while waits read.head) notify [] next (while_other notify waits read.head r.other) apart (first_of_request (while waits read.head) notify) refl put ups downs s bytes r.bond spelled
status_first (StopsRead read unlink waits got) notify older next put ups downs s bytes apart r spelled =
    pair_spelled _ (asked_by (while waits read.head) notify) (while waits read.head) notify (unlink ∷ []) next (while_other notify waits read.head r.other) apart (first_of_request (while waits read.head) notify) refl put ups downs s bytes r.bond spelled
status_first (StopsLate unlink) notify older next put ups downs s bytes apart r spelled =
    pair_spelled _ (asked_by None notify) None notify (unlink ∷ []) next tt apart (first_of_request None notify) refl put ups downs s bytes r.bond spelled

pub status_spelled : (ticket : StatusTicket) (notify : Option SubmitHead) (older : List Packet) (next : ℕ) → AreAllApart (request_for ticket) notify (unlinks_of_read ticket)
    → Spelled (λ ups downs t. Until (λ ups downs t. StatusHolds ticket notify older next ups downs t) ups downs t) (entries_with ticket notify)
status_spelled ticket notify older next apart put ups downs t bytes tie spelled = by (status_next ticket notify older next put ups downs t tie)
  where
    by : NextBoth (λ ups downs t. StatusHolds ticket notify older next ups downs t) (request_for ticket) notify put ups downs t → SpellsAnswer (entries_with ticket notify) (message_of put) bytes
    by (BothPlugged r) = status_first ticket notify older next put ups downs t bytes apart r spelled
    by (BothBefore before front r unplugs behind) = status_first ticket notify older next put ups front before bytes apart r spelled
    by (BothBehind before r unplugs told) = told_both_spelled (request_for ticket) notify (unlinks_of_read ticket) (status_other ticket notify older next ups [] before r) apart put downs bytes told spelled

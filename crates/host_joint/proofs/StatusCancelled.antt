-- a host in a status read whose request it unlinked: what it is given
use Rattle.std.proofs.Common.{◌≡◌, ◌≢◌, ◌∙◌, ℕ, Bool, true, false, Option, Some, None, List, [], ◌∷◌, ◌++◌, refl, ap, sym, subst}
use Rattle.std.proofs.lemmas.Bool.{ne_eqb, eq-eqb}
use Rattle.usbip_wire.specs.declared.submit.SubmitHead.{SubmitHead}
use Rattle.usbip_wire.specs.declared.unlink.UnlinkHead.{UnlinkHead}
use Rattle.usbip_wire.specs.declared.ret_submit.RetSubmitHead.{RetSubmitHead}
use Rattle.usbip_wire.specs.declared.ret_unlink.RetUnlinkHead.{RetUnlinkHead}
use Rattle.usbip_wire.specs.Up as up
use Rattle.tmc_law.specs.Endpoint.{Endpoint, Control, BulkOut, BulkIn, InterruptIn, number_of}
use Rattle.tmc_law.specs.State.{State, Packet, queue_of}
use Rattle.tmc_law.specs.Put.{Put, Submitted, Unlinked, unlink_answer, success, unlinked}
use Rattle.host_joint.specs.Lines.{sent_to, sent_heads, heads, events_of, without, LeftBy, unlinks_in, unlinked_by, Lines, EmptyLine, Fitting}
use Rattle.host_joint.specs.Bond.{Bond}
use Rattle.host_joint.specs.StatusReads.{StatusRead, StatusAt, StatusComes, StatusPends, StatusPolled, StatusSaid, StatusBusy, StatusOver, StatusHeld, QuietHeld, none_or_one, asked_by, while, IsOther, Quiet, UnlinkAt, UnlinkOnItsWay, UnlinkDidHit, UnlinkDidMiss, FreeHeld, GoneRead, CancelledRead, LateRead, GivesLate, LateService, LateOlder, LateHalt, Brings, GivesCancelled, CancelSuccess, CancelBusy, CancelService, CancelOlder, CancelByte, CancelHalt, UnlinkOver, OverHit, OverMissed}
use Rattle.host_joint.proofs.Flows.{unlinked-append, unlinks-append, all_answered}
use Rattle.host_joint.proofs.Hosting.{own_event, other_event}
use Rattle.host_joint.proofs.Recovering.{no_event}
use Rattle.host_joint.proofs.Booking.{unlink_answered}
use Rattle.host_joint.proofs.StatusTied.{answered_by, first_asked_by, one_only, while_some, some_first, request_kept, notify_left, request_given, notify_given, First, FirstService, FirstStatus, FirstHalt, first}

-- ---- the first answer, and the one to the unlink

-- the answer to the unlink stands behind it
data Parts (put answer : Put) (downs before behind : List Put) : Type 0 where
  PartsFirst : put ≡ answer → downs ≡ behind → before ≡ [] → Parts put answer downs before behind
  PartsLater : (more : List Put) → before ≡ put ∷ more → downs ≡ more ++ answer ∷ behind → Parts put answer downs before behind

cons_same : (x y : Put) (l m : List Put) → x ∷ l ≡ y ∷ m → (x ≡ y) × (l ≡ m)
cons_same x y l m e = (cc, cc)

parts : (put answer : Put) (downs before behind : List Put) → put ∷ downs ≡ before ++ answer ∷ behind → Parts put answer downs before behind
parts put answer downs [] behind e = let same = cons_same put answer downs behind e in PartsFirst same.0 same.1 refl
parts put answer downs (x ∷ before) behind e = let same = cons_same put x downs (before ++ answer ∷ behind) e in PartsLater before (ap (λ (y : Put). y ∷ before) (sym same.0)) same.1

no_submit : {B : Type 0} (asked : SubmitHead) (a : RetSubmitHead) (transferred : List ℕ) (x : UnlinkHead) (b : RetUnlinkHead) → Submitted asked a transferred ≡ Unlinked x b → B
no_submit asked a transferred x b e = absurd (cc)

abbrev Race : (read : StatusRead) (unlink : UnlinkHead) (waits : Bool) (got : Option ℕ) (older : List Packet) (ups : List up.Message) (downs : List Put) (s : State) → Type 0
Race read unlink waits got older ups downs s =
    UnlinkAt (λ ups downs s. StatusHeld read waits got older ups downs s) (λ ups downs s. GoneRead read waits got older ups downs s) unlink ups downs s

-- ---- the answer to the request

own_number : (notify : Option SubmitHead) (head : SubmitHead) → IsOther notify head → (x : SubmitHead) → notify ≡ Some x → x.seqnum ≢ head.seqnum
own_number notify head other x is = subst (λ (o : Option SubmitHead). IsOther o head) is other

from_request : (read : StatusRead) (unlink : UnlinkHead) (waits : Bool) (notify : Option SubmitHead) (got : Option ℕ) (older : List Packet) (asked : SubmitHead) (a : RetSubmitHead) (transferred : List ℕ) (next : ℕ) (ups : List up.Message) (downs : List Put) (s : State)
    → asked.ep ≡ 0 → CancelledRead read unlink waits notify got older next ups (Submitted asked a transferred ∷ downs) s → GivesCancelled read unlink waits notify got older asked a transferred next ups downs s
from_request read unlink waits notify got older asked a transferred next ups downs s own r = by r.bond.held
  where
    e : (rest : List SubmitHead) × (asked_by (while waits read.head) notify Control ≡ asked ∷ rest)
    e = first_asked_by (asked_by (while waits read.head) notify) (unlink ∷ []) _ asked a transferred next ups (downs) s Control own r.bond

    same : (waits ≡ true) × (asked ≡ read.head)
    same = while_some waits read.head asked (one_only (while waits read.head) asked e.0 e.1)

    behind : (After : List up.Message → List Put → State → Type 0) → After ups downs s → Bond After (asked_by None notify) (unlink ∷ []) next ups downs s
    behind After held =
        answered_by _ After (asked_by (while waits read.head) notify) (asked_by None notify) (unlink ∷ []) Control asked a transferred next ups downs s own
        (ap (λ (b : Bool). none_or_one (while b read.head)) same.0 ∙ ap (λ (x : SubmitHead). x ∷ []) (sym same.1)) refl (notify_left (while waits read.head) notify) r.bond held

    still : Race read unlink false got older ups downs s → CancelledRead read unlink false notify got older next ups downs s
    still race = record { asks = r.asks; tagged = r.tagged; before = r.before; earlier = r.earlier; other = r.other; names = r.names; bond = behind (λ ups downs s. Race read unlink false got older ups downs s) race }

    late : UnlinkAt (λ ups downs s. FreeHeld older ups downs s) (λ ups downs s. ⊥) unlink ups downs s → LateRead unlink notify older next ups downs s
    late race = record {
      earlier = r.earlier;
      target = read.head.seqnum;
      names = r.names;
      other = own_number notify read.head r.other;
      bond = behind (λ ups downs s. UnlinkAt (λ ups downs s. FreeHeld older ups downs s) (λ ups downs s. ⊥) unlink ups downs s) race;
    }

    missed : (before after : List Put) → StatusHeld read waits got older ups (before ++ after) s → Parts (Submitted asked a transferred) (unlink_answer unlink success) downs before after
        → GivesCancelled read unlink waits notify got older asked a transferred next ups downs s
    missed before after h (PartsFirst is rest none) = no_submit asked a transferred unlink _ is
    missed before after h (PartsLater more is rest) =
        request_given read waits got older asked a transferred ups (more ++ after) s own (subst (λ (l : List Put). StatusHeld read waits got older ups (l ++ after) s) is h)
        (λ said text held. CancelSuccess same.0 same.1 said text (still (UnlinkDidMiss more after rest held)))
        (λ said text some none held. CancelBusy same.0 same.1 said text some none (late (UnlinkDidMiss more after rest held)))

    gone : (before after : List Put) → GoneRead read waits got older ups (before ++ after) s → Parts (Submitted asked a transferred) (unlink_answer unlink unlinked) downs before after
        → GivesCancelled read unlink waits notify got older asked a transferred next ups downs s
    gone before after g (PartsFirst is rest none) = no_submit asked a transferred unlink _ is
    gone before after g (PartsLater more is rest) =
        no_event _ _ (sym (own_event Control asked a transferred (more ++ after) own) ∙ ap (λ (l : List Put). events_of Control (l ++ after)) (sym is) ∙ g.free.events)

    by : Race read unlink waits got older ups (Submitted asked a transferred ∷ downs) s → GivesCancelled read unlink waits notify got older asked a transferred next ups downs s
    by (UnlinkOnItsWay front whole h) =
        request_given read waits got older asked a transferred front downs s own h
        (λ said text held. CancelSuccess same.0 same.1 said text (still (UnlinkOnItsWay front whole held)))
        (λ said text some none held. CancelBusy same.0 same.1 said text some none (late (UnlinkOnItsWay front whole held)))
    by (UnlinkDidHit before after whole g) = gone before after g (parts (Submitted asked a transferred) (unlink_answer unlink unlinked) downs before after whole)
    by (UnlinkDidMiss before after whole h) = missed before after h (parts (Submitted asked a transferred) (unlink_answer unlink success) downs before after whole)

-- ---- the answer to the submit to Interrupt-IN

from_notify : (read : StatusRead) (unlink : UnlinkHead) (waits : Bool) (notify : Option SubmitHead) (got : Option ℕ) (older : List Packet) (asked : SubmitHead) (a : RetSubmitHead) (transferred : List ℕ) (next : ℕ) (ups : List up.Message) (downs : List Put) (s : State)
    → asked.ep ≡ 3 → CancelledRead read unlink waits notify got older next ups (Submitted asked a transferred ∷ downs) s → GivesCancelled read unlink waits notify got older asked a transferred next ups downs s
from_notify read unlink waits notify got older asked a transferred next ups downs s own r = by r.bond.held
  where
    e : (rest : List SubmitHead) × (asked_by (while waits read.head) notify InterruptIn ≡ asked ∷ rest)
    e = first_asked_by (asked_by (while waits read.head) notify) (unlink ∷ []) _ asked a transferred next ups downs s InterruptIn own r.bond

    is : notify ≡ Some asked
    is = one_only notify asked e.0 e.1

    still : (has : Option ℕ) (left : List Packet) → Race read unlink waits has left ups downs s → CancelledRead read unlink waits None has left next ups downs s
    still has left race = record {
      asks = r.asks;
      tagged = r.tagged;
      before = r.before;
      earlier = tt;
      other = tt;
      names = r.names;
      bond = answered_by _ (λ ups downs s. Race read unlink waits has left ups downs s) (asked_by (while waits read.head) notify) (asked_by (while waits read.head) None) (unlink ∷ []) InterruptIn asked a transferred next ups downs s own
          (ap (λ (o : Option SubmitHead). none_or_one o) is) refl (request_kept (while waits read.head) notify) r.bond race;
    }

    held_by : (front : List up.Message) (l : List Put) → StatusHeld read waits got older front (Submitted asked a transferred ∷ l) s
        → ((has : Option ℕ) (left : List Packet) → StatusHeld read waits has left front l s → CancelledRead read unlink waits None has left next ups downs s) → GivesCancelled read unlink waits notify got older asked a transferred next ups downs s
    held_by front l h goes =
        notify_given read waits got older asked a transferred front l s own h
        (λ byte good text held. CancelService byte is good text (goes got older held))
        (λ packet others good left text held. CancelOlder packet others is good left text (goes got others held))
        (λ byte good none g text one held. CancelByte byte is good none g text one (goes (Some byte) [] held))
        (λ halted held. CancelHalt is halted (goes got older held))

    missed : (before after : List Put) → StatusHeld read waits got older ups (before ++ after) s → Parts (Submitted asked a transferred) (unlink_answer unlink success) downs before after
        → GivesCancelled read unlink waits notify got older asked a transferred next ups downs s
    missed before after h (PartsFirst same rest none) = no_submit asked a transferred unlink _ same
    missed before after h (PartsLater more same rest) =
        held_by ups (more ++ after) (subst (λ (l : List Put). StatusHeld read waits got older ups (l ++ after) s) same h) (λ has left held. still has left (UnlinkDidMiss more after rest held))

    gone : (before after : List Put) → GoneRead read waits got older ups (before ++ after) s → Parts (Submitted asked a transferred) (unlink_answer unlink unlinked) downs before after
        → GivesCancelled read unlink waits notify got older asked a transferred next ups downs s
    gone before after g (PartsFirst same rest none) = no_submit asked a transferred unlink _ same
    gone before after g (PartsLater more same rest) = which (first older asked a transferred (more ++ after) s own own_gone.free.quiet.brings)
      where
        own_gone : GoneRead read waits got older ups (Submitted asked a transferred ∷ (more ++ after)) s
        own_gone = subst (λ (l : List Put). GoneRead read waits got older ups (l ++ after) s) same g

        left_gone : (left : List Packet) → QuietHeld left ups (more ++ after) s → CancelledRead read unlink waits None got left next ups downs s
        left_gone left quiet = still got left (UnlinkDidHit more after rest (record {
          waited = own_gone.waited;
          nothing = own_gone.nothing;
          unread = own_gone.unread;
          free = record { sent = own_gone.free.sent; queue = own_gone.free.queue; events = sym (other_event Control asked a transferred (more ++ after) 3 own refl) ∙ own_gone.free.events; quiet = quiet };
        }))

        which : First older a transferred (more ++ after) s → GivesCancelled read unlink waits notify got older asked a transferred next ups downs s
        which (FirstService byte good text brings) = CancelService byte is good text (left_gone older (record { rest = own_gone.free.quiet.rest; brings = brings }))
        which (FirstStatus tag byte others good line text brings) = CancelOlder _ others is good line text (left_gone others (record { rest = own_gone.free.quiet.rest; brings = brings }))
        which (FirstHalt halted brings) = CancelHalt is halted (left_gone older (record { rest = own_gone.free.quiet.rest; brings = brings }))

    by : Race read unlink waits got older ups (Submitted asked a transferred ∷ downs) s → GivesCancelled read unlink waits notify got older asked a transferred next ups downs s
    by (UnlinkOnItsWay front whole h) = held_by front downs h (λ has left held. still has left (UnlinkOnItsWay front whole held))
    by (UnlinkDidHit before after whole g) = gone before after g (parts (Submitted asked a transferred) (unlink_answer unlink unlinked) downs before after whole)
    by (UnlinkDidMiss before after whole h) = missed before after h (parts (Submitted asked a transferred) (unlink_answer unlink success) downs before after whole)

pub cancelled_given : (read : StatusRead) (unlink : UnlinkHead) (waits : Bool) (notify : Option SubmitHead) (got : Option ℕ) (older : List Packet) (asked : SubmitHead) (a : RetSubmitHead) (transferred : List ℕ) (next : ℕ) (ups : List up.Message) (downs : List Put) (s : State)
    → CancelledRead read unlink waits notify got older next ups (Submitted asked a transferred ∷ downs) s → GivesCancelled read unlink waits notify got older asked a transferred next ups downs s
cancelled_given read unlink waits notify got older asked a transferred next ups downs s r = by fits.endpoint refl
  where
    fits : Fitting asked
    fits = r.bond.fits.0.0

    by : (e : Endpoint) → fits.endpoint ≡ e → GivesCancelled read unlink waits notify got older asked a transferred next ups downs s
    by Control is = from_request read unlink waits notify got older asked a transferred next ups downs s (fits.number ∙ ap number_of is) r
    by BulkOut is = let e = first_asked_by (asked_by (while waits read.head) notify) (unlink ∷ []) _ asked a transferred next ups downs s BulkOut (fits.number ∙ ap number_of is) r.bond in some_first asked e.0 e.1
    by BulkIn is = let e = first_asked_by (asked_by (while waits read.head) notify) (unlink ∷ []) _ asked a transferred next ups downs s BulkIn (fits.number ∙ ap number_of is) r.bond in some_first asked e.0 e.1
    by InterruptIn is = from_notify read unlink waits notify got older asked a transferred next ups downs s (fits.number ∙ ap number_of is) r

-- ---- the answer to that submit behind INTERRUPT_IN_BUSY

pub late_given : (unlink : UnlinkHead) (notify : Option SubmitHead) (older : List Packet) (asked : SubmitHead) (a : RetSubmitHead) (transferred : List ℕ) (next : ℕ) (ups : List up.Message) (downs : List Put) (s : State)
    → LateRead unlink notify older next ups (Submitted asked a transferred ∷ downs) s → GivesLate unlink notify older asked a transferred next ups downs s
late_given unlink notify older asked a transferred next ups downs s r = by fits.endpoint refl
  where
    fits : Fitting asked
    fits = r.bond.fits.0.0

    elsewhere : (e : Endpoint) → asked.ep ≡ number_of e → asked_by None notify e ≡ [] → GivesLate unlink notify older asked a transferred next ups downs s
    elsewhere e own none = let x = first_asked_by (asked_by None notify) (unlink ∷ []) _ asked a transferred next ups downs s e own r.bond in some_first asked x.0 (sym none ∙ x.1)

    still : (left : List Packet) → asked.ep ≡ 3 → notify ≡ Some asked → UnlinkAt (λ ups downs s. FreeHeld left ups downs s) (λ ups downs s. ⊥) unlink ups downs s → LateRead unlink None left next ups downs s
    still left own is race = record {
      earlier = tt;
      target = r.target;
      names = r.names;
      other = λ head none. absurd (cc);
      bond = answered_by _ (λ ups downs s. UnlinkAt (λ ups downs s. FreeHeld left ups downs s) (λ ups downs s. ⊥) unlink ups downs s) (asked_by None notify) (asked_by None None) (unlink ∷ []) InterruptIn asked a transferred next ups downs s own
          (ap (λ (o : Option SubmitHead). none_or_one o) is) refl (request_kept None notify) r.bond race;
    }

    -- without that answer
    free_given : (front : List up.Message) (l : List Put) → asked.ep ≡ 3 → notify ≡ Some asked → FreeHeld older front (Submitted asked a transferred ∷ l) s
        → ((left : List Packet) → FreeHeld left front l s → LateRead unlink None left next ups downs s) → GivesLate unlink notify older asked a transferred next ups downs s
    free_given front l own is h goes = which (first older asked a transferred l s own h.quiet.brings)
      where
        behind : (left : List Packet) → Brings left l s → FreeHeld left front l s
        behind left brings = record { sent = h.sent; queue = h.queue; events = sym (other_event Control asked a transferred l 3 own refl) ∙ h.events; quiet = record { rest = h.quiet.rest; brings = brings } }

        which : First older a transferred l s → GivesLate unlink notify older asked a transferred next ups downs s
        which (FirstService byte good text brings) = LateService byte is good text (goes older (behind older brings))
        which (FirstStatus tag byte others good line text brings) = LateOlder _ others is good line text (goes others (behind others brings))
        which (FirstHalt halted brings) = LateHalt is halted (goes older (behind older brings))

    missed : (before after : List Put) → asked.ep ≡ 3 → notify ≡ Some asked → FreeHeld older ups (before ++ after) s → Parts (Submitted asked a transferred) (unlink_answer unlink success) downs before after
        → GivesLate unlink notify older asked a transferred next ups downs s
    missed before after own is h (PartsFirst same rest none) = no_submit asked a transferred unlink _ same
    missed before after own is h (PartsLater more same rest) =
        free_given ups (more ++ after) own is (subst (λ (l : List Put). FreeHeld older ups (l ++ after) s) same h) (λ left held. still left own is (UnlinkDidMiss more after rest held))

    its : asked.ep ≡ 3 → notify ≡ Some asked → UnlinkAt (λ ups downs s. FreeHeld older ups downs s) (λ ups downs s. ⊥) unlink ups (Submitted asked a transferred ∷ downs) s → GivesLate unlink notify older asked a transferred next ups downs s
    its own is (UnlinkOnItsWay front whole h) = free_given front downs own is h (λ left held. still left own is (UnlinkOnItsWay front whole held))
    its own is (UnlinkDidHit before after whole g) = absurd g
    its own is (UnlinkDidMiss before after whole h) = missed before after own is h (parts (Submitted asked a transferred) (unlink_answer unlink success) downs before after whole)

    by : (e : Endpoint) → fits.endpoint ≡ e → GivesLate unlink notify older asked a transferred next ups downs s
    by Control is = elsewhere Control (fits.number ∙ ap number_of is) refl
    by BulkOut is = elsewhere BulkOut (fits.number ∙ ap number_of is) refl
    by BulkIn is = elsewhere BulkIn (fits.number ∙ ap number_of is) refl
    by InterruptIn is =
        let own : asked.ep ≡ 3 = fits.number ∙ ap number_of is in
        let x = first_asked_by (asked_by None notify) (unlink ∷ []) _ asked a transferred next ups downs s InterruptIn own r.bond in its own (one_only notify asked x.0 x.1) r.bond.held

-- ---- the answer to the unlink

-- of one unlink no two answers are there
one_answer : (asked unlink : UnlinkHead) (a : RetUnlinkHead) (downs : List Put) (more : List UnlinkHead) → unlink ∷ [] ≡ unlinked_by (Unlinked asked a ∷ downs) ++ more → (asked ≡ unlink) × (unlinked_by downs ++ more ≡ [])
one_answer asked unlink a downs more e = (cc, cc)

none_more : {B : Type 0} (l : List Put) (x : UnlinkHead) (b : RetUnlinkHead) (m : List Put) (more : List UnlinkHead) → unlinked_by (l ++ Unlinked x b ∷ m) ++ more ≡ [] → B
none_more l x b m more e = absurd (no (unlinked_by l) (ap (λ (k : List UnlinkHead). k ++ more) (sym (unlinked-append l (Unlinked x b ∷ m))) ∙ e))
  where
    no : (k : List UnlinkHead) → (k ++ x ∷ unlinked_by m) ++ more ≡ [] → ⊥
    no [] h = cc
    no (y ∷ k) h = cc

same_unlinked : (x y : UnlinkHead) (a b : RetUnlinkHead) → Unlinked x a ≡ Unlinked y b → a ≡ b
same_unlinked x y a b e = cc

none_ahead : {B : Type 0} (front : List up.Message) (u : UnlinkHead) (k : List UnlinkHead) → k ++ unlinks_in (front ++ up.Unlink u ∷ []) ≡ [] → B
none_ahead front u k e = absurd (no k (ap (λ (l : List UnlinkHead). k ++ l) (sym (unlinks-append front (up.Unlink u ∷ []))) ∙ e))
  where
    last : (l : List UnlinkHead) → l ++ u ∷ [] ≡ [] → ⊥
    last [] h = cc
    last (y ∷ l) h = cc

    no : (l : List UnlinkHead) → l ++ (unlinks_in front ++ u ∷ []) ≡ [] → ⊥
    no [] h = last (unlinks_in front) h
    no (y ∷ l) h = cc

without_other : (o : Option SubmitHead) (n : ℕ) → ((x : SubmitHead) → o ≡ Some x → x.seqnum ≢ n) → without n (none_or_one o) ≡ none_or_one o
without_other None n h = refl
without_other (Some x) n h = rw (ne_eqb x.seqnum n (h x refl)) refl

without_request : (waits : Bool) (head : SubmitHead) (n : ℕ) → n ≡ head.seqnum → without n (none_or_one (while waits head)) ≡ []
without_request false head n is = refl
without_request true head n is = rw (eq-eqb head.seqnum n (sym is)) refl

-- the bond behind it
over_bond : (Before After : List up.Message → List Put → State → Type 0) (request notify : Option SubmitHead) (unlink asked : UnlinkHead) (a : RetUnlinkHead) (next : ℕ) (ups : List up.Message) (downs : List Put) (s : State)
    → without unlink.target (none_or_one request) ≡ [] → without unlink.target (none_or_one notify) ≡ none_or_one notify → Bond Before (asked_by request notify) (unlink ∷ []) next ups (Unlinked asked a ∷ downs) s → After ups downs s
    → Bond After (asked_by None notify) [] next ups downs s
over_bond Before After request notify unlink asked a next ups downs s none kept bond held =
    let taken = unlink_answered (asked_by request notify) (unlink ∷ []) ups asked a downs s bond.lines in
    let both = one_answer asked unlink a downs (unlinks_in ups) bond.lines.unlinked in
    record {
      run = bond.run;
      reached = bond.reached;
      lines = record {
        submits = λ e. subst (λ (l : List SubmitHead). LeftBy l (events_of e downs) (heads (queue_of e s) ++ sent_heads (sent_to e ups)))
            (ap (λ (u : UnlinkHead). without u.target (asked_by request notify e)) both.0 ∙ left e) (taken.2.submits e);
        unlinked = sym both.1;
      };
      fitting = bond.fitting;
      order = bond.order;
      fits = bond.fits.1;
      rises = bond.rises;
      below = bond.below;
      held = held;
    }
  where
    left : (e : Endpoint) → without unlink.target (asked_by request notify e) ≡ asked_by None notify e
    left Control = none
    left BulkOut = refl
    left BulkIn = refl
    left InterruptIn = kept

-- a request that has no answer on its way is over
request_over : {B : Type 0} (read : StatusRead) (polled : Bool) (notify : Option SubmitHead) (ups : List up.Message) (downs : List Put) (s : State) → Lines (asked_by None notify) [] ups downs s
    → StatusAt read true polled (sent_to Control ups) (events_of Control downs) s.control → B
request_over {B} read polled notify ups downs s lines at = by at
  where
    line : EmptyLine Control ups downs s
    line = all_answered (asked_by None notify) Control ups downs s lines refl

    no_one : {A : Type 0} {x : A} {l k : List A} → k ≡ [] → k ≡ x ∷ l → B
    no_one none some = let e = sym none ∙ some in absurd (cc)

    by : StatusAt read true polled (sent_to Control ups) (events_of Control downs) s.control → B
    by (StatusComes w p come empty pends) = no_one line.sent come
    by (StatusPends w p come empty pends) = no_one line.queue pends
    by (StatusPolled w p come empty pends) = no_one line.queue pends
    by (StatusSaid w p come given free) = no_one line.events given
    by (StatusBusy w p come given free some) = no_one line.events given
    by (StatusOver w p come empty free) = let e : true ≡ false = w in absurd (cc)

pub unlink_over : (read : StatusRead) (unlink : UnlinkHead) (waits : Bool) (notify : Option SubmitHead) (got : Option ℕ) (older : List Packet) (asked : UnlinkHead) (a : RetUnlinkHead) (next : ℕ) (ups : List up.Message) (downs : List Put) (s : State)
    → CancelledRead read unlink waits notify got older next ups (Unlinked asked a ∷ downs) s → UnlinkOver read unlink waits notify got older a next ups downs s
unlink_over read unlink waits notify got older asked a next ups downs s r = by r.bond.held
  where
    both : (asked ≡ unlink) × (unlinked_by downs ++ unlinks_in ups ≡ [])
    both = one_answer asked unlink a downs (unlinks_in ups) r.bond.lines.unlinked

    behind : (After : List up.Message → List Put → State → Type 0) → After ups downs s → Bond After (asked_by None notify) [] next ups downs s
    behind After held = over_bond _ After (while waits read.head) notify unlink asked a next ups downs s (without_request waits read.head unlink.target r.names)
        (without_other notify unlink.target (λ x is e. own_number notify read.head r.other x is (e ∙ r.names))) r.bond held

    gone : (before after : List Put) → GoneRead read waits got older ups (before ++ after) s → Parts (Unlinked asked a) (unlink_answer unlink unlinked) downs before after → UnlinkOver read unlink waits notify got older a next ups downs s
    gone before after g (PartsFirst is rest none) =
        let own : GoneRead read waits got older ups downs s = subst (λ (l : List Put). GoneRead read waits got older ups l s) (ap (λ (l : List Put). l ++ after) none ∙ sym rest) g in
        OverHit own.waited (same_unlinked asked unlink a _ is) own.nothing own.unread (record { earlier = r.earlier; bond = behind (λ ups downs s. QuietHeld older ups downs s) own.free.quiet })
    gone before after g (PartsLater more is rest) = none_more more unlink _ after (unlinks_in ups) (ap (λ (l : List Put). unlinked_by l ++ unlinks_in ups) (sym rest) ∙ both.1)

    missed : (before after : List Put) → StatusHeld read waits got older ups (before ++ after) s → Parts (Unlinked asked a) (unlink_answer unlink success) downs before after → UnlinkOver read unlink waits notify got older a next ups downs s
    missed before after h (PartsFirst is rest none) = late waits refl
      where
        own : StatusHeld read waits got older ups downs s
        own = subst (λ (l : List Put). StatusHeld read waits got older ups l s) (ap (λ (l : List Put). l ++ after) none ∙ sym rest) h

        late : (b : Bool) → waits ≡ b → UnlinkOver read unlink waits notify got older a next ups downs s
        late true w =
            request_over read own.polled notify ups downs s (behind (λ ups downs s. QuietHeld older ups downs s → QuietHeld older ups downs s) (λ q. q)).lines
            (subst (λ (x : Bool). StatusAt read x own.polled (sent_to Control ups) (events_of Control downs) s.control) w own.request)
        late false w = OverMissed w (same_unlinked asked unlink a _ is) (record {
          asks = r.asks;
          tagged = r.tagged;
          before = r.before;
          earlier = r.earlier;
          other = r.other;
          bond = behind (λ ups downs s. StatusHeld read false got older ups downs s) (subst (λ (x : Bool). StatusHeld read x got older ups downs s) w own);
        })
    missed before after h (PartsLater more is rest) = none_more more unlink _ after (unlinks_in ups) (ap (λ (l : List Put). unlinked_by l ++ unlinks_in ups) (sym rest) ∙ both.1)

    by : Race read unlink waits got older ups (Unlinked asked a ∷ downs) s → UnlinkOver read unlink waits notify got older a next ups downs s
    by (UnlinkOnItsWay front whole h) = none_ahead front unlink (unlinked_by downs) (ap (λ (l : List up.Message). unlinked_by downs ++ unlinks_in l) (sym whole) ∙ both.1)
    by (UnlinkDidHit before after whole g) = gone before after g (parts (Unlinked asked a) (unlink_answer unlink unlinked) downs before after whole)
    by (UnlinkDidMiss before after whole h) = missed before after h (parts (Unlinked asked a) (unlink_answer unlink success) downs before after whole)

pub late_over : (unlink : UnlinkHead) (notify : Option SubmitHead) (older : List Packet) (asked : UnlinkHead) (a : RetUnlinkHead) (next : ℕ) (ups : List up.Message) (downs : List Put) (s : State)
    → LateRead unlink notify older next ups (Unlinked asked a ∷ downs) s → (a ≡ record { seqnum = unlink.seqnum; status = success }) × Quiet notify older next ups downs s
late_over unlink notify older asked a next ups downs s r = by r.bond.held
  where
    Goal : Type 0
    Goal = (a ≡ record { seqnum = unlink.seqnum; status = success }) × Quiet notify older next ups downs s

    both : (asked ≡ unlink) × (unlinked_by downs ++ unlinks_in ups ≡ [])
    both = one_answer asked unlink a downs (unlinks_in ups) r.bond.lines.unlinked

    missed : (before after : List Put) → FreeHeld older ups (before ++ after) s → Parts (Unlinked asked a) (unlink_answer unlink success) downs before after → Goal
    missed before after h (PartsFirst is rest none) =
        let own : FreeHeld older ups downs s = subst (λ (l : List Put). FreeHeld older ups l s) (ap (λ (l : List Put). l ++ after) none ∙ sym rest) h in (
          same_unlinked asked unlink a _ is,
          record {
            earlier = r.earlier;
            bond = over_bond _ (λ ups downs s. QuietHeld older ups downs s) None notify unlink asked a next ups downs s refl
                (without_other notify unlink.target (λ x found e. r.other x found (e ∙ r.names))) r.bond own.quiet;
          },
        )
    missed before after h (PartsLater more is rest) = none_more more unlink _ after (unlinks_in ups) (ap (λ (l : List Put). unlinked_by l ++ unlinks_in ups) (sym rest) ∙ both.1)

    by : UnlinkAt (λ ups downs s. FreeHeld older ups downs s) (λ ups downs s. ⊥) unlink ups (Unlinked asked a ∷ downs) s → Goal
    by (UnlinkOnItsWay front whole h) = none_ahead front unlink (unlinked_by downs) (ap (λ (l : List up.Message). unlinked_by downs ++ unlinks_in l) (sym whole) ∙ both.1)
    by (UnlinkDidHit before after whole g) = absurd g
    by (UnlinkDidMiss before after whole h) = missed before after h (parts (Unlinked asked a) (unlink_answer unlink success) downs before after whole)

-- a host in a status read: what it writes, and what it is given
use Rattle.std.proofs.Common.{◌≡◌, ◌≢◌, ◌∙◌, ◌⊎◌, inl, inr, ℕ, ◌+◌, ◌≤◌, Bool, true, false, cond, eqb, ℤ, Option, Some, None, List, [], ◌∷◌, ◌++◌, length, refl, ap, sym, subst, append-nil, arith}
use Rattle.std.proofs.lemmas.Bool.{eq-eqb, ne_eqb}
use Rattle.usbip_wire.specs.declared.submit.SubmitHead.{SubmitHead}
use Rattle.usbip_wire.specs.declared.ret_submit.RetSubmitHead.{RetSubmitHead}
use Rattle.usbip_wire.specs.declared.unlink.UnlinkHead.{UnlinkHead}
use Rattle.usbip_wire.specs.Up as up
use Rattle.usbip_wire.specs.Down as down
use Rattle.usbip_wire.specs.Down.{SpellsAnswer}
use Rattle.usbip_wire.specs.RetSubmit.{SpellsRetSubmit}
use Rattle.usbip_wire.specs.Dirs.{find, submit_of}
use Rattle.tmc_wire.specs.declared.class_request.ClassRequest.TheVariants.{ReadStatus}
use Rattle.tmc_wire.specs.ClassStatus.{STATUS_SUCCESS, STATUS_INTERRUPT_IN_BUSY}
use Rattle.tmc_law.specs.Endpoint.{Endpoint, Control, BulkOut, BulkIn, InterruptIn, number_of}
use Rattle.tmc_law.specs.State.{State, queue_of, Packet, StatusPacket, ServicePacket}
use Rattle.tmc_law.specs.Put.{Put, Submitted, Unlinked, success, stalled}
use Rattle.tmc_law.specs.Status.{IsStatusTag, status_layout, packet_bytes}
use Rattle.tmc_law.specs.AnswerFits.{AllAnswers}
use Rattle.tmc_law.specs.Queues.{pending_most}
use Rattle.tmc_law.specs.Run.{Entry, Runs, inputs, outputs}
use Rattle.host_joint.specs.Lines.{Sent, sent_to, Event, Gives, events_of, unlinks_in, unlinked_by, LeftBy, heads, sent_heads, Lines, Fitting, NoneNumbered}
use Rattle.host_joint.specs.Unlinking.{AllHeads, Rising, IsNamed, AreApart, total_of}
use Rattle.host_joint.specs.Asking.{StaysPlugged}
use Rattle.host_joint.specs.Positions.{IsAt, rests}
use Rattle.host_joint.specs.Requests.{IsClass}
use Rattle.host_joint.specs.Tie.{asked_of}
use Rattle.host_joint.specs.Bond.{IsFit, Bond, Bound, Stands, Resting}
use Rattle.host_joint.specs.StatusReads.{is_good, packets_in, bytes_of, statuses, IsUsual, Brings, NonePolled, OnePolled, StatusRead, StatusAt, StatusComes, StatusPends, StatusPolled, StatusSaid, StatusBusy, StatusOver, ByteAt, ByteUnread, ByteComes, ByteCame, StatusHeld, QuietHeld, FreeHeld, none_or_one, asked_by, while, IsNotify, IsEarlier, IsOther, Quiet, ReadsStatus, GivesStatus, SaysSuccess, SaysBusy, BringsService, BringsOlder, BringsByte, BringsHalt, NoneTagged, entries_by, GivesQuiet, QuietService, QuietOlder, QuietHalt}
use Rattle.host_joint.proofs.Flows.{all_answered}
use Rattle.host_joint.proofs.Booking.{submit_written, submit_answered, other_line}
use Rattle.host_joint.proofs.Numbered.{rises_written}
use Rattle.host_joint.proofs.Hosting.{own_event, other_event}
use Rattle.host_joint.proofs.Tying.{TieLaws, none_unlinked}
use Rattle.host_joint.proofs.Writing.{fitting_more}
use Rattle.host_joint.proofs.Requesting.{Meaning}
use Rattle.host_joint.proofs.Bonding.{bond_run}
use Rattle.host_joint.proofs.Recovering.{order_more, coming, no_event, one_event}
use Rattle.host_joint.proofs.Joining.{IsKept, Never, plugged-append, plugged_front}
use Rattle.host_joint.proofs.UntilJoined.{Spelled}
use Rattle.host_joint.proofs.StatusReading.{status_keeps, quiet_keeps}

-- ---- they stay

pub status_run : (laws : TieLaws) (meaning : Meaning) (read : StatusRead) (waits : Bool) (notify : Option SubmitHead) (got : Option ℕ) (older : List Packet) (run : List Entry) (next : ℕ) (ups : List up.Message) (downs : List Put) (s t : State)
    → Runs s run t → StaysPlugged run → ReadsStatus read waits notify got older next (inputs run ++ ups) downs s → ReadsStatus read waits notify got older next ups (downs ++ outputs run) t
status_run laws meaning read waits notify got older run next ups downs s t goes plugged r = record {
  asks = r.asks;
  tagged = r.tagged;
  before = r.before;
  earlier = r.earlier;
  other = r.other;
  bond = bond_run laws _ (asked_by (while waits read.head) notify) [] (status_keeps laws meaning read waits notify got older r.asks r.tagged) run next ups downs s t goes plugged r.bond;
}

pub quiet_run : (laws : TieLaws) (notify : Option SubmitHead) (older : List Packet) (run : List Entry) (next : ℕ) (ups : List up.Message) (downs : List Put) (s t : State)
    → Runs s run t → StaysPlugged run → Quiet notify older next (inputs run ++ ups) downs s → Quiet notify older next ups (downs ++ outputs run) t
quiet_run laws notify older run next ups downs s t goes plugged q =
    record { earlier = q.earlier; bond = bond_run laws _ (asked_by None notify) [] (quiet_keeps laws notify older) run next ups downs s t goes plugged q.bond }

-- ---- a submit is written

write : (Before After : List up.Message → List Put → State → Type 0) (asked later : Endpoint → List SubmitHead) (head : SubmitHead) (next : ℕ) (ups : List up.Message) (downs : List Put) (s : State) (e : Endpoint) → Fitting head → head.ep ≡ number_of e
    → head.seqnum ≡ next → later e ≡ asked e ++ head ∷ [] → ((d : Endpoint) → d ≢ e → later d ≡ asked d) → Bond Before asked [] next ups downs s → After (ups ++ up.Submit head [] ∷ []) downs s
    → Bond After later [] (next + 1) (ups ++ up.Submit head [] ∷ []) downs s
write Before After asked later head next ups downs s e fits number is grown kept bond held =
    subst (λ (n : ℕ). Bond After later [] (n + 1) (ups ++ up.Submit head [] ∷ []) downs s) is (own (subst (λ (n : ℕ). Bond Before asked [] n ups downs s) (sym is) bond))
  where
    own : Bond Before asked [] head.seqnum ups downs s → Bond After later [] (head.seqnum + 1) (ups ++ up.Submit head [] ∷ []) downs s
    own b =
        let rises = rises_written head [] ups s b.below b.rises in
        let none = none_unlinked (unlinked_by downs) (unlinks_in ups) b.lines.unlinked in
        record {
          run = b.run;
          reached = b.reached;
          lines = submit_written asked later [] ups downs s e head [] number grown kept (λ named. subst (λ (l : List UnlinkHead). IsNamed l head.seqnum) none.0 named) b.lines;
          fitting = fitting_more ups head [] fits b.fitting;
          order = order_more ups head [] none.1;
          fits = b.fits;
          rises = rises.0;
          below = rises.1;
          held = held;
        }

later_number : (notify : Option SubmitHead) (next : ℕ) → IsEarlier notify next → IsEarlier notify (next + 1)
later_number None next h = tt
later_number (Some head) next h = omega (arith, h)

other_number : (notify : Option SubmitHead) (head : SubmitHead) (next : ℕ) → head.seqnum ≡ next → IsEarlier notify next → IsOther notify head
other_number None head next is h = tt
other_number (Some notify) head next is h = λ e. omega (arith, h, is, e)

pub read_begins : (head : SubmitHead) (tag : ℕ) (notify : Option SubmitHead) (older : List Packet) (next : ℕ) (ups : List up.Message) (downs : List Put) (s : State) → IsClass head (ReadStatus tag) → IsStatusTag tag → Fitting head → head.seqnum ≡ next
    → Quiet notify older next ups downs s → ReadsStatus (record { head = head; tag = tag; since = s.log; left = older }) true notify None older (next + 1) (ups ++ up.Submit head [] ∷ []) downs s
read_begins head tag notify older next ups downs s asks tagged fits number q =
    let line = all_answered (asked_by None notify) Control ups downs s q.bond.lines refl in
    record {
      asks = asks;
      tagged = tagged;
      before = omega (arith, number);
      earlier = later_number notify next q.earlier;
      other = other_number notify head next number q.earlier;
      bond = write _ (λ ups downs s'. StatusHeld (record { head = head; tag = tag; since = s.log; left = older }) true None older ups downs s') (asked_by None notify) (asked_by (Some head) notify) head next ups downs s Control fits asks.number number refl
          (λ d differ. same d differ) q.bond (record {
            rest = q.bond.held.rest;
            polled = false;
            request = StatusComes refl refl (coming Control head ups asks.number line.sent) line.events line.queue;
            status_packets = older;
            brings = q.bond.held.brings;
            byte = ByteUnread refl refl refl (record { more = []; whole = sym (append-nil s.log); none = tt });
            fewer = λ e. e;
          });
    }
  where
    same : (d : Endpoint) → d ≢ Control → asked_by (Some head) notify d ≡ asked_by None notify d
    same Control differ = absurd (differ refl)
    same BulkOut differ = refl
    same BulkIn differ = refl
    same InterruptIn differ = refl

fits_notify : (head : SubmitHead) → IsNotify head → Fitting head
fits_notify head is = record { endpoint = InterruptIn; number = is.number; way = is.way }

notify_kept : (request : Option SubmitHead) (head : SubmitHead) (d : Endpoint) → d ≢ InterruptIn → asked_by request (Some head) d ≡ asked_by request None d
notify_kept request head Control differ = refl
notify_kept request head BulkOut differ = refl
notify_kept request head BulkIn differ = refl
notify_kept request head InterruptIn differ = absurd (differ refl)

pub notify_quiet : (head : SubmitHead) (older : List Packet) (next : ℕ) (ups : List up.Message) (downs : List Put) (s : State) → IsNotify head → head.seqnum ≡ next
    → Quiet None older next ups downs s → Quiet (Some head) older (next + 1) (ups ++ up.Submit head [] ∷ []) downs s
notify_quiet head older next ups downs s is number q = record {
  earlier = omega (arith, number);
  bond = write _ (λ ups downs s. QuietHeld older ups downs s) (asked_by None None) (asked_by None (Some head)) head next ups downs s InterruptIn (fits_notify head is) is.number number refl (notify_kept None head) q.bond
      (record { rest = q.bond.held.rest; brings = q.bond.held.brings });
}

pub notify_reads : (head : SubmitHead) (read : StatusRead) (waits : Bool) (got : Option ℕ) (older : List Packet) (next : ℕ) (ups : List up.Message) (downs : List Put) (s : State) → IsNotify head → head.seqnum ≡ next
    → ReadsStatus read waits None got older next ups downs s → ReadsStatus read waits (Some head) got older (next + 1) (ups ++ up.Submit head [] ∷ []) downs s
notify_reads head read waits got older next ups downs s is number r = record {
  asks = r.asks;
  tagged = r.tagged;
  before = omega (arith, r.before);
  earlier = omega (arith, number);
  other = λ e. omega (arith, r.before, number, e);
  bond = write _ (λ ups downs s. StatusHeld read waits got older ups downs s) (asked_by (while waits read.head) None) (asked_by (while waits read.head) (Some head)) head next ups downs s InterruptIn (fits_notify head is) is.number number refl
      (notify_kept (while waits read.head) head) r.bond (record {
        rest = h.rest;
        polled = h.polled;
        request = subst (λ (l : List Sent). StatusAt read waits h.polled l (events_of Control downs) s.control) (sym (other_line Control head [] ups (ap (λ (n : ℕ). eqb n 0) is.number))) h.request;
        status_packets = h.status_packets;
        brings = h.brings;
        byte = h.byte;
        fewer = h.fewer;
      });
}
  where
    h : StatusHeld read waits got older ups downs s
    h = r.bond.held

-- ---- a host at rest, and back

some_event : {x : Event} {l : List Event} → [] ≡ x ∷ l → ⊥
some_event e = cc

pub none_down : (ups : List up.Message) (downs : List Put) (s : State) → AllAnswers IsFit downs → Lines (asked_of None) [] ups downs s → downs ≡ []
none_down ups [] s fits lines = refl
none_down ups (Unlinked asked a ∷ downs) s fits lines = let e = none_unlinked (unlinked_by (Unlinked asked a ∷ downs)) (unlinks_in ups) lines.unlinked in absurd (cc)
none_down ups (Submitted asked a transferred ∷ downs) s fits lines =
    absurd (some_event (sym (all_answered (asked_of None) fits.0.0.endpoint ups (Submitted asked a transferred ∷ downs) s lines refl).events ∙ own_event fits.0.0.endpoint asked a transferred downs fits.0.0.number))

lines_as : (asked later : Endpoint → List SubmitHead) (ups : List up.Message) (downs : List Put) (s : State) → ((e : Endpoint) → later e ≡ asked e) → Lines asked [] ups downs s → Lines later [] ups downs s
lines_as asked later ups downs s same lines =
    record { submits = λ e. subst (λ (l : List SubmitHead). LeftBy l (events_of e downs) (heads (queue_of e s) ++ sent_heads (sent_to e ups))) (sym (same e)) (lines.submits e); unlinked = lines.unlinked }

bond_to : (Before After : List up.Message → List Put → State → Type 0) (asked later : Endpoint → List SubmitHead) (next : ℕ) (ups : List up.Message) (downs : List Put) (s : State) → ((e : Endpoint) → later e ≡ asked e)
    → Bond Before asked [] next ups downs s → After ups downs s → Bond After later [] next ups downs s
bond_to Before After asked later next ups downs s same bond held = record {
  run = bond.run;
  reached = bond.reached;
  lines = lines_as asked later ups downs s same bond.lines;
  fitting = bond.fitting;
  order = bond.order;
  fits = bond.fits;
  rises = bond.rises;
  below = bond.below;
  held = held;
}

none_same : (e : Endpoint) → asked_by None None e ≡ asked_of None e
none_same Control = refl
none_same BulkOut = refl
none_same BulkIn = refl
none_same InterruptIn = refl

pub quiet_begins : (older : List Packet) (next : ℕ) (ups : List up.Message) (downs : List Put) (s : State) → statuses s.packets ≡ older → Bound (Stands Resting) None [] next ups downs s → Quiet None older next ups downs s
quiet_begins older next ups downs s is b =
    let none : downs ≡ [] = none_down ups downs s b.bond.fits b.bond.lines in
    record {
      earlier = tt;
      bond = bond_to _ (λ ups downs s. QuietHeld older ups downs s) (asked_of None) (asked_by None None) next ups downs s none_same b.bond (record {
        rest = b.bond.held;
        brings = record { sent = []; carried = ap (λ (l : List Put). packets_in (events_of InterruptIn l)) none; queued = is; usual = subst (λ (l : List Put). AllAnswers IsUsual l) (sym none) tt };
      });
    }

pub quiet_ends : (older : List Packet) (next : ℕ) (ups : List up.Message) (downs : List Put) (s : State) → Quiet None older next ups downs s → Bound (Stands Resting) None [] next ups downs s
quiet_ends older next ups downs s q =
    record { bond = bond_to _ (λ ups downs s. IsAt rests s) (asked_by None None) (asked_of None) next ups downs s (λ e. sym (none_same e)) q.bond q.bond.held.rest; awaited = (refl, refl) }

-- ---- what it has

pub read_ends : (read : StatusRead) (notify : Option SubmitHead) (byte : ℕ) (older : List Packet) (next : ℕ) (ups : List up.Message) (downs : List Put) (s : State) → ReadsStatus read false notify (Some byte) older next ups downs s
    → OnePolled read.head.seqnum byte read.since s.log × Quiet notify [] next ups downs s
read_ends read notify byte older next ups downs s r = by h.byte
  where
    h : StatusHeld read false (Some byte) older ups downs s
    h = r.bond.held

    by : ByteAt read older (Some byte) h.polled h.status_packets s.log → OnePolled read.head.seqnum byte read.since s.log × Quiet notify [] next ups downs s
    by (ByteUnread p g is none) = absurd (cc)
    by (ByteComes other p g is one) = absurd (cc)
    by (ByteCame other p g none is one) =
        let same : other ≡ byte = cc in (
          subst (λ (b : ℕ). OnePolled read.head.seqnum b read.since s.log) same one,
          record {
            earlier = r.earlier;
            bond = bond_to _ (λ ups downs s. QuietHeld [] ups downs s) (asked_by None notify) (asked_by None notify) next ups downs s (λ e. refl) r.bond
                (record { rest = h.rest; brings = subst (λ (l : List Packet). Brings l downs s) is h.brings });
          },
        )

pub read_left : (read : StatusRead) (notify : Option SubmitHead) (older : List Packet) (next : ℕ) (ups : List up.Message) (downs : List Put) (s : State) → ReadsStatus read false notify None older next ups downs s
    → (byte : ℕ) × OnePolled read.head.seqnum byte read.since s.log × Quiet notify (older ++ StatusPacket read.tag byte ∷ []) next ups downs s
read_left read notify older next ups downs s r = by h.request h.byte
  where
    h : StatusHeld read false None older ups downs s
    h = r.bond.held

    left : ByteAt read older None h.polled h.status_packets s.log → h.polled ≡ true → (byte : ℕ) × OnePolled read.head.seqnum byte read.since s.log × Quiet notify (older ++ StatusPacket read.tag byte ∷ []) next ups downs s
    left (ByteUnread p g is none) was = let e : false ≡ true = sym p ∙ was in absurd (cc)
    left (ByteCame other p g none is one) was = absurd (cc)
    left (ByteComes byte p g is one) was = (
      byte,
      one,
      record {
        earlier = r.earlier;
        bond = bond_to _ (λ ups downs s. QuietHeld (older ++ StatusPacket read.tag byte ∷ []) ups downs s) (asked_by None notify) (asked_by None notify) next ups downs s (λ e. refl) r.bond
            (record { rest = h.rest; brings = subst (λ (l : List Packet). Brings l downs s) is h.brings });
      },
    )

    by : StatusAt read false h.polled (sent_to Control ups) (events_of Control downs) s.control → ByteAt read older None h.polled h.status_packets s.log
        → (byte : ℕ) × OnePolled read.head.seqnum byte read.since s.log × Quiet notify (older ++ StatusPacket read.tag byte ∷ []) next ups downs s
    by (StatusComes w p come empty pends) b = absurd (cc)
    by (StatusPends w p come empty pends) b = absurd (cc)
    by (StatusPolled w p come empty pends) b = absurd (cc)
    by (StatusSaid w p come given pends) b = absurd (cc)
    by (StatusBusy w p come given pends some) b = absurd (cc)
    by (StatusOver w p come empty pends) b = left b p

-- ---- what it is given

-- the bond behind the answer to one of the two submits
pub answered_by : (Before After : List up.Message → List Put → State → Type 0) (asked later : Endpoint → List SubmitHead) (unlinks : List UnlinkHead) (e : Endpoint) (head : SubmitHead) (a : RetSubmitHead) (transferred : List ℕ) (next : ℕ) (ups : List up.Message) (downs : List Put) (s : State)
    → head.ep ≡ number_of e → asked e ≡ head ∷ [] → later e ≡ [] → ((d : Endpoint) → d ≢ e → later d ≡ asked d) → Bond Before asked unlinks next ups (Submitted head a transferred ∷ downs) s → After ups downs s
    → Bond After later unlinks next ups downs s
answered_by Before After asked later unlinks e head a transferred next ups downs s own first none kept bond held =
    let taken = submit_answered asked unlinks ups head a transferred downs s e own bond.lines in
    let rest : taken.0 ≡ [] = tail head head taken.0 (sym taken.1 ∙ first) in
    record {
      run = bond.run;
      reached = bond.reached;
      lines = taken.2 later (none ∙ sym rest) kept;
      fitting = bond.fitting;
      order = bond.order;
      fits = bond.fits.1;
      rises = bond.rises;
      below = bond.below;
      held = held;
    }
  where
    tail : (x y : SubmitHead) (l : List SubmitHead) → x ∷ l ≡ y ∷ [] → l ≡ []
    tail x y l e = cc

answered : (Before After : List up.Message → List Put → State → Type 0) (asked later : Endpoint → List SubmitHead) (e : Endpoint) (head : SubmitHead) (a : RetSubmitHead) (transferred : List ℕ) (next : ℕ) (ups : List up.Message) (downs : List Put) (s : State)
    → head.ep ≡ number_of e → asked e ≡ head ∷ [] → later e ≡ [] → ((d : Endpoint) → d ≢ e → later d ≡ asked d) → Bond Before asked [] next ups (Submitted head a transferred ∷ downs) s → After ups downs s → Bond After later [] next ups downs s
answered Before After asked later e head a transferred next ups downs s own first none kept bond held = answered_by Before After asked later [] e head a transferred next ups downs s own first none kept bond held

-- it is the submit to its endpoint that is not answered
pub first_asked_by : (asked : Endpoint → List SubmitHead) (unlinks : List UnlinkHead) (Holds : List up.Message → List Put → State → Type 0) (head : SubmitHead) (a : RetSubmitHead) (transferred : List ℕ) (next : ℕ) (ups : List up.Message) (downs : List Put) (s : State) (e : Endpoint)
    → head.ep ≡ number_of e → Bond Holds asked unlinks next ups (Submitted head a transferred ∷ downs) s → (rest : List SubmitHead) × (asked e ≡ head ∷ rest)
first_asked_by asked unlinks Holds head a transferred next ups downs s e own bond = let taken = submit_answered asked unlinks ups head a transferred downs s e own bond.lines in (taken.0, taken.1)

first_asked : (asked : Endpoint → List SubmitHead) (Holds : List up.Message → List Put → State → Type 0) (head : SubmitHead) (a : RetSubmitHead) (transferred : List ℕ) (next : ℕ) (ups : List up.Message) (downs : List Put) (s : State) (e : Endpoint)
    → head.ep ≡ number_of e → Bond Holds asked [] next ups (Submitted head a transferred ∷ downs) s → (rest : List SubmitHead) × (asked e ≡ head ∷ rest)
first_asked asked Holds head a transferred next ups downs s e own bond = first_asked_by asked [] Holds head a transferred next ups downs s e own bond

pub one_only : (o : Option SubmitHead) (head : SubmitHead) (rest : List SubmitHead) → none_or_one o ≡ head ∷ rest → o ≡ Some head
one_only None head rest e = absurd (cc)
one_only (Some x) head rest e = let same : x ≡ head = cc in ap (λ (y : SubmitHead). Some y) same

pub while_some : (b : Bool) (head asked : SubmitHead) → while b head ≡ Some asked → (b ≡ true) × (asked ≡ head)
while_some true head asked e = let same : head ≡ asked = cc in (refl, sym same)
while_some false head asked e = absurd (cc)

pub some_first : {B : Type 0} (head : SubmitHead) (rest : List SubmitHead) → [] ≡ head ∷ rest → B
some_first head rest e = absurd (cc)

-- an answer at another endpoint brings no packet
brings_behind : (l : List Packet) (head : SubmitHead) (a : RetSubmitHead) (transferred : List ℕ) (downs : List Put) (s : State) → head.ep ≡ 0 → Brings l (Submitted head a transferred ∷ downs) s → Brings l downs s
brings_behind l head a transferred downs s own b = record {
  sent = b.sent;
  carried = ap (λ (x : List Event). packets_in x) (sym (other_event InterruptIn head a transferred downs 0 own refl)) ∙ b.carried;
  queued = b.queued;
  usual = b.usual.1;
}

-- the first packet, where the answer is good; none, where it is not
pub data First (l : List Packet) (a : RetSubmitHead) (transferred : List ℕ) (downs : List Put) (s : State) : Type 0 where
  FirstService : (byte : ℕ) → a.status ≡ success → transferred ≡ packet_bytes (ServicePacket byte) → Brings l downs s → First l a transferred downs s
  FirstStatus : (tag byte : ℕ) (others : List Packet) → a.status ≡ success → l ≡ StatusPacket tag byte ∷ others → transferred ≡ packet_bytes (StatusPacket tag byte) → Brings others downs s → First l a transferred downs s
  FirstHalt : a.status ≡ stalled → Brings l downs s → First l a transferred downs s

pub first : (l : List Packet) (head : SubmitHead) (a : RetSubmitHead) (transferred : List ℕ) (downs : List Put) (s : State) → head.ep ≡ 3 → Brings l (Submitted head a transferred ∷ downs) s → First l a transferred downs s
first l head a transferred downs s own b = by b.usual.0
  where
    given : cond (is_good a.status) (transferred ∷ packets_in (events_of InterruptIn downs)) (packets_in (events_of InterruptIn downs)) ≡ bytes_of b.sent
    given = ap (λ (x : List Event). packets_in x) (sym (own_event InterruptIn head a transferred downs own)) ∙ b.carried

    heads_same : (x y : List ℕ) (k m : List (List ℕ)) → x ∷ k ≡ y ∷ m → (x ≡ y) × (k ≡ m)
    heads_same x y k m e = (cc, cc)

    some : (sent : List Packet) → a.status ≡ success → transferred ∷ packets_in (events_of InterruptIn downs) ≡ bytes_of sent → statuses (sent ++ s.packets) ≡ l → First l a transferred downs s
    some [] good e is = absurd (cc)
    some (ServicePacket byte ∷ sent) good e is =
        let same = heads_same transferred (packet_bytes (ServicePacket byte)) (packets_in (events_of InterruptIn downs)) (bytes_of sent) e in
        let rest : Brings l downs s = record { sent = sent; carried = same.1; queued = is; usual = b.usual.1 } in
        FirstService byte good same.0 rest
    some (StatusPacket tag byte ∷ sent) good e is =
        let same = heads_same transferred (packet_bytes (StatusPacket tag byte)) (packets_in (events_of InterruptIn downs)) (bytes_of sent) e in
        let rest : Brings (statuses (sent ++ s.packets)) downs s = record { sent = sent; carried = same.1; queued = refl; usual = b.usual.1 } in
        FirstStatus tag byte (statuses (sent ++ s.packets)) good (sym is) same.0 rest

    by : (a.status ≡ success) ⊎ (a.status ≡ stalled) → First l a transferred downs s
    by (inl good) = some b.sent good (ap (λ (x : ℤ). cond (is_good x) (transferred ∷ packets_in (events_of InterruptIn downs)) (packets_in (events_of InterruptIn downs))) (sym good) ∙ given) b.queued
    by (inr halted) =
        let rest : Brings l downs s = record {
          sent = b.sent;
          carried = ap (λ (x : ℤ). cond (is_good x) (transferred ∷ packets_in (events_of InterruptIn downs)) (packets_in (events_of InterruptIn downs))) (sym halted) ∙ given;
          queued = b.queued;
          usual = b.usual.1;
        } in
        FirstHalt halted rest

pub request_kept : (request notify : Option SubmitHead) (d : Endpoint) → d ≢ InterruptIn → asked_by request None d ≡ asked_by request notify d
request_kept request notify Control differ = refl
request_kept request notify BulkOut differ = refl
request_kept request notify BulkIn differ = refl
request_kept request notify InterruptIn differ = absurd (differ refl)

pub notify_left : (request notify : Option SubmitHead) (d : Endpoint) → d ≢ Control → asked_by None notify d ≡ asked_by request notify d
notify_left request notify Control differ = absurd (differ refl)
notify_left request notify BulkOut differ = refl
notify_left request notify BulkIn differ = refl
notify_left request notify InterruptIn differ = refl

-- the answer to the request, by what it says
pub request_given : {Goal : Type 0} (read : StatusRead) (waits : Bool) (got : Option ℕ) (older : List Packet) (asked : SubmitHead) (a : RetSubmitHead) (transferred : List ℕ) (ups : List up.Message) (downs : List Put) (s : State) → asked.ep ≡ 0
    → StatusHeld read waits got older ups (Submitted asked a transferred ∷ downs) s
    → (a ≡ record { seqnum = read.head.seqnum; status = success; actual = 3 } → transferred ≡ status_layout STATUS_SUCCESS read.tag → StatusHeld read false got older ups downs s → Goal)
    → (a ≡ record { seqnum = read.head.seqnum; status = success; actual = 3 } → transferred ≡ status_layout STATUS_INTERRUPT_IN_BUSY read.tag → read.left ≢ [] → NonePolled read.since s.log → FreeHeld older ups downs s → Goal) → Goal
request_given {Goal} read waits got older asked a transferred ups downs s own h success_is busy_is = by (subst (λ (l : List Event). StatusAt read waits h.polled (sent_to Control ups) l s.control) (own_event Control asked a transferred downs own) h.request)
  where
    brings : Brings h.status_packets downs s
    brings = brings_behind h.status_packets asked a transferred downs s own h.brings

    behind_one : (x y : Event) (l : List Event) → x ∷ l ≡ y ∷ [] → l ≡ []
    behind_one x y l e = cc

    unread : ByteAt read older got h.polled h.status_packets s.log → h.polled ≡ false → (h.status_packets ≡ older) × NonePolled read.since s.log
    unread (ByteUnread p g is none) not_yet = (is, none)
    unread (ByteComes byte p g is one) not_yet = let e : true ≡ false = sym p ∙ not_yet in absurd (cc)
    unread (ByteCame byte p g none is one) not_yet = let e : true ≡ false = sym p ∙ not_yet in absurd (cc)

    by : StatusAt read waits h.polled (sent_to Control ups) (Gives asked a transferred ∷ events_of Control downs) s.control → Goal
    by (StatusComes x p come none free) = no_event _ _ none
    by (StatusPends x p come none pends) = no_event _ _ none
    by (StatusPolled x p come none pends) = no_event _ _ none
    by (StatusOver x p come none free) = no_event _ _ none
    by (StatusSaid x p come one free) =
        let is = one_event asked read.head a _ transferred (status_layout STATUS_SUCCESS read.tag) _ one in
        success_is is.0 is.1 (record { rest = h.rest; polled = h.polled; request = StatusOver refl p come (behind_one _ _ _ one) free; status_packets = h.status_packets; brings = brings; byte = h.byte; fewer = h.fewer })
    by (StatusBusy x p come one free some) =
        let is = one_event asked read.head a _ transferred (status_layout STATUS_INTERRUPT_IN_BUSY read.tag) _ one in
        let not_yet = unread h.byte p in
        busy_is is.0 is.1 some not_yet.1
        (record { sent = come; queue = free; events = behind_one _ _ _ one; quiet = record { rest = h.rest; brings = subst (λ (l : List Packet). Brings l downs s) not_yet.0 brings } })

-- an answer on Interrupt-IN, by what it brings
pub notify_given : {Goal : Type 0} (read : StatusRead) (waits : Bool) (got : Option ℕ) (older : List Packet) (asked : SubmitHead) (a : RetSubmitHead) (transferred : List ℕ) (ups : List up.Message) (downs : List Put) (s : State) → asked.ep ≡ 3
    → StatusHeld read waits got older ups (Submitted asked a transferred ∷ downs) s
    → ((byte : ℕ) → a.status ≡ success → transferred ≡ packet_bytes (ServicePacket byte) → StatusHeld read waits got older ups downs s → Goal)
    → ((packet : Packet) (others : List Packet) → a.status ≡ success → older ≡ packet ∷ others → transferred ≡ packet_bytes packet → StatusHeld read waits got others ups downs s → Goal)
    → ((byte : ℕ) → a.status ≡ success → older ≡ [] → got ≡ None → transferred ≡ packet_bytes (StatusPacket read.tag byte) → OnePolled read.head.seqnum byte read.since s.log → StatusHeld read waits (Some byte) [] ups downs s → Goal)
    → (a.status ≡ stalled → StatusHeld read waits got older ups downs s → Goal) → Goal
notify_given {Goal} read waits got older asked a transferred ups downs s own h service old_one its_byte halt = by (first h.status_packets asked a transferred downs s own h.brings)
  where
    request : StatusAt read waits h.polled (sent_to Control ups) (events_of Control downs) s.control
    request = subst (λ (l : List Event). StatusAt read waits h.polled (sent_to Control ups) l s.control) (other_event Control asked a transferred downs 3 own refl) h.request

    behind : (has : Option ℕ) (left l : List Packet) → Brings l downs s → ByteAt read left has h.polled l s.log → (read.left ≡ [] → left ≡ []) → StatusHeld read waits has left ups downs s
    behind has left l brings byte fewer = record { rest = h.rest; polled = h.polled; request = request; status_packets = l; brings = brings; byte = byte; fewer = fewer }

    fewer_left : (packet : Packet) (others : List Packet) → older ≡ packet ∷ others → read.left ≡ [] → others ≡ []
    fewer_left packet others is none = let e : [] ≡ packet ∷ others = sym (h.fewer none) ∙ is in absurd (cc)

    came : (tag byte : ℕ) (others : List Packet) → a.status ≡ success → h.status_packets ≡ StatusPacket tag byte ∷ others → transferred ≡ packet_bytes (StatusPacket tag byte) → Brings others downs s
        → ByteAt read older got h.polled h.status_packets s.log → Goal
    came tag byte others good line text brings (ByteUnread p g all none) =
        let left : older ≡ StatusPacket tag byte ∷ others = sym all ∙ line in
        old_one (StatusPacket tag byte) others good left text (behind got others others brings (ByteUnread p g refl none) (fewer_left (StatusPacket tag byte) others left))
    came tag byte others good line text brings (ByteComes own_byte p g all one) = which older refl (sym all ∙ line)
      where
        which : (l : List Packet) → older ≡ l → older ++ StatusPacket read.tag own_byte ∷ [] ≡ StatusPacket tag byte ∷ others → Goal
        which [] none e =
            let only : StatusPacket read.tag own_byte ∷ [] ≡ StatusPacket tag byte ∷ others = ap (λ (x : List Packet). x ++ StatusPacket read.tag own_byte ∷ []) (sym none) ∙ e in
            let same : StatusPacket read.tag own_byte ≡ StatusPacket tag byte = cc in
            let none_left : others ≡ [] = cc in
            its_byte own_byte good none g (text ∙ ap (λ (x : Packet). packet_bytes x) (sym same)) one (behind (Some own_byte) [] others brings (ByteCame own_byte p refl refl none_left one) (λ k. refl))
        which (x ∷ l) some e =
            let all_same : x ∷ (l ++ StatusPacket read.tag own_byte ∷ []) ≡ StatusPacket tag byte ∷ others = ap (λ (y : List Packet). y ++ StatusPacket read.tag own_byte ∷ []) (sym some) ∙ e in
            let same : x ≡ StatusPacket tag byte = cc in
            let rest : others ≡ l ++ StatusPacket read.tag own_byte ∷ [] = cc in
            old_one x l good some (text ∙ ap (λ (y : Packet). packet_bytes y) (sym same)) (behind got l others brings (ByteComes own_byte p g rest one) (fewer_left x l some))
    came tag byte others good line text brings (ByteCame own_byte p g none all one) = let e : [] ≡ StatusPacket tag byte ∷ others = sym all ∙ line in absurd (cc)

    by : First h.status_packets a transferred downs s → Goal
    by (FirstService byte good text brings) = service byte good text (behind got older h.status_packets brings h.byte h.fewer)
    by (FirstStatus tag byte others good line text brings) = came tag byte others good line text brings h.byte
    by (FirstHalt halted brings) = halt halted (behind got older h.status_packets brings h.byte h.fewer)

from_request : (read : StatusRead) (waits : Bool) (notify : Option SubmitHead) (got : Option ℕ) (older : List Packet) (asked : SubmitHead) (a : RetSubmitHead) (transferred : List ℕ) (next : ℕ) (ups : List up.Message) (downs : List Put) (s : State)
    → asked.ep ≡ 0 → ReadsStatus read waits notify got older next ups (Submitted asked a transferred ∷ downs) s → GivesStatus read waits notify got older asked a transferred next ups downs s
from_request read waits notify got older asked a transferred next ups downs s own r =
    let e = first_asked (asked_by (while waits read.head) notify) _ asked a transferred next ups downs s Control own r.bond in
    let same = while_some waits read.head asked (one_only (while waits read.head) asked e.0 e.1) in
    request_given read waits got older asked a transferred ups downs s own r.bond.held
    (λ is text held. SaysSuccess same.0 same.1 is text (record { asks = r.asks; tagged = r.tagged; before = r.before; earlier = r.earlier; other = r.other; bond = behind (λ ups downs s. StatusHeld read false got older ups downs s) same.0 same.1 held }))
    (λ is text some none held. SaysBusy same.0 same.1 is text some none (record { earlier = r.earlier; bond = behind (λ ups downs s. QuietHeld older ups downs s) same.0 same.1 held.quiet }))
  where
    behind : (After : List up.Message → List Put → State → Type 0) → waits ≡ true → asked ≡ read.head → After ups downs s → Bond After (asked_by None notify) [] next ups downs s
    behind After w same held =
        answered _ After (asked_by (while waits read.head) notify) (asked_by None notify) Control asked a transferred next ups downs s own (ap (λ (b : Bool). none_or_one (while b read.head)) w ∙ ap (λ (x : SubmitHead). x ∷ []) (sym same)) refl
        (notify_left (while waits read.head) notify) r.bond held

from_notify : (read : StatusRead) (waits : Bool) (notify : Option SubmitHead) (got : Option ℕ) (older : List Packet) (asked : SubmitHead) (a : RetSubmitHead) (transferred : List ℕ) (next : ℕ) (ups : List up.Message) (downs : List Put) (s : State)
    → asked.ep ≡ 3 → ReadsStatus read waits notify got older next ups (Submitted asked a transferred ∷ downs) s → GivesStatus read waits notify got older asked a transferred next ups downs s
from_notify read waits notify got older asked a transferred next ups downs s own r =
    let e = first_asked (asked_by (while waits read.head) notify) _ asked a transferred next ups downs s InterruptIn own r.bond in
    let is = one_only notify asked e.0 e.1 in
    notify_given read waits got older asked a transferred ups downs s own r.bond.held
    (λ byte good text held. BringsService byte is good text (behind got older is held))
    (λ packet others good left text held. BringsOlder packet others is good left text (behind got others is held))
    (λ byte good none g text one held. BringsByte byte is good none g text one (behind (Some byte) [] is held))
    (λ halted held. BringsHalt is halted (behind got older is held))
  where
    behind : (has : Option ℕ) (left : List Packet) → notify ≡ Some asked → StatusHeld read waits has left ups downs s → ReadsStatus read waits None has left next ups downs s
    behind has left is held = record {
      asks = r.asks;
      tagged = r.tagged;
      before = r.before;
      earlier = tt;
      other = tt;
      bond = answered _ (λ ups downs s. StatusHeld read waits has left ups downs s) (asked_by (while waits read.head) notify) (asked_by (while waits read.head) None) InterruptIn asked a transferred next ups downs s own
          (ap (λ (o : Option SubmitHead). none_or_one o) is) refl (request_kept (while waits read.head) notify) r.bond held;
    }

pub status_given : (read : StatusRead) (waits : Bool) (notify : Option SubmitHead) (got : Option ℕ) (older : List Packet) (asked : SubmitHead) (a : RetSubmitHead) (transferred : List ℕ) (next : ℕ) (ups : List up.Message) (downs : List Put) (s : State)
    → ReadsStatus read waits notify got older next ups (Submitted asked a transferred ∷ downs) s → GivesStatus read waits notify got older asked a transferred next ups downs s
status_given read waits notify got older asked a transferred next ups downs s r = by fits.endpoint refl
  where
    fits : Fitting asked
    fits = r.bond.fits.0.0

    by : (e : Endpoint) → fits.endpoint ≡ e → GivesStatus read waits notify got older asked a transferred next ups downs s
    by Control is = from_request read waits notify got older asked a transferred next ups downs s (fits.number ∙ ap number_of is) r
    by BulkOut is = let e = first_asked (asked_by (while waits read.head) notify) _ asked a transferred next ups downs s BulkOut (fits.number ∙ ap number_of is) r.bond in some_first asked e.0 e.1
    by BulkIn is = let e = first_asked (asked_by (while waits read.head) notify) _ asked a transferred next ups downs s BulkIn (fits.number ∙ ap number_of is) r.bond in some_first asked e.0 e.1
    by InterruptIn is = from_notify read waits notify got older asked a transferred next ups downs s (fits.number ∙ ap number_of is) r

pub quiet_given : (notify : Option SubmitHead) (older : List Packet) (asked : SubmitHead) (a : RetSubmitHead) (transferred : List ℕ) (next : ℕ) (ups : List up.Message) (downs : List Put) (s : State)
    → Quiet notify older next ups (Submitted asked a transferred ∷ downs) s → GivesQuiet notify older asked a transferred next ups downs s
quiet_given notify older asked a transferred next ups downs s q = by fits.endpoint refl
  where
    fits : Fitting asked
    fits = q.bond.fits.0.0

    behind : (left : List Packet) → asked.ep ≡ 3 → notify ≡ Some asked → Brings left downs s → Quiet None left next ups downs s
    behind left own is brings = record {
      earlier = tt;
      bond = answered _ (λ ups downs s. QuietHeld left ups downs s) (asked_by None notify) (asked_by None None) InterruptIn asked a transferred next ups downs s own (ap (λ (o : Option SubmitHead). none_or_one o) is) refl (request_kept None notify)
          q.bond (record { rest = q.bond.held.rest; brings = brings });
    }

    which : asked.ep ≡ 3 → notify ≡ Some asked → First older a transferred downs s → GivesQuiet notify older asked a transferred next ups downs s
    which own is (FirstService byte good text brings) = QuietService byte is good text (behind older own is brings)
    which own is (FirstStatus tag byte others good line text brings) = QuietOlder (StatusPacket tag byte) others is good line text (behind others own is brings)
    which own is (FirstHalt halted brings) = QuietHalt is halted (behind older own is brings)

    by : (e : Endpoint) → fits.endpoint ≡ e → GivesQuiet notify older asked a transferred next ups downs s
    by Control is = let e = first_asked (asked_by None notify) _ asked a transferred next ups downs s Control (fits.number ∙ ap number_of is) q.bond in some_first asked e.0 e.1
    by BulkOut is = let e = first_asked (asked_by None notify) _ asked a transferred next ups downs s BulkOut (fits.number ∙ ap number_of is) q.bond in some_first asked e.0 e.1
    by BulkIn is = let e = first_asked (asked_by None notify) _ asked a transferred next ups downs s BulkIn (fits.number ∙ ap number_of is) q.bond in some_first asked e.0 e.1
    by InterruptIn is =
        let own : asked.ep ≡ 3 = fits.number ∙ ap number_of is in
        let e = first_asked (asked_by None notify) _ asked a transferred next ups downs s InterruptIn own q.bond in which own (one_only notify asked e.0 e.1) (first older asked a transferred downs s own q.bond.held.brings)

-- the packet with the tag of the request, which none of the older ones has
pub status_owned : (read : StatusRead) (waits : Bool) (notify : Option SubmitHead) (got : Option ℕ) (older : List Packet) (asked : SubmitHead) (a : RetSubmitHead) (byte next : ℕ) (ups : List up.Message) (downs : List Put) (s : State)
    → asked.ep ≡ 3 → a.status ≡ success → NoneTagged read.tag older → ReadsStatus read waits notify got older next ups (Submitted asked a ((0x80 + read.tag) ∷ byte ∷ []) ∷ downs) s
    → OnePolled read.head.seqnum byte read.since s.log × ReadsStatus read waits None (Some byte) [] next ups downs s
status_owned read waits notify got older asked a byte next ups downs s own good none r = by (status_given read waits notify got older asked a _ next ups downs s r)
  where
    Owned : Type 0
    Owned = OnePolled read.head.seqnum byte read.since s.log × ReadsStatus read waits None (Some byte) [] next ups downs s

    two : (x y z w : ℕ) → x ∷ y ∷ [] ≡ z ∷ w ∷ [] → (x ≡ z) × (y ≡ w)
    two x y z w e = (cc, cc)

    no_service : (other : ℕ) → (0x80 + read.tag) ∷ byte ∷ [] ≡ packet_bytes (ServicePacket other) → Owned
    no_service other text = absurd (omega (arith, (two (0x80 + read.tag) byte 0x81 other text).0, r.tagged.0))

    no_older : (packet : Packet) (others : List Packet) → NoneTagged read.tag (packet ∷ others) → (0x80 + read.tag) ∷ byte ∷ [] ≡ packet_bytes packet → Owned
    no_older (ServicePacket other) others apart text = no_service other text
    no_older (StatusPacket tag other) others apart text = absurd (apart.0 (omega (arith, (two (0x80 + read.tag) byte (0x80 + tag) other text).0)))

    by : GivesStatus read waits notify got older asked a ((0x80 + read.tag) ∷ byte ∷ []) next ups downs s → Owned
    by (SaysSuccess w same is text behind) = absurd (omega (arith, own, r.asks.number, ap (λ (x : SubmitHead). x.ep) same))
    by (SaysBusy w same is text some not_yet quiet) = absurd (omega (arith, own, r.asks.number, ap (λ (x : SubmitHead). x.ep) same))
    by (BringsService other is fine text behind) = no_service other text
    by (BringsOlder packet others is fine left text behind) = no_older packet others (subst (λ (l : List Packet). NoneTagged read.tag l) left none) text
    by (BringsByte other is fine none_left g text one behind) =
        let same : other ≡ byte = sym (two (0x80 + read.tag) byte (0x80 + read.tag) other text).1 in
        (subst (λ (b : ℕ). OnePolled read.head.seqnum b read.since s.log) same one, subst (λ (b : ℕ). ReadsStatus read waits None (Some b) [] next ups downs s) same behind)
    by (BringsHalt is halted behind) = let e : success ≡ stalled = sym good ∙ halted in absurd (cc)

-- ---- over a link

pub apart_by : (request notify : Option SubmitHead) → ((head : SubmitHead) → request ≡ Some head → IsOther notify head) → AreApart (asked_by request notify)
apart_by request notify other = record { rising = rising; apart = apart }
  where
    one_rises : (o : Option SubmitHead) → Rising (none_or_one o)
    one_rises None = tt
    one_rises (Some x) = (tt, tt)

    rising : (e : Endpoint) → Rising (asked_by request notify e)
    rising Control = one_rises request
    rising BulkOut = tt
    rising BulkIn = tt
    rising InterruptIn = one_rises notify

    none_of : (o : Option SubmitHead) → AllHeads (λ (head : SubmitHead). NoneNumbered head.seqnum []) (none_or_one o)
    none_of None = tt
    none_of (Some x) = (tt, tt)

    there : (o p : Option SubmitHead) → ((head : SubmitHead) → o ≡ Some head → IsOther p head) → AllHeads (λ (head : SubmitHead). NoneNumbered head.seqnum (none_or_one p)) (none_or_one o)
    there None p h = tt
    there (Some x) None h = (tt, tt)
    there (Some x) (Some y) h = ((h x refl, tt), tt)

    back : (o p : Option SubmitHead) → ((head : SubmitHead) → o ≡ Some head → IsOther p head) → AllHeads (λ (head : SubmitHead). NoneNumbered head.seqnum (none_or_one o)) (none_or_one p)
    back o None h = tt
    back None (Some y) h = (tt, tt)
    back (Some x) (Some y) h = (((λ e. h x refl (sym e)), tt), tt)

    apart : (d e : Endpoint) → d ≢ e → AllHeads (λ (head : SubmitHead). NoneNumbered head.seqnum (asked_by request notify e)) (asked_by request notify d)
    apart Control Control differ = absurd (differ refl)
    apart Control BulkOut differ = none_of request
    apart Control BulkIn differ = none_of request
    apart Control InterruptIn differ = there request notify other
    apart BulkOut e differ = tt
    apart BulkIn e differ = tt
    apart InterruptIn Control differ = back request notify other
    apart InterruptIn BulkOut differ = none_of notify
    apart InterruptIn BulkIn differ = none_of notify
    apart InterruptIn InterruptIn differ = absurd (differ refl)

pub few_by : (request notify : Option SubmitHead) → total_of (asked_by request notify) ≤ pending_most
few_by request notify = omega (arith, one request, one notify)
  where
    one : (o : Option SubmitHead) → length (none_or_one o) ≤ 1
    one None = omega arith
    one (Some x) = omega arith

pub read_apart : (read : StatusRead) (waits : Bool) (notify : Option SubmitHead) → IsOther notify read.head → AreApart (asked_by (while waits read.head) notify)
read_apart read true notify other = apart_by (Some read.head) notify (λ head is. same head is)
  where
    same : (head : SubmitHead) → Some read.head ≡ Some head → IsOther notify head
    same head is = let e : read.head ≡ head = cc in subst (λ (x : SubmitHead). IsOther notify x) e other
read_apart read false notify other = apart_by None notify (λ head is. absurd (cc))

pub status_kept : (laws : TieLaws) (meaning : Meaning) → Never → (read : StatusRead) (waits : Bool) (notify : Option SubmitHead) (got : Option ℕ) (older : List Packet) (next : ℕ)
    → IsKept StaysPlugged (λ ups downs t. ReadsStatus read waits notify got older next ups downs t)
status_kept laws meaning never read waits notify got older next = record {
  kind = record { more = plugged-append; front = plugged_front };
  goes = λ run ups downs s t goes plugged r. status_run laws meaning read waits notify got older run next ups downs s t goes plugged r;
  taken = λ x transferred ups downs s f r over.
      never (asked_by (while waits read.head) notify) [] x transferred ups downs s f r.bond.fitting.0 (read_apart read waits notify r.other) (few_by (while waits read.head) notify) r.bond.lines over;
}

pub quiet_kept : ((notify : Option SubmitHead) (older : List Packet) (run : List Entry) (next : ℕ) (ups : List up.Message) (downs : List Put) (s t : State)
    → Runs s run t → StaysPlugged run → Quiet notify older next (inputs run ++ ups) downs s → Quiet notify older next ups (downs ++ outputs run) t)
    → Never → (notify : Option SubmitHead) (older : List Packet) (next : ℕ) → IsKept StaysPlugged (λ ups downs t. Quiet notify older next ups downs t)
quiet_kept stays never notify older next = record {
  kind = record { more = plugged-append; front = plugged_front };
  goes = λ run ups downs s t goes plugged q. stays notify older run next ups downs s t goes plugged q;
  taken = λ x transferred ups downs s f q over.
      never (asked_by None notify) [] x transferred ups downs s f q.bond.fitting.0 (apart_by None notify (λ head is. absurd (cc))) (few_by None notify) q.bond.lines over;
}

-- the first answer is spelled as one to what is not answered
pub read_spelled : (read : StatusRead) (waits : Bool) (notify : Option SubmitHead) (got : Option ℕ) (older : List Packet) (next : ℕ)
    → Spelled (λ ups downs t. ReadsStatus read waits notify got older next ups downs t) (entries_by (while waits read.head) notify)
read_spelled read waits notify got older next (Unlinked asked a) ups downs s bytes r spelled = let e = none_unlinked (unlinked_by (Unlinked asked a ∷ downs)) (unlinks_in ups) r.bond.lines.unlinked in absurd (cc)
read_spelled read waits notify got older next (Submitted asked a transferred) ups downs s bytes r spelled = by fits.0.endpoint refl
  where
    fits : IsFit (Submitted asked a transferred)
    fits = r.bond.fits.0

    Goal : Type 0
    Goal = SpellsAnswer (entries_by (while waits read.head) notify) (down.RetSubmit a transferred) bytes

    number : a.seqnum ≡ asked.seqnum
    number = fits.1.number

    request_found : (o : Option SubmitHead) → o ≡ Some asked → SpellsAnswer (entries_by o notify) (down.RetSubmit a transferred) bytes
    request_found None e = absurd (cc)
    request_found (Some x) e =
        let same : x ≡ asked = cc in
        let found : submit_of (find a.seqnum (entries_by (Some x) notify)) ≡ Some (x.dir, x.length) = rw (eq-eqb x.seqnum a.seqnum (ap (λ (h : SubmitHead). h.seqnum) same ∙ sym number)) refl in
        (record { dir = x.dir; size = x.length }, found, subst (λ (h : SubmitHead). SpellsRetSubmit (record { dir = h.dir; size = h.length }) a transferred bytes) (sym same) spelled)

    notify_found : (b : Bool) (o : Option SubmitHead) → o ≡ Some asked → IsOther o read.head → SpellsAnswer (entries_by (while b read.head) o) (down.RetSubmit a transferred) bytes
    notify_found b None e other = absurd (cc)
    notify_found false (Some x) e other =
        let same : x ≡ asked = cc in
        let found : submit_of (find a.seqnum (entries_by None (Some x))) ≡ Some (x.dir, x.length) = rw (eq-eqb x.seqnum a.seqnum (ap (λ (h : SubmitHead). h.seqnum) same ∙ sym number)) refl in
        (record { dir = x.dir; size = x.length }, found, subst (λ (h : SubmitHead). SpellsRetSubmit (record { dir = h.dir; size = h.length }) a transferred bytes) (sym same) spelled)
    notify_found true (Some x) e other =
        let same : x ≡ asked = cc in
        let apart : read.head.seqnum ≢ a.seqnum = λ k. other (ap (λ (h : SubmitHead). h.seqnum) same ∙ sym number ∙ sym k) in
        let found : submit_of (find a.seqnum (entries_by (Some read.head) (Some x))) ≡ Some (x.dir, x.length) =
        rw (ne_eqb read.head.seqnum a.seqnum apart) (rw (eq-eqb x.seqnum a.seqnum (ap (λ (h : SubmitHead). h.seqnum) same ∙ sym number)) refl) in
        (record { dir = x.dir; size = x.length }, found, subst (λ (h : SubmitHead). SpellsRetSubmit (record { dir = h.dir; size = h.length }) a transferred bytes) (sym same) spelled)

    by : (e : Endpoint) → fits.0.endpoint ≡ e → Goal
    by Control is =
        let e = first_asked (asked_by (while waits read.head) notify) _ asked a transferred next ups downs s Control (fits.0.number ∙ ap number_of is) r.bond in
        request_found (while waits read.head) (one_only (while waits read.head) asked e.0 e.1)
    by BulkOut is = let e = first_asked (asked_by (while waits read.head) notify) _ asked a transferred next ups downs s BulkOut (fits.0.number ∙ ap number_of is) r.bond in some_first asked e.0 e.1
    by BulkIn is = let e = first_asked (asked_by (while waits read.head) notify) _ asked a transferred next ups downs s BulkIn (fits.0.number ∙ ap number_of is) r.bond in some_first asked e.0 e.1
    by InterruptIn is =
        let e = first_asked (asked_by (while waits read.head) notify) _ asked a transferred next ups downs s InterruptIn (fits.0.number ∙ ap number_of is) r.bond in
        notify_found waits notify (one_only notify asked e.0 e.1) r.other

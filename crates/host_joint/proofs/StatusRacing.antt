-- a status read whose request is unlinked, under each step of a device
use Rattle.std.proofs.Common.{◌≡◌, ◌≢◌, ◌∙◌, inl, ℕ, ◌+◌, Bool, true, false, cond, eqb, Option, Some, None, List, [], ◌∷◌, ◌++◌, refl, ap, sym, subst, append_assoc, append-nil, arith}
use Rattle.usbip_wire.specs.declared.submit.SubmitHead.{SubmitHead}
use Rattle.usbip_wire.specs.declared.unlink.UnlinkHead.{UnlinkHead}
use Rattle.usbip_wire.specs.Up as up
use Rattle.usb_setup.specs.declared.setup.Setup.{Setup}
use Rattle.tmc_wire.specs.declared.class_request.ClassRequest.TheVariants.{ReadStatus}
use Rattle.tmc_wire.specs.ClassStatus.{STATUS_SUCCESS}
use Rattle.instr_plain.specs.declared.log.LogEntry.{LogEntry}
use Rattle.instr_plain.specs.Log.{Stands}
use Rattle.tmc_law.specs.Endpoint.{Endpoint, Control, BulkOut, BulkIn, InterruptIn}
use Rattle.tmc_law.specs.State.{State, Pending, Packet, arrived, queue_of, pending, Avoids}
use Rattle.tmc_law.specs.Put.{Put, unlink_answer, success, unlinked}
use Rattle.tmc_law.specs.Queues.{Unlinks, Hits, Polled, Misses}
use Rattle.tmc_law.specs.Control.{Asks, control_answer}
use Rattle.tmc_law.specs.Aborts.{Served}
use Rattle.tmc_law.specs.Status as status
use Rattle.tmc_law.specs.Status.{IsStatusTag, status_layout}
use Rattle.tmc_law.specs.LogStep.{MayLog, Adds}
use Rattle.tmc_law.specs.AnswerFits.{AllAnswers}
use Rattle.tmc_law.specs.Numbers.{AllBelow, Rises, numbers}
use Rattle.tmc_law.specs.Step.{Move, Comes, Refuses, Take, Exec, Begin, Fill, Answer, Pend, Poll, Notify, Halt, Unplug, Leads}
use Rattle.tmc_law.specs.Run.{Entry, Runs, taken, inputs, outputs}
use Rattle.host_joint.specs.Lines.{Sent, sent_to, sent_heads, heads, Event, Gives, Drops, events_of, LeftBy, unlinks_in, unlinked_by, Lines, AllFitting}
use Rattle.host_joint.specs.Asking.{StaysPlugged}
use Rattle.host_joint.specs.Positions.{IsAt, rests}
use Rattle.host_joint.specs.Requests.{NoBulk, IsClass}
use Rattle.host_joint.specs.StatusReads.{statuses, IsUsual, Brings, NonePolled, StatusRead, StatusAt, StatusComes, StatusPends, StatusPolled, StatusSaid, StatusBusy, StatusOver, ByteAt, ByteUnread, ByteComes, ByteCame, StatusHeld, none_or_one, asked_by, while, IsEarlier, IsOther, ReadsStatus, UnlinkAt, UnlinkOnItsWay, UnlinkDidHit, UnlinkDidMiss, FreeHeld, GoneRead, CancelledRead, LateRead}
use Rattle.host_joint.proofs.Queues.{IsSound, avoids_queue}
use Rattle.host_joint.proofs.Flows.{unlinked-append}
use Rattle.host_joint.proofs.Running.{sound}
use Rattle.host_joint.proofs.Tying.{TieLaws, none_unlinked}
use Rattle.host_joint.proofs.Booking.{unlink_written}
use Rattle.host_joint.proofs.Numbered.{below_next}
use Rattle.host_joint.proofs.Cancelling.{fitting_more, order_more, numbers_same}
use Rattle.host_joint.proofs.Bonding.{Keeps, bond_run}
use Rattle.host_joint.proofs.Racing.{Ahead, IsLast, IsAhead, ahead, lines_front, fitting_front}
use Rattle.host_joint.proofs.Resting.{rest_goes, rest_is, no_take, no_fill, rests_closed}
use Rattle.host_joint.proofs.Requesting as asking
use Rattle.host_joint.proofs.Requesting.{Meaning, only_class, OnlyClass, Apart, Came, CameHere, CameElsewhere, came, events_same, no_sent, no_answer, no_pend, no_first_poll}
use Rattle.host_joint.proofs.Packeting.{Streams, brings_same, all_usual, none_out, Others, others, none_goes}
use Rattle.host_joint.proofs.Packeting as packets
use Rattle.host_joint.proofs.StatusReading.{serves, status_goes, clash}

-- ---- what is left of lists of at most one

none_left : (events : List Event) (left : List SubmitHead) → LeftBy [] events left → left ≡ []
none_left [] left h = h
none_left (Gives head answer transferred ∷ events) left h = absurd (no h.0 h.1)
  where
    no : (rest : List SubmitHead) → [] ≡ head ∷ rest → ⊥
    no rest e = cc
none_left (Drops n ∷ events) left h = none_left events left h

no_two : (a : List SubmitHead) (b : List Sent) → a ++ sent_heads b ≡ [] → (a ≡ []) × (b ≡ [])
no_two [] [] e = (refl, refl)
no_two [] (x ∷ b) e = absurd (cc)
no_two (x ∷ a) b e = absurd (cc)

no_heads : (q : List Pending) → heads q ≡ [] → q ≡ []
no_heads [] e = refl
no_heads (x ∷ q) e = absurd (cc)

-- nothing of an endpoint is there of which no submit is not answered
pub none_at : (e : Endpoint) (request notify : Option SubmitHead) (unlinks : List UnlinkHead) (ups : List up.Message) (downs : List Put) (s : State) → asked_by request notify e ≡ [] → Lines (asked_by request notify) unlinks ups downs s
    → (queue_of e s ≡ []) × (sent_to e ups ≡ [])
none_at e request notify unlinks ups downs s none lines =
    let left = none_left (events_of e downs) (heads (queue_of e s) ++ sent_heads (sent_to e ups))
    (subst (λ (l : List SubmitHead). LeftBy l (events_of e downs) (heads (queue_of e s) ++ sent_heads (sent_to e ups))) none (lines.submits e)) in
    let both = no_two (heads (queue_of e s)) (sent_to e ups) left in
    (no_heads (queue_of e s) both.0, both.1)

-- a head that is left is the one of the list
one_left : (o : Option SubmitHead) (events : List Event) (before behind : List SubmitHead) (head : SubmitHead) → LeftBy (none_or_one o) events (before ++ head ∷ behind) → o ≡ Some head
one_left None events before behind head h = absurd (no before (none_left events (before ++ head ∷ behind) h))
  where
    no : (l : List SubmitHead) → l ++ head ∷ behind ≡ [] → ⊥
    no [] e = cc
    no (x ∷ l) e = cc
one_left (Some x) [] before behind head h = by before h
  where
    by : (l : List SubmitHead) → l ++ head ∷ behind ≡ x ∷ [] → Some x ≡ Some head
    by [] e = let same : head ≡ x = cc in ap (λ (y : SubmitHead). Some y) (sym same)
    by (y ∷ []) e = absurd (cc)
    by (y ∷ z ∷ l) e = absurd (cc)
one_left (Some x) (Gives y answer transferred ∷ events) before behind head h =
    let rest : h.0 ≡ [] = tail h.0 h.1 in one_again (one_left None events before behind head (subst (λ (l : List SubmitHead). LeftBy l events (before ++ head ∷ behind)) rest h.2))
  where
    tail : (l : List SubmitHead) → x ∷ [] ≡ y ∷ l → l ≡ []
    tail l e = cc

    one_again : None ≡ Some head → Some x ≡ Some head
    one_again e = absurd (cc)
one_left (Some x) (Drops n ∷ events) before behind head h = by (λ k. one_left None events before behind head k) (λ k. one_left (Some x) events before behind head k) (eqb x.seqnum n) h
  where
    none_again : None ≡ Some head → Some x ≡ Some head
    none_again e = absurd (cc)

    by : (LeftBy [] events (before ++ head ∷ behind) → None ≡ Some head) → (LeftBy (x ∷ []) events (before ++ head ∷ behind) → Some x ≡ Some head) → (b : Bool) → LeftBy (cond b [] (x ∷ [])) events (before ++ head ∷ behind)
        → Some x ≡ Some head
    by none some true k = none_again (none k)
    by none some false k = some k

heads_parts : (before : List Pending) (submit : Pending) (behind : List Pending) (more : List SubmitHead) → heads (before ++ submit ∷ behind) ++ more ≡ heads before ++ submit.head ∷ (heads behind ++ more)
heads_parts [] submit behind more = refl
heads_parts (x ∷ before) submit behind more = ap (λ (l : List SubmitHead). x.head ∷ l) (heads_parts before submit behind more)

-- a submit that is pending at Interrupt-IN has another number than the request
other_pending : (request notify : Option SubmitHead) (head : SubmitHead) (unlinks : List UnlinkHead) (ups : List up.Message) (downs : List Put) (s : State) → IsOther notify head → Lines (asked_by request notify) unlinks ups downs s
    → (before : List Pending) (submit : Pending) (behind : List Pending) → s.interrupt_in ≡ before ++ submit ∷ behind → submit.head.seqnum ≢ head.seqnum
other_pending request notify head unlinks ups downs s other lines before submit behind line =
    let own = one_left notify (events_of InterruptIn downs) (heads before) (heads behind ++ sent_heads (sent_to InterruptIn ups)) submit.head
    (subst (λ (l : List SubmitHead). LeftBy (none_or_one notify) (events_of InterruptIn downs) l) (ap (λ (q : List Pending). heads q ++ sent_heads (sent_to InterruptIn ups)) line ∙ heads_parts before submit behind (sent_heads (sent_to InterruptIn ups)))
    (lines.submits InterruptIn)) in
    subst (λ (o : Option SubmitHead). IsOther o head) own other

-- ---- a host of whose requests nothing is left

free_stays : (older : List Packet) (before ups : List up.Message) (downs puts : List Put) (s t : State) → IsAt rests t → Apart s t puts → Streams [] s t puts → AllAnswers IsUsual puts → sent_to Control before ≡ sent_to Control ups
    → FreeHeld older before downs s → FreeHeld older ups (downs ++ puts) t
free_stays older before ups downs puts s t rest apart streams usual same h = record {
  sent = sym same ∙ h.sent;
  queue = apart.queue ∙ h.queue;
  events = events_same Control downs puts apart.events ∙ h.events;
  quiet = record { rest = rest; brings = brings_same older downs puts s t streams usual h.quiet.brings };
}

free_goes : (older : List Packet) (ups : List up.Message) (downs puts : List Put) (s t : State) (move : Move) → IsSound s → NoBulk (taken move ++ ups) → AllFitting (taken move ++ ups) → move ≢ Unplug → AllAnswers IsUsual puts
    → Leads s move puts t → FreeHeld older (taken move ++ ups) downs s → FreeHeld older ups (downs ++ puts) t
free_goes older ups downs puts s t (Comes (up.Submit x transferred)) sound none fit plugged usual h held = by (came x transferred ups s t puts fit.0 h.3)
  where
    rest : IsAt rests t
    rest = rest_goes rests s t (Comes (up.Submit x transferred)) puts ups rests_closed none tt h held.quiet.rest

    by : Came x transferred ups s t puts → FreeHeld older ups (downs ++ puts) t
    by (CameElsewhere apart same) = free_stays older _ ups downs puts s t rest apart (packets.arrives x transferred s t puts h.3) usual same held
    by (CameHere put is same) = no_sent _ _ _ same held.sent
free_goes older ups downs puts s t (Comes (up.Unlink x)) sound none fit plugged usual h held = let e : x ∷ unlinks_in ups ≡ [] = none.unlinks in absurd (cc)
free_goes older ups downs puts s t (Refuses devid bytes f) sound none fit plugged usual h held =
    free_stays older ups ups downs puts s t (rest_goes rests s t (Refuses devid bytes f) puts ups rests_closed none tt h held.quiet.rest)
    (record { queue = ap (λ (x : State). x.control) h.2; events = ap (λ (p : List Put). events_of Control p) h.1 }) (none_out s t puts h.1 (ap (λ (x : State). statuses x.packets) h.2)) usual refl held
free_goes older ups downs puts s t (Take count) sound none fit plugged usual h held = absurd (no_take s t count puts held.quiet.rest.bulk_out h.1)
free_goes older ups downs puts s t Exec sound none fit plugged usual h held =
    free_stays older ups ups downs puts s t (rest_goes rests s t Exec puts ups rests_closed none tt h held.quiet.rest) (asking.executes s t puts h.1 h.0) (packets.executes s t puts h.1 h.0) usual refl held
free_goes older ups downs puts s t (Begin count) sound none fit plugged usual h held =
    free_stays older ups ups downs puts s t (rest_goes rests s t (Begin count) puts ups rests_closed none tt h held.quiet.rest) (asking.begins s t count puts h.1 h.0) (packets.begins s t count puts h.1 h.0) usual refl held
free_goes older ups downs puts s t (Fill count) sound none fit plugged usual h held = absurd (no_fill s t count puts held.quiet.rest.bulk_in h)
free_goes older ups downs puts s t Answer sound none fit plugged usual h held = absurd (no_answer s t puts held.queue h)
free_goes older ups downs puts s t Pend sound none fit plugged usual h held = absurd (no_pend s t puts held.queue h)
free_goes older ups downs puts s t Poll sound none fit plugged usual h held = absurd (no_first_poll s t held.queue h.0)
free_goes older ups downs puts s t Notify sound none fit plugged usual h held =
    free_stays older ups ups downs puts s t (rest_goes rests s t Notify puts ups rests_closed none tt h held.quiet.rest) (asking.notifies s t puts sound h) (packets.notifies s t puts sound h) usual refl held
free_goes older ups downs puts s t (Halt e) sound none fit plugged usual h held =
    free_stays older ups ups downs puts s t (rest_goes rests s t (Halt e) puts ups rests_closed none tt h held.quiet.rest) (asking.halts_itself s t e puts sound h) (packets.halts_itself s t e puts h) usual refl held
free_goes older ups downs puts s t Unplug sound none fit plugged usual h held = absurd (plugged refl)

-- where nothing is pending at the control endpoint, nothing is polled
quiet_others : (s t : State) (move : Move) (puts : List Put) → s.control ≡ [] → move ≢ Unplug → Leads s move puts t → Adds (MayLog s move) s t → Others s t
quiet_others s t (Comes message) puts free plugged h adds = others s t (Comes message) tt adds
quiet_others s t (Refuses devid bytes f) puts free plugged h adds = others s t (Refuses devid bytes f) tt adds
quiet_others s t (Take count) puts free plugged h adds = others s t (Take count) tt adds
quiet_others s t Exec puts free plugged h adds = others s t Exec tt adds
quiet_others s t (Begin count) puts free plugged h adds = others s t (Begin count) tt adds
quiet_others s t (Fill count) puts free plugged h adds = others s t (Fill count) tt adds
quiet_others s t Answer puts free plugged h adds = absurd (no_answer s t puts free h)
quiet_others s t Pend puts free plugged h adds = absurd (no_pend s t puts free h)
quiet_others s t Poll puts free plugged h adds = absurd (no_first_poll s t free h.0)
quiet_others s t Notify puts free plugged h adds = others s t Notify tt adds
quiet_others s t (Halt e) puts free plugged h adds = others s t (Halt e) tt adds
quiet_others s t Unplug puts free plugged h adds = absurd (plugged refl)

gone_goes : (read : StatusRead) (waits : Bool) (got : Option ℕ) (older : List Packet) (ups : List up.Message) (downs puts : List Put) (s t : State) (move : Move) → IsSound s → NoBulk (taken move ++ ups) → AllFitting (taken move ++ ups)
    → move ≢ Unplug → AllAnswers IsUsual puts → Leads s move puts t → Adds (MayLog s move) s t → GoneRead read waits got older (taken move ++ ups) downs s → GoneRead read waits got older ups (downs ++ puts) t
gone_goes read waits got older ups downs puts s t move sound none fit plugged usual h adds g = record {
  waited = g.waited;
  nothing = g.nothing;
  unread = none_goes read.since s t (quiet_others s t move puts g.free.queue plugged h adds) g.unread;
  free = free_goes older ups downs puts s t move sound none fit plugged usual h g.free;
}

-- ---- the unlink arrives

one_queue : (before : List Pending) (submit x : Pending) (behind : List Pending) → before ++ submit ∷ behind ≡ x ∷ [] → (before ++ behind ≡ []) × (submit ≡ x)
one_queue [] submit x behind e = (cc, cc)
one_queue (y ∷ []) submit x behind e = absurd (cc)
one_queue (y ∷ z ∷ before) submit x behind e = absurd (cc)

some_queue : {B : Type 0} (before : List Pending) (submit : Pending) (behind queue : List Pending) → queue ≡ [] → queue ≡ before ++ submit ∷ behind → B
some_queue before submit behind queue none some = absurd (no before (sym none ∙ some))
  where
    no : (l : List Pending) → [] ≡ l ++ submit ∷ behind → ⊥
    no [] e = cc
    no (x ∷ l) e = cc

none_comes : {B : Type 0} (x : Sent) → [] ≡ x ∷ [] → B
none_comes x e = absurd (cc)

abbrev Race : (read : StatusRead) (unlink : UnlinkHead) (waits : Bool) (got : Option ℕ) (older : List Packet) (ups : List up.Message) (downs : List Put) (s : State) → Type 0
Race read unlink waits got older ups downs s =
    UnlinkAt (λ ups downs s. StatusHeld read waits got older ups downs s) (λ ups downs s. GoneRead read waits got older ups downs s) unlink ups downs s

-- an answer to an unlink behind all others
behind_all : (downs puts : List Put) (put : Put) → puts ≡ put ∷ [] → downs ++ puts ≡ downs ++ put ∷ []
behind_all downs puts put is = ap (λ (l : List Put). downs ++ l) is

brings_as : (l : List Packet) (downs : List Put) (s t : State) → t.packets ≡ s.packets → Brings l downs s → Brings l (downs ++ []) t
brings_as l downs s t same b =
    subst (λ (d : List Put). Brings l d t) (sym (append-nil downs)) (record { sent = b.sent; carried = b.carried; queued = ap (λ (p : List Packet). statuses (b.sent ++ p)) same ∙ b.queued; usual = b.usual })

unread_of : (read : StatusRead) (older : List Packet) (got : Option ℕ) (polled : Bool) (l : List Packet) (now : List LogEntry) → polled ≡ false → ByteAt read older got polled l now → (got ≡ None) × (l ≡ older) × NonePolled read.since now
unread_of read older got polled l now off (ByteUnread p g is none) = (g, is, none)
unread_of read older got polled l now off (ByteComes byte p g is one) = clash polled off p
unread_of read older got polled l now off (ByteCame byte p g none is one) = clash polled off p

missed : (read : StatusRead) (unlink : UnlinkHead) (waits : Bool) (got : Option ℕ) (older : List Packet) (downs puts : List Put) (s t : State) → puts ≡ unlink_answer unlink success ∷ [] → t ≡ s → StatusHeld read waits got older [] downs s
    → Race read unlink waits got older [] (downs ++ puts) t
missed read unlink waits got older downs puts s t put is h =
    UnlinkDidMiss downs [] (behind_all downs puts (unlink_answer unlink success) put)
    (subst (λ (x : State). StatusHeld read waits got older [] (downs ++ []) x) (sym is) (subst (λ (d : List Put). StatusHeld read waits got older [] d s) (sym (append-nil downs)) h))

hit_it : (read : StatusRead) (unlink : UnlinkHead) (waits : Bool) (got : Option ℕ) (older : List Packet) (downs puts : List Put) (s t : State) (before : List Pending) (submit : Pending) (behind : List Pending) → s.control ≡ before ++ submit ∷ behind
    → submit.polled ≡ false → puts ≡ unlink_answer unlink unlinked ∷ [] → t ≡ record s { control = before ++ behind } → StatusHeld read waits got older [] downs s → Race read unlink waits got older [] (downs ++ puts) t
hit_it read unlink waits got older downs puts s t before submit behind line fresh put is h = by h.request
  where
    goes : waits ≡ true → h.polled ≡ false → events_of Control downs ≡ [] → s.control ≡ arrived read.head [] ∷ [] → Race read unlink waits got older [] (downs ++ puts) t
    goes w p empty pends =
        let one = one_queue before submit (arrived read.head []) behind (sym line ∙ pends) in
        let unread = unread_of read older got h.polled h.status_packets s.log p h.byte in
        let rest : IsAt rests t = rest_is rests _ t is (record { bulk_out = h.rest.bulk_out; bulk_in = h.rest.bulk_in; running = h.rest.running; side = h.rest.side; out = h.rest.out; waits = tt; shut = tt }) in
        UnlinkDidHit downs [] (behind_all downs puts (unlink_answer unlink unlinked) put) (record {
          waited = w;
          nothing = unread.0;
          unread = subst (λ (l : List LogEntry). NonePolled read.since l) (sym (ap (λ (x : State). x.log) is)) unread.2;
          free = record {
            sent = refl;
            queue = ap (λ (x : State). x.control) is ∙ one.0;
            events = ap (λ (l : List Put). events_of Control l) (append-nil downs) ∙ empty;
            quiet = record { rest = rest; brings = brings_as older downs s t (ap (λ (x : State). x.packets) is) (subst (λ (l : List Packet). Brings l downs s) unread.1 h.brings) };
          };
        })

    by : StatusAt read waits h.polled [] (events_of Control downs) s.control → Race read unlink waits got older [] (downs ++ puts) t
    by (StatusComes w p come empty pends) = none_comes _ come
    by (StatusPends w p come empty pends) = goes w p empty pends
    by (StatusPolled w p come empty pends) =
        let one = one_queue before submit (record (arrived read.head []) { polled = true }) behind (sym line ∙ pends) in clash submit.polled fresh (ap (λ (x : Pending). x.polled) one.1)
    by (StatusSaid w p come given free) = some_queue before submit behind s.control free line
    by (StatusBusy w p come given free some) = some_queue before submit behind s.control free line
    by (StatusOver w p come empty free) = some_queue before submit behind s.control free line

polled_it : (read : StatusRead) (unlink : UnlinkHead) (waits : Bool) (got : Option ℕ) (older : List Packet) (downs puts : List Put) (s t : State) (before : List Pending) (submit : Pending) (behind : List Pending) (setup : Setup) (tag : ℕ)
    → OnlyClass read.head (ReadStatus read.tag) → IsStatusTag read.tag → Stands s.log s.standing → s.control ≡ before ++ submit ∷ behind → submit.polled ≡ true → Asks submit setup
    → puts ≡ control_answer submit setup (status_layout STATUS_SUCCESS tag) ∷ unlink_answer unlink success ∷ [] → tag ≡ read.tag → t ≡ record s { control = before ++ behind } → StatusHeld read waits got older [] downs s
    → Race read unlink waits got older [] (downs ++ puts) t
polled_it read unlink waits got older downs puts s t before submit behind setup tag is tagged stands line polled asks put same to h = by h.request
  where
    goes : waits ≡ true → h.polled ≡ true → events_of Control downs ≡ [] → s.control ≡ record (arrived read.head []) { polled = true } ∷ [] → Race read unlink waits got older [] (downs ++ puts) t
    goes w p empty pends =
        let own : Pending = record (arrived read.head []) { polled = true } in
        let one = one_queue before submit own behind (sym line ∙ pends) in
        let served : Served = record { layout = status_layout STATUS_SUCCESS read.tag; behind = []; state = record s { control = [] } } in
        let said : Put = control_answer own setup (status_layout STATUS_SUCCESS read.tag) in
        let its : Asks own setup = subst (λ (x : Pending). Asks x setup) one.1 asks in
        let now : t ≡ record s { control = [] } = to ∙ ap (λ (q : List Pending). record s { control = q }) one.0 in
        let alone : puts ≡ said ∷ unlink_answer unlink success ∷ [] = put ∙ ap (λ (x : Pending). control_answer x setup (status_layout STATUS_SUCCESS tag) ∷ unlink_answer unlink success ∷ []) one.1
        ∙ ap (λ (k : ℕ). control_answer own setup (status_layout STATUS_SUCCESS k) ∷ unlink_answer unlink success ∷ []) same in
        let held : StatusHeld read waits got older [] (downs ++ said ∷ []) t =
        serves read true waits got older [] downs (said ∷ []) s t setup own served is tagged stands (inl refl, tt) (record { fits = its.fits; layout = its.layout }) refl w refl empty refl now (status.PolledBefore tagged refl refl) h p in
        UnlinkDidMiss (downs ++ said ∷ []) [] (ap (λ (l : List Put). downs ++ l) alone ∙ sym (append_assoc downs (said ∷ []) (unlink_answer unlink success ∷ [])))
        (subst (λ (d : List Put). StatusHeld read waits got older [] d t) (sym (append-nil (downs ++ said ∷ []))) held)

    by : StatusAt read waits h.polled [] (events_of Control downs) s.control → Race read unlink waits got older [] (downs ++ puts) t
    by (StatusComes w p come empty pends) = none_comes _ come
    by (StatusPends w p come empty pends) = let one = one_queue before submit (arrived read.head []) behind (sym line ∙ pends) in clash submit.polled (ap (λ (x : Pending). x.polled) one.1) polled
    by (StatusPolled w p come empty pends) = goes w p empty pends
    by (StatusSaid w p come given free) = some_queue before submit behind s.control free line
    by (StatusBusy w p come given free some) = some_queue before submit behind s.control free line
    by (StatusOver w p come empty free) = some_queue before submit behind s.control free line

missed_it : (read : StatusRead) (unlink : UnlinkHead) (waits : Bool) (got : Option ℕ) (older : List Packet) (downs puts : List Put) (s t : State) → unlink.target ≡ read.head.seqnum → Avoids unlink.target (pending s) → puts ≡ unlink_answer unlink success ∷ []
    → t ≡ s → StatusHeld read waits got older [] downs s → Race read unlink waits got older [] (downs ++ puts) t
missed_it read unlink waits got older downs puts s t names avoids put is h = by h.request
  where
    there : (b : Bool) → s.control ≡ record (arrived read.head []) { polled = b } ∷ [] → ⊥
    there b pends = (subst (λ (q : List Pending). Avoids unlink.target q) pends (avoids_queue unlink.target s avoids Control)).0 (sym names)

    by : StatusAt read waits h.polled [] (events_of Control downs) s.control → Race read unlink waits got older [] (downs ++ puts) t
    by (StatusComes w p come empty pends) = none_comes _ come
    by (StatusPends w p come empty pends) = absurd (there false pends)
    by (StatusPolled w p come empty pends) = absurd (there true pends)
    by (StatusSaid w p come given free) = missed read unlink waits got older downs puts s t put is h
    by (StatusBusy w p come given free some) = missed read unlink waits got older downs puts s t put is h
    by (StatusOver w p come empty free) = missed read unlink waits got older downs puts s t put is h

unlink_arrives : (read : StatusRead) (unlink : UnlinkHead) (waits : Bool) (got : Option ℕ) (older : List Packet) (downs puts : List Put) (s t : State) → OnlyClass read.head (ReadStatus read.tag) → IsStatusTag read.tag → Stands s.log s.standing
    → unlink.target ≡ read.head.seqnum → ((before : List Pending) (submit : Pending) (behind : List Pending) → s.interrupt_in ≡ before ++ submit ∷ behind → submit.head.seqnum ≢ read.head.seqnum) → Unlinks s unlink puts t
    → StatusHeld read waits got older [] downs s → Race read unlink waits got older [] (downs ++ puts) t
unlink_arrives read unlink waits got older downs puts s t is tagged stands names apart (Hits Control before submit behind line same fresh put to) h = hit_it read unlink waits got older downs puts s t before submit behind line fresh put to h
unlink_arrives read unlink waits got older downs puts s t is tagged stands names apart (Hits BulkOut before submit behind line same fresh put to) h = some_queue before submit behind s.bulk_out h.rest.bulk_out line
unlink_arrives read unlink waits got older downs puts s t is tagged stands names apart (Hits BulkIn before submit behind line same fresh put to) h = some_queue before submit behind s.bulk_in h.rest.bulk_in line
unlink_arrives read unlink waits got older downs puts s t is tagged stands names apart (Hits InterruptIn before submit behind line same fresh put to) h = absurd (apart before submit behind line (same ∙ names))
unlink_arrives read unlink waits got older downs puts s t is tagged stands names apart (Polled Control before submit behind setup tag line same polled asks row put to) h = by h.request
  where
    by : StatusAt read waits h.polled [] (events_of Control downs) s.control → Race read unlink waits got older [] (downs ++ puts) t
    by (StatusComes w p come empty pends) = none_comes _ come
    by (StatusPends w p come empty pends) = let one = one_queue before submit (arrived read.head []) behind (sym line ∙ pends) in clash submit.polled (ap (λ (x : Pending). x.polled) one.1) polled
    by (StatusPolled w p come empty pends) =
        let one = one_queue before submit (record (arrived read.head []) { polled = true }) behind (sym line ∙ pends) in
        let its : Asks (record (arrived read.head []) { polled = true }) setup = subst (λ (x : Pending). Asks x setup) one.1 asks in
        polled_it read unlink waits got older downs puts s t before submit behind setup tag is tagged stands line polled asks put (tag_same (is.only setup (ReadStatus tag) (record { fits = its.fits; layout = its.layout }) row)) to h
      where
        tag_same : ReadStatus tag ≡ ReadStatus read.tag → tag ≡ read.tag
        tag_same e = cc
    by (StatusSaid w p come given free) = some_queue before submit behind s.control free line
    by (StatusBusy w p come given free some) = some_queue before submit behind s.control free line
    by (StatusOver w p come empty free) = some_queue before submit behind s.control free line
unlink_arrives read unlink waits got older downs puts s t is tagged stands names apart (Polled BulkOut before submit behind setup tag line same polled asks row put to) h = some_queue before submit behind s.bulk_out h.rest.bulk_out line
unlink_arrives read unlink waits got older downs puts s t is tagged stands names apart (Polled BulkIn before submit behind setup tag line same polled asks row put to) h = some_queue before submit behind s.bulk_in h.rest.bulk_in line
unlink_arrives read unlink waits got older downs puts s t is tagged stands names apart (Polled InterruptIn before submit behind setup tag line same polled asks row put to) h = absurd (apart before submit behind line (same ∙ names))
unlink_arrives read unlink waits got older downs puts s t is tagged stands names apart (Misses avoids put to) h = missed_it read unlink waits got older downs puts s t names avoids put to h

-- ---- all moves

no_bulk_by : (request notify : Option SubmitHead) (unlinks : List UnlinkHead) (ups : List up.Message) (downs : List Put) (s : State) → unlinks_in ups ≡ [] → Lines (asked_by request notify) unlinks ups downs s → NoBulk ups
no_bulk_by request notify unlinks ups downs s none lines =
    record { outs = (none_at BulkOut request notify unlinks ups downs s refl lines).1; ins = (none_at BulkIn request notify unlinks ups downs s refl lines).1; unlinks = none }

none_behind : (u : UnlinkHead) (a b c : List UnlinkHead) → u ∷ [] ≡ (a ++ u ∷ b) ++ c → (a ≡ []) × (b ≡ []) × (c ≡ [])
none_behind u [] [] [] e = (refl, refl, refl)
none_behind u [] [] (x ∷ c) e = absurd (cc)
none_behind u [] (x ∷ b) c e = absurd (cc)
none_behind u (x ∷ []) b c e = absurd (cc)
none_behind u (x ∷ y ∷ a) b c e = absurd (cc)

-- no unlink is on its way where the answer to it is
none_sent : (asked : Endpoint → List SubmitHead) (unlink : UnlinkHead) (answer : Put) (before behind : List Put) (ups : List up.Message) (downs : List Put) (s : State) → ((more : List Put) → unlinked_by (answer ∷ more) ≡ unlink ∷ unlinked_by more)
    → downs ≡ before ++ answer ∷ behind → Lines asked (unlink ∷ []) ups downs s → unlinks_in ups ≡ []
none_sent asked unlink answer before behind ups downs s is whole lines =
    (none_behind unlink (unlinked_by before) (unlinked_by behind) (unlinks_in ups)
    (lines.unlinked ∙ ap (λ (l : List Put). unlinked_by l ++ unlinks_in ups) whole ∙ ap (λ (l : List UnlinkHead). l ++ unlinks_in ups) (unlinked-append before (answer ∷ behind) ∙ ap (λ (l : List UnlinkHead). unlinked_by before ++ l) (is behind)))).2

put_behind : (before behind puts downs : List Put) (answer : Put) → downs ≡ before ++ answer ∷ behind → downs ++ puts ≡ before ++ answer ∷ (behind ++ puts)
put_behind before behind puts downs answer is = ap (λ (l : List Put). l ++ puts) is ∙ append_assoc before (answer ∷ behind) puts

pub race_keeps : (laws : TieLaws) (meaning : Meaning) (read : StatusRead) (unlink : UnlinkHead) (waits : Bool) (notify : Option SubmitHead) (got : Option ℕ) (older : List Packet) → IsClass read.head (ReadStatus read.tag) → IsStatusTag read.tag
    → unlink.target ≡ read.head.seqnum → IsOther notify read.head → Keeps (λ ups downs s. Race read unlink waits got older ups downs s) (asked_by (while waits read.head) notify) (unlink ∷ [])
race_keeps laws meaning read unlink waits notify got older is tagged names other run s t move ups downs puts reached step plugged fit order lines race = by race
  where
    class : OnlyClass read.head (ReadStatus read.tag)
    class = only_class meaning read.head (ReadStatus read.tag) is

    good : IsSound s
    good = sound laws.ask run s reached

    usual : AllAnswers IsUsual puts
    usual = all_usual s t move puts plugged (laws.answers run s t move puts reached step)

    adds : Adds (MayLog s move) s t
    adds = laws.logs s t move puts step

    stands : Stands s.log s.standing
    stands = laws.ask.stands run s reached

    comes : (front : List up.Message) → (taken move ++ ups) ≡ front ++ up.Unlink unlink ∷ [] → StatusHeld read waits got older front downs s → Ahead move ups front (up.Unlink unlink) → Race read unlink waits got older ups (downs ++ puts) t
    comes front whole h (IsLast last none first) =
        let led : Leads s (Comes (up.Unlink unlink)) puts t = subst (λ (m : Move). Leads s m puts t) last step.leads in
        subst (λ (l : List up.Message). Race read unlink waits got older l (downs ++ puts) t) (sym none)
        (unlink_arrives read unlink waits got older downs puts s t class tagged stands names (other_pending (while waits read.head) notify read.head (unlink ∷ []) (taken move ++ ups) downs s other lines) led.1
        (subst (λ (l : List up.Message). StatusHeld read waits got older l downs s) first h))
    comes front whole h (IsAhead later first rest) =
        let own : Lines (asked_by (while waits read.head) notify) [] front downs s = lines_front (asked_by (while waits read.head) notify) unlink front downs s
        (subst (λ (l : List up.Message). Lines (asked_by (while waits read.head) notify) (unlink ∷ []) l downs s) whole lines) in
        let none : unlinks_in front ≡ [] = (none_unlinked (unlinked_by downs) (unlinks_in front) own.unlinked).1 in
        let bulk : NoBulk front = no_bulk_by (while waits read.head) notify [] front downs s none own in
        let fits : AllFitting front = fitting_front front unlink (subst (λ (l : List up.Message). AllFitting l) whole fit) in
        UnlinkOnItsWay later rest
        (status_goes read waits got older later downs puts s t move class tagged stands good (subst (λ (l : List up.Message). NoBulk l) first bulk) (subst (λ (l : List up.Message). AllFitting l) first fits) plugged usual step.leads adds
        (subst (λ (l : List up.Message). StatusHeld read waits got older l downs s) first h))

    by : Race read unlink waits got older (taken move ++ ups) downs s → Race read unlink waits got older ups (downs ++ puts) t
    by (UnlinkOnItsWay front whole h) = comes front whole h (ahead move ups front (up.Unlink unlink) whole)
    by (UnlinkDidHit before behind whole g) =
        let none = none_sent (asked_by (while waits read.head) notify) unlink (unlink_answer unlink unlinked) before behind (taken move ++ ups) downs s (λ more. refl) whole lines in
        let bulk = no_bulk_by (while waits read.head) notify (unlink ∷ []) (taken move ++ ups) downs s none lines in
        UnlinkDidHit before (behind ++ puts) (put_behind before behind puts downs (unlink_answer unlink unlinked) whole)
        (subst (λ (l : List Put). GoneRead read waits got older ups l t) (append_assoc before behind puts)
        (gone_goes read waits got older ups (before ++ behind) puts s t move good bulk fit plugged usual step.leads adds g))
    by (UnlinkDidMiss before behind whole h) =
        let none = none_sent (asked_by (while waits read.head) notify) unlink (unlink_answer unlink success) before behind (taken move ++ ups) downs s (λ more. refl) whole lines in
        let bulk = no_bulk_by (while waits read.head) notify (unlink ∷ []) (taken move ++ ups) downs s none lines in
        UnlinkDidMiss before (behind ++ puts) (put_behind before behind puts downs (unlink_answer unlink success) whole)
        (subst (λ (l : List Put). StatusHeld read waits got older ups l t) (append_assoc before behind puts)
        (status_goes read waits got older ups (before ++ behind) puts s t move class tagged stands good bulk fit plugged usual step.leads adds h))

pub cancelled_run : (laws : TieLaws) (meaning : Meaning) (read : StatusRead) (unlink : UnlinkHead) (waits : Bool) (notify : Option SubmitHead) (got : Option ℕ) (older : List Packet) (run : List Entry) (next : ℕ) (ups : List up.Message) (downs : List Put) (s t : State)
    → Runs s run t → StaysPlugged run → CancelledRead read unlink waits notify got older next (inputs run ++ ups) downs s → CancelledRead read unlink waits notify got older next ups (downs ++ outputs run) t
cancelled_run laws meaning read unlink waits notify got older run next ups downs s t goes plugged r = record {
  asks = r.asks;
  tagged = r.tagged;
  before = r.before;
  earlier = r.earlier;
  other = r.other;
  names = r.names;
  bond = bond_run laws _ (asked_by (while waits read.head) notify) (unlink ∷ []) (race_keeps laws meaning read unlink waits notify got older r.asks r.tagged r.names r.other) run next ups downs s t goes plugged r.bond;
}

-- ---- the host

later_number : (notify : Option SubmitHead) (next : ℕ) → IsEarlier notify next → IsEarlier notify (next + 1)
later_number None next h = tt
later_number (Some head) next h = omega (arith, h)

pub cancel_begins : (read : StatusRead) (unlink : UnlinkHead) (notify : Option SubmitHead) (got : Option ℕ) (older : List Packet) (next : ℕ) (ups : List up.Message) (downs : List Put) (s : State) → unlink.target ≡ read.head.seqnum
    → ReadsStatus read true notify got older next ups downs s → CancelledRead read unlink true notify got older (next + 1) (ups ++ up.Unlink unlink ∷ []) downs s
cancel_begins read unlink notify got older next ups downs s names r = record {
  asks = r.asks;
  tagged = r.tagged;
  before = omega (arith, r.before);
  earlier = later_number notify next r.earlier;
  other = r.other;
  names = names;
  bond = record {
    run = r.bond.run;
    reached = r.bond.reached;
    lines = unlink_written (asked_by (Some read.head) notify) [] ups downs s unlink r.bond.lines;
    fitting = fitting_more ups unlink r.bond.fitting;
    order = order_more ups unlink (none_unlinked (unlinked_by downs) (unlinks_in ups) r.bond.lines.unlinked).1;
    fits = r.bond.fits;
    rises = subst (λ (l : List ℕ). Rises l) (sym (numbers_same ups unlink s)) r.bond.rises;
    below = subst (λ (l : List ℕ). AllBelow (next + 1) l) (sym (numbers_same ups unlink s)) (below_next next (numbers s ups) r.bond.below);
    held = UnlinkOnItsWay ups refl r.bond.held;
  };
}

-- ---- a request that was answered all the same

-- what is pending at Interrupt-IN is the submit that is not answered
pending_is : (request notify : Option SubmitHead) (unlinks : List UnlinkHead) (ups : List up.Message) (downs : List Put) (s : State) → Lines (asked_by request notify) unlinks ups downs s
    → (before : List Pending) (submit : Pending) (behind : List Pending) → s.interrupt_in ≡ before ++ submit ∷ behind → notify ≡ Some submit.head
pending_is request notify unlinks ups downs s lines before submit behind line =
    one_left notify (events_of InterruptIn downs) (heads before) (heads behind ++ sent_heads (sent_to InterruptIn ups)) submit.head
    (subst (λ (l : List SubmitHead). LeftBy (none_or_one notify) (events_of InterruptIn downs) l) (ap (λ (q : List Pending). heads q ++ sent_heads (sent_to InterruptIn ups)) line ∙ heads_parts before submit behind (sent_heads (sent_to InterruptIn ups)))
    (lines.submits InterruptIn))

abbrev LateAt : (unlink : UnlinkHead) (older : List Packet) (ups : List up.Message) (downs : List Put) (s : State) → Type 0
LateAt unlink older ups downs s = UnlinkAt (λ ups downs s. FreeHeld older ups downs s) (λ ups downs s. ⊥) unlink ups downs s

late_arrives : (unlink : UnlinkHead) (older : List Packet) (downs puts : List Put) (s t : State)
    → ((before : List Pending) (submit : Pending) (behind : List Pending) → s.interrupt_in ≡ before ++ submit ∷ behind → submit.head.seqnum ≢ unlink.target) → Unlinks s unlink puts t → FreeHeld older [] downs s → LateAt unlink older [] (downs ++ puts) t
late_arrives unlink older downs puts s t apart (Hits Control before submit behind line same fresh put to) h = some_queue before submit behind s.control h.queue line
late_arrives unlink older downs puts s t apart (Hits BulkOut before submit behind line same fresh put to) h = some_queue before submit behind s.bulk_out h.quiet.rest.bulk_out line
late_arrives unlink older downs puts s t apart (Hits BulkIn before submit behind line same fresh put to) h = some_queue before submit behind s.bulk_in h.quiet.rest.bulk_in line
late_arrives unlink older downs puts s t apart (Hits InterruptIn before submit behind line same fresh put to) h = absurd (apart before submit behind line same)
late_arrives unlink older downs puts s t apart (Polled Control before submit behind setup tag line same polled asks row put to) h = some_queue before submit behind s.control h.queue line
late_arrives unlink older downs puts s t apart (Polled BulkOut before submit behind setup tag line same polled asks row put to) h = some_queue before submit behind s.bulk_out h.quiet.rest.bulk_out line
late_arrives unlink older downs puts s t apart (Polled BulkIn before submit behind setup tag line same polled asks row put to) h = some_queue before submit behind s.bulk_in h.quiet.rest.bulk_in line
late_arrives unlink older downs puts s t apart (Polled InterruptIn before submit behind setup tag line same polled asks row put to) h = absurd (apart before submit behind line same)
late_arrives unlink older downs puts s t apart (Misses avoids put to) h =
    UnlinkDidMiss downs [] (behind_all downs puts (unlink_answer unlink success) put)
    (subst (λ (x : State). FreeHeld older [] (downs ++ []) x) (sym to) (subst (λ (d : List Put). FreeHeld older [] d s) (sym (append-nil downs)) h))

late_keeps : (laws : TieLaws) (unlink : UnlinkHead) (notify : Option SubmitHead) (older : List Packet) → ((head : SubmitHead) → notify ≡ Some head → head.seqnum ≢ unlink.target)
    → Keeps (λ ups downs s. LateAt unlink older ups downs s) (asked_by None notify) (unlink ∷ [])
late_keeps laws unlink notify older other run s t move ups downs puts reached step plugged fit order lines race = by race
  where
    good : IsSound s
    good = sound laws.ask run s reached

    usual : AllAnswers IsUsual puts
    usual = all_usual s t move puts plugged (laws.answers run s t move puts reached step)

    comes : (front : List up.Message) → (taken move ++ ups) ≡ front ++ up.Unlink unlink ∷ [] → FreeHeld older front downs s → Ahead move ups front (up.Unlink unlink) → LateAt unlink older ups (downs ++ puts) t
    comes front whole h (IsLast last none first) =
        let led : Leads s (Comes (up.Unlink unlink)) puts t = subst (λ (m : Move). Leads s m puts t) last step.leads in
        subst (λ (l : List up.Message). LateAt unlink older l (downs ++ puts) t) (sym none)
        (late_arrives unlink older downs puts s t (λ before submit behind line. other submit.head (pending_is None notify (unlink ∷ []) (taken move ++ ups) downs s lines before submit behind line)) led.1
        (subst (λ (l : List up.Message). FreeHeld older l downs s) first h))
    comes front whole h (IsAhead later first rest) =
        let own : Lines (asked_by None notify) [] front downs s = lines_front (asked_by None notify) unlink front downs s (subst (λ (l : List up.Message). Lines (asked_by None notify) (unlink ∷ []) l downs s) whole lines) in
        let none : unlinks_in front ≡ [] = (none_unlinked (unlinked_by downs) (unlinks_in front) own.unlinked).1 in
        let bulk : NoBulk front = no_bulk_by None notify [] front downs s none own in
        let fits : AllFitting front = fitting_front front unlink (subst (λ (l : List up.Message). AllFitting l) whole fit) in
        UnlinkOnItsWay later rest
        (free_goes older later downs puts s t move good (subst (λ (l : List up.Message). NoBulk l) first bulk) (subst (λ (l : List up.Message). AllFitting l) first fits) plugged usual step.leads (subst (λ (l : List up.Message). FreeHeld older l downs s) first h))

    by : LateAt unlink older (taken move ++ ups) downs s → LateAt unlink older ups (downs ++ puts) t
    by (UnlinkOnItsWay front whole h) = comes front whole h (ahead move ups front (up.Unlink unlink) whole)
    by (UnlinkDidHit before behind whole g) = absurd g
    by (UnlinkDidMiss before behind whole h) =
        let none = none_sent (asked_by None notify) unlink (unlink_answer unlink success) before behind (taken move ++ ups) downs s (λ more. refl) whole lines in
        UnlinkDidMiss before (behind ++ puts) (put_behind before behind puts downs (unlink_answer unlink success) whole)
        (subst (λ (l : List Put). FreeHeld older ups l t) (append_assoc before behind puts)
        (free_goes older ups (before ++ behind) puts s t move good (no_bulk_by None notify (unlink ∷ []) (taken move ++ ups) downs s none lines) fit plugged usual step.leads h))

pub late_run : (laws : TieLaws) (unlink : UnlinkHead) (notify : Option SubmitHead) (older : List Packet) (run : List Entry) (next : ℕ) (ups : List up.Message) (downs : List Put) (s t : State)
    → Runs s run t → StaysPlugged run → LateRead unlink notify older next (inputs run ++ ups) downs s → LateRead unlink notify older next ups (downs ++ outputs run) t
late_run laws unlink notify older run next ups downs s t goes plugged r = record {
  earlier = r.earlier;
  target = r.target;
  names = r.names;
  other = r.other;
  bond = bond_run laws _ (asked_by None notify) (unlink ∷ []) (late_keeps laws unlink notify older (λ head is e. r.other head is (e ∙ r.names))) run next ups downs s t goes plugged r.bond;
}

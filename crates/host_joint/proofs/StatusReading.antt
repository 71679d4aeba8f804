-- a status read under each step of a device
use Rattle.std.proofs.Common.{◌≡◌, ◌≢◌, ◌∙◌, ℕ, Bool, true, false, Option, None, List, [], ◌∷◌, ◌++◌, refl, ap, sym, subst, append_assoc}
use Rattle.usbip_wire.specs.declared.submit.SubmitHead.{SubmitHead}
use Rattle.usbip_wire.specs.Up as up
use Rattle.usb_setup.specs.declared.setup.Setup.{Setup}
use Rattle.tmc_wire.specs.declared.class_request.ClassRequest.{ClassRequest}
use Rattle.tmc_wire.specs.declared.class_request.ClassRequest.TheVariants.{ReadStatus}
use Rattle.tmc_wire.specs.ClassStatus.{STATUS_SUCCESS, STATUS_INTERRUPT_IN_BUSY}
use Rattle.instr_plain.specs.declared.log.LogEntry.{LogEntry}
use Rattle.instr_plain.specs.declared.log.LogEntry.TheVariants as entry
use Rattle.instr_plain.specs.Standing.{polled_byte}
use Rattle.instr_plain.specs.Log.{Stands}
use Rattle.tmc_law.specs.Endpoint.{Control, BulkOut, BulkIn, InterruptIn}
use Rattle.tmc_law.specs.State.{State, Pending, Packet, StatusPacket, Running, Nothing, arrived}
use Rattle.tmc_law.specs.Put.{Put, success}
use Rattle.tmc_law.specs.Class as class
use Rattle.tmc_law.specs.Class.{Serves, StaysPending}
use Rattle.tmc_law.specs.Control.{Asks, control_answer}
use Rattle.tmc_law.specs.Aborts.{Served}
use Rattle.tmc_law.specs.Status as status
use Rattle.tmc_law.specs.Status.{Polls, DoesPoll, IsStatusTag, is_status, status_layout}
use Rattle.tmc_law.specs.Logging.{is_queued}
use Rattle.tmc_law.specs.LogStep.{MayLog, Adds}
use Rattle.tmc_law.specs.AnswerFits.{AllAnswers}
use Rattle.tmc_law.specs.Step.{Move, Comes, Refuses, Take, Exec, Begin, Fill, Answer, Pend, Poll, Notify, Halt, Unplug, Leads}
use Rattle.tmc_law.specs.Run.{taken}
use Rattle.host_joint.specs.Lines.{Sent, sent_to, Event, Gives, events_of, unlinks_in, Lines, AllFitting}
use Rattle.host_joint.specs.Positions.{IsAt, rests}
use Rattle.host_joint.specs.Requests.{NoBulk, IsClass}
use Rattle.host_joint.specs.StatusReads.{packets_in, statuses, IsUsual, Brings, NonePolled, OnePolled, StatusRead, StatusAt, StatusComes, StatusPends, StatusPolled, StatusSaid, StatusBusy, StatusOver, ByteAt, ByteUnread, ByteComes, ByteCame, StatusHeld, QuietHeld, asked_by, while}
use Rattle.host_joint.proofs.Queues.{IsSound}
use Rattle.host_joint.proofs.Flows.{events-append, all_answered}
use Rattle.host_joint.proofs.Running.{sound}
use Rattle.host_joint.proofs.Tying.{TieLaws}
use Rattle.host_joint.proofs.Bonding.{Keeps, none_linked}
use Rattle.host_joint.proofs.Resting.{rest_goes, rest_is, no_take, no_fill, rests_closed}
use Rattle.host_joint.proofs.Requesting as asking
use Rattle.host_joint.proofs.Requesting.{Meaning, only_class, OnlyClass, Apart, Came, CameHere, CameElsewhere, came, events_same, one_sent, no_sent, one_pending, answer_event, other_event, no_answer, no_pend, no_first_poll}
use Rattle.host_joint.proofs.Packeting.{Streams, still, brings_more, brings_same, all_usual, none_out, logs_same, statuses-append, queued_some, Others, others, none_goes, one_goes, poll-append}
use Rattle.host_joint.proofs.Packeting as packets

-- ---- a move that does nothing at the control endpoint

at_stays : (read : StatusRead) (waits polled : Bool) (coming later : List Sent) (downs puts : List Put) (s t : State) → Apart s t puts → coming ≡ later
    → StatusAt read waits polled coming (events_of Control downs) s.control → StatusAt read waits polled later (events_of Control (downs ++ puts)) t.control
at_stays read waits polled coming later downs puts s t apart same (StatusComes w p come empty free) =
    StatusComes w p (sym same ∙ come) (events_same Control downs puts apart.events ∙ empty) (apart.queue ∙ free)
at_stays read waits polled coming later downs puts s t apart same (StatusPends w p come empty free) =
    StatusPends w p (sym same ∙ come) (events_same Control downs puts apart.events ∙ empty) (apart.queue ∙ free)
at_stays read waits polled coming later downs puts s t apart same (StatusPolled w p come empty free) =
    StatusPolled w p (sym same ∙ come) (events_same Control downs puts apart.events ∙ empty) (apart.queue ∙ free)
at_stays read waits polled coming later downs puts s t apart same (StatusSaid w p come given free) =
    StatusSaid w p (sym same ∙ come) (events_same Control downs puts apart.events ∙ given) (apart.queue ∙ free)
at_stays read waits polled coming later downs puts s t apart same (StatusBusy w p come given free some) =
    StatusBusy w p (sym same ∙ come) (events_same Control downs puts apart.events ∙ given) (apart.queue ∙ free) some
at_stays read waits polled coming later downs puts s t apart same (StatusOver w p come empty free) =
    StatusOver w p (sym same ∙ come) (events_same Control downs puts apart.events ∙ empty) (apart.queue ∙ free)

byte_goes : (read : StatusRead) (older : List Packet) (got : Option ℕ) (polled : Bool) (l : List Packet) (s t : State) → Others s t → ByteAt read older got polled l s.log → ByteAt read older got polled l t.log
byte_goes read older got polled l s t logs (ByteUnread p g is none) = ByteUnread p g is (none_goes read.since s t logs none)
byte_goes read older got polled l s t logs (ByteComes byte p g is one) = ByteComes byte p g is (one_goes read.head.seqnum byte read.since s t logs one)
byte_goes read older got polled l s t logs (ByteCame byte p g none is one) = ByteCame byte p g none is (one_goes read.head.seqnum byte read.since s t logs one)

stays : (read : StatusRead) (waits : Bool) (got : Option ℕ) (older : List Packet) (before ups : List up.Message) (downs puts : List Put) (s t : State) → IsAt rests t → Others s t → Apart s t puts → Streams [] s t puts
    → AllAnswers IsUsual puts → sent_to Control before ≡ sent_to Control ups → StatusHeld read waits got older before downs s → StatusHeld read waits got older ups (downs ++ puts) t
stays read waits got older before ups downs puts s t rest logs apart streams usual same h = record {
  rest = rest;
  polled = h.polled;
  request = at_stays read waits h.polled _ _ downs puts s t apart same h.request;
  status_packets = h.status_packets;
  brings = brings_same h.status_packets downs puts s t streams usual h.brings;
  byte = byte_goes read older got h.polled h.status_packets s t logs h.byte;
  fewer = h.fewer;
}

-- ---- the request arrives

arrives_at : (read : StatusRead) (waits polled : Bool) (x : SubmitHead) (transferred : List ℕ) (coming later : List Sent) (downs puts : List Put) (s t : State) → puts ≡ [] → t ≡ record s { control = s.control ++ arrived x transferred ∷ [] }
    → coming ≡ record { head = x; transferred = transferred } ∷ later
    → StatusAt read waits polled coming (events_of Control downs) s.control → StatusAt read waits polled later (events_of Control (downs ++ puts)) t.control
arrives_at read waits polled x transferred coming later downs puts s t put is same (StatusComes w p come empty free) =
    let e = one_sent x transferred read.head later (sym same ∙ come) in
    StatusPends w p e.2 (events_same Control downs puts (ap (λ (l : List Put). events_of Control l) put) ∙ empty)
    (ap (λ (y : State). y.control) is ∙ ap (λ (q : List Pending). q ++ arrived x transferred ∷ []) free ∙ ap (λ (y : SubmitHead). arrived y transferred ∷ []) e.0 ∙ ap (λ (l : List ℕ). arrived read.head l ∷ []) e.1)
arrives_at read waits polled x transferred coming later downs puts s t put is same (StatusPends w p come empty free) = no_sent _ _ _ same come
arrives_at read waits polled x transferred coming later downs puts s t put is same (StatusPolled w p come empty free) = no_sent _ _ _ same come
arrives_at read waits polled x transferred coming later downs puts s t put is same (StatusSaid w p come given free) = no_sent _ _ _ same come
arrives_at read waits polled x transferred coming later downs puts s t put is same (StatusBusy w p come given free some) = no_sent _ _ _ same come
arrives_at read waits polled x transferred coming later downs puts s t put is same (StatusOver w p come empty free) = no_sent _ _ _ same come

arrives : (read : StatusRead) (waits : Bool) (got : Option ℕ) (older : List Packet) (x : SubmitHead) (transferred : List ℕ) (ups : List up.Message) (downs puts : List Put) (s t : State) → IsAt rests t → Others s t → Streams [] s t puts
    → AllAnswers IsUsual puts → Came x transferred ups s t puts → StatusHeld read waits got older (up.Submit x transferred ∷ ups) downs s → StatusHeld read waits got older ups (downs ++ puts) t
arrives read waits got older x transferred ups downs puts s t rest logs streams usual (CameElsewhere apart same) h = stays read waits got older _ ups downs puts s t rest logs apart streams usual same h
arrives read waits got older x transferred ups downs puts s t rest logs streams usual (CameHere put is same) h = record {
  rest = rest;
  polled = h.polled;
  request = arrives_at read waits h.polled x transferred _ _ downs puts s t put is same h.request;
  status_packets = h.status_packets;
  brings = brings_same h.status_packets downs puts s t streams usual h.brings;
  byte = byte_goes read older got h.polled h.status_packets s t logs h.byte;
  fewer = h.fewer;
}

-- ---- the status byte is read

polls_streams : (queue : List Pending) (n tag : ℕ) (s t : State) (puts : List Put) → packets_in (events_of InterruptIn puts) ≡ [] → Polls n tag (record s { control = queue }) t
    → Streams (StatusPacket tag (polled_byte s.standing) ∷ []) s t puts
polls_streams queue n tag s t puts none (DoesPoll mid logs is) = record {
  sent = [];
  carried = none;
  queued = ap (λ (x : State). statuses x.packets) is ∙ statuses-append mid.packets (StatusPacket tag (polled_byte s.standing) ∷ [])
      ∙ ap (λ (l : List Packet). l ++ StatusPacket tag (polled_byte s.standing) ∷ []) (logs_same (entry.Poll n) (record s { control = queue }) mid logs);
}

polls_log : (queue : List Pending) (n tag : ℕ) (s t : State) → Polls n tag (record s { control = queue }) t → t.log ≡ s.log ++ entry.Poll n ∷ []
polls_log queue n tag s t (DoesPoll mid logs is) = ap (λ (x : State). x.log) is ∙ ap (λ (x : State). x.log) logs.is

polls_control : (queue : List Pending) (n tag : ℕ) (s t : State) → Polls n tag (record s { control = queue }) t → t.control ≡ queue
polls_control queue n tag s t (DoesPoll mid logs is) = ap (λ (x : State). x.control) is ∙ ap (λ (x : State). x.control) logs.is

polls_rest : (queue : List Pending) (n tag : ℕ) (s t : State) → Polls n tag (record s { control = queue }) t → IsAt rests s → IsAt rests t
polls_rest queue n tag s t (DoesPoll mid logs is) rest =
    let at : IsAt rests mid = rest_is rests _ mid logs.is (record { bulk_out = rest.bulk_out; bulk_in = rest.bulk_in; running = rest.running; side = rest.side; out = rest.out; waits = tt; shut = tt }) in
    rest_is rests _ t is (record { bulk_out = at.bulk_out; bulk_in = at.bulk_in; running = at.running; side = at.side; out = at.out; waits = tt; shut = tt })

rest_control : (queue : List Pending) (s : State) → IsAt rests s → IsAt rests (record s { control = queue })
rest_control queue s rest = record { bulk_out = rest.bulk_out; bulk_in = rest.bulk_in; running = rest.running; side = rest.side; out = rest.out; waits = tt; shut = tt }

polled_once : (n : ℕ) (since : List LogEntry) (s t : State) → Stands s.log s.standing → t.log ≡ s.log ++ entry.Poll n ∷ [] → NonePolled since s.log → OnePolled n (polled_byte s.standing) since t.log
polled_once n since s t stands log none = record {
  before = none.more;
  behind = [];
  whole = log ∙ ap (λ (l : List LogEntry). l ++ entry.Poll n ∷ []) none.whole ∙ append_assoc since none.more (entry.Poll n ∷ []);
  none_before = none.none;
  none_behind = tt;
  standing = s.standing;
  stands = subst (λ (l : List LogEntry). Stands l s.standing) none.whole stands;
  was_read = refl;
}

pub clash : {B : Type 0} (b : Bool) → b ≡ false → b ≡ true → B
clash b off on = let e : false ≡ true = sym off ∙ on in absurd (cc)

-- it was not read yet, and now it is
byte_polled : (read : StatusRead) (older : List Packet) (got : Option ℕ) (l : List Packet) (s t : State) → Stands s.log s.standing → t.log ≡ s.log ++ entry.Poll read.head.seqnum ∷ []
    → ByteAt read older got false l s.log → ByteAt read older got true (l ++ StatusPacket read.tag (polled_byte s.standing) ∷ []) t.log
byte_polled read older got l s t stands log (ByteUnread p g is none) =
    ByteComes (polled_byte s.standing) refl g (ap (λ (k : List Packet). k ++ StatusPacket read.tag (polled_byte s.standing) ∷ []) is) (polled_once read.head.seqnum read.since s t stands log none)
byte_polled read older got l s t stands log (ByteComes byte p g is one) = clash true (sym p) refl
byte_polled read older got l s t stands log (ByteCame byte p g none is one) = clash true (sym p) refl

older_some : (read : StatusRead) (older : List Packet) (got : Option ℕ) (l : List Packet) (now : List LogEntry) → ByteAt read older got false l now → l ≡ older
older_some read older got l now (ByteUnread p g is none) = is
older_some read older got l now (ByteComes byte p g is one) = clash true (sym p) refl
older_some read older got l now (ByteCame byte p g none is one) = clash true (sym p) refl

-- the first packet of those on their way is queued, so packets of earlier status reads were there
left_some : (read : StatusRead) (older : List Packet) (downs : List Put) (s : State) → Brings older downs s → is_queued is_status s.packets ≡ true → (read.left ≡ [] → older ≡ []) → read.left ≢ []
left_some read older downs s b queued fewer none = queued_some s.packets queued (behind_none (statuses b.sent) (statuses s.packets) (sym (statuses-append b.sent s.packets) ∙ b.queued ∙ fewer none))
  where
    behind_none : (a c : List Packet) → a ++ c ≡ [] → c ≡ []
    behind_none [] c e = e
    behind_none (x ∷ a) c e = absurd (cc)

-- ---- it is polled first

ask_of : (head : SubmitHead) (b : Bool) (setup : Setup) → Asks (record (arrived head []) { polled = b }) setup → Asks (arrived head []) setup
ask_of head b setup asks = record { fits = asks.fits; layout = asks.layout }

first_poll : (read : StatusRead) (waits : Bool) (got : Option ℕ) (older : List Packet) (ups : List up.Message) (downs puts : List Put) (s t : State) → OnlyClass read.head (ReadStatus read.tag) → Stands s.log s.standing → puts ≡ []
    → class.PollsFirst s t → StatusHeld read waits got older ups downs s → StatusHeld read waits got older ups (downs ++ puts) t
first_poll read waits got older ups downs puts s t is stands none (class.DoesPollFirst submit behind setup tag line asks row good fresh free polls) h = by h.request
  where
    goes : (w : waits ≡ true) → h.polled ≡ false → sent_to Control ups ≡ [] → events_of Control downs ≡ [] → s.control ≡ arrived read.head [] ∷ [] → StatusHeld read waits got older ups (downs ++ puts) t
    goes w p come empty pends =
        let e = one_pending submit (arrived read.head []) behind (sym line ∙ pends) in
        let same : tag ≡ read.tag = tag_same (is.only setup (ReadStatus tag) (subst (λ (x : Pending). Asks x setup) e.0 asks) row) in
        let queue : List Pending = record (arrived read.head []) { polled = true } ∷ [] in
        let own : Polls read.head.seqnum read.tag (record s { control = queue }) t =
        subst (λ (k : ℕ). Polls read.head.seqnum k (record s { control = queue }) t) same
        (subst (λ (x : Pending). Polls x.head.seqnum tag (record s { control = record x { polled = true } ∷ [] }) t) e.0
        (subst (λ (q : List Pending). Polls submit.head.seqnum tag (record s { control = record submit { polled = true } ∷ q }) t) e.1 polls)) in
        record {
          rest = polls_rest queue read.head.seqnum read.tag s t own h.rest;
          polled = true;
          request = StatusPolled w refl come (events_same Control downs puts (ap (λ (l : List Put). events_of Control l) none) ∙ empty) (polls_control queue read.head.seqnum read.tag s t own);
          status_packets = h.status_packets ++ StatusPacket read.tag (polled_byte s.standing) ∷ [];
          brings = brings_more (StatusPacket read.tag (polled_byte s.standing) ∷ []) h.status_packets downs puts s t
              (polls_streams queue read.head.seqnum read.tag s t puts (ap (λ (l : List Put). packets_in (events_of InterruptIn l)) none) own) (subst (λ (l : List Put). AllAnswers IsUsual l) (sym none) tt) h.brings;
          byte = byte_polled read older got h.status_packets s t stands (polls_log queue read.head.seqnum read.tag s t own) (subst (λ (b : Bool). ByteAt read older got b h.status_packets s.log) p h.byte);
          fewer = h.fewer;
        }
      where
        tag_same : ReadStatus tag ≡ ReadStatus read.tag → tag ≡ read.tag
        tag_same e = cc

    by : StatusAt read waits h.polled (sent_to Control ups) (events_of Control downs) s.control → StatusHeld read waits got older ups (downs ++ puts) t
    by (StatusComes w p come empty pends) = absurd (no_first_poll s t pends (class.DoesPollFirst submit behind setup tag line asks row good fresh free polls))
    by (StatusPends w p come empty pends) = goes w p come empty pends
    by (StatusPolled w p come empty pends) =
        let e = one_pending submit (record (arrived read.head []) { polled = true }) behind (sym line ∙ pends) in clash submit.polled fresh (ap (λ (x : Pending). x.polled) e.0)
    by (StatusSaid w p come given pends) = absurd (no_first_poll s t pends (class.DoesPollFirst submit behind setup tag line asks row good fresh free polls))
    by (StatusBusy w p come given pends some) = absurd (no_first_poll s t pends (class.DoesPollFirst submit behind setup tag line asks row good fresh free polls))
    by (StatusOver w p come empty pends) = absurd (no_first_poll s t pends (class.DoesPollFirst submit behind setup tag line asks row good fresh free polls))

-- ---- it is answered

none_postpones : (read : StatusRead) (b : Bool) (puts : List Put) (s t : State) → OnlyClass read.head (ReadStatus read.tag) → class.Postpones s puts t → s.control ≡ record (arrived read.head []) { polled = b } ∷ [] → IsAt rests s → ⊥
none_postpones read b puts s t is (class.DoesPostpone submit behind setup found layout line asks row pending put to) pends rest =
    let e = one_pending submit (record (arrived read.head []) { polled = b }) behind (sym line ∙ pends) in
    let ask : Asks (arrived read.head []) setup = ask_of read.head b setup (subst (λ (x : Pending). Asks x setup) e.0 asks) in
    no_pending s.running layout rest.running (subst (λ (r : ClassRequest). StaysPending s.running r layout) (is.only setup found ask row) pending)
  where
    no_pending : (r : Running) (layout : List ℕ) → r ≡ Nothing → StaysPending r (ReadStatus read.tag) layout → ⊥
    no_pending r layout nothing h = subst (λ (x : Running). StaysPending x (ReadStatus read.tag) layout) nothing h

-- what an answer with this status puts out, at both endpoints
answered : (read : StatusRead) (b : Bool) (code : ℕ) (setup : Setup) (served : Served) (state : State) (downs puts : List Put) → OnlyClass read.head (ReadStatus read.tag) → Asks (arrived read.head []) setup
    → served ≡ record { layout = status_layout code read.tag; behind = []; state = state } → puts ≡ control_answer (record (arrived read.head []) { polled = b }) setup served.layout ∷ served.behind → events_of Control downs ≡ []
    → (events_of Control (downs ++ puts) ≡ Gives read.head (record { seqnum = read.head.seqnum; status = success; actual = 3 }) (status_layout code read.tag) ∷ []) × (packets_in (events_of InterruptIn puts) ≡ [])
answered read b code setup served state downs puts is asks made put empty =
    let alone : puts ≡ control_answer (arrived read.head []) setup (status_layout code read.tag) ∷ [] = put ∙ ap (λ (v : Served). control_answer (arrived read.head []) setup v.layout ∷ v.behind) made in (
      events-append Control downs puts ∙ ap (λ (l : List Event). l ++ events_of Control puts) empty ∙ ap (λ (p : List Put). events_of Control p) alone
          ∙ answer_event read.head (ReadStatus read.tag) setup (status_layout code read.tag) is asks refl,
      ap (λ (p : List Put). packets_in (events_of InterruptIn p)) alone ∙ ap (λ (l : List Event). packets_in l) (other_event InterruptIn read.head _ _ [] 0 is.number refl),
    )

pub serves : (read : StatusRead) (b waits : Bool) (got : Option ℕ) (older : List Packet) (ups : List up.Message) (downs puts : List Put) (s t : State) (setup : Setup) (submit : Pending) (served : Served) → OnlyClass read.head (ReadStatus read.tag)
    → IsStatusTag read.tag → Stands s.log s.standing → AllAnswers IsUsual puts → Asks (arrived read.head []) setup → submit ≡ record (arrived read.head []) { polled = b } → waits ≡ true → sent_to Control ups ≡ [] → events_of Control downs ≡ []
    → puts ≡ control_answer (record (arrived read.head []) { polled = b }) setup served.layout ∷ served.behind → t ≡ served.state → status.ReadsStatus read.tag submit (record s { control = [] }) served
    → (h : StatusHeld read waits got older ups downs s) → h.polled ≡ b → StatusHeld read waits got older ups (downs ++ puts) t
serves read b waits got older ups downs puts s t setup submit served is tagged stands usual asks same w come empty put to (status.BadTag bad made) h p = absurd (bad tagged)
serves read b waits got older ups downs puts s t setup submit served is tagged stands usual asks same w come empty put to (status.PolledBefore good was made) h p =
    let said = answered read b STATUS_SUCCESS setup served _ downs puts is asks made put empty in
    let is_now : t ≡ record s { control = [] } = to ∙ ap (λ (v : Served). v.state) made in
    let polled : h.polled ≡ true = p ∙ sym (ap (λ (x : Pending). x.polled) same) ∙ was in
    record {
      rest = rest_is rests _ t is_now (rest_control [] s h.rest);
      polled = h.polled;
      request = StatusSaid w polled come said.0 (ap (λ (x : State). x.control) is_now);
      status_packets = h.status_packets;
      brings = brings_same h.status_packets downs puts s t (still s t puts said.1 (ap (λ (x : State). statuses x.packets) is_now)) usual h.brings;
      byte = subst (λ (l : List LogEntry). ByteAt read older got h.polled h.status_packets l) (sym (ap (λ (x : State). x.log) is_now)) h.byte;
      fewer = h.fewer;
    }
serves read b waits got older ups downs puts s t setup submit served is tagged stands usual asks same w come empty put to (status.Busy good fresh queued made) h p =
    let said = answered read b STATUS_INTERRUPT_IN_BUSY setup served _ downs puts is asks made put empty in
    let is_now : t ≡ record s { control = [] } = to ∙ ap (λ (v : Served). v.state) made in
    let polled : h.polled ≡ false = p ∙ sym (ap (λ (x : Pending). x.polled) same) ∙ fresh in
    let byte : ByteAt read older got false h.status_packets s.log = subst (λ (x : Bool). ByteAt read older got x h.status_packets s.log) polled h.byte in
    record {
      rest = rest_is rests _ t is_now (rest_control [] s h.rest);
      polled = h.polled;
      request = StatusBusy w polled come said.0 (ap (λ (x : State). x.control) is_now)
          (left_some read older downs s (subst (λ (l : List Packet). Brings l downs s) (older_some read older got h.status_packets s.log byte) h.brings) queued h.fewer);
      status_packets = h.status_packets;
      brings = brings_same h.status_packets downs puts s t (still s t puts said.1 (ap (λ (x : State). statuses x.packets) is_now)) usual h.brings;
      byte = subst (λ (l : List LogEntry). ByteAt read older got h.polled h.status_packets l) (sym (ap (λ (x : State). x.log) is_now)) h.byte;
      fewer = h.fewer;
    }
serves read b waits got older ups downs puts s t setup submit served is tagged stands usual asks same w come empty put to (status.PolledNow u good fresh free polls made) h p =
    let said = answered read b STATUS_SUCCESS setup served u downs puts is asks made put empty in
    let polled : h.polled ≡ false = p ∙ sym (ap (λ (x : Pending). x.polled) same) ∙ fresh in
    let own : Polls read.head.seqnum read.tag (record s { control = [] }) t =
    subst (λ (x : State). Polls read.head.seqnum read.tag (record s { control = [] }) x) (sym (to ∙ ap (λ (v : Served). v.state) made))
    (subst (λ (x : Pending). Polls x.head.seqnum read.tag (record s { control = [] }) u) same polls) in
    record {
      rest = polls_rest [] read.head.seqnum read.tag s t own h.rest;
      polled = true;
      request = StatusSaid w refl come said.0 (polls_control [] read.head.seqnum read.tag s t own);
      status_packets = h.status_packets ++ StatusPacket read.tag (polled_byte s.standing) ∷ [];
      brings = brings_more (StatusPacket read.tag (polled_byte s.standing) ∷ []) h.status_packets downs puts s t (polls_streams [] read.head.seqnum read.tag s t puts said.1 own) usual h.brings;
      byte = byte_polled read older got h.status_packets s t stands (polls_log [] read.head.seqnum read.tag s t own) (subst (λ (x : Bool). ByteAt read older got x h.status_packets s.log) polled h.byte);
      fewer = h.fewer;
    }

answers : (read : StatusRead) (b waits : Bool) (got : Option ℕ) (older : List Packet) (ups : List up.Message) (downs puts : List Put) (s t : State) → OnlyClass read.head (ReadStatus read.tag) → IsStatusTag read.tag → Stands s.log s.standing
    → AllAnswers IsUsual puts → class.Answers s puts t → waits ≡ true → sent_to Control ups ≡ [] → events_of Control downs ≡ [] → s.control ≡ record (arrived read.head []) { polled = b } ∷ []
    → (h : StatusHeld read waits got older ups downs s) → h.polled ≡ b → StatusHeld read waits got older ups (downs ++ puts) t
answers read b waits got older ups downs puts s t is tagged stands usual (class.ByClass submit behind setup found served line asks row serving put to) w come empty pends h p =
    let e = one_pending submit (record (arrived read.head []) { polled = b }) behind (sym line ∙ pends) in
    let ask : Asks (arrived read.head []) setup = ask_of read.head b setup (subst (λ (x : Pending). Asks x setup) e.0 asks) in
    let own : Serves (ReadStatus read.tag) submit (record s { control = [] }) served =
    subst (λ (r : ClassRequest). Serves r submit (record s { control = [] }) served) (is.only setup found ask row)
    (subst (λ (q : List Pending). Serves found submit (record s { control = q }) served) e.1 serving) in
    serves read b waits got older ups downs puts s t setup submit served is tagged stands usual ask e.0 w come empty
    (put ∙ ap (λ (x : Pending). control_answer x setup served.layout ∷ served.behind) e.0) to own h p
answers read b waits got older ups downs puts s t is tagged stands usual (class.ByStandard submit behind setup found line asks row put to) w come empty pends h p =
    let e = one_pending submit (record (arrived read.head []) { polled = b }) behind (sym line ∙ pends) in absurd (is.not_standard setup found (ask_of read.head b setup (subst (λ (x : Pending). Asks x setup) e.0 asks)) row)
answers read b waits got older ups downs puts s t is tagged stands usual (class.Unknown submit behind setup line asks unknown put to) w come empty pends h p =
    let e = one_pending submit (record (arrived read.head []) { polled = b }) behind (sym line ∙ pends) in absurd (is.known setup (ask_of read.head b setup (subst (λ (x : Pending). Asks x setup) e.0 asks)) unknown)

answers_any : (read : StatusRead) (waits : Bool) (got : Option ℕ) (older : List Packet) (ups : List up.Message) (downs puts : List Put) (s t : State) → OnlyClass read.head (ReadStatus read.tag) → IsStatusTag read.tag → Stands s.log s.standing
    → AllAnswers IsUsual puts → class.Answers s puts t → StatusHeld read waits got older ups downs s → StatusHeld read waits got older ups (downs ++ puts) t
answers_any read waits got older ups downs puts s t is tagged stands usual answer h = by h.request
  where
    by : StatusAt read waits h.polled (sent_to Control ups) (events_of Control downs) s.control → StatusHeld read waits got older ups (downs ++ puts) t
    by (StatusComes w p come empty pends) = absurd (no_answer s t puts pends answer)
    by (StatusPends w p come empty pends) = answers read false waits got older ups downs puts s t is tagged stands usual answer w come empty pends h p
    by (StatusPolled w p come empty pends) = answers read true waits got older ups downs puts s t is tagged stands usual answer w come empty pends h p
    by (StatusSaid w p come given pends) = absurd (no_answer s t puts pends answer)
    by (StatusBusy w p come given pends some) = absurd (no_answer s t puts pends answer)
    by (StatusOver w p come empty pends) = absurd (no_answer s t puts pends answer)

none_pend : (read : StatusRead) (waits : Bool) (got : Option ℕ) (older : List Packet) (ups : List up.Message) (downs puts : List Put) (s t : State) → OnlyClass read.head (ReadStatus read.tag) → class.Postpones s puts t
    → StatusHeld read waits got older ups downs s → ⊥
none_pend read waits got older ups downs puts s t is pend h = by h.request
  where
    by : StatusAt read waits h.polled (sent_to Control ups) (events_of Control downs) s.control → ⊥
    by (StatusComes w p come empty pends) = no_pend s t puts pends pend
    by (StatusPends w p come empty pends) = none_postpones read false puts s t is pend pends h.rest
    by (StatusPolled w p come empty pends) = none_postpones read true puts s t is pend pends h.rest
    by (StatusSaid w p come given pends) = no_pend s t puts pends pend
    by (StatusBusy w p come given pends some) = no_pend s t puts pends pend
    by (StatusOver w p come empty pends) = no_pend s t puts pends pend

-- ---- all moves

pub status_goes : (read : StatusRead) (waits : Bool) (got : Option ℕ) (older : List Packet) (ups : List up.Message) (downs puts : List Put) (s t : State) (move : Move) → OnlyClass read.head (ReadStatus read.tag) → IsStatusTag read.tag
    → Stands s.log s.standing → IsSound s → NoBulk (taken move ++ ups) → AllFitting (taken move ++ ups) → move ≢ Unplug → AllAnswers IsUsual puts → Leads s move puts t → Adds (MayLog s move) s t
    → StatusHeld read waits got older (taken move ++ ups) downs s → StatusHeld read waits got older ups (downs ++ puts) t
status_goes read waits got older ups downs puts s t (Comes (up.Submit x transferred)) is tagged stands sound none fit plugged usual h adds held =
    arrives read waits got older x transferred ups downs puts s t (rest_goes rests s t (Comes (up.Submit x transferred)) puts ups rests_closed none tt h held.rest) (others s t (Comes (up.Submit x transferred)) tt adds)
    (packets.arrives x transferred s t puts h.3) usual (came x transferred ups s t puts fit.0 h.3) held
status_goes read waits got older ups downs puts s t (Comes (up.Unlink x)) is tagged stands sound none fit plugged usual h adds held = let e : x ∷ unlinks_in ups ≡ [] = none.unlinks in absurd (cc)
status_goes read waits got older ups downs puts s t (Refuses devid bytes f) is tagged stands sound none fit plugged usual h adds held =
    stays read waits got older ups ups downs puts s t (rest_goes rests s t (Refuses devid bytes f) puts ups rests_closed none tt h held.rest) (others s t (Refuses devid bytes f) tt adds)
    (record { queue = ap (λ (x : State). x.control) h.2; events = ap (λ (p : List Put). events_of Control p) h.1 }) (none_out s t puts h.1 (ap (λ (x : State). statuses x.packets) h.2)) usual refl held
status_goes read waits got older ups downs puts s t (Take count) is tagged stands sound none fit plugged usual h adds held = absurd (no_take s t count puts held.rest.bulk_out h.1)
status_goes read waits got older ups downs puts s t Exec is tagged stands sound none fit plugged usual h adds held =
    stays read waits got older ups ups downs puts s t (rest_goes rests s t Exec puts ups rests_closed none tt h held.rest) (others s t Exec tt adds) (asking.executes s t puts h.1 h.0) (packets.executes s t puts h.1 h.0) usual refl held
status_goes read waits got older ups downs puts s t (Begin count) is tagged stands sound none fit plugged usual h adds held =
    stays read waits got older ups ups downs puts s t (rest_goes rests s t (Begin count) puts ups rests_closed none tt h held.rest) (others s t (Begin count) tt adds) (asking.begins s t count puts h.1 h.0)
    (packets.begins s t count puts h.1 h.0) usual refl held
status_goes read waits got older ups downs puts s t (Fill count) is tagged stands sound none fit plugged usual h adds held = absurd (no_fill s t count puts held.rest.bulk_in h)
status_goes read waits got older ups downs puts s t Answer is tagged stands sound none fit plugged usual h adds held = answers_any read waits got older ups downs puts s t is tagged stands usual h held
status_goes read waits got older ups downs puts s t Pend is tagged stands sound none fit plugged usual h adds held = absurd (none_pend read waits got older ups downs puts s t is h held)
status_goes read waits got older ups downs puts s t Poll is tagged stands sound none fit plugged usual h adds held = first_poll read waits got older ups downs puts s t is stands h.1 h.0 held
status_goes read waits got older ups downs puts s t Notify is tagged stands sound none fit plugged usual h adds held =
    stays read waits got older ups ups downs puts s t (rest_goes rests s t Notify puts ups rests_closed none tt h held.rest) (others s t Notify tt adds) (asking.notifies s t puts sound h) (packets.notifies s t puts sound h) usual refl held
status_goes read waits got older ups downs puts s t (Halt e) is tagged stands sound none fit plugged usual h adds held =
    stays read waits got older ups ups downs puts s t (rest_goes rests s t (Halt e) puts ups rests_closed none tt h held.rest) (others s t (Halt e) tt adds) (asking.halts_itself s t e puts sound h) (packets.halts_itself s t e puts h) usual refl held
status_goes read waits got older ups downs puts s t Unplug is tagged stands sound none fit plugged usual h adds held = absurd (plugged refl)

-- ---- the ties

no_bulk : (request notify : Option SubmitHead) (ups : List up.Message) (downs : List Put) (s : State) → Lines (asked_by request notify) [] ups downs s → NoBulk ups
no_bulk request notify ups downs s lines = record {
  outs = (all_answered (asked_by request notify) BulkOut ups downs s lines refl).sent;
  ins = (all_answered (asked_by request notify) BulkIn ups downs s lines refl).sent;
  unlinks = none_linked (asked_by request notify) ups downs s lines;
}

pub status_keeps : (laws : TieLaws) (meaning : Meaning) (read : StatusRead) (waits : Bool) (notify : Option SubmitHead) (got : Option ℕ) (older : List Packet) → IsClass read.head (ReadStatus read.tag) → IsStatusTag read.tag
    → Keeps (λ ups downs s. StatusHeld read waits got older ups downs s) (asked_by (while waits read.head) notify) []
status_keeps laws meaning read waits notify got older is tagged run s t move ups downs puts reached step plugged fit order lines held =
    status_goes read waits got older ups downs puts s t move (only_class meaning read.head (ReadStatus read.tag) is) tagged (laws.ask.stands run s reached) (sound laws.ask run s reached)
    (no_bulk (while waits read.head) notify (taken move ++ ups) downs s lines) fit plugged (all_usual s t move puts plugged (laws.answers run s t move puts reached step)) step.leads (laws.logs s t move puts step) held

-- of a host that reads no status
quiet_goes : (older : List Packet) (before ups : List up.Message) (downs puts : List Put) (s t : State) → IsAt rests t → Streams [] s t puts → AllAnswers IsUsual puts → QuietHeld older before downs s → QuietHeld older ups (downs ++ puts) t
quiet_goes older before ups downs puts s t rest streams usual h = record { rest = rest; brings = brings_same older downs puts s t streams usual h.brings }

quiet_moves : (older : List Packet) (ups : List up.Message) (downs puts : List Put) (s t : State) (move : Move) → s.control ≡ [] → IsSound s → NoBulk (taken move ++ ups) → move ≢ Unplug → AllAnswers IsUsual puts → Leads s move puts t
    → QuietHeld older (taken move ++ ups) downs s → QuietHeld older ups (downs ++ puts) t
quiet_moves older ups downs puts s t (Comes (up.Submit x transferred)) free sound none plugged usual h held =
    quiet_goes older _ ups downs puts s t (rest_goes rests s t (Comes (up.Submit x transferred)) puts ups rests_closed none tt h held.rest) (packets.arrives x transferred s t puts h.3) usual held
quiet_moves older ups downs puts s t (Comes (up.Unlink x)) free sound none plugged usual h held = let e : x ∷ unlinks_in ups ≡ [] = none.unlinks in absurd (cc)
quiet_moves older ups downs puts s t (Refuses devid bytes f) free sound none plugged usual h held =
    quiet_goes older ups ups downs puts s t (rest_goes rests s t (Refuses devid bytes f) puts ups rests_closed none tt h held.rest) (none_out s t puts h.1 (ap (λ (x : State). statuses x.packets) h.2)) usual held
quiet_moves older ups downs puts s t (Take count) free sound none plugged usual h held = absurd (no_take s t count puts held.rest.bulk_out h.1)
quiet_moves older ups downs puts s t Exec free sound none plugged usual h held = quiet_goes older ups ups downs puts s t (rest_goes rests s t Exec puts ups rests_closed none tt h held.rest) (packets.executes s t puts h.1 h.0) usual held
quiet_moves older ups downs puts s t (Begin count) free sound none plugged usual h held =
    quiet_goes older ups ups downs puts s t (rest_goes rests s t (Begin count) puts ups rests_closed none tt h held.rest) (packets.begins s t count puts h.1 h.0) usual held
quiet_moves older ups downs puts s t (Fill count) free sound none plugged usual h held = absurd (no_fill s t count puts held.rest.bulk_in h)
quiet_moves older ups downs puts s t Answer free sound none plugged usual h held = absurd (no_answer s t puts free h)
quiet_moves older ups downs puts s t Pend free sound none plugged usual h held = absurd (no_pend s t puts free h)
quiet_moves older ups downs puts s t Poll free sound none plugged usual h held = absurd (no_first_poll s t free h.0)
quiet_moves older ups downs puts s t Notify free sound none plugged usual h held = quiet_goes older ups ups downs puts s t (rest_goes rests s t Notify puts ups rests_closed none tt h held.rest) (packets.notifies s t puts sound h) usual held
quiet_moves older ups downs puts s t (Halt e) free sound none plugged usual h held = quiet_goes older ups ups downs puts s t (rest_goes rests s t (Halt e) puts ups rests_closed none tt h held.rest) (packets.halts_itself s t e puts h) usual held
quiet_moves older ups downs puts s t Unplug free sound none plugged usual h held = absurd (plugged refl)

pub quiet_keeps : (laws : TieLaws) (notify : Option SubmitHead) (older : List Packet) → Keeps (λ ups downs s. QuietHeld older ups downs s) (asked_by None notify) []
quiet_keeps laws notify older run s t move ups downs puts reached step plugged fit order lines held =
    quiet_moves older ups downs puts s t move (all_answered (asked_by None notify) Control (taken move ++ ups) downs s lines refl).queue (sound laws.ask run s reached)
    (no_bulk None notify (taken move ++ ups) downs s lines) plugged (all_usual s t move puts plugged (laws.answers run s t move puts reached step)) step.leads held

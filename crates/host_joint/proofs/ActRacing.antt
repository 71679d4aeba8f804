-- a remote ticket whose request is unlinked
use Rattle.std.proofs.Common.{◌≡◌, ◌∙◌, ℕ, ◌+◌, true, false, Some, List, [], ◌∷◌, ◌++◌, refl, ap, sym, subst}
use Rattle.usbip_wire.specs.declared.submit.SubmitHead.{SubmitHead}
use Rattle.usbip_wire.specs.declared.unlink.UnlinkHead.{UnlinkHead}
use Rattle.usbip_wire.specs.declared.ret_submit.RetSubmitHead.{RetSubmitHead}
use Rattle.usbip_wire.specs.Up as up
use Rattle.tmc_wire.specs.ClassStatus.{STATUS_SUCCESS}
use Rattle.instr_plain.specs.declared.log.LogEntry.{LogEntry}
use Rattle.instr_plain.specs.declared.remote.RemoteAct.{RemoteAct}
use Rattle.tmc_law.specs.Endpoint.{Endpoint, Control, BulkOut, BulkIn, InterruptIn}
use Rattle.tmc_law.specs.State.{State, Pending, queue_of, with_queue, pending, Avoids, arrived}
use Rattle.tmc_law.specs.Put.{Put, Submitted, success}
use Rattle.host_joint.specs.Lines.{Sent, Event, Lines, sent_to, events_of}
use Rattle.host_joint.specs.Positions.{IsAt, rests}
use Rattle.host_joint.specs.Requests.{IsClass}
use Rattle.host_joint.specs.Tie.{asked_of}
use Rattle.host_joint.specs.Remotes.{request_of, OneSince, ActAt, ActComes, ActPends, ActDone, Operating}
use Rattle.host_joint.specs.Races.{UnlinkComes, ActGone, ActOver, CancelledAct, LateAct}
use Rattle.host_joint.proofs.Queues.{avoids_queue}
use Rattle.host_joint.proofs.Flows.{all_answered}
use Rattle.host_joint.proofs.Requesting.{Meaning}
use Rattle.host_joint.proofs.Tying.{TieLaws}
use Rattle.host_joint.proofs.Writing.{other_asked}
use Rattle.host_joint.proofs.Cancelling.{same_head}
use Rattle.host_joint.proofs.Operating as acts
use Rattle.host_joint.proofs.Operating.{act_keeps, quiet_out}
use Rattle.host_joint.proofs.Hosting.{own_event}
use Rattle.host_joint.proofs.Racing.{RaceLaws, LateLaws, some_pending, bond_unlinked, race_held, race_answered}

no_comes : {B : Type 0} (x : Sent) → [] ≡ x ∷ [] → B
no_comes x e = absurd (cc)

-- one submit is pending
pub only_one : (before : List Pending) (x y : Pending) (behind : List Pending) → before ++ x ∷ behind ≡ y ∷ [] → (before ≡ []) × (x ≡ y) × (behind ≡ [])
only_one [] x y behind e = (refl, cc, cc)
only_one (z ∷ []) x y behind e = absurd (cc)
only_one (z ∷ w ∷ before) x y behind e = absurd (cc)

hits : (a : RemoteAct) (since : List LogEntry) (head : SubmitHead) (downs : List Put) (s : State) (e : Endpoint) (before : List Pending) (submit : Pending) (behind : List Pending) → head.ep ≡ 0 → Lines (asked_of (Some head)) [] [] downs s
    → ActAt a since head [] (events_of Control downs) s → queue_of e s ≡ before ++ submit ∷ behind → (events_of Control downs ≡ []) × ActGone since (with_queue e (before ++ behind) s)
hits a since head downs s e before submit behind own lines (ActComes come empty free rest nothing) line = no_comes _ come
hits a since head downs s Control before submit behind own lines (ActPends come empty pends rest nothing) line =
    let one = only_one before submit (arrived head []) behind (sym line ∙ pends) in (
      empty,
      record {
        control = ap (λ (l : List Pending). l ++ behind) one.0 ∙ one.2;
        rest = record { bulk_out = rest.bulk_out; bulk_in = rest.bulk_in; running = rest.running; side = rest.side; out = rest.out; waits = tt; shut = tt };
        nothing = nothing;
      },
    )
hits a since head downs s BulkOut before submit behind own lines (ActPends come empty pends rest nothing) line = some_pending before submit behind s.bulk_out rest.bulk_out line
hits a since head downs s BulkIn before submit behind own lines (ActPends come empty pends rest nothing) line = some_pending before submit behind s.bulk_in rest.bulk_in line
hits a since head downs s InterruptIn before submit behind own lines (ActPends come empty pends rest nothing) line =
    some_pending before submit behind s.interrupt_in (all_answered (asked_of (Some head)) InterruptIn [] downs s lines (other_asked Control InterruptIn head own (λ e. cc))).queue line
hits a since head downs s Control before submit behind own lines (ActDone come given free rest one) line = some_pending before submit behind s.control free line
hits a since head downs s BulkOut before submit behind own lines (ActDone come given free rest one) line = some_pending before submit behind s.bulk_out rest.bulk_out line
hits a since head downs s BulkIn before submit behind own lines (ActDone come given free rest one) line = some_pending before submit behind s.bulk_in rest.bulk_in line
hits a since head downs s InterruptIn before submit behind own lines (ActDone come given free rest one) line =
    some_pending before submit behind s.interrupt_in (all_answered (asked_of (Some head)) InterruptIn [] downs s lines (other_asked Control InterruptIn head own (λ e. cc))).queue line

misses : (a : RemoteAct) (since : List LogEntry) (head : SubmitHead) (events : List Event) (s : State) → ActAt a since head [] events s → Avoids head.seqnum (pending s) → (event : Event) × (events ≡ event ∷ [])
misses a since head events s (ActComes come empty free rest nothing) free_of = no_comes _ come
misses a since head events s (ActPends come empty pends rest nothing) free_of =
    let h : Avoids head.seqnum (arrived head [] ∷ []) = subst (λ (q : List Pending). Avoids head.seqnum q) pends (avoids_queue head.seqnum s free_of Control) in absurd (h.0 refl)
misses a since head events s (ActDone come given free rest one) free_of = (_, given)

unpolled : (a : RemoteAct) (since : List LogEntry) (head : SubmitHead) (events : List Event) (s : State) (before : List Pending) (submit : Pending) (behind : List Pending) → ActAt a since head [] events s → s.control ≡ before ++ submit ∷ behind
    → submit.polled ≡ true → ⊥
unpolled a since head events s before submit behind (ActComes come empty free rest nothing) line polled = no_comes _ come
unpolled a since head events s before submit behind (ActPends come empty pends rest nothing) line polled =
    let one = only_one before submit (arrived head []) behind (sym line ∙ pends) in let e : false ≡ true = sym (ap (λ (x : Pending). x.polled) one.1) ∙ polled in cc
unpolled a since head events s before submit behind (ActDone come given free rest one) line polled = some_pending before submit behind s.control free line

held_stays : (laws : TieLaws) (a : RemoteAct) (since : List LogEntry) (head : SubmitHead) (events : List Event) (s t : State) → ((e : Endpoint) → queue_of e s ≡ []) → acts.Others s t → IsAt rests t → t.control ≡ []
    → ActAt a since head [] events s → ActAt a since head [] events t
held_stays laws a since head events s t empty logs rests_then free_then (ActComes come none free rest nothing) = no_comes _ come
held_stays laws a since head events s t empty logs rests_then free_then (ActPends come none pends rest nothing) = some_pending [] (arrived head []) [] s.control (empty Control) pends
held_stays laws a since head events s t empty logs rests_then free_then (ActDone come given free rest one) = ActDone come given free_then rests_then (acts.one_goes a since s t logs one)

pub act_race : (laws : TieLaws) (meaning : Meaning) (a : RemoteAct) (since : List LogEntry) (head : SubmitHead) → IsClass head (request_of a)
    → RaceLaws (λ ups downs s. ActAt a since head (sent_to Control ups) (events_of Control downs) s) (λ s. ActGone since s) head Control
act_race laws meaning a since head is = record {
  number = is.number;
  keeps = act_keeps laws meaning a since head is;
  hits = λ downs s e before submit behind lines held line. hits a since head downs s e before submit behind is.number lines held line;
  misses = λ downs s held free. misses a since head (events_of Control downs) s held free;
  unpolled = λ downs s before submit behind lines held line polled. unpolled a since head (events_of Control downs) s before submit behind held line polled;
  gone_rests = λ s gone. gone.rest;
  gone_stays = λ s t move puts step idle gone. record { control = idle.control; rest = idle.rest; nothing = acts.none_goes since s t (acts.others s t move idle.no_answer (laws.logs s t move puts step)) gone.nothing };
  held_rests = λ answer s empty held. quiet_out a since head _ _ s held;
  held_stays = λ answer s t move puts empty step idle held. held_stays laws a since head _ s t empty (acts.others s t move idle.no_answer (laws.logs s t move puts step)) idle.rest idle.control held;
}

pub act_late : (laws : TieLaws) (a : RemoteAct) (since : List LogEntry) → LateLaws (λ s. ActOver a since s)
act_late laws a since = record {
  rests_at = λ s over. over.rest;
  stays = λ s t move puts step idle over. record { control = idle.control; rest = idle.rest; logged = acts.one_goes a since s t (acts.others s t move idle.no_answer (laws.logs s t move puts step)) over.logged };
}

-- ---- the host

pub act_cancelled : (a : RemoteAct) (since : List LogEntry) (head : SubmitHead) (unlink : UnlinkHead) (next : ℕ) (ups : List up.Message) (downs : List Put) (s : State) → unlink.target ≡ head.seqnum → Operating a since head next ups downs s
    → CancelledAct a since head unlink (next + 1) (ups ++ up.Unlink unlink ∷ []) downs s
act_cancelled a since head unlink next ups downs s names o = record {
  asks = o.asks;
  names = names;
  bond = bond_unlinked _ _ (Some head) unlink next ups downs s o.bond (UnlinkComes ups refl o.bond.held);
}

over_at : (a : RemoteAct) (since : List LogEntry) (head : SubmitHead) (coming : List Sent) (event : Event) (events : List Event) (s : State) → ActAt a since head coming (event ∷ events) s → ActOver a since s
over_at a since head coming event events s (ActComes come none free rest nothing) = absurd (cc)
over_at a since head coming event events s (ActPends come none pends rest nothing) = absurd (cc)
over_at a since head coming event events s (ActDone come given free rest one) = record { control = free; rest = rest; logged = one }

pub act_answered : (a : RemoteAct) (since : List LogEntry) (head : SubmitHead) (unlink : UnlinkHead) (next : ℕ) (asked : SubmitHead) (b : RetSubmitHead) (transferred : List ℕ) (ups : List up.Message) (downs : List Put) (s : State)
    → CancelledAct a since head unlink next ups (Submitted asked b transferred ∷ downs) s
    → (asked ≡ head) × (b ≡ record { seqnum = head.seqnum; status = success; actual = 1 }) × (transferred ≡ STATUS_SUCCESS ∷ []) × OneSince a since s.log × LateAct a since unlink next ups downs s
act_answered a since head unlink next asked b transferred ups downs s o =
    let same = same_head _ head asked b transferred (unlink ∷ []) next ups downs s o.bond in
    let own = subst (λ (x : SubmitHead). CancelledAct a since head unlink next ups (Submitted x b transferred ∷ downs) s) same o in
    let held = race_held head Control unlink b transferred next ups downs s own.bond in
    let done = acts.done_at a since head b transferred held.0 held.1 s o.asks.number held.2 in
    let over = over_at a since head _ _ _ s (subst (λ (l : List Event). ActAt a since head (sent_to Control held.0) l s) (own_event Control head b transferred held.1 o.asks.number) held.2) in
    (same, done.0, done.1, done.2, race_answered head unlink b transferred next ups downs s over own.bond)

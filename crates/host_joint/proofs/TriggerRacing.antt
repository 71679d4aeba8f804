-- a trigger ticket whose transfer is unlinked
use Rattle.std.proofs.Common.{◌≡◌, ◌≢◌, ◌∙◌, ◌⊎◌, inl, inr, ℕ, ◌+◌, Bool, true, false, Some, List, [], ◌∷◌, ◌++◌, refl, ap, sym, subst}
use Rattle.usbip_wire.specs.declared.submit.SubmitHead.{SubmitHead}
use Rattle.usbip_wire.specs.declared.unlink.UnlinkHead.{UnlinkHead}
use Rattle.usbip_wire.specs.declared.ret_submit.RetSubmitHead.{RetSubmitHead}
use Rattle.usbip_wire.specs.Up as up
use Rattle.tmc_law.specs.Endpoint.{Endpoint, Control, BulkOut, BulkIn, InterruptIn}
use Rattle.tmc_law.specs.State.{State, Pending, queue_of, with_queue, pending, Avoids, arrived}
use Rattle.tmc_law.specs.Put.{Put, Submitted, success, stalled}
use Rattle.host_joint.specs.Lines.{Sent, Event, Lines, sent_to, events_of}
use Rattle.host_joint.specs.Jobs.{Job}
use Rattle.host_joint.specs.Positions.{IsAt, rests}
use Rattle.host_joint.specs.Tie.{asked_of}
use Rattle.host_joint.specs.Triggers.{IsTrigger, NoTrigger, OneTrigger, TriggerAt, TriggerComes, TriggerPends, TriggerTaken, TriggerShut, Triggering}
use Rattle.host_joint.specs.Races.{UnlinkComes, TriggerOver, CancelledTrigger, LateTrigger}
use Rattle.host_joint.proofs.Queues.{avoids_queue}
use Rattle.host_joint.proofs.Flows.{all_answered}
use Rattle.host_joint.proofs.Tying.{TieLaws}
use Rattle.host_joint.proofs.Writing.{other_asked}
use Rattle.host_joint.proofs.Cancelling.{same_head}
use Rattle.host_joint.proofs.Triggering as fires
use Rattle.host_joint.proofs.TriggerTied.{trigger_keeps, done_at}
use Rattle.host_joint.proofs.Racing.{RaceLaws, LateLaws, some_pending, bond_unlinked, race_held, race_answered}
use Rattle.host_joint.proofs.ActRacing.{only_one}

no_comes : {B : Type 0} (x : Sent) → [] ≡ x ∷ [] → B
no_comes x e = absurd (cc)

-- nothing is pending elsewhere
elsewhere : {B : Type 0} (job : Job) (downs : List Put) (s : State) (e : Endpoint) (before : List Pending) (submit : Pending) (behind : List Pending) → job.head.ep ≡ 1 → Lines (asked_of (Some job.head)) [] [] downs s → e ≢ BulkOut
    → queue_of e s ≡ before ++ submit ∷ behind → B
elsewhere job downs s e before submit behind own lines other line =
    some_pending before submit behind (queue_of e s) (all_answered (asked_of (Some job.head)) e [] downs s lines (other_asked BulkOut e job.head own other)).queue line

hits : (job : Job) (downs : List Put) (s : State) (e : Endpoint) (before : List Pending) (submit : Pending) (behind : List Pending) → job.head.ep ≡ 1 → Lines (asked_of (Some job.head)) [] [] downs s
    → TriggerAt job [] (events_of BulkOut downs) s → queue_of e s ≡ before ++ submit ∷ behind → (events_of BulkOut downs ≡ []) × TriggerOver false job.head.seqnum (with_queue e (before ++ behind) s)
hits job downs s Control before submit behind own lines at line = elsewhere job downs s Control before submit behind own lines (λ e. cc) line
hits job downs s BulkIn before submit behind own lines at line = elsewhere job downs s BulkIn before submit behind own lines (λ e. cc) line
hits job downs s InterruptIn before submit behind own lines at line = elsewhere job downs s InterruptIn before submit behind own lines (λ e. cc) line
hits job downs s BulkOut before submit behind own lines (TriggerComes come none rest nothing) line = no_comes _ come
hits job downs s BulkOut before submit behind own lines (TriggerPends come none pends rest nothing) line =
    let one = only_one before submit (arrived job.head job.bytes) behind (sym line ∙ pends) in (
      none,
      record {
        rest = record { bulk_out = ap (λ (l : List Pending). l ++ behind) one.0 ∙ one.2; bulk_in = rest.bulk_in; running = rest.running; side = rest.side; out = rest.out; waits = tt; shut = tt };
        logged = nothing;
      },
    )
hits job downs s BulkOut before submit behind own lines (TriggerTaken come one rest triggered) line = some_pending before submit behind s.bulk_out rest.bulk_out line
hits job downs s BulkOut before submit behind own lines (TriggerShut come one shuts rest nothing) line = some_pending before submit behind s.bulk_out rest.bulk_out line

misses : (job : Job) (events : List Event) (s : State) → TriggerAt job [] events s → Avoids job.head.seqnum (pending s) → (event : Event) × (events ≡ event ∷ [])
misses job events s (TriggerComes come none rest nothing) free = no_comes _ come
misses job events s (TriggerPends come none pends rest nothing) free =
    let h : Avoids job.head.seqnum (arrived job.head job.bytes ∷ []) = subst (λ (q : List Pending). Avoids job.head.seqnum q) pends (avoids_queue job.head.seqnum s free BulkOut) in absurd (h.0 refl)
misses job events s (TriggerTaken come one rest triggered) free = (_, one)
misses job events s (TriggerShut come one shuts rest nothing) free = (_, one)

held_rests : (job : Job) (events : List Event) (s : State) → ((e : Endpoint) → queue_of e s ≡ []) → TriggerAt job [] events s → IsAt rests s
held_rests job events s empty (TriggerComes come none rest nothing) = rest
held_rests job events s empty (TriggerPends come none pends rest nothing) = some_pending [] (arrived job.head job.bytes) [] s.bulk_out (empty BulkOut) pends
held_rests job events s empty (TriggerTaken come one rest triggered) = rest
held_rests job events s empty (TriggerShut come one shuts rest nothing) = rest

held_stays : (job : Job) (events : List Event) (s t : State) → ((e : Endpoint) → queue_of e s ≡ []) → fires.Others job.head.seqnum s t → IsAt rests t → (s.halted.bulk_out ≡ true → t.halted.bulk_out ≡ true)
    → TriggerAt job [] events s → TriggerAt job [] events t
held_stays job events s t empty logs rests_then shut_then (TriggerComes come none rest nothing) = no_comes _ come
held_stays job events s t empty logs rests_then shut_then (TriggerPends come none pends rest nothing) = some_pending [] (arrived job.head job.bytes) [] s.bulk_out (empty BulkOut) pends
held_stays job events s t empty logs rests_then shut_then (TriggerTaken come one rest triggered) = TriggerTaken come one rests_then (fires.one_goes job.head.seqnum s t logs triggered)
held_stays job events s t empty logs rests_then shut_then (TriggerShut come one shuts rest nothing) = TriggerShut come one (shut_then shuts) rests_then (fires.none_goes job.head.seqnum s t logs nothing)

pub trigger_race : (laws : TieLaws) (job : Job) → IsTrigger job
    → RaceLaws (λ ups downs s. TriggerAt job (sent_to BulkOut ups) (events_of BulkOut downs) s) (λ s. TriggerOver false job.head.seqnum s) job.head BulkOut
trigger_race laws job is = record {
  number = is.transfer.number;
  keeps = trigger_keeps laws job is;
  hits = λ downs s e before submit behind lines held line. hits job downs s e before submit behind is.transfer.number lines held line;
  misses = λ downs s held free. misses job (events_of BulkOut downs) s held free;
  unpolled = λ downs s before submit behind lines held line polled. elsewhere job downs s Control before submit behind is.transfer.number lines (λ e. cc) line;
  gone_rests = λ s gone. gone.rest;
  gone_stays = λ s t move puts step idle gone. record { rest = idle.rest; logged = fires.none_goes job.head.seqnum s t (fires.others job.head.seqnum s t move idle.no_take (laws.logs s t move puts step)) gone.logged };
  held_rests = λ answer s empty held. held_rests job _ s empty held;
  held_stays = λ answer s t move puts empty step idle held. held_stays job _ s t empty (fires.others job.head.seqnum s t move idle.no_take (laws.logs s t move puts step)) idle.rest idle.shut held;
}

pub trigger_late : (laws : TieLaws) (counted : Bool) (n : ℕ) → LateLaws (λ s. TriggerOver counted n s)
trigger_late laws true n = record {
  rests_at = λ s over. over.rest;
  stays = λ s t move puts step idle over. record { rest = idle.rest; logged = fires.one_goes n s t (fires.others n s t move idle.no_take (laws.logs s t move puts step)) over.logged };
}
trigger_late laws false n = record {
  rests_at = λ s over. over.rest;
  stays = λ s t move puts step idle over. record { rest = idle.rest; logged = fires.none_goes n s t (fires.others n s t move idle.no_take (laws.logs s t move puts step)) over.logged };
}

-- ---- the host

pub trigger_cancelled : (job : Job) (unlink : UnlinkHead) (next : ℕ) (ups : List up.Message) (downs : List Put) (s : State) → unlink.target ≡ job.head.seqnum → Triggering job next ups downs s
    → CancelledTrigger job unlink (next + 1) (ups ++ up.Unlink unlink ∷ []) downs s
trigger_cancelled job unlink next ups downs s names o = record {
  trigger = o.trigger;
  names = names;
  bond = bond_unlinked _ _ (Some job.head) unlink next ups downs s o.bond (UnlinkComes ups refl o.bond.held);
}

pub trigger_answered : (job : Job) (unlink : UnlinkHead) (next : ℕ) (asked : SubmitHead) (a : RetSubmitHead) (transferred : List ℕ) (ups : List up.Message) (downs : List Put) (s : State)
    → CancelledTrigger job unlink next ups (Submitted asked a transferred ∷ downs) s
    → (asked ≡ job.head) × (a.seqnum ≡ job.head.seqnum)
    × (((a.status ≡ success) × (a.actual ≡ job.head.length) × LateTrigger true job.head.seqnum unlink next ups downs s)
    ⊎ ((a.status ≡ stalled) × (s.halted.bulk_out ≡ true) × LateTrigger false job.head.seqnum unlink next ups downs s))
trigger_answered job unlink next asked a transferred ups downs s o =
    let same = same_head _ job.head asked a transferred (unlink ∷ []) next ups downs s o.bond in
    let own = subst (λ (x : SubmitHead). CancelledTrigger job unlink next ups (Submitted x a transferred ∷ downs) s) same o in
    let held = race_held job.head BulkOut unlink a transferred next ups downs s own.bond in
    let done = done_at job a transferred held.0 held.1 s o.trigger.transfer.number held.2 in
    (same, done.0, by own done.2 done.1)
  where
    by : (own : CancelledTrigger job unlink next ups (Submitted job.head a transferred ∷ downs) s) → IsAt rests s
        → ((a.status ≡ success) × (a.actual ≡ job.head.length) × OneTrigger job.head.seqnum s.log) ⊎ ((a.status ≡ stalled) × (s.halted.bulk_out ≡ true) × NoTrigger job.head.seqnum s.log)
        → ((a.status ≡ success) × (a.actual ≡ job.head.length) × LateTrigger true job.head.seqnum unlink next ups downs s)
        ⊎ ((a.status ≡ stalled) × (s.halted.bulk_out ≡ true) × LateTrigger false job.head.seqnum unlink next ups downs s)
    by own rest (inl h) = inl (h.0, h.1, race_answered job.head unlink a transferred next ups downs s (record { rest = rest; logged = h.2 }) own.bond)
    by own rest (inr h) = inr (h.0, h.1, race_answered job.head unlink a transferred next ups downs s (record { rest = rest; logged = h.2 }) own.bond)

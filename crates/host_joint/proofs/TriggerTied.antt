-- a host whose trigger is not answered is tied to a lawful device
use Rattle.std.proofs.Common.{◌≡◌, ◌∙◌, ◌⊎◌, inl, inr, ℕ, ◌+◌, true, Some, None, List, [], ◌∷◌, ◌++◌, refl, ap, sym, subst}
use Rattle.std.proofs.lemmas.Bool.{eq-eqb}
use Rattle.usbip_wire.specs.declared.submit.SubmitHead.{SubmitHead}
use Rattle.usbip_wire.specs.declared.ret_submit.RetSubmitHead.{RetSubmitHead}
use Rattle.usbip_wire.specs.Up as up
use Rattle.tmc_law.specs.Endpoint.{Control, BulkOut, BulkIn, InterruptIn}
use Rattle.tmc_law.specs.State.{State}
use Rattle.tmc_law.specs.Put.{Put, Submitted, success, stalled}
use Rattle.tmc_law.specs.Run.{Entry, Runs, taken, inputs, outputs}
use Rattle.host_joint.specs.Lines.{Sent, sent_to, events_of, Lines}
use Rattle.host_joint.specs.Jobs.{Job}
use Rattle.host_joint.specs.Asking.{StaysPlugged}
use Rattle.host_joint.specs.Positions.{IsAt, rests}
use Rattle.host_joint.specs.Tie.{asked_of}
use Rattle.host_joint.specs.Bond.{Bond, Bound, Holds, Stands, Resting}
use Rattle.host_joint.specs.Triggers.{IsTrigger, NoTrigger, OneTrigger, TriggerAt, TriggerComes, TriggerPends, TriggerTaken, TriggerShut, Triggering, Triggered}
use Rattle.host_joint.proofs.Hosting.{own_event}
use Rattle.host_joint.proofs.Sending.{sent-append}
use Rattle.host_joint.proofs.Tying.{TieLaws}
use Rattle.host_joint.proofs.Bonding.{Keeps, bond_run, none_linked, empty_at}
use Rattle.host_joint.proofs.Cancelling.{empty, after, same_head}
use Rattle.host_joint.proofs.Recovering.{write_bytes, no_event, one_event}
use Rattle.host_joint.proofs.Writing.{other_asked}
use Rattle.host_joint.proofs.Joining.{IsKept, Never, plugged-append, plugged_front, rising_asked, apart_asked, few_total}
use Rattle.host_joint.proofs.Triggering.{Alone, trigger_goes, unused}

pub alone : (head : SubmitHead) (ups : List up.Message) (downs : List Put) (s : State) → head.ep ≡ 1 → Lines (asked_of (Some head)) [] ups downs s → Alone ups s
alone head ups downs s own lines =
    let control = empty_at (asked_of (Some head)) ups downs s Control lines (other_asked BulkOut Control head own (λ e. cc)) in
    let ins = empty_at (asked_of (Some head)) ups downs s BulkIn lines (other_asked BulkOut BulkIn head own (λ e. cc)) in
    let interrupts = empty_at (asked_of (Some head)) ups downs s InterruptIn lines (other_asked BulkOut InterruptIn head own (λ e. cc)) in
    record { controls = control.sent; ins = ins.sent; interrupts = interrupts.sent; unlinks = none_linked (asked_of (Some head)) ups downs s lines; control = control.queue; interrupt_in = interrupts.queue }

pub trigger_keeps : (laws : TieLaws) (job : Job) → IsTrigger job → Keeps (λ ups downs s. TriggerAt job (sent_to BulkOut ups) (events_of BulkOut downs) s) (asked_of (Some job.head)) []
trigger_keeps laws job is run s t move ups downs puts reached step plugged fit order lines at =
    trigger_goes laws.ask.one_header job downs puts ups s t move is (alone job.head (taken move ++ ups) downs s is.transfer.number lines) fit plugged step.leads (laws.logs s t move puts step) at

pub trigger_run : (laws : TieLaws) (job : Job) (run : List Entry) (next : ℕ) (ups : List up.Message) (downs : List Put) (s t : State) → Runs s run t → StaysPlugged run → Triggering job next (inputs run ++ ups) downs s
    → Triggering job next ups (downs ++ outputs run) t
trigger_run laws job run next ups downs s t goes plugged o =
    record { trigger = o.trigger; bond = bond_run laws _ (asked_of (Some job.head)) [] (trigger_keeps laws job o.trigger) run next ups downs s t goes plugged o.bond }

coming : (head : SubmitHead) (bytes : List ℕ) (ups : List up.Message) → head.ep ≡ 1 → sent_to BulkOut ups ≡ [] → sent_to BulkOut (ups ++ up.Submit head bytes ∷ []) ≡ record { head = head; transferred = bytes } ∷ []
coming head bytes ups is none =
    let one : sent_to BulkOut (up.Submit head bytes ∷ []) ≡ record { head = head; transferred = bytes } ∷ [] = rw (eq-eqb head.ep 1 is) refl in
    sent-append BulkOut ups (up.Submit head bytes ∷ []) ∙ ap (λ (l : List Sent). l ++ sent_to BulkOut (up.Submit head bytes ∷ [])) none ∙ one

pub trigger_begins : (job : Job) (next : ℕ) (ups : List up.Message) (downs : List Put) (s : State) → IsTrigger job → job.head.seqnum ≡ next → Bound (Stands Resting) None [] next ups downs s
    → Triggering job (next + 1) (ups ++ up.Submit job.head job.bytes ∷ []) downs s
trigger_begins job next ups downs s is number bound =
    let line = empty _ next ups downs s BulkOut bound.bond in
    record {
      trigger = is;
      bond = write_bytes (Holds (Stands Resting)) (λ ups downs t. TriggerAt job (sent_to BulkOut ups) (events_of BulkOut downs) t) job.head job.bytes next ups downs s BulkOut
          (record { endpoint = BulkOut; number = is.transfer.number; way = is.transfer.way }) is.transfer.number number bound.bond
          (TriggerComes (coming job.head job.bytes ups is.transfer.number line.sent) line.events bound.bond.held (subst (λ (n : ℕ). NoTrigger n s.log) (sym number) (unused next s.log _ bound.bond.below)));
    }

pub done_at : (job : Job) (a : RetSubmitHead) (transferred : List ℕ) (ups : List up.Message) (downs : List Put) (s : State) → job.head.ep ≡ 1 → TriggerAt job (sent_to BulkOut ups) (events_of BulkOut (Submitted job.head a transferred ∷ downs)) s
    → (a.seqnum ≡ job.head.seqnum) × (((a.status ≡ success) × (a.actual ≡ job.head.length) × OneTrigger job.head.seqnum s.log) ⊎ ((a.status ≡ stalled) × (s.halted.bulk_out ≡ true) × NoTrigger job.head.seqnum s.log)) × IsAt rests s
done_at job a transferred ups downs s own (TriggerComes come none rest nothing) = no_event _ _ (sym (own_event BulkOut job.head a transferred downs own) ∙ none)
done_at job a transferred ups downs s own (TriggerPends come none pends rest nothing) = no_event _ _ (sym (own_event BulkOut job.head a transferred downs own) ∙ none)
done_at job a transferred ups downs s own (TriggerTaken come one rest triggered) =
    let same = (one_event job.head job.head a _ transferred [] _ (sym (own_event BulkOut job.head a transferred downs own) ∙ one)).0 in
    (ap (λ (r : RetSubmitHead). r.seqnum) same, inl (ap (λ (r : RetSubmitHead). r.status) same, ap (λ (r : RetSubmitHead). r.actual) same, triggered), rest)
done_at job a transferred ups downs s own (TriggerShut come one shuts rest nothing) =
    let same = (one_event job.head job.head a _ transferred [] _ (sym (own_event BulkOut job.head a transferred downs own) ∙ one)).0 in
    (ap (λ (r : RetSubmitHead). r.seqnum) same, inr (ap (λ (r : RetSubmitHead). r.status) same, shuts, nothing), rest)

pub trigger_answered : (job : Job) (next : ℕ) (asked : SubmitHead) (a : RetSubmitHead) (transferred : List ℕ) (ups : List up.Message) (downs : List Put) (s : State) → Triggering job next ups (Submitted asked a transferred ∷ downs) s
    → (asked ≡ job.head) × (a.seqnum ≡ job.head.seqnum) × Triggered job a next ups downs s
trigger_answered job next asked a transferred ups downs s o =
    let same = same_head _ job.head asked a transferred [] next ups downs s o.bond in
    let own : Bond (λ ups downs s. TriggerAt job (sent_to BulkOut ups) (events_of BulkOut downs) s) (asked_of (Some job.head)) [] next ups (Submitted job.head a transferred ∷ downs) s =
    subst (λ (x : SubmitHead). Bond (λ ups downs s. TriggerAt job (sent_to BulkOut ups) (events_of BulkOut downs) s) (asked_of (Some job.head)) [] next ups (Submitted x a transferred ∷ downs) s) same o.bond in
    let over = done_at job a transferred ups downs s o.trigger.transfer.number own.held in
    (same, over.0, (over.1, record { bond = after _ (Holds (Stands Resting)) job.head a transferred [] next ups downs s own over.2; awaited = (refl, refl) }))

pub trigger_kept : (laws : TieLaws) → Never → (job : Job) (next : ℕ) → IsKept StaysPlugged (λ ups downs t. Triggering job next ups downs t)
trigger_kept laws never job next = record {
  kind = record { more = plugged-append; front = plugged_front };
  goes = λ run ups downs s t goes plugged o. trigger_run laws job run next ups downs s t goes plugged o;
  taken = λ x transferred ups downs s f o over.
      never (asked_of (Some job.head)) [] x transferred ups downs s f o.bond.fitting.0 (record { rising = rising_asked (Some job.head); apart = apart_asked (Some job.head) }) (few_total (Some job.head)) o.bond.lines over;
}

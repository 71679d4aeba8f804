-- an ask in hand stays one under each move
use Rattle.std.proofs.Common.{◌≡◌, ◌∙◌, inl, inr, ℕ, ◌+◌, Bool, true, false, eqb, ℤ, List, [], ◌∷◌, ◌++◌, length, take, map, None, refl, ap, sym, subst, append_assoc, append-nil, length-append, arith}
use Rattle.std.proofs.lemmas.Bool.{eq-eqb}
use Rattle.usbip_wire.specs.declared.submit.SubmitHead.{SubmitHead}
use Rattle.usbip_wire.specs.declared.unlink.UnlinkHead.{UnlinkHead}
use Rattle.usbip_wire.specs.declared.ret_submit.RetSubmitHead.{RetSubmitHead}
use Rattle.usbip_wire.specs.Up as up
use Rattle.instr_plain.specs.Log.{Stands}
use Rattle.tmc_law.specs.Endpoint.{Endpoint, Control, BulkOut, BulkIn, InterruptIn, number_of}
use Rattle.tmc_law.specs.State.{State, Pending, Piece, Idle, Sending, Nothing, AbortsIn, arrived, queue_of, is_halted}
use Rattle.tmc_law.specs.Put.{Put, Submitted, answer_of, ended, success, stalled, returned, unlink_answer}
use Rattle.tmc_law.specs.Halts.{all_ended, halts, HaltsItself, DoesHalt}
use Rattle.tmc_law.specs.Queues.{Arrives, Queued, TurnedAway, IsTaken, Unlinks, Hits, Polled, Misses}
use Rattle.tmc_law.specs.BulkOut as out
use Rattle.tmc_law.specs.BulkOut.{TakesEffect, Interrupts, message_most}
use Rattle.tmc_law.specs.BulkIn as «in»
use Rattle.tmc_law.specs.BulkIn.{Fills, Begins, given}
use Rattle.tmc_law.specs.Class as class
use Rattle.tmc_law.specs.Status as status
use Rattle.tmc_law.specs.Step.{Move, Comes, Refuses, Take, Exec, Begin, Fill, Answer, Pend, Poll, Notify, Halt, Unplug, Leads}
use Rattle.tmc_law.specs.Run.{taken}
use Rattle.tmc_law.specs.Acts.{FitsAt}
use Rattle.tmc_law.specs.Reached.{AllFit}
use Rattle.host_joint.proofs.Queues.{IsSound}
use Rattle.host_joint.proofs.Parts.{ask_of}
use Rattle.host_joint.specs.Lines.{Sent, sent_to, Event, Gives, Drops, events_of, unlinks_in, Fitting, AllFitting}
use Rattle.host_joint.specs.Jobs.{Job, IsJob, AllJobs, partly, OutLine, Shut}
use Rattle.host_joint.specs.Reads as reads
use Rattle.host_joint.specs.Reads.{IsRead, Flow, Still, Giving, Over, InLine, gives}
use Rattle.host_joint.specs.Stage.{Stage}
use Rattle.host_joint.specs.Asking.{SentReads, AllTaken, Calm, Asking, HitsLast, IsSafe}
use Rattle.host_joint.proofs.Taking.{OneHeader, Took, GoesOn, Ends, take_goes, job_comes, job_turned, job_hit, LeftOf, Same, Shorter}
use Rattle.host_joint.proofs.Filling as filling
use Rattle.host_joint.proofs.Filling.{Filled, OnlyReads, fill_goes, read_comes, read_turned, torn, in_halts, read_hit}
use Rattle.host_joint.proofs.Staging.{stage_same, stage_executes, stage_begins, stage_sends, stage_gives, stage_ends, may_begin, stage_takes, stage_shorter, stage_shuts, stage_tears}
use Rattle.host_joint.proofs.Rebuilding.{other_event, other_ended, Effect, effect_is, effect_logs, effect_own, effect_sides, stage_is, Parts, rebuild, is_effect, calm_of, no_ins, same_parts, alone}

-- ---- packets are taken

-- answers that are no more taken submits
all_more : (shut : Bool) (came : ℕ) (a b : List Event) → AllTaken shut came a → AllTaken shut 0 b → AllTaken shut came (a ++ b)
all_more shut came [] b h k = subst (λ (n : ℕ). AllTaken shut n b) (sym h) k
all_more shut came (Gives head answer transferred ∷ a) b (inl h) k = inl (h.0, h.1, h.2, h.3, all_more shut h.2 a b h.4 k)
all_more shut came (Gives head answer transferred ∷ a) b (inr h) k = inr (h.0, h.1, h.2, all_more shut 0 a b h.3 k)
all_more shut came (Drops n ∷ a) b h k = all_more shut came a b h k

-- one more, where Bulk-OUT is not halted
one_more : (shut : Bool) (came : ℕ) (a : List Event) (head : SubmitHead) (answer : RetSubmitHead) (transferred : List ℕ) → shut ≡ false → answer.status ≡ success → answer.actual ≡ head.length
    → AllTaken shut came a → AllTaken shut (came + 1) (a ++ Gives head answer transferred ∷ [])
one_more shut came [] head answer transferred usable ok all h = inl (ok, all, 0, omega (arith, h), refl)
one_more shut came (Gives x y z ∷ a) head answer transferred usable ok all (inl h) =
    inl (h.0, h.1, h.2 + 1, omega (arith, h.3), one_more shut h.2 a head answer transferred usable ok all h.4)
one_more shut came (Gives x y z ∷ a) head answer transferred usable ok all (inr h) = let e : false ≡ true = sym usable ∙ h.1 in absurd (cc)
one_more shut came (Drops n ∷ a) head answer transferred usable ok all h = one_more shut came a head answer transferred usable ok all h

more_parts : (written past todo hit : List Job) (answered : ℕ) (shut gone : Bool) (a b : List Event) → AllTaken shut 0 b → written ≡ past ++ (todo ++ hit) → (came : ℕ) → AllTaken shut came a
    → length past ≡ answered + came → (gone ≡ false → shut ≡ false → hit ≡ []) → Parts written past todo hit answered shut gone (a ++ b)
more_parts written past todo hit answered shut gone a b none whole came taken counted missed = record { whole = whole; missed = missed; came = came; taken = all_more shut came a b taken none; counted = counted }

-- a transfer was taken
next_parts : (written past todo rest hit : List Job) (job : Job) (answered : ℕ) (shut gone : Bool) (a : List Event) (head : SubmitHead) (answer : RetSubmitHead) (transferred : List ℕ) → shut ≡ false
    → answer.status ≡ success → answer.actual ≡ head.length → todo ≡ job ∷ rest → written ≡ past ++ (todo ++ hit) → (came : ℕ) → AllTaken shut came a → length past ≡ answered + came → (gone ≡ false → shut ≡ false → hit ≡ [])
    → Parts written (past ++ job ∷ []) rest hit answered shut gone (a ++ Gives head answer transferred ∷ [])
next_parts written past todo rest hit job answered shut gone a head answer transferred usable ok all first whole came taken counted missed = record {
  missed = missed;
  whole = whole ∙ ap (λ (l : List Job). past ++ (l ++ hit)) first ∙ sym (append_assoc past (job ∷ []) (rest ++ hit));
  came = came + 1;
  taken = one_more shut came a head answer transferred usable ok all taken;
  counted = length-append past (job ∷ []) ∙ omega (arith, counted);
}

job_event : (job : Job) → IsJob job → events_of BulkOut (ended success (partly job job.bytes []) ∷ [])
    ≡ Gives job.head (record { seqnum = job.head.seqnum; status = success; actual = length job.bytes }) (returned job.head.dir job.bytes) ∷ []
job_event job is = rw (eq-eqb job.head.ep 1 is.number) refl

takes : (last : ℕ) (message : List ℕ) (tag size : ℕ) (written : List Job) (answered : ℕ) (sofar read : List ℕ) (gone : Bool) (ups : List up.Message) (downs puts : List Put) (s t : State) (free : s.waiting ≡ None) → s.halted.bulk_out ≡ false
    → (a : Asking (ask_of last message tag size written answered sofar read gone) ups downs s) → Took gone a.todo (sent_to BulkOut ups) s puts t → Asking (ask_of last message tag size written answered sofar read gone) ups (downs ++ puts) t
takes last message tag size written answered sofar read gone ups downs puts s t free usable a (GoesOn queue transfer none to line) =
    let w : State = record s { bulk_out = queue; transfer = transfer } in
    rebuild last message tag size written answered sofar read gone ups downs puts w t (is_effect w t to) (calm_of gone ups s w refl refl a.calm) a.past a.todo a.hit a.flow a.short a.jobs
    (subst (λ (b : Bool). OutLine b gone a.todo (sent_to BulkOut ups) queue transfer) (sym usable) line)
    (subst (λ (x : State). Stage last message tag size a.past a.todo sofar a.flow x) (sym to)
    (stage_same last message tag size a.past a.todo sofar a.flow s w (record { waiting = refl; part = refl; side = refl; log = refl; unread = refl; shut = refl; in_shut = refl }) a.stage))
    (subst (λ (l : List Event). InLine s.halted.bulk_in gone a.flow read l (sent_to BulkIn ups) s.bulk_in) (sym (no_ins downs puts (ap (λ (p : List Put). events_of BulkIn p) none))) a.ins) a.reads
    (same_parts _ _ _ _ _ _ _ (events_of BulkOut downs) (events_of BulkOut puts) (ap (λ (p : List Put). events_of BulkOut p) none) a.whole a.came a.taken a.counted a.missed)
takes last message tag size written answered sofar read gone ups downs puts s t free usable a (Ends job rest queue first line effect put) =
    let is : AllJobs (job ∷ rest) = subst (λ (l : List Job). AllJobs l) first a.jobs in
    let w : State = record s { bulk_out = queue; transfer = None } in
    rebuild last message tag size written answered sofar read gone ups downs puts w t (effect_sides _ _ w t effect) (calm_of gone ups s w refl refl a.calm) (a.past ++ job ∷ []) rest a.hit a.flow a.short is.1
    (subst (λ (b : Bool). OutLine b gone rest (sent_to BulkOut ups) queue None) (sym usable) line)
    (stage_takes last message tag size a.past a.todo sofar a.flow s t job rest queue a.jobs free first effect a.stage)
    (subst (λ (l : List Event). InLine s.halted.bulk_in gone a.flow read l (sent_to BulkIn ups) s.bulk_in)
    (sym (no_ins downs puts (ap (λ (p : List Put). events_of BulkIn p) put ∙ other_event BulkIn job.head _ _ [] 1 is.0.number refl))) a.ins) a.reads
    (subst (λ (l : List Event). Parts written (a.past ++ job ∷ []) rest a.hit answered s.halted.bulk_out gone (events_of BulkOut downs ++ l)) (sym (ap (λ (p : List Put). events_of BulkOut p) put ∙ job_event job is.0))
    (next_parts written a.past a.todo rest a.hit job answered s.halted.bulk_out gone (events_of BulkOut downs) _ _ _ usable refl (sym is.0.sized) first a.whole a.came a.taken a.counted a.missed))

-- ---- execution, and pieces

executes : (last : ℕ) (message : List ℕ) (tag size : ℕ) (written : List Job) (answered : ℕ) (sofar read : List ℕ) (gone : Bool) (ups : List up.Message) (downs puts : List Put) (s t : State) → Stands s.log s.standing → puts ≡ []
    → out.Executes s t → Asking (ask_of last message tag size written answered sofar read gone) ups downs s → Asking (ask_of last message tag size written answered sofar read gone) ups (downs ++ puts) t
executes last message tag size written answered sofar read gone ups downs puts s t stands none goes a =
    let w : State = record s { waiting = None } in
    rebuild last message tag size written answered sofar read gone ups downs puts w t (logged goes) (calm_of gone ups s w refl refl a.calm) a.past a.todo a.hit a.flow a.short a.jobs a.out
    (stage_executes last message tag size a.past a.todo sofar a.flow s t stands goes a.stage)
    (subst (λ (l : List Event). InLine s.halted.bulk_in gone a.flow read l (sent_to BulkIn ups) s.bulk_in) (sym (no_ins downs puts (ap (λ (p : List Put). events_of BulkIn p) none))) a.ins) a.reads
    (same_parts _ _ _ _ _ _ _ (events_of BulkOut downs) (events_of BulkOut puts) (ap (λ (p : List Put). events_of BulkOut p) none) a.whole a.came a.taken a.counted a.missed)
  where
    logged : out.Executes s t → Effect (record s { waiting = None }) t
    logged (out.DoesExecute seq words waits logs) = effect_logs _ (record s { waiting = None }) (record s { waiting = None }) t (effect_own (record s { waiting = None })) logs

-- where no piece was begun, nothing was given
begins_line : (shut gone : Bool) (read : List ℕ) (events : List Event) (coming : List Sent) (queue : List Pending) → InLine shut gone Still read events coming queue
    → InLine shut gone (Giving []) read events coming queue
begins_line shut gone read events coming queue (reads.Unread heads unshut still none come is are) =
    reads.Between [] [] heads unshut refl tt (sym none ∙ sym (append-nil read)) come is are
begins_line shut gone read events coming queue (reads.Between bytes full heads unshut flow are whole come is rs) = absurd (cc)
begins_line shut gone read events coming queue (reads.Inside bytes moved packets full first heads unshut flow are whole come counted space is rs) = absurd (cc)
begins_line shut gone read events coming queue (reads.Behind bytes full short heads unshut flow are small whole come is rs) = absurd (cc)
begins_line shut gone read events coming queue (reads.Lost bytes lost full was unshut flow are whole come none is) = absurd (cc)
begins_line shut gone read events coming queue (reads.Closed front rest shuts come infront halted is) = reads.Closed front rest shuts come (by infront) halted is
  where
    by : reads.InFront Still read front → reads.InFront (Giving []) read front
    by (reads.NoneOf still none empty) = reads.Front [] [] [] (reads.Gave refl) tt (sym none ∙ sym (append-nil read)) empty
    by (reads.Front bytes lost full (reads.Gave gave) are whole come) = absurd (cc)
    by (reads.Front bytes lost full (reads.Tore tore) are whole come) = absurd (cc)
    by (reads.Whole bytes full short over are small whole come) = absurd (cc)

begins : (last : ℕ) (message : List ℕ) (tag size : ℕ) (written : List Job) (answered : ℕ) (sofar read : List ℕ) (gone : Bool) (ups : List up.Message) (downs puts : List Put) (s t : State) (count : ℕ) → puts ≡ []
    → Begins s count t → Asking (ask_of last message tag size written answered sofar read gone) ups downs s → Asking (ask_of last message tag size written answered sofar read gone) ups (downs ++ puts) t
begins last message tag size written answered sofar read gone ups downs puts s t count none goes a =
    let stage = stage_begins last message tag size a.past a.todo sofar a.flow s t count goes a.stage in
    rebuild last message tag size written answered sofar read gone ups downs puts s t (logged goes) a.calm a.past a.todo a.hit (Giving []) a.short a.jobs a.out stage.1
    (begins_line s.halted.bulk_in gone read _ _ _ (subst (λ (f : Flow). InLine s.halted.bulk_in gone f read (gives (events_of BulkIn downs) ++ gives (events_of BulkIn puts)) (sent_to BulkIn ups) s.bulk_in) stage.0
    (subst (λ (l : List Event). InLine s.halted.bulk_in gone a.flow read l (sent_to BulkIn ups) s.bulk_in) (sym (no_ins downs puts (ap (λ (p : List Put). events_of BulkIn p) none))) a.ins))) a.reads
    (same_parts _ _ _ _ _ _ _ (events_of BulkOut downs) (events_of BulkOut puts) (ap (λ (p : List Put). events_of BulkOut p) none) a.whole a.came a.taken a.counted a.missed)
  where
    logged : Begins s count t → Effect s t
    logged («in».DoesBegin g n owes free low high logs) =
        effect_logs _ s _ t (record { bulk_out = refl; bulk_in = refl; transfer = refl; control = refl; running = refl; out_halted = refl; in_halted = refl }) logs

-- only a piece is given, where no abort runs
pub fills_side : (s t : State) (count : ℕ) (puts : List Put) → s.running ≡ Nothing → Fills s count puts t → (piece : Piece) × (s.side ≡ Sending piece)
fills_side s t count puts rests («in».Ends submit behind n line wants one put to) = let e : Nothing ≡ AbortsIn true n = sym rests ∙ wants in absurd (cc)
fills_side s t count puts rests («in».Inside submit behind piece line side free low within fits put to) = (piece, side)
fills_side s t count puts rests («in».Full submit behind piece line side free low within fits put to) = (piece, side)
fills_side s t count puts rests («in».Short submit behind piece n line side free counts leaves within less fits put to) = (piece, side)
fills_side s t count puts rests («in».Overflows submit behind piece n line side free counts leaves within over put to) = (piece, side)

filled : (last : ℕ) (message : List ℕ) (tag size : ℕ) (written : List Job) (answered : ℕ) (sofar read : List ℕ) (gone : Bool) (bytes : List ℕ) (ups : List up.Message) (downs puts : List Put) (s t : State) (piece : Piece) → s.side ≡ Sending piece → s.halted.bulk_in ≡ false
    → (a : Asking (ask_of last message tag size written answered sofar read gone) ups downs s) → a.flow ≡ Giving bytes → Filled gone bytes piece read (gives (events_of BulkIn downs)) (sent_to BulkIn ups) s puts t → Asking (ask_of last message tag size written answered sofar read gone) ups (downs ++ puts) t
filled last message tag size written answered sofar read gone bytes ups downs puts s t piece side usable a flow (filling.GoesOn queue n to only line) =
    let w : State = record s { bulk_in = queue; side = Sending (given n piece) } in
    rebuild last message tag size written answered sofar read gone ups downs puts w t (is_effect w t to) (calm_of gone ups s w refl refl a.calm) a.past a.todo a.hit (Giving (bytes ++ take n piece.left)) a.short a.jobs a.out
    (stage_gives last message tag size a.past a.todo sofar bytes s t piece queue n side to (subst (λ (f : Flow). Stage last message tag size a.past a.todo sofar f s) flow a.stage))
    (subst (λ (b : Bool). InLine b gone (Giving (bytes ++ take n piece.left)) read (gives (events_of BulkIn downs) ++ gives (events_of BulkIn puts)) (sent_to BulkIn ups) queue) (sym usable) line) a.reads
    (same_parts _ _ _ _ _ _ _ (events_of BulkOut downs) (events_of BulkOut puts) (only BulkOut refl) a.whole a.came a.taken a.counted a.missed)
filled last message tag size written answered sofar read gone bytes ups downs puts s t piece side usable a flow (filling.Ends queue to only line) =
    let w : State = record s { bulk_in = queue; side = Idle } in
    rebuild last message tag size written answered sofar read gone ups downs puts w t (is_effect w t to) (calm_of gone ups s w refl refl a.calm) a.past a.todo a.hit (Over (bytes ++ piece.left)) a.short a.jobs a.out
    (stage_ends last message tag size a.past a.todo sofar bytes s t piece queue side to (subst (λ (f : Flow). Stage last message tag size a.past a.todo sofar f s) flow a.stage))
    (subst (λ (b : Bool). InLine b gone (Over (bytes ++ piece.left)) read (gives (events_of BulkIn downs) ++ gives (events_of BulkIn puts)) (sent_to BulkIn ups) queue) (sym usable) line) a.reads
    (same_parts _ _ _ _ _ _ _ (events_of BulkOut downs) (events_of BulkOut puts) (only BulkOut refl) a.whole a.came a.taken a.counted a.missed)

fills : (last : ℕ) (message : List ℕ) (tag size : ℕ) (written : List Job) (answered : ℕ) (sofar read : List ℕ) (gone : Bool) (ups : List up.Message) (downs puts : List Put) (s t : State) (count : ℕ) → Fills s count puts t → Asking (ask_of last message tag size written answered sofar read gone) ups downs s → Asking (ask_of last message tag size written answered sofar read gone) ups (downs ++ puts) t
fills last message tag size written answered sofar read gone ups downs puts s t count goes a =
    let side = fills_side s t count puts a.calm.running goes in
    let flow = stage_sends last message tag size a.past a.todo sofar a.flow s side.0 side.1 a.stage in
    let fill = fill_goes s.halted.bulk_in gone s t count puts read flow.0 (gives (events_of BulkIn downs)) (sent_to BulkIn ups) side.0 side.1 a.calm.running
    (subst (λ (f : Flow). InLine s.halted.bulk_in gone f read (gives (events_of BulkIn downs)) (sent_to BulkIn ups) s.bulk_in) flow.1 a.ins) goes in
    filled last message tag size written answered sofar read gone flow.0 ups downs puts s t side.0 side.1 fill.0 a flow.1 fill.1

-- ---- nothing happens at the control endpoint

no_control : {B : Type 0} (submit : Pending) (behind queue : List Pending) → queue ≡ [] → queue ≡ submit ∷ behind → B
no_control submit behind queue none some = let e : [] ≡ submit ∷ behind = sym none ∙ some in absurd (cc)

no_answer : (s t : State) (puts : List Put) → s.control ≡ [] → class.Answers s puts t → ⊥
no_answer s t puts none (class.ByClass submit behind setup request served line asks row serving put is) = no_control _ _ _ none line
no_answer s t puts none (class.ByStandard submit behind setup request line asks row put is) = no_control _ _ _ none line
no_answer s t puts none (class.Unknown submit behind setup line asks unknown put is) = no_control _ _ _ none line

no_pend : (s t : State) (puts : List Put) → s.control ≡ [] → class.Postpones s puts t → ⊥
no_pend s t puts none (class.DoesPostpone submit behind setup request layout line asks row stays put is) = no_control _ _ _ none line

no_poll : (s t : State) → s.control ≡ [] → class.PollsFirst s t → ⊥
no_poll s t none (class.DoesPollFirst submit behind setup tag line asks row good fresh free polls) = no_control _ _ _ none line

-- ---- halts

notifies : (last : ℕ) (message : List ℕ) (tag size : ℕ) (written : List Job) (answered : ℕ) (sofar read : List ℕ) (gone : Bool) (ups : List up.Message) (downs puts : List Put) (s t : State) → IsSound s → status.Notifies s puts t → Asking (ask_of last message tag size written answered sofar read gone) ups downs s → Asking (ask_of last message tag size written answered sofar read gone) ups (downs ++ puts) t
notifies last message tag size written answered sofar read gone ups downs puts s t sound (status.Gives submit behind packet packets line there long put is) a =
    let fit : FitsAt InterruptIn submit = (subst (λ (q : List Pending). AllFit InterruptIn q) line (sound.fits InterruptIn)).0 in
    alone last message tag size written answered sofar read gone ups downs puts s t
    (effect_is s _ t is (record { bulk_out = refl; bulk_in = refl; transfer = refl; control = refl; running = refl; out_halted = refl; in_halted = refl }))
    (stage_is s _ t is (record { waiting = refl; part = refl; side = refl; log = refl; unread = refl; shut = refl; in_shut = refl }))
    (ap (λ (p : List Put). events_of BulkOut p) put ∙ other_event BulkOut submit.head _ _ [] 3 fit.number refl)
    (ap (λ (p : List Put). events_of BulkIn p) put ∙ other_event BulkIn submit.head _ _ [] 3 fit.number refl) a
notifies last message tag size written answered sofar read gone ups downs puts s t sound (status.NoRoom submit behind packet packets line there short put is) a =
    alone last message tag size written answered sofar read gone ups downs puts s t
    (effect_is s _ t is (record { bulk_out = refl; bulk_in = refl; transfer = refl; control = refl; running = refl; out_halted = refl; in_halted = refl }))
    (stage_is s _ t is (record { waiting = refl; part = refl; side = refl; log = refl; unread = refl; shut = refl; in_shut = refl }))
    (ap (λ (p : List Put). events_of BulkOut p) put ∙ other_ended BulkOut InterruptIn stalled s.interrupt_in (sound.fits InterruptIn) refl)
    (ap (λ (p : List Put). events_of BulkIn p) put ∙ other_ended BulkIn InterruptIn stalled s.interrupt_in (sound.fits InterruptIn) refl) a

-- the answers of a halted endpoint
pub own_event : (e : Endpoint) (head : SubmitHead) (answer : RetSubmitHead) (transferred : List ℕ) (puts : List Put) → head.ep ≡ number_of e
    → events_of e (Submitted head answer transferred ∷ puts) ≡ Gives head answer transferred ∷ events_of e puts
own_event e head answer transferred puts is = rw (eq-eqb head.ep (number_of e) is) refl

stalled_taken : (queue : List Pending) → AllFit BulkOut queue → AllTaken true 0 (events_of BulkOut (all_ended stalled queue))
stalled_taken [] fit = refl
stalled_taken (first ∷ others) fit =
    subst (λ (l : List Event). AllTaken true 0 l) (sym (own_event BulkOut first.head _ _ (map (λ submit. answer_of submit.head stalled []) others) fit.0.number)) (inr (refl, refl, refl, rest others fit.1))
  where
    rest : (l : List Pending) → AllFit BulkOut l → AllTaken true 0 (events_of BulkOut (map (λ submit. answer_of submit.head stalled []) l))
    rest [] h = refl
    rest (x ∷ l) h =
        subst (λ (k : List Event). AllTaken true 0 k) (sym (own_event BulkOut x.head _ _ (map (λ submit. answer_of submit.head stalled []) l) h.0.number)) (inr (refl, refl, refl, rest l h.1))

stalled_halted : (queue : List Pending) → AllFit BulkIn queue → reads.IsHalted (gives (events_of BulkIn (all_ended stalled queue)))
stalled_halted [] fit = tt
stalled_halted (first ∷ others) fit =
    subst (λ (l : List Event). reads.IsHalted (gives l)) (sym (own_event BulkIn first.head _ _ (map (λ submit. answer_of submit.head stalled []) others) fit.0.number)) (refl, rest others fit.1)
  where
    rest : (l : List Pending) → AllFit BulkIn l → reads.IsHalted (gives (events_of BulkIn (map (λ submit. answer_of submit.head stalled []) l)))
    rest [] h = tt
    rest (x ∷ l) h =
        subst (λ (k : List Event). reads.IsHalted (gives k)) (sym (own_event BulkIn x.head _ _ (map (λ submit. answer_of submit.head stalled []) l) h.0.number)) (refl, rest l h.1)

shut_taken : (shut : Bool) (came : ℕ) (events : List Event) → AllTaken shut came events → AllTaken true came events
shut_taken shut came [] h = h
shut_taken shut came (Gives head answer transferred ∷ events) (inl h) = inl (h.0, h.1, h.2, h.3, shut_taken shut h.2 events h.4)
shut_taken shut came (Gives head answer transferred ∷ events) (inr h) = inr (h.0, refl, h.2, shut_taken shut 0 events h.3)
shut_taken shut came (Drops n ∷ events) h = shut_taken shut came events h

halts_itself : (last : ℕ) (message : List ℕ) (tag size : ℕ) (written : List Job) (answered : ℕ) (sofar read : List ℕ) (gone : Bool) (ups : List up.Message) (downs puts : List Put) (s t : State) (e : Endpoint) → IsSound s
    → HaltsItself s e puts t → Asking (ask_of last message tag size written answered sofar read gone) ups downs s → Asking (ask_of last message tag size written answered sofar read gone) ups (downs ++ puts) t
halts_itself last message tag size written answered sofar read gone ups downs puts s t Control sound (DoesHalt other usable put is) a = absurd (other refl)
halts_itself last message tag size written answered sofar read gone ups downs puts s t BulkOut sound (DoesHalt other usable put is) a =
    let w : State = halts BulkOut s in
    rebuild last message tag size written answered sofar read gone ups downs puts w t (is_effect w t is) (calm_of gone ups s w refl refl a.calm) a.past [] (a.todo ++ a.hit) a.flow a.short tt (Shut refl refl refl refl)
    (subst (λ (x : State). Stage last message tag size a.past [] sofar a.flow x) (sym is) (stage_shuts last message tag size a.past a.todo sofar a.flow s a.stage))
    (subst (λ (l : List Event). InLine s.halted.bulk_in gone a.flow read l (sent_to BulkIn ups) s.bulk_in)
    (sym (no_ins downs puts (ap (λ (p : List Put). events_of BulkIn p) put ∙ other_ended BulkIn BulkOut stalled s.bulk_out (sound.fits BulkOut) refl))) a.ins) a.reads
    (more_parts written a.past [] (a.todo ++ a.hit) answered true gone (events_of BulkOut downs) (events_of BulkOut puts)
    (subst (λ (p : List Put). AllTaken true 0 (events_of BulkOut p)) (sym put) (stalled_taken s.bulk_out (sound.fits BulkOut))) a.whole a.came
    (shut_taken s.halted.bulk_out a.came (events_of BulkOut downs) a.taken) a.counted (λ kept open_again. let e : true ≡ false = open_again in absurd (cc)))
halts_itself last message tag size written answered sofar read gone ups downs puts s t BulkIn sound (DoesHalt other usable put is) a =
    let w : State = halts BulkIn s in
    rebuild last message tag size written answered sofar read gone ups downs puts w t (is_effect w t is) (calm_of gone ups s w refl refl a.calm) a.past a.todo a.hit (torn a.flow) a.short a.jobs a.out
    (subst (λ (x : State). Stage last message tag size a.past a.todo sofar (torn a.flow) x) (sym is) (stage_tears last message tag size a.past a.todo sofar a.flow s a.stage))
    (in_halts s.halted.bulk_in gone a.flow read (gives (events_of BulkIn downs)) (gives (events_of BulkIn puts)) (sent_to BulkIn ups) s.bulk_in
    (subst (λ (p : List Put). reads.IsHalted (gives (events_of BulkIn p))) (sym put) (stalled_halted s.bulk_in (sound.fits BulkIn))) usable a.ins) a.reads
    (same_parts written a.past a.todo a.hit answered s.halted.bulk_out gone (events_of BulkOut downs) (events_of BulkOut puts)
    (ap (λ (p : List Put). events_of BulkOut p) put ∙ other_ended BulkOut BulkIn stalled s.bulk_in (sound.fits BulkIn) refl) a.whole a.came a.taken a.counted a.missed)
halts_itself last message tag size written answered sofar read gone ups downs puts s t InterruptIn sound (DoesHalt other usable put is) a =
    alone last message tag size written answered sofar read gone ups downs puts s t
    (effect_is s _ t is (record { bulk_out = refl; bulk_in = refl; transfer = refl; control = refl; running = refl; out_halted = refl; in_halted = refl }))
    (stage_is s _ t is (record { waiting = refl; part = refl; side = refl; log = refl; unread = refl; shut = refl; in_shut = refl }))
    (ap (λ (p : List Put). events_of BulkOut p) put ∙ other_ended BulkOut InterruptIn stalled s.interrupt_in (sound.fits InterruptIn) refl)
    (ap (λ (p : List Put). events_of BulkIn p) put ∙ other_ended BulkIn InterruptIn stalled s.interrupt_in (sound.fits InterruptIn) refl) a

-- ---- arrivals

sent_one : (e : Endpoint) (head : SubmitHead) (transferred : List ℕ) (ups : List up.Message) → head.ep ≡ number_of e
    → sent_to e (up.Submit head transferred ∷ ups) ≡ record { head = head; transferred = transferred } ∷ sent_to e ups
sent_one e head transferred ups is = rw (eq-eqb head.ep (number_of e) is) refl

sent_other : (e : Endpoint) (head : SubmitHead) (transferred : List ℕ) (ups : List up.Message) (n : ℕ) → head.ep ≡ n → eqb n (number_of e) ≡ false
    → sent_to e (up.Submit head transferred ∷ ups) ≡ sent_to e ups
sent_other e head transferred ups n is other = rw (ap (λ (k : ℕ). eqb k (number_of e)) is ∙ other) refl

-- a list that something is on its way to is not empty
comes_none : {B : Type 0} (head : SubmitHead) (transferred : List ℕ) (ups : List up.Message) → head.ep ≡ 0 → sent_to Control (up.Submit head transferred ∷ ups) ≡ [] → B
comes_none head transferred ups is none =
    let e : [] ≡ record { head = head; transferred = transferred } ∷ sent_to Control ups = sym none ∙ sent_one Control head transferred ups is in absurd (cc)

-- what is on its way, once a submit to another endpoint has come
came_calm : (gone : Bool) (head : SubmitHead) (transferred : List ℕ) (ups : List up.Message) (s : State) (n : ℕ) → head.ep ≡ n → eqb n 0 ≡ false → Calm gone (up.Submit head transferred ∷ ups) s → Calm gone ups s
came_calm gone head transferred ups s n is other calm = record {
  control = calm.control;
  none_comes = sym (sent_other Control head transferred ups n is other) ∙ calm.none_comes;
  running = calm.running;
  unlinks = calm.unlinks;
}

came : (last : ℕ) (message : List ℕ) (tag size : ℕ) (written : List Job) (answered : ℕ) (sofar read : List ℕ) (gone : Bool) (head : SubmitHead) (transferred : List ℕ) (ups : List up.Message) (downs : List Put) (s : State) → head.ep ≡ 3
    → Asking (ask_of last message tag size written answered sofar read gone) (up.Submit head transferred ∷ ups) downs s → Asking (ask_of last message tag size written answered sofar read gone) ups downs s
came last message tag size written answered sofar read gone head transferred ups downs s is a = record {
  past = a.past;
  todo = a.todo;
  hit = a.hit;
  whole = a.whole;
  missed = a.missed;
  flow = a.flow;
  short = a.short;
  jobs = a.jobs;
  out = subst (λ (l : List Sent). OutLine s.halted.bulk_out gone a.todo l s.bulk_out s.transfer) (sent_other BulkOut head transferred ups 3 is refl) a.out;
  stage = a.stage;
  ins = subst (λ (l : List Sent). InLine s.halted.bulk_in gone a.flow read (gives (events_of BulkIn downs)) l s.bulk_in) (sent_other BulkIn head transferred ups 3 is refl) a.ins;
  reads = subst (λ (l : List Sent). SentReads l) (sent_other BulkIn head transferred ups 3 is refl) a.reads;
  came = a.came;
  taken = a.taken;
  counted = a.counted;
  calm = came_calm gone head transferred ups s 3 is refl a.calm;
}

not_usable : (head : SubmitHead) (s : State) (e : Endpoint) (fits : Fitting head) → fits.endpoint ≡ e → ((d : Endpoint) → IsTaken s head d → ⊥) → is_halted e s ≡ true
not_usable head s e fits is none = by (is_halted e s) refl
  where
    by : (b : Bool) → is_halted e s ≡ b → b ≡ true
    by true h = refl
    by false h = absurd (none fits.endpoint (record { number = fits.number; way = fits.way; usable = subst (λ (d : Endpoint). is_halted d s ≡ false) (sym is) h }))

arrives : (last : ℕ) (message : List ℕ) (tag size : ℕ) (written : List Job) (answered : ℕ) (sofar read : List ℕ) (gone : Bool) (head : SubmitHead) (transferred : List ℕ) (ups : List up.Message) (downs puts : List Put) (s t : State)
    → Fitting head → Arrives s head transferred puts t → Asking (ask_of last message tag size written answered sofar read gone) (up.Submit head transferred ∷ ups) downs s → Asking (ask_of last message tag size written answered sofar read gone) ups (downs ++ puts) t
arrives last message tag size written answered sofar read gone head transferred ups downs puts s t fits (Queued Control taken put is) a = comes_none head transferred ups taken.number a.calm.none_comes
arrives last message tag size written answered sofar read gone head transferred ups downs puts s t fits (Queued InterruptIn taken put is) a =
    alone last message tag size written answered sofar read gone ups downs puts s t
    (effect_is s _ t is (record { bulk_out = refl; bulk_in = refl; transfer = refl; control = refl; running = refl; out_halted = refl; in_halted = refl }))
    (stage_is s _ t is (record { waiting = refl; part = refl; side = refl; log = refl; unread = refl; shut = refl; in_shut = refl }))
    (ap (λ (p : List Put). events_of BulkOut p) put) (ap (λ (p : List Put). events_of BulkIn p) put) (came last message tag size written answered sofar read gone head transferred ups downs s taken.number a)
arrives last message tag size written answered sofar read gone head transferred ups downs puts s t fits (Queued BulkOut taken put is) a =
    let w : State = record s { bulk_out = s.bulk_out ++ arrived head transferred ∷ [] } in
    rebuild last message tag size written answered sofar read gone ups downs puts w t (is_effect w t is) (calm_of gone ups s w refl refl (came_calm gone head transferred ups s 1 taken.number refl a.calm)) a.past a.todo a.hit a.flow a.short a.jobs
    (job_comes s.halted.bulk_out gone a.todo (record { head = head; transferred = transferred }) (sent_to BulkOut ups) s.bulk_out s.transfer taken.usable
    (subst (λ (l : List Sent). OutLine s.halted.bulk_out gone a.todo l s.bulk_out s.transfer) (sent_one BulkOut head transferred ups taken.number) a.out))
    (subst (λ (x : State). Stage last message tag size a.past a.todo sofar a.flow x) (sym is)
    (stage_same last message tag size a.past a.todo sofar a.flow s w (record { waiting = refl; part = refl; side = refl; log = refl; unread = refl; shut = refl; in_shut = refl }) a.stage))
    (subst (λ (l : List Event). InLine s.halted.bulk_in gone a.flow read l (sent_to BulkIn ups) s.bulk_in) (sym (no_ins downs puts (ap (λ (p : List Put). events_of BulkIn p) put)))
    (subst (λ (l : List Sent). InLine s.halted.bulk_in gone a.flow read (gives (events_of BulkIn downs)) l s.bulk_in) (sent_other BulkIn head transferred ups 1 taken.number refl) a.ins))
    (subst (λ (l : List Sent). SentReads l) (sent_other BulkIn head transferred ups 1 taken.number refl) a.reads)
    (same_parts _ _ _ _ _ _ _ (events_of BulkOut downs) (events_of BulkOut puts) (ap (λ (p : List Put). events_of BulkOut p) put) a.whole a.came a.taken a.counted a.missed)
arrives last message tag size written answered sofar read gone head transferred ups downs puts s t fits (Queued BulkIn taken put is) a =
    let first : SentReads (record { head = head; transferred = transferred } ∷ sent_to BulkIn ups) =
    subst (λ (l : List Sent). SentReads l) (sent_one BulkIn head transferred ups taken.number) a.reads in
    let w : State = record s { bulk_in = s.bulk_in ++ arrived head transferred ∷ [] } in
    rebuild last message tag size written answered sofar read gone ups downs puts w t (is_effect w t is) (calm_of gone ups s w refl refl (came_calm gone head transferred ups s 2 taken.number refl a.calm)) a.past a.todo a.hit a.flow a.short a.jobs
    (subst (λ (l : List Sent). OutLine s.halted.bulk_out gone a.todo l s.bulk_out s.transfer) (sent_other BulkOut head transferred ups 2 taken.number refl) a.out)
    (subst (λ (x : State). Stage last message tag size a.past a.todo sofar a.flow x) (sym is)
    (stage_same last message tag size a.past a.todo sofar a.flow s w (record { waiting = refl; part = refl; side = refl; log = refl; unread = refl; shut = refl; in_shut = refl }) a.stage))
    (subst (λ (l : List Event). InLine s.halted.bulk_in gone a.flow read l (sent_to BulkIn ups) (s.bulk_in ++ arrived head transferred ∷ [])) (sym (no_ins downs puts (ap (λ (p : List Put). events_of BulkIn p) put)))
    (subst (λ (l : List ℕ). InLine s.halted.bulk_in gone a.flow read (gives (events_of BulkIn downs)) (sent_to BulkIn ups) (s.bulk_in ++ arrived head l ∷ [])) (sym first.1)
    (read_comes s.halted.bulk_in gone a.flow read (gives (events_of BulkIn downs)) (record { head = head; transferred = transferred }) (sent_to BulkIn ups) s.bulk_in head taken.usable first.0
    (subst (λ (l : List Sent). InLine s.halted.bulk_in gone a.flow read (gives (events_of BulkIn downs)) l s.bulk_in) (sent_one BulkIn head transferred ups taken.number) a.ins))))
    first.2
    (same_parts _ _ _ _ _ _ _ (events_of BulkOut downs) (events_of BulkOut puts) (ap (λ (p : List Put). events_of BulkOut p) put) a.whole a.came a.taken a.counted a.missed)
arrives last message tag size written answered sofar read gone head transferred ups downs puts s t fits (TurnedAway none put is) a = by fits.endpoint refl
  where
    by : (e : Endpoint) → fits.endpoint ≡ e → Asking (ask_of last message tag size written answered sofar read gone) ups (downs ++ puts) t
    by Control h = comes_none head transferred ups (fits.number ∙ ap number_of h) a.calm.none_comes
    by InterruptIn h =
        let third : head.ep ≡ 3 = fits.number ∙ ap number_of h in
        alone last message tag size written answered sofar read gone ups downs puts s t (is_effect s t is) (stage_is s s t is (record { waiting = refl; part = refl; side = refl; log = refl; unread = refl; shut = refl; in_shut = refl }))
        (ap (λ (p : List Put). events_of BulkOut p) put ∙ other_event BulkOut head _ _ [] 3 third refl)
        (ap (λ (p : List Put). events_of BulkIn p) put ∙ other_event BulkIn head _ _ [] 3 third refl) (came last message tag size written answered sofar read gone head transferred ups downs s third a)
    by BulkOut h =
        let own : head.ep ≡ 1 = fits.number ∙ ap number_of h in
        let halted : s.halted.bulk_out ≡ true = not_usable head s BulkOut fits h none in
        rebuild last message tag size written answered sofar read gone ups downs puts s t (is_effect s t is) (came_calm gone head transferred ups s 1 own refl a.calm) a.past a.todo a.hit a.flow a.short a.jobs
        (job_turned s.halted.bulk_out gone a.todo (record { head = head; transferred = transferred }) (sent_to BulkOut ups) s.bulk_out s.transfer halted
        (subst (λ (l : List Sent). OutLine s.halted.bulk_out gone a.todo l s.bulk_out s.transfer) (sent_one BulkOut head transferred ups own) a.out))
        (subst (λ (x : State). Stage last message tag size a.past a.todo sofar a.flow x) (sym is) a.stage)
        (subst (λ (l : List Event). InLine s.halted.bulk_in gone a.flow read l (sent_to BulkIn ups) s.bulk_in)
        (sym (no_ins downs puts (ap (λ (p : List Put). events_of BulkIn p) put ∙ other_event BulkIn head _ _ [] 1 own refl)))
        (subst (λ (l : List Sent). InLine s.halted.bulk_in gone a.flow read (gives (events_of BulkIn downs)) l s.bulk_in) (sent_other BulkIn head transferred ups 1 own refl) a.ins))
        (subst (λ (l : List Sent). SentReads l) (sent_other BulkIn head transferred ups 1 own refl) a.reads)
        (more_parts written a.past a.todo a.hit answered s.halted.bulk_out gone (events_of BulkOut downs) (events_of BulkOut puts)
        (subst (λ (l : List Event). AllTaken s.halted.bulk_out 0 l) (sym (ap (λ (p : List Put). events_of BulkOut p) put ∙ own_event BulkOut head _ _ [] own)) (inr (refl, halted, refl, refl)))
        a.whole a.came a.taken a.counted a.missed)
    by BulkIn h =
        let own : head.ep ≡ 2 = fits.number ∙ ap number_of h in
        let halted : s.halted.bulk_in ≡ true = not_usable head s BulkIn fits h none in
        let first : SentReads (record { head = head; transferred = transferred } ∷ sent_to BulkIn ups) = subst (λ (l : List Sent). SentReads l) (sent_one BulkIn head transferred ups own) a.reads in
        rebuild last message tag size written answered sofar read gone ups downs puts s t (is_effect s t is) (came_calm gone head transferred ups s 2 own refl a.calm) a.past a.todo a.hit a.flow a.short a.jobs
        (subst (λ (l : List Sent). OutLine s.halted.bulk_out gone a.todo l s.bulk_out s.transfer) (sent_other BulkOut head transferred ups 2 own refl) a.out)
        (subst (λ (x : State). Stage last message tag size a.past a.todo sofar a.flow x) (sym is) a.stage)
        (subst (λ (l : List Event). InLine s.halted.bulk_in gone a.flow read (gives (events_of BulkIn downs) ++ gives l) (sent_to BulkIn ups) s.bulk_in)
        (sym (ap (λ (p : List Put). events_of BulkIn p) put ∙ own_event BulkIn head _ _ [] own))
        (read_turned s.halted.bulk_in gone a.flow read (gives (events_of BulkIn downs)) (record { head = head; transferred = transferred }) (sent_to BulkIn ups) s.bulk_in head _ _ halted refl
        (subst (λ (l : List Sent). InLine s.halted.bulk_in gone a.flow read (gives (events_of BulkIn downs)) l s.bulk_in) (sent_one BulkIn head transferred ups own) a.ins)))
        first.2
        (same_parts _ _ _ _ _ _ _ (events_of BulkOut downs) (events_of BulkOut puts) (ap (λ (p : List Put). events_of BulkOut p) put ∙ other_event BulkOut head _ _ [] 2 own refl) a.whole a.came a.taken a.counted a.missed)

-- ---- unlinks

no_unlink : {B : Type 0} (head : UnlinkHead) (ups : List up.Message) → head ∷ unlinks_in ups ≡ [] → B
no_unlink head ups e = absurd (cc)

no_middle : {B : Type 0} (before : List Pending) (submit : Pending) (behind : List Pending) → [] ≡ before ++ submit ∷ behind → B
no_middle [] submit behind e = absurd (cc)
no_middle (x ∷ before) submit behind e = absurd (cc)

drops_taken : (shut : Bool) (head : UnlinkHead) (st : ℤ) (puts : List Put) → puts ≡ unlink_answer head st ∷ [] → AllTaken shut 0 (events_of BulkOut puts)
drops_taken shut head st puts put = subst (λ (p : List Put). AllTaken shut 0 (events_of BulkOut p)) (sym put) refl

drops_ins : (downs puts : List Put) (head : UnlinkHead) (st : ℤ) → puts ≡ unlink_answer head st ∷ []
    → gives (events_of BulkIn downs) ++ gives (events_of BulkIn puts) ≡ gives (events_of BulkIn downs)
drops_ins downs puts head st put = ap (λ (p : List Put). gives (events_of BulkIn downs) ++ gives (events_of BulkIn p)) put ∙ append-nil (gives (events_of BulkIn downs))

all_left : (todo left : List Job) (job : Job) → todo ≡ left ++ job ∷ [] → AllJobs todo → AllJobs left
all_left todo left job ends jobs = front left (subst (λ (l : List Job). AllJobs l) ends jobs)
  where
    front : (l : List Job) → AllJobs (l ++ job ∷ []) → AllJobs l
    front [] h = tt
    front (x ∷ l) h = (h.0, front l h.1)

-- an unlink is on its way only where the host made one
unlinked : (head : UnlinkHead) (ups : List up.Message) (b : Bool) → (b ≡ false → head ∷ unlinks_in ups ≡ []) → b ≡ true
unlinked head ups true none = refl
unlinked head ups false none = no_unlink head ups (none refl)

unlinks : (last : ℕ) (message : List ℕ) (tag size : ℕ) (written : List Job) (answered : ℕ) (sofar read : List ℕ) (gone : Bool) (head : UnlinkHead) (ups : List up.Message) (downs puts : List Put) (s t : State) → IsSound s → HitsLast head ups s
    → Unlinks s head puts t → Asking (ask_of last message tag size written answered sofar read gone) (up.Unlink head ∷ ups) downs s → Asking (ask_of last message tag size written answered sofar read gone) ups (downs ++ puts) t
unlinks last message tag size written answered sofar read gone head ups downs puts s t sound last_one (Misses avoids put is) a =
    rebuild last message tag size written answered sofar read gone ups downs puts s t (is_effect s t is) (record { control = a.calm.control; none_comes = a.calm.none_comes; running = a.calm.running; unlinks = λ e. no_unlink head ups (a.calm.unlinks e) }) a.past a.todo a.hit a.flow a.short a.jobs a.out
    (subst (λ (x : State). Stage last message tag size a.past a.todo sofar a.flow x) (sym is) a.stage)
    (subst (λ (l : List Event). InLine s.halted.bulk_in gone a.flow read l (sent_to BulkIn ups) s.bulk_in) (sym (drops_ins downs puts head _ put)) a.ins) a.reads
    (more_parts written a.past a.todo a.hit answered s.halted.bulk_out gone (events_of BulkOut downs) (events_of BulkOut puts) (drops_taken s.halted.bulk_out head _ puts put) a.whole a.came a.taken a.counted a.missed)
unlinks last message tag size written answered sofar read gone head ups downs puts s t sound last_one (Polled e before submit behind setup g line target polled asks row put is) a =
    let place = sound.polled e before submit behind line polled in
    no_control submit behind s.control a.calm.control
    (subst (λ (d : Endpoint). queue_of d s ≡ submit ∷ behind) place.0 (line ∙ ap (λ (b : List Pending). b ++ submit ∷ behind) place.1))
unlinks last message tag size written answered sofar read gone head ups downs puts s t sound last_one (Hits Control before submit behind line target fresh put is) a = no_middle before submit behind (sym a.calm.control ∙ line)
unlinks last message tag size written answered sofar read gone head ups downs puts s t sound last_one (Hits InterruptIn before submit behind line target fresh put is) a =
    let w : State = record s { interrupt_in = before ++ behind } in
    rebuild last message tag size written answered sofar read gone ups downs puts w t (is_effect w t is) (record { control = a.calm.control; none_comes = a.calm.none_comes; running = a.calm.running; unlinks = λ e. no_unlink head ups (a.calm.unlinks e) }) a.past a.todo a.hit a.flow a.short a.jobs a.out
    (subst (λ (x : State). Stage last message tag size a.past a.todo sofar a.flow x) (sym is)
    (stage_same last message tag size a.past a.todo sofar a.flow s w (record { waiting = refl; part = refl; side = refl; log = refl; unread = refl; shut = refl; in_shut = refl }) a.stage))
    (subst (λ (l : List Event). InLine s.halted.bulk_in gone a.flow read l (sent_to BulkIn ups) s.bulk_in) (sym (drops_ins downs puts head _ put)) a.ins) a.reads
    (more_parts written a.past a.todo a.hit answered s.halted.bulk_out gone (events_of BulkOut downs) (events_of BulkOut puts) (drops_taken s.halted.bulk_out head _ puts put) a.whole a.came a.taken a.counted a.missed)
unlinks last message tag size written answered sofar read gone head ups downs puts s t sound last_one (Hits BulkOut before submit behind line target fresh put is) a =
    let only = last_one BulkOut before submit behind tt line target in
    let hit = job_hit s.halted.bulk_out gone a.todo before submit s.bulk_out s.transfer (unlinked head ups gone a.calm.unlinks) (line ∙ ap (λ (b : List Pending). before ++ submit ∷ b) only.0)
    (subst (λ (l : List Sent). OutLine s.halted.bulk_out gone a.todo l s.bulk_out s.transfer) only.1 a.out) in
    by hit.left hit.shorter hit.line (is ∙ ap (λ (b : List Pending). record s { bulk_out = before ++ b }) only.0 ∙ ap (λ (q : List Pending). record s { bulk_out = q }) (append-nil before)) only.1
  where
    by : (left : List Job) → LeftOf a.todo left → OutLine s.halted.bulk_out gone left [] before s.transfer → t ≡ record s { bulk_out = before } → sent_to BulkOut ups ≡ [] → Asking (ask_of last message tag size written answered sofar read gone) ups (downs ++ puts) t
    by left (Same is_same) rest to none =
        let w : State = record s { bulk_out = before } in
        rebuild last message tag size written answered sofar read gone ups downs puts w t (is_effect w t to) (record { control = a.calm.control; none_comes = a.calm.none_comes; running = a.calm.running; unlinks = λ e. no_unlink head ups (a.calm.unlinks e) }) a.past left a.hit a.flow a.short
        (subst (λ (l : List Job). AllJobs l) (sym is_same) a.jobs) (subst (λ (l : List Sent). OutLine s.halted.bulk_out gone left l before s.transfer) (sym none) rest)
        (subst (λ (x : State). Stage last message tag size a.past left sofar a.flow x) (sym to)
        (stage_same last message tag size a.past left sofar a.flow s w (record { waiting = refl; part = refl; side = refl; log = refl; unread = refl; shut = refl; in_shut = refl })
        (subst (λ (l : List Job). Stage last message tag size a.past l sofar a.flow s) (sym is_same) a.stage)))
        (subst (λ (l : List Event). InLine s.halted.bulk_in gone a.flow read l (sent_to BulkIn ups) s.bulk_in) (sym (drops_ins downs puts head _ put)) a.ins) a.reads
        (more_parts written a.past left a.hit answered s.halted.bulk_out gone (events_of BulkOut downs) (events_of BulkOut puts) (drops_taken s.halted.bulk_out head _ puts put)
        (a.whole ∙ ap (λ (l : List Job). a.past ++ (l ++ a.hit)) (sym is_same)) a.came a.taken a.counted a.missed)
    by left (Shorter job ends) rest to none =
        let w : State = record s { bulk_out = before } in
        rebuild last message tag size written answered sofar read gone ups downs puts w t (is_effect w t to) (record { control = a.calm.control; none_comes = a.calm.none_comes; running = a.calm.running; unlinks = λ e. no_unlink head ups (a.calm.unlinks e) }) a.past left (job ∷ a.hit) a.flow a.short
        (all_left a.todo left job ends a.jobs) (subst (λ (l : List Sent). OutLine s.halted.bulk_out gone left l before s.transfer) (sym none) rest)
        (subst (λ (x : State). Stage last message tag size a.past left sofar a.flow x) (sym to)
        (stage_same last message tag size a.past left sofar a.flow s w (record { waiting = refl; part = refl; side = refl; log = refl; unread = refl; shut = refl; in_shut = refl })
        (stage_shorter last message tag size a.past a.todo left job sofar a.flow s ends a.stage)))
        (subst (λ (l : List Event). InLine s.halted.bulk_in gone a.flow read l (sent_to BulkIn ups) s.bulk_in) (sym (drops_ins downs puts head _ put)) a.ins) a.reads
        (more_parts written a.past left (job ∷ a.hit) answered s.halted.bulk_out gone (events_of BulkOut downs) (events_of BulkOut puts) (drops_taken s.halted.bulk_out head _ puts put)
        (a.whole ∙ ap (λ (l : List Job). a.past ++ (l ++ a.hit)) ends ∙ ap (λ (l : List Job). a.past ++ l) (append_assoc left (job ∷ []) a.hit)) a.came a.taken a.counted
        (λ kept usable. let e : true ≡ false = sym (unlinked head ups gone a.calm.unlinks) ∙ kept in absurd (cc)))
unlinks last message tag size written answered sofar read gone head ups downs puts s t sound last_one (Hits BulkIn before submit behind line target fresh put is) a =
    let only = last_one BulkIn before submit behind tt line target in
    let to : t ≡ record s { bulk_in = before } =
    is ∙ ap (λ (b : List Pending). record s { bulk_in = before ++ b }) only.0 ∙ ap (λ (q : List Pending). record s { bulk_in = q }) (append-nil before) in
    let w : State = record s { bulk_in = before } in
    rebuild last message tag size written answered sofar read gone ups downs puts w t (is_effect w t to) (record { control = a.calm.control; none_comes = a.calm.none_comes; running = a.calm.running; unlinks = λ e. no_unlink head ups (a.calm.unlinks e) }) a.past a.todo a.hit a.flow a.short a.jobs a.out
    (subst (λ (x : State). Stage last message tag size a.past a.todo sofar a.flow x) (sym to)
    (stage_same last message tag size a.past a.todo sofar a.flow s w (record { waiting = refl; part = refl; side = refl; log = refl; unread = refl; shut = refl; in_shut = refl }) a.stage))
    (subst (λ (l : List Event). InLine s.halted.bulk_in gone a.flow read l (sent_to BulkIn ups) before) (sym (drops_ins downs puts head _ put))
    (read_hit s.halted.bulk_in gone a.flow read (gives (events_of BulkIn downs)) (sent_to BulkIn ups) before s.bulk_in submit (unlinked head ups gone a.calm.unlinks) only.1
    (line ∙ ap (λ (b : List Pending). before ++ submit ∷ b) only.0) a.ins)) a.reads
    (more_parts written a.past a.todo a.hit answered s.halted.bulk_out gone (events_of BulkOut downs) (events_of BulkOut puts) (drops_taken s.halted.bulk_out head _ puts put) a.whole a.came a.taken a.counted a.missed)

-- ---- all moves

pub asking_goes : (one_header : OneHeader) (last : ℕ) (message : List ℕ) (tag size : ℕ) (written : List Job) (answered : ℕ) (sofar read : List ℕ) (gone : Bool) (ups : List up.Message) (downs puts : List Put) (s t : State) (move : Move) → IsSound s
    → Stands s.log s.standing → AllFitting (taken move ++ ups) → IsSafe move ups s → Leads s move puts t
    → Asking (ask_of last message tag size written answered sofar read gone) (taken move ++ ups) downs s → Asking (ask_of last message tag size written answered sofar read gone) ups (downs ++ puts) t
asking_goes one_header last message tag size written answered sofar read gone ups downs puts s t (Comes (up.Submit head transferred)) sound stands fit safe h a = arrives last message tag size written answered sofar read gone head transferred ups downs puts s t fit.0 h.3 a
asking_goes one_header last message tag size written answered sofar read gone ups downs puts s t (Comes (up.Unlink head)) sound stands fit safe h a = unlinks last message tag size written answered sofar read gone head ups downs puts s t sound safe h.1 a
asking_goes one_header last message tag size written answered sofar read gone ups downs puts s t (Refuses devid bytes f) sound stands fit safe h a =
    alone last message tag size written answered sofar read gone ups downs puts s t
    (effect_is s _ t h.2 (record { bulk_out = refl; bulk_in = refl; transfer = refl; control = refl; running = refl; out_halted = refl; in_halted = refl }))
    (stage_is s _ t h.2 (record { waiting = refl; part = refl; side = refl; log = refl; unread = refl; shut = refl; in_shut = refl }))
    (ap (λ (p : List Put). events_of BulkOut p) h.1) (ap (λ (p : List Put). events_of BulkIn p) h.1) a
asking_goes one_header last message tag size written answered sofar read gone ups downs puts s t (Take count) sound stands fit safe h a =
    let took = take_goes one_header s.halted.bulk_out gone s t count puts a.todo (sent_to BulkOut ups) a.jobs (may_begin last message tag size a.past a.todo sofar a.flow s a.jobs a.short h.0 a.stage) a.out h.1 in
    takes last message tag size written answered sofar read gone ups downs puts s t h.0 took.0 a took.1
asking_goes one_header last message tag size written answered sofar read gone ups downs puts s t Exec sound stands fit safe h a = executes last message tag size written answered sofar read gone ups downs puts s t stands h.1 h.0 a
asking_goes one_header last message tag size written answered sofar read gone ups downs puts s t (Begin count) sound stands fit safe h a = begins last message tag size written answered sofar read gone ups downs puts s t count h.1 h.0 a
asking_goes one_header last message tag size written answered sofar read gone ups downs puts s t (Fill count) sound stands fit safe h a = fills last message tag size written answered sofar read gone ups downs puts s t count h a
asking_goes one_header last message tag size written answered sofar read gone ups downs puts s t Answer sound stands fit safe h a = absurd (no_answer s t puts a.calm.control h)
asking_goes one_header last message tag size written answered sofar read gone ups downs puts s t Pend sound stands fit safe h a = absurd (no_pend s t puts a.calm.control h)
asking_goes one_header last message tag size written answered sofar read gone ups downs puts s t Poll sound stands fit safe h a = absurd (no_poll s t a.calm.control h.0)
asking_goes one_header last message tag size written answered sofar read gone ups downs puts s t Notify sound stands fit safe h a = notifies last message tag size written answered sofar read gone ups downs puts s t sound h a
asking_goes one_header last message tag size written answered sofar read gone ups downs puts s t (Halt e) sound stands fit safe h a = halts_itself last message tag size written answered sofar read gone ups downs puts s t e sound h a
asking_goes one_header last message tag size written answered sofar read gone ups downs puts s t Unplug sound stands fit safe h a = absurd safe

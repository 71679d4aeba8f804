-- the control endpoint: requests that are served
use Rattle.std.proofs.Common.{◌≡◌, ℕ, Bool, true, false, List, [], ◌∷◌, ◌++◌, refl, sym, subst, arith}
use Rattle.usb_setup.specs.declared.setup.Setup.{Setup}
use Rattle.tmc_wire.specs.declared.class_request.ClassRequest.{ClassRequest}
use Rattle.tmc_wire.specs.declared.class_request.ClassRequest.TheVariants.{AbortOut, CheckOut, AbortIn, CheckIn, Clear, CheckClear, Capabilities, Pulse, ReadStatus, Ren, GoLocal, Lockout}
use Rattle.instr_plain.specs.declared.remote.RemoteAct.{RemoteAct}
use Rattle.usbip_wire.specs.declared.dirs.Outstanding.{Outstanding}
use Rattle.tmc_law.specs.Endpoint.{Endpoint, Control, BulkOut, BulkIn, InterruptIn}
use Rattle.tmc_law.specs.State.{State, Pending, Running, Nothing, AbortsOut, AbortsIn, Clears, with_queue, with_halt, pending}
use Rattle.tmc_law.specs.Put.{Put, success, stalled}
use Rattle.tmc_law.specs.Control.{sent_back, control_answer}
use Rattle.tmc_law.specs.Standard.{Standard, GetDeviceStatus, GetInterfaceStatus, GetEndpointStatus, ClearHalt, GetDeviceDescriptor, GetConfigurationDescriptor, GetString, GetConfiguration, SetConfiguration, GetInterface, SetInterface, standard_layout, standard_effect}
use Rattle.tmc_law.specs.Halts.{halts, halt_answers}
use Rattle.tmc_law.specs.Aborts as abort
use Rattle.tmc_law.specs.Aborts.{Served, checked_out, checked_in, checked_clear, part_answer, without_part}
use Rattle.tmc_law.specs.Status.{Polls, DoesPoll, ReadsStatus, BadTag, PolledBefore, Busy, PolledNow}
use Rattle.tmc_law.specs.Class.{Operates, DoesOperate, Serves, Answers, ByClass, ByStandard, Unknown, Postpones, DoesPostpone, PollsFirst, DoesPollFirst}
use Rattle.tmc_law.proofs.AnswerBytes.{success_is, stalled_is, sent_back_fits}
use Rattle.tmc_law.proofs.Answering.{part_settles}
use Rattle.tmc_law.proofs.AnswerPlaces.{in_front, in_back, owed_in, settles_out, TiesAt, LastsAt, lasts, lasts_at, lasts_append, none_lasts, is_owed_first, first_lasts, owed_changed, halts_last}
use Rattle.tmc_law.proofs.AnswerBulk.{Same, same_ties, same_lasts, logs_same}

-- what a request serves
abbrev pub ServedLasts : List Outstanding → Served → Type 0
ServedLasts entries served = LastsAt entries served.behind served.state

served_by : (entries : List Outstanding) (served is : Served) → served ≡ is → ServedLasts entries is → ServedLasts entries served
served_by entries served is e last = subst (λ (v : Served). ServedLasts entries v) (sym e) last

-- nothing behind the answer
quiet : (entries : List Outstanding) (s t : State) → Same s t → TiesAt entries s → LastsAt entries [] t
quiet entries s t same ties = none_lasts entries (pending t) t.bulk_out (same_ties entries s t same ties)

stays : (entries : List Outstanding) (s : State) → TiesAt entries s → LastsAt entries [] s
stays entries s ties = none_lasts entries (pending s) s.bulk_out ties

-- ---- aborts and clear

aborts_out_last : (entries : List Outstanding) (tag : ℕ) (s : State) (served : Served) → TiesAt entries s → abort.AbortsBulkOut tag s served
    → ServedLasts entries served
aborts_out_last entries tag s served ties (abort.AbortsBulkOut.NotBegun layout declined is) = served_by entries served _ is (stays entries s ties)
aborts_out_last entries tag s served ties (abort.AbortsBulkOut.DoesAbort none mine is) = served_by entries served _ is (halts_last entries BulkOut s ties)

aborts_in_last : (entries : List Outstanding) (tag : ℕ) (s : State) (served : Served) → TiesAt entries s → abort.AbortsBulkIn tag s served
    → ServedLasts entries served
aborts_in_last entries tag s served ties (abort.AbortsBulkIn.NotBegun layout declined is) = served_by entries served _ is (stays entries s ties)
aborts_in_last entries tag s served ties (abort.AbortsBulkIn.DoesAbort none mine is) = served_by entries served _ is (stays entries s ties)

checked_out_lasts : (entries : List Outstanding) (running : Running) (s : State) → TiesAt entries s → ServedLasts entries (checked_out (record s { running = running }))
checked_out_lasts entries Nothing s ties = stays entries s ties
checked_out_lasts entries AbortsOut s ties = stays entries s ties
checked_out_lasts entries (AbortsIn wanting given) s ties = stays entries s ties
checked_out_lasts entries Clears s ties = stays entries s ties

checked_in_lasts : (entries : List Outstanding) (running : Running) (s : State) → TiesAt entries s → ServedLasts entries (checked_in (record s { running = running }))
checked_in_lasts entries Nothing s ties = stays entries s ties
checked_in_lasts entries AbortsOut s ties = stays entries s ties
checked_in_lasts entries (AbortsIn true given) s ties = stays entries s ties
checked_in_lasts entries (AbortsIn false given) s ties = stays entries s ties
checked_in_lasts entries Clears s ties = stays entries s ties

checked_clear_lasts : (entries : List Outstanding) (running : Running) (s : State) → TiesAt entries s → ServedLasts entries (checked_clear (record s { running = running }))
checked_clear_lasts entries Nothing s ties = stays entries s ties
checked_clear_lasts entries AbortsOut s ties = stays entries s ties
checked_clear_lasts entries (AbortsIn wanting given) s ties = stays entries s ties
checked_clear_lasts entries Clears s ties = stays entries s ties

-- the part-filled submit is answered
part_lasts : (entries : List Outstanding) (s : State) → TiesAt entries s → LastsAt entries (part_answer s.bulk_in) (with_queue BulkIn (without_part s.bulk_in) s)
part_lasts entries s ties =
    lasts entries (part_answer s.bulk_in) (pending (with_queue BulkIn (without_part s.bulk_in) s)) s.bulk_out
    (settles_out entries (part_answer s.bulk_in) BulkIn (without_part s.bulk_in) s
    (part_settles entries (in_front BulkIn s) s.bulk_in (in_back BulkIn s) (owed_in entries BulkIn s ties.owed)))
    ties.whole

clears_last : (entries : List Outstanding) (s : State) (served : Served) → TiesAt entries s → abort.ClearsAll s served → ServedLasts entries served
clears_last entries s served ties (abort.DoesClear t logs is) =
    let mid : State = with_queue BulkIn (without_part s.bulk_in) s in
    let cleared : LastsAt entries (part_answer s.bulk_in ++ halt_answers BulkOut s) (halts BulkOut mid) =
    lasts_append entries (part_answer s.bulk_in) (halt_answers BulkOut s) (pending mid) mid.bulk_out (pending (halts BulkOut mid)) (halts BulkOut mid).bulk_out
    (part_lasts entries s ties) (λ later now. halts_last later BulkOut mid now) in
    served_by entries served _ is (same_lasts entries _ (abort.cleared s) t (logs_same _ _ t logs) cleared)

-- ---- the status byte

polls_same : (seq tag : ℕ) (s t : State) → Polls seq tag s t → Same s t
polls_same seq tag s t (DoesPoll mid logs i) =
    let same = logs_same _ s mid logs in
    subst (λ (v : State). Same s v) (sym i) (record { submits = same.submits; out = same.out })

reads_last : (entries : List Outstanding) (tag : ℕ) (submit : Pending) (s : State) (served : Served) → TiesAt entries s
    → ReadsStatus tag submit s served → ServedLasts entries served
reads_last entries tag submit s served ties (BadTag bad is) = served_by entries served _ is (stays entries s ties)
reads_last entries tag submit s served ties (PolledBefore good polled is) = served_by entries served _ is (stays entries s ties)
reads_last entries tag submit s served ties (Busy good unpolled queued is) = served_by entries served _ is (stays entries s ties)
reads_last entries tag submit s served ties (PolledNow t good unpolled none polls is) =
    served_by entries served _ is (quiet entries s t (polls_same submit.head.seqnum tag s t polls) ties)

operates_last : (entries : List Outstanding) (act : RemoteAct) (s : State) (served : Served) → TiesAt entries s → Operates act s served
    → ServedLasts entries served
operates_last entries act s served ties (DoesOperate t logs is) = served_by entries served _ is (quiet entries s t (logs_same _ s t logs) ties)

-- ---- requests

serves_last : (request : ClassRequest) (entries : List Outstanding) (submit : Pending) (s : State) (served : Served) → TiesAt entries s
    → Serves request submit s served → ServedLasts entries served
serves_last (AbortOut tag) entries submit s served ties serves = aborts_out_last entries tag s served ties serves
serves_last CheckOut entries submit s served ties serves = served_by entries served _ serves (checked_out_lasts entries s.running s ties)
serves_last (AbortIn tag) entries submit s served ties serves = aborts_in_last entries tag s served ties serves
serves_last CheckIn entries submit s served ties serves = served_by entries served _ serves (checked_in_lasts entries s.running s ties)
serves_last Clear entries submit s served ties serves = clears_last entries s served ties serves
serves_last CheckClear entries submit s served ties serves = served_by entries served _ serves (checked_clear_lasts entries s.running s ties)
serves_last Capabilities entries submit s served ties serves = served_by entries served _ serves (stays entries s ties)
serves_last Pulse entries submit s served ties serves = served_by entries served _ serves (stays entries s ties)
serves_last (ReadStatus tag) entries submit s served ties serves = reads_last entries tag submit s served ties serves
serves_last (Ren true) entries submit s served ties serves = operates_last entries _ s served ties serves
serves_last (Ren false) entries submit s served ties serves = operates_last entries _ s served ties serves
serves_last GoLocal entries submit s served ties serves = operates_last entries _ s served ties serves
serves_last Lockout entries submit s served ties serves = operates_last entries _ s served ties serves

halt_same : (endpoint : Endpoint) (halted : Bool) (s : State) → Same s (with_halt endpoint halted s)
halt_same Control halted s = record { submits = refl; out = refl }
halt_same BulkOut halted s = record { submits = refl; out = refl }
halt_same BulkIn halted s = record { submits = refl; out = refl }
halt_same InterruptIn halted s = record { submits = refl; out = refl }

effect_same : (request : Standard) (s : State) → Same s (standard_effect request s)
effect_same GetDeviceStatus s = record { submits = refl; out = refl }
effect_same GetInterfaceStatus s = record { submits = refl; out = refl }
effect_same (GetEndpointStatus endpoint) s = record { submits = refl; out = refl }
effect_same (ClearHalt endpoint) s = halt_same endpoint false s
effect_same GetDeviceDescriptor s = record { submits = refl; out = refl }
effect_same GetConfigurationDescriptor s = record { submits = refl; out = refl }
effect_same (GetString index) s = record { submits = refl; out = refl }
effect_same GetConfiguration s = record { submits = refl; out = refl }
effect_same SetConfiguration s = record { submits = refl; out = refl }
effect_same GetInterface s = record { submits = refl; out = refl }
effect_same SetInterface s = record { submits = refl; out = refl }

-- the first control submit is answered with data
control_lasts : (entries : List Outstanding) (s : State) (submit : Pending) (behind : List Pending) (setup : Setup) (layout : List ℕ)
    → s.control ≡ submit ∷ behind → TiesAt entries s → LastsAt entries (control_answer submit setup layout ∷ []) (with_queue Control behind s)
control_lasts entries s submit behind setup layout is ties =
    first_lasts entries Control s submit behind success (sent_back submit.head.dir _ layout) is success_is
    (sent_back_fits submit.head.dir submit.head.length setup.length layout) ties

pub answers_last : (entries : List Outstanding) (s : State) (puts : List Put) (t : State) → TiesAt entries s → Answers s puts t → LastsAt entries puts t
answers_last entries s puts t ties (ByClass submit behind setup request served is asks row serves a i) =
    let mid : State = record s { control = behind } in
    lasts_at entries puts (control_answer submit setup served.layout ∷ [] ++ served.behind) t served.state a i
    (lasts_append entries (control_answer submit setup served.layout ∷ []) served.behind (pending mid) mid.bulk_out (pending served.state) served.state.bulk_out
    (control_lasts entries s submit behind setup served.layout is ties)
    (λ later now. serves_last request later submit mid served now serves))
answers_last entries s puts t ties (ByStandard submit behind setup request is asks row a i) =
    let mid : State = record s { control = behind } in
    lasts_at entries puts _ t _ a i
    (same_lasts entries _ mid (standard_effect request mid) (effect_same request mid) (control_lasts entries s submit behind setup (standard_layout request s) is ties))
answers_last entries s puts t ties (Unknown submit behind setup is asks unknown a i) =
    lasts_at entries puts _ t _ a i (first_lasts entries Control s submit behind stalled [] is stalled_is (omega arith) ties)

pub postpones_last : (entries : List Outstanding) (s : State) (puts : List Put) (t : State) → TiesAt entries s → Postpones s puts t → LastsAt entries puts t
postpones_last entries s puts t ties (DoesPostpone submit behind setup request layout is asks row stays_pending a i) =
    lasts_at entries puts _ t _ a i (control_lasts entries s submit behind setup layout is ties)

pub polls_first_ties : (entries : List Outstanding) (s t : State) → TiesAt entries s → PollsFirst s t → TiesAt entries t
polls_first_ties entries s t ties (DoesPollFirst submit behind setup tag is asks row good unpolled none polls) =
    same_ties entries _ t (polls_same submit.head.seqnum tag _ t polls) (record {
      owed = owed_changed entries Control s submit behind submit.moved submit.left true is (is_owed_first entries Control s submit behind is ties.owed).fits ties.owed;
      whole = ties.whole;
    })

-- what the other endpoints do is determined
use Rattle.std.proofs.Common.{◌≡◌, ◌∙◌, inl, inr, ℕ, ◌*◌, ◌≤◌, Bool, true, false, List, [], ◌∷◌, ◌++◌, Option, Some, None, length, ap, sym, subst, arith}
use Rattle.usb_setup.specs.declared.setup.Setup.{Setup}
use Rattle.tmc_wire.specs.declared.class_request.ClassRequest.{ClassRequest}
use Rattle.tmc_wire.specs.declared.class_request.ClassRequest.TheVariants.{AbortOut, CheckOut, AbortIn, CheckIn, Clear, CheckClear, Capabilities, Pulse, ReadStatus, Ren, GoLocal, Lockout}
use Rattle.tmc_wire.specs.ControlTable.{IsRow}
use Rattle.tmc_wire.specs.ClassStatus.{STATUS_SUCCESS}
use Rattle.instr_plain.specs.declared.log.LogEntry.TheVariants as entry
use Rattle.tmc_law.specs.Endpoint.{BulkOut, BulkIn, packet_size, ends}
use Rattle.tmc_law.specs.State.{State, Pending, Piece, Waiting, Side, Idle, Owed, Sending, Running, Nothing, AbortsOut, AbortsIn, Clears, Packet, StatusPacket, room}
use Rattle.tmc_law.specs.Put.{Put, answer_of, ended, success, stalled}
use Rattle.tmc_law.specs.Control.{Asks, control_answer}
use Rattle.tmc_law.specs.Halts.{halt_answers}
use Rattle.tmc_law.specs.Logging.{Logs, is_queued, unread}
use Rattle.instr_plain.specs.Standing.{polled_byte}
use Rattle.tmc_law.specs.BulkOut as out
use Rattle.tmc_law.specs.BulkIn as «in»
use Rattle.tmc_law.specs.BulkIn.{filled, given, piece_bytes}
use Rattle.tmc_law.specs.Aborts as aborts
use Rattle.tmc_law.specs.Aborts.{Served}
use Rattle.tmc_law.specs.Status as status
use Rattle.tmc_law.specs.Status.{is_status}
use Rattle.tmc_law.specs.Class as class
use Rattle.tmc_law.specs.Standard.{Standard, IsStandard, standard_layout, standard_effect}
use Rattle.tmc_law.proofs.SetupRows.{not_both, one_standard}
use Rattle.tmc_law.proofs.OneEffect.{OneMeaning, Once, Same, ap2, first_one, logs_one, none_some, waiting_one}

bools : {A : Type 0} (b : Bool) → b ≡ true → b ≡ false → A
bools b p q = let e : true ≡ false = sym p ∙ q in absurd (cc)

-- ---- what waits

pub executes_one : (s t u : State) → Once s.standing → out.Executes s t → out.Executes s u → t ≡ u
executes_one s t u once (out.DoesExecute seq message waits logs) (out.DoesExecute seq2 message2 waits2 logs2) =
    let same : (let w : Waiting = record { seq = seq; message = message } in w) ≡ record { seq = seq2; message = message2 } = waiting_one s.waiting _ _ waits waits2 in
    logs_one (entry.Exec seq message) (record s { waiting = None }) t u once logs
    (subst (λ (w : Waiting). Logs (entry.Exec w.seq w.message) (record s { waiting = None }) u) (sym same) logs2)

-- ---- Bulk-IN

abbrev tag_owed : Side → ℕ
tag_owed (Owed tag size) = tag
tag_owed _ = 0

pub begins_one : (s t u : State) (count : ℕ) → Once s.standing → «in».Begins s count t → «in».Begins s count u → t ≡ u
begins_one s t u count once («in».DoesBegin tag size owes free low high logs) («in».DoesBegin tag2 size2 owes2 free2 low2 high2 logs2) =
    let same : tag ≡ tag2 = ap (λ (x : Side). tag_owed x) (sym owes ∙ owes2) in
    logs_one (entry.Took count) (record s { side = Sending (record { tag = tag; size = count; left = piece_bytes tag count (unread s) }) }) t u once logs
    (subst (λ (n : ℕ). Logs (entry.Took count) (record s { side = Sending (record { tag = n; size = count; left = piece_bytes n count (unread s) }) }) u) (sym same) logs2)

abbrev piece_or : Side → Piece → Piece
piece_or (Sending piece) other = piece
piece_or _ other = other

piece_one : (side : Side) (a b : Piece) → side ≡ Sending a → side ≡ Sending b → a ≡ b
piece_one side a b p q = ap (λ (x : Side). piece_or x a) (sym p ∙ q)

abbrev given_in : Running → ℕ
given_in (AbortsIn wanting n) = n
given_in _ = 0

given_one : (running : Running) (a b : ℕ) → running ≡ AbortsIn true a → running ≡ AbortsIn true b → a ≡ b
given_one running a b p q = ap (λ (x : Running). given_in x) (sym p ∙ q)

wanted : {A : Type 0} (s : State) (n : ℕ) → s.running ≡ AbortsIn true n → «in».NoPacketWanted s.running → A
wanted s n runs free = absurd (subst (λ (x : Running). «in».NoPacketWanted x) runs free)

leaves : (full : ℕ) (submit : Pending) → «in».LeavesRoom full submit → full * packet_size ≤ room submit
leaves full submit (inl none) = rw none (omega arith)
leaves full submit (inr less) = omega arith

pub fills_one : (s : State) (count : ℕ) (a b : List Put) (t u : State) → «in».Fills s count a t → «in».Fills s count b u → Same a t b u
fills_one s count a b t u («in».Ends submit behind n queue runs one put is) («in».Ends submit2 behind2 n2 queue2 runs2 one2 put2 is2) =
    let f = first_one s.bulk_in submit submit2 behind behind2 queue queue2 in (
      put ∙ ap (λ (x : Pending). ended success x ∷ []) f.0 ∙ sym put2,
      is ∙ ap2 (λ (x : List Pending) (y : ℕ). record s { bulk_in = x; side = Idle; running = AbortsIn false y }) f.1 (given_one s.running n n2 runs runs2) ∙ sym is2,
    )
fills_one s count a b t u («in».Ends submit behind n queue runs one put is) («in».Inside submit2 behind2 piece2 queue2 sends2 free2 low2 inside2 fits2 put2 is2) =
    wanted s n runs free2
fills_one s count a b t u («in».Ends submit behind n queue runs one put is) («in».Full submit2 behind2 piece2 queue2 sends2 free2 low2 inside2 fits2 put2 is2) =
    wanted s n runs free2
fills_one s count a b t u («in».Ends submit behind n queue runs one put is) («in».Short submit2 behind2 piece2 full2 queue2 sends2 free2 counts2 leaves_room2 inside2 less2 fits2 put2 is2) =
    wanted s n runs free2
fills_one s count a b t u («in».Ends submit behind n queue runs one put is) («in».Overflows submit2 behind2 piece2 full2 queue2 sends2 free2 counts2 leaves_room2 inside2 over2 put2 is2) =
    wanted s n runs free2
fills_one s count a b t u («in».Inside submit behind piece queue sends free low inside fits put is) («in».Ends submit2 behind2 n2 queue2 runs2 one2 put2 is2) =
    wanted s n2 runs2 free
fills_one s count a b t u («in».Inside submit behind piece queue sends free low inside fits put is) («in».Inside submit2 behind2 piece2 queue2 sends2 free2 low2 inside2 fits2 put2 is2) =
    let f = first_one s.bulk_in submit submit2 behind behind2 queue queue2 in
    let p = piece_one s.side piece piece2 sends sends2 in (
      put ∙ sym put2,
      is
          ∙ ap2 (λ (x : List Pending) (y : Piece). record s { bulk_in = x; side = Sending (given (count * packet_size) y) })
          (ap2 (λ (x : Pending) (y : List Pending). x ∷ y) (ap2 (λ (x : Piece) (y : Pending). filled (count * packet_size) x y) p f.0) f.1) p
          ∙ sym is2,
    )
fills_one s count a b t u («in».Inside submit behind piece queue sends free low inside fits put is) («in».Full submit2 behind2 piece2 queue2 sends2 free2 low2 inside2 fits2 put2 is2) =
    let f = first_one s.bulk_in submit submit2 behind behind2 queue queue2 in
    let p = piece_one s.side piece piece2 sends sends2 in
    absurd (omega (arith, low, inside, fits, low2, inside2, fits2, ap (λ (x : Pending). room x) f.0, ap (λ (x : Piece). length x.left) p))
fills_one s count a b t u («in».Inside submit behind piece queue sends free low inside fits put is) («in».Short submit2 behind2 piece2 full2 queue2 sends2 free2 counts2 leaves_room2 inside2 less2 fits2 put2 is2) =
    let f = first_one s.bulk_in submit submit2 behind behind2 queue queue2 in
    let p = piece_one s.side piece piece2 sends sends2 in
    absurd (omega (arith, low, inside, fits, counts2, inside2, less2, fits2, leaves full2 submit2 leaves_room2, ap (λ (x : Pending). room x) f.0, ap (λ (x : Piece). length x.left) p))
fills_one s count a b t u («in».Inside submit behind piece queue sends free low inside fits put is) («in».Overflows submit2 behind2 piece2 full2 queue2 sends2 free2 counts2 leaves_room2 inside2 over2 put2 is2) =
    let f = first_one s.bulk_in submit submit2 behind behind2 queue queue2 in
    let p = piece_one s.side piece piece2 sends sends2 in
    absurd (omega (arith, low, inside, fits, counts2, inside2, over2, leaves full2 submit2 leaves_room2, ap (λ (x : Pending). room x) f.0, ap (λ (x : Piece). length x.left) p))
fills_one s count a b t u («in».Full submit behind piece queue sends free low inside fits put is) («in».Ends submit2 behind2 n2 queue2 runs2 one2 put2 is2) =
    wanted s n2 runs2 free
fills_one s count a b t u («in».Full submit behind piece queue sends free low inside fits put is) («in».Inside submit2 behind2 piece2 queue2 sends2 free2 low2 inside2 fits2 put2 is2) =
    let f = first_one s.bulk_in submit submit2 behind behind2 queue queue2 in
    let p = piece_one s.side piece piece2 sends sends2 in
    absurd (omega (arith, low, inside, fits, low2, inside2, fits2, ap (λ (x : Pending). room x) f.0, ap (λ (x : Piece). length x.left) p))
fills_one s count a b t u («in».Full submit behind piece queue sends free low inside fits put is) («in».Full submit2 behind2 piece2 queue2 sends2 free2 low2 inside2 fits2 put2 is2) =
    let f = first_one s.bulk_in submit submit2 behind behind2 queue queue2 in
    let p = piece_one s.side piece piece2 sends sends2 in (
      put ∙ ap2 (λ (x : Piece) (y : Pending). ended success (filled (count * packet_size) x y) ∷ []) p f.0 ∙ sym put2,
      is ∙ ap2 (λ (x : List Pending) (y : Piece). record s { bulk_in = x; side = Sending (given (count * packet_size) y) }) f.1 p ∙ sym is2,
    )
fills_one s count a b t u («in».Full submit behind piece queue sends free low inside fits put is) («in».Short submit2 behind2 piece2 full2 queue2 sends2 free2 counts2 leaves_room2 inside2 less2 fits2 put2 is2) =
    let f = first_one s.bulk_in submit submit2 behind behind2 queue queue2 in
    let p = piece_one s.side piece piece2 sends sends2 in
    absurd (omega (arith, low, inside, fits, counts2, inside2, less2, fits2, leaves full2 submit2 leaves_room2, ap (λ (x : Pending). room x) f.0, ap (λ (x : Piece). length x.left) p))
fills_one s count a b t u («in».Full submit behind piece queue sends free low inside fits put is) («in».Overflows submit2 behind2 piece2 full2 queue2 sends2 free2 counts2 leaves_room2 inside2 over2 put2 is2) =
    let f = first_one s.bulk_in submit submit2 behind behind2 queue queue2 in
    let p = piece_one s.side piece piece2 sends sends2 in
    absurd (omega (arith, low, inside, fits, counts2, inside2, over2, leaves full2 submit2 leaves_room2, ap (λ (x : Pending). room x) f.0, ap (λ (x : Piece). length x.left) p))
fills_one s count a b t u («in».Short submit behind piece full queue sends free counts leaves_room inside less fits put is) («in».Ends submit2 behind2 n2 queue2 runs2 one2 put2 is2) =
    wanted s n2 runs2 free
fills_one s count a b t u («in».Short submit behind piece full queue sends free counts leaves_room inside less fits put is) («in».Inside submit2 behind2 piece2 queue2 sends2 free2 low2 inside2 fits2 put2 is2) =
    let f = first_one s.bulk_in submit submit2 behind behind2 queue queue2 in
    let p = piece_one s.side piece piece2 sends sends2 in
    absurd (omega (arith, counts, inside, less, fits, leaves full submit leaves_room, low2, inside2, fits2, ap (λ (x : Pending). room x) f.0, ap (λ (x : Piece). length x.left) p))
fills_one s count a b t u («in».Short submit behind piece full queue sends free counts leaves_room inside less fits put is) («in».Full submit2 behind2 piece2 queue2 sends2 free2 low2 inside2 fits2 put2 is2) =
    let f = first_one s.bulk_in submit submit2 behind behind2 queue queue2 in
    let p = piece_one s.side piece piece2 sends sends2 in
    absurd (omega (arith, counts, inside, less, fits, leaves full submit leaves_room, low2, inside2, fits2, ap (λ (x : Pending). room x) f.0, ap (λ (x : Piece). length x.left) p))
fills_one s count a b t u («in».Short submit behind piece full queue sends free counts leaves_room inside less fits put is) («in».Short submit2 behind2 piece2 full2 queue2 sends2 free2 counts2 leaves_room2 inside2 less2 fits2 put2 is2) =
    let f = first_one s.bulk_in submit submit2 behind behind2 queue queue2 in
    let p = piece_one s.side piece piece2 sends sends2 in (
      put ∙ ap2 (λ (x : Piece) (y : Pending). ended success (filled (length x.left) x y) ∷ []) p f.0 ∙ sym put2,
      is ∙ ap (λ (x : List Pending). record s { bulk_in = x; side = Idle }) f.1 ∙ sym is2,
    )
fills_one s count a b t u («in».Short submit behind piece full queue sends free counts leaves_room inside less fits put is) («in».Overflows submit2 behind2 piece2 full2 queue2 sends2 free2 counts2 leaves_room2 inside2 over2 put2 is2) =
    let f = first_one s.bulk_in submit submit2 behind behind2 queue queue2 in
    let p = piece_one s.side piece piece2 sends sends2 in
    absurd (omega (arith, counts, inside, less, fits, leaves full submit leaves_room, counts2, inside2, over2, leaves full2 submit2 leaves_room2, ap (λ (x : Pending). room x) f.0, ap (λ (x : Piece). length x.left) p))
fills_one s count a b t u («in».Overflows submit behind piece full queue sends free counts leaves_room inside over put is) («in».Ends submit2 behind2 n2 queue2 runs2 one2 put2 is2) =
    wanted s n2 runs2 free
fills_one s count a b t u («in».Overflows submit behind piece full queue sends free counts leaves_room inside over put is) («in».Inside submit2 behind2 piece2 queue2 sends2 free2 low2 inside2 fits2 put2 is2) =
    let f = first_one s.bulk_in submit submit2 behind behind2 queue queue2 in
    let p = piece_one s.side piece piece2 sends sends2 in
    absurd (omega (arith, counts, inside, over, leaves full submit leaves_room, low2, inside2, fits2, ap (λ (x : Pending). room x) f.0, ap (λ (x : Piece). length x.left) p))
fills_one s count a b t u («in».Overflows submit behind piece full queue sends free counts leaves_room inside over put is) («in».Full submit2 behind2 piece2 queue2 sends2 free2 low2 inside2 fits2 put2 is2) =
    let f = first_one s.bulk_in submit submit2 behind behind2 queue queue2 in
    let p = piece_one s.side piece piece2 sends sends2 in
    absurd (omega (arith, counts, inside, over, leaves full submit leaves_room, low2, inside2, fits2, ap (λ (x : Pending). room x) f.0, ap (λ (x : Piece). length x.left) p))
fills_one s count a b t u («in».Overflows submit behind piece full queue sends free counts leaves_room inside over put is) («in».Short submit2 behind2 piece2 full2 queue2 sends2 free2 counts2 leaves_room2 inside2 less2 fits2 put2 is2) =
    let f = first_one s.bulk_in submit submit2 behind behind2 queue queue2 in
    let p = piece_one s.side piece piece2 sends sends2 in
    absurd (omega (arith, counts, inside, over, leaves full submit leaves_room, counts2, inside2, less2, fits2, leaves full2 submit2 leaves_room2, ap (λ (x : Pending). room x) f.0, ap (λ (x : Piece). length x.left) p))
fills_one s count a b t u («in».Overflows submit behind piece full queue sends free counts leaves_room inside over put is) («in».Overflows submit2 behind2 piece2 full2 queue2 sends2 free2 counts2 leaves_room2 inside2 over2 put2 is2) =
    let f = first_one s.bulk_in submit submit2 behind behind2 queue queue2 in
    let p = piece_one s.side piece piece2 sends sends2 in
    let same : full ≡ full2 = omega (arith, counts, counts2) in (
      put
          ∙ ap2 (λ (x : Pending) (y : List Pending). halt_answers BulkIn (record s { bulk_in = x ∷ y }))
          (ap (λ (k : ℕ). filled (k * packet_size) piece submit) same ∙ ap2 (λ (x : Piece) (y : Pending). filled (full2 * packet_size) x y) p f.0) f.1
          ∙ sym put2,
      is ∙ sym is2,
    )

-- ---- class requests

declined_one : (running : Running) (in_progress : Option ℕ) (tag : ℕ) (a b : List ℕ) → aborts.Declined running in_progress tag a → aborts.Declined running in_progress tag b → a ≡ b
declined_one running in_progress tag a b (aborts.Busy runs is) (aborts.Busy runs2 is2) = is ∙ sym is2
declined_one running in_progress tag a b (aborts.Busy runs is) (aborts.NoTransfer free2 none2 is2) = absurd (runs free2)
declined_one running in_progress tag a b (aborts.Busy runs is) (aborts.Another other2 free2 some2 differs2 is2) = absurd (runs free2)
declined_one running in_progress tag a b (aborts.NoTransfer free none is) (aborts.Busy runs2 is2) = absurd (runs2 free)
declined_one running in_progress tag a b (aborts.NoTransfer free none is) (aborts.NoTransfer free2 none2 is2) = is ∙ sym is2
declined_one running in_progress tag a b (aborts.NoTransfer free none is) (aborts.Another other2 free2 some2 differs2 is2) = none_some in_progress other2 none some2
declined_one running in_progress tag a b (aborts.Another other free some differs is) (aborts.Busy runs2 is2) = absurd (runs2 free)
declined_one running in_progress tag a b (aborts.Another other free some differs is) (aborts.NoTransfer free2 none2 is2) = none_some in_progress other none2 some
declined_one running in_progress tag a b (aborts.Another other free some differs is) (aborts.Another other2 free2 some2 differs2 is2) = is ∙ sym is2

served_is : (a b v : Served) → a ≡ v → b ≡ v → a ≡ b
served_is a b v p q = p ∙ sym q

abbrev number_or : Option ℕ → ℕ
number_or None = 0
number_or (Some n) = n

number_one : (o : Option ℕ) (a b : ℕ) → o ≡ Some a → o ≡ Some b → a ≡ b
number_one o a b p q = ap (λ (x : Option ℕ). number_or x) (sym p ∙ q)

-- an abort that begins is not declined
begins_abort : {A : Type 0} (running : Running) (in_progress : Option ℕ) (tag : ℕ) (layout : List ℕ) → aborts.Declined running in_progress tag layout → running ≡ Nothing → in_progress ≡ Some tag → A
begins_abort running in_progress tag layout (aborts.Busy runs is) free some = absurd (runs free)
begins_abort running in_progress tag layout (aborts.NoTransfer free2 none is) free some = none_some in_progress tag none some
begins_abort running in_progress tag layout (aborts.Another other free2 some2 differs is) free some = absurd (differs (number_one in_progress other tag some2 some))

abort_out_one : (tag : ℕ) (s : State) (a b : Served) → aborts.AbortsBulkOut tag s a → aborts.AbortsBulkOut tag s b → a ≡ b
abort_out_one tag s a b (aborts.NotBegun layout declined is) (aborts.NotBegun layout2 declined2 is2) =
    is ∙ ap (λ (x : List ℕ). record { layout = x; behind = []; state = s }) (declined_one s.running (aborts.out_tag s) tag layout layout2 declined declined2) ∙ sym is2
abort_out_one tag s a b (aborts.NotBegun layout declined is) (aborts.DoesAbort free some is2) = begins_abort s.running (aborts.out_tag s) tag layout declined free some
abort_out_one tag s a b (aborts.DoesAbort free some is) (aborts.NotBegun layout declined is2) = begins_abort s.running (aborts.out_tag s) tag layout declined free some
abort_out_one tag s a b (aborts.DoesAbort free some is) (aborts.DoesAbort free2 some2 is2) = is ∙ sym is2

abort_in_one : (tag : ℕ) (s : State) (a b : Served) → aborts.AbortsBulkIn tag s a → aborts.AbortsBulkIn tag s b → a ≡ b
abort_in_one tag s a b (aborts.NotBegun layout declined is) (aborts.NotBegun layout2 declined2 is2) =
    is ∙ ap (λ (x : List ℕ). record { layout = x; behind = []; state = s }) (declined_one s.running (aborts.in_tag s) tag layout layout2 declined declined2) ∙ sym is2
abort_in_one tag s a b (aborts.NotBegun layout declined is) (aborts.DoesAbort free some is2) = begins_abort s.running (aborts.in_tag s) tag layout declined free some
abort_in_one tag s a b (aborts.DoesAbort free some is) (aborts.NotBegun layout declined is2) = begins_abort s.running (aborts.in_tag s) tag layout declined free some
abort_in_one tag s a b (aborts.DoesAbort free some is) (aborts.DoesAbort free2 some2 is2) = is ∙ sym is2

clears_one : (s : State) (a b : Served) → Once s.standing → aborts.ClearsAll s a → aborts.ClearsAll s b → a ≡ b
clears_one s a b once (aborts.DoesClear t logs is) (aborts.DoesClear u logs2 is2) =
    is
    ∙ ap (λ (x : State). record { layout = STATUS_SUCCESS ∷ []; behind = aborts.part_answer s.bulk_in ++ halt_answers BulkOut s; state = x }) (logs_one entry.Clear (aborts.cleared s) t u once logs logs2)
    ∙ sym is2

polls_one : (seq tag : ℕ) (s t u : State) → Once s.standing → status.Polls seq tag s t → status.Polls seq tag s u → t ≡ u
polls_one seq tag s t u once (status.DoesPoll mid logs is) (status.DoesPoll mid2 logs2 is2) =
    is ∙ ap (λ (x : State). record x { packets = x.packets ++ StatusPacket tag (polled_byte s.standing) ∷ [] }) (logs_one (entry.Poll seq) s mid mid2 once logs logs2) ∙ sym is2

reads_status_one : (tag : ℕ) (submit : Pending) (s : State) (a b : Served) → Once s.standing → status.ReadsStatus tag submit s a → status.ReadsStatus tag submit s b → a ≡ b
reads_status_one tag submit s a b once (status.BadTag bad is) (status.BadTag bad2 is2) = is ∙ sym is2
reads_status_one tag submit s a b once (status.BadTag bad is) (status.PolledBefore good2 before2 is2) = absurd (bad good2)
reads_status_one tag submit s a b once (status.BadTag bad is) (status.Busy good2 fresh2 queued2 is2) = absurd (bad good2)
reads_status_one tag submit s a b once (status.BadTag bad is) (status.PolledNow t2 good2 fresh2 free2 polling2 is2) = absurd (bad good2)
reads_status_one tag submit s a b once (status.PolledBefore good before is) (status.BadTag bad2 is2) = absurd (bad2 good)
reads_status_one tag submit s a b once (status.PolledBefore good before is) (status.PolledBefore good2 before2 is2) = is ∙ sym is2
reads_status_one tag submit s a b once (status.PolledBefore good before is) (status.Busy good2 fresh2 queued2 is2) = bools submit.polled before fresh2
reads_status_one tag submit s a b once (status.PolledBefore good before is) (status.PolledNow t2 good2 fresh2 free2 polling2 is2) = bools submit.polled before fresh2
reads_status_one tag submit s a b once (status.Busy good fresh queued is) (status.BadTag bad2 is2) = absurd (bad2 good)
reads_status_one tag submit s a b once (status.Busy good fresh queued is) (status.PolledBefore good2 before2 is2) = bools submit.polled before2 fresh
reads_status_one tag submit s a b once (status.Busy good fresh queued is) (status.Busy good2 fresh2 queued2 is2) = is ∙ sym is2
reads_status_one tag submit s a b once (status.Busy good fresh queued is) (status.PolledNow t2 good2 fresh2 free2 polling2 is2) = bools (is_queued is_status s.packets) queued free2
reads_status_one tag submit s a b once (status.PolledNow t good fresh free polling is) (status.BadTag bad2 is2) = absurd (bad2 good)
reads_status_one tag submit s a b once (status.PolledNow t good fresh free polling is) (status.PolledBefore good2 before2 is2) = bools submit.polled before2 fresh
reads_status_one tag submit s a b once (status.PolledNow t good fresh free polling is) (status.Busy good2 fresh2 queued2 is2) = bools (is_queued is_status s.packets) queued2 free
reads_status_one tag submit s a b once (status.PolledNow t good fresh free polling is) (status.PolledNow t2 good2 fresh2 free2 polling2 is2) =
    is ∙ ap (λ (x : State). record { layout = status.status_layout STATUS_SUCCESS tag; behind = []; state = x }) (polls_one submit.head.seqnum tag s t t2 once polling polling2) ∙ sym is2

operates_one : (act : _) (s : State) (a b : Served) → Once s.standing → class.Operates act s a → class.Operates act s b → a ≡ b
operates_one act s a b once (class.DoesOperate t logs is) (class.DoesOperate u logs2 is2) =
    is ∙ ap (λ (x : State). record { layout = STATUS_SUCCESS ∷ []; behind = []; state = x }) (logs_one (entry.Remote act) s t u once logs logs2) ∙ sym is2

serves_one : (request : ClassRequest) (submit : Pending) (s : State) (a b : Served) → Once s.standing → class.Serves request submit s a → class.Serves request submit s b → a ≡ b
serves_one (AbortOut tag) submit s a b once h k = abort_out_one tag s a b h k
serves_one CheckOut submit s a b once h k = h ∙ sym k
serves_one (AbortIn tag) submit s a b once h k = abort_in_one tag s a b h k
serves_one CheckIn submit s a b once h k = h ∙ sym k
serves_one Clear submit s a b once h k = clears_one s a b once h k
serves_one CheckClear submit s a b once h k = h ∙ sym k
serves_one Capabilities submit s a b once h k = h ∙ sym k
serves_one Pulse submit s a b once h k = h ∙ sym k
serves_one (ReadStatus tag) submit s a b once h k = reads_status_one tag submit s a b once h k
serves_one (Ren true) submit s a b once h k = operates_one _ s a b once h k
serves_one (Ren false) submit s a b once h k = operates_one _ s a b once h k
serves_one GoLocal submit s a b once h k = operates_one _ s a b once h k
serves_one Lockout submit s a b once h k = operates_one _ s a b once h k

-- ---- control submits

-- the setup of the first control submit
pub setup_one : OneMeaning → (submit submit2 : Pending) (a b : Setup) → submit ≡ submit2 → Asks submit a → Asks submit2 b → a ≡ b
setup_one meaning submit submit2 a b same p q = meaning.asks submit a b p (subst (λ (x : Pending). Asks x b) (sym same) q)

put_one : (submit submit2 : Pending) (a b : Setup) (v w : Served) → submit ≡ submit2 → a ≡ b → v ≡ w → control_answer submit a v.layout ∷ v.behind ≡ control_answer submit2 b w.layout ∷ w.behind
put_one submit submit2 a b v w p q r =
    ap (λ (x : Pending). control_answer x a v.layout ∷ v.behind) p ∙ ap (λ (x : Setup). control_answer submit2 x v.layout ∷ v.behind) q ∙ ap (λ (x : Served). control_answer submit2 b x.layout ∷ x.behind) r

layout_one : (submit submit2 : Pending) (a b : Setup) (v w : List ℕ) → submit ≡ submit2 → a ≡ b → v ≡ w → control_answer submit a v ∷ [] ≡ control_answer submit2 b w ∷ []
layout_one submit submit2 a b v w p q r =
    ap (λ (x : Pending). control_answer x a v ∷ []) p ∙ ap (λ (x : Setup). control_answer submit2 x v ∷ []) q ∙ ap (λ (x : List ℕ). control_answer submit2 b x ∷ []) r

pub answers_one : (s : State) (a b : List Put) (t u : State) → Once s.standing → class.Answers s a t → class.Answers s b u → Same a t b u
answers_one s a b t u once (class.ByClass submit behind setup request v queue asks row serving put is) (class.ByClass submit2 behind2 setup2 request2 v2 queue2 asks2 row2 serving2 put2 is2) =
    let f = first_one s.control submit submit2 behind behind2 queue queue2 in
    let same = setup_one once.meaning submit submit2 setup setup2 f.0 asks asks2 in
    let own = once.meaning.row setup request request2 row (subst (λ (x : Setup). IsRow ends request2 x) (sym same) row2) in
    let served : v ≡ v2 =
    serves_one request submit (record s { control = behind }) v v2 once serving
    (subst (λ (x : ClassRequest). class.Serves x submit (record s { control = behind }) v2) (sym own)
    (subst (λ (x : Pending). class.Serves request2 x (record s { control = behind }) v2) (sym f.0)
    (subst (λ (x : List Pending). class.Serves request2 submit2 (record s { control = x }) v2) (sym f.1) serving2))) in
    (put ∙ put_one submit submit2 setup setup2 v v2 f.0 same served ∙ sym put2, is ∙ ap (λ (x : Served). x.state) served ∙ sym is2)
answers_one s a b t u once (class.ByClass submit behind setup request v queue asks row serving put is) (class.ByStandard submit2 behind2 setup2 request2 queue2 asks2 row2 put2 is2) =
    let f = first_one s.control submit submit2 behind behind2 queue queue2 in
    let same = setup_one once.meaning submit submit2 setup setup2 f.0 asks asks2 in
    absurd (not_both setup2 request request2 (subst (λ (x : Setup). IsRow ends request x) same row) row2)
answers_one s a b t u once (class.ByClass submit behind setup request v queue asks row serving put is) (class.Unknown submit2 behind2 setup2 queue2 asks2 unknown2 put2 is2) =
    let f = first_one s.control submit submit2 behind behind2 queue queue2 in
    let same = setup_one once.meaning submit submit2 setup setup2 f.0 asks asks2 in
    absurd (unknown2.no_class request (subst (λ (x : Setup). IsRow ends request x) same row))
answers_one s a b t u once (class.ByStandard submit behind setup request queue asks row put is) (class.ByClass submit2 behind2 setup2 request2 v2 queue2 asks2 row2 serving2 put2 is2) =
    let f = first_one s.control submit submit2 behind behind2 queue queue2 in
    let same = setup_one once.meaning submit submit2 setup setup2 f.0 asks asks2 in
    absurd (not_both setup2 request2 request row2 (subst (λ (x : Setup). IsStandard request x) same row))
answers_one s a b t u once (class.ByStandard submit behind setup request queue asks row put is) (class.ByStandard submit2 behind2 setup2 request2 queue2 asks2 row2 put2 is2) =
    let f = first_one s.control submit submit2 behind behind2 queue queue2 in
    let same = setup_one once.meaning submit submit2 setup setup2 f.0 asks asks2 in
    let own = one_standard setup request request2 row (subst (λ (x : Setup). IsStandard request2 x) (sym same) row2) in (
      put ∙ layout_one submit submit2 setup setup2 (standard_layout request s) (standard_layout request2 s) f.0 same (ap (λ (x : Standard). standard_layout x s) own) ∙ sym put2,
      is ∙ ap2 (λ (x : Standard) (y : List Pending). standard_effect x (record s { control = y })) own f.1 ∙ sym is2,
    )
answers_one s a b t u once (class.ByStandard submit behind setup request queue asks row put is) (class.Unknown submit2 behind2 setup2 queue2 asks2 unknown2 put2 is2) =
    let f = first_one s.control submit submit2 behind behind2 queue queue2 in
    let same = setup_one once.meaning submit submit2 setup setup2 f.0 asks asks2 in
    absurd (unknown2.no_standard request (subst (λ (x : Setup). IsStandard request x) same row))
answers_one s a b t u once (class.Unknown submit behind setup queue asks unknown put is) (class.ByClass submit2 behind2 setup2 request2 v2 queue2 asks2 row2 serving2 put2 is2) =
    let f = first_one s.control submit submit2 behind behind2 queue queue2 in
    let same = setup_one once.meaning submit submit2 setup setup2 f.0 asks asks2 in
    absurd (unknown.no_class request2 (subst (λ (x : Setup). IsRow ends request2 x) (sym same) row2))
answers_one s a b t u once (class.Unknown submit behind setup queue asks unknown put is) (class.ByStandard submit2 behind2 setup2 request2 queue2 asks2 row2 put2 is2) =
    let f = first_one s.control submit submit2 behind behind2 queue queue2 in
    let same = setup_one once.meaning submit submit2 setup setup2 f.0 asks asks2 in
    absurd (unknown.no_standard request2 (subst (λ (x : Setup). IsStandard request2 x) (sym same) row2))
answers_one s a b t u once (class.Unknown submit behind setup queue asks unknown put is) (class.Unknown submit2 behind2 setup2 queue2 asks2 unknown2 put2 is2) =
    let f = first_one s.control submit submit2 behind behind2 queue queue2 in
    let same = setup_one once.meaning submit submit2 setup setup2 f.0 asks asks2 in
    (put ∙ ap (λ (x : Pending). answer_of x.head stalled [] ∷ []) f.0 ∙ sym put2, is ∙ ap (λ (x : List Pending). record s { control = x }) f.1 ∙ sym is2)

stays_one : (running : Running) (request : ClassRequest) (a b : List ℕ) → class.StaysPending running request a → class.StaysPending running request b → a ≡ b
stays_one AbortsOut CheckOut a b p q = p ∙ sym q
stays_one (AbortsIn true n) CheckIn a b p q = p ∙ sym q
stays_one (AbortsIn false n) CheckIn a b p q = p ∙ sym q
stays_one Clears CheckClear a b p q = p ∙ sym q
stays_one _ _ a b p q = absurd p

pub postpones_one : (s : State) (a b : List Put) (t u : State) → Once s.standing → class.Postpones s a t → class.Postpones s b u → Same a t b u
postpones_one s a b t u once (class.DoesPostpone submit behind setup request layout queue asks row stays put is) (class.DoesPostpone submit2 behind2 setup2 request2 layout2 queue2 asks2 row2 stays2 put2 is2) =
    let f = first_one s.control submit submit2 behind behind2 queue queue2 in
    let same = setup_one once.meaning submit submit2 setup setup2 f.0 asks asks2 in
    let own = once.meaning.row setup request request2 row (subst (λ (x : Setup). IsRow ends request2 x) (sym same) row2) in (
      put
          ∙ layout_one submit submit2 setup setup2 layout layout2 f.0 same
          (stays_one s.running request layout layout2 stays (subst (λ (x : ClassRequest). class.StaysPending s.running x layout2) (sym own) stays2))
          ∙ sym put2,
      is ∙ ap (λ (x : List Pending). record s { control = x }) f.1 ∙ sym is2,
    )

abbrev status_tag : ClassRequest → ℕ
status_tag (ReadStatus tag) = tag
status_tag _ = 0

pub tag_one : OneMeaning → (setup setup2 : Setup) (tag tag2 : ℕ) → setup ≡ setup2 → IsRow ends (ReadStatus tag) setup → IsRow ends (ReadStatus tag2) setup2 → tag ≡ tag2
tag_one meaning setup setup2 tag tag2 same row row2 = ap (λ (x : ClassRequest). status_tag x) (meaning.row setup (ReadStatus tag) (ReadStatus tag2) row (subst (λ (x : Setup). IsRow ends (ReadStatus tag2) x) (sym same) row2))

pub polls_first_one : (s t u : State) → Once s.standing → class.PollsFirst s t → class.PollsFirst s u → t ≡ u
polls_first_one s t u once (class.DoesPollFirst submit behind setup tag queue asks row good fresh free polling) (class.DoesPollFirst submit2 behind2 setup2 tag2 queue2 asks2 row2 good2 fresh2 free2 polling2) =
    let f = first_one s.control submit submit2 behind behind2 queue queue2 in
    let tags = tag_one once.meaning setup setup2 tag tag2 (setup_one once.meaning submit submit2 setup setup2 f.0 asks asks2) row row2 in
    polls_one submit.head.seqnum tag (record s { control = record submit { polled = true } ∷ behind }) t u once polling
    (subst (λ (n : ℕ). status.Polls submit.head.seqnum n (record s { control = record submit { polled = true } ∷ behind }) u) (sym tags)
    (subst (λ (x : Pending). status.Polls x.head.seqnum tag2 (record s { control = record x { polled = true } ∷ behind }) u) (sym f.0)
    (subst (λ (x : List Pending). status.Polls submit2.head.seqnum tag2 (record s { control = record submit2 { polled = true } ∷ x }) u) (sym f.1) polling2)))

-- ---- packets

pub notifies_one : (s : State) (a b : List Put) (t u : State) → status.Notifies s a t → status.Notifies s b u → Same a t b u
notifies_one s a b t u (status.Gives submit behind packet packets queue there long put is) (status.Gives submit2 behind2 packet2 packets2 queue2 there2 long2 put2 is2) =
    let f = first_one s.interrupt_in submit submit2 behind behind2 queue queue2 in
    let g = first_one s.packets packet packet2 packets packets2 there there2 in (
      put ∙ ap2 (λ (x : Packet) (y : Pending). ended success (status.notified x y) ∷ []) g.0 f.0 ∙ sym put2,
      is ∙ ap2 (λ (x : List Pending) (y : List Packet). record s { interrupt_in = x; packets = y }) f.1 g.1 ∙ sym is2,
    )
notifies_one s a b t u (status.Gives submit behind packet packets queue there long put is) (status.NoRoom submit2 behind2 packet2 packets2 queue2 there2 short put2 is2) =
    let f = first_one s.interrupt_in submit submit2 behind behind2 queue queue2 in absurd (omega (arith, long, short, ap (λ (x : Pending). x.head.length) f.0))
notifies_one s a b t u (status.NoRoom submit behind packet packets queue there short put is) (status.Gives submit2 behind2 packet2 packets2 queue2 there2 long put2 is2) =
    let f = first_one s.interrupt_in submit submit2 behind behind2 queue queue2 in absurd (omega (arith, long, short, ap (λ (x : Pending). x.head.length) f.0))
notifies_one s a b t u (status.NoRoom submit behind packet packets queue there short put is) (status.NoRoom submit2 behind2 packet2 packets2 queue2 there2 short2 put2 is2) =
    (put ∙ sym put2, is ∙ sym is2)

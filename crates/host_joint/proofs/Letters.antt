-- the requests of the words, and what the device does at each
use Rattle.std.proofs.Common.{◌≡◌, ◌∙◌, ℕ, true, false, List, [], ◌∷◌, ◌++◌, length, Option, Some, None, refl, ap, sym, subst}
use Rattle.tmc_wire.specs.declared.class_request.ClassRequest.{ClassRequest}
use Rattle.tmc_wire.specs.declared.class_request.ClassRequest.TheVariants.{AbortOut, CheckOut, AbortIn, CheckIn, Clear, CheckClear}
use Rattle.tmc_wire.specs.ClassAnswer.{answer_length}
use Rattle.tmc_wire.specs.ClassStatus.{STATUS_PENDING, STATUS_FAILED}
use Rattle.tmc_law.specs.Endpoint.{Endpoint, Control, BulkOut, BulkIn, InterruptIn}
use Rattle.tmc_law.specs.State.{State, with_halt, Pending, Transfer, Side, Idle, Owed, Sending, Running, Nothing, AbortsOut, AbortsIn, Clears}
use Rattle.tmc_law.specs.Put.{stalled}
use Rattle.tmc_law.specs.Halts.{all_ended, halt_answers}
use Rattle.tmc_law.specs.Class.{StaysPending}
use Rattle.tmc_law.specs.Aborts as aborts
use Rattle.tmc_law.specs.Aborts.{Served, Declined, Busy, NoTransfer, Another, in_tag, out_tag, told_tag, tag_of}
use Rattle.host_joint.specs.Positions as position_of
use Rattle.host_joint.specs.Positions.{Position, IsAt, InTag, NoPiece, IsOwed, IsSent, OutTag, rests, in_begun, in_wants, in_ended, out_begun, out_first, out_unfinished, out_aborted, anything, clears, cleared}
use Rattle.host_joint.specs.Requests.{Choice, Says, SaysOne, SaysOther, out_rests, in_aborts, in_fails, in_checked, in_pending, out_aborts, out_fails, out_checked, out_pending, begins_clear, never, clear_checked, clear_pending, usable_again, usable_cleared}
use Rattle.host_joint.proofs.Resting.{rests_closed, in_begun_closed, in_wants_closed, in_ended_closed, out_begun_closed, out_first_closed, out_unfinished_closed, out_aborted_closed, anything_closed, clears_closed, cleared_closed}
use Rattle.host_joint.proofs.Requesting.{IsLetter, IsClearing}

-- what the answer to a request has to be
abbrev Serving : ClassRequest → Choice → Choice → State → Served → Type 0
Serving request one other s served =
    (served.behind ≡ []) × (length served.layout ≡ answer_length request) × Says one other served.layout served.state × (served.state.control ≡ s.control)

served_is : (request : ClassRequest) (one other : Choice) (s : State) (a b : Served) → a ≡ b → Serving request one other s b → Serving request one other s a
served_is request one other s a b is h = subst (λ (v : Served). Serving request one other s v) (sym is) h

-- ---- tags

none_is_idle : (s : State) → in_tag s ≡ None → s.side ≡ Idle
none_is_idle s none = by s.side none
  where
    by : (x : Side) → in_tag (record s { side = x }) ≡ None → x ≡ Idle
    by Idle e = refl
    by (Owed tag size) e = absurd (cc)
    by (Sending piece) e = absurd (cc)

none_is_free : (s : State) → out_tag s ≡ None → s.transfer ≡ None
none_is_free s none = by s.transfer none
  where
    by : (x : Option Transfer) → out_tag (record s { transfer = x }) ≡ None → x ≡ None
    by None e = refl
    by (Some transfer) e = absurd (cc)

some_is : (a b : ℕ) → Some a ≡ Some b → a ≡ b
some_is a b e = cc

no_some : {B : Type 0} (a : ℕ) (o : Option ℕ) → o ≡ None → o ≡ Some a → B
no_some a o none some = let e : None ≡ Some a = sym none ∙ some in absurd (cc)

in_tag_is : (tag other : ℕ) (s : State) → InTag tag s.side → in_tag s ≡ Some other → other ≡ tag
in_tag_is tag other s (NoPiece idle) some = no_some other (in_tag s) (ap (λ (x : Side). in_tag (record s { side = x })) idle) some
in_tag_is tag other s (IsOwed size owed) some = some_is other tag (sym some ∙ ap (λ (x : Side). in_tag (record s { side = x })) owed)
in_tag_is tag other s (IsSent piece sent is) some = some_is other piece.tag (sym some ∙ ap (λ (x : Side). in_tag (record s { side = x })) sent) ∙ is

out_tag_is : (tag other : ℕ) (s : State) → OutTag tag s.transfer → out_tag s ≡ Some other → other ≡ tag
out_tag_is tag other s (position_of.NoTransfer none) some = no_some other (out_tag s) (ap (λ (x : Option Transfer). out_tag (record s { transfer = x })) none) some
out_tag_is tag other s (position_of.ThisTransfer one is own) some =
    some_is other (tag_of one.header) (sym some ∙ ap (λ (x : Option Transfer). out_tag (record s { transfer = x })) is) ∙ own

-- ---- abort of Bulk-IN

abort_in : (tag : ℕ) (s : State) (served : Served) → IsAt (in_begun tag) s → aborts.AbortsBulkIn tag s served → Serving (AbortIn tag) (in_aborts tag) in_fails s served
abort_in tag s served rest (aborts.NotBegun layout (Busy busy l) is) = absurd (busy rest.running)
abort_in tag s served rest (aborts.NotBegun layout (NoTransfer free none l) is) =
    served_is (AbortIn tag) (in_aborts tag) in_fails s served (record { layout = layout; behind = []; state = s }) is (
      refl,
      ap (λ (x : List ℕ). length x) l,
      SaysOther (l ∙ ap (λ (o : Option ℕ). STATUS_FAILED ∷ told_tag o ∷ []) none)
          (record { bulk_out = rest.bulk_out; bulk_in = rest.bulk_in; running = rest.running; side = none_is_idle s none; out = rest.out; waits = tt; shut = tt }),
      refl,
    )
abort_in tag s served rest (aborts.NotBegun layout (Another other free some differs l) is) = absurd (differs (in_tag_is tag other s rest.side some))
abort_in tag s served rest (aborts.DoesAbort free some is) =
    served_is (AbortIn tag) (in_aborts tag) in_fails s served _ is
    (refl, refl, SaysOne refl (record { bulk_out = rest.bulk_out; bulk_in = rest.bulk_in; running = (_, refl); side = tt; out = rest.out; waits = tt; shut = tt }), refl)

no_pending : {B : Type 0} (r : Running) (layout : List ℕ) (request : ClassRequest) → r ≡ Nothing → StaysPending r request layout → B
no_pending r layout request is h = absurd (subst (λ (x : Running). StaysPending x request layout) is h)

pub abort_in_letter : (tag : ℕ) → IsLetter (AbortIn tag) (in_begun tag) (in_aborts tag) in_fails
abort_in_letter tag = record {
  closed = record { form_closed = in_begun_closed tag; one_closed = in_wants_closed; other_closed = rests_closed };
  no_status = λ g e. cc;
  answers = λ submit s served rest serves. abort_in tag s served rest serves;
  pends = λ s layout rest h. no_pending s.running layout (AbortIn tag) rest.running h;
}

-- ---- its check

check_in : (s : State) (given : ℕ) → s.running ≡ AbortsIn false given → IsAt in_ended s → Serving CheckIn in_checked in_pending s (aborts.checked_in s)
check_in s given is rest = subst (λ (r : Running). Serving CheckIn in_checked in_pending s (aborts.checked_in (record s { running = r }))) (sym is)
    (refl, refl, SaysOne (given, refl) (record { bulk_out = rest.bulk_out; bulk_in = rest.bulk_in; running = refl; side = rest.side; out = rest.out; waits = tt; shut = tt }), refl)

check_in_pends : (s : State) (layout : List ℕ) (given : ℕ) → s.running ≡ AbortsIn false given → IsAt in_ended s → StaysPending s.running CheckIn layout
    → (length layout ≡ answer_length CheckIn) × Says in_checked in_pending layout s
check_in_pends s layout given is rest h =
    let l : layout ≡ aborts.check_in_layout STATUS_PENDING 0 given = subst (λ (r : Running). StaysPending r CheckIn layout) is h in
    (ap (λ (x : List ℕ). length x) l, SaysOther (given, l) rest)

pub check_in_letter : IsLetter CheckIn in_ended in_checked in_pending
check_in_letter = record {
  closed = record { form_closed = in_ended_closed; one_closed = rests_closed; other_closed = in_ended_closed };
  no_status = λ g e. cc;
  answers = λ submit s served rest serves. served_is CheckIn in_checked in_pending s served (aborts.checked_in s) serves (check_in s rest.running.0 rest.running.1 rest);
  pends = λ s layout rest h. check_in_pends s layout rest.running.0 rest.running.1 rest h;
}

-- ---- abort of Bulk-OUT

no_ends : (s : State) → s.bulk_out ≡ [] → halt_answers BulkOut s ≡ []
no_ends s none = ap (λ (q : List Pending). all_ended stalled q) none

abort_out : (tag : ℕ) (s : State) (served : Served) → IsAt (out_begun tag) s → aborts.AbortsBulkOut tag s served → Serving (AbortOut tag) (out_aborts tag) out_fails s served
abort_out tag s served rest (aborts.NotBegun layout (Busy busy l) is) = absurd (busy rest.running)
abort_out tag s served rest (aborts.NotBegun layout (NoTransfer free none l) is) =
    served_is (AbortOut tag) (out_aborts tag) out_fails s served (record { layout = layout; behind = []; state = s }) is (
      refl,
      ap (λ (x : List ℕ). length x) l,
      SaysOther (l ∙ ap (λ (o : Option ℕ). STATUS_FAILED ∷ told_tag o ∷ []) none)
          (record { bulk_out = rest.bulk_out; bulk_in = rest.bulk_in; running = rest.running; side = rest.side; out = none_is_free s none; waits = tt; shut = tt }),
      refl,
    )
abort_out tag s served rest (aborts.NotBegun layout (Another other free some differs l) is) = absurd (differs (out_tag_is tag other s rest.out some))
abort_out tag s served rest (aborts.DoesAbort free some is) =
    served_is (AbortOut tag) (out_aborts tag) out_fails s served _ is
    (no_ends s rest.bulk_out, refl, SaysOne refl (record { bulk_out = refl; bulk_in = rest.bulk_in; running = refl; side = rest.side; out = (refl, refl); waits = tt; shut = refl }), refl)

pub abort_out_letter : (tag : ℕ) → IsLetter (AbortOut tag) (out_begun tag) (out_aborts tag) out_fails
abort_out_letter tag = record {
  closed = record { form_closed = out_begun_closed tag; one_closed = out_aborted_closed; other_closed = out_unfinished_closed };
  no_status = λ g e. cc;
  answers = λ submit s served rest serves. abort_out tag s served rest serves;
  pends = λ s layout rest h. no_pending s.running layout (AbortOut tag) rest.running h;
}

abort_first : (tag : ℕ) (s : State) (served : Served) → IsAt (out_first tag) s → aborts.AbortsBulkOut tag s served → Serving (AbortOut tag) (out_aborts tag) out_rests s served
abort_first tag s served rest (aborts.NotBegun layout (Busy busy l) is) = absurd (busy rest.running)
abort_first tag s served rest (aborts.NotBegun layout (NoTransfer free none l) is) =
    served_is (AbortOut tag) (out_aborts tag) out_rests s served (record { layout = layout; behind = []; state = s }) is (
      refl,
      ap (λ (x : List ℕ). length x) l,
      SaysOther (l ∙ ap (λ (o : Option ℕ). STATUS_FAILED ∷ told_tag o ∷ []) none)
          (record { bulk_out = rest.bulk_out; bulk_in = rest.bulk_in; running = rest.running; side = rest.side; out = (none_is_free s none, rest.out.1); waits = tt; shut = tt }),
      refl,
    )
abort_first tag s served rest (aborts.NotBegun layout (Another other free some differs l) is) = absurd (differs (out_tag_is tag other s rest.out.0 some))
abort_first tag s served rest (aborts.DoesAbort free some is) =
    served_is (AbortOut tag) (out_aborts tag) out_rests s served _ is
    (no_ends s rest.bulk_out, refl, SaysOne refl (record { bulk_out = refl; bulk_in = rest.bulk_in; running = refl; side = rest.side; out = (refl, refl); waits = tt; shut = refl }), refl)

pub abort_first_letter : (tag : ℕ) → IsLetter (AbortOut tag) (out_first tag) (out_aborts tag) out_rests
abort_first_letter tag = record {
  closed = record { form_closed = out_first_closed tag; one_closed = out_aborted_closed; other_closed = rests_closed };
  no_status = λ g e. cc;
  answers = λ submit s served rest serves. abort_first tag s served rest serves;
  pends = λ s layout rest h. no_pending s.running layout (AbortOut tag) rest.running h;
}

check_out : (s : State) → IsAt out_aborted s → Serving CheckOut out_checked out_pending s (aborts.checked_out s)
check_out s rest = subst (λ (r : Running). Serving CheckOut out_checked out_pending s (aborts.checked_out (record s { running = r }))) (sym rest.running)
    (refl, refl, SaysOne refl (record { bulk_out = rest.bulk_out; bulk_in = rest.bulk_in; running = refl; side = rest.side; out = rest.out; waits = tt; shut = tt }), refl)

check_out_pends : (s : State) (layout : List ℕ) → IsAt out_aborted s → StaysPending s.running CheckOut layout → (length layout ≡ answer_length CheckOut) × Says out_checked out_pending layout s
check_out_pends s layout rest h =
    let l : layout ≡ aborts.check_out_layout STATUS_PENDING = subst (λ (r : Running). StaysPending r CheckOut layout) rest.running h in
    (ap (λ (x : List ℕ). length x) l, SaysOther l rest)

pub check_out_letter : IsLetter CheckOut out_aborted out_checked out_pending
check_out_letter = record {
  closed = record { form_closed = out_aborted_closed; one_closed = rests_closed; other_closed = out_aborted_closed };
  no_status = λ g e. cc;
  answers = λ submit s served rest serves. served_is CheckOut out_checked out_pending s served (aborts.checked_out s) serves (check_out s rest);
  pends = λ s layout rest h. check_out_pends s layout rest h;
}

-- ---- a clear

clear : (s : State) (served : Served) → IsAt anything s → aborts.ClearsAll s served → Serving Clear begins_clear never s served
clear s served rest (aborts.DoesClear t logs is) =
    served_is Clear begins_clear never s served _ is (
      ap (λ (q : List Pending). aborts.part_answer q ++ halt_answers BulkOut s) rest.bulk_in ∙ no_ends s rest.bulk_out,
      refl,
      SaysOne refl (record {
        bulk_out = ap (λ (x : State). x.bulk_out) logs.is;
        bulk_in = ap (λ (x : State). x.bulk_in) logs.is ∙ ap (λ (q : List Pending). aborts.without_part q) rest.bulk_in;
        running = ap (λ (x : State). x.running) logs.is;
        side = ap (λ (x : State). x.side) logs.is;
        out = (ap (λ (x : State). x.transfer) logs.is, ap (λ (x : State). x.part) logs.is);
        waits = ap (λ (x : State). x.waiting) logs.is;
        shut = ap (λ (x : State). x.halted.bulk_out) logs.is;
      }),
      ap (λ (x : State). x.control) logs.is,
    )

clear_pends : {B : Type 0} (r : Running) (layout : List ℕ) → StaysPending r Clear layout → B
clear_pends Nothing layout h = absurd h
clear_pends AbortsOut layout h = absurd h
clear_pends (AbortsIn true given) layout h = absurd h
clear_pends (AbortsIn false given) layout h = absurd h
clear_pends Clears layout h = absurd h

pub clear_letter : IsLetter Clear anything begins_clear never
clear_letter = record {
  closed = record { form_closed = anything_closed; one_closed = clears_closed; other_closed = anything_closed };
  no_status = λ g e. cc;
  answers = λ submit s served rest serves. clear s served rest serves;
  pends = λ s layout rest h. clear_pends s.running layout h;
}

check_clear : (s : State) → IsAt clears s → Serving CheckClear clear_checked clear_pending s (aborts.checked_clear s)
check_clear s rest = subst (λ (r : Running). Serving CheckClear clear_checked clear_pending s (aborts.checked_clear (record s { running = r }))) (sym rest.running)
    (refl, refl, SaysOne refl (record { bulk_out = rest.bulk_out; bulk_in = rest.bulk_in; running = refl; side = rest.side; out = rest.out; waits = rest.waits; shut = tt }), refl)

check_clear_pends : (s : State) (layout : List ℕ) → IsAt clears s → StaysPending s.running CheckClear layout → (length layout ≡ answer_length CheckClear) × Says clear_checked clear_pending layout s
check_clear_pends s layout rest h =
    let l : layout ≡ STATUS_PENDING ∷ 0 ∷ [] = subst (λ (r : Running). StaysPending r CheckClear layout) rest.running h in
    (ap (λ (x : List ℕ). length x) l, SaysOther l rest)

pub check_clear_letter : IsLetter CheckClear clears clear_checked clear_pending
check_clear_letter = record {
  closed = record { form_closed = clears_closed; one_closed = cleared_closed; other_closed = clears_closed };
  no_status = λ g e. cc;
  answers = λ submit s served rest serves. served_is CheckClear clear_checked clear_pending s served (aborts.checked_clear s) serves (check_clear s rest);
  pends = λ s layout rest h. check_clear_pends s layout rest h;
}

-- ---- a halt is cleared

usable : (e : Endpoint) (s : State) → IsAt cleared s → IsAt cleared (with_halt e false s)
usable Control s rest = rest
usable BulkOut s rest = record { bulk_out = rest.bulk_out; bulk_in = rest.bulk_in; running = rest.running; side = rest.side; out = rest.out; waits = rest.waits; shut = tt }
usable BulkIn s rest = record { bulk_out = rest.bulk_out; bulk_in = rest.bulk_in; running = rest.running; side = rest.side; out = rest.out; waits = rest.waits; shut = tt }
usable InterruptIn s rest = record { bulk_out = rest.bulk_out; bulk_in = rest.bulk_in; running = rest.running; side = rest.side; out = rest.out; waits = rest.waits; shut = tt }

usable_rests : (e : Endpoint) (s : State) → IsAt rests s → IsAt rests (with_halt e false s)
usable_rests Control s rest = rest
usable_rests BulkOut s rest = record { bulk_out = rest.bulk_out; bulk_in = rest.bulk_in; running = rest.running; side = rest.side; out = rest.out; waits = tt; shut = tt }
usable_rests BulkIn s rest = record { bulk_out = rest.bulk_out; bulk_in = rest.bulk_in; running = rest.running; side = rest.side; out = rest.out; waits = tt; shut = tt }
usable_rests InterruptIn s rest = record { bulk_out = rest.bulk_out; bulk_in = rest.bulk_in; running = rest.running; side = rest.side; out = rest.out; waits = tt; shut = tt }

pub clear_halt_letter : (e : Endpoint) → IsClearing e rests usable_again never
clear_halt_letter e = record {
  closed = record { form_closed = rests_closed; one_closed = rests_closed; other_closed = anything_closed };
  clears = λ s rest. SaysOne refl (usable_rests e s rest);
}

pub clear_halt_behind_clear : (e : Endpoint) → IsClearing e cleared usable_cleared never
clear_halt_behind_clear e = record {
  closed = record { form_closed = cleared_closed; one_closed = cleared_closed; other_closed = anything_closed };
  clears = λ s rest. SaysOne refl (usable e s rest);
}

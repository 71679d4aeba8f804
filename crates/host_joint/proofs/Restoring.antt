-- a host is bound to the device through a halt or a cancel in the middle of the second piece, up to the end of its recovery
use Rattle.std.proofs.Common.{◌≡◌, ◌∙◌, ◌⊎◌, inr, ℕ, ◌+◌, Bool, true, Option, Some, None, List, [], ◌∷◌, ◌++◌, length, refl, ap, sym, subst, append-nil, arith, lit<, lit≤}
use Rattle.usbip_wire.specs.declared.submit.SubmitHead.{SubmitHead}
use Rattle.usbip_wire.specs.declared.unlink.UnlinkHead.{UnlinkHead}
use Rattle.usbip_wire.specs.declared.ret_submit.RetSubmitHead.{RetSubmitHead}
use Rattle.usbip_wire.specs.declared.ret_unlink.RetUnlinkHead.{RetUnlinkHead}
use Rattle.usbip_wire.specs.Up as up
use Rattle.tmc_wire.specs.declared.class_request.ClassRequest.TheVariants.{AbortIn, CheckIn, Clear, CheckClear}
use Rattle.tmc_wire.specs.ControlTable.{row}
use Rattle.tmc_law.specs.Endpoint.{Control, BulkOut, BulkIn, ends, number_of}
use Rattle.tmc_law.specs.State.{State}
use Rattle.tmc_law.specs.Put.{Put, Submitted, Unlinked, success, stalled, unlinked}
use Rattle.tmc_law.specs.Run.{Entry, Runs, inputs, outputs}
use Rattle.tmc_law.specs.WorkedParts.{spaced}
use Rattle.tmc_law.specs.WorkedSession.{in_submit, unlink, answered}
use Rattle.host_joint.specs.Lines.{Fitting}
use Rattle.host_joint.specs.Reads.{IsRead}
use Rattle.host_joint.specs.Asking.{StaysPlugged}
use Rattle.host_joint.specs.Requests.{IsClass, IsClearHalt}
use Rattle.host_joint.specs.Bond.{Situation, Reading, Stands, Requests, Drains, Resting, ToAbortIn, WantsPacket, GavePacket, Anywhere, BehindClear, Letter, AbortsIn, ChecksIn, BeginsClear, ChecksClear, Frees, FreesBehind, IsOf, finds, leaves, leaves_else, one_of, other_of, Bound, StillGoes, StillTaken, StillFull, StillEnds, StillHalted, Said, SaidOne, SaidOther, Drained, DrainedShort, DrainedHalted, IsUnlinkOf, taken_of}
use Rattle.host_joint.specs.WorkedPieces.{first_data, requested_second}
use Rattle.host_joint.specs.WorkedRecoveries.{reading_rest, abort_submit, check_submit, usable_in, usable_out, clear_submit, check_clear_submit, halting_second, halted_inside, aborting_none, freeing, usable_again, clearing_halted, checking_clear, freeing_out, freeing_in, cleared_at_last, cancelling_second, cancelled_inside, aborting_second, draining, checking_second}
use Rattle.host_joint.proofs.Stopping.{abort_asks, check_asks, clear_asks, check_clear_asks, in_setup, out_setup, in_asks, out_asks, halts_second, aborts_none, frees, clears_second, cleared_second, freed_out, clears_halted, checks_clear, frees_out, frees_in, wants_packet, gave_packet, cancels_second, aborts_second, drains, checks_second}

-- what this asks of the laws of bonds
pub record BondLaws : Type 0 where
  pub stays : (situation : Situation) (run : List Entry) (waits : Option SubmitHead) (unlinks : List UnlinkHead) (next : ℕ) (ups : List up.Message) (downs : List Put) (s t : State)
      → Runs s run t → StaysPlugged run → Bound situation waits unlinks next (inputs run ++ ups) downs s → Bound situation waits unlinks next ups (downs ++ outputs run) t
  pub submit : (last : ℕ) (message : List ℕ) (tag size : ℕ) (sofar read : List ℕ) (head : SubmitHead) (unlinks : List UnlinkHead) (next : ℕ) (asked : SubmitHead) (answer : RetSubmitHead) (transferred : List ℕ) (ups : List up.Message) (downs : List Put) (s : State)
      → (head.ep ≡ number_of BulkOut) ⊎ (head.ep ≡ number_of BulkIn)
      → Bound (Reading last message tag size sofar read (taken_of head)) (Some head) unlinks next ups (Submitted asked answer transferred ∷ downs) s
      → (asked ≡ head) × (answer.seqnum ≡ head.seqnum) × StillGoes last message tag size sofar read head answer transferred unlinks next ups downs s
  pub unlinked : (last : ℕ) (message : List ℕ) (tag size : ℕ) (sofar read : List ℕ) (taken : Bool) (waits : Option SubmitHead) (unlink : UnlinkHead) (next : ℕ) (asked : UnlinkHead) (answer : RetUnlinkHead) (ups : List up.Message) (downs : List Put) (s : State)
      → IsUnlinkOf waits unlink → Bound (Reading last message tag size sofar read taken) waits (unlink ∷ []) next ups (Unlinked asked answer ∷ downs) s
      → (answer.seqnum ≡ unlink.seqnum) × Bound (Reading last message tag size sofar read taken) None [] next ups downs s
  pub writes : (letter : Letter) (head : SubmitHead) (next : ℕ) (ups : List up.Message) (downs : List Put) (s : State)
      → IsOf head letter → Fitting head → head.seqnum ≡ next → Bound (Stands (finds letter)) None [] next ups downs s
      → Bound (Requests head letter) (Some head) [] (next + 1) (ups ++ up.Submit head [] ∷ []) downs s
  pub answer : (letter : Letter) (head : SubmitHead) (next : ℕ) (asked : SubmitHead) (answer : RetSubmitHead) (transferred : List ℕ) (ups : List up.Message) (downs : List Put) (s : State)
      → Bound (Requests head letter) (Some head) [] next ups (Submitted asked answer transferred ∷ downs) s
      → (asked ≡ head) × (answer ≡ record { seqnum = head.seqnum; status = success; actual = length transferred }) × Said letter transferred next ups downs s
  pub drains : (head : SubmitHead) (next : ℕ) (ups : List up.Message) (downs : List Put) (s : State)
      → IsRead head → head.seqnum ≡ next → Bound (Stands WantsPacket) None [] next ups downs s → Bound (Drains head) (Some head) [] (next + 1) (ups ++ up.Submit head [] ∷ []) downs s
  pub drained : (head : SubmitHead) (next : ℕ) (asked : SubmitHead) (answer : RetSubmitHead) (transferred : List ℕ) (ups : List up.Message) (downs : List Put) (s : State)
      → Bound (Drains head) (Some head) [] next ups (Submitted asked answer transferred ∷ downs) s
      → (asked ≡ head) × (answer.seqnum ≡ head.seqnum) × (transferred ≡ []) × Drained answer next ups downs s

-- ---- one request of a recovery, and its answer

pub goes_on : (laws : BondLaws) (letter : Letter) (head : SubmitHead) (run : List Entry) (layout : List ℕ) (next : ℕ) (s t : State)
    → IsOf head letter → Fitting head → head.seqnum ≡ next → inputs run ≡ up.Submit head [] ∷ [] → outputs run ≡ answered head success (length layout) layout ∷ []
    → Runs s run t → StaysPlugged run → Bound (Stands (finds letter)) None [] next [] [] s → Said letter layout (next + 1) [] [] t
goes_on laws letter head run layout next s t is fits number takes gives runs plugged bound =
    let wrote : Bound (Requests head letter) (Some head) [] (next + 1) (inputs run ++ []) [] s =
    subst (λ (l : List up.Message). Bound (Requests head letter) (Some head) [] (next + 1) l [] s) (sym (append-nil (inputs run) ∙ takes)) (laws.writes letter head next [] [] s is fits number bound) in
    let went : Bound (Requests head letter) (Some head) [] (next + 1) [] (answered head success (length layout) layout ∷ []) t =
    subst (λ (l : List Put). Bound (Requests head letter) (Some head) [] (next + 1) [] l t) gives (laws.stays (Requests head letter) run (Some head) [] (next + 1) [] [] s t runs plugged wrote) in
    (laws.answer letter head (next + 1) head (record { seqnum = head.seqnum; status = success; actual = length layout }) layout [] [] t went).2

-- the answer is the one of the two that its first byte says
abbrev first_of : List ℕ → ℕ
first_of [] = 0
first_of (x ∷ xs) = x

pub says_one : (letter : Letter) (layout : List ℕ) (next : ℕ) (s : State) → ((other_of letter).layout layout → ⊥) → Said letter layout next [] [] s → Bound (Stands (leaves letter)) None [] next [] [] s
says_one letter layout next s never (SaidOne is bound) = bound
says_one letter layout next s never (SaidOther is bound) = absurd (never is)

pub says_other : (letter : Letter) (layout : List ℕ) (next : ℕ) (s : State) → ((one_of letter).layout layout → ⊥) → Said letter layout next [] [] s → Bound (Stands (leaves_else letter)) None [] next [] [] s
says_other letter layout next s never (SaidOne is bound) = absurd (never is)
says_other letter layout next s never (SaidOther is bound) = bound

pub abort_is : (seqnum : ℕ) → IsClass (abort_submit seqnum) (AbortIn 4)
abort_is seqnum = record { number = refl; way = refl; setup = row ends (AbortIn 4); asks = abort_asks seqnum; row = record { fits = lit< tt; is = refl }; room = lit≤ tt }

check_is : (seqnum : ℕ) → IsClass (check_submit seqnum) CheckIn
check_is seqnum = record { number = refl; way = refl; setup = row ends CheckIn; asks = check_asks seqnum; row = record { fits = tt; is = refl }; room = lit≤ tt }

pub clear_is : (seqnum : ℕ) → IsClass (clear_submit seqnum) Clear
clear_is seqnum = record { number = refl; way = refl; setup = row ends Clear; asks = clear_asks seqnum; row = record { fits = tt; is = refl }; room = lit≤ tt }

pub check_clear_is : (seqnum : ℕ) → IsClass (check_clear_submit seqnum) CheckClear
check_clear_is seqnum = record { number = refl; way = refl; setup = row ends CheckClear; asks = check_clear_asks seqnum; row = record { fits = tt; is = refl }; room = lit≤ tt }

pub in_is : (seqnum : ℕ) → IsClearHalt (usable_in seqnum) BulkIn
in_is seqnum = record { number = refl; setup = in_setup; asks = in_asks seqnum; row = record { request_type = refl; request = refl; value = refl; index = refl } }

pub out_is : (seqnum : ℕ) → IsClearHalt (usable_out seqnum) BulkOut
out_is seqnum = record { number = refl; setup = out_setup; asks = out_asks seqnum; row = record { request_type = refl; request = refl; value = refl; index = refl } }

-- ---- Bulk-IN halts

no_status : {B : Type 0} → stalled ≡ success → B
no_status e = absurd (cc)

still_halted : StillGoes 2 spaced 4 4000 first_data [] (in_submit 6 4096) (record { seqnum = 6; status = stalled; actual = 0 }) [] [] 7 [] [] halted_inside → Bound reading_rest None [] 7 [] [] halted_inside
still_halted (StillTaken own status whole bound) = no_status status
still_halted (StillFull own status counted all piece bound) = no_status status
still_halted (StillEnds eom carried response own status counted small piece ran first whole longer bound) = no_status status
still_halted (StillHalted e own shuts status bound) = bound

pub halted : BondLaws → Bound reading_rest (Some (in_submit 6 4096)) [] 7 (up.Submit (in_submit 6 4096) [] ∷ []) [] requested_second → Bound reading_rest None [] 7 [] [] halted_inside
halted laws reads =
    still_halted (laws.submit 2 spaced 4 4000 first_data [] (in_submit 6 4096) [] 7 (in_submit 6 4096) (record { seqnum = 6; status = stalled; actual = 0 }) [] [] [] halted_inside (inr refl)
    (laws.stays reading_rest halting_second (Some (in_submit 6 4096)) [] 7 [] [] requested_second halted_inside halts_second ((λ e. cc), ((λ e. cc), ((λ e. cc), tt))) reads)).2

pub aborted : BondLaws → Bound (Stands (ToAbortIn 4)) None [] 7 [] [] halted_inside → Bound (Stands Resting) None [] 8 [] [] halted_inside
aborted laws stands =
    says_other (AbortsIn 4) (0x80 ∷ 0x00 ∷ []) 8 halted_inside (λ e. omega (arith, ap (λ (l : List ℕ). first_of l) e))
    (goes_on laws (AbortsIn 4) (abort_submit 7) aborting_none (0x80 ∷ 0x00 ∷ []) 7 halted_inside halted_inside (abort_is 7) (record { endpoint = Control; number = refl; way = refl }) refl refl refl aborts_none ((λ e. cc), ((λ e. cc), tt)) stands)

pub freed : BondLaws → Bound (Stands Resting) None [] 8 [] [] halted_inside → Bound (Stands Resting) None [] 9 [] [] usable_again
freed laws stands =
    says_one (Frees BulkIn) [] 9 usable_again (λ never. never)
    (goes_on laws (Frees BulkIn) (usable_in 8) freeing [] 8 halted_inside usable_again (in_is 8) (record { endpoint = Control; number = refl; way = refl }) refl refl refl frees ((λ e. cc), ((λ e. cc), tt)) stands)

-- ---- all is cleared

pub cleared : BondLaws → Bound (Stands Anywhere) None [] 7 [] [] halted_inside → Bound (Stands BehindClear) None [] 11 [] [] cleared_at_last
cleared laws stands =
    let begun = says_one BeginsClear (0x01 ∷ []) 8 clears_second (λ never. never)
    (goes_on laws BeginsClear (clear_submit 7) clearing_halted (0x01 ∷ []) 7 halted_inside clears_second (clear_is 7) (record { endpoint = Control; number = refl; way = refl }) refl refl refl clears_halted ((λ e. cc), ((λ e. cc), tt)) stands) in
    let checked = says_one ChecksClear (0x01 ∷ 0x00 ∷ []) 9 cleared_second (λ e. omega (arith, ap (λ (l : List ℕ). first_of l) e))
    (goes_on laws ChecksClear (check_clear_submit 8) checking_clear (0x01 ∷ 0x00 ∷ []) 8 clears_second cleared_second (check_clear_is 8) (record { endpoint = Control; number = refl; way = refl }) refl refl refl checks_clear ((λ e. cc), ((λ e. cc), tt)) begun) in
    let out = says_one (FreesBehind BulkOut) [] 10 freed_out (λ never. never)
    (goes_on laws (FreesBehind BulkOut) (usable_out 9) freeing_out [] 9 cleared_second freed_out (out_is 9) (record { endpoint = Control; number = refl; way = refl }) refl refl refl frees_out ((λ e. cc), ((λ e. cc), tt)) checked) in
    says_one (FreesBehind BulkIn) [] 11 cleared_at_last (λ never. never)
    (goes_on laws (FreesBehind BulkIn) (usable_in 10) freeing_in [] 10 freed_out cleared_at_last (in_is 10) (record { endpoint = Control; number = refl; way = refl }) refl refl refl frees_in ((λ e. cc), ((λ e. cc), tt)) out)

-- ---- the host cancels

pub cancelled : BondLaws → Bound reading_rest (Some (in_submit 6 4096)) (unlink 7 6 ∷ []) 8 (up.Submit (in_submit 6 4096) [] ∷ up.Unlink (unlink 7 6) ∷ []) [] requested_second
    → Bound reading_rest None [] 8 [] [] cancelled_inside
cancelled laws cancels =
    (laws.unlinked 2 spaced 4 4000 first_data [] true (Some (in_submit 6 4096)) (unlink 7 6) 8 (unlink 7 6) (record { seqnum = 7; status = unlinked }) [] [] cancelled_inside refl
    (laws.stays reading_rest cancelling_second (Some (in_submit 6 4096)) (unlink 7 6 ∷ []) 8 [] [] requested_second cancelled_inside cancels_second ((λ e. cc), ((λ e. cc), ((λ e. cc), tt))) cancels)).1

drained_short : Drained (record { seqnum = 9; status = success; actual = 0 }) 10 [] [] gave_packet → Bound (Stands GavePacket) None [] 10 [] [] gave_packet
drained_short (DrainedShort status none bound) = bound
drained_short (DrainedHalted status bound) = no_status (sym status)

pub recovered : BondLaws → Bound (Stands (ToAbortIn 4)) None [] 8 [] [] cancelled_inside → Bound (Stands Resting) None [] 11 [] [] usable_again
recovered laws stands =
    let begun = says_one (AbortsIn 4) (0x01 ∷ 0x04 ∷ []) 9 wants_packet (λ e. omega (arith, ap (λ (l : List ℕ). first_of l) e))
    (goes_on laws (AbortsIn 4) (abort_submit 8) aborting_second (0x01 ∷ 0x04 ∷ []) 8 cancelled_inside wants_packet (abort_is 8) (record { endpoint = Control; number = refl; way = refl }) refl refl refl aborts_second ((λ e. cc), ((λ e. cc), tt)) stands) in
    let read = laws.drains (in_submit 9 4096) 9 [] [] wants_packet (record { number = refl; way = refl; size = refl }) refl begun in
    let given = laws.stays (Drains (in_submit 9 4096)) draining (Some (in_submit 9 4096)) [] 10 [] [] wants_packet gave_packet drains ((λ e. cc), ((λ e. cc), tt)) read in
    let empty = drained_short (laws.drained (in_submit 9 4096) 10 (in_submit 9 4096) (record { seqnum = 9; status = success; actual = 0 }) [] [] [] gave_packet given).3 in
    says_one ChecksIn (0x01 ∷ 0x00 ∷ 0x00 ∷ 0x00 ∷ 0x00 ∷ 0x00 ∷ 0x00 ∷ 0x00 ∷ []) 11 usable_again (λ h. omega (arith, ap (λ (l : List ℕ). first_of l) h.1))
    (goes_on laws ChecksIn (check_submit 10) checking_second (0x01 ∷ 0x00 ∷ 0x00 ∷ 0x00 ∷ 0x00 ∷ 0x00 ∷ 0x00 ∷ 0x00 ∷ []) 10 gave_packet usable_again (check_is 10) (record { endpoint = Control; number = refl; way = refl }) refl refl refl checks_second ((λ e. cc), ((λ e. cc), tt)) empty)

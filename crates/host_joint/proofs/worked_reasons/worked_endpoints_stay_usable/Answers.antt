use Rattle.std.proofs.Common.{◌≡◌, ◌⊎◌, inl, inr, true, false, Some, [], refl}
use Rattle.tmc_law.specs.Endpoint.{Endpoint, Control, BulkOut, BulkIn, InterruptIn}
use Rattle.tmc_law.specs.State.{is_halted}
use Rattle.tmc_law.specs.Put.{success}
use Rattle.tmc_law.specs.Step.{Halt}
use Rattle.tmc_law.specs.WorkedSession.{in_submit}
use Rattle.host_joint.specs.Unlinking.{IsBulk}
use Rattle.host_joint.specs.Bond.{Requests, Frees}
use Rattle.host_joint.specs.Reasons.{both, MayHalt, IsFreeing}
use Rattle.host_joint.specs.WorkedPieces.{requested_second}
use Rattle.host_joint.specs.WorkedReasons.{out_only}
use Rattle.host_joint.specs.WorkedRecoveries.{reading_rest, usable_in, halting_second, halted_inside, freeing, usable_again}
use Rattle.host_joint.proofs.Stopping.{halts_second, frees}
use Rattle.host_joint.proofs.Restoring.{in_is, says_one}
use Rattle.host_joint.proofs.worked_reasons.worked_endpoints_stay_usable.Goals as goal

only_out : (e : Endpoint) → IsBulk e → out_only e ≡ true → is_halted e requested_second ≡ false
only_out Control bulk is = absurd bulk
only_out BulkOut bulk is = refl
only_out BulkIn bulk is = absurd (cc)
only_out InterruptIn bulk is = absurd bulk

in_halts : (e : Endpoint) → out_only e ≡ true → e ≡ BulkIn → ⊥
in_halts Control is same = cc
in_halts BulkOut is same = cc
in_halts BulkIn is same = cc
in_halts InterruptIn is same = cc

pub returns-clause-spared : goal.returns-clause-spared
returns-clause-spared c =
    c.endpoints_stay_usable.ensures.stays out_only reading_rest halting_second (Some (in_submit 6 4096)) [] 7 [] [] requested_second halted_inside halts_second
    ((λ e. cc), (λ e is same. cc), ((λ e. cc), (λ e is same. cc), ((λ e. cc), (λ e is same. in_halts e is (other e same)), tt)))
    (λ e is may. may) (record { bound = c.worked_halts_are_recovered.ensures.reading; usable = only_out })
  where
    other : (e : Endpoint) → Halt BulkIn ≡ Halt e → e ≡ BulkIn
    other e same = cc

halted_out : (e : Endpoint) → IsBulk e → out_only e ≡ true → is_halted e halted_inside ≡ false
halted_out Control bulk is = absurd bulk
halted_out BulkOut bulk is = refl
halted_out BulkIn bulk is = absurd (cc)
halted_out InterruptIn bulk is = absurd bulk

knows : (e : Endpoint) → both e ≡ true → (out_only e ≡ true) ⊎ IsFreeing (Frees BulkIn) e
knows Control is = absurd (cc)
knows BulkOut is = inl refl
knows BulkIn is = inr refl
knows InterruptIn is = absurd (cc)

no_letter : (e : Endpoint) → both e ≡ true → MayHalt (Requests (usable_in 8) (Frees BulkIn)) e → ⊥
no_letter e is may = may.1

pub returns-clause-freed : goal.returns-clause-freed
returns-clause-freed c =
    let wrote = c.endpoints_stay_usable.ensures.writes out_only both (Frees BulkIn) (usable_in 8) 8 [] [] halted_inside (in_is 8) (record { endpoint = Control; number = refl; way = refl }) refl knows
    (record { bound = c.worked_halts_are_recovered.ensures.aborted.1; usable = halted_out }) in
    c.endpoints_stay_usable.ensures.stays both (Requests (usable_in 8) (Frees BulkIn)) freeing (Some (usable_in 8)) [] 9 [] [] halted_inside usable_again frees
    ((λ e. cc), (λ e is same. cc), ((λ e. cc), (λ e is same. cc), tt)) no_letter wrote

pub returns-clause-tied : goal.returns-clause-tied
returns-clause-tied c =
    let freed = returns-clause-freed c in
    let free = c.endpoints_stay_usable.ensures.answer both (Frees BulkIn) (usable_in 8) 9 (usable_in 8) (record { seqnum = 8; status = success; actual = 0 }) [] [] [] usable_again freed in
    let said = c.recoveries_go_on.ensures.answer (Frees BulkIn) (usable_in 8) 9 (usable_in 8) (record { seqnum = 8; status = success; actual = 0 }) [] [] [] usable_again freed.bound in
    c.endpoints_stay_usable.ensures.rest 9 [] [] usable_again (record { bound = says_one (Frees BulkIn) [] 9 usable_again (λ never. never) said.2; usable = free })

pub returns-clause-mistaken : goal.returns-clause-mistaken
returns-clause-mistaken c place waits unlinks next ups downs b = let off = b.usable BulkIn tt refl in cc

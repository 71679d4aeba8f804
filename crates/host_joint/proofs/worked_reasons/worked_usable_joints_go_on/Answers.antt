use Rattle.std.proofs.Common.{◌≡◌, ◌∙◌, ◌⊎◌, inl, inr, ℕ, true, false, Some, None, List, [], ◌∷◌, ◌++◌, take, drop, refl, sym, append-nil}
use Rattle.usbip_wire.specs.Up as up
use Rattle.usbip_wire.specs.Down as down
use Rattle.tmc_law.specs.Endpoint.{Endpoint, Control, BulkOut, BulkIn, InterruptIn}
use Rattle.tmc_law.specs.State.{is_halted, start}
use Rattle.tmc_law.specs.Put.{success}
use Rattle.tmc_law.specs.Run.{SpellsPut}
use Rattle.tmc_law.specs.WorkedSession.{devid, answered}
use Rattle.tmc_law.specs.WorkedTold.{takes_in, puts_out}
use Rattle.host_joint.specs.Unlinking.{IsBulk}
use Rattle.host_joint.specs.Bond.{Stands, Resting, Requests, Frees}
use Rattle.host_joint.specs.Joint.{TellsBy}
use Rattle.host_joint.specs.Reasons.{both, Spares, MayHalt, IsFreeing, JoinedUsable}
use Rattle.host_joint.specs.WorkedReasons.{out_only}
use Rattle.host_joint.specs.WorkedRecoveries.{usable_in, halted_inside, freeing, usable_again}
use Rattle.host_joint.proofs.Stopping.{with_control, free_comes, free_answers}
use Rattle.host_joint.proofs.Restoring.{in_is}
use Rattle.host_joint.proofs.worked_reasons.worked_usable_joints_go_on.Goals as goal

pub returns-clause-begins : goal.returns-clause-begins
returns-clause-begins c = c.usable_joints_go_on.ensures.begins devid 1 [] [] [] start (c.joints_begin.ensures.power_on devid 1)

halted_out : (e : Endpoint) → IsBulk e → out_only e ≡ true → is_halted e halted_inside ≡ false
halted_out Control bulk is = absurd bulk
halted_out BulkOut bulk is = refl
halted_out BulkIn bulk is = absurd (cc)
halted_out InterruptIn bulk is = absurd bulk

knows : (e : Endpoint) → both e ≡ true → (out_only e ≡ true) ⊎ IsFreeing (Frees BulkIn) e
knows Control is = absurd (cc)
knows BulkOut is = inl refl
knows BulkIn is = inr refl
knows InterruptIn is = absurd (cc)

pub returns-clause-frees : goal.returns-clause-frees
returns-clause-frees c text spelled =
    let before : JoinedUsable out_only devid (Stands Resting) None [] 8 [] [] [] halted_inside = record {
      coming = [];
      ups = [];
      sent = refl;
      spelled = refl;
      behind = [];
      downs = [];
      given = refl;
      put = refl;
      accepted = λ f e. cc;
      tie = record { bound = c.worked_halts_are_recovered.ensures.aborted.1; usable = halted_out };
    } in
    c.usable_joints_go_on.ensures.writes out_only both devid (Frees BulkIn) (usable_in 8) 8 text [] [] [] halted_inside (in_is 8) (record { endpoint = Control; number = refl; way = refl }) refl knows spelled before

steps_freed : (text bytes : List ℕ) → up.Spells devid (up.Submit (usable_in 8) []) text → SpellsPut (answered (usable_in 8) success 0 []) bytes
    → TellsBy (λ run. Spares both run) devid halted_inside (takes_in text ∷ puts_out bytes ∷ []) usable_again
steps_freed text bytes spelled put = (
  with_control (usable_in 8) halted_inside,
  record {
    means = record { run = take 1 freeing; goes = (with_control (usable_in 8) halted_inside, free_comes, refl); took = (text, [], sym (append-nil text), spelled, refl); put = refl };
    calm = ((λ e. cc), (λ e is same. cc), tt);
  },
  (
    usable_again,
    record {
      means = record { run = drop 1 freeing; goes = (usable_again, free_answers, refl); took = ([], [], refl, refl, refl); put = (bytes, [], sym (append-nil bytes), put, refl) };
      calm = ((λ e. cc), (λ e is same. cc), tt);
    },
    refl,
  ),
)

no_letter : (e : Endpoint) → both e ≡ true → MayHalt (Requests (usable_in 8) (Frees BulkIn)) e → ⊥
no_letter e is may = may.1

pub returns-clause-freed : goal.returns-clause-freed
returns-clause-freed c text bytes spelled put =
    let joined = c.usable_joints_go_on.ensures.stay both devid (Requests (usable_in 8) (Frees BulkIn)) (Some (usable_in 8)) [] 9 text [] [] (takes_in text ∷ puts_out bytes ∷ []) halted_inside usable_again
    (steps_freed text bytes spelled put) ([], sym (append-nil (text ++ []) ∙ append-nil text)) no_letter (returns-clause-frees c text spelled) in
    c.usable_joints_go_on.ensures.answer both devid (Requests (usable_in 8) (Frees BulkIn)) (Some (usable_in 8)) [] 9 text [] bytes [] (down.RetSubmit (record { seqnum = 8; status = success; actual = 0 }) [])
    (takes_in text ∷ puts_out bytes ∷ []) usable_again tt joined refl (record { dir = (usable_in 8).dir; size = (usable_in 8).length }, refl, put)

pub returns-clause-ends : goal.returns-clause-ends
returns-clause-ends c bytes =
    c.usable_joints_go_on.ensures.ends devid 9 bytes [] (takes_in bytes ∷ []) usable_again (record {
      coming = [];
      ups = [];
      sent = sym (append-nil (bytes ++ []) ∙ append-nil bytes);
      spelled = refl;
      behind = [];
      downs = [];
      given = refl;
      put = refl;
      accepted = λ f e. cc;
      tie = c.endpoints_stay_usable.ensures.begins 9 [] [] usable_again c.worked_endpoints_stay_usable.ensures.tied;
    })

pub returns-clause-mistaken : goal.returns-clause-mistaken
returns-clause-mistaken c next ups downs b =
    let off = c.endpoints_stay_usable.ensures.answer both (Frees BulkIn) (usable_in 8) next (usable_in 8) (record { seqnum = 8; status = success; actual = 0 }) [] ups downs halted_inside b BulkIn tt refl in cc

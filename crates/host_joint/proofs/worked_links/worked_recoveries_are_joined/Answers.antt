use Rattle.std.proofs.Common.{◌∙◌, ℕ, List, [], ◌∷◌, ◌++◌, take, drop, Some, None, refl, sym, append-nil}
use Rattle.usbip_wire.specs.Up as up
use Rattle.usbip_wire.specs.Down as down
use Rattle.tmc_law.specs.Endpoint.{Control}
use Rattle.tmc_law.specs.Put.{success, unplugged}
use Rattle.tmc_law.specs.Run.{SpellsPut}
use Rattle.tmc_law.specs.Told.{Tells}
use Rattle.tmc_law.specs.WorkedParts.{spaced}
use Rattle.tmc_law.specs.WorkedSession.{devid, answered}
use Rattle.tmc_law.specs.WorkedTold.{takes_in, puts_out}
use Rattle.host_joint.specs.Bond.{Stands, Requests, Resting, ToAbortIn, AbortsIn}
use Rattle.host_joint.specs.Hand.{Free}
use Rattle.host_joint.specs.Joint.{TellsPlugged, Joined}
use Rattle.host_joint.specs.WorkedPieces.{first_data}
use Rattle.host_joint.specs.WorkedRecoveries.{reading_rest, cancelled_inside, abort_submit, aborting_second, wanting, usable_again, unplugging_abort, unplugged_aborting}
use Rattle.host_joint.proofs.Stopping.{with_control, abort_comes, abort_answers}
use Rattle.host_joint.proofs.Restoring.{abort_is}
use Rattle.host_joint.proofs.worked_links.worked_recoveries_are_joined.Goals as goal

pub returns-clause-goes_on : goal.returns-clause-goes_on
returns-clause-goes_on c =
    let before : Joined devid reading_rest None [] 8 [] [] [] cancelled_inside = record {
      coming = [];
      ups = [];
      sent = refl;
      spelled = refl;
      behind = [];
      downs = [];
      given = refl;
      put = refl;
      accepted = λ f e. cc;
      tie = c.worked_cancels_are_recovered.ensures.cancelled.0;
    } in (
      c.writes_keep_joints.ensures.goes_on devid reading_rest None [] 8 (Stands (ToAbortIn 4)) None [] [] [] [] cancelled_inside
          (λ ups downs bound. c.cancels_begin.ensures.to_in 2 spaced 4 4000 first_data [] 8 ups downs cancelled_inside bound) before,
      c.writes_keep_joints_until_unplugged.ensures.goes_on devid reading_rest None [] 8 (Stands (ToAbortIn 4)) None [] [] [] [] cancelled_inside
          (λ ups downs s bound. c.cancels_begin.ensures.to_in 2 spaced 4 4000 first_data [] 8 ups downs s bound)
          (c.joints_stay_until_unplugged.ensures.begins_joined devid reading_rest None [] 8 [] [] [] cancelled_inside before),
    )

pub returns-clause-aborts : goal.returns-clause-aborts
returns-clause-aborts c text spelled =
    let before = returns-clause-goes_on c in (
      c.writes_keep_joints.ensures.bound devid (Stands (ToAbortIn 4)) None [] 8 (Requests (abort_submit 8) (AbortsIn 4)) (Some (abort_submit 8)) [] 9 (up.Submit (abort_submit 8) []) text [] [] [] cancelled_inside spelled
          (λ ups downs bound. c.recoveries_go_on.ensures.writes (AbortsIn 4) (abort_submit 8) 8 ups downs cancelled_inside (abort_is 8) (record { endpoint = Control; number = refl; way = refl }) refl bound) before.0,
      c.writes_keep_joints_until_unplugged.ensures.bound devid (Stands (ToAbortIn 4)) None [] 8 (Requests (abort_submit 8) (AbortsIn 4)) (Some (abort_submit 8)) [] 9 (up.Submit (abort_submit 8) []) text [] [] [] cancelled_inside spelled
          (λ ups downs s bound. c.recoveries_go_on.ensures.writes (AbortsIn 4) (abort_submit 8) 8 ups downs s (abort_is 8) (record { endpoint = Control; number = refl; way = refl }) refl bound) before.1,
    )

-- the two told steps of each
steps_aborted : (text bytes : List ℕ) → up.Spells devid (up.Submit (abort_submit 8) []) text → SpellsPut (answered (abort_submit 8) success 2 (0x01 ∷ 0x04 ∷ [])) bytes
    → TellsPlugged devid cancelled_inside (takes_in text ∷ puts_out bytes ∷ []) wanting
steps_aborted text bytes spelled put = (
  with_control (abort_submit 8) cancelled_inside,
  record {
    means = record { run = take 1 aborting_second; goes = (with_control (abort_submit 8) cancelled_inside, abort_comes, refl); took = (text, [], sym (append-nil text), spelled, refl); put = refl };
    calm = ((λ e. cc), tt);
  },
  (
    wanting,
    record {
      means = record { run = drop 1 aborting_second; goes = (wanting, abort_answers, refl); took = ([], [], refl, refl, refl); put = (bytes, [], sym (append-nil bytes), put, refl) };
      calm = ((λ e. cc), tt);
    },
    refl,
  ),
)

steps_unplugged : (text bytes : List ℕ) → up.Spells devid (up.Submit (abort_submit 8) []) text → SpellsPut (answered (abort_submit 8) unplugged 0 []) bytes
    → Tells devid cancelled_inside (takes_in text ∷ puts_out bytes ∷ []) unplugged_aborting
steps_unplugged text bytes spelled put = (
  with_control (abort_submit 8) cancelled_inside,
  record { run = take 1 unplugging_abort; goes = (with_control (abort_submit 8) cancelled_inside, abort_comes, refl); took = (text, [], sym (append-nil text), spelled, refl); put = refl },
  (
    unplugged_aborting,
    record {
      run = drop 1 unplugging_abort;
      goes = (unplugged_aborting, record { plugged = refl; leads = record { answered = refl; is = refl } }, refl);
      took = ([], [], refl, refl, refl);
      put = (bytes, [], sym (append-nil bytes), put, refl);
    },
    refl,
  ),
)

pub returns-clause-aborted : goal.returns-clause-aborted
returns-clause-aborted c text bytes spelled put =
    let joint = c.joints_stay.ensures.joined devid (Requests (abort_submit 8) (AbortsIn 4)) (Some (abort_submit 8)) [] 9 text [] [] (takes_in text ∷ puts_out bytes ∷ []) cancelled_inside wanting
    (steps_aborted text bytes spelled put) ([], sym (append-nil (text ++ []) ∙ append-nil text)) (returns-clause-aborts c text spelled).0 in
    c.the_next_answer_is_read.ensures.bound devid (Requests (abort_submit 8) (AbortsIn 4)) (Some (abort_submit 8)) [] 9 text [] bytes [] (down.RetSubmit (record { seqnum = 8; status = success; actual = 2 }) (0x01 ∷ 0x04 ∷ []))
    (takes_in text ∷ puts_out bytes ∷ []) wanting tt joint refl (record { dir = (abort_submit 8).dir; size = 2 }, refl, put)

pub returns-clause-fine : goal.returns-clause-fine
returns-clause-fine c text bytes rest more f spelled put whole bad =
    let joint = c.joints_stay.ensures.joined devid (Requests (abort_submit 8) (AbortsIn 4)) (Some (abort_submit 8)) [] 9 text [] [] (takes_in text ∷ puts_out bytes ∷ []) cancelled_inside wanting
    (steps_aborted text bytes spelled put) ([], sym (append-nil (text ++ []) ∙ append-nil text)) (returns-clause-aborts c text spelled).0 in
    c.no_answer_is_refused.ensures.bad_bound devid (Requests (abort_submit 8) (AbortsIn 4)) (Some (abort_submit 8)) [] 9 text [] rest more (takes_in text ∷ puts_out bytes ∷ []) wanting f tt joint (append-nil bytes ∙ whole) bad

pub returns-clause-unplugged : goal.returns-clause-unplugged
returns-clause-unplugged c text bytes spelled put =
    let joint = c.joints_stay_until_unplugged.ensures.joined devid (Requests (abort_submit 8) (AbortsIn 4)) (Some (abort_submit 8)) [] 9 text [] [] (takes_in text ∷ puts_out bytes ∷ []) cancelled_inside unplugged_aborting
    (steps_unplugged text bytes spelled put) ([], sym (append-nil (text ++ []) ∙ append-nil text)) (returns-clause-aborts c text spelled).1 in
    c.the_next_answer_is_read_until_unplugged.ensures.bound devid (Requests (abort_submit 8) (AbortsIn 4)) (Some (abort_submit 8)) [] 9 text [] bytes [] (down.RetSubmit (record { seqnum = 8; status = unplugged; actual = 0 }) [])
    (takes_in text ∷ puts_out bytes ∷ []) unplugged_aborting tt joint refl (record { dir = (abort_submit 8).dir; size = 2 }, refl, put)

pub returns-clause-over : goal.returns-clause-over
returns-clause-over c bytes =
    let before : Joined devid (Stands Resting) None [] 11 bytes [] (takes_in bytes ∷ []) usable_again = record {
      coming = [];
      ups = [];
      sent = sym (append-nil (bytes ++ []) ∙ append-nil bytes);
      spelled = refl;
      behind = [];
      downs = [];
      given = refl;
      put = refl;
      accepted = λ f e. cc;
      tie = c.remote_tickets_are_tied.ensures.stands 11 [] [] usable_again c.worked_cancels_are_recovered.ensures.recovered;
    } in (
      c.writes_keep_joints.ensures.ends devid (Stands Resting) None [] 11 Free None bytes [] (takes_in bytes ∷ []) usable_again (λ ups downs bound. c.recoveries_end.ensures.rest 11 ups downs usable_again refl refl bound) before,
      c.writes_keep_joints_until_unplugged.ensures.ends devid 11 bytes [] (takes_in bytes ∷ []) usable_again refl refl
          (c.joints_stay_until_unplugged.ensures.begins_joined devid (Stands Resting) None [] 11 bytes [] (takes_in bytes ∷ []) usable_again before),
    )

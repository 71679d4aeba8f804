use Rattle.tmc_wire.specs.declared.class_request.ClassRequest.TheVariants.{AbortOut, CheckOut, AbortIn, CheckIn, Clear, CheckClear}
use Rattle.host_joint.specs.Positions.{rests, in_begun, in_ended, out_begun, out_first, out_aborted, anything, clears, cleared}
use Rattle.host_joint.specs.Requests.{in_aborts, in_fails, in_checked, in_pending, out_rests, out_aborts, out_fails, out_checked, out_pending, begins_clear, never, clear_checked, clear_pending, usable_again, usable_cleared}
use Rattle.host_joint.proofs.Requesting.{only_class, only_clear_halt, request_goes, clear_halt_goes}
use Rattle.host_joint.proofs.Letters.{abort_in_letter, check_in_letter, abort_out_letter, abort_first_letter, check_out_letter, clear_letter, check_clear_letter, clear_halt_letter, clear_halt_behind_clear}
use Rattle.host_joint.proofs.recovery.requests_stay.Goals as goal

pub returns-clause-abort_in : goal.returns-clause-abort_in
returns-clause-abort_in c = λ tag run head ups downs puts s t move before is none fit plugged step at.
    request_goes head (AbortIn tag) (in_begun tag) (in_aborts tag) in_fails downs puts ups s t move (only_class (record {
      one = c.setups_have_one_meaning.ensures.one;
      class_one = c.setups_have_one_meaning.ensures.class;
      standard_one = c.setups_have_one_meaning.ensures.standard;
      apart = c.setups_have_one_meaning.ensures.apart;
    }) head (AbortIn tag) is) (abort_in_letter tag) (record {
      fits = λ e. c.pending_submits_are_sound.ensures.stand run s e before;
      polled = λ e front submit behind line polled. let place = c.pending_submits_are_sound.ensures.polled run s e front submit behind before line polled in (place.0, place.1);
    }) none fit plugged step.leads at

pub returns-clause-check_in : goal.returns-clause-check_in
returns-clause-check_in c = λ run head ups downs puts s t move before is none fit plugged step at.
    request_goes head CheckIn in_ended in_checked in_pending downs puts ups s t move (only_class (record {
      one = c.setups_have_one_meaning.ensures.one;
      class_one = c.setups_have_one_meaning.ensures.class;
      standard_one = c.setups_have_one_meaning.ensures.standard;
      apart = c.setups_have_one_meaning.ensures.apart;
    }) head CheckIn is) check_in_letter (record {
      fits = λ e. c.pending_submits_are_sound.ensures.stand run s e before;
      polled = λ e front submit behind line polled. let place = c.pending_submits_are_sound.ensures.polled run s e front submit behind before line polled in (place.0, place.1);
    }) none fit plugged step.leads at

pub returns-clause-abort_out : goal.returns-clause-abort_out
returns-clause-abort_out c = λ tag run head ups downs puts s t move before is none fit plugged step at.
    request_goes head (AbortOut tag) (out_begun tag) (out_aborts tag) out_fails downs puts ups s t move (only_class (record {
      one = c.setups_have_one_meaning.ensures.one;
      class_one = c.setups_have_one_meaning.ensures.class;
      standard_one = c.setups_have_one_meaning.ensures.standard;
      apart = c.setups_have_one_meaning.ensures.apart;
    }) head (AbortOut tag) is) (abort_out_letter tag) (record {
      fits = λ e. c.pending_submits_are_sound.ensures.stand run s e before;
      polled = λ e front submit behind line polled. let place = c.pending_submits_are_sound.ensures.polled run s e front submit behind before line polled in (place.0, place.1);
    }) none fit plugged step.leads at

pub returns-clause-abort_first : goal.returns-clause-abort_first
returns-clause-abort_first c = λ tag run head ups downs puts s t move before is none fit plugged step at.
    request_goes head (AbortOut tag) (out_first tag) (out_aborts tag) out_rests downs puts ups s t move (only_class (record {
      one = c.setups_have_one_meaning.ensures.one;
      class_one = c.setups_have_one_meaning.ensures.class;
      standard_one = c.setups_have_one_meaning.ensures.standard;
      apart = c.setups_have_one_meaning.ensures.apart;
    }) head (AbortOut tag) is) (abort_first_letter tag) (record {
      fits = λ e. c.pending_submits_are_sound.ensures.stand run s e before;
      polled = λ e front submit behind line polled. let place = c.pending_submits_are_sound.ensures.polled run s e front submit behind before line polled in (place.0, place.1);
    }) none fit plugged step.leads at

pub returns-clause-check_out : goal.returns-clause-check_out
returns-clause-check_out c = λ run head ups downs puts s t move before is none fit plugged step at.
    request_goes head CheckOut out_aborted out_checked out_pending downs puts ups s t move (only_class (record {
      one = c.setups_have_one_meaning.ensures.one;
      class_one = c.setups_have_one_meaning.ensures.class;
      standard_one = c.setups_have_one_meaning.ensures.standard;
      apart = c.setups_have_one_meaning.ensures.apart;
    }) head CheckOut is) check_out_letter (record {
      fits = λ e. c.pending_submits_are_sound.ensures.stand run s e before;
      polled = λ e front submit behind line polled. let place = c.pending_submits_are_sound.ensures.polled run s e front submit behind before line polled in (place.0, place.1);
    }) none fit plugged step.leads at

pub returns-clause-clear : goal.returns-clause-clear
returns-clause-clear c = λ run head ups downs puts s t move before is none fit plugged step at.
    request_goes head Clear anything begins_clear never downs puts ups s t move (only_class (record {
      one = c.setups_have_one_meaning.ensures.one;
      class_one = c.setups_have_one_meaning.ensures.class;
      standard_one = c.setups_have_one_meaning.ensures.standard;
      apart = c.setups_have_one_meaning.ensures.apart;
    }) head Clear is) clear_letter (record {
      fits = λ e. c.pending_submits_are_sound.ensures.stand run s e before;
      polled = λ e front submit behind line polled. let place = c.pending_submits_are_sound.ensures.polled run s e front submit behind before line polled in (place.0, place.1);
    }) none fit plugged step.leads at

pub returns-clause-check_clear : goal.returns-clause-check_clear
returns-clause-check_clear c = λ run head ups downs puts s t move before is none fit plugged step at.
    request_goes head CheckClear clears clear_checked clear_pending downs puts ups s t move (only_class (record {
      one = c.setups_have_one_meaning.ensures.one;
      class_one = c.setups_have_one_meaning.ensures.class;
      standard_one = c.setups_have_one_meaning.ensures.standard;
      apart = c.setups_have_one_meaning.ensures.apart;
    }) head CheckClear is) check_clear_letter (record {
      fits = λ e. c.pending_submits_are_sound.ensures.stand run s e before;
      polled = λ e front submit behind line polled. let place = c.pending_submits_are_sound.ensures.polled run s e front submit behind before line polled in (place.0, place.1);
    }) none fit plugged step.leads at

pub returns-clause-clear_halt : goal.returns-clause-clear_halt
returns-clause-clear_halt c = λ e run head ups downs puts s t move before is none fit plugged step at.
    clear_halt_goes head e rests usable_again never downs puts ups s t move (only_clear_halt (record {
      one = c.setups_have_one_meaning.ensures.one;
      class_one = c.setups_have_one_meaning.ensures.class;
      standard_one = c.setups_have_one_meaning.ensures.standard;
      apart = c.setups_have_one_meaning.ensures.apart;
    }) head e is) (clear_halt_letter e) (record {
      fits = λ d. c.pending_submits_are_sound.ensures.stand run s d before;
      polled = λ d front submit behind line polled. let place = c.pending_submits_are_sound.ensures.polled run s d front submit behind before line polled in (place.0, place.1);
    }) none fit plugged step.leads at

pub returns-clause-clear_halt_behind : goal.returns-clause-clear_halt_behind
returns-clause-clear_halt_behind c = λ e run head ups downs puts s t move before is none fit plugged step at.
    clear_halt_goes head e cleared usable_cleared never downs puts ups s t move (only_clear_halt (record {
      one = c.setups_have_one_meaning.ensures.one;
      class_one = c.setups_have_one_meaning.ensures.class;
      standard_one = c.setups_have_one_meaning.ensures.standard;
      apart = c.setups_have_one_meaning.ensures.apart;
    }) head e is) (clear_halt_behind_clear e) (record {
      fits = λ d. c.pending_submits_are_sound.ensures.stand run s d before;
      polled = λ d front submit behind line polled. let place = c.pending_submits_are_sound.ensures.polled run s d front submit behind before line polled in (place.0, place.1);
    }) none fit plugged step.leads at

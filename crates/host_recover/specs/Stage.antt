-- What is kept of a recovery that runs, and what comes behind each answer. It serves the private calls: what is promised of
-- a recovery is said by its words alone.
use Rattle.std.specs.Prelude.{ℕ, Bool, if◌then◌else◌, Option, Some, None, Result, Ok, Err}
use Rattle.usb_setup.specs.declared.ends.Ends.{Ends}
use Rattle.tmc_wire.specs.declared.class_answer.ClassAnswer.{ClassAnswer}
use Rattle.tmc_wire.specs.declared.class_request.ClassRequest.TheVariants as class
use Rattle.host_recover.specs.declared.need.Need.{Need}
use Rattle.host_recover.specs.declared.need.Need.TheVariants as need
use Rattle.host_recover.specs.declared.stage.Stage.{Stage}
use Rattle.host_recover.specs.declared.stage.Stage.TheVariants as stage
use Rattle.host_recover.specs.declared.want.Heard.{Heard}
use Rattle.host_recover.specs.declared.want.Heard.TheVariants as heard
use Rattle.host_recover.specs.declared.want.Want.{Want}
use Rattle.host_recover.specs.declared.want.Want.TheVariants as want
use Rattle.host_recover.specs.Letter.{Cleared, BulkIn, Notify, BulkOut, Ask, Clear, Read, Says, Success, Pending, Queued, Failed, says_of}
use Rattle.host_recover.specs.Recover.{Awaits, Start, Answer, Nothing}
use Rattle.host_recover.specs.Want.{want_of}
use Rattle.host_recover.specs.Words.{Words, Empty, One, ◌then◌, ◌or◌, asked, drain, failed_drain, checks, checks_out, checks_in, into, halts, full, words_of}

-- the submit that was made last
abbrev pub awaits_at : Stage → Awaits
awaits_at (stage.AbortsOut tag parts) = Answer (Ask (class.AbortOut tag))
awaits_at stage.ChecksOut = Answer (Ask class.CheckOut)
awaits_at (stage.AbortsIn tag) = Answer (Ask (class.AbortIn tag))
awaits_at stage.DrainsIn = Answer Read
awaits_at stage.ChecksIn = Answer (Ask class.CheckIn)
awaits_at stage.Clears = Answer (Ask class.Clear)
awaits_at stage.ChecksClear = Answer (Ask class.CheckClear)
awaits_at stage.DrainsClear = Answer Read
awaits_at stage.FreesIn = Answer (Clear BulkIn)
awaits_at stage.FreesNotify = Answer (Clear Notify)
awaits_at stage.FreesOut = Answer (Clear BulkOut)
awaits_at stage.Over = Nothing

abbrev pub awaits_of : Option Stage → Awaits
awaits_of None = Start
awaits_of (Some stage) = awaits_at stage

-- the words that are left from its answer on
abbrev pub left_checks : Words
left_checks = (checks then asked class.CheckClear Queued then failed_drain then full) or (checks then asked class.CheckClear Success then halts)

abbrev pub left_at : Stage → Words
left_at (stage.AbortsOut tag parts) = words_of (need.Out tag parts)
left_at stage.ChecksOut = checks_out
left_at (stage.AbortsIn tag) = into tag
left_at stage.DrainsIn = (failed_drain then full) or (drain then checks_in)
left_at stage.ChecksIn = checks_in
left_at stage.Clears = full
left_at stage.ChecksClear = left_checks
left_at stage.DrainsClear = (drain then left_checks) or (failed_drain then full)
left_at stage.FreesIn = halts
left_at stage.FreesNotify = (Empty or One (Cleared Notify)) then One (Cleared BulkOut)
left_at stage.FreesOut = One (Cleared BulkOut)
left_at stage.Over = Empty

abbrev pub left_of : Need → Option Stage → Words
left_of called None = words_of called
left_of called (Some stage) = left_at stage

-- what is wanted as it is made
abbrev pub wanted_by : Ends → Awaits → Want
wanted_by ends (Answer submit) = want_of ends submit
wanted_by ends awaits = want.Done

-- ---- what comes behind each answer

abbrev pub first_of : Need → Stage
first_of (need.Out tag parts) = stage.AbortsOut tag parts
first_of (need.In tag) = stage.AbortsIn tag
first_of need.Full = stage.Clears

abbrev pub behind_abort_out : (parts : Bool) → Says → Stage
behind_abort_out parts Success = stage.ChecksOut
behind_abort_out parts Failed = if parts then stage.Clears else stage.Over
behind_abort_out parts says = stage.Clears

abbrev pub behind_check_out : Says → Stage
behind_check_out Success = stage.FreesOut
behind_check_out Pending = stage.ChecksOut
behind_check_out says = stage.Clears

abbrev pub behind_abort_in : Says → Stage
behind_abort_in Success = stage.DrainsIn
behind_abort_in Failed = stage.Over
behind_abort_in says = stage.Clears

abbrev pub behind_check_in : Says → Stage
behind_check_in Success = stage.Over
behind_check_in Pending = stage.ChecksIn
behind_check_in Queued = stage.DrainsIn
behind_check_in says = stage.Clears

-- INITIATE_CLEAR and CHECK_CLEAR_STATUS with another status do not go on
abbrev pub behind_clear : Says → (status : ℕ) → Result Stage ℕ
behind_clear Success status = Ok stage.ChecksClear
behind_clear says status = Err status

abbrev pub second_halt : (notify_halted : Bool) → Stage
second_halt notify_halted = if notify_halted then stage.FreesNotify else stage.FreesOut

abbrev pub first_halt : (in_halted notify_halted : Bool) → Stage
first_halt in_halted notify_halted = if in_halted then stage.FreesIn else second_halt notify_halted

abbrev pub behind_check_clear : Says → (status : ℕ) → (in_halted notify_halted : Bool) → Result Stage ℕ
behind_check_clear Success status in_halted notify_halted = Ok (first_halt in_halted notify_halted)
behind_check_clear Pending status in_halted notify_halted = Ok stage.ChecksClear
behind_check_clear Queued status in_halted notify_halted = Ok stage.DrainsClear
behind_check_clear says status in_halted notify_halted = Err status

abbrev pub behind_class : Stage → ClassAnswer → (in_halted notify_halted : Bool) → Result Stage ℕ
behind_class (stage.AbortsOut tag parts) answer in_halted notify_halted =
    Ok (behind_abort_out parts (says_of (class.AbortOut tag) answer.status answer.second))
behind_class stage.ChecksOut answer in_halted notify_halted = Ok (behind_check_out (says_of class.CheckOut answer.status answer.second))
behind_class (stage.AbortsIn tag) answer in_halted notify_halted = Ok (behind_abort_in (says_of (class.AbortIn tag) answer.status answer.second))
behind_class stage.ChecksIn answer in_halted notify_halted = Ok (behind_check_in (says_of class.CheckIn answer.status answer.second))
behind_class stage.Clears answer in_halted notify_halted = behind_clear (says_of class.Clear answer.status answer.second) answer.status
behind_class stage.ChecksClear answer in_halted notify_halted =
    behind_check_clear (says_of class.CheckClear answer.status answer.second) answer.status in_halted notify_halted
behind_class at answer in_halted notify_halted = Ok at

abbrev pub behind_short : Stage → Stage
behind_short stage.DrainsIn = stage.ChecksIn
behind_short at = stage.ChecksClear

abbrev pub behind_feature : Stage → (notify_halted : Bool) → Stage
behind_feature stage.FreesIn notify_halted = second_halt notify_halted
behind_feature stage.FreesNotify notify_halted = stage.FreesOut
behind_feature at notify_halted = stage.Over

abbrev pub behind_heard : Stage → Heard → (in_halted notify_halted : Bool) → Result Stage ℕ
behind_heard at (heard.Class answer) in_halted notify_halted = behind_class at answer in_halted notify_halted
behind_heard at heard.Feature in_halted notify_halted = Ok (behind_feature at notify_halted)
behind_heard at heard.ShortRead in_halted notify_halted = Ok (behind_short at)
behind_heard at heard.FailedRead in_halted notify_halted = Ok stage.Clears
behind_heard at heard in_halted notify_halted = Ok at

abbrev pub step_of : Need → Option Stage → Heard → (in_halted notify_halted : Bool) → Result Stage ℕ
step_of called None heard in_halted notify_halted = Ok (first_of called)
step_of called (Some stage) heard in_halted notify_halted = behind_heard stage heard in_halted notify_halted

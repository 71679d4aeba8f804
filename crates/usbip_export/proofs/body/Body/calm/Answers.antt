use Rattle.std.proofs.Common.{refl}
use Rattle.usbip_export.specs.Steps.{AreCalming}
use Rattle.usbip_export.specs.Body.{seen_of}
use Rattle.usbip_export.proofs.Calmed.{arrivals_calming, calms_behind}
use Rattle.usbip_export.proofs.Single.{spelled_by}
use Rattle.usbip_export.proofs.Spelled.{sound_spelled, body_spelling}
use Rattle.usbip_export.proofs.body.Body.calm.Goals as goal

pub returns-in_err-take_in-clause-moves : goal.returns-in_err-take_in-clause-moves
returns-in_err-take_in-clause-moves c = arrivals_calming _ _ c.take_in.ensures.moves

pub returns-then-not-is_open-clause-moves : goal.returns-then-not-is_open-clause-moves
returns-then-not-is_open-clause-moves c = arrivals_calming _ _ c.in_ok-take_in.ensures.moves

pub returns-in_err-move_on-clause-moves : goal.returns-in_err-move_on-clause-moves
returns-in_err-move_on-clause-moves c =
    calms_behind _ _ _ c.if-not-is_open.ensures.unrefused c.in_ok-take_in.ensures.moves c.move_on.ensures.moves

pub returns-clause-sound : goal.returns-clause-sound
returns-clause-sound c =
    sound_spelled c.move_on.new.self (record c.move_on.new.self { device = c.spell_all.new.device; out = c.spell_all.new.out }) c.in_ok-move_on.ensures.sound
    (record { state = c.spell_all.ensures.state; off = c.spell_all.ensures.spelled; is = refl })

pub returns-clause-moves : goal.returns-clause-moves
returns-clause-moves c =
    spelled_by AreCalming (seen_of c.args.self.now) (seen_of c.move_on.new.self)
    (seen_of (record c.move_on.new.self { device = c.spell_all.new.device; out = c.spell_all.new.out }))
    (calms_behind _ _ _ c.if-not-is_open.ensures.unrefused c.in_ok-take_in.ensures.moves c.in_ok-move_on.ensures.moves)
    (body_spelling c.move_on.new.self (record c.move_on.new.self { device = c.spell_all.new.device; out = c.spell_all.new.out }) c.in_ok-move_on.ensures.sound
    (record { state = c.spell_all.ensures.state; off = c.spell_all.ensures.spelled; is = refl }))

use Rattle.std.proofs.Common.{refl, subst}
use Rattle.usbip_export.specs.Seen.{Seen}
use Rattle.usbip_export.specs.Steps.{AreArrivals, MovesBy}
use Rattle.usbip_export.specs.Body.{seen_of}
use Rattle.usbip_export.proofs.More.{arrivals_more, none_by}
use Rattle.usbip_export.proofs.Single.{spelled_by}
use Rattle.usbip_export.proofs.Spelled.{sound_spelled, body_spelling, rested}
use Rattle.usbip_export.proofs.body.Body.take_in.Goals as goal

pub messages-init : goal.messages-init
messages-init c = record { sound = c.requires.sound; moves = none_by AreArrivals tt (seen_of c.args.self.now) }

pub messages-preserved : goal.messages-preserved
messages-preserved c =
    let read = c.messages-test.ensures.reads in
    record {
      sound = c.in_ok-admit.ensures.sound;
      moves =
          arrivals_more (seen_of c.args.self.now) (seen_of c.messages.self) (seen_of c.admit.new.self) read.0.unrefused c.messages.invariant.moves
          (subst (λ (s : Seen). MovesBy AreArrivals s (seen_of c.admit.new.self)) read.2 c.in_ok-admit.ensures.moves);
    }

pub returns-clause-sound : goal.returns-clause-sound
returns-clause-sound c =
    sound_spelled c.has_message.new.self (record c.has_message.new.self { device = c.spell_all.new.device; out = c.spell_all.new.out }) c.messages-test.ensures.sound
    (record { state = c.spell_all.ensures.state; off = c.spell_all.ensures.spelled; is = refl })

pub returns-clause-moves : goal.returns-clause-moves
returns-clause-moves c =
    spelled_by AreArrivals (seen_of c.args.self.now) (seen_of c.has_message.new.self) (seen_of (record c.has_message.new.self { device = c.spell_all.new.device; out = c.spell_all.new.out }))
    (rested (seen_of c.args.self.now) c.messages.self c.has_message.new.self c.messages-test.ensures.reads c.messages.invariant.moves)
    (body_spelling c.has_message.new.self (record c.has_message.new.self { device = c.spell_all.new.device; out = c.spell_all.new.out }) c.messages-test.ensures.sound
    (record { state = c.spell_all.ensures.state; off = c.spell_all.ensures.spelled; is = refl }))

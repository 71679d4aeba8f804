use Rattle.std.proofs.Common.{sym, subst}
use Rattle.usbip_export.specs.declared.body.Body.{Body}
use Rattle.usbip_export.specs.Steps.{AreCalmSteps, IsCalmStep, MovesBy}
use Rattle.usbip_export.specs.Body.{seen_of}
use Rattle.usbip_export.proofs.More.{none_by, more_by, all_more}
use Rattle.usbip_export.proofs.body.Body.move_on.Goals as goal

pub moves-init : goal.moves-init
moves-init c = record { sound = c.requires.sound; moves = none_by AreCalmSteps tt (seen_of c.args.self.now) }

pub moves-preserved : goal.moves-preserved
moves-preserved c = record {
  sound = c.in-Ok-true.ensures.sound;
  moves =
      more_by AreCalmSteps AreCalmSteps AreCalmSteps (all_more IsCalmStep) (seen_of c.args.self.now) (seen_of c.moves.self) (seen_of c.move_once.new.self)
      (c.in-Ok-true.ensures.unrefused c.in-Ok-true.field-0-test) c.moves.invariant.moves c.in-Ok-true.ensures.moves;
}

pub returns-in-Ok-false-clause-moves : goal.returns-in-Ok-false-clause-moves
returns-in-Ok-false-clause-moves c =
    subst (λ (b : Body). MovesBy AreCalmSteps (seen_of c.args.self.now) (seen_of b))
    (sym (c.in-Ok-false.ensures.none c.in-Ok-false.field-0-test).0) c.moves.invariant.moves

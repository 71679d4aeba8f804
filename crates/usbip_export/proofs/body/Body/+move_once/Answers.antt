use Rattle.std.proofs.Common.{refl, sym, subst}
use Rattle.std.proofs.lemmas.List.{take_rest}
use Rattle.usbip_export.specs.declared.body.Body.{Body}
use Rattle.usbip_export.specs.Steps.{AreCalmSteps, MovesBy}
use Rattle.usbip_export.specs.Body.{seen_of}
use Rattle.usbip_export.proofs.More.{none_by}
use Rattle.usbip_export.proofs.Driven.{drives_by, drives_less, first_calm, none_on}
use Rattle.usbip_export.proofs.body.Body.+move_once.Goals as goal

pub returns-in-empty-clause-moves : goal.returns-in-empty-clause-moves
returns-in-empty-clause-moves n c = none_by AreCalmSteps tt (seen_of c.args.self.now)

pub returns-in-Applied-clause-moves : goal.returns-in-Applied-clause-moves
returns-in-Applied-clause-moves n c =
    drives_by _ _ _ (c.in-Applied.ensures.enabled (λ e. cc)).imported
    (first_calm c.args.events.now _ c.in-len1-up.len_at_least c.requires.calm) (c.in-Applied.ensures.applied refl)

pub returns-in-Applied-clause-less : goal.returns-in-Applied-clause-less
returns-in-Applied-clause-less n c = λ _.
    drives_less c.packets_are_of_transfers.ensures.takes c.packets_are_of_transfers.ensures.fills _ _ _
    (first_calm c.args.events.now _ c.in-len1-up.len_at_least c.requires.calm) (c.in-Applied.ensures.applied refl)

pub returns-in-NotEnabled-clause-moves : goal.returns-in-NotEnabled-clause-moves
returns-in-NotEnabled-clause-moves n c =
    subst (λ (b : Body). MovesBy AreCalmSteps (seen_of b) (seen_of c.move_once.new.self)) (c.in-NotEnabled.ensures.kept (λ e. cc)) c.move_once.ensures.moves

pub returns-in-NotEnabled-clause-none : goal.returns-in-NotEnabled-clause-none
returns-in-NotEnabled-clause-none n c =
    none_on c.move_once.result c.args.events.now _ _ c.move_once.new.self c.drive.new.self c.args.self.now c.in-len1-up.len_at_least (take_rest c.args.events.now 1)
    (c.in-NotEnabled.ensures.kept (λ e. cc)) (c.in-NotEnabled.ensures.none refl) c.move_once.ensures.none

pub returns-in-Memory-clause-moves : goal.returns-in-Memory-clause-moves
returns-in-Memory-clause-moves n c =
    subst (λ (b : Body). MovesBy AreCalmSteps (seen_of c.args.self.now) (seen_of b)) (sym (c.in-Memory.ensures.kept (λ e. cc))) (none_by AreCalmSteps tt (seen_of c.args.self.now))

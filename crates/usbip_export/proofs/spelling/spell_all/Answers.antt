use Rattle.std.proofs.Common.{List, subst, ◌∙◌}
use Rattle.tmc_law.specs.Put.{Put}
use Rattle.usbip_export.specs.TakenIn.{SpellsOff}
use Rattle.usbip_export.proofs.Joined.{spells_one}
use Rattle.usbip_export.proofs.spelling.spell_all.Goals as goal

pub answers-preserved : goal.answers-preserved
answers-preserved c =
    let told = c.in-Ok-true.ensures.spelled c.in-Ok-true.field-0-test in
    record {
      spelled =
          spells_one c.args.device.now.puts _ told.0 c.args.out.now.items c.answers.out.items _ told.1
          (subst (λ (ps : List Put). SpellsOff c.args.device.now.puts ps c.args.out.now.items c.answers.out.items) told.2 c.answers.invariant.spelled)
          told.3 told.4;
      state = c.in-Ok-true.ensures.state ∙ c.answers.invariant.state;
    }

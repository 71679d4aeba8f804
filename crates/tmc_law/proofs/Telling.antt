-- told steps and runs
use Rattle.std.proofs.Common.{◌≡◌, ℕ, List, [], ◌∷◌, ◌++◌, refl, sym, ap, subst, ◌∙◌, append-nil}
use Rattle.tmc_base.specs.declared.run_step.RunStep.{RunStep}
use Rattle.tmc_base.specs.Told as bytes
use Rattle.tmc_base.specs.Told.{in_bytes, out_bytes}
use Rattle.tmc_law.specs.State.{State}
use Rattle.tmc_law.specs.Put.{Put}
use Rattle.tmc_law.specs.Run.{Entry, Runs, TakesAll, outputs, SpellsPut, SpellAll, Fits}
use Rattle.tmc_law.specs.Told.{Tells}
use Rattle.tmc_law.proofs.Rows as rows
use Rattle.tmc_law.proofs.Joined.{together, taken_together, outputs_together}

-- told steps are a run
pub untold : (devid : ℕ) (steps : List RunStep) (s t : State) → Tells devid s steps t
    → (run : List Entry) × Runs s run t × TakesAll devid run (in_bytes steps) × SpellAll SpellsPut (outputs run) (out_bytes steps)
untold devid [] s t same = ([], same, refl, refl)
untold devid (step ∷ steps) s t (mid, means, more) =
    let rest = untold devid steps mid t more in (
      means.run ++ rest.0,
      together means.run rest.0 s mid t means.goes rest.1,
      taken_together devid means.run rest.0 step.took (in_bytes steps) means.took rest.2,
      subst (λ (puts : List Put). SpellAll SpellsPut puts (step.put ++ out_bytes steps)) (sym (outputs_together means.run rest.0))
          (rows.together SpellsPut (outputs means.run) (outputs rest.0) step.put (out_bytes steps) means.put rest.3),
    )

-- a run with these spellings is told by some steps, as by one
pub told : (devid : ℕ) (run : List Entry) (s t : State) (took put : List ℕ) → Runs s run t → TakesAll devid run took → SpellAll SpellsPut (outputs run) put
    → (steps : List RunStep) × Tells devid s steps t × (in_bytes steps ≡ took) × (out_bytes steps ≡ put)
told devid run s t took put goes ins outs = (
  record { took = took; put = put } ∷ [],
  (t, record { run = run; goes = goes; took = ins; put = outs }, refl),
  append-nil took,
  append-nil put,
)

-- a run that was told fits what its steps fit
pub fits : (devid : ℕ) (run : List Entry) (steps : List RunStep) (sent received : List ℕ)
    → TakesAll devid run (in_bytes steps) → SpellAll SpellsPut (outputs run) (out_bytes steps) → bytes.Fits sent received steps
    → Fits devid run sent received
fits devid run steps sent received ins outs fit =
    record { taken_in = in_bytes steps; takes = ins; sent_first = fit.inputs; text = out_bytes steps; spelled = outs; put = fit.outputs }

-- a run that fits is told by steps that fit
pub fits_told : (devid : ℕ) (run : List Entry) (s t : State) (sent received : List ℕ) → Runs s run t → Fits devid run sent received
    → (steps : List RunStep) × Tells devid s steps t × bytes.Fits sent received steps
fits_told devid run s t sent received goes fit =
    let steps = told devid run s t fit.taken_in fit.text goes fit.takes fit.spelled in (
      steps.0,
      steps.1,
      record {
        inputs = (fit.sent_first.0, fit.sent_first.1 ∙ ap (λ (l : List ℕ). l ++ fit.sent_first.0) (sym steps.2));
        outputs = (fit.put.0, steps.3 ∙ fit.put.1);
      },
    )

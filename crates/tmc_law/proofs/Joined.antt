-- runs join end to end, and come apart
use Rattle.std.proofs.Common.{◌≡◌, ◌∙◌, ℕ, List, [], ◌∷◌, ◌++◌, refl, sym, ap, subst, append_assoc}
use Rattle.tmc_base.specs.declared.run_step.RunStep.{RunStep}
use Rattle.tmc_law.specs.State.{State}
use Rattle.usbip_wire.specs.Up.{Message}
use Rattle.tmc_law.specs.Put.{Put}
use Rattle.tmc_law.specs.Run.{Entry, Runs, TakesAll, taken, inputs, outputs}
use Rattle.tmc_law.specs.Told.{Tells}

pub apart : (a b : List Entry) (s t : State) → Runs s (a ++ b) t → (m : State) × Runs s a m × Runs m b t
apart [] b s t run = (s, refl, run)
apart (entry ∷ a) b s t run =
    let rest = apart a b run.0 t run.2 in (rest.0, (run.0, run.1, rest.1), rest.2)

pub together : (a b : List Entry) (s m t : State) → Runs s a m → Runs m b t → Runs s (a ++ b) t
together [] b s m t run more = subst (λ (from : State). Runs from b t) run more
together (entry ∷ a) b s m t run more = (run.0, run.1, together a b run.0 m t run.2 more)

pub told_apart : (devid : ℕ) (a b : List RunStep) (s t : State) → Tells devid s (a ++ b) t → (m : State) × Tells devid s a m × Tells devid m b t
told_apart devid [] b s t run = (s, refl, run)
told_apart devid (step ∷ a) b s t run =
    let rest = told_apart devid a b run.0 t run.2 in (rest.0, (run.0, run.1, rest.1), rest.2)

pub told_together : (devid : ℕ) (a b : List RunStep) (s m t : State) → Tells devid s a m → Tells devid m b t → Tells devid s (a ++ b) t
told_together devid [] b s m t run more = subst (λ (from : State). Tells devid from b t) run more
told_together devid (step ∷ a) b s m t run more = (run.0, run.1, told_together devid a b run.0 m t run.2 more)

-- the bytes that a run takes in

pub taken_apart : (devid : ℕ) (a b : List Entry) (bytes : List ℕ) → TakesAll devid (a ++ b) bytes
    → (front rest : List ℕ) × (bytes ≡ front ++ rest) × TakesAll devid a front × TakesAll devid b rest
taken_apart devid [] b bytes took = ([], bytes, refl, refl, took)
taken_apart devid (entry ∷ a) b bytes (front, rest, is, first, took) =
    let more = taken_apart devid a b rest took in (
      front ++ more.0,
      more.1,
      is ∙ (ap (λ (l : List ℕ). front ++ l) more.2 ∙ sym (append_assoc front more.0 more.1)),
      (front, more.0, refl, first, more.3),
      more.4,
    )

pub taken_together : (devid : ℕ) (a b : List Entry) (front rest : List ℕ) → TakesAll devid a front → TakesAll devid b rest
    → TakesAll devid (a ++ b) (front ++ rest)
taken_together devid [] b front rest none took = subst (λ (l : List ℕ). TakesAll devid b (l ++ rest)) (sym none) took
taken_together devid (entry ∷ a) b front rest (first, more, is, takes, took) behind = (
  first,
  more ++ rest,
  ap (λ (l : List ℕ). l ++ rest) is ∙ append_assoc first more rest,
  takes,
  taken_together devid a b more rest took behind,
)

pub inputs_together : (a b : List Entry) → inputs (a ++ b) ≡ inputs a ++ inputs b
inputs_together [] b = refl
inputs_together (entry ∷ a) b =
    ap (λ (ms : List Message). taken entry.move ++ ms) (inputs_together a b) ∙ sym (append_assoc (taken entry.move) (inputs a) (inputs b))

pub outputs_together : (a b : List Entry) → outputs (a ++ b) ≡ outputs a ++ outputs b
outputs_together [] b = refl
outputs_together (entry ∷ a) b =
    ap (λ (puts : List Put). entry.puts ++ puts) (outputs_together a b) ∙ sym (append_assoc entry.puts (outputs a) (outputs b))

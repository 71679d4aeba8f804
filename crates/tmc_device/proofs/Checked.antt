-- what a check answers, by what runs
use Rattle.std.proofs.Common.{◌≡◌, ◌≢◌, ◌∙◌, refl, sym, ap, ℕ, Bool, true, false, [], ◌∷◌}
use Rattle.tmc_law.specs.State.{State}
use Rattle.tmc_law.specs.State as law
use Rattle.tmc_law.specs.Aborts.{checked_out, checked_in, checked_clear, check_out_layout, check_in_layout}
use Rattle.tmc_device.specs.declared.running.Running.{Running}
use Rattle.tmc_device.specs.declared.running.Running.TheVariants as running
use Rattle.tmc_device.specs.Parts.{running_of}

-- the state when this runs
abbrev pub with : State → Running → State
with s runs = record s { running = running_of runs }

pub out_ends : (s : State) (runs : Running) → runs ≡ running.AbortsOut
    → checked_out (with s runs) ≡ record { layout = check_out_layout 1; behind = []; state = record s { running = law.Nothing } }
out_ends s runs is = ap (λ (r : Running). checked_out (with s r)) is

pub out_none : (s : State) (runs : Running) → runs ≢ running.AbortsOut
    → checked_out (with s runs) ≡ record { layout = check_out_layout 0x82; behind = []; state = with s runs }
out_none s running.Nothing none = refl
out_none s running.AbortsOut none = absurd (none refl)
out_none s (running.AbortsIn wanting given) none = refl
out_none s running.Clears none = refl

pub in_pending : (s : State) (runs : Running) (given : ℕ) → runs ≡ running.AbortsIn true given
    → checked_in (with s runs) ≡ record { layout = check_in_layout 2 1 given; behind = []; state = with s runs }
in_pending s runs given is =
    ap (λ (r : Running). checked_in (with s r)) is
    ∙ ap (λ (r : Running). record { layout = check_in_layout 2 1 given; behind = []; state = with s r }) (sym is)

pub in_ends : (s : State) (runs : Running) (given : ℕ) → runs ≡ running.AbortsIn false given
    → checked_in (with s runs) ≡ record { layout = check_in_layout 1 0 given; behind = []; state = record s { running = law.Nothing } }
in_ends s runs given is = ap (λ (r : Running). checked_in (with s r)) is

pub in_none : (s : State) (runs : Running) → ((wanting : Bool) (given : ℕ) → runs ≢ running.AbortsIn wanting given)
    → checked_in (with s runs) ≡ record { layout = check_in_layout 0x82 0 0; behind = []; state = with s runs }
in_none s running.Nothing none = refl
in_none s running.AbortsOut none = refl
in_none s (running.AbortsIn wanting given) none = absurd (none wanting given refl)
in_none s running.Clears none = refl

pub clear_ends : (s : State) (runs : Running) → runs ≡ running.Clears
    → checked_clear (with s runs) ≡ record { layout = 1 ∷ 0 ∷ []; behind = []; state = record s { running = law.Nothing } }
clear_ends s runs is = ap (λ (r : Running). checked_clear (with s r)) is

pub clear_none : (s : State) (runs : Running) → runs ≢ running.Clears
    → checked_clear (with s runs) ≡ record { layout = 0x82 ∷ 0 ∷ []; behind = []; state = with s runs }
clear_none s running.Nothing none = refl
clear_none s running.AbortsOut none = refl
clear_none s (running.AbortsIn wanting given) none = refl
clear_none s running.Clears none = absurd (none refl)

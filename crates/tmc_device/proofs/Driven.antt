-- what a call of drive did
use Rattle.std.proofs.Common.{◌≡◌, ◌≢◌, refl, sym, subst, List, [], ◌∷◌, ◌++◌, Result, Ok, Err, OnOk, OnErr}
use Rattle.tmc_law.specs.declared.dev_event.DevEvent.{DevEvent}
use Rattle.tmc_law.specs.State.{State}
use Rattle.tmc_law.specs.Put.{Put}
use Rattle.tmc_law.specs.AnswerFits.{FitsAsked, AllAnswers}
use Rattle.tmc_law.specs.Step.{Move, Steps}
use Rattle.tmc_device.specs.declared.drove.Drove.{Drove}
use Rattle.tmc_device.specs.declared.drove.Drove.TheVariants.{Applied, NotEnabled, Memory}
use Rattle.tmc_device.specs.Seen.{Seen, IsReached, Makes}
use Rattle.tmc_device.specs.Events.{Does, Applies, NoneLawful, IsEnabled, move_of}
use Rattle.tmc_device.proofs.Moves as moves

pub record Driven (e : DevEvent) (old : Seen) (result : Drove) (new : Seen) : Type 0 where
  pub applied : result ≡ Applied → Applies e old new
  pub none : result ≡ NotEnabled → NoneLawful e old.state
  pub declined : result ≡ NotEnabled → IsEnabled e old.state → ⊥
  pub enabled : result ≢ NotEnabled → IsEnabled e old.state
  pub kept : result ≢ Applied → new ≡ old

pub driven : (e : DevEvent) (old : Seen) (result : Drove) (new : Seen) → Does e old result new → Driven e old result new
driven e old Applied new does = record {
  applied = λ is. record {
    move = move_of e old.state;
    allowed = moves.allowed e old.state does.0;
    made = does.1;
    greatest = λ other puts t allows steps. moves.greatest e old.state t other puts allows steps;
  };
  none = λ is. absurd (cc);
  declined = λ is. absurd (cc);
  enabled = λ some. does.0;
  kept = λ other. absurd (other refl);
}
driven e old NotEnabled new does = record {
  applied = λ is. absurd (cc);
  none = λ is move puts t allows steps. does.0 (moves.enabled e old.state t move puts allows steps);
  declined = λ is. does.0;
  enabled = λ some. absurd (some refl);
  kept = λ other. does.1;
}
driven e old Memory new does = record {
  applied = λ is. absurd (cc);
  none = λ is. absurd (cc);
  declined = λ is. absurd (cc);
  enabled = λ some. does.0;
  kept = λ other. does.1;
}

-- what was put out before and what joins it fit
pub all_fit : (P : Put → Type 0) (a b : List Put) → AllAnswers P a → AllAnswers P b → AllAnswers P (a ++ b)
all_fit P [] b x y = y
all_fit P (put ∷ a) b x y = (x.0, all_fit P a b x.1 y)

-- the state that a call leads to can be reached, and what it put out fits what it answers
pub record Lawful (seen : Seen) : Type 0 where
  pub reached : IsReached seen.state
  pub fit : AllAnswers FitsAsked seen.puts

pub made_lawful : ((s t : State) (move : Move) (puts : List Put) → IsReached s → Steps s move puts t → IsReached t)
    → ((s t : State) (move : Move) (puts : List Put) → IsReached s → Steps s move puts t → AllAnswers FitsAsked puts)
    → (move : Move) (old new : Seen) → Lawful old → Makes move old new → Lawful new
made_lawful goes fits move old new before makes = record {
  reached = goes old.state new.state move makes.puts before.reached makes.steps;
  fit = subst (λ (l : List Put). AllAnswers FitsAsked l) (sym makes.joins)
      (all_fit FitsAsked old.puts makes.puts before.fit (fits old.state new.state move makes.puts before.reached makes.steps));
}

pub still_lawful : ((s t : State) (move : Move) (puts : List Put) → IsReached s → Steps s move puts t → IsReached t)
    → ((s t : State) (move : Move) (puts : List Put) → IsReached s → Steps s move puts t → AllAnswers FitsAsked puts)
    → (e : DevEvent) (old : Seen) (result : Drove) (new : Seen) → Lawful old → Does e old result new → Lawful new
still_lawful goes fits e old Applied new before does = made_lawful goes fits (move_of e old.state) old new before does.1
still_lawful goes fits e old NotEnabled new before does = subst (λ (z : Seen). Lawful z) (sym does.1) before
still_lawful goes fits e old Memory new before does = subst (λ (z : Seen). Lawful z) (sym does.1) before

-- the same behind what arrives
pub came_lawful : {A E : Type 0} → ((s t : State) (move : Move) (puts : List Put) → IsReached s → Steps s move puts t → IsReached t)
    → ((s t : State) (move : Move) (puts : List Put) → IsReached s → Steps s move puts t → AllAnswers FitsAsked puts)
    → (move : Move) (old new : Seen) (result : Result A E) → Lawful old → OnOk result (Makes move old new) → OnErr result (new ≡ old) → Lawful new
came_lawful goes fits move old new (Ok a) before ok err = made_lawful goes fits move old new before ok
came_lawful goes fits move old new (Err e) before ok err = subst (λ (z : Seen). Lawful z) (sym err) before

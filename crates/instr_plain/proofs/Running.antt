-- the execution of units one after another
use Rattle.std.proofs.Common.{◌≡◌, ◌∙◌, ℕ, ◌+◌, ◌<◌, Bool, true, false, ◌&&◌, Option, List, [], ◌∷◌, length, get_or, drop, refl, sym, ap, inl, inr, subst, add-one, drop-cons}
use Rattle.std.proofs.lemmas.Bool.{false≢true}
use Rattle.ieee_syntax.specs.declared.unit.Unit.{Unit}
use Rattle.instr_plain.specs.declared.answer.Answer.{Answer}
use Rattle.instr_plain.specs.declared.plain.Plain.{Plain}
use Rattle.instr_plain.specs.declared.command.Command.{Command}
use Rattle.instr_plain.specs.Status.{command_error, with_event}
use Rattle.instr_plain.specs.Command.{unit_of, is_query, IsUnknown}
use Rattle.instr_plain.specs.Outcome.{outcome_of}
use Rattle.instr_plain.specs.Exec.{Progress, Executes, performed, told, some_stand, with_error}
use Rattle.instr_plain.specs.Output.{Written, IsAt}

-- the units up to the rest lead here: what the rest leads to, all of them lead to
pub record Reaches (before : Progress) (units rest : List Unit) (state : Plain) (output : Written) : Type 0 where
  pub now : Progress
  pub at : IsAt now state output
  pub goes : (after : Progress) → Executes now rest after → Executes before units after

pub begins : (before : Progress) (units : List Unit) (state : Plain) (output : Written) → IsAt before state output → Reaches before units units state output
begins before units state output at = record { now = before; at = at; goes = λ after e. e }

-- one more unit
pub steps : (before : Progress) (units : List Unit) (i : ℕ) (unit : Unit) (command : Command) (state : Plain) (output : Written) (state' : Plain) (output' : Written)
    → Reaches before units (drop i units) state output
    → i < length units → unit ≡ get_or units i unit → unit ≡ unit_of command
    → ((progress : Progress) → IsAt progress state output → IsAt (performed command progress) state' output')
    → Reaches before units (drop (i + 1) units) state' output'
steps before units i unit command state output state' output' reached within item is obeyed =
    let rest : drop i units ≡ unit ∷ drop (i + 1) units = rw (add-one, item) (drop-cons units i unit within) in
    record {
      now = performed command reached.now;
      at = obeyed reached.now reached.at;
      goes = λ after e. reached.goes after (subst (λ (us : List Unit). Executes reached.now us after) (sym rest) (inl (command, is, e)));
    }

-- what units led to
pub record Arrives (before : Progress) (units : List Unit) (state : Plain) (output : Written) : Type 0 where
  pub end : Progress
  pub executes : Executes before units end
  pub at : IsAt end state output

-- a unit that is unknown
pub stops : (before : Progress) (units : List Unit) (i : ℕ) (unit : Unit) (state : Plain) (output : Written)
    → Reaches before units (drop i units) state output
    → i < length units → unit ≡ get_or units i unit → IsUnknown unit
    → Arrives before units (with_event command_error state) output
stops before units i unit state output reached within item unknown =
    let rest : drop i units ≡ unit ∷ drop (i + 1) units = rw (add-one, item) (drop-cons units i unit within) in
    let end = with_error command_error reached.now in
    record {
      end = end;
      executes = reached.goes end (subst (λ (us : List Unit). Executes reached.now us end) (sym rest) (inr (unknown, refl)));
      at = record { state_is = ap (λ p. with_event command_error p) reached.at.state_is; output_is = reached.at.output_is };
    }

-- a command that acts and may answer
pub acts : (command : Command) (before : Progress) (state : Plain) (answer : Option Answer)
    → (is_query command && before.ended) ≡ false
    → outcome_of command (some_stand before.answers) before.state ≡ record { state = state; answer = answer }
    → performed command before ≡ told answer (record before { state = state })
acts command before state answer idle outcome = rw (idle, outcome) refl

pub and-false : (a : Bool) → (a && false) ≡ false
and-false true = refl
and-false false = refl

pub false-and : (a b : Bool) → a ≡ false → (a && b) ≡ false
false-and true b e = absurd (false≢true (sym e))
false-and false b e = refl

pub ended-false : (a b : Bool) → b ≡ false → (a && b) ≡ false
ended-false a b e = ap (λ x. a && x) e ∙ and-false a

-- no units are left
pub ends_all : (before : Progress) (units : List Unit) (i : ℕ) (state : Plain) (output : Written)
    → Reaches before units (drop i units) state output → drop i units ≡ [] → Arrives before units state output
ends_all before units i state output reached none = record {
  end = reached.now;
  executes = reached.goes reached.now (subst (λ (us : List Unit). Executes reached.now us reached.now) (sym none) refl);
  at = reached.at;
}

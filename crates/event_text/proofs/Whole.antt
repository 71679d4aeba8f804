-- a call of a reader that completes a message is a step
use Rattle.std.proofs.Common.{Result, Ok, Err, IfOk, ◌≡◌, ℕ, zero, suc, ◌<◌, ◌≤◌, List, [], ◌++◌, length, take, sym, ◌∙◌, append-nil, arith}
use Rattle.event_text.specs.declared.reading.Step.TheVariants as step
use Rattle.event_text.specs.Message.{Message, Spells, NoneWhole}
use Rattle.event_text.specs.Printed.{message_line}
use Rattle.event_text.specs.Read.{Stepped}
use Rattle.event_text.specs.Shown.{Standing, taken}

-- a message that was not whole takes a byte more
some_used : (old : Standing) (piece : List ℕ) (used : ℕ) (m : Message) → NoneWhole old.reading old.entries old.rest
    → Spells old.reading old.entries m (old.rest ++ take used piece) → 0 < used
some_used old piece zero m none spelled =
    absurd (none m (old.rest ++ []) [] spelled (sym (append-nil (old.rest ++ []) ∙ append-nil old.rest)))
some_used old piece (suc used) m none spelled = omega arith

pub whole_stepped : (old : Standing) (piece : List ℕ) (used : ℕ) (m : Message) (text : List ℕ) (new : Standing) → NoneWhole old.reading old.entries old.rest
    → used ≤ length piece → Spells old.reading old.entries m (old.rest ++ take used piece) → text ≡ message_line m → new ≡ taken old m []
    → Stepped old piece (step.Message used) text new
whole_stepped old piece used m text new none within spelled printed is = (some_used old piece used m none spelled, within, (m, spelled, printed, is))

pub if_ok : {A E : Type 0} (r : Result A E) (P Q : A → Type 0) → ((x : A) → P x → Q x) → IfOk r P → IfOk r Q
if_ok {A} {E} (Ok x) P Q go held = go x held
if_ok {A} {E} (Err e) P Q go held = tt

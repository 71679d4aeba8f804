-- an answer about a script of events is the one that there is
use Rattle.std.proofs.Common.{◌≡◌, ℕ, Result, Ok, Err, List, refl, ap, ◌∙◌, inl, inr}
use Rattle.std.specs.Prelude.{◌⊎◌, IfOk, IfErr}
use Rattle.event_text.specs.declared.event.Script.{Script}
use Rattle.event_text.specs.declared.line_fault.LineFault.{LineFault}
use Rattle.event_text.specs.declared.line_fault.LineFault.TheVariants.{At, Memory}
use Rattle.event_text.specs.declared.line_fault.LineWhat.{LineWhat}
use Rattle.event_text.specs.EventScript.{IsEventScript, IsRefusedEvent, IsEventFault}
use Rattle.event_text.proofs.EventsDetermined.{scripts_one, refusals_one, not_both}

pub script_answer : (source : List ℕ) (result : Result Script LineFault) → IfOk result (IsEventScript source) → IfErr result (IsEventFault source)
    → (script : Script) → IsEventScript source script → (result ≡ Ok script) ⊎ (result ≡ Err Memory)
script_answer source (Ok other) read fault script is = inl (ap (λ (z : Script). Ok z) (scripts_one source other script read is))
script_answer source (Err (At number what)) read refused script is = absurd (not_both source script number what is refused)
script_answer source (Err Memory) read refused script is = inr refl

pub refused_answer : (source : List ℕ) (result : Result Script LineFault) → IfOk result (IsEventScript source) → IfErr result (IsEventFault source)
    → (number : ℕ) (what : LineWhat) → IsRefusedEvent source number what → (result ≡ Err (At number what)) ⊎ (result ≡ Err Memory)
refused_answer source (Ok script) read fault number what refused = absurd (not_both source script number what read refused)
refused_answer source (Err (At second other)) read fault number what refused =
    let same = refusals_one source second number other what fault refused in
    inl (ap (λ (k : ℕ). Err (At k other)) same.0 ∙ ap (λ (w : LineWhat). Err (At number w)) same.1)
refused_answer source (Err Memory) read fault number what refused = inr refl

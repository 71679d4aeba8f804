-- a fault is the one that there is
use Rattle.std.proofs.Common.{◌≡◌, ℕ, Result, Ok, Err, List, refl, ap, ◌∙◌, inl, inr}
use Rattle.std.specs.Prelude.{◌⊎◌, IfErr, IsErr}
use Rattle.event_text.specs.declared.way.Way.{Way}
use Rattle.event_text.specs.declared.line_fault.LineFault.{LineFault}
use Rattle.event_text.specs.declared.line_fault.LineFault.TheVariants.{At, Memory}
use Rattle.event_text.specs.declared.line_fault.LineWhat.{LineWhat}
use Rattle.event_text.specs.Shown.{SourceShown, SourceRefused, SourceFault}

pub shown_answer : (way : Way) (source text : List ℕ) (result : Result Unit LineFault)
    → ((number : ℕ) (what : LineWhat) → SourceShown way source text → SourceRefused way source number what → ⊥)
    → IfErr result (SourceFault way source) → SourceShown way source text → (result ≡ Ok tt) ⊎ (result ≡ Err Memory)
shown_answer way source text (Ok done) either fault shown = inl refl
shown_answer way source text (Err (At number what)) either refused shown = absurd (either number what shown refused)
shown_answer way source text (Err Memory) either refused shown = inr refl

pub refused_answer : (way : Way) (source : List ℕ) (number : ℕ) (what : LineWhat) (result : Result Unit LineFault)
    → ((second : ℕ) (other : LineWhat) → SourceRefused way source second other → SourceRefused way source number what → (second ≡ number) × (other ≡ what))
    → IsErr result → IfErr result (SourceFault way source) → SourceRefused way source number what → (result ≡ Err (At number what)) ⊎ (result ≡ Err Memory)
refused_answer way source number what (Ok done) line err fault refused = absurd (cc err)
refused_answer way source number what (Err (At second other)) line err fault refused =
    let same = line second other fault refused in
    inl (ap (λ (k : ℕ). Err (At k other)) same.0 ∙ ap (λ (w : LineWhat). Err (At number w)) same.1)
refused_answer way source number what (Err Memory) line err fault refused = inr refl

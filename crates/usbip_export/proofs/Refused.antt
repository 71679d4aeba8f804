-- a field of what was fed is refused
use Rattle.std.proofs.Common.{◌≡◌, ◌∙◌, ℕ, Bool, true, false, List, ◌++◌, Some, None, refl, sym, ap, subst}
use Rattle.tmc_base.specs.declared.field.Field.{Field}
use Rattle.usbip_wire.specs.declared.up.Up.{Up}
use Rattle.usbip_wire.specs.declared.up.Up.TheVariants as what
use Rattle.usbip_wire.specs.declared.up.UpPhase.{UpPhase}
use Rattle.usbip_wire.specs.declared.up.UpStep.{UpStep}
use Rattle.usbip_wire.specs.UpFed.{Held, Fed, Answers, BadAt, kept}
use Rattle.tmc_law.specs.Step.{ByField}
use Rattle.usbip_export.specs.declared.body.Body.{Body}
use Rattle.usbip_export.specs.Seen.{phase_of}
use Rattle.usbip_export.specs.Steps.{AreArrivals, MovesBy}
use Rattle.usbip_export.specs.Body.{kept_of, seen_of, IsSound, IsOpen}
use Rattle.usbip_export.specs.Taking.{Rests, Closes}
use Rattle.usbip_export.proofs.Single.{closed_at, failed_at}

bad_field : (phase : UpPhase) (start piece : List ℕ) (used : ℕ) (said : Up) (reader : Held) (f : Field) → Answers phase start piece used said reader
    → said ≡ what.Bad f → BadAt phase (start ++ piece) f
bad_field phase start piece used said reader f answers says =
    (subst (λ (w : Up). Answers phase start piece used w reader) says answers).2

pub bad_closes : (old new : Body) (f : Field) (step : UpStep) (reader : Held) (piece : List ℕ) → IsSound old → IsOpen old → old.waiting ≡ None
    → piece ≡ old.late.items → Fed old.reader piece step reader → step.what ≡ what.Bad f
    → new ≡ record old { reader = reader; refused = Some f; waiting = None; late = new.late } → Rests old new
bad_closes old new f step reader piece sound opened idle late fed says is =
    let bad : BadAt old.reader.phase (kept old.reader ++ old.late.items) f =
    subst (λ (l : List ℕ). BadAt old.reader.phase (kept old.reader ++ l) f) late
    (bad_field old.reader.phase (kept old.reader) piece step.used step.what reader f (fed.fresh (sound.good opened.unrefused)) says) in
    let whole : (seen_of old).kept ≡ kept old.reader ++ old.late.items =
    ap (λ r. kept_of r old.waiting old.reader old.late.items) opened.unrefused ∙ ap (λ w. kept_of None w old.reader old.late.items) idle in
    let field : BadAt (phase_of old.imported) (seen_of old).kept f =
    subst (λ (p : UpPhase). BadAt p (seen_of old).kept f) sound.phase (subst (λ (l : List ℕ). BadAt old.reader.phase l f) (sym whole) bad) in
    Closes opened.unrefused
    (subst (λ (b : Body). MovesBy AreArrivals (seen_of old) (seen_of b)) (sym is) (by old.imported refl field))
    (λ shut. clash (sym (ap (λ (b : Body). b.refused) is) ∙ shut.unrefused)) where
      clash : Some f ≡ None → ⊥
      clash e = cc

      closed : Body
      closed = record old { reader = reader; refused = Some f; waiting = None; late = new.late }

      by : (b : Bool) → old.imported ≡ b → BadAt (phase_of old.imported) (seen_of old).kept f → MovesBy AreArrivals (seen_of old) (seen_of closed)
      by true was field =
          closed_at (seen_of old) (seen_of closed) f was was opened.unrefused refl refl opened.plugged
          (ByField (subst (λ b. BadAt (phase_of b) (seen_of old).kept f) was field)) (record { state = refl; puts = refl }) refl
      by false was field =
          failed_at (seen_of old) (seen_of closed) f was was opened.unrefused refl refl
          (subst (λ b. BadAt (phase_of b) (seen_of old).kept f) was field) (record { state = refl; puts = refl }) refl

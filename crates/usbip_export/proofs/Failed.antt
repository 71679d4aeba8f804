-- why a node refused what it was fed
use Rattle.std.proofs.Common.{◌≡◌, ◌≢◌, ◌↔◌, ◌∙◌, ℕ, Bool, true, false, List, [], ◌++◌, Option, Some, None, refl, sym, ap, subst, append-nil}
use Rattle.tmc_base.specs.declared.field.Field.{Field}
use Rattle.usbip_wire.specs.declared.up.UpPhase.TheVariants.{Ops}
use Rattle.usbip_wire.specs.UpFed.{BadAt}
use Rattle.tmc_law.specs.State.{State, Plugged, Closed}
use Rattle.tmc_law.specs.Run.{Entry, Runs, TakesAll}
use Rattle.tmc_law.specs.Laws.{EndsRefused}
use Rattle.tmc_device.specs.Seen.{is_closed}
use Rattle.usbip_export.specs.declared.fed.Fed.{Fed}
use Rattle.usbip_export.specs.declared.fed.Fed.TheVariants as fed
use Rattle.usbip_export.proofs.Worked.{closed_presence}
use Rattle.usbip_export.specs.Identity.{devid}
use Rattle.usbip_export.specs.Seen.{Seen, standing, closed_by}
use Rattle.usbip_export.specs.TakenIn.{TakenIn, Asked, Failed, Imported, Served}
use Rattle.usbip_export.specs.Serving.{Works}
use Rattle.usbip_export.specs.Failing.{FailsAt, AtOperation, BehindImport, AtMessage}

abbrev pub EndsLaw : Type 0
EndsLaw =
    (number : ℕ) (run : List Entry) (s t : State) (bytes : List ℕ) (f : Field) → s.presence ≡ Plugged → Runs s run t
    → TakesAll number run bytes → t.presence ≡ Closed f → EndsRefused number s run t bytes f

closed_presence_of : (new : Seen) (f : Field) → new.refused ≡ Some f → (standing new).presence ≡ Closed f
closed_presence_of new f bad = ap (λ r. (closed_by r new.state).presence) bad

abbrev which : Option Field → Field → Field
which (Some g) otherwise = g
which None otherwise = otherwise

fails_taken : EndsLaw → (took answered : List ℕ) (old new : Seen) (f : Field) → old.refused ≡ None → (standing old).presence ≡ Plugged
    → new.refused ≡ Some f → TakenIn took answered old new → FailsAt old took f
fails_taken law took answered old new f good plugged bad (Asked rs was is same row none says untouched) = absurd (clash (sym good ∙ (sym same ∙ bad))) where
  clash : None ≡ Some f → ⊥
  clash e = cc
fails_taken law took answered old new f good plugged bad (Failed rs front rest g was is fine refused cut row none field says untouched) =
    AtOperation rs front rest was cut row none (subst (λ (x : Field). BadAt Ops rest x) (ap (λ r. which r f) (sym refused ∙ bad)) field)
fails_taken law took answered old new f good plugged bad (Imported rs front request rest behind was is cut row none asks begins says serves) =
    BehindImport rs front request rest serves.run (standing new) was cut row none asks
    (subst (λ (s : State). EndsRefused devid s serves.run (standing new) rest f) begins
    (law devid serves.run (standing old) (standing new) rest f plugged serves.goes serves.takes (closed_presence_of new f bad)))
fails_taken law took answered old new f good plugged bad (Served was is serves) =
    AtMessage serves.run (standing new) was
    (law devid serves.run (standing old) (standing new) took f plugged serves.goes serves.takes (closed_presence_of new f bad))

pub fails : EndsLaw → (old new : Seen) (piece : List ℕ) (f : Field) → old.refused ≡ None → (standing old).presence ≡ Plugged
    → new.refused ≡ Some f → new.kept ≡ [] → Works piece [] old new → FailsAt old (old.kept ++ piece) f
fails law old new piece f good plugged bad none works =
    subst (λ (l : List ℕ). FailsAt old l f)
    (sym (works.kept ∙ (ap (λ (l : List ℕ). works.took ++ l) none ∙ append-nil works.took)))
    (fails_taken law works.took works.answered old new f good plugged bad works.taken)

clash_shut : (f : Field) → None ≡ Some f → ⊥
clash_shut f e = cc

-- what feeding a piece says of its cause
pub fed_fails : EndsLaw → (old new : Seen) (piece : List ℕ) (gave : Fed)
    → (gave ≢ fed.Memory → is_closed (standing old).presence ≡ false → Works piece [] old new)
    → (is_closed (standing old).presence ≡ true → new ≡ old) → ((f : Field) → (gave ≡ fed.Refused f) ↔ (new.refused ≡ Some f))
    → ((f : Field) → new.refused ≡ Some f → new.kept ≡ [])
    → (f : Field) → gave ≡ fed.Refused f → old.refused ≡ None → FailsAt old (old.kept ++ piece) f
fed_fails law old new piece gave works same refused none f is good = by (is_closed (standing old).presence) refl where
  bad : new.refused ≡ Some f
  bad = (refused f).0 is

  by : (shut : Bool) → is_closed (standing old).presence ≡ shut → FailsAt old (old.kept ++ piece) f
  by true shut = absurd (clash_shut f (sym good ∙ (sym (ap (λ (s : Seen). s.refused) (same shut)) ∙ bad)))
  by false shut = fails law old new piece f good (closed_presence (standing old).presence shut) bad (none f bad) (works (λ e. cc) shut)

-- what comes in a worked run is a submit or an unlink, by computation
use Rattle.std.proofs.Common.{◌≡◌, ℕ, zero, suc, ◌<◌, ◌^◌, ◌==◌, ◌&&◌, Bool, true, false, nat_lt, List, [], ◌∷◌, length, refl, lit<}
use Rattle.std.proofs.lemmas.Bool.{eqb-true, ltb-true}
use Rattle.std.specs.Prelude.{slice_index}
use Rattle.usbip_wire.specs.declared.urb.Dir.{Dir}
use Rattle.usbip_wire.specs.declared.urb.Dir.TheVariants.{Out, In}
use Rattle.usbip_wire.specs.declared.submit.SubmitHead.{SubmitHead}
use Rattle.usbip_wire.specs.Submit.{Carries}
use Rattle.tmc_law.specs.Queues.{IsSubmit, IsUnlink}
use Rattle.tmc_law.specs.WorkedSession.{devid, unlink}
use Rattle.tmc_law.proofs.AnswerBytes.{each_wide}

-- each of these is below a limit
abbrev pub all_below : ℕ → List ℕ → Bool
all_below limit [] = true
all_below limit (n ∷ ns) = nat_lt n limit && all_below limit ns

abbrev pub is_carried : Dir → ℕ → List ℕ → Bool
is_carried Out size transferred = length transferred == size
is_carried In size [] = true
is_carried In size (byte ∷ bytes) = false

abbrev pub is_submit : SubmitHead → (transferred : List ℕ) → Bool
is_submit head transferred =
    all_below (2 ^ 32) (head.seqnum ∷ head.devid ∷ head.ep ∷ head.length ∷ [])
    && ((length head.setup == 8) && (all_below 256 head.setup && (is_carried head.dir head.length transferred && all_below 256 transferred)))

pub both : (a b : Bool) → (a && b) ≡ true → (a ≡ true) × (b ≡ true)
both true b e = (refl, e)
both false b e = absurd (cc)

pub below : (limit : ℕ) (ns : List ℕ) → 0 < limit → all_below limit ns ≡ true → (i : ℕ) → slice_index ns i < limit
below limit [] some e i = some
below limit (n ∷ ns) some e zero = ltb-true n limit (both (nat_lt n limit) (all_below limit ns) e).0
below limit (n ∷ ns) some e (suc i) = below limit ns some (both (nat_lt n limit) (all_below limit ns) e).1 i

carries : (dir : Dir) (size : ℕ) (transferred : List ℕ) → is_carried dir size transferred ≡ true → Carries dir size transferred
carries Out size transferred e = eqb-true (length transferred) size e
carries In size [] e = refl
carries In size (byte ∷ bytes) e = absurd (cc)

pub submitted : (head : SubmitHead) (transferred : List ℕ) → is_submit head transferred ≡ true → IsSubmit head transferred
submitted head transferred e =
    let wide = both (all_below (2 ^ 32) (head.seqnum ∷ head.devid ∷ head.ep ∷ head.length ∷ [])) _ e in
    let eight = both (length head.setup == 8) _ wide.1 in
    let setup = both (all_below 256 head.setup) _ eight.1 in
    let carried = both (is_carried head.dir head.length transferred) (all_below 256 transferred) setup.1 in
    record {
      wide = below (2 ^ 32) (head.seqnum ∷ head.devid ∷ head.ep ∷ head.length ∷ []) (lit< tt) wide.0;
      eight = eqb-true (length head.setup) 8 eight.0;
      setup = below 256 head.setup (lit< tt) setup.0;
      carried = carries head.dir head.length transferred carried.0;
      bytes = below 256 transferred (lit< tt) carried.1;
    }

pub unlinked : (seqnum target : ℕ) → seqnum < 2 ^ 32 → target < 2 ^ 32 → IsUnlink (unlink seqnum target)
unlinked seqnum target number other = each_wide (seqnum ∷ devid ∷ target ∷ []) (number, (lit< tt, (other, tt)))

-- a body whose answers were spelled
use Rattle.std.proofs.Common.{◌≡◌, ◌∙◌, ℕ, List, [], refl, sym, subst}
use Rattle.tmc_law.specs.Put.{Put}
use Rattle.usbip_export.specs.declared.body.Body.{Body}
use Rattle.usbip_export.specs.Seen.{Seen}
use Rattle.usbip_export.specs.TakenIn.{SpellsOff}
use Rattle.usbip_export.specs.Steps.{AreArrivals, MovesBy}
use Rattle.usbip_export.specs.Body.{seen_of, IsSound, IsBodySpelled}
use Rattle.usbip_export.specs.Taking.{Rests, Shut, NothingWhole, Closes}
use Rattle.usbip_export.proofs.More.{arrivals_more}
use Rattle.usbip_export.proofs.Single.{IsSpelling, no_puts}

none_left : (puts after : List Put) (old new : List ℕ) → puts ≡ [] → SpellsOff puts after old new → after ≡ []
none_left puts after old new none off = (no_puts off.spelled.puts after (sym none ∙ off.spelled.left)).1

pub sound_spelled : (old new : Body) → IsSound old → IsBodySpelled old new → IsSound new
sound_spelled old new sound spelled = subst IsSound (sym spelled.is) (record {
  phase = sound.phase;
  good = sound.good;
  waits = sound.waits;
  fresh = λ was. (spelled.state ∙ (sound.fresh was).0, none_left old.device.puts new.device.puts _ _ (sound.fresh was).1 spelled.off);
})

pub body_spelling : (old new : Body) → IsSound old → IsBodySpelled old new → IsSpelling (seen_of old) (seen_of new)
body_spelling old new sound spelled = subst (λ (b : Body). IsSpelling (seen_of old) (seen_of b)) (sym spelled.is) (record {
  imported = refl;
  refused = refl;
  kept = refl;
  state = spelled.state;
  fresh = λ was. (sound.fresh was).1;
  off = spelled.off;
})

-- what a call did before it looked for a message and found none
pub rested : (first : Seen) (old new : Body) → Rests old new → MovesBy AreArrivals first (seen_of old) → MovesBy AreArrivals first (seen_of new)
rested first old new (Shut shut is) moves = subst (λ (b : Body). MovesBy AreArrivals first (seen_of b)) (sym is) moves
rested first old new (NothingWhole none good is) moves = subst (λ (s : Seen). MovesBy AreArrivals first s) (sym is) moves
rested first old new (Closes unshut more shut) moves = arrivals_more first (seen_of old) (seen_of new) unshut moves more

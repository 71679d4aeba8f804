-- the numbers of messages are of 32 bits
use Rattle.std.proofs.Common.{◌≡◌, ◌∙◌, ◌+◌, ◌^◌, ◌<◌, ◌≤◌, leb, leb-true, leb-false, ℕ, Bool, true, false, List, [], ◌∷◌, length, refl, sym, ap, subst, arith}
use Rattle.usbip_wire.specs.Down as down
use Rattle.host_urbs.specs.Law.{MayTake, MayWrite}
use Rattle.host_urbs.specs.Record as urbs
use Rattle.host_hub.specs.Crossings.{crossings}
use Rattle.host_hub.specs.Law.{Lawful}
use Rattle.host_hub.specs.Order.{Order, Part, Request, Trigger, Read, Listen, Class, ClearHalt, Unlink, Setting, message_of}
use Rattle.host_hub.specs.Record.{Past, Wrote, Took, Fell, Stopped, Recovers, Asked, Cancelled, Cleared, GaveUp, Settled, next}

-- where a hub begins behind that, no message may be written
none_may : (s : Setting) (number : ℕ) (order : Order) → 4294967040 < s.first → MayWrite s.first [] (message_of s number order) → ⊥
none_may s number (Part tag text eom) first may = omega (arith, first, may.next, may.last)
none_may s number (Request tag size) first may = omega (arith, first, may.next, may.last)
none_may s number (Trigger tag) first may = omega (arith, first, may.next, may.last)
none_may s number Read first may = omega (arith, first, may.next, may.last)
none_may s number Listen first may = omega (arith, first, may.next, may.last)
none_may s number (Class request) first may = omega (arith, first, may.next, may.last)
none_may s number (ClearHalt endpoint) first may = omega (arith, first, may.next, may.last)
none_may s number (Unlink target) first may = no may.named where
  no : false ≡ true → ⊥
  no e = cc

none_comes : (answer : down.Message) → MayTake [] answer → ⊥
none_comes (down.RetSubmit head bytes) may = cc
none_comes (down.RetUnlink head) may = no may where
  no : false ≡ true → ⊥
  no e = cc

nothing_crosses : (s : Setting) (past : Past) → 4294967040 < s.first → Lawful s past → crossings s past ≡ []
nothing_crosses s [] first h = refl
nothing_crosses s (Wrote number owner order ∷ past) first h =
    absurd (none_may s number order first (subst (λ (p : urbs.Past). MayWrite s.first p (message_of s number order)) (nothing_crosses s past first h.0) h.1.1))
nothing_crosses s (Took answer ∷ past) first h = absurd (none_comes answer (subst (λ (p : urbs.Past). MayTake p answer) (nothing_crosses s past first h.0) h.1.1))
nothing_crosses s (Fell answer e ∷ past) first h = absurd (none_comes answer (subst (λ (p : urbs.Past). MayTake p answer) (nothing_crosses s past first h.0) h.1.1))
nothing_crosses s (Stopped e ∷ past) first h = nothing_crosses s past first h.0
nothing_crosses s (Recovers ∷ past) first h = nothing_crosses s past first h.0
nothing_crosses s (Asked t asking ∷ past) first h = nothing_crosses s past first h.0
nothing_crosses s (Cancelled t ∷ past) first h = nothing_crosses s past first h.0
nothing_crosses s (Cleared session ∷ past) first h = nothing_crosses s past first h.0
nothing_crosses s (GaveUp ∷ past) first h = nothing_crosses s past first h.0
nothing_crosses s (Settled t outcome ∷ past) first h = nothing_crosses s past first h.0

-- what `host_hub` says of numbers
abbrev pub Suffice : Type 0
Suffice = (s : Setting) (past : Past) → s.first ≤ 4294967041 → Lawful s past → next s.first past ≤ 4294967057

abbrev pub Numbers : Type 0
Numbers = (s : Setting) (past : Past) → next s.first past ≡ urbs.next s.first (crossings s past)

-- each message has a number of 32 bits
abbrev pub Fits : Type 0
Fits = (s : Setting) (past : Past) → s.first < 2 ^ 32 → Lawful s past → next s.first past ≤ 2 ^ 32

pub numbers_fit : Suffice → Numbers → Fits
numbers_fit suffice numbers s past small h = by (leb s.first 4294967041) refl where
  by : (low : Bool) → leb s.first 4294967041 ≡ low → next s.first past ≤ 2 ^ 32
  by true low = let most = suffice s past (leb-true s.first 4294967041 low) h in omega (arith, most)
  by false high =
      let above = leb-false s.first 4294967041 high in
      let is = numbers s past ∙ ap (λ (p : urbs.Past). urbs.next s.first p) (nothing_crosses s past (omega (arith, above)) h) in
      omega (arith, is, small)

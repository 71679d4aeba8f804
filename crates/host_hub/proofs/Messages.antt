-- the messages of a record
use Rattle.std.proofs.Common.{◌≡◌, List, [], ◌∷◌, ◌++◌, refl, ap, arith, length-append}
use Rattle.usbip_wire.specs.Down as down
use Rattle.usbip_wire.specs.Up as up
use Rattle.host_hub.specs.Order.{Setting, message_of}
use Rattle.host_hub.specs.Record.{Past, Wrote, Took, Fell, written, taken, next}
use Rattle.host_hub.specs.Crossings.{crossings}
use Rattle.host_urbs.specs.Record as urbs

pub written_same : (s : Setting) (past : Past) → written s past ≡ urbs.written (crossings s past)
written_same s [] = refl
written_same s (Wrote number owner order ∷ past) = ap (λ (l : List up.Message). l ++ message_of s number order ∷ []) (written_same s past)
written_same s (x ∷ past) = written_same s past

pub taken_same : (s : Setting) (past : Past) → taken past ≡ urbs.taken (crossings s past)
taken_same s [] = refl
taken_same s (Took answer ∷ past) = ap (λ (l : List down.Message). l ++ answer ∷ []) (taken_same s past)
taken_same s (Fell answer end ∷ past) = ap (λ (l : List down.Message). l ++ answer ∷ []) (taken_same s past)
taken_same s (x ∷ past) = taken_same s past

pub next_same : (s : Setting) (past : Past) → next s.first past ≡ urbs.next s.first (crossings s past)
next_same s [] = omega arith
next_same s (Wrote number owner order ∷ past) = omega (arith, next_same s past, length-append (urbs.written (crossings s past)) (message_of s number order ∷ []))
next_same s (x ∷ past) = next_same s past

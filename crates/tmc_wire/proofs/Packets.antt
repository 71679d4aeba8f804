-- bytes are one packet
use Rattle.std.proofs.Common.{◌≡◌, ℕ, ◌+◌, ◌-◌, ◌<◌, ◌≤◌, List, [], ◌∷◌, Result, Ok, MatchResult, length, get_or, drop, refl, sym, ap, ◌∙◌, arith}
use Rattle.std.specs.Prelude.{◌↔◌}
use Rattle.tmc_base.specs.declared.field.Field.{Field}
use Rattle.tmc_wire.specs.declared.notify.Notify.{Notify}
use Rattle.tmc_wire.specs.declared.notify.Notify.TheVariants.{Status, Service, Other}
use Rattle.tmc_wire.specs.Notify.{IsStatusPacket, IsServicePacket, IsOtherPacket, IsPacket}
use Rattle.tmc_wire.specs.Short.{short_packet}
use Rattle.tmc_wire.proofs.Exact.{ok_exactly}

abbrev byte : List ℕ → ℕ → ℕ
byte bytes k = get_or bytes k 0

byte-is : (xs ys : List ℕ) (k : ℕ) → xs ≡ ys → byte xs k ≡ byte ys k
byte-is xs ys k e = ap (λ (l : List ℕ). byte l k) e

length-is : (xs ys : List ℕ) → xs ≡ ys → length xs ≡ length ys
length-is xs ys e = ap length e

front_two : (bytes : List ℕ) → 2 ≤ length bytes → bytes ≡ byte bytes 0 ∷ byte bytes 1 ∷ drop 2 bytes
front_two [] h = absurd (omega (arith, h))
front_two (a ∷ []) h = absurd (omega (arith, h))
front_two (a ∷ b ∷ more) h = refl

pub service_packet : (bytes : List ℕ) → 2 ≤ length bytes → byte bytes 0 ≡ 129 → IsServicePacket (byte bytes 1) bytes
service_packet bytes whole first = record {
  more = drop 2 bytes;
  layout = front_two bytes whole ∙ ap (λ (x : ℕ). x ∷ byte bytes 1 ∷ drop 2 bytes) first;
}

pub status_packet : (bytes : List ℕ) → 2 ≤ length bytes → 130 ≤ byte bytes 0 → byte bytes 0 < 256 → IsStatusPacket (byte bytes 0 - 128) (byte bytes 1) bytes
status_packet bytes whole least greatest =
    let first : byte bytes 0 ≡ 128 + (byte bytes 0 - 128) = omega arith in
    record {
      more = drop 2 bytes;
      least = omega arith;
      greatest = omega arith;
      layout = front_two bytes whole ∙ ap (λ (x : ℕ). x ∷ byte bytes 1 ∷ drop 2 bytes) first;
    }

no_status : (bytes : List ℕ) (tag status : ℕ) → byte bytes 0 < 130 → IsStatusPacket tag status bytes → ⊥
no_status bytes tag status below k = omega (arith, byte-is _ _ 0 k.layout, k.least)

no_service : (bytes : List ℕ) (status : ℕ) → byte bytes 0 < 129 → IsServicePacket status bytes → ⊥
no_service bytes status below k = omega (arith, byte-is _ _ 0 k.layout)

pub other_packet : (bytes : List ℕ) → 2 ≤ length bytes → byte bytes 0 < 129 → IsOtherPacket bytes
other_packet bytes whole below = record {
  whole = whole;
  no_status = λ tag status k. no_status bytes tag status (omega arith) k;
  no_service = λ status k. no_service bytes status below k;
}

one_status : (t u b d : ℕ) → t ≡ u → b ≡ d → Status t b ≡ Status u d
one_status t u b d p q = cc

one_packet : (bytes : List ℕ) (a b : Notify) → IsPacket a bytes → IsPacket b bytes → a ≡ b
one_packet bytes (Status t s) (Status u v) h k =
    let e = sym h.layout ∙ k.layout in
    one_status t u s v (omega (arith, byte-is _ _ 0 e)) (byte-is _ _ 1 e)
one_packet bytes (Status t s) (Service v) h k = absurd (omega (arith, byte-is _ _ 0 (sym h.layout ∙ k.layout), h.least))
one_packet bytes (Status t s) Other h k = absurd (k.no_status t s h)
one_packet bytes (Service s) (Status u v) h k = absurd (omega (arith, byte-is _ _ 0 (sym h.layout ∙ k.layout), k.least))
one_packet bytes (Service s) (Service v) h k = ap (λ (x : ℕ). Service x) (byte-is _ _ 1 (sym h.layout ∙ k.layout))
one_packet bytes (Service s) Other h k = absurd (k.no_service s h)
one_packet bytes Other (Status u v) h k = absurd (h.no_status u v k)
one_packet bytes Other (Service v) h k = absurd (h.no_service v k)
one_packet bytes Other Other h k = refl

whole_packet : (bytes : List ℕ) (a : Notify) → IsPacket a bytes → 2 ≤ length bytes
whole_packet bytes (Status t s) h = omega (arith, length-is _ _ h.layout)
whole_packet bytes (Service s) h = omega (arith, length-is _ _ h.layout)
whole_packet bytes Other h = h.whole

abbrev IsShort : List ℕ → Field → Type 0
IsShort bytes field = (field ≡ short_packet bytes) × (length bytes < 2)

abbrev pub Holds : List ℕ → Result Notify Field → Type 0
Holds bytes answered = MatchResult answered (λ (packet : Notify). IsPacket packet bytes) (λ (field : Field). (field ≡ short_packet bytes) × (length bytes < 2))

apart : (bytes : List ℕ) (a : Notify) (field : Field) → IsPacket a bytes → IsShort bytes field → ⊥
apart bytes a field h k = omega (arith, whole_packet bytes a h, k.1)

pub packet_exactly : (bytes : List ℕ) (answered : Result Notify Field) → Holds bytes answered → (packet : Notify) → (answered ≡ Ok packet) ↔ IsPacket packet bytes
packet_exactly bytes answered h =
    ok_exactly (λ (packet : Notify). IsPacket packet bytes) (IsShort bytes) answered (one_packet bytes) (apart bytes) h

-- the first 12 bytes, one by one
use Rattle.std.proofs.Common.{◌≡◌, ℕ, zero, suc, ◌-◌, ◌^◌, ◌<◌, ◌≤◌, ◌≢◌, true, List, [], ◌∷◌, ◌++◌, length, get_or, take, refl, sym, ap, ◌∙◌, arith}
use Rattle.std.specs.Int.{w32, to_le_bytes, from_le_bytes}
use Rattle.std.proofs.lemmas.Nat.{le_bytes_4}
use Rattle.tmc_wire.specs.declared.fields.Direction.{Direction}
use Rattle.tmc_wire.specs.Standard.{trigger}
use Rattle.tmc_wire.specs.Header.{prefix}
use Rattle.tmc_wire.specs.Fields.{is_known, AreProper}

abbrev byte : List ℕ → ℕ → ℕ
byte bytes k = get_or bytes k 0

front_twelve : (bytes : List ℕ) → 12 ≤ length bytes
    → take 12 bytes ≡ byte bytes 0 ∷ byte bytes 1 ∷ byte bytes 2 ∷ byte bytes 3 ∷ byte bytes 4 ∷ byte bytes 5 ∷ byte bytes 6 ∷ byte bytes 7 ∷ byte bytes 8 ∷ byte bytes 9 ∷ byte bytes 10 ∷ byte bytes 11 ∷ []
front_twelve [] h = absurd (omega (arith, h))
front_twelve (a ∷ []) h = absurd (omega (arith, h))
front_twelve (a ∷ b ∷ []) h = absurd (omega (arith, h))
front_twelve (a ∷ b ∷ c ∷ []) h = absurd (omega (arith, h))
front_twelve (a ∷ b ∷ c ∷ d ∷ []) h = absurd (omega (arith, h))
front_twelve (a ∷ b ∷ c ∷ d ∷ e ∷ []) h = absurd (omega (arith, h))
front_twelve (a ∷ b ∷ c ∷ d ∷ e ∷ f ∷ []) h = absurd (omega (arith, h))
front_twelve (a ∷ b ∷ c ∷ d ∷ e ∷ f ∷ g ∷ []) h = absurd (omega (arith, h))
front_twelve (a ∷ b ∷ c ∷ d ∷ e ∷ f ∷ g ∷ i ∷ []) h = absurd (omega (arith, h))
front_twelve (a ∷ b ∷ c ∷ d ∷ e ∷ f ∷ g ∷ i ∷ j ∷ []) h = absurd (omega (arith, h))
front_twelve (a ∷ b ∷ c ∷ d ∷ e ∷ f ∷ g ∷ i ∷ j ∷ k ∷ []) h = absurd (omega (arith, h))
front_twelve (a ∷ b ∷ c ∷ d ∷ e ∷ f ∷ g ∷ i ∷ j ∷ k ∷ l ∷ []) h = absurd (omega (arith, h))
front_twelve (a ∷ b ∷ c ∷ d ∷ e ∷ f ∷ g ∷ i ∷ j ∷ k ∷ l ∷ m ∷ more) h = refl

four_bytes : (a b c d : ℕ) → a < 256 → b < 256 → c < 256 → d < 256 → (i : ℕ) → get_or (a ∷ b ∷ c ∷ d ∷ []) i 0 < 256
four_bytes a b c d p q r s zero = p
four_bytes a b c d p q r s (suc zero) = q
four_bytes a b c d p q r s (suc (suc zero)) = r
four_bytes a b c d p q r s (suc (suc (suc zero))) = s
four_bytes a b c d p q r s (suc (suc (suc (suc i)))) = omega arith

-- four bytes are those of the number that they make
pub le_four : (a b c d n : ℕ) → a < 256 → b < 256 → c < 256 → d < 256 → n ≡ from_le_bytes w32 (a ∷ b ∷ c ∷ d ∷ []) → to_le_bytes w32 n ≡ a ∷ b ∷ c ∷ d ∷ []
le_four a b c d n p q r s is = le_bytes_4 (a ∷ b ∷ c ∷ d ∷ []) n refl (four_bytes a b c d p q r s) is

-- what was read and judged is a proper header
pub read_proper : (direction : Direction) (bytes : List ℕ) (size : ℕ) → 12 ≤ length bytes → ((k : ℕ) → byte bytes k < 256) → size < 2 ^ 32
    → size ≡ from_le_bytes w32 (byte bytes 4 ∷ byte bytes 5 ∷ byte bytes 6 ∷ byte bytes 7 ∷ [])
    → is_known direction (byte bytes 0) ≡ true → 0 < byte bytes 1 → byte bytes 2 ≡ 255 - byte bytes 1 → (byte bytes 0 ≢ trigger → 0 < size)
    → AreProper direction bytes (record { msg_id = byte bytes 0; tag = byte bytes 1; size = size; attributes = byte bytes 8 })
read_proper direction bytes size whole fits small is known tag inverse above = record {
  reserved = byte bytes 3;
  ninth = byte bytes 9;
  tenth = byte bytes 10;
  eleventh = byte bytes 11;
  known = known;
  tagged = (tag, fits 1);
  counted = λ other. (above other, small);
  layout = front_twelve bytes whole
      ∙ ap (λ (i : ℕ). byte bytes 0 ∷ byte bytes 1 ∷ i ∷ byte bytes 3 ∷ byte bytes 4 ∷ byte bytes 5 ∷ byte bytes 6 ∷ byte bytes 7 ∷ byte bytes 8 ∷ byte bytes 9 ∷ byte bytes 10 ∷ byte bytes 11 ∷ []) inverse
      ∙ ap (λ (s : List ℕ). prefix (byte bytes 0) (byte bytes 1) (byte bytes 3) ++ (s ++ (byte bytes 8 ∷ byte bytes 9 ∷ byte bytes 10 ∷ byte bytes 11 ∷ [])))
      (sym (le_four (byte bytes 4) (byte bytes 5) (byte bytes 6) (byte bytes 7) size (fits 4) (fits 5) (fits 6) (fits 7) is));
}

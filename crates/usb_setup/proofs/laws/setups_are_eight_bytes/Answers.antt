use Rattle.std.proofs.Common.{◌≡◌, ℕ, ◌+◌, ◌*◌, ◌<◌, ◌/◌, ◌%◌, List, [], ◌∷◌, length, get_or, arith}
use Rattle.usb_setup.specs.declared.setup.Setup.{Setup}
use Rattle.usb_setup.specs.Setup.{setup_layout, Fits}
use Rattle.usb_setup.proofs.laws.setups_are_eight_bytes.Goals as goal

-- two bytes are the low and the high one of a word
low : (a b : ℕ) → a < 256 → (a + 256 * b) % 256 ≡ a
low a b h = omega arith

high : (a b : ℕ) → a < 256 → b < 256 → (a + 256 * b) / 256 % 256 ≡ b
high a b h k = omega arith

-- the setup of eight bytes
abbrev of : (a b c d e f g h : ℕ) → Setup
of a b c d e f g h = record { request_type = a; request = b; value = c + 256 * d; index = e + 256 * f; length = g + 256 * h }

eight : (a b c d e f g h p q r s t u : ℕ) → p ≡ c → q ≡ d → r ≡ e → s ≡ f → t ≡ g → u ≡ h
    → a ∷ b ∷ p ∷ q ∷ r ∷ s ∷ t ∷ u ∷ [] ≡ a ∷ b ∷ c ∷ d ∷ e ∷ f ∷ g ∷ h ∷ []
eight a b c d e f g h p q r s t u i j k l m n = cc

every : (bytes : List ℕ) → length bytes ≡ 8 → ((i : ℕ) → get_or bytes i 0 < 256) → (setup : Setup) × Fits setup × (setup_layout setup ≡ bytes)
every [] n small = absurd (omega (arith, n))
every (a ∷ []) n small = absurd (omega (arith, n))
every (a ∷ b ∷ []) n small = absurd (omega (arith, n))
every (a ∷ b ∷ c ∷ []) n small = absurd (omega (arith, n))
every (a ∷ b ∷ c ∷ d ∷ []) n small = absurd (omega (arith, n))
every (a ∷ b ∷ c ∷ d ∷ e ∷ []) n small = absurd (omega (arith, n))
every (a ∷ b ∷ c ∷ d ∷ e ∷ f ∷ []) n small = absurd (omega (arith, n))
every (a ∷ b ∷ c ∷ d ∷ e ∷ f ∷ g ∷ []) n small = absurd (omega (arith, n))
every (a ∷ b ∷ c ∷ d ∷ e ∷ f ∷ g ∷ h ∷ i ∷ more) n small = absurd (omega (arith, n))
every (a ∷ b ∷ c ∷ d ∷ e ∷ f ∷ g ∷ h ∷ []) n small =
    let c_small : c < 256 = small 2 in
    let d_small : d < 256 = small 3 in
    let e_small : e < 256 = small 4 in
    let f_small : f < 256 = small 5 in
    let g_small : g < 256 = small 6 in
    let h_small : h < 256 = small 7 in (
      of a b c d e f g h,
      record { request_type = small 0; request = small 1; value = omega arith; index = omega arith; length = omega arith },
      eight a b c d e f g h _ _ _ _ _ _ (low c d c_small) (high c d c_small d_small) (low e f e_small) (high e f e_small f_small) (low g h g_small) (high g h g_small h_small),
    )

pub returns-clause-every : goal.returns-clause-every
returns-clause-every c bytes n small = every bytes n small

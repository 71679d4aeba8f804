-- a device list is spelled by its parts in a row
use Rattle.std.proofs.Common.{◌≡◌, ℕ, zero, suc, ◌-◌, ◌<◌, ◌^◌, List, [], ◌∷◌, ◌++◌, length, take, drop, get_or, refl, sym, ap, subst, append_assoc, arith}
use Rattle.std.proofs.lemmas.List.{length-take, length-drop}
use Rattle.usbip_wire.specs.declared.device.DeviceRecord.{DeviceRecord}
use Rattle.usbip_wire.specs.declared.down.Down.{Down}
use Rattle.usbip_wire.specs.declared.down.DownPhase.TheVariants.{Ops}
use Rattle.usbip_wire.specs.DevList.{AreRecords, AreTriples, interfaces_of, interfaces_bytes, devices_bytes, list_bytes, count_bytes, interfaces_told, devices_told, list_told}
use Rattle.usbip_wire.specs.Device.{record_bytes}
use Rattle.usbip_wire.specs.DownFed.{SpellsParts}

three_cells : (xs : List ℕ) → length xs ≡ 3 → xs ≡ get_or xs 0 0 ∷ get_or xs 1 0 ∷ get_or xs 2 0 ∷ []
three_cells [] e = absurd (omega (arith, e))
three_cells (a ∷ []) e = absurd (omega (arith, e))
three_cells (a ∷ b ∷ []) e = absurd (omega (arith, e))
three_cells (a ∷ b ∷ c ∷ []) e = refl
three_cells (a ∷ b ∷ c ∷ d ∷ xs) e = absurd (omega (arith, e))

interfaces_spelled : (devices count : ℕ) (own : List (List ℕ)) (whats : List Down) (rest : List ℕ) → count ≡ length own → AreTriples own
    → SpellsParts (Ops devices 0) whats rest → SpellsParts (Ops devices count) (interfaces_told own ++ whats) (interfaces_bytes own ++ rest)
interfaces_spelled devices count [] whats rest e t s = subst (λ n. SpellsParts (Ops devices n) whats rest) (sym e) s
interfaces_spelled devices count (i ∷ own) whats rest e t s = (
  i ++ 0 ∷ [],
  interfaces_bytes own ++ rest,
  append_assoc (i ++ 0 ∷ []) (interfaces_bytes own) rest,
  (omega (arith, e), 0, ap (λ (l : List ℕ). l ++ 0 ∷ []) (three_cells i t.0)),
  interfaces_spelled devices (count - 1) own whats rest (omega (arith, e)) t.1 s,
)

triples_take : (n : ℕ) (is : List (List ℕ)) → AreTriples is → AreTriples (take n is)
triples_take zero is t = tt
triples_take (suc n) [] t = tt
triples_take (suc n) (i ∷ is) t = (t.0, triples_take n is t.1)

triples_drop : (n : ℕ) (is : List (List ℕ)) → AreTriples is → AreTriples (drop n is)
triples_drop zero is t = t
triples_drop (suc n) [] t = tt
triples_drop (suc n) (i ∷ is) t = triples_drop n is t.1

devices_spelled : (ds : List DeviceRecord) (is : List (List ℕ)) (n : ℕ) → n ≡ length ds → interfaces_of ds ≡ length is → AreRecords ds → AreTriples is
    → SpellsParts (Ops n 0) (devices_told ds is) (devices_bytes ds is)
devices_spelled [] is n e c r t = refl
devices_spelled (d ∷ ds) is n e c r t =
    let own : d.interfaces ≡ length (take d.interfaces is) = omega (arith, c, length-take d.interfaces is) in
    let left : interfaces_of ds ≡ length (drop d.interfaces is) = omega (arith, c, length-drop d.interfaces is) in (
      record_bytes d,
      interfaces_bytes (take d.interfaces is) ++ devices_bytes ds (drop d.interfaces is),
      refl,
      (omega (arith, e), refl, r.0, refl),
      interfaces_spelled (n - 1) d.interfaces (take d.interfaces is) (devices_told ds (drop d.interfaces is)) (devices_bytes ds (drop d.interfaces is)) own (triples_take d.interfaces is t)
          (devices_spelled ds (drop d.interfaces is) (n - 1) (omega (arith, e)) left r.1 (triples_drop d.interfaces is t)),
    )

pub list_spelled : (status : ℕ) (ds : List DeviceRecord) (is : List (List ℕ)) → status < 2 ^ 32 → length ds < 2 ^ 32 → interfaces_of ds ≡ length is → AreRecords ds → AreTriples is
    → SpellsParts (Ops 0 0) (list_told status ds is) (list_bytes status ds is)
list_spelled status ds is ls ln c r t =
    (count_bytes status (length ds), devices_bytes ds is, refl, (refl, refl, ls, ln, refl), devices_spelled ds is (length ds) refl c r t)

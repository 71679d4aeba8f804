-- packets, as whole transfers see them
use Rattle.std.proofs.Common.{◌≡◌, ◌∙◌, ◌≢◌, ℕ, ◌+◌, ◌*◌, ◌%◌, ◌≤◌, List, [], ◌∷◌, length, take, drop, Some, None, refl, ap, sym, subst, length-append, length-take, take-append-drop, take_all, arith}
use Rattle.std.proofs.Math.Nat.{div-add-mod}
use Rattle.tmc_law.specs.Endpoint.{packet_size}
use Rattle.tmc_law.specs.State.{State, Pending, Transfer}
use Rattle.tmc_law.specs.Put.{Put, ended, success}
use Rattle.tmc_law.specs.BulkOut as out
use Rattle.tmc_law.specs.BulkOut.{Belongs, Spoils, Moves, Takes, TakesEffect, packets_of, wants}
use Rattle.tmc_law.specs.BulkIn as «in»
use Rattle.tmc_law.specs.BulkIn.{Fills, filled, given}
use Rattle.tmc_law.specs.Packets.{moved_on, grown_by, SubmitStays, SubmitIsOver, TransferTakes, OfNoBytes, IsRefused, TransferGoesOn, TransferIsWhole, filled_by, HasRoom, IsFull, PieceGives, IsDrained, PieceGoesOn, PieceIsOver, PieceOverflows}

packets_all : (n : ℕ) → n ≤ packets_of n * packet_size
packets_all n = omega (arith, div-add-mod (n + 63) 64)

drop_all : (n : ℕ) (xs : List ℕ) → length xs ≤ n → drop n xs ≡ []
drop_all n xs long = nil (drop n xs) (omega (arith, long, ap (λ (l : List ℕ). length l) (take-append-drop n xs), length-append (take n xs) (drop n xs), ap (λ (l : List ℕ). length l) (take_all n xs long)))
  where
    nil : (l : List ℕ) → length l ≡ 0 → l ≡ []
    nil [] e = refl
    nil (x ∷ l) e = absurd (omega (arith, e))

-- ---- Bulk-OUT

-- all packets of a submit are all that is left of it
all_taken : (count : ℕ) (submit : Pending) → count ≡ packets_of (length submit.left) → (take (count * packet_size) submit.left ≡ submit.left) × (drop (count * packet_size) submit.left ≡ [])
all_taken count submit counts =
    let enough : length submit.left ≤ count * packet_size = rw counts (packets_all (length submit.left)) in
    (take_all (count * packet_size) submit.left enough, drop_all (count * packet_size) submit.left enough)

later_all : (count : ℕ) (submit later : Pending) (transfer grown : Transfer) → count ≡ packets_of (length submit.left) → Moves count submit transfer later grown
    → (later ≡ moved_on submit submit.left []) × (grown ≡ grown_by transfer submit.left)
later_all count submit later transfer grown counts (out.DoesMove is growth) =
    let all = all_taken count submit counts in (
      is ∙ ap (λ (l : List ℕ). moved_on submit l (drop (count * packet_size) submit.left)) all.0 ∙ ap (λ (l : List ℕ). moved_on submit submit.left l) all.1,
      growth ∙ ap (λ (l : List ℕ). grown_by transfer l) all.0,
    )

take_some : (n : ℕ) (xs : List ℕ) → 1 ≤ n → drop n xs ≢ [] → take n xs ≢ []
take_some n xs some more none =
    more (drop_all n xs (omega (arith, some, length-take n xs, ap (λ (l : List ℕ). length l) none)))

pub takes : (s t : State) (count : ℕ) (puts : List Put) → Takes s count puts t → TransferTakes s puts t
takes s t count puts (out.Empty submit behind line none one put to) = OfNoBytes submit behind line none put to
takes s t count puts (out.Spoiled submit behind line some low high spoils put to) = IsRefused submit behind line some spoils put to
takes s t count puts (out.Inside submit later behind transfer grown line some low fine belongs moves more put to) = by moves
  where
    bytes : List ℕ
    bytes = take (count * packet_size) submit.left

    left : List ℕ
    left = drop (count * packet_size) submit.left

    by : Moves count submit transfer later grown → TransferTakes s puts t
    by (out.DoesMove is growth) =
        let rest : left ≢ [] = λ none. more (ap (λ (x : Pending). x.left) is ∙ none) in
        TransferGoesOn submit behind (moved_on submit bytes left ∷ behind) transfer bytes line some fine belongs
        (SubmitStays left (sym (take-append-drop (count * packet_size) submit.left)) (take_some (count * packet_size) submit.left (omega (arith, low)) rest) rest put refl)
        (to ∙ ap (λ (x : Pending). record s { bulk_out = x ∷ behind; transfer = Some grown }) is
        ∙ ap (λ (x : Transfer). record s { bulk_out = moved_on submit bytes left ∷ behind; transfer = Some x }) growth)
takes s t count puts (out.SubmitEnds submit later behind transfer grown line some counts fine belongs moves more put to) =
    let all = later_all count submit later transfer grown counts moves in
    TransferGoesOn submit behind behind transfer submit.left line some fine belongs
    (SubmitIsOver refl (put ∙ ap (λ (x : Pending). ended success x ∷ []) all.0) refl)
    (to ∙ ap (λ (x : Transfer). record s { bulk_out = behind; transfer = Some x }) all.1)
takes s t count puts (out.TransferEnds submit later behind transfer grown line some counts fine belongs moves none effect put) =
    let all = later_all count submit later transfer grown counts moves in
    TransferIsWhole submit behind transfer line some fine belongs (sym (ap wants all.1) ∙ none) (put ∙ ap (λ (x : Pending). ended success x ∷ []) all.0)
    (subst (λ (x : Transfer). TakesEffect submit.head.seqnum x (record s { bulk_out = behind; transfer = None }) t) all.1 effect)

-- ---- Bulk-IN

some_bytes : (n : ℕ) (xs : List ℕ) → 1 ≤ n → n ≤ length xs → take n xs ≢ []
some_bytes n xs some within none = omega (arith, some, within, length-take n xs, ap (λ (l : List ℕ). length l) none)

whole_packets : (count : ℕ) (xs : List ℕ) → count * packet_size ≤ length xs → length (take (count * packet_size) xs) % packet_size ≡ 0
whole_packets count xs within = omega (arith, within, length-take (count * packet_size) xs)

pub fills : (s t : State) (count : ℕ) (puts : List Put) → Fills s count puts t → PieceGives s puts t
fills s t count puts («in».Ends submit behind n line wants one put to) = IsDrained submit behind n line wants put to
fills s t count puts («in».Inside submit behind piece line side free low within fits put to) =
    PieceGoesOn submit behind (filled_by submit (take (count * packet_size) piece.left) ∷ behind) piece (take (count * packet_size) piece.left) (drop (count * packet_size) piece.left) line side free
    (sym (take-append-drop (count * packet_size) piece.left)) (some_bytes (count * packet_size) piece.left (omega (arith, low)) within) (whole_packets count piece.left within)
    (HasRoom (omega (arith, fits, within, length-append submit.moved (take (count * packet_size) piece.left), length-take (count * packet_size) piece.left)) put refl) to
fills s t count puts («in».Full submit behind piece line side free low within fits put to) =
    PieceGoesOn submit behind behind piece (take (count * packet_size) piece.left) (drop (count * packet_size) piece.left) line side free
    (sym (take-append-drop (count * packet_size) piece.left)) (some_bytes (count * packet_size) piece.left (omega (arith, low)) within) (whole_packets count piece.left within)
    (IsFull (omega (arith, low, fits, within, length-append submit.moved (take (count * packet_size) piece.left), length-take (count * packet_size) piece.left)) put refl) to
fills s t count puts («in».Short submit behind piece full line side free counts leaves within less fits put to) =
    let all : take (length piece.left) piece.left ≡ piece.left = take_all (length piece.left) piece.left (omega arith) in
    PieceIsOver submit behind piece full line side free leaves within (omega (arith, counts, less)) fits
    (put ∙ ap (λ (l : List ℕ). ended success (filled_by submit l) ∷ []) all) to
fills s t count puts («in».Overflows submit behind piece full line side free counts leaves within over put to) =
    PieceOverflows submit behind piece (take (full * packet_size) piece.left) (drop (full * packet_size) piece.left) line side free
    (sym (take-append-drop (full * packet_size) piece.left)) (whole_packets full piece.left within) (omega (arith, within, over)) put to

-- headers and lengths are judged
use Rattle.std.proofs.Common.{◌≡◌, ◌∙◌, ℕ, ◌+◌, List, [], ◌++◌, length, take, drop, append_assoc, Option, Some, None, refl, ap, sym, subst, arith}
use Rattle.std.proofs.Math.Seq.{drop-append_seam}
use Rattle.std.proofs.lemmas.List.{length-append}
use Rattle.tmc_wire.specs.declared.header.OutHeader.{OutHeader}
use Rattle.tmc_wire.specs.declared.header.OutHeader.TheVariants.{Message, Request, Trigger}
use Rattle.tmc_wire.specs.declared.header_fault.HeaderFault.{HeaderFault}
use Rattle.tmc_wire.specs.Standard.{header_size}
use Rattle.tmc_wire.specs.Header.{IsOutHeader}
use Rattle.tmc_wire.specs.HeaderFault.{IsOutFault}
use Rattle.tmc_law.specs.State.{State, Pending, Transfer, Idle}
use Rattle.tmc_law.specs.BulkOut.{HeaderRefused, NoHeader, BulkInBusy, RequestInside, TriggerInside, TooLong, Belongs, InProgress, Begun, Misfits, Spoils, ByHeader, ByLength}
use Rattle.tmc_device.specs.Parts.{Opening, header_in, transfer_of, taken_in, bytes_of}
use Rattle.tmc_device.specs.declared.body.Body.{Body}
use Rattle.tmc_device.specs.Body.{state_of, transfer_in, IsJudged}
use Rattle.tmc_device.specs.Judged.{HasPlace, Suits}

no_place : (s : State) (bytes : List ℕ) (header : OutHeader) → IsOutHeader header (take header_size bytes) → ¬ HasPlace header s.part → HeaderRefused s bytes
no_place s bytes (Message tag size eom) is none = TooLong tag size eom is (omega (arith, none))
no_place s bytes (Request tag size) is none = RequestInside tag size is none
no_place s bytes (Trigger tag) is none = TriggerInside tag is none

-- a header that has no place is refused
pub refused_place : (s : State) (bytes : List ℕ) (header : OutHeader) → IsOutHeader header (take header_size bytes) → ¬ HasPlace header s.part → HeaderRefused s bytes
refused_place = no_place

-- and one that has a place is not
pub accepted : (s : State) (bytes : List ℕ) (header : OutHeader) → ((fault : HeaderFault) → IsOutFault bytes fault → ⊥)
    → ((other : OutHeader) → IsOutHeader other (take header_size bytes) → header ≡ other) → s.side ≡ Idle → HasPlace header s.part → ¬ HeaderRefused s bytes
accepted s bytes header no_fault one idle place (NoHeader fault is) = no_fault fault is
accepted s bytes header no_fault one idle place (BulkInBusy busy) = busy idle
accepted s bytes header no_fault one idle place (RequestInside tag size is some) = some (subst (λ (h : OutHeader). HasPlace h s.part) (one (Request tag size) is) place)
accepted s bytes header no_fault one idle place (TriggerInside tag is some) = some (subst (λ (h : OutHeader). HasPlace h s.part) (one (Trigger tag) is) place)
accepted s bytes header no_fault one idle place (TooLong tag size eom is long) =
    let fits = subst (λ (h : OutHeader). HasPlace h s.part) (one (Message tag size eom) is) place in omega (arith, fits, long)

-- a transfer in progress has its header
pub own_transfer : (t : Option Opening) (coming : List ℕ) (header : OutHeader) → header_in t ≡ Some header
    → transfer_of t coming ≡ Some (record { header = header; taken = taken_in (transfer_of t coming) })
own_transfer None coming header is = absurd (cc)
own_transfer (Some opening) coming header is =
    let same : opening.header ≡ header = cc in ap (λ (h : OutHeader). Some (record { header = h; taken = opening.bytes ++ coming })) same

pub none_taken : (t : Option Opening) → header_in t ≡ None → t ≡ None
none_taken None is = refl
none_taken (Some opening) is = absurd (cc)

-- and what the next packet belongs to goes on with it
pub one_header : (s : State) (submit : Pending) (transfer : Transfer) (t : Option Opening) (coming : List ℕ) (other : OutHeader) → s.transfer ≡ transfer_of t coming
    → Belongs s submit transfer → header_in t ≡ Some other → other ≡ transfer.header
one_header s submit transfer None coming other at belongs is = absurd (cc)
one_header s submit transfer (Some opening) coming other at (InProgress same) is =
    let both : ◌≡◌ {A = Option Transfer} (Some (record { header = opening.header; taken = opening.bytes ++ coming })) (Some transfer) = sym at ∙ same in
    let one : record { header = opening.header; taken = opening.bytes ++ coming } ≡ transfer = cc in
    let own : opening.header ≡ other = cc in sym own ∙ ap (λ (t : Transfer). t.header) one
one_header s submit transfer (Some opening) coming other at (Begun header none ok headed begun) is =
    let both : ◌≡◌ {A = Option Transfer} None (Some (record { header = opening.header; taken = opening.bytes ++ coming })) = sym none ∙ at in absurd (cc)

-- what came behind the header of a transfer in progress
module _ (t : Option Opening) (coming : List ℕ) (header : OutHeader) (on : header_in t ≡ Some header) (headed : (opening : Opening) → t ≡ Some opening → length opening.bytes ≡ header_size) where
  pub behind_header : (queue : List Pending) → drop header_size (bytes_of (transfer_of t coming) queue) ≡ coming
  behind_header queue = of t on headed where
    of : (o : Option Opening) → header_in o ≡ Some header → ((opening : Opening) → o ≡ Some opening → length opening.bytes ≡ header_size)
        → drop header_size (bytes_of (transfer_of o coming) queue) ≡ coming
    of None is long = absurd (cc)
    of (Some opening) is long = ap (λ (n : ℕ). drop n (opening.bytes ++ coming)) (sym (long opening refl)) ∙ drop-append_seam opening.bytes coming

  pub taken_size : length (taken_in (transfer_of t coming)) ≡ header_size + length coming
  taken_size = of t on headed where
    of : (o : Option Opening) → header_in o ≡ Some header → ((opening : Opening) → o ≡ Some opening → length opening.bytes ≡ header_size)
        → length (taken_in (transfer_of o coming)) ≡ header_size + length coming
    of None is long = absurd (cc)
    of (Some opening) is long = length-append opening.bytes coming ∙ ap (λ (n : ℕ). n + length coming) (long opening refl)

  pub grown_by : (more : List ℕ) (other : OutHeader) → header ≡ other
      → transfer_of t (coming ++ more) ≡ Some (record { header = other; taken = taken_in (transfer_of t coming) ++ more })
  grown_by more other same = of t on where
    of : (o : Option Opening) → header_in o ≡ Some header → transfer_of o (coming ++ more) ≡ Some (record { header = other; taken = taken_in (transfer_of o coming) ++ more })
    of None is = absurd (cc)
    of (Some opening) is =
        let own : opening.header ≡ header = cc in
        ap (λ (h : OutHeader). Some (record { header = h; taken = opening.bytes ++ (coming ++ more) })) (own ∙ same)
        ∙ ap (λ (l : List ℕ). Some (record { header = other; taken = l })) (sym (append_assoc opening.bytes coming more))

module _ (s : State) (submit : Pending) (transfer : Transfer) where
  one_in_progress : (other : Transfer) → s.transfer ≡ Some transfer → Belongs s submit other → other ≡ transfer
  one_in_progress other is (InProgress same) = let both : ◌≡◌ {A = Option Transfer} (Some other) (Some transfer) = sym same ∙ is in cc
  one_in_progress other is (Begun header none ok headed begun) = let both : ◌≡◌ {A = Option Transfer} None (Some transfer) = sym none ∙ is in absurd (cc)

  -- the next packet belongs to the transfer in progress
  pub goes_on : s.transfer ≡ Some transfer → (submit.moved ≡ [] → Misfits submit transfer → ⊥) → (¬ Spoils s submit) × Belongs s submit transfer
  goes_on is suits = (spoils, InProgress is) where
    spoils : Spoils s submit → ⊥
    spoils (ByHeader none refused) = let both : ◌≡◌ {A = Option Transfer} None (Some transfer) = sym none ∙ is in absurd (cc)
    spoils (ByLength other belongs moved misfits) = suits moved (subst (λ (t : Transfer). Misfits submit t) (one_in_progress other is belongs) misfits)

  one_begun : (other : Transfer) → ((a b : OutHeader) (bytes : List ℕ) → IsOutHeader a bytes → IsOutHeader b bytes → a ≡ b) → s.transfer ≡ None
      → IsOutHeader transfer.header (take header_size submit.left) → transfer.taken ≡ [] → Belongs s submit other → other ≡ transfer
  one_begun other one none headed empty (InProgress same) = let both : ◌≡◌ {A = Option Transfer} None (Some other) = sym none ∙ same in absurd (cc)
  one_begun other one none headed empty (Begun header without ok other_headed begun) =
      let same = one header transfer.header (take header_size submit.left) other_headed headed in
      begun ∙ ap (λ (h : OutHeader). record { header = h; taken = [] }) same ∙ ap (λ (l : List ℕ). record { header = transfer.header; taken = l }) (sym empty)

  -- the next packet begins a transfer
  pub begins : ((a b : OutHeader) (bytes : List ℕ) → IsOutHeader a bytes → IsOutHeader b bytes → a ≡ b) → s.transfer ≡ None → ¬ HeaderRefused s submit.left
      → IsOutHeader transfer.header (take header_size submit.left) → transfer.taken ≡ [] → (submit.moved ≡ [] → Misfits submit transfer → ⊥)
      → (¬ Spoils s submit) × Belongs s submit transfer
  begins one none ok headed empty suits = (spoils, Begun transfer.header none ok headed (ap (λ (l : List ℕ). record { header = transfer.header; taken = l }) empty)) where
    spoils : Spoils s submit → ⊥
    spoils (ByHeader without refused) = ok refused
    spoils (ByLength other belongs moved misfits) = suits moved (subst (λ (t : Transfer). Misfits submit t) (one_begun other one none headed empty belongs) misfits)

-- so a submit is judged by its length, where a transfer is in progress, and where one begins
pub judged_on : (body : Body) (submit : Pending) (header : OutHeader) (result : Option OutHeader) → transfer_in body ≡ Some (record { header = header; taken = taken_in (transfer_in body) })
    → Suits submit (record { header = header; taken = taken_in (transfer_in body) }) result → IsJudged body submit result
judged_on body submit header None is suits = ByLength (record { header = header; taken = taken_in (transfer_in body) }) (InProgress is) suits.0 suits.1
judged_on body submit header (Some found) is suits =
    subst (λ (h : OutHeader). IsJudged body submit (Some h)) (sym suits.0)
    (goes_on (state_of body) submit (record { header = header; taken = taken_in (transfer_in body) }) is suits.1)

pub judged_begun : (body : Body) (submit : Pending) (header : OutHeader) (result : Option OutHeader) → ((a b : OutHeader) (bytes : List ℕ) → IsOutHeader a bytes → IsOutHeader b bytes → a ≡ b)
    → body.transfer ≡ None → ¬ HeaderRefused (state_of body) submit.left → IsOutHeader header (take header_size submit.left)
    → Suits submit (record { header = header; taken = taken_in (transfer_in body) }) result → IsJudged body submit result
judged_begun body submit header None one none ok headed suits =
    ByLength (record { header = header; taken = taken_in (transfer_in body) })
    (Begun header (ap (λ (t : Option Opening). transfer_of t body.exchange.coming) none) ok headed (ap (λ (t : Option Opening). record { header = header; taken = taken_in (transfer_of t body.exchange.coming) }) none)) suits.0 suits.1
judged_begun body submit header (Some found) one none ok headed suits =
    subst (λ (h : OutHeader). IsJudged body submit (Some h)) (sym suits.0)
    (begins (state_of body) submit (record { header = header; taken = taken_in (transfer_in body) }) one
    (ap (λ (t : Option Opening). transfer_of t body.exchange.coming) none) ok headed
    (ap (λ (t : Option Opening). taken_in (transfer_of t body.exchange.coming)) none) suits.1)

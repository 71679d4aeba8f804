-- an answer that was appended in its parts
use Rattle.std.proofs.Common.{◌≡◌, ℕ, List, [], ◌∷◌, ◌++◌, ap, ◌∙◌}
use Rattle.std.specs.Int.{w32, cast_unsigned}
use Rattle.usbip_wire.specs.declared.urb.TheConstants.{RET_SUBMIT, NOT_ISOCHRONOUS}
use Rattle.usbip_wire.specs.declared.ret_submit.RetSubmitHead.{RetSubmitHead}
use Rattle.usbip_wire.specs.Urb.{fields}
use Rattle.usbip_wire.specs.RetSubmit.{ret_submit_bytes, unused}
use Rattle.usbip_wire.proofs.Appends.{two_appended}

-- the fields of an answer with this number in the place of its status
abbrev pub words : RetSubmitHead → ℕ → List ℕ
words head status =
    RET_SUBMIT ∷ head.seqnum ∷ 0 ∷ 0 ∷ 0 ∷ status ∷ head.actual ∷ 0 ∷ NOT_ISOCHRONOUS ∷ 0 ∷ 0 ∷ 0 ∷ []

pub answer_appended : (head : RetSubmitHead) (transferred old new last : List ℕ) (status : ℕ) → status ≡ cast_unsigned w32 head.status
    → new ≡ old ++ fields (words head status)
    → last ≡ new ++ transferred → last ≡ old ++ ret_submit_bytes head unused transferred
unfolding ret_submit_bytes
answer_appended head transferred old new last status code e f =
    two_appended old (fields (words head (cast_unsigned w32 head.status))) transferred new last (e ∙ ap (λ s. old ++ fields (words head s)) code) f

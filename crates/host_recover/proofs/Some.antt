-- each recovery has a word
use Rattle.std.proofs.Common.{true, false, [], ◌∷◌, inl, inr, refl}
use Rattle.tmc_wire.specs.declared.class_request.ClassRequest.TheVariants as class
use Rattle.host_recover.specs.declared.need.Need.{Need}
use Rattle.host_recover.specs.declared.need.Need.TheVariants as need
use Rattle.host_recover.specs.Letter.{Asked, Cleared, Success, Failed, BulkOut}
use Rattle.host_recover.specs.Words.{Begins, Has, full, words_of}

full_word : Has full (Asked class.Clear Success ∷ Asked class.CheckClear Success ∷ Cleared BulkOut ∷ [])
full_word = (
  [],
  Asked class.Clear Success ∷ Asked class.CheckClear Success ∷ Cleared BulkOut ∷ [],
  refl,
  ([], refl),
  (
    Asked class.Clear Success ∷ [],
    Asked class.CheckClear Success ∷ Cleared BulkOut ∷ [],
    refl,
    refl,
    (
      [],
      Asked class.CheckClear Success ∷ Cleared BulkOut ∷ [],
      refl,
      ([], refl),
      (Asked class.CheckClear Success ∷ [], Cleared BulkOut ∷ [], refl, refl, ([], Cleared BulkOut ∷ [], refl, inl refl, ([], Cleared BulkOut ∷ [], refl, inl refl, refl))),
    ),
  ),
)

pub has_word : (called : Need) → Begins (words_of called) []
has_word (need.Out tag false) = (Asked (class.AbortOut tag) Failed ∷ [], inr refl)
has_word (need.Out tag true) = (
  Asked (class.AbortOut tag) Failed ∷ Asked class.Clear Success ∷ Asked class.CheckClear Success ∷ Cleared BulkOut ∷ [],
  inr (Asked (class.AbortOut tag) Failed ∷ [], Asked class.Clear Success ∷ Asked class.CheckClear Success ∷ Cleared BulkOut ∷ [], refl, refl, full_word),
)
has_word (need.In tag) = (Asked (class.AbortIn tag) Failed ∷ [], inl refl)
has_word need.Full = (Asked class.Clear Success ∷ Asked class.CheckClear Success ∷ Cleared BulkOut ∷ [], full_word)

-- reads and writes, one more behind the others
use Rattle.std.proofs.Common.{◌≡◌, ℕ, ◌+◌, ◌<◌, ◌≤◌, List, ◌++◌, length, take, drop, Option, Some, None, sym, ap, ◌∙◌, subst, append_assoc, arith}
use Rattle.std.proofs.lemmas.List.{drop-drop, length-take-le}
use Rattle.tmc_base.specs.declared.source.ReadStep.{ReadStep}
use Rattle.tmc_base.specs.declared.source.ReadStep.TheVariants.{Got}
use Rattle.tmc_base.specs.declared.sink.WriteStep.{WriteStep}
use Rattle.tmc_base.specs.declared.sink.WriteStep.TheVariants.{Took}
use Rattle.tmc_base.specs.Source.{GivesFirst}
use Rattle.tmc_base.specs.Reading.{Gave, more}
use Rattle.tmc_base.specs.Writing as write
use Rattle.tmc_base.specs.Writing.{Offered}

-- behind reads that gave bytes, one that gave the front of its buffer
pub gave_more : {A : Type 0} (reads : A → ℕ → ReadStep → List ℕ → A → Type 0) (old mid new : A) (bytes buf all : List ℕ) (room n : ℕ)
    → Gave reads old bytes mid → 0 < n → n ≤ length buf → reads mid room (Got n) (take n buf) new → all ≡ bytes ++ take n buf → Gave reads old all new
gave_more reads old mid new bytes buf all room n gave some fits goes whole =
    let size : length (take n buf) ≡ n = length-take-le n buf fits in
    subst (λ xs. Gave reads old xs new) (sym whole)
    (more bytes (take n buf) room mid new gave (omega (arith, size, some)) (subst (λ k. reads mid room (Got k) (take n buf) new) (sym size) goes))

-- behind writes that left a rest, one that took the front of it
pub offered_more : {A : Type 0} (writes : A → List ℕ → WriteStep → A → Type 0) (old mid new : A) (text rest : List ℕ) (at n : ℕ)
    → Offered writes old text (drop at text) mid → rest ≡ drop at text → 0 < n → n ≤ length rest → writes mid rest (Took n) new
    → Offered writes old text (drop (at + n) text) new
offered_more writes old mid new text rest at n offered same some fits goes =
    subst (λ xs. Offered writes old text xs new) (drop-drop n at text)
    (subst (λ xs. Offered writes old text (drop n xs) new) same (write.more rest n mid new (subst (λ xs. Offered writes old text xs mid) (sym same) offered) some fits goes))

-- the bytes that were left begin with what two reads gave
pub gives_more : (bytes piece all : List ℕ) (old mid new : Option (List ℕ)) → GivesFirst bytes old mid → GivesFirst piece mid new → all ≡ bytes ++ piece
    → GivesFirst all old new
gives_more bytes piece all None mid new first next whole = subst (λ o. GivesFirst piece o new) first next
gives_more bytes piece all (Some left) mid new first next whole =
    let rest : GivesFirst piece (Some first.0) new = subst (λ o. GivesFirst piece o new) first.2 next in
    subst (λ xs. GivesFirst xs (Some left) new) (sym whole)
    (rest.0, first.1 ∙ (ap (λ xs. bytes ++ xs) rest.1 ∙ sym (append_assoc bytes piece rest.0)), rest.2)

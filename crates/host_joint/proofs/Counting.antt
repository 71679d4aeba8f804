-- what a host knows of the transfers that the device took, once all were answered
use Rattle.std.proofs.Common.{◌≡◌, ◌∙◌, ℕ, ◌+◌, inl, inr, List, [], ◌∷◌, ◌++◌, length, Option, Some, None, refl, ap, sym, subst, append-nil, length-append, arith}
use Rattle.tmc_wire.specs.declared.header.OutHeader.{OutHeader}
use Rattle.tmc_wire.specs.declared.header.OutHeader.TheVariants.{Request}
use Rattle.host_joint.specs.Jobs.{Job, last_header}
use Rattle.host_joint.specs.Stage.{IsInner, IsFinal, IsUnasked}

empty_list : (l : List Job) → length l ≡ 0 → l ≡ []
empty_list [] e = refl
empty_list (x ∷ l) e = absurd (omega (arith, e))

-- all that was written was taken
pub record AllPast (written past todo hit : List Job) : Type 0 where
  pub todo_none : todo ≡ []
  pub hit_none : hit ≡ []
  pub past_all : past ≡ written

pub all_past : (written past todo hit : List Job) (came : ℕ) → written ≡ past ++ (todo ++ hit) → length past ≡ length written + came → AllPast written past todo hit
all_past written past todo hit came whole counted =
    let long = ap (λ (l : List Job). length l) whole ∙ length-append past (todo ++ hit) in
    let rest = length-append todo hit in
    let none : todo ≡ [] = empty_list todo (omega (arith, long, rest, counted)) in
    let gone : hit ≡ [] = empty_list hit (omega (arith, long, rest, counted)) in
    record { todo_none = none; hit_none = gone; past_all = sym (whole ∙ ap (λ (l : List Job). past ++ (l ++ hit)) none ∙ ap (λ (l : List Job). past ++ l) gone ∙ append-nil past) }

-- ---- the last header is that of a request

pub not_inner : {B : Type 0} (tag size : ℕ) (o : Option OutHeader) → o ≡ Some (Request tag size) → IsInner o → B
not_inner tag size o is h = absurd (subst (λ (x : Option OutHeader). IsInner x) is h)

pub not_final : {B : Type 0} (tag size : ℕ) (o : Option OutHeader) → o ≡ Some (Request tag size) → IsFinal o → B
not_final tag size o is h = absurd (subst (λ (x : Option OutHeader). IsFinal x) is h)

pub not_unasked : {B : Type 0} (tag size : ℕ) (past : List Job) (sofar : List ℕ) → last_header past ≡ Some (Request tag size) → IsUnasked past sofar → B
not_unasked tag size past sofar is (inl final) = not_final tag size (last_header past) is final
not_unasked tag size past sofar is (inr (none, some)) = let e : None ≡ Some (Request tag size) = sym (ap last_header none) ∙ is in absurd (cc)

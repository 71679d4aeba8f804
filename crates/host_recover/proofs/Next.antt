-- the next submit is one
use Rattle.std.proofs.Common.{◌≡◌, ◌⊎◌, Bool, List, inl, inr, sym, subst, ◌∙◌, ap}
use Rattle.host_recover.specs.declared.need.Need.{Need}
use Rattle.host_recover.specs.Goes.{AreOfOne, BothClear}
use Rattle.host_recover.specs.Letter.{Letter, Asked, Cleared, Drained, Endpoint, Submit, Clear, submit_of}
use Rattle.host_recover.specs.Next.{IsNext, ClearsOnly, due_halt}
use Rattle.host_recover.proofs.Words.{determined}

both : (a b : Letter) (e : Endpoint) → BothClear a b → ClearsOnly e (submit_of a) → ClearsOnly e (submit_of b) → submit_of a ≡ submit_of b
both (Cleared a) (Cleared b) e clear first second = ap Clear (first ∙ sym second)
both (Cleared a) (Asked request says) e clear first second = absurd clear
both (Cleared a) (Drained ending) e clear first second = absurd clear
both (Asked request says) b e clear first second = absurd clear
both (Drained ending) b e clear first second = absurd clear

one : (a b : Letter) (e : Endpoint) → AreOfOne a b → ClearsOnly e (submit_of a) → ClearsOnly e (submit_of b) → submit_of a ≡ submit_of b
one a b e (inl same) first second = same
one a b e (inr clear) first second = both a b e clear first second

pub next_is_one : (called : Need) (letters : List Letter) (in_halted notify_halted : Bool) (submit other : Submit)
    → IsNext called letters in_halted notify_halted submit → IsNext called letters in_halted notify_halted other → submit ≡ other
next_is_one called letters in_halted notify_halted submit other x y =
    sym x.is
    ∙ (one x.letter y.letter due (determined called letters x.letter y.letter x.begins y.begins)
    (subst (λ (s : Submit). ClearsOnly due s) (sym x.is) x.halt) (subst (λ (s : Submit). ClearsOnly due s) (sym y.is) y.halt)
    ∙ y.is)
  where
    due : Endpoint
    due = due_halt letters in_halted notify_halted

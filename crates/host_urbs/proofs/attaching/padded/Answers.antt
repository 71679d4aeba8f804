use Rattle.std.proofs.Common.{ℕ, ◌++◌, List, length, drop, replicate, ◌∙◌, ap}
use Rattle.std.proofs.lemmas.List.{drop-replicate}
use Rattle.host_urbs.proofs.attaching.padded.Goals as goal

pub returns : goal.returns
returns c =
    ap (λ (l : List ℕ). l ++ drop (length c.args.busid.now) (replicate 32 0)) c.copy_from_slice.ensures.after
    ∙ ap (λ (l : List ℕ). c.args.busid.now ++ l) (drop-replicate (length c.args.busid.now) 32 0)

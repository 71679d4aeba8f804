-- one more call of a link behind those that moved bytes
use Rattle.std.proofs.Common.{ℕ, List, [], ◌++◌, refl, sym, ap, ◌∙◌, subst, append_assoc, append-nil}
use Rattle.tmc_base.specs.Told.{Told, Silent, Bytes, Peer, WentOut, CameIn, Exchanged}

pub exchanged_none : (told : Told) → Exchanged [] [] told told
exchanged_none Silent = refl
exchanged_none (Bytes sent taken) = ap (λ xs. Bytes xs taken) (sym (append-nil sent)) ∙ ap (λ xs. Bytes (sent ++ []) xs) (sym (append-nil taken))
exchanged_none (Peer sent taken run) = (
  [],
  ap (λ xs. Peer xs taken run) (sym (append-nil sent))
      ∙ (ap (λ xs. Peer (sent ++ []) xs run) (sym (append-nil taken)) ∙ ap (λ xs. Peer (sent ++ []) (taken ++ []) xs) (sym (append-nil run))),
)

pub exchanged_out : (out into bytes : List ℕ) (old mid new : Told) → Exchanged out into old mid → WentOut bytes mid new → Exchanged (out ++ bytes) into old new
exchanged_out out into bytes Silent mid new before goes = subst (λ t. WentOut bytes t new) before goes
exchanged_out out into bytes (Bytes sent taken) mid new before goes =
    (subst (λ t. WentOut bytes t new) before goes) ∙ ap (λ xs. Bytes xs (taken ++ into)) (append_assoc sent out bytes)
exchanged_out out into bytes (Peer sent taken run) mid new before goes =
    let last : WentOut bytes (Peer (sent ++ out) (taken ++ into) (run ++ before.0)) new = subst (λ t. WentOut bytes t new) before.1 goes in (
      before.0 ++ last.0,
      last.1
          ∙ (ap (λ xs. Peer xs (taken ++ into) ((run ++ before.0) ++ last.0)) (append_assoc sent out bytes)
          ∙ ap (λ xs. Peer (sent ++ (out ++ bytes)) (taken ++ into) xs) (append_assoc run before.0 last.0)),
    )

pub exchanged_in : (out into bytes : List ℕ) (old mid new : Told) → Exchanged out into old mid → CameIn bytes mid new → Exchanged out (into ++ bytes) old new
exchanged_in out into bytes Silent mid new before goes = subst (λ t. CameIn bytes t new) before goes
exchanged_in out into bytes (Bytes sent taken) mid new before goes =
    (subst (λ t. CameIn bytes t new) before goes) ∙ ap (λ xs. Bytes (sent ++ out) xs) (append_assoc taken into bytes)
exchanged_in out into bytes (Peer sent taken run) mid new before goes =
    let last : CameIn bytes (Peer (sent ++ out) (taken ++ into) (run ++ before.0)) new = subst (λ t. CameIn bytes t new) before.1 goes in (
      before.0 ++ last.0,
      last.1
          ∙ (ap (λ xs. Peer (sent ++ out) xs ((run ++ before.0) ++ last.0)) (append_assoc taken into bytes)
          ∙ ap (λ xs. Peer (sent ++ out) (taken ++ (into ++ bytes)) xs) (append_assoc run before.0 last.0)),
    )

use Rattle.std.proofs.Common.{◌≡◌, inr, List, ℕ, Bool, true, false, [], ◌∷◌, codes, replicate, None, refl, sym, subst, arith, lit<, lit≤}
use Rattle.usbip_wire.specs.Up as up
use Rattle.tmc_wire.specs.declared.header.OutHeader.TheVariants.{Request}
use Rattle.tmc_wire.specs.Header.{out_header_bytes}
use Rattle.tmc_law.specs.Put.{success}
use Rattle.tmc_law.specs.WorkedSession.{out_submit, unlink, answered}
use Rattle.tmc_law.specs.State.{start}
use Rattle.tmc_law.specs.WorkedParts.{spaced, spaces_text}
use Rattle.tmc_law.specs.WorkedQuery.{response_submit, response_text, identity}
use Rattle.host_joint.specs.Hand.{IsTransfer, WritesRequest}
use Rattle.host_joint.specs.Hand as hand
use Rattle.host_joint.specs.Pieces.{IsPiece, IsFaultless, IsWhole}
use Rattle.host_joint.specs.Bond.{Read, Bound, StillGoes, StillTaken, StillFull, StillEnds, StillHalted}
use Rattle.host_joint.specs.WorkedTies.{told, told_to, queried, last_request}
use Rattle.host_joint.proofs.Tied.{not_foreign, spaces_are, not_taken}
use Rattle.host_joint.proofs.worked.worked_cancels_are_bound.Goals as goal

request_is : IsTransfer (out_submit 3 12) (Request 3 4000) [] last_request
unfolding out_header_bytes
request_is = record { number = refl; way = refl; proper = (lit< tt, lit< tt); fits = (lit< tt, lit< tt); counted = refl; layout = refl; sized = refl }

pub returns-clause-raced : goal.returns-clause-raced
returns-clause-raced c =
    c.cancels_begin.ensures.unlink 1 (codes "*IDN?") 2 4000 [] [] response_submit (unlink 4 3) 4 [] (answered response_submit success 32 response_text ∷ []) queried refl refl c.worked_hosts_are_tied.ensures.querying

-- the piece was read to its end, with the data of the response
ends : ((tag size : ℕ) (eom : Bool) (carried bytes : List ℕ) → IsPiece tag size eom carried bytes → IsFaultless tag size bytes × IsWhole eom carried bytes)
    → StillGoes 1 (codes "*IDN?") 2 4000 [] [] response_submit (record { seqnum = 3; status = success; actual = 32 }) response_text (unlink 4 3 ∷ []) 5 (up.Unlink (unlink 4 3) ∷ []) [] queried
    → Bound (Read 1 (codes "*IDN?") identity) None (unlink 4 3 ∷ []) 5 (up.Unlink (unlink 4 3) ∷ []) [] queried
ends fields (StillTaken own status whole bound) = absurd (omega (arith, own))
ends fields (StillFull own status counted all piece bound) = absurd (omega (arith, all))
ends fields (StillHalted e own shuts status bound) = absurd (cc)
ends fields (StillEnds eom carried response own status counted small piece ran first whole longer bound) =
    let own_data : identity ≡ carried = (fields 2 4000 eom carried response_text piece).1.data_is in
    subst (λ (l : List ℕ). Bound (Read 1 (codes "*IDN?") l) None (unlink 4 3 ∷ []) 5 (up.Unlink (unlink 4 3) ∷ []) [] queried) (sym own_data) bound

pub returns-clause-complete : goal.returns-clause-complete
returns-clause-complete c =
    let go = c.cancelled_answers_are_taken.ensures.submit 1 (codes "*IDN?") 2 4000 [] [] response_submit (unlink 4 3 ∷ []) 5 response_submit (record { seqnum = 3; status = success; actual = 32 }) response_text
    (up.Unlink (unlink 4 3) ∷ []) [] queried (inr refl) (returns-clause-raced c) in
    let bound = ends c.pieces_have_no_fault.ensures.whole go.2 in
    (bound, c.cancelled_asks_own.ensures.read 1 (codes "*IDN?") identity None (unlink 4 3 ∷ []) 5 (up.Unlink (unlink 4 3) ∷ []) [] queried bound)

pub returns-clause-fresh : goal.returns-clause-fresh
returns-clause-fresh c =
    c.cancels_begin.ensures.unlink 2 spaced 3 4000 [] [] (out_submit 3 12) (unlink 4 3) 4 (up.Submit (out_submit 3 12) last_request ∷ []) [] told_to refl refl
    (c.writes_keep_ties.ensures told (hand.Reads 2 spaced 3 4000 [] []) (out_submit 3 12) last_request 3 [] [] told_to (WritesRequest 2 3 4000 spaced refl request_is refl) refl c.worked_hosts_are_tied.ensures.told.0)

pub returns-clause-foreign : goal.returns-clause-foreign
returns-clause-foreign c waits unlinks next ups downs bound = not_foreign (c.cancelled_asks_own.ensures.reading 4 (codes "*IDN?") 2 4000 [] response_text true waits unlinks next ups downs queried bound)

pub returns-clause-stopped : goal.returns-clause-stopped
returns-clause-stopped c =
    c.messages_are_cancelled.ensures.unlink 1 true false (out_submit 1 112) (unlink 2 1) 2 (up.Submit (out_submit 1 112) spaces_text ∷ []) [] start refl refl
    (c.messages_are_cancelled.ensures.part hand.Free (out_submit 1 112) spaces_text 1 spaced [] (replicate 100 32) (codes "*IDN?") 1 [] [] start (refl, lit≤ tt) refl spaces_are refl (c.ties_begin.ensures.power_on 1))

pub returns-clause-untaken : goal.returns-clause-untaken
returns-clause-untaken c bound = not_taken bound.bond.held

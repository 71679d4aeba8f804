-- the calls of a node, one behind the other
use Rattle.std.proofs.Common.{◌≡◌, ℕ, true, List, [], ◌∷◌, ◌++◌, sym, subst, append-nil}
use Rattle.tmc_law.specs.declared.dev_event.DevEvent.{DevEvent}
use Rattle.usbip_export.specs.Events.{Drives}
use Rattle.usbip_export.specs.Seen.{Seen, begun}
use Rattle.usbip_export.specs.TakenIn.{TakenIn, Asked, Failed, Imported, Served}
use Rattle.usbip_export.specs.Serving.{Works}
use Rattle.usbip_export.specs.Laws.{Call, Chain, AnswersLawfully, all_bytes, all_sent}
use Rattle.usbip_export.proofs.Driven.{drives_moves}
use Rattle.usbip_export.proofs.Worked.{moves_works, no_works, works_more}

pub drives_works : (event : DevEvent) (old new : Seen) → old.imported ≡ true → Drives event old new → Works [] [] old new
drives_works event old new was drives = moves_works old new (drives_moves event old new was drives)

pub joins : (calls : List Call) (old new : Seen) → Chain old calls new → Works (all_bytes calls) (all_sent calls) old new
joins [] old new is = subst (λ (s : Seen). Works [] [] old s) (sym is) (no_works old)
joins (call ∷ []) old new chain =
    subst (λ (l : List ℕ). Works l (call.sent ++ []) old new) (sym (append-nil call.bytes))
    (subst (λ (l : List ℕ). Works call.bytes l old new) (sym (append-nil call.sent))
    (subst (λ (s : Seen). Works call.bytes call.sent old s) (sym chain.3) chain.2))
joins (call ∷ next ∷ calls) old new chain =
    works_more call.bytes (all_bytes (next ∷ calls)) call.sent (all_sent (next ∷ calls)) old chain.0 new chain.3.1 chain.2
    (joins (next ∷ calls) chain.0 new chain.3)

pub lawfully : (bytes sent : List ℕ) (node : Seen) → Works bytes sent (begun true) node → AnswersLawfully bytes sent node
lawfully bytes sent node works = by works.taken where
  by : TakenIn works.took works.answered (begun true) node → AnswersLawfully bytes sent node
  by (Served was is serves) = record {
    run = serves.run;
    took = works.took;
    answered = works.answered;
    goes = serves.goes;
    takes = serves.takes;
    spelled = serves.spelled;
    kept = works.kept;
    out = works.out;
  }
  by (Asked rs was is same row none says untouched) = cc
  by (Failed rs front rest f was is good bad cut row none field says untouched) = cc
  by (Imported rs front request rest behind was is cut row none asks begins says serves) = cc

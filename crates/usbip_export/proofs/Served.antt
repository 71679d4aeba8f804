-- the steps of an instrument whose node serves a client
use Rattle.std.proofs.Common.{◌≡◌, ℕ, List, [], ◌∷◌, ◌++◌, inl, inr, sym, subst}
use Rattle.tmc_law.specs.Step.{Move}
use Rattle.tmc_law.specs.Run.{Entry}
use Rattle.usbip_export.specs.Seen.{Seen}
use Rattle.usbip_export.specs.Steps.{AllSteps, IsArrival, AreArrivals, IsCalmStep, AreCalming, IsServing, AreServing, MovesBy}
use Rattle.usbip_export.specs.Serving.{WorksBy}
use Rattle.usbip_export.proofs.More.{all_more}
use Rattle.usbip_export.proofs.Worked.{moves_by}

all_weaker : (Is Was : Move → Type 0) → ((move : Move) → Is move → Was move) → (run : List Entry) → AllSteps Is run → AllSteps Was run
all_weaker Is Was weaker [] all = tt
all_weaker Is Was weaker (entry ∷ run) all = (weaker entry.move all.0, all_weaker Is Was weaker run all.1)

pub arrivals_serve : (run : List Entry) → AreArrivals run → AreServing run
arrivals_serve = all_weaker IsArrival IsServing (λ move is. inl is)

calming_serves : (run : List Entry) → AreCalming run → AreServing run
calming_serves run calming =
    subst AreServing (sym calming.2)
    (all_more IsServing calming.0 calming.1 (arrivals_serve calming.0 calming.3) (all_weaker IsCalmStep IsServing (λ move is. inr is) calming.1 calming.4))

pub calm_serves : (old new : Seen) → MovesBy AreCalming old new → WorksBy AreServing [] [] old new
calm_serves old new made =
    moves_by AreServing old new (record { moves = made.moves; only = calming_serves _ made.only })

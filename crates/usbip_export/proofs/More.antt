-- what a node took in, and then more
use Rattle.std.proofs.Common.{◌≡◌, ◌∙◌, ℕ, Bool, true, false, List, [], ◌∷◌, ◌++◌, None, refl, sym, ap, subst, append_assoc, append-nil}
use Rattle.tmc_law.specs.State.{State}
use Rattle.tmc_law.specs.Put.{Put}
use Rattle.tmc_law.specs.Step.{Move}
use Rattle.tmc_law.specs.Run.{Entry, Runs, outputs}
use Rattle.usbip_export.specs.Identity.{devid}
use Rattle.usbip_export.specs.Operations.{import_done, replies}
use Rattle.usbip_export.specs.Seen.{Seen, standing, closed_by}
use Rattle.usbip_export.specs.TakenIn.{IsSpelled, Serves, IsUntouched, TakenIn, Asked, Failed, Imported, Served, Moves}
use Rattle.usbip_export.specs.Steps.{steps_of, AllSteps, IsArrival, AreArrivals, MovesBy}
use Rattle.usbip_export.proofs.Joined.{spells_more, runs_more, takes_more, outputs_more, spelled_more, import_none, replies_more}

pub standing_same : (a b : Seen) → b.state ≡ a.state → b.refused ≡ a.refused → standing b ≡ standing a
standing_same a b state refused = ap (closed_by b.refused) state ∙ ap (λ r. closed_by r a.state) refused

pub serves_more : (a b x y : List ℕ) (old mid new : Seen) → Serves a x old mid → Serves b y mid new → Serves (a ++ b) (x ++ y) old new
serves_more a b x y old mid new first second = record {
  run = first.run ++ second.run;
  goes = runs_more first.run second.run _ _ _ first.goes second.goes;
  takes = takes_more devid first.run second.run a b first.takes second.takes;
  spelled =
      subst (λ (ps : List Put). IsSpelled ps (x ++ y) new.puts)
      (append_assoc old.puts (outputs first.run) (outputs second.run)
      ∙ ap (λ (ps : List Put). old.puts ++ ps) (sym (outputs_more first.run second.run)))
      (spelled_more (old.puts ++ outputs first.run) (outputs second.run) mid.puts new.puts x y first.spelled second.spelled);
}

-- the same from a state before which nothing happened to the instrument
unfoldable pub serves_from : (b y : List ℕ) (old mid new : Seen) → IsUntouched old mid → mid.refused ≡ old.refused → Serves b y mid new → Serves b y old new
serves_from b y old mid new same unshut serves = record {
  run = serves.run;
  goes = subst (λ (s : State). Runs s serves.run (standing new)) (standing_same old mid same.state unshut) serves.goes;
  takes = serves.takes;
  spelled = subst (λ (ps : List Put). IsSpelled (ps ++ outputs serves.run) y new.puts) same.puts serves.spelled;
}

pub untouched_more : (old mid new : Seen) → IsUntouched old mid → IsUntouched mid new → IsUntouched old new
untouched_more old mid new first second = record { state = second.state ∙ first.state; puts = second.puts ∙ first.puts }

replies_on : (x y : List ℕ) (rs qs : _) (tail : List ℕ) → x ≡ replies rs → y ≡ replies qs ++ tail → x ++ y ≡ replies (rs ++ qs) ++ tail
replies_on x y rs qs tail first second =
    ap (λ (l : List ℕ). l ++ y) first
    ∙ (ap (λ (l : List ℕ). replies rs ++ l) second
    ∙ (sym (append_assoc (replies rs) (replies qs) tail) ∙ ap (λ (l : List ℕ). l ++ tail) (sym (replies_more rs qs))))

pub taken_more : (a b x y : List ℕ) (old mid new : Seen) → mid.refused ≡ None → TakenIn a x old mid → TakenIn b y mid new
    → TakenIn (a ++ b) (x ++ y) old new
taken_more a b x y old mid new unshut (Asked rs was is kept row none says same) (Asked qs was' is' kept' row' none' says' same') =
    Asked (rs ++ qs) was is' (kept' ∙ kept) (spells_more _ rs qs a b row row') (import_none rs qs none none')
    (ap (λ (l : List ℕ). l ++ y) says ∙ (ap (λ (l : List ℕ). replies rs ++ l) says' ∙ sym (replies_more rs qs)))
    (untouched_more old mid new same same')
taken_more a b x y old mid new unshut (Asked rs was is kept row none says same) (Failed qs front rest f was' is' good bad cut row' none' field says' same') =
    Failed (rs ++ qs) (a ++ front) rest f was is' (sym kept ∙ good) bad (ap (λ (l : List ℕ). a ++ l) cut ∙ sym (append_assoc a front rest))
    (spells_more _ rs qs a front row row') (import_none rs qs none none') field
    (ap (λ (l : List ℕ). l ++ y) says ∙ (ap (λ (l : List ℕ). replies rs ++ l) says' ∙ sym (replies_more rs qs)))
    (untouched_more old mid new same same')
taken_more a b x y old mid new unshut (Asked rs was is kept row none says same) (Imported qs front request rest behind was' is' cut row' none' asks begins says' serves) =
    Imported (rs ++ qs) (a ++ front) request rest behind was is'
    (ap (λ (l : List ℕ). a ++ l) cut ∙ sym (append_assoc a front (request ++ rest)))
    (spells_more _ rs qs a front row row') (import_none rs qs none none') asks (sym (standing_same old mid same.state kept) ∙ begins)
    (replies_on x y rs qs (import_done ++ behind) says says') (serves_from rest behind old mid new same kept serves)
taken_more a b x y old mid new unshut (Asked rs was is kept row none says same) (Served was' is' serves) = cc
taken_more a b x y old mid new unshut (Failed rs front rest f was is good bad cut row none field says same) second = cc
taken_more a b x y old mid new unshut (Imported rs front request rest behind was is cut row none asks begins says serves) (Served was' is' more) =
    Imported rs front request (rest ++ b) (behind ++ y) was is'
    (ap (λ (l : List ℕ). l ++ b) cut ∙ (append_assoc front (request ++ rest) b ∙ ap (λ (l : List ℕ). front ++ l) (append_assoc request rest b)))
    row none asks begins
    (ap (λ (l : List ℕ). l ++ y) says
    ∙ (append_assoc (replies rs) (import_done ++ behind) y ∙ ap (λ (l : List ℕ). replies rs ++ l) (append_assoc import_done behind y)))
    (serves_more rest b behind y old mid new serves more)
taken_more a b x y old mid new unshut (Imported rs front request rest behind was is cut row none asks begins says serves) (Asked qs was' is' kept' row' none' says' same') = cc
taken_more a b x y old mid new unshut (Imported rs front request rest behind was is cut row none asks begins says serves) (Failed qs front' rest' f was' is' good bad cut' row' none' field says' same') =
    cc
taken_more a b x y old mid new unshut (Imported rs front request rest behind was is cut row none asks begins says serves) (Imported qs front' request' rest' behind' was' is' cut' row' none' asks' begins' says' serves') =
    cc
taken_more a b x y old mid new unshut (Served was is serves) (Served was' is' more) = Served was is' (serves_more a b x y old mid new serves more)
taken_more a b x y old mid new unshut (Served was is serves) (Asked qs was' is' kept' row' none' says' same') = cc
taken_more a b x y old mid new unshut (Served was is serves) (Failed qs front rest f was' is' good bad cut row' none' field says' same') = cc
taken_more a b x y old mid new unshut (Served was is serves) (Imported qs front request rest behind was' is' cut row' none' asks begins says' serves') = cc

pub moves_more : (old mid new : Seen) → mid.refused ≡ None → Moves old mid → Moves mid new → Moves old new
moves_more old mid new unshut first second = record {
  took = first.took ++ second.took;
  answered = first.answered ++ second.answered;
  kept = first.kept ∙ (ap (λ (l : List ℕ). first.took ++ l) second.kept ∙ sym (append_assoc first.took second.took new.kept));
  taken = taken_more first.took second.took first.answered second.answered old mid new unshut first.taken second.taken;
  out = second.out ∙ (ap (λ (l : List ℕ). l ++ second.answered) first.out ∙ append_assoc old.out first.answered second.answered);
}

unfoldable pub nothing_served : (s : Seen) → Serves [] [] s s
nothing_served s = record {
  run = [];
  goes = refl;
  takes = refl;
  spelled = record { puts = []; left = append-nil s.puts; text = refl };
}

nothing_taken : (s : Seen) (imported : Bool) → s.imported ≡ imported → TakenIn [] [] s s
nothing_taken s true is = Served is is (nothing_served s)
nothing_taken s false is = Asked [] is is refl refl tt refl (record { state = refl; puts = refl })

-- nothing happened
pub moves_none : (s : Seen) → Moves s s
moves_none s = record { took = []; answered = []; kept = refl; taken = nothing_taken s s.imported refl; out = sym (append-nil s.out) }

-- ---- the steps that were made

pub steps_more : (a b x y : List ℕ) (old mid new : Seen) (unshut : mid.refused ≡ None) (first : TakenIn a x old mid) (second : TakenIn b y mid new)
    → steps_of (taken_more a b x y old mid new unshut first second) ≡ steps_of first ++ steps_of second
unfolding taken_more serves_more serves_from
steps_more a b x y old mid new unshut (Asked rs was is kept row none says same) (Asked qs was' is' kept' row' none' says' same') = refl
steps_more a b x y old mid new unshut (Asked rs was is kept row none says same) (Failed qs front' rest' f was' is' good bad cut' row' none' field says' same') = refl
steps_more a b x y old mid new unshut (Asked rs was is kept row none says same) (Imported qs front' request' rest' behind' was' is' cut' row' none' asks' begins' says' serves') = refl
steps_more a b x y old mid new unshut (Asked rs was is kept row none says same) (Served was' is' more) = cc
steps_more a b x y old mid new unshut (Failed rs front rest f was is good bad cut row none field says same) second = cc
steps_more a b x y old mid new unshut (Imported rs front request rest behind was is cut row none asks begins says serves) (Served was' is' more) = refl
steps_more a b x y old mid new unshut (Imported rs front request rest behind was is cut row none asks begins says serves) (Asked qs was' is' kept' row' none' says' same') = cc
steps_more a b x y old mid new unshut (Imported rs front request rest behind was is cut row none asks begins says serves) (Failed qs front' rest' f was' is' good bad cut' row' none' field says' same') = cc
steps_more a b x y old mid new unshut (Imported rs front request rest behind was is cut row none asks begins says serves) (Imported qs front' request' rest' behind' was' is' cut' row' none' asks' begins' says' serves') = cc
steps_more a b x y old mid new unshut (Served was is serves) (Served was' is' more) = refl
steps_more a b x y old mid new unshut (Served was is serves) (Asked qs was' is' kept' row' none' says' same') = cc
steps_more a b x y old mid new unshut (Served was is serves) (Failed qs front' rest' f was' is' good bad cut' row' none' field says' same') = cc
steps_more a b x y old mid new unshut (Served was is serves) (Imported qs front' request' rest' behind' was' is' cut' row' none' asks' begins' says' serves') = cc

-- the steps of two calls, one behind the other
pub more_by : (First Second Both : List Entry → Type 0) → ((a b : List Entry) → First a → Second b → Both (a ++ b)) → (old mid new : Seen)
    → mid.refused ≡ None → MovesBy First old mid → MovesBy Second mid new → MovesBy Both old new
unfolding moves_more
more_by First Second Both both old mid new unshut first second = record {
  moves = moves_more old mid new unshut first.moves second.moves;
  only =
      subst Both
      (sym (steps_more first.moves.took second.moves.took first.moves.answered second.moves.answered old mid new unshut first.moves.taken second.moves.taken))
      (both (steps_of first.moves.taken) (steps_of second.moves.taken) first.only second.only);
}

nothing_steps : (s : Seen) (imported : Bool) (is : s.imported ≡ imported) → steps_of (nothing_taken s imported is) ≡ []
unfolding nothing_taken nothing_served
nothing_steps s true is = refl
nothing_steps s false is = refl

pub none_by : (Only : List Entry → Type 0) → Only [] → (s : Seen) → MovesBy Only s s
unfolding moves_none
none_by Only none s = record { moves = moves_none s; only = subst Only (sym (nothing_steps s s.imported refl)) none }

pub all_more : (Is : Move → Type 0) (a b : List Entry) → AllSteps Is a → AllSteps Is b → AllSteps Is (a ++ b)
all_more Is [] b first second = second
all_more Is (entry ∷ a) b first second = (first.0, all_more Is a b first.1 second)

pub arrivals_more : (old mid new : Seen) → mid.refused ≡ None → MovesBy AreArrivals old mid → MovesBy AreArrivals mid new → MovesBy AreArrivals old new
arrivals_more = more_by AreArrivals AreArrivals AreArrivals (all_more IsArrival)

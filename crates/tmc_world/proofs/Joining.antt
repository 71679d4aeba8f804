-- what an imported node does in one call and then in another
use Rattle.std.proofs.Common.{◌≡◌, ◌∙◌, ℕ, Bool, true, false, List, [], ◌∷◌, ◌++◌, refl, sym, ap, subst, append_assoc, append-nil}
use Rattle.tmc_law.specs.State.{State}
use Rattle.tmc_law.specs.Put.{Put}
use Rattle.tmc_law.specs.Run.{Entry, Runs, TakesAll, outputs, SpellAll, SpellsPut}
use Rattle.tmc_device.specs.Seen.{is_closed}
use Rattle.usbip_export.specs.Identity.{devid}
use Rattle.usbip_export.specs.Seen.{Seen, standing}
use Rattle.usbip_export.specs.TakenIn.{IsSpelled, Serves, TakenIn, Asked, Failed, Imported, Served}
use Rattle.usbip_export.specs.Serving.{Works}
use Rattle.tmc_world.specs.Crossing.{IsOpen, IsShut}

-- ---- runs, and what they take in and put out

pub runs_more : (a b : List Entry) (s m t : State) → Runs s a m → Runs m b t → Runs s (a ++ b) t
runs_more [] b s m t run more = subst (λ (from : State). Runs from b t) run more
runs_more (entry ∷ a) b s m t run more = (run.0, run.1, runs_more a b run.0 m t run.2 more)

pub takes_more : (a b : List Entry) (front rest : List ℕ) → TakesAll devid a front → TakesAll devid b rest → TakesAll devid (a ++ b) (front ++ rest)
takes_more [] b front rest none took = subst (λ (l : List ℕ). TakesAll devid b (l ++ rest)) (sym none) took
takes_more (entry ∷ a) b front rest (first, more, is, takes, took) behind = (
  first,
  more ++ rest,
  ap (λ (l : List ℕ). l ++ rest) is ∙ append_assoc first more rest,
  takes,
  takes_more a b more rest took behind,
)

pub outputs_more : (a b : List Entry) → outputs (a ++ b) ≡ outputs a ++ outputs b
outputs_more [] b = refl
outputs_more (entry ∷ a) b =
    ap (λ (ps : List Put). entry.puts ++ ps) (outputs_more a b) ∙ sym (append_assoc entry.puts (outputs a) (outputs b))

spells_more : (ms ns : List Put) (a b : List ℕ) → SpellAll SpellsPut ms a → SpellAll SpellsPut ns b → SpellAll SpellsPut (ms ++ ns) (a ++ b)
spells_more [] ns a b none row = subst (λ (l : List ℕ). SpellAll SpellsPut ns (l ++ b)) (sym none) row
spells_more (m ∷ ms) ns a b (front, after, is, spells, more) row = (
  front,
  after ++ b,
  ap (λ (l : List ℕ). l ++ b) is ∙ append_assoc front after b,
  spells,
  spells_more ms ns after b more row,
)

pub spelled_more : (p q mid new : List Put) (x y : List ℕ) → IsSpelled p x mid → IsSpelled (mid ++ q) y new → IsSpelled (p ++ q) (x ++ y) new
spelled_more p q mid new x y first second = record {
  puts = first.puts ++ second.puts;
  left =
      ap (λ (l : List Put). l ++ q) first.left
      ∙ (append_assoc first.puts mid q
      ∙ (ap (λ (l : List Put). first.puts ++ l) second.left ∙ sym (append_assoc first.puts second.puts new)));
  text = spells_more first.puts second.puts x y first.text second.text;
}

-- ---- an imported node

unfoldable pub serves_of : (took answered : List ℕ) (old new : Seen) → old.imported ≡ true → TakenIn took answered old new → Serves took answered old new
serves_of took answered old new was (Served is still serves) = serves
serves_of took answered old new was (Asked rs is still same row none says untouched) = absurd (clash (sym was ∙ is)) where
  clash : true ≡ false → ⊥
  clash e = cc
serves_of took answered old new was (Failed rs front rest f is still good bad cut row none field says untouched) = absurd (clash (sym was ∙ is)) where
  clash : true ≡ false → ⊥
  clash e = cc
serves_of took answered old new was (Imported rs front request rest behind is still cut row none asks begins says serves) = absurd (clash (sym was ∙ is)) where
  clash : true ≡ false → ⊥
  clash e = cc

still_imported : (took answered : List ℕ) (old new : Seen) → old.imported ≡ true → TakenIn took answered old new → new.imported ≡ true
still_imported took answered old new was (Served is still serves) = still
still_imported took answered old new was (Imported rs front request rest behind is still cut row none asks begins says serves) = still
still_imported took answered old new was (Asked rs is still same row none says untouched) = absurd (clash (sym was ∙ is)) where
  clash : true ≡ false → ⊥
  clash e = cc
still_imported took answered old new was (Failed rs front rest f is still good bad cut row none field says untouched) = absurd (clash (sym was ∙ is)) where
  clash : true ≡ false → ⊥
  clash e = cc

pub works_imported : (a x : List ℕ) (old new : Seen) → old.imported ≡ true → Works a x old new → new.imported ≡ true
works_imported a x old new was works = still_imported works.took works.answered old new was works.taken

unfoldable pub serves_more : (a b x y : List ℕ) (old mid new : Seen) → Serves a x old mid → Serves b y mid new → Serves (a ++ b) (x ++ y) old new
serves_more a b x y old mid new first second = record {
  run = first.run ++ second.run;
  goes = runs_more first.run second.run (standing old) (standing mid) (standing new) first.goes second.goes;
  takes = takes_more first.run second.run a b first.takes second.takes;
  spelled =
      subst (λ (ps : List Put). IsSpelled (old.puts ++ ps) (x ++ y) new.puts) (sym (outputs_more first.run second.run))
      (subst (λ (ps : List Put). IsSpelled ps (x ++ y) new.puts) (append_assoc old.puts (outputs first.run) (outputs second.run))
      (spelled_more (old.puts ++ outputs first.run) (outputs second.run) mid.puts new.puts x y first.spelled second.spelled));
}

unfoldable pub works_then : (a b x y : List ℕ) (old mid new : Seen) → old.imported ≡ true → Works a x old mid → Works b y mid new → Works (a ++ b) (x ++ y) old new
works_then a b x y old mid new was first second = record {
  took = first.took ++ second.took;
  answered = first.answered ++ second.answered;
  kept =
      sym (append_assoc old.kept a b)
      ∙ (ap (λ (l : List ℕ). l ++ b) first.kept
      ∙ (append_assoc first.took mid.kept b
      ∙ (ap (λ (l : List ℕ). first.took ++ l) second.kept ∙ sym (append_assoc first.took second.took new.kept))));
  taken =
      let is = works_imported a x old mid was first in
      Served was (works_imported b y mid new is second)
      (serves_more first.took second.took first.answered second.answered old mid new (serves_of _ _ old mid was first.taken) (serves_of _ _ mid new is second.taken));
  out =
      sym (append_assoc old.out first.answered second.answered)
      ∙ (ap (λ (l : List ℕ). l ++ second.answered) first.out
      ∙ (append_assoc x mid.out second.answered
      ∙ (ap (λ (l : List ℕ). x ++ l) second.out ∙ sym (append_assoc x y new.out))));
}

-- behind what a node was fed
pub works_on : (a : List ℕ) (old mid new : Seen) → old.imported ≡ true → Works a [] old mid → Works [] [] mid new → Works a [] old new
works_on a old mid new was first second =
    subst (λ (l : List ℕ). Works l [] old new) (append-nil a) (works_then a [] [] [] old mid new was first second)

unfoldable pub no_works : (old : Seen) → old.imported ≡ true → Works [] [] old old
no_works old was = record {
  took = [];
  answered = [];
  kept = append-nil old.kept;
  taken = Served was was (record {
    run = [];
    goes = refl;
    takes = refl;
    spelled = record { puts = []; left = append-nil old.puts; text = refl };
  });
  out = append-nil old.out;
}

pub same_works : (old new : Seen) → old.imported ≡ true → new ≡ old → Works [] [] old new
same_works old new was is = subst (λ (s : Seen). Works [] [] old s) (sym is) (no_works old was)

-- ---- a closed node stays closed

runs_closed : (run : List Entry) (s t : State) → is_closed s.presence ≡ true → Runs s run t → t ≡ s
runs_closed [] s t shut goes = goes
runs_closed (entry ∷ run) s t shut goes = absurd (clash (sym shut ∙ ap is_closed goes.1.plugged)) where
  clash : true ≡ false → ⊥
  clash e = cc

pub stays_shut : (a x : List ℕ) (old new : Seen) → old.imported ≡ true → Works a x old new → IsShut old → IsShut new
stays_shut a x old new was works shut =
    let serves = serves_of works.took works.answered old new was works.taken in
    ap (λ (s : State). is_closed s.presence) (runs_closed serves.run (standing old) (standing new) shut serves.goes) ∙ shut

pub was_open : (a x : List ℕ) (old new : Seen) → old.imported ≡ true → Works a x old new → IsOpen new → IsOpen old
was_open a x old new was works opened = by (is_closed (standing old).presence) refl where
  clash : true ≡ false → ⊥
  clash e = cc

  by : (shut : Bool) → is_closed (standing old).presence ≡ shut → IsOpen old
  by false is = is
  by true is = absurd (clash (sym (stays_shut a x old new was works is) ∙ opened))

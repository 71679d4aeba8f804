-- an instrument that did nothing by itself took each message in by one step
use Rattle.std.proofs.Common.{◌≡◌, ◌∙◌, ◌↔◌, ℕ, true, false, List, [], ◌∷◌, ◌++◌, None, refl, sym, ap, subst, append_assoc}
use Rattle.tmc_base.specs.declared.field.Field.{Field}
use Rattle.usbip_wire.specs.Up as up
use Rattle.tmc_law.specs.State.{State, Presence, Plugged, Unplugged, Closed}
use Rattle.tmc_law.specs.Put.{Put}
use Rattle.tmc_law.specs.Step.{Move, Comes, Refuses, Steps}
use Rattle.tmc_law.specs.Run.{Entry, Runs, TakesAll, taken, inputs, outputs, SpellAll}
use Rattle.tmc_law.specs.Laws.{refusal, EndsRefused}
use Rattle.tmc_device.specs.Seen.{is_closed}
use Rattle.usbip_export.specs.Identity.{devid}
use Rattle.usbip_export.specs.Seen.{Seen, standing}
use Rattle.usbip_export.specs.TakenIn.{IsSpelled, Serves, TakenIn, Asked, Failed, Imported, Served}
use Rattle.usbip_export.specs.Serving.{Works, WorksBy}
use Rattle.usbip_export.specs.Steps.{steps_of, IsArrival, AreArrivals, StepEach, EndsBehind, TakesEach}
use Rattle.usbip_export.proofs.More.{all_more}
use Rattle.usbip_export.proofs.Worked.{both_by, closed_presence, runs_closed}
use Rattle.usbip_export.proofs.Failed.{EndsLaw}

-- a run that did not end closed takes in its inputs in a row
abbrev pub TakesRow : Type 0
TakesRow =
    (number : ℕ) (run : List Entry) (s t : State) (bytes : List ℕ) → Runs s run t → ((f : Field) → t.presence ≡ Closed f → ⊥)
    → TakesAll number run bytes ↔ SpellAll (up.Spells number) (inputs run) bytes

-- ---- each step takes one message in

step_first : (move : Move) (first rest : List Put) (run : List Entry) (s mid t : State) → ((f : Field) → t.presence ≡ Closed f → ⊥)
    → IsArrival move → Steps s move first mid → Runs mid run t → StepEach mid (inputs run) rest t
    → StepEach s (taken move ++ inputs run) (first ++ rest) t
step_first (Comes message) first rest run s mid t unshut arrives steps goes each = (first, rest, mid, refl, steps, each)
step_first (Refuses number bytes f) first rest run s mid t unshut arrives steps goes each =
    let closed : mid.presence ≡ Closed f = ap (λ (m : State). m.presence) steps.leads.2 in
    absurd (unshut f (ap (λ (m : State). m.presence) (runs_closed run mid t (ap is_closed closed) goes) ∙ closed))
step_first move first rest run s mid t unshut arrives steps goes each = absurd arrives

each_step : (run : List Entry) (s t : State) → ((f : Field) → t.presence ≡ Closed f → ⊥) → AreArrivals run → Runs s run t
    → StepEach s (inputs run) (outputs run) t
each_step [] s t unshut arrive goes = (refl, goes)
each_step (entry ∷ run) s t unshut arrive goes =
    step_first entry.move entry.puts (outputs run) run s goes.0 t unshut arrive.0 goes.1 goes.2 (each_step run goes.0 t unshut arrive.1 goes.2)

-- ---- the step that refuses is the last, and takes in no message

arrivals_front : (a b : List Entry) → AreArrivals (a ++ b) → AreArrivals a
arrivals_front [] b arrive = tt
arrivals_front (entry ∷ a) b arrive = (arrive.0, arrivals_front a b arrive.1)

inputs_before : (before : List Entry) (refused : List ℕ) (f : Field) → inputs (before ++ refusal devid refused f ∷ []) ≡ inputs before
inputs_before [] refused f = refl
inputs_before (entry ∷ before) refused f = ap (λ (ms : List up.Message). taken entry.move ++ ms) (inputs_before before refused f)

outputs_before : (before : List Entry) (refused : List ℕ) (f : Field) → outputs (before ++ refusal devid refused f ∷ []) ≡ outputs before
outputs_before [] refused f = refl
outputs_before (entry ∷ before) refused f = ap (λ (ps : List Put). entry.puts ++ ps) (outputs_before before refused f)

plugged_open : (s : State) → s.presence ≡ Plugged → (f : Field) → s.presence ≡ Closed f → ⊥
plugged_open s plugged f closed = clash (sym plugged ∙ closed) where
  clash : Plugged ≡ Closed f → ⊥
  clash e = cc

-- ---- what was fed is messages in a row

module _ (row : TakesRow) (ends : EndsLaw) (bytes : List ℕ) (old new : Seen) (works : Works bytes [] old new)
    (serves : Serves works.took works.answered old new) (arrive : AreArrivals serves.run) where
  each_open : ((f : Field) → (standing new).presence ≡ Closed f → ⊥) → EndsBehind (standing new).presence (standing new) (standing new) [] → TakesEach bytes old new
  each_open unshut behind = record {
    messages = inputs serves.run;
    took = works.took;
    puts = outputs serves.run;
    answered = works.answered;
    mid = standing new;
    refused = [];
    kept = works.kept;
    row = (row devid serves.run (standing old) (standing new) works.took serves.goes unshut).0 serves.takes;
    steps = each_step serves.run (standing old) (standing new) unshut arrive serves.goes;
    behind = behind;
    spelled = serves.spelled;
    out = sym works.out;
  }

  each_refused : (f : Field) → (standing new).presence ≡ Closed f → EndsRefused devid (standing old) serves.run (standing new) works.took f
      → TakesEach bytes old new
  each_refused f shut end = record {
    messages = inputs end.before;
    took = end.front;
    puts = outputs end.before;
    answered = works.answered;
    mid = end.mid;
    refused = end.refused;
    kept = works.kept ∙ (ap (λ (l : List ℕ). l ++ new.kept) end.took ∙ append_assoc end.front end.refused new.kept);
    row =
        subst (λ (ms : List up.Message). SpellAll (up.Spells devid) ms end.front)
        (ap inputs end.last ∙ inputs_before end.before end.refused f) end.spelled;
    steps =
        each_step end.before (standing old) end.mid (plugged_open end.mid end.plugged)
        (arrivals_front end.before (refusal devid end.refused f ∷ []) (subst AreArrivals end.last arrive)) end.goes;
    behind =
        subst (λ (p : Presence). EndsBehind p end.mid (standing new) end.refused) (sym shut) (end.refuses, end.closed);
    spelled =
        subst (λ (ps : List Put). IsSpelled (old.puts ++ ps) works.answered new.puts)
        (ap outputs end.last ∙ outputs_before end.before end.refused f) serves.spelled;
    out = sym works.out;
  }

  each_served : (standing old).presence ≡ Plugged → TakesEach bytes old new
  each_served plugged = by (standing new).presence refl where
    by : (presence : Presence) → (standing new).presence ≡ presence → TakesEach bytes old new
    by Plugged is =
        each_open (λ f shut. cc) (subst (λ (p : Presence). EndsBehind p (standing new) (standing new) []) (sym is) (refl, refl))
    by Unplugged is =
        each_open (λ f shut. cc) (subst (λ (p : Presence). EndsBehind p (standing new) (standing new) []) (sym is) (refl, refl))
    by (Closed f) is =
        each_refused f is (ends devid serves.run (standing old) (standing new) works.took f plugged serves.goes serves.takes is)

pub takes_each : TakesRow → EndsLaw → (bytes : List ℕ) (old new : Seen) → old.imported ≡ true → is_closed (standing old).presence ≡ false
    → WorksBy AreArrivals bytes [] old new → TakesEach bytes old new
takes_each row ends bytes old new was unshut made = by made.works made.only where
  plugged : (standing old).presence ≡ Plugged
  plugged = closed_presence (standing old).presence unshut

  by : (works : Works bytes [] old new) → AreArrivals (steps_of works.taken) → TakesEach bytes old new
  by works arrive = on works.taken arrive where
    on : (taking : TakenIn works.took works.answered old new) → AreArrivals (steps_of taking) → TakesEach bytes old new
    on (Served was' is serves) arrive = each_served row ends bytes old new works serves arrive plugged
    on (Asked rs was' is same row none says untouched) arrive = cc
    on (Failed rs front rest f was' is good bad cut row none field says untouched) arrive = cc
    on (Imported rs front request rest behind was' is cut row none asks begins says serves) arrive = cc

pub pieces_join : (a b : List ℕ) (old mid new : Seen) → mid.refused ≡ None → WorksBy AreArrivals a [] old mid → WorksBy AreArrivals b [] mid new
    → WorksBy AreArrivals (a ++ b) [] old new
pieces_join a b = both_by AreArrivals AreArrivals AreArrivals (all_more IsArrival) a b [] []

-- the told run, and what follows it
use Rattle.std.proofs.Common.{◌≡◌, ◌∙◌, ℕ, ◌-◌, Bool, true, false, if◌then◌else◌, List, [], ◌∷◌, ◌++◌, length, take, drop, refl, sym, ap, subst, append_assoc, append-nil, arith}
use Rattle.std.proofs.lemmas.List.{length-append, take-append-drop}
use Rattle.std.proofs.Math.Seq.{take-append_seam, drop-append_seam}
use Rattle.tmc_base.specs.declared.run_step.RunStep.{RunStep}
use Rattle.tmc_base.specs.Told as told
use Rattle.tmc_base.specs.Told.{in_bytes, out_bytes}
use Rattle.tmc_law.specs.declared.dev_event.DevEvent.{DevEvent}
use Rattle.tmc_law.specs.State.{State, start}
use Rattle.tmc_law.specs.Put.{Put}
use Rattle.tmc_law.specs.Run.{Entry, TakesAll, outputs, SpellAll, SpellsPut, IsFront}
use Rattle.tmc_law.specs.Told.{Tells}
use Rattle.host_joint.specs.Joint.{MeansBy, TellsBy}
use Rattle.host_joint.specs.Tie.{IsUndisturbed}
use Rattle.usbip_export.specs.Identity.{devid}
use Rattle.usbip_export.specs.Seen.{standing}
use Rattle.usbip_export.specs.TakenIn.{IsSpelled}
use Rattle.usbip_export.specs.Serving.{Works}
use Rattle.usbip_export.specs.Steps.{steps_of}
use Rattle.tmc_world.specs.Calm.{IsQuiet}
use Rattle.tmc_world.specs.Crossing.{Crossing, uncrossed, IsSound, before}
use Rattle.tmc_world.specs.Telling.{since, told_on, told_of, Follows, IsTelling}
use Rattle.tmc_world.proofs.Joining.{runs_more, takes_more, outputs_more, spelled_more, serves_of}
use Rattle.tmc_world.proofs.Quiet.{calm_front, steps_serves, still_more}

-- ---- one told step more

in_more : (run : List RunStep) (step : RunStep) → in_bytes (run ++ step ∷ []) ≡ in_bytes run ++ step.took
in_more [] step = append-nil step.took
in_more (first ∷ run) step = ap (λ (l : List ℕ). first.took ++ l) (in_more run step) ∙ sym (append_assoc first.took (in_bytes run) step.took)

out_more : (run : List RunStep) (step : RunStep) → out_bytes (run ++ step ∷ []) ≡ out_bytes run ++ step.put
out_more [] step = append-nil step.put
out_more (first ∷ run) step = ap (λ (l : List ℕ). first.put ++ l) (out_more run step) ∙ sym (append_assoc first.put (out_bytes run) step.put)

tells_more : (Kind : List Entry → Type 0) (run : List RunStep) (step : RunStep) (s m t : State) → TellsBy Kind devid s run m → MeansBy Kind devid m step t
    → TellsBy Kind devid s (run ++ step ∷ []) t
tells_more Kind [] step s m t tells means = (t, subst (λ (from : State). MeansBy Kind devid from step t) tells means, refl)
tells_more Kind (first ∷ run) step s m t tells means = (tells.0, tells.1, tells_more Kind run step tells.0 m t tells.2 means)

-- told by runs of one kind, and so of another
pub tells_as : (Kind Other : List Entry → Type 0) → ((es : List Entry) → Kind es → Other es) → (run : List RunStep) (s t : State) → TellsBy Kind devid s run t
    → TellsBy Other devid s run t
tells_as Kind Other so [] s t tells = tells
tells_as Kind Other so (step ∷ run) s t tells =
    (tells.0, record { means = tells.1.means; calm = so tells.1.means.run tells.1.calm }, tells_as Kind Other so run tells.0 t tells.2)

pub tells_any : (Kind : List Entry → Type 0) (run : List RunStep) (s t : State) → TellsBy Kind devid s run t → Tells devid s run t
tells_any Kind [] s t tells = tells
tells_any Kind (step ∷ run) s t tells = (tells.0, tells.1.means, tells_any Kind run tells.0 t tells.2)

pub told_last : (run : List RunStep) (moments : List Crossing) (now : Crossing) → told_of run (moments ++ now ∷ []) ≡ told_on (told_of run moments) now
told_last run [] now = refl
told_last run (moment ∷ moments) now = told_last (told_on run moment) moments now

pub front_on : (run : List RunStep) (now : Crossing) → IsFront run (told_on run now)
front_on run now = by now.late where
  by : (late : Bool) → IsFront run (if late then run else run ++ since run now ∷ [])
  by true = ([], sym (append-nil run))
  by false = (since run now ∷ [], refl)

-- ---- what follows the told run

pub begins : (acts : List DevEvent) → IsTelling acts [] uncrossed
begins acts = record {
  sound = record { imported = refl; within = omega arith; opened = λ _. refl; spelled = λ _. refl };
  follows = record {
    state = start;
    leads = refl;
    later = [];
    took = [];
    answered = [];
    goes = refl;
    quiet = λ _. tt;
    takes = refl;
    spelled = record { puts = []; left = refl; text = refl };
    fed = refl;
    out = refl;
    taken = ([], refl);
  };
  none_later = λ _. refl;
  none_took = λ _. refl;
  none_answered = λ _. refl;
}

-- the node was fed these bytes more
pub follows_on : (acts : List DevEvent) (run : List RunStep) (old new : Crossing) (bytes : List ℕ) → Follows acts run old → old.node.imported ≡ true
    → (works : Works bytes [] old.node new.node) → IsQuiet acts (steps_of works.taken) → take new.fed new.sent ≡ take old.fed old.sent ++ bytes
    → new.taken ≡ old.taken → Follows acts run new
follows_on acts run old new bytes follows was works quiet fed taken =
    let serves = serves_of works.took works.answered old.node new.node was works.taken in
    record {
      state = follows.state;
      leads = follows.leads;
      later = follows.later ++ serves.run;
      took = follows.took ++ works.took;
      answered = follows.answered ++ works.answered;
      goes = runs_more follows.later serves.run follows.state (standing old.node) (standing new.node) follows.goes serves.goes;
      quiet = λ calm.
          still_more follows.later serves.run (follows.quiet calm)
          (subst IsUndisturbed (steps_serves works.took works.answered old.node new.node was works.taken) (quiet calm));
      takes = takes_more follows.later serves.run follows.took works.took follows.takes serves.takes;
      spelled =
          subst (λ (ps : List Put). IsSpelled ps (follows.answered ++ works.answered) new.node.puts) (sym (outputs_more follows.later serves.run))
          (spelled_more (outputs follows.later) (outputs serves.run) old.node.puts new.node.puts follows.answered works.answered follows.spelled serves.spelled);
      fed =
          fed
          ∙ (ap (λ (l : List ℕ). l ++ bytes) follows.fed
          ∙ (append_assoc (in_bytes run) (follows.took ++ old.node.kept) bytes
          ∙ ap (λ (l : List ℕ). in_bytes run ++ l)
          (append_assoc follows.took old.node.kept bytes
          ∙ (ap (λ (l : List ℕ). follows.took ++ l) works.kept ∙ sym (append_assoc follows.took works.took new.node.kept)))));
      out =
          sym (append_assoc (out_bytes run) follows.answered works.answered)
          ∙ (ap (λ (l : List ℕ). l ++ works.answered) follows.out
          ∙ (append_assoc old.taken old.node.out works.answered
          ∙ (ap (λ (l : List ℕ). old.taken ++ l) works.out ∙ ap (λ (l : List ℕ). l ++ new.node.out) (sym taken))));
      taken = subst (λ (l : List ℕ). told.IsFront l (out_bytes run)) (sym taken) follows.taken;
    }

-- ---- the told run is told on

before_is : (front end all : List ℕ) → all ≡ front ++ end → before end all ≡ front
before_is front end all is =
    let same : length all - length end ≡ length front = omega (arith, ap length is, length-append front end) in
    ap (λ (n : ℕ). take n all) same ∙ (ap (λ (l : List ℕ). take (length front) l) is ∙ take-append_seam front end)

spelled_all : (before after : List Put) (answered : List ℕ) → IsSpelled before answered after → after ≡ [] → SpellAll SpellsPut before answered
spelled_all before after answered spelled none =
    subst (λ (ps : List Put). SpellAll SpellsPut ps answered)
    (sym (spelled.left ∙ (ap (λ (ps : List Put). spelled.puts ++ ps) none ∙ append-nil spelled.puts))) spelled.text

pub tells_on : (acts : List DevEvent) (run : List RunStep) (now : Crossing) → IsSound now → Follows acts run now → IsTelling acts (told_on run now) now
tells_on acts run now sound follows = by now.late refl where
  clash : true ≡ false → ⊥
  clash e = cc

  took : (since run now).took ≡ follows.took
  took =
      ap (λ (l : List ℕ). drop (length (in_bytes run)) l)
      (before_is (in_bytes run ++ follows.took) now.node.kept (take now.fed now.sent)
      (follows.fed ∙ sym (append_assoc (in_bytes run) follows.took now.node.kept)))
      ∙ drop-append_seam (in_bytes run) follows.took

  put : (since run now).put ≡ follows.answered
  put = ap (λ (l : List ℕ). drop (length (out_bytes run)) l) (sym follows.out) ∙ drop-append_seam (out_bytes run) follows.answered

  by : (late : Bool) → now.late ≡ late → IsTelling acts (if late then run else run ++ since run now ∷ []) now
  by true is = record {
    sound = sound;
    follows = follows;
    none_later = λ e. absurd (clash (sym is ∙ e));
    none_took = λ e. absurd (clash (sym is ∙ e));
    none_answered = λ e. absurd (clash (sym is ∙ e));
  }
  by false is =
      let outs : out_bytes (run ++ since run now ∷ []) ≡ now.taken ++ now.node.out =
      out_more run (since run now) ∙ (ap (λ (l : List ℕ). out_bytes run ++ l) put ∙ follows.out) in
      record {
        sound = sound;
        follows = record {
          state = standing now.node;
          leads = tells_more (IsQuiet acts) run (since run now) start follows.state (standing now.node) follows.leads (record {
            means = record {
              run = follows.later;
              goes = follows.goes;
              took = subst (λ (l : List ℕ). TakesAll devid follows.later l) (sym took) follows.takes;
              put = subst (λ (l : List ℕ). SpellAll SpellsPut (outputs follows.later) l) (sym put)
                  (spelled_all (outputs follows.later) now.node.puts follows.answered follows.spelled (sound.spelled is));
            };
            calm = follows.quiet;
          });
          later = [];
          took = [];
          answered = [];
          goes = refl;
          quiet = λ _. tt;
          takes = refl;
          spelled = record { puts = []; left = sym (sound.spelled is); text = refl };
          fed =
              follows.fed
              ∙ (sym (append_assoc (in_bytes run) follows.took now.node.kept)
              ∙ ap (λ (l : List ℕ). l ++ now.node.kept) (sym (in_more run (since run now) ∙ ap (λ (l : List ℕ). in_bytes run ++ l) took)));
          out = append-nil (out_bytes (run ++ since run now ∷ [])) ∙ outs;
          taken = (now.node.out, outs);
        };
        none_later = λ _. refl;
        none_took = λ _. refl;
        none_answered = λ _. refl;
      }

-- ---- bytes are taken from a node of which all is told

abbrev pub taken_from : Crossing → ℕ → Crossing
taken_from old count = record old {
  node = record old.node { out = drop count old.node.out };
  taken = old.taken ++ take count old.node.out;
}

pub tells_taken : (acts : List DevEvent) (run : List RunStep) (old : Crossing) (count : ℕ) → old.late ≡ false → IsTelling acts run old
    → IsTelling acts run (taken_from old count)
tells_taken acts run old count unlate telling =
    let follows = telling.follows in
    let all : (old.taken ++ take count old.node.out) ++ drop count old.node.out ≡ old.taken ++ old.node.out =
    append_assoc old.taken (take count old.node.out) (drop count old.node.out)
    ∙ ap (λ (l : List ℕ). old.taken ++ l) (take-append-drop count old.node.out) in
    let told : out_bytes run ≡ old.taken ++ old.node.out =
    sym (append-nil (out_bytes run)) ∙ (ap (λ (l : List ℕ). out_bytes run ++ l) (sym (telling.none_answered unlate)) ∙ follows.out) in
    record {
      sound = record { imported = telling.sound.imported; within = telling.sound.within; opened = telling.sound.opened; spelled = telling.sound.spelled };
      follows = record {
        state = follows.state;
        leads = follows.leads;
        later = follows.later;
        took = follows.took;
        answered = follows.answered;
        goes = follows.goes;
        quiet = follows.quiet;
        takes = follows.takes;
        spelled = record { puts = follows.spelled.puts; left = follows.spelled.left; text = follows.spelled.text };
        fed = follows.fed;
        out = follows.out ∙ sym all;
        taken = (drop count old.node.out, told ∙ sym all);
      };
      none_later = telling.none_later;
      none_took = telling.none_took;
      none_answered = telling.none_answered;
    }

-- ---- the instrument made an act more

pub tells_acting : (acts more : List DevEvent) (run : List RunStep) (now : Crossing) → IsTelling acts run now → IsTelling (acts ++ more) run now
tells_acting acts more run now telling =
    let follows = telling.follows in
    record {
      sound = telling.sound;
      follows = record {
        state = follows.state;
        leads = tells_as (IsQuiet acts) (IsQuiet (acts ++ more)) (λ es quiet calm. quiet (calm_front acts more calm)) run start follows.state follows.leads;
        later = follows.later;
        took = follows.took;
        answered = follows.answered;
        goes = follows.goes;
        quiet = λ calm. follows.quiet (calm_front acts more calm);
        takes = follows.takes;
        spelled = follows.spelled;
        fed = follows.fed;
        out = follows.out;
        taken = follows.taken;
      };
      none_later = telling.none_later;
      none_took = telling.none_took;
      none_answered = telling.none_answered;
    }

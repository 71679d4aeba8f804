-- each move leaves less to do
use Rattle.std.proofs.Common.{◌≡◌, ◌∙◌, ◌≢◌, ◌+◌, ◌-◌, ◌^◌, ◌<◌, ◌≤◌, inl, inr, ℕ, zero, suc, true, false, List, [], ◌∷◌, ◌++◌, length, take, drop, Option, Some, None, refl, sym, ap, ap₂, subst, arith, length-append, length-drop, length-take}
use Rattle.std.specs.Prelude.{◌⊎◌}
use Rattle.host_hub.specs.declared.outcome.End.{End}
use Rattle.host_hub.specs.Hand.{ended}
use Rattle.host_hub.specs.Order.{Setting}
use Rattle.host_hub.specs.Record.{Past, next, written}
use Rattle.host_hub.specs.Tied.{spelled}
use Rattle.usbip_wire.specs.Up as up
use Rattle.event_text.specs.declared.event.Event.{Event}
use Rattle.event_text.specs.declared.event.Event.TheVariants as event
use Rattle.tmc_law.specs.declared.dev_event.DevEvent.{DevEvent}
use Rattle.tmc_law.specs.declared.dev_event.DevEvent.TheVariants as device
use Rattle.usbip_export.specs.Seen.{standing}
use Rattle.usbip_export.specs.Events.{AreCalmMoves, IsCalmMove, all, calm_moves}
use Rattle.usbip_export.specs.Work.{weight}
use Rattle.tmc_world.specs.LoopLink.{Acts}
use Rattle.tmc_world.specs.World.{Worldly, outbox, setting_of}
use Rattle.tmc_world.specs.WorldSteps.{GoesDown, GoesUp, IsFirstOpen, MayGoDown, MayGoUp, Moves, NoneOpen, moves}
use Rattle.tmc_world.specs.Rests.{IsLess, Left, GoesOn, left_of, writes_left, steps_of}
use Rattle.tmc_world.proofs.Bounded.{Lessens}
use Rattle.tmc_world.proofs.RestMoves.{Which, Step, Behind, crossings, which}
use Rattle.tmc_world.proofs.RestNumbers.{Fits}
use Rattle.tmc_world.proofs.RestTurns.{IsOver, Over, Sent, Up, WentDown, down_goes, grows, up_goes}

abbrev pub writes_of : Setting → Past → ℕ
writes_of s past = writes_left (ended past) (next s.first past)

over_writes : (s : Setting) (past : Past) (e : End) → ended past ≡ Some e → writes_of s past ≡ 0
over_writes s past e is = ap (λ (o : Option End). writes_left o (next s.first past)) is

runs_writes : (s : Setting) (past : Past) → ended past ≡ None → writes_of s past ≡ 2 ^ 32 - next s.first past + 1
runs_writes s past is = ap (λ (o : Option End). writes_left o (next s.first past)) is

-- A hub that runs goes on. Less is left for it to write, or it runs on and wrote nothing.
abbrev pub GoesLess : Setting → (old new : Past) → Type 0
GoesLess s old new =
    (writes_of s new < writes_of s old) ⊎ ((writes_of s new ≡ writes_of s old) × (written s new ≡ written s old) × (ended new ≡ None))

pub goes_less : (s : Setting) (old new more : Past) → new ≡ more ++ old → ended old ≡ None → next s.first new ≤ 2 ^ 32 → GoesLess s old new
goes_less s old new more is runs fits = by (ended new) refl where
  on : ended new ≡ None
      → ((written s (more ++ old) ≡ written s old) × (next s.first (more ++ old) ≡ next s.first old)) ⊎ (next s.first old < next s.first (more ++ old))
      → GoesLess s old new
  on still (inl (same, number)) =
      let a = runs_writes s old runs in
      let b = runs_writes s new still in
      let c : next s.first new ≡ next s.first old = ap (next s.first) is ∙ number in
      inr (omega (arith, a, b, c), ap (written s) is ∙ same, still)
  on still (inr less) =
      let a = runs_writes s old runs in
      let b = runs_writes s new still in
      let c : next s.first new ≡ next s.first (more ++ old) = ap (next s.first) is in
      inl (omega (arith, a, b, c, less, fits))

  by : (over : Option End) → ended new ≡ over → GoesLess s old new
  by None still = on still (grows s more old)
  by (Some e) over =
      let a = runs_writes s old runs in
      let b = over_writes s new e over in
      inl (omega (arith, a, b))

-- ---- a move of bytes up

shorter : (count : ℕ) (whole sent box out : List ℕ) → 0 < count → box ≡ drop (length sent) whole → box ≢ [] → out ≡ drop (length (sent ++ take count box)) whole
    → length out < length box
shorter count whole sent [] out some is more now = absurd (more refl)
shorter count whole sent (byte ∷ box) out some is more now =
    let a : length out ≡ length whole - length (sent ++ take count (byte ∷ box)) = ap length now ∙ length-drop _ whole in
    let b = length-append sent (take count (byte ∷ box)) in
    let c = length-take count (byte ∷ box) in
    let d : length (byte ∷ box) ≡ length whole - length sent = ap length is ∙ length-drop _ whole in
    omega (arith, a, b, c, d, some)

-- less is left to write, or to send
abbrev pub UpLess : Setting → (old new : Worldly) → Type 0
UpLess s old new =
    (writes_of s new.past < writes_of s old.past) ⊎ ((writes_of s new.past ≡ writes_of s old.past) × (length (outbox s new) < length (outbox s old)))

pub up_less : Fits → (first depth most : ℕ) (old new : Worldly) → first < 2 ^ 32 → GoesUp (setting_of first depth) most old new
    → UpLess (setting_of first depth) old new
up_less fits first depth most old new small goes =
    by (goes_less (setting_of first depth) old.past new.past goes.1.turns.more goes.1.turns.past goes.0.runs
    (fits (setting_of first depth) new.past small goes.1.turns.kept.lawful)) (up_goes (setting_of first depth) most old new goes) where
      by : GoesLess (setting_of first depth) old.past new.past → Up (setting_of first depth) old new → UpLess (setting_of first depth) old new
      by (inl less) went = inl less
      by (inr (same, wrote, runs)) (Over (e, over)) = absurd (none (sym runs ∙ over)) where
        none : {e : End} → None ≡ Some e → ⊥
        none is = cc
      by (inr (same, wrote, runs)) (Sent w) =
          inr (
            same,
            shorter w.count (spelled (written (setting_of first depth) old.past)) old.link.sent (outbox (setting_of first depth) old)
                (outbox (setting_of first depth) new) w.some refl goes.0.some
                (ap₂ (λ (bytes : List ℕ) (all : List ℕ). drop (length bytes) all) w.sent (ap spelled wrote)),
          )

-- ---- a move of bytes down

same_box : (s : Setting) (old new : Worldly) → new.link.sent ≡ old.link.sent → written s new.past ≡ written s old.past → outbox s new ≡ outbox s old
same_box s old new sent wrote = ap₂ (λ (bytes : List ℕ) (all : List ℕ). drop (length bytes) all) sent (ap spelled wrote)

-- what a move down leaves, where the outbox is empty
pub record Down (s : Setting) (old new : Worldly) : Type 0 where
  pub less : IsLess (left_of s new) (left_of s old)
  pub went : WentDown old.link new.link (IsOver new.past)
  -- where something is to be sent behind it, it was written
  pub writes : outbox s new ≢ [] → writes_of s new.past < writes_of s old.past

pub down_less : Fits → (first depth most : ℕ) (old new : Worldly) → first < 2 ^ 32 → old.link.late ≡ false → outbox (setting_of first depth) old ≡ []
    → GoesDown (setting_of first depth) most old new → Down (setting_of first depth) old new
down_less fits first depth most old new small unlate empty goes =
    by (goes_less (setting_of first depth) old.past new.past goes.1.turns.more goes.1.turns.past goes.0.runs
    (fits (setting_of first depth) new.past small goes.1.turns.kept.lawful)) where
      went : WentDown old.link new.link (IsOver new.past)
      went = down_goes (setting_of first depth) most old new empty unlate goes

      fewer : ended new.past ≡ None → IsOver new.past ⊎ (length new.link.node.out < length old.link.node.out) → length new.link.node.out < length old.link.node.out
      fewer runs (inl (e, over)) = absurd (none (sym runs ∙ over)) where
        none : {e : End} → None ≡ Some e → ⊥
        none is = cc
      fewer runs (inr less) = less

      by : GoesLess (setting_of first depth) old.past new.past → Down (setting_of first depth) old new
      by (inl less) = record { less = inl less; went = went; writes = λ more. less }
      by (inr (same, wrote, runs)) =
          let box = same_box (setting_of first depth) old new went.sent wrote in
          record {
            less = inr (same, inr (ap length box, inr (ap weight went.stands, fewer runs went.less)));
            went = went;
            writes = λ more. absurd (more (box ∙ empty));
          }

-- ---- a step of the instrument

pub are_calm : AreCalmMoves calm_moves
are_calm = (tt, (tt, (tt, (tt, (tt, (tt, tt))))))

abbrev step_in : Event → DevEvent
step_in (event.Dev does) = does
step_in _ = device.Exec

calm_step : (s : Setting) (does : DevEvent) (steps : List DevEvent) (world : Worldly) → AreCalmMoves steps → IsFirstOpen s (event.Dev does) (steps_of steps) world
    → IsCalmMove does
calm_step s does [] world calm first = absurd first
calm_step s does (it ∷ steps) world calm (inl (is, opened)) = subst IsCalmMove (sym (ap step_in is)) calm.0
calm_step s does (it ∷ steps) world calm (inr (shut, first)) = calm_step s does steps world calm.1 first

pub step_less : Lessens → (s : Setting) (does : DevEvent) (old new : Worldly) → IsCalmMove does → Moves s (event.Dev does) old new
    → IsLess (left_of s new) (left_of s old)
step_less lessens s does old new calm (past, acts) =
    inr (ap (writes_of s) past, inr (ap length (same_box s old new (ap (λ l. l.sent) acts.is) (ap (written s) past)), inl (lessens does old.link.node new.link.node calm acts.drives)))

-- ---- each move

pub no_box : (s : Setting) (world : Worldly) → ended world.past ≡ None → (MayGoUp s all world → ⊥) → outbox s world ≡ []
no_box s world runs none = by (outbox s world) (λ more. none (record { number = omega arith; runs = runs; some = more })) where
  by : (box : List ℕ) → (box ≢ [] → ⊥) → box ≡ []
  by [] f = refl
  by (byte ∷ box) f = absurd (f (λ e. cc))

pub moves_less : Lessens → Fits → (first depth : ℕ) (move : Event) (old new : Worldly) → first < 2 ^ 32 → old.link.late ≡ false
    → IsFirstOpen (setting_of first depth) move moves old → Moves (setting_of first depth) move old new
    → IsLess (left_of (setting_of first depth) new) (left_of (setting_of first depth) old)
moves_less lessens fits first depth move old new small unlate opened goes = by (which s move calm_moves crossings old opened) where
  s : Setting
  s = setting_of first depth

  behind : IsFirstOpen s move crossings old → IsLess (left_of s new) (left_of s old)
  behind (inl (is, may)) = as_less (up_less fits first depth all old new small (subst (λ (m : Event). Moves s m old new) is goes)) where
    as_less : UpLess s old new → IsLess (left_of s new) (left_of s old)
    as_less (inl less) = inl less
    as_less (inr (same, less)) = inr (same, inl less)
  behind (inr (none, inl (is, may))) =
      (down_less fits first depth all old new small unlate (no_box s old may.runs none) (subst (λ (m : Event). Moves s m old new) is goes)).less
  behind (inr (none, inr (shut, never))) = absurd never

  by : Which s move calm_moves crossings old → IsLess (left_of s new) (left_of s old)
  by (Step does is it) =
      step_less lessens s does old new (calm_step s does calm_moves old are_calm (subst (λ (m : Event). IsFirstOpen s m (steps_of calm_moves) old) is it))
      (subst (λ (m : Event). Moves s m old new) is goes)
  by (Behind none it) = behind it

-- ---- no moves without an end

-- what holds where it holds of all that have less of this holds of all
strongly : (P : ℕ → Type 0) (f : ℕ → ℕ) → ((n : ℕ) → ((m : ℕ) → f m < f n → P m) → P n) → (n : ℕ) → P n
strongly P f step n = by (suc (f n)) n (omega arith) where
  by : (k m : ℕ) → f m < k → P m
  by zero m less = absurd (none less) where
    none : f m < zero → ⊥
    none l = omega (arith, l)
  by (suc k) m less = step m (λ j fewer. by k j (omega (arith, less, fewer)))

pub no_descent : (left : ℕ → Left) → ((n : ℕ) → IsLess (left (suc n)) (left n)) → ℕ → ⊥
no_descent left less = strongly (λ n. ⊥) (λ n. (left n).writes) at where
  at : (n : ℕ) → ((m : ℕ) → (left m).writes < (left n).writes → ⊥) → ⊥
  at n fewer_writes =
      strongly (λ i. (left i).writes ≡ (left n).writes → ⊥) (λ i. (left i).unsent) unsent n refl where
        unsent : (i : ℕ) → ((j : ℕ) → (left j).unsent < (left i).unsent → (left j).writes ≡ (left n).writes → ⊥) → (left i).writes ≡ (left n).writes → ⊥
        unsent i fewer_unsent =
            strongly (λ j. (left j).unsent ≡ (left i).unsent → (left j).writes ≡ (left n).writes → ⊥) (λ j. (left j).work) work i refl where
              work : (j : ℕ) → ((k : ℕ) → (left k).work < (left j).work → (left k).unsent ≡ (left i).unsent → (left k).writes ≡ (left n).writes → ⊥)
                  → (left j).unsent ≡ (left i).unsent → (left j).writes ≡ (left n).writes → ⊥
              work j less_work =
                  strongly (λ k. (left k).work ≡ (left j).work → (left k).unsent ≡ (left i).unsent → (left k).writes ≡ (left n).writes → ⊥)
                  (λ k. (left k).untaken) untaken j refl where
                    untaken : (k : ℕ) → ((l : ℕ) → (left l).untaken < (left k).untaken → (left l).work ≡ (left j).work → (left l).unsent ≡ (left i).unsent
                        → (left l).writes ≡ (left n).writes → ⊥)
                        → (left k).work ≡ (left j).work → (left k).unsent ≡ (left i).unsent → (left k).writes ≡ (left n).writes → ⊥
                    untaken k fewer_untaken a b c = next (less k) where
                      next : IsLess (left (suc k)) (left k) → ⊥
                      next (inl w) = fewer_writes (suc k) (subst (λ x. (left (suc k)).writes < x) c w)
                      next (inr (d, inl u)) = fewer_unsent (suc k) (subst (λ x. (left (suc k)).unsent < x) b u) (d ∙ c)
                      next (inr (d, inr (e, inl w))) = less_work (suc k) (subst (λ x. (left (suc k)).work < x) a w) (e ∙ b) (d ∙ c)
                      next (inr (d, inr (e, inr (f, t)))) = fewer_untaken (suc k) t (f ∙ a) (e ∙ b) (d ∙ c)

pub none_goes_on : Lessens → Fits → (first depth : ℕ) (worlds : ℕ → Worldly) → first < 2 ^ 32 → GoesOn (setting_of first depth) worlds → ⊥
none_goes_on lessens fits first depth worlds small on =
    no_descent (λ n. left_of (setting_of first depth) (worlds n)) (λ n. by n (on n)) 0 where
      by : (n : ℕ) → ((worlds n).link.late ≡ false) × (move : Event) × IsFirstOpen (setting_of first depth) move moves (worlds n)
          × Moves (setting_of first depth) move (worlds n) (worlds (suc n))
          → IsLess (left_of (setting_of first depth) (worlds (suc n))) (left_of (setting_of first depth) (worlds n))
      by n (unlate, move, opened, goes) = moves_less lessens fits first depth move (worlds n) (worlds (suc n)) small unlate opened goes

-- a node that is fed, and whose answers are sent
use Rattle.std.proofs.Common.{◌≡◌, ◌∙◌, ℕ, Bool, true, false, List, [], ◌∷◌, ◌++◌, take, drop, None, refl, sym, ap, subst, append_assoc, append-nil}
use Rattle.std.proofs.lemmas.List.{take-append-drop}
use Rattle.tmc_law.specs.State.{State, Presence, Plugged, Unplugged, Closed}
use Rattle.tmc_law.specs.Run.{Entry, Runs}
use Rattle.tmc_device.specs.Seen.{is_closed}
use Rattle.usbip_export.specs.declared.body.Body.{Body}
use Rattle.usbip_export.specs.Seen.{Seen, standing, closed_by}
use Rattle.usbip_export.specs.TakenIn.{Serves, TakenIn, Asked, Failed, Imported, Served, Moves}
use Rattle.usbip_export.specs.Serving.{Works, WorksBy}
use Rattle.usbip_export.specs.Steps.{steps_of, MovesBy}
use Rattle.usbip_export.specs.Body.{held_back, kept_of, seen_of, IsOpen}
use Rattle.usbip_export.proofs.More.{taken_more, steps_more, standing_same}

-- nothing that a contract of taking in sees has changed
pub record IsSame (old new : Seen) : Type 0 where
  pub imported : new.imported ≡ old.imported
  pub refused : new.refused ≡ old.refused
  pub state : new.state ≡ old.state
  pub puts : new.puts ≡ old.puts

same_taken : (old new : Seen) → IsSame old new → (taken : TakenIn [] [] old new) × (steps_of taken ≡ [])
same_taken old new same = by old.imported refl where
  by : (imported : Bool) → old.imported ≡ imported → (taken : TakenIn [] [] old new) × (steps_of taken ≡ [])
  by true was = (
    Served was (same.imported ∙ was) (record {
      run = [];
      goes = standing_same old new same.state same.refused;
      takes = refl;
      spelled = record { puts = []; left = append-nil old.puts ∙ sym same.puts; text = refl };
    }),
    refl,
  )
  by false was = (Asked [] was (same.imported ∙ was) same.refused refl tt refl (record { state = same.state; puts = same.puts }), refl)

-- the node with these bytes more to take in
pub record IsFed (old mid : Seen) (piece : List ℕ) : Type 0 where
  pub same : IsSame old mid
  pub kept : mid.kept ≡ old.kept ++ piece
  pub out : mid.out ≡ old.out

pub fed_works : (Only : List Entry → Type 0) (old mid new : Seen) (piece : List ℕ) → IsFed old mid piece → mid.refused ≡ None → MovesBy Only mid new
    → WorksBy Only piece [] old new
fed_works Only old mid new piece fed unshut made =
    let moves = made.moves in
    let same = same_taken old mid fed.same in
    record {
      works = record {
        took = moves.took;
        answered = moves.answered;
        kept = sym fed.kept ∙ moves.kept;
        taken = taken_more [] moves.took [] moves.answered old mid new unshut same.0 moves.taken;
        out = ap (λ (l : List ℕ). l ++ moves.answered) (sym fed.out) ∙ sym moves.out;
      };
      only =
          subst Only
          (sym (steps_more [] moves.took [] moves.answered old mid new unshut same.0 moves.taken
          ∙ ap (λ (run : List Entry). run ++ steps_of moves.taken) same.1)) made.only;
    }

-- a body with more bytes that were fed and not read
pub body_fed : (old mid : Body) (piece : List ℕ) → IsOpen old → mid ≡ record old { late = mid.late } → mid.late.items ≡ old.late.items ++ piece
    → IsFed (seen_of old) (seen_of mid) piece
body_fed old mid piece opened is late =
    subst (λ (b : Body). IsFed (seen_of old) (seen_of b) piece) (sym is) (record {
      same = record { imported = refl; refused = refl; state = refl; puts = refl };
      kept =
          ap (λ r. kept_of r old.waiting old.reader mid.late.items) opened.unrefused
          ∙ (ap (λ (l : List ℕ). held_back old.waiting old.reader ++ l) late
          ∙ (sym (append_assoc (held_back old.waiting old.reader) old.late.items piece)
          ∙ ap (λ r. kept_of r old.waiting old.reader old.late.items ++ piece) (sym opened.unrefused)));
      out = refl;
    })

pub moves_works : (old new : Seen) → Moves old new → Works [] [] old new
moves_works old new moves = record {
  took = moves.took;
  answered = moves.answered;
  kept = append-nil old.kept ∙ moves.kept;
  taken = moves.taken;
  out = sym moves.out;
}

pub moves_by : (Only : List Entry → Type 0) (old new : Seen) → MovesBy Only old new → WorksBy Only [] [] old new
unfolding moves_works
moves_by Only old new made = record { works = moves_works old new made.moves; only = made.only }

pub sent_by : (Only : List Entry → Type 0) → Only [] → (old : Seen) (n : ℕ) → WorksBy Only [] (take n old.out) old (record old { out = drop n old.out })
sent_by Only none old n =
    let same = same_taken old (record old { out = drop n old.out }) (record { imported = refl; refused = refl; state = refl; puts = refl }) in
    record {
      works = record {
        took = [];
        answered = [];
        kept = append-nil old.kept;
        taken = same.0;
        out = append-nil old.out ∙ sym (take-append-drop n old.out);
      };
      only = subst Only (sym same.1) none;
    }

pub sent_works : (old : Seen) (n : ℕ) → Works [] (take n old.out) old (record old { out = drop n old.out })
sent_works old n = (sent_by (λ run. Unit {0}) tt old n).works

pub nothing_by : (Only : List Entry → Type 0) → Only [] → (old : Seen) → WorksBy Only [] [] old old
nothing_by Only none old =
    let same = same_taken old old (record { imported = refl; refused = refl; state = refl; puts = refl }) in
    record {
      works = record { took = []; answered = []; kept = append-nil old.kept; taken = same.0; out = append-nil old.out };
      only = subst Only (sym same.1) none;
    }

pub no_works : (old : Seen) → Works [] [] old old
no_works old = (nothing_by (λ run. Unit {0}) tt old).works

pub works_more : (a b x y : List ℕ) (old mid new : Seen) → mid.refused ≡ None → Works a x old mid → Works b y mid new → Works (a ++ b) (x ++ y) old new
works_more a b x y old mid new unshut first second = record {
  took = first.took ++ second.took;
  answered = first.answered ++ second.answered;
  kept =
      sym (append_assoc old.kept a b)
      ∙ (ap (λ (l : List ℕ). l ++ b) first.kept
      ∙ (append_assoc first.took mid.kept b
      ∙ (ap (λ (l : List ℕ). first.took ++ l) second.kept ∙ sym (append_assoc first.took second.took new.kept))));
  taken = taken_more first.took second.took first.answered second.answered old mid new unshut first.taken second.taken;
  out =
      sym (append_assoc old.out first.answered second.answered)
      ∙ (ap (λ (l : List ℕ). l ++ second.answered) first.out
      ∙ (append_assoc x mid.out second.answered
      ∙ (ap (λ (l : List ℕ). x ++ l) second.out ∙ sym (append_assoc x y new.out))));
}

pub both_by : (First Second Both : List Entry → Type 0) → ((a b : List Entry) → First a → Second b → Both (a ++ b)) → (a b x y : List ℕ)
    (old mid new : Seen) → mid.refused ≡ None → WorksBy First a x old mid → WorksBy Second b y mid new → WorksBy Both (a ++ b) (x ++ y) old new
unfolding works_more
both_by First Second Both both a b x y old mid new unshut first second =
    let before = first.works in
    let behind = second.works in
    record {
      works = works_more a b x y old mid new unshut before behind;
      only =
          subst Both
          (sym (steps_more before.took behind.took before.answered behind.answered old mid new unshut before.taken behind.taken))
          (both (steps_of before.taken) (steps_of behind.taken) first.only second.only);
    }

-- ---- a closed node stays closed

pub runs_closed : (run : List Entry) (s t : State) → is_closed s.presence ≡ true → Runs s run t → t ≡ s
runs_closed [] s t shut goes = goes
runs_closed (entry ∷ run) s t shut goes = absurd (clash (sym shut ∙ ap is_closed goes.1.plugged)) where
  clash : true ≡ false → ⊥
  clash e = cc

serves_closed : (took answered : List ℕ) (old new : Seen) → is_closed (standing old).presence ≡ true → Serves took answered old new
    → is_closed (standing new).presence ≡ true
serves_closed took answered old new shut serves =
    ap (λ (s : State). is_closed s.presence) (runs_closed serves.run (standing old) (standing new) shut serves.goes) ∙ shut

pub stays_closed : (took answered : List ℕ) (old new : Seen) → is_closed (standing old).presence ≡ true → TakenIn took answered old new
    → is_closed (standing new).presence ≡ true
stays_closed took answered old new shut (Asked rs was is same row none says untouched) =
    ap (λ (s : State). is_closed s.presence) (standing_same old new untouched.state same) ∙ shut
stays_closed took answered old new shut (Failed rs front rest f was is good bad cut row none field says untouched) =
    ap (λ r. is_closed (closed_by r new.state).presence) bad
stays_closed took answered old new shut (Imported rs front request rest behind was is cut row none asks begins says serves) =
    serves_closed rest behind old new shut serves
stays_closed took answered old new shut (Served was is serves) = serves_closed took answered old new shut serves

-- ---- a body takes bytes in exactly where what contracts see is not closed

pub closed_presence : (presence : Presence) → is_closed presence ≡ false → presence ≡ Plugged
closed_presence Plugged shut = refl
closed_presence Unplugged shut = cc
closed_presence (Closed f) shut = cc

-- ---- whether memory was wanting is no matter of what was taken in

taken_wanting : (a x : List ℕ) (old new : Seen) (wanting : Bool) (taken : TakenIn a x old new)
    → (after : TakenIn a x old (record new { wanting = wanting })) × (steps_of after ≡ steps_of taken)
taken_wanting a x old new wanting (Asked rs was is same row none says untouched) = (
  Asked rs was is same row none says (record { state = untouched.state; puts = untouched.puts }),
  refl,
)
taken_wanting a x old new wanting (Failed rs front rest f was is good bad cut row none field says untouched) = (
  Failed rs front rest f was is good bad cut row none field says (record { state = untouched.state; puts = untouched.puts }),
  refl,
)
taken_wanting a x old new wanting (Imported rs front request rest behind was is cut row none asks begins says serves) = (
  Imported rs front request rest behind was is cut row none asks begins says
      (record { run = serves.run; goes = serves.goes; takes = serves.takes; spelled = serves.spelled }),
  refl,
)
taken_wanting a x old new wanting (Served was is serves) = (
  Served was is (record { run = serves.run; goes = serves.goes; takes = serves.takes; spelled = serves.spelled }),
  refl,
)

pub wanting_by : (Only : List Entry → Type 0) (old new : Seen) (wanting : Bool) → MovesBy Only old new → MovesBy Only old (record new { wanting = wanting })
wanting_by Only old new wanting made =
    let moves = made.moves in
    let after = taken_wanting moves.took moves.answered old new wanting moves.taken in
    record {
      moves = record {
        took = moves.took;
        answered = moves.answered;
        kept = moves.kept;
        taken = after.0;
        out = moves.out;
      };
      only = subst Only (sym after.1) made.only;
    }

-- what one message, one refusal or some spelling does to a node
use Rattle.std.proofs.Common.{◌≡◌, ◌≢◌, ◌∙◌, ℕ, ◌<◌, true, false, List, [], ◌∷◌, ◌++◌, length, Some, None, refl, sym, ap, subst, append-nil, append_assoc, length-append, arith}
use Rattle.tmc_base.specs.declared.field.Field.{Field}
use Rattle.usbip_wire.specs.declared.op_request.OpRequest.{OpRequest}
use Rattle.usbip_wire.specs.declared.op_request.OpRequest.TheVariants.{DevList, Import}
use Rattle.usbip_wire.specs.declared.up.UpPhase.TheVariants.{Ops}
use Rattle.usbip_wire.specs.OpRequest.{SpellsRequest}
use Rattle.usbip_wire.specs.Up as up
use Rattle.usbip_wire.specs.UpFed.{BadAt}
use Rattle.tmc_law.specs.State.{State, Plugged, Closed, start}
use Rattle.tmc_law.specs.Put.{Put}
use Rattle.tmc_law.specs.Step.{Comes, Refuses, Steps, IsRefused}
use Rattle.tmc_law.specs.Run.{Entry, Runs, outputs, SpellAll, SpellsPut}
use Rattle.tmc_device.specs.Seen.{Makes}
use Rattle.usbip_export.specs.Identity.{busid, devid}
use Rattle.usbip_export.specs.Operations.{device_list, import_done, import_failed, ImportNone, replies}
use Rattle.usbip_export.specs.Seen.{Seen, standing, closed_by}
use Rattle.usbip_export.specs.TakenIn.{IsSpelled, SpellsOff, Serves, IsUntouched, TakenIn, Asked, Failed, Imported, Served}
use Rattle.usbip_export.specs.Steps.{steps_of, AreArrivals, MovesBy}
use Rattle.usbip_export.proofs.Joined.{spelled_more}
use Rattle.usbip_export.proofs.More.{standing_same, serves_from, nothing_served}

pub standing_open : (s : Seen) → s.refused ≡ None → standing s ≡ s.state
standing_open s unshut = ap (λ r. closed_by r s.state) unshut

pub shorter : (bytes before after : List ℕ) → before ≡ bytes ++ after → 0 < length bytes → length after < length before
shorter bytes before after is some = omega (arith, some, ap length is, length-append bytes after)

pub admitted : (old new : Seen) (message : up.Message) (bytes : List ℕ) → old.imported ≡ true → new.imported ≡ true → old.refused ≡ None
    → new.refused ≡ None → old.kept ≡ bytes ++ new.kept → up.Spells devid message bytes
    → Makes (Comes message) (record { state = old.state; puts = old.puts }) (record { state = new.state; puts = new.puts })
    → new.out ≡ old.out → MovesBy AreArrivals old new
admitted old new message bytes was is good still cut spells made out = record {
  moves = record {
    took = bytes;
    answered = [];
    kept = cut;
    taken = Served was is (record {
      run = record { move = Comes message; puts = made.puts } ∷ [];
      goes = (
        new.state,
        subst (λ (s : State). Steps s (Comes message) made.puts new.state) (sym (standing_open old good)) made.steps,
        standing_open new still,
      );
      takes = (bytes, [], sym (append-nil bytes), spells, refl);
      spelled = record { puts = []; left = ap (λ (ps : List Put). old.puts ++ ps) (append-nil made.puts) ∙ sym made.joins; text = refl };
    });
    out = out ∙ sym (append-nil old.out);
  };
  only = (tt, tt);
}

pub asked : (old new : Seen) (request : OpRequest) (bytes : List ℕ) → old.imported ≡ false → new.imported ≡ false
    → new.refused ≡ old.refused → old.kept ≡ bytes ++ new.kept → SpellsRequest request bytes → ImportNone (request ∷ [])
    → IsUntouched old new → new.out ≡ old.out ++ replies (request ∷ []) → MovesBy AreArrivals old new
asked old new request bytes was is same cut spells none untouched out = record {
  moves = record {
    took = bytes;
    answered = replies (request ∷ []);
    kept = cut;
    taken = Asked (request ∷ []) was is same (bytes, [], sym (append-nil bytes), spells, refl) none refl untouched;
    out = out;
  };
  only = tt;
}

pub asked_list : (old new : Seen) (bytes : List ℕ) → old.imported ≡ false → new.imported ≡ false
    → new.refused ≡ old.refused → old.kept ≡ bytes ++ new.kept → SpellsRequest DevList bytes
    → IsUntouched old new → new.out ≡ old.out ++ device_list → MovesBy AreArrivals old new
asked_list old new bytes was is same cut spells untouched out =
    asked old new DevList bytes was is same cut spells tt untouched (out ∙ ap (λ (l : List ℕ). old.out ++ l) (sym (append-nil device_list)))

pub asked_other : (old new : Seen) (id bytes : List ℕ) → old.imported ≡ false → new.imported ≡ false
    → new.refused ≡ old.refused → old.kept ≡ bytes ++ new.kept → SpellsRequest (Import id) bytes → id ≢ busid
    → IsUntouched old new → new.out ≡ old.out ++ import_failed → MovesBy AreArrivals old new
asked_other old new id bytes was is same cut spells other untouched out =
    asked old new (Import id) bytes was is same cut spells (other, tt) untouched
    (out ∙ ap (λ (l : List ℕ). old.out ++ l) (sym (append-nil import_failed)))

pub imported_now : (old new : Seen) (id bytes : List ℕ) → old.imported ≡ false → new.imported ≡ true → new.refused ≡ old.refused
    → old.kept ≡ bytes ++ new.kept → SpellsRequest (Import id) bytes → id ≡ busid → standing old ≡ start
    → IsUntouched old new → new.out ≡ old.out ++ import_done → MovesBy AreArrivals old new
unfolding serves_from nothing_served
imported_now old new id bytes was is same cut spells own begins untouched out = record {
  moves = record {
    took = bytes;
    answered = import_done ++ [];
    kept = cut;
    taken =
        Imported [] [] bytes [] [] was is (sym (append-nil bytes)) refl tt (subst (λ (i : List ℕ). SpellsRequest (Import i) bytes) own spells) begins refl
        (serves_from [] [] old new new untouched same (nothing_served new));
    out = out ∙ ap (λ (l : List ℕ). old.out ++ l) (sym (append-nil import_done));
  };
  only = tt;
}

-- a field of what was fed, or what is pending, closes the node
pub closed_at : (old new : Seen) (f : Field) → old.imported ≡ true → new.imported ≡ true → old.refused ≡ None → new.refused ≡ Some f
    → new.kept ≡ [] → old.state.presence ≡ Plugged → IsRefused devid old.state old.kept f → IsUntouched old new → new.out ≡ old.out
    → MovesBy AreArrivals old new
closed_at old new f was is good bad none plugged refuses same out =
    let before : standing old ≡ old.state = standing_open old good in
    let after : standing new ≡ record old.state { presence = Closed f } =
    ap (λ r. closed_by r new.state) bad ∙ ap (λ (s : State). record s { presence = Closed f }) same.state in
    let step : Steps old.state (Refuses devid old.kept f) [] (record old.state { presence = Closed f }) =
    record { plugged = plugged; leads = (refuses, refl, refl) } in
    record {
      moves = record {
        took = old.kept;
        answered = [];
        kept = sym (append-nil old.kept) ∙ ap (λ (l : List ℕ). old.kept ++ l) (sym none);
        taken = Served was is (record {
          run = record { move = Refuses devid old.kept f; puts = [] } ∷ [];
          goes = (
            record old.state { presence = Closed f },
            subst (λ (s : State). Steps s (Refuses devid old.kept f) [] (record old.state { presence = Closed f })) (sym before) step,
            after,
          );
          takes = (old.kept, [], sym (append-nil old.kept), (refl, refl), refl);
          spelled = record { puts = []; left = append-nil old.puts ∙ sym same.puts; text = refl };
        });
        out = out ∙ sym (append-nil old.out);
      };
      only = (tt, tt);
    }

-- a field of an operation does
pub failed_at : (old new : Seen) (f : Field) → old.imported ≡ false → new.imported ≡ false → old.refused ≡ None → new.refused ≡ Some f
    → new.kept ≡ [] → BadAt Ops old.kept f → IsUntouched old new → new.out ≡ old.out → MovesBy AreArrivals old new
failed_at old new f was is good bad none field same out = record {
  moves = record {
    took = old.kept;
    answered = [];
    kept = sym (append-nil old.kept) ∙ ap (λ (l : List ℕ). old.kept ++ l) (sym none);
    taken = Failed [] [] old.kept f was is good bad refl refl tt field refl same;
    out = out ∙ sym (append-nil old.out);
  };
  only = tt;
}

pub no_puts : (puts after : List Put) → [] ≡ puts ++ after → (puts ≡ []) × (after ≡ [])
no_puts [] after is = (refl, sym is)
no_puts (put ∷ puts) after is = cc

-- only answers were spelled
pub record IsSpelling (mid new : Seen) : Type 0 where
  pub imported : new.imported ≡ mid.imported
  pub refused : new.refused ≡ mid.refused
  pub kept : new.kept ≡ mid.kept
  pub state : new.state ≡ mid.state
  pub fresh : mid.imported ≡ false → mid.puts ≡ []
  pub off : SpellsOff mid.puts new.puts mid.out new.out

-- before an import there are none
pub record IsSilent (mid new : Seen) (answered : List ℕ) : Type 0 where
  pub quiet : answered ≡ []
  pub puts : new.puts ≡ mid.puts

silent : (mid new : Seen) (spelling : IsSpelling mid new) → mid.imported ≡ false → IsSilent mid new spelling.off.answered
silent mid new spelling was =
    let none : IsSpelled [] spelling.off.answered new.puts =
    subst (λ (ps : List Put). IsSpelled ps spelling.off.answered new.puts) (spelling.fresh was) spelling.off.spelled in
    let nothing = no_puts none.puts new.puts none.left in
    record {
      quiet = subst (λ (ps : List Put). SpellAll SpellsPut ps spelling.off.answered) nothing.0 none.text;
      puts = nothing.1 ∙ sym (spelling.fresh was);
    }

-- a run whose answers were spelled further
serves_spelled : (a x : List ℕ) (old mid new : Seen) (spelling : IsSpelling mid new) → Serves a x old mid
    → Serves a (x ++ spelling.off.answered) old new
serves_spelled a x old mid new spelling serves = record {
  run = serves.run;
  goes = subst (λ (t : State). Runs (standing old) serves.run t) (sym (standing_same mid new spelling.state spelling.refused)) serves.goes;
  takes = serves.takes;
  spelled =
      subst (λ (ps : List Put). IsSpelled ps (x ++ spelling.off.answered) new.puts) (append-nil (old.puts ++ outputs serves.run))
      (spelled_more (old.puts ++ outputs serves.run) [] mid.puts new.puts x spelling.off.answered serves.spelled
      (subst (λ (ps : List Put). IsSpelled ps spelling.off.answered new.puts) (sym (append-nil mid.puts)) spelling.off.spelled));
}

-- the same steps were made
taken_spelled : (a x : List ℕ) (old mid new : Seen) (spelling : IsSpelling mid new) (taken : TakenIn a x old mid)
    → (after : TakenIn a (x ++ spelling.off.answered) old new) × (steps_of after ≡ steps_of taken)
unfolding serves_spelled
taken_spelled a x old mid new spelling (Asked rs was is same row none says untouched) =
    let none-said = silent mid new spelling is in (
      Asked rs was (spelling.imported ∙ is) (spelling.refused ∙ same) row none
          (ap (λ (l : List ℕ). x ++ l) none-said.quiet ∙ (append-nil x ∙ says))
          (record { state = spelling.state ∙ untouched.state; puts = none-said.puts ∙ untouched.puts }),
      refl,
    )
taken_spelled a x old mid new spelling (Failed rs front rest f was is good bad cut row none field says untouched) =
    let none-said = silent mid new spelling is in (
      Failed rs front rest f was (spelling.imported ∙ is) good (spelling.refused ∙ bad) cut row none field
          (ap (λ (l : List ℕ). x ++ l) none-said.quiet ∙ (append-nil x ∙ says))
          (record { state = spelling.state ∙ untouched.state; puts = none-said.puts ∙ untouched.puts }),
      refl,
    )
taken_spelled a x old mid new spelling (Imported rs front request rest behind was is cut row none asks begins says serves) = (
  Imported rs front request rest (behind ++ spelling.off.answered) was (spelling.imported ∙ is) cut row none asks begins
      (ap (λ (l : List ℕ). l ++ spelling.off.answered) says
      ∙ (append_assoc (replies rs) (import_done ++ behind) spelling.off.answered
      ∙ ap (λ (l : List ℕ). replies rs ++ l) (append_assoc import_done behind spelling.off.answered)))
      (serves_spelled rest behind old mid new spelling serves),
  refl,
)
taken_spelled a x old mid new spelling (Served was is serves) = (
  Served was (spelling.imported ∙ is) (serves_spelled a x old mid new spelling serves),
  refl,
)

pub spelled_by : (Only : List Entry → Type 0) (old mid new : Seen) → MovesBy Only old mid → IsSpelling mid new → MovesBy Only old new
spelled_by Only old mid new made spelling =
    let moves = made.moves in
    let after = taken_spelled moves.took moves.answered old mid new spelling moves.taken in
    record {
      moves = record {
        took = moves.took;
        answered = moves.answered ++ spelling.off.answered;
        kept = moves.kept ∙ ap (λ (l : List ℕ). moves.took ++ l) (sym spelling.kept);
        taken = after.0;
        out =
            spelling.off.out
            ∙ (ap (λ (l : List ℕ). l ++ spelling.off.answered) moves.out ∙ append_assoc old.out moves.answered spelling.off.answered);
      };
      only = subst Only (sym after.1) made.only;
    }

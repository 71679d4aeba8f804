use Rattle.std.proofs.Common.{◌≡◌, ◌∙◌, ℕ, List, [], ◌∷◌, ◌++◌, take, drop, codes, Some, None, inl, inr, refl, ap, sym, append-nil}
use Rattle.tmc_base.specs.declared.run_step.RunStep.{RunStep}
use Rattle.usbip_wire.specs.declared.ret_unlink.RetUnlinkHead.{RetUnlinkHead}
use Rattle.usbip_wire.specs.Up as up
use Rattle.usbip_wire.specs.Down as down
use Rattle.tmc_law.specs.State.{State}
use Rattle.tmc_law.specs.Put.{Put, Submitted, Unlinked, success, unlinked}
use Rattle.tmc_law.specs.Laws.{message_of}
use Rattle.tmc_law.specs.Run.{Runs, SpellsPut}
use Rattle.tmc_law.specs.Told.{Tells}
use Rattle.tmc_law.specs.WorkedParts.{spaced}
use Rattle.tmc_law.specs.WorkedQuery.{identity}
use Rattle.tmc_law.specs.WorkedSession.{devid, in_submit, unlink}
use Rattle.tmc_law.specs.WorkedTold.{takes_in, puts_out}
use Rattle.host_joint.specs.Bond.{Read}
use Rattle.host_joint.specs.Hits.{TellsHit, JoinedTelling}
use Rattle.host_joint.specs.WorkedTies.{queried}
use Rattle.host_joint.specs.WorkedPieces.{first_data, requested_second, reading_second}
use Rattle.host_joint.specs.WorkedRecoveries.{reading_rest, cancelling_second, cancelled_inside}
use Rattle.host_joint.proofs.Stopping.{cancels_second, missing, misses}
use Rattle.host_joint.proofs.worked_links.worked_cancels_are_joined.Goals as goal

pub returns-clause-cancels : goal.returns-clause-cancels
returns-clause-cancels c text more spelled unlinks =
    let joint = c.worked_pieces_are_joined.ensures.reads text spelled in (
      c.writes_keep_joints.ensures.cancel devid reading_second (Some (in_submit 6 4096)) 7 reading_rest (Some (in_submit 6 4096)) (unlink 7 6 ∷ []) 8 (up.Unlink (unlink 7 6)) more text [] [] requested_second unlinks
          (λ ups downs tie. c.cancels_begin.ensures.unlink 2 spaced 4 4000 first_data [] (in_submit 6 4096) (unlink 7 6) 7 ups downs requested_second refl refl tie) joint,
      c.writes_keep_joints_until_unplugged.ensures.cancel devid reading_second (Some (in_submit 6 4096)) 7 reading_rest (Some (in_submit 6 4096)) (unlink 7 6 ∷ []) 8 (up.Unlink (unlink 7 6)) more text [] [] requested_second unlinks
          (λ ups downs s tie. c.cancels_begin.ensures.unlink 2 spaced 4 4000 first_data [] (in_submit 6 4096) (unlink 7 6) 7 ups downs s refl refl tie)
          (c.joints_stay_until_unplugged.ensures.begins devid reading_second (Some (in_submit 6 4096)) 7 text [] [] requested_second joint),
    )

-- the read comes and its piece begins; then the unlink comes, and is answered
steps_hit : (text more bytes : List ℕ) (one : State) → Runs requested_second (take 2 cancelling_second) one → Runs one (drop 2 cancelling_second) cancelled_inside → up.Spells devid (up.Submit (in_submit 6 4096) []) text
    → up.Spells devid (up.Unlink (unlink 7 6)) more → SpellsPut (Unlinked (unlink 7 6) (record { seqnum = 7; status = unlinked })) bytes
    → Tells devid requested_second (takes_in text ∷ record { took = more; put = bytes } ∷ []) cancelled_inside
steps_hit text more bytes one first second spelled unlinks put = (
  one,
  record { run = take 2 cancelling_second; goes = first; took = (text, [], sym (append-nil text), spelled, ([], [], refl, refl, refl)); put = refl },
  (
    cancelled_inside,
    record { run = drop 2 cancelling_second; goes = second; took = (more, [], sym (append-nil more), unlinks, refl); put = (bytes, [], sym (append-nil bytes), put, refl) },
    refl,
  ),
)

pub returns-clause-hit : goal.returns-clause-hit
returns-clause-hit c text more bytes spelled unlinks put =
    let split = c.runs_join.ensures.apart (take 2 cancelling_second) (drop 2 cancelling_second) requested_second cancelled_inside cancels_second in
    let steps : List RunStep = takes_in text ∷ record { took = more; put = bytes } ∷ [] in
    let begins = c.joints_tell_hits.ensures.begins devid reading_second (Some (in_submit 6 4096)) 7 reading_rest (unlink 7 6 ∷ []) 8 (up.Unlink (unlink 7 6)) more text [] [] requested_second unlinks
    (λ ups downs s tie. c.cancels_begin.ensures.unlink 2 spaced 4 4000 first_data [] (in_submit 6 4096) (unlink 7 6) 7 ups downs s refl refl tie)
    (c.joints_stay_until_unplugged.ensures.begins devid reading_second (Some (in_submit 6 4096)) 7 text [] [] requested_second (c.worked_pieces_are_joined.ensures.reads text spelled)) in
    let joint = c.joints_tell_hits.ensures.stay devid reading_rest (Some (in_submit 6 4096)) (unlink 7 6 ∷ []) 8 (text ++ more) [] [] steps requested_second cancelled_inside (inr refl) refl
    (steps_hit text more bytes split.0 split.1 split.2 spelled unlinks put) ([], sym (append-nil (text ++ (more ++ [])) ∙ ap (λ (l : List ℕ). text ++ l) (append-nil more))) begins in
    c.joints_tell_hits.ensures.answer devid reading_rest (Some (in_submit 6 4096)) (unlink 7 6 ∷ []) 8 (text ++ more) [] bytes [] (down.RetUnlink (record { seqnum = 7; status = unlinked })) steps cancelled_inside ((λ e. cc), tt) joint refl
    (refl, put)

steps_missed : (text bytes : List ℕ) → up.Spells devid (up.Unlink (unlink 4 3)) text → SpellsPut (Unlinked (unlink 4 3) (record { seqnum = 4; status = success })) bytes
    → Tells devid queried (record { took = text; put = bytes } ∷ []) queried
steps_missed text bytes unlinks put = (
  queried,
  record { run = missing; goes = misses; took = (text, [], sym (append-nil text), unlinks, refl); put = (bytes, [], sym (append-nil bytes), put, refl) },
  refl,
)

pub returns-clause-missed : goal.returns-clause-missed
returns-clause-missed c text bytes unlinks put =
    let steps : List RunStep = record { took = text; put = bytes } ∷ [] in
    let before : JoinedTelling devid (Read 1 (codes "*IDN?") identity) None (unlink 4 3 ∷ []) 5 text [] [] queried = record {
      coming = text;
      ups = up.Unlink (unlink 4 3) ∷ [];
      sent = refl;
      spelled = (text, [], sym (append-nil text), unlinks, refl);
      behind = [];
      downs = [];
      given = refl;
      put = refl;
      accepted = λ f e. cc;
      tie = (inl c.worked_cancels_are_bound.ensures.complete.0, tt);
    } in
    let joint = c.joints_tell_hits.ensures.stay devid (Read 1 (codes "*IDN?") identity) None (unlink 4 3 ∷ []) 5 text [] [] steps queried queried tt tt
    (steps_missed text bytes unlinks put) ([], sym (append-nil (text ++ []) ∙ append-nil text)) before in
    c.joints_tell_hits.ensures.answer devid (Read 1 (codes "*IDN?") identity) None (unlink 4 3 ∷ []) 5 text [] bytes [] (down.RetUnlink (record { seqnum = 4; status = success })) steps queried tt joint refl (refl, put)

status_of : (a b : RetUnlinkHead) → down.RetUnlink a ≡ down.RetUnlink b → a ≡ b
status_of a b e = cc

never_missed : (p : Put) (downs : List Put) → message_of p ≡ down.RetUnlink (record { seqnum = 7; status = success }) → TellsHit (Some (in_submit 6 4096)) (p ∷ downs) → ⊥
never_missed (Submitted asked answer transferred) downs e tells = cc
never_missed (Unlinked asked answer) downs e tells =
    let e : success ≡ unlinked = ap (λ (a : RetUnlinkHead). a.status) (sym (status_of answer (record { seqnum = 7; status = success }) e)) ∙ tells.0 in cc

pub returns-clause-mistaken : goal.returns-clause-mistaken
returns-clause-mistaken c written bytes s put joint =
    let next = c.joints_tell_hits.ensures.answer devid reading_rest (Some (in_submit 6 4096)) (unlink 7 6 ∷ []) 8 written [] bytes [] (down.RetUnlink (record { seqnum = 7; status = success })) (puts_out bytes ∷ []) s ((λ e. cc), tt) joint refl
    (refl, put) in
    never_missed next.put next.downs next.is next.tells

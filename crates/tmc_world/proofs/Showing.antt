-- what a link shows of its told run, and what its calls say by their relations
use Rattle.std.proofs.Common.{◌≡◌, ◌∙◌, ℕ, ◌≤◌, Bool, true, false, List, [], ◌++◌, length, take, drop, inl, inr, sym, ap, subst, append_assoc, append-nil, arith}
use Rattle.std.proofs.lemmas.List.{take-append-drop, take_all}
use Rattle.tmc_base.specs.declared.run_step.RunStep.{RunStep}
use Rattle.tmc_base.specs.declared.link.SendStep.{SendStep}
use Rattle.tmc_base.specs.declared.link.SendStep.TheVariants as send
use Rattle.tmc_base.specs.declared.link.PollStep.{PollStep}
use Rattle.tmc_base.specs.declared.link.PollStep.TheVariants as poll
use Rattle.tmc_base.specs.declared.link.TendStep.{TendStep}
use Rattle.tmc_base.specs.declared.link.TendStep.TheVariants as tend
use Rattle.tmc_base.specs.Link.{Counts, took_count, got_count, SendsWithin}
use Rattle.tmc_base.specs.Told.{Peer, WentOut, CameIn, Fits, in_bytes, out_bytes}
use Rattle.tmc_law.specs.State.{start}
use Rattle.tmc_law.specs.Run.{Entry, Runs, IsFront}
use Rattle.host_joint.specs.Tie.{IsUndisturbed}
use Rattle.usbip_export.specs.Seen.{standing}
use Rattle.usbip_export.specs.Steps.{AreArrivals, AreCalming}
use Rattle.tmc_world.specs.declared.pace.Pace.{Pace}
use Rattle.tmc_world.specs.declared.pace.Pace.TheVariants.{Calm, Paced}
use Rattle.tmc_law.specs.declared.dev_event.DevEvent.{DevEvent}
use Rattle.tmc_world.specs.declared.loop_act.LoopAct.{LoopAct}
use Rattle.tmc_world.specs.declared.loop_act.LoopAct.TheVariants as act
use Rattle.tmc_world.specs.Calm.{IsQuiet}
use Rattle.tmc_world.specs.Crossing.{Crossing}
use Rattle.tmc_world.specs.Telling.{IsTelling}
use Rattle.tmc_world.specs.Pacing.{send_room}
use Rattle.tmc_world.proofs.Following.{tells_any, tells_as}
use Rattle.tmc_world.proofs.Moving.{shown}
use Rattle.tmc_world.specs.LoopLink.{Looped, IsTold, Sends, Polls, Tends, HasMoved, Readies, MayHaveMoved, CatchesUp, ActEnds, ActGoes}

pub telling_told : (pace : Pace) (send_fails poll_fails wants : Bool) (counts : Counts) (acts : List DevEvent) (run : List RunStep) (now : Crossing)
    → IsTelling acts run now → IsTold (shown pace send_fails poll_fails wants counts acts run now)
telling_told pace send_fails poll_fails wants counts acts run now telling =
    let follows = telling.follows in
    record {
      imported = telling.sound.imported;
      fits = record {
        inputs = (
          (follows.took ++ now.node.kept) ++ drop now.fed now.sent,
          sym (take-append-drop now.fed now.sent)
              ∙ (ap (λ (l : List ℕ). l ++ drop now.fed now.sent) follows.fed
              ∙ append_assoc (in_bytes run) (follows.took ++ now.node.kept) (drop now.fed now.sent)),
        );
        outputs = follows.taken;
      };
      state = follows.state;
      leads = tells_any (IsQuiet acts) run start follows.state follows.leads;
      calm = λ calm. tells_as (IsQuiet acts) IsUndisturbed (λ es quiet. quiet calm) run start follows.state follows.leads;
      later = follows.later;
      goes = follows.goes;
      stands = λ unlate. sym (subst (λ (es : List Entry). Runs follows.state es (standing now.node)) (telling.none_later unlate) follows.goes);
      took = λ unlate opened.
          sym (take_all now.fed now.sent (omega (arith, telling.sound.opened opened)))
          ∙ (follows.fed ∙ ap (λ (l : List ℕ). in_bytes run ++ (l ++ now.node.kept)) (telling.none_took unlate));
      put = λ unlate. sym (append-nil (out_bytes run)) ∙ (ap (λ (l : List ℕ). out_bytes run ++ l) (sym (telling.none_answered unlate)) ∙ follows.out);
      spelled = telling.sound.spelled;
    }

-- ---- what goes out and comes in

went : (old new : Looped) (bytes : List ℕ) → new.sent ≡ old.sent ++ bytes → new.taken ≡ old.taken → IsFront old.run new.run → Fits new.sent new.taken new.run
    → WentOut bytes (Peer old.sent old.taken old.run) (Peer new.sent new.taken new.run)
went old new bytes sent taken front fits = (
  front.0,
  ap (λ (l : List ℕ). Peer l new.taken new.run) sent
      ∙ (ap (λ (l : List ℕ). Peer (old.sent ++ bytes) l new.run) taken ∙ ap (λ (r : List RunStep). Peer (old.sent ++ bytes) old.taken r) front.1),
  subst (λ (l : List ℕ). Fits l old.taken (old.run ++ front.0)) sent
      (subst (λ (l : List ℕ). Fits new.sent l (old.run ++ front.0)) taken
      (subst (λ (r : List RunStep). Fits new.sent new.taken r) front.1 fits)),
)

came : (old new : Looped) (bytes : List ℕ) → new.sent ≡ old.sent → new.taken ≡ old.taken ++ bytes → IsFront old.run new.run → Fits new.sent new.taken new.run
    → CameIn bytes (Peer old.sent old.taken old.run) (Peer new.sent new.taken new.run)
came old new bytes sent taken front fits = (
  front.0,
  ap (λ (l : List ℕ). Peer l new.taken new.run) sent
      ∙ (ap (λ (l : List ℕ). Peer old.sent l new.run) taken ∙ ap (λ (r : List RunStep). Peer old.sent (old.taken ++ bytes) r) front.1),
  subst (λ (l : List ℕ). Fits l (old.taken ++ bytes) (old.run ++ front.0)) sent
      (subst (λ (l : List ℕ). Fits new.sent l (old.run ++ front.0)) taken
      (subst (λ (r : List RunStep). Fits new.sent new.taken r) front.1 fits)),
)

none_more : (old new : Looped) → new.run ≡ old.run → IsFront old.run new.run
none_more old new is = ([], is ∙ sym (append-nil old.run))

pub sends_told : (old new : Looped) (piece : List ℕ) (step : SendStep) → Sends old piece step new → IsTold new
    → WentOut (take (took_count step) piece) (Peer old.sent old.taken old.run) (Peer new.sent new.taken new.run)
sends_told old new piece (send.Took n) sends told =
    went old new (take n piece) (ap (λ (l : Looped). l.sent) sends.is) (ap (λ (l : Looped). l.taken) sends.is) sends.tells told.fits
sends_told old new piece send.Idle sends told =
    went old new [] (ap (λ (l : Looped). l.sent) sends.is ∙ sym (append-nil old.sent)) (ap (λ (l : Looped). l.taken) sends.is)
    (none_more old new (ap (λ (l : Looped). l.run) sends.is)) told.fits
sends_told old new piece send.Failed sends told =
    went old new [] (ap (λ (l : Looped). l.sent) sends.is ∙ sym (append-nil old.sent)) (ap (λ (l : Looped). l.taken) sends.is)
    (none_more old new (ap (λ (l : Looped). l.run) sends.is)) told.fits
sends_told old new piece send.Memory sends told =
    went old new [] (ap (λ (l : Looped). l.sent) sends.is ∙ sym (append-nil old.sent)) (ap (λ (l : Looped). l.taken) sends.is)
    (none_more old new (ap (λ (l : Looped). l.run) sends.is)) told.fits

room_within : (pace : Pace) (offered n : ℕ) → n ≡ send_room pace offered → n ≤ offered
room_within Calm offered n is = omega (arith, is)
room_within (Paced rooms) offered n is = omega (arith, is)

pub sends_within : (old new : Looped) (piece : List ℕ) (step : SendStep) → Sends old piece step new → SendsWithin step (length piece)
sends_within old new piece (send.Took n) sends = (sends.some, room_within old.pace (length piece) n sends.fits)
sends_within old new piece send.Idle sends = tt
sends_within old new piece send.Failed sends = tt
sends_within old new piece send.Memory sends = tt

-- ---- a poll

-- behind what the node does first, the bytes are as before
record IsReady (old ready : Looped) : Type 0 where
  sent : ready.sent ≡ old.sent
  taken : ready.taken ≡ old.taken
  tells : IsFront old.run ready.run

moved_ready : (Only : List Entry → Type 0) (old new : Looped) → HasMoved Only old new → IsReady old new
moved_ready Only old new moved = record { sent = ap (λ (l : Looped). l.sent) moved.is; taken = ap (λ (l : Looped). l.taken) moved.is; tells = moved.tells }

same_ready : (old new : Looped) → new ≡ old → IsReady old new
same_ready old new is = record {
  sent = ap (λ (l : Looped). l.sent) is;
  taken = ap (λ (l : Looped). l.taken) is;
  tells = none_more old new (ap (λ (l : Looped). l.run) is);
}

ready_of : (pace : Pace) (late : Bool) (old ready : Looped) → Readies pace late old ready → IsReady old ready
ready_of Calm late old ready readies = moved_ready AreCalming old ready readies.0
ready_of (Paced rooms) true old ready readies = moved_ready AreArrivals old ready readies
ready_of (Paced rooms) false old ready readies = same_ready old ready readies

wants_ready : (pace : Pace) (late : Bool) (old new : Looped) → MayHaveMoved pace late old new → IsReady old new
wants_ready Calm late old new moved = moved_ready AreCalming old new moved
wants_ready (Paced rooms) true old new moved = moved_ready AreArrivals old new moved
wants_ready (Paced rooms) false old new moved = absurd moved

ready_front : (old ready new : Looped) → IsReady old ready → new.run ≡ ready.run → IsFront old.run new.run
ready_front old ready new is same = (is.tells.0, same ∙ is.tells.1)

none_came : (old new : Looped) → IsReady old new → IsTold new → CameIn [] (Peer old.sent old.taken old.run) (Peer new.sent new.taken new.run)
none_came old new is told = came old new [] is.sent (is.taken ∙ sym (append-nil old.taken)) is.tells told.fits

pub polls_told : (old new : Looped) (size : ℕ) (step : PollStep) (buf : List ℕ) → Polls old size step (take (got_count step) buf) new → IsTold new
    → CameIn (take (got_count step) buf) (Peer old.sent old.taken old.run) (Peer new.sent new.taken new.run)
polls_told old new size (poll.Got n) buf polls told =
    let ready = ready_of old.pace old.late old polls.ready polls.begins.readies in
    let is = polls.ends.is in
    came old new (take n buf) (ap (λ (l : Looped). l.sent) is ∙ ready.sent)
    (ap (λ (l : Looped). l.taken) is ∙ ap (λ (l : List ℕ). l ++ take n buf) ready.taken)
    (ready_front old polls.ready new ready (ap (λ (l : Looped). l.run) is)) told.fits
polls_told old new size poll.Idle buf (inl polls) told =
    none_came old new (record {
      sent = ap (λ (l : Looped). l.sent) polls.is;
      taken = ap (λ (l : Looped). l.taken) polls.is;
      tells = none_more old new (ap (λ (l : Looped). l.run) polls.is);
    }) told
polls_told old new size poll.Idle buf (inr polls) told =
    let ready = ready_of old.pace old.late old polls.ready polls.begins.readies in
    let is = polls.ends.is in
    none_came old new (record {
      sent = ap (λ (l : Looped). l.sent) is ∙ ready.sent;
      taken = ap (λ (l : Looped). l.taken) is ∙ ready.taken;
      tells = ready_front old polls.ready new ready (ap (λ (l : Looped). l.run) is);
    }) told
polls_told old new size poll.Closed buf polls told =
    let ready = ready_of old.pace old.late old polls.ready polls.begins.readies in
    let is = polls.ends.is in
    none_came old new (record {
      sent = ap (λ (l : Looped). l.sent) is ∙ ready.sent;
      taken = ap (λ (l : Looped). l.taken) is ∙ ready.taken;
      tells = ready_front old polls.ready new ready (ap (λ (l : Looped). l.run) is);
    }) told
polls_told old new size poll.Failed buf polls told =
    none_came old new (record {
      sent = ap (λ (l : Looped). l.sent) polls.is;
      taken = ap (λ (l : Looped). l.taken) polls.is;
      tells = none_more old new (ap (λ (l : Looped). l.run) polls.is);
    }) told
polls_told old new size poll.Memory buf (inl polls) told =
    none_came old new (record {
      sent = ap (λ (l : Looped). l.sent) polls.is;
      taken = ap (λ (l : Looped). l.taken) polls.is;
      tells = none_more old new (ap (λ (l : Looped). l.run) polls.is);
    }) told
polls_told old new size poll.Memory buf (inr polls) told = none_came old new (wants_ready old.pace old.late old new polls.moved) told

-- ---- an act

none_went : (old new : Looped) → IsReady old new → IsTold new → WentOut [] (Peer old.sent old.taken old.run) (Peer new.sent new.taken new.run)
none_went old new is told = went old new [] (is.sent ∙ sym (append-nil old.sent)) is.taken is.tells told.fits

ready_then : (old ready new : Looped) → IsReady old ready → IsReady ready new → IsReady old new
ready_then old ready new first second = record {
  sent = second.sent ∙ first.sent;
  taken = second.taken ∙ first.taken;
  tells = (
    first.tells.0 ++ second.tells.0,
    second.tells.1 ∙ (ap (λ (r : List RunStep). r ++ second.tells.0) first.tells.1 ∙ append_assoc old.run first.tells.0 second.tells.0),
  );
}

catches_ready : (late : Bool) (old ready : Looped) → CatchesUp late old ready → IsReady old ready
catches_ready true old ready catches = moved_ready AreArrivals old ready catches.0
catches_ready false old ready is = same_ready old ready is

ends_ready : (event : DevEvent) (ready : Looped) (step : TendStep) (new : Looped) → ActEnds event ready step new → IsReady ready new
ends_ready event ready tend.Did new acts =
    record { sent = ap (λ (l : Looped). l.sent) acts.is; taken = ap (λ (l : Looped). l.taken) acts.is; tells = acts.tells }
ends_ready event ready tend.NotNow new none = same_ready ready new none.is
ends_ready event ready tend.Memory new wants = same_ready ready new wants.is

act_ready : (event : DevEvent) (old : Looped) (step : TendStep) (new : Looped) → ActGoes event old step new → IsReady old new
act_ready event old step new goes =
    ready_then old goes.ready new (catches_ready old.late old goes.ready goes.catches) (ends_ready event goes.ready step new goes.ends)

tends_ready : (old new : Looped) (what : LoopAct) (step : TendStep) → Tends old what step new → IsReady old new
tends_ready old new (act.Dev event) tend.Did goes = act_ready event old tend.Did new goes
tends_ready old new (act.Dev event) tend.NotNow goes = act_ready event old tend.NotNow new goes
tends_ready old new (act.Dev event) tend.Memory (inl goes) = act_ready event old tend.Memory new goes
tends_ready old new (act.Dev event) tend.Memory (inr late) = moved_ready AreArrivals old new late.moved
tends_ready old new (act.RoomSend room) tend.Did is =
    record { sent = ap (λ (l : Looped). l.sent) is; taken = ap (λ (l : Looped). l.taken) is; tells = none_more old new (ap (λ (l : Looped). l.run) is) }
tends_ready old new (act.RoomPoll room) tend.Did is =
    record { sent = ap (λ (l : Looped). l.sent) is; taken = ap (λ (l : Looped). l.taken) is; tells = none_more old new (ap (λ (l : Looped). l.run) is) }
tends_ready old new act.FailSend tend.Did is =
    record { sent = ap (λ (l : Looped). l.sent) is; taken = ap (λ (l : Looped). l.taken) is; tells = none_more old new (ap (λ (l : Looped). l.run) is) }
tends_ready old new act.FailPoll tend.Did is =
    record { sent = ap (λ (l : Looped). l.sent) is; taken = ap (λ (l : Looped). l.taken) is; tells = none_more old new (ap (λ (l : Looped). l.run) is) }
tends_ready old new (act.RoomSend room) tend.NotNow none = absurd none
tends_ready old new (act.RoomPoll room) tend.NotNow none = absurd none
tends_ready old new act.FailSend tend.NotNow none = absurd none
tends_ready old new act.FailPoll tend.NotNow none = absurd none
tends_ready old new (act.RoomSend room) tend.Memory none = absurd none
tends_ready old new (act.RoomPoll room) tend.Memory none = absurd none
tends_ready old new act.FailSend tend.Memory none = absurd none
tends_ready old new act.FailPoll tend.Memory none = absurd none

pub tends_told : (old new : Looped) (what : LoopAct) (step : TendStep) → Tends old what step new → IsTold new
    → WentOut [] (Peer old.sent old.taken old.run) (Peer new.sent new.taken new.run)
tends_told old new what step tends told = none_went old new (tends_ready old new what step tends) told

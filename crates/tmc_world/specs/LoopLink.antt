-- a loop link: what contracts see of it, how each of its calls goes, and what it tells
use Rattle.std.specs.Prelude.{◌≡◌, ◌⊎◌, ℕ, ◌<◌, min, Bool, true, false, List, [], ◌∷◌, ◌++◌, length, take, drop}
use Rattle.tmc_base.specs.declared.run_step.RunStep.{RunStep}
use Rattle.tmc_base.specs.declared.link.SendStep.{SendStep}
use Rattle.tmc_base.specs.declared.link.SendStep.TheVariants as send
use Rattle.tmc_base.specs.declared.link.PollStep.{PollStep}
use Rattle.tmc_base.specs.declared.link.PollStep.TheVariants as poll
use Rattle.tmc_base.specs.declared.link.TendStep.{TendStep}
use Rattle.tmc_base.specs.declared.link.TendStep.TheVariants as tend
use Rattle.tmc_base.specs.Link.{Counts}
use Rattle.tmc_base.specs.Told.{Fits, in_bytes, out_bytes}
use Rattle.tmc_law.specs.declared.dev_event.DevEvent.{DevEvent}
use Rattle.tmc_law.specs.State.{State, start}
use Rattle.tmc_law.specs.Run.{Entry, Runs, IsFront}
use Rattle.tmc_law.specs.Told.{ToldFromStart}
use Rattle.tmc_device.specs.Events.{NoneLawful}
use Rattle.host_joint.specs.Joint.{TellsCalmly}
use Rattle.usbip_export.specs.Identity.{devid}
use Rattle.usbip_export.specs.Seen.{Seen, begun, standing}
use Rattle.usbip_export.specs.Serving.{WorksBy}
use Rattle.usbip_export.specs.Steps.{AreArrivals, AreCalming}
use Rattle.usbip_export.specs.Events.{Drives, IsDue, IsCalm}
use Rattle.tmc_world.specs.declared.pace.Pace.{Pace}
use Rattle.tmc_world.specs.declared.pace.Pace.TheVariants.{Calm, Paced}
use Rattle.tmc_world.specs.declared.loop_act.LoopAct.{LoopAct}
use Rattle.tmc_world.specs.declared.loop_act.LoopAct.TheVariants as act
use Rattle.tmc_world.specs.Calm.{AreCalmActs}
use Rattle.tmc_world.specs.Counting.{uncounted, one_fault, one_idle, one_closing}
use Rattle.tmc_world.specs.Pacing.{send_room, poll_room, send_shut, poll_shut, with_send_room, with_poll_room, NoSendRoom, NoPollRoom}
use Rattle.tmc_world.specs.Crossing.{IsOpen, IsShut, Hears}

pub record Looped : Type 0 where
  pub pace : Pace
  -- whether the next send is to fail, and the next poll
  pub send_fails : Bool
  pub poll_fails : Bool
  -- whether a send wanted memory, so that the next poll is to want it too
  pub wants : Bool
  pub node : Seen
  pub sent : List ℕ
  pub taken : List ℕ
  -- the acts by which the instrument made its steps, in order
  pub acts : List DevEvent
  -- the run that it tells
  pub run : List RunStep
  -- whether something in the node waits for memory, so that what the instrument did last is not told yet
  pub late : Bool
  pub counts : Counts

-- the instrument is imported and at power-on, and nothing was sent, taken or done
abbrev pub begun_loop : Pace → Looped
begun_loop pace = record {
  pace = pace;
  send_fails = false;
  poll_fails = false;
  wants = false;
  node = begun true;
  sent = [];
  taken = [];
  acts = [];
  run = [];
  late = false;
  counts = uncounted;
}

-- What a link tells: a lawful run from power-on, which fits the bytes sent and taken. It led the instrument to where it is;
-- only while answers wait for memory may it stand behind, by a lawful run. All that was sent to an open node was taken in or
-- is kept, and what was put out was taken or is pending. Where each act was calm, nothing disturbed the run.
pub record IsTold (link : Looped) : Type 0 where
  pub imported : link.node.imported ≡ true
  pub fits : Fits link.sent link.taken link.run
  pub state : State
  pub leads : ToldFromStart devid link.run state
  pub calm : AreCalmActs link.acts → TellsCalmly devid start link.run state
  pub later : List Entry
  pub goes : Runs state later (standing link.node)
  pub stands : link.late ≡ false → state ≡ standing link.node
  pub took : link.late ≡ false → IsOpen link.node → link.sent ≡ in_bytes link.run ++ link.node.kept
  pub put : link.late ≡ false → out_bytes link.run ≡ link.taken ++ link.node.out
  pub spelled : link.late ≡ false → link.node.puts ≡ []

-- ---- a send

-- one that is to fail does so
pub record SendFails (old new : Looped) : Type 0 where
  pub named : old.send_fails ≡ true
  pub is : new ≡ record old { send_fails = false; pace = send_shut old.pace; counts = one_fault old.counts }

-- there is no room
pub record SendIdles (old new : Looped) : Type 0 where
  pub unnamed : old.send_fails ≡ false
  pub shut : NoSendRoom old.pace
  pub is : new ≡ record old { counts = one_idle old.counts }

-- as many of the first bytes go as the room allows, and the room is used up
pub record SendTakes (count : ℕ) (old : Looped) (piece : List ℕ) (new : Looped) : Type 0 where
  pub unnamed : old.send_fails ≡ false
  pub some : 0 < count
  pub fits : count ≡ send_room old.pace (length piece)
  pub hears : Hears (take count piece) old.node new.node new.late
  pub tells : IsFront old.run new.run
  pub is : new ≡ record old {
    pace = send_shut old.pace;
    sent = old.sent ++ take count piece;
    node = new.node;
    run = new.run;
    late = new.late;
  }

-- memory is wanting, and the next poll is to want it too: so the turn that sent moves nothing
pub record SendWants (old new : Looped) : Type 0 where
  pub unnamed : old.send_fails ≡ false
  pub room : NoSendRoom old.pace → ⊥
  pub is : new ≡ record old { wants = true }

abbrev pub Sends : Looped → List ℕ → SendStep → Looped → Type 0
Sends old piece (send.Took n) new = SendTakes n old piece new
Sends old piece send.Idle new = SendIdles old new
Sends old piece send.Failed new = SendFails old new
Sends old piece send.Memory new = SendWants old new

-- ---- a poll

-- one that is to want memory, since the send before it did, does so first of all
pub record PollRefrains (old new : Looped) : Type 0 where
  pub wanted : old.wants ≡ true
  pub is : new ≡ record old { wants = false }

-- one that is to fail does so
pub record PollFails (old new : Looped) : Type 0 where
  pub unwanted : old.wants ≡ false
  pub named : old.poll_fails ≡ true
  pub is : new ≡ record old { poll_fails = false; pace = poll_shut old.pace; counts = one_fault old.counts }

-- there is no room
pub record PollShut (old new : Looped) : Type 0 where
  pub unwanted : old.wants ≡ false
  pub unnamed : old.poll_fails ≡ false
  pub shut : NoPollRoom old.pace
  pub is : new ≡ record old { counts = one_idle old.counts }

-- the node moved on by such steps of its instrument and no others, and what it did is told as far as it is spelled
pub record HasMoved (Only : List Entry → Type 0) (old new : Looped) : Type 0 where
  pub works : WorksBy Only [] [] old.node new.node
  pub tells : IsFront old.run new.run
  pub is : new ≡ record old { node = new.node; run = new.run; late = new.late }

-- What the node does before bytes are taken from it. That of a calm link makes calm moves until none is enabled. That of a
-- paced one is left alone; only what waits for memory is taken in and spelled.
abbrev pub Readies : Pace → (late : Bool) → (old ready : Looped) → Type 0
Readies Calm late old ready = HasMoved AreCalming old ready × IsCalm ready.node
Readies (Paced rooms) true old ready = HasMoved AreArrivals old ready
Readies (Paced rooms) false old ready = ready ≡ old

-- a poll that is not to fail, and for which there is room; each answer is spelled
pub record PollBegins (old ready : Looped) : Type 0 where
  pub unwanted : old.wants ≡ false
  pub unnamed : old.poll_fails ≡ false
  pub room : NoPollRoom old.pace → ⊥
  pub readies : Readies old.pace old.late old ready
  pub unlate : ready.late ≡ false
  pub spelled : ready.node.puts ≡ []

-- as many of the first bytes that wait are taken as the room allows, and the room is used up
pub record Takes (count room : ℕ) (ready : Looped) (bytes : List ℕ) (new : Looped) : Type 0 where
  pub some : 0 < count
  pub fits : count ≡ min room (length ready.node.out)
  pub first : bytes ≡ take count ready.node.out
  pub is : new ≡ record ready {
    pace = poll_shut ready.pace;
    node = record ready.node { out = drop count ready.node.out };
    taken = ready.taken ++ bytes;
  }

-- no byte waits, and the node is open
pub record Idles (ready new : Looped) : Type 0 where
  pub none : ready.node.out ≡ []
  pub opened : IsOpen ready.node
  pub is : new ≡ record ready { pace = poll_shut ready.pace; counts = one_idle ready.counts }

-- no byte waits, and the node is closed
pub record Closes (ready new : Looped) : Type 0 where
  pub none : ready.node.out ≡ []
  pub shut : IsShut ready.node
  pub is : new ≡ record ready { pace = poll_shut ready.pace; counts = one_closing ready.counts }

-- how a poll ends for which the node is ready
abbrev pub PollEnds : ℕ → Looped → PollStep → List ℕ → Looped → Type 0
PollEnds room ready (poll.Got n) bytes new = Takes n room ready bytes new
PollEnds room ready poll.Idle bytes new = Idles ready new
PollEnds room ready poll.Closed bytes new = Closes ready new
PollEnds room ready poll.Failed bytes new = ⊥
PollEnds room ready poll.Memory bytes new = ⊥

pub record PollGoes (old : Looped) (size : ℕ) (step : PollStep) (bytes : List ℕ) (new : Looped) : Type 0 where
  pub ready : Looped
  pub begins : PollBegins old ready
  pub ends : PollEnds (poll_room old.pace size) ready step bytes new

-- Memory is wanting. A paced link in which nothing waits for it wants none; else some of what waits may have been taken in and spelled, and
-- nothing else has changed. The node of a calm one may have made some of its moves.
abbrev pub MayHaveMoved : Pace → (late : Bool) → (old new : Looped) → Type 0
MayHaveMoved Calm late old new = HasMoved AreCalming old new
MayHaveMoved (Paced rooms) true old new = HasMoved AreArrivals old new
MayHaveMoved (Paced rooms) false old new = ⊥

pub record PollWants (old new : Looped) : Type 0 where
  pub unwanted : old.wants ≡ false
  pub unnamed : old.poll_fails ≡ false
  pub room : NoPollRoom old.pace → ⊥
  pub moved : MayHaveMoved old.pace old.late old new

abbrev pub Polls : Looped → ℕ → PollStep → List ℕ → Looped → Type 0
Polls old size (poll.Got n) bytes new = PollGoes old size (poll.Got n) bytes new
Polls old size poll.Idle bytes new = PollShut old new ⊎ PollGoes old size poll.Idle bytes new
Polls old size poll.Closed bytes new = PollGoes old size poll.Closed bytes new
Polls old size poll.Failed bytes new = PollFails old new
Polls old size poll.Memory bytes new = PollRefrains old new ⊎ PollWants old new

-- ---- an act

-- the instrument makes the one lawful step that the event allows, with the greatest count
pub record Acts (event : DevEvent) (old new : Looped) : Type 0 where
  pub drives : Drives event old.node new.node
  pub tells : IsFront old.run new.run
  pub is : new ≡ record old { node = new.node; acts = old.acts ++ event ∷ []; run = new.run; late = new.late }

-- the law allows no such step
pub record IsNotNow (event : DevEvent) (old new : Looped) : Type 0 where
  pub none : NoneLawful event (standing old.node)
  pub is : new ≡ old

-- memory is wanting for it
pub record ActWants (event : DevEvent) (old new : Looped) : Type 0 where
  pub due : IsDue event old.node
  pub is : new ≡ old

-- how an act of the instrument ends, of which nothing waits for memory
abbrev pub ActEnds : DevEvent → Looped → TendStep → Looped → Type 0
ActEnds event ready tend.Did new = Acts event ready new
ActEnds event ready tend.NotNow new = IsNotNow event ready new
ActEnds event ready tend.Memory new = ActWants event ready new

-- what waits for memory in the node is taken in and spelled before
abbrev pub CatchesUp : (late : Bool) → (old ready : Looped) → Type 0
CatchesUp true old ready = HasMoved AreArrivals old ready × (ready.late ≡ false)
CatchesUp false old ready = ready ≡ old

pub record ActGoes (event : DevEvent) (old : Looped) (step : TendStep) (new : Looped) : Type 0 where
  pub ready : Looped
  pub catches : CatchesUp old.late old ready
  pub ends : ActEnds event ready step new

-- memory is still wanting for it
pub record StaysLate (old new : Looped) : Type 0 where
  pub late : old.late ≡ true
  pub moved : HasMoved AreArrivals old new

abbrev pub Tends : Looped → LoopAct → TendStep → Looped → Type 0
Tends old (act.Dev event) tend.Did new = ActGoes event old tend.Did new
Tends old (act.Dev event) tend.NotNow new = ActGoes event old tend.NotNow new
Tends old (act.Dev event) tend.Memory new = ActGoes event old tend.Memory new ⊎ StaysLate old new
Tends old (act.RoomSend room) tend.Did new = new ≡ record old { pace = with_send_room room old.pace }
Tends old (act.RoomPoll room) tend.Did new = new ≡ record old { pace = with_poll_room room old.pace }
Tends old act.FailSend tend.Did new = new ≡ record old { send_fails = true }
Tends old act.FailPoll tend.Did new = new ≡ record old { poll_fails = true }
Tends old _ _ new = ⊥

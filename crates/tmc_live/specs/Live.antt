-- what a call of the program does, by its status
use Rattle.std.specs.Prelude.{◌≡◌, ◌≢◌, ◌⊎◌, ℕ, ◌+◌, ◌<◌, Bool, true, false, List, [], ◌∷◌, ◌++◌, length, map, codes, Option, option_map, Result, Ok, Err, Some, None}
use Rattle.tmc_base.specs.declared.sink.WriteStep.{WriteStep}
use Rattle.tmc_base.specs.Faults.{Rose}
use Rattle.tmc_base.specs.Sink.{PutsFront, put_after}
use Rattle.tmc_base.specs.Writing.{WriteRun}
use Rattle.usbip_export.specs.declared.serving.ServeEnd.{ServeEnd}
use Rattle.usbip_export.specs.declared.serving.ServeEnd.TheVariants as end
use Rattle.tmc_live.specs.declared.net.NetFault.{NetFault}
use Rattle.tmc_live.specs.declared.net.NetFault.TheVariants as fault
use Rattle.tmc_live.specs.declared.status.Status.{Status}
use Rattle.tmc_live.specs.declared.status.Status.TheVariants.{Served, Usage, SinkFault, NoMemory, NetFault as NetFaulted}
use Rattle.tmc_live.specs.Command.{Asks, IsCommand}
use Rattle.tmc_live.specs.Line.{connection_line, lines_from}
use Rattle.tmc_live.specs.Net.{Standing, back_after}

-- the number that a status is to the shell
abbrev pub code_of : Status → ℕ
code_of Served = 0
code_of Usage = 1
code_of SinkFault = 4
code_of NoMemory = 5
code_of NetFaulted = 6

-- what is told of a net and a sink, and how their calls and the serving of a link go
pub record Ways (N K L : Type 0) : Type 1 where
  pub standing : N → Standing
  pub back : N → Option (List L)
  pub opens : N → List ℕ → Result (Unit {0}) NetFault → N → Type 0
  pub accepts : N → Result L NetFault → N → Type 0
  pub takes : N → L → N → Type 0
  pub put : K → Option (List ℕ)
  pub faults : K → ℕ
  pub writes : K → List ℕ → WriteStep → K → Type 0
  pub serves : L → ServeEnd → L → Type 0

-- a connection: the link that the net gave, how its serving ended, and the link that the net took back
pub record Connection (L : Type 0) : Type 0 where
  pub link : L
  pub end : ServeEnd
  pub after : L

-- the links that were taken back, where the net tells them, after those of these connections, in their order
abbrev pub backs_after : {L : Type 0} → List (Connection L) → Option (List L) → Option (List L)
backs_after done back = option_map (λ before. before ++ map (λ one. one.after) done) back

-- the lines of these connections
abbrev pub lines_of : {L : Type 0} → List (Connection L) → List ℕ
lines_of done = lines_from 1 (map (λ one. one.end) done)

-- this text was put whole, by writes that each offered all that was left of it
pub record Puts {K : Type 0} (put : K → Option (List ℕ)) (faults : K → ℕ) (writes : K → List ℕ → WriteStep → K → Type 0)
    (text : List ℕ) (sink after : K) : Type 0 where
  pub told : put after ≡ put_after text (put sink)
  pub run : WriteRun writes sink after true text
  pub counts : faults after ≡ faults sink

-- a front of this text was put, and then a write failed
pub record Breaks {K : Type 0} (put : K → Option (List ℕ)) (faults : K → ℕ) (writes : K → List ℕ → WriteStep → K → Type 0)
    (text : List ℕ) (sink after : K) : Type 0 where
  pub told : PutsFront text (put sink) (put after)
  pub run : WriteRun writes sink after false text
  pub rose : Rose (faults sink) (faults after)

module _ {N K L : Type 0} (w : Ways N K L) where
  -- the net accepted a connection, it was served, and then the net took its link back
  pub record Handles (net : N) (one : Connection L) (new : N) : Type 0 where
    pub accepted : N
    pub accepts : w.accepts net (Ok one.link) accepted
    pub serves : w.serves one.link one.end one.after
    pub takes : w.takes accepted one.after new
    pub back : w.back new ≡ back_after one.after (w.back net)
    pub counts : (w.standing new).faults ≡ (w.standing net).faults

  -- a connection was handled, and then its line, with this number, was put
  pub record Serves (number : ℕ) (net : N) (sink : K) (one : Connection L) (new : N) (after : K) : Type 0 where
    pub handled : Handles net one new
    pub ample : one.end ≢ end.Memory
    pub printed : Puts w.put w.faults w.writes (connection_line number one.end) sink after

  -- these connections were served, one behind the other, the first with the number 1
  pub data ServesAll (net : N) (sink : K) : List (Connection L) → N → K → Type 0 where
    none : ServesAll net sink [] net sink
    more : (done : List (Connection L)) (one : Connection L) (mid : N) (before : K) (new : N) (after : K)
        → ServesAll net sink done mid before → Serves (length done + 1) mid before one new after
        → ServesAll net sink (done ++ one ∷ []) new after

  -- the net listens at the address, and these connections were served. Where the net tells the links that it took back,
  -- it took back theirs in this order; the lines are put, and no count of faults rose.
  pub record Reaches (address : List ℕ) (net : N) (sink : K) (done : List (Connection L)) (new : N) (after : K) : Type 0 where
    pub listening : N
    pub opens : w.opens net address (Ok (record {})) listening
    pub serves : ServesAll listening sink done new after
    pub back : w.back new ≡ backs_after done (w.back net)
    pub put : w.put after ≡ put_after (lines_of done) (w.put sink)
    pub net_counts : (w.standing new).faults ≡ (w.standing net).faults
    pub sink_counts : w.faults after ≡ w.faults sink

  -- the net did not do what it was asked, for this cause, and gave and took nothing
  pub record Lacks (why : NetFault) (net new : N) : Type 0 where
    pub back : w.back new ≡ w.back net
    pub rose : why ≡ fault.Failed → Rose (w.standing net).faults (w.standing new).faults
    pub counts : why ≡ fault.Memory → (w.standing new).faults ≡ (w.standing net).faults

  -- the net could not accept a connection
  pub record Lost (why : NetFault) (net new : N) : Type 0 where
    pub accepts : w.accepts net (Err why) new
    pub lacks : Lacks why net new

  -- The net could not listen, or, when these connections of so many were served, could not accept one more.
  pub data Fails (address : List ℕ) (count : ℕ) (net : N) (sink : K) (why : NetFault) (new : N) : List (Connection L) → K → Type 0 where
    deaf : w.opens net address (Err why) new → Lacks why net new → Fails address count net sink why new [] sink
    lost : (done : List (Connection L)) (mid : N) (before : K) → Reaches address net sink done mid before → length done < count
        → Lost why mid new → Fails address count net sink why new done before

  -- When these connections of so many were served, one more was handled, whose line is not put yet.
  pub record Unprinted (address : List ℕ) (count : ℕ) (net : N) (sink : K) (one : Connection L) (new : N) (done : List (Connection L)) (before : K) : Type 0 where
    pub mid : N
    pub reached : Reaches address net sink done mid before
    pub due : length done < count
    pub handled : Handles mid one new

  -- how the serving ended, by the status
  abbrev pub EndsServing : (address : List ℕ) (count : ℕ) → Status → (net : N) (sink : K) (new : N) (after : K) → Type 0
  -- all connections were served
  EndsServing address count Served net sink new after =
      (done : List (Connection L)) × (length done ≡ count) × Reaches address net sink done new after
  EndsServing address count Usage net sink new after = ⊥
  -- the net failed, and this was put behind the lines
  EndsServing address count NetFaulted net sink new after =
      (done : List (Connection L)) × (before : K)
      × Fails address count net sink fault.Failed new done before × Puts w.put w.faults w.writes (codes "net fault\n") before after
  -- that could not be put, or the line of a connection could not
  EndsServing address count SinkFault net sink new after =
      (done : List (Connection L)) × (before : K)
      × ((Fails address count net sink fault.Failed new done before × Breaks w.put w.faults w.writes (codes "net fault\n") before after)
      ⊎ ((one : Connection L) × Unprinted address count net sink one new done before × (one.end ≢ end.Memory)
      × Breaks w.put w.faults w.writes (connection_line (length done + 1) one.end) before after))
  -- the net wanted memory, or the serving of a connection did, or its line
  EndsServing address count NoMemory net sink new after =
      (done : List (Connection L))
      × (Fails address count net sink fault.Memory new done after
      ⊎ ((one : Connection L) × Unprinted address count net sink one new done after))

  -- how words that name no command end: no call of the net is made
  abbrev pub EndsUsage : Status → (net : N) (sink : K) (new : N) (after : K) → Type 0
  EndsUsage Usage net sink new after = (new ≡ net) × Puts w.put w.faults w.writes (codes "usage\n") sink after
  EndsUsage SinkFault net sink new after = (new ≡ net) × Breaks w.put w.faults w.writes (codes "usage\n") sink after
  EndsUsage Served net sink new after = ⊥
  EndsUsage NoMemory net sink new after = ⊥
  EndsUsage NetFaulted net sink new after = ⊥

  -- what each status means
  abbrev pub Ends : List (List ℕ) → Status → (net : N) (sink : K) (new : N) (after : K) → Type 0
  Ends words status net sink new after =
      ((address : List ℕ) × (count : ℕ) × Asks words address count × EndsServing address count status net sink new after)
      ⊎ ((IsCommand words → ⊥) × EndsUsage status net sink new after)

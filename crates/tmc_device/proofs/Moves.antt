-- lawful steps, and the events that they are
use Rattle.std.proofs.Common.{◌≡◌, ◌≢◌, inl, inr, ◌∙◌, ℕ, ◌+◌, ◌*◌, ◌≤◌, true, false, List, [], ◌∷◌, length, drop, zero, suc, None, refl, ap, sym, subst, arith}
use Rattle.std.specs.Prelude.{◌/◌}
use Rattle.std.proofs.Math.Nat.{lt_of_not-le}
use Rattle.std.proofs.Math.ListN.{drop_of_length-le}
use Rattle.tmc_law.specs.declared.dev_event.DevEvent.{DevEvent}
use Rattle.tmc_law.specs.declared.dev_event.DevEvent.TheVariants as event
use Rattle.tmc_law.specs.Endpoint.{Endpoint, Control, BulkOut, BulkIn, InterruptIn, number_of, packet_size}
use Rattle.tmc_law.specs.State.{State, Pending, Side, Sending, Piece, Running, Nothing, AbortsOut, AbortsIn, Clears, room}
use Rattle.tmc_law.specs.Put.{Put}
use Rattle.tmc_law.specs.Logging.{unread}
use Rattle.tmc_law.specs.Halts.{HaltsItself, DoesHalt}
use Rattle.tmc_law.specs.BulkOut as out
use Rattle.tmc_law.specs.BulkOut.{packets_of}
use Rattle.tmc_law.specs.BulkIn as «in»
use Rattle.tmc_law.specs.BulkIn.{NoPacketWanted, LeavesRoom}
use Rattle.tmc_law.specs.Status as status
use Rattle.tmc_law.specs.Class as class
use Rattle.tmc_law.specs.Step as step
use Rattle.tmc_law.specs.Step.{Move, Steps}
use Rattle.endpoint_pipes.specs.Held.{endpoint_of}
use Rattle.endpoint_pipes.specs.Outcome.{left_of}
use Rattle.tmc_device.specs.Events.{Allows, count_of, IsOwed, HasPackets, Needs, IsEnabled, packets_there, largest_piece, packets_left, packets_into, move_of}

-- what an event needs is there, and its move has at least this count
record Fits (e : DevEvent) (s : State) (count : ℕ) : Type 0 where
  needs : Needs e s
  most : count ≤ count_of (move_of e s)

some_there : {A : Type 0} (list behind : List A) (first : A) → list ≡ first ∷ behind → list ≢ []
some_there list behind first is = λ none. cc

-- ---- Bulk-OUT

there_of : (s : State) (submit : Pending) (behind : List Pending) → s.bulk_out ≡ submit ∷ behind → packets_there s ≡ packets_of (length submit.left)
there_of s submit behind queue = ap (λ (q : List Pending). packets_of (length (left_of q))) queue

-- so many packets may be taken
takes_fit : (most : ℕ) (s : State) (count : ℕ) (submit : Pending) (behind : List Pending) → count ≤ most → s.waiting ≡ None → s.bulk_out ≡ submit ∷ behind
    → 1 ≤ count → count ≤ packets_of (length submit.left) → Fits (event.Take most) s count
takes_fit most s count submit behind allowed none queue low high = record {
  needs = (omega (arith, allowed, low), some_there s.bulk_out behind submit queue, none);
  most = omega (arith, allowed, high, there_of s submit behind queue);
}

takes : (most : ℕ) (s t : State) (count : ℕ) (puts : List Put) → count ≤ most → s.waiting ≡ None → out.Takes s count puts t → Fits (event.Take most) s count
takes most s t count puts allowed none (out.Empty submit behind queue empty one put is) =
    takes_fit most s count submit behind allowed none queue (omega (arith, one)) (omega (arith, one))
takes most s t count puts allowed none (out.Spoiled submit behind queue some low high spoils put is) =
    takes_fit most s count submit behind allowed none queue low high
takes most s t count puts allowed none (out.Inside submit later behind transfer grown queue some low fine belongs (out.DoesMove moved g) more put is) =
    takes_fit most s count submit behind allowed none queue low (within count submit.left (λ none. more (ap (λ (p : Pending). p.left) moved ∙ none)))
  where
    within : (count : ℕ) (left : List ℕ) → drop (count * packet_size) left ≢ [] → count ≤ packets_of (length left)
    within count left some =
        let more = lt_of_not-le {n = length left} {m = count * packet_size} (λ over. some (drop_of_length-le left over)) in
        omega (arith, more)
takes most s t count puts allowed none (out.SubmitEnds submit later behind transfer grown queue some all fine belongs moves more put is) =
    takes_fit most s count submit behind allowed none queue (omega (arith, all)) (omega (arith, all))
takes most s t count puts allowed none (out.TransferEnds submit later behind transfer grown queue some all fine belongs moves done effect put) =
    takes_fit most s count submit behind allowed none queue (omega (arith, all)) (omega (arith, all))

-- ---- Bulk-IN

begins : (most : ℕ) (s t : State) (count : ℕ) → count ≤ most → «in».Begins s count t → Fits (event.Begin most) s count
begins most s t count allowed («in».DoesBegin tag size owes free low high logs) = record {
  needs = (omega (arith, allowed, low), subst (λ (side : Side). IsOwed side) (sym owes) tt, free, some_unread (unread s) (omega (arith, low, high)));
  most = omega (arith, allowed, high, ap (λ (side : Side). largest_piece (record s { side = side })) owes);
}
  where
    some_unread : (bytes : List ℕ) → 1 ≤ length bytes → bytes ≢ []
    some_unread bytes some = λ none. absurd (omega (arith, some, ap (λ (l : List ℕ). length l) none))

fills_fit : (most : ℕ) (s : State) (count : ℕ) (submit : Pending) (behind : List Pending) → count ≤ most → s.bulk_in ≡ submit ∷ behind → HasPackets s.running s.side
    → 1 ≤ count → count ≤ packets_left s.running s.side → count ≤ packets_of (room submit) → Fits (event.Fill most) s count
fills_fit most s count submit behind allowed queue there low left into = record {
  needs = (omega (arith, allowed, low), some_there s.bulk_in behind submit queue, there);
  most = omega (arith, allowed, left, into, ap (λ (q : List Pending). packets_into q) queue);
}

-- a piece is sent, while no abort wants its packet
sending : (s : State) (piece : Piece) → s.side ≡ Sending piece → NoPacketWanted s.running
    → HasPackets s.running s.side × (packets_left s.running s.side ≡ length piece.left / packet_size + 1)
sending s piece is free = subst (λ (side : Side). HasPackets s.running side × (packets_left s.running side ≡ length piece.left / packet_size + 1)) (sym is) (by s.running free)
  where
    by : (running : Running) → NoPacketWanted running → HasPackets running (Sending piece) × (packets_left running (Sending piece) ≡ length piece.left / packet_size + 1)
    by Nothing free = (tt, refl)
    by AbortsOut free = (tt, refl)
    by (AbortsIn true given) free = absurd free
    by (AbortsIn false given) free = (tt, refl)
    by Clears free = (tt, refl)

fills : (most : ℕ) (s t : State) (count : ℕ) (puts : List Put) → count ≤ most → «in».Fills s count puts t → Fits (event.Fill most) s count
fills most s t count puts allowed («in».Ends submit behind given queue runs one put is) =
    fills_fit most s count submit behind allowed queue (subst (λ (r : Running). HasPackets r s.side) (sym runs) tt) (omega (arith, one))
    (omega (arith, one, ap (λ (r : Running). packets_left r s.side) runs)) (omega (arith, one))
fills most s t count puts allowed («in».Inside submit behind piece queue sends free low inside fits put is) =
    let has = sending s piece sends free in
    fills_fit most s count submit behind allowed queue has.0 low (omega (arith, has.1, inside)) (omega (arith, fits))
fills most s t count puts allowed («in».Full submit behind piece queue sends free low inside fits put is) =
    let has = sending s piece sends free in
    fills_fit most s count submit behind allowed queue has.0 low (omega (arith, has.1, inside)) (omega (arith, fits))
fills most s t count puts allowed («in».Short submit behind piece full queue sends free counts leaves inside less fits put is) =
    let has = sending s piece sends free in
    fills_fit most s count submit behind allowed queue has.0 (omega (arith, counts)) (omega (arith, has.1, counts, inside)) (last_fits count full submit counts leaves)
  where
    last_fits : (count full : ℕ) (submit : Pending) → count ≡ full + 1 → LeavesRoom full submit → count ≤ packets_of (room submit)
    last_fits count full submit counts (inl none) = omega (arith, counts, none)
    last_fits count full submit counts (inr some) = omega (arith, counts, some)
fills most s t count puts allowed («in».Overflows submit behind piece full queue sends free counts leaves inside over put is) =
    let has = sending s piece sends free in
    fills_fit most s count submit behind allowed queue has.0 (omega (arith, counts)) (omega (arith, has.1, counts, inside)) (last_fits count full submit counts leaves)
  where
    last_fits : (count full : ℕ) (submit : Pending) → count ≡ full + 1 → LeavesRoom full submit → count ≤ packets_of (room submit)
    last_fits count full submit counts (inl none) = omega (arith, counts, none)
    last_fits count full submit counts (inr some) = omega (arith, counts, some)

-- ---- the other endpoints

answers : (s t : State) (puts : List Put) → class.Answers s puts t → s.control ≢ []
answers s t puts (class.ByClass submit behind setup request served queue asks row serving put is) = some_there s.control behind submit queue
answers s t puts (class.ByStandard submit behind setup request queue asks row put is) = some_there s.control behind submit queue
answers s t puts (class.Unknown submit behind setup queue asks unknown put is) = some_there s.control behind submit queue

postpones : (s t : State) (puts : List Put) → class.Postpones s puts t → Needs event.Pending s
postpones s t puts (class.DoesPostpone submit behind setup request layout queue asks row stays put is) = record {
  submit = submit;
  behind = behind;
  setup = setup;
  request = request;
  layout = layout;
  first = queue;
  asks = asks;
  row = row;
  stays = stays;
}

polls : (s t : State) → class.PollsFirst s t → Needs event.Poll s
polls s t (class.DoesPollFirst submit behind setup tag queue asks row tagged unpolled free polling) = record {
  submit = submit;
  behind = behind;
  setup = setup;
  tag = tag;
  first = queue;
  asks = asks;
  row = row;
  tagged = tagged;
  unpolled = unpolled;
  none_queued = free;
}

notifies : (s t : State) (puts : List Put) → status.Notifies s puts t → Needs event.Notify s
notifies s t puts (status.Gives submit behind packet packets queue there long put is) = (some_there s.packets packets packet there, some_there s.interrupt_in behind submit queue)
notifies s t puts (status.NoRoom submit behind packet packets queue there short put is) = (some_there s.packets packets packet there, some_there s.interrupt_in behind submit queue)

halts : (s t : State) (puts : List Put) (ep : ℕ) (e : Endpoint) → number_of e ≡ ep → HaltsItself s e puts t → Needs (event.Halt ep) s
halts s t puts ep Control is (DoesHalt other usable put to) = absurd (other refl)
halts s t puts ep BulkOut is (DoesHalt other usable put to) = subst (λ (n : ℕ). Needs (event.Halt n) s) is (omega arith, omega arith, usable)
halts s t puts ep BulkIn is (DoesHalt other usable put to) = subst (λ (n : ℕ). Needs (event.Halt n) s) is (omega arith, omega arith, usable)
halts s t puts ep InterruptIn is (DoesHalt other usable put to) = subst (λ (n : ℕ). Needs (event.Halt n) s) is (omega arith, omega arith, usable)

executes : (s t : State) → out.Executes s t → s.waiting ≢ None
executes s t (out.DoesExecute seq message waits logs) = λ none. cc

-- ---- a lawful step that an event allows

fits : (e : DevEvent) (s t : State) (move : Move) (puts : List Put) → Allows e move → step.Leads s move puts t → Fits e s (count_of move)
fits (event.Take most) s t (step.Take count) puts allowed k = takes most s t count puts allowed k.0 k.1
fits event.Exec s t step.Exec puts allowed k = record { needs = executes s t k.0; most = omega arith }
fits (event.Begin most) s t (step.Begin count) puts allowed k = begins most s t count allowed k.0
fits (event.Fill most) s t (step.Fill count) puts allowed k = fills most s t count puts allowed k
fits event.Answer s t step.Answer puts allowed k = record { needs = answers s t puts k; most = omega arith }
fits event.Pending s t step.Pend puts allowed k = record { needs = postpones s t puts k; most = omega arith }
fits event.Poll s t step.Poll puts allowed k = record { needs = polls s t k.0; most = omega arith }
fits event.Notify s t step.Notify puts allowed k = record { needs = notifies s t puts k; most = omega arith }
fits (event.Halt ep) s t (step.Halt e) puts allowed k = record { needs = halts s t puts ep e allowed k; most = omega arith }
fits event.Unplug s t step.Unplug puts allowed k = record { needs = tt; most = omega arith }
-- no event allows another move
fits (event.Take most) s t (step.Comes message) puts allowed k = absurd allowed
fits (event.Take most) s t (step.Refuses devid bytes f) puts allowed k = absurd allowed
fits (event.Take most) s t step.Exec puts allowed k = absurd allowed
fits (event.Take most) s t (step.Begin count) puts allowed k = absurd allowed
fits (event.Take most) s t (step.Fill count) puts allowed k = absurd allowed
fits (event.Take most) s t step.Answer puts allowed k = absurd allowed
fits (event.Take most) s t step.Pend puts allowed k = absurd allowed
fits (event.Take most) s t step.Poll puts allowed k = absurd allowed
fits (event.Take most) s t step.Notify puts allowed k = absurd allowed
fits (event.Take most) s t (step.Halt e) puts allowed k = absurd allowed
fits (event.Take most) s t step.Unplug puts allowed k = absurd allowed
fits event.Exec s t (step.Comes message) puts allowed k = absurd allowed
fits event.Exec s t (step.Refuses devid bytes f) puts allowed k = absurd allowed
fits event.Exec s t (step.Take count) puts allowed k = absurd allowed
fits event.Exec s t (step.Begin count) puts allowed k = absurd allowed
fits event.Exec s t (step.Fill count) puts allowed k = absurd allowed
fits event.Exec s t step.Answer puts allowed k = absurd allowed
fits event.Exec s t step.Pend puts allowed k = absurd allowed
fits event.Exec s t step.Poll puts allowed k = absurd allowed
fits event.Exec s t step.Notify puts allowed k = absurd allowed
fits event.Exec s t (step.Halt e) puts allowed k = absurd allowed
fits event.Exec s t step.Unplug puts allowed k = absurd allowed
fits (event.Begin most) s t (step.Comes message) puts allowed k = absurd allowed
fits (event.Begin most) s t (step.Refuses devid bytes f) puts allowed k = absurd allowed
fits (event.Begin most) s t (step.Take count) puts allowed k = absurd allowed
fits (event.Begin most) s t step.Exec puts allowed k = absurd allowed
fits (event.Begin most) s t (step.Fill count) puts allowed k = absurd allowed
fits (event.Begin most) s t step.Answer puts allowed k = absurd allowed
fits (event.Begin most) s t step.Pend puts allowed k = absurd allowed
fits (event.Begin most) s t step.Poll puts allowed k = absurd allowed
fits (event.Begin most) s t step.Notify puts allowed k = absurd allowed
fits (event.Begin most) s t (step.Halt e) puts allowed k = absurd allowed
fits (event.Begin most) s t step.Unplug puts allowed k = absurd allowed
fits (event.Fill most) s t (step.Comes message) puts allowed k = absurd allowed
fits (event.Fill most) s t (step.Refuses devid bytes f) puts allowed k = absurd allowed
fits (event.Fill most) s t (step.Take count) puts allowed k = absurd allowed
fits (event.Fill most) s t step.Exec puts allowed k = absurd allowed
fits (event.Fill most) s t (step.Begin count) puts allowed k = absurd allowed
fits (event.Fill most) s t step.Answer puts allowed k = absurd allowed
fits (event.Fill most) s t step.Pend puts allowed k = absurd allowed
fits (event.Fill most) s t step.Poll puts allowed k = absurd allowed
fits (event.Fill most) s t step.Notify puts allowed k = absurd allowed
fits (event.Fill most) s t (step.Halt e) puts allowed k = absurd allowed
fits (event.Fill most) s t step.Unplug puts allowed k = absurd allowed
fits event.Answer s t (step.Comes message) puts allowed k = absurd allowed
fits event.Answer s t (step.Refuses devid bytes f) puts allowed k = absurd allowed
fits event.Answer s t (step.Take count) puts allowed k = absurd allowed
fits event.Answer s t step.Exec puts allowed k = absurd allowed
fits event.Answer s t (step.Begin count) puts allowed k = absurd allowed
fits event.Answer s t (step.Fill count) puts allowed k = absurd allowed
fits event.Answer s t step.Pend puts allowed k = absurd allowed
fits event.Answer s t step.Poll puts allowed k = absurd allowed
fits event.Answer s t step.Notify puts allowed k = absurd allowed
fits event.Answer s t (step.Halt e) puts allowed k = absurd allowed
fits event.Answer s t step.Unplug puts allowed k = absurd allowed
fits event.Pending s t (step.Comes message) puts allowed k = absurd allowed
fits event.Pending s t (step.Refuses devid bytes f) puts allowed k = absurd allowed
fits event.Pending s t (step.Take count) puts allowed k = absurd allowed
fits event.Pending s t step.Exec puts allowed k = absurd allowed
fits event.Pending s t (step.Begin count) puts allowed k = absurd allowed
fits event.Pending s t (step.Fill count) puts allowed k = absurd allowed
fits event.Pending s t step.Answer puts allowed k = absurd allowed
fits event.Pending s t step.Poll puts allowed k = absurd allowed
fits event.Pending s t step.Notify puts allowed k = absurd allowed
fits event.Pending s t (step.Halt e) puts allowed k = absurd allowed
fits event.Pending s t step.Unplug puts allowed k = absurd allowed
fits event.Poll s t (step.Comes message) puts allowed k = absurd allowed
fits event.Poll s t (step.Refuses devid bytes f) puts allowed k = absurd allowed
fits event.Poll s t (step.Take count) puts allowed k = absurd allowed
fits event.Poll s t step.Exec puts allowed k = absurd allowed
fits event.Poll s t (step.Begin count) puts allowed k = absurd allowed
fits event.Poll s t (step.Fill count) puts allowed k = absurd allowed
fits event.Poll s t step.Answer puts allowed k = absurd allowed
fits event.Poll s t step.Pend puts allowed k = absurd allowed
fits event.Poll s t step.Notify puts allowed k = absurd allowed
fits event.Poll s t (step.Halt e) puts allowed k = absurd allowed
fits event.Poll s t step.Unplug puts allowed k = absurd allowed
fits event.Notify s t (step.Comes message) puts allowed k = absurd allowed
fits event.Notify s t (step.Refuses devid bytes f) puts allowed k = absurd allowed
fits event.Notify s t (step.Take count) puts allowed k = absurd allowed
fits event.Notify s t step.Exec puts allowed k = absurd allowed
fits event.Notify s t (step.Begin count) puts allowed k = absurd allowed
fits event.Notify s t (step.Fill count) puts allowed k = absurd allowed
fits event.Notify s t step.Answer puts allowed k = absurd allowed
fits event.Notify s t step.Pend puts allowed k = absurd allowed
fits event.Notify s t step.Poll puts allowed k = absurd allowed
fits event.Notify s t (step.Halt e) puts allowed k = absurd allowed
fits event.Notify s t step.Unplug puts allowed k = absurd allowed
fits (event.Halt ep) s t (step.Comes message) puts allowed k = absurd allowed
fits (event.Halt ep) s t (step.Refuses devid bytes f) puts allowed k = absurd allowed
fits (event.Halt ep) s t (step.Take count) puts allowed k = absurd allowed
fits (event.Halt ep) s t step.Exec puts allowed k = absurd allowed
fits (event.Halt ep) s t (step.Begin count) puts allowed k = absurd allowed
fits (event.Halt ep) s t (step.Fill count) puts allowed k = absurd allowed
fits (event.Halt ep) s t step.Answer puts allowed k = absurd allowed
fits (event.Halt ep) s t step.Pend puts allowed k = absurd allowed
fits (event.Halt ep) s t step.Poll puts allowed k = absurd allowed
fits (event.Halt ep) s t step.Notify puts allowed k = absurd allowed
fits (event.Halt ep) s t step.Unplug puts allowed k = absurd allowed
fits event.Unplug s t (step.Comes message) puts allowed k = absurd allowed
fits event.Unplug s t (step.Refuses devid bytes f) puts allowed k = absurd allowed
fits event.Unplug s t (step.Take count) puts allowed k = absurd allowed
fits event.Unplug s t step.Exec puts allowed k = absurd allowed
fits event.Unplug s t (step.Begin count) puts allowed k = absurd allowed
fits event.Unplug s t (step.Fill count) puts allowed k = absurd allowed
fits event.Unplug s t step.Answer puts allowed k = absurd allowed
fits event.Unplug s t step.Pend puts allowed k = absurd allowed
fits event.Unplug s t step.Poll puts allowed k = absurd allowed
fits event.Unplug s t step.Notify puts allowed k = absurd allowed
fits event.Unplug s t (step.Halt e) puts allowed k = absurd allowed

pub enabled : (e : DevEvent) (s t : State) (move : Move) (puts : List Put) → Allows e move → Steps s move puts t → IsEnabled e s
enabled e s t move puts allowed steps = record { plugged = steps.plugged; needs = (fits e s t move puts allowed steps.leads).needs }

pub greatest : (e : DevEvent) (s t : State) (move : Move) (puts : List Put) → Allows e move → Steps s move puts t → count_of move ≤ count_of (move_of e s)
greatest e s t move puts allowed steps = (fits e s t move puts allowed steps.leads).most

numbered : (ep : ℕ) → 1 ≤ ep → ep ≤ 3 → number_of (endpoint_of ep) ≡ ep
numbered zero low high = absurd (omega (arith, low))
numbered (suc zero) low high = refl
numbered (suc (suc zero)) low high = refl
numbered (suc (suc (suc zero))) low high = refl
numbered (suc (suc (suc (suc n)))) low high = absurd (omega (arith, high))

-- the move of an event is one that it allows
pub allowed : (e : DevEvent) (s : State) → IsEnabled e s → Allows e (move_of e s)
allowed (event.Take most) s there = omega arith
allowed event.Exec s there = tt
allowed (event.Begin most) s there = omega arith
allowed (event.Fill most) s there = omega arith
allowed event.Answer s there = tt
allowed event.Pending s there = tt
allowed event.Poll s there = tt
allowed event.Notify s there = tt
allowed (event.Halt ep) s there = numbered ep there.needs.0 there.needs.1
allowed event.Unplug s there = tt

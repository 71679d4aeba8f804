-- a device at a position of the recovery stays there under what it does by itself
use Rattle.std.proofs.Common.{◌≡◌, ◌∙◌, ℕ, Bool, List, [], ◌∷◌, ◌++◌, Option, None, refl, sym, subst}
use Rattle.std.proofs.lemmas.Bool.{eq-eqb}
use Rattle.usbip_wire.specs.declared.submit.SubmitHead.{SubmitHead}
use Rattle.usbip_wire.specs.Up as up
use Rattle.tmc_law.specs.Endpoint.{Endpoint, Control, BulkOut, BulkIn, InterruptIn, number_of}
use Rattle.tmc_law.specs.State.{State, Pending, Transfer, Waiting, Piece, Side, Idle, Owed, Sending, Running, AbortsIn}
use Rattle.tmc_law.specs.Put.{Put}
use Rattle.tmc_law.specs.Halts.{halts, HaltsItself, DoesHalt}
use Rattle.tmc_law.specs.Queues.{Arrives, Queued, TurnedAway}
use Rattle.tmc_law.specs.BulkOut as out
use Rattle.tmc_law.specs.BulkIn as «in»
use Rattle.tmc_law.specs.Status as status
use Rattle.tmc_law.specs.Logging.{Logs}
use Rattle.tmc_law.specs.Step.{Move, Comes, Refuses, Take, Exec, Begin, Fill, Answer, Pend, Poll, Notify, Halt, Unplug, Leads}
use Rattle.tmc_law.specs.Run.{taken}
use Rattle.host_joint.specs.Lines.{sent_to, unlinks_in}
use Rattle.host_joint.specs.Positions.{Position, IsClosed, IsAt, NoTransfer, InTag, NoPiece, IsOwed, IsSent, rests, in_begun, in_wants, in_ended, out_begun, out_first, out_unfinished, out_aborted, anything, clears, cleared}
use Rattle.host_joint.specs.Requests.{NoBulk}

-- what a position reads of a state
pub record SameRest (s t : State) : Type 0 where
  pub bulk_out : t.bulk_out ≡ s.bulk_out
  pub bulk_in : t.bulk_in ≡ s.bulk_in
  pub running : t.running ≡ s.running
  pub side : t.side ≡ s.side
  pub transfer : t.transfer ≡ s.transfer
  pub part : t.part ≡ s.part
  pub waiting : t.waiting ≡ s.waiting
  pub shut : t.halted.bulk_out ≡ s.halted.bulk_out

pub rest_same : (position : Position) (s t : State) → SameRest s t → IsAt position s → IsAt position t
rest_same position s t same rest = record {
  bulk_out = same.bulk_out ∙ rest.bulk_out;
  bulk_in = same.bulk_in ∙ rest.bulk_in;
  running = subst (λ (x : Running). position.running x) (sym same.running) rest.running;
  side = subst (λ (x : Side). position.side x) (sym same.side) rest.side;
  out = subst (λ (x : Option Transfer). position.out x t.part) (sym same.transfer) (subst (λ (x : List ℕ). position.out s.transfer x) (sym same.part) rest.out);
  waits = subst (λ (x : Option Waiting). position.waits x) (sym same.waiting) rest.waits;
  shut = subst (λ (x : Bool). position.shut x) (sym same.shut) rest.shut;
}

pub rest_is : (position : Position) (w t : State) → t ≡ w → IsAt position w → IsAt position t
rest_is position w t is rest = subst (λ (x : State). IsAt position x) (sym is) rest

rest_logs : (position : Position) (e : _) (s t : State) → Logs e s t → IsAt position s → IsAt position t
rest_logs position e s t logs rest = rest_is position _ t logs.is (record {
  bulk_out = rest.bulk_out;
  bulk_in = rest.bulk_in;
  running = rest.running;
  side = rest.side;
  out = rest.out;
  waits = rest.waits;
  shut = rest.shut;
})

pub none_first : {B : Type 0} (submit : Pending) (behind queue : List Pending) → queue ≡ [] → queue ≡ submit ∷ behind → B
none_first submit behind queue none some = let e : [] ≡ submit ∷ behind = sym none ∙ some in absurd (cc)

pub no_take : (s t : State) (count : ℕ) (puts : List Put) → s.bulk_out ≡ [] → out.Takes s count puts t → ⊥
no_take s t count puts none (out.Empty submit behind line a b c d) = none_first _ _ _ none line
no_take s t count puts none (out.Spoiled submit behind line a b c d f g) = none_first _ _ _ none line
no_take s t count puts none (out.Inside submit after behind transfer grown line a b c d f g h i) = none_first _ _ _ none line
no_take s t count puts none (out.SubmitEnds submit after behind transfer grown line a b c d f g h i) = none_first _ _ _ none line
no_take s t count puts none (out.TransferEnds submit after behind transfer grown line a b c d f g h i) = none_first _ _ _ none line

pub no_fill : (s t : State) (count : ℕ) (puts : List Put) → s.bulk_in ≡ [] → «in».Fills s count puts t → ⊥
no_fill s t count puts none («in».Ends submit behind n line a b c d) = none_first _ _ _ none line
no_fill s t count puts none («in».Inside submit behind other line a b c d f g h) = none_first _ _ _ none line
no_fill s t count puts none («in».Full submit behind other line a b c d f g h) = none_first _ _ _ none line
no_fill s t count puts none («in».Short submit behind other n line a b c d f g h i j) = none_first _ _ _ none line
no_fill s t count puts none («in».Overflows submit behind other n line a b c d f g h i) = none_first _ _ _ none line

executes : (position : Position) (s t : State) → IsClosed position → out.Executes s t → IsAt position s → IsAt position t
executes position s t closed (out.DoesExecute seq message waits logs) rest =
    rest_logs position _ (record s { waiting = None }) t logs (record {
      bulk_out = rest.bulk_out;
      bulk_in = rest.bulk_in;
      running = rest.running;
      side = rest.side;
      out = rest.out;
      waits = closed.executes (record { seq = seq; message = message }) (subst (λ (x : Option Waiting). position.waits x) waits rest.waits);
      shut = rest.shut;
    })

begins : (position : Position) (s t : State) (count : ℕ) → IsClosed position → «in».Begins s count t → IsAt position s → IsAt position t
begins position s t count closed («in».DoesBegin tag size owes free low high logs) rest =
    rest_logs position _ _ t logs (record {
      bulk_out = rest.bulk_out;
      bulk_in = rest.bulk_in;
      running = rest.running;
      side = closed.begins s.running tag size _ rest.running free (subst (λ (x : Side). position.side x) owes rest.side) refl;
      out = rest.out;
      waits = rest.waits;
      shut = rest.shut;
    })

pub rest_halts : (position : Position) (s : State) (e : Endpoint) → IsClosed position → IsAt position s → IsAt position (halts e s)
rest_halts position s Control closed rest =
    record { bulk_out = rest.bulk_out; bulk_in = rest.bulk_in; running = rest.running; side = rest.side; out = rest.out; waits = rest.waits; shut = rest.shut }
rest_halts position s BulkOut closed rest = record {
  bulk_out = refl;
  bulk_in = rest.bulk_in;
  running = rest.running;
  side = rest.side;
  out = closed.drops_out s.transfer s.part rest.out;
  waits = rest.waits;
  shut = closed.shuts s.halted.bulk_out rest.shut;
}
rest_halts position s BulkIn closed rest = record {
  bulk_out = rest.bulk_out;
  bulk_in = refl;
  running = rest.running;
  side = closed.drops_in s.side rest.side;
  out = rest.out;
  waits = rest.waits;
  shut = rest.shut;
}
rest_halts position s InterruptIn closed rest =
    record { bulk_out = rest.bulk_out; bulk_in = rest.bulk_in; running = rest.running; side = rest.side; out = rest.out; waits = rest.waits; shut = rest.shut }

halts_itself : (position : Position) (s t : State) (e : Endpoint) (puts : List Put) → IsClosed position → HaltsItself s e puts t → IsAt position s → IsAt position t
halts_itself position s t e puts closed (DoesHalt other usable put is) rest = rest_is position _ t is (rest_halts position s e closed rest)

notifies : (position : Position) (s t : State) (puts : List Put) → IsClosed position → status.Notifies s puts t → IsAt position s → IsAt position t
notifies position s t puts closed (status.Gives submit behind packet packets line there long put is) rest =
    rest_is position _ t is (record { bulk_out = rest.bulk_out; bulk_in = rest.bulk_in; running = rest.running; side = rest.side; out = rest.out; waits = rest.waits; shut = rest.shut })
notifies position s t puts closed (status.NoRoom submit behind packet packets line there short put is) rest = rest_is position _ t is (rest_halts position s InterruptIn closed rest)

pub comes_none : {B : Type 0} (e : Endpoint) (head : SubmitHead) (transferred : List ℕ) (ups : List up.Message) → head.ep ≡ number_of e → sent_to e (up.Submit head transferred ∷ ups) ≡ [] → B
comes_none e head transferred ups is none =
    let own : sent_to e (up.Submit head transferred ∷ ups) ≡ record { head = head; transferred = transferred } ∷ sent_to e ups = rw (eq-eqb head.ep (number_of e) is) refl in
    let f : [] ≡ record { head = head; transferred = transferred } ∷ sent_to e ups = sym none ∙ own in absurd (cc)

arrives : (position : Position) (s t : State) (head : SubmitHead) (transferred : List ℕ) (puts : List Put) (ups : List up.Message) → NoBulk (up.Submit head transferred ∷ ups)
    → Arrives s head transferred puts t → IsAt position s → IsAt position t
arrives position s t head transferred puts ups none (Queued Control taken put is) rest =
    rest_is position _ t is (record { bulk_out = rest.bulk_out; bulk_in = rest.bulk_in; running = rest.running; side = rest.side; out = rest.out; waits = rest.waits; shut = rest.shut })
arrives position s t head transferred puts ups none (Queued BulkOut taken put is) rest = comes_none BulkOut head transferred ups taken.number none.outs
arrives position s t head transferred puts ups none (Queued BulkIn taken put is) rest = comes_none BulkIn head transferred ups taken.number none.ins
arrives position s t head transferred puts ups none (Queued InterruptIn taken put is) rest =
    rest_is position _ t is (record { bulk_out = rest.bulk_out; bulk_in = rest.bulk_in; running = rest.running; side = rest.side; out = rest.out; waits = rest.waits; shut = rest.shut })
arrives position s t head transferred puts ups none (TurnedAway away put is) rest = rest_is position s t is rest

-- a move that answers no control submit
abbrev pub LeavesControl : Move → Type 0
LeavesControl Answer = ⊥
LeavesControl Pend = ⊥
LeavesControl Poll = ⊥
LeavesControl _ = Unit {0}

pub rest_goes : (position : Position) (s t : State) (move : Move) (puts : List Put) (ups : List up.Message) → IsClosed position → NoBulk (taken move ++ ups) → LeavesControl move → Leads s move puts t
    → IsAt position s → IsAt position t
rest_goes position s t (Comes (up.Submit head transferred)) puts ups closed none leaves h rest = arrives position s t head transferred puts ups none h.3 rest
rest_goes position s t (Comes (up.Unlink head)) puts ups closed none leaves h rest = let e : head ∷ unlinks_in ups ≡ [] = none.unlinks in absurd (cc)
rest_goes position s t (Refuses devid bytes f) puts ups closed none leaves h rest =
    rest_is position _ t h.2 (record { bulk_out = rest.bulk_out; bulk_in = rest.bulk_in; running = rest.running; side = rest.side; out = rest.out; waits = rest.waits; shut = rest.shut })
rest_goes position s t (Take count) puts ups closed none leaves h rest = absurd (no_take s t count puts rest.bulk_out h.1)
rest_goes position s t Exec puts ups closed none leaves h rest = executes position s t closed h.0 rest
rest_goes position s t (Begin count) puts ups closed none leaves h rest = begins position s t count closed h.0 rest
rest_goes position s t (Fill count) puts ups closed none leaves h rest = absurd (no_fill s t count puts rest.bulk_in h)
rest_goes position s t Answer puts ups closed none leaves h rest = absurd leaves
rest_goes position s t Pend puts ups closed none leaves h rest = absurd leaves
rest_goes position s t Poll puts ups closed none leaves h rest = absurd leaves
rest_goes position s t Notify puts ups closed none leaves h rest = notifies position s t puts closed h rest
rest_goes position s t (Halt e) puts ups closed none leaves h rest = halts_itself position s t e puts closed h rest
rest_goes position s t Unplug puts ups closed none leaves h rest =
    rest_is position _ t h.is (record { bulk_out = refl; bulk_in = refl; running = rest.running; side = rest.side; out = rest.out; waits = rest.waits; shut = rest.shut })

-- ---- the positions are closed

no_owed : {B : Type 0} (tag size : ℕ) → Owed tag size ≡ Idle → B
no_owed tag size e = absurd (cc)

pub rests_closed : IsClosed rests
rests_closed = record { drops_in = λ x h. refl; begins = λ r tag size p h free owed same. no_owed tag size owed; drops_out = λ x part h. (refl, refl); executes = λ w h. tt; shuts = λ b h. tt }

pub in_begun_closed : (tag : ℕ) → IsClosed (in_begun tag)
in_begun_closed tag = record {
  drops_in = λ x h. NoPiece refl;
  begins = λ r g size p h free owed same. begin g size p owed same;
  drops_out = λ x part h. (refl, refl);
  executes = λ w h. tt;
  shuts = λ b h. tt;
}
  where
    begin : (g size : ℕ) (p : Piece) → InTag tag (Owed g size) → p.tag ≡ g → InTag tag (Sending p)
    begin g size p (NoPiece idle) same = no_owed g size idle
    begin g size p (IsOwed n owed) same = let e : g ≡ tag = cc in IsSent p refl (same ∙ e)
    begin g size p (IsSent piece sent is) same = absurd (cc)

-- no piece begins while an abort runs
no_begin : {B : Type 0} (r : Running) (wanting : Bool) (given : ℕ) → r ≡ AbortsIn wanting given → «in».NoAbortIn r → B
no_begin r wanting given is free = absurd (subst (λ (x : Running). «in».NoAbortIn x) is free)

pub in_wants_closed : IsClosed in_wants
in_wants_closed = record { drops_in = λ x h. tt; begins = λ r g size p h free owed same. tt; drops_out = λ x part h. (refl, refl); executes = λ w h. tt; shuts = λ b h. tt }

pub in_ended_closed : IsClosed in_ended
in_ended_closed = record { drops_in = λ x h. refl; begins = λ r g size p h free owed same. no_owed g size owed; drops_out = λ x part h. (refl, refl); executes = λ w h. tt; shuts = λ b h. tt }

pub out_begun_closed : (tag : ℕ) → IsClosed (out_begun tag)
out_begun_closed tag = record { drops_in = λ x h. refl; begins = λ r g size p h free owed same. no_owed g size owed; drops_out = λ x part h. NoTransfer refl; executes = λ w h. tt; shuts = λ b h. tt }

pub out_first_closed : (tag : ℕ) → IsClosed (out_first tag)
out_first_closed tag = record { drops_in = λ x h. refl; begins = λ r g size p h free owed same. no_owed g size owed; drops_out = λ x part h. (NoTransfer refl, refl); executes = λ w h. tt; shuts = λ b h. tt }

pub out_unfinished_closed : IsClosed out_unfinished
out_unfinished_closed = record { drops_in = λ x h. refl; begins = λ r g size p h free owed same. no_owed g size owed; drops_out = λ x part h. refl; executes = λ w h. tt; shuts = λ b h. tt }

pub out_aborted_closed : IsClosed out_aborted
out_aborted_closed = record { drops_in = λ x h. refl; begins = λ r g size p h free owed same. no_owed g size owed; drops_out = λ x part h. (refl, refl); executes = λ w h. tt; shuts = λ b h. refl }

pub anything_closed : IsClosed anything
anything_closed = record { drops_in = λ x h. tt; begins = λ r g size p h free owed same. tt; drops_out = λ x part h. tt; executes = λ w h. tt; shuts = λ b h. tt }

pub clears_closed : IsClosed clears
clears_closed = record { drops_in = λ x h. refl; begins = λ r g size p h free owed same. no_owed g size owed; drops_out = λ x part h. (refl, refl); executes = λ w h. refl; shuts = λ b h. refl }

pub cleared_closed : IsClosed cleared
cleared_closed = record { drops_in = λ x h. refl; begins = λ r g size p h free owed same. no_owed g size owed; drops_out = λ x part h. (refl, refl); executes = λ w h. refl; shuts = λ b h. tt }

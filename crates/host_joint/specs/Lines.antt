-- messages in flight: where the submits and unlinks are that a host made and that were not answered to it
use Rattle.std.specs.Prelude.{◌≡◌, ◌≢◌, ℕ, ◌==◌, if◌then◌else◌, List, [], ◌∷◌, ◌++◌, slice_index}
use Rattle.usbip_wire.specs.declared.submit.SubmitHead.{SubmitHead}
use Rattle.usbip_wire.specs.declared.unlink.UnlinkHead.{UnlinkHead}
use Rattle.usbip_wire.specs.declared.ret_submit.RetSubmitHead.{RetSubmitHead}
use Rattle.usbip_wire.specs.Up as up
use Rattle.tmc_law.specs.Endpoint.{Endpoint, number_of, way_of}
use Rattle.tmc_law.specs.State.{State, Pending, queue_of}
use Rattle.tmc_law.specs.Put.{Put, Submitted, Unlinked}

-- a submit with its data, on its way to the device
pub record Sent : Type 0 where
  pub head : SubmitHead
  pub transferred : List ℕ

-- of the messages on their way to the device, the submits to an endpoint
abbrev pub sent_to : Endpoint → List up.Message → List Sent
sent_to e [] = []
sent_to e (up.Submit head transferred ∷ messages) =
    if head.ep == number_of e then record { head = head; transferred = transferred } ∷ sent_to e messages else sent_to e messages
sent_to e (up.Unlink head ∷ messages) = sent_to e messages

abbrev pub sent_heads : List Sent → List SubmitHead
sent_heads [] = []
sent_heads (submit ∷ submits) = submit.head ∷ sent_heads submits

abbrev pub heads : List Pending → List SubmitHead
heads [] = []
heads (submit ∷ submits) = submit.head ∷ heads submits

-- What an answer says of the submits of an endpoint: one is answered, or the one with this number is over, because its
-- unlink was answered. Whether the unlink hit or missed makes no difference to the host's list.
pub data Event : Type 0 where
  Gives : (asked : SubmitHead) (answer : RetSubmitHead) (transferred : List ℕ) → Event
  Drops : (target : ℕ) → Event

-- of the answers on their way to the host, what they say of an endpoint's submits
abbrev pub events_of : Endpoint → List Put → List Event
events_of e [] = []
events_of e (Submitted asked answer transferred ∷ puts) =
    if asked.ep == number_of e then Gives asked answer transferred ∷ events_of e puts else events_of e puts
events_of e (Unlinked asked answer ∷ puts) = Drops asked.target ∷ events_of e puts

-- the submits of other numbers
abbrev pub without : ℕ → List SubmitHead → List SubmitHead
without n [] = []
without n (head ∷ others) = if head.seqnum == n then without n others else head ∷ without n others

-- A host takes these answers, each to the first submit of its list. These submits are then left.
abbrev pub LeftBy : List SubmitHead → List Event → List SubmitHead → Type 0
LeftBy asked [] left = left ≡ asked
LeftBy asked (Gives head answer transferred ∷ events) left = (rest : List SubmitHead) × (asked ≡ head ∷ rest) × LeftBy rest events left
LeftBy asked (Drops n ∷ events) left = LeftBy (without n asked) events left

-- of messages on their way to the device, the unlinks
abbrev pub unlinks_in : List up.Message → List UnlinkHead
unlinks_in [] = []
unlinks_in (up.Submit head transferred ∷ messages) = unlinks_in messages
unlinks_in (up.Unlink head ∷ messages) = head ∷ unlinks_in messages

-- of answers, the unlinks that they answer
abbrev pub unlinked_by : List Put → List UnlinkHead
unlinked_by [] = []
unlinked_by (Submitted asked answer transferred ∷ puts) = unlinked_by puts
unlinked_by (Unlinked asked answer ∷ puts) = asked ∷ unlinked_by puts

-- The submits to an endpoint that were not answered, in their order: once the answers on their way have come, those are left
-- that are pending and, behind them, those on their way to the device.
abbrev pub Line : Endpoint → List SubmitHead → List up.Message → List Put → State → Type 0
Line e asked ups downs s = LeftBy asked (events_of e downs) (heads (queue_of e s) ++ sent_heads (sent_to e ups))

-- Messages in flight: each submit of `asked` is on its way, pending, or answered on the way back, each endpoint's in their
-- order; and each unlink of `unlinks` is on its way, or answered on the way back.
pub record Lines (asked : Endpoint → List SubmitHead) (unlinks : List UnlinkHead) (ups : List up.Message) (downs : List Put) (s : State) : Type 0 where
  pub submits : (e : Endpoint) → Line e (asked e) ups downs s
  pub unlinked : unlinks ≡ unlinked_by downs ++ unlinks_in ups

-- no submit of these has this number
abbrev pub NoneNumbered : ℕ → List SubmitHead → Type 0
NoneNumbered n [] = Unit {0}
NoneNumbered n (head ∷ others) = (head.seqnum ≢ n) × NoneNumbered n others

-- a submit to an endpoint of the instrument, in its direction: a device takes it where the endpoint is not halted
pub record Fitting (head : SubmitHead) : Type 0 where
  pub endpoint : Endpoint
  pub number : head.ep ≡ number_of endpoint
  pub way : head.dir ≡ way_of endpoint (slice_index head.setup 0)

-- all submits of these messages fit
abbrev pub AllFitting : List up.Message → Type 0
AllFitting [] = Unit {0}
AllFitting (up.Submit head transferred ∷ messages) = Fitting head × AllFitting messages
AllFitting (up.Unlink head ∷ messages) = AllFitting messages

-- an unlink names no submit that comes behind it
abbrev pub InOrder : List up.Message → Type 0
InOrder [] = Unit {0}
InOrder (up.Submit head transferred ∷ messages) = InOrder messages
InOrder (up.Unlink head ∷ messages) =
    ((e : Endpoint) → NoneNumbered head.target (sent_heads (sent_to e messages))) × InOrder messages

-- nothing of an endpoint is on its way, pending or answered on the way back
pub record EmptyLine (e : Endpoint) (ups : List up.Message) (downs : List Put) (s : State) : Type 0 where
  pub queue : queue_of e s ≡ []
  pub sent : sent_to e ups ≡ []
  pub events : events_of e downs ≡ []

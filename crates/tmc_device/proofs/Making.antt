-- what makes a step
use Rattle.std.proofs.Common.{◌≡◌, ◌∙◌, ℕ, ℤ, Bool, true, false, List, [], ◌∷◌, ◌++◌, map, Result, Ok, Err, OnOk, is_err, refl, ap, sym, subst, append-nil}
use Rattle.tmc_law.specs.Endpoint.{Endpoint, Control, BulkOut, BulkIn, InterruptIn}
use Rattle.tmc_law.specs.State.{Pending, Packet, Plugged, queue_of}
use Rattle.tmc_law.specs.Put.{Put, ended}
use Rattle.tmc_law.specs.Logging.{with_service}
use Rattle.tmc_law.specs.Halts.{all_ended}
use Rattle.tmc_law.specs.Reached.{FirstBegins}
use Rattle.tmc_law.specs.Step.{Move, Leads}
use Rattle.msg_exchange.specs.Held.{Kept, Holds, led_to}
use Rattle.endpoint_pipes.specs.Held.{list_of}
use Rattle.endpoint_pipes.specs.Part.{queue_from}
use Rattle.tmc_device.specs.declared.body.Body.{Body}
use Rattle.tmc_device.specs.Parts.{presence_of, transfer_of}
use Rattle.tmc_device.specs.Seen.{Seen, Makes}
use Rattle.tmc_device.specs.Body.{state_of}
use Rattle.tmc_device.proofs.Halting.{each_ended}

-- a step that puts nothing out
pub quiet : (move : Move) (old new : Seen) → old.state.presence ≡ Plugged → Leads old.state move [] new.state → new.puts ≡ old.puts → Makes move old new
quiet move old new plugged leads same = record { puts = []; steps = record { plugged = plugged; leads = leads }; joins = same ∙ sym (append-nil old.puts) }

pub loud : (move : Move) (old new : Seen) (puts : List Put) → old.state.presence ≡ Plugged → Leads old.state move puts new.state → new.puts ≡ old.puts ++ puts → Makes move old new
loud move old new puts plugged leads joins = record { puts = puts; steps = record { plugged = plugged; leads = leads }; joins = joins }

pub is_plugged : (unplugged : Bool) → unplugged ≡ false → presence_of unplugged ≡ Plugged
is_plugged unplugged e = ap presence_of e

-- the same step from what looked the same before
pub from_same : (move : Move) (old prepared new : Seen) → prepared ≡ old → Makes move prepared new → Makes move old new
from_same move old prepared new same made = subst (λ (seen : Seen). Makes move seen new) same made

-- a device holds what its exchange does
pub own : (body : Body) → Holds (state_of body) body.exchange.held
own body = record { part = refl; waiting = refl; log = refl; standing = refl }

-- behind a logged entry, where RQS was noticed
pub logged : (body : Body) (x : Kept) (packets : List Packet) → x.coming ≡ body.exchange.coming → packets ≡ with_service body.exchange.held.standing x.held.standing body.packets
    → state_of (record body { exchange = x; packets = packets }) ≡ led_to (state_of body) x.held
logged body x packets came noticed =
    ap (λ (l : List Packet). state_of (record body { exchange = x; packets = l })) noticed
    ∙ ap (λ (l : List ℕ). record (led_to (state_of body) x.held) { transfer = transfer_of body.transfer l }) came

begins_from : (polled : Bool) (list : List Pending) → FirstBegins (queue_from Control polled list) → FirstBegins list
begins_from true [] h = tt
begins_from true (first ∷ others) h = h
begins_from false list h = h

-- of the lists of the pipes too the first alone has begun
pub first_begins : (body : Body) (e : Endpoint) → FirstBegins (queue_of e (state_of body)) → FirstBegins (list_of e body.pipes)
first_begins body Control h = begins_from body.polled body.pipes.control h
first_begins body BulkOut h = h
first_begins body BulkIn h = h
first_begins body InterruptIn h = h

ended_from : (status : ℤ) (polled : Bool) (list : List Pending) → all_ended status (queue_from Control polled list) ≡ all_ended status list
ended_from status true [] = refl
ended_from status true (first ∷ others) = refl
ended_from status false list = refl

same_ended : (status : ℤ) (body : Body) (e : Endpoint) → all_ended status (queue_of e (state_of body)) ≡ all_ended status (list_of e body.pipes)
same_ended status body Control = ended_from status body.polled body.pipes.control
same_ended status body BulkOut = refl
same_ended status body BulkIn = refl
same_ended status body InterruptIn = refl

-- the submits of a list that end, each with the bytes that it had
pub queue_ended : (status : ℤ) (body : Body) (e : Endpoint) → FirstBegins (queue_of e (state_of body))
    → map (λ (submit : Pending). ended status submit) (list_of e body.pipes) ≡ all_ended status (queue_of e (state_of body))
queue_ended status body e begins = each_ended status (list_of e body.pipes) (first_begins body e begins) ∙ sym (same_ended status body e)

pub on_ok : {A E : Type 0} (P : Type 0) (r : Result A E) → is_err r ≡ false → OnOk r P → P
on_ok P (Ok a) h p = p
on_ok P (Err e) h p = absurd (cc)

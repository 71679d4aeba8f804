-- an endpoint halts
use Rattle.std.proofs.Common.{◌≡◌, ◌∙◌, ℕ, ℤ, zero, suc, ◌<◌, true, List, [], ◌∷◌, map, Option, None, refl, ap, arith}
use Rattle.tmc_law.specs.Endpoint.{Endpoint, Control, BulkOut, BulkIn, InterruptIn}
use Rattle.tmc_law.specs.State.{State, Pending, queue_of, with_queue, with_halt}
use Rattle.tmc_law.specs.Put.{Put, ended, answer_of}
use Rattle.tmc_law.specs.Halts.{all_ended, without_transfer, halts}
use Rattle.tmc_law.specs.Reached.{AreFresh, FirstBegins}
use Rattle.msg_exchange.specs.Held.{Kept, Holds}
use Rattle.endpoint_pipes.specs.Held as pipes
use Rattle.tmc_device.specs.declared.body.Body.{Body}
use Rattle.tmc_device.specs.Parts.{Opening}
use Rattle.tmc_device.specs.Body.{state_of}

-- a halt of Bulk-OUT drops the transfer and the unfinished message
pub dropped : (body : Body) (x : Kept) (t : Option Opening) → t ≡ None → Holds (halts BulkOut (state_of body)) x.held
    → state_of (record body { exchange = x; transfer = t }) ≡ without_transfer BulkOut (state_of body)
dropped body x t none holds =
    ap (λ (o : Option Opening). state_of (record body { exchange = x; transfer = o })) none
    ∙ (let part = holds.part in let waiting = holds.waiting in let log = holds.log in let standing = holds.standing in cc)

-- the queue of an endpoint that is not the control endpoint is emptied, and the endpoint marked
pub emptied : (body : Body) (e : Endpoint) → (e ≡ Control → ⊥) → (p : pipes.Held) → p ≡ pipes.with_mark e true (pipes.with_list e [] body.pipes)
    → state_of (record body { pipes = p }) ≡ with_halt e true (with_queue e [] (state_of body))
emptied body Control apart p is = absurd (apart refl)
emptied body BulkOut apart p is = ap (λ (h : pipes.Held). state_of (record body { pipes = h })) is
emptied body BulkIn apart p is = ap (λ (h : pipes.Held). state_of (record body { pipes = h })) is
emptied body InterruptIn apart p is = ap (λ (h : pipes.Held). state_of (record body { pipes = h })) is

pub halts_is : (e : Endpoint) (s : State) → without_transfer e (with_halt e true (with_queue e [] s)) ≡ halts e s
halts_is Control s = refl
halts_is BulkOut s = refl
halts_is BulkIn s = refl
halts_is InterruptIn s = refl

-- where the first alone has begun, each ends with the bytes that it had
fresh_ended : (status : ℤ) (list : List Pending) → AreFresh list → map (λ (submit : Pending). ended status submit) list ≡ map (λ (submit : Pending). answer_of submit.head status []) list
fresh_ended status [] fresh = refl
fresh_ended status (submit ∷ list) fresh =
    ap (λ (moved : List ℕ). answer_of submit.head status moved ∷ map (λ (other : Pending). ended status other) list) fresh.0.0
    ∙ ap (λ (puts : List Put). answer_of submit.head status [] ∷ puts) (fresh_ended status list fresh.1)

pub each_ended : (status : ℤ) (list : List Pending) → FirstBegins list → map (λ (submit : Pending). ended status submit) list ≡ all_ended status list
each_ended status [] begins = refl
each_ended status (submit ∷ list) begins = ap (λ (puts : List Put). ended status submit ∷ puts) (fresh_ended status list begins)

-- the list of an endpoint that is not the control endpoint is its queue
pub own_queue : (body : Body) (e : Endpoint) → (e ≡ Control → ⊥) → pipes.list_of e body.pipes ≡ queue_of e (state_of body)
own_queue body Control apart = absurd (apart refl)
own_queue body BulkOut apart = refl
own_queue body BulkIn apart = refl
own_queue body InterruptIn apart = refl

-- the endpoints 1 to 3 are not the control endpoint
pub apart : (ep : ℕ) → 0 < ep → ep < 4 → pipes.endpoint_of ep ≡ Control → ⊥
apart zero some below = absurd (omega arith)
apart (suc zero) some below = λ h. cc
apart (suc (suc zero)) some below = λ h. cc
apart (suc (suc (suc zero))) some below = λ h. cc
apart (suc (suc (suc (suc n)))) some below = absurd (omega arith)

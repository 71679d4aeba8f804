-- a transfer takes effect
use Rattle.std.proofs.Common.{◌≡◌, ◌≢◌, ◌∙◌, ℕ, ◌+◌, ◌-◌, ◌==◌, Bool, true, false, List, [], ◌∷◌, length, take, drop, Option, None, refl, ap, sym, subst, arith}
use Rattle.std.specs.List.{slice_range}
use Rattle.std.proofs.lemmas.Bool.{eqb-true}
use Rattle.tmc_wire.specs.declared.header.OutHeader.TheVariants.{Request}
use Rattle.instr_plain.specs.declared.log.LogEntry.{LogEntry}
use Rattle.instr_plain.specs.declared.log.LogEntry.TheVariants as entry
use Rattle.tmc_law.specs.State.{State, Transfer, Packet, Side, Owed}
use Rattle.tmc_law.specs.Logging.{Logs, with_service, unread}
use Rattle.tmc_law.specs.BulkOut.{TakesEffect, Requests, RequestsNothing}
use Rattle.msg_exchange.specs.Held.{Kept, led_to}
use Rattle.tmc_device.specs.declared.body.Body.{Body}
use Rattle.tmc_device.specs.Parts.{Opening, transfer_of}
use Rattle.tmc_device.specs.Body.{state_of}
use Rattle.tmc_device.proofs.Making.{logged}

-- an entry was logged, and RQS noticed
pub logs_is : (e : LogEntry) (body : Body) (x : Kept) (packets : List Packet) → x.coming ≡ body.exchange.coming → Logs e (state_of body) (led_to (state_of body) x.held)
    → packets ≡ with_service body.exchange.held.standing x.held.standing body.packets → Logs e (state_of body) (state_of (record body { exchange = x; packets = packets }))
logs_is e body x packets came logs noticed = subst (λ (t : State). Logs e (state_of body) t) (sym (logged body x packets came noticed)) logs

-- the same of an effect, where no transfer is left
pub effect_is : (seqnum : ℕ) (transfer : Transfer) (body : Body) (x : Kept) (packets : List Packet) (t : Option Opening) → t ≡ None
    → TakesEffect seqnum transfer (record (state_of body) { transfer = None }) (led_to (record (state_of body) { transfer = None }) x.held)
    → packets ≡ with_service body.exchange.held.standing x.held.standing body.packets
    → TakesEffect seqnum transfer (record (state_of body) { transfer = None }) (state_of (record body { exchange = x; packets = packets; transfer = t }))
effect_is seqnum transfer body x packets t none effect noticed =
    subst (λ (o : Option Opening). TakesEffect seqnum transfer (record (state_of body) { transfer = None }) (state_of (record body { exchange = x; packets = packets; transfer = o }))) (sym none)
    (subst (λ (l : List Packet). TakesEffect seqnum transfer (record (state_of body) { transfer = None }) (state_of (record body { exchange = x; packets = l; transfer = None }))) (sym noticed) effect)

pub part_of : (xs : List ℕ) (n end : ℕ) → end ≡ 12 + n → slice_range xs 12 end ≡ take n (drop 12 xs)
part_of xs n end is = ap (λ (m : ℕ). take m (drop 12 xs)) (let less : end - 12 ≡ n = omega (arith, is) in less)

-- a request of a response that is there, and one where none is
pub requests : (seqnum tag size : ℕ) (taken : List ℕ) (body : Body) (t : Option Opening) (side : Side) → t ≡ None → side ≡ Owed tag size → unread (state_of body) ≢ []
    → TakesEffect seqnum (record { header = Request tag size; taken = taken }) (record (state_of body) { transfer = None }) (state_of (record body { transfer = t; side = side }))
requests seqnum tag size taken body t side none owed some =
    Requests tag size refl some
    (ap (λ (o : Option Opening). state_of (record body { transfer = o; side = side })) none ∙ ap (λ (v : Side). record (state_of body) { transfer = None; side = v }) owed)

pub requests_nothing : (seqnum tag size : ℕ) (taken : List ℕ) (body new : Body) (t : Option Opening) (side : Side) → t ≡ None → side ≡ Owed tag size → unread (state_of body) ≡ []
    → Logs entry.Bare (state_of (record body { transfer = t; side = side })) (state_of new)
    → TakesEffect seqnum (record { header = Request tag size; taken = taken }) (record (state_of body) { transfer = None }) (state_of new)
requests_nothing seqnum tag size taken body new t side none owed nothing logs =
    RequestsNothing tag size refl nothing
    (subst (λ (o : Option Opening). Logs entry.Bare (record (state_of body) { transfer = transfer_of o body.exchange.coming; side = Owed tag size }) (state_of new)) none
    (subst (λ (v : Side). Logs entry.Bare (record (state_of body) { transfer = transfer_of t body.exchange.coming; side = v }) (state_of new)) owed logs))

pub none_unread : (l : List ℕ) (n : Bool) → n ≡ (length l == 0) → n ≡ true → l ≡ []
none_unread [] n e h = refl
none_unread (x ∷ l) n e h = let z : length (x ∷ l) ≡ 0 = eqb-true (length (x ∷ l)) 0 (sym e ∙ h) in absurd (omega (arith, z))

pub some_unread : (l : List ℕ) (n : Bool) → n ≡ (length l == 0) → n ≡ false → l ≢ []
some_unread [] n e h = λ same. absurd (let f : true ≡ false = sym e ∙ h in cc)
some_unread (x ∷ l) n e h = λ same. cc

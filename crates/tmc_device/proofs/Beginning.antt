-- a piece begins
use Rattle.std.proofs.Common.{◌≡◌, ◌∙◌, ℕ, ◌-◌, ◌<◌, ◌≤◌, ◌%◌, ◌==◌, zero, suc, min, List, [], ◌∷◌, ◌++◌, length, take, replicate, refl, ap, subst, append_assoc, arith}
use Rattle.tmc_wire.specs.Header.{in_header_bytes}
use Rattle.instr_plain.specs.declared.log.LogEntry.TheVariants as entry
use Rattle.tmc_law.specs.State.{State, Packet, Side, Idle, Owed, Sending}
use Rattle.tmc_law.specs.Logging.{Logs, with_service, unread}
use Rattle.tmc_law.specs.BulkIn.{NoAbortIn, Begins, DoesBegin, piece_bytes}
use Rattle.msg_exchange.specs.Held.{Kept, Holds, led_to}
use Rattle.tmc_device.specs.declared.body.Body.{Body}
use Rattle.tmc_device.specs.declared.side.Phase.TheVariants as phase
use Rattle.tmc_device.specs.Parts.{running_of, phase_in}
use Rattle.tmc_device.specs.Events.{largest_piece}
use Rattle.tmc_device.specs.Body.{state_of}
use Rattle.tmc_device.proofs.Effects.{logs_is}

pub begins : (body : Body) (tag count size : ℕ) (x : Kept) (packets : List Packet) (side : Side) (bytes : List ℕ)
    → body.side ≡ Owed tag size → NoAbortIn (running_of body.running) → 0 < count → count ≤ size → count ≤ length (unread (state_of body))
    → side ≡ Sending (record { tag = tag; size = count; left = bytes }) → bytes ≡ piece_bytes tag count (unread (state_of body))
    → ((s : State) → Holds s body.exchange.held → Logs (entry.Took count) s (led_to s x.held))
    → x.coming ≡ body.exchange.coming → packets ≡ with_service body.exchange.held.standing x.held.standing body.packets
    → Begins (state_of body) count (state_of (record body { exchange = x; side = side; packets = packets }))
begins body tag count size x packets side bytes owed none some less there sends is took came noticed =
    DoesBegin tag size owed none some (omega (arith, less, there))
    (subst (λ (v : Side). Logs (entry.Took count) (record (state_of body) { side = v }) (state_of (record body { exchange = x; side = side; packets = packets })))
    (sends ∙ ap (λ (l : List ℕ). Sending (record { tag = tag; size = count; left = l })) is)
    (logs_is (entry.Took count) (record body { side = side }) x packets came
    (took (record (state_of body) { side = side }) (record { part = refl; waiting = refl; log = refl; standing = refl })) noticed))

zeros_of : (n : ℕ) → n < 4 → take {A = ℕ} n (0 ∷ 0 ∷ 0 ∷ []) ≡ replicate n 0
zeros_of zero less = refl
zeros_of (suc zero) less = refl
zeros_of (suc (suc zero)) less = refl
zeros_of (suc (suc (suc zero))) less = refl
zeros_of (suc (suc (suc (suc n)))) less = absurd (omega arith)

-- the bytes of its transfer: header, data and alignment behind one another
pub transfer_bytes : (tag count : ℕ) (response start header text zeros first second last : List ℕ) → start ≡ []
    → header ≡ in_header_bytes (record { tag = tag; size = count; eom = count == length response }) → text ≡ take count response
    → zeros ≡ take {A = ℕ} ((4 - count % 4) % 4) (0 ∷ 0 ∷ 0 ∷ []) → first ≡ start ++ header → second ≡ first ++ text → last ≡ second ++ zeros
    → last ≡ piece_bytes tag count response
transfer_bytes tag count response start header text zeros first second last empty headed datum aligned one two three =
    three ∙ ap (λ (l : List ℕ). l ++ zeros) (two ∙ ap (λ (l : List ℕ). l ++ text) (one ∙ ap (λ (l : List ℕ). l ++ header) empty))
    ∙ append_assoc header text zeros
    ∙ ap (λ (l : List ℕ). l ++ (text ++ zeros)) headed
    ∙ ap (λ (l : List ℕ). in_header_bytes (record { tag = tag; size = count; eom = count == length response }) ++ (l ++ zeros)) datum
    ∙ ap (λ (l : List ℕ). in_header_bytes (record { tag = tag; size = count; eom = count == length response }) ++ (take count response ++ l))
    (aligned ∙ zeros_of ((4 - count % 4) % 4) (omega arith))

pub owed_is : (side : Side) (tag size : ℕ) → phase_in side ≡ phase.Owed tag size → side ≡ Owed tag size
owed_is Idle tag size is = absurd (cc)
owed_is (Owed t n) tag size is = cc
owed_is (Sending piece) tag size is = absurd (cc)

pub largest_is : (s : State) (tag size : ℕ) → s.side ≡ Owed tag size → largest_piece s ≡ min size (length (unread s))
largest_is s tag size owed = ap (λ (v : Side). largest_piece (record s { side = v })) owed

pub least_of : (most size there larger count n : ℕ) → larger ≡ min size there → n ≡ min most size → count ≡ min n there → count ≡ min most larger
least_of most size there larger count n is first second = omega (arith, is, first, second)

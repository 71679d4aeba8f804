use Rattle.std.proofs.Common.{◌≡◌, ◌∙◌, ◌<◌, ◌≤◌, ◌+◌, ◌-◌, ◌*◌, ◌/◌, ℕ, [], ◌∷◌, length, min, ap, subst, arith}
use Rattle.tmc_law.specs.Endpoint.{BulkIn}
use Rattle.tmc_law.specs.State.{Side, Idle, room}
use Rattle.tmc_law.specs.Put.{ended, success}
use Rattle.tmc_law.specs.BulkIn.{filled}
use Rattle.tmc_law.specs.Step.{Fill}
use Rattle.endpoint_pipes.specs.declared.outcome.Pending.{Pending as First}
use Rattle.tmc_device.specs.Seen.{Makes}
use Rattle.tmc_device.specs.Parts.{left_in}
use Rattle.tmc_device.specs.Events.{packets_due}
use Rattle.tmc_device.specs.Body.{state_of, seen_of}
use Rattle.tmc_device.specs.Fill.{Became}
use Rattle.tmc_device.proofs.Making.{is_plugged}
use Rattle.tmc_device.proofs.FillSteps.{filling, room_for, due_is, inside_made, full_made, short_made, over_made}
use Rattle.tmc_device.proofs.body.Body.fill_first.Goals as goal
use Rattle.tmc_device.proofs.body.Body.fill_first.Goals.{else-size-left-via-then-size-left+else-size-room, else-size-left-via-else-size-left, else-size-left-2-via-then-size-left-2+else-size-room-2, else-size-left-2-via-else-size-left-2, else-size-left-3-via-then-size-left-3+else-left-room, else-size-left-3-via-else-size-left-3}

pub overflow_sub-room : goal.overflow_sub-room
overflow_sub-room c =
    let f = filling c.args.self.now c.args.first.now c.requires.ready.sound c.requires.first c.requires.sending in
    let moved = ap (λ (v : First). v.moved) f.value in
    let long = ap (λ (v : First). v.head.length) f.value in
    let within = f.within in omega (arith, moved, long, within)

pub give-requires-clause-room : goal.give-requires-clause-room
give-requires-clause-room c =
    let f = filling c.args.self.now c.args.first.now c.requires.ready.sound c.requires.first c.requires.sending in
    room_for _ c.args.self.now c.args.first.now f c.requires.first (omega (arith, c.if-size-room.true))

pub fill_up-requires-clause-room : goal.fill_up-requires-clause-room
fill_up-requires-clause-room c =
    let f = filling c.args.self.now c.args.first.now c.requires.ready.sound c.requires.first c.requires.sending in
    room_for _ c.args.self.now c.args.first.now f c.requires.first (omega (arith, c.if-size-room-2.true))

pub end_piece-requires-clause-room : goal.end_piece-requires-clause-room
end_piece-requires-clause-room c =
    let f = filling c.args.self.now c.args.first.now c.requires.ready.sound c.requires.first c.requires.sending in
    room_for _ c.args.self.now c.args.first.now f c.requires.first (omega (arith, c.if-left-room.true))

pub overflow-requires-clause-room : goal.overflow-requires-clause-room
overflow-requires-clause-room c =
    let f = filling c.args.self.now c.args.first.now c.requires.ready.sound c.requires.first c.requires.sending in
    room_for _ c.args.self.now c.args.first.now f c.requires.first (omega (arith, c.min-count.ensures, c.packets_of.ensures))

pub overflow-requires-clause-first : goal.overflow-requires-clause-first
overflow-requires-clause-first c = c.requires.ready.sound.first BulkIn

pub returns-then-size-room : goal.returns-then-size-room
returns-then-size-room c =
    let f = filling c.args.self.now c.args.first.now c.requires.ready.sound c.requires.first c.requires.sending in
    let left = ap length c.left-left.ensures ∙ ap (λ (v : Side). length (left_in v)) f.sending in
    let free = ap (λ (v : First). v.head.length - v.moved) f.value in
    let due = due_is (state_of c.args.self.now) f.submit f.behind f.piece f.is f.sending c.requires.none_wanted in
    let count : c.min-count.result ≡ min c.args.packets (packets_due (state_of c.args.self.now)) = omega (arith, due, left, free, c.min.ensures, c.min-count.ensures, c.packets_of.ensures) in
    subst (λ (n : ℕ). Makes (Fill n) (seen_of c.args.self.now) (seen_of c.give.new.self)) count
    (inside_made c.args.self.now c.give.new.self c.args.first.now f c.min-count.result (is_plugged c.args.self.now.unplugged c.requires.ready.plugged) c.requires.none_wanted
    (omega (arith, c.min.ensures, c.min-count.ensures, c.packets_of.ensures, c.requires.some)) (omega (arith, left, c.if-size-left.true)) (omega (arith, free, c.if-size-room.true))
    (c.give.ensures f.submit f.behind f.piece f.is f.sending))

pub returns-then-size-room-2 : goal.returns-then-size-room-2
returns-then-size-room-2 c =
    let f = filling c.args.self.now c.args.first.now c.requires.ready.sound c.requires.first c.requires.sending in
    let left = ap length c.left-left.ensures ∙ ap (λ (v : Side). length (left_in v)) f.sending in
    let free = ap (λ (v : First). v.head.length - v.moved) f.value in
    let due = due_is (state_of c.args.self.now) f.submit f.behind f.piece f.is f.sending c.requires.none_wanted in
    let count : c.min-count.result ≡ min c.args.packets (packets_due (state_of c.args.self.now)) = omega (arith, due, left, free, c.min.ensures, c.min-count.ensures, c.packets_of.ensures) in
    subst (λ (n : ℕ). Makes (Fill n) (seen_of c.args.self.now) (seen_of c.fill_up.new.self)) count
    (full_made c.args.self.now c.fill_up.new.self c.args.first.now f c.min-count.result (is_plugged c.args.self.now.unplugged c.requires.ready.plugged) c.requires.none_wanted
    (omega (arith, c.min.ensures, c.min-count.ensures, c.packets_of.ensures, c.requires.some)) (omega (arith, left, c.if-size-left-2.true)) (omega (arith, free, c.if-size-room-2.true))
    (c.fill_up.ensures f.submit f.behind f.piece f.is f.sending))

pub returns-then-left-room : goal.returns-then-left-room
returns-then-left-room c =
    let f = filling c.args.self.now c.args.first.now c.requires.ready.sound c.requires.first c.requires.sending in
    let left : length c.left-left.result.now ≡ length f.piece.left = ap length c.left-left.ensures ∙ ap (λ (v : Side). length (left_in v)) f.sending in
    let free = ap (λ (v : First). v.head.length - v.moved) f.value in
    let due = due_is (state_of c.args.self.now) f.submit f.behind f.piece f.is f.sending c.requires.none_wanted in
    let count : c.min-count.result ≡ min c.args.packets (packets_due (state_of c.args.self.now)) = omega (arith, due, left, free, c.min.ensures, c.min-count.ensures, c.packets_of.ensures) in
    subst (λ (n : ℕ). Makes (Fill n) (seen_of c.args.self.now) (seen_of c.end_piece.new.self)) count
    (short_made c.args.self.now c.end_piece.new.self c.args.first.now f c.min-count.result (is_plugged c.args.self.now.unplugged c.requires.ready.plugged) c.requires.none_wanted
    (omega (arith, c.min.ensures, c.min-count.ensures, c.packets_of.ensures, c.requires.some)) (omega (arith, free, c.min-count.ensures, c.packets_of.ensures))
    (omega (arith, left, c.min.ensures, c.min-count.ensures)) (omega (arith, left, c.if-size-left-3.true)) (omega (arith, left, free, c.if-left-room.true))
    (subst (λ (n : ℕ). Became (record (state_of c.args.self.now) { bulk_in = f.behind; side = Idle }) (ended success (filled n f.piece f.submit) ∷ []) c.args.self.now c.end_piece.new.self) left
    (c.end_piece.ensures f.submit f.behind f.piece f.is f.sending)))

pub returns-else-size-left-3 : goal.returns-else-size-left-3
returns-else-size-left-3 c =
    let f = filling c.args.self.now c.args.first.now c.requires.ready.sound c.requires.first c.requires.sending in
    let left : length c.left-left.result.now ≡ length f.piece.left = ap length c.left-left.ensures ∙ ap (λ (v : Side). length (left_in v)) f.sending in
    let free = ap (λ (v : First). v.head.length - v.moved) f.value in
    let due = due_is (state_of c.args.self.now) f.submit f.behind f.piece f.is f.sending c.requires.none_wanted in
    let count : c.min-count.result ≡ min c.args.packets (packets_due (state_of c.args.self.now)) = omega (arith, due, left, free, c.min.ensures, c.min-count.ensures, c.packets_of.ensures) in
    let some : 1 ≤ c.min-count.result = omega (arith, c.min.ensures, c.min-count.ensures, c.packets_of.ensures, c.requires.some) in
    let there : c.min-count.result ≤ length f.piece.left / 64 + 1 = omega (arith, left, c.min.ensures, c.min-count.ensures) in
    let over : room f.submit < (c.min-count.result - 1) * 64 + min 64 (length f.piece.left - (c.min-count.result - 1) * 64) =
    elim c.else-size-left.branch [
      | else-size-left-via-then-size-left+else-size-room w ↦ elim c.else-size-left-2.branch [
        | else-size-left-2-via-then-size-left-2+else-size-room-2 v ↦ omega (arith, left, free, some, w.if-size-left, w.if-size-room, v.if-size-room-2)
        | else-size-left-2-via-else-size-left-2 v ↦ absurd (omega (arith, w.if-size-left, v.if-size-left-2))
      ]
      | else-size-left-via-else-size-left w ↦ elim c.else-size-left-3.branch [
        | else-size-left-3-via-then-size-left-3+else-left-room v ↦ omega (arith, left, free, some, there, v.if-size-left-3, v.if-left-room)
        | else-size-left-3-via-else-size-left-3 v ↦ absurd (omega (arith, w.if-size-left, v.if-size-left-3))
      ]
    ] in
    subst (λ (n : ℕ). Makes (Fill n) (seen_of c.args.self.now) (seen_of c.overflow.new.self)) count
    (over_made c.args.self.now c.overflow.new.self c.args.first.now f c.min-count.result (is_plugged c.args.self.now.unplugged c.requires.ready.plugged) c.requires.none_wanted
    some (c.min-count.result * 64 - 64) (omega arith) (omega (arith, free, c.min-count.ensures, c.packets_of.ensures)) there over
    (c.overflow.ensures f.submit f.behind f.piece f.is f.sending))

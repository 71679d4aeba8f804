use Rattle.std.proofs.Common.{◌≡◌, ◌∙◌, refl, sym, ap, subst, List, [], ◌∷◌, ◌++◌, length, append_assoc, arith}
use Rattle.tmc_law.specs.Endpoint.{BulkOut}
use Rattle.tmc_law.specs.State.{State, Pending, Packet, Side, Idle, Clears}
use Rattle.tmc_law.specs.Put.{Put, stalled}
use Rattle.tmc_law.specs.Control.{control_answer}
use Rattle.tmc_law.specs.Halts.{halts, halt_answers, all_ended}
use Rattle.tmc_law.specs.Aborts.{DoesClear, part_answer}
use Rattle.tmc_law.specs.Reached.{AreFew, FirstBegins}
use Rattle.msg_exchange.specs.Held.{Holds, led_to}
use Rattle.endpoint_pipes.specs.Held as pipes
use Rattle.tmc_device.specs.Body.{state_of}
use Rattle.tmc_device.proofs.Logged.{own}
use Rattle.tmc_device.proofs.Roomy.{few_out}
use Rattle.tmc_device.proofs.Clearing.{left_of, is_logged}
use Rattle.tmc_law.specs.Aborts.{cleared}
use Rattle.tmc_device.proofs.body.Body.clear.Goals as goal

pub clear-requires : goal.clear-requires
clear-requires c =
    let asked = c.requires.asked in
    omega (arith, (c.reply.ensures asked.submit asked.behind asked.first).log, c.requires.ready.room.log)

pub notice-requires : goal.notice-requires
notice-requires c =
    let asked = c.requires.asked in
    subst (λ (p : List Packet). AreFew p) (sym (ap (λ (s : State). s.packets) (c.reply.ensures asked.submit asked.behind asked.first).state)) c.requires.ready.sound.few

pub end_part-requires : goal.end_part-requires
end_part-requires c =
    let asked = c.requires.asked in
    omega (arith, (c.reply.ensures asked.submit asked.behind asked.first).outputs, c.requires.ready.room.outputs)

pub halts-requires-clause-sound : goal.halts-requires-clause-sound
halts-requires-clause-sound c =
    let asked = c.requires.asked in
    let replied = c.reply.ensures asked.submit asked.behind asked.first in
    subst (λ (l : List Pending). FirstBegins l) (sym (ap (λ (p : pipes.Held). p.bulk_out) c.end_part.ensures.pipes ∙ ap (λ (s : State). s.bulk_out) replied.state))
    (c.requires.ready.sound.first BulkOut)

pub halts-requires-clause-room : goal.halts-requires-clause-room
halts-requires-clause-room c =
    let asked = c.requires.asked in
    let replied = c.reply.ensures asked.submit asked.behind asked.first in
    omega (
      arith,
      ap (λ (l : List Pending). length l) (ap (λ (p : pipes.Held). p.bulk_out) c.end_part.ensures.pipes ∙ ap (λ (s : State). s.bulk_out) replied.state),
      few_out c.args.self.now.pipes,
      replied.outputs,
      c.requires.ready.room.outputs,
      c.end_part.ensures.room,
    )

pub returns : goal.returns
returns c = λ submit behind first.
    let old = c.args.self.now in
    let mid = c.reply.new.self in
    let held = c.clear.new.self.held in
    let noticed = record mid { exchange = c.clear.new.self; packets = c.notice.new.self } in
    let parted = c.end_part.new.self in
    let replied = c.reply.ensures submit behind first in
    let s = record (state_of old) { control = behind } in
    let to = led_to (cleared s) held in
    let logs = c.clear.ensures.clears s (subst (λ (z : State). Holds z mid.exchange.held) replied.state (own mid)) in
    let parts : state_of parted ≡ state_of (record noticed { pipes = record mid.pipes { bulk_in = _ }; outputs = parted.outputs }) =
    ap state_of c.end_part.ensures.others ∙ ap (λ (p : pipes.Held). state_of (record noticed { pipes = p; outputs = parted.outputs })) c.end_part.ensures.pipes in
    let answer = control_answer submit c.args.asked.now.setup (1 ∷ []) in
    record {
      served = record { layout = 1 ∷ []; behind = part_answer s.bulk_in ++ halt_answers BulkOut s; state = to };
      serves = DoesClear to logs refl;
      joins =
          c.halts.ensures.puts
          ∙ (ap (λ (z : State). parted.outputs.puts ++ halt_answers BulkOut z) parts
          ∙ (ap (λ (l : List Pending). parted.outputs.puts ++ all_ended stalled l) (ap (λ (z : State). z.bulk_out) replied.state)
          ∙ (ap (λ (p : List Put). p ++ halt_answers BulkOut s)
          (c.end_part.ensures.puts
          ∙ (ap (λ (p : List Put). p ++ part_answer mid.pipes.bulk_in) replied.puts
          ∙ ap (λ (z : State). (old.outputs.puts ++ answer ∷ []) ++ part_answer z.bulk_in) replied.state))
          ∙ (append_assoc (old.outputs.puts ++ answer ∷ []) (part_answer s.bulk_in) (halt_answers BulkOut s)
          ∙ append_assoc old.outputs.puts (answer ∷ []) (part_answer s.bulk_in ++ halt_answers BulkOut s)))));
      is =
          ap (λ (x : Side). record (state_of c.halts.new.self) { side = x; running = Clears }) c.end.ensures
          ∙ (ap (λ (z : State). record z { side = Idle; running = Clears }) (c.halts.ensures.state ∙ ap (λ (z : State). halts BulkOut z) parts)
          ∙ (ap (λ (p : List Packet). record (left_of held (state_of mid)) { packets = p })
          (c.notice.ensures mid.exchange.held.standing held.standing c.status-before.ensures c.status.ensures)
          ∙ (ap (λ (z : State). left_of held z) replied.state
          ∙ is_logged held s logs)));
    }

-- packets that go into the first Bulk-IN submit are a step
use Rattle.std.proofs.Common.{◌≡◌, ◌∙◌, ◌⊎◌, inl, inr, ℕ, ◌+◌, ◌-◌, ◌*◌, ◌/◌, ◌<◌, ◌≤◌, zero, suc, min, max, true, false, List, [], ◌∷◌, ◌++◌, length, Option, Some, refl, ap, sym, subst, arith}
use Rattle.usbip_wire.specs.declared.urb.Dir.{Dir}
use Rattle.usbip_wire.specs.declared.urb.Dir.TheVariants.{In}
use Rattle.tmc_law.specs.Endpoint.{BulkIn}
use Rattle.tmc_law.specs.State.{State, Pending, Piece, Side, Idle, Owed, Sending, Running, Nothing, AbortsOut, AbortsIn, Clears, Plugged, room}
use Rattle.tmc_law.specs.Put.{ended, success}
use Rattle.tmc_law.specs.Halts.{halts, halt_answers}
use Rattle.tmc_law.specs.BulkIn.{Fills, Ends, Inside, Full, Short, Overflows, NoPacketWanted, filled, given}
use Rattle.tmc_law.specs.BulkOut.{packets_of}
use Rattle.tmc_law.specs.Acts.{Sized}
use Rattle.tmc_law.specs.Reached.{AllFit}
use Rattle.tmc_law.specs.Step.{Fill}
use Rattle.endpoint_pipes.specs.declared.outcome.Pending.{Pending as First}
use Rattle.endpoint_pipes.specs.Held.{Held, with_list}
use Rattle.endpoint_pipes.specs.Outcome.{first_of, HasRoom}
use Rattle.tmc_device.specs.declared.body.Body.{Body}
use Rattle.tmc_device.specs.declared.running.Running.{Running as Own}
use Rattle.tmc_device.specs.Parts.{Outbox, running_of}
use Rattle.tmc_device.specs.Events.{IsSending, packets_left, packets_into, packets_due}
use Rattle.tmc_device.specs.Seen.{Makes}
use Rattle.tmc_device.specs.Sound.{IsSound}
use Rattle.tmc_device.specs.Body.{state_of, seen_of}
use Rattle.tmc_device.specs.Fill.{Became, GaveBytes}
use Rattle.tmc_device.proofs.Firsts.{first_is}
use Rattle.tmc_device.proofs.Making.{quiet, loud}
use Rattle.tmc_device.proofs.Filling.{state_gave, same_outputs}

-- what is there when packets are given
pub record Filling (body : Body) (first : First) : Type 0 where
  pub submit : Pending
  pub behind : List Pending
  pub piece : Piece
  pub is : body.pipes.bulk_in ≡ submit ∷ behind
  pub sending : body.side ≡ Sending piece
  pub value : first ≡ record { head = submit.head; moved = length submit.moved }
  pub way : submit.head.dir ≡ In
  pub within : length submit.moved ≤ submit.head.length

sized_in : (d : Dir) (submit : Pending) → d ≡ In → Sized d submit → length submit.moved ≤ submit.head.length
sized_in d submit in_way sized = (subst (λ (way : Dir). Sized way submit) in_way sized).0

the_piece : (side : Side) → IsSending side → (piece : Piece) × (side ≡ Sending piece)
the_piece Idle sending = absurd sending
the_piece (Owed tag size) sending = absurd sending
the_piece (Sending piece) sending = (piece, refl)

pub filling : (body : Body) (first : First) → IsSound (state_of body) → first_of body.pipes.bulk_in ≡ Some first → IsSending body.side → Filling body first
filling body first sound is sending =
    let f = first_is body.pipes.bulk_in first is in
    let fits = (subst (AllFit BulkIn) f.is (sound.stand BulkIn)).0 in
    let p = the_piece body.side sending in record {
      submit = f.submit;
      behind = f.behind;
      piece = p.0;
      is = f.is;
      sending = p.1;
      value = f.value;
      way = fits.way;
      within = sized_in f.submit.head.dir f.submit fits.way fits.sized;
    }

pub room_for : (n : ℕ) (body : Body) (first : First) (f : Filling body first) → first_of body.pipes.bulk_in ≡ Some first → n ≤ first.head.length - first.moved
    → HasRoom n (first_of body.pipes.bulk_in)
room_for n body first f is less =
    let way : first.head.dir ≡ In = ap (λ (v : First). v.head.dir) f.value ∙ f.way in
    let moved : first.moved ≡ length f.submit.moved = ap (λ (v : First). v.moved) f.value in
    let long : first.head.length ≡ f.submit.head.length = ap (λ (v : First). v.head.length) f.value in
    let within = f.within in
    subst (λ (o : Option First). HasRoom n o) (sym is) (way, omega (arith, less, moved, long, within))

due_left : (running : Running) (piece : Piece) → NoPacketWanted running → packets_left running (Sending piece) ≡ length piece.left / 64 + 1
due_left Nothing piece none = refl
due_left AbortsOut piece none = refl
due_left (AbortsIn true given) piece none = absurd none
due_left (AbortsIn false given) piece none = refl
due_left Clears piece none = refl

pub due_is : (s : State) (submit : Pending) (behind : List Pending) (piece : Piece) → s.bulk_in ≡ submit ∷ behind → s.side ≡ Sending piece → NoPacketWanted s.running
    → packets_due s ≡ min (length piece.left / 64 + 1) (packets_of (room submit))
due_is s submit behind piece is sending none =
    ap (λ (v : Side). min (packets_left s.running v) (packets_into s.bulk_in)) sending
    ∙ ap (λ (n : ℕ). min n (packets_into s.bulk_in)) (due_left s.running piece none)
    ∙ ap (λ (l : List Pending). min (length piece.left / 64 + 1) (packets_into l)) is

pub leaves : (full r : ℕ) → full + 1 ≤ max 1 ((r + 63) / 64) → (full ≡ 0) ⊎ (full * 64 < r)
leaves zero r less = inl refl
leaves (suc n) r less = inr (omega arith)

module _ (body new : Body) (first : First) (f : Filling body first) (count : ℕ) (plugged : (state_of body).presence ≡ Plugged) (none : NoPacketWanted (state_of body).running) (some : 1 ≤ count) where
  pub inside_made : count * 64 ≤ length f.piece.left → count * 64 < room f.submit → GaveBytes (count * 64) f.submit f.behind f.piece body new
      → Makes (Fill count) (seen_of body) (seen_of new)
  inside_made less fits g =
      quiet (Fill count) (seen_of body) (seen_of new) plugged
      (subst (λ (t : State). Fills (state_of body) count [] t) (sym (state_gave (count * 64) f.submit f.behind f.piece body new g))
      (Inside f.submit f.behind f.piece f.is f.sending none some less fits refl refl))
      (ap (λ o. o.puts) (same_outputs (count * 64) f.submit f.behind f.piece body new g))

  pub full_made : count * 64 ≤ length f.piece.left → count * 64 ≡ room f.submit
      → Became (record (state_of body) { bulk_in = f.behind; side = Sending (given (count * 64) f.piece) }) (ended success (filled (count * 64) f.piece f.submit) ∷ []) body new
      → Makes (Fill count) (seen_of body) (seen_of new)
  full_made less fits b =
      loud (Fill count) (seen_of body) (seen_of new) (ended success (filled (count * 64) f.piece f.submit) ∷ []) plugged
      (Full f.submit f.behind f.piece f.is f.sending none some less fits refl b.state) b.puts

  pub short_made : count ≤ packets_of (room f.submit) → count ≤ length f.piece.left / 64 + 1 → length f.piece.left < count * 64 → length f.piece.left ≤ room f.submit
      → Became (record (state_of body) { bulk_in = f.behind; side = Idle }) (ended success (filled (length f.piece.left) f.piece f.submit) ∷ []) body new
      → Makes (Fill count) (seen_of body) (seen_of new)
  short_made into there short fits b =
      loud (Fill count) (seen_of body) (seen_of new) (ended success (filled (length f.piece.left) f.piece f.submit) ∷ []) plugged
      (Short f.submit f.behind f.piece (count - 1) f.is f.sending none (omega arith) (leaves (count - 1) (room f.submit) (omega (arith, into)))
      (omega (arith, there)) short fits refl b.state) b.puts

  pub over_made : (size : ℕ) → size ≡ (count - 1) * 64 → count ≤ packets_of (room f.submit) → count ≤ length f.piece.left / 64 + 1
      → room f.submit < (count - 1) * 64 + min 64 (length f.piece.left - (count - 1) * 64)
      → Became (halts BulkIn (state_of body)) (halt_answers BulkIn (record (state_of body) { bulk_in = filled size f.piece f.submit ∷ f.behind })) body new
      → Makes (Fill count) (seen_of body) (seen_of new)
  over_made size is into there over b =
      loud (Fill count) (seen_of body) (seen_of new) (halt_answers BulkIn (record (state_of body) { bulk_in = filled size f.piece f.submit ∷ f.behind })) plugged
      (Overflows f.submit f.behind f.piece (count - 1) f.is f.sending none (omega arith) (leaves (count - 1) (room f.submit) (omega (arith, into)))
      (omega (arith, there)) over (ap (λ (n : ℕ). halt_answers BulkIn (record (state_of body) { bulk_in = filled n f.piece f.submit ∷ f.behind })) is) b.state) b.puts

-- an abort was drained
pub drained : (body : Body) (submit : Pending) (behind : List Pending) (given : ℕ) (p : Held) (side : Side) (running : Own) (o : Outbox)
    → (state_of body).presence ≡ Plugged → body.pipes.bulk_in ≡ submit ∷ behind → running_of body.running ≡ AbortsIn true given → running_of running ≡ AbortsIn false given
    → p ≡ with_list BulkIn behind body.pipes → side ≡ Idle → o.puts ≡ body.outputs.puts ++ ended success submit ∷ []
    → Makes (Fill 1) (seen_of body) (seen_of (record body { pipes = p; side = side; running = running; outputs = o }))
drained body submit behind given p side running o plugged is wanting later left idle put =
    loud (Fill 1) (seen_of body) (seen_of (record body { pipes = p; side = side; running = running; outputs = o })) (ended success submit ∷ []) plugged
    (Ends submit behind given is wanting refl refl
    (ap (λ (held : Held). state_of (record body { pipes = held; side = side; running = running })) left
    ∙ ap (λ (v : Side). record (state_of body) { bulk_in = behind; side = v; running = running_of running }) idle
    ∙ ap (λ (r : Running). record (state_of body) { bulk_in = behind; side = Idle; running = r }) later)) put

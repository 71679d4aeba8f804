use Rattle.std.proofs.Common.{◌≡◌, ◌∙◌, refl, sym, ap, subst, List, [], ◌∷◌, ◌++◌, drop, length, arith}
use Rattle.usbip_wire.specs.declared.submit.SubmitHead.{SubmitHead}
use Rattle.usbip_wire.specs.declared.urb.Dir.{Dir}
use Rattle.usbip_wire.specs.declared.urb.Dir.TheVariants.{In}
use Rattle.tmc_law.specs.Endpoint.{InterruptIn}
use Rattle.tmc_law.specs.State.{Pending, Packet, StatusPacket, ServicePacket}
use Rattle.tmc_law.specs.Put.{answer_of, returned, success}
use Rattle.tmc_law.specs.Halts.{halt_answers}
use Rattle.tmc_law.specs.Reached.{AllFit}
use Rattle.tmc_law.specs.Status.{Gives, NoRoom, packet_bytes}
use Rattle.endpoint_pipes.specs.declared.outcome.Pending.{Pending as First}
use Rattle.endpoint_pipes.specs.Held as pipes
use Rattle.tmc_device.specs.Parts.{packet_of, presence_of}
use Rattle.tmc_device.specs.Body.{state_of}
use Rattle.tmc_device.proofs.Firsts.{first_is}
use Rattle.tmc_device.proofs.body.Body.notify_first.Goals as goal

two : (packet : Packet) → 2 ≡ length (packet_bytes packet)
two (StatusPacket tag byte) = refl
two (ServicePacket byte) = refl

pub halts-requires-clause-sound : goal.halts-requires-clause-sound
halts-requires-clause-sound c = c.requires.ready.sound.first InterruptIn

pub returns-then-first-lt-PACKET_BYTES : goal.returns-then-first-lt-PACKET_BYTES
returns-then-first-lt-PACKET_BYTES c =
    let old = c.args.self.now in
    let first = first_is old.pipes.interrupt_in c.args.first.now c.requires.first in
    record {
      puts = halt_answers InterruptIn (state_of old);
      steps = record {
        plugged = ap presence_of c.requires.ready.plugged;
        leads = NoRoom first.submit first.behind (packet_of c.args.packet) (drop 1 old.packets) first.is c.requires.packet
            (omega (arith, c.if-first-lt-PACKET_BYTES.true, ap (λ (f : First). f.head.length) first.value)) refl c.halts.ensures.state;
      };
      joins = c.halts.ensures.puts;
    }

pub returns : goal.returns
returns c =
    let old = c.args.self.now in
    let first = first_is old.pipes.interrupt_in c.args.first.now c.requires.first in
    let packet = packet_of c.args.packet in
    let head : c.args.first.now.head ≡ first.submit.head = ap (λ (f : First). f.head) first.value in
    let way : first.submit.head.dir ≡ In = (subst (λ (l : List Pending). AllFit InterruptIn l) first.is (c.requires.ready.sound.stand InterruptIn)).0.way in
    record {
      puts = answer_of first.submit.head success (packet_bytes packet) ∷ [];
      steps = record {
        plugged = ap presence_of c.requires.ready.plugged;
        leads = Gives first.submit first.behind packet (drop 1 old.packets) first.is c.requires.packet
            (omega (arith, c.if-first-lt-PACKET_BYTES.false, ap (λ (f : First). f.head.length) first.value)) refl
            (ap (λ (p : pipes.Held). state_of (record old { pipes = p; packets = c.drop_first.new.self })) (c.answer.ensures.left first.submit first.behind first.is)
            ∙ ap (λ (q : List Packet). record (state_of old) { interrupt_in = first.behind; packets = q }) c.drop_first.ensures);
      };
      joins = c.answer-2.ensures.put (packet_bytes packet) (two packet) (c.requires.bytes ∙ ap (λ (d : Dir). returned d (packet_bytes packet)) (sym way ∙ ap (λ (h : SubmitHead). h.dir) (sym head)))
          ∙ ap (λ (h : SubmitHead). old.outputs.puts ++ answer_of h success (packet_bytes packet) ∷ []) head;
    }

use Rattle.std.proofs.Common.{◌≡◌, length, Ok, ap, subst, arith}
use Rattle.std.proofs.lemmas.List.{length-append}
use Rattle.usbip_wire.specs.UpForm.{up_form}
use Rattle.usbip_wire.specs.UpFed.{Held}
use Rattle.usbip_wire.specs.Urb.{message_max}
use Rattle.usbip_wire.specs.Form.{read}
use Rattle.usbip_wire.specs.declared.up.UpPhase.{UpPhase}
use Rattle.usbip_wire.proofs.UpRead.{up_within}
use Rattle.usbip_wire.proofs.UpFeeding.{answers_front, front_ends}
use Rattle.usbip_wire.proofs.Whole.{front, front_used, front_within}
use Rattle.usbip_wire.proofs.up_reader.UpReader.take_whole.Goals as goal

pub overflow_sub-used : goal.overflow_sub-used
overflow_sub-used c = front_used (up_form c.args.self.now.phase) c.args.piece.now c.in-Ok.left.now c.in-Ok.what c.are_bytes.ensures (subst (λ (p : UpPhase). read (up_form p) c.args.piece.now ≡ Ok (c.in-Ok.what, c.in-Ok.left.now)) (ap (λ (h : Held). h.phase) c.self.view_is) c.in-Ok.ensures)

pub add-requires-clause-room : goal.add-requires-clause-room
add-requires-clause-room c =
    omega (arith, ap length c.requires.empty, front_within (up_form c.args.self.now.phase) c.args.piece.now c.in-Ok.left.now c.in-Ok.what c.are_bytes.ensures (subst (λ (p : UpPhase). read (up_form p) c.args.piece.now ≡ Ok (c.in-Ok.what, c.in-Ok.left.now)) (ap (λ (h : Held). h.phase) c.self.view_is) c.in-Ok.ensures) message_max (up_within c.args.self.now.phase))

pub add-requires-clause-ends : goal.add-requires-clause-ends
add-requires-clause-ends c =
    front_ends c.args.self.now.phase c.args.self.now.rest c.args.piece.now c.in-Ok.left.now c.in-Ok.what c.requires.empty c.are_bytes.ensures (subst (λ (p : UpPhase). read (up_form p) c.args.piece.now ≡ Ok (c.in-Ok.what, c.in-Ok.left.now)) (ap (λ (h : Held). h.phase) c.self.view_is) c.in-Ok.ensures)

pub returns-clause-whole : goal.returns-clause-whole
returns-clause-whole c =
    answers_front c.args.self.now c.add.new.self c.finish.new.self c.args.piece.now c.in-Ok.left.now c.in-Ok.what c.requires.unread c.requires.good c.requires.empty
    c.are_bytes.ensures (subst (λ (p : UpPhase). read (up_form p) c.args.piece.now ≡ Ok (c.in-Ok.what, c.in-Ok.left.now)) (ap (λ (h : Held). h.phase) c.self.view_is) c.in-Ok.ensures) c.add.ensures c.finish.ensures

pub returns-clause-one_held : goal.returns-clause-one_held
returns-clause-one_held c =
    omega (
      arith,
      ap (λ (h : Held). length h.rest) c.finish.ensures,
      ap (λ (h : Held). length h.rest) c.add.ensures,
      ap length c.requires.empty,
      length-append c.args.self.now.rest (front c.args.piece.now c.in-Ok.left.now),
      front_within (up_form c.args.self.now.phase) c.args.piece.now c.in-Ok.left.now c.in-Ok.what c.are_bytes.ensures (subst (λ (p : UpPhase). read (up_form p) c.args.piece.now ≡ Ok (c.in-Ok.what, c.in-Ok.left.now)) (ap (λ (h : Held). h.phase) c.self.view_is) c.in-Ok.ensures) message_max (up_within c.args.self.now.phase),
    )

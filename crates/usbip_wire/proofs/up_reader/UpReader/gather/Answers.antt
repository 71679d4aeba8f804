use Rattle.std.proofs.Common.{◌≡◌, ℕ, ◌+◌, ◌-◌, List, ◌++◌, length, take, drop, ap, subst, ◌∙◌, arith, false, None}
use Rattle.std.proofs.lemmas.List.{length-append, length-drop, length-take}
use Rattle.usbip_wire.specs.UpForm.{up_form}
use Rattle.usbip_wire.specs.UpFed.{Held}
use Rattle.usbip_wire.specs.Urb.{message_max}
use Rattle.usbip_wire.proofs.Forms.{exact, missing, within_most}
use Rattle.usbip_wire.proofs.Pieces.{next_of_piece}
use Rattle.usbip_wire.proofs.UpRead.{up_within}
use Rattle.usbip_wire.proofs.UpFeeding.{begun, answers_whole, answers_bad, answers_more, EndsHere, none_missing, still_missing}
use Rattle.usbip_wire.proofs.up_reader.UpReader.gather.Goals as goal

pub loop-what-init : goal.loop-what-init
loop-what-init c = record {
  within = omega arith;
  held = begun c.args.self.now c.requires.unread c.requires.good;
  edge = none_missing c.args.self.now c.know.ensures.bytes;
  one_held = c.know.ensures.one_held;
}

pub returns-in-Ok-clause-answers : goal.returns-in-Ok-clause-answers
returns-in-Ok-clause-answers c =
    answers_whole c.args.self.now.phase c.args.self.now.rest c.args.piece.now c.loop-what.used c.loop-what.self c.in-Ok.what _
    c.loop-what.invariant.within c.loop-what.invariant.held c.in-Ok.ensures.bytes c.in-Ok.ensures.judged c.finish.ensures

pub returns-in-Err-Refused-clause-answers : goal.returns-in-Err-Refused-clause-answers
returns-in-Err-Refused-clause-answers c =
    let e = rw c.in-Err-Refused.field-0-is at c.in-Err-Refused.ensures.judged in
    answers_bad c.args.self.now.phase c.args.self.now.rest c.args.piece.now c.loop-what.used c.loop-what.self c.in-Err-Refused.field _
    c.loop-what.invariant.within (c.loop-what.invariant.edge c.in-Err-Refused.field e) c.loop-what.invariant.held c.in-Err-Refused.ensures.bytes e c.refuse.ensures

pub returns-then-rest-missing-clause-answers : goal.returns-then-rest-missing-clause-answers
returns-then-rest-missing-clause-answers c =
    let e = rw c.in-Err-Short.field-0-is at c.in-Err-Short.ensures.judged in
    answers_more c.args.self.now.phase c.args.self.now.rest c.args.piece.now c.loop-what.used c.loop-what.self c.add.new.self c.in-Err-Short.missing
    c.loop-what.invariant.held e (omega (arith, c.if-rest-missing.true, length-drop c.loop-what.used c.args.piece.now)) c.add.ensures

pub returns-then-rest-missing-clause-one_held : goal.returns-then-rest-missing-clause-one_held
returns-then-rest-missing-clause-one_held c =
    let e = rw c.in-Err-Short.field-0-is at c.in-Err-Short.ensures.judged in
    let most = within_most (up_form c.loop-what.self.phase) message_max c.loop-what.self.rest c.in-Err-Short.missing (up_within c.loop-what.self.phase) e in
    omega (
      arith,
      most,
      ap (λ (h : Held). length h.rest) c.add.ensures,
      length-append c.loop-what.self.rest (take (length c.args.piece.now - c.loop-what.used) (drop c.loop-what.used c.args.piece.now)),
      length-take (length c.args.piece.now - c.loop-what.used) (drop c.loop-what.used c.args.piece.now),
      length-drop c.loop-what.used c.args.piece.now,
      c.if-rest-missing.true,
    )

pub add-requires-clause-room : goal.add-requires-clause-room
add-requires-clause-room c =
    let e = rw c.in-Err-Short.field-0-is at c.in-Err-Short.ensures.judged in
    let most = within_most (up_form c.loop-what.self.phase) message_max c.loop-what.self.rest c.in-Err-Short.missing (up_within c.loop-what.self.phase) e in
    omega (arith, most, c.if-rest-missing.true, length-drop c.loop-what.used c.args.piece.now)

pub add-requires-clause-ends : goal.add-requires-clause-ends
add-requires-clause-ends c = λ what left w.
    let e = rw c.in-Err-Short.field-0-is at c.in-Err-Short.ensures.judged in
    exact (up_form c.loop-what.self.phase) c.loop-what.self.rest _ c.in-Err-Short.missing what left e
    (omega (arith, c.if-rest-missing.true, length-drop c.loop-what.used c.args.piece.now)) w

pub add-requires-in-Err-Short-clause-room : goal.add-requires-in-Err-Short-clause-room
add-requires-in-Err-Short-clause-room c =
    let e = rw c.in-Err-Short.field-0-is at c.in-Err-Short.ensures.judged in
    let most = within_most (up_form c.loop-what.self.phase) message_max c.loop-what.self.rest c.in-Err-Short.missing (up_within c.loop-what.self.phase) e in
    omega (arith, most, length-take (c.loop-what.used + c.in-Err-Short.missing - c.loop-what.used) (drop c.loop-what.used c.args.piece.now))

pub add-requires-in-Err-Short-clause-ends : goal.add-requires-in-Err-Short-clause-ends
add-requires-in-Err-Short-clause-ends c = λ what left w.
    let e = rw c.in-Err-Short.field-0-is at c.in-Err-Short.ensures.judged in
    exact (up_form c.loop-what.self.phase) c.loop-what.self.rest _ c.in-Err-Short.missing what left e
    (omega (arith, length-take (c.loop-what.used + c.in-Err-Short.missing - c.loop-what.used) (drop c.loop-what.used c.args.piece.now))) w

pub loop-what-smaller : goal.loop-what-smaller
loop-what-smaller c =
    let e = rw c.in-Err-Short.field-0-is at c.in-Err-Short.ensures.judged in
    let some = missing (up_form c.loop-what.self.phase) c.loop-what.self.rest c.in-Err-Short.missing e in
    omega (arith, some, c.loop-what.invariant.within, c.if-rest-missing.false)

pub loop-what-preserved : goal.loop-what-preserved
loop-what-preserved c =
    let e = rw c.in-Err-Short.field-0-is at c.in-Err-Short.ensures.judged in
    let next : List ℕ = take (c.loop-what.used + c.in-Err-Short.missing - c.loop-what.used) (drop c.loop-what.used c.args.piece.now) in
    let long : length next ≡ c.in-Err-Short.missing =
    omega (arith, c.if-rest-missing.false, c.loop-what.invariant.within, length-drop c.loop-what.used c.args.piece.now, length-take (c.loop-what.used + c.in-Err-Short.missing - c.loop-what.used) (drop c.loop-what.used c.args.piece.now)) in
    let most = within_most (up_form c.loop-what.self.phase) message_max c.loop-what.self.rest c.in-Err-Short.missing (up_within c.loop-what.self.phase) e in
    record {
      within = omega (arith, c.if-rest-missing.false, c.loop-what.invariant.within);
      held = c.add-in-Err-Short.ensures ∙ (ap (λ (h : Held). record h { rest = h.rest ++ next }) c.loop-what.invariant.held
          ∙ ap (λ (t : List ℕ). record { phase = c.args.self.now.phase; rest = t; whole = false; bad = None }) (next_of_piece c.args.self.now.rest c.args.piece.now c.loop-what.used c.in-Err-Short.missing));
      edge =
          subst (λ (n : ℕ). EndsHere c.args.self.now.rest (c.loop-what.used + n) c.add-in-Err-Short.new.self) long
          (still_missing c.args.self.now.rest c.args.piece.now next c.loop-what.used c.loop-what.self c.add-in-Err-Short.new.self c.in-Err-Short.missing
          c.loop-what.invariant.within (ap (λ (h : Held). h.rest) c.loop-what.invariant.held) c.add-in-Err-Short.ensures e (omega (arith, long)));
      one_held = omega (arith, ap (λ (h : Held). length h.rest) c.add-in-Err-Short.ensures, length-append c.loop-what.self.rest next, long, most);
    }

pub finish-requires : goal.finish-requires
finish-requires c = ap (λ (h : Held). h.bad) c.loop-what.invariant.held

pub refuse-requires : goal.refuse-requires
refuse-requires c = ap (λ (h : Held). h.whole) c.loop-what.invariant.held

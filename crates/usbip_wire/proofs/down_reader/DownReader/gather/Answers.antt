use Rattle.std.proofs.Common.{◌≡◌, ℕ, ◌+◌, ◌-◌, ◌≤◌, List, [], ◌++◌, length, take, drop, ap, subst, ◌∙◌, arith, false, None, Ok}
use Rattle.std.proofs.lemmas.List.{length-append, length-drop, length-take}
use Rattle.usbip_wire.specs.Form.{read}
use Rattle.usbip_wire.specs.DownForm.{down_form}
use Rattle.usbip_wire.specs.DownFed.{Held}
use Rattle.usbip_wire.specs.Urb.{message_max}
use Rattle.usbip_wire.proofs.Forms.{missing, within_most}
use Rattle.usbip_wire.proofs.Pieces.{next_of_piece}
use Rattle.usbip_wire.proofs.DownRead.{down_within, none_ends}
use Rattle.usbip_wire.proofs.DownFeeding.{begun, ended, answers_whole, answers_bad, answers_more, still_ends, keeps_whole, EndsHere, none_missing, still_missing}
use Rattle.usbip_wire.proofs.down_reader.DownReader.gather.Goals as goal

pub loop-what-init : goal.loop-what-init
loop-what-init c = record {
  within = omega arith;
  held = begun c.args.self.now c.requires.unread c.requires.good;
  ends = none_ends c.args.self.now.phase c.args.dirs.now c.args.self.now.rest c.know.ensures.bytes;
  edge = none_missing c.args.dirs.now c.args.self.now c.know.ensures.bytes;
  one_held = c.know.ensures.one_held;
}

pub returns-in-Ok-clause-fresh : goal.returns-in-Ok-clause-fresh
returns-in-Ok-clause-fresh c = λ none.
    let judged = c.in-Ok.ensures.judged in
    let e : read (down_form c.loop-what.self.phase c.args.dirs.now) c.loop-what.self.rest ≡ Ok (c.in-Ok.what, []) =
    ended c.loop-what.self.phase c.args.dirs.now c.loop-what.self.rest c.in-Ok.what judged.0 judged.1 (c.loop-what.invariant.ends none) in
    answers_whole c.args.self.now.phase c.args.dirs.now c.args.self.now.rest c.args.piece.now c.loop-what.used c.loop-what.self c.in-Ok.what _
    c.loop-what.invariant.within c.loop-what.invariant.held c.in-Ok.ensures.bytes e c.finish.ensures

pub returns-in-Ok-clause-always : goal.returns-in-Ok-clause-always
returns-in-Ok-clause-always c =
    let judged = c.in-Ok.ensures.judged in
    keeps_whole c.args.self.now.phase c.args.dirs.now c.args.self.now.rest c.args.piece.now c.loop-what.used c.loop-what.self c.in-Ok.what judged.0 _
    c.loop-what.invariant.within c.loop-what.invariant.held c.in-Ok.ensures.bytes judged.1 c.finish.ensures

pub returns-in-Err-Refused-clause-always : goal.returns-in-Err-Refused-clause-always
returns-in-Err-Refused-clause-always c =
    let e = rw c.in-Err-Refused.field-0-is at c.in-Err-Refused.ensures.judged in
    answers_bad c.args.self.now.phase c.args.dirs.now c.args.self.now.rest c.args.piece.now c.loop-what.used c.loop-what.self c.in-Err-Refused.field _
    c.loop-what.invariant.within (c.loop-what.invariant.edge c.in-Err-Refused.field e) c.loop-what.invariant.held c.in-Err-Refused.ensures.bytes e
    c.refuse.ensures

pub returns-in-Err-Refused-clause-fresh : goal.returns-in-Err-Refused-clause-fresh
returns-in-Err-Refused-clause-fresh c = λ none.
    let e = rw c.in-Err-Refused.field-0-is at c.in-Err-Refused.ensures.judged in
    answers_bad c.args.self.now.phase c.args.dirs.now c.args.self.now.rest c.args.piece.now c.loop-what.used c.loop-what.self c.in-Err-Refused.field _
    c.loop-what.invariant.within (c.loop-what.invariant.edge c.in-Err-Refused.field e) c.loop-what.invariant.held c.in-Err-Refused.ensures.bytes e
    c.refuse.ensures

pub returns-then-rest-missing-clause-always : goal.returns-then-rest-missing-clause-always
returns-then-rest-missing-clause-always c =
    let e = rw c.in-Err-Short.field-0-is at c.in-Err-Short.ensures.judged in
    answers_more c.args.self.now.phase c.args.dirs.now c.args.self.now.rest c.args.piece.now c.loop-what.used c.loop-what.self c.add.new.self c.in-Err-Short.missing
    c.loop-what.invariant.held e (omega (arith, c.if-rest-missing.true, length-drop c.loop-what.used c.args.piece.now)) c.add.ensures

pub returns-then-rest-missing-clause-fresh : goal.returns-then-rest-missing-clause-fresh
returns-then-rest-missing-clause-fresh c = λ none.
    let e = rw c.in-Err-Short.field-0-is at c.in-Err-Short.ensures.judged in
    answers_more c.args.self.now.phase c.args.dirs.now c.args.self.now.rest c.args.piece.now c.loop-what.used c.loop-what.self c.add.new.self c.in-Err-Short.missing
    c.loop-what.invariant.held e (omega (arith, c.if-rest-missing.true, length-drop c.loop-what.used c.args.piece.now)) c.add.ensures

pub returns-then-rest-missing-clause-one_held : goal.returns-then-rest-missing-clause-one_held
returns-then-rest-missing-clause-one_held c =
    let e = rw c.in-Err-Short.field-0-is at c.in-Err-Short.ensures.judged in
    let most = within_most (down_form c.loop-what.self.phase c.args.dirs.now) message_max c.loop-what.self.rest c.in-Err-Short.missing (down_within c.loop-what.self.phase c.args.dirs.now c.in-Err-Short.ensures.short) e in
    omega (
      arith,
      most,
      ap (λ (h : Held). length h.rest) c.add.ensures,
      length-append c.loop-what.self.rest (take (length c.args.piece.now - c.loop-what.used) (drop c.loop-what.used c.args.piece.now)),
      length-take (length c.args.piece.now - c.loop-what.used) (drop c.loop-what.used c.args.piece.now),
      length-drop c.loop-what.used c.args.piece.now,
      c.if-rest-missing.true,
    )

pub add-requires : goal.add-requires
add-requires c =
    let e = rw c.in-Err-Short.field-0-is at c.in-Err-Short.ensures.judged in
    let most = within_most (down_form c.loop-what.self.phase c.args.dirs.now) message_max c.loop-what.self.rest c.in-Err-Short.missing (down_within c.loop-what.self.phase c.args.dirs.now c.in-Err-Short.ensures.short) e in
    omega (arith, most, c.if-rest-missing.true, length-drop c.loop-what.used c.args.piece.now)

pub add-requires-in-Err-Short : goal.add-requires-in-Err-Short
add-requires-in-Err-Short c =
    let e = rw c.in-Err-Short.field-0-is at c.in-Err-Short.ensures.judged in
    let most = within_most (down_form c.loop-what.self.phase c.args.dirs.now) message_max c.loop-what.self.rest c.in-Err-Short.missing (down_within c.loop-what.self.phase c.args.dirs.now c.in-Err-Short.ensures.short) e in
    omega (arith, most, length-take (c.loop-what.used + c.in-Err-Short.missing - c.loop-what.used) (drop c.loop-what.used c.args.piece.now))

pub loop-what-smaller : goal.loop-what-smaller
loop-what-smaller c =
    let e = rw c.in-Err-Short.field-0-is at c.in-Err-Short.ensures.judged in
    let some = missing (down_form c.loop-what.self.phase c.args.dirs.now) c.loop-what.self.rest c.in-Err-Short.missing e in
    omega (arith, some, c.loop-what.invariant.within, c.if-rest-missing.false)

pub loop-what-preserved : goal.loop-what-preserved
loop-what-preserved c =
    let e = rw c.in-Err-Short.field-0-is at c.in-Err-Short.ensures.judged in
    let next : List ℕ = take (c.loop-what.used + c.in-Err-Short.missing - c.loop-what.used) (drop c.loop-what.used c.args.piece.now) in
    let long : length next ≡ c.in-Err-Short.missing =
    omega (arith, c.if-rest-missing.false, c.loop-what.invariant.within, length-drop c.loop-what.used c.args.piece.now, length-take (c.loop-what.used + c.in-Err-Short.missing - c.loop-what.used) (drop c.loop-what.used c.args.piece.now)) in
    let few : length next ≤ c.in-Err-Short.missing = omega (arith, long) in
    let most = within_most (down_form c.loop-what.self.phase c.args.dirs.now) message_max c.loop-what.self.rest c.in-Err-Short.missing (down_within c.loop-what.self.phase c.args.dirs.now c.in-Err-Short.ensures.short) e in
    record {
      within = omega (arith, c.if-rest-missing.false, c.loop-what.invariant.within);
      held = c.add-in-Err-Short.ensures ∙ (ap (λ (h : Held). record h { rest = h.rest ++ next }) c.loop-what.invariant.held
          ∙ ap (λ (t : List ℕ). record { phase = c.args.self.now.phase; rest = t; whole = false; bad = None }) (next_of_piece c.args.self.now.rest c.args.piece.now c.loop-what.used c.in-Err-Short.missing));
      ends = λ none. still_ends c.args.dirs.now c.loop-what.self c.add-in-Err-Short.new.self next c.in-Err-Short.missing c.add-in-Err-Short.ensures e few;
      edge =
          subst (λ (n : ℕ). EndsHere c.args.dirs.now c.args.self.now.rest (c.loop-what.used + n) c.add-in-Err-Short.new.self) long
          (still_missing c.args.dirs.now c.args.self.now.rest c.args.piece.now next c.loop-what.used c.loop-what.self c.add-in-Err-Short.new.self c.in-Err-Short.missing
          c.loop-what.invariant.within (ap (λ (h : Held). h.rest) c.loop-what.invariant.held) c.add-in-Err-Short.ensures e few);
      one_held = omega (arith, ap (λ (h : Held). length h.rest) c.add-in-Err-Short.ensures, length-append c.loop-what.self.rest next, few, most);
    }

pub finish-requires : goal.finish-requires
finish-requires c = ap (λ (h : Held). h.bad) c.loop-what.invariant.held

pub refuse-requires : goal.refuse-requires
refuse-requires c = ap (λ (h : Held). h.whole) c.loop-what.invariant.held

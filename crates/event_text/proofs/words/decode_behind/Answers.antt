use Rattle.std.proofs.Common.{rules, ◌≡◌, sym, ◌∙◌, ℕ, ◌+◌, ◌-◌, ◌/◌, ◌++◌, length, length-take, length-drop, take, drop, replicate, Ok, arith}
use Rattle.std.specs.Vec.{vec_len}
use Rattle.hex.specs.Hex.{decode_of}
use Rattle.event_text.proofs.Decoding.{sized, filled, decoded_as, room_front, room_length, none_behind}
use Rattle.event_text.proofs.words.decode_behind.Goals as goal

pub returns-in-Ok : goal.returns-in-Ok
returns-in-Ok c =
    let old = c.args.out.now.items in
    let room = c.deref_mut.result.now in
    let digits = c.decode_to_slice.new.out in
    let start = c.len-start.result in
    let half : ℕ = length c.args.word.now / 2 in
    let place : start ≡ length old = search rules in
    let count : ℕ = vec_len c.args.out.now in
    let counted : count ≡ length old = search rules in
    let made : room ≡ take (start + half) old ++ replicate (start + half - count) 0 = c.deref_mut.ensures.value ∙ c.in_ok-resize.ensures.items in
    let long : length room ≡ start + half = room_length old room (start + half) (start + half - count) made (omega (arith, place)) (omega (arith, counted)) in
    let size : length (take (length room - start) (drop start room)) ≡ half = omega (arith, long, length-take (length room - start) (drop start room), length-drop start room) in
    let kept : length digits ≡ length (take (length room - start) (drop start room)) = c.decode_to_slice.auto.out in
    let done = decoded_as _ c.decode_to_slice.result digits c.decode_to_slice.ensures.value c.in-Ok.is in
    let decoded : decode_of c.args.word.now ≡ Ok digits = sym (sized c.args.word.now _ size) ∙ done in (
      digits,
      decoded,
      filled old room digits _ _ start c.resize.new.self.len (room_front old room start (start + half) (start + half - count) place made (omega arith))
          (c.in_ok-resize.ensures.len ∙ omega (arith, place, size, kept)) (none_behind start room),
    )

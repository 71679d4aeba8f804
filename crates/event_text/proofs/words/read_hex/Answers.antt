use Rattle.std.proofs.Common.{sym, refl, ◌∙◌}
use Rattle.event_text.proofs.Decoding.{upper_none, empty_none, hex_read, none_left, some_left}
use Rattle.event_text.proofs.words.read_hex.Goals as goal

pub returns-then-has_upper : goal.returns-then-has_upper
returns-then-has_upper c = (upper_none c.args.word.now (sym c.has_upper.ensures ∙ c.if-has_upper.true), refl)

pub returns-then-is_empty : goal.returns-then-is_empty
returns-then-is_empty c = (empty_none c.args.word.now (none_left c.args.word.now (sym c.is_empty.ensures ∙ c.if-is_empty.true)), refl)

pub returns : goal.returns
returns c =
    hex_read c.args.word.now c.args.out.now.items c.decode_behind.result c.decode_behind.new.out.items (sym c.is.ensures ∙ c.if-is.false)
    (some_left c.args.word.now (sym c.is_empty.ensures ∙ c.if-is_empty.false)) (sym c.has_upper.ensures ∙ c.if-has_upper.false) c.decode_behind.ensures

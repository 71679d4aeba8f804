-- parts of a line
use Rattle.std.specs.Prelude.{List, ℕ}
use Rattle.std.specs.Fmt.{decimal, signed_decimal}
use Rattle.hex.specs.Hex.{encode_lower}
use Rattle.event_text.specs.declared.text.Part.{Part}
use Rattle.event_text.specs.declared.text.Part.TheVariants.{Word, Number, Signed, Hex, Digits, Field, Outcome, End, Answer}
use Rattle.event_text.specs.Outcome.{outcome_words, end_words}
use Rattle.event_text.specs.Printed.{field_words}
use Rattle.event_text.specs.Report.{answer_words}
use Rattle.event_text.specs.Words.{hex_word}

abbrev pub part_text : Part → List ℕ
part_text (Word word) = word.now
part_text (Number number) = decimal number
part_text (Signed number) = signed_decimal number
part_text (Hex bytes) = hex_word bytes.now
part_text (Digits bytes) = encode_lower bytes.now
part_text (Field f) = field_words f
part_text (Outcome outcome) = outcome_words outcome
part_text (End end) = end_words end
part_text (Answer answer) = answer_words answer

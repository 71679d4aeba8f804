use Rattle.std.proofs.Common.{sym, ◌∙◌, ap, arith, ◌≡◌, ◌<◌, ◌^◌, true, subst}
use Rattle.std.proofs.lemmas.Fmt.{parse-decimal, IsAscii-decimal}
use Rattle.std.proofs.lemmas.Str.{IsUtf8-from_ascii}
use Rattle.std.specs.Fmt.{decimal}
use Rattle.std.specs.Str.{IsUtf8}
use Rattle.std.specs.Str.Parse.{IsNumeral, digits_value, without_leading_plus}
use Rattle.event_text.specs.Read.{starts_plain}
use Rattle.event_text.proofs.Numbers.{number_is, not_number}
use Rattle.event_text.proofs.Plain.{signless, plain_is, written_plain}
use Rattle.event_text.proofs.words.read_number.Goals as goal

pub returns-then-not-is_plain : goal.returns-then-not-is_plain
returns-then-not-is_plain c =
    not_number c.args.word.now (λ n small e.
    let plain : c.is_plain.result ≡ true = c.is_plain.ensures ∙ (ap starts_plain e ∙ written_plain n small) in
    cc)

pub returns-in_default : goal.returns-in_default
returns-in_default c =
    not_number c.args.word.now (λ n small e. c.in_default.ensures.cases.0 (subst (λ bs. IsUtf8 bs) (sym e) (IsUtf8-from_ascii (decimal n) (IsAscii-decimal n (omega (arith, small))))))

pub returns-in-Ok-parse : goal.returns-in-Ok-parse
returns-in-Ok-parse c =
    let yes : c.is_plain.result ≡ true = cc in
    let plain : starts_plain c.args.word.now ≡ true = sym c.is_plain.ensures ∙ yes in
    let bare : without_leading_plus c.in-Ok.text.now ≡ c.args.word.now = ap without_leading_plus c.in-Ok.ensures.cases.0 ∙ signless c.args.word.now plain in
    let digits : IsNumeral 10 c.args.word.now = subst (λ ds. IsNumeral 10 ds) bare c.in-Ok-parse.ensures.value.0.0.0 in
    let value : c.in-Ok-parse.number ≡ digits_value 10 c.args.word.now = c.in-Ok-parse.ensures.value.0.1 ∙ ap (λ ds. digits_value 10 ds) bare in
    let small : digits_value 10 c.args.word.now < 2 ^ 32 = subst (λ ds. digits_value 10 ds < 2 ^ 32) bare c.in-Ok-parse.ensures.value.0.0.1 in
    let written : c.args.word.now ≡ decimal c.in-Ok-parse.number = plain_is c.args.word.now plain digits small ∙ ap decimal (sym value) in
    number_is c.args.word.now c.in-Ok-parse.number (omega (arith, small, value)) written

pub returns-in-Err : goal.returns-in-Err
returns-in-Err c =
    not_number c.args.word.now (λ n small e.
    let parsed = parse-decimal 32 n c.in-Ok.text.now _ small (omega (arith, small)) (c.in-Ok.ensures.cases.0 ∙ e) c.parse.ensures.value.0 in
    cc)

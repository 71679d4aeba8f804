use Rattle.std.proofs.Common.{◌≡◌, ◌<◌, ◌^◌, true, sym, ap, ◌∙◌, subst, arith}
use Rattle.std.proofs.lemmas.Fmt.{parse-decimal}
use Rattle.std.specs.Fmt.{decimal}
use Rattle.std.specs.Str.Parse.{IsNumeral, digits_value, without_leading_plus}
use Rattle.tmc_live.specs.Command.{begins_above_zero}
use Rattle.tmc_live.proofs.Counts.{signless, counted, begins_decimal, above_zero, count_is, no_count, too_many}
use Rattle.tmc_live.proofs.command.count_of.Goals as goal

pub returns-then-not-begins_above_zero : goal.returns-then-not-begins_above_zero
returns-then-not-begins_above_zero c =
    no_count c.args.word.now (λ n is.
    let short = is.few in
    let begins : begins_above_zero c.args.word.now ≡ true = ap begins_above_zero is.spelled ∙ begins_decimal n is.some (omega (arith, short)) in
    let read : begins_above_zero c.as_bytes.result.now ≡ true = ap begins_above_zero c.as_bytes.ensures.value ∙ begins in
    cc)

pub returns-in-Ok : goal.returns-in-Ok
returns-in-Ok c =
    let yes : c.begins_above_zero.result ≡ true = cc in
    let begins : begins_above_zero c.args.word.now ≡ true = ap begins_above_zero (sym c.as_bytes.ensures.value) ∙ (sym c.begins_above_zero.ensures ∙ yes) in
    let bare : without_leading_plus c.args.word.now ≡ c.args.word.now = signless c.args.word.now begins in
    let digits : IsNumeral 10 c.args.word.now = subst (λ ds. IsNumeral 10 ds) bare c.in-Ok.ensures.value.0.0.0 in
    let value : c.in-Ok.count ≡ digits_value 10 c.args.word.now = c.in-Ok.ensures.value.0.1 ∙ ap (λ ds. digits_value 10 ds) bare in
    let small : digits_value 10 c.args.word.now < 2 ^ 32 = subst (λ ds. digits_value 10 ds < 2 ^ 32) bare c.in-Ok.ensures.value.0.0.1 in
    let spelled : c.args.word.now ≡ decimal c.in-Ok.count = counted c.args.word.now begins digits small ∙ ap decimal (sym value) in
    count_is c.args.word.now c.in-Ok.count spelled (above_zero c.args.word.now c.in-Ok.count spelled begins) c.if-count-le-CONNECTIONS_MOST.true

pub returns-in_default : goal.returns-in_default
returns-in_default c =
    let yes : c.begins_above_zero.result ≡ true = cc in
    let begins : begins_above_zero c.args.word.now ≡ true = ap begins_above_zero (sym c.as_bytes.ensures.value) ∙ (sym c.begins_above_zero.ensures ∙ yes) in
    let bare : without_leading_plus c.args.word.now ≡ c.args.word.now = signless c.args.word.now begins in
    let digits : IsNumeral 10 c.args.word.now = subst (λ ds. IsNumeral 10 ds) bare c.in-Ok.ensures.value.0.0.0 in
    let value : c.in-Ok.count ≡ digits_value 10 c.args.word.now = c.in-Ok.ensures.value.0.1 ∙ ap (λ ds. digits_value 10 ds) bare in
    let small : digits_value 10 c.args.word.now < 2 ^ 32 = subst (λ ds. digits_value 10 ds < 2 ^ 32) bare c.in-Ok.ensures.value.0.0.1 in
    let spelled : c.args.word.now ≡ decimal c.in-Ok.count = counted c.args.word.now begins digits small ∙ ap decimal (sym value) in
    no_count c.args.word.now (too_many c.args.word.now c.in-Ok.count spelled (omega (arith, small, value)) c.if-count-le-CONNECTIONS_MOST.false)

pub returns-in_default-2 : goal.returns-in_default-2
returns-in_default-2 c =
    no_count c.args.word.now (λ n is.
    let short = is.few in
    let parsed = parse-decimal 32 n c.args.word.now _ (omega (arith, short)) (omega (arith, short)) is.spelled c.parse.ensures.value.0 in
    cc)

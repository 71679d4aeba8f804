use Rattle.std.proofs.Common.{◌≡◌, ◌||◌, ◌∙◌, ap, sym, get_or, take}
use Rattle.std.proofs.lemmas.List.{take_all}
use Rattle.std.proofs.lemmas.List.Folds.{list_any_more}
use Rattle.std.specs.Char.{is_ascii_uppercase}
use Rattle.std.specs.List.{list_any}
use Rattle.event_text.proofs.words.has_upper.Goals as goal

pub bytes-preserved : goal.bytes-preserved
bytes-preserved c =
    let here : c.is_ascii_uppercase-found.result ≡ is_ascii_uppercase (get_or c.args.word.now c.bytes.byte-index 0) = c.is_ascii_uppercase-found.ensures.value in
    ap (λ b. b || c.is_ascii_uppercase-found.result) c.bytes.invariant
    ∙ (ap (λ b. list_any is_ascii_uppercase (take c.bytes.byte-index c.args.word.now) || b) here
    ∙ sym (list_any_more is_ascii_uppercase c.args.word.now c.bytes.byte-index 0 c.bytes-test.true))

pub returns : goal.returns
returns c = c.bytes.invariant ∙ ap (list_any is_ascii_uppercase) (take_all c.bytes.byte-index c.args.word.now c.bytes-test.false)

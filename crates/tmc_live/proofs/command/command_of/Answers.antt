use Rattle.std.proofs.Common.{◌≡◌, [], ◌∷◌, map, string_bytes, codes}
use Rattle.tmc_live.specs.Command.{IsCount}
use Rattle.tmc_live.proofs.Words.{map-three, is_text, asks}
use Rattle.tmc_live.proofs.command.command_of.Goals as goal

pub returns-in_ok-count_of-in-len3-clause-named : goal.returns-in_ok-count_of-in-len3-clause-named
returns-in_ok-count_of-in-len3-clause-named c =
    let word : string_bytes c.word-item.result ≡ codes "serve" = is_text _ _ _ _ c.as_str.ensures.value c.eq.ensures c.if-eq.true in
    let words : map string_bytes c.args.words.now ≡ string_bytes c.word-item.result ∷ string_bytes c.address-item.result ∷ string_bytes c.count-item.result ∷ [] =
    map-three string_bytes c.args.words.now c.word-item.result c.address-item.result c.count-item.result c.in-len3.len_at_least c.in-len3.len_below
    c.word-item.is c.address-item.is c.count-item.is in
    let count : IsCount c.as_str-in-len3-2.result.now c.in_ok-count_of-in-len3.field-0 = (c.count_of.ensures c.in_ok-count_of-in-len3.field-0).0 c.in_ok-count_of-in-len3.was in
    asks _ _ _ _ _ _ c.in_ok-count_of-in-len3.field-0 words word c.as_str-in-len3.ensures.value c.as_str-in-len3-2.ensures.value count

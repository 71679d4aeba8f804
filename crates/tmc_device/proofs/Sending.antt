-- the first of what was put out
use Rattle.std.proofs.Common.{◌≡◌, ◌∙◌, ◌<◌, List, [], ◌∷◌, length, map, get_or, ap, sym, arith}
use Rattle.tmc_law.specs.Put.{Put}
use Rattle.tmc_device.specs.declared.outputs.Sent.{Sent}
use Rattle.tmc_device.specs.Parts.{put_of}

pub record FirstSent (puts : List Put) (put : Put) : Type 0 where
  pub rest : List Put
  pub is : puts ≡ put ∷ rest

sent : (items : List Sent) (first : Sent) → 0 < length items → ((d : Sent) → first ≡ get_or items 0 d) → FirstSent (map put_of items) (put_of first)
sent [] first some here = absurd (omega (arith, some))
sent (item ∷ items) first some here = record { rest = map put_of items; is = ap (λ (x : Sent). put_of x ∷ map put_of items) (sym (here item)) }

pub first_sent : (items : List Sent) (first : Sent) (puts : List Put) (put : Put) → 0 < length items → ((d : Sent) → first ≡ get_or items 0 d) → map put_of items ≡ puts
    → put_of first ≡ put → FirstSent puts put
first_sent items first puts put some here all one =
    let f = sent items first some here in record { rest = f.rest; is = sym all ∙ f.is ∙ ap (λ (p : Put). p ∷ f.rest) one }

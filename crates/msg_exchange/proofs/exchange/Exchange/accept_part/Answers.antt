use Rattle.std.proofs.Common.{◌∙◌, ◌++◌, ℕ, List, length, take, ap, sym, subst, arith}
use Rattle.std.proofs.lemmas.List.{take_all}
use Rattle.tmc_wire.specs.Transfer.{OutText}
use Rattle.msg_exchange.specs.Held.{Held, Holds}
use Rattle.msg_exchange.proofs.exchange.Exchange.accept_part.Goals as goal

pub returns-clause-takes_effect : goal.returns-clause-takes_effect
returns-clause-takes_effect c s transfer tag size holds header text =
    let part = c.args.part.now in
    let come = c.extend_part.ensures.coming ∙ ap (λ (l : List ℕ). l ++ part) c.begin_part.ensures.coming in
    c.end_part.ensures.takes_effect s transfer tag size (subst (λ (h : Held). Holds s h) (sym (c.extend_part.ensures.held ∙ c.begin_part.ensures.held)) holds) header
    (subst (λ (l : List ℕ). OutText transfer.header l transfer.taken) (sym (ap (λ (l : List ℕ). take (length part) l) come ∙ take_all (length part) part (omega arith))) text)

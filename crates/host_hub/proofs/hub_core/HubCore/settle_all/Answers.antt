use Rattle.std.proofs.Common.{refl, ◌∙◌, ◌≡◌, ◌∷◌, List, Some, length, subst, arith, ap, ℕ}
use Rattle.host_hub.specs.declared.outcome.Outcome.{Outcome}
use Rattle.host_hub.specs.declared.hub_core.HubCore.{HubCore}
use Rattle.host_hub.specs.Record.{Settled}
use Rattle.host_hub.specs.Book.{active, live}
use Rattle.host_hub.specs.Knows.{Knows}
use Rattle.host_hub.proofs.Lists.{first_has}
use Rattle.host_hub.proofs.Knowing.{begins, goes_further, all_settled, has_active, live_one}
use Rattle.host_hub.proofs.hub_core.HubCore.settle_all.Goals as goal

pub live-init : goal.live-init
live-init c = record { known = c.requires; goes = λ s sent. begins s c.args.end sent c.args.self.now; rest = refl; births = refl }

pub settle-requires-clause-known : goal.settle-requires-clause-known
settle-requires-clause-known c =
    let k = c.live.invariant.known in
    record { setting = k.setting; past = k.past; sent = k.sent; knows = k.knows; turn = has_active k.setting k.past k.sent c.live.self k.knows (omega arith) }

pub live-preserved : goal.live-preserved
live-preserved c =
    let k = c.live.invariant.known in
    let turn : active k.past ≡ Some c.live.self.active = has_active k.setting k.past k.sent c.live.self k.knows (omega arith) in
    record {
      known = record {
        setting = k.setting;
        past = Settled c.live.self.active c.outcome_of-outcome.result ∷ k.past;
        sent = k.sent;
        knows = c.settle.ensures.goes k.setting k.past k.sent turn k.knows;
        keeps = (k.keeps, first_has c.live.self.active (live k.past) turn);
      };
      goes = λ s sent. goes_further s c.args.end sent c.args.self.now c.live.self c.settle.new.self (c.live.invariant.goes s sent)
          (λ past keeps knows. has_active s past sent c.live.self knows (omega arith))
          (λ past now knows. subst (λ (o : Outcome). Knows s (Settled c.live.self.active o ∷ past) sent c.settle.new.self) c.outcome_of-outcome.ensures.named
          (c.settle.ensures.goes s past sent now knows));
      rest = c.settle.ensures.rest
          ∙ ap (λ (h : HubCore). record h { book = c.settle.new.self.book; notes = c.settle.new.self.notes; active = c.settle.new.self.active }) c.live.invariant.rest;
      births = c.settle.ensures.births ∙ c.live.invariant.births;
    }

pub live-smaller : goal.live-smaller
live-smaller c =
    let k = c.live.invariant.known in
    let turn : active k.past ≡ Some c.live.self.active = has_active k.setting k.past k.sent c.live.self k.knows (omega arith) in
    let knows : Knows k.setting (Settled c.live.self.active c.outcome_of-outcome.result ∷ k.past) k.sent c.settle.new.self = c.settle.ensures.goes k.setting k.past k.sent turn k.knows in
    omega (
      arith,
      ap (λ (l : List ℕ). length l) (live_one k.setting k.past k.sent c.live.self k.knows turn),
      ap (λ (l : List ℕ). length l) k.knows.lives,
      ap (λ (l : List ℕ). length l) knows.lives,
    )

pub returns-clause-goes : goal.returns-clause-goes
returns-clause-goes c = λ s past sent keeps k. all_settled s c.args.end sent c.args.self.now c.live.self (c.live.invariant.goes s sent) (omega arith) past keeps k

use Rattle.std.proofs.Common.{rules, ◌≡◌, ◌++◌, ℤ, to_z, of_z, w32, OnOk, codes, subst, sym}
use Rattle.std.specs.Fmt.{signed_decimal}
use Rattle.host_hub.specs.declared.outcome.Outcome.{Outcome}
use Rattle.event_text.specs.Outcome.{outcome_words}
use Rattle.event_text.proofs.outcome.put_outcome_words.Goals as goal

pub returns-in-DeviceFault : goal.returns-in-DeviceFault
returns-in-DeviceFault c =
    let status = c.in-DeviceFault.status in
    let same : to_z w32 (of_z w32 status) ≡ status = search rules in
    let named =
    subst (λ (z : ℤ). OnOk c.put_named_signed.result (c.put_named_signed.new.out.items ≡ c.args.text.now.items ++ (codes "DeviceFault " ++ signed_decimal z))) same
    c.put_named_signed.ensures in
    subst (λ (o : Outcome). OnOk c.put_named_signed.result (c.put_named_signed.new.out.items ≡ c.args.text.now.items ++ outcome_words o)) (sym c.in-DeviceFault.is) named

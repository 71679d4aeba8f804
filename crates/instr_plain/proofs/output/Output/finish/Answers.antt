use Rattle.std.proofs.Common.{ℕ, ◌≡◌, ◌∙◌, ◌<◌, ◌-◌, sym, ap, length, take, arith}
use Rattle.instr_plain.specs.Output.{Written}
use Rattle.instr_plain.proofs.Answers.{finished, unanswered, popped, not_popped}
use Rattle.instr_plain.proofs.output.Output.finish.Goals as goal

pub returns-then-is_some : goal.returns-then-is_some
returns-then-is_some c = λ progress e.
    let bytes = c.self.inside.bytes in
    let one = popped c.pop.result (sym c.is_some.ensures ∙ c.if-is_some.true) in
    let some : 0 < length bytes.items = omega (arith, one, c.pop.ensures.len, bytes.ok.0) in
    let len : bytes.len ≡ length bytes.items = omega (arith, bytes.ok.0) in
    let front = c.pop.ensures.rest ∙ ap (λ (n : ℕ). take (n - 1) bytes.items) len in
    c.put_byte.ensures.items ∙ finished progress.answers bytes.items c.pop.new.self.items (e ∙ sym (ap (λ (w : Written). w.bytes) c.self.view_is)) some front

pub returns-else-is_some : goal.returns-else-is_some
returns-else-is_some c = λ progress e.
    let bytes = c.self.inside.bytes in
    let none = not_popped c.pop.result _ _ (sym c.is_some.ensures ∙ c.if-is_some.false) c.pop.ensures.cases in
    let empty : length bytes.items ≡ 0 = omega (arith, none.0, bytes.ok.0) in
    let len : bytes.len ≡ length bytes.items = omega (arith, bytes.ok.0) in
    let front = c.pop.ensures.rest ∙ ap (λ (n : ℕ). take (n - 1) bytes.items) len in
    unanswered progress.answers bytes.items c.pop.new.self.items (e ∙ sym (ap (λ (w : Written). w.bytes) c.self.view_is)) empty front

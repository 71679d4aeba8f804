use Rattle.std.proofs.Common.{ℕ, List, ◌∷◌, [], ◌++◌, ◌∙◌, take, refl, ap}
use Rattle.instr_plain.specs.declared.log.LogEntry.TheVariants as entry
use Rattle.tmc_law.specs.Log.{Entries}
use Rattle.msg_exchange.specs.Held.{Kept}
use Rattle.msg_exchange.proofs.Running.{runs}
use Rattle.msg_exchange.proofs.exchange.Exchange.run.Goals as goal

pub returns-clause-executes : goal.returns-clause-executes
returns-clause-executes c s holds =
    let n = c.self.inside.part_len in
    let bytes = ap (λ (l : List ℕ). take n l) c.deref.ensures.value in
    runs s c.args.self.now.held c.self.inside.ended_by c.in-Some.seq n c.self.inside.message.items c.in_ok-message.message (take n c.deref.result.now) []
    c.self.inside.log.entries c.push.new.self.entries c.self.inside.instrument c.execute.new.self holds (ap (λ (k : Kept). k.held) c.self.view_is) c.in-Some.is
    (c.in_ok-message.ensures ∙ bytes) bytes refl
    (ap (λ (e : Entries). e.entries) c.push.ensures ∙ ap (λ (l : _). l ++ entry.Exec c.in-Some.seq c.in_ok-message.message ∷ []) c.in_ok-reserve.ensures.entries)
    (c.in_ok-execute.ensures.entry c.in-Some.seq)

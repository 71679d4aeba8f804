use Rattle.std.proofs.Common.{◌≡◌, inl, inr, ◌+◌, ◌++◌, true, false, length, refl, sym, subst, ◌∙◌, arith}
use Rattle.host_transfers.specs.declared.assembly.Assembly.TheInside.{Inside}
use Rattle.host_transfers.specs.declared.piece.Piece.{Piece}
use Rattle.host_transfers.specs.Assembly.{Held, Says}
use Rattle.host_transfers.proofs.Reading.{holds_more, gives, gives_none, goes_on, is_whole}
use Rattle.host_transfers.proofs.assembly.Assembly.feed.Goals as goal
use Rattle.host_transfers.proofs.assembly.Assembly.feed.Goals.{then-short, else-short}

clash : {P : Type 0} → true ≡ false → P
clash e = absurd (no_one e)
  where
    no_one : true ≡ false → ⊥
    no_one h = cc

abbrev held : Inside → Held
held a = record { tag = a.tag; size = a.size; head = a.head; count = a.count; over = a.over }

pub invariant_of-self : goal.invariant_of-self
invariant_of-self c =
    let k = c.self.invariant in
    let h = holds_more (held c.self.inside) k.bytes c.args.bytes.now c.fill.new.self c.self.inside.over k.holds c.fill.ensures in
    let j = c.in-Open.ensures (k.bytes ++ c.args.bytes.now) (c.as_slice.ensures.items ∙ h.header) h.counted in
    record { bytes = k.bytes ++ c.args.bytes.now; holds = h; few = λ over. omega (arith, j.1, h.counted) }

pub invariant_of-self-in-Begins : goal.invariant_of-self-in-Begins
invariant_of-self-in-Begins c =
    let k = c.self.invariant in
    let h = holds_more (held c.self.inside) k.bytes c.args.bytes.now c.fill.new.self c.args.short k.holds c.fill.ensures in
    let j = c.in-Begins.ensures (k.bytes ++ c.args.bytes.now) (c.as_slice.ensures.items ∙ h.header) h.counted in
    record { bytes = k.bytes ++ c.args.bytes.now; holds = h; few = λ over. omega (arith, j.2, j.0.few, h.counted) }

pub returns-in-Open-clause-says : goal.returns-in-Open-clause-says
returns-in-Open-clause-says c = rw (← c.self.view_is) (λ all was.
    let h = holds_more (held c.self.inside) all c.args.bytes.now c.fill.new.self c.self.inside.over was c.fill.ensures in
    let j = c.in-Open.ensures (all ++ c.args.bytes.now) (c.as_slice.ensures.items ∙ h.header) h.counted in
    (j.0, gives_none all c.args.bytes.now j.1, inl j.1))

pub returns-in-Bad-clause-says : goal.returns-in-Bad-clause-says
returns-in-Bad-clause-says c = rw (← c.self.view_is) (λ all was.
    let h = holds_more (held c.self.inside) all c.args.bytes.now c.fill.new.self c.self.inside.over was c.fill.ensures in
    c.in-Bad.ensures (all ++ c.args.bytes.now) (c.as_slice.ensures.items ∙ h.header) h.counted)

pub returns-after-short-clause-says : goal.returns-after-short-clause-says
returns-after-short-clause-says c = rw (← c.self.view_is) (λ all was.
    let read = c.args.bytes.now in
    let h = holds_more (held c.self.inside) all read c.fill.new.self c.args.short was c.fill.ensures in
    let j = c.in-Begins.ensures (all ++ read) (c.as_slice.ensures.items ∙ h.header) h.counted in
    let g = gives c.in-Begins.header all read c.self.inside.count (c.self.inside.count + length read) c.data_start-from.result c.data_end-to.result
    j.0.headed was.counted h.counted c.data_start-from.ensures c.data_end-to.ensures in
    let S : Piece → Type 0 = λ p. Says c.self.inside.tag c.self.inside.size all read c.args.short p in
    elim c.if-short.branch [
      | then-short w ↦
          subst S (sym w.result-is)
          (w.if-short.true, g, c.in-Begins.header, is_whole c.self.inside.tag c.self.inside.size c.in-Begins.header (all ++ read) j.0 (j.1 w.if-short.true) j.2, refl)
      | else-short w ↦
          subst S (sym w.result-is) (w.if-short.false, g, inr (goes_on c.self.inside.tag c.self.inside.size c.in-Begins.header (all ++ read) j.0 j.2))
    ])

pub invariant_of-self-in-Bad : goal.invariant_of-self-in-Bad
invariant_of-self-in-Bad c =
    let k = c.self.invariant in
    let h = holds_more (held c.self.inside) k.bytes c.args.bytes.now c.fill.new.self true k.holds c.fill.ensures in
    record { bytes = k.bytes ++ c.args.bytes.now; holds = h; few = λ over. clash over }

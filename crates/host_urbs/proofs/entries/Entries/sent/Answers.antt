use Rattle.std.proofs.Common.{◌≡◌, ◌+◌, List, length, take, subst, sym, ◌∙◌, ap, arith, length-append}
use Rattle.usbip_wire.specs.declared.dirs.Outstanding.{Outstanding}
use Rattle.usbip_wire.specs.Awaited.{entries_of}
use Rattle.host_urbs.specs.declared.entry.Entry.{Entry}
use Rattle.host_urbs.specs.Entries.{sent, AreKept}
use Rattle.host_urbs.proofs.Sending.{next_sent, next_unsent, new_at, short_at}
use Rattle.host_urbs.proofs.entries.Entries.sent.Goals as goal
use Rattle.host_urbs.proofs.entries.Entries.sent.Goals.{then-entry-eq0, else-entry-eq0}

pub add_to-requires-clause-new : goal.add_to-requires-clause-new
add_to-requires-clause-new c =
    let kept = subst (λ (l : List Entry). AreKept c.requires.0 l) (sym c.as_slice-entry-items.ensures.items) c.requires.1 in
    rw (c.loop-entry.invariant.read_by, ← c.as_slice-entry-items.ensures.items) (new_at 0 c.requires.0 c.as_slice-entry-items.result.now c.loop-entry.entry-index _ c.loop-entry-test.true kept.rising)

pub add_to-requires-clause-short : goal.add_to-requires-clause-short
add_to-requires-clause-short c =
    let kept = subst (λ (l : List Entry). AreKept c.requires.0 l) (sym c.as_slice-entry-items.ensures.items) c.requires.1 in
    short_at c.as_slice-entry-items.result.now c.loop-entry.entry-index _ c.loop-entry-test.true kept.short

pub loop-entry-preserved : goal.loop-entry-preserved
loop-entry-preserved c =
    let read_by = subst (λ (l : List Entry). c.loop-entry.dirs ≡ entries_of (sent (take c.loop-entry.entry-index l))) (sym c.as_slice-entry-items.ensures.items) c.loop-entry.invariant.read_by in
    elim c.if-entry-eq0.branch [
      | then-entry-eq0 w ↦
          let added = w.dirs-is ∙ w.add_to.ensures in
          let read_by_more = next_sent c.as_slice-entry-items.result.now c.loop-entry.entry-index _ c.loop-entry.dirs c.if-entry-eq0.dirs c.loop-entry-test.true read_by w.if-entry-eq0.true added in
          record {
            read_by = subst (λ (l : List Entry). c.if-entry-eq0.dirs ≡ entries_of (sent (take (c.loop-entry.entry-index + 1) l))) c.as_slice-entry-items.ensures.items read_by_more;
            few = omega (arith, ap (length {A = Outstanding}) added, length-append {A = Outstanding}, c.loop-entry.invariant.few);
          }
      | else-entry-eq0 w ↦
          let read_by_more = next_unsent c.as_slice-entry-items.result.now c.loop-entry.entry-index _ c.loop-entry.dirs c.loop-entry-test.true read_by w.if-entry-eq0.false in
          record {
            read_by = w.dirs-is ∙ subst (λ (l : List Entry). c.loop-entry.dirs ≡ entries_of (sent (take (c.loop-entry.entry-index + 1) l))) c.as_slice-entry-items.ensures.items read_by_more;
            few = omega (arith, ap (length {A = Outstanding}) w.dirs-is, c.loop-entry.invariant.few);
          }
    ]

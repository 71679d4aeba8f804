use Rattle.std.proofs.Common.{subst, sym}
use Rattle.usbip_wire.specs.Dirs.{AreShort}
use Rattle.usbip_wire.proofs.Entries.{short_at}
use Rattle.usbip_wire.proofs.dirs.Dirs.remove.Goals as goal

pub push-requires-clause-short : goal.push-requires-clause-short
push-requires-clause-short c =
    short_at c.as_slice-entry-items.result.now c.loop-entry.entry-index _ (subst AreShort (sym c.as_slice-entry-items.ensures.items) c.as_slice-entry-items.ensures.short) c.loop-entry-test.true

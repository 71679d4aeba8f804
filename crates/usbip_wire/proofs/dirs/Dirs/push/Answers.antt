use Rattle.std.proofs.Common.{rules, ◌<◌, length}
use Rattle.usbip_wire.proofs.Entries.{short_set}
use Rattle.usbip_wire.proofs.dirs.Dirs.push.Goals as goal

pub invariant_of-self : goal.invariant_of-self
invariant_of-self c =
    let lt : c.self.inside.len < length c.self.inside.entries = search rules in
    (search rules, short_set c.self.inside.entries c.self.inside.len c.args.entry lt c.self.invariant.1 c.requires.short)

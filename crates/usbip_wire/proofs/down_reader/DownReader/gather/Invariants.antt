use Rattle.std.proofs.Common.{◌≡◌, ◌≤◌, ◌-◌, ◌++◌, length, take, None, false}
use Rattle.usbip_wire.specs.DownFed.{Ends, NoneWhole}
use Rattle.usbip_wire.specs.Urb.{message_max}
use Rattle.usbip_wire.proofs.DownFeeding.{EndsHere}
use Rattle.usbip_wire.proofs.down_reader.DownReader.gather.Given as goal

abbrev pub invariant-loop-what : goal.invariant-loop-what
invariant-loop-what l = record {
  within : l.used ≤ length l.piece;
  held : l.self ≡ record { phase = l.fn.self.phase; rest = l.fn.self.rest ++ take l.used l.fn.piece; whole = false; bad = None };
  edge : EndsHere l.fn.dirs l.fn.self.rest l.used l.self;
  one_held : length l.self.rest ≤ message_max;
  ends : NoneWhole l.fn.self.phase l.fn.dirs l.fn.self.rest → Ends l.self.phase l.fn.dirs l.self.rest;
}

abbrev pub decreases-loop-what : goal.decreases-loop-what
decreases-loop-what l = length l.piece - l.used

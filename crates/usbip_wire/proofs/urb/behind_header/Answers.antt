use Rattle.std.proofs.Common.{sym, arith}
use Rattle.std.proofs.lemmas.List.{drop_all}
use Rattle.usbip_wire.specs.declared.urb.TheConstants.{URB_HEADER}
use Rattle.usbip_wire.proofs.urb.behind_header.Goals as goal

pub returns-then-held-lt-URB_HEADER : goal.returns-then-held-lt-URB_HEADER
returns-then-held-lt-URB_HEADER c = sym (drop_all URB_HEADER c.args.held.now (omega (arith, c.if-held-lt-URB_HEADER.true)))

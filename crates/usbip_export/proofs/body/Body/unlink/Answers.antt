use Rattle.usbip_export.specs.Identity.{devid}
use Rattle.usbip_export.proofs.Waiting.{unlink_ok}
use Rattle.usbip_export.proofs.body.Body.unlink.Goals as goal

pub returns-clause-moves : goal.returns-clause-moves
returns-clause-moves c =
    (unlink_ok (c.messages_have_spellings.ensures.urb devid) _ _ c.args.head c.requires.sound c.requires.opened c.requires.waits c.in-Ok.ensures.ok).0

pub returns-clause-shorter : goal.returns-clause-shorter
returns-clause-shorter c =
    (unlink_ok (c.messages_have_spellings.ensures.urb devid) _ _ c.args.head c.requires.sound c.requires.opened c.requires.waits c.in-Ok.ensures.ok).1

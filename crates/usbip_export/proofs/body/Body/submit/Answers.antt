use Rattle.std.proofs.Common.{refl}
use Rattle.usbip_export.specs.Identity.{devid}
use Rattle.tmc_law.specs.Step.{TooMany, Twice}
use Rattle.usbip_export.proofs.Waiting.{submit_ok, submit_refused}
use Rattle.usbip_export.proofs.body.Body.submit.Goals as goal

pub returns-in-Ok-clause-moves : goal.returns-in-Ok-clause-moves
returns-in-Ok-clause-moves c =
    (submit_ok (c.messages_have_spellings.ensures.urb devid) _ _ c.args.head _ c.requires.sound c.requires.opened c.requires.waits c.data.ensures
    c.in-Ok.ensures.ok).0

pub returns-in-Ok-clause-shorter : goal.returns-in-Ok-clause-shorter
returns-in-Ok-clause-shorter c =
    (submit_ok (c.messages_have_spellings.ensures.urb devid) _ _ c.args.head _ c.requires.sound c.requires.opened c.requires.waits c.data.ensures
    c.in-Ok.ensures.ok).1

pub returns-in-Err-Full-clause-moves : goal.returns-in-Err-Full-clause-moves
returns-in-Err-Full-clause-moves c =
    (submit_refused (c.messages_have_spellings.ensures.urb devid) _ _ _ c.args.head c.requires.sound c.requires.opened c.requires.waits
    (TooMany (rw c.in-Err-Full.field-0-is at c.in-Err-Full.ensures.refused) refl)
    (record { seen = _; same = c.in-Err-Full.ensures.err; is = c.refuse.ensures })).0

pub returns-in-Err-Full-clause-shorter : goal.returns-in-Err-Full-clause-shorter
returns-in-Err-Full-clause-shorter c =
    (submit_refused (c.messages_have_spellings.ensures.urb devid) _ _ _ c.args.head c.requires.sound c.requires.opened c.requires.waits
    (TooMany (rw c.in-Err-Full.field-0-is at c.in-Err-Full.ensures.refused) refl)
    (record { seen = _; same = c.in-Err-Full.ensures.err; is = c.refuse.ensures })).1

pub returns-in-Err-Twice-clause-moves : goal.returns-in-Err-Twice-clause-moves
returns-in-Err-Twice-clause-moves c =
    let over = rw c.in-Err-Twice.field-0-is at c.in-Err-Twice.ensures.refused in
    (submit_refused (c.messages_have_spellings.ensures.urb devid) _ _ _ c.args.head c.requires.sound c.requires.opened c.requires.waits
    (Twice over.0 over.1 refl)
    (record { seen = _; same = c.in-Err-Twice.ensures.err; is = c.refuse-in-Err-Twice.ensures })).0

pub returns-in-Err-Twice-clause-shorter : goal.returns-in-Err-Twice-clause-shorter
returns-in-Err-Twice-clause-shorter c =
    let over = rw c.in-Err-Twice.field-0-is at c.in-Err-Twice.ensures.refused in
    (submit_refused (c.messages_have_spellings.ensures.urb devid) _ _ _ c.args.head c.requires.sound c.requires.opened c.requires.waits
    (Twice over.0 over.1 refl)
    (record { seen = _; same = c.in-Err-Twice.ensures.err; is = c.refuse-in-Err-Twice.ensures })).1

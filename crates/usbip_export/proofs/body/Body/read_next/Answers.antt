use Rattle.usbip_export.proofs.Refused.{bad_closes}
use Rattle.usbip_export.proofs.body.Body.read_next.Goals as goal

pub returns-in-Bad-clause-reads : goal.returns-in-Bad-clause-reads
returns-in-Bad-clause-reads c =
    bad_closes _ _ c.in-Bad.field _ _ _ c.requires.sound c.requires.opened c.requires.idle c.as_slice.ensures c.feed-step.ensures c.in-Bad.is c.refuse.ensures

use Rattle.std.proofs.Common.{refl, None}
use Rattle.usbip_export.proofs.Waiting.{decline_ok}
use Rattle.usbip_export.proofs.body.Body.decline.Goals as goal

pub returns-clause-moves : goal.returns-clause-moves
returns-clause-moves c =
    (decline_ok c.messages_have_spellings.ensures.request _ (record c.args.self.now { out = c.put_failed.new.out; waiting = None }) c.args.id c.requires.sound c.requires.opened c.requires.waits c.requires.other refl
    c.in_ok-put_failed.ensures.ok).0

use Rattle.std.proofs.Common.{refl, None, true}
use Rattle.usbip_export.proofs.Waiting.{import_ok}
use Rattle.usbip_export.proofs.body.Body.import.Goals as goal

pub returns-clause-moves : goal.returns-clause-moves
returns-clause-moves c =
    (import_ok c.messages_have_spellings.ensures.request _ (record c.args.self.now { out = c.put_done.new.out; waiting = None; imported = true; reader = c.in_ok-reader.reader }) c.requires.sound c.requires.opened c.requires.waits refl c.in_ok-reader.ensures
    c.in_ok-put_done.ensures.ok).0

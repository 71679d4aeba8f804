use Rattle.std.proofs.Common.{refl, None}
use Rattle.usbip_export.proofs.Waiting.{list_ok}
use Rattle.usbip_export.proofs.body.Body.list.Goals as goal

pub returns-clause-moves : goal.returns-clause-moves
returns-clause-moves c =
    (list_ok c.messages_have_spellings.ensures.request _ (record c.args.self.now { out = c.put_list.new.out; waiting = None }) c.requires.sound c.requires.opened c.requires.waits refl c.in_ok-put_list.ensures.ok).0

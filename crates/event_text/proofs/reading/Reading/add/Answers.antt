use Rattle.usbip_wire.specs.declared.dirs.Outstanding.TheVariants.{Submit, Unlink}
use Rattle.event_text.proofs.Added.{sound_added}
use Rattle.event_text.proofs.reading.Reading.add.Goals as goal

pub returns-in-Submit-clause-sound : goal.returns-in-Submit-clause-sound
returns-in-Submit-clause-sound c =
    sound_added c.entries_may_be_added.ensures.neither c.args.self.now.reader c.args.self.now.dirs (Submit c.in-Submit.seqnum c.in-Submit.dir c.in-Submit.length) c.add_submit.new.self c.args.self.now.refused c.add_submit.ensures c.requires.sound

pub returns-in-Unlink-clause-sound : goal.returns-in-Unlink-clause-sound
returns-in-Unlink-clause-sound c =
    sound_added c.entries_may_be_added.ensures.neither c.args.self.now.reader c.args.self.now.dirs (Unlink c.in-Unlink.seqnum) c.add_unlink.new.self c.args.self.now.refused c.add_unlink.ensures c.requires.sound

use Rattle.event_text.proofs.Sound.{begun_sound}
use Rattle.event_text.proofs.reading.Reading.new.Goals as goal

pub returns-clause-sound : goal.returns-clause-sound
returns-clause-sound c = begun_sound c.in_ok-reader.reader c.new-2.result c.args.way c.args.phase c.new-2.ensures c.in_ok-reader.ensures.begun c.in_ok-reader.ensures.ours

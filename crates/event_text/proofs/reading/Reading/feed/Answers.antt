use Rattle.event_text.proofs.FedClient.{client_prints}
use Rattle.event_text.proofs.FedDevice.{unread, device_prints}
use Rattle.event_text.proofs.Whole.{if_ok}
use Rattle.event_text.proofs.reading.Reading.feed.Goals as goal

pub returns-in-Client-clause-stepped : goal.returns-in-Client-clause-stepped
returns-in-Client-clause-stepped c =
    if_ok c.feed_client.result _ _
    (λ step held. client_prints c.args.self.now.reader c.in-Client.reader c.args.self.now.dirs c.args.piece.now c.feed_client.new.reader _ _ c.in-Client.is c.requires.good c.requires.ours c.requires.settled step held)
    c.feed_client.ensures

pub feed_device-requires-clause-unread : goal.feed_device-requires-clause-unread
feed_device-requires-clause-unread c = unread c.args.self.now.reader c.in-Device.reader c.args.self.now.dirs c.in-Device.is c.requires.good c.requires.settled

pub returns-in-Device-clause-stepped : goal.returns-in-Device-clause-stepped
returns-in-Device-clause-stepped c =
    if_ok c.feed_device.result _ _
    (λ step held. device_prints c.args.self.now.reader c.in-Device.reader c.args.self.now.dirs c.feed_device.new.dirs c.args.piece.now c.feed_device.new.reader _ _ c.in-Device.is c.requires.good c.requires.settled step held)
    c.feed_device.ensures

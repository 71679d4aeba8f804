-- a hub over a paced link in memory: what happened at it, and the link with the instrument at its other end
use Rattle.std.specs.Prelude.{◌≡◌, ℕ, ◌<◌, ◌^◌, false, Some, [], List, length, drop}
use Rattle.tmc_base.specs.Link.{Counts}
use Rattle.tmc_base.specs.Told.{Told, Peer}
use Rattle.usb_setup.specs.declared.ends.Ends.{Ends}
use Rattle.usb_setup.specs.Identity as usb
use Rattle.host_hub.specs.Behind.{Behind, HubParts}
use Rattle.host_hub.specs.Order.{Setting}
use Rattle.host_hub.specs.Record.{Past, written}
use Rattle.host_hub.specs.Tied.{spelled}
use Rattle.usbip_export.specs.Identity.{devid}
use Rattle.tmc_world.specs.declared.pace.Pace.{Pace}
use Rattle.tmc_world.specs.declared.pace.Pace.TheVariants.{Paced}
use Rattle.tmc_world.specs.LoopLink.{Looped, begun_loop}

pub record Worldly : Type 0 where
  -- what happened at the hub, the latest first
  pub past : Past
  pub link : Looped

-- the interface of the instrument, as its descriptors say
abbrev pub ends : Ends
ends = record {
  configuration = usb.own_configuration.bConfigurationValue;
  interface = usb.own_interface.bInterfaceNumber;
  protocol = usb.own_interface.bInterfaceProtocol;
  bulk_out = usb.bulk_out.bEndpointAddress;
  bulk_in = usb.bulk_in.bEndpointAddress;
  notify = Some usb.interrupt_in.bEndpointAddress;
  notify_size = usb.interrupt_in.wMaxPacketSize;
}

-- what the hub is made with: the imported instrument, the number of its first message, and its depth
abbrev pub setting_of : (first depth : ℕ) → Setting
setting_of first depth = record { first = first; devid = devid; ends = ends; depth = depth }

-- no room: between events the link moves nothing
abbrev pub shut : Pace
shut = Paced (record { send = 0; poll = 0 })

-- nothing happened, and the instrument is imported and at power-on
abbrev pub begun : Worldly
begun = record { past = []; link = begun_loop shut }

-- what the hub wrote and did not send
abbrev pub outbox : Setting → Worldly → List ℕ
outbox s world = drop (length world.link.sent) (spelled (written s world.past))

-- what a link tells and counts
abbrev pub tells : Looped → Told
tells link = Peer link.sent link.taken link.run

abbrev pub counted : Looped → Counts
counted link = link.counts

-- A world behind a hub of this setting: its link is the hub's, which has no room between events and owes no want of memory, and its past
-- is a record behind the hub since power-on.
pub record IsBehind (first depth : ℕ) (world : Worldly) (hub : HubParts Looped) : Type 0 where
  pub link : hub.link ≡ world.link
  pub idle : world.link.pace ≡ shut
  pub unwanted : world.link.wants ≡ false
  pub behind : Behind tells counted (tells begun.link) (setting_of first depth) world.past world.link.sent world.link.taken hub

-- some world stands behind it, of which the first message has a number of 32 bits
pub record HasWorld (hub : HubParts Looped) : Type 0 where
  pub first : ℕ
  pub numbered : first < 2 ^ 32
  pub depth : ℕ
  pub world : Worldly
  pub behind : IsBehind first depth world hub

-- what a world is made of
pub record WorldParts : Type 0 where
  pub hub : HubParts Looped

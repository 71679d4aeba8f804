-- the way of a stream: up is what a client sends, down what a device sends
use Rattle.usbip_wire.specs.declared.urb.Dir.{Dir}
use Rattle.usbip_wire.specs.declared.urb.Dir.TheVariants.{Out, In}
use Rattle.event_text.specs.declared.way.Way.{Way}
use Rattle.event_text.specs.declared.way.Way.TheVariants.{Up, Down}

-- public calls name a way by the direction of its transfers
abbrev pub way_of : Dir → Way
way_of Out = Up
way_of In = Down

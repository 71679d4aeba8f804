use Rattle.std.proofs.Common.{◌+◌, ◌*◌, length, take, drop, nat_le, refl}
use Rattle.host_hub.proofs.transfers.messages_are_planned_in_parts.Goals as goal

pub returns : goal.returns
returns c = λ message parts tag count cut there.
    (take 1024 (drop (1024 * count) message), nat_le (length message) (1024 * (count + 1)), refl, c.messages_are_cut_once.ensures.by_number parts message count cut there)

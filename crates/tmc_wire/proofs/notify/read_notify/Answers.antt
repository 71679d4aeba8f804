use Rattle.std.proofs.Common.{◌≡◌, ◌-◌, ◌<◌, ◌≤◌, Ok, Err, length, get_or, refl, arith, rules}
use Rattle.tmc_wire.specs.declared.notify.Notify.TheVariants.{Status, Service, Other}
use Rattle.tmc_wire.specs.Short.{short_packet}
use Rattle.tmc_wire.proofs.Packets.{packet_exactly, service_packet, status_packet, other_packet}
use Rattle.tmc_wire.proofs.notify.read_notify.Goals as goal

pub returns-in_default-clause-packet : goal.returns-in_default-clause-packet
returns-in_default-clause-packet c =
    let few : length c.args.bytes.now < 2 = omega arith in
    packet_exactly c.args.bytes.now (Err (short_packet c.args.bytes.now)) (refl, few)

pub returns-in-129-clause-packet : goal.returns-in-129-clause-packet
returns-in-129-clause-packet c =
    let bytes = c.args.bytes.now in
    let first : get_or bytes 0 0 ≡ 129 = search rules in
    packet_exactly bytes (Ok (Service (get_or bytes 1 0))) (service_packet bytes c.in-129.len_at_least first)

pub returns-in-len2-up-clause-packet : goal.returns-in-len2-up-clause-packet
returns-in-len2-up-clause-packet c =
    let bytes = c.args.bytes.now in
    let below : get_or bytes 0 0 < 129 = omega arith in
    packet_exactly bytes (Ok Other) (other_packet bytes c.in-len2-up.len_at_least below)

pub returns-in-130-to-255-clause-packet : goal.returns-in-130-to-255-clause-packet
returns-in-130-to-255-clause-packet c =
    let bytes = c.args.bytes.now in
    let least : 130 ≤ get_or bytes 0 0 = omega arith in
    let greatest : get_or bytes 0 0 < 256 = omega (arith, c.type_inv.bytes 0) in
    packet_exactly bytes (Ok (Status (get_or bytes 0 0 - 128) (get_or bytes 1 0))) (status_packet bytes c.in-130-to-255.len_at_least least greatest)

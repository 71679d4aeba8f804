use Rattle.std.proofs.Common.{◌<◌, ◌∙◌, sym, ap, subst, ℕ, List, [], ◌∷◌, ◌++◌, length}
use Rattle.tmc_law.specs.State.{Packet, StatusPacket}
use Rattle.tmc_law.specs.Status.{DoesPoll}
use Rattle.msg_exchange.specs.Held.{led_to}
use Rattle.tmc_device.specs.Parts.{transfer_of}
use Rattle.tmc_device.specs.Body.{state_of}
use Rattle.tmc_device.proofs.Queueing.{place_behind_service}
use Rattle.tmc_device.proofs.Logged.{own}
use Rattle.tmc_device.proofs.body.Body.poll_for.Goals as goal

pub push_status-requires : goal.push_status-requires
push_status-requires c =
    let old = c.args.self.now in
    let noticed = c.notice.ensures old.exchange.held.standing c.poll-byte.new.self.held.standing c.status-before.ensures c.status.ensures in
    subst (λ (p : List Packet). length p < 2) (sym noticed)
    (place_behind_service old.exchange.held.standing c.poll-byte.new.self.held.standing old.packets c.requires.few c.requires.none_queued)

pub returns-clause-polls : goal.returns-clause-polls
returns-clause-polls c =
    let old = c.args.self.now in
    let to = led_to (state_of old) c.poll-byte.new.self.held in
    let noticed = c.notice.ensures old.exchange.held.standing c.poll-byte.new.self.held.standing c.status-before.ensures c.status.ensures in
    DoesPoll to (c.poll-byte.ensures.polls (state_of old) (own old))
    (ap (λ (l : List ℕ). record to { transfer = transfer_of old.transfer l; packets = c.push_status.new.self }) c.poll-byte.ensures.coming
    ∙ ap (λ (p : List Packet). record to { packets = p })
    (c.push_status.ensures
    ∙ (ap (λ (p : List Packet). p ++ StatusPacket c.args.tag c.poll-byte.result ∷ []) noticed
    ∙ ap (λ (b : ℕ). to.packets ++ StatusPacket c.args.tag b ∷ []) c.poll-byte.ensures.byte)))

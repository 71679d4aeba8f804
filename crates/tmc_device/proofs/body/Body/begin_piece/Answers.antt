use Rattle.std.proofs.Common.{◌==◌, ◌∙◌, List, ℕ, length, refl, ap}
use Rattle.tmc_wire.specs.Header.{in_header_bytes}
use Rattle.tmc_law.specs.Step.{Begin}
use Rattle.tmc_device.proofs.Making.{quiet, is_plugged}
use Rattle.tmc_device.proofs.Beginning.{begins, transfer_bytes}
use Rattle.tmc_device.proofs.body.Body.begin_piece.Goals as goal

pub returns : goal.returns
returns c =
    let response = c.args.self.now.exchange.held.standing.unread in
    let header = c.in_bytes.ensures.written ∙ ap (λ (l : List ℕ). in_header_bytes (record { tag = c.args.tag; size = c.args.count; eom = c.args.count == length l })) c.unread.ensures.unread in
    let bytes = transfer_bytes c.args.tag c.args.count response c.args.transfer.items c.in_bytes.result _ _ c.extend_reserved.new.self.items c.give.new.out.items
    c.extend_reserved-2.new.self.items c.requires.empty header refl refl c.extend_reserved.ensures.items c.give.ensures.given c.extend_reserved-2.ensures.items in
    quiet (Begin c.args.count) _ _ (is_plugged c.args.self.now.unplugged c.requires.ready.plugged) (
      begins c.args.self.now c.args.tag c.args.count c.requires.owed.0 c.give.new.self c.notice.new.self c.send.new.self c.extend_reserved-2.new.self.items
          c.requires.owed.1 c.requires.no_abort c.requires.some c.requires.owed.2 c.requires.unread c.send.ensures bytes c.give.ensures.took c.give.ensures.coming
          (c.notice.ensures c.args.self.now.exchange.held.standing c.give.new.self.held.standing c.status-before.ensures c.status.ensures),
      refl,
    ) refl

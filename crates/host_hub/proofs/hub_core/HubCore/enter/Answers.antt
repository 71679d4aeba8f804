use Rattle.std.proofs.Common.{ap, ◌∙◌, ◌+◌, refl, arith}
use Rattle.host_hub.specs.declared.notes.Mark.{Mark}
use Rattle.host_hub.specs.BookSeen.{Seen}
use Rattle.host_hub.specs.BookChanges.{with_asked}
use Rattle.host_hub.specs.Noted.{Noted, with_ticket}
use Rattle.host_hub.proofs.Knowing.{knows_asked}
use Rattle.host_hub.proofs.hub_core.HubCore.enter.Goals as goal

pub returns-clause-goes : goal.returns-clause-goes
returns-clause-goes c = λ s past sent lawful k.
    knows_asked s past sent c.args.self.now
    (record { session = c.args.session; kind = c.args.kind; limit = c.args.limit; message = c.args.message.now })
    c.reserve.new.self.room c.reserve.new.self.places (c.args.self.now.limits + c.args.limit) c.ask.new.self c.ask-2.new.self lawful c.requires.proper k c.requires.running c.requires.few
    (omega (arith, c.in_ok-reserve.ensures.room, c.live-live.ensures.count))
    (c.in_ok-number.ensures.asked ∙ ap (λ (x : Seen). with_asked x c.args.self.now.book) c.in_ok-ticket.ensures.asked)
    (c.ask-2.ensures ∙ (ap (λ (n : Noted). with_ticket c.mark-mark.result c.args.self.now.turned n) c.reserve.ensures.kept
    ∙ ap (λ (m : Mark). with_ticket m c.args.self.now.turned (record c.args.self.now.notes { room = c.reserve.new.self.room; places = c.reserve.new.self.places })) c.mark-mark.ensures))
    refl

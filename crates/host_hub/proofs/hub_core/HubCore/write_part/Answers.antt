use Rattle.std.proofs.Common.{◌≡◌, ◌∙◌, ◌*◌, ◌+◌, sym, ap, subst, List, ℕ, length, nat_le, take, drop}
use Rattle.host_hub.specs.Order.{number_of, size_of}
use Rattle.host_hub.specs.BookSeen.{Seen}
use Rattle.host_hub.specs.Plan.{part_of}
use Rattle.host_hub.specs.Writes.{Puts}
use Rattle.host_transfers.specs.Tags.{tag_behind}
use Rattle.usb_setup.specs.declared.ends.Ends.{Ends}
use Rattle.host_hub.proofs.Putting.{part_puts, part_size, same_seen, not_ended, nothing_ends}
use Rattle.host_hub.proofs.Knowing.{known_ticket, never_none}
use Rattle.host_hub.proofs.hub_core.HubCore.write_part.Goals as goal

pub unreachable-requires : goal.unreachable-requires
unreachable-requires c = never_none c.requires.can.setting c.requires.can.past c.requires.can.sent c.args.self.now c.requires.can.knows c.requires.can.turn c.in_default.ensures

pub end_message-requires : goal.end_message-requires
end_message-requires c = record { there = known_ticket c.requires.can.setting c.requires.can.past c.requires.can.sent c.args.self.now c.requires.can.knows c.requires.can.turn }

pub returns-then-written-clause-urbs : goal.returns-then-written-clause-urbs
returns-then-written-clause-urbs c = λ s d e seen found.
    let v = c.in-Some.ensures in
    let same : c.in-Some.view.message.now ≡ seen.message = v.shows.message ∙ ap (λ (x : Seen). x.message) (same_seen c.args.self.now.active c.args.self.now.book.tickets v.seen seen v.found found) in
    subst (λ (m : List ℕ). Puts s (part_of (tag_behind c.args.self.now.tags) c.args.self.now.parts m) c.args.self.now.urbs c.put_part-written.new.urbs) same
    (part_puts s c.args.self.now.urbs c.put_part-written.new.urbs (tag_behind c.args.self.now.tags) c.args.self.now.parts c.number_of-ep.result c.in-Some.view.message.now d
    (c.number_of-ep.ensures.number ∙ ap (λ (x : Ends). number_of x.bulk_out) e) c.put_part-written.ensures.written c.put_part-written.ensures.recorded)

pub returns-else-written-clause-urbs : goal.returns-else-written-clause-urbs
returns-else-written-clause-urbs c = λ s d e seen found.
    let v = c.in-Some.ensures in
    let same : c.in-Some.view.message.now ≡ seen.message = v.shows.message ∙ ap (λ (x : Seen). x.message) (same_seen c.args.self.now.active c.args.self.now.book.tickets v.seen seen v.found found) in
    subst (λ (m : List ℕ). Puts s (part_of (tag_behind c.args.self.now.tags) c.args.self.now.parts m) c.args.self.now.urbs c.put_part-written.new.urbs) same
    (part_puts s c.args.self.now.urbs c.put_part-written.new.urbs (tag_behind c.args.self.now.tags) c.args.self.now.parts c.number_of-ep.result c.in-Some.view.message.now d
    (c.number_of-ep.ensures.number ∙ ap (λ (x : Ends). number_of x.bulk_out) e) c.put_part-written.ensures.written c.put_part-written.ensures.recorded)

pub returns-then-written-clause-asked : goal.returns-then-written-clause-asked
returns-then-written-clause-asked c = λ seen found.
    let v = c.in-Some.ensures in
    let same : c.in-Some.view.message.now ≡ seen.message = v.shows.message ∙ ap (λ (x : Seen). x.message) (same_seen c.args.self.now.active c.args.self.now.book.tickets v.seen seen v.found found) in
    c.put_part-written.ensures.asked ∙ (part_size c.requires.can.setting (tag_behind c.args.self.now.tags) c.args.self.now.parts c.in-Some.view.message.now
    ∙ ap (λ (m : List ℕ). size_of c.requires.can.setting.ends (part_of (tag_behind c.args.self.now.tags) c.args.self.now.parts m)) same)

pub returns-else-written-clause-asked : goal.returns-else-written-clause-asked
returns-else-written-clause-asked c = λ seen found.
    let v = c.in-Some.ensures in
    let same : c.in-Some.view.message.now ≡ seen.message = v.shows.message ∙ ap (λ (x : Seen). x.message) (same_seen c.args.self.now.active c.args.self.now.book.tickets v.seen seen v.found found) in
    c.put_part-written.ensures.asked ∙ (part_size c.requires.can.setting (tag_behind c.args.self.now.tags) c.args.self.now.parts c.in-Some.view.message.now
    ∙ ap (λ (m : List ℕ). size_of c.requires.can.setting.ends (part_of (tag_behind c.args.self.now.tags) c.args.self.now.parts m)) same)

pub returns-else-written-clause-book : goal.returns-else-written-clause-book
returns-else-written-clause-book c = λ seen found.
    let v = c.in-Some.ensures in
    let same : c.in-Some.view.message.now ≡ seen.message = v.shows.message ∙ ap (λ (x : Seen). x.message) (same_seen c.args.self.now.active c.args.self.now.book.tickets v.seen seen v.found found) in
    nothing_ends c.args.self.now.active c.args.self.now.urbs.next (part_of (tag_behind c.args.self.now.tags) c.args.self.now.parts seen.message) c.args.self.now.book
    (λ last. not_ended (tag_behind c.args.self.now.tags) (take 1024 (drop (1024 * c.args.self.now.parts) seen.message)) (nat_le (length seen.message) (1024 * (c.args.self.now.parts + 1))) c.args.self.now.urbs.next last
    (sym c.if-written.false ∙ (c.put_part-written.ensures.eom ∙ ap (λ (m : List ℕ). nat_le (length m) (1024 * (c.args.self.now.parts + 1))) same)))

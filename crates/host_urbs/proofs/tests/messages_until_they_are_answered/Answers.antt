use Rattle.std.proofs.Common.{ℕ, [], ◌∷◌, drop, replicate, refl, ap, ◌∙◌}
use Rattle.std.specs.Prelude.{is_some}
use Rattle.usbip_wire.specs.declared.urb.Dir.TheVariants.{In}
use Rattle.usbip_wire.specs.Awaited.{entries_of}
use Rattle.usbip_wire.specs.Submit as submit
use Rattle.usbip_wire.specs.Unlink as unlink
use Rattle.usbip_wire.specs.Urb as urb
use Rattle.usbip_wire.specs.Dirs.{find, submit_of, is_unlink}
use Rattle.host_urbs.specs.Entries.{sent, moved, unlinked}
use Rattle.host_urbs.specs.Held.{Held, submit_by, submit_out, unlink_by, wrote}
use Rattle.host_urbs.proofs.tests.messages_until_they_are_answered.Goals as goal

abbrev after : ℕ → Held → Held
after n held = record { devid = held.devid; next = held.next; entries = moved n held.entries; outbox = drop n held.outbox }

pub unlinked-requires : goal.unlinked-requires
unfolding submit.submit_bytes unlink.unlink_bytes urb.fields
unlinked-requires c = λ c'.
    let begun = c'.in_ok-urbs.ensures.begun in
    let first = c'.submit.ensures.written ∙ ap (λ (h : Held). wrote (submit_by h In 2 1024 (replicate 8 0) []) h) begun in
    let second = c'.submit_pieces.ensures.written ∙ ap (λ (h : Held). wrote (submit_out h 1 (97 ∷ 98 ∷ 99 ∷ 100 ∷ 101 ∷ [])) h) first in
    let third = c'.unlink.ensures.written ∙ ap (λ (h : Held). wrote (unlink_by h 3) h) second in
    let all = c'.sent-4.ensures.moved ∙ ap (after 48) (c'.sent-3.ensures.moved ∙ ap (after 53) (c'.sent-2.ensures.moved ∙ ap (after 1) (c'.sent.ensures.moved ∙ ap (after 47) third))) in
    ap (λ (h : Held). is_unlink (find 5 (entries_of (sent h.entries)))) all ∙ refl

pub answer-requires : goal.answer-requires
unfolding submit.submit_bytes unlink.unlink_bytes urb.fields
answer-requires c = λ c'.
    let begun = c'.in_ok-urbs.ensures.begun in
    let first = c'.submit.ensures.written ∙ ap (λ (h : Held). wrote (submit_by h In 2 1024 (replicate 8 0) []) h) begun in
    let second = c'.submit_pieces.ensures.written ∙ ap (λ (h : Held). wrote (submit_out h 1 (97 ∷ 98 ∷ 99 ∷ 100 ∷ 101 ∷ [])) h) first in
    let third = c'.unlink.ensures.written ∙ ap (λ (h : Held). wrote (unlink_by h 3) h) second in
    let all = c'.sent-4.ensures.moved ∙ ap (after 48) (c'.sent-3.ensures.moved ∙ ap (after 53) (c'.sent-2.ensures.moved ∙ ap (after 1) (c'.sent.ensures.moved ∙ ap (after 47) third))) in
    let gone = c'.unlinked.ensures.taken ∙ ap (λ (h : Held). record { devid = h.devid; next = h.next; entries = unlinked 5 h.entries; outbox = h.outbox }) all in
    ap (λ (h : Held). is_some (submit_of (find 4 (entries_of (sent h.entries))))) gone ∙ refl

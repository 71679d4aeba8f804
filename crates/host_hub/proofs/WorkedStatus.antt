-- a status read whose packet comes before its answer
use Rattle.std.specs.Prelude.{ℕ, true, List}
use Rattle.std.proofs.Common.{lit≤, ◌≢◌, [], ◌∷◌, refl}
use Rattle.tmc_wire.specs.declared.class_request.ClassRequest.TheVariants as class
use Rattle.host_hub.specs.declared.outcome.Outcome.TheVariants as outcome
use Rattle.host_hub.specs.Order.{Class, Listen, Part}
use Rattle.host_hub.specs.Record.{Of, Past}
use Rattle.host_hub.specs.Outstanding.{Sent}
use Rattle.host_hub.specs.Law.{Kept}
use Rattle.host_hub.specs.Steps.{Working, asked, took, wrote}
use Rattle.host_hub.specs.Worked.{setting, telling}
use Rattle.host_hub.specs.WorkedStatus.{enabling, poll_asking, status_record, told}
use Rattle.host_hub.proofs.Entries.{submit_answer, submit_may}
use Rattle.host_hub.proofs.Rows.{asks, idles, settles, start}
use Rattle.host_hub.proofs.Stepping.{asked_works, no_unlinks_behind, packet_works, planned_kept, status_planned, wrote_works}
use Rattle.host_hub.proofs.WorkedAsks.{head}

some : {A : Type 0} {x : A} {xs : List A} → x ∷ xs ≢ []
some e = cc

abbrev tell1 : Past
tell1 = wrote setting (asked [] (telling 0 enabling)) 1 (Part 1 enabling true)

tell1_kept : Kept setting tell1
tell1_kept = asks start 1 (telling 0 enabling) (Part 1 enabling true) refl refl refl refl refl (refl, refl) (refl, refl) refl refl (lit≤ tt) (lit≤ tt)

told_kept : Kept setting told
told_kept =
    idles (settles tell1_kept (head 1 28) []
    (record { running = refl; turn = refl; found = refl; plain = refl; submits = refl; within = lit≤ tt; returned = refl; good = refl; free = refl })
    outcome.Done refl)
    refl (refl, refl)

-- it begins: both its submits are written

abbrev polling : Past
polling = asked told poll_asking

polling_works : Working setting polling
polling_works = asked_works setting told poll_asking told_kept refl

abbrev listening : Past
listening = wrote setting polling 2 Listen

listening_works : Working setting listening
listening_works =
    wrote_works setting polling 2 Listen polling_works (status_planned setting polling 2 poll_asking Listen refl refl refl refl (refl, (refl, refl)) refl) refl
    (submit_may setting polling Listen polling_works.lawful refl (lit≤ tt) (lit≤ tt)) refl

abbrev request : Past
request = wrote setting listening 2 (Class (class.ReadStatus 2))

request_works : Working setting request
request_works =
    wrote_works setting listening 2 (Class (class.ReadStatus 2)) listening_works
    (status_planned setting listening 2 poll_asking (Class (class.ReadStatus 2)) refl refl refl refl tt refl) refl
    (submit_may setting listening (Class (class.ReadStatus 2)) listening_works.lawful refl (lit≤ tt) (lit≤ tt)) refl

request_kept : Kept setting request
request_kept = planned_kept setting request 2 request_works refl refl refl some some

-- a request for service, and the packet

abbrev hears : (number : ℕ) → Sent
hears number = record { number = number; owner = Of 2; order = Listen }

abbrev serviced : Past
serviced = wrote setting (took request (head 2 2) (0x81 ∷ 0x50 ∷ [])) 2 Listen

serviced_works : Working setting (took request (head 2 2) (0x81 ∷ 0x50 ∷ []))
serviced_works =
    packet_works setting request 2 (hears 2) (head 2 2) (0x81 ∷ 0x50 ∷ []) request_kept refl
    (record { turn = refl; hears = refl; found = refl; is = refl; may = submit_answer setting request (hears 2) (head 2 2) (0x81 ∷ 0x50 ∷ []) request_kept.lawful refl refl (lit≤ tt) refl; good = refl })
    refl refl refl (no_unlinks_behind setting request 2 (head 2 2) (0x81 ∷ 0x50 ∷ []) refl request_kept refl refl refl)

serviced_kept : Kept setting serviced
serviced_kept =
    planned_kept setting serviced 2
    (wrote_works setting (took request (head 2 2) (0x81 ∷ 0x50 ∷ [])) 2 Listen serviced_works
    (status_planned setting (took request (head 2 2) (0x81 ∷ 0x50 ∷ [])) 2 poll_asking Listen refl refl refl refl tt refl) refl
    (submit_may setting (took request (head 2 2) (0x81 ∷ 0x50 ∷ [])) Listen serviced_works.lawful refl (lit≤ tt) (lit≤ tt)) refl)
    refl refl refl some some

abbrev notified : Past
notified = wrote setting (took serviced (head 4 2) (0x82 ∷ 0x50 ∷ [])) 2 Listen

notified_works : Working setting (took serviced (head 4 2) (0x82 ∷ 0x50 ∷ []))
notified_works =
    packet_works setting serviced 2 (hears 4) (head 4 2) (0x82 ∷ 0x50 ∷ []) serviced_kept refl
    (record { turn = refl; hears = refl; found = refl; is = refl; may = submit_answer setting serviced (hears 4) (head 4 2) (0x82 ∷ 0x50 ∷ []) serviced_kept.lawful refl refl (lit≤ tt) refl; good = refl })
    refl refl refl (no_unlinks_behind setting serviced 2 (head 4 2) (0x82 ∷ 0x50 ∷ []) refl serviced_kept refl refl refl)

notified_kept : Kept setting notified
notified_kept =
    planned_kept setting notified 2
    (wrote_works setting (took serviced (head 4 2) (0x82 ∷ 0x50 ∷ [])) 2 Listen notified_works
    (status_planned setting (took serviced (head 4 2) (0x82 ∷ 0x50 ∷ [])) 2 poll_asking Listen refl refl refl refl tt refl) refl
    (submit_may setting (took serviced (head 4 2) (0x82 ∷ 0x50 ∷ [])) Listen notified_works.lawful refl (lit≤ tt) (lit≤ tt)) refl)
    refl refl refl some some

-- and the answer

pub status_kept : Kept setting status_record
status_kept =
    idles (settles notified_kept (head 3 3) (1 ∷ 2 ∷ 0x50 ∷ [])
    (record { running = refl; turn = refl; found = refl; plain = refl; submits = refl; within = lit≤ tt; returned = refl; good = refl; free = refl })
    (outcome.Status 0x50) refl)
    refl (refl, refl)

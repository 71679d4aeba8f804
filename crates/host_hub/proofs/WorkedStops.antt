-- tickets that are cancelled, and the recoveries behind them
use Rattle.std.specs.Prelude.{ℕ, ℤ, true, false, List, codes}
use Rattle.std.proofs.Common.{lit≤, ◌≢◌, [], ◌∷◌, ◌++◌, inl, inr, refl}
use Rattle.usbip_wire.specs.declared.ret_unlink.RetUnlinkHead.{RetUnlinkHead}
use Rattle.usbip_wire.specs.Down as down
use Rattle.tmc_wire.specs.declared.class_request.ClassRequest.TheVariants as class
use Rattle.host_recover.specs.declared.need.Need.TheVariants as need
use Rattle.host_recover.specs.Letter.{Letter, Asked, Cleared, Drained, Success, Failed, Short, BulkOut}
use Rattle.host_recover.specs.Letter as letter
use Rattle.host_recover.specs.Words.{Has, words_of}
use Rattle.host_hub.specs.declared.outcome.Outcome.TheVariants as outcome
use Rattle.host_hub.specs.Order.{Class, ClearHalt, Part, Read, Request, Unlink}
use Rattle.host_hub.specs.Record.{Asking, Cancelled, Of, Past, Recovers, Settled, Took}
use Rattle.host_hub.specs.Outstanding.{Sent}
use Rattle.host_hub.specs.Law.{Kept}
use Rattle.host_hub.specs.Steps.{Working, asked, recovers_with, took, wrote}
use Rattle.host_hub.specs.Worked.{setting, success, query, piece_header, events, complete_query}
use Rattle.host_hub.specs.WorkedStops.{unlinked, unlinking, complete_text, race_record, cancelled, recovered, cancel_record, command, unanswered_record, long_query, aborted_record, split_query, first_part, second_part, split_record}
use Rattle.host_hub.proofs.Entries.{unlink_answer}
use Rattle.host_hub.proofs.Lists.{clash}
use Rattle.host_hub.proofs.Recovering.{recovery_begins, unlink_answered}
use Rattle.host_hub.proofs.Rows.{asks, cancels, goes, hears, idles, recovers, settles, start, stops}
use Rattle.host_hub.proofs.Stepping.{idle_kept}
use Rattle.host_hub.proofs.WorkedAsks.{head}

abbrev unlink_head : (number : ℕ) → ℤ → RetUnlinkHead
unlink_head number status = record { seqnum = number; status = status }

some : {A : Type 0} {x : A} {xs : List A} → x ∷ xs ≢ []
some e = cc

abbrev unlink_sent : (number target : ℕ) → Sent
unlink_sent number target = record { number = number; owner = Of 1; order = Unlink target }

-- ---- `*OPC?`, while its response is read

abbrev race_asking : Asking
race_asking = query 0 200 complete_query

abbrev race1 : Past
race1 = wrote setting (asked [] race_asking) 1 (Part 1 complete_query true)

race1_kept : Kept setting race1
race1_kept = asks start 1 race_asking (Part 1 complete_query true) refl refl refl refl refl (refl, refl) (refl, refl) refl refl (lit≤ tt) (lit≤ tt)

abbrev race2 : Past
race2 = wrote setting (took race1 (head 1 20) []) 1 (Request 2 200)

race2_kept : Kept setting race2
race2_kept =
    goes race1_kept
    (record { running = refl; turn = refl; found = refl; plain = refl; submits = refl; within = lit≤ tt; returned = refl; good = refl; free = refl })
    race_asking (Request 2 200) refl (refl, refl) refl refl refl refl refl (lit≤ tt) (lit≤ tt)

abbrev race3 : Past
race3 = wrote setting (took race2 (head 2 12) []) 1 (Read)

race3_kept : Kept setting race3
race3_kept =
    goes race2_kept
    (record { running = refl; turn = refl; found = refl; plain = refl; submits = refl; within = lit≤ tt; returned = refl; good = refl; free = refl })
    race_asking (Read) refl (refl, refl) refl refl refl refl refl (lit≤ tt) (lit≤ tt)

race_unlinking : Kept setting (unlinking complete_query)
race_unlinking = cancels race3_kept 1 (3 ∷ []) refl refl refl refl refl some some refl (lit≤ tt)

-- the response outruns the unlink

abbrev outrun : Past
outrun = Settled 1 outcome.Complete ∷ took (unlinking complete_query) (head 3 16) (complete_text 2 0xfd)

outrun_kept : Kept setting outrun
outrun_kept =
    idle_kept setting outrun (settles race_unlinking (head 3 16) (complete_text 2 0xfd)
    (record { running = refl; turn = refl; found = refl; plain = refl; submits = refl; within = lit≤ tt; returned = refl; good = refl; free = refl })
    outcome.Complete refl)
    refl (λ e. absurd (some e))

pub race_kept : Kept setting race_record
race_kept =
    idles (unlink_answered setting outrun (unlink_head 4 success) outrun_kept refl refl
    (unlink_answer setting outrun (unlink_sent 4 3) (unlink_head 4 success) outrun_kept.lawful refl refl) refl refl)
    refl (refl, refl)

-- or it does not, and the response is aborted

pub in_word : Has (words_of (need.In 2)) (Asked (class.AbortIn 2) Success ∷ Drained Short ∷ Asked class.CheckIn Success ∷ [])
in_word = inr (inr (inr (
  Asked (class.AbortIn 2) Success ∷ [],
  Drained Short ∷ Asked class.CheckIn Success ∷ [],
  refl,
  refl,
  (Drained Short ∷ [], Asked class.CheckIn Success ∷ [], refl, ([], Drained Short ∷ [], refl, ([], refl), refl), ([], Asked class.CheckIn Success ∷ [], refl, ([], refl), inl refl)),
)))

abbrev cancel_begun : Past
cancel_begun = Recovers ∷ cancelled complete_query

cancel_stopped : Working setting (cancelled complete_query)
cancel_stopped = stops race_unlinking 1 outcome.Cancelled (unlink_head 4 unlinked) (unlink_sent 4 3) refl refl refl refl refl refl refl refl (λ u e. clash e)

cancel_begins : Working setting cancel_begun
cancel_begins = recovery_begins setting (cancelled complete_query) cancel_stopped (record { hand = refl; free = refl; whole = refl; need = refl })

abbrev cancel_aborting : Past
cancel_aborting = recovers_with setting cancel_begun (Class (class.AbortIn 2))

cancel_aborting_kept : Kept setting cancel_aborting
cancel_aborting_kept =
    recovers cancel_begins (letter.Ask (class.AbortIn 2)) refl refl
    (record { letter = Asked (class.AbortIn 2) Success; is = refl; begins = (Drained Short ∷ Asked class.CheckIn Success ∷ [], in_word); halt = tt }) (lit≤ tt) (lit≤ tt)

abbrev cancel_draining : Past
cancel_draining = recovers_with setting (took cancel_aborting (head 5 2) (1 ∷ 2 ∷ [])) Read

cancel_draining_kept : Kept setting cancel_draining
cancel_draining_kept =
    recovers (hears cancel_aborting_kept (head 5 2) (1 ∷ 2 ∷ [])
    (record { running = refl; hand = refl; found = refl; alone = refl; plain = refl; submits = refl; within = lit≤ tt; returned = refl; good = refl; free = refl }))
    letter.Read refl refl (record { letter = Drained Short; is = refl; begins = (Asked class.CheckIn Success ∷ [], in_word); halt = tt }) (lit≤ tt) (lit≤ tt)

abbrev cancel_checking : Past
cancel_checking = recovers_with setting (took cancel_draining (head 6 0) []) (Class class.CheckIn)

cancel_checking_kept : Kept setting cancel_checking
cancel_checking_kept =
    recovers (hears cancel_draining_kept (head 6 0) []
    (record { running = refl; hand = refl; found = refl; alone = refl; plain = refl; submits = refl; within = lit≤ tt; returned = refl; good = refl; free = refl }))
    (letter.Ask class.CheckIn) refl refl (record { letter = Asked class.CheckIn Success; is = refl; begins = ([], in_word); halt = tt }) (lit≤ tt) (lit≤ tt)

cancel_recovered : Kept setting (recovered complete_query)
cancel_recovered =
    idles (hears cancel_checking_kept (head 7 8) (1 ∷ 0 ∷ 0 ∷ 0 ∷ 2 ∷ 0 ∷ 0 ∷ 0 ∷ [])
    (record { running = refl; hand = refl; found = refl; alone = refl; plain = refl; submits = refl; within = lit≤ tt; returned = refl; good = refl; free = refl }))
    refl (in_word, refl)

pub cancel_record_kept : Kept setting cancel_record
cancel_record_kept = cancel_recovered

-- ---- a command without a response

abbrev command_asking : Asking
command_asking = query 0 200 command

abbrev command1 : Past
command1 = wrote setting (asked [] command_asking) 1 (Part 1 command true)

command1_kept : Kept setting command1
command1_kept = asks start 1 command_asking (Part 1 command true) refl refl refl refl refl (refl, refl) (refl, refl) refl refl (lit≤ tt) (lit≤ tt)

abbrev command2 : Past
command2 = wrote setting (took command1 (head 1 20) []) 1 (Request 2 200)

command2_kept : Kept setting command2
command2_kept =
    goes command1_kept
    (record { running = refl; turn = refl; found = refl; plain = refl; submits = refl; within = lit≤ tt; returned = refl; good = refl; free = refl })
    command_asking (Request 2 200) refl (refl, refl) refl refl refl refl refl (lit≤ tt) (lit≤ tt)

abbrev command3 : Past
command3 = wrote setting (took command2 (head 2 12) []) 1 (Read)

command3_kept : Kept setting command3
command3_kept =
    goes command2_kept
    (record { running = refl; turn = refl; found = refl; plain = refl; submits = refl; within = lit≤ tt; returned = refl; good = refl; free = refl })
    command_asking (Read) refl (refl, refl) refl refl refl refl refl (lit≤ tt) (lit≤ tt)

command_unlinking : Kept setting (unlinking command)
command_unlinking = cancels command3_kept 1 (3 ∷ []) refl refl refl refl refl some some refl (lit≤ tt)

abbrev command_begun : Past
command_begun = Recovers ∷ cancelled command

command_stopped : Working setting (cancelled command)
command_stopped = stops command_unlinking 1 outcome.Cancelled (unlink_head 4 unlinked) (unlink_sent 4 3) refl refl refl refl refl refl refl refl (λ u e. clash e)

command_begins : Working setting command_begun
command_begins = recovery_begins setting (cancelled command) command_stopped (record { hand = refl; free = refl; whole = refl; need = refl })

abbrev command_aborting : Past
command_aborting = recovers_with setting command_begun (Class (class.AbortIn 2))

command_aborting_kept : Kept setting command_aborting
command_aborting_kept =
    recovers command_begins (letter.Ask (class.AbortIn 2)) refl refl
    (record { letter = Asked (class.AbortIn 2) Success; is = refl; begins = (Drained Short ∷ Asked class.CheckIn Success ∷ [], in_word); halt = tt }) (lit≤ tt) (lit≤ tt)

abbrev command_draining : Past
command_draining = recovers_with setting (took command_aborting (head 5 2) (1 ∷ 2 ∷ [])) Read

command_draining_kept : Kept setting command_draining
command_draining_kept =
    recovers (hears command_aborting_kept (head 5 2) (1 ∷ 2 ∷ [])
    (record { running = refl; hand = refl; found = refl; alone = refl; plain = refl; submits = refl; within = lit≤ tt; returned = refl; good = refl; free = refl }))
    letter.Read refl refl (record { letter = Drained Short; is = refl; begins = (Asked class.CheckIn Success ∷ [], in_word); halt = tt }) (lit≤ tt) (lit≤ tt)

abbrev command_checking : Past
command_checking = recovers_with setting (took command_draining (head 6 0) []) (Class class.CheckIn)

command_checking_kept : Kept setting command_checking
command_checking_kept =
    recovers (hears command_draining_kept (head 6 0) []
    (record { running = refl; hand = refl; found = refl; alone = refl; plain = refl; submits = refl; within = lit≤ tt; returned = refl; good = refl; free = refl }))
    (letter.Ask class.CheckIn) refl refl (record { letter = Asked class.CheckIn Success; is = refl; begins = ([], in_word); halt = tt }) (lit≤ tt) (lit≤ tt)

command_recovered : Kept setting (recovered command)
command_recovered =
    idles (hears command_checking_kept (head 7 8) (1 ∷ 0 ∷ 0 ∷ 0 ∷ 2 ∷ 0 ∷ 0 ∷ 0 ∷ [])
    (record { running = refl; hand = refl; found = refl; alone = refl; plain = refl; submits = refl; within = lit≤ tt; returned = refl; good = refl; free = refl }))
    refl (in_word, refl)

abbrev events_asking : Asking
events_asking = query 0 200 events

abbrev events1 : Past
events1 = wrote setting (asked (recovered command) events_asking) 2 (Part 3 events true)

events1_kept : Kept setting events1
events1_kept = asks command_recovered 2 events_asking (Part 3 events true) refl refl refl refl refl (in_word, refl) (refl, refl) refl refl (lit≤ tt) (lit≤ tt)

abbrev events2 : Past
events2 = wrote setting (took events1 (head 8 20) []) 2 (Request 4 200)

events2_kept : Kept setting events2
events2_kept =
    goes events1_kept
    (record { running = refl; turn = refl; found = refl; plain = refl; submits = refl; within = lit≤ tt; returned = refl; good = refl; free = refl })
    events_asking (Request 4 200) refl (refl, refl) refl refl refl refl refl (lit≤ tt) (lit≤ tt)

abbrev events3 : Past
events3 = wrote setting (took events2 (head 9 12) []) 2 (Read)

events3_kept : Kept setting events3
events3_kept =
    goes events2_kept
    (record { running = refl; turn = refl; found = refl; plain = refl; submits = refl; within = lit≤ tt; returned = refl; good = refl; free = refl })
    events_asking (Read) refl (refl, refl) refl refl refl refl refl (lit≤ tt) (lit≤ tt)

pub unanswered_kept : Kept setting unanswered_record
unanswered_kept =
    idles (settles events3_kept (head 10 16) (piece_header 4 0xfb 4 0 1 ++ codes "132" ++ 10 ∷ [])
    (record { running = refl; turn = refl; found = refl; plain = refl; submits = refl; within = lit≤ tt; returned = refl; good = refl; free = refl })
    (outcome.Complete) refl)
    refl (refl, refl)

-- ---- a message is taken back in its midst

out_word : Has (words_of (need.Out 1 false)) (Asked (class.AbortOut 1) Success ∷ Asked class.CheckOut Success ∷ Cleared BulkOut ∷ [])
out_word = inl (inl (
  Asked (class.AbortOut 1) Success ∷ [],
  Asked class.CheckOut Success ∷ Cleared BulkOut ∷ [],
  refl,
  refl,
  ([], Asked class.CheckOut Success ∷ Cleared BulkOut ∷ [], refl, ([], refl), inl (Asked class.CheckOut Success ∷ [], Cleared BulkOut ∷ [], refl, refl, refl)),
))

abbrev long_asking : Asking
long_asking = query 0 200 long_query

abbrev long1 : Past
long1 = wrote setting (asked [] long_asking) 1 (Part 1 long_query true)

long1_kept : Kept setting long1
long1_kept = asks start 1 long_asking (Part 1 long_query true) refl refl refl refl refl (refl, refl) (refl, refl) refl refl (lit≤ tt) (lit≤ tt)

abbrev long_unlinking : Past
long_unlinking = wrote setting (Cancelled 1 ∷ long1) 1 (Unlink 1)

long_unlinking_kept : Kept setting long_unlinking
long_unlinking_kept = cancels long1_kept 1 (1 ∷ []) refl refl refl refl refl some some refl (lit≤ tt)

abbrev long_stopped : Past
long_stopped = Settled 1 outcome.Cancelled ∷ Took (down.RetUnlink (unlink_head 2 unlinked)) ∷ long_unlinking

long_stops : Working setting long_stopped
long_stops = stops long_unlinking_kept 1 outcome.Cancelled (unlink_head 2 unlinked) (unlink_sent 2 1) refl refl refl refl refl refl refl refl (λ u e. clash e)

abbrev out_aborting : Past
out_aborting = recovers_with setting (Recovers ∷ long_stopped) (Class (class.AbortOut 1))

out_aborting_kept : Kept setting out_aborting
out_aborting_kept =
    recovers (recovery_begins setting long_stopped long_stops (record { hand = refl; free = refl; whole = refl; need = refl }))
    (letter.Ask (class.AbortOut 1)) refl refl
    (record { letter = Asked (class.AbortOut 1) Success; is = refl; begins = (Asked class.CheckOut Success ∷ Cleared BulkOut ∷ [], out_word); halt = tt }) (lit≤ tt) (lit≤ tt)

abbrev out_checking : Past
out_checking = recovers_with setting (took out_aborting (head 3 2) (1 ∷ 1 ∷ [])) (Class class.CheckOut)

out_checking_kept : Kept setting out_checking
out_checking_kept =
    recovers (hears out_aborting_kept (head 3 2) (1 ∷ 1 ∷ [])
    (record { running = refl; hand = refl; found = refl; alone = refl; plain = refl; submits = refl; within = lit≤ tt; returned = refl; good = refl; free = refl }))
    (letter.Ask class.CheckOut) refl refl (record { letter = Asked class.CheckOut Success; is = refl; begins = (Cleared BulkOut ∷ [], out_word); halt = tt }) (lit≤ tt) (lit≤ tt)

abbrev checked : List ℕ
checked = 1 ∷ 0 ∷ 0 ∷ 0 ∷ 0 ∷ 0 ∷ 0 ∷ 0 ∷ []

abbrev out_clearing : Past
out_clearing = recovers_with setting (took out_checking (head 4 8) checked) (ClearHalt BulkOut)

out_clearing_kept : Kept setting out_clearing
out_clearing_kept =
    recovers (hears out_checking_kept (head 4 8) checked
    (record { running = refl; hand = refl; found = refl; alone = refl; plain = refl; submits = refl; within = lit≤ tt; returned = refl; good = refl; free = refl }))
    (letter.Clear BulkOut) refl refl (record { letter = Cleared BulkOut; is = refl; begins = ([], out_word); halt = refl }) (lit≤ tt) (lit≤ tt)

abbrev out_recovered : Past
out_recovered = took out_clearing (head 5 0) []

out_recovered_kept : Kept setting out_recovered
out_recovered_kept =
    idles (hears out_clearing_kept (head 5 0) []
    (record { running = refl; hand = refl; found = refl; alone = refl; plain = refl; submits = refl; within = lit≤ tt; returned = refl; good = refl; free = refl }))
    refl (out_word, refl)

abbrev next_asking : Asking
next_asking = query 0 200 complete_query

abbrev next1 : Past
next1 = wrote setting (asked out_recovered next_asking) 2 (Part 2 complete_query true)

next1_kept : Kept setting next1
next1_kept = asks out_recovered_kept 2 next_asking (Part 2 complete_query true) refl refl refl refl refl (out_word, refl) (refl, refl) refl refl (lit≤ tt) (lit≤ tt)

abbrev next2 : Past
next2 = wrote setting (took next1 (head 6 20) []) 2 (Request 3 200)

next2_kept : Kept setting next2
next2_kept =
    goes next1_kept
    (record { running = refl; turn = refl; found = refl; plain = refl; submits = refl; within = lit≤ tt; returned = refl; good = refl; free = refl })
    next_asking (Request 3 200) refl (refl, refl) refl refl refl refl refl (lit≤ tt) (lit≤ tt)

abbrev next3 : Past
next3 = wrote setting (took next2 (head 7 12) []) 2 (Read)

next3_kept : Kept setting next3
next3_kept =
    goes next2_kept
    (record { running = refl; turn = refl; found = refl; plain = refl; submits = refl; within = lit≤ tt; returned = refl; good = refl; free = refl })
    next_asking (Read) refl (refl, refl) refl refl refl refl refl (lit≤ tt) (lit≤ tt)

pub aborted_kept : Kept setting aborted_record
aborted_kept =
    idles (settles next3_kept (head 8 16) (complete_text 3 0xfc)
    (record { running = refl; turn = refl; found = refl; plain = refl; submits = refl; within = lit≤ tt; returned = refl; good = refl; free = refl })
    (outcome.Complete) refl)
    refl (refl, refl)

-- ---- a message is taken back behind its first part

split_word : Has (words_of (need.Out 2 true))
    (Asked (class.AbortOut 2) Failed ∷ Asked class.Clear Success ∷ Asked class.CheckClear Success ∷ Cleared BulkOut ∷ [])
split_word = inr (
  Asked (class.AbortOut 2) Failed ∷ [],
  Asked class.Clear Success ∷ Asked class.CheckClear Success ∷ Cleared BulkOut ∷ [],
  refl,
  refl,
  (
    [],
    Asked class.Clear Success ∷ Asked class.CheckClear Success ∷ Cleared BulkOut ∷ [],
    refl,
    ([], refl),
    (
      Asked class.Clear Success ∷ [],
      Asked class.CheckClear Success ∷ Cleared BulkOut ∷ [],
      refl,
      refl,
      (
        [],
        Asked class.CheckClear Success ∷ Cleared BulkOut ∷ [],
        refl,
        ([], refl),
        (Asked class.CheckClear Success ∷ [], Cleared BulkOut ∷ [], refl, refl, ([], Cleared BulkOut ∷ [], refl, inl refl, ([], Cleared BulkOut ∷ [], refl, inl refl, refl))),
      ),
    ),
  ),
)

abbrev split_asking : Asking
split_asking = query 0 200 split_query

abbrev split1 : Past
split1 = wrote setting (asked [] split_asking) 1 (Part 1 first_part false)

split1_kept : Kept setting split1
split1_kept = asks start 1 split_asking (Part 1 first_part false) refl refl refl refl refl (refl, refl) (refl, refl) refl refl (lit≤ tt) (lit≤ tt)

abbrev split2 : Past
split2 = wrote setting (took split1 (head 1 1036) []) 1 (Part 2 second_part false)

split2_kept : Kept setting split2
split2_kept =
    goes split1_kept
    (record { running = refl; turn = refl; found = refl; plain = refl; submits = refl; within = lit≤ tt; returned = refl; good = refl; free = refl })
    split_asking (Part 2 second_part false) refl (refl, refl) refl refl refl refl refl (lit≤ tt) (lit≤ tt)

abbrev split_unlinking : Past
split_unlinking = wrote setting (Cancelled 1 ∷ split2) 1 (Unlink 2)

split_unlinking_kept : Kept setting split_unlinking
split_unlinking_kept = cancels split2_kept 1 (2 ∷ []) refl refl refl refl refl some some refl (lit≤ tt)

abbrev split_stopped : Past
split_stopped = Settled 1 outcome.Cancelled ∷ Took (down.RetUnlink (unlink_head 3 unlinked)) ∷ split_unlinking

split_stops : Working setting split_stopped
split_stops = stops split_unlinking_kept 1 outcome.Cancelled (unlink_head 3 unlinked) (unlink_sent 3 2) refl refl refl refl refl refl refl refl (λ u e. clash e)

abbrev split_aborting : Past
split_aborting = recovers_with setting (Recovers ∷ split_stopped) (Class (class.AbortOut 2))

split_aborting_kept : Kept setting split_aborting
split_aborting_kept =
    recovers (recovery_begins setting split_stopped split_stops (record { hand = refl; free = refl; whole = refl; need = refl }))
    (letter.Ask (class.AbortOut 2)) refl refl
    (record { letter = Asked (class.AbortOut 2) Failed; is = refl; begins = (Asked class.Clear Success ∷ Asked class.CheckClear Success ∷ Cleared BulkOut ∷ [], split_word); halt = tt }) (lit≤ tt) (lit≤ tt)

abbrev split_clearing : Past
split_clearing = recovers_with setting (took split_aborting (head 4 2) (0x80 ∷ 0 ∷ [])) (Class class.Clear)

split_clearing_kept : Kept setting split_clearing
split_clearing_kept =
    recovers (hears split_aborting_kept (head 4 2) (0x80 ∷ 0 ∷ [])
    (record { running = refl; hand = refl; found = refl; alone = refl; plain = refl; submits = refl; within = lit≤ tt; returned = refl; good = refl; free = refl }))
    (letter.Ask class.Clear) refl refl (record { letter = Asked class.Clear Success; is = refl; begins = (Asked class.CheckClear Success ∷ Cleared BulkOut ∷ [], split_word); halt = tt }) (lit≤ tt) (lit≤ tt)

abbrev split_checking : Past
split_checking = recovers_with setting (took split_clearing (head 5 1) (1 ∷ [])) (Class class.CheckClear)

split_checking_kept : Kept setting split_checking
split_checking_kept =
    recovers (hears split_clearing_kept (head 5 1) (1 ∷ [])
    (record { running = refl; hand = refl; found = refl; alone = refl; plain = refl; submits = refl; within = lit≤ tt; returned = refl; good = refl; free = refl }))
    (letter.Ask class.CheckClear) refl refl (record { letter = Asked class.CheckClear Success; is = refl; begins = (Cleared BulkOut ∷ [], split_word); halt = tt }) (lit≤ tt) (lit≤ tt)

abbrev split_halts : Past
split_halts = recovers_with setting (took split_checking (head 6 2) (1 ∷ 0 ∷ [])) (ClearHalt BulkOut)

split_halts_kept : Kept setting split_halts
split_halts_kept =
    recovers (hears split_checking_kept (head 6 2) (1 ∷ 0 ∷ [])
    (record { running = refl; hand = refl; found = refl; alone = refl; plain = refl; submits = refl; within = lit≤ tt; returned = refl; good = refl; free = refl }))
    (letter.Clear BulkOut) refl refl (record { letter = Cleared BulkOut; is = refl; begins = ([], split_word); halt = refl }) (lit≤ tt) (lit≤ tt)

abbrev split_recovered : Past
split_recovered = took split_halts (head 7 0) []

split_recovered_kept : Kept setting split_recovered
split_recovered_kept =
    idles (hears split_halts_kept (head 7 0) []
    (record { running = refl; hand = refl; found = refl; alone = refl; plain = refl; submits = refl; within = lit≤ tt; returned = refl; good = refl; free = refl }))
    refl (split_word, refl)

abbrev last_asking : Asking
last_asking = query 1 200 complete_query

abbrev last1 : Past
last1 = wrote setting (asked split_recovered last_asking) 2 (Part 3 complete_query true)

last1_kept : Kept setting last1
last1_kept = asks split_recovered_kept 2 last_asking (Part 3 complete_query true) refl refl refl refl refl (split_word, refl) (refl, refl) refl refl (lit≤ tt) (lit≤ tt)

abbrev last2 : Past
last2 = wrote setting (took last1 (head 8 20) []) 2 (Request 4 200)

last2_kept : Kept setting last2
last2_kept =
    goes last1_kept
    (record { running = refl; turn = refl; found = refl; plain = refl; submits = refl; within = lit≤ tt; returned = refl; good = refl; free = refl })
    last_asking (Request 4 200) refl (refl, refl) refl refl refl refl refl (lit≤ tt) (lit≤ tt)

abbrev last3 : Past
last3 = wrote setting (took last2 (head 9 12) []) 2 (Read)

last3_kept : Kept setting last3
last3_kept =
    goes last2_kept
    (record { running = refl; turn = refl; found = refl; plain = refl; submits = refl; within = lit≤ tt; returned = refl; good = refl; free = refl })
    last_asking (Read) refl (refl, refl) refl refl refl refl refl (lit≤ tt) (lit≤ tt)

pub split_kept : Kept setting split_record
split_kept =
    idles (settles last3_kept (head 10 16) (complete_text 4 0xfb)
    (record { running = refl; turn = refl; found = refl; plain = refl; submits = refl; within = lit≤ tt; returned = refl; good = refl; free = refl })
    (outcome.Complete) refl)
    refl (refl, refl)

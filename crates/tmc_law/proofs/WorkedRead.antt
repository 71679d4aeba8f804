-- the query `READ? 60` up to the first packet of its response, step by step
use Rattle.std.proofs.Common.{◌≢◌, ℕ, true, [], ◌∷◌, ◌++◌, codes, Some, inr, refl, lit<, lit≤}
use Rattle.std.proofs.lemmas.Bool.{eqb-false}
use Rattle.tmc_wire.specs.declared.header.OutHeader.TheVariants.{Message, Request}
use Rattle.tmc_wire.specs.Header.{in_header_bytes}
use Rattle.instr_plain.specs.declared.log.LogEntry.TheVariants as entry
use Rattle.instr_plain.specs.Standing.{at_power_on}
use Rattle.tmc_law.specs.State.{State, Pending, start, arrived, Owed, Sending}
use Rattle.tmc_law.specs.Put.{success}
use Rattle.tmc_law.specs.BulkOut.{DoesMove, Last, Requests, NothingUnread, DoesExecute}
use Rattle.tmc_law.specs.BulkIn.{DoesBegin, Inside}
use Rattle.tmc_law.specs.Step.{Steps, Take, Exec, Begin, Fill}
use Rattle.tmc_law.specs.Run.{Runs}
use Rattle.tmc_law.specs.WorkedSession.{in_submit, answered}
use Rattle.tmc_law.specs.WorkedQuery.{request_submit, request_text, response_submit}
use Rattle.tmc_law.specs.WorkedRead.{read_submit, read_text, block, first_packet, second_packet, reading, read_log}
use Rattle.tmc_law.proofs.WorkedComing.{out_comes, in_comes}
use Rattle.tmc_law.proofs.WorkedUnspoiled.{IsGood}
use Rattle.tmc_law.proofs.WorkedTaking.{takes_whole}
use Rattle.tmc_law.proofs.WorkedMessages.{reads}
use Rattle.tmc_law.proofs.WorkedQuery.{request_good}

abbrev pub read_came : State
read_came = record start { bulk_out = arrived read_submit read_text ∷ [] }

abbrev pub request_came : State
request_came = record start { bulk_out = arrived read_submit read_text ∷ arrived request_submit request_text ∷ [] }

-- the submit on Bulk-IN has room for so many bytes
abbrev pub came : ℕ → State
came size = record request_came { bulk_in = arrived (in_submit 3 size) [] ∷ [] }

abbrev pub waits : ℕ → State
waits size = record (came size) { bulk_out = arrived request_submit request_text ∷ []; waiting = Some (record { seq = 1; message = codes "READ? 60" }) }

abbrev pub executed : ℕ → State
executed size = record (came size) {
  bulk_out = arrived request_submit request_text ∷ [];
  log = entry.Exec 1 (codes "READ? 60") ∷ [];
  standing = record at_power_on { unread = block };
}

abbrev pub requested : ℕ → State
requested size = record (executed size) { bulk_out = []; side = Owed 2 4000 }

abbrev pub sends : ℕ → State
sends size = record (requested size) {
  side = Sending (record { tag = 2; size = 65; left = first_packet ++ second_packet });
  log = read_log;
  standing = at_power_on;
}

-- the submit has the first packet
abbrev pub part_filled : Pending
part_filled = record (arrived response_submit []) { moved = first_packet }

abbrev pub half : State
half = record start {
  bulk_in = part_filled ∷ [];
  side = Sending (record { tag = 2; size = 65; left = second_packet });
  log = read_log;
}

read_good : (size : ℕ) → IsGood (came size) read_text (Message 1 8 true)
read_good size = record {
  idle = refl;
  fine = record { long = lit≤ tt; known = refl; tagged = eqb-false _ _ refl; inverse = refl; counted = inr (eqb-false _ _ refl) };
  headed = record { reserved = 0; attributes = 1; ninth = 0; tenth = 0; eleventh = 0; tagged = (lit< tt, lit< tt); counted = (lit< tt, lit< tt); accepted = refl; layout = refl };
  suits = lit≤ tt;
}

pub takes_read : (size : ℕ) → Steps (came size) (Take 1) (answered read_submit success 20 [] ∷ []) (waits size)
takes_read size =
    takes_whole (came size) (waits size) (arrived read_submit read_text) (arrived request_submit request_text ∷ []) (Message 1 8 true)
    (record { plugged = refl; none_waits = refl; none_runs = refl; first = refl; good = read_good size; some = eqb-false _ _ refl; one = refl; moves = DoesMove refl refl; fits = refl; full = refl })
    (Last 1 8 (codes "READ? 60") (record (came size) { bulk_out = arrived request_submit request_text ∷ [] }) refl
    (record { head = 0x01 ∷ 0x01 ∷ 0xfe ∷ 0x00 ∷ 0x08 ∷ 0x00 ∷ 0x00 ∷ 0x00 ∷ 0x01 ∷ 0x00 ∷ 0x00 ∷ 0x00 ∷ []; alignment = []; headed = (read_good size).headed; counted = refl; least = lit< tt; aligned = refl; layout = refl })
    (NothingUnread refl refl) refl)

pub executes_read : (size : ℕ) → Steps (waits size) Exec [] (executed size)
executes_read size = record {
  plugged = refl;
  leads = (DoesExecute 1 (codes "READ? 60") refl (record { standing = record at_power_on { unread = block }; after = (reads, refl); is = refl }), refl);
}

some_block : block ≢ []
some_block e = cc

pub takes_request : (size : ℕ) → Steps (executed size) (Take 1) (answered request_submit success 12 [] ∷ []) (requested size)
takes_request size =
    takes_whole (executed size) (requested size) (arrived request_submit request_text) [] (Request 2 4000)
    (record { plugged = refl; none_waits = refl; none_runs = refl; first = refl; good = request_good (executed size) refl refl; some = eqb-false _ _ refl; one = refl; moves = DoesMove refl refl; fits = refl; full = refl })
    (Requests 2 4000 refl some_block refl)

pub begins_block : (size : ℕ) → Steps (requested size) (Begin 65) [] (sends size)
unfolding in_header_bytes
begins_block size = record {
  plugged = refl;
  leads = (DoesBegin 2 4000 refl tt (lit≤ tt) (lit≤ tt) (record { standing = at_power_on; after = refl; is = refl }), refl);
}

fills_first : Steps (sends 4096) (Fill 1) [] half
fills_first = record {
  plugged = refl;
  leads = Inside (arrived response_submit []) [] (record { tag = 2; size = 65; left = first_packet ++ second_packet }) refl refl tt (lit≤ tt) (lit≤ tt) (lit< tt) refl refl;
}

pub reads_half : Runs start reading half
reads_half = (
  read_came,
  out_comes start 1 20 read_text (record { plugged = refl; free = refl; few = refl }) refl refl,
  (
    request_came,
    out_comes read_came 2 12 request_text (record { plugged = refl; free = refl; few = refl }) refl refl,
    (
      came 4096,
      in_comes request_came 3 4096 (record { plugged = refl; free = refl; few = refl }) refl refl,
      (waits 4096, takes_read 4096, (executed 4096, executes_read 4096, (requested 4096, takes_request 4096, (sends 4096, begins_block 4096, (half, fills_first, refl))))),
    ),
  ),
)

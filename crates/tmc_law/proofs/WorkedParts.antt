-- a message in two transfers, step by step
use Rattle.std.proofs.Common.{◌≢◌, ℕ, true, false, List, [], ◌∷◌, ◌++◌, codes, replicate, Some, inr, refl, lit<, lit≤}
use Rattle.std.proofs.lemmas.Bool.{eqb-false}
use Rattle.tmc_wire.specs.declared.header.OutHeader.TheVariants.{Message}
use Rattle.instr_plain.specs.Standing.{at_power_on}
use Rattle.tmc_law.specs.State.{State, Pending, start, arrived}
use Rattle.tmc_law.specs.Put.{success}
use Rattle.tmc_law.specs.BulkOut.{Inside, TransferEnds, InProgress, DoesMove, Part, Last, NothingUnread, LaterPart, DoesExecute}
use Rattle.tmc_law.specs.Step.{Steps, Take, Exec}
use Rattle.tmc_law.specs.Run.{Runs}
use Rattle.tmc_law.specs.WorkedSession.{out_submit, answered}
use Rattle.tmc_law.specs.WorkedQuery.{identity}
use Rattle.tmc_law.specs.WorkedParts.{spaces_text, last_text, spaced, sending_parts, parts_log}
use Rattle.tmc_law.proofs.WorkedComing.{out_comes}
use Rattle.tmc_law.proofs.WorkedUnspoiled.{IsGood, begun, begins, unspoiled, unspoiled_inside, fits_whole}
use Rattle.tmc_law.proofs.WorkedTaking.{takes_whole}
use Rattle.tmc_law.proofs.WorkedMessages.{identifies_behind_spaces}

abbrev pub header_bytes : List ℕ
header_bytes = 0x01 ∷ 0x01 ∷ 0xfe ∷ 0x00 ∷ 0x64 ∷ 0x00 ∷ 0x00 ∷ 0x00 ∷ 0x00 ∷ 0x00 ∷ 0x00 ∷ 0x00 ∷ []

abbrev pub first : Pending
first = arrived (out_submit 1 112) spaces_text

abbrev pub first_came : State
first_came = record start { bulk_out = first ∷ [] }

-- one packet was taken
abbrev pub later : Pending
later = record first { left = replicate 48 32; moved = header_bytes ++ replicate 52 32 }

abbrev pub inside : State
inside = record start { bulk_out = later ∷ []; transfer = Some (record { header = Message 1 100 false; taken = header_bytes ++ replicate 52 32 }) }

abbrev pub part : State
part = record start { part = replicate 100 32 }

abbrev last_came : State
last_came = record part { bulk_out = arrived (out_submit 2 20) last_text ∷ [] }

abbrev waits : State
waits = record start { waiting = Some (record { seq = 2; message = spaced }) }

abbrev done : State
done = record start { log = parts_log; standing = record at_power_on { unread = identity } }

pub spaces_good : IsGood first_came spaces_text (Message 1 100 false)
spaces_good = record {
  idle = refl;
  fine = record { long = lit≤ tt; known = refl; tagged = eqb-false _ _ refl; inverse = refl; counted = inr (eqb-false _ _ refl) };
  headed = record { reserved = 0; attributes = 0; ninth = 0; tenth = 0; eleventh = 0; tagged = (lit< tt, lit< tt); counted = (lit< tt, lit< tt); accepted = refl; layout = refl };
  suits = lit≤ tt;
}

some_spaces : replicate {A = ℕ} 48 32 ≢ []
some_spaces e = cc

pub takes_first : Steps first_came (Take 1) [] inside
takes_first = record {
  plugged = refl;
  leads = (
    refl,
    Inside first later [] (begun (Message 1 100 false)) (record { header = Message 1 100 false; taken = header_bytes ++ replicate 52 32 }) refl (eqb-false _ _ refl) (lit≤ tt)
        (unspoiled first_came first (Message 1 100 false) refl spaces_good (fits_whole first (begun (Message 1 100 false)) refl))
        (begins first_came first (Message 1 100 false) refl spaces_good) (DoesMove refl refl) some_spaces refl refl,
  );
}

pub some_moved : later.moved ≢ []
some_moved e = cc

takes_second : Steps inside (Take 1) (answered (out_submit 1 112) success 112 [] ∷ []) part
takes_second = record {
  plugged = refl;
  leads = (
    refl,
    TransferEnds later (record first { left = []; moved = spaces_text }) [] (record { header = Message 1 100 false; taken = header_bytes ++ replicate 52 32 })
        (record { header = Message 1 100 false; taken = spaces_text }) refl (eqb-false _ _ refl) refl
        (unspoiled_inside inside later (record { header = Message 1 100 false; taken = header_bytes ++ replicate 52 32 }) refl some_moved)
        (InProgress refl) (DoesMove refl refl) refl
        (Part 1 100 (replicate 100 32) start refl
        (record { head = header_bytes; alignment = []; headed = spaces_good.headed; counted = refl; least = lit< tt; aligned = refl; layout = refl })
        (NothingUnread refl refl) refl)
        refl,
  );
}

last_good : IsGood last_came last_text (Message 2 5 true)
last_good = record {
  idle = refl;
  fine = record { long = lit≤ tt; known = refl; tagged = eqb-false _ _ refl; inverse = refl; counted = inr (eqb-false _ _ refl) };
  headed = record { reserved = 0; attributes = 1; ninth = 0; tenth = 0; eleventh = 0; tagged = (lit< tt, lit< tt); counted = (lit< tt, lit< tt); accepted = refl; layout = refl };
  suits = lit≤ tt;
}

some_part : replicate {A = ℕ} 100 32 ≢ []
some_part e = cc

takes_last : Steps last_came (Take 1) (answered (out_submit 2 20) success 20 [] ∷ []) waits
takes_last =
    takes_whole last_came waits (arrived (out_submit 2 20) last_text) [] (Message 2 5 true)
    (record { plugged = refl; none_waits = refl; none_runs = refl; first = refl; good = last_good; some = eqb-false _ _ refl; one = refl; moves = DoesMove refl refl; fits = refl; full = refl })
    (Last 2 5 (codes "*IDN?") part refl
    (record { head = 0x01 ∷ 0x02 ∷ 0xfd ∷ 0x00 ∷ 0x05 ∷ 0x00 ∷ 0x00 ∷ 0x00 ∷ 0x01 ∷ 0x00 ∷ 0x00 ∷ 0x00 ∷ []; alignment = 0x00 ∷ 0x00 ∷ 0x00 ∷ []; headed = last_good.headed; counted = refl; least = lit< tt; aligned = refl; layout = refl })
    (LaterPart some_part refl) refl)

executes : Steps waits Exec [] done
executes = record {
  plugged = refl;
  leads = (DoesExecute 2 spaced refl (record { standing = done.standing; after = (identifies_behind_spaces _, refl); is = refl }), refl);
}

pub sends_parts : Runs start sending_parts done
sends_parts = (
  first_came,
  out_comes start 1 112 spaces_text (record { plugged = refl; free = refl; few = refl }) refl refl,
  (
    inside,
    takes_first,
    (
      part,
      takes_second,
      (
        last_came,
        out_comes part 2 20 last_text (record { plugged = refl; free = refl; few = refl }) refl refl,
        (waits, takes_last, (done, executes, refl)),
      ),
    ),
  ),
)

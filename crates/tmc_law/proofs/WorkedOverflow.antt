-- a submit that a packet fills, and one that has no room for the next packet, step by step
use Rattle.std.proofs.Common.{true, false, [], ◌∷◌, ◌++◌, inl, refl, lit<, lit≤}
use Rattle.tmc_law.specs.State.{State, start, arrived, Sending}
use Rattle.tmc_law.specs.BulkIn.{Full, Overflows}
use Rattle.tmc_law.specs.Run.{Runs}
use Rattle.tmc_law.specs.WorkedSession.{in_submit}
use Rattle.tmc_law.specs.WorkedQuery.{request_text}
use Rattle.tmc_law.specs.WorkedRead.{read_text, first_packet, second_packet, read_log}
use Rattle.tmc_law.specs.WorkedOverflow.{overflowing}
use Rattle.tmc_law.proofs.WorkedComing.{out_comes, in_comes}
use Rattle.tmc_law.proofs.WorkedRead.{read_came, request_came, came, waits, executed, requested, sends, takes_read, executes_read, takes_request, begins_block}

-- the second packet is to come
abbrev full : State
full = record start { side = Sending (record { tag = 2; size = 65; left = second_packet }); log = read_log }

abbrev small_came : State
small_came = record full { bulk_in = arrived (in_submit 4 8) [] ∷ [] }

abbrev pub halted : State
halted = record start { halted = record { bulk_out = false; bulk_in = true; interrupt_in = false }; log = read_log }

pub overflows : Runs start overflowing halted
overflows = (
  read_came,
  out_comes start 1 20 read_text (record { plugged = refl; free = refl; few = refl }) refl refl,
  (
    request_came,
    out_comes read_came 2 12 request_text (record { plugged = refl; free = refl; few = refl }) refl refl,
    (
      came 64,
      in_comes request_came 3 64 (record { plugged = refl; free = refl; few = refl }) refl refl,
      (
        waits 64,
        takes_read 64,
        (
          executed 64,
          executes_read 64,
          (
            requested 64,
            takes_request 64,
            (
              sends 64,
              begins_block 64,
              (
                full,
                record {
                  plugged = refl;
                  leads = Full (arrived (in_submit 3 64) []) [] (record { tag = 2; size = 65; left = first_packet ++ second_packet }) refl refl tt (lit≤ tt) (lit≤ tt) refl refl refl;
                },
                (
                  small_came,
                  in_comes full 4 8 (record { plugged = refl; free = refl; few = refl }) refl refl,
                  (
                    halted,
                    record {
                      plugged = refl;
                      leads = Overflows (arrived (in_submit 4 8) []) [] (record { tag = 2; size = 65; left = second_packet }) 0 refl refl tt refl (inl refl) (lit≤ tt) (lit< tt) refl refl;
                    },
                    refl,
                  ),
                ),
              ),
            ),
          ),
        ),
      ),
    ),
  ),
)

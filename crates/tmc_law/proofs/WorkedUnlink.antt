-- the submit with the first packet of a response is unlinked
use Rattle.std.proofs.Common.{◌≡◌, false, [], ◌∷◌, ◌++◌, replicate, Option, Some, None, inl, refl, sym, subst, lit<, lit≤}
use Rattle.std.proofs.lemmas.Bool.{eqb-false}
use Rattle.tmc_wire.specs.declared.header.OutHeader.TheVariants.{Message}
use Rattle.tmc_law.specs.Endpoint.{BulkOut, BulkIn}
use Rattle.tmc_law.specs.State.{State, Pending, Transfer, start, arrived}
use Rattle.tmc_law.specs.Put.{success}
use Rattle.tmc_law.specs.BulkOut.{Spoils, ByHeader, ByLength, Misfits, InProgress, Begun, TransferEnds, DoesMove, Part, NothingUnread}
use Rattle.tmc_law.specs.BulkIn.{Short}
use Rattle.tmc_law.specs.Queues.{Hits, Misses}
use Rattle.tmc_law.specs.Step.{Steps, Take}
use Rattle.tmc_law.specs.Run.{Runs}
use Rattle.tmc_law.specs.WorkedSession.{out_submit, in_submit, answered}
use Rattle.tmc_law.specs.WorkedParts.{spaces_text}
use Rattle.tmc_law.specs.WorkedRead.{second_packet, read_log}
use Rattle.tmc_law.specs.WorkedUnlink.{unlinking, unlinking_out}
use Rattle.tmc_law.proofs.WorkedComing.{out_comes, in_comes, unlink_comes}
use Rattle.tmc_law.proofs.WorkedUnspoiled.{fits_whole}
use Rattle.tmc_law.proofs.WorkedParts.{header_bytes, first_came, later, inside, part, spaces_good, takes_first}
use Rattle.tmc_law.proofs.WorkedRead.{half, part_filled}

abbrev unlinked : State
unlinked = record half { bulk_in = [] }

abbrev next_came : State
next_came = record half { bulk_in = arrived (in_submit 6 4096) [] ∷ [] }

pub unlinks : Runs half unlinking (record start { log = read_log })
unlinks = (
  unlinked,
  unlink_comes half unlinked 4 3 _ refl (lit< tt) (lit< tt) (Hits BulkIn [] part_filled [] refl refl refl refl refl),
  (
    unlinked,
    unlink_comes unlinked unlinked 5 3 _ refl (lit< tt) (lit< tt) (Misses tt refl refl),
    (
      next_came,
      in_comes unlinked 6 4096 (record { plugged = refl; free = refl; few = refl }) refl refl,
      (
        record start { log = read_log },
        record {
          plugged = refl;
          leads = Short (arrived (in_submit 6 4096) []) [] (record { tag = 2; size = 65; left = second_packet }) 0 refl refl tt refl (inl refl) (lit≤ tt) (lit< tt) (lit≤ tt) refl refl;
        },
        refl,
      ),
    ),
  ),
)

-- a part-taken submit of Bulk-OUT is unlinked, and the next one has the rest
abbrev part_left : State
part_left = record inside { bulk_out = [] }

abbrev rest : Pending
rest = arrived (out_submit 3 48) (replicate 48 32)

abbrev rest_came : State
rest_came = record inside { bulk_out = rest ∷ [] }

abbrev first_part : Transfer
first_part = record { header = Message 1 100 false; taken = header_bytes ++ replicate 52 32 }

-- it is what the transfer wants
rest_fits : Spoils rest_came rest → ⊥
rest_fits (ByHeader none refused) = let e : None ≡ Some first_part = sym none in cc
rest_fits (ByLength transfer (InProgress is) fresh misfits) =
    fits_whole rest first_part refl (subst (λ (o : Option Transfer). Misfits rest (in_progress o)) (sym is) misfits) where
      in_progress : Option Transfer → Transfer
      in_progress None = first_part
      in_progress (Some transfer) = transfer
rest_fits (ByLength transfer (Begun header none refused headed is) fresh misfits) = let e : None ≡ Some first_part = sym none in cc

takes_rest : Steps rest_came (Take 1) (answered (out_submit 3 48) success 48 [] ∷ []) part
takes_rest = record {
  plugged = refl;
  leads = (
    refl,
    TransferEnds rest (record rest { left = []; moved = replicate 48 32 }) [] first_part (record { header = Message 1 100 false; taken = spaces_text }) refl (eqb-false _ _ refl) refl
        rest_fits (InProgress refl) (DoesMove refl refl) refl
        (Part 1 100 (replicate 100 32) start refl
        (record { head = header_bytes; alignment = []; headed = spaces_good.headed; counted = refl; least = lit< tt; aligned = refl; layout = refl })
        (NothingUnread refl refl) refl)
        refl,
  );
}

pub unlinks_out : Runs start unlinking_out part
unlinks_out = (
  first_came,
  out_comes start 1 112 spaces_text (record { plugged = refl; free = refl; few = refl }) refl refl,
  (
    inside,
    takes_first,
    (
      part_left,
      unlink_comes inside part_left 2 1 _ refl (lit< tt) (lit< tt) (Hits BulkOut [] later [] refl refl refl refl refl),
      (
        rest_came,
        out_comes part_left 3 48 (replicate 48 32) (record { plugged = refl; free = refl; few = refl }) refl refl,
        (part, takes_rest, refl),
      ),
    ),
  ),
)

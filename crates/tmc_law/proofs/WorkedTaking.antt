-- transfers that one packet of a submit carries whole
use Rattle.std.proofs.Common.{◌≡◌, ◌≢◌, List, [], ◌∷◌, length, None, refl}
use Rattle.tmc_wire.specs.declared.header.OutHeader.{OutHeader}
use Rattle.tmc_law.specs.State.{State, Pending, Plugged}
use Rattle.tmc_law.specs.Put.{ended, success}
use Rattle.tmc_law.specs.BulkOut.{TakesEffect, TransferEnds, Moves, wants, packets_of}
use Rattle.tmc_law.specs.Step.{Steps, Take}
use Rattle.tmc_law.proofs.WorkedUnspoiled.{IsGood, begun, begins, unspoiled, fits_whole}

-- the submit with all its bytes taken
abbrev pub all_taken : Pending → Pending
all_taken submit = record submit { left = []; moved = submit.left }

-- one packet has the whole submit, which has the whole transfer
pub record IsWhole (s : State) (submit : Pending) (behind : List Pending) (header : OutHeader) : Type 0 where
  pub plugged : s.presence ≡ Plugged
  pub none_waits : s.waiting ≡ None
  pub none_runs : s.transfer ≡ None
  pub first : s.bulk_out ≡ submit ∷ behind
  pub good : IsGood s submit.left header
  pub some : submit.head.length ≢ 0
  pub one : packets_of (length submit.left) ≡ 1
  pub moves : Moves 1 submit (begun header) (all_taken submit) (record { header = header; taken = submit.left })
  pub fits : wants (begun header) ≡ submit.head.length
  pub full : wants (record { header = header; taken = submit.left }) ≡ 0

pub takes_whole : (s t : State) (submit : Pending) (behind : List Pending) (header : OutHeader) → IsWhole s submit behind header
    → TakesEffect submit.head.seqnum (record { header = header; taken = submit.left }) (record s { bulk_out = behind; transfer = None }) t
    → Steps s (Take 1) (ended success (all_taken submit) ∷ []) t
takes_whole s t submit behind header whole effect = record {
  plugged = whole.plugged;
  leads = (
    whole.none_waits,
    TransferEnds submit (all_taken submit) behind (begun header) (record { header = header; taken = submit.left }) whole.first whole.some (rw whole.one refl)
        (unspoiled s submit header whole.none_runs whole.good (fits_whole submit (begun header) whole.fits))
        (begins s submit header whole.none_runs whole.good) whole.moves whole.full effect refl,
  );
}

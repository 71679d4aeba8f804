use Rattle.std.proofs.Common.{[], None, inl, inr, refl}
use Rattle.host_joint.specs.Bond.{Holds, Stands, ToAbortIn, ToAbortFirst, Resting, Anywhere}
use Rattle.host_joint.specs.Tie.{asked_of}
use Rattle.host_joint.proofs.Cancelling.{cancels, unlinking_one, bond_as, to_in, to_out, to_rest, to_clear}
use Rattle.host_joint.proofs.Saying.{may_read}
use Rattle.host_joint.proofs.bonds.cancels_begin.Goals as goal

pub returns-clause-unlink : goal.returns-clause-unlink
returns-clause-unlink c last message tag size sofar read head unlink next ups downs s number target tie =
    record { bond = cancels last message tag size sofar read head unlink next ups downs s tie; awaited = inl (unlinking_one head unlink target) }

pub returns-clause-read : goal.returns-clause-read
returns-clause-read c last message tag size sofar read head next ups downs s tie = record { bond = may_read last message tag size sofar read head next ups downs s tie; awaited = inr refl }

pub returns-clause-to_in : goal.returns-clause-to_in
returns-clause-to_in c last message tag size sofar read next ups downs s bound = record {
  bond = bond_as _ (Holds (Stands (ToAbortIn tag))) (asked_of None) [] next ups downs s bound.bond (to_in last message tag size sofar read next ups downs s bound.bond);
  awaited = (refl, refl);
}

pub returns-clause-to_out : goal.returns-clause-to_out
returns-clause-to_out c last message tag size sofar read next ups downs s bound = record {
  bond = bond_as _ (Holds (Stands (ToAbortFirst tag))) (asked_of None) [] next ups downs s bound.bond (to_out last message tag size sofar read next ups downs s bound.bond);
  awaited = (refl, refl);
}

pub returns-clause-to_rest : goal.returns-clause-to_rest
returns-clause-to_rest c last message sofar next ups downs s bound = record {
  bond = bond_as _ (Holds (Stands Resting)) (asked_of None) [] next ups downs s bound.bond (to_rest last message sofar next ups downs s bound.bond);
  awaited = (refl, refl);
}

pub returns-clause-to_clear : goal.returns-clause-to_clear
returns-clause-to_clear c situation next ups downs s bound = record {
  bond = bond_as (Holds situation) (Holds (Stands Anywhere)) (asked_of None) [] next ups downs s bound.bond (to_clear (Holds situation) next ups downs s bound.bond);
  awaited = (refl, refl);
}

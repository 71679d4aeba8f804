use Rattle.std.proofs.Common.{◌≡◌, ◌⊎◌, inl, inr, true, None, refl, arith}
use Rattle.tmc_law.specs.Endpoint.{Endpoint, Control, BulkOut, BulkIn, InterruptIn, number_of}
use Rattle.tmc_law.specs.State.{is_halted}
use Rattle.tmc_law.specs.Put.{success}
use Rattle.host_joint.specs.Bond.{Saying, Bound, TakesPart, StillGoes, StillTaken, StillFull, StillEnds, StillHalted}
use Rattle.host_joint.proofs.Reasoning.{clash}
use Rattle.host_joint.proofs.reasons.usable_submits_are_taken.Goals as goal

pub returns-clause-part : goal.returns-clause-part
returns-clause-part c which tag first ended head unlinks next asked answer transferred ups downs s known own b =
    by (c.messages_are_cancelled.ensures.answer tag first ended head unlinks next asked answer transferred ups downs s own b.bound).2
  where
    by : TakesPart tag first ended head answer unlinks next ups downs s → (answer.status ≡ success) × (answer.actual ≡ head.length) × Bound (Saying tag first ended true) None unlinks next ups downs s
    by (inl took) = took
    by (inr shut) = clash s.halted.bulk_out (b.usable BulkOut tt known) shut.1

pub returns-clause-read : goal.returns-clause-read
returns-clause-read c last message tag size sofar read head unlinks next asked answer transferred ups downs s bulk b =
    by (c.cancelled_answers_are_taken.ensures.submit last message tag size sofar read head unlinks next asked answer transferred ups downs s bulk b.bound).2
  where
    shut : (e : Endpoint) → head.ep ≡ number_of e → is_halted e s ≡ true → answer.status ≡ success
    shut Control own on = absurd (cc)
    shut BulkOut own on = clash s.halted.bulk_out (b.usable BulkOut tt refl) on
    shut BulkIn own on = clash s.halted.bulk_in (b.usable BulkIn tt refl) on
    shut InterruptIn own on = other bulk
      where
        other : (head.ep ≡ number_of BulkOut) ⊎ (head.ep ≡ number_of BulkIn) → answer.status ≡ success
        other (inl is) = absurd (omega (arith, own, is))
        other (inr is) = absurd (omega (arith, own, is))

    by : StillGoes last message tag size sofar read head answer transferred unlinks next ups downs s → answer.status ≡ success
    by (StillTaken own status whole bound) = status
    by (StillFull own status counted full piece bound) = status
    by (StillEnds eom carried response own status counted small piece ran front whole longer bound) = status
    by (StillHalted e own on status bound) = shut e own on

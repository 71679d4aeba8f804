use Rattle.std.proofs.Common.{◌≡◌, inl, inr, ℕ, List, length, take, subst, ap, refl, arith, length-take}
use Rattle.tmc_wire.specs.Header.{IsInHeader}
use Rattle.tmc_wire.specs.HeaderFault.{IsInFault}
use Rattle.host_transfers.specs.Answer.{Faulty}
use Rattle.host_transfers.proofs.Reading.{head_alone}
use Rattle.host_transfers.proofs.judged.judge.Goals as goal
use Rattle.host_transfers.proofs.judged.judge.Goals.{else-not-ended-via-then-not-ended+else-head-lt-BULK_HEADER, else-not-ended-via-else-not-ended}

pub returns-in-Err : goal.returns-in-Err
returns-in-Err c = λ bytes head counted.
    Faulty c.in-Err.fault
    (elim c.else-not-ended.branch [
      | else-not-ended-via-then-not-ended+else-head-lt-BULK_HEADER w ↦
          let l : length c.args.head.now ≡ length (take 12 bytes) = ap (λ (x : List ℕ). length x) head in
          inr (omega (arith, l, w.if-head-lt-BULK_HEADER.false, length-take 12 bytes))
      | else-not-ended-via-else-not-ended w ↦ inl w.if-not-ended.false
    ])
    (subst (λ (l : List ℕ). IsInFault l c.in-Err.fault) head ((c.in-Err.ensures.fault c.in-Err.fault).0 refl)) c.refused.ensures

pub returns-in-Ok : goal.returns-in-Ok
returns-in-Ok c = λ bytes head counted.
    let headed = subst (λ (l : List ℕ). IsInHeader c.in-Ok.header (take 12 l)) head ((c.in-Ok.ensures.header c.in-Ok.header).0 refl) in
    c.judge_begun.ensures bytes (subst (λ (l : List ℕ). IsInHeader c.in-Ok.header l) (head_alone bytes) headed) counted

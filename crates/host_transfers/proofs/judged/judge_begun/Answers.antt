use Rattle.std.proofs.Common.{arith}
use Rattle.host_transfers.specs.Answer.{OtherTag, TooMuch, EndsEarly, GoesFurther}
use Rattle.host_transfers.proofs.judged.judge_begun.Goals as goal

pub returns-then-header-tag : goal.returns-then-header-tag
returns-then-header-tag c = λ bytes headed counted. OtherTag c.args.header headed c.if-header-tag.true c.bulk.ensures

pub returns-then-header-size : goal.returns-then-header-size
returns-then-header-size c = λ bytes headed counted. TooMuch c.args.header headed c.if-header-tag.false c.if-header-size.true c.bulk-then-header-size.ensures

pub returns-then-count-end : goal.returns-then-count-end
returns-then-count-end c = λ bytes headed counted.
    EndsEarly c.args.header (record { headed = headed; tagged = c.if-header-tag.false; few = c.if-header-size.false }) c.if-ended.true
    (omega (arith, counted, c.from.ensures, c.if-count-end.true)) c.bulk-then-count-end.ensures

pub returns-then-end-count : goal.returns-then-end-count
returns-then-end-count c = λ bytes headed counted.
    GoesFurther c.args.header (record { headed = headed; tagged = c.if-header-tag.false; few = c.if-header-size.false })
    (omega (arith, counted, c.from.ensures, c.if-end-count.true)) c.bulk-then-end-count.ensures

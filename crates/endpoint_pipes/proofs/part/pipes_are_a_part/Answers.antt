use Rattle.std.proofs.Common.{refl}
use Rattle.endpoint_pipes.proofs.Holding.{queue_is, holds_with, mark_is, marked_with}
use Rattle.endpoint_pipes.proofs.part.pipes_are_a_part.Goals as goal

pub returns-clause-starts : goal.returns-clause-starts
returns-clause-starts c = record { control = refl; bulk_out = refl; bulk_in = refl; interrupt_in = refl; halted = refl }

pub returns-clause-queues : goal.returns-clause-queues
returns-clause-queues c = queue_is

pub returns-clause-changes : goal.returns-clause-changes
returns-clause-changes c = holds_with

pub returns-clause-polls : goal.returns-clause-polls
returns-clause-polls c polled later s held h list = record { control = refl; bulk_out = h.bulk_out; bulk_in = h.bulk_in; interrupt_in = h.interrupt_in; halted = h.halted }

pub returns-clause-halts : goal.returns-clause-halts
returns-clause-halts c = mark_is

pub returns-clause-marks : goal.returns-clause-marks
returns-clause-marks c = marked_with

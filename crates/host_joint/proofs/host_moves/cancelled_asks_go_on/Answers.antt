use Rattle.std.proofs.Common.{[], List, subst}
use Rattle.usbip_wire.specs.declared.unlink.UnlinkHead.{UnlinkHead}
use Rattle.tmc_law.specs.Endpoint.{BulkOut, BulkIn, InterruptIn}
use Rattle.host_joint.specs.Unlinking.{Unlinking}
use Rattle.host_joint.proofs.GoingOn.{order_left, order_unlinked, lines_unlinked, order_written, none_named}
use Rattle.host_joint.proofs.Tying.{none_unlinked}
use Rattle.host_joint.proofs.host_moves.cancelled_asks_go_on.Goals as goal

pub returns-clause-begins : goal.returns-clause-begins
returns-clause-begins c asked heads ask ups downs s lines order asking = (
  record {
    lines = lines_unlinked c.hosts_keep_lines.ensures.unlink asked [] heads ups downs s lines;
    order = order;
    asking = c.messages_are_written.ensures.unlinks ask ups downs s heads asking;
  },
  order_written ups heads (none_unlinked _ _ lines.unlinked).1,
)

pub returns-clause-outs : goal.returns-clause-outs
returns-clause-outs c asked unlinks ask ups head answer transferred downs s own cancelled =
    let taken = c.hosts_keep_lines.ensures.answer asked unlinks ups head answer transferred downs s BulkOut own cancelled.lines in (
      c.answers_are_taken.ensures.outs ask ups head answer transferred downs s own cancelled.asking,
      record {
        rest = taken.0;
        first = taken.1;
        later = λ left shorter kept after asking. record {
          lines = taken.2 left shorter kept;
          order = order_left asked left unlinks BulkOut head taken.0 taken.1 shorter kept cancelled.order;
          asking = asking;
        };
      },
    )

pub returns-clause-ins : goal.returns-clause-ins
returns-clause-ins c asked unlinks ask ups head answer transferred downs s own cancelled =
    let taken = c.hosts_keep_lines.ensures.answer asked unlinks ups head answer transferred downs s BulkIn own cancelled.lines in (
      c.answers_are_taken.ensures.ins ask ups head answer transferred downs s own cancelled.asking,
      record {
        rest = taken.0;
        first = taken.1;
        later = λ left shorter kept after asking. record {
          lines = taken.2 left shorter kept;
          order = order_left asked left unlinks BulkIn head taken.0 taken.1 shorter kept cancelled.order;
          asking = asking;
        };
      },
    )

pub returns-clause-interrupts : goal.returns-clause-interrupts
returns-clause-interrupts c asked unlinks ask ups head answer transferred downs s own cancelled =
    let taken = c.hosts_keep_lines.ensures.answer asked unlinks ups head answer transferred downs s InterruptIn own cancelled.lines in (
      c.answers_are_taken.ensures.interrupts ask ups head answer transferred downs s own cancelled.asking,
      record {
        rest = taken.0;
        first = taken.1;
        later = λ left shorter kept after asking. record {
          lines = taken.2 left shorter kept;
          order = order_left asked left unlinks InterruptIn head taken.0 taken.1 shorter kept cancelled.order;
          asking = asking;
        };
      },
    )

pub returns-clause-unlinked : goal.returns-clause-unlinked
returns-clause-unlinked c asked unlinks ask ups head answer downs s cancelled =
    let taken = c.hosts_keep_lines.ensures.unlink_answer asked unlinks ups head answer downs s cancelled.lines in (
      taken.0,
      taken.1,
      record {
        lines = taken.2;
        order = order_unlinked asked head taken.0 (subst (λ (l : List UnlinkHead). Unlinking asked l) taken.1 cancelled.order);
        asking = c.answers_are_taken.ensures.unlinks ask ups head answer downs s cancelled.asking;
      },
    )

pub returns-clause-over : goal.returns-clause-over
returns-clause-over c asked ask ups downs s cancelled = (
  c.what_is_answered_is_over.ensures asked BulkOut ups downs s cancelled.lines (none_named (asked BulkOut) (cancelled.order.named BulkOut tt)),
  c.what_is_answered_is_over.ensures asked BulkIn ups downs s cancelled.lines (none_named (asked BulkIn) (cancelled.order.named BulkIn tt)),
)

use Rattle.std.proofs.Common.{◌++◌, refl, ap, ◌∙◌, arith}
use Rattle.tmc_wire.specs.Standard.{dev_dep_msg_out}
use Rattle.tmc_wire.specs.Header.{OutFits, prefix, sized, out_header_bytes}
use Rattle.tmc_wire.proofs.Sized.{eom_bit-from_bool, header_written}
use Rattle.tmc_wire.proofs.header.out_bytes.Goals as goal

pub returns-in-Message-clause-written : goal.returns-in-Message-clause-written
unfolding out_header_bytes
returns-in-Message-clause-written c =
    rw c.in-Message.is (c.sized_bytes.ensures ∙ ap (λ a. prefix dev_dep_msg_out c.in-Message.tag 0 ++ sized c.in-Message.size a 0 0 0) (c.from.ensures ∙ eom_bit-from_bool c.in-Message.eom))

pub returns-in-Message-clause-spelled : goal.returns-in-Message-clause-spelled
returns-in-Message-clause-spelled c =
    let fits : OutFits c.args.header = rw c.in-Message.is (omega arith, omega arith) in
    header_written c.args.header _ c.requires fits (returns-in-Message-clause-written c)

pub returns-in-Request-clause-written : goal.returns-in-Request-clause-written
unfolding out_header_bytes
returns-in-Request-clause-written c = rw c.in-Request.is c.sized_bytes-in-Request.ensures

pub returns-in-Request-clause-spelled : goal.returns-in-Request-clause-spelled
returns-in-Request-clause-spelled c =
    let fits : OutFits c.args.header = rw c.in-Request.is (omega arith, omega arith) in
    header_written c.args.header _ c.requires fits (returns-in-Request-clause-written c)

pub returns-in-Trigger-clause-written : goal.returns-in-Trigger-clause-written
unfolding out_header_bytes
returns-in-Trigger-clause-written c = rw c.in-Trigger.is refl

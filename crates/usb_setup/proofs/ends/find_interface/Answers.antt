-- Each exit gives what the definitions say, and there is one such answer.
use Rattle.std.proofs.Common.{ℕ, Option, subst, sym, ap, ◌∙◌}
use Rattle.std.specs.Option.{ok_or}
use Rattle.std.proofs.lemmas.Result.{err_from_is_err_and}
use Rattle.usb_setup.specs.declared.desc_fault.DescFault.TheVariants.{Length}
use Rattle.usb_setup.specs.Scan.{ends_of}
use Rattle.usb_setup.proofs.Judging.{Holds, broken_first, scan_holds, stop_holds, found_exactly, fault_exactly}
use Rattle.usb_setup.proofs.ends.find_interface.Goals as goal

broken : (c : goal.After-from_residual) → Holds c.args.bytes.now c.from_residual.result
broken c =
    let gave = err_from_is_err_and c.from_residual.result c.from_residual.ensures.1 in
    let none = c.in_err-configuration.ensures in
    let here = rw none.ok_part at c.configuration_value.ensures in
    rw (gave.1, gave.2) (broken_first c.args.bytes.now c.in_err-configuration.field-0.0 (none.value ∙ ap (λ (o : Option ℕ). ok_or o (Length 0)) none.ok_part) here)

stopped : (c : goal.After-from_residual-in_err-scan) → Holds c.args.bytes.now c.from_residual-in_err-scan.result
stopped c =
    let gave = err_from_is_err_and c.from_residual-in_err-scan.result c.from_residual-in_err-scan.ensures.1 in
    let some = c.in_ok-configuration.ensures in
    let begins = rw some.ok_part at c.configuration_value.ensures in
    rw (gave.1, gave.2) (stop_holds c.args.bytes.now c.in_err-scan.field-0.0 begins.0 c.in_err-scan.ensures)

scanned : (c : goal.After-ends) → Holds c.args.bytes.now c.ends.result
scanned c =
    let some = c.in_ok-configuration.ensures in
    let begins = rw some.ok_part at c.configuration_value.ensures in
    subst (Holds c.args.bytes.now) (sym (c.ends.ensures ∙ ap (λ (k : ℕ). ends_of k c.in_ok-scan.scan) begins.1))
    (scan_holds c.args.bytes.now c.in_ok-scan.scan begins.0 c.in_ok-scan.ensures)

pub returns-in_err-configuration-clause-found : goal.returns-in_err-configuration-clause-found
returns-in_err-configuration-clause-found c = found_exactly c.args.bytes.now c.from_residual.result (broken c)

pub returns-in_err-configuration-clause-fault : goal.returns-in_err-configuration-clause-fault
returns-in_err-configuration-clause-fault c = fault_exactly c.args.bytes.now c.from_residual.result (broken c)

pub returns-in_err-scan-clause-found : goal.returns-in_err-scan-clause-found
returns-in_err-scan-clause-found c = found_exactly c.args.bytes.now c.from_residual-in_err-scan.result (stopped c)

pub returns-in_err-scan-clause-fault : goal.returns-in_err-scan-clause-fault
returns-in_err-scan-clause-fault c = fault_exactly c.args.bytes.now c.from_residual-in_err-scan.result (stopped c)

pub returns-clause-found : goal.returns-clause-found
returns-clause-found c = found_exactly c.args.bytes.now c.ends.result (scanned c)

pub returns-clause-fault : goal.returns-clause-fault
returns-clause-fault c = fault_exactly c.args.bytes.now c.ends.result (scanned c)

use Rattle.std.proofs.Common.{refl, arith}
use Rattle.std.proofs.lemmas.Result.{err_from_is_err_and}
use Rattle.host_urbs.specs.declared.attached.Attached.{Attached}
use Rattle.host_urbs.specs.Attach.{At, Describing, Configuring, begun}
use Rattle.host_urbs.proofs.Attachment.{none_made, asking, to_describe, to_configure, attaches, joined_path, joined_stop}
use Rattle.host_urbs.proofs.Went.{spelled, counts_path, counts_stop}
use Rattle.host_urbs.proofs.attaching.attach.Goals as goal

pub returns-in_err-device-clause-stopped : goal.returns-in_err-device-clause-stopped
returns-in_err-device-clause-stopped g c = let q = err_from_is_err_and c.from_residual.result c.from_residual.ensures.1 in rw (q.1, q.2) (
    let first = c.in_err-device.ensures.goes c.args.turns (begun c.args.busid.now) refl refl refl (none_made c.args.turns) in
    first)

pub returns-in_err-device-clause-counts : goal.returns-in_err-device-clause-counts
returns-in_err-device-clause-counts g c = let q = err_from_is_err_and c.from_residual.result c.from_residual.ensures.1 in rw (q.1, q.2) (
    let first = c.in_err-device.ensures.goes c.args.turns (begun c.args.busid.now) refl refl refl (none_made c.args.turns) in
    counts_stop g.L.Link.told g.L.Link.counts g.L.Link.sends g.L.Link.polls c.args.busid.now c.args.link.now c.args.turns (begun c.args.busid.now) c.in_err-device.field-0.0 c.import.new.link first)

pub returns-in_err-ends-clause-stopped : goal.returns-in_err-ends-clause-stopped
returns-in_err-ends-clause-stopped g c = let q = err_from_is_err_and c.from_residual-in_err-ends.result c.from_residual-in_err-ends.ensures.1 in rw (q.1, q.2) (
    let first = c.in_ok-device.ensures.goes c.args.turns (begun c.args.busid.now) refl refl refl (none_made c.args.turns) in
    let begins = to_describe g.L.Link.told g.L.Link.counts g.L.Link.sends g.L.Link.polls c.args.turns c.args.busid.now (begun c.args.busid.now) c.args.link.now c.in_ok-device.device c.devid_of-devid.result first.0 c.import.new.link first.1 first.3 c.devid_of-devid.ensures in
    let at : At = asking c.args.busid.now (Describing c.devid_of-devid.result) first.0 in
    let second = c.in_err-ends.ensures.goes c.args.turns c.args.busid.now at refl refl refl first.2 in
    let stop = joined_stop g.L.Link.told g.L.Link.counts g.L.Link.sends g.L.Link.polls c.args.turns c.args.busid.now (begun c.args.busid.now) c.args.link.now at c.import.new.link c.describe.new.link c.in_err-ends.field-0.0 begins second in
    stop)

pub returns-in_err-ends-clause-counts : goal.returns-in_err-ends-clause-counts
returns-in_err-ends-clause-counts g c = let q = err_from_is_err_and c.from_residual-in_err-ends.result c.from_residual-in_err-ends.ensures.1 in rw (q.1, q.2) (
    let first = c.in_ok-device.ensures.goes c.args.turns (begun c.args.busid.now) refl refl refl (none_made c.args.turns) in
    let begins = to_describe g.L.Link.told g.L.Link.counts g.L.Link.sends g.L.Link.polls c.args.turns c.args.busid.now (begun c.args.busid.now) c.args.link.now c.in_ok-device.device c.devid_of-devid.result first.0 c.import.new.link first.1 first.3 c.devid_of-devid.ensures in
    let at : At = asking c.args.busid.now (Describing c.devid_of-devid.result) first.0 in
    let second = c.in_err-ends.ensures.goes c.args.turns c.args.busid.now at refl refl refl first.2 in
    let stop = joined_stop g.L.Link.told g.L.Link.counts g.L.Link.sends g.L.Link.polls c.args.turns c.args.busid.now (begun c.args.busid.now) c.args.link.now at c.import.new.link c.describe.new.link c.in_err-ends.field-0.0 begins second in
    counts_stop g.L.Link.told g.L.Link.counts g.L.Link.sends g.L.Link.polls c.args.busid.now c.args.link.now c.args.turns (begun c.args.busid.now) c.in_err-ends.field-0.0 c.describe.new.link stop)

pub returns-in_err-configure-clause-stopped : goal.returns-in_err-configure-clause-stopped
returns-in_err-configure-clause-stopped g c = let q = err_from_is_err_and c.from_residual-in_err-configure.result c.from_residual-in_err-configure.ensures.1 in rw (q.1, q.2) (
    let first = c.in_ok-device.ensures.goes c.args.turns (begun c.args.busid.now) refl refl refl (none_made c.args.turns) in
    let begins = to_describe g.L.Link.told g.L.Link.counts g.L.Link.sends g.L.Link.polls c.args.turns c.args.busid.now (begun c.args.busid.now) c.args.link.now c.in_ok-device.device c.devid_of-devid.result first.0 c.import.new.link first.1 first.3 c.devid_of-devid.ensures in
    let at : At = asking c.args.busid.now (Describing c.devid_of-devid.result) first.0 in
    let second = c.in_ok-ends.ensures.goes c.args.turns c.args.busid.now at refl refl refl first.2 in
    let described = joined_path g.L.Link.told g.L.Link.counts g.L.Link.sends g.L.Link.polls c.args.turns c.args.busid.now (begun c.args.busid.now) c.args.link.now at c.import.new.link second.0 c.describe.new.link begins second.1 in
    let sets = to_configure g.L.Link.told g.L.Link.counts g.L.Link.sends g.L.Link.polls c.args.turns c.args.busid.now (begun c.args.busid.now) c.args.link.now c.devid_of-devid.result c.in_ok-ends.ends second.0 c.describe.new.link described second.3 in
    let set : At = asking c.args.busid.now (Configuring c.devid_of-devid.result c.in_ok-ends.ends) second.0 in
    let third = c.in_err-configure.ensures.goes c.args.turns c.args.busid.now set refl refl refl second.2 in
    let stop = joined_stop g.L.Link.told g.L.Link.counts g.L.Link.sends g.L.Link.polls c.args.turns c.args.busid.now (begun c.args.busid.now) c.args.link.now set c.describe.new.link c.configure.new.link c.in_err-configure.field-0.0 sets third in
    stop)

pub returns-in_err-configure-clause-counts : goal.returns-in_err-configure-clause-counts
returns-in_err-configure-clause-counts g c = let q = err_from_is_err_and c.from_residual-in_err-configure.result c.from_residual-in_err-configure.ensures.1 in rw (q.1, q.2) (
    let first = c.in_ok-device.ensures.goes c.args.turns (begun c.args.busid.now) refl refl refl (none_made c.args.turns) in
    let begins = to_describe g.L.Link.told g.L.Link.counts g.L.Link.sends g.L.Link.polls c.args.turns c.args.busid.now (begun c.args.busid.now) c.args.link.now c.in_ok-device.device c.devid_of-devid.result first.0 c.import.new.link first.1 first.3 c.devid_of-devid.ensures in
    let at : At = asking c.args.busid.now (Describing c.devid_of-devid.result) first.0 in
    let second = c.in_ok-ends.ensures.goes c.args.turns c.args.busid.now at refl refl refl first.2 in
    let described = joined_path g.L.Link.told g.L.Link.counts g.L.Link.sends g.L.Link.polls c.args.turns c.args.busid.now (begun c.args.busid.now) c.args.link.now at c.import.new.link second.0 c.describe.new.link begins second.1 in
    let sets = to_configure g.L.Link.told g.L.Link.counts g.L.Link.sends g.L.Link.polls c.args.turns c.args.busid.now (begun c.args.busid.now) c.args.link.now c.devid_of-devid.result c.in_ok-ends.ends second.0 c.describe.new.link described second.3 in
    let set : At = asking c.args.busid.now (Configuring c.devid_of-devid.result c.in_ok-ends.ends) second.0 in
    let third = c.in_err-configure.ensures.goes c.args.turns c.args.busid.now set refl refl refl second.2 in
    let stop = joined_stop g.L.Link.told g.L.Link.counts g.L.Link.sends g.L.Link.polls c.args.turns c.args.busid.now (begun c.args.busid.now) c.args.link.now set c.describe.new.link c.configure.new.link c.in_err-configure.field-0.0 sets third in
    counts_stop g.L.Link.told g.L.Link.counts g.L.Link.sends g.L.Link.polls c.args.busid.now c.args.link.now c.args.turns (begun c.args.busid.now) c.in_err-configure.field-0.0 c.configure.new.link stop)

pub returns-clause-attached : goal.returns-clause-attached
returns-clause-attached g c =
    let first = c.in_ok-device.ensures.goes c.args.turns (begun c.args.busid.now) refl refl refl (none_made c.args.turns) in
    let begins = to_describe g.L.Link.told g.L.Link.counts g.L.Link.sends g.L.Link.polls c.args.turns c.args.busid.now (begun c.args.busid.now) c.args.link.now c.in_ok-device.device c.devid_of-devid.result first.0 c.import.new.link first.1 first.3 c.devid_of-devid.ensures in
    let at : At = asking c.args.busid.now (Describing c.devid_of-devid.result) first.0 in
    let second = c.in_ok-ends.ensures.goes c.args.turns c.args.busid.now at refl refl refl first.2 in
    let described = joined_path g.L.Link.told g.L.Link.counts g.L.Link.sends g.L.Link.polls c.args.turns c.args.busid.now (begun c.args.busid.now) c.args.link.now at c.import.new.link second.0 c.describe.new.link begins second.1 in
    let sets = to_configure g.L.Link.told g.L.Link.counts g.L.Link.sends g.L.Link.polls c.args.turns c.args.busid.now (begun c.args.busid.now) c.args.link.now c.devid_of-devid.result c.in_ok-ends.ends second.0 c.describe.new.link described second.3 in
    let set : At = asking c.args.busid.now (Configuring c.devid_of-devid.result c.in_ok-ends.ends) second.0 in
    let third = c.in_ok-configure.ensures.goes c.args.turns c.args.busid.now set refl refl refl second.2 in
    let path = joined_path g.L.Link.told g.L.Link.counts g.L.Link.sends g.L.Link.polls c.args.turns c.args.busid.now (begun c.args.busid.now) c.args.link.now set c.describe.new.link third.0 c.configure.new.link sets third.1 in
    let done : Attached = record { devid = c.devid_of-devid.result; ends = c.in_ok-ends.ends; next = 3 } in
    attaches g.L.Link.told g.L.Link.counts g.L.Link.sends g.L.Link.polls c.args.turns c.args.busid.now (begun c.args.busid.now) c.args.link.now done third.0 c.configure.new.link path third.3.0 third.3.1 refl (omega (arith, third.2))

pub returns-clause-spelled : goal.returns-clause-spelled
returns-clause-spelled g c =
    let first = c.in_ok-device.ensures.goes c.args.turns (begun c.args.busid.now) refl refl refl (none_made c.args.turns) in
    let begins = to_describe g.L.Link.told g.L.Link.counts g.L.Link.sends g.L.Link.polls c.args.turns c.args.busid.now (begun c.args.busid.now) c.args.link.now c.in_ok-device.device c.devid_of-devid.result first.0 c.import.new.link first.1 first.3 c.devid_of-devid.ensures in
    let at : At = asking c.args.busid.now (Describing c.devid_of-devid.result) first.0 in
    let second = c.in_ok-ends.ensures.goes c.args.turns c.args.busid.now at refl refl refl first.2 in
    let described = joined_path g.L.Link.told g.L.Link.counts g.L.Link.sends g.L.Link.polls c.args.turns c.args.busid.now (begun c.args.busid.now) c.args.link.now at c.import.new.link second.0 c.describe.new.link begins second.1 in
    let sets = to_configure g.L.Link.told g.L.Link.counts g.L.Link.sends g.L.Link.polls c.args.turns c.args.busid.now (begun c.args.busid.now) c.args.link.now c.devid_of-devid.result c.in_ok-ends.ends second.0 c.describe.new.link described second.3 in
    let set : At = asking c.args.busid.now (Configuring c.devid_of-devid.result c.in_ok-ends.ends) second.0 in
    let third = c.in_ok-configure.ensures.goes c.args.turns c.args.busid.now set refl refl refl second.2 in
    let path = joined_path g.L.Link.told g.L.Link.counts g.L.Link.sends g.L.Link.polls c.args.turns c.args.busid.now (begun c.args.busid.now) c.args.link.now set c.describe.new.link third.0 c.configure.new.link sets third.1 in
    let done : Attached = record { devid = c.devid_of-devid.result; ends = c.in_ok-ends.ends; next = 3 } in
    spelled g.L.Link.told g.L.Link.counts g.L.Link.sends g.L.Link.polls c.args.busid.now c.args.link.now c.args.turns done c.configure.new.link (attaches g.L.Link.told g.L.Link.counts g.L.Link.sends g.L.Link.polls c.args.turns c.args.busid.now (begun c.args.busid.now) c.args.link.now done third.0 c.configure.new.link path third.3.0 third.3.1 refl (omega (arith, third.2)))

pub returns-clause-counts : goal.returns-clause-counts
returns-clause-counts g c =
    let first = c.in_ok-device.ensures.goes c.args.turns (begun c.args.busid.now) refl refl refl (none_made c.args.turns) in
    let begins = to_describe g.L.Link.told g.L.Link.counts g.L.Link.sends g.L.Link.polls c.args.turns c.args.busid.now (begun c.args.busid.now) c.args.link.now c.in_ok-device.device c.devid_of-devid.result first.0 c.import.new.link first.1 first.3 c.devid_of-devid.ensures in
    let at : At = asking c.args.busid.now (Describing c.devid_of-devid.result) first.0 in
    let second = c.in_ok-ends.ensures.goes c.args.turns c.args.busid.now at refl refl refl first.2 in
    let described = joined_path g.L.Link.told g.L.Link.counts g.L.Link.sends g.L.Link.polls c.args.turns c.args.busid.now (begun c.args.busid.now) c.args.link.now at c.import.new.link second.0 c.describe.new.link begins second.1 in
    let sets = to_configure g.L.Link.told g.L.Link.counts g.L.Link.sends g.L.Link.polls c.args.turns c.args.busid.now (begun c.args.busid.now) c.args.link.now c.devid_of-devid.result c.in_ok-ends.ends second.0 c.describe.new.link described second.3 in
    let set : At = asking c.args.busid.now (Configuring c.devid_of-devid.result c.in_ok-ends.ends) second.0 in
    let third = c.in_ok-configure.ensures.goes c.args.turns c.args.busid.now set refl refl refl second.2 in
    let path = joined_path g.L.Link.told g.L.Link.counts g.L.Link.sends g.L.Link.polls c.args.turns c.args.busid.now (begun c.args.busid.now) c.args.link.now set c.describe.new.link third.0 c.configure.new.link sets third.1 in
    let done : Attached = record { devid = c.devid_of-devid.result; ends = c.in_ok-ends.ends; next = 3 } in
    counts_path g.L.Link.told g.L.Link.counts g.L.Link.sends g.L.Link.polls c.args.busid.now c.args.link.now (begun c.args.busid.now) third.0 c.configure.new.link path

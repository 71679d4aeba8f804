use Rattle.std.proofs.Common.{Err, inl, refl, ap, subst}
use Rattle.event_text.specs.EventScript.{IsEventScript, IsRefusedEvent, IsEventFault}
use Rattle.tmc_base.specs.Reading.{ReadRun}
use Rattle.tmc_base.specs.Writing.{WriteRun, none}
use Rattle.tmc_tool.specs.declared.command.Command.TheVariants.{Replay}
use Rattle.tmc_tool.specs.Tool.{Outside, ReadsScript}
use Rattle.tmc_tool.proofs.Ending.{some_read, refused_ends}
use Rattle.tmc_tool.proofs.ScriptEnding.{replay_ends}
use Rattle.tmc_tool.proofs.tool.run_replay.Goals as goal

pub returns-in-Err-Failed : goal.returns-in-Err-Failed
returns-in-Err-Failed g c = λ words names.
    let some = c.in-Err-Failed.ensures.failed_run (ap (λ fault. Err fault) c.in-Err-Failed.field-0-is) in (
      (Replay, names, some.0, some.1, some.2),
      c.in-Err-Failed.ensures.failed (ap (λ fault. Err fault) c.in-Err-Failed.field-0-is),
      record { put = refl; run = none; counts = refl },
    )

pub returns-in-Err-Memory : goal.returns-in-Err-Memory
returns-in-Err-Memory g c = λ words names.
    let some = c.in-Err-Memory.ensures.memory_run (ap (λ fault. Err fault) c.in-Err-Memory.field-0-is) in (
      inl (Replay, names, some.0, some.1, some.2),
      c.in-Err-Memory.ensures.memory (ap (λ fault. Err fault) c.in-Err-Memory.field-0-is),
      record { put = refl; run = none; counts = refl },
    )

-- a hub may begin as the script says
pub print_replay-requires : goal.print_replay-requires
print_replay-requires g c = c.in-Ok-read_script.ensures.begins

-- memory was wanting for the events
pub returns : goal.returns
returns g c = λ words names.
    let before : Outside = record { left = g.S.Source.left c.args.source.now; read_faults = g.S.Source.faults c.args.source.now; put = g.K.Sink.put c.args.sink.now; write_faults = g.K.Sink.faults c.args.sink.now } in
    let after : Outside = record { left = g.S.Source.left c.read_bytes.new.source; read_faults = g.S.Source.faults c.read_bytes.new.source; put = g.K.Sink.put c.args.sink.now; write_faults = g.K.Sink.faults c.args.sink.now } in
    let read : ReadsScript (ReadRun g.S.Source.reads c.args.source.now c.read_bytes.new.source) c.in-Ok.bytes.items before after =
    record { first = c.in-Ok.ensures.first; enough = c.in-Ok.ensures.enough; bounded = c.in-Ok.ensures.bounded; counts = c.in-Ok.ensures.ok_counts } in
    (some_read _ words Replay before after _ names read, c.in-Ok.ensures.ok_counts, record { put = refl; run = none; counts = refl })

pub returns-in-Ok-read_script : goal.returns-in-Ok-read_script
returns-in-Ok-read_script g c = λ words names.
    let before : Outside = record { left = g.S.Source.left c.args.source.now; read_faults = g.S.Source.faults c.args.source.now; put = g.K.Sink.put c.args.sink.now; write_faults = g.K.Sink.faults c.args.sink.now } in
    let after : Outside = record { left = g.S.Source.left c.read_bytes.new.source; read_faults = g.S.Source.faults c.read_bytes.new.source; put = g.K.Sink.put c.print_replay.new.sink; write_faults = g.K.Sink.faults c.print_replay.new.sink } in
    let read : ReadsScript (ReadRun g.S.Source.reads c.args.source.now c.read_bytes.new.source) c.in-Ok.bytes.items before after =
    record { first = c.in-Ok.ensures.first; enough = c.in-Ok.ensures.enough; bounded = c.in-Ok.ensures.bounded; counts = c.in-Ok.ensures.ok_counts } in
    let is : IsEventScript c.in-Ok.bytes.items c.in-Ok-read_script.script = subst (λ source. IsEventScript source c.in-Ok-read_script.script) c.deref.ensures.value c.in-Ok-read_script.ensures.read in
    replay_ends _ (WriteRun g.K.Sink.writes c.args.sink.now c.print_replay.new.sink) words before after _ c.in-Ok-read_script.script _ names read is c.print_replay.ensures

pub returns-in-Err-At : goal.returns-in-Err-At
returns-in-Err-At g c = λ words names.
    let before : Outside = record { left = g.S.Source.left c.args.source.now; read_faults = g.S.Source.faults c.args.source.now; put = g.K.Sink.put c.args.sink.now; write_faults = g.K.Sink.faults c.args.sink.now } in
    let after : Outside = record { left = g.S.Source.left c.read_bytes.new.source; read_faults = g.S.Source.faults c.read_bytes.new.source; put = g.K.Sink.put c.print_refusal.new.sink; write_faults = g.K.Sink.faults c.print_refusal.new.sink } in
    let read : ReadsScript (ReadRun g.S.Source.reads c.args.source.now c.read_bytes.new.source) c.in-Ok.bytes.items before after =
    record { first = c.in-Ok.ensures.first; enough = c.in-Ok.ensures.enough; bounded = c.in-Ok.ensures.bounded; counts = c.in-Ok.ensures.ok_counts } in
    let fault : IsRefusedEvent c.deref.result.now c.in-Err-At.line c.in-Err-At.what =
    subst (λ fault. IsEventFault c.deref.result.now fault) c.in-Err-At.field-0-is c.in-Err-At.ensures.refused in
    let refused : IsRefusedEvent c.in-Ok.bytes.items c.in-Err-At.line c.in-Err-At.what =
    subst (λ source. IsRefusedEvent source c.in-Err-At.line c.in-Err-At.what) c.deref.ensures.value fault in
    refused_ends _ (WriteRun g.K.Sink.writes c.args.sink.now c.print_refusal.new.sink) words Replay before after _ c.in-Err-At.line c.in-Err-At.what _ names read read.counts refused (rw (c.in-Err-At.line-is, c.in-Err-At.what-is) at c.print_refusal.ensures)

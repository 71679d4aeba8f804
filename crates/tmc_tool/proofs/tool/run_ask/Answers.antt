use Rattle.std.proofs.Common.{Err, inl, refl, ap, subst}
use Rattle.tmc_base.specs.Reading.{ReadRun}
use Rattle.tmc_base.specs.Writing.{WriteRun, none}
use Rattle.tmc_tool.specs.declared.command.Command.TheVariants.{Ask}
use Rattle.tmc_tool.specs.Line.{IsFirstLine}
use Rattle.tmc_tool.specs.Judged.{IsWrong, IsRefusal}
use Rattle.tmc_tool.specs.Tool.{Outside}
use Rattle.tmc_tool.proofs.AskEnding.{Reads, answer_ends, refusal_ends, wanting_ends}
use Rattle.tmc_tool.proofs.tool.run_ask.Goals as goal

pub returns-in-Err-Failed : goal.returns-in-Err-Failed
returns-in-Err-Failed g c = λ words names.
    let some = c.in-Err-Failed.ensures.failed_run (ap (λ fault. Err fault) c.in-Err-Failed.field-0-is) in (
      (Ask c.args.limit, names, some.0, some.1, some.2),
      c.in-Err-Failed.ensures.failed (ap (λ fault. Err fault) c.in-Err-Failed.field-0-is),
      record { put = refl; run = none; counts = refl },
    )

pub returns-in-Err-Memory : goal.returns-in-Err-Memory
returns-in-Err-Memory g c = λ words names.
    let some = c.in-Err-Memory.ensures.memory_run (ap (λ fault. Err fault) c.in-Err-Memory.field-0-is) in (
      inl (Ask c.args.limit, names, some.0, some.1, some.2),
      c.in-Err-Memory.ensures.memory (ap (λ fault. Err fault) c.in-Err-Memory.field-0-is),
      record { put = refl; run = none; counts = refl },
    )

-- memory was wanting for the response
pub returns : goal.returns
returns g c = λ words names.
    let before : Outside = record { left = g.S.Source.left c.args.source.now; read_faults = g.S.Source.faults c.args.source.now; put = g.K.Sink.put c.args.sink.now; write_faults = g.K.Sink.faults c.args.sink.now } in
    let after : Outside = record { left = g.S.Source.left c.read_up_to.new.source; read_faults = g.S.Source.faults c.read_up_to.new.source; put = g.K.Sink.put c.args.sink.now; write_faults = g.K.Sink.faults c.args.sink.now } in
    let read : Reads (ReadRun g.S.Source.reads c.args.source.now c.read_up_to.new.source) c.in-Ok.line.items before after = record {
      first = c.in-Ok.ensures.first;
      most = c.in-Ok.ensures.most;
      ended = c.in-Ok.ensures.ended;
      short_run = c.in-Ok.ensures.short_run;
      full_run = c.in-Ok.ensures.full_run;
      counts = c.in-Ok.ensures.ok_counts;
    } in
    (wanting_ends _ words c.args.limit _ before after names read, c.in-Ok.ensures.ok_counts, record { put = refl; run = none; counts = refl })

pub returns-in-Ok-judge : goal.returns-in-Ok-judge
returns-in-Ok-judge g c = λ words names.
    let before : Outside = record { left = g.S.Source.left c.args.source.now; read_faults = g.S.Source.faults c.args.source.now; put = g.K.Sink.put c.args.sink.now; write_faults = g.K.Sink.faults c.args.sink.now } in
    let after : Outside = record { left = g.S.Source.left c.read_up_to.new.source; read_faults = g.S.Source.faults c.read_up_to.new.source; put = g.K.Sink.put c.print_answer.new.sink; write_faults = g.K.Sink.faults c.print_answer.new.sink } in
    let read : Reads (ReadRun g.S.Source.reads c.args.source.now c.read_up_to.new.source) c.in-Ok.line.items before after = record {
      first = c.in-Ok.ensures.first;
      most = c.in-Ok.ensures.most;
      ended = c.in-Ok.ensures.ended;
      short_run = c.in-Ok.ensures.short_run;
      full_run = c.in-Ok.ensures.full_run;
      counts = c.in-Ok.ensures.ok_counts;
    } in
    let line : IsFirstLine c.in-Ok.line.items c.first_line.result.0.now c.first_line.result.1.now = rw c.deref.ensures.value at c.first_line.ensures in
    answer_ends _ (WriteRun g.K.Sink.writes c.args.sink.now c.print_answer.new.sink) words c.args.limit before after _ _ _ _ names read line c.in-Ok-judge.ensures.alone c.in-Ok-judge.ensures.asked c.print_answer.ensures

pub returns-in-Err-At : goal.returns-in-Err-At
returns-in-Err-At g c = λ words names.
    let before : Outside = record { left = g.S.Source.left c.args.source.now; read_faults = g.S.Source.faults c.args.source.now; put = g.K.Sink.put c.args.sink.now; write_faults = g.K.Sink.faults c.args.sink.now } in
    let after : Outside = record { left = g.S.Source.left c.read_up_to.new.source; read_faults = g.S.Source.faults c.read_up_to.new.source; put = g.K.Sink.put c.print_refusal.new.sink; write_faults = g.K.Sink.faults c.print_refusal.new.sink } in
    let read : Reads (ReadRun g.S.Source.reads c.args.source.now c.read_up_to.new.source) c.in-Ok.line.items before after = record {
      first = c.in-Ok.ensures.first;
      most = c.in-Ok.ensures.most;
      ended = c.in-Ok.ensures.ended;
      short_run = c.in-Ok.ensures.short_run;
      full_run = c.in-Ok.ensures.full_run;
      counts = c.in-Ok.ensures.ok_counts;
    } in
    let line : IsFirstLine c.in-Ok.line.items c.first_line.result.0.now c.first_line.result.1.now = rw c.deref.ensures.value at c.first_line.ensures in
    let wrong : IsWrong c.first_line.result.0.now c.first_line.result.1.now c.in-Err-At.line c.in-Err-At.what =
    subst (λ fault. IsRefusal c.first_line.result.0.now c.first_line.result.1.now fault) c.in-Err-At.field-0-is c.in-Err-At.ensures.refused in
    refusal_ends _ (WriteRun g.K.Sink.writes c.args.sink.now c.print_refusal.new.sink) words c.args.limit before after _ _ _ c.in-Err-At.line c.in-Err-At.what _ names read line wrong (rw (c.in-Err-At.line-is, c.in-Err-At.what-is) at c.print_refusal.ensures)

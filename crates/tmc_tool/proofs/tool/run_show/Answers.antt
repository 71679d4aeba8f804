use Rattle.std.proofs.Common.{◌≡◌, inl, ⊎_elim, Err, ℕ, List, [], ◌++◌, refl, sym, ap, ◌∙◌, subst}
use Rattle.usbip_wire.specs.declared.urb.Dir.{Dir}
use Rattle.event_text.specs.Shown.{ShownOf, IsRefused, IsFaultOf}
use Rattle.tmc_tool.specs.declared.command.Command.TheVariants.{Show}
use Rattle.tmc_base.specs.Source.{HasEnded}
use Rattle.tmc_base.specs.Reading.{AtEnd, ReadRun}
use Rattle.tmc_base.specs.Writing.{WriteRun, none}
use Rattle.tmc_tool.specs.Tool.{Outside, ReadsAll, ReadsScript}
use Rattle.tmc_tool.proofs.Ending.{made_ends, some_read, refused_ends}
use Rattle.tmc_tool.proofs.Limits.{shown_keeps}
use Rattle.tmc_tool.proofs.tool.run_show.Goals as goal

-- what is read of a text that was appended to nothing is shown
printed_shown : (way : Dir) (script source printed new old text : List ℕ) → source ≡ script → ShownOf way source text → old ≡ [] → new ≡ old ++ text → printed ≡ new
    → ShownOf way script printed
printed_shown way script source printed new old text same shown empty appended read =
    let whole : printed ≡ text = read ∙ (appended ∙ ap (λ xs. xs ++ text) empty) in
    subst (λ t. ShownOf way script t) (sym whole) (subst (λ s. ShownOf way s text) same shown)

pub returns-in-Err-Failed : goal.returns-in-Err-Failed
returns-in-Err-Failed g c = λ words names.
    let some = c.in-Err-Failed.ensures.failed_run (ap (λ fault. Err fault) c.in-Err-Failed.field-0-is) in (
      (Show c.args.way, names, some.0, some.1, some.2),
      c.in-Err-Failed.ensures.failed (ap (λ fault. Err fault) c.in-Err-Failed.field-0-is),
      record { put = refl; run = none; counts = refl },
    )

pub returns-in-Err-Memory : goal.returns-in-Err-Memory
returns-in-Err-Memory g c = λ words names.
    let some = c.in-Err-Memory.ensures.memory_run (ap (λ fault. Err fault) c.in-Err-Memory.field-0-is) in (
      inl (Show c.args.way, names, some.0, some.1, some.2),
      c.in-Err-Memory.ensures.memory (ap (λ fault. Err fault) c.in-Err-Memory.field-0-is),
      record { put = refl; run = none; counts = refl },
    )

-- memory was wanting for what is shown
pub returns : goal.returns
returns g c = λ words names.
    let before : Outside = record { left = g.S.Source.left c.args.source.now; read_faults = g.S.Source.faults c.args.source.now; put = g.K.Sink.put c.args.sink.now; write_faults = g.K.Sink.faults c.args.sink.now } in
    let after : Outside = record { left = g.S.Source.left c.read_bytes.new.source; read_faults = g.S.Source.faults c.read_bytes.new.source; put = g.K.Sink.put c.args.sink.now; write_faults = g.K.Sink.faults c.args.sink.now } in
    let read : ReadsScript (ReadRun g.S.Source.reads c.args.source.now c.read_bytes.new.source) c.in-Ok.script.items before after =
    record { first = c.in-Ok.ensures.first; enough = c.in-Ok.ensures.enough; bounded = c.in-Ok.ensures.bounded; counts = c.in-Ok.ensures.ok_counts } in
    (some_read _ words (Show c.args.way) before after _ names read, c.in-Ok.ensures.ok_counts, record { put = refl; run = none; counts = refl })

pub returns-in-Ok-put_shown : goal.returns-in-Ok-put_shown
returns-in-Ok-put_shown g c = λ words names.
    let before : Outside = record { left = g.S.Source.left c.args.source.now; read_faults = g.S.Source.faults c.args.source.now; put = g.K.Sink.put c.args.sink.now; write_faults = g.K.Sink.faults c.args.sink.now } in
    let after : Outside = record { left = g.S.Source.left c.read_bytes.new.source; read_faults = g.S.Source.faults c.read_bytes.new.source; put = g.K.Sink.put c.print.new.sink; write_faults = g.K.Sink.faults c.print.new.sink } in
    let shown = c.in-Ok-put_shown.ensures.shown in
    let made : ShownOf c.args.way c.in-Ok.script.items c.deref-in-Ok-put_shown.result.now =
    printed_shown c.args.way c.in-Ok.script.items c.deref.result.now c.deref-in-Ok-put_shown.result.now c.put_shown.new.out.items c.new-text.result.items shown.0
    c.deref.ensures.value shown.1 c.new-text.ensures.items shown.2 c.deref-in-Ok-put_shown.ensures.value in
    let ended : HasEnded after.left × ReadRun g.S.Source.reads c.args.source.now c.read_bytes.new.source AtEnd c.in-Ok.script.items =
    ⊎_elim (λ ended. ended) (λ passed. absurd (passed.0 (shown_keeps c.args.way _ _ made))) c.in-Ok.ensures.enough in
    let read : ReadsAll (ReadRun g.S.Source.reads c.args.source.now c.read_bytes.new.source) c.in-Ok.script.items before after =
    record { first = c.in-Ok.ensures.first; ended = ended.0; run = ended.1; counts = c.in-Ok.ensures.ok_counts } in
    made_ends _ (WriteRun g.K.Sink.writes c.args.sink.now c.print.new.sink) words (Show c.args.way) before after _ _ _ names read made c.print.ensures

pub returns-in-Err-At : goal.returns-in-Err-At
returns-in-Err-At g c = λ words names.
    let before : Outside = record { left = g.S.Source.left c.args.source.now; read_faults = g.S.Source.faults c.args.source.now; put = g.K.Sink.put c.args.sink.now; write_faults = g.K.Sink.faults c.args.sink.now } in
    let after : Outside = record { left = g.S.Source.left c.read_bytes.new.source; read_faults = g.S.Source.faults c.read_bytes.new.source; put = g.K.Sink.put c.print_refusal.new.sink; write_faults = g.K.Sink.faults c.print_refusal.new.sink } in
    let read : ReadsScript (ReadRun g.S.Source.reads c.args.source.now c.read_bytes.new.source) c.in-Ok.script.items before after =
    record { first = c.in-Ok.ensures.first; enough = c.in-Ok.ensures.enough; bounded = c.in-Ok.ensures.bounded; counts = c.in-Ok.ensures.ok_counts } in
    let fault : IsRefused c.args.way c.deref.result.now c.in-Err-At.line c.in-Err-At.what =
    subst (λ fault. IsFaultOf c.args.way c.deref.result.now fault) c.in-Err-At.field-0-is c.in-Err-At.ensures.refused in
    let refused : IsRefused c.args.way c.in-Ok.script.items c.in-Err-At.line c.in-Err-At.what =
    subst (λ source. IsRefused c.args.way source c.in-Err-At.line c.in-Err-At.what) c.deref.ensures.value fault in
    refused_ends _ (WriteRun g.K.Sink.writes c.args.sink.now c.print_refusal.new.sink) words (Show c.args.way) before after _ c.in-Err-At.line c.in-Err-At.what _ names read read.counts refused (rw (c.in-Err-At.line-is, c.in-Err-At.what-is) at c.print_refusal.ensures)

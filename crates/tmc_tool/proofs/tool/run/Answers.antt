use Rattle.std.proofs.Common.{Some, map, string_bytes, codes, refl, ap}
use Rattle.tmc_base.specs.Reading.{ReadRun, none}
use Rattle.tmc_base.specs.Writing.{WriteRun}
use Rattle.tmc_tool.specs.declared.command.Command.TheVariants.{Ask, Replay, Show}
use Rattle.tmc_tool.specs.declared.status.Status.TheVariants.{Usage}
use Rattle.tmc_tool.specs.Command.{IsCommand, Names}
use Rattle.tmc_tool.specs.Tool.{Outside}
use Rattle.tmc_tool.proofs.Ending.{text_written}
use Rattle.tmc_tool.proofs.Words.{has_limit}
use Rattle.tmc_tool.proofs.tool.run.Goals as goal

pub run_ask-requires : goal.run_ask-requires
run_ask-requires g c = has_limit (map string_bytes c.args.words.now) c.in-Some-Ask.limit ((c.in-Some-Ask.ensures (Ask c.in-Some-Ask.limit)).0 (ap (λ command. Some command) c.in-Some-Ask.field-0-is))

pub returns-in-Some-Ask : goal.returns-in-Some-Ask
returns-in-Some-Ask g c =
    c.run_ask.ensures (map string_bytes c.args.words.now) ((c.in-Some-Ask.ensures (Ask c.in-Some-Ask.limit)).0 (ap (λ command. Some command) c.in-Some-Ask.field-0-is))

pub returns-in-Some-Replay : goal.returns-in-Some-Replay
returns-in-Some-Replay g c =
    c.run_replay.ensures (map string_bytes c.args.words.now) ((c.in-Some-Replay.ensures Replay).0 (ap (λ command. Some command) c.in-Some-Replay.field-0-is))

pub returns-in-Some-Show : goal.returns-in-Some-Show
returns-in-Some-Show g c =
    c.run_show.ensures (map string_bytes c.args.words.now) ((c.in-Some-Show.ensures (Show c.in-Some-Show.way)).0 (ap (λ command. Some command) c.in-Some-Show.field-0-is))

pub returns-in-None : goal.returns-in-None
returns-in-None g c =
    let others : IsCommand (map string_bytes c.args.words.now) → ⊥ = λ named. let same = (c.in-None.ensures named.0).1 named.1 in cc in
    let before : Outside = record { left = g.S.Source.left c.args.source.now; read_faults = g.S.Source.faults c.args.source.now; put = g.K.Sink.put c.args.sink.now; write_faults = g.K.Sink.faults c.args.sink.now } in
    let after : Outside = record { left = g.S.Source.left c.args.source.now; read_faults = g.S.Source.faults c.args.source.now; put = g.K.Sink.put c.print.new.sink; write_faults = g.K.Sink.faults c.print.new.sink } in
    text_written (ReadRun g.S.Source.reads c.args.source.now c.args.source.now) (WriteRun g.K.Sink.writes c.args.sink.now c.print.new.sink)
    (map string_bytes c.args.words.now) before after Usage c.print.result (codes "usage\n")
    (others, record { left = refl; run = none; counts = refl }, refl) c.print.ensures

use Rattle.std.proofs.Common.{◌∙◌, refl, ap, true, List, [], ◌++◌, map}
use Rattle.tmc_law.specs.Endpoint.{Control, BulkOut, BulkIn, InterruptIn}
use Rattle.tmc_law.specs.State.{Pending, Unplugged}
use Rattle.tmc_law.specs.Put.{Put, ended, unplugged}
use Rattle.tmc_law.specs.Halts.{unplug_answers}
use Rattle.endpoint_pipes.specs.Held as pipes
use Rattle.tmc_device.specs.Seen.{Seen}
use Rattle.tmc_device.specs.Parts.{presence_of}
use Rattle.tmc_device.specs.Body.{state_of}
use Rattle.tmc_device.proofs.Halting.{each_ended}
use Rattle.tmc_device.proofs.Unplugging.{none_queued, control_ended, all_emptied, in_a_row}
use Rattle.tmc_device.proofs.body.Body.unplug.Goals as goal

pub returns : goal.returns
returns c =
    let old = c.args.self.now in
    let ready = c.prepare.new.self in
    let same = c.prepare.ensures.same in
    let s = state_of old in
    let sound = c.requires.sound in
    let one = c.end_all.new.pipes in
    let two = c.end_all-2.new.pipes in
    let three = c.end_all-3.new.pipes in
    let four = c.end_all-4.new.pipes in
    let plugged = ap presence_of c.requires.plugged in
    let empty = all_emptied ready.pipes one two three four c.end_all.ensures.left c.end_all-2.ensures.left c.end_all-3.ensures.left c.end_all-4.ensures.left in
    let answers = λ (l : List Pending). map (λ (submit : Pending). ended unplugged submit) l in
    let first =
    c.end_all.ensures.put
    ∙ (ap (λ (l : List Put). l ++ answers ready.pipes.control) same.outputs
    ∙ (ap (λ (h : pipes.Held). old.outputs.puts ++ answers h.control) same.pipes
    ∙ ap (λ (l : List Put). old.outputs.puts ++ l) (control_ended unplugged old.polled old.pipes.control (sound.first Control)))) in
    let second =
    c.end_all-2.ensures.put
    ∙ (ap (λ (h : pipes.Held). c.end_all.new.outputs.puts ++ answers h.bulk_out) (c.end_all.ensures.left ∙ ap (λ (h : pipes.Held). pipes.with_list Control [] h) same.pipes)
    ∙ ap (λ (l : List Put). c.end_all.new.outputs.puts ++ l) (each_ended unplugged old.pipes.bulk_out (sound.first BulkOut))) in
    let third =
    c.end_all-3.ensures.put
    ∙ (ap (λ (h : pipes.Held). c.end_all-2.new.outputs.puts ++ answers h.bulk_in) c.end_all-2.ensures.left
    ∙ (ap (λ (h : pipes.Held). c.end_all-2.new.outputs.puts ++ answers h.bulk_in) (c.end_all.ensures.left ∙ ap (λ (h : pipes.Held). pipes.with_list Control [] h) same.pipes)
    ∙ ap (λ (l : List Put). c.end_all-2.new.outputs.puts ++ l) (each_ended unplugged old.pipes.bulk_in (sound.first BulkIn)))) in
    let fourth =
    c.end_all-4.ensures.put
    ∙ (ap (λ (h : pipes.Held). c.end_all-3.new.outputs.puts ++ answers h.interrupt_in) (c.end_all-3.ensures.left ∙ ap (λ (h : pipes.Held). pipes.with_list BulkIn [] h) c.end_all-2.ensures.left)
    ∙ (ap (λ (h : pipes.Held). c.end_all-3.new.outputs.puts ++ answers h.interrupt_in) (c.end_all.ensures.left ∙ ap (λ (h : pipes.Held). pipes.with_list Control [] h) same.pipes)
    ∙ ap (λ (l : List Put). c.end_all-3.new.outputs.puts ++ l) (each_ended unplugged old.pipes.interrupt_in (sound.first InterruptIn)))) in (
      (record { plugged = plugged; needs = tt }),
      record {
        puts = unplug_answers s;
        steps = record {
          plugged = plugged;
          leads = record {
            answered = refl;
            is =
                ap (λ (h : pipes.Held). state_of (record ready { pipes = h; unplugged = true })) empty
                ∙ (ap (λ (l : List Pending). record (state_of ready) { control = l; bulk_out = []; bulk_in = []; interrupt_in = []; presence = Unplugged }) (none_queued ready.polled)
                ∙ ap (λ (z : Seen). record z.state { control = []; bulk_out = []; bulk_in = []; interrupt_in = []; presence = Unplugged }) same.seen);
          };
        };
        joins = in_a_row c.end_all.new.outputs.puts c.end_all-2.new.outputs.puts c.end_all-3.new.outputs.puts c.end_all-4.new.outputs.puts old.outputs.puts _ _ _ _ first second third fourth;
      },
    )

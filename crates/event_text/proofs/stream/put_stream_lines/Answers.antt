use Rattle.std.proofs.Common.{refl}
use Rattle.event_text.proofs.Reported.{stream_put}
use Rattle.event_text.proofs.stream.put_stream_lines.Goals as goal

pub returns : goal.returns
returns c = stream_put c.args.way c.args.bytes.now c.args.text.now.items _ _ _ c.put_lines.result refl c.in_ok-put_count.ensures c.put_lines.ensures

use Rattle.std.proofs.Common.{rules, inl, refl}
use Rattle.usbip_wire.specs.Submit.{submit_bytes, submit_words, unused}
use Rattle.usbip_wire.proofs.Wide.{each_wide}
use Rattle.usbip_wire.proofs.Appends.{three_appended}
use Rattle.usbip_wire.proofs.submit.put_submit.Goals as goal

pub returns-clause-written : goal.returns-clause-written
unfolding submit_bytes
returns-clause-written c =
    rw (← c.code.ensures) (three_appended _ _ _ _ _ _ _ c.put_fields.ensures.items c.put_setup.ensures.items c.extend_reserved.ensures.items)

pub returns-clause-spelled : goal.returns-clause-spelled
returns-clause-spelled c = record {
  rest = unused;
  imported = refl;
  endpoint = c.requires.endpoint;
  short = c.requires.short;
  packets = inl refl;
  setup = c.put_setup.ensures.eight;
  carried = c.requires.carried;
  wide = each_wide (submit_words c.args.head unused) (search rules);
  layout = refl;
}

use Rattle.std.proofs.Common.{rules, ◌≡◌, inl, refl, arith}
use Rattle.std.proofs.lemmas.Int.{to_z-of_z}
use Rattle.std.specs.Int.{w32, cast_unsigned}
use Rattle.usbip_wire.specs.RetSubmit.{unused, ret_submit_words}
use Rattle.usbip_wire.proofs.Wide.{each_wide}
use Rattle.usbip_wire.proofs.Answered.{answer_appended}
use Rattle.usbip_wire.proofs.ret_submit.put_ret_submit.Goals as goal

pub returns-clause-written : goal.returns-clause-written
returns-clause-written c =
    let code : c.cast_unsigned.result ≡ cast_unsigned w32 c.args.head.status = grind (arith, to_z-of_z, c.cast_unsigned.ensures) in
    answer_appended c.args.head c.args.data.now _ _ _ _ code c.put_fields.ensures.items c.extend_reserved.ensures.items

pub returns-clause-spelled_in : goal.returns-clause-spelled_in
returns-clause-spelled_in c = λ whole asked within. record {
  rest = unused;
  within = within;
  packets = inl refl;
  returned = whole;
  status = search rules;
  wide = each_wide (ret_submit_words c.args.head unused) (search rules);
  layout = refl;
}

pub returns-clause-spelled_out : goal.returns-clause-spelled_out
returns-clause-spelled_out c = λ none asked within. record {
  rest = unused;
  within = within;
  packets = inl refl;
  returned = none;
  status = search rules;
  wide = each_wide (ret_submit_words c.args.head unused) (search rules);
  layout = refl;
}

-- submits and answers have spellings
use Rattle.std.proofs.Common.{◌≡◌, ℕ, ◌<◌, ◌≤◌, ◌^◌, List, length, refl, inl, arith, lit<}
use Rattle.usbip_wire.specs.declared.urb.Dir.{Dir}
use Rattle.usbip_wire.specs.declared.urb.Dir.TheVariants.{Out, In}
use Rattle.usbip_wire.specs.declared.submit.SubmitHead.{SubmitHead}
use Rattle.usbip_wire.specs.declared.ret_submit.RetSubmitHead.{RetSubmitHead}
use Rattle.usbip_wire.specs.Urb.{direction_code}
use Rattle.usbip_wire.specs.Submit as submit
use Rattle.usbip_wire.specs.RetSubmit as ret
use Rattle.usbip_wire.specs.Up as up
use Rattle.tmc_law.specs.Put.{Submitted, success}
use Rattle.tmc_law.specs.Run.{SpellsPut}
use Rattle.tmc_law.specs.WorkedSession.{devid}
use Rattle.tmc_law.proofs.AnswerBytes.{each_wide}

-- what the fields of a submit have to meet to be spelled
pub record IsSent (head : SubmitHead) (transferred : List ℕ) : Type 0 where
  pub imported : head.devid ≡ devid
  pub number : head.seqnum < 2 ^ 32
  pub endpoint : head.ep ≤ 15
  pub short : head.length ≤ 70000
  pub setup : length head.setup ≡ 8
  pub carried : submit.Carries head.dir head.length transferred

code_small : (dir : Dir) → direction_code dir < 2 ^ 32
code_small Out = lit< tt
code_small In = lit< tt

-- as this product writes it
pub submit_spells : (head : SubmitHead) (transferred : List ℕ) → IsSent head transferred → up.Spells devid (up.Submit head transferred) (submit.submit_bytes head submit.unused transferred)
submit_spells head transferred sent = record {
  rest = submit.unused;
  imported = sent.imported;
  endpoint = sent.endpoint;
  short = sent.short;
  packets = inl refl;
  setup = sent.setup;
  carried = sent.carried;
  wide = each_wide (submit.submit_words head submit.unused)
      (lit< tt, (sent.number, (omega (arith, sent.imported), (code_small head.dir, (omega (arith, sent.endpoint), (lit< tt, (omega (arith, sent.short), (lit< tt, (lit< tt, (lit< tt, tt))))))))));
  layout = refl;
}

-- the answer to a submit that succeeded
abbrev pub succeeded : (seqnum actual : ℕ) → RetSubmitHead
succeeded seqnum actual = record { seqnum = seqnum; status = success; actual = actual }

pub success_spelled : (head : SubmitHead) (actual : ℕ) (transferred : List ℕ) → head.seqnum < 2 ^ 32 → actual < 2 ^ 32 → actual ≤ head.length → ret.Returns head.dir actual transferred
    → SpellsPut (Submitted head (succeeded head.seqnum actual) transferred) (ret.ret_submit_bytes (succeeded head.seqnum actual) ret.unused transferred)
success_spelled head actual transferred number small within returned = record {
  rest = ret.unused;
  within = within;
  packets = inl refl;
  status = refl;
  wide = each_wide (ret.ret_submit_words (succeeded head.seqnum actual) ret.unused)
      (lit< tt, (number, (lit< tt, (lit< tt, (lit< tt, (lit< tt, (small, (lit< tt, (lit< tt, (lit< tt, (lit< tt, (lit< tt, tt))))))))))));
  returned = returned;
  layout = refl;
}

use Rattle.std.proofs.Common.{[], append-nil, refl, sym}
use Rattle.tmc_base.specs.Told.{in_bytes, out_bytes}
use Rattle.host_joint.proofs.joints.joints_begin.Goals as goal

pub returns-clause-power_on : goal.returns-clause-power_on
returns-clause-power_on c devid next = record {
  coming = [];
  ups = [];
  sent = refl;
  spelled = refl;
  behind = [];
  downs = [];
  given = refl;
  put = refl;
  accepted = λ f e. cc;
  tie = c.ties_begin.ensures.power_on next;
}

pub returns-clause-rest : goal.returns-clause-rest
returns-clause-rest c devid next steps s unrefused tie = record {
  coming = [];
  ups = [];
  sent = sym (append-nil (in_bytes steps));
  spelled = refl;
  behind = [];
  downs = [];
  given = sym (append-nil (out_bytes steps));
  put = refl;
  accepted = unrefused;
  tie = tie;
}

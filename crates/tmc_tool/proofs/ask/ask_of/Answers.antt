use Rattle.tmc_tool.proofs.ask.ask_of.Goals as goal

pub returns : goal.returns
returns c = record {
  said = c.in_ok-said.field-0;
  leads = λ first depth world behind. rw (← c.in_ok-said.ensures.said, ← c.in_ok-from_slice.ensures) (c.apply.ensures.leads first depth world behind);
}

use Rattle.host_hub.proofs.Faultless.{account_facts}
use Rattle.host_hub.proofs.recorded.hubs_hold.Goals as goal

pub returns : goal.returns
returns c = account_facts (record {
  owns = c.tickets_own_their_bytes.ensures;
  few = c.messages_are_lawful.ensures.count;
  bad = c.no_answer_is_refused.ensures.bad;
  taken_in = c.no_answer_is_refused.ensures.taken_in;
})

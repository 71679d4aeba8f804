use Rattle.event_text.specs.Message.{devid}
use Rattle.event_text.specs.Way.{way_of}
use Rattle.event_text.proofs.Lawful.{Lawful}
use Rattle.event_text.proofs.Refused.{texts_one, refusals_one, not_both}
use Rattle.event_text.proofs.laws.scripts_are_determined.Goals as goal

-- what the calls below say
laws_of : goal.After-bad_fields_stay → Lawful
laws_of c = record {
  requests = c.requests_are_determined.ensures.free;
  urbs = c.urbs_are_determined.ensures.free devid;
  parts = c.parts_are_determined.ensures.free;
  answers = c.answers_are_determined.ensures.free;
  bad_request = c.bad_fields_are_alone.ensures.request;
  bad_urb = c.bad_fields_are_alone.ensures.urb devid;
  bad_part = c.bad_fields_are_alone.ensures.part;
  bad_answer = c.bad_fields_are_alone.ensures.answer;
  request_stays = c.bad_fields_stay.ensures.request;
  urb_stays = c.bad_fields_stay.ensures.urb devid;
  part_stays = c.bad_fields_stay.ensures.part;
  answer_stays = c.bad_fields_stay.ensures.answer;
}

pub returns-clause-text : goal.returns-clause-text
returns-clause-text c = λ way source text other a b. texts_one (laws_of c) (way_of way) source text other a b

pub returns-clause-line : goal.returns-clause-line
returns-clause-line c = λ way source number second what other a b. refusals_one (laws_of c) (way_of way) source number second what other a b

pub returns-clause-either : goal.returns-clause-either
returns-clause-either c = λ way source text number what a b. not_both (laws_of c) (way_of way) source text number what a b

use Rattle.event_text.specs.Message.{devid}
use Rattle.event_text.proofs.Client.{client_text}
use Rattle.event_text.proofs.Joined.{joined, cuts_one}
use Rattle.event_text.proofs.Lawful.{Lawful}
use Rattle.event_text.proofs.Parted.{cuts_same}
use Rattle.event_text.proofs.laws.pieces_are_one_text.Goals as goal

-- what the calls below say
laws_of : goal.After-bad_fields_stay → Lawful
laws_of c = record {
  requests = c.requests_are_determined.ensures.free;
  urbs = c.urbs_are_determined.ensures.free devid;
  parts = c.parts_are_determined.ensures.free;
  answers = c.answers_are_determined.ensures.free;
  bad_request = c.bad_fields_are_alone.ensures.request;
  bad_urb = c.bad_fields_are_alone.ensures.urb devid;
  bad_part = c.bad_fields_are_alone.ensures.part;
  bad_answer = c.bad_fields_are_alone.ensures.answer;
  request_stays = c.bad_fields_stay.ensures.request;
  urb_stays = c.bad_fields_stay.ensures.urb devid;
  part_stays = c.bad_fields_stay.ensures.part;
  answer_stays = c.bad_fields_stay.ensures.answer;
}

pub returns-clause-joined : goal.returns-clause-joined
returns-clause-joined c = λ s m n p q t u first second. joined (laws_of c) s m n p q t u first second

pub returns-clause-cuts : goal.returns-clause-cuts
returns-clause-cuts c = λ way phase lines others text same shown. cuts_same (laws_of c) way phase lines others text same shown

pub returns-clause-one : goal.returns-clause-one
returns-clause-one c = λ way phase lines others text other same a b. cuts_one (laws_of c) way phase lines others text other same a b

pub returns-clause-client : goal.returns-clause-client
returns-clause-client c = λ phase lines text shown. client_text (laws_of c) phase lines text shown

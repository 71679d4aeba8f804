use Rattle.host_hub.proofs.Going.{joined_on}
use Rattle.host_hub.proofs.ownership.hubs_stay_joined.Goals as goal

pub returns-clause-hub : goal.returns-clause-hub
returns-clause-hub c = joined_on
    (record {
      writes = c.writes_keep_joints.ensures.tie;
      answer = c.the_next_answer_is_read.ensures.answer;
      told = c.tickets_end.ensures.told;
      read = c.tickets_end.ensures.read;
      holds = c.a_piece_is_its_transfer.ensures.data;
      eom = c.a_piece_is_its_transfer.ensures.eom;
    })
    (record { begun = c.pieces_have_no_fault.ensures.begun; whole = c.pieces_have_no_fault.ensures.whole })

pub returns-clause-device : goal.returns-clause-device
returns-clause-device c = λ setting past bytes read steps more state later calm front j.
    record {
      plain = j.plain;
      served = j.served;
      joint = c.joints_stay.ensures.joint setting.devid _ _ _ bytes read steps more state later calm front j.joint;
      owns = λ t asking piece earlier asked q over.
          let o = j.owns t asking piece earlier asked q over in
          record {
            response = o.response;
            ran = c.joints_stay.ensures.ran setting.devid _ _ _ _ _ _ bytes read steps more state later calm front j.joint o.ran;
            front = o.front;
            some = o.some;
            whole = o.whole;
            more = o.more;
          };
    }

use Rattle.host_hub.specs.Crossings.{crossings}
use Rattle.host_hub.proofs.Going.{answer_good}
use Rattle.host_hub.proofs.ownership.no_answer_ends_a_hub.Goals as goal

pub returns : goal.returns
returns c = λ setting past answer bytes read this more steps state simple lawful running joined told spelled.
    answer_good
    (record {
      writes = c.writes_keep_joints.ensures.tie;
      answer = c.the_next_answer_is_read.ensures.answer;
      told = c.tickets_end.ensures.told;
      read = c.tickets_end.ensures.read;
      holds = c.a_piece_is_its_transfer.ensures.data;
      eom = c.a_piece_is_its_transfer.ensures.eom;
    })
    (record { begun = c.pieces_have_no_fault.ensures.begun; whole = c.pieces_have_no_fault.ensures.whole })
    setting past answer bytes read this more steps state simple lawful running (c.what_is_spelled_may_come.ensures (crossings setting past) answer this spelled) joined told spelled

use Rattle.std.proofs.Common.{[], ◌∷◌, ◌++◌, take, drop, refl, sym, lit<}
use Rattle.tmc_law.specs.State.{start}
use Rattle.tmc_law.specs.WorkedParts.{spaced, sending_parts}
use Rattle.tmc_law.specs.WorkedQuery.{identity}
use Rattle.host_joint.specs.Asking.{Asking}
use Rattle.host_joint.specs.WorkedTies.{told_to}
use Rattle.host_joint.specs.WorkedPieces.{requested_first, requested_second, first_data, first_piece, second_piece, requesting_first, giving_first, requesting_second, second_log, behind_first, behind_second, next_job, asked_with}
use Rattle.host_joint.proofs.Transfers.{WireLaws}
use Rattle.host_joint.proofs.Serving.{requests_first, gives_first, requests_second}
use Rattle.host_joint.proofs.TwoPieces.{AskMoves, all_jobs, begun, said, first_given, carried_is, no_eom, has_eom, paused, second_taken, second_given, not_skipping}
use Rattle.host_joint.proofs.worked_pieces.worked_pieces_are_asked.Goals as goal

pub returns-clause-begins : goal.returns-clause-begins
returns-clause-begins c =
    begun (record {
      begins = c.asks_begin.ensures;
      stays = c.asking_stays.ensures.run;
      outs = c.answers_are_taken.ensures.outs;
      ins = c.answers_are_taken.ensures.ins;
      part = c.messages_are_written.ensures.part;
      request = c.messages_are_written.ensures.request;
      one_read = c.messages_are_written.ensures.one_read;
    })

pub returns-clause-said : goal.returns-clause-said
returns-clause-said c =
    let moves : AskMoves = record {
      begins = c.asks_begin.ensures;
      stays = c.asking_stays.ensures.run;
      outs = c.answers_are_taken.ensures.outs;
      ins = c.answers_are_taken.ensures.ins;
      part = c.messages_are_written.ensures.part;
      request = c.messages_are_written.ensures.request;
      one_read = c.messages_are_written.ensures.one_read;
    } in
    let split = c.runs_join.ensures.apart (take 3 sending_parts) (drop 3 sending_parts) start told_to c.a_message_comes_in_parts.ensures in
    said moves split.0 split.1 split.2

pub returns-clause-first : goal.returns-clause-first
returns-clause-first c =
    let moves : AskMoves = record {
      begins = c.asks_begin.ensures;
      stays = c.asking_stays.ensures.run;
      outs = c.answers_are_taken.ensures.outs;
      ins = c.answers_are_taken.ensures.ins;
      part = c.messages_are_written.ensures.part;
      request = c.messages_are_written.ensures.request;
      one_read = c.messages_are_written.ensures.one_read;
    } in
    let laws : WireLaws = record {
      out_size = c.headers_are_read_again.ensures.out_size;
      out_front = c.headers_are_read_again.ensures.out_front;
      out_written = c.headers_are_read_again.ensures.out_written;
      in_size = c.headers_are_read_again.ensures.in_size;
      in_front = c.headers_are_read_again.ensures.in_front;
      in_written = c.headers_are_read_again.ensures.in_written;
      size_at = c.header_offsets_are_laid_out.ensures.size;
      out_made = c.transfers_are_read_again.ensures.out_made;
      out_text_size = c.transfers_are_read_again.ensures.out_size;
      in_made = c.transfers_are_read_again.ensures.in_made;
    } in
    let one = c.headers_are_read_again.ensures.out_one in
    let end = first_given moves one c.a_message_comes_in_parts.ensures
    (c.runs_join.ensures.together sending_parts requesting_first start told_to requested_first c.a_message_comes_in_parts.ensures (requests_first one)) (returns-clause-said c) in
    let whole = carried_is laws 3 all_jobs 3 [] first_piece behind_first (lit< tt, lit< tt) end in
    (end, sym whole.data_is, no_eom end.eom whole.last)

pub returns-clause-between : goal.returns-clause-between
returns-clause-between c =
    let first = returns-clause-first c in
    let asks : Asking (asked_with 4 [] 0 first_data) [] [] behind_first = paused first.0.carried first.1 (λ tag size. first.0.next tag size refl) in
    (asks, c.what_is_read_is_owned.ensures.in_hand (asked_with 4 [] 0 first_data) [] [] behind_first asks)

pub returns-clause-again : goal.returns-clause-again
returns-clause-again c =
    let moves : AskMoves = record {
      begins = c.asks_begin.ensures;
      stays = c.asking_stays.ensures.run;
      outs = c.answers_are_taken.ensures.outs;
      ins = c.answers_are_taken.ensures.ins;
      part = c.messages_are_written.ensures.part;
      request = c.messages_are_written.ensures.request;
      one_read = c.messages_are_written.ensures.one_read;
    } in
    let one = c.headers_are_read_again.ensures.out_one in
    let join = c.runs_join.ensures.together in
    let first = join sending_parts (requesting_first ++ giving_first) start told_to behind_first c.a_message_comes_in_parts.ensures
    (join requesting_first giving_first told_to requested_first behind_first (requests_first one) gives_first) in
    second_taken moves one (sending_parts ++ (requesting_first ++ giving_first)) first (returns-clause-between c).0

pub returns-clause-second : goal.returns-clause-second
returns-clause-second c =
    let moves : AskMoves = record {
      begins = c.asks_begin.ensures;
      stays = c.asking_stays.ensures.run;
      outs = c.answers_are_taken.ensures.outs;
      ins = c.answers_are_taken.ensures.ins;
      part = c.messages_are_written.ensures.part;
      request = c.messages_are_written.ensures.request;
      one_read = c.messages_are_written.ensures.one_read;
    } in
    let laws : WireLaws = record {
      out_size = c.headers_are_read_again.ensures.out_size;
      out_front = c.headers_are_read_again.ensures.out_front;
      out_written = c.headers_are_read_again.ensures.out_written;
      in_size = c.headers_are_read_again.ensures.in_size;
      in_front = c.headers_are_read_again.ensures.in_front;
      in_written = c.headers_are_read_again.ensures.in_written;
      size_at = c.header_offsets_are_laid_out.ensures.size;
      out_made = c.transfers_are_read_again.ensures.out_made;
      out_text_size = c.transfers_are_read_again.ensures.out_size;
      in_made = c.transfers_are_read_again.ensures.in_made;
    } in
    let one = c.headers_are_read_again.ensures.out_one in
    let join = c.runs_join.ensures.together in
    let first = join sending_parts (requesting_first ++ giving_first) start told_to behind_first c.a_message_comes_in_parts.ensures
    (join requesting_first giving_first told_to requested_first behind_first (requests_first one) gives_first) in
    let end = second_given moves ((sending_parts ++ (requesting_first ++ giving_first)) ++ requesting_second)
    (join (sending_parts ++ (requesting_first ++ giving_first)) requesting_second start behind_first requested_second first (requests_second one))
    (returns-clause-again c) in
    let whole = carried_is laws 4 (next_job ∷ []) 1 first_data second_piece behind_second (lit< tt, lit< tt) end in
    (end, sym whole.data_is, has_eom end.eom whole.last)

pub returns-clause-rests : goal.returns-clause-rests
returns-clause-rests c =
    let end = (returns-clause-second c).0 in
    c.asks_hand_over.ensures.to_piece (asked_with 4 [] 0 (first_data ++ end.carried)) [] [] behind_second refl refl (λ e. cc)
    (record { queue = refl; sent = refl; events = refl }) (record { queue = refl; sent = refl; events = refl }) (end.next 4 4000 refl)

pub returns-clause-skipped : goal.returns-clause-skipped
returns-clause-skipped c =
    not_skipping (λ response ran. c.what_ran_is_one.ensures.response 2 spaced spaced response identity second_log ran c.worked_pieces_are_read.ensures.whole.1)

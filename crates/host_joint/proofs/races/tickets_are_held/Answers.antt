use Rattle.host_joint.specs.Races.{TicketHolds, waits_of, unlinks_of}
use Rattle.host_joint.proofs.Until.{until_run}
use Rattle.host_joint.proofs.Ticketed.{ticket_run, ticket_lines, next_held}
use Rattle.host_joint.proofs.races.tickets_are_held.Goals as goal

pub returns-clause-stays : goal.returns-clause-stays
returns-clause-stays c = ticket_run (record {
  ask = record {
    reaches = record {
      fits = c.pending_submits_are_sound.ensures.stand;
      empty = c.pending_submits_are_sound.ensures.halted;
      does = c.steps_act.ensures;
      joins = c.runs_join.ensures.together;
    };
    polled = λ run s e before submit behind reached line polled. let place = c.pending_submits_are_sound.ensures.polled run s e before submit behind reached line polled in (place.0, place.1);
    stands = c.the_log_grows.ensures.stands;
    one_header = c.headers_are_read_again.ensures.out_one;
  };
  rises = c.numbers_rise.ensures.rise;
  below = c.numbers_rise.ensures.below;
  answers = c.answers_fit.ensures.answers;
  fit = c.answers_fit.ensures.fit;
  causes = c.halts_have_causes.ensures.halts;
  logs = c.a_step_logs_at_most_once.ensures;
  one_response = c.one_response.ensures;
}) (record {
  one = c.setups_have_one_meaning.ensures.one;
  class_one = c.setups_have_one_meaning.ensures.class;
  standard_one = c.setups_have_one_meaning.ensures.standard;
  apart = c.setups_have_one_meaning.ensures.apart;
})

pub returns-clause-until : goal.returns-clause-until
returns-clause-until c ticket run next ups downs s t goes tie =
    until_run (record { apart = c.runs_join.ensures.apart; ins = c.runs_join.ensures.inputs; outs = c.runs_join.ensures.outputs }) (λ run. Unit {0}) (λ ups downs s. TicketHolds ticket next ups downs s)
    (λ run ups downs s t goes kind plugged o. returns-clause-stays c ticket run next ups downs s t goes plugged o) (λ a b h. tt) run ups downs s t goes tt tie

pub returns-clause-next : goal.returns-clause-next
returns-clause-next c ticket next put ups downs t tie =
    next_held (λ ups downs s. TicketHolds ticket next ups downs s) (waits_of ticket) (unlinks_of ticket) (λ ups downs s o. ticket_lines ticket next ups downs s o) put ups downs t tie

use Rattle.std.proofs.Common.{[], ◌++◌, refl}
use Rattle.tmc_law.specs.Endpoint.{BulkIn}
use Rattle.tmc_law.specs.State.{start}
use Rattle.tmc_law.specs.Halts.{halt_answers}
use Rattle.tmc_law.specs.Step.{Halt}
use Rattle.tmc_law.specs.Run.{outputs}
use Rattle.tmc_law.specs.WorkedQuery.{asking, answering, query_log}
use Rattle.tmc_law.specs.WorkedRead.{reading}
use Rattle.host_joint.specs.WorkedAsks.{query_ask, read_ask, query_asked}
use Rattle.host_joint.proofs.Flows.{lines_run}
use Rattle.host_joint.proofs.Running.{asking_step, asking_run}
use Rattle.host_joint.proofs.Examples.{query_read, query_lines, query_begins, read_begins, query_fits, read_fits, foreign_is_not}
use Rattle.host_joint.proofs.worked.worked_asks_are_in_hand.Goals as goal

pub returns-clause-begins : goal.returns-clause-begins
returns-clause-begins c = query_begins

pub returns-clause-answered : goal.returns-clause-answered
returns-clause-answered c =
    asking_run (record {
      reaches = record {
        fits = c.pending_submits_are_sound.ensures.stand;
        empty = c.pending_submits_are_sound.ensures.halted;
        does = c.steps_act.ensures;
        joins = c.runs_join.ensures.together;
      };
      polled = λ run s e before submit behind reached line polled. let place = c.pending_submits_are_sound.ensures.polled run s e before submit behind reached line polled in (place.0, place.1);
      stands = c.the_log_grows.ensures.stands;
      one_header = c.headers_are_read_again.ensures.out_one;
    }) [] (asking ++ answering) query_ask start (record start { log = query_log }) [] [] refl c.a_query_is_answered.ensures.runs query_fits refl
    ((λ e. cc), ((λ e. cc), ((λ e. cc), ((λ e. cc), ((λ e. cc), ((λ e. cc), ((λ e. cc), ((λ e. cc), tt)))))))) query_begins

pub returns-clause-read : goal.returns-clause-read
returns-clause-read c =
    query_read (
    asking_run (record {
      reaches = record {
        fits = c.pending_submits_are_sound.ensures.stand;
        empty = c.pending_submits_are_sound.ensures.halted;
        does = c.steps_act.ensures;
        joins = c.runs_join.ensures.together;
      };
      polled = λ run s e before submit behind reached line polled. let place = c.pending_submits_are_sound.ensures.polled run s e before submit behind reached line polled in (place.0, place.1);
      stands = c.the_log_grows.ensures.stands;
      one_header = c.headers_are_read_again.ensures.out_one;
    }) [] (asking ++ answering) query_ask start (record start { log = query_log }) [] [] refl c.a_query_is_answered.ensures.runs query_fits refl
    ((λ e. cc), ((λ e. cc), ((λ e. cc), ((λ e. cc), ((λ e. cc), ((λ e. cc), ((λ e. cc), ((λ e. cc), tt)))))))) query_begins
    )

pub returns-clause-lines : goal.returns-clause-lines
returns-clause-lines c =
    lines_run (record {
      fits = c.pending_submits_are_sound.ensures.stand;
      empty = c.pending_submits_are_sound.ensures.halted;
      does = c.steps_act.ensures;
      joins = c.runs_join.ensures.together;
    }) [] (asking ++ answering) query_asked [] start (record start { log = query_log }) [] [] refl c.a_query_is_answered.ensures.runs query_fits tt
    (record { submits = query_lines; unlinked = refl })

pub returns-clause-halts : goal.returns-clause-halts
returns-clause-halts c =
    let w = c.worked_runs_meet_the_laws.ensures.halts in
    let before = asking_run (record {
      reaches = record {
        fits = c.pending_submits_are_sound.ensures.stand;
        empty = c.pending_submits_are_sound.ensures.halted;
        does = c.steps_act.ensures;
        joins = c.runs_join.ensures.together;
      };
      polled = λ run s e before submit behind reached line polled. let place = c.pending_submits_are_sound.ensures.polled run s e before submit behind reached line polled in (place.0, place.1);
      stands = c.the_log_grows.ensures.stands;
      one_header = c.headers_are_read_again.ensures.out_one;
    }) [] reading read_ask start w.0 [] [] refl w.3 read_fits refl
    ((λ e. cc), ((λ e. cc), ((λ e. cc), ((λ e. cc), ((λ e. cc), ((λ e. cc), ((λ e. cc), ((λ e. cc), tt)))))))) read_begins in (
      w.0,
      w.1,
      w.3,
      w.6,
      before,
      asking_step (record {
        reaches = record {
          fits = c.pending_submits_are_sound.ensures.stand;
          empty = c.pending_submits_are_sound.ensures.halted;
          does = c.steps_act.ensures;
          joins = c.runs_join.ensures.together;
        };
        polled = λ run s e before submit behind reached line polled. let place = c.pending_submits_are_sound.ensures.polled run s e before submit behind reached line polled in (place.0, place.1);
        stands = c.the_log_grows.ensures.stands;
        one_header = c.headers_are_read_again.ensures.out_one;
      }) reading read_ask w.0 w.1 (Halt BulkIn) [] (outputs reading) (halt_answers BulkIn w.0) w.3 w.6 tt tt before,
    )

pub returns-clause-foreign : goal.returns-clause-foreign
returns-clause-foreign c = foreign_is_not

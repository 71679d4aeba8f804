-- headers that do not suit the state, step by step
use Rattle.std.proofs.Common.{◌≢◌, true, false, [], ◌∷◌, codes, inr, refl, lit<, lit≤}
use Rattle.std.proofs.lemmas.Bool.{eqb-false}
use Rattle.tmc_wire.specs.declared.header.OutHeader.TheVariants.{Message}
use Rattle.tmc_law.specs.State.{State, start, arrived, Idle}
use Rattle.tmc_law.specs.Put.{success, stalled}
use Rattle.tmc_law.specs.BulkOut.{Empty, Spoiled, ByHeader, BulkInBusy, RequestInside, TriggerInside, TooLong, DoesMove, Part, NothingUnread}
use Rattle.tmc_law.specs.Step.{Steps, Take}
use Rattle.tmc_law.specs.Run.{Runs}
use Rattle.tmc_law.specs.WorkedSession.{out_submit, answered}
use Rattle.tmc_law.specs.WorkedQuery.{request_text}
use Rattle.tmc_law.specs.WorkedInterrupt.{second_text}
use Rattle.tmc_law.specs.WorkedTrigger.{trigger_text}
use Rattle.tmc_law.specs.WorkedUnsuited.{part_text, long_text, sending_nothing, sending_inside, triggering_inside, sending_while_owed, sending_too_much}
use Rattle.tmc_law.proofs.WorkedComing.{out_comes}
use Rattle.tmc_law.proofs.WorkedUnspoiled.{IsGood}
use Rattle.tmc_law.proofs.WorkedTaking.{takes_whole}
use Rattle.tmc_law.proofs.WorkedQuery.{request_good}
use Rattle.tmc_law.proofs.WorkedBare.{came, owed, takes_request}

-- a submit of no bytes
abbrev empty_came : State
empty_came = record start { bulk_out = arrived (out_submit 1 0) [] ∷ [] }

pub sends_nothing : Runs start sending_nothing start
sends_nothing = (
  empty_came,
  out_comes start 1 0 [] (record { plugged = refl; free = refl; few = refl }) refl refl,
  (start, record { plugged = refl; leads = (refl, Empty (arrived (out_submit 1 0) []) [] refl refl refl refl refl) }, refl),
)

abbrev pub halted : State
halted = record start { halted = record { bulk_out = true; bulk_in = false; interrupt_in = false } }

-- a request inside a message
abbrev part_came : State
part_came = record start { bulk_out = arrived (out_submit 1 16) part_text ∷ [] }

abbrev part_taken : State
part_taken = record start { part = codes "*IDN" }

abbrev request_came : State
request_came = record part_taken { bulk_out = arrived (out_submit 2 12) request_text ∷ [] }

part_good : IsGood part_came part_text (Message 1 4 false)
part_good = record {
  idle = refl;
  fine = record { long = lit≤ tt; known = refl; tagged = eqb-false _ _ refl; inverse = refl; counted = inr (eqb-false _ _ refl) };
  headed = record { reserved = 0; attributes = 0; ninth = 0; tenth = 0; eleventh = 0; tagged = (lit< tt, lit< tt); counted = (lit< tt, lit< tt); accepted = refl; layout = refl };
  suits = lit≤ tt;
}

takes_part : Steps part_came (Take 1) (answered (out_submit 1 16) success 16 [] ∷ []) part_taken
takes_part =
    takes_whole part_came part_taken (arrived (out_submit 1 16) part_text) [] (Message 1 4 false)
    (record { plugged = refl; none_waits = refl; none_runs = refl; first = refl; good = part_good; some = eqb-false _ _ refl; one = refl; moves = DoesMove refl refl; fits = refl; full = refl })
    (Part 1 4 (codes "*IDN") start refl
    (record { head = 0x01 ∷ 0x01 ∷ 0xfe ∷ 0x00 ∷ 0x04 ∷ 0x00 ∷ 0x00 ∷ 0x00 ∷ 0x00 ∷ 0x00 ∷ 0x00 ∷ 0x00 ∷ []; alignment = []; headed = part_good.headed; counted = refl; least = lit< tt; aligned = refl; layout = refl })
    (NothingUnread refl refl) refl)

some_part : codes "*IDN" ≢ []
some_part e = cc

spoils_request : Steps request_came (Take 1) (answered (out_submit 2 12) stalled 0 [] ∷ []) halted
spoils_request = record {
  plugged = refl;
  leads = (
    refl,
    Spoiled (arrived (out_submit 2 12) request_text) [] refl (eqb-false _ _ refl) (lit≤ tt) (lit≤ tt)
        (ByHeader refl (RequestInside 2 4000 (request_good start refl refl).headed some_part)) refl refl,
  );
}

pub sends_inside : Runs start sending_inside halted
sends_inside = (
  part_came,
  out_comes start 1 16 part_text (record { plugged = refl; free = refl; few = refl }) refl refl,
  (
    part_taken,
    takes_part,
    (
      request_came,
      out_comes part_taken 2 12 request_text (record { plugged = refl; free = refl; few = refl }) refl refl,
      (halted, spoils_request, refl),
    ),
  ),
)

-- a trigger inside a message
abbrev trigger_came : State
trigger_came = record part_taken { bulk_out = arrived (out_submit 2 12) trigger_text ∷ [] }

spoils_trigger : Steps trigger_came (Take 1) (answered (out_submit 2 12) stalled 0 [] ∷ []) halted
spoils_trigger = record {
  plugged = refl;
  leads = (
    refl,
    Spoiled (arrived (out_submit 2 12) trigger_text) [] refl (eqb-false _ _ refl) (lit≤ tt) (lit≤ tt)
        (ByHeader refl (TriggerInside 1
        (record { reserved = 0; ignored = 0 ∷ 0 ∷ 0 ∷ 0 ∷ 0 ∷ 0 ∷ 0 ∷ 0 ∷ []; tagged = (lit< tt, lit< tt); eight = refl; layout = refl })
        some_part))
        refl refl,
  );
}

pub triggers_inside : Runs start triggering_inside halted
triggers_inside = (
  part_came,
  out_comes start 1 16 part_text (record { plugged = refl; free = refl; few = refl }) refl refl,
  (
    part_taken,
    takes_part,
    (
      trigger_came,
      out_comes part_taken 2 12 trigger_text (record { plugged = refl; free = refl; few = refl }) refl refl,
      (halted, spoils_trigger, refl),
    ),
  ),
)

-- a message while a response is owed
abbrev second_came : State
second_came = record owed { bulk_out = arrived (out_submit 2 20) second_text ∷ [] }

abbrev pub halted_owed : State
halted_owed = record owed { halted = record { bulk_out = true; bulk_in = false; interrupt_in = false } }

is_owed : owed.side ≢ Idle
is_owed e = cc

spoils_second : Steps second_came (Take 1) (answered (out_submit 2 20) stalled 0 [] ∷ []) halted_owed
spoils_second = record {
  plugged = refl;
  leads = (refl, Spoiled (arrived (out_submit 2 20) second_text) [] refl (eqb-false _ _ refl) (lit≤ tt) (lit≤ tt) (ByHeader refl (BulkInBusy is_owed)) refl refl);
}

pub sends_while_owed : Runs start sending_while_owed halted_owed
sends_while_owed = (
  came,
  out_comes start 1 12 request_text (record { plugged = refl; free = refl; few = refl }) refl refl,
  (
    owed,
    takes_request,
    (
      second_came,
      out_comes owed 2 20 second_text (record { plugged = refl; free = refl; few = refl }) refl refl,
      (halted_owed, spoils_second, refl),
    ),
  ),
)

-- a message of 5000 bytes
abbrev long_came : State
long_came = record start { bulk_out = arrived (out_submit 1 64) long_text ∷ [] }

spoils_long : Steps long_came (Take 1) (answered (out_submit 1 64) stalled 0 [] ∷ []) halted
spoils_long = record {
  plugged = refl;
  leads = (
    refl,
    Spoiled (arrived (out_submit 1 64) long_text) [] refl (eqb-false _ _ refl) (lit≤ tt) (lit≤ tt)
        (ByHeader refl (TooLong 1 5000 true
        (record { reserved = 0; attributes = 1; ninth = 0; tenth = 0; eleventh = 0; tagged = (lit< tt, lit< tt); counted = (lit< tt, lit< tt); accepted = refl; layout = refl })
        (lit< tt)))
        refl refl,
  );
}

pub sends_too_much : Runs start sending_too_much halted
sends_too_much = (
  long_came,
  out_comes start 1 64 long_text (record { plugged = refl; free = refl; few = refl }) refl refl,
  (halted, spoils_long, refl),
)

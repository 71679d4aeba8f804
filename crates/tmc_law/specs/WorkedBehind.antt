-- bytes that are refused behind two messages
use Rattle.std.specs.Prelude.{ℕ, List, [], ◌∷◌, ◌++◌}
use Rattle.tmc_base.specs.declared.run_step.RunStep.{RunStep}
use Rattle.tmc_law.specs.State.{State, start, arrived, Closed}
use Rattle.tmc_law.specs.Step.{Refuses}
use Rattle.tmc_law.specs.Run.{Entry}
use Rattle.tmc_law.specs.WorkedSession.{devid, submits, step}
use Rattle.tmc_law.specs.WorkedQuery.{query_submit, request_submit, query_text, request_text}
use Rattle.tmc_law.specs.WorkedTold.{query_up, request_up, response_up, takes_in}
use Rattle.tmc_law.specs.WorkedRefused.{command_field}

-- there is no message 7
abbrev pub unknown_text : List ℕ
unknown_text = 0x00 ∷ 0x00 ∷ 0x00 ∷ 0x07 ∷ []

abbrev pub coming_behind : List Entry
coming_behind = submits query_submit query_text ∷ submits request_submit request_text ∷ step (Refuses devid unknown_text command_field) [] ∷ []

abbrev pub closed_behind : State
closed_behind = record start {
  bulk_out = arrived query_submit query_text ∷ arrived request_submit request_text ∷ [];
  presence = Closed command_field;
}

-- what it took in: the two messages, and then the bytes that it refused
abbrev pub behind_up : List ℕ
behind_up = query_up ++ (request_up ++ unknown_text)

-- one call brought all of it
abbrev pub told_behind : List RunStep
told_behind = takes_in behind_up ∷ []

-- Three calls brought it: the first one a part of the second message too, and the next one more of that, but not its end.
-- What is not whole is taken in by no step, and the last one has it with the bytes that are refused.
abbrev pub told_in_parts : List RunStep
told_in_parts = takes_in query_up ∷ takes_in [] ∷ takes_in (request_up ++ unknown_text) ∷ []

-- three messages: no byte is to be refused
abbrev pub fine_up : List ℕ
fine_up = query_up ++ (request_up ++ response_up)

-- the query `*IDN?` as bytes
use Rattle.std.proofs.Common.{ℕ, List, [], ◌∷◌, ◌++◌, refl, sym, lit<, lit≤}
use Rattle.std.proofs.lemmas.List.{append-nil}
use Rattle.tmc_base.specs.declared.run_step.RunStep.{RunStep}
use Rattle.usbip_wire.specs.Urb.{fields}
use Rattle.usbip_wire.specs.Submit.{submit_bytes}
use Rattle.usbip_wire.specs.RetSubmit.{ret_submit_bytes}
use Rattle.usbip_wire.specs.Up as up
use Rattle.tmc_law.specs.State.{State, start}
use Rattle.tmc_law.specs.Put.{Put, success}
use Rattle.tmc_law.specs.Step.{Move, Comes, Take, Exec, Steps}
use Rattle.tmc_law.specs.Run.{TakesIn, SpellAll, SpellsPut}
use Rattle.tmc_law.specs.Told.{Means, Tells}
use Rattle.tmc_law.specs.WorkedSession.{devid, submits, step, answered}
use Rattle.tmc_law.specs.WorkedQuery.{query_submit, request_submit, response_submit, query_text, request_text, response_text, answering}
use Rattle.tmc_law.specs.WorkedTold.{query_up, request_up, response_up, success_down, takes_in, puts_out, told_query, told_at_once}
use Rattle.tmc_law.proofs.WorkedSpelling.{submit_spells, success_spelled}
use Rattle.tmc_law.proofs.WorkedComing.{out_comes, in_comes}
use Rattle.tmc_law.proofs.WorkedQuery.{query_came, request_came, came, waits, executed, requested, sends, done, takes_query, executes_query, takes_request, begins_response, fills_response, answers}

one : {M : Type 0} (S : M → List ℕ → Type 0) (m : M) (bytes : List ℕ) → S m bytes → SpellAll S (m ∷ []) bytes
one {M} S m bytes s = (bytes, [], sym (append-nil bytes), s, refl)

-- a step alone, and the bytes that it takes in
alone : (s t : State) (move : Move) (puts : List Put) (step : RunStep) → Steps s move puts t → TakesIn devid move step.took → SpellAll SpellsPut (puts ++ []) step.put
    → Means devid s step t
alone s t move puts step goes takes puts_spelled = record {
  run = record { move = move; puts = puts } ∷ [];
  goes = (t, goes, refl);
  took = (step.took, [], sym (append-nil step.took), takes, refl);
  put = puts_spelled;
}

-- a message comes
means_comes : (s t : State) (message : up.Message) (bytes : List ℕ) → Steps s (Comes message) [] t → up.Spells devid message bytes → Means devid s (takes_in bytes) t
means_comes s t message bytes goes spells = alone s t (Comes message) [] (takes_in bytes) goes spells refl

-- something is put out, or nothing
means_puts : (s t : State) (move : Move) (put : Put) (bytes : List ℕ) → Steps s move (put ∷ []) t → TakesIn devid move [] → SpellsPut put bytes → Means devid s (puts_out bytes) t
means_puts s t move put bytes goes none spells = alone s t move (put ∷ []) (puts_out bytes) goes none (one SpellsPut put bytes spells)

means_nothing : (s t : State) (move : Move) → Steps s move [] t → TakesIn devid move [] → Means devid s (puts_out []) t
means_nothing s t move goes none = alone s t move [] (puts_out []) goes none refl

pub query_spelled : up.Spells devid (up.Submit query_submit query_text) query_up
unfolding submit_bytes fields
query_spelled = submit_spells query_submit query_text (record { imported = refl; number = lit< tt; endpoint = lit≤ tt; short = lit≤ tt; setup = refl; carried = refl })

pub request_spelled : up.Spells devid (up.Submit request_submit request_text) request_up
unfolding submit_bytes fields
request_spelled = submit_spells request_submit request_text (record { imported = refl; number = lit< tt; endpoint = lit≤ tt; short = lit≤ tt; setup = refl; carried = refl })

pub response_spelled : up.Spells devid (up.Submit response_submit []) response_up
unfolding submit_bytes fields
response_spelled = submit_spells response_submit [] (record { imported = refl; number = lit< tt; endpoint = lit≤ tt; short = lit≤ tt; setup = refl; carried = refl })

pub tells_query : Tells devid start told_query done
unfolding ret_submit_bytes fields
tells_query = (
  query_came,
  means_comes start query_came (up.Submit query_submit query_text) query_up
      (out_comes start 1 20 query_text (record { plugged = refl; free = refl; few = refl }) refl refl) query_spelled,
  (
    request_came,
    means_comes query_came request_came (up.Submit request_submit request_text) request_up
        (out_comes query_came 2 12 request_text (record { plugged = refl; free = refl; few = refl }) refl refl) request_spelled,
    (
      came,
      means_comes request_came came (up.Submit response_submit []) response_up
          (in_comes request_came 3 4096 (record { plugged = refl; free = refl; few = refl }) refl refl) response_spelled,
      (
        waits,
        means_puts came waits _ _ (success_down 1 20) takes_query refl (success_spelled query_submit 20 [] (lit< tt) (lit< tt) (lit≤ tt) refl),
        (
          executed,
          means_nothing waits executed _ executes_query refl,
          (
            requested,
            means_puts executed requested _ _ (success_down 2 12) takes_request refl (success_spelled request_submit 12 [] (lit< tt) (lit< tt) (lit≤ tt) refl),
            (
              sends,
              means_nothing requested sends _ begins_response refl,
              (
                done,
                means_puts sends done _ _ (success_down 3 32 ++ response_text) fills_response refl (success_spelled response_submit 32 response_text (lit< tt) (lit< tt) (lit≤ tt) refl),
                refl,
              ),
            ),
          ),
        ),
      ),
    ),
  ),
)

-- ---- the same in two calls

brings_all : Means devid start (takes_in (query_up ++ (request_up ++ response_up))) came
brings_all = record {
  run = submits query_submit query_text ∷ submits request_submit request_text ∷ submits response_submit [] ∷ [];
  goes = (
    query_came,
    out_comes start 1 20 query_text (record { plugged = refl; free = refl; few = refl }) refl refl,
    (
      request_came,
      out_comes query_came 2 12 request_text (record { plugged = refl; free = refl; few = refl }) refl refl,
      (came, in_comes request_came 3 4096 (record { plugged = refl; free = refl; few = refl }) refl refl, refl),
    ),
  );
  took = (query_up, request_up ++ response_up, refl, query_spelled, (request_up, response_up, refl, request_spelled, (response_up, [], refl, response_spelled, refl)));
  put = refl;
}

goes_far : Means devid came (puts_out (success_down 1 20 ++ (success_down 2 12 ++ (success_down 3 32 ++ response_text)))) done
unfolding ret_submit_bytes fields
goes_far = record {
  run = step (Take 1) (answered query_submit success 20 [] ∷ []) ∷ step Exec [] ∷ step (Take 1) (answered request_submit success 12 [] ∷ []) ∷ answering;
  goes = (waits, takes_query, (executed, executes_query, (requested, takes_request, answers)));
  took = ([], [], refl, refl, ([], [], refl, refl, ([], [], refl, refl, ([], [], refl, refl, ([], [], refl, refl, refl)))));
  put = (
    success_down 1 20,
    success_down 2 12 ++ (success_down 3 32 ++ response_text),
    refl,
    success_spelled query_submit 20 [] (lit< tt) (lit< tt) (lit≤ tt) refl,
    (
      success_down 2 12,
      success_down 3 32 ++ response_text,
      refl,
      success_spelled request_submit 12 [] (lit< tt) (lit< tt) (lit≤ tt) refl,
      (success_down 3 32 ++ response_text, [], refl, success_spelled response_submit 32 response_text (lit< tt) (lit< tt) (lit≤ tt) refl, refl),
    ),
  );
}

pub tells_at_once : Tells devid start told_at_once done
tells_at_once = (came, brings_all, (done, goes_far, refl))

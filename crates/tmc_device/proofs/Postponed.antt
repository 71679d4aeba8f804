-- the answer PENDING
use Rattle.std.proofs.Common.{◌≡◌, ◌∙◌, refl, ap, List, ℕ, [], ◌∷◌, ◌++◌}
use Rattle.tmc_wire.specs.declared.class_request.ClassRequest.{ClassRequest}
use Rattle.tmc_wire.specs.ControlTable.{IsRow}
use Rattle.tmc_law.specs.declared.dev_event.DevEvent.TheVariants as event
use Rattle.tmc_law.specs.Endpoint.{ends}
use Rattle.tmc_law.specs.State.{Plugged, Pending as Submit}
use Rattle.tmc_law.specs.Put.{Put}
use Rattle.tmc_law.specs.Control.{control_answer}
use Rattle.tmc_law.specs.Class.{StaysPending, DoesPostpone}
use Rattle.tmc_law.specs.Step.{Pend}
use Rattle.tmc_device.specs.declared.answer.Asked.{Asked}
use Rattle.tmc_device.specs.declared.body.Body.{Body}
use Rattle.tmc_device.specs.Body.{state_of, seen_of, IsPrepared}
use Rattle.tmc_device.specs.Control.{IsAsked, IsReplied}
use Rattle.tmc_device.specs.Events.{IsEnabled}
use Rattle.tmc_device.specs.Seen.{Seen, Makes}

pub postponed : (old ready new : Body) (asked : Asked) (request : ClassRequest) (layout : List ℕ) (is : IsAsked (state_of old) asked) → IsPrepared old ready
    → (state_of old).presence ≡ Plugged → IsRow ends request asked.setup → StaysPending (state_of old).running request layout
    → ((submit : Submit) (behind : List Submit) → (state_of ready).control ≡ submit ∷ behind → IsReplied behind (control_answer submit asked.setup layout) ready new)
    → IsEnabled event.Pending (state_of old) × Makes Pend (seen_of old) (seen_of new)
postponed old ready new asked request layout is same plugged row stays replies =
    let replied = replies is.submit is.behind (ap (λ (z : Seen). z.state.control) same.seen ∙ is.first) in (
      (record {
        plugged = plugged;
        needs = record {
          submit = is.submit;
          behind = is.behind;
          setup = asked.setup;
          request = request;
          layout = layout;
          first = is.first;
          asks = is.asks;
          row = row;
          stays = stays;
        };
      }),
      record {
        puts = control_answer is.submit asked.setup layout ∷ [];
        steps = record {
          plugged = plugged;
          leads = DoesPostpone is.submit is.behind asked.setup request layout is.first is.asks row stays refl
              (replied.state ∙ ap (λ (z : Seen). record z.state { control = is.behind }) same.seen);
        };
        joins = replied.puts ∙ ap (λ (l : List Put). l ++ control_answer is.submit asked.setup layout ∷ []) same.outputs;
      },
    )

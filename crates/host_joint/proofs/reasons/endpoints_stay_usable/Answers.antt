use Rattle.std.proofs.Common.{◌≡◌, ◌∙◌, ◌+◌, inl, inr, false, [], ◌∷◌, ◌++◌, refl, sym, subst}
use Rattle.usbip_wire.specs.declared.submit.SubmitHead.{SubmitHead}
use Rattle.usbip_wire.specs.Up as up
use Rattle.tmc_law.specs.Endpoint.{Endpoint, Control, BulkOut, BulkIn, InterruptIn}
use Rattle.tmc_law.specs.State.{is_halted}
use Rattle.tmc_law.specs.Put.{Submitted}
use Rattle.host_joint.specs.Lines.{events_of}
use Rattle.host_joint.specs.Unlinking.{IsBulk}
use Rattle.host_joint.specs.Bond.{Requests}
use Rattle.host_joint.specs.Reasons.{IsUsable}
use Rattle.host_joint.proofs.Hosting.{own_event}
use Rattle.host_joint.proofs.Recovering.{of_control, no_event}
use Rattle.host_joint.proofs.Freeing.{usable_run, usable_written}
use Rattle.host_joint.proofs.reasons.endpoints_stay_usable.Goals as goal

pub returns-clause-begins : goal.returns-clause-begins
returns-clause-begins c next ups downs s tie = record { bound = c.remote_tickets_are_tied.ensures.stands next ups downs s tie; usable = λ e bulk is. by e bulk }
  where
    by : (e : Endpoint) → IsBulk e → is_halted e s ≡ false
    by Control bulk = absurd bulk
    by BulkOut bulk = tie.out_usable
    by BulkIn bulk = tie.in_usable
    by InterruptIn bulk = absurd bulk

pub returns-clause-stays : goal.returns-clause-stays
returns-clause-stays c =
    usable_run (record {
      halts = record {
        asks = c.asks_halt_nothing.ensures;
        causes = c.halts_have_causes.ensures.halts;
        one_header = c.headers_are_read_again.ensures.out_one;
        stays = c.bonds_stay.ensures.bound;
      };
      meaning = record {
        one = c.setups_have_one_meaning.ensures.one;
        class_one = c.setups_have_one_meaning.ensures.class;
        standard_one = c.setups_have_one_meaning.ensures.standard;
        apart = c.setups_have_one_meaning.ensures.apart;
      };
      sound = λ run s before. record {
        fits = λ e. c.pending_submits_are_sound.ensures.stand run s e before;
        polled = λ e front submit behind line polled. let place = c.pending_submits_are_sound.ensures.polled run s e front submit behind before line polled in (place.0, place.1);
      };
    })

pub returns-clause-writes : goal.returns-clause-writes
returns-clause-writes c which later letter head next ups downs s is fits number known b =
    usable_written which later letter head (next + 1) next ups (ups ++ up.Submit head [] ∷ []) downs s (c.recoveries_go_on.ensures.writes letter head next ups downs s is fits number b.bound) known b

pub returns-clause-answer : goal.returns-clause-answer
returns-clause-answer c which letter head next asked answer transferred ups downs s b e bulk is = by (b.usable e bulk is)
  where
    over : asked ≡ head
    over = (c.recoveries_go_on.ensures.answer letter head next asked answer transferred ups downs s b.bound).0

    by : IsUsable e (Requests head letter) (Submitted asked answer transferred ∷ downs) s → is_halted e s ≡ false
    by (inr off) = off
    by (inl h) =
        no_event _ _ (sym (own_event Control head answer transferred downs (of_control head letter b.bound.awaited.2))
        ∙ subst (λ (x : SubmitHead). events_of Control (Submitted x answer transferred ∷ downs) ≡ []) over h.1)

pub returns-clause-rest : goal.returns-clause-rest
returns-clause-rest c next ups downs s b = c.recoveries_end.ensures.rest next ups downs s (b.usable BulkOut tt refl) (b.usable BulkIn tt refl) b.bound

pub returns-clause-cleared : goal.returns-clause-cleared
returns-clause-cleared c next ups downs s b = c.recoveries_end.ensures.cleared next ups downs s (b.usable BulkOut tt refl) (b.usable BulkIn tt refl) b.bound

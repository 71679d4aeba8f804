use Rattle.std.proofs.Common.{subst, List, [], ◌∷◌, ◌++◌, refl}
use Rattle.tmc_law.specs.Endpoint.{Control}
use Rattle.tmc_law.specs.State.{Packet, start}
use Rattle.tmc_law.specs.Run.{Entry}
use Rattle.tmc_device.proofs.Sounding.{AllTagged, reached}
use Rattle.tmc_device.proofs.device.steps_rest_on_laws.Goals as goal

pub returns-clause-sound : goal.returns-clause-sound
returns-clause-sound c = λ s there.
    let pending = c.pending_submits_are_sound.ensures in
    let own = reached there.run s there.runs in
    record {
      first = λ endpoint. pending.first there.run s endpoint there.runs;
      stand = λ endpoint. pending.stand there.run s endpoint there.runs;
      order = c.transfers_are_in_order.ensures there.run s there.runs;
      few = c.few_packets_are_queued.ensures there.run s there.runs;
      under_way = λ transfer is. let way = own.under_way transfer is in record { headed = way.headed; long = way.long; fits = way.fits };
      polled = λ submit behind first polled. (pending.polled there.run s Control [] submit behind there.runs first polled).2;
      tagged = λ tag byte behind is. (subst (λ (p : List Packet). AllTagged p) is own.tagged).0;
      asked = own.asked;
    }

pub returns-clause-reached : goal.returns-clause-reached
returns-clause-reached c = λ s t move puts there steps.
    let entry : Entry = record { move = move; puts = puts } in
    record {
      run = there.run ++ entry ∷ [];
      runs = c.runs_join.ensures.together there.run (entry ∷ []) start s t there.runs (t, steps, refl);
    }

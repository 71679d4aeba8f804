-- submits that halt Bulk-OUT, step by step
use Rattle.std.proofs.Common.{◌<◌, true, false, [], ◌∷◌, inl, inr, replicate, refl, arith, lit<, lit≤}
use Rattle.std.proofs.lemmas.Bool.{eqb-false}
use Rattle.usb_setup.specs.declared.setup.Setup.{Setup}
use Rattle.tmc_wire.specs.declared.header.OutHeader.TheVariants.{Message}
use Rattle.tmc_wire.specs.declared.header_fault.HeaderFault.{HeaderFault}
use Rattle.tmc_wire.specs.declared.header_fault.HeaderFault.TheVariants.{Length, MsgId, Tag, Inverse, Size}
use Rattle.tmc_wire.specs.HeaderFault.{IsOutFault, HasFault, is_out_message, place_of}
use Rattle.tmc_law.specs.Endpoint.{BulkOut}
use Rattle.tmc_law.specs.State.{State, start, arrived}
use Rattle.tmc_law.specs.Put.{success, stalled}
use Rattle.tmc_law.specs.BulkOut.{Spoiled, NoHeader, ByHeader, ByLength, InProgress}
use Rattle.tmc_law.specs.Control.{Asks}
use Rattle.tmc_law.specs.Standard.{ClearHalt}
use Rattle.tmc_law.specs.Step.{Steps, Take, Answer}
use Rattle.tmc_law.specs.Run.{Runs}
use Rattle.tmc_law.specs.WorkedSession.{out_submit, answered}
use Rattle.tmc_law.specs.WorkedAbortOut.{first_text}
use Rattle.tmc_law.specs.WorkedSpoiled.{unknown_text, long_text, short_text, usable_submit, sending_unknown, sending_long, sending_short, sending_rest}
use Rattle.tmc_law.proofs.WorkedComing.{out_comes, telling_comes}
use Rattle.tmc_law.proofs.WorkedUnspoiled.{IsGood, begun, begins}
use Rattle.tmc_law.proofs.WorkedAnswering.{answers_standard}
use Rattle.tmc_law.proofs.WorkedAbortOut.{first_came, split, takes_first}

abbrev unknown_came : State
unknown_came = record start { bulk_out = arrived (out_submit 1 12) unknown_text ∷ [] }

abbrev long_came : State
long_came = record start { bulk_out = arrived (out_submit 1 24) long_text ∷ [] }

abbrev short_came : State
short_came = record start { bulk_out = arrived (out_submit 1 16) short_text ∷ [] }

abbrev halted : State
halted = record start { halted = record { bulk_out = true; bulk_in = false; interrupt_in = false } }

abbrev usable_came : State
usable_came = record halted { control = arrived usable_submit [] ∷ [] }

first_fault : (other : HeaderFault) → place_of other < 1 → HasFault is_out_message unknown_text other → ⊥
first_fault Length before has = omega (arith, has)
first_fault MsgId before has = omega (arith, before)
first_fault Tag before has = omega (arith, before)
first_fault Inverse before has = omega (arith, before)
first_fault Size before has = omega (arith, before)

unknown_fault : IsOutFault unknown_text MsgId
unknown_fault = record { here = refl; first = first_fault }

spoils_header : Steps unknown_came (Take 1) (answered (out_submit 1 12) stalled 0 [] ∷ []) halted
spoils_header = record {
  plugged = refl;
  leads = (refl, Spoiled (arrived (out_submit 1 12) unknown_text) [] refl (eqb-false _ _ refl) (lit≤ tt) (lit≤ tt) (ByHeader refl (NoHeader MsgId unknown_fault)) refl refl);
}

long_good : IsGood long_came long_text (Message 1 5 true)
long_good = record {
  idle = refl;
  fine = record { long = lit≤ tt; known = refl; tagged = eqb-false _ _ refl; inverse = refl; counted = inr (eqb-false _ _ refl) };
  headed = record { reserved = 0; attributes = 1; ninth = 0; tenth = 0; eleventh = 0; tagged = (lit< tt, lit< tt); counted = (lit< tt, lit< tt); accepted = refl; layout = refl };
  suits = lit≤ tt;
}

spoils_size : Steps long_came (Take 1) (answered (out_submit 1 24) stalled 0 [] ∷ []) halted
spoils_size = record {
  plugged = refl;
  leads = (
    refl,
    Spoiled (arrived (out_submit 1 24) long_text) [] refl (eqb-false _ _ refl) (lit≤ tt) (lit≤ tt)
        (ByLength (begun (Message 1 5 true)) (begins long_came (arrived (out_submit 1 24) long_text) (Message 1 5 true) refl long_good) refl (inl (lit< tt)))
        refl refl,
  );
}

short_good : IsGood short_came short_text (Message 1 5 true)
short_good = record {
  idle = refl;
  fine = record { long = lit≤ tt; known = refl; tagged = eqb-false _ _ refl; inverse = refl; counted = inr (eqb-false _ _ refl) };
  headed = record { reserved = 0; attributes = 1; ninth = 0; tenth = 0; eleventh = 0; tagged = (lit< tt, lit< tt); counted = (lit< tt, lit< tt); accepted = refl; layout = refl };
  suits = lit≤ tt;
}

spoils_short : Steps short_came (Take 1) (answered (out_submit 1 16) stalled 0 [] ∷ []) halted
spoils_short = record {
  plugged = refl;
  leads = (
    refl,
    Spoiled (arrived (out_submit 1 16) short_text) [] refl (eqb-false _ _ refl) (lit≤ tt) (lit≤ tt)
        (ByLength (begun (Message 1 5 true)) (begins short_came (arrived (out_submit 1 16) short_text) (Message 1 5 true) refl short_good) refl (inr (lit< tt, eqb-false _ _ refl)))
        refl refl,
  );
}

-- CLEAR_FEATURE
abbrev usable_setup : Setup
usable_setup = record { request_type = 0x02; request = 1; value = 0; index = 1; length = 0 }

usable_asks : Asks (arrived usable_submit []) usable_setup
usable_asks = record { fits = record { request_type = lit< tt; request = lit< tt; value = lit< tt; index = lit< tt; length = lit< tt }; layout = refl }

becomes_usable : Steps usable_came Answer (answered usable_submit success 0 [] ∷ []) start
becomes_usable = answers_standard usable_came (arrived usable_submit []) [] usable_setup (ClearHalt BulkOut) refl refl usable_asks (record { request_type = refl; request = refl; value = refl; index = refl })

pub sends_unknown : Runs start sending_unknown start
sends_unknown = (
  unknown_came,
  out_comes start 1 12 unknown_text (record { plugged = refl; free = refl; few = refl }) refl refl,
  (
    halted,
    spoils_header,
    (
      usable_came,
      telling_comes halted 2 0x02 _ (record { plugged = refl; free = refl; few = refl }) refl refl,
      (start, becomes_usable, refl),
    ),
  ),
)

pub sends_long : Runs start sending_long start
sends_long = (
  long_came,
  out_comes start 1 24 long_text (record { plugged = refl; free = refl; few = refl }) refl refl,
  (
    halted,
    spoils_size,
    (
      usable_came,
      telling_comes halted 2 0x02 _ (record { plugged = refl; free = refl; few = refl }) refl refl,
      (start, becomes_usable, refl),
    ),
  ),
)

pub sends_short : Runs start sending_short start
sends_short = (
  short_came,
  out_comes start 1 16 short_text (record { plugged = refl; free = refl; few = refl }) refl refl,
  (
    halted,
    spoils_short,
    (
      usable_came,
      telling_comes halted 2 0x02 _ (record { plugged = refl; free = refl; few = refl }) refl refl,
      (start, becomes_usable, refl),
    ),
  ),
)

-- the rest of a transfer, too short
abbrev rest_came : State
rest_came = record split { bulk_out = arrived (out_submit 2 40) (replicate 40 32) ∷ [] }

spoils_rest : Steps rest_came (Take 1) (answered (out_submit 2 40) stalled 0 [] ∷ []) halted
spoils_rest = record {
  plugged = refl;
  leads = (
    refl,
    Spoiled (arrived (out_submit 2 40) (replicate 40 32)) [] refl (eqb-false _ _ refl) (lit≤ tt) (lit≤ tt)
        (ByLength (record { header = Message 1 100 true; taken = first_text }) (InProgress refl) refl (inr (lit< tt, eqb-false _ _ refl)))
        refl refl,
  );
}

pub sends_rest : Runs start sending_rest halted
sends_rest = (
  first_came,
  out_comes start 1 64 first_text (record { plugged = refl; free = refl; few = refl }) refl refl,
  (
    split,
    takes_first,
    (
      rest_came,
      out_comes split 2 40 (replicate 40 32) (record { plugged = refl; free = refl; few = refl }) refl refl,
      (halted, spoils_rest, refl),
    ),
  ),
)

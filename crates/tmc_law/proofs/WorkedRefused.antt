-- bytes at which the device closes, step by step
use Rattle.std.proofs.Common.{◌≡◌, ℕ, ◌≤◌, List, [], ◌∷◌, ◌++◌, length, refl, arith, lit<, lit≤}
use Rattle.usbip_wire.specs.declared.submit.SubmitHead.{SubmitHead}
use Rattle.usbip_wire.specs.Up as up
use Rattle.usbip_wire.specs.Urb.{fields}
use Rattle.usbip_wire.specs.Submit.{submit_bytes}
use Rattle.tmc_law.specs.State.{State, start, arrived, Plugged, Closed, pending, Avoids}
use Rattle.tmc_law.specs.Put.{Put}
use Rattle.tmc_law.specs.Queues.{pending_most}
use Rattle.tmc_law.specs.Step.{Steps, Comes, Refuses, TooMany, Twice, ByField, ByPending}
use Rattle.tmc_law.specs.Run.{Runs}
use Rattle.tmc_law.specs.WorkedSession.{devid, in_submit}
use Rattle.tmc_law.specs.WorkedRefused.{again_text, number_field, command_field, pending_field, coming_twice, coming_wrong}
use Rattle.tmc_law.proofs.WorkedSpelling.{submit_spells}
use Rattle.tmc_law.proofs.WorkedComing.{in_comes}

abbrev came : State
came = record start { bulk_in = arrived (in_submit 1 4096) [] ∷ [] }

not_free : Avoids 1 (pending came) → ⊥
not_free free = free.0 refl

refuses_number : Steps came (Refuses devid again_text number_field) [] (record came { presence = Closed number_field })
unfolding submit_bytes fields
refuses_number = record {
  plugged = refl;
  leads = (
    ByPending (in_submit 1 4096) [] again_text [] refl
        (submit_spells (in_submit 1 4096) [] (record { imported = refl; number = lit< tt; endpoint = lit≤ tt; short = lit≤ tt; setup = refl; carried = refl }))
        (Twice (lit< tt) not_free refl),
    refl,
    refl,
  );
}

pub comes_twice : Runs start coming_twice (record came { presence = Closed number_field })
comes_twice = (
  came,
  in_comes start 1 4096 (record { plugged = refl; free = refl; few = refl }) refl refl,
  (record came { presence = Closed number_field }, refuses_number, refl),
)

refuses_command : Steps start (Refuses devid (0x00 ∷ 0x00 ∷ 0x00 ∷ 0x07 ∷ []) command_field) [] (record start { presence = Closed command_field })
refuses_command = record { plugged = refl; leads = (ByField (7, [], lit< tt, refl, refl), refl, refl) }

pub comes_wrong : Runs start coming_wrong (record start { presence = Closed command_field })
comes_wrong = (record start { presence = Closed command_field }, refuses_command, refl)

pub refuses_more : (n : ℕ) (s : State) (head : SubmitHead) (transferred bytes rest : List ℕ) → s.presence ≡ Plugged → pending_most ≤ length (pending s)
    → up.Spells n (up.Submit head transferred) bytes → Steps s (Refuses n (bytes ++ rest) pending_field) [] (record s { presence = Closed pending_field })
refuses_more n s head transferred bytes rest plugged many spelled = record {
  plugged = plugged;
  leads = (ByPending head transferred bytes rest refl spelled (TooMany many refl), refl, refl);
}

pub no_more_come : (s t : State) (head : SubmitHead) (transferred : List ℕ) (puts : List Put) → pending_most ≤ length (pending s) → Steps s (Comes (up.Submit head transferred)) puts t → ⊥
no_more_come s t head transferred puts many steps = omega (arith, many, steps.leads.2)

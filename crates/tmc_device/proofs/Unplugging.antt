-- a device is unplugged
use Rattle.std.proofs.Common.{◌≡◌, ◌∙◌, refl, ap, ℤ, Bool, true, false, List, [], ◌∷◌, ◌++◌, map, append_assoc}
use Rattle.tmc_law.specs.Endpoint.{Control, BulkOut, BulkIn, InterruptIn}
use Rattle.tmc_law.specs.State.{Pending}
use Rattle.tmc_law.specs.Put.{Put, ended}
use Rattle.tmc_law.specs.Halts.{all_ended}
use Rattle.tmc_law.specs.Reached.{FirstBegins}
use Rattle.endpoint_pipes.specs.Held.{Held, with_list}
use Rattle.endpoint_pipes.specs.Part.{queue_from}
use Rattle.tmc_device.proofs.Halting.{each_ended}

-- nothing is pending, whatever was polled
pub none_queued : (polled : Bool) → queue_from Control polled [] ≡ []
none_queued true = refl
none_queued false = refl

-- the answers to the control submits, whatever was polled
pub control_ended : (status : ℤ) (polled : Bool) (list : List Pending) → FirstBegins (queue_from Control polled list)
    → map (λ (submit : Pending). ended status submit) list ≡ all_ended status (queue_from Control polled list)
control_ended status true [] begins = refl
control_ended status true (submit ∷ list) begins = each_ended status (submit ∷ list) begins
control_ended status false list begins = each_ended status list begins

-- the lists are emptied one after another
pub all_emptied : (a b c d e : Held) → b ≡ with_list Control [] a → c ≡ with_list BulkOut [] b → d ≡ with_list BulkIn [] c → e ≡ with_list InterruptIn [] d
    → e ≡ record a { control = []; bulk_out = []; bulk_in = []; interrupt_in = [] }
all_emptied a b c d e first second third fourth =
    fourth ∙ ap (λ (h : Held). with_list InterruptIn [] h) (third ∙ ap (λ (h : Held). with_list BulkIn [] h) (second ∙ ap (λ (h : Held). with_list BulkOut [] h) first))

-- and their answers stand in a row
pub in_a_row : (w x y z o a b c d : List Put) → w ≡ o ++ a → x ≡ w ++ b → y ≡ x ++ c → z ≡ y ++ d → z ≡ o ++ (a ++ (b ++ (c ++ d)))
in_a_row w x y z o a b c d first second third fourth =
    fourth ∙ (ap (λ (l : List Put). l ++ d) (third ∙ ap (λ (l : List Put). l ++ c) (second ∙ ap (λ (l : List Put). l ++ b) first))
    ∙ (append_assoc ((o ++ a) ++ b) c d ∙ (append_assoc (o ++ a) b (c ++ d) ∙ append_assoc o a (b ++ (c ++ d)))))

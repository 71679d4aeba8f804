-- the words of outcomes, ends and refusals: the name, and behind it what it holds
use Rattle.std.specs.Prelude.{ℕ, List, ◌++◌, codes}
use Rattle.std.specs.Fmt.{decimal, signed_decimal}
use Rattle.host_hub.specs.declared.outcome.End.{End}
use Rattle.host_hub.specs.declared.outcome.End.TheVariants as ended
use Rattle.host_hub.specs.declared.outcome.Outcome.{Outcome}
use Rattle.host_hub.specs.declared.outcome.Outcome.TheVariants as outcome
use Rattle.host_hub.specs.declared.refusals.AskFault.{AskFault}
use Rattle.host_hub.specs.declared.refusals.AskFault.TheVariants as refused
use Rattle.host_hub.specs.declared.refusals.ClearFault.{ClearFault}
use Rattle.host_hub.specs.declared.refusals.ClearFault.TheVariants as not_cleared
use Rattle.event_text.specs.Printed.{field_words}

abbrev pub outcome_words : Outcome → List ℕ
outcome_words outcome.Live = codes "Live"
outcome_words outcome.Complete = codes "Complete"
outcome_words outcome.Done = codes "Done"
outcome_words (outcome.Status byte) = codes "Status " ++ decimal byte
outcome_words outcome.Limit = codes "Limit"
outcome_words outcome.Cancelled = codes "Cancelled"
outcome_words (outcome.Cleared session) = codes "Cleared " ++ decimal session
outcome_words (outcome.Halted endpoint) = codes "Halted " ++ decimal endpoint
outcome_words outcome.Unplugged = codes "Unplugged"
outcome_words (outcome.DeviceFault status) = codes "DeviceFault " ++ signed_decimal status
outcome_words (outcome.DeviceSays status) = codes "DeviceSays " ++ decimal status
outcome_words (outcome.PeerFault f) = codes "PeerFault " ++ field_words f
outcome_words outcome.LinkFault = codes "LinkFault"
outcome_words outcome.Exhausted = codes "Exhausted"
outcome_words outcome.GivenUp = codes "GivenUp"

abbrev pub end_words : End → List ℕ
end_words ended.Unplugged = codes "Unplugged"
end_words (ended.DeviceFault status) = codes "DeviceFault " ++ signed_decimal status
end_words (ended.DeviceSays status) = codes "DeviceSays " ++ decimal status
end_words (ended.PeerFault f) = codes "PeerFault " ++ field_words f
end_words ended.LinkFault = codes "LinkFault"
end_words ended.Exhausted = codes "Exhausted"
end_words ended.GivenUp = codes "GivenUp"

abbrev pub refusal_words : AskFault → List ℕ
refusal_words (refused.Down end) = codes "Down " ++ end_words end
refusal_words refused.NoSession = codes "NoSession"
refusal_words refused.No488 = codes "No488"
refusal_words refused.EmptyMessage = codes "EmptyMessage"
refusal_words refused.LongMessage = codes "LongMessage"
refusal_words refused.BadLimit = codes "BadLimit"
refusal_words refused.Full = codes "Full"
refusal_words refused.Exhausted = codes "Exhausted"
refusal_words refused.Memory = codes "Memory"

abbrev pub clear_refusal_words : ClearFault → List ℕ
clear_refusal_words (not_cleared.Down end) = codes "Down " ++ end_words end
clear_refusal_words not_cleared.NoSession = codes "NoSession"
clear_refusal_words not_cleared.Memory = codes "Memory"

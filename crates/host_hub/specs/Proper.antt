-- what a hub that has asks and tells alone was asked for
use Rattle.std.specs.Prelude.{◌≡◌, ◌≤◌, ℕ, true, Some, length}
use Rattle.host_hub.specs.declared.kind.Kind.TheVariants as kind
use Rattle.host_hub.specs.declared.limits.TheConstants.{MESSAGE_MAX}
use Rattle.host_hub.specs.Record.{Asking, Past}
use Rattle.host_hub.specs.Book.{asking_of}
use Rattle.host_hub.specs.Refusals.{has_message}

-- a message of a length that a message may have, and a limit where its response is asked for
pub record IsProper (asking : Asking) : Type 0 where
  pub messages : has_message asking.kind ≡ true
  pub some : 1 ≤ length asking.message
  pub short : length asking.message ≤ MESSAGE_MAX
  pub limited : asking.kind ≡ kind.Ask → 1 ≤ asking.limit

-- each ticket was
abbrev pub AllProper : Past → Type 0
AllProper past = (t : ℕ) (asking : Asking) → asking_of t past ≡ Some asking → IsProper asking

-- the words behind the program's name
use Rattle.std.specs.Prelude.{◌≡◌, ◌⊎◌, ◌≤◌, ℕ, List, [], ◌∷◌, codes}
use Rattle.std.specs.Fmt.{decimal}
use Rattle.usbip_wire.specs.declared.urb.Dir.{Dir}
use Rattle.usbip_wire.specs.declared.urb.Dir.TheVariants.{Out, In}
use Rattle.tmc_tool.specs.declared.ask_limits.TheConstants.{ASK_LIMIT, LIMIT_MOST}
use Rattle.tmc_tool.specs.declared.command.Command.{Command}
use Rattle.tmc_tool.specs.declared.command.Command.TheVariants.{Ask, Replay, Show}

-- a direction of the link: up to the instrument, or down from it
abbrev pub way_word : Dir → List ℕ
way_word Out = codes "up"
way_word In = codes "down"

-- the most bytes of a response that words may name, and what is taken where they name none
abbrev pub IsLimit : ℕ → Type 0
IsLimit limit = (1 ≤ limit) × (limit ≤ LIMIT_MOST)

abbrev pub limit_unnamed : ℕ
limit_unnamed = ASK_LIMIT

-- a limit is written in decimal
pub record IsLimitWord (limit : ℕ) (word : List ℕ) : Type 0 where
  pub is : IsLimit limit
  pub written : word ≡ decimal limit

-- the words name this command
abbrev pub Names : List (List ℕ) → Command → Type 0
Names words (Ask limit) =
    ((words ≡ codes "ask" ∷ []) × (limit ≡ limit_unnamed))
    ⊎ ((word : List ℕ) × (words ≡ codes "ask" ∷ word ∷ []) × IsLimitWord limit word)
Names words Replay = words ≡ codes "replay" ∷ []
Names words (Show way) = words ≡ codes "show" ∷ way_word way ∷ []

-- the words name a command
abbrev pub IsCommand : List (List ℕ) → Type 0
IsCommand words = (command : Command) × Names words command

-- which status comes of which words and which bytes
use Rattle.std.proofs.Common.{◌≡◌, ◌⊎◌, inl, inr, ⊎_elim, ℕ, ◌≤◌, Bool, List, ◌++◌, length, refl, sym, ap, ◌∙◌, subst, arith, length-append, append-nil, Option, Some}
use Rattle.tmc_base.specs.Faults.{Rose}
use Rattle.tmc_base.specs.Source.{GivesFirst, HasEnded}
use Rattle.tmc_base.specs.Reading.{Last}
use Rattle.usbip_wire.specs.declared.urb.Dir.{Dir}
use Rattle.event_text.specs.declared.line_fault.LineWhat.{LineWhat}
use Rattle.event_text.specs.declared.event.Script.{Script}
use Rattle.event_text.specs.EventScript.{IsEventScript, IsRefusedEvent}
use Rattle.event_text.specs.Shown as showing
use Rattle.tmc_tool.specs.declared.status.Status.{Status}
use Rattle.tmc_tool.specs.declared.status.Status.TheVariants.{Printed, Usage, Refused, SourceFault, SinkFault, NoMemory}
use Rattle.tmc_tool.specs.declared.command.Command.{Command}
use Rattle.tmc_tool.specs.declared.command.Command.TheVariants.{Ask, Replay, Show}
use Rattle.tmc_tool.specs.Command.{Names, IsCommand}
use Rattle.tmc_tool.specs.Script.{KeepsLimits}
use Rattle.tmc_tool.specs.Tool.{code_of, Outside, ReadsEnough, Makes, Takes, Refuses, Ends}
use Rattle.tmc_tool.proofs.FirstLine.{OneAnswer, not_refused, line_size}
use Rattle.tmc_tool.proofs.Limits.{front_keeps, script_keeps, shown_keeps}
use Rattle.tmc_tool.proofs.Words.{same_command}

-- the plain instrument gives one answer to a message, and a script is not both shown, or replayed, and refused
pub record Laws : Type 0 where
  pub one : OneAnswer
  pub shown : (way : Dir) (source text : List ℕ) (number : ℕ) (what : LineWhat) → showing.ShownOf way source text → showing.IsRefused way source number what → ⊥
  pub replayed : (source : List ℕ) (script : Script) (number : ℕ) (what : LineWhat) → IsEventScript source script → IsRefusedEvent source number what → ⊥

-- bytes are not both taken and refused
not_both : Laws → (command : Command) (bytes : List ℕ) (line : ℕ) (what : LineWhat) → Takes command bytes → Refuses command bytes line what → ⊥
not_both laws (Ask limit) bytes line what takes refused = not_refused laws.one bytes takes.0 line what takes.1 refused
not_both laws Replay bytes line what takes refused = laws.replayed bytes takes.0 line what takes.1 refused
not_both laws (Show way) bytes line what takes refused = laws.shown way bytes takes.0 line what takes.1 refused

-- bytes of which a text is made are taken
takes_made : (command : Command) (bytes text : List ℕ) → Makes command bytes text → Takes command bytes
takes_made (Ask limit) bytes text made = (made.message, made.question)
takes_made Replay bytes text made = (made.script, made.is)
takes_made (Show way) bytes text made = (text, made)

-- a source that tells what it had, and was read to its end, gave all of it
all_read : (bytes first : List ℕ) (before after : Option (List ℕ)) → before ≡ Some bytes → GivesFirst first before after → HasEnded after → bytes ≡ first
all_read bytes first before after told gives ended =
    let parts : GivesFirst first (Some bytes) after = subst (λ o. GivesFirst first o after) told gives in
    let gone : HasEnded (Some parts.0) = subst HasEnded parts.2 ended in
    parts.1 ∙ (ap (λ xs. first ++ xs) gone ∙ append-nil first)

not_shorter : (bytes first : List ℕ) (before after : Option (List ℕ)) → before ≡ Some bytes → GivesFirst first before after → length first ≤ length bytes
not_shorter bytes first before after told gives =
    let parts : GivesFirst first (Some bytes) after = subst (λ o. GivesFirst first o after) told gives in
    omega (arith, ap length parts.1, length-append first parts.0)

-- the first bytes of a source keep the limits that all of it keeps
front_in : (bytes first : List ℕ) (before after : Option (List ℕ)) → before ≡ Some bytes → GivesFirst first before after → KeepsLimits bytes → KeepsLimits first
front_in bytes first before after told gives keeps =
    let parts : GivesFirst first (Some bytes) after = subst (λ o. GivesFirst first o after) told gives in
    front_keeps first parts.0 (subst KeepsLimits parts.1 keeps)

-- where enough was read to refuse bytes that are taken, it was all of them
enough_read : (reads : Last → List ℕ → Type 0) (command : Command) (bytes first : List ℕ) (before after : Outside) → before.left ≡ Some bytes → ReadsEnough reads command first before after
    → Takes command bytes → bytes ≡ first
enough_read reads (Ask limit) bytes first before after told read takes =
    ⊎_elim
    (λ ended. all_read bytes first before.left after.left told read.first ended.0)
    (λ long. absurd (omega (arith, long.0, not_shorter bytes first before.left after.left told read.first, line_size bytes takes.0 takes.1.line, takes.1.asked.short)))
    read.enough
enough_read reads Replay bytes first before after told read takes =
    ⊎_elim
    (λ ended. all_read bytes first before.left after.left told read.first ended.0)
    (λ passed. absurd (passed.0 (front_in bytes first before.left after.left told read.first (script_keeps bytes takes.0 takes.1))))
    read.enough
enough_read reads (Show way) bytes first before after told read takes =
    ⊎_elim
    (λ ended. all_read bytes first before.left after.left told read.first ended.0)
    (λ passed. absurd (passed.0 (front_in bytes first before.left after.left told read.first (shown_keeps way bytes takes.0 takes.1))))
    read.enough

pub ends_usage : (reads : Last → List ℕ → Type 0) (writes : Bool → List ℕ → Type 0) (words : List (List ℕ)) (status : Status) (before after : Outside) → Ends reads writes words status before after
    → (IsCommand words → ⊥) → (Rose before.write_faults after.write_faults → ⊥) → code_of status ≡ 1
ends_usage reads writes words Printed before after e others calm = absurd (others (e.1.0, e.1.1))
ends_usage reads writes words Usage before after e others calm = refl
ends_usage reads writes words Refused before after e others calm = absurd (others (e.1.0, e.1.1))
ends_usage reads writes words SourceFault before after e others calm = absurd (others (e.0.0, e.0.1))
ends_usage reads writes words SinkFault before after e others calm = absurd (calm e.0)
ends_usage reads writes words NoMemory before after e others calm =
    absurd (⊎_elim (λ some. others (some.0, some.1)) (λ some. others (some.0, some.1)) e.0)

pub ends_refused : Laws → (reads : Last → List ℕ → Type 0) (writes : Bool → List ℕ → Type 0) (words : List (List ℕ)) (command : Command) (status : Status) (before after : Outside) (bytes : List ℕ) (line : ℕ) (what : LineWhat)
    → Ends reads writes words status before after → Names words command → before.left ≡ Some bytes → Refuses command bytes line what
    → (Rose before.read_faults after.read_faults → ⊥) → (Rose before.write_faults after.write_faults → ⊥) → (code_of status ≡ 2) ⊎ (code_of status ≡ 5)
ends_refused laws reads writes words command Printed before after bytes line what e named told refused calm_source calm_sink =
    let due = e.1 in
    let same : due.0 ≡ command = same_command words due.0 command due.1 named in
    let whole : bytes ≡ due.2 = all_read bytes due.2 before.left after.left told due.3.first due.3.ended in
    let made : Makes command due.2 e.0 = subst (λ c. Makes c due.2 e.0) same due.4 in
    absurd (not_both laws command due.2 line what (takes_made command due.2 e.0 made) (subst (λ bs. Refuses command bs line what) whole refused))
ends_refused laws reads writes words command Usage before after bytes line what e named told refused calm_source calm_sink = absurd (e.1.0 (command, named))
ends_refused laws reads writes words command Refused before after bytes line what e named told refused calm_source calm_sink = inl refl
ends_refused laws reads writes words command SourceFault before after bytes line what e named told refused calm_source calm_sink = absurd (calm_source e.1)
ends_refused laws reads writes words command SinkFault before after bytes line what e named told refused calm_source calm_sink = absurd (calm_sink e.0)
ends_refused laws reads writes words command NoMemory before after bytes line what e named told refused calm_source calm_sink = inr refl

pub ends_printed : Laws → (reads : Last → List ℕ → Type 0) (writes : Bool → List ℕ → Type 0) (words : List (List ℕ)) (command : Command) (status : Status) (before after : Outside) (bytes : List ℕ)
    → Ends reads writes words status before after → Names words command → before.left ≡ Some bytes → Takes command bytes
    → (Rose before.read_faults after.read_faults → ⊥) → (Rose before.write_faults after.write_faults → ⊥) → (code_of status ≡ 0) ⊎ (code_of status ≡ 5)
ends_printed laws reads writes words command Printed before after bytes e named told takes calm_source calm_sink = inl refl
ends_printed laws reads writes words command Usage before after bytes e named told takes calm_source calm_sink = absurd (e.1.0 (command, named))
ends_printed laws reads writes words command Refused before after bytes e named told takes calm_source calm_sink =
    let due = e.1 in
    let same : due.0 ≡ command = same_command words due.0 command due.1 named in
    let read : ReadsEnough reads command due.2 before after = subst (λ c. ReadsEnough reads c due.2 before after) same due.5 in
    let whole : bytes ≡ due.2 = enough_read reads command bytes due.2 before after told read takes in
    let refused : Refuses command due.2 due.3 due.4 = subst (λ c. Refuses c due.2 due.3 due.4) same due.6 in
    absurd (not_both laws command bytes due.3 due.4 takes (subst (λ bs. Refuses command bs due.3 due.4) (sym whole) refused))
ends_printed laws reads writes words command SourceFault before after bytes e named told takes calm_source calm_sink = absurd (calm_source e.1)
ends_printed laws reads writes words command SinkFault before after bytes e named told takes calm_source calm_sink = absurd (calm_sink e.0)
ends_printed laws reads writes words command NoMemory before after bytes e named told takes calm_source calm_sink = inr refl

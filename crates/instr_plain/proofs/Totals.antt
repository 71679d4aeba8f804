-- each message is executed, and its response is short
use Rattle.std.proofs.Common.{◌≡◌, ◌⊎◌, inl, inr, ◌∙◌, ℕ, ◌≤◌, Bool, true, false, ◌&&◌, nat_le, List, [], ◌∷◌, ◌++◌, length, Option, Some, None, refl, ap, sym, arith, length-drop}
use Rattle.std.specs.Prelude.{codes, if◌then◌else◌}
use Rattle.std.specs.Str.{bytes_eq}
use Rattle.std.proofs.lemmas.Option.{same_Some}
use Rattle.std.proofs.lemmas.Bool.Decides.{nat_tests}
use Rattle.std.proofs.lemmas.Slice.Eq.{bytes_eq-Decides}
use Rattle.ieee_syntax.specs.declared.nrf.Nrf.{Nrf}
use Rattle.ieee_syntax.specs.declared.unit.Unit.{Unit}
use Rattle.ieee_syntax.specs.Program.{Program, FaultAt}
use Rattle.instr_plain.specs.declared.plain.Plain.{Plain}
use Rattle.instr_plain.specs.declared.answer.Answer.{Answer}
use Rattle.instr_plain.specs.declared.header.Header.{Header}
use Rattle.instr_plain.specs.declared.header.Header.TheVariants.{Cls, Ese, Esr, Idn, Opc, Rst, Sre, Stb, Tst, Wai, Trg, Conf, Read, Rl}
use Rattle.instr_plain.specs.declared.command.Command.{Command}
use Rattle.instr_plain.specs.declared.log.LogEntry.{LogEntry}
use Rattle.instr_plain.specs.declared.log.LogEntry.TheVariants.{Exec as exec_entry, Took, Interrupt, Bare, Trigger, Poll, Clear, Remote}
use Rattle.instr_plain.specs.Command.{unit_of, is_query, IsUnknown}
use Rattle.instr_plain.specs.Header.{text_of, plain_of, numbered_of}
use Rattle.instr_plain.specs.Status.{command_error}
use Rattle.instr_plain.specs.Outcome.{outcome_of}
use Rattle.instr_plain.specs.Answer.{bytes_of}
use Rattle.instr_plain.specs.Exec.{Progress, Executes, Exec, begun, performed, told, answered, with_error, some_stand, response_of, response_most}
use Rattle.instr_plain.specs.Standing.{Standing}
use Rattle.instr_plain.specs.Log.{After, Follows, judged}
use Rattle.instr_plain.proofs.Commands.{found, found-text_of, chosen, unknown_header, unknown_unit}

-- ---- a unit is a command or unknown

same_bytes : (a b : List ℕ) → bytes_eq a b ≡ true → a ≡ b
same_bytes a b e = (bytes_eq-Decides a b).0 e

one_is : (bytes text : List ℕ) (h header : Header) (rest : Option Header) (same : Bool) → bytes_eq bytes text ≡ same → text ≡ text_of h → (rest ≡ Some header → bytes ≡ text_of header)
    → (if same then Some h else rest) ≡ Some header → bytes ≡ text_of header
one_is bytes text h header rest true e is later found = same_bytes bytes text e ∙ is ∙ ap text_of (same_Some h header found)
one_is bytes text h header rest false e is later found = later found

-- where nothing is found the bytes are no header, and what is found is theirs
pub named : (bytes : List ℕ) (header : Header) → found bytes ≡ Some header → bytes ≡ text_of header
named bytes header =
    one_is bytes (codes "*CLS") Cls header _ _ refl refl (one_is bytes (codes "*ESE") Ese header _ _ refl refl (
    one_is bytes (codes "*ESR") Esr header _ _ refl refl (one_is bytes (codes "*IDN") Idn header _ _ refl refl (
    one_is bytes (codes "*OPC") Opc header _ _ refl refl (one_is bytes (codes "*RST") Rst header _ _ refl refl (
    one_is bytes (codes "*SRE") Sre header _ _ refl refl (one_is bytes (codes "*STB") Stb header _ _ refl refl (
    one_is bytes (codes "*TST") Tst header _ _ refl refl (one_is bytes (codes "*WAI") Wai header _ _ refl refl (
    one_is bytes (codes "*TRG") Trg header _ _ refl refl (one_is bytes (codes "CONF") Conf header _ _ refl refl (
    one_is bytes (codes "READ") Read header _ _ refl refl (one_is bytes (codes "RL") Rl header _ _ refl refl (λ e. cc))))))))))))))

none_named : (unit : Unit) → found unit.head ≡ None → (header : Header) → unit.head ≡ text_of header → ⊥
none_named unit none header e = let finds : found unit.head ≡ Some header = ap found e ∙ found-text_of header in cc

-- the command that is chosen has the header and the numbers
plain_unit : (header : Header) (query : Bool) (command : Command) → plain_of header query ≡ Some command → unit_of command ≡ record { head = text_of header; query = query; args = [] }
plain_unit Cls true command e = cc
plain_unit Cls false command e = ap unit_of (sym (same_Some _ command e))
plain_unit Ese true command e = ap unit_of (sym (same_Some _ command e))
plain_unit Ese false command e = cc
plain_unit Esr true command e = ap unit_of (sym (same_Some _ command e))
plain_unit Esr false command e = cc
plain_unit Idn true command e = ap unit_of (sym (same_Some _ command e))
plain_unit Idn false command e = cc
plain_unit Opc true command e = ap unit_of (sym (same_Some _ command e))
plain_unit Opc false command e = ap unit_of (sym (same_Some _ command e))
plain_unit Rst true command e = cc
plain_unit Rst false command e = ap unit_of (sym (same_Some _ command e))
plain_unit Sre true command e = ap unit_of (sym (same_Some _ command e))
plain_unit Sre false command e = cc
plain_unit Stb true command e = ap unit_of (sym (same_Some _ command e))
plain_unit Stb false command e = cc
plain_unit Tst true command e = ap unit_of (sym (same_Some _ command e))
plain_unit Tst false command e = cc
plain_unit Wai true command e = cc
plain_unit Wai false command e = ap unit_of (sym (same_Some _ command e))
plain_unit Trg true command e = cc
plain_unit Trg false command e = ap unit_of (sym (same_Some _ command e))
plain_unit Conf true command e = ap unit_of (sym (same_Some _ command e))
plain_unit Conf false command e = cc
plain_unit Read true command e = cc
plain_unit Read false command e = cc
plain_unit Rl true command e = ap unit_of (sym (same_Some _ command e))
plain_unit Rl false command e = cc

numbered_unit : (header : Header) (query : Bool) (n : Nrf) (command : Command) → numbered_of header query n ≡ Some command → unit_of command ≡ record { head = text_of header; query = query; args = n ∷ [] }
numbered_unit Cls true n command e = cc
numbered_unit Cls false n command e = cc
numbered_unit Ese true n command e = cc
numbered_unit Ese false n command e = ap unit_of (sym (same_Some _ command e))
numbered_unit Esr true n command e = cc
numbered_unit Esr false n command e = cc
numbered_unit Idn true n command e = cc
numbered_unit Idn false n command e = cc
numbered_unit Opc true n command e = cc
numbered_unit Opc false n command e = cc
numbered_unit Rst true n command e = cc
numbered_unit Rst false n command e = cc
numbered_unit Sre true n command e = cc
numbered_unit Sre false n command e = ap unit_of (sym (same_Some _ command e))
numbered_unit Stb true n command e = cc
numbered_unit Stb false n command e = cc
numbered_unit Tst true n command e = cc
numbered_unit Tst false n command e = cc
numbered_unit Wai true n command e = cc
numbered_unit Wai false n command e = cc
numbered_unit Trg true n command e = cc
numbered_unit Trg false n command e = cc
numbered_unit Conf true n command e = cc
numbered_unit Conf false n command e = ap unit_of (sym (same_Some _ command e))
numbered_unit Read true n command e = ap unit_of (sym (same_Some _ command e))
numbered_unit Read false n command e = cc
numbered_unit Rl true n command e = cc
numbered_unit Rl false n command e = cc

chosen_unit : (header : Header) (query : Bool) (args : List Nrf) (command : Command) → chosen header query args ≡ Some command → unit_of command ≡ record { head = text_of header; query = query; args = args }
chosen_unit header query [] command e = plain_unit header query command e
chosen_unit header query (n ∷ []) command e = numbered_unit header query n command e
chosen_unit header query (n ∷ m ∷ ns) command e = cc

-- a unit is known or not
abbrev pub Known : Unit → Type 0
Known unit = ((command : Command) × (unit ≡ unit_of command)) ⊎ IsUnknown unit

with_header : (unit : Unit) (header : Header) (o : Option Command) → unit.head ≡ text_of header → chosen header unit.query unit.args ≡ o → Known unit
with_header unit header None e none = inr (unknown_unit unit header e none)
with_header unit header (Some command) e some =
    inl (command, ap (λ (head : List ℕ). record { head = head; query = unit.query; args = unit.args }) e ∙ sym (chosen_unit header unit.query unit.args command some))

by_header : (unit : Unit) (o : Option Header) → found unit.head ≡ o → Known unit
by_header unit None e = inr (unknown_header unit (none_named unit e))
by_header unit (Some header) e = with_header unit header (chosen header unit.query unit.args) (named unit.head header e) refl

pub known : (unit : Unit) → Known unit
known unit = by_header unit (found unit.head) refl

-- ---- units are executed

pub executes_all : (before : Progress) (units : List Unit) → (after : Progress) × Executes before units after
executes_all before [] = (before, refl)
executes_all before (unit ∷ units) =
    elim (known unit) [
      | inl h ↦ (let rest = executes_all (performed h.0 before) units in (rest.0, inl (h.0, h.1, rest.1)))
      | inr unknown ↦ (with_error command_error before, inr (unknown, refl))
    ]

-- what the grammar promises
abbrev pub AMessageOrAFault : Type 0
AMessageOrAFault = (bytes : List ℕ) → ((us : List Unit) × Program bytes us) ⊎ ((place : ℕ) × FaultAt bytes place)

pub executed : AMessageOrAFault → (before : Plain) (message : List ℕ) → (after : Plain) × (response : List ℕ) × Exec before message after response
executed either before message =
    elim (either message) [
      | inl h ↦
          (let end = executes_all (begun before) h.0 in (
            end.0.state,
            response_of end.0.answers,
            inl (record { units = h.0; end = end.0; program = h.1; executes = end.1; leaves = refl; answers = refl }),
          ))
      | inr h ↦ (_, [], inr (record { none = h.1.none; leaves = refl; silent = refl }))
    ]

-- ---- a response is short

abbrev IsShort : Progress → Type 0
IsShort progress = length (response_of progress.answers) ≤ response_most

if_keeps : (b : Bool) (p q : Progress) → (b ≡ true → IsShort p) → (b ≡ false → IsShort q) → IsShort (if b then p else q)
if_keeps true p q h k = h refl
if_keeps false p q h k = k refl

at_most : (a b : ℕ) → nat_le a b ≡ true → a ≤ b
at_most a b e = grind (arith, nat_tests)

answered_short : (bytes : List ℕ) (progress : Progress) → IsShort progress → IsShort (answered bytes progress)
answered_short bytes progress h =
    if_keeps progress.dropped progress _ (λ _. h)
    (λ _. if_keeps (nat_le (length (response_of (progress.answers ++ bytes ∷ []))) response_most) _ _ (λ e. at_most _ _ e) (λ _. omega arith))

told_short : (answer : Option Answer) (progress : Progress) → IsShort progress → IsShort (told answer progress)
told_short None progress h = h
told_short (Some answer) progress h = answered_short (bytes_of answer) _ h

performed_short : (command : Command) (progress : Progress) → IsShort progress → IsShort (performed command progress)
performed_short command progress h =
    if_keeps (is_query command && progress.ended) _ _ (λ _. h)
    (λ _. told_short (outcome_of command (some_stand progress.answers) progress.state).answer _ h)

executes_short : (before : Progress) (units : List Unit) (after : Progress) → Executes before units after → IsShort before → IsShort after
executes_short before [] after e h = rw e h
executes_short before (unit ∷ units) after (inl e) h = executes_short (performed e.0 before) units after e.2 (performed_short e.0 before h)
executes_short before (unit ∷ units) after (inr e) h = rw e.1 h

pub short : (before after : Plain) (message response : List ℕ) → Exec before message after response → length response ≤ response_most
short before after message response (inl e) = rw e.answers (executes_short (begun before) e.units e.end e.executes (omega arith))
short before after message response (inr e) = rw e.silent (omega arith)

-- ---- entries

pub leads_on : ((before : Plain) (message : List ℕ) → (after : Plain) × (response : List ℕ) × Exec before message after response)
    → (before : Standing) (entry : LogEntry) → (after : Standing) × After before entry after
leads_on each before (exec_entry seq message) = let e = each before.state message in (judged before e.0 e.1 before.rqs, (e.2, refl))
leads_on each before (Took n) = (_, refl)
leads_on each before Interrupt = (_, refl)
leads_on each before Bare = (_, refl)
leads_on each before (Trigger seq) = (_, refl)
leads_on each before (Poll seq) = (_, refl)
leads_on each before Clear = (_, refl)
leads_on each before (Remote act) = (_, refl)

abbrev unread_short : Standing → Type 0
unread_short standing = length standing.unread ≤ response_most

pub stays_short : (before after : Standing) (entry : LogEntry) → length before.unread ≤ response_most → After before entry after → length after.unread ≤ response_most
stays_short before after (exec_entry seq message) h e = short before.state after.state message after.unread e.0
stays_short before after (Took n) h e = rw e (omega (arith, length-drop n before.unread))
stays_short before after Interrupt h e = rw e (omega arith)
stays_short before after Bare h e = rw e h
stays_short before after (Trigger seq) h e = rw e h
stays_short before after (Poll seq) h e = rw e h
stays_short before after Clear h e = rw e (omega arith)
stays_short before after (Remote act) h e = rw e h

pub follows_short : (log : List LogEntry) (before after : Standing) → length before.unread ≤ response_most → Follows before log after → length after.unread ≤ response_most
follows_short [] before after h e = rw e h
follows_short (entry ∷ log) before after h (mid, e, more) = follows_short log mid after (stays_short before mid entry h e) more

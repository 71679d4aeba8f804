-- a unit is at most one command
use Rattle.std.proofs.Common.{◌≡◌, ◌∙◌, ℕ, Bool, List, [], ◌∷◌, Option, Some, None, ap, sym, refl}
use Rattle.std.specs.Prelude.{codes, if◌then◌else◌, option_and_then}
use Rattle.std.specs.Str.{bytes_eq}
use Rattle.std.proofs.lemmas.Option.{same_Some}
use Rattle.ieee_syntax.specs.declared.nrf.Nrf.{Nrf}
use Rattle.ieee_syntax.specs.declared.unit.Unit.{Unit}
use Rattle.instr_plain.specs.declared.header.Header.{Header}
use Rattle.instr_plain.specs.declared.header.Header.TheVariants.{Cls, Ese, Esr, Idn, Opc, Rst, Sre, Stb, Tst, Wai, Trg, Conf, Read, Rl}
use Rattle.instr_plain.specs.declared.command.Command.{Command}
use Rattle.instr_plain.specs.declared.command.Command.TheVariants.{ClearStatus, EventEnable, EventEnableQuery, EventStatusQuery, IdentificationQuery, OperationComplete, OperationCompleteQuery, Reset, ServiceEnable, ServiceEnableQuery, StatusByteQuery, SelfTestQuery, Wait, Trigger, Configure, ConfigureQuery, ReadQuery, RemoteQuery}
use Rattle.instr_plain.specs.Command.{unit_of, IsUnknown}
use Rattle.instr_plain.specs.Header.{text_of, plain_of, numbered_of}

-- the header that bytes are
abbrev pub found : List ℕ → Option Header
found bytes =
    if bytes_eq bytes (codes "*CLS") then Some Cls else if bytes_eq bytes (codes "*ESE") then Some Ese
    else if bytes_eq bytes (codes "*ESR") then Some Esr else if bytes_eq bytes (codes "*IDN") then Some Idn
    else if bytes_eq bytes (codes "*OPC") then Some Opc else if bytes_eq bytes (codes "*RST") then Some Rst
    else if bytes_eq bytes (codes "*SRE") then Some Sre else if bytes_eq bytes (codes "*STB") then Some Stb
    else if bytes_eq bytes (codes "*TST") then Some Tst else if bytes_eq bytes (codes "*WAI") then Some Wai
    else if bytes_eq bytes (codes "*TRG") then Some Trg else if bytes_eq bytes (codes "CONF") then Some Conf
    else if bytes_eq bytes (codes "READ") then Some Read else if bytes_eq bytes (codes "RL") then Some Rl
    else None

pub found-text_of : (header : Header) → found (text_of header) ≡ Some header
found-text_of Cls = refl
found-text_of Ese = refl
found-text_of Esr = refl
found-text_of Idn = refl
found-text_of Opc = refl
found-text_of Rst = refl
found-text_of Sre = refl
found-text_of Stb = refl
found-text_of Tst = refl
found-text_of Wai = refl
found-text_of Trg = refl
found-text_of Conf = refl
found-text_of Read = refl
found-text_of Rl = refl

-- the command of a header, by its numbers
abbrev pub chosen : Header → Bool → List Nrf → Option Command
chosen header query [] = plain_of header query
chosen header query (n ∷ []) = numbered_of header query n
chosen header query (n ∷ m ∷ ns) = None

abbrev pub decoded : Unit → Option Command
decoded unit = option_and_then (λ header. chosen header unit.query unit.args) (found unit.head)

pub decoded-unit_of : (command : Command) → decoded (unit_of command) ≡ Some command
decoded-unit_of ClearStatus = refl
decoded-unit_of (EventEnable n) = refl
decoded-unit_of EventEnableQuery = refl
decoded-unit_of EventStatusQuery = refl
decoded-unit_of IdentificationQuery = refl
decoded-unit_of OperationComplete = refl
decoded-unit_of OperationCompleteQuery = refl
decoded-unit_of Reset = refl
decoded-unit_of (ServiceEnable n) = refl
decoded-unit_of ServiceEnableQuery = refl
decoded-unit_of StatusByteQuery = refl
decoded-unit_of SelfTestQuery = refl
decoded-unit_of Wait = refl
decoded-unit_of Trigger = refl
decoded-unit_of (Configure n) = refl
decoded-unit_of ConfigureQuery = refl
decoded-unit_of (ReadQuery n) = refl
decoded-unit_of RemoteQuery = refl

-- the header of a command
abbrev pub header_of : Command → Header
header_of ClearStatus = Cls
header_of (EventEnable n) = Ese
header_of EventEnableQuery = Ese
header_of EventStatusQuery = Esr
header_of IdentificationQuery = Idn
header_of OperationComplete = Opc
header_of OperationCompleteQuery = Opc
header_of Reset = Rst
header_of (ServiceEnable n) = Sre
header_of ServiceEnableQuery = Sre
header_of StatusByteQuery = Stb
header_of SelfTestQuery = Tst
header_of Wait = Wai
header_of Trigger = Trg
header_of (Configure n) = Conf
header_of ConfigureQuery = Conf
header_of (ReadQuery n) = Read
header_of RemoteQuery = Rl

pub head-unit_of : (command : Command) → (unit_of command).head ≡ text_of (header_of command)
head-unit_of ClearStatus = refl
head-unit_of (EventEnable n) = refl
head-unit_of EventEnableQuery = refl
head-unit_of EventStatusQuery = refl
head-unit_of IdentificationQuery = refl
head-unit_of OperationComplete = refl
head-unit_of OperationCompleteQuery = refl
head-unit_of Reset = refl
head-unit_of (ServiceEnable n) = refl
head-unit_of ServiceEnableQuery = refl
head-unit_of StatusByteQuery = refl
head-unit_of SelfTestQuery = refl
head-unit_of Wait = refl
head-unit_of Trigger = refl
head-unit_of (Configure n) = refl
head-unit_of ConfigureQuery = refl
head-unit_of (ReadQuery n) = refl
head-unit_of RemoteQuery = refl

-- a header of none of the commands
pub unknown_header : (unit : Unit) → ((header : Header) → unit.head ≡ text_of header → ⊥) → IsUnknown unit
unknown_header unit none = λ command e. none (header_of command) (ap (λ (u : Unit). u.head) e ∙ head-unit_of command)

-- nothing is chosen for the header and the numbers
pub unknown_unit : (unit : Unit) (header : Header) → unit.head ≡ text_of header → chosen header unit.query unit.args ≡ None → IsUnknown unit
unknown_unit unit header named none = λ command e.
    let finds : found unit.head ≡ Some header = ap found named ∙ found-text_of header in
    let reads : decoded unit ≡ None = ap (λ o. option_and_then (λ header. chosen header unit.query unit.args) o) finds ∙ none in
    let means : decoded unit ≡ Some command = ap decoded e ∙ decoded-unit_of command in
    cc

-- a unit is one command
pub one_command : (unit : Unit) (command other : Command) → unit ≡ unit_of command → unit ≡ unit_of other → command ≡ other
one_command unit command other e f =
    same_Some command other (sym (decoded-unit_of command) ∙ ap decoded (sym e ∙ f) ∙ decoded-unit_of other)

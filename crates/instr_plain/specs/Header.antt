-- the headers of the instrument's commands, and how the code finds a command by header and numbers
use Rattle.std.specs.Prelude.{ℕ, Bool, true, false, Option, Some, None, List, codes}
use Rattle.ieee_syntax.specs.declared.nrf.Nrf.{Nrf}
use Rattle.instr_plain.specs.declared.header.Header.{Header}
use Rattle.instr_plain.specs.declared.header.Header.TheVariants.{Cls, Ese, Esr, Idn, Opc, Rst, Sre, Stb, Tst, Wai, Trg, Conf, Read, Rl}
use Rattle.instr_plain.specs.declared.command.Command.{Command}
use Rattle.instr_plain.specs.declared.command.Command.TheVariants.{ClearStatus, EventEnable, EventEnableQuery, EventStatusQuery, IdentificationQuery, OperationComplete, OperationCompleteQuery, Reset, ServiceEnable, ServiceEnableQuery, StatusByteQuery, SelfTestQuery, Wait, Trigger, Configure, ConfigureQuery, ReadQuery, RemoteQuery}

-- a header as it is written
abbrev pub text_of : Header → List ℕ
text_of Cls = codes "*CLS"
text_of Ese = codes "*ESE"
text_of Esr = codes "*ESR"
text_of Idn = codes "*IDN"
text_of Opc = codes "*OPC"
text_of Rst = codes "*RST"
text_of Sre = codes "*SRE"
text_of Stb = codes "*STB"
text_of Tst = codes "*TST"
text_of Wai = codes "*WAI"
text_of Trg = codes "*TRG"
text_of Conf = codes "CONF"
text_of Read = codes "READ"
text_of Rl = codes "RL"

-- the command of a header with no number
abbrev pub plain_of : Header → (query : Bool) → Option Command
plain_of Cls false = Some ClearStatus
plain_of Ese true = Some EventEnableQuery
plain_of Esr true = Some EventStatusQuery
plain_of Idn true = Some IdentificationQuery
plain_of Opc false = Some OperationComplete
plain_of Opc true = Some OperationCompleteQuery
plain_of Rst false = Some Reset
plain_of Sre true = Some ServiceEnableQuery
plain_of Stb true = Some StatusByteQuery
plain_of Tst true = Some SelfTestQuery
plain_of Wai false = Some Wait
plain_of Trg false = Some Trigger
plain_of Conf true = Some ConfigureQuery
plain_of Rl true = Some RemoteQuery
plain_of _ _ = None

-- the command of a header with one number
abbrev pub numbered_of : Header → (query : Bool) → Nrf → Option Command
numbered_of Ese false number = Some (EventEnable number)
numbered_of Sre false number = Some (ServiceEnable number)
numbered_of Conf false number = Some (Configure number)
numbered_of Read true number = Some (ReadQuery number)
numbered_of _ _ number = None

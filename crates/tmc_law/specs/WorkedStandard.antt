-- standard requests that ask, and those that set what is set already, which end all halts
use Rattle.std.specs.Prelude.{ℕ, List, [], ◌∷◌, ◌++◌}
use Rattle.usbip_wire.specs.declared.submit.SubmitHead.{SubmitHead}
use Rattle.tmc_law.specs.Endpoint.{BulkOut, BulkIn, InterruptIn}
use Rattle.tmc_law.specs.Put.{success}
use Rattle.tmc_law.specs.Step.{Answer, Halt}
use Rattle.tmc_law.specs.Run.{Entry}
use Rattle.tmc_law.specs.WorkedSession.{asking_submit, telling_submit, submits, step, answered}

-- a control submit, and its answer with so many bytes
abbrev pub asked : SubmitHead → (actual : ℕ) → (transferred : List ℕ) → List Entry
asked head actual transferred = submits head [] ∷ step Answer (answered head success actual transferred ∷ []) ∷ []

-- GET_STATUS of the device, which is self-powered
abbrev pub device_submit : SubmitHead
device_submit = asking_submit 1 2 (0x80 ∷ 0x00 ∷ 0x00 ∷ 0x00 ∷ 0x00 ∷ 0x00 ∷ 0x02 ∷ 0x00 ∷ [])

abbrev pub asking_device : List Entry
asking_device = asked device_submit 2 (0x01 ∷ 0x00 ∷ [])

-- GET_STATUS of the interface
abbrev pub interface_submit : SubmitHead
interface_submit = asking_submit 1 2 (0x81 ∷ 0x00 ∷ 0x00 ∷ 0x00 ∷ 0x00 ∷ 0x00 ∷ 0x02 ∷ 0x00 ∷ [])

abbrev pub asking_interface : List Entry
asking_interface = asked interface_submit 2 (0x00 ∷ 0x00 ∷ [])

-- GET_DESCRIPTOR of the configuration, with its interface and its endpoints
abbrev pub configuration_submit : SubmitHead
configuration_submit = asking_submit 1 39 (0x80 ∷ 0x06 ∷ 0x00 ∷ 0x02 ∷ 0x00 ∷ 0x00 ∷ 0x27 ∷ 0x00 ∷ [])

abbrev pub asking_configuration : List Entry
asking_configuration =
    asked configuration_submit 39
    (0x09 ∷ 0x02 ∷ 0x27 ∷ 0x00 ∷ 0x01 ∷ 0x01 ∷ 0x00 ∷ 0xc0 ∷ 0x00
    ∷ 0x09 ∷ 0x04 ∷ 0x00 ∷ 0x00 ∷ 0x03 ∷ 0xfe ∷ 0x03 ∷ 0x01 ∷ 0x00
    ∷ 0x07 ∷ 0x05 ∷ 0x01 ∷ 0x02 ∷ 0x40 ∷ 0x00 ∷ 0x00
    ∷ 0x07 ∷ 0x05 ∷ 0x82 ∷ 0x02 ∷ 0x40 ∷ 0x00 ∷ 0x00
    ∷ 0x07 ∷ 0x05 ∷ 0x83 ∷ 0x03 ∷ 0x08 ∷ 0x00 ∷ 0x0a ∷ [])

-- GET_DESCRIPTOR of string 0, the list of languages
abbrev pub languages_submit : SubmitHead
languages_submit = asking_submit 1 4 (0x80 ∷ 0x06 ∷ 0x00 ∷ 0x03 ∷ 0x00 ∷ 0x00 ∷ 0x04 ∷ 0x00 ∷ [])

abbrev pub asking_languages : List Entry
asking_languages = asked languages_submit 4 (0x04 ∷ 0x03 ∷ 0x09 ∷ 0x04 ∷ [])

-- of string 1, `EXAMPLE`, which is shorter than the 255 bytes that are wanted
abbrev pub maker_submit : SubmitHead
maker_submit = asking_submit 1 255 (0x80 ∷ 0x06 ∷ 0x01 ∷ 0x03 ∷ 0x09 ∷ 0x04 ∷ 0xff ∷ 0x00 ∷ [])

abbrev pub asking_maker : List Entry
asking_maker =
    asked maker_submit 16
    (0x10 ∷ 0x03 ∷ 0x45 ∷ 0x00 ∷ 0x58 ∷ 0x00 ∷ 0x41 ∷ 0x00 ∷ 0x4d ∷ 0x00 ∷ 0x50 ∷ 0x00 ∷ 0x4c ∷ 0x00 ∷ 0x45 ∷ 0x00 ∷ [])

-- of string 2, `TMC1`, of whose 10 bytes the setup wants 4
abbrev pub product_submit : SubmitHead
product_submit = asking_submit 1 255 (0x80 ∷ 0x06 ∷ 0x02 ∷ 0x03 ∷ 0x09 ∷ 0x04 ∷ 0x04 ∷ 0x00 ∷ [])

abbrev pub asking_product : List Entry
asking_product = asked product_submit 4 (0x0a ∷ 0x03 ∷ 0x54 ∷ 0x00 ∷ [])

-- GET_CONFIGURATION
abbrev pub configured_submit : SubmitHead
configured_submit = asking_submit 1 1 (0x80 ∷ 0x08 ∷ 0x00 ∷ 0x00 ∷ 0x00 ∷ 0x00 ∷ 0x01 ∷ 0x00 ∷ [])

abbrev pub asking_configured : List Entry
asking_configured = asked configured_submit 1 (0x01 ∷ [])

-- GET_INTERFACE
abbrev pub alternate_submit : SubmitHead
alternate_submit = asking_submit 1 1 (0x81 ∷ 0x0a ∷ 0x00 ∷ 0x00 ∷ 0x00 ∷ 0x00 ∷ 0x01 ∷ 0x00 ∷ [])

abbrev pub asking_alternate : List Entry
asking_alternate = asked alternate_submit 1 (0x00 ∷ [])

-- GET_STATUS of the endpoints 0, 1 and 3, which are not halted
abbrev pub endpoint_submit : (seqnum address : ℕ) → SubmitHead
endpoint_submit seqnum address = asking_submit seqnum 2 (0x82 ∷ 0x00 ∷ 0x00 ∷ 0x00 ∷ address ∷ 0x00 ∷ 0x02 ∷ 0x00 ∷ [])

abbrev pub asking_endpoint : (address : ℕ) → List Entry
asking_endpoint address = asked (endpoint_submit 1 address) 2 (0x00 ∷ 0x00 ∷ [])

-- the endpoints 1 to 3 halt
abbrev pub halting_all : List Entry
halting_all = step (Halt BulkOut) [] ∷ step (Halt BulkIn) [] ∷ step (Halt InterruptIn) [] ∷ []

-- SET_CONFIGURATION of configuration 1
abbrev pub configure_submit : SubmitHead
configure_submit = telling_submit 1 (0x00 ∷ 0x09 ∷ 0x01 ∷ 0x00 ∷ 0x00 ∷ 0x00 ∷ 0x00 ∷ 0x00 ∷ [])

abbrev pub setting_configuration : List Entry
setting_configuration = halting_all ++ asked configure_submit 0 []

-- SET_INTERFACE of interface 0, alternate setting 0
abbrev pub select_submit : SubmitHead
select_submit = telling_submit 1 (0x01 ∷ 0x0b ∷ 0x00 ∷ 0x00 ∷ 0x00 ∷ 0x00 ∷ 0x00 ∷ 0x00 ∷ [])

abbrev pub setting_interface : List Entry
setting_interface = halting_all ++ asked select_submit 0 []

-- CLEAR_FEATURE of the halt of Interrupt-IN
abbrev pub usable_submit : SubmitHead
usable_submit = telling_submit 2 (0x02 ∷ 0x01 ∷ 0x00 ∷ 0x00 ∷ 0x83 ∷ 0x00 ∷ 0x00 ∷ 0x00 ∷ [])

abbrev pub clearing_interrupt : List Entry
clearing_interrupt = step (Halt InterruptIn) [] ∷ asked (endpoint_submit 1 0x83) 2 (0x01 ∷ 0x00 ∷ []) ++ asked usable_submit 0 []

-- standard requests, step by step
use Rattle.std.proofs.Common.{◌≡◌, ◌≢◌, ℕ, nat_lt, true, false, List, [], ◌∷◌, refl, lit<}
use Rattle.usb_setup.specs.declared.setup.Setup.{Setup}
use Rattle.usbip_wire.specs.declared.submit.SubmitHead.{SubmitHead}
use Rattle.tmc_wire.specs.ControlTable.{fields}
use Rattle.tmc_law.specs.Endpoint.{Control, BulkOut, BulkIn, InterruptIn}
use Rattle.tmc_law.specs.State.{State, start, arrived}
use Rattle.tmc_law.specs.Halts.{DoesHalt}
use Rattle.tmc_law.specs.Control.{Asks, control_answer}
use Rattle.tmc_law.specs.Standard.{Standard, IsStandard, standard_layout, standard_effect, GetDeviceStatus, GetInterfaceStatus, GetEndpointStatus, ClearHalt, GetConfigurationDescriptor, GetString, GetConfiguration, SetConfiguration, GetInterface, SetInterface}
use Rattle.tmc_law.specs.Step.{Answer}
use Rattle.tmc_law.specs.Run.{Runs}
use Rattle.tmc_law.specs.WorkedSession.{asking_submit, submits, step}
use Rattle.tmc_law.specs.WorkedStandard.{asking_device, asking_interface, asking_configuration, asking_languages, asking_maker, asking_product, asking_configured, asking_alternate, halting_all, asked, configure_submit, select_submit, setting_configuration, setting_interface, asking_endpoint, endpoint_submit, usable_submit, clearing_interrupt}
use Rattle.tmc_law.proofs.WorkedJoined.{joined}
use Rattle.tmc_law.proofs.WorkedArrived.{is_submit}
use Rattle.tmc_law.proofs.WorkedComing.{asking_comes, telling_comes}
use Rattle.tmc_law.proofs.WorkedAnswering.{answers_standard}

abbrev came : SubmitHead → State
came head = record start { control = arrived head [] ∷ [] }

-- a request that asks, at power-on
asks : (size request_type : ℕ) (more : List ℕ) (setup : Setup) (request : Standard) → is_submit (asking_submit 1 size (request_type ∷ more)) [] ≡ true → nat_lt request_type 128 ≡ false
    → Asks (arrived (asking_submit 1 size (request_type ∷ more)) []) setup → IsStandard request setup
    → Runs start
    (submits (asking_submit 1 size (request_type ∷ more)) []
    ∷ step Answer (control_answer (arrived (asking_submit 1 size (request_type ∷ more)) []) setup (standard_layout request (came (asking_submit 1 size (request_type ∷ more)))) ∷ [])
    ∷ [])
    (standard_effect request start)
asks size request_type more setup request sent in_way carries is =
    let head = asking_submit 1 size (request_type ∷ more) in (
      came head,
      asking_comes start 1 size request_type more (record { plugged = refl; free = refl; few = refl }) sent in_way,
      (standard_effect request start, answers_standard (came head) (arrived head []) [] setup request refl refl carries is, refl),
    )

pub asks_device : Runs start asking_device start
asks_device = asks 2 0x80 _ (fields 0x80 0 0 0 2) GetDeviceStatus refl refl
    (record { fits = record { request_type = lit< tt; request = lit< tt; value = lit< tt; index = lit< tt; length = lit< tt }; layout = refl })
    (record { request_type = refl; request = refl; value = refl; index = refl })

pub asks_interface : Runs start asking_interface start
asks_interface = asks 2 0x81 _ (fields 0x81 0 0 0 2) GetInterfaceStatus refl refl
    (record { fits = record { request_type = lit< tt; request = lit< tt; value = lit< tt; index = lit< tt; length = lit< tt }; layout = refl })
    (record { request_type = refl; request = refl; value = refl; index = refl })

pub asks_configuration : Runs start asking_configuration start
asks_configuration = asks 39 0x80 _ (fields 0x80 6 0x0200 0 39) GetConfigurationDescriptor refl refl
    (record { fits = record { request_type = lit< tt; request = lit< tt; value = lit< tt; index = lit< tt; length = lit< tt }; layout = refl })
    (record { request_type = refl; request = refl; value = refl; index = refl })

pub asks_languages : Runs start asking_languages start
asks_languages = asks 4 0x80 _ (fields 0x80 6 0x0300 0 4) (GetString 0) refl refl
    (record { fits = record { request_type = lit< tt; request = lit< tt; value = lit< tt; index = lit< tt; length = lit< tt }; layout = refl })
    (lit< tt, record { request_type = refl; request = refl; value = refl; index = refl })

pub asks_maker : Runs start asking_maker start
asks_maker = asks 255 0x80 _ (fields 0x80 6 0x0301 0x0409 255) (GetString 1) refl refl
    (record { fits = record { request_type = lit< tt; request = lit< tt; value = lit< tt; index = lit< tt; length = lit< tt }; layout = refl })
    (lit< tt, record { request_type = refl; request = refl; value = refl; index = refl })

pub asks_product : Runs start asking_product start
asks_product = asks 255 0x80 _ (fields 0x80 6 0x0302 0x0409 4) (GetString 2) refl refl
    (record { fits = record { request_type = lit< tt; request = lit< tt; value = lit< tt; index = lit< tt; length = lit< tt }; layout = refl })
    (lit< tt, record { request_type = refl; request = refl; value = refl; index = refl })

pub asks_configured : Runs start asking_configured start
asks_configured = asks 1 0x80 _ (fields 0x80 8 0 0 1) GetConfiguration refl refl
    (record { fits = record { request_type = lit< tt; request = lit< tt; value = lit< tt; index = lit< tt; length = lit< tt }; layout = refl })
    (record { request_type = refl; request = refl; value = refl; index = refl })

pub asks_alternate : Runs start asking_alternate start
asks_alternate = asks 1 0x81 _ (fields 0x81 10 0 0 1) GetInterface refl refl
    (record { fits = record { request_type = lit< tt; request = lit< tt; value = lit< tt; index = lit< tt; length = lit< tt }; layout = refl })
    (record { request_type = refl; request = refl; value = refl; index = refl })

pub asks_control : Runs start (asking_endpoint 0x00) start
asks_control = asks 2 0x82 _ (fields 0x82 0 0 0x00 2) (GetEndpointStatus Control) refl refl
    (record { fits = record { request_type = lit< tt; request = lit< tt; value = lit< tt; index = lit< tt; length = lit< tt }; layout = refl })
    (record { request_type = refl; request = refl; value = refl; index = refl })

pub asks_bulk_out : Runs start (asking_endpoint 0x01) start
asks_bulk_out = asks 2 0x82 _ (fields 0x82 0 0 0x01 2) (GetEndpointStatus BulkOut) refl refl
    (record { fits = record { request_type = lit< tt; request = lit< tt; value = lit< tt; index = lit< tt; length = lit< tt }; layout = refl })
    (record { request_type = refl; request = refl; value = refl; index = refl })

pub asks_interrupt_in : Runs start (asking_endpoint 0x83) start
asks_interrupt_in = asks 2 0x82 _ (fields 0x82 0 0 0x83 2) (GetEndpointStatus InterruptIn) refl refl
    (record { fits = record { request_type = lit< tt; request = lit< tt; value = lit< tt; index = lit< tt; length = lit< tt }; layout = refl })
    (record { request_type = refl; request = refl; value = refl; index = refl })

-- the endpoints 1 to 3 are halted
abbrev halted : State
halted = record start { halted = record { bulk_out = true; bulk_in = true; interrupt_in = true } }

out_no_control : BulkOut ≢ Control
out_no_control e = cc

in_no_control : BulkIn ≢ Control
in_no_control e = cc

interrupt_no_control : InterruptIn ≢ Control
interrupt_no_control e = cc

halts_all : Runs start halting_all halted
halts_all = (
  record start { halted = record { bulk_out = true; bulk_in = false; interrupt_in = false } },
  record { plugged = refl; leads = DoesHalt out_no_control refl refl refl },
  (
    record start { halted = record { bulk_out = true; bulk_in = true; interrupt_in = false } },
    record { plugged = refl; leads = DoesHalt in_no_control refl refl refl },
    (halted, record { plugged = refl; leads = DoesHalt interrupt_no_control refl refl refl }, refl),
  ),
)

abbrev configure_came : State
configure_came = record halted { control = arrived configure_submit [] ∷ [] }

configure_ends_halts : Runs halted (asked configure_submit 0 []) start
configure_ends_halts = (
  configure_came,
  telling_comes halted 1 0x00 _ (record { plugged = refl; free = refl; few = refl }) refl refl,
  (
    start,
    answers_standard configure_came (arrived configure_submit []) [] (fields 0x00 9 1 0 0) SetConfiguration refl refl
        (record { fits = record { request_type = lit< tt; request = lit< tt; value = lit< tt; index = lit< tt; length = lit< tt }; layout = refl })
        (record { request_type = refl; request = refl; value = refl; index = refl }),
    refl,
  ),
)

pub sets_configuration : Runs start setting_configuration start
sets_configuration = joined halting_all (asked configure_submit 0 []) start halted start halts_all configure_ends_halts

abbrev select_came : State
select_came = record halted { control = arrived select_submit [] ∷ [] }

select_ends_halts : Runs halted (asked select_submit 0 []) start
select_ends_halts = (
  select_came,
  telling_comes halted 1 0x01 _ (record { plugged = refl; free = refl; few = refl }) refl refl,
  (
    start,
    answers_standard select_came (arrived select_submit []) [] (fields 0x01 11 0 0 0) SetInterface refl refl
        (record { fits = record { request_type = lit< tt; request = lit< tt; value = lit< tt; index = lit< tt; length = lit< tt }; layout = refl })
        (record { request_type = refl; request = refl; value = refl; index = refl }),
    refl,
  ),
)

pub sets_interface : Runs start setting_interface start
sets_interface = joined halting_all (asked select_submit 0 []) start halted start halts_all select_ends_halts

-- Interrupt-IN alone is halted
abbrev interrupt_halted : State
interrupt_halted = record start { halted = record { bulk_out = false; bulk_in = false; interrupt_in = true } }

abbrev endpoint_came : State
endpoint_came = record interrupt_halted { control = arrived (endpoint_submit 1 0x83) [] ∷ [] }

abbrev usable_came : State
usable_came = record interrupt_halted { control = arrived usable_submit [] ∷ [] }

pub clears_interrupt : Runs start clearing_interrupt start
clears_interrupt = (
  interrupt_halted,
  record { plugged = refl; leads = DoesHalt interrupt_no_control refl refl refl },
  (
    endpoint_came,
    asking_comes interrupt_halted 1 2 0x82 _ (record { plugged = refl; free = refl; few = refl }) refl refl,
    (
      interrupt_halted,
      answers_standard endpoint_came (arrived (endpoint_submit 1 0x83) []) [] (fields 0x82 0 0 0x83 2) (GetEndpointStatus InterruptIn) refl refl
          (record { fits = record { request_type = lit< tt; request = lit< tt; value = lit< tt; index = lit< tt; length = lit< tt }; layout = refl })
          (record { request_type = refl; request = refl; value = refl; index = refl }),
      (
        usable_came,
        telling_comes interrupt_halted 2 0x02 _ (record { plugged = refl; free = refl; few = refl }) refl refl,
        (
          start,
          answers_standard usable_came (arrived usable_submit []) [] (fields 0x02 1 0 0x83 0) (ClearHalt InterruptIn) refl refl
              (record { fits = record { request_type = lit< tt; request = lit< tt; value = lit< tt; index = lit< tt; length = lit< tt }; layout = refl })
              (record { request_type = refl; request = refl; value = refl; index = refl }),
          refl,
        ),
      ),
    ),
  ),
)

-- what a reader finds in the instrument's own descriptors
use Rattle.std.proofs.Common.{ℕ, List, [], ◌∷◌, refl, lit≤}
use Rattle.std.specs.List.{AllByRecursion}
use Rattle.usb_setup.specs.Standard.{configuration_layout, interface_layout, endpoint_layout}
use Rattle.usb_setup.specs.Identity.{own_configuration, own_interface, bulk_out, bulk_in, interrupt_in, configuration_text}
use Rattle.usb_setup.specs.Descriptors.{IsDescriptor, AreDescriptors}
use Rattle.usb_setup.specs.Interface.{Finds}
use Rattle.tmc_law.specs.Endpoint.{ends}

abbrev behind_interface : List (List ℕ)
behind_interface = endpoint_layout bulk_out ∷ endpoint_layout bulk_in ∷ endpoint_layout interrupt_in ∷ []

abbrev all : List (List ℕ)
all = configuration_layout own_configuration ∷ interface_layout own_interface ∷ behind_interface

each : AllByRecursion IsDescriptor all
each = (
  record { counted = refl; headed = lit≤ tt; sized = lit≤ tt },
  (
    record { counted = refl; headed = lit≤ tt; sized = lit≤ tt },
    (
      record { counted = refl; headed = lit≤ tt; sized = lit≤ tt },
      (
        record { counted = refl; headed = lit≤ tt; sized = lit≤ tt },
        (record { counted = refl; headed = lit≤ tt; sized = lit≤ tt }, tt),
      ),
    ),
  ),
)

are : AreDescriptors configuration_text all
are = record { begins = (refl, lit≤ tt); in_row = refl; each = each }

pub finds : Finds configuration_text ends
finds = record {
  ds = all;
  before = configuration_layout own_configuration ∷ [];
  interface = interface_layout own_interface;
  behind = behind_interface;
  are = are;
  first = record { parts = refl; none_before = refl; is = refl };
  configuration = refl;
  number = refl;
  protocol = refl;
  bulk_out = refl;
  bulk_in = refl;
  notify = refl;
  notify_size = refl;
}

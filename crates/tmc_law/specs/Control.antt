-- how control submits are answered (USB 2.0, sections 8.5.3 and 9.3)
use Rattle.std.specs.Prelude.{◌≡◌, ℕ, min, List, [], take}
use Rattle.usbip_wire.specs.declared.urb.Dir.{Dir}
use Rattle.usbip_wire.specs.declared.urb.Dir.TheVariants.{Out, In}
use Rattle.usb_setup.specs.declared.setup.Setup.{Setup}
use Rattle.usb_setup.specs.Setup.{setup_layout, Fits}
use Rattle.tmc_law.specs.State.{Pending}
use Rattle.tmc_law.specs.Put.{Put, answer_of, success}

-- the submit carries this setup packet
pub record Asks (submit : Pending) (setup : Setup) : Type 0 where
  pub fits : Fits setup
  pub layout : submit.head.setup ≡ setup_layout setup

-- the bytes of an answer that go back: at most as many as the setup and the submit ask for, and none where data goes to
-- the device
abbrev pub sent_back : Dir → (most : ℕ) → (layout : List ℕ) → List ℕ
sent_back Out most layout = []
sent_back In most layout = take most layout

abbrev pub control_answer : Pending → Setup → (layout : List ℕ) → Put
control_answer submit setup layout = answer_of submit.head success (sent_back submit.head.dir (min setup.length submit.head.length) layout)

-- the first control submit is one
use Rattle.std.proofs.Common.{◌≡◌, ◌∙◌, refl, sym, ap, Bool, true, false, List, [], ◌∷◌, ◌++◌, drop, subst, Some}
use Rattle.usbip_wire.specs.declared.submit.SubmitHead.{SubmitHead}
use Rattle.tmc_law.specs.State.{State, Pending}
use Rattle.tmc_law.specs.Control.{Asks}
use Rattle.tmc_device.specs.declared.answer.Asked.{Asked}
use Rattle.tmc_device.specs.Control.{IsAsked}
use Rattle.usb_setup.specs.declared.setup.Setup.{Setup}
use Rattle.usb_setup.specs.Setup.{Fits, setup_layout}
use Rattle.tmc_law.specs.Endpoint.{Control}
use Rattle.endpoint_pipes.specs.declared.outcome.Pending.{Pending as First}
use Rattle.endpoint_pipes.specs.Held.{AreUnpolled}
use Rattle.endpoint_pipes.specs.Outcome.{first_of}
use Rattle.endpoint_pipes.specs.Part.{queue_from}
use Rattle.tmc_device.proofs.Firsts.{FirstIs, first_is}

abbrev first_or : Pending → List Pending → Pending
first_or default [] = default
first_or default (submit ∷ behind) = submit

pub one_first : (a b : Pending) (xs ys : List Pending) → a ∷ xs ≡ b ∷ ys → a ≡ b
one_first a b xs ys is = ap (first_or b) is

pub one_behind : (a b : Pending) (xs ys : List Pending) → a ∷ xs ≡ b ∷ ys → xs ≡ ys
one_behind a b xs ys is = ap (λ (l : List Pending). drop 1 l) is

pub one_submit : (s : State) (asked : Asked) (is : IsAsked s asked) (submit : Pending) (behind : List Pending) → s.control ≡ submit ∷ behind → is.submit ≡ submit
one_submit s asked is submit behind first = one_first is.submit submit is.behind behind (sym is.first ∙ first)

pub asked_head : (s : State) (asked : Asked) (is : IsAsked s asked) (submit : Pending) (behind : List Pending) → s.control ≡ submit ∷ behind → submit.head ≡ asked.head
asked_head s asked is submit behind first = ap (λ (p : Pending). p.head) (sym (one_submit s asked is submit behind first)) ∙ is.head

pub asked_polled : (s : State) (asked : Asked) (is : IsAsked s asked) (submit : Pending) (behind : List Pending) → s.control ≡ submit ∷ behind → submit.polled ≡ asked.polled
asked_polled s asked is submit behind first = ap (λ (p : Pending). p.polled) (sym (one_submit s asked is submit behind first)) ∙ is.polled

pub asked_asks : (s : State) (asked : Asked) (is : IsAsked s asked) (submit : Pending) (behind : List Pending) → s.control ≡ submit ∷ behind → Asks submit asked.setup
asked_asks s asked is submit behind first = subst (λ (p : Pending). Asks p asked.setup) (one_submit s asked is submit behind first) is.asks

-- it is the first of the list, with what is kept beside the list
pub is_asked : (s : State) (list others : List Pending) (polled : Bool) (first : First) (setup : Setup) → s.control ≡ queue_from Control polled list
    → AreUnpolled (list ++ others) → first_of list ≡ Some first → Asks (record { head = first.head; left = []; moved = []; polled = false }) setup
    → ((other : Setup) → Fits other → setup_layout other ≡ first.head.setup → setup ≡ other)
    → IsAsked s (record { head = first.head; setup = setup; polled = polled })
is_asked s list others polled first setup control unpolled there asks one = by polled control
  where
    is : FirstIs list first
    is = first_is list first there

    fresh : is.submit.polled ≡ false
    fresh = (subst (λ (l : List Pending). AreUnpolled (l ++ others)) is.is unpolled).0

    same : is.submit.head ≡ first.head
    same = sym (ap (λ (f : First). f.head) is.value)

    by : (polled : Bool) → s.control ≡ queue_from Control polled list → IsAsked s (record { head = first.head; setup = setup; polled = polled })
    by true control = record {
      submit = record is.submit { polled = true };
      behind = is.behind;
      first = control ∙ ap (λ (l : List Pending). queue_from Control true l) is.is;
      head = same;
      polled = refl;
      asks = record { fits = asks.fits; layout = ap (λ (h : SubmitHead). h.setup) same ∙ asks.layout };
      only = λ other it. one other it.fits (sym it.layout ∙ ap (λ (h : SubmitHead). h.setup) same);
    }
    by false control = record {
      submit = is.submit;
      behind = is.behind;
      first = control ∙ is.is;
      head = same;
      polled = fresh;
      asks = record { fits = asks.fits; layout = ap (λ (h : SubmitHead). h.setup) same ∙ asks.layout };
      only = λ other it. one other it.fits (sym it.layout ∙ ap (λ (h : SubmitHead). h.setup) same);
    }

-- what a setup of the first control submit is, is what was asked
pub asked_is : (s : State) (asked : Asked) (is : IsAsked s asked) (submit : Pending) (behind : List Pending) (setup : Setup) → s.control ≡ submit ∷ behind → Asks submit setup
    → asked.setup ≡ setup
asked_is s asked is submit behind setup first asks =
    is.only setup (subst (λ (p : Pending). Asks p setup) (sym (one_submit s asked is submit behind first)) asks)

-- the list of the control endpoint, once the status byte was polled for its first submit
pub polled_again : (polled : Bool) (list : List Pending) (submit : Pending) (behind : List Pending) → queue_from Control polled list ≡ submit ∷ behind
    → queue_from Control true list ≡ record submit { polled = true } ∷ behind
polled_again true [] submit behind first = absurd (cc)
polled_again true (x ∷ list) submit behind first = ap (λ (l : List Pending). queue_from Control true l) first
polled_again false list submit behind first = ap (λ (l : List Pending). queue_from Control true l) first

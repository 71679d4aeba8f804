-- each list of bytes has one answer
use Rattle.std.proofs.Common.{◌≡◌, ℕ, Bool, true, false, List, [], Option, Some, None, Result, Ok, Err, refl, sym, ap, subst, ◌∙◌, MatchResult, inr}
use Rattle.std.specs.Prelude.{option_map, ◌↔◌}
use Rattle.std.specs.List.{concat, list_any}
use Rattle.std.specs.Option.{option_map_or}
use Rattle.std.proofs.lemmas.List.{append-nil}
use Rattle.usb_setup.specs.declared.ends.Ends.{Ends}
use Rattle.usb_setup.specs.declared.desc_fault.DescFault.{DescFault}
use Rattle.usb_setup.specs.declared.desc_fault.DescFault.TheVariants.{Length, NoInterface, NoBulkOut, NoBulkIn}
use Rattle.usb_setup.specs.declared.descriptor.Interface.{Interface}
use Rattle.usb_setup.specs.declared.descriptor.Endpoint.{Endpoint}
use Rattle.usb_setup.specs.declared.scan.Pipes.{Pipes}
use Rattle.usb_setup.specs.declared.scan.Scan.{Scan}
use Rattle.usb_setup.specs.declared.scan.Scan.TheVariants.{Before, Within, Behind}
use Rattle.usb_setup.specs.Descriptors.{bConfigurationValue, bEndpointAddress, wMaxPacketSize, BeginsWithConfiguration, AreDescriptors, IsBrokenAt}
use Rattle.usb_setup.specs.Interface.{is_tmc, is_bulk_out, is_bulk_in, is_interrupt_in, IsFirst, first_of, Finds, HasNoInterface, FaultIs}
use Rattle.usb_setup.specs.Scan.{interface_of, endpoint_of, HasFound, HasScannedTo, HasStopped, ends_by, ends_with, ends_of}
use Rattle.usb_setup.proofs.Lists.{one_first, no_first}
use Rattle.usb_setup.proofs.Cutting.{one_list, broken_or_whole, one_break}

-- the answer is what the definitions say
abbrev pub Holds : List ℕ → Result Ends DescFault → Type 0
Holds bytes r = MatchResult r (Finds bytes) (FaultIs bytes)

-- the ends of an interface by the first endpoints of what stands behind it
abbrev ends_behind : List ℕ → List ℕ → Option (List ℕ) → Option (List ℕ) → Option (List ℕ) → Result Ends DescFault
ends_behind bytes interface o i n =
    ends_by (bConfigurationValue bytes) (interface_of interface) (option_map endpoint_of o) (option_map endpoint_of i) (option_map endpoint_of n)

pub record Found (bytes : List ℕ) (r : Result Ends DescFault) : Type 0 where
  pub ds : List (List ℕ)
  pub before : List (List ℕ)
  pub interface : List ℕ
  pub behind : List (List ℕ)
  pub are : AreDescriptors bytes ds
  pub first : IsFirst ds before interface behind
  pub is : r ≡ ends_behind bytes interface (first_of is_bulk_out behind) (first_of is_bulk_in behind) (first_of is_interrupt_in behind)

-- what an answer comes from
data Judged (bytes : List ℕ) (r : Result Ends DescFault) : Type 0 where
  broken : (at : ℕ) → IsBrokenAt bytes at → r ≡ Err (Length at) → Judged bytes r
  nothing : HasNoInterface bytes → r ≡ Err NoInterface → Judged bytes r
  found : Found bytes r → Judged bytes r

-- ---- what the cases say holds

address_of : (o : Option (List ℕ)) → option_map (λ (e : Endpoint). e.address) (option_map endpoint_of o) ≡ option_map bEndpointAddress o
address_of None = refl
address_of (Some d) = refl

size_of_packets : (o : Option (List ℕ)) → option_map_or (λ (e : Endpoint). e.max_packet_size) (option_map endpoint_of o) 0 ≡ option_map_or wMaxPacketSize o 0
size_of_packets None = refl
size_of_packets (Some d) = refl

found_holds : (bytes : List ℕ) (ds before : List (List ℕ)) (interface : List ℕ) (behind : List (List ℕ)) (o i n : Option (List ℕ))
    → AreDescriptors bytes ds → IsFirst ds before interface behind
    → first_of is_bulk_out behind ≡ o → first_of is_bulk_in behind ≡ i → first_of is_interrupt_in behind ≡ n
    → Holds bytes (ends_behind bytes interface o i n)
found_holds bytes ds before interface behind None i n are first out-is in-is notify-is = record {
  ds = ds;
  before = before;
  interface = interface;
  behind = behind;
  are = are;
  first = first;
  no_bulk_out = out-is;
}
found_holds bytes ds before interface behind (Some o) None n are first out-is in-is notify-is = record {
  ds = ds;
  before = before;
  interface = interface;
  behind = behind;
  are = are;
  first = first;
  bulk_out = o;
  has_bulk_out = out-is;
  no_bulk_in = in-is;
}
found_holds bytes ds before interface behind (Some o) (Some i) n are first out-is in-is notify-is = record {
  ds = ds;
  before = before;
  interface = interface;
  behind = behind;
  are = are;
  first = first;
  configuration = refl;
  number = refl;
  protocol = refl;
  bulk_out = sym (ap (option_map bEndpointAddress) out-is);
  bulk_in = sym (ap (option_map bEndpointAddress) in-is);
  notify = address_of n ∙ sym (ap (option_map bEndpointAddress) notify-is);
  notify_size = size_of_packets n ∙ sym (ap (λ (x : Option (List ℕ)). option_map_or wMaxPacketSize x 0) notify-is);
}

judged_holds : (bytes : List ℕ) (r : Result Ends DescFault) → Judged bytes r → Holds bytes r
judged_holds bytes r (broken at here is) = subst (Holds bytes) (sym is) here
judged_holds bytes r (nothing none is) = subst (Holds bytes) (sym is) none
judged_holds bytes r (found f) =
    subst (Holds bytes) (sym f.is) (found_holds bytes f.ds f.before f.interface f.behind _ _ _ f.are f.first refl refl refl)

-- ---- what holds is one of the cases

ends-by : (a a' b b' c c' d d' e e' : ℕ) (n n' : Option ℕ) (s s' : ℕ) → a ≡ a' → b ≡ b' → c ≡ c' → d ≡ d' → e ≡ e' → n ≡ n' → s ≡ s'
    → (let x : Ends = record { configuration = a; interface = b; protocol = c; bulk_out = d; bulk_in = e; notify = n; notify_size = s } in x)
    ≡ record { configuration = a'; interface = b'; protocol = c'; bulk_out = d'; bulk_in = e'; notify = n'; notify_size = s' }
ends-by a a' b b' c c' d d' e e' n n' s s' p1 p2 p3 p4 p5 p6 p7 = cc

some_is : (a b : ℕ) → (let x : Option ℕ = Some a in x) ≡ Some b → a ≡ b
some_is a b e = cc

some_not : (a : ℕ) → (let x : Option ℕ = Some a in x) ≡ None → ⊥
some_not a e = cc

finds_is : (bytes interface : List ℕ) (o i n : Option (List ℕ)) (ends : Ends)
    → ends.configuration ≡ bConfigurationValue bytes → ends.interface ≡ (interface_of interface).number → ends.protocol ≡ (interface_of interface).protocol
    → Some ends.bulk_out ≡ option_map bEndpointAddress o → Some ends.bulk_in ≡ option_map bEndpointAddress i
    → ends.notify ≡ option_map bEndpointAddress n → ends.notify_size ≡ option_map_or wMaxPacketSize n 0
    → Ok ends ≡ ends_behind bytes interface o i n
finds_is bytes interface None i n ends c k p out-is in-is notify size = absurd (some_not ends.bulk_out out-is)
finds_is bytes interface (Some o) None n ends c k p out-is in-is notify size = absurd (some_not ends.bulk_in in-is)
finds_is bytes interface (Some o) (Some i) n ends c k p out-is in-is notify size =
    ap (λ (e : Ends). Ok e) (ends-by _ _ _ _ _ _ _ _ _ _ _ _ _ _ c k p
    (some_is ends.bulk_out (bEndpointAddress o) out-is) (some_is ends.bulk_in (bEndpointAddress i) in-is)
    (notify ∙ sym (address_of n)) (size ∙ sym (size_of_packets n)))

holds_judged : (bytes : List ℕ) (r : Result Ends DescFault) → Holds bytes r → Judged bytes r
holds_judged bytes (Ok ends) h = found (record {
  ds = h.ds;
  before = h.before;
  interface = h.interface;
  behind = h.behind;
  are = h.are;
  first = h.first;
  is = finds_is bytes h.interface _ _ _ ends h.configuration h.number h.protocol h.bulk_out h.bulk_in h.notify h.notify_size;
})
holds_judged bytes (Err (Length at)) h = broken at h refl
holds_judged bytes (Err NoInterface) h = nothing h refl
holds_judged bytes (Err NoBulkOut) h = found (record {
  ds = h.ds;
  before = h.before;
  interface = h.interface;
  behind = h.behind;
  are = h.are;
  first = h.first;
  is = ap (λ (o : Option (List ℕ)). ends_behind bytes h.interface o (first_of is_bulk_in h.behind) (first_of is_interrupt_in h.behind)) (sym h.no_bulk_out);
})
holds_judged bytes (Err NoBulkIn) h = found (record {
  ds = h.ds;
  before = h.before;
  interface = h.interface;
  behind = h.behind;
  are = h.are;
  first = h.first;
  is = ap (λ (i : Option (List ℕ)). ends_behind bytes h.interface (Some h.bulk_out) i (first_of is_interrupt_in h.behind)) (sym h.no_bulk_in)
      ∙ ap (λ (o : Option (List ℕ)). ends_behind bytes h.interface o (first_of is_bulk_in h.behind) (first_of is_interrupt_in h.behind)) (sym h.has_bulk_out);
})

-- ---- two answers are one

nothing_or_found : (bytes : List ℕ) (r : Result Ends DescFault) → HasNoInterface bytes → Found bytes r → ⊥
nothing_or_found bytes r none f =
    no_first is_tmc f.before f.interface f.behind f.first.is
    (sym (ap (list_any is_tmc) (one_list bytes none.ds f.ds none.are f.are ∙ f.first.parts)) ∙ none.none)

found_once : (bytes : List ℕ) (r s : Result Ends DescFault) → Found bytes r → Found bytes s → r ≡ s
found_once bytes r s f g =
    let ds-is = one_list bytes f.ds g.ds f.are g.are in
    let same = one_first is_tmc f.before g.before f.interface g.interface f.behind g.behind f.first.none_before g.first.none_before f.first.is g.first.is
    (sym f.first.parts ∙ ds-is ∙ g.first.parts) in
    f.is
    ∙ ap (λ (x : List ℕ). ends_behind bytes x (first_of is_bulk_out f.behind) (first_of is_bulk_in f.behind) (first_of is_interrupt_in f.behind)) same.0
    ∙ ap (λ (x : List (List ℕ)). ends_behind bytes g.interface (first_of is_bulk_out x) (first_of is_bulk_in x) (first_of is_interrupt_in x)) same.1
    ∙ sym g.is

judged_once : (bytes : List ℕ) (r s : Result Ends DescFault) → Judged bytes r → Judged bytes s → r ≡ s
judged_once bytes r s (broken at here is) (broken to there is') =
    is ∙ ap (λ (k : ℕ). Err (Length k)) (one_break bytes at to here there) ∙ sym is'
judged_once bytes r s (broken at here is) (nothing none is') = absurd (broken_or_whole bytes at none.ds here none.are)
judged_once bytes r s (broken at here is) (found g) = absurd (broken_or_whole bytes at g.ds here g.are)
judged_once bytes r s (nothing none is) (broken to there is') = absurd (broken_or_whole bytes to none.ds there none.are)
judged_once bytes r s (nothing none is) (nothing none' is') = is ∙ sym is'
judged_once bytes r s (nothing none is) (found g) = absurd (nothing_or_found bytes s none g)
judged_once bytes r s (found f) (broken to there is') = absurd (broken_or_whole bytes to f.ds there f.are)
judged_once bytes r s (found f) (nothing none is') = absurd (nothing_or_found bytes r none f)
judged_once bytes r s (found f) (found g) = found_once bytes r s f g

pub one_answer : (bytes : List ℕ) (r s : Result Ends DescFault) → Holds bytes r → Holds bytes s → r ≡ s
one_answer bytes r s h k = judged_once bytes r s (holds_judged bytes r h) (holds_judged bytes s k)

-- ---- the scan's answer holds

whole : (bytes : List ℕ) (s : Scan) (h : HasScannedTo bytes [] s) → BeginsWithConfiguration bytes → AreDescriptors bytes h.front
whole bytes s h begins = record { begins = begins; in_row = h.in_row ∙ append-nil (concat h.front); each = h.each }

scan_found : (bytes : List ℕ) (ds : List (List ℕ)) (i : Interface) (p : Pipes) (another : Bool) → AreDescriptors bytes ds → HasFound ds i p another → Holds bytes (ends_with (bConfigurationValue bytes) i p)
scan_found bytes ds i p another are h = judged_holds bytes (ends_with (bConfigurationValue bytes) i p) (found (record {
  ds = ds;
  before = h.before;
  interface = h.text;
  behind = h.behind;
  are = are;
  first = h.first;
  is = ap (λ (x : Interface). ends_with (bConfigurationValue bytes) x p) h.interface_is
      ∙ ap (λ (q : Pipes). ends_with (bConfigurationValue bytes) (interface_of h.text) q) h.pipes_are;
}))

-- what a scan of all the bytes answers
pub scan_holds : (bytes : List ℕ) (s : Scan) → BeginsWithConfiguration bytes → HasScannedTo bytes [] s → Holds bytes (ends_of (bConfigurationValue bytes) s)
scan_holds bytes Before begins h = record { ds = h.front; are = whole bytes Before h begins; none = h.scanned }
scan_holds bytes (Within i p) begins h = scan_found bytes h.front i p false (whole bytes (Within i p) h begins) h.scanned
scan_holds bytes (Behind i p) begins h = scan_found bytes h.front i p true (whole bytes (Behind i p) h begins) h.scanned

-- what is answered where no configuration descriptor begins the bytes
pub broken_first : (bytes : List ℕ) (f : DescFault) → (let x : Result ℕ DescFault = Err f in x) ≡ Err (Length 0) → IsBrokenAt bytes 0 → Holds bytes (Err f)
broken_first bytes f e here = let is : f ≡ Length 0 = cc in subst (FaultIs bytes) (sym is) here

-- what a scan that stopped answers
pub stop_holds : (bytes : List ℕ) (f : DescFault) → BeginsWithConfiguration bytes → HasStopped bytes f → Holds bytes (Err f)
stop_holds bytes (Length at) begins h = inr (begins, h)
stop_holds bytes NoInterface begins h = absurd h
stop_holds bytes NoBulkOut begins h = absurd h
stop_holds bytes NoBulkIn begins h = absurd h

-- ---- both clauses

pub found_exactly : (bytes : List ℕ) (r : Result Ends DescFault) → Holds bytes r → (ends : Ends) → (r ≡ Ok ends) ↔ Finds bytes ends
found_exactly bytes r h ends = (λ e. subst (Holds bytes) e h, λ k. one_answer bytes r (Ok ends) h k)

pub fault_exactly : (bytes : List ℕ) (r : Result Ends DescFault) → Holds bytes r → (fault : DescFault) → (r ≡ Err fault) ↔ FaultIs bytes fault
fault_exactly bytes r h fault = (λ e. subst (Holds bytes) e h, λ k. one_answer bytes r (Err fault) h k)

-- the scan goes on by a descriptor
use Rattle.std.proofs.Common.{◌≡◌, ℕ, ◌-◌, Bool, true, false, cond, List, [], ◌∷◌, ◌++◌, length, Option, refl, sym, ap, ◌∙◌, append_assoc, arith}
use Rattle.std.specs.List.{concat, list_any}
use Rattle.std.proofs.lemmas.List.{length-append}
use Rattle.usb_setup.specs.declared.descriptor.Interface.{Interface}
use Rattle.usb_setup.specs.declared.descriptor.Endpoint.{Endpoint}
use Rattle.usb_setup.specs.declared.scan.Pipes.{Pipes}
use Rattle.usb_setup.specs.declared.scan.Scan.{Scan}
use Rattle.usb_setup.specs.declared.scan.Scan.TheVariants.{Before, Within, Behind}
use Rattle.usb_setup.specs.Descriptors.{IsDescriptor, IsBad, IsBadAt}
use Rattle.usb_setup.specs.Interface.{is_interface, is_tmc, is_bulk_out, is_bulk_in, is_interrupt_in, IsFirst, own_part}
use Rattle.usb_setup.specs.Scan.{interface_of, endpoint_of, pipes_of, pipes_with, scan_after, HasFound, HasScanned, HasScannedTo}
use Rattle.usb_setup.proofs.Lists.{concat-push, each-push, any-push, any-stays, until-push_behind, until-push_stop, until-push_more, find-push}

pipes-by : (a a' b b' c c' : Option Endpoint) → a ≡ a' → b ≡ b' → c ≡ c' → (let x : Pipes = record { bulk_out = a; bulk_in = b; interrupt_in = c } in x) ≡ record { bulk_out = a'; bulk_in = b'; interrupt_in = c' }
pipes-by a a' b b' c c' e f g = cc

pipes-push : (ds : List (List ℕ)) (d : List ℕ) → pipes_of (ds ++ d ∷ []) ≡ pipes_with (pipes_of ds) d
pipes-push ds d = pipes-by _ _ _ _ _ _ (find-push is_bulk_out endpoint_of ds d) (find-push is_bulk_in endpoint_of ds d) (find-push is_interrupt_in endpoint_of ds d)

first-push : (ds before : List (List ℕ)) (text : List ℕ) (behind : List (List ℕ)) (d : List ℕ) → IsFirst ds before text behind → IsFirst (ds ++ d ∷ []) before text (behind ++ d ∷ [])
first-push ds before text behind d first = record {
  parts = ap (λ (xs : List (List ℕ)). xs ++ d ∷ []) first.parts ∙ append_assoc before (text ∷ behind) (d ∷ []);
  none_before = first.none_before;
  is = first.is;
}

after_before : (b : Bool) (ds : List (List ℕ)) (d : List ℕ) → is_tmc d ≡ b → list_any is_tmc ds ≡ false → HasScanned (ds ++ d ∷ []) (cond b (Within (interface_of d) (pipes_of [])) Before)
after_before true ds d is none = record {
  before = ds;
  text = d;
  behind = [];
  first = record { parts = refl; none_before = none; is = is };
  interface_is = refl;
  pipes_are = refl;
  another_is = refl;
}
after_before false ds d is none = any-push is_tmc ds d false none is

after_within : (b : Bool) (ds : List (List ℕ)) (d : List ℕ) (i : Interface) (p : Pipes) → is_interface d ≡ b → HasFound ds i p false → HasScanned (ds ++ d ∷ []) (cond b (Behind i p) (Within i (pipes_with p d)))
after_within true ds d i p is found = record {
  before = found.before;
  text = found.text;
  behind = found.behind ++ d ∷ [];
  first = first-push ds found.before found.text found.behind d found.first;
  interface_is = found.interface_is;
  pipes_are = found.pipes_are ∙ ap pipes_of (sym (until-push_stop is_interface found.behind d found.another_is is));
  another_is = any-push is_interface found.behind d true found.another_is is;
}
after_within false ds d i p is found = record {
  before = found.before;
  text = found.text;
  behind = found.behind ++ d ∷ [];
  first = first-push ds found.before found.text found.behind d found.first;
  interface_is = found.interface_is;
  pipes_are = ap (λ (q : Pipes). pipes_with q d) found.pipes_are
      ∙ sym (pipes-push (own_part found.behind) d)
      ∙ ap pipes_of (sym (until-push_more is_interface found.behind d found.another_is is));
  another_is = any-push is_interface found.behind d false found.another_is is;
}

after_behind : (ds : List (List ℕ)) (d : List ℕ) (i : Interface) (p : Pipes) → HasFound ds i p true → HasFound (ds ++ d ∷ []) i p true
after_behind ds d i p found = record {
  before = found.before;
  text = found.text;
  behind = found.behind ++ d ∷ [];
  first = first-push ds found.before found.text found.behind d found.first;
  interface_is = found.interface_is;
  pipes_are = found.pipes_are ∙ ap pipes_of (sym (until-push_behind is_interface found.behind d found.another_is));
  another_is = any-stays is_interface found.behind d found.another_is;
}

scanned-push : (ds : List (List ℕ)) (d : List ℕ) (s : Scan) → HasScanned ds s → HasScanned (ds ++ d ∷ []) (scan_after s d)
scanned-push ds d Before h = after_before (is_tmc d) ds d refl h
scanned-push ds d (Within i p) h = after_within (is_interface d) ds d i p refl h
scanned-push ds d (Behind i p) h = after_behind ds d i p h

-- nothing is scanned at first
pub scan_begins : (bytes : List ℕ) → HasScannedTo bytes bytes Before
scan_begins bytes = record { front = []; in_row = refl; each = tt; scanned = refl }

-- one more descriptor is scanned
pub scan_goes_on : (bytes rest d behind : List ℕ) (s : Scan) → HasScannedTo bytes rest s → IsDescriptor d → rest ≡ d ++ behind → HasScannedTo bytes behind (scan_after s d)
scan_goes_on bytes rest d behind s h is parts = record {
  front = h.front ++ d ∷ [];
  in_row = h.in_row
      ∙ ap (λ (t : List ℕ). concat h.front ++ t) parts
      ∙ sym (append_assoc (concat h.front) d behind)
      ∙ ap (λ (t : List ℕ). t ++ behind) (sym (concat-push h.front d));
  each = each-push IsDescriptor h.front d h.each is;
  scanned = scanned-push h.front d s h.scanned;
}

-- a bad length stands where the scan has come to
pub scan_stops : (bytes rest : List ℕ) (s : Scan) (at : ℕ) → HasScannedTo bytes rest s → IsBad rest → at ≡ length bytes - length rest → IsBadAt bytes at
scan_stops bytes rest s at h bad e = record {
  front = h.front;
  rest = rest;
  in_row = h.in_row;
  each = h.each;
  place = omega (arith, ap length h.in_row, length-append (concat h.front) rest);
  bad = bad;
}

-- the spelling of one answer
use Rattle.std.proofs.Common.{ℕ, zero, suc, ◌<◌, ◌≤◌, ◌^◌, List, [], ◌∷◌, length, refl, inl, lit<, arith, length-take}
use Rattle.std.specs.Prelude.{ℤ, min}
use Rattle.std.specs.Int.{w32, cast_unsigned}
use Rattle.usbip_wire.specs.declared.submit.SubmitHead.{SubmitHead}
use Rattle.usbip_wire.specs.declared.ret_submit.RetSubmitHead.{RetSubmitHead}
use Rattle.usbip_wire.specs.declared.ret_unlink.RetUnlinkHead.{RetUnlinkHead}
use Rattle.usbip_wire.specs.declared.urb.Dir.{Dir}
use Rattle.usbip_wire.specs.declared.urb.Dir.TheVariants.{Out, In}
use Rattle.usbip_wire.specs.Urb.{AreWide, Fits32}
use Rattle.usbip_wire.specs.RetSubmit.{Returns, SpellsRetSubmit, ret_submit_words, ret_submit_bytes, unused}
use Rattle.usbip_wire.specs.RetUnlink.{SpellsRetUnlink, ret_unlink_words, ret_unlink_bytes, unused as unused_unlink}
use Rattle.tmc_law.specs.Put.{success, stalled, unlinked, unplugged, returned}
use Rattle.tmc_law.specs.Control.{sent_back}

-- fields of four bytes, one by one
abbrev pub EachWide : List ℕ → Type 0
EachWide [] = Unit {0}
EachWide (word ∷ words) = (word < 2 ^ 32) × EachWide words

pub each_wide : (words : List ℕ) → EachWide words → AreWide words
each_wide [] wide i = lit< tt
each_wide (word ∷ words) wide zero = wide.0
each_wide (word ∷ words) wide (suc i) = each_wide words wide.1 i

-- a status that is written in four bytes
pub record IsStatus (status : ℤ) : Type 0 where
  pub fits : Fits32 status
  pub wide : cast_unsigned w32 status < 2 ^ 32

pub success_is : IsStatus success
success_is = record { fits = refl; wide = lit< tt }

pub stalled_is : IsStatus stalled
stalled_is = record { fits = refl; wide = lit< tt }

pub unlinked_is : IsStatus unlinked
unlinked_is = record { fits = refl; wide = lit< tt }

pub unplugged_is : IsStatus unplugged
unplugged_is = record { fits = refl; wide = lit< tt }

returns : (dir : Dir) (moved : List ℕ) → Returns dir (length moved) (returned dir moved)
returns Out moved = refl
returns In moved = refl

-- the head of the answer to a submit
abbrev pub head_of : SubmitHead → ℤ → List ℕ → RetSubmitHead
head_of head status moved = record { seqnum = head.seqnum; status = status; actual = length moved }

pub submit_spelled : (head : SubmitHead) (status : ℤ) (moved : List ℕ) → IsStatus status → head.seqnum < 2 ^ 32 → head.length < 2 ^ 32
    → length moved ≤ head.length
    → SpellsRetSubmit (record { dir = head.dir; size = head.length }) (head_of head status moved) (returned head.dir moved) (ret_submit_bytes (head_of head status moved) unused (returned head.dir moved))
submit_spelled head status moved is wide sized fits = record {
  rest = unused;
  within = fits;
  packets = inl refl;
  status = is.fits;
  wide = each_wide (ret_submit_words (head_of head status moved) unused) (lit< tt, (wide, (lit< tt, (lit< tt, (lit< tt, (is.wide, (omega arith, (lit< tt, (lit< tt, (lit< tt, (lit< tt, (lit< tt, tt))))))))))));
  returned = returns head.dir moved;
  layout = refl;
}

pub unlink_spelled : (head : RetUnlinkHead) → IsStatus head.status → head.seqnum < 2 ^ 32 → SpellsRetUnlink head (ret_unlink_bytes head unused_unlink)
unlink_spelled head is wide = record {
  rest = unused_unlink;
  status = is.fits;
  padded = refl;
  wide = each_wide (ret_unlink_words head unused_unlink) (lit< tt, (wide, (lit< tt, (lit< tt, (lit< tt, (is.wide, tt))))));
  layout = refl;
}

-- what goes back to a control submit fits it
pub sent_back_fits : (dir : Dir) (size most : ℕ) (layout : List ℕ) → length (sent_back dir (min most size) layout) ≤ size
sent_back_fits Out size most layout = omega arith
sent_back_fits In size most layout = omega (arith, length-take (min most size) layout)

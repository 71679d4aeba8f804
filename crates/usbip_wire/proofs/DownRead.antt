-- what reading says of a device's messages
use Rattle.std.proofs.Common.{◌≡◌, ℕ, ◌-◌, ◌≤◌, lit≤, arith, cond, eqb, Option, Some, None, List, [], ◌∷◌, ◌++◌, drop, Ok, Err, sym, subst, ◌∙◌}
use Rattle.std.specs.Prelude.{is_some}
use Rattle.std.proofs.lemmas.Bool.{leb-true, cond_both}
use Rattle.std.proofs.lemmas.List.{append-nil}
use Rattle.tmc_base.specs.declared.field.Field.{Field}
use Rattle.tmc_base.specs.declared.limits.TheConstants.{SUBMIT_MAX}
use Rattle.usbip_wire.specs.declared.dirs.Outstanding.{Outstanding}
use Rattle.usbip_wire.specs.declared.down.Down.{Down}
use Rattle.usbip_wire.specs.declared.down.Down.TheVariants as down
use Rattle.usbip_wire.specs.declared.down.DownPhase.{DownPhase}
use Rattle.usbip_wire.specs.declared.down.DownPhase.TheVariants.{Ops, Urbs}
use Rattle.usbip_wire.specs.declared.dirs.Outstanding.TheVariants as entry
use Rattle.usbip_wire.specs.declared.down.RecordOf.{RecordOf}
use Rattle.usbip_wire.specs.declared.down.RecordOf.TheVariants as part
use Rattle.usbip_wire.specs.declared.fields.TheConstants.{SEQNUM}
use Rattle.usbip_wire.specs.declared.op.TheConstants.{REP_DEVLIST}
use Rattle.usbip_wire.specs.declared.urb.Dir.{Dir}
use Rattle.usbip_wire.specs.declared.urb.Dir.TheVariants.{Out, In}
use Rattle.usbip_wire.specs.declared.stop.Stop.{Stop}
use Rattle.usbip_wire.specs.declared.stop.Stop.TheVariants.{Short}
use Rattle.usbip_wire.specs.declared.urb.TheConstants.{URB_HEADER, RET_SUBMIT}
use Rattle.usbip_wire.specs.Down.{RetSubmit, RetUnlink}
use Rattle.usbip_wire.specs.DownFed.{Means, NoneWhole, BadAt, Ends}
use Rattle.usbip_wire.specs.Dirs.{IsShort, AreShort, number_of, find, submit_of, is_unlink}
use Rattle.usbip_wire.specs.DownForm.{down_form, ops_form, answer_form, reply_form, record_form, interface_form, ret_submit_form, ret_unlink_form, dir_asked, size_asked}
use Rattle.usbip_wire.specs.Form.{Judged, Number, Done, Four, Spelled, read}
use Rattle.usbip_wire.specs.Given.{IsBytes}
use Rattle.usbip_wire.specs.Urb.{returned, message_max}
use Rattle.usbip_wire.proofs.DownSpelled.{answer_sound, answer_complete, ops_sound, ops_complete, head_of}
use Rattle.usbip_wire.proofs.Forms.{sound, bad_refused, more_whole, Within}
use Rattle.usbip_wire.proofs.UpRead.{none_by, both_within}

pub down_sound : (phase : DownPhase) (entries : List Outstanding) (what : Down) (bytes : List ℕ) → Spelled (down_form phase entries) what bytes → Means phase entries what bytes
down_sound (Ops devices interfaces) entries what bytes s = ops_sound devices interfaces what bytes s
down_sound Urbs entries what bytes s = answer_sound entries what bytes s

-- bytes that are read to their end are this message
pub whole_means : (phase : DownPhase) (entries : List Outstanding) (what : Down) (bytes : List ℕ) → IsBytes bytes → read (down_form phase entries) bytes ≡ Ok (what, [])
    → Means phase entries what bytes
whole_means phase entries what bytes fits e =
    let s = sound (down_form phase entries) bytes what [] fits e in
    down_sound phase entries what bytes (subst (λ (t : List ℕ). Spelled (down_form phase entries) what t) (sym (s.1 ∙ append-nil s.0)) s.2)

-- where bytes are missing or a field is refused, no message is whole
pub stopped_none : (phase : DownPhase) (entries : List Outstanding) (rest : List ℕ) (stop : Stop) → read (down_form phase entries) rest ≡ Err stop → NoneWhole phase entries rest
stopped_none (Ops devices interfaces) entries rest stop r =
    λ m front tail s e. none_by (ops_form devices interfaces) m front rest tail stop (ops_complete devices interfaces m front s) e r
stopped_none Urbs entries rest stop r = λ m front tail s e. none_by (answer_form entries) (head_of m) front rest tail stop (answer_complete entries m front s) e r

pub short_good : (phase : DownPhase) (entries : List Outstanding) (rest : List ℕ) (n : ℕ) → read (down_form phase entries) rest ≡ Err (Short n)
    → (f : Field) → BadAt phase entries rest f → ⊥
short_good phase entries rest n r f b = let x = bad_refused (down_form phase entries) rest f b in cc

pub whole_good : (phase : DownPhase) (entries : List Outstanding) (rest more : List ℕ) (what : Down) → read (down_form phase entries) rest ≡ Ok (what, [])
    → (f : Field) → BadAt phase entries (rest ++ more) f → ⊥
whole_good phase entries rest more what r f b =
    let x = bad_refused (down_form phase entries) (rest ++ more) f b in let y = more_whole (down_form phase entries) rest more what [] r in cc

none_read : (phase : DownPhase) (entries : List Outstanding) (what : Down) (front rest left : List ℕ) → Means phase entries what front → rest ≡ front ++ left → NoneWhole phase entries rest → ⊥
none_read (Ops devices interfaces) entries what front rest left m e none = none what front left m e
none_read Urbs entries (down.RetSubmit head) front rest left m e none = none (RetSubmit head (drop URB_HEADER front)) front left m e
none_read Urbs entries (down.RetUnlink head) front rest left m e none = none (RetUnlink head) front left m e
none_read Urbs entries (down.Count status devices) front rest left m e none = absurd m
none_read Urbs entries (down.Device device) front rest left m e none = absurd m
none_read Urbs entries (down.Interface class subclass protocol) front rest left m e none = absurd m
none_read Urbs entries (down.Import status device) front rest left m e none = absurd m
none_read Urbs entries down.More front rest left m e none = absurd m
none_read Urbs entries (down.Bad f) front rest left m e none = absurd m

-- where no message is whole, none is passed
pub none_ends : (phase : DownPhase) (entries : List Outstanding) (rest : List ℕ) → IsBytes rest → NoneWhole phase entries rest → Ends phase entries rest
none_ends phase entries rest fits none what left e =
    let s = sound (down_form phase entries) rest what left fits e in
    absurd (none_read phase entries what s.0 rest left (down_sound phase entries what s.0 s.2) s.1 none)

-- ---- no message is longer than a reader holds

one_short : (entry : Outstanding) → IsShort entry → size_asked (submit_of (Some entry)) ≤ SUBMIT_MAX
one_short (entry.Submit seqnum dir size) h = h
one_short (entry.Unlink seqnum) h = lit≤ tt

find_short : (seqnum : ℕ) (entries : List Outstanding) → AreShort entries → size_asked (submit_of (find seqnum entries)) ≤ SUBMIT_MAX
find_short seqnum [] h = lit≤ tt
find_short seqnum (entry ∷ entries) h =
    cond_both (eqb (number_of entry) seqnum) (Some entry) (find seqnum entries) (λ o. size_asked (submit_of o) ≤ SUBMIT_MAX) (λ _. one_short entry h.0) (λ _. find_short seqnum entries h.1)

returned_most : (dir : Dir) (actual : ℕ) → actual ≤ SUBMIT_MAX → returned dir actual ≤ SUBMIT_MAX
returned_most Out actual le = lit≤ tt
returned_most In actual le = le

ret_submit_within : (seqnum : ℕ) (asked : Option (Dir × ℕ)) → size_asked asked ≤ SUBMIT_MAX → Within (ret_submit_form seqnum asked) (message_max - 8)
unfolding ret_submit_form
ret_submit_within seqnum asked small = (
  lit≤ tt,
  λ devid. (
    lit≤ tt,
    λ direction. (
      lit≤ tt,
      λ ep. (
        lit≤ tt,
        λ status. (
          lit≤ tt,
          λ actual le. (
            lit≤ tt,
            λ start. (
              lit≤ tt,
              λ packets _. (
                lit≤ tt,
                λ errors. (
                  lit≤ tt,
                  λ high. (
                    lit≤ tt,
                    λ low.
                        (returned_most (dir_asked asked) actual (omega (arith, small, leb-true actual (size_asked asked) le)), λ transferred. tt),
                  ),
                ),
              ),
            ),
          ),
        ),
      ),
    ),
  ),
)

ret_unlink_within : (seqnum : ℕ) → Within (ret_unlink_form seqnum) (message_max - 8)
unfolding ret_unlink_form
ret_unlink_within seqnum = (lit≤ tt, λ devid. (lit≤ tt, λ direction. (lit≤ tt, λ ep. (lit≤ tt, λ status. (lit≤ tt, λ padding. tt)))))

record_within : (of : RecordOf) (most : ℕ) → 312 ≤ most → Within (record_form of) most
unfolding record_form
record_within of most le =
    (omega arith, λ path. (omega arith, λ busid. (omega arith, λ busnum. (omega arith, λ devnum. (omega arith, λ speed. (omega arith, λ vendor. (omega arith, λ product. (omega arith, λ bcd. (omega arith, λ last. tt)))))))))

ops_within : (devices interfaces : ℕ) → Within (ops_form devices interfaces) message_max
ops_within devices interfaces =
    both_within (eqb interfaces 0) (cond (eqb devices 0) reply_form (record_form part.List)) interface_form message_max
    (both_within (eqb devices 0) reply_form (record_form part.List) message_max (
      lit≤ tt,
      λ version _. (
        lit≤ tt,
        λ code _. (
          lit≤ tt,
          λ status.
              both_within (eqb code REP_DEVLIST) (Number Four (λ devices. Done (down.Count status devices))) (cond (eqb status 0) (record_form part.Import) (Done (down.Import status None))) (message_max - 8)
              (lit≤ tt, λ devices. tt)
              (both_within (eqb status 0) (record_form part.Import) (Done (down.Import status None)) (message_max - 8) (record_within part.Import (message_max - 8) (lit≤ tt)) tt),
        ),
      ),
    )
    (record_within part.List message_max (lit≤ tt)))
    (lit≤ tt, λ last. tt)

pub down_within : (phase : DownPhase) (entries : List Outstanding) → AreShort entries → Within (down_form phase entries) message_max
down_within (Ops devices interfaces) entries short = ops_within devices interfaces
down_within Urbs entries short = (
  lit≤ tt,
  λ command _. both_within (eqb command RET_SUBMIT)
      (Judged Four SEQNUM (λ seqnum. is_some (submit_of (find seqnum entries))) (λ seqnum. ret_submit_form seqnum (submit_of (find seqnum entries))))
      (Judged Four SEQNUM (λ seqnum. is_unlink (find seqnum entries)) (λ seqnum. ret_unlink_form seqnum)) (message_max - 4)
      (lit≤ tt, λ seqnum _. ret_submit_within seqnum (submit_of (find seqnum entries)) (find_short seqnum entries short))
      (lit≤ tt, λ seqnum _. ret_unlink_within seqnum),
)

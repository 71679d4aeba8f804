-- a device's messages by their layout, and field by field
use Rattle.std.proofs.Common.{◌≡◌, ℕ, zero, suc, ◌^◌, ◌<◌, true, false, cond, eqb, Option, Some, None, List, [], ◌∷◌, ◌++◌, length, drop, get_or, refl, sym, ap, subst, ◌∙◌, arith, inl, inr, lit<, eq-eqb}
use Rattle.std.specs.Prelude.{is_some}
use Rattle.std.specs.Int.{w16, w32, to_be_bytes, cast_signed, cast_unsigned}
use Rattle.std.proofs.lemmas.Bool.{le-leb, leb-true, eqb-true, ne_eqb, cases_eq}
use Rattle.std.proofs.lemmas.Int.{of_z-to_z}
use Rattle.std.proofs.lemmas.List.{append-nil}
use Rattle.usbip_wire.specs.declared.device.DeviceRecord.{DeviceRecord}
use Rattle.usbip_wire.specs.declared.dirs.Outstanding.{Outstanding}
use Rattle.usbip_wire.specs.declared.down.Down.{Down}
use Rattle.usbip_wire.specs.declared.down.Down.TheVariants as down
use Rattle.usbip_wire.specs.declared.down.DownPhase.TheVariants.{Urbs}
use Rattle.usbip_wire.specs.declared.down.RecordOf.{RecordOf}
use Rattle.usbip_wire.specs.declared.down.RecordOf.TheVariants as part
use Rattle.usbip_wire.specs.declared.fields.TheConstants.{SEQNUM}
use Rattle.usbip_wire.specs.declared.op.TheConstants.{USBIP_VERSION, REP_DEVLIST, REP_IMPORT}
use Rattle.usbip_wire.specs.declared.urb.Dir.{Dir}
use Rattle.usbip_wire.specs.declared.urb.Dir.TheVariants.{Out, In}
use Rattle.usbip_wire.specs.declared.urb.TheConstants.{RET_SUBMIT, RET_UNLINK}
use Rattle.usbip_wire.specs.DevList.{SpellsPart}
use Rattle.usbip_wire.specs.Device.{record_bytes, IsRecord}
use Rattle.usbip_wire.specs.Dirs.{find, submit_of, is_unlink}
use Rattle.usbip_wire.specs.Down.{Message, RetSubmit, RetUnlink, SpellsAnswer}
use Rattle.usbip_wire.specs.DownFed.{Means}
use Rattle.usbip_wire.specs.DownForm.{answer_form, interface_form, ops_form, record_form, record_told, reply_form, ret_submit_form, ret_unlink_form}
use Rattle.usbip_wire.specs.Form.{Form, Spelled, Judged, Number, Done, Four}
use Rattle.usbip_wire.specs.ImportReply.{import_bytes}
use Rattle.usbip_wire.specs.Op.{op_header}
use Rattle.usbip_wire.specs.RetSubmit.{Returns, ret_submit_bytes}
use Rattle.usbip_wire.specs.RetUnlink.{ret_unlink_bytes}
use Rattle.usbip_wire.specs.Urb.{fields, halves, returned}
use Rattle.usbip_wire.proofs.Wide.{each_wide}
use Rattle.usbip_wire.proofs.UpSpelled.{two_commands, no_packet_count, packet_count_no}

abbrev pub put : ℕ → List ℕ → List ℕ
put n rest = to_be_bytes w32 n ++ rest

abbrev two : ℕ → List ℕ → List ℕ
two n rest = to_be_bytes w16 n ++ rest

-- ---- answers to URB messages

returns : (dir : Dir) (actual : ℕ) (transferred : List ℕ) → length transferred ≡ returned dir actual → Returns dir actual transferred
returns In actual transferred e = e
returns Out actual [] e = refl
returns Out actual (x ∷ xs) e = absurd (omega (arith, e))

returns_len : (dir : Dir) (actual : ℕ) (transferred : List ℕ) → Returns dir actual transferred → length transferred ≡ returned dir actual
returns_len In actual transferred e = e
returns_len Out actual transferred e = ap (λ (t : List ℕ). length t) e

code_back : (n : ℕ) → n < 2 ^ 32 → cast_unsigned w32 (cast_signed w32 n) ≡ n
code_back n lt = of_z-to_z w32 n lt

ret_submit_sound : (entries : List Outstanding) (seqnum : ℕ) (asked : Option (Dir × ℕ)) (what : Down) (bytes rest : List ℕ) → seqnum < 2 ^ 32
    → submit_of (find seqnum entries) ≡ asked → is_some asked ≡ true
    → bytes ≡ put RET_SUBMIT (put seqnum rest) → Spelled (ret_submit_form seqnum asked) what rest → Means Urbs entries what bytes
unfolding ret_submit_form ret_submit_bytes fields
ret_submit_sound entries seqnum None what bytes rest ls found some e0 s = absurd cc
ret_submit_sound entries seqnum (Some asked) what bytes rest ls found some e0 (devid, r1, l1, e1, (direction, r2, l2, e2, (ep, r3, l3, e3, (status, r4, l4, e4, (actual, r5, l5, a5, e5, (start, r6, l6, e6, (packets, r7, l7, a7, e7, (errors, r8, l8, e8, (high, r9, l9, e9, (low, r10, l10, e10, (transferred, r11, l11, e11, (same, none)))))))))))) =
    let code : cast_unsigned w32 (cast_signed w32 status) ≡ status = code_back status l4 in
    let all : bytes ≡ put RET_SUBMIT (put seqnum (put devid (put direction (put ep (put status (put actual (put start (put packets (put errors (put high (put low transferred))))))))))) =
    e0 ∙ ap (λ (t : List ℕ). put RET_SUBMIT (put seqnum t)) (e1 ∙ ap (λ (t : List ℕ). put devid t) (e2 ∙ ap (λ (t : List ℕ). put direction t) (e3 ∙ ap (λ (t : List ℕ). put ep t) (e4 ∙ ap (λ (t : List ℕ). put status t) (e5 ∙ ap (λ (t : List ℕ). put actual t) (e6 ∙ ap (λ (t : List ℕ). put start t) (e7 ∙ ap (λ (t : List ℕ). put packets t) (e8 ∙ ap (λ (t : List ℕ). put errors t) (e9 ∙ ap (λ (t : List ℕ). put high t) (e10 ∙ ap (λ (t : List ℕ). put low t) (e11 ∙ ap (λ (t : List ℕ). transferred ++ t) none ∙ append-nil transferred))))))))))) in
    let behind : drop 48 bytes ≡ transferred = rw all refl in
    subst (λ (u : Down). Means Urbs entries u bytes) same (
      record { dir = asked.0; size = asked.1 },
      found,
      record {
        rest = record { devid = devid; direction = direction; ep = ep; start_frame = start; number_of_packets = packets; error_count = errors; padding_high = high; padding_low = low };
        within = leb-true actual asked.1 a5;
        packets = no_packet_count packets a7;
        status = ap (λ n. cast_signed w32 n) code;
        wide = each_wide (RET_SUBMIT ∷ seqnum ∷ devid ∷ direction ∷ ep ∷ cast_unsigned w32 (cast_signed w32 status) ∷ actual ∷ start ∷ packets ∷ errors ∷ high ∷ low ∷ []) (lit< tt, (ls, (l1, (l2, (l3, (rw code l4, (l5, (l6, (l7, (l8, (l9, (l10, tt))))))))))));
        returned = rw behind (returns asked.0 actual transferred l11);
        layout = rw (behind, code) all;
      },
    )

ret_unlink_sound : (entries : List Outstanding) (seqnum : ℕ) (what : Down) (bytes rest : List ℕ) → seqnum < 2 ^ 32
    → is_unlink (find seqnum entries) ≡ true → bytes ≡ put RET_UNLINK (put seqnum rest) → Spelled (ret_unlink_form seqnum) what rest → Means Urbs entries what bytes
unfolding ret_unlink_form ret_unlink_bytes fields
ret_unlink_sound entries seqnum what bytes rest ls found e0 (devid, r1, l1, e1, (direction, r2, l2, e2, (ep, r3, l3, e3, (status, r4, l4, e4, (padding, r5, l5, e5, (same, none)))))) =
    let code : cast_unsigned w32 (cast_signed w32 status) ≡ status = code_back status l4 in
    let all : bytes ≡ put RET_UNLINK (put seqnum (put devid (put direction (put ep (put status padding))))) =
    e0 ∙ ap (λ (t : List ℕ). put RET_UNLINK (put seqnum t)) (e1 ∙ ap (λ (t : List ℕ). put devid t) (e2 ∙ ap (λ (t : List ℕ). put direction t) (e3 ∙ ap (λ (t : List ℕ). put ep t) (e4 ∙ ap (λ (t : List ℕ). put status t) (e5 ∙ ap (λ (t : List ℕ). padding ++ t) none ∙ append-nil padding))))) in
    subst (λ (u : Down). Means Urbs entries u bytes) same (
      found,
      record {
        rest = record { devid = devid; direction = direction; ep = ep; padding = padding };
        status = ap (λ n. cast_signed w32 n) code;
        padded = l5;
        wide = each_wide (RET_UNLINK ∷ seqnum ∷ devid ∷ direction ∷ ep ∷ cast_unsigned w32 (cast_signed w32 status) ∷ []) (lit< tt, (ls, (l1, (l2, (l3, (rw code l4, tt))))));
        layout = rw code all;
      },
    )

-- what follows the command of an answer
abbrev answer_rest : List Outstanding → ℕ → Form Down
answer_rest entries command =
    cond (eqb command RET_SUBMIT)
    (Judged Four SEQNUM (λ seqnum. is_some (submit_of (find seqnum entries))) (λ seqnum. ret_submit_form seqnum (submit_of (find seqnum entries))))
    (Judged Four SEQNUM (λ seqnum. is_unlink (find seqnum entries)) (λ seqnum. ret_unlink_form seqnum))

submit_answer : (entries : List Outstanding) (what : Down) (bytes r1 : List ℕ) → bytes ≡ put RET_SUBMIT r1 → Spelled (answer_rest entries RET_SUBMIT) what r1 → Means Urbs entries what bytes
submit_answer entries what bytes r1 e1 (seqnum, r2, l2, a2, e2, s) =
    ret_submit_sound entries seqnum (submit_of (find seqnum entries)) what bytes r2 l2 refl a2 (e1 ∙ ap (λ (t : List ℕ). put RET_SUBMIT t) e2) s

unlink_answer : (entries : List Outstanding) (what : Down) (bytes r1 : List ℕ) → bytes ≡ put RET_UNLINK r1 → Spelled (answer_rest entries RET_UNLINK) what r1 → Means Urbs entries what bytes
unlink_answer entries what bytes r1 e1 (seqnum, r2, l2, a2, e2, s) =
    ret_unlink_sound entries seqnum what bytes r2 l2 a2 (e1 ∙ ap (λ (t : List ℕ). put RET_UNLINK t) e2) s

pub answer_sound : (entries : List Outstanding) (what : Down) (bytes : List ℕ) → Spelled (answer_form entries) what bytes → Means Urbs entries what bytes
answer_sound entries what bytes (command, r1, l1, a1, e1, tail) =
    let P : ℕ → Type 0 = λ c. (bytes ≡ put c r1) × Spelled (answer_rest entries c) what r1 in
    elim (two_commands P RET_SUBMIT RET_UNLINK command a1 (e1, tail)) [
      | inl h ↦ submit_answer entries what bytes r1 h.0 h.1
      | inr h ↦ unlink_answer entries what bytes r1 h.0 h.1
    ]

-- a message without its data
abbrev pub head_of : Message → Down
head_of (RetSubmit head transferred) = down.RetSubmit head
head_of (RetUnlink head) = down.RetUnlink head

pub answer_complete : (entries : List Outstanding) (message : Message) (bytes : List ℕ) → SpellsAnswer entries message bytes → Spelled (answer_form entries) (head_of message) bytes
unfolding ret_submit_form ret_submit_bytes ret_unlink_form ret_unlink_bytes fields
answer_complete entries (RetSubmit head transferred) bytes (asked, found, s) =
    let w = s.wide in (
      RET_SUBMIT,
      _,
      lit< tt,
      refl,
      s.layout,
      (
        head.seqnum,
        _,
        w 1,
        ap (λ (o : Option (Dir × ℕ)). is_some o) found,
        refl,
        (
          s.rest.devid,
          _,
          w 2,
          refl,
          (
            s.rest.direction,
            _,
            w 3,
            refl,
            (
              s.rest.ep,
              _,
              w 4,
              refl,
              (
                cast_unsigned w32 head.status,
                _,
                w 5,
                refl,
                (
                  head.actual,
                  _,
                  w 6,
                  rw found (le-leb head.actual asked.size s.within),
                  refl,
                  (
                    s.rest.start_frame,
                    _,
                    w 7,
                    refl,
                    (
                      s.rest.number_of_packets,
                      _,
                      w 8,
                      packet_count_no s.rest.number_of_packets s.packets,
                      refl,
                      (
                        s.rest.error_count,
                        _,
                        w 9,
                        refl,
                        (
                          s.rest.padding_high,
                          _,
                          w 10,
                          refl,
                          (
                            s.rest.padding_low,
                            transferred,
                            w 11,
                            refl,
                            (
                              transferred,
                              [],
                              rw found (returns_len asked.dir head.actual transferred s.returned),
                              sym (append-nil transferred),
                              (ap (λ z. down.RetSubmit (record head { status = z })) s.status, refl),
                            ),
                          ),
                        ),
                      ),
                    ),
                  ),
                ),
              ),
            ),
          ),
        ),
      ),
    )
answer_complete entries (RetUnlink head) bytes (found, s) =
    let w = s.wide in (
      RET_UNLINK,
      _,
      lit< tt,
      refl,
      s.layout,
      (
        head.seqnum,
        _,
        w 1,
        found,
        refl,
        (
          s.rest.devid,
          _,
          w 2,
          refl,
          (
            s.rest.direction,
            _,
            w 3,
            refl,
            (
              s.rest.ep,
              _,
              w 4,
              refl,
              (
                cast_unsigned w32 head.status,
                s.rest.padding,
                w 5,
                refl,
                (
                  s.rest.padding,
                  [],
                  s.padded,
                  sym (append-nil s.rest.padding),
                  (ap (λ z. down.RetUnlink (record head { status = z })) s.status, refl),
                ),
              ),
            ),
          ),
        ),
      ),
    )

-- ---- parts of the operations

four_cells : (xs : List ℕ) → length xs ≡ 4 → xs ≡ get_or xs 0 0 ∷ get_or xs 1 0 ∷ get_or xs 2 0 ∷ get_or xs 3 0 ∷ []
four_cells [] e = absurd (omega (arith, e))
four_cells (a ∷ []) e = absurd (omega (arith, e))
four_cells (a ∷ b ∷ []) e = absurd (omega (arith, e))
four_cells (a ∷ b ∷ c ∷ []) e = absurd (omega (arith, e))
four_cells (a ∷ b ∷ c ∷ d ∷ []) e = refl
four_cells (a ∷ b ∷ c ∷ d ∷ x ∷ xs) e = absurd (omega (arith, e))

five_cells : (xs : List ℕ) → length xs ≡ 5 → xs ≡ get_or xs 0 0 ∷ get_or xs 1 0 ∷ get_or xs 2 0 ∷ get_or xs 3 0 ∷ get_or xs 4 0 ∷ []
five_cells [] e = absurd (omega (arith, e))
five_cells (a ∷ xs) e = ap (λ (t : List ℕ). a ∷ t) (four_cells xs (omega (arith, e)))

six_cells : (xs : List ℕ) → length xs ≡ 6 → xs ≡ get_or xs 0 0 ∷ get_or xs 1 0 ∷ get_or xs 2 0 ∷ get_or xs 3 0 ∷ get_or xs 4 0 ∷ get_or xs 5 0 ∷ []
six_cells [] e = absurd (omega (arith, e))
six_cells (a ∷ xs) e = ap (λ (t : List ℕ). a ∷ t) (five_cells xs (omega (arith, e)))

-- a record in its layout
pub record IsTold (of : RecordOf) (what : Down) (bytes : List ℕ) : Type 0 where
  pub device : DeviceRecord
  pub told : record_told of device ≡ what
  pub fits : IsRecord device
  pub layout : bytes ≡ record_bytes device

pub record_sound : (of : RecordOf) (what : Down) (bytes : List ℕ) → Spelled (record_form of) what bytes → IsTold of what bytes
unfolding record_form record_bytes fields halves
record_sound of what bytes (path, r1, l1, e1, (busid, r2, l2, e2, (busnum, r3, l3, e3, (devnum, r4, l4, e4, (speed, r5, l5, e5, (vendor, r6, l6, e6, (product, r7, l7, e7, (bcd, r8, l8, e8, (last, r9, l9, e9, (same, none)))))))))) =
    let cells = six_cells last l9 in
    let all : bytes ≡ path ++ (busid ++ put busnum (put devnum (put speed (two vendor (two product (two bcd last)))))) =
    e1 ∙ ap (λ (t : List ℕ). path ++ t) (e2 ∙ ap (λ (t : List ℕ). busid ++ t) (e3 ∙ ap (λ (t : List ℕ). put busnum t) (e4 ∙ ap (λ (t : List ℕ). put devnum t) (e5 ∙ ap (λ (t : List ℕ). put speed t) (e6 ∙ ap (λ (t : List ℕ). two vendor t) (e7 ∙ ap (λ (t : List ℕ). two product t) (e8 ∙ ap (λ (t : List ℕ). two bcd t) (e9 ∙ ap (λ (t : List ℕ). last ++ t) none ∙ append-nil last)))))))) in
    record {
      device = _;
      told = same;
      fits = record { path = l1; busid = l2; busnum = l3; devnum = l4; speed = l5; id_vendor = l6; id_product = l7; bcd_device = l8 };
      layout = all ∙ ap (λ (t : List ℕ). path ++ (busid ++ put busnum (put devnum (put speed (two vendor (two product (two bcd t))))))) cells;
    }

pub record_complete : (of : RecordOf) (device : DeviceRecord) (bytes : List ℕ) → IsRecord device → bytes ≡ record_bytes device → Spelled (record_form of) (record_told of device) bytes
unfolding record_form record_bytes fields halves
record_complete of d bytes fits layout =
    let last : List ℕ = d.device_class ∷ d.device_subclass ∷ d.device_protocol ∷ d.configuration_value ∷ d.configurations ∷ d.interfaces ∷ [] in (
      d.path,
      _,
      fits.path,
      layout,
      (
        d.busid,
        _,
        fits.busid,
        refl,
        (
          d.busnum,
          _,
          fits.busnum,
          refl,
          (
            d.devnum,
            _,
            fits.devnum,
            refl,
            (
              d.speed,
              _,
              fits.speed,
              refl,
              (
                d.id_vendor,
                _,
                fits.id_vendor,
                refl,
                (
                  d.id_product,
                  _,
                  fits.id_product,
                  refl,
                  (
                    d.bcd_device,
                    last,
                    fits.bcd_device,
                    refl,
                    (last, [], refl, refl, (refl, refl)),
                  ),
                ),
              ),
            ),
          ),
        ),
      ),
    )

-- what follows the status of a reply
abbrev reply_rest : ℕ → ℕ → Form Down
reply_rest status code =
    cond (eqb code REP_DEVLIST) (Number Four (λ devices. Done (down.Count status devices)))
    (cond (eqb status 0) (record_form part.Import) (Done (down.Import status None)))

abbrev head : ℕ → ℕ → List ℕ → List ℕ
head code status rest = two USBIP_VERSION (two code (put status rest))

list_sound : (status : ℕ) (what : Down) (bytes rest : List ℕ) → status < 2 ^ 32 → bytes ≡ head REP_DEVLIST status rest
    → Spelled (reply_rest status REP_DEVLIST) what rest → SpellsPart 0 0 what bytes
unfolding op_header
list_sound status what bytes rest ls e (devices, r, l, ed, (same, none)) =
    subst (λ (u : Down). SpellsPart 0 0 u bytes) same
    (refl, refl, ls, l, e ∙ ap (λ (t : List ℕ). head REP_DEVLIST status t) (ed ∙ ap (λ (t : List ℕ). put devices t) none))

import_sound : (status : ℕ) (what : Down) (bytes rest : List ℕ) → status < 2 ^ 32 → bytes ≡ head REP_IMPORT status rest
    → Spelled (reply_rest status REP_IMPORT) what rest → SpellsPart 0 0 what bytes
unfolding op_header
import_sound status what bytes rest ls e s =
    elim (cases_eq status 0) [
      | inl zero_is ↦
          let t : Spelled (record_form part.Import) what rest = rw (eq-eqb status 0 zero_is) at s in
          let r = record_sound part.Import what rest t in
          subst (λ (u : Down). SpellsPart 0 0 u bytes) r.told
          (refl, refl, record { wide = lit< tt; imported = (refl, r.fits); layout = subst (λ n. bytes ≡ head REP_IMPORT n (record_bytes r.device)) zero_is (e ∙ ap (λ (t : List ℕ). head REP_IMPORT status t) r.layout) })
      | inr some ↦
          let t : Spelled (Done (down.Import status None)) what rest = rw (ne_eqb status 0 some) at s in
          subst (λ (u : Down). SpellsPart 0 0 u bytes) t.0
          (refl, refl, record { wide = ls; imported = some; layout = e ∙ ap (λ (t : List ℕ). head REP_IMPORT status t) t.1 })
    ]

reply_sound : (what : Down) (bytes : List ℕ) → Spelled reply_form what bytes → SpellsPart 0 0 what bytes
reply_sound what bytes (version, r1, l1, a1, e1, (code, r2, l2, a2, e2, (status, r3, l3, e3, tail))) =
    let is_version : version ≡ USBIP_VERSION = eqb-true version USBIP_VERSION a1 in
    let all : bytes ≡ two version (two code (put status r3)) = e1 ∙ ap (λ (t : List ℕ). two version t) (e2 ∙ ap (λ (t : List ℕ). two code t) e3) in
    let P : ℕ → Type 0 = λ c. (bytes ≡ head c status r3) × Spelled (reply_rest status c) what r3 in
    elim (two_commands P REP_DEVLIST REP_IMPORT code a2 (subst (λ v. bytes ≡ two v (two code (put status r3))) is_version all, tail)) [
      | inl h ↦ list_sound status what bytes r3 l3 h.0 h.1
      | inr h ↦ import_sound status what bytes r3 l3 h.0 h.1
    ]

pub nonzero : (n : ℕ) → eqb (suc n) 0 ≡ false
nonzero n = ne_eqb (suc n) 0 (λ e. absurd (omega (arith, e)))

interface_sound : (devices interfaces : ℕ) (what : Down) (bytes : List ℕ) → Spelled interface_form what bytes → SpellsPart devices (suc interfaces) what bytes
interface_sound devices interfaces what bytes (cells, r, l, e, (same, none)) =
    subst (λ (u : Down). SpellsPart devices (suc interfaces) u bytes) same
    (omega arith, get_or cells 3 0, e ∙ (ap (λ (t : List ℕ). cells ++ t) none ∙ (append-nil cells ∙ four_cells cells l)))

pub ops_sound : (devices interfaces : ℕ) (what : Down) (bytes : List ℕ) → Spelled (ops_form devices interfaces) what bytes → SpellsPart devices interfaces what bytes
ops_sound zero zero what bytes s = reply_sound what bytes s
ops_sound (suc devices) zero what bytes s =
    let t : Spelled (record_form part.List) what bytes = rw (nonzero devices) at s in
    let r = record_sound part.List what bytes t in
    subst (λ (u : Down). SpellsPart (suc devices) 0 u bytes) r.told (omega arith, refl, r.fits, r.layout)
ops_sound devices (suc interfaces) what bytes s =
    let t : Spelled interface_form what bytes = rw (nonzero interfaces) at s in
    interface_sound devices interfaces what bytes t

pub ops_complete : (devices interfaces : ℕ) (what : Down) (bytes : List ℕ) → SpellsPart devices interfaces what bytes → Spelled (ops_form devices interfaces) what bytes
unfolding op_header
ops_complete zero zero (down.Count status number) bytes (d, i, ls, ln, e) =
    (USBIP_VERSION, _, lit< tt, refl, e, (REP_DEVLIST, _, lit< tt, refl, refl, (status, _, ls, refl, (number, [], ln, refl, (refl, refl)))))
ops_complete (suc devices) interfaces (down.Count status number) bytes (d, i, ls, ln, e) = absurd (omega (arith, d))
ops_complete zero (suc interfaces) (down.Count status number) bytes (d, i, ls, ln, e) = absurd (omega (arith, i))
ops_complete zero interfaces (down.Device device) bytes (d, i, f, e) = absurd (omega (arith, d))
ops_complete (suc devices) zero (down.Device device) bytes (d, i, f, e) =
    rw (nonzero devices) (record_complete part.List device bytes f e)
ops_complete (suc devices) (suc interfaces) (down.Device device) bytes (d, i, f, e) = absurd (omega (arith, i))
ops_complete devices zero (down.Interface class subclass protocol) bytes (i, padding, e) = absurd (omega (arith, i))
ops_complete devices (suc interfaces) (down.Interface class subclass protocol) bytes (i, padding, e) =
    let t : Spelled interface_form (down.Interface class subclass protocol) bytes = (class ∷ subclass ∷ protocol ∷ padding ∷ [], [], refl, e, (refl, refl)) in
    rw (nonzero interfaces) t
ops_complete zero zero (down.Import status None) bytes (d, i, s) = (
  USBIP_VERSION,
  _,
  lit< tt,
  refl,
  s.layout,
  (
    REP_IMPORT,
    _,
    lit< tt,
    refl,
    refl,
    (
      status,
      [],
      s.wide,
      refl,
      subst (λ b. Spelled (cond b (record_form part.Import) (Done (down.Import status None))) (down.Import status None) []) (sym (ne_eqb status 0 s.imported)) (refl, refl),
    ),
  ),
)
ops_complete zero zero (down.Import status (Some device)) bytes (d, i, s) =
    let zero_is : 0 ≡ status = sym s.imported.0 in
    subst (λ n. Spelled (ops_form 0 0) (down.Import n (Some device)) bytes) zero_is (
      USBIP_VERSION,
      _,
      lit< tt,
      refl,
      subst (λ n. bytes ≡ import_bytes n (Some device)) s.imported.0 s.layout,
      (
        REP_IMPORT,
        _,
        lit< tt,
        refl,
        refl,
        (
          0,
          record_bytes device,
          lit< tt,
          refl,
          record_complete part.Import device (record_bytes device) s.imported.1 refl,
        ),
      ),
    )
ops_complete (suc devices) interfaces (down.Import status device) bytes (d, i, s) = absurd (omega (arith, d))
ops_complete zero (suc interfaces) (down.Import status device) bytes (d, i, s) = absurd (omega (arith, i))
ops_complete devices interfaces (down.RetSubmit answer) bytes s = absurd s
ops_complete devices interfaces (down.RetUnlink answer) bytes s = absurd s
ops_complete devices interfaces down.More bytes s = absurd s
ops_complete devices interfaces (down.Bad f) bytes s = absurd s

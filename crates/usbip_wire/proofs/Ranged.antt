-- messages in range have spellings, each of its length
use Rattle.std.proofs.Common.{◌≡◌, ℕ, ◌+◌, ◌<◌, ◌^◌, Some, None, List, ◌++◌, length, refl, inl, arith, lit<}
use Rattle.std.proofs.lemmas.List.{length-append}
use Rattle.usbip_wire.specs.declared.device.DeviceRecord.{DeviceRecord}
use Rattle.usbip_wire.specs.declared.device.TheConstants.{DEVICE_RECORD}
use Rattle.usbip_wire.specs.declared.down.Down.{Down}
use Rattle.usbip_wire.specs.declared.down.Down.TheVariants as part
use Rattle.usbip_wire.specs.declared.op_request.OpRequest.{OpRequest}
use Rattle.usbip_wire.specs.declared.op_request.OpRequest.TheVariants.{DevList, Import}
use Rattle.usbip_wire.specs.declared.ret_submit.RetSubmitHead.{RetSubmitHead}
use Rattle.usbip_wire.specs.declared.ret_unlink.RetUnlinkHead.{RetUnlinkHead}
use Rattle.usbip_wire.specs.declared.submit.SubmitHead.{SubmitHead}
use Rattle.usbip_wire.specs.declared.unlink.UnlinkHead.{UnlinkHead}
use Rattle.usbip_wire.specs.declared.urb.Dir.{Dir}
use Rattle.usbip_wire.specs.declared.urb.Dir.TheVariants.{Out, In}
use Rattle.usbip_wire.specs.Device.{IsRecord, record_bytes}
use Rattle.usbip_wire.specs.DevList.{SpellsPart}
use Rattle.usbip_wire.specs.Down as down
use Rattle.usbip_wire.specs.Laws.{HaveSpellings}
use Rattle.usbip_wire.specs.Op.{op_header}
use Rattle.usbip_wire.specs.OpRequest.{IsRequest, SpellsRequest, request_size}
use Rattle.usbip_wire.specs.Range.{IsSubmit, IsUnlink, IsRetSubmit, IsRetUnlink, IsSent, sent_bytes, sent_size, IsAnswer, answer_bytes, answer_size, written_request, IsPart, part_bytes, part_size}
use Rattle.usbip_wire.specs.RetSubmit as ret_submit
use Rattle.usbip_wire.specs.RetSubmit.{Asked, SpellsRetSubmit, ret_submit_bytes, ret_submit_words}
use Rattle.usbip_wire.specs.RetUnlink as ret_unlink
use Rattle.usbip_wire.specs.RetUnlink.{SpellsRetUnlink, ret_unlink_bytes, ret_unlink_words}
use Rattle.usbip_wire.specs.Submit as submit
use Rattle.usbip_wire.specs.Submit.{SpellsSubmit, submit_bytes, submit_words}
use Rattle.usbip_wire.specs.Unlink as unlink
use Rattle.usbip_wire.specs.Unlink.{SpellsUnlink, unlink_bytes, unlink_words}
use Rattle.usbip_wire.specs.Up as up
use Rattle.usbip_wire.specs.Urb.{direction_code, fields, halves}
use Rattle.usbip_wire.proofs.Wide.{each_wide}

code_small : (dir : Dir) → direction_code dir < 2 ^ 32
code_small Out = lit< tt
code_small In = lit< tt

-- ---- submits

submit_spelled : (devid : ℕ) (head : SubmitHead) (transferred : List ℕ) → IsSubmit devid head transferred
    → SpellsSubmit devid head transferred (submit_bytes head submit.unused transferred)
submit_spelled devid head transferred is = record {
  rest = submit.unused;
  imported = is.imported;
  endpoint = is.endpoint;
  short = is.short;
  packets = inl refl;
  setup = is.setup;
  carried = is.carried;
  wide = each_wide (submit_words head submit.unused)
      (lit< tt, (is.number, (omega (arith, is.imported, is.wide), (code_small head.dir, (omega (arith, is.endpoint), (lit< tt, (omega (arith, is.short), (lit< tt, (lit< tt, (lit< tt, tt))))))))));
  layout = refl;
}

submit_ranged : (devid : ℕ) (head : SubmitHead) (transferred bytes : List ℕ) → SpellsSubmit devid head transferred bytes → IsSubmit devid head transferred
submit_ranged devid head transferred bytes s = record {
  imported = s.imported;
  wide = omega (arith, s.imported, s.wide 2);
  number = s.wide 1;
  endpoint = s.endpoint;
  short = s.short;
  setup = s.setup;
  carried = s.carried;
}

submit_sized : (devid : ℕ) (head : SubmitHead) (transferred bytes : List ℕ) → SpellsSubmit devid head transferred bytes → length bytes ≡ 48 + length transferred
unfolding submit_bytes fields
submit_sized devid head transferred bytes s = rw s.layout (omega (arith, length-append head.setup transferred, s.setup))

-- ---- unlinks

unlink_spelled : (devid : ℕ) (head : UnlinkHead) → IsUnlink devid head → SpellsUnlink devid head (unlink_bytes head unlink.unused)
unlink_spelled devid head is = record {
  rest = unlink.unused;
  imported = is.imported;
  padded = refl;
  wide = each_wide (unlink_words head unlink.unused) (lit< tt, (is.number, (omega (arith, is.imported, is.wide), (lit< tt, (lit< tt, (is.target, tt))))));
  layout = refl;
}

unlink_ranged : (devid : ℕ) (head : UnlinkHead) (bytes : List ℕ) → SpellsUnlink devid head bytes → IsUnlink devid head
unlink_ranged devid head bytes s = record { imported = s.imported; wide = omega (arith, s.imported, s.wide 2); number = s.wide 1; target = s.wide 5 }

unlink_sized : (devid : ℕ) (head : UnlinkHead) (bytes : List ℕ) → SpellsUnlink devid head bytes → length bytes ≡ 48
unfolding unlink_bytes fields
unlink_sized devid head bytes s = rw s.layout (omega (arith, s.padded))

pub urbs_have : (devid : ℕ) → HaveSpellings (IsSent devid) sent_bytes sent_size (up.Spells devid)
urbs_have devid = record { spelled = spelled; ranged = ranged; sized = sized }
  where
    spelled : (m : up.Message) → IsSent devid m → up.Spells devid m (sent_bytes m)
    spelled (up.Submit head transferred) is = submit_spelled devid head transferred is
    spelled (up.Unlink head) is = unlink_spelled devid head is

    ranged : (m : up.Message) (bytes : List ℕ) → up.Spells devid m bytes → IsSent devid m
    ranged (up.Submit head transferred) bytes s = submit_ranged devid head transferred bytes s
    ranged (up.Unlink head) bytes s = unlink_ranged devid head bytes s

    sized : (m : up.Message) (bytes : List ℕ) → up.Spells devid m bytes → length bytes ≡ sent_size m
    sized (up.Submit head transferred) bytes s = submit_sized devid head transferred bytes s
    sized (up.Unlink head) bytes s = unlink_sized devid head bytes s

-- ---- answers

ret_submit_spelled : (asked : Asked) (head : RetSubmitHead) (transferred : List ℕ) → IsRetSubmit asked head transferred
    → SpellsRetSubmit asked head transferred (ret_submit_bytes head ret_submit.unused transferred)
ret_submit_spelled asked head transferred is = record {
  rest = ret_submit.unused;
  within = is.within;
  packets = inl refl;
  status = is.status.1;
  wide = each_wide (ret_submit_words head ret_submit.unused) (lit< tt, (is.number, (lit< tt, (lit< tt, (lit< tt, (is.status.0, (is.wide, (lit< tt, (lit< tt, (lit< tt, (lit< tt, (lit< tt, tt))))))))))));
  returned = is.returned;
  layout = refl;
}

ret_submit_sized : (asked : Asked) (head : RetSubmitHead) (transferred bytes : List ℕ) → SpellsRetSubmit asked head transferred bytes → length bytes ≡ 48 + length transferred
unfolding ret_submit_bytes fields
ret_submit_sized asked head transferred bytes s = rw s.layout (omega arith)

ret_unlink_spelled : (head : RetUnlinkHead) → IsRetUnlink head → SpellsRetUnlink head (ret_unlink_bytes head ret_unlink.unused)
ret_unlink_spelled head is = record {
  rest = ret_unlink.unused;
  status = is.status.1;
  padded = refl;
  wide = each_wide (ret_unlink_words head ret_unlink.unused) (lit< tt, (is.number, (lit< tt, (lit< tt, (lit< tt, (is.status.0, tt))))));
  layout = refl;
}

ret_unlink_sized : (head : RetUnlinkHead) (bytes : List ℕ) → SpellsRetUnlink head bytes → length bytes ≡ 48
unfolding ret_unlink_bytes fields
ret_unlink_sized head bytes s = rw s.layout (omega (arith, s.padded))

pub answers_have : (asked : Asked) → HaveSpellings (IsAnswer asked) answer_bytes answer_size (down.Spells asked)
answers_have asked = record { spelled = spelled; ranged = ranged; sized = sized }
  where
    spelled : (m : down.Message) → IsAnswer asked m → down.Spells asked m (answer_bytes m)
    spelled (down.RetSubmit head transferred) is = ret_submit_spelled asked head transferred is
    spelled (down.RetUnlink head) is = ret_unlink_spelled head is

    ranged : (m : down.Message) (bytes : List ℕ) → down.Spells asked m bytes → IsAnswer asked m
    ranged (down.RetSubmit head transferred) bytes s =
        record { number = s.wide 1; status = (s.wide 5, s.status); wide = s.wide 6; within = s.within; returned = s.returned }
    ranged (down.RetUnlink head) bytes s = record { number = s.wide 1; status = (s.wide 5, s.status) }

    sized : (m : down.Message) (bytes : List ℕ) → down.Spells asked m bytes → length bytes ≡ answer_size m
    sized (down.RetSubmit head transferred) bytes s = ret_submit_sized asked head transferred bytes s
    sized (down.RetUnlink head) bytes s = ret_unlink_sized head bytes s

-- ---- operations

request_sized : (m : OpRequest) (bytes : List ℕ) → SpellsRequest m bytes → length bytes ≡ request_size m
unfolding op_header
request_sized DevList bytes s = rw s.layout refl
request_sized (Import busid) bytes s = rw s.layout (omega (arith, s.whole))

pub requests_have : HaveSpellings IsRequest written_request request_size SpellsRequest
requests_have = record {
  spelled = λ m is. record { status = 0; wide = lit< tt; whole = is; layout = refl };
  ranged = λ m bytes s. s.whole;
  sized = request_sized;
}

two_and : (xs ys zs : List ℕ) → length xs ≡ 256 → length ys ≡ 32 → length (xs ++ (ys ++ zs)) ≡ 288 + length zs
two_and xs ys zs long short = omega (arith, length-append xs (ys ++ zs), length-append ys zs, long, short)

record_sized : (device : DeviceRecord) → IsRecord device → length (record_bytes device) ≡ DEVICE_RECORD
unfolding record_bytes fields halves
record_sized device is = two_and device.path device.busid _ is.path is.busid

import_sized : (status : ℕ) (device : DeviceRecord) → IsRecord device → length (op_header 3 status ++ record_bytes device) ≡ 8 + DEVICE_RECORD
unfolding op_header
import_sized status device is = omega (arith, record_sized device is)

pub parts_have : (devices interfaces : ℕ) → HaveSpellings (IsPart devices interfaces) part_bytes part_size (SpellsPart devices interfaces)
unfolding op_header
parts_have devices interfaces = record { spelled = spelled; ranged = ranged; sized = sized }
  where
    spelled : (m : Down) → IsPart devices interfaces m → SpellsPart devices interfaces m (part_bytes m)
    spelled (part.Count status number) is = (is.0, is.1, is.2, is.3, refl)
    spelled (part.Device device) is = (is.0, is.1, is.2, refl)
    spelled (part.Interface class subclass protocol) is = (is, 0, refl)
    spelled (part.Import status device) is = (is.0, is.1, record { wide = is.2; imported = is.3; layout = refl })
    spelled (part.RetSubmit head) is = absurd is
    spelled (part.RetUnlink head) is = absurd is
    spelled part.More is = absurd is
    spelled (part.Bad f) is = absurd is

    ranged : (m : Down) (bytes : List ℕ) → SpellsPart devices interfaces m bytes → IsPart devices interfaces m
    ranged (part.Count status number) bytes s = (s.0, s.1, s.2, s.3)
    ranged (part.Device device) bytes s = (s.0, s.1, s.2)
    ranged (part.Interface class subclass protocol) bytes s = s.0
    ranged (part.Import status device) bytes s = (s.0, s.1, s.2.wide, s.2.imported)
    ranged (part.RetSubmit head) bytes s = absurd s
    ranged (part.RetUnlink head) bytes s = absurd s
    ranged part.More bytes s = absurd s
    ranged (part.Bad f) bytes s = absurd s

    sized : (m : Down) (bytes : List ℕ) → SpellsPart devices interfaces m bytes → length bytes ≡ part_size m
    sized (part.Count status number) bytes s = rw s.4 refl
    sized (part.Device device) bytes s = rw s.3 (record_sized device s.2)
    sized (part.Interface class subclass protocol) bytes s = rw s.2 refl
    sized (part.Import status None) bytes s = rw s.2.layout refl
    sized (part.Import status (Some device)) bytes s = rw s.2.layout (import_sized status device s.2.imported.1)
    sized (part.RetSubmit head) bytes s = absurd s
    sized (part.RetUnlink head) bytes s = absurd s
    sized part.More bytes s = absurd s
    sized (part.Bad f) bytes s = absurd s

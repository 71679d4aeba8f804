-- a client's messages by their layout, and field by field
use Rattle.std.proofs.Common.{◌≡◌, ℕ, zero, suc, ◌^◌, ◌<◌, true, cond, ltb, eqb, ◌||◌, List, [], ◌∷◌, ◌++◌, length, drop, refl, sym, ap, subst, ◌∙◌, arith, inl, inr, ◌⊎◌, lit<, eq-eqb}
use Rattle.std.specs.Int.{w16, w32, to_be_bytes}
use Rattle.std.proofs.lemmas.Bool.{ltb-true, le-leb, leb-true, eqb-true, or_cases, or_left, or_right}
use Rattle.std.proofs.lemmas.List.{drop_at, append-nil}
use Rattle.tmc_base.specs.declared.limits.TheConstants.{SUBMIT_MAX}
use Rattle.usbip_wire.specs.declared.urb.Dir.{Dir}
use Rattle.usbip_wire.specs.declared.urb.Dir.TheVariants.{Out, In}
use Rattle.usbip_wire.specs.declared.urb.TheConstants.{CMD_SUBMIT, CMD_UNLINK, ENDPOINT_MAX, NOT_ISOCHRONOUS}
use Rattle.usbip_wire.specs.declared.op.TheConstants.{USBIP_VERSION, REQ_DEVLIST, REQ_IMPORT}
use Rattle.usbip_wire.specs.declared.op_request.OpRequest.{OpRequest}
use Rattle.usbip_wire.specs.declared.op_request.OpRequest.TheVariants.{DevList, Import}
use Rattle.usbip_wire.specs.declared.up.Up.{Up}
use Rattle.usbip_wire.specs.declared.up.Up.TheVariants as up
use Rattle.usbip_wire.specs.declared.up.UpPhase.TheVariants.{Ops, Urbs}
use Rattle.usbip_wire.specs.Form.{Spelled, Block, Done}
use Rattle.usbip_wire.specs.Op.{op_header}
use Rattle.usbip_wire.specs.OpRequest.{SpellsRequest}
use Rattle.usbip_wire.specs.Submit.{Carries, submit_bytes}
use Rattle.usbip_wire.specs.Unlink.{unlink_bytes}
use Rattle.usbip_wire.specs.Up.{Message, Submit, Unlink, Spells}
use Rattle.usbip_wire.specs.UpFed.{Means}
use Rattle.usbip_wire.proofs.Wide.{each_wide}
use Rattle.usbip_wire.specs.UpForm.{request_form, submit_form, unlink_form, urb_form}
use Rattle.usbip_wire.specs.Urb.{IsNoPacketCount, fields, direction_code, dir_of, carried, is_no_packet_count}

abbrev put : ℕ → List ℕ → List ℕ
put n rest = to_be_bytes w32 n ++ rest

pub no_packet_count : (n : ℕ) → is_no_packet_count n ≡ true → IsNoPacketCount n
no_packet_count n e = elim (or_cases (eqb n NOT_ISOCHRONOUS) (eqb n 0) e) [ inl h ↦ inl (eqb-true n NOT_ISOCHRONOUS h) | inr h ↦ inr (eqb-true n 0 h) ]

pub packet_count_no : (n : ℕ) → IsNoPacketCount n → is_no_packet_count n ≡ true
packet_count_no n (inl h) = or_left (eqb n NOT_ISOCHRONOUS) (eqb n 0) (eq-eqb n NOT_ISOCHRONOUS h)
packet_count_no n (inr h) = or_right (eqb n NOT_ISOCHRONOUS) (eqb n 0) (eq-eqb n 0 h)

pub code_of_dir : (n : ℕ) → n < 2 → direction_code (dir_of n) ≡ n
code_of_dir zero lt = refl
code_of_dir (suc zero) lt = refl
code_of_dir (suc (suc n)) lt = absurd (omega arith)

pub dir_of_code : (dir : Dir) → dir_of (direction_code dir) ≡ dir
dir_of_code Out = refl
dir_of_code In = refl

code_below : (dir : Dir) → ltb (direction_code dir) 2 ≡ true
code_below Out = refl
code_below In = refl

pub carries : (dir : Dir) (size : ℕ) (transferred : List ℕ) → length transferred ≡ carried dir size → Carries dir size transferred
carries Out size transferred e = e
carries In size [] e = refl
carries In size (x ∷ xs) e = absurd (omega (arith, e))

pub carries_len : (dir : Dir) (size : ℕ) (transferred : List ℕ) → Carries dir size transferred → length transferred ≡ carried dir size
carries_len Out size transferred e = e
carries_len In size transferred e = ap (λ (t : List ℕ). length t) e

-- a URB message's command, where it is one of two
pub two_commands : (P : ℕ → Type 0) (m n command : ℕ) → (eqb command m || eqb command n) ≡ true → P command → P m ⊎ P n
two_commands P m n command e h =
    elim (or_cases (eqb command m) (eqb command n) e) [
      | inl x ↦ inl (subst P (eqb-true command m x) h)
      | inr x ↦ inr (subst P (eqb-true command n x) h)
    ]

submit_sound : (devid seqnum number : ℕ) (what : Up) (bytes rest : List ℕ) → seqnum < 2 ^ 32 → number < 2 ^ 32 → number ≡ devid
    → bytes ≡ put CMD_SUBMIT (put seqnum (put number rest)) → Spelled (submit_form seqnum number) what rest → Means (Urbs devid) what bytes
unfolding submit_form submit_bytes fields
submit_sound devid seqnum number what bytes rest ls ln imported e0 (direction, r1, l1, a1, e1, (ep, r2, l2, a2, e2, (flags, r3, l3, e3, (size, r4, l4, a4, e4, (start, r5, l5, e5, (packets, r6, l6, a6, e6, (interval, r7, l7, e7, (setup, r8, l8, e8, (transferred, r9, l9, e9, (same, none)))))))))) =
    let code : direction_code (dir_of direction) ≡ direction = code_of_dir direction (ltb-true direction 2 a1) in
    let front : List ℕ = fields (CMD_SUBMIT ∷ seqnum ∷ number ∷ direction ∷ ep ∷ flags ∷ size ∷ start ∷ packets ∷ interval ∷ []) in
    let all : bytes ≡ put CMD_SUBMIT (put seqnum (put number (put direction (put ep (put flags (put size (put start (put packets (put interval (setup ++ transferred)))))))))) =
    e0 ∙ ap (λ (t : List ℕ). put CMD_SUBMIT (put seqnum (put number t))) (e1 ∙ ap (λ (t : List ℕ). put direction t) (e2 ∙ ap (λ (t : List ℕ). put ep t) (e3 ∙ ap (λ (t : List ℕ). put flags t) (e4 ∙ ap (λ (t : List ℕ). put size t) (e5 ∙ ap (λ (t : List ℕ). put start t) (e6 ∙ ap (λ (t : List ℕ). put packets t) (e7 ∙ ap (λ (t : List ℕ). put interval t) (e8 ∙ ap (λ (t : List ℕ). setup ++ t) (e9 ∙ ap (λ (t : List ℕ). transferred ++ t) none ∙ append-nil transferred))))))))) in
    let behind : drop 48 bytes ≡ transferred = rw all (drop_at setup transferred 8 l8) in
    subst (λ (u : Up). Means (Urbs devid) u bytes) same
    (record {
      rest = record { transfer_flags = flags; start_frame = start; number_of_packets = packets; interval = interval };
      imported = imported;
      endpoint = leb-true ep ENDPOINT_MAX a2;
      short = leb-true size SUBMIT_MAX a4;
      packets = no_packet_count packets a6;
      setup = l8;
      carried = rw behind (carries (dir_of direction) size transferred l9);
      wide = each_wide (CMD_SUBMIT ∷ seqnum ∷ number ∷ direction_code (dir_of direction) ∷ ep ∷ flags ∷ size ∷ start ∷ packets ∷ interval ∷ []) (lit< tt, (ls, (ln, (rw code l1, (l2, (l3, (l4, (l5, (l6, (l7, tt))))))))));
      layout = rw (behind, code) all;
    })

unlink_sound : (devid seqnum number : ℕ) (what : Up) (bytes rest : List ℕ) → seqnum < 2 ^ 32 → number < 2 ^ 32 → number ≡ devid
    → bytes ≡ put CMD_UNLINK (put seqnum (put number rest)) → Spelled (unlink_form seqnum number) what rest → Means (Urbs devid) what bytes
unfolding unlink_form unlink_bytes fields
unlink_sound devid seqnum number what bytes rest ls ln imported e0 (direction, r1, l1, e1, (ep, r2, l2, e2, (target, r3, l3, e3, (padding, r4, l4, e4, (same, none))))) =
    let all : bytes ≡ put CMD_UNLINK (put seqnum (put number (put direction (put ep (put target padding))))) =
    e0 ∙ ap (λ (t : List ℕ). put CMD_UNLINK (put seqnum (put number t))) (e1 ∙ ap (λ (t : List ℕ). put direction t) (e2 ∙ ap (λ (t : List ℕ). put ep t) (e3 ∙ ap (λ (t : List ℕ). put target t) (e4 ∙ ap (λ (t : List ℕ). padding ++ t) none ∙ append-nil padding)))) in
    subst (λ (u : Up). Means (Urbs devid) u bytes) same
    (record {
      rest = record { direction = direction; ep = ep; padding = padding };
      imported = imported;
      padded = l4;
      wide = each_wide (CMD_UNLINK ∷ seqnum ∷ number ∷ direction ∷ ep ∷ target ∷ []) (lit< tt, (ls, (ln, (l1, (l2, (l3, tt))))));
      layout = all;
    })

pub urb_sound : (devid : ℕ) (what : Up) (bytes : List ℕ) → Spelled (urb_form devid) what bytes → Means (Urbs devid) what bytes
urb_sound devid what bytes (command, r1, l1, a1, e1, (seqnum, r2, l2, e2, (number, r3, l3, a3, e3, tail))) =
    let imported : number ≡ devid = eqb-true number devid a3 in
    let all : bytes ≡ put command (put seqnum (put number r3)) = e1 ∙ ap (λ (t : List ℕ). put command t) (e2 ∙ ap (λ (t : List ℕ). put seqnum t) e3) in
    let P : ℕ → Type 0 = λ c. (bytes ≡ put c (put seqnum (put number r3))) × Spelled (cond (eqb c CMD_UNLINK) (unlink_form seqnum number) (submit_form seqnum number)) what r3 in
    elim (two_commands P CMD_SUBMIT CMD_UNLINK command a1 (all, tail)) [
      | inl h ↦ submit_sound devid seqnum number what bytes r3 l2 l3 imported h.0 h.1
      | inr h ↦ unlink_sound devid seqnum number what bytes r3 l2 l3 imported h.0 h.1
    ]

-- a message without its data
abbrev pub head_of : Message → Up
head_of (Submit head transferred) = up.Submit head
head_of (Unlink head) = up.Unlink head

pub urb_complete : (devid : ℕ) (message : Message) (bytes : List ℕ) → Spells devid message bytes → Spelled (urb_form devid) (head_of message) bytes
unfolding submit_form submit_bytes unlink_form unlink_bytes fields
urb_complete devid (Submit head transferred) bytes s =
    let r : List ℕ = head.setup ++ transferred in
    let w = s.wide in
    let same_dir : dir_of (direction_code head.dir) ≡ head.dir = dir_of_code head.dir in (
      CMD_SUBMIT,
      _,
      lit< tt,
      refl,
      s.layout,
      (
        head.seqnum,
        _,
        w 1,
        refl,
        (
          head.devid,
          _,
          w 2,
          eq-eqb head.devid devid s.imported,
          refl,
          (
            direction_code head.dir,
            _,
            w 3,
            code_below head.dir,
            refl,
            (
              head.ep,
              _,
              w 4,
              le-leb head.ep ENDPOINT_MAX s.endpoint,
              refl,
              (
                s.rest.transfer_flags,
                _,
                w 5,
                refl,
                (
                  head.length,
                  _,
                  w 6,
                  le-leb head.length SUBMIT_MAX s.short,
                  refl,
                  (
                    s.rest.start_frame,
                    _,
                    w 7,
                    refl,
                    (
                      s.rest.number_of_packets,
                      _,
                      w 8,
                      packet_count_no s.rest.number_of_packets s.packets,
                      refl,
                      (
                        s.rest.interval,
                        r,
                        w 9,
                        refl,
                        (
                          head.setup,
                          transferred,
                          s.setup,
                          refl,
                          (
                            transferred,
                            [],
                            rw same_dir (carries_len head.dir head.length transferred s.carried),
                            sym (append-nil transferred),
                            (ap (λ (d : Dir). up.Submit (record head { dir = d })) same_dir, refl),
                          ),
                        ),
                      ),
                    ),
                  ),
                ),
              ),
            ),
          ),
        ),
      ),
    )
urb_complete devid (Unlink head) bytes s =
    let w = s.wide in (
      CMD_UNLINK,
      _,
      lit< tt,
      refl,
      s.layout,
      (
        head.seqnum,
        _,
        w 1,
        refl,
        (
          head.devid,
          _,
          w 2,
          eq-eqb head.devid devid s.imported,
          refl,
          (
            s.rest.direction,
            _,
            w 3,
            refl,
            (
              s.rest.ep,
              _,
              w 4,
              refl,
              (
                head.target,
                s.rest.padding,
                w 5,
                refl,
                (s.rest.padding, [], s.padded, sym (append-nil s.rest.padding), (refl, refl)),
              ),
            ),
          ),
        ),
      ),
    )

two : ℕ → List ℕ → List ℕ
two n rest = to_be_bytes w16 n ++ rest

pub request_sound : (what : Up) (bytes : List ℕ) → Spelled request_form what bytes → Means Ops what bytes
unfolding op_header
request_sound what bytes (version, r1, l1, a1, e1, (code, r2, l2, a2, e2, (status, r3, l3, e3, tail))) =
    let is_version : version ≡ USBIP_VERSION = eqb-true version USBIP_VERSION a1 in
    let all : bytes ≡ to_be_bytes w16 version ++ (to_be_bytes w16 code ++ (to_be_bytes w32 status ++ r3)) =
    e1 ∙ ap (λ (t : List ℕ). to_be_bytes w16 version ++ t) (e2 ∙ ap (λ (t : List ℕ). to_be_bytes w16 code ++ t) e3) in
    let P : ℕ → Type 0 = λ c. (bytes ≡ to_be_bytes w16 USBIP_VERSION ++ (to_be_bytes w16 c ++ (to_be_bytes w32 status ++ r3)))
    × Spelled (cond (eqb c REQ_IMPORT) (Block 32 (λ busid. Done (up.Op (Import busid)))) (Done (up.Op DevList))) what r3 in
    elim (two_commands P REQ_DEVLIST REQ_IMPORT code a2 (subst (λ (v : ℕ). bytes ≡ to_be_bytes w16 v ++ (to_be_bytes w16 code ++ (to_be_bytes w32 status ++ r3))) is_version all, tail)) [
      | inl (h, (same, none)) ↦
          subst (λ (u : Up). Means Ops u bytes) same (record { status = status; wide = l3; whole = tt; layout = subst (λ (t : List ℕ). bytes ≡ op_header REQ_DEVLIST status ++ t) none h ∙ append-nil (op_header REQ_DEVLIST status) })
      | inr (h, (busid, r4, l4, e4, (same, none))) ↦
          let last : r3 ≡ busid = e4 ∙ (ap (λ (t : List ℕ). busid ++ t) none ∙ append-nil busid) in
          subst (λ (u : Up). Means Ops u bytes) same (record { status = status; wide = l3; whole = l4; layout = subst (λ (t : List ℕ). bytes ≡ op_header REQ_IMPORT status ++ t) last h })
    ]

pub request_complete : (request : OpRequest) (bytes : List ℕ) → SpellsRequest request bytes → Spelled request_form (up.Op request) bytes
unfolding op_header
request_complete DevList bytes s =
    (USBIP_VERSION, _, lit< tt, refl, s.layout, (REQ_DEVLIST, _, lit< tt, refl, refl, (s.status, [], s.wide, refl, (refl, refl))))
request_complete (Import busid) bytes s =
    (USBIP_VERSION, _, lit< tt, refl, s.layout, (REQ_IMPORT, _, lit< tt, refl, refl, (s.status, busid, s.wide, refl, (busid, [], s.whole, sym (append-nil busid), (refl, refl)))))

-- what a hub that nothing disturbs has in hand, and what each submit makes of it
use Rattle.std.proofs.Common.{◌≡◌, ◌≢◌, ◌⊎◌, ℕ, zero, suc, ◌+◌, ◌-◌, ◌*◌, ◌<◌, ◌≤◌, nat_le, min, Bool, true, false, List, [], ◌∷◌, ◌++◌, length, take, drop, Option, Some, None, inl, inr, refl, sym, subst, ◌∙◌, ap, arith, length-append, length-drop}
use Rattle.std.specs.Prelude.{◌==◌, ◌^◌, is_some, if◌then◌else◌}
use Rattle.std.proofs.lemmas.Bool.{cases_lt, eqb-false, leb-true}
use Rattle.std.proofs.lemmas.List.{append-nil, length-take, length-take-le, take_all, take-append-drop}
use Rattle.std.proofs.Math.ListN.{drop_of_length-le}
use Rattle.std.proofs.Math.Seq.{take-append-add}
use Rattle.usbip_wire.specs.declared.submit.SubmitHead.{SubmitHead}
use Rattle.usbip_wire.specs.Submit.{SpellsSubmit, Carries, submit_bytes, unused}
use Rattle.usbip_wire.specs.Urb.{AreWide, direction_code}
use Rattle.usbip_wire.specs.declared.urb.Dir.{Dir}
use Rattle.usbip_wire.specs.declared.urb.Dir.TheVariants.{Out, In}
use Rattle.usbip_wire.specs.Up as up
use Rattle.tmc_wire.specs.declared.header.OutHeader.{OutHeader}
use Rattle.tmc_wire.specs.declared.header.OutHeader.TheVariants as header
use Rattle.tmc_wire.specs.Header.{out_header_bytes}
use Rattle.tmc_wire.specs.Transfer.{alignment_of}
use Rattle.host_transfers.specs.Piece.{eom_of}
use Rattle.host_joint.specs.Hand.{Hand, Free, Says, Said, Reads, Pauses, IsTransfer, Speaks, Writes, WritesPart, WritesLast, WritesRequest, WritesNext, WritesRead}
use Rattle.host_hub.specs.declared.kind.Kind.{Kind}
use Rattle.host_hub.specs.declared.kind.Kind.TheVariants as kind
use Rattle.host_hub.specs.Order.{Order, Part, Read, Request, Setting, Trigger, Listen, Class, ClearHalt, Unlink, message_of, size_of, text_of, transfer, way_of, endpoint_of, setup_of}
use Rattle.host_hub.specs.Record.{Asking, Of, Past, Wrote}
use Rattle.host_hub.specs.Book.{active, asking_of, has, live}
use Rattle.host_hub.specs.Hand.{in_hand, is_begun}
use Rattle.host_hub.specs.Joined.{IsPlainAsking, IsPlainKind, IsPlainOrder, IsSimple, hand_in, hand_of, hand_with, hand_with_pieces}
use Rattle.host_hub.specs.Law.{Lawful}
use Rattle.host_hub.specs.Pieces.{Piece, data_in, opened, pieces, requested}
use Rattle.host_hub.specs.Plan.{message_end, next_tag, part_of, parts}
use Rattle.host_hub.proofs.Lists.{clash, same}
use Rattle.host_hub.proofs.Pasts.{begun_active, hand_begun}
use Rattle.host_hub.proofs.Plain.{BeginsWith, GoesOnWith, Move, ReadsWith, RequestsFirst, RequestsNext}
use Rattle.host_hub.proofs.PlainWrites.{end_unbegun, end_wrote, parts_unbegun, parts_wrote, pieces_wrote}
use Rattle.host_hub.proofs.Within.{never_passes, none_unbegun}

-- ---- what is in hand, by how far the ticket has come

module _ (past : Past) (t : ℕ) (a : Asking) (hand : in_hand past ≡ Some t) (lives : has t (live past) ≡ true) (asked : asking_of t past ≡ Some a) where
  in_hand_is : hand_of past ≡ hand_with (Some a) (message_end t past) (parts t past) (pieces t past)
  in_hand_is =
      ap (λ (o : Option ℕ). hand_in o past) hand
      ∙ (ap (λ (b : Bool). if b then hand_with (asking_of t past) (message_end t past) (parts t past) (pieces t past) else Free) lives
      ∙ ap (λ (o : Option Asking). hand_with o (message_end t past) (parts t past) (pieces t past)) asked)

  pub says_is : message_end t past ≡ 0 → hand_of past ≡ Says a.message (take (1024 * parts t past) a.message)
  says_is e = in_hand_is ∙ ap (λ (n : ℕ). if n == 0 then Says a.message (take (1024 * parts t past) a.message) else hand_with_pieces n a.message (pieces t past)) e

  ended_is : (message_end t past == 0) ≡ false → hand_of past ≡ hand_with_pieces (message_end t past) a.message (pieces t past)
  ended_is e =
      in_hand_is ∙ ap (λ (b : Bool). if b then Says a.message (take (1024 * parts t past) a.message) else hand_with_pieces (message_end t past) a.message (pieces t past)) e

  pub said_is : (message_end t past == 0) ≡ false → pieces t past ≡ [] → hand_of past ≡ Said (message_end t past) a.message
  said_is e q = ended_is e ∙ ap (λ (ps : List Piece). hand_with_pieces (message_end t past) a.message ps) q

  pub reads_is : (piece : Piece) (earlier : List Piece) → (message_end t past == 0) ≡ false → pieces t past ≡ piece ∷ earlier → is_some piece.over ≡ false
      → hand_of past ≡ Reads (message_end t past) a.message piece.tag piece.size (data_in earlier) piece.bytes
  reads_is piece earlier e q over =
      ended_is e
      ∙ (ap (λ (ps : List Piece). hand_with_pieces (message_end t past) a.message ps) q
      ∙ ap (λ (b : Bool). if b
      then (if eom_of piece.bytes then Free else Pauses (message_end t past) a.message (data_in (piece ∷ earlier)))
      else Reads (message_end t past) a.message piece.tag piece.size (data_in earlier) piece.bytes) over)

  pub pauses_is : (piece : Piece) (earlier : List Piece) → (message_end t past == 0) ≡ false → pieces t past ≡ piece ∷ earlier → is_some piece.over ≡ true
      → eom_of piece.bytes ≡ false → hand_of past ≡ Pauses (message_end t past) a.message (data_in (piece ∷ earlier))
  pauses_is piece earlier e q over eom =
      ended_is e
      ∙ (ap (λ (ps : List Piece). hand_with_pieces (message_end t past) a.message ps) q
      ∙ (ap (λ (b : Bool). if b
      then (if eom_of piece.bytes then Free else Pauses (message_end t past) a.message (data_in (piece ∷ earlier)))
      else Reads (message_end t past) a.message piece.tag piece.size (data_in earlier) piece.bytes) over
      ∙ ap (λ (b : Bool). if b then Free else Pauses (message_end t past) a.message (data_in (piece ∷ earlier))) eom))

  pub whole_is : (piece : Piece) (earlier : List Piece) → (message_end t past == 0) ≡ false → pieces t past ≡ piece ∷ earlier → is_some piece.over ≡ true
      → eom_of piece.bytes ≡ true → hand_of past ≡ Free
  whole_is piece earlier e q over eom =
      ended_is e
      ∙ (ap (λ (ps : List Piece). hand_with_pieces (message_end t past) a.message ps) q
      ∙ (ap (λ (b : Bool). if b
      then (if eom_of piece.bytes then Free else Pauses (message_end t past) a.message (data_in (piece ∷ earlier)))
      else Reads (message_end t past) a.message piece.tag piece.size (data_in earlier) piece.bytes) over
      ∙ ap (λ (b : Bool). if b then Free else Pauses (message_end t past) a.message (data_in (piece ∷ earlier))) eom))

-- a ticket that is not live is not in hand
pub free_is : (past : Past) (t : ℕ) → in_hand past ≡ Some t → has t (live past) ≡ false → hand_of past ≡ Free
free_is past t hand dead =
    ap (λ (o : Option ℕ). hand_in o past) hand ∙ ap (λ (b : Bool). if b then hand_with (asking_of t past) (message_end t past) (parts t past) (pieces t past) else Free) dead

-- before a ticket begins nothing is in hand
pub idle_is : (s : Setting) (past : Past) (t : ℕ) → Lawful s past → active past ≡ Some t → is_begun t past ≡ false → hand_of past ≡ Free
idle_is s past t h turn fresh = by (in_hand past) refl
  where
    step : (u : ℕ) → in_hand past ≡ Some u → (b : Bool) → has u (live past) ≡ b → hand_of past ≡ Free
    step u e false f = free_is past u e f
    step u e true f =
        let is : u ≡ t = same u t (sym (begun_active s past h u f (hand_begun u past e)) ∙ turn) in
        clash (sym (subst (λ (v : ℕ). is_begun v past ≡ false) (sym is) fresh) ∙ hand_begun u past e)

    by : (o : Option ℕ) → in_hand past ≡ o → hand_of past ≡ Free
    by None e = ap (λ (o : Option ℕ). hand_in o past) e
    by (Some u) e = step u e (has u (live past)) refl

-- ---- the submits of a hub

header_long : (h : OutHeader) → length (out_header_bytes h) ≡ 12
unfolding out_header_bytes
header_long (header.Message tag size eom) = refl
header_long (header.Request tag size) = refl
header_long (header.Trigger tag) = refl

transfer_long : (h : OutHeader) (text : List ℕ) → length (transfer h text) ≡ 12 + (length text + length (alignment_of (length text)))
transfer_long h text =
    length-append (out_header_bytes h) (text ++ alignment_of (length text))
    ∙ (ap (λ (n : ℕ). n + length (text ++ alignment_of (length text))) (header_long h) ∙ ap (λ (n : ℕ). 12 + n) (length-append text (alignment_of (length text))))

abbrev pub head_of : Setting → ℕ → Order → SubmitHead
head_of s n k =
    record { seqnum = n; devid = s.devid; dir = way_of k; ep = endpoint_of s.ends k; length = size_of s.ends k; setup = setup_of s.ends k }

is_part_of : (s : Setting) (n tag : ℕ) (text : List ℕ) (eom : Bool) → IsSimple s → (0 < tag) × (tag < 256) → (0 < length text) × (length text ≤ 1024)
    → IsTransfer (head_of s n (Part tag text eom)) (header.Message tag (length text) eom) text (text_of (Part tag text eom))
is_part_of s n tag text eom simple t l = record {
  number = simple.writes_to;
  way = refl;
  proper = (t.0, l.0);
  fits = (t.1, omega (arith, l.1));
  counted = refl;
  layout = refl;
  sized = sym (transfer_long (header.Message tag (length text) eom) text);
}

is_request_of : (s : Setting) (n tag size : ℕ) → IsSimple s → (0 < tag) × (tag < 256) → (0 < size) × (size ≤ 16384)
    → IsTransfer (head_of s n (Request tag size)) (header.Request tag size) [] (text_of (Request tag size))
is_request_of s n tag size simple t l = record {
  number = simple.writes_to;
  way = refl;
  proper = (t.0, l.0);
  fits = (t.1, omega (arith, l.1));
  counted = refl;
  layout = refl;
  sized = sym (transfer_long (header.Request tag size) []);
}

-- ---- numbers

pub next_tag_is : (past : Past) → (0 < next_tag past) × (next_tag past < 256)
next_tag_is past = (omega arith, omega arith)

-- ---- a further part

take_none : (n : ℕ) → take {A = ℕ} n [] ≡ []
take_none zero = refl
take_none (suc n) = refl

grown : (n k : ℕ) (xs : List ℕ) → take (n + k) xs ≡ take n xs ++ take k (drop n xs)
grown n k xs = by (cases_lt (length xs) n)
  where
    by : (length xs < n) ⊎ (n ≤ length xs) → take (n + k) xs ≡ take n xs ++ take k (drop n xs)
    by (inl h) =
        take_all (n + k) xs (omega (arith, h))
        ∙ (sym (append-nil xs)
        ∙ (ap (λ (l : List ℕ). l ++ []) (sym (take_all n xs (omega (arith, h))))
        ∙ ap (λ (l : List ℕ). take n xs ++ l) (sym (ap (λ (l : List ℕ). take k l) (drop_of_length-le xs (omega (arith, h))) ∙ take_none k))))
    by (inr h) =
        let e : length (take n xs) ≡ n = length-take-le n xs h in
        ap (λ (l : List ℕ). take (n + k) l) (sym (take-append-drop n xs))
        ∙ subst (λ (m : ℕ). take (m + k) (take n xs ++ drop n xs) ≡ take n xs ++ take k (drop n xs)) e (take-append-add (take n xs) (drop n xs) k)

whole_part : (n k : ℕ) (xs : List ℕ) → length xs ≤ n + k → xs ≡ take n xs ++ take k (drop n xs)
whole_part n k xs h = sym (take_all (n + k) xs h) ∙ grown n k xs

-- ---- each submit of a plan is one that host_joint knows

module _ (s : Setting) (past : Past) (n t : ℕ) (a : Asking) (simple : IsSimple s) (some : (n == 0) ≡ false) (lives : has t (live past) ≡ true) (asked : asking_of t past ≡ Some a) (plain : IsPlainAsking a) where
  part_writes : (count tag : ℕ) (before : Hand) (said : List ℕ) → hand_of past ≡ before → Speaks before a.message said → said ≡ take (1024 * count) a.message
      → (0 < tag) × (tag < 256) → message_end t past ≡ 0 → pieces t past ≡ [] → parts t past ≡ count → 1024 * count < length a.message
      → Writes (hand_of past) (head_of s n (part_of tag count a.message)) (text_of (part_of tag count a.message)) (hand_of (Wrote n (Of t) (part_of tag count a.message) ∷ past))
  part_writes count tag before said e speaks first t0 m q c more = by (nat_le (length a.message) (1024 * (count + 1))) refl
    where
      text : List ℕ
      text = take 1024 (drop (1024 * count) a.message)

      long : (0 < length text) × (length text ≤ 1024)
      long = (omega (arith, length-take 1024 (drop (1024 * count) a.message), length-drop (1024 * count) a.message, more), omega (arith, length-take 1024 (drop (1024 * count) a.message)))

      next_is : 1024 * (count + 1) ≡ 1024 * count + 1024
      next_is = omega arith

      speaking : Speaks (hand_of past) a.message (take (1024 * count) a.message)
      speaking = subst (λ (h : Hand). Speaks h a.message (take (1024 * count) a.message)) (sym e) (subst (λ (l : List ℕ). Speaks before a.message l) first speaks)

      by : (b : Bool) → nat_le (length a.message) (1024 * (count + 1)) ≡ b
          → Writes (hand_of past) (head_of s n (Part tag text b)) (text_of (Part tag text b)) (hand_of (Wrote n (Of t) (Part tag text b) ∷ past))
      by false f =
          WritesPart tag a.message (take (1024 * count) a.message) text (drop 1024 (drop (1024 * count) a.message)) speaking
          (sym (ap (λ (l : List ℕ). take (1024 * count) a.message ++ l) (take-append-drop 1024 (drop (1024 * count) a.message)) ∙ take-append-drop (1024 * count) a.message))
          (is_part_of s n tag text false simple t0 long)
          (says_is new t a refl lives asked (end_wrote past n t (Part tag text false) ∙ m)
          ∙ ap (λ (l : List ℕ). Says a.message l)
          (ap (λ (i : ℕ). take (1024 * i) a.message) (parts_wrote past n t (Part tag text false) ∙ ap (λ (i : ℕ). i + 1) c)
          ∙ (ap (λ (i : ℕ). take i a.message) next_is ∙ grown (1024 * count) 1024 a.message)))
        where
          new : Past
          new = Wrote n (Of t) (Part tag text false) ∷ past
      by true f =
          WritesLast tag a.message (take (1024 * count) a.message) text speaking
          (whole_part (1024 * count) 1024 a.message (omega (arith, leb-true (length a.message) (1024 * (count + 1)) f)))
          (is_part_of s n tag text true simple t0 long)
          (said_is new t a refl lives asked (ap (λ (i : ℕ). i == 0) (end_wrote past n t (Part tag text true)) ∙ some) (pieces_wrote past n t (Part tag text true) ∙ q)
          ∙ ap (λ (i : ℕ). Said i a.message) (end_wrote past n t (Part tag text true)))
        where
          new : Past
          new = Wrote n (Of t) (Part tag text true) ∷ past

  request_is : (tag size : ℕ) → (message_end t past == 0) ≡ false
      → hand_of (Wrote n (Of t) (Request tag size) ∷ past) ≡ Reads (message_end t past) a.message tag size (data_in (pieces t past)) []
  request_is tag size m =
      reads_is (Wrote n (Of t) (Request tag size) ∷ past) t a refl lives asked (requested n tag size) (pieces t past) (ap (λ (i : ℕ). i == 0) (end_wrote past n t (Request tag size)) ∙ m)
      (pieces_wrote past n t (Request tag size)) refl
      ∙ ap (λ (i : ℕ). Reads i a.message tag size (data_in (pieces t past)) []) (end_wrote past n t (Request tag size))

  -- what a request asks for
  left_is : Lawful s past → a.kind ≡ kind.Ask → ((length (data_in (pieces t past)) == a.limit) ≡ false) ⊎ (pieces t past ≡ [])
      → (0 < min (a.limit - length (data_in (pieces t past))) 16384) × (min (a.limit - length (data_in (pieces t past))) 16384 ≤ 16384)
  left_is h ask free = (by free, omega arith)
    where
      limit : 1 ≤ a.limit
      limit = subst (λ (k : Kind). IsPlainKind k a.limit) ask plain.kind_is

      most : length (data_in (pieces t past)) ≤ a.limit
      most = never_passes s past h t a asked

      by : ((length (data_in (pieces t past)) == a.limit) ≡ false) ⊎ (pieces t past ≡ []) → 0 < min (a.limit - length (data_in (pieces t past))) 16384
      by (inl e) = let other : length (data_in (pieces t past)) ≢ a.limit = eqb-false (length (data_in (pieces t past))) a.limit e in omega (arith, other, most)
      by (inr e) = let none : length (data_in (pieces t past)) ≡ 0 = ap (λ (ps : List Piece). length (data_in ps)) e in omega (arith, none, limit)

  pub wrote_writes : (k : Order) → Lawful s past → active past ≡ Some t → Move s past t a k → Writes (hand_of past) (head_of s n k) (text_of k) (hand_of (Wrote n (Of t) k ∷ past))
  wrote_writes k h turn (BeginsWith fresh e) =
      subst (λ (j : Order). Writes (hand_of past) (head_of s n j) (text_of j) (hand_of (Wrote n (Of t) j ∷ past))) (sym e)
      (part_writes 0 (next_tag past) Free [] (idle_is s past t h turn fresh) (refl, plain.few) refl (next_tag_is past) (end_unbegun t past fresh) (none_unbegun t past fresh)
      (parts_unbegun t past fresh) (omega (arith, plain.some)))
  wrote_writes k h turn (GoesOnWith hand m q more e) =
      subst (λ (j : Order). Writes (hand_of past) (head_of s n j) (text_of j) (hand_of (Wrote n (Of t) j ∷ past))) (sym e)
      (part_writes (parts t past) (next_tag past) (Says a.message (take (1024 * parts t past) a.message)) (take (1024 * parts t past) a.message)
      (says_is past t a hand lives asked m) (refl, refl) refl (next_tag_is past) m q refl more)
  wrote_writes k h turn (RequestsFirst hand ask m q e) =
      let size : ℕ = min (a.limit - length (data_in (pieces t past))) 16384 in
      subst (λ (j : Order). Writes (hand_of past) (head_of s n j) (text_of j) (hand_of (Wrote n (Of t) j ∷ past))) (sym e)
      (WritesRequest (message_end t past) (next_tag past) size a.message (said_is past t a hand lives asked m q)
      (is_request_of s n (next_tag past) size simple (next_tag_is past) (left_is h ask (inr q)))
      (request_is (next_tag past) size m ∙ ap (λ (ps : List Piece). Reads (message_end t past) a.message (next_tag past) size (data_in ps) []) q))
  wrote_writes k h turn (RequestsNext piece earlier hand ask m q over unmade e) =
      let size : ℕ = min (a.limit - length (data_in (pieces t past))) 16384 in
      let free : (length (data_in (pieces t past)) == a.limit) ≡ false = ap (λ (ps : List Piece). length (data_in ps) == a.limit) q ∙ (unmade over).1 in
      subst (λ (j : Order). Writes (hand_of past) (head_of s n j) (text_of j) (hand_of (Wrote n (Of t) j ∷ past))) (sym e)
      (WritesNext (message_end t past) (next_tag past) size a.message (data_in (pieces t past))
      (pauses_is past t a hand lives asked piece earlier m q over (unmade over).0 ∙ ap (λ (ps : List Piece). Pauses (message_end t past) a.message (data_in ps)) (sym q))
      (is_request_of s n (next_tag past) size simple (next_tag_is past) (left_is h ask (inl free)))
      (request_is (next_tag past) size m))
  wrote_writes k h turn (ReadsWith piece earlier hand ask m q over shut e) =
      let open_now : is_some piece.over ≡ false = ap (λ (o : Option ℕ). is_some o) over in
      let before = reads_is past t a hand lives asked piece earlier m q open_now in
      let after =
      reads_is (Wrote n (Of t) Read ∷ past) t a refl lives asked (record piece { reads = piece.reads + 1 }) earlier (ap (λ (i : ℕ). i == 0) (end_wrote past n t Read) ∙ m)
      (pieces_wrote past n t Read ∙ ap (λ (ps : List Piece). opened n Read ps) q) open_now
      ∙ ap (λ (i : ℕ). Reads i a.message piece.tag piece.size (data_in earlier) piece.bytes) (end_wrote past n t Read) in
      subst (λ (j : Order). Writes (hand_of past) (head_of s n j) (text_of j) (hand_of (Wrote n (Of t) j ∷ past))) (sym e)
      (WritesRead (message_end t past) piece.tag piece.size a.message (data_in earlier) piece.bytes before
      (record { number = simple.reads_from; way = refl; size = refl }) refl (after ∙ sym before))

-- ---- and its bytes are its spelling

wide_none : AreWide []
wide_none zero = omega arith
wide_none (suc i) = omega arith

wide : (x : ℕ) (xs : List ℕ) → x < 2 ^ 32 → AreWide xs → AreWide (x ∷ xs)
wide x xs h k zero = h
wide x xs h k (suc i) = k i

carries : (s : Setting) (n : ℕ) (k : Order) → IsPlainOrder k → Carries (way_of k) (size_of s.ends k) (text_of k)
carries s n (Part tag text eom) p = transfer_long (header.Message tag (length text) eom) text
carries s n (Request tag size) p = transfer_long (header.Request tag size) []
carries s n Read p = refl
carries s n (Trigger tag) p = absurd p
carries s n Listen p = absurd p
carries s n (Class request) p = absurd p
carries s n (ClearHalt endpoint) p = absurd p
carries s n (Unlink target) p = absurd p

pub is_submit : (s : Setting) (n : ℕ) (k : Order) → IsPlainOrder k → message_of s n k ≡ up.Submit (head_of s n k) (text_of k)
is_submit s n (Part tag text eom) p = refl
is_submit s n (Request tag size) p = refl
is_submit s n Read p = refl
is_submit s n (Trigger tag) p = absurd p
is_submit s n Listen p = absurd p
is_submit s n (Class request) p = absurd p
is_submit s n (ClearHalt endpoint) p = absurd p
is_submit s n (Unlink target) p = absurd p

small : (s : Setting) (k : Order) → IsSimple s → IsPlainOrder k → (size_of s.ends k ≤ 70000) → (endpoint_of s.ends k ≤ 15) × (length (setup_of s.ends k) ≡ 8)
small s (Part tag text eom) simple p l = (omega (arith, simple.writes_to), refl)
small s (Request tag size) simple p l = (omega (arith, simple.writes_to), refl)
small s Read simple p l = (omega (arith, simple.reads_from), refl)
small s (Trigger tag) simple p l = absurd p
small s Listen simple p l = absurd p
small s (Class request) simple p l = absurd p
small s (ClearHalt endpoint) simple p l = absurd p
small s (Unlink target) simple p l = absurd p

direction_small : (d : Dir) → direction_code d < 2 ^ 32
direction_small Out = omega arith
direction_small In = omega arith

pub spells : (s : Setting) (n : ℕ) (k : Order) → IsSimple s → IsPlainOrder k → n < 2 ^ 32 → size_of s.ends k ≤ 70000
    → SpellsSubmit s.devid (head_of s n k) (text_of k) (submit_bytes (head_of s n k) unused (text_of k))
spells s n k simple p low l =
    let b = small s k simple p l in
    record {
      rest = unused;
      imported = refl;
      endpoint = b.0;
      short = l;
      packets = inl refl;
      setup = b.1;
      carried = carries s n k p;
      wide =
          wide 1 (n ∷ s.devid ∷ direction_code (way_of k) ∷ endpoint_of s.ends k ∷ 0 ∷ size_of s.ends k ∷ 0 ∷ 4294967295 ∷ 0 ∷ []) (omega arith)
          (wide n (s.devid ∷ direction_code (way_of k) ∷ endpoint_of s.ends k ∷ 0 ∷ size_of s.ends k ∷ 0 ∷ 4294967295 ∷ 0 ∷ []) low
          (wide s.devid (direction_code (way_of k) ∷ endpoint_of s.ends k ∷ 0 ∷ size_of s.ends k ∷ 0 ∷ 4294967295 ∷ 0 ∷ []) simple.device
          (wide (direction_code (way_of k)) (endpoint_of s.ends k ∷ 0 ∷ size_of s.ends k ∷ 0 ∷ 4294967295 ∷ 0 ∷ []) (direction_small (way_of k))
          (wide (endpoint_of s.ends k) (0 ∷ size_of s.ends k ∷ 0 ∷ 4294967295 ∷ 0 ∷ []) (omega (arith, b.0))
          (wide 0 (size_of s.ends k ∷ 0 ∷ 4294967295 ∷ 0 ∷ []) (omega arith)
          (wide (size_of s.ends k) (0 ∷ 4294967295 ∷ 0 ∷ []) (omega (arith, l))
          (wide 0 (4294967295 ∷ 0 ∷ []) (omega arith)
          (wide 4294967295 (0 ∷ []) (omega arith)
          (wide 0 [] (omega arith) wide_none)))))))));
      layout = refl;
    }

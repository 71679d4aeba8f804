-- the transfers that a host writes are taken, and those that it reads have no fault
use Rattle.std.proofs.Common.{◌≡◌, ◌∙◌, ℕ, ◌+◌, ◌-◌, ◌%◌, ◌^◌, ◌<◌, ◌≤◌, Bool, true, false, List, [], ◌∷◌, ◌++◌, length, take, drop, refl, ap, sym, subst, append_assoc, length-append, arith, slice_index}
use Rattle.std.proofs.Math.Seq.{take-append_seam}
use Rattle.std.proofs.lemmas.List.{length-replicate, take-append-drop, take-append-le}
use Rattle.tmc_wire.specs.declared.header.OutHeader.{OutHeader}
use Rattle.tmc_wire.specs.declared.header.OutHeader.TheVariants.{Message, Request, Trigger}
use Rattle.tmc_wire.specs.declared.header.InHeader.{InHeader}
use Rattle.tmc_wire.specs.declared.header_fault.HeaderFault.{HeaderFault}
use Rattle.tmc_wire.specs.declared.header_fault.HeaderFault.TheVariants as fault
use Rattle.tmc_wire.specs.Standard.{header_size, dev_dep_msg_out, request_dev_dep_msg_in, dev_dep_msg_in}
use Rattle.tmc_wire.specs.Header.{IsTag, IsOutHeader, IsInHeader, IsOutProper, OutFits, IsInProper, InFits, prefix, sized, eom_bit, out_header_bytes, in_header_bytes}
use Rattle.tmc_wire.specs.HeaderFault.{MsgID, bTag, bTagInverse, TransferSize, is_out_message, HasFault, IsOutFault}
use Rattle.tmc_wire.specs.Transfer.{OutText, InText, data_size, alignment_of}
use Rattle.host_joint.specs.Jobs.{Job, IsJob}
use Rattle.host_joint.specs.Hand.{IsTransfer}
use Rattle.host_joint.specs.Pieces.{header_of, IsPiece, IsFaultless, IsWhole}
use Rattle.usbip_wire.specs.declared.submit.SubmitHead.{SubmitHead}

-- what this asks of the laws of headers and transfers
pub record WireLaws : Type 0 where
  pub out_size : (header : OutHeader) (bytes : List ℕ) → IsOutHeader header bytes → length bytes ≡ header_size
  pub out_front : (header : OutHeader) (bytes more : List ℕ) → IsOutHeader header bytes → IsOutHeader header (take header_size (bytes ++ more))
  pub out_written : (header : OutHeader) → IsOutProper header → OutFits header → IsOutHeader header (out_header_bytes header)
  pub in_size : (header : InHeader) (bytes : List ℕ) → IsInHeader header bytes → length bytes ≡ header_size
  pub in_front : (header : InHeader) (bytes more : List ℕ) → IsInHeader header bytes → IsInHeader header (take header_size (bytes ++ more))
  pub in_written : (header : InHeader) → IsInProper header → InFits header → IsInHeader header (in_header_bytes header)
  pub size_at : (msg_id tag reserved size attributes ninth tenth eleventh : ℕ) (more : List ℕ) → size < 2 ^ 32 → TransferSize (prefix msg_id tag reserved ++ sized size attributes ninth tenth eleventh ++ more) ≡ size
  pub out_made : (header : OutHeader) (head message alignment : List ℕ) → IsOutHeader header head → length message ≡ data_size header
      → length alignment ≡ length (alignment_of (data_size header)) → OutText header message (head ++ (message ++ alignment))
  pub out_text_size : (header : OutHeader) (message bytes : List ℕ) → OutText header message bytes → length bytes ≡ header_size + (data_size header + length (alignment_of (data_size header)))
  pub in_made : (header : InHeader) (head message alignment : List ℕ) → IsInHeader header head → length message ≡ header.size → length alignment < 4 → InText header message (head ++ (message ++ alignment))

-- ---- the transfer of a host is a job

-- bytes that begin with a header have no fault of one
no_sized_fault : (laws : WireLaws) (msg_id tag size attributes : ℕ) (more : List ℕ) (f : HeaderFault) → is_out_message msg_id ≡ true → 0 < tag → 0 < size → size < 2 ^ 32
    → HasFault is_out_message (prefix msg_id tag 0 ++ sized size attributes 0 0 0 ++ more) f → 12 ≤ length (prefix msg_id tag 0 ++ sized size attributes 0 0 0 ++ more) → ⊥
no_sized_fault laws msg_id tag size attributes more fault.Length known some counted small h long = omega (arith, h, long)
no_sized_fault laws msg_id tag size attributes more fault.MsgId known some counted small h long = let e : true ≡ false = sym known ∙ h in absurd (cc)
no_sized_fault laws msg_id tag size attributes more fault.Tag known some counted small h long = let e : tag ≡ 0 = h in omega (arith, some, e)
no_sized_fault laws msg_id tag size attributes more fault.Inverse known some counted small h long = h refl
no_sized_fault laws msg_id tag size attributes more fault.Size known some counted small h long = omega (arith, counted, sym (laws.size_at msg_id tag 0 size attributes 0 0 0 more small) ∙ h.1)

no_fault : (laws : WireLaws) (header : OutHeader) (more : List ℕ) (f : HeaderFault) → IsOutProper header → OutFits header → 12 ≤ length (out_header_bytes header ++ more)
    → HasFault is_out_message (out_header_bytes header ++ more) f → ⊥
unfolding out_header_bytes
no_fault laws (Message tag size eom) more f proper fits long h =
    no_sized_fault laws dev_dep_msg_out tag size (eom_bit eom) more f refl proper.0 proper.1 fits.1 (subst (λ (l : List ℕ). HasFault is_out_message l f) (append_assoc (prefix dev_dep_msg_out tag 0) (sized size (eom_bit eom) 0 0 0) more) h)
    (subst (λ (l : List ℕ). 12 ≤ length l) (append_assoc (prefix dev_dep_msg_out tag 0) (sized size (eom_bit eom) 0 0 0) more) long)
no_fault laws (Request tag size) more f proper fits long h =
    no_sized_fault laws request_dev_dep_msg_in tag size 0 more f refl proper.0 proper.1 fits.1 (subst (λ (l : List ℕ). HasFault is_out_message l f) (append_assoc (prefix request_dev_dep_msg_in tag 0) (sized size 0 0 0 0) more) h)
    (subst (λ (l : List ℕ). 12 ≤ length l) (append_assoc (prefix request_dev_dep_msg_in tag 0) (sized size 0 0 0 0) more) long)
no_fault laws (Trigger tag) more fault.Length proper fits long h = omega (arith, h, long)
no_fault laws (Trigger tag) more fault.MsgId proper fits long h = let e : true ≡ false = h in absurd (cc)
no_fault laws (Trigger tag) more fault.Tag proper fits long h = let e : tag ≡ 0 = h in omega (arith, proper, e)
no_fault laws (Trigger tag) more fault.Inverse proper fits long h = h refl
no_fault laws (Trigger tag) more fault.Size proper fits long h = h.0 refl

pub job_of : (head : SubmitHead) (header : OutHeader) (text bytes : List ℕ) → Job
job_of head header text bytes = record { head = head; header = header; message = text; bytes = bytes }

pub is_job : (laws : WireLaws) (head : SubmitHead) (header : OutHeader) (text bytes : List ℕ) → IsTransfer head header text bytes → IsJob (record { head = head; header = header; message = text; bytes = bytes })
is_job laws head header text bytes is =
    let headed = laws.out_written header is.proper is.fits in
    let made : OutText header text (out_header_bytes header ++ (text ++ alignment_of (length text))) =
    laws.out_made header (out_header_bytes header) text (alignment_of (length text)) headed is.counted (ap (λ (n : ℕ). length (alignment_of n)) is.counted) in
    let size = laws.out_text_size header text (out_header_bytes header ++ (text ++ alignment_of (length text))) made in
    record {
      number = is.number;
      way = is.way;
      text = subst (λ (l : List ℕ). OutText header text l) (sym is.layout) made;
      headed = subst (λ (l : List ℕ). IsOutHeader header (take header_size l)) (sym is.layout) (laws.out_front header (out_header_bytes header) (text ++ alignment_of (length text)) headed);
      faultless = λ f h. no_fault laws header (text ++ alignment_of (length text)) f is.proper is.fits (omega (arith, size)) (subst (λ (l : List ℕ). IsOutFault l f) is.layout h).here;
      whole = sym size ∙ ap (λ (l : List ℕ). length l) (sym is.layout);
      sized = is.sized;
    }

-- ---- the transfer of a piece

small_alignment : (size : ℕ) → length (alignment_of size) < 4
small_alignment size = omega (arith, length-replicate {A = ℕ} ((4 - size % 4) % 4) 0)

pub is_text : (laws : WireLaws) (tag : ℕ) (eom : Bool) (carried : List ℕ) → IsTag tag → 1 ≤ length carried → length carried < 2 ^ 32
    → InText (header_of tag (length carried) eom) carried (in_header_bytes (header_of tag (length carried) eom) ++ (carried ++ alignment_of (length carried)))
is_text laws tag eom carried tagged some small =
    laws.in_made (header_of tag (length carried) eom) (in_header_bytes (header_of tag (length carried) eom)) carried (alignment_of (length carried))
    (laws.in_written (header_of tag (length carried) eom) (tagged.0, some) (tagged.1, small)) refl (small_alignment (length carried))

-- the fields of bytes that begin with a header
record Fields (tag size : ℕ) (eom : Bool) (bytes : List ℕ) : Type 0 where
  pub kind : MsgID bytes ≡ dev_dep_msg_in
  pub tagged : bTag bytes ≡ tag
  pub inverse : bTagInverse bytes ≡ 255 - tag
  pub counted : TransferSize bytes ≡ size
  pub last : slice_index bytes 8 % 2 ≡ eom_bit eom

fields_of : (laws : WireLaws) (tag size : ℕ) (eom : Bool) (head more : List ℕ) → IsInHeader (header_of tag size eom) head → Fields tag size eom (head ++ more)
fields_of laws tag size eom head more h =
    let layout : head ++ more ≡ prefix dev_dep_msg_in tag h.reserved ++ sized size h.attributes h.ninth h.tenth h.eleventh ++ more =
    ap (λ (l : List ℕ). l ++ more) h.layout ∙ append_assoc (prefix dev_dep_msg_in tag h.reserved) (sized size h.attributes h.ninth h.tenth h.eleventh) more in
    record {
      kind = ap MsgID layout;
      tagged = ap bTag layout;
      inverse = ap bTagInverse layout;
      counted = ap TransferSize layout ∙ laws.size_at dev_dep_msg_in tag h.reserved size h.attributes h.ninth h.tenth h.eleventh more h.counted.1;
      last = ap (λ (l : List ℕ). slice_index l 8 % 2) layout ∙ h.accepted;
    }

-- bytes that are long enough have their header whole
front_of : (bytes more head rest : List ℕ) → length head ≡ header_size → header_size ≤ length bytes → bytes ++ more ≡ head ++ rest → bytes ≡ head ++ drop header_size bytes
front_of bytes more head rest twelve long e =
    let own : take header_size bytes ≡ head =
    sym (take-append-le header_size bytes more long) ∙ ap (λ (l : List ℕ). take header_size l) e ∙ subst (λ (n : ℕ). take n (head ++ rest) ≡ head) twelve (take-append_seam head rest) in
    sym (take-append-drop header_size bytes) ∙ ap (λ (l : List ℕ). l ++ drop header_size bytes) own

pub begun_size : (laws : WireLaws) (tag size : ℕ) (bytes more carried : List ℕ) (eom : Bool) → IsPiece tag size eom carried (bytes ++ more) → header_size ≤ length bytes → TransferSize bytes ≡ length carried
begun_size laws tag size bytes more carried eom piece long =
    let text = piece.text in
    let twelve = laws.in_size (header_of tag (length carried) eom) text.head text.headed in
    let front = front_of bytes more text.head (carried ++ text.alignment) twelve long text.layout in
    ap TransferSize front ∙ (fields_of laws tag (length carried) eom text.head (drop header_size bytes) text.headed).counted

pub begun_faultless : (laws : WireLaws) (tag size : ℕ) (bytes more carried : List ℕ) (eom : Bool) → IsPiece tag size eom carried (bytes ++ more) → header_size ≤ length bytes → IsFaultless tag size bytes
begun_faultless laws tag size bytes more carried eom piece long =
    let text = piece.text in
    let twelve = laws.in_size (header_of tag (length carried) eom) text.head text.headed in
    let front = front_of bytes more text.head (carried ++ text.alignment) twelve long text.layout in
    let fields = subst (λ (l : List ℕ). Fields tag (length carried) eom l) (sym front) (fields_of laws tag (length carried) eom text.head (drop header_size bytes) text.headed) in
    let size_is : length (bytes ++ more) ≡ length text.head + (length carried + length text.alignment) =
    ap (λ (l : List ℕ). length l) text.layout ∙ length-append text.head (carried ++ text.alignment) ∙ ap (λ (n : ℕ). length text.head + n) (length-append carried text.alignment) in
    record {
      long = long;
      kind = fields.kind;
      tagged = fields.tagged;
      named = λ e. omega (arith, piece.tagged.0, e);
      inverse = fields.inverse;
      some = omega (arith, piece.some, fields.counted);
      few = omega (arith, piece.few, fields.counted);
      within = omega (arith, size_is, length-append bytes more, twelve, text.least, fields.counted);
      eom = eom;
      headed = subst (λ (n : ℕ). IsInHeader (header_of tag n eom) (take header_size bytes)) (sym fields.counted)
          (subst (λ (l : List ℕ). IsInHeader (header_of tag (length carried) eom) (take header_size l)) (sym front) (laws.in_front (header_of tag (length carried) eom) text.head (drop header_size bytes) text.headed));
    }

pub piece_whole : (laws : WireLaws) (tag size : ℕ) (bytes carried : List ℕ) (eom : Bool) → IsPiece tag size eom carried bytes → IsWhole eom carried bytes
piece_whole laws tag size bytes carried eom piece =
    let text = piece.text in
    let twelve = laws.in_size (header_of tag (length carried) eom) text.head text.headed in
    let fields = subst (λ (l : List ℕ). Fields tag (length carried) eom l) (sym text.layout) (fields_of laws tag (length carried) eom text.head (carried ++ text.alignment) text.headed) in
    let size_is : length bytes ≡ length text.head + (length carried + length text.alignment) =
    ap (λ (l : List ℕ). length l) text.layout ∙ length-append text.head (carried ++ text.alignment) ∙ ap (λ (n : ℕ). length text.head + n) (length-append carried text.alignment) in
    record {
      complete = omega (arith, size_is, twelve, fields.counted);
      last = fields.last;
      data_is = ap (λ (n : ℕ). take n (drop header_size bytes)) fields.counted ∙ ap (λ (l : List ℕ). take (length carried) (drop header_size l)) text.layout
          ∙ ap (λ (l : List ℕ). take (length carried) l) (subst (λ (n : ℕ). drop n (text.head ++ (carried ++ text.alignment)) ≡ carried ++ text.alignment) twelve (drop_own text.head (carried ++ text.alignment)))
          ∙ take-append_seam carried text.alignment;
    }
  where
    drop_own : (a b : List ℕ) → drop (length a) (a ++ b) ≡ b
    drop_own [] b = refl
    drop_own (x ∷ a) b = drop_own a b

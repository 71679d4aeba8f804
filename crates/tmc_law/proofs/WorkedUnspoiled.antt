-- Bulk-OUT submits whose header and length are good
use Rattle.std.proofs.Common.{◌≡◌, ◌≢◌, ◌⊎◌, ℕ, ◌+◌, ◌-◌, ◌%◌, ◌^◌, ◌<◌, ◌≤◌, Bool, true, false, List, [], ◌++◌, length, take, drop, Some, None, get_or, refl, inl, inr, sym, ap, subst, ◌∙◌, arith}
use Rattle.std.specs.Int.{w32, from_le_bytes}
use Rattle.std.proofs.lemmas.Nat.{from_le_bytes-to_le_bytes_4}
use Rattle.tmc_wire.specs.declared.header.OutHeader.{OutHeader}
use Rattle.tmc_wire.specs.declared.header.OutHeader.TheVariants.{Message, Request, Trigger}
use Rattle.tmc_wire.specs.declared.header_fault.HeaderFault.{HeaderFault}
use Rattle.tmc_wire.specs.declared.header_fault.HeaderFault.TheVariants.{Length, MsgId, Tag, Inverse, Size}
use Rattle.tmc_wire.specs.Standard.{header_size, trigger}
use Rattle.tmc_wire.specs.Header.{prefix, sized, IsOutHeader, HasEom, IsSized}
use Rattle.tmc_wire.specs.HeaderFault as fault
use Rattle.tmc_law.specs.State.{State, Pending, Transfer, Idle}
use Rattle.tmc_law.specs.BulkOut.{HeaderRefused, NoHeader, BulkInBusy, RequestInside, TriggerInside, TooLong, Belongs, InProgress, Begun, Misfits, Spoils, ByHeader, ByLength, message_most, wants}

byte-is : (xs ys : List ℕ) (k : ℕ) → xs ≡ ys → get_or xs k 0 ≡ get_or ys k 0
byte-is xs ys k e = ap (λ (l : List ℕ). get_or l k 0) e

one_eom : (a b : Bool) (attributes : ℕ) → HasEom a attributes → HasEom b attributes → a ≡ b
one_eom true true n h k = refl
one_eom false false n h k = refl
one_eom true false n h k = absurd (omega arith)
one_eom false true n h k = absurd (omega arith)

message_is : (t u s v : ℕ) (a b : Bool) → t ≡ u → s ≡ v → a ≡ b → Message t s a ≡ Message u v b
message_is t u s v a b p q r = cc

request_is : (t u s v : ℕ) → t ≡ u → s ≡ v → Request t s ≡ Request u v
request_is t u s v p q = cc

trigger_is : (t u : ℕ) → t ≡ u → Trigger t ≡ Trigger u
trigger_is t u p = cc

-- the bytes of a header say its size
abbrev size_in : List ℕ → ℕ
size_in bytes = from_le_bytes w32 (take 4 (drop 4 bytes))

size_is : (m t r s a x y z : ℕ) (bytes : List ℕ) → s < 2 ^ 32 → bytes ≡ prefix m t r ++ sized s a x y z → size_in bytes ≡ s
size_is m t r s a x y z bytes small e = ap size_in e ∙ from_le_bytes-to_le_bytes_4 s small

size_of : (t u s v : ℕ) (bytes : List ℕ) (m n : ℕ) (A B : ℕ → Type 0) → IsSized m t s A bytes → IsSized n u v B bytes → s ≡ v
size_of t u s v bytes m n A B h k =
    sym (size_is m t h.reserved s h.attributes h.ninth h.tenth h.eleventh bytes h.counted.1 h.layout)
    ∙ size_is n u k.reserved v k.attributes k.ninth k.tenth k.eleventh bytes k.counted.1 k.layout

-- bytes are one header
pub one_header : (a b : OutHeader) (bytes : List ℕ) → IsOutHeader a bytes → IsOutHeader b bytes → a ≡ b
one_header (Message t s p) (Message u v q) bytes h k =
    let e = sym h.layout ∙ k.layout in
    message_is t u s v p q (byte-is _ _ 1 e) (size_of t u s v bytes _ _ _ _ h k) (one_eom p q h.attributes h.accepted (rw (byte-is _ _ 8 e) k.accepted))
one_header (Request t s) (Request u v) bytes h k = request_is t u s v (byte-is _ _ 1 (sym h.layout ∙ k.layout)) (size_of t u s v bytes _ _ _ _ h k)
one_header (Trigger t) (Trigger u) bytes h k = trigger_is t u (byte-is _ _ 1 (sym h.layout ∙ k.layout))
one_header (Message t s p) (Request u v) bytes h k = absurd (omega (arith, byte-is _ _ 0 (sym h.layout ∙ k.layout)))
one_header (Message t s p) (Trigger u) bytes h k = absurd (omega (arith, byte-is _ _ 0 (sym h.layout ∙ k.layout)))
one_header (Request t s) (Message u v q) bytes h k = absurd (omega (arith, byte-is _ _ 0 (sym h.layout ∙ k.layout)))
one_header (Request t s) (Trigger u) bytes h k = absurd (omega (arith, byte-is _ _ 0 (sym h.layout ∙ k.layout)))
one_header (Trigger t) (Message u v q) bytes h k = absurd (omega (arith, byte-is _ _ 0 (sym h.layout ∙ k.layout)))
one_header (Trigger t) (Request u v) bytes h k = absurd (omega (arith, byte-is _ _ 0 (sym h.layout ∙ k.layout)))

-- the bytes have no fault of a header
pub record IsFine (bytes : List ℕ) : Type 0 where
  pub long : 12 ≤ length bytes
  pub known : fault.is_out_message (fault.MsgID bytes) ≡ true
  pub tagged : fault.bTag bytes ≢ 0
  pub inverse : fault.bTagInverse bytes ≡ 255 - fault.bTag bytes
  pub counted : (fault.MsgID bytes ≡ trigger) ⊎ (fault.TransferSize bytes ≢ 0)

no_fault : (bytes : List ℕ) (f : HeaderFault) → IsFine bytes → fault.HasFault fault.is_out_message bytes f → ⊥
no_fault bytes Length fine h = omega (arith, h, fine.long)
no_fault bytes MsgId fine h = let e : true ≡ false = sym fine.known ∙ h in cc
no_fault bytes Tag fine h = fine.tagged h
no_fault bytes Inverse fine h = h fine.inverse
no_fault bytes Size fine h = no_size fine.counted h where
  no_size : (fault.MsgID bytes ≡ trigger) ⊎ (fault.TransferSize bytes ≢ 0) → (fault.MsgID bytes ≢ trigger) × (fault.TransferSize bytes ≡ 0) → ⊥
  no_size (inl is) h = h.0 is
  no_size (inr some) h = some h.1

-- a transfer with this header may begin
abbrev pub Suits : State → OutHeader → Type 0
Suits s (Message tag size eom) = length s.part + size ≤ message_most
Suits s (Request tag size) = s.part ≡ []
Suits s (Trigger tag) = s.part ≡ []

-- what stands in front of a header that begins a transfer
pub record IsGood (s : State) (bytes : List ℕ) (header : OutHeader) : Type 0 where
  pub idle : s.side ≡ Idle
  pub fine : IsFine bytes
  pub headed : IsOutHeader header (take header_size bytes)
  pub suits : Suits s header

too_long : (s : State) (header : OutHeader) (tag size : ℕ) (eom : Bool) → header ≡ Message tag size eom → Suits s header → message_most < length s.part + size → ⊥
too_long s (Message t n e) tag size eom is suits long = let same : n ≡ size = cc in omega (arith, suits, long)
too_long s (Request t n) tag size eom is suits long = cc
too_long s (Trigger t) tag size eom is suits long = cc

inside_request : (s : State) (header : OutHeader) (tag size : ℕ) → header ≡ Request tag size → Suits s header → s.part ≡ []
inside_request s (Message t n e) tag size is suits = absurd (cc)
inside_request s (Request t n) tag size is suits = suits
inside_request s (Trigger t) tag size is suits = suits

inside_trigger : (s : State) (header : OutHeader) (tag : ℕ) → header ≡ Trigger tag → Suits s header → s.part ≡ []
inside_trigger s (Message t n e) tag is suits = absurd (cc)
inside_trigger s (Request t n) tag is suits = suits
inside_trigger s (Trigger t) tag is suits = suits

pub not_refused : (s : State) (bytes : List ℕ) (header : OutHeader) → IsGood s bytes header → HeaderRefused s bytes → ⊥
not_refused s bytes header good (NoHeader f is) = no_fault bytes f good.fine is.here
not_refused s bytes header good (BulkInBusy busy) = busy good.idle
not_refused s bytes header good (RequestInside tag size is some) = some (inside_request s header tag size (one_header _ _ _ good.headed is) good.suits)
not_refused s bytes header good (TriggerInside tag is some) = some (inside_trigger s header tag (one_header _ _ _ good.headed is) good.suits)
not_refused s bytes header good (TooLong tag size eom is long) = too_long s header tag size eom (one_header _ _ _ good.headed is) good.suits long

-- the transfer that a header begins
abbrev pub begun : OutHeader → Transfer
begun header = record { header = header; taken = [] }

pub begins : (s : State) (submit : Pending) (header : OutHeader) → s.transfer ≡ None → IsGood s submit.left header → Belongs s submit (begun header)
begins s submit header none good = Begun header none (not_refused s submit.left header good) good.headed refl

belongs_one : (s : State) (submit : Pending) (header : OutHeader) (transfer : Transfer) → s.transfer ≡ None → IsGood s submit.left header → Belongs s submit transfer → transfer ≡ begun header
belongs_one s submit header transfer none good (InProgress is) = let e : None ≡ Some transfer = sym none ∙ is in absurd (cc)
belongs_one s submit header transfer none good (Begun other n r headed is) = is ∙ ap begun (one_header _ _ _ headed good.headed)

-- nothing is spoiled by a first submit, or by one of a transfer in progress, whose length fits
pub unspoiled : (s : State) (submit : Pending) (header : OutHeader) → s.transfer ≡ None → IsGood s submit.left header → (Misfits submit (begun header) → ⊥) → Spoils s submit → ⊥
unspoiled s submit header none good fits (ByHeader n refused) = not_refused s submit.left header good refused
unspoiled s submit header none good fits (ByLength transfer belongs fresh misfits) =
    fits (subst (λ (t : Transfer). Misfits submit t) (belongs_one s submit header transfer none good belongs) misfits)

-- nothing is spoiled inside a submit
pub unspoiled_inside : (s : State) (submit : Pending) (transfer : Transfer) → s.transfer ≡ Some transfer → submit.moved ≢ [] → Spoils s submit → ⊥
unspoiled_inside s submit transfer runs some (ByHeader none refused) = let e : None ≡ Some transfer = sym none ∙ runs in cc
unspoiled_inside s submit transfer runs some (ByLength other belongs fresh misfits) = some fresh

-- a submit that is the rest of a transfer, or has full packets of it
pub fits_whole : (submit : Pending) (transfer : Transfer) → wants transfer ≡ submit.head.length → Misfits submit transfer → ⊥
fits_whole submit transfer is (inl long) = omega (arith, long)
fits_whole submit transfer is (inr (short, other)) = omega (arith, short)

pub fits_full : (submit : Pending) (transfer : Transfer) → submit.head.length ≤ wants transfer → submit.head.length % 64 ≡ 0 → Misfits submit transfer → ⊥
fits_full submit transfer within full (inl long) = omega (arith, long)
fits_full submit transfer within full (inr (short, other)) = other full

-- what is known of the transfer that a packet belongs to
use Rattle.std.proofs.Common.{◌≡◌, ◌≢◌, ◌∙◌, ◌⊎◌, inl, inr, ℕ, ◌+◌, ◌-◌, ◌%◌, ◌<◌, ◌≤◌, List, [], ◌∷◌, ◌++◌, length, take, drop, Option, Some, None, refl, ap, sym, subst, arith}
use Rattle.std.proofs.lemmas.List.{length-replicate, length-take, length-append, length-take-le, length-drop, take-append-le, take-append-drop}
use Rattle.usbip_wire.specs.declared.urb.Dir.{Dir}
use Rattle.usbip_wire.specs.declared.urb.Dir.TheVariants.{Out}
use Rattle.tmc_wire.specs.declared.header.OutHeader.{OutHeader}
use Rattle.tmc_wire.specs.declared.header.OutHeader.TheVariants.{Message, Request, Trigger}
use Rattle.tmc_wire.specs.Standard.{header_size}
use Rattle.tmc_wire.specs.Header.{IsOutHeader}
use Rattle.tmc_wire.specs.Transfer.{OutText, data_size}
use Rattle.tmc_law.specs.Endpoint.{BulkOut}
use Rattle.tmc_law.specs.State.{State, Pending, Transfer, transfer_size}
use Rattle.tmc_law.specs.BulkOut.{message_most, HeaderRefused, RequestInside, TriggerInside, TooLong, Belongs, InProgress, Begun, Spoils, ByLength, wants}
use Rattle.tmc_law.specs.Acts.{Sized}
use Rattle.tmc_law.specs.Reached.{AllFit, GoesOn}
use Rattle.msg_exchange.specs.Parts.{alignment_most}
use Rattle.tmc_device.specs.Sound.{IsSound}

pub size_of : (n : ℕ) → transfer_size n ≡ 12 + (n + (4 - n % 4) % 4)
size_of n = ap (λ (m : ℕ). 12 + (n + m)) (length-replicate ((4 - n % 4) % 4) 0)

-- a header has twelve bytes
pub twelve : (header : OutHeader) (bytes : List ℕ) → IsOutHeader header bytes → length bytes ≡ header_size
twelve (Message tag size eom) bytes is = ap (λ (l : List ℕ). length l) is.layout
twelve (Request tag size) bytes is = ap (λ (l : List ℕ). length l) is.layout
twelve (Trigger tag) bytes is = omega (arith, ap (λ (l : List ℕ). length l) is.layout, is.eight)

-- The rest of the submit fits the transfer, the message fits behind the unfinished one, and the transfer begins with its
-- header.
pub record IsWanted (s : State) (submit : Pending) (transfer : Transfer) : Type 0 where
  pub rest : length transfer.taken + length submit.left ≤ transfer_size (data_size transfer.header)
  pub place : length s.part + data_size transfer.header ≤ message_most
  pub headed : IsOutHeader transfer.header (take header_size (transfer.taken ++ submit.left))

nothing_or : (l : List ℕ) → (l ≡ []) ⊎ (l ≢ [])
nothing_or [] = inl refl
nothing_or (x ∷ l) = inr (λ same. cc)

not_some : (l : List ℕ) → (l ≢ [] → ⊥) → length l ≡ 0
not_some [] h = refl
not_some (x ∷ l) h = absurd (h (λ same. cc))

sized_out : (d : Dir) (submit : Pending) → d ≡ Out → Sized d submit → length submit.moved + length submit.left ≡ submit.head.length
sized_out d submit way sized = subst (λ (v : Dir). Sized v submit) way sized

begun_place : (s : State) (bytes : List ℕ) (header : OutHeader) → ¬ HeaderRefused s bytes → IsOutHeader header (take header_size bytes) → length s.part + data_size header ≤ message_most
begun_place s bytes (Message tag size eom) ok headed = omega (arith, λ (long : message_most < length s.part + size). ok (TooLong tag size eom headed long))
begun_place s bytes (Request tag size) ok headed = let none = not_some s.part (λ some. ok (RequestInside tag size headed some)) in omega (arith, none)
begun_place s bytes (Trigger tag) ok headed = let none = not_some s.part (λ some. ok (TriggerInside tag headed some)) in omega (arith, none)

less_taken : (s : State) (submit : Pending) (transfer : Transfer) → IsSound s → Belongs s submit transfer → length transfer.taken ≤ transfer_size (data_size transfer.header)
less_taken s submit transfer sound (InProgress same) = let w = (sound.order.wanting transfer same).1 in omega (arith, w)
less_taken s submit transfer sound (Begun header none ok headed begun) =
    let empty : length transfer.taken ≡ 0 = ap (λ (t : Transfer). length t.taken) begun in omega (arith, empty)

the_place : (s : State) (submit : Pending) (transfer : Transfer) → IsSound s → Belongs s submit transfer → length s.part + data_size transfer.header ≤ message_most
the_place s submit transfer sound (InProgress same) = (sound.under_way transfer same).fits
the_place s submit transfer sound (Begun header none ok headed begun) =
    subst (λ (t : Transfer). length s.part + data_size t.header ≤ message_most) (sym begun) (begun_place s submit.left header ok headed)

the_header : (s : State) (submit : Pending) (transfer : Transfer) → IsSound s → Belongs s submit transfer → IsOutHeader transfer.header (take header_size (transfer.taken ++ submit.left))
the_header s submit transfer sound (InProgress same) =
    let u = sound.under_way transfer same in
    subst (λ (l : List ℕ). IsOutHeader transfer.header l) (sym (take-append-le header_size transfer.taken submit.left u.long)) u.headed
the_header s submit transfer sound (Begun header none ok headed begun) =
    subst (λ (t : Transfer). IsOutHeader t.header (take header_size (t.taken ++ submit.left))) (sym begun) headed

under_way_fits : (s : State) (submit : Pending) (transfer under_way : Transfer) → Belongs s submit transfer → s.transfer ≡ Some under_way → length submit.left ≤ wants under_way
    → length submit.left ≤ wants transfer
under_way_fits s submit transfer under_way (InProgress same) is fits =
    let both : ◌≡◌ {A = Option Transfer} (Some under_way) (Some transfer) = sym is ∙ same in
    let one : under_way ≡ transfer = cc in subst (λ (t : Transfer). length submit.left ≤ wants t) one fits
under_way_fits s submit transfer under_way (Begun header none ok headed begun) is fits =
    let both : ◌≡◌ {A = Option Transfer} None (Some under_way) = sym none ∙ is in absurd (cc)

rest_fits : (s : State) (submit : Pending) (behind : List Pending) (transfer : Transfer) → IsSound s → s.bulk_out ≡ submit ∷ behind → ¬ Spoils s submit → Belongs s submit transfer
    → (submit.moved ≡ []) ⊎ (submit.moved ≢ []) → length submit.left ≤ wants transfer
rest_fits s submit behind transfer sound is ok belongs (inl none) =
    let fits = (subst (AllFit BulkOut) is (sound.stand BulkOut)).0 in
    let sized = sized_out submit.head.dir submit fits.way fits.sized in
    let empty : length submit.moved ≡ 0 = ap length none in
    omega (arith, sized, empty, λ (long : wants transfer < submit.head.length). ok (ByLength transfer belongs none (inl long)))
rest_fits s submit behind transfer sound is ok belongs (inr some) =
    let on = subst (λ (l : List Pending). GoesOn l s.transfer) is sound.order.goes_on in
    let u = on some in under_way_fits s submit transfer u.0 belongs u.1 u.2

pub wanted : (s : State) (submit : Pending) (behind : List Pending) (transfer : Transfer) → IsSound s → s.bulk_out ≡ submit ∷ behind → ¬ Spoils s submit → Belongs s submit transfer
    → IsWanted s submit transfer
wanted s submit behind transfer sound is ok belongs = record {
  rest =
      let taken = less_taken s submit transfer sound belongs in
      let rest = rest_fits s submit behind transfer sound is ok belongs (nothing_or submit.moved) in omega (arith, taken, rest);
  place = the_place s submit transfer sound belongs;
  headed = the_header s submit transfer sound belongs;
}

-- so no part that comes is longer than its place, but for its alignment bytes
pub fits_place : (s : State) (submit : Pending) (transfer : Transfer) → IsWanted s submit transfer
    → length s.part + (length transfer.taken + length submit.left) ≤ message_most + (header_size + alignment_most)
fits_place s submit transfer w =
    let rest = w.rest in let place = w.place in let size = size_of (data_size transfer.header) in omega (arith, rest, place, size)

-- and it begins with a whole header
pub long_enough : (s : State) (submit : Pending) (transfer : Transfer) → IsWanted s submit transfer → header_size ≤ length transfer.taken + length submit.left
long_enough s submit transfer w =
    let bytes = transfer.taken ++ submit.left in
    let headed = twelve transfer.header (take header_size bytes) w.headed in
    omega (arith, headed, length-take header_size bytes, length-append transfer.taken submit.left)

-- the bytes of a whole transfer are its header, its data and its alignment
pub whole_text : (header : OutHeader) (bytes : List ℕ) → IsOutHeader header (take header_size bytes) → length bytes ≡ transfer_size (data_size header)
    → OutText header (take (data_size header) (drop header_size bytes)) bytes
whole_text header bytes headed long =
    let size = size_of (data_size header) in
    let behind = length-drop header_size bytes in record {
      head = take header_size bytes;
      alignment = drop (data_size header) (drop header_size bytes);
      headed = headed;
      counted = length-take-le (data_size header) (drop header_size bytes) (omega (arith, behind, long, size));
      least = let last = length-drop (data_size header) (drop header_size bytes) in omega (arith, last, behind, long, size);
      aligned = omega (arith, long, size);
      layout = sym (ap (λ (l : List ℕ). take header_size bytes ++ l) (take-append-drop (data_size header) (drop header_size bytes)) ∙ take-append-drop header_size bytes);
    }

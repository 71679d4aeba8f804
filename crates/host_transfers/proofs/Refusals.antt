-- where a read is refused no transfer goes on, and it is refused at one field
use Rattle.std.proofs.Common.{◌≡◌, ◌⊎◌, inl, inr, ℕ, zero, suc, ◌+◌, ◌-◌, ◌<◌, ◌≤◌, Bool, true, false, List, [], ◌++◌, length, take, refl, sym, subst, ◌∙◌, ap, arith, length-append}
use Rattle.std.proofs.lemmas.Bool.{cases_lt}
use Rattle.std.proofs.lemmas.List.{append-nil, take-append-le}
use Rattle.tmc_base.specs.declared.field.Field.{Field}
use Rattle.tmc_wire.specs.declared.header.InHeader.{InHeader}
use Rattle.tmc_wire.specs.declared.header_fault.HeaderFault.{HeaderFault}
use Rattle.tmc_wire.specs.declared.header_fault.HeaderFault.TheVariants.{Length, MsgId, Tag, Inverse, Size}
use Rattle.tmc_wire.specs.Header.{IsInHeader, prefix, sized}
use Rattle.tmc_wire.specs.HeaderFault.{MsgID, bTag, bTagInverse, TransferSize, is_in_message, HasFault, IsInFault, place_of}
use Rattle.tmc_wire.specs.Transfer.{InText}
use Rattle.host_transfers.specs.Answer.{Answers, GoesOn, Refuses, Faulty, OtherTag, TooMuch, EndsEarly, GoesFurther, field_of}
use Rattle.host_transfers.proofs.Reading.{header_length, long}
use Rattle.host_transfers.proofs.Transfers.{size_there, front}

clash : {P : Type 0} → true ≡ false → P
clash e = absurd (no e)
  where
    no : true ≡ false → ⊥
    no h = cc

-- ---- a header has no fault, and bytes are one header

module _ (header : InHeader) (bytes : List ℕ) (h : IsInHeader header bytes) where
  tag_there : bTag bytes ≡ header.tag
  tag_there = ap bTag h.layout

  size_in : TransferSize bytes ≡ header.size
  size_in = ap TransferSize (h.layout ∙ sym (append-nil (prefix 2 header.tag h.reserved ++ sized header.size h.attributes h.ninth h.tenth h.eleventh)))
      ∙ size_there 2 header.tag h.reserved header.size h.attributes h.ninth h.tenth h.eleventh [] h.counted.1

  sound : (fault : HeaderFault) → HasFault is_in_message bytes fault → ⊥
  sound Length e = omega (arith, e, header_length header bytes h)
  sound MsgId e = clash (sym (ap (λ (l : List ℕ). is_in_message (MsgID l)) h.layout) ∙ e)
  sound Tag e = omega (arith, e, tag_there, h.tagged.0)
  sound Inverse e = e (ap bTagInverse h.layout ∙ ap (λ (n : ℕ). 255 - n) (sym tag_there))
  sound Size e = omega (arith, e.1, size_in, h.counted.0)

same_tag : (a b : InHeader) (bytes : List ℕ) → IsInHeader a bytes → IsInHeader b bytes → a.tag ≡ b.tag
same_tag a b bytes h k = sym (tag_there a bytes h) ∙ tag_there b bytes k

same_size : (a b : InHeader) (bytes : List ℕ) → IsInHeader a bytes → IsInHeader b bytes → a.size ≡ b.size
same_size a b bytes h k = sym (size_in a bytes h) ∙ size_in b bytes k

-- ---- no transfer goes on

module _ (header : InHeader) (message bytes more : List ℕ) (t : InText header message (bytes ++ more)) where
  begins : 12 ≤ length bytes → IsInHeader header (take 12 bytes)
  begins l =
      let whole : take 12 (bytes ++ more) ≡ t.head = ap (λ (x : List ℕ). take 12 x) t.layout ∙ front 12 t.head (message ++ t.alignment) (header_length header t.head t.headed) in
      subst (λ (x : List ℕ). IsInHeader header x) (sym (sym (take-append-le 12 bytes more l) ∙ whole)) t.headed

  count : length (bytes ++ more) ≡ 12 + header.size + length t.alignment
  count = ap (λ (x : List ℕ). length x) t.layout ∙ omega (arith, length-append t.head (message ++ t.alignment), length-append message t.alignment, header_length header t.head t.headed, t.counted)

contradicts : (tag size : ℕ) (bytes more : List ℕ) (ended : Bool) (field : Field) (header : InHeader) (message : List ℕ) → Answers tag size header message (bytes ++ more)
    → (ended ≡ true → length more ≡ 0) → 12 ≤ length bytes → Refuses tag size bytes ended field → ⊥
contradicts tag size bytes more ended field header message a all l (Faulty fault judged here e) = sound header (take 12 bytes) (begins header message bytes more a.text l) fault here.here
contradicts tag size bytes more ended field header message a all l (OtherTag other h apart e) =
    apart (same_tag other header (take 12 bytes) h (begins header message bytes more a.text l) ∙ a.tagged)
contradicts tag size bytes more ended field header message a all l (TooMuch other h same over e) =
    omega (arith, same_size other header (take 12 bytes) h (begins header message bytes more a.text l), a.few, over)
contradicts tag size bytes more ended field header message a all l (EndsEarly other f is short e) =
    omega (arith, same_size other header (take 12 bytes) f.headed (begins header message bytes more a.text l), short, all is, count header message bytes more a.text, length-append bytes more)
contradicts tag size bytes more ended field header message a all l (GoesFurther other f over e) =
    omega (arith, same_size other header (take 12 bytes) f.headed (begins header message bytes more a.text l), over, a.text.least, count header message bytes more a.text, length-append bytes more)

judged_long : (tag size : ℕ) (bytes : List ℕ) (field : Field) → Refuses tag size bytes false field → 12 ≤ length bytes
judged_long tag size bytes field (Faulty fault (inl e) here f) = clash (sym e)
judged_long tag size bytes field (Faulty fault (inr l) here f) = l
judged_long tag size bytes field (OtherTag header h apart e) = long header bytes h
judged_long tag size bytes field (TooMuch header h same over e) = long header bytes h
judged_long tag size bytes field (EndsEarly header f is short e) = long header bytes f.headed
judged_long tag size bytes field (GoesFurther header f over e) = long header bytes f.headed

pub none_goes_on : (tag size : ℕ) (bytes : List ℕ) (field : Field) → Refuses tag size bytes false field → GoesOn tag size bytes → ⊥
none_goes_on tag size bytes field r g =
    contradicts tag size bytes g.more false field g.header g.message g.answers (λ e. clash (sym e)) (judged_long tag size bytes field r) r

pub none_is_whole : (tag size : ℕ) (bytes : List ℕ) (field : Field) (header : InHeader) (message : List ℕ) → Refuses tag size bytes true field → Answers tag size header message bytes → ⊥
none_is_whole tag size bytes field header message r a =
    let again : Answers tag size header message (bytes ++ []) = subst (λ (l : List ℕ). Answers tag size header message l) (sym (append-nil bytes)) a in
    let l = count header message bytes [] again.text in
    contradicts tag size bytes [] true field header message again (λ e. refl) (omega (arith, l, length-append {A = ℕ} bytes [])) r

-- ---- one field

abbrev fault_at : ℕ → HeaderFault
fault_at zero = Length
fault_at (suc zero) = MsgId
fault_at (suc (suc zero)) = Tag
fault_at (suc (suc (suc zero))) = Inverse
fault_at (suc (suc (suc (suc n)))) = Size

one_place : (a b : HeaderFault) → place_of a ≡ place_of b → a ≡ b
one_place a b e = sym (at a) ∙ (ap fault_at e ∙ at b)
  where
    at : (f : HeaderFault) → fault_at (place_of f) ≡ f
    at Length = refl
    at MsgId = refl
    at Tag = refl
    at Inverse = refl
    at Size = refl

one_fault : (bytes : List ℕ) (a b : HeaderFault) → IsInFault bytes a → IsInFault bytes b → a ≡ b
one_fault bytes a b f g = step (cases_lt (place_of a) (place_of b)) (cases_lt (place_of b) (place_of a))
  where
    step : (place_of a < place_of b) ⊎ (place_of b ≤ place_of a) → (place_of b < place_of a) ⊎ (place_of a ≤ place_of b) → a ≡ b
    step (inl l) m = absurd (g.first a l f.here)
    step (inr l) (inl m) = absurd (f.first b m g.here)
    step (inr l) (inr m) = one_place a b (omega (arith, l, m))

pub one_field : (tag size : ℕ) (bytes : List ℕ) (ended : Bool) (a b : Field) → Refuses tag size bytes ended a → Refuses tag size bytes ended b → a ≡ b
one_field tag size bytes ended a b (Faulty x i f e) (Faulty y j g k) = e ∙ (ap field_of (one_fault (take 12 bytes) x y f g) ∙ sym k)
one_field tag size bytes ended a b (Faulty x i f e) (OtherTag h g apart k) = absurd (sound h (take 12 bytes) g x f.here)
one_field tag size bytes ended a b (Faulty x i f e) (TooMuch h g same over k) = absurd (sound h (take 12 bytes) g x f.here)
one_field tag size bytes ended a b (Faulty x i f e) (EndsEarly h g is short k) = absurd (sound h (take 12 bytes) g.headed x f.here)
one_field tag size bytes ended a b (Faulty x i f e) (GoesFurther h g over k) = absurd (sound h (take 12 bytes) g.headed x f.here)
one_field tag size bytes ended a b (OtherTag h g apart e) (Faulty x i f k) = absurd (sound h (take 12 bytes) g x f.here)
one_field tag size bytes ended a b (OtherTag h g apart e) (OtherTag i f not k) = e ∙ sym k
one_field tag size bytes ended a b (OtherTag h g apart e) (TooMuch i f same over k) = absurd (apart (same_tag h i (take 12 bytes) g f ∙ same))
one_field tag size bytes ended a b (OtherTag h g apart e) (EndsEarly i f is short k) = absurd (apart (same_tag h i (take 12 bytes) g f.headed ∙ f.tagged))
one_field tag size bytes ended a b (OtherTag h g apart e) (GoesFurther i f over k) = absurd (apart (same_tag h i (take 12 bytes) g f.headed ∙ f.tagged))
one_field tag size bytes ended a b (TooMuch h g same over e) (Faulty x i f k) = absurd (sound h (take 12 bytes) g x f.here)
one_field tag size bytes ended a b (TooMuch h g same over e) (OtherTag i f apart k) = absurd (apart (same_tag i h (take 12 bytes) f g ∙ same))
one_field tag size bytes ended a b (TooMuch h g same over e) (TooMuch i f also more k) = e ∙ sym k
one_field tag size bytes ended a b (TooMuch h g same over e) (EndsEarly i f is short k) = absurd (omega (arith, over, f.few, same_size h i (take 12 bytes) g f.headed))
one_field tag size bytes ended a b (TooMuch h g same over e) (GoesFurther i f more k) = absurd (omega (arith, over, f.few, same_size h i (take 12 bytes) g f.headed))
one_field tag size bytes ended a b (EndsEarly h g is short e) (Faulty x i f k) = absurd (sound h (take 12 bytes) g.headed x f.here)
one_field tag size bytes ended a b (EndsEarly h g is short e) (OtherTag i f apart k) = absurd (apart (same_tag i h (take 12 bytes) f g.headed ∙ g.tagged))
one_field tag size bytes ended a b (EndsEarly h g is short e) (TooMuch i f same over k) = absurd (omega (arith, over, g.few, same_size h i (take 12 bytes) g.headed f))
one_field tag size bytes ended a b (EndsEarly h g is short e) (EndsEarly i f also less k) = e ∙ sym k
one_field tag size bytes ended a b (EndsEarly h g is short e) (GoesFurther i f over k) = e ∙ sym k
one_field tag size bytes ended a b (GoesFurther h g over e) (Faulty x i f k) = absurd (sound h (take 12 bytes) g.headed x f.here)
one_field tag size bytes ended a b (GoesFurther h g over e) (OtherTag i f apart k) = absurd (apart (same_tag i h (take 12 bytes) f g.headed ∙ g.tagged))
one_field tag size bytes ended a b (GoesFurther h g over e) (TooMuch i f same more k) = absurd (omega (arith, more, g.few, same_size h i (take 12 bytes) g.headed f))
one_field tag size bytes ended a b (GoesFurther h g over e) (EndsEarly i f is short k) = e ∙ sym k
one_field tag size bytes ended a b (GoesFurther h g over e) (GoesFurther i f more k) = e ∙ sym k

-- the lines of a book tell it
use Rattle.std.proofs.Common.{◌≡◌, ℕ, zero, suc, ◌<◌, ◌^◌, ℤ, pos, negsuc, false, cond, eqb, Option, Some, None, List, [], ◌∷◌, ◌++◌, codes, length, refl, sym, ap, ◌∙◌, arith, append_assoc}
use Rattle.std.proofs.lemmas.Bool.{ne_eqb}
use Rattle.std.proofs.lemmas.Fmt.{decimal_is_IsNumeral}
use Rattle.std.proofs.lemmas.Str.Parse.{digit_from_value}
use Rattle.std.specs.Fmt.{decimal, signed_decimal}
use Rattle.std.specs.List.{AllByRecursion}
use Rattle.std.specs.Str.{bytes_eq}
use Rattle.std.specs.Str.Parse.{AllDigits, digits_value}
use Rattle.tmc_base.specs.declared.field.Field.{Field}
use Rattle.tmc_base.specs.declared.field.Layer.{Layer}
use Rattle.tmc_base.specs.declared.field.Layer.TheVariants as layer
use Rattle.tmc_base.specs.declared.field.Name.{Name}
use Rattle.tmc_base.specs.declared.field.Name.TheVariants as name
use Rattle.host_hub.specs.BookSeen.{Seen}
use Rattle.host_hub.specs.declared.book.BookEntry.{BookEntry}
use Rattle.host_hub.specs.declared.book.BookEntry.TheVariants as entry
use Rattle.host_hub.specs.declared.kind.Kind.{Kind}
use Rattle.host_hub.specs.declared.kind.Kind.TheVariants as kind
use Rattle.host_hub.specs.declared.outcome.End.{End}
use Rattle.host_hub.specs.declared.outcome.End.TheVariants as ended
use Rattle.host_hub.specs.declared.outcome.Outcome.{Outcome}
use Rattle.host_hub.specs.declared.outcome.Outcome.TheVariants as outcome
use Rattle.instr_plain.specs.declared.remote.RemoteAct.TheVariants.{On, Off, GoLocal, Lockout}
use Rattle.event_text.specs.Outcome.{outcome_words, end_words}
use Rattle.event_text.specs.Printed.{layer_word, name_word, field_words}
use Rattle.event_text.specs.Report.{numbered, kind_word, ticket_line, entry_line}
use Rattle.event_text.specs.Told.{IsStatus, MayBecome, MayEnd, MayBeSeen, MayBeEntered}
use Rattle.event_text.specs.Words.{words_of, bytes_of, hex_word}
use Rattle.event_text.proofs.Hexes.{bytes_is}
use Rattle.event_text.proofs.LogCuts.{hex_clear, number_read, number_reads, some_same}
use Rattle.event_text.proofs.Spelled.{word_by, digits_word, digits_then, hex_then}
use Rattle.event_text.proofs.TextCuts.{Clear, is_nl, NotWith, behind_front, cut_at_stop, clear_append, clear_word, number_clear, by_index, lines_cut, tail_same}

-- ---- numbers

pub value_is : (n : ℕ) → n < 2 ^ 64 → digits_value 10 (decimal n) ≡ n
value_is n small = (decimal_is_IsNumeral n small).1

pub wide_word : (n : ℕ) → n < 2 ^ 64 → words_of (decimal n) ≡ decimal n ∷ []
wide_word n small = digits_word (decimal n) (decimal_is_IsNumeral n small).0.1

pub wide_then : (n : ℕ) (more : List ℕ) → n < 2 ^ 64 → words_of (decimal n ++ 32 ∷ more) ≡ decimal n ∷ words_of more
wide_then n more small = digits_then (decimal n) more (decimal_is_IsNumeral n small).0.1

abbrev below_zero : ℕ → ℤ
below_zero zero = pos 0
below_zero (suc n) = negsuc n

abbrev signed_value : List ℕ → ℤ
signed_value [] = pos 0
signed_value (b ∷ bs) = cond (eqb b 45) (below_zero (digits_value 10 bs)) (pos (digits_value 10 (b ∷ bs)))

unsigned : (ds : List ℕ) → AllDigits 10 ds → 0 < length ds → signed_value ds ≡ pos (digits_value 10 ds)
unsigned [] all some = absurd (omega (arith, some))
unsigned (c ∷ cs) all some =
    let d = digit_from_value c all.0 in
    let other : eqb c 45 ≡ false = ne_eqb _ _ (λ e. omega (arith, d, e)) in
    ap (λ b. cond b (below_zero (digits_value 10 cs)) (pos (digits_value 10 (c ∷ cs)))) other

signed_reads : (z : ℤ) → IsStatus z → signed_value (signed_decimal z) ≡ z
signed_reads (pos n) small =
    let wide : n < 2 ^ 64 = omega (arith, small) in
    let numeral = decimal_is_IsNumeral n wide in
    unsigned (decimal n) numeral.0.1 numeral.0.0 ∙ ap (λ k. pos k) numeral.1
signed_reads (negsuc n) small =
    let wide : suc n < 2 ^ 64 = omega (arith, small) in
    ap below_zero (value_is (suc n) wide)

signed_word : (z : ℤ) → IsStatus z → words_of (signed_decimal z) ≡ signed_decimal z ∷ []
signed_word (pos n) small = wide_word n (omega (arith, small))
signed_word (negsuc n) small = word_by 45 (decimal (suc n)) false refl refl (wide_word (suc n) (omega (arith, small)))

signed_clear : (z : ℤ) → IsStatus z → Clear is_nl (signed_decimal z)
signed_clear (pos n) small = number_clear n (omega (arith, small))
signed_clear (negsuc n) small = (refl, number_clear (suc n) (omega (arith, small)))

pub byte_clear : (n : ℕ) → n < 2 ^ 8 → Clear is_nl (decimal n)
byte_clear n small = number_clear n (omega (arith, small))

byte_reads : {A : Type 0} → (make : ℕ → A) (n : ℕ) → n < 2 ^ 8 → number_read make (words_of (decimal n)) ≡ Some (make n)
byte_reads {A} make n small = number_reads make n (omega (arith, small))

abbrev signed_read : {A : Type 0} → (ℤ → A) → List (List ℕ) → Option A
signed_read {A} make (word ∷ []) = Some (make (signed_value word))
signed_read {A} make words = None

status_reads : {A : Type 0} → (make : ℤ → A) (z : ℤ) → IsStatus z → signed_read make (words_of (signed_decimal z)) ≡ Some (make z)
status_reads {A} make z small = ap (signed_read make) (signed_word z small) ∙ ap (λ k. Some (make k)) (signed_reads z small)

-- ---- fields

abbrev layer_read : List ℕ → Layer
layer_read word =
    cond (bytes_eq word (codes "op")) layer.Op
    (cond (bytes_eq word (codes "urb")) layer.Urb
    (cond (bytes_eq word (codes "bulk")) layer.Bulk
    (cond (bytes_eq word (codes "control")) layer.Control
    layer.Notify)))

abbrev name_read : List ℕ → Name
name_read word =
    cond (bytes_eq word (codes "version")) name.Version
    (cond (bytes_eq word (codes "code")) name.Code
    (cond (bytes_eq word (codes "command")) name.Command
    (cond (bytes_eq word (codes "seqnum")) name.Seqnum
    (cond (bytes_eq word (codes "devid")) name.Devid
    (cond (bytes_eq word (codes "direction")) name.Direction
    (cond (bytes_eq word (codes "endpoint")) name.Endpoint
    (cond (bytes_eq word (codes "buffer_length")) name.BufferLength
    (cond (bytes_eq word (codes "packets")) name.Packets
    (cond (bytes_eq word (codes "actual_length")) name.ActualLength
    (cond (bytes_eq word (codes "pending")) name.Pending
    (cond (bytes_eq word (codes "msg_id")) name.MsgId
    (cond (bytes_eq word (codes "tag")) name.Tag
    (cond (bytes_eq word (codes "inverse")) name.Inverse
    (cond (bytes_eq word (codes "size")) name.Size
    name.Length))))))))))))))

layer_reads : (l : Layer) → layer_read (layer_word l) ≡ l
layer_reads layer.Op = refl
layer_reads layer.Urb = refl
layer_reads layer.Bulk = refl
layer_reads layer.Control = refl
layer_reads layer.Notify = refl

layer_then : (l : Layer) (more : List ℕ) → words_of (layer_word l ++ 32 ∷ more) ≡ layer_word l ∷ words_of more
layer_then layer.Op more = refl
layer_then layer.Urb more = refl
layer_then layer.Bulk more = refl
layer_then layer.Control more = refl
layer_then layer.Notify more = refl

layer_clear : (l : Layer) → Clear is_nl (layer_word l)
layer_clear layer.Op = clear_word is_nl (codes "op") refl
layer_clear layer.Urb = clear_word is_nl (codes "urb") refl
layer_clear layer.Bulk = clear_word is_nl (codes "bulk") refl
layer_clear layer.Control = clear_word is_nl (codes "control") refl
layer_clear layer.Notify = clear_word is_nl (codes "notify") refl

name_reads : (n : Name) → name_read (name_word n) ≡ n
name_reads name.Version = refl
name_reads name.Code = refl
name_reads name.Command = refl
name_reads name.Seqnum = refl
name_reads name.Devid = refl
name_reads name.Direction = refl
name_reads name.Endpoint = refl
name_reads name.BufferLength = refl
name_reads name.Packets = refl
name_reads name.ActualLength = refl
name_reads name.Pending = refl
name_reads name.MsgId = refl
name_reads name.Tag = refl
name_reads name.Inverse = refl
name_reads name.Size = refl
name_reads name.Length = refl

name_then : (n : Name) (more : List ℕ) → words_of (name_word n ++ 32 ∷ more) ≡ name_word n ∷ words_of more
name_then name.Version more = refl
name_then name.Code more = refl
name_then name.Command more = refl
name_then name.Seqnum more = refl
name_then name.Devid more = refl
name_then name.Direction more = refl
name_then name.Endpoint more = refl
name_then name.BufferLength more = refl
name_then name.Packets more = refl
name_then name.ActualLength more = refl
name_then name.Pending more = refl
name_then name.MsgId more = refl
name_then name.Tag more = refl
name_then name.Inverse more = refl
name_then name.Size more = refl
name_then name.Length more = refl

name_clear : (n : Name) → Clear is_nl (name_word n)
name_clear name.Version = clear_word is_nl (codes "version") refl
name_clear name.Code = clear_word is_nl (codes "code") refl
name_clear name.Command = clear_word is_nl (codes "command") refl
name_clear name.Seqnum = clear_word is_nl (codes "seqnum") refl
name_clear name.Devid = clear_word is_nl (codes "devid") refl
name_clear name.Direction = clear_word is_nl (codes "direction") refl
name_clear name.Endpoint = clear_word is_nl (codes "endpoint") refl
name_clear name.BufferLength = clear_word is_nl (codes "buffer_length") refl
name_clear name.Packets = clear_word is_nl (codes "packets") refl
name_clear name.ActualLength = clear_word is_nl (codes "actual_length") refl
name_clear name.Pending = clear_word is_nl (codes "pending") refl
name_clear name.MsgId = clear_word is_nl (codes "msg_id") refl
name_clear name.Tag = clear_word is_nl (codes "tag") refl
name_clear name.Inverse = clear_word is_nl (codes "inverse") refl
name_clear name.Size = clear_word is_nl (codes "size") refl
name_clear name.Length = clear_word is_nl (codes "length") refl

abbrev field_read : {A : Type 0} → (Field → A) → List (List ℕ) → Option A
field_read {A} make (l ∷ n ∷ offset ∷ []) = Some (make (record { layer = layer_read l; name = name_read n; offset = digits_value 10 offset }))
field_read {A} make words = None

field_reads : {A : Type 0} → (make : Field → A) (f : Field) → f.offset < 2 ^ 32 → field_read make (words_of (field_words f)) ≡ Some (make f)
field_reads {A} make f small =
    let wide : f.offset < 2 ^ 64 = omega (arith, small) in
    let are : words_of (field_words f) ≡ layer_word f.layer ∷ name_word f.name ∷ decimal f.offset ∷ [] =
    layer_then f.layer (name_word f.name ++ 32 ∷ decimal f.offset)
    ∙ ap (λ z. layer_word f.layer ∷ z) (name_then f.name (decimal f.offset) ∙ ap (λ z. name_word f.name ∷ z) (wide_word f.offset wide)) in
    ap (field_read make) are
    ∙ (ap (λ (l : Layer). Some (make (record { layer = l; name = name_read (name_word f.name); offset = digits_value 10 (decimal f.offset) }))) (layer_reads f.layer)
    ∙ (ap (λ (n : Name). Some (make (record { layer = f.layer; name = n; offset = digits_value 10 (decimal f.offset) }))) (name_reads f.name)
    ∙ ap (λ (k : ℕ). Some (make (record { layer = f.layer; name = f.name; offset = k }))) (value_is f.offset wide)))

field_clear : (f : Field) → f.offset < 2 ^ 32 → Clear is_nl (field_words f)
field_clear f small =
    clear_append is_nl (layer_word f.layer) (32 ∷ (name_word f.name ++ 32 ∷ decimal f.offset)) (layer_clear f.layer)
    (refl, clear_append is_nl (name_word f.name) (32 ∷ decimal f.offset) (name_clear f.name) (refl, number_clear f.offset (omega (arith, small))))

-- ---- outcomes and ends

abbrev outcome_read : List (List ℕ) → Option Outcome
outcome_read [] = None
outcome_read (head ∷ words) =
    cond (bytes_eq head (codes "Live")) (Some outcome.Live)
    (cond (bytes_eq head (codes "Complete")) (Some outcome.Complete)
    (cond (bytes_eq head (codes "Done")) (Some outcome.Done)
    (cond (bytes_eq head (codes "Status")) (number_read (λ n. outcome.Status n) words)
    (cond (bytes_eq head (codes "Limit")) (Some outcome.Limit)
    (cond (bytes_eq head (codes "Cancelled")) (Some outcome.Cancelled)
    (cond (bytes_eq head (codes "Cleared")) (number_read (λ n. outcome.Cleared n) words)
    (cond (bytes_eq head (codes "Halted")) (number_read (λ n. outcome.Halted n) words)
    (cond (bytes_eq head (codes "Unplugged")) (Some outcome.Unplugged)
    (cond (bytes_eq head (codes "DeviceFault")) (signed_read (λ z. outcome.DeviceFault z) words)
    (cond (bytes_eq head (codes "DeviceSays")) (number_read (λ n. outcome.DeviceSays n) words)
    (cond (bytes_eq head (codes "PeerFault")) (field_read (λ f. outcome.PeerFault f) words)
    (cond (bytes_eq head (codes "LinkFault")) (Some outcome.LinkFault)
    (cond (bytes_eq head (codes "Exhausted")) (Some outcome.Exhausted)
    (Some outcome.GivenUp))))))))))))))

outcome_reads : (x : Outcome) → MayBecome x → outcome_read (words_of (outcome_words x)) ≡ Some x
outcome_reads outcome.Live fits = refl
outcome_reads outcome.Complete fits = refl
outcome_reads outcome.Done fits = refl
outcome_reads (outcome.Status x) fits = byte_reads (λ n. outcome.Status n) x fits
outcome_reads outcome.Limit fits = refl
outcome_reads outcome.Cancelled fits = refl
outcome_reads (outcome.Cleared x) fits = byte_reads (λ n. outcome.Cleared n) x fits
outcome_reads (outcome.Halted x) fits = byte_reads (λ n. outcome.Halted n) x fits
outcome_reads outcome.Unplugged fits = refl
outcome_reads (outcome.DeviceFault x) fits = status_reads (λ z. outcome.DeviceFault z) x fits
outcome_reads (outcome.DeviceSays x) fits = byte_reads (λ n. outcome.DeviceSays n) x fits
outcome_reads (outcome.PeerFault x) fits = field_reads (λ f. outcome.PeerFault f) x fits
outcome_reads outcome.LinkFault fits = refl
outcome_reads outcome.Exhausted fits = refl
outcome_reads outcome.GivenUp fits = refl

outcome_clear : (x : Outcome) → MayBecome x → Clear is_nl (outcome_words x)
outcome_clear outcome.Live fits = clear_word is_nl (codes "Live") refl
outcome_clear outcome.Complete fits = clear_word is_nl (codes "Complete") refl
outcome_clear outcome.Done fits = clear_word is_nl (codes "Done") refl
outcome_clear (outcome.Status x) fits = clear_append is_nl (codes "Status ") (decimal x) (clear_word is_nl (codes "Status ") refl) (byte_clear x fits)
outcome_clear outcome.Limit fits = clear_word is_nl (codes "Limit") refl
outcome_clear outcome.Cancelled fits = clear_word is_nl (codes "Cancelled") refl
outcome_clear (outcome.Cleared x) fits = clear_append is_nl (codes "Cleared ") (decimal x) (clear_word is_nl (codes "Cleared ") refl) (byte_clear x fits)
outcome_clear (outcome.Halted x) fits = clear_append is_nl (codes "Halted ") (decimal x) (clear_word is_nl (codes "Halted ") refl) (byte_clear x fits)
outcome_clear outcome.Unplugged fits = clear_word is_nl (codes "Unplugged") refl
outcome_clear (outcome.DeviceFault x) fits = clear_append is_nl (codes "DeviceFault ") (signed_decimal x) (clear_word is_nl (codes "DeviceFault ") refl) (signed_clear x fits)
outcome_clear (outcome.DeviceSays x) fits = clear_append is_nl (codes "DeviceSays ") (decimal x) (clear_word is_nl (codes "DeviceSays ") refl) (byte_clear x fits)
outcome_clear (outcome.PeerFault x) fits = clear_append is_nl (codes "PeerFault ") (field_words x) (clear_word is_nl (codes "PeerFault ") refl) (field_clear x fits)
outcome_clear outcome.LinkFault fits = clear_word is_nl (codes "LinkFault") refl
outcome_clear outcome.Exhausted fits = clear_word is_nl (codes "Exhausted") refl
outcome_clear outcome.GivenUp fits = clear_word is_nl (codes "GivenUp") refl

abbrev pub end_read : List (List ℕ) → Option End
end_read [] = None
end_read (head ∷ words) =
    cond (bytes_eq head (codes "Unplugged")) (Some ended.Unplugged)
    (cond (bytes_eq head (codes "DeviceFault")) (signed_read (λ z. ended.DeviceFault z) words)
    (cond (bytes_eq head (codes "DeviceSays")) (number_read (λ n. ended.DeviceSays n) words)
    (cond (bytes_eq head (codes "PeerFault")) (field_read (λ f. ended.PeerFault f) words)
    (cond (bytes_eq head (codes "LinkFault")) (Some ended.LinkFault)
    (cond (bytes_eq head (codes "Exhausted")) (Some ended.Exhausted)
    (Some ended.GivenUp))))))

pub end_reads : (x : End) → MayEnd x → end_read (words_of (end_words x)) ≡ Some x
end_reads ended.Unplugged fits = refl
end_reads (ended.DeviceFault x) fits = status_reads (λ z. ended.DeviceFault z) x fits
end_reads (ended.DeviceSays x) fits = byte_reads (λ n. ended.DeviceSays n) x fits
end_reads (ended.PeerFault x) fits = field_reads (λ f. ended.PeerFault f) x fits
end_reads ended.LinkFault fits = refl
end_reads ended.Exhausted fits = refl
end_reads ended.GivenUp fits = refl

pub end_clear : (x : End) → MayEnd x → Clear is_nl (end_words x)
end_clear ended.Unplugged fits = clear_word is_nl (codes "Unplugged") refl
end_clear (ended.DeviceFault x) fits = clear_append is_nl (codes "DeviceFault ") (signed_decimal x) (clear_word is_nl (codes "DeviceFault ") refl) (signed_clear x fits)
end_clear (ended.DeviceSays x) fits = clear_append is_nl (codes "DeviceSays ") (decimal x) (clear_word is_nl (codes "DeviceSays ") refl) (byte_clear x fits)
end_clear (ended.PeerFault x) fits = clear_append is_nl (codes "PeerFault ") (field_words x) (clear_word is_nl (codes "PeerFault ") refl) (field_clear x fits)
end_clear ended.LinkFault fits = clear_word is_nl (codes "LinkFault") refl
end_clear ended.Exhausted fits = clear_word is_nl (codes "Exhausted") refl
end_clear ended.GivenUp fits = clear_word is_nl (codes "GivenUp") refl

-- ---- kinds

abbrev kind_read : List ℕ → Kind
kind_read word =
    cond (bytes_eq word (codes "ask")) kind.Ask
    (cond (bytes_eq word (codes "tell")) kind.Tell
    (cond (bytes_eq word (codes "trigger")) kind.Trigger
    (cond (bytes_eq word (codes "status")) kind.Status
    (cond (bytes_eq word (codes "remote-on")) (kind.Remote On)
    (cond (bytes_eq word (codes "remote-off")) (kind.Remote Off)
    (cond (bytes_eq word (codes "remote-local")) (kind.Remote GoLocal)
    (kind.Remote Lockout)))))))

kind_reads : (k : Kind) → kind_read (kind_word k) ≡ k
kind_reads kind.Ask = refl
kind_reads kind.Tell = refl
kind_reads kind.Trigger = refl
kind_reads kind.Status = refl
kind_reads (kind.Remote On) = refl
kind_reads (kind.Remote Off) = refl
kind_reads (kind.Remote GoLocal) = refl
kind_reads (kind.Remote Lockout) = refl

kind_then : (k : Kind) (more : List ℕ) → words_of (kind_word k ++ 32 ∷ more) ≡ kind_word k ∷ words_of more
kind_then kind.Ask more = refl
kind_then kind.Tell more = refl
kind_then kind.Trigger more = refl
kind_then kind.Status more = refl
kind_then (kind.Remote On) more = refl
kind_then (kind.Remote Off) more = refl
kind_then (kind.Remote GoLocal) more = refl
kind_then (kind.Remote Lockout) more = refl

kind_clear : (k : Kind) → Clear is_nl (kind_word k)
kind_clear kind.Ask = clear_word is_nl (codes "ask") refl
kind_clear kind.Tell = clear_word is_nl (codes "tell") refl
kind_clear kind.Trigger = clear_word is_nl (codes "trigger") refl
kind_clear kind.Status = clear_word is_nl (codes "status") refl
kind_clear (kind.Remote On) = clear_word is_nl (codes "remote-on") refl
kind_clear (kind.Remote Off) = clear_word is_nl (codes "remote-off") refl
kind_clear (kind.Remote GoLocal) = clear_word is_nl (codes "remote-local") refl
kind_clear (kind.Remote Lockout) = clear_word is_nl (codes "remote-lockout") refl

-- ---- a line by what stands in it, and what stands behind it

pub body_cut : (body other s t : List ℕ) → Clear is_nl body → Clear is_nl other → body ++ 10 ∷ s ≡ other ++ 10 ∷ t → (body ≡ other) × (s ≡ t)
body_cut body other s t p q e =
    let cut = cut_at_stop is_nl body other s t 10 10 p q refl refl e in
    (cut.0, tail_same cut.1)

-- ---- tickets

abbrev ticket_body : Seen → List ℕ
ticket_body x =
    codes " session " ++ (decimal x.session ++ 32 ∷ (kind_word x.kind ++ 32 ∷ (codes "limit " ++ (decimal x.limit ++ 32 ∷ (codes "last " ++ (decimal x.last
    ++ 32 ∷ (codes "message " ++ (decimal (length x.message) ++ 32 ∷ (hex_word x.message
    ++ 32 ∷ (codes "bytes " ++ (decimal (length x.bytes) ++ 32 ∷ (hex_word x.bytes
    ++ 32 ∷ (codes "outcome " ++ outcome_words x.outcome)))))))))))))

ticket_written : (n : ℕ) (x : Seen) (s : List ℕ) → ticket_line n x ++ s ≡ codes "ticket " ++ (decimal n ++ (ticket_body x ++ 10 ∷ s))
ticket_written n x s = simp append_assoc

abbrev seen_read : ℕ → Kind → ℕ → ℕ → Option (List ℕ) → Option (List ℕ) → Option Outcome → Option Seen
seen_read session kind limit last (Some message) (Some bytes) (Some outcome) =
    Some (record { session = session; kind = kind; limit = limit; last = last; message = message; bytes = bytes; outcome = outcome })
seen_read session kind limit last message bytes outcome = None

abbrev ticket_read : List (List ℕ) → Option Seen
ticket_read (w0 ∷ w1 ∷ session ∷ k ∷ w4 ∷ limit ∷ w6 ∷ last ∷ w8 ∷ w9 ∷ message ∷ w11 ∷ w12 ∷ bytes ∷ w14 ∷ what) =
    seen_read (digits_value 10 session) (kind_read k) (digits_value 10 limit) (digits_value 10 last) (bytes_of message) (bytes_of bytes) (outcome_read what)
ticket_read words = None

ticket_words : (x : Seen) → MayBeSeen x
    → words_of (ticket_body x) ≡ [] ∷ codes "session" ∷ decimal x.session ∷ kind_word x.kind ∷ codes "limit" ∷ decimal x.limit ∷ codes "last" ∷ decimal x.last
    ∷ codes "message" ∷ decimal (length x.message) ∷ hex_word x.message ∷ codes "bytes" ∷ decimal (length x.bytes) ∷ hex_word x.bytes ∷ codes "outcome" ∷ words_of (outcome_words x.outcome)
ticket_words x fits =
    let session : x.session < 2 ^ 64 = omega (arith, fits.session) in
    let limit : x.limit < 2 ^ 64 = omega (arith, fits.limit) in
    let last : x.last < 2 ^ 64 = omega (arith, fits.last) in
    let e8 = hex_then x.bytes (codes "outcome " ++ outcome_words x.outcome) in
    let e7 = wide_then (length x.bytes) _ fits.bytes.few ∙ ap (λ z. decimal (length x.bytes) ∷ z) e8 in
    let e6 = hex_then x.message _ ∙ ap (λ z. hex_word x.message ∷ codes "bytes" ∷ z) e7 in
    let e5 = wide_then (length x.message) _ fits.message.few ∙ ap (λ z. decimal (length x.message) ∷ z) e6 in
    let e4 = wide_then x.last _ last ∙ ap (λ z. decimal x.last ∷ codes "message" ∷ z) e5 in
    let e3 = wide_then x.limit _ limit ∙ ap (λ z. decimal x.limit ∷ codes "last" ∷ z) e4 in
    let e2 = kind_then x.kind _ ∙ ap (λ z. kind_word x.kind ∷ codes "limit" ∷ z) e3 in
    let e1 = wide_then x.session _ session ∙ ap (λ z. decimal x.session ∷ z) e2 in
    ap (λ z. [] ∷ codes "session" ∷ z) e1

ticket_reads : (x : Seen) → MayBeSeen x → ticket_read (words_of (ticket_body x)) ≡ Some x
ticket_reads x fits =
    let session : digits_value 10 (decimal x.session) ≡ x.session = value_is x.session (omega (arith, fits.session)) in
    let limit : digits_value 10 (decimal x.limit) ≡ x.limit = value_is x.limit (omega (arith, fits.limit)) in
    let last : digits_value 10 (decimal x.last) ≡ x.last = value_is x.last (omega (arith, fits.last)) in
    let message : bytes_of (hex_word x.message) ≡ Some x.message = bytes_is x.message (by_index x.message fits.message.are) in
    let bytes : bytes_of (hex_word x.bytes) ≡ Some x.bytes = bytes_is x.bytes (by_index x.bytes fits.bytes.are) in
    let what : outcome_read (words_of (outcome_words x.outcome)) ≡ Some x.outcome = outcome_reads x.outcome fits.outcome in
    let k : kind_read (kind_word x.kind) ≡ x.kind = kind_reads x.kind in
    ap ticket_read (ticket_words x fits)
    ∙ (ap (λ z. seen_read z (kind_read (kind_word x.kind)) (digits_value 10 (decimal x.limit)) (digits_value 10 (decimal x.last)) (bytes_of (hex_word x.message)) (bytes_of (hex_word x.bytes)) (outcome_read (words_of (outcome_words x.outcome)))) session
    ∙ (ap (λ z. seen_read x.session z (digits_value 10 (decimal x.limit)) (digits_value 10 (decimal x.last)) (bytes_of (hex_word x.message)) (bytes_of (hex_word x.bytes)) (outcome_read (words_of (outcome_words x.outcome)))) k
    ∙ (ap (λ z. seen_read x.session x.kind z (digits_value 10 (decimal x.last)) (bytes_of (hex_word x.message)) (bytes_of (hex_word x.bytes)) (outcome_read (words_of (outcome_words x.outcome)))) limit
    ∙ (ap (λ z. seen_read x.session x.kind x.limit z (bytes_of (hex_word x.message)) (bytes_of (hex_word x.bytes)) (outcome_read (words_of (outcome_words x.outcome)))) last
    ∙ (ap (λ z. seen_read x.session x.kind x.limit x.last z (bytes_of (hex_word x.bytes)) (outcome_read (words_of (outcome_words x.outcome)))) message
    ∙ (ap (λ z. seen_read x.session x.kind x.limit x.last (Some x.message) z (outcome_read (words_of (outcome_words x.outcome)))) bytes
    ∙ ap (λ z. seen_read x.session x.kind x.limit x.last (Some x.message) (Some x.bytes) z) what))))))

pub space_then : (word more : List ℕ) → Clear is_nl word → Clear is_nl more → Clear is_nl (word ++ 32 ∷ more)
space_then word more p q = clear_append is_nl word (32 ∷ more) p (refl, q)

pub named_then : (word more : List ℕ) → Clear is_nl word → Clear is_nl more → Clear is_nl (word ++ more)
named_then word more p q = clear_append is_nl word more p q

ticket_clear : (x : Seen) → MayBeSeen x → Clear is_nl (ticket_body x)
ticket_clear x fits =
    named_then (codes " session ") _ (clear_word is_nl (codes " session ") refl)
    (space_then (decimal x.session) _ (byte_clear x.session fits.session)
    (space_then (kind_word x.kind) _ (kind_clear x.kind)
    (named_then (codes "limit ") _ (clear_word is_nl (codes "limit ") refl)
    (space_then (decimal x.limit) _ (number_clear x.limit (omega (arith, fits.limit)))
    (named_then (codes "last ") _ (clear_word is_nl (codes "last ") refl)
    (space_then (decimal x.last) _ (number_clear x.last (omega (arith, fits.last)))
    (named_then (codes "message ") _ (clear_word is_nl (codes "message ") refl)
    (space_then (decimal (length x.message)) _ (number_clear (length x.message) fits.message.few)
    (space_then (hex_word x.message) _ (hex_clear x.message)
    (named_then (codes "bytes ") _ (clear_word is_nl (codes "bytes ") refl)
    (space_then (decimal (length x.bytes)) _ (number_clear (length x.bytes) fits.bytes.few)
    (space_then (hex_word x.bytes) _ (hex_clear x.bytes)
    (named_then (codes "outcome ") _ (clear_word is_nl (codes "outcome ") refl) (outcome_clear x.outcome fits.outcome))))))))))))))

ticket_cut : (n : ℕ) (x y : Seen) (s t : List ℕ) → MayBeSeen x → MayBeSeen y → ticket_line n x ++ s ≡ ticket_line n y ++ t → (x ≡ y) × (s ≡ t)
ticket_cut n x y s t p q e =
    let bodies = behind_front (decimal n) _ _ (behind_front (codes "ticket ") _ _ (sym (ticket_written n x s) ∙ (e ∙ ticket_written n y t))) in
    let cut = body_cut (ticket_body x) (ticket_body y) s t (ticket_clear x p) (ticket_clear y q) bodies in
    (some_same (sym (ticket_reads x p) ∙ (ap (λ z. ticket_read (words_of z)) cut.0 ∙ ticket_reads y q)), cut.1)

pub tickets_cut : (xs ys : List Seen) (s t : List ℕ) → AllByRecursion MayBeSeen xs → AllByRecursion MayBeSeen ys → NotWith 116 s → NotWith 116 t
    → numbered ticket_line 1 xs ++ s ≡ numbered ticket_line 1 ys ++ t → (xs ≡ ys) × (s ≡ t)
tickets_cut xs ys s t p q ns nt e = lines_cut ticket_line MayBeSeen 116 (λ n x. (_, refl)) ticket_cut 1 xs ys s t p q ns nt e

-- ---- entries

abbrev entry_body : BookEntry → List ℕ
entry_body (entry.Asked ticket) = codes " asked " ++ decimal ticket
entry_body (entry.Cancel ticket) = codes " cancel " ++ decimal ticket
entry_body (entry.Clear session) = codes " clear " ++ decimal session
entry_body entry.GaveUp = codes " gaveup"
entry_body (entry.Settled ticket) = codes " settled " ++ decimal ticket

entry_written : (n : ℕ) (x : BookEntry) (s : List ℕ) → entry_line n x ++ s ≡ codes "book " ++ (decimal n ++ (entry_body x ++ 10 ∷ s))
entry_written n (entry.Asked ticket) s = simp append_assoc
entry_written n (entry.Cancel ticket) s = simp append_assoc
entry_written n (entry.Clear session) s = simp append_assoc
entry_written n entry.GaveUp s = simp append_assoc
entry_written n (entry.Settled ticket) s = simp append_assoc

abbrev entry_read : List (List ℕ) → Option BookEntry
entry_read (before ∷ head ∷ words) =
    cond (bytes_eq head (codes "asked")) (number_read (λ n. entry.Asked n) words)
    (cond (bytes_eq head (codes "cancel")) (number_read (λ n. entry.Cancel n) words)
    (cond (bytes_eq head (codes "clear")) (number_read (λ n. entry.Clear n) words)
    (cond (bytes_eq head (codes "gaveup")) (Some entry.GaveUp) (number_read (λ n. entry.Settled n) words))))
entry_read words = None

entry_reads : (x : BookEntry) → MayBeEntered x → entry_read (words_of (entry_body x)) ≡ Some x
entry_reads (entry.Asked n) fits = number_reads (λ k. entry.Asked k) n fits
entry_reads (entry.Cancel n) fits = number_reads (λ k. entry.Cancel k) n fits
entry_reads (entry.Clear n) fits = byte_reads (λ k. entry.Clear k) n fits
entry_reads entry.GaveUp fits = refl
entry_reads (entry.Settled n) fits = number_reads (λ k. entry.Settled k) n fits

entry_clear : (x : BookEntry) → MayBeEntered x → Clear is_nl (entry_body x)
entry_clear (entry.Asked n) fits = named_then (codes " asked ") (decimal n) (clear_word is_nl (codes " asked ") refl) (number_clear n (omega (arith, fits)))
entry_clear (entry.Cancel n) fits = named_then (codes " cancel ") (decimal n) (clear_word is_nl (codes " cancel ") refl) (number_clear n (omega (arith, fits)))
entry_clear (entry.Clear n) fits = named_then (codes " clear ") (decimal n) (clear_word is_nl (codes " clear ") refl) (byte_clear n fits)
entry_clear entry.GaveUp fits = clear_word is_nl (codes " gaveup") refl
entry_clear (entry.Settled n) fits = named_then (codes " settled ") (decimal n) (clear_word is_nl (codes " settled ") refl) (number_clear n (omega (arith, fits)))

entry_cut : (n : ℕ) (x y : BookEntry) (s t : List ℕ) → MayBeEntered x → MayBeEntered y → entry_line n x ++ s ≡ entry_line n y ++ t → (x ≡ y) × (s ≡ t)
entry_cut n x y s t p q e =
    let bodies = behind_front (decimal n) _ _ (behind_front (codes "book ") _ _ (sym (entry_written n x s) ∙ (e ∙ entry_written n y t))) in
    let cut = body_cut (entry_body x) (entry_body y) s t (entry_clear x p) (entry_clear y q) bodies in
    (some_same (sym (entry_reads x p) ∙ (ap (λ z. entry_read (words_of z)) cut.0 ∙ entry_reads y q)), cut.1)

pub entry_begins : (n : ℕ) (x : BookEntry) → (more : List ℕ) × (entry_line n x ≡ 98 ∷ more)
entry_begins n (entry.Asked ticket) = (_, refl)
entry_begins n (entry.Cancel ticket) = (_, refl)
entry_begins n (entry.Clear session) = (_, refl)
entry_begins n entry.GaveUp = (_, refl)
entry_begins n (entry.Settled ticket) = (_, refl)

pub entries_cut : (xs ys : List BookEntry) (s t : List ℕ) → AllByRecursion MayBeEntered xs → AllByRecursion MayBeEntered ys → NotWith 98 s → NotWith 98 t
    → numbered entry_line 1 xs ++ s ≡ numbered entry_line 1 ys ++ t → (xs ≡ ys) × (s ≡ t)
entries_cut xs ys s t p q ns nt e = lines_cut entry_line MayBeEntered 98 entry_begins entry_cut 1 xs ys s t p q ns nt e

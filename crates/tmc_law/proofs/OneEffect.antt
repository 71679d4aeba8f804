-- what Bulk-OUT does is determined
use Rattle.std.proofs.Common.{◌≡◌, ◌∙◌, ◌≢◌, ℕ, ◌*◌, ◌≤◌, true, false, List, [], ◌∷◌, ◌++◌, Option, Some, None, length, take, drop, refl, ap, sym, subst, length-drop, arith}
use Rattle.usb_setup.specs.declared.setup.Setup.{Setup}
use Rattle.tmc_wire.specs.declared.class_request.ClassRequest.{ClassRequest}
use Rattle.tmc_wire.specs.ControlTable.{IsRow}
use Rattle.tmc_wire.specs.declared.header.OutHeader.{OutHeader}
use Rattle.tmc_wire.specs.declared.header.OutHeader.TheVariants.{Message, Request, Trigger}
use Rattle.tmc_wire.specs.Standard.{header_size}
use Rattle.tmc_wire.specs.Header.{IsOutHeader}
use Rattle.tmc_wire.specs.Transfer.{OutText}
use Rattle.instr_plain.specs.declared.log.LogEntry.{LogEntry}
use Rattle.instr_plain.specs.declared.log.LogEntry.TheVariants as entry
use Rattle.instr_plain.specs.Standing.{Standing}
use Rattle.instr_plain.specs.Log.{After}
use Rattle.tmc_law.specs.Endpoint.{packet_size, ends}
use Rattle.tmc_law.specs.Control.{Asks}
use Rattle.tmc_law.specs.State.{State, Pending, Transfer, Waiting, Owed}
use Rattle.tmc_law.specs.Put.{Put, ended, success}
use Rattle.tmc_law.specs.Logging.{Logs, with_service}
use Rattle.tmc_law.specs.BulkOut as out
use Rattle.tmc_law.specs.BulkOut.{wants, packets_of}

-- a setup has one meaning
pub record OneMeaning : Type 0 where
  pub asks : (submit : Pending) (a b : Setup) → Asks submit a → Asks submit b → a ≡ b
  pub row : (setup : Setup) (a b : ClassRequest) → IsRow ends a setup → IsRow ends b setup → a ≡ b

-- what one step's facts determine
pub record Once (standing : Standing) : Type 0 where
  pub meaning : OneMeaning
  pub after : (entry : LogEntry) (a b : Standing) → After standing entry a → After standing entry b → a ≡ b
  pub header : (a b : OutHeader) (bytes : List ℕ) → IsOutHeader a bytes → IsOutHeader b bytes → a ≡ b

-- two outcomes are the same
abbrev pub Same : List Put → State → List Put → State → Type 0
Same a s b t = (a ≡ b) × (s ≡ t)

pub ap2 : {A B C : Type 0} (f : A → B → C) {a b : A} {x y : B} → a ≡ b → x ≡ y → f a x ≡ f b y
ap2 f {a} {b} {x} {y} p q = ap (λ z. f z x) p ∙ ap (λ z. f b z) q

pub first_one : {A : Type 0} (queue : List A) (x y : A) (a b : List A) → queue ≡ x ∷ a → queue ≡ y ∷ b → (x ≡ y) × (a ≡ b)
first_one queue x y a b p q = let e : x ∷ a ≡ y ∷ b = sym p ∙ q in (cc, cc)

pub logs_one : (entry : LogEntry) (s t u : State) → Once s.standing → Logs entry s t → Logs entry s u → t ≡ u
logs_one entry s t u once a b =
    a.is ∙ ap (λ (x : Standing). record s { log = s.log ++ entry ∷ []; standing = x; packets = with_service s.standing x s.packets }) (once.after entry a.standing b.standing a.after b.after)
    ∙ sym b.is

pub none_some : {A B : Type 0} (o : Option A) (a : A) → o ≡ None → o ≡ Some a → B
none_some {A} o a p q = let e : (let x : Option A = None in x) ≡ Some a = sym p ∙ q in absurd (cc)

abbrev transfer_or : Option Transfer → Transfer → Transfer
transfer_or None other = other
transfer_or (Some transfer) other = transfer

transfer_one : (o : Option Transfer) (a b : Transfer) → o ≡ Some a → o ≡ Some b → a ≡ b
transfer_one o a b p q = ap (λ (x : Option Transfer). transfer_or x a) (sym p ∙ q)

abbrev waiting_or : Option Waiting → Waiting → Waiting
waiting_or None other = other
waiting_or (Some waiting) other = waiting

pub waiting_one : (o : Option Waiting) (a b : Waiting) → o ≡ Some a → o ≡ Some b → a ≡ b
waiting_one o a b p q = ap (λ (x : Option Waiting). waiting_or x a) (sym p ∙ q)

-- ---- a transfer has one text

head_long : (header : OutHeader) (head : List ℕ) → IsOutHeader header head → length head ≡ 12
head_long (Message tag size eom) head is = ap (λ (l : List ℕ). length l) is.layout
head_long (Request tag size) head is = ap (λ (l : List ℕ). length l) is.layout
head_long (Trigger tag) head is = ap (λ (l : List ℕ). length l) is.layout ∙ omega (arith, is.eight)

split : (a b xs ys : List ℕ) → length a ≡ length b → a ++ xs ≡ b ++ ys → (a ≡ b) × (xs ≡ ys)
split [] [] xs ys long e = (refl, e)
split [] (y ∷ b) xs ys long e = absurd (omega (arith, long))
split (x ∷ a) [] xs ys long e = absurd (omega (arith, long))
split (x ∷ a) (y ∷ b) xs ys long e =
    let rest : a ++ xs ≡ b ++ ys = cc in let first : x ≡ y = cc in let go = split a b xs ys (omega (arith, long)) rest in
    (ap (λ (n : ℕ). n ∷ a) first ∙ ap (λ (l : List ℕ). y ∷ l) go.0, go.1)

one_text : (header : OutHeader) (a b bytes : List ℕ) → OutText header a bytes → OutText header b bytes → a ≡ b
one_text header a b bytes h k =
    let behind = split h.head k.head (a ++ h.alignment) (b ++ k.alignment) (head_long header h.head h.headed ∙ sym (head_long header k.head k.headed)) (sym h.layout ∙ k.layout) in
    (split a b h.alignment k.alignment (h.counted ∙ sym k.counted) behind.1).0

-- ---- what takes effect

interrupts_one : (s t u : State) → Once s.standing → out.Interrupts s t → out.Interrupts s u → t ≡ u
interrupts_one s t u once (out.Dropped part some logs) (out.Dropped part2 some2 logs2) = logs_one _ s t u once logs logs2
interrupts_one s t u once (out.Dropped part some logs) (out.NothingUnread none is) = absurd (some none)
interrupts_one s t u once (out.Dropped part some logs) (out.LaterPart later is) = absurd (later part)
interrupts_one s t u once (out.NothingUnread none is) (out.Dropped part some logs) = absurd (some none)
interrupts_one s t u once (out.NothingUnread none is) (out.NothingUnread none2 is2) = is ∙ sym is2
interrupts_one s t u once (out.NothingUnread none is) (out.LaterPart later is2) = is ∙ sym is2
interrupts_one s t u once (out.LaterPart later is) (out.Dropped part some logs) = absurd (later part)
interrupts_one s t u once (out.LaterPart later is) (out.NothingUnread none is2) = is ∙ sym is2
interrupts_one s t u once (out.LaterPart later is) (out.LaterPart later2 is2) = is ∙ sym is2

-- what kind of header it is
abbrev kind : OutHeader → ℕ
kind (Message tag size false) = 0
kind (Message tag size true) = 1
kind (Request tag size) = 2
kind (Trigger tag) = 3

clash : {A : Type 0} (header a b : OutHeader) → header ≡ a → header ≡ b → kind a ≢ kind b → A
clash header a b p q differ = absurd (differ (ap (λ (x : OutHeader). kind x) (sym p ∙ q)))

abbrev tag_in : OutHeader → ℕ
tag_in (Message tag size eom) = tag
tag_in (Request tag size) = tag
tag_in (Trigger tag) = tag

abbrev size_in : OutHeader → ℕ
size_in (Message tag size eom) = size
size_in (Request tag size) = size
size_in (Trigger tag) = 0

owed_one : (header : OutHeader) (tag size tag2 size2 : ℕ) (s : State) → header ≡ Request tag size → header ≡ Request tag2 size2
    → (let a : State = record s { side = Owed tag size } in a) ≡ record s { side = Owed tag2 size2 }
owed_one header tag size tag2 size2 s p q =
    ap2 (λ (x y : ℕ). record s { side = Owed x y }) (ap (λ (x : OutHeader). tag_in x) (sym p ∙ q)) (ap (λ (x : OutHeader). size_in x) (sym p ∙ q))

pub effect_one : (seq : ℕ) (transfer : Transfer) (s t u : State) → Once s.standing → out.TakesEffect seq transfer s t → out.TakesEffect seq transfer s u → t ≡ u
effect_one seq transfer s t u once (out.Part tag size message mid header text first is) (out.Part tag2 size2 message2 mid2 header2 text2 first2 is2) =
    is ∙ ap2 (λ (x : State) (y : List ℕ). record x { part = x.part ++ y }) (interrupts_one s mid mid2 once first first2) (one_text transfer.header message message2 transfer.taken text text2) ∙ sym is2
effect_one seq transfer s t u once (out.Part tag size message mid header text first is) (out.Last tag2 size2 message2 mid2 header2 text2 first2 is2) =
    clash transfer.header (Message tag size false) (Message tag2 size2 true) header header2 (λ e. omega (arith, e))
effect_one seq transfer s t u once (out.Part tag size message mid header text first is) (out.Requests tag2 size2 header2 some2 is2) =
    clash transfer.header (Message tag size false) (Request tag2 size2) header header2 (λ e. omega (arith, e))
effect_one seq transfer s t u once (out.Part tag size message mid header text first is) (out.RequestsNothing tag2 size2 header2 none2 logs2) =
    clash transfer.header (Message tag size false) (Request tag2 size2) header header2 (λ e. omega (arith, e))
effect_one seq transfer s t u once (out.Part tag size message mid header text first is) (out.Triggers tag2 header2 logs2) =
    clash transfer.header (Message tag size false) (Trigger tag2) header header2 (λ e. omega (arith, e))
effect_one seq transfer s t u once (out.Last tag size message mid header text first is) (out.Part tag2 size2 message2 mid2 header2 text2 first2 is2) =
    clash transfer.header (Message tag size true) (Message tag2 size2 false) header header2 (λ e. omega (arith, e))
effect_one seq transfer s t u once (out.Last tag size message mid header text first is) (out.Last tag2 size2 message2 mid2 header2 text2 first2 is2) =
    is ∙ ap2 (λ (x : State) (y : List ℕ). record x { part = []; waiting = Some (record { seq = seq; message = x.part ++ y }) }) (interrupts_one s mid mid2 once first first2) (one_text transfer.header message message2 transfer.taken text text2) ∙ sym is2
effect_one seq transfer s t u once (out.Last tag size message mid header text first is) (out.Requests tag2 size2 header2 some2 is2) =
    clash transfer.header (Message tag size true) (Request tag2 size2) header header2 (λ e. omega (arith, e))
effect_one seq transfer s t u once (out.Last tag size message mid header text first is) (out.RequestsNothing tag2 size2 header2 none2 logs2) =
    clash transfer.header (Message tag size true) (Request tag2 size2) header header2 (λ e. omega (arith, e))
effect_one seq transfer s t u once (out.Last tag size message mid header text first is) (out.Triggers tag2 header2 logs2) =
    clash transfer.header (Message tag size true) (Trigger tag2) header header2 (λ e. omega (arith, e))
effect_one seq transfer s t u once (out.Requests tag size header some is) (out.Part tag2 size2 message2 mid2 header2 text2 first2 is2) =
    clash transfer.header (Request tag size) (Message tag2 size2 false) header header2 (λ e. omega (arith, e))
effect_one seq transfer s t u once (out.Requests tag size header some is) (out.Last tag2 size2 message2 mid2 header2 text2 first2 is2) =
    clash transfer.header (Request tag size) (Message tag2 size2 true) header header2 (λ e. omega (arith, e))
effect_one seq transfer s t u once (out.Requests tag size header some is) (out.Requests tag2 size2 header2 some2 is2) =
    is ∙ owed_one transfer.header tag size tag2 size2 s header header2 ∙ sym is2
effect_one seq transfer s t u once (out.Requests tag size header some is) (out.RequestsNothing tag2 size2 header2 none2 logs2) =
    absurd (some none2)
effect_one seq transfer s t u once (out.Requests tag size header some is) (out.Triggers tag2 header2 logs2) =
    clash transfer.header (Request tag size) (Trigger tag2) header header2 (λ e. omega (arith, e))
effect_one seq transfer s t u once (out.RequestsNothing tag size header none logs) (out.Part tag2 size2 message2 mid2 header2 text2 first2 is2) =
    clash transfer.header (Request tag size) (Message tag2 size2 false) header header2 (λ e. omega (arith, e))
effect_one seq transfer s t u once (out.RequestsNothing tag size header none logs) (out.Last tag2 size2 message2 mid2 header2 text2 first2 is2) =
    clash transfer.header (Request tag size) (Message tag2 size2 true) header header2 (λ e. omega (arith, e))
effect_one seq transfer s t u once (out.RequestsNothing tag size header none logs) (out.Requests tag2 size2 header2 some2 is2) =
    absurd (some2 none)
effect_one seq transfer s t u once (out.RequestsNothing tag size header none logs) (out.RequestsNothing tag2 size2 header2 none2 logs2) =
    logs_one _ (record s { side = Owed tag size }) t u once logs (subst (λ (x : State). Logs entry.Bare x u) (sym (owed_one transfer.header tag size tag2 size2 s header header2)) logs2)
effect_one seq transfer s t u once (out.RequestsNothing tag size header none logs) (out.Triggers tag2 header2 logs2) =
    clash transfer.header (Request tag size) (Trigger tag2) header header2 (λ e. omega (arith, e))
effect_one seq transfer s t u once (out.Triggers tag header logs) (out.Part tag2 size2 message2 mid2 header2 text2 first2 is2) =
    clash transfer.header (Trigger tag) (Message tag2 size2 false) header header2 (λ e. omega (arith, e))
effect_one seq transfer s t u once (out.Triggers tag header logs) (out.Last tag2 size2 message2 mid2 header2 text2 first2 is2) =
    clash transfer.header (Trigger tag) (Message tag2 size2 true) header header2 (λ e. omega (arith, e))
effect_one seq transfer s t u once (out.Triggers tag header logs) (out.Requests tag2 size2 header2 some2 is2) =
    clash transfer.header (Trigger tag) (Request tag2 size2) header header2 (λ e. omega (arith, e))
effect_one seq transfer s t u once (out.Triggers tag header logs) (out.RequestsNothing tag2 size2 header2 none2 logs2) =
    clash transfer.header (Trigger tag) (Request tag2 size2) header header2 (λ e. omega (arith, e))
effect_one seq transfer s t u once (out.Triggers tag header logs) (out.Triggers tag2 header2 logs2) =
    logs_one _ s t u once logs logs2

-- ---- packets

belongs_one : (s : State) (submit : Pending) (a b : Transfer) → Once s.standing → out.Belongs s submit a → out.Belongs s submit b → a ≡ b
belongs_one s submit a b once (out.InProgress some) (out.InProgress some2) = transfer_one s.transfer a b some some2
belongs_one s submit a b once (out.InProgress some) (out.Begun header none fine heads begun) = none_some s.transfer a none some
belongs_one s submit a b once (out.Begun header none fine heads begun) (out.InProgress some) = none_some s.transfer b none some
belongs_one s submit a b once (out.Begun header none fine heads begun) (out.Begun header2 none2 fine2 heads2 begun2) =
    begun ∙ ap (λ (x : OutHeader). record { header = x; taken = [] }) (once.header header header2 (take header_size submit.left) heads heads2) ∙ sym begun2

abbrev moved : ℕ → Pending → Pending
moved count submit = record submit { left = drop (count * packet_size) submit.left; moved = submit.moved ++ take (count * packet_size) submit.left }

abbrev grows : ℕ → Transfer → Pending → Transfer
grows count transfer submit = record transfer { taken = transfer.taken ++ take (count * packet_size) submit.left }

moves_one : (s : State) (count : ℕ) (submit submit2 later later2 : Pending) (transfer transfer2 grown grown2 : Transfer) → Once s.standing → submit ≡ submit2
    → out.Belongs s submit transfer → out.Belongs s submit2 transfer2 → out.Moves count submit transfer later grown → out.Moves count submit2 transfer2 later2 grown2
    → (later ≡ later2) × (grown ≡ grown2)
moves_one s count submit submit2 later later2 transfer transfer2 grown grown2 once same belongs belongs2 (out.DoesMove is growth) (out.DoesMove is2 growth2) = (
  is ∙ ap (λ (x : Pending). moved count x) same ∙ sym is2,
  growth ∙ ap2 (λ (x : Transfer) (y : Pending). grows count x y) (belongs_one s submit transfer transfer2 once belongs (subst (λ (x : Pending). out.Belongs s x transfer2) (sym same) belongs2)) same
      ∙ sym growth2,
)

-- the packets of a submit hold all its bytes
enough : (n : ℕ) → n ≤ packets_of n * packet_size
enough n = omega arith

no_byte : (l : List ℕ) → length l ≡ 0 → l ≡ []
no_byte [] h = refl
no_byte (x ∷ l) h = absurd (omega (arith, h))

-- all bytes of a submit are taken, and so none is left
not_inside : {A : Type 0} (count : ℕ) (submit submit2 later : Pending) (transfer grown : Transfer) → submit ≡ submit2 → out.Moves count submit transfer later grown → later.left ≢ []
    → count ≡ packets_of (length submit2.left) → A
not_inside count submit submit2 later transfer grown same (out.DoesMove is growth) more all = absurd (more (ap (λ (x : Pending). x.left) is ∙ none))
  where
    none : drop (count * packet_size) submit.left ≡ []
    none = no_byte (drop (count * packet_size) submit.left)
        (omega (arith, length-drop (count * packet_size) submit.left, all, ap (λ (x : Pending). length x.left) same, enough (length submit2.left)))

-- a whole transfer takes effect in one way
ends_one : (s : State) (submit submit2 : Pending) (behind behind2 : List Pending) (grown grown2 : Transfer) (t u : State) → Once s.standing → submit ≡ submit2 → behind ≡ behind2 → grown ≡ grown2
    → out.TakesEffect submit.head.seqnum grown (record s { bulk_out = behind; transfer = None }) t
    → out.TakesEffect submit2.head.seqnum grown2 (record s { bulk_out = behind2; transfer = None }) u → t ≡ u
ends_one s submit submit2 behind behind2 grown grown2 t u once same rest growth a b =
    effect_one submit.head.seqnum grown (record s { bulk_out = behind; transfer = None }) t u once a
    (subst (λ (x : Pending). out.TakesEffect x.head.seqnum grown (record s { bulk_out = behind; transfer = None }) u) (sym same)
    (subst (λ (x : List Pending). out.TakesEffect submit2.head.seqnum grown (record s { bulk_out = x; transfer = None }) u) (sym rest)
    (subst (λ (x : Transfer). out.TakesEffect submit2.head.seqnum x (record s { bulk_out = behind2; transfer = None }) u) (sym growth) b)))

pub takes_one : (s : State) (count : ℕ) (a b : List Put) (t u : State) → Once s.standing → out.Takes s count a t → out.Takes s count b u → Same a t b u
takes_one s count a b t u once (out.Empty submit behind queue none one put is) (out.Empty submit2 behind2 queue2 none2 one2 put2 is2) =
    let f = first_one s.bulk_out submit submit2 behind behind2 queue queue2 in
    (put ∙ ap (λ (x : Pending). ended success x ∷ []) f.0 ∙ sym put2, is ∙ ap (λ (x : List Pending). record s { bulk_out = x }) f.1 ∙ sym is2)
takes_one s count a b t u once (out.Empty submit behind queue none one put is) (out.Spoiled submit2 behind2 queue2 some2 low2 high2 spoils2 put2 is2) =
    let f = first_one s.bulk_out submit submit2 behind behind2 queue queue2 in
    absurd (some2 (ap (λ (x : Pending). x.head.length) (sym f.0) ∙ none))
takes_one s count a b t u once (out.Empty submit behind queue none one put is) (out.Inside submit2 later2 behind2 transfer2 grown2 queue2 some2 low2 fine2 belongs2 moves2 more2 put2 is2) =
    let f = first_one s.bulk_out submit submit2 behind behind2 queue queue2 in
    absurd (some2 (ap (λ (x : Pending). x.head.length) (sym f.0) ∙ none))
takes_one s count a b t u once (out.Empty submit behind queue none one put is) (out.SubmitEnds submit2 later2 behind2 transfer2 grown2 queue2 some2 all2 fine2 belongs2 moves2 more2 put2 is2) =
    let f = first_one s.bulk_out submit submit2 behind behind2 queue queue2 in
    absurd (some2 (ap (λ (x : Pending). x.head.length) (sym f.0) ∙ none))
takes_one s count a b t u once (out.Empty submit behind queue none one put is) (out.TransferEnds submit2 later2 behind2 transfer2 grown2 queue2 some2 all2 fine2 belongs2 moves2 done2 effect2 put2) =
    let f = first_one s.bulk_out submit submit2 behind behind2 queue queue2 in
    absurd (some2 (ap (λ (x : Pending). x.head.length) (sym f.0) ∙ none))
takes_one s count a b t u once (out.Spoiled submit behind queue some low high spoils put is) (out.Empty submit2 behind2 queue2 none2 one2 put2 is2) =
    let f = first_one s.bulk_out submit submit2 behind behind2 queue queue2 in
    absurd (some (ap (λ (x : Pending). x.head.length) f.0 ∙ none2))
takes_one s count a b t u once (out.Spoiled submit behind queue some low high spoils put is) (out.Spoiled submit2 behind2 queue2 some2 low2 high2 spoils2 put2 is2) =
    (put ∙ sym put2, is ∙ sym is2)
takes_one s count a b t u once (out.Spoiled submit behind queue some low high spoils put is) (out.Inside submit2 later2 behind2 transfer2 grown2 queue2 some2 low2 fine2 belongs2 moves2 more2 put2 is2) =
    let f = first_one s.bulk_out submit submit2 behind behind2 queue queue2 in
    absurd (fine2 (subst (λ (x : Pending). out.Spoils s x) f.0 spoils))
takes_one s count a b t u once (out.Spoiled submit behind queue some low high spoils put is) (out.SubmitEnds submit2 later2 behind2 transfer2 grown2 queue2 some2 all2 fine2 belongs2 moves2 more2 put2 is2) =
    let f = first_one s.bulk_out submit submit2 behind behind2 queue queue2 in
    absurd (fine2 (subst (λ (x : Pending). out.Spoils s x) f.0 spoils))
takes_one s count a b t u once (out.Spoiled submit behind queue some low high spoils put is) (out.TransferEnds submit2 later2 behind2 transfer2 grown2 queue2 some2 all2 fine2 belongs2 moves2 done2 effect2 put2) =
    let f = first_one s.bulk_out submit submit2 behind behind2 queue queue2 in
    absurd (fine2 (subst (λ (x : Pending). out.Spoils s x) f.0 spoils))
takes_one s count a b t u once (out.Inside submit later behind transfer grown queue some low fine belongs moves more put is) (out.Empty submit2 behind2 queue2 none2 one2 put2 is2) =
    let f = first_one s.bulk_out submit submit2 behind behind2 queue queue2 in
    absurd (some (ap (λ (x : Pending). x.head.length) f.0 ∙ none2))
takes_one s count a b t u once (out.Inside submit later behind transfer grown queue some low fine belongs moves more put is) (out.Spoiled submit2 behind2 queue2 some2 low2 high2 spoils2 put2 is2) =
    let f = first_one s.bulk_out submit submit2 behind behind2 queue queue2 in
    absurd (fine (subst (λ (x : Pending). out.Spoils s x) (sym f.0) spoils2))
takes_one s count a b t u once (out.Inside submit later behind transfer grown queue some low fine belongs moves more put is) (out.Inside submit2 later2 behind2 transfer2 grown2 queue2 some2 low2 fine2 belongs2 moves2 more2 put2 is2) =
    let f = first_one s.bulk_out submit submit2 behind behind2 queue queue2 in
    let m = moves_one s count submit submit2 later later2 transfer transfer2 grown grown2 once f.0 belongs belongs2 moves moves2 in
    (put ∙ sym put2, is ∙ ap2 (λ (x : List Pending) (y : Transfer). record s { bulk_out = x; transfer = Some y }) (ap2 (λ (x : Pending) (y : List Pending). x ∷ y) m.0 f.1) m.1 ∙ sym is2)
takes_one s count a b t u once (out.Inside submit later behind transfer grown queue some low fine belongs moves more put is) (out.SubmitEnds submit2 later2 behind2 transfer2 grown2 queue2 some2 all2 fine2 belongs2 moves2 more2 put2 is2) =
    let f = first_one s.bulk_out submit submit2 behind behind2 queue queue2 in
    not_inside count submit submit2 later transfer grown f.0 moves more all2
takes_one s count a b t u once (out.Inside submit later behind transfer grown queue some low fine belongs moves more put is) (out.TransferEnds submit2 later2 behind2 transfer2 grown2 queue2 some2 all2 fine2 belongs2 moves2 done2 effect2 put2) =
    let f = first_one s.bulk_out submit submit2 behind behind2 queue queue2 in
    not_inside count submit submit2 later transfer grown f.0 moves more all2
takes_one s count a b t u once (out.SubmitEnds submit later behind transfer grown queue some all fine belongs moves more put is) (out.Empty submit2 behind2 queue2 none2 one2 put2 is2) =
    let f = first_one s.bulk_out submit submit2 behind behind2 queue queue2 in
    absurd (some (ap (λ (x : Pending). x.head.length) f.0 ∙ none2))
takes_one s count a b t u once (out.SubmitEnds submit later behind transfer grown queue some all fine belongs moves more put is) (out.Spoiled submit2 behind2 queue2 some2 low2 high2 spoils2 put2 is2) =
    let f = first_one s.bulk_out submit submit2 behind behind2 queue queue2 in
    absurd (fine (subst (λ (x : Pending). out.Spoils s x) (sym f.0) spoils2))
takes_one s count a b t u once (out.SubmitEnds submit later behind transfer grown queue some all fine belongs moves more put is) (out.Inside submit2 later2 behind2 transfer2 grown2 queue2 some2 low2 fine2 belongs2 moves2 more2 put2 is2) =
    let f = first_one s.bulk_out submit submit2 behind behind2 queue queue2 in
    not_inside count submit2 submit later2 transfer2 grown2 (sym f.0) moves2 more2 all
takes_one s count a b t u once (out.SubmitEnds submit later behind transfer grown queue some all fine belongs moves more put is) (out.SubmitEnds submit2 later2 behind2 transfer2 grown2 queue2 some2 all2 fine2 belongs2 moves2 more2 put2 is2) =
    let f = first_one s.bulk_out submit submit2 behind behind2 queue queue2 in
    let m = moves_one s count submit submit2 later later2 transfer transfer2 grown grown2 once f.0 belongs belongs2 moves moves2 in
    (put ∙ ap (λ (x : Pending). ended success x ∷ []) m.0 ∙ sym put2, is ∙ ap2 (λ (x : List Pending) (y : Transfer). record s { bulk_out = x; transfer = Some y }) f.1 m.1 ∙ sym is2)
takes_one s count a b t u once (out.SubmitEnds submit later behind transfer grown queue some all fine belongs moves more put is) (out.TransferEnds submit2 later2 behind2 transfer2 grown2 queue2 some2 all2 fine2 belongs2 moves2 done2 effect2 put2) =
    let f = first_one s.bulk_out submit submit2 behind behind2 queue queue2 in
    let m = moves_one s count submit submit2 later later2 transfer transfer2 grown grown2 once f.0 belongs belongs2 moves moves2 in
    absurd (more (ap (λ (x : Transfer). wants x) m.1 ∙ done2))
takes_one s count a b t u once (out.TransferEnds submit later behind transfer grown queue some all fine belongs moves done effect put) (out.Empty submit2 behind2 queue2 none2 one2 put2 is2) =
    let f = first_one s.bulk_out submit submit2 behind behind2 queue queue2 in
    absurd (some (ap (λ (x : Pending). x.head.length) f.0 ∙ none2))
takes_one s count a b t u once (out.TransferEnds submit later behind transfer grown queue some all fine belongs moves done effect put) (out.Spoiled submit2 behind2 queue2 some2 low2 high2 spoils2 put2 is2) =
    let f = first_one s.bulk_out submit submit2 behind behind2 queue queue2 in
    absurd (fine (subst (λ (x : Pending). out.Spoils s x) (sym f.0) spoils2))
takes_one s count a b t u once (out.TransferEnds submit later behind transfer grown queue some all fine belongs moves done effect put) (out.Inside submit2 later2 behind2 transfer2 grown2 queue2 some2 low2 fine2 belongs2 moves2 more2 put2 is2) =
    let f = first_one s.bulk_out submit submit2 behind behind2 queue queue2 in
    not_inside count submit2 submit later2 transfer2 grown2 (sym f.0) moves2 more2 all
takes_one s count a b t u once (out.TransferEnds submit later behind transfer grown queue some all fine belongs moves done effect put) (out.SubmitEnds submit2 later2 behind2 transfer2 grown2 queue2 some2 all2 fine2 belongs2 moves2 more2 put2 is2) =
    let f = first_one s.bulk_out submit submit2 behind behind2 queue queue2 in
    let m = moves_one s count submit submit2 later later2 transfer transfer2 grown grown2 once f.0 belongs belongs2 moves moves2 in
    absurd (more2 (ap (λ (x : Transfer). wants x) (sym m.1) ∙ done))
takes_one s count a b t u once (out.TransferEnds submit later behind transfer grown queue some all fine belongs moves done effect put) (out.TransferEnds submit2 later2 behind2 transfer2 grown2 queue2 some2 all2 fine2 belongs2 moves2 done2 effect2 put2) =
    let f = first_one s.bulk_out submit submit2 behind behind2 queue queue2 in
    let m = moves_one s count submit submit2 later later2 transfer transfer2 grown grown2 once f.0 belongs belongs2 moves moves2 in
    (put ∙ ap (λ (x : Pending). ended success x ∷ []) m.0 ∙ sym put2, ends_one s submit submit2 behind behind2 grown grown2 t u once f.0 f.1 m.1 effect effect2)

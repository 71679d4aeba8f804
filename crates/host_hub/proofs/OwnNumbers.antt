-- numbers and starts: what was written lies below the next number, and a recovery starts with its INITIATE
use Rattle.std.proofs.Common.{◌≡◌, ◌⊎◌, ℕ, ◌+◌, ◌<◌, ◌≤◌, ◌||◌, ◌&&◌, not, Bool, true, false, List, [], ◌∷◌, ◌++◌, Option, Some, None, inl, inr, refl, sym, subst, ◌∙◌, ap, arith}
use Rattle.std.specs.Prelude.{◌==◌, is_some, if◌then◌else◌}
use Rattle.std.proofs.lemmas.Bool.{eqb-true}
use Rattle.tmc_wire.specs.declared.class_request.ClassRequest.TheVariants as class
use Rattle.tmc_wire.specs.declared.class_request.ClassRequest.TheVariants.{ReadStatus}
use Rattle.instr_plain.specs.declared.remote.RemoteAct.{RemoteAct}
use Rattle.instr_plain.specs.declared.remote.RemoteAct.TheVariants as act
use Rattle.host_recover.specs.declared.need.Need.{Need}
use Rattle.host_recover.specs.declared.need.Need.TheVariants as need
use Rattle.host_recover.specs.Goes.{AreOfOne, BothClear}
use Rattle.host_recover.specs.Letter.{Letter, Submit, submit_of}
use Rattle.host_recover.specs.Letter as letter
use Rattle.host_recover.specs.Words.{Begins, Has, full, words_of}
use Rattle.host_hub.specs.declared.kind.Kind.{Kind}
use Rattle.host_hub.specs.declared.kind.Kind.TheVariants as kind
use Rattle.host_hub.specs.Order.{Class, ClearHalt, Listen, Order, Part, Read, Request, Setting, Trigger, Unlink, is_unlink}
use Rattle.host_hub.specs.Record.{Asking, Of, Owner, Past, Recovery, Wrote, next}
use Rattle.host_hub.specs.Book.{asking_of, has, live}
use Rattle.host_hub.specs.Hand.{is_begun, is_of, start}
use Rattle.host_hub.specs.Outstanding.{Sent, is_listening, outstanding}
use Rattle.host_hub.specs.Pieces.{Piece, pieces}
use Rattle.host_hub.specs.Status.{is_status_kind, next_status_tag, status_tag}
use Rattle.host_hub.specs.Plan.{behind_message, behind_read, first_order, follows, last, next_tag, parts, planned, remote_request, request_of, status_order}
use Rattle.host_hub.specs.Letters.{letters, order_of}
use Rattle.host_hub.specs.Recovery.{MayComeFor, running}
use Rattle.host_hub.specs.Law.{Lawful, Planned, WriteLaw}
use Rattle.host_hub.specs.Sentences.{is_initiate, wrote_at}
use Rattle.host_hub.proofs.Fronts.{recoverers}
use Rattle.host_hub.proofs.Lists.{clash, differ, first_has, or_left, or_right, own}
use Rattle.host_hub.proofs.Numbers.{may_next}

-- ---- what was written has a number below the next one

pub wrote_low : (s : Setting) (past : Past) → Lawful s past → (n : ℕ) (x : Sent) → wrote_at n past ≡ Some x → n < next s.first past
wrote_low s [] h n x e = cc
wrote_low s (Wrote m o k ∷ past) h n x e = step (m == n) refl e (wrote_low s past h.0 n x)
  where
    is : m ≡ next s.first past
    is = may_next s past m k h.1.1

    step : (b : Bool) → (m == n) ≡ b → (if b then Some (record { number = m; owner = o; order = k }) else wrote_at n past) ≡ Some x
        → (wrote_at n past ≡ Some x → n < next s.first past) → n < next s.first past + 1
    step true f k again = let l : m ≡ n = eqb-true m n f in omega (arith, l, is)
    step false f k again = omega (arith, again k)
wrote_low s (y ∷ past) h n x e = wrote_low s past h.0 n x e

-- a message was written now, or before
abbrev pub Now : ℕ → Owner → Order → ℕ → Sent → Past → Type 0
Now m o k n x past = ((m ≡ n) × (x ≡ record { number = m; owner = o; order = k })) ⊎ (wrote_at n past ≡ Some x)

pub now : (m : ℕ) (o : Owner) (k : Order) (n : ℕ) (x : Sent) (past : Past) → wrote_at n (Wrote m o k ∷ past) ≡ Some x → Now m o k n x past
now m o k n x past e = step (m == n) refl e
  where
    step : (b : Bool) → (m == n) ≡ b → (if b then Some (record { number = m; owner = o; order = k }) else wrote_at n past) ≡ Some x → Now m o k n x past
    step true f g = let i : record { number = m; owner = o; order = k } ≡ x = cc in inl (eqb-true m n f, sym i)
    step false f g = inr g

-- what was written before is still there
pub kept_at : (s : Setting) (past : Past) (m : ℕ) (o : Owner) (k : Order) (n : ℕ) (x : Sent) → Lawful s (Wrote m o k ∷ past) → wrote_at n past ≡ Some x → wrote_at n (Wrote m o k ∷ past) ≡ Some x
kept_at s past m o k n x h e =
    let low : n < next s.first past = wrote_low s past h.0 n x e in
    let is : m ≡ next s.first past = may_next s past m k h.1.1 in
    rw (differ m n (λ f. omega (arith, f, low, is))) e

-- it began its ticket
pub wrote_begun : (past : Past) (n t : ℕ) (x : Sent) → wrote_at n past ≡ Some x → x.owner ≡ Of t → is_begun t past ≡ true
wrote_begun [] n t x e of = cc
wrote_begun (Wrote m o k ∷ past) n t x e of = by (λ f. wrote_begun past n t x f of) (now m o k n x past e)
  where
    by : (wrote_at n past ≡ Some x → is_begun t past ≡ true) → Now m o k n x past → is_of t o || is_begun t past ≡ true
    by again (inl (f, g)) = or_left _ _ (subst (λ (w : Owner). is_of t w ≡ true) (sym of ∙ ap (λ (z : Sent). z.owner) g) (own t))
    by again (inr f) = or_right (is_of t o) (is_begun t past) (again f)
wrote_begun (y ∷ past) n t x e of = wrote_begun past n t x e of

-- a start stays where it is
pub begun_start : (past : Past) (m v t : ℕ) (k : Order) → is_begun t past ≡ true → start t (Wrote m (Of v) k ∷ past) ≡ start t past
begun_start past m v t k begun = rw begun (by (v == t))
  where
    by : (b : Bool) → (if b && false then m else start t past) ≡ start t past
    by true = refl
    by false = refl

pub new_start : (past : Past) (m v : ℕ) (k : Order) → is_begun v past ≡ false → start v (Wrote m (Of v) k ∷ past) ≡ m
new_start past m v k fresh = rw (own v) (rw fresh refl)

other_start : (past : Past) (m v t : ℕ) (k : Order) → (v ≡ t → ⊥) → start t (Wrote m (Of v) k ∷ past) ≡ start t past
other_start past m v t k other = rw (differ v t other) refl

-- ---- a ticket's plan has no INITIATE

abbrev NoInitiate : Option Order → Type 0
NoInitiate None = Unit {0}
NoInitiate (Some order) = is_initiate order ≡ false

remote_plain : (a : RemoteAct) → is_initiate (Class (remote_request a)) ≡ false
remote_plain act.On = refl
remote_plain act.Off = refl
remote_plain act.GoLocal = refl
remote_plain act.Lockout = refl

first_plain : (k : Kind) (message : List ℕ) (tag : ℕ) → NoInitiate (first_order k message tag)
first_plain kind.Ask message tag = refl
first_plain kind.Tell message tag = refl
first_plain kind.Trigger message tag = refl
first_plain (kind.Remote a) message tag = remote_plain a
first_plain kind.Status message tag = tt

message_plain : (k : Kind) (tag limit : ℕ) (ps : List Piece) → NoInitiate (behind_message k tag limit ps)
message_plain kind.Ask tag limit ps = refl
message_plain kind.Tell tag limit ps = tt
message_plain kind.Trigger tag limit ps = tt
message_plain (kind.Remote a) tag limit ps = tt
message_plain kind.Status tag limit ps = tt

read_plain : (tag limit : ℕ) (ps : List Piece) → NoInitiate (behind_read tag limit ps)
read_plain tag limit [] = tt
read_plain tag limit (piece ∷ earlier) = by (is_some piece.over)
  where
    by : (b : Bool) → NoInitiate (if b then Some (request_of tag limit (piece ∷ earlier)) else Some Read)
    by true = refl
    by false = refl

follows_plain : (a : Asking) (o : Option Order) (tag count : ℕ) (ps : List Piece) → NoInitiate (follows a o tag count ps)
follows_plain a None tag count ps = first_plain a.kind a.message tag
follows_plain a (Some (Part k text false)) tag count ps = refl
follows_plain a (Some (Part k text true)) tag count ps = message_plain a.kind tag a.limit ps
follows_plain a (Some (Request k size)) tag count ps = refl
follows_plain a (Some (Trigger k)) tag count ps = tt
follows_plain a (Some Read) tag count ps = read_plain tag a.limit ps
follows_plain a (Some Listen) tag count ps = tt
follows_plain a (Some (Class request)) tag count ps = tt
follows_plain a (Some (ClearHalt endpoint)) tag count ps = tt
follows_plain a (Some (Unlink target)) tag count ps = tt

status_plain : (s : Setting) (t : ℕ) (past : Past) → NoInitiate (status_order s t past)
status_plain s t past = by (is_some s.ends.notify && not (is_listening (outstanding past))) (is_some (status_tag t past))
  where
    by : (b c : Bool) → NoInitiate (if b then Some Listen else if c then None else Some (Class (ReadStatus (next_status_tag s past))))
    by true c = refl
    by false true = tt
    by false false = refl

planned_plain : (s : Setting) (t : ℕ) (o : Option Asking) (past : Past) → NoInitiate (planned s t o past)
planned_plain s t None past = tt
planned_plain s t (Some a) past = by (is_status_kind a.kind)
  where
    by : (b : Bool) → NoInitiate (if b then status_order s t past else follows a (last t past) (next_tag past) (parts t past) (pieces t past))
    by true = status_plain s t past
    by false = follows_plain a (last t past) (next_tag past) (parts t past) (pieces t past)

ticket_plain : (s : Setting) (past : Past) (t : ℕ) (order : Order) → Planned s past t order → is_initiate order ≡ false
ticket_plain s past t order due = subst NoInitiate due.plan (planned_plain s t (asking_of t past) past)

pub law_plain : (s : Setting) (past : Past) (t : ℕ) (order : Order) → WriteLaw s past (Of t) order → is_initiate order ≡ false
law_plain s past t (Unlink target) w = refl
law_plain s past t (Part tag text eom) w = ticket_plain s past t (Part tag text eom) w.0
law_plain s past t (Request tag size) w = ticket_plain s past t (Request tag size) w.0
law_plain s past t (Trigger tag) w = ticket_plain s past t (Trigger tag) w.0
law_plain s past t Read w = ticket_plain s past t Read w.0
law_plain s past t Listen w = ticket_plain s past t Listen w.0
law_plain s past t (Class request) w = ticket_plain s past t (Class request) w.0
law_plain s past t (ClearHalt endpoint) w = ticket_plain s past t (ClearHalt endpoint) w.0

-- what is written for a ticket: a submit of the active one, or an unlink of one that had begun
pub law_active : (s : Setting) (past : Past) (t : ℕ) (order : Order) → WriteLaw s past (Of t) order → is_unlink order ≡ false → has t (live past) ≡ true
law_active s past t (Unlink target) w e = clash (sym e)
law_active s past t (Part tag text eom) w e = first_has t (live past) w.0.turn
law_active s past t (Request tag size) w e = first_has t (live past) w.0.turn
law_active s past t (Trigger tag) w e = first_has t (live past) w.0.turn
law_active s past t Read w e = first_has t (live past) w.0.turn
law_active s past t Listen w e = first_has t (live past) w.0.turn
law_active s past t (Class request) w e = first_has t (live past) w.0.turn
law_active s past t (ClearHalt endpoint) w e = first_has t (live past) w.0.turn

-- ---- the first submit of a recovery is an INITIATE

full_word : Has full (letter.Asked class.Clear letter.Success ∷ letter.Asked class.CheckClear letter.Success ∷ letter.Cleared letter.BulkOut ∷ [])
full_word = (
  [],
  letter.Asked class.Clear letter.Success ∷ letter.Asked class.CheckClear letter.Success ∷ letter.Cleared letter.BulkOut ∷ [],
  refl,
  ([], refl),
  (
    letter.Asked class.Clear letter.Success ∷ [],
    letter.Asked class.CheckClear letter.Success ∷ letter.Cleared letter.BulkOut ∷ [],
    refl,
    refl,
    (
      [],
      letter.Asked class.CheckClear letter.Success ∷ letter.Cleared letter.BulkOut ∷ [],
      refl,
      ([], refl),
      (
        letter.Asked class.CheckClear letter.Success ∷ [],
        letter.Cleared letter.BulkOut ∷ [],
        refl,
        refl,
        ([], letter.Cleared letter.BulkOut ∷ [], refl, inl refl, ([], letter.Cleared letter.BulkOut ∷ [], refl, inl refl, refl)),
      ),
    ),
  ),
)

abbrev first_letter : Need → Letter
first_letter (need.Out tag parts) = letter.Asked (class.AbortOut tag) letter.Failed
first_letter (need.In tag) = letter.Asked (class.AbortIn tag) letter.Failed
first_letter need.Full = letter.Asked class.Clear letter.Success

first_begins : (n : Need) → Begins (words_of n) (first_letter n ∷ [])
first_begins (need.Out tag false) = ([], inr refl)
first_begins (need.Out tag true) = (
  letter.Asked class.Clear letter.Success ∷ letter.Asked class.CheckClear letter.Success ∷ letter.Cleared letter.BulkOut ∷ [],
  inr (letter.Asked (class.AbortOut tag) letter.Failed ∷ [], letter.Asked class.Clear letter.Success ∷ letter.Asked class.CheckClear letter.Success ∷ letter.Cleared letter.BulkOut ∷ [], refl, refl, full_word),
)
first_begins (need.In tag) = ([], inl refl)
first_begins need.Full = (letter.Asked class.CheckClear letter.Success ∷ letter.Cleared letter.BulkOut ∷ [], full_word)

first_initiates : (n : Need) → is_initiate (order_of (submit_of (first_letter n))) ≡ true
first_initiates (need.Out tag parts) = refl
first_initiates (need.In tag) = refl
first_initiates need.Full = refl

not_both : (n : Need) (l : Letter) → BothClear (first_letter n) l → ⊥
not_both (need.Out tag parts) l h = h
not_both (need.In tag) l h = h
not_both need.Full l h = h

abbrev pub Determines : Type 0
Determines = (called : Need) (letters : List Letter) (l other : Letter) → Begins (words_of called) (letters ++ l ∷ []) → Begins (words_of called) (letters ++ other ∷ []) → AreOfOne l other

pub initiates_first : Determines → (past : Past) (submit : Submit) → letters past ≡ [] → MayComeFor (running past) past submit → is_initiate (order_of submit) ≡ true
initiates_first determines past submit none = by (running past)
  where
    same_submit : (n : Need) (l : Letter) → AreOfOne (first_letter n) l → submit_of (first_letter n) ≡ submit_of l
    same_submit n l (inl e) = e
    same_submit n l (inr b) = absurd (not_both n l b)

    by : (o : Option Need) → MayComeFor o past submit → is_initiate (order_of submit) ≡ true
    by None next = absurd next
    by (Some n) next =
        ap (λ (w : Submit). is_initiate (order_of w)) (sym (same_submit n next.letter
        (determines n [] (first_letter n) next.letter (first_begins n) (subst (λ (ls : List Letter). Begins (words_of n) (ls ++ next.letter ∷ [])) none next.begins)) ∙ next.is))
        ∙ first_initiates n

-- ---- what holds of each lawful past

-- the recovery to which a number belongs began with an INITIATE, behind all starts before that number
abbrev pub IsOpened : Past → ℕ → Type 0
IsOpened past n = (m : ℕ) × (y : Sent) × (wrote_at m past ≡ Some y) × (is_initiate y.order ≡ true) × (m ≤ n) × ((t : ℕ) → is_begun t past ≡ true → start t past ≤ n → start t past ≤ m)

-- a recovery that runs made no submit yet, or began with an INITIATE, behind all starts
abbrev pub IsRunning : Past → Type 0
IsRunning past = ((letters past ≡ []) × (recoverers (outstanding past) ≡ []))
    ⊎ ((m : ℕ) × (y : Sent) × (wrote_at m past ≡ Some y) × (is_initiate y.order ≡ true) × ((t : ℕ) → is_begun t past ≡ true → start t past ≤ m))

pub record Inv (past : Past) : Type 0 where
  pub from : (n t : ℕ) (x : Sent) → wrote_at n past ≡ Some x → x.owner ≡ Of t → start t past ≤ n
  pub starts : (n t u : ℕ) (x : Sent) → wrote_at n past ≡ Some x → x.owner ≡ Of t → is_unlink x.order ≡ false → start t past < start u past → n < start u past
  pub initiates : (n t m : ℕ) (x y : Sent) → wrote_at n past ≡ Some x → x.owner ≡ Of t → is_unlink x.order ≡ false → wrote_at m past ≡ Some y → is_initiate y.order ≡ true
      → start t past ≤ m → n < m
  pub dead : (m t : ℕ) (y : Sent) → wrote_at m past ≡ Some y → is_initiate y.order ≡ true → is_begun t past ≡ true → start t past ≤ m → has t (live past) ≡ false
  pub opened : (n : ℕ) (x : Sent) → wrote_at n past ≡ Some x → x.owner ≡ Recovery → IsOpened past n
  pub runs : (n : Need) → running past ≡ Some n → IsRunning past

-- where a hub stands that nothing disturbs, behind a message that it writes
use Rattle.std.proofs.Common.{◌≡◌, ◌≢◌, ◌⊎◌, ℕ, ◌+◌, ◌-◌, ◌*◌, ◌||◌, ◌&&◌, nat_le, Bool, true, false, List, [], ◌∷◌, length, take, drop, Option, Some, None, inl, refl, sym, subst, ◌∙◌, ap, arith}
use Rattle.std.specs.Prelude.{◌==◌, is_some, min, if◌then◌else◌}
use Rattle.std.specs.Bool.{MatchBool}
use Rattle.std.proofs.lemmas.Bool.{leb-false}
use Rattle.host_hub.specs.declared.kind.Kind.{Kind}
use Rattle.host_hub.specs.declared.kind.Kind.TheVariants as kind
use Rattle.host_hub.specs.Order.{Order, Part, Read, Request, Setting, Trigger, Listen, Class, ClearHalt, Unlink, is_listen}
use Rattle.host_hub.specs.Record.{Asked, Asking, Cancelled, Cleared, Fell, GaveUp, Happening, Of, Past, Recovers, Settled, Stopped, Took, Wrote}
use Rattle.host_hub.specs.Book.{asking_of, has, live}
use Rattle.host_hub.specs.Calls.{All}
use Rattle.host_hub.specs.Causes.{cause}
use Rattle.host_hub.specs.Hand.{ended_by, in_hand, is_begun, is_of}
use Rattle.host_hub.specs.Joined.{IsPlain, IsPlainAsking, IsPlainKind, IsPlainOrder, IsSimple}
use Rattle.host_hub.specs.Law.{Begins, Lawful, Planned}
use Rattle.host_hub.specs.Made.{made_at}
use Rattle.host_hub.specs.Outstanding.{Sent, busy, involved, outstanding}
use Rattle.host_hub.specs.Pieces.{Piece, data_in, opened, pieces, requested}
use Rattle.host_hub.specs.Plan.{When, behind_message, behind_read, ended_at, first_order, follows, is_part, last, message_end, next_tag, part_of, parts, planned, planned_by, request_of}
use Rattle.host_hub.specs.Plan.{status_order}
use Rattle.host_hub.specs.Status.{awaits, listens}
use Rattle.host_hub.proofs.Lists.{clash, differ, first_has, own, same}
use Rattle.host_hub.proofs.Numbers.{may_next}
use Rattle.host_hub.proofs.Pasts.{still}
use Rattle.host_hub.proofs.Quiets.{IsProper, waits_first}
use Rattle.host_hub.proofs.Recovering.{begun_in_hand}
use Rattle.host_hub.proofs.Starts.{first_next}
use Rattle.host_hub.proofs.Stepping.{last_unbegun}
use Rattle.host_hub.proofs.Within.{none_unbegun}
use Rattle.host_hub.proofs.Plain.{AtEnd, AtPart, AtRead, AtRequest, BeginsWith, GoesOnWith, InHand, IsMade, Move, NoneOut, OneOut, Out, ReadsWith, RequestsFirst, RequestsNext, Stage, Stands, none_reached, plain_asking, plain_proper, plain_quiet, plain_speaks, planned_of}

-- ---- a submit is written

waits_none : (s : Setting) (past : Past) (t : ℕ) (k : Order) → IsSimple s → Lawful s past → IsPlainOrder k → Planned s past t k → Out past → outstanding past ≡ []
waits_none s past t k simple h p law (NoneOut e) = e
waits_none s past t k simple h p law (OneOut u n order q e hand lives l) = by (is_begun t past) refl
  where
    x : Sent
    x = record { number = n; owner = Of u; order = order }

    proper : IsProper k
    proper = plain_proper k p

    waits : is_begun t past ≡ true → awaits t past ≡ []
    waits b = waits_first s (pieces t past) (awaits t past) k simple.shallow proper (subst (λ (c : Bool). MatchBool c (When s (pieces t past) (awaits t past) k) (Begins past)) b law.when)

    mine : is_begun t past ≡ true → t ≡ u
    mine b = same t u (sym (begun_in_hand s past h t (first_has t (live past) law.turn) b) ∙ hand)

    y : Sent
    y = record { number = n; owner = Of t; order = order }

    one : is_begun t past ≡ true → involved t (listens t past) (y ∷ []) ≡ []
    one b =
        subst (λ (v : ℕ). involved t (listens t past) (record { number = n; owner = Of v; order = order } ∷ []) ≡ []) (sym (mine b))
        (subst (λ (xs : List Sent). involved t (listens t past) xs ≡ []) e (waits b))

    no : is_begun t past ≡ true → involved t (listens t past) (y ∷ []) ≡ [] → outstanding past ≡ []
    no b f = absurd (nonempty (t == t) (own t) f)
      where
        nonempty : (c : Bool) → c ≡ true → (if c || (listens t past && is_listen order) then y ∷ [] else []) ≡ [] → ⊥
        nonempty true g k = cc
        nonempty false g k = clash g

    other : Begins past → outstanding past ≡ []
    other begins =
        let f : busy (x ∷ []) ≡ [] = subst (λ (xs : List Sent). busy xs ≡ []) e begins.0 in
        absurd (nonempty (is_listen order) (plain_quiet order q) f)
      where
        nonempty : (c : Bool) → c ≡ false → (if c then [] else x ∷ []) ≡ [] → ⊥
        nonempty true g k = clash (sym g)
        nonempty false g k = cc

    by : (b : Bool) → is_begun t past ≡ b → outstanding past ≡ []
    by true b = no b (one b)
    by false b = other (subst (λ (c : Bool). MatchBool c (When s (pieces t past) (awaits t past) k) (Begins past)) b law.when)

plain_follows : (s : Setting) (past : Past) (t : ℕ) (a : Asking) (k : Order) → asking_of t past ≡ Some a → IsPlainAsking a → planned s t (asking_of t past) past ≡ Some k
    → follows a (last t past) (next_tag past) (parts t past) (pieces t past) ≡ Some k
plain_follows s past t a k e p f =
    subst (λ (b : Bool). (if b then status_order s t past else follows a (last t past) (next_tag past) (parts t past) (pieces t past)) ≡ Some k) (plain_speaks a.kind a.limit p.kind_is)
    (subst (λ (o : Option Asking). planned s t o past ≡ Some k) e f)

first_plain : (k : Kind) (limit : ℕ) (message : List ℕ) (tag : ℕ) → IsPlainKind k limit → first_order k message tag ≡ Some (part_of tag 0 message)
first_plain kind.Ask limit message tag p = refl
first_plain kind.Tell limit message tag p = refl
first_plain kind.Trigger limit message tag p = absurd p
first_plain (kind.Remote act) limit message tag p = absurd p
first_plain kind.Status limit message tag p = absurd p

is_order : (k m : Order) → Some k ≡ Some m → m ≡ k
is_order k m e = cc

move_on : (s : Setting) (past : Past) (t : ℕ) (a : Asking) (k : Order) → in_hand past ≡ Some t → cause s t past ≡ None → IsPlainAsking a → outstanding past ≡ [] → Stage s past t a
    → follows a (last t past) (next_tag past) (parts t past) (pieces t past) ≡ Some k → Move s past t a k
move_on s past t a k hand none p free (AtPart j text l m q more) f =
    GoesOnWith hand m q more (is_order (part_of (next_tag past) (parts t past) a.message) k
    (subst (λ (o : Option Order). follows a o (next_tag past) (parts t past) (pieces t past) ≡ Some k) l f))
move_on s past t a k hand none p free (AtEnd j text l m q) f =
    by a.kind refl p.kind_is (subst (λ (o : Option Order). follows a o (next_tag past) (parts t past) (pieces t past) ≡ Some k) l f)
  where
    by : (c : Kind) → a.kind ≡ c → IsPlainKind c a.limit → behind_message c (next_tag past) a.limit (pieces t past) ≡ Some k → Move s past t a k
    by kind.Ask e w g = RequestsFirst hand e m q (is_order (request_of (next_tag past) a.limit (pieces t past)) k g)
    by kind.Tell e w g = cc
    by kind.Trigger e w g = absurd w
    by (kind.Remote act) e w g = absurd w
    by kind.Status e w g = absurd w
move_on s past t a k hand none p free (AtRequest j size piece earlier ask l m q over shut) f =
    ReadsWith piece earlier hand ask m q over shut (is_order Read k (subst (λ (o : Option Order). follows a o (next_tag past) (parts t past) (pieces t past) ≡ Some k) l f))
move_on s past t a k hand none p free (AtRead piece earlier ask l m q over shut unmade) f =
    by piece.over refl
    (subst (λ (ps : List Piece). behind_read (next_tag past) a.limit ps ≡ Some k) q (subst (λ (o : Option Order). follows a o (next_tag past) (parts t past) (pieces t past) ≡ Some k) l f))
  where
    by : (o : Option ℕ) → piece.over ≡ o → (if is_some o then Some (request_of (next_tag past) a.limit (piece ∷ earlier)) else Some Read) ≡ Some k → Move s past t a k
    by None e g = ReadsWith piece earlier hand ask m q e shut (is_order Read k g)
    by (Some n) e g =
        RequestsNext piece earlier hand ask m q (ap (λ (o : Option ℕ). is_some o) e) (unmade none)
        (subst (λ (ps : List Piece). k ≡ request_of (next_tag past) a.limit ps) (sym q) (is_order (request_of (next_tag past) a.limit (piece ∷ earlier)) k g))

pub record Moves (s : Setting) (past : Past) (t : ℕ) (k : Order) : Type 0 where
  pub free : outstanding past ≡ []
  pub lives : has t (live past) ≡ true
  pub asking : Asking
  pub asked : asking_of t past ≡ Some asking
  pub plain : IsPlainAsking asking
  pub move : Move s past t asking k

pub moves : (s : Setting) (past : Past) (n t : ℕ) (k : Order) → IsSimple s → All IsPlain past → IsPlainOrder k → Lawful s (Wrote n (Of t) k ∷ past) → Stands s past → Moves s past t k
moves s past n t k simple p q h st = by (asking_of t past) refl
  where
    law : Planned s past t k
    law = planned_of s past t k q h.1.2

    lives : has t (live past) ≡ true
    lives = first_has t (live past) law.turn

    free : outstanding past ≡ []
    free = waits_none s past t k simple h.0 q law st.out

    step : (a : Asking) → asking_of t past ≡ Some a → (b : Bool) → is_begun t past ≡ b → Move s past t a k
    step a e false b =
        let f = plain_follows s past t a k e (plain_asking t a past p e) law.plan in
        let g : first_order a.kind a.message (next_tag past) ≡ Some k =
        subst (λ (o : Option Order). follows a o (next_tag past) (parts t past) (pieces t past) ≡ Some k) (last_unbegun t past b) f in
        BeginsWith b (is_order (part_of (next_tag past) 0 a.message) k (sym (first_plain a.kind a.limit a.message (next_tag past) (plain_asking t a past p e).kind_is) ∙ g))
    step a e true b =
        let hand = begun_in_hand s past h.0 t lives b in
        let i = st.hand t hand lives in
        let is : i.asking ≡ a = (let k : Some i.asking ≡ Some a = sym i.asked ∙ e in cc) in
        move_on s past t a k hand (h.1.0.settled t lives) (plain_asking t a past p e) free (subst (λ (w : Asking). Stage s past t w) is i.stage)
        (plain_follows s past t a k e (plain_asking t a past p e) law.plan)

    by : (o : Option Asking) → asking_of t past ≡ o → Moves s past t k
    by None e = absurd (no (subst (λ (o : Option Asking). planned s t o past ≡ Some k) e law.plan))
      where
        no : None ≡ Some k → ⊥
        no g = cc
    by (Some a) e = record { free = free; lives = lives; asking = a; asked = e; plain = plain_asking t a past p e; move = step a e (is_begun t past) refl }

-- ---- how far it has come then

pub parts_unbegun : (t : ℕ) (past : Past) → is_begun t past ≡ false → parts t past ≡ 0
parts_unbegun t [] h = refl
parts_unbegun t (Wrote n o k ∷ past) h = by (is_of t o) refl h (parts_unbegun t past)
  where
    by : (b : Bool) → is_of t o ≡ b → b || is_begun t past ≡ false → (is_begun t past ≡ false → parts t past ≡ 0) → (if is_of t o then parts t past + is_part k else parts t past) ≡ 0
    by true e f again = clash (sym f)
    by false e f again = rw e (again f)
parts_unbegun t (Took m ∷ past) h = parts_unbegun t past h
parts_unbegun t (Fell m e ∷ past) h = parts_unbegun t past h
parts_unbegun t (Stopped e ∷ past) h = parts_unbegun t past h
parts_unbegun t (Recovers ∷ past) h = parts_unbegun t past h
parts_unbegun t (Asked u a ∷ past) h = parts_unbegun t past h
parts_unbegun t (Cancelled u ∷ past) h = parts_unbegun t past h
parts_unbegun t (Cleared w ∷ past) h = parts_unbegun t past h
parts_unbegun t (GaveUp ∷ past) h = parts_unbegun t past h
parts_unbegun t (Settled u o ∷ past) h = parts_unbegun t past h

pub end_unbegun : (t : ℕ) (past : Past) → is_begun t past ≡ false → message_end t past ≡ 0
end_unbegun t [] h = refl
end_unbegun t (Wrote n o k ∷ past) h = by (is_of t o) refl h (end_unbegun t past)
  where
    by : (b : Bool) → is_of t o ≡ b → b || is_begun t past ≡ false → (is_begun t past ≡ false → message_end t past ≡ 0)
        → (if is_of t o then ended_at n k (message_end t past) else message_end t past) ≡ 0
    by true e f again = clash (sym f)
    by false e f again = rw e (again f)
end_unbegun t (Took m ∷ past) h = end_unbegun t past h
end_unbegun t (Fell m e ∷ past) h = end_unbegun t past h
end_unbegun t (Stopped e ∷ past) h = end_unbegun t past h
end_unbegun t (Recovers ∷ past) h = end_unbegun t past h
end_unbegun t (Asked u a ∷ past) h = end_unbegun t past h
end_unbegun t (Cancelled u ∷ past) h = end_unbegun t past h
end_unbegun t (Cleared w ∷ past) h = end_unbegun t past h
end_unbegun t (GaveUp ∷ past) h = end_unbegun t past h
end_unbegun t (Settled u o ∷ past) h = end_unbegun t past h

-- what a submit makes of its own ticket
last_wrote : (past : Past) (n t : ℕ) (k : Order) → last t (Wrote n (Of t) k ∷ past) ≡ planned_by k (last t past)
last_wrote past n t k = rw (own t) refl

pub end_wrote : (past : Past) (n t : ℕ) (k : Order) → message_end t (Wrote n (Of t) k ∷ past) ≡ ended_at n k (message_end t past)
end_wrote past n t k = rw (own t) refl

pub parts_wrote : (past : Past) (n t : ℕ) (k : Order) → parts t (Wrote n (Of t) k ∷ past) ≡ parts t past + is_part k
parts_wrote past n t k = rw (own t) refl

pub pieces_wrote : (past : Past) (n t : ℕ) (k : Order) → pieces t (Wrote n (Of t) k ∷ past) ≡ opened n k (pieces t past)
pieces_wrote past n t k = rw (own t) refl

pub later : (s : Setting) (past : Past) (n t : ℕ) (k : Order) → IsSimple s → Lawful s (Wrote n (Of t) k ∷ past) → (n == 0) ≡ false
later s past n t k simple h = differ n 0 (λ (e : n ≡ 0). omega (arith, e, may_next s past n k h.1.1, first_next s past, simple.first))

-- a part: it has EOM where the message ends with it
part_stage : (s : Setting) (past : Past) (n t count tag : ℕ) (a : Asking) → (n == 0) ≡ false → message_end t past ≡ 0 → pieces t past ≡ [] → parts t past ≡ count
    → Stage s (Wrote n (Of t) (part_of tag count a.message) ∷ past) t a
part_stage s past n t count tag a some m q c = by (nat_le (length a.message) (1024 * (count + 1))) refl
  where
    text : List ℕ
    text = take 1024 (drop (1024 * count) a.message)

    by : (b : Bool) → nat_le (length a.message) (1024 * (count + 1)) ≡ b → Stage s (Wrote n (Of t) (Part tag text b) ∷ past) t a
    by true e =
        AtEnd tag text (last_wrote past n t (Part tag text true)) (ap (λ (i : ℕ). i == 0) (end_wrote past n t (Part tag text true)) ∙ some)
        (pieces_wrote past n t (Part tag text true) ∙ q)
    by false e =
        AtPart tag text (last_wrote past n t (Part tag text false)) (end_wrote past n t (Part tag text false) ∙ m) (pieces_wrote past n t (Part tag text false) ∙ q)
        (let d = parts_wrote past n t (Part tag text false) in omega (arith, d, c, leb-false (length a.message) (1024 * (count + 1)) e))

request_stage : (s : Setting) (past : Past) (n t tag size : ℕ) (a : Asking) → a.kind ≡ kind.Ask → (message_end t past == 0) ≡ false → Stage s (Wrote n (Of t) (Request tag size) ∷ past) t a
request_stage s past n t tag size a ask m =
    AtRequest tag size (requested n tag size) (pieces t past) ask (last_wrote past n t (Request tag size)) (ap (λ (i : ℕ). i == 0) (end_wrote past n t (Request tag size)) ∙ m)
    (pieces_wrote past n t (Request tag size)) refl refl

moved : (s : Setting) (past : Past) (n t : ℕ) (k : Order) (a : Asking) → (n == 0) ≡ false → Move s past t a k → Stage s (Wrote n (Of t) k ∷ past) t a
moved s past n t k a some (BeginsWith b e) =
    subst (λ (j : Order). Stage s (Wrote n (Of t) j ∷ past) t a) (sym e) (part_stage s past n t 0 (next_tag past) a some (end_unbegun t past b) (none_unbegun t past b) (parts_unbegun t past b))
moved s past n t k a some (GoesOnWith hand m q more e) =
    subst (λ (j : Order). Stage s (Wrote n (Of t) j ∷ past) t a) (sym e) (part_stage s past n t (parts t past) (next_tag past) a some m q refl)
moved s past n t k a some (RequestsFirst hand ask m q e) =
    subst (λ (j : Order). Stage s (Wrote n (Of t) j ∷ past) t a) (sym e) (request_stage s past n t (next_tag past) (min (a.limit - length (data_in (pieces t past))) 16384) a ask m)
moved s past n t k a some (RequestsNext piece earlier hand ask m q over unmade e) =
    subst (λ (j : Order). Stage s (Wrote n (Of t) j ∷ past) t a) (sym e) (request_stage s past n t (next_tag past) (min (a.limit - length (data_in (pieces t past))) 16384) a ask m)
moved s past n t k a some (ReadsWith piece earlier hand ask m q over shut e) =
    subst (λ (j : Order). Stage s (Wrote n (Of t) j ∷ past) t a) (sym e)
    (AtRead (record piece { reads = piece.reads + 1 }) earlier ask (last_wrote past n t Read) (ap (λ (i : ℕ). i == 0) (end_wrote past n t Read) ∙ m)
    (pieces_wrote past n t Read ∙ ap (λ (ps : List Piece). opened n Read ps) q) (λ (out : outstanding (Wrote n (Of t) Read ∷ past) ≢ []). over) shut
    (λ (c : cause s t (Wrote n (Of t) Read ∷ past) ≡ None). λ (o : is_some piece.over ≡ true). clash (sym (ap (λ (w : Option ℕ). is_some w) over) ∙ o)))

pub still_plain : (s : Setting) (past : Past) (y : Happening) (t : ℕ) → All IsPlain (y ∷ past) → cause s t past ≡ None → made_at s t past y ≡ None → ended_by y None ≡ None
    → cause s t (y ∷ past) ≡ None
still_plain s past y t p c m e = still s past y t c m e (none_reached t (y ∷ past) p)

plain_last : (k : Order) (before : Option Order) → IsPlainOrder k → planned_by k before ≡ Some k
plain_last (Part tag text eom) before p = refl
plain_last (Request tag size) before p = refl
plain_last Read before p = refl
plain_last (Trigger tag) before p = absurd p
plain_last Listen before p = absurd p
plain_last (Class request) before p = absurd p
plain_last (ClearHalt endpoint) before p = absurd p
plain_last (Unlink target) before p = absurd p

pub stands_wrote : (s : Setting) (past : Past) (n t : ℕ) (k : Order) → IsSimple s → All IsPlain (Wrote n (Of t) k ∷ past) → Lawful s (Wrote n (Of t) k ∷ past) → Stands s past
    → Stands s (Wrote n (Of t) k ∷ past)
stands_wrote s past n t k simple p h st = record { out = out; hand = hand; made = made }
  where
    m : Moves s past t k
    m = moves s past n t k simple p.1 p.0 h st

    new : Sent
    new = record { number = n; owner = Of t; order = k }

    out : Out (Wrote n (Of t) k ∷ past)
    out = OneOut t n k p.0 (ap (λ (xs : List Sent). new ∷ xs) m.free) refl m.lives (last_wrote past n t k ∙ plain_last k (last t past) p.0)

    hand : (u : ℕ) → in_hand (Wrote n (Of t) k ∷ past) ≡ Some u → has u (live past) ≡ true → InHand s (Wrote n (Of t) k ∷ past) u
    hand u e lives =
        subst (λ (v : ℕ). InHand s (Wrote n (Of t) k ∷ past) v) (same t u e)
        (record { asking = m.asking; asked = m.asked; plain = m.plain; stage = moved s past n t k m.asking (later s past n t k simple h) m.move })

    made : (u : ℕ) → has u (live past) ≡ true → (cause s u (Wrote n (Of t) k ∷ past) ≡ None) ⊎ IsMade (Wrote n (Of t) k ∷ past) u
    made u lives = inl (still_plain s past (Wrote n (Of t) k) u p (h.1.0.settled u lives) refl refl)

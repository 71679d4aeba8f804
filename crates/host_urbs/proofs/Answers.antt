-- what a message or an answer changes of what is unanswered
use Rattle.std.proofs.Common.{◌≡◌, ℕ, ◌||◌, ◌&&◌, Bool, true, false, List, [], ◌∷◌, ◌++◌, refl, sym, ◌∙◌, ap, arith}
use Rattle.std.specs.Prelude.{◌==◌, if◌then◌else◌}
use Rattle.usbip_wire.specs.declared.ret_submit.RetSubmitHead.{RetSubmitHead}
use Rattle.usbip_wire.specs.declared.ret_unlink.RetUnlinkHead.{RetUnlinkHead}
use Rattle.usbip_wire.specs.Awaited.{Awaited, number_of, sent_by, without}
use Rattle.usbip_wire.specs.Down as down
use Rattle.usbip_wire.specs.Up as up
use Rattle.host_urbs.specs.Unanswered.{is_returned, is_unlinked, is_taken_back, is_answered, unanswered}
use Rattle.host_urbs.proofs.Basics.{or_false, or_assoc, or_swap, differ, turned}
use Rattle.host_urbs.proofs.Lists.{NoUnlink, NoSubmit, AreTargets, names}

-- ---- one more answer

pub returned_submit : (n : ℕ) (t : List down.Message) (head : RetSubmitHead) (x : List ℕ) → is_returned n (t ++ down.RetSubmit head x ∷ []) ≡ is_returned n t || (n == head.seqnum)
returned_submit n [] head x = or_false (head.seqnum == n) ∙ turned head.seqnum n
returned_submit n (down.RetSubmit h y ∷ t) head x = ap (λ (b : Bool). (h.seqnum == n) || b) (returned_submit n t head x) ∙ sym (or_assoc (h.seqnum == n) (is_returned n t) (n == head.seqnum))
returned_submit n (down.RetUnlink h ∷ t) head x = returned_submit n t head x

pub returned_unlink : (n : ℕ) (t : List down.Message) (head : RetUnlinkHead) → is_returned n (t ++ down.RetUnlink head ∷ []) ≡ is_returned n t
returned_unlink n [] head = refl
returned_unlink n (down.RetSubmit h y ∷ t) head = ap (λ (b : Bool). (h.seqnum == n) || b) (returned_unlink n t head)
returned_unlink n (down.RetUnlink h ∷ t) head = returned_unlink n t head

pub unlinked_submit : (n : ℕ) (t : List down.Message) (head : RetSubmitHead) (x : List ℕ) → is_unlinked n (t ++ down.RetSubmit head x ∷ []) ≡ is_unlinked n t
unlinked_submit n [] head x = refl
unlinked_submit n (down.RetSubmit h y ∷ t) head x = unlinked_submit n t head x
unlinked_submit n (down.RetUnlink h ∷ t) head x = ap (λ (b : Bool). (h.seqnum == n) || b) (unlinked_submit n t head x)

pub unlinked_unlink : (n : ℕ) (t : List down.Message) (head : RetUnlinkHead) → is_unlinked n (t ++ down.RetUnlink head ∷ []) ≡ is_unlinked n t || (n == head.seqnum)
unlinked_unlink n [] head = or_false (head.seqnum == n) ∙ turned head.seqnum n
unlinked_unlink n (down.RetSubmit h y ∷ t) head = unlinked_unlink n t head
unlinked_unlink n (down.RetUnlink h ∷ t) head = ap (λ (b : Bool). (h.seqnum == n) || b) (unlinked_unlink n t head) ∙ sym (or_assoc (h.seqnum == n) (is_unlinked n t) (n == head.seqnum))

pub back_submit : (k : ℕ) (ms : List up.Message) (t : List down.Message) (head : RetSubmitHead) (x : List ℕ) → is_taken_back k ms (t ++ down.RetSubmit head x ∷ []) ≡ is_taken_back k ms t
back_submit k [] t head x = refl
back_submit k (up.Submit h y ∷ ms) t head x = back_submit k ms t head x
back_submit k (up.Unlink h ∷ ms) t head x = rw (unlinked_submit h.seqnum t head x) (rw (back_submit k ms t head x) refl)

pub back_unlink : (k : ℕ) (ms : List up.Message) (t : List down.Message) (head : RetUnlinkHead)
    → is_taken_back k ms (t ++ down.RetUnlink head ∷ []) ≡ is_taken_back k ms t || names head.seqnum k ms
back_unlink k [] t head = refl
back_unlink k (up.Submit h y ∷ ms) t head = back_unlink k ms t head
back_unlink k (up.Unlink h ∷ ms) t head =
    rw (unlinked_unlink h.seqnum t head) (rw (back_unlink k ms t head) (step (h.target == k) (is_unlinked h.seqnum t) (h.seqnum == head.seqnum) (is_taken_back k ms t) (names head.seqnum k ms)))
  where
    step : (a b c d e : Bool) → (a && (b || c)) || (d || e) ≡ ((a && b) || d) || ((a && c) || e)
    step false b c d e = refl
    step true true c d e = refl
    step true false true true e = refl
    step true false true false e = refl
    step true false false d e = refl

gone : (n k : ℕ) (s : Awaited) (us vs : List Awaited) (old now : Bool) → vs ≡ without k (without n us)
    → now ≡ old || ((number_of s == n) || (number_of s == k)) → (if now then vs else s ∷ vs) ≡ without k (without n (if old then us else s ∷ us))
gone n k s us vs old now e f = rw f (step old (number_of s == n) (number_of s == k) refl refl)
  where
    step : (a b c : Bool) → (number_of s == n) ≡ b → (number_of s == k) ≡ c → (if a || (b || c) then vs else s ∷ vs) ≡ without k (without n (if a then us else s ∷ us))
    step true b c h g = e
    step false true c h g = rw h e
    step false false true h g = rw h (rw g e)
    step false false false h g = rw h (rw g (ap (λ (l : List Awaited). s ∷ l) e))

gone_one : (n : ℕ) (s : Awaited) (us vs : List Awaited) (old now : Bool) → vs ≡ without n us
    → now ≡ old || (number_of s == n) → (if now then vs else s ∷ vs) ≡ without n (if old then us else s ∷ us)
gone_one n s us vs old now e f = rw f (step old (number_of s == n) refl)
  where
    step : (a b : Bool) → (number_of s == n) ≡ b → (if a || b then vs else s ∷ vs) ≡ without n (if a then us else s ∷ us)
    step true b g = e
    step false true g = rw g e
    step false false g = rw g (ap (λ (l : List Awaited). s ∷ l) e)

-- the answer to a submit takes that submit out
pub took_submit : (all : List up.Message) (t : List down.Message) (ms : List up.Message) (head : RetSubmitHead) (x : List ℕ) → NoUnlink head.seqnum ms
    → unanswered all (t ++ down.RetSubmit head x ∷ []) ms ≡ without head.seqnum (unanswered all t ms)
took_submit all t [] head x none = refl
took_submit all t (up.Submit h y ∷ ms) head x none =
    gone_one head.seqnum (sent_by (up.Submit h y)) (unanswered all t ms) (unanswered all (t ++ down.RetSubmit head x ∷ []) ms) (is_answered all t (up.Submit h y))
    (is_answered all (t ++ down.RetSubmit head x ∷ []) (up.Submit h y)) (took_submit all t ms head x none)
    (rw (returned_submit h.seqnum t head x) (rw (back_submit h.seqnum all t head x) (or_swap (is_returned h.seqnum t) (h.seqnum == head.seqnum) (is_taken_back h.seqnum all t))))
took_submit all t (up.Unlink h ∷ ms) head x none =
    gone_one head.seqnum (sent_by (up.Unlink h)) (unanswered all t ms) (unanswered all (t ++ down.RetSubmit head x ∷ []) ms) (is_answered all t (up.Unlink h))
    (is_answered all (t ++ down.RetSubmit head x ∷ []) (up.Unlink h)) (took_submit all t ms head x none.1)
    (rw (unlinked_submit h.seqnum t head x) (rw (differ h.seqnum head.seqnum none.0) (sym (or_false (is_unlinked h.seqnum t)))))

-- the answer to an unlink takes out the unlink, and the submit that it names
pub took_unlink : (all : List up.Message) (t : List down.Message) (ms : List up.Message) (head : RetUnlinkHead) (target : ℕ) → NoSubmit head.seqnum ms → NoUnlink target ms
    → ((k : ℕ) → names head.seqnum k all ≡ (k == target)) → unanswered all (t ++ down.RetUnlink head ∷ []) ms ≡ without target (without head.seqnum (unanswered all t ms))
took_unlink all t [] head target none kept named = refl
took_unlink all t (up.Submit h y ∷ ms) head target none kept named =
    gone head.seqnum target (sent_by (up.Submit h y)) (unanswered all t ms) (unanswered all (t ++ down.RetUnlink head ∷ []) ms) (is_answered all t (up.Submit h y))
    (is_answered all (t ++ down.RetUnlink head ∷ []) (up.Submit h y)) (took_unlink all t ms head target none.1 kept named)
    (rw (returned_unlink h.seqnum t head) (rw (back_unlink h.seqnum all t head) (rw (named h.seqnum) (rw (differ h.seqnum head.seqnum none.0)
    (sym (or_assoc (is_returned h.seqnum t) (is_taken_back h.seqnum all t) (h.seqnum == target)))))))
took_unlink all t (up.Unlink h ∷ ms) head target none kept named =
    gone head.seqnum target (sent_by (up.Unlink h)) (unanswered all t ms) (unanswered all (t ++ down.RetUnlink head ∷ []) ms) (is_answered all t (up.Unlink h))
    (is_answered all (t ++ down.RetUnlink head ∷ []) (up.Unlink h)) (took_unlink all t ms head target none kept.1 named)
    (rw (unlinked_unlink h.seqnum t head) (rw (differ h.seqnum target kept.0) (rw (or_false (h.seqnum == head.seqnum)) refl)))

-- ---- one more message

pub back_more : (k : ℕ) (ms : List up.Message) (m : up.Message) (t : List down.Message) → is_taken_back k (ms ++ m ∷ []) t ≡ is_taken_back k ms t || is_taken_back k (m ∷ []) t
back_more k [] m t = refl
back_more k (up.Submit h y ∷ ms) m t = back_more k ms m t
back_more k (up.Unlink h ∷ ms) m t =
    ap (λ (b : Bool). ((h.target == k) && is_unlinked h.seqnum t) || b) (back_more k ms m t)
    ∙ sym (or_assoc ((h.target == k) && is_unlinked h.seqnum t) (is_taken_back k ms t) (is_taken_back k (m ∷ []) t))

pub unanswered_same : (all more : List up.Message) (t : List down.Message) (ms : List up.Message) → ((m : up.Message) → is_answered more t m ≡ is_answered all t m)
    → unanswered more t ms ≡ unanswered all t ms
unanswered_same all more t [] same = refl
unanswered_same all more t (m ∷ ms) same = rw (same m) (rw (unanswered_same all more t ms same) refl)

pub unanswered_more : (all : List up.Message) (t : List down.Message) (ms : List up.Message) (m : up.Message) → is_answered all t m ≡ false
    → unanswered all t (ms ++ m ∷ []) ≡ unanswered all t ms ++ sent_by m ∷ []
unanswered_more all t [] m due = rw due refl
unanswered_more all t (x ∷ ms) m due = step (is_answered all t x) (unanswered_more all t ms m due)
  where
    step : (b : Bool) → unanswered all t (ms ++ m ∷ []) ≡ unanswered all t ms ++ sent_by m ∷ []
        → (if b then unanswered all t (ms ++ m ∷ []) else sent_by x ∷ unanswered all t (ms ++ m ∷ [])) ≡ (if b then unanswered all t ms else sent_by x ∷ unanswered all t ms) ++ sent_by m ∷ []
    step true e = e
    step false e = ap (λ (l : List Awaited). sent_by x ∷ l) e

-- a number above all targets is no target
pub no_target : (n : ℕ) (all : List up.Message) (ms : List up.Message) (t : List down.Message) → AreTargets n all ms → is_taken_back n ms t ≡ false
no_target n all [] t h = refl
no_target n all (up.Submit head x ∷ ms) t h = no_target n all ms t h
no_target n all (up.Unlink head ∷ ms) t h = rw (differ head.target n (λ e. omega (arith, e, h.1))) (no_target n all ms t h.3)

-- a ticket in hand that had no trouble calls for no recovery
use Rattle.std.proofs.Common.{◌≡◌, ℕ, pos, ◌||◌, Bool, true, false, List, [], ◌∷◌, ◌++◌, Option, Some, None, refl, sym, subst, ◌∙◌, ap}
use Rattle.std.specs.Prelude.{◌==◌, if◌then◌else◌}
use Rattle.usbip_wire.specs.declared.ret_submit.RetSubmitHead.{RetSubmitHead}
use Rattle.usbip_wire.specs.declared.ret_unlink.RetUnlinkHead.{RetUnlinkHead}
use Rattle.usbip_wire.specs.Down as down
use Rattle.tmc_wire.specs.declared.class_request.ClassRequest.{ClassRequest}
use Rattle.tmc_wire.specs.declared.class_request.ClassRequest.TheVariants as class
use Rattle.host_recover.specs.declared.need.Need.{Need}
use Rattle.host_recover.specs.declared.need.Need.TheVariants as need
use Rattle.host_recover.specs.Letter.{Letter}
use Rattle.host_hub.specs.declared.outcome.Outcome.{Outcome}
use Rattle.host_hub.specs.Order.{Setting, Order, Class, Unlink, is_listen, is_bulk, is_unlink}
use Rattle.host_hub.specs.Record.{Asking, Past, Wrote, Took, Settled, Of}
use Rattle.host_hub.specs.Book.{active, is_active, asking_of}
use Rattle.host_hub.specs.Hand.{in_hand, is_begun, is_of}
use Rattle.host_hub.specs.Outstanding.{Sent, find, lost_with, outstanding, involved}
use Rattle.host_hub.specs.Pieces.{pieces}
use Rattle.host_hub.specs.Status.{is_status}
use Rattle.host_hub.specs.Letters.{letters, letter_in, is_ticket_submit}
use Rattle.host_hub.specs.Needs.{Over, over_of, overs, answered, taken_away, back, is_split, split_at, any_faulty, owed, need_of, only, out_needs, in_needs, fault_needs, Back}
use Rattle.host_hub.specs.Recovery.{AreRecovered, IsWholeFor, is_called, is_served, serves, wanted}
use Rattle.host_hub.specs.Steps.{Comes, IsClean, asked, took, wrote}
use Rattle.host_hub.proofs.Lists.{clash, own, and_false, neither}
use Rattle.host_hub.proofs.Pasts.{unbegun_free}

-- ---- a ticket that has not begun has no submit that is over

pub found_free : (t n : ℕ) (xs : List Sent) (x : Sent) → involved t false xs ≡ [] → find n xs ≡ Some x → is_of t x.owner ≡ false
found_free t n [] x h e = cc
found_free t n (y ∷ ys) x h e = step (found_free t n ys x) (is_of t y.owner) refl h (y.number == n) e
  where
    step : (involved t false ys ≡ [] → find n ys ≡ Some x → is_of t x.owner ≡ false) → (b : Bool) → is_of t y.owner ≡ b
        → (if b || false then y ∷ involved t false ys else involved t false ys) ≡ []
        → (c : Bool) → (if c then Some y else find n ys) ≡ Some x → is_of t x.owner ≡ false
    step again true f k c e = cc
    step again false f k true e = let g : y ≡ x = cc in subst (λ (z : Sent). is_of t z.owner ≡ false) g f
    step again false f k false e = again k e

overs_answered : (t : ℕ) (past : Past) (o : Option Sent) (head : RetSubmitHead) (xs : List Over) → is_begun t past ≡ false
    → ((x : Sent) → o ≡ Some x → is_of t x.owner ≡ false) → answered t past o head.status xs ≡ xs
overs_answered t past None head xs fresh h = refl
overs_answered t past (Some x) head xs fresh h = rw (h x refl) (rw fresh (rw (and_false (is_status (asking_of t past))) (rw (and_false (is_active t (active past))) (by (is_listen x.order)))))
  where
    by : (b : Bool) → (if (if b then false else false) then over_of false head.status x ∷ xs else xs) ≡ xs
    by true = refl
    by false = refl

overs_taken : (t : ℕ) (u o : Option Sent) (head : RetUnlinkHead) (xs : List Over) → ((x : Sent) → u ≡ Some x → is_of t x.owner ≡ false) → taken_away t u o head.status xs ≡ xs
overs_taken t None o head xs h = refl
overs_taken t (Some u) None head xs h = refl
overs_taken t (Some u) (Some x) head xs h = rw (h u refl) refl

pub unbegun_overs : (t : ℕ) (past : Past) → is_begun t past ≡ false → overs t past ≡ []
unbegun_overs t [] fresh = refl
unbegun_overs t (Wrote n o k ∷ past) fresh = unbegun_overs t past (neither (is_of t o) (is_begun t past) fresh).1
unbegun_overs t (Took (down.RetSubmit head bytes) ∷ past) fresh =
    overs_answered t past (find head.seqnum (outstanding past)) head (overs t past) fresh
    (λ x e. found_free t head.seqnum (outstanding past) x (unbegun_free t past fresh) e)
    ∙ unbegun_overs t past fresh
unbegun_overs t (Took (down.RetUnlink head) ∷ past) fresh =
    overs_taken t (find head.seqnum (outstanding past)) (lost_with head.seqnum (outstanding past)) head (overs t past)
    (λ x e. found_free t head.seqnum (outstanding past) x (unbegun_free t past fresh) e)
    ∙ unbegun_overs t past fresh
unbegun_overs t (x ∷ past) fresh = unbegun_overs t past fresh

-- ---- it begins

not_called : (past : Past) → wanted past ≡ None → is_called past ≡ false
not_called past none = step (is_called past) refl none
  where
    step : (b : Bool) → is_called past ≡ b → (if b then Some need.Full else if is_served past then None else need_of (in_hand past) past) ≡ None → is_called past ≡ false
    step true e k = cc
    step false e k = e

serves_none : (order : Order) → serves order false ≡ false
serves_none (Class request) = by request
  where
    by : (request : ClassRequest) → serves (Class request) false ≡ false
    by class.Clear = refl
    by request = refl
serves_none order = refl

pub submits : (t : ℕ) (order : Order) → is_unlink order ≡ false → is_ticket_submit (Of t) order ≡ true
submits t (Unlink target) h = clash (sym h)
submits t order h = refl

pub clean_begins : (s : Setting) (past : Past) (t : ℕ) (order : Order) → AreRecovered past → is_begun t past ≡ false → is_unlink order ≡ false → IsClean (wrote s past t order) t false
clean_begins s past t order done fresh plain = record {
  hand = refl;
  called = rw (not_called past done.1) (serves_none order);
  served = rw (submits t order plain) refl;
  back = rw (unbegun_overs t past fresh) refl;
  split_now = rw (unbegun_overs t past fresh) refl;
  fine = rw (unbegun_overs t past fresh) refl;
  running = rw (submits t order plain) refl;
  letters = rw (submits t order plain) refl;
}

-- ---- it goes on

pub clean_writes : (s : Setting) (past : Past) (t : ℕ) (split : Bool) (order : Order) → IsClean past t split → is_unlink order ≡ false → IsClean (wrote s past t order) t split
clean_writes s past t split order clean plain = record {
  hand = refl;
  called = rw clean.called (serves_none order);
  served = rw (submits t order plain) refl;
  back = clean.back;
  split_now = clean.split_now;
  fine = clean.fine;
  running = rw (submits t order plain) refl;
  letters = rw (submits t order plain) refl;
}

nothing_more : (a b : List Letter) → a ≡ [] → b ≡ [] → a ++ b ≡ []
nothing_more a b e f = rw e f

-- an answer with status 0
pub clean_answers : (s : Setting) (past : Past) (t n : ℕ) (split : Bool) (order : Order) (head : RetSubmitHead) (bytes : List ℕ) → IsClean past t split
    → Comes s past t n order head bytes → head.status ≡ pos 0 → IsClean (took past head bytes) t (split_at order split)
clean_answers s past t n split order head bytes clean e fine = record {
  hand = clean.hand;
  called = rw e.found (rw e.plain clean.called);
  served = clean.served;
  back = ap back now ∙ clean.back;
  split_now = ap is_split now ∙ ap (λ (b : Bool). split_at order b) clean.split_now;
  fine = ap any_faulty now ∙ (rw (and_false (is_bulk order || is_listen order)) clean.fine);
  running = clean.running;
  letters = nothing_more (letters past) (letter_in (find head.seqnum (outstanding past)) head bytes) clean.letters (rw e.found refl);
}
  where
    now : overs t (took past head bytes) ≡ record { number = n; order = order; unlinked = false; status = pos 0 } ∷ overs t past
    now = rw e.found (rw e.plain (rw (own t) (rw fine refl)))

-- an entry of another ticket, and its own settling
pub clean_asked : (past : Past) (t : ℕ) (split : Bool) (asking : Asking) → IsClean past t split → IsClean (asked past asking) t split
clean_asked past t split asking clean = record {
  hand = clean.hand;
  called = clean.called;
  served = clean.served;
  back = clean.back;
  split_now = clean.split_now;
  fine = clean.fine;
  running = clean.running;
  letters = clean.letters;
}

pub clean_settles : (past : Past) (t u : ℕ) (split : Bool) (outcome : Outcome) → IsClean past t split → IsClean (Settled u outcome ∷ past) t split
clean_settles past t u split outcome clean = record {
  hand = clean.hand;
  called = clean.called;
  served = clean.served;
  back = clean.back;
  split_now = clean.split_now;
  fine = clean.fine;
  running = clean.running;
  letters = clean.letters;
}

-- ---- and calls for nothing

no_needs : (o : Option Back) (split fault : Bool) (tag : Option ℕ) → o ≡ None → split ≡ false → tag ≡ None → fault ≡ false
    → out_needs o split ++ (in_needs tag ++ fault_needs fault) ≡ []
no_needs o split fault tag e f g h = rw e (rw f (rw g (rw h refl)))

pub clean_recovered : (past : Past) (t : ℕ) → IsClean past t false → owed (pieces t past) (overs t past) ≡ None → AreRecovered past
clean_recovered past t clean none = (
  subst (λ (o : Option Need). IsWholeFor o (letters past)) (sym clean.running) clean.letters,
  rw clean.called (rw clean.served (rw clean.hand (ap only (no_needs (back (overs t past)) (is_split (overs t past)) (any_faulty (overs t past)) (owed (pieces t past) (overs t past)) clean.back clean.split_now none clean.fine)))),
)

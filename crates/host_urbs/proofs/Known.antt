-- what each lawful record keeps
use Rattle.std.proofs.Common.{◌≡◌, ℕ, ◌+◌, ◌<◌, ◌≤◌, ◌||◌, true, false, List, [], ◌∷◌, ◌++◌, Option, Some, refl, sym, subst, ◌∙◌, ap, arith, length-append}
use Rattle.std.specs.Prelude.{◌==◌, is_some}
use Rattle.usbip_wire.specs.declared.ret_submit.RetSubmitHead.{RetSubmitHead}
use Rattle.usbip_wire.specs.declared.ret_unlink.RetUnlinkHead.{RetUnlinkHead}
use Rattle.usbip_wire.specs.declared.submit.SubmitHead.{SubmitHead}
use Rattle.usbip_wire.specs.declared.unlink.UnlinkHead.{UnlinkHead}
use Rattle.usbip_wire.specs.declared.urb.Dir.{Dir}
use Rattle.usbip_wire.specs.Awaited.{Awaited, entries_of, sent_by, without, left_by}
use Rattle.usbip_wire.specs.Dirs.{find, submit_of, is_unlink}
use Rattle.usbip_wire.specs.Down as down
use Rattle.usbip_wire.specs.Up as up
use Rattle.host_urbs.specs.Record.{Past, Wrote, Took, written, taken, next, outstanding}
use Rattle.host_urbs.specs.Law.{Lawful, MayTake, MaySubmit, MayUnlink}
use Rattle.host_urbs.specs.Unanswered.{seqnum_of, AreInARow, is_returned, is_unlinked, is_taken_back, is_answered, unanswered}
use Rattle.host_urbs.proofs.Basics.{or_false, differ, and_false}
use Rattle.host_urbs.proofs.Lists.{AreTargets, SubmitThere, UnlinkThere, submit_there, unlink_there, row_more, no_unlink_more}
use Rattle.host_urbs.proofs.Answers.{took_submit, took_unlink, back_more, unanswered_same, unanswered_more, no_target}

-- the numbers of these answers are below this one
abbrev pub AreBelow : ℕ → List down.Message → Type 0
AreBelow n [] = Unit {0}
AreBelow n (down.RetSubmit head x ∷ t) = (head.seqnum < n) × AreBelow n t
AreBelow n (down.RetUnlink head ∷ t) = (head.seqnum < n) × AreBelow n t

pub record Known (first : ℕ) (past : Past) : Type 0 where
  pub row : AreInARow first (written past)
  pub below : AreBelow (next first past) (taken past)
  pub targets : AreTargets (next first past) (written past) (written past)
  pub due : outstanding past ≡ unanswered (written past) (taken past) (written past)

below_up : (m n : ℕ) (t : List down.Message) → m ≤ n → AreBelow m t → AreBelow n t
below_up m n [] h b = tt
below_up m n (down.RetSubmit head x ∷ t) h b = (omega (arith, h, b.0), below_up m n t h b.1)
below_up m n (down.RetUnlink head ∷ t) h b = (omega (arith, h, b.0), below_up m n t h b.1)

below_more : (n : ℕ) (t : List down.Message) (a : down.Message) → AreBelow n t → AreBelow n (a ∷ []) → AreBelow n (t ++ a ∷ [])
below_more n [] a b h = h
below_more n (down.RetSubmit head x ∷ t) a b h = (b.0, below_more n t a b.1 h)
below_more n (down.RetUnlink head ∷ t) a b h = (b.0, below_more n t a b.1 h)

pub not_returned : (n : ℕ) (t : List down.Message) → AreBelow n t → is_returned n t ≡ false
not_returned n [] b = refl
not_returned n (down.RetSubmit head x ∷ t) b = rw (differ head.seqnum n (λ e. omega (arith, e, b.0))) (not_returned n t b.1)
not_returned n (down.RetUnlink head ∷ t) b = not_returned n t b.1

pub not_unlinked : (n : ℕ) (t : List down.Message) → AreBelow n t → is_unlinked n t ≡ false
not_unlinked n [] b = refl
not_unlinked n (down.RetSubmit head x ∷ t) b = not_unlinked n t b.1
not_unlinked n (down.RetUnlink head ∷ t) b = rw (differ head.seqnum n (λ e. omega (arith, e, b.0))) (not_unlinked n t b.1)

targets_up : (m n : ℕ) (all : List up.Message) (x : up.Message) (ms : List up.Message) → m ≤ n → seqnum_of x ≡ m → AreTargets m all ms → AreTargets n (all ++ x ∷ []) ms
targets_up m n all x [] h e b = tt
targets_up m n all x (up.Submit head y ∷ ms) h e b = targets_up m n all x ms h e b
targets_up m n all x (up.Unlink head ∷ ms) h e b =
    (b.0, omega (arith, b.1, h), no_unlink_more head.target all x b.2 (λ f. omega (arith, e, f, b.1)), targets_up m n all x ms h e b.3)

targets_more : (n : ℕ) (all : List up.Message) (ms : List up.Message) (x : up.Message) → AreTargets n all ms → AreTargets n all (x ∷ []) → AreTargets n all (ms ++ x ∷ [])
targets_more n all [] x b h = h
targets_more n all (up.Submit head y ∷ ms) x b h = targets_more n all ms x b h
targets_more n all (up.Unlink head ∷ ms) x b h = (b.0, b.1, b.2, targets_more n all ms x b.3 h)

pub next_more : (first : ℕ) (m : up.Message) (past : Past) → next first (Wrote m ∷ past) ≡ next first past + 1
next_more first m past = omega (arith, length-append (written past) (m ∷ []))

-- ---- a message

wrote : (first : ℕ) (m : up.Message) (past : Past) → Known first past → seqnum_of m ≡ next first past
    → AreTargets (next first past + 1) (written past ++ m ∷ []) (m ∷ [])
    → ((x : up.Message) → is_answered (written past ++ m ∷ []) (taken past) x ≡ is_answered (written past) (taken past) x)
    → is_answered (written past) (taken past) m ≡ false → Known first (Wrote m ∷ past)
wrote first m past k e target same fresh = record {
  row = row_more first (written past) m k.row e;
  below = below_up (next first past) (next first (Wrote m ∷ past)) (taken past) (omega (arith, next_more first m past)) k.below;
  targets = subst (λ (n : ℕ). AreTargets n (written past ++ m ∷ []) (written past ++ m ∷ [])) (sym (next_more first m past))
      (targets_more (next first past + 1) (written past ++ m ∷ []) (written past) m
      (targets_up (next first past) (next first past + 1) (written past) m (written past) (omega arith) e k.targets) target);
  due = ap (λ (l : List Awaited). l ++ sent_by m ∷ []) k.due
      ∙ (ap (λ (l : List Awaited). l ++ sent_by m ∷ []) (sym (unanswered_same (written past) (written past ++ m ∷ []) (taken past) (written past) same))
      ∙ sym (unanswered_more (written past ++ m ∷ []) (taken past) (written past) m (same m ∙ fresh)));
}

wrote_submit : (first : ℕ) (head : SubmitHead) (x : List ℕ) (past : Past) → Known first past → MaySubmit first past head → Known first (Wrote (up.Submit head x) ∷ past)
wrote_submit first head x past k may = wrote first (up.Submit head x) past k may.next tt same fresh
  where
    same : (m : up.Message) → is_answered (written past ++ up.Submit head x ∷ []) (taken past) m ≡ is_answered (written past) (taken past) m
    same (up.Submit h y) = rw (back_more h.seqnum (written past) (up.Submit head x) (taken past)) (rw (or_false (is_taken_back h.seqnum (written past) (taken past))) refl)
    same (up.Unlink h) = refl

    fresh : is_returned head.seqnum (taken past) || is_taken_back head.seqnum (written past) (taken past) ≡ false
    fresh =
        subst (λ (n : ℕ). is_returned n (taken past) || is_taken_back n (written past) (taken past) ≡ false) (sym may.next)
        (rw (not_returned (next first past) (taken past) k.below) (no_target (next first past) (written past) (written past) (taken past) k.targets))

there : (first : ℕ) (past : Past) (n : ℕ) → Known first past → is_some (submit_of (find n (entries_of (outstanding past)))) ≡ true → SubmitThere n first (written past)
there first past n k h =
    submit_there n first (written past) (taken past) (written past) k.row
    (subst (λ (l : List Awaited). is_some (submit_of (find n (entries_of l))) ≡ true) k.due h)

wrote_unlink : (first : ℕ) (head : UnlinkHead) (past : Past) → Known first past → MayUnlink first past head → Known first (Wrote (up.Unlink head) ∷ past)
wrote_unlink first head past k may =
    wrote first (up.Unlink head) past k may.next
    (omega (arith, may.next, s.high), omega (arith, s.high), no_unlink_more head.target (written past) (up.Unlink head) s.none (λ e. omega (arith, e, may.next, s.high)), tt) same fresh
  where
    s : SubmitThere head.target first (written past)
    s = there first past head.target k may.named

    fresh : is_unlinked head.seqnum (taken past) ≡ false
    fresh = subst (λ (n : ℕ). is_unlinked n (taken past) ≡ false) (sym may.next) (not_unlinked (next first past) (taken past) k.below)

    same : (m : up.Message) → is_answered (written past ++ up.Unlink head ∷ []) (taken past) m ≡ is_answered (written past) (taken past) m
    same (up.Submit h y) =
        rw (back_more h.seqnum (written past) (up.Unlink head) (taken past)) (rw fresh (rw (and_false (head.target == h.seqnum)) (rw (or_false (is_taken_back h.seqnum (written past) (taken past))) refl)))
    same (up.Unlink h) = refl

-- ---- an answer

pub some_submit : (o : Option (Dir × ℕ)) (x : Dir × ℕ) → o ≡ Some x → is_some o ≡ true
some_submit o x e = rw e refl

took_ret_submit : (first : ℕ) (head : RetSubmitHead) (x : List ℕ) (past : Past) → Known first past → MayTake past (down.RetSubmit head x) → Known first (Took (down.RetSubmit head x) ∷ past)
took_ret_submit first head x past k may = record {
  row = k.row;
  below = below_more (next first past) (taken past) (down.RetSubmit head x) k.below (s.high, tt);
  targets = k.targets;
  due = ap (λ (l : List Awaited). without head.seqnum l) k.due ∙ sym (took_submit (written past) (taken past) (written past) head x s.none);
}
  where
    s : SubmitThere head.seqnum first (written past)
    s = there first past head.seqnum k (some_submit (submit_of (find head.seqnum (entries_of (outstanding past)))) (may.0.dir, may.0.size) may.1)

took_ret_unlink : (first : ℕ) (head : RetUnlinkHead) (past : Past) → Known first past → MayTake past (down.RetUnlink head) → Known first (Took (down.RetUnlink head) ∷ past)
took_ret_unlink first head past k may = record {
  row = k.row;
  below = below_more (next first past) (taken past) (down.RetUnlink head) k.below (u.high, tt);
  targets = k.targets;
  due = ap (λ (l : List Awaited). left_by l (down.RetUnlink head)) k.due ∙ (u.left ∙ sym (took_unlink (written past) (taken past) (written past) head u.target u.none u.kept u.named));
}
  where
    u : UnlinkThere head.seqnum first (written past) (taken past) (written past)
    u = unlink_there head.seqnum first (next first past) (written past) (taken past) (written past) k.row k.targets
        (subst (λ (l : List Awaited). is_unlink (find head.seqnum (entries_of l)) ≡ true) k.due may)

pub known : (first : ℕ) (past : Past) → Lawful first past → Known first past
known first [] h = record { row = tt; below = tt; targets = tt; due = refl }
known first (Wrote (up.Submit head x) ∷ past) h = wrote_submit first head x past (known first past h.0) h.1
known first (Wrote (up.Unlink head) ∷ past) h = wrote_unlink first head past (known first past h.0) h.1
known first (Took (down.RetSubmit head x) ∷ past) h = took_ret_submit first head x past (known first past h.0) h.1
known first (Took (down.RetUnlink head) ∷ past) h = took_ret_unlink first head past (known first past h.0) h.1

-- the answer to an unlink takes out the unlink and its target
pub unlink_at : (first : ℕ) (past : Past) (head : RetUnlinkHead) → Known first past → MayTake past (down.RetUnlink head)
    → (target : ℕ) × (left_by (outstanding past) (down.RetUnlink head) ≡ without target (without head.seqnum (outstanding past)))
unlink_at first past head k may =
    let u = unlink_there head.seqnum first (next first past) (written past) (taken past) (written past) k.row k.targets
    (subst (λ (l : List Awaited). is_unlink (find head.seqnum (entries_of l)) ≡ true) k.due may) in
    (u.target, subst (λ (l : List Awaited). left_by l (down.RetUnlink head) ≡ without u.target (without head.seqnum l)) (sym k.due) u.left)

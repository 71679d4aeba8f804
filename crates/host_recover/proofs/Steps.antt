-- each answer leads from a stage to the next
use Rattle.std.proofs.Common.{◌≡◌, ℕ, Bool, true, false, List, [], ◌∷◌, ◌++◌, Some, None, Result, Ok, Err, inl, refl, sym, subst, ◌∙◌, ap}
use Rattle.std.specs.Prelude.{if◌then◌else◌}
use Rattle.tmc_wire.specs.declared.class_request.ClassRequest.TheVariants as class
use Rattle.host_recover.specs.declared.stage.Stage.{Stage}
use Rattle.host_recover.specs.declared.stage.Stage.TheVariants as stage
use Rattle.host_recover.specs.declared.want.Heard.{Heard}
use Rattle.host_recover.specs.declared.want.Heard.TheVariants as heard
use Rattle.host_recover.specs.Letter.{Letter, Asked, Cleared, Drained, Endpoint, Submit, Clear, submit_of, Says, Success, Pending, Queued, Failed, Otherwise, Full, Short, Faulty, BulkIn, Notify, BulkOut, says_of}
use Rattle.host_recover.specs.Next.{ClearsOnly, due_halt, is_check_out, ends_by_check_out}
use Rattle.host_recover.specs.Recover.{Answer, MayAnswer, IsAwaited, AreSeen, EndsBy, behind}
use Rattle.host_recover.specs.Stage.{awaits_at, left_at, behind_abort_out, behind_check_out, behind_abort_in, behind_check_in, behind_clear, behind_check_clear, first_halt, second_halt, behind_heard}
use Rattle.host_recover.specs.Words.{Has}
use Rattle.host_recover.proofs.Lefts.{left, own}
use Rattle.host_recover.proofs.Phases.{Phase, Halts, BehindIn, BehindNotify, Done, go, none_some, clash, may_say, says_out, says_abort_out, says_abort_in, said_abort_out, said_abort_in}
use Rattle.host_recover.proofs.Stages.{phase_at, left_is, left_runs, has_left, clears_halt, clears_none, same_submit, done_at, Led, answers_at}

-- behind this answer the second stage comes, with these halts seen
pub record Goes (s : Stage) (letter : Letter) (in_halted notify_halted : Bool) (next : Stage) : Type 0 where
  pub phase : Phase
  pub goes : go (phase_at s) letter ≡ Some phase
  pub less : (rest : List Letter) → Has (left_at next) rest → Has (left phase) rest
  pub only : (x : Letter) (rest : List Letter) → MayAnswer (awaits_at next) x → Has (left phase) (x ∷ rest) → Has (left_at next) (x ∷ rest)
  pub halt : (letters : List Letter) → AreSeen (letters ++ letter ∷ []) in_halted notify_halted → (submit : Submit) → awaits_at next ≡ Answer submit
      → ClearsOnly (due_halt (letters ++ letter ∷ []) in_halted notify_halted) submit
  pub exact : (letters : List Letter) (x : Letter) → Led phase x → ClearsOnly (due_halt (letters ++ letter ∷ []) in_halted notify_halted) (submit_of x) → awaits_at next ≡ Answer (submit_of x)
  pub done : phase ≡ Done → next ≡ stage.Over

-- the phase is that of the next stage, which clears no halt
same : {s : Stage} {letter : Letter} {i n : Bool} (next : Stage) → clears_halt next ≡ false → go (phase_at s) letter ≡ Some (phase_at next) → Goes s letter i n next
same {s} {letter} {i} {n} next f e = record {
  phase = phase_at next;
  goes = e;
  less = λ rest h. subst (λ w. Has w rest) (left_is next) h;
  only = λ x rest m h. subst (λ w. Has w (x ∷ rest)) (sym (left_is next)) h;
  halt = λ letters seen submit a. clears_none next f submit (due_halt (letters ++ letter ∷ []) i n) a;
  exact = λ letters x l _. answers_at next f x l;
  done = λ d. done_at next d;
}

-- ---- halts

ends_by : (letters : List Letter) (letter : Letter) → ends_by_check_out (letters ++ letter ∷ []) ≡ is_check_out letter
ends_by [] letter = refl
ends_by (x ∷ []) letter = refl
ends_by (x ∷ (y ∷ letters)) letter = ends_by (y ∷ letters) letter

-- which halt is due behind a letter
abbrev due_behind : Letter → (in_halted notify_halted : Bool) → Endpoint
due_behind letter i n = if is_check_out letter then BulkOut else if i then BulkIn else if n then Notify else BulkOut

due_is : (letters : List Letter) (letter : Letter) (i n : Bool) → due_halt (letters ++ letter ∷ []) i n ≡ due_behind letter i n
due_is letters letter i n = ap (λ (b : Bool). if b then BulkOut else if i then BulkIn else if n then Notify else BulkOut) (ends_by letters letter)

due_at : (letters : List Letter) (letter : Letter) (i n : Bool) (endpoint : Endpoint) (submit : Submit) → due_behind letter i n ≡ endpoint → Answer (Clear endpoint) ≡ Answer submit
    → ClearsOnly (due_halt (letters ++ letter ∷ []) i n) submit
due_at letters letter i n endpoint submit d e = subst (λ (x : Submit). ClearsOnly (due_halt (letters ++ letter ∷ []) i n) x) (sym (same_submit (Clear endpoint) submit e)) (sym (due_is letters letter i n ∙ d))

-- Bulk-OUT comes last, whatever was cleared before
last_of_halts : (x : Letter) (rest : List Letter) → submit_of x ≡ Clear BulkOut → Has (left Halts) (x ∷ rest) → Has (left BehindNotify) (x ∷ rest)
last_of_halts (Cleared BulkOut) rest m h = has_left BehindNotify (Cleared BulkOut ∷ rest) (left_runs Halts (Cleared BulkOut ∷ rest) h)
last_of_halts (Cleared BulkIn) rest m h = cc
last_of_halts (Cleared Notify) rest m h = cc
last_of_halts (Asked request says) rest m h = cc
last_of_halts (Drained ending) rest m h = cc

last_behind_in : (x : Letter) (rest : List Letter) → submit_of x ≡ Clear BulkOut → Has (left BehindIn) (x ∷ rest) → Has (left BehindNotify) (x ∷ rest)
last_behind_in (Cleared BulkOut) rest m h = has_left BehindNotify (Cleared BulkOut ∷ rest) (left_runs BehindIn (Cleared BulkOut ∷ rest) h)
last_behind_in (Cleared BulkIn) rest m h = cc
last_behind_in (Cleared Notify) rest m h = cc
last_behind_in (Asked request says) rest m h = cc
last_behind_in (Drained ending) rest m h = cc

second_of_halts : (x : Letter) (rest : List Letter) → submit_of x ≡ Clear Notify → Has (left Halts) (x ∷ rest) → Has (left BehindIn) (x ∷ rest)
second_of_halts (Cleared Notify) rest m h = has_left BehindIn (Cleared Notify ∷ rest) (left_runs Halts (Cleared Notify ∷ rest) h)
second_of_halts (Cleared BulkIn) rest m h = cc
second_of_halts (Cleared BulkOut) rest m h = cc
second_of_halts (Asked request says) rest m h = cc
second_of_halts (Drained ending) rest m h = cc

-- what is left behind the clearing of a halt is left where it was not cleared
out_behind_in : (rest : List Letter) → Has (left BehindNotify) rest → Has (left BehindIn) rest
out_behind_in rest h = ([], rest, refl, inl refl, h)

notify_of_halts : (rest : List Letter) → Has (left BehindIn) rest → Has (left Halts) rest
notify_of_halts rest h = ([], rest, refl, inl refl, h)

ends_letters : (letters : List Letter) (letter : Letter) → EndsBy letter (letters ++ letter ∷ [])
ends_letters letters letter = (letters, refl)

-- the halt that is due, of those that may be cleared
due_of : (letters : List Letter) (letter : Letter) (i n : Bool) (e : Endpoint) → ClearsOnly (due_halt (letters ++ letter ∷ []) i n) (Clear e) → e ≡ due_behind letter i n
due_of letters letter i n e d = d ∙ due_is letters letter i n

frees_by : (e endpoint : Endpoint) → e ≡ endpoint → Answer (Clear endpoint) ≡ Answer (Clear e)
frees_by e endpoint f = ap (λ (x : Endpoint). Answer (Clear x)) (sym f)

due_in_halts : (letters : List Letter) (i n : Bool) (x : Letter) → Led Halts x → ClearsOnly (due_halt (letters ++ Asked class.CheckClear Success ∷ []) i n) (submit_of x)
    → Answer (Clear (due_behind (Asked class.CheckClear Success) i n)) ≡ Answer (submit_of x)
due_in_halts letters i n (Cleared e) l d = frees_by e (due_behind (Asked class.CheckClear Success) i n) (due_of letters (Asked class.CheckClear Success) i n e d)
due_in_halts letters i n (Asked request says) l d = none_some l.next l.goes
due_in_halts letters i n (Drained ending) l d = none_some l.next l.goes

due_behind_in : (letters : List Letter) (i n : Bool) (x : Letter) → Led BehindIn x → ClearsOnly (due_halt (letters ++ Cleared BulkIn ∷ []) i n) (submit_of x)
    → Answer (Clear (if n then Notify else BulkOut)) ≡ Answer (submit_of x)
due_behind_in letters i n (Cleared BulkIn) l d = none_some l.next l.goes
due_behind_in letters true n (Cleared Notify) l d = absurd (other (due_of letters (Cleared BulkIn) true n Notify d))
  where
    other : Notify ≡ BulkIn → ⊥
    other e = cc
due_behind_in letters false n (Cleared Notify) l d = frees_by Notify (if n then Notify else BulkOut) (due_of letters (Cleared BulkIn) false n Notify d)
due_behind_in letters true n (Cleared BulkOut) l d = absurd (other (due_of letters (Cleared BulkIn) true n BulkOut d))
  where
    other : BulkOut ≡ BulkIn → ⊥
    other e = cc
due_behind_in letters false n (Cleared BulkOut) l d = frees_by BulkOut (if n then Notify else BulkOut) (due_of letters (Cleared BulkIn) false n BulkOut d)
due_behind_in letters i n (Asked request says) l d = none_some l.next l.goes
due_behind_in letters i n (Drained ending) l d = none_some l.next l.goes

due_last : (x : Letter) → Led BehindNotify x → Answer (Clear BulkOut) ≡ Answer (submit_of x)
due_last (Cleared BulkOut) l = refl
due_last (Cleared BulkIn) l = none_some l.next l.goes
due_last (Cleared Notify) l = none_some l.next l.goes
due_last (Asked request says) l = none_some l.next l.goes
due_last (Drained ending) l = none_some l.next l.goes

-- the halts at the end of a clear
checked : (i n : Bool) → Goes stage.ChecksClear (Asked class.CheckClear Success) i n (first_halt i n)
checked true n = record {
  phase = Halts;
  goes = refl;
  less = λ rest h. h;
  only = λ x rest m h. h;
  halt = λ letters seen submit a. due_at letters (Asked class.CheckClear Success) true n BulkIn submit refl a;
  exact = λ letters x l d. due_in_halts letters true n x l d;
  done = λ d. cc;
}
checked false true = record {
  phase = Halts;
  goes = refl;
  less = λ rest h. notify_of_halts rest h;
  only = second_of_halts;
  halt = λ letters seen submit a. due_at letters (Asked class.CheckClear Success) false true Notify submit refl a;
  exact = λ letters x l d. due_in_halts letters false true x l d;
  done = λ d. cc;
}
checked false false = record {
  phase = Halts;
  goes = refl;
  less = λ rest h. notify_of_halts rest (out_behind_in rest h);
  only = last_of_halts;
  halt = λ letters seen submit a. due_at letters (Asked class.CheckClear Success) false false BulkOut submit refl a;
  exact = λ letters x l d. due_in_halts letters false false x l d;
  done = λ d. cc;
}

behind_bulk_in : (i n : Bool) → Goes stage.FreesIn (Cleared BulkIn) i n (second_halt n)
behind_bulk_in i true = record {
  phase = BehindIn;
  goes = refl;
  less = λ rest h. h;
  only = λ x rest m h. h;
  halt = λ letters seen submit a. due_at letters (Cleared BulkIn) i true Notify submit (rw (seen.bulk_in (ends_letters letters (Cleared BulkIn))) refl) a;
  exact = λ letters x l d. due_behind_in letters i true x l d;
  done = λ d. cc;
}
behind_bulk_in i false = record {
  phase = BehindIn;
  goes = refl;
  less = λ rest h. out_behind_in rest h;
  only = last_behind_in;
  halt = λ letters seen submit a. due_at letters (Cleared BulkIn) i false BulkOut submit (rw (seen.bulk_in (ends_letters letters (Cleared BulkIn))) refl) a;
  exact = λ letters x l d. due_behind_in letters i false x l d;
  done = λ d. cc;
}

behind_interrupt_in : (i n : Bool) → Goes stage.FreesNotify (Cleared Notify) i n stage.FreesOut
behind_interrupt_in i n = record {
  phase = BehindNotify;
  goes = refl;
  less = λ rest h. h;
  only = λ x rest m h. h;
  halt = λ letters seen submit a. let f = seen.notify (ends_letters letters (Cleared Notify)) in
      due_at letters (Cleared Notify) i n BulkOut submit (rw f.0 (rw f.1 refl)) a;
  exact = λ letters x l d. due_last x l;
  done = λ d. cc;
}

checked_out : (i n : Bool) → Goes stage.ChecksOut (Asked class.CheckOut Success) i n stage.FreesOut
checked_out i n = record {
  phase = BehindNotify;
  goes = refl;
  less = λ rest h. h;
  only = λ x rest m h. h;
  halt = λ letters seen submit a. due_at letters (Asked class.CheckOut Success) i n BulkOut submit refl a;
  exact = λ letters x l d. due_last x l;
  done = λ d. cc;
}

-- ---- answers to class requests

abort_out : (tag : ℕ) (parts : Bool) (says : Says) (i n : Bool) → may_say (class.AbortOut tag) says ≡ true → Goes (stage.AbortsOut tag parts) (Asked (class.AbortOut tag) says) i n (behind_abort_out parts says)
abort_out tag parts Success i n m = same stage.ChecksOut refl (own tag (said_abort_out parts Success))
abort_out tag true Failed i n m = same stage.Clears refl (own tag (said_abort_out true Failed))
abort_out tag false Failed i n m = same stage.Over refl (own tag (said_abort_out false Failed))
abort_out tag parts Otherwise i n m = same stage.Clears refl (own tag (said_abort_out parts Otherwise))
abort_out tag parts Pending i n m = clash m
abort_out tag parts Queued i n m = clash m

abort_in : (tag : ℕ) (says : Says) (i n : Bool) → may_say (class.AbortIn tag) says ≡ true → Goes (stage.AbortsIn tag) (Asked (class.AbortIn tag) says) i n (behind_abort_in says)
abort_in tag Success i n m = same stage.DrainsIn refl (own tag (said_abort_in Success))
abort_in tag Failed i n m = same stage.Over refl (own tag (said_abort_in Failed))
abort_in tag Otherwise i n m = same stage.Clears refl (own tag (said_abort_in Otherwise))
abort_in tag Pending i n m = clash m
abort_in tag Queued i n m = clash m

check_out : (says : Says) (i n : Bool) → may_say class.CheckOut says ≡ true → Goes stage.ChecksOut (Asked class.CheckOut says) i n (behind_check_out says)
check_out Success i n m = checked_out i n
check_out Pending i n m = same stage.ChecksOut refl refl
check_out Failed i n m = same stage.Clears refl refl
check_out Otherwise i n m = same stage.Clears refl refl
check_out Queued i n m = clash m

check_in : (says : Says) (i n : Bool) → Goes stage.ChecksIn (Asked class.CheckIn says) i n (behind_check_in says)
check_in Success i n = same stage.Over refl refl
check_in Pending i n = same stage.ChecksIn refl refl
check_in Queued i n = same stage.DrainsIn refl refl
check_in Failed i n = same stage.Clears refl refl
check_in Otherwise i n = same stage.Clears refl refl

-- ---- what is heard

-- what comes of an answer: the next stage, or none
abbrev pub Comes : Stage → Letter → (in_halted notify_halted : Bool) → Result Stage ℕ → Type 0
Comes s letter i n (Ok next) = Goes s letter i n next
Comes s letter i n (Err status) = go (phase_at s) letter ≡ None

initiated : (says : Says) (status : ℕ) (i n : Bool) → Comes stage.Clears (Asked class.Clear says) i n (behind_clear says status)
initiated Success status i n = same stage.ChecksClear refl refl
initiated Pending status i n = refl
initiated Queued status i n = refl
initiated Failed status i n = refl
initiated Otherwise status i n = refl

check_clear : (says : Says) (status : ℕ) (i n : Bool) → Comes stage.ChecksClear (Asked class.CheckClear says) i n (behind_check_clear says status i n)
check_clear Success status i n = checked i n
check_clear Pending status i n = same stage.ChecksClear refl refl
check_clear Queued status i n = same stage.DrainsClear refl refl
check_clear Failed status i n = refl
check_clear Otherwise status i n = refl

pub record Hears (s : Stage) (hears : Heard) (in_halted notify_halted : Bool) : Type 0 where
  pub letter : Letter
  pub added : (letters : List Letter) → behind letters (awaits_at s) hears ≡ letters ++ letter ∷ []
  pub answers : MayAnswer (awaits_at s) letter
  pub comes : Comes s letter in_halted notify_halted (behind_heard s hears in_halted notify_halted)

by : {s : Stage} {hears : Heard} {i n : Bool} (letter : Letter) → ((letters : List Letter) → behind letters (awaits_at s) hears ≡ letters ++ letter ∷ []) → MayAnswer (awaits_at s) letter
    → Comes s letter i n (behind_heard s hears i n) → Hears s hears i n
by letter added answers comes = record { letter = letter; added = added; answers = answers; comes = comes }

pub hears_of : (s : Stage) (hears : Heard) (i n : Bool) → IsAwaited (awaits_at s) hears → Hears s hears i n
hears_of (stage.AbortsOut tag parts) (heard.Class a) i n w =
    by (Asked (class.AbortOut tag) (says_of (class.AbortOut tag) a.status a.second)) (λ letters. refl) refl
    (abort_out tag parts (says_of (class.AbortOut tag) a.status a.second) i n (says_abort_out tag a.status a.second))
hears_of (stage.AbortsOut tag parts) hears i n w = clash w
hears_of stage.ChecksOut (heard.Class a) i n w =
    by (Asked class.CheckOut (says_of class.CheckOut a.status a.second)) (λ letters. refl) refl (check_out (says_of class.CheckOut a.status a.second) i n (says_out a.status a.second))
hears_of stage.ChecksOut hears i n w = clash w
hears_of (stage.AbortsIn tag) (heard.Class a) i n w =
    by (Asked (class.AbortIn tag) (says_of (class.AbortIn tag) a.status a.second)) (λ letters. refl) refl
    (abort_in tag (says_of (class.AbortIn tag) a.status a.second) i n (says_abort_in tag a.status a.second))
hears_of (stage.AbortsIn tag) hears i n w = clash w
hears_of stage.ChecksIn (heard.Class a) i n w =
    by (Asked class.CheckIn (says_of class.CheckIn a.status a.second)) (λ letters. refl) refl (check_in (says_of class.CheckIn a.status a.second) i n)
hears_of stage.ChecksIn hears i n w = clash w
hears_of stage.Clears (heard.Class a) i n w =
    by (Asked class.Clear (says_of class.Clear a.status a.second)) (λ letters. refl) refl (initiated (says_of class.Clear a.status a.second) a.status i n)
hears_of stage.Clears hears i n w = clash w
hears_of stage.ChecksClear (heard.Class a) i n w =
    by (Asked class.CheckClear (says_of class.CheckClear a.status a.second)) (λ letters. refl) refl (check_clear (says_of class.CheckClear a.status a.second) a.status i n)
hears_of stage.ChecksClear hears i n w = clash w
hears_of stage.DrainsIn heard.FullRead i n w = by (Drained Full) (λ letters. refl) refl (same stage.DrainsIn refl refl)
hears_of stage.DrainsIn heard.ShortRead i n w = by (Drained Short) (λ letters. refl) refl (same stage.ChecksIn refl refl)
hears_of stage.DrainsIn heard.FailedRead i n w = by (Drained Faulty) (λ letters. refl) refl (same stage.Clears refl refl)
hears_of stage.DrainsIn hears i n w = clash w
hears_of stage.DrainsClear heard.FullRead i n w = by (Drained Full) (λ letters. refl) refl (same stage.DrainsClear refl refl)
hears_of stage.DrainsClear heard.ShortRead i n w = by (Drained Short) (λ letters. refl) refl (same stage.ChecksClear refl refl)
hears_of stage.DrainsClear heard.FailedRead i n w = by (Drained Faulty) (λ letters. refl) refl (same stage.Clears refl refl)
hears_of stage.DrainsClear hears i n w = clash w
hears_of stage.FreesIn heard.Feature i n w = by (Cleared BulkIn) (λ letters. refl) refl (behind_bulk_in i n)
hears_of stage.FreesIn hears i n w = clash w
hears_of stage.FreesNotify heard.Feature i n w = by (Cleared Notify) (λ letters. refl) refl (behind_interrupt_in i n)
hears_of stage.FreesNotify hears i n w = clash w
hears_of stage.FreesOut heard.Feature i n w = by (Cleared BulkOut) (λ letters. refl) refl (same stage.Over refl refl)
hears_of stage.FreesOut hears i n w = clash w
hears_of stage.Over hears i n w = absurd w

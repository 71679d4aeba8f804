-- A recovery letter by letter. It serves the proofs alone: what is said of words needs no phase.
use Rattle.std.proofs.Common.{◌≡◌, ℕ, Bool, true, false, List, [], ◌∷◌, ◌++◌, Option, Some, None, refl, sym, subst, ◌∙◌, ap}
use Rattle.std.specs.Prelude.{◌==◌, if◌then◌else◌}
use Rattle.std.proofs.lemmas.Bool.{eqb-true, eq-eqb}
use Rattle.tmc_wire.specs.declared.class_request.ClassRequest.{ClassRequest}
use Rattle.tmc_wire.specs.declared.class_request.ClassRequest.TheVariants as class
use Rattle.tmc_wire.specs.ClassStatus.{STATUS_SUCCESS, STATUS_PENDING, STATUS_FAILED}
use Rattle.host_recover.specs.Letter.{Letter, Asked, Cleared, Drained, Submit, Ask, Clear, Read, submit_of, Says, Success, Pending, Queued, Failed, Otherwise, Ending, Full, Short, Faulty, BulkIn, Notify, BulkOut, pending_says, says_of}
use Rattle.host_recover.specs.Goes.{GoesOn, is_stuck}

pub data Phase : Type 0 where
  AbortsOut : (tag : ℕ) (parts : Bool) → Phase
  ChecksOut : Phase
  AbortsIn : (tag : ℕ) → Phase
  DrainsIn : Phase
  ChecksIn : Phase
  Clears : Phase
  Checks : Phase
  Drains : Phase
  Halts : Phase
  BehindIn : Phase
  BehindNotify : Phase
  Done : Phase

abbrev pub unknown : Bool → Phase
unknown true = Clears
unknown false = Done

abbrev pub said_abort_out : Bool → Says → Option Phase
said_abort_out parts Success = Some ChecksOut
said_abort_out parts Failed = Some (unknown parts)
said_abort_out parts Otherwise = Some Clears
said_abort_out parts says = None

abbrev pub said_out : Says → Option Phase
said_out Success = Some BehindNotify
said_out Pending = Some ChecksOut
said_out Queued = None
said_out Failed = Some Clears
said_out Otherwise = Some Clears

abbrev pub said_abort_in : Says → Option Phase
said_abort_in Success = Some DrainsIn
said_abort_in Failed = Some Done
said_abort_in Otherwise = Some Clears
said_abort_in says = None

abbrev pub said_in : Says → Option Phase
said_in Success = Some Done
said_in Pending = Some ChecksIn
said_in Queued = Some DrainsIn
said_in Failed = Some Clears
said_in Otherwise = Some Clears

abbrev pub said_clear : Says → Option Phase
said_clear Success = Some Checks
said_clear says = None

abbrev pub said_check : Says → Option Phase
said_check Success = Some Halts
said_check Pending = Some Checks
said_check Queued = Some Drains
said_check says = None

abbrev pub abort_out : ℕ → Bool → Letter → Option Phase
abort_out tag parts (Asked (class.AbortOut t) says) = if t == tag then said_abort_out parts says else None
abort_out tag parts letter = None

abbrev pub check_out : Letter → Option Phase
check_out (Asked class.CheckOut says) = said_out says
check_out letter = None

abbrev pub abort_in : ℕ → Letter → Option Phase
abort_in tag (Asked (class.AbortIn t) says) = if t == tag then said_abort_in says else None
abort_in tag letter = None

abbrev pub check_in : Letter → Option Phase
check_in (Asked class.CheckIn says) = said_in says
check_in letter = None

abbrev pub clear : Letter → Option Phase
clear (Asked class.Clear says) = said_clear says
clear letter = None

abbrev pub check : Letter → Option Phase
check (Asked class.CheckClear says) = said_check says
check letter = None

-- a drain, after which this comes
abbrev pub drains : (again after : Phase) → Letter → Option Phase
drains again after (Drained Full) = Some again
drains again after (Drained Short) = Some after
drains again after (Drained Faulty) = Some Clears
drains again after letter = None

abbrev pub halted : Letter → Option Phase
halted (Cleared BulkIn) = Some BehindIn
halted (Cleared Notify) = Some BehindNotify
halted (Cleared BulkOut) = Some Done
halted letter = None

abbrev pub behind_in : Letter → Option Phase
behind_in (Cleared Notify) = Some BehindNotify
behind_in (Cleared BulkOut) = Some Done
behind_in letter = None

abbrev pub behind_notify : Letter → Option Phase
behind_notify (Cleared BulkOut) = Some Done
behind_notify letter = None

abbrev pub go : Phase → Letter → Option Phase
go (AbortsOut tag parts) letter = abort_out tag parts letter
go ChecksOut letter = check_out letter
go (AbortsIn tag) letter = abort_in tag letter
go DrainsIn letter = drains DrainsIn ChecksIn letter
go ChecksIn letter = check_in letter
go Clears letter = clear letter
go Checks letter = check letter
go Drains letter = drains Drains Checks letter
go Halts letter = halted letter
go BehindIn letter = behind_in letter
go BehindNotify letter = behind_notify letter
go Done letter = None

abbrev pub going : Option Phase → Letter → Option Phase
going None letter = None
going (Some p) letter = go p letter

abbrev pub all : Option Phase → List Letter → Option Phase
all o [] = o
all o (letter ∷ letters) = all (going o letter) letters

pub all_none : (letters : List Letter) → all None letters ≡ None
all_none [] = refl
all_none (letter ∷ letters) = all_none letters

pub all_join : (o : Option Phase) (a b : List Letter) → all o (a ++ b) ≡ all (all o a) b
all_join o [] b = refl
all_join o (x ∷ a) b = all_join (going o x) a b

-- ---- what a phase wants

-- the submit of a phase; a phase that clears halts, or is done, has none that is certain
abbrev pub submit_at : Phase → Option Submit
submit_at (AbortsOut tag parts) = Some (Ask (class.AbortOut tag))
submit_at ChecksOut = Some (Ask class.CheckOut)
submit_at (AbortsIn tag) = Some (Ask (class.AbortIn tag))
submit_at DrainsIn = Some Read
submit_at ChecksIn = Some (Ask class.CheckIn)
submit_at Clears = Some (Ask class.Clear)
submit_at Checks = Some (Ask class.CheckClear)
submit_at Drains = Some Read
submit_at Halts = None
submit_at BehindIn = None
submit_at BehindNotify = None
submit_at Done = None

abbrev pub Clearing : Letter → Type 0
Clearing (Cleared endpoint) = Unit {0}
Clearing letter = ⊥

-- the letter is an answer to what the phase wants
abbrev pub FitsIn : Option Submit → Letter → Type 0
FitsIn (Some submit) letter = submit_of letter ≡ submit
FitsIn None letter = Clearing letter

pub none_some : {P : Type 0} (q : Phase) → None ≡ Some q → P
none_some q e = absurd (no e)
  where
    no : None ≡ Some q → ⊥
    no f = cc

pub tag_is : (a b : ℕ) (o : Option Phase) (q : Phase) → (if a == b then o else None) ≡ Some q → a ≡ b
tag_is a b o q h = step (a == b) refl h
  where
    step : (c : Bool) → (a == b) ≡ c → (if c then o else None) ≡ Some q → a ≡ b
    step true e h = eqb-true a b e
    step false e h = none_some q h

fits_abort_out : (tag : ℕ) (parts : Bool) (l : Letter) (q : Phase) → abort_out tag parts l ≡ Some q → submit_of l ≡ Ask (class.AbortOut tag)
fits_abort_out tag parts (Asked (class.AbortOut t) says) q h = ap (λ (n : ℕ). Ask (class.AbortOut n)) (tag_is t tag (said_abort_out parts says) q h)
fits_abort_out tag parts l q h = none_some q h

fits_abort_in : (tag : ℕ) (l : Letter) (q : Phase) → abort_in tag l ≡ Some q → submit_of l ≡ Ask (class.AbortIn tag)
fits_abort_in tag (Asked (class.AbortIn t) says) q h = ap (λ (n : ℕ). Ask (class.AbortIn n)) (tag_is t tag (said_abort_in says) q h)
fits_abort_in tag l q h = none_some q h

fits_check_out : (l : Letter) (q : Phase) → check_out l ≡ Some q → submit_of l ≡ Ask class.CheckOut
fits_check_out (Asked class.CheckOut says) q h = refl
fits_check_out l q h = none_some q h

fits_check_in : (l : Letter) (q : Phase) → check_in l ≡ Some q → submit_of l ≡ Ask class.CheckIn
fits_check_in (Asked class.CheckIn says) q h = refl
fits_check_in l q h = none_some q h

fits_clear : (l : Letter) (q : Phase) → clear l ≡ Some q → submit_of l ≡ Ask class.Clear
fits_clear (Asked class.Clear says) q h = refl
fits_clear l q h = none_some q h

fits_check : (l : Letter) (q : Phase) → check l ≡ Some q → submit_of l ≡ Ask class.CheckClear
fits_check (Asked class.CheckClear says) q h = refl
fits_check l q h = none_some q h

fits_drains : (again after : Phase) (l : Letter) (q : Phase) → drains again after l ≡ Some q → submit_of l ≡ Read
fits_drains again after (Drained ending) q h = refl
fits_drains again after (Asked request says) q h = none_some q h
fits_drains again after (Cleared endpoint) q h = none_some q h

fits_halted : (l : Letter) (q : Phase) → halted l ≡ Some q → Clearing l
fits_halted (Cleared endpoint) q h = tt
fits_halted (Asked request says) q h = none_some q h
fits_halted (Drained ending) q h = none_some q h

fits_behind_in : (l : Letter) (q : Phase) → behind_in l ≡ Some q → Clearing l
fits_behind_in (Cleared endpoint) q h = tt
fits_behind_in (Asked request says) q h = none_some q h
fits_behind_in (Drained ending) q h = none_some q h

fits_behind_notify : (l : Letter) (q : Phase) → behind_notify l ≡ Some q → Clearing l
fits_behind_notify (Cleared endpoint) q h = tt
fits_behind_notify (Asked request says) q h = none_some q h
fits_behind_notify (Drained ending) q h = none_some q h

pub fits : (p : Phase) (l : Letter) (q : Phase) → go p l ≡ Some q → FitsIn (submit_at p) l
fits (AbortsOut tag parts) l q h = fits_abort_out tag parts l q h
fits ChecksOut l q h = fits_check_out l q h
fits (AbortsIn tag) l q h = fits_abort_in tag l q h
fits DrainsIn l q h = fits_drains DrainsIn ChecksIn l q h
fits ChecksIn l q h = fits_check_in l q h
fits Clears l q h = fits_clear l q h
fits Checks l q h = fits_check l q h
fits Drains l q h = fits_drains Drains Checks l q h
fits Halts l q h = fits_halted l q h
fits BehindIn l q h = fits_behind_in l q h
fits BehindNotify l q h = fits_behind_notify l q h
fits Done l q h = none_some q h

-- ---- each answer to what is wanted goes on

-- which answers there are
abbrev pub may_say : ClassRequest → Says → Bool
may_say class.CheckOut Queued = false
may_say class.CheckOut says = true
may_say class.CheckIn says = true
may_say class.CheckClear says = true
may_say request Pending = false
may_say request Queued = false
may_say request says = true

says_all : (request : ClassRequest) → may_say request Success ≡ true → may_say request Failed ≡ true → may_say request Otherwise ≡ true
    → ((second : ℕ) → may_say request (pending_says request second) ≡ true) → (status second : ℕ) → may_say request (says_of request status second) ≡ true
says_all request a b c d status second = step (status == STATUS_SUCCESS) (status == STATUS_PENDING) (status == STATUS_FAILED)
  where
    step : (x y z : Bool) → may_say request (if x then Success else if y then pending_says request second else if z then Failed else Otherwise) ≡ true
    step true y z = a
    step false true z = d second
    step false false true = b
    step false false false = c

pub says_out : (status second : ℕ) → may_say class.CheckOut (says_of class.CheckOut status second) ≡ true
says_out status second = says_all class.CheckOut refl refl refl (λ s. refl) status second

pub says_abort_out : (tag status second : ℕ) → may_say (class.AbortOut tag) (says_of (class.AbortOut tag) status second) ≡ true
says_abort_out tag status second = says_all (class.AbortOut tag) refl refl refl (λ s. refl) status second

pub says_abort_in : (tag status second : ℕ) → may_say (class.AbortIn tag) (says_of (class.AbortIn tag) status second) ≡ true
says_abort_in tag status second = says_all (class.AbortIn tag) refl refl refl (λ s. refl) status second

pub clash : {P : Type 0} → false ≡ true → P
clash e = absurd (no e)
  where
    no : false ≡ true → ⊥
    no h = cc

abbrev pub There : Option Phase → Type 0
There o = (q : Phase) × (o ≡ Some q)

on_abort_out : (parts : Bool) (tag : ℕ) (says : Says) → may_say (class.AbortOut tag) says ≡ true → There (said_abort_out parts says)
on_abort_out parts tag Success h = (ChecksOut, refl)
on_abort_out parts tag Pending h = clash h
on_abort_out parts tag Queued h = clash h
on_abort_out parts tag Failed h = (unknown parts, refl)
on_abort_out parts tag Otherwise h = (Clears, refl)

on_abort_in : (tag : ℕ) (says : Says) → may_say (class.AbortIn tag) says ≡ true → There (said_abort_in says)
on_abort_in tag Success h = (DrainsIn, refl)
on_abort_in tag Pending h = clash h
on_abort_in tag Queued h = clash h
on_abort_in tag Failed h = (Done, refl)
on_abort_in tag Otherwise h = (Clears, refl)

on_out : (says : Says) → may_say class.CheckOut says ≡ true → There (said_out says)
on_out Success h = (BehindNotify, refl)
on_out Pending h = (ChecksOut, refl)
on_out Queued h = clash h
on_out Failed h = (Clears, refl)
on_out Otherwise h = (Clears, refl)

on_in : (says : Says) → There (said_in says)
on_in Success = (Done, refl)
on_in Pending = (ChecksIn, refl)
on_in Queued = (DrainsIn, refl)
on_in Failed = (Clears, refl)
on_in Otherwise = (Clears, refl)

on_clear : (says : Says) → is_stuck class.Clear says ≡ false → There (said_clear says)
on_clear Success h = (Checks, refl)
on_clear says h = clash (sym h)

on_check : (says : Says) → is_stuck class.CheckClear says ≡ false → There (said_check says)
on_check Success h = (Halts, refl)
on_check Pending h = (Checks, refl)
on_check Queued h = (Drains, refl)
on_check Failed h = clash (sym h)
on_check Otherwise h = clash (sym h)

on_drain : (again after : Phase) (ending : Ending) → There (drains again after (Drained ending))
on_drain again after Full = (again, refl)
on_drain again after Short = (after, refl)
on_drain again after Faulty = (Clears, refl)

abbrev request_in : Submit → Option ClassRequest
request_in (Ask request) = Some request
request_in submit = None

-- a letter with this submit is one of its answers
as_asked : (p : Phase) (request : ClassRequest) → ((says : Says) → GoesOn (Asked request says) → There (go p (Asked request says))) → (m : Letter) → submit_of m ≡ Ask request → GoesOn m
    → There (go p m)
as_asked p request answers (Asked r says) e h = subst (λ (x : ClassRequest). GoesOn (Asked x says) → There (go p (Asked x says))) (sym (same e)) (answers says) h
  where
    same : Ask r ≡ Ask request → r ≡ request
    same f = cc
as_asked p request answers (Cleared endpoint) e h = absurd (no e)
  where
    no : Clear endpoint ≡ Ask request → ⊥
    no f = cc
as_asked p request answers (Drained ending) e h = absurd (no e)
  where
    no : Read ≡ Ask request → ⊥
    no f = cc

as_read : (p : Phase) → ((ending : Ending) → There (go p (Drained ending))) → (m : Letter) → submit_of m ≡ Read → There (go p m)
as_read p answers (Drained ending) e = answers ending
as_read p answers (Asked request says) e = absurd (no e)
  where
    no : Ask request ≡ Read → ⊥
    no f = cc
as_read p answers (Cleared endpoint) e = absurd (no e)
  where
    no : Clear endpoint ≡ Read → ⊥
    no f = cc

pub total : (p : Phase) (submit : Submit) (m : Letter) → submit_at p ≡ Some submit → submit_of m ≡ submit → GoesOn m → There (go p m)
total p submit m at e h = at_phase p (sub at)
  where
    sub : submit_at p ≡ Some submit → submit_at p ≡ Some (submit_of m)
    sub f = f ∙ ap (λ (x : Submit). Some x) (sym e)

    of_some : (x : Submit) → Some x ≡ Some (submit_of m) → submit_of m ≡ x
    of_some x f = cc

    none : {P : Type 0} → None ≡ Some (submit_of m) → P
    none f = absurd (no f)
      where
        no : None ≡ Some (submit_of m) → ⊥
        no g = cc

    at_phase : (p : Phase) → submit_at p ≡ Some (submit_of m) → There (go p m)
    at_phase (AbortsOut tag parts) f =
        as_asked (AbortsOut tag parts) (class.AbortOut tag)
        (λ says g. subst (λ (b : Bool). There (if b then said_abort_out parts says else None)) (sym (eq-eqb tag tag refl))
        (on_abort_out parts tag says (subst (λ (x : Says). may_say (class.AbortOut tag) x ≡ true) (sym g.2) (says_abort_out tag g.0 g.1)))) m (of_some _ f) h
    at_phase ChecksOut f =
        as_asked ChecksOut class.CheckOut (λ says g. on_out says (subst (λ (x : Says). may_say class.CheckOut x ≡ true) (sym g.2) (says_out g.0 g.1))) m (of_some _ f) h
    at_phase (AbortsIn tag) f =
        as_asked (AbortsIn tag) (class.AbortIn tag)
        (λ says g. subst (λ (b : Bool). There (if b then said_abort_in says else None)) (sym (eq-eqb tag tag refl))
        (on_abort_in tag says (subst (λ (x : Says). may_say (class.AbortIn tag) x ≡ true) (sym g.2) (says_abort_in tag g.0 g.1)))) m (of_some _ f) h
    at_phase DrainsIn f = as_read DrainsIn (on_drain DrainsIn ChecksIn) m (of_some _ f)
    at_phase ChecksIn f = as_asked ChecksIn class.CheckIn (λ says g. on_in says) m (of_some _ f) h
    at_phase Clears f = as_asked Clears class.Clear (λ says g. on_clear says g.3) m (of_some _ f) h
    at_phase Checks f = as_asked Checks class.CheckClear (λ says g. on_check says g.3) m (of_some _ f) h
    at_phase Drains f = as_read Drains (on_drain Drains Checks) m (of_some _ f)
    at_phase Halts f = none f
    at_phase BehindIn f = none f
    at_phase BehindNotify f = none f
    at_phase Done f = none f

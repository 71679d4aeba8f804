-- what is left of a word behind each letter
use Rattle.std.proofs.Common.{◌≡◌, ℕ, Bool, true, false, List, [], ◌∷◌, ◌++◌, Option, Some, None, inl, inr, refl, sym, subst, ◌∙◌, ap, append_assoc}
use Rattle.std.specs.Prelude.{◌==◌, if◌then◌else◌}
use Rattle.std.proofs.lemmas.Bool.{eq-eqb}
use Rattle.tmc_wire.specs.declared.class_request.ClassRequest.TheVariants as class
use Rattle.host_recover.specs.declared.need.Need.TheVariants as need
use Rattle.host_recover.specs.Letter.{Letter, Asked, Cleared, Drained, Says, Success, Pending, Queued, Failed, Otherwise, Full, Short, Faulty, BulkIn, Notify, BulkOut}
use Rattle.host_recover.specs.Stage.{left_checks}
use Rattle.host_recover.specs.Words.{Words, Empty, One, Many, ◌then◌, ◌or◌, Has, asked, drain, failed_drain, checks, halts, full, checks_out, checks_in, into, words_of}
use Rattle.host_recover.proofs.Phases.{Phase, AbortsOut, ChecksOut, AbortsIn, DrainsIn, ChecksIn, Clears, Checks, Drains, Halts, BehindIn, BehindNotify, Done, said_abort_out, said_abort_in, abort_out, check_out, abort_in, check_in, clear, check, drains, halted, behind_in, behind_notify, go, all, all_none, none_some, tag_is}

-- the words that are left
abbrev pub left : Phase → Words
left (AbortsOut tag parts) = words_of (need.Out tag parts)
left ChecksOut = checks_out
left (AbortsIn tag) = into tag
left DrainsIn = (failed_drain then full) or (drain then checks_in)
left ChecksIn = checks_in
left Clears = full
left Checks = left_checks
left Drains = (drain then left_checks) or (failed_drain then full)
left Halts = halts
left BehindIn = (Empty or One (Cleared Notify)) then One (Cleared BulkOut)
left BehindNotify = One (Cleared BulkOut)
left Done = Empty

-- behind this letter, the words of the second phase are left of those of the first
abbrev Goes : Phase → Letter → Phase → Type 0
Goes p letter q = (rest : List Letter) → Has (left q) rest → Has (left p) (letter ∷ rest)

same_phase : (a q : Phase) → Some a ≡ Some q → a ≡ q
same_phase a q e = cc

to : (p a q : Phase) (letter : Letter) → Goes p letter a → Some a ≡ Some q → Goes p letter q
to p a q letter g e = subst (λ (x : Phase). Goes p letter x) (same_phase a q e) g

cons : (x : Letter) (a b : List Letter) → a ≡ b → x ∷ a ≡ x ∷ b
cons x a b e = ap (λ (l : List Letter). x ∷ l) e

-- one more read
more_reads : (w : Words) (letters : List Letter) → Has (Many (One (Drained Full)) then w) letters → Has (Many (One (Drained Full)) then w) (Drained Full ∷ letters)
more_reads w letters (a, b, e, (each, h), k) = (Drained Full ∷ a, b, cons (Drained Full) _ _ e, ((Drained Full ∷ []) ∷ each, (a, refl, refl, h)), k)

-- ---- the abort of a message

out_goes : (tag : ℕ) (parts : Bool) (says : Says) (q : Phase) → said_abort_out parts says ≡ Some q → Goes (AbortsOut tag parts) (Asked (class.AbortOut tag) says) q
out_goes tag false Success q e = to (AbortsOut tag false) ChecksOut q (Asked (class.AbortOut tag) Success) (λ rest h. inl (inl (Asked (class.AbortOut tag) Success ∷ [], rest, refl, refl, h))) e
out_goes tag true Success q e = to (AbortsOut tag true) ChecksOut q (Asked (class.AbortOut tag) Success) (λ rest h. inl (inl (Asked (class.AbortOut tag) Success ∷ [], rest, refl, refl, h))) e
out_goes tag parts Pending q e = none_some q e
out_goes tag parts Queued q e = none_some q e
out_goes tag false Failed q e = to (AbortsOut tag false) Done q (Asked (class.AbortOut tag) Failed) (λ rest h. inr (cons _ _ _ h)) e
out_goes tag true Failed q e = to (AbortsOut tag true) Clears q (Asked (class.AbortOut tag) Failed) (λ rest h. inr (Asked (class.AbortOut tag) Failed ∷ [], rest, refl, refl, h)) e
out_goes tag false Otherwise q e = to (AbortsOut tag false) Clears q (Asked (class.AbortOut tag) Otherwise) (λ rest h. inl (inr (Asked (class.AbortOut tag) Otherwise ∷ [], rest, refl, refl, h))) e
out_goes tag true Otherwise q e = to (AbortsOut tag true) Clears q (Asked (class.AbortOut tag) Otherwise) (λ rest h. inl (inr (Asked (class.AbortOut tag) Otherwise ∷ [], rest, refl, refl, h))) e

with_tag : (t tag : ℕ) (o : Option Phase) (q : Phase) → (if t == tag then o else None) ≡ Some q → o ≡ Some q
with_tag t tag o q h = step (t == tag) h
  where
    step : (c : Bool) → (if c then o else None) ≡ Some q → o ≡ Some q
    step true e = e
    step false e = none_some q e

abort_out_goes : (tag : ℕ) (parts : Bool) (l : Letter) (q : Phase) → abort_out tag parts l ≡ Some q → Goes (AbortsOut tag parts) l q
abort_out_goes tag parts (Asked (class.AbortOut t) says) q e =
    subst (λ (n : ℕ). Goes (AbortsOut tag parts) (Asked (class.AbortOut n) says) q) (sym (tag_is t tag (said_abort_out parts says) q e))
    (out_goes tag parts says q (with_tag t tag (said_abort_out parts says) q e))
abort_out_goes tag parts l q e = none_some q e

check_out_goes : (l : Letter) (q : Phase) → check_out l ≡ Some q → Goes ChecksOut l q
check_out_goes (Asked class.CheckOut Success) q e =
    to ChecksOut BehindNotify q (Asked class.CheckOut Success) (λ rest h. ([], Asked class.CheckOut Success ∷ rest, refl, ([], refl), inl (Asked class.CheckOut Success ∷ [], rest, refl, refl, h))) e
check_out_goes (Asked class.CheckOut Pending) q e =
    to ChecksOut ChecksOut q (Asked class.CheckOut Pending)
    (λ rest h. (Asked class.CheckOut Pending ∷ h.0, h.1, cons _ _ _ h.2, ((Asked class.CheckOut Pending ∷ []) ∷ h.3.0, (h.0, refl, refl, h.3.1)), h.4)) e
check_out_goes (Asked class.CheckOut Queued) q e = none_some q e
check_out_goes (Asked class.CheckOut Failed) q e =
    to ChecksOut Clears q (Asked class.CheckOut Failed) (λ rest h. ([], Asked class.CheckOut Failed ∷ rest, refl, ([], refl), inr (Asked class.CheckOut Failed ∷ [], rest, refl, inl refl, h))) e
check_out_goes (Asked class.CheckOut Otherwise) q e =
    to ChecksOut Clears q (Asked class.CheckOut Otherwise) (λ rest h. ([], Asked class.CheckOut Otherwise ∷ rest, refl, ([], refl), inr (Asked class.CheckOut Otherwise ∷ [], rest, refl, inr refl, h))) e
check_out_goes l q e = none_some q e

-- ---- the abort of a response

in_goes : (tag : ℕ) (says : Says) (q : Phase) → said_abort_in says ≡ Some q → Goes (AbortsIn tag) (Asked (class.AbortIn tag) says) q
in_goes tag Success q e = to (AbortsIn tag) DrainsIn q (Asked (class.AbortIn tag) Success) begun e
  where
    begun : Goes (AbortsIn tag) (Asked (class.AbortIn tag) Success) DrainsIn
    begun rest (inl h) = inr (inr (inl (Asked (class.AbortIn tag) Success ∷ [], rest, refl, refl, h)))
    begun rest (inr h) = inr (inr (inr (Asked (class.AbortIn tag) Success ∷ [], rest, refl, refl, h)))
in_goes tag Pending q e = none_some q e
in_goes tag Queued q e = none_some q e
in_goes tag Failed q e = to (AbortsIn tag) Done q (Asked (class.AbortIn tag) Failed) (λ rest h. inl (cons _ _ _ h)) e
in_goes tag Otherwise q e = to (AbortsIn tag) Clears q (Asked (class.AbortIn tag) Otherwise) (λ rest h. inr (inl (Asked (class.AbortIn tag) Otherwise ∷ [], rest, refl, refl, h))) e

abort_in_goes : (tag : ℕ) (l : Letter) (q : Phase) → abort_in tag l ≡ Some q → Goes (AbortsIn tag) l q
abort_in_goes tag (Asked (class.AbortIn t) says) q e =
    subst (λ (n : ℕ). Goes (AbortsIn tag) (Asked (class.AbortIn n) says) q) (sym (tag_is t tag (said_abort_in says) q e)) (in_goes tag says q (with_tag t tag (said_abort_in says) q e))
abort_in_goes tag l q e = none_some q e

in_full : Goes DrainsIn (Drained Full) DrainsIn
in_full rest (inl (f, r, e, d, h)) = inl (Drained Full ∷ f, r, cons _ _ _ e, more_reads (One (Drained Faulty)) f d, h)
in_full rest (inr (f, r, e, d, h)) = inr (Drained Full ∷ f, r, cons _ _ _ e, more_reads (One (Drained Short)) f d, h)

drains_in_go : (l : Letter) (q : Phase) → drains DrainsIn ChecksIn l ≡ Some q → Goes DrainsIn l q
drains_in_go (Drained Full) q e = to DrainsIn DrainsIn q (Drained Full) in_full e
drains_in_go (Drained Short) q e =
    to DrainsIn ChecksIn q (Drained Short) (λ rest h. inr (Drained Short ∷ [], rest, refl, ([], Drained Short ∷ [], refl, ([], refl), refl), h)) e
drains_in_go (Drained Faulty) q e =
    to DrainsIn Clears q (Drained Faulty) (λ rest h. inl (Drained Faulty ∷ [], rest, refl, ([], Drained Faulty ∷ [], refl, ([], refl), refl), h)) e
drains_in_go (Asked request says) q e = none_some q e
drains_in_go (Cleared endpoint) q e = none_some q e

regroup : (x : Letter) (rest d r f s : List Letter) → rest ≡ d ++ r → r ≡ f ++ s → x ∷ rest ≡ ((x ∷ d) ++ f) ++ s
regroup x rest d r f s e g = cons x _ _ (e ∙ (ap (λ (l : List Letter). d ++ l) g ∙ sym (append_assoc d f s)))

in_queued : Goes ChecksIn (Asked class.CheckIn Queued) DrainsIn
in_queued rest (inl h) = ([], Asked class.CheckIn Queued ∷ rest, refl, ([], refl), inr (inr (Asked class.CheckIn Queued ∷ [], rest, refl, refl, h)))
in_queued rest (inr (d, r, e, k, (f, s, g, (each, m), h))) = (
  (Asked class.CheckIn Queued ∷ d) ++ f,
  s,
  regroup (Asked class.CheckIn Queued) rest d r f s e g,
  ((Asked class.CheckIn Queued ∷ d) ∷ each, (f, refl, inr (Asked class.CheckIn Queued ∷ [], d, refl, refl, k), m)),
  h,
)

check_in_goes : (l : Letter) (q : Phase) → check_in l ≡ Some q → Goes ChecksIn l q
check_in_goes (Asked class.CheckIn Success) q e = to ChecksIn Done q (Asked class.CheckIn Success) (λ rest h. ([], Asked class.CheckIn Success ∷ rest, refl, ([], refl), inl (cons _ _ _ h))) e
check_in_goes (Asked class.CheckIn Pending) q e =
    to ChecksIn ChecksIn q (Asked class.CheckIn Pending)
    (λ rest h. (Asked class.CheckIn Pending ∷ h.0, h.1, cons _ _ _ h.2, ((Asked class.CheckIn Pending ∷ []) ∷ h.3.0, (h.0, refl, inl refl, h.3.1)), h.4)) e
check_in_goes (Asked class.CheckIn Queued) q e = to ChecksIn DrainsIn q (Asked class.CheckIn Queued) in_queued e
check_in_goes (Asked class.CheckIn Failed) q e =
    to ChecksIn Clears q (Asked class.CheckIn Failed) (λ rest h. ([], Asked class.CheckIn Failed ∷ rest, refl, ([], refl), inr (inl (Asked class.CheckIn Failed ∷ [], rest, refl, inl refl, h)))) e
check_in_goes (Asked class.CheckIn Otherwise) q e =
    to ChecksIn Clears q (Asked class.CheckIn Otherwise) (λ rest h. ([], Asked class.CheckIn Otherwise ∷ rest, refl, ([], refl), inr (inl (Asked class.CheckIn Otherwise ∷ [], rest, refl, inr refl, h)))) e
check_in_goes l q e = none_some q e

-- ---- the full clear

lined : (c q d m s r r2 r3 rest : List Letter) → rest ≡ c ++ r → r ≡ q ++ r2 → r2 ≡ d ++ r3 → r3 ≡ m ++ s → rest ≡ ((c ++ (q ++ d)) ++ m) ++ s
lined c q d m s r r2 r3 rest e f g h =
    e ∙ (ap (λ (l : List Letter). c ++ l) (f ∙ (ap (λ (l : List Letter). q ++ l) g ∙ sym (append_assoc q d r3)))
    ∙ (sym (append_assoc c (q ++ d) r3) ∙ (ap (λ (l : List Letter). (c ++ (q ++ d)) ++ l) h ∙ sym (append_assoc (c ++ (q ++ d)) m s))))

abbrev cl : Letter
cl = Asked class.Clear Success

begun_clear : Goes Clears cl Checks
begun_clear rest (inl (c, r, e, k, (q, r2, f, i, (d, r3, g, j, (m, s, h, (each, t), o))))) = (
  (cl ∷ (c ++ (q ++ d))) ++ m,
  s,
  cons cl _ _ (lined c q d m s r r2 r3 rest e f g h),
  ((cl ∷ (c ++ (q ++ d))) ∷ each, (m, refl, (cl ∷ [], c ++ (q ++ d), refl, refl, (c, q ++ d, refl, k, (q, d, refl, i, j))), t)),
  o,
)
begun_clear rest (inr h) = ([], cl ∷ rest, refl, ([], refl), (cl ∷ [], rest, refl, refl, h))

clear_goes : (l : Letter) (q : Phase) → clear l ≡ Some q → Goes Clears l q
clear_goes (Asked class.Clear Success) q e = to Clears Checks q cl begun_clear e
clear_goes l q e = none_some q e

more_pending : (w : Words) (letters : List Letter) → Has (checks then w) letters → Has (checks then w) (Asked class.CheckClear Pending ∷ letters)
more_pending w letters (f, r, e, (each, m), h) =
    (Asked class.CheckClear Pending ∷ f, r, cons _ _ _ e, ((Asked class.CheckClear Pending ∷ []) ∷ each, (f, refl, inl refl, m)), h)

more_queued : (w : Words) (letters d r : List Letter) → letters ≡ d ++ r → Has drain d → Has (checks then w) r → Has (checks then w) (Asked class.CheckClear Queued ∷ letters)
more_queued w letters d r e k (f, s, g, (each, m), h) = (
  (Asked class.CheckClear Queued ∷ d) ++ f,
  s,
  regroup (Asked class.CheckClear Queued) letters d r f s e g,
  ((Asked class.CheckClear Queued ∷ d) ∷ each, (f, refl, inr (Asked class.CheckClear Queued ∷ [], d, refl, refl, k), m)),
  h,
)

pending : Goes Checks (Asked class.CheckClear Pending) Checks
pending rest (inl h) = inl (more_pending (asked class.CheckClear Queued then failed_drain then full) rest h)
pending rest (inr h) = inr (more_pending (asked class.CheckClear Success then halts) rest h)

queued : Goes Checks (Asked class.CheckClear Queued) Drains
queued rest (inl (d, r, e, k, inl h)) = inl (more_queued (asked class.CheckClear Queued then failed_drain then full) rest d r e k h)
queued rest (inl (d, r, e, k, inr h)) = inr (more_queued (asked class.CheckClear Success then halts) rest d r e k h)
queued rest (inr h) = inl ([], Asked class.CheckClear Queued ∷ rest, refl, ([], refl), (Asked class.CheckClear Queued ∷ [], rest, refl, refl, h))

check_goes : (l : Letter) (q : Phase) → check l ≡ Some q → Goes Checks l q
check_goes (Asked class.CheckClear Success) q e =
    to Checks Halts q (Asked class.CheckClear Success) (λ rest h. inr ([], Asked class.CheckClear Success ∷ rest, refl, ([], refl), (Asked class.CheckClear Success ∷ [], rest, refl, refl, h))) e
check_goes (Asked class.CheckClear Pending) q e = to Checks Checks q (Asked class.CheckClear Pending) pending e
check_goes (Asked class.CheckClear Queued) q e = to Checks Drains q (Asked class.CheckClear Queued) queued e
check_goes (Asked class.CheckClear Failed) q e = none_some q e
check_goes (Asked class.CheckClear Otherwise) q e = none_some q e
check_goes l q e = none_some q e

full_read : Goes Drains (Drained Full) Drains
full_read rest (inl (f, r, e, d, h)) = inl (Drained Full ∷ f, r, cons _ _ _ e, more_reads (One (Drained Short)) f d, h)
full_read rest (inr (f, r, e, d, h)) = inr (Drained Full ∷ f, r, cons _ _ _ e, more_reads (One (Drained Faulty)) f d, h)

drains_go : (l : Letter) (q : Phase) → drains Drains Checks l ≡ Some q → Goes Drains l q
drains_go (Drained Full) q e = to Drains Drains q (Drained Full) full_read e
drains_go (Drained Short) q e = to Drains Checks q (Drained Short) (λ rest h. inl (Drained Short ∷ [], rest, refl, ([], Drained Short ∷ [], refl, ([], refl), refl), h)) e
drains_go (Drained Faulty) q e = to Drains Clears q (Drained Faulty) (λ rest h. inr (Drained Faulty ∷ [], rest, refl, ([], Drained Faulty ∷ [], refl, ([], refl), refl), h)) e
drains_go (Asked request says) q e = none_some q e
drains_go (Cleared endpoint) q e = none_some q e

halted_goes : (l : Letter) (q : Phase) → halted l ≡ Some q → Goes Halts l q
halted_goes (Cleared BulkIn) q e = to Halts BehindIn q (Cleared BulkIn) (λ rest h. (Cleared BulkIn ∷ [], rest, refl, inr refl, h)) e
halted_goes (Cleared Notify) q e = to Halts BehindNotify q (Cleared Notify) (λ rest h. ([], Cleared Notify ∷ rest, refl, inl refl, (Cleared Notify ∷ [], rest, refl, inr refl, h))) e
halted_goes (Cleared BulkOut) q e = to Halts Done q (Cleared BulkOut) (λ rest h. ([], Cleared BulkOut ∷ rest, refl, inl refl, ([], Cleared BulkOut ∷ rest, refl, inl refl, cons _ _ _ h))) e
halted_goes (Asked request says) q e = none_some q e
halted_goes (Drained ending) q e = none_some q e

behind_in_goes : (l : Letter) (q : Phase) → behind_in l ≡ Some q → Goes BehindIn l q
behind_in_goes (Cleared BulkIn) q e = none_some q e
behind_in_goes (Cleared Notify) q e = to BehindIn BehindNotify q (Cleared Notify) (λ rest h. (Cleared Notify ∷ [], rest, refl, inr refl, h)) e
behind_in_goes (Cleared BulkOut) q e = to BehindIn Done q (Cleared BulkOut) (λ rest h. ([], Cleared BulkOut ∷ rest, refl, inl refl, cons _ _ _ h)) e
behind_in_goes (Asked request says) q e = none_some q e
behind_in_goes (Drained ending) q e = none_some q e

behind_notify_goes : (l : Letter) (q : Phase) → behind_notify l ≡ Some q → Goes BehindNotify l q
behind_notify_goes (Cleared BulkIn) q e = none_some q e
behind_notify_goes (Cleared Notify) q e = none_some q e
behind_notify_goes (Cleared BulkOut) q e = to BehindNotify Done q (Cleared BulkOut) (λ rest h. cons _ _ _ h) e
behind_notify_goes (Asked request says) q e = none_some q e
behind_notify_goes (Drained ending) q e = none_some q e

pub goes : (p : Phase) (l : Letter) (q : Phase) → go p l ≡ Some q → (rest : List Letter) → Has (left q) rest → Has (left p) (l ∷ rest)
goes (AbortsOut tag parts) l q e = abort_out_goes tag parts l q e
goes ChecksOut l q e = check_out_goes l q e
goes (AbortsIn tag) l q e = abort_in_goes tag l q e
goes DrainsIn l q e = drains_in_go l q e
goes ChecksIn l q e = check_in_goes l q e
goes Clears l q e = clear_goes l q e
goes Checks l q e = check_goes l q e
goes Drains l q e = drains_go l q e
goes Halts l q e = halted_goes l q e
goes BehindIn l q e = behind_in_goes l q e
goes BehindNotify l q e = behind_notify_goes l q e
goes Done l q e = none_some q e

pub all_go : (p : Phase) (letters : List Letter) (q : Phase) → all (Some p) letters ≡ Some q → (rest : List Letter) → Has (left q) rest → Has (left p) (letters ++ rest)
all_go p [] q e rest h = subst (λ (x : Phase). Has (left x) rest) (sym (same_phase p q e)) h
all_go p (l ∷ letters) q e rest h = step (λ x k. all_go x letters q k rest h) (go p l) refl e
  where
    step : ((x : Phase) → all (Some x) letters ≡ Some q → Has (left x) (letters ++ rest)) → (o : Option Phase) → go p l ≡ o → all o letters ≡ Some q → Has (left p) (l ∷ (letters ++ rest))
    step again None f k = none_some q (sym (all_none letters) ∙ k)
    step again (Some x) f k = goes p l x f (letters ++ rest) (again x k)

-- each phase ends some word
pub own : (tag : ℕ) (o : Option Phase) → (if tag == tag then o else None) ≡ o
own tag o = rw (eq-eqb tag tag refl) refl

abbrev cleared : List Letter
cleared = Cleared BulkOut ∷ []

ends_halts : Has (left Halts) cleared
ends_halts = goes Halts (Cleared BulkOut) Done refl [] refl

abbrev checked : List Letter
checked = Asked class.CheckClear Success ∷ cleared

ends_checks : Has (left Checks) checked
ends_checks = goes Checks (Asked class.CheckClear Success) Halts refl cleared ends_halts

abbrev pub some_word : Phase → List Letter
some_word (AbortsOut tag parts) = Asked (class.AbortOut tag) Success ∷ (Asked class.CheckOut Success ∷ cleared)
some_word ChecksOut = Asked class.CheckOut Success ∷ cleared
some_word (AbortsIn tag) = Asked (class.AbortIn tag) Failed ∷ []
some_word DrainsIn = Drained Short ∷ (Asked class.CheckIn Success ∷ [])
some_word ChecksIn = Asked class.CheckIn Success ∷ []
some_word Clears = cl ∷ checked
some_word Checks = checked
some_word Drains = Drained Short ∷ checked
some_word Halts = cleared
some_word BehindIn = cleared
some_word BehindNotify = cleared
some_word Done = []

pub ends : (p : Phase) → Has (left p) (some_word p)
ends (AbortsOut tag parts) =
    goes (AbortsOut tag parts) (Asked (class.AbortOut tag) Success) ChecksOut (own tag (said_abort_out parts Success)) (Asked class.CheckOut Success ∷ cleared)
    (goes ChecksOut (Asked class.CheckOut Success) BehindNotify refl cleared refl)
ends ChecksOut = goes ChecksOut (Asked class.CheckOut Success) BehindNotify refl cleared refl
ends (AbortsIn tag) = goes (AbortsIn tag) (Asked (class.AbortIn tag) Failed) Done (own tag (said_abort_in Failed)) [] refl
ends DrainsIn = goes DrainsIn (Drained Short) ChecksIn refl (Asked class.CheckIn Success ∷ []) (goes ChecksIn (Asked class.CheckIn Success) Done refl [] refl)
ends ChecksIn = goes ChecksIn (Asked class.CheckIn Success) Done refl [] refl
ends Clears = goes Clears cl Checks refl checked ends_checks
ends Checks = ends_checks
ends Drains = goes Drains (Drained Short) Checks refl checked ends_checks
ends Halts = ends_halts
ends BehindIn = goes BehindIn (Cleared BulkOut) Done refl [] refl
ends BehindNotify = refl
ends Done = refl

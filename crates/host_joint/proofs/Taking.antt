-- packets of the Bulk-OUT submits are taken
use Rattle.std.proofs.Common.{◌≡◌, ◌∙◌, ◌≢◌, inl, inr, ℕ, ◌+◌, ◌*◌, ◌<◌, ◌≤◌, Bool, true, false, List, [], ◌∷◌, ◌++◌, length, take, drop, Option, Some, None, refl, ap, sym, subst, append_assoc, append-nil, length-append, length-take, take-append-drop, take_all, arith}
use Rattle.std.proofs.Math.Nat.{div-add-mod}
use Rattle.tmc_wire.specs.declared.header.OutHeader.{OutHeader}
use Rattle.tmc_wire.specs.declared.header.OutHeader.TheVariants.{Message, Request, Trigger}
use Rattle.tmc_law.specs.State.{State, Pending, Transfer, Idle}
use Rattle.tmc_wire.specs.Header.{IsOutHeader}
use Rattle.tmc_law.specs.Put.{Put, ended, success}
use Rattle.tmc_law.specs.BulkOut as out
use Rattle.tmc_law.specs.BulkOut.{HeaderRefused, Belongs, Spoils, Misfits, Moves, Takes, TakesEffect, packets_of, wants, message_most}
use Rattle.tmc_law.specs.Endpoint.{packet_size}
use Rattle.host_joint.specs.Lines.{Sent}
use Rattle.host_joint.specs.Jobs.{Job, IsJob, AllJobs, sent, fresh, partly, transfer_of, OutLine, Unbegun, Partly, Cut, Shut}

-- a transfer with this header may begin behind these parts of a message
abbrev pub Suits : (part : List ℕ) → OutHeader → Type 0
Suits part (Message tag size eom) = length part + size ≤ message_most
Suits part (Request tag size) = part ≡ []
Suits part (Trigger tag) = part ≡ []

-- the first transfer may begin
abbrev pub MayBegin : List Job → State → Type 0
MayBegin todo s = (job : Job) (rest : List Job) → todo ≡ job ∷ rest → (s.side ≡ Idle) × Suits s.part job.header

-- Packets were taken: the first transfer goes on, or it ends and takes effect.
pub data Took (gone : Bool) (todo : List Job) (coming : List Sent) (s : State) (puts : List Put) (t : State) : Type 0 where
  GoesOn : (queue : List Pending) (transfer : Option Transfer) → puts ≡ [] → t ≡ record s { bulk_out = queue; transfer = transfer }
      → OutLine false gone todo coming queue transfer → Took gone todo coming s puts t
  Ends : (job : Job) (rest : List Job) (queue : List Pending) → todo ≡ job ∷ rest → OutLine false gone rest coming queue None
      → TakesEffect job.head.seqnum (transfer_of job job.bytes) (record s { bulk_out = queue; transfer = None }) t
      → puts ≡ ended success (partly job job.bytes []) ∷ [] → Took gone todo coming s puts t

-- bytes are one header
abbrev pub OneHeader : Type 0
OneHeader = (a b : OutHeader) (bytes : List ℕ) → IsOutHeader a bytes → IsOutHeader b bytes → a ≡ b

-- ---- a header that is not refused

too_long : (part : List ℕ) (header : OutHeader) (tag size : ℕ) (eom : Bool) → header ≡ Message tag size eom → Suits part header → message_most < length part + size → ⊥
too_long part (Message t n e) tag size eom is suits long = let same : n ≡ size = cc in omega (arith, suits, long)
too_long part (Request t n) tag size eom is suits long = cc
too_long part (Trigger t) tag size eom is suits long = cc

inside_request : (part : List ℕ) (header : OutHeader) (tag size : ℕ) → header ≡ Request tag size → Suits part header → part ≡ []
inside_request part (Message t n e) tag size is suits = absurd (cc)
inside_request part (Request t n) tag size is suits = suits
inside_request part (Trigger t) tag size is suits = suits

inside_trigger : (part : List ℕ) (header : OutHeader) (tag : ℕ) → header ≡ Trigger tag → Suits part header → part ≡ []
inside_trigger part (Message t n e) tag is suits = absurd (cc)
inside_trigger part (Request t n) tag is suits = suits
inside_trigger part (Trigger t) tag is suits = suits

pub not_refused : (one_header : OneHeader) (s : State) (job : Job) (rest todo : List Job) → todo ≡ job ∷ rest → IsJob job → MayBegin todo s → HeaderRefused s job.bytes → ⊥
not_refused one_header s job rest todo first is may (out.NoHeader f fault) = is.faultless f fault
not_refused one_header s job rest todo first is may (out.BulkInBusy busy) = busy (may job rest first).0
not_refused one_header s job rest todo first is may (out.RequestInside tag size headed some) =
    some (inside_request s.part job.header tag size (one_header _ _ _ is.headed headed) (may job rest first).1)
not_refused one_header s job rest todo first is may (out.TriggerInside tag headed some) =
    some (inside_trigger s.part job.header tag (one_header _ _ _ is.headed headed) (may job rest first).1)
not_refused one_header s job rest todo first is may (out.TooLong tag size eom headed long) =
    too_long s.part job.header tag size eom (one_header _ _ _ is.headed headed) (may job rest first).1 long

-- ---- the first submit

pub same : (x y : Pending) (xs ys : List Pending) → x ∷ xs ≡ y ∷ ys → (x ≡ y) × (xs ≡ ys)
same x y xs ys e = (cc, cc)

some_none : {B : Type 0} (transfer : Transfer) (o : Option Transfer) → o ≡ None → o ≡ Some transfer → B
some_none transfer o none some = let e : None ≡ Some transfer = sym none ∙ some in absurd (cc)

some_one : (a b : Transfer) → Some a ≡ Some b → a ≡ b
some_one a b e = cc

packets_all : (n : ℕ) → n ≤ packets_of n * packet_size
packets_all n = omega (arith, div-add-mod (n + 63) 64)

-- how a submit's own transfer is found: it is in progress, or its header begins it
pub record Owns (s : State) (job : Job) (moved left : List ℕ) : Type 0 where
  pub one : (transfer : Transfer) → Belongs s (partly job moved left) transfer → transfer ≡ transfer_of job moved
  pub unspoiled : Spoils s (partly job moved left) → ⊥

pub owns_fresh : (one_header : OneHeader) (s : State) (job : Job) (rest todo : List Job) → todo ≡ job ∷ rest → IsJob job → MayBegin todo s → s.transfer ≡ None → Owns s job [] job.bytes
owns_fresh one_header s job rest todo first is may none = record {
  one = one;
  unspoiled = unspoiled;
}
  where
    one : (transfer : Transfer) → Belongs s (partly job [] job.bytes) transfer → transfer ≡ transfer_of job []
    one transfer (out.InProgress runs) = some_none transfer s.transfer none runs
    one transfer (out.Begun header absent fine headed begins) = begins ∙ ap (λ (h : OutHeader). record { header = h; taken = [] }) (one_header _ _ _ headed is.headed)

    fits : Misfits (partly job [] job.bytes) (transfer_of job []) → ⊥
    fits (inl long) = omega (arith, long, is.whole, is.sized)
    fits (inr short) = omega (arith, short.0, is.whole, is.sized)

    unspoiled : Spoils s (partly job [] job.bytes) → ⊥
    unspoiled (out.ByHeader absent refused) = not_refused one_header s job rest todo first is may refused
    unspoiled (out.ByLength transfer belongs un misfits) = fits (subst (λ (x : Transfer). Misfits (partly job [] job.bytes) x) (one transfer belongs) misfits)

owns_partly : (s : State) (job : Job) (moved left : List ℕ) → moved ≢ [] → s.transfer ≡ Some (transfer_of job moved) → Owns s job moved left
owns_partly s job moved left some runs = record { one = one; unspoiled = unspoiled }
  where
    one : (transfer : Transfer) → Belongs s (partly job moved left) transfer → transfer ≡ transfer_of job moved
    one transfer (out.InProgress is) = some_one transfer (transfer_of job moved) (sym is ∙ runs)
    one transfer (out.Begun header none fine headed begins) = some_none (transfer_of job moved) s.transfer none runs

    unspoiled : Spoils s (partly job moved left) → ⊥
    unspoiled (out.ByHeader none refused) = some_none (transfer_of job moved) s.transfer none runs
    unspoiled (out.ByLength transfer belongs un misfits) = some un

-- all the packets of a submit are its bytes
pub record All (job : Job) (later : Pending) (grown : Transfer) : Type 0 where
  pub later_is : later ≡ partly job job.bytes []
  pub grown_is : grown ≡ transfer_of job job.bytes

pub moved_on : (job : Job) (moved left : List ℕ) (count : ℕ) (submit later : Pending) (transfer grown : Transfer) → submit ≡ partly job moved left → transfer ≡ transfer_of job moved
    → Moves count submit transfer later grown
    → (later ≡ partly job (moved ++ take (count * packet_size) left) (drop (count * packet_size) left)) × (grown ≡ transfer_of job (moved ++ take (count * packet_size) left))
moved_on job moved left count submit later transfer grown is_submit is_transfer (out.DoesMove is growth) = (
  is ∙ ap (λ (x : Pending). record x { left = drop (count * packet_size) x.left; moved = x.moved ++ take (count * packet_size) x.left }) is_submit,
  growth ∙ ap (λ (x : Transfer). record x { taken = x.taken ++ take (count * packet_size) submit.left }) is_transfer
      ∙ ap (λ (x : Pending). transfer_of job (moved ++ take (count * packet_size) x.left)) is_submit,
)

pub drop_all : (n : ℕ) (xs : List ℕ) → length xs ≤ n → drop n xs ≡ []
drop_all n xs long = nil (drop n xs) (omega (arith, long, ap (λ (l : List ℕ). length l) (take-append-drop n xs), length-append (take n xs) (drop n xs), ap (λ (l : List ℕ). length l) (take_all n xs long)))
  where
    nil : (l : List ℕ) → length l ≡ 0 → l ≡ []
    nil [] e = refl
    nil (x ∷ l) e = absurd (omega (arith, e))

moved_all : (job : Job) (moved left : List ℕ) (count : ℕ) (submit later : Pending) (transfer grown : Transfer) → job.bytes ≡ moved ++ left → submit ≡ partly job moved left
    → transfer ≡ transfer_of job moved → count ≡ packets_of (length submit.left) → Moves count submit transfer later grown → All job later grown
moved_all job moved left count submit later transfer grown whole is_submit is_transfer counts moves =
    let on = moved_on job moved left count submit later transfer grown is_submit is_transfer moves in
    let enough : length left ≤ count * packet_size = rw counts (rw is_submit (packets_all (length left))) in
    let all : moved ++ take (count * packet_size) left ≡ job.bytes = ap (λ (l : List ℕ). moved ++ l) (take_all (count * packet_size) left enough) ∙ sym whole in
    record {
      later_is = on.0 ∙ ap (λ (m : List ℕ). partly job m (drop (count * packet_size) left)) all ∙ ap (λ (l : List ℕ). partly job job.bytes l) (drop_all (count * packet_size) left enough);
      grown_is = on.1 ∙ ap (λ (m : List ℕ). transfer_of job m) all;
    }

not_empty : (xs ys : List ℕ) → xs ≢ [] → xs ++ ys ≢ []
not_empty [] ys some e = some refl
not_empty (x ∷ xs) ys some e = cc

take_some : (n : ℕ) (xs : List ℕ) → 1 ≤ n → 1 ≤ length xs → take n xs ≢ []
take_some n xs some long none = omega (arith, some, long, length-take n xs, ap (λ (l : List ℕ). length l) none)

-- packets of the first submit, with its transfer and what stands behind it known
first : (gone : Bool) (s t : State) (count : ℕ) (puts : List Put) (job : Job) (here later rest todo : List Job) (coming : List Sent) (moved left : List ℕ)
    → todo ≡ job ∷ (here ++ later) → coming ≡ sent later → job.bytes ≡ moved ++ left → 1 ≤ length left → IsJob job → Owns s job moved left
    → s.bulk_out ≡ partly job moved left ∷ fresh here → Takes s count puts t → Took gone todo coming s puts t
first gone s t count puts job here later rest todo coming moved left whole come bytes some is owns queue (out.Empty submit behind line none one put to) =
    let e = same submit (partly job moved left) behind (fresh here) (sym line ∙ queue) in
    absurd (omega (arith, none, ap (λ (x : Pending). x.head.length) e.0, is.sized, is.whole))
first gone s t count puts job here later rest todo coming moved left whole come bytes some is owns queue (out.Spoiled submit behind line long low high spoils put to) =
    let e = same submit (partly job moved left) behind (fresh here) (sym line ∙ queue) in
    absurd (owns.unspoiled (subst (λ (x : Pending). Spoils s x) e.0 spoils))
first gone s t count puts job here later rest todo coming moved left whole come bytes some is owns queue (out.Inside submit after behind transfer grown line long low fine belongs moves more put to) =
    let e = same submit (partly job moved left) behind (fresh here) (sym line ∙ queue) in
    let own = owns.one transfer (subst (λ (x : Pending). Belongs s x transfer) e.0 belongs) in
    let on = moved_on job moved left count submit after transfer grown e.0 own moves in
    let n : ℕ = count * packet_size in
    GoesOn (partly job (moved ++ take n left) (drop n left) ∷ fresh here) (Some (transfer_of job (moved ++ take n left))) put
    (to ∙ ap (λ (x : Pending). record s { bulk_out = x ∷ behind; transfer = Some grown }) on.0
    ∙ ap (λ (l : List Pending). record s { bulk_out = partly job (moved ++ take n left) (drop n left) ∷ l; transfer = Some grown }) e.1
    ∙ ap (λ (x : Transfer). record s { bulk_out = partly job (moved ++ take n left) (drop n left) ∷ fresh here; transfer = Some x }) on.1)
    (Partly job here later (moved ++ take n left) (drop n left) refl whole come
    (bytes ∙ ap (λ (l : List ℕ). moved ++ l) (sym (take-append-drop n left)) ∙ sym (append_assoc moved (take n left) (drop n left)))
    (λ empty. take_some n left (omega (arith, low)) some (behind_empty moved (take n left) empty)) (λ empty. more (ap (λ (x : Pending). x.left) on.0 ∙ empty)) refl refl)
  where
    behind_empty : (xs ys : List ℕ) → xs ++ ys ≡ [] → ys ≡ []
    behind_empty [] ys empty = empty
    behind_empty (x ∷ xs) ys empty = cc
first gone s t count puts job here later rest todo coming moved left whole come bytes some is owns queue (out.SubmitEnds submit after behind transfer grown line long counts fine belongs moves more put to) =
    let e = same submit (partly job moved left) behind (fresh here) (sym line ∙ queue) in
    let own = owns.one transfer (subst (λ (x : Pending). Belongs s x transfer) e.0 belongs) in
    let all = moved_all job moved left count submit after transfer grown bytes e.0 own counts moves in
    absurd (more (ap wants all.grown_is ∙ full))
  where
    full : wants (transfer_of job job.bytes) ≡ 0
    full = omega (arith, is.whole)
first gone s t count puts job here later rest todo coming moved left whole come bytes some is owns queue (out.TransferEnds submit after behind transfer grown line long counts fine belongs moves none effect put) =
    let e = same submit (partly job moved left) behind (fresh here) (sym line ∙ queue) in
    let own = owns.one transfer (subst (λ (x : Pending). Belongs s x transfer) e.0 belongs) in
    let all = moved_all job moved left count submit after transfer grown bytes e.0 own counts moves in
    Ends job (here ++ later) (fresh here) whole (Unbegun here later refl refl come refl refl)
    (subst (λ (l : List Pending). TakesEffect job.head.seqnum (transfer_of job job.bytes) (record s { bulk_out = l; transfer = None }) t) e.1
    (subst (λ (x : Transfer). TakesEffect job.head.seqnum x (record s { bulk_out = behind; transfer = None }) t) all.grown_is
    (subst (λ (x : Pending). TakesEffect x.head.seqnum grown (record s { bulk_out = behind; transfer = None }) t) e.0 effect)))
    (put ∙ ap (λ (x : Pending). ended success x ∷ []) all.later_is)

no_first : (s t : State) (count : ℕ) (puts : List Put) → s.bulk_out ≡ [] → Takes s count puts t → ⊥
no_first s t count puts none (out.Empty submit behind line a b c d) = let e : [] ≡ submit ∷ behind = sym none ∙ line in cc
no_first s t count puts none (out.Spoiled submit behind line a b c d f g) = let e : [] ≡ submit ∷ behind = sym none ∙ line in cc
no_first s t count puts none (out.Inside submit after behind transfer grown line a b c d f g h i) = let e : [] ≡ submit ∷ behind = sym none ∙ line in cc
no_first s t count puts none (out.SubmitEnds submit after behind transfer grown line a b c d f g h i) = let e : [] ≡ submit ∷ behind = sym none ∙ line in cc
no_first s t count puts none (out.TransferEnds submit after behind transfer grown line a b c d f g h i) = let e : [] ≡ submit ∷ behind = sym none ∙ line in cc

pub take_goes : (one_header : OneHeader) (shut gone : Bool) (s t : State) (count : ℕ) (puts : List Put) (todo : List Job) (coming : List Sent) → AllJobs todo → MayBegin todo s
    → OutLine shut gone todo coming s.bulk_out s.transfer → Takes s count puts t → (shut ≡ false) × Took gone todo coming s puts t
take_goes one_header shut gone s t count puts todo coming all may (Unbegun [] later unshut whole come queue none) takes = absurd (no_first s t count puts queue takes)
take_goes one_header shut gone s t count puts todo coming all may (Unbegun (job ∷ here) later unshut whole come queue none) takes =
    let is : IsJob job = (subst (λ (l : List Job). AllJobs l) whole all).0 in (
      unshut,
      first gone s t count puts job here later (here ++ later) todo coming [] job.bytes whole come refl (omega (arith, is.whole)) is
          (owns_fresh one_header s job (here ++ later) todo whole is may none) queue takes,
    )
take_goes one_header shut gone s t count puts todo coming all may (Partly job here later moved left unshut whole come bytes begun more queue runs) takes =
    let is : IsJob job = (subst (λ (l : List Job). AllJobs l) whole all).0 in (
      unshut,
      first gone s t count puts job here later (here ++ later) todo coming moved left whole come bytes (some left more) is
          (owns_partly s job moved left begun runs) queue takes,
    )
  where
    some : (l : List ℕ) → l ≢ [] → 1 ≤ length l
    some [] never = absurd (never refl)
    some (x ∷ l) never = omega arith
take_goes one_header shut gone s t count puts todo coming all may (Cut job moved left was unshut empty come bytes begun more queue runs) takes = absurd (no_first s t count puts queue takes)
take_goes one_header shut gone s t count puts todo coming all may (Shut closed empty queue none) takes = absurd (no_first s t count puts queue takes)

fresh-more : (jobs : List Job) (job : Job) → fresh (jobs ++ job ∷ []) ≡ fresh jobs ++ partly job [] job.bytes ∷ []
fresh-more [] job = refl
fresh-more (j ∷ jobs) job = ap (λ (l : List Pending). partly j [] j.bytes ∷ l) (fresh-more jobs job)

no_sent : {B : Type 0} (x : Sent) (coming : List Sent) → x ∷ coming ≡ [] → B
no_sent x coming e = absurd (cc)

not_both : {B : Type 0} (b : Bool) → b ≡ false → b ≡ true → B
not_both b open_is shut_is = let e : false ≡ true = sym open_is ∙ shut_is in absurd (cc)

abbrev pub came : Sent → Pending
came x = record { head = x.head; left = x.transferred; moved = []; polled = false }

-- a transfer arrives
pub job_comes : (shut gone : Bool) (todo : List Job) (x : Sent) (coming : List Sent) (queue : List Pending) (transfer : Option Transfer) → shut ≡ false
    → OutLine shut gone todo (x ∷ coming) queue transfer → OutLine shut gone todo coming (queue ++ came x ∷ []) transfer
job_comes shut gone todo x coming queue transfer usable (Unbegun here [] unshut whole come is none) = no_sent x coming come
job_comes shut gone todo x coming queue transfer usable (Unbegun here (job ∷ later) unshut whole come is none) =
    let e : x ≡ record { head = job.head; transferred = job.bytes } = cc in
    Unbegun (here ++ job ∷ []) later unshut (whole ∙ sym (append_assoc here (job ∷ []) later)) (cc)
    (ap (λ (q : List Pending). q ++ came x ∷ []) is ∙ ap (λ (y : Sent). fresh here ++ came y ∷ []) e ∙ sym (fresh-more here job)) none
job_comes shut gone todo x coming queue transfer usable (Partly first here [] moved left unshut whole come bytes begun more is runs) = no_sent x coming come
job_comes shut gone todo x coming queue transfer usable (Partly first here (job ∷ later) moved left unshut whole come bytes begun more is runs) =
    let e : x ≡ record { head = job.head; transferred = job.bytes } = cc in
    Partly first (here ++ job ∷ []) later moved left unshut (whole ∙ ap (λ (l : List Job). first ∷ l) (sym (append_assoc here (job ∷ []) later))) (cc) bytes begun more
    (ap (λ (q : List Pending). q ++ came x ∷ []) is ∙ ap (λ (y : Sent). (partly first moved left ∷ fresh here) ++ came y ∷ []) e
    ∙ ap (λ (l : List Pending). partly first moved left ∷ l) (sym (fresh-more here job))) runs
job_comes shut gone todo x coming queue transfer usable (Cut job moved left was unshut empty come bytes begun more is runs) = no_sent x coming come
job_comes shut gone todo x coming queue transfer usable (Shut closed empty is none) = not_both shut usable closed

-- one arrives where Bulk-OUT is halted
pub job_turned : (shut gone : Bool) (todo : List Job) (x : Sent) (coming : List Sent) (queue : List Pending) (transfer : Option Transfer) → shut ≡ true
    → OutLine shut gone todo (x ∷ coming) queue transfer → OutLine shut gone todo coming queue transfer
job_turned shut gone todo x coming queue transfer halted (Unbegun here later unshut whole come is none) = not_both shut unshut halted
job_turned shut gone todo x coming queue transfer halted (Partly job here later moved left unshut whole come bytes begun more is runs) = not_both shut unshut halted
job_turned shut gone todo x coming queue transfer halted (Cut job moved left was unshut empty come bytes begun more is runs) = not_both shut unshut halted
job_turned shut gone todo x coming queue transfer halted (Shut closed empty is none) = Shut closed empty is none

-- ---- an unlink hits the last pending transfer

last_pending : (a b : List Pending) (x y : Pending) → a ++ x ∷ [] ≡ b ++ y ∷ [] → (a ≡ b) × (x ≡ y)
last_pending [] [] x y e = (refl, cc)
last_pending [] (z ∷ []) x y e = absurd (cc)
last_pending [] (z ∷ w ∷ b) x y e = absurd (cc)
last_pending (z ∷ []) [] x y e = absurd (cc)
last_pending (z ∷ w ∷ a) [] x y e = absurd (cc)
last_pending (z ∷ a) (w ∷ b) x y e =
    let rest : a ++ x ∷ [] ≡ b ++ y ∷ [] = cc in let first : z ≡ w = cc in let go = last_pending a b x y rest in
    (ap (λ (p : Pending). p ∷ a) first ∙ ap (λ (l : List Pending). w ∷ l) go.0, go.1)

-- a list is empty, or has a last element
data Ended (jobs : List Job) : Type 0 where
  NoneEnds : jobs ≡ [] → Ended jobs
  LastEnds : (front : List Job) (job : Job) → jobs ≡ front ++ job ∷ [] → Ended jobs

ended_of : (jobs : List Job) → Ended jobs
ended_of [] = NoneEnds refl
ended_of (job ∷ jobs) = by (ended_of jobs)
  where
    by : Ended jobs → Ended (job ∷ jobs)
    by (NoneEnds none) = LastEnds [] job (ap (λ (l : List Job). job ∷ l) none)
    by (LastEnds front last is) = LastEnds (job ∷ front) last (ap (λ (l : List Job). job ∷ l) is)

-- what a hit leaves of the transfers: all but the last, or all, where some packets of the only one were taken
pub data LeftOf (todo left : List Job) : Type 0 where
  Same : left ≡ todo → LeftOf todo left
  Shorter : (job : Job) → todo ≡ left ++ job ∷ [] → LeftOf todo left

pub record HitOut (shut gone : Bool) (todo : List Job) (queue : List Pending) (transfer : Option Transfer) : Type 0 where
  pub left : List Job
  pub shorter : LeftOf todo left
  pub line : OutLine shut gone left [] queue transfer

no_last : {B : Type 0} (before : List Pending) (submit : Pending) → [] ≡ before ++ submit ∷ [] → B
no_last [] submit e = absurd (cc)
no_last (x ∷ before) submit e = absurd (cc)

pub job_hit : (shut gone : Bool) (todo : List Job) (before : List Pending) (submit : Pending) (queue : List Pending) (transfer : Option Transfer) → gone ≡ true → queue ≡ before ++ submit ∷ []
    → OutLine shut gone todo [] queue transfer → HitOut shut gone todo before transfer
job_hit shut gone todo before submit queue transfer was_gone last (Unbegun here (job ∷ later) unshut whole come is none) = absurd (cc)
job_hit shut gone todo before submit queue transfer was_gone last (Unbegun here [] unshut whole come is none) = by (ended_of here)
  where
    by : Ended here → HitOut shut gone todo before transfer
    by (NoneEnds empty) = no_last before submit (sym (is ∙ ap fresh empty) ∙ last)
    by (LastEnds front job ends) =
        let e = last_pending before (fresh front) submit (partly job [] job.bytes) (sym last ∙ is ∙ ap fresh ends ∙ fresh-more front job) in
        record { left = front; shorter = Shorter job (whole ∙ append-nil here ∙ ends); line = Unbegun front [] unshut (sym (append-nil front)) refl e.0 none }
job_hit shut gone todo before submit queue transfer was_gone last (Partly first here (job ∷ later) moved left unshut whole come bytes begun more is runs) = absurd (cc)
job_hit shut gone todo before submit queue transfer was_gone last (Partly first here [] moved left unshut whole come bytes begun more is runs) = by (ended_of here)
  where
    by : Ended here → HitOut shut gone todo before transfer
    by (NoneEnds empty) =
        let e = last_pending before [] submit (partly first moved left) (sym last ∙ is ∙ ap (λ (l : List Job). partly first moved left ∷ fresh l) empty) in
        record {
          left = todo;
          shorter = Same refl;
          line = Cut first moved left was_gone unshut (whole ∙ ap (λ (l : List Job). first ∷ l) (append-nil here ∙ empty)) refl bytes begun more e.0 runs;
        }
    by (LastEnds front job ends) =
        let e = last_pending before (partly first moved left ∷ fresh front) submit (partly job [] job.bytes)
        (sym last ∙ is ∙ ap (λ (l : List Job). partly first moved left ∷ fresh l) ends ∙ ap (λ (l : List Pending). partly first moved left ∷ l) (fresh-more front job)) in
        record {
          left = first ∷ front;
          shorter = Shorter job (whole ∙ ap (λ (l : List Job). first ∷ l) (append-nil here ∙ ends));
          line = Partly first front [] moved left unshut (ap (λ (l : List Job). first ∷ l) (sym (append-nil front))) refl bytes begun more e.0 runs;
        }
job_hit shut gone todo before submit queue transfer was_gone last (Cut job moved left was unshut empty come bytes begun more is runs) = no_last before submit (sym is ∙ last)
job_hit shut gone todo before submit queue transfer was_gone last (Shut closed empty is none) = no_last before submit (sym is ∙ last)

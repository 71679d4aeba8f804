-- example lists of submits, as a host keeps them
use Rattle.std.proofs.Common.{inl, ◌≡◌, ◌≢◌, ℕ, List, [], ◌∷◌, ◌++◌, refl}
use Rattle.usbip_wire.specs.declared.submit.SubmitHead.{SubmitHead}
use Rattle.instr_plain.specs.declared.log.LogEntry.{LogEntry}
use Rattle.instr_plain.specs.declared.log.LogEntry.TheVariants as entry
use Rattle.usbip_wire.specs.Up as up
use Rattle.tmc_law.specs.Endpoint.{Endpoint, Control, BulkOut, BulkIn, InterruptIn}
use Rattle.tmc_law.specs.State.{start}
use Rattle.tmc_law.specs.WorkedQuery.{query_submit, request_submit, response_submit, query_log}
use Rattle.tmc_law.specs.WorkedSession.{out_submit, in_submit, unlink}
use Rattle.host_joint.specs.Lines.{Line, Lines, NoneNumbered}
use Rattle.host_joint.specs.Unlinking.{AllHeads, Rising, AreApart, IsNamed, IsBulk, Unlinking}
use Rattle.host_joint.specs.WorkedTies.{told_to, last_request}
use Rattle.host_joint.specs.Stage.{NoExec}
use Rattle.host_joint.specs.WorkedAsks.{query_asked}
use Rattle.host_joint.specs.WorkedPieces.{requested_second}
use Rattle.host_joint.specs.WorkedLines.{none_asked, one_asked}

-- the lists of a query, one submit after the other
abbrev pub query_one : Endpoint → List SubmitHead
query_one Control = []
query_one BulkOut = query_submit ∷ []
query_one BulkIn = []
query_one InterruptIn = []

abbrev pub query_two : Endpoint → List SubmitHead
query_two Control = []
query_two BulkOut = query_submit ∷ request_submit ∷ []
query_two BulkIn = []
query_two InterruptIn = []

-- and without those that were answered
abbrev pub request_left : Endpoint → List SubmitHead
request_left Control = []
request_left BulkOut = request_submit ∷ []
request_left BulkIn = response_submit ∷ []
request_left InterruptIn = []

abbrev pub response_left : Endpoint → List SubmitHead
response_left Control = []
response_left BulkOut = []
response_left BulkIn = response_submit ∷ []
response_left InterruptIn = []

pub first_others : (e : Endpoint) → e ≢ BulkOut → query_one e ≡ none_asked e
first_others Control h = refl
first_others BulkOut h = absurd (h refl)
first_others BulkIn h = refl
first_others InterruptIn h = refl

pub second_others : (e : Endpoint) → e ≢ BulkOut → query_two e ≡ query_one e
second_others Control h = refl
second_others BulkOut h = absurd (h refl)
second_others BulkIn h = refl
second_others InterruptIn h = refl

pub third_others : (e : Endpoint) → e ≢ BulkIn → query_asked e ≡ query_two e
third_others Control h = refl
third_others BulkOut h = refl
third_others BulkIn h = absurd (h refl)
third_others InterruptIn h = refl

pub request_others : (e : Endpoint) → e ≢ BulkOut → request_left e ≡ query_asked e
request_others Control h = refl
request_others BulkOut h = absurd (h refl)
request_others BulkIn h = refl
request_others InterruptIn h = refl

pub response_others : (e : Endpoint) → e ≢ BulkOut → response_left e ≡ request_left e
response_others Control h = refl
response_others BulkOut h = absurd (h refl)
response_others BulkIn h = refl
response_others InterruptIn h = refl

pub none_others : (e : Endpoint) → e ≢ BulkIn → none_asked e ≡ response_left e
none_others Control h = refl
none_others BulkOut h = refl
none_others BulkIn h = absurd (h refl)
none_others InterruptIn h = refl

pub one_others : (e : Endpoint) → e ≢ BulkIn → one_asked e ≡ none_asked e
one_others Control h = refl
one_others BulkOut h = refl
one_others BulkIn h = absurd (h refl)
one_others InterruptIn h = refl

-- the request alone
abbrev pub request_asked : Endpoint → List SubmitHead
request_asked Control = []
request_asked BulkOut = out_submit 3 12 ∷ []
request_asked BulkIn = []
request_asked InterruptIn = []

pub request_line : (e : Endpoint) → Line e (request_asked e) (up.Submit (out_submit 3 12) last_request ∷ []) [] told_to
request_line Control = refl
request_line BulkOut = refl
request_line BulkIn = refl
request_line InterruptIn = refl

one_rises : (e : Endpoint) → Rising (request_asked e)
one_rises Control = tt
one_rises BulkOut = (tt, tt)
one_rises BulkIn = tt
one_rises InterruptIn = tt

one_apart : (d e : Endpoint) → d ≢ e → AllHeads (λ head. NoneNumbered head.seqnum (request_asked e)) (request_asked d)
one_apart Control e differ = tt
one_apart BulkIn e differ = tt
one_apart InterruptIn e differ = tt
one_apart BulkOut Control differ = (tt, tt)
one_apart BulkOut BulkOut differ = absurd (differ refl)
one_apart BulkOut BulkIn differ = (tt, tt)
one_apart BulkOut InterruptIn differ = (tt, tt)

pub request_rises : AreApart request_asked
request_rises = record { rising = one_rises; apart = one_apart }

pub none_pending : (e : Endpoint) → Line e (none_asked e) [] [] requested_second
none_pending Control = refl
none_pending BulkOut = refl
none_pending BulkIn = refl
none_pending InterruptIn = refl

pub rest_of : (head : SubmitHead) (more rest : List SubmitHead) → head ∷ more ≡ head ∷ rest → more ≡ rest
rest_of head more rest e = cc

pub forgotten : Lines query_asked [] [] [] (record start { log = query_log }) → ⊥
forgotten lines = let e : [] ≡ query_submit ∷ request_submit ∷ [] = lines.submits BulkOut in cc

-- a log with an execution under a number
pub executed : (n : ℕ) (message : List ℕ) (a b : List LogEntry) → NoExec n (a ++ entry.Exec n message ∷ b) → ⊥
executed n message [] b h = h.0 refl
executed n message (entry.Exec k m ∷ a) b h = executed n message a b h.1
executed n message (entry.Took k ∷ a) b h = executed n message a b h
executed n message (entry.Interrupt ∷ a) b h = executed n message a b h
executed n message (entry.Bare ∷ a) b h = executed n message a b h
executed n message (entry.Trigger k ∷ a) b h = executed n message a b h
executed n message (entry.Poll k ∷ a) b h = executed n message a b h
executed n message (entry.Clear ∷ a) b h = executed n message a b h
executed n message (entry.Remote k ∷ a) b h = executed n message a b h

-- the read of the second piece, and its unlink

pub read_line : (e : Endpoint) → Line e (one_asked e) (up.Submit (in_submit 6 4096) [] ∷ []) [] requested_second
read_line Control = refl
read_line BulkOut = refl
read_line BulkIn = refl
read_line InterruptIn = refl

pub unlink_line : (e : Endpoint) → Line e (one_asked e) (up.Submit (in_submit 6 4096) [] ∷ up.Unlink (unlink 7 6) ∷ []) [] requested_second
unlink_line Control = refl
unlink_line BulkOut = refl
unlink_line BulkIn = refl
unlink_line InterruptIn = refl

read_rises : (e : Endpoint) → Rising (one_asked e)
read_rises Control = tt
read_rises BulkOut = tt
read_rises BulkIn = (tt, tt)
read_rises InterruptIn = tt

read_named : (e : Endpoint) → IsBulk e → AllHeads (λ head. IsNamed (unlink 7 6 ∷ []) head.seqnum) (one_asked e)
read_named Control bulk = tt
read_named BulkOut bulk = tt
read_named BulkIn bulk = (inl refl, tt)
read_named InterruptIn bulk = tt

pub read_unlinking : Unlinking one_asked (unlink 7 6 ∷ [])
read_unlinking = record { rising = read_rises; falling = (tt, tt); named = read_named }

read_apart : (d e : Endpoint) → d ≢ e → AllHeads (λ head. NoneNumbered head.seqnum (one_asked e)) (one_asked d)
read_apart Control e differ = tt
read_apart BulkOut e differ = tt
read_apart InterruptIn e differ = tt
read_apart BulkIn Control differ = (tt, tt)
read_apart BulkIn BulkOut differ = (tt, tt)
read_apart BulkIn BulkIn differ = absurd (differ refl)
read_apart BulkIn InterruptIn differ = (tt, tt)

pub read_is_apart : AreApart one_asked
read_is_apart = record { rising = read_rises; apart = read_apart }

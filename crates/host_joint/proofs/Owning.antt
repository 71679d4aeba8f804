-- what the host has of a response, and what comes next
use Rattle.std.proofs.Common.{◌≡◌, ◌∙◌, ℕ, zero, suc, Bool, List, [], ◌∷◌, ◌++◌, length, take, drop, ◌≤◌, ◌<◌, true, refl, ap, sym, subst, append_assoc, append-nil}
use Rattle.tmc_wire.specs.Header.{in_header_bytes}
use Rattle.tmc_wire.specs.Transfer.{alignment_of}
use Rattle.instr_plain.specs.declared.log.LogEntry.{LogEntry}
use Rattle.tmc_law.specs.Run.{IsFront}
use Rattle.tmc_law.specs.State.{State, Pending}
use Rattle.tmc_law.specs.Logging.{unread}
use Rattle.tmc_law.specs.BulkIn.{piece_bytes}
use Rattle.host_joint.specs.Lines.{Sent, Event, Gives, Drops}
use Rattle.host_joint.specs.Jobs.{Job}
use Rattle.host_joint.specs.Reads as reads
use Rattle.host_joint.specs.Reads.{read_size, Answered, answer, answers, contents, AreFull, Flow, Still, Giving, Over, Torn, IsPartial, Gave, Tore, InFront, NoneOf, Front, Whole, IsHalted, InLine}
use Rattle.host_joint.specs.Stage.{Ran, Stage, Follows, Gathers, Waits, Rests, Owes, Sends, Sent as WasSent, Tears, Barred, Dropped}
use Rattle.host_joint.specs.Asking.{Ask}
use Rattle.host_joint.specs.Owned.{data_of, Owned, NothingRead, PiecesRead, PieceRead}
use Rattle.host_joint.proofs.Parts.{ask_of}

-- ---- what comes next

-- what the next answer to a read is: a full one, the last of a transfer, or one that tells of a halt
pub data NextRead (shut gone : Bool) (flow : Flow) (read : List ℕ) (event : Event) (events : List Event) (coming : List Sent) (queue : List Pending) : Type 0 where
  FullCame : (a : Answered) → event ≡ answer a → length a.bytes ≡ read_size → InLine shut gone flow (read ++ a.bytes) events coming queue
      → NextRead shut gone flow read event events coming queue
  ShortCame : (a : Answered) (bytes : List ℕ) → event ≡ answer a → length a.bytes < read_size → flow ≡ Over bytes → bytes ≡ read ++ a.bytes
      → InLine shut gone Still [] events coming queue
      → NextRead shut gone flow read event events coming queue
  HaltCame : shut ≡ true → IsHalted (event ∷ []) → InLine shut gone flow read events coming queue → NextRead shut gone flow read event events coming queue

no_event : {B : Type 0} (event : Event) (events : List Event) → event ∷ events ≡ [] → B
no_event event events e = absurd (cc)

one_event : (a b : Event) (as_ bs : List Event) → a ∷ as_ ≡ b ∷ bs → (a ≡ b) × (as_ ≡ bs)
one_event a b as_ bs e = (cc, cc)

-- of answers that tell of a halt, the first and the others
first_halted : (event : Event) (events : List Event) → IsHalted (event ∷ events) → IsHalted (event ∷ [])
first_halted (Gives head a transferred) events h = (h.0, tt)
first_halted (Drops n) events h = h

others_halted : (event : Event) (events : List Event) → IsHalted (event ∷ events) → IsHalted events
others_halted (Gives head a transferred) events h = h.1
others_halted (Drops n) events h = absurd h

-- one full answer less
less : (bytes read first rest : List ℕ) → bytes ≡ read ++ (first ++ rest) → bytes ≡ (read ++ first) ++ rest
less bytes read first rest e = e ∙ sym (append_assoc read first rest)

less_two : (bytes read first more rest : List ℕ) → bytes ≡ read ++ ((first ++ more) ++ rest) → bytes ≡ (read ++ first) ++ (more ++ rest)
less_two bytes read first more rest e = e ∙ ap (λ (l : List ℕ). read ++ l) (append_assoc first more rest) ∙ sym (append_assoc read first (more ++ rest))

pub next_read : (shut gone : Bool) (flow : Flow) (read : List ℕ) (event : Event) (events : List Event) (coming : List Sent) (queue : List Pending)
    → InLine shut gone flow read (event ∷ events) coming queue → NextRead shut gone flow read event events coming queue
next_read shut gone flow read event events coming queue (reads.Unread heads unshut still none come line are) = no_event event events come
next_read shut gone flow read event events coming queue (reads.Between bytes [] heads unshut giving full whole come line are) = no_event event events come
next_read shut gone flow read event events coming queue (reads.Between bytes (a ∷ more) heads unshut giving full whole come line are) =
    let e = one_event event (answer a) events (answers more) come in
    FullCame a e.0 full.0 (reads.Between bytes more heads unshut giving full.1 (less bytes read a.bytes (contents more) whole) e.1 line are)
next_read shut gone flow read event events coming queue (reads.Inside bytes moved packets [] first heads unshut giving full whole come counted space line are) = no_event event events come
next_read shut gone flow read event events coming queue (reads.Inside bytes moved packets (a ∷ more) first heads unshut giving full whole come counted space line are) =
    let e = one_event event (answer a) events (answers more) come in
    FullCame a e.0 full.0 (reads.Inside bytes moved packets more first heads unshut giving full.1 (less_two bytes read a.bytes (contents more) moved whole) e.1 counted space line are)
next_read shut gone flow read event events coming queue (reads.Behind bytes [] short heads unshut over full small whole come line are) =
    let e = one_event event (answer short) events [] come in
    ShortCame short bytes e.0 small over whole (reads.Unread heads unshut refl refl e.1 line are)
next_read shut gone flow read event events coming queue (reads.Behind bytes (a ∷ more) short heads unshut over full small whole come line are) =
    let e = one_event event (answer a) events (answers more ++ answer short ∷ []) come in
    FullCame a e.0 full.0 (reads.Behind bytes more short heads unshut over full.1 small (less_two bytes read a.bytes (contents more) short.bytes whole) e.1 line are)
next_read shut gone flow read event events coming queue (reads.Lost bytes lost [] was unshut giving full whole come none line) = no_event event events come
next_read shut gone flow read event events coming queue (reads.Lost bytes lost (a ∷ more) was unshut giving full whole come none line) =
    let e = one_event event (answer a) events (answers more) come in
    FullCame a e.0 full.0 (reads.Lost bytes lost more was unshut giving full.1 (less_two bytes read a.bytes (contents more) lost whole) e.1 none line)
next_read shut gone flow read event events coming queue (reads.Closed front rest shuts come infront halted line) = by front come infront
  where
    by : (f : List Event) → event ∷ events ≡ f ++ rest → InFront flow read f → NextRead shut gone flow read event events coming queue
    by f e (NoneOf still none empty) =
        let all = subst (λ (l : List Event). IsHalted l) (sym (e ∙ ap (λ (l : List Event). l ++ rest) empty)) halted in
        HaltCame shuts (first_halted event events all) (reads.Closed [] events shuts refl (NoneOf still none refl) (others_halted event events all) line)
    by f e (Front bytes lost [] partial full whole is) =
        let all = subst (λ (l : List Event). IsHalted l) (sym (e ∙ ap (λ (l : List Event). l ++ rest) is)) halted in
        HaltCame shuts (first_halted event events all) (reads.Closed [] events shuts refl (Front bytes lost [] partial full whole refl) (others_halted event events all) line)
    by f e (Front bytes lost (a ∷ more) partial full whole is) =
        let g = one_event event (answer a) events (answers more ++ rest) (e ∙ ap (λ (l : List Event). l ++ rest) is) in
        FullCame a g.0 full.0 (reads.Closed (answers more) rest shuts g.1 (Front bytes lost more partial full.1 (less_two bytes read a.bytes (contents more) lost whole) refl) halted line)
    by f e (Whole bytes [] short over full small whole is) =
        let g = one_event event (answer short) events rest (e ∙ ap (λ (l : List Event). l ++ rest) is) in
        ShortCame short bytes g.0 small over whole (reads.Closed [] rest shuts g.1 (NoneOf refl refl refl) halted line)
    by f e (Whole bytes (a ∷ more) short over full small whole is) =
        let g = one_event event (answer a) events ((answers more ++ answer short ∷ []) ++ rest) (e ∙ ap (λ (l : List Event). l ++ rest) is) in
        FullCame a g.0 full.0 (reads.Closed (answers more ++ answer short ∷ []) rest shuts g.1
        (Whole bytes more short over full.1 small (less_two bytes read a.bytes (contents more) short.bytes whole) refl) halted line)

-- ---- the bytes that were read are the first of a transfer

-- how far the flow is, and what of it the host has
pub data HasRead (flow : Flow) (read : List ℕ) : Type 0 where
  ReadNone : flow ≡ Still → read ≡ [] → HasRead flow read
  ReadGiven : (bytes rest : List ℕ) → flow ≡ Giving bytes → bytes ≡ read ++ rest → HasRead flow read
  ReadOver : (bytes rest : List ℕ) → flow ≡ Over bytes → bytes ≡ read ++ rest → HasRead flow read
  ReadTorn : (bytes rest : List ℕ) → flow ≡ Torn bytes → bytes ≡ read ++ rest → HasRead flow read

pub has_read : (shut gone : Bool) (flow : Flow) (read : List ℕ) (events : List Event) (coming : List Sent) (queue : List Pending) → InLine shut gone flow read events coming queue → HasRead flow read
has_read shut gone flow read events coming queue (reads.Unread heads unshut still none come line are) = ReadNone still none
has_read shut gone flow read events coming queue (reads.Between bytes full heads unshut giving are whole come line rs) = ReadGiven bytes (contents full) giving whole
has_read shut gone flow read events coming queue (reads.Inside bytes moved packets full first heads unshut giving are whole come counted space line rs) = ReadGiven bytes (contents full ++ moved) giving whole
has_read shut gone flow read events coming queue (reads.Behind bytes full short heads unshut over are small whole come line rs) = ReadOver bytes (contents full ++ short.bytes) over whole
has_read shut gone flow read events coming queue (reads.Lost bytes lost full was unshut giving are whole come none line) = ReadGiven bytes (contents full ++ lost) giving whole
has_read shut gone flow read events coming queue (reads.Closed front rest shuts come (NoneOf still none empty) halted line) = ReadNone still none
has_read shut gone flow read events coming queue (reads.Closed front rest shuts come (Front bytes lost full (Gave gave) are whole is) halted line) = ReadGiven bytes (contents full ++ lost) gave whole
has_read shut gone flow read events coming queue (reads.Closed front rest shuts come (Front bytes lost full (Tore tore) are whole is) halted line) = ReadTorn bytes (contents full ++ lost) tore whole
has_read shut gone flow read events coming queue (reads.Closed front rest shuts come (Whole bytes full short over are small whole is) halted line) = ReadOver bytes (contents full ++ short.bytes) over whole

-- ---- ownership

take_front : (n : ℕ) (a b : List ℕ) → IsFront (take n a) (take n (a ++ b))
take_front zero a b = (take zero (a ++ b), refl)
take_front (suc n) [] b = (take (suc n) b, refl)
take_front (suc n) (x ∷ a) b = let go = take_front n a b in (go.0, ap (λ (l : List ℕ). x ∷ l) go.1)

drop_front : (n : ℕ) (a b : List ℕ) → (rest : List ℕ) × (drop n (a ++ b) ≡ drop n a ++ rest)
drop_front zero a b = (b, refl)
drop_front (suc n) [] b = (drop (suc n) b, refl)
drop_front (suc n) (x ∷ a) b = drop_front n a b

pub take_own : (a b : List ℕ) → take (length a) (a ++ b) ≡ a
take_own [] b = refl
take_own (x ∷ a) b = ap (λ (l : List ℕ). x ∷ l) (take_own a b)

-- what was read of a piece is the first of its data
data_front : (tag : ℕ) (carried left read rest : List ℕ) → piece_bytes tag (length carried) (carried ++ left) ≡ read ++ rest → IsFront (data_of (length carried) read) carried
unfolding in_header_bytes
data_front tag carried left read rest text =
    let behind = drop_front 12 read rest in
    let front = take_front (length carried) (drop 12 read) behind.0 in
    let text_behind : take (length carried) (carried ++ left) ++ alignment_of (length carried) ≡ drop 12 read ++ behind.0 = ap (λ (l : List ℕ). drop 12 l) text ∙ behind.1 in
    let own : carried ≡ take (length carried) (drop 12 read ++ behind.0) =
    sym (take_own carried (alignment_of (length carried))) ∙ ap (λ (l : List ℕ). take (length carried) (l ++ alignment_of (length carried))) (sym (take_own carried left))
    ∙ ap (λ (l : List ℕ). take (length carried) l) text_behind in
    (front.0, own ∙ front.1)

longer : (sofar a carried rest : List ℕ) → IsFront a carried → IsFront (sofar ++ a) (sofar ++ (carried ++ rest))
longer sofar a carried rest f =
    (f.0 ++ rest, ap (λ (l : List ℕ). sofar ++ (l ++ rest)) f.1 ∙ ap (λ (l : List ℕ). sofar ++ l) (append_assoc a f.0 rest) ∙ sym (append_assoc sofar a (f.0 ++ rest)))

-- the bytes that were given of a piece
abbrev pub bytes_of : Flow → List ℕ
bytes_of Still = []
bytes_of (Giving bytes) = bytes
bytes_of (Over bytes) = bytes
bytes_of (Torn bytes) = bytes

pub read_of : (flow : Flow) (read : List ℕ) → HasRead flow read → (rest : List ℕ) × (bytes_of flow ≡ read ++ rest)
read_of flow read (ReadNone still none) = ([], ap bytes_of still ∙ sym none ∙ sym (append-nil read))
read_of flow read (ReadGiven bytes rest giving whole) = (rest, ap bytes_of giving ∙ whole)
read_of flow read (ReadOver bytes rest over whole) = (rest, ap bytes_of over ∙ whole)
read_of flow read (ReadTorn bytes rest torn whole) = (rest, ap bytes_of torn ∙ whole)

-- where nothing of a piece was given, nothing of it was read
pub none_of : (flow : Flow) (read : List ℕ) → flow ≡ Still → HasRead flow read → read ≡ []
none_of flow read still has = let own = read_of flow read has in nothing read own.0 (sym (ap bytes_of still) ∙ own.1)
  where
    nothing : (a b : List ℕ) → [] ≡ a ++ b → a ≡ []
    nothing [] b e = refl
    nothing (x ∷ a) b e = absurd (cc)

-- a piece, of which these bytes were given and these were not
front : (last : ℕ) (message : List ℕ) (tag size : ℕ) (written : List Job) (answered : ℕ) (sofar read : List ℕ) (gone : Bool) (response carried bytes behind : List ℕ) (flow : Flow) (s : State) → HasRead flow read → bytes_of flow ≡ bytes
    → Ran last message response s.log → response ≡ sofar ++ (carried ++ unread s) → (1 ≤ length carried) × (length carried ≤ size)
    → piece_bytes tag (length carried) (carried ++ unread s) ≡ bytes ++ behind → Owned (ask_of last message tag size written answered sofar read gone) s
front last message tag size written answered sofar read gone response carried bytes behind flow s has is ran all fits text =
    let own = read_of flow read has in
    let whole : piece_bytes tag (length carried) (carried ++ unread s) ≡ read ++ (own.0 ++ behind) =
    text ∙ ap (λ (l : List ℕ). l ++ behind) (sym is ∙ own.1) ∙ append_assoc read own.0 behind in
    let first = longer sofar (data_of (length carried) read) carried (unread s) (data_front tag carried (unread s) read (own.0 ++ behind) whole) in
    PieceRead response carried (own.0 ++ behind) ran all fits.0 fits.1 whole (first.0, all ∙ first.1)

pub stage_owns : (last : ℕ) (message : List ℕ) (tag size : ℕ) (written : List Job) (answered : ℕ) (sofar read : List ℕ) (gone : Bool) (past todo : List Job) (flow : Flow) (s : State) → HasRead flow read
    → Stage last message tag size past todo sofar flow s → Owned (ask_of last message tag size written answered sofar read gone) s
stage_owns last message tag size written answered sofar read gone past todo flow s has (Follows seq earlier waits other part idle none empty still carries at) = NothingRead empty (none_of flow read still has)
stage_owns last message tag size written answered sofar read gone past todo flow s has (Gathers done rest whole waits part idle none empty still carries at own) = NothingRead empty (none_of flow read still has)
stage_owns last message tag size written answered sofar read gone past todo flow s has (Waits waits part idle none empty still asks at) = NothingRead empty (none_of flow read still has)
stage_owns last message tag size written answered sofar read gone past todo flow s has (Barred shuts another part idle none empty still over at) = NothingRead empty (none_of flow read still has)
stage_owns last message tag size written answered sofar read gone past todo flow s has (Rests response waits part idle ran all still asks at further) = PiecesRead response ran all (none_of flow read still has)
stage_owns last message tag size written answered sofar read gone past todo flow s has (Owes response waits part owed ran all still none at further) = PiecesRead response ran all (none_of flow read still has)
stage_owns last message tag size written answered sofar read gone past todo flow s has (Dropped response closed waits part idle ran all still none at) = PiecesRead response ran all (none_of flow read still has)
stage_owns last message tag size written answered sofar read gone past todo flow s has (Sends response carried bytes piece waits part sends ran all giving fits text none own at) =
    front last message tag size written answered sofar read gone response carried bytes piece.left flow s has (ap bytes_of giving) ran all fits text
stage_owns last message tag size written answered sofar read gone past todo flow s has (WasSent response carried bytes waits part idle ran all over fits text none at) =
    front last message tag size written answered sofar read gone response carried bytes [] flow s has (ap bytes_of over) ran all fits (text ∙ sym (append-nil bytes))
stage_owns last message tag size written answered sofar read gone past todo flow s has (Tears response carried bytes dropped waits part idle ran all torn fits text none at) =
    front last message tag size written answered sofar read gone response carried bytes dropped flow s has (ap bytes_of torn) ran all fits text

-- it stays owned where the log and what is unread are the same
pub owned_same : (ask : Ask) (s t : State) → t.log ≡ s.log → unread t ≡ unread s → Owned ask s → Owned ask t
owned_same ask s t log same (NothingRead empty none) = NothingRead empty none
owned_same ask s t log same (PiecesRead response ran all none) =
    PiecesRead response (subst (λ (l : List LogEntry). Ran ask.last ask.message response l) (sym log) ran) (all ∙ ap (λ (l : List ℕ). ask.sofar ++ l) (sym same)) none
owned_same ask s t log same (PieceRead response carried rest ran all some fits text first) =
    PieceRead response carried rest (subst (λ (l : List LogEntry). Ran ask.last ask.message response l) (sym log) ran)
    (all ∙ ap (λ (l : List ℕ). ask.sofar ++ (carried ++ l)) (sym same)) some fits
    (ap (λ (l : List ℕ). piece_bytes ask.tag (length carried) (carried ++ l)) same ∙ text) first

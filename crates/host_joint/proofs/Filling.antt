-- packets go into the Bulk-IN submits
use Rattle.std.proofs.Common.{◌≡◌, ◌∙◌, inl, inr, ℕ, ◌+◌, ◌-◌, ◌*◌, ◌<◌, ◌≤◌, Bool, true, false, eqb, List, [], ◌∷◌, ◌++◌, length, take, refl, ap, sym, subst, append_assoc, append-nil, length-append, length-take, take_all, arith}
use Rattle.std.proofs.lemmas.Bool.{eq-eqb}
use Rattle.usbip_wire.specs.declared.submit.SubmitHead.{SubmitHead}
use Rattle.usbip_wire.specs.declared.ret_submit.RetSubmitHead.{RetSubmitHead}
use Rattle.usbip_wire.specs.declared.urb.Dir.{Dir}
use Rattle.tmc_law.specs.Endpoint.{Endpoint, BulkIn, number_of, packet_size}
use Rattle.tmc_law.specs.State.{State, Pending, Piece, Idle, Sending, Nothing, AbortsIn, arrived, room}
use Rattle.tmc_law.specs.Put.{Put, ended, success, stalled, returned}
use Rattle.tmc_law.specs.BulkIn as «in»
use Rattle.tmc_law.specs.BulkIn.{Fills, LeavesRoom, filled, given}
use Rattle.host_joint.specs.Lines.{Sent, Event, Gives, Drops, events_of}
use Rattle.host_joint.specs.Reads.{read_size, IsRead, AreReads, unfilled, filled_with, Answered, answer, answers, contents, AreFull, Flow, Still, Giving, Over, Torn, Tore, NoneOf, Front, Whole, IsHalted, gives, InLine, Unread, Between, Inside, Behind, Lost, Closed}

-- answers that are of no other endpoint
abbrev pub OnlyReads : List Put → Type 0
OnlyReads puts = (e : Endpoint) → eqb (number_of BulkIn) (number_of e) ≡ false → events_of e puts ≡ []

-- Packets of a piece were given, behind these bytes of its transfer: it goes on, or it ends.
pub data Filled (gone : Bool) (bytes : List ℕ) (piece : Piece) (read : List ℕ) (events : List Event) (coming : List Sent) (s : State) (puts : List Put) (t : State) : Type 0 where
  GoesOn : (queue : List Pending) (n : ℕ) → t ≡ record s { bulk_in = queue; side = Sending (given n piece) } → OnlyReads puts
      → InLine false gone (Giving (bytes ++ take n piece.left)) read (events ++ gives (events_of BulkIn puts)) coming queue → Filled gone bytes piece read events coming s puts t
  Ends : (queue : List Pending) → t ≡ record s { bulk_in = queue; side = Idle } → OnlyReads puts
      → InLine false gone (Over (bytes ++ piece.left)) read (events ++ gives (events_of BulkIn puts)) coming queue → Filled gone bytes piece read events coming s puts t

same : (x y : Pending) (xs ys : List Pending) → x ∷ xs ≡ y ∷ ys → (x ≡ y) × (xs ≡ ys)
same x y xs ys e = (cc, cc)

one_piece : (a b : Piece) → Sending a ≡ Sending b → a ≡ b
one_piece a b e = cc

one_flow : (a b : List ℕ) → Giving a ≡ Giving b → a ≡ b
one_flow a b e = cc

answers-more : (full : List Answered) (a : Answered) → answers (full ++ a ∷ []) ≡ answers full ++ answer a ∷ []
answers-more [] a = refl
answers-more (x ∷ full) a = ap (λ (l : List Event). answer x ∷ l) (answers-more full a)

contents-more : (full : List Answered) (a : Answered) → contents (full ++ a ∷ []) ≡ contents full ++ a.bytes
contents-more [] a = append-nil a.bytes
contents-more (x ∷ full) a = ap (λ (l : List ℕ). x.bytes ++ l) (contents-more full a) ∙ sym (append_assoc x.bytes (contents full) a.bytes)

full-more : (full : List Answered) (a : Answered) → AreFull full → length a.bytes ≡ read_size → AreFull (full ++ a ∷ [])
full-more [] a h e = (e, tt)
full-more (x ∷ full) a h e = (h.0, full-more full a h.1 e)

-- the answer to a read
event_is : (head : SubmitHead) (moved : List ℕ) → IsRead head → events_of BulkIn (ended success (filled_with head moved) ∷ []) ≡ answer (record { head = head; bytes = moved }) ∷ []
event_is head moved is =
    rw (eq-eqb head.ep 2 is.number)
    (ap (λ (d : Dir). Gives head (record { seqnum = head.seqnum; status = success; actual = length moved }) (returned d moved) ∷ []) is.way)

-- it is of no other endpoint
only_is : (head : SubmitHead) (moved : List ℕ) (puts : List Put) → IsRead head → puts ≡ ended success (filled_with head moved) ∷ [] → OnlyReads puts
only_is head moved puts is put e other =
    ap (λ (p : List Put). events_of e p) put ∙ rw (ap (λ (n : ℕ). eqb n (number_of e)) is.number ∙ other) refl

only_none : (puts : List Put) → puts ≡ [] → OnlyReads puts
only_none puts put e other = ap (λ (p : List Put). events_of e p) put

events_none : (events : List Event) (puts : List Put) → puts ≡ [] → events ++ gives (events_of BulkIn puts) ≡ events
events_none events puts put = ap (λ (p : List Put). events ++ gives (events_of BulkIn p)) put ∙ append-nil events

events_one : (events : List Event) (full : List Answered) (puts : List Put) (head : SubmitHead) (moved : List ℕ) → IsRead head → events ≡ answers full
    → puts ≡ ended success (filled_with head moved) ∷ [] → events ++ gives (events_of BulkIn puts) ≡ answers full ++ answer (record { head = head; bytes = moved }) ∷ []
events_one events full puts head moved is come put =
    ap (λ (p : List Put). events ++ gives (events_of BulkIn p)) put ∙ ap (λ (l : List Event). events ++ gives l) (event_is head moved is)
    ∙ ap (λ (l : List Event). l ++ answer (record { head = head; bytes = moved }) ∷ []) come

-- the bytes behind those that were given
three : (read full moved more : List ℕ) → (read ++ (full ++ moved)) ++ more ≡ read ++ (full ++ (moved ++ more))
three read full moved more = append_assoc read (full ++ moved) more ∙ ap (λ (l : List ℕ). read ++ l) (append_assoc full moved more)

-- packets go into a read that has these bytes, with what stands behind it known
fills_first : (gone : Bool) (s t : State) (count : ℕ) (puts : List Put) (read bytes moved : List ℕ) (packets : ℕ) (full : List Answered) (first : SubmitHead) (heads : List SubmitHead)
    (events : List Event) (coming : List Sent) (piece : Piece)
    → s.side ≡ Sending piece → s.running ≡ Nothing → AreFull full → bytes ≡ read ++ (contents full ++ moved) → events ≡ answers full
    → length moved ≡ packets * packet_size → length moved < read_size → s.bulk_in ≡ filled_with first moved ∷ unfilled heads → AreReads (first ∷ heads)
    → Fills s count puts t → Filled gone bytes piece read events coming s puts t
fills_first gone s t count puts read bytes moved packets full first heads events coming piece sends rests are whole come counted space queue reads («in».Ends submit behind n line wants one put to) =
    let e : Nothing ≡ AbortsIn true n = sym rests ∙ wants in absurd (cc)
fills_first gone s t count puts read bytes moved packets full first heads events coming piece sends rests are whole come counted space queue reads («in».Inside submit behind other line side free low within fits put to) =
    let e = same submit (filled_with first moved) behind (unfilled heads) (sym line ∙ queue) in
    let p = one_piece other piece (sym side ∙ sends) in
    let n : ℕ = count * packet_size in
    let more : List ℕ = take n piece.left in
    let size : length more ≡ n = length-take n piece.left ∙ omega (arith, within, ap (λ (x : Piece). length x.left) p) in
    GoesOn (filled_with first (moved ++ more) ∷ unfilled heads) n
    (to ∙ ap (λ (x : Piece). record s { bulk_in = filled n x submit ∷ behind; side = Sending (given n x) }) p
    ∙ ap (λ (x : Pending). record s { bulk_in = filled n piece x ∷ behind; side = Sending (given n piece) }) e.0
    ∙ ap (λ (l : List Pending). record s { bulk_in = filled_with first (moved ++ more) ∷ l; side = Sending (given n piece) }) e.1)
    (only_none puts put)
    (Inside (bytes ++ more) (moved ++ more) (packets + count) full first heads refl refl are (ap (λ (l : List ℕ). l ++ more) whole ∙ three read (contents full) moved more) (events_none events puts put ∙ come)
    (length-append moved more ∙ omega (arith, counted, size)) (omega (arith, length-append moved more, size, fits, reads.0.size, ap (λ (x : Pending). room x) e.0)) refl reads)
fills_first gone s t count puts read bytes moved packets full first heads events coming piece sends rests are whole come counted space queue reads («in».Full submit behind other line side free low within fits put to) =
    let e = same submit (filled_with first moved) behind (unfilled heads) (sym line ∙ queue) in
    let p = one_piece other piece (sym side ∙ sends) in
    let n : ℕ = count * packet_size in
    let more : List ℕ = take n piece.left in
    let size : length more ≡ n = length-take n piece.left ∙ omega (arith, within, ap (λ (x : Piece). length x.left) p) in
    let last : Answered = record { head = first; bytes = moved ++ more } in
    let is : puts ≡ ended success (filled_with first (moved ++ more)) ∷ [] =
    put ∙ ap (λ (x : Piece). ended success (filled n x submit) ∷ []) p ∙ ap (λ (x : Pending). ended success (filled n piece x) ∷ []) e.0 in
    GoesOn (unfilled heads) n
    (to ∙ ap (λ (x : Piece). record s { bulk_in = behind; side = Sending (given n x) }) p ∙ ap (λ (l : List Pending). record s { bulk_in = l; side = Sending (given n piece) }) e.1)
    (only_is first (moved ++ more) puts reads.0 is)
    (Between (bytes ++ more) (full ++ last ∷ []) heads refl refl
    (full-more full last are (length-append moved more ∙ omega (arith, size, fits, reads.0.size, space, ap (λ (x : Pending). room x) e.0)))
    (ap (λ (l : List ℕ). l ++ more) whole ∙ three read (contents full) moved more ∙ ap (λ (l : List ℕ). read ++ l) (sym (contents-more full last)))
    (events_one events full puts first (moved ++ more) reads.0 come is ∙ sym (answers-more full last)) refl reads.1)
fills_first gone s t count puts read bytes moved packets full first heads events coming piece sends rests are whole come counted space queue reads («in».Short submit behind other n line side free counts leaves within less fits put to) =
    let e = same submit (filled_with first moved) behind (unfilled heads) (sym line ∙ queue) in
    let p = one_piece other piece (sym side ∙ sends) in
    let more : List ℕ = piece.left in
    let all : take (length piece.left) piece.left ≡ piece.left = take_all (length piece.left) piece.left (omega arith) in
    let last : Answered = record { head = first; bytes = moved ++ more } in
    let is : puts ≡ ended success (filled_with first (moved ++ more)) ∷ [] =
    put ∙ ap (λ (x : Piece). ended success (filled (length x.left) x submit) ∷ []) p ∙ ap (λ (x : Pending). ended success (filled (length piece.left) piece x) ∷ []) e.0
    ∙ ap (λ (l : List ℕ). ended success (filled_with first (moved ++ l)) ∷ []) all in
    Ends (unfilled heads) (to ∙ ap (λ (l : List Pending). record s { bulk_in = l; side = Idle }) e.1)
    (only_is first (moved ++ more) puts reads.0 is)
    (Behind (bytes ++ more) full last heads refl refl are (short n leaves within less fits p e.0)
    (ap (λ (l : List ℕ). l ++ more) whole ∙ three read (contents full) moved more) (events_one events full puts first (moved ++ more) reads.0 come is) refl reads.1)
  where
    room_is : (x : Pending) → x ≡ filled_with first moved → room x ≡ read_size - length moved
    room_is x is = ap (λ (y : Pending). room y) is ∙ ap (λ (n : ℕ). n - length moved) reads.0.size

    short : (n : ℕ) → LeavesRoom n submit → n * packet_size ≤ length other.left → length other.left < count * packet_size → length other.left ≤ room submit → other ≡ piece
        → submit ≡ filled_with first moved → length (moved ++ piece.left) < read_size
    short n (inl none) within less fits p is = omega (arith, length-append moved piece.left, counted, space, none, counts, within, less, fits, ap (λ (x : Piece). length x.left) p, room_is submit is)
    short n (inr some) within less fits p is = omega (arith, length-append moved piece.left, counted, space, some, counts, within, less, fits, ap (λ (x : Piece). length x.left) p, room_is submit is)
fills_first gone s t count puts read bytes moved packets full first heads events coming piece sends rests are whole come counted space queue reads («in».Overflows submit behind other n line side free counts leaves within over put to) =
    let e = same submit (filled_with first moved) behind (unfilled heads) (sym line ∙ queue) in
    absurd (fits leaves (ap (λ (y : Pending). room y) e.0 ∙ ap (λ (n : ℕ). n - length moved) reads.0.size))
  where
    fits : LeavesRoom n submit → room submit ≡ read_size - length moved → ⊥
    fits (inl none) is = omega (arith, counted, space, none, over, is)
    fits (inr some) is = omega (arith, counted, space, some, over, is)

no_first : (s t : State) (count : ℕ) (puts : List Put) → s.bulk_in ≡ [] → Fills s count puts t → ⊥
no_first s t count puts none («in».Ends submit behind n line a b c d) = let e : [] ≡ submit ∷ behind = sym none ∙ line in cc
no_first s t count puts none («in».Inside submit behind other line a b c d f g h) = let e : [] ≡ submit ∷ behind = sym none ∙ line in cc
no_first s t count puts none («in».Full submit behind other line a b c d f g h) = let e : [] ≡ submit ∷ behind = sym none ∙ line in cc
no_first s t count puts none («in».Short submit behind other n line a b c d f g h i j) = let e : [] ≡ submit ∷ behind = sym none ∙ line in cc
no_first s t count puts none («in».Overflows submit behind other n line a b c d f g h i) = let e : [] ≡ submit ∷ behind = sym none ∙ line in cc

pub fill_goes : (shut gone : Bool) (s t : State) (count : ℕ) (puts : List Put) (read bytes : List ℕ) (events : List Event) (coming : List Sent) (piece : Piece) → s.side ≡ Sending piece → s.running ≡ Nothing
    → InLine shut gone (Giving bytes) read events coming s.bulk_in → Fills s count puts t → (shut ≡ false) × Filled gone bytes piece read events coming s puts t
fill_goes shut gone s t count puts read bytes events coming piece sends rests (Unread heads unshut flow none come queue reads) fills = absurd (cc)
fill_goes shut gone s t count puts read bytes events coming piece sends rests (Behind all full short heads unshut flow are size whole come queue reads) fills = absurd (cc)
fill_goes shut gone s t count puts read bytes events coming piece sends rests (Between all full [] unshut flow are whole come queue reads) fills = absurd (no_first s t count puts queue fills)
fill_goes shut gone s t count puts read bytes events coming piece sends rests (Between all full (first ∷ heads) unshut flow are whole come queue reads) fills = (
  unshut,
  fills_first gone s t count puts read bytes [] 0 full first heads events coming piece sends rests are
      (one_flow bytes all flow ∙ whole ∙ ap (λ (l : List ℕ). read ++ l) (sym (append-nil (contents full)))) come refl (omega arith) queue reads fills,
)
fill_goes shut gone s t count puts read bytes events coming piece sends rests (Inside all moved packets full first heads unshut flow are whole come counted space queue reads) fills =
    (unshut, fills_first gone s t count puts read bytes moved packets full first heads events coming piece sends rests are (one_flow bytes all flow ∙ whole) come counted space queue reads fills)
fill_goes shut gone s t count puts read bytes events coming piece sends rests (Lost all lost full was unshut flow are whole come none queue) fills = absurd (no_first s t count puts queue fills)
fill_goes shut gone s t count puts read bytes events coming piece sends rests (Closed front rest shuts come infront halted queue) fills = absurd (no_first s t count puts queue fills)

unfilled-more : (heads : List SubmitHead) (head : SubmitHead) → unfilled (heads ++ head ∷ []) ≡ unfilled heads ++ arrived head [] ∷ []
unfilled-more [] head = refl
unfilled-more (h ∷ heads) head = ap (λ (l : List Pending). arrived h [] ∷ l) (unfilled-more heads head)

reads-more : (heads : List SubmitHead) (head : SubmitHead) → IsRead head → AreReads heads → AreReads (heads ++ head ∷ [])
reads-more [] head is h = (is, tt)
reads-more (x ∷ heads) head is h = (h.0, reads-more heads head is h.1)

not_both : {B : Type 0} (b : Bool) → b ≡ false → b ≡ true → B
not_both b open_is shut_is = let e : false ≡ true = sym open_is ∙ shut_is in absurd (cc)

no_sent : {B : Type 0} (x : Sent) (coming : List Sent) → x ∷ coming ≡ [] → B
no_sent x coming e = absurd (cc)

-- a read arrives
pub read_comes : (shut gone : Bool) (flow : Flow) (read : List ℕ) (events : List Event) (x : Sent) (coming : List Sent) (queue : List Pending) (head : SubmitHead) → shut ≡ false → IsRead head
    → InLine shut gone flow read events (x ∷ coming) queue → InLine shut gone flow read events coming (queue ++ arrived head [] ∷ [])
read_comes shut gone flow read events x coming queue head usable is (Unread heads unshut still none come line reads) =
    Unread (heads ++ head ∷ []) unshut still none come (ap (λ (q : List Pending). q ++ arrived head [] ∷ []) line ∙ sym (unfilled-more heads head)) (reads-more heads head is reads)
read_comes shut gone flow read events x coming queue head usable is (Between bytes full heads unshut giving are whole come line reads) =
    Between bytes full (heads ++ head ∷ []) unshut giving are whole come (ap (λ (q : List Pending). q ++ arrived head [] ∷ []) line ∙ sym (unfilled-more heads head)) (reads-more heads head is reads)
read_comes shut gone flow read events x coming queue head usable is (Inside bytes moved packets full first heads unshut giving are whole come counted space line reads) =
    Inside bytes moved packets full first (heads ++ head ∷ []) unshut giving are whole come counted space
    (ap (λ (q : List Pending). q ++ arrived head [] ∷ []) line ∙ ap (λ (l : List Pending). filled_with first moved ∷ l) (sym (unfilled-more heads head))) (reads.0, reads-more heads head is reads.1)
read_comes shut gone flow read events x coming queue head usable is (Behind bytes full short heads unshut over are size whole come line reads) =
    Behind bytes full short (heads ++ head ∷ []) unshut over are size whole come (ap (λ (q : List Pending). q ++ arrived head [] ∷ []) line ∙ sym (unfilled-more heads head)) (reads-more heads head is reads)
read_comes shut gone flow read events x coming queue head usable is (Lost bytes lost full was unshut giving are whole come none line) = no_sent x coming none
read_comes shut gone flow read events x coming queue head usable is (Closed front rest shuts come infront halted line) = not_both shut usable shuts

-- one arrives where Bulk-IN is halted, and is answered at once
halted-more : (rest : List Event) (head : SubmitHead) (answer : RetSubmitHead) (transferred : List ℕ) → answer.status ≡ stalled → IsHalted rest → IsHalted (rest ++ Gives head answer transferred ∷ [])
halted-more [] head answer transferred is h = (is, tt)
halted-more (Gives h a t ∷ rest) head answer transferred is halted = (halted.0, halted-more rest head answer transferred is halted.1)
halted-more (Drops n ∷ rest) head answer transferred is halted = halted

pub read_turned : (shut gone : Bool) (flow : Flow) (read : List ℕ) (events : List Event) (x : Sent) (coming : List Sent) (queue : List Pending) (head : SubmitHead) (answer : RetSubmitHead) (transferred : List ℕ)
    → shut ≡ true → answer.status ≡ stalled → InLine shut gone flow read events (x ∷ coming) queue → InLine shut gone flow read (events ++ Gives head answer transferred ∷ []) coming queue
read_turned shut gone flow read events x coming queue head answer transferred halts is (Unread heads unshut still none come line reads) = not_both shut unshut halts
read_turned shut gone flow read events x coming queue head answer transferred halts is (Between bytes full heads unshut giving are whole come line reads) = not_both shut unshut halts
read_turned shut gone flow read events x coming queue head answer transferred halts is (Inside bytes moved packets full first heads unshut giving are whole come counted space line reads) = not_both shut unshut halts
read_turned shut gone flow read events x coming queue head answer transferred halts is (Behind bytes full short heads unshut over are size whole come line reads) = not_both shut unshut halts
read_turned shut gone flow read events x coming queue head answer transferred halts is (Lost bytes lost full was unshut giving are whole come none line) = not_both shut unshut halts
read_turned shut gone flow read events x coming queue head answer transferred halts is (Closed front rest shuts come infront halted line) =
    Closed front (rest ++ Gives head answer transferred ∷ []) shuts (ap (λ (l : List Event). l ++ Gives head answer transferred ∷ []) come ∙ append_assoc front rest (Gives head answer transferred ∷ []))
    infront (halted-more rest head answer transferred is halted) line

-- ---- Bulk-IN halts

-- the transfer of a halt is torn, where it is not over
abbrev pub torn : Flow → Flow
torn Still = Still
torn (Giving bytes) = Torn bytes
torn (Over bytes) = Over bytes
torn (Torn bytes) = Torn bytes

pub in_halts : (shut gone : Bool) (flow : Flow) (read : List ℕ) (events rest : List Event) (coming : List Sent) (queue : List Pending) → IsHalted rest
    → shut ≡ false → InLine shut gone flow read events coming queue → InLine true gone (torn flow) read (events ++ rest) coming []
in_halts shut gone flow read events rest coming queue halted usable (Unread heads unshut still none come line reads) =
    Closed events rest refl refl (NoneOf (ap torn still) none come) halted refl
in_halts shut gone flow read events rest coming queue halted usable (Between bytes full heads unshut giving are whole come line reads) =
    Closed events rest refl refl (Front bytes [] full (Tore (ap torn giving)) are (whole ∙ ap (λ (l : List ℕ). read ++ l) (sym (append-nil (contents full)))) come) halted refl
in_halts shut gone flow read events rest coming queue halted usable (Inside bytes moved packets full first heads unshut giving are whole come counted space line reads) =
    Closed events rest refl refl (Front bytes moved full (Tore (ap torn giving)) are whole come) halted refl
in_halts shut gone flow read events rest coming queue halted usable (Behind bytes full short heads unshut over are size whole come line reads) =
    Closed events rest refl refl (Whole bytes full short (ap torn over) are size whole come) halted refl
in_halts shut gone flow read events rest coming queue halted usable (Lost bytes lost full was unshut giving are whole come none line) =
    Closed events rest refl refl (Front bytes lost full (Tore (ap torn giving)) are whole come) halted refl
in_halts shut gone flow read events rest coming queue halted usable (Closed front other shuts come infront before line) = not_both shut usable shuts

-- ---- an unlink hits the last pending read

last_pending : (a b : List Pending) (x y : Pending) → a ++ x ∷ [] ≡ b ++ y ∷ [] → (a ≡ b) × (x ≡ y)
last_pending [] [] x y e = (refl, cc)
last_pending [] (z ∷ []) x y e = absurd (cc)
last_pending [] (z ∷ w ∷ b) x y e = absurd (cc)
last_pending (z ∷ []) [] x y e = absurd (cc)
last_pending (z ∷ w ∷ a) [] x y e = absurd (cc)
last_pending (z ∷ a) (w ∷ b) x y e =
    let rest : a ++ x ∷ [] ≡ b ++ y ∷ [] = cc in let first : z ≡ w = cc in let go = last_pending a b x y rest in
    (ap (λ (p : Pending). p ∷ a) first ∙ ap (λ (l : List Pending). w ∷ l) go.0, go.1)

data Ended (heads : List SubmitHead) : Type 0 where
  NoneEnds : heads ≡ [] → Ended heads
  LastEnds : (front : List SubmitHead) (head : SubmitHead) → heads ≡ front ++ head ∷ [] → Ended heads

ended_of : (heads : List SubmitHead) → Ended heads
ended_of [] = NoneEnds refl
ended_of (head ∷ heads) = by (ended_of heads)
  where
    by : Ended heads → Ended (head ∷ heads)
    by (NoneEnds none) = LastEnds [] head (ap (λ (l : List SubmitHead). head ∷ l) none)
    by (LastEnds front last is) = LastEnds (head ∷ front) last (ap (λ (l : List SubmitHead). head ∷ l) is)

reads_front : (front : List SubmitHead) (head : SubmitHead) → AreReads (front ++ head ∷ []) → AreReads front
reads_front [] head h = tt
reads_front (x ∷ front) head h = (h.0, reads_front front head h.1)

no_last : {B : Type 0} (before : List Pending) (submit : Pending) → [] ≡ before ++ submit ∷ [] → B
no_last [] submit e = absurd (cc)
no_last (x ∷ before) submit e = absurd (cc)

-- the pending reads without the last
shorter : {B : Type 0} (before queue : List Pending) (submit : Pending) (heads : List SubmitHead) → queue ≡ before ++ submit ∷ [] → queue ≡ unfilled heads → AreReads heads
    → ((front : List SubmitHead) → before ≡ unfilled front → AreReads front → B) → B
shorter {B} before queue submit heads last line reads with_front = by (ended_of heads)
  where
    by : Ended heads → B
    by (NoneEnds none) = no_last before submit (sym (line ∙ ap unfilled none) ∙ last)
    by (LastEnds front head ends) =
        with_front front (last_pending before (unfilled front) submit (arrived head []) (sym last ∙ line ∙ ap unfilled ends ∙ unfilled-more front head)).0
        (reads_front front head (subst (λ (l : List SubmitHead). AreReads l) ends reads))

pub read_hit : (shut gone : Bool) (flow : Flow) (read : List ℕ) (events : List Event) (coming : List Sent) (before queue : List Pending) (submit : Pending) → gone ≡ true → coming ≡ [] → queue ≡ before ++ submit ∷ []
    → InLine shut gone flow read events coming queue → InLine shut gone flow read events coming before
read_hit shut gone flow read events coming before queue submit was_gone nothing last (Unread heads unshut still none come line reads) =
    shorter before queue submit heads last line reads (λ front is are. Unread front unshut still none come is are)
read_hit shut gone flow read events coming before queue submit was_gone nothing last (Between bytes full heads unshut giving are whole come line reads) =
    shorter before queue submit heads last line reads (λ front is rest. Between bytes full front unshut giving are whole come is rest)
read_hit shut gone flow read events coming before queue submit was_gone nothing last (Behind bytes full short heads unshut over are size whole come line reads) =
    shorter before queue submit heads last line reads (λ front is rest. Behind bytes full short front unshut over are size whole come is rest)
read_hit shut gone flow read events coming before queue submit was_gone nothing last (Inside bytes moved packets full first heads unshut giving are whole come counted space line reads) = by (ended_of heads)
  where
    by : Ended heads → InLine shut gone flow read events coming before
    by (NoneEnds none) =
        let e = last_pending before [] submit (filled_with first moved) (sym last ∙ line ∙ ap (λ (l : List SubmitHead). filled_with first moved ∷ unfilled l) none) in
        Lost bytes moved full was_gone unshut giving are whole come nothing e.0
    by (LastEnds front head ends) =
        let e = last_pending before (filled_with first moved ∷ unfilled front) submit (arrived head [])
        (sym last ∙ line ∙ ap (λ (l : List SubmitHead). filled_with first moved ∷ unfilled l) ends ∙ ap (λ (l : List Pending). filled_with first moved ∷ l) (unfilled-more front head)) in
        Inside bytes moved packets full first front unshut giving are whole come counted space e.0 (reads.0, reads_front front head (subst (λ (l : List SubmitHead). AreReads l) ends reads.1))
read_hit shut gone flow read events coming before queue submit was_gone nothing last (Lost bytes lost full was unshut giving are whole come none line) = no_last before submit (sym line ∙ last)
read_hit shut gone flow read events coming before queue submit was_gone nothing last (Closed front rest shuts come infront halted line) = no_last before submit (sym line ∙ last)

-- a read is written, where nothing was unlinked
pub read_writes : (shut gone : Bool) (flow : Flow) (read : List ℕ) (events : List Event) (coming more : List Sent) (queue : List Pending) → gone ≡ false
    → InLine shut gone flow read events coming queue → InLine shut gone flow read events (coming ++ more) queue
read_writes shut gone flow read events coming more queue kept (Unread heads unshut still none come line reads) = Unread heads unshut still none come line reads
read_writes shut gone flow read events coming more queue kept (Between bytes full heads unshut giving are whole come line reads) = Between bytes full heads unshut giving are whole come line reads
read_writes shut gone flow read events coming more queue kept (Inside bytes moved packets full first heads unshut giving are whole come counted space line reads) =
    Inside bytes moved packets full first heads unshut giving are whole come counted space line reads
read_writes shut gone flow read events coming more queue kept (Behind bytes full short heads unshut over are size whole come line reads) = Behind bytes full short heads unshut over are size whole come line reads
read_writes shut gone flow read events coming more queue kept (Lost bytes lost full was unshut giving are whole come none line) = let e : false ≡ true = sym kept ∙ was in absurd (cc)
read_writes shut gone flow read events coming more queue kept (Closed front rest shuts come infront halted line) = Closed front rest shuts come infront halted line

-- unlinks are written
pub line_goes : (shut gone : Bool) (flow : Flow) (read : List ℕ) (events : List Event) (coming : List Sent) (queue : List Pending) → InLine shut gone flow read events coming queue
    → InLine shut true flow read events coming queue
line_goes shut gone flow read events coming queue (Unread heads unshut still none come line reads) = Unread heads unshut still none come line reads
line_goes shut gone flow read events coming queue (Between bytes full heads unshut giving are whole come line reads) = Between bytes full heads unshut giving are whole come line reads
line_goes shut gone flow read events coming queue (Inside bytes moved packets full first heads unshut giving are whole come counted space line reads) =
    Inside bytes moved packets full first heads unshut giving are whole come counted space line reads
line_goes shut gone flow read events coming queue (Behind bytes full short heads unshut over are size whole come line reads) = Behind bytes full short heads unshut over are size whole come line reads
line_goes shut gone flow read events coming queue (Lost bytes lost full was unshut giving are whole come none line) = Lost bytes lost full refl unshut giving are whole come none line
line_goes shut gone flow read events coming queue (Closed front rest shuts come infront halted line) = Closed front rest shuts come infront halted line

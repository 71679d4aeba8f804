-- each step is a flow: what it answers are the first submits, and what is left is what is pending behind it
use Rattle.std.proofs.Common.{◌≡◌, ◌∙◌, ◌⊎◌, inl, inr, ℕ, Bool, true, false, cond, eqb, List, [], ◌∷◌, ◌++◌, refl, ap, sym, subst, append_assoc, append-nil}
use Rattle.std.proofs.lemmas.Bool.{eq-eqb, ne_eqb}
use Rattle.usbip_wire.specs.declared.submit.SubmitHead.{SubmitHead}
use Rattle.usbip_wire.specs.declared.unlink.UnlinkHead.{UnlinkHead}
use Rattle.usbip_wire.specs.Up as up
use Rattle.tmc_law.specs.Endpoint.{Endpoint, number_of}
use Rattle.tmc_law.specs.State.{State, Pending, arrived, queue_of, with_queue, pending, Avoids, is_halted, start}
use Rattle.tmc_law.specs.Put.{Put, Submitted, Unlinked, answer_of, stalled}
use Rattle.tmc_law.specs.Queues.{Arrives, Queued, TurnedAway}
use Rattle.tmc_law.specs.Step.{Move, Comes, Steps}
use Rattle.tmc_law.specs.Run.{Entry, Runs, taken, inputs, outputs}
use Rattle.tmc_law.specs.Reached.{AllFit, HaltsAreEmpty}
use Rattle.tmc_law.specs.Acts.{Acts, Done, Replies, Changes, Hit, Miss, Does, Arriving, Acting, IsArrival, unlinks_of}
use Rattle.host_joint.specs.Lines.{sent_to, sent_heads, heads, Event, Gives, Drops, events_of, without, LeftBy, NoneNumbered, unlinks_in, unlinked_by, InOrder, Lines, EmptyLine, Fitting, AllFitting, Sent}
use Rattle.host_joint.proofs.Queues.{Each, each-with, same_queue, queue-with, Apart, which, avoids_queue}

-- ---- lists

pub heads-append : (a b : List Pending) → heads (a ++ b) ≡ heads a ++ heads b
heads-append [] b = refl
heads-append (x ∷ a) b = ap (λ (l : List SubmitHead). x.head ∷ l) (heads-append a b)

pub events-append : (e : Endpoint) (a b : List Put) → events_of e (a ++ b) ≡ events_of e a ++ events_of e b
events-append e [] b = refl
events-append e (Submitted asked answer transferred ∷ a) b = by (eqb asked.ep (number_of e)) (events-append e a b)
  where
    by : (c : Bool) → events_of e (a ++ b) ≡ events_of e a ++ events_of e b
        → cond c (Gives asked answer transferred ∷ events_of e (a ++ b)) (events_of e (a ++ b)) ≡ cond c (Gives asked answer transferred ∷ events_of e a) (events_of e a) ++ events_of e b
    by true h = ap (λ (l : List Event). Gives asked answer transferred ∷ l) h
    by false h = h
events-append e (Unlinked asked answer ∷ a) b = ap (λ (l : List Event). Drops asked.target ∷ l) (events-append e a b)

pub unlinked-append : (a b : List Put) → unlinked_by (a ++ b) ≡ unlinked_by a ++ unlinked_by b
unlinked-append [] b = refl
unlinked-append (Submitted asked answer transferred ∷ a) b = unlinked-append a b
unlinked-append (Unlinked asked answer ∷ a) b = ap (λ (l : List UnlinkHead). asked ∷ l) (unlinked-append a b)

pub left-append : (asked mid left : List SubmitHead) (a b : List Event) → LeftBy asked a mid → LeftBy mid b left → LeftBy asked (a ++ b) left
left-append asked mid left [] b h k = subst (λ (l : List SubmitHead). LeftBy l b left) h k
left-append asked mid left (Gives head answer transferred ∷ a) b h k = (h.0, h.1, left-append h.0 mid left a b h.2 k)
left-append asked mid left (Drops n ∷ a) b h k = left-append (without n asked) mid left a b h k

pub without-append : (n : ℕ) (a b : List SubmitHead) → without n (a ++ b) ≡ without n a ++ without n b
without-append n [] b = refl
without-append n (x ∷ a) b = by (eqb x.seqnum n) (without-append n a b)
  where
    by : (c : Bool) → without n (a ++ b) ≡ without n a ++ without n b → cond c (without n (a ++ b)) (x ∷ without n (a ++ b)) ≡ cond c (without n a) (x ∷ without n a) ++ without n b
    by true h = h
    by false h = ap (λ (l : List SubmitHead). x ∷ l) h

without_none : (n : ℕ) (a : List SubmitHead) → NoneNumbered n a → without n a ≡ a
without_none n [] h = refl
without_none n (x ∷ a) h = rw (ne_eqb x.seqnum n h.0) (ap (λ (l : List SubmitHead). x ∷ l) (without_none n a h.1))

without_first : (x : SubmitHead) (n : ℕ) (a : List SubmitHead) → x.seqnum ≡ n → without n (x ∷ a) ≡ without n a
without_first x n a is = rw (eq-eqb x.seqnum n is) refl

avoids_has : (n : ℕ) (queue : List Pending) → Avoids n queue → NoneNumbered n (heads queue)
avoids_has n [] h = tt
avoids_has n (x ∷ queue) h = (h.0, avoids_has n queue h.1)

none-append : (n : ℕ) (a b : List SubmitHead) → NoneNumbered n a → NoneNumbered n b → NoneNumbered n (a ++ b)
none-append n [] b h k = k
none-append n (x ∷ a) b h k = (h.0, none-append n a b h.1 k)

-- ---- the submits of a queue name its endpoint

abbrev Named : Endpoint → List Pending → Type 0
Named e [] = Unit {0}
Named e (submit ∷ queue) = (submit.head.ep ≡ number_of e) × Named e queue

named_fit : (e : Endpoint) (queue : List Pending) → AllFit e queue → Named e queue
named_fit e [] h = tt
named_fit e (submit ∷ queue) h = (h.0.number, named_fit e queue h.1)

named_without : (e : Endpoint) (before : List Pending) (submit : Pending) (behind : List Pending) → Named e (before ++ submit ∷ behind) → Named e (before ++ behind)
named_without e [] submit behind h = h.1
named_without e (first ∷ before) submit behind h = (h.0, named_without e before submit behind h.1)

named_here : (e : Endpoint) (s : State) (queue : List Pending) → Each Named s → queue_of e s ≡ queue → Named e queue
named_here e s queue h is = subst (λ (q : List Pending). Named e q) is (h e)

-- ---- acts

-- the targets of unlinks are none of these
abbrev NoTargets : List UnlinkHead → List SubmitHead → Type 0
NoTargets [] more = Unit {0}
NoTargets (head ∷ unlinks) more = NoneNumbered head.target more × NoTargets unlinks more

abbrev line : Endpoint → State → List SubmitHead → List SubmitHead
line e s more = heads (queue_of e s) ++ more

-- an answer of an endpoint's first submit
reply : (e d : Endpoint) (s : State) (submit : Pending) (behind : List Pending) (answer : _) (transferred : List ℕ) (puts : List Put) (more left : List SubmitHead)
    → queue_of d s ≡ submit ∷ behind → submit.head.ep ≡ number_of d → LeftBy (line e (with_queue d behind s) more) (events_of e puts) left
    → LeftBy (line e s more) (events_of e (Submitted submit.head answer transferred ∷ puts)) left
reply e d s submit behind answer transferred puts more left queue number h = by (which d e)
  where
    by : (d ≡ e) ⊎ Apart d e → LeftBy (line e s more) (events_of e (Submitted submit.head answer transferred ∷ puts)) left
    by (inl same) =
        let is : eqb submit.head.ep (number_of e) ≡ true = eq-eqb _ _ (number ∙ ap number_of same) in
        let here : queue_of e s ≡ submit ∷ behind = subst (λ (x : Endpoint). queue_of x s ≡ submit ∷ behind) same queue in
        let after : queue_of e (with_queue d behind s) ≡ behind = subst (λ (x : Endpoint). queue_of x (with_queue d behind s) ≡ behind) same (queue-with d behind s) in
        rw is (heads behind ++ more, ap (λ (q : List Pending). heads q ++ more) here, subst (λ (q : List Pending). LeftBy (heads q ++ more) (events_of e puts) left) after h)
    by (inr apart) =
        let is : eqb submit.head.ep (number_of e) ≡ false = ap (λ (n : ℕ). eqb n (number_of e)) number ∙ apart.number in
        rw is (subst (λ (q : List Pending). LeftBy (heads q ++ more) (events_of e puts) left) (apart.queue behind s) h)

-- a submit leaves the queue, and the answer to its unlink says so
hit : (e d : Endpoint) (s : State) (n : ℕ) (before : List Pending) (submit : Pending) (behind : List Pending) (more : List SubmitHead)
    → queue_of d s ≡ before ++ submit ∷ behind → submit.head.seqnum ≡ n → Avoids n (pending (with_queue d (before ++ behind) s)) → NoneNumbered n more
    → without n (line e s more) ≡ line e (with_queue d (before ++ behind) s) more
hit e d s n before submit behind more queue target free apart = by (which d e)
  where
    t : State
    t = with_queue d (before ++ behind) s

    rest : without n (line e t more) ≡ line e t more
    rest = without_none n (line e t more) (none-append n (heads (queue_of e t)) more (avoids_has n (queue_of e t) (avoids_queue n t free e)) apart)

    by : (d ≡ e) ⊎ Apart d e → without n (line e s more) ≡ line e t more
    by (inl same) =
        let here : queue_of e s ≡ before ++ submit ∷ behind = subst (λ (x : Endpoint). queue_of x s ≡ before ++ submit ∷ behind) same queue in
        let after : queue_of e t ≡ before ++ behind = subst (λ (x : Endpoint). queue_of x t ≡ before ++ behind) same (queue-with d (before ++ behind) s) in
        ap (λ (q : List Pending). without n (heads q ++ more)) here ∙ dropped ∙ ap (λ (q : List Pending). without n (heads q ++ more)) (sym after) ∙ rest
      where
        dropped : without n (heads (before ++ submit ∷ behind) ++ more) ≡ without n (heads (before ++ behind) ++ more)
        dropped =
            without-append n (heads (before ++ submit ∷ behind)) more
            ∙ ap (λ (l : List SubmitHead). l ++ without n more)
            (ap (λ (l : List SubmitHead). without n l) (heads-append before (submit ∷ behind)) ∙ without-append n (heads before) (submit.head ∷ heads behind)
            ∙ ap (λ (l : List SubmitHead). without n (heads before) ++ l) (without_first submit.head n (heads behind) target)
            ∙ sym (without-append n (heads before) (heads behind)) ∙ ap (λ (l : List SubmitHead). without n l) (sym (heads-append before behind)))
            ∙ sym (without-append n (heads (before ++ behind)) more)
    by (inr apart) = ap (λ (q : List Pending). without n (heads q ++ more)) (sym (apart.queue (before ++ behind) s)) ∙ rest

pub acts_flow : (e : Endpoint) (more : List SubmitHead) (t s : State) (unlinks : List UnlinkHead) (puts : List Put) → Acts t s unlinks puts → Each Named s → NoTargets unlinks more
    → LeftBy (line e s more) (events_of e puts) (line e t more)
acts_flow e more t s _ _ (Done _ same) named apart = ap (λ (q : List Pending). heads q ++ more) (same_queue e s t same)
acts_flow e more t s _ _ (Replies _ us puts d submit behind status moved queue ok within rest) named apart =
    let here = named_here d s (submit ∷ behind) named queue in
    reply e d s submit behind _ _ puts more (line e t more) queue here.0
    (acts_flow e more t (with_queue d behind s) us puts rest (each-with Named d behind s named here.1) apart)
acts_flow e more t s _ _ (Changes _ us puts d submit later behind queue changed rest) named apart =
    let here = named_here d s (submit ∷ behind) named queue in
    let go = acts_flow e more t (with_queue d (later ∷ behind) s) us puts rest (each-with Named d (later ∷ behind) s named (ap (λ (h : SubmitHead). h.ep) changed.head ∙ here.0, here.1)) apart in
    subst (λ (l : List SubmitHead). LeftBy l (events_of e puts) (line e t more)) (by (which d e)) go
  where
    by : (d ≡ e) ⊎ Apart d e → line e (with_queue d (later ∷ behind) s) more ≡ line e s more
    by (inl same) =
        ap (λ (q : List Pending). heads q ++ more) (subst (λ (x : Endpoint). queue_of x (with_queue d (later ∷ behind) s) ≡ later ∷ behind) same (queue-with d (later ∷ behind) s))
        ∙ ap (λ (h : SubmitHead). h ∷ (heads behind ++ more)) changed.head
        ∙ ap (λ (q : List Pending). heads q ++ more) (sym (subst (λ (x : Endpoint). queue_of x s ≡ submit ∷ behind) same queue))
    by (inr apart) = ap (λ (q : List Pending). heads q ++ more) (apart.queue (later ∷ behind) s)
acts_flow e more t s _ _ (Hit _ us puts head d before submit behind queue target free rest) named apart =
    let here = named_here d s (before ++ submit ∷ behind) named queue in
    subst (λ (l : List SubmitHead). LeftBy l (events_of e puts) (line e t more)) (sym (hit e d s head.target before submit behind more queue target free apart.0))
    (acts_flow e more t (with_queue d (before ++ behind) s) us puts rest (each-with Named d (before ++ behind) s named (named_without d before submit behind here)) apart.1)
acts_flow e more t s _ _ (Miss _ us puts head free rest) named apart =
    subst (λ (l : List SubmitHead). LeftBy l (events_of e puts) (line e t more))
    (sym (without_none head.target (line e s more) (none-append head.target (heads (queue_of e s)) more (avoids_has head.target (queue_of e s) (avoids_queue head.target s free e)) apart.0)))
    (acts_flow e more t s us puts rest named apart.1)

pub acts_unlink : (t s : State) (unlinks : List UnlinkHead) (puts : List Put) → Acts t s unlinks puts → unlinked_by puts ≡ unlinks
acts_unlink t s _ _ (Done _ same) = refl
acts_unlink t s _ _ (Replies _ us puts d submit behind status moved queue ok within rest) = acts_unlink t _ us puts rest
acts_unlink t s _ _ (Changes _ us puts d submit later behind queue changed rest) = acts_unlink t _ us puts rest
acts_unlink t s _ _ (Hit _ us puts head d before submit behind queue target free rest) = ap (λ (l : List UnlinkHead). head ∷ l) (acts_unlink t _ us puts rest)
acts_unlink t s _ _ (Miss _ us puts head free rest) = ap (λ (l : List UnlinkHead). head ∷ l) (acts_unlink t s us puts rest)

-- ---- arrivals

named_all : (s : State) → ((e : Endpoint) → AllFit e (queue_of e s)) → Each Named s
named_all s sound e = named_fit e (queue_of e s) (sound e)

-- a submit arrives: it stands behind what is pending, or is answered at once
arrival : (e : Endpoint) (s t : State) (head : SubmitHead) (transferred : List ℕ) (puts : List Put) (ups : List up.Message) → HaltsAreEmpty s → Fitting head
    → Arrives s head transferred puts t
    → LeftBy (line e s (sent_heads (sent_to e (up.Submit head transferred ∷ ups)))) (events_of e puts) (line e t (sent_heads (sent_to e ups)))
arrival e s t head transferred puts ups empty fits (Queued d taken put is) =
    subst (λ (p : List Put). LeftBy (line e s (sent_heads (sent_to e (up.Submit head transferred ∷ ups)))) (events_of e p) (line e t (sent_heads (sent_to e ups)))) (sym put)
    (subst (λ (x : State). line e x (sent_heads (sent_to e ups)) ≡ line e s (sent_heads (sent_to e (up.Submit head transferred ∷ ups)))) (sym is) (by (which d e)))
  where
    more : List SubmitHead
    more = sent_heads (sent_to e ups)

    last : Pending
    last = arrived head transferred

    by : (d ≡ e) ⊎ Apart d e → line e (with_queue d (queue_of d s ++ last ∷ []) s) more ≡ line e s (sent_heads (sent_to e (up.Submit head transferred ∷ ups)))
    by (inl same) =
        let yes : eqb head.ep (number_of e) ≡ true = eq-eqb _ _ (taken.number ∙ ap number_of same) in
        rw yes
        (ap (λ (q : List Pending). heads q ++ more)
        (subst (λ (x : Endpoint). queue_of x (with_queue d (queue_of d s ++ last ∷ []) s) ≡ queue_of x s ++ last ∷ []) same (queue-with d (queue_of d s ++ last ∷ []) s))
        ∙ ap (λ (l : List SubmitHead). l ++ more) (heads-append (queue_of e s) (last ∷ [])) ∙ append_assoc (heads (queue_of e s)) (head ∷ []) more)
    by (inr apart) =
        let no : eqb head.ep (number_of e) ≡ false = ap (λ (n : ℕ). eqb n (number_of e)) taken.number ∙ apart.number in
        rw no (ap (λ (q : List Pending). heads q ++ more) (apart.queue (queue_of d s ++ last ∷ []) s))
arrival e s t head transferred puts ups empty fits (TurnedAway none put is) =
    subst (λ (p : List Put). LeftBy (line e s (sent_heads (sent_to e (up.Submit head transferred ∷ ups)))) (events_of e p) (line e t (sent_heads (sent_to e ups)))) (sym put)
    (subst (λ (x : State). LeftBy (line e s (sent_heads (sent_to e (up.Submit head transferred ∷ ups)))) (events_of e (answer ∷ [])) (line e x (sent_heads (sent_to e ups)))) (sym is) (by (which fits.endpoint e)))
  where
    answer : Put
    answer = answer_of head stalled []

    more : List SubmitHead
    more = sent_heads (sent_to e ups)

    halted : is_halted fits.endpoint s ≡ true
    halted = halts (is_halted fits.endpoint s) refl
      where
        halts : (b : Bool) → is_halted fits.endpoint s ≡ b → b ≡ true
        halts true h = refl
        halts false h = absurd (none fits.endpoint (record { number = fits.number; way = fits.way; usable = h }))

    by : (fits.endpoint ≡ e) ⊎ Apart fits.endpoint e → LeftBy (line e s (sent_heads (sent_to e (up.Submit head transferred ∷ ups)))) (events_of e (answer ∷ [])) (line e s more)
    by (inl same) =
        let yes : eqb head.ep (number_of e) ≡ true = eq-eqb _ _ (fits.number ∙ ap number_of same) in
        let none_left : queue_of e s ≡ [] = subst (λ (x : Endpoint). queue_of x s ≡ []) same (empty fits.endpoint halted) in
        rw yes (more, ap (λ (q : List Pending). heads q ++ head ∷ more) none_left, ap (λ (q : List Pending). heads q ++ more) none_left)
    by (inr apart) =
        let no : eqb head.ep (number_of e) ≡ false = ap (λ (n : ℕ). eqb n (number_of e)) fits.number ∙ apart.number in
        rw no refl

arrival_unlink : (s t : State) (head : SubmitHead) (transferred : List ℕ) (puts : List Put) → Arrives s head transferred puts t → unlinked_by puts ≡ []
arrival_unlink s t head transferred puts (Queued d taken put is) = ap unlinked_by put
arrival_unlink s t head transferred puts (TurnedAway none put is) = ap unlinked_by put

-- ---- steps

-- a move that brings no submit takes none in
not_sent : (e : Endpoint) (move : Move) (ups : List up.Message) → (IsArrival move → ⊥) → sent_to e (taken move ++ ups) ≡ sent_to e ups
not_sent e (Comes (up.Submit head transferred)) ups none = absurd (none tt)
not_sent e (Comes (up.Unlink head)) ups none = refl
not_sent e _ ups none = refl

-- the unlinks that it takes in name none that come behind it
untargeted : (e : Endpoint) (move : Move) (ups : List up.Message) → InOrder (taken move ++ ups) → NoTargets (unlinks_of move) (sent_heads (sent_to e ups))
untargeted e (Comes (up.Submit head transferred)) ups order = tt
untargeted e (Comes (up.Unlink head)) ups order = (order.0 e, tt)
untargeted e _ ups order = tt

unlinks_taken : (move : Move) → unlinks_of move ≡ unlinks_in (taken move)
unlinks_taken (Comes (up.Submit head transferred)) = refl
unlinks_taken (Comes (up.Unlink head)) = refl
unlinks_taken _ = refl

-- the messages that a step takes in stand in front of those that are still on their way
step_flow : (e : Endpoint) (s t : State) (move : Move) (puts : List Put) (ups : List up.Message) → ((d : Endpoint) → AllFit d (queue_of d s)) → HaltsAreEmpty s
    → AllFitting (taken move ++ ups) → InOrder (taken move ++ ups) → Does s move puts t
    → LeftBy (line e s (sent_heads (sent_to e (taken move ++ ups)))) (events_of e puts) (line e t (sent_heads (sent_to e ups)))
step_flow e s t move puts ups sound empty fit order (Arriving head transferred is came free arrives) =
    subst (λ (m : Move). AllFitting (taken m ++ ups) → LeftBy (line e s (sent_heads (sent_to e (taken m ++ ups)))) (events_of e puts) (line e t (sent_heads (sent_to e ups)))) (sym is)
    (λ fits. arrival e s t head transferred puts ups empty fits.0 arrives) fit
step_flow e s t move puts ups sound empty fit order (Acting none acts) =
    subst (λ (sent : List SubmitHead). LeftBy (line e s sent) (events_of e puts) (line e t (sent_heads (sent_to e ups)))) (sym (ap sent_heads (not_sent e move ups none)))
    (acts_flow e (sent_heads (sent_to e ups)) t s (unlinks_of move) puts acts (named_all s sound) (untargeted e move ups order))

step_unlink : (s t : State) (move : Move) (puts : List Put) → Does s move puts t → unlinked_by puts ≡ unlinks_in (taken move)
step_unlink s t move puts (Arriving head transferred is came free arrives) =
    subst (λ (m : Move). unlinked_by puts ≡ unlinks_in (taken m)) (sym is) (arrival_unlink s t head transferred puts arrives)
step_unlink s t move puts (Acting none acts) = acts_unlink t s (unlinks_of move) puts acts ∙ unlinks_taken move

pub unlinks-append : (a b : List up.Message) → unlinks_in (a ++ b) ≡ unlinks_in a ++ unlinks_in b
unlinks-append [] b = refl
unlinks-append (up.Submit head transferred ∷ a) b = unlinks-append a b
unlinks-append (up.Unlink head ∷ a) b = ap (λ (l : List UnlinkHead). head ∷ l) (unlinks-append a b)

-- the lines stay tied under each step of the device
pub lines_go : (asked : Endpoint → List SubmitHead) (unlinks : List UnlinkHead) (s t : State) (move : Move) (puts : List Put) (ups : List up.Message) (downs : List Put)
    → ((d : Endpoint) → AllFit d (queue_of d s)) → HaltsAreEmpty s → AllFitting (taken move ++ ups) → InOrder (taken move ++ ups) → Does s move puts t
    → Lines asked unlinks (taken move ++ ups) downs s → Lines asked unlinks ups (downs ++ puts) t
lines_go asked unlinks s t move puts ups downs sound empty fit order does lines = record {
  submits = λ e. rw (events-append e downs puts)
      (left-append (asked e) (line e s (sent_heads (sent_to e (taken move ++ ups)))) (line e t (sent_heads (sent_to e ups))) (events_of e downs) (events_of e puts)
      (lines.submits e) (step_flow e s t move puts ups sound empty fit order does));
  unlinked = lines.unlinked ∙ ap (λ (l : List UnlinkHead). unlinked_by downs ++ l) (unlinks-append (taken move) ups ∙ ap (λ (l : List UnlinkHead). l ++ unlinks_in ups) (sym (step_unlink s t move puts does)))
      ∙ sym (append_assoc (unlinked_by downs) (unlinked_by puts) (unlinks_in ups)) ∙ ap (λ (l : List UnlinkHead). l ++ unlinks_in ups) (sym (unlinked-append downs puts));
}

-- ---- runs

-- what the law says of the states that can be reached, and of their steps
pub record Reaches : Type 0 where
  pub fits : (run : List Entry) (s : State) (e : Endpoint) → Runs start run s → AllFit e (queue_of e s)
  pub empty : (run : List Entry) (s : State) → Runs start run s → HaltsAreEmpty s
  pub does : (run : List Entry) (s t : State) (move : Move) (puts : List Put) → Runs start run s → Steps s move puts t → Does s move puts t
  pub joins : (a b : List Entry) (s m t : State) → Runs s a m → Runs m b t → Runs s (a ++ b) t

pub fitting_behind : (a b : List up.Message) → AllFitting (a ++ b) → AllFitting b
fitting_behind [] b h = h
fitting_behind (up.Submit head transferred ∷ a) b h = fitting_behind a b h.1
fitting_behind (up.Unlink head ∷ a) b h = fitting_behind a b h

pub order_behind : (a b : List up.Message) → InOrder (a ++ b) → InOrder b
order_behind [] b h = h
order_behind (up.Submit head transferred ∷ a) b h = order_behind a b h
order_behind (up.Unlink head ∷ a) b h = order_behind a b h.1

pub lines_step : (laws : Reaches) (run : List Entry) (asked : Endpoint → List SubmitHead) (unlinks : List UnlinkHead) (s t : State) (move : Move) (puts : List Put) (ups : List up.Message) (downs : List Put)
    → Runs start run s → Steps s move puts t → AllFitting (taken move ++ ups) → InOrder (taken move ++ ups)
    → Lines asked unlinks (taken move ++ ups) downs s → Lines asked unlinks ups (downs ++ puts) t
lines_step laws run asked unlinks s t move puts ups downs reached step fit order lines =
    lines_go asked unlinks s t move puts ups downs (λ d. laws.fits run s d reached) (laws.empty run s reached) fit order (laws.does run s t move puts reached step) lines

pub lines_run : (laws : Reaches) (before run : List Entry) (asked : Endpoint → List SubmitHead) (unlinks : List UnlinkHead) (s t : State) (ups : List up.Message) (downs : List Put)
    → Runs start before s → Runs s run t → AllFitting (inputs run ++ ups) → InOrder (inputs run ++ ups)
    → Lines asked unlinks (inputs run ++ ups) downs s → Lines asked unlinks ups (downs ++ outputs run) t
lines_run laws before [] asked unlinks s t ups downs reached h fit order lines =
    subst (λ (x : State). Lines asked unlinks ups (downs ++ []) x) (sym h) (subst (λ (l : List Put). Lines asked unlinks ups l s) (sym (append-nil downs)) lines)
lines_run laws before (entry ∷ run) asked unlinks s t ups downs reached h fit order lines =
    let same : (inputs (entry ∷ run) ++ ups) ≡ (taken entry.move ++ (inputs run ++ ups)) = append_assoc (taken entry.move) (inputs run) ups in
    let fitting : AllFitting (taken entry.move ++ (inputs run ++ ups)) = subst (λ (l : List up.Message). AllFitting l) same fit in
    let ordered : InOrder (taken entry.move ++ (inputs run ++ ups)) = subst (λ (l : List up.Message). InOrder l) same order in
    let go = lines_step laws before asked unlinks s h.0 entry.move entry.puts (inputs run ++ ups) downs reached h.1 fitting ordered
    (subst (λ (l : List up.Message). Lines asked unlinks l downs s) same lines) in
    subst (λ (l : List Put). Lines asked unlinks ups l t) (append_assoc downs entry.puts (outputs run))
    (lines_run laws (before ++ entry ∷ []) run asked unlinks h.0 t ups (downs ++ entry.puts) (laws.joins before (entry ∷ []) start s h.0 reached (h.0, h.1, refl)) h.2
    (fitting_behind (taken entry.move) (inputs run ++ ups) fitting) (order_behind (taken entry.move) (inputs run ++ ups) ordered) go)

-- ---- all was answered

no_event : (e : Endpoint) (downs : List Put) (left : List SubmitHead) → [] ≡ unlinked_by downs → LeftBy [] (events_of e downs) left → (events_of e downs ≡ []) × (left ≡ [])
no_event e [] left none h = (refl, h)
no_event e (Unlinked asked answer ∷ downs) left none h = absurd (cc)
no_event e (Submitted asked answer transferred ∷ downs) left none h = by (eqb asked.ep (number_of e)) (no_event e downs left none) h
  where
    by : (b : Bool) → (LeftBy [] (events_of e downs) left → (events_of e downs ≡ []) × (left ≡ []))
        → LeftBy [] (cond b (Gives asked answer transferred ∷ events_of e downs) (events_of e downs)) left
        → (cond b (Gives asked answer transferred ∷ events_of e downs) (events_of e downs) ≡ []) × (left ≡ [])
    by true go k = let clash : [] ≡ asked ∷ k.0 = k.1 in absurd (cc)
    by false go k = go k

empty_heads : (queue : List Pending) (sent : List Sent) → heads queue ++ sent_heads sent ≡ [] → (queue ≡ []) × (sent ≡ [])
empty_heads [] [] h = (refl, refl)
empty_heads [] (x ∷ sent) h = absurd (cc)
empty_heads (x ∷ queue) sent h = absurd (cc)

front_none : (a b : List UnlinkHead) → [] ≡ a ++ b → [] ≡ a
front_none [] b h = refl
front_none (x ∷ a) b h = absurd (cc)

pub all_answered : (asked : Endpoint → List SubmitHead) (e : Endpoint) (ups : List up.Message) (downs : List Put) (s : State) → Lines asked [] ups downs s → asked e ≡ [] → EmptyLine e ups downs s
all_answered asked e ups downs s lines none =
    let over = no_event e downs (line e s (sent_heads (sent_to e ups))) (front_none (unlinked_by downs) (unlinks_in ups) lines.unlinked)
    (subst (λ (l : List SubmitHead). LeftBy l (events_of e downs) (line e s (sent_heads (sent_to e ups)))) none (lines.submits e)) in
    let empty = empty_heads (queue_of e s) (sent_to e ups) over.1 in
    record { queue = empty.0; sent = empty.1; events = over.0 }

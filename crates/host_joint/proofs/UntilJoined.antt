-- a host whose device may be unplugged, at the two ends of a link
use Rattle.std.proofs.Common.{◌≡◌, ◌∙◌, inl, inr, ℕ, Option, Some, None, List, [], ◌∷◌, ◌++◌, length, ap, sym, subst, append_assoc, arith}
use Rattle.std.proofs.lemmas.List.{append_cancel_left}
use Rattle.tmc_base.specs.declared.field.Field.{Field}
use Rattle.tmc_base.specs.declared.run_step.RunStep.{RunStep}
use Rattle.tmc_base.specs.Told.{out_bytes}
use Rattle.usbip_wire.specs.declared.submit.SubmitHead.{SubmitHead}
use Rattle.usbip_wire.specs.declared.unlink.UnlinkHead.{UnlinkHead}
use Rattle.usbip_wire.specs.declared.dirs.Outstanding.{Outstanding}
use Rattle.usbip_wire.specs.declared.down.DownPhase.TheVariants.{Urbs}
use Rattle.usbip_wire.specs.Up as up
use Rattle.usbip_wire.specs.Down as down
use Rattle.usbip_wire.specs.Down.{SpellsAnswer}
use Rattle.usbip_wire.specs.DownFed.{BadAt}
use Rattle.usbip_wire.specs.Laws.{ArePrefixFree}
use Rattle.tmc_law.specs.State.{State, pending}
use Rattle.tmc_law.specs.Put.{Put, Submitted, Unlinked}
use Rattle.tmc_law.specs.Halts.{unplug_answers}
use Rattle.tmc_law.specs.Laws.{message_of}
use Rattle.tmc_law.specs.Step.{Unplug, Steps, IsOver, TooMany, Twice}
use Rattle.tmc_law.specs.Run.{Entry, Runs, SpellAll, SpellsPut, inputs, outputs}
use Rattle.tmc_law.specs.Told.{Tells}
use Rattle.host_joint.specs.Hand.{Hand, Free, Says, Said, Reads, Pauses}
use Rattle.host_joint.specs.Tie.{Tie, IsGiven, Owns, asked_of}
use Rattle.host_joint.specs.Bond.{Situation, Bond, Bound}
use Rattle.host_joint.specs.Joint.{TellsBy, JointBy, entries_for, entries_of, IsApart}
use Rattle.host_joint.specs.Unplugged.{Until, TiedUntil, BoundUntil, HaltsNothing, TellsUnplugged, NextUntil, ComesPlugged, ComesBefore, ComesBehind, GivenUntil, GivenPlugged, GivenBefore, GivenBehind}
use Rattle.host_joint.specs.Lines.{unlinked_by, unlinks_in}
use Rattle.host_joint.proofs.Cancelling.{same_head}
use Rattle.host_joint.proofs.Until.{tells, next_until, halts_front}
use Rattle.host_joint.proofs.Joining.{IsKind, IsKept, Never, rising_asked, apart_asked, few_total, FieldLaws, none_front, no_downs, answer_not_empty, spelled_put, first_spelled, submit_found, none_bad}

-- ---- the answer to the one submit of a tied host

abbrev pub Given : Type 0
Given = (hand : Hand) (head : SubmitHead) (next : ℕ) (put : Put) (ups : List up.Message) (downs : List Put) (s : State) → Tie hand (Some head) next ups (put ∷ downs) s → IsGiven hand head put next ups downs s

pub given_until : Given → (hand : Hand) (head : SubmitHead) (next : ℕ) (put : Put) (ups : List up.Message) (downs : List Put) (t : State)
    → TiedUntil hand (Some head) next ups (put ∷ downs) t → GivenUntil hand head next put ups downs t
given_until given hand head next put ups downs t (inl tie) = GivenPlugged (given hand head next put ups downs t tie)
given_until given hand head next put ups downs t (inr held) = by held.front held.tie held.behind
  where
    first : (p : Put) (front rest : List Put) → put ∷ downs ≡ p ∷ (front ++ rest) → (p ≡ put) × (downs ≡ front ++ rest)
    first p front rest h = (cc, cc)

    by : (front : List Put) → Tie hand (Some head) next ups front held.before → put ∷ downs ≡ front ++ unplug_answers held.before → GivenUntil hand head next put ups downs t
    by [] tie is = GivenBehind held.before tie held.unplugs (tells (Some head) [] put ups downs held.before tie.lines (sym is))
    by (p ∷ front) tie is =
        let same = first p front (unplug_answers held.before) is in
        GivenBefore held.before front (given hand head next put ups front held.before (subst (λ (x : Put). Tie hand (Some head) next ups (x ∷ front) held.before) same.0 tie)) held.unplugs same.1

-- ---- whose bytes it has

pub owns_same : (hand : Hand) (s t : State) → t.log ≡ s.log → Owns hand s → Owns hand t
owns_same Free s t same owns = tt
owns_same (Says message said) s t same owns = tt
owns_same (Said last message) s t same owns = tt
owns_same (Reads last message tag size sofar read) s t same (inl none) = inl none
owns_same (Reads last message tag size sofar read) s t same (inr owned) = inr (rw same owned)
owns_same (Pauses last message sofar) s t same owned = rw same owned

pub log_of : (before t : State) → Steps before Unplug (unplug_answers before) t → t.log ≡ before.log
log_of before t unplugs = ap (λ (x : State). x.log) unplugs.leads.is

-- ---- a told run

pub tells_any : (devid : ℕ) (s : State) (run : List RunStep) (t : State) → Tells devid s run t → TellsBy (λ run. Unit {0}) devid s run t
tells_any devid s [] t h = h
tells_any devid s (step ∷ run) t h = (h.0, record { means = h.1; calm = tt }, tells_any devid h.0 run t h.2)

none_over : (before t : State) (head : SubmitHead) (f : Field) → Steps before Unplug (unplug_answers before) t → IsOver t head f → ⊥
none_over before t head f unplugs over = by over
  where
    empty : pending t ≡ []
    empty = ap (λ (x : State). pending x) unplugs.leads.is

    by : IsOver t head f → ⊥
    by (TooMany many is) = omega (arith, many, ap (λ l. length l) empty)
    by (Twice few pends is) = pends (rw empty tt)

-- no submit that comes is one too many, or has a number that is pending
abbrev pub NeverOver : (List up.Message → List Put → State → Type 0) → Type 0
NeverOver Ties = (head : SubmitHead) (transferred : List ℕ) (ups : List up.Message) (downs : List Put) (s : State) (f : Field) → Ties (up.Submit head transferred ∷ ups) downs s → IsOver s head f → ⊥

pub tied_never : Never → (hand : Hand) (waits : Option SubmitHead) (next : ℕ) → NeverOver (λ ups downs s. Tie hand waits next ups downs s)
tied_never never hand waits next head transferred ups downs s f tie over =
    never (asked_of waits) [] head transferred ups downs s f tie.fitting.0 (record { rising = rising_asked waits; apart = apart_asked waits }) (few_total waits) tie.lines over

pub bound_never : Never → (situation : Situation) (waits : Option SubmitHead) (unlinks : List UnlinkHead) (next : ℕ) → NeverOver (λ ups downs s. Bound situation waits unlinks next ups downs s)
bound_never never situation waits unlinks next head transferred ups downs s f bound over =
    never (asked_of waits) unlinks head transferred ups downs s f bound.bond.fitting.0 (record { rising = rising_asked waits; apart = apart_asked waits }) (few_total waits) bound.bond.lines over

pub until_kept : (Kind : List Entry → Type 0) (Ties : List up.Message → List Put → State → Type 0)
    → ((run : List Entry) (ups : List up.Message) (downs : List Put) (s t : State) → Runs s run t → Kind run → Until Ties (inputs run ++ ups) downs s → Until Ties ups (downs ++ outputs run) t)
    → IsKind Kind → NeverOver Ties → IsKept Kind (λ ups downs t. Until Ties ups downs t)
until_kept Kind Ties goes kind never = record { kind = kind; goes = goes; taken = taken }
  where
    taken : (head : SubmitHead) (transferred : List ℕ) (ups : List up.Message) (downs : List Put) (s : State) (f : Field) → Until Ties (up.Submit head transferred ∷ ups) downs s → IsOver s head f → ⊥
    taken head transferred ups downs s f (inl tie) over = never head transferred ups downs s f tie over
    taken head transferred ups downs s f (inr held) over = none_over held.before s head f held.unplugs over

pub any_kind : IsKind (λ run. Unit {0})
any_kind = record { more = λ a b h k. tt; front = λ a b h. tt }

halts-append : (a b : List Entry) → HaltsNothing a → HaltsNothing b → HaltsNothing (a ++ b)
halts-append [] b h k = k
halts-append (entry ∷ a) b h k = (h.0, halts-append a b h.1 k)

pub unhalted_kind : IsKind HaltsNothing
unhalted_kind = record { more = halts-append; front = halts_front }

-- ---- what is read next

-- the first answer on its way is spelled as one to what is not answered
abbrev pub Spelled : (List up.Message → List Put → State → Type 0) → List Outstanding → Type 0
Spelled Ties entries =
    (put : Put) (ups : List up.Message) (downs : List Put) (s : State) (bytes : List ℕ) → Ties ups (put ∷ downs) s → SpellsPut put bytes → SpellsAnswer entries (message_of put) bytes

pub none_tied : (hand : Hand) (next : ℕ) (put : Put) (ups : List up.Message) (downs : List Put) (s : State) → Tie hand None next ups (put ∷ downs) s → ⊥
none_tied hand next put ups downs s tie = let none = no_downs hand next ups (put ∷ downs) s tie.good tie.lines in cc

none_given : (hand : Hand) (next : ℕ) (put : Put) (ups : List up.Message) (downs : List Put) (t : State) → TiedUntil hand None next ups (put ∷ downs) t → ⊥
none_given hand next put ups downs t (inl tie) = none_tied hand next put ups downs t tie
none_given hand next put ups downs t (inr held) = by held.front held.tie held.behind
  where
    first : (front rest : List Put) (p : Put) → put ∷ downs ≡ p ∷ (front ++ rest) → p ≡ put
    first front rest p h = cc

    by : (front : List Put) → Tie hand None next ups front held.before → put ∷ downs ≡ front ++ unplug_answers held.before → ⊥
    by [] tie is = let e : None ≡ Some (tells None [] put ups downs held.before tie.lines (sym is)).head = (tells None [] put ups downs held.before tie.lines (sym is)).awaited in cc
    by (p ∷ front) tie is = none_tied hand next p ups front held.before tie

pub told_spelled : (waits : Option SubmitHead) (unlinks : List UnlinkHead) (put : Put) (downs : List Put) (bytes : List ℕ) → TellsUnplugged waits put downs → SpellsPut put bytes → SpellsAnswer (entries_of waits unlinks) (message_of put) bytes
told_spelled waits unlinks put downs bytes told spelled =
    subst (λ (w : Option SubmitHead). SpellsAnswer (entries_of w unlinks) (message_of put) bytes) (sym told.awaited)
    (subst (λ (p : Put). SpellsAnswer (entries_of (Some told.head) unlinks) (message_of p) bytes) (sym told.is)
    (submit_found told.head unlinks told.answer told.transferred bytes told.number (subst (λ (p : Put). SpellsPut p bytes) told.is spelled)))

told_alone : (head : SubmitHead) (put : Put) (downs : List Put) (bytes : List ℕ) → TellsUnplugged (Some head) put downs → SpellsPut put bytes → SpellsAnswer (entries_for (Some head)) (message_of put) bytes
told_alone head put downs bytes told spelled =
    let same : head ≡ told.head = cc in
    spelled_put head put bytes told.answer told.transferred (told.is ∙ ap (λ (h : SubmitHead). Submitted h told.answer told.transferred) (sym same)) (told.number ∙ ap (λ (h : SubmitHead). h.seqnum) (sym same)) spelled

abbrev pub GivenLaw : Type 0
GivenLaw =
    (hand : Hand) (head : SubmitHead) (next : ℕ) (put : Put) (ups : List up.Message) (downs : List Put) (t : State)
    → TiedUntil hand (Some head) next ups (put ∷ downs) t → GivenUntil hand head next put ups downs t

pub tied_spelled : GivenLaw → (hand : Hand) (waits : Option SubmitHead) (next : ℕ) → Spelled (λ ups downs t. TiedUntil hand waits next ups downs t) (entries_for waits)
tied_spelled given hand None next put ups downs t bytes tie spelled = absurd (none_given hand next put ups downs t tie)
tied_spelled given hand (Some head) next put ups downs t bytes tie spelled = by (given hand head next put ups downs t tie)
  where
    by : GivenUntil hand head next put ups downs t → SpellsAnswer (entries_for (Some head)) (message_of put) bytes
    by (GivenPlugged g) = spelled_put head put bytes g.answer g.transferred g.is g.number spelled
    by (GivenBefore before front g unplugs behind) = spelled_put head put bytes g.answer g.transferred g.is g.number spelled
    by (GivenBehind before was unplugs told) = told_alone head put downs bytes told spelled

pub bound_spelled : (situation : Situation) (waits : Option SubmitHead) (unlinks : List UnlinkHead) (next : ℕ) → IsApart waits unlinks → Spelled (λ ups downs t. BoundUntil situation waits unlinks next ups downs t) (entries_of waits unlinks)
bound_spelled situation waits unlinks next apart put ups downs t bytes bound spelled = by (next_until situation waits unlinks next put ups downs t bound)
  where
    by : NextUntil situation waits unlinks next put ups downs t → SpellsAnswer (entries_of waits unlinks) (message_of put) bytes
    by (ComesPlugged b) = first_spelled situation waits unlinks next put ups downs t bytes apart b spelled
    by (ComesBefore before front b unplugs behind) = first_spelled situation waits unlinks next put ups front before bytes apart b spelled
    by (ComesBehind before b unplugs told) = told_spelled waits unlinks put downs bytes told spelled

-- the first answer on its way, and what is joined behind it
pub record NextBy (Ties : List up.Message → List Put → State → Type 0) (devid : ℕ) (message : down.Message) (written read this : List ℕ) (steps : List RunStep) (s : State) : Type 1 where
  pub put : Put
  pub ups : List up.Message
  pub downs : List Put
  pub is : message_of put ≡ message
  pub tie : Ties ups (put ∷ downs) s
  pub later : (After : List up.Message → List Put → State → Type 0) → After ups downs s → JointBy After devid written (read ++ this) steps s

pub next_by : (Ties : List up.Message → List Put → State → Type 0) (entries : List Outstanding) → Spelled Ties entries → ArePrefixFree (SpellsAnswer entries) → (devid : ℕ) (written read this more : List ℕ) (message : down.Message) (steps : List RunStep) (s : State)
    → JointBy Ties devid written read steps s → out_bytes steps ≡ read ++ (this ++ more) → SpellsAnswer entries message this → NextBy Ties devid message written read this steps s
next_by Ties entries spells free devid written read this more message steps s j split spelled =
    by j.downs (append_cancel_left read j.behind (this ++ more) (sym j.given ∙ split)) j.put j.tie
  where
    by : (downs : List Put) → j.behind ≡ this ++ more → SpellAll SpellsPut downs j.behind → Ties j.ups downs s → NextBy Ties devid message written read this steps s
    by [] comes put tie = absurd (answer_not_empty entries message (subst (λ (l : List ℕ). SpellsAnswer entries message l) (none_front this more (sym comes ∙ put)) spelled))
    by (put ∷ downs) comes (front, after, e, one, rest) tie =
        let same = free message (message_of put) this front more after spelled (spells put j.ups downs s front tie one) (sym comes ∙ e) in
        record {
          put = put;
          ups = j.ups;
          downs = downs;
          is = sym same.0;
          tie = tie;
          later = λ After then_tied. record {
            coming = j.coming;
            ups = j.ups;
            sent = j.sent;
            spelled = j.spelled;
            behind = after;
            downs = downs;
            given = j.given ∙ ap (λ (l : List ℕ). read ++ l) (e ∙ ap (λ (l : List ℕ). l ++ after) (sym same.1)) ∙ sym (append_assoc read this after);
            put = rest;
            accepted = j.accepted;
            tie = then_tied;
          };
        }

pub never_bad_by : (laws : FieldLaws) (Ties : List up.Message → List Put → State → Type 0) (entries : List Outstanding) → Spelled Ties entries → (devid : ℕ) (written read rest more : List ℕ) (steps : List RunStep) (s : State) (f : Field)
    → JointBy Ties devid written read steps s → out_bytes steps ≡ read ++ (rest ++ more) → BadAt Urbs entries rest f → ⊥
never_bad_by laws Ties entries spells devid written read rest more steps s f j split bad =
    by j.downs (append_cancel_left read j.behind (rest ++ more) (sym j.given ∙ split)) j.put j.tie
  where
    by : (downs : List Put) → j.behind ≡ rest ++ more → SpellAll SpellsPut downs j.behind → Ties j.ups downs s → ⊥
    by [] comes put tie = none_bad laws entries rest f (none_front rest more (sym comes ∙ put)) bad
    by (put ∷ downs) comes (front, after, e, one, others) tie =
        let worse = ((laws.stay entries rest more f).0 bad).0 in
        (laws.alone entries (rest ++ more) f worse).0 (message_of put) front after (spells put j.ups downs s front tie one) (sym comes ∙ e)

-- ---- one submit alone

pub bond_spelled : (Holds : List up.Message → List Put → State → Type 0) (head : SubmitHead) (next : ℕ) → Spelled (λ ups downs s. Bond Holds (asked_of (Some head)) [] next ups downs s) (entries_for (Some head))
bond_spelled Holds head next (Submitted asked a transferred) ups downs s bytes bond spelled =
    let same = same_head Holds head asked a transferred [] next ups downs s bond in
    spelled_put head (Submitted asked a transferred) bytes a transferred (ap (λ (h : SubmitHead). Submitted h a transferred) same) (bond.fits.0.1.number ∙ ap (λ (h : SubmitHead). h.seqnum) same) spelled
bond_spelled Holds head next (Unlinked asked a) ups downs s bytes bond spelled = none bond.lines.unlinked
  where
    none : {B : Type 0} → [] ≡ unlinked_by (Unlinked asked a ∷ downs) ++ unlinks_in ups → B
    none e = absurd (cc)

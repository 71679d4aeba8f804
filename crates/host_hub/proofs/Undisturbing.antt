-- a hub stays joined to a lawful device that nothing disturbs, as its link goes on and its record
use Rattle.std.proofs.Common.{◌≡◌, ◌∙◌, ℕ, List, [], ◌∷◌, ◌++◌, drop, None, refl, sym, ap, subst, append_assoc, append-nil}
use Rattle.tmc_base.specs.declared.run_step.RunStep.{RunStep}
use Rattle.tmc_base.specs.Told.{Told, Silent, Bytes, Peer, WentOut, CameIn, Exchanged, IsFront, in_bytes, out_bytes}
use Rattle.usbip_wire.specs.Awaited.{entries_of}
use Rattle.usbip_wire.specs.Down.{SpellsAnswer}
use Rattle.usbip_wire.specs.Laws.{ArePrefixFree}
use Rattle.usbip_wire.specs.Up as up
use Rattle.usbip_wire.specs.declared.dirs.Outstanding.{Outstanding}
use Rattle.host_joint.specs.Hand.{Free}
use Rattle.host_joint.specs.Joint.{Joint, TellsCalmly}
use Rattle.host_urbs.specs.Record as urbs
use Rattle.tmc_law.specs.State.{State}
use Rattle.host_hub.specs.Calls.{All}
use Rattle.host_hub.specs.Crossings.{crossings}
use Rattle.host_hub.specs.Joined.{IsJoined, IsPlain, IsSimple, ReadsOn}
use Rattle.host_hub.specs.Law.{Lawful}
use Rattle.host_hub.specs.Order.{Setting, message_of}
use Rattle.host_hub.specs.Record.{Asked, Cancelled, Cleared, Fell, GaveUp, Happening, Past, Recovers, Settled, Stopped, Took, Wrote, written}
use Rattle.host_hub.specs.Tied.{Received, Tied, bytes_of, spelled}
use Rattle.host_hub.specs.Undisturbed.{IsJoinedOver, IsJoinedTo, Undisturbed}

-- what holds of hubs that are joined, and of answers
pub record Joins : Type 0 where
  pub device : (s : Setting) (past : Past) (bytes read : List ℕ) (steps more : List RunStep) (state later : State) → TellsCalmly s.devid state more later
      → IsFront (in_bytes (steps ++ more)) bytes → IsJoined s past bytes read steps state → IsJoined s past bytes read (steps ++ more) later
  pub hub : (s : Setting) (past more : Past) (bytes read all behind : List ℕ) (steps : List RunStep) (state : State) → IsSimple s
      → Lawful s (more ++ past) → All IsPlain more → IsJoined s past bytes read steps state → ReadsOn s more past read all
      → out_bytes steps ≡ all ++ behind → IsJoined s (more ++ past) (bytes ++ spelled (written s more)) all steps state
  pub free : (entries : List Outstanding) → ArePrefixFree (SpellsAnswer entries)

-- ---- lists

pub cut_front : (a b c : List ℕ) → a ++ b ≡ a ++ c → b ≡ c
cut_front [] b c e = e
cut_front (x ∷ xs) b c e = cut_front xs b c (ap (λ (l : List ℕ). drop 1 l) e)

cut_steps : (a b c : List RunStep) → a ++ b ≡ a ++ c → b ≡ c
cut_steps [] b c e = e
cut_steps (x ∷ xs) b c e = cut_steps xs b c (ap (λ (l : List RunStep). drop 1 l) e)

pub all_left : (Is : Happening → Type 0) (more past : Past) → All Is (more ++ past) → All Is more
all_left Is [] past a = tt
all_left Is (x ∷ more) past a = (a.0, all_left Is more past a.1)

pub all_right : (Is : Happening → Type 0) (more past : Past) → All Is (more ++ past) → All Is past
all_right Is [] past a = a
all_right Is (x ∷ more) past a = all_right Is more past a.1

-- ---- the steps that a link tells, cut in two

cut_told : (devid : ℕ) (s : State) (first second : List RunStep) (t : State) → TellsCalmly devid s (first ++ second) t
    → (mid : State) × TellsCalmly devid s first mid × TellsCalmly devid mid second t
cut_told devid s [] second t h = (s, refl, h)
cut_told devid s (x ∷ xs) second t h = let r = cut_told devid h.0 xs second t h.2 in (r.0, (h.0, h.1, r.1), r.2)

-- ---- the link goes on

abbrev pub StaysJoined : Setting → Past → (start now : Told) → (outbox rest : List ℕ) → Type 0
StaysJoined s past start now outbox rest = (state : State) → Undisturbed s past start now state → IsJoinedOver s past outbox rest now state

front_more : (a b c : List ℕ) → IsFront a b → IsFront a (b ++ c)
front_more a b c f = (f.0 ++ c, ap (λ (l : List ℕ). l ++ c) f.1 ∙ append_assoc a f.0 c)

module _ (laws : Joins) (s : Setting) (past : Past) (s0 t0 : List ℕ) (r0 : List RunStep) (sent received outbox rest : List ℕ) (m d : List RunStep) (out into : List ℕ)
    (j : StaysJoined s past (Peer s0 t0 r0) (Peer (s0 ++ sent) (t0 ++ received) (r0 ++ m)) outbox rest)
    (front : IsFront (in_bytes ((r0 ++ m) ++ d)) ((s0 ++ sent) ++ outbox))
    (state : State) (u : Undisturbed s past (Peer s0 t0 r0) (Peer out into ((r0 ++ m) ++ d)) state) where
  -- so it was before the steps that are new, and is behind them
  later_joined : (read : List ℕ) × (t0 ++ received ≡ read ++ rest) × IsJoined s past ((s0 ++ sent) ++ outbox) read ((r0 ++ m) ++ d) state
  later_joined =
      let same : m ++ d ≡ u.calm.0 = cut_steps r0 (m ++ d) u.calm.0 (sym (append_assoc r0 m d) ∙ u.calm.1) in
      let c = cut_told s.devid u.first m d state (subst (λ (l : List RunStep). TellsCalmly s.devid u.first l state) (sym same) u.calm.2) in
      let was : IsJoinedTo s past outbox rest (s0 ++ sent) (t0 ++ received) (r0 ++ m) c.0 =
      j c.0 (record { simple = u.simple; plain = u.plain; first = u.first; begun = u.begun; calm = (m, refl, c.1) }) in
      (was.read, was.cut, laws.device s past ((s0 ++ sent) ++ outbox) was.read (r0 ++ m) d c.0 state c.2 front was.joined)

-- bytes went from the front of the outbox
pub joined_out : Joins → (s : Setting) (past : Past) (start now later : Told) (sent received bytes outbox rest : List ℕ) → Exchanged sent received start now → WentOut bytes now later
    → StaysJoined s past start now (bytes ++ outbox) rest → StaysJoined s past start later outbox rest
joined_out laws s past Silent now later sent received bytes outbox rest e w j = λ state u. absurd u.begun
joined_out laws s past (Bytes x y) now later sent received bytes outbox rest e w j = λ state u. absurd u.begun
joined_out laws s past (Peer s0 t0 r0) now later sent received bytes outbox rest e w j = λ state u.
    let w2 : WentOut bytes (Peer (s0 ++ sent) (t0 ++ received) (r0 ++ e.0)) later = subst (λ (t : Told). WentOut bytes t later) e.1 w in
    let j2 : StaysJoined s past (Peer s0 t0 r0) (Peer (s0 ++ sent) (t0 ++ received) (r0 ++ e.0)) (bytes ++ outbox) rest =
    subst (λ (t : Told). StaysJoined s past (Peer s0 t0 r0) t (bytes ++ outbox) rest) e.1 j in
    let u2 : Undisturbed s past (Peer s0 t0 r0) (Peer ((s0 ++ sent) ++ bytes) (t0 ++ received) ((r0 ++ e.0) ++ w2.0)) state =
    subst (λ (t : Told). Undisturbed s past (Peer s0 t0 r0) t state) w2.1 u in
    let front : IsFront (in_bytes ((r0 ++ e.0) ++ w2.0)) ((s0 ++ sent) ++ (bytes ++ outbox)) =
    subst (λ (l : List ℕ). IsFront (in_bytes ((r0 ++ e.0) ++ w2.0)) l) (append_assoc (s0 ++ sent) bytes outbox)
    (front_more (in_bytes ((r0 ++ e.0) ++ w2.0)) ((s0 ++ sent) ++ bytes) outbox w2.2.inputs) in
    let x = later_joined laws s past s0 t0 r0 sent received (bytes ++ outbox) rest e.0 w2.0 ((s0 ++ sent) ++ bytes) (t0 ++ received) j2 front state u2 in
    subst (λ (t : Told). IsJoinedOver s past outbox rest t state) (sym w2.1)
    (record {
      read = x.0;
      cut = x.1;
      fits = w2.2;
      joined = subst (λ (l : List ℕ). IsJoined s past l x.0 ((r0 ++ e.0) ++ w2.0) state) (sym (append_assoc (s0 ++ sent) bytes outbox)) x.2;
    })

-- bytes came
pub joined_in : Joins → (s : Setting) (past : Past) (start now later : Told) (sent received bytes outbox rest : List ℕ) → Exchanged sent received start now → CameIn bytes now later
    → StaysJoined s past start now outbox rest → StaysJoined s past start later outbox (rest ++ bytes)
joined_in laws s past Silent now later sent received bytes outbox rest e w j = λ state u. absurd u.begun
joined_in laws s past (Bytes x y) now later sent received bytes outbox rest e w j = λ state u. absurd u.begun
joined_in laws s past (Peer s0 t0 r0) now later sent received bytes outbox rest e w j = λ state u.
    let w2 : CameIn bytes (Peer (s0 ++ sent) (t0 ++ received) (r0 ++ e.0)) later = subst (λ (t : Told). CameIn bytes t later) e.1 w in
    let j2 : StaysJoined s past (Peer s0 t0 r0) (Peer (s0 ++ sent) (t0 ++ received) (r0 ++ e.0)) outbox rest =
    subst (λ (t : Told). StaysJoined s past (Peer s0 t0 r0) t outbox rest) e.1 j in
    let u2 : Undisturbed s past (Peer s0 t0 r0) (Peer (s0 ++ sent) ((t0 ++ received) ++ bytes) ((r0 ++ e.0) ++ w2.0)) state =
    subst (λ (t : Told). Undisturbed s past (Peer s0 t0 r0) t state) w2.1 u in
    let front : IsFront (in_bytes ((r0 ++ e.0) ++ w2.0)) ((s0 ++ sent) ++ outbox) =
    front_more (in_bytes ((r0 ++ e.0) ++ w2.0)) (s0 ++ sent) outbox w2.2.inputs in
    let x = later_joined laws s past s0 t0 r0 sent received outbox rest e.0 w2.0 (s0 ++ sent) ((t0 ++ received) ++ bytes) j2 front state u2 in
    subst (λ (t : Told). IsJoinedOver s past outbox (rest ++ bytes) t state) (sym w2.1)
    (record { read = x.0; cut = ap (λ (l : List ℕ). l ++ bytes) x.1 ∙ append_assoc x.0 rest bytes; fits = w2.2; joined = x.2 })

-- ---- the record goes on

-- what was read is more, by the bytes of its answers
pub joined_added : Joins → (s : Setting) (past more : Past) (start now : Told) (outbox rest answered left : List ℕ) → Lawful s (more ++ past) → rest ≡ answered ++ left
    → ((read : List ℕ) → ReadsOn s more past read (read ++ answered))
    → StaysJoined s past start now outbox rest → StaysJoined s (more ++ past) start now (outbox ++ spelled (written s more)) left
joined_added laws s past more Silent now outbox rest answered left h cut reads j = λ state u. absurd u.begun
joined_added laws s past more (Bytes x y) now outbox rest answered left h cut reads j = λ state u. absurd u.begun
joined_added laws s past more (Peer s0 t0 r0) Silent outbox rest answered left h cut reads j = λ state u. absurd u.calm
joined_added laws s past more (Peer s0 t0 r0) (Bytes x y) outbox rest answered left h cut reads j = λ state u. absurd u.calm
joined_added laws s past more (Peer s0 t0 r0) (Peer out into run) outbox rest answered left h cut reads j = λ state u.
    let was : IsJoinedTo s past outbox rest out into run state =
    j state (record { simple = u.simple; plain = all_right IsPlain more past u.plain; first = u.first; begun = u.begun; calm = u.calm }) in
    let taken : into ≡ (was.read ++ answered) ++ left = was.cut ∙ ap (λ (l : List ℕ). was.read ++ l) cut ∙ sym (append_assoc was.read answered left) in
    record {
      read = was.read ++ answered;
      cut = taken;
      fits = was.fits;
      joined = subst (λ (l : List ℕ). IsJoined s (more ++ past) l (was.read ++ answered) run state) (append_assoc out outbox (spelled (written s more)))
          (laws.hub s past more (out ++ outbox) was.read (was.read ++ answered) (left ++ was.fits.outputs.0) run state u.simple h (all_left IsPlain more past u.plain) was.joined
          (reads was.read)
          (was.fits.outputs.1 ∙ ap (λ (l : List ℕ). l ++ was.fits.outputs.0) taken ∙ append_assoc (was.read ++ answered) left was.fits.outputs.0));
    }

-- ---- the hub begins

pub joined_start : ((s : Setting) (bytes read : List ℕ) (steps : List RunStep) (state : State) → Joint s.devid Free None s.first bytes read steps state
    → IsJoined s [] bytes read steps state) → (s : Setting) (start : Told) → StaysJoined s [] start start [] []
joined_start begins s Silent = λ state u. absurd u.begun
joined_start begins s (Bytes x y) = λ state u. absurd u.begun
joined_start begins s (Peer s0 t0 r0) = λ state u.
    let none : u.calm.0 ≡ [] = cut_steps r0 u.calm.0 [] (sym u.calm.1 ∙ sym (append-nil r0)) in
    let same : state ≡ u.first = subst (λ (l : List RunStep). TellsCalmly s.devid u.first l state) none u.calm.2 in
    record {
      read = t0;
      cut = sym (append-nil t0);
      fits = record { inputs = (u.begun.coming, u.begun.sent); outputs = (u.begun.behind, u.begun.given) };
      joined = subst (λ (l : List ℕ). IsJoined s [] l t0 r0 state) (sym (append-nil s0))
          (subst (λ (q : State). IsJoined s [] s0 t0 r0 q) (sym same) (begins s s0 t0 r0 u.first u.begun));
    }

-- ---- the answers in the bytes

-- the answers of what was added stand behind those of the record before
pub record Cut (s : Setting) (more past : Past) (front : List ℕ) : Type 0 where
  pub mid : List ℕ
  pub answered : List ℕ
  pub before : Received (crossings s past) mid
  pub is : front ≡ mid ++ answered
  pub reads : (read : List ℕ) → ReadsOn s more past read (read ++ answered)

pub cut_received : (s : Setting) (more past : Past) (front : List ℕ) → Received (crossings s (more ++ past)) front → Cut s more past front
cut_received s [] past front h = record { mid = front; answered = []; before = h; is = sym (append-nil front); reads = append-nil }
cut_received s (Took answer ∷ more) past front h =
    let c = cut_received s more past h.0 h.3 in
    record {
      mid = c.mid;
      answered = c.answered ++ h.1;
      before = c.before;
      is = h.2 ∙ ap (λ (l : List ℕ). l ++ h.1) c.is ∙ append_assoc c.mid c.answered h.1;
      reads = λ read. (read ++ c.answered, h.1, c.reads read, sym (append_assoc read c.answered h.1), h.4);
    }
cut_received s (Fell answer e ∷ more) past front h =
    let c = cut_received s more past h.0 h.3 in
    record {
      mid = c.mid;
      answered = c.answered ++ h.1;
      before = c.before;
      is = h.2 ∙ ap (λ (l : List ℕ). l ++ h.1) c.is ∙ append_assoc c.mid c.answered h.1;
      reads = λ read. (read ++ c.answered, h.1, c.reads read, sym (append_assoc read c.answered h.1), h.4);
    }
cut_received s (Wrote n o k ∷ more) past front h = let c = cut_received s more past front h in record { mid = c.mid; answered = c.answered; before = c.before; is = c.is; reads = c.reads }
cut_received s (Stopped e ∷ more) past front h = let c = cut_received s more past front h in record { mid = c.mid; answered = c.answered; before = c.before; is = c.is; reads = c.reads }
cut_received s (Recovers ∷ more) past front h = let c = cut_received s more past front h in record { mid = c.mid; answered = c.answered; before = c.before; is = c.is; reads = c.reads }
cut_received s (Asked t a ∷ more) past front h = let c = cut_received s more past front h in record { mid = c.mid; answered = c.answered; before = c.before; is = c.is; reads = c.reads }
cut_received s (Cancelled t ∷ more) past front h = let c = cut_received s more past front h in record { mid = c.mid; answered = c.answered; before = c.before; is = c.is; reads = c.reads }
cut_received s (Cleared w ∷ more) past front h = let c = cut_received s more past front h in record { mid = c.mid; answered = c.answered; before = c.before; is = c.is; reads = c.reads }
cut_received s (GaveUp ∷ more) past front h = let c = cut_received s more past front h in record { mid = c.mid; answered = c.answered; before = c.before; is = c.is; reads = c.reads }
cut_received s (Settled t o ∷ more) past front h = let c = cut_received s more past front h in record { mid = c.mid; answered = c.answered; before = c.before; is = c.is; reads = c.reads }

-- the bytes of the answers of a record are these alone
pub one_received : ((entries : List Outstanding) → ArePrefixFree (SpellsAnswer entries)) → (past : urbs.Past) (a b x y : List ℕ) → Received past a → Received past b → a ++ x ≡ b ++ y
    → (a ≡ b) × (x ≡ y)
one_received free [] a b x y h k e = (h ∙ sym k, sym (ap (λ (l : List ℕ). l ++ x) h) ∙ e ∙ ap (λ (l : List ℕ). l ++ y) k)
one_received free (urbs.Wrote message ∷ past) a b x y h k e = one_received free past a b x y h k e
one_received free (urbs.Took answer ∷ past) a b x y h k e =
    let first = one_received free past h.0 k.0 (h.1 ++ x) (k.1 ++ y) h.3 k.3
    (sym (append_assoc h.0 h.1 x) ∙ ap (λ (l : List ℕ). l ++ x) (sym h.2) ∙ e ∙ ap (λ (l : List ℕ). l ++ y) k.2 ∙ append_assoc k.0 k.1 y) in
    let this = free (entries_of (urbs.outstanding past)) answer answer h.1 k.1 x y h.4 k.4 first.1 in
    (h.2 ∙ ap (λ (l : List ℕ). l ++ h.1) first.0 ∙ ap (λ (l : List ℕ). k.0 ++ l) this.1 ∙ sym k.2, this.2)

-- ---- the messages in the bytes

pub written_more : (s : Setting) (more past : Past) → written s (more ++ past) ≡ written s past ++ written s more
written_more s [] past = sym (append-nil (written s past))
written_more s (Wrote n o k ∷ more) past =
    ap (λ (ms : List up.Message). ms ++ message_of s n k ∷ []) (written_more s more past) ∙ append_assoc (written s past) (written s more) (message_of s n k ∷ [])
written_more s (Took answer ∷ more) past = written_more s more past
written_more s (Fell answer e ∷ more) past = written_more s more past
written_more s (Stopped e ∷ more) past = written_more s more past
written_more s (Recovers ∷ more) past = written_more s more past
written_more s (Asked t a ∷ more) past = written_more s more past
written_more s (Cancelled t ∷ more) past = written_more s more past
written_more s (Cleared w ∷ more) past = written_more s more past
written_more s (GaveUp ∷ more) past = written_more s more past
written_more s (Settled t o ∷ more) past = written_more s more past

pub spelled_join : (ms ns : List up.Message) → spelled (ms ++ ns) ≡ spelled ms ++ spelled ns
spelled_join [] ns = refl
spelled_join (m ∷ ms) ns = ap (λ (l : List ℕ). bytes_of m ++ l) (spelled_join ms ns) ∙ sym (append_assoc (bytes_of m) (spelled ms) (spelled ns))

-- what was added was written behind the outbox
pub outbox_more : (s : Setting) (more past : Past) (sent outbox new received rest left : List ℕ) → Tied s past sent outbox received rest
    → sent ++ new ≡ spelled (written s (more ++ past)) → new ≡ outbox ++ spelled (written s more)
outbox_more s more past sent outbox new received rest left old e =
    cut_front sent new (outbox ++ spelled (written s more))
    (e ∙ ap spelled (written_more s more past) ∙ spelled_join (written s past) (written s more)
    ∙ ap (λ (l : List ℕ). l ++ spelled (written s more)) (sym old.written) ∙ append_assoc sent outbox (spelled (written s more)))

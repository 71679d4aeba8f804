-- a host and a device stay joined over a link
use Rattle.std.proofs.Common.{◌≡◌, ◌≢◌, ◌∙◌, ◌↔◌, ℕ, ◌≤◌, Bool, true, false, cond, eqb, List, [], ◌∷◌, ◌++◌, length, Option, Some, None, refl, ap, sym, subst, append_assoc, append-nil, arith}
use Rattle.std.proofs.lemmas.Bool.{eq-eqb, eqb-true}
use Rattle.std.proofs.lemmas.List.{append_cancel_left}
use Rattle.tmc_base.specs.declared.field.Field.{Field}
use Rattle.tmc_base.specs.declared.field.Layer.{Layer}
use Rattle.tmc_base.specs.declared.field.Layer.TheVariants.{Op}
use Rattle.tmc_base.specs.declared.run_step.RunStep.{RunStep}
use Rattle.tmc_base.specs.Told as told
use Rattle.tmc_base.specs.Told.{in_bytes, out_bytes}
use Rattle.usbip_wire.specs.declared.submit.SubmitHead.{SubmitHead}
use Rattle.usbip_wire.specs.declared.ret_submit.RetSubmitHead.{RetSubmitHead}
use Rattle.usbip_wire.specs.declared.dirs.Outstanding.{Outstanding}
use Rattle.usbip_wire.specs.declared.down.DownPhase.TheVariants.{Urbs}
use Rattle.usbip_wire.specs.Dirs.{find, submit_of}
use Rattle.usbip_wire.specs.JudgedFields.{bytes_in}
use Rattle.usbip_wire.specs.Urb.{fields}
use Rattle.usbip_wire.specs.Submit.{submit_bytes}
use Rattle.usbip_wire.specs.Unlink.{unlink_bytes}
use Rattle.usbip_wire.specs.RetSubmit.{ret_submit_bytes, SpellsRetSubmit}
use Rattle.usbip_wire.specs.RetUnlink.{ret_unlink_bytes}
use Rattle.usbip_wire.specs.Up as up
use Rattle.usbip_wire.specs.Down as down
use Rattle.usbip_wire.specs.Down.{SpellsAnswer}
use Rattle.usbip_wire.specs.DownFed.{BadAt}
use Rattle.usbip_wire.specs.Stream.{InRow}
use Rattle.usbip_wire.specs.Laws.{ArePrefixFree, AreAlone, RefusedAt, AreBadFromTheirLast}
use Rattle.tmc_law.specs.Endpoint.{Endpoint, Control, BulkOut, BulkIn, InterruptIn, number_of}
use Rattle.tmc_law.specs.State.{State, Plugged, Closed}
use Rattle.tmc_law.specs.Put.{Put, Submitted, Unlinked}
use Rattle.tmc_law.specs.AnswerFits.{AllAnswers}
use Rattle.tmc_law.specs.Laws.{EndsOver, refusal, message_of}
use Rattle.tmc_law.specs.Queues.{pending_most}
use Rattle.tmc_law.specs.Step.{IsOver}
use Rattle.tmc_law.specs.Run.{Entry, Runs, TakesAll, inputs, outputs, SpellAll, SpellsPut, Fits}
use Rattle.host_joint.specs.Lines.{Lines, NoneNumbered, Fitting, Event, sent_to, AllFitting, unlinks_in, unlinked_by}
use Rattle.host_joint.specs.Unlinking.{AllHeads, Rising, AreApart, total_of}
use Rattle.host_joint.specs.Stage.{Ran}
use Rattle.host_joint.specs.Hand.{Hand}
use Rattle.host_joint.specs.Tie.{IsUndisturbed, asked_of, IsGood, Tie, IsGiven}
use Rattle.host_joint.specs.Asking.{StaysPlugged}
use Rattle.host_joint.specs.Bond.{Situation, Bond, Bound}
use Rattle.usbip_wire.specs.declared.unlink.UnlinkHead.{UnlinkHead}
use Rattle.std.proofs.lemmas.Bool.{ne_eqb}
use Rattle.usbip_wire.specs.Dirs.{is_unlink}
use Rattle.host_joint.proofs.Booking.{submit_answered, unlink_answered}
use Rattle.host_joint.proofs.Given.{the_one}
use Rattle.host_joint.specs.Joint.{TellsBy, JointBy, Joined, entries_of, IsApart, IsNextOf, Joint, entries_for, IsNextAnswer}
use Rattle.host_joint.proofs.Flows.{all_answered}
use Rattle.host_joint.proofs.Tying.{none_unlinked}
use Rattle.host_joint.proofs.Hosting.{own_event}
use Rattle.host_joint.proofs.Given.{lines_behind}
use Rattle.host_joint.proofs.Writing.{other_asked}

-- a kind of runs: those in a row are one, and so are the first of one
pub record IsKind (Kind : List Entry → Type 0) : Type 0 where
  pub more : (a b : List Entry) → Kind a → Kind b → Kind (a ++ b)
  pub front : (a b : List Entry) → Kind (a ++ b) → Kind a

-- what ties the two is kept by runs of this kind, and no submit is refused
pub record IsKept (Kind : List Entry → Type 0) (Ties : List up.Message → List Put → State → Type 0) : Type 0 where
  pub kind : IsKind Kind
  pub goes : (run : List Entry) (ups : List up.Message) (downs : List Put) (s t : State) → Runs s run t → Kind run → Ties (inputs run ++ ups) downs s → Ties ups (downs ++ outputs run) t
  pub taken : (head : SubmitHead) (transferred : List ℕ) (ups : List up.Message) (downs : List Put) (s : State) (f : Field) → Ties (up.Submit head transferred ∷ ups) downs s → IsOver s head f → ⊥

-- what this asks of the laws
pub record JointLaws : Type 0 where
  pub together : (a b : List Entry) (s m t : State) → Runs s a m → Runs m b t → Runs s (a ++ b) t
  pub taken_together : (devid : ℕ) (a b : List Entry) (front rest : List ℕ) → TakesAll devid a front → TakesAll devid b rest → TakesAll devid (a ++ b) (front ++ rest)
  pub ins : (a b : List Entry) → inputs (a ++ b) ≡ inputs a ++ inputs b
  pub outs : (a b : List Entry) → outputs (a ++ b) ≡ outputs a ++ outputs b
  pub messages : (devid : ℕ) (run : List Entry) (s t : State) (bytes : List ℕ) → Runs s run t → ((f : Field) → t.presence ≡ Closed f → ⊥)
      → TakesAll devid run bytes ↔ SpellAll (up.Spells devid) (inputs run) bytes
  pub over : (devid : ℕ) (run : List Entry) (s t : State) (sent received later : List ℕ) (messages : List up.Message) (f : Field) → s.presence ≡ Plugged
      → Runs s run t → Fits devid run sent received → t.presence ≡ Closed f → SpellAll (up.Spells devid) messages (sent ++ later) → EndsOver devid s run messages f
  pub free : (devid : ℕ) → ArePrefixFree (up.Spells devid)

-- ---- rows of messages

pub row_together : {M : Type 0} (S : M → List ℕ → Type 0) (ms ns : List M) (a b : List ℕ) → InRow S ms a [] → InRow S ns b [] → InRow S (ms ++ ns) (a ++ b) []
row_together {M} S [] ns a b p q = subst (λ (l : List ℕ). InRow S ns (l ++ b) []) (sym p) q
row_together {M} S (m ∷ ms) ns a b (front, after, e, s, p) q =
    (front, after ++ b, ap (λ (l : List ℕ). l ++ b) e ∙ append_assoc front after b, s, row_together S ms ns after b p q)

pub none_front : (a b : List ℕ) → a ++ b ≡ [] → a ≡ []
none_front [] b e = refl
none_front (byte ∷ a) b e = absurd (cc)

pub none_behind : (a b : List ℕ) → a ++ b ≡ [] → b ≡ []
none_behind [] b e = e
none_behind (byte ∷ a) b e = absurd (cc)

not_empty : (devid : ℕ) (message : up.Message) → up.Spells devid message [] → ⊥
unfolding submit_bytes unlink_bytes fields
not_empty devid (up.Submit head transferred) spelled = let e = spelled.layout in cc
not_empty devid (up.Unlink head) spelled = let e = spelled.layout in cc

-- what stands behind some messages of a row
rest_of : (devid : ℕ) → ArePrefixFree (up.Spells devid) → (ms ns : List up.Message) (bytes more : List ℕ) → InRow (up.Spells devid) ms bytes [] → InRow (up.Spells devid) ns (bytes ++ more) []
    → (left : List up.Message) × (ns ≡ ms ++ left) × InRow (up.Spells devid) left more []
rest_of devid free [] ns bytes more p q = (ns, refl, subst (λ (l : List ℕ). InRow (up.Spells devid) ns (l ++ more) []) p q)
rest_of devid free (m ∷ ms) [] bytes more (head, after, e, s, p) q =
    absurd (not_empty devid m (subst (λ (l : List ℕ). up.Spells devid m l) (none_front head after (sym e ∙ none_front bytes more q)) s))
rest_of devid free (m ∷ ms) (n ∷ ns) bytes more (head, after, e, s, p) (other, behind, d, t, q) =
    let same = free m n head other (after ++ more) behind s t (sym (append_assoc head after more) ∙ (ap (λ (l : List ℕ). l ++ more) (sym e) ∙ d)) in
    let next = rest_of devid free ms ns after more p (subst (λ (l : List ℕ). InRow (up.Spells devid) ns l []) (sym same.2) q) in
    (next.0, ap (λ (x : up.Message). x ∷ ns) (sym same.0) ∙ ap (λ (l : List up.Message). m ∷ l) next.1, next.2)

-- ---- told steps are a run

pub undisturbed-append : (a b : List Entry) → IsUndisturbed a → IsUndisturbed b → IsUndisturbed (a ++ b)
undisturbed-append [] b h k = k
undisturbed-append (x ∷ a) b h k = (h.0, h.1, undisturbed-append a b h.2 k)

pub undisturbed_front : (a b : List Entry) → IsUndisturbed (a ++ b) → IsUndisturbed a
undisturbed_front [] b h = tt
undisturbed_front (x ∷ a) b h = (h.0, h.1, undisturbed_front a b h.2)

pub plugged-append : (a b : List Entry) → StaysPlugged a → StaysPlugged b → StaysPlugged (a ++ b)
plugged-append [] b h k = k
plugged-append (x ∷ a) b h k = (h.0, plugged-append a b h.1 k)

pub plugged_front : (a b : List Entry) → StaysPlugged (a ++ b) → StaysPlugged a
plugged_front [] b h = tt
plugged_front (x ∷ a) b h = (h.0, plugged_front a b h.1)

pub record Told (Kind : List Entry → Type 0) (devid : ℕ) (s : State) (more : List RunStep) (t : State) : Type 0 where
  pub run : List Entry
  pub goes : Runs s run t
  pub calm : Kind run
  pub took : TakesAll devid run (in_bytes more)
  pub put : SpellAll SpellsPut (outputs run) (out_bytes more)

pub told_run : (laws : JointLaws) (Kind : List Entry → Type 0) → IsKind Kind → Kind [] → (devid : ℕ) (s : State) (more : List RunStep) (t : State) → TellsBy Kind devid s more t → Told Kind devid s more t
told_run laws Kind kind nothing devid s [] t tells = record { run = []; goes = tells; calm = nothing; took = refl; put = refl }
told_run laws Kind kind nothing devid s (step ∷ more) t tells =
    let first = tells.1 in
    let rest = told_run laws Kind kind nothing devid tells.0 more t tells.2 in
    record {
      run = first.means.run ++ rest.run;
      goes = laws.together first.means.run rest.run s tells.0 t first.means.goes rest.goes;
      calm = kind.more first.means.run rest.run first.calm rest.calm;
      took = laws.taken_together devid first.means.run rest.run step.took (in_bytes more) first.means.took rest.took;
      put = subst (λ (l : List Put). SpellAll SpellsPut l (step.put ++ out_bytes more)) (sym (laws.outs first.means.run rest.run))
          (row_together SpellsPut (outputs first.means.run) (outputs rest.run) step.put (out_bytes more) first.means.put rest.put);
    }

pub in-append : (a b : List RunStep) → in_bytes (a ++ b) ≡ in_bytes a ++ in_bytes b
in-append [] b = refl
in-append (x ∷ a) b = ap (λ (l : List ℕ). x.took ++ l) (in-append a b) ∙ sym (append_assoc x.took (in_bytes a) (in_bytes b))

pub out-append : (a b : List RunStep) → out_bytes (a ++ b) ≡ out_bytes a ++ out_bytes b
out-append [] b = refl
out-append (x ∷ a) b = ap (λ (l : List ℕ). x.put ++ l) (out-append a b) ∙ sym (append_assoc x.put (out_bytes a) (out_bytes b))

-- ---- the one submit that is not answered is one that the device can take

pub rising_asked : (waits : Option SubmitHead) (e : Endpoint) → Rising (asked_of waits e)
rising_asked None e = tt
rising_asked (Some head) e = by (eqb head.ep (number_of e))
  where
    by : (b : Bool) → Rising (cond b (head ∷ []) [])
    by true = (tt, tt)
    by false = tt

pub apart_asked : (waits : Option SubmitHead) (d e : Endpoint) → d ≢ e → AllHeads (λ (head : SubmitHead). NoneNumbered head.seqnum (asked_of waits e)) (asked_of waits d)
apart_asked None d e differ = tt
apart_asked (Some head) d e differ = by (eqb head.ep (number_of d)) refl
  where
    by : (b : Bool) → eqb head.ep (number_of d) ≡ b → AllHeads (λ (x : SubmitHead). NoneNumbered x.seqnum (asked_of (Some head) e)) (cond b (head ∷ []) [])
    by true is = (subst (λ (l : List SubmitHead). NoneNumbered head.seqnum l) (sym (other_asked d e head (eqb-true head.ep (number_of d) is) (λ same. differ (sym same)))) tt, tt)
    by false is = tt

pub few_asked : (waits : Option SubmitHead) (e : Endpoint) → length (asked_of waits e) ≤ 1
few_asked None e = omega arith
few_asked (Some head) e = by (eqb head.ep (number_of e))
  where
    by : (b : Bool) → length (cond b (head ∷ []) []) ≤ 1
    by true = omega arith
    by false = omega arith

pub few_total : (waits : Option SubmitHead) → total_of (asked_of waits) ≤ pending_most
few_total waits = omega (arith, few_asked waits Control, few_asked waits BulkOut, few_asked waits BulkIn, few_asked waits InterruptIn)

-- ---- they stay joined

-- a run that took in bytes of what was written refused none
refused_none : (laws : JointLaws) (Kind : List Entry → Type 0) (Ties : List up.Message → List Put → State → Type 0) → IsKept Kind Ties → (devid : ℕ) (run : List Entry) (s t : State) (took rest : List ℕ) (ups : List up.Message) (downs : List Put)
    → ((f : Field) → s.presence ≡ Closed f → ⊥) → Runs s run t → Kind run → TakesAll devid run took → SpellAll (up.Spells devid) ups (took ++ rest) → (text : List ℕ) → SpellAll SpellsPut (outputs run) text
    → Ties ups downs s → (f : Field) → t.presence ≡ Closed f → ⊥
refused_none laws Kind Ties kept devid [] s t took rest ups downs unrefused goes calm takes spelled text put tie f closed = unrefused f (sym (ap (λ (x : State). x.presence) goes) ∙ closed)
refused_none laws Kind Ties kept devid (entry ∷ more) s t took rest ups downs unrefused goes calm takes spelled text put tie f closed =
    let e = laws.over devid (entry ∷ more) s t took [] rest ups f goes.1.plugged goes
    (record { taken_in = took; takes = takes; sent_first = ([], sym (append-nil took)); text = text; spelled = put; put = (text, refl) }) closed spelled in
    let same : inputs (entry ∷ more) ≡ inputs e.before = ap inputs e.last ∙ laws.ins e.before (refusal devid e.refused f ∷ []) ∙ append-nil (inputs e.before) in
    let split : ups ≡ inputs e.before ++ up.Submit e.head e.transferred ∷ e.behind = e.next ∙ ap (λ (l : List up.Message). l ++ up.Submit e.head e.transferred ∷ e.behind) same in
    kept.taken e.head e.transferred e.behind (downs ++ outputs e.before) e.mid f
    (kept.goes e.before (up.Submit e.head e.transferred ∷ e.behind) downs s e.mid e.goes
    (kept.kind.front e.before (refusal devid e.refused f ∷ []) (subst (λ (r : List Entry). Kind r) e.last calm)) (subst (λ (l : List up.Message). Ties l downs s) split tie)) e.over

-- what the device takes in of what was written
record Split (laws : JointLaws) (Kind : List Entry → Type 0) (Ties : List up.Message → List Put → State → Type 0) (devid : ℕ) (more : List RunStep) (rest : List ℕ) (downs : List Put) (s t : State) : Type 0 where
  pub told : Told Kind devid s more t
  pub left : List up.Message
  pub spelled : SpellAll (up.Spells devid) left rest
  pub tie : Ties (inputs told.run ++ left) downs s
  pub accepted : (f : Field) → t.presence ≡ Closed f → ⊥

splits : (laws : JointLaws) (Kind : List Entry → Type 0) (Ties : List up.Message → List Put → State → Type 0) → IsKept Kind Ties → Kind [] → (devid : ℕ) (written read : List ℕ) (steps more : List RunStep) (s t : State)
    → TellsBy Kind devid s more t → (front : told.IsFront (in_bytes (steps ++ more)) written) → (j : JointBy Ties devid written read steps s) → Split laws Kind Ties devid more front.0 j.downs s t
splits laws Kind Ties kept nothing devid written read steps more s t tells front j =
    let r = told_run laws Kind kept.kind nothing devid s more t tells in
    let split : j.coming ≡ in_bytes more ++ front.0 =
    append_cancel_left (in_bytes steps) j.coming (in_bytes more ++ front.0)
    (sym j.sent ∙ front.1 ∙ ap (λ (l : List ℕ). l ++ front.0) (in-append steps more) ∙ append_assoc (in_bytes steps) (in_bytes more) front.0) in
    let spelled = subst (λ (l : List ℕ). SpellAll (up.Spells devid) j.ups l) split j.spelled in
    let unrefused = refused_none laws Kind Ties kept devid r.run s t (in_bytes more) front.0 j.ups j.downs j.accepted r.goes r.calm r.took spelled (out_bytes more) r.put j.tie in
    let rest = rest_of devid (laws.free devid) (inputs r.run) j.ups (in_bytes more) front.0 ((laws.messages devid r.run s t (in_bytes more) r.goes unrefused).0 r.took) spelled in
    record { told = r; left = rest.0; spelled = rest.2; tie = subst (λ (l : List up.Message). Ties l j.downs s) rest.1 j.tie; accepted = unrefused }

pub joint_goes : (laws : JointLaws) (Kind : List Entry → Type 0) (Ties : List up.Message → List Put → State → Type 0) → IsKept Kind Ties → Kind [] → (devid : ℕ) (written read : List ℕ) (steps more : List RunStep) (s t : State)
    → TellsBy Kind devid s more t → told.IsFront (in_bytes (steps ++ more)) written → JointBy Ties devid written read steps s → JointBy Ties devid written read (steps ++ more) t
joint_goes laws Kind Ties kept nothing devid written read steps more s t tells front j =
    let x = splits laws Kind Ties kept nothing devid written read steps more s t tells front j in
    record {
      coming = front.0;
      ups = x.left;
      sent = front.1;
      spelled = x.spelled;
      behind = j.behind ++ out_bytes more;
      downs = j.downs ++ outputs x.told.run;
      given = out-append steps more ∙ ap (λ (l : List ℕ). l ++ out_bytes more) j.given ∙ append_assoc read j.behind (out_bytes more);
      put = row_together SpellsPut j.downs (outputs x.told.run) j.behind (out_bytes more) j.put x.told.put;
      accepted = x.accepted;
      tie = kept.goes x.told.run x.left j.downs s t x.told.goes x.told.calm x.tie;
    }

pub joint_ran : (laws : JointLaws) (Kind : List Entry → Type 0) (Ties : List up.Message → List Put → State → Type 0) → IsKept Kind Ties → Kind [] → (n : ℕ) (message response : List ℕ)
    → ((run : List Entry) (ups : List up.Message) (downs : List Put) (s t : State) → Runs s run t → Ties (inputs run ++ ups) downs s → Ran n message response s.log → Ran n message response t.log)
    → (devid : ℕ) (written read : List ℕ) (steps more : List RunStep) (s t : State)
    → TellsBy Kind devid s more t → told.IsFront (in_bytes (steps ++ more)) written → JointBy Ties devid written read steps s → Ran n message response s.log → Ran n message response t.log
joint_ran laws Kind Ties kept nothing n message response keeps devid written read steps more s t tells front j ran =
    let x = splits laws Kind Ties kept nothing devid written read steps more s t tells front j in
    keeps x.told.run x.left j.downs s t x.told.goes x.tie ran

-- the two that are kept

abbrev pub Never : Type 0
Never =
    (asked : Endpoint → List SubmitHead) (unlinks : List UnlinkHead) (head : SubmitHead) (transferred : List ℕ) (ups : List up.Message) (downs : List Put) (s : State) (f : Field)
    → Fitting head → AreApart asked → total_of asked ≤ pending_most → Lines asked unlinks (up.Submit head transferred ∷ ups) downs s → IsOver s head f → ⊥

pub tie_kept : ((run : List Entry) (hand : Hand) (waits : Option SubmitHead) (next : ℕ) (ups : List up.Message) (downs : List Put) (s t : State)
    → Runs s run t → IsUndisturbed run → Tie hand waits next (inputs run ++ ups) downs s → Tie hand waits next ups (downs ++ outputs run) t)
    → Never → (hand : Hand) (waits : Option SubmitHead) (next : ℕ) → IsKept IsUndisturbed (λ ups downs t. Tie hand waits next ups downs t)
tie_kept stays never hand waits next = record {
  kind = record { more = undisturbed-append; front = undisturbed_front };
  goes = λ run ups downs s t goes calm tie. stays run hand waits next ups downs s t goes calm tie;
  taken = λ head transferred ups downs s f tie over. never (asked_of waits) [] head transferred ups downs s f tie.fitting.0 (record { rising = rising_asked waits; apart = apart_asked waits }) (few_total waits) tie.lines over;
}

pub bound_kept : ((situation : Situation) (run : List Entry) (waits : Option SubmitHead) (unlinks : List UnlinkHead) (next : ℕ) (ups : List up.Message) (downs : List Put) (s t : State)
    → Runs s run t → StaysPlugged run → Bound situation waits unlinks next (inputs run ++ ups) downs s → Bound situation waits unlinks next ups (downs ++ outputs run) t)
    → Never → (situation : Situation) (waits : Option SubmitHead) (unlinks : List UnlinkHead) (next : ℕ) → IsKept StaysPlugged (λ ups downs t. Bound situation waits unlinks next ups downs t)
bound_kept stays never situation waits unlinks next = record {
  kind = record { more = plugged-append; front = plugged_front };
  goes = λ run ups downs s t goes calm bound. stays situation run waits unlinks next ups downs s t goes calm bound;
  taken = λ head transferred ups downs s f bound over.
      never (asked_of waits) unlinks head transferred ups downs s f bound.bond.fitting.0 (record { rising = rising_asked waits; apart = apart_asked waits }) (few_total waits) bound.bond.lines over;
}

-- ---- what comes next

-- nothing is on its way to a device, where no list has anything
pub no_ups : (ups : List up.Message) → AllFitting ups → unlinks_in ups ≡ [] → ((e : Endpoint) → sent_to e ups ≡ []) → ups ≡ []
no_ups [] fit none empty = refl
no_ups (up.Unlink head ∷ ups) fit none empty = absurd (cc)
no_ups (up.Submit head transferred ∷ ups) fit none empty = absurd (some (sym (empty fit.0.endpoint) ∙ own))
  where
    own : sent_to fit.0.endpoint (up.Submit head transferred ∷ ups) ≡ record { head = head; transferred = transferred } ∷ sent_to fit.0.endpoint ups
    own = rw (eq-eqb head.ep (number_of fit.0.endpoint) fit.0.number) refl

    some : {A : Type 0} {x : A} {l : List A} → [] ≡ x ∷ l → ⊥
    some e = cc

pub no_downs : (hand : Hand) (next : ℕ) (ups : List up.Message) (downs : List Put) (s : State) → AllAnswers IsGood downs → Lines (asked_of None) [] ups downs s → downs ≡ []
no_downs hand next ups [] s good lines = refl
no_downs hand next ups (Unlinked asked a ∷ downs) s good lines = absurd good.0
no_downs hand next ups (Submitted asked a transferred ∷ downs) s good lines =
    absurd (some (sym (all_answered (asked_of None) good.0.0.endpoint ups (Submitted asked a transferred ∷ downs) s lines refl).events ∙ own_event good.0.0.endpoint asked a transferred downs good.0.0.number))
  where
    some : {x : Event} {l : List Event} → [] ≡ x ∷ l → ⊥
    some e = cc

-- where an answer is on its way, it is the one to the submit, and nothing else is
record Alone (ups : List up.Message) (head : SubmitHead) (put : Put) (downs : List Put) : Type 0 where
  pub answer : RetSubmitHead
  pub transferred : List ℕ
  pub is : put ≡ Submitted head answer transferred
  pub ups_none : ups ≡ []
  pub downs_none : downs ≡ []

alone : (hand : Hand) (head : SubmitHead) (next : ℕ) (put : Put) (ups : List up.Message) (downs : List Put) (s : State) → IsGiven hand head put next ups downs s → Tie hand (Some head) next ups (put ∷ downs) s → Alone ups head put downs
alone hand head next put ups downs s given tie =
    let own = subst (λ (p : Put). Tie hand (Some head) next ups (p ∷ downs) s) given.is tie in
    let lines = lines_behind hand head given.answer given.transferred next ups downs s own in
    record {
      answer = given.answer;
      transferred = given.transferred;
      is = given.is;
      ups_none = no_ups ups tie.fitting (none_unlinked (unlinked_by (put ∷ downs)) (unlinks_in ups) tie.lines.unlinked).1 (λ e. (all_answered (asked_of None) e ups downs s lines refl).sent);
      downs_none = no_downs hand next ups downs s tie.good.1 lines;
    }

pub record ReadLaws : Type 0 where
  pub given : (hand : Hand) (head : SubmitHead) (next : ℕ) (put : Put) (ups : List up.Message) (downs : List Put) (s : State) → Tie hand (Some head) next ups (put ∷ downs) s → IsGiven hand head put next ups downs s

pub answer_not_empty : (entries : List Outstanding) (message : down.Message) → SpellsAnswer entries message [] → ⊥
unfolding ret_submit_bytes ret_unlink_bytes fields
answer_not_empty entries (down.RetSubmit head transferred) spelled = let e = spelled.2.layout in cc
answer_not_empty entries (down.RetUnlink head) spelled = let e = spelled.1.layout in cc

own_answer : (head : SubmitHead) (a : RetSubmitHead) (transferred bytes : List ℕ) → a.seqnum ≡ head.seqnum → SpellsRetSubmit (record { dir = head.dir; size = head.length }) a transferred bytes
    → SpellsAnswer (entries_for (Some head)) (down.RetSubmit a transferred) bytes
own_answer head a transferred bytes same spelled = (record { dir = head.dir; size = head.length }, found, spelled)
  where
    found : submit_of (find a.seqnum (entries_for (Some head))) ≡ Some (head.dir, head.length)
    found = rw (eq-eqb head.seqnum a.seqnum (sym same)) refl

pub spelled_put : (head : SubmitHead) (put : Put) (bytes : List ℕ) (a : RetSubmitHead) (transferred : List ℕ) → put ≡ Submitted head a transferred → a.seqnum ≡ head.seqnum → SpellsPut put bytes
    → SpellsAnswer (entries_for (Some head)) (message_of put) bytes
spelled_put head put bytes a transferred is same spelled =
    subst (λ (p : Put). SpellsAnswer (entries_for (Some head)) (message_of p) bytes) (sym is) (own_answer head a transferred bytes same (subst (λ (p : Put). SpellsPut p bytes) is spelled))

all_in : (written took coming : List ℕ) (devid : ℕ) (ups : List up.Message) → written ≡ took ++ coming → SpellAll (up.Spells devid) ups coming → ups ≡ [] → took ≡ written
all_in written took coming devid ups whole spelled none =
    let empty : coming ≡ [] = subst (λ (l : List up.Message). SpellAll (up.Spells devid) l coming) none spelled in
    sym (whole ∙ ap (λ (l : List ℕ). took ++ l) empty ∙ append-nil took)

pub next_answer : (laws : ReadLaws) → ((entries : List Outstanding) → ArePrefixFree (SpellsAnswer entries)) → (devid : ℕ) (hand : Hand) (head : SubmitHead) (next : ℕ) (written read this more : List ℕ) (message : down.Message) (steps : List RunStep) (s : State)
    → Joint devid hand (Some head) next written read steps s → out_bytes steps ≡ read ++ (this ++ more) → SpellsAnswer (entries_for (Some head)) message this
    → IsNextAnswer devid hand head message next written read this steps s
next_answer laws free devid hand head next written read this more message steps s j split spelled =
    by j.downs (append_cancel_left read j.behind (this ++ more) (sym j.given ∙ split)) j.put j.tie
  where
    by : (downs : List Put) → j.behind ≡ this ++ more → SpellAll SpellsPut downs j.behind → Tie hand (Some head) next j.ups downs s → IsNextAnswer devid hand head message next written read this steps s
    by [] comes put tie = absurd (answer_not_empty (entries_for (Some head)) message (subst (λ (l : List ℕ). SpellsAnswer (entries_for (Some head)) message l) (none_front this more (sym comes ∙ put)) spelled))
    by (put ∷ downs) comes (front, after, e, one, rest) tie =
        let given = laws.given hand head next put j.ups downs s tie in
        let only = alone hand head next put j.ups downs s given tie in
        let same = free (entries_for (Some head)) message (message_of put) this front more after spelled (spelled_put head put front given.answer given.transferred given.is given.number one) (sym comes ∙ e) in
        record {
          put = put;
          ups = j.ups;
          downs = downs;
          is = sym same.0;
          given = given;
          taken_in = all_in written (in_bytes steps) j.coming devid j.ups j.sent j.spelled only.ups_none;
          later = λ hand_then tied. record {
            coming = j.coming;
            ups = j.ups;
            sent = j.sent;
            spelled = j.spelled;
            behind = after;
            downs = downs;
            given = j.given ∙ ap (λ (l : List ℕ). read ++ l) (e ∙ ap (λ (l : List ℕ). l ++ after) (sym same.1)) ∙ sym (append_assoc read this after);
            put = rest;
            accepted = j.accepted;
            tie = tied;
          };
        }

none_behind_joint : (devid : ℕ) (hand : Hand) (next : ℕ) (written read : List ℕ) (steps : List RunStep) (s : State) → (j : Joint devid hand None next written read steps s) → j.behind ≡ []
none_behind_joint devid hand next written read steps s j =
    subst (λ (l : List Put). SpellAll SpellsPut l j.behind) (no_downs hand next j.ups j.downs s j.tie.good j.tie.lines) j.put

pub all_read : (devid : ℕ) (hand : Hand) (next : ℕ) (written read : List ℕ) (steps : List RunStep) (s : State) → Joint devid hand None next written read steps s → out_bytes steps ≡ read
all_read devid hand next written read steps s j = j.given ∙ ap (λ (l : List ℕ). read ++ l) (none_behind_joint devid hand next written read steps s j) ∙ append-nil read

pub all_taken_in : (laws : ReadLaws) (devid : ℕ) (hand : Hand) (waits : Option SubmitHead) (next : ℕ) (written read : List ℕ) (steps : List RunStep) (s : State) → Joint devid hand waits next written read steps s
    → out_bytes steps ≢ read → in_bytes steps ≡ written
all_taken_in laws devid hand None next written read steps s j some = absurd (some (all_read devid hand next written read steps s j))
all_taken_in laws devid hand (Some head) next written read steps s j some = by j.downs j.put j.tie
  where
    by : (downs : List Put) → SpellAll SpellsPut downs j.behind → Tie hand (Some head) next j.ups downs s → in_bytes steps ≡ written
    by [] put tie = absurd (some (j.given ∙ ap (λ (l : List ℕ). read ++ l) put ∙ append-nil read))
    by (put ∷ downs) spelled tie =
        all_in written (in_bytes steps) j.coming devid j.ups j.sent j.spelled (alone hand head next put j.ups downs s (laws.given hand head next put j.ups downs s tie) tie).ups_none

-- ---- no field of them is bad

some_bytes : (layer : Layer) → bytes_in layer ≢ 0
some_bytes Op e = cc
some_bytes _ e = cc

pub record FieldLaws : Type 0 where
  pub alone : (entries : List Outstanding) → AreAlone (SpellsAnswer entries) (BadAt Urbs entries)
  pub refused : (entries : List Outstanding) (rest : List ℕ) (f : Field) → BadAt Urbs entries rest f → RefusedAt (SpellsAnswer entries) rest f
  pub stay : (entries : List Outstanding) → AreBadFromTheirLast (BadAt Urbs entries)

pub none_bad : (laws : FieldLaws) (entries : List Outstanding) (rest : List ℕ) (f : Field) → rest ≡ [] → BadAt Urbs entries rest f → ⊥
none_bad laws entries rest f none bad =
    let at = laws.refused entries rest f bad in
    let empty : at.value ≡ [] = none_front at.value at.tail (none_behind at.front (at.value ++ at.tail) (sym at.holds ∙ none)) in
    some_bytes f.layer (sym at.whole ∙ ap (λ (l : List ℕ). length l) empty)

pub never_bad : (reads : ReadLaws) (laws : FieldLaws) (devid : ℕ) (hand : Hand) (waits : Option SubmitHead) (next : ℕ) (written read rest more : List ℕ) (steps : List RunStep) (s : State) (f : Field)
    → Joint devid hand waits next written read steps s → out_bytes steps ≡ read ++ (rest ++ more) → BadAt Urbs (entries_for waits) rest f → ⊥
never_bad reads laws devid hand None next written read rest more steps s f j split bad =
    none_bad laws [] rest f (none_front rest more (sym (append_cancel_left read j.behind (rest ++ more) (sym j.given ∙ split)) ∙ none_behind_joint devid hand next written read steps s j)) bad
never_bad reads laws devid hand (Some head) next written read rest more steps s f j split bad =
    by j.downs (append_cancel_left read j.behind (rest ++ more) (sym j.given ∙ split)) j.put j.tie
  where
    by : (downs : List Put) → j.behind ≡ rest ++ more → SpellAll SpellsPut downs j.behind → Tie hand (Some head) next j.ups downs s → ⊥
    by [] comes put tie = none_bad laws (entries_for (Some head)) rest f (none_front rest more (sym comes ∙ put)) bad
    by (put ∷ downs) comes (front, after, e, one, others) tie =
        let given = reads.given hand head next put j.ups downs s tie in
        let worse = ((laws.stay (entries_for (Some head)) rest more f).0 bad).0 in
        (laws.alone (entries_for (Some head)) (rest ++ more) f worse).0 (message_of put) front after
        (spelled_put head put front given.answer given.transferred given.is given.number one) (sym comes ∙ e)

-- ---- behind a cancel

-- one more message was written, or none
pub writes_on : (Before After : List up.Message → List Put → State → Type 0) (devid : ℕ) (message : up.Message) (text written read : List ℕ) (steps : List RunStep) (s : State) → up.Spells devid message text
    → ((ups : List up.Message) (downs : List Put) → Before ups downs s → After (ups ++ message ∷ []) downs s) → JointBy Before devid written read steps s → JointBy After devid (written ++ text) read steps s
writes_on Before After devid message text written read steps s spelled goes j = record {
  coming = j.coming ++ text;
  ups = j.ups ++ message ∷ [];
  sent = ap (λ (l : List ℕ). l ++ text) j.sent ∙ append_assoc (in_bytes steps) j.coming text;
  spelled = row_together (up.Spells devid) j.ups (message ∷ []) j.coming text j.spelled (text, [], sym (append-nil text), spelled, refl);
  behind = j.behind;
  downs = j.downs;
  given = j.given;
  put = j.put;
  accepted = j.accepted;
  tie = goes j.ups j.downs j.tie;
}

pub goes_on : (Before After : List up.Message → List Put → State → Type 0) (devid : ℕ) (written read : List ℕ) (steps : List RunStep) (s : State)
    → ((ups : List up.Message) (downs : List Put) → Before ups downs s → After ups downs s) → JointBy Before devid written read steps s → JointBy After devid written read steps s
goes_on Before After devid written read steps s goes j = record {
  coming = j.coming;
  ups = j.ups;
  sent = j.sent;
  spelled = j.spelled;
  behind = j.behind;
  downs = j.downs;
  given = j.given;
  put = j.put;
  accepted = j.accepted;
  tie = goes j.ups j.downs j.tie;
}

-- the first answer is to one of those that are not answered
first_asked : {B : Type 0} (asked : SubmitHead) (rest : List SubmitHead) → [] ≡ asked ∷ rest → B
first_asked asked rest e = absurd (cc)

unlink_found : (waits : Option SubmitHead) (unlink : UnlinkHead) (rest : List UnlinkHead) → IsApart waits (unlink ∷ rest) → is_unlink (find unlink.seqnum (entries_of waits (unlink ∷ rest))) ≡ true
unlink_found None unlink rest apart = rw (eq-eqb unlink.seqnum unlink.seqnum refl) refl
unlink_found (Some head) unlink rest apart = rw (ne_eqb head.seqnum unlink.seqnum apart.0) (rw (eq-eqb unlink.seqnum unlink.seqnum refl) refl)

pub submit_found : (head : SubmitHead) (unlinks : List UnlinkHead) (a : RetSubmitHead) (transferred bytes : List ℕ) → a.seqnum ≡ head.seqnum → SpellsRetSubmit (record { dir = head.dir; size = head.length }) a transferred bytes
    → SpellsAnswer (entries_of (Some head) unlinks) (down.RetSubmit a transferred) bytes
submit_found head unlinks a transferred bytes same spelled = (record { dir = head.dir; size = head.length }, found, spelled)
  where
    found : submit_of (find a.seqnum (entries_of (Some head) unlinks)) ≡ Some (head.dir, head.length)
    found = rw (eq-eqb head.seqnum a.seqnum (sym same)) refl

-- the first answer of a bond is spelled as one to what is not answered
pub first_of_bond : (Holds : List up.Message → List Put → State → Type 0) (waits : Option SubmitHead) (unlinks : List UnlinkHead) (next : ℕ) (put : Put) (ups : List up.Message) (downs : List Put) (s : State) (bytes : List ℕ) → IsApart waits unlinks
    → Bond Holds (asked_of waits) unlinks next ups (put ∷ downs) s → SpellsPut put bytes → SpellsAnswer (entries_of waits unlinks) (message_of put) bytes
first_of_bond Holds None unlinks next (Submitted asked a transferred) ups downs s bytes apart bond spelled =
    first_asked asked _ (submit_answered (asked_of None) unlinks ups asked a transferred downs s bond.fits.0.0.endpoint bond.fits.0.0.number bond.lines).1
first_of_bond Holds (Some head) unlinks next (Submitted asked a transferred) ups downs s bytes apart bond spelled =
    let fits = bond.fits.0.0 in
    let same = the_one (eqb head.ep (number_of fits.endpoint)) head asked _ (submit_answered (asked_of (Some head)) unlinks ups asked a transferred downs s fits.endpoint fits.number bond.lines).1 in
    submit_found head unlinks a transferred bytes (bond.fits.0.1.number ∙ ap (λ (x : SubmitHead). x.seqnum) same)
    (subst (λ (x : SubmitHead). SpellsRetSubmit (record { dir = x.dir; size = x.length }) a transferred bytes) same spelled)
first_of_bond Holds waits unlinks next (Unlinked asked a) ups downs s bytes apart bond spelled =
    let taken = unlink_answered (asked_of waits) unlinks ups asked a downs s bond.lines in
    let found = unlink_found waits asked taken.0 (subst (λ (l : List UnlinkHead). IsApart waits l) taken.1 apart) in (
      subst (λ (n : ℕ). is_unlink (find n (entries_of waits unlinks)) ≡ true) (sym bond.fits.0.number) (subst (λ (l : List UnlinkHead). is_unlink (find asked.seqnum (entries_of waits l)) ≡ true) (sym taken.1) found),
      spelled,
    )

pub first_spelled : (situation : Situation) (waits : Option SubmitHead) (unlinks : List UnlinkHead) (next : ℕ) (put : Put) (ups : List up.Message) (downs : List Put) (s : State) (bytes : List ℕ) → IsApart waits unlinks
    → Bound situation waits unlinks next ups (put ∷ downs) s → SpellsPut put bytes → SpellsAnswer (entries_of waits unlinks) (message_of put) bytes
first_spelled situation waits unlinks next put ups downs s bytes apart bound spelled = first_of_bond _ waits unlinks next put ups downs s bytes apart bound.bond spelled

pub next_of : ((entries : List Outstanding) → ArePrefixFree (SpellsAnswer entries)) → (devid : ℕ) (situation : Situation) (waits : Option SubmitHead) (unlinks : List UnlinkHead) (next : ℕ) (written read this more : List ℕ) (message : down.Message) (steps : List RunStep) (s : State)
    → IsApart waits unlinks → Joined devid situation waits unlinks next written read steps s → out_bytes steps ≡ read ++ (this ++ more) → SpellsAnswer (entries_of waits unlinks) message this
    → IsNextOf devid situation waits unlinks message next written read this steps s
next_of free devid situation waits unlinks next written read this more message steps s apart j split spelled =
    by j.downs (append_cancel_left read j.behind (this ++ more) (sym j.given ∙ split)) j.put j.tie
  where
    by : (downs : List Put) → j.behind ≡ this ++ more → SpellAll SpellsPut downs j.behind → Bound situation waits unlinks next j.ups downs s → IsNextOf devid situation waits unlinks message next written read this steps s
    by [] comes put bound = absurd (answer_not_empty (entries_of waits unlinks) message (subst (λ (l : List ℕ). SpellsAnswer (entries_of waits unlinks) message l) (none_front this more (sym comes ∙ put)) spelled))
    by (put ∷ downs) comes (front, after, e, one, rest) bound =
        let same = free (entries_of waits unlinks) message (message_of put) this front more after spelled (first_spelled situation waits unlinks next put j.ups downs s front apart bound one) (sym comes ∙ e) in
        record {
          put = put;
          ups = j.ups;
          downs = downs;
          is = sym same.0;
          bound = bound;
          later = λ then_at left others then_bound. record {
            coming = j.coming;
            ups = j.ups;
            sent = j.sent;
            spelled = j.spelled;
            behind = after;
            downs = downs;
            given = j.given ∙ ap (λ (l : List ℕ). read ++ l) (e ∙ ap (λ (l : List ℕ). l ++ after) (sym same.1)) ∙ sym (append_assoc read this after);
            put = rest;
            accepted = j.accepted;
            tie = then_bound;
          };
        }

pub never_bad_bound : (laws : FieldLaws) (devid : ℕ) (situation : Situation) (waits : Option SubmitHead) (unlinks : List UnlinkHead) (next : ℕ) (written read rest more : List ℕ) (steps : List RunStep) (s : State) (f : Field)
    → IsApart waits unlinks → Joined devid situation waits unlinks next written read steps s → out_bytes steps ≡ read ++ (rest ++ more) → BadAt Urbs (entries_of waits unlinks) rest f → ⊥
never_bad_bound laws devid situation waits unlinks next written read rest more steps s f apart j split bad =
    by j.downs (append_cancel_left read j.behind (rest ++ more) (sym j.given ∙ split)) j.put j.tie
  where
    by : (downs : List Put) → j.behind ≡ rest ++ more → SpellAll SpellsPut downs j.behind → Bound situation waits unlinks next j.ups downs s → ⊥
    by [] comes put bound = none_bad laws (entries_of waits unlinks) rest f (none_front rest more (sym comes ∙ put)) bad
    by (put ∷ downs) comes (front, after, e, one, others) bound =
        let worse = ((laws.stay (entries_of waits unlinks) rest more f).0 bad).0 in
        (laws.alone (entries_of waits unlinks) (rest ++ more) f worse).0 (message_of put) front after (first_spelled situation waits unlinks next put j.ups downs s front apart bound one) (sym comes ∙ e)

-- what holds of a hub by each account of it: over a lawful device that nothing disturbs it has not ended with a fault
use Rattle.std.proofs.Common.{◌≡◌, ◌≢◌, ◌∙◌, ◌≤◌, ◌<◌, ◌+◌, ℕ, ℤ, pos, Bool, true, false, List, [], ◌∷◌, ◌++◌, length, Option, Some, None, refl, sym, ap, subst, arith, append_assoc, append-nil, length-append}
use Rattle.std.proofs.lemmas.Bool.{lt-ltb}
use Rattle.std.specs.Int.{w32, to_be_bytes}
use Rattle.std.specs.Ordering.{int_eq}
use Rattle.std.specs.Prelude.{is_some, if◌then◌else◌}
use Rattle.tmc_base.specs.declared.field.Field.{Field}
use Rattle.tmc_base.specs.declared.run_step.RunStep.{RunStep}
use Rattle.tmc_base.specs.Link.{Counts}
use Rattle.tmc_base.specs.Told.{Bytes, Peer, Silent, Told, in_bytes, out_bytes}
use Rattle.usbip_wire.specs.Awaited.{Awaited, entries_of, number_of, sent_by}
use Rattle.usbip_wire.specs.Down as down
use Rattle.usbip_wire.specs.DownFed.{BadAt}
use Rattle.usbip_wire.specs.Up as up
use Rattle.usbip_wire.specs.declared.dirs.Outstanding as wire
use Rattle.usbip_wire.specs.declared.dirs.TheConstants.{DIRS_MAX}
use Rattle.usbip_wire.specs.declared.down.DownPhase.TheVariants.{Urbs}
use Rattle.usbip_wire.specs.declared.submit.SubmitHead.{SubmitHead}
use Rattle.tmc_law.specs.State.{State}
use Rattle.host_joint.specs.Hand.{Hand}
use Rattle.host_joint.specs.Joint.{Joint, entries_for}
use Rattle.host_urbs.specs.Record as urbs
use Rattle.host_hub.specs.declared.hub_core.HubCore.{HubCore}
use Rattle.host_hub.specs.declared.outcome.End.{End}
use Rattle.host_hub.specs.declared.outcome.End.TheVariants as end
use Rattle.host_hub.specs.Behind.{Account, HubFacts}
use Rattle.host_hub.specs.BookSeen.{Seen}
use Rattle.host_hub.specs.Calls.{All}
use Rattle.host_hub.specs.Crossings.{crossings}
use Rattle.host_hub.specs.Ends.{end_due, fault_end}
use Rattle.host_hub.specs.Hand.{ended}
use Rattle.host_hub.specs.Joined.{IsJoined, IsServed, IsSimple, hand_of, head_in, ran, waits_in, waits_of}
use Rattle.host_hub.specs.Law.{ByBytes, ByClosing, ByFault, ByItself, ByNumbers, Lawful, StopLaw}
use Rattle.host_hub.specs.Order.{Setting, is_bulk, message_of}
use Rattle.host_hub.specs.Outstanding.{Sent, awaited_by, find, outstanding}
use Rattle.host_hub.specs.Book.{or_else}
use Rattle.host_hub.specs.Owned.{Owned}
use Rattle.host_hub.specs.Record.{Asked, Cancelled, Cleared, Fell, GaveUp, Happening, Past, Recovers, Settled, Stopped, Took, Wrote, next}
use Rattle.host_hub.specs.Shown.{ShowsTicket}
use Rattle.host_hub.specs.Tied.{IsRefused, below, entries_sent, stopped}
use Rattle.host_hub.specs.Undisturbed.{AllOwned, IsFaultless, IsJoinedTo, Undisturbed}
use Rattle.host_hub.proofs.Accounts.{next_counts}
use Rattle.host_hub.proofs.Counts.{all_sent, stands_so}
use Rattle.host_hub.proofs.InHand.{is_submit}
use Rattle.host_hub.proofs.JoiningWrites.{ran_running}
use Rattle.host_hub.proofs.JoiningAnswers.{entries_same}
use Rattle.host_hub.proofs.Messages.{next_same}
use Rattle.host_hub.proofs.Numbers.{Below, below_up, entry_number, outstanding_falls, same_outstanding}
use Rattle.host_hub.proofs.Owns.{ran_as}
use Rattle.host_hub.proofs.Plain.{NoneOut, OneOut, Out}
use Rattle.host_hub.proofs.PlainStands.{stands}
use Rattle.host_hub.proofs.Sound.{book_ok, caused, recovered, traffic, unlinked, waiting}

-- what the laws say
pub record Says : Type 0 where
  pub owns : (s : Setting) (past : Past) (bytes read : List ℕ) (steps : List RunStep) (state : State) → IsSimple s → Lawful s past
      → IsJoined s past bytes read steps state → (ticket : ℕ) (seen : Seen) → ShowsTicket past ticket seen → Owned seen state.log
  pub few : (s : Setting) (past : Past) → Lawful s past → length (outstanding past) ≤ DIRS_MAX
  pub bad : (devid : ℕ) (hand : Hand) (waits : Option SubmitHead) (next : ℕ) (written read rest more : List ℕ) (steps : List RunStep) (s : State) (f : Field)
      → Joint devid hand waits next written read steps s → out_bytes steps ≡ read ++ (rest ++ more) → BadAt Urbs (entries_for waits) rest f → ⊥
  pub taken_in : (devid : ℕ) (hand : Hand) (waits : Option SubmitHead) (next : ℕ) (written read : List ℕ) (steps : List RunStep) (s : State)
      → Joint devid hand waits next written read steps s → out_bytes steps ≢ read → in_bytes steps ≡ written

-- ---- how it ended

no_some : {P : Type 0} (e : End) → None ≡ Some e → P
no_some e f = cc

same_end : (e f : End) → Some e ≡ Some f → e ≡ f
same_end e f g = cc

-- an ended hub that was served stopped
record StoppedAt (s : Setting) (past : Past) (e : End) : Type 0 where
  pub before : Past
  pub law : StopLaw s before e
  pub served : All IsServed before
  pub stop : stopped past ≡ Some e

stopped_on : (s : Setting) (past more : Past) (e : End) → stopped more ≡ stopped past → StoppedAt s past e → StoppedAt s more e
stopped_on s past more e same x = record { before = x.before; law = x.law; served = x.served; stop = same ∙ x.stop }

stopped_at : (s : Setting) (past : Past) (e : End) → Lawful s past → All IsServed past → ended past ≡ Some e → StoppedAt s past e
stopped_at s [] e h v f = no_some e f
stopped_at s (Stopped g ∷ past) e h v f =
    let is : g ≡ e = same_end g e f in
    record { before = past; law = subst (λ (x : End). StopLaw s past x) is h.1.1; served = v.1; stop = f }
stopped_at s (Fell m g ∷ past) e h v f = absurd v.0
stopped_at s (Wrote n o k ∷ past) e h v f = stopped_on s past (Wrote n o k ∷ past) e refl (stopped_at s past e h.0 v.1 f)
stopped_at s (Took m ∷ past) e h v f = stopped_on s past (Took m ∷ past) e refl (stopped_at s past e h.0 v.1 f)
stopped_at s (Recovers ∷ past) e h v f = stopped_on s past (Recovers ∷ past) e refl (stopped_at s past e h.0 v.1 f)
stopped_at s (Asked t a ∷ past) e h v f = stopped_on s past (Asked t a ∷ past) e refl (stopped_at s past e h.0 v.1 f)
stopped_at s (Cancelled t ∷ past) e h v f = stopped_on s past (Cancelled t ∷ past) e refl (stopped_at s past e h.0 v.1 f)
stopped_at s (Cleared w ∷ past) e h v f = stopped_on s past (Cleared w ∷ past) e refl (stopped_at s past e h.0 v.1 f)
stopped_at s (GaveUp ∷ past) e h v f = stopped_on s past (GaveUp ∷ past) e refl (stopped_at s past e h.0 v.1 f)
stopped_at s (Settled t o ∷ past) e h v f = stopped_on s past (Settled t o ∷ past) e refl (stopped_at s past e h.0 v.1 f)

-- of a hub that was served no fault is due
good_end : (x : Option Sent) (status : ℤ) → status ≡ pos 0 → fault_end x status ≡ None
good_end None status e = refl
good_end (Some x) status e = by (is_bulk x.order)
  where
    by : (b : Bool) → (if b then (if int_eq status (pos 0) then None else Some (end.DeviceFault status)) else None) ≡ None
    by true = ap (λ (z : ℤ). if int_eq z (pos 0) then None else Some (end.DeviceFault z)) e
    by false = refl

or_none : (a b : Option End) → b ≡ None → or_else a b ≡ a
or_none None b e = e
or_none (Some x) b e = refl

due_given : (past : Past) (e : End) → All IsServed past → end_due past ≡ Some e → e ≡ end.GivenUp
due_given [] e v f = no_some e f
due_given (GaveUp ∷ past) e v f = by (end_due past) refl (λ g. due_given past e v.1 g) f
  where
    by : (o : Option End) → end_due past ≡ o → (end_due past ≡ Some e → e ≡ end.GivenUp) → or_else o (Some end.GivenUp) ≡ Some e → e ≡ end.GivenUp
    by None is again g = sym (same_end _ _ g)
    by (Some x) is again g = again (is ∙ g)
due_given (Took (down.RetSubmit head bytes) ∷ past) e v f =
    due_given past e v.1 (sym (or_none (end_due past) _ (good_end (find head.seqnum (outstanding past)) head.status v.0)) ∙ f)
due_given (Took (down.RetUnlink head) ∷ past) e v f = absurd v.0
due_given (Fell m g ∷ past) e v f = absurd v.0
due_given (Stopped g ∷ past) e v f = due_given past e v.1 f
due_given (Wrote n o k ∷ past) e v f = due_given past e v.1 f
due_given (Recovers ∷ past) e v f = due_given past e v.1 f
due_given (Asked t a ∷ past) e v f = due_given past e v.1 f
due_given (Cancelled t ∷ past) e v f = due_given past e v.1 f
due_given (Cleared w ∷ past) e v f = due_given past e v.1 f
due_given (Settled t o ∷ past) e v f = due_given past e v.1 f

-- ---- what is out behind the end

some_same : (s : Setting) (past : Past) → Lawful s past → All IsServed past → outstanding (ran past) ≡ outstanding past
some_same s [] h v = refl
some_same s (x ∷ past) h v = by (ended (x ∷ past)) refl (some_same s past h.0 v.1)
  where
    over : (d : End) (y : Happening) → ended (y ∷ past) ≡ Some d → Lawful s (y ∷ past) → IsServed y → outstanding past ≡ outstanding (y ∷ past)
    over d (Stopped e) f k w = refl
    over d (Settled t o) f k w = refl
    over d (Fell m e) f k w = absurd w
    over d (Wrote n o j) f k w = no_some d (sym k.1.0.running ∙ f)
    over d (Took m) f k w = no_some d (sym k.1.0.running ∙ f)
    over d Recovers f k w = no_some d (sym k.1.0.running ∙ f)
    over d (Asked t a) f k w = no_some d (sym k.1.0.running ∙ f)
    over d (Cancelled t) f k w = no_some d (sym k.1.0.running ∙ f)
    over d (Cleared t) f k w = no_some d (sym k.1.0.running ∙ f)
    over d GaveUp f k w = no_some d (sym k.1.0.running ∙ f)

    by : (e : Option End) → ended (x ∷ past) ≡ e → outstanding (ran past) ≡ outstanding past → outstanding (ran (x ∷ past)) ≡ outstanding (x ∷ past)
    by None e r = ap outstanding (ran_running (x ∷ past) e)
    by (Some d) e r = ap outstanding (ap (λ (w : Option End). if is_some w then ran past else x ∷ past) e) ∙ r ∙ over d x e h v.0

-- the entries of all that is out
all_entries : (s : Setting) (past : Past) → Lawful s past → (o : Out (ran past)) → outstanding (ran past) ≡ outstanding past
    → entries_of (urbs.outstanding (crossings s past)) ≡ entries_for (waits_of s past)
all_entries s past h (NoneOut e) same =
    ap entries_of (sym (same_outstanding s past h)) ∙ ap (λ (xs : List Sent). entries_of (awaited_by s xs)) (sym same ∙ e)
    ∙ ap (λ (xs : List Sent). entries_for (waits_in s xs)) (sym (sym same ∙ e))
all_entries s past h (OneOut t n k p e hand lives l) same =
    entries_same s past n t k h p (sym same ∙ e)
    ∙ ap (λ (m : up.Message). entries_for (head_in m)) (sym (is_submit s n k p))
    ∙ ap (λ (xs : List Sent). entries_for (waits_in s xs)) (sym (sym same ∙ e))

-- ---- all was sent, where the outbox is empty

no_cons : {A P : Type 0} (x : A) (xs : List A) → x ∷ xs ≡ [] → P
no_cons x xs e = cc

abbrev AllLess : ℕ → List Awaited → Type 0
AllLess n [] = Unit {0}
AllLess n (x ∷ xs) = (number_of x < n) × AllLess n xs

all_below : (n : ℕ) (xs : List Awaited) → AllLess n xs → below n xs ≡ xs
all_below n [] h = refl
all_below n (x ∷ xs) h = ap (λ (b : Bool). if b then x ∷ below n xs else below n xs) (lt-ltb (number_of x) n h.0) ∙ ap (λ (l : List Awaited). x ∷ l) (all_below n xs h.1)

none_bad_nothing : (entries : List wire.Outstanding) (f : Field) → BadAt Urbs entries [] f → ⊥
none_bad_nothing entries f bad = let e : [] ≡ to_be_bytes w32 bad.0 ++ bad.1 = bad.3 in cc

less_back : (n : ℕ) (xs : List Awaited) (x : Awaited) → AllLess n xs → number_of x < n → AllLess n (xs ++ x ∷ [])
less_back n [] x a h = (h, tt)
less_back n (y ∷ xs) x a h = (a.0, less_back n xs x a.1 h)

all_less : (s : Setting) (n : ℕ) (xs : List Sent) → Below n xs → AllLess n (awaited_by s xs)
all_less s n [] b = tt
all_less s n (x ∷ xs) b =
    less_back n (awaited_by s xs) (sent_by (message_of s x.number x.order)) (all_less s n xs (below_up x.number n xs (omega (arith, b.0)) b.1))
    (let e = entry_number s x.number x.order in omega (arith, b.0, e))

-- ---- nothing that came is refused

module _ (says : Says) (s : Setting) (past : Past) (sent : List ℕ) (core : HubCore) (start : Told) (out into : List ℕ) (run : List RunStep) (counts : Counts) (received : List ℕ)
    (a : Account start (Peer out into run) counts s past sent received core) (state : State) (u : Undisturbed s past start (Peer out into run) state) where
  is_joined : IsJoinedTo s past core.urbs.outbox a.rest out into run state
  is_joined = a.joined state u

  h : Lawful s past
  h = a.rests.kept.lawful

  served : All IsServed past
  served = is_joined.joined.served

  told : out_bytes run ≡ is_joined.read ++ (a.rest ++ is_joined.fits.outputs.0)
  told = is_joined.fits.outputs.1 ∙ ap (λ (l : List ℕ). l ++ is_joined.fits.outputs.0) is_joined.cut ∙ append_assoc is_joined.read a.rest is_joined.fits.outputs.0

  -- where bytes came that were not read, all that was written was sent
  nothing_left : a.rest ≢ [] → core.urbs.outbox ≡ []
  nothing_left some =
      let all : in_bytes run ≡ out ++ core.urbs.outbox = says.taken_in s.devid (hand_of (ran past)) (waits_of s past) (next s.first past) (out ++ core.urbs.outbox) is_joined.read run state
      is_joined.joined.joint (λ same. some (front_none is_joined.read a.rest is_joined.fits.outputs.0 (sym told ∙ same))) in
      let long : length (out ++ core.urbs.outbox) ≤ length out = omega (arith, ap length all, ap length is_joined.fits.inputs.1, length-append (in_bytes run) is_joined.fits.inputs.0) in
      no_length core.urbs.outbox (omega (arith, long, length-append out core.urbs.outbox))
    where
      no_length : (xs : List ℕ) → length xs ≡ 0 → xs ≡ []
      no_length [] e = refl
      no_length (x ∷ xs) e = absurd (let f : length (x ∷ xs) ≡ 0 = e in omega (arith, f))

      front_none : (read rest more : List ℕ) → read ++ (rest ++ more) ≡ read → rest ≡ []
      front_none read rest more e = no_length rest (omega (arith, ap length e, length-append read (rest ++ more), length-append rest more))

  none_refused : (f : Field) → IsRefused s past a.count a.rest f → ⊥
  none_refused f bad = by a.rest refl
    where
      by : (rest : List ℕ) → a.rest ≡ rest → ⊥
      by [] e = none_bad_nothing (entries_sent s past a.count) f (subst (λ (l : List ℕ). BadAt Urbs (entries_sent s past a.count) l f) e bad)
      by (x ∷ rest) e =
          let empty = nothing_left (λ g. no_cons x rest (sym e ∙ g)) in
          let counted = all_sent s past sent a.count a.whole (ap length (sym (append-nil sent) ∙ ap (λ (l : List ℕ). sent ++ l) (sym empty) ∙ stands_so s past sent core a.rests.knows)) in
          let numbers : next s.first past ≡ s.first + a.count = next_counts s past ∙ ap (λ (n : ℕ). s.first + n) (sym counted) in
          let less : AllLess (s.first + a.count) (urbs.outstanding (crossings s past)) =
          subst (λ (xs : List Awaited). AllLess (s.first + a.count) xs) (same_outstanding s past h)
          (all_less s (s.first + a.count) (outstanding past) (subst (λ (n : ℕ). Below n (outstanding past)) numbers (outstanding_falls s past h))) in
          let r = ran_as s past h u.plain served in
          let entries : entries_sent s past a.count ≡ entries_for (waits_of s past) =
          ap entries_of (all_below (s.first + a.count) (urbs.outstanding (crossings s past)) less)
          ∙ all_entries s past h (stands s (ran past) u.simple r.lawful r.plain r.served r.running).out (some_same s past h served) in
          says.bad s.devid (hand_of (ran past)) (waits_of s past) (next s.first past) (out ++ core.urbs.outbox) is_joined.read a.rest is_joined.fits.outputs.0 run state f
          is_joined.joined.joint told (subst (λ (es : List wire.Outstanding). BadAt Urbs es a.rest f) entries bad)

  no_fault : (e : End) → ended past ≡ Some e → IsFaultless (Some e)
  no_fault e f = by (stopped_at s past e h served f)
    where
      by_law : (g : End) → (q : Past) → All IsServed q → stopped past ≡ Some g → StopLaw s q g → IsFaultless (Some g)
      by_law g q v stop (ByFault is quiet) = subst (λ (x : End). IsFaultless (Some x)) (sym is) tt
      by_law g q v stop (ByClosing is quiet) = subst (λ (x : End). IsFaultless (Some x)) (sym is) tt
      by_law g q v stop (ByBytes field is quiet) = absurd (none_refused field (a.shows.refused field (stop ∙ ap (λ (x : End). Some x) is)))
      by_law g q v stop (ByItself due settled) = subst (λ (x : End). IsFaultless (Some x)) (sym (due_given q g v due)) tt
      by_law g q v stop (ByNumbers is due) = subst (λ (x : End). IsFaultless (Some x)) (sym is) tt

      by : StoppedAt s past e → IsFaultless (Some e)
      by x = by_law e x.before x.served x.stop x.law

faultless_now : Says → (start now : Told) (counts : Counts) (s : Setting) (past : Past) (sent received : List ℕ) (core : HubCore) → Account start now counts s past sent received core
    → (state : State) → Undisturbed s past start now state → (e : Option End) → ended past ≡ e → IsFaultless e
faultless_now says start now counts s past sent received core a state u None e = tt
faultless_now says start Silent counts s past sent received core a state u (Some d) e = absurd (a.joined state u)
faultless_now says start (Bytes x y) counts s past sent received core a state u (Some d) e = absurd (a.joined state u)
faultless_now says start (Peer out into run) counts s past sent received core a state u (Some d) e =
    no_fault says s past sent core start out into run counts received a state u d e

owned_now : Says → (start now : Told) (counts : Counts) (s : Setting) (past : Past) (sent received : List ℕ) (core : HubCore) → Account start now counts s past sent received core
    → (state : State) → Undisturbed s past start now state → AllOwned core.book.tickets state.log
owned_now says start Silent counts s past sent received core a state u = absurd (a.joined state u)
owned_now says start (Bytes x y) counts s past sent received core a state u = absurd (a.joined state u)
owned_now says start (Peer out into run) counts s past sent received core a state u = λ ticket seen found.
    let j : IsJoinedTo s past core.urbs.outbox a.rest out into run state = a.joined state u in
    says.owns s past (out ++ core.urbs.outbox) j.read run state u.simple a.rests.kept.lawful j.joined ticket seen (a.rests.knows.shows.each ticket seen found)

pub account_facts : Says → (start now : Told) (counts : Counts) (s : Setting) (past : Past) (sent received : List ℕ) (core : HubCore) → Account start now counts s past sent received core
    → HubFacts start now s past core
account_facts says start now counts s past sent received core a = record {
  book = book_ok s past a.rests.kept;
  caused = caused s past a.rests.kept;
  unlinked = unlinked s past a.rests.kept;
  traffic = traffic s past a.rests.kept;
  recovered = recovered s past a.rests.kept;
  waiting = waiting s past a.rests.kept;
  plain = a.plain;
  bounded = record {
    unanswered = says.few s past a.rests.kept.lawful;
    unsent = a.short;
    asked = a.rests.knows.few;
    sum = a.sum;
    messages = λ ticket asking asks. (a.rests.knows.proper ticket asking asks).short;
  };
  shown = a.rests.knows.shows;
  over = a.rests.knows.over;
  number = a.rests.knows.follows.number ∙ sym (next_same s past);
  owned = owned_now says start now counts s past sent received core a;
  faultless = λ state u. subst IsFaultless (sym a.rests.knows.over) (faultless_now says start now counts s past sent received core a state u (ended past) refl);
}

-- the steps of an attachment, in a row
use Rattle.std.proofs.Common.{◌≡◌, ℕ, ◌+◌, ◌<◌, ◌≤◌, List, [], ◌∷◌, ◌++◌, length, take, drop, get_or, Result, Ok, Err, refl, sym, subst, ◌∙◌, ap, arith, append_assoc, length-drop}
use Rattle.std.specs.Prelude.{Bool, true, false, if◌then◌else◌}
use Rattle.std.proofs.lemmas.List.{append-nil, drop-drop, take_all}
use Rattle.std.proofs.Math.ListN.{drop_of_length-le}
use Rattle.std.proofs.Math.Seq.{take-add}
use Rattle.tmc_base.specs.declared.link.SendStep.{SendStep}
use Rattle.tmc_base.specs.declared.link.SendStep.TheVariants as send
use Rattle.tmc_base.specs.declared.link.PollStep.{PollStep}
use Rattle.tmc_base.specs.declared.link.PollStep.TheVariants as poll
use Rattle.tmc_base.specs.Link.{Counts}
use Rattle.tmc_base.specs.Told.{Told}
use Rattle.usbip_wire.specs.declared.down.Down.{Down}
use Rattle.usbip_wire.specs.declared.down.Down.TheVariants as down
use Rattle.usbip_wire.specs.declared.down.DownPhase.{DownPhase}
use Rattle.usbip_wire.specs.declared.down.DownPhase.TheVariants.{Ops, Urbs}
use Rattle.usbip_wire.specs.declared.dirs.Outstanding.{Outstanding}
use Rattle.usbip_wire.specs.Down.{RetSubmit, RetUnlink}
use Rattle.usbip_wire.specs.declared.ret_submit.RetSubmitHead.{RetSubmitHead}
use Rattle.usbip_wire.specs.DownFed.{Held, Means, NoneWhole, data_in, data_of}
use Rattle.usbip_wire.specs.Urb.{Fits32, message_max}
use Rattle.host_urbs.specs.declared.attached.AttachFault.{AttachFault}
use Rattle.host_urbs.specs.declared.attached.AttachFault.TheVariants as fault
use Rattle.host_urbs.specs.declared.attached.Attached.{Attached}
use Rattle.usb_setup.specs.declared.ends.Ends.{Ends}
use Rattle.usbip_wire.specs.declared.device.DeviceRecord.{DeviceRecord}
use Rattle.host_urbs.specs.Attaching.{Goes, took_byte, IsImported, IsGood, IsDescribed}
use Rattle.host_urbs.specs.Attach.{Stage, Importing, Describing, Configuring, phase_of, entries_at, IsAnswer, Undecided, Awaits, At, SendGoes, PollGoes, Sent, SentNone, Took, TookNone, Path, here, on, Last, Wants, Stops, Attaches, Imported, Described, request_of, devid_of}

-- ---- what is awaited

-- a message is no front of bytes in which none is whole
pub not_whole : (phase : DownPhase) (entries : List Outstanding) (what : Down) (bytes : List ℕ) → NoneWhole phase entries bytes → Means phase entries what bytes → ⊥
not_whole (Ops devices interfaces) entries what bytes none m = none what bytes [] m (sym (append-nil bytes))
not_whole Urbs entries (down.RetSubmit head) bytes none m = none (RetSubmit head (drop 48 bytes)) bytes [] m (sym (append-nil bytes))
not_whole Urbs entries (down.RetUnlink head) bytes none m = none (RetUnlink head) bytes [] m (sym (append-nil bytes))
not_whole Urbs entries (down.Count status devices) bytes none m = m
not_whole Urbs entries (down.Device device) bytes none m = m
not_whole Urbs entries (down.Interface class subclass protocol) bytes none m = m
not_whole Urbs entries (down.Import status device) bytes none m = m
not_whole Urbs entries down.More bytes none m = m
not_whole Urbs entries (down.Bad f) bytes none m = m

-- one byte more may always be taken
pub awaits_one : (stage : Stage) (bytes : List ℕ) → Undecided stage bytes → Awaits stage bytes 1
awaits_one stage bytes u = record { undecided = u; some = omega arith; within = within }
  where
    within : (what : Down) (more : List ℕ) → Means (phase_of stage) (entries_at stage) what (bytes ++ more) → 1 ≤ length more
    within what [] m = absurd (not_whole (phase_of stage) (entries_at stage) what bytes u.none_whole (subst (λ (l : List ℕ). Means (phase_of stage) (entries_at stage) what l) (append-nil bytes) m))
    within what (x ∷ more) m = omega arith

pub first_of_one : (buf : List ℕ) (n : ℕ) → length buf ≡ 1 → 0 < n → n ≤ length buf → take n buf ≡ get_or buf 0 0 ∷ []
first_of_one [] n e h k = absurd (omega (arith, e))
first_of_one (x ∷ []) n e h k = take_all n (x ∷ []) h
first_of_one (x ∷ (y ∷ ys)) n e h k = absurd (omega (arith, e))

-- a status is what it is read as
pub status_is : (stage : Stage) (head : RetSubmitHead) (bytes : List ℕ) → phase_of stage ≡ Urbs → IsAnswer stage head bytes → Fits32 head.status
status_is Importing head bytes e a = absurd (apart e)
  where
    apart : Ops 0 0 ≡ Urbs → ⊥
    apart h = cc
status_is (Describing devid) head bytes e a = a.2.status
status_is (Configuring devid ends) head bytes e a = a.2.status

pub data_short : (held : Held) → length held.rest ≤ message_max → length (data_of held) ≤ message_max
data_short held h = step held.phase held.whole
  where
    step : (phase : DownPhase) (whole : Bool) → length (if whole then data_in phase held.rest else []) ≤ message_max
    step (Ops devices interfaces) true = omega arith
    step Urbs true = omega (arith, h, length-drop 48 held.rest)
    step phase false = omega arith

-- no call is made yet
pub none_made : (turns : ℕ) → 0 + turns ≡ turns
none_made turns = omega arith

-- the next stage begins
abbrev pub asking : List ℕ → Stage → At → At
asking busid stage t = record t { stage = stage; unsent = request_of busid stage; rest = [] }

abbrev pub sending : At → List ℕ → ℕ → ℕ → At
sending s request at calls = record s { unsent = drop at request; sent = s.sent ++ take at request; calls = calls }

abbrev pub counting : At → ℕ → At
counting s calls = record s { calls = calls }

-- so much of an answer was taken
abbrev pub taking : At → List ℕ → ℕ → At
taking s r calls = record s { rest = r; taken = s.taken ++ r; calls = calls }

abbrev pub reading : At → ℕ → ℕ → At
reading s byte calls = record s { rest = s.rest ++ byte ∷ []; taken = s.taken ++ byte ∷ []; calls = calls }

module _ {A : Type 0} (told : A → Told) (counts : A → Counts) (sends : A → List ℕ → SendStep → A → Type 0) (polls : A → ℕ → PollStep → List ℕ → A → Type 0)
    (turns : ℕ) (busid : List ℕ) (s : At) (old : A) where
  pub joined_path : (t : At) (mid : A) (u : At) (new : A) → Path told counts sends polls busid s old t mid → Path told counts sends polls busid t mid u new → Path told counts sends polls busid s old u new
  joined_path t mid u new p here = p
  joined_path t mid u new p (on v last w end q step) = on v last w end (joined_path t mid v last p q) step

  pub joined_stop : (t : At) (mid new : A) (why : AttachFault) → Path told counts sends polls busid s old t mid → Stops told counts sends polls turns busid t mid why new
      → Stops told counts sends polls turns busid s old why new
  joined_stop t mid new why p stop = record { at = stop.at; mid = stop.mid; path = joined_path t mid stop.at stop.mid p stop.path; calls = stop.calls; last = stop.last }

  -- ---- sends

  pub begin_sending : (request : List ℕ) → s.unsent ≡ request → Path told counts sends polls busid s old (sending s request 0 s.calls) old
  begin_sending request e = subst (λ (t : At). Path told counts sends polls busid s old t old) same here
    where
      same : s ≡ sending s request 0 s.calls
      same = ap (λ (x : List ℕ). record s { unsent = x }) e ∙ ap (λ (x : List ℕ). record s { unsent = request; sent = x }) (sym (append-nil s.sent))

  pub on_sent : (request : List ℕ) (at n calls : ℕ) (mid new : A) → Path told counts sends polls busid s old (sending s request at calls) mid → 0 < n → n ≤ length (drop at request)
      → SendGoes told counts sends polls mid (drop at request) (send.Took n) new → Path told counts sends polls busid s old (sending s request (at + n) (calls + 1)) new
  on_sent request at n calls mid new p some few g =
      on (sending s request at calls) mid (sending s request (at + n) (calls + 1)) new p (Sent n some few g
      (ap (λ (x : List ℕ). record s { unsent = x; sent = s.sent ++ take (at + n) request; calls = calls + 1 }) (sym (drop-drop n at request))
      ∙ ap (λ (x : List ℕ). record s { unsent = drop n (drop at request); sent = x; calls = calls + 1 })
      (ap (λ (x : List ℕ). s.sent ++ x) (take-add at n request) ∙ sym (append_assoc s.sent (take at request) (take n (drop at request))))))

  pub on_idle : (request : List ℕ) (at calls : ℕ) (mid new : A) → Path told counts sends polls busid s old (sending s request at calls) mid → 0 < length (drop at request)
      → SendGoes told counts sends polls mid (drop at request) send.Idle new → Path told counts sends polls busid s old (sending s request at (calls + 1)) new
  on_idle request at calls mid new p some g = on (sending s request at calls) mid (sending s request at (calls + 1)) new p (SentNone some g refl)

  pub end_sending : (request : List ℕ) (at calls : ℕ) (new : A) → length request ≤ at → Path told counts sends polls busid s old (sending s request at calls) new
      → Path told counts sends polls busid s old (record s { unsent = []; sent = s.sent ++ request; calls = calls }) new
  end_sending request at calls new h p = subst (λ (t : At). Path told counts sends polls busid s old t new) same p
    where
      none : (xs : List ℕ) (n : ℕ) → length xs ≤ n → drop n xs ≡ []
      none xs n l = drop_of_length-le xs l

      same : sending s request at calls ≡ record s { unsent = []; sent = s.sent ++ request; calls = calls }
      same = ap (λ (x : List ℕ). record s { unsent = x; sent = s.sent ++ take at request; calls = calls }) (none request at h)
          ∙ ap (λ (x : List ℕ). record s { unsent = []; sent = s.sent ++ x; calls = calls }) (take_all at request h)

  pub send_stops : (request : List ℕ) (at calls : ℕ) (mid new : A) (why : AttachFault) → Path told counts sends polls busid s old (sending s request at calls) mid → calls ≤ turns
      → Last told counts sends polls turns (sending s request at calls) mid why new → Stops told counts sends polls turns busid s old why new
  send_stops request at calls mid new why p few last = record { at = sending s request at calls; mid = mid; path = p; calls = few; last = last }

  -- ---- polls

  pub on_got : (byte room calls : ℕ) (mid new : A) → Path told counts sends polls busid s old (counting s calls) mid → s.unsent ≡ [] → Undecided s.stage s.rest
      → PollGoes told counts sends polls mid 1 (poll.Got 1) (byte ∷ []) new → Path told counts sends polls busid s old (reading s byte (calls + 1)) new
  on_got byte room calls mid new p none u g =
      on (counting s calls) mid (reading s byte (calls + 1)) new p (Took 1 (byte ∷ []) none (awaits_one s.stage s.rest u) (omega arith) (omega arith) g refl)

  pub on_none : (calls : ℕ) (mid new : A) → Path told counts sends polls busid s old (counting s calls) mid → s.unsent ≡ [] → Undecided s.stage s.rest
      → PollGoes told counts sends polls mid 1 poll.Idle [] new → Path told counts sends polls busid s old (counting s (calls + 1)) new
  on_none calls mid new p none u g = on (counting s calls) mid (counting s (calls + 1)) new p (TookNone 1 none (awaits_one s.stage s.rest u) g refl)

  pub poll_stops : (calls : ℕ) (mid new : A) (why : AttachFault) → Path told counts sends polls busid s old (counting s calls) mid → calls ≤ turns
      → Last told counts sends polls turns (counting s calls) mid why new → Stops told counts sends polls turns busid s old why new
  poll_stops calls mid new why p few last = record { at = counting s calls; mid = mid; path = p; calls = few; last = last }

  -- ---- an answer, byte by byte

  pub begin_taking : (r : List ℕ) → s.rest ≡ [] → r ≡ [] → Path told counts sends polls busid s old (taking s r s.calls) old
  begin_taking r e f = subst (λ (t : At). Path told counts sends polls busid s old t old) same here
    where
      same : s ≡ taking s r s.calls
      same = ap (λ (x : List ℕ). record s { rest = x }) (e ∙ sym f)
          ∙ ap (λ (x : List ℕ). record s { rest = r; taken = x }) (sym (append-nil s.taken) ∙ ap (λ (x : List ℕ). s.taken ++ x) (sym f))

  pub taken_next : (r : List ℕ) (byte k left : ℕ) (mid new : A) → Path told counts sends polls busid s old (taking s r k) mid
      → (t : At) × Path told counts sends polls busid (taking s r k) mid t new × (t.calls + left ≡ turns) × took_byte (taking s r k) byte t
      → (n : ℕ) × Path told counts sends polls busid s old (taking s (r ++ byte ∷ []) n) new × (n + left ≡ turns)
  taken_next r byte k left mid new p q =
      let all = joined_path (taking s r k) mid q.0 new p q.1 in (
        q.0.calls,
        subst (λ (t : At). Path told counts sends polls busid s old t new)
            (q.3 ∙ ap (λ (x : List ℕ). record s { rest = r ++ byte ∷ []; taken = x; calls = q.0.calls }) (append_assoc s.taken r (byte ∷ []))) all,
        q.2,
      )

  -- ---- one exchange behind another

  pub after : {X : Type 0} (Q R : X → At → Type 0) (t : At) (mid new : A) (left : ℕ) (r : Result X AttachFault) → Path told counts sends polls busid s old t mid
      → ((x : X) (u : At) → Q x u → R x u) → Goes told counts sends polls turns busid t mid left new Q r → Goes told counts sends polls turns busid s old left new R r
  after {X} Q R t mid new left (Ok x) p f g = (g.0, joined_path t mid g.0 new p g.1, g.2, f x g.0 g.3)
  after {X} Q R t mid new left (Err why) p f g = joined_stop t mid new why p g

  -- ---- one stage behind another

  pub to_describe : (device : DeviceRecord) (devid : ℕ) (t : At) (new : A) → Path told counts sends polls busid s old t new → IsImported device t → devid ≡ devid_of device
      → Path told counts sends polls busid s old (asking busid (Describing devid) t) new
  to_describe device devid t new p i e =
      subst (λ (x : ℕ). Path told counts sends polls busid s old (asking busid (Describing x) t) new) (sym e)
      (on t new (asking busid (Describing (devid_of device)) t) new p (Imported device i.0 i.1 i.2 refl refl))

  pub to_configure : (devid : ℕ) (ends : Ends) (t : At) (new : A) → Path told counts sends polls busid s old t new → IsDescribed devid ends t
      → Path told counts sends polls busid s old (asking busid (Configuring devid ends) t) new
  to_configure devid ends t new p i =
      on t new (asking busid (Configuring devid ends) t) new p
      (Described devid i.1.1 ends i.0 i.1.0 i.1.2 i.1.3 i.2 refl refl)

  pub attaches : (attached : Attached) (t : At) (new : A) → Path told counts sends polls busid s old t new → t.stage ≡ Configuring attached.devid attached.ends → IsGood t
      → attached.next ≡ 3 → t.calls ≤ turns → Attaches told counts sends polls turns busid s old attached new
  attaches attached t new p stage good next few =
      record { at = t; path = p; configured = stage; whole = good.0; head = good.1; answer = good.2; status = good.3; next = next; calls = few }

  pub wants : (left : ℕ) → s.calls + left ≡ turns → Stops told counts sends polls turns busid s old fault.Memory old
  wants left count = record { at = s; mid = old; path = here; calls = omega (arith, count); last = Wants refl refl }

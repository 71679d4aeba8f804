-- what the calls of an attachment did to the link, and what the bytes are that came
use Rattle.std.proofs.Common.{◌≡◌, ℕ, Some, List, [], ◌++◌, take, drop, Err, refl, sym, subst, ◌∙◌, ap, append_assoc}
use Rattle.std.specs.Prelude.{pos}
use Rattle.std.proofs.lemmas.List.{append-nil}
use Rattle.tmc_base.specs.declared.link.SendStep.{SendStep}
use Rattle.tmc_base.specs.declared.link.PollStep.{PollStep}
use Rattle.tmc_base.specs.declared.run_step.RunStep.{RunStep}
use Rattle.tmc_base.specs.Faults.{Rose}
use Rattle.tmc_base.specs.Link.{Counts}
use Rattle.tmc_base.specs.Told.{Told, Silent, Bytes, Peer, WentOut, CameIn, Exchanged}
use Rattle.usb_setup.specs.declared.ends.Ends.{Ends}
use Rattle.usb_setup.specs.Interface.{Finds}
use Rattle.usbip_wire.specs.declared.device.DeviceRecord.{DeviceRecord}
use Rattle.usbip_wire.specs.declared.ret_submit.RetSubmitHead.{RetSubmitHead}
use Rattle.usbip_wire.specs.ImportReply.{SpellsImport}
use Rattle.host_urbs.specs.declared.attached.AttachFault.{AttachFault}
use Rattle.host_urbs.specs.declared.attached.Attached.{Attached}
use Rattle.host_urbs.specs.Attach.{Stage, Importing, Describing, Configuring, At, IsAnswer, devid_of, begun, Step, Sent, SentNone, Took, TookNone, Imported, Described, Path, here, on, Last, SendFailed, PollFailed, PollClosed, SendWants, PollWants, Wants, Spent, Refused, NoDevice, Faulty, NoEnds, Stops, Attaches}
use Rattle.host_urbs.specs.Attached.{IsAttached, AttachCounts, Exchanges}

-- ---- bytes

out_more : (out into bytes : List ℕ) (a b c : Told) → Exchanged out into a b → WentOut bytes b c → Exchanged (out ++ bytes) into a c
out_more out into bytes Silent b c e w = subst (λ (x : Told). WentOut bytes x c) e w
out_more out into bytes (Bytes sent taken) b c e w =
    let f : c ≡ Bytes ((sent ++ out) ++ bytes) (taken ++ into) = subst (λ (x : Told). WentOut bytes x c) e w in
    f ∙ ap (λ (x : List ℕ). Bytes x (taken ++ into)) (append_assoc sent out bytes)
out_more out into bytes (Peer sent taken run) b c e w =
    let f = subst (λ (x : Told). WentOut bytes x c) e.1 w in (
      e.0 ++ f.0,
      f.1 ∙ (ap (λ (x : List ℕ). Peer x (taken ++ into) ((run ++ e.0) ++ f.0)) (append_assoc sent out bytes)
          ∙ ap (λ (x : List RunStep). Peer (sent ++ (out ++ bytes)) (taken ++ into) x) (append_assoc run e.0 f.0)),
    )

in_more : (out into bytes : List ℕ) (a b c : Told) → Exchanged out into a b → CameIn bytes b c → Exchanged out (into ++ bytes) a c
in_more out into bytes Silent b c e w = subst (λ (x : Told). CameIn bytes x c) e w
in_more out into bytes (Bytes sent taken) b c e w =
    let f : c ≡ Bytes (sent ++ out) ((taken ++ into) ++ bytes) = subst (λ (x : Told). CameIn bytes x c) e w in
    f ∙ ap (λ (x : List ℕ). Bytes (sent ++ out) x) (append_assoc taken into bytes)
in_more out into bytes (Peer sent taken run) b c e w =
    let f = subst (λ (x : Told). CameIn bytes x c) e.1 w in (
      e.0 ++ f.0,
      f.1 ∙ (ap (λ (x : List ℕ). Peer (sent ++ out) x ((run ++ e.0) ++ f.0)) (append_assoc taken into bytes)
          ∙ ap (λ (x : List RunStep). Peer (sent ++ out) (taken ++ (into ++ bytes)) x) (append_assoc run e.0 f.0)),
    )

none_yet : (a : Told) → Exchanged [] [] a a
none_yet Silent = refl
none_yet (Bytes sent taken) = ap (λ (x : List ℕ). Bytes x taken) (sym (append-nil sent)) ∙ ap (λ (x : List ℕ). Bytes (sent ++ []) x) (sym (append-nil taken))
none_yet (Peer sent taken run) = (
  [],
  ap (λ (x : List ℕ). Peer x taken run) (sym (append-nil sent)) ∙ (ap (λ (x : List ℕ). Peer (sent ++ []) x run) (sym (append-nil taken))
      ∙ ap (λ (x : List RunStep). Peer (sent ++ []) (taken ++ []) x) (sym (append-nil run))),
)

-- ---- what came

-- all that was taken, by the stage
abbrev pub IsHeard : Stage → (rest taken : List ℕ) → Type 0
IsHeard Importing rest taken = taken ≡ rest
IsHeard (Describing devid) rest taken = (device : DeviceRecord) × (import : List ℕ) × SpellsImport 0 (Some device) import × (devid ≡ devid_of device) × (taken ≡ import ++ rest)
IsHeard (Configuring devid ends) rest taken =
    (device : DeviceRecord) × (import : List ℕ) × (head : RetSubmitHead) × (descriptor : List ℕ) × SpellsImport 0 (Some device) import × (devid ≡ devid_of device)
    × IsAnswer (Describing devid) head descriptor × (head.status ≡ pos 0) × Finds (drop 48 descriptor) ends × (taken ≡ import ++ (descriptor ++ rest))

heard_more : (stage : Stage) (rest taken bytes : List ℕ) → IsHeard stage rest taken → IsHeard stage (rest ++ bytes) (taken ++ bytes)
heard_more Importing rest taken bytes h = ap (λ (x : List ℕ). x ++ bytes) h
heard_more (Describing devid) rest taken bytes (device, import, s, d, e) = (device, import, s, d, ap (λ (x : List ℕ). x ++ bytes) e ∙ append_assoc import rest bytes)
heard_more (Configuring devid ends) rest taken bytes (device, import, head, descriptor, s, d, a, z, f, e) = (
  device,
  import,
  head,
  descriptor,
  s,
  d,
  a,
  z,
  f,
  ap (λ (x : List ℕ). x ++ bytes) e ∙ (append_assoc import (descriptor ++ rest) bytes ∙ ap (λ (x : List ℕ). import ++ x) (append_assoc descriptor rest bytes)),
)

heard_import : (device : DeviceRecord) (rest taken : List ℕ) → SpellsImport 0 (Some device) rest → IsHeard Importing rest taken → IsHeard (Describing (devid_of device)) [] taken
heard_import device rest taken s h = (device, rest, s, refl, h ∙ sym (append-nil rest))

heard_described : (devid : ℕ) (head : RetSubmitHead) (ends : Ends) (rest taken : List ℕ) → IsAnswer (Describing devid) head rest → head.status ≡ pos 0 → Finds (drop 48 rest) ends
    → IsHeard (Describing devid) rest taken → IsHeard (Configuring devid ends) [] taken
heard_described devid head ends rest taken a z f (device, import, s, d, e) =
    (device, import, head, rest, s, d, a, z, f, e ∙ ap (λ (x : List ℕ). import ++ x) (sym (append-nil rest)))

abbrev pub Kept : Counts → Counts → Type 0
Kept old new = (new.faults ≡ old.faults) × (new.closings ≡ old.closings)

module _ {A : Type 0} (told : A → Told) (counts : A → Counts) (sends : A → List ℕ → SendStep → A → Type 0) (polls : A → ℕ → PollStep → List ℕ → A → Type 0)
    (busid : List ℕ) (old : A) where
  heard_step : (s : At) (mid : A) (t : At) (new : A) → Step told counts sends polls busid s mid t new → IsHeard s.stage s.rest s.taken → IsHeard t.stage t.rest t.taken
  heard_step s mid t new (Sent n some few g e) h = subst (λ (x : At). IsHeard x.stage x.rest x.taken) (sym e) h
  heard_step s mid t new (SentNone some g e) h = subst (λ (x : At). IsHeard x.stage x.rest x.taken) (sym e) h
  heard_step s mid t new (Took room bytes none a some few g e) h = subst (λ (x : At). IsHeard x.stage x.rest x.taken) (sym e) (heard_more s.stage s.rest s.taken bytes h)
  heard_step s mid t new (TookNone room none a g e) h = subst (λ (x : At). IsHeard x.stage x.rest x.taken) (sym e) h
  heard_step s mid t new (Imported device stage none spelled same e) h =
      subst (λ (x : At). IsHeard x.stage x.rest x.taken) (sym e) (heard_import device s.rest s.taken spelled (subst (λ (x : Stage). IsHeard x s.rest s.taken) stage h))
  heard_step s mid t new (Described devid head ends stage none answer status finds same e) h =
      subst (λ (x : At). IsHeard x.stage x.rest x.taken) (sym e) (heard_described devid head ends s.rest s.taken (subst (λ (x : Stage). IsAnswer x head s.rest) stage answer) status finds
      (subst (λ (x : Stage). IsHeard x s.rest s.taken) stage h))

  heard : (t : At) (new : A) → Path told counts sends polls busid (begun busid) old t new → IsHeard t.stage t.rest t.taken
  heard t new here = refl
  heard u new (on t mid w end p step) = heard_step t mid w end step (heard t mid p)

  told_step : (s : At) (mid : A) (t : At) (new : A) → Step told counts sends polls busid s mid t new → Exchanged s.sent s.taken (told old) (told mid) → Exchanged t.sent t.taken (told old) (told new)
  told_step s mid t new (Sent n some few g e) h = subst (λ (x : At). Exchanged x.sent x.taken (told old) (told new)) (sym e) (out_more s.sent s.taken (take n s.unsent) (told old) (told mid) (told new) h g.told_so)
  told_step s mid t new (SentNone some g e) h =
      subst (λ (x : At). Exchanged x.sent x.taken (told old) (told new)) (sym e)
      (subst (λ (x : List ℕ). Exchanged x s.taken (told old) (told new)) (append-nil s.sent) (out_more s.sent s.taken [] (told old) (told mid) (told new) h g.told_so))
  told_step s mid t new (Took room bytes none a some few g e) h = subst (λ (x : At). Exchanged x.sent x.taken (told old) (told new)) (sym e) (in_more s.sent s.taken bytes (told old) (told mid) (told new) h g.told_so)
  told_step s mid t new (TookNone room none a g e) h =
      subst (λ (x : At). Exchanged x.sent x.taken (told old) (told new)) (sym e)
      (subst (λ (x : List ℕ). Exchanged s.sent x (told old) (told new)) (append-nil s.taken) (in_more s.sent s.taken [] (told old) (told mid) (told new) h g.told_so))
  told_step s mid t new (Imported device stage none spelled same e) h =
      subst (λ (x : At). Exchanged x.sent x.taken (told old) (told new)) (sym e) (subst (λ (x : A). Exchanged s.sent s.taken (told old) (told x)) (sym same) h)
  told_step s mid t new (Described devid head ends stage none answer status finds same e) h =
      subst (λ (x : At). Exchanged x.sent x.taken (told old) (told new)) (sym e) (subst (λ (x : A). Exchanged s.sent s.taken (told old) (told x)) (sym same) h)

  pub told_path : (t : At) (new : A) → Path told counts sends polls busid (begun busid) old t new → Exchanged t.sent t.taken (told old) (told new)
  told_path t new here = none_yet (told old)
  told_path u new (on t mid w end p step) = told_step t mid w end step (told_path t mid p)

  pub spelled : (turns : ℕ) (attached : Attached) (new : A) → Attaches told counts sends polls turns busid (begun busid) old attached new → Exchanges (told old) (told new) (IsAttached attached)
  spelled turns attached new a =
      let h = subst (λ (x : Stage). IsHeard x a.at.rest a.at.taken) a.configured (heard a.at new a.path) in (
        a.at.sent,
        a.at.taken,
        told_path a.at new a.path,
        record {
          device = h.0;
          import = h.1;
          descriptor = h.3;
          configured = a.at.rest;
          first = h.2;
          second = a.head;
          layout = h.9;
          imported = h.4;
          devid = h.5;
          described = h.6;
          first_status = h.7;
          ends = h.8;
          set = subst (λ (x : Stage). IsAnswer x a.head a.at.rest) a.configured a.answer;
          second_status = a.status;
        },
      )

  -- ---- counts

  kept_by : (a b c : Counts) → Kept a b → Kept b c → Kept a c
  kept_by a b c k l = (l.0 ∙ k.0, l.1 ∙ k.1)

  counts_step : (s : At) (mid : A) (t : At) (new : A) → Step told counts sends polls busid s mid t new → Kept (counts mid) (counts new)
  counts_step s mid t new (Sent n some few g e) = (ap (λ (x : Counts). x.faults) g.counted, ap (λ (x : Counts). x.closings) g.counted)
  counts_step s mid t new (SentNone some g e) = (ap (λ (x : Counts). x.faults) g.counted.1, ap (λ (x : Counts). x.closings) g.counted.1)
  counts_step s mid t new (Took room bytes none a some few g e) = (ap (λ (x : Counts). x.faults) g.counted, ap (λ (x : Counts). x.closings) g.counted)
  counts_step s mid t new (TookNone room none a g e) = (ap (λ (x : Counts). x.faults) g.counted.1, ap (λ (x : Counts). x.closings) g.counted.1)
  counts_step s mid t new (Imported device stage none spelled same e) = (ap (λ (x : A). (counts x).faults) same, ap (λ (x : A). (counts x).closings) same)
  counts_step s mid t new (Described devid head ends stage none answer status finds same e) = (ap (λ (x : A). (counts x).faults) same, ap (λ (x : A). (counts x).closings) same)

  pub counts_path : (s : At) (t : At) (new : A) → Path told counts sends polls busid s old t new → Kept (counts old) (counts new)
  counts_path s t new here = (refl, refl)
  counts_path s u new (on t mid w end p step) = kept_by (counts old) (counts mid) (counts end) (counts_path s t mid p) (counts_step t mid w end step)

  kept_at : (mid new : A) → new ≡ mid → Kept (counts old) (counts mid) → Kept (counts old) (counts new)
  kept_at mid new same k = subst (λ (x : A). Kept (counts old) (counts x)) (sym same) k

  last_counts : (turns : ℕ) (t : At) (mid : A) (why : AttachFault) (new : A) → Kept (counts old) (counts mid) → Last told counts sends polls turns t mid why new
      → AttachCounts (Err why) (counts old) (counts new)
  last_counts turns t mid why new k (SendFailed some few g e) =
      subst (λ (x : AttachFault). AttachCounts (Err x) (counts old) (counts new)) (sym e)
      (subst (λ (x : ℕ). Rose x (counts new).faults) k.0 g.counted.0, ap (λ (x : Counts). x.closings) g.counted.1 ∙ k.1)
  last_counts turns t mid why new k (PollFailed room none a few g e) =
      subst (λ (x : AttachFault). AttachCounts (Err x) (counts old) (counts new)) (sym e)
      (subst (λ (x : ℕ). Rose x (counts new).faults) k.0 g.counted.0, ap (λ (x : Counts). x.closings) g.counted.1 ∙ k.1)
  last_counts turns t mid why new k (PollClosed room none a few g e) =
      subst (λ (x : AttachFault). AttachCounts (Err x) (counts old) (counts new)) (sym e)
      (ap (λ (x : Counts). x.faults) g.counted.1 ∙ k.0, subst (λ (x : ℕ). Rose x (counts new).closings) k.1 g.counted.0)
  last_counts turns t mid why new k (SendWants some few g e) =
      subst (λ (x : AttachFault). AttachCounts (Err x) (counts old) (counts new)) (sym e) (ap (λ (x : Counts). x.faults) g.counted ∙ k.0, ap (λ (x : Counts). x.closings) g.counted ∙ k.1)
  last_counts turns t mid why new k (PollWants room none a few g e) =
      subst (λ (x : AttachFault). AttachCounts (Err x) (counts old) (counts new)) (sym e) (ap (λ (x : Counts). x.faults) g.counted ∙ k.0, ap (λ (x : Counts). x.closings) g.counted ∙ k.1)
  last_counts turns t mid why new k (Wants same e) = subst (λ (x : AttachFault). AttachCounts (Err x) (counts old) (counts new)) (sym e) (kept_at mid new same k)
  last_counts turns t mid why new k (Spent waits all same e) = subst (λ (x : AttachFault). AttachCounts (Err x) (counts old) (counts new)) (sym e) (kept_at mid new same k)
  last_counts turns t mid why new k (Refused f none bad same e) = subst (λ (x : AttachFault). AttachCounts (Err x) (counts old) (counts new)) (sym e) (kept_at mid new same k)
  last_counts turns t mid why new k (NoDevice status stage none spelled same e) = subst (λ (x : AttachFault). AttachCounts (Err x) (counts old) (counts new)) (sym e) (kept_at mid new same k)
  last_counts turns t mid why new k (Faulty head none answer bad same e) = subst (λ (x : AttachFault). AttachCounts (Err x) (counts old) (counts new)) (sym e) (kept_at mid new same k)
  last_counts turns t mid why new k (NoEnds devid head stage none answer good f is same e) = subst (λ (x : AttachFault). AttachCounts (Err x) (counts old) (counts new)) (sym e) (kept_at mid new same k)

  pub counts_stop : (turns : ℕ) (s : At) (why : AttachFault) (new : A) → Stops told counts sends polls turns busid s old why new → AttachCounts (Err why) (counts old) (counts new)
  counts_stop turns s why new stop = last_counts turns stop.at stop.mid why new (counts_path s stop.at stop.mid stop.path) stop.last

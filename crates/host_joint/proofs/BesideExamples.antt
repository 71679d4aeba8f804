-- what worked hosts with a submit to Interrupt-IN need
use Rattle.std.proofs.Common.{◌≡◌, ◌≢◌, ◌∙◌, ℕ, Option, Some, None, List, [], ◌∷◌, refl, ap, sym, lit≤, arith}
use Rattle.usbip_wire.specs.declared.submit.SubmitHead.{SubmitHead}
use Rattle.usbip_wire.specs.declared.ret_submit.RetSubmitHead.{RetSubmitHead}
use Rattle.usbip_wire.specs.Up as up
use Rattle.usbip_wire.specs.Down as down
use Rattle.tmc_law.specs.Laws.{message_of}
use Rattle.tmc_law.specs.Endpoint.{Control, BulkOut, InterruptIn}
use Rattle.tmc_law.specs.State.{State, Packet, StatusPacket, start}
use Rattle.tmc_law.specs.Put.{Put, Submitted, success, stalled}
use Rattle.tmc_law.specs.Halts.{DoesHalt}
use Rattle.tmc_law.specs.Step.{Steps, Comes, Halt}
use Rattle.tmc_law.specs.Run.{Runs}
use Rattle.tmc_law.specs.WorkedSession.{notify_submit, out_submit, answered}
use Rattle.tmc_law.specs.WorkedParts.{spaces_text}
use Rattle.host_joint.specs.Hand.{Free}
use Rattle.host_joint.specs.Tie.{Tie, IsGiven}
use Rattle.host_joint.specs.Bond.{Stands, Resting}
use Rattle.host_joint.specs.StatusReads.{IsNotify}
use Rattle.host_joint.specs.Beside.{Doing, HasAsk, HasRecovery, Does, KeepsApart, messages_beside, answers_beside, device_beside, Beside, GivesBeside, ServiceBeside, OlderBeside, HaltBeside, DoesAsIt}
use Rattle.host_joint.specs.WorkedTies.{telling}
use Rattle.host_joint.specs.WorkedBeside.{both_come, notice_pends, both_pend, notice_halts, deafened}
use Rattle.host_joint.proofs.Coming.{comes}
use Rattle.host_joint.proofs.StatusTied.{none_down}
use Rattle.host_joint.proofs.StatusExamples.{first_apart, no_packet, no_stall}

pub is_notify : (n : ℕ) → IsNotify (notify_submit n 8)
is_notify n = record { number = refl; way = refl; room = lit≤ tt }

pub nothing_apart : (notify : Option SubmitHead) → KeepsApart (HasAsk Free None) notify
nothing_apart notify = record { other = tt; unnamed = tt; no_status = tt }

pub rest_apart : (notify : Option SubmitHead) → KeepsApart (HasRecovery (Stands Resting) None []) notify
rest_apart notify = record { other = tt; unnamed = tt; no_status = tt }

pub telling_apart : KeepsApart (HasAsk telling (Some (out_submit 1 112))) (Some (notify_submit 0 8))
telling_apart = record { other = (λ e. omega (arith, e)); unnamed = tt; no_status = λ own setup tag layout row. omega (arith, own) }

notice_comes : Steps start (Comes (up.Submit (notify_submit 0 8) [])) [] notice_pends
notice_comes =
    comes start (notify_submit 0 8) [] InterruptIn (record { plugged = refl; wide = refl; eight = refl; setup = refl; carried = refl; bytes = refl; free = refl; few = refl }) (record { number = refl; way = refl; usable = refl })

message_comes : Steps notice_pends (Comes (up.Submit (out_submit 1 112) spaces_text)) [] both_pend
message_comes =
    comes notice_pends (out_submit 1 112) spaces_text BulkOut (record { plugged = refl; wide = refl; eight = refl; setup = refl; carried = refl; bytes = refl; free = refl; few = refl }) (record { number = refl; way = refl; usable = refl })

pub both_came : Runs start both_come both_pend
both_came = (notice_pends, notice_comes, (both_pend, message_comes, refl))

halts_it : InterruptIn ≢ Control
halts_it e = cc

pub it_halts : Runs start notice_halts deafened
it_halts = (notice_pends, notice_comes, (deafened, record { plugged = refl; leads = DoesHalt halts_it refl refl refl }, refl))

pub came_alone : Runs start (record { move = Comes (up.Submit (notify_submit 0 8) []); puts = [] } ∷ []) notice_pends
came_alone = (notice_pends, notice_comes, refl)

pub halts_then : Runs notice_pends (record { move = Halt InterruptIn; puts = answered (notify_submit 0 8) stalled 0 [] ∷ [] } ∷ []) deafened
halts_then = (deafened, record { plugged = refl; leads = DoesHalt halts_it refl refl refl }, refl)

-- the answer on Interrupt-IN is none of what the host does
abbrev pub IsNone : Doing → ℕ → SubmitHead → Type 0
IsNone doing next asked = (a : RetSubmitHead) (transferred : List ℕ) (ups : List up.Message) (downs : List Put) (s : State) → Does doing next ups (Submitted asked a transferred ∷ downs) s → ⊥

pub none_read : (doing : Doing) (notify : SubmitHead) (byte n next : ℕ) (ups : List up.Message) (downs : List Put) (s : State) → IsNone doing next notify
    → GivesBeside doing (Some notify) [] (Submitted notify (record { seqnum = n; status = success; actual = 2 }) (0x85 ∷ byte ∷ [])) next ups downs s → ⊥
none_read doing notify byte n next ups downs s none (ServiceBeside asked answer other is put fine behind) = first_apart 0x85 0x81 (byte ∷ []) (other ∷ []) (λ e. omega (arith, e)) (same_data _ _ _ _ _ _ put)
  where
    same_data : (x y : SubmitHead) (a b : RetSubmitHead) (k l : List ℕ) → Submitted x a k ≡ Submitted y b l → k ≡ l
    same_data x y a b k l e = cc
none_read doing notify byte n next ups downs s none (OlderBeside asked answer packet others is put fine left behind) = no_packet packet others left
none_read doing notify byte n next ups downs s none (HaltBeside asked answer transferred is put halted behind) = no_stall (same_status _ _ (record { seqnum = n; status = success; actual = 2 }) answer _ _ put ∙ halted)
  where
    same_status : (x y : SubmitHead) (a b : RetSubmitHead) (k l : List ℕ) → Submitted x a k ≡ Submitted y b l → a.status ≡ b.status
    same_status x y a b k l e = let same : a ≡ b = cc in ap (λ (r : RetSubmitHead). r.status) same
none_read doing notify byte n next ups downs s none (DoesAsIt packets does later) = none (record { seqnum = n; status = success; actual = 2 }) (0x85 ∷ byte ∷ []) (messages_beside ups) (answers_beside downs) (device_beside packets s) does

pub older_came : (doing : Doing) (notify : SubmitHead) (byte n next : ℕ) (s : State) → IsNone doing next notify
    → GivesBeside doing (Some notify) (StatusPacket 5 byte ∷ []) (Submitted notify (record { seqnum = n; status = success; actual = 2 }) (0x85 ∷ 0x00 ∷ [])) next [] [] s → Beside doing None [] next [] [] s
older_came doing notify byte n next s none (ServiceBeside asked answer other is put fine behind) = absurd (first_apart 0x85 0x81 (0x00 ∷ []) (other ∷ []) (λ e. omega (arith, e)) (same_data _ _ _ _ _ _ put))
  where
    same_data : (x y : SubmitHead) (a b : RetSubmitHead) (k l : List ℕ) → Submitted x a k ≡ Submitted y b l → k ≡ l
    same_data x y a b k l e = cc
older_came doing notify byte n next s none (OlderBeside asked answer packet [] is put fine left behind) = behind
older_came doing notify byte n next s none (OlderBeside asked answer packet (x ∷ others) is put fine left behind) = absurd (no_packet x others (none_behind (StatusPacket 5 byte) packet (x ∷ others) left))
  where
    none_behind : (p q : Packet) (l : List Packet) → p ∷ [] ≡ q ∷ l → [] ≡ l
    none_behind p q l e = cc
older_came doing notify byte n next s none (HaltBeside asked answer transferred is put halted behind) = absurd (no_stall (same_status _ _ (record { seqnum = n; status = success; actual = 2 }) answer _ _ put ∙ halted))
  where
    same_status : (x y : SubmitHead) (a b : RetSubmitHead) (k l : List ℕ) → Submitted x a k ≡ Submitted y b l → a.status ≡ b.status
    same_status x y a b k l e = let same : a ≡ b = cc in ap (λ (r : RetSubmitHead). r.status) same
older_came doing notify byte n next s none (DoesAsIt packets does later) = absurd (none (record { seqnum = n; status = success; actual = 2 }) (0x85 ∷ 0x00 ∷ []) [] [] (device_beside packets s) does)

pub halt_came : (doing : Doing) (notify : SubmitHead) (n next : ℕ) (s : State) → IsNone doing next notify
    → GivesBeside doing (Some notify) [] (Submitted notify (record { seqnum = n; status = stalled; actual = 0 }) []) next [] [] s → Beside doing None [] next [] [] s
halt_came doing notify n next s none (ServiceBeside asked answer other is put fine behind) = behind
halt_came doing notify n next s none (OlderBeside asked answer packet others is put fine left behind) = absurd (no_packet packet others left)
halt_came doing notify n next s none (HaltBeside asked answer transferred is put halted behind) = behind
halt_came doing notify n next s none (DoesAsIt packets does later) = absurd (none (record { seqnum = n; status = stalled; actual = 0 }) [] [] [] (device_beside packets s) does)

-- nothing comes to a host that stands at rest
pub none_rests : (next : ℕ) (asked : SubmitHead) → IsNone (HasRecovery (Stands Resting) None []) next asked
none_rests next asked a transferred ups downs s bound = let none = none_down ups (Submitted asked a transferred ∷ downs) s bound.bond.fits bound.bond.lines in cc

-- the answer to a transfer is none on Interrupt-IN
pub not_told : (next : ℕ) (a : RetSubmitHead) (transferred : List ℕ) (ups : List up.Message) (downs : List Put) (s : State) → IsGiven telling (out_submit 1 112) (Submitted (notify_submit 0 8) a transferred) next ups downs s → ⊥
not_told next a transferred ups downs s given = by given.answer given.transferred given.is
  where
    by : (b : RetSubmitHead) (bytes : List ℕ) → Submitted (notify_submit 0 8) a transferred ≡ Submitted (out_submit 1 112) b bytes → ⊥
    by b bytes e = let same : notify_submit 0 8 ≡ out_submit 1 112 = cc in omega (arith, ap (λ (h : SubmitHead). h.seqnum) same)

same_message : (a b : RetSubmitHead) (bytes other : List ℕ) → down.RetSubmit a bytes ≡ down.RetSubmit b other → (a ≡ b) × (bytes ≡ other)
same_message a b bytes other e = (cc, cc)

-- no packet with a status byte is read, whichever answer it comes in
pub none_came : (byte : ℕ) (put : Put) (ups : List up.Message) (downs : List Put) (s : State) → ((a : RetSubmitHead) (transferred : List ℕ) (ups : List up.Message) (downs : List Put) (s : State) → Tie telling (Some (out_submit 1 112)) 2 ups (Submitted (notify_submit 0 8) a transferred ∷ downs) s → ⊥)
    → ((put : Put) (ups : List up.Message) (downs : List Put) (s : State) → Tie telling (Some (out_submit 1 112)) 2 ups (put ∷ downs) s → IsGiven telling (out_submit 1 112) put 2 ups downs s)
    → message_of put ≡ down.RetSubmit (record { seqnum = 0; status = success; actual = 2 }) (0x85 ∷ byte ∷ []) → GivesBeside (HasAsk telling (Some (out_submit 1 112))) (Some (notify_submit 0 8)) [] put 2 ups downs s → ⊥
none_came byte put ups downs s none given is (ServiceBeside asked answer other own put_is fine behind) =
    let same = same_message answer (record { seqnum = 0; status = success; actual = 2 }) (0x81 ∷ other ∷ []) (0x85 ∷ byte ∷ []) (ap message_of (sym put_is) ∙ is) in
    first_apart 0x81 0x85 (other ∷ []) (byte ∷ []) (λ e. omega (arith, e)) same.1
none_came byte put ups downs s none given is (OlderBeside asked answer packet others own put_is fine left behind) = no_packet packet others left
none_came byte put ups downs s none given is (HaltBeside asked answer transferred own put_is halted behind) =
    let same = same_message answer (record { seqnum = 0; status = success; actual = 2 }) transferred (0x85 ∷ byte ∷ []) (ap message_of (sym put_is) ∙ is) in
    no_stall (sym (ap (λ (r : RetSubmitHead). r.status) same.0) ∙ halted)
none_came byte put ups downs s none given is (DoesAsIt packets does later) =
    let x = given put (messages_beside ups) (answers_beside downs) (device_beside packets s) does in
    let same = same_message x.answer (record { seqnum = 0; status = success; actual = 2 }) x.transferred (0x85 ∷ byte ∷ []) (ap message_of (sym x.is) ∙ is) in
    let number : 0 ≡ 1 = sym (ap (λ (r : RetSubmitHead). r.seqnum) same.0) ∙ x.number in omega (arith, number)

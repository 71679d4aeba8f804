-- what worked status reads need
use Rattle.std.proofs.Common.{◌≡◌, ◌∙◌, ◌⊎◌, inl, inr, ℤ, pos, negsuc, ℕ, ◌+◌, true, false, Option, Some, None, List, [], ◌∷◌, take, drop, refl, ap, sym, lit<, lit≤, arith}
use Rattle.usbip_wire.specs.declared.submit.SubmitHead.{SubmitHead}
use Rattle.usbip_wire.specs.declared.ret_submit.RetSubmitHead.{RetSubmitHead}
use Rattle.tmc_wire.specs.declared.class_request.ClassRequest.TheVariants.{ReadStatus}
use Rattle.tmc_wire.specs.ControlTable.{row}
use Rattle.tmc_law.specs.Endpoint.{Control, InterruptIn, ends}
use Rattle.tmc_law.specs.State.{State, Packet, start, arrived}
use Rattle.tmc_law.specs.Queues.{Hits}
use Rattle.tmc_law.specs.Step.{Steps, Comes}
use Rattle.tmc_law.specs.Run.{Runs}
use Rattle.host_joint.proofs.Coming.{comes}
use Rattle.host_joint.proofs.Stopping.{all_wide}
use Rattle.tmc_law.specs.Put.{Put, success, stalled, unplugged}
use Rattle.tmc_law.specs.WorkedSession.{notify_submit}
use Rattle.tmc_law.specs.WorkedStatus.{status_submit}
use Rattle.usbip_wire.specs.Up as up
use Rattle.host_joint.specs.Requests.{IsClass}
use Rattle.host_joint.specs.StatusReads.{ReadsStatus, GivesStatus, SaysSuccess, SaysBusy, BringsService, BringsOlder, BringsByte, BringsHalt}
use Rattle.host_joint.specs.WorkedStatusReads.{first_read, stopping_status, stopped_status, unplugging_status, unplugged_status}

pub status_is : IsClass status_submit (ReadStatus 5)
status_is = record {
  number = refl;
  way = refl;
  setup = row ends (ReadStatus 5);
  asks = record { fits = record { request_type = lit< tt; request = lit< tt; value = lit< tt; index = lit< tt; length = lit< tt }; layout = refl };
  row = record { fits = lit< tt; is = refl };
  room = lit≤ tt;
}

abbrev seq_of : Option SubmitHead → ℕ
seq_of None = 0
seq_of (Some head) = head.seqnum

abbrev first_of : List ℕ → ℕ
first_of [] = 0
first_of (x ∷ l) = x

pub two_submits : Some (notify_submit 1 8) ≡ Some status_submit → ⊥
two_submits e = omega (arith, ap seq_of e)

pub first_apart : (x y : ℕ) (k l : List ℕ) → (x ≡ y → ⊥) → x ∷ k ≡ y ∷ l → ⊥
first_apart x y k l differ e = differ (ap first_of e)

pub no_packet : (packet : Packet) (others : List Packet) → [] ≡ packet ∷ others → ⊥
no_packet packet others e = cc

pub no_stall : success ≡ stalled → ⊥
no_stall e = cc

-- the answer to the request is SUCCESS
pub said : (notify : Option SubmitHead) (got : Option ℕ) (next : ℕ) (ups : List up.Message) (downs : List Put) (s : State) → (notify ≡ Some status_submit → ⊥)
    → GivesStatus first_read true notify got [] status_submit (record { seqnum = 2; status = success; actual = 3 }) (0x01 ∷ 0x05 ∷ 0x00 ∷ []) next ups downs s → ReadsStatus first_read false notify got [] next ups downs s
said notify got next ups downs s other (SaysSuccess w same is text behind) = behind
said notify got next ups downs s other (SaysBusy w same is text some not_yet quiet) = absurd (some refl)
said notify got next ups downs s other (BringsService byte is fine text behind) = absurd (other is)
said notify got next ups downs s other (BringsOlder packet others is fine left text behind) = absurd (other is)
said notify got next ups downs s other (BringsByte byte is fine none g text one behind) = absurd (other is)
said notify got next ups downs s other (BringsHalt is halted behind) = absurd (other is)

-- no packet with another tag comes
pub other_tag : (asked : SubmitHead) (answer : RetSubmitHead) (byte next : ℕ) (ups : List up.Message) (downs : List Put) (s : State) → answer.status ≡ success
    → GivesStatus first_read true (Some (notify_submit 1 8)) None [] asked answer (0x86 ∷ byte ∷ []) next ups downs s → ⊥
other_tag asked answer byte next ups downs s good (SaysSuccess w same is text behind) = first_apart 0x86 0x01 (byte ∷ []) (0x05 ∷ 0x00 ∷ []) (λ e. omega (arith, e)) text
other_tag asked answer byte next ups downs s good (SaysBusy w same is text some not_yet quiet) = some refl
other_tag asked answer byte next ups downs s good (BringsService other is fine text behind) = first_apart 0x86 0x81 (byte ∷ []) (other ∷ []) (λ e. omega (arith, e)) text
other_tag asked answer byte next ups downs s good (BringsOlder packet others is fine left text behind) = no_packet packet others left
other_tag asked answer byte next ups downs s good (BringsByte other is fine none g text one behind) = first_apart 0x86 0x85 (byte ∷ []) (other ∷ []) (λ e. omega (arith, e)) text
other_tag asked answer byte next ups downs s good (BringsHalt is halted behind) = no_stall (sym good ∙ halted)

-- the two submits come, and are pending
abbrev pub both_came : State
both_came = record stopped_status { control = arrived status_submit [] ∷ [] }

notice_comes : Steps start (Comes (up.Submit (notify_submit 1 8) [])) [] stopped_status
notice_comes =
    comes start (notify_submit 1 8) [] InterruptIn (record { plugged = refl; wide = refl; eight = refl; setup = refl; carried = refl; bytes = refl; free = refl; few = refl }) (record { number = refl; way = refl; usable = refl })

request_comes : Steps stopped_status (Comes (up.Submit status_submit [])) [] both_came
request_comes =
    comes stopped_status status_submit [] Control (record { plugged = refl; wide = refl; eight = refl; setup = refl; carried = refl; bytes = refl; free = refl; few = refl }) (record { number = refl; way = refl; usable = refl })

pub stops_first : Runs start (take 1 stopping_status) stopped_status
stops_first = (stopped_status, notice_comes, refl)

pub stops_second : Runs stopped_status (take 1 (drop 1 stopping_status)) both_came
stops_second = (both_came, request_comes, refl)

pub stops_third : Runs both_came (drop 2 stopping_status) stopped_status
stops_third = (stopped_status, record { plugged = refl; leads = (all_wide (3 ∷ 0x00010002 ∷ 2 ∷ []) refl, Hits Control [] (arrived status_submit []) [] refl refl refl refl refl) }, refl)

pub stops : Runs start stopping_status stopped_status
stops = (stopped_status, notice_comes, (both_came, request_comes, stops_third))

pub unplugs_both : Runs start unplugging_status unplugged_status
unplugs_both = (stopped_status, notice_comes, (both_came, request_comes, (unplugged_status, record { plugged = refl; leads = record { answered = refl; is = refl } }, refl)))

-- -108 is neither 0 nor -32
abbrev size_of : ℤ → ℕ
size_of (pos n) = n
size_of (negsuc n) = n + 1

pub not_gone : unplugged ≡ success → ⊥
not_gone e = let k : 108 ≡ 0 = ap size_of e in omega (arith, k)

pub not_usual : (unplugged ≡ success) ⊎ (unplugged ≡ stalled) → ⊥
not_usual (inl e) = not_gone e
not_usual (inr e) = let k : 108 ≡ 32 = ap size_of e in omega (arith, k)

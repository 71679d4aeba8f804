-- in the middle of the ask of two pieces the device is unplugged
use Rattle.std.proofs.Common.{◌≡◌, ◌∙◌, inl, ℕ, true, false, Option, Some, None, List, [], ◌++◌, refl, ap, sym, subst, arith, lit<}
use Rattle.usbip_wire.specs.declared.ret_submit.RetSubmitHead.{RetSubmitHead}
use Rattle.usbip_wire.specs.declared.submit.SubmitHead.{SubmitHead}
use Rattle.usbip_wire.specs.Up as up
use Rattle.tmc_law.specs.State.{State}
use Rattle.tmc_law.specs.Put.{Put, Submitted, success, unplugged}
use Rattle.tmc_law.specs.Halts.{unplug_answers}
use Rattle.tmc_law.specs.Step.{Unplug, Steps}
use Rattle.tmc_law.specs.Run.{Runs}
use Rattle.tmc_law.specs.WorkedParts.{spaced}
use Rattle.tmc_law.specs.WorkedSession.{in_submit, answered}
use Rattle.host_joint.specs.Hand.{Hand, Pauses}
use Rattle.host_joint.specs.Tie.{Tie, IsGiven}
use Rattle.host_joint.specs.Unplugged.{TiedUntil, HaltsNothing, TellsUnplugged, GivenUntil, GivenPlugged, GivenBefore, GivenBehind}
use Rattle.host_joint.specs.WorkedPieces.{first_data, first_piece, reading_first, reading_second, requested_second}
use Rattle.host_joint.specs.WorkedUnplugging.{unplugging_behind, unplugging_inside, unplugged_inside}
use Rattle.host_joint.proofs.Serving.{second_read_came, second_comes}
use Rattle.host_joint.proofs.Exchanging.{goes_of, Ends, EndsAll, EndsPart, ends}
use Rattle.host_joint.proofs.Pausing.{Fields}

pub unplugs_inside : Steps second_read_came Unplug (unplug_answers second_read_came) unplugged_inside
unplugs_inside = record { plugged = refl; leads = record { answered = refl; is = refl } }

pub goes_inside : Runs requested_second unplugging_inside unplugged_inside
goes_inside = (second_read_came, second_comes, (unplugged_inside, unplugs_inside, refl))

-- ---- the first piece was on its way

first_taken : Fields → (ups : List up.Message) (downs : List Put) (s : State) → IsGiven reading_first (in_submit 4 4096) (answered (in_submit 4 4096) success 24 first_piece) 5 ups downs s
    → Tie (Pauses 2 spaced first_data) None 5 ups downs s
first_taken fields ups downs s given =
    by (ends reading_first (in_submit 4 4096) 24 first_piece 5 ups downs s refl (lit< tt)
    (goes_of reading_first (in_submit 4 4096) (record { seqnum = 4; status = success; actual = 24 }) first_piece 5 ups downs s given))
  where
    by : Ends 2 spaced 3 4000 [] [] first_piece 5 ups downs s → Tie (Pauses 2 spaced first_data) None 5 ups downs s
    by (EndsAll carried piece ran over) = let eom : 0 ≡ 1 = (fields 3 4000 true carried first_piece piece).1.last in absurd (omega (arith, eom))
    by (EndsPart carried response piece ran first longer pauses) =
        let own : first_data ≡ carried = (fields 3 4000 false carried first_piece piece).1.data_is in
        subst (λ (l : List ℕ). Tie (Pauses 2 spaced l) None 5 ups downs s) (sym own) pauses

status_of : (h k : SubmitHead) (a b : RetSubmitHead) (bytes other : List ℕ) → Submitted h a bytes ≡ Submitted k b other → a ≡ b
status_of h k a b bytes other e = cc

no_unplugged : {B : Type 0} → success ≡ unplugged → B
no_unplugged e = absurd (cc)

-- what ties a host behind an answer that was on its way does so until the unplugging
abbrev pub Behind : Type 0
Behind =
    (hand : Hand) (waits : Option SubmitHead) (next : ℕ) (ups : List up.Message) (front : List Put) (before t : State) → Steps before Unplug (unplug_answers before) t → Tie hand waits next ups front before
    → TiedUntil hand waits next ups (front ++ unplug_answers before) t

pub taken_until : Fields → Behind → (t : State) → GivenUntil reading_first (in_submit 4 4096) 5 (answered (in_submit 4 4096) success 24 first_piece) [] [] t → TiedUntil (Pauses 2 spaced first_data) None 5 [] [] t
taken_until fields behind t (GivenPlugged given) = inl (first_taken fields [] [] t given)
taken_until fields behind t (GivenBefore before front given unplugs rest) =
    subst (λ (l : List Put). TiedUntil (Pauses 2 spaced first_data) None 5 [] l t) (sym rest)
    (behind (Pauses 2 spaced first_data) None 5 [] front before t unplugs (first_taken fields [] front before given))
taken_until fields behind t (GivenBehind before tie unplugs told) =
    let same : record { seqnum = 4; status = success; actual = 24 } ≡ told.answer = status_of (in_submit 4 4096) told.head (record { seqnum = 4; status = success; actual = 24 }) told.answer first_piece told.transferred told.is in
    no_unplugged (ap (λ (r : RetSubmitHead). r.status) same ∙ told.status)

-- ---- the answer to the read of the second one tells of the unplugging

pub tells_inside : TellsUnplugged (Some (in_submit 6 4096)) (answered (in_submit 6 4096) unplugged 0 []) []
tells_inside = record {
  head = in_submit 6 4096;
  answer = record { seqnum = 6; status = unplugged; actual = 0 };
  transferred = [];
  is = refl;
  awaited = refl;
  number = refl;
  status = refl;
  last = refl;
}

pub not_given : (next : ℕ) (ups : List up.Message) (downs : List Put) (s : State) → IsGiven reading_second (in_submit 6 4096) (answered (in_submit 6 4096) unplugged 0 []) next ups downs s → ⊥
not_given next ups downs s given =
    let same : record { seqnum = 6; status = unplugged; actual = 0 } ≡ given.answer = status_of (in_submit 6 4096) (in_submit 6 4096) (record { seqnum = 6; status = unplugged; actual = 0 }) given.answer [] given.transferred given.is in
    no_unplugged (sym (ap (λ (r : RetSubmitHead). r.status) same ∙ given.status))

pub behind_halts : HaltsNothing unplugging_behind
behind_halts = ((λ endpoint e. cc), ((λ endpoint e. cc), ((λ endpoint e. cc), ((λ endpoint e. cc), tt))))

pub inside_halts : HaltsNothing unplugging_inside
inside_halts = ((λ endpoint e. cc), ((λ endpoint e. cc), tt))

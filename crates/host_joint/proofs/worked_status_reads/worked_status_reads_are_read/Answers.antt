use Rattle.std.proofs.Common.{◌≡◌, ◌∙◌, ℕ, true, List, [], ◌∷◌, ◌++◌, take, drop, Some, None, refl, ap, sym, subst, append-nil, lit≤}
use Rattle.usbip_wire.specs.declared.ret_submit.RetSubmitHead.{RetSubmitHead}
use Rattle.usbip_wire.specs.Up as up
use Rattle.usbip_wire.specs.Down as down
use Rattle.tmc_law.specs.Endpoint.{Control}
use Rattle.tmc_law.specs.State.{State, start}
use Rattle.tmc_law.specs.Put.{Put, Submitted, Unlinked, success}
use Rattle.tmc_law.specs.Laws.{message_of}
use Rattle.tmc_law.specs.Run.{Runs, SpellsPut}
use Rattle.tmc_law.specs.WorkedSession.{devid, notify_submit, answered}
use Rattle.tmc_law.specs.WorkedStatus.{status_submit, status_asked, answer_first}
use Rattle.tmc_law.specs.WorkedTold.{takes_in, puts_out}
use Rattle.host_joint.specs.Joint.{TellsPlugged}
use Rattle.host_joint.specs.StatusReads.{ReadsStatus, GivesStatus}
use Rattle.host_joint.specs.WorkedStatusReads.{first_read}
use Rattle.host_joint.proofs.StatusExamples.{status_is, other_tag}
use Rattle.host_joint.proofs.worked_status_reads.worked_status_reads_are_read.Goals as goal

pub returns-clause-written : goal.returns-clause-written
returns-clause-written c text more first second =
    c.status_reads_are_read.ensures.written devid status_submit 5 (Some (notify_submit 1 8)) [] 2 more text [] [] start status_is (lit≤ tt, lit≤ tt) (record { endpoint = Control; number = refl; way = refl }) refl second
    (c.status_reads_are_read.ensures.notify devid (notify_submit 1 8) [] 1 text [] [] [] start (record { number = refl; way = refl; room = lit≤ tt }) refl first
    (c.status_reads_are_read.ensures.begins devid [] 1 [] [] [] start refl (c.remote_tickets_are_read.ensures.stands devid 1 [] [] [] start (c.joints_begin.ensures.power_on devid 1))))

-- the three told steps
told_steps : (text more bytes : List ℕ) (one two three : State) → Runs start (take 1 status_asked) one → Runs one (drop 1 status_asked) two → Runs two (take 1 answer_first) three
    → up.Spells devid (up.Submit (notify_submit 1 8) []) text → up.Spells devid (up.Submit status_submit []) more → SpellsPut (answered status_submit success 3 (0x01 ∷ 0x05 ∷ 0x00 ∷ [])) bytes
    → TellsPlugged devid start (takes_in text ∷ takes_in more ∷ puts_out bytes ∷ []) three
told_steps text more bytes one two three first second third spelled also put = (
  one,
  record {
    means = record { run = take 1 status_asked; goes = first; took = (text, [], sym (append-nil text), spelled, refl); put = refl };
    calm = ((λ e. cc), tt);
  },
  (
    two,
    record {
      means = record { run = drop 1 status_asked; goes = second; took = (more, [], sym (append-nil more), also, refl); put = refl };
      calm = ((λ e. cc), tt);
    },
    (
      three,
      record {
        means = record { run = take 1 answer_first; goes = third; took = ([], [], refl, refl, refl); put = (bytes, [], sym (append-nil bytes), put, refl) };
        calm = ((λ e. cc), tt);
      },
      refl,
    ),
  ),
)

pub returns-clause-next : goal.returns-clause-next
returns-clause-next c text more bytes spelled also put =
    let all = c.runs_join.ensures.apart (take 3 (status_asked ++ answer_first)) (drop 3 (status_asked ++ answer_first)) start _ c.a_status_comes_before_or_behind.ensures.behind in
    let back = c.runs_join.ensures.apart status_asked (take 1 answer_first) start all.0 all.1 in
    let split = c.runs_join.ensures.apart (take 1 status_asked) (drop 1 status_asked) start back.0 back.1 in
    let joint = c.status_reads_are_tied.ensures.joined devid first_read true (Some (notify_submit 1 8)) None [] 3 (text ++ more) [] [] (takes_in text ∷ takes_in more ∷ puts_out bytes ∷ []) start all.0
    (told_steps text more bytes split.0 back.0 all.0 split.1 split.2 back.2 spelled also put) ([], sym (append-nil (text ++ (more ++ [])) ∙ ap (λ (l : List ℕ). text ++ l) (append-nil more))) (returns-clause-written c text more spelled also) in (
      all.0,
      all.1,
      c.status_reads_are_read.ensures.next devid first_read true (Some (notify_submit 1 8)) None [] 3 (text ++ more) [] bytes [] (down.RetSubmit (record { seqnum = 2; status = success; actual = 3 }) (0x01 ∷ 0x05 ∷ 0x00 ∷ []))
          (takes_in text ∷ takes_in more ∷ puts_out bytes ∷ []) all.0 joint refl (record { dir = status_submit.dir; size = 3 }, refl, put),
    )

same_message : (a b : RetSubmitHead) (bytes other : List ℕ) → down.RetSubmit a bytes ≡ down.RetSubmit b other → (a ≡ b) × (bytes ≡ other)
same_message a b bytes other e = (cc, cc)

pub returns-clause-mistaken : goal.returns-clause-mistaken
returns-clause-mistaken c text bytes byte s put joint =
    let next = c.status_reads_are_read.ensures.next devid first_read true (Some (notify_submit 1 8)) None [] 3 text [] bytes [] (down.RetSubmit (record { seqnum = 1; status = success; actual = 2 }) (0x86 ∷ byte ∷ [])) (puts_out bytes ∷ []) s joint refl
    (record { dir = (notify_submit 1 8).dir; size = 8 }, refl, put) in
    by next.put next.ups next.downs next.is next.tie
  where
    by : (p : Put) (ups : List up.Message) (downs : List Put) → message_of p ≡ down.RetSubmit (record { seqnum = 1; status = success; actual = 2 }) (0x86 ∷ byte ∷ [])
        → ReadsStatus first_read true (Some (notify_submit 1 8)) None [] 3 ups (p ∷ downs) s → ⊥
    by (Unlinked asked answer) ups downs e tie = cc
    by (Submitted asked answer transferred) ups downs e tie =
        let same = same_message answer (record { seqnum = 1; status = success; actual = 2 }) transferred (0x86 ∷ byte ∷ []) e in
        other_tag asked answer byte 3 ups downs s (ap (λ (a : RetSubmitHead). a.status) same.0)
        (subst (λ (l : List ℕ). GivesStatus first_read true (Some (notify_submit 1 8)) None [] asked answer l 3 ups downs s) same.1
        (c.status_reads_are_tied.ensures.answer first_read true (Some (notify_submit 1 8)) None [] asked answer transferred 3 ups downs s tie))

use Rattle.std.proofs.Common.{◌≡◌, ◌∙◌, ℕ, List, [], ◌∷◌, ◌++◌, take, drop, replicate, codes, Some, refl, sym, append-nil, lit≤}
use Rattle.usbip_wire.specs.Up as up
use Rattle.usbip_wire.specs.Down as down
use Rattle.tmc_law.specs.State.{State, start}
use Rattle.tmc_law.specs.Put.{success}
use Rattle.tmc_law.specs.Run.{Runs, SpellsPut}
use Rattle.tmc_law.specs.WorkedSession.{devid, out_submit, answered}
use Rattle.tmc_law.specs.WorkedParts.{spaces_text, spaced, sending_parts}
use Rattle.tmc_law.specs.WorkedTold.{takes_in, puts_out}
use Rattle.host_joint.specs.Hand.{Free, WritesPart}
use Rattle.host_joint.specs.Joint.{TellsCalmly}
use Rattle.host_joint.specs.WorkedTies.{telling, told_to}
use Rattle.host_joint.proofs.Tied.{spaces_are}
use Rattle.host_joint.proofs.worked_links.worked_hosts_are_joined.Goals as goal

pub returns-clause-written : goal.returns-clause-written
returns-clause-written c text spelled =
    c.writes_keep_joints.ensures.tie devid Free telling (out_submit 1 112) spaces_text text 1 [] [] [] start (WritesPart 1 spaced [] (replicate 100 32) (codes "*IDN?") (refl, lit≤ tt) refl spaces_are refl) refl spelled
    (c.joints_begin.ensures.power_on devid 1)

-- the two told steps
told_steps : (text bytes : List ℕ) (one two : State) → Runs start (take 1 sending_parts) one → Runs one (take 2 (drop 1 sending_parts)) two → up.Spells devid (up.Submit (out_submit 1 112) spaces_text) text
    → SpellsPut (answered (out_submit 1 112) success 112 []) bytes → TellsCalmly devid start (takes_in text ∷ puts_out bytes ∷ []) two
told_steps text bytes one two first second spelled put = (
  one,
  record {
    means = record { run = take 1 sending_parts; goes = first; took = (text, [], sym (append-nil text), spelled, refl); put = refl };
    calm = ((λ e. cc), (λ endpoint e. cc), tt);
  },
  (
    two,
    record {
      means = record { run = take 2 (drop 1 sending_parts); goes = second; took = ([], [], refl, refl, ([], [], refl, refl, refl)); put = (bytes, [], sym (append-nil bytes), put, refl) };
      calm = ((λ e. cc), (λ endpoint e. cc), ((λ e. cc), (λ endpoint e. cc), tt));
    },
    refl,
  ),
)

pub returns-clause-told : goal.returns-clause-told
returns-clause-told c text bytes spelled put =
    let three = c.runs_join.ensures.apart (take 3 sending_parts) (drop 3 sending_parts) start told_to c.a_message_comes_in_parts.ensures in
    let split = c.runs_join.ensures.apart (take 1 sending_parts) (take 2 (drop 1 sending_parts)) start three.0 three.1 in
    let joint = c.joints_stay.ensures.joint devid telling (Some (out_submit 1 112)) 2 text [] [] (takes_in text ∷ puts_out bytes ∷ []) start three.0
    (told_steps text bytes split.0 three.0 split.1 split.2 spelled put) ([], sym (append-nil (text ++ []) ∙ append-nil text)) (returns-clause-written c text spelled) in (
      three.0,
      three.1,
      joint,
      c.the_next_answer_is_read.ensures.answer devid telling (out_submit 1 112) 2 text [] bytes [] (down.RetSubmit (record { seqnum = 1; status = success; actual = 112 }) []) (takes_in text ∷ puts_out bytes ∷ []) three.0 joint refl
          (record { dir = (out_submit 1 112).dir; size = 112 }, refl, put),
    )

pub returns-clause-silent : goal.returns-clause-silent
returns-clause-silent c next byte written s joint =
    let e : byte ∷ [] ≡ [] = c.the_next_answer_is_read.ensures.none devid Free next written [] (puts_out (byte ∷ []) ∷ []) s joint in cc

pub returns-clause-fine : goal.returns-clause-fine
returns-clause-fine c text bytes rest more f spelled put whole bad =
    let told = returns-clause-told c text bytes spelled put in
    c.no_answer_is_refused.ensures.bad devid telling (Some (out_submit 1 112)) 2 text [] rest more (takes_in text ∷ puts_out bytes ∷ []) told.0 f told.2 (append-nil bytes ∙ whole) bad

pub returns-clause-until : goal.returns-clause-until
returns-clause-until c text bytes spelled put =
    let told = returns-clause-told c text bytes spelled put in
    let joint = c.joints_stay_until_unplugged.ensures.begins devid telling (Some (out_submit 1 112)) 2 text [] (takes_in text ∷ puts_out bytes ∷ []) told.0 told.2 in (
      told.0,
      joint,
      c.the_next_answer_is_read_until_unplugged.ensures.answer devid telling (out_submit 1 112) 2 text [] bytes [] (down.RetSubmit (record { seqnum = 1; status = success; actual = 112 }) []) (takes_in text ∷ puts_out bytes ∷ []) told.0 joint refl
          (record { dir = (out_submit 1 112).dir; size = 112 }, refl, put),
    )

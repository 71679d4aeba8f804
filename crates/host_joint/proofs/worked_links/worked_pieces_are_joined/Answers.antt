use Rattle.std.proofs.Common.{◌≡◌, ◌∙◌, ℕ, List, [], ◌∷◌, ◌++◌, take, drop, Some, None, refl, ap, sym, append-nil}
use Rattle.usbip_wire.specs.declared.ret_submit.RetSubmitHead.{RetSubmitHead}
use Rattle.usbip_wire.specs.Up as up
use Rattle.usbip_wire.specs.Down as down
use Rattle.tmc_law.specs.State.{State}
use Rattle.tmc_law.specs.Put.{Put, success, unplugged}
use Rattle.tmc_law.specs.Laws.{message_of}
use Rattle.tmc_law.specs.Run.{Runs, SpellsPut}
use Rattle.tmc_law.specs.WorkedParts.{spaced}
use Rattle.tmc_law.specs.WorkedSession.{devid, out_submit, in_submit, answered}
use Rattle.tmc_law.specs.WorkedTold.{takes_in, puts_out}
use Rattle.host_joint.specs.Hand.{Pauses, WritesNext, WritesRead}
use Rattle.host_joint.specs.Joint.{TellsCalmly, Joint}
use Rattle.host_joint.specs.Unplugged.{TellsUnhalted, JointUntil}
use Rattle.host_joint.specs.WorkedPieces.{first_data, second_piece, next_request, giving_second, requested_second, behind_second, reading_second}
use Rattle.host_joint.specs.WorkedUnplugging.{unplugging_inside, unplugged_inside, unplugged_behind}
use Rattle.host_joint.proofs.Serving.{gives_second}
use Rattle.host_joint.proofs.Pausing.{next_is}
use Rattle.host_joint.proofs.Gone.{goes_inside}
use Rattle.host_joint.proofs.worked_links.worked_pieces_are_joined.Goals as goal

pub returns-clause-reads : goal.returns-clause-reads
returns-clause-reads c text spelled =
    let before : Joint devid reading_second None 6 [] [] [] requested_second = record {
      coming = [];
      ups = [];
      sent = refl;
      spelled = refl;
      behind = [];
      downs = [];
      given = refl;
      put = refl;
      accepted = λ f e. cc;
      tie = c.worked_pieces_are_read.ensures.again.1;
    } in
    c.writes_keep_joints.ensures.tie devid reading_second reading_second (in_submit 6 4096) [] text 6 [] [] [] requested_second
    (WritesRead 2 4 4000 spaced first_data [] refl (record { number = refl; way = refl; size = refl }) refl refl) refl spelled before

-- the two told steps of each
steps_given : (text bytes : List ℕ) (one : State) → Runs requested_second (take 1 giving_second) one → Runs one (drop 1 giving_second) behind_second → up.Spells devid (up.Submit (in_submit 6 4096) []) text
    → SpellsPut (answered (in_submit 6 4096) success 24 second_piece) bytes → TellsCalmly devid requested_second (takes_in text ∷ puts_out bytes ∷ []) behind_second
steps_given text bytes one first second spelled put = (
  one,
  record {
    means = record { run = take 1 giving_second; goes = first; took = (text, [], sym (append-nil text), spelled, refl); put = refl };
    calm = ((λ e. cc), (λ endpoint e. cc), tt);
  },
  (
    behind_second,
    record {
      means = record { run = drop 1 giving_second; goes = second; took = ([], [], refl, refl, ([], [], refl, refl, refl)); put = (bytes, [], sym (append-nil bytes), put, refl) };
      calm = ((λ e. cc), (λ endpoint e. cc), ((λ e. cc), (λ endpoint e. cc), tt));
    },
    refl,
  ),
)

steps_unplugged : (text bytes : List ℕ) (one : State) → Runs requested_second (take 1 unplugging_inside) one → Runs one (drop 1 unplugging_inside) unplugged_inside → up.Spells devid (up.Submit (in_submit 6 4096) []) text
    → SpellsPut (answered (in_submit 6 4096) unplugged 0 []) bytes → TellsUnhalted devid requested_second (takes_in text ∷ puts_out bytes ∷ []) unplugged_inside
steps_unplugged text bytes one first second spelled put = (
  one,
  record {
    means = record { run = take 1 unplugging_inside; goes = first; took = (text, [], sym (append-nil text), spelled, refl); put = refl };
    calm = ((λ endpoint e. cc), tt);
  },
  (
    unplugged_inside,
    record {
      means = record { run = drop 1 unplugging_inside; goes = second; took = ([], [], refl, refl, refl); put = (bytes, [], sym (append-nil bytes), put, refl) };
      calm = ((λ endpoint e. cc), tt);
    },
    refl,
  ),
)

pub returns-clause-given : goal.returns-clause-given
returns-clause-given c text bytes spelled put =
    let split = c.runs_join.ensures.apart (take 1 giving_second) (drop 1 giving_second) requested_second behind_second gives_second in
    let joint = c.joints_stay.ensures.joint devid reading_second (Some (in_submit 6 4096)) 7 text [] [] (takes_in text ∷ puts_out bytes ∷ []) requested_second behind_second
    (steps_given text bytes split.0 split.1 split.2 spelled put) ([], sym (append-nil (text ++ []) ∙ append-nil text)) (returns-clause-reads c text spelled) in (
      joint,
      c.the_next_answer_is_read.ensures.answer devid reading_second (in_submit 6 4096) 7 text [] bytes [] (down.RetSubmit (record { seqnum = 6; status = success; actual = 24 }) second_piece) (takes_in text ∷ puts_out bytes ∷ [])
          behind_second joint refl (record { dir = (in_submit 6 4096).dir; size = 4096 }, refl, put),
    )

pub returns-clause-fine : goal.returns-clause-fine
returns-clause-fine c text bytes rest more f spelled put whole bad =
    c.no_answer_is_refused.ensures.bad devid reading_second (Some (in_submit 6 4096)) 7 text [] rest more (takes_in text ∷ puts_out bytes ∷ []) behind_second f (returns-clause-given c text bytes spelled put).0 (append-nil bytes ∙ whole) bad

pub returns-clause-over : goal.returns-clause-over
returns-clause-over c steps = c.joints_begin.ensures.rest devid 7 steps behind_second (λ f e. cc) c.worked_pieces_are_read.ensures.whole.0

pub returns-clause-unplugged : goal.returns-clause-unplugged
returns-clause-unplugged c text bytes spelled put =
    let split = c.runs_join.ensures.apart (take 1 unplugging_inside) (drop 1 unplugging_inside) requested_second unplugged_inside goes_inside in
    let joint = c.joints_stay_until_unplugged.ensures.joint devid reading_second (Some (in_submit 6 4096)) 7 text [] [] (takes_in text ∷ puts_out bytes ∷ []) requested_second unplugged_inside
    (steps_unplugged text bytes split.0 split.1 split.2 spelled put) ([], sym (append-nil (text ++ []) ∙ append-nil text))
    (c.joints_stay_until_unplugged.ensures.begins devid reading_second (Some (in_submit 6 4096)) 7 text [] [] requested_second (returns-clause-reads c text spelled)) in (
      joint,
      c.the_next_answer_is_read_until_unplugged.ensures.answer devid reading_second (in_submit 6 4096) 7 text [] bytes [] (down.RetSubmit (record { seqnum = 6; status = unplugged; actual = 0 }) []) (takes_in text ∷ puts_out bytes ∷ [])
          unplugged_inside joint refl (record { dir = (in_submit 6 4096).dir; size = 4096 }, refl, put),
    )

pub returns-clause-until : goal.returns-clause-until
returns-clause-until c text spelled =
    let before : JointUntil devid (Pauses 2 spaced first_data) None 5 [] [] [] unplugged_behind = record {
      coming = [];
      ups = [];
      sent = refl;
      spelled = refl;
      behind = [];
      downs = [];
      given = refl;
      put = refl;
      accepted = λ f e. cc;
      tie = c.worked_hosts_are_unplugged.ensures.taken.0;
    } in
    c.writes_keep_joints_until_unplugged.ensures.tie devid (Pauses 2 spaced first_data) reading_second (out_submit 5 12) next_request text 5 [] [] [] unplugged_behind
    (WritesNext 2 4 4000 spaced first_data refl next_is refl) refl spelled before

status_of : (a b : RetSubmitHead) (bytes other : List ℕ) → down.RetSubmit a bytes ≡ down.RetSubmit b other → a ≡ b
status_of a b bytes other e = cc

pub returns-clause-mistaken : goal.returns-clause-mistaken
returns-clause-mistaken c written bytes s put joint =
    let next = c.the_next_answer_is_read.ensures.answer devid reading_second (in_submit 6 4096) 7 written [] bytes [] (down.RetSubmit (record { seqnum = 6; status = unplugged; actual = 0 }) []) (puts_out bytes ∷ []) s joint refl
    (record { dir = (in_submit 6 4096).dir; size = 4096 }, refl, put) in
    let same = status_of next.given.answer (record { seqnum = 6; status = unplugged; actual = 0 }) next.given.transferred [] (sym (ap (λ (p : Put). message_of p) next.given.is) ∙ next.is) in
    let e : success ≡ unplugged = sym next.given.status ∙ ap (λ (a : RetSubmitHead). a.status) same in cc

use Rattle.std.proofs.Common.{◌≡◌, [], ◌∷◌, take, drop, refl, inl, ap}
use Rattle.usbip_wire.specs.declared.ret_unlink.RetUnlinkHead.{RetUnlinkHead}
use Rattle.usbip_wire.specs.Up as up
use Rattle.instr_plain.specs.declared.remote.RemoteAct.TheVariants.{On}
use Rattle.tmc_law.specs.Endpoint.{Control}
use Rattle.tmc_law.specs.State.{State, start, arrived}
use Rattle.tmc_law.specs.Put.{success, unlinked, unplugged}
use Rattle.tmc_law.specs.Queues.{Hits}
use Rattle.tmc_law.specs.Run.{Runs}
use Rattle.tmc_law.specs.WorkedSession.{unlink, answered}
use Rattle.tmc_law.specs.WorkedRemote.{remote_submit, operating}
use Rattle.host_joint.specs.Races.{ActRaces}
use Rattle.host_joint.specs.WorkedRemotes.{unplugging_remote, unplugged_remote}
use Rattle.host_joint.specs.WorkedRaces.{stopping_remote}
use Rattle.host_joint.proofs.Coming.{comes}
use Rattle.host_joint.proofs.Stopping.{all_wide}
use Rattle.host_joint.proofs.worked_races.worked_remote_tickets_are_cancelled.Goals as goal

pub returns-clause-unlinked : goal.returns-clause-unlinked
returns-clause-unlinked c =
    c.remote_tickets_are_cancelled.ensures.unlink On [] remote_submit (unlink 2 1) 2 (up.Submit remote_submit [] ∷ []) [] start refl refl c.worked_remote_tickets_are_tied.ensures.begins

abbrev asked : State
asked = record start { control = arrived remote_submit [] ∷ [] }

stops : Runs start stopping_remote start
stops = (
  asked,
  comes start remote_submit [] Control (record { plugged = refl; wide = refl; eight = refl; setup = refl; carried = refl; bytes = refl; free = refl; few = refl }) (record { number = refl; way = refl; usable = refl }),
  (start, record { plugged = refl; leads = (all_wide (2 ∷ 0x00010002 ∷ 1 ∷ []) refl, Hits Control [] (arrived remote_submit []) [] refl refl refl refl refl) }, refl),
)

pub returns-clause-hit : goal.returns-clause-hit
returns-clause-hit c =
    let went = c.tickets_are_held.ensures.stays (ActRaces On [] remote_submit (unlink 2 1)) stopping_remote 3 [] [] start start stops ((λ e. cc), ((λ e. cc), tt)) (returns-clause-unlinked c) in
    let over = c.remote_tickets_are_cancelled.ensures.hit On [] remote_submit (unlink 2 1) 3 (unlink 2 1) (record { seqnum = 2; status = unlinked }) [] [] start went in
    (stops, over.1, over.2)

pub returns-clause-answered : goal.returns-clause-answered
returns-clause-answered c =
    let split = c.runs_join.ensures.apart (take 2 operating) (drop 2 operating) start _ c.a_remote_act_is_logged.ensures.remote in
    let went = c.tickets_are_held.ensures.stays (ActRaces On [] remote_submit (unlink 2 1)) (take 2 operating) 3 (up.Unlink (unlink 2 1) ∷ []) [] start split.0 split.1 ((λ e. cc), ((λ e. cc), tt)) (returns-clause-unlinked c) in
    let over = c.remote_tickets_are_cancelled.ensures.answer On [] remote_submit (unlink 2 1) 3 remote_submit (record { seqnum = 1; status = success; actual = 1 }) (0x01 ∷ []) (up.Unlink (unlink 2 1) ∷ []) [] split.0 went in
    (split.0, split.1, over.3, over.4)

unplugs : Runs start unplugging_remote unplugged_remote
unplugs = (
  asked,
  comes start remote_submit [] Control (record { plugged = refl; wide = refl; eight = refl; setup = refl; carried = refl; bytes = refl; free = refl; few = refl }) (record { number = refl; way = refl; usable = refl }),
  (unplugged_remote, record { plugged = refl; leads = record { answered = refl; is = refl } }, refl),
)

pub returns-clause-unplugged : goal.returns-clause-unplugged
returns-clause-unplugged c =
    c.tickets_are_held.ensures.next (ActRaces On [] remote_submit (unlink 2 1)) 3 (answered remote_submit unplugged 0 []) (up.Unlink (unlink 2 1) ∷ []) [] unplugged_remote
    (c.tickets_are_held.ensures.until (ActRaces On [] remote_submit (unlink 2 1)) unplugging_remote 3 (up.Unlink (unlink 2 1) ∷ []) [] start unplugged_remote unplugs (inl (returns-clause-unlinked c)))

pub returns-clause-mistaken : goal.returns-clause-mistaken
returns-clause-mistaken c since next ups downs s o =
    let e : success ≡ unlinked = ap (λ (r : RetUnlinkHead). r.status) (c.remote_tickets_are_cancelled.ensures.hit On since remote_submit (unlink 2 1) next (unlink 2 1) (record { seqnum = 2; status = success }) ups downs s o).0 in absurd (cc)

-- the instrument is operated from remote and locked, step by step
use Rattle.std.proofs.Common.{true, false, [], ◌∷◌, refl, lit<}
use Rattle.tmc_wire.specs.declared.class_request.ClassRequest.TheVariants.{Ren, Capabilities, Pulse, GoLocal, Lockout}
use Rattle.tmc_wire.specs.ControlTable.{row}
use Rattle.instr_plain.specs.declared.remote.RemoteState.TheVariants.{Remote, LocalLockout, RemoteLockout}
use Rattle.instr_plain.specs.declared.log.LogEntry.TheVariants as entry
use Rattle.instr_plain.specs.declared.remote.RemoteAct.TheVariants as act
use Rattle.instr_plain.specs.Standing.{power_on, at_power_on}
use Rattle.tmc_law.specs.Endpoint.{ends}
use Rattle.tmc_law.specs.State.{State, start, arrived}
use Rattle.tmc_law.specs.Control.{Asks}
use Rattle.tmc_law.specs.Class.{DoesOperate, capabilities_layout}
use Rattle.tmc_law.specs.Run.{Runs}
use Rattle.tmc_law.specs.WorkedRemote.{remote_submit, capabilities_submit, operating, remote_log, lockout_submit, local_submit, locking, locked_log, release_submit, pulse_submit, releasing, released_log}
use Rattle.tmc_law.proofs.WorkedComing.{asking_comes}
use Rattle.tmc_law.proofs.WorkedAnswering.{answers_class}

abbrev remote_came : State
remote_came = record start { control = arrived remote_submit [] ∷ [] }

abbrev done : State
done = record start { log = remote_log; standing = record at_power_on { state = record power_on { remote = Remote } } }

abbrev capabilities_came : State
capabilities_came = record done { control = arrived capabilities_submit [] ∷ [] }

remote_asks : Asks (arrived remote_submit []) (row ends (Ren true))
remote_asks = record { fits = record { request_type = lit< tt; request = lit< tt; value = lit< tt; index = lit< tt; length = lit< tt }; layout = refl }

capabilities_asks : Asks (arrived capabilities_submit []) (row ends Capabilities)
capabilities_asks = record { fits = record { request_type = lit< tt; request = lit< tt; value = lit< tt; index = lit< tt; length = lit< tt }; layout = refl }

pub operates : Runs start operating done
operates = (
  remote_came,
  asking_comes start 1 1 0xA1 _ (record { plugged = refl; free = refl; few = refl }) refl refl,
  (
    done,
    answers_class remote_came (arrived remote_submit []) [] (Ren true) (record { layout = 0x01 ∷ []; behind = []; state = done })
        refl refl remote_asks tt (DoesOperate done (record { standing = done.standing; after = refl; is = refl }) refl),
    (
      capabilities_came,
      asking_comes done 2 24 0xA1 _ (record { plugged = refl; free = refl; few = refl }) refl refl,
      (
        done,
        answers_class capabilities_came (arrived capabilities_submit []) [] Capabilities (record { layout = capabilities_layout; behind = []; state = done })
            refl refl capabilities_asks tt refl,
        refl,
      ),
    ),
  ),
)

-- local operation is locked out
abbrev locked_out : State
locked_out = record start {
  log = entry.Remote act.On ∷ entry.Remote act.Lockout ∷ [];
  standing = record at_power_on { state = record power_on { remote = RemoteLockout } };
}

abbrev pub locked : State
locked = record start { log = locked_log; standing = record at_power_on { state = record power_on { remote = LocalLockout } } }

abbrev pub released : State
released = record start { log = released_log }

abbrev lockout_came : State
lockout_came = record done { control = arrived lockout_submit [] ∷ [] }

lockout_asks : Asks (arrived lockout_submit []) (row ends Lockout)
lockout_asks = record { fits = record { request_type = lit< tt; request = lit< tt; value = lit< tt; index = lit< tt; length = lit< tt }; layout = refl }

abbrev local_came : State
local_came = record locked_out { control = arrived local_submit [] ∷ [] }

local_asks : Asks (arrived local_submit []) (row ends GoLocal)
local_asks = record { fits = record { request_type = lit< tt; request = lit< tt; value = lit< tt; index = lit< tt; length = lit< tt }; layout = refl }

abbrev release_came : State
release_came = record locked { control = arrived release_submit [] ∷ [] }

release_asks : Asks (arrived release_submit []) (row ends (Ren false))
release_asks = record { fits = record { request_type = lit< tt; request = lit< tt; value = lit< tt; index = lit< tt; length = lit< tt }; layout = refl }

abbrev pulse_came : State
pulse_came = record released { control = arrived pulse_submit [] ∷ [] }

pulse_asks : Asks (arrived pulse_submit []) (row ends Pulse)
pulse_asks = record { fits = record { request_type = lit< tt; request = lit< tt; value = lit< tt; index = lit< tt; length = lit< tt }; layout = refl }

pub locks : Runs start locking locked
locks = (
  remote_came,
  asking_comes start 1 1 0xA1 _ (record { plugged = refl; free = refl; few = refl }) refl refl,
  (
    done,
    answers_class remote_came (arrived remote_submit []) [] (Ren true) (record { layout = 0x01 ∷ []; behind = []; state = done })
        refl refl remote_asks tt (DoesOperate done (record { standing = done.standing; after = refl; is = refl }) refl),
    (
      lockout_came,
      asking_comes done 2 1 0xA1 _ (record { plugged = refl; free = refl; few = refl }) refl refl,
      (
        locked_out,
        answers_class lockout_came (arrived lockout_submit []) [] Lockout (record { layout = 0x01 ∷ []; behind = []; state = locked_out })
            refl refl lockout_asks tt (DoesOperate locked_out (record { standing = locked_out.standing; after = refl; is = refl }) refl),
        (
          local_came,
          asking_comes locked_out 3 1 0xA1 _ (record { plugged = refl; free = refl; few = refl }) refl refl,
          (
            locked,
            answers_class local_came (arrived local_submit []) [] GoLocal (record { layout = 0x01 ∷ []; behind = []; state = locked })
                refl refl local_asks tt (DoesOperate locked (record { standing = locked.standing; after = refl; is = refl }) refl),
            refl,
          ),
        ),
      ),
    ),
  ),
)

pub releases : Runs locked releasing released
releases = (
  release_came,
  asking_comes locked 4 1 0xA1 _ (record { plugged = refl; free = refl; few = refl }) refl refl,
  (
    released,
    answers_class release_came (arrived release_submit []) [] (Ren false) (record { layout = 0x01 ∷ []; behind = []; state = released })
        refl refl release_asks tt (DoesOperate released (record { standing = released.standing; after = refl; is = refl }) refl),
    (
      pulse_came,
      asking_comes released 5 1 0xA1 _ (record { plugged = refl; free = refl; few = refl }) refl refl,
      (
        released,
        answers_class pulse_came (arrived pulse_submit []) [] Pulse (record { layout = 0x01 ∷ []; behind = []; state = released }) refl refl pulse_asks tt refl,
        refl,
      ),
    ),
  ),
)

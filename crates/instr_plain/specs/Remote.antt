-- who may operate the instrument (IEEE 488.1, section 2.8, and USB488, section 3.3)
use Rattle.instr_plain.specs.declared.remote.RemoteState.{RemoteState}
use Rattle.instr_plain.specs.declared.remote.RemoteState.TheVariants.{Local, Remote, LocalLockout, RemoteLockout}
use Rattle.instr_plain.specs.declared.remote.RemoteAct.{RemoteAct}
use Rattle.instr_plain.specs.declared.remote.RemoteAct.TheVariants.{On, Off, GoLocal, Lockout}

-- the state behind an act
abbrev pub remote_behind : RemoteState → RemoteAct → RemoteState
remote_behind Local On = Remote
remote_behind Local Off = Local
remote_behind Local GoLocal = Local
remote_behind Local Lockout = LocalLockout
remote_behind Remote On = Remote
remote_behind Remote Off = Local
remote_behind Remote GoLocal = Local
remote_behind Remote Lockout = RemoteLockout
remote_behind LocalLockout On = RemoteLockout
remote_behind LocalLockout Off = Local
remote_behind LocalLockout GoLocal = LocalLockout
remote_behind LocalLockout Lockout = LocalLockout
remote_behind RemoteLockout On = RemoteLockout
remote_behind RemoteLockout Off = Local
remote_behind RemoteLockout GoLocal = LocalLockout
remote_behind RemoteLockout Lockout = RemoteLockout

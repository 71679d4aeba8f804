-- the answers to class requests
use Rattle.std.proofs.Common.{◌≡◌, ℕ, ◌<◌, ◌^◌, Bool, true, false, List, [], ◌∷◌, length, drop, Option, refl, sym, ap, subst, lit<}
use Rattle.tmc_wire.specs.declared.class_request.ClassRequest.{ClassRequest}
use Rattle.tmc_wire.specs.declared.class_request.ClassRequest.TheVariants as request
use Rattle.tmc_wire.specs.ClassStatus.{STATUS_SUCCESS}
use Rattle.instr_plain.specs.declared.remote.RemoteAct.{RemoteAct}
use Rattle.instr_plain.specs.declared.remote.RemoteAct.TheVariants as act
use Rattle.tmc_law.specs.State.{State, start, Pending, Running, Nothing, AbortsOut, AbortsIn, Clears}
use Rattle.tmc_law.specs.Aborts.{Served, Declined, AbortsBulkOut, AbortsBulkIn, ClearsAll, DoesClear, check_out_layout, check_in_layout, checked_out, checked_in, checked_clear}
use Rattle.tmc_law.specs.Aborts as abort
use Rattle.tmc_law.specs.Status.{ReadsStatus, status_layout}
use Rattle.tmc_law.specs.Status as status
use Rattle.tmc_law.specs.Class.{Operates, DoesOperate, Serves, StaysPending, capabilities_layout}
use Rattle.tmc_law.specs.Run.{Entry, Runs}
use Rattle.tmc_law.specs.Layouts.{IsLaidOut}
use Rattle.tmc_law.proofs.Laid.{RunningFits}
use Rattle.tmc_law.proofs.LaidSteps.{reached}

-- a layout that is another
laid_as : (request : ClassRequest) (layout other : List ℕ) → layout ≡ other → IsLaidOut request other → IsLaidOut request layout
laid_as request layout other same laid = subst (λ (x : List ℕ). IsLaidOut request x) (sym same) laid

-- what was served is this
served_as : (request : ClassRequest) (served other : Served) → served ≡ other → IsLaidOut request other.layout → IsLaidOut request served.layout
served_as request served other same laid = laid_as request served.layout other.layout (ap (λ (x : Served). x.layout) same) laid

-- ---- the layouts, request by request

abort_out_laid : (tag code second : ℕ) → IsLaidOut (request.AbortOut tag) (code ∷ second ∷ [])
abort_out_laid tag code second = record {
  size = refl;
  answer = record { status = code; second = second; bytes = 0 };
  is = record { more = []; layout = refl; no_bytes = refl };
}

abort_in_laid : (tag code second : ℕ) → IsLaidOut (request.AbortIn tag) (code ∷ second ∷ [])
abort_in_laid tag code second = record {
  size = refl;
  answer = record { status = code; second = second; bytes = 0 };
  is = record { more = []; layout = refl; no_bytes = refl };
}

check_clear_laid : (code second : ℕ) → IsLaidOut request.CheckClear (code ∷ second ∷ [])
check_clear_laid code second = record {
  size = refl;
  answer = record { status = code; second = second; bytes = 0 };
  is = record { more = []; layout = refl; no_bytes = refl };
}

check_out_laid : (code : ℕ) → IsLaidOut request.CheckOut (check_out_layout code)
check_out_laid code = record {
  size = refl;
  answer = record { status = code; second = 0; bytes = 0 };
  is = record { third = 0; fourth = 0; more = []; fits = lit< tt; layout = refl };
}

check_in_laid : (code second given : ℕ) → given < 2 ^ 32 → IsLaidOut request.CheckIn (check_in_layout code second given)
check_in_laid code second given small = record {
  size = refl;
  answer = record { status = code; second = second; bytes = given };
  is = record { third = 0; fourth = 0; more = []; fits = small; layout = refl };
}

clear_laid : (code : ℕ) → IsLaidOut request.Clear (code ∷ [])
clear_laid code = record {
  size = refl;
  answer = record { status = code; second = 0; bytes = 0 };
  is = record { more = []; layout = refl; no_second = refl; no_bytes = refl };
}

capabilities_laid : IsLaidOut request.Capabilities capabilities_layout
capabilities_laid = record {
  size = refl;
  answer = record { status = STATUS_SUCCESS; second = 0; bytes = 0 };
  is = record { capabilities = drop 2 capabilities_layout; more = []; size = refl; layout = refl; no_bytes = refl };
}

pulse_laid : (code : ℕ) → IsLaidOut request.Pulse (code ∷ [])
pulse_laid code = record {
  size = refl;
  answer = record { status = code; second = 0; bytes = 0 };
  is = record { more = []; layout = refl; no_second = refl; no_bytes = refl };
}

read_status_laid : (tag code : ℕ) → IsLaidOut (request.ReadStatus tag) (status_layout code tag)
read_status_laid tag code = record {
  size = refl;
  answer = record { status = code; second = tag; bytes = 0 };
  is = record { more = []; layout = refl };
}

-- ---- what each serves

declined_out : (tag : ℕ) (running : Running) (in_progress : Option ℕ) (layout : List ℕ) → Declined running in_progress tag layout
    → IsLaidOut (request.AbortOut tag) layout
declined_out tag running in_progress layout (abort.Declined.Busy busy is) = laid_as _ layout _ is (abort_out_laid tag _ _)
declined_out tag running in_progress layout (abort.NoTransfer calm none is) = laid_as _ layout _ is (abort_out_laid tag _ _)
declined_out tag running in_progress layout (abort.Another other calm some differs is) = laid_as _ layout _ is (abort_out_laid tag _ _)

declined_in : (tag : ℕ) (running : Running) (in_progress : Option ℕ) (layout : List ℕ) → Declined running in_progress tag layout
    → IsLaidOut (request.AbortIn tag) layout
declined_in tag running in_progress layout (abort.Declined.Busy busy is) = laid_as _ layout _ is (abort_in_laid tag _ _)
declined_in tag running in_progress layout (abort.NoTransfer calm none is) = laid_as _ layout _ is (abort_in_laid tag _ _)
declined_in tag running in_progress layout (abort.Another other calm some differs is) = laid_as _ layout _ is (abort_in_laid tag _ _)

aborts_out : (tag : ℕ) (s : State) (served : Served) → AbortsBulkOut tag s served → IsLaidOut (request.AbortOut tag) served.layout
aborts_out tag s served (abort.AbortsBulkOut.NotBegun layout declined is) = served_as _ served _ is (declined_out tag _ _ layout declined)
aborts_out tag s served (abort.AbortsBulkOut.DoesAbort calm ours is) = served_as _ served _ is (abort_out_laid tag _ _)

aborts_in : (tag : ℕ) (s : State) (served : Served) → AbortsBulkIn tag s served → IsLaidOut (request.AbortIn tag) served.layout
aborts_in tag s served (abort.AbortsBulkIn.NotBegun layout declined is) = served_as _ served _ is (declined_in tag _ _ layout declined)
aborts_in tag s served (abort.AbortsBulkIn.DoesAbort calm ours is) = served_as _ served _ is (abort_in_laid tag _ _)

checks_out : (running : Running) (s : State) → IsLaidOut request.CheckOut (checked_out (record s { running = running })).layout
checks_out Nothing s = check_out_laid _
checks_out AbortsOut s = check_out_laid _
checks_out (AbortsIn wanting given) s = check_out_laid _
checks_out Clears s = check_out_laid _

checks_in : (running : Running) (s : State) → RunningFits running → IsLaidOut request.CheckIn (checked_in (record s { running = running })).layout
checks_in Nothing s fits = check_in_laid _ _ 0 (lit< tt)
checks_in AbortsOut s fits = check_in_laid _ _ 0 (lit< tt)
checks_in (AbortsIn true given) s fits = check_in_laid _ _ given fits
checks_in (AbortsIn false given) s fits = check_in_laid _ _ given fits
checks_in Clears s fits = check_in_laid _ _ 0 (lit< tt)

checks_clear : (running : Running) (s : State) → IsLaidOut request.CheckClear (checked_clear (record s { running = running })).layout
checks_clear Nothing s = check_clear_laid _ _
checks_clear AbortsOut s = check_clear_laid _ _
checks_clear (AbortsIn wanting given) s = check_clear_laid _ _
checks_clear Clears s = check_clear_laid _ _

clears : (s : State) (served : Served) → ClearsAll s served → IsLaidOut request.Clear served.layout
clears s served (DoesClear t logs is) = served_as _ served _ is (clear_laid _)

reads_status : (tag : ℕ) (submit : Pending) (s : State) (served : Served) → ReadsStatus tag submit s served
    → IsLaidOut (request.ReadStatus tag) served.layout
reads_status tag submit s served (status.BadTag bad is) = served_as _ served _ is (read_status_laid tag _)
reads_status tag submit s served (status.PolledBefore good polled is) = served_as _ served _ is (read_status_laid tag _)
reads_status tag submit s served (status.ReadsStatus.Busy good polled queued is) = served_as _ served _ is (read_status_laid tag _)
reads_status tag submit s served (status.PolledNow t good polled queued poll is) = served_as _ served _ is (read_status_laid tag _)

operated : (act : RemoteAct) (s : State) (served : Served) → Operates act s served → served.layout ≡ STATUS_SUCCESS ∷ []
operated act s served (DoesOperate t logs is) = ap (λ (x : Served). x.layout) is

ren_laid : (on : Bool) (layout : List ℕ) → layout ≡ STATUS_SUCCESS ∷ [] → IsLaidOut (request.Ren on) layout
ren_laid on layout is = record {
  size = ap (λ (x : List ℕ). length x) is;
  answer = record { status = STATUS_SUCCESS; second = 0; bytes = 0 };
  is = record { more = []; layout = is; no_second = refl; no_bytes = refl };
}

go_local_laid : (layout : List ℕ) → layout ≡ STATUS_SUCCESS ∷ [] → IsLaidOut request.GoLocal layout
go_local_laid layout is = record {
  size = ap (λ (x : List ℕ). length x) is;
  answer = record { status = STATUS_SUCCESS; second = 0; bytes = 0 };
  is = record { more = []; layout = is; no_second = refl; no_bytes = refl };
}

lockout_laid : (layout : List ℕ) → layout ≡ STATUS_SUCCESS ∷ [] → IsLaidOut request.Lockout layout
lockout_laid layout is = record {
  size = ap (λ (x : List ℕ). length x) is;
  answer = record { status = STATUS_SUCCESS; second = 0; bytes = 0 };
  is = record { more = []; layout = is; no_second = refl; no_bytes = refl };
}

serves : (request : ClassRequest) (submit : Pending) (s : State) (served : Served) → RunningFits s.running → Serves request submit s served
    → IsLaidOut request served.layout
serves (request.AbortOut tag) submit s served fits does = aborts_out tag s served does
serves request.CheckOut submit s served fits does = served_as _ served _ does (checks_out s.running s)
serves (request.AbortIn tag) submit s served fits does = aborts_in tag s served does
serves request.CheckIn submit s served fits does = served_as _ served _ does (checks_in s.running s fits)
serves request.Clear submit s served fits does = clears s served does
serves request.CheckClear submit s served fits does = served_as _ served _ does (checks_clear s.running s)
serves request.Capabilities submit s served fits does = served_as _ served _ does capabilities_laid
serves request.Pulse submit s served fits does = served_as _ served _ does (pulse_laid _)
serves (request.ReadStatus tag) submit s served fits does = reads_status tag submit s served does
serves (request.Ren true) submit s served fits does = ren_laid true served.layout (operated act.On s served does)
serves (request.Ren false) submit s served fits does = ren_laid false served.layout (operated act.Off s served does)
serves request.GoLocal submit s served fits does = go_local_laid served.layout (operated act.GoLocal s served does)
serves request.Lockout submit s served fits does = lockout_laid served.layout (operated act.Lockout s served does)

pub answers : (run : List Entry) (s : State) (submit : Pending) (behind : List Pending) (request : ClassRequest) (served : Served)
    → Runs start run s → Serves request submit (record s { control = behind }) served → IsLaidOut request served.layout
answers run s submit behind request served runs does =
    serves request submit (record s { control = behind }) served (reached run s runs).running does

pends : (running : Running) (request : ClassRequest) (layout : List ℕ) → RunningFits running → StaysPending running request layout
    → IsLaidOut request layout
pends AbortsOut request.CheckOut layout fits is = laid_as _ layout _ is (check_out_laid _)
pends (AbortsIn true given) request.CheckIn layout fits is = laid_as _ layout _ is (check_in_laid _ _ given fits)
pends (AbortsIn false given) request.CheckIn layout fits is = laid_as _ layout _ is (check_in_laid _ _ given fits)
pends Clears request.CheckClear layout fits is = laid_as _ layout _ is (check_clear_laid _ _)
pends _ _ layout fits is = absurd is

pub postpones : (run : List Entry) (s : State) (request : ClassRequest) (layout : List ℕ) → Runs start run s
    → StaysPending s.running request layout → IsLaidOut request layout
postpones run s request layout runs is = pends s.running request layout (reached run s runs).running is

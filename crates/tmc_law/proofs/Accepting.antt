-- the answers of steps and runs are accepted
use Rattle.std.proofs.Common.{◌≡◌, ℕ, ◌≤◌, List, [], ◌∷◌, None, length, refl, ap, sym, subst, arith}
use Rattle.usbip_wire.specs.declared.urb.Dir.{Dir}
use Rattle.usbip_wire.specs.declared.urb.Dir.TheVariants.{Out, In}
use Rattle.usbip_wire.specs.declared.dirs.Outstanding.{Outstanding}
use Rattle.usbip_wire.specs.Submit.{Carries}
use Rattle.usbip_wire.specs.Dirs.{find}
use Rattle.usbip_wire.specs.Up as up
use Rattle.tmc_law.specs.State.{State, start, pending}
use Rattle.tmc_law.specs.Put.{Put}
use Rattle.tmc_law.specs.Step.{Move, Comes, Refuses, Take, Exec, Begin, Fill, Answer, Pend, Poll, Notify, Halt, Unplug, Leads}
use Rattle.tmc_law.specs.Run.{Entry, Runs, taken}
use Rattle.usbip_wire.specs.Awaited.{Awaited, entries_of}
use Rattle.tmc_law.specs.Laws.{IsAccepted, IsNew, AreNew}
use Rattle.tmc_law.proofs.Entries.{with_messages}
use Rattle.tmc_law.proofs.Awaiting.{TakeOut, step_keeps}
use Rattle.tmc_law.proofs.Outstanding.{none_has}
use Rattle.tmc_law.proofs.Sound.{IsSound, sound_start, sound_step}
use Rattle.tmc_law.proofs.AnswerPlaces.{TiesAt, LastsAt, lasts_at, none_lasts, ties_at}
use Rattle.tmc_law.proofs.AnswerArrivals.{arrives_last, unlinks_last}
use Rattle.tmc_law.proofs.AnswerBulk.{same_ties, takes_last, executes_same, begins_same, fills_last, notifies_last, halts_itself_last, unplugs_last}
use Rattle.tmc_law.proofs.AnswerControl.{answers_last, postpones_last, polls_first_ties}

carried_fits : (dir : Dir) (size : ℕ) (transferred : List ℕ) → Carries dir size transferred → length transferred ≤ size
carried_fits Out size transferred carried = omega (arith, carried)
carried_fits In size transferred carried = omega (arith, ap (λ (l : List ℕ). length l) carried)

quietly : (entries : List Outstanding) (puts : List Put) (s t : State) → puts ≡ [] → TiesAt entries t → LastsAt entries puts t
quietly entries puts s t none ties = lasts_at entries puts [] t t none refl (none_lasts entries (pending t) t.bulk_out ties)

-- an unlink that comes has a number that is not outstanding
abbrev IsFresh : List Outstanding → Move → Type 0
IsFresh entries (Comes (up.Unlink head)) = find head.seqnum entries ≡ None
IsFresh entries _ = Unit {0}

leads_last : (move : Move) (entries : List Outstanding) (s : State) (puts : List Put) (t : State)
    → IsFresh entries move → TiesAt entries s → Leads s move puts t → LastsAt (with_messages entries (taken move)) puts t
leads_last (Comes (up.Submit head transferred)) entries s puts t new ties (came, avoids, few, arrives) =
    arrives_last entries s head transferred puts t (record {
      wide = came.wide 0;
      sized = came.wide 3;
      carried = carried_fits head.dir head.length transferred came.carried;
      unknown = ties.owed.covered head.seqnum avoids;
      avoids = avoids;
    }) ties arrives
leads_last (Comes (up.Unlink head)) entries s puts t new ties (came, unlinks) =
    unlinks_last entries s head puts t (came 0) (none_has head.seqnum entries new) ties unlinks
leads_last (Refuses devid bytes f) entries s puts t new ties (refused, none, i) =
    quietly entries puts s t none (ties_at entries t _ i ties)
leads_last (Take count) entries s puts t new ties (idle, takes) = takes_last entries s count puts t ties takes
leads_last Exec entries s puts t new ties (executes, none) =
    quietly entries puts s t none (same_ties entries s t (executes_same s t executes) ties)
leads_last (Begin count) entries s puts t new ties (begins, none) =
    quietly entries puts s t none (same_ties entries s t (begins_same s count t begins) ties)
leads_last (Fill count) entries s puts t new ties fills = fills_last entries s count puts t ties fills
leads_last Answer entries s puts t new ties answers = answers_last entries s puts t ties answers
leads_last Pend entries s puts t new ties postpones = postpones_last entries s puts t ties postpones
leads_last Poll entries s puts t new ties (polls, none) = quietly entries puts s t none (polls_first_ties entries s t ties polls)
leads_last Notify entries s puts t new ties notifies = notifies_last entries s puts t ties notifies
leads_last (Halt endpoint) entries s puts t new ties halts = halts_itself_last entries s endpoint puts t ties halts
leads_last Unplug entries s puts t new ties unplugs = unplugs_last entries s puts t ties unplugs

fresh : (move : Move) (awaited : List Awaited) (list : List Outstanding) → list ≡ entries_of awaited → IsNew awaited move → IsFresh list move
fresh (Comes (up.Submit head transferred)) awaited list is new = tt
fresh (Comes (up.Unlink head)) awaited list is new = subst (λ (l : List Outstanding). find head.seqnum l ≡ None) (sym is) new
fresh (Refuses devid bytes f) awaited list is new = tt
fresh (Take count) awaited list is new = tt
fresh Exec awaited list is new = tt
fresh (Begin count) awaited list is new = tt
fresh (Fill count) awaited list is new = tt
fresh Answer awaited list is new = tt
fresh Pend awaited list is new = tt
fresh Poll awaited list is new = tt
fresh Notify awaited list is new = tt
fresh (Halt endpoint) awaited list is new = tt
fresh Unplug awaited list is new = tt

runs_accepted : TakeOut → (run : List Entry) (awaited : List Awaited) (list : List Outstanding) (s t : State) → IsSound s → list ≡ entries_of awaited → TiesAt list s
    → AreNew awaited run → Runs s run t → IsAccepted awaited run
runs_accepted law [] awaited list s t whole is ties new runs = tt
runs_accepted law (entry ∷ run) awaited list s t whole is ties new (mid, steps, runs) =
    let last = leads_last entry.move list s entry.puts mid (fresh entry.move awaited list is new.0) ties steps.leads in
    let keeps = step_keeps law s entry.move entry.puts mid awaited list whole is new.0 ties steps.leads last.accepted in
    (keeps.accepted, runs_accepted law run _ _ mid t (sound_step s entry.move entry.puts mid whole steps) keeps.same last.ties new.1 runs)

pub accepted : TakeOut → (run : List Entry) (t : State) → Runs start run t → AreNew [] run → IsAccepted [] run
accepted law run t runs new =
    runs_accepted law run [] [] start t sound_start refl (record { owed = record { listed = tt; covered = λ n avoids. tt }; whole = tt }) new runs

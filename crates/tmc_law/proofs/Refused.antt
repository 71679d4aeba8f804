-- the bytes that a run takes in: spellings of its inputs, and where it closed the device, refused bytes behind them
use Rattle.std.proofs.Common.{◌≡◌, ◌∙◌, ℕ, List, [], ◌∷◌, ◌++◌, refl, sym, ap, subst, append_assoc, append-nil}
use Rattle.std.specs.Prelude.{◌↔◌}
use Rattle.tmc_base.specs.declared.field.Field.{Field}
use Rattle.usbip_wire.specs.Up as up
use Rattle.usbip_wire.specs.Stream.{Reads}
use Rattle.usbip_wire.specs.Laws.{ArePrefixFree}
use Rattle.tmc_law.specs.State.{State, Presence, Plugged, Unplugged, Closed}
use Rattle.tmc_law.specs.Put.{Put}
use Rattle.tmc_law.specs.Step.{Move, Comes, Refuses, Take, Exec, Begin, Fill, Answer, Pend, Poll, Notify, Halt, Unplug, Steps, IsRefused}
use Rattle.tmc_law.specs.Run.{Entry, Runs, TakesIn, TakesAll, taken, inputs, SpellAll, IsFront}
use Rattle.tmc_law.specs.Laws.{refusal, EndsRefused}
use Rattle.tmc_law.proofs.Present.{GoesOn, leads}
use Rattle.tmc_law.proofs.Joined as joined
use Rattle.tmc_law.proofs.Rows.{together, apart, front}

-- the device is not closed
abbrev pub IsOpen : State → Type 0
IsOpen s = (f : Field) → s.presence ≡ Closed f → ⊥

pub plugged_open : (s : State) → s.presence ≡ Plugged → IsOpen s
plugged_open s plugged f closed = let e : Plugged ≡ Closed f = sym plugged ∙ closed in cc

unplugged_open : (s : State) → s.presence ≡ Unplugged → IsOpen s
unplugged_open s unplugged f closed = let e : Unplugged ≡ Closed f = sym unplugged ∙ closed in cc

-- ---- one step

-- what a move takes in is its message, or nothing
abbrev TakesMessages : Move → Type 0
TakesMessages move = (devid : ℕ) (bytes : List ℕ) → TakesIn devid move bytes ↔ SpellAll (up.Spells devid) (taken move) bytes

-- a step refuses bytes and closes the device, or takes in messages and leaves it open
data Kind (s : State) (move : Move) (puts : List Put) (t : State) : Type 0 where
  Closes : (devid : ℕ) (bytes : List ℕ) (f : Field) → move ≡ Refuses devid bytes f → IsRefused devid s bytes f → puts ≡ []
      → t ≡ record s { presence = Closed f } → Kind s move puts t
  Opens : IsOpen t → TakesMessages move → Kind s move puts t

message_alone : (message : up.Message) → TakesMessages (Comes message)
message_alone message devid bytes = (λ spelled. (bytes, [], sym (append-nil bytes), spelled, refl), by)
  where
    by : SpellAll (up.Spells devid) (message ∷ []) bytes → up.Spells devid message bytes
    by (front, rest, is, spelled, none) =
        subst (λ (l : List ℕ). up.Spells devid message l) (sym (is ∙ (ap (λ (l : List ℕ). front ++ l) none ∙ append-nil front))) spelled

nothing : (devid : ℕ) (bytes : List ℕ) → (bytes ≡ []) ↔ SpellAll (up.Spells devid) [] bytes
nothing devid bytes = (λ none. none, λ none. none)

goes_on : (s : State) (move : Move) (puts : List Put) (t : State) → GoesOn move → TakesMessages move → Steps s move puts t → Kind s move puts t
goes_on s move puts t goes takes step = Opens (plugged_open t (leads s move puts t goes step.leads ∙ step.plugged)) takes

kind : (s : State) (move : Move) (puts : List Put) (t : State) → Steps s move puts t → Kind s move puts t
kind s (Comes (up.Submit head transferred)) puts t step = goes_on s _ puts t tt (message_alone (up.Submit head transferred)) step
kind s (Comes (up.Unlink head)) puts t step = goes_on s _ puts t tt (message_alone (up.Unlink head)) step
kind s (Refuses devid bytes f) puts t step = Closes devid bytes f refl step.leads.0 step.leads.1 step.leads.2
kind s (Take count) puts t step = goes_on s _ puts t tt nothing step
kind s Exec puts t step = goes_on s _ puts t tt nothing step
kind s (Begin count) puts t step = goes_on s _ puts t tt nothing step
kind s (Fill count) puts t step = goes_on s _ puts t tt nothing step
kind s Answer puts t step = goes_on s _ puts t tt nothing step
kind s Pend puts t step = goes_on s _ puts t tt nothing step
kind s Poll puts t step = goes_on s _ puts t tt nothing step
kind s Notify puts t step = goes_on s _ puts t tt nothing step
kind s (Halt e) puts t step = goes_on s _ puts t tt nothing step
kind s Unplug puts t step = Opens (unplugged_open t (ap (λ (x : State). x.presence) step.leads.is)) nothing

-- nothing follows a step that closed the device
nothing_follows : (run : List Entry) (s t : State) (f : Field) → s.presence ≡ Closed f → Runs s run t → (run ≡ []) × (t ≡ s)
nothing_follows [] s t f closed same = (refl, same)
nothing_follows (entry ∷ run) s t f closed (mid, step, more) = absurd (plugged_open s step.plugged f closed)

-- ---- runs that end open

pub spelled : (devid : ℕ) (run : List Entry) (s t : State) (bytes : List ℕ) → Runs s run t → IsOpen t → TakesAll devid run bytes
    → SpellAll (up.Spells devid) (inputs run) bytes
spelled devid [] s t bytes same opened took = took
spelled devid (entry ∷ run) s t bytes (mid, step, more) opened (first, rest, is, takes, took) = by (spelled devid run mid t rest more opened took) (kind s entry.move entry.puts mid step)
  where
    by : SpellAll (up.Spells devid) (inputs run) rest → Kind s entry.move entry.puts mid → SpellAll (up.Spells devid) (inputs (entry ∷ run)) bytes
    by row (Closes number refused f move refuses none closes) =
        let at : mid.presence ≡ Closed f = ap (λ (x : State). x.presence) closes in
        let last = nothing_follows run mid t f at more in
        absurd (opened f (ap (λ (x : State). x.presence) last.1 ∙ at))
    by row (Opens goes messages) =
        subst (λ (l : List ℕ). SpellAll (up.Spells devid) (inputs (entry ∷ run)) l) (sym is)
        (together (up.Spells devid) (taken entry.move) (inputs run) first rest ((messages devid first).0 takes) row)

pub takes : (devid : ℕ) (run : List Entry) (s t : State) (bytes : List ℕ) → Runs s run t → IsOpen t → SpellAll (up.Spells devid) (inputs run) bytes
    → TakesAll devid run bytes
takes devid [] s t bytes same opened row = row
takes devid (entry ∷ run) s t bytes (mid, step, more) opened row = by (λ rest. takes devid run mid t rest more opened) (kind s entry.move entry.puts mid step)
  where
    by : ((rest : List ℕ) → SpellAll (up.Spells devid) (inputs run) rest → TakesAll devid run rest) → Kind s entry.move entry.puts mid → TakesAll devid (entry ∷ run) bytes
    by behind (Closes number refused f move refuses none closes) =
        let at : mid.presence ≡ Closed f = ap (λ (x : State). x.presence) closes in
        let last = nothing_follows run mid t f at more in
        absurd (opened f (ap (λ (x : State). x.presence) last.1 ∙ at))
    by behind (Opens goes messages) =
        let parts = apart (up.Spells devid) (taken entry.move) (inputs run) bytes [] row in
        (parts.0, parts.1, parts.2, (messages devid parts.0).1 parts.3, behind parts.1 parts.4)

pub takes_spellings : (devid : ℕ) (run : List Entry) (s t : State) (bytes : List ℕ) → Runs s run t → ((f : Field) → t.presence ≡ Closed f → ⊥)
    → TakesAll devid run bytes ↔ SpellAll (up.Spells devid) (inputs run) bytes
takes_spellings devid run s t bytes goes opened = (spelled devid run s t bytes goes opened, takes devid run s t bytes goes opened)

-- ---- runs that end closed

-- with an entry in front
ends_behind : (devid : ℕ) (entry : Entry) (run : List Entry) (s mid t : State) (first rest bytes : List ℕ) (f : Field) → Steps s entry.move entry.puts mid
    → SpellAll (up.Spells devid) (taken entry.move) first → bytes ≡ first ++ rest → EndsRefused devid mid run t rest f → EndsRefused devid s (entry ∷ run) t bytes f
ends_behind devid entry run s mid t first rest bytes f step row is ends = record {
  before = entry ∷ ends.before;
  mid = ends.mid;
  front = first ++ ends.front;
  refused = ends.refused;
  goes = (mid, step, ends.goes);
  plugged = ends.plugged;
  last = ap (λ (l : List Entry). entry ∷ l) ends.last;
  closed = ends.closed;
  took = is ∙ (ap (λ (l : List ℕ). first ++ l) ends.took ∙ sym (append_assoc first ends.front ends.refused));
  spelled = together (up.Spells devid) (taken entry.move) (inputs run) first ends.front row ends.spelled;
  refuses = ends.refuses;
}

same_field : (s t : State) (f g : Field) → s.presence ≡ Closed f → s.presence ≡ Closed g → f ≡ g
same_field s t f g one other = field_of s.presence one other
  where
    field_of : (presence : Presence) → presence ≡ Closed f → presence ≡ Closed g → f ≡ g
    field_of presence a b = let e : Closed f ≡ Closed g = sym a ∙ b in cc

pub ends : (devid : ℕ) (run : List Entry) (s t : State) (bytes : List ℕ) (f : Field) → IsOpen s → Runs s run t → TakesAll devid run bytes → t.presence ≡ Closed f
    → EndsRefused devid s run t bytes f
ends devid [] s t bytes f opened same took closed = absurd (opened f (ap (λ (x : State). x.presence) (sym same) ∙ closed))
ends devid (entry ∷ run) s t bytes f opened (mid, step, more) (first, rest, is, takes, took) closed =
    by (λ goes. ends devid run mid t rest f goes more took closed) (kind s entry.move entry.puts mid step)
  where
    by : (IsOpen mid → EndsRefused devid mid run t rest f) → Kind s entry.move entry.puts mid → EndsRefused devid s (entry ∷ run) t bytes f
    by behind (Closes number refused g move refuses none closes) =
        let at : mid.presence ≡ Closed g = ap (λ (x : State). x.presence) closes in
        let last = nothing_follows run mid t g at more in
        let same : g ≡ f = same_field t t g f (ap (λ (x : State). x.presence) last.1 ∙ at) closed in
        let given : (number ≡ devid) × (first ≡ refused) = subst (λ (m : Move). TakesIn devid m first) move takes in
        let end : rest ≡ [] = subst (λ (r : List Entry). TakesAll devid r rest) last.0 took in
        let is_entry : entry ≡ refusal devid refused f =
        ap (λ (m : Move). record { move = m; puts = entry.puts }) move ∙ (ap (λ (p : List Put). record { move = Refuses number refused g; puts = p }) none
        ∙ (ap (λ (n : ℕ). refusal n refused g) given.0 ∙ ap (λ (h : Field). refusal devid refused h) same)) in
        record {
          before = [];
          mid = s;
          front = [];
          refused = refused;
          goes = refl;
          plugged = step.plugged;
          last = ap (λ (r : List Entry). entry ∷ r) last.0 ∙ ap (λ (e : Entry). e ∷ []) is_entry;
          closed = last.1 ∙ (closes ∙ ap (λ (h : Field). record s { presence = Closed h }) same);
          took = is ∙ (ap (λ (l : List ℕ). first ++ l) end ∙ (append-nil first ∙ given.1));
          spelled = subst (λ (e : Entry). SpellAll (up.Spells devid) (inputs (e ∷ run)) []) (sym is_entry) (subst (λ (r : List Entry). SpellAll (up.Spells devid) (inputs r) []) (sym last.0) refl);
          refuses = subst (λ (n : ℕ). IsRefused n s refused f) given.0 (subst (λ (h : Field). IsRefused number s refused h) same refuses);
        }
    by behind (Opens goes messages) =
        ends_behind devid entry run s mid t first rest bytes f step ((messages devid first).0 takes) is (behind goes)

-- behind messages that a run took in, refused bytes close the device
pub closes : (devid : ℕ) (run : List Entry) (s m : State) (front refused : List ℕ) (f : Field) → Runs s run m → m.presence ≡ Plugged
    → SpellAll (up.Spells devid) (inputs run) front → IsRefused devid m refused f
    → Runs s (run ++ refusal devid refused f ∷ []) (record m { presence = Closed f }) × TakesAll devid (run ++ refusal devid refused f ∷ []) (front ++ refused)
closes devid run s m front refused f goes plugged row refuses =
    let last : Runs m (refusal devid refused f ∷ []) (record m { presence = Closed f }) =
    (record m { presence = Closed f }, record { plugged = plugged; leads = (refuses, refl, refl) }, refl) in (
      joined.together run (refusal devid refused f ∷ []) s m (record m { presence = Closed f }) goes last,
      joined.taken_together devid run (refusal devid refused f ∷ []) front refused (takes devid run s m front goes (plugged_open m plugged) row)
          (refused, [], sym (append-nil refused), (refl, refl), refl),
    )

-- ---- inputs

-- what a run took in begins with the spellings of its inputs
abbrev Begins : ℕ → List Entry → List ℕ → Type 0
Begins devid run bytes = (front rest : List ℕ) × (bytes ≡ front ++ rest) × SpellAll (up.Spells devid) (inputs run) front

begins : (devid : ℕ) (run : List Entry) (s t : State) (bytes : List ℕ) → Runs s run t → TakesAll devid run bytes → Begins devid run bytes
begins devid run s t bytes goes took = by t.presence refl
  where
    open_begins : IsOpen t → Begins devid run bytes
    open_begins opened = (bytes, [], sym (append-nil bytes), spelled devid run s t bytes goes opened took)

    by : (presence : Presence) → t.presence ≡ presence → Begins devid run bytes
    by Plugged at = open_begins (plugged_open t at)
    by Unplugged at = open_begins (unplugged_open t at)
    by (Closed f) at = from run goes took
      where
        from : (run : List Entry) → Runs s run t → TakesAll devid run bytes → Begins devid run bytes
        from [] same took = ([], bytes, refl, refl)
        from (entry ∷ run) goes took =
            let end = ends devid (entry ∷ run) s t bytes f (plugged_open s goes.1.plugged) goes took at in
            (end.front, end.refused, end.took, end.spelled)

-- the inputs of a lawful run are the first of the messages that are read from the bytes that it was sent
pub took_first : (devid : ℕ) → ArePrefixFree (up.Spells devid) → (run : List Entry) (s t : State) (bytes more rest : List ℕ) (messages : List up.Message)
    → Runs s run t → TakesAll devid run bytes → Reads (up.Spells devid) (bytes ++ more) messages rest → IsFront (inputs run) messages
took_first devid free run s t bytes more rest messages goes took reads =
    let begun = begins devid run s t bytes goes took in
    let is : bytes ++ more ≡ begun.0 ++ (begun.1 ++ more) = ap (λ (l : List ℕ). l ++ more) begun.2 ∙ append_assoc begun.0 begun.1 more in
    let read : Reads (up.Spells devid) (begun.0 ++ (begun.1 ++ more)) messages rest = subst (λ (l : List ℕ). Reads (up.Spells devid) l messages rest) is reads in
    front (up.Spells devid) free (inputs run) messages begun.0 (begun.1 ++ more) rest begun.3 read.row read.none_whole

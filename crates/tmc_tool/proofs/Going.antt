-- events that are applied to a world, one more behind the others
use Rattle.std.proofs.Common.{◌≡◌, ℕ, List, [], ◌∷◌, ◌++◌, map, Option, Some, None, refl, sym, ap, ◌∙◌, subst}
use Rattle.std.proofs.lemmas.List.{map-append}
use Rattle.host_hub.specs.Behind.{HubParts}
use Rattle.host_hub.specs.Order.{Setting}
use Rattle.event_text.specs.declared.answer.EventAnswer.{EventAnswer}
use Rattle.event_text.specs.declared.event.Event.{Event}
use Rattle.tmc_world.specs.declared.applied.Applied.{Applied}
use Rattle.tmc_world.specs.LoopLink.{Looped}
use Rattle.tmc_world.specs.World.{Worldly, IsBehind, setting_of}
use Rattle.tmc_world.specs.WorldEvents.{Applies, LeadsTo}
use Rattle.tmc_world.specs.WorldSteps.{Answered, Goes, GoThrough}
use Rattle.tmc_tool.specs.Going.{Went, applied_as}

go_on : (s : Setting) (old mid new : Worldly) (run : List Answered) (one : Answered) → GoThrough s old run mid → Goes s one.event mid one.said new
    → GoThrough s old (run ++ one ∷ []) new
go_on s old mid new [] one goes last = (new, subst (λ (w : Worldly). Goes s one.event w one.said new) goes last, refl)
go_on s old mid new (first ∷ run) one goes last = (goes.0, goes.1, go_on s goes.0 mid new run one goes.2 last)

-- before the first event
pub went_none : (first depth : ℕ) (old : Worldly) (hub : HubParts Looped) → IsBehind first depth old hub → Went first depth old [] [] hub
went_none first depth old hub behind = record { run = []; done = refl; said = refl; new = old; goes = refl; behind = behind }

went_on : (first depth : ℕ) (old : Worldly) (events : List Event) (answers : List (Option EventAnswer)) (hub next : HubParts Looped)
    → (went : Went first depth old events answers hub) (does : Event) (said : Option EventAnswer) (new : Worldly)
    → Goes (setting_of first depth) does went.new said new → IsBehind first depth new next
    → Went first depth old (events ++ does ∷ []) (answers ++ said ∷ []) next
went_on first depth old events answers hub next went does said new goes behind =
    let one : Answered = record { event = does; said = said } in
    record {
      run = went.run ++ one ∷ [];
      done = map-append (λ (a : Answered). a.event) went.run (one ∷ []) ∙ ap (λ xs. xs ++ does ∷ []) went.done;
      said = map-append (λ (a : Answered). a.said) went.run (one ∷ []) ∙ ap (λ xs. xs ++ said ∷ []) went.said;
      new = new;
      goes = go_on (setting_of first depth) old went.new new went.run one went.goes goes;
      behind = behind;
    }

-- what an event that was applied answered
pub goes_as : (first depth : ℕ) (does : Event) (old new : Worldly) (became : Applied) (said : Option EventAnswer) → became ≡ applied_as said
    → Applies (setting_of first depth) does old became new → Goes (setting_of first depth) does old said new
goes_as first depth does old new became (Some said) same applies = subst (λ (b : Applied). Applies (setting_of first depth) does old b new) same applies
goes_as first depth does old new became None same applies = subst (λ (b : Applied). Applies (setting_of first depth) does old b new) same applies

-- events led every world behind a hub to one behind the next
abbrev pub AllWent : (events : List Event) (answers : List (Option EventAnswer)) (begun now : HubParts Looped) → Type 0
AllWent events answers begun now = (first depth : ℕ) (old : Worldly) → IsBehind first depth old begun → Went first depth old events answers now

pub all_none : (begun : HubParts Looped) → AllWent [] [] begun begun
all_none begun = λ first depth old behind. went_none first depth old begun behind

pub all_on : (events all : List Event) (answers later : List (Option EventAnswer)) (begun now next : HubParts Looped) (does : Event) (became : Applied) (said : Option EventAnswer)
    → AllWent events answers begun now → ((first depth : ℕ) (old : Worldly) → IsBehind first depth old now → LeadsTo first depth does old became next)
    → became ≡ applied_as said → all ≡ events ++ does ∷ [] → later ≡ answers ++ said ∷ [] → AllWent all later begun next
all_on events all answers later begun now next does became said so_far leads same more longer = λ first depth old behind.
    let went = so_far first depth old behind in
    let last = leads first depth went.new went.behind in
    let goes = goes_as first depth does went.new last.new became said same last.goes in
    let on = went_on first depth old events answers now next went does said last.new goes last.behind in
    subst (λ xs. Went first depth old xs later next) (sym more) (subst (λ ys. Went first depth old (events ++ does ∷ []) ys next) (sym longer) on)

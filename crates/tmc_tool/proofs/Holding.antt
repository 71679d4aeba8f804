-- what is told of a hub is told of the world that stands behind it
use Rattle.std.proofs.Common.{◌≡◌, ℕ, ◌≤◌, false, List, [], ◌++◌, sym, ap, ◌∙◌, subst, Option}
use Rattle.host_hub.specs.declared.outcome.End.{End}
use Rattle.host_hub.specs.Behind.{HubParts}
use Rattle.host_hub.specs.BookSeen.{BookSeen}
use Rattle.host_hub.specs.Hand.{ended}
use Rattle.host_hub.specs.Order.{Setting}
use Rattle.instr_plain.specs.declared.log.LogEntry.{LogEntry}
use Rattle.usbip_export.specs.Seen.{standing}
use Rattle.event_text.specs.declared.answer.EventAnswer.{EventAnswer}
use Rattle.event_text.specs.Report.{IsReport}
use Rattle.tmc_world.specs.LoopLink.{Looped, IsTold}
use Rattle.tmc_world.specs.World.{Worldly, IsBehind, begun, setting_of}
use Rattle.tmc_world.specs.WorldFacts.{IsCalm, WorldFacts}
use Rattle.tmc_world.specs.WorldSteps.{Answered, AreCalmEvents, GoThrough}
use Rattle.tmc_tool.specs.Told.{Owns, Tells}

pub told_so : (first depth : ℕ) (world : Worldly) (hub : HubParts Looped) (answers : List (Option EventAnswer)) (end : Option End) (book : BookSeen) (log : List LogEntry) (sent taken old text new : List ℕ)
    → IsBehind first depth world hub → WorldFacts (setting_of first depth) world hub
    → IsReport answers end book log sent taken text → end ≡ hub.core.end → book ≡ hub.core.book → log ≡ (standing hub.link.node).log → sent ≡ hub.link.sent → taken ≡ hub.link.taken
    → old ≡ [] → new ≡ old ++ text → Tells first depth world answers new
told_so first depth world hub answers end book log sent taken old text new behind facts report e b l s t empty appended =
    let ends : end ≡ ended world.past = e ∙ facts.over in
    let logs : log ≡ (standing world.link.node).log = l ∙ ap (λ (k : Looped). (standing k.node).log) behind.link in
    let ups : sent ≡ world.link.sent = s ∙ ap (λ (k : Looped). k.sent) behind.link in
    let downs : taken ≡ world.link.taken = t ∙ ap (λ (k : Looped). k.taken) behind.link in
    let whole : new ≡ text = appended ∙ ap (λ xs. xs ++ text) empty in
    record {
      hub = hub;
      facts = facts;
      report =
          subst (λ xs. IsReport answers (ended world.past) hub.core.book (standing world.link.node).log world.link.sent world.link.taken xs) (sym whole)
          (subst (λ (x : Option End). IsReport answers x hub.core.book (standing world.link.node).log world.link.sent world.link.taken text) ends
          (subst (λ (x : BookSeen). IsReport answers end x (standing world.link.node).log world.link.sent world.link.taken text) b
          (subst (λ (x : List LogEntry). IsReport answers end book x world.link.sent world.link.taken text) logs
          (subst (λ xs. IsReport answers end book log xs world.link.taken text) ups
          (subst (λ xs. IsReport answers end book log sent xs text) downs report)))));
    }

-- events that disturb nothing leave a calm world
abbrev pub LeaveCalm : Type 0
LeaveCalm = (setting : Setting) (events : List Answered) (new : Worldly) → GoThrough setting begun events new → AreCalmEvents events
    → IsTold new.link → new.link.late ≡ false → IsCalm new

pub owns_so : LeaveCalm → (first depth : ℕ) (run : List Answered) (world : Worldly) (answers : List (Option EventAnswer)) (text : List ℕ) → 1 ≤ first
    → GoThrough (setting_of first depth) begun run world → world.link.late ≡ false → (tells : Tells first depth world answers text) → AreCalmEvents run → Owns world tells.hub
owns_so leave first depth run world answers text some goes late tells are =
    let calm = leave (setting_of first depth) run world goes are tells.facts.told late in
    record { owned = tells.facts.owned some calm; faultless = tells.facts.faultless some calm }

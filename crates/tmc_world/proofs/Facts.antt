-- what holds of each world that stands behind a hub
use Rattle.std.proofs.Common.{◌≡◌, ◌∙◌, ◌≤◌, ℕ, Some, None, [], List, ◌++◌, refl, sym, ap, subst, arith}
use Rattle.tmc_base.specs.declared.run_step.RunStep.{RunStep}
use Rattle.tmc_law.specs.State.{State, start}
use Rattle.host_joint.specs.Hand.{Free}
use Rattle.host_joint.specs.Joint.{Joint, TellsCalmly}
use Rattle.host_hub.specs.Behind.{Behind, Holds, HubFacts, HubParts}
use Rattle.host_hub.specs.Joined.{IsSimple}
use Rattle.host_hub.specs.Order.{Setting}
use Rattle.host_hub.specs.Undisturbed.{Undisturbed}
use Rattle.usbip_export.specs.Identity.{devid}
use Rattle.usbip_export.specs.Seen.{standing}
use Rattle.tmc_world.specs.LoopLink.{Looped, IsTold}
use Rattle.tmc_world.specs.World.{Worldly, IsBehind, begun, counted, setting_of, tells}
use Rattle.tmc_world.specs.WorldFacts.{IsCalm, WorldFacts}

abbrev BeginsJoined : Type 0
BeginsJoined = (devid next : ℕ) → Joint devid Free None next [] [] [] start

-- the instrument at power-on, and the run of the link since
undisturbed : BeginsJoined → (first depth : ℕ) (world : Worldly) (hub : HubParts Looped) (b : IsBehind first depth world hub) → 1 ≤ first
    → IsCalm world → Undisturbed (setting_of first depth) world.past (tells begun.link) (tells hub.link) (standing world.link.node)
undisturbed begins first depth world hub b some calm = record {
  simple = record { shallow = b.behind.rests.knows.shallow; first = some; device = omega arith; writes_to = refl; reads_from = refl };
  plain = b.behind.plain;
  first = start;
  begun = begins devid first;
  calm = (
    hub.link.run,
    refl,
    subst (λ (l : Looped). TellsCalmly devid start l.run (standing world.link.node)) (sym b.link) calm,
  );
}

pub facts_hold : BeginsJoined → (first depth : ℕ) (world : Worldly) (hub : HubParts Looped) → Holds tells counted hub → IsTold hub.link
    → IsBehind first depth world hub → WorldFacts (setting_of first depth) world hub
facts_hold begins first depth world hub holds told b =
    let facts = holds (tells begun.link) (setting_of first depth) world.past world.link.sent world.link.taken b.behind in
    record {
      kept = b.behind.rests.kept;
      book = facts.book;
      caused = facts.caused;
      unlinked = facts.unlinked;
      traffic = facts.traffic;
      recovered = facts.recovered;
      waiting = facts.waiting;
      shown = facts.shown;
      over = facts.over;
      told = subst IsTold b.link told;
      owned = λ some calm. facts.owned (standing world.link.node) (undisturbed begins first depth world hub b some calm);
      faultless = λ some calm. facts.faultless (standing world.link.node) (undisturbed begins first depth world hub b some calm);
    }

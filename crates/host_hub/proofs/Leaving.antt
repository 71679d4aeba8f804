-- what a step leaves as it was
use Rattle.std.proofs.Common.{◌≡◌, ◌∙◌, ◌≤◌, length, sym, subst, ap}
use Rattle.host_urbs.specs.declared.limits.TheConstants.{OUTBOX_MAX}
use Rattle.host_hub.specs.declared.hub_core.HubCore.{HubCore}
use Rattle.host_hub.specs.Leaves.{Keeps, Leaves}

pub keeps_then : (a b c : HubCore) → Keeps a b → Keeps b c → Keeps a c
keeps_then a b c x y = record { first = y.first ∙ x.first; ends = y.ends ∙ x.ends; turned = y.turned ∙ x.turned; births = y.births ∙ x.births; short = λ h. y.short (x.short h) }

pub leaves_then : (a b c : HubCore) → Leaves a b → Leaves b c → Leaves a c
leaves_then a b c x y = record { keeps = keeps_then a b c x.keeps y.keeps; reader = y.reader ∙ x.reader }

-- the hub ended, and tickets settled
pub leaves_ended : (old new : HubCore) → new.notes.births ≡ old.notes.births
    → new ≡ record old { book = new.book; notes = new.notes; active = new.active; end = new.end } → Leaves old new
leaves_ended old new births rest = record {
  keeps = record { first = ap (λ (h : HubCore). h.first) rest; ends = ap (λ (h : HubCore). h.ends) rest; turned = ap (λ (h : HubCore). h.turned) rest; births = births; short = λ h. subst (λ (x : HubCore). length x.urbs.outbox ≤ OUTBOX_MAX) (sym rest) h };
  reader = ap (λ (h : HubCore). h.reader) rest;
}

-- the hub is that
pub leaves_by : (old mid new : HubCore) → new ≡ mid → Leaves old mid → Leaves old new
leaves_by old mid new is h = subst (λ (x : HubCore). Leaves old x) (sym is) h

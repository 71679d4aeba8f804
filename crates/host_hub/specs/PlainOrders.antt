-- what a hub writes until cancels, clears, triggers, status reads and recoveries come
use Rattle.host_hub.specs.Order.{Order, Part, Request, Read}
use Rattle.host_hub.specs.Record.{Owner, Of, Recovery}

abbrev pub IsPlainOrder : Order → Type 0
IsPlainOrder (Part tag text eom) = Unit {0}
IsPlainOrder (Request tag size) = Unit {0}
IsPlainOrder Read = Unit {0}
IsPlainOrder order = ⊥

-- for a ticket
abbrev pub IsPlainFor : Owner → Order → Type 0
IsPlainFor (Of t) order = IsPlainOrder order
IsPlainFor Recovery order = ⊥

-- the messages of a lawful record are a lawful record of messages
use Rattle.std.proofs.Common.{[], ◌∷◌}
use Rattle.host_urbs.specs.Law as urbs
use Rattle.host_hub.specs.Order.{Setting}
use Rattle.host_hub.specs.Record.{Past, Wrote, Took, Fell, Stopped, Recovers, Asked, Cancelled, Cleared, GaveUp, Settled}
use Rattle.host_hub.specs.Book.{KeepsBook}
use Rattle.host_hub.specs.Crossings.{crossings}
use Rattle.host_hub.specs.Law.{Lawful}

pub lawful_crossings : (s : Setting) (past : Past) → Lawful s past → urbs.Lawful s.first (crossings s past)
lawful_crossings s [] h = tt
lawful_crossings s (Wrote number owner order ∷ past) h = (lawful_crossings s past h.0, h.1.1)
lawful_crossings s (Took answer ∷ past) h = (lawful_crossings s past h.0, h.1.1)
lawful_crossings s (Fell answer end ∷ past) h = (lawful_crossings s past h.0, h.1.1)
lawful_crossings s (x ∷ past) h = lawful_crossings s past h.0

pub lawful_book : (s : Setting) (past : Past) → Lawful s past → KeepsBook past
lawful_book s [] h = tt
lawful_book s (Settled t outcome ∷ past) h = (lawful_book s past h.0, h.1.0)
lawful_book s (Asked t asking ∷ past) h = (lawful_book s past h.0, h.1.1)
lawful_book s (Cancelled t ∷ past) h = (lawful_book s past h.0, h.1.1)
lawful_book s (Cleared session ∷ past) h = (lawful_book s past h.0, h.1.1)
lawful_book s (GaveUp ∷ past) h = (lawful_book s past h.0, h.1.1)
lawful_book s (Wrote number owner order ∷ past) h = (lawful_book s past h.0, tt)
lawful_book s (Took answer ∷ past) h = (lawful_book s past h.0, tt)
lawful_book s (Fell answer end ∷ past) h = (lawful_book s past h.0, tt)
lawful_book s (Stopped e ∷ past) h = (lawful_book s past h.0, tt)
lawful_book s (Recovers ∷ past) h = (lawful_book s past h.0, tt)

-- the ties of a record to bytes are kept by each step of a turn
use Rattle.std.proofs.Common.{◌≡◌, ◌∙◌, ℕ, List, [], ◌∷◌, ◌++◌, take, drop, refl, sym, ap, append_assoc, take-append-drop}
use Rattle.std.proofs.lemmas.List.{append-nil}
use Rattle.usbip_wire.specs.Awaited.{entries_of}
use Rattle.usbip_wire.specs.Down as down
use Rattle.usbip_wire.specs.Down.{SpellsAnswer}
use Rattle.usbip_wire.specs.Up as up
use Rattle.host_urbs.specs.Record as urbs
use Rattle.host_hub.specs.declared.outcome.End.{End}
use Rattle.host_hub.specs.Order.{Order, Setting, message_of}
use Rattle.host_hub.specs.Record.{Owner, Happening, Past, Wrote, Took, Fell, written}
use Rattle.host_hub.specs.Crossings.{crossings}
use Rattle.host_hub.specs.Tied.{bytes_of, spelled, Tied, MovesNothing}

pub spelled_more : (ms : List up.Message) (m : up.Message) → spelled (ms ++ m ∷ []) ≡ spelled ms ++ bytes_of m
spelled_more [] m = append-nil (bytes_of m)
spelled_more (n ∷ ms) m =
    ap (λ (bytes : List ℕ). bytes_of n ++ bytes) (spelled_more ms m) ∙ sym (append_assoc (bytes_of n) (spelled ms) (bytes_of m))

-- nothing was sent or taken
pub tied_start : (s : Setting) → Tied s [] [] [] [] []
tied_start s = record { front = []; written = refl; taken = refl; answers = refl }

-- the link sends the first bytes of the outbox
pub tied_sent : (s : Setting) (past : Past) (sent outbox received rest : List ℕ) (n : ℕ) → Tied s past sent outbox received rest
    → Tied s past (sent ++ take n outbox) (drop n outbox) received rest
tied_sent s past sent outbox received rest n t = record {
  front = t.front;
  written = append_assoc sent (take n outbox) (drop n outbox) ∙ ap (λ (bytes : List ℕ). sent ++ bytes) (take-append-drop n outbox) ∙ t.written;
  taken = t.taken;
  answers = t.answers;
}

-- the link gives bytes
pub tied_got : (s : Setting) (past : Past) (sent outbox received rest more : List ℕ) → Tied s past sent outbox received rest
    → Tied s past sent outbox (received ++ more) (rest ++ more)
tied_got s past sent outbox received rest more t = record {
  front = t.front;
  written = t.written;
  taken = ap (λ (bytes : List ℕ). bytes ++ more) t.taken ∙ append_assoc t.front rest more;
  answers = t.answers;
}

-- a message is written
pub tied_wrote : (s : Setting) (past : Past) (sent outbox received rest : List ℕ) (n : ℕ) (o : Owner) (k : Order) → Tied s past sent outbox received rest
    → Tied s (Wrote n o k ∷ past) sent (outbox ++ bytes_of (message_of s n k)) received rest
tied_wrote s past sent outbox received rest n o k t = record {
  front = t.front;
  written = sym (append_assoc sent outbox (bytes_of (message_of s n k)))
      ∙ ap (λ (bytes : List ℕ). bytes ++ bytes_of (message_of s n k)) t.written
      ∙ sym (spelled_more (written s past) (message_of s n k));
  taken = t.taken;
  answers = t.answers;
}

-- a whole answer stands first in the rest, and is taken
pub tied_took : (s : Setting) (past : Past) (sent outbox received this rest : List ℕ) (m : down.Message) → Tied s past sent outbox received (this ++ rest)
    → SpellsAnswer (entries_of (urbs.outstanding (crossings s past))) m this → Tied s (Took m ∷ past) sent outbox received rest
tied_took s past sent outbox received this rest m t spells = record {
  front = t.front ++ this;
  written = t.written;
  taken = t.taken ∙ sym (append_assoc t.front this rest);
  answers = (t.front, this, refl, t.answers, spells);
}

pub tied_fell : (s : Setting) (past : Past) (sent outbox received this rest : List ℕ) (m : down.Message) (e : End) → Tied s past sent outbox received (this ++ rest)
    → SpellsAnswer (entries_of (urbs.outstanding (crossings s past))) m this → Tied s (Fell m e ∷ past) sent outbox received rest
tied_fell s past sent outbox received this rest m e t spells = record {
  front = t.front ++ this;
  written = t.written;
  taken = t.taken ∙ sym (append_assoc t.front this rest);
  answers = (t.front, this, refl, t.answers, spells);
}

-- whatever else happens moves no byte
pub tied_other : (s : Setting) (past : Past) (sent outbox received rest : List ℕ) (x : Happening) → MovesNothing x → Tied s past sent outbox received rest
    → Tied s (x ∷ past) sent outbox received rest
tied_other s past sent outbox received rest (Wrote n o k) none t = absurd none
tied_other s past sent outbox received rest (Took m) none t = absurd none
tied_other s past sent outbox received rest (Fell m e) none t = absurd none
tied_other s past sent outbox received rest x none t = record { front = t.front; written = t.written; taken = t.taken; answers = t.answers }

-- what was written, taken and entered stays
use Rattle.std.proofs.Common.{◌≡◌, List, [], ◌∷◌, ◌++◌, Option, Some, None, sym, ◌∙◌, ap, append_assoc}
use Rattle.std.proofs.lemmas.List.{append-nil}
use Rattle.usbip_wire.specs.Down as down
use Rattle.usbip_wire.specs.Up as up
use Rattle.host_hub.specs.declared.book.BookEntry.{BookEntry}
use Rattle.host_hub.specs.Order.{Setting, message_of}
use Rattle.host_hub.specs.Record.{Past, Wrote, Took, Fell, Marked, written, taken, book, enters, entry_of}

abbrev Grown : {A : Type 0} → List A → List A → Type 0
Grown {A} old new = (added : List A) × (new ≡ old ++ added)

one_more : {A : Type 0} (old new : List A) (x : A) → Grown old new → Grown old (new ++ x ∷ [])
one_more {A} old new x (added, e) = (added ++ x ∷ [], ap (λ (l : List A). l ++ x ∷ []) e ∙ append_assoc old added (x ∷ []))

pub written_grows : (s : Setting) (past more : Past) → (added : List up.Message) × (written s (more ++ past) ≡ written s past ++ added)
written_grows s past [] = ([], sym (append-nil (written s past)))
written_grows s past (Wrote number owner order ∷ more) = one_more (written s past) (written s (more ++ past)) (message_of s number order) (written_grows s past more)
written_grows s past (x ∷ more) = written_grows s past more

pub taken_grows : (past more : Past) → (added : List down.Message) × (taken (more ++ past) ≡ taken past ++ added)
taken_grows past [] = ([], sym (append-nil (taken past)))
taken_grows past (Took answer ∷ more) = one_more (taken past) (taken (more ++ past)) answer (taken_grows past more)
taken_grows past (Fell answer end ∷ more) = one_more (taken past) (taken (more ++ past)) answer (taken_grows past more)
taken_grows past (x ∷ more) = taken_grows past more

pub book_grows : (s : Setting) (past more : Past) → (added : List Marked) × (book s (more ++ past) ≡ book s past ++ added)
book_grows s past [] = ([], sym (append-nil (book s past)))
book_grows s past (x ∷ more) = step (entry_of x) (book_grows s past more)
  where
    step : (e : Option BookEntry) → (added : List Marked) × (book s (more ++ past) ≡ book s past ++ added)
        → (added : List Marked) × (enters s (more ++ past) e (book s (more ++ past)) ≡ book s past ++ added)
    step None g = g
    step (Some e) g = one_more (book s past) (book s (more ++ past)) _ g

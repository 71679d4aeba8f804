-- a submit is put behind the others
use Rattle.std.proofs.Common.{◌≡◌, ℕ, ◌-◌, zero, suc, Bool, true, false, List, [], ◌∷◌, length, Some, refl, sym, subst, ◌∙◌, ap}
use Rattle.std.specs.Prelude.{slice_get, slice_set, replicate}
use Rattle.usbip_wire.specs.Up as up
use Rattle.usbip_wire.specs.declared.urb.Dir.TheVariants.{Out}
use Rattle.host_urbs.specs.Held.{Held, Follows, submit_out, wrote}
use Rattle.host_urbs.specs.Record as urbs
use Rattle.host_hub.specs.Order.{Order, Part, Setting, message_of, size_of, text_of, number_of}
use Rattle.host_hub.specs.BookSeen.{BookSeen, Seen, ticket_of}
use Rattle.host_hub.specs.BookChanges.{with_seen}
use Rattle.host_hub.specs.Plan.{ended_at, part_of}
use Rattle.host_hub.specs.Writes.{Puts, Ends}
use Rattle.host_hub.proofs.Lengths.{transfer_length}
use Rattle.host_hub.proofs.Knowing.{at_number}

-- ---- the message of an order

abbrev pub out_submit : (number devid ep size : ℕ) → List ℕ → up.Message
out_submit number devid ep size text = up.Submit (record { seqnum = number; devid = devid; dir = Out; ep = ep; length = size; setup = replicate 8 0 }) text

same_submit : (n d e l d' e' l' : ℕ) (text : List ℕ) → d ≡ d' → e ≡ e' → l ≡ l' → out_submit n d e l text ≡ out_submit n d' e' l' text
same_submit n d e l d' e' l' text a b c =
    ap (λ (x : ℕ). out_submit n x e l text) a ∙ (ap (λ (x : ℕ). out_submit n d' x l text) b ∙ ap (λ (x : ℕ). out_submit n d' e' x text) c)

pub part_size : (s : Setting) (tag count : ℕ) (message : List ℕ) → length (text_of (part_of tag count message)) ≡ size_of s.ends (part_of tag count message)
part_size s tag count message = transfer_length _ _

pub part_puts : (s : Setting) (old new : Held) (tag count ep : ℕ) (message : List ℕ) → old.devid ≡ s.devid → ep ≡ number_of s.ends.bulk_out
    → new ≡ wrote (submit_out old ep (text_of (part_of tag count message))) old
    → ((first : ℕ) (past : urbs.Past) (sent : List ℕ) → Follows first past sent old → Follows first (urbs.Wrote (submit_out old ep (text_of (part_of tag count message))) ∷ past) sent new)
    → Puts s (part_of tag count message) old new
part_puts s old new tag count ep message d e written recorded = record {
  written = written ∙ ap (λ (m : up.Message). wrote m old) same;
  recorded = λ past sent f. subst (λ (m : up.Message). Follows s.first (urbs.Wrote m ∷ past) sent new) same (recorded s.first past sent f);
}
  where
    same : submit_out old ep (text_of (part_of tag count message)) ≡ message_of s old.next (part_of tag count message)
    same = same_submit old.next old.devid ep (length (text_of (part_of tag count message))) s.devid (number_of s.ends.bulk_out) (size_of s.ends (part_of tag count message))
        (text_of (part_of tag count message)) d e (part_size s tag count message)

-- ---- the book

some_same : (a b : Seen) → Some a ≡ Some b → a ≡ b
some_same a b e = cc

pub same_seen : (n : ℕ) (xs : List Seen) (a b : Seen) → ticket_of n xs ≡ Some a → ticket_of n xs ≡ Some b → a ≡ b
same_seen n xs a b e f = some_same a b (sym e ∙ f)

set_same : (xs : List Seen) (i : ℕ) (x : Seen) → slice_get xs i ≡ Some x → slice_set xs i x ≡ xs
set_same [] i x e = refl
set_same (y ∷ ys) zero x e = ap (λ (z : Seen). z ∷ ys) (sym (some_same y x e))
set_same (y ∷ ys) (suc i) x e = ap (λ (l : List Seen). y ∷ l) (set_same ys i x e)

pub with_same : (n : ℕ) (book : BookSeen) (x : Seen) → ticket_of n book.tickets ≡ Some x → with_seen n x book ≡ book
with_same n book x e = ap (λ (l : List Seen). record { tickets = l; entries = book.entries; service = book.service }) (set_same book.tickets (n - 1) x (at_number n book.tickets x e).1)

pub not_ended : (tag : ℕ) (text : List ℕ) (eom : Bool) (n last : ℕ) → false ≡ eom → ended_at n (Part tag text eom) last ≡ last
not_ended tag text false n last e = refl
not_ended tag text true n last e = absurd (no e)
  where
    no : false ≡ true → ⊥
    no h = cc

pub nothing_ends : (n number : ℕ) (order : Order) (book : BookSeen) → ((last : ℕ) → ended_at number order last ≡ last) → Ends order n number book book
nothing_ends n number order book same x e =
    sym (ap (λ (k : ℕ). with_seen n (record x { last = k }) book) (same x.last) ∙ with_same n book x e)

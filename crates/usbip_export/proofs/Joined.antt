-- messages, runs and spelled answers, one after another
use Rattle.std.proofs.Common.{◌≡◌, ◌∙◌, ℕ, List, [], ◌∷◌, ◌++◌, refl, sym, ap, subst, append_assoc, append-nil}
use Rattle.usbip_wire.specs.declared.op_request.OpRequest.{OpRequest}
use Rattle.usbip_wire.specs.declared.op_request.OpRequest.TheVariants.{DevList, Import}
use Rattle.tmc_law.specs.State.{State}
use Rattle.tmc_law.specs.Put.{Put}
use Rattle.tmc_law.specs.Run.{Entry, Runs, TakesAll, outputs, SpellAll, SpellsPut}
use Rattle.usbip_export.specs.Operations.{device_list, import_failed, ImportNone, replies}
use Rattle.usbip_export.specs.TakenIn.{IsSpelled, SpellsOff}

pub spells_more : {M : Type 0} (Spells : M → List ℕ → Type 0) (ms ns : List M) (a b : List ℕ) → SpellAll Spells ms a → SpellAll Spells ns b
    → SpellAll Spells (ms ++ ns) (a ++ b)
spells_more {M} Spells [] ns a b none row = subst (λ (l : List ℕ). SpellAll Spells ns (l ++ b)) (sym none) row
spells_more {M} Spells (m ∷ ms) ns a b (front, after, is, spells, more) row = (
  front,
  after ++ b,
  ap (λ (l : List ℕ). l ++ b) is ∙ append_assoc front after b,
  spells,
  spells_more Spells ms ns after b more row,
)

pub runs_more : (a b : List Entry) (s m t : State) → Runs s a m → Runs m b t → Runs s (a ++ b) t
runs_more [] b s m t run more = subst (λ (from : State). Runs from b t) run more
runs_more (entry ∷ a) b s m t run more = (run.0, run.1, runs_more a b run.0 m t run.2 more)

pub takes_more : (devid : ℕ) (a b : List Entry) (front rest : List ℕ) → TakesAll devid a front → TakesAll devid b rest
    → TakesAll devid (a ++ b) (front ++ rest)
takes_more devid [] b front rest none took = subst (λ (l : List ℕ). TakesAll devid b (l ++ rest)) (sym none) took
takes_more devid (entry ∷ a) b front rest (first, more, is, takes, took) behind = (
  first,
  more ++ rest,
  ap (λ (l : List ℕ). l ++ rest) is ∙ append_assoc first more rest,
  takes,
  takes_more devid a b more rest took behind,
)

pub outputs_more : (a b : List Entry) → outputs (a ++ b) ≡ outputs a ++ outputs b
outputs_more [] b = refl
outputs_more (entry ∷ a) b =
    ap (λ (ps : List Put). entry.puts ++ ps) (outputs_more a b) ∙ sym (append_assoc entry.puts (outputs a) (outputs b))

pub spelled_more : (p q mid new : List Put) (x y : List ℕ) → IsSpelled p x mid → IsSpelled (mid ++ q) y new → IsSpelled (p ++ q) (x ++ y) new
spelled_more p q mid new x y first second = record {
  puts = first.puts ++ second.puts;
  left =
      ap (λ (l : List Put). l ++ q) first.left
      ∙ (append_assoc first.puts mid q
      ∙ (ap (λ (l : List Put). first.puts ++ l) second.left ∙ sym (append_assoc first.puts second.puts new)));
  text = spells_more _ first.puts second.puts x y first.text second.text;
}

pub import_none : (a b : List OpRequest) → ImportNone a → ImportNone b → ImportNone (a ++ b)
import_none [] b none more = more
import_none (DevList ∷ a) b none more = import_none a b none more
import_none (Import id ∷ a) b none more = (none.0, import_none a b none.1 more)

pub replies_more : (a b : List OpRequest) → replies (a ++ b) ≡ replies a ++ replies b
replies_more [] b = refl
replies_more (DevList ∷ a) b = ap (λ (l : List ℕ). device_list ++ l) (replies_more a b) ∙ sym (append_assoc device_list (replies a) (replies b))
replies_more (Import id ∷ a) b =
    ap (λ (l : List ℕ). import_failed ++ l) (replies_more a b) ∙ sym (append_assoc import_failed (replies a) (replies b))

-- one answer more is spelled
pub spells_one : (before rest : List Put) (put : Put) (old mid new text : List ℕ) → SpellsOff before (put ∷ rest) old mid → SpellsPut put text
    → new ≡ mid ++ text → SpellsOff before rest old new
spells_one before rest put old mid new text off spells out = record {
  answered = off.answered ++ text;
  spelled = record {
    puts = off.spelled.puts ++ put ∷ [];
    left = off.spelled.left ∙ sym (append_assoc off.spelled.puts (put ∷ []) rest);
    text = spells_more _ off.spelled.puts (put ∷ []) off.answered text off.spelled.text (text, [], sym (append-nil text), spells, refl);
  };
  out = out ∙ (ap (λ (l : List ℕ). l ++ text) off.out ∙ append_assoc old off.answered text);
}

pub spells_none : (puts : List Put) (out : List ℕ) → SpellsOff puts puts out out
spells_none puts out = record { answered = []; spelled = record { puts = []; left = refl; text = refl }; out = sym (append-nil out) }

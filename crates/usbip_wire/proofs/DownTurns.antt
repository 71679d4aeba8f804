-- parts of the operations in turn are determined, and a device list is read again
use Rattle.std.proofs.Common.{◌≡◌, ℕ, ◌-◌, None, List, [], ◌∷◌, ◌++◌, length, take, drop, refl, sym, ap, subst, ◌∙◌, append_assoc, arith}
use Rattle.std.proofs.lemmas.List.{length-take, length-drop}
use Rattle.usbip_wire.specs.declared.device.DeviceRecord.{DeviceRecord}
use Rattle.usbip_wire.specs.declared.dirs.Outstanding.{Outstanding}
use Rattle.usbip_wire.specs.declared.down.Down.{Down}
use Rattle.usbip_wire.specs.declared.down.Down.TheVariants as down
use Rattle.usbip_wire.specs.declared.down.DownPhase.{DownPhase}
use Rattle.usbip_wire.specs.declared.down.DownPhase.TheVariants.{Ops, Urbs}
use Rattle.usbip_wire.specs.DevList.{interfaces_of, interfaces_told, devices_told, list_bytes, list_told}
use Rattle.usbip_wire.specs.DownFed.{Held, Means, NoneWhole, SpellsParts, kept}
use Rattle.usbip_wire.specs.DownForm.{after}
use Rattle.usbip_wire.specs.DownPieces.{Call, Calls, Given, InTurn, begun, given, last_entries, used_bytes}
use Rattle.usbip_wire.specs.DownTurns.{IsList, ReadsInTurn, awaited, whats_of}
use Rattle.usbip_wire.specs.Laws.{ArePrefixFree}
use Rattle.usbip_wire.proofs.DownStream.{phase_behind, stream}
use Rattle.usbip_wire.proofs.Free.{parts_free}
use Rattle.usbip_wire.proofs.Listed.{list_spelled}

-- with nothing outstanding no answer comes
no_answer : (what : Down) (bytes : List ℕ) → Means Urbs [] what bytes → ⊥
no_answer (down.RetSubmit head) bytes (asked, found, s) = absurd cc
no_answer (down.RetUnlink head) bytes (found, s) = absurd cc
no_answer (down.Count status number) bytes s = absurd s
no_answer (down.Device device) bytes s = absurd s
no_answer (down.Interface class subclass protocol) bytes s = absurd s
no_answer (down.Import status device) bytes s = absurd s
no_answer down.More bytes s = absurd s
no_answer (down.Bad f) bytes s = absurd s

means_free : (phase : DownPhase) → ArePrefixFree (Means phase [])
means_free (Ops devices interfaces) m n a b x y s t e = parts_free devices interfaces m n a b x y s t e
means_free Urbs m n a b x y s t e = absurd (no_answer m a s)

none_begins : (phase : DownPhase) (rest : List ℕ) (m : Down) (front tail : List ℕ) → NoneWhole phase [] rest → Means phase [] m front → rest ≡ front ++ tail → ⊥
none_begins (Ops devices interfaces) rest m front tail u s e = u m front tail s e
none_begins Urbs rest m front tail u s e = no_answer m front s

-- the first part of some bytes and what follows it
regroup : (a front behind x : List ℕ) → a ≡ front ++ behind → a ++ x ≡ front ++ (behind ++ x)
regroup a front behind x e = ap (λ (l : List ℕ). l ++ x) e ∙ append_assoc front behind x

alone : (a x : List ℕ) → a ≡ [] → a ++ x ≡ x
alone a x e = ap (λ (l : List ℕ). l ++ x) e

same_parts : (phase : DownPhase) (ms ns : List Down) (a b x y : List ℕ) → SpellsParts phase ms a → NoneWhole (awaited phase ms) [] x
    → SpellsParts phase ns b → NoneWhole (awaited phase ns) [] y → a ++ x ≡ b ++ y → (ms ≡ ns) × (x ≡ y)
same_parts phase [] [] a b x y p u q v e = (refl, sym (alone a x p) ∙ (e ∙ alone b y q))
same_parts phase [] (n ∷ ns) a b x y p u (front, behind, f, t, q) v e =
    absurd (none_begins phase x n front (behind ++ y) u t (sym (alone a x p) ∙ (e ∙ regroup b front behind y f)))
same_parts phase (m ∷ ms) [] a b x y (front, behind, f, s, p) u q v e =
    absurd (none_begins phase y m front (behind ++ x) v s (sym (alone b y q) ∙ (sym e ∙ regroup a front behind x f)))
same_parts phase (m ∷ ms) (n ∷ ns) a b x y (front, behind, f, s, p) u (front2, behind2, g, t, q) v e =
    let same = means_free phase m n front front2 (behind ++ x) (behind2 ++ y) s t (sym (regroup a front behind x f) ∙ (e ∙ regroup b front2 behind2 y g)) in
    let q2 : SpellsParts (after phase m) ns behind2 = subst (λ (z : Down). SpellsParts (after phase z) ns behind2) (sym same.0) q in
    let v2 : NoneWhole (awaited (after phase m) ns) [] y = subst (λ (z : Down). NoneWhole (awaited (after phase z) ns) [] y) (sym same.0) v in
    let r = same_parts (after phase m) ms ns behind behind2 x y p u q2 v2 same.2 in
    (ap (λ (z : Down). z ∷ ms) same.0 ∙ ap (λ (l : List Down). n ∷ l) r.0, r.1)

pub turns_determined : (phase : DownPhase) (bytes : List ℕ) (ms ns : List Down) (rest other : List ℕ)
    → ReadsInTurn phase bytes ms rest → ReadsInTurn phase bytes ns other → (ms ≡ ns) × (rest ≡ other)
turns_determined phase bytes ms ns rest other p q =
    same_parts phase ms ns p.front q.front rest other p.spelled p.none_whole q.spelled q.none_whole (sym p.holds ∙ q.holds)

-- behind these parts a reading goes on
abbrev GoesOnBehind : DownPhase → List Down → List ℕ → List Down → List ℕ → Type 0
GoesOnBehind phase ms x ns y = (others : List Down) × (ns ≡ ms ++ others) × ReadsInTurn (awaited phase ms) x others y

again : (phase : DownPhase) (ms ns : List Down) (a b x y : List ℕ) → SpellsParts phase ms a → SpellsParts phase ns b → NoneWhole (awaited phase ns) [] y → a ++ x ≡ b ++ y
    → GoesOnBehind phase ms x ns y
again phase [] ns a b x y p q v e = (ns, refl, record { front = b; holds = sym (alone a x p) ∙ e; spelled = q; none_whole = v })
again phase (m ∷ ms) [] a b x y (front, behind, f, s, p) q v e =
    absurd (none_begins phase y m front (behind ++ x) v s (sym (alone b y q) ∙ (sym e ∙ regroup a front behind x f)))
again phase (m ∷ ms) (n ∷ ns) a b x y (front, behind, f, s, p) (front2, behind2, g, t, q) v e =
    let same = means_free phase m n front front2 (behind ++ x) (behind2 ++ y) s t (sym (regroup a front behind x f) ∙ (e ∙ regroup b front2 behind2 y g)) in
    let q2 : SpellsParts (after phase m) ns behind2 = subst (λ (z : Down). SpellsParts (after phase z) ns behind2) (sym same.0) q in
    let v2 : NoneWhole (awaited (after phase m) ns) [] y = subst (λ (z : Down). NoneWhole (awaited (after phase z) ns) [] y) (sym same.0) v in
    let r = again (after phase m) ms ns behind behind2 x y p q2 v2 same.2 in
    (r.0, ap (λ (z : Down). z ∷ ns) (sym same.0) ∙ ap (λ (l : List Down). m ∷ l) r.1, r.2)

pub turns_again : (phase : DownPhase) (ms : List Down) (front tail : List ℕ) (ns : List Down) (rest : List ℕ) → SpellsParts phase ms front
    → ReadsInTurn phase (front ++ tail) ns rest → (others : List Down) × (ns ≡ ms ++ others) × ReadsInTurn (awaited phase ms) tail others rest
turns_again phase ms front tail ns rest s p = again phase ms ns front p.front tail rest s p.spelled p.none_whole p.holds

-- ---- parts before a reading

spelled_join : (phase : DownPhase) (ms ns : List Down) (a b : List ℕ) → SpellsParts phase ms a → SpellsParts (awaited phase ms) ns b → SpellsParts phase (ms ++ ns) (a ++ b)
spelled_join phase [] ns a b p q = subst (λ (l : List ℕ). SpellsParts phase ns l) (sym (alone a b p)) q
spelled_join phase (m ∷ ms) ns a b (front, behind, f, s, p) q =
    (front, behind ++ b, regroup a front behind b f, s, spelled_join (after phase m) ms ns behind b p q)

awaited_join : (phase : DownPhase) (ms ns : List Down) → awaited phase (ms ++ ns) ≡ awaited (awaited phase ms) ns
awaited_join phase [] ns = refl
awaited_join phase (m ∷ ms) ns = awaited_join (after phase m) ms ns

join : (phase : DownPhase) (ms : List Down) (front tail : List ℕ) (others : List Down) (rest : List ℕ) → SpellsParts phase ms front
    → ReadsInTurn (awaited phase ms) tail others rest → ReadsInTurn phase (front ++ tail) (ms ++ others) rest
join phase ms front tail others rest s p = record {
  front = front ++ p.front;
  holds = ap (λ (l : List ℕ). front ++ l) p.holds ∙ sym (append_assoc front p.front rest);
  spelled = spelled_join phase ms others front p.front s p.spelled;
  none_whole = subst (λ (q : DownPhase). NoneWhole q [] rest) (sym (awaited_join phase ms others)) p.none_whole;
}

-- ---- behind a list nothing more of it is awaited

interfaces_end : (devices count : ℕ) (own : List (List ℕ)) (whats : List Down) → count ≡ length own
    → awaited (Ops devices count) (interfaces_told own ++ whats) ≡ awaited (Ops devices 0) whats
interfaces_end devices count [] whats e = ap (λ (n : ℕ). awaited (Ops devices n) whats) e
interfaces_end devices count (i ∷ own) whats e = interfaces_end devices (count - 1) own whats (omega (arith, e))

devices_end : (ds : List DeviceRecord) (is : List (List ℕ)) (n : ℕ) → n ≡ length ds → interfaces_of ds ≡ length is → awaited (Ops n 0) (devices_told ds is) ≡ Ops 0 0
devices_end [] is n e c = ap (λ (k : ℕ). Ops k 0) e
devices_end (d ∷ ds) is n e c =
    let own : d.interfaces ≡ length (take d.interfaces is) = omega (arith, c, length-take d.interfaces is) in
    let left : interfaces_of ds ≡ length (drop d.interfaces is) = omega (arith, c, length-drop d.interfaces is) in
    interfaces_end (n - 1) d.interfaces (take d.interfaces is) (devices_told ds (drop d.interfaces is)) own
    ∙ devices_end ds (drop d.interfaces is) (n - 1) (omega (arith, e)) left

list_end : (status : ℕ) (ds : List DeviceRecord) (is : List (List ℕ)) → IsList status ds is → awaited (Ops 0 0) (list_told status ds is) ≡ Ops 0 0
list_end status ds is l = devices_end ds is (length ds) refl l.each

spelled_list : (status : ℕ) (ds : List DeviceRecord) (is : List (List ℕ)) → IsList status ds is → SpellsParts (Ops 0 0) (list_told status ds is) (list_bytes status ds is)
spelled_list status ds is l = list_spelled status ds is l.wide l.few l.each l.records l.triples

pub list_reads : (status : ℕ) (ds : List DeviceRecord) (is : List (List ℕ)) (tail : List ℕ) (others : List Down) (rest : List ℕ) → IsList status ds is
    → ReadsInTurn (Ops 0 0) tail others rest → ReadsInTurn (Ops 0 0) (list_bytes status ds is ++ tail) (list_told status ds is ++ others) rest
list_reads status ds is tail others rest l p =
    join (Ops 0 0) (list_told status ds is) (list_bytes status ds is) tail others rest (spelled_list status ds is l)
    (subst (λ (q : DownPhase). ReadsInTurn q tail others rest) (sym (list_end status ds is l)) p)

pub list_again : (status : ℕ) (ds : List DeviceRecord) (is : List (List ℕ)) (tail : List ℕ) (whats : List Down) (rest : List ℕ) → IsList status ds is
    → ReadsInTurn (Ops 0 0) (list_bytes status ds is ++ tail) whats rest
    → (others : List Down) × (whats ≡ list_told status ds is ++ others) × ReadsInTurn (Ops 0 0) tail others rest
list_again status ds is tail whats rest l p =
    let r = turns_again (Ops 0 0) (list_told status ds is) (list_bytes status ds is) tail whats rest (spelled_list status ds is l) p in
    (r.0, r.1, subst (λ (q : DownPhase). ReadsInTurn q tail r.0 rest) (list_end status ds is l) r.2)

-- ---- what a reader gave is a reading

abbrev IsOps : DownPhase → Type 0
IsOps (Ops devices interfaces) = Unit {0}
IsOps Urbs = ⊥

ops_after : (phase : DownPhase) (what : Down) → IsOps phase → IsOps (after phase what)
ops_after Urbs what o = absurd o
ops_after (Ops devices interfaces) (down.Count status number) o = tt
ops_after (Ops devices interfaces) (down.Device device) o = tt
ops_after (Ops devices interfaces) (down.Interface class subclass protocol) o = tt
ops_after (Ops devices interfaces) (down.Import status device) o = tt
ops_after (Ops devices interfaces) (down.RetSubmit head) o = tt
ops_after (Ops devices interfaces) (down.RetUnlink head) o = tt
ops_after (Ops devices interfaces) down.More o = tt
ops_after (Ops devices interfaces) (down.Bad f) o = tt

ops_awaited : (phase : DownPhase) (whats : List Down) → IsOps phase → IsOps (awaited phase whats)
ops_awaited phase [] o = o
ops_awaited phase (what ∷ whats) o = ops_awaited (after phase what) whats (ops_after phase what o)

-- what is outstanding is no matter of the operations
means_alike : (phase : DownPhase) (entries : List Outstanding) (what : Down) (front : List ℕ) → IsOps phase → Means phase entries what front → Means phase [] what front
means_alike (Ops devices interfaces) entries what front o s = s
means_alike Urbs entries what front o s = absurd o

none_alike : (phase : DownPhase) (entries : List Outstanding) (rest : List ℕ) → IsOps phase → NoneWhole phase entries rest → NoneWhole phase [] rest
none_alike (Ops devices interfaces) entries rest o u = u
none_alike Urbs entries rest o u = absurd o

turns_of : (phase : DownPhase) (messages : List Given) (bytes rest : List ℕ) → IsOps phase → InTurn phase messages bytes rest
    → (front : List ℕ) × (bytes ≡ front ++ rest) × SpellsParts phase (whats_of messages) front
turns_of phase [] bytes rest o e = ([], e, refl)
turns_of phase (m ∷ messages) bytes rest o (front, behind, e, s, carried, p) =
    let r = turns_of (after phase m.what) messages behind rest (ops_after phase m.what o) p in (
      front ++ r.0,
      e ∙ (ap (λ (l : List ℕ). front ++ l) r.1 ∙ sym (append_assoc front r.0 rest)),
      (front, r.0, refl, means_alike phase m.entries m.what front o s, r.2),
    )

awaited_behind : (phase : DownPhase) (messages : List Given) → phase_behind phase messages ≡ awaited phase (whats_of messages)
awaited_behind phase [] = refl
awaited_behind phase (m ∷ messages) = awaited_behind (after phase m.what) messages

pub given_turns : (devices interfaces : ℕ) (calls : List Call) (end : Held) → Calls (begun (Ops devices interfaces)) calls end → end.bad ≡ None
    → ReadsInTurn (Ops devices interfaces) (used_bytes calls) (whats_of (given calls)) (kept end)
given_turns devices interfaces calls end run fine =
    let phase : DownPhase = Ops devices interfaces in
    let s = stream phase [] calls end run in
    let r = turns_of phase (given calls) (used_bytes calls) (kept end) tt s.0 in
    let leads : end.phase ≡ awaited phase (whats_of (given calls)) = s.2 ∙ awaited_behind phase (given calls) in
    let none : NoneWhole (awaited phase (whats_of (given calls))) (last_entries [] calls) (kept end) =
    subst (λ (p : DownPhase). NoneWhole p (last_entries [] calls) (kept end)) leads (s.1 fine) in
    record {
      front = r.0;
      holds = r.1;
      spelled = r.2;
      none_whole = none_alike (awaited phase (whats_of (given calls))) (last_entries [] calls) (kept end) (ops_awaited phase (whats_of (given calls)) tt) none;
    }

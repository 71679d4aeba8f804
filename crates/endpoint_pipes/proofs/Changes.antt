-- one slot changes, and the queue of one endpoint
use Rattle.std.proofs.Common.{◌≡◌, ◌∙◌, ℕ, ◌+◌, ◌≤◌, List, [], ◌++◌, length, Option, Some, None, refl, ap, arith}
use Rattle.tmc_law.specs.Endpoint.{Endpoint, Control, BulkOut, BulkIn, InterruptIn}
use Rattle.tmc_law.specs.State.{Pending, Halted}
use Rattle.tmc_law.specs.Queues.{pending_most}
use Rattle.endpoint_pipes.specs.declared.entry.Entry.{Entry}
use Rattle.endpoint_pipes.specs.Held.{Held, list_of, with_list, all_of}
use Rattle.endpoint_pipes.specs.Keys.{Keys, keys_at, with_keys}
use Rattle.endpoint_pipes.specs.Kept.{entry_at, submits_of, held_of, AreThere, count_of, total, size, IsSound}
use Rattle.endpoint_pipes.proofs.Counts.{count-append}
use Rattle.endpoint_pipes.proofs.Stored.{Apart, OthersKept, same_submits, still_there, apart_vacant, apart_number}

-- what holds of no keys and of an endpoint's holds when one endpoint has none
emptied : (P : List ℕ → Type 0) → P [] → (keys : Keys) (e f : Endpoint) → P (keys_at f keys) → P (keys_at f (with_keys e [] keys))
emptied P nil keys Control Control p = nil
emptied P nil keys BulkOut BulkOut p = nil
emptied P nil keys BulkIn BulkIn p = nil
emptied P nil keys InterruptIn InterruptIn p = nil
emptied P nil keys Control BulkOut p = p
emptied P nil keys Control BulkIn p = p
emptied P nil keys Control InterruptIn p = p
emptied P nil keys BulkOut Control p = p
emptied P nil keys BulkOut BulkIn p = p
emptied P nil keys BulkOut InterruptIn p = p
emptied P nil keys BulkIn Control p = p
emptied P nil keys BulkIn BulkOut p = p
emptied P nil keys BulkIn InterruptIn p = p
emptied P nil keys InterruptIn Control p = p
emptied P nil keys InterruptIn BulkOut p = p
emptied P nil keys InterruptIn BulkIn p = p

-- and what holds of these and of an endpoint's when one endpoint has these
replaced : (P : List ℕ → Type 0) (ks : List ℕ) → P ks → (keys : Keys) (e f : Endpoint) → P (keys_at f (with_keys e [] keys)) → P (keys_at f (with_keys e ks keys))
replaced P ks these keys Control Control p = these
replaced P ks these keys BulkOut BulkOut p = these
replaced P ks these keys BulkIn BulkIn p = these
replaced P ks these keys InterruptIn InterruptIn p = these
replaced P ks these keys Control BulkOut p = p
replaced P ks these keys Control BulkIn p = p
replaced P ks these keys Control InterruptIn p = p
replaced P ks these keys BulkOut Control p = p
replaced P ks these keys BulkOut BulkIn p = p
replaced P ks these keys BulkOut InterruptIn p = p
replaced P ks these keys BulkIn Control p = p
replaced P ks these keys BulkIn BulkOut p = p
replaced P ks these keys BulkIn InterruptIn p = p
replaced P ks these keys InterruptIn Control p = p
replaced P ks these keys InterruptIn BulkOut p = p
replaced P ks these keys InterruptIn BulkIn p = p

-- the other endpoints', and then these
pub total_with : (slots : List (Option Entry)) (keys : Keys) (e : Endpoint) (ks : List ℕ) (n : ℕ)
    → total slots (with_keys e ks keys) n ≡ total slots (with_keys e [] keys) n + count_of n (submits_of slots ks)
total_with slots keys Control ks n = omega arith
total_with slots keys BulkOut ks n = omega arith
total_with slots keys BulkIn ks n = omega arith
total_with slots keys InterruptIn ks n = omega arith

pub size_with : (keys : Keys) (e : Endpoint) (ks : List ℕ) → size (with_keys e ks keys) ≡ size (with_keys e [] keys) + length ks
size_with keys Control ks = omega arith
size_with keys BulkOut ks = omega arith
size_with keys BulkIn ks = omega arith
size_with keys InterruptIn ks = omega arith

pub with_same : (keys : Keys) (e : Endpoint) → with_keys e (keys_at e keys) keys ≡ keys
with_same keys Control = refl
with_same keys BulkOut = refl
with_same keys BulkIn = refl
with_same keys InterruptIn = refl

pub list-held : (slots : List (Option Entry)) (keys : Keys) (h : Halted) (e : Endpoint) → list_of e (held_of slots keys h) ≡ submits_of slots (keys_at e keys)
list-held slots keys h Control = refl
list-held slots keys h BulkOut = refl
list-held slots keys h BulkIn = refl
list-held slots keys h InterruptIn = refl

zero_each : (slots : List (Option Entry)) (keys : Keys) (n : ℕ) → total slots keys n ≡ 0 → (e : Endpoint) → count_of n (submits_of slots (keys_at e keys)) ≡ 0
zero_each slots keys n none Control = omega (arith, none)
zero_each slots keys n none BulkOut = omega (arith, none)
zero_each slots keys n none BulkIn = omega (arith, none)
zero_each slots keys n none InterruptIn = omega (arith, none)

pub count_all : (slots : List (Option Entry)) (keys : Keys) (h : Halted) (n : ℕ) → count_of n (all_of (held_of slots keys h)) ≡ total slots keys n
count_all slots keys h n =
    count-append n (submits_of slots keys.control) (submits_of slots keys.bulk_out ++ (submits_of slots keys.bulk_in ++ submits_of slots keys.interrupt_in))
    ∙ ap (λ (m : ℕ). count_of n (submits_of slots keys.control) + m)
    (count-append n (submits_of slots keys.bulk_out) (submits_of slots keys.bulk_in ++ submits_of slots keys.interrupt_in)
    ∙ ap (λ (m : ℕ). count_of n (submits_of slots keys.bulk_out) + m) (count-append n (submits_of slots keys.bulk_in) (submits_of slots keys.interrupt_in)))

same_sums : (a a' b b' c c' d d' : ℕ) → a' ≡ a → b' ≡ b → c' ≡ c → d' ≡ d → a' + (b' + (c' + d')) ≡ a + (b + (c + d))
same_sums a a' b b' c c' d d' p q r t = omega (arith, p, q, r, t)

pub total_same : (old new : List (Option Entry)) (key : ℕ) → OthersKept old new key → (keys : Keys) → ((e : Endpoint) → Apart key (keys_at e keys)) → (n : ℕ)
    → total new keys n ≡ total old keys n
total_same old new key others keys apart n =
    same_sums _ _ _ _ _ _ _ _ (ap (count_of n) (same_submits old new key others keys.control (apart Control)))
    (ap (count_of n) (same_submits old new key others keys.bulk_out (apart BulkOut)))
    (ap (count_of n) (same_submits old new key others keys.bulk_in (apart BulkIn)))
    (ap (count_of n) (same_submits old new key others keys.interrupt_in (apart InterruptIn)))

four : (c c' o o' i i' t t' : List Pending) (h : Halted) → c' ≡ c → o' ≡ o → i' ≡ i → t' ≡ t
    → (let x : Held = record { control = c'; bulk_out = o'; bulk_in = i'; interrupt_in = t'; halted = h } in x)
    ≡ record { control = c; bulk_out = o; bulk_in = i; interrupt_in = t; halted = h }
four c c' o o' i i' t t' h p q r u =
    ap (λ (l : List Pending). record { control = l; bulk_out = o'; bulk_in = i'; interrupt_in = t'; halted = h }) p
    ∙ ap (λ (l : List Pending). record { control = c; bulk_out = l; bulk_in = i'; interrupt_in = t'; halted = h }) q
    ∙ ap (λ (l : List Pending). record { control = c; bulk_out = o; bulk_in = l; interrupt_in = t'; halted = h }) r
    ∙ ap (λ (l : List Pending). record { control = c; bulk_out = o; bulk_in = i; interrupt_in = l; halted = h }) u

-- the other lists stay
pub held_with : (old new : List (Option Entry)) (key : ℕ) → OthersKept old new key → (keys : Keys) (e : Endpoint) (ks : List ℕ)
    → ((f : Endpoint) → Apart key (keys_at f (with_keys e [] keys))) → (list : List Pending) → submits_of new ks ≡ list → (h : Halted)
    → held_of new (with_keys e ks keys) h ≡ with_list e list (held_of old keys h)
held_with old new key others keys Control ks apart list is h =
    four _ _ _ _ _ _ _ _ h is (same_submits old new key others keys.bulk_out (apart BulkOut)) (same_submits old new key others keys.bulk_in (apart BulkIn))
    (same_submits old new key others keys.interrupt_in (apart InterruptIn))
held_with old new key others keys BulkOut ks apart list is h =
    four _ _ _ _ _ _ _ _ h (same_submits old new key others keys.control (apart Control)) is (same_submits old new key others keys.bulk_in (apart BulkIn))
    (same_submits old new key others keys.interrupt_in (apart InterruptIn))
held_with old new key others keys BulkIn ks apart list is h =
    four _ _ _ _ _ _ _ _ h (same_submits old new key others keys.control (apart Control)) (same_submits old new key others keys.bulk_out (apart BulkOut)) is
    (same_submits old new key others keys.interrupt_in (apart InterruptIn))
held_with old new key others keys InterruptIn ks apart list is h =
    four _ _ _ _ _ _ _ _ h (same_submits old new key others keys.control (apart Control)) (same_submits old new key others keys.bulk_out (apart BulkOut))
    (same_submits old new key others keys.bulk_in (apart BulkIn)) is

pub sound_with : (old new : List (Option Entry)) (key : ℕ) → OthersKept old new key → (keys : Keys) (e : Endpoint) (ks : List ℕ)
    → ((f : Endpoint) → Apart key (keys_at f (with_keys e [] keys))) → IsSound old keys → AreThere new ks
    → ((n : ℕ) → total old (with_keys e [] keys) n + count_of n (submits_of new ks) ≤ 1) → size (with_keys e [] keys) + length ks ≤ pending_most
    → IsSound new (with_keys e ks keys)
sound_with old new key others keys e ks apart sound there once few = record {
  there = λ f. replaced (AreThere new) ks there keys e f
      (still_there old new key others (keys_at f (with_keys e [] keys)) (apart f) (emptied (AreThere old) tt keys e f (sound.there f)));
  once = λ n. let with_these = total_with new keys e ks n in let same = total_same old new key others (with_keys e [] keys) apart n in
      let most = once n in omega (arith, with_these, same, most);
  few = let with_these = size_with keys e ks in omega (arith, with_these, few);
}

-- a key without an entry is no endpoint's
pub all_apart_vacant : (slots : List (Option Entry)) (keys : Keys) (key : ℕ) (e : Endpoint) → IsSound slots keys → entry_at slots key ≡ None
    → (f : Endpoint) → Apart key (keys_at f (with_keys e [] keys))
all_apart_vacant slots keys key e sound vacant f = emptied (Apart key) tt keys e f (apart_vacant slots key vacant (keys_at f keys) (sound.there f))

-- the key of a pending submit is no other endpoint's
pub all_apart : (slots : List (Option Entry)) (keys : Keys) (key : ℕ) (entry : Entry) (e : Endpoint) → entry_at slots key ≡ Some entry
    → total slots (with_keys e [] keys) entry.head.seqnum ≡ 0 → (f : Endpoint) → Apart key (keys_at f (with_keys e [] keys))
all_apart slots keys key entry e is none f =
    apart_number slots key entry is (keys_at f (with_keys e [] keys)) (zero_each slots (with_keys e [] keys) entry.head.seqnum none f)

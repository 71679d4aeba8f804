-- a submit arrives
use Rattle.std.proofs.Common.{refl, ◌≡◌, ◌∙◌, ℕ, ◌+◌, ◌≤◌, List, [], ◌∷◌, ◌++◌, length, Option, Some, None, ap, sym, subst, arith}
use Rattle.std.proofs.lemmas.List.{length-append}
use Rattle.std.proofs.lemmas.Bool.Decides.{nat_tests}
use Rattle.tmc_law.specs.Endpoint.{Endpoint, Control, BulkOut, BulkIn, InterruptIn}
use Rattle.tmc_law.specs.State.{Pending, Halted}
use Rattle.endpoint_pipes.specs.declared.entry.Entry.{Entry}
use Rattle.endpoint_pipes.specs.Held.{Held, list_of, with_list, all_of, AreUnpolled}
use Rattle.tmc_law.specs.Reached.{AreDistinct}
use Rattle.endpoint_pipes.specs.Keys.{Keys, keys_at, with_keys}
use Rattle.endpoint_pipes.specs.Kept.{submit_of, entry_at, in_front, submits_of, held_of, IsThere, IsWhole, count_of, total, size, IsSound}
use Rattle.endpoint_pipes.specs.Outcome.{IsFree}
use Rattle.endpoint_pipes.proofs.Counts.{count-append, none_avoids, distinct_once, unpolled-append}
use Rattle.endpoint_pipes.proofs.Stored.{Apart, OthersKept, same_submits, still_there, apart_vacant, submits-append, there-append, length-submits}
use Rattle.endpoint_pipes.proofs.Changes.{total_with, size_with, with_same, held_with, sound_with, all_apart_vacant, count_all}
use Rattle.endpoint_pipes.proofs.Placing.{list_is}

-- a number that is new comes once
fresh : (x : Pending) (n : ℕ) (f : ℕ → ℕ) → f x.head.seqnum ≡ 0 → f n ≤ 1 → f n + count_of n (x ∷ []) ≤ 1
fresh x n f none most = grind (arith, nat_tests)

pub length_all : (slots : List (Option Entry)) (keys : Keys) (h : Halted) → IsSound slots keys → length (all_of (held_of slots keys h)) ≡ size keys
length_all slots keys h sound =
    let c = length-submits slots keys.control (sound.there Control) in let o = length-submits slots keys.bulk_out (sound.there BulkOut) in
    let i = length-submits slots keys.bulk_in (sound.there BulkIn) in let t = length-submits slots keys.interrupt_in (sound.there InterruptIn) in
    let first = length-append (submits_of slots keys.control) (submits_of slots keys.bulk_out ++ (submits_of slots keys.bulk_in ++ submits_of slots keys.interrupt_in)) in
    let second = length-append (submits_of slots keys.bulk_out) (submits_of slots keys.bulk_in ++ submits_of slots keys.interrupt_in) in
    let third = length-append (submits_of slots keys.bulk_in) (submits_of slots keys.interrupt_in) in
    omega (arith, c, o, i, t, first, second, third)

module _ (old new : List (Option Entry)) (keys : Keys) (e : Endpoint) (key : ℕ) (entry : Entry) (h : Halted) (held : Held)
    (sound : IsSound old keys) (others : OthersKept old new key) (vacant : entry_at old key ≡ None) (is : entry_at new key ≡ Some entry)
    (whole : IsWhole entry) (view : held_of old keys h ≡ held) (free : IsFree held entry.head.seqnum) where
  apart : (f : Endpoint) → Apart key (keys_at f (with_keys e [] keys))
  apart = all_apart_vacant old keys key e sound vacant

  apart_here : Apart key (keys_at e keys)
  apart_here = apart_vacant old key vacant (keys_at e keys) (sound.there e)

  lists : submits_of new (keys_at e keys ++ key ∷ []) ≡ submits_of old (keys_at e keys) ++ submit_of entry ∷ []
  lists =
      submits-append new (keys_at e keys) (key ∷ [])
      ∙ ap (λ (l : List Pending). l ++ in_front (entry_at new key) []) (same_submits old new key others (keys_at e keys) apart_here)
      ∙ ap (λ (o : Option Entry). submits_of old (keys_at e keys) ++ in_front o []) is

  counted : (n : ℕ) → total old keys n ≡ total old (with_keys e [] keys) n + count_of n (submits_of old (keys_at e keys))
  counted n = ap (λ (ks : Keys). total old ks n) (sym (with_same keys e)) ∙ total_with old keys e (keys_at e keys) n

  none : total old keys entry.head.seqnum ≡ 0
  none =
      sym (count_all old keys h entry.head.seqnum) ∙ ap (λ (v : Held). count_of entry.head.seqnum (all_of v)) view
      ∙ none_avoids entry.head.seqnum (all_of held) free.1

  pub sound_added : IsSound new (with_keys e (keys_at e keys ++ key ∷ []) keys)
  sound_added =
      sound_with old new key others keys e (keys_at e keys ++ key ∷ []) apart sound
      (there-append new (keys_at e keys) (key ∷ []) (still_there old new key others (keys_at e keys) apart_here (sound.there e))
      (subst (λ (o : Option Entry). IsThere o) (sym is) whole, tt))
      (λ n. let now : count_of n (submits_of new (keys_at e keys ++ key ∷ [])) ≡ count_of n (submits_of old (keys_at e keys)) + count_of n (submit_of entry ∷ []) =
      ap (count_of n) lists ∙ count-append n (submits_of old (keys_at e keys)) (submit_of entry ∷ []) in
      let sum = counted n in let most = fresh (submit_of entry) n (total old keys) none (sound.once n) in omega (arith, now, sum, most))
      (let all : size keys ≡ size (with_keys e [] keys) + length (keys_at e keys) = ap size (sym (with_same keys e)) ∙ size_with keys e (keys_at e keys) in
      let long = length-append (keys_at e keys) (key ∷ []) in
      let few : length (all_of held) ≡ size keys = ap (λ (v : Held). length (all_of v)) (sym view) ∙ length_all old keys h sound in
      let room = free.0 in omega (arith, all, long, few, room))

  pub held_added : held_of new (with_keys e (keys_at e keys ++ key ∷ []) keys) h ≡ with_list e (list_of e held ++ submit_of entry ∷ []) held
  held_added =
      held_with old new key others keys e (keys_at e keys ++ key ∷ []) apart (list_of e held ++ submit_of entry ∷ [])
      (lists ∙ ap (λ (l : List Pending). l ++ submit_of entry ∷ []) (list_is old keys h held e view)) h
      ∙ ap (with_list e (list_of e held ++ submit_of entry ∷ [])) view

front_unpolled : (o : Option Entry) (submits : List Pending) → AreUnpolled submits → AreUnpolled (in_front o submits)
front_unpolled None submits rest = rest
front_unpolled (Some entry) submits rest = (refl, rest)

unpolled : (slots : List (Option Entry)) (keys : List ℕ) → AreUnpolled (submits_of slots keys)
unpolled slots [] = tt
unpolled slots (k ∷ keys) = front_unpolled (entry_at slots k) (submits_of slots keys) (unpolled slots keys)

pub all_unpolled : (slots : List (Option Entry)) (keys : Keys) (h : Halted) → AreUnpolled (all_of (held_of slots keys h))
all_unpolled slots keys h =
    unpolled-append (submits_of slots keys.control) (submits_of slots keys.bulk_out ++ (submits_of slots keys.bulk_in ++ submits_of slots keys.interrupt_in)) (unpolled slots keys.control)
    (unpolled-append (submits_of slots keys.bulk_out) (submits_of slots keys.bulk_in ++ submits_of slots keys.interrupt_in) (unpolled slots keys.bulk_out)
    (unpolled-append (submits_of slots keys.bulk_in) (submits_of slots keys.interrupt_in) (unpolled slots keys.bulk_in) (unpolled slots keys.interrupt_in)))

pub all_distinct : (slots : List (Option Entry)) (keys : Keys) (h : Halted) → IsSound slots keys → AreDistinct (all_of (held_of slots keys h))
all_distinct slots keys h sound =
    distinct_once (all_of (held_of slots keys h)) (λ n. let all = count_all slots keys h n in let most = sound.once n in omega (arith, all, most))

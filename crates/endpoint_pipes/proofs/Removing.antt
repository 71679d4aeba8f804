-- a submit leaves its queue
use Rattle.std.proofs.Common.{◌≡◌, ◌∙◌, ℕ, ◌+◌, ◌<◌, ◌==◌, if◌then◌else◌, suc, List, [], ◌∷◌, ◌++◌, length, take, drop, get_or, Option, Some, ap, sym, subst, arith}
use Rattle.std.specs.List.{remove}
use Rattle.std.proofs.lemmas.List.Edits.{length-remove}
use Rattle.tmc_law.specs.Endpoint.{Endpoint}
use Rattle.tmc_law.specs.State.{Pending, Halted, Avoids}
use Rattle.endpoint_pipes.specs.declared.entry.Entry.{Entry}
use Rattle.endpoint_pipes.specs.Held.{Held, list_of, with_list, all_of}
use Rattle.endpoint_pipes.specs.Keys.{Keys, keys_at, with_keys}
use Rattle.endpoint_pipes.specs.Kept.{submit_of, entry_at, submits_of, held_of, IsThere, IsWhole, AreThere, count_of, total, size, IsSound}
use Rattle.endpoint_pipes.proofs.Counts.{count-append, count_first, avoids_none}
use Rattle.endpoint_pipes.proofs.Stored.{Apart, OthersKept, same_submits, still_there, apart_number, submits-append, there-append, there-left, there-right}
use Rattle.endpoint_pipes.proofs.Changes.{total_with, total_same, size_with, with_same, held_with, sound_with, all_apart, count_all}
use Rattle.endpoint_pipes.proofs.Placing.{split, submits_split, length_before, list_is, same_split}

module _ (old new : List (Option Entry)) (keys : Keys) (e : Endpoint) (place key : ℕ) (entry : Entry)
    (sound : IsSound old keys) (others : OthersKept old new key) (within : place < length (keys_at e keys))
    (read : key ≡ get_or (keys_at e keys) place key) (is : entry_at old key ≡ Some entry) where
  -- the keys before the submit's, and those behind it
  abbrev first : List ℕ
  first = take place (keys_at e keys)

  abbrev last : List ℕ
  last = drop (suc place) (keys_at e keys)

  lists : submits_of old (keys_at e keys) ≡ submits_of old first ++ submit_of entry ∷ submits_of old last
  lists = submits_split old (keys_at e keys) place key entry within read is

  -- how often a number is pending
  counted : (n : ℕ) → total old keys n
      ≡ total old (with_keys e [] keys) n + (count_of n (submits_of old first) + count_of n (submit_of entry ∷ submits_of old last))
  counted n =
      ap (λ (ks : Keys). total old ks n) (sym (with_same keys e)) ∙ total_with old keys e (keys_at e keys) n
      ∙ ap (λ (m : ℕ). total old (with_keys e [] keys) n + m) (ap (count_of n) lists ∙ count-append n (submits_of old first) (submit_of entry ∷ submits_of old last))

  none_else : total old (with_keys e [] keys) entry.head.seqnum ≡ 0
  none_else = let sum = counted entry.head.seqnum in let one = count_first (submit_of entry) (submits_of old last) in let most = sound.once entry.head.seqnum in
      omega (arith, sum, one, most)

  none_before : count_of entry.head.seqnum (submits_of old first) ≡ 0
  none_before = let sum = counted entry.head.seqnum in let one = count_first (submit_of entry) (submits_of old last) in let most = sound.once entry.head.seqnum in
      omega (arith, sum, one, most)

  none_behind : count_of entry.head.seqnum (submits_of old last) ≡ 0
  none_behind = let sum = counted entry.head.seqnum in let one = count_first (submit_of entry) (submits_of old last) in let most = sound.once entry.head.seqnum in
      omega (arith, sum, one, most)

  apart : (f : Endpoint) → Apart key (keys_at f (with_keys e [] keys))
  apart = all_apart old keys key entry e is none_else

  left_over : submits_of new (remove (keys_at e keys) place) ≡ submits_of old first ++ submits_of old last
  left_over =
      submits-append new first last
      ∙ ap (λ (l : List Pending). l ++ submits_of new last) (same_submits old new key others first (apart_number old key entry is first none_before))
      ∙ ap (λ (l : List Pending). submits_of old first ++ l) (same_submits old new key others last (apart_number old key entry is last none_behind))

  parts : AreThere old (first ++ key ∷ last)
  parts = subst (AreThere old) (split (keys_at e keys) place key within read) (sound.there e)

  pub sound_removed : IsSound new (with_keys e (remove (keys_at e keys) place) keys)
  sound_removed =
      sound_with old new key others keys e (remove (keys_at e keys) place) apart sound
      (there-append new first last
      (still_there old new key others first (apart_number old key entry is first none_before) (there-left old first (key ∷ last) parts))
      (still_there old new key others last (apart_number old key entry is last none_behind) (there-right old first (key ∷ last) parts).1))
      (λ n. let now : count_of n (submits_of new (remove (keys_at e keys) place)) ≡ count_of n (submits_of old first) + count_of n (submits_of old last) =
      ap (count_of n) left_over ∙ count-append n (submits_of old first) (submits_of old last) in
      let sum = counted n in let most = sound.once n in omega (arith, now, sum, most))
      (let less = length-remove (keys_at e keys) place within in let all : size keys ≡ size (with_keys e [] keys) + length (keys_at e keys) =
      ap size (sym (with_same keys e)) ∙ size_with keys e (keys_at e keys) in let most = sound.few in omega (arith, less, all, most))

  pub gone_removed : (h : Halted) → Avoids entry.head.seqnum (all_of (held_of new (with_keys e (remove (keys_at e keys) place) keys) h))
  gone_removed h =
      let now : count_of entry.head.seqnum (submits_of new (remove (keys_at e keys) place)) ≡ count_of entry.head.seqnum (submits_of old first) + count_of entry.head.seqnum (submits_of old last) =
      ap (count_of entry.head.seqnum) left_over ∙ count-append entry.head.seqnum (submits_of old first) (submits_of old last) in
      let sum = total_with new keys e (remove (keys_at e keys) place) entry.head.seqnum in
      let same = total_same old new key others (with_keys e [] keys) apart entry.head.seqnum in
      let all = count_all new (with_keys e (remove (keys_at e keys) place) keys) h entry.head.seqnum in
      avoids_none entry.head.seqnum (all_of (held_of new (with_keys e (remove (keys_at e keys) place) keys) h))
      (omega (arith, now, sum, same, all, none_else, none_before, none_behind))

  pub held_removed : (h : Halted) (held : Held) → held_of old keys h ≡ held → (before : List Pending) (submit : Pending) (behind : List Pending)
      → list_of e held ≡ before ++ submit ∷ behind → length before ≡ place
      → (submit_of entry ≡ submit) × (held_of new (with_keys e (remove (keys_at e keys) place) keys) h ≡ with_list e (before ++ behind) held)
  held_removed h held view before submit behind stood at =
      let same = same_split (submits_of old first) before (submit_of entry) submit (submits_of old last) behind
      (sym lists ∙ list_is old keys h held e view ∙ stood) (length_before old (keys_at e keys) place within (sound.there e) ∙ sym at) in (
        same.1,
        held_with old new key others keys e (remove (keys_at e keys) place) apart (before ++ behind)
            (left_over ∙ ap (λ (l : List Pending). l ++ submits_of old last) same.0 ∙ ap (λ (l : List Pending). before ++ l) same.2) h
            ∙ ap (with_list e (before ++ behind)) view,
      )

  -- the submit changes, and stays in its place
  module _ (later : Entry) (now : entry_at new key ≡ Some later) (whole : IsWhole later) (number : later.head.seqnum ≡ entry.head.seqnum) where
    set_lists : submits_of new (keys_at e keys) ≡ submits_of old first ++ submit_of later ∷ submits_of old last
    set_lists =
        submits_split new (keys_at e keys) place key later within read now
        ∙ ap (λ (l : List Pending). l ++ submit_of later ∷ submits_of new last) (same_submits old new key others first (apart_number old key entry is first none_before))
        ∙ ap (λ (l : List Pending). submits_of old first ++ submit_of later ∷ l) (same_submits old new key others last (apart_number old key entry is last none_behind))

    set_counts : (n : ℕ) → count_of n (submits_of new (keys_at e keys)) ≡ count_of n (submits_of old first) + count_of n (submit_of entry ∷ submits_of old last)
    set_counts n =
        ap (count_of n) set_lists ∙ count-append n (submits_of old first) (submit_of later ∷ submits_of old last)
        ∙ ap (λ (m : ℕ). count_of n (submits_of old first) + ((if m == n then 1 else 0) + count_of n (submits_of old last))) number

    pub sound_set : IsSound new keys
    sound_set =
        subst (λ (ks : Keys). IsSound new ks) (with_same keys e)
        (sound_with old new key others keys e (keys_at e keys) apart sound
        (subst (AreThere new) (sym (split (keys_at e keys) place key within read))
        (there-append new first (key ∷ last)
        (still_there old new key others first (apart_number old key entry is first none_before) (there-left old first (key ∷ last) parts)) (
          subst (λ (o : Option Entry). IsThere o) (sym now) whole,
          still_there old new key others last (apart_number old key entry is last none_behind) (there-right old first (key ∷ last) parts).1,
        )))
        (λ n. let same = set_counts n in let sum = counted n in let most = sound.once n in omega (arith, same, sum, most))
        (let all : size keys ≡ size (with_keys e [] keys) + length (keys_at e keys) = ap size (sym (with_same keys e)) ∙ size_with keys e (keys_at e keys) in
        let most = sound.few in omega (arith, all, most)))

    pub held_set : (h : Halted) (held : Held) → held_of old keys h ≡ held → (before : List Pending) (submit : Pending) (behind : List Pending)
        → list_of e held ≡ before ++ submit ∷ behind → length before ≡ place
        → (submit_of entry ≡ submit) × (held_of new keys h ≡ with_list e (before ++ submit_of later ∷ behind) held)
    held_set h held view before submit behind stood at =
        let same = same_split (submits_of old first) before (submit_of entry) submit (submits_of old last) behind
        (sym lists ∙ list_is old keys h held e view ∙ stood) (length_before old (keys_at e keys) place within (sound.there e) ∙ sym at) in (
          same.1,
          ap (λ (ks : Keys). held_of new ks h) (sym (with_same keys e))
              ∙ held_with old new key others keys e (keys_at e keys) apart (before ++ submit_of later ∷ behind)
              (set_lists ∙ ap (λ (l : List Pending). l ++ submit_of later ∷ submits_of old last) same.0 ∙ ap (λ (l : List Pending). before ++ submit_of later ∷ l) same.2) h
              ∙ ap (with_list e (before ++ submit_of later ∷ behind)) view,
        )

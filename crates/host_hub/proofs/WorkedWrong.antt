-- wrong records are not lawful, or not kept
use Rattle.std.specs.Prelude.{true, List}
use Rattle.std.proofs.Common.{◌≡◌, [], ◌∷◌, ◌++◌, Some, None, refl}
use Rattle.tmc_wire.specs.declared.class_request.ClassRequest.TheVariants as class
use Rattle.host_recover.specs.declared.need.Need.{Need}
use Rattle.host_recover.specs.declared.need.Need.TheVariants as need
use Rattle.host_recover.specs.Letter.{Letter, Asked, Drained, Success, Short}
use Rattle.host_recover.specs.Words.{Begins, Has, words_of}
use Rattle.host_hub.specs.declared.outcome.Outcome.TheVariants as outcome
use Rattle.host_hub.specs.Order.{Class, Part, Unlink}
use Rattle.host_hub.specs.Record.{Cancelled, Of, Recovery, Settled, Wrote}
use Rattle.host_hub.specs.Law.{Kept, Lawful}
use Rattle.host_hub.specs.Worked.{complete_query, setting, success, unlink_answer}
use Rattle.host_hub.specs.WorkedStops.{cancel_record, reading, unlinking}
use Rattle.host_hub.specs.WorkedWrong.{lost, raced, stale_packet, unrecovered}
use Rattle.host_hub.proofs.WorkedStops.{in_word}

pub not_whole : Lawful setting (Settled 1 outcome.Cancelled ∷ raced) → ⊥
not_whole h = let e : Some outcome.Complete ≡ Some outcome.Cancelled = h.1.1.caused in cc

pub not_behind : Lawful setting (Settled 1 outcome.Cancelled ∷ unlink_answer 4 success ∷ raced) → ⊥
not_behind h = let e : Some outcome.Complete ≡ Some outcome.Cancelled = h.1.1.caused in cc

pub not_late : Kept setting raced → ⊥
not_late kept = let e : Some outcome.Complete ≡ None = kept.quiet.settled 1 refl in cc

pub not_lost : Lawful setting (Settled 1 outcome.Complete ∷ lost) → ⊥
not_lost h = let e : Some outcome.Cancelled ≡ Some outcome.Complete = h.1.1.caused in cc

pub not_none : Kept setting (Cancelled 1 ∷ reading complete_query) → ⊥
not_none kept = let e : 3 ∷ [] ≡ [] = kept.quiet.unlinked in cc

pub not_unasked : Lawful setting (Wrote 4 (Of 1) (Unlink 3) ∷ reading complete_query) → ⊥
not_unasked h = let e : [] ≡ 3 ∷ h.1.2.1 = h.1.2.2 in cc

pub not_twice : Lawful setting (Wrote 5 (Of 1) (Unlink 3) ∷ unlinking complete_query) → ⊥
not_twice h = let e : [] ≡ 3 ∷ h.1.2.1 = h.1.2.2 in cc

pub not_before : Lawful setting (Wrote 5 (Of 2) (Part 3 complete_query true) ∷ unrecovered) → ⊥
not_before h = let e : Some (need.In 2) ≡ None = h.1.2.0.when.1.1 in cc

abbrev Ends : Type 0
Ends = (called : Need) (letters : List Letter) (letter : Letter) → Has (words_of called) letters → Begins (words_of called) (letters ++ letter ∷ []) → ⊥

pub not_more : Ends → Lawful setting (Wrote 8 Recovery (Class class.CheckIn) ∷ cancel_record) → ⊥
not_more ends h =
    ends (need.In 2) (Asked (class.AbortIn 2) Success ∷ Drained Short ∷ Asked class.CheckIn Success ∷ []) h.1.2.next.next.letter in_word h.1.2.next.next.begins

pub not_stale : Lawful setting (Settled 2 (outcome.Status 0x50) ∷ stale_packet) → ⊥
not_stale h = let e : None ≡ Some (outcome.Status 0x50) = h.1.1.caused in cc

-- the response to the message of two transfers is read in two pieces
use Rattle.std.proofs.Common.{◌≡◌, ◌∙◌, inl, inr, ℕ, ◌<◌, Bool, true, false, None, List, [], ◌∷◌, ◌++◌, length, refl, ap, sym, subst, arith, lit<}
use Rattle.tmc_wire.specs.declared.header.OutHeader.TheVariants.{Request}
use Rattle.tmc_wire.specs.Header.{out_header_bytes}
use Rattle.tmc_law.specs.Put.{success}
use Rattle.tmc_law.specs.Run.{IsFront}
use Rattle.tmc_law.specs.WorkedParts.{spaced}
use Rattle.tmc_law.specs.WorkedQuery.{identity}
use Rattle.tmc_law.specs.WorkedSession.{out_submit, in_submit}
use Rattle.host_joint.specs.Stage.{Ran}
use Rattle.host_joint.specs.Hand.{Free, Pauses, IsTransfer, WritesRequest, WritesNext, WritesRead}
use Rattle.host_joint.specs.Pieces.{IsPiece, IsFaultless, IsWhole}
use Rattle.host_joint.specs.Tie.{IsUndisturbed, Tie, Owns}
use Rattle.host_joint.specs.WorkedTies.{told, told_to, last_request}
use Rattle.host_joint.specs.WorkedPieces.{requested_first, requested_second, first_data, second_data, first_piece, second_piece, next_request, first_log, second_log, requesting_first, giving_first, requesting_second, giving_second, behind_first, behind_second, reading_first, reading_second, skipping}
use Rattle.host_joint.proofs.Taking.{OneHeader}
use Rattle.host_joint.proofs.Serving.{requests_first, gives_first, requests_second, gives_second}
use Rattle.host_joint.proofs.Exchanging.{TieLaws, exchange, on, Ends, EndsAll, EndsPart, ends}

abbrev pub Fields : Type 0
Fields = (tag size : ℕ) (eom : Bool) (carried bytes : List ℕ) → IsPiece tag size eom carried bytes → IsFaultless tag size bytes × IsWhole eom carried bytes

pub first_is : IsTransfer (out_submit 3 12) (Request 3 4000) [] last_request
unfolding out_header_bytes
first_is = record { number = refl; way = refl; proper = (lit< tt, lit< tt); fits = (lit< tt, lit< tt); counted = refl; layout = refl; sized = refl }

pub next_is : IsTransfer (out_submit 5 12) (Request 4 4000) [] next_request
unfolding out_header_bytes
next_is = record { number = refl; way = refl; proper = (lit< tt, lit< tt); fits = (lit< tt, lit< tt); counted = refl; layout = refl; sized = refl }

two_calm : IsUndisturbed requesting_first
two_calm = ((λ e. cc), (λ endpoint e. cc), ((λ e. cc), (λ endpoint e. cc), tt))

three_calm : IsUndisturbed giving_first
three_calm = ((λ e. cc), (λ endpoint e. cc), ((λ e. cc), (λ endpoint e. cc), ((λ e. cc), (λ endpoint e. cc), tt)))

two_more : IsUndisturbed requesting_second
two_more = ((λ e. cc), (λ endpoint e. cc), ((λ e. cc), (λ endpoint e. cc), tt))

three_more : IsUndisturbed giving_second
three_more = ((λ e. cc), (λ endpoint e. cc), ((λ e. cc), (λ endpoint e. cc), ((λ e. cc), (λ endpoint e. cc), tt)))

pub requested : TieLaws → OneHeader → Tie told None 3 [] [] told_to → Tie reading_first None 4 [] [] requested_first
requested laws one_header tie =
    on reading_first (out_submit 3 12) 12 [] 4 [] [] requested_first refl
    (exchange laws told reading_first (out_submit 3 12) last_request requesting_first (record { seqnum = 3; status = success; actual = 12 }) [] 3 told_to requested_first
    (WritesRequest 2 3 4000 spaced refl first_is refl) refl refl refl (requests_first one_header) two_calm tie)

-- behind the first piece
pub record IsPaused : Type 0 where
  pub tie : Tie (Pauses 2 spaced first_data) None 5 [] [] behind_first
  pub response : List ℕ
  pub ran : Ran 2 spaced response first_log
  pub first : IsFront first_data response
  pub longer : length first_data < length response

pub paused : TieLaws → Fields → Tie reading_first None 4 [] [] requested_first → IsPaused
paused laws fields tie =
    by (ends reading_first (in_submit 4 4096) 24 first_piece 5 [] [] behind_first refl (lit< tt)
    (exchange laws reading_first reading_first (in_submit 4 4096) [] giving_first (record { seqnum = 4; status = success; actual = 24 }) first_piece 4 requested_first behind_first
    (WritesRead 2 3 4000 spaced [] [] refl (record { number = refl; way = refl; size = refl }) refl refl) refl refl refl gives_first three_calm tie))
  where
    by : Ends 2 spaced 3 4000 [] [] first_piece 5 [] [] behind_first → IsPaused
    by (EndsAll carried piece ran over) = let eom : 0 ≡ 1 = (fields 3 4000 true carried first_piece piece).1.last in absurd (omega (arith, eom))
    by (EndsPart carried response piece ran first longer pauses) =
        let own : first_data ≡ carried = (fields 3 4000 false carried first_piece piece).1.data_is in
        record {
          tie = subst (λ (l : List ℕ). Tie (Pauses 2 spaced l) None 5 [] [] behind_first) (sym own) pauses;
          response = response;
          ran = ran;
          first = subst (λ (l : List ℕ). IsFront l response) (sym own) first;
          longer = subst (λ (l : List ℕ). length l < length response) (sym own) longer;
        }

pub again : TieLaws → OneHeader → Tie (Pauses 2 spaced first_data) None 5 [] [] behind_first → Tie reading_second None 6 [] [] requested_second
again laws one_header tie =
    on reading_second (out_submit 5 12) 12 [] 6 [] [] requested_second refl
    (exchange laws (Pauses 2 spaced first_data) reading_second (out_submit 5 12) next_request requesting_second (record { seqnum = 5; status = success; actual = 12 }) [] 5 behind_first requested_second
    (WritesNext 2 4 4000 spaced first_data refl next_is refl) refl refl refl (requests_second one_header) two_more tie)

pub whole : TieLaws → Fields → Tie reading_second None 6 [] [] requested_second → Tie Free None 7 [] [] behind_second × Ran 2 spaced identity second_log
whole laws fields tie =
    by (ends reading_second (in_submit 6 4096) 24 second_piece 7 [] [] behind_second refl (lit< tt)
    (exchange laws reading_second reading_second (in_submit 6 4096) [] giving_second (record { seqnum = 6; status = success; actual = 24 }) second_piece 6 requested_second behind_second
    (WritesRead 2 4 4000 spaced first_data [] refl (record { number = refl; way = refl; size = refl }) refl refl) refl refl refl gives_second three_more tie))
  where
    by : Ends 2 spaced 4 4000 first_data [] second_piece 7 [] [] behind_second → Tie Free None 7 [] [] behind_second × Ran 2 spaced identity second_log
    by (EndsAll carried piece ran over) =
        let own : second_data ≡ carried = (fields 4 4000 true carried second_piece piece).1.data_is in
        (over, subst (λ (l : List ℕ). Ran 2 spaced (first_data ++ l) second_log) (sym own) ran)
    by (EndsPart carried response piece ran first longer pauses) =
        let eom : 1 ≡ 0 = (fields 4 4000 false carried second_piece piece).1.last in absurd (omega (arith, eom))

-- ---- the second piece is not the first one

pub not_skipped : ((response : List ℕ) → Ran 2 spaced response second_log → response ≡ identity) → Owns skipping behind_second → ⊥
not_skipped one (inl none) = let e : second_data ≡ [] = none in absurd (cc)
not_skipped one (inr owned) =
    let e : identity ≡ second_data ++ owned.2.0 = sym (one owned.0 owned.1) ∙ owned.2.1 in
    omega (arith, ap (λ (l : List ℕ). first l) e)
  where
    first : List ℕ → ℕ
    first [] = 0
    first (x ∷ xs) = x

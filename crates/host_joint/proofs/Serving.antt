-- a response is given in two pieces, step by step
use Rattle.std.proofs.Common.{◌≡◌, ◌≢◌, inl, inr, ℕ, [], ◌∷◌, refl, ap, sym, ◌∙◌, lit<, lit≤}
use Rattle.std.proofs.lemmas.Bool.{eqb-false}
use Rattle.tmc_wire.specs.declared.header.OutHeader.TheVariants.{Request}
use Rattle.tmc_wire.specs.Header.{in_header_bytes}
use Rattle.instr_plain.specs.Standing.{at_power_on}
use Rattle.usbip_wire.specs.Up as up
use Rattle.tmc_law.specs.Endpoint.{BulkOut, BulkIn}
use Rattle.tmc_law.specs.State.{State, Idle, Sending, arrived}
use Rattle.tmc_law.specs.Put.{success}
use Rattle.tmc_law.specs.BulkOut.{Requests}
use Rattle.tmc_law.specs.BulkIn.{DoesBegin, Short}
use Rattle.tmc_law.specs.Step.{Steps, Comes, Begin, Fill}
use Rattle.tmc_law.specs.Run.{Runs}
use Rattle.tmc_law.specs.WorkedSession.{out_submit, in_submit, answered}
use Rattle.tmc_law.specs.WorkedQuery.{identity}
use Rattle.host_joint.specs.Jobs.{Job, IsJob}
use Rattle.host_joint.specs.WorkedTies.{told_to, last_request}
use Rattle.host_joint.specs.WorkedPieces.{requested_first, requested_second, first_piece, second_piece, next_request, second_data, first_log, second_log, requesting_first, giving_first, requesting_second, giving_second, behind_first, behind_second, request_job, next_job}
use Rattle.host_joint.proofs.Taking.{OneHeader, MayBegin, Suits}
use Rattle.host_joint.proofs.Examples.{no_fault}
use Rattle.host_joint.proofs.Coming.{comes, takes_job}

-- ---- the first piece

abbrev first_came : State
first_came = record told_to { bulk_out = arrived (out_submit 3 12) last_request ∷ [] }

abbrev first_read_came : State
first_read_came = record requested_first { bulk_in = arrived (in_submit 4 4096) [] ∷ [] }

abbrev first_sends : State
first_sends = record first_read_came {
  side = Sending (record { tag = 3; size = 10; left = first_piece });
  log = first_log;
  standing = record at_power_on { unread = second_data };
}

pub first_is : IsJob request_job
first_is = record {
  number = refl;
  way = refl;
  text = record {
    head = last_request;
    alignment = [];
    headed = record { reserved = 0; attributes = 0; ninth = 0; tenth = 0; eleventh = 0; tagged = (lit< tt, lit< tt); counted = (lit< tt, lit< tt); accepted = tt; layout = refl };
    counted = refl;
    least = lit< tt;
    aligned = refl;
    layout = refl;
  };
  headed = record { reserved = 0; attributes = 0; ninth = 0; tenth = 0; eleventh = 0; tagged = (lit< tt, lit< tt); counted = (lit< tt, lit< tt); accepted = tt; layout = refl };
  faultless = λ f is. no_fault last_request f (record { long = lit≤ tt; known = refl; tagged = eqb-false _ _ refl; inverse = refl; counted = inr (eqb-false _ _ refl) }) is.here;
  whole = refl;
  sized = refl;
}

pub next_is : IsJob next_job
next_is = record {
  number = refl;
  way = refl;
  text = record {
    head = next_request;
    alignment = [];
    headed = record { reserved = 0; attributes = 0; ninth = 0; tenth = 0; eleventh = 0; tagged = (lit< tt, lit< tt); counted = (lit< tt, lit< tt); accepted = tt; layout = refl };
    counted = refl;
    least = lit< tt;
    aligned = refl;
    layout = refl;
  };
  headed = record { reserved = 0; attributes = 0; ninth = 0; tenth = 0; eleventh = 0; tagged = (lit< tt, lit< tt); counted = (lit< tt, lit< tt); accepted = tt; layout = refl };
  faultless = λ f is. no_fault next_request f (record { long = lit≤ tt; known = refl; tagged = eqb-false _ _ refl; inverse = refl; counted = inr (eqb-false _ _ refl) }) is.here;
  whole = refl;
  sized = refl;
}

-- a request may begin where nothing is in progress
may_begin : (job : Job) (tag size : ℕ) (s : State) → job.header ≡ Request tag size → s.side ≡ Idle → s.part ≡ [] → MayBegin (job ∷ []) s
may_begin job tag size s asks idle none other rest e =
    let same : job ≡ other = cc in
    (idle, suits other (ap (λ (j : Job). j.header) (sym same) ∙ asks))
  where
    suits : (j : Job) → j.header ≡ Request tag size → Suits s.part j.header
    suits j e = rw e none

some_identity : identity ≢ []
some_identity e = cc

some_data : second_data ≢ []
some_data e = cc

pub requests_first : OneHeader → Runs told_to requesting_first requested_first
requests_first one_header = (
  first_came,
  comes told_to (out_submit 3 12) last_request BulkOut (record { plugged = refl; wide = refl; eight = refl; setup = refl; carried = refl; bytes = refl; free = refl; few = refl }) (record { number = refl; way = refl; usable = refl }),
  (
    requested_first,
    takes_job one_header first_came requested_first request_job first_is (may_begin request_job 3 4000 first_came refl refl refl)
        (record { plugged = refl; none_waits = refl; none_runs = refl; first = refl; some = eqb-false _ _ refl; one = refl; moves = (refl, refl); full = refl })
        (Requests 3 4000 refl some_identity refl),
    refl,
  ),
)

begins_first : Steps first_read_came (Begin 10) [] first_sends
unfolding in_header_bytes
begins_first = record {
  plugged = refl;
  leads = (DoesBegin 3 4000 refl tt (lit≤ tt) (lit≤ tt) (record { standing = record at_power_on { unread = second_data }; after = refl; is = refl }), refl);
}

fills_first : Steps first_sends (Fill 1) (answered (in_submit 4 4096) success 24 first_piece ∷ []) behind_first
fills_first = record {
  plugged = refl;
  leads = Short (arrived (in_submit 4 4096) []) [] (record { tag = 3; size = 10; left = first_piece }) 0 refl refl tt refl (inl refl) (lit≤ tt) (lit< tt) (lit≤ tt) refl refl;
}

pub gives_first : Runs requested_first giving_first behind_first
gives_first = (
  first_read_came,
  comes requested_first (in_submit 4 4096) [] BulkIn (record { plugged = refl; wide = refl; eight = refl; setup = refl; carried = refl; bytes = refl; free = refl; few = refl }) (record { number = refl; way = refl; usable = refl }),
  (first_sends, begins_first, (behind_first, fills_first, refl)),
)

-- ---- the second one

abbrev second_came : State
second_came = record behind_first { bulk_out = arrived (out_submit 5 12) next_request ∷ [] }

abbrev pub second_read_came : State
second_read_came = record requested_second { bulk_in = arrived (in_submit 6 4096) [] ∷ [] }

abbrev pub second_sends : State
second_sends = record second_read_came {
  side = Sending (record { tag = 4; size = 9; left = second_piece });
  log = second_log;
  standing = at_power_on;
}

pub requests_second : OneHeader → Runs behind_first requesting_second requested_second
requests_second one_header = (
  second_came,
  comes behind_first (out_submit 5 12) next_request BulkOut (record { plugged = refl; wide = refl; eight = refl; setup = refl; carried = refl; bytes = refl; free = refl; few = refl }) (record { number = refl; way = refl; usable = refl }),
  (
    requested_second,
    takes_job one_header second_came requested_second next_job next_is (may_begin next_job 4 4000 second_came refl refl refl)
        (record { plugged = refl; none_waits = refl; none_runs = refl; first = refl; some = eqb-false _ _ refl; one = refl; moves = (refl, refl); full = refl })
        (Requests 4 4000 refl some_data refl),
    refl,
  ),
)

pub begins_second : Steps second_read_came (Begin 9) [] second_sends
unfolding in_header_bytes
begins_second = record {
  plugged = refl;
  leads = (DoesBegin 4 4000 refl tt (lit≤ tt) (lit≤ tt) (record { standing = at_power_on; after = refl; is = refl }), refl);
}

fills_second : Steps second_sends (Fill 1) (answered (in_submit 6 4096) success 24 second_piece ∷ []) behind_second
fills_second = record {
  plugged = refl;
  leads = Short (arrived (in_submit 6 4096) []) [] (record { tag = 4; size = 9; left = second_piece }) 0 refl refl tt refl (inl refl) (lit≤ tt) (lit< tt) (lit≤ tt) refl refl;
}

pub second_comes : Steps requested_second (Comes (up.Submit (in_submit 6 4096) [])) [] second_read_came
second_comes =
    comes requested_second (in_submit 6 4096) [] BulkIn (record { plugged = refl; wide = refl; eight = refl; setup = refl; carried = refl; bytes = refl; free = refl; few = refl }) (record { number = refl; way = refl; usable = refl })

pub gives_second : Runs requested_second giving_second behind_second
gives_second = (
  second_read_came,
  second_comes,
  (second_sends, begins_second, (behind_second, fills_second, refl)),
)

-- the query `*IDN?`, step by step
use Rattle.std.proofs.Common.{◌≡◌, ◌≢◌, true, [], ◌∷◌, codes, Some, inl, inr, refl, lit<, lit≤}
use Rattle.std.proofs.lemmas.Bool.{eqb-false}
use Rattle.tmc_wire.specs.declared.header.OutHeader.TheVariants.{Message, Request}
use Rattle.tmc_wire.specs.Header.{in_header_bytes}
use Rattle.instr_plain.specs.declared.log.LogEntry.TheVariants as entry
use Rattle.instr_plain.specs.Standing.{at_power_on}
use Rattle.tmc_law.specs.State.{State, start, arrived, Idle, Owed, Sending}
use Rattle.tmc_law.specs.Put.{success}
use Rattle.tmc_law.specs.BulkOut.{DoesMove, Last, Requests, NothingUnread, DoesExecute}
use Rattle.tmc_law.specs.BulkIn.{DoesBegin, Short}
use Rattle.tmc_law.specs.Step.{Steps, Take, Exec, Begin, Fill}
use Rattle.tmc_law.specs.Run.{Runs}
use Rattle.tmc_law.specs.WorkedSession.{answered}
use Rattle.tmc_law.specs.WorkedQuery.{query_submit, request_submit, response_submit, query_text, request_text, response_text, identity, query_log, asking, answering}
use Rattle.tmc_law.proofs.WorkedComing.{out_comes, in_comes}
use Rattle.tmc_law.proofs.WorkedUnspoiled.{IsGood}
use Rattle.tmc_law.proofs.WorkedTaking.{takes_whole}
use Rattle.tmc_law.proofs.WorkedMessages.{identifies}

-- the submits come
abbrev pub query_came : State
query_came = record start { bulk_out = arrived query_submit query_text ∷ [] }

abbrev pub request_came : State
request_came = record start { bulk_out = arrived query_submit query_text ∷ arrived request_submit request_text ∷ [] }

abbrev pub came : State
came = record request_came { bulk_in = arrived response_submit [] ∷ [] }

-- the message waits
abbrev pub waits : State
waits = record came { bulk_out = arrived request_submit request_text ∷ []; waiting = Some (record { seq = 1; message = codes "*IDN?" }) }

-- it was executed
abbrev pub executed : State
executed = record came {
  bulk_out = arrived request_submit request_text ∷ [];
  log = entry.Exec 1 (codes "*IDN?") ∷ [];
  standing = record at_power_on { unread = identity };
}

-- its response was requested
abbrev pub requested : State
requested = record executed { bulk_out = []; side = Owed 2 4000 }

-- the response is one piece
abbrev pub sends : State
sends = record requested {
  side = Sending (record { tag = 2; size = 19; left = response_text });
  log = query_log;
  standing = at_power_on;
}

abbrev pub done : State
done = record start { log = query_log }

pub query_good : (s : State) → s.side ≡ Idle → s.part ≡ [] → IsGood s query_text (Message 1 5 true)
query_good s idle none = record {
  idle = idle;
  fine = record { long = lit≤ tt; known = refl; tagged = eqb-false _ _ refl; inverse = refl; counted = inr (eqb-false _ _ refl) };
  headed = record { reserved = 0; attributes = 1; ninth = 0; tenth = 0; eleventh = 0; tagged = (lit< tt, lit< tt); counted = (lit< tt, lit< tt); accepted = refl; layout = refl };
  suits = rw none (lit≤ tt);
}

pub takes_query : Steps came (Take 1) (answered query_submit success 20 [] ∷ []) waits
takes_query =
    takes_whole came waits (arrived query_submit query_text) (arrived request_submit request_text ∷ []) (Message 1 5 true)
    (record { plugged = refl; none_waits = refl; none_runs = refl; first = refl; good = query_good came refl refl; some = eqb-false _ _ refl; one = refl; moves = DoesMove refl refl; fits = refl; full = refl })
    (Last 1 5 (codes "*IDN?") (record came { bulk_out = arrived request_submit request_text ∷ [] }) refl
    (record { head = 0x01 ∷ 0x01 ∷ 0xfe ∷ 0x00 ∷ 0x05 ∷ 0x00 ∷ 0x00 ∷ 0x00 ∷ 0x01 ∷ 0x00 ∷ 0x00 ∷ 0x00 ∷ []; alignment = 0x00 ∷ 0x00 ∷ 0x00 ∷ []; headed = (query_good came refl refl).headed; counted = refl; least = lit< tt; aligned = refl; layout = refl })
    (NothingUnread refl refl) refl)

pub executes_query : Steps waits Exec [] executed
executes_query = record {
  plugged = refl;
  leads = (DoesExecute 1 (codes "*IDN?") refl (record { standing = record at_power_on { unread = identity }; after = (identifies _, refl); is = refl }), refl);
}

pub request_good : (s : State) → s.side ≡ Idle → s.part ≡ [] → IsGood s request_text (Request 2 4000)
request_good s idle none = record {
  idle = idle;
  fine = record { long = lit≤ tt; known = refl; tagged = eqb-false _ _ refl; inverse = refl; counted = inr (eqb-false _ _ refl) };
  headed = record { reserved = 0; attributes = 0; ninth = 0; tenth = 0; eleventh = 0; tagged = (lit< tt, lit< tt); counted = (lit< tt, lit< tt); accepted = tt; layout = refl };
  suits = none;
}

pub some_identity : identity ≢ []
some_identity e = cc

pub takes_request : Steps executed (Take 1) (answered request_submit success 12 [] ∷ []) requested
takes_request =
    takes_whole executed requested (arrived request_submit request_text) [] (Request 2 4000)
    (record { plugged = refl; none_waits = refl; none_runs = refl; first = refl; good = request_good executed refl refl; some = eqb-false _ _ refl; one = refl; moves = DoesMove refl refl; fits = refl; full = refl })
    (Requests 2 4000 refl some_identity refl)

pub begins_response : Steps requested (Begin 19) [] sends
unfolding in_header_bytes
begins_response = record {
  plugged = refl;
  leads = (DoesBegin 2 4000 refl tt (lit≤ tt) (lit≤ tt) (record { standing = at_power_on; after = refl; is = refl }), refl);
}

pub fills_response : Steps sends (Fill 1) (answered response_submit success 32 response_text ∷ []) done
fills_response = record {
  plugged = refl;
  leads = Short (arrived response_submit []) [] (record { tag = 2; size = 19; left = response_text }) 0 refl refl tt refl (inl refl) (lit≤ tt) (lit< tt) (lit≤ tt) refl refl;
}

pub asks : Runs start asking requested
asks = (
  query_came,
  out_comes start 1 20 query_text (record { plugged = refl; free = refl; few = refl }) refl refl,
  (
    request_came,
    out_comes query_came 2 12 request_text (record { plugged = refl; free = refl; few = refl }) refl refl,
    (
      came,
      in_comes request_came 3 4096 (record { plugged = refl; free = refl; few = refl }) refl refl,
      (waits, takes_query, (executed, executes_query, (requested, takes_request, refl))),
    ),
  ),
)

pub answers : Runs requested answering done
answers = (sends, begins_response, (done, fills_response, refl))

-- The letters of a recovery: each is a submit with its answer (USBTMC 1.0, sections 4.2.1.2 to 4.2.1.7; USB 2.0, section
-- 9.4.1).
use Rattle.std.specs.Prelude.{ℕ, ◌==◌, ◌%◌, if◌then◌else◌}
use Rattle.tmc_wire.specs.declared.class_request.ClassRequest.{ClassRequest}
use Rattle.tmc_wire.specs.declared.class_request.ClassRequest.TheVariants as class
use Rattle.tmc_wire.specs.ClassStatus.{STATUS_SUCCESS, STATUS_PENDING, STATUS_FAILED}

-- what an answer says: success, pending without and with data to read, failed, or another status
pub data Says : Type 0 where
  Success : Says
  Pending : Says
  Queued : Says
  Failed : Says
  Otherwise : Says

-- how a Bulk-IN read ended: answered full, answered short, or with a nonzero status
pub data Ending : Type 0 where
  Full : Ending
  Short : Ending
  Faulty : Ending

-- the endpoints of the interface
pub data Endpoint : Type 0 where
  BulkIn : Endpoint
  Notify : Endpoint
  BulkOut : Endpoint

pub data Letter : Type 0 where
  -- a class request, and what its answer says
  Asked : (request : ClassRequest) (says : Says) → Letter
  -- CLEAR_FEATURE of ENDPOINT_HALT at this endpoint
  Cleared : (endpoint : Endpoint) → Letter
  -- a read
  Drained : (ending : Ending) → Letter

-- the submit of a letter, without its answer
pub data Submit : Type 0 where
  Ask : (request : ClassRequest) → Submit
  Clear : (endpoint : Endpoint) → Submit
  Read : Submit

abbrev pub submit_of : Letter → Submit
submit_of (Asked request says) = Ask request
submit_of (Cleared endpoint) = Clear endpoint
submit_of (Drained ending) = Read

-- Pending, by bit 0 of the second byte: data waits to be read. The check of an aborted message has no such bit, and an
-- INITIATE request has no pending answer.
abbrev pub pending_says : ClassRequest → (second : ℕ) → Says
pending_says class.CheckOut second = Pending
pending_says class.CheckIn second = if second % 2 == 1 then Queued else Pending
pending_says class.CheckClear second = if second % 2 == 1 then Queued else Pending
pending_says request second = Otherwise

-- what an answer says, by its status and its second byte
abbrev pub says_of : ClassRequest → (status second : ℕ) → Says
says_of request status second =
    if status == STATUS_SUCCESS then Success
    else if status == STATUS_PENDING then pending_says request second
    else if status == STATUS_FAILED then Failed
    else Otherwise

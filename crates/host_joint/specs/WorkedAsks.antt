-- example asks: the query `*IDN?`, the query `READ? 60` whose response takes two packets, and one that was never executed
use Rattle.std.specs.Prelude.{List, [], ◌∷◌, codes, true, false}
use Rattle.usbip_wire.specs.declared.submit.SubmitHead.{SubmitHead}
use Rattle.tmc_wire.specs.declared.header.OutHeader.TheVariants.{Message, Request}
use Rattle.tmc_law.specs.Endpoint.{Endpoint, Control, BulkOut, BulkIn, InterruptIn}
use Rattle.tmc_law.specs.WorkedQuery.{query_submit, request_submit, response_submit, query_text, request_text, response_text}
use Rattle.tmc_law.specs.WorkedRead.{read_submit, read_text}
use Rattle.host_joint.specs.Jobs.{Job}
use Rattle.host_joint.specs.Asking.{Ask}

-- the transfers of the queries, and that of a request
abbrev pub query_job : Job
query_job = record { head = query_submit; header = Message 1 5 true; message = codes "*IDN?"; bytes = query_text }

abbrev pub read_job : Job
read_job = record { head = read_submit; header = Message 1 8 true; message = codes "READ? 60"; bytes = read_text }

abbrev pub request_job : Job
request_job = record { head = request_submit; header = Request 2 4000; message = []; bytes = request_text }

-- a query, of which the message and a request of at most 4,000 bytes were written, and nothing was answered
abbrev pub query_ask : Ask
query_ask = record { last = 1; message = codes "*IDN?"; tag = 2; size = 4000; written = query_job ∷ request_job ∷ []; answered = 0; sofar = []; read = []; gone = false }

abbrev pub read_ask : Ask
read_ask = record { last = 1; message = codes "READ? 60"; tag = 2; size = 4000; written = read_job ∷ request_job ∷ []; answered = 0; sofar = []; read = []; gone = false }

-- its submits
abbrev pub query_asked : Endpoint → List SubmitHead
query_asked Control = []
query_asked BulkOut = query_submit ∷ request_submit ∷ []
query_asked BulkIn = response_submit ∷ []
query_asked InterruptIn = []

-- a host that takes the bytes of the query's response for those of a later ask, whose message no device executed
abbrev pub foreign_ask : Ask
foreign_ask = record { last = 4; message = codes "*IDN?"; tag = 2; size = 4000; written = []; answered = 0; sofar = []; read = response_text; gone = false }

-- each queue is a list of keys
use Rattle.std.specs.Prelude.{ℕ, List, []}
use Rattle.tmc_law.specs.Endpoint.{Endpoint, Control, BulkOut, BulkIn, InterruptIn}

pub record Keys : Type 0 where
  pub control : List ℕ
  pub bulk_out : List ℕ
  pub bulk_in : List ℕ
  pub interrupt_in : List ℕ

abbrev pub no_keys : Keys
no_keys = record { control = []; bulk_out = []; bulk_in = []; interrupt_in = [] }

abbrev pub keys_at : Endpoint → Keys → List ℕ
keys_at Control keys = keys.control
keys_at BulkOut keys = keys.bulk_out
keys_at BulkIn keys = keys.bulk_in
keys_at InterruptIn keys = keys.interrupt_in

abbrev pub with_keys : Endpoint → List ℕ → Keys → Keys
with_keys Control list keys = record keys { control = list }
with_keys BulkOut list keys = record keys { bulk_out = list }
with_keys BulkIn list keys = record keys { bulk_in = list }
with_keys InterruptIn list keys = record keys { interrupt_in = list }

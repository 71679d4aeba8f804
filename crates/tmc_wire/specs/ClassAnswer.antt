-- the layouts of answers to class requests: USBTMC 1.0 sections 4.2.1.2 to 4.2.1.9, USB488 1.0 sections 4.3.1 to 4.3.4
use Rattle.std.specs.Prelude.{◌≡◌, ℕ, ◌<◌, ◌^◌, List, [], ◌∷◌, ◌++◌, length}
use Rattle.std.specs.Int.{w32, to_le_bytes}
use Rattle.tmc_wire.specs.declared.class_request.ClassRequest.{ClassRequest}
use Rattle.tmc_wire.specs.declared.class_request.ClassRequest.TheVariants.{AbortOut, CheckOut, AbortIn, CheckIn, Clear, CheckClear, Capabilities, Pulse, ReadStatus, Ren, GoLocal, Lockout}
use Rattle.tmc_wire.specs.declared.class_answer.ClassAnswer.{ClassAnswer}

-- each layout begins the bytes, and what follows it may be anything

-- USBTMC_status
pub record IsStatusAlone (answer : ClassAnswer) (bytes : List ℕ) : Type 0 where
  pub more : List ℕ
  pub layout : bytes ≡ answer.status ∷ more
  pub no_second : answer.second ≡ 0
  pub no_bytes : answer.bytes ≡ 0

-- USBTMC_status and one byte more
pub record HasSecond (answer : ClassAnswer) (bytes : List ℕ) : Type 0 where
  pub more : List ℕ
  pub layout : bytes ≡ answer.status ∷ answer.second ∷ more
  pub no_bytes : answer.bytes ≡ 0

-- USBTMC_status, a byte, two reserved bytes, and a count of four bytes, the lowest first
pub record HasCount (answer : ClassAnswer) (bytes : List ℕ) : Type 0 where
  pub third : ℕ
  pub fourth : ℕ
  pub more : List ℕ
  pub fits : answer.bytes < 2 ^ 32
  pub layout : bytes ≡ answer.status ∷ answer.second ∷ third ∷ fourth ∷ [] ++ to_le_bytes w32 answer.bytes ++ more

-- USBTMC_status, a tag, and the status byte of IEEE 488
pub record HasStatusByte (answer : ClassAnswer) (bytes : List ℕ) : Type 0 where
  pub more : List ℕ
  pub layout : bytes ≡ answer.status ∷ answer.second ∷ answer.bytes ∷ more

-- USBTMC_status, a reserved byte, and 22 bytes that say what the device can do
pub record HasCapabilities (answer : ClassAnswer) (bytes : List ℕ) : Type 0 where
  pub capabilities : List ℕ
  pub more : List ℕ
  pub size : length capabilities ≡ 22
  pub layout : bytes ≡ answer.status ∷ answer.second ∷ [] ++ capabilities ++ more
  pub no_bytes : answer.bytes ≡ 0

-- the layout of each request's answer
abbrev pub IsAnswer : ClassRequest → ClassAnswer → List ℕ → Type 0
-- the second byte is bTag of the transfer that was in progress
IsAnswer (AbortOut tag) = HasSecond
-- the second byte is reserved, and the count is NBYTES_RXD
IsAnswer CheckOut = HasCount
IsAnswer (AbortIn tag) = HasSecond
-- the second byte is bmAbortBulkIn, and the count is NBYTES_TXD
IsAnswer CheckIn = HasCount
IsAnswer Clear = IsStatusAlone
-- the second byte is bmClear
IsAnswer CheckClear = HasSecond
IsAnswer Capabilities = HasCapabilities
IsAnswer Pulse = IsStatusAlone
-- the second byte is the request's tag
IsAnswer (ReadStatus tag) = HasStatusByte
IsAnswer (Ren on) = IsStatusAlone
IsAnswer GoLocal = IsStatusAlone
IsAnswer Lockout = IsStatusAlone

-- how many bytes the layout has
abbrev pub answer_length : ClassRequest → ℕ
answer_length (AbortOut tag) = 2
answer_length CheckOut = 8
answer_length (AbortIn tag) = 2
answer_length CheckIn = 8
answer_length Clear = 1
answer_length CheckClear = 2
answer_length Capabilities = 24
answer_length Pulse = 1
answer_length (ReadStatus tag) = 3
answer_length (Ren on) = 1
answer_length GoLocal = 1
answer_length Lockout = 1

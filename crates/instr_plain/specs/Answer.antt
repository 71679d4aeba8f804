-- the bytes of an answer
use Rattle.std.specs.Prelude.{ℕ, ◌+◌, ◌*◌, ◌%◌, Bool, true, false, List, ◌++◌, length, map, codes}
use Rattle.std.specs.List.{range_with_len}
use Rattle.std.specs.Fmt.{decimal}
use Rattle.instr_plain.specs.declared.answer.Answer.{Answer}
use Rattle.instr_plain.specs.declared.answer.Answer.TheVariants.{Identity, Number, Block}

-- so many samples: sample k, counted from 0
abbrev pub samples : (acquisitions conf size : ℕ) → List ℕ
samples acquisitions conf size = map (λ k. (31 * acquisitions + 7 * conf + k) % 251) (range_with_len 0 size)

-- ARBITRARY ASCII (8.7.11), NR1 NUMERIC (8.7.2) and DEFINITE LENGTH ARBITRARY BLOCK RESPONSE DATA (8.7.9): `#`, how
-- many digits the size has, the size and the samples
abbrev pub bytes_of : Answer → List ℕ
bytes_of Identity = codes "EXAMPLE,TMC1,0,1.0"
bytes_of (Number n) = decimal n
bytes_of (Block acquisitions conf size) =
    codes "#" ++ (decimal (length (decimal size)) ++ (decimal size ++ samples acquisitions conf size))

-- arbitrary ASCII ends only with the response, so no answer can stand behind it (8.7.11)
abbrev pub is_last : Answer → Bool
is_last Identity = true
is_last (Number n) = false
is_last (Block acquisitions conf size) = false

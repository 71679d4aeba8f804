-- program messages, and what they do
use Rattle.std.proofs.Common.{◌≡◌, ℕ, true, false, List, [], ◌∷◌, ◌++◌, pos, codes, decimal, inl, inr, refl, sym, ap, ◌∙◌, lit<, lit≤}
use Rattle.std.specs.List.{range_with_len}
use Rattle.std.proofs.lemmas.Fmt.{decimal_digit, decimal_step}
use Rattle.ieee_syntax.specs.declared.nrf.Nrf.{Nrf}
use Rattle.ieee_syntax.specs.Kind.{kinds, kind_of}
use Rattle.ieee_syntax.specs.Rounded.{rounded}
use Rattle.ieee_syntax.specs.Number.{IsNumber, unsigned}
use Rattle.ieee_syntax.specs.Program.{Program, IsUnit, letter}
use Rattle.instr_plain.specs.declared.plain.Plain.{Plain}
use Rattle.instr_plain.specs.declared.command.Command.TheVariants.{IdentificationQuery, ServiceEnable, ReadQuery}
use Rattle.instr_plain.specs.declared.answer.Answer.TheVariants.{Block}
use Rattle.instr_plain.specs.Answer.{bytes_of}
use Rattle.instr_plain.specs.Exec.{Exec, Progress, begun, answered, performed}
use Rattle.instr_plain.specs.Command.{unit_of}
use Rattle.instr_plain.specs.Standing.{power_on}
use Rattle.tmc_law.specs.WorkedQuery.{identity}
use Rattle.tmc_law.specs.WorkedRead.{block}
use Rattle.tmc_law.specs.WorkedParts.{spaced}

identification_unit : IsUnit (kinds (codes "*IDN?")) (unit_of IdentificationQuery)
unfolding kind_of
identification_unit = record {
  head = kinds (codes "*IDN");
  numbers = [];
  spelled = refl;
  named = record { star = true; first = 73; more = letter 68 ∷ letter 78 ∷ []; spelled = refl; few = lit< tt; named = refl };
  given = refl;
}

identification_program : Program (codes "*IDN?") (unit_of IdentificationQuery ∷ [])
unfolding kind_of
identification_program = record {
  text = kinds (codes "*IDN?");
  ended = false;
  spelled = refl;
  message = (0, 0, kinds (codes "*IDN?"), refl, identification_unit);
}

-- `*IDN?` changes nothing, and is answered
pub identifies : (state : Plain) → Exec state (codes "*IDN?") state identity
identifies state = inl (record {
  units = unit_of IdentificationQuery ∷ [];
  end = performed IdentificationQuery (begun state);
  program = identification_program;
  executes = inl (IdentificationQuery, refl, refl);
  leaves = refl;
  answers = refl;
})

-- a whole number of two digits
abbrev whole_number : ℕ → Nrf
whole_number n = record { negative = false; digits = n; exponent = pos 0 }

sixty : IsNumber (kinds (codes "60")) (whole_number 60)
unfolding kind_of
sixty = record {
  sign = unsigned;
  mantissa = kinds (codes "60");
  whole = 6 ∷ 0 ∷ [];
  fraction = [];
  exponent = [];
  power = pos 0;
  spelled = refl;
  mantissa_is = record { spelled = inr (refl, refl); some = lit< tt; few = lit≤ tt };
  exponent_is = inl (refl, refl);
  means = refl;
}

sixteen : IsNumber (kinds (codes "16")) (whole_number 16)
unfolding kind_of
sixteen = record {
  sign = unsigned;
  mantissa = kinds (codes "16");
  whole = 1 ∷ 6 ∷ [];
  fraction = [];
  exponent = [];
  power = pos 0;
  spelled = refl;
  mantissa_is = record { spelled = inr (refl, refl); some = lit< tt; few = lit≤ tt };
  exponent_is = inl (refl, refl);
  means = refl;
}

read_unit : IsUnit (kinds (codes "READ? 60")) (unit_of (ReadQuery (whole_number 60)))
unfolding kind_of
read_unit = record {
  head = kinds (codes "READ");
  numbers = kinds (codes " 60");
  spelled = refl;
  named = record { star = false; first = 82; more = letter 69 ∷ letter 65 ∷ letter 68 ∷ []; spelled = refl; few = lit< tt; named = refl };
  given = (1, kinds (codes "60"), lit< tt, refl, sixty);
}

read_program : Program (codes "READ? 60") (unit_of (ReadQuery (whole_number 60)) ∷ [])
unfolding kind_of
read_program = record {
  text = kinds (codes "READ? 60");
  ended = false;
  spelled = refl;
  message = (0, 0, kinds (codes "READ? 60"), refl, read_unit);
}

sixty_is : decimal 60 ≡ codes "60"
sixty_is = decimal_step 60 (lit≤ tt) (lit< tt) ∙ ap (λ (digits : List ℕ). digits ++ 48 ∷ []) (decimal_digit 6 (lit< tt))

block_is : bytes_of (Block 0 0 60) ≡ codes "#260" ++ range_with_len 0 60
block_is = rw (sixty_is, decimal_digit 2 (lit< tt)) refl

-- behind the one answer
abbrev read_progress : Progress
read_progress = record { state = power_on; answers = (codes "#260" ++ range_with_len 0 60) ∷ []; dropped = false; ended = false }

read_performed : performed (ReadQuery (whole_number 60)) (begun power_on) ≡ read_progress
unfolding rounded
read_performed = ap (λ (bytes : List ℕ). answered bytes (begun power_on)) block_is

-- `READ? 60` changes nothing, and is answered with a block
pub reads : Exec power_on (codes "READ? 60") power_on block
reads = inl (record {
  units = unit_of (ReadQuery (whole_number 60)) ∷ [];
  end = read_progress;
  program = read_program;
  executes = inl (ReadQuery (whole_number 60), refl, sym read_performed);
  leaves = refl;
  answers = refl;
})

enable_unit : IsUnit (kinds (codes "*SRE 16")) (unit_of (ServiceEnable (whole_number 16)))
unfolding kind_of
enable_unit = record {
  head = kinds (codes "*SRE");
  numbers = kinds (codes " 16");
  spelled = refl;
  named = record { star = true; first = 83; more = letter 82 ∷ letter 69 ∷ []; spelled = refl; few = lit< tt; named = refl };
  given = (1, kinds (codes "16"), lit< tt, refl, sixteen);
}

enable_program : Program (codes "*SRE 16;*IDN?") (unit_of (ServiceEnable (whole_number 16)) ∷ unit_of IdentificationQuery ∷ [])
unfolding kind_of
enable_program = record {
  text = kinds (codes "*SRE 16;*IDN?");
  ended = false;
  spelled = refl;
  message = (
    0,
    0,
    kinds (codes "*SRE 16;*IDN?"),
    refl,
    (kinds (codes "*SRE 16"), kinds (codes "*IDN?"), 0, 0, refl, enable_unit, identification_unit),
  );
}

-- MAV is enabled, and then there is a response
pub enables : Exec power_on (codes "*SRE 16;*IDN?") (record power_on { sre = 16 }) identity
unfolding rounded
enables = inl (record {
  units = unit_of (ServiceEnable (whole_number 16)) ∷ unit_of IdentificationQuery ∷ [];
  end = performed IdentificationQuery (performed (ServiceEnable (whole_number 16)) (begun power_on));
  program = enable_program;
  executes = inl (ServiceEnable (whole_number 16), refl, inl (IdentificationQuery, refl, refl));
  leaves = refl;
  answers = refl;
})

spaced_program : Program spaced (unit_of IdentificationQuery ∷ [])
unfolding kind_of
spaced_program = record {
  text = kinds spaced;
  ended = false;
  spelled = refl;
  message = (100, 0, kinds (codes "*IDN?"), refl, identification_unit);
}

-- spaces in front of `*IDN?` are passed over
pub identifies_behind_spaces : (state : Plain) → Exec state spaced state identity
identifies_behind_spaces state = inl (record {
  units = unit_of IdentificationQuery ∷ [];
  end = performed IdentificationQuery (begun state);
  program = spaced_program;
  executes = inl (IdentificationQuery, refl, refl);
  leaves = refl;
  answers = refl;
})

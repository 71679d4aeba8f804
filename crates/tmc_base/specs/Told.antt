-- what a link tells of its other end
use Rattle.std.specs.Prelude.{◌≡◌, ℕ, List, [], ◌∷◌, ◌++◌}
use Rattle.tmc_base.specs.declared.run_step.RunStep.{RunStep}

-- nothing, the bytes that were sent and taken, or these and the steps of its peer
pub data Told : Type 0 where
  Silent : Told
  Bytes : (sent taken : List ℕ) → Told
  Peer : (sent taken : List ℕ) (run : List RunStep) → Told

-- the bytes that a run took in, and those that it put out
abbrev pub in_bytes : List RunStep → List ℕ
in_bytes [] = []
in_bytes (step ∷ run) = step.took ++ in_bytes run

abbrev pub out_bytes : List RunStep → List ℕ
out_bytes [] = []
out_bytes (step ∷ run) = step.put ++ out_bytes run

-- the second list begins with the first
abbrev pub IsFront : List ℕ → List ℕ → Type 0
IsFront front all = (rest : List ℕ) × (all ≡ front ++ rest)

-- a run took in nothing that was not sent, and put out all that was taken
pub record Fits (sent taken : List ℕ) (run : List RunStep) : Type 0 where
  pub inputs : IsFront (in_bytes run) sent
  pub outputs : IsFront taken (out_bytes run)

-- these bytes went out, and the peer may have gone on: what was taken stays, and its run, where it is told, is only made longer
abbrev pub WentOut : List ℕ → Told → Told → Type 0
WentOut bytes Silent new = new ≡ Silent
WentOut bytes (Bytes sent taken) new = new ≡ Bytes (sent ++ bytes) taken
WentOut bytes (Peer sent taken run) new =
    (more : List RunStep) × (new ≡ Peer (sent ++ bytes) taken (run ++ more)) × Fits (sent ++ bytes) taken (run ++ more)

-- these bytes came in, and the peer may have gone on: what was sent stays, and its run, where it is told, is only made longer
abbrev pub CameIn : List ℕ → Told → Told → Type 0
CameIn bytes Silent new = new ≡ Silent
CameIn bytes (Bytes sent taken) new = new ≡ Bytes sent (taken ++ bytes)
CameIn bytes (Peer sent taken run) new =
    (more : List RunStep) × (new ≡ Peer sent (taken ++ bytes) (run ++ more)) × Fits sent (taken ++ bytes) (run ++ more)

-- by calls one behind the other these bytes went out and these came in
abbrev pub Exchanged : (out into : List ℕ) → Told → Told → Type 0
Exchanged out into Silent new = new ≡ Silent
Exchanged out into (Bytes sent taken) new = new ≡ Bytes (sent ++ out) (taken ++ into)
Exchanged out into (Peer sent taken run) new = (more : List RunStep) × (new ≡ Peer (sent ++ out) (taken ++ into) (run ++ more))

use Rattle.std.proofs.Common.{◌≡◌, ℕ, [], ◌∷◌, length, refl, ap, arith}
use Rattle.std.specs.Prelude.{true}
use Rattle.host_transfers.specs.Part.{transfer}
use Rattle.host_urbs.specs.Held.{Held}
use Rattle.tmc_wire.specs.declared.header.OutHeader.TheVariants.{Message}
use Rattle.tmc_wire.specs.Header as header
use Rattle.host_transfers.proofs.tests.transfers_with_their_tags.Goals as goal

twenty : (tag : ℕ) → length (transfer (Message tag 6 true) (42 ∷ 73 ∷ 68 ∷ 78 ∷ 63 ∷ 10 ∷ [])) ≡ 20
unfolding header.out_header_bytes
twenty tag = refl

pub submit_transfer-requires-clause-room : goal.submit_transfer-requires-clause-room
submit_transfer-requires-clause-room c = λ c'. omega (arith, ap (λ (held : Held). length held.outbox) c'.in_ok-urbs.ensures.begun, twenty c'.draw-tag.result)

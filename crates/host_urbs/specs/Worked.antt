-- a worked record: a submit for 4,096 bytes, its unlink, and the unlink's answer
use Rattle.std.specs.Prelude.{ℕ, neg_ℤ, pos, [], ◌∷◌, replicate}
use Rattle.host_urbs.specs.Record.{Past, Wrote, Took}
use Rattle.usbip_wire.specs.declared.urb.Dir.TheVariants.{In}
use Rattle.usbip_wire.specs.Down as down
use Rattle.usbip_wire.specs.Up as up

abbrev pub read : (number : ℕ) → up.Message
read number = up.Submit (record { seqnum = number; devid = 1; dir = In; ep = 2; length = 4096; setup = replicate 8 0 }) []

abbrev pub unlink : (number target : ℕ) → up.Message
unlink number target = up.Unlink (record { seqnum = number; devid = 1; target = target })

abbrev pub unlinked : Past
unlinked = Wrote (unlink 8 7) ∷ Wrote (read 7) ∷ []

-- status -104: the submit was taken back
abbrev pub answered : Past
answered = Took (down.RetUnlink (record { seqnum = 8; status = neg_ℤ (pos 104) })) ∷ unlinked

use Rattle.std.proofs.Common.{◌≡◌, [], ◌∷◌, ◌++◌, replicate, ap, ◌∙◌, arith}
use Rattle.std.proofs.lemmas.Int.{to_z-of_z}
use Rattle.std.specs.Int.{w32, cast_unsigned}
use Rattle.usbip_wire.proofs.Appends.{two_appended}
use Rattle.usbip_wire.specs.declared.urb.TheConstants.{RET_UNLINK}
use Rattle.usbip_wire.specs.Urb.{fields}
use Rattle.usbip_wire.specs.RetUnlink.{ret_unlink_bytes}
use Rattle.usbip_wire.proofs.ret_unlink.put_ret_unlink.Goals as goal

pub returns-clause-written : goal.returns-clause-written
unfolding ret_unlink_bytes
returns-clause-written c =
    let code : c.cast_unsigned.result ≡ cast_unsigned w32 c.args.head.status = grind (arith, to_z-of_z, c.cast_unsigned.ensures) in
    two_appended c.args.out.now.items (fields (RET_UNLINK ∷ c.args.head.seqnum ∷ 0 ∷ 0 ∷ 0 ∷ cast_unsigned w32 c.args.head.status ∷ [])) (replicate 24 0) _ _
    (c.put_fields.ensures.items ∙ ap (λ s. c.args.out.now.items ++ fields (RET_UNLINK ∷ c.args.head.seqnum ∷ 0 ∷ 0 ∷ 0 ∷ s ∷ [])) code)
    c.extend_reserved.ensures.items

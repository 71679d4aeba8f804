-- what bytes spell is a message that may come
use Rattle.std.proofs.Common.{ℕ, zero, suc, List, [], ◌∷◌, ◌++◌, subst, lit<}
use Rattle.usbip_wire.specs.declared.submit.SubmitHead.{SubmitHead}
use Rattle.usbip_wire.specs.declared.unlink.UnlinkHead.{UnlinkHead}
use Rattle.usbip_wire.specs.Given.{IsBytes}
use Rattle.usbip_wire.specs.Urb.{fields}
use Rattle.usbip_wire.specs.Submit.{submit_words, submit_bytes}
use Rattle.usbip_wire.specs.Up as up
use Rattle.tmc_law.specs.Queues.{IsSubmit, IsUnlink}
use Rattle.tmc_law.proofs.AnswerBytes.{each_wide}

bytes_front : (a b : List ℕ) → IsBytes (a ++ b) → IsBytes a
bytes_front [] b h i = lit< tt
bytes_front (byte ∷ a) b h zero = h zero
bytes_front (byte ∷ a) b h (suc i) = bytes_front a b (λ j. h (suc j)) i

bytes_behind : (a b : List ℕ) → IsBytes (a ++ b) → IsBytes b
bytes_behind [] b h = h
bytes_behind (byte ∷ a) b h = bytes_behind a b (λ j. h (suc j))

pub submit_comes : (devid : ℕ) (head : SubmitHead) (transferred bytes : List ℕ) → IsBytes bytes → up.Spells devid (up.Submit head transferred) bytes
    → IsSubmit head transferred
unfolding submit_bytes
submit_comes devid head transferred bytes are spelled =
    let behind : IsBytes (head.setup ++ transferred) =
    bytes_behind (fields (submit_words head spelled.rest)) (head.setup ++ transferred) (subst (λ (l : List ℕ). IsBytes l) spelled.layout are) in
    record {
      wide = each_wide (head.seqnum ∷ head.devid ∷ head.ep ∷ head.length ∷ []) (spelled.wide 1, (spelled.wide 2, (spelled.wide 4, (spelled.wide 6, tt))));
      eight = spelled.setup;
      setup = bytes_front head.setup transferred behind;
      carried = spelled.carried;
      bytes = bytes_behind head.setup transferred behind;
    }

pub unlink_comes : (devid : ℕ) (head : UnlinkHead) (bytes : List ℕ) → up.Spells devid (up.Unlink head) bytes → IsUnlink head
unlink_comes devid head bytes spelled =
    each_wide (head.seqnum ∷ head.devid ∷ head.target ∷ []) (spelled.wide 1, (spelled.wide 2, (spelled.wide 5, tt)))

-- a submit is answered with a status from which the hub does not recover
use Rattle.std.proofs.Common.{◌≡◌, ℕ, List, ◌∷◌, Some, None}
use Rattle.usbip_wire.specs.declared.ret_submit.RetSubmitHead.{RetSubmitHead}
use Rattle.usbip_wire.specs.Down as down
use Rattle.host_hub.specs.declared.outcome.End.{End}
use Rattle.host_hub.specs.declared.outcome.Outcome.{Outcome}
use Rattle.host_hub.specs.Order.{Order, Setting}
use Rattle.host_hub.specs.Record.{Past, Settled, Stopped, Took}
use Rattle.host_hub.specs.Hand.{ended}
use Rattle.host_hub.specs.Book.{live}
use Rattle.host_hub.specs.Made.{made_at}
use Rattle.host_hub.specs.Ends.{end_due}
use Rattle.host_hub.specs.Law.{ByItself, Kept}
use Rattle.host_hub.specs.Steps.{Comes, settle_all, took}
use Rattle.host_hub.proofs.Endings.{stopped_kept}
use Rattle.host_hub.proofs.Stepping.{settles_lawful, settles_settled}

pub failed_kept : (s : Setting) (past : Past) (t n : ℕ) (k : Order) (o : Outcome) (head : RetSubmitHead) (bytes : List ℕ) (e : End) → Kept s past → ended past ≡ None
    → Comes s past t n k head bytes → made_at s t past (Took (down.RetSubmit head bytes)) ≡ Some o → end_due (took past head bytes) ≡ Some e
    → Kept s (settle_all e (live (Settled t o ∷ took past head bytes)) (Stopped e ∷ Settled t o ∷ took past head bytes))
failed_kept s past t n k o head bytes e kept running comes made due =
    stopped_kept s (Settled t o ∷ took past head bytes) e (settles_lawful s past t n k o head bytes kept running comes made) running
    (ByItself due (settles_settled s past t n k o head bytes kept comes))

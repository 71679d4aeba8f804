-- orders and their messages
use Rattle.std.proofs.Common.{◌≡◌, ℕ, refl}
use Rattle.host_hub.specs.Order.{Order, Unlink, Setting, message_of}
use Rattle.host_urbs.specs.Unanswered.{seqnum_of}

pub numbered : (s : Setting) (n : ℕ) (order : Order) → seqnum_of (message_of s n order) ≡ n
numbered s n (Unlink target) = refl
numbered s n order = refl

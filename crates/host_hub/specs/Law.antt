-- the laws of a hub: what may happen behind a past, and that between its calls nothing is owed
use Rattle.std.specs.Prelude.{◌≡◌, ◌≢◌, ℕ, ◌<◌, true, false, Option, Some, None, List, [], ◌∷◌, is_some}
use Rattle.std.specs.Bool.{MatchBool}
use Rattle.tmc_base.specs.declared.field.Field.{Field}
use Rattle.host_urbs.specs.declared.limits.TheConstants.{LAST_SUBMIT}
use Rattle.host_urbs.specs.Law.{MayWrite, MayTake}
use Rattle.host_hub.specs.declared.outcome.End.{End}
use Rattle.host_hub.specs.declared.outcome.End.TheVariants as end
use Rattle.host_hub.specs.Order.{Order, Unlink, Setting, message_of, is_unlink}
use Rattle.host_hub.specs.Record.{Happening, Past, Wrote, Took, Fell, Stopped, Asked, Cancelled, Cleared, GaveUp, Settled, Recovers, Owner, Of, Recovery, next}
use Rattle.host_hub.specs.Crossings.{crossings}
use Rattle.host_hub.specs.Hand.{is_begun, in_hand, ended}
use Rattle.host_hub.specs.Outstanding.{outstanding, busy}
use Rattle.host_hub.specs.Book.{BookLaw, active, asking_of, is_live}
use Rattle.host_hub.specs.Pieces.{pieces}
use Rattle.host_hub.specs.Status.{awaits}
use Rattle.host_hub.specs.Causes.{SettleLaw, AreSettled, reached}
use Rattle.host_hub.specs.Unlinks.{unlinks_due}
use Rattle.host_hub.specs.Plan.{planned, When}
use Rattle.host_hub.specs.Recovery.{IsWhole, AreRecovered, MayCome, wanted}
use Rattle.host_hub.specs.Ends.{ends_by, end_due}

-- ---- what is due

-- a ticket begins: no other message is unanswered, and the recoveries are over
abbrev pub Begins : Past → Type 0
Begins past = (busy (outstanding past) ≡ []) × AreRecovered past

-- a submit of a ticket is due: it is the next of the plan of the active ticket, which was not stopped
pub record Planned (s : Setting) (past : Past) (t : ℕ) (order : Order) : Type 0 where
  pub turn : active past ≡ Some t
  pub free : is_some (reached t past) ≡ false
  pub when : MatchBool (is_begun t past) (When s (pieces t past) (awaits t past) order) (Begins past)
  pub plan : planned s t (asking_of t past) past ≡ Some order

-- a submit of a recovery is due: it is the next of its word, and no other message is unanswered
pub record Recovering (past : Past) (order : Order) : Type 0 where
  pub free : busy (outstanding past) ≡ []
  pub next : MayCome past order

-- An unlink is due for the first of the submits that are to be unlinked, and a submit where none of these is left.
abbrev pub WriteLaw : Setting → Past → Owner → Order → Type 0
WriteLaw s past (Of t) (Unlink target) = (in_hand past ≡ Some t) × (rest : List ℕ) × (unlinks_due s (ended past) past ≡ target ∷ rest)
WriteLaw s past Recovery (Unlink target) = ⊥
WriteLaw s past (Of t) order = Planned s past t order × (unlinks_due s (ended past) past ≡ [])
WriteLaw s past Recovery order = Recovering past order

-- a recovery begins: the ticket in hand is settled, no other message is unanswered, and the one before is over
abbrev pub IsHandOver : Option ℕ → Past → Type 0
IsHandOver None past = Unit {0}
IsHandOver (Some t) past = is_live t past ≡ false

pub record MayRecover (past : Past) : Type 0 where
  pub hand : IsHandOver (in_hand past) past
  pub free : busy (outstanding past) ≡ []
  pub whole : IsWhole past
  pub need : is_some (wanted past) ≡ true

-- ---- nothing is owed

-- what a hub waits for: the active ticket for its own submits, or, before it begins, for those of others
abbrev pub WaitsFor : Option ℕ → Past → Type 0
WaitsFor None past = Unit {0}
WaitsFor (Some t) past = MatchBool (is_begun t past) (awaits t past ≢ []) (busy (outstanding past) ≢ [])

abbrev pub WaitsIn : Option End → Past → Type 0
WaitsIn (Some e) past = Unit {0}
WaitsIn None past = WaitsFor (active past) past × (busy (outstanding past) ≡ [] → AreRecovered past)

abbrev pub Waits : Past → Type 0
Waits past = WaitsIn (ended past) past

-- No cause is unsettled, and no unlink is due. While the hub runs, no submit of a ticket is due, something is waited for,
-- and it has not to end.
pub record Quiet (s : Setting) (past : Past) : Type 0 where
  pub settled : AreSettled s past
  pub unlinked : unlinks_due s (ended past) past ≡ []
  pub written : ended past ≡ None → (t : ℕ) (order : Order) → Planned s past t order → ⊥
  pub waits : Waits past
  pub over : ended past ≡ None → end_due past ≡ None

-- the hub runs, and owes nothing
pub record Runs (s : Setting) (past : Past) : Type 0 where
  pub running : ended past ≡ None
  pub quiet : Quiet s past

-- ---- what may happen

-- the hub works: it runs, it has not to end, and every ticket that has a cause is settled
pub record Works (s : Setting) (past : Past) : Type 0 where
  pub running : ended past ≡ None
  pub free : end_due past ≡ None
  pub settled : AreSettled s past

-- a submit is due, and there is no number for it
pub record IsDue (s : Setting) (past : Past) : Type 0 where
  pub owner : Owner
  pub order : Order
  pub submit : is_unlink order ≡ false
  pub works : Works s past
  pub law : WriteLaw s past owner order
  pub none_left : LAST_SUBMIT < next s.first past

-- Why a hub ends otherwise than by an answer. That the link failed or closed, or that its bytes are refused, shows there.
pub data StopLaw (s : Setting) (past : Past) (e : End) : Type 0 where
  ByFault : e ≡ end.LinkFault → Quiet s past → StopLaw s past e
  ByClosing : e ≡ end.Unplugged → Quiet s past → StopLaw s past e
  ByBytes : (f : Field) → e ≡ end.PeerFault f → Quiet s past → StopLaw s past e
  ByItself : end_due past ≡ Some e → AreSettled s past → StopLaw s past e
  ByNumbers : e ≡ end.Exhausted → IsDue s past → StopLaw s past e

-- What comes, an answer or an entry of the book, comes where nothing is owed, and what is owed is done by its law.
abbrev pub Allowed : Setting → Past → Happening → Type 0
Allowed s past (Wrote number owner order) =
    Works s past × MayWrite s.first (crossings s past) (message_of s number order) × WriteLaw s past owner order
Allowed s past Recovers = Works s past × MayRecover past
Allowed s past (Took answer) = Runs s past × MayTake (crossings s past) answer × (ends_by s past answer ≡ None)
Allowed s past (Fell answer e) = Runs s past × MayTake (crossings s past) answer × (ends_by s past answer ≡ Some e)
Allowed s past (Stopped e) = (ended past ≡ None) × StopLaw s past e
Allowed s past (Settled t outcome) = BookLaw past (Settled t outcome) × SettleLaw s past t outcome
Allowed s past (Asked t asking) = Runs s past × BookLaw past (Asked t asking)
Allowed s past (Cancelled t) = Runs s past × BookLaw past (Cancelled t)
Allowed s past (Cleared session) = Runs s past × BookLaw past (Cleared session)
Allowed s past GaveUp = Runs s past × BookLaw past GaveUp

-- each happening was allowed
abbrev pub Lawful : Setting → Past → Type 0
Lawful s [] = Unit {0}
Lawful s (x ∷ past) = Lawful s past × Allowed s past x

-- what each call of a hub keeps
pub record Kept (s : Setting) (past : Past) : Type 0 where
  pub lawful : Lawful s past
  pub quiet : Quiet s past

use Rattle.std.proofs.Common.{◌≡◌, inl, inr, ℕ, ◌++◌, ◌∷◌, [], List, take, refl, subst, ◌∙◌}
use Rattle.usbip_wire.specs.declared.dirs.Outstanding.{Outstanding}
use Rattle.usbip_wire.specs.declared.down.Down.{Down}
use Rattle.usbip_wire.specs.declared.down.Down.TheVariants as down
use Rattle.usbip_wire.specs.declared.down.DownPhase.TheVariants.{Ops}
use Rattle.usbip_wire.specs.DownFed.{Fed, Answers}
use Rattle.host_urbs.specs.Attach.{Importing, Undecided, IsList}
use Rattle.host_urbs.specs.Attaching.{holding}
use Rattle.host_urbs.proofs.Basics.{clash}
use Rattle.host_urbs.proofs.Hearing.{fed_answers, whole_with, front_more, undecided_import, hears_imported, other_is_list}
use Rattle.host_urbs.proofs.replies.hear_import.Goals as goal
use Rattle.host_urbs.proofs.replies.hear_import.Goals.{After-feed}

answers : (c : After-feed) (bytes : List ℕ) (what : Down) → c.args.reader.now ≡ holding (Ops 0 0) bytes → Undecided Importing bytes → c.feed.result.what ≡ what
    → Answers (Ops 0 0) [] bytes (c.args.byte ∷ []) c.feed.result.used what c.feed.new.self
answers c bytes what e u is =
    fed_answers (Ops 0 0) [] bytes c.args.byte c.args.reader.now c.feed.result c.feed.new.self what e u.none_whole
    (subst (λ (d : List Outstanding). Fed c.args.reader.now d (c.args.byte ∷ []) c.feed.result c.feed.new.self) c.new.ensures c.feed.ensures) is

no_list : (c : After-feed) (bytes : List ℕ) → c.args.front.now ≡ take 4 bytes → IsList (bytes ++ c.args.byte ∷ []) → ⊥
no_list c bytes f l = clash (c.if-is_list.ensures.1 (c.note.ensures ∙ (front_more bytes c.args.byte c.args.front.now f ∙ l)))

pub returns-in-More : goal.returns-in-More
returns-in-More c = λ bytes e f u.
    let a = answers (goal.at.returns-in-More c).After-feed bytes down.More e u c.in-More.is in (
      undecided_import (bytes ++ c.args.byte ∷ []) a.1 a.2 (no_list (goal.at.returns-in-More c).After-feed bytes f),
      a.3,
      c.note.ensures ∙ front_more bytes c.args.byte c.args.front.now f,
    )

pub returns-in-Import : goal.returns-in-Import
returns-in-Import c = λ bytes e f u.
    let a = answers (goal.at.returns-in-Import c).After-feed bytes (down.Import c.in-Import.status c.in-Import.device) e u c.in-Import.is in
    let m = whole_with (Ops 0 0) [] bytes c.args.byte c.feed.result.used (down.Import c.in-Import.status c.in-Import.device) u.none_whole a.0 a.1 in
    hears_imported (bytes ++ c.args.byte ∷ []) c.in-Import.status c.in-Import.device c.imported.result c.feed.new.self c.note.new.self c.imported.ensures m.2

pub returns-in-Bad : goal.returns-in-Bad
returns-in-Bad c = λ bytes e f u. inl (answers (goal.at.returns-in-Bad c).After-feed bytes (down.Bad c.in-Bad.field) e u c.in-Bad.is).2

pub returns-in_default : goal.returns-in_default
returns-in_default c = λ bytes e f u.
    let a = answers (goal.at.returns-in_default c).After-feed bytes c.feed.result.what e u refl in
    inr (other_is_list bytes c.args.byte c.feed.result.used c.feed.result.what c.feed.new.self c.in_default.not-More c.in_default.not-Import c.in_default.not-Bad u.none_whole a, refl)

use Rattle.std.proofs.Common.{◌≡◌, ℕ, ◌∷◌, [], List, refl, sym, subst}
use Rattle.usbip_wire.specs.declared.dirs.Outstanding.{Outstanding}
use Rattle.usbip_wire.specs.declared.down.Down.{Down}
use Rattle.usbip_wire.specs.declared.down.Down.TheVariants as down
use Rattle.usbip_wire.specs.declared.down.DownPhase.{DownPhase}
use Rattle.usbip_wire.specs.declared.down.DownPhase.TheVariants.{Urbs}
use Rattle.usbip_wire.specs.DownFed.{Fed, Answers, NoneWhole}
use Rattle.host_urbs.specs.Attach.{Stage, phase_of, entries_at, Undecided}
use Rattle.host_urbs.specs.Attaching.{holding}
use Rattle.host_urbs.proofs.Hearing.{fed_answers, hears_whole, hears_bad, hears_more}
use Rattle.host_urbs.proofs.replies.hear_answer.Goals as goal
use Rattle.host_urbs.proofs.replies.hear_answer.Goals.{After-feed}

none : (stage : Stage) (bytes : List ℕ) → phase_of stage ≡ Urbs → Undecided stage bytes → NoneWhole Urbs (entries_at stage) bytes
none stage bytes p u = subst (λ (q : DownPhase). NoneWhole q (entries_at stage) bytes) p u.none_whole

answers : (c : After-feed) (stage : Stage) (bytes : List ℕ) (what : Down) → phase_of stage ≡ Urbs → entries_at stage ≡ c.args.dirs.now → c.args.reader.now ≡ holding Urbs bytes
    → Undecided stage bytes → c.feed.result.what ≡ what → Answers Urbs (entries_at stage) bytes (c.args.byte ∷ []) c.feed.result.used what c.feed.new.self
answers c stage bytes what p d e u is =
    fed_answers Urbs (entries_at stage) bytes c.args.byte c.args.reader.now c.feed.result c.feed.new.self what e (none stage bytes p u)
    (subst (λ (l : List Outstanding). Fed c.args.reader.now l (c.args.byte ∷ []) c.feed.result c.feed.new.self) (sym d) c.feed.ensures) is

pub returns-in-RetSubmit-clause-hears : goal.returns-in-RetSubmit-clause-hears
returns-in-RetSubmit-clause-hears c = λ stage bytes p d e u.
    hears_whole stage bytes c.args.byte c.feed.result.used c.feed.new.self p (none stage bytes p u) c.in-RetSubmit.head
    (answers (goal.at.returns-in-RetSubmit-clause-hears c).After-feed stage bytes (down.RetSubmit c.in-RetSubmit.head) p d e u c.in-RetSubmit.is)

pub returns-in-Bad-clause-hears : goal.returns-in-Bad-clause-hears
returns-in-Bad-clause-hears c = λ stage bytes p d e u.
    hears_bad stage bytes c.args.byte c.feed.result.used c.feed.new.self p (none stage bytes p u) c.in-Bad.field
    (answers (goal.at.returns-in-Bad-clause-hears c).After-feed stage bytes (down.Bad c.in-Bad.field) p d e u c.in-Bad.is)

pub returns-in_default-clause-hears : goal.returns-in_default-clause-hears
returns-in_default-clause-hears c = λ stage bytes p d e u.
    hears_more stage bytes c.args.byte c.feed.result.used c.feed.new.self p (none stage bytes p u) c.feed.result.what c.in_default.not-RetSubmit c.in_default.not-Bad
    (answers (goal.at.returns-in_default-clause-hears c).After-feed stage bytes c.feed.result.what p d e u refl)

use Rattle.std.proofs.Common.{◌≡◌, ℕ, ◌++◌, ◌∷◌, [], List, refl, sym, subst, ◌∙◌, ap, arith}
use Rattle.std.proofs.lemmas.Result.{err_from_is_err_and}
use Rattle.usbip_wire.specs.declared.down.DownPhase.TheVariants.{Urbs}
use Rattle.usbip_wire.specs.DownFed.{Held}
use Rattle.host_urbs.specs.Attach.{At, Stage, phase_of, entries_at, Path, Undecided, Refused}
use Rattle.host_urbs.specs.Attaching.{holding}
use Rattle.host_urbs.proofs.Attachment.{taking, begin_taking, taken_next, joined_stop}
use Rattle.host_urbs.proofs.Hearing.{undecided_start}
use Rattle.host_urbs.proofs.replies.take_answer.Goals as goal

none : (held : Held) → held ≡ holding Urbs [] → held.rest ≡ []
none held e = ap (λ (h : Held). h.rest) e

pub bytes-init : goal.bytes-init
bytes-init g c =
    let e = none c.args.reader.now c.requires in
    record {
      path = λ turns busid s ep ed eu er count. (taking s c.args.reader.now.rest s.calls, begin_taking g.L.Link.told g.L.Link.counts g.L.Link.sends g.L.Link.polls turns busid s c.args.link.now c.args.reader.now.rest er e, count, refl);
      reader = λ stage ep ed. c.requires ∙ ap (λ (r : List ℕ). holding Urbs r) (sym e);
      undecided = λ stage ep ed. subst (λ (r : List ℕ). Undecided stage r) (sym e) (undecided_start stage);
    }

pub returns-in_err-byte-clause-goes : goal.returns-in_err-byte-clause-goes
returns-in_err-byte-clause-goes g c = let q = err_from_is_err_and c.from_residual.result c.from_residual.ensures.1 in rw (q.1, q.2) (λ turns busid s ep ed eu er count.
    let p = c.bytes.invariant.path turns busid s ep ed eu er count in
    let path = subst (λ (t : At). Path g.L.Link.told g.L.Link.counts g.L.Link.sends g.L.Link.polls busid s c.args.link.now t c.bytes.link) p.3 p.1 in
    let u : Undecided s.stage c.bytes.reader.rest = c.bytes.invariant.undecided s.stage ep ed in
    joined_stop g.L.Link.told g.L.Link.counts g.L.Link.sends g.L.Link.polls turns busid s c.args.link.now (taking s c.bytes.reader.rest p.0.calls) c.bytes.link c.take_byte.new.link c.in_err-byte.field-0.0 path
    (c.in_err-byte.ensures.goes turns busid (taking s c.bytes.reader.rest p.0.calls) eu u p.2))

pub bytes-preserved : goal.bytes-preserved
bytes-preserved g c =
    let heard = λ (stage : Stage) (ep : phase_of stage ≡ Urbs) (ed : entries_at stage ≡ c.args.dirs.now). c.in-More.ensures.hears stage c.bytes.reader.rest ep ed (c.bytes.invariant.reader stage ep ed) (c.bytes.invariant.undecided stage ep ed) in
    let longer = λ (stage : Stage) (ep : phase_of stage ≡ Urbs) (ed : entries_at stage ≡ c.args.dirs.now). ap (λ (x : Held). x.rest) (heard stage ep ed).1 in
    record {
      path = λ turns busid s ep ed eu er count.
          let p = c.bytes.invariant.path turns busid s ep ed eu er count in
          let path = subst (λ (t : At). Path g.L.Link.told g.L.Link.counts g.L.Link.sends g.L.Link.polls busid s c.args.link.now t c.bytes.link) p.3 p.1 in
          let n = taken_next g.L.Link.told g.L.Link.counts g.L.Link.sends g.L.Link.polls turns busid s c.args.link.now c.bytes.reader.rest c.in_ok-byte.byte p.0.calls c.take_byte.new.left c.bytes.link c.take_byte.new.link path
          (c.in_ok-byte.ensures.goes turns busid (taking s c.bytes.reader.rest p.0.calls) eu (c.bytes.invariant.undecided s.stage ep ed) p.2) in (
            taking s c.hear_answer.new.reader.rest n.0,
            subst (λ (r : List ℕ). Path g.L.Link.told g.L.Link.counts g.L.Link.sends g.L.Link.polls busid s c.args.link.now (taking s r n.0) c.take_byte.new.link) (sym (longer s.stage ep ed)) n.1,
            n.2,
            refl,
          );
      reader = λ stage ep ed. (heard stage ep ed).1 ∙ ap (λ (r : List ℕ). holding Urbs r) (sym (longer stage ep ed));
      undecided = λ stage ep ed. subst (λ (r : List ℕ). Undecided stage r) (sym (longer stage ep ed)) (heard stage ep ed).0;
    }

pub returns-in-Whole-clause-goes : goal.returns-in-Whole-clause-goes
returns-in-Whole-clause-goes g c = λ turns busid s ep ed eu er count.
    let p = c.bytes.invariant.path turns busid s ep ed eu er count in
    let path = subst (λ (t : At). Path g.L.Link.told g.L.Link.counts g.L.Link.sends g.L.Link.polls busid s c.args.link.now t c.bytes.link) p.3 p.1 in
    let u : Undecided s.stage c.bytes.reader.rest = c.bytes.invariant.undecided s.stage ep ed in
    let n = taken_next g.L.Link.told g.L.Link.counts g.L.Link.sends g.L.Link.polls turns busid s c.args.link.now c.bytes.reader.rest c.in_ok-byte.byte p.0.calls c.take_byte.new.left c.bytes.link c.take_byte.new.link path
    (c.in_ok-byte.ensures.goes turns busid (taking s c.bytes.reader.rest p.0.calls) eu u p.2) in
    let h = c.in-Whole.ensures.hears s.stage c.bytes.reader.rest ep ed (c.bytes.invariant.reader s.stage ep ed) u in
    (taking s (c.bytes.reader.rest ++ c.in_ok-byte.byte ∷ []) n.0, n.1, n.2, (refl, h.0, h.1))

pub returns-in-Bad-clause-goes : goal.returns-in-Bad-clause-goes
returns-in-Bad-clause-goes g c = λ turns busid s ep ed eu er count.
    let p = c.bytes.invariant.path turns busid s ep ed eu er count in
    let path = subst (λ (t : At). Path g.L.Link.told g.L.Link.counts g.L.Link.sends g.L.Link.polls busid s c.args.link.now t c.bytes.link) p.3 p.1 in
    let u : Undecided s.stage c.bytes.reader.rest = c.bytes.invariant.undecided s.stage ep ed in
    let n = taken_next g.L.Link.told g.L.Link.counts g.L.Link.sends g.L.Link.polls turns busid s c.args.link.now c.bytes.reader.rest c.in_ok-byte.byte p.0.calls c.take_byte.new.left c.bytes.link c.take_byte.new.link path
    (c.in_ok-byte.ensures.goes turns busid (taking s c.bytes.reader.rest p.0.calls) eu u p.2) in
    record { at = taking s (c.bytes.reader.rest ++ c.in_ok-byte.byte ∷ []) n.0; mid = c.take_byte.new.link; path = n.1; calls = omega (arith, n.2); last = Refused c.in-Bad.field eu (c.in-Bad.ensures.hears s.stage c.bytes.reader.rest ep ed (c.bytes.invariant.reader s.stage ep ed) u) refl refl }

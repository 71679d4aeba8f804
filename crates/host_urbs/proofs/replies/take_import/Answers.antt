use Rattle.std.proofs.Common.{◌≡◌, ℕ, ◌++◌, ◌∷◌, [], List, take, refl, sym, subst, ◌∙◌, ap, arith}
use Rattle.std.proofs.lemmas.Result.{err_from_is_err_and}
use Rattle.usbip_wire.specs.declared.down.DownPhase.TheVariants.{Ops}
use Rattle.usbip_wire.specs.DownFed.{Held}
use Rattle.host_urbs.specs.Attach.{At, Stage, Importing, Path, Undecided, IsBad, Refused, NoDevice}
use Rattle.host_urbs.specs.Attaching.{holding}
use Rattle.host_urbs.proofs.Attachment.{taking, begin_taking, taken_next, joined_stop}
use Rattle.host_urbs.proofs.Hearing.{undecided_start}
use Rattle.host_urbs.proofs.replies.take_import.Goals as goal

none : (held : Held) → held ≡ holding (Ops 0 0) [] → held.rest ≡ []
none held e = ap (λ (h : Held). h.rest) e

pub bytes-init : goal.bytes-init
bytes-init g c =
    let e = none c.args.reader.now c.requires in
    record {
      path = λ turns busid s es eu er count. (taking s c.args.reader.now.rest s.calls, begin_taking g.L.Link.told g.L.Link.counts g.L.Link.sends g.L.Link.polls turns busid s c.args.link.now c.args.reader.now.rest er e, count, refl);
      reader = c.requires ∙ ap (λ (r : List ℕ). holding (Ops 0 0) r) (sym e);
      front = c.new-front.ensures ∙ ap (λ (r : List ℕ). take 4 r) (sym e);
      undecided = subst (λ (r : List ℕ). Undecided Importing r) (sym e) (undecided_start Importing);
    }

pub returns-in_err-byte : goal.returns-in_err-byte
returns-in_err-byte g c = let q = err_from_is_err_and c.from_residual.result c.from_residual.ensures.1 in rw (q.1, q.2) (record {
  goes = λ turns busid s es eu er count.
      let p = c.bytes.invariant.path turns busid s es eu er count in
      let path = subst (λ (t : At). Path g.L.Link.told g.L.Link.counts g.L.Link.sends g.L.Link.polls busid s c.args.link.now t c.bytes.link) p.3 p.1 in
      let u : Undecided s.stage c.bytes.reader.rest = subst (λ (x : Stage). Undecided x c.bytes.reader.rest) (sym es) c.bytes.invariant.undecided in
      joined_stop g.L.Link.told g.L.Link.counts g.L.Link.sends g.L.Link.polls turns busid s c.args.link.now (taking s c.bytes.reader.rest p.0.calls) c.bytes.link c.take_byte.new.link c.in_err-byte.field-0.0 path
      (c.in_err-byte.ensures.goes turns busid (taking s c.bytes.reader.rest p.0.calls) eu u p.2);
})

pub bytes-preserved : goal.bytes-preserved
bytes-preserved g c =
    let h = c.in-More.ensures c.bytes.reader.rest c.bytes.invariant.reader c.bytes.invariant.front c.bytes.invariant.undecided in
    let e : c.hear_import.new.reader.rest ≡ c.bytes.reader.rest ++ c.in_ok-byte.byte ∷ [] = ap (λ (x : Held). x.rest) h.1 in
    record {
      path = λ turns busid s es eu er count.
          let p = c.bytes.invariant.path turns busid s es eu er count in
          let path = subst (λ (t : At). Path g.L.Link.told g.L.Link.counts g.L.Link.sends g.L.Link.polls busid s c.args.link.now t c.bytes.link) p.3 p.1 in
          let u : Undecided s.stage c.bytes.reader.rest = subst (λ (x : Stage). Undecided x c.bytes.reader.rest) (sym es) c.bytes.invariant.undecided in
          let n = taken_next g.L.Link.told g.L.Link.counts g.L.Link.sends g.L.Link.polls turns busid s c.args.link.now c.bytes.reader.rest c.in_ok-byte.byte p.0.calls c.take_byte.new.left c.bytes.link c.take_byte.new.link path
          (c.in_ok-byte.ensures.goes turns busid (taking s c.bytes.reader.rest p.0.calls) eu u p.2) in
          (taking s c.hear_import.new.reader.rest n.0, subst (λ (r : List ℕ). Path g.L.Link.told g.L.Link.counts g.L.Link.sends g.L.Link.polls busid s c.args.link.now (taking s r n.0) c.take_byte.new.link) (sym e) n.1, n.2, refl);
      reader = h.1 ∙ ap (λ (r : List ℕ). holding (Ops 0 0) r) (sym e);
      front = h.2 ∙ ap (λ (r : List ℕ). take 4 r) (sym e);
      undecided = subst (λ (r : List ℕ). Undecided Importing r) (sym e) h.0;
    }

pub returns-in-Device : goal.returns-in-Device
returns-in-Device g c = record {
  goes = λ turns busid s es eu er count.
      let p = c.bytes.invariant.path turns busid s es eu er count in
      let path = subst (λ (t : At). Path g.L.Link.told g.L.Link.counts g.L.Link.sends g.L.Link.polls busid s c.args.link.now t c.bytes.link) p.3 p.1 in
      let u : Undecided s.stage c.bytes.reader.rest = subst (λ (x : Stage). Undecided x c.bytes.reader.rest) (sym es) c.bytes.invariant.undecided in
      let n = taken_next g.L.Link.told g.L.Link.counts g.L.Link.sends g.L.Link.polls turns busid s c.args.link.now c.bytes.reader.rest c.in_ok-byte.byte p.0.calls c.take_byte.new.left c.bytes.link c.take_byte.new.link path
      (c.in_ok-byte.ensures.goes turns busid (taking s c.bytes.reader.rest p.0.calls) eu u p.2) in
      (taking s (c.bytes.reader.rest ++ c.in_ok-byte.byte ∷ []) n.0, n.1, n.2, (refl, c.in-Device.ensures c.bytes.reader.rest c.bytes.invariant.reader c.bytes.invariant.front c.bytes.invariant.undecided));
}

pub returns-in-NoDevice : goal.returns-in-NoDevice
returns-in-NoDevice g c = record {
  goes = λ turns busid s es eu er count.
      let p = c.bytes.invariant.path turns busid s es eu er count in
      let path = subst (λ (t : At). Path g.L.Link.told g.L.Link.counts g.L.Link.sends g.L.Link.polls busid s c.args.link.now t c.bytes.link) p.3 p.1 in
      let u : Undecided s.stage c.bytes.reader.rest = subst (λ (x : Stage). Undecided x c.bytes.reader.rest) (sym es) c.bytes.invariant.undecided in
      let n = taken_next g.L.Link.told g.L.Link.counts g.L.Link.sends g.L.Link.polls turns busid s c.args.link.now c.bytes.reader.rest c.in_ok-byte.byte p.0.calls c.take_byte.new.left c.bytes.link c.take_byte.new.link path
      (c.in_ok-byte.ensures.goes turns busid (taking s c.bytes.reader.rest p.0.calls) eu u p.2) in
      record { at = taking s (c.bytes.reader.rest ++ c.in_ok-byte.byte ∷ []) n.0; mid = c.take_byte.new.link; path = n.1; calls = omega (arith, n.2); last = NoDevice c.in-NoDevice.status es eu (c.in-NoDevice.ensures c.bytes.reader.rest c.bytes.invariant.reader c.bytes.invariant.front c.bytes.invariant.undecided) refl refl };
}

pub returns-in-Bad : goal.returns-in-Bad
returns-in-Bad g c = record {
  goes = λ turns busid s es eu er count.
      let p = c.bytes.invariant.path turns busid s es eu er count in
      let path = subst (λ (t : At). Path g.L.Link.told g.L.Link.counts g.L.Link.sends g.L.Link.polls busid s c.args.link.now t c.bytes.link) p.3 p.1 in
      let u : Undecided s.stage c.bytes.reader.rest = subst (λ (x : Stage). Undecided x c.bytes.reader.rest) (sym es) c.bytes.invariant.undecided in
      let n = taken_next g.L.Link.told g.L.Link.counts g.L.Link.sends g.L.Link.polls turns busid s c.args.link.now c.bytes.reader.rest c.in_ok-byte.byte p.0.calls c.take_byte.new.left c.bytes.link c.take_byte.new.link path
      (c.in_ok-byte.ensures.goes turns busid (taking s c.bytes.reader.rest p.0.calls) eu u p.2) in
      record { at = taking s (c.bytes.reader.rest ++ c.in_ok-byte.byte ∷ []) n.0; mid = c.take_byte.new.link; path = n.1; calls = omega (arith, n.2); last = Refused c.in-Bad.field eu (subst (λ (x : Stage). IsBad x (c.bytes.reader.rest ++ c.in_ok-byte.byte ∷ []) c.in-Bad.field) (sym es) (c.in-Bad.ensures c.bytes.reader.rest c.bytes.invariant.reader c.bytes.invariant.front c.bytes.invariant.undecided)) refl refl };
}

use Rattle.std.proofs.Common.{◌≡◌, ℕ, [], List, drop, refl, sym, subst, ◌∙◌, ap, arith}
use Rattle.std.proofs.lemmas.Result.{err_from_is_err_and}
use Rattle.usbip_wire.specs.DownFed.{data_of}
use Rattle.usbip_wire.specs.declared.urb.Dir.TheVariants.{In}
use Rattle.usbip_wire.specs.Submit.{submit_bytes, unused}
use Rattle.usb_setup.specs.Interface.{Finds, FaultIs}
use Rattle.host_urbs.specs.Attach.{phase_of, entries_at, NoEnds}
use Rattle.host_urbs.proofs.Attachment.{wants}
use Rattle.host_urbs.proofs.attaching.describe.Goals as goal

pub returns-in_err-reader : goal.returns-in_err-reader
returns-in_err-reader g c = let q = err_from_is_err_and c.from_residual.result c.from_residual.ensures.1 in rw (q.1, q.2) (record { goes = λ turns busid s es eu er count. wants g.L.Link.told g.L.Link.counts g.L.Link.sends g.L.Link.polls turns busid s c.args.link.now c.args.left.now count })

pub returns-in_err-submit : goal.returns-in_err-submit
returns-in_err-submit g c = let q = err_from_is_err_and c.from_residual-in_err-submit.result c.from_residual-in_err-submit.ensures.1 in rw (q.1, q.2) (record { goes = λ turns busid s es eu er count. c.in_err-submit.ensures.goes turns busid s (ap phase_of es) (ap entries_at es) (eu ∙ ap (λ (setup : List ℕ). submit_bytes (record { seqnum = 1; devid = c.args.devid; dir = In; ep = 0; length = 4096; setup = setup }) unused []) (sym c.to_bytes.ensures)) er count })

pub returns-in-Ok : goal.returns-in-Ok
returns-in-Ok g c = record {
  goes = λ turns busid s es eu er count.
      let took = c.in_ok-submit.ensures.goes turns busid s (ap phase_of es) (ap entries_at es) (eu ∙ ap (λ (setup : List ℕ). submit_bytes (record { seqnum = 1; devid = c.args.devid; dir = In; ep = 0; length = 4096; setup = setup }) unused []) (sym c.to_bytes.ensures)) er count in
      let bytes : c.data.result.now ≡ drop 48 took.0.rest = c.data.ensures ∙ ap data_of took.3.2 in
      (took.0, took.1, took.2, (took.3.0 ∙ es, took.3.1, subst (λ (l : List ℕ). Finds l c.in-Ok.ends) bytes ((c.in-Ok.ensures.found c.in-Ok.ends).0 refl)));
}

pub returns : goal.returns
returns g c = record {
  goes = λ turns busid s es eu er count.
      let took = c.in_ok-submit.ensures.goes turns busid s (ap phase_of es) (ap entries_at es) (eu ∙ ap (λ (setup : List ℕ). submit_bytes (record { seqnum = 1; devid = c.args.devid; dir = In; ep = 0; length = 4096; setup = setup }) unused []) (sym c.to_bytes.ensures)) er count in
      let bytes : c.data.result.now ≡ drop 48 took.0.rest = c.data.ensures ∙ ap data_of took.3.2 in
      let why = subst (λ (l : List ℕ). FaultIs l c.in-Err.fault) bytes ((c.in-Err.ensures.fault c.in-Err.fault).0 refl) in
      record {
        at = took.0;
        mid = c.submit.new.link;
        path = took.1;
        calls = omega (arith, took.2);
        last = NoEnds c.args.devid took.3.1.1 (took.3.0 ∙ es) took.3.1.0 took.3.1.2 took.3.1.3 c.in-Err.fault why refl refl;
      };
}

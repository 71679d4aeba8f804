use Rattle.std.proofs.Common.{◌≡◌, ℕ, [], List, sym, ◌∙◌, ap}
use Rattle.std.proofs.lemmas.Result.{err_from_is_err_and}
use Rattle.usbip_wire.specs.declared.down.DownPhase.TheVariants.{Urbs}
use Rattle.std.specs.Prelude.{true, None}
use Rattle.usbip_wire.specs.declared.urb.Dir.TheVariants.{Out}
use Rattle.usbip_wire.specs.Submit.{submit_bytes, unused}
use Rattle.usb_setup.specs.Setup.{setup_layout}
use Rattle.host_urbs.specs.Attach.{set_configuration, phase_of, entries_at, here}
use Rattle.host_urbs.specs.Attaching.{IsGood}
use Rattle.host_urbs.proofs.Attachment.{after, wants}
use Rattle.host_urbs.proofs.attaching.configure.Goals as goal

pub returns-in_err-reader : goal.returns-in_err-reader
returns-in_err-reader g c = let q = err_from_is_err_and c.from_residual.result c.from_residual.ensures.1 in rw (q.1, q.2) (record { goes = λ turns busid s es eu er count. wants g.L.Link.told g.L.Link.counts g.L.Link.sends g.L.Link.polls turns busid s c.args.link.now c.args.left.now count })

pub returns : goal.returns
returns g c = record {
  goes = λ turns busid s es eu er count.
      after g.L.Link.told g.L.Link.counts g.L.Link.sends g.L.Link.polls turns busid s c.args.link.now (λ done t. (t.stage ≡ s.stage) × IsGood t × (c.submit.new.reader ≡ record { phase = Urbs; rest = t.rest; whole = true; bad = None })) (λ done t. (t.stage ≡ s.stage) × IsGood t) s c.args.link.now c.submit.new.link c.submit.new.left c.submit.result here
      (λ done t h. (h.0, h.1)) (c.submit.ensures.goes turns busid s (ap phase_of es) (ap entries_at es) (eu ∙ ap (λ (setup : List ℕ). submit_bytes (record { seqnum = 2; devid = c.args.devid; dir = Out; ep = 0; length = 0; setup = setup }) unused []) (sym (c.to_bytes.ensures ∙ ap (λ (value : ℕ). setup_layout (set_configuration value)) c.from.ensures))) er count);
}

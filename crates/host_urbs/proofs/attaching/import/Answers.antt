use Rattle.std.proofs.Common.{◌≡◌, [], sym, ◌∙◌, ap}
use Rattle.std.proofs.lemmas.Result.{err_from_is_err_and}
use Rattle.host_urbs.specs.Attach.{At}
use Rattle.host_urbs.specs.Attaching.{IsImported, took_rest}
use Rattle.usbip_wire.specs.ImportReply.{SpellsImport}
use Rattle.std.specs.Prelude.{Some}
use Rattle.host_urbs.proofs.Attachment.{after, wants}
use Rattle.host_urbs.proofs.attaching.import.Goals as goal

pub returns-in_err-request : goal.returns-in_err-request
returns-in_err-request g c = let q = err_from_is_err_and c.from_residual.result c.from_residual.ensures.1 in rw (q.1, q.2) (record { goes = λ turns s es eu er count. wants g.L.Link.told g.L.Link.counts g.L.Link.sends g.L.Link.polls turns c.args.busid.now s c.args.link.now c.args.left.now count })

pub returns-in_err-reader : goal.returns-in_err-reader
returns-in_err-reader g c = let q = err_from_is_err_and c.from_residual-in_err-reader.result c.from_residual-in_err-reader.ensures.1 in rw (q.1, q.2) (record { goes = λ turns s es eu er count. wants g.L.Link.told g.L.Link.counts g.L.Link.sends g.L.Link.polls turns c.args.busid.now s c.args.link.now c.args.left.now count })

pub returns-in_err-send_all : goal.returns-in_err-send_all
returns-in_err-send_all g c = let q = err_from_is_err_and c.from_residual-in_err-send_all.result c.from_residual-in_err-send_all.ensures.1 in rw (q.1, q.2) (record {
  goes = λ turns s es eu er count.
      let request = c.as_slice.ensures ∙ c.in_ok-request.ensures in
      let sent = c.in_err-send_all.ensures.goes turns c.args.busid.now s (eu ∙ sym request) count in sent;
})

pub returns : goal.returns
returns g c = record {
  goes = λ turns s es eu er count.
      let request = c.as_slice.ensures ∙ c.in_ok-request.ensures in
      let sent = c.in_ok-send_all.ensures.goes turns c.args.busid.now s (eu ∙ sym request) count in
      let stage : sent.0.stage ≡ s.stage = ap (λ (t : At). t.stage) sent.3 in
      let unsent : sent.0.unsent ≡ [] = ap (λ (t : At). t.unsent) sent.3 in
      let rest : sent.0.rest ≡ s.rest = ap (λ (t : At). t.rest) sent.3 in
      after g.L.Link.told g.L.Link.counts g.L.Link.sends g.L.Link.polls turns c.args.busid.now s c.args.link.now (λ device t. took_rest sent.0 t × SpellsImport 0 (Some device) t.rest) (λ device t. IsImported device t)
      sent.0 c.send_all.new.link c.take_import.new.link c.take_import.new.left c.take_import.result sent.1
      (λ device t h. (ap (λ (x : At). x.stage) h.0 ∙ (stage ∙ es), ap (λ (x : At). x.unsent) h.0 ∙ unsent, h.1))
      (c.take_import.ensures.goes turns c.args.busid.now sent.0 (stage ∙ es) unsent (rest ∙ er) sent.2);
}

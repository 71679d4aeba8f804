use Rattle.std.proofs.Common.{◌≢◌, inl, subst}
use Rattle.usbip_export.specs.declared.serving.ServeEnd.TheVariants.{Memory}
use Rattle.usbip_export.specs.Seen.{Seen}
use Rattle.usbip_export.specs.Serving.{Crosses}
use Rattle.tmc_live.proofs.client.serve_client.Goals as goal

pub returns-in-Ok : goal.returns-in-Ok
returns-in-Ok g c =
    inl (record {
      node = c.serve_link.new.node;
      crosses = subst (λ (n : Seen). Crosses g.L.Link.told (c.serve_link.result ≢ Memory) n c.args.link.now c.serve_link.new.node c.serve_link.new.link) c.in-Ok.ensures c.serve_link.ensures.crosses;
      ends = c.serve_link.ensures.ends;
      closed = c.serve_link.ensures.closed;
      unclosed = c.serve_link.ensures.unclosed;
      refused = c.serve_link.ensures.refused;
      fault = c.serve_link.ensures.fault;
      faultless = c.serve_link.ensures.faultless;
      spent = c.serve_link.ensures.spent;
      calm = c.serve_link.ensures.calm;
      sent = c.serve_link.ensures.sent;
    })

use Rattle.std.proofs.Common.{◌≡◌, ◌≢◌, ◌⊎◌, ⊎_elim, inl, inr, sym, ap, ◌∙◌, subst}
use Rattle.tmc_live.specs.declared.status.Status.TheVariants.{Served, Usage, SinkFault, NoMemory, NetFault as NetFaulted}
use Rattle.tmc_live.specs.Live.{code_of}
use Rattle.tmc_live.proofs.Causes.{ends_usage, ends_served, sink_failed, net_failed, sink_stands, net_stands, coded}
use Rattle.tmc_live.proofs.live.live_main.Goals as goal

pub returns-clause-usage : goal.returns-clause-usage
returns-clause-usage g c = λ others calm. c.code.ensures ∙ ap code_of (ends_usage _ _ c.run.result _ _ _ _ c.run.ensures others calm)

pub returns-clause-served : goal.returns-clause-served
returns-clause-served g c = λ named calm_net calm_sink.
    ⊎_elim (λ e. inl (c.code.ensures ∙ ap code_of e)) (λ e. inr (c.code.ensures ∙ ap code_of e))
    (ends_served _ _ c.run.result _ _ _ _ c.run.ensures named calm_net calm_sink)

pub returns-clause-sink_fault : goal.returns-clause-sink_fault
returns-clause-sink_fault g c = λ e. sink_failed _ _ c.run.result _ _ _ _ c.run.ensures (coded c.run.result SinkFault (sym c.code.ensures ∙ e))

pub returns-clause-net_fault : goal.returns-clause-net_fault
returns-clause-net_fault g c = λ e. net_failed _ _ c.run.result _ _ _ _ c.run.ensures (coded c.run.result NetFaulted (sym c.code.ensures ∙ e))

pub returns-clause-sink_stands : goal.returns-clause-sink_stands
returns-clause-sink_stands g c = λ other. sink_stands _ _ c.run.result _ _ _ _ c.run.ensures (λ e. other (c.code.ensures ∙ ap code_of e))

pub returns-clause-net_stands : goal.returns-clause-net_stands
returns-clause-net_stands g c = λ unbroken other.
    net_stands _ _ c.run.result _ _ _ _ c.run.ensures (λ e. unbroken (c.code.ensures ∙ ap code_of e)) (λ e. other (c.code.ensures ∙ ap code_of e))

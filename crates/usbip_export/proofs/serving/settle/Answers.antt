use Rattle.usbip_export.proofs.Served.{calm_serves}
use Rattle.usbip_export.proofs.serving.settle.Goals as goal

pub returns-in-Some-clause-works : goal.returns-in-Some-clause-works
returns-in-Some-clause-works c = calm_serves _ _ c.calm-calmed.ensures.only

pub returns-then-is_err-clause-works : goal.returns-then-is_err-clause-works
returns-then-is_err-clause-works c = calm_serves _ _ c.calm-calmed.ensures.only

pub returns-then-is_empty-clause-works : goal.returns-then-is_empty-clause-works
returns-then-is_empty-clause-works c = calm_serves _ _ c.calm-calmed.ensures.only

pub returns-clause-works : goal.returns-clause-works
returns-clause-works c = calm_serves _ _ c.calm-calmed.ensures.only

use Rattle.std.proofs.Common.{refl, arith, false}
use Rattle.host_hub.specs.Pieces.{pieces}
use Rattle.host_hub.specs.Plan.{next_tag, request_of}
use Rattle.host_hub.proofs.Lawful.{lawful_book}
use Rattle.host_hub.proofs.Parts.{next_exhausted}
use Rattle.host_hub.proofs.Responses.{request_can, request_goes, request_next}
use Rattle.host_hub.proofs.Leaving.{leaves_by, leaves_ended}
use Rattle.host_hub.proofs.hub_core.HubCore.request.Goals as goal

pub stop-requires-clause-known : goal.stop-requires-clause-known
stop-requires-clause-known c =
    let k = c.requires in
    record { setting = k.setting; past = k.past; sent = k.sent; knows = k.is.goes.knows; keeps = lawful_book k.setting k.past k.is.goes.working.lawful }

pub returns-then-next-gt-LAST_SUBMIT-clause-goes : goal.returns-then-next-gt-LAST_SUBMIT-clause-goes
returns-then-next-gt-LAST_SUBMIT-clause-goes c = λ s past sent p.
    next_exhausted s past sent c.args.self.now c.stop.new.self p.asking false (request_of (next_tag past) p.asking.limit (pieces c.args.self.now.active past)) p.goes
    (request_next s past sent c.args.self.now p) (omega arith) c.stop.ensures.ended (c.stop.ensures.goes s past sent (lawful_book s past p.goes.working.lawful) p.goes.knows)

pub write_request-requires : goal.write_request-requires
write_request-requires c = request_can c.requires.setting c.requires.past c.requires.sent c.args.self.now c.requires.is (omega arith)

pub returns-clause-goes : goal.returns-clause-goes
returns-clause-goes c = λ s past sent p. request_goes s past sent c.args.self.now c.write_request.new.self p (omega arith) c.write_request.ensures.urbs c.write_request.ensures.assembly c.write_request.ensures.asked c.write_request.ensures.rest

pub returns-then-next-gt-LAST_SUBMIT-clause-leaves : goal.returns-then-next-gt-LAST_SUBMIT-clause-leaves
returns-then-next-gt-LAST_SUBMIT-clause-leaves c = leaves_ended c.args.self.now c.stop.new.self c.stop.ensures.births c.stop.ensures.rest

pub returns-clause-leaves : goal.returns-clause-leaves
returns-clause-leaves c =
    leaves_by c.args.self.now _ c.write_request.new.self c.write_request.ensures.rest
    (record { keeps = record { first = refl; ends = refl; turned = refl; births = refl; short = λ h. c.write_request.ensures.short }; reader = refl })

use Rattle.std.proofs.Common.{◌≡◌, ◌∙◌, refl, sym, ap, subst, Bool, true, false, List, [], ◌∷◌}
use Rattle.usb_setup.specs.declared.setup.Setup.{Setup}
use Rattle.tmc_wire.specs.declared.class_request.ClassRequest.{ClassRequest}
use Rattle.tmc_wire.specs.declared.class_request.ClassRequest.TheVariants as request
use Rattle.tmc_law.specs.State.{Pending}
use Rattle.tmc_law.specs.Class.{Serves, capabilities_layout}
use Rattle.tmc_device.specs.Seen.{Seen}
use Rattle.tmc_device.specs.Body.{state_of}
use Rattle.tmc_device.specs.Control.{IsServed}
use Rattle.tmc_device.proofs.body.Body.serve.Goals as goal

-- a request that is this one is served as it
as_request : (r q : ClassRequest) (submit : Pending) (behind : List Pending) (setup : Setup) (old new : Seen) → r ≡ q
    → IsServed (Serves q submit) submit behind setup old new → IsServed (Serves r submit) submit behind setup old new
as_request r q submit behind setup old new is served =
    subst (λ (x : ClassRequest). IsServed (Serves x submit) submit behind setup old new) (sym is) served

pub returns-in-Capabilities : goal.returns-in-Capabilities
returns-in-Capabilities c = λ submit behind first.
    let replied = c.reply.ensures submit behind first in
    as_request c.args.request request.Capabilities submit behind c.args.asked.now.setup _ _ c.in-Capabilities.is (record {
      served = record { layout = capabilities_layout; behind = []; state = record (state_of c.args.self.now) { control = behind } };
      serves = refl;
      joins = replied.puts;
      is = replied.state;
    })

pub returns-in-Pulse : goal.returns-in-Pulse
returns-in-Pulse c = λ submit behind first.
    let replied = c.reply-in-Pulse.ensures submit behind first in
    as_request c.args.request request.Pulse submit behind c.args.asked.now.setup _ _ c.in-Pulse.is (record {
      served = record { layout = 1 ∷ []; behind = []; state = record (state_of c.args.self.now) { control = behind } };
      serves = refl;
      joins = replied.puts;
      is = replied.state;
    })

-- the cases in which who operates the instrument changes

pub returns-in-Ren-true : goal.returns-in-Ren-true
returns-in-Ren-true c = λ submit behind first.
    let o = c.operate.ensures submit behind first in
    as_request c.args.request (request.Ren true) submit behind c.args.asked.now.setup _ _ (c.in-Ren-true.is ∙ ap (λ (b : Bool). request.Ren b) c.in-Ren-true.on-test)
    (record { served = o.served; serves = o.serves; joins = o.joins; is = o.is })

pub returns-in-Ren-false : goal.returns-in-Ren-false
returns-in-Ren-false c = λ submit behind first.
    let o = c.operate-in-Ren-false.ensures submit behind first in
    as_request c.args.request (request.Ren false) submit behind c.args.asked.now.setup _ _ (c.in-Ren-false.is ∙ ap (λ (b : Bool). request.Ren b) c.in-Ren-false.on-test)
    (record { served = o.served; serves = o.serves; joins = o.joins; is = o.is })

pub returns-in-GoLocal : goal.returns-in-GoLocal
returns-in-GoLocal c = λ submit behind first.
    let o = c.operate-in-GoLocal.ensures submit behind first in
    as_request c.args.request request.GoLocal submit behind c.args.asked.now.setup _ _ c.in-GoLocal.is
    (record { served = o.served; serves = o.serves; joins = o.joins; is = o.is })

pub returns-in-Lockout : goal.returns-in-Lockout
returns-in-Lockout c = λ submit behind first.
    let o = c.operate-in-Lockout.ensures submit behind first in
    as_request c.args.request request.Lockout submit behind c.args.asked.now.setup _ _ c.in-Lockout.is
    (record { served = o.served; serves = o.serves; joins = o.joins; is = o.is })

use Rattle.std.proofs.Common.{◌≡◌, ◌∙◌, refl, sym, ap, ℕ, List, min, take, length, ◌++◌}
use Rattle.std.proofs.lemmas.List.{take_min}
use Rattle.usbip_wire.specs.declared.submit.SubmitHead.{SubmitHead}
use Rattle.usbip_wire.specs.declared.urb.Dir.{Dir}
use Rattle.usbip_wire.specs.declared.urb.Dir.TheVariants.{Out, In}
use Rattle.tmc_law.specs.Control.{sent_back}
use Rattle.tmc_law.specs.Put.{returned}
use Rattle.tmc_device.specs.Body.{state_of}
use Rattle.tmc_device.proofs.Asked.{asked_head}
use Rattle.tmc_device.proofs.body.Body.reply.Goals as goal

returned_back : (d : Dir) (n : ℕ) (layout : List ℕ) → returned d (take n layout) ≡ sent_back d n layout
returned_back Out n layout = refl
returned_back In n layout = refl

back_returned : (d : Dir) (n : ℕ) (layout : List ℕ) → sent_back d n layout ≡ returned d (sent_back d n layout)
back_returned Out n layout = refl
back_returned In n layout = refl

pub returns : goal.returns
returns c = λ submit behind first.
    let setup = c.args.asked.now.setup in
    let head = c.args.asked.now.head in
    let layout = c.args.layout.now in
    let same = asked_head (state_of c.args.self.now) c.args.asked.now c.requires.asked submit behind first in
    let n = min setup.length submit.head.length in
    let sent : c.data_back-sent.result.now ≡ sent_back submit.head.dir n layout =
    c.data_back-sent.ensures
    ∙ (ap (λ (k : ℕ). returned head.dir (take k layout)) c.min-most.ensures
    ∙ (ap (λ (l : List ℕ). returned head.dir l) (take_min c.min.result layout)
    ∙ (ap (λ (k : ℕ). returned head.dir (take k layout)) c.min.ensures
    ∙ (returned_back head.dir (min setup.length head.length) layout
    ∙ ap (λ (h : SubmitHead). sent_back h.dir (min setup.length h.length) layout) (sym same))))) in
    c.end_asked.ensures submit behind (sent_back submit.head.dir n layout) first (ap (λ (l : List ℕ). length l) sent)
    (c.in-Ok.ensures.items ∙ (ap (λ (l : List ℕ). l ++ c.data_back-sent.result.now) c.requires.empty ∙ (sent ∙ back_returned submit.head.dir n layout)))

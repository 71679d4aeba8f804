-- what a read of an ask brings
use Rattle.std.proofs.Common.{◌≡◌, ◌∙◌, ℕ, ◌<◌, ◌≤◌, List, ◌++◌, length, ap, sym, subst, length-append, arith}
use Rattle.usbip_wire.specs.declared.submit.SubmitHead.{SubmitHead}
use Rattle.usbip_wire.specs.declared.ret_submit.RetSubmitHead.{RetSubmitHead}
use Rattle.usbip_wire.specs.Up as up
use Rattle.tmc_wire.specs.Header.{IsTag, IsSize}
use Rattle.tmc_law.specs.State.{State}
use Rattle.tmc_law.specs.Put.{Put, success, stalled}
use Rattle.host_joint.specs.Lines.{Gives}
use Rattle.host_joint.specs.Reads.{read_size}
use Rattle.host_joint.specs.Asking.{Ask, Asking}
use Rattle.host_joint.specs.Hosted.{InAnswered, TookFull, TookEnd, TookHalt}
use Rattle.host_joint.specs.Given.{BringsPiece, BringsMore, BringsEnd}
use Rattle.host_joint.proofs.Transfers.{WireLaws}
use Rattle.host_joint.proofs.Given.{owned_of, piece_text, begins_piece}

no_stall : {B : Type 0} (a : RetSubmitHead) → a.status ≡ success → a.status ≡ stalled → B
no_stall a ok halted = let e : success ≡ stalled = sym ok ∙ halted in absurd (cc)

pub brings : (laws : WireLaws) (ask : Ask) (ups : List up.Message) (head : SubmitHead) (a : RetSubmitHead) (transferred : List ℕ) (downs : List Put) (s : State) → IsTag ask.tag → IsSize ask.size → a.status ≡ success
    → InAnswered ask ups (Gives head a transferred) downs s → BringsPiece ask a transferred
brings laws ask ups head a transferred downs s tagged sized ok (TookHalt shuts halted later) = no_stall a ok halted.0
brings laws ask ups head a transferred downs s tagged sized ok (TookFull x is full goes) =
    let same : transferred ≡ x.bytes = cc in
    let told : a ≡ record { seqnum = x.head.seqnum; status = success; actual = length x.bytes } = cc in
    let all : length transferred ≡ read_size = ap (λ (l : List ℕ). length l) same ∙ full in
    let later : Asking (record ask { read = ask.read ++ transferred }) ups downs s = subst (λ (l : List ℕ). Asking (record ask { read = ask.read ++ l }) ups downs s) (sym same) goes in
    let long : 12 ≤ length (ask.read ++ transferred) = omega (arith, all, length-append ask.read transferred) in
    BringsMore (ap (λ (r : RetSubmitHead). r.actual) told ∙ ap (λ (l : List ℕ). length l) (sym same)) all
    (begins_piece laws ask.last ask.message ask.tag ask.size ask.written ask.answered ask.sofar (ask.read ++ transferred) ask.gone s tagged sized.1 long
    (owned_of ask.last ask.message ask.tag ask.size ask.written ask.answered ask.sofar (ask.read ++ transferred) ask.gone ups downs s later))
brings laws ask ups head a transferred downs s tagged sized ok (TookEnd x is small ends) =
    let same : transferred ≡ x.bytes = cc in
    let told : a ≡ record { seqnum = x.head.seqnum; status = success; actual = length x.bytes } = cc in
    BringsEnd ends.eom ends.carried (ap (λ (r : RetSubmitHead). r.actual) told ∙ ap (λ (l : List ℕ). length l) (sym same)) (subst (λ (l : List ℕ). length l < read_size) (sym same) small)
    (piece_text laws ask.tag ask.size ends.eom ends.carried (ask.read ++ transferred) tagged ends.some ends.fits sized.1 (ap (λ (l : List ℕ). ask.read ++ l) same ∙ ends.text))

use Rattle.std.proofs.Common.{ℕ, Bool, false, List, ◌++◌, ◌∷◌, [], length, sym, subst}
use Rattle.usbip_wire.specs.Up as up
use Rattle.host_joint.specs.Asking.{Asking}
use Rattle.host_joint.specs.Jobs.{Job}
use Rattle.host_joint.proofs.Ahead.{request_ahead}
use Rattle.host_joint.proofs.Sending.{part_written, request_written, read_written, other_written, unlinks_written}
use Rattle.host_joint.proofs.host_moves.messages_are_written.Goals as goal

pub returns-clause-part : goal.returns-clause-part
returns-clause-part c ask ups downs s job is next all asking =
    subst (λ (n : ℕ). Asking (record ask { written = ask.written ++ job ∷ []; answered = n }) (ups ++ up.Submit job.head job.bytes ∷ []) downs s) (sym all)
    (part_written ask.last ask.message ask.tag ask.size ask.written ask.sofar ask.read ask.gone ups downs s job is next
    (subst (λ (n : ℕ). Asking (record ask { answered = n }) ups downs s) all asking))

pub returns-clause-request : goal.returns-clause-request
returns-clause-request c ask ups downs s job is header done more all asking =
    subst (λ (n : ℕ). Asking (record ask { written = ask.written ++ job ∷ []; answered = n }) (ups ++ up.Submit job.head job.bytes ∷ []) downs s) (sym all)
    (request_written ask.last ask.message ask.tag ask.size ask.written ask.sofar ask.read ask.gone ups downs s job is header done more
    (subst (λ (n : ℕ). Asking (record ask { answered = n }) ups downs s) all asking))

pub returns-clause-request_ahead : goal.returns-clause-request_ahead
returns-clause-request_ahead c ask tag size front final job ups downs s is header whole inner ends all none kept asking =
    let plain = subst (λ (l : List Job). Asking (record ask { written = l; answered = length front; sofar = []; gone = false }) ups downs s) whole
    (subst (λ (n : ℕ). Asking (record ask { answered = n; sofar = []; gone = false }) ups downs s) all
    (subst (λ (l : List ℕ). Asking (record ask { sofar = l; gone = false }) ups downs s) none
    (subst (λ (b : Bool). Asking (record ask { gone = b }) ups downs s) kept asking))) in
    let made = request_ahead ask.last ask.message ask.tag ask.size tag size front final job ask.read ups downs s inner ends header is plain in
    subst (λ (b : Bool). Asking (record ask { tag = tag; size = size; written = ask.written ++ job ∷ []; gone = b }) (ups ++ up.Submit job.head job.bytes ∷ []) downs s) (sym kept)
    (subst (λ (l : List ℕ). Asking (record ask { tag = tag; size = size; written = ask.written ++ job ∷ []; sofar = l; gone = false }) (ups ++ up.Submit job.head job.bytes ∷ []) downs s) (sym none)
    (subst (λ (n : ℕ). Asking (record ask { tag = tag; size = size; written = ask.written ++ job ∷ []; answered = n; sofar = []; gone = false }) (ups ++ up.Submit job.head job.bytes ∷ []) downs s) (sym all)
    (subst (λ (l : List Job). Asking (record ask { tag = tag; size = size; written = l ++ job ∷ []; answered = length front; sofar = []; gone = false }) (ups ++ up.Submit job.head job.bytes ∷ []) downs s) (sym whole) made)))

pub returns-clause-one_read : goal.returns-clause-one_read
returns-clause-one_read c ask ups downs s head is kept asking =
    subst (λ (b : Bool). Asking (record ask { gone = b }) (ups ++ up.Submit head [] ∷ []) downs s) (sym kept)
    (read_written ask.last ask.message ask.tag ask.size ask.written ask.answered ask.sofar ask.read ups downs s head is
    (subst (λ (b : Bool). Asking (record ask { gone = b }) ups downs s) kept asking))

pub returns-clause-interrupt : goal.returns-clause-interrupt
returns-clause-interrupt c ask = other_written ask.last ask.message ask.tag ask.size ask.written ask.answered ask.sofar ask.read ask.gone

pub returns-clause-unlinks : goal.returns-clause-unlinks
returns-clause-unlinks c ask = unlinks_written ask.last ask.message ask.tag ask.size ask.written ask.answered ask.sofar ask.read ask.gone

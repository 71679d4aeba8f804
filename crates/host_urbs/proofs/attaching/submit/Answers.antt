use Rattle.std.proofs.Common.{◌≡◌, ◌++◌, ◌∷◌, [], List, refl, sym, subst, ◌∙◌, ap, arith}
use Rattle.std.specs.Int.{w32, cast_signed, cast_unsigned}
use Rattle.std.proofs.lemmas.Result.{err_from_is_err_and}
use Rattle.usbip_wire.specs.declared.dirs.Outstanding.{Outstanding}
use Rattle.usbip_wire.specs.declared.dirs.Outstanding.TheVariants as entry
use Rattle.host_urbs.specs.declared.attached.AttachFault.TheVariants as fault
use Rattle.host_urbs.specs.Attach.{At, Stage, phase_of, entries_at, IsAnswer, Faulty}
use Rattle.host_urbs.proofs.Attachment.{wants, joined_path, joined_stop, status_is, data_short}
use Rattle.host_urbs.proofs.attaching.submit.Goals as goal

pub returns-in_err-request-clause-goes : goal.returns-in_err-request-clause-goes
returns-in_err-request-clause-goes g c = let q = err_from_is_err_and c.from_residual.result c.from_residual.ensures.1 in rw (q.1, q.2) (λ turns busid s ep ed eu er count. wants g.L.Link.told g.L.Link.counts g.L.Link.sends g.L.Link.polls turns busid s c.args.link.now c.args.left.now count)

pub returns-in_err-send_all-clause-goes : goal.returns-in_err-send_all-clause-goes
returns-in_err-send_all-clause-goes g c = let q = err_from_is_err_and c.from_residual-in_err-send_all.result c.from_residual-in_err-send_all.ensures.1 in rw (q.1, q.2) (λ turns busid s ep ed eu er count.
    let request = c.as_slice.ensures ∙ c.in_ok-request.ensures in
    let sent = c.in_err-send_all.ensures.goes turns busid s (eu ∙ sym request) count in sent)

pub returns-in_err-answer-clause-goes : goal.returns-in_err-answer-clause-goes
returns-in_err-answer-clause-goes g c = let q = err_from_is_err_and c.from_residual-in_err-answer.result c.from_residual-in_err-answer.ensures.1 in rw (q.1, q.2) (λ turns busid s ep ed eu er count.
    let request = c.as_slice.ensures ∙ c.in_ok-request.ensures in
    let sent = c.in_ok-send_all.ensures.goes turns busid s (eu ∙ sym request) count in
    let stage : sent.0.stage ≡ s.stage = ap (λ (t : At). t.stage) sent.3 in
    let unsent : sent.0.unsent ≡ [] = ap (λ (t : At). t.unsent) sent.3 in
    let rest : sent.0.rest ≡ s.rest = ap (λ (t : At). t.rest) sent.3 in
    let dirs : c.add_submit.new.self ≡ entry.Submit c.args.head.seqnum c.args.head.dir c.args.head.length ∷ [] = c.add_submit.ensures ∙ ap (λ (l : List Outstanding). l ++ entry.Submit c.args.head.seqnum c.args.head.dir c.args.head.length ∷ []) c.new-dirs.ensures in
    let took = c.in_err-answer.ensures.goes turns busid sent.0 (ap phase_of stage ∙ ep) (ap entries_at stage ∙ (ed ∙ sym dirs)) unsent (rest ∙ er) sent.2 in
    joined_stop g.L.Link.told g.L.Link.counts g.L.Link.sends g.L.Link.polls turns busid s c.args.link.now sent.0 c.send_all.new.link c.take_answer.new.link c.in_err-answer.field-0.0 sent.1 took)

pub returns-then-answer-ne0-clause-goes : goal.returns-then-answer-ne0-clause-goes
returns-then-answer-ne0-clause-goes g c = λ turns busid s ep ed eu er count.
    let request = c.as_slice.ensures ∙ c.in_ok-request.ensures in
    let sent = c.in_ok-send_all.ensures.goes turns busid s (eu ∙ sym request) count in
    let stage : sent.0.stage ≡ s.stage = ap (λ (t : At). t.stage) sent.3 in
    let unsent : sent.0.unsent ≡ [] = ap (λ (t : At). t.unsent) sent.3 in
    let rest : sent.0.rest ≡ s.rest = ap (λ (t : At). t.rest) sent.3 in
    let dirs : c.add_submit.new.self ≡ entry.Submit c.args.head.seqnum c.args.head.dir c.args.head.length ∷ [] = c.add_submit.ensures ∙ ap (λ (l : List Outstanding). l ++ entry.Submit c.args.head.seqnum c.args.head.dir c.args.head.length ∷ []) c.new-dirs.ensures in
    let took = c.in_ok-answer.ensures.goes turns busid sent.0 (ap phase_of stage ∙ ep) (ap entries_at stage ∙ (ed ∙ sym dirs)) unsent (rest ∙ er) sent.2 in
    let t_stage : took.0.stage ≡ s.stage = ap (λ (t : At). t.stage) took.3.0 ∙ stage in
    let t_unsent : took.0.unsent ≡ [] = ap (λ (t : At). t.unsent) took.3.0 ∙ unsent in
    let path = joined_path g.L.Link.told g.L.Link.counts g.L.Link.sends g.L.Link.polls turns busid s c.args.link.now sent.0 c.send_all.new.link took.0 c.take_answer.new.link sent.1 took.1 in
    let answer : IsAnswer took.0.stage c.in_ok-answer.answer took.0.rest = subst (λ (x : Stage). IsAnswer x c.in_ok-answer.answer took.0.rest) (stage ∙ sym t_stage) took.3.1 in
    let fits = status_is took.0.stage c.in_ok-answer.answer took.0.rest (ap phase_of t_stage ∙ ep) answer in
    record { at = took.0; mid = c.take_answer.new.link; path = path; calls = omega (arith, took.2); last = Faulty c.in_ok-answer.answer t_unsent answer (λ e. c.if-answer-ne0.true (ap (cast_unsigned w32) e)) refl (ap fault.DeviceFault fits) }

pub returns-clause-goes : goal.returns-clause-goes
returns-clause-goes g c = λ turns busid s ep ed eu er count.
    let request = c.as_slice.ensures ∙ c.in_ok-request.ensures in
    let sent = c.in_ok-send_all.ensures.goes turns busid s (eu ∙ sym request) count in
    let stage : sent.0.stage ≡ s.stage = ap (λ (t : At). t.stage) sent.3 in
    let unsent : sent.0.unsent ≡ [] = ap (λ (t : At). t.unsent) sent.3 in
    let rest : sent.0.rest ≡ s.rest = ap (λ (t : At). t.rest) sent.3 in
    let dirs : c.add_submit.new.self ≡ entry.Submit c.args.head.seqnum c.args.head.dir c.args.head.length ∷ [] = c.add_submit.ensures ∙ ap (λ (l : List Outstanding). l ++ entry.Submit c.args.head.seqnum c.args.head.dir c.args.head.length ∷ []) c.new-dirs.ensures in
    let took = c.in_ok-answer.ensures.goes turns busid sent.0 (ap phase_of stage ∙ ep) (ap entries_at stage ∙ (ed ∙ sym dirs)) unsent (rest ∙ er) sent.2 in
    let t_stage : took.0.stage ≡ s.stage = ap (λ (t : At). t.stage) took.3.0 ∙ stage in
    let t_unsent : took.0.unsent ≡ [] = ap (λ (t : At). t.unsent) took.3.0 ∙ unsent in
    let path = joined_path g.L.Link.told g.L.Link.counts g.L.Link.sends g.L.Link.polls turns busid s c.args.link.now sent.0 c.send_all.new.link took.0 c.take_answer.new.link sent.1 took.1 in
    let answer : IsAnswer took.0.stage c.in_ok-answer.answer took.0.rest = subst (λ (x : Stage). IsAnswer x c.in_ok-answer.answer took.0.rest) (stage ∙ sym t_stage) took.3.1 in
    let fits = status_is took.0.stage c.in_ok-answer.answer took.0.rest (ap phase_of t_stage ∙ ep) answer in
    (took.0, path, took.2, (t_stage, (t_unsent, c.in_ok-answer.answer, answer, sym fits ∙ ap (cast_signed w32) c.if-answer-ne0.false), took.3.2))

pub returns-clause-held : goal.returns-clause-held
returns-clause-held g c = data_short c.take_answer.new.reader c.in_ok-answer.ensures.held

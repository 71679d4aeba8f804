use Rattle.event_text.proofs.ReportCuts.{report_same, answers_same}
use Rattle.event_text.proofs.laws.reports_are_determined.Goals as goal

pub returns-clause-told : goal.returns-clause-told
returns-clause-told c = λ answers others end ending book second log entries up sent down taken text p q is be.
    let same = report_same answers others end ending book second log entries up sent down taken text p q is be in
    (same.ends, same.books, same.logs, same.ups, same.downs)

pub returns-clause-answers : goal.returns-clause-answers
returns-clause-answers c = λ events answers others end ending book second log entries up sent down taken text p q suit fit is be.
    let same = report_same answers others end ending book second log entries up sent down taken text p q is be in
    answers_same events answers others suit fit p.answered q.answered same.words

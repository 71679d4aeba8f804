use Rattle.host_hub.proofs.Own.{inv, numbered_own, own_numbered}
use Rattle.host_hub.proofs.sentences.submits_go_by_number.Goals as goal

pub returns-clause-own : goal.returns-clause-own
returns-clause-own c = λ setting past ticket number sent lawful at submit owner.
    numbered_own past (inv c.the_next_submit_is_determined.ensures c.each_answer_goes_on.ensures c.each_recovery_has_a_word.ensures setting past lawful) ticket number sent at submit owner

pub returns-clause-alone : goal.returns-clause-alone
returns-clause-alone c = λ setting past ticket number sent lawful at submit begun numbered.
    own_numbered setting past lawful (inv c.the_next_submit_is_determined.ensures c.each_answer_goes_on.ensures c.each_recovery_has_a_word.ensures setting past lawful)
    ticket number sent at submit begun numbered

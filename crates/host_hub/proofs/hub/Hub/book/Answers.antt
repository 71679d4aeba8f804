use Rattle.host_hub.proofs.hub.Hub.book.Goals as goal

pub returns-clause-holds : goal.returns-clause-holds
returns-clause-holds g c = λ start s past sent received b. c.hubs_hold.ensures start _ _ s past sent received _ b

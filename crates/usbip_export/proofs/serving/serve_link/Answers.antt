use Rattle.usbip_export.proofs.Ended.{ends_refused, ends_closed, ends_unclosed, ends_fault, ends_faultless, ends_spent_so, ends_calm, ends_sent}
use Rattle.usbip_export.proofs.serving.serve_link.Goals as goal

pub returns-clause-refused : goal.returns-clause-refused
returns-clause-refused g c =
    ends_refused g.L.Link.counts g.L.Link.sends g.L.Link.polls c.args.turns c.serve.result c.args.link.now c.serve.new.node c.serve.new.link c.serve.ensures.ends

pub returns-clause-closed : goal.returns-clause-closed
returns-clause-closed g c =
    ends_closed g.L.Link.counts g.L.Link.sends g.L.Link.polls c.args.turns c.serve.result c.args.link.now c.serve.new.node c.serve.new.link c.serve.ensures.ends

pub returns-clause-unclosed : goal.returns-clause-unclosed
returns-clause-unclosed g c =
    ends_unclosed g.L.Link.counts g.L.Link.sends g.L.Link.polls c.args.turns c.serve.result c.args.link.now c.serve.new.node c.serve.new.link c.serve.ensures.ends

pub returns-clause-fault : goal.returns-clause-fault
returns-clause-fault g c =
    ends_fault g.L.Link.counts g.L.Link.sends g.L.Link.polls c.args.turns c.serve.result c.args.link.now c.serve.new.node c.serve.new.link c.serve.ensures.ends

pub returns-clause-faultless : goal.returns-clause-faultless
returns-clause-faultless g c =
    ends_faultless g.L.Link.counts g.L.Link.sends g.L.Link.polls c.args.turns c.serve.result c.args.link.now c.serve.new.node c.serve.new.link c.serve.ensures.ends

pub returns-clause-spent : goal.returns-clause-spent
returns-clause-spent g c =
    ends_spent_so g.L.Link.counts g.L.Link.sends g.L.Link.polls c.args.turns c.serve.result c.args.link.now c.serve.new.node c.serve.new.link c.serve.ensures.ends

pub returns-clause-calm : goal.returns-clause-calm
returns-clause-calm g c =
    ends_calm g.L.Link.counts g.L.Link.sends g.L.Link.polls c.args.turns c.serve.result c.args.link.now c.serve.new.node c.serve.new.link c.serve.ensures.ends

pub returns-clause-sent : goal.returns-clause-sent
returns-clause-sent g c =
    ends_sent g.L.Link.counts g.L.Link.sends g.L.Link.polls c.args.turns c.serve.result c.args.link.now c.serve.new.node c.serve.new.link c.serve.ensures.ends

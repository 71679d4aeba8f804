use Rattle.usbip_wire.specs.DownFed.{data_of}
use Rattle.host_hub.specs.Steps.{took}
use Rattle.host_hub.proofs.Makes.{goes_behind}
use Rattle.host_hub.proofs.Requested.{request_heard, request_hears, request_reads, request_short}
use Rattle.host_hub.proofs.hub_core.HubCore.request_answered.Goals as goal

pub fall-requires-clause-heard : goal.fall-requires-clause-heard
fall-requires-clause-heard c =
    let k = c.requires.heard in
    record {
      setting = k.setting;
      past = k.past;
      sent = k.sent;
      bytes = data_of c.args.self.now.reader;
      hears = request_hears c.args.self.now c.args.head c.requires.phase c.requires.fine k.setting k.past k.sent (data_of c.args.self.now.reader) k.out;
    }

pub returns-then-head-self-clause-goes : goal.returns-then-head-self-clause-goes
returns-then-head-self-clause-goes c = λ s past sent h.
    c.fall.ensures.goes s past sent (data_of c.args.self.now.reader)
    (request_hears c.args.self.now c.args.head c.requires.phase c.requires.fine s past sent (data_of c.args.self.now.reader) h) h.rests.kept
    (request_heard c.args.self.now c.args.head c.requires.phase c.requires.fine s past sent (data_of c.args.self.now.reader) h).may
    (request_short c.args.self.now c.args.head c.requires.phase c.requires.fine s past sent (data_of c.args.self.now.reader) h c.if-head-self.true)

pub take-requires : goal.take-requires
take-requires c =
    let k = c.requires.heard in
    record {
      setting = k.setting;
      past = k.past;
      sent = k.sent;
      bytes = data_of c.args.self.now.reader;
      hears = request_hears c.args.self.now c.args.head c.requires.phase c.requires.fine k.setting k.past k.sent (data_of c.args.self.now.reader) k.out;
    }

pub read-requires : goal.read-requires
read-requires c =
    let k = c.requires.heard in
    record {
      setting = k.setting;
      past = took k.past c.args.head (data_of c.args.self.now.reader);
      sent = k.sent;
      is = request_reads c.args.self.now c.args.head c.requires.phase c.requires.fine k.setting k.past k.sent (data_of c.args.self.now.reader) k.out c.if-head-self.false
          c.take.new.self c.take.ensures.goes c.take.ensures.queue c.take.ensures.rest;
    }

pub returns-clause-goes : goal.returns-clause-goes
returns-clause-goes c = λ s past sent h.
    goes_behind s past sent c.args.head (data_of c.args.self.now.reader) c.read.new.self
    (c.read.ensures.goes s (took past c.args.head (data_of c.args.self.now.reader)) sent
    (request_reads c.args.self.now c.args.head c.requires.phase c.requires.fine s past sent (data_of c.args.self.now.reader) h c.if-head-self.false
    c.take.new.self c.take.ensures.goes c.take.ensures.queue c.take.ensures.rest))

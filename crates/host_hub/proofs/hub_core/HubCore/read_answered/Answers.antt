use Rattle.std.proofs.Common.{◌∙◌, ◌++◌, refl, ℕ, List, length, subst, ap, arith}
use Rattle.std.specs.Prelude.{nat_lt}
use Rattle.tmc_base.specs.declared.limits.TheConstants.{BULK_IN_SUBMIT}
use Rattle.usbip_wire.specs.DownFed.{data_of}
use Rattle.host_transfers.specs.Assembly.{Holds, Says, is_over}
use Rattle.host_transfers.specs.declared.piece.Piece.TheVariants.{Bad, Data, Ended}
use Rattle.host_hub.specs.Steps.{took}
use Rattle.host_hub.proofs.Makes.{goes_behind}
use Rattle.host_hub.proofs.Readings.{Assembles, few_bytes, given_length, now_holds, read_bad, read_ends, read_reads, read_room, response_heard, response_hears, response_ticket}
use Rattle.host_hub.proofs.hub_core.HubCore.read_answered.Goals as goal

pub fall-requires-clause-heard : goal.fall-requires-clause-heard
fall-requires-clause-heard c =
    let assembles : Assembles = record { refused = c.pieces_are_assembled.ensures.refused; gives = c.pieces_are_assembled.ensures.data; eom = c.pieces_are_assembled.ensures.eom } in
    let k = c.requires.heard in
    record {
      setting = k.setting;
      past = k.past;
      sent = k.sent;
      bytes = (data_of c.args.self.now.reader);
      hears = response_hears assembles c.args.self.now c.args.head c.requires.phase c.requires.fine (Bad c.in-Bad.field) (data_of c.args.self.now.reader)
          (λ before holds. subst (λ (l : List ℕ). Says c.args.self.now.assembly.tag c.args.self.now.assembly.size before l (nat_lt c.args.head.actual BULK_IN_SUBMIT) (Bad c.in-Bad.field)) c.data.ensures
          (c.in-Bad.ensures.says before holds)) k.setting k.past k.sent k.out c.feed.new.self;
    }

pub keep-requires-clause-heard : goal.keep-requires-clause-heard
keep-requires-clause-heard c =
    let assembles : Assembles = record { refused = c.pieces_are_assembled.ensures.refused; gives = c.pieces_are_assembled.ensures.data; eom = c.pieces_are_assembled.ensures.eom } in
    let k = c.requires.heard in
    record {
      setting = k.setting;
      past = k.past;
      sent = k.sent;
      bytes = (data_of c.args.self.now.reader);
      hears = response_hears assembles c.args.self.now c.args.head c.requires.phase c.requires.fine (Data c.in-Data.from c.in-Data.to) (data_of c.args.self.now.reader)
          (λ before holds. subst (λ (l : List ℕ). Says c.args.self.now.assembly.tag c.args.self.now.assembly.size before l (nat_lt c.args.head.actual BULK_IN_SUBMIT) (Data c.in-Data.from c.in-Data.to)) c.data.ensures
          (c.in-Data.ensures.says before holds)) k.setting k.past k.sent k.out c.feed.new.self;
    }

pub keep-requires-in-Ended-clause-heard : goal.keep-requires-in-Ended-clause-heard
keep-requires-in-Ended-clause-heard c =
    let assembles : Assembles = record { refused = c.pieces_are_assembled.ensures.refused; gives = c.pieces_are_assembled.ensures.data; eom = c.pieces_are_assembled.ensures.eom } in
    let k = c.requires.heard in
    record {
      setting = k.setting;
      past = k.past;
      sent = k.sent;
      bytes = (data_of c.args.self.now.reader);
      hears = response_hears assembles c.args.self.now c.args.head c.requires.phase c.requires.fine (Ended c.in-Ended.from c.in-Ended.to c.in-Ended.eom) (data_of c.args.self.now.reader)
          (λ before holds. subst (λ (l : List ℕ). Says c.args.self.now.assembly.tag c.args.self.now.assembly.size before l (nat_lt c.args.head.actual BULK_IN_SUBMIT) (Ended c.in-Ended.from c.in-Ended.to c.in-Ended.eom)) c.data.ensures
          (c.in-Ended.ensures.says before holds)) k.setting k.past k.sent k.out c.feed.new.self;
    }

pub returns-in-Bad-clause-goes : goal.returns-in-Bad-clause-goes
returns-in-Bad-clause-goes c = λ s past sent h.
    let assembles : Assembles = record { refused = c.pieces_are_assembled.ensures.refused; gives = c.pieces_are_assembled.ensures.data; eom = c.pieces_are_assembled.ensures.eom } in
    c.fall.ensures.goes s past sent (data_of c.args.self.now.reader)
    (response_hears assembles c.args.self.now c.args.head c.requires.phase c.requires.fine (Bad c.in-Bad.field) (data_of c.args.self.now.reader)
    (λ before holds. subst (λ (l : List ℕ). Says c.args.self.now.assembly.tag c.args.self.now.assembly.size before l (nat_lt c.args.head.actual BULK_IN_SUBMIT) (Bad c.in-Bad.field)) c.data.ensures
    (c.in-Bad.ensures.says before holds)) s past sent h c.feed.new.self) h.rests.kept
    (response_heard assembles c.args.self.now c.args.head c.requires.phase c.requires.fine (Bad c.in-Bad.field) (data_of c.args.self.now.reader)
    (λ before holds. subst (λ (l : List ℕ). Says c.args.self.now.assembly.tag c.args.self.now.assembly.size before l (nat_lt c.args.head.actual BULK_IN_SUBMIT) (Bad c.in-Bad.field)) c.data.ensures
    (c.in-Bad.ensures.says before holds)) s past sent h).may
    (read_bad assembles c.args.self.now c.args.head c.requires.phase c.requires.fine (Bad c.in-Bad.field) (data_of c.args.self.now.reader)
    (λ before holds. subst (λ (l : List ℕ). Says c.args.self.now.assembly.tag c.args.self.now.assembly.size before l (nat_lt c.args.head.actual BULK_IN_SUBMIT) (Bad c.in-Bad.field)) c.data.ensures
    (c.in-Bad.ensures.says before holds)) s past sent h c.in-Bad.field refl)

pub keep-requires-clause-there : goal.keep-requires-clause-there
keep-requires-clause-there c = let k = c.requires.heard in response_ticket k.setting k.past k.sent c.args.self.now c.args.head (data_of c.args.self.now.reader) c.requires.phase k.out

pub keep-requires-in-Ended-clause-there : goal.keep-requires-in-Ended-clause-there
keep-requires-in-Ended-clause-there c =
    let k = c.requires.heard in
    response_ticket k.setting k.past k.sent c.args.self.now c.args.head (data_of c.args.self.now.reader) c.requires.phase k.out

pub keep-requires-clause-room : goal.keep-requires-clause-room
keep-requires-clause-room c = λ seen found.
    let assembles : Assembles = record { refused = c.pieces_are_assembled.ensures.refused; gives = c.pieces_are_assembled.ensures.data; eom = c.pieces_are_assembled.ensures.eom } in
    let k = c.requires.heard in
    let r = read_room assembles c.args.self.now c.args.head c.requires.phase c.requires.fine (Data c.in-Data.from c.in-Data.to) (data_of c.args.self.now.reader)
    (λ before holds. subst (λ (l : List ℕ). Says c.args.self.now.assembly.tag c.args.self.now.assembly.size before l (nat_lt c.args.head.actual BULK_IN_SUBMIT) (Data c.in-Data.from c.in-Data.to)) c.data.ensures
    (c.in-Data.ensures.says before holds)) k.setting k.past k.sent k.out tt seen found in
    let w = c.in-Data.ensures.says _ (now_holds k.out c.requires.phase) in
    (r.0, omega (arith, r.1, given_length (data_of c.args.self.now.reader) c.in-Data.from c.in-Data.to w.1.ordered (omega (arith, w.1.within, ap (λ (l : List ℕ). length l) c.data.ensures))))

pub keep-requires-in-Ended-clause-room : goal.keep-requires-in-Ended-clause-room
keep-requires-in-Ended-clause-room c = λ seen found.
    let assembles : Assembles = record { refused = c.pieces_are_assembled.ensures.refused; gives = c.pieces_are_assembled.ensures.data; eom = c.pieces_are_assembled.ensures.eom } in
    let k = c.requires.heard in
    let r = read_room assembles c.args.self.now c.args.head c.requires.phase c.requires.fine (Ended c.in-Ended.from c.in-Ended.to c.in-Ended.eom) (data_of c.args.self.now.reader)
    (λ before holds. subst (λ (l : List ℕ). Says c.args.self.now.assembly.tag c.args.self.now.assembly.size before l (nat_lt c.args.head.actual BULK_IN_SUBMIT) (Ended c.in-Ended.from c.in-Ended.to c.in-Ended.eom)) c.data.ensures
    (c.in-Ended.ensures.says before holds)) k.setting k.past k.sent k.out tt seen found in
    let w = c.in-Ended.ensures.says _ (now_holds k.out c.requires.phase) in
    (r.0, omega (arith, r.1, given_length (data_of c.args.self.now.reader) c.in-Ended.from c.in-Ended.to w.1.ordered (omega (arith, w.1.within, ap (λ (l : List ℕ). length l) c.data.ensures))))

pub read-requires : goal.read-requires
read-requires c =
    let assembles : Assembles = record { refused = c.pieces_are_assembled.ensures.refused; gives = c.pieces_are_assembled.ensures.data; eom = c.pieces_are_assembled.ensures.eom } in
    let k = c.requires.heard in
    record {
      setting = k.setting;
      past = took k.past c.args.head (data_of c.args.self.now.reader);
      sent = k.sent;
      is = read_reads assembles c.args.self.now c.args.head c.requires.phase c.requires.fine (Data c.in-Data.from c.in-Data.to) (data_of c.args.self.now.reader)
          (λ before holds. subst (λ (l : List ℕ). Says c.args.self.now.assembly.tag c.args.self.now.assembly.size before l (nat_lt c.args.head.actual BULK_IN_SUBMIT) (Data c.in-Data.from c.in-Data.to)) c.data.ensures
          (c.in-Data.ensures.says before holds)) k.setting k.past k.sent k.out tt
          c.feed.new.self c.keep.new.self c.keep.ensures.follows c.keep.ensures.device c.keep.ensures.queue c.keep.ensures.book c.keep.ensures.rest c.in-Data.from c.in-Data.to refl c.feed.ensures.tag c.feed.ensures.size
          (λ before holds. subst (λ (l : List ℕ). Holds (before ++ l) c.feed.new.self) c.data.ensures (c.feed.ensures.holds before holds)) (c.feed.ensures.over ∙ ap is_over c.in-Data.is);
    }

pub returns-in-Data-clause-goes : goal.returns-in-Data-clause-goes
returns-in-Data-clause-goes c = λ s past sent h.
    let assembles : Assembles = record { refused = c.pieces_are_assembled.ensures.refused; gives = c.pieces_are_assembled.ensures.data; eom = c.pieces_are_assembled.ensures.eom } in
    goes_behind s past sent c.args.head (data_of c.args.self.now.reader) c.read.new.self
    (c.read.ensures.goes s (took past c.args.head (data_of c.args.self.now.reader)) sent
    (read_reads assembles c.args.self.now c.args.head c.requires.phase c.requires.fine (Data c.in-Data.from c.in-Data.to) (data_of c.args.self.now.reader)
    (λ before holds. subst (λ (l : List ℕ). Says c.args.self.now.assembly.tag c.args.self.now.assembly.size before l (nat_lt c.args.head.actual BULK_IN_SUBMIT) (Data c.in-Data.from c.in-Data.to)) c.data.ensures
    (c.in-Data.ensures.says before holds)) s past sent h tt
    c.feed.new.self c.keep.new.self c.keep.ensures.follows c.keep.ensures.device c.keep.ensures.queue c.keep.ensures.book c.keep.ensures.rest c.in-Data.from c.in-Data.to refl c.feed.ensures.tag c.feed.ensures.size
    (λ before holds. subst (λ (l : List ℕ). Holds (before ++ l) c.feed.new.self) c.data.ensures (c.feed.ensures.holds before holds)) (c.feed.ensures.over ∙ ap is_over c.in-Data.is)))

pub piece_ended-requires : goal.piece_ended-requires
piece_ended-requires c =
    let assembles : Assembles = record { refused = c.pieces_are_assembled.ensures.refused; gives = c.pieces_are_assembled.ensures.data; eom = c.pieces_are_assembled.ensures.eom } in
    let k = c.requires.heard in
    record {
      setting = k.setting;
      past = took k.past c.args.head (data_of c.args.self.now.reader);
      sent = k.sent;
      ends = read_ends assembles c.args.self.now c.args.head c.requires.phase c.requires.fine (Ended c.in-Ended.from c.in-Ended.to c.in-Ended.eom) (data_of c.args.self.now.reader)
          (λ before holds. subst (λ (l : List ℕ). Says c.args.self.now.assembly.tag c.args.self.now.assembly.size before l (nat_lt c.args.head.actual BULK_IN_SUBMIT) (Ended c.in-Ended.from c.in-Ended.to c.in-Ended.eom)) c.data.ensures
          (c.in-Ended.ensures.says before holds)) k.setting k.past k.sent k.out tt
          c.feed.new.self c.keep-in-Ended.new.self c.keep-in-Ended.ensures.follows c.keep-in-Ended.ensures.device c.keep-in-Ended.ensures.queue c.keep-in-Ended.ensures.book c.keep-in-Ended.ensures.rest c.in-Ended.from c.in-Ended.to c.in-Ended.eom refl;
    }

pub returns-in-Ended-clause-goes : goal.returns-in-Ended-clause-goes
returns-in-Ended-clause-goes c = λ s past sent h.
    let assembles : Assembles = record { refused = c.pieces_are_assembled.ensures.refused; gives = c.pieces_are_assembled.ensures.data; eom = c.pieces_are_assembled.ensures.eom } in
    goes_behind s past sent c.args.head (data_of c.args.self.now.reader) c.piece_ended.new.self
    (c.piece_ended.ensures.goes s (took past c.args.head (data_of c.args.self.now.reader)) sent
    (read_ends assembles c.args.self.now c.args.head c.requires.phase c.requires.fine (Ended c.in-Ended.from c.in-Ended.to c.in-Ended.eom) (data_of c.args.self.now.reader)
    (λ before holds. subst (λ (l : List ℕ). Says c.args.self.now.assembly.tag c.args.self.now.assembly.size before l (nat_lt c.args.head.actual BULK_IN_SUBMIT) (Ended c.in-Ended.from c.in-Ended.to c.in-Ended.eom)) c.data.ensures
    (c.in-Ended.ensures.says before holds)) s past sent h tt
    c.feed.new.self c.keep-in-Ended.new.self c.keep-in-Ended.ensures.follows c.keep-in-Ended.ensures.device c.keep-in-Ended.ensures.queue c.keep-in-Ended.ensures.book c.keep-in-Ended.ensures.rest c.in-Ended.from c.in-Ended.to c.in-Ended.eom refl))

pub feed-requires-clause-few : goal.feed-requires-clause-few
feed-requires-clause-few c =
    let k = c.requires.heard in
    few_bytes c.args.self.now c.args.head c.requires.phase k.setting k.past k.sent (data_of c.args.self.now.reader) k.out c.data.result.now c.data.ensures

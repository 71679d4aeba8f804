use Rattle.std.proofs.Common.{refl, ap}
use Rattle.tmc_law.specs.Class.{ByClass, ByStandard, Unknown}
use Rattle.tmc_device.specs.Parts.{presence_of}
use Rattle.tmc_device.specs.Standard.{standard_of}
use Rattle.tmc_device.proofs.body.Body.answer_asked.Goals as goal

pub returns-in-Some : goal.returns-in-Some
returns-in-Some c =
    let asked = c.requires.asked in
    let served = c.serve.ensures asked.submit asked.behind asked.first in
    record {
      puts = _;
      steps = record {
        plugged = ap presence_of c.requires.ready.plugged;
        leads = ByClass asked.submit asked.behind c.args.asked.now.setup c.in-Some.request served.served asked.first asked.asks
            ((c.in-Some.ensures.some c.in-Some.request).0 refl) served.serves refl served.is;
      };
      joins = served.joins;
    }

pub returns-in-Some-read_standard : goal.returns-in-Some-read_standard
returns-in-Some-read_standard c =
    let asked = c.requires.asked in
    let done = c.answer_standard.ensures asked.submit asked.behind asked.first in
    record {
      puts = _;
      steps = record {
        plugged = ap presence_of c.requires.ready.plugged;
        leads = ByStandard asked.submit asked.behind c.args.asked.now.setup (standard_of c.in-Some-read_standard.request) asked.first asked.asks
            c.in-Some-read_standard.ensures.some.1 refl done.state;
      };
      joins = done.puts;
    }

pub returns-in_default-read_standard : goal.returns-in_default-read_standard
returns-in_default-read_standard c =
    let asked = c.requires.asked in
    let replied = c.stall.ensures asked.submit asked.behind asked.first in
    record {
      puts = _;
      steps = record {
        plugged = ap presence_of c.requires.ready.plugged;
        leads = Unknown asked.submit asked.behind c.args.asked.now.setup asked.first asked.asks
            (record { no_class = c.read_class.ensures.none.0 c.in_default.is; no_standard = c.in_default-read_standard.ensures.none }) refl replied.state;
      };
      joins = replied.puts;
    }

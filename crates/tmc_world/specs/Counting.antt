-- the counts of a link, which stop at the greatest `u64`
use Rattle.tmc_base.specs.Faults.{raised}
use Rattle.tmc_base.specs.Link.{Counts}

abbrev pub uncounted : Counts
uncounted = record { faults = 0; idles = 0; closings = 0 }

abbrev pub one_fault : Counts → Counts
one_fault counts = record counts { faults = raised counts.faults }

abbrev pub one_idle : Counts → Counts
one_idle counts = record counts { idles = raised counts.idles }

abbrev pub one_closing : Counts → Counts
one_closing counts = record counts { closings = raised counts.closings }

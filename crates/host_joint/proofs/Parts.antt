-- an ask from its parts
use Rattle.std.proofs.Common.{ℕ, Bool, List}
use Rattle.host_joint.specs.Jobs.{Job}
use Rattle.host_joint.specs.Asking.{Ask}

abbrev pub ask_of : (last : ℕ) (message : List ℕ) (tag size : ℕ) (written : List Job) (answered : ℕ) (sofar read : List ℕ) (gone : Bool) → Ask
ask_of last message tag size written answered sofar read gone = record {
  last = last;
  message = message;
  tag = tag;
  size = size;
  written = written;
  answered = answered;
  sofar = sofar;
  read = read;
  gone = gone;
}

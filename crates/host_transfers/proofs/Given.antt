-- the data that was given of all reads of a transfer
use Rattle.std.proofs.Common.{◌≡◌, ℕ, Bool, List, [], ◌∷◌, ◌++◌, sym, ◌∙◌, ap, append_assoc}
use Rattle.std.proofs.lemmas.List.{append-nil}
use Rattle.host_transfers.specs.declared.piece.Piece.{Piece}
use Rattle.host_transfers.specs.declared.piece.Piece.TheVariants.{Data, Ended, Bad}
use Rattle.host_transfers.specs.Assembly.{Says, Read, AreSaid, bytes_of, given_by, given, IsGood, AreGood}
use Rattle.host_transfers.specs.Piece.{data_of}

adds : (tag size : ℕ) (all read : List ℕ) (short : Bool) (said : Piece) → IsGood said → Says tag size all read short said → data_of (all ++ read) ≡ data_of all ++ given_by said read
adds tag size all read short (Data from to) good s = s.1.added
adds tag size all read short (Ended from to eom) good s = s.1.added
adds tag size all read short (Bad field) good s = absurd good

given_behind : (tag size : ℕ) (all : List ℕ) (reads : List Read) → AreSaid tag size all reads → AreGood reads → data_of (all ++ bytes_of reads) ≡ data_of all ++ given reads
given_behind tag size all [] s good = ap data_of (append-nil all) ∙ sym (append-nil (data_of all))
given_behind tag size all (one ∷ reads) s good =
    sym (ap data_of (append_assoc all one.read (bytes_of reads)))
    ∙ (given_behind tag size (all ++ one.read) reads s.1 good.1
    ∙ (ap (λ (l : List ℕ). l ++ given reads) (adds tag size all one.read one.short one.said good.0 s.0) ∙ append_assoc (data_of all) (given_by one.said one.read) (given reads)))

pub given_is : (tag size : ℕ) (reads : List Read) → AreSaid tag size [] reads → AreGood reads → given reads ≡ data_of (bytes_of reads)
given_is tag size reads s good = sym (given_behind tag size [] reads s good)

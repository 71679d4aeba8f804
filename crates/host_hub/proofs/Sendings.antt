-- how many messages were sent whole, as bytes are sent and as the record goes on
use Rattle.std.proofs.Common.{◌≡◌, ◌∙◌, ◌≤◌, ◌<◌, ◌+◌, ℕ, zero, suc, Bool, true, false, List, [], ◌∷◌, ◌++◌, length, take, drop, refl, sym, ap, subst, arith, append_assoc, length-append, take-append-drop}
use Rattle.std.proofs.Math.Seq.{take-add, take-append_seam, drop-append_seam}
use Rattle.std.proofs.lemmas.List.{take-append-le, drop-append-le, length-drop}
use Rattle.std.proofs.lemmas.Bool.{ltb-false, ltb-true}
use Rattle.std.specs.Prelude.{nat_lt}
use Rattle.usbip_wire.specs.Submit.{submit_bytes}
use Rattle.usbip_wire.specs.Unlink.{unlink_bytes}
use Rattle.usbip_wire.specs.Up as up
use Rattle.usbip_wire.specs.Urb.{fields}
use Rattle.host_hub.specs.Order.{Setting}
use Rattle.host_hub.specs.Record.{Past, written}
use Rattle.host_hub.specs.Tied.{AreSent, bytes_of, spelled}
use Rattle.host_hub.proofs.Undisturbing.{cut_front, spelled_join, written_more}

pub some_bytes : (m : up.Message) → 0 < length (bytes_of m)
unfolding submit_bytes unlink_bytes fields
some_bytes (up.Submit head transferred) = omega arith
some_bytes (up.Unlink head) = omega arith

no_cons : {A P : Type 0} (x : A) (xs : List A) → x ∷ xs ≡ [] → P
no_cons x xs e = cc

same_head : {A : Type 0} (x y : A) (xs ys : List A) → x ∷ xs ≡ y ∷ ys → x ≡ y
same_head x y xs ys e = cc

none_front : (a b : List ℕ) → a ++ b ≡ [] → a ≡ []
none_front [] b e = refl
none_front (x ∷ a) b e = no_cons x (a ++ b) e

none_dropped : (A : Type 0) (k : ℕ) → ◌≡◌ {A = List A} (drop k []) []
none_dropped A zero = refl
none_dropped A (suc k) = refl

drop_more : {A : Type 0} (n m : ℕ) (xs : List A) → drop (n + m) xs ≡ drop m (drop n xs)
drop_more zero m xs = let e : 0 + m ≡ m = omega arith in ap (λ (k : ℕ). drop k xs) e
drop_more {A} (suc n) m [] = none_dropped A (suc n + m) ∙ sym (none_dropped A m)
drop_more (suc n) m (x ∷ xs) = let e : suc n + m ≡ suc (n + m) = omega arith in ap (λ (k : ℕ). drop k (x ∷ xs)) e ∙ drop_more n m xs

-- of these messages so many were sent whole, and of the next one not all
record SentSo (ms : List up.Message) (sent : List ℕ) : Type 0 where
  pub count : ℕ
  pub among : count ≤ length ms
  pub part : List ℕ
  pub so_far : sent ≡ spelled (take count ms) ++ part
  pub next : (m : up.Message) (more : List up.Message) → drop count ms ≡ m ∷ more → length part < length (bytes_of m)
  pub none_left : drop count ms ≡ [] → part ≡ []

sent_so : (ms : List up.Message) (sent outbox : List ℕ) → sent ++ outbox ≡ spelled ms → SentSo ms sent
sent_so [] sent outbox e = record {
  count = 0;
  among = omega arith;
  part = [];
  so_far = none_front sent outbox e;
  next = λ m more f. no_cons m more (sym f);
  none_left = λ f. refl;
}
sent_so (m ∷ ms) sent outbox e = by (λ behind f. sent_so ms behind outbox f) (nat_lt (length sent) (length (bytes_of m))) refl
  where
    by : ((behind : List ℕ) → behind ++ outbox ≡ spelled ms → SentSo ms behind) → (b : Bool) → nat_lt (length sent) (length (bytes_of m)) ≡ b → SentSo (m ∷ ms) sent
    by again true short = record {
      count = 0;
      among = omega arith;
      part = sent;
      so_far = refl;
      next = λ n more f. subst (λ (q : up.Message). length sent < length (bytes_of q)) (same_head m n ms more f) (ltb-true (length sent) (length (bytes_of m)) short);
      none_left = λ f. no_cons m ms f;
    }
    by again false long = goes (again (drop (length (bytes_of m)) sent) rest)
      where
        enough : length (bytes_of m) ≤ length sent
        enough = ltb-false (length sent) (length (bytes_of m)) long

        first : take (length (bytes_of m)) sent ≡ bytes_of m
        first = sym (take-append-le (length (bytes_of m)) sent outbox enough) ∙ ap (λ (l : List ℕ). take (length (bytes_of m)) l) e
            ∙ take-append_seam (bytes_of m) (spelled ms)

        rest : drop (length (bytes_of m)) sent ++ outbox ≡ spelled ms
        rest = sym (drop-append-le (length (bytes_of m)) sent outbox enough) ∙ ap (λ (l : List ℕ). drop (length (bytes_of m)) l) e
            ∙ drop-append_seam (bytes_of m) (spelled ms)

        goes : SentSo ms (drop (length (bytes_of m)) sent) → SentSo (m ∷ ms) sent
        goes x = record {
          count = suc x.count;
          among = omega (arith, x.among);
          part = x.part;
          so_far = sym (take-append-drop (length (bytes_of m)) sent) ∙ ap (λ (l : List ℕ). l ++ drop (length (bytes_of m)) sent) first
              ∙ ap (λ (l : List ℕ). bytes_of m ++ l) x.so_far ∙ sym (append_assoc (bytes_of m) (spelled (take x.count ms)) x.part);
          next = x.next;
          none_left = x.none_left;
        }

-- the link sends more: the count grows
pub record SentOn (s : Setting) (past : Past) (sent : List ℕ) (count : ℕ) : Type 0 where
  pub later : ℕ
  pub grows : count ≤ later
  pub whole : AreSent s past sent later

pub sent_on : (s : Setting) (past : Past) (sent out outbox : List ℕ) (count : ℕ) → AreSent s past sent count → sent ++ (out ++ outbox) ≡ spelled (written s past)
    → SentOn s past (sent ++ out) count
sent_on s past sent out outbox count a e = goes (sent_so (drop count ms) (a.part ++ out) outbox behind)
  where
    ms : List up.Message
    ms = written s past

    whole : spelled ms ≡ spelled (take count ms) ++ spelled (drop count ms)
    whole = ap spelled (sym (take-append-drop count ms)) ∙ spelled_join (take count ms) (drop count ms)

    behind : (a.part ++ out) ++ outbox ≡ spelled (drop count ms)
    behind =
        cut_front (spelled (take count ms)) ((a.part ++ out) ++ outbox) (spelled (drop count ms))
        (ap (λ (l : List ℕ). spelled (take count ms) ++ l) (append_assoc a.part out outbox)
        ∙ sym (append_assoc (spelled (take count ms)) a.part (out ++ outbox))
        ∙ ap (λ (l : List ℕ). l ++ (out ++ outbox)) (sym a.sent_so_far)
        ∙ e
        ∙ whole)

    goes : SentSo (drop count ms) (a.part ++ out) → SentOn s past (sent ++ out) count
    goes x = record {
      later = count + x.count;
      grows = omega arith;
      whole = record {
        part = x.part;
        among = omega (arith, x.among, length-drop count ms, a.among);
        sent_so_far = ap (λ (l : List ℕ). l ++ out) a.sent_so_far ∙ append_assoc (spelled (take count ms)) a.part out
            ∙ ap (λ (l : List ℕ). spelled (take count ms) ++ l) x.so_far
            ∙ sym (append_assoc (spelled (take count ms)) (spelled (take x.count (drop count ms))) x.part)
            ∙ ap (λ (l : List ℕ). l ++ x.part)
            (sym (spelled_join (take count ms) (take x.count (drop count ms))) ∙ ap spelled (sym (take-add count x.count ms)));
        next = λ m more f. x.next m more (sym (drop_more count x.count ms) ∙ f);
        none_left = λ f. x.none_left (sym (drop_more count x.count ms) ∙ f);
      };
    }

-- messages are written: the count stays
pub sent_still : (s : Setting) (more past : Past) (sent : List ℕ) (count : ℕ) → AreSent s past sent count → AreSent s (more ++ past) sent count
sent_still s more past sent count a = record {
  part = a.part;
  among = omega (arith, a.among, ap length joined, length-append (written s past) (written s more));
  sent_so_far = a.sent_so_far ∙ ap (λ (ms : List up.Message). spelled ms ++ a.part)
      (sym (take-append-le count (written s past) (written s more) a.among) ∙ ap (λ (ms : List up.Message). take count ms) (sym joined));
  next = λ m behind f. first m behind (drop count (written s past)) refl (sym left ∙ f);
  none_left = λ f. a.none_left (nothing (drop count (written s past)) (sym left ∙ f));
}
  where
    joined : written s (more ++ past) ≡ written s past ++ written s more
    joined = written_more s more past

    left : drop count (written s (more ++ past)) ≡ drop count (written s past) ++ written s more
    left = ap (λ (ms : List up.Message). drop count ms) joined ∙ drop-append-le count (written s past) (written s more) a.among

    nothing : (ms : List up.Message) → ms ++ written s more ≡ [] → ms ≡ []
    nothing [] f = refl
    nothing (m ∷ ms) f = no_cons m (ms ++ written s more) f

    first : (m : up.Message) (behind ms : List up.Message) → drop count (written s past) ≡ ms → ms ++ written s more ≡ m ∷ behind → length a.part < length (bytes_of m)
    first m behind [] f g = omega (arith, ap length (a.none_left f), some_bytes m)
    first m behind (n ∷ ms) f g = subst (λ (q : up.Message). length a.part < length (bytes_of q)) (same_head n m (ms ++ written s more) behind g) (a.next n ms f)

-- nothing was sent
pub sent_none : (s : Setting) → AreSent s [] [] 0
sent_none s = record { part = []; among = omega arith; sent_so_far = refl; next = λ m more f. no_cons m more (sym f); none_left = λ f. refl }

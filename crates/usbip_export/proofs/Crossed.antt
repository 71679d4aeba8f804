-- what a node and a link do together, call by call
use Rattle.std.proofs.Common.{◌≡◌, ◌∙◌, ℕ, Bool, true, false, List, [], ◌++◌, take, drop, None, refl, sym, ap, subst, append_assoc, append-nil}
use Rattle.tmc_base.specs.Told.{Told, WentOut, CameIn, Exchanged, IsFront}
use Rattle.tmc_device.specs.Seen.{is_closed}
use Rattle.usbip_export.specs.Seen.{Seen, standing}
use Rattle.usbip_export.specs.Steps.{IsServing, AreArrivals, AreServing}
use Rattle.usbip_export.specs.Serving.{WorksBy, Crosses}
use Rattle.usbip_export.proofs.Worked.{sent_by, nothing_by, both_by, stays_closed}
use Rattle.usbip_export.proofs.More.{all_more}
use Rattle.usbip_export.proofs.Served.{arrivals_serve}
use Rattle.usbip_export.proofs.Exchanged.{exchanged_none, exchanged_out, exchanged_in, exchanged_more}

-- the node's own work
pub crosses_alone : {A : Type 0} (tells : A → Told) (ample : Type 0) (node later : Seen) (link : A) → WorksBy AreServing [] [] node later
    → Crosses tells ample node link later link
crosses_alone tells ample node later link works = record {
  bytes = [];
  sent = [];
  came = [];
  told = exchanged_none (tells link);
  works = works.works;
  only = works.only;
  front = ([], refl);
  shut = λ _. refl;
  all = λ _ _. refl;
}

pub crosses_sent : {A : Type 0} (tells : A → Told) (ample : Type 0) (node later : Seen) (link after : A) (count : ℕ)
    → WentOut (take count node.out) (tells link) (tells after) → later ≡ record node { out = drop count node.out }
    → Crosses tells ample node link later after
crosses_sent tells ample node later link after count went is =
    let made = subst (λ (s : Seen). WorksBy AreServing [] (take count node.out) node s) (sym is) (sent_by AreServing tt node count) in
    record {
      bytes = [];
      sent = take count node.out;
      came = [];
      told = exchanged_out [] [] (take count node.out) _ _ _ (exchanged_none (tells link)) went;
      works = made.works;
      only = made.only;
      front = ([], refl);
      shut = λ _. refl;
      all = λ _ _. refl;
    }

-- no byte moved
pub crosses_unsent : {A : Type 0} (tells : A → Told) (ample : Type 0) (node : Seen) (link after : A) → WentOut [] (tells link) (tells after)
    → Crosses tells ample node link node after
crosses_unsent tells ample node link after went = record {
  bytes = [];
  sent = [];
  came = [];
  told = exchanged_out [] [] [] _ _ _ (exchanged_none (tells link)) went;
  works = (nothing_by AreServing tt node).works;
  only = (nothing_by AreServing tt node).only;
  front = ([], refl);
  shut = λ _. refl;
  all = λ _ _. refl;
}

pub crosses_quiet : {A : Type 0} (tells : A → Told) (ample : Type 0) (node : Seen) (link after : A) → CameIn [] (tells link) (tells after)
    → Crosses tells ample node link node after
crosses_quiet tells ample node link after came = record {
  bytes = [];
  sent = [];
  came = [];
  told = exchanged_in [] [] [] _ _ _ (exchanged_none (tells link)) came;
  works = (nothing_by AreServing tt node).works;
  only = (nothing_by AreServing tt node).only;
  front = ([], refl);
  shut = λ _. refl;
  all = λ _ _. refl;
}

-- bytes came, and the node was fed them
pub crosses_fed : {A : Type 0} (tells : A → Told) (ample : Type 0) (node later : Seen) (link after : A) (bytes : List ℕ)
    → CameIn bytes (tells link) (tells after) → (is_closed (standing node).presence ≡ false → WorksBy AreArrivals bytes [] node later)
    → (is_closed (standing node).presence ≡ true → later ≡ node) → Crosses tells ample node link later after
crosses_fed {A} tells ample node later link after bytes came works same = by (is_closed (standing node).presence) refl where
  told : Exchanged [] bytes (tells link) (tells after)
  told = exchanged_in [] [] bytes _ _ _ (exchanged_none (tells link)) came

  clash : true ≡ false → ⊥
  clash e = cc

  by : (shut : Bool) → is_closed (standing node).presence ≡ shut → Crosses tells ample node link later after
  by true is =
      let made = subst (λ (s : Seen). WorksBy AreServing [] [] node s) (sym (same is)) (nothing_by AreServing tt node) in
      record {
        bytes = [];
        sent = [];
        came = bytes;
        told = told;
        works = made.works;
        only = made.only;
        front = (bytes, refl);
        shut = λ _. refl;
        all = λ _ unshut. absurd (clash (sym is ∙ (sym (ap (λ (s : Seen). is_closed (standing s).presence) (same is)) ∙ unshut)));
      }
  by false is = record {
    bytes = bytes;
    sent = [];
    came = bytes;
    told = told;
    works = (works is).works;
    only = arrivals_serve _ (works is).only;
    front = ([], sym (append-nil bytes));
    shut = λ shut. absurd (clash (sym shut ∙ is));
    all = λ _ _. refl;
  }

-- bytes came, and memory was wanting to feed them
pub crosses_lost : {A : Type 0} (tells : A → Told) (ample : Type 0) (node later : Seen) (link after : A) (bytes : List ℕ)
    → CameIn bytes (tells link) (tells after) → later ≡ node → (ample → ⊥) → Crosses tells ample node link later after
crosses_lost tells ample node later link after bytes came same wanting =
    let made = subst (λ (s : Seen). WorksBy AreServing [] [] node s) (sym same) (nothing_by AreServing tt node) in
    record {
      bytes = [];
      sent = [];
      came = bytes;
      told = exchanged_in [] [] bytes _ _ _ (exchanged_none (tells link)) came;
      works = made.works;
      only = made.only;
      front = (bytes, refl);
      shut = λ _. refl;
      all = λ ample _. absurd (wanting ample);
    }

-- a front of bytes that all were fed, and a front of those behind them
front_more : (a b c d : List ℕ) → a ≡ c → IsFront b d → IsFront (a ++ b) (c ++ d)
front_more a b c d same front = (front.0, ap (λ (l : List ℕ). c ++ l) front.1 ∙ (sym (append_assoc c b front.0) ∙ ap (λ (l : List ℕ). (l ++ b) ++ front.0) (sym same)))

front_none : (a b c d : List ℕ) → IsFront a c → b ≡ [] → IsFront (a ++ b) (c ++ d)
front_none a b c d front none = (
  front.0 ++ d,
  ap (λ (l : List ℕ). l ++ d) front.1
      ∙ (append_assoc a front.0 d ∙ ap (λ (l : List ℕ). l ++ (front.0 ++ d)) (sym (append-nil a) ∙ ap (λ (l : List ℕ). a ++ l) (sym none))),
)

pub crosses_more : {A : Type 0} (tells : A → Told) (ample : Type 0) (node mid later : Seen) (link between after : A) → mid.refused ≡ None
    → Crosses tells (Unit {0}) node link mid between → Crosses tells ample mid between later after → Crosses tells ample node link later after
crosses_more {A} tells ample node mid later link between after unshut first second = record {
  bytes = first.bytes ++ second.bytes;
  sent = first.sent ++ second.sent;
  came = first.came ++ second.came;
  told = exchanged_more first.sent first.came second.sent second.came _ _ _ first.told second.told;
  works = both.works;
  only = both.only;
  front = front (is_closed (standing mid).presence) refl;
  shut = λ was.
      let still = stays_closed first.works.took first.works.answered node mid was first.works.taken in
      ap (λ (l : List ℕ). l ++ second.bytes) (first.shut was) ∙ second.shut still;
  all = λ enough unclosed.
      ap (λ (l : List ℕ). l ++ second.bytes) (first.all tt (before (is_closed (standing mid).presence) refl unclosed))
      ∙ ap (λ (l : List ℕ). first.came ++ l) (second.all enough unclosed);
} where
  clash : true ≡ false → ⊥
  clash e = cc

  both : WorksBy AreServing (first.bytes ++ second.bytes) (first.sent ++ second.sent) node later
  both =
      both_by AreServing AreServing AreServing (all_more IsServing) first.bytes second.bytes first.sent second.sent node mid later unshut
      (record { works = first.works; only = first.only }) (record { works = second.works; only = second.only })

  front : (shut : Bool) → is_closed (standing mid).presence ≡ shut → IsFront (first.bytes ++ second.bytes) (first.came ++ second.came)
  front true is = front_none first.bytes second.bytes first.came second.came first.front (second.shut is)
  front false is = front_more first.bytes second.bytes first.came second.came (first.all tt is) second.front

  before : (shut : Bool) → is_closed (standing mid).presence ≡ shut → is_closed (standing later).presence ≡ false
      → is_closed (standing mid).presence ≡ false
  before false is unclosed = is
  before true is unclosed = absurd (clash (sym (stays_closed second.works.took second.works.answered mid later is second.works.taken) ∙ unclosed))

-- behind the node's own work
pub crosses_settled : {A : Type 0} (tells : A → Told) (ample : Type 0) (node mid later : Seen) (link after : A) → mid.refused ≡ None
    → Crosses tells (Unit {0}) node link mid after → WorksBy AreServing [] [] mid later → Crosses tells ample node link later after
crosses_settled tells ample node mid later link after unshut first works =
    crosses_more tells ample node mid later link after after unshut first (crosses_alone tells ample mid later after works)

-- where less is asked
pub crosses_for : {A : Type 0} (tells : A → Told) (ample enough : Type 0) (node later : Seen) (link after : A) → (enough → ample)
    → Crosses tells ample node link later after → Crosses tells enough node link later after
crosses_for tells ample enough node later link after weaker crosses = record {
  bytes = crosses.bytes;
  sent = crosses.sent;
  came = crosses.came;
  told = crosses.told;
  works = crosses.works;
  only = crosses.only;
  front = crosses.front;
  shut = crosses.shut;
  all = λ e. crosses.all (weaker e);
}

-- how the serving goes on and ends
use Rattle.std.proofs.Common.{◌≡◌, ◌≢◌, ◌⊎◌, inl, inr, ℕ, ◌+◌, ◌<◌, List, [], ◌∷◌, ◌++◌, length, Option, Ok, Err, Some, Bool, true, false, refl, sym, ap, ◌∙◌, subst}
use Rattle.usbip_export.specs.declared.serving.ServeEnd.TheVariants as end
use Rattle.tmc_live.specs.declared.net.NetFault.{NetFault}
use Rattle.tmc_live.specs.declared.net.NetFault.TheVariants as fault
use Rattle.tmc_live.specs.declared.status.Status.{Status}
use Rattle.tmc_live.specs.declared.status.Status.TheVariants.{Served, Usage, SinkFault, NoMemory, NetFault as NetFaulted}
use Rattle.tmc_live.specs.Line.{connection_line}
use Rattle.tmc_live.specs.Net.{Standing, Gives, Listens, IsFault, TakesOne, back_after}
use Rattle.tmc_base.specs.declared.sink.WriteStep.{WriteStep}
use Rattle.tmc_base.specs.Faults.{Rose}
use Rattle.tmc_base.specs.Sink.{PutsFront, put_after}
use Rattle.tmc_base.specs.Writing.{WriteRun}
use Rattle.tmc_live.specs.Live.{Ways, Connection, Puts, Breaks, Handles, Serves, none, more, Reaches, Lacks, Lost, Fails, deaf, lost, Unprinted, EndsServing, lines_of}
use Rattle.tmc_live.specs.Next.{PrintsFault, Next}
use Rattle.tmc_live.proofs.Lines.{length_more, lines_more, put_again, back_more, back_none, put_none}

-- a connection was accepted, served and taken back
pub handled : {N K L : Type 0} (w : Ways N K L) (net accepted new : N) (one : Connection L)
    → w.accepts net (Ok one.link) accepted → Gives {A = L} (Ok one.link) (w.standing net) (w.standing accepted) → w.back accepted ≡ w.back net
    → w.serves one.link one.end one.after
    → w.takes accepted one.after new → TakesOne (w.standing accepted) (w.standing new) → w.back new ≡ back_after one.after (w.back accepted)
    → Handles w net one new
handled w net accepted new one accepts gives same serves takes stands back = record {
  accepted = accepted;
  accepts = accepts;
  serves = serves;
  takes = takes;
  back = back ∙ ap (λ b. back_after one.after b) same;
  counts = ap (λ (s : Standing). s.faults) stands ∙ ap (λ (s : Standing). s.faults) gives;
}

-- the net listens still
pub listens_still : {L : Type 0} (link : L) (before mid after : Standing) → before.listens ≡ true → Gives {A = L} (Ok link) before mid → TakesOne mid after
    → after.listens ≡ true
listens_still link before mid after heard gives stands = ap (λ (s : Standing). s.listens) stands ∙ (ap (λ (s : Standing). s.listens) gives ∙ heard)

-- a text was written whole
pub line_put : {K : Type 0} (put : K → Option (List ℕ)) (faults : K → ℕ) (writes : K → List ℕ → WriteStep → K → Type 0) (sink after : K) (given text : List ℕ) (result : Bool)
    → given ≡ text → result ≡ true → (result ≡ true → put after ≡ put_after given (put sink)) → (result ≡ true → faults after ≡ faults sink)
    → WriteRun writes sink after result given → Puts put faults writes text sink after
line_put put faults writes sink after given text result same whole told counts run = record {
  told = subst (λ t. put after ≡ put_after t (put sink)) same (told whole);
  run = subst (λ t. WriteRun writes sink after true t) same (subst (λ r. WriteRun writes sink after r given) whole run);
  counts = counts whole;
}

-- a text was not written whole
pub line_broken : {K : Type 0} (put : K → Option (List ℕ)) (faults : K → ℕ) (writes : K → List ℕ → WriteStep → K → Type 0) (sink after : K) (given text : List ℕ) (result : Bool)
    → given ≡ text → result ≡ false → PutsFront given (put sink) (put after) → (result ≡ false → Rose (faults sink) (faults after))
    → WriteRun writes sink after result given → Breaks put faults writes text sink after
line_broken put faults writes sink after given text result same broken told rose run = record {
  told = subst (λ t. PutsFront t (put sink) (put after)) same told;
  run = subst (λ t. WriteRun writes sink after false t) same (subst (λ r. WriteRun writes sink after r given) broken run);
  rose = rose broken;
}

-- a call that gave nothing
pub lacks : {N K L : Type 0} (w : Ways N K L) (why : NetFault) (net new : N)
    → IsFault why (w.standing net) (w.standing new) → w.back new ≡ w.back net → Lacks w why net new
lacks w fault.Failed net new faulted same = record { back = same; rose = λ _. faulted.0; counts = λ e. absurd cc }
lacks w fault.Memory net new faulted same = record { back = same; rose = λ e. absurd cc; counts = λ _. ap (λ (s : Standing). s.faults) faulted }

-- the net listens, and nothing was accepted yet
pub reached_none : {N K L : Type 0} (w : Ways N K L) (address : List ℕ) (net listening : N) (sink : K)
    → w.opens net address (Ok (record {})) listening → Listens {A = Unit {0}} (Ok (record {})) (w.standing net) (w.standing listening)
    → w.back listening ≡ w.back net → Reaches w address net sink [] listening sink
reached_none w address net listening sink opens stands same = record {
  listening = listening;
  opens = opens;
  serves = none;
  back = same ∙ back_none (w.back net);
  put = put_none (w.put sink);
  net_counts = ap (λ (s : Standing). s.faults) stands;
  sink_counts = refl;
}

-- one connection more was served
pub reached_more : {N K L : Type 0} (w : Ways N K L) (address : List ℕ) (net mid new : N) (sink before after : K) (done : List (Connection L)) (one : Connection L)
    → Reaches w address net sink done mid before → Serves w (length done + 1) mid before one new after
    → Reaches w address net sink (done ++ one ∷ []) new after
reached_more w address net mid new sink before after done one r s = record {
  listening = r.listening;
  opens = r.opens;
  serves = more done one mid before new after r.serves s;
  back = s.handled.back ∙ (ap (λ b. back_after one.after b) r.back ∙ back_more done one (w.back net));
  put =
      s.printed.told
      ∙ (ap (λ p. put_line p) r.put ∙ (put_again (lines_of done) (connection_line (length done + 1) one.end) (w.put sink)
      ∙ ap (λ text. put_text text) (sym (lines_more done one))));
  net_counts = s.handled.counts ∙ r.net_counts;
  sink_counts = s.printed.counts ∙ r.sink_counts;
}
  where
    put_line : Option (List ℕ) → Option (List ℕ)
    put_line p = put_after (connection_line (length done + 1) one.end) p

    put_text : List ℕ → Option (List ℕ)
    put_text text = put_after text (w.put sink)

-- the same by the number of that connection
pub reached_at : {N K L : Type 0} (w : Ways N K L) (address : List ℕ) (number : ℕ) (net mid new : N) (sink before after : K) (done : List (Connection L)) (one : Connection L)
    → Reaches w address net sink done mid before → number ≡ length done + 1 → Serves w number mid before one new after
    → Reaches w address net sink (done ++ one ∷ []) new after
reached_at w address number net mid new sink before after done one r e s =
    reached_more w address net mid new sink before after done one r (subst (λ n. Serves w n mid before one new after) e s)

-- the net could not listen
pub ends_deaf : {N K L : Type 0} (w : Ways N K L) (address : List ℕ) (count : ℕ) (why : NetFault) (status : Status) (net new : N) (sink after : K)
    → w.opens net address (Err why) new → Lacks w why net new → PrintsFault w.put w.faults w.writes why status sink after
    → EndsServing w address count status net sink new after
ends_deaf w address count fault.Failed status net new sink after opens lacking (inl whole) =
    subst (λ s. EndsServing w address count s net sink new after) (sym whole.0) ([], sink, deaf opens lacking, whole.1)
ends_deaf w address count fault.Failed status net new sink after opens lacking (inr broken) =
    subst (λ s. EndsServing w address count s net sink new after) (sym broken.0) ([], sink, inl (deaf opens lacking, broken.1))
ends_deaf w address count fault.Memory status net new sink after opens lacking wanting =
    subst (λ s. EndsServing w address count s net sink new after) (sym wanting.0)
    ([], inl (subst (λ k. Fails w address count net sink fault.Memory new [] k) (sym wanting.1) (deaf opens lacking)))

-- the next connection ended the serving
pub ends_next : {N K L : Type 0} (w : Ways N K L) (address : List ℕ) (count : ℕ) (status : Status) (net mid new : N) (sink before after : K) (done : List (Connection L))
    → Reaches w address net sink done mid before → length done < count → Next w (length done + 1) (Some status) mid before new after
    → EndsServing w address count status net sink new after
ends_next w address count Served net mid new sink before after done r due next = absurd next
ends_next w address count Usage net mid new sink before after done r due next = absurd next
ends_next w address count NetFaulted net mid new sink before after done r due next = (done, before, lost done mid before r due next.0, next.1)
ends_next w address count SinkFault net mid new sink before after done r due (inl broken) =
    (done, before, inl (lost done mid before r due broken.0, broken.1))
ends_next w address count SinkFault net mid new sink before after done r due (inr unwritten) =
    (done, before, inr (unwritten.0, record { mid = mid; reached = r; due = due; handled = unwritten.1 }, unwritten.2, unwritten.3))
ends_next {L = L} w address count NoMemory net mid new sink before after done r due next =
    subst (λ k. EndsServing w address count NoMemory net sink new k) (sym next.1) (done, wanting next.0)
  where
    wanting : (Lost w fault.Memory mid new ⊎ ((one : Connection L) × Handles w mid one new))
        → Fails w address count net sink fault.Memory new done before ⊎ ((one : Connection L) × Unprinted w address count net sink one new done before)
    wanting (inl none_came) = inl (lost done mid before r due none_came)
    wanting (inr one_ended) = inr (one_ended.0, record { mid = mid; reached = r; due = due; handled = one_ended.1 })

-- the same by the number of that connection
pub ends_at : {N K L : Type 0} (w : Ways N K L) (address : List ℕ) (count number : ℕ) (status : Status) (net mid new : N) (sink before after : K) (done : List (Connection L))
    → Reaches w address net sink done mid before → length done < count → number ≡ length done + 1 → Next w number (Some status) mid before new after
    → EndsServing w address count status net sink new after
ends_at w address count number status net mid new sink before after done r due e next =
    ends_next w address count status net mid new sink before after done r due (subst (λ n. Next w n (Some status) mid before new after) e next)

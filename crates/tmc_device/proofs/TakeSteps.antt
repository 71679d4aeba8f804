-- packets that are taken are a step
use Rattle.std.proofs.Common.{◌≡◌, ◌≢◌, ◌∙◌, ℕ, ◌+◌, ◌*◌, ◌^◌, ◌<◌, ◌≤◌, min, List, [], ◌∷◌, ◌++◌, length, take, drop, Option, Some, None, refl, ap, sym, subst, arith}
use Rattle.std.proofs.lemmas.List.{length-drop, length-append, take_all}
use Rattle.tmc_wire.specs.declared.header.OutHeader.{OutHeader}
use Rattle.usbip_wire.specs.declared.urb.Dir.{Dir}
use Rattle.usbip_wire.specs.declared.urb.Dir.TheVariants.{Out}
use Rattle.tmc_wire.specs.Header.{IsOutHeader}
use Rattle.tmc_wire.specs.Transfer.{OutText, data_size}
use Rattle.tmc_law.specs.Acts.{Sized}
use Rattle.tmc_law.specs.Reached.{AllFit}
use Rattle.tmc_law.specs.Endpoint.{BulkOut}
use Rattle.tmc_law.specs.State.{State, Pending, Transfer, Plugged, transfer_size}
use Rattle.tmc_law.specs.Put.{ended, success}
use Rattle.tmc_law.specs.Halts.{halts, halt_answers}
use Rattle.tmc_law.specs.Packets.{moved_on}
use Rattle.tmc_law.specs.BulkOut.{message_most, packets_of, Empty, Spoiled, Inside, SubmitEnds, TransferEnds, DoesMove, Spoils, TakesEffect}
use Rattle.tmc_law.specs.Step.{Take}
use Rattle.endpoint_pipes.specs.Held.{Held, with_list}
use Rattle.endpoint_pipes.specs.Outcome.{first_of, left_of}
use Rattle.endpoint_pipes.specs.declared.outcome.Pending.{Pending as First}
use Rattle.tmc_device.specs.Events.{packets_there}
use Rattle.tmc_device.specs.declared.body.Body.{Body}
use Rattle.msg_exchange.specs.Held as exchange
use Rattle.msg_exchange.specs.Held.{Kept}
use Rattle.tmc_device.specs.Parts.{Outbox, Opening, header_in, transfer_of, taken_in, bytes_of}
use Rattle.tmc_device.specs.Seen.{Makes}
use Rattle.tmc_device.specs.Sound.{IsSound}
use Rattle.tmc_device.specs.Body.{state_of, seen_of, transfer_in, whole_of, IsJudged, IsWhole, HasEffect}
use Rattle.tmc_device.proofs.Beside.{effect_beside}
use Rattle.tmc_device.proofs.Firsts.{IsFirst}
use Rattle.tmc_device.proofs.Judging.{one_header}
use Rattle.tmc_device.proofs.Making.{quiet, loud}
use Rattle.tmc_device.proofs.Wanting.{wanted, whole_text}

not_empty : (l : List ℕ) → 0 < length l → l ≢ []
not_empty l some same = let zero : length l ≡ 0 = ap length same in omega (arith, some, zero)

-- the transfer that the next packet belongs to
abbrev pub on : Body → OutHeader → Transfer
on body header = record { header = header; taken = taken_in (transfer_in body) }

module _ (body : Body) (submit : Pending) (behind : List Pending) (header : OutHeader) (plugged : (state_of body).presence ≡ Plugged) (free : (state_of body).waiting ≡ None)
    (is : body.pipes.bulk_out ≡ submit ∷ behind) (length_some : 0 < submit.head.length) (judged : IsJudged body submit (Some header)) where
  -- the transfer goes on with this header, where one is in progress
  pub goes_with : (other : OutHeader) → header_in body.transfer ≡ Some other → other ≡ header
  goes_with other same = one_header (state_of body) submit (on body header) body.transfer body.exchange.coming other refl judged.1 same

  -- the submit has more
  pub some_made : (count : ℕ) (x : Kept) (p : Held) (t : Option Opening) → 0 < count → count < packets_of (length submit.left)
      → p ≡ record body.pipes { bulk_out = moved_on submit (take (count * 64) submit.left) (drop (count * 64) submit.left) ∷ behind }
      → x.held ≡ body.exchange.held → transfer_of t x.coming ≡ Some (record { header = header; taken = taken_in (transfer_in body) ++ take (count * 64) submit.left })
      → Makes (Take count) (seen_of body) (seen_of (record body { exchange = x; pipes = p; transfer = t }))
  some_made count x p t some more left held grown =
      let long = length-drop (count * 64) submit.left in
      quiet (Take count) (seen_of body) (seen_of (record body { exchange = x; pipes = p; transfer = t })) plugged (
        free,
        Inside submit (moved_on submit (take (count * 64) submit.left) (drop (count * 64) submit.left)) behind (on body header)
            (record { header = header; taken = taken_in (transfer_in body) ++ take (count * 64) submit.left }) is (λ zero. omega (arith, length_some, zero)) some judged.0 judged.1 (DoesMove refl refl)
            (not_empty (drop (count * 64) submit.left) (omega (arith, long, more))) refl
            (ap (λ (h : exchange.Held). state_of (record body { exchange = record x { held = h }; pipes = p; transfer = t })) held
            ∙ ap (λ (h : Held). state_of (record body { exchange = record body.exchange { coming = x.coming }; pipes = h; transfer = t })) left
            ∙ ap (λ (o : Option Transfer). record (state_of body) { bulk_out = moved_on submit (take (count * 64) submit.left) (drop (count * 64) submit.left) ∷ behind; transfer = o }) grown),
      )
      refl

  -- its rest is taken
  abbrev pub rest_of : ℕ → Pending
  rest_of count = moved_on submit (take (count * 64) submit.left) (drop (count * 64) submit.left)

  abbrev pub rest_grown : ℕ → Transfer
  rest_grown count = record { header = header; taken = taken_in (transfer_in body) ++ take (count * 64) submit.left }

  rest_state : (count : ℕ) (x : Kept) (p q : Held) (t : Option Opening) (o : Outbox) → x.held ≡ body.exchange.held → p ≡ record body.pipes { bulk_out = rest_of count ∷ behind }
      → q ≡ with_list BulkOut behind p
      → state_of (record body { exchange = x; pipes = q; transfer = t; outputs = o }) ≡ record (state_of body) { bulk_out = behind; transfer = transfer_of t x.coming }
  rest_state count x p q t o held left gone =
      ap (λ (h : exchange.Held). state_of (record body { exchange = record x { held = h }; pipes = q; transfer = t; outputs = o })) held
      ∙ ap (λ (h : Held). state_of (record body { exchange = record body.exchange { coming = x.coming }; pipes = h; transfer = t; outputs = o }))
      (gone ∙ ap (λ (h : Held). with_list BulkOut behind h) left)

  all_taken : (count : ℕ) → count ≡ packets_of (length submit.left) → take (count * 64) submit.left ≡ submit.left
  all_taken count all = take_all (count * 64) submit.left (omega (arith, all))

  pub rest_made : (count : ℕ) (x : Kept) (p q : Held) (t : Option Opening) (o : Outbox) → count ≡ packets_of (length submit.left)
      → x.held ≡ body.exchange.held → p ≡ record body.pipes { bulk_out = rest_of count ∷ behind } → q ≡ with_list BulkOut behind p
      → transfer_of t x.coming ≡ Some (record { header = header; taken = taken_in (transfer_in body) ++ submit.left })
      → o.puts ≡ body.outputs.puts ++ ended success (rest_of count) ∷ [] → length (taken_in (transfer_in body) ++ submit.left) < transfer_size (data_size header)
      → Makes (Take count) (seen_of body) (seen_of (record body { exchange = x; pipes = q; transfer = t; outputs = o }))
  rest_made count x p q t o all held left gone grown put less =
      let same = all_taken count all in
      loud (Take count) (seen_of body) (seen_of (record body { exchange = x; pipes = q; transfer = t; outputs = o })) (ended success (rest_of count) ∷ []) plugged (
        free,
        SubmitEnds submit (rest_of count) behind (on body header) (rest_grown count) is (λ zero. omega (arith, length_some, zero)) all judged.0 judged.1 (DoesMove refl refl)
            (let long = ap (λ (l : List ℕ). length (taken_in (transfer_in body) ++ l)) same in λ zero. omega (arith, less, long, zero)) refl
            (rest_state count x p q t o held left gone
            ∙ ap (λ (v : Option Transfer). record (state_of body) { bulk_out = behind; transfer = v })
            (grown ∙ ap (λ (l : List ℕ). Some (record { header = header; taken = taken_in (transfer_in body) ++ l })) (sym same))),
      )
      put

  pub whole_made : (count seqnum : ℕ) (x : Kept) (p q : Held) (t : Option Opening) (o : Outbox) (new : Body) → submit.head.seqnum ≡ seqnum → count ≡ packets_of (length submit.left)
      → x.held ≡ body.exchange.held → p ≡ record body.pipes { bulk_out = rest_of count ∷ behind } → q ≡ with_list BulkOut behind p
      → o.puts ≡ body.outputs.puts ++ ended success (rest_of count) ∷ [] → length (taken_in (transfer_in body) ++ submit.left) ≡ transfer_size (data_size header)
      → transfer_of t x.coming ≡ Some (record { header = header; taken = taken_in (transfer_in body) ++ submit.left })
      → HasEffect seqnum header (record body { exchange = x; pipes = q; transfer = t; outputs = o }) new
      → new.outputs ≡ o
      → Makes (Take count) (seen_of body) (seen_of new)
  whole_made count seqnum x p q t o new number all held left gone put whole grown effect same_outputs =
      let same = all_taken count all in
      let before = record (state_of (record body { exchange = x; pipes = q; transfer = t; outputs = o })) { transfer = None } in
      loud (Take count) (seen_of body) (seen_of new) (ended success (rest_of count) ∷ []) plugged (
        free,
        TransferEnds submit (rest_of count) behind (on body header) (rest_grown count) is (λ zero. omega (arith, length_some, zero)) all judged.0 judged.1 (DoesMove refl refl)
            (let long = ap (λ (l : List ℕ). length (taken_in (transfer_in body) ++ l)) same in omega (arith, whole, long))
            (subst (λ (l : List ℕ). TakesEffect submit.head.seqnum (record { header = header; taken = taken_in (transfer_in body) ++ l }) (record (state_of body) { bulk_out = behind; transfer = None }) (state_of new)) (sym same)
            (subst (λ (s : State). TakesEffect submit.head.seqnum (record { header = header; taken = taken_in (transfer_in body) ++ submit.left }) (record s { transfer = None }) (state_of new))
            (rest_state count x p q t o held left gone)
            (subst (λ (n : ℕ). TakesEffect n (record { header = header; taken = taken_in (transfer_in body) ++ submit.left }) before (state_of new)) (sym number)
            (subst (λ (l : List ℕ). TakesEffect seqnum (record { header = header; taken = l }) before (state_of new))
            (ap (λ (v : Option Transfer). bytes_of v q.bulk_out) grown) effect))))
            refl,
      )
      (ap (λ (b : Outbox). b.puts) same_outputs ∙ put)

  -- what its effect needs
  pub whole_there : (x : Kept) (q : Held) (t : Option Opening) (o : Outbox) → IsSound (state_of body) → x.held ≡ body.exchange.held
      → transfer_of t x.coming ≡ Some (record { header = header; taken = taken_in (transfer_in body) ++ submit.left })
      → length (taken_in (transfer_in body) ++ submit.left) ≡ transfer_size (data_size header) → IsWhole (record body { exchange = x; pipes = q; transfer = t; outputs = o }) header
  whole_there x q t o sound held grown whole =
      let w = wanted (state_of body) submit behind (on body header) sound is judged.0 judged.1 in record {
        text =
            subst (λ (l : List ℕ). OutText header (take (data_size header) (drop 12 l)) l) (sym (ap (λ (v : Option Transfer). bytes_of v q.bulk_out) grown))
            (whole_text header (taken_in (transfer_in body) ++ submit.left) w.headed whole);
        fits = subst (λ (h : exchange.Held). length h.part + data_size header ≤ message_most) (sym held) w.place;
      }

  -- the same where the submit is a whole transfer
  first_bytes : body.transfer ≡ None → whole_of body ≡ submit.left
  first_bytes begins = ap (λ (t : Option Opening). bytes_of (transfer_of t body.exchange.coming) body.pipes.bulk_out) begins ∙ ap left_of is

  none_before : body.transfer ≡ None → taken_in (transfer_in body) ++ submit.left ≡ submit.left
  none_before begins = ap (λ (t : Option Opening). taken_in (transfer_of t body.exchange.coming) ++ submit.left) begins

  pub first_whole : IsSound (state_of body) → body.transfer ≡ None → length submit.left ≡ transfer_size (data_size header) → IsWhole body header
  first_whole sound begins whole =
      let w = wanted (state_of body) submit behind (on body header) sound is judged.0 judged.1 in record {
        text =
            subst (λ (l : List ℕ). OutText header (take (data_size header) (drop 12 l)) l) (sym (first_bytes begins))
            (whole_text header submit.left (subst (λ (l : List ℕ). IsOutHeader header (take 12 l)) (none_before begins) w.headed) whole);
        fits = w.place;
      }

  -- it took effect before the submit was answered
  pub first_made : (count seqnum : ℕ) (mid : Body) (p q : Held) (o : Outbox) → submit.head.seqnum ≡ seqnum → count ≡ packets_of (length submit.left)
      → body.transfer ≡ None → length submit.left ≡ transfer_size (data_size header) → HasEffect seqnum header body mid → mid.outputs ≡ body.outputs
      → p ≡ record mid.pipes { bulk_out = rest_of count ∷ behind } → q ≡ with_list BulkOut behind p → o.puts ≡ mid.outputs.puts ++ ended success (rest_of count) ∷ []
      → Makes (Take count) (seen_of body) (seen_of (record mid { pipes = q; outputs = o }))
  first_made count seqnum mid p q o number all begins whole effect same_outputs left gone put =
      let same = all_taken count all in
      let bytes : whole_of body ≡ taken_in (transfer_in body) ++ take (count * 64) submit.left =
      first_bytes begins ∙ sym same ∙ sym (ap (λ (t : Option Opening). taken_in (transfer_of t body.exchange.coming) ++ take (count * 64) submit.left) begins) in
      loud (Take count) (seen_of body) (seen_of (record mid { pipes = q; outputs = o })) (ended success (rest_of count) ∷ []) plugged (
        free,
        TransferEnds submit (rest_of count) behind (on body header) (rest_grown count) is (λ zero. omega (arith, length_some, zero)) all judged.0 judged.1 (DoesMove refl refl)
            (let long = ap (λ (l : List ℕ). length l) (sym bytes ∙ first_bytes begins) in omega (arith, whole, long))
            (subst (λ (t : State). TakesEffect submit.head.seqnum (rest_grown count) (record (state_of body) { bulk_out = behind; transfer = None }) t)
            (sym (ap (λ (held : Held). state_of (record mid { pipes = held; outputs = o })) (gone ∙ ap (λ (held : Held). with_list BulkOut behind held) left)))
            (subst (λ (n : ℕ). TakesEffect n (rest_grown count) (record (state_of body) { bulk_out = behind; transfer = None }) (record (state_of mid) { bulk_out = behind })) (sym number)
            (subst (λ (l : List ℕ). TakesEffect seqnum (record { header = header; taken = l }) (record (state_of body) { bulk_out = behind; transfer = None }) (record (state_of mid) { bulk_out = behind })) bytes
            (effect_beside seqnum (record { header = header; taken = whole_of body }) (record (state_of body) { transfer = None }) (state_of mid) behind effect))))
            refl,
      )
      (put ∙ ap (λ (b : Outbox). b.puts ++ ended success (rest_of count) ∷ []) same_outputs)

  pub rest_length : IsSound (state_of body) → length (taken_in (transfer_in body) ++ submit.left) ≤ transfer_size (data_size header)
  rest_length sound =
      let w = wanted (state_of body) submit behind (on body header) sound is judged.0 judged.1 in
      let rest = w.rest in let long = length-append (taken_in (transfer_in body)) submit.left in omega (arith, rest, long)

pub first_left : (list : List Pending) (n : ℕ) → 0 < n → n < packets_of (length (left_of list)) → IsFirst list
first_left [] n some more = absurd (omega (arith, some, more))
first_left (submit ∷ behind) n some more = record { submit = submit; behind = behind; is = refl }

sized_out : (d : Dir) (submit : Pending) → d ≡ Out → Sized d submit → length submit.left ≤ submit.head.length
sized_out d submit way sized = let both = subst (λ (v : Dir). Sized v submit) way sized in omega (arith, both)

-- a submit has less than 2 ^ 32 packets
pub few_packets : (s : State) (submit : Pending) (behind : List Pending) → IsSound s → s.bulk_out ≡ submit ∷ behind → packets_of (length submit.left) < 2 ^ 32
few_packets s submit behind sound is =
    let fits = (subst (AllFit BulkOut) is (sound.stand BulkOut)).0 in
    let wide : submit.head.length < 2 ^ 32 = fits.came.wide 3 in
    let less = sized_out submit.head.dir submit fits.way fits.sized in omega (arith, wide, less)

pub first_value : (list : List Pending) (submit : Pending) (behind : List Pending) (first : First) → list ≡ submit ∷ behind → first_of list ≡ Some first
    → first ≡ record { head = submit.head; moved = length submit.moved }
first_value list submit behind first is value =
    let both : ◌≡◌ {A = Option First} (Some first) (Some (record { head = submit.head; moved = length submit.moved })) = sym value ∙ ap first_of is in cc

-- a submit of length 0 is answered
pub empty_made : (body : Body) (submit : Pending) (behind : List Pending) (most : ℕ) (p : Held) (o : Outbox) → IsSound (state_of body) → (state_of body).presence ≡ Plugged
    → (state_of body).waiting ≡ None → body.pipes.bulk_out ≡ submit ∷ behind → submit.head.length ≡ 0 → 0 < most → p ≡ with_list BulkOut behind body.pipes
    → o.puts ≡ body.outputs.puts ++ ended success submit ∷ [] → Makes (Take (min most (packets_there (state_of body)))) (seen_of body) (seen_of (record body { pipes = p; outputs = o }))
empty_made body submit behind most p o sound plugged free is zero some left put =
    let fits = (subst (AllFit BulkOut) is (sound.stand BulkOut)).0 in
    let less = sized_out submit.head.dir submit fits.way fits.sized in
    let there : packets_there (state_of body) ≡ packets_of (length submit.left) = ap (λ (l : List Pending). packets_of (length (left_of l))) is in
    loud (Take (min most (packets_there (state_of body)))) (seen_of body) (seen_of (record body { pipes = p; outputs = o })) (ended success submit ∷ []) plugged
    (free, Empty submit behind is zero (omega (arith, there, less, zero, some)) refl (ap (λ (held : Held). state_of (record body { pipes = held; outputs = o })) left)) put

-- the header or the length is refused
pub spoiled_made : (body new : Body) (submit : Pending) (behind : List Pending) (most : ℕ) → (state_of body).presence ≡ Plugged
    → (state_of body).waiting ≡ None → body.pipes.bulk_out ≡ submit ∷ behind → 0 < submit.head.length → 0 < most → Spoils (state_of body) submit
    → state_of new ≡ halts BulkOut (state_of body) → new.outputs.puts ≡ body.outputs.puts ++ halt_answers BulkOut (state_of body)
    → Makes (Take (min most (packets_there (state_of body)))) (seen_of body) (seen_of new)
spoiled_made body new submit behind most plugged free is long some spoils state put =
    let there : packets_there (state_of body) ≡ packets_of (length submit.left) = ap (λ (l : List Pending). packets_of (length (left_of l))) is in
    loud (Take (min most (packets_there (state_of body)))) (seen_of body) (seen_of new) (halt_answers BulkOut (state_of body)) plugged
    (free, Spoiled submit behind is (λ zero. omega (arith, long, zero)) (omega (arith, there, some)) (omega (arith, there)) spoils refl state) put

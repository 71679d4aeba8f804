-- what ends a serving, and what follows from that
use Rattle.std.proofs.Common.{◌≡◌, ◌≢◌, ◌⊎◌, inl, inr, ◌∙◌, ◌↔◌, ℕ, ◌+◌, ◌<◌, ◌≤◌, List, Option, Some, None, refl, sym, ap, subst, arith}
use Rattle.tmc_base.specs.declared.field.Field.{Field}
use Rattle.tmc_base.specs.declared.link.SendStep.{SendStep}
use Rattle.tmc_base.specs.declared.link.SendStep.TheVariants as send
use Rattle.tmc_base.specs.declared.link.PollStep.{PollStep}
use Rattle.tmc_base.specs.declared.link.PollStep.TheVariants as poll
use Rattle.tmc_base.specs.Faults.{Rose}
use Rattle.tmc_base.specs.Link.{Counts, SendCounts, PollCounts}
use Rattle.usbip_export.specs.declared.fed.Fed.TheVariants as fed
use Rattle.usbip_export.specs.declared.serving.ServeEnd.{ServeEnd}
use Rattle.usbip_export.specs.declared.serving.ServeEnd.TheVariants as end
use Rattle.usbip_export.specs.Seen.{Seen}
use Rattle.usbip_export.specs.Events.{IsCalm}
use Rattle.usbip_export.specs.Serving.{IsUnplugged, IsSentOff}
use Rattle.usbip_export.specs.Ending.{IsGoing, Stops, IsFaultless, IsCall, Sent, Unsent, Got, Quiet, Calls, none, more, Closes, Closed, Fails, SendFailed, PollFailed, Wants, SendWants, PollWants, Ends, BetweenCalls, AtCall, IsLast, CameTo}

-- ---- counts

pub same_counts : (old new : Counts) → new ≡ old → IsFaultless old new
same_counts old new same = record {
  faults = ap (λ (c : Counts). c.faults) same;
  closings = ap (λ (c : Counts). c.closings) same;
}

pub sent_idle : (old new : Counts) → SendCounts send.Idle old new → IsFaultless old new
sent_idle old new idle = record {
  faults = ap (λ (c : Counts). c.faults) idle.1;
  closings = ap (λ (c : Counts). c.closings) idle.1;
}

pub got_idle : (old new : Counts) → PollCounts poll.Idle old new → IsFaultless old new
got_idle old new idle = record {
  faults = ap (λ (c : Counts). c.faults) idle.1;
  closings = ap (λ (c : Counts). c.closings) idle.1;
}

-- ---- what the node refused

abbrev field_in : ServeEnd → Field → Field
field_in (end.Refused f) otherwise = f
field_in _ otherwise = otherwise

abbrev some_field : Option Field → Field → Field
some_field (Some f) otherwise = f
some_field None otherwise = otherwise

unlike : (f : Field) (bad : Option Field) → bad ≡ None → bad ≡ Some f → ⊥
unlike f bad unrefused refused = clash (sym unrefused ∙ refused) where
  clash : None ≡ Some f → ⊥
  clash e = cc

stops_refused : (ended : ServeEnd) (node : Seen) → Stops ended node → (f : Field) → (ended ≡ end.Refused f) ↔ (node.refused ≡ Some f)
stops_refused (end.Refused g) node stops f = (
  λ e. stops ∙ ap Some (ap (λ (x : ServeEnd). field_in x g) e),
  λ refused. ap end.Refused (ap (λ (o : Option Field). some_field o g) (sym stops ∙ refused)),
)
stops_refused end.Closed node stops f = (λ e. cc, λ refused. absurd (unlike f node.refused stops.unplugged.unrefused refused))
stops_refused end.Memory node stops f = (λ e. cc, λ refused. absurd (unlike f node.refused stops refused))
stops_refused end.Spent node stops f = (λ e. cc, λ refused. absurd (unlike f node.refused stops.unrefused refused))
stops_refused end.LinkFault node stops f = absurd stops

-- a piece was taken, and no field of it is refused
pub fed_unrefused : (bad : Option Field) → ((f : Field) → (fed.Ok ≡ fed.Refused f) ↔ (bad ≡ Some f)) → bad ≡ None
fed_unrefused None told = refl
fed_unrefused (Some f) told = absurd (good ((told f).1 refl)) where
  good : fed.Ok ≡ fed.Refused f → ⊥
  good e = cc

abbrev end_in : Option ServeEnd → ServeEnd → ServeEnd
end_in (Some e) otherwise = e
end_in None otherwise = otherwise

pub unlike_some : (e other : ServeEnd) → e ≢ other → Some e ≢ Some other
unlike_some e other unlike same = unlike (ap (λ (o : Option ServeEnd). end_in o e) same)

module _ {A : Type 0} (counts : A → Counts) (sends : A → List ℕ → SendStep → A → Type 0) (polls : A → ℕ → PollStep → List ℕ → A → Type 0) where
  call_counts : (old new : A) → IsCall counts sends polls old new → IsFaultless (counts old) (counts new)
  call_counts old new (Sent piece count some goes counted) = counted
  call_counts old new (Unsent piece goes counted) = counted
  call_counts old new (Got room count bytes some goes counted) = counted
  call_counts old new (Quiet room bytes goes counted) = counted

  calls_counts : (old : A) (made : ℕ) (new : A) → Calls counts sends polls old made new → IsFaultless (counts old) (counts new)
  calls_counts old made new none = record { faults = refl; closings = refl }
  calls_counts old made new (more count mid last calls call) =
      let before = calls_counts old count mid calls in
      let then = call_counts mid last call in
      record { faults = then.faults ∙ before.faults; closings = then.closings ∙ before.closings }

  closes_counts : (old new : A) → Closes counts sends polls old new
      → Rose (counts old).closings (counts new).closings × ((counts new).faults ≡ (counts old).faults)
  closes_counts old new (Closed room bytes goes counted) = (counted.0, ap (λ (c : Counts). c.faults) counted.1)

  fails_counts : (old new : A) → Fails counts sends polls old new
      → Rose (counts old).faults (counts new).faults × ((counts new).closings ≡ (counts old).closings)
  fails_counts old new (SendFailed piece goes counted) = (counted.0, ap (λ (c : Counts). c.closings) counted.1)
  fails_counts old new (PollFailed room bytes goes counted) = (counted.0, ap (λ (c : Counts). c.closings) counted.1)

  wants_counts : (old new : A) → Wants counts sends polls old new → IsFaultless (counts old) (counts new)
  wants_counts old new (SendWants piece goes counted) = same_counts (counts old) (counts new) counted
  wants_counts old new (PollWants room bytes goes counted) = same_counts (counts old) (counts new) counted

  -- ---- what ended it

  pub ends_at_once : (turns : ℕ) (f : Field) (node : Seen) (old : A) → node.refused ≡ Some f → Ends counts sends polls turns (end.Refused f) old node old
  ends_at_once turns f node old refused = BetweenCalls 0 (omega arith) (λ e. cc) none refused

  pub ends_settled : (turns made : ℕ) (ended : ServeEnd) (old : A) (node : Seen) (new : A) → made ≤ turns → Calls counts sends polls old made new
      → ended ≢ end.Spent → Stops ended node → Ends counts sends polls turns ended old node new
  ends_settled turns made ended old node new within calls unspent stops = BetweenCalls made within (λ spent. absurd (unspent spent)) calls stops

  pub ends_spent : (turns made : ℕ) (old : A) (node : Seen) (new : A) → made ≡ turns → Calls counts sends polls old made new → IsGoing node
      → Ends counts sends polls turns end.Spent old node new
  ends_spent turns made old node new all calls going = BetweenCalls made (omega (arith, all)) (λ _. all) calls going

  pub ends_called : (turns made : ℕ) (ended : ServeEnd) (old : A) (node : Seen) (mid : A) (later : Seen) (new : A) → made < turns
      → Calls counts sends polls old made mid → IsGoing node → CameTo counts sends polls (Some ended) node mid later new
      → Ends counts sends polls turns ended old later new
  ends_called turns made (end.Refused f) old node mid later new within calls going came =
      BetweenCalls (made + 1) (omega (arith, within)) (λ e. cc) (more made mid new calls came.0) came.1
  ends_called turns made end.Closed old node mid later new within calls going came =
      AtCall made mid within calls (
        came.0,
        subst IsSentOff (sym came.1) (record { spelled = going.spelled; sent = came.2 }),
        subst IsCalm (sym came.1) going.calm,
      ) (ap (λ (s : Seen). s.refused) came.1 ∙ going.unrefused)
  ends_called turns made end.LinkFault old node mid later new within calls going came = AtCall made mid within calls came.0 came.1
  ends_called turns made end.Memory old node mid later new within calls going came = by came.0 where
    by : IsCall counts sends polls mid new ⊎ Wants counts sends polls mid new → Ends counts sends polls turns end.Memory old later new
    by (inl call) = BetweenCalls (made + 1) (omega (arith, within)) (λ e. cc) (more made mid new calls call) came.1
    by (inr wants) = AtCall made mid within calls wants came.1
  ends_called turns made end.Spent old node mid later new within calls going came = absurd came

  -- ---- what follows

  pub ends_refused : (turns : ℕ) (ended : ServeEnd) (old : A) (node : Seen) (new : A) → Ends counts sends polls turns ended old node new → (f : Field)
      → (ended ≡ end.Refused f) ↔ (node.refused ≡ Some f)
  ends_refused turns ended old node new (BetweenCalls made within spent calls stops) f = stops_refused ended node stops f
  ends_refused turns ended old node new (AtCall made mid within calls last unrefused) f = (
    λ e. absurd (subst (λ (x : ServeEnd). IsLast counts sends polls x mid node new) e last),
    λ refused. absurd (unlike f node.refused unrefused refused),
  )

  when_closed : (turns : ℕ) (old : A) (node : Seen) (new : A) → Ends counts sends polls turns end.Closed old node new
      → (Rose (counts old).closings (counts new).closings ⊎ IsUnplugged node) × IsSentOff node × IsCalm node
  when_closed turns old node new (BetweenCalls made within spent calls stops) = (inr stops.unplugged, stops.sent, stops.calm)
  when_closed turns old node new (AtCall made mid within calls last unrefused) = (
    inl (subst (λ n. Rose n (counts new).closings) (calls_counts old made mid calls).closings (closes_counts mid new last.0).0),
    last.1,
    last.2,
  )

  pub ends_unclosed : (turns : ℕ) (ended : ServeEnd) (old : A) (node : Seen) (new : A) → Ends counts sends polls turns ended old node new
      → ended ≢ end.Closed → (counts new).closings ≡ (counts old).closings
  ends_unclosed turns ended old node new (BetweenCalls made within spent calls stops) other = (calls_counts old made new calls).closings
  ends_unclosed turns ended old node new (AtCall made mid within calls last unrefused) other =
      by ended last other ∙ (calls_counts old made mid calls).closings where
        by : (e : ServeEnd) → IsLast counts sends polls e mid node new → e ≢ end.Closed → (counts new).closings ≡ (counts mid).closings
        by end.Closed is unlike = absurd (unlike refl)
        by end.LinkFault is unlike = (fails_counts mid new is).1
        by end.Memory is unlike = (wants_counts mid new is).closings
        by (end.Refused f) is unlike = absurd is
        by end.Spent is unlike = absurd is

  when_failed : (turns : ℕ) (old : A) (node : Seen) (new : A) → Ends counts sends polls turns end.LinkFault old node new
      → Rose (counts old).faults (counts new).faults
  when_failed turns old node new (BetweenCalls made within spent calls stops) = absurd stops
  when_failed turns old node new (AtCall made mid within calls last unrefused) =
      subst (λ n. Rose n (counts new).faults) (calls_counts old made mid calls).faults (fails_counts mid new last).0

  pub ends_faultless : (turns : ℕ) (ended : ServeEnd) (old : A) (node : Seen) (new : A) → Ends counts sends polls turns ended old node new
      → ended ≢ end.LinkFault → (counts new).faults ≡ (counts old).faults
  ends_faultless turns ended old node new (BetweenCalls made within spent calls stops) other = (calls_counts old made new calls).faults
  ends_faultless turns ended old node new (AtCall made mid within calls last unrefused) other =
      by ended last other ∙ (calls_counts old made mid calls).faults where
        by : (e : ServeEnd) → IsLast counts sends polls e mid node new → e ≢ end.LinkFault → (counts new).faults ≡ (counts mid).faults
        by end.Closed is unlike = (closes_counts mid new is.0).1
        by end.LinkFault is unlike = absurd (unlike refl)
        by end.Memory is unlike = (wants_counts mid new is).faults
        by (end.Refused f) is unlike = absurd is
        by end.Spent is unlike = absurd is

  when_spent : (turns : ℕ) (old : A) (node : Seen) (new : A) → Ends counts sends polls turns end.Spent old node new
      → Calls counts sends polls old turns new × IsCalm node
  when_spent turns old node new (BetweenCalls made within spent calls stops) =
      (subst (λ n. Calls counts sends polls old n new) (spent refl) calls, stops.calm)
  when_spent turns old node new (AtCall made mid within calls last unrefused) = absurd last

  ends_as : (turns : ℕ) (ended other : ServeEnd) (old : A) (node : Seen) (new : A) → Ends counts sends polls turns ended old node new → ended ≡ other
      → Ends counts sends polls turns other old node new
  ends_as turns ended other old node new ends is = subst (λ (x : ServeEnd). Ends counts sends polls turns x old node new) is ends

  pub ends_closed : (turns : ℕ) (ended : ServeEnd) (old : A) (node : Seen) (new : A) → Ends counts sends polls turns ended old node new
      → ended ≡ end.Closed → Rose (counts old).closings (counts new).closings ⊎ IsUnplugged node
  ends_closed turns ended old node new ends is = (when_closed turns old node new (ends_as turns ended end.Closed old node new ends is)).0

  pub ends_sent : (turns : ℕ) (ended : ServeEnd) (old : A) (node : Seen) (new : A) → Ends counts sends polls turns ended old node new
      → ended ≡ end.Closed → IsSentOff node
  ends_sent turns ended old node new ends is = (when_closed turns old node new (ends_as turns ended end.Closed old node new ends is)).1

  pub ends_fault : (turns : ℕ) (ended : ServeEnd) (old : A) (node : Seen) (new : A) → Ends counts sends polls turns ended old node new
      → ended ≡ end.LinkFault → Rose (counts old).faults (counts new).faults
  ends_fault turns ended old node new ends is = when_failed turns old node new (ends_as turns ended end.LinkFault old node new ends is)

  pub ends_spent_so : (turns : ℕ) (ended : ServeEnd) (old : A) (node : Seen) (new : A) → Ends counts sends polls turns ended old node new
      → ended ≡ end.Spent → Calls counts sends polls old turns new
  ends_spent_so turns ended old node new ends is = (when_spent turns old node new (ends_as turns ended end.Spent old node new ends is)).0

  pub ends_calm : (turns : ℕ) (ended : ServeEnd) (old : A) (node : Seen) (new : A) → Ends counts sends polls turns ended old node new
      → (ended ≡ end.Closed) ⊎ (ended ≡ end.Spent) → IsCalm node
  ends_calm turns ended old node new ends (inl is) = (when_closed turns old node new (ends_as turns ended end.Closed old node new ends is)).2
  ends_calm turns ended old node new ends (inr is) = (when_spent turns old node new (ends_as turns ended end.Spent old node new ends is)).1

-- a host's book of submits and unlinks, as it writes and as it takes answers
use Rattle.std.proofs.Common.{◌≡◌, ◌≢◌, ◌∙◌, ◌⊎◌, inl, inr, ℕ, Bool, true, false, cond, eqb, List, [], ◌∷◌, ◌++◌, refl, ap, sym, subst, append_assoc, append-nil}
use Rattle.std.proofs.lemmas.Bool.{eq-eqb, ne_eqb}
use Rattle.usbip_wire.specs.declared.submit.SubmitHead.{SubmitHead}
use Rattle.usbip_wire.specs.declared.unlink.UnlinkHead.{UnlinkHead}
use Rattle.usbip_wire.specs.declared.ret_submit.RetSubmitHead.{RetSubmitHead}
use Rattle.usbip_wire.specs.declared.ret_unlink.RetUnlinkHead.{RetUnlinkHead}
use Rattle.usbip_wire.specs.Up as up
use Rattle.tmc_law.specs.Endpoint.{Endpoint, Control, BulkOut, BulkIn, InterruptIn, number_of}
use Rattle.tmc_law.specs.State.{State, queue_of, start}
use Rattle.tmc_law.specs.Put.{Put, Submitted, Unlinked}
use Rattle.host_joint.specs.Lines.{Sent, sent_to, sent_heads, heads, Event, Gives, events_of, without, LeftBy, Line, Lines, unlinks_in, unlinked_by}
use Rattle.host_joint.specs.Unlinking.{IsNamed}
use Rattle.host_joint.proofs.Queues.{Apart, which}
use Rattle.host_joint.proofs.Flows.{without-append, unlinks-append}
use Rattle.host_joint.proofs.Sending.{sent-append}

pub begins : (asked : Endpoint → List SubmitHead) → ((e : Endpoint) → asked e ≡ []) → Lines asked [] [] [] start
begins asked none = record { submits = line; unlinked = refl }
  where
    line : (e : Endpoint) → Line e (asked e) [] [] start
    line Control = sym (none Control)
    line BulkOut = sym (none BulkOut)
    line BulkIn = sym (none BulkIn)
    line InterruptIn = sym (none InterruptIn)

-- ---- a submit is written

without_last : (n : ℕ) (x : SubmitHead) (l : List SubmitHead) → x.seqnum ≢ n → without n (l ++ x ∷ []) ≡ without n l ++ x ∷ []
without_last n x l differ = without-append n l (x ∷ []) ∙ ap (λ (m : List SubmitHead). without n l ++ m) (rw (ne_eqb x.seqnum n differ) refl)

left_more : (e : Endpoint) (x : SubmitHead) (downs : List Put) (asked left : List SubmitHead) → (IsNamed (unlinked_by downs) x.seqnum → ⊥) → LeftBy asked (events_of e downs) left
    → LeftBy (asked ++ x ∷ []) (events_of e downs) (left ++ x ∷ [])
left_more e x [] asked left free h = ap (λ (l : List SubmitHead). l ++ x ∷ []) h
left_more e x (Submitted head answer transferred ∷ downs) asked left free h = by (λ l k. left_more e x downs l left free k) (eqb head.ep (number_of e)) h
  where
    by : ((l : List SubmitHead) → LeftBy l (events_of e downs) left → LeftBy (l ++ x ∷ []) (events_of e downs) (left ++ x ∷ [])) → (b : Bool)
        → LeftBy asked (cond b (Gives head answer transferred ∷ events_of e downs) (events_of e downs)) left
        → LeftBy (asked ++ x ∷ []) (cond b (Gives head answer transferred ∷ events_of e downs) (events_of e downs)) (left ++ x ∷ [])
    by go true k = (k.0 ++ x ∷ [], ap (λ (l : List SubmitHead). l ++ x ∷ []) k.1, go k.0 k.2)
    by go false k = go asked k
left_more e x (Unlinked head answer ∷ downs) asked left free h =
    subst (λ (l : List SubmitHead). LeftBy l (events_of e downs) (left ++ x ∷ [])) (sym (without_last head.target x asked (λ same. free (inl (sym same)))))
    (left_more e x downs (without head.target asked) left (λ named. free (inr named)) h)

heads_more : (a b : List Sent) → sent_heads (a ++ b) ≡ sent_heads a ++ sent_heads b
heads_more [] b = refl
heads_more (x ∷ a) b = ap (λ (l : List SubmitHead). x.head ∷ l) (heads_more a b)

own_line : (e : Endpoint) (head : SubmitHead) (transferred : List ℕ) (ups : List up.Message) → head.ep ≡ number_of e
    → sent_heads (sent_to e (ups ++ up.Submit head transferred ∷ [])) ≡ sent_heads (sent_to e ups) ++ head ∷ []
own_line e head transferred ups is =
    let one : sent_to e (up.Submit head transferred ∷ []) ≡ record { head = head; transferred = transferred } ∷ [] = rw (eq-eqb head.ep (number_of e) is) refl in
    ap sent_heads (sent-append e ups (up.Submit head transferred ∷ [])) ∙ heads_more (sent_to e ups) (sent_to e (up.Submit head transferred ∷ []))
    ∙ ap (λ (l : List Sent). sent_heads (sent_to e ups) ++ sent_heads l) one

pub other_line : (e : Endpoint) (head : SubmitHead) (transferred : List ℕ) (ups : List up.Message) → eqb head.ep (number_of e) ≡ false
    → sent_to e (ups ++ up.Submit head transferred ∷ []) ≡ sent_to e ups
other_line e head transferred ups other =
    let none : sent_to e (up.Submit head transferred ∷ []) ≡ [] = rw other refl in
    sent-append e ups (up.Submit head transferred ∷ []) ∙ ap (λ (l : List Sent). sent_to e ups ++ l) none ∙ append-nil (sent_to e ups)

clash : {B : Type 0} (b : Bool) → b ≡ false → b ≡ true → B
clash b off on = let e : false ≡ true = sym off ∙ on in absurd (cc)

differ_of : (d e : Endpoint) → Apart d e → e ≢ d
differ_of d e apart same = clash (eqb (number_of d) (number_of e)) apart.number (eq-eqb (number_of d) (number_of e) (ap number_of (sym same)))

no_unlinks : (head : SubmitHead) (transferred : List ℕ) (ups : List up.Message) → unlinks_in (ups ++ up.Submit head transferred ∷ []) ≡ unlinks_in ups
no_unlinks head transferred ups = unlinks-append ups (up.Submit head transferred ∷ []) ∙ append-nil (unlinks_in ups)

pub submit_written : (asked later : Endpoint → List SubmitHead) (unlinks : List UnlinkHead) (ups : List up.Message) (downs : List Put) (s : State) (endpoint : Endpoint) (head : SubmitHead) (transferred : List ℕ)
    → head.ep ≡ number_of endpoint → later endpoint ≡ asked endpoint ++ head ∷ [] → ((other : Endpoint) → other ≢ endpoint → later other ≡ asked other)
    → (IsNamed (unlinked_by downs) head.seqnum → ⊥) → Lines asked unlinks ups downs s → Lines later unlinks (ups ++ up.Submit head transferred ∷ []) downs s
submit_written asked later unlinks ups downs s endpoint head transferred number grown kept free lines = record {
  submits = λ e. by e (which endpoint e);
  unlinked = lines.unlinked ∙ ap (λ (l : List UnlinkHead). unlinked_by downs ++ l) (sym (no_unlinks head transferred ups));
}
  where
    here : Line endpoint (later endpoint) (ups ++ up.Submit head transferred ∷ []) downs s
    here =
        subst (λ (l : List SubmitHead). LeftBy l (events_of endpoint downs) (heads (queue_of endpoint s) ++ sent_heads (sent_to endpoint (ups ++ up.Submit head transferred ∷ [])))) (sym grown)
        (subst (λ (l : List SubmitHead). LeftBy (asked endpoint ++ head ∷ []) (events_of endpoint downs) l)
        (append_assoc (heads (queue_of endpoint s)) (sent_heads (sent_to endpoint ups)) (head ∷ [])
        ∙ ap (λ (l : List SubmitHead). heads (queue_of endpoint s) ++ l) (sym (own_line endpoint head transferred ups number)))
        (left_more endpoint head downs (asked endpoint) (heads (queue_of endpoint s) ++ sent_heads (sent_to endpoint ups)) free (lines.submits endpoint)))

    by : (e : Endpoint) → (endpoint ≡ e) ⊎ Apart endpoint e → Line e (later e) (ups ++ up.Submit head transferred ∷ []) downs s
    by e (inl same) = subst (λ (x : Endpoint). Line x (later x) (ups ++ up.Submit head transferred ∷ []) downs s) same here
    by e (inr apart) =
        subst (λ (l : List SubmitHead). LeftBy l (events_of e downs) (heads (queue_of e s) ++ sent_heads (sent_to e (ups ++ up.Submit head transferred ∷ [])))) (sym (kept e (differ_of endpoint e apart)))
        (subst (λ (l : List Sent). LeftBy (asked e) (events_of e downs) (heads (queue_of e s) ++ sent_heads l))
        (sym (other_line e head transferred ups (ap (λ (n : ℕ). eqb n (number_of e)) number ∙ apart.number))) (lines.submits e))

-- ---- an unlink is written

pub unlink_written : (asked : Endpoint → List SubmitHead) (unlinks : List UnlinkHead) (ups : List up.Message) (downs : List Put) (s : State) (head : UnlinkHead)
    → Lines asked unlinks ups downs s → Lines asked (unlinks ++ head ∷ []) (ups ++ up.Unlink head ∷ []) downs s
unlink_written asked unlinks ups downs s head lines = record {
  submits = λ e. subst (λ (l : List Sent). LeftBy (asked e) (events_of e downs) (heads (queue_of e s) ++ sent_heads l))
      (sym (sent-append e ups (up.Unlink head ∷ []) ∙ append-nil (sent_to e ups))) (lines.submits e);
  unlinked = ap (λ (l : List UnlinkHead). l ++ head ∷ []) lines.unlinked ∙ append_assoc (unlinked_by downs) (unlinks_in ups) (head ∷ [])
      ∙ ap (λ (l : List UnlinkHead). unlinked_by downs ++ l) (sym (unlinks-append ups (up.Unlink head ∷ [])));
}

-- ---- an answer is taken

pub submit_answered : (asked : Endpoint → List SubmitHead) (unlinks : List UnlinkHead) (ups : List up.Message) (head : SubmitHead) (answer : RetSubmitHead) (transferred : List ℕ) (downs : List Put) (s : State) (endpoint : Endpoint)
    → head.ep ≡ number_of endpoint → Lines asked unlinks ups (Submitted head answer transferred ∷ downs) s
    → (rest : List SubmitHead) × (asked endpoint ≡ head ∷ rest)
    × ((later : Endpoint → List SubmitHead) → later endpoint ≡ rest → ((other : Endpoint) → other ≢ endpoint → later other ≡ asked other) → Lines later unlinks ups downs s)
submit_answered asked unlinks ups head answer transferred downs s endpoint number lines = (taken.0, taken.1, goes)
  where
    own : events_of endpoint (Submitted head answer transferred ∷ downs) ≡ Gives head answer transferred ∷ events_of endpoint downs
    own = rw (eq-eqb head.ep (number_of endpoint) number) refl

    taken : LeftBy (asked endpoint) (Gives head answer transferred ∷ events_of endpoint downs) (heads (queue_of endpoint s) ++ sent_heads (sent_to endpoint ups))
    taken = subst (λ (l : List Event). LeftBy (asked endpoint) l (heads (queue_of endpoint s) ++ sent_heads (sent_to endpoint ups))) own (lines.submits endpoint)

    goes : (later : Endpoint → List SubmitHead) → later endpoint ≡ taken.0 → ((other : Endpoint) → other ≢ endpoint → later other ≡ asked other) → Lines later unlinks ups downs s
    goes later shorter kept = record { submits = λ e. by e (which endpoint e); unlinked = lines.unlinked }
      where
        by : (e : Endpoint) → (endpoint ≡ e) ⊎ Apart endpoint e → Line e (later e) ups downs s
        by e (inl same) =
            subst (λ (x : Endpoint). Line x (later x) ups downs s) same
            (subst (λ (l : List SubmitHead). LeftBy l (events_of endpoint downs) (heads (queue_of endpoint s) ++ sent_heads (sent_to endpoint ups))) (sym shorter) taken.2)
        by e (inr apart) =
            let none : events_of e (Submitted head answer transferred ∷ downs) ≡ events_of e downs = rw (ap (λ (n : ℕ). eqb n (number_of e)) number ∙ apart.number) refl in
            subst (λ (l : List SubmitHead). LeftBy l (events_of e downs) (heads (queue_of e s) ++ sent_heads (sent_to e ups))) (sym (kept e (differ_of endpoint e apart)))
            (subst (λ (l : List Event). LeftBy (asked e) l (heads (queue_of e s) ++ sent_heads (sent_to e ups))) none (lines.submits e))

pub unlink_answered : (asked : Endpoint → List SubmitHead) (unlinks : List UnlinkHead) (ups : List up.Message) (head : UnlinkHead) (answer : RetUnlinkHead) (downs : List Put) (s : State)
    → Lines asked unlinks ups (Unlinked head answer ∷ downs) s
    → (rest : List UnlinkHead) × (unlinks ≡ head ∷ rest) × Lines (λ e. without head.target (asked e)) rest ups downs s
unlink_answered asked unlinks ups head answer downs s lines = (unlinked_by downs ++ unlinks_in ups, lines.unlinked, record { submits = λ e. lines.submits e; unlinked = refl })

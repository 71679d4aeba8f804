-- unlinks
use Rattle.std.proofs.Common.{◌≡◌, ◌≢◌, ◌∙◌, ℕ, Bool, true, false, List, [], ◌∷◌, ◌++◌, refl, ap, sym, subst, append_assoc}
use Rattle.usbip_wire.specs.declared.unlink.UnlinkHead.{UnlinkHead}
use Rattle.usbip_wire.specs.Up as up
use Rattle.usb_setup.specs.declared.setup.Setup.{Setup}
use Rattle.tmc_wire.specs.declared.class_request.ClassRequest.TheVariants.{ReadStatus}
use Rattle.tmc_wire.specs.ControlTable.{IsRow}
use Rattle.tmc_law.specs.Endpoint.{Endpoint, Control, BulkOut, BulkIn, InterruptIn, ends}
use Rattle.tmc_law.specs.State.{State, Pending, Plugged}
use Rattle.tmc_law.specs.Put.{Put, unlink_answer, unlinked, success}
use Rattle.tmc_law.specs.Queues.{IsUnlink, Unlinks, Hits, Polled}
use Rattle.tmc_law.specs.Step.{Comes}
use Rattle.endpoint_pipes.specs.Held.{Held, list_of, with_list}
use Rattle.endpoint_pipes.specs.Outcome.{Leaves}
use Rattle.endpoint_pipes.specs.Part.{polled_first}
use Rattle.tmc_device.specs.declared.answer.Asked.{Asked}
use Rattle.tmc_device.specs.declared.body.Body.{Body}
use Rattle.tmc_device.specs.Parts.{Outbox}
use Rattle.tmc_device.specs.Seen.{Makes}
use Rattle.tmc_device.specs.Sound.{IsSound}
use Rattle.tmc_device.specs.Body.{state_of, seen_of}
use Rattle.tmc_device.specs.Control.{IsAsked, IsPolledFirst, IsNotPolled, AnswersPolled}
use Rattle.tmc_device.proofs.Asked.{asked_is}
use Rattle.tmc_device.proofs.Making.{loud}

-- the request for which the status byte was polled
pub record IsStatus (setup : Setup) : Type 0 where
  pub tag : ℕ
  pub row : IsRow ends (ReadStatus tag) setup

pub polled_row : (s : State) (asked : Asked) (target : ℕ) → IsSound s → IsAsked s asked → IsPolledFirst target s → IsStatus asked.setup
polled_row s asked target sound is p =
    let a = sound.polled p.submit p.behind p.first p.polled in record {
      tag = a.tag;
      row = subst (λ (setup : Setup). IsRow ends (ReadStatus a.tag) setup) (sym (asked_is s asked is p.submit p.behind a.setup p.first a.asks)) a.row;
    }

-- a polled status request is answered, and the unlink misses
pub polled_made : (body mid : Body) (head : UnlinkHead) (o : Outbox) (p : IsPolledFirst head.target (state_of body)) → (state_of body).presence ≡ Plugged → IsUnlink head
    → AnswersPolled p.submit p.behind body mid → o.puts ≡ mid.outputs.puts ++ unlink_answer head success ∷ []
    → Makes (Comes (up.Unlink head)) (seen_of body) (seen_of (record mid { outputs = o }))
polled_made body mid head o p plugged wide a put =
    loud (Comes (up.Unlink head)) (seen_of body) (seen_of (record mid { outputs = o })) _ plugged
    (wide, Polled Control [] p.submit p.behind a.setup a.tag p.first p.number p.polled a.asks a.row refl a.replied.state)
    (put ∙ ap (λ (l : List Put). l ++ unlink_answer head success ∷ []) a.replied.puts ∙ append_assoc body.outputs.puts _ (unlink_answer head success ∷ []))

hit_by : (body : Body) (polled : Bool) (e : Endpoint) (p : Held) (head : UnlinkHead) (before behind : List Pending) (submit : Pending)
    → ((s : Pending) (b : List Pending) → polled ≡ true → body.pipes.control ≡ s ∷ b → s.head.seqnum ≢ head.target)
    → list_of e body.pipes ≡ before ++ submit ∷ behind → submit.head.seqnum ≡ head.target → submit.polled ≡ false → p ≡ with_list e (before ++ behind) body.pipes
    → Unlinks (state_of (record body { polled = polled })) head (unlink_answer head unlinked ∷ []) (state_of (record body { pipes = p; polled = polled }))
hit_by body false Control p head before behind submit not stood number fresh left =
    Hits Control before submit behind stood number fresh refl (ap (λ (held : Held). state_of (record body { pipes = held; polled = false })) left)
hit_by body true Control p head [] behind submit not stood number fresh left = absurd (not submit behind refl stood number)
hit_by body true Control p head (x ∷ before) behind submit not stood number fresh left =
    Hits Control (record x { polled = true } ∷ before) submit behind (ap polled_first stood) number fresh refl
    (ap (λ (held : Held). state_of (record body { pipes = held; polled = true })) left)
hit_by body polled BulkOut p head before behind submit not stood number fresh left =
    Hits BulkOut before submit behind stood number fresh refl (ap (λ (held : Held). state_of (record body { pipes = held; polled = polled })) left)
hit_by body polled BulkIn p head before behind submit not stood number fresh left =
    Hits BulkIn before submit behind stood number fresh refl (ap (λ (held : Held). state_of (record body { pipes = held; polled = polled })) left)
hit_by body polled InterruptIn p head before behind submit not stood number fresh left =
    Hits InterruptIn before submit behind stood number fresh refl (ap (λ (held : Held). state_of (record body { pipes = held; polled = polled })) left)

-- a pending submit leaves its queue
pub hit_made : (body : Body) (p : Held) (head : UnlinkHead) (o : Outbox) → (state_of body).presence ≡ Plugged → IsUnlink head → IsNotPolled head.target body
    → Leaves head.target body.pipes p → o.puts ≡ body.outputs.puts ++ unlink_answer head unlinked ∷ []
    → Makes (Comes (up.Unlink head)) (seen_of body) (seen_of (record body { pipes = p; outputs = o }))
hit_made body p head o plugged wide not l put =
    loud (Comes (up.Unlink head)) (seen_of body) (seen_of (record body { pipes = p; outputs = o })) (unlink_answer head unlinked ∷ []) plugged
    (wide, hit_by body body.polled l.endpoint p head l.before l.behind l.submit not l.stood l.number l.unpolled l.left) put

use Rattle.std.proofs.Common.{◌∙◌, ℕ, true, List, [], ◌∷◌, take, drop, refl, ap, arith, lit<, lit≤}
use Rattle.usb_setup.specs.declared.setup.Setup.{Setup}
use Rattle.usb_setup.specs.Setup.{setup_layout}
use Rattle.tmc_wire.specs.declared.class_request.ClassRequest.TheVariants.{Ren}
use Rattle.tmc_wire.specs.ControlTable.{row}
use Rattle.instr_plain.specs.declared.remote.RemoteAct.TheVariants.{On}
use Rattle.tmc_law.specs.Endpoint.{Control, ends}
use Rattle.tmc_law.specs.State.{start}
use Rattle.tmc_law.specs.Put.{success}
use Rattle.tmc_law.specs.WorkedRemote.{remote_submit, operating}
use Rattle.host_joint.specs.Requests.{IsClass}
use Rattle.host_joint.proofs.worked_remotes.worked_remote_tickets_are_tied.Goals as goal

remote_is : IsClass remote_submit (Ren true)
remote_is = record {
  number = refl;
  way = refl;
  setup = row ends (Ren true);
  asks = record { fits = record { request_type = lit< tt; request = lit< tt; value = lit< tt; index = lit< tt; length = lit< tt }; layout = refl };
  row = record { fits = tt; is = refl };
  room = lit≤ tt;
}

abbrev second_of : List ℕ → ℕ
second_of [] = 0
second_of (x ∷ []) = 0
second_of (x ∷ y ∷ l) = y

pub returns-clause-begins : goal.returns-clause-begins
returns-clause-begins c =
    c.remote_tickets_are_tied.ensures.begins On remote_submit 1 [] [] start remote_is (record { endpoint = Control; number = refl; way = refl }) refl
    (c.remote_tickets_are_tied.ensures.stands 1 [] [] start (c.ties_begin.ensures.power_on 1))

pub returns-clause-answered : goal.returns-clause-answered
returns-clause-answered c =
    let split = c.runs_join.ensures.apart (take 2 operating) (drop 2 operating) start _ c.a_remote_act_is_logged.ensures.remote in
    let went = c.remote_tickets_are_tied.ensures.stays On [] remote_submit (take 2 operating) 2 [] [] start split.0 split.1 ((λ e. cc), ((λ e. cc), tt)) (returns-clause-begins c) in
    let over = c.remote_tickets_are_tied.ensures.answer On [] remote_submit 2 remote_submit (record { seqnum = 1; status = success; actual = 1 }) (0x01 ∷ []) [] [] split.0 went in
    (split.0, split.1, over.3, over.4)

pub returns-clause-mistaken : goal.returns-clause-mistaken
returns-clause-mistaken c since next ups downs s o =
    let e = ap (λ (l : List ℕ). second_of l) (o.asks.asks.layout ∙ ap (λ (x : Setup). setup_layout x) o.asks.row.is) in
    omega (arith, e)

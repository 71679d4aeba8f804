use Rattle.host_hub.proofs.ownership.hubs_begin_joined.Goals as goal

pub returns : goal.returns
returns c = λ setting bytes read steps state joint. record { plain = tt; served = tt; joint = joint; owns = λ t asking piece earlier asked q over. cc }

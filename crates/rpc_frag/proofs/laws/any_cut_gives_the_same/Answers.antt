use Rattle.rpc_pdu.specs.Decoding.{decoded}
use Rattle.rpc_pdu.proofs.Steady.{stays, there}
use Rattle.rpc_frag.proofs.Cuts.{any_cut, one_reading}
use Rattle.rpc_frag.proofs.laws.any_cut_gives_the_same.Goals as goal

pub returns-clause-cut : goal.returns-clause-cut
returns-clause-cut c = any_cut decoded (record { stays = stays; there = there })

pub returns-clause-one : goal.returns-clause-one
returns-clause-one c = one_reading decoded

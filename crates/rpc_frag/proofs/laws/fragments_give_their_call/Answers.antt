use Rattle.rpc_frag.proofs.Parts.{cuts_give_their_call}
use Rattle.rpc_frag.proofs.Given.{given_for_its_fragments}
use Rattle.rpc_frag.proofs.Gathering.{fragments_give_their_call}
use Rattle.rpc_frag.proofs.laws.fragments_give_their_call.Goals as goal

pub returns-clause-fragments : goal.returns-clause-fragments
returns-clause-fragments c = fragments_give_their_call

pub returns-clause-cuts : goal.returns-clause-cuts
returns-clause-cuts c = cuts_give_their_call

pub returns-clause-only : goal.returns-clause-only
returns-clause-only c = given_for_its_fragments

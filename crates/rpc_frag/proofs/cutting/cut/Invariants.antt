use Rattle.std.proofs.Common.{◌++◌, ◌≤◌, List, length, true}
use Rattle.rpc_pdu.specs.declared.pdu.Pdu.{Pdu}
use Rattle.rpc_frag.specs.Fragments.{IsCut}
use Rattle.rpc_frag.proofs.cutting.cut.Given as goal

-- whatever the rest is cut into, the whole stub is cut into what there is and that
abbrev pub invariant-loop-rest : goal.invariant-loop-rest
invariant-loop-rest l = record {
  short : length l.rest ≤ 8388608;
  cuts : (ps : List Pdu) → IsCut l.whole l.response l.size l.first l.rest ps → IsCut l.whole l.response l.size true l.whole.stub (l.parts.items ++ ps);
}

abbrev pub decreases-loop-rest : goal.decreases-loop-rest
decreases-loop-rest l = length l.rest

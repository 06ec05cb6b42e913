use Rattle.std.proofs.Common.{drop}
use Rattle.std.specs.Prelude.{Option}
use Rattle.std.specs.Fn.{FnReturnsAt}
use Rattle.frs_base.specs.declared.version.Uid.{Uid}
use Rattle.install_plan.specs.Passing.{IsFirstPassing}
use Rattle.install_plan.proofs.passing.first_passing.Given as goal

-- what is first of those that are left is first of all
abbrev pub invariant-loop-uid : goal.invariant-loop-uid
invariant-loop-uid g l = (found : Option Uid) → IsFirstPassing (λ uid passes. FnReturnsAt g.F.Fn l.test uid passes) (drop l.uid-index l.uids) found → IsFirstPassing (λ uid passes. FnReturnsAt g.F.Fn l.test uid passes) l.uids found

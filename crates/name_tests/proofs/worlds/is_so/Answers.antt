use Rattle.std.proofs.Common.{sym, subst}
use Rattle.name_rules.specs.Rows.{HaveNoRoot}
use Rattle.name_rules.specs.Shown.{AreDistinct}
use Rattle.name_tests.proofs.Births.{born_distinct, born_rootless}
use Rattle.name_tests.proofs.worlds.is_so.Goals as goal

pub shown-requires : goal.shown-requires
shown-requires c = subst AreDistinct (sym c.as_slice-records.ensures.value) (born_distinct c.in_ok-owned.owned.items c.in_ok-owned.ensures)

pub tree-requires-clause-distinct : goal.tree-requires-clause-distinct
tree-requires-clause-distinct c = subst AreDistinct (sym c.as_slice-records.ensures.value) (born_distinct c.in_ok-owned.owned.items c.in_ok-owned.ensures)

pub tree-requires-clause-rootless : goal.tree-requires-clause-rootless
tree-requires-clause-rootless c = subst HaveNoRoot (sym c.as_slice-records.ensures.value) (born_rootless c.in_ok-owned.owned.items c.in_ok-owned.ensures)

pub name_winner-has_name-requires : goal.name_winner-has_name-requires
name_winner-has_name-requires c = subst AreDistinct (sym c.as_slice-records.ensures.value) (born_distinct c.in_ok-owned.owned.items c.in_ok-owned.ensures)

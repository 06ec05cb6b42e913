use Rattle.frs_base.specs.Versions.{same_gvsn}
use Rattle.std.proofs.Common.{◌≡◌, ◌<◌, ◌∙◌, ◌||◌, ap, arith, subst, sym, List}
use Rattle.version_vector.specs.Places.{one_version}
use Rattle.version_vector.specs.Unions.{inserted}
use Rattle.version_vector.specs.Versions.{IsCanonical, covers}
use Rattle.version_vector.specs.declared.interval.Interval.{Interval}
use Rattle.version_vector.proofs.Insertions.{adds_version, inserted_form}
use Rattle.version_vector.proofs.growing.GrowingVector.cover.Goals as goal

pub invariant_of-self : goal.invariant_of-self
invariant_of-self c =
    let n = one_version c.args.g in
    let full : n.low < n.high = omega arith in
    let is = c.insert_reserved.ensures ∙ ap (λ (i : Interval). inserted i c.self.inside.kept.items) c.of_version.ensures in
    subst IsCanonical (sym is) (inserted_form n c.self.inside.kept.items full c.self.invariant)

pub returns-clause-canonical : goal.returns-clause-canonical
returns-clause-canonical c =
    let n = one_version c.args.g in
    let full : n.low < n.high = omega arith in
    let is = c.insert_reserved.ensures ∙ ap (λ (i : Interval). inserted i c.self.inside.kept.items) c.of_version.ensures in
    subst IsCanonical (sym is) (inserted_form n c.self.inside.kept.items full c.self.invariant)

pub returns-clause-set : goal.returns-clause-set
returns-clause-set c h =
    let is = c.insert_reserved.ensures ∙ ap (λ (i : Interval). inserted i c.self.inside.kept.items) c.of_version.ensures in
    ap (λ (l : List Interval). covers l h) is ∙ adds_version c.args.g c.self.inside.kept.items c.self.invariant h ∙ ap (λ (l : List Interval). same_gvsn c.args.g h || covers l h) (ap (λ r. r.items) c.self.view_is)

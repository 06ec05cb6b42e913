-- What vectors say of records.
use Rattle.std.proofs.Common.{◌≡◌, true, sym, ◌∙◌}
use Rattle.frs_base.specs.Options.{In}
use Rattle.win_order.specs.declared.update.Update.{Update}
use Rattle.record_db.specs.Records.{Covered}
use Rattle.record_db.proofs.Best.{best_one, best_same, covered_held}
use Rattle.world_model.specs.Laws.{CoveredIsHeld, CoverIsStable, EqualVectorsHaveEqualRecords, StaysCovered}
use Rattle.world_model.proofs.Growth.{stays}

pub cover_stable : CoverIsStable
cover_stable w new h g = (λ d. stays w new (w.at d).known (h.known d) g, λ s a. stays w new s.versions (λ v t. h.sent s v a t) g)

pub each_covered_is_held : CoveredIsHeld
each_covered_is_held w h d = (λ u c. covered_held w.all (w.at d).known u c, λ u v a b same. best_one u v (λ x y p q e. h.one_each x y p.0 q.0 e) a b same)

pub stays_covered : StaysCovered
stays_covered w new h later k g = (
  λ s x a t. g.known s.from x (k.vectors s x a t),
  λ s u a c. covered_held new.all (new.at s.from).known u (g.all u c.0, g.known s.from u.gvsn (k.vectors s u.gvsn a c.1)),
  λ u a. (covered u a, covered_held new.all (new.at u.gvsn.db).known u (g.all u a, covered u a)),
)
  where
    covered : (u : Update) → In u w.all → (new.at u.gvsn.db).known u.gvsn ≡ true
    covered u a = g.known u.gvsn.db u.gvsn (h.own u.gvsn (h.recorded u a))

pub equal_records : EqualVectorsHaveEqualRecords
equal_records w new h g i j same u =
    let k = stays w new (w.at i).known (h.known i) g in
    let there : (v : Update) → Covered w.all (w.at i).known v → Covered new.all (new.at j).known v = λ v c. let d = k.stays v c in (d.0, sym (same v.gvsn) ∙ d.1) in
    let here : (v : Update) → Covered new.all (new.at j).known v → Covered w.all (w.at i).known v = λ v c. k.only v (c.0, same v.gvsn ∙ c.1) in
    (best_same u there here, best_same u here there)

-- What a journal record makes, by cases.
use Rattle.std.proofs.Common.{◌≡◌, ℕ, Bool, true, false, ltb, List, Option, Some, None, refl, sym, ap, ◌∙◌}
use Rattle.std.specs.Prelude.{option_map, if◌then◌else◌}
use Rattle.frs_base.specs.declared.version.Gvsn.{Gvsn}
use Rattle.win_order.specs.declared.update.Update.{Update}
use Rattle.vol_state.specs.declared.object.Object.{Object}
use Rattle.vol_state.specs.declared.record.VolRecord.{VolRecord}
use Rattle.vol_state.specs.Journal.{record_at}
use Rattle.vol_state.specs.Maps.{Maps, maps_of}
use Rattle.name_rules.specs.Recorded.{base_fence, held_of, is_deletion, object_update, tombstone, recorded_by, recorded_of, made_of, MakesOwnVersion, PassesReplicas}

-- the version of what is made
abbrev version : ℕ → ℕ → Gvsn
version own usn = record { db = own; version = usn }

abbrev version_of : Update → Gvsn
version_of u = u.gvsn

pub by_version : (own : ℕ) (m : Maps) (base usn moment : ℕ) (local deletion : Bool) (held : Option Update) (found : Option Object) (u : Update)
    → recorded_by own m base usn moment local deletion held found ≡ Some u → u.gvsn ≡ record { db = own; version = usn }
by_version own m base usn moment false deletion held found u e = absurd (cc)
by_version own m base usn moment true true None found u e = absurd (cc)
by_version own m base usn moment true true (Some h) found u e = go h.present e
  where
    go : (b : Bool) → (if b then Some (tombstone own base usn moment h) else None) ≡ Some u → u.gvsn ≡ version own usn
    go true e = let s : tombstone own base usn moment h ≡ u = cc in ap version_of (sym s)
    go false e = absurd (cc)
by_version own m base usn moment true false held None u e = absurd (cc)
by_version own m base usn moment true false held (Some o) u e = go (ltb usn o.last_local) o.place e
  where
    go : (b : Bool) (place : Option (ℕ × List ℕ)) → (if b then None else option_map (object_update own m base usn moment held o) place) ≡ Some u → u.gvsn ≡ version own usn
    go true place e = absurd (cc)
    go false None e = absurd (cc)
    go false (Some p) e = let s : object_update own m base usn moment held o p ≡ u = cc in ap version_of (sym s)

pub makes_own_version : MakesOwnVersion
makes_own_version v usn records moment phase kind u e = go (record_at v.journal usn) e
  where
    go : (found : Option VolRecord) → made_of found (λ r. recorded_of v.own (maps_of v) (base_fence phase kind) usn moment r (held_of records r.uid)) ≡ Some u → u.gvsn ≡ version v.own usn
    go None e = absurd (cc)
    go (Some r) e = by_version v.own (maps_of v) (base_fence phase kind) usn moment r.local (is_deletion r) (held_of records r.uid) ((maps_of v).at r.fid) u e

by_replica : (own : ℕ) (m : Maps) (base usn moment : ℕ) (local deletion : Bool) (held : Option Update) (found : Option Object) → local ≡ false → recorded_by own m base usn moment local deletion held found ≡ None
by_replica own m base usn moment false deletion held found e = refl
by_replica own m base usn moment true deletion held found e = absurd (cc)

pub passes_replicas : PassesReplicas
passes_replicas v usn records moment phase kind r is replica =
    ap (λ x. made_of x (λ r. recorded_of v.own (maps_of v) (base_fence phase kind) usn moment r (held_of records r.uid))) is
    ∙ by_replica v.own (maps_of v) (base_fence phase kind) usn moment r.local (is_deletion r) (held_of records r.uid) ((maps_of v).at r.fid) replica

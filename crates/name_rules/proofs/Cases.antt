-- What a journal record was that made an update.
use Rattle.std.proofs.Common.{◌≡◌, ◌⊎◌, ℕ, Bool, true, false, cond, ltb, List, Option, Some, None, refl, sym, inl, inr}
use Rattle.std.specs.Prelude.{option_map}
use Rattle.win_order.specs.declared.update.Update.{Update}
use Rattle.vol_state.specs.declared.object.Object.{Object}
use Rattle.vol_state.specs.declared.record.VolRecord.{VolRecord}
use Rattle.vol_state.specs.Maps.{Maps}
use Rattle.name_rules.specs.Recorded.{is_deletion, object_update, recorded_by, recorded_of, tombstone}
use Rattle.name_rules.proofs.Made.{by_version}

-- a deletion, of a present record that was held
pub record Deleted (own base usn moment : ℕ) (deletion : Bool) (held : Option Update) (u : Update) : Type 0 where
  pub deletes : deletion ≡ true
  pub old : Update
  pub was : held ≡ Some old
  pub present : old.present ≡ true
  pub is : u ≡ tombstone own base usn moment old

-- another operation, of a placed object that has no later local record
pub record Changed (own : ℕ) (m : Maps) (base usn moment : ℕ) (deletion : Bool) (held : Option Update) (found : Option Object) (u : Update) : Type 0 where
  pub no_deletion : deletion ≡ false
  pub now : Object
  pub place : ℕ × List ℕ
  pub there : found ≡ Some now
  pub newest : ltb usn now.last_local ≡ false
  pub placed : now.place ≡ Some place
  pub is : u ≡ object_update own m base usn moment held now place

-- an update is made of a local record, by one or the other
pub made_by : (own : ℕ) (m : Maps) (base usn moment : ℕ) (local deletion : Bool) (held : Option Update) (found : Option Object) (u : Update)
    → Some u ≡ recorded_by own m base usn moment local deletion held found
    → (local ≡ true) × (Deleted own base usn moment deletion held u ⊎ Changed own m base usn moment deletion held found u)
made_by own m base usn moment false deletion held found u e = absurd (cc)
made_by own m base usn moment true true None found u e = absurd (cc)
made_by own m base usn moment true true (Some h) found u e = (refl, by h.present refl e)
  where
    by : (b : Bool) → h.present ≡ b → Some u ≡ cond b (Some (tombstone own base usn moment h)) None → Deleted own base usn moment true (Some h) u ⊎ Changed own m base usn moment true (Some h) found u
    by true p e = inl (record { deletes = refl; old = h; was = refl; present = p; is = cc })
    by false p e = absurd (cc)
made_by own m base usn moment true false held None u e = absurd (cc)
made_by own m base usn moment true false held (Some o) u e = (refl, inr (by (ltb usn o.last_local) refl o.place refl e))
  where
    by : (b : Bool) → ltb usn o.last_local ≡ b → (place : Option (ℕ × List ℕ)) → o.place ≡ place
        → Some u ≡ cond b None (option_map (λ p. object_update own m base usn moment held o p) place) → Changed own m base usn moment false held (Some o) u
    by true l place p e = absurd (cc)
    by false l None p e = absurd (cc)
    by false l (Some q) p e = record { no_deletion = refl; now = o; place = q; there = refl; newest = l; placed = p; is = cc }

-- what is made has the own version with the record's USN
pub made_version : (own : ℕ) (m : Maps) (base usn moment : ℕ) (r : VolRecord) (held : Option Update) (u : Update)
    → Some u ≡ recorded_of own m base usn moment r held → u.gvsn ≡ record { db = own; version = usn }
made_version own m base usn moment r held u e = by_version own m base usn moment r.local (is_deletion r) held (m.at r.fid) u (sym e)

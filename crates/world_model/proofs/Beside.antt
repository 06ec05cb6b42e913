-- What an operation of the installer does to the file that it is for, and that it leaves the others.
use Rattle.std.proofs.Common.{◌≡◌, ◌≢◌, ◌<◌, ◌∙◌, ℕ, false, List, refl, sym, ap, subst, arith, inl, inr, Option, Some, None}
use Rattle.frs_base.specs.declared.kind.Kind.{Kind}
use Rattle.frs_base.specs.declared.version.Uid.{Uid}
use Rattle.vol_state.specs.declared.object.Object.{Object}
use Rattle.vol_state.specs.declared.record.VolRecord.{VolRecord}
use Rattle.vol_state.specs.declared.command.VolCmd.TheVariants as cmd
use Rattle.vol_state.specs.State.{uid_of}
use Rattle.vol_state.specs.Effects.{at_place, stamp, with_bytes}
use Rattle.vol_state.specs.Maps.{Maps, write}
use Rattle.vol_state.specs.Tables.{IsAt, IsDirectory, IsEmpty, IsNew}
use Rattle.name_rules.specs.Next.{IsQuiet}
use Rattle.name_rules.specs.Recorded.{parent_uid}
use Rattle.world_model.specs.Invariant.{NumbersAreFresh, PlacesAreATree}
use Rattle.world_model.proofs.Facts.{at_case, none_some, some_is}
use Rattle.world_model.proofs.Writing.{changes_is, logs, loses_is, made_object, wrote}
use Rattle.world_model.proofs.Locally.{fid_is_new}
use Rattle.world_model.proofs.Due.{IsSite, StaysSo, parents_beside, parents_changed, site, site_written, stays_so}

-- the other files stay as they are, and no local journal record comes
pub record LeavesOthers (own : ℕ) (m new : Maps) (uid : Uid) : Type 0 where
  pub beside : (i : Uid) → i ≢ uid → StaysSo own m new i
  pub quiet : (consumed : ℕ) → IsQuiet consumed m → IsQuiet consumed new

-- its object becomes this one, and no directory's UID changes
pub record ChangesObject (own : ℕ) (m new : Maps) (uid : Uid) (f : ℕ) (o y : Object) : Type 0 where
  pub others : LeavesOthers own m new uid
  pub before : IsSite own m uid f o
  pub after : IsSite own new uid f y
  pub parents : (fid : ℕ) → parent_uid own new fid ≡ parent_uid own m fid

-- its object goes
pub record LosesObject (own : ℕ) (m new : Maps) (uid : Uid) : Type 0 where
  pub others : LeavesOthers own m new uid
  pub gone : IsNew own new uid

-- it gets this object
pub record GetsObject (own : ℕ) (m new : Maps) (uid : Uid) (f : ℕ) (y : Object) : Type 0 where
  pub others : LeavesOthers own m new uid
  pub there : IsSite own new uid f y

still_quiet : (m : Maps) (f : ℕ) (o : Option Object) (e : VolRecord) → e.local ≡ false → (consumed : ℕ) → IsQuiet consumed m → IsQuiet consumed (wrote m f o e)
still_quiet m f o e silent consumed quiet n r low at =
    at_case (r.local ≡ false) m.entry m.next_usn (Some e) n (Some r) at (λ i s. ap (λ x. x.local) (sym (some_is e r s)) ∙ silent) (λ k there. quiet n r low there)

module _ (own : ℕ) (m : Maps) (tree : PlacesAreATree own m) (uid : Uid) where
  changed : (f : ℕ) (o y : Object) (e : VolRecord) → IsAt m f o → uid_of own o ≡ uid → uid_of own y ≡ uid_of own o → e.local ≡ false → ChangesObject own m (wrote m f (Some y) e) uid f o y
  changed f o y e at is kept silent = record {
    others = record {
      beside = λ i n. stays_so own m f (Some y) e i (λ z a k. n (sym k ∙ (ap (uid_of own) (some_is z o (sym a ∙ at)) ∙ is))) (λ z a k. n (sym k ∙ (ap (uid_of own) (sym (some_is y z a)) ∙ (kept ∙ is))))
          (λ g z p a place. parents_changed own m f o y e at kept p.0);
      quiet = still_quiet m f (Some y) e silent;
    };
    before = site own m f o uid tree at is;
    after = site_written own m f y e uid (λ g z n a k. n (tree.uids g f z o a at (k ∙ sym is))) (kept ∙ is);
    parents = parents_changed own m f o y e at kept;
  }

  pub parked : (f : ℕ) (o : Object) → IsAt m f o → uid_of own o ≡ uid → ChangesObject own m (write own (cmd.Park f) m) uid f o (stamp false m.next_usn (at_place None o))
  parked f o at is = subst (λ n. ChangesObject own m n uid f o (stamp false m.next_usn (at_place None o))) (sym (changes_is own 6 false f (at_place None) m o at))
      (changed f o (stamp false m.next_usn (at_place None o)) (logs m f (uid_of own o) 6 false) at is refl refl)

  pub rewritten : (f : ℕ) (o : Object) (bytes : List ℕ) → IsAt m f o → uid_of own o ≡ uid → ChangesObject own m (write own (cmd.Rewrite f bytes) m) uid f o (stamp false m.next_usn (with_bytes bytes o))
  rewritten f o bytes at is = subst (λ n. ChangesObject own m n uid f o (stamp false m.next_usn (with_bytes bytes o))) (sym (changes_is own 9 false f (with_bytes bytes) m o at))
      (changed f o (stamp false m.next_usn (with_bytes bytes o)) (logs m f (uid_of own o) 9 false) at is refl refl)

  pub placed : (f : ℕ) (o : Object) (parent : ℕ) (name : List ℕ) → IsAt m f o → uid_of own o ≡ uid
      → ChangesObject own m (write own (cmd.Place f parent name) m) uid f o (stamp false m.next_usn (at_place (Some (parent, name)) o))
  placed f o parent name at is = subst (λ n. ChangesObject own m n uid f o (stamp false m.next_usn (at_place (Some (parent, name)) o))) (sym (changes_is own 10 false f (at_place (Some (parent, name))) m o at))
      (changed f o (stamp false m.next_usn (at_place (Some (parent, name)) o)) (logs m f (uid_of own o) 10 false) at is refl refl)

  pub erased : (f : ℕ) (o : Object) → IsAt m f o → uid_of own o ≡ uid → IsEmpty m f → LosesObject own m (write own (cmd.Erase f) m) uid
  erased f o at is bare = subst (λ n. LosesObject own m n uid) (sym (loses_is own 7 false f m o at)) (record {
    others = record {
      beside = λ i n. stays_so own m f None e i (λ z a k. n (sym k ∙ (ap (uid_of own) (some_is z o (sym a ∙ at)) ∙ is))) (λ z a k. none_some z a) (parents_beside own m f None e bare);
      quiet = still_quiet m f None e refl;
    };
    gone = λ g z a k. at_case ⊥ m.at f None g (Some z) a (λ i j. none_some z j) (λ n j. n ((site own m f o uid tree at is).only g z (j, k)).0);
  })
    where
      e : VolRecord
      e = logs m f (uid_of own o) 7 false

  pub got : (consumed : ℕ) (kind : Kind) (bytes : List ℕ) → NumbersAreFresh m consumed → IsNew own m uid
      → GetsObject own m (write own (cmd.Make uid kind bytes) m) uid m.next_fid (made_object m false None kind bytes (Some uid) 0)
  got consumed kind bytes fresh none = record {
    others = record {
      beside = λ i n. stays_so own m m.next_fid (Some y) e i (λ z a k. absent z a) (λ z a k. n (sym k ∙ ap (uid_of own) (sym (some_is y z a)))) (parents_beside own m m.next_fid (Some y) e apart);
      quiet = still_quiet m m.next_fid (Some y) e refl;
    };
    there = site_written own m m.next_fid y e uid (λ g z n a k. none g z a k) refl;
  }
    where
      y : Object
      y = made_object m false None kind bytes (Some uid) 0

      e : VolRecord
      e = logs m m.next_fid uid 8 false

      absent : (z : Object) → IsAt m m.next_fid z → ⊥
      absent z a = none_some z (sym (fid_is_new m consumed fresh) ∙ a)

      apart : (g : ℕ) (z : Object) (p : ℕ × List ℕ) → IsAt m g z → z.place ≡ Some p → p.0 ≢ m.next_fid
      apart g z p a place k = by (tree.parents g z p a place)
        where
          by : IsDirectory m p.0 → ⊥
          by (inl i) = let l = fresh.next in omega (arith, i, k, l)
          by (inr (q, there, d)) = absent q (subst (λ j. IsAt m j q) k there)

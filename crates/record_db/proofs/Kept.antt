-- What is true of every book stays so.
use Rattle.std.proofs.Common.{◌≡◌, ◌≢◌, ◌<◌, ◌≤◌, ◌+◌, ℕ, Bool, true, false, cond, List, [], ◌∷◌, refl, sym, ap, ◌∙◌, subst, length, Option, Some, None, arith}
use Rattle.std.specs.Prelude.{option_map}
use Rattle.std.specs.List.{AllByRecursion}
use Rattle.std.proofs.lemmas.Bool.Decides.{nat_tests}
use Rattle.frs_base.specs.Versions.{same_gvsn, same_uid, uid_lt}
use Rattle.frs_base.specs.declared.kind.Phase.TheVariants.{Normal}
use Rattle.frs_base.specs.declared.version.Gvsn.{Gvsn}
use Rattle.frs_base.specs.declared.version.Uid.{Uid}
use Rattle.version_vector.specs.Versions.{IsCanonical, covers}
use Rattle.version_vector.specs.declared.interval.Interval.{Interval}
use Rattle.win_order.specs.declared.update.Update.{Update}
use Rattle.record_db.specs.Lists.{AreDistinct, put_any, put_record}
use Rattle.record_db.specs.Staged.{staged_by, staged_with}
use Rattle.record_db.specs.State.{BookState, IsBook}
use Rattle.record_db.specs.Steps.{CoversMore, Widens}
use Rattle.record_db.proofs.Forms.{with_rising}
use Rattle.record_db.proofs.Keys.{same_gvsn_is}
use Rattle.record_db.proofs.Lists.{put_all, put_rising}

-- what is covered by less is covered by more
covered_more : (less more : List Interval) (records : List Update) → CoversMore less more → AllByRecursion (λ u. covers less u.gvsn ≡ true) records → AllByRecursion (λ u. covers more u.gvsn ≡ true) records
covered_more less more [] wider a = tt
covered_more less more (u ∷ us) wider a = (wider u.gvsn a.0, covered_more less more us wider a.1)

-- ---- versions of their own

apart_back : (g h : Gvsn) → same_gvsn g h ≡ false → same_gvsn h g ≡ false
apart_back g h apart = grind (arith, nat_tests)

-- a version that isn't covered is none of those that are
pub apart_covered : (vector : List Interval) (g : Gvsn) (records : List Update) → covers vector g ≡ false → AllByRecursion (λ u. covers vector u.gvsn ≡ true) records → AllByRecursion (λ u. same_gvsn g u.gvsn ≡ false) records
apart_covered vector g [] new a = tt
apart_covered vector g (u ∷ us) new a = (by (same_gvsn g u.gvsn) refl, apart_covered vector g us new a.1)
  where
    by : (b : Bool) → same_gvsn g u.gvsn ≡ b → same_gvsn g u.gvsn ≡ false
    by false e = e
    by true e = absurd (let covered : covers vector g ≡ true = subst (λ h. covers vector h ≡ true) (sym (same_gvsn_is g u.gvsn e)) a.0 in cc)

-- a put of another version leaves each of a version of its own
put_distinct : (u : Update) (rs : List Update) → AreDistinct rs → AllByRecursion (λ r. same_gvsn u.gvsn r.gvsn ≡ false) rs → AreDistinct (put_record u rs)
put_distinct u [] d a = (tt, tt)
put_distinct u (r ∷ rs) d a = by (uid_lt r.uid u.uid) (same_uid r.uid u.uid) (put_distinct u rs d.1 a.1)
  where
    by : (b c : Bool) → AreDistinct (put_record u rs) → AreDistinct (cond b (r ∷ put_record u rs) (cond c (u ∷ rs) (u ∷ r ∷ rs)))
    by true c k = (put_all (λ v. same_gvsn r.gvsn v.gvsn ≡ false) u rs d.0 (apart_back u.gvsn r.gvsn a.0), k)
    by false true k = (a.1, d.1)
    by false false k = (a, d)

-- ---- a book

-- a book with a wider vector, with an update that it newly covers, and with a form of its file
pub kept : (book : BookState) (vector : List Interval) (next : ℕ) (update : Option Update) (form : Option (List ℕ)) → IsBook book → Widens book vector next update
    → IsBook (record book { records = put_any update book.records; vector = vector; consumed = next; staged = staged_by update form book.staged })
kept book vector next None form b w = record {
  rising = b.rising;
  set = b.set;
  covered = covered_more book.vector vector book.records w.wider b.covered;
  distinct = b.distinct;
  made = w.made;
  canonical = w.canonical;
  within = w.within;
  staged = b.staged;
}
kept book vector next (Some u) form b w =
    record {
      rising = put_rising u book.records b.rising;
      set = put_all (λ r. r.set ≡ book.set) u book.records b.set w.set;
      covered = put_all (λ r. covers vector r.gvsn ≡ true) u book.records (covered_more book.vector vector book.records w.wider b.covered) w.new.0;
      distinct = put_distinct u book.records b.distinct (apart_covered book.vector u.gvsn book.records w.new.1 b.covered);
      made = w.made;
      canonical = w.canonical;
      within = w.within;
      staged = with_rising u.uid form book.staged b.staged;
    }

-- a book whose round covers a wider vector
pub kept_round : (book : BookState) (vector : List Interval) → IsBook book → Widens book vector book.consumed None → IsBook (record book { vector = vector; phase = Normal })
kept_round book vector b w = record {
  rising = b.rising;
  set = b.set;
  covered = covered_more book.vector vector book.records w.wider b.covered;
  distinct = b.distinct;
  made = w.made;
  canonical = w.canonical;
  within = w.within;
  staged = b.staged;
}

-- a book without a form of a file
pub kept_without : (book : BookState) (uid : Uid) → IsBook book → IsBook (record book { staged = staged_with uid None book.staged })
kept_without book uid b = record {
  rising = b.rising;
  set = b.set;
  covered = b.covered;
  distinct = b.distinct;
  made = b.made;
  canonical = b.canonical;
  within = b.within;
  staged = with_rising uid None book.staged b.staged;
}

-- What tests of a file's object say of the file.
use Rattle.std.proofs.Common.{◌≡◌, ◌∙◌, ℕ, Bool, true, false, List, Some, None, refl, sym, ap, subst}
use Rattle.std.specs.Prelude.{◌↔◌, IsTrue, MatchBool, is_some}
use Rattle.frs_base.specs.Options.{In}
use Rattle.frs_base.specs.Versions.{same_uid}
use Rattle.frs_base.specs.declared.version.Uid.{Uid}
use Rattle.vol_state.specs.declared.object.Object.{Object}
use Rattle.vol_state.specs.Maps.{Stands, maps_of}
use Rattle.vol_state.specs.State.{State, object_of, uid_of}
use Rattle.vol_state.specs.Tables.{IsAt, IsNew}
use Rattle.vol_state.specs.Valid.{IsVolume}
use Rattle.vol_state.proofs.Tabling.{at_item, item_of}
use Rattle.vol_state.proofs.Volumes.{find_in, find_none, is_same}
use Rattle.vol_state.proofs.Walks.{same_is}
use Rattle.name_rules.specs.declared.step.Step.TheVariants.{Erase, Make, Park, Place, Rewrite, Unstage}
use Rattle.name_rules.specs.Shown.{AreShown}
use Rattle.record_db.specs.State.{BookState}
use Rattle.install_plan.specs.Done.{Done, IsObjectOf, Needs}
use Rattle.install_plan.specs.Objects.{IsAstray, IsAwaited, IsHome, IsInstalled, IsOutdated, IsPresent, IsRemoved, IsUpToDate}
use Rattle.install_plan.specs.Staged.{staged_hashes}

pub stands : (v : State) → Stands v (maps_of v)
stands v = record { objects = λ fid. refl; entries = λ usn. refl; next_fid = refl; next_usn = refl }

-- a test that holds just where it is needed tells both
pub told : {P : Type 0} (b : Bool) → IsTrue b ↔ P → MatchBool b P (P → ⊥)
told true both = both.0 refl
told false both = λ p. let t = both.1 p in cc

-- the same in other words
pub match_as : {P Q M N : Type 0} (b : Bool) → (P → M) → (Q → N) → MatchBool b P Q → MatchBool b M N
match_as true to other p = to p
match_as false to other q = other q

module _ (v : State) (valid : IsVolume v) (uid : Uid) where
  -- ---- the object of a file

  -- there is none
  pub none_there : object_of v uid ≡ None → IsNew v.own (maps_of v) uid
  none_there e fid o at same =
      let other : same_uid (uid_of v.own o) uid ≡ false = find_none (λ x. same_uid (uid_of v.own x) uid) v.objects o (ap is_some e) (item_of v (maps_of v) (stands v) fid o at).1 in
      let this : same_uid (uid_of v.own o) uid ≡ true = subst (λ y. same_uid (uid_of v.own o) y ≡ true) same (is_same (uid_of v.own o)) in
      cc

  pub one_there : (o : Object) → object_of v uid ≡ Some o → IsObjectOf v.own (maps_of v) uid o.fid o
  one_there o e = let (i, same) = find_in (λ x. same_uid (uid_of v.own x) uid) v.objects o e in (at_item v (maps_of v) valid (stands v) o i, same_is (uid_of v.own o) uid same)

  -- and no other one
  only_one : (o : Object) → object_of v uid ≡ Some o → (fid : ℕ) (z : Object) → IsObjectOf v.own (maps_of v) uid fid z → z ≡ o
  only_one o e fid z (at, is) =
      let (i, same) = find_in (λ x. same_uid (uid_of v.own x) uid) v.objects o e in
      valid.uids z o (item_of v (maps_of v) (stands v) fid z at).1 i (is ∙ sym (same_is (uid_of v.own o) uid same))

  -- what holds of the object holds of each of the file
  of_each : (P : Object → Type 0) (o : Object) → object_of v uid ≡ Some o → P o → (fid : ℕ) (z : Object) → IsObjectOf v.own (maps_of v) uid fid z → P z
  of_each P o e p fid z of = subst P (sym (only_one o e fid z of)) p

  module _ (book : BookState) where
    -- ---- where a file has no object

    pub none_to_park : object_of v uid ≡ None → Done v book (Park uid)
    none_to_park e = λ fid o p (at, is) placed. absurd (none_there e fid o at is)

    pub none_to_erase : object_of v uid ≡ None → Done v book (Erase uid)
    none_to_erase e = λ fid o u (at, is) r id. absurd (none_there e fid o at is)

    pub none_to_rewrite : object_of v uid ≡ None → Done v book (Rewrite uid)
    none_to_rewrite e = λ fid o u (at, is) r id file. absurd (none_there e fid o at is)

    pub none_to_place : object_of v uid ≡ None → Done v book (Place uid)
    none_to_place e = λ fid o u (at, is) limbo shown id. none_there e fid o at is

    pub none_to_unstage : object_of v uid ≡ None → Done v book (Unstage uid)
    none_to_unstage e = λ fid o (at, is) staged. none_there e fid o at is

    pub missing : (uids : List Uid) (b : Bool) → AreShown book.records uids → object_of v uid ≡ None → IsTrue b ↔ In uid uids → MatchBool b (Needs v book (Make uid)) (Done v book (Make uid))
    missing uids true listed e both = let (u, shown, id) = listed.each uid (both.0 refl) in (u, shown, id, none_there e)
    missing uids false listed e both = λ u shown id. let there = both.1 (subst (λ x. In x uids) id (listed.whole u shown)) in absurd (cc)

    -- ---- where it has one

    module _ (o : Object) (there : object_of v uid ≡ Some o) where
      at : IsAt (maps_of v) o.fid o
      at = (one_there o there).0

      of : uid_of v.own o ≡ uid
      of = (one_there o there).1

      pub made : Done v book (Make uid)
      made = λ u shown id. (o.fid, o, at, of)

      home : IsHome v book.records o → Done v book (Park uid)
      home h = λ fid z p is placed. of_each (IsHome v book.records) o there h fid z is p placed

      present : IsPresent v book.records o → Done v book (Erase uid)
      present h = λ fid z u is r id. of_each (IsPresent v book.records) o there h fid z is u (r, id ∙ sym is.1)

      current : IsUpToDate v book.records o → Done v book (Rewrite uid)
      current h = λ fid z u is r id file. of_each (IsUpToDate v book.records) o there h fid z is u (r, id ∙ sym is.1) file

      placed : (IsAwaited v book.records o → ⊥) → Done v book (Place uid)
      placed h = λ fid z u is limbo shown id. of_each (λ x. IsAwaited v book.records x → ⊥) o there h fid z is (limbo, (u, (shown, id ∙ sym is.1)))

      cleared : (IsInstalled v book o → ⊥) → Done v book (Unstage uid)
      cleared h = λ fid z is staged. of_each (λ x. IsInstalled v book x → ⊥) o there h fid z is (ap (staged_hashes book) is.1 ∙ staged)

      pub parks : (b : Bool) → MatchBool b (IsAstray v book.records o) (IsHome v book.records o) → MatchBool b (Needs v book (Park uid)) (Done v book (Park uid))
      parks b = match_as b (λ (p, is, away). (o.fid, o, p, at, of, is, away)) home

      pub erases : (b : Bool) → MatchBool b (IsRemoved v book.records o) (IsPresent v book.records o) → MatchBool b (Needs v book (Erase uid)) (Done v book (Erase uid))
      erases b = match_as b (λ (u, (r, id), gone). (o.fid, o, u, at, of, r, id ∙ of, gone)) present

      pub rewrites : (b : Bool) → MatchBool b (IsOutdated v book.records o) (IsUpToDate v book.records o) → MatchBool b (Needs v book (Rewrite uid)) (Done v book (Rewrite uid))
      rewrites b = match_as b (λ (u, (r, id), file, differs). (o.fid, o, u, at, of, r, id ∙ of, file, differs)) current

      pub places : (b : Bool) → IsTrue b ↔ IsAwaited v book.records o → MatchBool b (Needs v book (Place uid)) (Done v book (Place uid))
      places b both = match_as b (λ (limbo, (u, (shown, id))). (o.fid, o, u, at, of, limbo, shown, id ∙ of)) placed (told b both)

      pub unstages : (b : Bool) → IsTrue b ↔ IsInstalled v book o → MatchBool b (Needs v book (Unstage uid)) (Done v book (Unstage uid))
      unstages b both = match_as b (λ e. (o.fid, o, at, of, ap (staged_hashes book) (sym of) ∙ e)) cleared (told b both)

-- A member is drained where nothing is due.
use Rattle.std.proofs.Common.{◌≡◌, ℕ, Bool, true, false, refl, sym, ap, ◌∙◌, subst, arith, inl, inr, Option}
use Rattle.frs_base.specs.declared.sum.Sum.{Sum}
use Rattle.frs_base.specs.declared.version.Uid.{Uid}
use Rattle.win_order.specs.declared.update.Update.{Update}
use Rattle.vol_state.specs.State.{uid_of}
use Rattle.vol_state.specs.Maps.{Maps}
use Rattle.name_rules.specs.Recorded.{parent_uid}
use Rattle.name_rules.specs.Tree.{IsShown}
use Rattle.name_rules.specs.Next.{NothingToErase, NothingToMake, NothingToPark, NothingToPlace, NothingToRewrite, NothingToUnstage}
use Rattle.name_rules.proofs.Showing.{shown_record}
use Rattle.world_model.specs.World.{IsRecordOf, fresh_world}
use Rattle.world_model.specs.Due.{Sees, View, due}
use Rattle.world_model.specs.Laws.{DrainedWhereNothingIsDue, FreshMembersAreDrained}
use Rattle.world_model.proofs.Facts.{none_some, some_is, true_false}
use Rattle.world_model.proofs.Deciding.{IsListed, records_listed}
use Rattle.world_model.proofs.Due.{site, tells_true, told}
use Rattle.world_model.proofs.Views.{sum_decided, views_there}
use Rattle.world_model.specs.Invariant.{PlacesAreATree}

-- ---- where nothing is due

none_to_park : (v : View) → due v ≡ 0 → v.object ≡ true → v.placed ≡ true → (v.shown ≡ true) × (v.exact ≡ true)
none_to_park v z a b = (grind (arith, z), grind (arith, z))

none_to_make : (v : View) → due v ≡ 0 → v.shown ≡ true → (v.object ≡ true) × (v.placed ≡ true)
none_to_make v z a = (grind (arith, z), grind (arith, z))

none_to_erase : (v : View) → due v ≡ 0 → v.object ≡ true → v.tombstone ≡ false
none_to_erase v z a = grind (arith, z)

none_to_rewrite : (v : View) → due v ≡ 0 → v.object ≡ true → v.file ≡ true → v.differs ≡ false
none_to_rewrite v z a b = grind (arith, z)

none_staged : (v : View) → due v ≡ 0 → v.staged ≡ false
none_staged v z = grind (arith, z)

-- ---- what each file's view then says of the member

module _ (R : Update → Type 0) (listed : IsListed R) (own : ℕ) (m : Maps) (staged : Uid → Option Sum) (tree : PlacesAreATree own m) where
  -- each file has a view, of which nothing is due
  abbrev NothingIsDue : Type 0
  NothingIsDue = (uid : Uid) → (v : View) × Sees R own m staged uid v × (due v ≡ 0)

  park : NothingIsDue → NothingToPark R own m
  park none fid o p at place =
      let (v, s, z) = none (uid_of own o) in
      let (shown, exact) = none_to_park v z (tells_true v.object s.object (fid, o, (at, refl))) (tells_true v.placed s.placed (fid, o, p, (at, refl), place)) in
      let (u, is_shown, id) = told v.shown s.shown shown in
      let (g, q, there, r, k, place', record_is, id', up, name) = told v.exact s.exact exact in
      let same : o ≡ q = ((site own m fid o (uid_of own o) tree at refl).only g q k).1 in
      let spot : there ≡ p = some_is there p (sym place' ∙ (ap (λ x. x.place) (sym same) ∙ place)) in
      let one : u ≡ r = listed.one u r (shown_record R u is_shown) record_is (id ∙ sym id') in
      (r, subst (IsShown R) one is_shown, id', up ∙ ap (λ x. parent_uid own m x.0) spot, name ∙ ap (λ x. x.1) spot)

  erase : NothingIsDue → NothingToErase R own m
  erase none fid o u at record_is id = by u.present refl
    where
      by : (b : Bool) → u.present ≡ b → b ≡ true
      by true e = refl
      by false e =
          let (v, s, z) = none (uid_of own o) in
          absurd (true_false v.tombstone (tells_true v.tombstone s.tombstone (u, record_is, id, e)) (none_to_erase v z (tells_true v.object s.object (fid, o, (at, refl)))))

  make : NothingIsDue → NothingToMake R own m
  make none u is_shown =
      let (v, s, z) = none u.uid in
      let (object, placed) = none_to_make v z (tells_true v.shown s.shown (u, is_shown, refl)) in
      let (fid, o, k) = told v.object s.object object in
      (fid, o, k.0, k.1)

  rewrite : NothingIsDue → NothingToRewrite R own m
  rewrite none fid o u at record_is id file = elim (sum_decided o.sum u.hash) [
    | inl e ↦ e
    | inr n ↦ (
        let (v, s, z) = none (uid_of own o) in
        let same = none_to_rewrite v z (tells_true v.object s.object (fid, o, (at, refl))) (tells_true v.file s.file (u, record_is, id, file)) in
        absurd (true_false v.differs (tells_true v.differs s.differs (fid, o, u, (at, refl), record_is, id, n)) same))
  ]

  place : NothingIsDue → NothingToPlace R own m
  place none fid o u at limbo is_shown id =
      let (v, s, z) = none (uid_of own o) in
      let (object, placed) = none_to_make v z (tells_true v.shown s.shown (u, is_shown, id)) in
      let (g, q, p, k, place') = told v.placed s.placed placed in
      let same : o ≡ q = ((site own m fid o (uid_of own o) tree at refl).only g q k).1 in
      none_some p (sym limbo ∙ (ap (λ x. x.place) same ∙ place'))

  unstage : NothingIsDue → NothingToUnstage own m staged
  unstage none uid sum fid o is at id same =
      let (v, s, z) = none uid in
      true_false v.staged (tells_true v.staged s.staged (sum, is)) (none_staged v z)

pub drained_where_nothing_is_due : DrainedWhereNothingIsDue
drained_where_nothing_is_due w h d quiet all none = record {
  quiet = quiet;
  park = park R listed d m staged tree due_none;
  erase = erase R listed d m staged tree due_none;
  make = make R listed d m staged tree due_none;
  rewrite = rewrite R listed d m staged tree due_none;
  place = place R listed d m staged tree due_none;
  unstage = unstage R listed d m staged tree due_none;
  skip = all;
}
  where
    R : Update → Type 0
    R = IsRecordOf w d

    m : Maps
    m = (w.at d).volume

    staged : Uid → Option Sum
    staged = (w.at d).staged

    listed : IsListed R
    listed = records_listed w.all (w.at d).known h.versions.one_each

    tree : PlacesAreATree d m
    tree = (h.members d).places

    due_none : NothingIsDue R listed d m staged tree
    due_none uid = let (v, s) = views_there w h d uid in (v, s, none uid v s)

-- ---- members that have done nothing

pub fresh_members_are_drained : FreshMembersAreDrained
fresh_members_are_drained kinds d = record {
  quiet = λ n r past e. absurd (none_some r e);
  park = λ fid o p at place. absurd (none_some o at);
  erase = λ fid o u at is id. absurd (none_some o at);
  make = λ u shown. absurd ((shown_record (IsRecordOf (fresh_world kinds) d) u shown).among.0);
  rewrite = λ fid o u at is id file. absurd (none_some o at);
  place = λ fid o u at limbo shown id. none_some o at;
  unstage = λ uid sum fid o is at id same. none_some o at;
  skip = refl;
}

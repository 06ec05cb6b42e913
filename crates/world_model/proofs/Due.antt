-- How much is due for a file, and what each step of the installer does to it.
use Rattle.std.proofs.Common.{◌≡◌, ◌≢◌, ◌<◌, ◌≤◌, ◌&&◌, ℕ, Bool, true, false, cond, eqb, List, [], ◌++◌, refl, sym, ap, ◌∙◌, subst, arith, inl, inr, Option, Some, None}
use Rattle.std.proofs.lemmas.Bool.{cases_eq}
use Rattle.frs_base.specs.Versions.{same_uid}
use Rattle.frs_base.specs.declared.kind.Kind.{Kind}
use Rattle.frs_base.specs.declared.sum.Sum.{Sum}
use Rattle.frs_base.specs.declared.version.Uid.{Uid}
use Rattle.win_order.specs.declared.update.Update.{Update}
use Rattle.vol_state.specs.declared.object.Object.{Object}
use Rattle.vol_state.specs.declared.record.VolRecord.{VolRecord}
use Rattle.vol_state.specs.declared.command.VolCmd.{VolCmd}
use Rattle.vol_state.specs.declared.command.VolCmd.TheVariants as cmd
use Rattle.vol_state.specs.State.{uid_of}
use Rattle.vol_state.specs.Effects.{at_place, stamp, uid_found, with_bytes}
use Rattle.vol_state.specs.Conditions.{root_uid}
use Rattle.vol_state.specs.Maps.{Maps, write}
use Rattle.vol_state.specs.Tables.{IsAt, IsDirectory, IsEmpty, IsNew}
use Rattle.record_db.specs.Records.{Covered, IsRecord}
use Rattle.record_db.specs.Staged.{with_uid}
use Rattle.record_db.proofs.Best.{best_one, best_same}
use Rattle.record_db.proofs.Sets.{in_before, plus_old}
use Rattle.record_db.proofs.Keys.{same_uid_is, uid_cases}
use Rattle.name_rules.specs.Recorded.{base_fence, is_deletion, parent_uid}
use Rattle.name_rules.specs.Tree.{IsShown, is_file, kind_of}
use Rattle.name_rules.specs.Next.{IsInPlace, IsQuiet}
use Rattle.name_rules.specs.declared.step.Step.TheVariants as install_step
use Rattle.name_rules.proofs.Cases.{made_by}
use Rattle.name_rules.proofs.Showing.{AreSame, same_back, shown_record, shown_same}
use Rattle.world_model.specs.World.{Member, World, IsRecordOf, with_member}
use Rattle.world_model.specs.Events.{Install, Records, Step, consumed_by, consumes, operated, unstaged_at}
use Rattle.world_model.specs.Invariant.{Invariant, NumbersAreFresh, PlacesAreATree}
use Rattle.world_model.specs.Due.{IsObject, Lowers, Sees, Tells, View, due}
use Rattle.world_model.specs.Laws.{AtMostFourAreDue, SeesAt, StepsLowerWhatIsDue}
use Rattle.world_model.proofs.Changing.{at_same, uid_other, uid_same}
use Rattle.world_model.proofs.Facts.{at_case, none_some, some_is, true_false}
use Rattle.world_model.proofs.Writing.{changes_is, logs, loses_is, made_object, wrote}
use Rattle.world_model.proofs.Chains.{beside, there}
use Rattle.world_model.proofs.Deciding.{AreOne}
use Rattle.world_model.proofs.Installed.{file_present}
use Rattle.world_model.proofs.Locally.{fid_is_new}
use Rattle.world_model.proofs.Progress.{shown_name}
use Rattle.world_model.proofs.Puts.{consume_none}

-- ---- counting

-- at most four of the six
pub due_small : (v : View) → (v.shown ≡ true → v.tombstone ≡ false) → (v.file ≡ true → v.tombstone ≡ false) → due v ≤ 4
due_small v p q = grind (arith, p, q)

pub park_lowers : (v : View) → v.object ≡ true → v.placed ≡ true → (v.shown && v.exact) ≡ false → due (record v { placed = false; exact = false }) < due v
park_lowers v a b c = grind arith

pub erase_lowers : (v : View) → v.object ≡ true → v.placed ≡ false → v.shown ≡ false → v.tombstone ≡ true → due (record v { object = false; placed = false; exact = false; differs = false }) < due v
erase_lowers v a b c d = grind arith

pub make_lowers : (v : View) (differs : Bool) → v.shown ≡ true → v.object ≡ false → v.tombstone ≡ false → (v.file ≡ true → differs ≡ false)
    → due (record v { object = true; placed = false; exact = false; differs = differs }) < due v
make_lowers v differs a b c d = grind (arith, d)

pub rewrite_lowers : (v : View) → v.object ≡ true → v.file ≡ true → v.differs ≡ true → due (record v { differs = false }) < due v
rewrite_lowers v a b c = grind arith

pub place_lowers : (v : View) → v.object ≡ true → v.placed ≡ false → v.shown ≡ true → due (record v { placed = true; exact = true }) < due v
place_lowers v a b c = grind arith

pub unstage_lowers : (v : View) → v.staged ≡ true → due (record v { staged = false }) < due v
unstage_lowers v a = grind arith

-- ---- tests that tell facts

pub tells_true : {P : Type 0} (b : Bool) → Tells b P → P → b ≡ true
tells_true b (inl t) p = t.0
tells_true b (inr t) p = absurd (t.1 p)

pub tells_false : {P : Type 0} (b : Bool) → Tells b P → (P → ⊥) → b ≡ false
tells_false b (inl t) n = absurd (n t.1)
tells_false b (inr t) n = t.0

-- the fact of a test that holds
pub told : {P : Type 0} (b : Bool) → Tells b P → b ≡ true → P
told b (inl t) e = t.1
told b (inr t) e = absurd (true_false b e t.0)

-- tests of facts that follow from each other
pub tells_same : {P Q : Type 0} (b c : Bool) → Tells b P → Tells c Q → (P → Q) → (Q → P) → c ≡ b
tells_same b c (inl t) s to back = tells_true c s (to t.1) ∙ sym t.0
tells_same b c (inr t) s to back = tells_false c s (λ q. t.1 (back q)) ∙ sym t.0

-- ---- what a view sees

-- an object of the file is at f, and no other
pub record IsSite (own : ℕ) (m : Maps) (uid : Uid) (f : ℕ) (o : Object) : Type 0 where
  pub there : IsAt m f o
  pub is : uid_of own o ≡ uid
  pub only : (g : ℕ) (z : Object) → IsObject own m uid g z → (g ≡ f) × (o ≡ z)

-- that of a volume
pub site : (own : ℕ) (m : Maps) (f : ℕ) (o : Object) (uid : Uid) → PlacesAreATree own m → IsAt m f o → uid_of own o ≡ uid → IsSite own m uid f o
site own m f o uid tree at is = record { there = at; is = is; only = λ g z k. let e : g ≡ f = tree.uids g f z o k.0 at (k.1 ∙ sym is) in (e, some_is o z (sym at ∙ subst (λ i. m.at i ≡ Some z) e k.0)) }

-- likewise of an object that is written, where no other is of the file
pub site_written : (own : ℕ) (m : Maps) (f : ℕ) (y : Object) (e : VolRecord) (uid : Uid) → ((g : ℕ) (z : Object) → g ≢ f → IsAt m g z → uid_of own z ≢ uid) → uid_of own y ≡ uid
    → IsSite own (wrote m f (Some y) e) uid f y
site_written own m f y e uid others is = record {
  there = there m f (Some y) e;
  is = is;
  only = λ g z k. at_case ((g ≡ f) × (y ≡ z)) m.at f (Some y) g (Some z) k.0 (λ i s. (i, some_is y z s)) (λ n a. absurd (others g z n a k.1));
}

sees_object : (R : Update → Type 0) (own : ℕ) (m : Maps) (staged : Uid → Option Sum) (uid : Uid) (v : View) (f : ℕ) (o : Object) → Sees R own m staged uid v → IsSite own m uid f o → v.object ≡ true
sees_object R own m staged uid v f o s at = tells_true v.object s.object (f, o, (at.there, at.is))

sees_placed : (R : Update → Type 0) (own : ℕ) (m : Maps) (staged : Uid → Option Sum) (uid : Uid) (v : View) (f : ℕ) (o : Object) (p : ℕ × List ℕ) → Sees R own m staged uid v → IsSite own m uid f o
    → o.place ≡ Some p → v.placed ≡ true
sees_placed R own m staged uid v f o p s at place = tells_true v.placed s.placed (f, o, p, (at.there, at.is), place)

-- an object in limbo is neither placed nor in place
sees_limbo : (R : Update → Type 0) (own : ℕ) (m : Maps) (staged : Uid → Option Sum) (uid : Uid) (v : View) (f : ℕ) (o : Object) → Sees R own m staged uid v → IsSite own m uid f o → o.place ≡ None
    → (v.placed ≡ false) × (v.exact ≡ false)
sees_limbo R own m staged uid v f o s at limbo = (
  tells_false v.placed s.placed (λ (g, z, p, k, place). none_some p (sym limbo ∙ (ap (λ w. w.place) (at.only g z k).1 ∙ place))),
  tells_false v.exact s.exact (λ (g, z, p, u, k, place, r, id, up, name). none_some p (sym limbo ∙ (ap (λ w. w.place) (at.only g z k).1 ∙ place))),
)

-- where there is no object, it is none of what objects can be
sees_none : (R : Update → Type 0) (own : ℕ) (m : Maps) (staged : Uid → Option Sum) (uid : Uid) (v : View) → Sees R own m staged uid v → IsNew own m uid
    → (v.object ≡ false) × (v.placed ≡ false) × (v.exact ≡ false) × (v.differs ≡ false)
sees_none R own m staged uid v s none = (
  tells_false v.object s.object (λ (g, z, k). none g z k.0 k.1),
  tells_false v.placed s.placed (λ (g, z, p, k, place). none g z k.0 k.1),
  tells_false v.exact s.exact (λ (g, z, p, u, k, place, r, id, up, name). none g z k.0 k.1),
  tells_false v.differs s.differs (λ (g, z, u, k, r, id, ne). none g z k.0 k.1),
)

sees_differs : (R : Update → Type 0) (own : ℕ) (m : Maps) (staged : Uid → Option Sum) (uid : Uid) (v : View) (f : ℕ) (o : Object) (r : Update) → AreOne R → Sees R own m staged uid v → IsSite own m uid f o
    → R r → r.uid ≡ uid → o.sum ≡ r.hash → v.differs ≡ false
sees_differs R own m staged uid v f o r one s at is_record id sum = tells_false v.differs s.differs
    (λ (g, z, u, k, q, id', ne). ne (ap (λ w. w.sum) (sym (at.only g z k).1) ∙ (sum ∙ ap (λ w. w.hash) (one r u is_record q (id ∙ sym id')))))

-- the tests that speak of records and staged contents alone are the same in two volumes
sees_alike : (R : Update → Type 0) (own : ℕ) (m new : Maps) (staged : Uid → Option Sum) (uid : Uid) (v v' : View) → Sees R own m staged uid v → Sees R own new staged uid v'
    → (v'.shown ≡ v.shown) × (v'.tombstone ≡ v.tombstone) × (v'.file ≡ v.file) × (v'.staged ≡ v.staged)
sees_alike R own m new staged uid v v' s s' = (
  tells_same v.shown v'.shown s.shown s'.shown (λ h. h) (λ h. h),
  tells_same v.tombstone v'.tombstone s.tombstone s'.tombstone (λ h. h) (λ h. h),
  tells_same v.file v'.file s.file s'.file (λ h. h) (λ h. h),
  tells_same v.staged v'.staged s.staged s'.staged (λ h. h) (λ h. h),
)

-- ---- other files

-- the directories of placed objects keep their UIDs
abbrev pub ParentsStay : ℕ → Maps → Maps → Type 0
ParentsStay own m new = (g : ℕ) (o : Object) (p : ℕ × List ℕ) → IsAt m g o → o.place ≡ Some p → parent_uid own new p.0 ≡ parent_uid own m p.0

-- a file's objects are the same in two volumes, and so are the UIDs of their directories
pub record StaysSo (own : ℕ) (m new : Maps) (uid : Uid) : Type 0 where
  pub to : (g : ℕ) (z : Object) → IsObject own m uid g z → IsAt new g z
  pub back : (g : ℕ) (z : Object) → IsObject own new uid g z → IsAt m g z
  pub parents : ParentsStay own m new

-- its view stays the same
view_stays : (R : Update → Type 0) (own : ℕ) (m new : Maps) (staged : Uid → Option Sum) (uid : Uid) (v v' : View) → StaysSo own m new uid → Sees R own m staged uid v → Sees R own new staged uid v' → v' ≡ v
view_stays R own m new staged uid v v' k s s' =
    let (shown, tombstone, file, content) = sees_alike R own m new staged uid v v' s s' in
    λ i. record { shown = shown i; tombstone = tombstone i; file = file i; object = object i; placed = placed i; exact = exact i; differs = differs i; staged = content i }
  where
    object : v'.object ≡ v.object
    object = tells_same v.object v'.object s.object s'.object (λ (g, z, h). (g, z, (k.to g z h, h.1))) (λ (g, z, h). (g, z, (k.back g z h, h.1)))

    placed : v'.placed ≡ v.placed
    placed = tells_same v.placed v'.placed s.placed s'.placed (λ (g, z, p, h, e). (g, z, p, (k.to g z h, h.1), e)) (λ (g, z, p, h, e). (g, z, p, (k.back g z h, h.1), e))

    exact : v'.exact ≡ v.exact
    exact = tells_same v.exact v'.exact s.exact s'.exact
        (λ (g, z, p, u, h, e, r, id, up, name). (g, z, p, u, (k.to g z h, h.1), e, r, id, up ∙ sym (k.parents g z p h.0 e), name))
        (λ (g, z, p, u, h, e, r, id, up, name). (g, z, p, u, (k.back g z h, h.1), e, r, id, up ∙ k.parents g z p (k.back g z h) e, name))

    differs : v'.differs ≡ v.differs
    differs = tells_same v.differs v'.differs s.differs s'.differs
        (λ (g, z, u, h, r, id, ne). (g, z, u, (k.to g z h, h.1), r, id, ne))
        (λ (g, z, u, h, r, id, ne). (g, z, u, (k.back g z h, h.1), r, id, ne))

-- so what isn't of the written object's file stays so
pub stays_so : (own : ℕ) (m : Maps) (f : ℕ) (o : Option Object) (e : VolRecord) (uid : Uid) → ((z : Object) → m.at f ≡ Some z → uid_of own z ≢ uid) → ((z : Object) → o ≡ Some z → uid_of own z ≢ uid) → ParentsStay own m (wrote m f o e)
    → StaysSo own m (wrote m f o e) uid
stays_so own m f o e uid old new parents = record {
  to = λ g z h. beside m f o e g (Some z) (λ i. old z (subst (λ j. m.at j ≡ Some z) i h.0) h.1) h.0;
  back = λ g z h. at_case (m.at g ≡ Some z) m.at f o g (Some z) h.0 (λ i k. absurd (new z k h.1)) (λ n a. a);
  parents = parents;
}

-- ---- the UIDs of directories

parent_same : (own : ℕ) (m new : Maps) (fid : ℕ) → uid_found own (new.at fid) ≡ uid_found own (m.at fid) → parent_uid own new fid ≡ parent_uid own m fid
parent_same own m new fid e = ap (cond (eqb fid 0) root_uid) e

-- an object is changed, but not its UID
pub parents_changed : (own : ℕ) (m : Maps) (f : ℕ) (o y : Object) (e : VolRecord) → IsAt m f o → uid_of own y ≡ uid_of own o → (fid : ℕ) → parent_uid own (wrote m f (Some y) e) fid ≡ parent_uid own m fid
parents_changed own m f o y e at is fid = parent_same own m (wrote m f (Some y) e) fid (elim (cases_eq fid f) [
  | inl s ↦ subst (λ i. uid_found own ((wrote m f (Some y) e).at i) ≡ uid_found own (m.at i)) (sym s) (ap (uid_found own) (there m f (Some y) e) ∙ (is ∙ sym (ap (uid_found own) at)))
  | inr n ↦ ap (uid_found own) (beside m f (Some y) e fid (m.at fid) n refl)
])

-- an object of another number is written or goes
pub parents_beside : (own : ℕ) (m : Maps) (f : ℕ) (o : Option Object) (e : VolRecord) → ((g : ℕ) (z : Object) (p : ℕ × List ℕ) → IsAt m g z → z.place ≡ Some p → p.0 ≢ f) → ParentsStay own m (wrote m f o e)
parents_beside own m f o e apart g z p at place = parent_same own m (wrote m f o e) p.0 (ap (uid_found own) (beside m f o e p.0 (m.at p.0) (apart g z p at place) refl))

-- ---- one file less, and the others as they were

lowers_where : {V A : Uid → View → Type 0} (uid : Uid) → ((v v' : View) → V uid v → A uid v' → due v' < due v) → ((i : Uid) (v v' : View) → i ≢ uid → V i v → A i v' → v' ≡ v) → Lowers V A (same_uid uid)
lowers_where {V = V} {A = A} uid less same = record {
  no_more = λ i v v' h h'. elim (uid_cases i uid) [
    | inl e ↦ let l : due v' < due v = less v v' (subst (λ j. V j v) e h) (subst (λ j. A j v') e h') in omega (arith, l)
    | inr n ↦ let e : due v' ≡ due v = ap due (same i v v' n h h') in omega (arith, e)
  ];
  less = λ i v v' t h h'. let e : uid ≡ i = same_uid_is uid i t in less v v' (subst (λ j. V j v) (sym e) h) (subst (λ j. A j v') (sym e) h');
}

-- an object is changed, but not its UID
changed_lowers : (R : Update → Type 0) (own : ℕ) (m : Maps) (staged : Uid → Option Sum) (f : ℕ) (o y : Object) (e : VolRecord) (uid : Uid) → PlacesAreATree own m → IsAt m f o → uid_of own o ≡ uid
    → uid_of own y ≡ uid_of own o
    → ((v v' : View) → Sees R own m staged uid v → Sees R own (wrote m f (Some y) e) staged uid v' → IsSite own m uid f o → IsSite own (wrote m f (Some y) e) uid f y → due v' < due v)
    → Lowers (Sees R own m staged) (Sees R own (wrote m f (Some y) e) staged) (same_uid uid)
changed_lowers R own m staged f o y e uid tree at is kept less = lowers_where uid
    (λ v v' s s'. less v v' s s' old (site_written own m f y e uid (λ g z n a k. n (tree.uids g f z o a at (k ∙ sym is))) (kept ∙ is)))
    (λ i v v' n s s'. view_stays R own m (wrote m f (Some y) e) staged i v v'
    (stays_so own m f (Some y) e i (λ z a k. n (sym k ∙ (ap (uid_of own) (some_is z o (sym a ∙ at)) ∙ is))) (λ z a k. n (sym k ∙ (ap (uid_of own) (sym (some_is y z a)) ∙ (kept ∙ is))))
    (λ g z p a place. parents_changed own m f o y e at kept p.0))
    s s')
  where
    old : IsSite own m uid f o
    old = site own m f o uid tree at is

-- its sum stays
differs_kept : (R : Update → Type 0) (own : ℕ) (m new : Maps) (staged : Uid → Option Sum) (uid : Uid) (v v' : View) (f : ℕ) (o y : Object) → Sees R own m staged uid v → Sees R own new staged uid v' → IsSite own m uid f o → IsSite own new uid f y
    → y.sum ≡ o.sum → v'.differs ≡ v.differs
differs_kept R own m new staged uid v v' f o y s s' at at' sum = tells_same v.differs v'.differs s.differs s'.differs
    (λ (g, z, u, k, r, id, ne). (f, y, u, (at'.there, at'.is), r, id, λ e. ne (ap (λ w. w.sum) (sym (at.only g z k).1) ∙ (sym sum ∙ e))))
    (λ (g, z, u, k, r, id, ne). (f, o, u, (at.there, at.is), r, id, λ e. ne (ap (λ w. w.sum) (sym (at'.only g z k).1) ∙ (sum ∙ e))))

-- its place stays
place_kept : (R : Update → Type 0) (own : ℕ) (m new : Maps) (staged : Uid → Option Sum) (uid : Uid) (v v' : View) (f : ℕ) (o y : Object) → Sees R own m staged uid v → Sees R own new staged uid v' → IsSite own m uid f o → IsSite own new uid f y
    → y.place ≡ o.place → ((fid : ℕ) → parent_uid own new fid ≡ parent_uid own m fid) → (v'.placed ≡ v.placed) × (v'.exact ≡ v.exact)
place_kept R own m new staged uid v v' f o y s s' at at' place parents = (
  tells_same v.placed v'.placed s.placed s'.placed
      (λ (g, z, p, k, e). (f, y, p, (at'.there, at'.is), place ∙ (ap (λ w. w.place) (at.only g z k).1 ∙ e)))
      (λ (g, z, p, k, e). (f, o, p, (at.there, at.is), sym place ∙ (ap (λ w. w.place) (at'.only g z k).1 ∙ e))),
  tells_same v.exact v'.exact s.exact s'.exact
      (λ (g, z, p, u, k, e, r, id, up, name). (f, y, p, u, (at'.there, at'.is), place ∙ (ap (λ w. w.place) (at.only g z k).1 ∙ e), r, id, up ∙ sym (parents p.0), name))
      (λ (g, z, p, u, k, e, r, id, up, name). (f, o, p, u, (at.there, at.is), sym place ∙ (ap (λ w. w.place) (at'.only g z k).1 ∙ e), r, id, up ∙ parents p.0, name)),
)

-- what is shown or a present file is no tombstone
no_tombstone : (R : Update → Type 0) (own : ℕ) (m : Maps) (staged : Uid → Option Sum) (uid : Uid) (v : View) (u : Update) → AreOne R → Sees R own m staged uid v → R u → u.uid ≡ uid → u.present ≡ true → v.tombstone ≡ false
no_tombstone R own m staged uid v u one s r id present = tells_false v.tombstone s.tombstone
    (λ (q, k, id', absent). true_false u.present present (ap (λ z. z.present) (one u q r k (id ∙ sym id')) ∙ absent))

-- ---- each operation

parks : (R : Update → Type 0) (own : ℕ) (m : Maps) (staged : Uid → Option Sum) (f : ℕ) (o : Object) (p : ℕ × List ℕ) (uid : Uid) → AreOne R → PlacesAreATree own m → IsAt m f o → uid_of own o ≡ uid
    → o.place ≡ Some p → (IsInPlace R own m o p → ⊥) → Lowers (Sees R own m staged) (Sees R own (write own (cmd.Park f) m) staged) (same_uid uid)
parks R own m staged f o p uid one tree at is place out = subst (λ n. Lowers (Sees R own m staged) (Sees R own n staged) (same_uid uid)) (sym (changes_is own 6 false f (at_place None) m o at))
    (changed_lowers R own m staged f o y e uid tree at is refl less)
  where
    y : Object
    y = stamp false m.next_usn (at_place None o)

    e : VolRecord
    e = logs m f (uid_of own o) 6 false

    new : Maps
    new = wrote m f (Some y) e

    apart : (v : View) → Sees R own m staged uid v → IsSite own m uid f o → (a b : Bool) → v.shown ≡ a → v.exact ≡ b → (a && b) ≡ false
    apart v s here false b i j = refl
    apart v s here true false i j = refl
    apart v s here true true i j =
        let (u, shown, id) = told v.shown s.shown i in
        let (g, z, q, r, k, there, is_record, id', up, name) = told v.exact s.exact j in
        let same : u ≡ r = one u r (shown_record R u shown) is_record (id ∙ sym id') in
        let where_is : q ≡ p = some_is q p (sym there ∙ (ap (λ w. w.place) (sym (here.only g z k).1) ∙ place)) in
        absurd (out (u, shown, id ∙ sym is, ap (λ w. w.parent) same ∙ (up ∙ ap (λ w. parent_uid own m w.0) where_is), ap (λ w. w.name) same ∙ (name ∙ ap (λ w. w.1) where_is)))

    less : (v v' : View) → Sees R own m staged uid v → Sees R own new staged uid v' → IsSite own m uid f o → IsSite own new uid f y → due v' < due v
    less v v' s s' here now =
        let (shown, tombstone, file, content) = sees_alike R own m new staged uid v v' s s' in
        let (placed, exact) = sees_limbo R own new staged uid v' f y s' now refl in
        let object : v'.object ≡ v.object = sees_object R own new staged uid v' f y s' now ∙ sym (sees_object R own m staged uid v f o s here) in
        let differs = differs_kept R own m new staged uid v v' f o y s s' here now refl in
        let is_now : record v { placed = false; exact = false } ≡ v' =
        λ i. record { shown = sym shown i; tombstone = sym tombstone i; file = sym file i; object = sym object i; placed = sym placed i; exact = sym exact i; differs = sym differs i; staged = sym content i } in
        subst (λ z. due z < due v) is_now
        (park_lowers v (sees_object R own m staged uid v f o s here) (sees_placed R own m staged uid v f o p s here place) (apart v s here v.shown v.exact refl refl))

rewrites : (R : Update → Type 0) (own : ℕ) (m : Maps) (staged : Uid → Option Sum) (f : ℕ) (o : Object) (bytes : List ℕ) (u : Update) (uid : Uid) → AreOne R → PlacesAreATree own m → IsAt m f o → uid_of own o ≡ uid
    → R u → u.uid ≡ uid → is_file u ≡ true → o.sum ≢ u.hash → (with_bytes bytes o).sum ≡ u.hash → Lowers (Sees R own m staged) (Sees R own (write own (cmd.Rewrite f bytes) m) staged) (same_uid uid)
rewrites R own m staged f o bytes u uid one tree at is r id is_present differ sum = subst (λ n. Lowers (Sees R own m staged) (Sees R own n staged) (same_uid uid)) (sym (changes_is own 9 false f (with_bytes bytes) m o at))
    (changed_lowers R own m staged f o y e uid tree at is refl less)
  where
    y : Object
    y = stamp false m.next_usn (with_bytes bytes o)

    e : VolRecord
    e = logs m f (uid_of own o) 9 false

    new : Maps
    new = wrote m f (Some y) e

    less : (v v' : View) → Sees R own m staged uid v → Sees R own new staged uid v' → IsSite own m uid f o → IsSite own new uid f y → due v' < due v
    less v v' s s' here now =
        let (shown, tombstone, file, content) = sees_alike R own m new staged uid v v' s s' in
        let (placed, exact) = place_kept R own m new staged uid v v' f o y s s' here now refl (parents_changed own m f o y e at refl) in
        let object : v'.object ≡ v.object = sees_object R own new staged uid v' f y s' now ∙ sym (sees_object R own m staged uid v f o s here) in
        let differs = sees_differs R own new staged uid v' f y u one s' now r id sum in
        let is_now : record v { differs = false } ≡ v' =
        λ i. record { shown = sym shown i; tombstone = sym tombstone i; file = sym file i; object = sym object i; placed = sym placed i; exact = sym exact i; differs = sym differs i; staged = sym content i } in
        subst (λ z. due z < due v) is_now
        (rewrite_lowers v (sees_object R own m staged uid v f o s here) (tells_true v.file s.file (u, r, id, is_present)) (tells_true v.differs s.differs (f, o, u, (at, is), r, id, differ)))

places : (R : Update → Type 0) (own : ℕ) (m : Maps) (staged : Uid → Option Sum) (f : ℕ) (o : Object) (parent : ℕ) (name : List ℕ) (u : Update) (uid : Uid) → AreOne R → PlacesAreATree own m → IsAt m f o → uid_of own o ≡ uid
    → o.place ≡ None → IsShown R u → u.uid ≡ uid → u.parent ≡ parent_uid own m parent → u.name ≡ name → Lowers (Sees R own m staged) (Sees R own (write own (cmd.Place f parent name) m) staged) (same_uid uid)
places R own m staged f o parent name u uid one tree at is limbo is_shown id up named =
    subst (λ n. Lowers (Sees R own m staged) (Sees R own n staged) (same_uid uid)) (sym (changes_is own 10 false f (at_place (Some (parent, name))) m o at))
    (changed_lowers R own m staged f o y e uid tree at is refl less)
  where
    y : Object
    y = stamp false m.next_usn (at_place (Some (parent, name)) o)

    e : VolRecord
    e = logs m f (uid_of own o) 10 false

    new : Maps
    new = wrote m f (Some y) e

    less : (v v' : View) → Sees R own m staged uid v → Sees R own new staged uid v' → IsSite own m uid f o → IsSite own new uid f y → due v' < due v
    less v v' s s' here now =
        let (shown, tombstone, file, content) = sees_alike R own m new staged uid v v' s s' in
        let placed = sees_placed R own new staged uid v' f y (parent, name) s' now refl in
        let exact = tells_true v'.exact s'.exact (f, y, (parent, name), u, (now.there, now.is), refl, shown_record R u is_shown, id, up ∙ sym (parents_changed own m f o y e at refl parent), named) in
        let object : v'.object ≡ v.object = sees_object R own new staged uid v' f y s' now ∙ sym (sees_object R own m staged uid v f o s here) in
        let differs = differs_kept R own m new staged uid v v' f o y s s' here now refl in
        let is_now : record v { placed = true; exact = true } ≡ v' =
        λ i. record { shown = sym shown i; tombstone = sym tombstone i; file = sym file i; object = sym object i; placed = sym placed i; exact = sym exact i; differs = sym differs i; staged = sym content i } in
        subst (λ z. due z < due v) is_now
        (place_lowers v (sees_object R own m staged uid v f o s here) (sees_limbo R own m staged uid v f o s here limbo).0 (tells_true v.shown s.shown (u, is_shown, id)))

erases : (R : Update → Type 0) (own : ℕ) (m : Maps) (staged : Uid → Option Sum) (f : ℕ) (o : Object) (u : Update) (uid : Uid) → AreOne R → PlacesAreATree own m → IsAt m f o → uid_of own o ≡ uid
    → o.place ≡ None → IsEmpty m f → R u → u.uid ≡ uid → u.present ≡ false → Lowers (Sees R own m staged) (Sees R own (write own (cmd.Erase f) m) staged) (same_uid uid)
erases R own m staged f o u uid one tree at is limbo bare r id absent = subst (λ n. Lowers (Sees R own m staged) (Sees R own n staged) (same_uid uid)) (sym (loses_is own 7 false f m o at))
    (lowers_where uid less (λ i v v' n s s'. view_stays R own m new staged i v v' (stays_so own m f None e i (λ z a k. n (sym k ∙ (ap (uid_of own) (some_is z o (sym a ∙ at)) ∙ is))) (λ z a k. none_some z a) (parents_beside own m f None e bare)) s s'))
  where
    e : VolRecord
    e = logs m f (uid_of own o) 7 false

    new : Maps
    new = wrote m f None e

    here : IsSite own m uid f o
    here = site own m f o uid tree at is

    gone : IsNew own new uid
    gone g z a k = at_case ⊥ m.at f None g (Some z) a (λ i j. none_some z j) (λ n j. n (here.only g z (j, k)).0)

    less : (v v' : View) → Sees R own m staged uid v → Sees R own new staged uid v' → due v' < due v
    less v v' s s' =
        let (shown, tombstone, file, content) = sees_alike R own m new staged uid v v' s s' in
        let (object, placed, exact, differs) = sees_none R own new staged uid v' s' gone in
        let is_now : record v { object = false; placed = false; exact = false; differs = false } ≡ v' =
        λ i. record { shown = sym shown i; tombstone = sym tombstone i; file = sym file i; object = sym object i; placed = sym placed i; exact = sym exact i; differs = sym differs i; staged = sym content i } in
        let hidden : v.shown ≡ false = tells_false v.shown s.shown
        (λ (q, h, id'). true_false q.present (shown_name R q h).present (ap (λ z. z.present) (one q u (shown_record R q h) r (id' ∙ sym id)) ∙ absent)) in
        subst (λ z. due z < due v) is_now
        (erase_lowers v (sees_object R own m staged uid v f o s here) (sees_limbo R own m staged uid v f o s here limbo).0 hidden (tells_true v.tombstone s.tombstone (u, r, id, absent)))

makes_one : (R : Update → Type 0) (own : ℕ) (m : Maps) (consumed : ℕ) (staged : Uid → Option Sum) (kind : Kind) (bytes : List ℕ) (u : Update) (uid : Uid) → AreOne R → PlacesAreATree own m → NumbersAreFresh m consumed
    → IsNew own m uid → IsShown R u → u.uid ≡ uid → (is_file u ≡ true → (made_object m false None kind bytes (Some uid) 0).sum ≡ u.hash) → Lowers (Sees R own m staged) (Sees R own (write own (cmd.Make uid kind bytes) m) staged) (same_uid uid)
makes_one R own m consumed staged kind bytes u uid one tree fresh none is_shown id sum =
    lowers_where uid less (λ i v v' n s s'. view_stays R own m new staged i v v' (stays_so own m m.next_fid (Some y) e i (λ z a k. absent z a) (λ z a k. n (sym k ∙ ap (uid_of own) (sym (some_is y z a)))) (parents_beside own m m.next_fid (Some y) e apart)) s s')
  where
    y : Object
    y = made_object m false None kind bytes (Some uid) 0

    e : VolRecord
    e = logs m m.next_fid uid 8 false

    new : Maps
    new = wrote m m.next_fid (Some y) e

    absent : (z : Object) → IsAt m m.next_fid z → ⊥
    absent z a = none_some z (sym (fid_is_new m consumed fresh) ∙ a)

    apart : (g : ℕ) (z : Object) (p : ℕ × List ℕ) → IsAt m g z → z.place ≡ Some p → p.0 ≢ m.next_fid
    apart g z p a place k = by (tree.parents g z p a place)
      where
        by : IsDirectory m p.0 → ⊥
        by (inl i) = let l = fresh.next in omega (arith, i, k, l)
        by (inr (q, there, d)) = absent q (subst (λ j. IsAt m j q) k there)

    here : IsSite own new uid m.next_fid y
    here = site_written own m m.next_fid y e uid (λ g z n a k. none g z a k) refl

    less : (v v' : View) → Sees R own m staged uid v → Sees R own new staged uid v' → due v' < due v
    less v v' s s' =
        let (shown, tombstone, file, content) = sees_alike R own m new staged uid v v' s s' in
        let (placed, exact) = sees_limbo R own new staged uid v' m.next_fid y s' here refl in
        let object = sees_object R own new staged uid v' m.next_fid y s' here in
        let r = shown_record R u is_shown in
        let is_now : record v { object = true; placed = false; exact = false; differs = v'.differs } ≡ v' =
        λ i. record { shown = sym shown i; tombstone = sym tombstone i; file = sym file i; object = sym object i; placed = sym placed i; exact = sym exact i; differs = v'.differs; staged = sym content i } in
        subst (λ z. due z < due v) is_now
        (make_lowers v v'.differs (tells_true v.shown s.shown (u, is_shown, id)) (sees_none R own m staged uid v s none).0 (no_tombstone R own m staged uid v u one s r id (shown_name R u is_shown).present)
        (λ i. let (q, k, id', is) = told v.file s.file i in
        sees_differs R own new staged uid v' m.next_fid y u one s' here r id (sum (ap is_file (one u q r k (id ∙ sym id')) ∙ is))))

unstages : (R : Update → Type 0) (own : ℕ) (m : Maps) (staged : Uid → Option Sum) (uid : Uid) (sum : Sum) → staged uid ≡ Some sum → Lowers (Sees R own m staged) (Sees R own m (with_uid staged uid None)) (same_uid uid)
unstages R own m staged uid sum is = lowers_where uid less same
  where
    nothing : Option Sum
    nothing = None

    less : (v v' : View) → Sees R own m staged uid v → Sees R own m (with_uid staged uid None) uid v' → due v' < due v
    less v v' s s' =
        let now : v'.staged ≡ false = tells_false v'.staged s'.staged (λ (k, e). none_some k (sym (uid_same staged uid nothing) ∙ e)) in
        let is_now : record v { staged = false } ≡ v' = λ i. record {
          shown = tells_same v'.shown v.shown s'.shown s.shown (λ h. h) (λ h. h) i;
          tombstone = tells_same v'.tombstone v.tombstone s'.tombstone s.tombstone (λ h. h) (λ h. h) i;
          file = tells_same v'.file v.file s'.file s.file (λ h. h) (λ h. h) i;
          object = tells_same v'.object v.object s'.object s.object (λ h. h) (λ h. h) i;
          placed = tells_same v'.placed v.placed s'.placed s.placed (λ h. h) (λ h. h) i;
          exact = tells_same v'.exact v.exact s'.exact s.exact (λ h. h) (λ h. h) i;
          differs = tells_same v'.differs v.differs s'.differs s.differs (λ h. h) (λ h. h) i;
          staged = sym now i;
        } in
        subst (λ z. due z < due v) is_now (unstage_lowers v (tells_true v.staged s.staged (sum, is)))

    same : (i : Uid) (v v' : View) → i ≢ uid → Sees R own m staged i v → Sees R own m (with_uid staged uid None) i v' → v' ≡ v
    same i v v' n s s' = λ j. record {
      shown = tells_same v.shown v'.shown s.shown s'.shown (λ h. h) (λ h. h) j;
      tombstone = tells_same v.tombstone v'.tombstone s.tombstone s'.tombstone (λ h. h) (λ h. h) j;
      file = tells_same v.file v'.file s.file s'.file (λ h. h) (λ h. h) j;
      object = tells_same v.object v'.object s.object s'.object (λ h. h) (λ h. h) j;
      placed = tells_same v.placed v'.placed s.placed s'.placed (λ h. h) (λ h. h) j;
      exact = tells_same v.exact v'.exact s.exact s'.exact (λ h. h) (λ h. h) j;
      differs = tells_same v.differs v'.differs s.differs s'.differs (λ h. h) (λ h. h) j;
      staged = tells_same v.staged v'.staged s.staged s'.staged (λ (k, e). (k, uid_other staged uid nothing i n ∙ e)) (λ (k, e). (k, sym (uid_other staged uid nothing i n) ∙ e)) j;
    }

-- ---- the laws

records_one : (w : World) (d : ℕ) → Invariant w → AreOne (IsRecordOf w d)
records_one w d h u v r q = best_one u v (λ a b m n. h.versions.one_each a b m.0 n.0) r q

pub at_most_four : AtMostFourAreDue
at_most_four w h d uid v s = due_small v
    (λ i. let (u, shown, id) = told v.shown s.shown i in tomb u (shown_record (IsRecordOf w d) u shown) id (shown_name (IsRecordOf w d) u shown).present)
    (λ i. let (u, r, id, is) = told v.file s.file i in tomb u r id (file_present u is))
  where
    tomb : (u : Update) → IsRecordOf w d u → u.uid ≡ uid → u.present ≡ true → v.tombstone ≡ false
    tomb u = no_tombstone (IsRecordOf w d) d (w.at d).volume (w.at d).staged uid v u (records_one w d h) s

-- what a changed member lowers is lowered in its world
lowers_at : (w : World) (d : ℕ) (y : Member) (own : Uid → Bool) → Lowers (SeesAt w d) (Sees (IsRecord w.all y.known) d y.volume y.staged) own → Lowers (SeesAt w d) (SeesAt (with_member w d y) d) own
lowers_at w d y own = subst (λ (x : Member). Lowers (SeesAt w d) (Sees (IsRecord w.all x.known) d x.volume x.staged) own) (sym (at_same w.at d y))

-- each operation lowers what is due for its file
op_lowers : (w : World) (d : ℕ) (op : VolCmd) (own : Uid → Bool) (new : World) → Step w d (Install op) new → Lowers (SeesAt w d) (Sees (IsRecordOf w d) d (write d op (w.at d).volume) (w.at d).staged) own
    → Lowers (SeesAt w d) (SeesAt new d) own
op_lowers w d op own new (quiet, due, ok, is) low = subst (λ z. Lowers (SeesAt w d) (SeesAt z d) own) (sym is) (lowers_at w d (operated d op (w.at d)) own low)

-- of equal records a view sees the same
view_alike : (R S : Update → Type 0) (own : ℕ) (m : Maps) (staged : Uid → Option Sum) (uid : Uid) (v v' : View) → AreSame R S → Sees R own m staged uid v → Sees S own m staged uid v' → v' ≡ v
view_alike R S own m staged uid v v' k s s' = λ i. record {
  shown = tells_same v.shown v'.shown s.shown s'.shown (λ (u, h, id). (u, shown_same k u h, id)) (λ (u, h, id). (u, shown_same (same_back k) u h, id)) i;
  tombstone = tells_same v.tombstone v'.tombstone s.tombstone s'.tombstone (λ (u, r, id, p). (u, k.to u r, id, p)) (λ (u, r, id, p). (u, k.back u r, id, p)) i;
  file = tells_same v.file v'.file s.file s'.file (λ (u, r, id, p). (u, k.to u r, id, p)) (λ (u, r, id, p). (u, k.back u r, id, p)) i;
  object = tells_same v.object v'.object s.object s'.object (λ h. h) (λ h. h) i;
  placed = tells_same v.placed v'.placed s.placed s'.placed (λ h. h) (λ h. h) i;
  exact = tells_same v.exact v'.exact s.exact s'.exact (λ (g, z, p, u, h, e, r, id, up, name). (g, z, p, u, h, e, k.to u r, id, up, name)) (λ (g, z, p, u, h, e, r, id, up, name). (g, z, p, u, h, e, k.back u r, id, up, name)) i;
  differs = tells_same v.differs v'.differs s.differs s'.differs (λ (g, z, u, h, r, id, d). (g, z, u, h, k.to u r, id, d)) (λ (g, z, u, h, r, id, d). (g, z, u, h, k.back u r, id, d)) i;
  staged = tells_same v.staged v'.staged s.staged s'.staged (λ h. h) (λ h. h) i;
}

-- a record of the installer's own makes no update
pub passes : (w : World) (d moment : ℕ) (made : Option Update) → IsQuiet (w.at d).consumed (w.at d).volume → Records w d moment made → made ≡ None
passes w d moment None quiet records = refl
passes w d moment (Some u) quiet (r, held, at, is_held, is) =
    absurd (true_false r.local (made_by d (w.at d).volume (base_fence (w.at d).phase (w.at d).kind) (w.at d).consumed moment r.local (is_deletion r) held ((w.at d).volume.at r.fid) u is).0 (quiet (w.at d).consumed r (omega arith) at))

-- so the records stay the same where it is consumed
pub records_stay : (w : World) (d : ℕ) → Invariant w → AreSame (IsRecordOf w d) (IsRecord (w.all ++ []) (consumed_by d None (w.at d)).known)
records_stay w d h = record { to = λ v r. best_same v stays (consume_none w d h.versions) r; back = λ v r. best_same v (consume_none w d h.versions) stays r }
  where
    stays : (v : Update) → Covered w.all (w.at d).known v → Covered (w.all ++ []) (consumed_by d None (w.at d)).known v
    stays v c = (in_before v w.all [] c.0, plus_old (w.at d).known (record { db = d; version = (w.at d).consumed }) v.gvsn c.1)

-- and so do views
skips : (w : World) (d : ℕ) → Invariant w → Lowers (SeesAt w d) (SeesAt (consumes w d None) d) (λ uid. false)
skips w d h = subst (λ (x : Member). Lowers (SeesAt w d) (Sees (IsRecord (w.all ++ []) x.known) d x.volume x.staged) (λ uid. false)) (sym (at_same w.at d (consumed_by d None (w.at d)))) (record {
  no_more = λ uid v v' s s'. let e : due v' ≡ due v = ap due (view_alike (IsRecordOf w d) After d (w.at d).volume (w.at d).staged uid v v' (records_stay w d h) s s') in omega (arith, e);
  less = λ uid v v' t s s'. absurd (true_false false t refl);
})
  where
    After : Update → Type 0
    After = IsRecord (w.all ++ []) (consumed_by d None (w.at d)).known

pub steps_lower : StepsLowerWhatIsDue
steps_lower w h d (install_step.Park file) new (op, (f, o, at, is, op_is), step) = by (subst (λ c. Step w d (Install c) new) op_is step)
  where
    by : Step w d (Install (cmd.Park f)) new → Lowers (SeesAt w d) (SeesAt new d) (same_uid file)
    by (quiet, (q, p, there, place, out), ok, now) =
        op_lowers w d (cmd.Park f) (same_uid file) new (quiet, (q, p, there, place, out), ok, now)
        (parks (IsRecordOf w d) d (w.at d).volume (w.at d).staged f q p file (records_one w d h) (h.members d).places there (ap (uid_of d) (some_is q o (sym there ∙ at)) ∙ is) place out)
steps_lower w h d (install_step.Erase file) new (op, (f, o, at, is, op_is), step) = by (subst (λ c. Step w d (Install c) new) op_is step)
  where
    by : Step w d (Install (cmd.Erase f)) new → Lowers (SeesAt w d) (SeesAt new d) (same_uid file)
    by (quiet, (q, u, there, r, id, absent), (z, there', limbo, bare), now) =
        let is' : uid_of d q ≡ file = ap (uid_of d) (some_is q o (sym there ∙ at)) ∙ is in
        op_lowers w d (cmd.Erase f) (same_uid file) new (quiet, (q, u, there, r, id, absent), (z, there', limbo, bare), now)
        (erases (IsRecordOf w d) d (w.at d).volume (w.at d).staged f q u file (records_one w d h) (h.members d).places there is' (ap (λ k. k.place) (some_is q z (sym there ∙ there')) ∙ limbo) bare r (id ∙ is') absent)
steps_lower w h d (install_step.Make file) new (op, (r, bytes, is_record, id, op_is), step) = by (subst (λ c. Step w d (Install c) new) op_is step)
  where
    by : Step w d (Install (cmd.Make file (kind_of r) bytes)) new → Lowers (SeesAt w d) (SeesAt new d) (same_uid file)
    by (quiet, (u, shown, is, kind, content), (root, none, bare), now) =
        op_lowers w d (cmd.Make file (kind_of r) bytes) (same_uid file) new (quiet, (u, shown, is, kind, content), (root, none, bare), now)
        (makes_one (IsRecordOf w d) d (w.at d).volume (w.at d).consumed (w.at d).staged (kind_of r) bytes u file (records_one w d h) (h.members d).places (h.members d).numbers none shown is (λ i. (content i).1))
steps_lower w h d (install_step.Rewrite file) new (op, (f, o, bytes, at, is, op_is), step) = by (subst (λ c. Step w d (Install c) new) op_is step)
  where
    by : Step w d (Install (cmd.Rewrite f bytes)) new → Lowers (SeesAt w d) (SeesAt new d) (same_uid file)
    by (quiet, (q, u, there, r, id, is_present, differs, content, sum), ok, now) =
        let is' : uid_of d q ≡ file = ap (uid_of d) (some_is q o (sym there ∙ at)) ∙ is in
        op_lowers w d (cmd.Rewrite f bytes) (same_uid file) new (quiet, (q, u, there, r, id, is_present, differs, content, sum), ok, now)
        (rewrites (IsRecordOf w d) d (w.at d).volume (w.at d).staged f q bytes u file (records_one w d h) (h.members d).places there is' r (id ∙ is') is_present differs sum)
steps_lower w h d (install_step.Place file) new (op, (f, o, v, parent, at, is, r, id, here, up, op_is), step) = by (subst (λ c. Step w d (Install c) new) op_is step)
  where
    by : Step w d (Install (cmd.Place f parent v.name)) new → Lowers (SeesAt w d) (SeesAt new d) (same_uid file)
    by (quiet, (q, u, there, shown, id', up', name), (z, there', limbo, dir, apart, free), now) =
        let is' : uid_of d q ≡ file = ap (uid_of d) (some_is q o (sym there ∙ at)) ∙ is in
        op_lowers w d (cmd.Place f parent v.name) (same_uid file) new (quiet, (q, u, there, shown, id', up', name), (z, there', limbo, dir, apart, free), now)
        (places (IsRecordOf w d) d (w.at d).volume (w.at d).staged f q parent v.name u file (records_one w d h) (h.members d).places there is' (ap (λ k. k.place) (some_is q z (sym there ∙ there')) ∙ limbo)
        shown (id' ∙ is') up' name)
steps_lower w h d (install_step.Unstage file) new (f, o, at, is, staged, now) =
    subst (λ z. Lowers (SeesAt w d) (SeesAt z d) (same_uid file)) (sym now) (lowers_at w d (unstaged_at file (w.at d)) (same_uid file) (unstages (IsRecordOf w d) d (w.at d).volume (w.at d).staged file o.sum staged))
steps_lower w h d (install_step.Skip usn) new (moment, is, quiet, (early, made, records, now)) =
    subst (λ z. Lowers (SeesAt w d) (SeesAt z d) (λ uid. false)) (sym (now ∙ ap (consumes w d) (passes w d moment made quiet records))) (skips w d h)

-- The tree of a drained volume is that of its records.
use Rattle.std.proofs.Common.{◌≡◌, ℕ, zero, suc, Bool, true, false, cond, not, ◌&&◌, List, [], ◌∷◌, refl, sym, ap, ◌∙◌, subst, inl, inr, Option, Some, None}
use Rattle.frs_base.specs.Options.{In}
use Rattle.frs_base.specs.declared.kind.Kind.{Kind}
use Rattle.frs_base.specs.declared.sum.Sum.{Sum}
use Rattle.frs_base.specs.declared.version.Uid.{Uid}
use Rattle.win_order.specs.Order.{is_directory}
use Rattle.win_order.specs.declared.update.Update.{Update}
use Rattle.vol_state.specs.declared.object.Object.{Object}
use Rattle.vol_state.specs.Places.{is_directory as is_directory_kind}
use Rattle.vol_state.specs.State.{uid_of}
use Rattle.vol_state.specs.Sums.{no_sum}
use Rattle.vol_state.specs.Conditions.{root_uid}
use Rattle.vol_state.specs.Tables.{IsAt, IsDirectory}
use Rattle.record_db.specs.Records.{IsRecord}
use Rattle.record_db.proofs.Best.{best_one}
use Rattle.name_rules.specs.Recorded.{hash_of, parent_uid}
use Rattle.name_rules.specs.Tree.{IsRow, IsShown, IsUnder, IsVolumeRow, StandsAt}
use Rattle.name_rules.specs.Next.{IsDrained}
use Rattle.name_rules.proofs.Parents.{kind_is, parent_is, parent_root}
use Rattle.name_rules.proofs.Showing.{AreSame, row_same, same_back, shown_record}
use Rattle.world_model.specs.World.{Member}
use Rattle.world_model.specs.Invariant.{IsSound}
use Rattle.world_model.specs.Laws.{DrainedVolumesAreTrees, EqualVectorsHaveEqualTrees}
use Rattle.world_model.proofs.Facts.{none_some, some_is, true_false}
use Rattle.world_model.proofs.Headline.{equal_records}

-- each version is of one update
abbrev OneEach : List Update → Type 0
OneEach all = (u v : Update) → In u all → In v all → u.gvsn ≡ v.gvsn → u ≡ v

-- a member with nothing left to do
record IsDone (all : List Update) (own : ℕ) (x : Member) : Type 0 where
  pub one : OneEach all
  pub sound : IsSound all own x
  pub drained : IsDrained (IsRecord all x.known) own x.volume x.staged x.consumed

-- ---- places

-- the UID of an object that is there
uid_is : (all : List Update) (own : ℕ) (x : Member) → IsDone all own x → (fid : ℕ) (o : Object) → IsAt x.volume fid o → parent_uid own x.volume fid ≡ uid_of own o
uid_is all own x h fid o at = parent_is own x.volume fid o h.sound.numbers.root at

-- directories have UIDs of their own
uid_one : (all : List Update) (own : ℕ) (x : Member) → IsDone all own x → (f g : ℕ) → IsDirectory x.volume f → IsDirectory x.volume g → parent_uid own x.volume f ≡ parent_uid own x.volume g → f ≡ g
uid_one all own x h f g (inl a) (inl b) e = a ∙ sym b
uid_one all own x h f g (inl a) (inr (o, at, d)) e =
    absurd (h.sound.objects.no_root g o at (sym (uid_is all own x h g o at) ∙ (sym e ∙ parent_root own x.volume f a)))
uid_one all own x h f g (inr (o, at, d)) (inl b) e =
    absurd (h.sound.objects.no_root f o at (sym (uid_is all own x h f o at) ∙ (e ∙ parent_root own x.volume g b)))
uid_one all own x h f g (inr (o, at, d)) (inr (q, at', d')) e =
    h.sound.places.uids f g o q at at' (sym (uid_is all own x h f o at) ∙ (e ∙ uid_is all own x h g q at'))

-- what stands at a path under a directory
parent_directory : (all : List Update) (own : ℕ) (x : Member) → IsDone all own x → (path : List (List ℕ)) (f : ℕ) (o : Object) → StandsAt x.volume f path o → IsDirectory x.volume f
parent_directory all own x h [] f o s = absurd s
parent_directory all own x h (name ∷ []) f o (g, at, place) = h.sound.places.parents g o _ at place
parent_directory all own x h (name ∷ next ∷ path) f o (g, up, at, place, s) = h.sound.places.parents g up _ at place

-- an object that is a directory by its number is of that kind
directory_kind : (all : List Update) (own : ℕ) (x : Member) → IsDone all own x → (g : ℕ) (o : Object) → IsAt x.volume g o → IsDirectory x.volume g → is_directory_kind o.kind ≡ true
directory_kind all own x h g o at (inl z) = absurd (none_some o (sym h.sound.numbers.root ∙ subst (λ i. IsAt x.volume i o) z at))
directory_kind all own x h g o at (inr (q, at', k)) = ap (λ z. is_directory_kind z.kind) (some_is o q (sym at ∙ at')) ∙ k

-- an object is of a directory where its record is
same_kind : (all : List Update) (own : ℕ) (x : Member) → IsDone all own x → (g : ℕ) (o : Object) (u : Update) → IsAt x.volume g o → uid_of own o ≡ u.uid → IsRecord all x.known u
    → is_directory u ≡ is_directory_kind o.kind
same_kind all own x h g o u at uid r = sym (kind_is u) ∙ ap is_directory_kind (h.sound.objects.kinds g o u at r.among.0 (sym uid))

-- ---- from records to the volume

-- the object of a file that stands there
abbrev HasHome : ℕ → Member → Update → ℕ → Type 0
HasHome own x u f = (g : ℕ) × (o : Object) × IsAt x.volume g o × (uid_of own o ≡ u.uid) × (o.place ≡ Some (f, u.name))

-- a shown record's object is where the record says
at_home : (all : List Update) (own : ℕ) (x : Member) → IsDone all own x → (u : Update) (f : ℕ) → IsShown (IsRecord all x.known) u → IsDirectory x.volume f → u.parent ≡ parent_uid own x.volume f
    → HasHome own x u f
at_home all own x h u f shown dir parent = let (g, o, at, uid) = h.drained.make u shown in by g o at uid o.place refl
  where
    by : (g : ℕ) (o : Object) → IsAt x.volume g o → uid_of own o ≡ u.uid → (place : Option (ℕ × List ℕ)) → o.place ≡ place → HasHome own x u f
    by g o at uid None p = absurd (h.drained.place g o u at p shown (sym uid))
    by g o at uid (Some q) p =
        let (v, shown', uid', parent', name') = h.drained.park g o q at p in
        let same : v ≡ u = best_one v u (λ a b m n. h.one a b m.0 n.0) (shown_record (IsRecord all x.known) v shown') (shown_record (IsRecord all x.known) u shown) (uid' ∙ uid) in
        let there : q.0 ≡ f = uid_one all own x h q.0 f (h.sound.places.parents g o q at p) dir (sym parent' ∙ (ap (λ z. z.parent) same ∙ parent)) in
        let name : q.1 ≡ u.name = sym name' ∙ ap (λ z. z.name) same in
        (g, o, at, uid, p ∙ (λ i. Some (there i, name i)))

-- the object of a file that stands at this path
abbrev HasPath : ℕ → Member → Update → ℕ → List (List ℕ) → Type 0
HasPath own x u f path = (o : Object) × StandsAt x.volume f path o × (uid_of own o ≡ u.uid) × ((g : ℕ) × IsAt x.volume g o)

to_volume : (all : List Update) (own : ℕ) (x : Member) → IsDone all own x → (path : List (List ℕ)) (f : ℕ) (parent : Uid) (u : Update) → IsDirectory x.volume f
    → parent ≡ parent_uid own x.volume f → IsUnder (IsRecord all x.known) parent path u → IsShown (IsRecord all x.known) u × HasPath own x u f path
to_volume all own x h [] f parent u dir e under = absurd under
to_volume all own x h (name ∷ []) f parent u dir e (shown, p, n) =
    let (g, o, at, uid, place) = at_home all own x h u f shown dir (p ∙ e) in
    (shown, (o, (g, at, place ∙ (λ i. Some (f, n i))), uid, (g, at)))
to_volume all own x h (name ∷ next ∷ path) f parent u dir e (up, shown, p, n, is_dir, under) =
    let (g, o, at, uid, place) = at_home all own x h up f shown dir (p ∙ e) in
    let kind : is_directory_kind o.kind ≡ true = sym (same_kind all own x h g o up at uid (shown_record (IsRecord all x.known) up shown)) ∙ is_dir in
    let (shown', (q, stands, uid', there)) = to_volume all own x h (next ∷ path) g up.uid u (inr (o, at, kind)) (sym uid ∙ sym (uid_is all own x h g o at)) under in
    (shown', (q, (g, o, at, place ∙ (λ i. Some (f, n i)), stands), uid', there))

-- ---- from the volume to records

-- the shown record of an object, under a path
abbrev HasShown : List Update → ℕ → Member → Object → Uid → List (List ℕ) → Type 0
HasShown all own x o parent path = (u : Update) × IsUnder (IsRecord all x.known) parent path u × (uid_of own o ≡ u.uid) × IsShown (IsRecord all x.known) u × ((g : ℕ) × IsAt x.volume g o)

to_records : (all : List Update) (own : ℕ) (x : Member) → IsDone all own x → (path : List (List ℕ)) (f : ℕ) (parent : Uid) (o : Object) → parent ≡ parent_uid own x.volume f
    → StandsAt x.volume f path o → HasShown all own x o parent path
to_records all own x h [] f parent o e s = absurd s
to_records all own x h (name ∷ []) f parent o e (g, at, place) =
    let (u, shown, uid, p, n) = h.drained.park g o _ at place in (u, (shown, p ∙ sym e, n), sym uid, shown, (g, at))
to_records all own x h (name ∷ next ∷ path) f parent o e (g, up, at, place, s) =
    let (v, shown, uid, p, n) = h.drained.park g up _ at place in
    let is_dir : is_directory v ≡ true = same_kind all own x h g up v at (sym uid) (shown_record (IsRecord all x.known) v shown)
    ∙ directory_kind all own x h g up at (parent_directory all own x h (next ∷ path) g o s) in
    let (u, under, uid', shown', there) = to_records all own x h (next ∷ path) g v.uid o (uid ∙ sym (uid_is all own x h g up at)) s in
    (u, (v, shown, p ∙ sym e, n, is_dir, under), uid', shown', there)

-- ---- rows

-- the object of a shown record has its kind and its hash
same_content : (all : List Update) (own : ℕ) (x : Member) → IsDone all own x → (g : ℕ) (o : Object) (u : Update) → IsAt x.volume g o → uid_of own o ≡ u.uid → IsShown (IsRecord all x.known) u
    → (cond (is_directory u) no_sum u.hash) ≡ hash_of o
same_content all own x h g o u at uid shown = by (is_directory u) refl (is_directory_kind o.kind) (same_kind all own x h g o u at uid r)
  where
    r : IsRecord all x.known u
    r = shown_record (IsRecord all x.known) u shown

    present : IsShown (IsRecord all x.known) u → u.present ≡ true
    present (zero, s) = absurd s
    present (suc n, s) = s.0.present

    file : (p d : Bool) → p ≡ true → d ≡ false → (p && not d) ≡ true
    file true false a b = refl
    file true true a b = absurd (true_false true refl b)
    file false e a b = absurd (true_false false a refl)

    by : (a : Bool) → is_directory u ≡ a → (b : Bool) → a ≡ b → cond a no_sum u.hash ≡ cond b no_sum o.sum
    by true i true k = refl
    by true i false k = absurd (true_false true refl k)
    by false i true k = absurd (true_false true refl (sym k))
    by false i false k = sym (h.drained.rewrite g o u at r (sym uid) (file u.present (is_directory u) (present shown) i))

row_to_volume : (all : List Update) (own : ℕ) (x : Member) → IsDone all own x → (path : List (List ℕ)) (kind : Kind) (sum : Sum) → IsRow (IsRecord all x.known) path kind sum → IsVolumeRow x.volume path kind sum
row_to_volume all own x h path kind sum (u, under, k, s) =
    let (shown, (o, stands, uid, (g, there))) = to_volume all own x h path 0 root_uid u (inl refl) refl under in
    (o, stands, k ∙ h.sound.objects.kinds g o u there (shown_record (IsRecord all x.known) u shown).among.0 (sym uid), s ∙ same_content all own x h g o u there uid shown)

row_to_records : (all : List Update) (own : ℕ) (x : Member) → IsDone all own x → (path : List (List ℕ)) (kind : Kind) (sum : Sum) → IsVolumeRow x.volume path kind sum → IsRow (IsRecord all x.known) path kind sum
row_to_records all own x h path kind sum (o, stands, k, s) =
    let (u, under, uid, shown, (g, there)) = to_records all own x h path 0 root_uid o refl stands in
    (u, under, k ∙ sym (h.sound.objects.kinds g o u there (shown_record (IsRecord all x.known) u shown).among.0 (sym uid)), s ∙ sym (same_content all own x h g o u there uid shown))

-- ---- the laws

pub drained_trees : DrainedVolumesAreTrees
drained_trees w h d drained path kind sum = (row_to_records w.all d (w.at d) done path kind sum, row_to_volume w.all d (w.at d) done path kind sum)
  where
    done : IsDone w.all d (w.at d)
    done = record { one = h.versions.one_each; sound = h.members d; drained = drained }

pub equal_trees : EqualVectorsHaveEqualTrees
equal_trees w new h later g i j same here there path kind sum = (
  λ r. row_to_volume new.all j (new.at j) done' path kind sum (row_same records path kind sum (row_to_records w.all i (w.at i) done path kind sum r)),
  λ r. row_to_volume w.all i (w.at i) done path kind sum (row_same (same_back records) path kind sum (row_to_records new.all j (new.at j) done' path kind sum r)),
)
  where
    records : AreSame (IsRecord w.all (w.at i).known) (IsRecord new.all (new.at j).known)
    records = record { to = λ u. (equal_records w new h.versions g i j same u).0; back = λ u. (equal_records w new h.versions g i j same u).1 }

    done : IsDone w.all i (w.at i)
    done = record { one = h.versions.one_each; sound = h.members i; drained = here }

    done' : IsDone new.all j (new.at j)
    done' = record { one = later.versions.one_each; sound = later.members j; drained = there }

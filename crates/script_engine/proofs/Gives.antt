-- The contents that a member gives with its record of a file.
use Rattle.std.proofs.Common.{◌≡◌, ℕ, Bool, true, false, cond, List, refl, sym, ap, ◌∙◌, subst, inl, inr, MatchOption, Option, Some, None}
use Rattle.std.specs.Prelude.{MatchBool, option_map}
use Rattle.frs_base.specs.Versions.{same_uid}
use Rattle.frs_base.specs.declared.kind.Kind.TheVariants.{File}
use Rattle.frs_base.specs.declared.sum.Sum.{Sum}
use Rattle.frs_base.specs.declared.version.Uid.{Uid}
use Rattle.win_order.specs.declared.update.Update.{Update}
use Rattle.vol_state.specs.declared.object.Object.{Object}
use Rattle.vol_state.specs.State.{uid_of}
use Rattle.vol_state.specs.Sums.{content_sum}
use Rattle.vol_state.specs.Tables.{IsAt}
use Rattle.record_db.specs.Staged.{with_uid}
use Rattle.record_db.proofs.Best.{best_one}
use Rattle.name_rules.specs.Tree.{is_file}
use Rattle.world_model.specs.World.{Member, World}
use Rattle.world_model.specs.Events.{IsOfFile, adopted_by}
use Rattle.world_model.specs.Invariant.{HasSum, Invariant}
use Rattle.world_model.proofs.Changing.{at_same}
use Rattle.world_model.proofs.Facts.{none_some, some_is}
use Rattle.world_model.proofs.Installed.{file_kind}
use Rattle.folder_core.specs.Notes.{form_sum}
use Rattle.folder_core.proofs.Giving.{sum_is}
use Rattle.script_engine.specs.Pulling.{ContentsAt, Gives}
use Rattle.script_engine.specs.Scene.{Contents, Scene, with_contents}
use Rattle.script_engine.specs.Sound.{AreStaged, IsSoundScene, IsSoundWorld}
use Rattle.script_engine.specs.Standing.{HoldsContents, MachineStands}
use Rattle.folder_core.specs.Machine.{Machine}

-- ---- objects

-- the object of a file is one
object_one : (w : World) (d : ℕ) (uid : Uid) (f g : ℕ) (o q : Object) → Invariant w → IsAt (w.at d).volume f o → IsAt (w.at d).volume g q → uid_of d o ≡ uid → uid_of d q ≡ uid → o ≡ q
object_one w d uid f g o q inv a b p r =
    let same : f ≡ g = (inv.members d).places.uids f g o q a b (p ∙ sym r) in
    some_is o q (sym a ∙ ap (w.at d).volume.at same ∙ b)

-- ---- what is kept

-- what each scene on the way of a line keeps: its world is sound, and so is what is staged
pub record IsKept (s : Scene) : Type 0 where
  pub world : IsSoundWorld s.world
  pub staged : (d : ℕ) → AreStaged (s.world.at d) (s.contents d)

pub scene_kept : (s : Scene) → IsSoundScene s → IsKept s
scene_kept s h = record { world = h.world; staged = h.staged }

-- ---- what is given

-- a file's contents at a member are one
contents_one : (s : Scene) (d : ℕ) (uid : Uid) (a b : List ℕ) → Invariant s.world → ContentsAt s d uid a → ContentsAt s d uid b → a ≡ b
contents_one s d uid a b inv = by ((s.world.at d).staged uid)
  where
    At : Option Sum → List ℕ → Type 0
    At staged bytes = MatchOption staged ((fid : ℕ) × (o : Object) × IsAt (s.world.at d).volume fid o × (uid_of d o ≡ uid) × (bytes ≡ o.bytes)) (λ sum. bytes ≡ s.contents d uid)

    by : (staged : Option Sum) → At staged a → At staged b → a ≡ b
    by None (f, o, at, file, is) (g, q, there, same, is') = is ∙ ap (λ (x : Object). x.bytes) (object_one s.world d uid f g o q inv at there file same) ∙ sym is'
    by (Some sum) is is' = is ∙ sym is'

-- what is given with a record is one
pub gives_one : (s : Scene) (d : ℕ) (u : Update) (a b : Option (List ℕ)) → Invariant s.world → Gives s d u a → Gives s d u b → a ≡ b
gives_one s d u a b inv = by (is_file u)
  where
    by : (t : Bool) → MatchBool t ((bytes : List ℕ) × ContentsAt s d u.uid bytes × (a ≡ Some bytes)) (a ≡ None)
        → MatchBool t ((bytes : List ℕ) × ContentsAt s d u.uid bytes × (b ≡ Some bytes)) (b ≡ None) → a ≡ b
    by true (x, at, is) (y, there, is') = is ∙ ap (λ z. Some z) (contents_one s d u.uid x y inv at there) ∙ sym is'
    by false is is' = is ∙ sym is'

-- what is given with an update has its hash, where it is a present file; nothing is with another
abbrev pub GivenSum : Update → Option (List ℕ) → Type 0
GivenSum u given = MatchBool (is_file u) ((bytes : List ℕ) × (given ≡ Some bytes) × (content_sum File bytes ≡ u.hash)) (given ≡ None)

-- contents at a member with the hash of its record
abbrev ContentsWith : Scene → ℕ → Update → Type 0
ContentsWith s d u = (bytes : List ℕ) × ContentsAt s d u.uid bytes × (content_sum File bytes ≡ u.hash)

contents_with : (s : Scene) (d : ℕ) (u : Update) → IsKept s → IsOfFile s.world d u → is_file u ≡ true → ContentsWith s d u
contents_with s d u h (record_is, quiet) file = by ((s.world.at d).staged u.uid) refl
  where
    w : World
    w = s.world

    At : Option Sum → List ℕ → Type 0
    At staged bytes = MatchOption staged ((fid : ℕ) × (o : Object) × IsAt (w.at d).volume fid o × (uid_of d o ≡ u.uid) × (bytes ≡ o.bytes)) (λ sum. bytes ≡ s.contents d u.uid)

    of_object : HasSum d (w.at d).volume u.uid u.hash → (bytes : List ℕ) × At None bytes × (content_sum File bytes ≡ u.hash)
    of_object (fid, o, at, of, sum) =
        let inv = h.world.invariant in
        let kind : o.kind ≡ File = sym ((inv.members d).objects.kinds fid o u at record_is.among.0 (sym of)) ∙ file_kind u file in
        (o.bytes, (fid, o, at, of, refl), ap (λ k. content_sum k o.bytes) (sym kind) ∙ (sym (inv.sums.objects d fid o at).sum ∙ sum))

    by : (staged : Option Sum) → (w.at d).staged u.uid ≡ staged → (bytes : List ℕ) × MatchOption ((w.at d).staged u.uid) ((fid : ℕ) × (o : Object) × IsAt (w.at d).volume fid o × (uid_of d o ≡ u.uid) × (bytes ≡ o.bytes)) (λ sum. bytes ≡ s.contents d u.uid)
        × (content_sum File bytes ≡ u.hash)
    by (Some sum) e =
        let inv = h.world.invariant in
        let (v, is, same, of_file, hash) = (inv.members d).contents.staged u.uid sum e in
        let one : v ≡ u = best_one v u (λ x y p q g. inv.versions.one_each x y p.0 q.0 g) is record_is same in
        (s.contents d u.uid, subst (λ o. At o (s.contents d u.uid)) (sym e) refl, h.staged d u.uid sum e ∙ (sym hash ∙ ap (λ (x : Update). x.hash) one))
    by None e = elim ((h.world.invariant.members d).contents.keeps u record_is file) [
      | inl staged ↦ absurd (none_some u.hash (sym e ∙ staged))
      | inr (inl sum) ↦ let (bytes, at, hash) = of_object sum in (bytes, subst (λ o. At o bytes) (sym e) at, hash)
      | inr (inr waits) ↦ absurd (quiet waits)
    ]

-- a member gives something with each record of which no local record is pending
pub gives_some : (s : Scene) (d : ℕ) (u : Update) → IsKept s → IsOfFile s.world d u → (given : Option (List ℕ)) × Gives s d u given × GivenSum u given
gives_some s d u h of = by (is_file u) refl
  where
    Both : Bool → Option (List ℕ) → Type 0
    Both t given = MatchBool t ((bytes : List ℕ) × ContentsAt s d u.uid bytes × (given ≡ Some bytes)) (given ≡ None)
        × MatchBool t ((bytes : List ℕ) × (given ≡ Some bytes) × (content_sum File bytes ≡ u.hash)) (given ≡ None)

    by : (t : Bool) → is_file u ≡ t → (given : Option (List ℕ)) × Gives s d u given × GivenSum u given
    by true file =
        let (bytes, at, sum) = contents_with s d u h of file in
        let (gives, is) = subst (λ t. Both t (Some bytes)) (sym file) ((bytes, at, refl), (bytes, refl, sum)) in (Some bytes, gives, is)
    by false other = let (gives, is) = subst (λ t. Both t None) (sym other) (refl, refl) in (None, gives, is)

-- so has whatever it gives
pub gives_sum : (s : Scene) (d : ℕ) (u : Update) (given : Option (List ℕ)) → IsKept s → IsOfFile s.world d u → Gives s d u given → GivenSum u given
gives_sum s d u given h of gives =
    let (other, gives_too, sum) = gives_some s d u h of in
    subst (GivenSum u) (gives_one s d u other given h.world.invariant gives_too gives) sum

-- ---- what is staged

-- where contents come with their update, they are those of the member's file
pub adopted_staged : (x : Member) (contents : Contents) (d : ℕ) (u : Update) (given : Option (List ℕ)) → GivenSum u given → AreStaged x (contents d) → AreStaged (adopted_by u x) (with_contents contents d u.uid given d)
adopted_staged x contents d u given sum old = by (is_file u) refl sum
  where
    Sum_of : Bool → Type 0
    Sum_of t = MatchBool t ((bytes : List ℕ) × (given ≡ Some bytes) × (content_sum File bytes ≡ u.hash)) (given ≡ None)

    kept : (uid : Uid) (hash : Sum) (t : Bool) → cond t None (x.staged uid) ≡ Some hash → x.staged uid ≡ Some hash
    kept uid hash true e = absurd (none_some hash e)
    kept uid hash false e = e

    given_at : (bytes : List ℕ) → content_sum File bytes ≡ u.hash → (uid : Uid) (hash : Sum) (t : Bool) → cond t (Some u.hash) (x.staged uid) ≡ Some hash → content_sum File (cond t bytes (contents d uid)) ≡ hash
    given_at bytes is uid hash true e = is ∙ some_is u.hash hash e
    given_at bytes is uid hash false e = old uid hash e

    by : (t : Bool) → is_file u ≡ t → Sum_of t → AreStaged (adopted_by u x) (with_contents contents d u.uid given d)
    by true file (bytes, same, is) uid hash e =
        let here : with_contents contents d u.uid given d ≡ with_uid (contents d) u.uid bytes = ap (λ g. with_contents contents d u.uid g d) same ∙ at_same contents d (with_uid (contents d) u.uid bytes) in
        let staged : cond (same_uid uid u.uid) (Some u.hash) (x.staged uid) ≡ Some hash = subst (λ b. with_uid x.staged u.uid (cond b (Some u.hash) None) uid ≡ Some hash) file e in
        ap (λ f. content_sum File (f uid)) here ∙ given_at bytes is uid hash (same_uid uid u.uid) staged
    by false other none uid hash e =
        let staged : cond (same_uid uid u.uid) None (x.staged uid) ≡ Some hash = subst (λ b. with_uid x.staged u.uid (cond b (Some u.hash) None) uid ≡ Some hash) other e in
        ap (λ g. content_sum File (with_contents contents d u.uid g d uid)) none ∙ old uid hash (kept uid hash (same_uid uid u.uid) staged)

-- ---- machines

-- what a machine holds has the sums that are staged
pub held_staged : (all : List Update) (x : Member) (d : ℕ) (contents : Uid → List ℕ) (m : Machine) → MachineStands all x d m → HoldsContents contents m → AreStaged x contents
held_staged all x d contents m s holds uid sum staged = by (s.forms uid) refl
  where
    by : (form : Option (List ℕ)) → s.forms uid ≡ form → content_sum File (contents uid) ≡ sum
    by None e = absurd (none_some sum (sym (s.staged uid ∙ ap (option_map form_sum) e) ∙ staged))
    by (Some form) e =
        let spelled = holds uid form (s.book.staged uid ∙ e) in
        sum_is (contents uid) ∙ (ap form_sum (sym spelled) ∙ some_is (form_sum form) sum (sym (s.staged uid ∙ ap (option_map form_sum) e) ∙ staged))

-- The code's tests say what the tables say, over the maps that the lists stand for.
use Rattle.std.proofs.Common.{◌≡◌, ◌≢◌, ◌||◌, ◌&&◌, not, inl, inr, ℕ, zero, suc, Bool, true, false, eqb, leb, List, [], ◌∷◌, length, Option, Some, None, refl, sym, ap, ◌∙◌, subst, arith}
use Rattle.std.proofs.lemmas.Bool.Decides.{nat_tests, eqb_tells}
use Rattle.std.proofs.lemmas.Bool.{false≢true}
use Rattle.std.specs.Prelude.{is_some, option_map}
use Rattle.frs_base.specs.Names.{matches}
use Rattle.frs_base.specs.Options.{In, some_is, none_or}
use Rattle.frs_base.specs.Versions.{same_uid}
use Rattle.frs_base.specs.declared.version.Uid.{Uid}
use Rattle.vol_state.specs.declared.object.Object.{Object}
use Rattle.vol_state.specs.declared.command.VolCmd.TheVariants.{PutNew, PutOver, Mkdir, Move, Remove, Park, Erase, Make, Rewrite, Place}
use Rattle.vol_state.specs.Places.{object_at, above, above_it, is_directory, is_directory_at, is_child, child, has_children, is_under, is_beneath, is_reached}
use Rattle.vol_state.specs.State.{State, uid_of, object_of}
use Rattle.vol_state.specs.Tree.{Ends}
use Rattle.vol_state.specs.Valid.{IsVolume}
use Rattle.vol_state.specs.Laws.{AreFree}
use Rattle.vol_state.specs.Conditions.{is_placed, is_in_limbo, is_file, is_open, is_open_object, is_within, is_free, can_move, can_stand, root_uid}
use Rattle.vol_state.specs.Maps.{Maps, Stands}
use Rattle.vol_state.specs.Tables.{IsAt, IsDirectory, LeadsBy, IsReached, BeneathBy, IsBeneath, IsFree, IsEmpty, IsNew, IsOpen, TestsAreTables, TablesAreTests}
use Rattle.vol_state.proofs.Climbing.{by_cases}
use Rattle.vol_state.proofs.Finding.{at_in, in_at}
use Rattle.vol_state.proofs.Trees.{beneath, away, ends_directory}
use Rattle.vol_state.proofs.Volumes.{both, not_so, some_of, some_there, find_in, find_none, is_same, free_of, nobody_or}
use Rattle.vol_state.proofs.Reaching.{Under, or_true, under_up, is_beneath_by}
use Rattle.vol_state.proofs.Walks.{same_is}
use Rattle.vol_state.proofs.Standing.{nobody_next}

-- ---- objects

-- what is at a number is in the list
pub item_of : (v : State) (m : Maps) → Stands v m → (fid : ℕ) (o : Object) → IsAt m fid o → (object_at v.objects fid ≡ Some o) × In o v.objects × (o.fid ≡ fid)
item_of v m s fid o e =
    let a : object_at v.objects fid ≡ Some o = sym (s.objects fid) ∙ e in
    let i = at_in fid o v.objects a in
    (a, i.0, i.1)

-- what is in the list is at its number
pub at_item : (v : State) (m : Maps) → IsVolume v → Stands v m → (o : Object) → In o v.objects → IsAt m o.fid o
at_item v m h s o i = s.objects o.fid ∙ in_at 0 o v.objects h.tree.rising i

-- ---- directories

pub directory_is : (v : State) (m : Maps) → Stands v m → (fid : ℕ) → is_directory_at v.objects fid ≡ true → IsDirectory m fid
directory_is v m s fid e =
    by_cases (eqb_tells fid 0)
    (λ t. inl t.1)
    (λ t. let r = some_of (λ o. is_directory o.kind) (object_at v.objects fid) (sym (ap (λ b. b || some_is (λ o. is_directory o.kind) (object_at v.objects fid)) t.0) ∙ e) in
    inr (r.0, s.objects fid ∙ r.1, r.2))

pub directory_at : (v : State) (m : Maps) → Stands v m → (fid : ℕ) → IsDirectory m fid → is_directory_at v.objects fid ≡ true
directory_at v m s fid d =
    by_cases d
    (λ z. ap (is_directory_at v.objects) z)
    (λ r. ap (λ x. eqb fid 0 || some_is (λ o. is_directory o.kind) x) (sym (s.objects fid) ∙ r.1) ∙ ap (λ b. eqb fid 0 || b) r.2 ∙ or_true (eqb fid 0))

-- ---- beneath

same_true : (a b : ℕ) → a ≡ b → eqb a b ≡ true
same_true a b e = grind (arith, nat_tests)

pub beneath_is : (v : State) (m : Maps) → Stands v m → (top n fid : ℕ) → is_under v.objects n top fid ≡ true → BeneathBy m top n fid
beneath_is v m s top zero fid u = grind (arith, nat_tests)
beneath_is v m s top (suc n) fid u =
    by_cases (eqb_tells fid top)
    (λ t. inl t.1)
    (λ t. inr (at (object_at v.objects fid) refl (sym (ap (λ b. b || some_is (is_under v.objects n top) (above v.objects fid)) t.0) ∙ u) (beneath_is v m s top n)))
  where
    Found : Type 0
    Found = (o : Object) × (p : ℕ × List ℕ) × IsAt m fid o × (o.place ≡ Some p) × BeneathBy m top n p.0

    stands : (o : Object) (place : Option (ℕ × List ℕ)) → object_at v.objects fid ≡ Some o → o.place ≡ place → some_is (is_under v.objects n top) (option_map (λ p. p.0) place) ≡ true
        → ((up : ℕ) → is_under v.objects n top up ≡ true → BeneathBy m top n up) → Found
    stands o None a is e more = absurd (cc)
    stands o (Some p) a is e more = (o, p, s.objects fid ∙ a, is, more p.0 e)

    at : (a : Option Object) → object_at v.objects fid ≡ a → some_is (is_under v.objects n top) (above v.objects fid) ≡ true
        → ((up : ℕ) → is_under v.objects n top up ≡ true → BeneathBy m top n up) → Found
    at None a e more = absurd (cc)
    at (Some o) a e more = stands o o.place a refl (ap (λ x. some_is (is_under v.objects n top) (above_it x)) (sym a) ∙ e) more

under_of : (v : State) (m : Maps) → Stands v m → (top n fid : ℕ) → BeneathBy m top n fid → Under v.objects top fid
under_of v m s top zero fid b = (0, same_true fid top b)
under_of v m s top (suc n) fid b =
    by_cases b
    (λ e. (0, same_true fid top e))
    (λ r. under_up v.objects top fid r.1.0 (ap above_it (sym (s.objects fid) ∙ r.2) ∙ ap (option_map (λ p. p.0)) r.3) (under_of v m s top n r.1.0 r.4))

-- to lead to the root is to stand beneath it
leads_by : (m : Maps) (n fid : ℕ) → BeneathBy m 0 n fid → LeadsBy false m n fid
leads_by m zero fid b = b
leads_by m (suc n) fid b = by_cases b (λ e. inl e) (λ r. inr (r.0, r.2, inr (r.1, r.3, leads_by m n r.1.0 r.4)))

beneath_by : (m : Maps) (n fid : ℕ) → LeadsBy false m n fid → BeneathBy m 0 n fid
beneath_by m zero fid l = l
beneath_by m (suc n) fid l = by_cases l (λ e. inl e) (λ r. by_cases r.2 (λ z. absurd (false≢true z.0)) (λ p. inr (r.0, p.0, r.1, p.1, beneath_by m n p.0.0 p.2)))

pub reached_is : (v : State) (m : Maps) → Stands v m → (fid : ℕ) → is_reached v.objects fid ≡ true → IsReached m fid
reached_is v m s fid u = (length v.objects, leads_by m (length v.objects) fid (beneath_is v m s 0 (length v.objects) fid u))

pub reached_at : (v : State) (m : Maps) → Stands v m → (fid : ℕ) → Ends v.objects fid → IsReached m fid → is_reached v.objects fid ≡ true
reached_at v m s fid ends r = is_beneath_by v.objects 0 fid ends (under_of v m s 0 r.0 fid (beneath_by m r.0 fid r.1))

pub off_is : (v : State) (m : Maps) → IsVolume v → Stands v m → (fid parent : ℕ) → is_directory_at v.objects parent ≡ true → is_beneath v.objects fid parent ≡ false → IsBeneath m fid parent → ⊥
off_is v m h s fid parent d off b =
    false≢true (sym off ∙ is_beneath_by v.objects fid parent (ends_directory v.objects h.tree parent d) (under_of v m s fid b.0 parent b.1))

pub off_at : (v : State) (m : Maps) → Stands v m → (fid parent : ℕ) → (IsBeneath m fid parent → ⊥) → is_beneath v.objects fid parent ≡ false
off_at v m s fid parent off = go (is_beneath v.objects fid parent) refl
  where
    go : (b : Bool) → is_beneath v.objects fid parent ≡ b → is_beneath v.objects fid parent ≡ false
    go true e = absurd (off (length v.objects, beneath_is v m s fid (length v.objects) parent e))
    go false e = e

-- ---- names

pub is_child_by : (parent : ℕ) (name : List ℕ) (o : Object) (p : ℕ × List ℕ) → o.place ≡ Some p → p.0 ≡ parent → matches p.1 name ≡ true → is_child parent name o ≡ true
is_child_by parent name o p is at named = ap (some_is (λ p. eqb p.0 parent && matches p.1 name)) is ∙ ap (λ b. b && matches p.1 name) (same_true p.0 parent at) ∙ named

pub child_by : (parent : ℕ) (name : List ℕ) (o : Object) → is_child parent name o ≡ true → (p : ℕ × List ℕ) × (o.place ≡ Some p) × (p.0 ≡ parent) × (matches p.1 name ≡ true)
child_by parent name o e =
    let r = some_of (λ p. eqb p.0 parent && matches p.1 name) o.place e in
    let (same, named) = both (eqb r.0.0 parent) (matches r.0.1 name) r.2 in
    (r.0, r.1, grind (arith, nat_tests), named)

pub free_is : (v : State) (m : Maps) → IsVolume v → Stands v m → (fid parent : ℕ) (name : List ℕ) → none_or (λ o. eqb o.fid fid) (child v.objects parent name) ≡ true → IsFree m fid parent name
free_is v m h s fid parent name e g o p at is under named =
    let i = item_of v m s g o at in
    sym i.2 ∙ free_of v h fid parent name e o i.1 (is_child_by parent name o p is under named)

pub free_at : (v : State) (m : Maps) → IsVolume v → Stands v m → (fid parent : ℕ) (name : List ℕ) → IsFree m fid parent name → none_or (λ o. eqb o.fid fid) (child v.objects parent name) ≡ true
free_at v m h s fid parent name free = go (child v.objects parent name) refl
  where
    go : (c : Option Object) → child v.objects parent name ≡ c → none_or (λ o. eqb o.fid fid) c ≡ true
    go None is = refl
    go (Some c) is =
        let (i, test) = find_in (is_child parent name) v.objects c is in
        let (p, place, under, named) = child_by parent name c test in
        same_true c.fid fid (free c.fid c p (at_item v m h s c i) place under named)

-- where no object with a place has the number, nobody has the name
nobody_at : (v : State) (m : Maps) → IsVolume v → Stands v m → (fid parent : ℕ) (name : List ℕ) → ((o : Object) → object_at v.objects fid ≡ Some o → o.place ≡ None) → IsFree m fid parent name → is_some (child v.objects parent name) ≡ false
nobody_at v m h s fid parent name away free = go (child v.objects parent name) refl
  where
    go : (c : Option Object) → child v.objects parent name ≡ c → is_some c ≡ false
    go None is = refl
    go (Some c) is =
        let (i, test) = find_in (is_child parent name) v.objects c is in
        let (p, place, under, named) = child_by parent name c test in
        let same : c.fid ≡ fid = free c.fid c p (at_item v m h s c i) place under named in
        let limbo : c.place ≡ None = away c (ap (object_at v.objects) (sym same) ∙ in_at 0 c v.objects h.tree.rising i) in
        absurd (cc)

-- ---- what stands in a directory

pub empty_is : (v : State) (m : Maps) → Stands v m → (fid : ℕ) → has_children v.objects fid ≡ false → IsEmpty m fid
empty_is v m s fid bare g o p at is =
    let i = item_of v m s g o at in
    away p.0 fid (sym (ap (some_is (λ q. eqb q.0 fid)) is) ∙ beneath fid o v.objects bare i.1)

-- somebody stands in it
pub child_in : (fid : ℕ) (os : List Object) → has_children os fid ≡ true → (o : Object) × (p : ℕ × List ℕ) × In o os × (o.place ≡ Some p) × (p.0 ≡ fid)
child_in fid [] e = absurd (cc)
child_in fid (x ∷ os) e = go (some_is (λ p. eqb p.0 fid) x.place) refl e (child_in fid os)
  where
    go : (b : Bool) → some_is (λ p. eqb p.0 fid) x.place ≡ b → (b || has_children os fid) ≡ true
        → (has_children os fid ≡ true → (o : Object) × (p : ℕ × List ℕ) × In o os × (o.place ≡ Some p) × (p.0 ≡ fid))
        → (o : Object) × (p : ℕ × List ℕ) × In o (x ∷ os) × (o.place ≡ Some p) × (p.0 ≡ fid)
    go true t e more = let r = some_of (λ p. eqb p.0 fid) x.place t in (x, r.0, inl refl, r.1, grind (arith, nat_tests))
    go false t e more = let r = more e in (r.0, r.1, inr r.2, r.3, r.4)

pub empty_at : (v : State) (m : Maps) → IsVolume v → Stands v m → (fid : ℕ) → IsEmpty m fid → has_children v.objects fid ≡ false
empty_at v m h s fid bare = go (has_children v.objects fid) refl
  where
    go : (b : Bool) → has_children v.objects fid ≡ b → has_children v.objects fid ≡ false
    go true e = let (o, p, i, place, under) = child_in fid v.objects e in absurd (bare o.fid o p (at_item v m h s o i) place under)
    go false e = e

-- ---- UIDs

new_is : (v : State) (m : Maps) → Stands v m → (uid : Uid) → is_some (object_of v uid) ≡ false → IsNew v.own m uid
new_is v m s uid none fid o at e =
    let i = item_of v m s fid o at in
    false≢true (sym (find_none (λ o. same_uid (uid_of v.own o) uid) v.objects o none i.1) ∙ ap (λ u. same_uid u uid) e ∙ is_same uid)

new_at : (v : State) (m : Maps) → IsVolume v → Stands v m → (uid : Uid) → IsNew v.own m uid → is_some (object_of v uid) ≡ false
new_at v m h s uid new = go (object_of v uid) refl
  where
    go : (a : Option Object) → object_of v uid ≡ a → is_some a ≡ false
    go None is = refl
    go (Some o) is =
        let (i, test) = find_in (λ o. same_uid (uid_of v.own o) uid) v.objects o is in
        absurd (new o.fid o (at_item v m h s o i) (same_is (uid_of v.own o) uid test))

no_root_is : (uid : Uid) → same_uid uid root_uid ≡ false → uid ≢ root_uid
no_root_is uid off e = false≢true (sym off ∙ ap (λ u. same_uid u root_uid) e ∙ is_same root_uid)

no_root_at : (uid : Uid) → uid ≢ root_uid → same_uid uid root_uid ≡ false
no_root_at uid off = go (same_uid uid root_uid) refl
  where
    go : (b : Bool) → same_uid uid root_uid ≡ b → same_uid uid root_uid ≡ false
    go true e = absurd (off (same_is uid root_uid e))
    go false e = e

-- ---- conditions

open_is : (v : State) (m : Maps) → Stands v m → (parent : ℕ) → is_open v.objects parent ≡ true → IsDirectory m parent × IsReached m parent
open_is v m s parent e =
    let (d, r) = both (is_directory_at v.objects parent) (is_reached v.objects parent) e in
    (directory_is v m s parent d, reached_is v m s parent r)

open_at : (v : State) (m : Maps) → IsVolume v → Stands v m → (parent : ℕ) → IsDirectory m parent → IsReached m parent → is_open v.objects parent ≡ true
open_at v m h s parent d r =
    let e = directory_at v m s parent d in
    rw e (reached_at v m s parent (ends_directory v.objects h.tree parent e) r)

-- an object that a path leads to
placed_is : (v : State) (m : Maps) → Stands v m → (fid : ℕ) → is_open_object v.objects fid ≡ true → (o : Object) × IsAt m fid o × IsReached m fid
placed_is v m s fid e =
    let (there, r) = both (is_some (object_at v.objects fid)) (is_reached v.objects fid) e in
    let o = some_there (object_at v.objects fid) there in
    (o.0, s.objects fid ∙ o.1, reached_is v m s fid r)

reached_object : (v : State) (m : Maps) → IsVolume v → Stands v m → (fid : ℕ) (o : Object) → IsAt m fid o → IsReached m fid → (object_at v.objects fid ≡ Some o) × (is_reached v.objects fid ≡ true)
reached_object v m h s fid o at r =
    let i = item_of v m s fid o at in
    (i.0, reached_at v m s fid (subst (Ends v.objects) i.2 (h.tree.ends o i.1)) r)

free_open_is : (v : State) (m : Maps) → IsVolume v → Stands v m → (parent : ℕ) (name : List ℕ) → is_free v.objects parent name ≡ true → IsOpen m m.next_fid parent name
free_open_is v m h s parent name e =
    let (opened, free) = both (is_open v.objects parent) (not (is_some (child v.objects parent name))) e in
    let (d, r) = open_is v m s parent opened in
    (d, r, free_is v m h s m.next_fid parent name (nobody_or (λ o. eqb o.fid m.next_fid) (child v.objects parent name) (not_so (is_some (child v.objects parent name)) free)))

free_open_at : (v : State) (m : Maps) → IsVolume v → AreFree v → Stands v m → (parent : ℕ) (name : List ℕ) → IsOpen m m.next_fid parent name → is_free v.objects parent name ≡ true
free_open_at v m h numbers s parent name e =
    let o = open_at v m h s parent e.0 e.1 in
    let n = nobody_at v m h s m.next_fid parent name (λ x at. absurd (none_some x (sym (nobody_next v numbers) ∙ ap (object_at v.objects) (sym s.next_fid) ∙ at))) e.2 in
    rw o (rw n refl)
  where
    none_some : (x : Object) → None ≡ Some x → ⊥
    none_some x e = absurd (cc)

-- ---- both tables

pub tests_are_tables : TestsAreTables
tests_are_tables (PutNew parent name bytes) v m h s e =
    let (within, free) = both (is_within bytes) (is_free v.objects parent name) e in
    inl (grind (arith, nat_tests), free_open_is v m h s parent name free)
tests_are_tables (PutOver fid bytes) v m h s e =
    let (within, rest) = both (is_within bytes) (some_is is_file (object_at v.objects fid) && is_reached v.objects fid) e in
    let (file, r) = both (some_is is_file (object_at v.objects fid)) (is_reached v.objects fid) rest in
    let o = some_of is_file (object_at v.objects fid) file in
    inl (grind (arith, nat_tests), o.0, s.objects fid ∙ o.1, reached_is v m s fid r, not_so (is_directory o.0.kind) o.2)
tests_are_tables (Mkdir parent name) v m h s e = inl (free_open_is v m h s parent name e)
tests_are_tables (Move fid parent name) v m h s e =
    let (opened, can) = both (is_open_object v.objects fid) (can_move v.objects fid parent name) e in
    let (home, rest) = both (is_open v.objects parent) (not (is_beneath v.objects fid parent) && none_or (λ o. eqb o.fid fid) (child v.objects parent name)) can in
    let (off, free) = both (not (is_beneath v.objects fid parent)) (none_or (λ o. eqb o.fid fid) (child v.objects parent name)) rest in
    let o = placed_is v m s fid opened in
    let p = open_is v m s parent home in
    inl (o.0, o.1, o.2, off_is v m h s fid parent (directory_at v m s parent p.0) (not_so (is_beneath v.objects fid parent) off), (p.0, p.1, free_is v m h s fid parent name free))
tests_are_tables (Remove fid) v m h s e =
    let (opened, bare) = both (is_open_object v.objects fid) (not (has_children v.objects fid)) e in
    let o = placed_is v m s fid opened in
    inl (o.0, o.1, o.2, empty_is v m s fid (not_so (has_children v.objects fid) bare))
tests_are_tables (Park fid) v m h s e =
    let o = some_of is_placed (object_at v.objects fid) e in
    inr (o.0, s.objects fid ∙ o.1, λ limbo. false≢true (ap is_some (sym limbo) ∙ o.2))
tests_are_tables (Erase fid) v m h s e =
    let (limbo, bare) = both (some_is is_in_limbo (object_at v.objects fid)) (not (has_children v.objects fid)) e in
    let o = some_of is_in_limbo (object_at v.objects fid) limbo in
    inr (o.0, s.objects fid ∙ o.1, no_place o.0.place (not_so (is_some o.0.place) o.2), empty_is v m s fid (not_so (has_children v.objects fid) bare))
  where
    no_place : (place : Option (ℕ × List ℕ)) → is_some place ≡ false → place ≡ None
    no_place None e = refl
    no_place (Some p) e = absurd (cc)
tests_are_tables (Make uid kind bytes) v m h s e =
    let (root, rest) = both (not (same_uid uid root_uid)) (not (is_some (object_of v uid)) && (not (is_directory kind) || leb (length bytes) 0)) e in
    let (new, bare) = both (not (is_some (object_of v uid))) (not (is_directory kind) || leb (length bytes) 0) rest in
    inr (no_root_is uid (not_so (same_uid uid root_uid) root), new_is v m s uid (not_so (is_some (object_of v uid)) new), λ d. let l : leb (length bytes) 0 ≡ true = ap (λ b. not b || leb (length bytes) 0) (sym d) ∙ bare in grind (arith, nat_tests))
tests_are_tables (Rewrite fid bytes) v m h s e =
    let o = some_of is_file (object_at v.objects fid) e in
    inr (o.0, s.objects fid ∙ o.1, not_so (is_directory o.0.kind) o.2)
tests_are_tables (Place fid parent name) v m h s e =
    let (limbo, can) = both (some_is is_in_limbo (object_at v.objects fid)) (can_stand v.objects fid parent name) e in
    let (d, rest) = both (is_directory_at v.objects parent) (not (is_beneath v.objects fid parent) && not (is_some (child v.objects parent name))) can in
    let (off, free) = both (not (is_beneath v.objects fid parent)) (not (is_some (child v.objects parent name))) rest in
    let o = some_of is_in_limbo (object_at v.objects fid) limbo in
    inr (o.0, s.objects fid ∙ o.1, no_place o.0.place (not_so (is_some o.0.place) o.2), directory_is v m s parent d, off_is v m h s fid parent d (not_so (is_beneath v.objects fid parent) off), free_is v m h s fid parent name (nobody_or (λ o. eqb o.fid fid) (child v.objects parent name) (not_so (is_some (child v.objects parent name)) free)))
  where
    no_place : (place : Option (ℕ × List ℕ)) → is_some place ≡ false → place ≡ None
    no_place None e = refl
    no_place (Some p) e = absurd (cc)

pub tables_are_tests : TablesAreTests
tables_are_tests (PutNew parent name bytes) v m h numbers s e =
    by_cases e
    (λ a. let l = a.0 in let w : is_within bytes ≡ true = grind (arith, nat_tests) in rw w (free_open_at v m h numbers s parent name a.1))
    (λ z. absurd z)
tables_are_tests (PutOver fid bytes) v m h numbers s e =
    by_cases e
    (λ a. let l = a.0 in
    let w : is_within bytes ≡ true = grind (arith, nat_tests) in
    let t = reached_object v m h s fid a.1 a.2 a.3 in
    rw w (rw t.0 (rw a.4 t.1)))
    (λ z. absurd z)
tables_are_tests (Mkdir parent name) v m h numbers s e = by_cases e (λ a. free_open_at v m h numbers s parent name a) (λ z. absurd z)
tables_are_tests (Move fid parent name) v m h numbers s e =
    by_cases e
    (λ a. let t = reached_object v m h s fid a.0 a.1 a.2 in
    let p = open_at v m h s parent a.4.0 a.4.1 in
    let off = off_at v m s fid parent a.3 in
    rw t.0 (rw t.1 (rw p (rw off (free_at v m h s fid parent name a.4.2)))))
    (λ z. absurd z)
tables_are_tests (Remove fid) v m h numbers s e =
    by_cases e
    (λ a. let t = reached_object v m h s fid a.0 a.1 a.2 in rw t.0 (rw t.1 (rw (empty_at v m h s fid a.3) refl)))
    (λ z. absurd z)
tables_are_tests (Park fid) v m h numbers s e =
    by_cases e
    (λ z. absurd z)
    (λ a. rw (item_of v m s fid a.0 a.1).0 (go a.0.place a.2))
  where
    go : (place : Option (ℕ × List ℕ)) → place ≢ None → is_some place ≡ true
    go None off = absurd (off refl)
    go (Some p) off = refl
tables_are_tests (Erase fid) v m h numbers s e =
    by_cases e
    (λ z. absurd z)
    (λ a. rw (item_of v m s fid a.0 a.1).0 (rw a.2 (rw (empty_at v m h s fid a.3) refl)))
tables_are_tests (Make uid kind bytes) v m h numbers s e =
    by_cases e
    (λ z. absurd z)
    (λ a. rw (no_root_at uid a.0) (rw (new_at v m h s uid a.1) (go (is_directory kind) refl a.2)))
  where
    go : (b : Bool) → is_directory kind ≡ b → (is_directory kind ≡ true → length bytes ≡ 0) → (not b || leb (length bytes) 0) ≡ true
    go true d bare = let l = bare d in grind (arith, nat_tests)
    go false d bare = refl
tables_are_tests (Rewrite fid bytes) v m h numbers s e =
    by_cases e
    (λ z. absurd z)
    (λ a. rw (item_of v m s fid a.0 a.1).0 (rw a.2 refl))
tables_are_tests (Place fid parent name) v m h numbers s e =
    by_cases e
    (λ z. absurd z)
    (λ a. let t = item_of v m s fid a.0 a.1 in
    let d = directory_at v m s parent a.3 in
    let n = nobody_at v m h s fid parent name (λ x at. limbo a.0 x a.2 (sym t.0 ∙ at)) a.5 in
    rw t.0 (rw a.2 (rw d (rw (off_at v m s fid parent a.4) (rw n refl)))))
  where
    limbo : (o x : Object) → o.place ≡ None → Some o ≡ Some x → x.place ≡ None
    limbo o x is e = let same : o ≡ x = cc in ap (λ y. y.place) (sym same) ∙ is

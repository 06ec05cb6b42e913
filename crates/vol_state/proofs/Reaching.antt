-- What a path leads to is reached from the root.
use Rattle.std.proofs.Common.{◌≡◌, ◌≤◌, ◌||◌, ◌&&◌, ℕ, zero, suc, Bool, true, false, eqb, List, [], ◌∷◌, length, Option, Some, None, Result, Ok, Err, refl, sym, ap, ◌∙◌, subst, arith}
use Rattle.std.proofs.lemmas.Bool.Decides.{nat_tests, eqb_tells}
use Rattle.std.specs.Prelude.{option_map, if◌then◌else◌}
use Rattle.frs_base.specs.Names.{matches}
use Rattle.vol_state.specs.declared.object.Object.{Object}
use Rattle.vol_state.specs.declared.operation.Refused.{Refused}
use Rattle.vol_state.specs.declared.operation.Refused.TheVariants.{NotDirectory}
use Rattle.frs_base.specs.Options.{In, some_is, none_or}
use Rattle.vol_state.specs.Places.{object_at, above, above_it, is_directory, is_directory_at, is_child, child, is_under, is_beneath, is_reached, ends_in}
use Rattle.vol_state.specs.Paths.{then_, present, entered, walk, home, last_name, target}
use Rattle.vol_state.specs.Tree.{IsTree, Ends}
use Rattle.vol_state.specs.Conditions.{is_open}
use Rattle.vol_state.proofs.Climbing.{by_cases, above_ends}
use Rattle.vol_state.proofs.Finding.{in_at}
use Rattle.vol_state.proofs.Bounds.{bounded}
use Rattle.vol_state.proofs.Trees.{ends_directory}
use Rattle.vol_state.proofs.Volumes.{find_in, both}

-- some number of steps up reaches top
abbrev pub Under : List Object → ℕ → ℕ → Type 0
Under objects top fid = (n : ℕ) × (is_under objects n top fid ≡ true)

pub or_true : (b : Bool) → (b || true) ≡ true
or_true true = refl
or_true false = refl

-- from one step up on
pub under_up : (objects : List Object) (top fid up : ℕ) → above objects fid ≡ Some up → Under objects top up → Under objects top fid
under_up objects top fid up is u = (suc u.0, ap (λ a. eqb fid top || some_is (is_under objects u.0 top) a) is ∙ ap (λ b. eqb fid top || b) u.1 ∙ or_true (eqb fid top))

ends_more : (objects : List Object) (n m fid : ℕ) → ends_in objects n fid ≡ true → n ≤ m → ends_in objects m fid ≡ true
ends_more objects zero m fid e le = absurd (cc)
ends_more objects (suc n) zero fid e le = absurd (omega arith)
ends_more objects (suc n) (suc m) fid e le = go (above objects fid) refl e (λ up f. ends_more objects n m up f (omega arith))
  where
    go : (a : Option ℕ) → above objects fid ≡ a → none_or (ends_in objects n) (above objects fid) ≡ true → ((up : ℕ) → ends_in objects n up ≡ true → ends_in objects m up ≡ true) → ends_in objects (suc m) fid ≡ true
    go None is e more = ap (none_or (ends_in objects m)) is
    go (Some up) is e more = ap (none_or (ends_in objects m)) is ∙ more up (ap (none_or (ends_in objects n)) (sym is) ∙ e)

-- what a climb reaches, it reaches before it ends
under_here : (objects : List Object) (top m fid : ℕ) → eqb fid top ≡ true → is_under objects m top fid ≡ true
under_here objects top zero fid t = t
under_here objects top (suc m) fid t = ap (λ b. b || some_is (is_under objects m top) (above objects fid)) t

under_ends : (objects : List Object) (top k m fid : ℕ) → is_under objects k top fid ≡ true → ends_in objects (suc m) fid ≡ true → is_under objects m top fid ≡ true
under_ends objects top zero m fid u e = under_here objects top m fid u
under_ends objects top (suc k) m fid u e = by_cases (eqb_tells fid top) (λ t. under_here objects top m fid t.0) (λ t. go m (above objects fid) refl t.0 e (under_ends objects top k))
  where
    go : (m : ℕ) (a : Option ℕ) → above objects fid ≡ a → eqb fid top ≡ false → ends_in objects (suc m) fid ≡ true
        → ((m up : ℕ) → is_under objects k top up ≡ true → ends_in objects (suc m) up ≡ true → is_under objects m top up ≡ true) → is_under objects m top fid ≡ true
    go m None is t e more = absurd (cc)
    go zero (Some up) is t e more = absurd (cc)
    go (suc m) (Some up) is t e more =
        let below : is_under objects k top up ≡ true = ap (some_is (is_under objects k top)) (sym is) ∙ sym (ap (λ b. b || some_is (is_under objects k top) (above objects fid)) t) ∙ u in
        let r = more m up below (above_ends objects (suc m) fid up e is) in
        ap (λ b. b || some_is (is_under objects m top) (above objects fid)) t ∙ ap (some_is (is_under objects m top)) is ∙ r

-- one step for each object is enough
pub is_beneath_by : (objects : List Object) (top fid : ℕ) → Ends objects fid → Under objects top fid → is_beneath objects top fid ≡ true
is_beneath_by objects top fid ends u =
    let short = bounded objects ends.0 fid ends.1 in
    under_ends objects top u.0 (length objects) fid u.1 (ends_more objects short.0 (suc (length objects)) fid short.2 short.1)

-- both steps were Ok
pub steps : {A B : Type 0} (r : Result A Refused) (next : A → Result B Refused) (b : B) → then_ r next ≡ Ok b → (a : A) × (r ≡ Ok a) × (next a ≡ Ok b)
steps (Ok a) next b e = (a, refl, e)
steps (Err x) next b e = absurd (cc)

-- what stands under a name is there, in that directory
pub child_there : (objects : List Object) → IsTree objects → (at : ℕ) (name : List ℕ) (o : Object) → child objects at name ≡ Some o → (object_at objects o.fid ≡ Some o) × (above objects o.fid ≡ Some at) × In o objects
child_there objects t at name o e =
    let (i, test) = find_in (is_child at name) objects o e in
    let there = in_at 0 o objects t.rising i in
    (there, ap above_it there ∙ placed o.place test, i)
  where
    placed : (place : Option (ℕ × List ℕ)) → some_is (λ p. eqb p.0 at && matches p.1 name) place ≡ true → option_map (λ p. p.0) place ≡ Some at
    placed None e = absurd (cc)
    placed (Some p) e = let same : p.0 ≡ at = (let h = (both (eqb p.0 at) (matches p.1 name) e).0 in grind (arith, nat_tests)) in ap Some same

-- a directory, so far
record IsOpened (objects : List Object) (fid : ℕ) : Type 0 where
  directory : is_directory_at objects fid ≡ true
  reached : Under objects 0 fid

entered_opened : (objects : List Object) → IsTree objects → (at : ℕ) (name : List ℕ) (fid : ℕ) → IsOpened objects at → entered (child objects at name) ≡ Ok fid → IsOpened objects fid
entered_opened objects t at name fid was e = go (child objects at name) refl e
  where
    of : (o : Object) (b : Bool) → is_directory o.kind ≡ b → (if b then Ok o.fid else Err NotDirectory) ≡ Ok fid → (b ≡ true) × (o.fid ≡ fid)
    of o true d e = (refl, cc)
    of o false d e = absurd (cc)

    go : (c : Option Object) → child objects at name ≡ c → entered c ≡ Ok fid → IsOpened objects fid
    go None c e = absurd (cc)
    go (Some o) c e =
        let (d, s) = of o (is_directory o.kind) refl e in
        let there = child_there objects t at name o c in
        subst (IsOpened objects) s (record {
          directory = ap (λ x. eqb o.fid 0 || some_is (λ o. is_directory o.kind) x) there.0 ∙ ap (λ b. eqb o.fid 0 || b) d ∙ or_true (eqb o.fid 0);
          reached = under_up objects 0 o.fid at there.1 was.reached;
        })

walk_opened : (objects : List Object) → IsTree objects → (rest : List (List ℕ)) (at : ℕ) (name : List ℕ) (to : ℕ) → IsOpened objects at → walk objects at name rest ≡ Ok to → IsOpened objects to
walk_opened objects t [] at name to d e = let s : at ≡ to = cc in subst (IsOpened objects) s d
walk_opened objects t (next ∷ rest) at name to d e =
    let (fid, en, w) = steps (entered (child objects at name)) (λ fid. walk objects fid next rest) to e in
    walk_opened objects t rest fid next to (entered_opened objects t at name fid d en) w

home_opened : (objects : List Object) → IsTree objects → (path : List (List ℕ)) (at : ℕ) → home objects path ≡ Ok at → IsOpened objects at
home_opened objects t [] at e = absurd (cc)
home_opened objects t (name ∷ rest) at e = walk_opened objects t rest 0 name at (record { directory = refl; reached = (0, refl) }) e

-- the directory of a path's last component
pub home_open : (objects : List Object) → IsTree objects → (path : List (List ℕ)) (at : ℕ) → home objects path ≡ Ok at → is_open objects at ≡ true
home_open objects t path at e =
    let h = home_opened objects t path at e in
    rw h.directory (is_beneath_by objects 0 at (ends_directory objects t at h.directory) h.reached)

-- what stands in that directory
pub child_reached : (objects : List Object) → IsTree objects → (path : List (List ℕ)) (at : ℕ) (name : List ℕ) (o : Object) → home objects path ≡ Ok at → child objects at name ≡ Some o
    → (object_at objects o.fid ≡ Some o) × (is_reached objects o.fid ≡ true)
child_reached objects t path at name o e c =
    let h = home_opened objects t path at e in
    let there = child_there objects t at name o c in
    (there.0, is_beneath_by objects 0 o.fid (t.ends o there.2) (under_up objects 0 o.fid at there.1 h.reached))

-- the object that a path leads to
pub target_reached : (objects : List Object) → IsTree objects → (path : List (List ℕ)) (o : Object) → target objects path ≡ Ok o → (object_at objects o.fid ≡ Some o) × (is_reached objects o.fid ≡ true)
target_reached objects t path o e =
    let (at, w, p) = steps (home objects path) (λ at. present (child objects at (last_name path))) o e in
    go at w (child objects at (last_name path)) refl p
  where
    go : (at : ℕ) → home objects path ≡ Ok at → (c : Option Object) → child objects at (last_name path) ≡ c → present c ≡ Ok o → (object_at objects o.fid ≡ Some o) × (is_reached objects o.fid ≡ true)
    go at w None c e = absurd (cc)
    go at w (Some x) c e = let s : x ≡ o = cc in child_reached objects t path at (last_name path) o w (c ∙ ap Some s)

-- Each record that is shown has one row.
use Rattle.std.proofs.Common.{◌≡◌, ◌⊎◌, ◌∙◌, ◌++◌, ◌+◌, ◌<◌, ℕ, zero, suc, inl, inr, Bool, true, List, [], ◌∷◌, Option, Some, None, length, map, slice_get, refl, sym, ap, subst, arith}
use Rattle.std.proofs.lemmas.List.{append_assoc, length-append}
use Rattle.std.proofs.lemmas.List.Sorted.{Contains-permutation, IsPermutation-sym}
use Rattle.std.proofs.lemmas.Option.{slice_get_within}
use Rattle.std.proofs.lemmas.Slice.Eq.{bytes_eq-Decides}
use Rattle.std.specs.List.Sorted.{IsPermutation}
use Rattle.frs_base.specs.Names.{fold_unit, matches}
use Rattle.frs_base.specs.Options.{In}
use Rattle.frs_base.specs.declared.version.Uid.{Uid}
use Rattle.vol_state.specs.Conditions.{root_uid}
use Rattle.win_order.specs.Order.{is_directory, key_of}
use Rattle.win_order.specs.declared.update.Update.{Update}
use Rattle.name_rules.specs.declared.rows.TreeRow.{TreeRow}
use Rattle.name_rules.specs.Tree.{HasName, IsRow, IsShown, IsUnder}
use Rattle.name_rules.specs.Shown.{Among, AreApart, AreDistinct, AreHung, AreNamed, Descends, StandsFor}
use Rattle.name_rules.specs.Rows.{AreByDepth, AreRowsOf, AreTreeRows, HaveNoRoot, depth_cmp, path_above, path_of, row_at, row_in}
use Rattle.name_rules.proofs.Deepening.{deepening, depth_same, depth_total}
use Rattle.name_rules.proofs.Descending.{finds, one_value}
use Rattle.name_rules.proofs.Flags.{upto}
use Rattle.name_rules.proofs.Found.{once_placed, one_each}
use Rattle.name_rules.proofs.Lists.{contains_in, get_append, got_in, in_contains, in_got, some_at}
use Rattle.name_rules.proofs.Places.{key_version, neither_lower}
use Rattle.name_rules.proofs.Showing.{shown_name, shown_record}
use Rattle.name_rules.proofs.Sorting.{HaveOtherKeys, moved_once}

-- ---- one record at each path

matches_itself : (name : List ℕ) → matches name name ≡ true
matches_itself name = (bytes_eq-Decides (map fold_unit name) (map fold_unit name)).1 refl

-- two that have one name in one directory are one
one_named : (records : List Update) → AreDistinct records → (u v : Update) → HasName (Among records) u → HasName (Among records) v → u.parent ≡ v.parent → u.name ≡ v.name → u ≡ v
one_named records distinct u v h k p n =
    let low = h.greatest v k.among k.present (sym p) (subst (λ x. matches x u.name ≡ true) n (matches_itself u.name)) in
    let high = k.greatest u h.among h.present p (subst (λ x. matches u.name x ≡ true) n (matches_itself u.name)) in
    distinct.versions u v h.among k.among (key_version (key_of u) (key_of v) (neither_lower (key_of u) (key_of v) low high))

one_under : (records : List Update) → AreDistinct records → (path : List (List ℕ)) (parent : Uid) (u v : Update) → IsUnder (Among records) parent path u → IsUnder (Among records) parent path v → u ≡ v
one_under records distinct [] parent u v h k = absurd h
one_under records distinct (name ∷ []) parent u v (shown, p, n) (shown', p', n') =
    one_named records distinct u v (shown_name _ u shown) (shown_name _ v shown') (p ∙ sym p') (n ∙ sym n')
one_under records distinct (name ∷ next ∷ path) parent u v (d, shown, p, n, dir, h) (e, shown', p', n', dir', k) =
    let same = one_named records distinct d e (shown_name _ d shown) (shown_name _ e shown') (p ∙ sym p') (n ∙ sym n') in
    one_under records distinct (next ∷ path) d.uid u v h (subst (λ x. IsUnder (Among records) x.uid (next ∷ path) v) (sym same) k)

-- one directory deeper
deeper : (R : Update → Type 0) (path : List (List ℕ)) (parent : Uid) (d u : Update) → IsUnder R parent path d → is_directory d ≡ true → IsShown R u → u.parent ≡ d.uid → IsUnder R parent (path ++ u.name ∷ []) u
deeper R [] parent d u h dir shown p = absurd h
deeper R (name ∷ []) parent d u (s, q, n) dir shown p = (d, s, q, n, dir, (shown, p, refl))
deeper R (name ∷ next ∷ path) parent d u (e, s, q, n, dir', h) dir shown p = (e, s, q, n, dir', deeper R (next ∷ path) e.uid d u h dir shown p)

-- ---- rows as they are made

-- the path of a directory stays once there are more rows
path_stays : (rows more : List TreeRow) (up : Option ℕ) → ((j : ℕ) → up ≡ Some j → j < length rows) → path_above (rows ++ more) up ≡ path_above rows up
path_stays rows more None low = refl
path_stays rows more (Some j) low =
    let (row, at) = some_at rows j (low j refl) in
    ap path_of (get_append rows more j row at ∙ sym at)

-- of the first n found the rows are made
pub record AreRowsSoFar (named : List Update) (queue : List ℕ) (above : List (Option ℕ)) (next : ℕ) (rows : List TreeRow) : Type 0 where
  pub long : length rows ≡ next
  pub each : (n k : ℕ) (u : Update) (up : Option ℕ) → n < next → slice_get queue n ≡ Some k → slice_get named k ≡ Some u → slice_get above n ≡ Some up → slice_get rows n ≡ Some (row_in (path_above rows up) u)

-- a directory was found before what is in it
before : (named : List Update) (queue : List ℕ) (n : ℕ) (up : Option ℕ) (parent : Uid) → StandsFor named queue n up parent → (j : ℕ) → up ≡ Some j → j < n
before named queue n None parent s j e = absurd (cc)
before named queue n (Some i) parent (k, d, low, at, is, dir, uid) j e = subst (λ x. x < n) (one_value i j e) low

get_last : (rows : List TreeRow) (row : TreeRow) (n : ℕ) → length rows ≡ n → slice_get (rows ++ row ∷ []) n ≡ Some row
get_last [] row zero e = refl
get_last [] row (suc n) e = absurd (omega arith)
get_last (x ∷ rows) row zero e = absurd (omega arith)
get_last (x ∷ rows) row (suc n) e = get_last rows row n (omega arith)

pub no_rows : (named : List Update) (queue : List ℕ) (above : List (Option ℕ)) → AreRowsSoFar named queue above 0 []
no_rows named queue above = record { long = refl; each = λ n k u up l. absurd (omega arith) }

pub next_row : (named : List Update) (queue : List ℕ) (above : List (Option ℕ)) (next : ℕ) (rows : List TreeRow) (k : ℕ) (u : Update) (up : Option ℕ) → AreHung named queue above
    → AreRowsSoFar named queue above next rows → slice_get queue next ≡ Some k → slice_get named k ≡ Some u → slice_get above next ≡ Some up
    → AreRowsSoFar named queue above (next + 1) (rows ++ row_in (path_above rows up) u ∷ [])
next_row named queue above next rows k u up hung so at is there = record {
  long = let n = length-append rows (row_in (path_above rows up) u ∷ []) in omega (arith, so.long);
  each = λ n j v up' l at' is' there'. elim (upto n next l) [
    | inl old ↦
        get_append rows (row_in (path_above rows up) u ∷ []) n (row_in (path_above rows up') v) (so.each n j v up' old at' is' there')
        ∙ ap (λ p. Some (row_in p v)) (sym (path_stays rows (row_in (path_above rows up) u ∷ []) up' (λ i e.
        let low = before named queue n up' v.parent (hung.each n j v up' at' is' there') i e in omega (arith, so.long))))
    | inr same ↦ this n j v up' same at' is' there'
  ];
}
  where
    this : (n j : ℕ) (v : Update) (up' : Option ℕ) → n ≡ next → slice_get queue n ≡ Some j → slice_get named j ≡ Some v → slice_get above n ≡ Some up'
        → slice_get (rows ++ row_in (path_above rows up) u ∷ []) n ≡ Some (row_in (path_above (rows ++ row_in (path_above rows up) u ∷ []) up') v)
    this n j v up' same at' is' there' =
        let place : k ≡ j = one_value k j (sym at ∙ ap (slice_get queue) (sym same) ∙ at') in
        let one : u ≡ v = one_value u v (sym is ∙ ap (slice_get named) place ∙ is') in
        let in_one : up ≡ up' = one_value up up' (sym there ∙ ap (slice_get above) (sym same) ∙ there') in
        get_last rows (row_in (path_above rows up) u) n (so.long ∙ sym same)
        ∙ (λ i. Some (row_in (path_above rows (in_one i)) (one i)))
        ∙ ap (λ p. Some (row_in p v)) (sym (path_stays rows (row_in (path_above rows up) u ∷ []) up' (λ i e.
        let low = before named queue n up' v.parent (hung.each n j v up' at' is' there') i e in omega (arith, so.long))))

pub all_rows : (named : List Update) (queue : List ℕ) (above : List (Option ℕ)) (next : ℕ) (rows : List TreeRow) → AreRowsSoFar named queue above next rows → next ≡ length queue
    → AreRowsOf named queue above rows
all_rows named queue above next rows so end = record {
  long = so.long ∙ end;
  each = λ n k u up at. so.each n k u up (let w = slice_get_within queue n k at in omega arith) at;
}

-- ---- the whole tree

-- one is at this place of the queue
record IsFoundAt (named : List Update) (queue : List ℕ) (above : List (Option ℕ)) (n : ℕ) : Type 0 where
  place : ℕ
  update : Update
  up : Option ℕ
  at : slice_get queue n ≡ Some place
  is : slice_get named place ≡ Some update
  there : slice_get above n ≡ Some up

apart_once : (ks : List ℕ) → AreApart ks → (i j k : ℕ) → slice_get ks i ≡ Some k → slice_get ks j ≡ Some k → i ≡ j
apart_once [] apart i j k p q = absurd (cc)
apart_once (x ∷ ks) apart zero zero k p q = refl
apart_once (x ∷ ks) apart zero (suc j) k p q = absurd (apart.0 (subst (λ y. In y ks) (sym (one_value x k p)) (got_in ks j k q)))
apart_once (x ∷ ks) apart (suc i) zero k p q = absurd (apart.0 (subst (λ y. In y ks) (sym (one_value x k q)) (got_in ks i k p)))
apart_once (x ∷ ks) apart (suc i) (suc j) k p q = ap suc (apart_once ks apart.1 i j k p q)

-- rows that have other paths at other places
others : (rows : List TreeRow) → ((n m : ℕ) (x y : TreeRow) → slice_get rows n ≡ Some x → slice_get rows m ≡ Some y → x.path ≡ y.path → n ≡ m) → HaveOtherKeys (λ r. r.path) depth_cmp depth_total rows
others [] one = tt
others (x ∷ xs) one = (
  λ y h e.
      let (m, at) = in_got xs y h in
      let bad : 0 ≡ suc m = one 0 (suc m) x y refl at (depth_same x.path y.path e) in
      omega arith,
  others xs (λ n m a b p q e. let s : suc n ≡ suc m = one (suc n) (suc m) a b p q e in omega arith),
)

module _ (records named : List Update) (flags : List Bool) (queue : List ℕ) (above : List (Option ℕ)) (rows : List TreeRow)
    (distinct : AreDistinct records) (names : AreNamed records named) (d : Descends named flags queue above) (made : AreRowsOf named queue above rows) where
  found_at : (n : ℕ) → n < length queue → IsFoundAt named queue above n
  found_at n l =
      let (k, at) = some_at queue n l in
      let (u, is) = some_at named k (d.flagged.within k (got_in queue n k at)) in
      let (up, there) = some_at above n (omega (arith, d.hung.long)) in
      record { place = k; update = u; up = up; at = at; is = is; there = there }

  shown_at : (n : ℕ) (f : IsFoundAt named queue above n) → IsShown (Among records) f.update
  shown_at n f = d.shown records names.each f.place f.update (got_in queue n f.place f.at) f.is

  -- the path of the row at a place
  path_at : (n : ℕ) (f : IsFoundAt named queue above n) → path_above rows (Some n) ≡ path_above rows f.up ++ f.update.name ∷ []
  path_at n f = ap path_of (made.each n f.place f.update f.up f.at f.is f.there)

  under : (b n : ℕ) (f : IsFoundAt named queue above n) → n < b → IsUnder (Among records) root_uid (path_above rows f.up ++ f.update.name ∷ []) f.update
  under zero n f l = absurd (omega arith)
  under (suc b) n f l = by (λ j g low. under b j g (omega arith)) f.up (d.hung.each n f.place f.update f.up f.at f.is f.there)
    where
      by : ((j : ℕ) (g : IsFoundAt named queue above j) → j < n → IsUnder (Among records) root_uid (path_above rows g.up ++ g.update.name ∷ []) g.update)
          → (up : Option ℕ) → StandsFor named queue n up f.update.parent → IsUnder (Among records) root_uid (path_above rows up ++ f.update.name ∷ []) f.update
      by higher None root = (shown_at n f, root, refl)
      by higher (Some j) (k, e, low, at, is, dir, uid) =
          let (up, there) = some_at above j (let w = slice_get_within queue j k at in omega (arith, d.hung.long)) in
          let g : IsFoundAt named queue above j = record { place = k; update = e; up = up; at = at; is = is; there = there } in
          let top = higher j g low in
          deeper (Among records) (path_above rows (Some j)) root_uid e f.update
          (subst (λ p. IsUnder (Among records) root_uid p e) (sym (path_at j g)) top)
          dir (shown_at n f) (sym uid)

  is_row : (row : TreeRow) → In row rows → IsRow (Among records) row.path row.kind row.hash
  is_row row h =
      let (n, at) = in_got rows row h in
      let f = found_at n (let w = slice_get_within rows n row at in omega (arith, made.long)) in
      let same : row_in (path_above rows f.up) f.update ≡ row = one_value _ row (sym (made.each n f.place f.update f.up f.at f.is f.there) ∙ at) in
      subst (λ (r : TreeRow). IsRow (Among records) r.path r.kind r.hash) same (f.update, under (suc n) n f (omega arith), refl, refl)

  other_paths : HaveOtherKeys (λ r. r.path) depth_cmp depth_total rows
  other_paths = others rows (λ n m x y p q e.
      let f = found_at n (let w = slice_get_within rows n x p in omega (arith, made.long)) in
      let g = found_at m (let w = slice_get_within rows m y q in omega (arith, made.long)) in
      let a : x.path ≡ path_above rows f.up ++ f.update.name ∷ [] = ap path_of (sym p) ∙ path_at n f in
      let b : y.path ≡ path_above rows g.up ++ g.update.name ∷ [] = ap path_of (sym q) ∙ path_at m g in
      let one : f.update ≡ g.update = one_under records distinct (path_above rows f.up ++ f.update.name ∷ []) root_uid f.update g.update
      (under (suc n) n f (omega arith))
      (subst (λ l. IsUnder (Among records) root_uid l g.update) (sym b ∙ sym e ∙ a) (under (suc m) m g (omega arith))) in
      let place : f.place ≡ g.place = once_placed named names.ordered f.place g.place f.update f.is (g.is ∙ ap Some (sym one)) in
      apart_once queue d.flagged.apart n m f.place f.at (g.at ∙ ap Some (sym place)))

  -- the root with no path, or a directory that was found with the path of its row
  abbrev HasPath : Uid → List (List ℕ) → Type 0
  HasPath parent path =
      ((parent ≡ root_uid) × (path ≡ []))
      ⊎ ((n : ℕ) × (f : IsFoundAt named queue above n) × (f.update.uid ≡ parent) × (path_above rows (Some n) ≡ path))

  -- a place in the queue of the row of an update in a directory
  abbrev IsRowIn : List (List ℕ) → Update → ℕ → Type 0
  IsRowIn path u n = (f : IsFoundAt named queue above n) × (f.update ≡ u) × (path_above rows f.up ≡ path)

  in_records : (n : ℕ) (f : IsFoundAt named queue above n) → In f.update records
  in_records n f = shown_record (Among records) f.update (shown_at n f)

  child : HaveNoRoot records → (parent : Uid) (path : List (List ℕ)) → HasPath parent path → (u : Update) → IsShown (Among records) u → u.parent ≡ parent → (n : ℕ) × IsRowIn path u n
  child rootless parent path has u shown p =
      let (k, there, is) = finds records named flags queue above names d u shown in
      let (n, at) = in_got queue k there in
      let (up, hangs) = some_at above n (let w = slice_get_within queue n k at in omega (arith, d.hung.long)) in
      (n, (record { place = k; update = u; up = up; at = at; is = is; there = hangs }, refl, by n up (d.hung.each n k u up at is hangs) has))
    where
      by : (n : ℕ) (up : Option ℕ) → StandsFor named queue n up u.parent → HasPath parent path → path_above rows up ≡ path
      by n None root (inl (r, e)) = sym e
      by n None root (inr (m, f, uid, e)) = absurd (rootless f.update (in_records m f) (uid ∙ sym p ∙ root))
      by n (Some j) (k, x, low, at, is, dir, uid) (inl (r, e)) =
          absurd (rootless x (names.each x (got_in named k x is)).among (uid ∙ p ∙ r))
      by n (Some j) (k, x, low, at, is, dir, uid) (inr (m, f, uid', e)) =
          let place : k ≡ f.place = one_each records named distinct names k f.place x f.update is f.is (uid ∙ p ∙ sym uid') in
          let same : j ≡ m = apart_once queue d.flagged.apart j m k at (f.at ∙ ap Some (sym place)) in
          ap (λ i. path_above rows (Some i)) same ∙ e

  row_there : (path : List (List ℕ)) (u : Update) (n : ℕ) → IsRowIn path u n → In (row_in path u) rows
  row_there path u n (f, same, e) =
      subst (λ v. In (row_in path v) rows) same
      (subst (λ p. In (row_in p f.update) rows) e (got_in rows n _ (made.each n f.place f.update f.up f.at f.is f.there)))

  find_row : HaveNoRoot records → (path : List (List ℕ)) (parent : Uid) (front : List (List ℕ)) → HasPath parent front → (u : Update) → IsUnder (Among records) parent path u → In (row_at (front ++ path) u) rows
  find_row rootless [] parent front has u h = absurd h
  find_row rootless (name ∷ []) parent front has u (shown, p, e) =
      let (n, row) = child rootless parent front has u shown p in
      subst (λ x. In (row_at (front ++ x ∷ []) u) rows) e (row_there front u n row)
  find_row rootless (name ∷ next ∷ path) parent front has u (x, shown, p, e, dir, h) =
      let (n, (f, same, is)) = child rootless parent front has x shown p in
      let named_by : path_above rows (Some n) ≡ front ++ name ∷ [] = path_at n f ∙ (λ i. is i ++ (ap (λ (v : Update). v.name) same ∙ e) i ∷ []) in
      let deep = find_row rootless (next ∷ path) x.uid (front ++ name ∷ []) (inr (n, f, ap (λ (v : Update). v.uid) same, named_by)) u h in
      subst (λ l. In (row_at l u) rows) (append_assoc front (name ∷ []) (next ∷ path)) deep

  pub tree_rows : HaveNoRoot records → (sorted : List TreeRow) → IsPermutation rows sorted → AreByDepth sorted → AreTreeRows records sorted
  tree_rows rootless sorted moved up = record {
    ordered = deepening sorted up (moved_once (λ r. r.path) depth_cmp depth_total rows sorted other_paths moved);
    each = λ row h. is_row row (contains_in rows row (Contains-permutation sorted rows row (IsPermutation-sym rows sorted moved) (in_contains sorted row h)));
    whole = λ path kind sum (u, h, k, s).
        let there = find_row rootless path root_uid [] (inl (refl, refl)) u h in
        contains_in sorted _ (Contains-permutation rows sorted _ moved (in_contains rows _ (subst (λ (r : TreeRow). In r rows) (λ i. record { path = path; kind = sym k i; hash = sym s i }) there)));
  }

-- Rows in order of their paths.
use Rattle.std.proofs.Common.{◌≡◌, ◌≤◌, ◌+◌, ◌⊎◌, ℕ, suc, inl, inr, Bool, true, false, cond, List, [], ◌∷◌, get_or, Less, Equal, Greater, Ordering, is_eq, is_lt, refl, sym, ap, ◌∙◌, subst, arith}
use Rattle.std.proofs.lemmas.Cmp.{tied_itself}
use Rattle.std.proofs.lemmas.List.Sorted.{Contains-permutation, IsPermutation-sym, ranks_by, sorted_far, sum_by-IsPermutation}
use Rattle.std.proofs.lemmas.List.Sums.{sum_by-cons}
use Rattle.std.specs.Cmp.{IsStrictWeakOrder}
use Rattle.std.specs.List.{AllByRecursion, sum_by}
use Rattle.std.specs.List.Sorted.{IsPermutation, IsSortedBy}
use Rattle.frs_base.specs.Options.{In}
use Rattle.name_rules.specs.Tree.{StandsAt}
use Rattle.vol_state.specs.declared.object.Object.{Object}
use Rattle.vol_state.specs.Maps.{Maps, Stands}
use Rattle.vol_state.specs.State.{State}
use Rattle.vol_state.specs.Valid.{IsVolume}
use Rattle.script_engine.specs.Laws.{TreesAreOne, VolumesHaveTrees}
use Rattle.script_engine.specs.Rows.{path_cmp, rows_of}
use Rattle.script_engine.specs.Trees.{IsByPath, IsTreeOf, Row, path_lt}
use Rattle.script_engine.proofs.Members.{all_in, contains_in, in_all, in_at, in_contains}
use Rattle.script_engine.proofs.Ordered.{path_apart, path_below, path_lt_is, path_trans, paths_same, paths_total}
use Rattle.script_engine.proofs.Reached.{AreApart, Finds, row_stands, rows_apart, stands_row}

-- ---- one tree

above : (r x : Row) (rs : List Row) → AllByRecursion (λ o. path_lt r.path o.path ≡ true) rs → In x rs → path_lt r.path x.path ≡ true
above r x rs all h = in_all (λ o. path_lt r.path o.path ≡ true) rs x all h

path_other : (a b : Row) → path_lt a.path b.path ≡ true → a ≡ b → ⊥
path_other a b p e = path_apart a.path b.path p (ap (λ r. r.path) e)

-- rows in order that have the same members are one list
one_order : (a b : List Row) → IsByPath a → IsByPath b → ((r : Row) → In r a → In r b) → ((r : Row) → In r b → In r a) → a ≡ b
one_order [] [] up up' to back = refl
one_order [] (y ∷ ys) up up' to back = absurd (back y (inl refl))
one_order (x ∷ xs) [] up up' to back = absurd (to x (inl refl))
one_order (x ∷ xs) (y ∷ ys) up up' to back =
    let same : x ≡ y = first (to x (inl refl)) (back y (inl refl)) in
    let rest : xs ≡ ys = one_order xs ys up.1 up'.1 (λ r h. tail r h (to r (inr h))) (λ r h. tail' r h (back r (inr h))) in
    λ i. same i ∷ rest i
  where
    first : In x (y ∷ ys) → In y (x ∷ xs) → x ≡ y
    first (inl e) h = e
    first (inr h) (inl e) = sym e
    first (inr h) (inr h') = absurd (path_other x x (path_trans x.path y.path x.path (above x y xs up.0 h') (above y x ys up'.0 h)) refl)

    same_head : x ≡ y
    same_head = first (to x (inl refl)) (back y (inl refl))

    tail : (r : Row) → In r xs → In r (y ∷ ys) → In r ys
    tail r h (inl e) = absurd (path_other x r (above x r xs up.0 h) (same_head ∙ sym e))
    tail r h (inr k) = k

    tail' : (r : Row) → In r ys → In r (x ∷ xs) → In r xs
    tail' r h (inl e) = absurd (path_other y r (above y r ys up'.0 h) (sym same_head ∙ sym e))
    tail' r h (inr k) = k

pub one_tree : TreesAreOne
one_tree m a b s t = one_order a b s.ordered t.ordered (λ r h. t.whole r.path r.object (s.each r h)) (λ r h. s.whole r.path r.object (t.each r h))

-- ---- a list in order

-- a row takes its place in the order
insert_row : Row → List Row → List Row
insert_row x [] = x ∷ []
insert_row x (y ∷ ys) = cond (path_lt x.path y.path) (x ∷ y ∷ ys) (y ∷ insert_row x ys)

in_insert : (x r : Row) (ys : List Row) → In r (insert_row x ys) → (r ≡ x) ⊎ In r ys
unfolding insert_row
in_insert x r [] (inl e) = inl e
in_insert x r [] (inr h) = absurd h
in_insert x r (y ∷ ys) h = by (path_lt x.path y.path) h (in_insert x r ys)
  where
    by : (b : Bool) → In r (cond b (x ∷ y ∷ ys) (y ∷ insert_row x ys)) → (In r (insert_row x ys) → (r ≡ x) ⊎ In r ys) → (r ≡ x) ⊎ In r (y ∷ ys)
    by true (inl e) more = inl e
    by true (inr h) more = inr h
    by false (inl e) more = inr (inl e)
    by false (inr h) more = elim (more h) [ inl e ↦ inl e | inr k ↦ inr (inr k) ]

insert_in : (x : Row) (ys : List Row) → In x (insert_row x ys)
unfolding insert_row
insert_in x [] = inl refl
insert_in x (y ∷ ys) = by (path_lt x.path y.path) (insert_in x ys)
  where
    by : (b : Bool) → In x (insert_row x ys) → In x (cond b (x ∷ y ∷ ys) (y ∷ insert_row x ys))
    by true more = inl refl
    by false more = inr more

insert_keeps : (x r : Row) (ys : List Row) → In r ys → In r (insert_row x ys)
unfolding insert_row
insert_keeps x r [] h = absurd h
insert_keeps x r (y ∷ ys) h = by (path_lt x.path y.path) h (insert_keeps x r ys)
  where
    by : (b : Bool) → In r (y ∷ ys) → (In r ys → In r (insert_row x ys)) → In r (cond b (x ∷ y ∷ ys) (y ∷ insert_row x ys))
    by true h more = inr h
    by false (inl e) more = inl e
    by false (inr h) more = inr (more h)

insert_ordered : (x : Row) (ys : List Row) → IsByPath ys → ((r : Row) → In r ys → x.path ≡ r.path → ⊥) → IsByPath (insert_row x ys)
unfolding insert_row
insert_ordered x [] up other = (tt, tt)
insert_ordered x (y ∷ ys) up other = by (path_lt x.path y.path) refl (insert_ordered x ys up.1 (λ r h. other r (inr h)))
  where
    by : (b : Bool) → path_lt x.path y.path ≡ b → IsByPath (insert_row x ys) → IsByPath (cond b (x ∷ y ∷ ys) (y ∷ insert_row x ys))
    by true e more = ((e, all_in (λ o. path_lt x.path o.path ≡ true) ys (λ r h. path_trans x.path y.path r.path e (above y r ys up.0 h))), up)
    by false e more =
        let below : path_lt y.path x.path ≡ true = path_below y.path x.path e (λ s. other y (inl refl) (sym s)) in (
          all_in (λ o. path_lt y.path o.path ≡ true) (insert_row x ys) (λ r h. elim (in_insert x r ys h) [
            | inl s ↦ subst (λ o. path_lt y.path o.path ≡ true) (sym s) below
            | inr k ↦ above y r ys up.0 k
          ]),
          more,
        )

-- rows of which no two have one path are in some order
record IsOrderOf (rows ordered : List Row) : Type 0 where
  up : IsByPath ordered
  to : (r : Row) → In r rows → In r ordered
  back : (r : Row) → In r ordered → In r rows

in_order : (rows : List Row) → AreApart rows → (ordered : List Row) × IsOrderOf rows ordered
in_order [] apart = ([], record { up = tt; to = λ r h. h; back = λ r h. h })
in_order (x ∷ xs) apart =
    let (ys, o) = in_order xs apart.1 in (
      insert_row x ys,
      record {
        up = insert_ordered x ys o.up (λ r h. apart.0 r (o.back r h));
        to = λ r h. elim h [ inl e ↦ subst (λ y. In y (insert_row x ys)) (sym e) (insert_in x ys) | inr k ↦ insert_keeps x r ys (o.to r k) ];
        back = λ r h. elim (in_insert x r ys h) [ inl e ↦ inl e | inr k ↦ inr (o.back r k) ];
      },
    )

-- a list in order with the members of the rows is the tree
tree_by : (objects : List Object) (m : Maps) → Finds objects m → (rows : List Row) → IsOrderOf (rows_of objects) rows → IsTreeOf m rows
tree_by objects m f rows o = record {
  ordered = o.up;
  each = λ r h. row_stands objects m f r (o.back r h);
  whole = λ path x s. o.to (record { path = path; object = x }) (stands_row objects m f path x s);
}

pub found_by : (v : State) (m : Maps) → IsVolume v → Stands v m → Finds v.objects m
found_by v m h s = record { tree = h.tree; finds = s.objects }

pub some_tree : VolumesHaveTrees
some_tree v m h s =
    let f = found_by v m h s in
    let (rows, o) = in_order (rows_of v.objects) (rows_apart v.objects m f) in
    (rows, tree_by v.objects m f rows o)

-- ---- after a sort

-- of two rows, which one a sort puts first
abbrev pub row_lt : Row → Row → Bool
row_lt a b = is_lt (path_cmp a.path b.path)

pub rows_rank : IsStrictWeakOrder row_lt
rows_rank = ranks_by paths_total (λ r. r.path)

-- 1 for a row with this path
abbrev pub has_path : List (List ℕ) → Row → ℕ
has_path path r = cond (is_eq (path_cmp path r.path)) 1 0

same_tied : (a b : List (List ℕ)) → is_eq (path_cmp a b) ≡ true → a ≡ b
same_tied a b e = paths_same a b (by (path_cmp a b) e)
  where
    by : (o : Ordering) → is_eq o ≡ true → o ≡ Equal
    by Less e = absurd (cc)
    by Equal e = refl
    by Greater e = absurd (cc)

tied_same : (a b : List (List ℕ)) → a ≡ b → is_eq (path_cmp a b) ≡ true
tied_same a b e = ap is_eq (ap (path_cmp a) (sym e) ∙ tied_itself paths_total a)

-- no row has the path
none_has : (path : List (List ℕ)) (rows : List Row) → ((r : Row) → In r rows → path ≡ r.path → ⊥) → sum_by (has_path path) rows ≡ 0
none_has path [] none = refl
none_has path (x ∷ xs) none = by (is_eq (path_cmp path x.path)) refl (none_has path xs (λ r h. none r (inr h)))
  where
    by : (b : Bool) → is_eq (path_cmp path x.path) ≡ b → sum_by (has_path path) xs ≡ 0 → sum_by (has_path path) (x ∷ xs) ≡ 0
    by true e more = absurd (none x (inl refl) (same_tied path x.path e))
    by false e more = let k : has_path path x ≡ 0 = ap (λ t. cond t 1 0) e in let s = sum_by-cons (has_path path) x xs in omega arith

-- a row that is there counts
one_has : (path : List (List ℕ)) (rows : List Row) (r : Row) → In r rows → path ≡ r.path → 1 ≤ sum_by (has_path path) rows
one_has path [] r h e = absurd h
one_has path (x ∷ xs) r (inl s) e =
    let k : has_path path x ≡ 1 = ap (λ t. cond t 1 0) (tied_same path x.path (e ∙ ap (λ y. y.path) s)) in
    let c = sum_by-cons (has_path path) x xs in
    omega arith
one_has path (x ∷ xs) r (inr h) e = let more = one_has path xs r h e in let c = sum_by-cons (has_path path) x xs in omega arith

-- of rows apart at most one has a path
once : (path : List (List ℕ)) (rows : List Row) → AreApart rows → sum_by (has_path path) rows ≤ 1
once path [] apart = omega arith
once path (x ∷ xs) apart = by (is_eq (path_cmp path x.path)) refl (once path xs apart.1)
  where
    by : (b : Bool) → is_eq (path_cmp path x.path) ≡ b → sum_by (has_path path) xs ≤ 1 → sum_by (has_path path) (x ∷ xs) ≤ 1
    by true e more =
        let k : has_path path x ≡ 1 = ap (λ t. cond t 1 0) e in
        let c = sum_by-cons (has_path path) x xs in
        let n = none_has path xs (λ r h s. apart.0 r h (sym (same_tied path x.path e) ∙ s)) in
        omega arith
    by false e more =
        let k : has_path path x ≡ 0 = ap (λ t. cond t 1 0) e in
        let c = sum_by-cons (has_path path) x xs in
        omega arith

-- sorted rows of which each path is one's are in order
sorted_up : (rows : List Row) → IsSortedBy row_lt rows → ((path : List (List ℕ)) → sum_by (has_path path) rows ≤ 1) → IsByPath rows
sorted_up [] up each = tt
sorted_up (x ∷ xs) up each = (all_in (λ o. path_lt x.path o.path ≡ true) xs below, sorted_up xs tail fewer)
  where
    tail : IsSortedBy row_lt xs
    tail k d low l =
        let next : suc k + 1 ≡ suc (k + 1) = omega arith in
        subst (λ n. row_lt (get_or (x ∷ xs) n d) (get_or xs k d) ≡ false) next (up (suc k) d (omega arith) (omega arith))

    fewer : (path : List (List ℕ)) → sum_by (has_path path) xs ≤ 1
    fewer path = let e = each path in let c = sum_by-cons (has_path path) x xs in omega arith

    below : (r : Row) → In r xs → path_lt x.path r.path ≡ true
    below r h =
        let (k, l, e) = in_at xs r x h in
        let far : row_lt (get_or (x ∷ xs) (suc k) x) x ≡ false = sorted_far row_lt rows_rank (x ∷ xs) up 0 (suc k) x (omega arith) (omega arith) in
        let lt : path_lt r.path x.path ≡ false = path_lt_is r.path x.path ∙ ap (λ y. row_lt y x) (sym e) ∙ far in
        path_below x.path r.path lt (λ s.
        let mine : has_path x.path x ≡ 1 = ap (λ t. cond t 1 0) (tied_same x.path x.path refl) in
        let other = one_has x.path xs r h s in
        let two = each x.path in
        let c = sum_by-cons (has_path x.path) x xs in
        omega arith)

pub sorted_tree : (objects : List Object) (m : Maps) → Finds objects m → (rows : List Row) → IsPermutation (rows_of objects) rows → IsSortedBy row_lt rows → IsTreeOf m rows
sorted_tree objects m f rows p up = tree_by objects m f rows (record {
  up = sorted_up rows up (λ path. subst (λ n. n ≤ 1) (sym (sum_by-IsPermutation (has_path path) (rows_of objects) rows p)) (once path (rows_of objects) (rows_apart objects m f)));
  to = λ r h. contains_in rows r (Contains-permutation (rows_of objects) rows r p (in_contains (rows_of objects) r h));
  back = λ r h. contains_in (rows_of objects) r (Contains-permutation rows (rows_of objects) r (IsPermutation-sym (rows_of objects) rows p) (in_contains rows r h));
})

-- ---- other maps

standing : (m n : Maps) → ((fid : ℕ) → m.at fid ≡ n.at fid) → (path : List (List ℕ)) (start : ℕ) (o : Object) → StandsAt m start path o → StandsAt n start path o
standing m n same [] start o s = absurd s
standing m n same (x ∷ []) start o (fid, at, place) = (fid, sym (same fid) ∙ at, place)
standing m n same (x ∷ y ∷ rest) start o (fid, d, at, place, more) = (fid, d, sym (same fid) ∙ at, place, standing m n same (y ∷ rest) fid o more)

-- maps that find the same objects have the same tree
pub tree_of_same : (m n : Maps) → ((fid : ℕ) → m.at fid ≡ n.at fid) → (rows : List Row) → IsTreeOf m rows → IsTreeOf n rows
tree_of_same m n same rows t = record {
  ordered = t.ordered;
  each = λ r h. standing m n same r.path 0 r.object (t.each r h);
  whole = λ path o s. t.whole path o (standing n m (λ fid. sym (same fid)) path 0 o s);
}

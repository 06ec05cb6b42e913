-- The rows of objects are what stands in the tree.
use Rattle.std.proofs.Common.{◌≡◌, ◌≢◌, ◌<◌, ◌&&◌, ◌⊎◌, ℕ, zero, suc, inl, inr, Bool, true, false, eqb, List, [], ◌∷◌, ◌++◌, length, map, Option, Some, None, refl, sym, ap, ◌∙◌, subst, append_assoc, append-nil, arith}
use Rattle.std.proofs.lemmas.Bool.Decides.{nat_tests}
use Rattle.std.proofs.lemmas.List.{reverse-append, reverse-reverse}
use Rattle.std.proofs.lemmas.Slice.Eq.{bytes_eq-Decides}
use Rattle.std.specs.Prelude.{option_map, reverse}
use Rattle.std.specs.List.{cons_option, filter_map}
use Rattle.frs_base.specs.Names.{fold_unit, matches}
use Rattle.frs_base.specs.Options.{In, some_is}
use Rattle.name_rules.specs.Tree.{StandsAt}
use Rattle.vol_state.specs.declared.object.Object.{Object}
use Rattle.vol_state.specs.Maps.{Maps}
use Rattle.vol_state.specs.Places.{is_child, object_at}
use Rattle.vol_state.specs.Tables.{IsAt}
use Rattle.vol_state.specs.Tree.{AreRising, IsTree}
use Rattle.script_engine.specs.Rows.{names_up, row_of, rows_of}
use Rattle.script_engine.specs.Trees.{Row}
use Rattle.script_engine.proofs.Members.{in_made, made_in}
use Rattle.script_engine.proofs.Climbing.{Up, at_number, enough, rises, steps_up, there, up_by}

-- the maps find the objects of the list
pub record Finds (objects : List Object) (m : Maps) : Type 0 where
  pub tree : IsTree objects
  pub finds : (fid : ℕ) → m.at fid ≡ object_at objects fid

number : (objects : List Object) (m : Maps) → Finds objects m → (fid : ℕ) (o : Object) → IsAt m fid o → (o.fid ≡ fid) × (0 < fid) × In o objects
number objects m f fid o at = there 0 fid o objects f.tree.rising (sym (f.finds fid) ∙ at)

-- ---- downwards

-- one name more
one_more : (objects : List Object) (m : Maps) → Finds objects m → (start : ℕ) (above : List (List ℕ)) (d o : Object) (parent fid : ℕ) (name : List ℕ)
    → StandsAt m start above d → IsAt m parent d → IsAt m fid o → o.place ≡ Some (parent, name) → StandsAt m start (above ++ name ∷ []) o
one_more objects m f start [] d o parent fid name s up at is = absurd s
one_more objects m f start (x ∷ []) d o parent fid name (g, here, place) up at is =
    let same : parent ≡ g = sym (number objects m f parent d up).0 ∙ (number objects m f g d here).0 in
    (g, d, here, place, (fid, at, is ∙ ap (λ n. Some (n, name)) same))
one_more objects m f start (x ∷ y ∷ rest) d o parent fid name (g, e, here, place, more) up at is =
    (g, e, here, place, one_more objects m f g (y ∷ rest) d o parent fid name more up at is)

-- the names up, the last first, are a path
pub stands_down : (objects : List Object) (m : Maps) → Finds objects m → (n : ℕ) (o : Object) (fid : ℕ) (place : Option (ℕ × List ℕ)) (names : List (List ℕ)) → o.place ≡ place → IsAt m fid o
    → names_up objects n place ≡ Some names → StandsAt m 0 (reverse names) o
stands_down objects m f zero o fid place names is at e = absurd (cc)
stands_down objects m f (suc n) o fid None names is at e = absurd (cc)
stands_down objects m f (suc n) o fid (Some p) names is at e = by (steps_up objects n p names e) (stands_down objects m f n)
  where
    by : Up objects n p names → ((d : Object) (g : ℕ) (place : Option (ℕ × List ℕ)) (names : List (List ℕ)) → d.place ≡ place → IsAt m g d → names_up objects n place ≡ Some names → StandsAt m 0 (reverse names) d)
        → StandsAt m 0 (reverse names) o
    by (inl (root, one)) more =
        subst (λ l. StandsAt m 0 (reverse l) o) (sym one) (fid, at, is ∙ ap (λ k. Some (k, p.1)) root)
    by (inr (d, rest, far, found, up, one)) more =
        let here : IsAt m p.0 d = f.finds p.0 ∙ found in
        subst (λ l. StandsAt m 0 l o) (sym (reverse-append (p.1 ∷ []) rest) ∙ ap reverse (sym one))
        (one_more objects m f 0 (reverse rest) d o p.0 fid p.1 (more d p.0 d.place rest refl here up) here at is)

-- ---- upwards

-- from the root, or from an object from which these names lead up
abbrev pub IsStart : List Object → ℕ → ℕ → List (List ℕ) → Type 0
IsStart objects start n up = ((start ≡ 0) × (up ≡ [])) ⊎ ((d : Object) × (start ≢ 0) × (object_at objects start ≡ Some d) × (names_up objects n d.place ≡ Some up))

step_from : (objects : List Object) (start n : ℕ) (up : List (List ℕ)) (name : List ℕ) → IsStart objects start n up → names_up objects (suc n) (Some (start, name)) ≡ Some (name ∷ up)
step_from objects start n up name (inl (root, none)) = up_by objects n (start, name) (name ∷ up) (inl (root, ap (λ l. name ∷ l) none))
step_from objects start n up name (inr (d, far, found, leads)) = up_by objects n (start, name) (name ∷ up) (inr (d, up, far, found, leads, refl))

climbs : (objects : List Object) (m : Maps) → Finds objects m → (path : List (List ℕ)) (start n : ℕ) (up : List (List ℕ)) (o : Object) → IsStart objects start n up → StandsAt m start path o
    → (k : ℕ) × (names_up objects k o.place ≡ Some (reverse path ++ up)) × In o objects
climbs objects m f [] start n up o s h = absurd h
climbs objects m f (x ∷ []) start n up o s (fid, at, place) =
    (suc n, ap (names_up objects (suc n)) place ∙ step_from objects start n up x s, (number objects m f fid o at).2)
climbs objects m f (x ∷ y ∷ rest) start n up o s (fid, d, at, place, more) =
    let (is, above, h) = number objects m f fid d at in
    let far : fid ≢ 0 = λ e. omega arith in
    let (k, e, j) = climbs objects m f (y ∷ rest) fid (suc n) (x ∷ up) o
    (inr (d, far, sym (f.finds fid) ∙ at, ap (names_up objects (suc n)) place ∙ step_from objects start n up x s)) more in
    (k, e ∙ ap Some (sym (append_assoc (reverse (y ∷ rest)) (x ∷ []) up) ∙ ap (λ l. l ++ up) (sym (reverse-append (x ∷ []) (y ∷ rest)))), j)

-- ---- rows

pub row_stands : (objects : List Object) (m : Maps) → Finds objects m → (row : Row) → In row (rows_of objects) → StandsAt m 0 row.path row.object
row_stands objects m f row h =
    let (o, k, e) = in_made (row_of objects) objects row h in
    by o (names_up objects (length objects) o.place) refl k e
  where
    by : (o : Object) (up : Option (List (List ℕ))) → names_up objects (length objects) o.place ≡ up → In o objects
        → option_map (λ names. record { path = reverse names; object = o }) up ≡ Some row → StandsAt m 0 row.path row.object
    by o None u k e = absurd (none_some e)
      where
        none_some : None ≡ Some row → ⊥
        none_some e = cc
    by o (Some names) u k e =
        subst (λ r. StandsAt m 0 r.path r.object) (some_is e)
        (stands_down objects m f (length objects) o o.fid o.place names refl (f.finds o.fid ∙ at_number 0 o objects f.tree.rising k) u)
      where
        made : Row
        made = record { path = reverse names; object = o }

        some_is : Some made ≡ Some row → made ≡ row
        some_is e = cc

pub stands_row : (objects : List Object) (m : Maps) → Finds objects m → (path : List (List ℕ)) (o : Object) → StandsAt m 0 path o → In (record { path = path; object = o }) (rows_of objects)
stands_row objects m f path o s =
    let (k, e, h) = climbs objects m f path 0 0 [] o (inl (refl, refl)) s in
    let up : names_up objects (length objects) o.place ≡ Some (reverse path ++ []) = enough objects f.tree.rising k o h (reverse path ++ []) e in
    made_in (row_of objects) objects o (record { path = path; object = o }) h
    (ap (option_map (λ names. record { path = reverse names; object = o })) up ∙ ap (λ l. Some (record { path = l; object = o })) (ap reverse (append-nil (reverse path)) ∙ reverse-reverse path))

-- ---- one object at a path

named : (start : ℕ) (name : List ℕ) (o : Object) → o.place ≡ Some (start, name) → is_child start name o ≡ true
named start name o e = ap (some_is (λ p. eqb p.0 start && matches p.1 name)) e ∙ by (eqb start start) (matches name name) (grind (arith, nat_tests)) ((bytes_eq-Decides (map fold_unit name) (map fold_unit name)).1 refl)
  where
    by : (a b : Bool) → a ≡ true → b ≡ true → (a && b) ≡ true
    by true b p q = q
    by false b p q = absurd (cc)

pub one_object : (objects : List Object) (m : Maps) → Finds objects m → (path : List (List ℕ)) (start : ℕ) (a b : Object) → StandsAt m start path a → StandsAt m start path b → a ≡ b
one_object objects m f [] start a b s t = absurd s
one_object objects m f (x ∷ []) start a b (fid, at, place) (gid, at', place') =
    f.tree.apart a b start x (number objects m f fid a at).2 (number objects m f gid b at').2 (named start x a place) (named start x b place')
one_object objects m f (x ∷ y ∷ rest) start a b (fid, d, at, place, more) (gid, e, at', place', more') =
    let (is, up, h) = number objects m f fid d at in
    let (is', up', h') = number objects m f gid e at' in
    let same : d ≡ e = f.tree.apart d e start x h h' (named start x d place) (named start x e place') in
    let one : gid ≡ fid = sym is' ∙ ap (λ o. o.fid) (sym same) ∙ is in
    one_object objects m f (y ∷ rest) fid a b more (subst (λ g. StandsAt m g (y ∷ rest) b) one more')

-- ---- each path once

-- later rows have other paths
abbrev pub AreApart : List Row → Type 0
AreApart [] = Unit {0}
AreApart (row ∷ rows) = ((other : Row) → In other rows → row.path ≡ other.path → ⊥) × AreApart rows

object_in : (objects os : List Object) (row : Row) → In row (filter_map (row_of objects) os) → In row.object os
object_in objects os row h =
    let (o, k, e) = in_made (row_of objects) os row h in
    subst (λ x. In x os) (by o (names_up objects (length objects) o.place) e) k
  where
    by : (o : Object) (up : Option (List (List ℕ))) → option_map (λ names. record { path = reverse names; object = o }) up ≡ Some row → o ≡ row.object
    by o None e = absurd (none_some e)
      where
        none_some : None ≡ Some row → ⊥
        none_some e = cc
    by o (Some names) e = ap (λ r. r.object) (some_is e)
      where
        made : Row
        made = record { path = reverse names; object = o }

        some_is : Some made ≡ Some row → made ≡ row
        some_is e = cc

-- rows of rising objects, each of which stands where it says
apart_by : (objects : List Object) (m : Maps) → Finds objects m → (low : ℕ) (os : List Object) → AreRising low os → ((row : Row) → In row (filter_map (row_of objects) os) → StandsAt m 0 row.path row.object)
    → AreApart (filter_map (row_of objects) os)
apart_by objects m f low [] r each = tt
apart_by objects m f low (o ∷ os) r each = by (row_of objects o) refl each (λ e. apart_by objects m f o.fid os r.1 e)
  where
    by : (found : Option Row) → row_of objects o ≡ found → ((row : Row) → In row (cons_option found (filter_map (row_of objects) os)) → StandsAt m 0 row.path row.object)
        → (((row : Row) → In row (filter_map (row_of objects) os) → StandsAt m 0 row.path row.object) → AreApart (filter_map (row_of objects) os))
        → AreApart (cons_option found (filter_map (row_of objects) os))
    by None is each more = more each
    by (Some row) is each more = (other, more (λ x h. each x (inr h)))
      where
        mine : row.object ≡ o
        mine = elim (object_in objects (o ∷ []) row (subst (λ x. In row (cons_option x [])) (sym is) (inl refl))) [ inl e ↦ e | inr h ↦ absurd h ]

        other : (x : Row) → In x (filter_map (row_of objects) os) → row.path ≡ x.path → ⊥
        other x h e =
            let same : row.object ≡ x.object = one_object objects m f x.path 0 row.object x.object (subst (λ p. StandsAt m 0 p row.object) e (each row (inl refl))) (each x (inr h)) in
            let up : o.fid < x.object.fid = rises o.fid x.object os r.1 (object_in objects os x h) in
            let level : o.fid ≡ x.object.fid = ap (λ y. y.fid) (sym mine ∙ same) in
            omega arith

pub rows_apart : (objects : List Object) (m : Maps) → Finds objects m → AreApart (rows_of objects)
rows_apart objects m f = apart_by objects m f 0 objects f.tree.rising (row_stands objects m f)

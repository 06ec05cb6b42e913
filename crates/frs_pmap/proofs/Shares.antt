-- What is kept of shared rows, and what they are rows of.
use Rattle.std.proofs.Common.{◌≡◌, ◌∙◌, ℕ, List, [], ◌∷◌, ◌++◌, Some, refl, sym, ap, subst, suc, zero, length, set, map, Vec}
use Rattle.std.specs.Prelude.{slice_get}
use Rattle.std.proofs.lemmas.List.{length-map}
use Rattle.std.specs.List.{AllByRecursion}
use Rattle.std.specs.declared.alloc.Global.{Global}
use Rattle.std.specs.declared.sync.Arc.{Arc}
use Rattle.std.specs.declared.cmp.Ordering.{Ordering}
use Rattle.frs_pmap.specs.Entries.{IsRising, seen}
use Rattle.frs_pmap.specs.Nodes.{AreGroups, AreParts, GroupOf, IsGroup, IsPart, IsTable, PartOf, RootOf, entries_in, entries_under, group_rows, part_rows}
use Rattle.frs_pmap.specs.Trees.{AreHeaded, HasHead, IsTree, entries_of, flat}
use Rattle.frs_pmap.proofs.Changes.{GroupFits, PartFits}
use Rattle.frs_pmap.proofs.Parts.{at_one}

-- ---- one that changed nothing that is seen

map_set : {X Y : Type 0} (f : X → Y) (xs : List X) (i : ℕ) (x y : X) → slice_get xs i ≡ Some x → f y ≡ f x → map f (set xs i y) ≡ map f xs
map_set f [] i x y got e = absurd (cc)
map_set f (z ∷ xs) zero x y got e = let s : z ≡ x = cc in ap (λ w. w ∷ map f xs) (e ∙ sym (ap f s))
map_set f (z ∷ xs) (suc i) x y got e = ap (λ l. f z ∷ l) (map_set f xs i x y got e)

all_set : {X : Type 0} (Q : X → Type 0) (xs : List X) (i : ℕ) (y : X) → AllByRecursion Q xs → Q y → AllByRecursion Q (set xs i y)
all_set Q [] i y a q = tt
all_set Q (z ∷ xs) zero y a q = (q, a.1)
all_set Q (z ∷ xs) (suc i) y a q = (a.0, all_set Q xs i y a.1 q)

pub get_map : {X Y : Type 0} (f : X → Y) (xs : List X) (i : ℕ) (x : X) → slice_get xs i ≡ Some x → slice_get (map f xs) i ≡ Some (f x)
get_map f [] i x got = absurd (cc)
get_map f (z ∷ xs) zero x got = let s : z ≡ x = cc in ap (λ w. Some (f w)) s
get_map f (z ∷ xs) (suc i) x got = get_map f xs i x got

module _ {K V : Type 0} where
  pub part_same : (x y : K × PartOf K V) → y.0 ≡ x.0 → y.1.items ≡ x.1.items → ◌≡◌ {A = K × List (K × V)} (y.0, seen y.1.items.items) (x.0, seen x.1.items.items)
  part_same x y k e = ap (λ k. (k, seen y.1.items.items)) k ∙ ap (λ (v : Vec (K × Arc V Global) Global). (x.0, seen v.items)) e

  pub part_kept : (xs : List (K × PartOf K V)) (i : ℕ) (x y : K × PartOf K V) → slice_get xs i ≡ Some x → y.0 ≡ x.0 → y.1.items ≡ x.1.items → IsPart y.1 → AreParts xs
      → (part_rows (set xs i y) ≡ part_rows xs) × AreParts (set xs i y)
  part_kept xs i x y got k e p a =
      let h : PartFits x = at_one (PartFits {K = K} {V = V}) xs i x got a in
      let same = part_same x y k e in (
        map_set (λ (c : K × PartOf K V). (c.0, seen c.1.items.items)) xs i x y got same,
        all_set (PartFits {K = K} {V = V}) xs i y a (subst (λ (z : K × List (K × V)). HasHead z.0 z.1) (sym same) h.0, p),
      )

  rows_head : (k : K) (ps : List (K × PartOf K V)) → HasHead k (entries_in ps) → AreParts ps → HasHead k (part_rows ps)
  rows_head k [] h a = h
  rows_head k (p ∷ ps) h a = by (seen p.1.items.items) a.0.0 h
    where
      by : (l : List (K × V)) → HasHead p.0 l → HasHead k (l ++ entries_in ps) → p.0 ≡ k
      by [] q h = absurd q
      by (e ∷ l) q h = sym q ∙ h

  rows_flat : (ps : List (K × PartOf K V)) → flat (part_rows ps) ≡ entries_in ps
  rows_flat [] = refl
  rows_flat (p ∷ ps) = ap (λ l. seen p.1.items.items ++ l) (rows_flat ps)

  pub rows_entries : (gs : List (K × GroupOf K V)) → entries_of (group_rows gs) ≡ entries_under gs
  rows_entries [] = refl
  rows_entries (g ∷ gs) = ap (λ l. l ++ entries_of (group_rows gs)) (rows_flat g.1.items.items) ∙ ap (λ l. entries_in g.1.items.items ++ l) (rows_entries gs)

  pub entries_kept : (gs hs : List (K × GroupOf K V)) → group_rows hs ≡ group_rows gs → entries_under hs ≡ entries_under gs
  entries_kept gs hs e = sym (rows_entries hs) ∙ ap entries_of e ∙ rows_entries gs

  part_entries_kept : (ps qs : List (K × PartOf K V)) → part_rows qs ≡ part_rows ps → entries_in qs ≡ entries_in ps
  part_entries_kept ps qs e = sym (rows_flat qs) ∙ ap flat e ∙ rows_flat ps

  pub group_same : (x y : K × GroupOf K V) → y.0 ≡ x.0 → part_rows y.1.items.items ≡ part_rows x.1.items.items → ◌≡◌ {A = K × List (K × List (K × V))} (y.0, part_rows y.1.items.items) (x.0, part_rows x.1.items.items)
  group_same x y k e = ap (λ k. (k, part_rows y.1.items.items)) k ∙ ap (λ (l : List (K × List (K × V))). (x.0, l)) e

  pub group_kept : (xs : List (K × GroupOf K V)) (i : ℕ) (x y : K × GroupOf K V) → slice_get xs i ≡ Some x → y.0 ≡ x.0 → part_rows y.1.items.items ≡ part_rows x.1.items.items → IsGroup y.1 → AreGroups xs
      → (group_rows (set xs i y) ≡ group_rows xs) × AreGroups (set xs i y)
  group_kept xs i x y got k e p a =
      let h : GroupFits x = at_one (GroupFits {K = K} {V = V}) xs i x got a in
      let entries : entries_in y.1.items.items ≡ entries_in x.1.items.items = part_entries_kept x.1.items.items y.1.items.items e in
      let head : HasHead y.0 (entries_in y.1.items.items) = subst (λ (z : K). HasHead z (entries_in y.1.items.items)) (sym k) (subst (λ (l : List (K × V)). HasHead x.0 l) (sym entries) h.0) in (
        map_set (λ (c : K × GroupOf K V). (c.0, part_rows c.1.items.items)) xs i x y got (group_same x y k e),
        all_set (GroupFits {K = K} {V = V}) xs i y a (head, p),
      )

  rows_headed : (ps : List (K × PartOf K V)) → AreParts ps → AreHeaded (part_rows ps)
  rows_headed [] a = tt
  rows_headed (p ∷ ps) a = (a.0.0, rows_headed ps a.1)

  groups_headed : (gs : List (K × GroupOf K V)) → AreGroups gs → AreHeaded (group_rows gs)
  groups_headed [] a = tt
  groups_headed (g ∷ gs) a = (rows_head g.0 g.1.items.items a.0.0 a.0.1.parts, groups_headed gs a.1)

  groups_middles : (gs : List (K × GroupOf K V)) → AreGroups gs → AllByRecursion (λ c. AreHeaded c.1) (group_rows gs)
  groups_middles [] a = tt
  groups_middles (g ∷ gs) a = (rows_headed g.1.items.items a.0.1.parts, groups_middles gs a.1)

  pub rows_len : (gs hs : List (K × GroupOf K V)) → group_rows hs ≡ group_rows gs → length hs ≡ length gs
  rows_len gs hs e =
      let row : K × GroupOf K V → K × List (K × List (K × V)) = λ g. (g.0, part_rows g.1.items.items) in
      sym (length-map hs row) ∙ ap length e ∙ length-map gs row

  -- the rows of a table are those of a map
  pub rows_tree : {cmp : K → K → Ordering} (w : RootOf K V) → IsTable cmp w → IsTree cmp (group_rows w.items.items)
  rows_tree {cmp} w t = record {
    rising = subst (IsRising cmp) (sym (rows_entries w.items.items)) t.rising;
    headed = groups_headed w.items.items t.groups;
    middles = groups_middles w.items.items t.groups;
  }

-- Nodes of a table: what holds of them after a change.
use Rattle.std.proofs.Common.{◌≡◌, ◌∙◌, ◌+◌, ◌<◌, ℕ, List, [], ◌∷◌, ◌++◌, Option, None, refl, sym, ap, subst, suc, zero, length, take, drop, set, arith}
use Rattle.std.specs.List.{AllByRecursion}
use Rattle.std.proofs.lemmas.List.{map-append}
use Rattle.std.specs.declared.alloc.Global.{Global}
use Rattle.std.specs.declared.sync.Arc.{Arc}
use Rattle.frs_pmap.specs.Entries.{seen, seen_one}
use Rattle.frs_pmap.specs.Nodes.{AreGroups, AreParts, GroupOf, IsFresh, IsPart, PartOf, Remembers, entries_in, entries_under, held_by, part_rows}
use Rattle.frs_pmap.specs.Trees.{HasHead}
use Rattle.std.proofs.lemmas.Grind.{flat_map-append}
use Rattle.frs_pmap.proofs.Orders.{all_back, all_front}

-- ---- lists

-- one in the place of another, and others behind it
pub followed : {X : Type 0} (xs : List X) (at : ℕ) (x : X) (l : List X) → at < length xs → take (at + 1) (set xs at x) ++ (l ++ drop (at + 1) (set xs at x)) ≡ take at xs ++ ((x ∷ l) ++ drop (at + 1) xs)
followed [] at x l within = absurd (omega arith)
followed (y ∷ xs) zero x l within = refl
followed (y ∷ xs) (suc at) x l within =
    let n : suc at + 1 ≡ suc (at + 1) = omega arith in
    ap (λ m. take m (y ∷ set xs at x) ++ (l ++ drop m (y ∷ set xs at x))) n ∙ ap (λ t. y ∷ t) (followed xs at x l (omega arith)) ∙ ap (λ m. y ∷ (take at xs ++ (x ∷ (l ++ drop m xs)))) refl ∙ sym (ap (λ m. y ∷ (take at xs ++ (x ∷ (l ++ drop m (y ∷ xs))))) n)

-- ---- parts

pub head_seen : {K V : Type 0} (k : K) (es : List (K × Arc V Global)) → HasHead k es → HasHead k (seen es)
head_seen k [] h = h
head_seen k (e ∷ es) h = h

pub forgets : {X : Type 0} (shared : Option (Arc X Global)) (x : X) → shared ≡ None → Remembers shared x
forgets {X} shared x e = subst (λ (s : Option (Arc X Global)). Remembers s x) (sym e) tt

-- parts that were changed
pub fresh_parts : {K V : Type 0} (cs : List (K × PartOf K V)) → AllByRecursion IsFresh cs → AreParts cs
fresh_parts [] a = tt
fresh_parts (c ∷ cs) a = ((head_seen c.0 c.1.items.items a.0.head, record { room = a.0.room; remembered = forgets c.1.shared (seen c.1.items.items) a.0.forgot }), fresh_parts cs a.1)

pub entries_held : {K V : Type 0} (cs : List (K × PartOf K V)) → entries_in cs ≡ seen (held_by cs)
entries_held [] = refl
entries_held (c ∷ cs) = ap (λ l. seen c.1.items.items ++ l) (entries_held cs) ∙ sym (map-append seen_one c.1.items.items (held_by cs))

-- ---- groups

pub head_entries : {K V : Type 0} (k : K) (ps : List (K × PartOf K V)) → HasHead k ps → AreParts ps → HasHead k (entries_in ps)
head_entries k [] h a = h
head_entries {K} {V} k (p ∷ ps) h a = by (seen p.1.items.items) a.0.0
  where
    by : (l : List (K × V)) → HasHead p.0 l → HasHead k (l ++ entries_in ps)
    by [] h' = absurd h'
    by (e ∷ l) h' = h' ∙ h

pub entries_under_held : {K V : Type 0} (gs : List (K × GroupOf K V)) → entries_under gs ≡ entries_in (held_by gs)
entries_under_held [] = refl
entries_under_held (g ∷ gs) = ap (λ l. entries_in g.1.items.items ++ l) (entries_under_held gs) ∙ sym (flat_map-append (λ c. seen c.1.items.items) g.1.items.items (held_by gs))

-- groups that were changed, of parts that are in order
pub fresh_groups : {K V : Type 0} (gs : List (K × GroupOf K V)) → AllByRecursion IsFresh gs → AreParts (held_by gs) → AreGroups gs
fresh_groups [] a p = tt
fresh_groups (g ∷ gs) a p =
    let here : AreParts g.1.items.items = all_front (λ c. HasHead c.0 (seen c.1.items.items) × IsPart c.1) g.1.items.items (held_by gs) p in
    let back : AreParts (held_by gs) = all_back (λ c. HasHead c.0 (seen c.1.items.items) × IsPart c.1) g.1.items.items (held_by gs) p in
    ((head_entries g.0 g.1.items.items a.0.head here, record { parts = here; room = a.0.room; remembered = forgets g.1.shared (part_rows g.1.items.items) a.0.forgot }), fresh_groups gs a.1 back)

-- ---- heads

pub part_heads : {K V : Type 0} (cs : List (K × PartOf K V)) → AreParts cs → AllByRecursion (λ c. HasHead c.0 (seen c.1.items.items)) cs
part_heads [] a = tt
part_heads (c ∷ cs) a = (a.0.0, part_heads cs a.1)

pub group_heads : {K V : Type 0} (gs : List (K × GroupOf K V)) → AreGroups gs → AllByRecursion (λ g. HasHead g.0 (entries_in g.1.items.items)) gs
group_heads [] a = tt
group_heads (g ∷ gs) a = (a.0.0, group_heads gs a.1)

-- what has a first entry has parts, and groups
pub parts_some : {K V : Type 0} (k : K) (ps : List (K × PartOf K V)) → HasHead k (entries_in ps) → 0 < length ps
parts_some k [] h = absurd h
parts_some k (p ∷ ps) h = omega arith

pub groups_some : {K V : Type 0} (k : K) (gs : List (K × GroupOf K V)) → HasHead k (entries_under gs) → 0 < length gs
groups_some k [] h = absurd h
groups_some k (g ∷ gs) h = omega arith

pub entries_some : {K V : Type 0} (k : K) (es : List (K × Arc V Global)) → HasHead k (seen es) → 0 < length es
entries_some k [] h = absurd h
entries_some k (e ∷ es) h = omega arith

-- Two nodes that stand beside each other, the items of one moved behind those of the other.
use Rattle.std.proofs.Common.{◌≡◌, ◌∙◌, ◌+◌, ◌<◌, ◌≤◌, ℕ, List, [], ◌∷◌, ◌++◌, Some, None, refl, sym, ap, subst, suc, zero, length, take, drop, arith}
use Rattle.std.specs.Prelude.{remove, slice_get, vec_capacity}
use Rattle.std.specs.List.{AllByRecursion}
use Rattle.std.proofs.lemmas.Grind.{flat_map-append}
use Rattle.std.proofs.lemmas.List.{map-append}
use Rattle.frs_pmap.specs.Entries.{seen, seen_one}
use Rattle.frs_pmap.specs.Nodes.{AreParts, GroupOf, PartOf, entries_in, entries_under, part_rows}
use Rattle.frs_pmap.specs.Trees.{HasHead}
use Rattle.frs_pmap.proofs.Changes.{GroupFits, PartFits}
use Rattle.frs_pmap.proofs.Joins.{head_more, pair_holds}
use Rattle.frs_pmap.proofs.Orders.{all_join}
use Rattle.frs_pmap.proofs.Tables.{forgets}

-- what stands before one that is taken out
pub get_before : {P : Type 0} (cs : List P) (at : ℕ) → slice_get (remove cs (at + 1)) at ≡ slice_get cs at
get_before {P} cs at = let n : at + 1 ≡ suc at = omega arith in ap (λ i. slice_get (remove cs i) at) n ∙ by cs at
  where
    by : (cs : List P) (at : ℕ) → slice_get (remove cs (suc at)) at ≡ slice_get cs at
    by [] at = refl
    by (c ∷ cs) zero = refl
    by (c ∷ cs) (suc at) = by cs at

pub before_within : {P : Type 0} (cs : List P) (at : ℕ) → at + 1 < length cs → at < length (remove cs (at + 1))
before_within {P} cs at within = let n : at + 1 ≡ suc at = omega arith in subst (λ i. at < length (remove cs i)) (sym n) (by cs at (omega arith))
  where
    by : (cs : List P) (at : ℕ) → suc at < length cs → at < length (remove cs (suc at))
    by [] at w = absurd (omega arith)
    by (c ∷ cs) zero w = omega arith
    by (c ∷ cs) (suc at) w = let h : at < length (remove cs (suc at)) = by cs at (omega arith) in omega arith

module _ {K V : Type 0} where
  pub parts_joined : (cs r : List (K × PartOf K V)) (at : ℕ) (a b y : K × PartOf K V) → slice_get cs at ≡ Some a → slice_get cs (at + 1) ≡ Some b → y.1.items.items ≡ a.1.items.items ++ b.1.items.items
      → r ≡ take at cs ++ (y ∷ drop (at + 2) cs) → entries_in r ≡ entries_in cs
  parts_joined cs r at a b y g h e is =
      pair_holds (λ (c : K × PartOf K V). seen c.1.items.items) cs r at a b y g h (ap seen e ∙ map-append seen_one a.1.items.items b.1.items.items) is

  pub part_absorbs : (a b y : K × PartOf K V) → PartFits a → y.0 ≡ a.0 → y.1.items.items ≡ a.1.items.items ++ b.1.items.items → length y.1.items.items < 64 → 64 ≤ vec_capacity y.1.items → y.1.shared ≡ None → PartFits y
  part_absorbs a b y p k e less cap none =
      let both : seen y.1.items.items ≡ seen a.1.items.items ++ seen b.1.items.items = ap seen e ∙ map-append seen_one a.1.items.items b.1.items.items in
      let head : HasHead a.0 (seen y.1.items.items) = subst (λ (l : List (K × V)). HasHead a.0 l) (sym both) (head_more a.0 (seen a.1.items.items) (seen b.1.items.items) p.0) in (
        subst (λ (q : K). HasHead q (seen y.1.items.items)) (sym k) head,
        record { room = record { less = less; capacity = cap }; remembered = forgets y.1.shared (seen y.1.items.items) none },
      )

  pub groups_joined : (cs r : List (K × GroupOf K V)) (at : ℕ) (a b y : K × GroupOf K V) → slice_get cs at ≡ Some a → slice_get cs (at + 1) ≡ Some b → y.1.items.items ≡ a.1.items.items ++ b.1.items.items
      → r ≡ take at cs ++ (y ∷ drop (at + 2) cs) → entries_under r ≡ entries_under cs
  groups_joined cs r at a b y g h e is =
      pair_holds (λ (c : K × GroupOf K V). entries_in c.1.items.items) cs r at a b y g h
      (ap entries_in e ∙ flat_map-append (λ (c : K × PartOf K V). seen c.1.items.items) a.1.items.items b.1.items.items) is

  pub group_absorbs : (a b y : K × GroupOf K V) → GroupFits a → GroupFits b → y.0 ≡ a.0 → y.1.items.items ≡ a.1.items.items ++ b.1.items.items → length y.1.items.items < 64 → 64 ≤ vec_capacity y.1.items → y.1.shared ≡ None → GroupFits y
  group_absorbs a b y p q k e less cap none =
      let both : entries_in y.1.items.items ≡ entries_in a.1.items.items ++ entries_in b.1.items.items =
      ap entries_in e ∙ flat_map-append (λ (c : K × PartOf K V). seen c.1.items.items) a.1.items.items b.1.items.items in
      let head : HasHead a.0 (entries_in y.1.items.items) = subst (λ (l : List (K × V)). HasHead a.0 l) (sym both) (head_more a.0 (entries_in a.1.items.items) (entries_in b.1.items.items) p.0) in
      let parts : AreParts y.1.items.items = subst (AllByRecursion (PartFits {K = K} {V = V})) (sym e) (all_join (PartFits {K = K} {V = V}) a.1.items.items b.1.items.items p.1.parts q.1.parts) in (
        subst (λ (z : K). HasHead z (entries_in y.1.items.items)) (sym k) head,
        record { parts = parts; room = record { less = less; capacity = cap }; remembered = forgets y.1.shared (part_rows y.1.items.items) none },
      )

-- What the change of one part, or of one group, makes of all.
use Rattle.std.proofs.Common.{◌≡◌, ◌∙◌, ◌+◌, ◌-◌, ◌<◌, ℕ, List, [], ◌∷◌, ◌++◌, Some, refl, sym, ap, suc, zero, length, take, drop, set, arith}
use Rattle.std.specs.Prelude.{remove, slice_get}
use Rattle.std.specs.List.{prefix_len}
use Rattle.std.specs.Cmp.{IsTotalOrder}
use Rattle.std.specs.declared.cmp.Ordering.{Ordering}
use Rattle.frs_pmap.specs.Entries.{IsRising, cut_at, is_upto, put_at, seen}
use Rattle.frs_pmap.specs.Nodes.{AreGroups, AreParts, GroupOf, IsGroup, IsPart, PartOf, entries_in, entries_under}
use Rattle.frs_pmap.specs.Trees.{HasHead}
use Rattle.frs_pmap.proofs.Parts.{Between, between, cut_part, lows_rising, put_part}
use Rattle.frs_pmap.proofs.Tables.{group_heads, part_heads}

abbrev pub seen_in : {K V : Type 0} → PartOf K V → List (K × V)
seen_in p = seen p.items.items

abbrev pub seen_under : {K V : Type 0} → GroupOf K V → List (K × V)
seen_under g = entries_in g.items.items

abbrev pub PartFits : {K V : Type 0} → K × PartOf K V → Type 0
PartFits c = HasHead c.0 (seen c.1.items.items) × IsPart c.1

abbrev pub GroupFits : {K V : Type 0} → K × GroupOf K V → Type 0
GroupFits g = HasHead g.0 (entries_in g.1.items.items) × IsGroup g.1

-- one taken out after it was changed
pub taken_out : {X : Type 0} (xs : List X) (at : ℕ) (x : X) → at < length xs → remove (set xs at x) at ≡ take at xs ++ ([] ++ drop (at + 1) xs)
taken_out [] at x within = absurd (omega arith)
taken_out (y ∷ xs) zero x within = refl
taken_out (y ∷ xs) (suc at) x within = let n : suc at + 1 ≡ suc (at + 1) = omega arith in ap (λ l. y ∷ l) (taken_out xs at x (omega arith)) ∙ sym (ap (λ m. y ∷ (take at xs ++ drop m (y ∷ xs))) n)

-- one changed
pub changed : {X : Type 0} (xs : List X) (at : ℕ) (x : X) → at < length xs → set xs at x ≡ take at xs ++ ((x ∷ []) ++ drop (at + 1) xs)
changed [] at x within = absurd (omega arith)
changed (y ∷ xs) zero x within = refl
changed (y ∷ xs) (suc at) x within = let n : suc at + 1 ≡ suc (at + 1) = omega arith in ap (λ l. y ∷ l) (changed xs at x (omega arith)) ∙ sym (ap (λ m. y ∷ (take at xs ++ (x ∷ drop m (y ∷ xs)))) n)

pub within_get : {X : Type 0} (xs : List X) (i : ℕ) (x : X) → slice_get xs i ≡ Some x → i < length xs
within_get [] i x got = absurd (cc)
within_get (y ∷ xs) zero x got = omega arith
within_get (y ∷ xs) (suc i) x got = let h = within_get xs i x got in omega arith

module _ {K V : Type 0} {cmp : K → K → Ordering} (o : IsTotalOrder cmp) where
  -- ---- parts

  pub part_lows : (cs : List (K × PartOf K V)) → IsRising cmp (entries_in cs) → AreParts cs → IsRising cmp cs
  part_lows cs up a = lows_rising o (seen_in {K = K} {V = V}) cs up (part_heads cs a)

  pub part_at : (k : K) (cs : List (K × PartOf K V)) (i : ℕ) (x : K × PartOf K V) → IsRising cmp (entries_in cs) → AreParts cs → i ≡ prefix_len (is_upto cmp k) cs - 1 → slice_get cs i ≡ Some x → Between o (seen_in {K = K} {V = V}) k cs i x
  part_at k cs i x up a is got = between o (seen_in {K = K} {V = V}) k cs i x up (part_heads cs a) is got

  pub parts_put : (k : K) (v : V) (cs ps r : List (K × PartOf K V)) (i : ℕ) (x : K × PartOf K V) → Between o (seen_in {K = K} {V = V}) k cs i x → r ≡ take i cs ++ (ps ++ drop (i + 1) cs)
      → entries_in ps ≡ put_at cmp k v (seen x.1.items.items) → entries_in r ≡ put_at cmp k v (entries_in cs)
  parts_put k v cs ps r i x b e e' = put_part o (seen_in {K = K} {V = V}) k v cs ps r i x b e e'

  pub parts_cut : (k : K) (cs ps r : List (K × PartOf K V)) (i : ℕ) (x : K × PartOf K V) → Between o (seen_in {K = K} {V = V}) k cs i x → r ≡ take i cs ++ (ps ++ drop (i + 1) cs)
      → entries_in ps ≡ cut_at cmp k (seen x.1.items.items) → entries_in r ≡ cut_at cmp k (entries_in cs)
  parts_cut k cs ps r i x b e e' = cut_part o (seen_in {K = K} {V = V}) k cs ps r i x b e e'

  -- ---- groups

  pub group_lows : (gs : List (K × GroupOf K V)) → IsRising cmp (entries_under gs) → AreGroups gs → IsRising cmp gs
  group_lows gs up a = lows_rising o (seen_under {K = K} {V = V}) gs up (group_heads gs a)

  pub group_at : (k : K) (gs : List (K × GroupOf K V)) (i : ℕ) (x : K × GroupOf K V) → IsRising cmp (entries_under gs) → AreGroups gs → i ≡ prefix_len (is_upto cmp k) gs - 1 → slice_get gs i ≡ Some x → Between o (seen_under {K = K} {V = V}) k gs i x
  group_at k gs i x up a is got = between o (seen_under {K = K} {V = V}) k gs i x up (group_heads gs a) is got

  pub groups_put : (k : K) (v : V) (gs ps r : List (K × GroupOf K V)) (i : ℕ) (x : K × GroupOf K V) → Between o (seen_under {K = K} {V = V}) k gs i x → r ≡ take i gs ++ (ps ++ drop (i + 1) gs)
      → entries_under ps ≡ put_at cmp k v (entries_in x.1.items.items) → entries_under r ≡ put_at cmp k v (entries_under gs)
  groups_put k v gs ps r i x b e e' = put_part o (seen_under {K = K} {V = V}) k v gs ps r i x b e e'

  pub groups_cut : (k : K) (gs ps r : List (K × GroupOf K V)) (i : ℕ) (x : K × GroupOf K V) → Between o (seen_under {K = K} {V = V}) k gs i x → r ≡ take i gs ++ (ps ++ drop (i + 1) gs)
      → entries_under ps ≡ cut_at cmp k (entries_in x.1.items.items) → entries_under r ≡ cut_at cmp k (entries_under gs)
  groups_cut k gs ps r i x b e e' = cut_part o (seen_under {K = K} {V = V}) k gs ps r i x b e e'

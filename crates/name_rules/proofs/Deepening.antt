-- Rows in order of depth.
use Rattle.std.proofs.Common.{◌≡◌, ℕ, true, List, [], ◌∷◌, Ordering, Less, Equal, Greater, is_lt, length, nat_cmp}
use Rattle.std.proofs.lemmas.Cmp.{lists_total, nat_cmp_total, nat_list_cmp_total, on_total, then_total}
use Rattle.std.specs.Cmp.{IsTotalOrder}
use Rattle.std.specs.FinMap.{nat_cmp-IsAntisymmetric, slice_cmp-IsAntisymmetric}
use Rattle.std.specs.List.Sorted.{IsSortedBy}
use Rattle.std.specs.Ordering.{ordering_then}
use Rattle.name_rules.specs.declared.rows.TreeRow.{TreeRow}
use Rattle.name_rules.specs.Rows.{AreByDepth, AreDeepening, depth_cmp, names_cmp}
use Rattle.name_rules.proofs.Lists.{all_in}
use Rattle.name_rules.proofs.Sorting.{HaveKeysOnce, is_higher, none_lower, once_rest, sorted_rest}

pub depth_total : IsTotalOrder depth_cmp
depth_total = then_total (on_total length nat_cmp_total) (lists_total nat_list_cmp_total)

-- paths of which neither is the lower are one
pub depth_same : (a b : List (List ℕ)) → depth_cmp a b ≡ Equal → a ≡ b
depth_same a b e = slice_cmp-IsAntisymmetric (slice_cmp-IsAntisymmetric nat_cmp-IsAntisymmetric) a b (by (nat_cmp (length a) (length b)) e)
  where
    by : (o : Ordering) → ordering_then o (names_cmp a b) ≡ Equal → names_cmp a b ≡ Equal
    by Less e = absurd (cc)
    by Equal e = e
    by Greater e = absurd (cc)

pub sorted_by_depth : (rows : List TreeRow) → IsSortedBy (λ a b. is_lt (depth_cmp a.path b.path)) rows → AreByDepth rows
sorted_by_depth [] up = tt
sorted_by_depth (x ∷ xs) up =
    (none_lower (λ r. r.path) depth_cmp depth_total x xs up, sorted_by_depth xs (sorted_rest (λ r. r.path) depth_cmp depth_total x xs up))

-- where each path is there once
pub deepening : (rows : List TreeRow) → AreByDepth rows → HaveKeysOnce (λ r. r.path) depth_cmp depth_total rows → AreDeepening rows
deepening [] up once = tt
deepening (x ∷ xs) up once = (
  all_in (λ r. is_lt (depth_cmp x.path r.path) ≡ true) xs (λ r h. is_higher (λ r. r.path) depth_cmp depth_total x xs once r h (up.0 r h)),
  deepening xs up.1 (once_rest (λ r. r.path) depth_cmp depth_total x xs once),
)

-- The order of places, and of keys.
use Rattle.std.proofs.Common.{◌≡◌, ◌||◌, ◌&&◌, ◌==◌, ℕ, Bool, true, false, nat_lt, List, [], ◌∷◌, Ordering, Less, Equal, Greater, bytes_eq, nat_cmp, cond, is_lt, is_eq, refl, ap, ◌∙◌, arith}
use Rattle.std.proofs.lemmas.Bool.Decides.{nat_tests}
use Rattle.std.proofs.lemmas.Cmp.{nat_list_cmp_total, nat_cmp_total, on_total, then_total}
use Rattle.std.specs.Cmp.{IsTotalOrder}
use Rattle.std.specs.Cmp.Lexicographic.{slice_cmp}
use Rattle.std.specs.Ordering.{ordering_reverse, ordering_then}
use Rattle.frs_base.specs.Versions.{gvsn_lt, same_uid, uid_lt}
use Rattle.frs_base.specs.declared.version.Gvsn.{Gvsn}
use Rattle.frs_base.specs.declared.version.Uid.{Uid}
use Rattle.win_order.specs.Order.{key_lt, key_of}
use Rattle.win_order.specs.declared.key.Key.{Key}
use Rattle.win_order.specs.declared.update.Update.{Update}
use Rattle.name_rules.specs.Shown.{folded, gvsn_cmp, key_cmp, place_cmp, rank_cmp, same_place, uid_cmp}

-- ---- total orders

pub uid_total : IsTotalOrder uid_cmp
uid_total = then_total (on_total (λ (u : Uid). u.db) nat_cmp_total) (on_total (λ (u : Uid). u.version) nat_cmp_total)

gvsn_total : IsTotalOrder gvsn_cmp
gvsn_total = then_total (on_total (λ (g : Gvsn). g.db) nat_cmp_total) (on_total (λ (g : Gvsn). g.version) nat_cmp_total)

pub key_total : IsTotalOrder key_cmp
key_total = then_total (on_total (λ (k : Key). k.fence) nat_cmp_total) (then_total (on_total (λ (k : Key). k.clock) nat_cmp_total) (then_total (on_total (λ (k : Key). k.created) nat_cmp_total) (on_total (λ (k : Key). k.gvsn) gvsn_total)))

pub place_total : IsTotalOrder place_cmp
place_total = then_total (on_total (λ (u : Update). u.parent) uid_total) (on_total folded nat_list_cmp_total)

pub rank_total : IsTotalOrder rank_cmp
rank_total = then_total place_total (on_total key_of key_total)

-- ---- the tests answer as the comparisons do

first_then : (r o : Ordering) → (is_lt r || (is_eq r && is_lt o)) ≡ is_lt (ordering_then r o)
first_then Less o = refl
first_then Equal o = refl
first_then Greater o = refl

both_then : (r o : Ordering) → (is_eq r && is_eq o) ≡ is_eq (ordering_then r o)
both_then Less o = refl
both_then Equal o = refl
both_then Greater o = refl

unit_lt : (x y : ℕ) → nat_lt x y ≡ is_lt (nat_cmp x y)
unit_lt x y = by (nat_lt x y) (x == y)
  where
    by : (a b : Bool) → a ≡ is_lt (cond a Less (cond b Equal Greater))
    by true b = refl
    by false true = refl
    by false false = refl

unit_same : (x y : ℕ) → (x == y) ≡ is_eq (nat_cmp x y)
unit_same x y = by (nat_lt x y) (x == y) refl refl
  where
    by : (a b : Bool) → nat_lt x y ≡ a → (x == y) ≡ b → b ≡ is_eq (cond a Less (cond b Equal Greater))
    by true true p q = absurd (grind (arith, nat_tests))
    by true false p q = refl
    by false true p q = refl
    by false false p q = refl

pub uid_lt_is : (a b : Uid) → uid_lt a b ≡ is_lt (uid_cmp a b)
uid_lt_is a b =
    (λ i. unit_lt a.db b.db i || (unit_same a.db b.db i && unit_lt a.version b.version i)) ∙ first_then (nat_cmp a.db b.db) (nat_cmp a.version b.version)

gvsn_lt_is : (a b : Gvsn) → gvsn_lt a b ≡ is_lt (gvsn_cmp a b)
gvsn_lt_is a b =
    (λ i. unit_lt a.db b.db i || (unit_same a.db b.db i && unit_lt a.version b.version i)) ∙ first_then (nat_cmp a.db b.db) (nat_cmp a.version b.version)

pub same_uid_is : (a b : Uid) → same_uid a b ≡ is_eq (uid_cmp a b)
same_uid_is a b = (λ i. unit_same a.db b.db i && unit_same a.version b.version i) ∙ both_then (nat_cmp a.db b.db) (nat_cmp a.version b.version)

then_lt : (t : Bool) (x y : ℕ) (o : Ordering) → t ≡ is_lt o → (nat_lt x y || ((x == y) && t)) ≡ is_lt (ordering_then (nat_cmp x y) o)
then_lt t x y o e = (λ i. unit_lt x y i || (unit_same x y i && e i)) ∙ first_then (nat_cmp x y) o

pub key_lt_is : (a b : Key) → key_lt a b ≡ is_lt (key_cmp a b)
key_lt_is a b =
    then_lt _ a.fence b.fence _ (then_lt _ a.clock b.clock _ (then_lt _ a.created b.created _ (gvsn_lt_is a.gvsn b.gvsn)))

units_same : (a b : List ℕ) → bytes_eq a b ≡ is_eq (slice_cmp nat_cmp a b)
units_same [] [] = refl
units_same [] (y ∷ b) = refl
units_same (x ∷ a) [] = refl
units_same (x ∷ a) (y ∷ b) = (λ i. unit_same x y i && units_same a b i) ∙ both_then (nat_cmp x y) (slice_cmp nat_cmp a b)

pub same_place_is : (u v : Update) → same_place u v ≡ is_eq (place_cmp u v)
same_place_is u v =
    (λ i. same_uid_is u.parent v.parent i && units_same (folded u) (folded v) i)
    ∙ both_then (uid_cmp u.parent v.parent) (slice_cmp nat_cmp (folded u) (folded v))

-- ---- in one place, and in others

-- in one place the key decides
pub by_key : (u v : Update) → is_eq (place_cmp u v) ≡ true → rank_cmp u v ≡ key_cmp (key_of u) (key_of v)
by_key u v e = by (place_cmp u v) e
  where
    by : (o : Ordering) → is_eq o ≡ true → ordering_then o (key_cmp (key_of u) (key_of v)) ≡ key_cmp (key_of u) (key_of v)
    by Less e = absurd (cc)
    by Equal e = refl
    by Greater e = absurd (cc)

-- what isn't lower by rank isn't lower by place
pub place_first : (u v : Update) → is_lt (rank_cmp u v) ≡ false → is_lt (place_cmp u v) ≡ false
place_first u v e = by (place_cmp u v) e
  where
    by : (o : Ordering) → is_lt (ordering_then o (key_cmp (key_of u) (key_of v))) ≡ false → is_lt o ≡ false
    by Less e = e
    by Equal e = refl
    by Greater e = refl

-- what comes first by place isn't higher by parent
pub parent_first : (u v : Update) → is_lt (place_cmp u v) ≡ true → uid_lt v.parent u.parent ≡ false
parent_first u v e = uid_lt_is v.parent u.parent ∙ ap is_lt (uid_total.antisymm v.parent u.parent) ∙ by (uid_cmp u.parent v.parent) e
  where
    by : (o : Ordering) → is_lt (ordering_then o (slice_cmp nat_cmp (folded u) (folded v))) ≡ true → is_lt (ordering_reverse o) ≡ false
    by Less e = refl
    by Equal e = refl
    by Greater e = absurd (cc)

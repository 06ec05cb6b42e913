-- Those in one directory, among those in order of their places.
use Rattle.std.proofs.Common.{◌≡◌, ◌<◌, ◌≤◌, ℕ, zero, suc, inl, inr, Bool, true, false, not, List, [], ◌∷◌, length, map, get_or, refl, sym, ap, ◌∙◌, subst, arith}
use Rattle.std.proofs.lemmas.Bool.Decides.{nat_tests}
use Rattle.std.proofs.lemmas.Option.{get_or_from_slice_get, slice_get_within}
use Rattle.std.proofs.lemmas.List.{length-map}
use Rattle.std.specs.List.Sorted.{IsPartitionPoint, IsPartitionedBy}
use Rattle.std.specs.Ordering.{is_lt}
use Rattle.frs_base.specs.Options.{In}
use Rattle.frs_base.specs.Versions.{same_uid, uid_lt}
use Rattle.frs_base.specs.declared.version.Uid.{Uid}
use Rattle.vol_state.proofs.Walks.{same_is}
use Rattle.win_order.specs.declared.update.Update.{Update}
use Rattle.name_rules.specs.Shown.{AreByPlace, AreChildren, place_cmp}
use Rattle.name_rules.proofs.Lists.{at_mapped, in_all}
use Rattle.name_rules.proofs.Ranks.{parent_first}

-- ---- of two files

lower_too : (p q r : Uid) → uid_lt q p ≡ false → uid_lt q r ≡ true → uid_lt p r ≡ true
lower_too p q r a b = grind (arith, nat_tests)

not_higher : (p q r : Uid) → uid_lt q p ≡ false → uid_lt r q ≡ false → uid_lt r p ≡ false
not_higher p q r a b = grind (arith, nat_tests)

pub neither : (p q : Uid) → uid_lt p q ≡ false → uid_lt q p ≡ false → same_uid p q ≡ true
neither p q a b = grind (arith, nat_tests)

not_itself : (p : Uid) → uid_lt p p ≡ false
not_itself p = grind (arith, nat_tests)

-- ---- where a directory begins and ends

module _ {X : Type 0} (f : X → Update) where
  at_later : (x : X) (xs : List X) → AreByPlace (map f (x ∷ xs)) → (j : ℕ) (d : X) → j < length xs → uid_lt (f (get_or xs j d)).parent (f x).parent ≡ false
  at_later x xs o j d l = parent_first (f x) (f (get_or xs j d)) (in_all (λ v. is_lt (place_cmp (f x) v) ≡ true) (map f xs) (f (get_or xs j d)) o.0 (mapped xs j l))
    where
      mapped : (ys : List X) (i : ℕ) → i < length ys → In (f (get_or ys i d)) (map f ys)
      mapped [] i l = absurd (omega arith)
      mapped (y ∷ ys) zero l = inl refl
      mapped (y ∷ ys) (suc i) l = inr (mapped ys i (omega arith))

  pub begin_parts : (parent : Uid) (xs : List X) → AreByPlace (map f xs) → IsPartitionedBy (λ x. uid_lt (f x).parent parent) xs
  begin_parts parent [] o i j d le l t = absurd (omega arith)
  begin_parts parent (x ∷ xs) o zero zero d le l t = t
  begin_parts parent (x ∷ xs) o zero (suc j) d le l t = lower_too (f x).parent (f (get_or xs j d)).parent parent (at_later x xs o j d (omega arith)) t
  begin_parts parent (x ∷ xs) o (suc i) zero d le l t = absurd (omega arith)
  begin_parts parent (x ∷ xs) o (suc i) (suc j) d le l t = begin_parts parent xs o.1 i j d (omega arith) (omega arith) t

  turn : (b : Bool) → not b ≡ true → b ≡ false
  turn true e = absurd (cc)
  turn false e = refl

  turn_back : (b : Bool) → not b ≡ false → b ≡ true
  turn_back true e = refl
  turn_back false e = absurd (cc)

  pub end_parts : (parent : Uid) (xs : List X) → AreByPlace (map f xs) → IsPartitionedBy (λ x. not (uid_lt parent (f x).parent)) xs
  end_parts parent [] o i j d le l t = absurd (omega arith)
  end_parts parent (x ∷ xs) o zero zero d le l t = t
  end_parts parent (x ∷ xs) o zero (suc j) d le l t = ap not (not_higher (f x).parent (f (get_or xs j d)).parent parent (at_later x xs o j d (omega arith)) (turn _ t))
  end_parts parent (x ∷ xs) o (suc i) zero d le l t = absurd (omega arith)
  end_parts parent (x ∷ xs) o (suc i) (suc j) d le l t = end_parts parent xs o.1 i j d (omega arith) (omega arith) t

  pub are_children : (parent : Uid) (xs : List X) (first last : ℕ) → last ≤ length xs
      → IsPartitionPoint (λ x. uid_lt (f x).parent parent ≡ true) (λ x. uid_lt (f x).parent parent ≡ false) xs first
      → IsPartitionPoint (λ x. not (uid_lt parent (f x).parent) ≡ true) (λ x. not (uid_lt parent (f x).parent) ≡ false) xs last
      → AreChildren (map f xs) parent first last
  are_children parent xs first last l begin end = record {
    within = let n = length-map xs f in omega arith;
    each = λ k u low high e.
        let (x, at, is) = at_mapped f xs k u e in
        let here = get_or_from_slice_get xs k x x at in
        let long = slice_get_within xs k x at in
        let a : uid_lt (f x).parent parent ≡ false = subst (λ y. uid_lt (f y).parent parent ≡ false) here (begin.1 k x low long) in
        let b : not (uid_lt parent (f x).parent) ≡ true = subst (λ y. not (uid_lt parent (f y).parent) ≡ true) here (end.0 k x (omega arith) high) in
        ap (λ v. v.parent) is ∙ same_is (f x).parent parent (neither (f x).parent parent a (turn _ b));
    whole = λ k u e in_parent.
        let (x, at, is) = at_mapped f xs k u e in
        let here = get_or_from_slice_get xs k x x at in
        let long = slice_get_within xs k x at in
        let p : (f x).parent ≡ parent = sym (ap (λ v. v.parent) is) ∙ in_parent in
        (not_before k x here long p, not_behind k x here long p);
  }
    where
      not_before : (k : ℕ) (x : X) → get_or xs k x ≡ x → k < length xs → (f x).parent ≡ parent → first ≤ k
      not_before k x here long p = by_lt k first (λ low.
          let t : uid_lt (f x).parent parent ≡ true = subst (λ y. uid_lt (f y).parent parent ≡ true) here (begin.0 k x (omega arith) low) in
          let n : uid_lt (f x).parent parent ≡ false = subst (λ q. uid_lt (f x).parent q ≡ false) p (not_itself (f x).parent) in
          let both : true ≡ false = sym t ∙ n in
          cc)
        where
          by_lt : (a b : ℕ) → (a < b → ⊥) → b ≤ a
          by_lt a b never = omega (arith, never)

      not_behind : (k : ℕ) (x : X) → get_or xs k x ≡ x → k < length xs → (f x).parent ≡ parent → k < last
      not_behind k x here long p = by_le last k (λ high.
          let t : uid_lt parent (f x).parent ≡ true = turn_back _ (subst (λ y. not (uid_lt parent (f y).parent) ≡ false) here (end.1 k x high long)) in
          let n : uid_lt parent (f x).parent ≡ false = subst (λ q. uid_lt q (f x).parent ≡ false) p (not_itself (f x).parent) in
          let both : true ≡ false = sym t ∙ n in
          cc)
        where
          by_le : (a b : ℕ) → (a ≤ b → ⊥) → b < a
          by_le a b never = omega (arith, never)

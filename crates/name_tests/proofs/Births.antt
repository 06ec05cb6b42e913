-- Records that were born in order are of different files and versions, and none is of the root.
use Rattle.std.proofs.Common.{◌≡◌, ◌⊎◌, ◌∙◌, ◌+◌, ◌++◌, ℕ, zero, suc, inl, inr, List, [], ◌∷◌, Some, length, slice_get, unwrap_or, sym, ap, arith}
use Rattle.win_order.specs.declared.update.Update.{Update}
use Rattle.name_rules.specs.Rows.{HaveNoRoot}
use Rattle.name_rules.specs.Shown.{AreDistinct}
use Rattle.name_rules.proofs.Lists.{in_got}
use Rattle.name_tests.specs.Born.{AreBornInOrder}

pub born_distinct : (records : List Update) → AreBornInOrder records → AreDistinct records
born_distinct records born = record {
  files = λ u v h k e.
      let (n, p) = in_got records u h in
      let (m, q) = in_got records v k in
      same u v n m p q (let a = (born n u p).0 in let b = (born m v q).0 in let c = ap (λ i. i.version) e in omega arith);
  versions = λ u v h k e.
      let (n, p) = in_got records u h in
      let (m, q) = in_got records v k in
      same u v n m p q (let a = (born n u p).1 in let b = (born m v q).1 in let c = ap (λ i. i.version) e in omega arith);
}
  where
    same : (u v : Update) (n m : ℕ) → slice_get records n ≡ Some u → slice_get records m ≡ Some v → n ≡ m → u ≡ v
    same u v n m p q e = ap (λ o. unwrap_or o u) (sym p ∙ ap (slice_get records) e ∙ q)

pub born_rootless : (records : List Update) → AreBornInOrder records → HaveNoRoot records
born_rootless records born u h e =
    let (n, p) = in_got records u h in
    let a = (born n u p).0 in
    let b = ap (λ i. i.version) e in
    omega arith

-- one more is born
pub born_next : (records : List Update) (n : ℕ) (u : Update) → length records ≡ n → AreBornInOrder records → u.uid.version ≡ 9 + n → u.gvsn.version ≡ 9 + n → AreBornInOrder (records ++ u ∷ [])
born_next records n u long born file version m v e = by (at_or records m u e)
  where
    at_or : (us : List Update) (m : ℕ) (w : Update) → slice_get (us ++ w ∷ []) m ≡ Some v → (slice_get us m ≡ Some v) ⊎ ((m ≡ length us) × (w ≡ v))
    at_or [] zero w e = inr (omega arith, ap (λ o. unwrap_or o w) e)
    at_or [] (suc m) w e = absurd (cc)
    at_or (x ∷ us) zero w e = inl e
    at_or (x ∷ us) (suc m) w e = elim (at_or us m w e) [ inl p ↦ inl p | inr (l, s) ↦ inr (omega arith, s) ]

    by : (slice_get records m ≡ Some v) ⊎ ((m ≡ length records) × (u ≡ v)) → (v.uid.version ≡ 9 + m) × (v.gvsn.version ≡ 9 + m)
    by (inl p) = born m v p
    by (inr (l, s)) =
        let a = ap (λ (w : Update). w.uid.version) s in
        let b = ap (λ (w : Update). w.gvsn.version) s in
        (omega arith, omega arith)

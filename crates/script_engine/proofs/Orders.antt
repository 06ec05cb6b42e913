-- Sorted lists, and the orders of versions and of files.
use Rattle.std.proofs.Common.{◌≡◌, ◌⊎◌, Bool, true, false, List, [], ◌∷◌, refl, sym, ap, ◌∙◌, subst, arith, inl, inr}
use Rattle.std.specs.List.{AllByRecursion}
use Rattle.std.proofs.lemmas.Bool.Decides.{nat_tests}
use Rattle.frs_base.specs.Options.{In}
use Rattle.frs_base.specs.Versions.{gvsn_lt, same_gvsn, same_uid, uid_lt}
use Rattle.frs_base.specs.declared.version.Gvsn.{Gvsn}
use Rattle.frs_base.specs.declared.version.Uid.{Uid}
use Rattle.win_order.specs.declared.update.Update.{Update}
use Rattle.record_db.specs.Lists.{IsRising}
use Rattle.record_db.proofs.Keys.{same_gvsn_is, same_uid_is, uid_total}
use Rattle.pinned_pages.specs.Pages.{IsByVersion}

-- ---- lists in an order

-- each before all behind it
abbrev pub Sorted : {T : Type 0} → (T → T → Type 0) → List T → Type 0
Sorted lt [] = Unit {0}
Sorted lt (x ∷ xs) = AllByRecursion (lt x) xs × Sorted lt xs

-- what holds of all holds of each
pub all_in : {T : Type 0} (P : T → Type 0) (x : T) (xs : List T) → AllByRecursion P xs → In x xs → P x
all_in P x [] a h = absurd h
all_in P x (y ∷ ys) a (inl e) = subst P (sym e) a.0
all_in P x (y ∷ ys) a (inr h) = all_in P x ys a.1 h

-- sorted lists with the same items are one
pub sorted_one : {T : Type 0} (lt : T → T → Type 0) → ((x y z : T) → lt x y → lt y z → lt x z) → ((x : T) → lt x x → ⊥) → (a b : List T) → Sorted lt a → Sorted lt b
    → ((x : T) → In x a → In x b) → ((x : T) → In x b → In x a) → a ≡ b
sorted_one lt trans irrefl [] [] up up' to back = refl
sorted_one lt trans irrefl [] (y ∷ ys) up up' to back = absurd (back y (inl refl))
sorted_one lt trans irrefl (x ∷ xs) [] up up' to back = absurd (to x (inl refl))
sorted_one {T = T} lt trans irrefl (x ∷ xs) (y ∷ ys) up up' to back =
    let rest : xs ≡ ys = sorted_one lt trans irrefl xs ys up.1 up'.1 (λ u h. tail u h (to u (inr h))) (λ u h. tail' u h (back u (inr h))) in
    λ i. same i ∷ rest i
  where
    first : In x (y ∷ ys) → In y (x ∷ xs) → x ≡ y
    first (inl e) h = e
    first (inr h) (inl e) = sym e
    first (inr h) (inr h') = absurd (irrefl x (trans x y x (all_in (lt x) y xs up.0 h') (all_in (lt y) x ys up'.0 h)))

    same : x ≡ y
    same = first (to x (inl refl)) (back y (inl refl))

    tail : (u : T) → In u xs → In u (y ∷ ys) → In u ys
    tail u h (inl e) = absurd (irrefl x (subst (lt x) (e ∙ sym same) (all_in (lt x) u xs up.0 h)))
    tail u h (inr k) = k

    tail' : (u : T) → In u ys → In u (x ∷ xs) → In u xs
    tail' u h (inl e) = absurd (irrefl y (subst (lt y) (e ∙ same) (all_in (lt y) u ys up'.0 h)))
    tail' u h (inr k) = k

-- ---- versions

pub gvsn_trans : (a b c : Gvsn) → gvsn_lt a b ≡ true → gvsn_lt b c ≡ true → gvsn_lt a c ≡ true
gvsn_trans a b c p q = grind (arith, nat_tests)

pub gvsn_irrefl : (a : Gvsn) → gvsn_lt a a ≡ true → ⊥
gvsn_irrefl a p = grind (arith, nat_tests)

-- an update's version is the lower
abbrev pub Before : Update → Update → Type 0
Before u v = gvsn_lt u.gvsn v.gvsn ≡ true

pub by_version : (us : List Update) → IsByVersion us → Sorted Before us
by_version [] h = tt
by_version (u ∷ us) h = (h.0, by_version us h.1)

-- ---- sorting

-- items put in order
pub record SortedOf {T : Type 0} (lt : T → T → Type 0) (us ys : List T) : Type 0 where
  pub up : Sorted lt ys
  pub from : (x : T) → In x ys → In x us
  pub to : (x : T) → In x us → In x ys

-- all of a list
pub all_of : {T : Type 0} (P : T → Type 0) (xs : List T) → ((x : T) → In x xs → P x) → AllByRecursion P xs
all_of P [] h = tt
all_of P (x ∷ xs) h = (h x (inl refl), all_of P xs (λ y i. h y (inr i)))

-- items that an order tells apart, if they differ, can be put in it
pub sorted_of : {T : Type 0} (P : T → Type 0) (lt : T → T → Type 0) → ((x y z : T) → lt x y → lt y z → lt x z) → ((x y : T) → P x → P y → lt x y ⊎ ((x ≡ y) ⊎ lt y x))
    → (us : List T) → ((x : T) → In x us → P x) → (ys : List T) × SortedOf lt us ys
sorted_of P lt trans tell [] are = ([], record { up = tt; from = λ x h. h; to = λ x h. h })
sorted_of {T = T} P lt trans tell (u ∷ us) are =
    let (ys, s) = sorted_of P lt trans tell us (λ x h. are x (inr h)) in
    let (zs, z) = put ys s.up (λ x h. are x (inr (s.from x h))) in (
      zs,
      record {
        up = z.up;
        from = λ x h. elim (z.from x h) [ inl e ↦ inl e | inr k ↦ inr (s.from x k) ];
        to = λ x h. elim h [ inl e ↦ z.to x (inl e) | inr k ↦ z.to x (inr (s.to x k)) ];
      },
    )
  where
    put : (xs : List T) → Sorted lt xs → ((x : T) → In x xs → P x) → (ys : List T) × SortedOf lt (u ∷ xs) ys
    put [] up are' = (u ∷ [], record { up = (tt, tt); from = λ x h. h; to = λ x h. h })
    put (x ∷ xs) up are' = by (tell x u (are' x (inl refl)) (are u (inl refl))) (put xs up.1 (λ y h. are' y (inr h)))
      where
        by : lt x u ⊎ ((x ≡ u) ⊎ lt u x) → (ys : List T) × SortedOf lt (u ∷ xs) ys → (ys : List T) × SortedOf lt (u ∷ x ∷ xs) ys
        by (inl l) (ys, s) = (
          x ∷ ys,
          record {
            up = (all_of (lt x) ys (λ y h. elim (s.from y h) [ inl e ↦ subst (lt x) (sym e) l | inr k ↦ all_in (lt x) y xs up.0 k ]), s.up);
            from = λ y h. elim h [ inl e ↦ inr (inl e) | inr k ↦ elim (s.from y k) [ inl e ↦ inl e | inr i ↦ inr (inr i) ] ];
            to = λ y h. elim h [ inl e ↦ inr (s.to y (inl e)) | inr k ↦ elim k [ inl e ↦ inl e | inr i ↦ inr (s.to y (inr i)) ] ];
          },
        )
        by (inr (inl e)) more = (
          x ∷ xs,
          record {
            up = up;
            from = λ y h. inr h;
            to = λ y h. elim h [ inl k ↦ inl (k ∙ sym e) | inr k ↦ k ];
          },
        )
        by (inr (inr g)) more = (
          u ∷ x ∷ xs,
          record {
            up = ((g, all_of (lt u) xs (λ y h. trans u x y g (all_in (lt x) y xs up.0 h))), up);
            from = λ y h. h;
            to = λ y h. h;
          },
        )

-- the items that pass a test
pub passing : {T : Type 0} (p : T → Bool) (us : List T) → (ys : List T) × ((x : T) → In x ys → In x us × (p x ≡ true)) × ((x : T) → In x us → p x ≡ true → In x ys)
passing p [] = ([], (λ x h. absurd h), (λ x h t. h))
passing {T = T} p (u ∷ us) = by (p u) refl (passing p us)
  where
    by : (b : Bool) → p u ≡ b → (ys : List T) × ((x : T) → In x ys → In x us × (p x ≡ true)) × ((x : T) → In x us → p x ≡ true → In x ys)
        → (ys : List T) × ((x : T) → In x ys → In x (u ∷ us) × (p x ≡ true)) × ((x : T) → In x (u ∷ us) → p x ≡ true → In x ys)
    by true e (ys, from, to) = (
      u ∷ ys,
      (λ x h. elim h [ inl s ↦ (inl s, ap p s ∙ e) | inr k ↦ (inr (from x k).0, (from x k).1) ]),
      (λ x h t. elim h [ inl s ↦ inl s | inr k ↦ inr (to x k t) ]),
    )
    by false e (ys, from, to) = (
      ys,
      (λ x h. (inr (from x h).0, (from x h).1)),
      (λ x h t. elim h [ inl s ↦ absurd (false_true (sym e ∙ sym (ap p s) ∙ t)) | inr k ↦ to x k t ]),
    )
      where
        false_true : false ≡ true → ⊥
        false_true q = cc

pub to_version : (us : List Update) → Sorted Before us → IsByVersion us
to_version [] h = tt
to_version (u ∷ us) h = (h.0, to_version us h.1)

-- a file is the lower
abbrev pub Lower : Update → Update → Type 0
Lower u v = uid_lt u.uid v.uid ≡ true

pub to_rising : (us : List Update) → Sorted Lower us → IsRising us
to_rising [] h = tt
to_rising (u ∷ us) h = (h.0, to_rising us h.1)

-- versions are in order or one
pub gvsn_tells : (a b : Gvsn) → (gvsn_lt a b ≡ true) ⊎ ((a ≡ b) ⊎ (gvsn_lt b a ≡ true))
gvsn_tells a b = by (gvsn_lt a b) (same_gvsn a b) refl refl
  where
    total : gvsn_lt a b ≡ false → same_gvsn a b ≡ false → gvsn_lt b a ≡ true
    total p q = grind (arith, nat_tests)

    by : (l s : Bool) → gvsn_lt a b ≡ l → same_gvsn a b ≡ s → (gvsn_lt a b ≡ true) ⊎ ((a ≡ b) ⊎ (gvsn_lt b a ≡ true))
    by true s e f = inl e
    by false true e f = inr (inl (same_gvsn_is a b f))
    by false false e f = inr (inr (total e f))

-- so are files
pub uid_tells : (a b : Uid) → (uid_lt a b ≡ true) ⊎ ((a ≡ b) ⊎ (uid_lt b a ≡ true))
uid_tells a b = by (uid_lt a b) (same_uid a b) refl refl
  where
    by : (l s : Bool) → uid_lt a b ≡ l → same_uid a b ≡ s → (uid_lt a b ≡ true) ⊎ ((a ≡ b) ⊎ (uid_lt b a ≡ true))
    by true s e f = inl e
    by false true e f = inr (inl (same_uid_is a b f))
    by false false e f = inr (inr (uid_total a b e f))

-- Members of lists.
use Rattle.std.proofs.Common.{◌≡◌, ◌<◌, ◌≤◌, ◌⊎◌, ℕ, zero, suc, inl, inr, List, [], ◌∷◌, length, get_or, Option, Some, None, refl, sym, ap, ◌∙◌, subst, arith}
use Rattle.std.specs.List.{AllByRecursion, Contains, filter_map, cons_option}
use Rattle.frs_base.specs.Options.{In}

-- the list without one of its items
taken : {X : Type 0} (x : X) (xs : List X) → In x xs → (rest : List X) × (length xs ≡ suc (length rest)) × ((y : X) → In y xs → (y ≡ x) ⊎ In y rest)
taken x [] h = absurd h
taken x (y ∷ ys) (inl e) = (ys, omega arith, λ z h. elim h [ inl s ↦ inl (s ∙ sym e) | inr k ↦ inr k ])
taken x (y ∷ ys) (inr h) =
    let r = taken x ys h in
    (y ∷ r.0, omega (arith, r.1), λ z k. elim k [ inl s ↦ inr (inl s) | inr j ↦ elim (r.2 z j) [ inl t ↦ inl t | inr t ↦ inr (inr t) ] ])

-- a list with an item of each of n levels, of which an item has one only, has n items
pub levels_fit : {X : Type 0} (D : ℕ → X → Type 0) → ((i j : ℕ) (x : X) → D i x → D j x → i ≡ j) → (n : ℕ) (xs : List X) → ((i : ℕ) → i < n → (x : X) × In x xs × D i x) → n ≤ length xs
levels_fit D one zero xs each = omega arith
levels_fit {X} D one (suc n) xs each =
    let (x, h, d) = each n (omega arith) in
    let (rest, long, others) = taken x xs h in
    let less = levels_fit D one n rest (λ i l. let (y, k, e) = each i (omega arith) in at i l x d y e rest (others y k)) in
    omega arith
  where
    at : (i : ℕ) → i < n → (x : X) → D n x → (y : X) → D i y → (rest : List X) → (y ≡ x) ⊎ In y rest → (z : X) × In z rest × D i z
    at i l x d y e rest (inl s) = absurd (let same = one i n x (subst (D i) s e) d in omega arith)
    at i l x d y e rest (inr k) = (y, k, e)

-- ---- what a filter makes

pub made_in : {X Y : Type 0} (f : X → Option Y) (xs : List X) (x : X) (y : Y) → In x xs → f x ≡ Some y → In y (filter_map f xs)
made_in f [] x y h e = absurd h
made_in f (z ∷ zs) x y (inl s) e = subst (λ o. In y (cons_option o (filter_map f zs))) (sym (ap f (sym s) ∙ e)) (inl refl)
made_in {Y = Y} f (z ∷ zs) x y (inr h) e = by (f z) (made_in f zs x y h e)
  where
    by : (o : Option Y) → In y (filter_map f zs) → In y (cons_option o (filter_map f zs))
    by None k = k
    by (Some w) k = inr k

pub in_made : {X Y : Type 0} (f : X → Option Y) (xs : List X) (y : Y) → In y (filter_map f xs) → (x : X) × In x xs × (f x ≡ Some y)
in_made f [] y h = absurd h
in_made {X} {Y} f (z ∷ zs) y h = by (f z) refl h (in_made f zs y)
  where
    by : (o : Option Y) → f z ≡ o → In y (cons_option o (filter_map f zs)) → (In y (filter_map f zs) → (x : X) × In x zs × (f x ≡ Some y)) → (x : X) × In x (z ∷ zs) × (f x ≡ Some y)
    by None e h more = let (x, k, is) = more h in (x, inr k, is)
    by (Some w) e (inl s) more = (z, inl refl, e ∙ ap Some (sym s))
    by (Some w) e (inr h) more = let (x, k, is) = more h in (x, inr k, is)

-- ---- by recursion and by index

pub all_in : {X : Type 0} (P : X → Type 0) (xs : List X) → ((x : X) → In x xs → P x) → AllByRecursion P xs
all_in P [] each = tt
all_in P (x ∷ xs) each = (each x (inl refl), all_in P xs (λ y h. each y (inr h)))

pub in_all : {X : Type 0} (P : X → Type 0) (xs : List X) (x : X) → AllByRecursion P xs → In x xs → P x
in_all P [] x all h = absurd h
in_all P (y ∷ ys) x all (inl e) = subst P (sym e) all.0
in_all P (y ∷ ys) x all (inr h) = in_all P ys x all.1 h

pub in_at : {X : Type 0} (xs : List X) (x d : X) → In x xs → (k : ℕ) × (k < length xs) × (get_or xs k d ≡ x)
in_at [] x d h = absurd h
in_at (y ∷ ys) x d (inl e) = (0, omega arith, sym e)
in_at (y ∷ ys) x d (inr h) = let (k, l, e) = in_at ys x d h in (suc k, omega arith, e)

pub at_in : {X : Type 0} (xs : List X) (k : ℕ) (x : X) → k < length xs → get_or xs k x ≡ x → In x xs
at_in [] k x l e = absurd (omega arith)
at_in (y ∷ ys) zero x l e = inl (sym e)
at_in (y ∷ ys) (suc k) x l e = inr (at_in ys k x (omega arith) e)

pub contains_in : {X : Type 0} (xs : List X) (x : X) → Contains xs x → In x xs
contains_in xs x c = at_in xs c.0 x c.1 c.2

pub in_contains : {X : Type 0} (xs : List X) (x : X) → In x xs → Contains xs x
in_contains xs x h = in_at xs x x h

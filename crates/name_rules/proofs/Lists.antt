-- Members of lists.
use Rattle.std.proofs.Common.{◌≡◌, ◌⊎◌, ◌++◌, ◌+◌, ◌<◌, ◌≤◌, ℕ, zero, suc, inl, inr, Bool, true, false, cond, List, [], ◌∷◌, Some, length, map, slice_get, take, drop, Ordering, Less, Greater, get_or, unwrap_or, refl, sym, ap, ◌∙◌, subst, arith}
use Rattle.std.proofs.Math.Seq.{drop-nil, take-suc}
use Rattle.std.specs.Cmp.Lexicographic.{slice_cmp}
use Rattle.std.specs.List.{AllByRecursion, Contains, filter}
use Rattle.frs_base.specs.Options.{In}

pub all_in : {X : Type 0} (P : X → Type 0) (xs : List X) → ((x : X) → In x xs → P x) → AllByRecursion P xs
all_in P [] each = tt
all_in P (x ∷ xs) each = (each x (inl refl), all_in P xs (λ y h. each y (inr h)))

pub in_all : {X : Type 0} (P : X → Type 0) (xs : List X) (x : X) → AllByRecursion P xs → In x xs → P x
in_all P [] x all h = absurd h
in_all P (y ∷ ys) x all (inl e) = subst P (sym e) all.0
in_all P (y ∷ ys) x all (inr h) = in_all P ys x all.1 h

pub in_at : {X : Type 0} (xs : List X) (x d : X) → In x xs → (k : ℕ) × (k < length xs) × (get_or xs k d ≡ x)
in_at [] x d h = absurd h
in_at (y ∷ ys) x d (inl e) = (0, omega arith, sym e)
in_at (y ∷ ys) x d (inr h) = let (k, l, e) = in_at ys x d h in (suc k, omega arith, e)

at_in : {X : Type 0} (xs : List X) (k : ℕ) (x : X) → k < length xs → get_or xs k x ≡ x → In x xs
at_in [] k x l e = absurd (omega arith)
at_in (y ∷ ys) zero x l e = inl (sym e)
at_in (y ∷ ys) (suc k) x l e = inr (at_in ys k x (omega arith) e)

pub contains_in : {X : Type 0} (xs : List X) (x : X) → Contains xs x → In x xs
contains_in xs x c = at_in xs c.0 x c.1 c.2

pub in_contains : {X : Type 0} (xs : List X) (x : X) → In x xs → Contains xs x
in_contains xs x h = in_at xs x x h

-- ---- what passes a test

pub kept_in : {X : Type 0} (test : X → Bool) (xs : List X) (x : X) → In x xs → test x ≡ true → In x (filter test xs)
kept_in test [] x h e = absurd h
kept_in {X} test (y ∷ ys) x h e = by (test y) refl h (λ k. kept_in test ys x k e)
  where
    by : (b : Bool) → test y ≡ b → In x (y ∷ ys) → (In x ys → In x (filter test ys)) → In x (cond b (y ∷ filter test ys) (filter test ys))
    by true t (inl s) more = inl s
    by true t (inr k) more = inr (more k)
    by false t (inl s) more = absurd (let f : test x ≡ false = ap test s ∙ t in cc)
    by false t (inr k) more = more k

pub in_kept : {X : Type 0} (test : X → Bool) (xs : List X) (x : X) → In x (filter test xs) → In x xs × (test x ≡ true)
in_kept test [] x h = absurd h
in_kept {X} test (y ∷ ys) x h = by (test y) refl h (λ k. in_kept test ys x k)
  where
    by : (b : Bool) → test y ≡ b → In x (cond b (y ∷ filter test ys) (filter test ys)) → (In x (filter test ys) → In x ys × (test x ≡ true)) → In x (y ∷ ys) × (test x ≡ true)
    by true t (inl s) more = (inl s, ap test s ∙ t)
    by true t (inr k) more = let (there, is) = more k in (inr there, is)
    by false t k more = let (there, is) = more k in (inr there, is)

-- ---- what a function makes of the items

pub in_mapped : {X Y : Type 0} (f : X → Y) (xs : List X) (y : Y) → In y (map f xs) → (x : X) × In x xs × (y ≡ f x)
in_mapped f [] y h = absurd h
in_mapped f (x ∷ xs) y (inl e) = (x, inl refl, e)
in_mapped f (x ∷ xs) y (inr h) = let (z, k, e) = in_mapped f xs y h in (z, inr k, e)

pub at_mapped : {X Y : Type 0} (f : X → Y) (xs : List X) (k : ℕ) (y : Y) → slice_get (map f xs) k ≡ Some y → (x : X) × (slice_get xs k ≡ Some x) × (y ≡ f x)
at_mapped f [] k y e = absurd (cc)
at_mapped f (x ∷ xs) zero y e = (x, refl, sym (ap (λ o. unwrap_or o (f x)) e))
at_mapped f (x ∷ xs) (suc k) y e = at_mapped f xs k y e

pub get_append : {X : Type 0} (xs ys : List X) (k : ℕ) (x : X) → slice_get xs k ≡ Some x → slice_get (xs ++ ys) k ≡ Some x
get_append [] ys k x e = absurd (cc)
get_append (z ∷ xs) ys zero x e = e
get_append (z ∷ xs) ys (suc k) x e = get_append xs ys k x e

pub got_in : {X : Type 0} (xs : List X) (k : ℕ) (x : X) → slice_get xs k ≡ Some x → In x xs
got_in [] k x e = absurd (cc)
got_in (z ∷ xs) zero x e = inl (sym (ap (λ o. unwrap_or o x) e))
got_in (z ∷ xs) (suc k) x e = inr (got_in xs k x e)

pub in_got : {X : Type 0} (xs : List X) (x : X) → In x xs → (k : ℕ) × (slice_get xs k ≡ Some x)
in_got [] x h = absurd h
in_got (z ∷ xs) x (inl e) = (0, ap Some (sym e))
in_got (z ∷ xs) x (inr h) = let (k, e) = in_got xs x h in (suc k, e)

pub some_at : {X : Type 0} (xs : List X) (k : ℕ) → k < length xs → (x : X) × (slice_get xs k ≡ Some x)
some_at [] k l = absurd (omega arith)
some_at (z ∷ xs) zero l = (z, refl)
some_at (z ∷ xs) (suc k) l = some_at xs k (omega arith)

pub in_front : {X : Type 0} (xs ys : List X) (x : X) → In x xs → In x (xs ++ ys)
in_front [] ys x h = absurd h
in_front (z ∷ xs) ys x (inl e) = inl e
in_front (z ∷ xs) ys x (inr h) = inr (in_front xs ys x h)

pub in_back : {X : Type 0} (xs ys : List X) (x : X) → In x ys → In x (xs ++ ys)
in_back [] ys x h = h
in_back (z ∷ xs) ys x h = inr (in_back xs ys x h)

pub in_either : {X : Type 0} (xs ys : List X) (x : X) → In x (xs ++ ys) → In x xs ⊎ In x ys
in_either [] ys x h = inr h
in_either (z ∷ xs) ys x (inl e) = inl (inl e)
in_either (z ∷ xs) ys x (inr h) = elim (in_either xs ys x h) [ inl k ↦ inl (inr k) | inr k ↦ inr k ]

-- ---- from the front

-- one more from the front
pub take_next : {X : Type 0} (xs : List X) (i : ℕ) (x : X) → i < length xs → x ≡ get_or xs i x → take (i + 1) xs ≡ take i xs ++ x ∷ []
take_next xs i x l is =
    let next : i + 1 ≡ suc i = omega arith in
    ap (λ n. take n xs) next ∙ take-suc xs i x l ∙ ap (λ y. take i xs ++ y ∷ []) (sym is)

-- ---- where one ends before the other

pub less_past : {X : Type 0} (cmp : X → X → Ordering) (xs ys : List X) (i : ℕ) → length xs ≤ i → i < length ys → slice_cmp cmp (drop i xs) (drop i ys) ≡ Less
less_past cmp xs [] i past l = absurd (omega arith)
less_past cmp [] (y ∷ ys) zero past l = refl
less_past cmp [] (y ∷ ys) (suc i) past l = ap (λ l. slice_cmp cmp l (drop i ys)) (drop-nil (suc i) ∙ sym (drop-nil i)) ∙ less_past cmp [] ys i (omega arith) (omega arith)
less_past cmp (x ∷ xs) (y ∷ ys) zero past l = absurd (omega arith)
less_past cmp (x ∷ xs) (y ∷ ys) (suc i) past l = less_past cmp xs ys i (omega arith) (omega arith)

pub greater_past : {X : Type 0} (cmp : X → X → Ordering) (xs ys : List X) (i : ℕ) → i < length xs → length ys ≤ i → slice_cmp cmp (drop i xs) (drop i ys) ≡ Greater
greater_past cmp [] ys i l past = absurd (omega arith)
greater_past cmp (x ∷ xs) [] zero l past = refl
greater_past cmp (x ∷ xs) [] (suc i) l past = ap (slice_cmp cmp (drop i xs)) (drop-nil (suc i) ∙ sym (drop-nil i)) ∙ greater_past cmp xs [] i (omega arith) (omega arith)
greater_past cmp (x ∷ xs) (y ∷ ys) zero l past = absurd (omega arith)
greater_past cmp (x ∷ xs) (y ∷ ys) (suc i) l past = greater_past cmp xs ys i (omega arith) (omega arith)

-- What stands at the places of a list.
use Rattle.std.proofs.Common.{◌≡◌, ◌≢◌, ◌<◌, ◌≤◌, ◌+◌, ℕ, zero, suc, List, [], ◌∷◌, ◌++◌, length, get_or, map, set, refl, sym, ap, subst, Some, arith}
use Rattle.std.specs.Prelude.{insert, remove, slice_get, sum_by}
use Rattle.std.proofs.lemmas.List.Sums.{sum_by-cons}

pub get_set_same : {X : Type 0} (xs : List X) (k : ℕ) (x y : X) → slice_get xs k ≡ Some x → slice_get (set xs k y) k ≡ Some y
get_set_same [] k x y e = cc
get_set_same (a ∷ xs) zero x y e = refl
get_set_same (a ∷ xs) (suc k) x y e = get_set_same xs k x y e

pub get_set_other : {X : Type 0} (xs : List X) (k j : ℕ) (y : X) → j ≢ k → slice_get (set xs k y) j ≡ slice_get xs j
get_set_other [] k j y n = refl
get_set_other (a ∷ xs) zero zero y n = absurd (n refl)
get_set_other (a ∷ xs) zero (suc j) y n = refl
get_set_other (a ∷ xs) (suc k) zero y n = refl
get_set_other (a ∷ xs) (suc k) (suc j) y n = get_set_other xs k j y (λ q. n (omega (arith, q)))

pub get_push : {X : Type 0} (xs : List X) (y : X) (k : ℕ) (x : X) → slice_get xs k ≡ Some x → slice_get (xs ++ y ∷ []) k ≡ Some x
get_push [] y k x e = cc
get_push (a ∷ xs) y zero x e = e
get_push (a ∷ xs) y (suc k) x e = get_push xs y k x e

-- an item after a push is an old one, or the new one
pub get_push_cases : {X : Type 0} (P : X → Type 0) (xs : List X) (y : X) (k : ℕ) (x : X) → slice_get (xs ++ y ∷ []) k ≡ Some x → (slice_get xs k ≡ Some x → P x) → P y → P x
get_push_cases P [] y zero x e old new = let same : y ≡ x = cc in subst P same new
get_push_cases P [] y (suc k) x e old new = absurd (cc)
get_push_cases P (a ∷ xs) y zero x e old new = old e
get_push_cases P (a ∷ xs) y (suc k) x e old new = get_push_cases P xs y k x e old new

-- the item that an index finds
pub indexed : {X : Type 0} (xs : List X) (k : ℕ) (x y : X) → slice_get xs k ≡ Some x → y ≡ get_or xs k y → slice_get xs k ≡ Some y
indexed [] k x y at is = absurd (cc)
indexed (a ∷ xs) zero x y at is = ap Some (sym is)
indexed (a ∷ xs) (suc k) x y at is = indexed xs k x y at is

-- an item after one was set is the one that was set, or an old one at another place
pub get_set_cases : {X : Type 0} (P : X → Type 0) (xs : List X) (k j : ℕ) (x y z : X) → slice_get xs k ≡ Some x → slice_get (set xs k y) j ≡ Some z → (j ≡ k → P y) → (j ≢ k → slice_get xs j ≡ Some z → P z) → P z
get_set_cases P [] k j x y z at found new old = absurd (cc)
get_set_cases P (a ∷ xs) zero zero x y z at found new old = let same : y ≡ z = cc in subst P same (new refl)
get_set_cases P (a ∷ xs) zero (suc j) x y z at found new old = old (omega arith) found
get_set_cases P (a ∷ xs) (suc k) zero x y z at found new old = old (omega arith) found
get_set_cases P (a ∷ xs) (suc k) (suc j) x y z at found new old = get_set_cases P xs k j x y z at found (λ e. new (ap suc e)) (λ n e. old (λ q. n (omega (arith, q))) e)

-- an item set to itself
pub set_same : {X : Type 0} (xs : List X) (k : ℕ) (x : X) → slice_get xs k ≡ Some x → set xs k x ≡ xs
set_same [] k x e = refl
set_same (a ∷ xs) zero x e = let same : x ≡ a = cc in ap (λ y. y ∷ xs) same
set_same (a ∷ xs) (suc k) x e = ap (λ ys. a ∷ ys) (set_same xs k x e)

-- an item that is taken out and put back changed
pub put_back : {X : Type 0} (xs : List X) (k : ℕ) (y : X) → k < length xs → insert (remove xs k) k y ≡ set xs k y
put_back [] k y l = absurd (omega (arith, l))
put_back (a ∷ xs) zero y l = refl
put_back (a ∷ xs) (suc k) y l = ap (λ ys. a ∷ ys) (put_back xs k y (omega (arith, l)))

pub map_set : {X Y : Type 0} (f : X → Y) (xs : List X) (k : ℕ) (x : X) → map f (set xs k x) ≡ set (map f xs) k (f x)
map_set f [] k x = refl
map_set f (a ∷ xs) zero x = refl
map_set f (a ∷ xs) (suc k) x = ap (λ ys. f a ∷ ys) (map_set f xs k x)

pub get_within : {X : Type 0} (xs : List X) (k : ℕ) → k < length xs → (x : X) × (slice_get xs k ≡ Some x)
get_within [] k l = absurd (omega (arith, l))
get_within (x ∷ xs) zero l = (x, refl)
get_within (x ∷ xs) (suc k) l = get_within xs k (omega (arith, l))

pub get_map : {X Y : Type 0} (f : X → Y) (xs : List X) (k : ℕ) (x : X) → slice_get xs k ≡ Some x → slice_get (map f xs) k ≡ Some (f x)
get_map f [] k x e = absurd (cc)
get_map f (a ∷ xs) zero x e = let same : a ≡ x = cc in ap (λ y. Some (f y)) same
get_map f (a ∷ xs) (suc k) x e = get_map f xs k x e

pub get_read : {X : Type 0} (xs : List X) (k : ℕ) (x : X) → k < length xs → x ≡ get_or xs k x → slice_get xs k ≡ Some x
get_read [] k x l e = absurd (omega (arith, l))
get_read (a ∷ xs) zero x l e = ap Some (sym e)
get_read (a ∷ xs) (suc k) x l e = get_read xs k x (omega (arith, l)) e

-- ---- sums

-- the sum after one item was set
pub sum_set : {X : Type 0} (f : X → ℕ) (xs : List X) (k : ℕ) (x y : X) → slice_get xs k ≡ Some x → sum_by f (set xs k y) + f x ≡ sum_by f xs + f y
sum_set f [] k x y e = absurd (cc)
sum_set f (a ∷ xs) zero x y e =
    let same : f a ≡ f x = let is : a ≡ x = cc in ap f is in
    omega (arith, same, sum_by-cons f y xs, sum_by-cons f a xs)
sum_set f (a ∷ xs) (suc k) x y e = omega (arith, sum_set f xs k x y e, sum_by-cons f a (set xs k y), sum_by-cons f a xs)

-- an item's number is at most the sum of all
pub part_of : {X : Type 0} (f : X → ℕ) (xs : List X) (k : ℕ) (x : X) → slice_get xs k ≡ Some x → f x ≤ sum_by f xs
part_of f [] k x at = absurd (cc)
part_of f (a ∷ xs) zero x at = let same : a ≡ x = cc in subst (λ y. f y ≤ sum_by f (a ∷ xs)) same (omega (arith, sum_by-cons f a xs))
part_of f (a ∷ xs) (suc k) x at = let more = part_of f xs k x at in omega (arith, more, sum_by-cons f a xs)

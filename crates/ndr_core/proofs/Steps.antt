-- Steps of a read that succeeded, the bytes that are left, and bytes that are written behind others.
use Rattle.std.proofs.Common.{◌≡◌, ℕ, ◌+◌, Bool, true, false, cond, ◌&&◌, ◌||◌, List, ◌++◌, length, take, drop, Result, Ok, Err, refl, ap, ◌∙◌, append_assoc, arith, inl, inr}
use Rattle.std.proofs.lemmas.Bool.{cases_lt}
use Rattle.std.proofs.lemmas.List.{length-append, length-take, get_or-drop, get_or-take, get_or_past}
use Rattle.ndr_core.specs.declared.refusal.NdrBad.{NdrBad}
use Rattle.ndr_core.specs.Items.{◌>>=◌, AreBytes}
use Rattle.ndr_core.specs.Laws.{GrowAlike}

pub bind_ok : {A B : Type 0} (r : Result A NdrBad) (f : A → Result B NdrBad) (y : B) → (r >>= f) ≡ Ok y → (x : A) × (r ≡ Ok x) × (f x ≡ Ok y)
bind_ok (Ok x) f y e = (x, refl, e)
bind_ok (Err d) f y e = absurd cc

pub guard_ok : {A : Type 0} (b : Bool) (d : NdrBad) (x y : A) → cond b (Err d) (Ok x) ≡ Ok y → (b ≡ false) × (x ≡ y)
guard_ok true d x y e = absurd cc
guard_ok false d x y e = (refl, cc)

pub good_ok : {A : Type 0} (b : Bool) (d : NdrBad) (x y : A) → cond b (Ok x) (Err d) ≡ Ok y → (b ≡ true) × (x ≡ y)
good_ok true d x y e = (refl, cc)
good_ok false d x y e = absurd cc

abbrev pub done : {A : Type 0} → A → Result A NdrBad
done x = Ok x

pub ok_is : {A : Type 0} (x y : A) → done x ≡ done y → x ≡ y
ok_is x y e = cc

pub AreBytes-drop : (n : ℕ) (bytes : List ℕ) → AreBytes bytes → AreBytes (drop n bytes)
AreBytes-drop n bytes h i = rw get_or-drop (h (n + i))

pub AreBytes-take : (n : ℕ) (bytes : List ℕ) → AreBytes bytes → AreBytes (take n bytes)
AreBytes-take n bytes h i =
    elim (cases_lt i n) [
      | inl lt ↦ rw (get_or-take n bytes i 0 lt) (h i)
      | inr le ↦ rw (get_or_past (take n bytes) i 0 (omega (arith, length-take n bytes))) (omega arith)
    ]

pub or_false : (a b : Bool) → (a || b) ≡ false → (a ≡ false) × (b ≡ false)
or_false true b e = absurd cc
or_false false b e = (refl, e)

pub both_of : (a b : Bool) → (a && b) ≡ true → (a ≡ true) × (b ≡ true)
both_of true b e = (refl, e)
both_of false b e = absurd cc

-- ---- what is written behind bytes

-- bytes that grow alike stay of one length
pub alike_length : (x y p q : List ℕ) → length x ≡ length y → GrowAlike x y p q → length p ≡ length q
alike_length x y p q e alike = omega (arith, e, ap length alike.1, length-append x alike.0, ap length alike.2, length-append y alike.0)

-- and may go on growing alike
pub alike_on : (x y p q r s : List ℕ) → GrowAlike x y p q → GrowAlike p q r s → GrowAlike x y r s
alike_on x y p q r s first more = (
  first.0 ++ more.0,
  more.1 ∙ ap (λ (t : List ℕ). t ++ more.0) first.1 ∙ append_assoc x first.0 more.0,
  more.2 ∙ ap (λ (t : List ℕ). t ++ more.0) first.2 ∙ append_assoc y first.0 more.0,
)

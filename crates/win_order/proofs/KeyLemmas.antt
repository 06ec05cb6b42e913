-- Keys in their order: of two with different versions one is the lower, and not both.
use Rattle.std.proofs.Common.{◌≡◌, ℕ, Bool, true, ◌&&◌, ◌||◌, eqb, ltb, ◌⊎◌, arith}
use Rattle.std.proofs.lemmas.Bool.Decides.{nat_tests}
use Rattle.win_order.specs.Order.{key_lt}
use Rattle.win_order.specs.declared.key.Key.{Key}

-- a is the lower, or they are equal and the rest decides
abbrev pub lex : ℕ → ℕ → Bool → Bool
lex a b rest = ltb a b || (eqb a b && rest)

-- one way or the other, where the rest is
lex_total : (a b : ℕ) (r s : Bool) → (a ≡ b → (r ≡ true) ⊎ (s ≡ true)) → (lex a b r ≡ true) ⊎ (lex b a s ≡ true)
lex_total a b r s rest = grind (arith, nat_tests, rest)

-- not both ways, where the rest isn't
lex_asym : (a b : ℕ) (r s : Bool) → (r ≡ true → s ≡ true → ⊥) → lex a b r ≡ true → lex b a s ≡ true → ⊥
lex_asym a b r s rest p q = grind (arith, nat_tests, rest)

lower_of_two : (a b : ℕ) → (a ≡ b → ⊥) → (ltb a b ≡ true) ⊎ (ltb b a ≡ true)
lower_of_two a b apart = grind (arith, nat_tests)

not_both_lower : (a b : ℕ) → ltb a b ≡ true → ltb b a ≡ true → ⊥
not_both_lower a b p q = grind (arith, nat_tests)

-- of two keys with different versions one is the lower
pub key_total : (j k : Key) → (j.gvsn ≡ k.gvsn → ⊥) → (key_lt j k ≡ true) ⊎ (key_lt k j ≡ true)
key_total j k apart =
    lex_total j.fence k.fence _ _ (λ _. lex_total j.clock k.clock _ _ (λ _. lex_total j.created k.created _ _ (λ _.
    lex_total j.gvsn.db k.gvsn.db _ _ (λ db. lower_of_two j.gvsn.version k.gvsn.version
    (λ version. apart (λ i. record { db = db i; version = version i }))))))

-- and not both
pub key_asym : (j k : Key) → key_lt j k ≡ true → key_lt k j ≡ true → ⊥
key_asym j k =
    lex_asym j.fence k.fence _ _ (lex_asym j.clock k.clock _ _ (lex_asym j.created k.created _ _
    (lex_asym j.gvsn.db k.gvsn.db _ _ (not_both_lower j.gvsn.version k.gvsn.version))))

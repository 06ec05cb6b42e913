-- The order of keys, and equality of versions and files.
use Rattle.std.proofs.Common.{◌≡◌, ◌≢◌, ◌⊎◌, ℕ, Bool, true, false, inl, inr, arith, subst, sym}
use Rattle.std.proofs.lemmas.Bool.Decides.{nat_tests}
use Rattle.frs_base.specs.Versions.{gvsn_lt, same_gvsn, same_uid, uid_lt}
use Rattle.frs_base.specs.declared.version.Gvsn.{Gvsn}
use Rattle.frs_base.specs.declared.version.Uid.{Uid}
use Rattle.win_order.specs.Order.{Beats, key_lt, key_of}
use Rattle.win_order.specs.declared.key.Key.{Key}
use Rattle.win_order.specs.declared.update.Update.{Update}
use Rattle.win_order.proofs.KeyLemmas.{key_asym, lex}

-- ---- keys

lex_trans : (a b c : ℕ) (p q r : Bool) → (p ≡ true → q ≡ true → r ≡ true) → lex a b p ≡ true → lex b c q ≡ true → lex a c r ≡ true
lex_trans a b c p q r rest x y = grind (arith, nat_tests, rest)

gvsn_trans : (a b c : Gvsn) → gvsn_lt a b ≡ true → gvsn_lt b c ≡ true → gvsn_lt a c ≡ true
gvsn_trans a b c p q = grind (arith, nat_tests)

pub key_trans : (a b c : Key) → key_lt a b ≡ true → key_lt b c ≡ true → key_lt a c ≡ true
key_trans a b c p q =
    lex_trans a.fence b.fence c.fence _ _ _
    (lex_trans a.clock b.clock c.clock _ _ _
    (lex_trans a.created b.created c.created _ _ _ (gvsn_trans a.gvsn b.gvsn c.gvsn))) p q

pub key_irrefl : (a : Key) → key_lt a a ≡ true → ⊥
key_irrefl a lower = key_asym a a lower lower

lex_cut : (x y z : ℕ) (p q r : Bool) → (p ≡ true → q ≡ false → r ≡ true) → lex x z p ≡ true → lex y z q ≡ false → lex x y r ≡ true
lex_cut x y z p q r rest a b = grind (arith, nat_tests, rest)

gvsn_cut : (x y z : Gvsn) → gvsn_lt x z ≡ true → gvsn_lt y z ≡ false → gvsn_lt x y ≡ true
gvsn_cut x y z a b = grind (arith, nat_tests)

-- what is below z is below what isn't
pub key_cut : (x y z : Key) → key_lt x z ≡ true → key_lt y z ≡ false → key_lt x y ≡ true
key_cut x y z a b =
    lex_cut x.fence y.fence z.fence _ _ _
    (lex_cut x.clock y.clock z.clock _ _ _
    (lex_cut x.created y.created z.created _ _ _ (gvsn_cut x.gvsn y.gvsn z.gvsn))) a b

lex_same : (x y : ℕ) (p q : Bool) → lex x y p ≡ false → lex y x q ≡ false → (x ≡ y) × (p ≡ false) × (q ≡ false)
lex_same x y p q a b =
    let same : x ≡ y = grind (arith, nat_tests) in
    let first : p ≡ false = grind (arith, nat_tests) in
    let second : q ≡ false = grind (arith, nat_tests) in
    (same, first, second)

-- keys of which neither is lower have one version
pub key_same : (a b : Key) → key_lt a b ≡ false → key_lt b a ≡ false → a.gvsn ≡ b.gvsn
key_same a b p q =
    let (_, p1, q1) = lex_same a.fence b.fence _ _ p q in
    let (_, p2, q2) = lex_same a.clock b.clock _ _ p1 q1 in
    let (_, p3, q3) = lex_same a.created b.created _ _ p2 q2 in
    let db : a.gvsn.db ≡ b.gvsn.db = grind (arith, nat_tests) in
    let version : a.gvsn.version ≡ b.gvsn.version = grind (arith, nat_tests) in
    λ i. record { db = db i; version = version i }

-- what isn't beaten has no lower key
pub not_below : (u v : Update) → u.uid ≡ v.uid → (Beats v u → ⊥) → key_lt (key_of u) (key_of v) ≡ false
not_below u v file unbeaten = by (key_lt (key_of u) (key_of v)) (λ e. unbeaten (record { file = sym file; greater = e }))
  where
    by : (b : Bool) → (b ≡ true → ⊥) → b ≡ false
    by false n = cc
    by true n = absurd (n (cc))

-- ---- versions and files

pub same_gvsn_is : (g h : Gvsn) → same_gvsn g h ≡ true → g ≡ h
same_gvsn_is g h same =
    let db : g.db ≡ h.db = grind (arith, nat_tests) in
    let version : g.version ≡ h.version = grind (arith, nat_tests) in
    λ i. record { db = db i; version = version i }

pub same_gvsn_refl : (g : Gvsn) → same_gvsn g g ≡ true
same_gvsn_refl g = grind (arith, nat_tests)

pub same_uid_is : (a b : Uid) → same_uid a b ≡ true → a ≡ b
same_uid_is a b same =
    let db : a.db ≡ b.db = grind (arith, nat_tests) in
    let version : a.version ≡ b.version = grind (arith, nat_tests) in
    λ i. record { db = db i; version = version i }

pub same_uid_refl : (a : Uid) → same_uid a a ≡ true
same_uid_refl a = grind (arith, nat_tests)

-- of one file or not
pub uid_cases : (a b : Uid) → (a ≡ b) ⊎ (a ≢ b)
uid_cases a b = by (same_uid a b) (λ e. same_uid_is a b e) (λ s. subst (λ x. same_uid a x ≡ true) s (same_uid_refl a))
  where
    by : (t : Bool) → (t ≡ true → a ≡ b) → (a ≡ b → t ≡ true) → (a ≡ b) ⊎ (a ≢ b)
    by true is back = inl (is (cc))
    by false is back = inr (λ s. let t = back s in cc)

pub uid_trans : (a b c : Uid) → uid_lt a b ≡ true → uid_lt b c ≡ true → uid_lt a c ≡ true
uid_trans a b c p q = grind (arith, nat_tests)

pub uid_total : (a b : Uid) → uid_lt a b ≡ false → same_uid a b ≡ false → uid_lt b a ≡ true
uid_total a b p q = grind (arith, nat_tests)

pub uid_apart : (a b : Uid) → uid_lt a b ≡ true → a ≡ b → ⊥
uid_apart a b lower same = let l : uid_lt b b ≡ true = subst (λ x. uid_lt x b ≡ true) same lower in grind (arith, nat_tests)

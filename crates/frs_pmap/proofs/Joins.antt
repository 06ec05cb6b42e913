-- Two that stand beside each other, joined.
use Rattle.std.proofs.Common.{◌≡◌, ◌∙◌, ◌+◌, ◌-◌, ◌<◌, ℕ, List, [], ◌∷◌, ◌++◌, Some, refl, sym, ap, subst, suc, zero, length, set, take, drop, arith, append_assoc}
use Rattle.std.specs.Prelude.{remove, slice_get}
use Rattle.std.specs.List.{AllByRecursion, flat_map}
use Rattle.std.proofs.lemmas.List.{take-append-drop, take_rest}
use Rattle.frs_pmap.specs.Trees.{AreHeaded, HasHead, IsJoined, entries_of, flat}
use Rattle.frs_pmap.proofs.Leaves.{front_is}
use Rattle.frs_pmap.proofs.Orders.{all_back, all_front, all_join}
use Rattle.frs_pmap.proofs.Parts.{at_one, flat_flat, pieces_headed}

-- what they hold together is the same
pair_flat : {P E : Type 0} (f : P → List E) (cs : List P) (at : ℕ) (a b y : P) → slice_get cs at ≡ Some a → slice_get cs (suc at) ≡ Some b → f y ≡ f a ++ f b
    → flat_map f (take at cs ++ (y ∷ drop (suc (suc at)) cs)) ≡ flat_map f cs
pair_flat f [] at a b y g h e = absurd (cc)
pair_flat f (c ∷ []) zero a b y g h e = absurd (cc)
pair_flat f (c ∷ d ∷ cs) zero a b y g h e =
    let s : a ≡ c = cc in
    let t : b ≡ d = cc in
    ap (λ l. l ++ flat_map f cs) e ∙ append_assoc (f a) (f b) (flat_map f cs) ∙ ap (λ x. f x ++ (f b ++ flat_map f cs)) s ∙ ap (λ x. f c ++ (f x ++ flat_map f cs)) t
pair_flat f (c ∷ cs) (suc at) a b y g h e = ap (λ l. f c ++ l) (pair_flat f cs at a b y g h e)

-- the same with places as the code counts them
pub pair_holds : {P E : Type 0} (f : P → List E) (cs r : List P) (at : ℕ) (a b y : P) → slice_get cs at ≡ Some a → slice_get cs (at + 1) ≡ Some b → f y ≡ f a ++ f b
    → r ≡ take at cs ++ (y ∷ drop (at + 2) cs) → flat_map f r ≡ flat_map f cs
pair_holds f cs r at a b y g h e is =
    let n : at + 1 ≡ suc at = omega arith in
    let m : at + 2 ≡ suc (suc at) = omega arith in
    ap (flat_map f) (is ∙ ap (λ i. take at cs ++ (y ∷ drop i cs)) m) ∙ pair_flat f cs at a b y g (ap (slice_get cs) (sym n) ∙ h) e

-- what holds of each holds after two are joined
pub pair_all : {P : Type 0} (Q : P → Type 0) (cs r : List P) (at : ℕ) (y : P) → AllByRecursion Q cs → Q y → r ≡ take at cs ++ (y ∷ drop (at + 2) cs) → AllByRecursion Q r
pair_all Q cs r at y p q is =
    let front : AllByRecursion Q (take at cs) = all_front Q (take at cs) (drop at cs) (subst (AllByRecursion Q) (sym (take-append-drop at cs)) p) in
    let back : AllByRecursion Q (drop (at + 2) cs) = all_back Q (take (at + 2) cs) (drop (at + 2) cs) (subst (AllByRecursion Q) (sym (take-append-drop (at + 2) cs)) p) in
    subst (AllByRecursion Q) (sym is) (all_join Q (take at cs) (y ∷ drop (at + 2) cs) front (q, back))

-- one taken out, and the one before it changed
pub pair_set : {P : Type 0} (cs : List P) (at : ℕ) (y : P) → at + 1 < length cs → set (remove cs (at + 1)) at y ≡ take at cs ++ (y ∷ drop (at + 2) cs)
pair_set {P} cs at y within =
    let n : at + 1 ≡ suc at = omega arith in
    let m : at + 2 ≡ suc (suc at) = omega arith in
    ap (λ i. set (remove cs i) at y) n ∙ by cs at (omega arith) ∙ sym (ap (λ i. take at cs ++ (y ∷ drop i cs)) m)
  where
    by : (cs : List P) (at : ℕ) → suc at < length cs → set (remove cs (suc at)) at y ≡ take at cs ++ (y ∷ drop (suc (suc at)) cs)
    by [] at w = absurd (omega arith)
    by (c ∷ []) zero w = absurd (omega arith)
    by (c ∷ d ∷ cs) zero w = refl
    by (c ∷ cs) (suc at) w = ap (λ l. c ∷ l) (by cs at (omega arith))

-- ---- rows

all_of : {Y : Type 0} (xs : List Y) (n : ℕ) → n ≡ length xs → take (n - 0) (drop 0 xs) ≡ xs
all_of xs n e = ap (λ m. take (m - 0) (drop 0 xs)) e ∙ take_rest xs 0

module _ {K X : Type 0} where
  pub head_more : (k : K) (l m : List (K × X)) → HasHead k l → HasHead k (l ++ m)
  head_more k [] m h = absurd h
  head_more k (e ∷ l) m h = h

  -- the rows that the code makes
  pub pair_joined : (cs r : List (K × List (K × X))) (at : ℕ) (a b : K × List (K × X)) (one : List (K × X)) → slice_get cs at ≡ Some a → slice_get cs (at + 1) ≡ Some b → one ≡ a.1 ++ b.1
      → r ≡ take at cs ++ ((a.0, one) ∷ drop (at + 2) cs) → IsJoined cs r
  pair_joined cs r at a b one g h e is = record {
    flat = pair_holds (λ (c : K × List (K × X)). c.1) cs r at a b (a.0, one) g h e is;
    headed = λ p. pair_all (λ (c : K × List (K × X)). HasHead c.0 c.1) cs r at (a.0, one) p
        (subst (HasHead a.0) (sym e) (head_more a.0 a.1 b.1 (at_one (λ (c : K × List (K × X)). HasHead c.0 c.1) cs at a g p))) is;
  }

  pub pair_made : (cs : List (K × List (K × X))) (at n m w : ℕ) (a b : K × List (K × X)) (r0 r1 r2 : List (K × X)) (o0 o1 o2 o3 : List (K × List (K × X))) → n ≡ length cs → m ≡ length a.1 → w ≡ length b.1
      → slice_get cs at ≡ Some a → slice_get cs (at + 1) ≡ Some b → r0 ≡ [] → r1 ≡ r0 ++ take (m - 0) (drop 0 a.1) → r2 ≡ r1 ++ take (w - 0) (drop 0 b.1)
      → o0 ≡ [] → o1 ≡ o0 ++ take (at - 0) (drop 0 cs) → o2 ≡ o1 ++ (a.0, r2) ∷ [] → o3 ≡ o2 ++ take (n - (at + 2)) (drop (at + 2) cs) → IsJoined cs o3
  pair_made cs at n m w a b r0 r1 r2 o0 o1 o2 o3 nl ml wl g h e0 e1 e2 p0 p1 p2 p3 =
      let both : r2 ≡ a.1 ++ b.1 = e2 ∙ ap (λ l. l ++ take (w - 0) (drop 0 b.1)) (e1 ∙ ap (λ l. l ++ take (m - 0) (drop 0 a.1)) e0 ∙ all_of a.1 m ml) ∙ ap (λ l. a.1 ++ l) (all_of b.1 w wl) in
      let front : o1 ≡ take at cs = p1 ∙ ap (λ l. l ++ take (at - 0) (drop 0 cs)) p0 ∙ front_is cs at in
      let rest : take (n - (at + 2)) (drop (at + 2) cs) ≡ drop (at + 2) cs = ap (λ i. take (i - (at + 2)) (drop (at + 2) cs)) nl ∙ take_rest cs (at + 2) in
      let one : K × List (K × X) = (a.0, r2) in
      let is : o3 ≡ take at cs ++ (one ∷ drop (at + 2) cs) =
      p3 ∙ ap (λ l. l ++ take (n - (at + 2)) (drop (at + 2) cs)) (p2 ∙ ap (λ l. l ++ one ∷ []) front) ∙ append_assoc (take at cs) (one ∷ []) (take (n - (at + 2)) (drop (at + 2) cs)) ∙ ap (λ l. take at cs ++ (one ∷ l)) rest in
      pair_joined cs o3 at a b r2 g h both is

  pub joined_twice : (a b c : List (K × List (K × X))) → IsJoined a b → IsJoined b c → IsJoined a c
  joined_twice a b c j k = record { flat = k.flat ∙ j.flat; headed = λ p. k.headed (j.headed p) }

module _ {K V : Type 0} where
  pub joined_entries : (parts out : List (K × List (K × List (K × V)))) → IsJoined parts out → entries_of out ≡ entries_of parts
  joined_entries parts out j = flat_flat out ∙ ap flat j.flat ∙ sym (flat_flat parts)

  flat_headed : (ps : List (K × List (K × List (K × V)))) → AllByRecursion (λ c. AreHeaded c.1) ps → AreHeaded (flat ps)
  flat_headed [] a = tt
  flat_headed (p ∷ ps) a = all_join (λ (c : K × List (K × V)). HasHead c.0 c.1) p.1 (flat ps) a.0 (flat_headed ps a.1)

  pub joined_middles : (parts out : List (K × List (K × List (K × V)))) → IsJoined parts out → AllByRecursion (λ c. AreHeaded c.1) parts → AllByRecursion (λ c. AreHeaded c.1) out
  joined_middles parts out j a = pieces_headed out (subst AreHeaded (sym j.flat) (flat_headed parts a))

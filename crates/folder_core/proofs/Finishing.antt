-- The least own version of a vector that isn't consumed.
use Rattle.std.proofs.Common.{◌≡◌, ◌<◌, ◌≤◌, ℕ, max, Bool, true, false, cond, eqb, leb, ltb, ◌&&◌, ◌||◌, ◌⊎◌, List, [], ◌∷◌, Some, None, refl, sym, ap, ◌∙◌, subst, inl, inr, arith}
use Rattle.std.specs.Prelude.{find, is_none}
use Rattle.std.specs.Cmp.Lexicographic.{pointwise}
use Rattle.std.proofs.lemmas.Bool.Decides.{nat_tests}
use Rattle.frs_base.specs.declared.version.Gvsn.{Gvsn}
use Rattle.version_vector.specs.Versions.{IsCanonical, covers, inside, is_before}
use Rattle.version_vector.specs.declared.interval.Interval.{Interval}
use Rattle.record_db.specs.declared.command.BookCmd.TheVariants as cmd
use Rattle.folder_core.specs.Machine.{Machine}
use Rattle.record_db.specs.Steps.{is_past}
use Rattle.folder_core.specs.Finish.{HasNoneAhead, IsLeastAhead}
use Rattle.folder_core.specs.Given.{StaysSound}
use Rattle.folder_core.specs.Sound.{IsSound}
use Rattle.folder_core.proofs.Sounding.{finished_sound}

-- the version of a database
abbrev pub version_of : ℕ → ℕ → Gvsn
version_of db version = record { db = db; version = version }

none_some : {T : Type 0} (x : T) → Some x ≡ None → ⊥
none_some x e = cc

-- the first interval, or one of the others, has the version
either : (i : Interval) (rest : List Interval) (g : Gvsn) → covers (i ∷ rest) g ≡ true → (inside i g ≡ true) ⊎ (covers rest g ≡ true)
either i rest g e = by (inside i g) e
  where
    by : (b : Bool) → (b || covers rest g) ≡ true → (b ≡ true) ⊎ (covers rest g ≡ true)
    by true e = inl refl
    by false e = inr e

-- where no interval reaches past a version, none has one from there on
pub none_past : (db low : ℕ) (list : List Interval) → find (λ i. is_past db low i) list ≡ None → (version : ℕ) → low ≤ version → covers list (version_of db version) ≡ true → ⊥
none_past db low [] e version from c = cc c
none_past db low (i ∷ rest) e version from c = by (is_past db low i) refl e (either i rest (version_of db version) c) (λ later has. none_past db low rest later version from has)
  where
    by : (b : Bool) → is_past db low i ≡ b → cond b (Some i) (find (λ j. is_past db low j) rest) ≡ None → (inside i (version_of db version) ≡ true) ⊎ (covers rest (version_of db version) ≡ true)
        → (find (λ j. is_past db low j) rest ≡ None → covers rest (version_of db version) ≡ true → ⊥) → ⊥
    by true p e c later = none_some i e
    by false p e (inl here) later = grind (arith, nat_tests)
    by false p e (inr there) later = later e there

-- ---- the first that does

tail_form : (i : Interval) (rest : List Interval) → IsCanonical (i ∷ rest) → IsCanonical rest
tail_form i [] form = tt
tail_form i (j ∷ rest) form = form.2

head_full : (i : Interval) (rest : List Interval) → IsCanonical (i ∷ rest) → i.low < i.high
head_full i [] form = form
head_full i (j ∷ rest) form = form.0

-- the intervals behind one stand behind it: of a later database, or past its end
abbrev IsBehind : Interval → Gvsn → Type 0
IsBehind i g = (i.db < g.db) ⊎ ((i.db ≡ g.db) × (i.high ≤ g.version))

behind_here : (i j : Interval) (g : Gvsn) → is_before i j ≡ true → inside j g ≡ true → IsBehind i g
behind_here i j g before here = by (ltb i.db j.db) refl
  where
    by : (b : Bool) → ltb i.db j.db ≡ b → IsBehind i g
    by true e = let later : i.db < g.db = grind (arith, nat_tests) in inl later
    by false e =
        let one : i.db ≡ g.db = grind (arith, nat_tests) in
        let past : i.high ≤ g.version = grind (arith, nat_tests) in
        inr (one, past)

behind_on : (i j : Interval) (g : Gvsn) → is_before i j ≡ true → j.low < j.high → IsBehind j g → IsBehind i g
behind_on i j g before full (inl later) = by (ltb i.db j.db) refl
  where
    by : (b : Bool) → ltb i.db j.db ≡ b → IsBehind i g
    by true e = let past : i.db < g.db = grind (arith, nat_tests) in inl past
    by false e = let past : i.db < g.db = grind (arith, nat_tests) in inl past
behind_on i j g before full (inr past) = by (ltb i.db j.db) refl
  where
    same : j.db ≡ g.db
    same = past.0

    high : j.high ≤ g.version
    high = past.1

    by : (b : Bool) → ltb i.db j.db ≡ b → IsBehind i g
    by true e = let later : i.db < g.db = grind (arith, nat_tests, same) in inl later
    by false e =
        let one : i.db ≡ g.db = grind (arith, nat_tests, same) in
        let end : i.high ≤ g.version = grind (arith, nat_tests, high) in
        inr (one, end)

behind_first : (i : Interval) (rest : List Interval) (g : Gvsn) → IsCanonical (i ∷ rest) → covers rest g ≡ true → IsBehind i g
behind_first i [] g form c = absurd (cc c)
behind_first i (j ∷ rest) g form c = by (either j rest g c) (λ there. behind_first j rest g form.2 there)
  where
    by : (inside j g ≡ true) ⊎ (covers rest g ≡ true) → (covers rest g ≡ true → IsBehind j g) → IsBehind i g
    by (inl here) later = behind_here i j g form.1 here
    by (inr there) later = behind_on i j g form.1 (head_full j rest form.2) (later there)

-- it is the least version from low on that the list covers
pub record IsLeastFrom (db low : ℕ) (list : List Interval) (least : ℕ) : Type 0 where
  pub from : low ≤ least
  pub covered : covers list (version_of db least) ≡ true
  pub least_of : (version : ℕ) → low ≤ version → covers list (version_of db version) ≡ true → least ≤ version

first_least : (db low : ℕ) (i : Interval) (rest : List Interval) → IsCanonical (i ∷ rest) → is_past db low i ≡ true → IsLeastFrom db low (i ∷ rest) (max low i.low)
first_least db low i rest form past = record {
  from = omega arith;
  covered = here (inside i (version_of db (max low i.low))) has;
  least_of = λ version from c. by version from (either i rest (version_of db version) c);
}
  where
    full : i.low < i.high
    full = head_full i rest form

    has : inside i (version_of db (max low i.low)) ≡ true
    has = grind (arith, nat_tests, full)

    here : (b : Bool) → b ≡ true → (b || covers rest (version_of db (max low i.low))) ≡ true
    here true e = refl
    here false e = absurd (cc e)

    by : (version : ℕ) → low ≤ version → (inside i (version_of db version) ≡ true) ⊎ (covers rest (version_of db version) ≡ true) → max low i.low ≤ version
    by version from (inl c) = let b : i.low ≤ version = grind (arith, nat_tests) in omega (arith, b, from)
    by version from (inr c) = elim (behind_first i rest (version_of db version) form c) [
      | inl later ↦ let same : i.db ≡ db = grind (arith, nat_tests) in absurd (omega (arith, later, same))
      | inr b ↦ let high = b.1 in omega (arith, high, full, from)
    ]

-- the first interval that reaches past a version has the least from there on
pub first_past : (db low : ℕ) (list : List Interval) (i : Interval) → IsCanonical list → find (λ j. is_past db low j) list ≡ Some i → IsLeastFrom db low list (max low i.low)
first_past db low [] i form e = absurd (cc e)
first_past db low (j ∷ rest) i form e = by (is_past db low j) refl e (λ later. first_past db low rest i (tail_form j rest form) later)
  where
    by : (b : Bool) → is_past db low j ≡ b → cond b (Some j) (find (λ k. is_past db low k) rest) ≡ Some i
        → (find (λ k. is_past db low k) rest ≡ Some i → IsLeastFrom db low rest (max low i.low)) → IsLeastFrom db low (j ∷ rest) (max low i.low)
    by true p e later = let same : j ≡ i = cc in subst (λ k. IsLeastFrom db low (j ∷ rest) (max low k.low)) same (first_least db low j rest form p)
    by false p e later =
        let h = later e in
        record {
          from = h.from;
          covered = here (inside j (version_of db (max low i.low))) h.covered;
          least_of = λ version from c. beyond version from (either j rest (version_of db version) c) (h.least_of version from);
        }
      where
        here : (b : Bool) → covers rest (version_of db (max low i.low)) ≡ true → (b || covers rest (version_of db (max low i.low))) ≡ true
        here true c = refl
        here false c = c

        beyond : (version : ℕ) → low ≤ version → (inside j (version_of db version) ≡ true) ⊎ (covers rest (version_of db version) ≡ true)
            → (covers rest (version_of db version) ≡ true → max low i.low ≤ version) → max low i.low ≤ version
        beyond version from (inl c) next = absurd (grind (arith, nat_tests))
        beyond version from (inr c) next = next c

-- ---- what is answered

pub has_none : (m : Machine) (sent : List Interval) → find (λ i. is_past m.book.own m.book.consumed i) sent ≡ None → HasNoneAhead m sent
has_none m sent e version (from, c) = none_past m.book.own m.book.consumed sent e version from c

pub is_least : (m : Machine) (sent : List Interval) (i : Interval) → IsCanonical sent → find (λ j. is_past m.book.own m.book.consumed j) sent ≡ Some i → IsLeastAhead m sent (max m.book.consumed i.low)
is_least m sent i form e =
    let h = first_past m.book.own m.book.consumed sent i form e in
    ((h.from, h.covered), λ other has. h.least_of other has.0 has.1)

-- ---- what may be done

-- a vector with no own version ahead may be covered
pub may_finish : (m : Machine) (sent : List Interval) → IsSound m → HasNoneAhead m sent → StaysSound (cmd.Finish sent) m
may_finish m sent h none new book c = finished_sound m sent new h (λ g covered own. fits g covered own) book c
  where
    fits : (g : Gvsn) → covers sent g ≡ true → g.db ≡ m.book.own → g.version < m.book.consumed
    fits g covered own = by (leb m.book.consumed g.version) refl
      where
        by : (b : Bool) → leb m.book.consumed g.version ≡ b → g.version < m.book.consumed
        by true e =
            let from : m.book.consumed ≤ g.version = grind (arith, nat_tests) in
            let same : g ≡ version_of m.book.own g.version = (λ i. record { db = own i; version = g.version }) in
            absurd (none g.version (from, ap (λ h. covers sent h) (sym same) ∙ covered))
        by false e = grind (arith, nat_tests)

-- the same, of what was found for equal values
pub none_found : (m : Machine) (own consumed : ℕ) (list sent : List Interval) → own ≡ m.book.own → consumed ≡ m.book.consumed → list ≡ sent → None ≡ find (λ i. is_past own consumed i) list → HasNoneAhead m sent
none_found m own consumed list sent p q r e = has_none m sent (path ∙ sym e)
  where
    path : find (λ i. is_past m.book.own m.book.consumed i) sent ≡ find (λ i. is_past own consumed i) list
    path = λ k. find (λ i. is_past (sym p k) (sym q k) i) (sym r k)

pub none_allowed : (m : Machine) (own consumed : ℕ) (list sent : List Interval) → own ≡ m.book.own → consumed ≡ m.book.consumed → list ≡ sent → None ≡ find (λ i. is_past own consumed i) list
    → is_none (find (λ i. is_past m.book.own m.book.consumed i) sent) ≡ true
none_allowed m own consumed list sent p q r e = ap is_none (path ∙ sym e)
  where
    path : find (λ i. is_past m.book.own m.book.consumed i) sent ≡ find (λ i. is_past own consumed i) list
    path = λ k. find (λ i. is_past (sym p k) (sym q k) i) (sym r k)

pub least_found : (m : Machine) (own consumed least : ℕ) (list sent : List Interval) (i : Interval) → own ≡ m.book.own → consumed ≡ m.book.consumed → list ≡ sent → IsCanonical sent
    → Some i ≡ find (λ j. is_past own consumed j) list → least ≡ max consumed i.low → IsLeastAhead m sent least
least_found m own consumed least list sent i p q r form e is =
    subst (λ n. IsLeastAhead m sent n) (ap (λ n. max n i.low) (sym q) ∙ sym is) (is_least m sent i form (path ∙ sym e))
  where
    path : find (λ j. is_past m.book.own m.book.consumed j) sent ≡ find (λ j. is_past own consumed j) list
    path = λ k. find (λ j. is_past (sym p k) (sym q k) j) (sym r k)

-- ---- lists of intervals

-- lists that agree by a test that tells items apart are one
pub lists_told : {T : Type 0} (E : T → T → Bool) → ((x y : T) → E x y ≡ true → x ≡ y) → (xs ys : List T) → pointwise E xs ys ≡ true → xs ≡ ys
lists_told E tells [] [] e = refl
lists_told E tells [] (y ∷ ys) e = absurd (cc e)
lists_told E tells (x ∷ xs) [] e = absurd (cc e)
lists_told E tells (x ∷ xs) (y ∷ ys) e = by (E x y) refl e (λ rest. lists_told E tells xs ys rest)
  where
    by : (b : Bool) → E x y ≡ b → (b && pointwise E xs ys) ≡ true → (pointwise E xs ys ≡ true → xs ≡ ys) → (x ∷ xs) ≡ (y ∷ ys)
    by true p e rest = let first = tells x y p in let others = rest e in (λ i. first i ∷ others i)
    by false p e rest = absurd (cc e)

pub list_told : {T : Type 0} (E : T → T → Bool) → ((x : T) → E x x ≡ true) → (xs : List T) → pointwise E xs xs ≡ true
list_told E same [] = refl
list_told E same (x ∷ xs) = by (E x x) (same x) (list_told E same xs)
  where
    by : (b : Bool) → b ≡ true → pointwise E xs xs ≡ true → (b && pointwise E xs xs) ≡ true
    by true p rest = rest
    by false p rest = absurd (cc p)

-- the intervals are one
abbrev pub same_interval : Interval → Interval → Bool
same_interval x y = eqb x.db y.db && (eqb x.low y.low && eqb x.high y.high)

pub interval_told : (x y : Interval) → same_interval x y ≡ true → x ≡ y
interval_told x y e =
    let db : x.db ≡ y.db = grind (arith, nat_tests) in
    let low : x.low ≡ y.low = grind (arith, nat_tests) in
    let high : x.high ≡ y.high = grind (arith, nat_tests) in
    (λ i. record { db = db i; low = low i; high = high i })

pub interval_same : (x : Interval) → same_interval x x ≡ true
interval_same x = grind (arith, nat_tests)

-- Each step keeps the rule.
use Rattle.std.proofs.Common.{◌≡◌, ◌∙◌, ℕ, zero, suc, ◌+◌, ◌<◌, ◌≤◌, ◌==◌, ◌&&◌, Bool, true, false, eqb, List, [], ◌∷◌, ◌++◌, length, set, inl, inr, refl, sym, ap, subst, arith, replicate}
use Rattle.std.specs.Prelude.{◌⊎◌, slice_index}
use Rattle.std.proofs.lemmas.Bool.{eqb-true, eqb-false, ne_eqb}
use Rattle.std.proofs.lemmas.List.{length-replicate, get_or-set_same, get_or-set_other, length-set}
use mathlib.Core.Option.{some}
use lib.ListN.{get_elem?}
use Rattle.atomic_table.specs.Table.{Allows, Joins, Me, Splits, keeps}
use Rattle.credit_gate.specs.declared.view.View.{View}
use Rattle.credit_gate.specs.Rule.{Counted, Kept, alone, first_view, fresh_view, one_if, times, total}
use Rattle.credit_gate.specs.Steps.{IsEntered, Tried, entered, joined, left, refused, split_off}
use Rattle.credit_gate.proofs.Totals.{none_at, one_at, times_append, times_without, total_least, total_only, total_set, total_snoc}

-- ---- the first seat

abbrev Alone : List View → Type 0
Alone views = (total alone views ≡ 0) ⊎ (length views ≡ 1)

-- a seat whose view is as much the first one as before
alone_set : (views : List View) (id : ℕ) (v w : View) → get_elem? views id ≡ some v → alone w ≡ alone v → Alone views → Alone (set views id w)
alone_set views id v w at same (inl zero_is) = inl (omega (arith, total_set alone views id v w at, same, zero_is))
alone_set views id v w at same (inr one) = inr (length-set views id w ∙ one)

-- the only seat has each place that is taken
only_has : (words : List ℕ) (views : List View) (id : ℕ) (v : View) → Counted words views → Alone views → get_elem? views id ≡ some v → alone v ≡ 1 → (i : ℕ) → slice_index words i ≡ times i v.places
only_has words views id v counted (inl zero_is) at is i = absurd (omega (arith, total_least alone views id v at, zero_is, is))
only_has words views id v counted (inr one) at is i = sym (counted i).0 ∙ total_only (λ u. times i u.places) views id v one at

-- ---- one word and one view

counted_set : (words : List ℕ) (views : List View) (id place n : ℕ) (v w : View) → place < length words → Counted words views → get_elem? views id ≡ some v
    → ((i : ℕ) → (i ≡ place → ⊥) → times i w.places ≡ times i v.places) → (total (λ u. times place u.places) (set views id w) ≡ n) → n ≤ 1 → Counted (set words place n) (set views id w)
counted_set words views id place n v w room counted at others here small i = by (i == place) refl
  where
    by : (b : Bool) → (i == place) ≡ b → (total (λ u. times i u.places) (set views id w) ≡ slice_index (set words place n) i) × (slice_index (set words place n) i ≤ 1)
    by true e =
        let P : ℕ → Type 0 = λ j. (total (λ u. times j u.places) (set views id w) ≡ slice_index (set words place n) j) × (slice_index (set words place n) j ≤ 1) in
        let same : slice_index (set words place n) place ≡ n = get_or-set_same words place n 0 room in
        subst P (sym (eqb-true i place e)) (here ∙ sym same, subst (λ (m : ℕ). m ≤ 1) (sym same) small)
    by false e =
        let apart : i ≡ place → ⊥ = eqb-false i place e in
        let k = counted i in
        let same : slice_index (set words place n) i ≡ slice_index words i = get_or-set_other words place i n 0 apart in
        (omega (arith, total_set (λ u. times i u.places) views id v w at, others i apart, k.0, same), omega (arith, same, k.1))

-- ---- entering

Entering : ℕ → ℕ → ℕ → ℕ → List ℕ → List View → View → Type 0
Entering count last place id words views v = (w : View) × Kept count (set words place 1) (set views id w) × Tried last place v (slice_index words place) w

enters : (count last place id : ℕ) (words : List ℕ) (views : List View) (v : View) → place < count → Kept count words views → get_elem? views id ≡ some v → (b : Bool) → (slice_index words place == 0) ≡ b
    → (w : View) × Kept count (set words place 1) (set views id w) × IsEntered b last place v w
enters count last place id words views v room kept at true e =
    let w : View = entered place v in
    let free : slice_index words place ≡ 0 = eqb-true _ _ e in
    let k = kept.1 place in
    let more : times place w.places ≡ times place v.places + 1 = times_append place v.places (place ∷ []) ∙ omega (arith, one_at place place refl) in
    let here : total (λ u. times place u.places) (set views id w) ≡ 1 = omega (arith, total_set (λ u. times place u.places) views id v w at, more, k.0, free) in
    let others : (i : ℕ) → (i ≡ place → ⊥) → times i w.places ≡ times i v.places = λ i apart. times_append i v.places (place ∷ []) ∙ omega (arith, none_at place i (λ q. apart (sym q))) in
    (w, (length-set words place 1 ∙ kept.0, counted_set words views id place 1 v w (omega (arith, room, kept.0)) kept.1 at others here (omega arith), alone_set views id v w at refl kept.2), refl)
enters count last place id words views v room kept at false e =
    let w : View = refused last place v in
    let k = kept.1 place in
    let some_found : slice_index words place ≡ 0 → ⊥ = eqb-false _ _ e in
    let one : slice_index words place ≡ 1 = omega (arith, k.1, some_found) in
    let here : total (λ u. times place u.places) (set views id w) ≡ 1 = omega (arith, total_set (λ u. times place u.places) views id v w at, k.0, one) in
    let has : alone v ≡ 1 → 0 < times place v.places = λ is. omega (arith, only_has words views id v kept.1 kept.2 at is place, one) in
    (w, (length-set words place 1 ∙ kept.0, counted_set words views id place 1 v w (omega (arith, room, kept.0)) kept.1 at (λ i apart. refl) here (omega arith), alone_set views id v w at refl kept.2), (refl, has))

pub tries : (count last id place : ℕ) (me : Me (Unit {0}) View) (slots : ℕ) → place < count
    → Allows {S = Unit {0}} (λ s. Kept count s.words s.views) slots id me place (λ _. 1) (λ found w. Tried last place me.0 found w.0 × (w.1 ≡ me.1))
tries count last id place me slots room s kept homes at small =
    let g = enters count last place id s.words s.views me.0 room kept at (slice_index s.words place == 0) refl in
    (g.0, keeps, tt, g.1, (g.2, refl))

-- ---- leaving

taken_room : (words : List ℕ) (place : ℕ) → 0 < slice_index words place → place < length words
taken_room [] place has = absurd (omega arith)
taken_room (x ∷ xs) zero has = omega arith
taken_room (x ∷ xs) (suc place) has = omega (arith, taken_room xs place has)

pub leaves : (count id place : ℕ) (me : Me (Unit {0}) View) (slots : ℕ) → 0 < times place me.0.places
    → Allows {S = Unit {0}} (λ s. Kept count s.words s.views) slots id me place (λ _. 0) (λ found w. (w.0 ≡ left place me.0) × (w.1 ≡ me.1))
leaves count id place me slots has s kept homes at small =
    let v : View = me.0 in
    let w : View = left place v in
    let k = kept.1 place in
    let h = total_set (λ u. times place u.places) s.views id v w at in
    let most = total_least (λ u. times place u.places) s.views id v at in
    let fewer : times place w.places + 1 ≡ times place v.places = ap (λ (n : ℕ). times place w.places + n) (sym (one_at place place refl)) ∙ times_without place place v.places has in
    let here : total (λ u. times place u.places) (set s.views id w) ≡ 0 = omega (arith, h, most, fewer, has, k.0, k.1) in
    let others : (i : ℕ) → (i ≡ place → ⊥) → times i w.places ≡ times i v.places = λ i apart. omega (arith, times_without i place v.places has, none_at place i (λ q. apart (sym q))) in
    let room : place < length s.words = taken_room s.words place (omega (arith, k.0, most, has)) in
    (w, keeps, tt, (length-set s.words place 0 ∙ kept.0, counted_set s.words s.views id place 0 v w room kept.1 at others here (omega arith), alone_set s.views id v w at refl kept.2), (refl, refl))

-- ---- making, splitting and joining

zeros_are : (n i : ℕ) → slice_index (replicate n 0) i ≡ 0
zeros_are zero i = refl
zeros_are (suc n) zero = refl
zeros_are (suc n) (suc i) = zeros_are n i

pub opens : (count : ℕ) (words : List ℕ) → words ≡ replicate count 0 → Kept count words (first_view ∷ [])
opens count words is = subst (λ (ws : List ℕ). Kept count ws (first_view ∷ [])) (sym is) (length-replicate count 0, λ i. let z = zeros_are count i in (sym z, omega (arith, z)), inr refl)

-- a seat off which another was split is not alone
not_alone : (v : View) → alone (split_off v) ≡ 0
not_alone v = by v.first
  where
    by : (b : Bool) → alone (record (split_off v) { first = b }) ≡ 0
    by true = grind (arith, ne_eqb)
    by false = refl

splits_none : (views : List View) (id : ℕ) (v : View) → get_elem? views id ≡ some v → Alone views → total alone (set views id (split_off v) ++ fresh_view ∷ []) ≡ 0
splits_none views id v at (inl zero_is) =
    omega (arith, total_snoc alone (set views id (split_off v)) fresh_view, total_set alone views id v (split_off v) at, not_alone v, zero_is)
splits_none views id v at (inr one) =
    omega (arith, total_snoc alone (set views id (split_off v)) fresh_view, total_set alone views id v (split_off v) at, not_alone v, total_only alone views id v one at)

pub cuts : (count id : ℕ) (v : View) → Splits {S = Unit {0}} (λ s. Kept count s.words s.views) id v (split_off v) fresh_view
cuts count id v s kept at = (
  kept.0,
  λ i.
      let h = total_set (λ u. times i u.places) s.views id v (split_off v) at in
      let k = total_snoc (λ u. times i u.places) (set s.views id (split_off v)) fresh_view in
      let old = kept.1 i in
      (omega (arith, h, k, old.0), old.1),
  inl (splits_none s.views id v at kept.2),
)

join_least : (v w : View) → alone (joined v w) ≤ alone v
join_least v w = by v.first (eqb (v.splits + w.splits) 0) (eqb v.splits 0) (λ e. grind arith)
  where
    by : (f a b : Bool) → (a ≡ true → b ≡ true) → one_if (f && a) ≤ one_if (f && b)
    by true true true e = omega arith
    by true true false e = absurd (let h : false ≡ true = e refl in cc)
    by true false b e = omega arith
    by false a b e = omega arith

pub sums : (count id : ℕ) (v : View) (other : ℕ) (w : View) → Joins {S = Unit {0}} (λ s. Kept count s.words s.views) id v other w (joined v w) fresh_view
sums count id v other w s kept at apart there = (
  kept.0,
  λ i.
      let b = joined v w in
      let h = total_set (λ u. times i u.places) s.views id v b at in
      let k = total_set (λ u. times i u.places) (set s.views id b) other w fresh_view there in
      let t = times_append i v.places w.places in
      let old = kept.1 i in
      (omega (arith, h, k, t, old.0), old.1),
  both kept.2,
)
  where
    both : Alone s.views → Alone (set (set s.views id (joined v w)) other fresh_view)
    both (inl zero_is) =
        inl
        (omega (arith, zero_is, total_set alone s.views id v (joined v w) at, total_set alone (set s.views id (joined v w)) other w fresh_view there, join_least v w, total_least alone s.views id v at))
    both (inr one) = inr (length-set (set s.views id (joined v w)) other fresh_view ∙ length-set s.views id (joined v w) ∙ one)

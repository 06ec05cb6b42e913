use Rattle.std.proofs.Common.{◌≡◌, ◌<◌, ◌≤◌, ◌∙◌, ℕ, zero, suc, List, [], ◌∷◌, drop, length, map, refl, sym, ap, arith, Less}
use denote.Bor.{Bor}
use Rattle.script_engine.specs.Rows.{path_cmp}
use Rattle.script_engine.proofs.rows.compare_paths.Goals as goal

no_more : (i : ℕ) → drop {A = Bor (List ℕ)} i [] ≡ []
no_more zero = refl
no_more (suc i) = refl

-- nothing is left of the first, and something of the second
less_past : (xs ys : List (Bor (List ℕ))) (i : ℕ) → length xs ≤ i → i < length ys → path_cmp (map (λ name. name.now) (drop i xs)) (map (λ name. name.now) (drop i ys)) ≡ Less
less_past xs [] i past l = absurd (omega arith)
less_past [] (y ∷ ys) zero past l = refl
less_past [] (y ∷ ys) (suc i) past l =
    ap (λ l. path_cmp (map (λ name. name.now) l) (map (λ name. name.now) (drop i ys))) (sym (no_more i)) ∙ less_past [] ys i (omega arith) (omega arith)
less_past (x ∷ xs) (y ∷ ys) zero past l = absurd (omega arith)
less_past (x ∷ xs) (y ∷ ys) (suc i) past l = less_past xs ys i (omega arith) (omega arith)

pub returns-then-a-b : goal.returns-then-a-b
returns-then-a-b c = sym (less_past c.args.a.now c.args.b.now c.loop-at.at (omega arith) (omega arith)) ∙ c.loop-at.invariant

use Rattle.std.proofs.Common.{◌≡◌, ◌<◌, ◌≤◌, ◌^◌, ℕ, List, [], ◌∷◌, arith}
use Rattle.std.specs.Prelude.{decimal}
use Rattle.std.proofs.lemmas.Fmt.{decimal_injective}
use Rattle.dfsr.specs.Words.{AreOther}
use Rattle.dfsr.proofs.words.big_of.Goals.{then-count-eq0-via-then-count-eq0, then-count-eq0-via-else-count-eq0+then-count-gt-GROUPS}
use Rattle.dfsr.proofs.words.big_of.Goals as goal

-- a number of groups that is none or too many
other_count : (word seed count : List ℕ) (n : ℕ) → n < 2 ^ 64 → count ≡ decimal n → (0 < n → n ≤ 20000 → ⊥) → AreOther (word ∷ seed ∷ count ∷ [])
other_count word seed count n small is out = record {
  no_script = λ e. cc;
  no_big = λ s k big.
      let few = big.few in
      let spelled = big.spelled in
      let texts : decimal k ≡ decimal n = cc in
      let same : k ≡ n = decimal_injective k n (omega arith) small texts in
      let some = big.some in
      out (omega arith) (omega arith);
}

pub returns-then-count-eq0 : goal.returns-then-count-eq0
returns-then-count-eq0 c =
    let (small, is) = c.in_ok-count.ensures in
    other_count c.args.word.now c.args.seed.now c.args.count.now c.in_ok-count.count small is
    (elim c.then-count-eq0.branch [ then-count-eq0-via-then-count-eq0 w ↦ (λ some few. omega arith) | then-count-eq0-via-else-count-eq0+then-count-gt-GROUPS w ↦ (λ some few. omega arith) ])

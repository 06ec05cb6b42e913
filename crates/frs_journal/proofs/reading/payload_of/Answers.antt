use Rattle.std.proofs.Common.{rules, ◌≡◌, ◌<◌, get_or, ◌+◌, ◌-◌, ◌++◌, ℕ, length, take, drop, arith, sym, subst, length-drop}
use Rattle.std.proofs.lemmas.List.{length-take-le}
use Rattle.frs_journal.specs.Slots.{framed}
use Rattle.frs_journal.proofs.Records.{record_whole, record_short, record_none}
use Rattle.frs_journal.proofs.reading.payload_of.Goals as goal

pub returns-then-rest-lt5-clause-none : goal.returns-then-rest-lt5-clause-none
returns-then-rest-lt5-clause-none c = λ p gate more short is. record_short c.args.rest.now p more gate c.if-rest-lt5.true is

pub returns-then-count-rest-clause-none : goal.returns-then-count-rest-clause-none
returns-then-count-rest-clause-none c = λ p gate more short is. record_none c.args.rest.now p more c.from_le_bytes-count.result gate c.from_le_bytes-count.ensures c.if-count-rest.true short is

pub returns-clause-whole : goal.returns-clause-whole
returns-clause-whole c =
    let rest = c.args.rest.now in
    let n = c.from_le_bytes-count.result in
    let small : (i : ℕ) → get_or rest i 0 < 256 = search rules in
    let h = record_whole rest n small c.if-rest-lt5.false c.from_le_bytes-count.ensures c.if-count-rest.false in
    let k : n ≡ 4 + n - 4 = omega arith in
    let P : ℕ → Type 0 = λ m. rest ≡ framed (take m (drop 4 rest)) ++ drop (4 + m) rest in
    let m : length (take (4 + n - 4) (drop 4 rest)) ≡ 4 + n - 4 = length-take-le (4 + n - 4) (drop 4 rest) (omega (arith, length-drop 4 rest, c.if-count-rest.false)) in
    let Q : ℕ → Type 0 = λ m. rest ≡ framed (take (4 + n - 4) (drop 4 rest)) ++ drop (4 + m) rest in
    subst Q (sym m) (subst P k h)

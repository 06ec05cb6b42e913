-- No bytes have two causes of a status, nor two texts to be written.
use Rattle.std.proofs.Common.{◌≤◌, inl, inr, ℕ, List, sym, ap, ◌∙◌, subst, arith}
use Rattle.std.specs.Prelude.{count_by}
use Rattle.script_lang.specs.declared.line.Line.{Line}
use Rattle.dfsr.specs.Answers.{IsBad, IsProper, IsTooLarge, bad_line, makes_member}
use Rattle.dfsr.specs.Laws.{AllCausesDiffer, BadLinesAreOne, OneText}
use Rattle.script_lang.proofs.Scripts.{first_bad_rows_are_one, scripts_have_no_bad_row, scripts_have_one_list}
use Rattle.script_engine.specs.Text.{Prints}
use Rattle.script_engine.proofs.OneText.{one_text as one_print}

-- ---- causes

proper_bad : (bytes : List ℕ) (lines : List Line) (number : ℕ) → IsProper bytes lines → IsBad bytes number → ⊥
proper_bad bytes lines number proper bad = scripts_have_no_bad_row bytes lines number proper.script bad.first

proper_large : (bytes : List ℕ) (lines : List Line) → IsProper bytes lines → IsTooLarge bytes → ⊥
proper_large bytes lines proper (inl more) = let within = proper.within in omega arith
proper_large bytes lines proper (inr (others, within, script, many)) =
    let few : count_by makes_member others ≤ 8 = subst (λ l. count_by makes_member l ≤ 8) (scripts_have_one_list bytes lines others proper.script script) proper.members in
    omega arith

bad_large : (bytes : List ℕ) (number : ℕ) → IsBad bytes number → IsTooLarge bytes → ⊥
bad_large bytes number bad (inl more) = let within = bad.within in omega arith
bad_large bytes number bad (inr (lines, within, script, many)) = scripts_have_no_bad_row bytes lines number script bad.first

pub causes_differ : AllCausesDiffer
causes_differ bytes = record { proper_bad = proper_bad bytes; proper_large = proper_large bytes; bad_large = bad_large bytes }

-- ---- texts

pub bad_lines_are_one : BadLinesAreOne
bad_lines_are_one bytes number other bad also = first_bad_rows_are_one bytes number other bad.first also.first

pub one_text : OneText
one_text bytes a b (inl (lines, proper, prints)) (inl (others, also, prints')) =
    let same = scripts_have_one_list bytes lines others proper.script also.script in
    one_print lines a b proper.script.valid prints (subst (λ ls. Prints ls b) (sym same) prints')
one_text bytes a b (inl (lines, proper, prints)) (inr (number, bad, is)) = absurd (proper_bad bytes lines number proper bad)
one_text bytes a b (inr (number, bad, is)) (inl (lines, proper, prints)) = absurd (proper_bad bytes lines number proper bad)
one_text bytes a b (inr (number, bad, is)) (inr (other, also, is')) = is ∙ ap bad_line (bad_lines_are_one bytes number other bad also) ∙ sym is'

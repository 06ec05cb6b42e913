use Rattle.std.proofs.Common.{◌≡◌, true, false, ℕ, List, Option, Result, Ok, Err, refl, sym, ap, ◌∙◌, subst}
use Rattle.std.specs.Result.{result_ok}
use Rattle.std.specs.Str.Parse.{ParsesUnsigned}
use Rattle.script_lang.specs.Reading.{begins_number}
use Rattle.script_lang.proofs.Numbers.{begins_decimal, parsed, parses_decimal}
use Rattle.dfsr.specs.Words.{IsNumber}
use Rattle.dfsr.proofs.words.number_in.Goals as goal

-- what was parsed is the number of the word's text, where the word begins as one
number_read : {E : Type 0} (word : List ℕ) (r : Result ℕ E) (found : Option ℕ) → begins_number word ≡ true → ParsesUnsigned 64 10 word r → found ≡ result_ok r → IsNumber word found
number_read {E = E} word (Ok n) found begun parses is = subst (IsNumber word) (sym is) (parsed {E = E} word n (Ok n) begun parses refl)
number_read {E = E} word (Err e) found begun parses is = subst (IsNumber word) (sym is) (λ n small same. let ok = parses_decimal {E = E} word n (Err e) small same parses in cc)

pub returns-then-not-begins_number : goal.returns-then-not-begins_number
returns-then-not-begins_number c n small is =
    let begun : begins_number c.args.word.now ≡ true = ap begins_number is ∙ begins_decimal n small in
    let not_begun : c.begins_number.result ≡ false = c.if-not-begins_number.true in
    let says = c.begins_number.ensures in
    cc

pub returns : goal.returns
returns c = number_read c.args.word.now c.parse.result c.ok.result (sym c.begins_number.ensures ∙ c.if-not-begins_number.false) c.parse.ensures.value.0 c.ok.ensures.value

use Rattle.std.proofs.Common.{◌≡◌, ◌≤◌, ◌^◌, ◌∙◌, true, false, sym, ap, arith}
use Rattle.script_lang.specs.Reading.{begins_number, number_in}
use Rattle.script_lang.proofs.Numbers.{begins_decimal, no_number, number_again, parsed, parses_decimal}
use Rattle.script_lang.proofs.number.number_of.Goals as goal

pub returns-then-not-begins_number : goal.returns-then-not-begins_number
returns-then-not-begins_number c =
    let fits : c.args.limit ≤ 2 ^ 64 = omega arith in
    no_number c.args.limit c.args.word.now (λ n below is.
    let begun : begins_number c.args.word.now ≡ true = ap begins_number is ∙ begins_decimal n (omega arith) in
    let not_begun : c.begins_number.result ≡ false = c.if-not-begins_number.true in
    let says = c.begins_number.ensures in
    cc)

pub returns-in_default : goal.returns-in_default
returns-in_default c = no_number c.args.limit c.args.word.now (λ n below is.
    let ok = parses_decimal c.args.word.now n c.parse.result (omega arith) is c.parse.ensures.value.0 in
    let err = c.in_default.is in
    cc)

pub returns : goal.returns
returns c =
    let (small, is) = parsed c.args.word.now c.in-Ok.number c.parse.result (sym c.begins_number.ensures ∙ c.if-not-begins_number.false) c.parse.ensures.value.0 c.in-Ok.is in
    ap (number_in c.args.limit) is ∙ number_again c.args.limit c.in-Ok.number c.if-number-limit.false (omega arith)

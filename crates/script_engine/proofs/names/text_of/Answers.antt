use Rattle.std.proofs.Common.{◌≡◌, ◌<◌, ◌&&◌, ◌∙◌, ℕ, Bool, true, false, List, [], ◌∷◌, Result, Ok, Err, ap, get_or, length, refl, sym, zero, suc, arith, lit<}
use Rattle.std.specs.Prelude.{◌==◌, ◌||◌, IsAscii}
use Rattle.std.specs.List.{list_all}
use Rattle.std.specs.Result.{IsOk, MatchResult}
use Rattle.std.proofs.lemmas.Bool.Decides.{nat_tests}
use Rattle.std.proofs.lemmas.Str.{IsUtf8-from_ascii}
use Rattle.script_lang.specs.Grammar.{is_member_name, is_small_letter}
use Rattle.script_engine.specs.Named.{is_name_or_empty}
use Rattle.script_engine.proofs.names.text_of.Goals as goal

letters : (name : List ℕ) → list_all is_small_letter name ≡ true → IsAscii name
letters [] all i = lit< tt
letters (c ∷ cs) all i = by (is_small_letter c) refl all i (letters cs)
  where
    by : (b : Bool) → is_small_letter c ≡ b → b && list_all is_small_letter cs ≡ true → (i : ℕ) → (list_all is_small_letter cs ≡ true → IsAscii cs) → get_or (c ∷ cs) i 0 < 128
    by true small rest zero more = grind (arith, nat_tests)
    by true small rest (suc i) more = more rest i
    by false small rest i more = absurd (cc)

halves : (a b : Bool) → a && b ≡ true → b ≡ true
halves true b e = e
halves false b e = absurd (cc)

-- a name, or none, is of letters
lettered : (name : List ℕ) → is_name_or_empty name ≡ true → list_all is_small_letter name ≡ true
lettered [] named = refl
lettered (c ∷ cs) named =
    let some : (length (c ∷ cs) == 0) ≡ false = grind (arith, nat_tests) in
    let member : is_member_name (c ∷ cs) ≡ true = sym (ap (λ b. b || is_member_name (c ∷ cs)) some) ∙ named in
    halves _ _ (halves _ _ member)

ok_from : {T E U : Type 0} (P : T → Type 0) (Q : E → Type 0) (r : Result T E) → MatchResult r P (λ e. (U → ⊥) × Q e) → U → IsOk r
ok_from P Q (Ok x) cases is_text = refl
ok_from P Q (Err e) cases is_text = absurd (cases.0 is_text)

pub unwrap-requires : goal.unwrap-requires
unwrap-requires c = ok_from _ _ c.from_utf8.result c.from_utf8.ensures.cases
    (IsUtf8-from_ascii c.args.name.now (letters c.args.name.now (lettered c.args.name.now c.requires)))

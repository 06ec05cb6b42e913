-- Contents of a pattern, in whole rounds of it.
use Rattle.std.proofs.Common.{◌≡◌, ◌∙◌, ◌+◌, ◌-◌, ◌*◌, ◌%◌, ◌/◌, ◌<◌, ◌≤◌, ◌++◌, ℕ, zero, suc, List, [], ◌∷◌, length, take, refl, sym, ap, subst, arith}
use Rattle.std.proofs.lemmas.List.{append-nil, append_assoc, length-append, take-append-le, take_all}
use Rattle.std.proofs.Math.Nat.{div-add-mod, mul-add-mod_self_left}
use Rattle.script_engine.specs.Text.{filled}

-- behind whole rounds it begins anew
filled_behind : (k b : ℕ) → filled (251 * k + b) ≡ filled (251 * k) ++ filled b
filled_behind k zero = let e : 251 * k + 0 ≡ 251 * k = omega arith in ap filled e ∙ sym (append-nil (filled (251 * k)))
filled_behind k (suc b) =
    let e : 251 * k + suc b ≡ suc (251 * k + b) = omega arith in
    ap filled e ∙ (ap (λ l. l ++ ((251 * k + b) % 251) ∷ []) (filled_behind k b)
    ∙ (ap (λ n. (filled (251 * k) ++ filled b) ++ n ∷ []) (mul-add-mod_self_left 251 k b) ∙ append_assoc (filled (251 * k)) (filled b) ((b % 251) ∷ [])))

length_filled : (n : ℕ) → length (filled n) ≡ n
length_filled zero = refl
length_filled (suc n) = let l = length_filled n in length-append (filled n) ((n % 251) ∷ []) ∙ omega (arith, l)

-- its first bytes are the same, however many there are
first_filled : (r d : ℕ) → take r (filled (r + d)) ≡ filled r
first_filled r zero = let e : r + 0 ≡ r = omega arith in let l = length_filled r in ap (λ n. take r (filled n)) e ∙ take_all r (filled r) (omega (arith, l))
first_filled r (suc d) =
    let e : r + suc d ≡ suc (r + d) = omega arith in
    let l = length_filled (r + d) in
    ap (λ n. take r (filled n)) e ∙ (take-append-le r (filled (r + d)) (((r + d) % 251) ∷ []) (omega (arith, l)) ∙ first_filled r d)

-- a round more
pub filled_round : (k : ℕ) → filled (251 * k) ++ filled 251 ≡ filled (251 * (k + 1))
filled_round k = let e : 251 * k + 251 ≡ 251 * (k + 1) = omega arith in sym (filled_behind k 251) ∙ ap filled e

-- all whole rounds, and the beginning of one
pub filled_whole : (n : ℕ) → n % 251 < 251 → filled (251 * (n / 251)) ++ take (n % 251) (filled 251) ≡ filled n
filled_whole n within =
    let e : n % 251 + (251 - n % 251) ≡ 251 = omega (arith, within) in
    let first : take (n % 251) (filled 251) ≡ filled (n % 251) = ap (λ m. take (n % 251) (filled m)) (sym e) ∙ first_filled (n % 251) (251 - n % 251) in
    ap (λ l. filled (251 * (n / 251)) ++ l) first ∙ (sym (filled_behind (n / 251) (n % 251)) ∙ ap filled (div-add-mod n 251))

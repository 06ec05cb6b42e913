-- A machine of byte strings: each command puts one behind the others.
use Rattle.std.specs.Prelude.{ℕ, ◌≡◌, ◌++◌, ◌<◌, ◌^◌, List, [], ◌∷◌, length, refl}
use Rattle.std.proofs.Common.{sym, ap, ◌∙◌, subst, append-nil, append_assoc, arith, length-append, drop}
use Rattle.frs_base.specs.Machines.{Rules, Lawful, Runs}
use Rattle.frs_journal.specs.Slots.{framed}
use Rattle.frs_journal.proofs.Records.{framed_same}

-- a string is spelled by a zero, its length in four bytes and itself, and stands behind the others from then on
abbrev pub pile_rules : Rules (List (List ℕ)) (List ℕ)
pile_rules = record { is_cmd = λ x. length x < 2 ^ 32; code = λ x. 0 ∷ framed x; step = λ s x t. t ≡ s ++ x ∷ []; origin = λ _. [] }

no_items : (xs : List ℕ) → length xs ≡ 0 → xs ≡ []
no_items [] e = refl
no_items (x ∷ xs) e = absurd (omega (arith, e))

pub pile_lawful : Lawful pile_rules
pile_lawful = record { one_step = λ s x t u first second. first ∙ sym second; fresh_origin = λ _. refl; keeps_origin = λ _ _ _ _. refl; no_prefix = one_string; no_end = λ x rest _ same. cc }
  where
    one_string : (x y rest : List ℕ) → length x < 2 ^ 32 → length y < 2 ^ 32 → 0 ∷ framed y ≡ (0 ∷ framed x) ++ rest → (x ≡ y) × (rest ≡ [])
    one_string x y rest short_x short_y same =
        let e : framed y ++ [] ≡ framed x ++ rest = append-nil (framed y) ∙ ap (λ (l : List ℕ). drop 1 l) same in
        let one : y ≡ x = framed_same y x [] rest short_y short_x e in
        let n : length rest ≡ 0 = omega (arith, ap length e, length-append (framed x) rest, length-append (framed y) [], ap (λ (l : List ℕ). length (framed l)) one) in
        (sym one, no_items rest n)

-- each command has a step
pub pile_leads : (s : List (List ℕ)) (x : List ℕ) → (t : List (List ℕ)) × pile_rules.step s x t
pile_leads s x = (s ++ x ∷ [], refl)

-- the strings of a pile, taken as commands, lead to it
pub pile_runs : (s xs : List (List ℕ)) → Runs pile_rules.step s xs (s ++ xs)
pile_runs s [] = append-nil s
pile_runs s (x ∷ xs) =
    let Leads : List (List ℕ) → Type 0 = λ t. Runs pile_rules.step (s ++ x ∷ []) xs t in
    (s ++ x ∷ [], refl, subst Leads (append_assoc s (x ∷ []) xs) (pile_runs (s ++ x ∷ []) xs))

pub pile_saves : (s xs : List (List ℕ)) → xs ≡ s → Runs pile_rules.step [] xs s
pile_saves s xs same =
    let Leads : List (List ℕ) → Type 0 = λ t. Runs pile_rules.step [] xs t in
    subst Leads same (pile_runs [] xs)

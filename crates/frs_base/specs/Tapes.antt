-- The smallest machine: bytes, and commands that each put one behind them.
use Rattle.std.specs.Prelude.{ℕ, ◌≡◌, ◌++◌, ◌<◌, List, [], ◌∷◌, refl}
use Rattle.std.proofs.Common.{sym, ◌∙◌, subst, append-nil, append_assoc}
use Rattle.frs_base.specs.Machines.{Rules, Lawful, Runs}

-- a byte is spelled by a zero and itself, and stands behind the others from then on
abbrev pub tape_rules : Rules (List ℕ) ℕ
tape_rules = record { is_cmd = λ x. x < 256; code = λ x. 0 ∷ x ∷ []; step = λ s x t. t ≡ s ++ x ∷ []; origin = λ _. [] }

pub tape_lawful : Lawful tape_rules
tape_lawful = record { one_step = λ s x t u first second. first ∙ sym second; fresh_origin = λ _. refl; keeps_origin = λ _ _ _ _. refl; no_prefix = one_byte; no_end = λ x rest _ same. cc }
  where
    one_byte : (x y : ℕ) (rest : List ℕ) → x < 256 → y < 256 → 0 ∷ y ∷ [] ≡ 0 ∷ x ∷ rest → (x ≡ y) × (rest ≡ [])
    one_byte x y rest _ _ same = (cc, cc)

-- each command has a step
pub tape_leads : (s : List ℕ) (x : ℕ) → (t : List ℕ) × tape_rules.step s x t
tape_leads s x = (s ++ x ∷ [], refl)

-- the bytes of a tape, taken as commands, lead to it
pub tape_runs : (s xs : List ℕ) → Runs tape_rules.step s xs (s ++ xs)
tape_runs s [] = append-nil s
tape_runs s (x ∷ xs) =
    let Leads : List ℕ → Type 0 = λ t. Runs tape_rules.step (s ++ x ∷ []) xs t in
    (s ++ x ∷ [], refl, subst Leads (append_assoc s (x ∷ []) xs) (tape_runs (s ++ x ∷ []) xs))

pub tape_saves : (s xs : List ℕ) → xs ≡ s → Runs tape_rules.step [] xs s
tape_saves s xs same =
    let Leads : List ℕ → Type 0 = λ t. Runs tape_rules.step [] xs t in
    subst Leads same (tape_runs [] xs)

-- What a load finds of two slots.
use Rattle.std.specs.Prelude.{ℕ, ◌≡◌, ◌++◌, List, length, map}
use Rattle.std.specs.List.{concat}
use Rattle.std.specs.Int.{to_le_bytes, w64}
use Rattle.sha1.specs.Sha1.{sha1}
use Rattle.frs_journal.specs.Damage.{IsDamaged}
use Rattle.frs_journal.specs.Loads.{Loads}
use Rattle.slot_probe.specs.Piles.{pile_rules}
use Rattle.slot_probe.specs.declared.probe.Found.{Found}
use Rattle.slot_probe.specs.declared.probe.Found.TheVariants.{State, Damaged}

-- a string behind its length in eight bytes
abbrev pub measured : List ℕ → List ℕ
measured x = to_le_bytes w64 (length x) ++ x

-- strings one after another, each behind its length
abbrev pub spelled : List (List ℕ) → List ℕ
spelled xs = concat (map measured xs)

-- how many strings there are, after how many commands, and their sum
abbrev pub IsStateOf : List (List ℕ) → ℕ → Found → Type 0
IsStateOf strings serial (State count commands sum) = (count ≡ length strings) × (commands ≡ serial) × (sum.0 ≡ sha1 (spelled strings))
IsStateOf strings serial (Damaged slot offset) = ⊥

-- the state to which two slots load, by how many strings there are after how many commands and by their sum; or the one place at which they are damaged
abbrev pub IsFound : List ℕ → List ℕ → Found → Type 0
IsFound a b (State count serial sum) = (strings : List (List ℕ)) × Loads pile_rules strings serial a b × (count ≡ length strings) × (sum.0 ≡ sha1 (spelled strings))
IsFound a b (Damaged slot offset) = IsDamaged pile_rules a b slot offset

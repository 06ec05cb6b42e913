-- From what a load says of two disks to what is found of two slots.
use Rattle.std.proofs.Common.{◌≡◌, ℕ, List, sym, ap, ◌∙◌, subst, Some}
use Rattle.frs_disk.specs.Crashes.{Crash, still}
use Rattle.frs_disk.specs.Moments.{top}
use Rattle.frs_journal.specs.Damage.{IsDamaged, IsRead, ReadLoads}
use Rattle.frs_journal.specs.Loads.{Loads}
use Rattle.frs_journal.specs.declared.faults.Slot.{Slot}
use Rattle.slot_probe.specs.Found.{IsFound, IsStateOf}
use Rattle.slot_probe.specs.Piles.{pile_rules}
use Rattle.slot_probe.specs.declared.probe.Found.{Found}
use Rattle.slot_probe.specs.declared.probe.Found.TheVariants.{State, Damaged}

read_is : (a x : List ℕ) (ss : List Crash) → top ss ≡ still a → IsRead x (top ss) → x ≡ a
read_is a x ss is read = sym read.seen ∙ ap (λ (s : Crash). s.seen) is

pub found_loaded : (a b : List ℕ) (strings : List (List ℕ)) (serial : ℕ) (found : Found) (ss ts : List Crash) → top ss ≡ still a → top ts ≡ still b
    → ReadLoads pile_rules strings serial (Some ss) (Some ts) → IsStateOf strings serial found → IsFound a b found
found_loaded a b strings serial (State count commands sum) ss ts is_a is_b (x, y, read_x, read_y, loads) h =
    let A : List ℕ → Type 0 = λ l. Loads pile_rules strings commands l b in
    let B : List ℕ → Type 0 = λ l. Loads pile_rules strings commands x l in
    let N : ℕ → Type 0 = λ n. Loads pile_rules strings n x y in
    (strings, subst A (read_is a x ss is_a read_x) (subst B (read_is b y ts is_b read_y) (subst N (sym h.1) loads)), h.0, h.2)
found_loaded a b strings serial (Damaged slot offset) ss ts is_a is_b reads h = absurd h

pub found_damaged : (a b : List ℕ) (slot : Slot) (offset : ℕ) (ss ts : List Crash) → top ss ≡ still a → top ts ≡ still b
    → (x : List ℕ) × (y : List ℕ) × IsRead x (top ss) × IsRead y (top ts) × IsDamaged pile_rules x y slot offset → IsDamaged pile_rules a b slot offset
found_damaged a b slot offset ss ts is_a is_b (x, y, read_x, read_y, damaged) =
    let A : List ℕ → Type 0 = λ l. IsDamaged pile_rules l b slot offset in
    let B : List ℕ → Type 0 = λ l. IsDamaged pile_rules x l slot offset in
    subst A (read_is a x ss is_a read_x) (subst B (read_is b y ts is_b read_y) damaged)

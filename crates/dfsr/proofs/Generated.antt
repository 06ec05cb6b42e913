-- The generated lines are lines of the grammar, and few.
use Rattle.std.proofs.Common.{◌≡◌, ◌<◌, ◌≤◌, ◌+◌, ◌*◌, ◌/◌, ◌%◌, ◌^◌, ℕ, zero, suc, true, [], ◌∷◌, ◌++◌, length, refl, ap, ◌∙◌, arith, codes, add-one, length-append}
use Rattle.std.specs.Prelude.{All, decimal}
use Rattle.std.proofs.lemmas.Bool.Decides.{nat_tests}
use Rattle.std.proofs.lemmas.List.Elements.{All-append, All-from_recursion, All-nil}
use Rattle.std.proofs.lemmas.Fmt.{decimal_digit, decimal_step}
use Rattle.script_lang.specs.Grammar.{IsLine, is_component, is_member_name, is_path}
use Rattle.dfsr.specs.declared.big.lines.Peer.{Peer}
use Rattle.dfsr.specs.declared.big.lines.Peer.TheVariants.{A, B, C}
use Rattle.dfsr.specs.Big.{behind, big_lines, counts, draw, group, groups, name_of, next, number_at, opening, path_of, peer_at, round, rounds, work}

-- ---- files

one_digit : (a : ℕ) → a < 10 → is_component (102 ∷ (48 + a) ∷ []) ≡ true
one_digit a small = grind (arith, nat_tests)

two_digits : (a b : ℕ) → a < 10 → b < 10 → is_component (102 ∷ (48 + a) ∷ (48 + b) ∷ []) ≡ true
two_digits a b small less = grind (arith, nat_tests)

-- the name of a file is a component
pub file_is_component : (file : ℕ) → file < 97 → is_component (codes "f" ++ decimal file) ≡ true
file_is_component file few = by (file / 10) refl
  where
    by : (tens : ℕ) → file / 10 ≡ tens → is_component (codes "f" ++ decimal file) ≡ true
    by zero e = ap (λ d. is_component (102 ∷ d)) (decimal_digit file (omega arith)) ∙ one_digit file (omega arith)
    by (suc k) e =
        let parts = decimal_step file (omega arith) (omega arith) in
        let first = decimal_digit (file / 10) (omega arith) in
        ap (λ d. is_component (102 ∷ d)) (parts ∙ ap (λ d. d ++ (48 + file % 10) ∷ []) first) ∙ two_digits (file / 10) (file % 10) (omega arith) (omega arith)

file_is_path : (file : ℕ) → file < 97 → is_path (path_of file) ≡ true
file_is_path file few = let part = file_is_component file few in grind (arith, nat_tests, part)

-- ---- lines

named : (peer : Peer) → is_member_name (name_of peer) ≡ true
named A = refl
named B = refl
named C = refl

-- the lines of what is done to a file
work_valid : (way : ℕ) (peer : Peer) (file k : ℕ) → file < 97 → k < 2 ^ 61 → All IsLine (work way peer file k)
work_valid zero peer file k few early = All-from_recursion IsLine (work 0 peer file k) ((named peer, file_is_path file few, early), tt)
work_valid (suc zero) peer file k few early = All-from_recursion IsLine (work 1 peer file k) ((named peer, file_is_path file few, early), tt)
work_valid (suc (suc zero)) peer file k few early = All-from_recursion IsLine (work 2 peer file k) ((named peer, file_is_path file few), ((named peer, early), tt))
work_valid (suc (suc (suc way))) peer file k few early = All-from_recursion IsLine (work (suc (suc (suc way))) peer file k) ((named peer, named (behind peer)), tt)

pub group_valid : (drawn k : ℕ) → k < 2 ^ 61 → All IsLine (group drawn k)
group_valid drawn k early = work_valid (drawn / 291 % 4) (peer_at (drawn % 3)) (drawn / 3 % 97) k (omega arith) early

pub groups_valid : (seed count : ℕ) → count < 2 ^ 61 → All IsLine (groups seed count)
groups_valid seed zero early = All-nil IsLine
groups_valid seed (suc k) early =
    All-append IsLine (groups seed k) _ (groups_valid seed k (omega arith)) (group_valid (draw (number_at seed (suc k))) (suc k) early)

pub opening_valid : All IsLine opening
opening_valid = All-from_recursion IsLine opening (refl, (refl, (refl, tt)))

pub round_valid : All IsLine round
round_valid = All-from_recursion IsLine round ((refl, refl), ((refl, refl), ((refl, refl), ((refl, refl), ((refl, refl), ((refl, refl), (refl, (refl, (refl, tt)))))))))

pub counts_valid : All IsLine counts
counts_valid = All-from_recursion IsLine counts (refl, (refl, (refl, tt)))

pub rounds_valid : (k : ℕ) → All IsLine (rounds k)
rounds_valid zero = All-nil IsLine
rounds_valid (suc k) = All-append IsLine (rounds k) round (rounds_valid k) round_valid

-- all lines but the last three
pub lines_valid : (seed count : ℕ) → count < 2 ^ 61 → All IsLine (big_lines seed count)
lines_valid seed count early =
    All-append IsLine (opening ++ groups seed count) (rounds 3) (All-append IsLine opening (groups seed count) opening_valid (groups_valid seed count early)) (rounds_valid 3)

-- ---- how many

work_few : (way : ℕ) (peer : Peer) (file k : ℕ) → length (work way peer file k) ≤ 2
work_few zero peer file k = omega arith
work_few (suc zero) peer file k = omega arith
work_few (suc (suc zero)) peer file k = omega arith
work_few (suc (suc (suc way))) peer file k = omega arith

pub group_few : (drawn k : ℕ) → length (group drawn k) ≤ 2
group_few drawn k = work_few (drawn / 291 % 4) (peer_at (drawn % 3)) (drawn / 3 % 97) k

pub groups_few : (seed count : ℕ) → length (groups seed count) ≤ 2 * count
groups_few seed zero = omega arith
groups_few seed (suc k) =
    let before = groups_few seed k in
    let last = group_few (draw (number_at seed (suc k))) (suc k) in
    omega (arith, length-append (groups seed k) (group (draw (number_at seed (suc k))) (suc k)))

-- one group more
pub group_more : (seed k : ℕ) → groups seed (k + 1) ≡ groups seed k ++ group (draw (number_at seed (k + 1))) (k + 1)
group_more seed k = rw add-one refl

pub number_more : (seed k : ℕ) → number_at seed (k + 1) ≡ next (number_at seed k)
number_more seed k = rw add-one refl

pub rounds_more : (k : ℕ) → rounds (k + 1) ≡ rounds k ++ round
rounds_more k = rw add-one refl

-- The lines of sums.
use Rattle.std.proofs.Common.{◌≡◌, List, [], ◌∷◌, ◌++◌, length, refl, ap, arith, length-append}
use Rattle.std.specs.Prelude.{flat_map}
use Rattle.std.specs.List.{join_with_byte}
use Rattle.hex.specs.Hex.{encode_lower}
use Rattle.script_engine.specs.Trees.{Row, path_word, sum_text, sums_text}

-- files have lines
pub no_files : (files : List Row) → flat_map sum_text files ≡ [] → files ≡ []
no_files [] e = refl
no_files (row ∷ rows) e =
    let words = join_with_byte 32 (encode_lower row.object.sum.0 ∷ path_word row.path ∷ []) in
    let none = ap length e in
    let all = length-append (words ++ 10 ∷ []) (flat_map sum_text rows) in
    let first = length-append words (10 ∷ []) in
    absurd (omega (arith, none, all, first))

-- lines that are there are those of sums
pub lines_of_files : (files : List Row) → (flat_map sum_text files ≡ [] → ⊥) → flat_map sum_text files ≡ sums_text files
lines_of_files [] some = absurd (some refl)
lines_of_files (row ∷ rows) some = refl

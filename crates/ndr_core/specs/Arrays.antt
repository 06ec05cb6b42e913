-- Counts of arrays, and arrays.
use Rattle.std.specs.Prelude.{◌≡◌, ◌+◌, ◌≤◌, ◌==◌, ◌&&◌, ◌||◌, ℕ, zero, suc, Bool, List, [], ◌∷◌, ◌++◌, Result, Ok, Err, not, true, length, nat_lt, if◌then◌else◌}
use Rattle.std.specs.Int.{w32}
use Rattle.ndr_core.specs.Cursor.{Cursor}
use Rattle.ndr_core.specs.Items.{◌>>=◌, ◌⨾◌, Item, number, padding, together}
use Rattle.ndr_core.specs.declared.refusal.NdrBad.{NdrBad}
use Rattle.ndr_core.specs.declared.refusal.NdrBad.TheVariants.{Count}

-- the count of a conformant array, at most so many
abbrev pub conformant : ℕ → Item ℕ
conformant limit = record {
  reads = λ c. (number w32).reads c >>= λ x. if nat_lt limit x.0 then Err (Count (c.at + padding 4 c.at)) else Ok x;
  appends = (number w32).appends;
  Spells = λ at n text. (n ≤ limit) × (number w32).Spells at n text;
}

-- the offset and the count of a varying array
abbrev pub span : Item (ℕ × ℕ)
span = number w32 ⨾ number w32

-- the count of a varying array, at most so many, behind the offset 0
abbrev pub varying : ℕ → Item ℕ
varying limit = record {
  reads = λ c.
      (together 4 span).reads c >>= λ x.
      if not (x.0.0 == 0) || nat_lt limit x.0.1 then Err (Count (c.at + padding 4 c.at)) else Ok (x.0.1, x.1);
  appends = λ out n. span.appends out (0, n);
  Spells = λ at n text. (n ≤ limit) × span.Spells at (0, n) text;
}

-- so many items, one behind the other
abbrev pub reads_many : {A : Type 0} → (Cursor → Result (A × Cursor) NdrBad) → ℕ → Cursor → Result (List A × Cursor) NdrBad
reads_many reads zero c = Ok ([], c)
reads_many reads (suc n) c = reads c >>= λ x. reads_many reads n x.1 >>= λ xs. Ok (x.0 ∷ xs.0, xs.1)

abbrev pub appends_many : {A : Type 0} → (List ℕ → A → List ℕ) → List ℕ → List A → List ℕ
appends_many appends out [] = out
appends_many appends out (x ∷ xs) = appends_many appends (appends out x) xs

abbrev pub SpellsMany : {A : Type 0} → (ℕ → A → List ℕ → Type 0) → ℕ → List A → List ℕ → Type 0
SpellsMany Spells at [] text = text ≡ []
SpellsMany Spells at (x ∷ xs) text = (a : List ℕ) × (b : List ℕ) × (text ≡ a ++ b) × Spells at x a × SpellsMany Spells (at + length a) xs b

abbrev pub many : {A : Type 0} → Item A → ℕ → Item (List A)
many item count = record {
  reads = reads_many item.reads count;
  appends = appends_many item.appends;
  Spells = λ at xs text. (length xs ≡ count) × SpellsMany item.Spells at xs text;
}

-- each passes a test
abbrev pub all_fit : {A : Type 0} → (A → Bool) → List A → Bool
all_fit fits [] = true
all_fit fits (x ∷ xs) = fits x && all_fit fits xs

-- Unique pointers, and what they point to.
use Rattle.std.specs.Prelude.{◌≡◌, ◌==◌, ℕ, Bool, not, true, false, List, [], Option, Some, None, Ok}
use Rattle.std.specs.Int.{w32}
use Rattle.ndr_core.specs.Items.{◌>>=◌, Item, followed, number, seen}

-- what a pointer is written as
abbrev pub referent : Bool → ℕ
referent true = 0x20000
referent false = 0

-- whether a pointer is not null, which any number but 0 says
abbrev pub unique : Item Bool
unique = record {
  reads = λ c. (number w32).reads c >>= λ x. Ok (not (x.0 == 0), x.1);
  appends = λ out present. (number w32).appends out (referent present);
  Spells = λ at present text. (n : ℕ) × (not (n == 0) ≡ present) × (number w32).Spells at n text;
}

-- a value is written where there is one
abbrev pub append_if : {A : Type 0} → (List ℕ → A → List ℕ) → List ℕ → Option A → List ℕ
append_if appends out None = out
append_if appends out (Some a) = appends out a

-- an item that is there, or not
abbrev pub when : {A : Type 0} → Bool → Item A → Item (Option A)
when {A = A} true item = record {
  reads = λ c. item.reads c >>= λ x. Ok (Some x.0, x.1);
  appends = append_if item.appends;
  Spells = λ at v text. (a : A) × (v ≡ Some a) × item.Spells at a text;
}
when false item = record {
  reads = λ c. Ok (None, c);
  appends = append_if item.appends;
  Spells = λ at v text. (v ≡ None) × (text ≡ []);
}

-- there is a value
abbrev pub is_some : {A : Type 0} → Option A → Bool
is_some None = false
is_some (Some a) = true

-- a pointer, and behind it what it points to
abbrev pub optional : {A : Type 0} → Item A → Item (Option A)
optional item = seen (λ t. t.1) (λ v. (is_some v, v)) (followed unique (λ present. when present item))

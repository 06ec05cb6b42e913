-- The bytes of a slot, and which of two is taken.
use Rattle.std.specs.Prelude.{ℕ, ◌≡◌, ◌<◌, ◌+◌, ◌^◌, ◌%◌, ◌&&◌, ◌||◌, not, Bool, true, false, nat_eq, nat_le, nat_lt, List, [], ◌∷◌, ◌++◌, length, take, drop, get_or, Option, Some, None, MatchOption, if◌then◌else◌}
use Rattle.std.specs.List.{All}
use Rattle.std.specs.Bool.{MatchBool}
use Rattle.std.specs.Int.{to_le_bytes, from_le_bytes, w32, w64}
use Rattle.std.specs.Cmp.Lexicographic.{pointwise}

-- "FRSJRN01"
abbrev pub magic : List ℕ
magic = 0x46 ∷ 0x52 ∷ 0x53 ∷ 0x4A ∷ 0x52 ∷ 0x4E ∷ 0x30 ∷ 0x31 ∷ []

-- the bytes of a valid slot before its first gate
unfoldable pub head : ℕ → ℕ → List ℕ
head generation serial = 1 ∷ (magic ++ (to_le_bytes w64 generation ++ to_le_bytes w64 serial))

-- what stands behind an opened gate, up to the next gate
unfoldable pub framed : List ℕ → List ℕ
framed payload = to_le_bytes w32 (length payload) ++ payload

-- records of these payloads, each behind an opened gate
abbrev pub opened : List (List ℕ) → List ℕ
opened [] = []
opened (p ∷ ps) = 1 ∷ (framed p ++ opened ps)

-- a valid slot with these records, up to the gate behind them
abbrev pub slot_front : ℕ → ℕ → List (List ℕ) → List ℕ
slot_front generation serial ps = head generation serial ++ opened ps

-- a payload whose length fits its field
abbrev pub IsShort : List ℕ → Type 0
IsShort p = length p < 2 ^ 32

-- a valid slot with these payloads up to its first gate that isn't 1
pub record Holds (slot : List ℕ) (ps : List (List ℕ)) : Type 0 where
  pub generation : ℕ
  pub serial : ℕ
  pub gate : ℕ
  pub rest : List ℕ
  pub bytes : slot ≡ slot_front generation serial ps ++ gate ∷ rest
  pub closed : gate ≡ 1 → ⊥
  pub short : All IsShort ps

-- there are 26 bytes at least, and the first is 1
abbrev pub is_marked : List ℕ → Bool
is_marked c = nat_le 26 (length c) && nat_eq (get_or c 0 0) 1

-- the magic stands behind the first byte
abbrev pub has_magic : List ℕ → Bool
has_magic c = pointwise nat_eq (take 8 (drop 1 c)) magic

-- the generation of a valid slot
unfoldable pub generation_of : List ℕ → Option ℕ
generation_of c = if is_marked c && has_magic c then Some (from_le_bytes w64 (take 8 (drop 9 c))) else None

-- the slot says that it is valid, and has another magic
unfoldable pub is_bad : List ℕ → Bool
is_bad c = is_marked c && not (has_magic c)

-- a number as its eight bytes give it back
unfoldable pub wire : ℕ → ℕ
wire n = from_le_bytes w64 (to_le_bytes w64 n)

-- the serial in a header
unfoldable pub serial_at : List ℕ → ℕ
serial_at c = from_le_bytes w64 (take 8 (drop 17 c))

-- a slot's serial by its generation, 0 where it isn't valid
abbrev pub serial_by : Option ℕ → ℕ → ℕ
serial_by None serial = 0
serial_by (Some generation) serial = serial

-- the serial of a valid slot, else 0
abbrev pub serial_of : List ℕ → ℕ
serial_of c = serial_by (generation_of c) (serial_at c)

-- the generation of the slot that follows
abbrev pub next : ℕ → ℕ
next g = (g + 1) % 2 ^ 64

-- slot b is taken, by the generations of the valid ones
abbrev pub takes_b : Option ℕ → Option ℕ → Bool
takes_b a None = false
takes_b None (Some y) = true
takes_b (Some x) (Some y) = nat_eq y (next x) || (not (nat_eq x (next y)) && nat_lt x y)

-- the slot that is taken of two
abbrev pub taken : List ℕ → List ℕ → List ℕ
taken a b = if takes_b (generation_of a) (generation_of b) then b else a

-- the payloads of a slot that is taken, none where it isn't valid
abbrev pub IsList : List ℕ → List (List ℕ) → Type 0
IsList c ps = MatchOption (generation_of c) (ps ≡ []) (λ _. Holds c ps)

-- the payloads that two slots stand for
pub record IsLog (a b : List ℕ) (ps : List (List ℕ)) : Type 0 where
  pub good_a : is_bad a ≡ false
  pub good_b : is_bad b ≡ false
  pub list : IsList (taken a b) ps

-- slot a, by whether the current one is slot b
abbrev pub slot_a : {X : Type 0} → Bool → X → X → X
slot_a true current other = other
slot_a false current other = current

-- slot b
abbrev pub slot_b : {X : Type 0} → Bool → X → X → X
slot_b true current other = current
slot_b false current other = other

-- over these bytes of the other slot a current slot of this generation is taken
pub record Yields (in_b : Bool) (generation : Option ℕ) (other : List ℕ) : Type 0 where
  pub good : is_bad other ≡ false
  pub over : MatchBool in_b (takes_b (generation_of other) generation ≡ true) (takes_b generation (generation_of other) ≡ false)

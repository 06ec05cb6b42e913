-- Items, and the words that put them together.
use Rattle.std.specs.Prelude.{◌≡◌, ◌+◌, ◌-◌, ◌%◌, ◌<◌, ◌==◌, ℕ, Bool, List, ◌++◌, Result, Ok, Err, true, length, take, drop, slice_index, replicate, nat_lt, if◌then◌else◌}
use Rattle.std.specs.Int.{Width, byte_len, from_le_bytes, to_le_bytes}
use Rattle.ndr_core.specs.Cursor.{Cursor}
use Rattle.ndr_core.specs.declared.refusal.NdrBad.{NdrBad}
use Rattle.ndr_core.specs.declared.refusal.NdrBad.TheVariants.{Short, Value}

-- go on with what was read, unless it was refused
infixl 10 ◌>>=◌
abbrev pub ◌>>=◌ : {A B : Type 0} → Result A NdrBad → (A → Result B NdrBad) → Result B NdrBad
(Ok x) >>= f = f x
(Err e) >>= f = Err e

-- a kind of item: the value that is read at a cursor, and the cursor behind it, or the refusal; how a value is written behind bytes; and the bytes that spell a value from a place on
pub record Item (A : Type 0) : Type 1 where
  pub reads : Cursor → Result (A × Cursor) NdrBad
  pub appends : List ℕ → A → List ℕ
  pub Spells : ℕ → A → List ℕ → Type 0

-- each is a byte
abbrev pub AreBytes : List ℕ → Type 0
AreBytes bytes = (i : ℕ) → slice_index bytes i < 256

-- how many bytes there are from a place to the next multiple
abbrev pub padding : ℕ → ℕ → ℕ
padding size at = (size - at % size) % size

-- so many zeros
abbrev pub zeros : ℕ → List ℕ
zeros n = replicate n 0

-- ---- bytes

-- so many bytes behind padding to a multiple, where the padding is free when it is read, and zeros when it is written
abbrev pub chunk : ℕ → ℕ → Item (List ℕ)
chunk size count = record {
  reads = λ c.
      if nat_lt (length c.rest) (padding size c.at + count)
      then Err (Short (c.at + padding size c.at))
      else Ok (take count (drop (padding size c.at) c.rest), record { at = c.at + (padding size c.at + count); rest = drop (padding size c.at + count) c.rest });
  appends = λ out bytes. out ++ zeros (padding size (length out)) ++ bytes;
  Spells = λ at bytes text. (pad : List ℕ) × (length pad ≡ padding size at) × (length bytes ≡ count) × AreBytes bytes × (text ≡ pad ++ bytes);
}

-- so many bytes with no padding
abbrev pub bytes_of : ℕ → Item (List ℕ)
bytes_of count = record {
  reads = λ c. if nat_lt (length c.rest) count then Err (Short c.at) else Ok (take count c.rest, record { at = c.at + count; rest = drop count c.rest });
  appends = λ out bytes. out ++ bytes;
  Spells = λ at bytes text. (length bytes ≡ count) × AreBytes bytes × (text ≡ bytes);
}

-- so many reserved bytes: free when they are read, zeros when they are written
abbrev pub skip : ℕ → Item (Unit {0})
skip count = record {
  reads = λ c. if nat_lt (length c.rest) count then Err (Short c.at) else Ok (tt, record { at = c.at + count; rest = drop count c.rest });
  appends = λ out none. out ++ zeros count;
  Spells = λ at none text. length text ≡ count;
}

-- padding alone
abbrev pub padded : ℕ → Item (Unit {0})
padded size = record {
  reads = λ c. if nat_lt (length c.rest) (padding size c.at) then Err (Short c.at) else Ok (tt, record { at = c.at + padding size c.at; rest = drop (padding size c.at) c.rest });
  appends = λ out none. out ++ zeros (padding size (length out));
  Spells = λ at none text. length text ≡ padding size at;
}

-- ---- words

-- an item whose value is seen otherwise
abbrev pub seen : {A B : Type 0} → (A → B) → (B → A) → Item A → Item B
seen to from item = record {
  reads = λ c. item.reads c >>= λ x. Ok (to x.0, x.1);
  appends = λ out b. item.appends out (from b);
  Spells = λ at b text. (to (from b) ≡ b) × item.Spells at (from b) text;
}

-- an item, and behind it one that depends on its value
abbrev pub followed : {A B : Type 0} → Item A → (A → Item B) → Item (A × B)
followed first second = record {
  reads = λ c. first.reads c >>= λ x. (second x.0).reads x.1 >>= λ y. Ok ((x.0, y.0), y.1);
  appends = λ out ab. (second ab.0).appends (first.appends out ab.0) ab.1;
  Spells = λ at ab text. (x : List ℕ) × (y : List ℕ) × (text ≡ x ++ y) × first.Spells at ab.0 x × (second ab.0).Spells (at + length x) ab.1 y;
}

-- two items, one behind the other
infixr 20 ◌⨾◌
abbrev pub ◌⨾◌ : {A B : Type 0} → Item A → Item B → Item (A × B)
first ⨾ second = followed first (λ a. second)

-- an item of which only some values are good: another is refused where the item begins, behind padding to a multiple
abbrev pub checked : {A : Type 0} → ℕ → (A → Bool) → Item A → Item A
checked size good item = record {
  reads = λ c. item.reads c >>= λ x. if good x.0 then Ok x else Err (Value (c.at + padding size c.at));
  appends = item.appends;
  Spells = λ at a text. (good a ≡ true) × item.Spells at a text;
}

-- an item that has this value and no other
abbrev pub fixed : ℕ → ℕ → Item ℕ → Item (Unit {0})
fixed size n item = record {
  reads = λ c. item.reads c >>= λ x. if x.0 == n then Ok (tt, x.1) else Err (Value (c.at + padding size c.at));
  appends = λ out none. item.appends out n;
  Spells = λ at none text. item.Spells at n text;
}

-- what ends too early is refused at this place
abbrev pub short_at : {A : Type 0} → ℕ → Result A NdrBad → Result A NdrBad
short_at at (Ok x) = Ok x
short_at at (Err e) = Err (Short at)

-- an item of several parts that can only end too early, refused as a whole where it begins
abbrev pub together : {A : Type 0} → ℕ → Item A → Item A
together size item = record {
  reads = λ c. short_at (c.at + padding size c.at) (item.reads c);
  appends = item.appends;
  Spells = item.Spells;
}

-- ---- numbers

-- a number of so many bytes, its least byte first, behind padding to a multiple
abbrev pub number_at : ℕ → Width → Item ℕ
number_at size w = seen (from_le_bytes w) (to_le_bytes w) (chunk size (byte_len w))

-- aligned to its own size
abbrev pub number : Width → Item ℕ
number w = number_at (byte_len w) w

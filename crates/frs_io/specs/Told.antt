-- What a call does to the bytes that a source has left or that a sink has taken, where these are told: `None` tells nothing, neither before a call nor after it.
use Rattle.std.specs.Prelude.{◌≡◌, ℕ, List, ◌++◌, take, drop}
use Rattle.std.specs.declared.option.Option.{Option}
use Rattle.std.specs.Option.{option_map}
use Rattle.std.specs.Io.KnownBytes.{prepend_known, append_known}

-- what was left to read began with these bytes, which the source gave
abbrev pub Gives : Option (List ℕ) → Option (List ℕ) → List ℕ → Type 0
Gives old new bytes = old ≡ prepend_known bytes new

-- the source gave some first bytes of what was left
abbrev pub GivesSome : Option (List ℕ) → Option (List ℕ) → Type 0
GivesSome old new = (n : ℕ) × (new ≡ option_map (drop n) old)

-- the sink took these bytes behind those that it had
abbrev pub Takes : Option (List ℕ) → Option (List ℕ) → List ℕ → Type 0
Takes old new bytes = new ≡ append_known old bytes

-- the sink took some first ones of these bytes behind those that it had
abbrev pub TakesSome : Option (List ℕ) → Option (List ℕ) → List ℕ → Type 0
TakesSome old new bytes = (n : ℕ) × Takes old new (take n bytes)

-- the sink took the front of what was pending, and the rest is pending now
abbrev pub HandsOn : Option (List ℕ) → Option (List ℕ) → List ℕ → List ℕ → Type 0
HandsOn old new before after = (front : List ℕ) × Takes old new front × (before ≡ front ++ after)

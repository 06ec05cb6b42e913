-- Bytes that are known by their head and their sum.
use Rattle.std.specs.Prelude.{ℕ, ◌≡◌, List, length, take}
use Rattle.sha1.specs.Sha1.{sha1}

-- the bytes begin with this head and have this SHA-1 sum
pub record HasSum (front digest bytes : List ℕ) : Type 0 where
  pub head : take (length front) bytes ≡ front
  pub sum : sha1 bytes ≡ digest

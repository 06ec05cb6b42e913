-- How a disk was when it was made.
use Rattle.std.specs.Prelude.{ℕ, ◌&&◌, ◌||◌, nat_eq, not, Bool, true, false}

-- whether a write or a cut was called on it; whether a length that was asked for before was other than 0; whether each such length is 0
pub record Start : Type 0 where
  pub changed : Bool
  pub found : Bool
  pub blank : Bool

-- nothing was called on it
abbrev pub untouched : Bool → Start
untouched blank = record { changed = false; found = false; blank = blank }

-- a write or a cut was called
abbrev pub touched : Start → Start
touched s = record s { changed = true }

-- a length was answered
abbrev pub measured : ℕ → Start → Start
measured n s = record s { found = s.found || (not s.changed && not (nat_eq n 0)) }

-- The sums of contents.
use Rattle.std.specs.Prelude.{◌≡◌, ℕ, List, MatchOption, Option, replicate}
use Rattle.sha1.specs.Sha1.{sha1}
use Rattle.frs_base.specs.declared.kind.Kind.{Kind}
use Rattle.frs_base.specs.declared.kind.Kind.TheVariants.{File, Directory}
use Rattle.frs_base.specs.declared.sum.Sum.{Sum}
use Rattle.marshal_form.specs.Spelling.{spelling}
use Rattle.vol_state.specs.declared.command.VolCmd.{VolCmd}
use Rattle.vol_state.specs.declared.command.VolCmd.TheVariants.{PutNew, PutOver, Mkdir, Move, Remove, Park, Erase, Make, Rewrite, Place}

-- the sum of every directory
abbrev pub no_sum : Sum
no_sum = record { 0 = replicate 20 0 }

-- the sum of a file with these contents: the SHA-1 of its form, whose attributes are 0x20
unfoldable pub file_sum : List ℕ → Sum
file_sum bytes = record { 0 = sha1 (spelling (record { attributes = 0x20 }) bytes) }

-- the sum that contents give an object of this kind
abbrev pub content_sum : Kind → List ℕ → Sum
content_sum File bytes = file_sum bytes
content_sum Directory bytes = no_sum

-- the sum, where it is known, is that of a file with these contents
abbrev pub IsKnownOf : List ℕ → Option Sum → Type 0
IsKnownOf bytes known = MatchOption known (Unit {0}) (λ sum. sum ≡ file_sum bytes)

-- the sum is that of a file with the contents that the command brings, if it brings any
abbrev pub IsBrought : VolCmd → Sum → Type 0
IsBrought (PutNew parent name bytes) sum = sum ≡ file_sum bytes
IsBrought (PutOver fid bytes) sum = sum ≡ file_sum bytes
IsBrought (Mkdir parent name) sum = Unit {0}
IsBrought (Move fid parent name) sum = Unit {0}
IsBrought (Remove fid) sum = Unit {0}
IsBrought (Park fid) sum = Unit {0}
IsBrought (Erase fid) sum = Unit {0}
IsBrought (Make uid kind bytes) sum = sum ≡ file_sum bytes
IsBrought (Rewrite fid bytes) sum = sum ≡ file_sum bytes
IsBrought (Place fid parent name) sum = Unit {0}

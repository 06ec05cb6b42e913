-- Which updates a member refuses to take, and why.
use Rattle.std.specs.Prelude.{ℕ, ◌-◌, ◌^◌, Bool, not, ◌&&◌, ◌||◌, ◌==◌, nat_le, nat_lt, bit_and, if◌then◌else◌, Option, Some, None}
use Rattle.win_order.specs.declared.unfit.Unfit.{Unfit}
use Rattle.win_order.specs.declared.unfit.Unfit.TheVariants.{WrongSet, Compressed, Skewed, Version, Root}
use Rattle.win_order.specs.declared.update.Update.{Update}

-- flag bit 0 is set
abbrev pub is_compressed : Update → Bool
is_compressed u = bit_and u.flags 1 == 1

-- its fence or clock is 2^62 or more
abbrev pub is_skewed : Update → Bool
is_skewed u = nat_le (2 ^ 62) u.fence || nat_le (2 ^ 62) u.clock

-- its version is below 9, or the highest number there is
abbrev pub has_no_version : Update → Bool
has_no_version u = nat_lt u.gvsn.version 9 || u.gvsn.version == 2 ^ 64 - 1

-- its UID is the root's: the content set with version 1
abbrev pub is_of_root : Update → Bool
is_of_root u = u.uid.db == u.set && u.uid.version == 1

-- the first reason not to take the update into a content set
abbrev pub unfit_of : Update → ℕ → Option Unfit
unfit_of u set =
    if not (u.set == set) then Some WrongSet
    else (if is_compressed u then Some Compressed
    else (if is_skewed u then Some Skewed
    else (if has_no_version u then Some Version
    else (if is_of_root u then Some Root
    else None))))

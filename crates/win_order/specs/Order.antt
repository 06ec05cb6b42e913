-- Which of two updates of a file wins.
use Rattle.std.specs.Prelude.{◌≡◌, Bool, true, ◌&&◌, ◌||◌, ◌==◌, nat_lt, bit_and}
use Rattle.frs_base.specs.Versions.{gvsn_lt}
use Rattle.win_order.specs.declared.key.Key.{Key}
use Rattle.win_order.specs.declared.update.Update.{Update}

-- by what an update is ordered among those of its file
abbrev pub key_of : Update → Key
key_of u = record { fence = u.fence; clock = u.clock; created = u.created; gvsn = u.gvsn }

-- lexicographic: by fence, clock, create time, the version's database, the version
abbrev pub key_lt : Key → Key → Bool
key_lt a b =
    nat_lt a.fence b.fence || (a.fence == b.fence
    && (nat_lt a.clock b.clock || (a.clock == b.clock
    && (nat_lt a.created b.created || (a.created == b.created
    && gvsn_lt a.gvsn b.gvsn)))))

-- it is of a directory: attribute bit 0x10 is set
abbrev pub is_directory : Update → Bool
is_directory u = bit_and u.attributes 0x10 == 0x10

-- they share the UID, and u has the greater key
pub record Beats (u v : Update) : Type 0 where
  pub file : u.uid ≡ v.uid
  pub greater : key_lt (key_of v) (key_of u) ≡ true

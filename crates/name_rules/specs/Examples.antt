-- Two small sets of records and a small journal, computed.
use Rattle.std.specs.Prelude.{◌≡◌, ◌↔◌, ℕ, Bool, true, false, List, [], ◌∷◌, Option, replicate}
use Rattle.frs_base.specs.Identifiers.{content_set}
use Rattle.frs_base.specs.declared.sum.Sum.{Sum}
use Rattle.frs_base.specs.declared.version.Uid.{Uid}
use Rattle.win_order.specs.declared.update.Update.{Update}
use Rattle.vol_state.specs.Conditions.{root_uid}
use Rattle.vol_state.specs.Sums.{no_sum}
use Rattle.vol_state.specs.declared.command.VolCmd.TheVariants.{PutNew, PutOver}
use Rattle.vol_state.specs.Maps.{Maps, fresh_maps, write}
use Rattle.name_rules.specs.Shown.{Among}
use Rattle.name_rules.specs.Next.{IsAnswer, Next, NotYet}
use Rattle.name_rules.specs.Tree.{IsShown}

-- the record of a file or directory: of this member, born at this USN and not changed since, at this clock
abbrev pub record_of : Bool → ℕ → ℕ → ℕ → Uid → List ℕ → ℕ → Update
record_of present attributes db usn parent name clock = record {
  present = present;
  name_conflict = false;
  attributes = attributes;
  fence = 2;
  clock = clock;
  created = clock;
  set = content_set;
  hash = no_sum;
  similarity = replicate 16 0;
  uid = record { db = db; version = usn };
  gvsn = record { db = db; version = usn };
  parent = parent;
  name = name;
  flags = 0;
}

-- ---- matching names

-- X, made by the first member at 100, and x, made by the second one at 200, both in the root
abbrev pub capital : Update
capital = record_of true 0x20 1 9 root_uid (0x58 ∷ []) 100

abbrev pub small : Update
small = record_of true 0x20 2 9 root_uid (0x78 ∷ []) 200

-- the later of the two is shown, and the other isn't
abbrev pub MatchingNames : Type 0
MatchingNames = IsShown (Among (capital ∷ small ∷ [])) small × (IsShown (Among (capital ∷ small ∷ [])) capital → ⊥)

-- and is, where the later one is none of the records
abbrev pub AloneIsShown : Type 0
AloneIsShown = IsShown (Among (capital ∷ [])) capital

-- ---- a child of what was removed

-- p, which the first member made and removed, and c in it, made by the second one
abbrev pub removed : Update
removed = record_of false 0x10 1 9 root_uid (0x70 ∷ []) 100

abbrev pub child : Update
child = record_of true 0x20 2 9 (record { db = 1; version = 9 }) (0x63 ∷ []) 200

-- nothing is shown
abbrev pub ChildOfRemoved : Type 0
ChildOfRemoved = (u : Update) → IsShown (Among (removed ∷ child ∷ [])) u → ⊥

-- and c is, while p is there
abbrev pub ChildOfPresent : Type 0
ChildOfPresent = IsShown (Among (record removed { present = true } ∷ child ∷ [])) child

-- ---- two pending records

-- a volume in which the first member put a file and put over it: its journal has a record at 9, and one at 10
abbrev pub two_puts : Maps
two_puts = write 1 (PutOver 1 (0 ∷ [])) (write 1 (PutNew 0 (0x78 ∷ []) []) fresh_maps)

-- where this record is consumed next it is to be consumed first, whatever is recorded and staged
abbrev pub ComesFirst : ℕ → Type 0
ComesFirst usn = (records : List Update) (staged : Uid → Option Sum) (next : Next) → IsAnswer (Among records) 1 two_puts staged usn next ↔ (next ≡ NotYet usn)

-- so it is with each of the two
abbrev pub PendingComesFirst : Type 0
PendingComesFirst = ComesFirst 9 × ComesFirst 10

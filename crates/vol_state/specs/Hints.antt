-- Where to look for objects.
use Rattle.std.specs.Prelude.{⊤, ◌≡◌, ◌⊎◌, false, ◌*◌, ◌+◌, ◌%◌, ◌^◌, ◌<◌, ◌==◌, nat_eq, ℕ, zero, suc, Bool, option_map, slice_set, if◌then◌else◌, List, [], ◌∷◌, length, take, slice_index_or, map, Option, Some, None, unwrap_or}
use Rattle.std.specs.HashMap.{HashMap, get, spare}
use Rattle.frs_base.specs.Names.{fold_unit}
use Rattle.frs_base.specs.declared.version.Uid.{Uid}
use Rattle.vol_state.specs.declared.object.Object.{Object}
use Rattle.vol_state.specs.declared.hints.Link.{Link}
use Rattle.frs_base.specs.Options.{In, some_is}
use Rattle.vol_state.specs.Places.{object_at}
use Rattle.vol_state.specs.Tree.{IsTree}
use Rattle.vol_state.specs.State.{uid_of}

-- hints, and the room for more
pub record Hinted : Type 0 where
  pub links : List Link
  pub room : ℕ

-- one more than the index of the last link with this key, 0 where there is none
abbrev pub after_later : ℕ → ℕ → ℕ → ℕ
after_later zero own key = if own == key then 1 else 0
after_later (suc later) own key = suc (suc later)

abbrev pub last_with : ℕ → List Link → ℕ
last_with key [] = 0
last_with key (l ∷ ls) = after_later (last_with key ls) l.key key

-- each link tells the last one before it with its key
abbrev pub AreChained : List Link → Type 0
AreChained links = (i : ℕ) (d : Link) → i < length links → (slice_index_or links i d).previous ≡ last_with (slice_index_or links i d).key (take i links)

-- a link with this key leads to this object
abbrev pub Leads : List Link → ℕ → ℕ → Type 0
Leads links key fid = (l : Link) × In l links × (l.key ≡ key) × (l.fid ≡ fid)

-- a number of 64 bits for a list of numbers
abbrev pub mixed : ℕ → ℕ → ℕ
mixed key n = ((key * 1099511628211) % 2 ^ 64 + n) % 2 ^ 64

abbrev pub mixed_all : ℕ → List ℕ → ℕ
mixed_all key [] = key
mixed_all key (n ∷ ns) = mixed_all (mixed key n) ns

-- where to look for a name in a directory: matching names have one key
abbrev pub place_key : ℕ → List ℕ → ℕ
place_key parent name = mixed_all parent (map fold_unit name)

-- where to look for a UID
abbrev pub uid_key : Uid → ℕ
uid_key uid = mixed uid.version (uid.db % 2 ^ 64)

-- each object with a key has a hint
abbrev pub AreHinted : (Object → Option ℕ) → List Link → List Object → Type 0
AreHinted keys links objects = (o : Object) (key : ℕ) → In o objects → keys o ≡ Some key → Leads links key o.fid

-- the key of a place
abbrev pub key_of : Option (ℕ × List ℕ) → Option ℕ
key_of place = option_map (λ p. place_key p.0 p.1) place

-- the key of an object's place
abbrev pub place_keys : Object → Option ℕ
place_keys o = key_of o.place

-- the key of an object's UID
abbrev pub uid_keys : ℕ → Object → Option ℕ
uid_keys own o = Some (uid_key (uid_of own o))

-- no link
abbrev pub no_link : Link
no_link = record { key = 0; fid = 0; previous = 0 }

-- the object that the newest link with this key leads to
abbrev pub head_at : ℕ → List Link → Option ℕ
head_at zero links = None
head_at (suc index) links = Some (slice_index_or links index no_link).fid

abbrev pub head_of : ℕ → List Link → Option ℕ
head_of key links = head_at (last_with key links) links

-- a link leads to another object
abbrev pub redirected : ℕ → ℕ → List Link → List Link
redirected index fid links = slice_set links index (record (slice_index_or links index no_link) { fid = fid })

-- what led somewhere still does, but for a newest link whose object hasn't the key
abbrev pub KeepsBut : Bool → ℕ → List Link → List Link → Type 0
KeepsBut keyed key old new = (k fid : ℕ) → Leads old k fid → Leads new k fid ⊎ ((keyed ≡ false) × (k ≡ key) × (head_of key old ≡ Some fid))

-- the object with this number has the key
abbrev pub is_keyed : (Object → Option ℕ) → List Object → ℕ → ℕ → Bool
is_keyed keys objects key fid = some_is (λ o. some_is (λ k. k == key) (keys o)) (object_at objects fid)

-- what a map has at a key, 0 where it has nothing
abbrev pub newest_of : {S : Type 0} → Option (HashMap ℕ ℕ S) → ℕ → ℕ
newest_of None key = 0
newest_of (Some map) key = unwrap_or (get nat_eq map key) 0

-- how many more keys need no memory
abbrev pub spare_of : {S : Type 0} → Option (HashMap ℕ ℕ S) → ℕ
spare_of None = 0
spare_of (Some map) = spare map

-- the value at a key after one was put at a key
abbrev pub newest_after : ℕ → ℕ → ℕ → ℕ → ℕ
newest_after old other key at = if key == other then at else old

-- the map tells the last link with each key, and each link the last one before it
pub record IsThreaded {S : Type 0} (newest : Option (HashMap ℕ ℕ S)) (links : List Link) : Type 0 where
  pub newest_is : (key : ℕ) → newest_of newest key ≡ last_with key links
  pub chained : AreChained links

-- the key, if there is one, leads to this object
abbrev pub LeadsFrom : List Link → Option ℕ → ℕ → Type 0
LeadsFrom links None fid = ⊤
LeadsFrom links (Some key) fid = Leads links key fid

-- what is true of objects with hints by place and by UID
pub record IsShelf (own : ℕ) (places uids : List Link) (objects : List Object) : Type 0 where
  pub tree : IsTree objects
  pub placed : AreHinted place_keys places objects
  pub named : AreHinted (uid_keys own) uids objects

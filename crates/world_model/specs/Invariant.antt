-- What every run keeps.
use Rattle.std.specs.Prelude.{◌≡◌, ◌≢◌, ◌⊎◌, ◌<◌, ◌≤◌, ◌+◌, ◌^◌, ℕ, true, false, List, Some, None, length}
use Rattle.frs_base.specs.Names.{matches}
use Rattle.frs_base.specs.Options.{In}
use Rattle.frs_base.specs.declared.kind.Kind.TheVariants.{File}
use Rattle.frs_base.specs.declared.sum.Sum.{Sum}
use Rattle.frs_base.specs.declared.version.Gvsn.{Gvsn}
use Rattle.frs_base.specs.declared.version.Uid.{Uid}
use Rattle.win_order.specs.declared.update.Update.{Update}
use Rattle.vol_state.specs.declared.object.Object.{Object}
use Rattle.vol_state.specs.declared.record.VolRecord.{VolRecord}
use Rattle.vol_state.specs.State.{uid_of}
use Rattle.vol_state.specs.Sums.{content_sum}
use Rattle.vol_state.specs.Conditions.{root_uid}
use Rattle.vol_state.specs.Maps.{Maps}
use Rattle.vol_state.specs.Tables.{IsAt, IsDirectory, IsReached, Leads}
use Rattle.vol_state.specs.Valid.{IsSummed}
use Rattle.record_db.specs.Records.{Covered, Has, IsRecord}
use Rattle.name_rules.specs.Recorded.{is_deletion}
use Rattle.name_rules.specs.Tree.{is_file, kind_of}
use Rattle.name_rules.specs.Next.{IsPending}
use Rattle.world_model.specs.World.{Member, World, SentVector, SentUpdate, IsConsumed}

-- ---- versions

-- each version is made once, by its member, which covers it and has consumed it; none is recorded, covered or sent before
pub record VersionsAreMade (w : World) : Type 0 where
  pub begun : (d : ℕ) → 9 ≤ (w.at d).consumed
  pub one_each : (u v : Update) → In u w.all → In v w.all → u.gvsn ≡ v.gvsn → u ≡ v
  pub recorded : (u : Update) → In u w.all → IsConsumed w u.gvsn
  pub known : (d : ℕ) (g : Gvsn) → (w.at d).known g ≡ true → IsConsumed w g
  pub sent : (s : SentVector) (g : Gvsn) → In s w.vectors → s.versions g ≡ true → IsConsumed w g
  pub own : (g : Gvsn) → IsConsumed w g → (w.at g.db).known g ≡ true

-- what a member sent it covers
pub record SentIsKnown (w : World) : Type 0 where
  pub vectors : (s : SentVector) (g : Gvsn) → In s w.vectors → s.versions g ≡ true → (w.at s.from).known g ≡ true
  pub updates : (s : SentUpdate) → In s w.updates → Covered w.all (w.at s.from).known s.update

-- ---- a member's volume

-- places lead to the root or to limbo without a cycle; matching names in one directory are one object; UIDs of objects differ
pub record PlacesAreATree (own : ℕ) (m : Maps) : Type 0 where
  pub leads : (fid : ℕ) (o : Object) → IsAt m fid o → Leads true m fid
  pub apart : (f g : ℕ) (o q : Object) (p r : ℕ × List ℕ) → IsAt m f o → IsAt m g q → o.place ≡ Some p → q.place ≡ Some r → p.0 ≡ r.0 → matches p.1 r.1 ≡ true → f ≡ g
  pub uids : (f g : ℕ) (o q : Object) → IsAt m f o → IsAt m g q → uid_of own o ≡ uid_of own q → f ≡ g
  -- kept besides: each place is in the root or in a directory
  pub parents : (fid : ℕ) (o : Object) (p : ℕ × List ℕ) → IsAt m fid o → o.place ≡ Some p → IsDirectory m p.0

-- kept besides: numbers are given out once
pub record NumbersAreFresh (m : Maps) (consumed : ℕ) : Type 0 where
  pub root : m.at 0 ≡ None
  pub next : 0 < m.next_fid
  pub fids : (fid : ℕ) (o : Object) → IsAt m fid o → fid < m.next_fid
  pub named : (n : ℕ) (r : VolRecord) → m.entry n ≡ Some r → r.fid < m.next_fid
  pub born : (fid : ℕ) (o : Object) → IsAt m fid o → o.born < m.next_usn
  pub last : (fid : ℕ) (o : Object) → IsAt m fid o → o.last_local < m.next_usn
  pub first : (fid : ℕ) (o : Object) → IsAt m fid o → o.tag ≡ None → o.born ≤ o.last_local
  pub entries : (n : ℕ) (r : VolRecord) → m.entry n ≡ Some r → n < m.next_usn
  pub consumed_is : consumed ≤ m.next_usn
  -- the journal has the record of each USN from 9 on
  pub whole : (n : ℕ) → 9 ≤ n → n < m.next_usn → (r : VolRecord) × (m.entry n ≡ Some r)

-- kept besides: the local records that aren't consumed say which objects changed
pub record JournalIsTrue (own : ℕ) (m : Maps) (consumed : ℕ) : Type 0 where
  -- each is at or below the last local USN of the object of its UID
  pub later : (fid : ℕ) (o : Object) (n : ℕ) (r : VolRecord) → IsAt m fid o → consumed ≤ n → m.entry n ≡ Some r → r.local ≡ true → r.uid ≡ uid_of own o → n ≤ o.last_local
  -- an object's last local USN is that of such a record of it
  pub last : (fid : ℕ) (o : Object) → IsAt m fid o → consumed ≤ o.last_local
      → (r : VolRecord) × (m.entry o.last_local ≡ Some r) × (r.local ≡ true) × (is_deletion r ≡ false) × (r.fid ≡ fid) × (r.uid ≡ uid_of own o)
  -- the object of its number has its UID
  pub named : (n : ℕ) (r : VolRecord) (o : Object) → consumed ≤ n → m.entry n ≡ Some r → r.local ≡ true → IsAt m r.fid o → uid_of own o ≡ r.uid
  -- where its object is gone, a later one of its UID says so
  pub gone : (n : ℕ) (r : VolRecord) → consumed ≤ n → m.entry n ≡ Some r → r.local ≡ true → is_deletion r ≡ false → m.at r.fid ≡ None
      → (k : ℕ) × (d : VolRecord) × (n < k) × (m.entry k ≡ Some d) × (d.local ≡ true) × (d.uid ≡ r.uid)

-- ---- a member's volume and its records

-- Known are the updates that tell what a file is, Records those that the member has
pub record ObjectsHaveRecords (Known Records : Update → Type 0) (own : ℕ) (x : Member) : Type 0 where
  -- each object without a pending local record has a record
  pub recorded : (fid : ℕ) (o : Object) → IsAt x.volume fid o → IsPending x.consumed x.volume (uid_of own o) ⊎ Has Records (uid_of own o)
  -- each object with one is reached from the root
  pub reached : (fid : ℕ) (o : Object) → IsAt x.volume fid o → IsPending x.consumed x.volume (uid_of own o) → IsReached x.volume fid
  -- an object is of the kind that updates of its UID say
  pub kinds : (fid : ℕ) (o : Object) (u : Update) → IsAt x.volume fid o → Known u → u.uid ≡ uid_of own o → kind_of u ≡ o.kind
  -- an object with a tag has a record, so the version of an own tag is consumed
  pub tagged : (fid : ℕ) (o : Object) (t : Uid) → IsAt x.volume fid o → o.tag ≡ Some t → Has Records t
  -- no object has the root's UID
  pub no_root : (fid : ℕ) (o : Object) → IsAt x.volume fid o → uid_of own o ≢ root_uid

-- an object of the file has this sum
abbrev pub HasSum : ℕ → Maps → Uid → Sum → Type 0
HasSum own m uid sum = (fid : ℕ) × (o : Object) × IsAt m fid o × (uid_of own o ≡ uid) × (o.sum ≡ sum)

-- the contents of the records are there
pub record ContentsAreKept (Records : Update → Type 0) (own : ℕ) (x : Member) : Type 0 where
  -- the hash of each present file is staged, or its object has it as its sum, or a local record is pending
  pub keeps : (u : Update) → Records u → is_file u ≡ true → (x.staged u.uid ≡ Some u.hash) ⊎ (HasSum own x.volume u.uid u.hash ⊎ IsPending x.consumed x.volume u.uid)
  -- each staged sum is the hash of a present file
  pub staged : (uid : Uid) (sum : Sum) → x.staged uid ≡ Some sum → (u : Update) × Records u × (u.uid ≡ uid) × (is_file u ≡ true) × (u.hash ≡ sum)

-- a member, whose database is own
pub record MemberIsSound (Known Records : Update → Type 0) (own : ℕ) (x : Member) : Type 0 where
  pub places : PlacesAreATree own x.volume
  pub numbers : NumbersAreFresh x.volume x.consumed
  pub journal : JournalIsTrue own x.volume x.consumed
  pub objects : ObjectsHaveRecords Known Records own x
  pub contents : ContentsAreKept Records own x

-- a member of a world where All is this list
abbrev pub IsSound : List Update → ℕ → Member → Type 0
IsSound all own x = MemberIsSound (λ u. In u all) (IsRecord all x.known) own x

-- ---- all updates

-- updates of one file are of one kind; the version of its UID is consumed; none is of the root
pub record FilesAreSound (all : List Update) (consumed : ℕ → ℕ) : Type 0 where
  pub kinds : (u v : Update) → In u all → In v all → u.uid ≡ v.uid → kind_of u ≡ kind_of v
  pub made : (u : Update) → In u all → u.uid.version < consumed u.uid.db
  pub no_root : (u : Update) → In u all → u.uid ≢ root_uid

-- fences are at most 3, and clocks little above the moments
pub record ClocksAreSmall (all : List Update) : Type 0 where
  pub fences : (u : Update) → In u all → u.fence ≤ 3
  pub clocks : (u : Update) → In u all → u.clock < 2 ^ 61 + length all

-- how far each member has consumed its journal
abbrev pub consumed_of : World → ℕ → ℕ
consumed_of w d = (w.at d).consumed

-- ---- sums

-- sums are those of contents
pub record SumsAreOfContents (w : World) : Type 0 where
  -- each object has the sum of its contents, of which a directory has none
  pub objects : (d fid : ℕ) (o : Object) → IsAt (w.at d).volume fid o → IsSummed o
  -- the hash of each present file is that of some contents
  pub hashes : (u : Update) → In u w.all → is_file u ≡ true → (bytes : List ℕ) × (content_sum File bytes ≡ u.hash)

-- ---- the invariant

-- what every run keeps
pub record Invariant (w : World) : Type 0 where
  pub versions : VersionsAreMade w
  pub sent : SentIsKnown w
  pub members : (d : ℕ) → IsSound w.all d (w.at d)
  pub files : FilesAreSound w.all (consumed_of w)
  pub clocks : ClocksAreSmall w.all
  pub sums : SumsAreOfContents w

-- Three small worlds. Member 1 is primary, all others are plain.
use Rattle.std.specs.Prelude.{◌≡◌, ◌==◌, ℕ, true, false, if◌then◌else◌, List, [], ◌∷◌, ◌++◌, replicate}
use Rattle.frs_base.specs.Identifiers.{content_set}
use Rattle.frs_base.specs.declared.kind.Kind.TheVariants.{File}
use Rattle.frs_base.specs.declared.kind.MemberKind.TheVariants.{Plain, Primary}
use Rattle.frs_base.specs.declared.version.Gvsn.{Gvsn}
use Rattle.frs_base.specs.declared.version.Uid.{Uid}
use Rattle.win_order.specs.declared.update.Update.{Update}
use Rattle.vol_state.specs.declared.command.VolCmd.TheVariants.{Make, Place, PutNew, PutOver}
use Rattle.vol_state.specs.Conditions.{root_uid}
use Rattle.vol_state.specs.Sums.{file_sum, no_sum}
use Rattle.record_db.specs.Records.{IsRecord, Versions, both, plus}
use Rattle.name_rules.specs.declared.step.Next.{Next as InstallNext}
use Rattle.name_rules.specs.declared.step.Step.TheVariants as install_step
use Rattle.name_rules.specs.declared.step.Next.TheVariants as install_next
use Rattle.name_rules.specs.Tree.{IsShown}
use Rattle.world_model.specs.Due.{View, due}
use Rattle.world_model.specs.World.{World, IsRecordOf, fresh_world}
use Rattle.world_model.specs.Events.{Event, Local, Consume, SendVector, SendUpdate, Adopt, Finish, Install, Unstage}
use Rattle.world_model.specs.Runs.{Happening, Run}
use Rattle.world_model.specs.Laws.{IsAnswerAt}

-- ---- words for the rows

abbrev pub begin : World
begin = fresh_world (λ d. if d == 1 then Primary else Plain)

abbrev pub at_one : Event → Happening
at_one e = record { at = 1; event = e }

abbrev pub at_two : Event → Happening
at_two e = record { at = 2; event = e }

abbrev pub version : ℕ → ℕ → Gvsn
version db number = record { db = db; version = number }

-- the name x
abbrev pub x : List ℕ
x = 0x78 ∷ []

-- a file x in the root, made by member 1 at 100, with these contents, of this version, with this fence and clock
abbrev pub file : List ℕ → Gvsn → ℕ → ℕ → Update
file bytes gvsn fence clock = record {
  present = true;
  name_conflict = false;
  attributes = 0x20;
  fence = fence;
  clock = clock;
  created = 100;
  set = content_set;
  hash = file_sum bytes;
  similarity = replicate 16 0;
  uid = record { db = 1; version = 9 };
  gvsn = gvsn;
  parent = root_uid;
  name = x;
  flags = 0;
}

-- the only winner
abbrev pub IsOnly : (Update → Type 0) → Update → Type 0
IsOnly Records u = Records u × ((v : Update) → Records v → v ≡ u)

-- ---- superseded

-- 1 puts x at 100 and sends its vector, puts over it at 200, and 2 adopts the later change and finishes the round over the earlier vector
abbrev pub superseded : List Happening
superseded =
    at_one (Local (PutNew 0 x []))
    ∷ at_one (Consume 100)
    ∷ at_one SendVector
    ∷ at_one (Local (PutOver 1 (0 ∷ [])))
    ∷ at_one (Consume 200)
    ∷ at_one (SendUpdate (file (0 ∷ []) (version 1 10) 2 200))
    ∷ at_two (Adopt (file (0 ∷ []) (version 1 10) 2 200))
    ∷ at_two (Finish (plus (λ g. false) (version 1 9)))
    ∷ []

-- 2 holds the later change alone, and covers both versions of it and no third
abbrev pub Superseded : Type 0
Superseded = (w : World) × Run begin superseded w × IsOnly (IsRecordOf w 2) (file (0 ∷ []) (version 1 10) 2 200)
    × ((w.at 2).known (version 1 9) ≡ true) × ((w.at 2).known (version 1 10) ≡ true) × ((w.at 2).known (version 1 11) ≡ false)

-- ---- a tie

-- what 1 covers after its first change; 2 after the round and the records of its two steps, and after its change; 1 after the last round
abbrev pub first_vector : Versions
first_vector = plus (λ g. false) (version 1 9)

abbrev pub installed_vector : Versions
installed_vector = plus (plus (both first_vector first_vector) (version 2 9)) (version 2 10)

abbrev pub changed_vector : Versions
changed_vector = plus installed_vector (version 2 11)

abbrev pub last_vector : Versions
last_vector = both (plus (plus (both first_vector installed_vector) (version 1 10)) (version 2 11)) changed_vector

-- 1 puts x at 100, and 2 pulls it
abbrev pub pulled : List Happening
pulled =
    at_one (Local (PutNew 0 x []))
    ∷ at_one (Consume 100)
    ∷ at_one SendVector
    ∷ at_one (SendUpdate (file [] (version 1 9) 2 100))
    ∷ at_two (Adopt (file [] (version 1 9) 2 100))
    ∷ at_two (Finish first_vector)
    ∷ []

-- 2 installs it
abbrev pub installed : List Happening
installed =
    at_two (Install (Make (record { db = 1; version = 9 }) File []))
    ∷ at_two (Install (Place 1 0 x))
    ∷ at_two (Unstage (record { db = 1; version = 9 }))
    ∷ at_two (Consume 150)
    ∷ at_two (Consume 150)
    ∷ []

-- then 1 pulls from 2; both put over it at 200, and each pulls from the other
abbrev pub tie : List Happening
tie =
    pulled
    ++ installed
    ++ at_two SendVector
    ∷ at_one (Finish installed_vector)
    ∷ at_one (Local (PutOver 1 (1 ∷ [])))
    ∷ at_one (Consume 200)
    ∷ at_two (Local (PutOver 1 (2 ∷ [])))
    ∷ at_two (Consume 200)
    ∷ at_two SendVector
    ∷ at_two (SendUpdate (file (2 ∷ []) (version 2 11) 3 200))
    ∷ at_one (Adopt (file (2 ∷ []) (version 2 11) 3 200))
    ∷ at_one (Finish changed_vector)
    ∷ at_one SendVector
    ∷ at_two (Finish last_vector)
    ∷ []

-- by the versions' databases the change of 2 wins, and both hold it alone, and cover all versions of both
abbrev pub Tie : Type 0
Tie = (w : World) × Run begin tie w × IsOnly (IsRecordOf w 1) (file (2 ∷ []) (version 2 11) 3 200) × IsOnly (IsRecordOf w 2) (file (2 ∷ []) (version 2 11) 3 200)
    × ((w.at 1).known (version 1 10) ≡ true) × ((w.at 2).known (version 1 10) ≡ true)

-- this is what 2 does next after these events
abbrev pub DoesNext : List Happening → InstallNext → Type 0
DoesNext hs next = (w : World) × Run begin hs w × IsAnswerAt w 2 next

-- when it has pulled x it makes the file, and when it has installed it nothing is left to do
abbrev pub Installs : Type 0
Installs = DoesNext pulled (install_next.Do (install_step.Make (record { db = 1; version = 9 }))) × DoesNext (pulled ++ installed) install_next.Drained

-- ---- a cycle of parents

-- a directory, made at this moment by member 1
abbrev pub directory : Uid → Gvsn → Uid → List ℕ → ℕ → ℕ → ℕ → Update
directory uid gvsn parent name fence clock created = record {
  present = true;
  name_conflict = false;
  attributes = 0x10;
  fence = fence;
  clock = clock;
  created = created;
  set = content_set;
  hash = no_sum;
  similarity = replicate 16 0;
  uid = uid;
  gvsn = gvsn;
  parent = parent;
  name = name;
  flags = 0;
}

-- p and q, made by 1 at 10 and 11
abbrev pub uid_p : Uid
uid_p = record { db = 1; version = 9 }

abbrev pub uid_q : Uid
uid_q = record { db = 1; version = 10 }

-- at 20, 1 moves p into q and 2 moves q into p
abbrev pub moved_p : Update
moved_p = directory uid_p (version 1 11) uid_q (0x70 ∷ []) 3 20 10

abbrev pub moved_q : Update
moved_q = directory uid_q (version 2 13) uid_p (0x71 ∷ []) 3 20 11

-- all four changes
abbrev pub cycle : List Update
cycle = directory uid_p (version 1 9) root_uid (0x70 ∷ []) 2 10 10 ∷ directory uid_q (version 1 10) root_uid (0x71 ∷ []) 2 11 11 ∷ moved_p ∷ moved_q ∷ []

-- a member that covers both moves has both records, and shows neither, nor anything else
abbrev pub ParentCycle : Type 0
ParentCycle = (known : Versions) → known (version 1 11) ≡ true → known (version 2 13) ≡ true
    → IsRecord cycle known moved_p × IsRecord cycle known moved_q × ((u : Update) → IsShown (IsRecord cycle known) u → ⊥)

-- ---- what is due

-- a file that was moved and changed: its object is to be parked, rewritten and placed, and its content unstaged
abbrev pub moved_and_changed : View
moved_and_changed = record { shown = true; tombstone = false; file = true; object = true; placed = true; exact = false; differs = true; staged = true }

-- a new file: it is to be made and placed, and its content unstaged
abbrev pub new_file : View
new_file = record { shown = true; tombstone = false; file = true; object = false; placed = false; exact = false; differs = false; staged = true }

-- a removed file: its object is to be parked and erased
abbrev pub removed : View
removed = record { shown = false; tombstone = true; file = false; object = true; placed = true; exact = true; differs = true; staged = false }

-- a file whose name another one has: its object is to be parked, and then stays
abbrev pub hidden : View
hidden = record { shown = false; tombstone = false; file = true; object = true; placed = true; exact = true; differs = false; staged = false }

-- a file that is as its record says
abbrev pub done : View
done = record { shown = true; tombstone = false; file = true; object = true; placed = true; exact = true; differs = false; staged = false }

-- as many are due for each
abbrev pub DueRows : Type 0
DueRows = (due moved_and_changed ≡ 4) × (due new_file ≡ 3) × (due removed ≡ 2) × (due hidden ≡ 1) × (due done ≡ 0)

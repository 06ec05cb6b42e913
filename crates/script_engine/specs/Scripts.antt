-- What holds of every script.
use Rattle.std.specs.Prelude.{◌≡◌, ◌↔◌, ◌<◌, ◌+◌, ◌++◌, ℕ, true, All, List, Some, length, slice_get, take}
use Rattle.frs_base.specs.Identifiers.{database_of}
use Rattle.frs_base.specs.Options.{In}
use Rattle.frs_base.specs.declared.version.Gvsn.{Gvsn}
use Rattle.win_order.specs.declared.update.Update.{Update}
use Rattle.record_db.specs.Lists.{Lists}
use Rattle.script_lang.specs.Grammar.{IsLine}
use Rattle.script_lang.specs.declared.line.Line.{Line}
use Rattle.world_model.specs.World.{IsRecordOf}
use Rattle.world_model.specs.Laws.{Same}
use Rattle.world_model.specs.Runs.{Grows}
use Rattle.script_engine.specs.Begun.{Begins}
use Rattle.script_engine.specs.Scene.{Scene, fresh_scene}
use Rattle.script_engine.specs.Sound.{IsSoundScene}
use Rattle.script_engine.specs.Text.{Does, Prints, Run}

-- ---- scenes

-- before the first line
abbrev pub FreshScenesAreSound : Type 0
FreshScenesAreSound = IsSoundScene fresh_scene

-- each line keeps a scene sound
abbrev pub LinesKeepScenesSound : Type 0
LinesKeepScenesSound = (s : Scene) (line : Line) (text : List ℕ) (new : Scene) → IsSoundScene s → IsLine line → Does s line text new → IsSoundScene new

-- so do all lines of a run
abbrev pub RunsKeepScenesSound : Type 0
RunsKeepScenesSound = (s : Scene) (lines : List Line) (text : List ℕ) (new : Scene) → IsSoundScene s → All IsLine lines → Run s lines text new → IsSoundScene new

-- so does what is begun of a line, and the world grows by it
abbrev pub BeginningsKeepScenesSound : Type 0
BeginningsKeepScenesSound = (s : Scene) (line : Line) (new : Scene) → IsSoundScene s → IsLine line → Begins s line new → IsSoundScene new × Grows s.world new.world

-- ---- texts

-- a line prints one text and leads to one scene
abbrev pub LinesPrintOneText : Type 0
LinesPrintOneText = (s : Scene) (line : Line) (a b : List ℕ) (m n : Scene) → IsSoundScene s → IsLine line → Does s line a m → Does s line b n → (a ≡ b) × (m ≡ n)

-- so do the lines of a run
abbrev pub RunsPrintOneText : Type 0
RunsPrintOneText = (s : Scene) (lines : List Line) (a b : List ℕ) (m n : Scene) → IsSoundScene s → All IsLine lines → Run s lines a m → Run s lines b n → (a ≡ b) × (m ≡ n)

-- a script has one text
abbrev pub OneText : Type 0
OneText = (script : List Line) (a b : List ℕ) → All IsLine script → Prints script a → Prints script b → a ≡ b

-- each line prints something and leads on, in every scene that a run reaches
abbrev pub EveryLinePrints : Type 0
EveryLinePrints = (before : List Line) (said : List ℕ) (s : Scene) → All IsLine before → Run fresh_scene before said s
    → (line : Line) → IsLine line → (text : List ℕ) × (new : Scene) × Does s line text new

-- so every script in form has a text
abbrev pub EveryScriptPrints : Type 0
EveryScriptPrints = (script : List Line) → All IsLine script → (text : List ℕ) × Prints script text

-- what some first lines print is a beginning of what all lines print
abbrev pub BeginningsGoOn : Type 0
BeginningsGoOn = (script : List Line) (n : ℕ) (said : List ℕ) → All IsLine script → Prints (take n script) said → (more : List ℕ) × Prints script (said ++ more)

-- ---- what is covered

-- the member whose database an update's version is of covers it
abbrev pub IsCovered : Scene → Gvsn → Type 0
IsCovered s g = (k : ℕ) × (k < length s.names) × (g.db ≡ database_of (k + 1)) × ((s.world.at g.db).known g ≡ true)

-- in every scene that a run reaches, what was recorded is covered by the member that recorded it
abbrev pub RecordedIsCovered : Type 0
RecordedIsCovered = (before : List Line) (said : List ℕ) (s : Scene) → All IsLine before → Run fresh_scene before said s → (u : Update) → In u s.world.all → IsCovered s u.gvsn

-- the member at this place has its name there, and covers what it covered
abbrev pub Lasts : Scene → Scene → ℕ → List ℕ → Type 0
Lasts s new k name = (slice_get new.names k ≡ Some name)
    × ((g : Gvsn) → (s.world.at (database_of (k + 1))).known g ≡ true → (new.world.at (database_of (k + 1))).known g ≡ true)

-- what a member covers, and so what `show` prints in its vector, it covers after every further line
abbrev pub StaysCovered : Type 0
StaysCovered = (s : Scene) (more : List Line) (said : List ℕ) (new : Scene) → IsSoundScene s → All IsLine more → Run s more said new
    → (k : ℕ) (name : List ℕ) → slice_get s.names k ≡ Some name → Lasts s new k name

-- members that cover the same versions, at one moment or at two, have the same records, and so one list of them
abbrev pub EqualRecords : Type 0
EqualRecords = (s : Scene) (more : List Line) (said : List ℕ) (new : Scene) → IsSoundScene s → All IsLine more → Run s more said new
    → (i j : ℕ) → Same (s.world.at i).known (new.world.at j).known
    → ((u : Update) → IsRecordOf s.world i u ↔ IsRecordOf new.world j u)
    × ((a b : List Update) → Lists (IsRecordOf s.world i) a → Lists (IsRecordOf new.world j) b → a ≡ b)

-- What lines make of an engine.
use Rattle.std.specs.Prelude.{ℕ, List}
use Rattle.script_lang.specs.declared.line.Line.{Line}
use Rattle.script_engine.specs.declared.engine.Engine.{Engine}
use Rattle.script_engine.specs.Scene.{Scene}
use Rattle.script_engine.specs.Engines.{Stands}
use Rattle.script_engine.specs.Text.{Run}

-- from each scene that it stood for the lines print this text, and lead to one that it stands for then
abbrev pub Leads : Engine → List Line → List ℕ → Engine → Type 0
Leads old lines text new = (s : Scene) → Stands old s → (mid : Scene) × Run s lines text mid × Stands new mid

-- so they do with some text
abbrev pub LeadsOn : Engine → List Line → Engine → Type 0
LeadsOn old lines new = (s : Scene) → Stands old s → (said : List ℕ) × (mid : Scene) × Run s lines said mid × Stands new mid

-- Why a line is refused, and what it then prints.
use Rattle.std.specs.Prelude.{ℕ, List, [], ◌∷◌, Option, Some, None, bytes_eq, codes, decimal, if◌then◌else◌, is_some}
use Rattle.vol_state.specs.declared.operation.Refused.{Refused}
use Rattle.vol_state.specs.declared.operation.Refused.TheVariants.{TooLarge, NoPath, NotDirectory, Looped, NameTaken, NotEmpty}
use Rattle.script_lang.specs.declared.line.Line.{Line}
use Rattle.script_lang.specs.declared.line.Line.TheVariants as lines
use Rattle.script_engine.specs.declared.refusal.Refusal.{Refusal}
use Rattle.script_engine.specs.declared.refusal.Refusal.TheVariants.{Unknown, Exists, Itself, Local, NotYet, VectorFull}
use Rattle.script_engine.specs.Printed.{printed}
use Rattle.script_engine.specs.Scene.{Scene, place_of}

-- the words of a local operation's refusal: its number, its word, its value
abbrev pub local_words : Refused → List (List ℕ)
local_words (TooLarge count) = codes "10" ∷ codes "toolarge" ∷ decimal count ∷ []
local_words NoPath = codes "5" ∷ codes "nopath" ∷ []
local_words NotDirectory = codes "6" ∷ codes "notdir" ∷ []
local_words Looped = codes "9" ∷ codes "loop" ∷ []
local_words NameTaken = codes "8" ∷ codes "taken" ∷ []
local_words NotEmpty = codes "7" ∷ codes "notempty" ∷ []

-- `refused`, the number, the word and the value
abbrev pub refusal_words : Refusal → List (List ℕ)
refusal_words (Unknown name) = codes "refused" ∷ codes "1" ∷ codes "unknown" ∷ name ∷ []
refusal_words (Exists name) = codes "refused" ∷ codes "2" ∷ codes "exists" ∷ name ∷ []
refusal_words Itself = codes "refused" ∷ codes "18" ∷ codes "self" ∷ []
refusal_words (Local why) = codes "refused" ∷ local_words why
refusal_words (NotYet usn) = codes "refused" ∷ codes "12" ∷ codes "notyet" ∷ decimal usn ∷ []
refusal_words (VectorFull count) = codes "refused" ∷ codes "20" ∷ codes "vectorfull" ∷ decimal count ∷ []

-- what a refused line prints
abbrev pub refused_text : Refusal → List ℕ
refused_text why = printed (refusal_words why)

-- ---- by names

-- no member has the name
abbrev pub unless_named : Scene → List ℕ → Option Refusal
unless_named s name = if is_some (place_of s.names name) then None else Some (Unknown name)

-- the first refusal that applies to a line, as far as names tell
abbrev pub first_refusal : Scene → Line → Option Refusal
first_refusal s (lines.Member name kind) = if is_some (place_of s.names name) then Some (Exists name) else None
first_refusal s (lines.Put name path text) = unless_named s name
first_refusal s (lines.Fill name path count) = unless_named s name
first_refusal s (lines.Mkdir name path) = unless_named s name
first_refusal s (lines.Move name from to) = unless_named s name
first_refusal s (lines.Remove name path) = unless_named s name
first_refusal s (lines.Consume name moment) = unless_named s name
first_refusal s (lines.Change name path moment) = unless_named s name
first_refusal s (lines.Pull name other) =
    if is_some (place_of s.names name) then (if is_some (place_of s.names other) then (if bytes_eq name other then Some Itself else None) else Some (Unknown other))
    else Some (Unknown name)
first_refusal s (lines.Install name) = unless_named s name
first_refusal s (lines.Drain name) = unless_named s name
first_refusal s (lines.Show name) = unless_named s name
first_refusal s (lines.Tree name) = unless_named s name
first_refusal s (lines.Sums name) = unless_named s name
first_refusal s (lines.Count name) = unless_named s name

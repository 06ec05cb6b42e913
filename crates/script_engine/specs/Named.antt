-- Members' names in form.
use Rattle.std.specs.Prelude.{◌≡◌, ◌==◌, ◌||◌, ℕ, Bool, true, All, List, length}
use Rattle.script_lang.specs.Grammar.{is_member_name}
use Rattle.script_engine.specs.declared.names.MemberName.{MemberName}
use Rattle.script_engine.specs.declared.refusal.Refusal.{Refusal}
use Rattle.script_engine.specs.declared.refusal.Refusal.TheVariants.{Unknown, Exists, Itself, Local, NotYet, VectorFull}

-- a member's name, or the empty one of a refused line
abbrev pub is_name_or_empty : List ℕ → Bool
is_name_or_empty name = length name == 0 || is_member_name name

-- each has a name of 1 to 8 letters a to z, or an empty one
abbrev pub AreNamed : List MemberName → Type 0
AreNamed names = All (λ m. is_name_or_empty m.name ≡ true) names

-- a name that a refusal has is a member's
abbrev pub HasName : Refusal → Type 0
HasName (Unknown name) = is_member_name name ≡ true
HasName (Exists name) = is_member_name name ≡ true
HasName Itself = Unit {0}
HasName (Local why) = Unit {0}
HasName (NotYet usn) = Unit {0}
HasName (VectorFull count) = Unit {0}

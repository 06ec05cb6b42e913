-- Machines: states that commands change, one step each, and how commands are spelled.
use Rattle.std.specs.Prelude.{ℕ, ◌≡◌, ◌≢◌, ◌++◌, List, [], ◌∷◌, Option, Some, None}

-- which values are commands, the bytes of each, the steps, and the fresh state that a state began as
pub record Rules (S C : Type 0) : Type 1 where
  pub is_cmd : C → Type 0
  pub code : C → List ℕ
  pub step : S → C → S → Type 0
  pub origin : S → S

-- a state that nothing was done to
abbrev pub IsFresh : {S C : Type 0} → Rules S C → S → Type 0
IsFresh law s = law.origin s ≡ s

-- what every machine's rules keep
pub record Lawful {S C : Type 0} (law : Rules S C) : Type 0 where
  -- a command leads from a state to one state at most
  pub one_step : (s : S) (x : C) (t u : S) → law.step s x t → law.step s x u → t ≡ u
  -- an origin is fresh, and each step keeps it
  pub fresh_origin : (s : S) → IsFresh law (law.origin s)
  pub keeps_origin : (s : S) (x : C) (t : S) → law.step s x t → law.origin t ≡ law.origin s
  -- no command's bytes begin another's, and none begin with 255
  pub no_prefix : (x y : C) (rest : List ℕ) → law.is_cmd x → law.is_cmd y → law.code y ≡ law.code x ++ rest → (x ≡ y) × (rest ≡ [])
  pub no_end : (x : C) (rest : List ℕ) → law.is_cmd x → law.code x ≢ 255 ∷ rest

-- the commands, the first of them first, lead from one state to the other
abbrev pub Runs : {S C : Type 0} → (S → C → S → Type 0) → S → List C → S → Type 0
Runs step s [] t = t ≡ s
Runs {S = S} step s (x ∷ xs) t = (mid : S) × step s x mid × Runs step mid xs t

-- the command that the bytes spell, or that they spell none
abbrev pub Decodes : {S C : Type 0} → Rules S C → List ℕ → Option C → Type 0
Decodes law bytes (Some cmd) = law.is_cmd cmd × (law.code cmd ≡ bytes)
Decodes {C = C} law bytes None = (cmd : C) → law.is_cmd cmd → law.code cmd ≡ bytes → ⊥

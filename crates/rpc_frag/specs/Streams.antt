-- Values out of a stream that comes in pieces.
use Rattle.std.specs.Prelude.{◌≡◌, ◌⊎◌, ◌+◌, ◌≤◌, ℕ, List, [], ◌∷◌, ◌++◌, Option, Some, None, Result, Ok, Err, drop, length}
use Rattle.std.specs.List.{AllByRecursion}
use Rattle.ndr_core.specs.Cursor.{Cursor}
use Rattle.ndr_core.specs.Items.{AreBytes}

-- what is at the front: a value and how many bytes it has, nothing yet, or a refusal
abbrev pub Next : Type 0 → Type 0 → Type 0
Next A E = List ℕ → Result (Option (A × ℕ)) E

-- an answer stays as more bytes come, and a value's bytes are there
pub record IsSteady {A E : Type 0} (next : Next A E) : Type 0 where
  pub stays : (bytes piece : List ℕ) → AreBytes bytes → (next bytes ≡ Ok None) ⊎ (next (bytes ++ piece) ≡ next bytes)
  pub there : (bytes : List ℕ) (a : A) (n : ℕ) → next bytes ≡ Ok (Some (a, n)) → n ≤ length bytes

-- more bytes have come
abbrev pub more : Cursor → List ℕ → Cursor
more c piece = record { at = c.at; rest = c.rest ++ piece }

-- a refusal, and its place in the stream
pub record Bad (E : Type 0) : Type 0 where
  pub at : ℕ
  pub why : E

-- from a place on the stream is these values, and then nothing whole, or a refusal and its place
abbrev pub Ends : {A E : Type 0} → Next A E → Cursor → List A → Result Cursor (Bad E) → Type 0
Ends next c [] (Ok d) = (c ≡ d) × (next c.rest ≡ Ok None)
Ends next c [] (Err bad) = (c.at ≡ bad.at) × (next c.rest ≡ Err bad.why)
Ends next c (a ∷ vs) end = (n : ℕ) × (next c.rest ≡ Ok (Some (a, n))) × Ends next (record { at = c.at + n; rest = drop n c.rest }) vs end

-- pieces are fed one after the other; after a refusal nothing more is looked at
abbrev pub Fed : {A E : Type 0} → Next A E → Result Cursor (Bad E) → List (List ℕ) → List A → Result Cursor (Bad E) → Type 0
Fed next state [] vs end = (vs ≡ []) × (state ≡ end)
Fed {A = A} {E = E} next (Ok c) (piece ∷ pieces) vs end =
    (now : List A) × (later : List A) × (state : Result Cursor (Bad E)) × (vs ≡ now ++ later) × Ends next (more c piece) now state × Fed next state pieces later end
Fed next (Err bad) (piece ∷ pieces) vs end = (vs ≡ []) × (Err bad ≡ end)

abbrev pub whole : List (List ℕ) → List ℕ
whole [] = []
whole (piece ∷ pieces) = piece ++ whole pieces

-- fed in any pieces is fed whole
abbrev pub AnyCut : {A E : Type 0} → Next A E → Type 0
AnyCut {A = A} {E = E} next = (c : Cursor) (pieces : List (List ℕ)) (vs : List A) (end : Result Cursor (Bad E)) → AreBytes c.rest → AllByRecursion AreBytes pieces → next c.rest ≡ Ok None
    → Fed next (Ok c) pieces vs end → Ends next (more c (whole pieces)) vs end

-- and a stream has one reading
abbrev pub OneReading : {A E : Type 0} → Next A E → Type 0
OneReading {A = A} {E = E} next = (c : Cursor) (vs bs : List A) (end other : Result Cursor (Bad E)) → Ends next c vs end → Ends next c bs other → (vs ≡ bs) × (end ≡ other)

-- What calls of readers and writers say.
use Rattle.std.specs.Prelude.{◌≡◌, ◌==◌, ℕ, List, Result, Ok, Err, length, if◌then◌else◌}
use Rattle.std.specs.declared.alloc.AllocError.{AllocError}
use Rattle.ndr_core.specs.Cursor.{Cursor}
use Rattle.ndr_core.specs.Items.{◌>>=◌, Item}
use Rattle.ndr_core.specs.declared.refusal.NdrBad.{NdrBad}
use Rattle.ndr_core.specs.declared.refusal.NdrBad.TheVariants.{Rest}
use Rattle.ndr_core.specs.declared.refusal.NdrError.{NdrError}
use Rattle.ndr_core.specs.declared.refusal.NdrError.TheVariants as errors

-- the call takes an item, or refuses as the item says and leaves the reader where it was
abbrev pub Takes : {X A : Type 0} → (X → A) → Item A → Result X NdrBad → Cursor → Cursor → Type 0
Takes view item (Ok x) old new = item.reads old ≡ Ok (view x, new)
Takes view item (Err e) old new = (item.reads old ≡ Err e) × (new ≡ old)

-- the same of a call made of several, which leaves a refused reader anywhere
abbrev pub Reads : {X A : Type 0} → (X → A) → Item A → Result X NdrBad → Cursor → Cursor → Type 0
Reads view item (Ok x) old new = item.reads old ≡ Ok (view x, new)
Reads view item (Err e) old new = item.reads old ≡ Err e

-- the answer of a function
abbrev pub Answers : {X A : Type 0} → (X → A) → Result X NdrBad → Result A NdrBad → Type 0
Answers view (Ok x) answer = answer ≡ Ok (view x)
Answers view (Err e) answer = answer ≡ Err e

-- the refusal is right, unless memory ran out
abbrev pub Fails : {Y : Type 0} → NdrError → Result Y NdrBad → Type 0
Fails errors.Memory read = Unit {0}
Fails (errors.Bad bad) read = read ≡ Err bad

-- the two, of calls that may have no memory
abbrev pub TakesOrMemory : {X A : Type 0} → (X → A) → Item A → Result X NdrError → Cursor → Cursor → Type 0
TakesOrMemory view item (Ok x) old new = item.reads old ≡ Ok (view x, new)
TakesOrMemory view item (Err e) old new = Fails e (item.reads old) × (new ≡ old)

abbrev pub ReadsOrMemory : {X A : Type 0} → (X → A) → Item A → Result X NdrError → Cursor → Cursor → Type 0
ReadsOrMemory view item (Ok x) old new = item.reads old ≡ Ok (view x, new)
ReadsOrMemory view item (Err e) old new = Fails e (item.reads old)

-- the same by the function that reads
abbrev pub ReadsBy : {X A : Type 0} → (X → A) → (Cursor → Result (A × Cursor) NdrBad) → Result X NdrError → Cursor → Cursor → Type 0
ReadsBy view reads (Ok x) old new = reads old ≡ Ok (view x, new)
ReadsBy view reads (Err e) old new = Fails e (reads old)

-- the call writes an item, or has no memory and leaves the bytes as they were
abbrev pub Writes : {A : Type 0} → Item A → A → Result (Unit {0}) AllocError → List ℕ → List ℕ → Type 0
Writes item a (Ok done) old new = new ≡ item.appends old a
Writes item a (Err e) old new = new ≡ old

-- ---- whole bytes

-- the one item that bytes are, from their first to their last
abbrev pub reads_all : {A : Type 0} → Item A → List ℕ → Result A NdrBad
reads_all item bytes = item.reads (record { at = 0; rest = bytes }) >>= λ x. if length x.1.rest == 0 then Ok x.0 else Err (Rest x.1.at)

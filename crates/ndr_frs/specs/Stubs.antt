-- Whole stubs, and calls that read them.
use Rattle.std.specs.Prelude.{◌≡◌, ◌==◌, Result, Ok, Err, length, if◌then◌else◌}
use Rattle.ndr_core.specs.Cursor.{Cursor}
use Rattle.ndr_core.specs.Items.{◌>>=◌, Item}
use Rattle.ndr_core.specs.declared.refusal.NdrBad.{NdrBad}
use Rattle.ndr_core.specs.declared.refusal.NdrBad.TheVariants.{Rest}
use Rattle.ndr_core.specs.declared.refusal.NdrError.{NdrError}
use Rattle.ndr_core.specs.declared.refusal.NdrError.TheVariants as items
use Rattle.ndr_frs.specs.declared.refusal.StubBad.{StubBad}
use Rattle.ndr_frs.specs.declared.refusal.StubBad.TheVariants as stubs
use Rattle.ndr_frs.specs.declared.refusal.StubError.{StubError}
use Rattle.ndr_frs.specs.declared.refusal.StubError.TheVariants as errors

-- a stub of which an item is refused
abbrev pub of_item : NdrError → StubError
of_item items.Memory = errors.Memory
of_item (items.Bad bad) = errors.Bad (stubs.Item bad)

-- the refusal is right, unless memory ran out
abbrev pub FailsOrMemory : {Y : Type 0} → StubError → Result Y StubBad → Type 0
FailsOrMemory errors.Memory answer = Unit {0}
FailsOrMemory (errors.Bad bad) answer = answer ≡ Err bad

-- the answer is right, unless memory ran out
abbrev pub AnswersOrMemory : {Y : Type 0} → Result Y StubError → Result Y StubBad → Type 0
AnswersOrMemory (Ok x) answer = answer ≡ Ok x
AnswersOrMemory (Err e) answer = FailsOrMemory e answer

-- the same of a call that left the reader there
abbrev pub ReadsOrMemory : {Y : Type 0} → Result Y StubError → Result (Y × Cursor) StubBad → Cursor → Type 0
ReadsOrMemory (Ok x) answer new = answer ≡ Ok (x, new)
ReadsOrMemory (Err e) answer new = FailsOrMemory e answer

-- what is made of an item's value
abbrev pub made : {A B : Type 0} → (A → B) → Item A → Cursor → Result (B × Cursor) NdrBad
made make item c = item.reads c >>= λ x. Ok (make x.0, x.1)

-- an item of a stub
abbrev pub in_stub : {A : Type 0} → Result A NdrBad → Result A StubBad
in_stub (Ok x) = Ok x
in_stub (Err bad) = Err (stubs.Item bad)

-- nothing is left over
abbrev pub all_of : {A : Type 0} → Result (A × Cursor) StubBad → Result A StubBad
all_of (Ok x) = if length x.1.rest == 0 then Ok x.0 else Err (stubs.Item (Rest x.1.at))
all_of (Err bad) = Err bad

-- The first local record of a journal whose USNs run.
use Rattle.std.proofs.Common.{◌≡◌, ◌-◌, ◌<◌, ◌≤◌, ◌∙◌, ℕ, Bool, true, false, Some, None, refl, sym, ap, arith}
use Rattle.std.proofs.lemmas.Option.{slice_get-get_or, slice_get_past}
use Rattle.frs_base.specs.Options.{some_is}
use Rattle.vol_state.specs.declared.record.VolRecord.{VolRecord}
use Rattle.vol_state.specs.Journal.{IsNumbered, record_at}
use Rattle.vol_state.specs.Maps.{maps_of}
use Rattle.vol_state.specs.State.{State}
use Rattle.vol_state.proofs.Runs.{runs_get}
use Rattle.vol_state.proofs.Volumes.{some_of}
use Rattle.name_rules.specs.Next.{IsFirstPending, IsQuiet}

-- the journal record with a USN is a local one
abbrev pub is_local_at : State → ℕ → Bool
is_local_at v usn = some_is (λ r. r.local) (record_at v.journal usn)

-- none before a USN is, from another one on
abbrev pub NoneBefore : State → ℕ → ℕ → Type 0
NoneBefore v from usn = (n : ℕ) → from ≤ n → n < usn → is_local_at v n ≡ false

some_record : VolRecord
some_record = record { usn = 0; fid = 0; uid = record { db = 0; version = 0 }; op = 0; local = false }

-- a USN below the next has a record
pub entry_at : (v : State) (usn : ℕ) → IsNumbered v → 9 ≤ usn → usn < v.next_usn → (r : VolRecord) × (record_at v.journal usn ≡ Some r)
entry_at v usn numbered begun within =
    let next = numbered.next in
    (_, sym (runs_get usn (usn - 9) v.journal numbered.run (omega arith)) ∙ slice_get-get_or v.journal (usn - 9) some_record (omega arith))

-- one that isn't has none
none_past : (v : State) (usn : ℕ) → IsNumbered v → v.next_usn ≤ usn → record_at v.journal usn ≡ None
none_past v usn numbered past =
    let next = numbered.next in
    sym (runs_get usn (usn - 9) v.journal numbered.run (omega arith)) ∙ slice_get_past v.journal (usn - 9) (omega arith)

-- the first that is found comes first
pub is_first : (v : State) (from usn : ℕ) → from ≤ usn → NoneBefore v from usn → is_local_at v usn ≡ true → IsFirstPending from (maps_of v) usn
is_first v from usn le none found = let (r, at, local) = some_of (λ (r : VolRecord). r.local) (record_at v.journal usn) found in record {
  pending = (r, le, at, local);
  least = λ other (s, low, there, loud). not_below other usn (λ below.
      let silent : is_local_at v other ≡ false = none other low below in
      let says : is_local_at v other ≡ true = ap (some_is (λ (r : VolRecord). r.local)) there ∙ loud in
      absurd (cc));
}
  where
    not_below : (a b : ℕ) → (a < b → ⊥) → b ≤ a
    not_below a b never = omega (arith, never)

-- where none is found up to the next USN, none is pending
pub is_quiet : (v : State) (from usn : ℕ) → IsNumbered v → v.next_usn ≤ usn → NoneBefore v from usn → IsQuiet from (maps_of v)
is_quiet v from usn numbered end none n r low at = by r.local refl
  where
    above : usn ≤ n → ⊥
    above le = let out = none_past v n numbered (omega arith) in cc

    below : (a b : ℕ) → (b ≤ a → ⊥) → a < b
    below a b never = omega (arith, never)

    by : (b : Bool) → r.local ≡ b → r.local ≡ false
    by false e = e
    by true e = absurd (
        let silent : is_local_at v n ≡ false = none n low (below n usn above) in
        let says : is_local_at v n ≡ true = ap (some_is (λ (r : VolRecord). r.local)) at ∙ e in
        cc)

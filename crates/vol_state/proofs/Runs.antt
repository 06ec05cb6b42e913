-- A journal whose USNs run.
use Rattle.std.proofs.Common.{◌≡◌, ◌+◌, ◌<◌, ◌&&◌, ℕ, zero, suc, Bool, true, false, eqb, List, [], ◌∷◌, ◌++◌, length, None, refl, arith}
use Rattle.std.specs.Prelude.{slice_get}
use Rattle.std.proofs.lemmas.Bool.Decides.{nat_tests}
use Rattle.vol_state.specs.declared.record.VolRecord.{VolRecord}
use Rattle.vol_state.specs.Journal.{RunsFrom, record_at}
use Rattle.vol_state.proofs.Climbing.{differ}

pub none_before : (low usn : ℕ) → usn < low → (rs : List VolRecord) → RunsFrom low rs → record_at rs usn ≡ None
none_before low usn l [] h = refl
none_before low usn l (r ∷ rs) h = rw (differ r.usn usn (λ e. omega (arith, l, h.0, e))) (none_before (low + 1) usn (omega (arith, l)) rs h.1)

pub runs_none : (usn : ℕ) (rs : List VolRecord) → usn < 9 → RunsFrom 9 rs → record_at rs usn ≡ None
runs_none usn rs l h = none_before 9 usn l rs h

at_place : (low k usn : ℕ) (rs : List VolRecord) → RunsFrom low rs → usn ≡ low + k → slice_get rs k ≡ record_at rs usn
at_place low k usn [] h e = refl
at_place low zero usn (r ∷ rs) h e = let s : eqb r.usn usn ≡ true = grind (arith, nat_tests) in rw s refl
at_place low (suc k) usn (r ∷ rs) h e = rw (differ r.usn usn (λ q. omega (arith, q, e, h.0))) (at_place (low + 1) k usn rs h.1 (omega (arith, e)))

pub runs_get : (usn k : ℕ) (rs : List VolRecord) → RunsFrom 9 rs → k + 9 ≡ usn → slice_get rs k ≡ record_at rs usn
runs_get usn k rs h e = at_place 9 k usn rs h (omega (arith, e))

pub run_push : (usn : ℕ) (rs : List VolRecord) (r : VolRecord) → RunsFrom usn rs → r.usn ≡ usn + length rs → RunsFrom usn (rs ++ r ∷ [])
run_push usn [] r h e = (omega (arith, e), tt)
run_push usn (x ∷ rs) r h e = (h.0, run_push (usn + 1) rs r h.1 (omega (arith, e)))

-- a record with the next USN keeps the run
pub run_more : (runs : Bool) (rs : List VolRecord) (r : VolRecord) → (runs ≡ true → RunsFrom 9 rs) → (runs && eqb r.usn (9 + length rs)) ≡ true → RunsFrom 9 (rs ++ r ∷ [])
run_more false rs r h e = absurd (cc)
run_more true rs r h e = run_push 9 rs r (h refl) (grind (arith, nat_tests))

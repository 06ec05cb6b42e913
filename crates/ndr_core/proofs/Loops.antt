-- Reading items one behind the other, as a loop does.
use Rattle.std.proofs.Common.{◌≡◌, ℕ, zero, suc, Bool, true, get_or, length, ◌-◌, ◌+◌, ◌≤◌, ◌<◌, List, [], ◌∷◌, ◌++◌, Result, Ok, Err, OnOk, refl, sym, ap, ◌∙◌, append_assoc, arith}
use Rattle.std.proofs.lemmas.List.{append-nil}
use Rattle.ndr_core.specs.declared.refusal.NdrBad.{NdrBad}
use Rattle.ndr_core.specs.declared.refusal.NdrError.{NdrError}
use Rattle.ndr_core.specs.declared.refusal.NdrError.TheVariants as errors
use Rattle.ndr_core.specs.Cursor.{Cursor}
use Rattle.std.specs.Int.{w16}
use Rattle.std.specs.declared.alloc.AllocError.{AllocError}
use Rattle.ndr_core.specs.Items.{◌>>=◌, number}
use Rattle.ndr_core.specs.Calls.{Fails, Writes}
use Rattle.ndr_core.specs.Arrays.{all_fit, appends_many, reads_many}
use Rattle.ndr_core.proofs.Steps.{both_of}

-- what was read before, and what is still read
abbrev pub with_front : {A : Type 0} → List A → Result (List A × Cursor) NdrBad → Result (List A × Cursor) NdrBad
with_front front read = read >>= λ x. Ok (front ++ x.0, x.1)

regroup : {A : Type 0} (front : List A) (a : A) (read : Result (List A × Cursor) NdrBad) → with_front front (read >>= λ x. Ok (a ∷ x.0, x.1)) ≡ with_front (front ++ a ∷ []) read
regroup {A = A} front a (Ok x) = ap (λ (xs : List A). Ok (xs, x.1)) (simp append_assoc)
regroup front a (Err f) = refl

pub goes_on : {A : Type 0} (reads : Cursor → Result (A × Cursor) NdrBad) (front : List A) (count i : ℕ) (c : Cursor) (a : A) (after : Cursor) (total : Result (List A × Cursor) NdrBad) → i < count → reads c ≡ Ok (a, after)
    → with_front front (reads_many reads (count - i) c) ≡ total → with_front (front ++ a ∷ []) (reads_many reads (count - (i + 1)) after) ≡ total
goes_on reads front count i c a after total lt h so_far =
    let k : count - i ≡ suc (count - (i + 1)) = omega arith in
    let one : with_front front (reads_many reads (count - i) c) ≡ with_front (front ++ a ∷ []) (reads_many reads (count - (i + 1)) after) = rw (k, h) (regroup front a (reads_many reads (count - (i + 1)) after)) in
    sym one ∙ so_far

pub ends : {A : Type 0} (reads : Cursor → Result (A × Cursor) NdrBad) (e : NdrError) (front : List A) (count i : ℕ) (c : Cursor) (total : Result (List A × Cursor) NdrBad) → i < count → Fails e (reads c)
    → with_front front (reads_many reads (count - i) c) ≡ total → Fails e total
ends reads errors.Memory front count i c total lt h so_far = tt
ends {A = A} reads (errors.Bad f) front count i c total lt h so_far =
    let k : count - i ≡ suc (count - (i + 1)) = omega arith in
    let one : with_front front (reads_many reads (count - i) c) ≡ Err f = rw (k, h) refl in
    sym so_far ∙ one

pub is_done : {A : Type 0} (reads : Cursor → Result (A × Cursor) NdrBad) (front : List A) (count i : ℕ) (c : Cursor) (total : Result (List A × Cursor) NdrBad) → count ≤ i → with_front front (reads_many reads (count - i) c) ≡ total → total ≡ Ok (front, c)
is_done {A = A} reads front count i c total le so_far =
    let k : count - i ≡ 0 = omega arith in
    let one : with_front front (reads_many reads (count - i) c) ≡ Ok (front, c) = rw k (ap (λ (xs : List A). Ok (xs, c)) (append-nil front)) in
    sym so_far ∙ one

-- of all that fit, each does
pub fits_at : {A : Type 0} (fits : A → Bool) (xs : List A) (i : ℕ) (d : A) → i < length xs → all_fit fits xs ≡ true → fits (get_or xs i d) ≡ true
fits_at fits [] i d lt e = absurd (omega arith)
fits_at fits (x ∷ xs) zero d lt e = (both_of (fits x) (all_fit fits xs) e).0
fits_at fits (x ∷ xs) (suc i) d lt e = fits_at fits xs i d (omega arith) (both_of (fits x) (all_fit fits xs) e).1

-- where all have room, all fit
pub all_true : {A : Type 0} (xs : List A) → all_fit (λ x. true) xs ≡ true
all_true [] = refl
all_true (x ∷ xs) = all_true xs

-- one more value, written last
pub appends_last : {A : Type 0} (appends : List ℕ → A → List ℕ) (out : List ℕ) (xs : List A) (x : A) → appends_many appends out (xs ++ x ∷ []) ≡ appends (appends_many appends out xs) x
appends_last appends out [] x = refl
appends_last appends out (y ∷ xs) x = appends_last appends (appends out y) xs x

-- units, and a 0 behind them
pub ends_string : (r : Result (Unit {0}) AllocError) (start mid new units : List ℕ) → mid ≡ appends_many (number w16).appends start units → Writes (number w16) 0 r mid new
    → OnOk r (new ≡ appends_many (number w16).appends start (units ++ 0 ∷ []))
ends_string (Ok done) start mid new units first last = last ∙ ap (λ (out : List ℕ). (number w16).appends out 0) first ∙ sym (appends_last (number w16).appends start units 0)
ends_string (Err e) start mid new units first last = tt

-- How many local records a journal has, and how many of them are consumed.
use Rattle.std.proofs.Common.{◌≡◌, ◌≤◌, ◌+◌, ◌&&◌, ℕ, Bool, true, false, cond, eqb, ltb, List, [], ◌∷◌, ◌++◌, Some, refl, sym, ap, ◌∙◌, subst, arith}
use Rattle.std.specs.Prelude.{count_by}
use Rattle.std.proofs.lemmas.Bool.Decides.{nat_tests}
use Rattle.std.proofs.lemmas.List.Sums.{sum_by-cons, sum_by-le-sum_by, sum_by_push}
use Rattle.vol_state.specs.declared.command.VolCmd.{VolCmd}
use Rattle.vol_state.specs.declared.command.VolCmd.TheVariants.{PutNew, PutOver, Mkdir, Move, Remove, Park, Erase, Make, Rewrite, Place}
use Rattle.vol_state.specs.declared.record.VolRecord.{VolRecord}
use Rattle.vol_state.specs.Effects.{effect}
use Rattle.vol_state.specs.Journal.{record_at}
use Rattle.vol_state.specs.Maps.{Maps}
use Rattle.vol_state.specs.State.{State}
use Rattle.vol_state.specs.Tables.{IsLocal, IsReplica}
use Rattle.folder_core.specs.Machine.{Machine}
use Rattle.script_engine.specs.Standing.{local_in, recorded_in}

-- ---- counts

-- an item that passes counts as one
abbrev one_if : Bool → ℕ
one_if b = cond b 1 0

one_less : (a b : Bool) → (a ≡ true → b ≡ true) → one_if a ≤ one_if b
one_less false b h = omega arith
one_less true b h = subst (λ t. 1 ≤ one_if t) (sym (h refl)) (omega arith)

-- no more pass a test than pass a weaker one
count_less : {X : Type 0} (p q : X → Bool) (xs : List X) → ((x : X) → p x ≡ true → q x ≡ true) → count_by p xs ≤ count_by q xs
count_less p q xs h = sum_by-le-sum_by (λ x. one_if (p x)) (λ x. one_if (q x)) xs (λ x. one_less (p x) (q x) (h x))

-- local records below a USN
abbrev below : ℕ → VolRecord → Bool
below n r = r.local && ltb r.usn n

first_true : (a b : Bool) → (a && b) ≡ true → a ≡ true
first_true true b h = refl
first_true false b h = absurd (cc)

below_later : (local : Bool) (usn n k : ℕ) → n ≤ k → (local && ltb usn n) ≡ true → (local && ltb usn k) ≡ true
below_later true usn n k l h = grind (arith, nat_tests)
below_later false usn n k l h = absurd (cc)

past : (local : Bool) (usn n : ℕ) → usn ≡ n → (local && ltb usn n) ≡ false
past true usn n e = grind (arith, nat_tests)
past false usn n e = refl

now_below : (local : Bool) (usn n : ℕ) → usn ≡ n → local ≡ true → (local && ltb usn (n + 1)) ≡ true
now_below true usn n e h = grind (arith, nat_tests)
now_below false usn n e h = absurd (cc)

more_below : (n k : ℕ) (journal : List VolRecord) → n ≤ k → count_by (below n) journal ≤ count_by (below k) journal
more_below n k journal l = count_less (below n) (below k) journal (λ r h. below_later r.local r.usn n k l h)

-- with the local record of a USN there is one more
one_below : (n : ℕ) (journal : List VolRecord) (r : VolRecord) → record_at journal n ≡ Some r → r.local ≡ true → count_by (below n) journal + 1 ≤ count_by (below (n + 1)) journal
one_below n [] r at local = absurd (cc)
one_below n (x ∷ xs) r at local = by (eqb x.usn n) refl at (λ found. one_below n xs r found local)
  where
    by : (t : Bool) → eqb x.usn n ≡ t → cond t (Some x) (record_at xs n) ≡ Some r → (record_at xs n ≡ Some r → count_by (below n) xs + 1 ≤ count_by (below (n + 1)) xs)
        → count_by (below n) (x ∷ xs) + 1 ≤ count_by (below (n + 1)) (x ∷ xs)
    by true e found more =
        let same : x ≡ r = cc in
        let usn : x.usn ≡ n = grind (arith, nat_tests) in
        let old : one_if (below n x) ≡ 0 = ap one_if (past x.local x.usn n usn) in
        let new : one_if (below (n + 1) x) ≡ 1 = ap one_if (now_below x.local x.usn n usn (ap (λ (y : VolRecord). y.local) same ∙ local)) in
        let rest = more_below n (n + 1) xs (omega arith) in
        omega (arith, old, new, rest, sum_by-cons (λ y. one_if (below n y)) x xs, sum_by-cons (λ y. one_if (below (n + 1) y)) x xs)
    by false e found more =
        let here = one_less (below n x) (below (n + 1) x) (λ h. below_later x.local x.usn n (n + 1) (omega arith) h) in
        let rest = more found in
        omega (arith, here, rest, sum_by-cons (λ y. one_if (below n y)) x xs, sum_by-cons (λ y. one_if (below (n + 1) y)) x xs)

-- ---- a machine's

-- what was recorded was local
pub recorded_less : (m : Machine) → recorded_in m ≤ local_in m
recorded_less m = count_less (below m.book.consumed) (λ r. r.local) m.volume.journal (λ r h. first_true r.local (ltb r.usn m.book.consumed) h)

-- with the same journal, as many records are local
pub local_same : (old new : Machine) → new.volume ≡ old.volume → local_in new ≡ local_in old
local_same old new same = ap (λ (v : State). count_by (λ r. r.local) v.journal) same

-- and no fewer were recorded where no fewer are consumed
pub recorded_kept : (old new : Machine) → new.volume ≡ old.volume → old.book.consumed ≤ new.book.consumed → recorded_in old ≤ recorded_in new
recorded_kept old new same l =
    subst (λ (v : State). recorded_in old ≤ count_by (below new.book.consumed) v.journal) (sym same) (more_below old.book.consumed new.book.consumed old.volume.journal l)

-- a local record that is consumed is one more
pub recorded_one : (old new : Machine) (r : VolRecord) → new.volume ≡ old.volume → new.book.consumed ≡ old.book.consumed + 1 → record_at old.volume.journal old.book.consumed ≡ Some r → r.local ≡ true
    → recorded_in old + 1 ≤ recorded_in new
recorded_one old new r same next at local =
    subst (λ (v : State). recorded_in old + 1 ≤ count_by (below new.book.consumed) v.journal) (sym same)
    (subst (λ n. recorded_in old + 1 ≤ count_by (below n) old.volume.journal) (sym next) (one_below old.book.consumed old.volume.journal r at local))

-- ---- a local operation

-- its command appends a local record
logs_one : (cmd : VolCmd) (v : State) (m : Maps) → IsLocal m cmd → (r : VolRecord) × ((effect cmd v).journal ≡ v.journal ++ r ∷ []) × (r.local ≡ true)
logs_one (PutNew parent name bytes) v m l = (_, refl, refl)
logs_one (PutOver fid bytes) v m l = (_, refl, refl)
logs_one (Mkdir parent name) v m l = (_, refl, refl)
logs_one (Move fid parent name) v m l = (_, refl, refl)
logs_one (Remove fid) v m l = (_, refl, refl)
logs_one (Park fid) v m l = absurd l
logs_one (Erase fid) v m l = absurd l
logs_one (Make uid kind bytes) v m l = absurd l
logs_one (Rewrite fid bytes) v m l = absurd l
logs_one (Place fid parent name) v m l = absurd l

-- so that there is one more
pub local_one : (cmd : VolCmd) (old new : Machine) (m : Maps) → IsLocal m cmd → new ≡ record old { volume = effect cmd old.volume } → local_in new ≡ local_in old + 1
local_one cmd old new m l is =
    let (r, appends, local) = logs_one cmd old.volume m l in
    ap (λ (y : Machine). local_in y) is ∙ ap (count_by (λ r. r.local)) appends ∙ sum_by_push (λ (r : VolRecord). one_if r.local) old.volume.journal r ∙ ap (λ t. local_in old + one_if t) local

-- and what was recorded stays
pub recorded_still : (cmd : VolCmd) (old new : Machine) (m : Maps) → IsLocal m cmd → new ≡ record old { volume = effect cmd old.volume } → recorded_in old ≤ recorded_in new
recorded_still cmd old new m l is =
    let (r, appends, local) = logs_one cmd old.volume m l in
    let after = ap (λ (y : Machine). recorded_in y) is ∙ ap (count_by (below old.book.consumed)) appends ∙ sum_by_push (λ r. one_if (below old.book.consumed r)) old.volume.journal r in
    omega (arith, after)

-- ---- an operation of the installer

-- its command appends a record that isn't local
logs_other : (cmd : VolCmd) (own : ℕ) (v : State) (m : Maps) → IsReplica own m cmd → (r : VolRecord) × ((effect cmd v).journal ≡ v.journal ++ r ∷ []) × (r.local ≡ false)
logs_other (PutNew parent name bytes) own v m l = absurd l
logs_other (PutOver fid bytes) own v m l = absurd l
logs_other (Mkdir parent name) own v m l = absurd l
logs_other (Move fid parent name) own v m l = absurd l
logs_other (Remove fid) own v m l = absurd l
logs_other (Park fid) own v m l = (_, refl, refl)
logs_other (Erase fid) own v m l = (_, refl, refl)
logs_other (Make uid kind bytes) own v m l = (_, refl, refl)
logs_other (Rewrite fid bytes) own v m l = (_, refl, refl)
logs_other (Place fid parent name) own v m l = (_, refl, refl)

-- so that as many are local
pub local_kept : (cmd : VolCmd) (own : ℕ) (old new : Machine) (m : Maps) → IsReplica own m cmd → new ≡ record old { volume = effect cmd old.volume } → local_in new ≡ local_in old
local_kept cmd own old new m l is =
    let (r, appends, other) = logs_other cmd own old.volume m l in
    let one = ap one_if other in
    let after = ap (λ (y : Machine). local_in y) is ∙ ap (count_by (λ r. r.local)) appends ∙ sum_by_push (λ (r : VolRecord). one_if r.local) old.volume.journal r in
    omega (arith, after, one)

-- and what was recorded stays
pub recorded_behind : (cmd : VolCmd) (own : ℕ) (old new : Machine) (m : Maps) → IsReplica own m cmd → new ≡ record old { volume = effect cmd old.volume } → recorded_in old ≤ recorded_in new
recorded_behind cmd own old new m l is =
    let (r, appends, other) = logs_other cmd own old.volume m l in
    let after = ap (λ (y : Machine). recorded_in y) is ∙ ap (count_by (below old.book.consumed)) appends ∙ sum_by_push (λ r. one_if (below old.book.consumed r)) old.volume.journal r in
    omega (arith, after)

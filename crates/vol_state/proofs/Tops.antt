-- The greatest numbers after a change.
use Rattle.std.proofs.Common.{◌≡◌, ◌-◌, ◌^◌, ◌<◌, ◌≤◌, max, ℕ, Bool, true, cond, List, [], ◌∷◌, ◌++◌, Some, refl, sym, ap, ◌∙◌, arith}
use Rattle.std.proofs.lemmas.Bool.Decides.{nat_tests, eqb_tells}
use Rattle.vol_state.specs.declared.object.Object.{Object}
use Rattle.vol_state.specs.declared.record.VolRecord.{VolRecord}
use Rattle.vol_state.specs.Places.{object_at}
use Rattle.frs_base.specs.Options.{In}
use Rattle.vol_state.specs.State.{State, uid_of}
use Rattle.vol_state.specs.Numbers.{greatest, greatest_fid, greatest_usn, own_version, usn_in, has_usn, has_fid}
use Rattle.vol_state.specs.Effects.{edit, without, stamp, uid_at, added, edited, gone}
use Rattle.vol_state.proofs.Climbing.{by_cases}

greatest_push : {T : Type 0} (f : T → ℕ) (xs : List T) (x : T) → greatest f (xs ++ x ∷ []) ≡ max (greatest f xs) (f x)
greatest_push f [] x = omega arith
greatest_push f (y ∷ ys) x = let h = greatest_push f ys x in omega arith

-- each item is at most the greatest
pub greatest_in : {T : Type 0} (f : T → ℕ) (xs : List T) (x : T) → In x xs → f x ≤ greatest f xs
greatest_in f [] x i = absurd i
greatest_in f (y ∷ ys) x i = by_cases i
    (λ e. let h : f x ≡ f y = ap f e in omega arith)
    (λ j. let h = greatest_in f ys x j in omega arith)

same_fids : (g : Object → Object) → ((o : Object) → (g o).fid ≡ o.fid) → (fid : ℕ) (os : List Object) → greatest (λ o. o.fid) (edit fid g os) ≡ greatest (λ o. o.fid) os
same_fids g keeps fid [] = refl
same_fids g keeps fid (o ∷ os) = by_cases (eqb_tells o.fid fid)
    (λ t. rw t.0 (ap (λ n. max n (greatest (λ o. o.fid) os)) (keeps o)))
    (λ t. rw t.0 (ap (max o.fid) (same_fids g keeps fid os)))

-- an edit brings no number above n
edit_at_most : (f : Object → ℕ) (g : Object → Object) (n : ℕ) → ((o : Object) → f (g o) ≤ max (f o) n) → (fid : ℕ) (os : List Object) → greatest f os ≤ n → greatest f (edit fid g os) ≤ n
edit_at_most f g n most fid [] le = le
edit_at_most f g n most fid (o ∷ os) le = by_cases (eqb_tells o.fid fid)
    (λ t. rw t.0 (let h = most o in omega arith))
    (λ t. rw t.0 (let h = edit_at_most f g n most fid os (omega arith) in omega arith))

without_at_most : (f : Object → ℕ) (n fid : ℕ) (os : List Object) → greatest f os ≤ n → greatest f (without fid os) ≤ n
without_at_most f n fid [] le = le
without_at_most f n fid (o ∷ os) le = by_cases (eqb_tells o.fid fid)
    (λ t. rw t.0 (omega arith))
    (λ t. rw t.0 (let h = without_at_most f n fid os (omega arith) in omega arith))

without_fid : (fid : ℕ) (os : List Object) → max (greatest (λ o. o.fid) (without fid os)) fid ≡ max (greatest (λ o. o.fid) os) fid
without_fid fid [] = refl
without_fid fid (o ∷ os) = by_cases (eqb_tells o.fid fid)
    (λ t. rw t.0 (let h = t.1 in omega arith))
    (λ t. rw t.0 (let h = without_fid fid os in omega arith))

pub there_at_most : (fid : ℕ) (o : Object) (os : List Object) → object_at os fid ≡ Some o → fid ≤ greatest (λ o. o.fid) os
there_at_most fid o [] e = absurd (cc)
there_at_most fid o (x ∷ os) e = by_cases (eqb_tells x.fid fid)
    (λ t. let h = t.1 in omega arith)
    (λ t. let h = there_at_most fid o os (sym (ap (λ b. cond b (Some x) (object_at os fid)) t.0) ∙ e) in omega arith)

-- what a test says of the next USN and the next fid
pub usn_above : (v : State) → has_usn v ≡ true → (greatest_usn v < v.next_usn) × (v.next_usn < 2 ^ 64 - 1)
usn_above v h = (grind (arith, nat_tests), grind (arith, nat_tests))

pub fid_above : (v : State) → has_fid v ≡ true → (greatest_fid v < v.next_fid) × (v.next_fid < 2 ^ 64 - 1)
fid_above v h = (grind (arith, nat_tests), grind (arith, nat_tests))

pub objects_fid : (v : State) → greatest (λ o. o.fid) v.objects ≤ greatest_fid v
unfolding greatest_fid
objects_fid v = omega arith

pub objects_usn : (v : State) → greatest (usn_in v.own) v.objects ≤ greatest_usn v
unfolding greatest_usn
objects_usn v = omega arith

pub fid_added : (op : ℕ) (local : Bool) (o : Object) (v : State) → o.fid ≡ v.next_fid → has_fid v ≡ true → v.next_fid ≡ greatest_fid (added op local o v)
unfolding greatest_fid
fid_added op local o v is has =
    let above = (fid_above v has).0 in
    let objects = greatest_push (λ o. o.fid) v.objects o in
    let journal = greatest_push (λ (r : VolRecord). r.fid) v.journal (record { usn = v.next_usn; fid = o.fid; uid = uid_of v.own o; op = op; local = local }) in
    omega arith

pub usn_added : (op : ℕ) (local : Bool) (o : Object) (v : State) → o.born ≡ v.next_usn → o.last_local ≤ v.next_usn → has_usn v ≡ true → max v.next_usn (own_version v.own o.tag) ≡ greatest_usn (added op local o v)
unfolding greatest_usn
usn_added op local o v born last has =
    let above = (usn_above v has).0 in
    let objects = greatest_push (usn_in v.own) v.objects o in
    let journal = greatest_push (λ (r : VolRecord). r.usn) v.journal (record { usn = v.next_usn; fid = o.fid; uid = uid_of v.own o; op = op; local = local }) in
    omega arith

pub fid_edited : (op : ℕ) (local : Bool) (fid : ℕ) (f : Object → Object) (o : Object) (v : State) → ((x : Object) → (f x).fid ≡ x.fid) → object_at v.objects fid ≡ Some o → greatest_fid v ≡ greatest_fid (edited op local fid f v)
unfolding greatest_fid
fid_edited op local fid f o v keeps at =
    let there = there_at_most fid o v.objects at in
    let objects = same_fids (λ x. stamp local v.next_usn (f x)) keeps fid v.objects in
    let journal = greatest_push (λ (r : VolRecord). r.fid) v.journal (record { usn = v.next_usn; fid = fid; uid = uid_at v fid; op = op; local = local }) in
    omega arith

pub usn_edited : (op : ℕ) (local : Bool) (fid : ℕ) (f : Object → Object) (v : State) → ((x : Object) → usn_in v.own (stamp local v.next_usn (f x)) ≤ max (usn_in v.own x) v.next_usn) → has_usn v ≡ true → v.next_usn ≡ greatest_usn (edited op local fid f v)
unfolding greatest_usn
usn_edited op local fid f v most has =
    let above = (usn_above v has).0 in
    let objects = edit_at_most (usn_in v.own) (λ x. stamp local v.next_usn (f x)) v.next_usn most fid v.objects (omega arith) in
    let journal = greatest_push (λ (r : VolRecord). r.usn) v.journal (record { usn = v.next_usn; fid = fid; uid = uid_at v fid; op = op; local = local }) in
    omega arith

pub fid_gone : (op : ℕ) (local : Bool) (fid : ℕ) (o : Object) (v : State) → object_at v.objects fid ≡ Some o → greatest_fid v ≡ greatest_fid (gone op local fid v)
unfolding greatest_fid
fid_gone op local fid o v at =
    let there = there_at_most fid o v.objects at in
    let objects = without_fid fid v.objects in
    let journal = greatest_push (λ (r : VolRecord). r.fid) v.journal (record { usn = v.next_usn; fid = fid; uid = uid_at v fid; op = op; local = local }) in
    omega arith

pub usn_gone : (op : ℕ) (local : Bool) (fid : ℕ) (v : State) → has_usn v ≡ true → v.next_usn ≡ greatest_usn (gone op local fid v)
unfolding greatest_usn
usn_gone op local fid v has =
    let above = (usn_above v has).0 in
    let objects = without_at_most (usn_in v.own) v.next_usn fid v.objects (omega arith) in
    let journal = greatest_push (λ (r : VolRecord). r.usn) v.journal (record { usn = v.next_usn; fid = fid; uid = uid_at v fid; op = op; local = local }) in
    omega arith

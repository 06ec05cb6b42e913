-- Records that are found, and updates that are put.
use Rattle.std.proofs.Common.{◌≡◌, ◌<◌, ◌≤◌, ◌+◌, ℕ, Bool, true, false, cond, eqb, List, [], ◌∷◌, length, Option, Some, None, refl, sym, ap, ◌∙◌, subst, inl, inr, arith}
use Rattle.std.proofs.lemmas.Bool.Decides.{nat_tests}
use Rattle.std.specs.List.{AllByRecursion}
use Rattle.frs_base.specs.Options.{In}
use Rattle.frs_base.specs.Versions.{same_uid}
use Rattle.frs_base.specs.declared.version.Uid.{Uid}
use Rattle.win_order.specs.declared.update.Update.{Update}
use Rattle.vol_state.specs.declared.record.VolRecord.{VolRecord}
use Rattle.vol_state.specs.Journal.{IsNumbered, RunsFrom, record_at}
use Rattle.vol_state.specs.State.{State}
use Rattle.record_db.proofs.Keys.{same_uid_is, same_uid_refl}
use Rattle.record_db.specs.Steps.{in_set}
use Rattle.name_rules.specs.Recorded.{held_of}
use Rattle.world_model.specs.Folder.{IsFound}

-- what is found by a UID is the record of the file, or there is none
pub held_is : (records : List Update) (uid : Uid) → IsFound records uid (held_of records uid)
held_is [] uid = λ v a s. a
held_is (r ∷ rs) uid = by (same_uid r.uid uid) refl (held_of rs uid) (held_is rs uid)
  where
    by : (b : Bool) → same_uid r.uid uid ≡ b → (rest : Option Update) → IsFound rs uid rest → IsFound (r ∷ rs) uid (cond b (Some r) rest)
    by true e rest found = (inl refl, same_uid_is r.uid uid e)
    by false e None never = λ v a s. elim a [
      | inl same ↦ absurd (true_false (same_uid r.uid uid) (ap (λ z. same_uid z.uid uid) (sym same) ∙ ap (λ z. same_uid z uid) s ∙ same_uid_refl uid) e)
      | inr b ↦ never v b s
    ]
      where
        true_false : (b : Bool) → b ≡ true → b ≡ false → ⊥
        true_false b p q = cc
    by false e (Some held) found = (inr found.0, found.1)

-- what all items of a list are, each is
pub each_of : {T : Type 0} (P : T → Type 0) (xs : List T) (x : T) → AllByRecursion P xs → In x xs → P x
each_of P [] x all a = absurd a
each_of P (y ∷ ys) x all (inl same) = subst P (sym same) all.0
each_of P (y ∷ ys) x all (inr b) = each_of P ys x all.1 b

-- an update of the content set is as it is
pub in_own_set : (set : ℕ) (u : Update) → u.set ≡ set → in_set set u ≡ u
in_own_set set u same = λ i. record u { set = sym same i }

-- ---- journals

run_finds : (journal : List VolRecord) (from usn : ℕ) → RunsFrom from journal → from ≤ usn → usn < from + length journal → (r : VolRecord) × (record_at journal usn ≡ Some r)
run_finds [] from usn run low high = absurd (omega (arith, low, high))
run_finds (r ∷ rs) from usn run low high = by (eqb r.usn usn) refl (λ past. run_finds rs (from + 1) usn run.1 past (omega (arith, high)))
  where
    by : (b : Bool) → eqb r.usn usn ≡ b → (from + 1 ≤ usn → (s : VolRecord) × (record_at rs usn ≡ Some s)) → (s : VolRecord) × (cond b (Some r) (record_at rs usn) ≡ Some s)
    by true e later = (r, refl)
    by false e later = let first = run.0 in let past : from + 1 ≤ usn = grind (arith, nat_tests) in later past

-- each USN below the next one has its record
pub record_there : (v : State) (usn : ℕ) → IsNumbered v → 9 ≤ usn → usn < v.next_usn → (r : VolRecord) × (record_at v.journal usn ≡ Some r)
record_there v usn numbered low high = run_finds v.journal 9 usn numbered.run low (let next = numbered.next in omega (arith, next, high))

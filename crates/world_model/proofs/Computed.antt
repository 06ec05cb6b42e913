-- Winners among a few updates, by computing.
use Rattle.std.proofs.Common.{◌≡◌, ◌≢◌, ◌⊎◌, ℕ, zero, suc, Bool, true, false, not, ◌&&◌, List, [], ◌∷◌, refl, sym, ap, subst, inl, inr, Option, Some}
use Rattle.frs_base.specs.Options.{In}
use Rattle.frs_base.specs.Versions.{same_uid}
use Rattle.frs_base.specs.declared.version.Uid.{Uid}
use Rattle.win_order.specs.Order.{Beats, key_lt, key_of}
use Rattle.win_order.specs.declared.update.Update.{Update}
use Rattle.win_order.proofs.KeyLemmas.{key_asym}
use Rattle.vol_state.specs.declared.object.Object.{Object}
use Rattle.vol_state.specs.Conditions.{root_uid}
use Rattle.vol_state.specs.Maps.{Maps, written}
use Rattle.record_db.specs.Records.{IsRecord, IsWinner, Versions}
use Rattle.record_db.proofs.Keys.{key_irrefl, same_uid_is, same_uid_refl}
use Rattle.name_rules.specs.Next.{IsQuiet}
use Rattle.name_rules.specs.Tree.{IsShown, ShownBy}
use Rattle.world_model.specs.World.{World, IsRecordOf}
use Rattle.world_model.specs.Events.{IsAllHeld}
use Rattle.world_model.specs.Examples.{IsOnly}
use Rattle.world_model.proofs.Facts.{at_case, some_is, true_false}

-- ---- tests over a list

-- it holds of each
abbrev pub all_pass : (Update → Bool) → List Update → Bool
all_pass test [] = true
all_pass test (u ∷ us) = test u && all_pass test us

and_parts : (a b : Bool) → (a && b) ≡ true → (a ≡ true) × (b ≡ true)
and_parts true b e = (refl, e)
and_parts false b e = absurd (true_false false e refl)

pass_in : (test : Update → Bool) (us : List Update) → all_pass test us ≡ true → (u : Update) → In u us → test u ≡ true
pass_in test [] e u h = absurd h
pass_in test (v ∷ us) e u (inl s) = subst (λ y. test y ≡ true) (sym s) (and_parts (test v) (all_pass test us) e).0
pass_in test (v ∷ us) e u (inr h) = pass_in test us (and_parts (test v) (all_pass test us) e).1 u h

not_true : (a : Bool) → not a ≡ true → a ≡ false
not_true true e = absurd (true_false false e refl)
not_true false e = refl

-- ---- winners

-- what beats all others is the only winner
pub tops : (P : Update → Type 0) (u : Update) → P u → ((v : Update) → P v → (v ≡ u) ⊎ Beats u v) → IsOnly (IsWinner P) u
tops P u here each = (record { among = here; unbeaten = λ v p b. over v (each v p) b }, λ v h. one v h (each v h.among))
  where
    over : (v : Update) → (v ≡ u) ⊎ Beats u v → Beats v u → ⊥
    over v (inl e) b = key_irrefl (key_of u) (subst (λ y. key_lt (key_of u) (key_of y) ≡ true) e b.greater)
    over v (inr a) b = key_asym (key_of u) (key_of v) b.greater a.greater

    one : (v : Update) → IsWinner P v → (v ≡ u) ⊎ Beats u v → v ≡ u
    one v h (inl e) = e
    one v h (inr b) = absurd (h.unbeaten u here b)

-- it is covered, and none of its file has a greater key and is covered
pub record_by : (all : List Update) (known : Versions) (u : Update) → In u all → known u.gvsn ≡ true
    → all_pass (λ v. not (same_uid v.uid u.uid && (key_lt (key_of u) (key_of v) && known v.gvsn))) all ≡ true → IsRecord all known u
record_by all known u here k test = record {
  among = (here, k);
  unbeaten = λ v c b. true_false _
      (both (same_uid v.uid u.uid) (key_lt (key_of u) (key_of v)) (known v.gvsn) (subst (λ i. same_uid v.uid i ≡ true) b.file (same_uid_refl v.uid)) b.greater c.1)
      (not_true _ (pass_in _ all test v c.0));
}
  where
    both : (a b c : Bool) → a ≡ true → b ≡ true → c ≡ true → (a && (b && c)) ≡ true
    both true true true p q r = refl
    both true true false p q r = absurd (true_false false r refl)
    both true false c p q r = absurd (true_false false q refl)
    both false b c p q r = absurd (true_false false p refl)

-- all updates are of its file, and none has a greater key
pub held_by : (w : World) (d : ℕ) (u : Update) → IsRecordOf w d u → all_pass (λ v. same_uid u.uid v.uid && not (key_lt (key_of u) (key_of v))) w.all ≡ true
    → (s : Versions) → IsAllHeld w d s
held_by w d u h test s v r =
    let (file, low) = and_parts _ _ (pass_in _ w.all test v r.among.0) in
    (u, h, same_uid_is u.uid v.uid file, not_true _ low)

-- ---- what is hidden

-- where no record is in the root, none is shown
pub none_shown : (R : Update → Type 0) → ((u : Update) → R u → u.parent ≢ root_uid) → (u : Update) → IsShown R u → ⊥
none_shown R apart u (n, h) = by n u h
  where
    by : (n : ℕ) (u : Update) → ShownBy R n u → ⊥
    by zero u h = h
    by (suc n) u (name, inl root) = apart u name.among root
    by (suc n) u (name, inr (p, uid, d, h)) = by n p h

-- ---- volumes where the installer alone wrote

pub quiet_written : (consumed : ℕ) (m : Maps) (fid : ℕ) (o : Option Object) (uid : Uid) (op : ℕ) → IsQuiet consumed m → IsQuiet consumed (written m fid o uid op false)
quiet_written consumed m fid o uid op h n r past at = at_case (r.local ≡ false) m.entry m.next_usn _ n (Some r) at
    (λ e s. ap (λ z. z.local) (sym (some_is _ r s)))
    (λ e s. h n r past s)

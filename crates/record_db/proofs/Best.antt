-- Winners of a set of updates that grows.
use Rattle.std.proofs.Common.{◌≡◌, ◌≢◌, ◌⊎◌, Bool, true, false, List, [], ◌∷◌, refl, sym, ap, ◌∙◌, subst, inl, inr, Option, Some, None, MatchOption}
use Rattle.frs_base.specs.Options.{In}
use Rattle.frs_base.specs.declared.version.Uid.{Uid}
use Rattle.win_order.specs.Order.{Beats, key_lt, key_of}
use Rattle.win_order.specs.declared.update.Update.{Update}
use Rattle.record_db.specs.Records.{Covered, IsHeld, IsHeldOrBeaten, IsRecord, IsWinner, Versions}
use Rattle.record_db.proofs.Keys.{key_cut, key_irrefl, key_same, key_trans, not_below, uid_cases}

-- ---- one update more

-- Q is P and u, and u beats all of its file in P
pub record Grown (P Q : Update → Type 0) (u : Update) : Type 0 where
  pub old : (v : Update) → P v → Q v
  pub new : Q u
  pub only : (v : Update) → Q v → P v ⊎ (v ≡ u)
  pub beaten : (v : Update) → P v → v.uid ≡ u.uid → key_lt (key_of v) (key_of u) ≡ true

pub best_new : {P Q : Update → Type 0} (u : Update) → Grown P Q u → IsWinner Q u
best_new {P = P} u g = record { among = g.new; unbeaten = λ v h b. by v (g.only v h) b }
  where
    by : (v : Update) → P v ⊎ (v ≡ u) → Beats v u → ⊥
    by v (inl p) b = key_irrefl (key_of u) (key_trans (key_of u) (key_of v) (key_of u) b.greater (g.beaten v p b.file))
    by v (inr e) b = key_irrefl (key_of u) (subst (λ x. key_lt (key_of u) (key_of x) ≡ true) e b.greater)

pub best_old : {P Q : Update → Type 0} (u x : Update) → Grown P Q u → IsWinner P x → x.uid ≢ u.uid → IsWinner Q x
best_old {P = P} u x g h apart = record { among = g.old x h.among; unbeaten = λ v q b. by v (g.only v q) b }
  where
    by : (v : Update) → P v ⊎ (v ≡ u) → Beats v x → ⊥
    by v (inl p) b = h.unbeaten v p b
    by v (inr e) b = apart (sym b.file ∙ ap (λ y. y.uid) e)

pub best_put : {P Q : Update → Type 0} (u x : Update) → Grown P Q u → IsWinner Q x → (x ≡ u) ⊎ (IsWinner P x × (x.uid ≢ u.uid))
best_put {P = P} u x g h = by (g.only x h.among) (uid_cases x.uid u.uid)
  where
    by : P x ⊎ (x ≡ u) → (x.uid ≡ u.uid) ⊎ (x.uid ≢ u.uid) → (x ≡ u) ⊎ (IsWinner P x × (x.uid ≢ u.uid))
    by (inr e) s = inl e
    by (inl p) (inl s) = absurd (h.unbeaten u g.new (record { file = sym s; greater = g.beaten x p s }))
    by (inl p) (inr n) = inr (record { among = p; unbeaten = λ v q b. h.unbeaten v (g.old v q) b }, n)

-- of the same set
pub best_same : {P Q : Update → Type 0} (x : Update) → ((v : Update) → P v → Q v) → ((v : Update) → Q v → P v) → IsWinner P x → IsWinner Q x
best_same x to back h = record { among = to x h.among; unbeaten = λ v q b. h.unbeaten v (back v q) b }

-- a file has one winner, where each version is of one update
pub best_one : {P : Update → Type 0} (u v : Update) → ((a b : Update) → P a → P b → a.gvsn ≡ b.gvsn → a ≡ b) → IsWinner P u → IsWinner P v → u.uid ≡ v.uid → u ≡ v
best_one u v one h k file =
    one u v h.among k.among (key_same (key_of u) (key_of v) (not_below u v file (h.unbeaten v k.among)) (not_below v u (sym file) (k.unbeaten u h.among)))

-- a file has one winner, or none
pub one_held : (P : Update → Type 0) (uid : Uid) (a b : Option Update) → ((u v : Update) → P u → P v → u.gvsn ≡ v.gvsn → u ≡ v) → IsHeld P uid a → IsHeld P uid b → a ≡ b
one_held P uid None None one h h' = refl
one_held P uid None (Some v) one h h' = absurd (h v h'.0.among h'.1)
one_held P uid (Some u) None one h h' = absurd (h' u h.0.among h.1)
one_held P uid (Some u) (Some v) one h h' = ap Some (best_one u v one h.0 h'.0 (h.1 ∙ sym h'.1))

-- what beats the winner of its file beats all of its file
pub beats_all : (P : Update → Type 0) (u : Update) (held : Option Update) → IsHeld P u.uid held → MatchOption held (Unit {0}) (λ r. Beats u r)
    → (v : Update) → P v → v.uid ≡ u.uid → key_lt (key_of v) (key_of u) ≡ true
beats_all P u None h b v p s = absurd (h v p s)
beats_all P u (Some r) h b v p s = by (key_lt (key_of v) (key_of u)) refl
  where
    by : (t : Bool) → key_lt (key_of v) (key_of u) ≡ t → t ≡ true
    by true e = refl
    by false e = absurd (h.0.unbeaten v p (record { file = s ∙ sym h.1; greater = key_cut (key_of r) (key_of v) (key_of u) b.greater e }))

-- ---- each file of what is covered has a winner

-- the record of a file, or none, found among all that was recorded
pub held_is : (all : List Update) (known : Versions) (uid : Uid) → (held : Option Update) × IsHeld (Covered all known) uid held
held_is [] known uid = (None, λ v c s. c.0)
held_is (x ∷ xs) known uid = by (held_is xs known uid) (known x.gvsn) refl (uid_cases x.uid uid)
  where
    apart : (v : Update) → Covered (x ∷ xs) known v → (x.uid ≢ uid) ⊎ (known x.gvsn ≡ false) → v.uid ≡ uid → Covered xs known v
    apart v (inl e, k) (inl n) s = absurd (n (ap (λ y. y.uid) (sym e) ∙ s))
    apart v (inl e, k) (inr f) s = let t : known x.gvsn ≡ true = ap (λ y. known y.gvsn) (sym e) ∙ k in cc
    apart v (inr h, k) n s = (h, k)

    same : (held : Option Update) → IsHeld (Covered xs known) uid held → (x.uid ≢ uid) ⊎ (known x.gvsn ≡ false) → (found : Option Update) × IsHeld (Covered (x ∷ xs) known) uid found
    same None h n = (None, λ v c s. h v (apart v c n s) s)
    same (Some r) h n = (Some r, (record { among = (inr h.0.among.0, h.0.among.1); unbeaten = λ v c b. h.0.unbeaten v (apart v c n (b.file ∙ h.1)) b }, h.1))

    first : known x.gvsn ≡ true → x.uid ≡ uid → (held : Option Update) → IsHeld (Covered xs known) uid held → MatchOption held (Unit {0}) (λ r. Beats x r)
        → (found : Option Update) × IsHeld (Covered (x ∷ xs) known) uid found
    first k e held h b =
        let g : Grown (Covered xs known) (Covered (x ∷ xs) known) x = record {
          old = λ v c. (inr c.0, c.1);
          new = (inl refl, k);
          only = λ v c. elim c.0 [ inl s ↦ inr s | inr m ↦ inl (m, c.1) ];
          beaten = beats_all (Covered xs known) x held (subst (λ i. IsHeld (Covered xs known) i held) (sym e) h) b;
        } in
        (Some x, (best_new x g, e))

    later : known x.gvsn ≡ true → x.uid ≡ uid → (r : Update) → IsHeld (Covered xs known) uid (Some r) → key_lt (key_of r) (key_of x) ≡ false
        → (found : Option Update) × IsHeld (Covered (x ∷ xs) known) uid found
    later k e r h below = (Some r, (record { among = (inr h.0.among.0, h.0.among.1); unbeaten = λ v c b. one v c.0 c.1 b }, h.1))
      where
        one : (v : Update) → In v (x ∷ xs) → known v.gvsn ≡ true → Beats v r → ⊥
        one v (inl s) t b = let up : key_lt (key_of r) (key_of x) ≡ true = subst (λ y. key_lt (key_of r) (key_of y) ≡ true) s b.greater in cc
        one v (inr m) t b = h.0.unbeaten v (m, t) b

    by : (held : Option Update) × IsHeld (Covered xs known) uid held → (t : Bool) → known x.gvsn ≡ t → (x.uid ≡ uid) ⊎ (x.uid ≢ uid) → (found : Option Update) × IsHeld (Covered (x ∷ xs) known) uid found
    by (held, h) t e (inr n) = same held h (inl n)
    by (held, h) false e (inl s) = same held h (inr e)
    by (None, h) true e (inl s) = first e s None h tt
    by (Some r, h) true e (inl s) = pick (key_lt (key_of r) (key_of x)) refl
      where
        pick : (b : Bool) → key_lt (key_of r) (key_of x) ≡ b → (found : Option Update) × IsHeld (Covered (x ∷ xs) known) uid found
        pick true b = first e s (Some r) h (record { file = s ∙ sym h.1; greater = b })
        pick false b = later e s r h b

-- each covered update is held, or another of its file that isn't lower
pub covered_held : (all : List Update) (known : Versions) (v : Update) → Covered all known v
    → IsHeldOrBeaten (IsRecord all known) v
covered_held all known v c = by (held_is all known v.uid)
  where
    by : (held : Option Update) × IsHeld (Covered all known) v.uid held → IsHeldOrBeaten (IsRecord all known) v
    by (None, h) = absurd (h v c refl)
    by (Some r, h) = (r, h.0, h.1, not_below r v h.1 (λ b. h.0.unbeaten v c b))

-- ---- a larger set, whose updates are all held or beaten

-- the old winners win
pub best_more : {P Q : Update → Type 0} (x : Update) → ((v : Update) → P v → Q v) → ((v : Update) → Q v → IsHeldOrBeaten (IsWinner P) v) → IsWinner P x → IsWinner Q x
best_more {P = P} x old held h = record { among = old x h.among; unbeaten = λ v q b. by v (held v q) b }
  where
    by : (v : Update) → IsHeldOrBeaten (IsWinner P) v → Beats v x → ⊥
    by v (r, wins, file, low) b = h.unbeaten r wins.among (record { file = file ∙ b.file; greater = key_cut (key_of x) (key_of r) (key_of v) b.greater low })

-- and no others, where each version is of one update
pub best_fewer : {P Q : Update → Type 0} (x : Update) → ((a b : Update) → Q a → Q b → a.gvsn ≡ b.gvsn → a ≡ b) → ((v : Update) → P v → Q v) → ((v : Update) → Q v → IsHeldOrBeaten (IsWinner P) v)
    → IsWinner Q x → IsWinner P x
best_fewer {P = P} x one old held h = by (held x h.among)
  where
    by : IsHeldOrBeaten (IsWinner P) x → IsWinner P x
    by (r, wins, file, low) =
        let same : r ≡ x = one r x (old r wins.among) h.among (key_same (key_of r) (key_of x) low (not_below x r (sym file) (h.unbeaten r (old r wins.among)))) in
        subst (IsWinner P) same wins

-- Lists of updates in order of their files.
use Rattle.std.proofs.Common.{◌≡◌, ◌≢◌, ◌⊎◌, Bool, true, false, cond, List, [], ◌∷◌, refl, sym, ap, ◌∙◌, subst, inl, inr, Option, Some, None}
use Rattle.std.specs.Prelude.{IfSome, find}
use Rattle.std.specs.List.{AllByRecursion}
use Rattle.frs_base.specs.Options.{In}
use Rattle.frs_base.specs.Versions.{same_uid, uid_lt}
use Rattle.frs_base.specs.declared.version.Uid.{Uid}
use Rattle.win_order.specs.declared.update.Update.{Update}
use Rattle.record_db.specs.Lists.{IsRising, Lists, put_record}
use Rattle.record_db.specs.Records.{Covered, IsHeld, IsRecord, IsWinner, Versions}
use Rattle.record_db.proofs.Keys.{same_uid_is, same_uid_refl, uid_apart, uid_total, uid_trans}
use Rattle.record_db.proofs.Best.{Grown, best_new, best_old, best_put, covered_held}

-- ---- what is above the first

pub above : (r x : Update) (rs : List Update) → AllByRecursion (λ v. uid_lt r.uid v.uid ≡ true) rs → In x rs → uid_lt r.uid x.uid ≡ true
above r x [] a h = absurd h
above r x (s ∷ rs) a (inl e) = subst (λ y. uid_lt r.uid y.uid ≡ true) (sym e) a.0
above r x (s ∷ rs) a (inr h) = above r x rs a.1 h

all_above : (r s : Update) (rs : List Update) → uid_lt r.uid s.uid ≡ true → AllByRecursion (λ v. uid_lt s.uid v.uid ≡ true) rs → AllByRecursion (λ v. uid_lt r.uid v.uid ≡ true) rs
all_above r s [] p a = tt
all_above r s (t ∷ rs) p a = (uid_trans r.uid s.uid t.uid p a.0, all_above r s rs p a.1)

-- ---- what is among the records after a put

pub in_put : (u x : Update) (rs : List Update) → IsRising rs → In x (put_record u rs) → (x ≡ u) ⊎ (In x rs × (x.uid ≢ u.uid))
in_put u x [] up (inl e) = inl e
in_put u x [] up (inr h) = absurd h
in_put u x (r ∷ rs) up h = by (uid_lt r.uid u.uid) (same_uid r.uid u.uid) refl refl h (in_put u x rs up.1)
  where
    apart : uid_lt u.uid r.uid ≡ true → In x (r ∷ rs) → x.uid ≡ u.uid → ⊥
    apart lower (inl same) s = uid_apart u.uid r.uid lower (sym s ∙ ap (λ y. y.uid) same)
    apart lower (inr h) s = uid_apart u.uid x.uid (uid_trans u.uid r.uid x.uid lower (above r x rs up.0 h)) (sym s)

    by : (a b : Bool) → uid_lt r.uid u.uid ≡ a → same_uid r.uid u.uid ≡ b → In x (cond a (r ∷ put_record u rs) (cond b (u ∷ rs) (u ∷ r ∷ rs)))
        → (In x (put_record u rs) → (x ≡ u) ⊎ (In x rs × (x.uid ≢ u.uid))) → (x ≡ u) ⊎ (In x (r ∷ rs) × (x.uid ≢ u.uid))
    by true b e f (inl same) k = inr (inl same, λ s. uid_apart r.uid u.uid e (ap (λ y. y.uid) (sym same) ∙ s))
    by true b e f (inr h) k = elim (k h) [ inl s ↦ inl s | inr p ↦ inr (inr p.0, p.1) ]
    by false true e f (inl same) k = inl same
    by false true e f (inr h) k = inr (inr h, λ s. uid_apart r.uid x.uid (above r x rs up.0 h) (same_uid_is r.uid u.uid f ∙ sym s))
    by false false e f (inl same) k = inl same
    by false false e f (inr h) k = inr (h, λ s. apart (uid_total r.uid u.uid e f) h s)

pub put_in : (u : Update) (rs : List Update) → In u (put_record u rs)
put_in u [] = inl refl
put_in u (r ∷ rs) = by (uid_lt r.uid u.uid) (same_uid r.uid u.uid) (put_in u rs)
  where
    by : (a b : Bool) → In u (put_record u rs) → In u (cond a (r ∷ put_record u rs) (cond b (u ∷ rs) (u ∷ r ∷ rs)))
    by true b h = inr h
    by false true h = inl refl
    by false false h = inl refl

pub put_keeps : (u x : Update) (rs : List Update) → In x rs → x.uid ≢ u.uid → In x (put_record u rs)
put_keeps u x [] h n = absurd h
put_keeps u x (r ∷ rs) h n = by (uid_lt r.uid u.uid) (same_uid r.uid u.uid) refl h (λ k. put_keeps u x rs k n)
  where
    by : (a b : Bool) → same_uid r.uid u.uid ≡ b → In x (r ∷ rs) → (In x rs → In x (put_record u rs)) → In x (cond a (r ∷ put_record u rs) (cond b (u ∷ rs) (u ∷ r ∷ rs)))
    by true b f (inl e) k = inl e
    by true b f (inr h) k = inr (k h)
    by false true f (inl e) k = absurd (n (ap (λ y. y.uid) e ∙ same_uid_is r.uid u.uid f))
    by false true f (inr h) k = inr h
    by false false f h k = inr h

put_above : (r u : Update) (rs : List Update) → uid_lt r.uid u.uid ≡ true → AllByRecursion (λ v. uid_lt r.uid v.uid ≡ true) rs → AllByRecursion (λ v. uid_lt r.uid v.uid ≡ true) (put_record u rs)
put_above r u [] p a = (p, tt)
put_above r u (s ∷ rs) p a = by (uid_lt s.uid u.uid) (same_uid s.uid u.uid) (put_above r u rs p a.1)
  where
    by : (b c : Bool) → AllByRecursion (λ v. uid_lt r.uid v.uid ≡ true) (put_record u rs)
        → AllByRecursion (λ v. uid_lt r.uid v.uid ≡ true) (cond b (s ∷ put_record u rs) (cond c (u ∷ rs) (u ∷ s ∷ rs)))
    by true c k = (a.0, k)
    by false true k = (p, a.1)
    by false false k = (p, a)

pub put_rising : (u : Update) (rs : List Update) → IsRising rs → IsRising (put_record u rs)
put_rising u [] up = (tt, tt)
put_rising u (r ∷ rs) up = by (uid_lt r.uid u.uid) (same_uid r.uid u.uid) refl refl (put_rising u rs up.1)
  where
    by : (a b : Bool) → uid_lt r.uid u.uid ≡ a → same_uid r.uid u.uid ≡ b → IsRising (put_record u rs) → IsRising (cond a (r ∷ put_record u rs) (cond b (u ∷ rs) (u ∷ r ∷ rs)))
    by true b e f k = (put_above r u rs e up.0, k)
    by false true e f k = (subst (λ id. AllByRecursion (λ v. uid_lt id v.uid ≡ true) rs) (same_uid_is r.uid u.uid f) up.0, up.1)
    by false false e f k = let lower = uid_total r.uid u.uid e f in ((lower, all_above u r rs lower up.0), up)

-- what holds of the records and of the update holds after the put
pub put_all : (P : Update → Type 0) (u : Update) (rs : List Update) → AllByRecursion P rs → P u → AllByRecursion P (put_record u rs)
put_all P u [] a p = (p, tt)
put_all P u (r ∷ rs) a p = by (uid_lt r.uid u.uid) (same_uid r.uid u.uid) (put_all P u rs a.1 p)
  where
    by : (b c : Bool) → AllByRecursion P (put_record u rs) → AllByRecursion P (cond b (r ∷ put_record u rs) (cond c (u ∷ rs) (u ∷ r ∷ rs)))
    by true c k = (a.0, k)
    by false true k = (p, a.1)
    by false false k = (p, a)

-- ---- lists of winners

-- a list of the winners of P, with u put, is one of the winners of Q
pub put_lists : (P Q : Update → Type 0) (u : Update) (records : List Update) → Grown P Q u → Lists (IsWinner P) records → Lists (IsWinner Q) (put_record u records)
put_lists P Q u records g l = record {
  rising = put_rising u records l.rising;
  each = λ x h. elim (in_put u x records l.rising h) [
    | inl e ↦ subst (IsWinner Q) (sym e) (best_new u g)
    | inr p ↦ best_old u x g (l.each x p.0) p.1
  ];
  whole = λ x h. elim (best_put u x g h) [
    | inl e ↦ subst (λ y. In y (put_record u records)) (sym e) (put_in u records)
    | inr p ↦ put_keeps u x records (l.whole x p.0) p.1
  ];
}

-- one set has one list
pub lists_one : (P : Update → Type 0) (a b : List Update) → Lists P a → Lists P b → a ≡ b
lists_one P a b k l = by a b k.rising l.rising (λ u h. l.whole u (k.each u h)) (λ u h. k.whole u (l.each u h))
  where
    by : (a b : List Update) → IsRising a → IsRising b → ((u : Update) → In u a → In u b) → ((u : Update) → In u b → In u a) → a ≡ b
    by [] [] up up' to back = refl
    by [] (y ∷ ys) up up' to back = absurd (back y (inl refl))
    by (x ∷ xs) [] up up' to back = absurd (to x (inl refl))
    by (x ∷ xs) (y ∷ ys) up up' to back =
        let same : x ≡ y = first (to x (inl refl)) (back y (inl refl)) in
        let rest : xs ≡ ys = by xs ys up.1 up'.1 (λ u h. tail u h (to u (inr h))) (λ u h. tail' u h (back u (inr h))) in
        λ i. same i ∷ rest i
      where
        first : In x (y ∷ ys) → In y (x ∷ xs) → x ≡ y
        first (inl e) h = e
        first (inr h) (inl e) = sym e
        first (inr h) (inr h') = absurd (uid_apart x.uid x.uid (uid_trans x.uid y.uid x.uid (above x y xs up.0 h') (above y x ys up'.0 h)) refl)

        same_head : x ≡ y
        same_head = first (to x (inl refl)) (back y (inl refl))

        tail : (u : Update) → In u xs → In u (y ∷ ys) → In u ys
        tail u h (inl e) = absurd (uid_apart x.uid u.uid (above x u xs up.0 h) (ap (λ z. z.uid) (same_head ∙ sym e)))
        tail u h (inr k) = k

        tail' : (u : Update) → In u ys → In u (x ∷ xs) → In u xs
        tail' u h (inl e) = absurd (uid_apart y.uid u.uid (above y u ys up'.0 h) (ap (λ z. z.uid) (sym same_head ∙ sym e)))
        tail' u h (inr k) = k

-- the same updates
pub lists_same : (P Q : Update → Type 0) (list : List Update) → ((u : Update) → P u → Q u) → ((u : Update) → Q u → P u) → Lists P list → Lists Q list
lists_same P Q list to back l = record { rising = l.rising; each = λ u h. to u (l.each u h); whole = λ u q. l.whole u (back u q) }

-- ---- the record of a file

pub find_at : (rs : List Update) (uid : Uid) (r : Update) → IsRising rs → In r rs → r.uid ≡ uid → find (λ x. same_uid x.uid uid) rs ≡ Some r
find_at [] uid r up h e = absurd h
find_at (s ∷ rs) uid r up (inl same) e = first (same_uid s.uid uid) (subst (λ x. same_uid s.uid x ≡ true) (ap (λ x. x.uid) (sym same) ∙ e) (same_uid_refl s.uid))
  where
    first : (b : Bool) → b ≡ true → cond b (Some s) (find (λ x. same_uid x.uid uid) rs) ≡ Some r
    first true t = ap Some (sym same)
    first false t = absurd (cc)
find_at (s ∷ rs) uid r up (inr h) e = later (same_uid s.uid uid) refl (find_at rs uid r up.1 h e)
  where
    later : (b : Bool) → same_uid s.uid uid ≡ b → find (λ x. same_uid x.uid uid) rs ≡ Some r → cond b (Some s) (find (λ x. same_uid x.uid uid) rs) ≡ Some r
    later true t k = absurd (uid_apart s.uid r.uid (above s r rs up.0 h) (same_uid_is s.uid uid t ∙ sym e))
    later false t k = k

pub find_in : (rs : List Update) (uid : Uid) (r : Update) → find (λ x. same_uid x.uid uid) rs ≡ Some r → In r rs × (r.uid ≡ uid)
find_in [] uid r e = absurd (cc)
find_in (s ∷ rs) uid r e = by (same_uid s.uid uid) refl e (find_in rs uid r)
  where
    by : (b : Bool) → same_uid s.uid uid ≡ b → cond b (Some s) (find (λ x. same_uid x.uid uid) rs) ≡ Some r → (find (λ x. same_uid x.uid uid) rs ≡ Some r → In r rs × (r.uid ≡ uid)) → In r (s ∷ rs) × (r.uid ≡ uid)
    by true t q k = let same : s ≡ r = cc in (inl (sym same), ap (λ x. x.uid) (sym same) ∙ same_uid_is s.uid uid t)
    by false t q k = let (h, u) = k q in (inr h, u)

-- what holds of all holds of the one found
pub find_all : (P : Update → Type 0) (p : Update → Bool) (xs : List Update) → AllByRecursion P xs → IfSome (find p xs) P
find_all P p [] a = tt
find_all P p (x ∷ xs) a = by (p x) (find_all P p xs a.1)
  where
    by : (b : Bool) → IfSome (find p xs) P → IfSome (cond b (Some x) (find p xs)) P
    by true rest = a.0
    by false rest = rest

-- the record that is found is the one held
pub found_held : (all : List Update) (known : Versions) (records : List Update) (uid : Uid) → Lists (IsRecord all known) records
    → IsHeld (Covered all known) uid (find (λ r. same_uid r.uid uid) records)
found_held all known records uid l = by (find (λ r. same_uid r.uid uid) records) refl
  where
    by : (found : Option Update) → find (λ r. same_uid r.uid uid) records ≡ found → IsHeld (Covered all known) uid found
    by None e = λ v c s.
        let (r, wins, file, low) = covered_held all known v c in
        let at : find (λ r. same_uid r.uid uid) records ≡ Some r = find_at records uid r l.rising (l.whole r wins) (file ∙ s) in
        absurd (cc)
    by (Some r) e = let (h, s) = find_in records uid r e in (l.each r h, s)

-- Which records are shown can be told, where the records are those of a list.
use Rattle.std.proofs.Common.{◌≡◌, ◌⊎◌, ◌<◌, ◌≤◌, ℕ, zero, suc, Bool, true, false, List, [], ◌∷◌, length, refl, sym, ap, ◌∙◌, subst, arith, inl, inr, Option, Some, None}
use Rattle.std.specs.Prelude.{bytes_eq}
use Rattle.std.proofs.lemmas.Slice.Eq.{bytes_eq-Decides}
use Rattle.frs_base.specs.Names.{matches}
use Rattle.frs_base.specs.Options.{In}
use Rattle.frs_base.specs.Versions.{same_gvsn}
use Rattle.frs_base.specs.declared.version.Uid.{Uid}
use Rattle.win_order.specs.Order.{is_directory, key_lt, key_of}
use Rattle.win_order.specs.declared.update.Update.{Update}
use Rattle.vol_state.specs.Conditions.{root_uid}
use Rattle.record_db.specs.Records.{Covered, Has, IsHeld, IsRecord, Versions}
use Rattle.record_db.proofs.Best.{best_one, held_is}
use Rattle.record_db.proofs.Keys.{same_gvsn_is, same_gvsn_refl, uid_cases}
use Rattle.name_rules.specs.Tree.{HasName, IsShown, ShownBy}
use Rattle.name_rules.proofs.Showing.{shown_record}
use Rattle.world_model.proofs.Facts.{true_false}

-- ---- what can be told

-- it holds or it doesn't
abbrev pub Decided : Type 0 → Type 0
Decided P = P ⊎ (P → ⊥)

pub and_decided : {P Q : Type 0} → Decided P → Decided Q → Decided (P × Q)
and_decided (inl p) (inl q) = inl (p, q)
and_decided (inl p) (inr n) = inr (λ h. n h.1)
and_decided (inr n) q = inr (λ h. n h.0)

or_decided : {P Q : Type 0} → Decided P → Decided Q → Decided (P ⊎ Q)
or_decided (inl p) q = inl (inl p)
or_decided (inr n) (inl q) = inl (inr q)
or_decided (inr n) (inr m) = inr (λ h. elim h [ inl p ↦ n p | inr q ↦ m q ])

pub true_decided : (b : Bool) → Decided (b ≡ true)
true_decided true = inl refl
true_decided false = inr (λ e. true_false false e refl)

-- whether two lists of numbers are one
pub list_decided : (a b : List ℕ) → Decided (a ≡ b)
list_decided a b = elim (true_decided (bytes_eq a b)) [ inl t ↦ inl ((bytes_eq-Decides a b).0 t) | inr n ↦ inr (λ e. n ((bytes_eq-Decides a b).1 e)) ]

-- whether a list has one of these
found : (P : Update → Type 0) → ((u : Update) → Decided (P u)) → (xs : List Update) → Decided ((u : Update) × In u xs × P u)
found P each [] = inr (λ h. h.1)
found P each (x ∷ xs) = by (each x) (found P each xs)
  where
    by : Decided (P x) → Decided ((u : Update) × In u xs × P u) → Decided ((u : Update) × In u (x ∷ xs) × P u)
    by (inl p) r = inl (x, inl refl, p)
    by (inr n) (inl (u, i, p)) = inl (u, inr i, p)
    by (inr n) (inr m) = inr (λ (u, i, p). elim i [ inl e ↦ n (subst P e p) | inr k ↦ m (u, k, p) ])

-- ---- records that are a list

-- a file has one record
abbrev pub AreOne : (Update → Type 0) → Type 0
AreOne R = (u v : Update) → R u → R v → u.uid ≡ v.uid → u ≡ v

-- they are those of a list
pub record IsListed (R : Update → Type 0) : Type 0 where
  pub list : List Update
  pub to : (u : Update) → R u → In u list
  pub back : (u : Update) → In u list → R u
  pub one : AreOne R

-- each version is of one update
abbrev OneEach : List Update → Type 0
OneEach all = (u v : Update) → In u all → In v all → u.gvsn ≡ v.gvsn → u ≡ v

record_decided : (all : List Update) (known : Versions) → OneEach all → (u : Update) → In u all → Decided (IsRecord all known u)
record_decided all known one u i = by (held_is all known u.uid)
  where
    by : (held : Option Update) × IsHeld (Covered all known) u.uid held → Decided (IsRecord all known u)
    by (None, h) = inr (λ r. h u r.among refl)
    by (Some r, h) = elim (true_decided (same_gvsn r.gvsn u.gvsn)) [
      | inl e ↦ inl (subst (IsRecord all known) (one r u h.0.among.0 i (same_gvsn_is r.gvsn u.gvsn e)) h.0)
      | inr n ↦ inr (λ q. n (subst (λ (z : Update). same_gvsn r.gvsn z.gvsn ≡ true) (best_one r u (λ a b k l. one a b k.0 l.0) h.0 q h.1) (same_gvsn_refl r.gvsn)))
    ]

-- the records among these
abbrev Among : List Update → Versions → List Update → Type 0
Among all known xs = (list : List Update) × ((u : Update) → In u xs → IsRecord all known u → In u list) × ((u : Update) → In u list → IsRecord all known u)

among : (all : List Update) (known : Versions) → OneEach all → (xs : List Update) → ((u : Update) → In u xs → In u all) → Among all known xs
among all known one [] inside = ([], λ u i r. i, λ u i. absurd i)
among all known one (x ∷ xs) inside = by (record_decided all known one x (inside x (inl refl))) (among all known one xs (λ u i. inside u (inr i)))
  where
    by : Decided (IsRecord all known x) → Among all known xs → Among all known (x ∷ xs)
    by (inl q) (list, to, back) = (
      x ∷ list,
      λ u i r. elim i [ inl e ↦ inl e | inr k ↦ inr (to u k r) ],
      λ u i. elim i [ inl e ↦ subst (IsRecord all known) (sym e) q | inr k ↦ back u k ],
    )
    by (inr n) (list, to, back) = (list, λ u i r. elim i [ inl e ↦ absurd (n (subst (IsRecord all known) e r)) | inr k ↦ to u k r ], back)

-- a member's records are a list
pub records_listed : (all : List Update) (known : Versions) → OneEach all → IsListed (IsRecord all known)
records_listed all known one =
    let (list, to, back) = among all known one all (λ u i. i) in
    record { list = list; to = λ u r. to u r.among.0 r; back = back; one = λ u v r q e. best_one u v (λ a b k l. one a b k.0 l.0) r q e }

-- whether a file has a record
pub has_decided : (R : Update → Type 0) → IsListed R → (uid : Uid) → Decided (Has R uid)
has_decided R l uid = elim (found (λ u. u.uid ≡ uid) (λ u. uid_cases u.uid uid) l.list) [
  | inl (u, i, e) ↦ inl (u, l.back u i, e)
  | inr n ↦ inr (λ (u, r, e). n (u, l.to u r, e))
]

-- ---- what is shown

-- it takes the name of the record
abbrev Takes : Update → Update → Type 0
Takes u v = (v.present ≡ true) × ((v.parent ≡ u.parent) × ((matches v.name u.name ≡ true) × (key_lt (key_of u) (key_of v) ≡ true)))

takes_decided : (u v : Update) → Decided (Takes u v)
takes_decided u v = and_decided (true_decided v.present) (and_decided (uid_cases v.parent u.parent) (and_decided (true_decided (matches v.name u.name)) (true_decided (key_lt (key_of u) (key_of v)))))

name_decided : (R : Update → Type 0) → IsListed R → (u : Update) → R u → Decided (HasName R u)
name_decided R l u r = by (true_decided u.present) (found (Takes u) (takes_decided u) l.list)
  where
    by : Decided (u.present ≡ true) → Decided ((v : Update) × In v l.list × Takes u v) → Decided (HasName R u)
    by (inr n) t = inr (λ h. n h.present)
    by (inl p) (inl (v, i, t)) = inr (λ h. true_false (key_lt (key_of u) (key_of v)) t.1.1.1 (h.greatest v (l.back v i) t.0 t.1.0 t.1.1.0))
    by (inl p) (inr n) = inl (record {
      among = r;
      present = p;
      greatest = λ v q a b c. lower (key_lt (key_of u) (key_of v)) (λ t. n (v, l.to v q, (a, (b, (c, t)))));
    })
      where
        lower : (b : Bool) → (b ≡ true → ⊥) → b ≡ false
        lower false k = refl
        lower true k = absurd (k refl)

-- its parent is a directory that is shown
abbrev IsUp : (Update → Type 0) → ℕ → Uid → Type 0
IsUp R n uid = (p : Update) × (p.uid ≡ uid) × (is_directory p ≡ true) × ShownBy R n p

up_decided : (R : Update → Type 0) → IsListed R → (n : ℕ) → ((p : Update) → R p → Decided (ShownBy R n p)) → (uid : Uid) → Decided (IsUp R n uid)
up_decided R l n rec uid = by (has_decided R l uid)
  where
    both : (p : Update) → R p → p.uid ≡ uid → Decided (is_directory p ≡ true) → Decided (ShownBy R n p) → Decided (IsUp R n uid)
    both p r id (inl d) (inl s) = inl (p, id, d, s)
    both p r id (inr k) s = inr (λ (q, id', d, h). k (ap is_directory (sym (l.one q p (shown_record R q (n, h)) r (id' ∙ sym id))) ∙ d))
    both p r id (inl d) (inr k) = inr (λ (q, id', d', h). k (subst (ShownBy R n) (l.one q p (shown_record R q (n, h)) r (id' ∙ sym id)) h))

    by : Decided (Has R uid) → Decided (IsUp R n uid)
    by (inl (p, r, id)) = both p r id (true_decided (is_directory p)) (rec p r)
    by (inr k) = inr (λ (q, id, d, h). k (q, shown_record R q (n, h), id))

by_decided : (R : Update → Type 0) → IsListed R → (n : ℕ) (u : Update) → R u → Decided (ShownBy R n u)
by_decided R l zero u r = inr (λ h. h)
by_decided R l (suc n) u r = and_decided (name_decided R l u r) (or_decided (uid_cases u.parent root_uid) (up_decided R l n (by_decided R l n) u.parent))

-- ---- with how many directories above it

-- those of a list that aren't so, and that they are fewer where one is
record Parted (P : Update → Type 0) (xs : List Update) : Type 0 where
  pub rest : List Update
  pub each : (u : Update) → In u xs → P u ⊎ In u rest
  pub inside : (u : Update) → In u rest → In u xs
  pub no_more : length rest ≤ length xs
  pub fewer : ((u : Update) → In u xs → P u → ⊥) ⊎ (length rest < length xs)

part : (P : Update → Type 0) (xs : List Update) → ((u : Update) → In u xs → Decided (P u)) → Parted P xs
part P [] d = record { rest = []; each = λ u i. absurd i; inside = λ u i. i; no_more = omega arith; fewer = inl (λ u i p. i) }
part P (x ∷ xs) d = by (d x (inl refl)) (part P xs (λ u i. d u (inr i)))
  where
    by : Decided (P x) → Parted P xs → Parted P (x ∷ xs)
    by (inl p) r = let l = r.no_more in record {
      rest = r.rest;
      each = λ u i. elim i [ inl e ↦ inl (subst P (sym e) p) | inr k ↦ r.each u k ];
      inside = λ u i. inr (r.inside u i);
      no_more = omega (arith, l);
      fewer = inr (omega (arith, l));
    }
    by (inr n) r = let l = r.no_more in record {
      rest = x ∷ r.rest;
      each = λ u i. elim i [ inl e ↦ inr (inl e) | inr k ↦ elim (r.each u k) [ inl p ↦ inl p | inr j ↦ inr (inr j) ] ];
      inside = λ u i. elim i [ inl e ↦ inl e | inr k ↦ inr (r.inside u k) ];
      no_more = omega (arith, l);
      fewer = elim r.fewer [ inl none ↦ inl (λ u i p. elim i [ inl e ↦ n (subst P e p) | inr k ↦ none u k p ]) | inr m ↦ inr (omega (arith, m)) ];
    }

-- what is shown with so many is shown with one fewer
abbrev IsEnough : (Update → Type 0) → ℕ → Type 0
IsEnough R k = (u : Update) → ShownBy R (suc k) u → ShownBy R k u

-- what is shown with so many is shown with one more
longer : (R : Update → Type 0) (n : ℕ) (u : Update) → ShownBy R n u → ShownBy R (suc n) u
longer R zero u h = absurd h
longer R (suc n) u (name, inl root) = (name, inl root)
longer R (suc n) u (name, inr (p, id, d, h)) = (name, inr (p, id, d, longer R n p h))

-- all that isn't shown so yet is in the list, so no more is, or fewer are left
enough_by : (R : Update → Type 0) (n : ℕ) (xs : List Update) → ((u : Update) → In u xs → R u) → ((u : Update) → R u → ShownBy R n u ⊎ In u xs) → Parted (ShownBy R (suc n)) xs
    → ((ys : List Update) → length ys < length xs → ((u : Update) → In u ys → R u) → ((u : Update) → R u → ShownBy R (suc n) u ⊎ In u ys) → (k : ℕ) × IsEnough R k) → (k : ℕ) × IsEnough R k
enough_by R n xs inside each r rec = elim r.fewer [
  | inl none ↦ (n, λ u h. elim (each u (shown_record R u (suc n, h))) [ inl s ↦ s | inr i ↦ absurd (none u i h) ])
  | inr less ↦ rec r.rest less (λ u i. inside u (r.inside u i)) (λ u q. elim (each u q) [ inl s ↦ inl (longer R n u s) | inr i ↦ r.each u i ])
]

enough : (R : Update → Type 0) → IsListed R → (m n : ℕ) (xs : List Update) → length xs ≤ m → ((u : Update) → In u xs → R u) → ((u : Update) → R u → ShownBy R n u ⊎ In u xs) → (k : ℕ) × IsEnough R k
enough R l zero n xs few inside each =
    enough_by R n xs inside each (part (ShownBy R (suc n)) xs (λ u i. by_decided R l (suc n) u (inside u i))) (λ ys less i e. absurd (omega (arith, few, less)))
enough R l (suc m) n xs few inside each =
    enough_by R n xs inside each (part (ShownBy R (suc n)) xs (λ u i. by_decided R l (suc n) u (inside u i))) (λ ys less i e. enough R l m (suc n) ys (omega (arith, few, less)) i e)

settle : (R : Update → Type 0) (k : ℕ) → IsEnough R k → (n : ℕ) (u : Update) → ShownBy R n u → ShownBy R k u
settle R k is zero u h = absurd h
settle R k is (suc n) u (name, inl root) = is u (name, inl root)
settle R k is (suc n) u (name, inr (p, id, d, h)) = is u (name, inr (p, id, d, settle R k is n p h))

-- whether a record is shown
pub shown_decided : (R : Update → Type 0) → IsListed R → (u : Update) → R u → Decided (IsShown R u)
shown_decided R l u r =
    let (k, is) = enough R l (length l.list) 0 l.list (omega arith) l.back (λ v q. inr (l.to v q)) in
    elim (by_decided R l k u r) [ inl s ↦ inl (k, s) | inr n ↦ inr (λ (j, h). n (settle R k is j u h)) ]

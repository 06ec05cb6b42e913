-- A member with no pending local record is drained, or has one next step.
use Rattle.std.proofs.Common.{◌≡◌, ◌≢◌, ◌⊎◌, ◌<◌, ◌≤◌, ℕ, zero, suc, Bool, true, false, eqb, ltb, List, [], ◌∷◌, ◌++◌, refl, sym, ap, ◌∙◌, subst, arith, inl, inr, Option, Some, None}
use Rattle.std.specs.Prelude.{map, ◌==◌, if◌then◌else◌}
use Rattle.std.proofs.lemmas.Bool.Decides.{nat_tests}
use Rattle.frs_base.specs.Options.{In}
use Rattle.frs_base.specs.declared.sum.Sum.{Sum}
use Rattle.frs_base.specs.declared.version.Uid.{Uid}
use Rattle.win_order.specs.declared.update.Update.{Update}
use Rattle.vol_state.specs.declared.object.Object.{Object}
use Rattle.vol_state.specs.declared.record.VolRecord.{VolRecord}
use Rattle.vol_state.specs.State.{uid_of}
use Rattle.vol_state.specs.Maps.{Maps}
use Rattle.vol_state.specs.Tables.{IsAt, IsNew}
use Rattle.record_db.proofs.Keys.{uid_cases}
use Rattle.record_db.proofs.Sets.{in_after, in_before}
use Rattle.name_rules.specs.Recorded.{parent_uid}
use Rattle.name_rules.specs.Tree.{IsShown, is_file}
use Rattle.name_rules.specs.Next.{IsCandidate, IsDrained, IsInPlace, IsNext, IsQuiet, IsTurn, NothingToErase, NothingToMake, NothingToPark, NothingToPlace, NothingToRewrite, NothingToUnstage, place_lt, place_of}
use Rattle.name_rules.specs.declared.step.Step.{Step as InstallStep}
use Rattle.name_rules.specs.declared.step.Step.TheVariants as install_step
use Rattle.name_rules.proofs.Showing.{shown_record}
use Rattle.world_model.specs.World.{IsRecordOf}
use Rattle.world_model.specs.Invariant.{NumbersAreFresh, PlacesAreATree}
use Rattle.world_model.specs.Laws.{DrainedMembersHaveNone, NextStepsAreOne, QuietMembersGoOn}
use Rattle.world_model.proofs.Facts.{none_some, some_is, true_false}
use Rattle.world_model.proofs.Deciding.{Decided, IsListed, and_decided, list_decided, records_listed, true_decided}
use Rattle.world_model.proofs.Views.{HasSite, has_site, is_shown, of_record, sum_decided}

-- ---- the order of steps

lt_self : (a : ℕ × Uid) → place_lt a a ≡ false
lt_self a = grind (arith, nat_tests)

lt_back : (a b : ℕ × Uid) → place_lt a b ≡ true → place_lt b a ≡ false
lt_back a b e = grind (arith, nat_tests)

lt_through : (a b c : ℕ × Uid) → place_lt a b ≡ false → place_lt b c ≡ false → place_lt a c ≡ false
lt_through a b c e f = grind (arith, nat_tests)

same_kind : (a b : ℕ × Uid) → place_lt a b ≡ false → place_lt b a ≡ false → a.0 ≡ b.0
same_kind a b e f = grind (arith, nat_tests)

same_db : (a b : ℕ × Uid) → place_lt a b ≡ false → place_lt b a ≡ false → a.1.db ≡ b.1.db
same_db a b e f = grind (arith, nat_tests)

same_version : (a b : ℕ × Uid) → place_lt a b ≡ false → place_lt b a ≡ false → a.1.version ≡ b.1.version
same_version a b e f = grind (arith, nat_tests)

-- the step that stands at a place
step_at : ℕ → Uid → InstallStep
step_at kind uid =
    if kind == 0 then install_step.Park uid
    else (if kind == 1 then install_step.Erase uid
    else (if kind == 2 then install_step.Make uid
    else (if kind == 3 then install_step.Rewrite uid
    else (if kind == 4 then install_step.Place uid
    else (if kind == 5 then install_step.Unstage uid
    else install_step.Skip uid.version)))))

stands_at : (s : InstallStep) → step_at (place_of s).0 (place_of s).1 ≡ s
unfolding step_at
stands_at (install_step.Park uid) = refl
stands_at (install_step.Erase uid) = refl
stands_at (install_step.Make uid) = refl
stands_at (install_step.Rewrite uid) = refl
stands_at (install_step.Place uid) = refl
stands_at (install_step.Unstage uid) = refl
stands_at (install_step.Skip usn) = refl

-- two steps of which none comes before the other are one
pub one_step : (a b : InstallStep) → place_lt (place_of a) (place_of b) ≡ false → place_lt (place_of b) (place_of a) ≡ false → a ≡ b
one_step a b e f =
    let kind = same_kind (place_of a) (place_of b) e f in
    let db = same_db (place_of a) (place_of b) e f in
    let version = same_version (place_of a) (place_of b) e f in
    sym (stands_at a) ∙ ((λ i. step_at (kind i) (record { db = db i; version = version i })) ∙ stands_at b)

-- the first of a list's steps that pass a test, or that none does
least : (P : InstallStep → Type 0) → ((s : InstallStep) → Decided (P s)) → (steps : List InstallStep)
    → ((s : InstallStep) × P s × ((o : InstallStep) → In o steps → P o → place_lt (place_of o) (place_of s) ≡ false)) ⊎ ((o : InstallStep) → In o steps → P o → ⊥)
least P each [] = inr (λ o i p. i)
least P each (x ∷ steps) = by (each x) (least P each steps)
  where
    First : InstallStep → List InstallStep → Type 0
    First s list = (o : InstallStep) → In o list → P o → place_lt (place_of o) (place_of s) ≡ false

    among : (s : InstallStep) → place_lt (place_of x) (place_of s) ≡ false → First s steps → First s (x ∷ steps)
    among s low first o (inl e) p = subst (λ y. place_lt (place_of y) (place_of s) ≡ false) (sym e) low
    among s low first o (inr i) p = first o i p

    both : P x → (s : InstallStep) → P s → First s steps → (b : Bool) → place_lt (place_of s) (place_of x) ≡ b → (t : InstallStep) × P t × First t (x ∷ steps)
    both p s q first true e = (s, q, among s (lt_back (place_of s) (place_of x) e) first)
    both p s q first false e = (x, p, among x (lt_self (place_of x)) (λ o i r. lt_through (place_of o) (place_of s) (place_of x) (first o i r) e))

    by : Decided (P x) → ((s : InstallStep) × P s × First s steps) ⊎ ((o : InstallStep) → In o steps → P o → ⊥)
        → ((s : InstallStep) × P s × First s (x ∷ steps)) ⊎ ((o : InstallStep) → In o (x ∷ steps) → P o → ⊥)
    by (inl p) (inr none) = inl (x, p, among x (lt_self (place_of x)) (λ o i r. absurd (none o i r)))
    by (inl p) (inl (s, q, first)) = inl (both p s q first (place_lt (place_of s) (place_of x)) refl)
    by (inr n) (inl (s, q, first)) = inl (s, q, λ o i r. elim i [ inl e ↦ absurd (n (subst P e r)) | inr k ↦ first o k r ])
    by (inr n) (inr none) = inr (λ o i r. elim i [ inl e ↦ n (subst P e r) | inr k ↦ none o k r ])

-- ---- the steps that may be candidates

steps_of : List Uid → ℕ → List InstallStep
steps_of [] usn = install_step.Skip usn ∷ []
steps_of (uid ∷ uids) usn =
    install_step.Park uid ∷ install_step.Erase uid ∷ install_step.Make uid ∷ install_step.Rewrite uid ∷ install_step.Place uid ∷ install_step.Unstage uid ∷ steps_of uids usn

-- each step for a file is among these
record AreAmong (uid : Uid) (steps : List InstallStep) : Type 0 where
  park : In (install_step.Park uid) steps
  erase : In (install_step.Erase uid) steps
  make : In (install_step.Make uid) steps
  rewrite : In (install_step.Rewrite uid) steps
  place : In (install_step.Place uid) steps
  unstage : In (install_step.Unstage uid) steps

are_among : (uid : Uid) (uids : List Uid) (usn : ℕ) → In uid uids → AreAmong uid (steps_of uids usn)
unfolding steps_of
are_among uid [] usn i = absurd i
are_among uid (x ∷ uids) usn (inl e) = record {
  park = inl (ap install_step.Park e);
  erase = inr (inl (ap install_step.Erase e));
  make = inr (inr (inl (ap install_step.Make e)));
  rewrite = inr (inr (inr (inl (ap install_step.Rewrite e))));
  place = inr (inr (inr (inr (inl (ap install_step.Place e)))));
  unstage = inr (inr (inr (inr (inr (inl (ap install_step.Unstage e))))));
}
are_among uid (x ∷ uids) usn (inr i) =
    let rest = are_among uid uids usn i in
    record {
      park = behind _ rest.park;
      erase = behind _ rest.erase;
      make = behind _ rest.make;
      rewrite = behind _ rest.rewrite;
      place = behind _ rest.place;
      unstage = behind _ rest.unstage;
    }
  where
    behind : (s : InstallStep) → In s (steps_of uids usn) → In s (steps_of (x ∷ uids) usn)
    behind s i = inr (inr (inr (inr (inr (inr i)))))

skip_among : (uids : List Uid) (usn : ℕ) → In (install_step.Skip usn) (steps_of uids usn)
unfolding steps_of
skip_among [] usn = inl refl
skip_among (x ∷ uids) usn = inr (inr (inr (inr (inr (inr (skip_among uids usn))))))

-- the files of the objects below a number
with_object : ℕ → Option Object → List Uid → List Uid
with_object own None uids = uids
with_object own (Some o) uids = uid_of own o ∷ uids

pub uids_below : ℕ → Maps → ℕ → List Uid
uids_below own m zero = []
uids_below own m (suc k) = with_object own (m.at k) (uids_below own m k)

pub is_below : (own : ℕ) (m : Maps) (k fid : ℕ) (o : Object) → fid < k → IsAt m fid o → In (uid_of own o) (uids_below own m k)
unfolding uids_below with_object
is_below own m zero fid o l at = absurd (omega (arith, l))
is_below own m (suc k) fid o l at = elim (cases fid l) [
  | inl e ↦ subst (λ x. In (uid_of own o) (with_object own x (uids_below own m k))) (sym (subst (λ n. m.at n ≡ Some o) e at)) (inl refl)
  | inr less ↦ behind (m.at k) (is_below own m k fid o less at)
]
  where
    cases : (f : ℕ) → f < suc k → (f ≡ k) ⊎ (f < k)
    cases f l = grind (arith, l)

    behind : (x : Option Object) → In (uid_of own o) (uids_below own m k) → In (uid_of own o) (with_object own x (uids_below own m k))
    behind None i = i
    behind (Some q) i = inr i

pub in_uids : (u : Update) (us : List Update) → In u us → In u.uid (map (λ v. v.uid) us)
in_uids u [] i = absurd i
in_uids u (x ∷ us) (inl e) = inl (ap (λ v. v.uid) e)
in_uids u (x ∷ us) (inr i) = inr (in_uids u us i)

-- ---- what can be told

decided_as : {P Q : Type 0} → (P → Q) → (Q → P) → Decided P → Decided Q
decided_as to back (inl p) = inl (to p)
decided_as to back (inr n) = inr (λ q. n (back q))

not_decided : {P : Type 0} → Decided P → Decided (P → ⊥)
not_decided (inl p) = inr (λ n. n p)
not_decided (inr n) = inl n

limbo_decided : (place : Option (ℕ × List ℕ)) → Decided (place ≡ None)
limbo_decided None = inl refl
limbo_decided (Some p) = inr (λ e. none_some p (sym e))

some_decided : (staged : Option Sum) (sum : Sum) → Decided (staged ≡ Some sum)
some_decided None sum = inr (λ e. none_some sum e)
some_decided (Some s) sum = decided_as (λ e. ap Some e) (λ e. some_is s sum e) (sum_decided s sum)

module _ (R : Update → Type 0) (l : IsListed R) (own : ℕ) (m : Maps) (staged : Uid → Option Sum) (consumed : ℕ) (sites : (uid : Uid) → HasSite own m uid) where
  abbrev Candidate : InstallStep → Type 0
  Candidate step = IsCandidate R own m staged consumed step

  -- whether a file has an object that passes a test
  at_site : (uid : Uid) (P : Object → Type 0) → ((o : Object) → Decided (P o)) → Decided ((f : ℕ) × (o : Object) × IsAt m f o × (uid_of own o ≡ uid) × P o)
  at_site uid P each = elim (sites uid) [
    | inr n ↦ inr (λ (f, o, at, id, p). n f o at id)
    | inl (f, o, s) ↦ elim (each o) [
      | inl p ↦ inl (f, o, s.there, s.is, p)
      | inr n ↦ inr (λ (g, z, at, id, p). n (subst P (sym (s.only g z (at, id)).1) p))
    ]
  ]

  in_place : (o : Object) (p : ℕ × List ℕ) → Decided (IsInPlace R own m o p)
  in_place o p = elim (is_shown R l (uid_of own o)) [
    | inr n ↦ inr (λ (u, s, id, up, name). n (u, s, id))
    | inl (u, s, id) ↦ elim (and_decided (uid_cases u.parent (parent_uid own m p.0)) (list_decided u.name p.1)) [
      | inl (up, name) ↦ inl (u, s, id, up, name)
      | inr n ↦ inr (λ (v, t, id', up, name). (let one = l.one u v (shown_record R u s) (shown_record R v t) (id ∙ sym id') in n (ap (λ w. w.parent) one ∙ up, ap (λ w. w.name) one ∙ name)))
    ]
  ]

  is_new : (uid : Uid) → Decided (IsNew own m uid)
  is_new uid = elim (sites uid) [ inl (f, o, s) ↦ inr (λ n. n f o s.there s.is) | inr n ↦ inl n ]

  misplaced : (o : Object) → Decided ((p : ℕ × List ℕ) × (o.place ≡ Some p) × (IsInPlace R own m o p → ⊥))
  misplaced o = by o.place refl
    where
      by : (place : Option (ℕ × List ℕ)) → o.place ≡ place → Decided ((p : ℕ × List ℕ) × (o.place ≡ Some p) × (IsInPlace R own m o p → ⊥))
      by None e = inr (λ (p, at, n). none_some p (sym e ∙ at))
      by (Some q) e = elim (in_place o q) [
        | inl is ↦ inr (λ (p, at, n). n (subst (IsInPlace R own m o) (some_is q p (sym e ∙ at)) is))
        | inr n ↦ inl (q, e, n)
      ]

  decided : (step : InstallStep) → Decided (Candidate step)
  decided (install_step.Park uid) = decided_as (λ (f, o, at, id, (p, place, n)). (f, o, p, at, id, place, n)) (λ (f, o, p, at, id, place, n). (f, o, at, id, (p, place, n)))
      (at_site uid (λ o. (p : ℕ × List ℕ) × (o.place ≡ Some p) × (IsInPlace R own m o p → ⊥)) misplaced)
  decided (install_step.Erase uid) = decided_as (λ (f, o, at, id, (u, r, is, gone)). (f, o, u, at, id, r, is, gone)) (λ (f, o, u, at, id, r, is, gone). (f, o, at, id, (u, r, is, gone)))
      (at_site uid (λ o. (u : Update) × R u × (u.uid ≡ uid) × (u.present ≡ false)) (λ o. of_record R l uid (λ u. u.present ≡ false) (λ u r. false_decided u.present)))
    where
      false_decided : (b : Bool) → Decided (b ≡ false)
      false_decided true = inr (λ e. true_false true refl e)
      false_decided false = inl refl
  decided (install_step.Make uid) = decided_as (λ ((u, s, id), n). (u, s, id, n)) (λ (u, s, id, n). ((u, s, id), n)) (and_decided (is_shown R l uid) (is_new uid))
  decided (install_step.Rewrite uid) = decided_as (λ (f, o, at, id, (u, r, is, (file, n))). (f, o, u, at, id, r, is, file, n)) (λ (f, o, u, at, id, r, is, file, n). (f, o, at, id, (u, r, is, (file, n))))
      (at_site uid (λ o. (u : Update) × R u × (u.uid ≡ uid) × ((is_file u ≡ true) × (o.sum ≢ u.hash)))
      (λ o. of_record R l uid (λ u. (is_file u ≡ true) × (o.sum ≢ u.hash)) (λ u r. and_decided (true_decided (is_file u)) (not_decided (sum_decided o.sum u.hash)))))
  decided (install_step.Place uid) = decided_as (λ (f, o, at, id, (limbo, (u, s, is))). (f, o, u, at, id, limbo, s, is)) (λ (f, o, u, at, id, limbo, s, is). (f, o, at, id, (limbo, (u, s, is))))
      (at_site uid (λ o. (o.place ≡ None) × ((u : Update) × IsShown R u × (u.uid ≡ uid))) (λ o. and_decided (limbo_decided o.place) (is_shown R l uid)))
  decided (install_step.Unstage uid) = at_site uid (λ o. staged uid ≡ Some o.sum) (λ o. some_decided (staged uid) o.sum)
  decided (install_step.Skip usn) = by (m.entry usn) refl
    where
      is_it : (a b : ℕ) → Decided (a ≡ b)
      is_it a b = decided_as (λ t. (grind (arith, nat_tests, t))) (λ e. (grind (arith, nat_tests, e))) (true_decided (eqb a b))

      by : (x : Option VolRecord) → m.entry usn ≡ x → Decided (Candidate (install_step.Skip usn))
      by None e = inr (λ (r, is, at). none_some r (sym e ∙ at))
      by (Some r) e = decided_as (λ is. (r, is, e)) (λ (q, is, at). is) (is_it usn consumed)

  -- ---- where a kind has no candidate

  no_park : ((uid : Uid) → Candidate (install_step.Park uid) → ⊥) → NothingToPark R own m
  no_park none fid o p at place = elim (in_place o p) [ inl is ↦ is | inr n ↦ absurd (none (uid_of own o) (fid, o, p, at, refl, place, n)) ]

  no_erase : ((uid : Uid) → Candidate (install_step.Erase uid) → ⊥) → NothingToErase R own m
  no_erase none fid o u at r id = by u.present refl
    where
      by : (b : Bool) → u.present ≡ b → b ≡ true
      by true e = refl
      by false e = absurd (none (uid_of own o) (fid, o, u, at, refl, r, id, e))

  no_make : ((uid : Uid) → Candidate (install_step.Make uid) → ⊥) → NothingToMake R own m
  no_make none u s = elim (sites u.uid) [ inl (f, o, z) ↦ (f, o, z.there, z.is) | inr n ↦ absurd (none u.uid (u, s, refl, n)) ]

  no_rewrite : ((uid : Uid) → Candidate (install_step.Rewrite uid) → ⊥) → NothingToRewrite R own m
  no_rewrite none fid o u at r id file = elim (sum_decided o.sum u.hash) [ inl e ↦ e | inr n ↦ absurd (none (uid_of own o) (fid, o, u, at, refl, r, id, file, n)) ]

  no_place : ((uid : Uid) → Candidate (install_step.Place uid) → ⊥) → NothingToPlace R own m
  no_place none fid o u at limbo s id = none (uid_of own o) (fid, o, u, at, refl, limbo, s, id)

  no_unstage : ((uid : Uid) → Candidate (install_step.Unstage uid) → ⊥) → NothingToUnstage own m staged
  no_unstage none uid sum fid o is at id e = none uid (fid, o, at, id, is ∙ ap Some (sym e))

  -- ---- the next step has its turn

  pub turn : (step : InstallStep) → IsNext R own m staged consumed step → IsTurn R own m staged step
  turn (install_step.Park uid) n = tt
  turn (install_step.Erase uid) n = no_park (λ x c. true_false true refl (n.first (install_step.Park x) c))
  turn (install_step.Make uid) n = (no_park (λ x c. true_false true refl (n.first (install_step.Park x) c)), no_erase (λ x c. true_false true refl (n.first (install_step.Erase x) c)))
  turn (install_step.Rewrite uid) n = (
    no_park (λ x c. true_false true refl (n.first (install_step.Park x) c)),
    no_erase (λ x c. true_false true refl (n.first (install_step.Erase x) c)),
    no_make (λ x c. true_false true refl (n.first (install_step.Make x) c)),
  )
  turn (install_step.Place uid) n = (
    no_park (λ x c. true_false true refl (n.first (install_step.Park x) c)),
    no_erase (λ x c. true_false true refl (n.first (install_step.Erase x) c)),
    no_make (λ x c. true_false true refl (n.first (install_step.Make x) c)),
    no_rewrite (λ x c. true_false true refl (n.first (install_step.Rewrite x) c)),
  )
  turn (install_step.Unstage uid) n = (
    no_park (λ x c. true_false true refl (n.first (install_step.Park x) c)),
    no_erase (λ x c. true_false true refl (n.first (install_step.Erase x) c)),
    no_make (λ x c. true_false true refl (n.first (install_step.Make x) c)),
    no_rewrite (λ x c. true_false true refl (n.first (install_step.Rewrite x) c)),
    no_place (λ x c. true_false true refl (n.first (install_step.Place x) c)),
  )
  turn (install_step.Skip usn) n = (
    no_park (λ x c. true_false true refl (n.first (install_step.Park x) c)),
    no_erase (λ x c. true_false true refl (n.first (install_step.Erase x) c)),
    no_make (λ x c. true_false true refl (n.first (install_step.Make x) c)),
    no_rewrite (λ x c. true_false true refl (n.first (install_step.Rewrite x) c)),
    no_place (λ x c. true_false true refl (n.first (install_step.Place x) c)),
    no_unstage (λ x c. true_false true refl (n.first (install_step.Unstage x) c)),
  )

  -- ---- each candidate is one of these

  candidates : ℕ → List InstallStep
  candidates fids = steps_of (uids_below own m fids ++ map (λ u. u.uid) l.list) consumed

  of_object : (fids : ℕ) → ((fid : ℕ) (o : Object) → IsAt m fid o → fid < fids) → (uid : Uid) (f : ℕ) (o : Object) → IsAt m f o → uid_of own o ≡ uid → AreAmong uid (candidates fids)
  unfolding candidates
  of_object fids low uid f o at id = are_among uid _ consumed (subst (λ x. In x (uids_below own m fids ++ map (λ u. u.uid) l.list)) id
      (in_before (uid_of own o) (uids_below own m fids) (map (λ u. u.uid) l.list) (is_below own m fids f o (low f o at) at)))

  is_one : (fids : ℕ) → ((fid : ℕ) (o : Object) → IsAt m fid o → fid < fids) → (step : InstallStep) → Candidate step → In step (candidates fids)
  unfolding candidates
  is_one fids low (install_step.Park uid) (f, o, p, at, id, place, n) = (of_object fids low uid f o at id).park
  is_one fids low (install_step.Erase uid) (f, o, u, at, id, r, is, gone) = (of_object fids low uid f o at id).erase
  is_one fids low (install_step.Make uid) (u, s, id, n) = (are_among uid _ consumed (subst (λ x. In x (uids_below own m fids ++ map (λ u. u.uid) l.list)) id
      (in_after u.uid (uids_below own m fids) (map (λ u. u.uid) l.list) (in_uids u l.list (l.to u (shown_record R u s)))))).make
  is_one fids low (install_step.Rewrite uid) (f, o, u, at, id, r, is, file, n) = (of_object fids low uid f o at id).rewrite
  is_one fids low (install_step.Place uid) (f, o, u, at, id, limbo, s, is) = (of_object fids low uid f o at id).place
  is_one fids low (install_step.Unstage uid) (f, o, at, id, is) = (of_object fids low uid f o at id).unstage
  is_one fids low (install_step.Skip usn) (r, is, at) = subst (λ n. In (install_step.Skip n) (candidates fids)) (sym is) (skip_among (uids_below own m fids ++ map (λ u. u.uid) l.list) consumed)

  -- ---- a member with no pending local record

  next : (fids : ℕ) → ((fid : ℕ) (o : Object) → IsAt m fid o → fid < fids) → (s : InstallStep) → Candidate s
      → ((o : InstallStep) → In o (candidates fids) → Candidate o → place_lt (place_of o) (place_of s) ≡ false) → IsNext R own m staged consumed s
  next fids low s c first = record { candidate = c; first = λ o k. first o (is_one fids low o k) k }

  all_consumed : NumbersAreFresh m consumed → 9 ≤ consumed → ((s : InstallStep) → Candidate s → ⊥) → consumed ≡ m.next_usn
  all_consumed numbers begun none = elim (true_decided (ltb consumed m.next_usn)) [
    | inl e ↦ (
        let low : consumed < m.next_usn = grind (arith, nat_tests, e) in
        let (r, at) = numbers.whole consumed begun low in
        absurd (none (install_step.Skip consumed) (r, refl, at)))
    | inr n ↦ (let most = numbers.consumed_is in grind (arith, nat_tests, n, most))
  ]

  drained : NumbersAreFresh m consumed → 9 ≤ consumed → IsQuiet consumed m → ((s : InstallStep) → Candidate s → ⊥) → IsDrained R own m staged consumed
  drained numbers begun quiet none = record {
    quiet = quiet;
    park = no_park (λ x c. none (install_step.Park x) c);
    erase = no_erase (λ x c. none (install_step.Erase x) c);
    make = no_make (λ x c. none (install_step.Make x) c);
    rewrite = no_rewrite (λ x c. none (install_step.Rewrite x) c);
    place = no_place (λ x c. none (install_step.Place x) c);
    unstage = no_unstage (λ x c. none (install_step.Unstage x) c);
    skip = all_consumed numbers begun none;
  }

-- it is drained, or has a next step, whose turn it is
pub goes_on : (R : Update → Type 0) → IsListed R → (own : ℕ) (m : Maps) (staged : Uid → Option Sum) (consumed : ℕ) → PlacesAreATree own m → NumbersAreFresh m consumed → 9 ≤ consumed → IsQuiet consumed m
    → IsDrained R own m staged consumed ⊎ ((step : InstallStep) × IsNext R own m staged consumed step × IsTurn R own m staged step)
goes_on R l own m staged consumed places numbers begun quiet = elim (least Is (decided R l own m staged consumed sites) (candidates R l own m staged consumed sites m.next_fid)) [
  | inl (s, c, first) ↦ (let n = next R l own m staged consumed sites m.next_fid numbers.fids s c first in inr (s, n, turn R l own m staged consumed sites s n))
  | inr none ↦ inl (drained R l own m staged consumed sites numbers begun quiet (λ s c. none s (is_one R l own m staged consumed sites m.next_fid numbers.fids s c) c))
]
  where
    sites : (uid : Uid) → HasSite own m uid
    sites uid = has_site own m consumed uid places numbers

    Is : InstallStep → Type 0
    Is = Candidate R l own m staged consumed sites

-- ---- the laws

pub quiet_members_go_on : QuietMembersGoOn
quiet_members_go_on w h d quiet =
    goes_on (IsRecordOf w d) (records_listed w.all (w.at d).known h.versions.one_each) d (w.at d).volume (w.at d).staged (w.at d).consumed (h.members d).places (h.members d).numbers (h.versions.begun d) quiet

pub next_steps_are_one : NextStepsAreOne
next_steps_are_one w d a b x y = one_step a b (y.first a x.candidate) (x.first b y.candidate)

-- where all is drained, no step is a candidate
pub no_candidate : (R : Update → Type 0) (own : ℕ) (m : Maps) (staged : Uid → Option Sum) (consumed : ℕ) → ((n : ℕ) (r : VolRecord) → m.entry n ≡ Some r → n < m.next_usn)
    → IsDrained R own m staged consumed → (s : InstallStep) → IsCandidate R own m staged consumed s → ⊥
no_candidate R own m staged consumed entries drained (install_step.Park uid) (fid, o, p, at, id, place, n) = n (drained.park fid o p at place)
no_candidate R own m staged consumed entries drained (install_step.Erase uid) (fid, o, u, at, id, r, is, gone) = true_false u.present (drained.erase fid o u at r (is ∙ sym id)) gone
no_candidate R own m staged consumed entries drained (install_step.Make uid) (u, s, id, new) = let (fid, o, at, is) = drained.make u s in new fid o at (is ∙ id)
no_candidate R own m staged consumed entries drained (install_step.Rewrite uid) (fid, o, u, at, id, r, is, file, n) = n (drained.rewrite fid o u at r (is ∙ sym id) file)
no_candidate R own m staged consumed entries drained (install_step.Place uid) (fid, o, u, at, id, limbo, s, is) = drained.place fid o u at limbo s (is ∙ sym id)
no_candidate R own m staged consumed entries drained (install_step.Unstage uid) (fid, o, at, id, is) = drained.unstage uid o.sum fid o is at id refl
no_candidate R own m staged consumed entries drained (install_step.Skip usn) (r, is, at) = let low = entries usn r at in let all = drained.skip in omega (arith, low, all, is)

pub drained_members_have_none : DrainedMembersHaveNone
drained_members_have_none w h d drained step next =
    no_candidate (IsRecordOf w d) d (w.at d).volume (w.at d).staged (w.at d).consumed (h.members d).numbers.entries drained step next.candidate

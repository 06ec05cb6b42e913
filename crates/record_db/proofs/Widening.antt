-- A command whose condition holds widens the vector as a book may.
use Rattle.std.proofs.Common.{◌≡◌, ◌<◌, ◌≤◌, ◌+◌, ◌^◌, ◌-◌, ◌&&◌, ◌||◌, not, ℕ, Bool, true, false, cond, eqb, leb, ltb, List, [], ◌∷◌, refl, sym, ap, ◌∙◌, subst, length, Option, Some, None, inl, inr, arith}
use Rattle.std.specs.Prelude.{find, is_none, option_map}
use Rattle.std.proofs.lemmas.Bool.Decides.{nat_tests}
use Rattle.frs_base.specs.Options.{none_or}
use Rattle.frs_base.specs.Versions.{same_gvsn, same_uid}
use Rattle.frs_base.specs.declared.version.Gvsn.{Gvsn}
use Rattle.version_vector.specs.Places.{one_version}
use Rattle.version_vector.specs.Unions.{inserted}
use Rattle.version_vector.specs.Versions.{IsCanonical, covers, inside}
use Rattle.version_vector.proofs.Insertions.{adds_version, inserted_form}
use Rattle.version_vector.specs.declared.interval.Interval.{Interval}
use Rattle.win_order.specs.declared.update.Update.{Update}
use Rattle.record_db.specs.declared.command.BookCmd.TheVariants.{RecordLocal, Adopt, Finish}
use Rattle.record_db.specs.Lists.{put_any}
use Rattle.record_db.specs.Records.{both, plus}
use Rattle.record_db.specs.Staged.{staged_by}
use Rattle.record_db.specs.declared.staged.Staged.{Staged}
use Rattle.record_db.specs.State.{BookState, CoversBelow, IsBook, IsVector}
use Rattle.record_db.specs.Steps.{Changes, CoversNew, IsOfSet, Widens, covered_after, covered_with, gives_way, has_next, in_set, is_ahead, is_past, may_adopt, may_finish, may_record, own_version}
use Rattle.record_db.proofs.Keys.{same_gvsn_is}
use Rattle.record_db.proofs.Sets.{both_cases, both_old, plus_cases, plus_new, plus_old}

-- ---- tests

and_first : (a b : Bool) → (a && b) ≡ true → a ≡ true
and_first true b e = refl
and_first false b e = absurd (cc)

and_second : (a b : Bool) → (a && b) ≡ true → b ≡ true
and_second true b e = e
and_second false b e = absurd (cc)

not_true : (a : Bool) → not a ≡ true → a ≡ false
not_true true e = absurd (cc)
not_true false e = refl

-- ---- one version more

pub added : (g : Gvsn) (vector : List Interval) → IsCanonical vector → IsVector (plus (covers vector) g) (inserted (one_version g) vector)
added g vector form = record { canonical = inserted_form (one_version g) vector (omega arith) form; covering = adds_version g vector form }

-- what is staged doesn't depend on the set
staged_put : (set : ℕ) (update : Option Update) (form : Option (List ℕ)) (staged : List Staged) → staged_by (option_map (in_set set) update) form staged ≡ staged_by update form staged
staged_put set None form staged = refl
staged_put set (Some u) form staged = refl

pub changed_by_record : (book new : BookState) (usn : ℕ) (update put : Option Update) (g : Gvsn) → g ≡ own_version book usn → put ≡ option_map (in_set book.set) update → IsBook book
    → new ≡ covered_with book g (usn + 1) put None → Changes (RecordLocal usn update) book new
changed_by_record book new usn update put g own is b e = subst (Changes (RecordLocal usn update) book) (sym e) (record {
  kind = refl;
  own = refl;
  set = refl;
  records = ap (λ p. put_any p book.records) is;
  vector = subst (λ h. IsVector (plus (covers book.vector) h) (inserted (one_version g) book.vector)) own (added g book.vector b.canonical);
  consumed = refl;
  phase = refl;
  staged = ap (λ p. staged_by p None book.staged) is ∙ staged_put book.set update None book.staged;
})

pub changed_by_update : (book new : BookState) (u : Update) (put : Option Update) (form : Option (List ℕ)) → put ≡ Some (in_set book.set u) → IsBook book
    → new ≡ covered_with book u.gvsn book.consumed put form → Changes (Adopt u form) book new
changed_by_update book new u put form is b e = subst (Changes (Adopt u form) book) (sym e) (record {
  kind = refl;
  own = refl;
  set = refl;
  records = ap (λ p. put_any p book.records) is;
  vector = added u.gvsn book.vector b.canonical;
  consumed = refl;
  phase = refl;
  staged = ap (λ p. staged_by p form book.staged) is;
})

-- ---- the next journal record

-- it is of the next USN, and its update of the own version with that
pub record Follows (book : BookState) (usn : ℕ) (update : Option Update) : Type 0 where
  pub next : usn ≡ book.consumed
  pub own : none_or (λ u. same_gvsn u.gvsn (own_version book usn)) update ≡ true

follows : (book : BookState) (usn : ℕ) (update : Option Update) → may_record usn update book ≡ true → Follows book usn update
follows book usn update may =
    let rest = and_second (eqb usn book.consumed) _ may in
    record { next = is usn book.consumed (and_first (eqb usn book.consumed) _ may); own = and_second (has_next usn) _ rest }
  where
    is : (a b : ℕ) → eqb a b ≡ true → a ≡ b
    is a b e = grind (arith, nat_tests)

-- the own version with the next USN isn't covered
pub unmade : (book : BookState) → IsBook book → covers book.vector (own_version book book.consumed) ≡ false
unmade book b = by (covers book.vector (own_version book book.consumed)) refl
  where
    by : (t : Bool) → covers book.vector (own_version book book.consumed) ≡ t → t ≡ false
    by false e = refl
    by true e = absurd (let low = b.made (own_version book book.consumed) e refl in omega (arith, low))

pub widens_record : (book : BookState) (usn : ℕ) (update : Option Update) (vector : List Interval) → IsBook book → may_record usn update book ≡ true
    → IsVector (covered_after (RecordLocal usn update) book) vector → length vector ≤ 65536 → Widens book vector (usn + 1) (option_map (in_set book.set) update)
widens_record book usn update vector b may v within = record {
  set = of_set update;
  canonical = v.canonical;
  within = within;
  wider = λ g e. v.covering g ∙ plus_old (covers book.vector) (own_version book usn) g e;
  new = new update f.own;
  made = λ g e own. elim (plus_cases (covers book.vector) (own_version book usn) g (sym (v.covering g) ∙ e)) [
    | inl same ↦ let version : g.version ≡ usn = ap (λ h. h.version) same in omega (arith, version)
    | inr old ↦ let low = b.made g old own in let next = f.next in omega (arith, low, next)
  ];
}
  where
    f : Follows book usn update
    f = follows book usn update may

    unmade_then : covers book.vector (own_version book usn) ≡ false
    unmade_then = subst (λ n. covers book.vector (own_version book n) ≡ false) (sym (f.next)) (unmade book b)

    of_set : (update : Option Update) → IsOfSet book (option_map (in_set book.set) update)
    of_set None = tt
    of_set (Some u) = refl

    new : (update : Option Update) → none_or (λ u. same_gvsn u.gvsn (own_version book usn)) update ≡ true → CoversNew book.vector vector (option_map (in_set book.set) update)
    new None own = tt
    new (Some u) own =
        let same : own_version book usn ≡ u.gvsn = sym (same_gvsn_is u.gvsn (own_version book usn) own) in (
          v.covering u.gvsn ∙ subst (λ g. plus (covers book.vector) (own_version book usn) g ≡ true) same (plus_new (covers book.vector) (own_version book usn)),
          subst (λ g. covers book.vector g ≡ false) same unmade_then,
        )

-- ---- a partner's update

-- what its condition says
pub record Fits (book : BookState) (u : Update) : Type 0 where
  pub next : has_next u.gvsn.version ≡ true
  pub version : is_ahead book u.gvsn.db u.gvsn.version ≡ false
  pub file : is_ahead book u.uid.db u.uid.version ≡ false
  pub new : covers book.vector u.gvsn ≡ false
  pub held : none_or (gives_way u) (find (λ r. same_uid r.uid u.uid) book.records) ≡ true

pub fits : (book : BookState) (u : Update) → may_adopt u book ≡ true → Fits book u
fits book u may =
    let second = and_second (has_next u.gvsn.version) _ may in
    let third = and_second (not (is_ahead book u.gvsn.db u.gvsn.version)) _ second in
    let fourth = and_second (not (is_ahead book u.uid.db u.uid.version)) _ third in
    record {
      next = and_first (has_next u.gvsn.version) _ may;
      version = not_true (is_ahead book u.gvsn.db u.gvsn.version) (and_first _ _ second);
      file = not_true (is_ahead book u.uid.db u.uid.version) (and_first _ _ third);
      new = not_true (covers book.vector u.gvsn) (and_first _ _ fourth);
      held = and_second (not (covers book.vector u.gvsn)) _ fourth;
    }

-- an own version that isn't ahead is consumed
pub behind : (book : BookState) (db version : ℕ) → is_ahead book db version ≡ false → db ≡ book.own → version < book.consumed
behind book db version e own = grind (arith, nat_tests)

pub widens_update : (book : BookState) (u : Update) (form : Option (List ℕ)) (vector : List Interval) → IsBook book → may_adopt u book ≡ true
    → IsVector (covered_after (Adopt u form) book) vector → length vector ≤ 65536 → Widens book vector book.consumed (Some (in_set book.set u))
widens_update book u form vector b may v within =
    let f = fits book u may in
    record {
      set = refl;
      canonical = v.canonical;
      within = within;
      wider = λ g e. v.covering g ∙ plus_old (covers book.vector) u.gvsn g e;
      new = (v.covering u.gvsn ∙ plus_new (covers book.vector) u.gvsn, f.new);
      made = λ g e own. elim (plus_cases (covers book.vector) u.gvsn g (sym (v.covering g) ∙ e)) [
        | inl same ↦ subst (λ h. h.version < book.consumed) (sym same) (behind book u.gvsn.db u.gvsn.version f.version (ap (λ h. h.db) (sym same) ∙ own))
        | inr old ↦ b.made g old own
      ];
    }

-- ---- a round

-- an interval that doesn't reach past a version has no version from there on
below : (db version : ℕ) (i : Interval) (g : Gvsn) → is_past db version i ≡ false → inside i g ≡ true → g.db ≡ db → g.version < version
below db version i g short within same = grind (arith, nat_tests)

-- where none of the database reaches past what is consumed, all that is covered of it is below
pub none_past : (db version : ℕ) (sent : List Interval) → is_none (find (is_past db version) sent) ≡ true → CoversBelow db version sent
none_past db version [] none g covered same = absurd (cc)
none_past db version (i ∷ sent) none g covered same = by (is_past db version i) (inside i g) refl refl none covered (λ n c. none_past db version sent n g c same)
  where
    by : (p w : Bool) → is_past db version i ≡ p → inside i g ≡ w → is_none (cond p (Some i) (find (is_past db version) sent)) ≡ true → (w || covers sent g) ≡ true
        → (is_none (find (is_past db version) sent) ≡ true → covers sent g ≡ true → g.version < version) → g.version < version
    by true w e f n c rest = absurd (cc)
    by false true e f n c rest = below db version i g e f same
    by false false e f n c rest = rest n c

pub widens_round : (book : BookState) (sent vector : List Interval) → IsBook book → may_finish sent book ≡ true → IsVector (covered_after (Finish sent) book) vector → length vector ≤ 65536
    → Widens book vector book.consumed None
widens_round book sent vector b may v within = record {
  set = tt;
  canonical = v.canonical;
  within = within;
  wider = λ g e. v.covering g ∙ both_old (covers book.vector) (covers sent) g e;
  new = tt;
  made = λ g e own. elim (both_cases (covers book.vector) (covers sent) g (sym (v.covering g) ∙ e)) [
    | inl old ↦ b.made g old own
    | inr theirs ↦ none_past book.own book.consumed sent may g theirs own
  ];
}

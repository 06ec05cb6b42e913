-- What the tests of an object answer.
use Rattle.std.proofs.Common.{◌≡◌, ◌∙◌, ℕ, Bool, true, false, not, List, Option, Some, None, refl, sym, ap, subst}
use Rattle.std.specs.Prelude.{◌↔◌, IsTrue, MatchBool, MatchOption, find, is_some, option_copied}
use Rattle.std.specs.Bool.{Decides}
use Rattle.std.specs.Str.{bytes_eq}
use Rattle.std.proofs.lemmas.Slice.Eq.{bytes_eq-Decides}
use denote.Ref.{Bor}
use Rattle.frs_base.specs.Versions.{same_uid}
use Rattle.frs_base.specs.declared.sum.Sum.{Sum}
use Rattle.frs_base.specs.declared.version.Uid.{Uid}
use Rattle.win_order.specs.declared.update.Update.{Update}
use Rattle.vol_state.specs.declared.object.Object.{Object}
use Rattle.vol_state.specs.Maps.{maps_of}
use Rattle.vol_state.specs.State.{State, uid_of}
use Rattle.name_rules.specs.Next.{IsInPlace}
use Rattle.name_rules.specs.Recorded.{held_of, parent_uid}
use Rattle.name_rules.specs.Shown.{Among}
use Rattle.name_rules.specs.Tree.{is_file}
use Rattle.record_db.specs.State.{BookState, IsBook, form_of}
use Rattle.record_db.proofs.Keys.{same_uid_is, same_uid_refl}
use Rattle.install_plan.specs.Objects.{IsAwaited, IsInstalled, IsOf, IsOutdated, IsPresent, IsRemoved, IsShownOf, IsUpToDate}
use Rattle.install_plan.specs.Staged.{staged_hash, staged_hashes}
use Rattle.install_plan.proofs.Held.{held_is, one_of, one_shown}

-- ---- tests of equality

pub uid_decides : (a b : Uid) → Decides (same_uid a b) (a ≡ b)
uid_decides a b = (same_uid_is a b, λ e. subst (λ x. same_uid a x ≡ true) e (same_uid_refl a))

pub sum_decides : (a b : Sum) → Decides (bytes_eq a.0 b.0) (a ≡ b)
sum_decides a b = (λ t. let bytes = (bytes_eq-Decides a.0 b.0).0 t in (λ i. record { 0 = bytes i }), λ e. (bytes_eq-Decides a.0 b.0).1 (ap (λ s. s.0) e))

differs : {P : Type 0} (b : Bool) → Decides b P → b ≡ false → P → ⊥
differs b decides e p = let yes = decides.1 p in cc

-- a value that is lent is there where it is
pub lent_some : {T : Type 0} (x : Option (Bor T)) → is_some x ≡ is_some (option_copied x)
lent_some None = refl
lent_some (Some y) = refl

pub in_limbo : {T : Type 0} (x : Option T) → is_some x ≡ false → x ≡ None
in_limbo None e = refl
in_limbo (Some y) e = absurd (cc)

module _ (v : State) (book : BookState) (o : Object) where
  -- the UID of the object
  abbrev Whose : Uid → Type 0
  Whose uid = uid ≡ uid_of v.own o

  -- the record that is held of its file
  pub held_of_it : IsBook book → (uid : Uid) (held : Option Update) → Whose uid → held ≡ find (λ r. same_uid r.uid uid) book.records
      → MatchOption held ((u : Update) → IsOf book.records (uid_of v.own o) u → ⊥) (λ u. IsOf book.records (uid_of v.own o) u)
  held_of_it kept uid held whose e = subst (λ x. MatchOption held ((u : Update) → IsOf book.records x u → ⊥) (λ u. IsOf book.records x u)) whose (held_is book kept uid held e)

  -- ---- places

  pub not_in_place : (p : ℕ × List ℕ) → ((u : Update) → IsShownOf book.records (uid_of v.own o) u → ⊥) → IsInPlace (Among book.records) v.own (maps_of v) o p → ⊥
  not_in_place p none (u, up, of, parent, name) = none u (up, of)

  pub place_decides : IsBook book → (p : ℕ × List ℕ) (u : Update) (here named : Bool) → IsShownOf book.records (uid_of v.own o) u
      → Decides here (u.parent ≡ parent_uid v.own (maps_of v) p.0) → Decides named (u.name ≡ p.1) → here ≡ true → IsTrue named ↔ IsInPlace (Among book.records) v.own (maps_of v) o p
  place_decides kept p u here named (up, of) parent name there = (
    λ t. (u, up, of, parent.0 there, name.0 t),
    λ (w, shown, whose, directory, called). name.1 (ap (λ (x : Update). x.name) (one_shown book kept (uid_of v.own o) u w (up, of) (shown, whose)) ∙ called),
  )

  pub parent_differs : IsBook book → (p : ℕ × List ℕ) (u : Update) (here : Bool) → IsShownOf book.records (uid_of v.own o) u
      → Decides here (u.parent ≡ parent_uid v.own (maps_of v) p.0) → here ≡ false → IsTrue here ↔ IsInPlace (Among book.records) v.own (maps_of v) o p
  parent_differs kept p u here (up, of) parent elsewhere = (
    λ t. absurd (cc),
    λ (w, shown, whose, directory, called). parent.1 (ap (λ (x : Update). x.parent) (one_shown book kept (uid_of v.own o) u w (up, of) (shown, whose)) ∙ directory),
  )

  pub awaits : (found : Option Update) → o.place ≡ None → MatchOption found ((u : Update) → IsShownOf book.records (uid_of v.own o) u → ⊥) (λ u. IsShownOf book.records (uid_of v.own o) u)
      → IsTrue (is_some found) ↔ IsAwaited v book.records o
  awaits None limbo none = (λ t. absurd (cc), λ (l, (u, shown)). absurd (none u shown))
  awaits (Some u) limbo shown = (λ t. (limbo, (u, shown)), λ a. refl)

  -- ---- records

  pub removes : IsBook book → (u : Update) → IsOf book.records (uid_of v.own o) u → MatchBool (not u.present) (IsRemoved v book.records o) (IsPresent v book.records o)
  removes kept u of = by u.present refl
    where
      by : (b : Bool) → u.present ≡ b → MatchBool (not b) (IsRemoved v book.records o) (IsPresent v book.records o)
      by true e = λ w other. ap (λ (x : Update). x.present) (one_of book kept (uid_of v.own o) w u other of) ∙ e
      by false e = (u, of, e)

  pub outdates : IsBook book → (u : Update) (same : Bool) → IsOf book.records (uid_of v.own o) u → is_file u ≡ true → Decides same (o.sum ≡ u.hash)
      → MatchBool (not same) (IsOutdated v book.records o) (IsUpToDate v book.records o)
  outdates kept u true of file decides = λ w other file'. decides.0 refl ∙ ap (λ (x : Update). x.hash) (one_of book kept (uid_of v.own o) u w of other)
  outdates kept u false of file decides = (u, of, file, λ e. let t = decides.1 e in cc)

  pub no_file : IsBook book → (u : Update) → IsOf book.records (uid_of v.own o) u → is_file u ≡ false → IsUpToDate v book.records o
  no_file kept u of e = λ w other file. let both : is_file w ≡ false = ap is_file (one_of book kept (uid_of v.own o) w u other of) ∙ e in absurd (cc)

  -- ---- what is staged

  pub staged_is : (one two : Uid) (form : Option (List ℕ)) (held : Option Update) → Whose one → Whose two → form ≡ form_of book one → held ≡ find (λ r. same_uid r.uid two) book.records
      → staged_hashes book (uid_of v.own o) ≡ staged_hash form held
  staged_is one two form held p q f h =
      let forms = f ∙ ap (form_of book) p in
      let records = h ∙ ap (held_of book.records) q in
      sym (λ i. staged_hash (forms i) (records i))

  none_staged : (form : Option (List ℕ)) → staged_hash form None ≡ None
  none_staged None = refl
  none_staged (Some f) = refl

  pub not_installed : (form : Option (List ℕ)) → staged_hashes book (uid_of v.own o) ≡ staged_hash form None → IsInstalled v book o → ⊥
  not_installed form is e = let none = sym e ∙ is ∙ none_staged form in cc

  pub installed_decides : (form : Option (List ℕ)) (u : Update) (same : Bool) → is_some form ≡ true → staged_hashes book (uid_of v.own o) ≡ staged_hash form (Some u)
      → Decides same (u.hash ≡ o.sum) → IsTrue same ↔ IsInstalled v book o
  installed_decides None u same some is decides = absurd (cc)
  installed_decides (Some f) u same some is decides = (
    λ t. is ∙ ap Some (decides.0 t),
    λ e. let sums : Some u.hash ≡ Some o.sum = sym is ∙ e in let one : u.hash ≡ o.sum = cc in decides.1 one,
  )

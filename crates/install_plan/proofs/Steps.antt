-- The next step, where each that comes before it is done.
use Rattle.std.proofs.Common.{◌≡◌, ◌∙◌, ◌<◌, ◌≤◌, ℕ, Bool, true, false, ltb, Some, Result, Ok, refl, sym, ap, subst, arith}
use Rattle.std.specs.Prelude.{MatchResult}
use Rattle.std.proofs.lemmas.Bool.Decides.{nat_tests}
use Rattle.frs_base.specs.declared.version.Uid.{Uid}
use Rattle.vol_state.specs.Journal.{IsNumbered}
use Rattle.vol_state.specs.Maps.{maps_of}
use Rattle.vol_state.specs.State.{State, uid_of}
use Rattle.name_rules.specs.Next.{IsDrained, IsFirstPending, IsQuiet, place_lt, place_of}
use Rattle.name_rules.specs.Shown.{Among}
use Rattle.name_rules.specs.Steps.{subject_of}
use Rattle.name_rules.specs.declared.step.Step.{Step}
use Rattle.name_rules.specs.declared.step.Step.TheVariants.{Erase, Make, Park, Place, Rewrite, Skip, Unstage}
use Rattle.name_rules.specs.declared.step.Subject.{Subject}
use Rattle.record_db.specs.State.{BookState}
use Rattle.install_plan.specs.Agenda.{Agenda, IsAgenda}
use Rattle.install_plan.specs.Done.{Done, IsDue, IsFirst, IsIdle, IsNextOf, Needs}
use Rattle.install_plan.specs.Staged.{staged_hashes}
use Rattle.install_plan.proofs.Locals.{entry_at}

-- what holds of a step of each kind for a file holds of every step for one
pub each_kind : (P : Step → Type 0) → ((uid : Uid) → P (Park uid)) → ((uid : Uid) → P (Erase uid)) → ((uid : Uid) → P (Make uid)) → ((uid : Uid) → P (Rewrite uid)) → ((uid : Uid) → P (Place uid))
    → ((uid : Uid) → P (Unstage uid)) → (step : Step) (uid : Uid) → subject_of step ≡ Subject.Uid uid → P step
each_kind P park erase make rewrite place unstage (Park x) uid e = park x
each_kind P park erase make rewrite place unstage (Erase x) uid e = erase x
each_kind P park erase make rewrite place unstage (Make x) uid e = make x
each_kind P park erase make rewrite place unstage (Rewrite x) uid e = rewrite x
each_kind P park erase make rewrite place unstage (Place x) uid e = place x
each_kind P park erase make rewrite place unstage (Unstage x) uid e = unstage x
each_kind P park erase make rewrite place unstage (Skip usn) uid e = absurd (cc)

module _ (v : State) (book : BookState) where
  -- ---- the first of a kind

  -- each kind of step is done for a file, if it comes before a place
  abbrev Before : ℕ × Uid → Step → Type 0
  Before place other = place_lt (place_of other) place ≡ true → Done v book other

  -- a kind is done for all files
  abbrev All : (Uid → Step) → Type 0
  All kind = (uid : Uid) → Done v book (kind uid)

  pub due_park : (uid : Uid) → IsFirst v book Park (Some uid) → IsDue v book (Park uid)
  due_park uid (needed, lower) = record {
    needed = needed;
    before = each_kind (Before (0, uid)) lower (λ x t. absurd (cc)) (λ x t. absurd (cc)) (λ x t. absurd (cc)) (λ x t. absurd (cc)) (λ x t. absurd (cc));
  }

  pub due_erase : (uid : Uid) → All Park → IsFirst v book Erase (Some uid) → IsDue v book (Erase uid)
  due_erase uid park (needed, lower) = record {
    needed = needed;
    before = each_kind (Before (1, uid)) (λ x t. park x) lower (λ x t. absurd (cc)) (λ x t. absurd (cc)) (λ x t. absurd (cc)) (λ x t. absurd (cc));
  }

  pub due_make : (uid : Uid) → All Park → All Erase → IsFirst v book Make (Some uid) → IsDue v book (Make uid)
  due_make uid park erase (needed, lower) = record {
    needed = needed;
    before = each_kind (Before (2, uid)) (λ x t. park x) (λ x t. erase x) lower (λ x t. absurd (cc)) (λ x t. absurd (cc)) (λ x t. absurd (cc));
  }

  pub due_rewrite : (uid : Uid) → All Park → All Erase → All Make → IsFirst v book Rewrite (Some uid) → IsDue v book (Rewrite uid)
  due_rewrite uid park erase make (needed, lower) = record {
    needed = needed;
    before = each_kind (Before (3, uid)) (λ x t. park x) (λ x t. erase x) (λ x t. make x) lower (λ x t. absurd (cc)) (λ x t. absurd (cc));
  }

  pub due_place : (uid : Uid) → All Park → All Erase → All Make → All Rewrite → IsFirst v book Place (Some uid) → IsDue v book (Place uid)
  due_place uid park erase make rewrite (needed, lower) = record {
    needed = needed;
    before = each_kind (Before (4, uid)) (λ x t. park x) (λ x t. erase x) (λ x t. make x) (λ x t. rewrite x) lower (λ x t. absurd (cc));
  }

  pub due_unstage : (uid : Uid) → All Park → All Erase → All Make → All Rewrite → All Place → IsFirst v book Unstage (Some uid) → IsDue v book (Unstage uid)
  due_unstage uid park erase make rewrite place (needed, lower) = record {
    needed = needed;
    before = each_kind (Before (5, uid)) (λ x t. park x) (λ x t. erase x) (λ x t. make x) (λ x t. rewrite x) (λ x t. place x) lower;
  }

  pub all_done : All Park → All Erase → All Make → All Rewrite → All Place → All Unstage → (step : Step) (uid : Uid) → subject_of step ≡ Subject.Uid uid → Done v book step
  all_done = each_kind (Done v book)

  pub due_skip : IsNumbered v → 9 ≤ book.consumed → book.consumed < v.next_usn → ((step : Step) (uid : Uid) → subject_of step ≡ Subject.Uid uid → Done v book step) → IsDue v book (Skip book.consumed)
  due_skip numbered begun within done = let (r, at) = entry_at v book.consumed numbered begun within in record {
    needed = (r, refl, at);
    before = λ other uid of t. done other uid of;
  }

  -- ---- what is answered

  -- what is done isn't needed
  pub apart : (step : Step) → Done v book step → Needs v book step → ⊥
  apart (Park uid) done (fid, o, p, at, is, placed, away) = away (done fid o p (at, is) placed)
  apart (Erase uid) done (fid, o, u, at, is, r, id, gone) = let there : u.present ≡ true = done fid o u (at, is) r id in absurd (cc)
  apart (Make uid) done (u, up, e, new) = let (fid, o, at, is) = done u up e in new fid o at is
  apart (Rewrite uid) done (fid, o, u, at, is, r, id, file, differs) = differs (done fid o u (at, is) r id file)
  apart (Place uid) done (fid, o, u, at, is, limbo, up, e) = done fid o u (at, is) limbo up e
  apart (Unstage uid) done (fid, o, at, is, e) = done fid o (at, is) e
  apart (Skip usn) done (r, same, at) = let none = done same in absurd (cc)

  same_not_lower : (a b : ℕ) → a ≡ b → ltb a b ≡ false
  same_not_lower a b e = grind (arith, nat_tests)

  -- no journal record is passed before a step
  skips_last : (usn : ℕ) (step : Step) → Needs v book (Skip usn) → Needs v book step → place_lt (place_of (Skip usn)) (place_of step) ≡ false
  skips_last usn (Park uid) a b = refl
  skips_last usn (Erase uid) a b = refl
  skips_last usn (Make uid) a b = refl
  skips_last usn (Rewrite uid) a b = refl
  skips_last usn (Place uid) a b = refl
  skips_last usn (Unstage uid) a b = refl
  skips_last usn (Skip other) (r, e, at) (s, f, there) = same_not_lower usn other (e ∙ sym f)

  not_before : (step other : Step) (uid : Uid) → IsDue v book step → subject_of other ≡ Subject.Uid uid → Needs v book other → place_lt (place_of other) (place_of step) ≡ false
  not_before step other uid due of needed = by (place_lt (place_of other) (place_of step)) refl
    where
      by : (b : Bool) → place_lt (place_of other) (place_of step) ≡ b → place_lt (place_of other) (place_of step) ≡ false
      by true e = absurd (apart other (due.before other uid of e) needed)
      by false e = e

  -- a step that is due is next
  pub next_due : (step : Step) → IsDue v book step → IsNextOf v book step
  next_due step due = record { candidate = due.needed; first = first }
    where
      first : (other : Step) → Needs v book other → place_lt (place_of other) (place_of step) ≡ false
      first (Park uid) needed = not_before step (Park uid) uid due refl needed
      first (Erase uid) needed = not_before step (Erase uid) uid due refl needed
      first (Make uid) needed = not_before step (Make uid) uid due refl needed
      first (Rewrite uid) needed = not_before step (Rewrite uid) uid due refl needed
      first (Place uid) needed = not_before step (Place uid) uid due refl needed
      first (Unstage uid) needed = not_before step (Unstage uid) uid due refl needed
      first (Skip usn) needed = skips_last usn step needed due.needed

  pub drained : IsQuiet book.consumed (maps_of v) → IsIdle v book → IsDrained (Among book.records) v.own (maps_of v) (staged_hashes book) book.consumed
  drained quiet idle = record {
    quiet = quiet;
    park = λ fid o p at placed. idle.done (Park (uid_of v.own o)) (uid_of v.own o) refl fid o p (at, refl) placed;
    erase = λ fid o u at r id. idle.done (Erase (uid_of v.own o)) (uid_of v.own o) refl fid o u (at, refl) r id;
    make = λ u shown. idle.done (Make u.uid) u.uid refl u shown refl;
    rewrite = λ fid o u at r id file. idle.done (Rewrite (uid_of v.own o)) (uid_of v.own o) refl fid o u (at, refl) r id file;
    place = λ fid o u at limbo shown id. idle.done (Place (uid_of v.own o)) (uid_of v.own o) refl fid o u (at, refl) limbo shown id;
    unstage = λ uid sum fid o staged at is same. idle.done (Unstage uid) uid refl fid o (at, is) (staged ∙ ap Some (sym same));
    skip = idle.consumed;
  }

  -- the agenda notes it
  pub noted : (a : Agenda) (step : Step) → IsAgenda v book a → IsDue v book step → IsAgenda v book (record a { last = Some step })
  noted a step is due = record { shown = is.shown; ordered = is.ordered; quiet = is.quiet; others = is.others; passed = due.before }

  -- no local record is pending where an agenda is found
  pub quiet_of : (found : Result Agenda ℕ) (a : Agenda) → found ≡ Ok a → MatchResult found (IsAgenda v book) (λ usn. IsFirstPending book.consumed (maps_of v) usn) → IsQuiet book.consumed (maps_of v)
  quiet_of found a is h = let agenda : IsAgenda v book a = subst (λ f. MatchResult f (IsAgenda v book) (λ usn. IsFirstPending book.consumed (maps_of v) usn)) is h in agenda.quiet

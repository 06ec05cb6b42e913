-- The first file for which a kind of step is needed, among those on an agenda.
use Rattle.std.proofs.Common.{◌≡◌, ◌∙◌, ◌<◌, ◌≤◌, ℕ, zero, suc, Bool, true, false, inl, inr, List, [], ◌∷◌, Option, Some, None, ◌-◌, length, drop, take, get_or, refl, sym, ap, subst, arith}
use Rattle.std.specs.Prelude.{◌⊎◌, MatchBool}
use Rattle.std.specs.Fn.{FnReturnsAt}
use Rattle.std.specs.List.Sorted.{IsPartitionPoint, IsPartitionedBy}
use Rattle.std.proofs.lemmas.List.{take_rest}
use Rattle.std.proofs.lemmas.Bool.Decides.{nat_tests}
use Rattle.std.proofs.lemmas.Option.{slice_get-get_or}
use denote.Param.Members.{Shared}
use denote.Ref.{Bor}
use Rattle.frs_base.specs.Options.{In}
use Rattle.frs_base.specs.Versions.{uid_lt}
use Rattle.frs_base.specs.declared.version.Uid.{Uid}
use Rattle.vol_state.specs.State.{State}
use Rattle.name_rules.specs.Next.{place_lt, place_of}
use Rattle.name_rules.specs.Steps.{subject_of}
use Rattle.name_rules.specs.declared.step.Step.{Step}
use Rattle.name_rules.specs.declared.step.Step.TheVariants.{Erase, Make, Park, Place, Rewrite, Unstage}
use Rattle.name_rules.specs.declared.step.Subject.{Subject}
use Rattle.name_rules.proofs.Lists.{got_in}
use Rattle.record_db.specs.State.{BookState}
use Rattle.install_plan.specs.Agenda.{Agenda, AreInOrder, IsAgenda, comes_before}
use Rattle.install_plan.specs.Done.{Done, IsFirst, Needs}
use Rattle.install_plan.specs.Passing.{IsFirstPassing}

-- ---- kinds of steps

-- steps for files, all of one kind
pub record IsKind (kind : Uid → Step) : Type 0 where
  pub number : ℕ
  pub subject : (uid : Uid) → subject_of (kind uid) ≡ Subject.Uid uid
  pub place : (uid : Uid) → place_of (kind uid) ≡ (number, uid)

pub parks : IsKind Park
parks = record { number = 0; subject = λ uid. refl; place = λ uid. refl }

pub erases : IsKind Erase
erases = record { number = 1; subject = λ uid. refl; place = λ uid. refl }

pub makes : IsKind Make
makes = record { number = 2; subject = λ uid. refl; place = λ uid. refl }

pub rewrites : IsKind Rewrite
rewrites = record { number = 3; subject = λ uid. refl; place = λ uid. refl }

pub places : IsKind Place
places = record { number = 4; subject = λ uid. refl; place = λ uid. refl }

pub unstages : IsKind Unstage
unstages = record { number = 5; subject = λ uid. refl; place = λ uid. refl }

not_itself : (a : Uid) → uid_lt a a ≡ false
not_itself a = grind (arith, nat_tests)

-- what isn't higher comes before what the other does
still_before : (n k : ℕ) (x y z : Uid) → uid_lt y x ≡ false → place_lt (n, y) (k, z) ≡ true → place_lt (n, x) (k, z) ≡ true
still_before n k x y z order before = grind (arith, nat_tests)

in_get : {X : Type 0} (xs : List X) (k : ℕ) (d : X) → k < length xs → In (get_or xs k d) xs
in_get xs k d within = got_in xs k (get_or xs k d) (slice_get-get_or xs k d within)

module _ (kind : Uid → Step) (is : IsKind kind) (last : Option Step) where
  rises : (x y : Uid) → uid_lt y x ≡ false → comes_before (kind y) last ≡ true → comes_before (kind x) last ≡ true
  rises x y order before = by last before
    where
      by : (l : Option Step) → comes_before (kind y) l ≡ true → comes_before (kind x) l ≡ true
      by None e = absurd (cc)
      by (Some l) e =
          let was : place_lt (is.number, y) (place_of l) ≡ true = subst (λ p. place_lt p (place_of l) ≡ true) (is.place y) e in
          subst (λ p. place_lt p (place_of l) ≡ true) (sym (is.place x)) (still_before is.number (place_of l).0 x y (place_of l).1 order was)

  -- those whose step comes before the last one are the first ones
  pub parted : (uids : List Uid) → AreInOrder uids → IsPartitionedBy (λ uid. comes_before (kind uid) last) uids
  parted [] o i j d le l t = absurd (omega arith)
  parted (x ∷ xs) o zero zero d le l t = t
  parted (x ∷ xs) o zero (suc j) d le l t = rises x (get_or xs j d) (o.0 (get_or xs j d) (in_get xs j d (omega arith))) t
  parted (x ∷ xs) o (suc i) zero d le l t = absurd (omega arith)
  parted (x ∷ xs) o (suc i) (suc j) d le l t = parted xs o.1 i j d (omega arith) (omega arith) t

-- ---- a list cut in two

-- of so many the fact holds, so it holds of one, or that one is left
either : (P : Uid → Type 0) (xs : List Uid) (n : ℕ) → ((k : ℕ) (d : Uid) → k < n → P (get_or xs k d)) → (uid : Uid) → In uid xs → P uid ⊎ In uid (drop n xs)
either P [] n all uid i = absurd i
either P (x ∷ xs) zero all uid i = inr i
either P (x ∷ xs) (suc n) all uid (inl same) = inl (subst P (sym same) (all 0 x (omega arith)))
either P (x ∷ xs) (suc n) all uid (inr i) = either P xs n (λ k d l. all (suc k) d (omega arith)) uid i

order_left : (xs : List Uid) (n : ℕ) → AreInOrder xs → AreInOrder (drop n xs)
order_left [] zero o = o
order_left [] (suc n) o = o
order_left (x ∷ xs) zero o = o
order_left (x ∷ xs) (suc n) o = order_left xs n o.1

-- ---- the first that passes

-- the same of what each answer says
as_facts : (Answers Facts : Uid → Bool → Type 0) → ((uid : Uid) (b : Bool) → Answers uid b → Facts uid b) → (uids : List Uid) (found : Option Uid) → IsFirstPassing Answers uids found → IsFirstPassing Facts uids found
as_facts Answers Facts says [] found e = e
as_facts Answers Facts says (uid ∷ uids) found (inl (passes, is)) = inl (says uid true passes, is)
as_facts Answers Facts says (uid ∷ uids) found (inr (fails, rest)) = inr (says uid false fails, as_facts Answers Facts says uids found rest)

-- and of what the answers of a closure say
pub by_calls : {F : Type 0} (g : Shared F (Bor Uid × Unit {0}) Bool) (f : F) (Facts : Uid → Bool → Type 0) (uids : List Uid) (found : Option Uid)
    → IsFirstPassing (λ uid passes. FnReturnsAt g f uid passes) uids found → ((y : Bor Uid) (b : Bool) → g.post f (y, tt) b → Facts y.now b) → IsFirstPassing Facts uids found
by_calls g f Facts uids found first says =
    as_facts (λ uid passes. FnReturnsAt g f uid passes) Facts (λ uid b called. subst (λ x. Facts x b) called.shows (says called.shown b called.says.met)) uids found first

module _ (Needed Finished : Uid → Type 0) where
  -- what is known of those that were tested
  abbrev IsLeft : List Uid → Option Uid → Type 0
  IsLeft xs None = (uid : Uid) → In uid xs → Finished uid
  IsLeft xs (Some uid) = Needed uid × ((other : Uid) → In other xs → uid_lt other uid ≡ true → Finished other)

  -- one more that fails
  one_more : (x : Uid) (xs : List Uid) (found : Option Uid) → Finished x → IsLeft xs found → IsLeft (x ∷ xs) found
  one_more x xs None fails none = each
    where
      each : (uid : Uid) → In uid (x ∷ xs) → Finished uid
      each uid (inl same) = subst Finished (sym same) fails
      each uid (inr i) = none uid i
  one_more x xs (Some u) fails (needed, lower_done) = (needed, each)
    where
      each : (other : Uid) → In other (x ∷ xs) → uid_lt other u ≡ true → Finished other
      each other (inl same) lower = subst Finished (sym same) fails
      each other (inr i) lower = lower_done other i lower

  left : (xs : List Uid) (found : Option Uid) → AreInOrder xs → IsFirstPassing (λ uid b. MatchBool b (Needed uid) (Finished uid)) xs found → IsLeft xs found
  left [] None o e = λ uid i. absurd i
  left [] (Some u) o e = absurd (cc)
  left (x ∷ xs) found o (inl (passes, is)) = subst (IsLeft (x ∷ xs)) (sym is) (passes, here)
    where
      here : (other : Uid) → In other (x ∷ xs) → uid_lt other x ≡ true → Finished other
      here other (inl same) lower = let level : uid_lt other x ≡ false = subst (λ y. uid_lt y x ≡ false) (sym same) (not_itself x) in absurd (cc)
      here other (inr i) lower = let high = o.0 other i in absurd (cc)
  left (x ∷ xs) found o (inr (fails, rest)) = one_more x xs found fails (left xs found o.1 rest)

-- ---- of those on an agenda

module _ (v : State) (book : BookState) (a : Agenda) (agenda : IsAgenda v book a) (kind : Uid → Step) (is : IsKind kind) where
  -- a file that isn't left to be tested is done
  done_or_left : (n : ℕ) → ((k : ℕ) (d : Uid) → 0 ≤ k → k < n → comes_before (kind (get_or a.uids k d)) a.last ≡ true) → (uid : Uid) → Done v book (kind uid) ⊎ In uid (drop n a.uids)
  done_or_left n passed uid = elim (agenda.others (kind uid) uid (is.subject uid)) [
    | inl i ↦ either (λ x. Done v book (kind x)) a.uids n (λ k d l. agenda.passed (kind (get_or a.uids k d)) (get_or a.uids k d) (is.subject (get_or a.uids k d)) (passed k d (omega arith) l)) uid i
    | inr done ↦ inl done
  ]

  pub is_first : (n : ℕ) (found : Option Uid) → ((k : ℕ) (d : Uid) → 0 ≤ k → k < n → comes_before (kind (get_or a.uids k d)) a.last ≡ true)
      → IsFirstPassing (λ uid b. MatchBool b (Needs v book (kind uid)) (Done v book (kind uid))) (drop n a.uids) found → IsFirst v book kind found
  is_first n found passed first = by found (left (λ uid. Needs v book (kind uid)) (λ uid. Done v book (kind uid)) (drop n a.uids) found (order_left a.uids n agenda.ordered) first)
    where
      by : (f : Option Uid) → IsLeft (λ uid. Needs v book (kind uid)) (λ uid. Done v book (kind uid)) (drop n a.uids) f → IsFirst v book kind f
      by None none = λ uid. elim (done_or_left n passed uid) [ inl done ↦ done | inr i ↦ none uid i ]
      by (Some u) (needed, lower_done) = (needed, λ other lower. elim (done_or_left n passed other) [ inl done ↦ done | inr i ↦ lower_done other i lower ])

  -- the same of a slice that is the list
  pub parted_in : (xs : List Uid) → xs ≡ a.uids → IsPartitionedBy (λ uid. comes_before (kind uid) a.last) xs
  parted_in xs same = subst (IsPartitionedBy (λ uid. comes_before (kind uid) a.last)) (sym same) (parted kind is a.last a.uids agenda.ordered)

  pub found_first : (xs : List Uid) (n : ℕ) (found : Option Uid) → xs ≡ a.uids → IsPartitionPoint (λ uid. comes_before (kind uid) a.last ≡ true) (λ uid. comes_before (kind uid) a.last ≡ false) xs n
      → IsFirstPassing (λ uid b. MatchBool b (Needs v book (kind uid)) (Done v book (kind uid))) (take (length xs - n) (drop n xs)) found → IsFirst v book kind found
  found_first xs n found same point first =
      let rest : drop n a.uids ≡ take (length xs - n) (drop n xs) = ap (drop n) (sym same) ∙ sym (take_rest xs n) in
      is_first n found (λ k d low l. subst (λ l. comes_before (kind (get_or l k d)) a.last ≡ true) same (point.0 k d low l))
      (subst (λ l. IsFirstPassing (λ uid b. MatchBool b (Needs v book (kind uid)) (Done v book (kind uid))) l found) (sym rest) first)

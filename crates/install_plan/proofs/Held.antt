-- The records of a book, and those that are shown.
use Rattle.std.proofs.Common.{◌≡◌, ◌≤◌, ◌<◌, ◌∙◌, ℕ, zero, suc, true, false, inl, inr, List, [], ◌∷◌, length, get_or, Option, Some, None, Ok, Err, refl, sym, ap, subst, arith}
use Rattle.std.specs.Prelude.{◌↔◌, IsTrue, MatchOption, Result, find, is_ok}
use Rattle.std.specs.List.{AllByRecursion}
use Rattle.std.specs.List.Sorted.{IsBinarySearchResult, IsNonDecreasingBy, IsSearchInRange}
use Rattle.std.specs.Ordering.{ordering_index}
use Rattle.std.specs.declared.cmp.Ordering.TheVariants.{Equal, Greater, Less}
use Rattle.std.proofs.lemmas.Bool.Decides.{nat_tests}
use Rattle.std.proofs.lemmas.Option.{slice_get-get_or}
use Rattle.frs_base.specs.Options.{In}
use Rattle.frs_base.specs.Versions.{same_gvsn, same_uid, uid_lt}
use Rattle.frs_base.specs.declared.version.Uid.{Uid}
use Rattle.win_order.specs.declared.update.Update.{Update}
use Rattle.name_rules.specs.Shown.{AreByUid, AreShown, Among}
use Rattle.name_rules.specs.Shown as shown
use Rattle.name_rules.proofs.Lists.{got_in, in_all, in_at}
use Rattle.name_rules.proofs.Showing.{shown_record}
use Rattle.record_db.specs.Lists.{AreDistinct}
use Rattle.record_db.specs.Maps.{uid_cmp}
use Rattle.record_db.specs.State.{BookState, IsBook}
use Rattle.record_db.proofs.Keys.{same_gvsn_refl, same_uid_is}
use Rattle.record_db.proofs.Lists.{find_at, find_in}
use Rattle.install_plan.specs.Objects.{IsOf, IsShownOf}

-- ---- one record of a file

pub one_of : (book : BookState) → IsBook book → (uid : Uid) (u w : Update) → IsOf book.records uid u → IsOf book.records uid w → u ≡ w
one_of book kept uid u w (i, e) (j, f) =
    let a = find_at book.records uid u kept.rising i e in
    let b = find_at book.records uid w kept.rising j f in
    let same : Some u ≡ Some w = sym a ∙ b in
    cc

differs : (r x : Update) (rs : List Update) → AllByRecursion (λ v. same_gvsn r.gvsn v.gvsn ≡ false) rs → In x rs → r.gvsn ≡ x.gvsn → ⊥
differs r x rs all i e =
    let no = in_all (λ v. same_gvsn r.gvsn v.gvsn ≡ false) rs x all i in
    let yes : same_gvsn r.gvsn x.gvsn ≡ true = subst (λ g. same_gvsn r.gvsn g ≡ true) e (same_gvsn_refl r.gvsn) in
    cc

one_version : (records : List Update) → AreDistinct records → (u w : Update) → In u records → In w records → u.gvsn ≡ w.gvsn → u ≡ w
one_version [] apart u w i j e = absurd i
one_version (r ∷ rs) apart u w (inl p) (inl q) e = p ∙ sym q
one_version (r ∷ rs) apart u w (inl p) (inr j) e = absurd (differs r w rs apart.0 j (ap (λ x. x.gvsn) (sym p) ∙ e))
one_version (r ∷ rs) apart u w (inr i) (inl q) e = absurd (differs r u rs apart.0 i (ap (λ x. x.gvsn) (sym q) ∙ sym e))
one_version (r ∷ rs) apart u w (inr i) (inr j) e = one_version rs apart.1 u w i j e

pub book_is_distinct : (book : BookState) → IsBook book → shown.AreDistinct book.records
book_is_distinct book kept = record {
  files = λ u w i j e. one_of book kept w.uid u w (i, e) (j, refl);
  versions = one_version book.records kept.distinct;
}

-- the record that is held of a file
pub held_is : (book : BookState) → IsBook book → (uid : Uid) (held : Option Update) → held ≡ find (λ r. same_uid r.uid uid) book.records
    → MatchOption held ((u : Update) → IsOf book.records uid u → ⊥) (λ u. IsOf book.records uid u)
held_is book kept uid None e = λ u (i, f). let a = find_at book.records uid u kept.rising i f in cc
held_is book kept uid (Some u) e = find_in book.records uid u (sym e)

-- ---- among UIDs in order

in_get : {X : Type 0} (xs : List X) (k : ℕ) (d : X) → k < length xs → In (get_or xs k d) xs
in_get xs k d within = got_in xs k (get_or xs k d) (slice_get-get_or xs k d within)

rises : (uid a b : Uid) → uid_lt a b ≡ true → ordering_index (uid_cmp a uid) ≤ ordering_index (uid_cmp b uid)
rises uid a b lower = grind (arith, nat_tests)

all_rise : (uid : Uid) (uids : List Uid) → AreByUid uids → IsNonDecreasingBy (λ y. ordering_index (uid_cmp y uid)) uids
all_rise uid [] up i j d le within = absurd (omega arith)
all_rise uid (x ∷ xs) up zero zero d le within = omega arith
all_rise uid (x ∷ xs) up zero (suc j) d le within = rises uid x (get_or xs j d) (in_all (λ y. uid_lt x y ≡ true) xs (get_or xs j d) up.0 (in_get xs j d (omega arith)))
all_rise uid (x ∷ xs) up (suc i) zero d le within = absurd (omega arith)
all_rise uid (x ∷ xs) up (suc i) (suc j) d le within = all_rise uid xs up.1 i j d (omega arith) (omega arith)

same_level : (uid : Uid) → uid_cmp uid uid ≡ Equal
same_level uid = grind (arith, nat_tests)

level_is : (a b : Uid) → uid_cmp a b ≡ Equal → same_uid a b ≡ true
level_is a b e = grind (arith, nat_tests)

either : (a b : ℕ) → (a < b → ⊥) → (b ≤ a → ⊥) → ⊥
either a b low high = omega (arith, low, high)

-- what a search by halves answers
pub among : (uids : List Uid) (uid : Uid) (r : Result ℕ ℕ) → AreByUid uids → IsSearchInRange r (length uids) → IsBinarySearchResult (λ y. uid_cmp y uid) uids r → IsTrue (is_ok r) ↔ In uid uids
among uids uid (Ok i) up range at = (λ t. subst (λ x. In x uids) (same_uid_is (get_or uids i uid) uid (level_is (get_or uids i uid) uid (at uid))) (in_get uids i uid range), λ h. refl)
among uids uid (Err i) up range at = (λ t. absurd (cc), λ h. absurd (nowhere h))
  where
    nowhere : In uid uids → ⊥
    nowhere h =
        let (k, within, is) = in_at uids uid uid h in
        let (low, high) = at (all_rise uid uids up) in
        let level = same_level uid in
        let below : k < i → ⊥ = λ lt. let less : uid_cmp uid uid ≡ Less = subst (λ y. uid_cmp y uid ≡ Less) is (low k uid (omega arith) lt) in cc in
        let above : i ≤ k → ⊥ = λ le. let greater : uid_cmp uid uid ≡ Greater = subst (λ y. uid_cmp y uid ≡ Greater) is (high k uid le within) in cc in
        either k i below above

-- ---- shown records

-- the held record of a file that is among those shown
pub is_shown : (book : BookState) (uids : List Uid) → IsBook book → AreShown book.records uids → (uid : Uid) (held : Option Update) → In uid uids → held ≡ find (λ r. same_uid r.uid uid) book.records
    → MatchOption held ((u : Update) → IsShownOf book.records uid u → ⊥) (λ u. IsShownOf book.records uid u)
is_shown book uids kept listed uid held there e =
    let (u, up, of) = listed.each uid there in
    let found : held ≡ Some u = e ∙ find_at book.records uid u kept.rising (shown_record (Among book.records) u up) of in
    subst (λ h. MatchOption h ((w : Update) → IsShownOf book.records uid w → ⊥) (λ w. IsShownOf book.records uid w)) (sym found) (up, of)

-- one that isn't has no shown record
pub not_shown : (book : BookState) (uids : List Uid) → AreShown book.records uids → (uid : Uid) → (In uid uids → ⊥) → (u : Update) → IsShownOf book.records uid u → ⊥
not_shown book uids listed uid out u (up, of) = out (subst (λ x. In x uids) of (listed.whole u up))

pub one_shown : (book : BookState) → IsBook book → (uid : Uid) (u w : Update) → IsShownOf book.records uid u → IsShownOf book.records uid w → u ≡ w
one_shown book kept uid u w (s, e) (t, f) = one_of book kept uid u w (shown_record (Among book.records) u s, e) (shown_record (Among book.records) w t, f)

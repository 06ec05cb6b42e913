-- The files of those found, in order.
use Rattle.std.proofs.Common.{◌≡◌, ◌∙◌, ◌++◌, ◌+◌, ℕ, zero, suc, inl, inr, Bool, true, false, List, [], ◌∷◌, Option, Some, None, Equal, is_eq, is_lt, option_map, slice_get, take, unwrap_or, refl, sym, ap, subst, arith}
use Rattle.std.proofs.lemmas.Cmp.{tied_itself}
use Rattle.std.proofs.lemmas.List.Sorted.{Contains-permutation, IsPermutation-sym}
use Rattle.std.proofs.lemmas.List.Elements.{filter_map-append}
use Rattle.std.specs.List.{AllByRecursion, cons_option, filter_map}
use Rattle.std.specs.List.Sorted.{IsPermutation, IsSortedBy}
use Rattle.frs_base.specs.Options.{In}
use Rattle.frs_base.specs.Versions.{uid_lt}
use Rattle.frs_base.specs.declared.version.Uid.{Uid}
use Rattle.vol_state.proofs.Walks.{same_is}
use Rattle.win_order.specs.declared.update.Update.{Update}
use Rattle.name_rules.specs.Shown.{AreApart, AreByPlace, AreByUid, AreDistinct, AreNamed, AreShown, Descends, place_cmp, uid_cmp}
use Rattle.name_rules.proofs.Lists.{all_in, contains_in, got_in, in_all, in_contains}
use Rattle.name_rules.proofs.Ranks.{place_total, same_uid_is, uid_lt_is, uid_total}
use Rattle.name_rules.proofs.Descending.{finds}
use Rattle.name_rules.proofs.Sorting.{HaveKeysOnce, HaveOtherKeys, is_higher, moved_once, none_lower, once_rest, sorted_rest}

-- the file of the one at a place
abbrev pub file_at : List Update → ℕ → Option Uid
file_at named k = option_map (λ u. u.uid) (slice_get named k)

-- and of those at these places
abbrev pub uids_at : List Update → List ℕ → List Uid
uids_at named ks = filter_map (file_at named) ks

pub next_file : (named : List Update) (ks : List ℕ) (i k : ℕ) (u : Update) → slice_get ks i ≡ Some k → slice_get named k ≡ Some u → uids_at named (take (i + 1) ks) ≡ uids_at named (take i ks) ++ u.uid ∷ []
next_file named ks i k u at is =
    ap (uids_at named) (one_more ks i at)
    ∙ filter_map-append (file_at named) (take i ks) (k ∷ [])
    ∙ ap (λ o. uids_at named (take i ks) ++ cons_option o []) (ap (option_map (λ u. u.uid)) is)
  where
    one_more : (xs : List ℕ) (n : ℕ) → slice_get xs n ≡ Some k → take (n + 1) xs ≡ take n xs ++ k ∷ []
    one_more [] n e = absurd (cc)
    one_more (x ∷ xs) zero e = ap (λ y. y ∷ []) (ap (λ o. unwrap_or o x) e)
    one_more (x ∷ xs) (suc n) e = let next : suc n + 1 ≡ suc (n + 1) = omega arith in ap (λ m. take m (x ∷ xs)) next ∙ ap (λ l. x ∷ l) (one_more xs n e)

-- ---- members

file_of : (named : List Update) (ks : List ℕ) (k : ℕ) (u : Update) → In k ks → slice_get named k ≡ Some u → In u.uid (uids_at named ks)
file_of named [] k u h e = absurd h
file_of named (j ∷ ks) k u (inl s) e = subst (λ o. In u.uid (cons_option o (uids_at named ks))) (sym (ap (file_at named) (sym s) ∙ ap (option_map (λ u. u.uid)) e)) (inl refl)
file_of named (j ∷ ks) k u (inr h) e = by (file_at named j) (file_of named ks k u h e)
  where
    by : (o : Option Uid) → In u.uid (uids_at named ks) → In u.uid (cons_option o (uids_at named ks))
    by None h = h
    by (Some v) h = inr h

record IsAtSome (named : List Update) (ks : List ℕ) (uid : Uid) : Type 0 where
  place : ℕ
  update : Update
  there : In place ks
  at : slice_get named place ≡ Some update
  is : uid ≡ update.uid

place_of : (named : List Update) (ks : List ℕ) (uid : Uid) → In uid (uids_at named ks) → IsAtSome named ks uid
place_of named [] uid h = absurd h
place_of named (k ∷ ks) uid h = by (slice_get named k) refl h (place_of named ks uid)
  where
    later : IsAtSome named ks uid → IsAtSome named (k ∷ ks) uid
    later p = record { place = p.place; update = p.update; there = inr p.there; at = p.at; is = p.is }

    by : (o : Option Update) → slice_get named k ≡ o → In uid (cons_option (option_map (λ u. u.uid) o) (uids_at named ks)) → (In uid (uids_at named ks) → IsAtSome named ks uid) → IsAtSome named (k ∷ ks) uid
    by None e h more = later (more h)
    by (Some u) e (inl s) more = record { place = k; update = u; there = inl refl; at = e; is = s }
    by (Some u) e (inr h) more = later (more h)

-- ---- each once

-- no two places have one file
abbrev pub AreOneEach : List Update → Type 0
AreOneEach named = (j k : ℕ) (u v : Update) → slice_get named j ≡ Some u → slice_get named k ≡ Some v → u.uid ≡ v.uid → j ≡ k

uid_tied : (a b : Uid) → uid_cmp a b ≡ Equal → a ≡ b
uid_tied a b e = same_is a b (same_uid_is a b ∙ ap is_eq e)

other_files : (named : List Update) → AreOneEach named → (ks : List ℕ) → AreApart ks → HaveOtherKeys (λ uid. uid) uid_cmp uid_total (uids_at named ks)
other_files named one [] apart = tt
other_files named one (k ∷ ks) apart = by (slice_get named k) refl (other_files named one ks apart.1)
  where
    by : (o : Option Update) → slice_get named k ≡ o → HaveOtherKeys (λ uid. uid) uid_cmp uid_total (uids_at named ks)
        → HaveOtherKeys (λ uid. uid) uid_cmp uid_total (cons_option (option_map (λ u. u.uid) o) (uids_at named ks))
    by None e more = more
    by (Some u) e more = (
      λ v h same.
          let p = place_of named ks v h in
          apart.0 (subst (λ j. In j ks) (sym (one k p.place u p.update e p.at (uid_tied u.uid v same ∙ p.is))) p.there),
      more,
    )

-- ---- those by place

twice : (x u : Update) (xs : List Update) → AllByRecursion (λ v. is_lt (place_cmp x v) ≡ true) xs → In u xs → x ≡ u → ⊥
twice x u xs all h e =
    let low : is_lt (place_cmp x x) ≡ true = subst (λ w. is_lt (place_cmp x w) ≡ true) (sym e) (in_all (λ v. is_lt (place_cmp x v) ≡ true) xs u all h) in
    let level : is_lt (place_cmp x x) ≡ false = ap is_lt (tied_itself place_total x) in
    let both : true ≡ false = sym low ∙ level in
    cc

pub once_placed : (us : List Update) → AreByPlace us → (j k : ℕ) (u : Update) → slice_get us j ≡ Some u → slice_get us k ≡ Some u → j ≡ k
once_placed [] o j k u p q = absurd (cc)
once_placed (x ∷ xs) o zero zero u p q = refl
once_placed (x ∷ xs) o zero (suc k) u p q = absurd (twice x u xs o.0 (got_in xs k u q) (ap (λ o. unwrap_or o x) p))
once_placed (x ∷ xs) o (suc j) zero u p q = absurd (twice x u xs o.0 (got_in xs j u p) (ap (λ o. unwrap_or o x) q))
once_placed (x ∷ xs) o (suc j) (suc k) u p q = ap suc (once_placed xs o.1 j k u p q)

pub one_each : (records named : List Update) → AreDistinct records → AreNamed records named → AreOneEach named
one_each records named distinct names j k u v p q e =
    let same = distinct.files u v (names.each u (got_in named j u p)).among (names.each v (got_in named k v q)).among e in
    once_placed named names.ordered j k u p (q ∙ ap Some (sym same))

-- ---- after a sort

sorted_once : (uids : List Uid) → IsSortedBy (λ u v. is_lt (uid_cmp u v)) uids → HaveKeysOnce (λ uid. uid) uid_cmp uid_total uids → AreByUid uids
sorted_once [] up once = tt
sorted_once (x ∷ xs) up once = (
  all_in (λ v. uid_lt x v ≡ true) xs (λ v h.
      uid_lt_is x v ∙ is_higher (λ uid. uid) uid_cmp uid_total x xs once v h (none_lower (λ uid. uid) uid_cmp uid_total x xs up v h)),
  sorted_once xs (sorted_rest (λ uid. uid) uid_cmp uid_total x xs up) (once_rest (λ uid. uid) uid_cmp uid_total x xs once),
)

pub are_shown : (records named : List Update) (flags : List Bool) (queue : List ℕ) (above : List (Option ℕ)) (uids : List Uid) → AreDistinct records → AreNamed records named → Descends named flags queue above
    → IsPermutation (uids_at named queue) uids → IsSortedBy (λ u v. is_lt (uid_cmp u v)) uids → AreShown records uids
are_shown records named flags queue above uids distinct names d moved up = record {
  ordered = sorted_once uids up (moved_once (λ uid. uid) uid_cmp uid_total found uids (other_files named (one_each records named distinct names) queue d.flagged.apart) moved);
  each = λ uid h.
      let p = place_of named queue uid (contains_in found uid (Contains-permutation uids found uid (IsPermutation-sym found uids moved) (in_contains uids uid h))) in
      (p.update, d.shown records names.each p.place p.update p.there p.at, sym p.is);
  whole = λ u shown.
      let (k, there, at) = finds records named flags queue above names d u shown in
      contains_in uids u.uid (Contains-permutation found uids u.uid moved (in_contains found u.uid (file_of named queue k u there at)));
}
  where
    found : List Uid
    found = uids_at named queue

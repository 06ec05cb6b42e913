-- A walk over the links with a key finds what is to be found.
use Rattle.std.proofs.Common.{◌≡◌, ◌+◌, ◌-◌, ◌<◌, ◌≤◌, ◌&&◌, ◌⊎◌, inl, inr, ℕ, zero, suc, Bool, true, false, eqb, List, [], ◌∷◌, ◌++◌, length, take, get_or, map, Option, Some, None, refl, sym, ap, ◌∙◌, subst, arith}
use Rattle.std.proofs.lemmas.Bool.Decides.{nat_tests}
use Rattle.std.proofs.lemmas.Bool.{false≢true}
use Rattle.std.proofs.lemmas.List.{take_more, get_or-take, length-take, get_or_default}
use Rattle.std.proofs.lemmas.Slice.Eq.{bytes_eq-Decides}
use Rattle.std.specs.Prelude.{find, is_some, option_map, if◌then◌else◌}
use Rattle.frs_base.specs.declared.version.Uid.{Uid}
use Rattle.frs_base.specs.Names.{matches, fold_unit}
use Rattle.frs_base.specs.Versions.{same_uid}
use Rattle.vol_state.specs.declared.object.Object.{Object}
use Rattle.vol_state.specs.declared.hints.Link.{Link}
use Rattle.frs_base.specs.Options.{In, some_is, kept_if}
use Rattle.vol_state.specs.Places.{object_at, is_child, child}
use Rattle.vol_state.specs.Tree.{IsTree}
use Rattle.vol_state.specs.State.{IsOneEach, uid_of}
use Rattle.vol_state.specs.Hints.{AreChained, AreHinted, last_with, mixed_all, no_link, place_key, place_keys, uid_key, uid_keys}
use Rattle.vol_state.proofs.Climbing.{by_cases}
use Rattle.vol_state.proofs.Finding.{at_in, in_at}
use Rattle.vol_state.proofs.Volumes.{both, find_in, find_none}
use Rattle.vol_state.proofs.Chains.{in_pushed, last_has, last_holds, last_within}

-- the links from at on with this key lead to no object that passes, and the walk goes on at one with this key
pub record IsLooked (test : Object → Bool) (objects : List Object) (links : List Link) (key at : ℕ) : Type 0 where
  within : at ≤ length links
  here : (i : ℕ) (d : Link) → at ≡ suc i → (get_or links i d).key ≡ key
  rest : (l : Link) → In l links → l.key ≡ key → (kept_if test (object_at objects l.fid) ≡ None) ⊎ In l (take at links)

pub looked_begin : (test : Object → Bool) (objects : List Object) (links : List Link) (key at : ℕ) → at ≡ last_with key links → IsLooked test objects links key at
looked_begin test objects links key at is = subst (IsLooked test objects links key) (sym is) (record {
  within = last_within key links;
  here = λ i d e. last_has key links d i e;
  rest = λ l i e. inr (last_holds key links l i e);
})

take_less : (ls : List Link) (i k : ℕ) → i ≤ k → take i (take k ls) ≡ take i ls
take_less ls zero k le = refl
take_less ls (suc i) zero le = absurd (omega arith)
take_less [] (suc i) (suc k) le = refl
take_less (x ∷ xs) (suc i) (suc k) le = ap (λ ys. x ∷ ys) (take_less xs i k (omega arith))

-- where the next link is
pub previous_is : (links : List Link) (test : Object → Bool) (objects : List Object) (key at : ℕ) (link : Link) → AreChained links → IsLooked test objects links key at → 0 < at → link ≡ get_or links (at - 1) link → (link.previous ≡ last_with key (take (at - 1) links)) × (at - 1 < length links)
previous_is links test objects key at link chained h pos is =
    let within = h.within in
    let l : at - 1 < length links = omega arith in
    let k : link.key ≡ key = ap (λ y. y.key) is ∙ h.here (at - 1) link (omega arith) in
    (ap (λ y. y.previous) is ∙ chained (at - 1) link l ∙ ap (λ y. last_with y.key (take (at - 1) links)) (sym is) ∙ ap (λ n. last_with n (take (at - 1) links)) k, l)

pub previous_less : (links : List Link) (test : Object → Bool) (objects : List Object) (key at : ℕ) (link : Link) → AreChained links → IsLooked test objects links key at → 0 < at → link ≡ get_or links (at - 1) link → link.previous < at
previous_less links test objects key at link chained h pos is =
    let p = previous_is links test objects key at link chained h pos is in
    let q = p.0 in
    let l = p.1 in
    let w = last_within key (take (at - 1) links) in
    let len = length-take (at - 1) links in
    omega arith

pub looked_next : (test : Object → Bool) (objects : List Object) (links : List Link) (key at : ℕ) (link : Link) → AreChained links → IsLooked test objects links key at → 0 < at → link ≡ get_or links (at - 1) link
    → kept_if test (object_at objects link.fid) ≡ None → IsLooked test objects links key link.previous
looked_next test objects links key at link chained h pos is miss =
    let p = previous_is links test objects key at link chained h pos is in
    let l = p.1 in
    let w = last_within key (take (at - 1) links) in
    let len = length-take (at - 1) links in
    let short : last_with key (take (at - 1) links) ≤ at - 1 = omega arith in
    let whole : take at links ≡ take (at - 1) links ++ link ∷ [] = ap (λ n. take n links) (back pos) ∙ take_more links (at - 1) link l ∙ ap (λ y. take (at - 1) links ++ y ∷ []) (sym is) in
    let next : IsLooked test objects links key (last_with key (take (at - 1) links)) = record {
      within = omega arith;
      here = λ i d e. sym (ap (λ y. y.key) (get_or-take (at - 1) links i d (omega (arith, e)))) ∙ last_has key (take (at - 1) links) d i e;
      rest = λ y i e. by_cases (h.rest y i e)
          (λ m. inl m)
          (λ j. by_cases (in_pushed y (take (at - 1) links) link (subst (In y) whole j))
          (λ k. inr (subst (In y) (take_less links (last_with key (take (at - 1) links)) (at - 1) short) (last_holds key (take (at - 1) links) y k e)))
          (λ s. inl (ap (λ z. kept_if test (object_at objects z.fid)) s ∙ miss)));
    } in
    subst (IsLooked test objects links key) (sym p.0) next
  where
    back : 0 < at → at ≡ at - 1 + 1
    back l = omega arith

-- the link at which a walk stands
pub bounds_link : (test : Object → Bool) (objects : List Object) (links : List Link) (key at : ℕ) → IsLooked test objects links key at → 0 < at → at - 1 < length links
bounds_link test objects links key at h pos = let w = h.within in omega arith

pub less_link : (test : Object → Bool) (objects : List Object) (links : List Link) (key at : ℕ) → AreChained links → IsLooked test objects links key at → 0 < at → (get_or links (at - 1) no_link).previous < at
less_link test objects links key at chained h pos =
    previous_less links test objects key at (get_or links (at - 1) no_link) chained h pos (get_or_default links (at - 1) no_link (get_or links (at - 1) no_link) (bounds_link test objects links key at h pos))

pub next_link : (test : Object → Bool) (objects : List Object) (links : List Link) (key at : ℕ) → AreChained links → IsLooked test objects links key at → 0 < at
    → None ≡ kept_if test (object_at objects (get_or links (at - 1) no_link).fid) → IsLooked test objects links key (get_or links (at - 1) no_link).previous
next_link test objects links key at chained h pos miss =
    looked_next test objects links key at (get_or links (at - 1) no_link) chained h pos (get_or_default links (at - 1) no_link (get_or links (at - 1) no_link) (bounds_link test objects links key at h pos)) (sym miss)

-- where all links were looked at, there is nothing
pub looked_end : (test : Object → Bool) (keys : Object → Option ℕ) (objects : List Object) (links : List Link) (key at : ℕ) → IsTree objects → AreHinted keys links objects → ((o : Object) → test o ≡ true → keys o ≡ Some key)
    → IsLooked test objects links key at → at ≡ 0 → None ≡ find test objects
looked_end test keys objects links key at t hinted keyed h z = go (find test objects) refl
  where
    missed : (o : Object) → test o ≡ true → object_at objects o.fid ≡ Some o → kept_if test (object_at objects o.fid) ≡ None → ⊥
    missed o passes there miss =
        let s : kept_if test (object_at objects o.fid) ≡ Some o = ap (kept_if test) there ∙ ap (λ b. if b then Some o else None) passes in
        none_some (sym miss ∙ s)
      where
        none_some : None ≡ Some o → ⊥
        none_some e = absurd (cc)

    go : (c : Option Object) → find test objects ≡ c → None ≡ find test objects
    go None is = sym is
    go (Some o) is =
        let r = find_in test objects o is in
        let (l, i, e, f) = hinted o key r.0 (keyed o r.1) in
        let there = in_at 0 o objects t.rising r.0 in
        by_cases (h.rest l i e)
        (λ m. absurd (missed o r.1 there (ap (λ n. kept_if test (object_at objects n)) (sym f) ∙ m)))
        (λ j. absurd (subst (λ n. In l (take n links)) z j))

-- the one that passes is the one that is found
pub found_is : (test : Object → Bool) (objects : List Object) (fid : ℕ) (o : Object) → ((a b : Object) → In a objects → In b objects → test a ≡ true → test b ≡ true → a ≡ b)
    → kept_if test (object_at objects fid) ≡ Some o → Some o ≡ find test objects
found_is test objects fid o one e = at (object_at objects fid) refl e
  where
    passed : (x : Object) (b : Bool) → test x ≡ b → (if b then Some x else None) ≡ Some o → (x ≡ o) × (test x ≡ true)
    passed x true t e = (cc, t)
    passed x false t e = absurd (cc)

    go : In o objects → test o ≡ true → (c : Option Object) → find test objects ≡ c → Some o ≡ find test objects
    go i t None is = absurd (false≢true (sym (find_none test objects o (ap is_some is) i) ∙ t))
    go i t (Some c) is = let r = find_in test objects c is in ap Some (one o c i r.0 t r.1) ∙ sym is

    at : (a : Option Object) → object_at objects fid ≡ a → kept_if test a ≡ Some o → Some o ≡ find test objects
    at None a e = absurd (cc)
    at (Some x) a e =
        let (s, t) = passed x (test x) refl e in
        go (subst (λ y. In y objects) s (at_in fid x objects a).0) (ap test (sym s) ∙ t) (find test objects) refl

-- ---- the keys of places

child_keyed : (parent : ℕ) (name : List ℕ) (o : Object) → is_child parent name o ≡ true → place_keys o ≡ Some (place_key parent name)
child_keyed parent name o e = go o.place e
  where
    go : (place : Option (ℕ × List ℕ)) → some_is (λ p. eqb p.0 parent && matches p.1 name) place ≡ true → option_map (λ p. place_key p.0 p.1) place ≡ Some (place_key parent name)
    go None e = absurd (cc)
    go (Some p) e =
        let (a, b) = both (eqb p.0 parent) (matches p.1 name) e in
        let same : p.0 ≡ parent = grind (arith, nat_tests) in
        let folded = (bytes_eq-Decides (map fold_unit p.1) (map fold_unit name)).0 b in
        ap Some (ap (λ n. mixed_all n (map fold_unit p.1)) same ∙ ap (mixed_all parent) folded)

pub child_end : (objects : List Object) (links : List Link) (parent : ℕ) (name : List ℕ) (at : ℕ) → IsTree objects → AreHinted place_keys links objects → IsLooked (is_child parent name) objects links (place_key parent name) at → at ≡ 0 → None ≡ child objects parent name
child_end objects links parent name at t hinted h z = looked_end (is_child parent name) place_keys objects links (place_key parent name) at t hinted (child_keyed parent name) h z

pub child_found : (objects : List Object) (parent : ℕ) (name : List ℕ) (fid : ℕ) (o : Object) → IsTree objects → kept_if (is_child parent name) (object_at objects fid) ≡ Some o → Some o ≡ child objects parent name
child_found objects parent name fid o t e = found_is (is_child parent name) objects fid o (λ a b i j u v. t.apart a b parent name i j u v) e

-- ---- the keys of UIDs

abbrev pub has_uid : ℕ → Uid → Object → Bool
has_uid own uid o = same_uid (uid_of own o) uid

pub same_is : (a b : Uid) → same_uid a b ≡ true → a ≡ b
same_is a b e =
    let (d, v) = both (eqb a.db b.db) (eqb a.version b.version) e in
    let x : a.db ≡ b.db = grind (arith, nat_tests) in
    let y : a.version ≡ b.version = grind (arith, nat_tests) in
    ap (λ n. record { db = n; version = a.version }) x ∙ ap (λ n. record { db = b.db; version = n }) y

pub uid_end : (own : ℕ) (uid : Uid) (objects : List Object) (links : List Link) (at : ℕ) → IsTree objects → AreHinted (uid_keys own) links objects → IsLooked (has_uid own uid) objects links (uid_key uid) at → at ≡ 0 → None ≡ find (has_uid own uid) objects
uid_end own uid objects links at t hinted h z = looked_end (has_uid own uid) (uid_keys own) objects links (uid_key uid) at t hinted (λ o e. ap (λ u. Some (uid_key u)) (same_is (uid_of own o) uid e)) h z

pub uid_found : (own : ℕ) (uid : Uid) (objects : List Object) (fid : ℕ) (o : Object) → IsOneEach own objects → kept_if (has_uid own uid) (object_at objects fid) ≡ Some o → Some o ≡ find (has_uid own uid) objects
uid_found own uid objects fid o one e = found_is (has_uid own uid) objects fid o (λ a b i j u v. one a b i j (same_is (uid_of own a) uid u ∙ sym (same_is (uid_of own b) uid v))) e

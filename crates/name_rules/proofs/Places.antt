-- The last of each place, of records by rank.
use Rattle.std.proofs.Common.{◌≡◌, ◌&&◌, Bool, true, false, inl, inr, List, [], ◌∷◌, Ordering, Less, Equal, Greater, cond, is_lt, is_eq, map, nat_cmp, refl, sym, ap, ◌∙◌, subst}
use Rattle.std.proofs.lemmas.Cmp.{alike_right, tied_back, tied_itself}
use Rattle.std.specs.FinMap.{nat_cmp-IsAntisymmetric}
use Rattle.std.specs.List.Sorted.{IsSortedBy}
use Rattle.std.specs.Ordering.{ordering_reverse, ordering_then}
use Rattle.frs_base.specs.Options.{In}
use Rattle.frs_base.specs.Versions.{same_uid}
use Rattle.win_order.specs.Order.{key_lt, key_of}
use Rattle.win_order.specs.declared.key.Key.{Key}
use Rattle.win_order.specs.declared.update.Update.{Update}
use Rattle.vol_state.proofs.Volumes.{is_same}
use Rattle.vol_state.proofs.Walks.{same_is}
use Rattle.name_rules.specs.Shown.{AreByPlace, AreDistinct, AreNamed, AreRising, IsRanked, key_cmp, last_of_places, place_cmp, rank_cmp, same_place}
use Rattle.name_rules.proofs.Lists.{all_in, in_mapped}
use Rattle.name_rules.proofs.Ranks.{by_key, key_lt_is, key_total, place_first, place_total, rank_total, same_place_is}
use Rattle.name_rules.proofs.Sorting.{is_equal, none_lower, sorted_rest}

-- of two updates, which one a sort puts first
abbrev pub rank_lt : Update → Update → Bool
rank_lt u v = is_lt (rank_cmp u v)

-- what is sorted by what it stands for
pub rising : {X : Type 0} (f : X → Update) (xs : List X) → IsSortedBy (λ x y. rank_lt (f x) (f y)) xs → AreRising (map f xs)
rising f [] up = tt
rising {X} f (x ∷ xs) up = (below, rising f xs (sorted_rest f rank_cmp rank_total x xs up))
  where
    below : (v : Update) → In v (map f xs) → rank_lt v (f x) ≡ false
    below v h =
        let (y, there, e) = in_mapped f xs v h in
        subst (λ w. rank_lt w (f x) ≡ false) (sym e) (none_lower f rank_cmp rank_total x xs up y there)

-- ---- comparisons

ties_turn : (u v : Update) → same_place u v ≡ true → same_place v u ≡ true
ties_turn u v e =
    same_place_is v u ∙ ap is_eq (tied_back place_total u v (is_equal (place_cmp u v) (sym (same_place_is u v) ∙ e)))

pub not_below_itself : (u : Update) → key_lt (key_of u) (key_of u) ≡ false
not_below_itself u = key_lt_is (key_of u) (key_of u) ∙ ap is_lt (tied_itself key_total (key_of u))

rank_itself : (u : Update) → rank_lt u u ≡ false
rank_itself u = ap is_lt (tied_itself rank_total u)

-- in one place what isn't lower has no lower key
lower_key : (u x : Update) → rank_lt u x ≡ false → same_place x u ≡ true → key_lt (key_of u) (key_of x) ≡ false
lower_key u x low same =
    key_lt_is (key_of u) (key_of x) ∙ sym (ap is_lt (by_key u x (sym (same_place_is u x) ∙ ties_turn x u same))) ∙ low

-- what lies between two of one place is of it
between : (x y v : Update) → rank_lt y x ≡ false → rank_lt v y ≡ false → same_place x v ≡ true → same_place x y ≡ true
between x y v up more same = same_place_is x y ∙ by (place_cmp x y) refl
  where
    tied : place_cmp x v ≡ Equal
    tied = is_equal (place_cmp x v) (sym (same_place_is x v) ∙ same)

    by : (o : Ordering) → place_cmp x y ≡ o → is_eq o ≡ true
    by Less e = absurd (let s : is_lt (place_cmp v y) ≡ true = ap is_lt (sym (place_total.congr x v y tied) ∙ e) in let t = place_first v y more in cc)
    by Equal e = refl
    by Greater e = absurd (let s : is_lt (place_cmp y x) ≡ true = ap is_lt (place_total.antisymm y x ∙ ap ordering_reverse e) in let t = place_first y x up in cc)

-- ---- the last of each place

last_in : (us : List Update) (u : Update) → In u (last_of_places us) → In u us
last_in [] u h = h
last_in (x ∷ []) u h = h
last_in (x ∷ y ∷ us) u h = by (same_place x y) h (last_in (y ∷ us) u)
  where
    by : (b : Bool) → In u (cond b (last_of_places (y ∷ us)) (x ∷ last_of_places (y ∷ us))) → (In u (last_of_places (y ∷ us)) → In u (y ∷ us)) → In u (x ∷ y ∷ us)
    by true h more = inr (more h)
    by false (inl e) more = inl e
    by false (inr k) more = inr (more k)

-- it has the greatest key of its place
last_greatest : (us : List Update) → AreRising us → (u : Update) → In u (last_of_places us) → (v : Update) → In v us → same_place v u ≡ true → key_lt (key_of u) (key_of v) ≡ false
last_greatest [] r u h v k s = absurd h
last_greatest (x ∷ []) r u (inl e) v (inl f) s = subst (λ w. key_lt (key_of u) (key_of w) ≡ false) (e ∙ sym f) (not_below_itself u)
last_greatest (x ∷ []) r u (inl e) v (inr k) s = absurd k
last_greatest (x ∷ []) r u (inr h) v k s = absurd h
last_greatest (x ∷ y ∷ us) r u h v k s = by (same_place x y) refl h k (last_greatest (y ∷ us) r.1 u)
  where
    front : In u (y ∷ us) → v ≡ x → key_lt (key_of u) (key_of v) ≡ false
    front h f = subst (λ w. key_lt (key_of u) (key_of w) ≡ false) (sym f) (lower_key u x (r.0 u h) (subst (λ w. same_place w u ≡ true) f s))

    above_y : In v (y ∷ us) → rank_lt v y ≡ false
    above_y (inl f) = subst (λ w. rank_lt w y ≡ false) (sym f) (rank_itself y)
    above_y (inr k) = r.1.0 v k

    by : (b : Bool) → same_place x y ≡ b → In u (cond b (last_of_places (y ∷ us)) (x ∷ last_of_places (y ∷ us))) → In v (x ∷ y ∷ us)
        → (In u (last_of_places (y ∷ us)) → (w : Update) → In w (y ∷ us) → same_place w u ≡ true → key_lt (key_of u) (key_of w) ≡ false) → key_lt (key_of u) (key_of v) ≡ false
    by true t h (inl f) more = front (last_in (y ∷ us) u h) f
    by true t h (inr k) more = more h v k s
    by false t (inl e) (inl f) more = subst (λ w. key_lt (key_of u) (key_of w) ≡ false) (e ∙ sym f) (not_below_itself u)
    by false t (inl e) (inr k) more =
        absurd (let same : same_place x y ≡ true = between x y v (r.0 y (inl refl)) (above_y k) (ties_turn v x (subst (λ w. same_place v w ≡ true) e s)) in cc)
    by false t (inr h) (inl f) more = front (last_in (y ∷ us) u h) f
    by false t (inr h) (inr k) more = more h v k s

-- ---- keys of one version

both_equal : (r o : Ordering) → ordering_then r o ≡ Equal → (r ≡ Equal) × (o ≡ Equal)
both_equal Less o e = absurd (cc)
both_equal Equal o e = (refl, e)
both_equal Greater o e = absurd (cc)

pub key_version : (a b : Key) → key_cmp a b ≡ Equal → a.gvsn ≡ b.gvsn
key_version a b e =
    let g = (both_equal _ _ (both_equal _ _ (both_equal (nat_cmp a.fence b.fence) _ e).1).1).1 in
    let parts = both_equal (nat_cmp a.gvsn.db b.gvsn.db) (nat_cmp a.gvsn.version b.gvsn.version) g in
    λ i. record { db = nat_cmp-IsAntisymmetric a.gvsn.db b.gvsn.db parts.0 i; version = nat_cmp-IsAntisymmetric a.gvsn.version b.gvsn.version parts.1 i }

pub neither_lower : (a b : Key) → key_lt a b ≡ false → key_lt b a ≡ false → key_cmp a b ≡ Equal
neither_lower a b p q = by (key_cmp a b) refl
  where
    by : (o : Ordering) → key_cmp a b ≡ o → o ≡ Equal
    by Less e = absurd (let s : key_lt a b ≡ true = key_lt_is a b ∙ ap is_lt e in cc)
    by Equal e = refl
    by Greater e = absurd (let s : key_lt b a ≡ true = key_lt_is b a ∙ ap is_lt (key_total.antisymm b a ∙ ap ordering_reverse e) in cc)

-- ---- each that has the greatest key of its place is the last of it

abbrev pub AreOne : List Update → Type 0
AreOne us = (a b : Update) → In a us → In b us → a.gvsn ≡ b.gvsn → a ≡ b

abbrev pub IsGreatest : List Update → Update → Type 0
IsGreatest us u = (v : Update) → In v us → same_place v u ≡ true → key_lt (key_of u) (key_of v) ≡ false

greatest_last : (us : List Update) → AreRising us → AreOne us → (u : Update) → In u us → IsGreatest us u → In u (last_of_places us)
greatest_last [] r one u h g = h
greatest_last (x ∷ []) r one u h g = h
greatest_last (x ∷ y ∷ us) r one u h g = by (same_place x y) refl h (λ w k. greatest_last (y ∷ us) r.1 (λ a b p q. one a b (inr p) (inr q)) w k)
  where
    same_one : same_place x y ≡ true → u ≡ x → u ≡ y
    same_one t e =
        let up = lower_key y x (r.0 y (inl refl)) t in
        let down : key_lt (key_of x) (key_of y) ≡ false = subst (λ w. key_lt (key_of w) (key_of y) ≡ false) e (g y (inr (inl refl)) (subst (λ w. same_place y w ≡ true) (sym e) (ties_turn x y t))) in
        e ∙ one x y (inl refl) (inr (inl refl)) (key_version (key_of x) (key_of y) (neither_lower (key_of x) (key_of y) down up))

    by : (b : Bool) → same_place x y ≡ b → In u (x ∷ y ∷ us) → ((w : Update) → In w (y ∷ us) → IsGreatest (y ∷ us) w → In w (last_of_places (y ∷ us)))
        → In u (cond b (last_of_places (y ∷ us)) (x ∷ last_of_places (y ∷ us)))
    by true t (inl e) more = more u (inl (same_one t e)) (λ v k. g v (inr k))
    by true t (inr k) more = more u k (λ v j. g v (inr j))
    by false t (inl e) more = inl e
    by false t (inr k) more = inr (more u k (λ v j. g v (inr j)))

-- in order of their places
last_by_place : (us : List Update) → AreRising us → AreByPlace (last_of_places us)
last_by_place [] r = tt
last_by_place (x ∷ []) r = (tt, tt)
last_by_place (x ∷ y ∷ us) r = by (same_place x y) refl (last_by_place (y ∷ us) r.1)
  where
    before : same_place x y ≡ false → place_cmp x y ≡ Less
    before t = go (place_cmp x y) refl
      where
        go : (o : Ordering) → place_cmp x y ≡ o → o ≡ Less
        go Less e = refl
        go Equal e = absurd (let s : same_place x y ≡ true = same_place_is x y ∙ ap is_eq e in cc)
        go Greater e = absurd (let s : is_lt (place_cmp y x) ≡ true = ap is_lt (place_total.antisymm y x ∙ ap ordering_reverse e) in let f = place_first y x (r.0 y (inl refl)) in cc)

    far : same_place x y ≡ false → (v : Update) → rank_lt v y ≡ false → is_lt (place_cmp x v) ≡ true
    far t v low = go (place_cmp y v) refl
      where
        go : (o : Ordering) → place_cmp y v ≡ o → is_lt (place_cmp x v) ≡ true
        go Less e = ap is_lt (place_total.trans x y v (before t) e)
        go Equal e = ap is_lt (sym (alike_right place_total y v x e) ∙ before t)
        go Greater e = absurd (let s : is_lt (place_cmp v y) ≡ true = ap is_lt (place_total.antisymm v y ∙ ap ordering_reverse e) in let f = place_first v y low in cc)

    low : (v : Update) → In v (y ∷ us) → rank_lt v y ≡ false
    low v (inl f) = subst (λ w. rank_lt w y ≡ false) (sym f) (rank_itself y)
    low v (inr k) = r.1.0 v k

    by : (b : Bool) → same_place x y ≡ b → AreByPlace (last_of_places (y ∷ us)) → AreByPlace (cond b (last_of_places (y ∷ us)) (x ∷ last_of_places (y ∷ us)))
    by true t more = more
    by false t more = (all_in (λ v. is_lt (place_cmp x v) ≡ true) (last_of_places (y ∷ us)) (λ v h. far t v (low v (last_in (y ∷ us) v h))), more)

-- ---- together

pub and_left : (a b : Bool) → (a && b) ≡ true → a ≡ true
and_left true b e = refl
and_left false b e = absurd (cc)

pub and_right : (a b : Bool) → (a && b) ≡ true → b ≡ true
and_right true b e = e
and_right false b e = absurd (cc)

pub both : (a b : Bool) → a ≡ true → b ≡ true → (a && b) ≡ true
both a b p q = λ i. (ap (λ x. x && b) p ∙ q) i

pub are_named : (records ranked : List Update) → AreDistinct records → IsRanked records ranked → AreNamed records (last_of_places ranked)
are_named records ranked distinct is = record {
  ordered = last_by_place ranked up;
  each = λ u h.
      let mine = is.each u (last_in ranked u h) in record {
        among = mine.0;
        present = mine.1;
        greatest = λ v there present parent name.
            last_greatest ranked up u h v (is.whole v there present) (both _ _ (subst (λ p. same_uid v.parent p ≡ true) parent (is_same v.parent)) name);
      };
  whole = λ u h. greatest_last ranked up one u (is.whole u h.among h.present) (λ v there same.
      let other = is.each v there in
      h.greatest v other.0 other.1 (same_is v.parent u.parent (and_left _ _ same)) (and_right _ _ same));
}
  where
    up : AreRising ranked
    up = is.ordered

    one : AreOne ranked
    one a b p q e = distinct.versions a b (is.each a p).0 (is.each b q).0 e

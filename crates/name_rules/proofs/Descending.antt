-- From the root down, directory by directory.
use Rattle.std.proofs.Common.{◌≡◌, ◌⊎◌, ◌∙◌, ◌++◌, ◌+◌, ◌<◌, ◌≤◌, ℕ, zero, suc, inl, inr, Bool, true, false, List, [], ◌∷◌, Option, Some, None, length, replicate, slice_get, unwrap_or, refl, sym, ap, subst, arith}
use Rattle.std.proofs.lemmas.List.{length-append, length-replicate}
use Rattle.std.proofs.lemmas.Option.{slice_get_within}
use Rattle.frs_base.specs.Options.{In}
use Rattle.frs_base.specs.declared.version.Uid.{Uid}
use Rattle.vol_state.specs.Conditions.{root_uid}
use Rattle.win_order.specs.Order.{is_directory}
use Rattle.win_order.specs.declared.update.Update.{Update}
use Rattle.name_rules.specs.Tree.{HasName, IsShown, ShownBy}
use Rattle.name_rules.specs.Shown.{Among, AreFlagged, AreHung, AreNamed, Descends, HangsMore, HasChildren, Reaches, StandsFor}
use Rattle.name_rules.proofs.Flags.{upto}
use Rattle.name_rules.proofs.Lists.{get_append, got_in, in_either, in_got}

-- as far as the directories among the first of those found were looked at
pub record Descending (named : List Update) (next : ℕ) (flags : List Bool) (queue : List ℕ) (above : List (Option ℕ)) : Type 0 where
  pub flagged : AreFlagged (length named) flags queue
  pub roots : HasChildren named root_uid flags
  pub below : (i k : ℕ) (u : Update) → i < next → slice_get queue i ≡ Some k → slice_get named k ≡ Some u → is_directory u ≡ true → HasChildren named u.uid flags
  pub shown : (records : List Update) → ((u : Update) → In u named → HasName (Among records) u) → (k : ℕ) (u : Update) → In k queue → slice_get named k ≡ Some u → IsShown (Among records) u
  pub hung : AreHung named queue above

pub one_value : {X : Type 0} (a b : X) → Some a ≡ Some b → a ≡ b
one_value a b e = ap (λ o. unwrap_or o a) e

get_front : {X : Type 0} (xs ys : List X) (i : ℕ) → i < length xs → slice_get (xs ++ ys) i ≡ slice_get xs i
get_front [] ys i l = absurd (omega arith)
get_front (x ∷ xs) ys zero l = refl
get_front (x ∷ xs) ys (suc i) l = get_front xs ys i (omega arith)

-- ---- directories of those found

get_behind : {X : Type 0} (xs ys : List X) (n : ℕ) (x : X) → slice_get (xs ++ ys) n ≡ Some x → length xs ≤ n → In x ys
get_behind [] ys n x e l = got_in ys n x e
get_behind (z ∷ xs) ys zero x e l = absurd (omega arith)
get_behind (z ∷ xs) ys (suc n) x e l = get_behind xs ys n x e (omega arith)

in_replicate : {X : Type 0} (n : ℕ) (x y : X) → In y (replicate n x) → y ≡ x
in_replicate zero x y h = absurd h
in_replicate (suc n) x y (inl e) = e
in_replicate (suc n) x y (inr h) = in_replicate n x y h

-- a place still stands for its directory once more is found
stands_still : (named : List Update) (queue more : List ℕ) (n m : ℕ) (up : Option ℕ) (parent : Uid) → n ≤ m → StandsFor named queue n up parent → StandsFor named (queue ++ more) m up parent
stands_still named queue more n m None parent l s = s
stands_still named queue more n m (Some j) parent l (k, d, low, at, is, dir, uid) = (k, d, omega arith, get_append queue more j k at, is, dir, uid)

-- more is found in one directory
hung_more : (named : List Update) (queue : List ℕ) (above : List (Option ℕ)) (added : List ℕ) (count : ℕ) (up : Option ℕ) (parent : Uid)
    → AreHung named queue above → StandsFor named queue (length queue) up parent → length (queue ++ added) ≡ length queue + count
    → ((k : ℕ) (u : Update) → In k added → slice_get named k ≡ Some u → u.parent ≡ parent)
    → AreHung named (queue ++ added) (above ++ replicate count up)
hung_more named queue above added count up parent hung stands longer each = record {
  long = let a = length-append above (replicate count up) in let r = length-replicate count up in omega (arith, hung.long);
  each = λ n k u up' at is there. by n k u up' at is there (below_or n (length queue));
}
  where
    below_or : (n m : ℕ) → (n < m) ⊎ (m ≤ n)
    below_or n zero = inr (omega arith)
    below_or zero (suc m) = inl (omega arith)
    below_or (suc n) (suc m) = elim (below_or n m) [ inl l ↦ inl (omega arith) | inr l ↦ inr (omega arith) ]

    by : (n k : ℕ) (u : Update) (up' : Option ℕ) → slice_get (queue ++ added) n ≡ Some k → slice_get named k ≡ Some u → slice_get (above ++ replicate count up) n ≡ Some up'
        → (n < length queue) ⊎ (length queue ≤ n) → StandsFor named (queue ++ added) n up' u.parent
    by n k u up' at is there (inl l) =
        stands_still named queue added n n up' u.parent (omega arith)
        (hung.each n k u up' (sym (get_front queue added n l) ∙ at) is (sym (get_front above (replicate count up) n (omega (arith, hung.long))) ∙ there))
    by n k u up' at is there (inr l) =
        let same = in_replicate count up up' (get_behind above (replicate count up) n up' there (omega (arith, hung.long))) in
        let inside = each k u (get_behind queue added n k at l) is in
        subst (λ o. StandsFor named (queue ++ added) n o u.parent) (sym same)
        (subst (λ p. StandsFor named (queue ++ added) n up p) (sym inside) (stands_still named queue added (length queue) n up parent l stands))

hung_on : (named : List Update) (parent : Uid) (up : Option ℕ) (flags : List Bool) (queue : List ℕ) (above : List (Option ℕ)) (flags' : List Bool) (queue' : List ℕ) (above' : List (Option ℕ))
    → AreHung named queue above → StandsFor named queue (length queue) up parent → Reaches named parent flags queue flags' queue' → HangsMore up queue above queue' above' → AreHung named queue' above'
hung_on named parent up flags queue above flags' queue' above' hung stands r h =
    subst (λ q. AreHung named q above') (sym r.behind) (subst (AreHung named (queue ++ r.added)) (sym h.behind)
    (hung_more named queue above r.added h.count up parent hung stands (ap length (sym r.behind) ∙ h.longer) r.each))

-- ---- the steps

pub starts : (named : List Update) (flags : List Bool) (queue : List ℕ) (above : List (Option ℕ)) (flags' : List Bool) (queue' : List ℕ) (above' : List (Option ℕ))
    → length queue ≡ 0 → length above ≡ 0
    → AreFlagged (length named) flags' queue' → HasChildren named root_uid flags' → Reaches named root_uid flags queue flags' queue' → HangsMore None queue above queue' above' → Descending named 0 flags' queue' above'
starts named flags queue above flags' queue' above' none none_above flagged roots r h = record {
  flagged = flagged;
  roots = roots;
  below = λ i k u l. absurd (omega arith);
  shown = λ records names k u h e. elim (in_either queue r.added k (subst (λ q. In k q) r.behind h)) [
    | inl j ↦ absurd (nothing queue none k j)
    | inr j ↦ (1, (names u (got_in named k u e), inl (r.each k u j e)))
  ];
  hung = hung_on named root_uid None flags queue above flags' queue' above' (record { long = none_above ∙ sym none; each = λ n k u up at. absurd (nothing queue none k (got_in queue n k at)) }) refl r h;
}
  where
    nothing : (q : List ℕ) → length q ≡ 0 → (k : ℕ) → In k q → ⊥
    nothing [] e k h = h
    nothing (j ∷ q) e k h = absurd (omega arith)

pub passes : (named : List Update) (next : ℕ) (flags : List Bool) (queue : List ℕ) (above : List (Option ℕ)) (k : ℕ) (u : Update) → Descending named next flags queue above → slice_get queue next ≡ Some k → slice_get named k ≡ Some u
    → is_directory u ≡ false → Descending named (next + 1) flags queue above
passes named next flags queue above k u d at is file = record {
  flagged = d.flagged;
  roots = d.roots;
  below = λ i j v l e s dir. elim (upto i next l) [
    | inl before ↦ d.below i j v before e s dir
    | inr same ↦ absurd (not_this i j v same e s dir)
  ];
  shown = d.shown;
  hung = d.hung;
}
  where
    not_this : (i j : ℕ) (v : Update) → i ≡ next → slice_get queue i ≡ Some j → slice_get named j ≡ Some v → is_directory v ≡ true → ⊥
    not_this i j v same e s dir =
        let place : j ≡ k = one_value j k (sym e ∙ ap (λ n. slice_get queue n) same ∙ at) in
        let one : v ≡ u = one_value v u (sym s ∙ ap (λ n. slice_get named n) place ∙ is) in
        let both : true ≡ false = sym dir ∙ ap is_directory one ∙ file in
        cc

pub enters : (named : List Update) (next : ℕ) (flags : List Bool) (queue : List ℕ) (above : List (Option ℕ)) (k : ℕ) (u : Update) (flags' : List Bool) (queue' : List ℕ) (above' : List (Option ℕ))
    → Descending named next flags queue above
    → slice_get queue next ≡ Some k → slice_get named k ≡ Some u → is_directory u ≡ true
    → AreFlagged (length named) flags' queue' → HasChildren named u.uid flags' → Reaches named u.uid flags queue flags' queue' → HangsMore (Some next) queue above queue' above'
    → Descending named (next + 1) flags' queue' above'
enters named next flags queue above k u flags' queue' above' d at is dir flagged children r h = record {
  flagged = flagged;
  roots = λ j v e p. r.stay j (d.roots j v e p);
  below = λ i j v l e s dir'.
      let here : slice_get queue i ≡ Some j = sym (get_front queue r.added i (let w = slice_get_within queue next k at in omega arith)) ∙ ap (λ q. slice_get q i) (sym r.behind) ∙ e in
      elim (upto i next l) [
        | inl before ↦ λ m w f p. r.stay m (d.below i j v before here s dir' m w f p)
        | inr same ↦ this i j v same here s
      ];
  shown = λ records names j v h e. elim (in_either queue r.added j (subst (λ q. In j q) r.behind h)) [
    | inl old ↦ d.shown records names j v old e
    | inr new ↦
        let up = d.shown records names k u (got_in queue next k at) is in
        (suc up.0, (names v (got_in named j v e), inr (u, sym (r.each j v new e), dir, up.1)))
  ];
  hung = hung_on named u.uid (Some next) flags queue above flags' queue' above' d.hung (k, u, slice_get_within queue next k at, at, is, dir, refl) r h;
}
  where
    this : (i j : ℕ) (v : Update) → i ≡ next → slice_get queue i ≡ Some j → slice_get named j ≡ Some v → HasChildren named v.uid flags'
    this i j v same e s =
        let place : j ≡ k = one_value j k (sym e ∙ ap (λ n. slice_get queue n) same ∙ at) in
        let one : v ≡ u = one_value v u (sym s ∙ ap (λ n. slice_get named n) place ∙ is) in
        subst (λ w. HasChildren named w.uid flags') (sym one) children

pub ends : (named : List Update) (next : ℕ) (flags : List Bool) (queue : List ℕ) (above : List (Option ℕ)) → Descending named next flags queue above → length queue ≤ next → Descends named flags queue above
ends named next flags queue above d all = record {
  flagged = d.flagged;
  roots = d.roots;
  below = λ k u h. let (i, e) = in_got queue k h in d.below i k u (let w = slice_get_within queue i k e in omega arith) e;
  shown = d.shown;
  hung = d.hung;
}

-- ---- each that is shown is found

pub finds : (records named : List Update) (flags : List Bool) (queue : List ℕ) (above : List (Option ℕ)) → AreNamed records named → Descends named flags queue above → (u : Update) → IsShown (Among records) u
    → (k : ℕ) × In k queue × (slice_get named k ≡ Some u)
finds records named flags queue above names d u (n, shown) = go n u shown
  where
    go : (n : ℕ) (u : Update) → ShownBy (Among records) n u → (k : ℕ) × In k queue × (slice_get named k ≡ Some u)
    go zero u h = absurd h
    go (suc n) u (name, inl root) =
        let (k, at) = in_got named u (names.whole u name) in
        (k, d.flagged.whole k (d.roots k u at root), at)
    go (suc n) u (name, inr (p, is, dir, up)) =
        let (k, at) = in_got named u (names.whole u name) in
        let (j, there, here) = go n p up in
        (k, d.flagged.whole k (d.below j p there here dir k u at (sym is)), at)

-- Each change leaves a tree.
use Rattle.std.proofs.Common.{◌≡◌, ◌≢◌, ◌<◌, ◌≤◌, ◌||◌, ◌&&◌, not, ◌⊎◌, inl, inr, ℕ, zero, suc, Bool, true, false, cond, eqb, List, [], ◌∷◌, ◌++◌, length, Option, Some, None, refl, sym, ap, ◌∙◌, subst, arith}
use Rattle.std.proofs.lemmas.Bool.Decides.{nat_tests, eqb_tells}
use Rattle.std.specs.Prelude.{option_map}
use Rattle.std.proofs.lemmas.Bool.{false≢true}
use Rattle.frs_base.specs.Names.{matches}
use Rattle.vol_state.specs.declared.object.Object.{Object}
use Rattle.frs_base.specs.Options.{some_is, none_or, In}
use Rattle.vol_state.specs.Places.{object_at, above, above_it, is_under, ends_in, is_directory, is_directory_at, is_child, has_children}
use Rattle.vol_state.specs.Tree.{AreRising, IsHome, Ends, IsTree}
use Rattle.vol_state.specs.Effects.{edit, without}
use Rattle.vol_state.proofs.Climbing.{by_cases, differ, Agree, ends_agree, avoids_in}
use Rattle.vol_state.proofs.Finding.{at_edit_other, at_edit_same, at_without_other, at_without_same, at_low, at_push_other, at_in, in_above}
use Rattle.vol_state.proofs.Bounds.{bounded}

-- members after a change
pub in_push : (b n : Object) (os : List Object) → In b (os ++ n ∷ []) → In b os ⊎ (b ≡ n)
in_push b n [] i = by_cases i (λ e. inr e) (λ j. absurd j)
in_push b n (o ∷ os) i = by_cases i (λ e. inl (inl e)) (λ j. by_cases (in_push b n os j) (λ k. inl (inr k)) (λ e. inr e))

pub in_edit : (f : Object → Object) (fid : ℕ) (o : Object) (b : Object) (low : ℕ) (os : List Object) → AreRising low os → object_at os fid ≡ Some o → In b (edit fid f os) → (b ≡ f o) ⊎ (In b os × (b.fid ≢ fid))
in_edit f fid o b low [] r e i = absurd i
in_edit f fid o b low (x ∷ os) r e i =
    by_cases (eqb_tells x.fid fid)
    (λ t. let s : x ≡ o = some_same x o (sym (ap (λ b. cond b (Some x) (object_at os fid)) t.0) ∙ e) in
    let j : In b (f x ∷ os) = subst (In b) (ap (λ c. cond c (f x ∷ os) (x ∷ edit fid f os)) t.0) i in
    by_cases j
    (λ is. inl (is ∙ ap f s))
    (λ k. inr (inr k, λ q. omega (arith, in_above x.fid b os r.1 k, q, t.1))))
    (λ t. let e' : object_at os fid ≡ Some o = sym (ap (λ b. cond b (Some x) (object_at os fid)) t.0) ∙ e in
    let j : In b (x ∷ edit fid f os) = subst (In b) (ap (λ c. cond c (f x ∷ os) (x ∷ edit fid f os)) t.0) i in
    by_cases j
    (λ is. inr (inl is, λ q. t.1 (ap (λ y. y.fid) (sym is) ∙ q)))
    (λ k. by_cases (in_edit f fid o b x.fid os r.1 e' k) (λ is. inl is) (λ w. inr (inr w.0, w.1))))
  where
    some_same : (a b : Object) → Some a ≡ Some b → a ≡ b
    some_same a b e = cc

pub in_without : (fid : ℕ) (b : Object) (low : ℕ) (os : List Object) → AreRising low os → In b (without fid os) → In b os × (b.fid ≢ fid)
in_without fid b low [] r i = absurd i
in_without fid b low (x ∷ os) r i =
    by_cases (eqb_tells x.fid fid)
    (λ t. let j : In b os = subst (In b) (ap (λ c. cond c os (x ∷ without fid os)) t.0) i in
    (inr j, λ q. omega (arith, in_above x.fid b os r.1 j, q, t.1)))
    (λ t. let j : In b (x ∷ without fid os) = subst (In b) (ap (λ c. cond c os (x ∷ without fid os)) t.0) i in
    by_cases j
    (λ is. (inl is, λ q. t.1 (ap (λ y. y.fid) (sym is) ∙ q)))
    (λ k. let w = in_without fid b x.fid os r.1 k in (inr w.0, w.1)))

-- fids rise
pub rising_push : (n : Object) (low : ℕ) (os : List Object) → AreRising low os → low < n.fid → ((o : Object) → In o os → o.fid < n.fid) → AreRising low (os ++ n ∷ [])
rising_push n low [] r l h = (l, tt)
rising_push n low (o ∷ os) r l h = (r.0, rising_push n o.fid os r.1 (h o (inl refl)) (λ x i. h x (inr i)))

pub rising_edit : (f : Object → Object) → ((o : Object) → (f o).fid ≡ o.fid) → (fid low : ℕ) (os : List Object) → AreRising low os → AreRising low (edit fid f os)
rising_edit f keeps fid low [] r = tt
rising_edit f keeps fid low (o ∷ os) r =
    by_cases (eqb_tells o.fid fid)
    (λ t. let h : AreRising (f o).fid os = subst (λ n. AreRising n os) (sym (keeps o)) r.1 in
    rw t.0 (omega (arith, r.0, keeps o), h))
    (λ t. rw t.0 (r.0, rising_edit f keeps fid o.fid os r.1))

rising_lower : (low low' : ℕ) (os : List Object) → low' ≤ low → AreRising low os → AreRising low' os
rising_lower low low' [] le r = tt
rising_lower low low' (o ∷ os) le r = (omega (arith, r.0, le), r.1)

pub rising_without : (fid low : ℕ) (os : List Object) → AreRising low os → AreRising low (without fid os)
rising_without fid low [] r = tt
rising_without fid low (o ∷ os) r =
    by_cases (eqb_tells o.fid fid)
    (λ t. rw t.0 (rising_lower o.fid low os (omega (arith, r.0)) r.1))
    (λ t. rw t.0 (r.0, rising_without fid o.fid os r.1))

-- directories stay
home_as : (old new : List Object) (place : Option (ℕ × List ℕ)) → ((x : ℕ) → is_directory_at old x ≡ true → is_directory_at new x ≡ true) → IsHome old place → IsHome new place
home_as old new None h p = tt
home_as old new (Some place) h p = h place.0 p

-- an object is left for good that has nothing beneath it
pub beneath : (fid : ℕ) (b : Object) (os : List Object) → has_children os fid ≡ false → In b os → some_is (λ p. eqb p.0 fid) b.place ≡ false
beneath fid b [] h i = absurd i
beneath fid b (o ∷ os) h i = go (some_is (λ p. eqb p.0 fid) o.place) refl h (beneath fid b os)
  where
    go : (c : Bool) → some_is (λ p. eqb p.0 fid) o.place ≡ c → (c || has_children os fid) ≡ false → (has_children os fid ≡ false → In b os → some_is (λ p. eqb p.0 fid) b.place ≡ false) → some_is (λ p. eqb p.0 fid) b.place ≡ false
    go true e h more = absurd (cc)
    go false e h more = by_cases i (λ is. ap (λ y. some_is (λ p. eqb p.0 fid) y.place) is ∙ e) (λ j. more h j)

pub away : (a b : ℕ) → eqb a b ≡ false → a ≢ b
away a b e q = grind (arith, nat_tests)

pub tree_without : (fid : ℕ) (os : List Object) → has_children os fid ≡ false → IsTree os → IsTree (without fid os)
tree_without fid os bare t =
    let rising = rising_without fid 0 os t.rising in
    let same : Agree os (without fid os) fid = λ x d. ap above_it (at_without_other fid x d os) in
    let end : Ends (without fid os) fid = (1, ap (λ o. none_or (ends_in (without fid os) 0) (above_it o)) (at_without_same 0 fid os t.rising)) in
    let inside : (o : Object) → In o (without fid os) → In o os × (o.fid ≢ fid) = λ o i. in_without fid o 0 os t.rising i in
    record {
      rising = rising;
      homes = λ o i. home o.place (t.homes o (inside o i).0) (beneath fid o os bare (inside o i).0);
      ends = λ o i. let r = t.ends o (inside o i).0 in ends_agree os (without fid os) fid same end r.0 o.fid r.1;
      apart = λ a b parent name i j. t.apart a b parent name (inside a i).0 (inside b j).0;
    }
  where
    home : (place : Option (ℕ × List ℕ)) → IsHome os place → some_is (λ p. eqb p.0 fid) place ≡ false → IsHome (without fid os) place
    home None h e = tt
    home (Some p) h e =
        let d : p.0 ≢ fid = λ q. away p.0 fid e q in
        ap (λ o. eqb p.0 0 || some_is (λ o. is_directory o.kind) o) (at_without_other fid p.0 d os) ∙ h

-- what an edit of the object at fid has to show
pub record Fits (os : List Object) (fid : ℕ) (f : Object → Object) (o : Object) : Type 0 where
  pub keeps_fid : (x : Object) → (f x).fid ≡ x.fid
  pub keeps_kind : (x : Object) → (f x).kind ≡ x.kind
  pub at : object_at os fid ≡ Some o
  pub home : IsHome os (f o).place
  pub end : Ends (edit fid f os) fid
  pub alone : (b : Object) (parent : ℕ) (name : List ℕ) → In b os → is_child parent name (f o) ≡ true → is_child parent name b ≡ true → b.fid ≡ fid

edit_directory : (f : Object → Object) (fid : ℕ) (os : List Object) (o : Object) → Fits os fid f o → (x : ℕ) → is_directory_at os x ≡ true → is_directory_at (edit fid f os) x ≡ true
edit_directory f fid os o h x e =
    by_cases (eqb_tells x fid)
    (λ t. let was : object_at os x ≡ Some o = ap (object_at os) t.1 ∙ h.at in
    let is : object_at (edit fid f os) x ≡ Some (f o) = ap (object_at (edit fid f os)) t.1 ∙ at_edit_same f h.keeps_fid fid o os h.at in
    ap (λ y. eqb x 0 || some_is (λ o. is_directory o.kind) y) is
    ∙ ap (λ k. eqb x 0 || is_directory k) (h.keeps_kind o)
    ∙ sym (ap (λ y. eqb x 0 || some_is (λ o. is_directory o.kind) y) was) ∙ e)
    (λ t. ap (λ y. eqb x 0 || some_is (λ o. is_directory o.kind) y) (at_edit_other f h.keeps_fid fid x t.1 os) ∙ e)

pub tree_edit : (f : Object → Object) (fid : ℕ) (os : List Object) (o : Object) → Fits os fid f o → IsTree os → IsTree (edit fid f os)
tree_edit f fid os o h t =
    let same : Agree os (edit fid f os) fid = λ x d. ap above_it (at_edit_other f h.keeps_fid fid x d os) in
    let homes_of : (place : Option (ℕ × List ℕ)) → IsHome os place → IsHome (edit fid f os) place = λ place p. home_as os (edit fid f os) place (edit_directory f fid os o h) p in
    let inside : (b : Object) → In b (edit fid f os) → (b ≡ f o) ⊎ (In b os × (b.fid ≢ fid)) = λ b i. in_edit f fid o b 0 os t.rising h.at i in
    let fid_is : (f o).fid ≡ fid = h.keeps_fid o ∙ (at_in fid o os h.at).1 in
    record {
      rising = rising_edit f h.keeps_fid fid 0 os t.rising;
      homes = λ b i. by_cases (inside b i)
          (λ e. homes_of b.place (subst (λ y. IsHome os y.place) (sym e) h.home))
          (λ w. homes_of b.place (t.homes b w.0));
      ends = λ b i. by_cases (inside b i)
          (λ e. subst (Ends (edit fid f os)) (sym (ap (λ y. y.fid) e ∙ fid_is)) h.end)
          (λ w. let r = t.ends b w.0 in ends_agree os (edit fid f os) fid same h.end r.0 b.fid r.1);
      apart = λ a b parent name i j u v. by_cases (inside a i)
          (λ e. by_cases (inside b j)
          (λ k. e ∙ sym k)
          (λ w. absurd (w.1 (h.alone b parent name w.0 (subst (λ y. is_child parent name y ≡ true) e u) v))))
          (λ w. by_cases (inside b j)
          (λ k. absurd (w.1 (h.alone a parent name w.0 (subst (λ y. is_child parent name y ≡ true) k v) u)))
          (λ z. t.apart a b parent name w.0 z.0 u v));
    }

-- a directory ends
pub ends_directory : (os : List Object) → IsTree os → (p : ℕ) → is_directory_at os p ≡ true → Ends os p
ends_directory os t p e =
    by_cases (eqb_tells p 0)
    (λ z. (1, ap (λ o. none_or (ends_in os 0) (above_it o)) (at_low 0 p (omega (arith, z.1)) os t.rising)))
    (λ z. go (object_at os p) refl (sym (ap (λ b. b || some_is (λ o. is_directory o.kind) (object_at os p)) z.0) ∙ e))
  where
    go : (a : Option Object) → object_at os p ≡ a → some_is (λ o. is_directory o.kind) (object_at os p) ≡ true → Ends os p
    go None a e = absurd (cc)
    go (Some o) a e = let i = at_in p o os a in subst (Ends os) i.1 (t.ends o i.0)

above_home : (os : List Object) → IsTree os → (x q : ℕ) → above os x ≡ Some q → is_directory_at os q ≡ true
above_home os t x q e = go (object_at os x) refl e
  where
    of : (place : Option (ℕ × List ℕ)) → option_map (λ p. p.0) place ≡ Some q → IsHome os place → is_directory_at os q ≡ true
    of None e h = absurd (cc)
    of (Some p) e h = let s : p.0 ≡ q = cc in subst (λ y. is_directory_at os y ≡ true) s h

    go : (a : Option Object) → object_at os x ≡ a → above_it a ≡ Some q → is_directory_at os q ≡ true
    go None a e = absurd (cc)
    go (Some o) a e = of o.place e (t.homes o (at_in x o os a).0)

-- nothing stands beneath what isn't there
pub never_under : (os : List Object) → IsTree os → (a : ℕ) → a ≢ 0 → object_at os a ≡ None → (n x : ℕ) → is_directory_at os x ≡ true → is_under os n a x ≡ false
never_under os t a nz none n x e = go n x e (differ x a (λ q. not_there (subst (λ y. is_directory_at os y ≡ true) q e)))
  where
    not_there : is_directory_at os a ≡ true → ⊥
    not_there h =
        let k : (eqb a 0 || some_is (λ o. is_directory o.kind) (object_at os a)) ≡ false = ap (λ b. b || some_is (λ o. is_directory o.kind) (object_at os a)) (differ a 0 nz) ∙ ap (some_is (λ o. is_directory o.kind)) none in
        false≢true (sym k ∙ h)

    up : (n : ℕ) (x : ℕ) → (u : Option ℕ) → above os x ≡ u → ((q : ℕ) → above os x ≡ Some q → is_under os n a q ≡ false) → some_is (is_under os n a) (above os x) ≡ false
    up n x None u more = ap (some_is (is_under os n a)) u
    up n x (Some q) u more = ap (some_is (is_under os n a)) u ∙ more q u

    go : (n x : ℕ) → is_directory_at os x ≡ true → eqb x a ≡ false → is_under os n a x ≡ false
    go zero x e d = d
    go (suc n) x e d =
        ap (λ b. b || some_is (is_under os n a) (above os x)) d
        ∙ up n x (above os x) refl (λ q u. let h = above_home os t x q u in go n q h (differ q a (λ s. not_there (subst (λ y. is_directory_at os y ≡ true) s h))))

pub tree_contents : (f : Object → Object) (fid : ℕ) (os : List Object) (o : Object) → ((x : Object) → (f x).fid ≡ x.fid) → ((x : Object) → (f x).kind ≡ x.kind) → ((x : Object) → (f x).place ≡ x.place)
    → object_at os fid ≡ Some o → IsTree os → IsTree (edit fid f os)
tree_contents f fid os o keeps_fid keeps_kind keeps_place at t =
    let i = at_in fid o os at in
    let new = edit fid f os in
    let all : (x : ℕ) → above new x ≡ above os x = λ x. by_cases (eqb_tells x fid)
    (λ z. ap above_it (ap (object_at new) z.1 ∙ at_edit_same f keeps_fid fid o os at) ∙ ap (option_map (λ p. p.0)) (keeps_place o) ∙ sym (ap above_it (ap (object_at os) z.1 ∙ at)))
    (λ z. ap above_it (at_edit_other f keeps_fid fid x z.1 os)) in
    let root : Ends new 0 = (1, ap (λ o. none_or (ends_in new 0) (above_it o)) (at_low 0 0 (omega arith) new (rising_edit f keeps_fid fid 0 os t.rising))) in
    let was = t.ends o i.0 in
    let child_is : (parent : ℕ) (name : List ℕ) → is_child parent name (f o) ≡ is_child parent name o = λ parent name. ap (some_is (λ p. eqb p.0 parent && matches p.1 name)) (keeps_place o) in
    tree_edit f fid os o (record {
      keeps_fid = keeps_fid;
      keeps_kind = keeps_kind;
      at = at;
      home = subst (IsHome os) (sym (keeps_place o)) (t.homes o i.0);
      end = subst (Ends new) i.1 (ends_agree os new 0 (λ x d. all x) root was.0 o.fid was.1);
      alone = λ b parent name j u v. ap (λ y. y.fid) (sym (t.apart o b parent name i.0 j (sym (child_is parent name) ∙ u) v)) ∙ i.1;
    }) t

pub tree_park : (f : Object → Object) (fid : ℕ) (os : List Object) (o : Object) → ((x : Object) → (f x).fid ≡ x.fid) → ((x : Object) → (f x).kind ≡ x.kind) → ((x : Object) → (f x).place ≡ None)
    → object_at os fid ≡ Some o → IsTree os → IsTree (edit fid f os)
tree_park f fid os o keeps_fid keeps_kind parks at t =
    let new = edit fid f os in
    tree_edit f fid os o (record {
      keeps_fid = keeps_fid;
      keeps_kind = keeps_kind;
      at = at;
      home = subst (IsHome os) (sym (parks o)) tt;
      end = (1, ap (λ o. none_or (ends_in new 0) (above_it o)) (at_edit_same f keeps_fid fid o os at) ∙ ap (λ p. none_or (ends_in new 0) (option_map (λ p. p.0) p)) (parks o));
      alone = λ b parent name j u v. absurd (false≢true (sym (ap (some_is (λ p. eqb p.0 parent && matches p.1 name)) (parks o)) ∙ u));
    }) t

-- where matching names stand alone
abbrev pub IsFree : List Object → ℕ → ℕ → List ℕ → Type 0
IsFree os fid parent name = (b : Object) → In b os → is_child parent name b ≡ true → b.fid ≡ fid

pub tree_stand : (f : Object → Object) (fid : ℕ) (os : List Object) (o : Object) (parent : ℕ) (name : List ℕ) → ((x : Object) → (f x).fid ≡ x.fid) → ((x : Object) → (f x).kind ≡ x.kind) → ((x : Object) → (f x).place ≡ Some (parent, name))
    → object_at os fid ≡ Some o → is_directory_at os parent ≡ true → is_under os (length os) fid parent ≡ false
    → ((b : Object) (at : ℕ) (as_ : List ℕ) → In b os → (eqb parent at && matches name as_) ≡ true → is_child at as_ b ≡ true → b.fid ≡ fid) → IsTree os → IsTree (edit fid f os)
tree_stand f fid os o parent name keeps_fid keeps_kind stands at directory off alone t =
    let new = edit fid f os in
    let same : Agree os new fid = λ x d. ap above_it (at_edit_other f keeps_fid fid x d os) in
    let end = ends_directory os t parent directory in
    let short = bounded os end.0 parent end.1 in
    let kept : ends_in new short.0 parent ≡ true = avoids_in os new fid same short.0 (length os) parent off short.2 short.1 in
    tree_edit f fid os o (record {
      keeps_fid = keeps_fid;
      keeps_kind = keeps_kind;
      at = at;
      home = subst (IsHome os) (sym (stands o)) directory;
      end = (suc short.0, ap (λ o. none_or (ends_in new short.0) (above_it o)) (at_edit_same f keeps_fid fid o os at) ∙ ap (λ p. none_or (ends_in new short.0) (option_map (λ p. p.0) p)) (stands o) ∙ kept);
      alone = λ b at as_ j u v. alone b at as_ j (sym (ap (some_is (λ p. eqb p.0 at && matches p.1 as_)) (stands o)) ∙ u) v;
    }) t

push_directory : (n : Object) (os : List Object) → object_at os n.fid ≡ None → n.fid ≢ 0 → (x : ℕ) → is_directory_at os x ≡ true → is_directory_at (os ++ n ∷ []) x ≡ true
push_directory n os none nz x e =
    by_cases (eqb_tells x n.fid)
    (λ z. absurd (false≢true (sym (ap (λ b. b || some_is (λ o. is_directory o.kind) (object_at os x)) (differ x 0 (λ q. nz (sym z.1 ∙ q))) ∙ ap (some_is (λ o. is_directory o.kind)) (ap (object_at os) z.1 ∙ none)) ∙ e)))
    (λ z. ap (λ y. eqb x 0 || some_is (λ o. is_directory o.kind) y) (at_push_other n x z.1 os) ∙ e)

pub at_new : (n : Object) (os : List Object) → object_at os n.fid ≡ None → object_at (os ++ n ∷ []) n.fid ≡ Some n
at_new n [] e = let s : eqb n.fid n.fid ≡ true = grind (arith, nat_tests) in rw s refl
at_new n (o ∷ os) e = go (eqb o.fid n.fid) refl (at_new n os)
  where
    go : (b : Bool) → eqb o.fid n.fid ≡ b → (object_at os n.fid ≡ None → object_at (os ++ n ∷ []) n.fid ≡ Some n) → object_at (o ∷ os ++ n ∷ []) n.fid ≡ Some n
    go true h more = absurd (cc)
    go false h more = rw h (more (sym (ap (λ b. cond b (Some o) (object_at os n.fid)) h) ∙ e))

not_there_above : (fid : ℕ) (os : List Object) → ((o : Object) → In o os → o.fid < fid) → object_at os fid ≡ None
not_there_above fid [] h = refl
not_there_above fid (o ∷ os) h = rw (differ o.fid fid (λ e. omega (arith, e, h o (inl refl)))) (not_there_above fid os (λ x i. h x (inr i)))

pub tree_push : (n : Object) (os : List Object) → 0 < n.fid → ((o : Object) → In o os → o.fid < n.fid) → IsHome os n.place
    → ((b : Object) (parent : ℕ) (name : List ℕ) → In b os → is_child parent name n ≡ true → is_child parent name b ≡ true → ⊥) → IsTree os → IsTree (os ++ n ∷ [])
tree_push n os pos above_all home alone t =
    let new = os ++ n ∷ [] in
    let nz : n.fid ≢ 0 = λ e. omega (arith, e, pos) in
    let none : object_at os n.fid ≡ None = not_there_above n.fid os above_all in
    let same : Agree os new n.fid = λ x d. ap above_it (at_push_other n x d os) in
    let is : object_at new n.fid ≡ Some n = at_new n os none in
    let end : Ends new n.fid = ends_at n.place refl home none nz same is in
    record {
      rising = rising_push n 0 os t.rising pos above_all;
      homes = λ b i. by_cases (in_push b n os i)
          (λ j. home_as os new b.place (push_directory n os none nz) (t.homes b j))
          (λ e. home_as os new b.place (push_directory n os none nz) (subst (λ y. IsHome os y.place) (sym e) home));
      ends = λ b i. by_cases (in_push b n os i)
          (λ j. let r = t.ends b j in ends_agree os new n.fid same end r.0 b.fid r.1)
          (λ e. subst (λ y. Ends new y.fid) (sym e) end);
      apart = λ a b parent name i j u v. by_cases (in_push a n os i)
          (λ k. by_cases (in_push b n os j)
          (λ l. t.apart a b parent name k l u v)
          (λ e. absurd (alone a parent name k (subst (λ y. is_child parent name y ≡ true) e v) u)))
          (λ e. by_cases (in_push b n os j)
          (λ l. absurd (alone b parent name l (subst (λ y. is_child parent name y ≡ true) e u) v))
          (λ l. e ∙ sym l));
    }
  where
    ends_at : (place : Option (ℕ × List ℕ)) → n.place ≡ place → IsHome os place → object_at os n.fid ≡ None → n.fid ≢ 0 → Agree os (os ++ n ∷ []) n.fid → object_at (os ++ n ∷ []) n.fid ≡ Some n → Ends (os ++ n ∷ []) n.fid
    ends_at None p h none nz same is = (1, ap (λ o. none_or (ends_in (os ++ n ∷ []) 0) (above_it o)) is ∙ ap (λ p. none_or (ends_in (os ++ n ∷ []) 0) (option_map (λ p. p.0) p)) p)
    ends_at (Some place) p h none nz same is =
        let r = ends_directory os t place.0 h in
        let kept = avoids_in os (os ++ n ∷ []) n.fid same r.0 r.0 place.0 (never_under os t n.fid nz none r.0 place.0 h) r.1 (omega arith) in
        (suc r.0, ap (λ o. none_or (ends_in (os ++ n ∷ []) r.0) (above_it o)) is ∙ ap (λ p. none_or (ends_in (os ++ n ∷ []) r.0) (option_map (λ p. p.0) p)) p ∙ kept)

-- nothing stands in a file
pub none_in_file : (os : List Object) (fid : ℕ) → IsTree os → fid ≢ 0 → some_is (λ o. not (is_directory o.kind)) (object_at os fid) ≡ true → has_children os fid ≡ false
none_in_file os fid t nz file = any os (λ o i. t.homes o i)
  where
    closed : (a : Option Object) → some_is (λ o. not (is_directory o.kind)) a ≡ true → some_is (λ o. is_directory o.kind) a ≡ false
    closed None e = absurd (cc)
    closed (Some o) e = go (is_directory o.kind) refl e
      where
        go : (b : Bool) → is_directory o.kind ≡ b → not b ≡ true → is_directory o.kind ≡ false
        go true d e = absurd (cc)
        go false d e = d

    none : is_directory_at os fid ≡ false
    none = ap (λ b. b || some_is (λ o. is_directory o.kind) (object_at os fid)) (differ fid 0 nz) ∙ closed (object_at os fid) file

    elsewhere : (place : Option (ℕ × List ℕ)) → IsHome os place → some_is (λ p. eqb p.0 fid) place ≡ false
    elsewhere None h = refl
    elsewhere (Some p) h = differ p.0 fid (λ e. false≢true (sym none ∙ ap (is_directory_at os) (sym e) ∙ h))

    any : (xs : List Object) → ((o : Object) → In o xs → IsHome os o.place) → has_children xs fid ≡ false
    any [] h = refl
    any (x ∷ xs) h = ap (λ b. b || has_children xs fid) (elsewhere x.place (h x (inl refl))) ∙ any xs (λ o i. h o (inr i))

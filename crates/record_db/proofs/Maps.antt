-- Records under the keys of maps, and as lists.
use Rattle.std.proofs.Common.{◌≡◌, ◌≢◌, ◌⊎◌, ◌∙◌, ◌+◌, ◌++◌, ◌<◌, length, take, ℕ, zero, suc, Bool, true, false, not, cond, List, [], ◌∷◌, Option, Some, None, inl, inr, refl, sym, ap, subst, arith}
use Rattle.std.specs.Prelude.{MatchOption, find, option_map, slice_get}
use Rattle.std.specs.List.{AllByRecursion}
use Rattle.std.specs.Cmp.{IsTotalOrder}
use Rattle.std.specs.Ordering.{is_eq, is_le, is_lt, match_ordering, nat_cmp, ordering_reverse, ordering_then}
use Rattle.std.specs.declared.cmp.Ordering.{Ordering}
use Rattle.std.specs.declared.cmp.Ordering.TheVariants.{Less, Equal, Greater}
use Rattle.std.specs.Map.{lookup, remove_entry, values_of}
use Rattle.std.specs.BTreeMap.{insert_entry, is_at}
use Rattle.std.proofs.lemmas.Bool.Decides.{nat_tests}
use Rattle.std.proofs.lemmas.Cmp.{nat_cmp_total, on_total, then_total}
use Rattle.frs_base.specs.Options.{In}
use Rattle.frs_base.specs.Versions.{gvsn_lt, same_gvsn, same_uid, uid_lt}
use Rattle.frs_base.specs.declared.version.Gvsn.{Gvsn}
use Rattle.frs_base.specs.declared.version.Uid.{Uid}
use Rattle.frs_pmap.specs.Entries.{is_above, is_from}
use Rattle.frs_pmap.specs.Entries as entries
use Rattle.frs_pmap.proofs.Orders.{rising_less, rising_put}
use Rattle.win_order.specs.declared.update.Update.{Update}
use Rattle.record_db.specs.Lists.{IsRising, put_record}
use Rattle.record_db.specs.Maps.{AreFiled, AreUnder, IsFirstFrom, gvsn_cmp, uid_cmp}
use Rattle.record_db.proofs.Keys.{same_gvsn_is, same_gvsn_refl, same_uid_is}
use Rattle.record_db.proofs.Lists.{find_at, find_in}
use Rattle.record_db.proofs.Lists as lists

-- ---- the orders of keys

pub uids_are_ordered : IsTotalOrder uid_cmp
uids_are_ordered = then_total (on_total (λ (u : Uid). u.db) nat_cmp_total) (on_total (λ (u : Uid). u.version) nat_cmp_total)

pub gvsns_are_ordered : IsTotalOrder gvsn_cmp
gvsns_are_ordered = then_total (on_total (λ (g : Gvsn). g.db) nat_cmp_total) (on_total (λ (g : Gvsn). g.version) nat_cmp_total)

uid_tests : (a b : Uid) {X : Type 0} (low same high : X) → match_ordering (uid_cmp a b) low same high ≡ cond (uid_lt b a) high (cond (same_uid b a) same low)
uid_tests a b low same high = grind (arith, nat_tests)

pub uid_level : (a b : Uid) → is_eq (uid_cmp a b) ≡ same_uid b a
uid_level a b = grind (arith, nat_tests)

gvsn_level : (a b : Gvsn) → is_eq (gvsn_cmp a b) ≡ same_gvsn b a
gvsn_level a b = grind (arith, nat_tests)

pub one_uid : (a b : Uid) → uid_cmp a b ≡ Equal → b ≡ a
one_uid a b e = same_uid_is b a (sym (uid_level a b) ∙ ap is_eq e)

one_gvsn : (a b : Gvsn) → gvsn_cmp a b ≡ Equal → b ≡ a
one_gvsn a b e = same_gvsn_is b a (sym (gvsn_level a b) ∙ ap is_eq e)

pub uid_below : (a b : Uid) → uid_cmp a b ≡ Less → uid_lt a b ≡ true
uid_below a b e = grind (arith, nat_tests)

pub uid_above : (a b : Uid) → uid_cmp a b ≡ Greater → uid_lt b a ≡ true
uid_above a b e = grind (arith, nat_tests)

gvsn_below : (a b : Gvsn) → gvsn_cmp a b ≡ Less → gvsn_lt a b ≡ true
gvsn_below a b e = grind (arith, nat_tests)

gvsn_from : (g h : Gvsn) → is_le (gvsn_cmp g h) ≡ not (gvsn_lt h g)
gvsn_from g h = grind (arith, nat_tests)

-- ---- updates under keys of their own

is_equal : (r : Ordering) → is_eq r ≡ true → r ≡ Equal
is_equal Less e = absurd (cc)
is_equal Equal e = refl
is_equal Greater e = absurd (cc)

module _ {K : Type 0} {cmp : K → K → Ordering} (o : IsTotalOrder cmp) (key_of : Update → K) (one : (a b : K) → cmp a b ≡ Equal → b ≡ a) where
  same_key : (k : K) → cmp k k ≡ Equal
  same_key k = by (cmp k k) refl
    where
      by : (r : Ordering) → cmp k k ≡ r → cmp k k ≡ Equal
      by Less e = absurd (let t : Less ≡ Greater = sym e ∙ o.antisymm k k ∙ ap ordering_reverse e in cc)
      by Equal e = e
      by Greater e = absurd (let t : Greater ≡ Less = sym e ∙ o.antisymm k k ∙ ap ordering_reverse e in cc)

  not_less : (k : K) → cmp k k ≡ Less → ⊥
  not_less k e = let t : Less ≡ Equal = sym e ∙ same_key k in absurd (cc)

  under_put : (u : Update) (es : List (K × Update)) → AreUnder key_of es → AreUnder key_of (insert_entry cmp es (key_of u) u)
  under_put u [] h = (refl, tt)
  under_put u (e ∷ es) h = by (cmp (key_of u) e.0) refl (under_put u es h.1)
    where
      by : (r : Ordering) → cmp (key_of u) e.0 ≡ r → AreUnder key_of (insert_entry cmp es (key_of u) u) → AreUnder key_of (match_ordering r ((key_of u, u) ∷ e ∷ es) ((e.0, u) ∷ es) (e ∷ insert_entry cmp es (key_of u) u))
      by Less c k = (refl, h)
      by Equal c k = (one (key_of u) e.0 c, h.1)
      by Greater c k = (h.0, k)

  under_cut : (test : K → Bool) (es : List (K × Update)) → AreUnder key_of es → AreUnder key_of (remove_entry test es)
  under_cut test [] h = tt
  under_cut test (e ∷ es) h = by (test e.0) (under_cut test es h.1)
    where
      by : (b : Bool) → AreUnder key_of (remove_entry test es) → AreUnder key_of (cond b es (e ∷ remove_entry test es))
      by true k = h.1
      by false k = (h.0, k)

  in_put : (k : K) (v x : Update) (es : List (K × Update)) → In x (values_of (insert_entry cmp es k v)) → (x ≡ v) ⊎ In x (values_of es)
  in_put k v x [] (inl e) = inl e
  in_put k v x [] (inr h) = absurd h
  in_put k v x (e ∷ es) h = by (cmp k e.0) h (in_put k v x es)
    where
      by : (r : Ordering) → In x (values_of (match_ordering r ((k, v) ∷ e ∷ es) ((e.0, v) ∷ es) (e ∷ insert_entry cmp es k v)))
          → (In x (values_of (insert_entry cmp es k v)) → (x ≡ v) ⊎ In x (values_of es)) → (x ≡ v) ⊎ In x (e.1 ∷ values_of es)
      by Less (inl s) more = inl s
      by Less (inr h) more = inr h
      by Equal (inl s) more = inl s
      by Equal (inr h) more = inr (inr h)
      by Greater (inl s) more = inr (inl s)
      by Greater (inr h) more = elim (more h) [ inl s ↦ inl s | inr h ↦ inr (inr h) ]

  put_in : (k : K) (v : Update) (es : List (K × Update)) → In v (values_of (insert_entry cmp es k v))
  put_in k v [] = inl refl
  put_in k v (e ∷ es) = by (cmp k e.0) (put_in k v es)
    where
      by : (r : Ordering) → In v (values_of (insert_entry cmp es k v)) → In v (values_of (match_ordering r ((k, v) ∷ e ∷ es) ((e.0, v) ∷ es) (e ∷ insert_entry cmp es k v)))
      by Less h = inl refl
      by Equal h = inl refl
      by Greater h = inr h

  put_keeps : (k : K) (v x : Update) (es : List (K × Update)) → AreUnder key_of es → In x (values_of es) → key_of x ≢ k → In x (values_of (insert_entry cmp es k v))
  put_keeps k v x [] under h other = absurd h
  put_keeps k v x (e ∷ es) under h other = by (cmp k e.0) refl h (λ h. put_keeps k v x es under.1 h other)
    where
      by : (r : Ordering) → cmp k e.0 ≡ r → In x (e.1 ∷ values_of es) → (In x (values_of es) → In x (values_of (insert_entry cmp es k v)))
          → In x (values_of (match_ordering r ((k, v) ∷ e ∷ es) ((e.0, v) ∷ es) (e ∷ insert_entry cmp es k v)))
      by Less c h more = inr h
      by Equal c (inl s) more = absurd (other (ap key_of s ∙ sym under.0 ∙ one k e.0 c))
      by Equal c (inr h) more = inr h
      by Greater c (inl s) more = inl s
      by Greater c (inr h) more = inr (more h)

  -- what is under keys above one has a key above it
  high_key : (k : K) (x : Update) (es : List (K × Update)) → AreUnder key_of es → AllByRecursion (λ f. cmp k f.0 ≡ Less) es → In x (values_of es) → cmp k (key_of x) ≡ Less
  high_key k x [] under high h = absurd h
  high_key k x (e ∷ es) under high (inl s) = subst (λ y. cmp k y ≡ Less) (under.0 ∙ ap key_of (sym s)) high.0
  high_key k x (e ∷ es) under high (inr h) = high_key k x es under.1 high.1 h

  in_cut : (k : K) (x : Update) (es : List (K × Update)) → AreUnder key_of es → entries.IsRising cmp es → In x (values_of (remove_entry (is_at (cmp k)) es)) → In x (values_of es) × (key_of x ≢ k)
  in_cut k x [] under up h = absurd h
  in_cut k x (e ∷ es) under up h = by (is_eq (cmp k e.0)) refl h (in_cut k x es under.1 up.1)
    where
      by : (b : Bool) → is_eq (cmp k e.0) ≡ b → In x (values_of (cond b es (e ∷ remove_entry (is_at (cmp k)) es)))
          → (In x (values_of (remove_entry (is_at (cmp k)) es)) → In x (values_of es) × (key_of x ≢ k)) → In x (e.1 ∷ values_of es) × (key_of x ≢ k)
      by true t h more = (inr h, λ same. not_less e.0 (subst (λ y. cmp e.0 y ≡ Less) (same ∙ sym (one k e.0 (is_equal (cmp k e.0) t))) (high_key e.0 x es under.1 up.0 h)))
      by false t (inl s) more = (inl s, λ same. let at : e.0 ≡ k = under.0 ∙ ap key_of (sym s) ∙ same in let f : is_eq (cmp k e.0) ≡ true = ap is_eq (subst (λ y. cmp k y ≡ Equal) (sym at) (same_key k)) in absurd (cc))
      by false t (inr h) more = let (there, other) = more h in (inr there, other)

  cut_keeps : (k : K) (x : Update) (es : List (K × Update)) → AreUnder key_of es → In x (values_of es) → key_of x ≢ k → In x (values_of (remove_entry (is_at (cmp k)) es))
  cut_keeps k x [] under h other = absurd h
  cut_keeps k x (e ∷ es) under h other = by (is_eq (cmp k e.0)) refl h (λ h. cut_keeps k x es under.1 h other)
    where
      by : (b : Bool) → is_eq (cmp k e.0) ≡ b → In x (e.1 ∷ values_of es) → (In x (values_of es) → In x (values_of (remove_entry (is_at (cmp k)) es))) → In x (values_of (cond b es (e ∷ remove_entry (is_at (cmp k)) es)))
      by true t (inl s) more = absurd (other (ap key_of s ∙ sym under.0 ∙ one k e.0 (is_equal (cmp k e.0) t)))
      by true t (inr h) more = h
      by false t (inl s) more = inl s
      by false t (inr h) more = inr (more h)

  -- one update of a key
  one_of_key : (x y : Update) (es : List (K × Update)) → AreUnder key_of es → entries.IsRising cmp es → In x (values_of es) → In y (values_of es) → key_of x ≡ key_of y → x ≡ y
  one_of_key x y [] under up h k same = absurd h
  one_of_key x y (e ∷ es) under up (inl s) (inl t) same = s ∙ sym t
  one_of_key x y (e ∷ es) under up (inl s) (inr k) same = absurd (not_less e.0 (subst (λ z. cmp e.0 z ≡ Less) (sym same ∙ ap key_of s ∙ sym under.0) (high_key e.0 y es under.1 up.0 k)))
  one_of_key x y (e ∷ es) under up (inr h) (inl t) same = absurd (not_less e.0 (subst (λ z. cmp e.0 z ≡ Less) (same ∙ ap key_of t ∙ sym under.0) (high_key e.0 x es under.1 up.0 h)))
  one_of_key x y (e ∷ es) under up (inr h) (inr k) same = one_of_key x y es under.1 up.1 h k same

-- ---- by file

pub values_put : (u : Update) (es : List (Uid × Update)) → AreUnder (λ u. u.uid) es → values_of (insert_entry uid_cmp es u.uid u) ≡ put_record u (values_of es)
values_put u [] h = refl
values_put u (e ∷ es) h =
    push (uid_cmp u.uid e.0) ∙ ap (λ l. match_ordering (uid_cmp u.uid e.0) (u ∷ e.1 ∷ values_of es) (u ∷ values_of es) (e.1 ∷ l)) (values_put u es h.1)
    ∙ uid_tests u.uid e.0 (u ∷ e.1 ∷ values_of es) (u ∷ values_of es) (e.1 ∷ put_record u (values_of es))
    ∙ ap (λ (id : Uid). cond (uid_lt id u.uid) (e.1 ∷ put_record u (values_of es)) (cond (same_uid id u.uid) (u ∷ values_of es) (u ∷ e.1 ∷ values_of es))) h.0
  where
    push : (r : Ordering) → values_of (match_ordering r ((u.uid, u) ∷ e ∷ es) ((e.0, u) ∷ es) (e ∷ insert_entry uid_cmp es u.uid u))
        ≡ match_ordering r (u ∷ e.1 ∷ values_of es) (u ∷ values_of es) (e.1 ∷ values_of (insert_entry uid_cmp es u.uid u))
    push Less = refl
    push Equal = refl
    push Greater = refl

pub find_filed : (uid : Uid) (es : List (Uid × Update)) → AreUnder (λ u. u.uid) es → lookup (is_at (uid_cmp uid)) es ≡ find (λ r. same_uid r.uid uid) (values_of es)
find_filed uid [] h = refl
find_filed uid (e ∷ es) h =
    ap (λ b. cond b (Some e.1) (lookup (is_at (uid_cmp uid)) es)) (uid_level uid e.0 ∙ ap (λ (id : Uid). same_uid id uid) h.0) ∙ ap (λ l. cond (same_uid e.1.uid uid) (Some e.1) l) (find_filed uid es h.1)

pub rising_filed : (es : List (Uid × Update)) → AreUnder (λ u. u.uid) es → entries.IsRising uid_cmp es → IsRising (values_of es)
rising_filed [] h up = tt
rising_filed (e ∷ es) h up = (each es h.1 up.0, rising_filed es h.1 up.1)
  where
    each : (l : List (Uid × Update)) → AreUnder (λ u. u.uid) l → AllByRecursion (λ f. uid_cmp e.0 f.0 ≡ Less) l → AllByRecursion (λ v. uid_lt e.1.uid v.uid ≡ true) (values_of l)
    each [] k a = tt
    each (f ∷ l) k a = (subst (λ (id : Uid). uid_lt id f.1.uid ≡ true) h.0 (subst (λ (id : Uid). uid_lt e.0 id ≡ true) k.0 (uid_below e.0 f.0 a.0)), each l k.1 a.1)

-- ---- both maps after a put

all_of : (P : Update → Type 0) (us : List Update) (x : Update) → AllByRecursion P us → In x us → P x
all_of P [] x a h = absurd h
all_of P (u ∷ us) x a (inl s) = subst P (sym s) a.0
all_of P (u ∷ us) x a (inr h) = all_of P us x a.1 h

-- a version that no record has is none of theirs
other_version : (u x : Update) (records : List Update) → AllByRecursion (λ r. same_gvsn u.gvsn r.gvsn ≡ false) records → In x records → x.gvsn ≢ u.gvsn
other_version u x records new h same =
    let no : same_gvsn u.gvsn x.gvsn ≡ false = all_of (λ r. same_gvsn u.gvsn r.gvsn ≡ false) records x new h in
    let yes : same_gvsn u.gvsn x.gvsn ≡ true = subst (λ g. same_gvsn u.gvsn g ≡ true) (sym same) (same_gvsn_refl u.gvsn) in
    absurd (cc)

module _ (u : Update) (files : List (Uid × Update)) (versions : List (Gvsn × Update)) (f : AreFiled files versions) (up : entries.IsRising uid_cmp files)
    (new : AllByRecursion (λ r. same_gvsn u.gvsn r.gvsn ≡ false) (values_of files)) where
  abbrev files_with : List (Uid × Update)
  files_with = insert_entry uid_cmp files u.uid u

  -- what is among the records afterwards
  in_files : (x : Update) → In x (values_of files_with) → (x ≡ u) ⊎ (In x (values_of files) × (x.uid ≢ u.uid))
  in_files x h = lists.in_put u x (values_of files) (rising_filed files f.by_file up) (subst (In x) (values_put u files f.by_file) h)

  -- in the place of the record of its file
  pub filed_over : (held : Update) → lookup (is_at (uid_cmp u.uid)) files ≡ Some held → AreFiled files_with (insert_entry gvsn_cmp (remove_entry (is_at (gvsn_cmp held.gvsn)) versions) u.gvsn u)
  filed_over held found = record {
    by_file = under_put uids_are_ordered (λ u. u.uid) one_uid u files f.by_file;
    by_version = under_put gvsns_are_ordered (λ u. u.gvsn) one_gvsn u left left_under;
    rising = rising_put gvsns_are_ordered u.gvsn u left (rising_less gvsns_are_ordered (is_at (gvsn_cmp held.gvsn)) versions f.rising);
    from = λ x h. elim (in_put gvsns_are_ordered (λ u. u.gvsn) one_gvsn u.gvsn u x left h) [
      | inl s ↦ subst (λ y. In y (values_of files_with)) (sym s) (put_in uids_are_ordered (λ u. u.uid) one_uid u.uid u files)
      | inr h ↦
          let (there, other) = in_cut gvsns_are_ordered (λ u. u.gvsn) one_gvsn held.gvsn x versions f.by_version f.rising h in
          put_keeps uids_are_ordered (λ u. u.uid) one_uid u.uid u x files f.by_file (f.from x there) (λ same. other (ap (λ y. y.gvsn) (is_held x (f.from x there) same)))
    ];
    whole = λ x h. elim (in_files x h) [
      | inl s ↦ subst (λ y. In y (values_of (insert_entry gvsn_cmp left u.gvsn u))) (sym s) (put_in gvsns_are_ordered (λ u. u.gvsn) one_gvsn u.gvsn u left)
      | inr p ↦
          put_keeps gvsns_are_ordered (λ u. u.gvsn) one_gvsn u.gvsn u x left left_under
          (cut_keeps gvsns_are_ordered (λ u. u.gvsn) one_gvsn held.gvsn x versions f.by_version (f.whole x p.0) (λ same. p.1 (ap (λ y. y.uid) (of_held x p.0 same) ∙ held_at.1)))
          (other_version u x (values_of files) new p.0)
    ];
  }
    where
      left : List (Gvsn × Update)
      left = remove_entry (is_at (gvsn_cmp held.gvsn)) versions

      left_under : AreUnder (λ u. u.gvsn) left
      left_under = under_cut gvsns_are_ordered (λ u. u.gvsn) one_gvsn (is_at (gvsn_cmp held.gvsn)) versions f.by_version

      held_at : In held (values_of files) × (held.uid ≡ u.uid)
      held_at = find_in (values_of files) u.uid held (sym (find_filed u.uid files f.by_file) ∙ found)

      is_held : (x : Update) → In x (values_of files) → x.uid ≡ u.uid → x ≡ held
      is_held x h same = one_of_key uids_are_ordered (λ u. u.uid) one_uid x held files f.by_file up h held_at.0 (same ∙ sym held_at.1)

      of_held : (x : Update) → In x (values_of files) → x.gvsn ≡ held.gvsn → x ≡ held
      of_held x h same = one_of_key gvsns_are_ordered (λ u. u.gvsn) one_gvsn x held versions f.by_version f.rising (f.whole x h) (f.whole held held_at.0) same

  -- of a file that has no record
  pub filed_new : lookup (is_at (uid_cmp u.uid)) files ≡ None → AreFiled files_with (insert_entry gvsn_cmp versions u.gvsn u)
  filed_new none = record {
    by_file = under_put uids_are_ordered (λ u. u.uid) one_uid u files f.by_file;
    by_version = under_put gvsns_are_ordered (λ u. u.gvsn) one_gvsn u versions f.by_version;
    rising = rising_put gvsns_are_ordered u.gvsn u versions f.rising;
    from = λ x h. elim (in_put gvsns_are_ordered (λ u. u.gvsn) one_gvsn u.gvsn u x versions h) [
      | inl s ↦ subst (λ y. In y (values_of files_with)) (sym s) (put_in uids_are_ordered (λ u. u.uid) one_uid u.uid u files)
      | inr h ↦ put_keeps uids_are_ordered (λ u. u.uid) one_uid u.uid u x files f.by_file (f.from x h) (unheld x (f.from x h))
    ];
    whole = λ x h. elim (in_files x h) [
      | inl s ↦ subst (λ y. In y (values_of (insert_entry gvsn_cmp versions u.gvsn u))) (sym s) (put_in gvsns_are_ordered (λ u. u.gvsn) one_gvsn u.gvsn u versions)
      | inr p ↦ put_keeps gvsns_are_ordered (λ u. u.gvsn) one_gvsn u.gvsn u x versions f.by_version (f.whole x p.0) (other_version u x (values_of files) new p.0)
    ];
  }
    where
      unheld : (x : Update) → In x (values_of files) → x.uid ≢ u.uid
      unheld x h same =
          let one : find (λ r. same_uid r.uid u.uid) (values_of files) ≡ Some x = find_at (values_of files) u.uid x (rising_filed files f.by_file up) h same in
          let no : find (λ r. same_uid r.uid u.uid) (values_of files) ≡ None = sym (find_filed u.uid files f.by_file) ∙ none in
          absurd (cc)

-- ---- the first from a version on

first_value : (g : Gvsn) (es : List (Gvsn × Update)) → AreUnder (λ u. u.gvsn) es → entries.IsRising gvsn_cmp es → IsFirstFrom g (values_of es) (option_map (λ e. e.1) (find (is_from gvsn_cmp g) es))
first_value g [] under up = λ u h. absurd h
first_value g (e ∷ es) under up = by (is_le (gvsn_cmp g e.0)) refl (find (is_from gvsn_cmp g) es) (first_value g es under.1 up.1)
  where
    at : is_le (gvsn_cmp g e.0) ≡ not (gvsn_lt e.1.gvsn g)
    at = gvsn_from g e.0 ∙ ap (λ h. not (gvsn_lt h g)) under.0

    low : is_le (gvsn_cmp g e.0) ≡ false → gvsn_lt e.1.gvsn g ≡ true
    low t = is (gvsn_lt e.1.gvsn g) (sym at ∙ t)
      where
        is : (b : Bool) → not b ≡ false → b ≡ true
        is true n = refl
        is false n = absurd (cc)

    high : is_le (gvsn_cmp g e.0) ≡ true → gvsn_lt e.1.gvsn g ≡ false
    high t = is (gvsn_lt e.1.gvsn g) (sym at ∙ t)
      where
        is : (b : Bool) → not b ≡ true → b ≡ false
        is true n = absurd (cc)
        is false n = refl

    least : (u : Update) → In u (e.1 ∷ values_of es) → (u ≡ e.1) ⊎ (gvsn_lt e.1.gvsn u.gvsn ≡ true)
    least u (inl s) = inl s
    least u (inr h) =
        let above : gvsn_cmp e.0 u.gvsn ≡ Less = high_key gvsns_are_ordered (λ u. u.gvsn) one_gvsn e.0 u es under.1 up.0 h in
        inr (subst (λ h. gvsn_lt h u.gvsn ≡ true) under.0 (gvsn_below e.0 u.gvsn above))

    by : (b : Bool) → is_le (gvsn_cmp g e.0) ≡ b → (rest : Option (Gvsn × Update)) → IsFirstFrom g (values_of es) (option_map (λ e. e.1) rest) → IsFirstFrom g (e.1 ∷ values_of es) (option_map (λ e. e.1) (cond b (Some e) rest))
    by true t rest first = (inl refl, high t, λ u h from. least u h)
    by false t None first = λ u h. elim h [ inl s ↦ subst (λ (v : Update). gvsn_lt v.gvsn g ≡ true) (sym s) (low t) | inr h ↦ first u h ]
    by false t (Some r) first = (
      inr first.0,
      first.1,
      λ u h from. elim h [
        | inl s ↦ absurd (let below : gvsn_lt u.gvsn g ≡ true = subst (λ (v : Update). gvsn_lt v.gvsn g ≡ true) (sym s) (low t) in cc)
        | inr h ↦ first.2 u h from
      ],
    )

-- the same of lists with the same updates
first_same : (g : Gvsn) (a b : List Update) (r : Option Update) → ((u : Update) → In u a → In u b) → ((u : Update) → In u b → In u a) → IsFirstFrom g a r → IsFirstFrom g b r
first_same g a b None to back first = λ u h. first u (back u h)
first_same g a b (Some r) to back first = (to r first.0, first.1, λ u h from. first.2 u (back u h) from)

pub first_filed : (g : Gvsn) (files : List (Uid × Update)) (versions : List (Gvsn × Update)) → AreFiled files versions → IsFirstFrom g (values_of files) (option_map (λ e. e.1) (find (is_from gvsn_cmp g) versions))
first_filed g files versions f = first_same g (values_of versions) (values_of files) _ f.from f.whole (first_value g versions f.by_version f.rising)

-- ---- one record after the other

-- the entry is the one at a place, under its key
abbrev pub IsPlaced : List Update → ℕ → Option (Uid × Update) → Type 0
IsPlaced records n None = slice_get records n ≡ None
IsPlaced records n (Some e) = (slice_get records n ≡ Some e.1) × (e.0 ≡ e.1.uid)

pub first_placed : (es : List (Uid × Update)) → AreUnder (λ u. u.uid) es → IsPlaced (values_of es) 0 (slice_get es 0)
first_placed [] under = refl
first_placed (e ∷ es) under = (refl, under.0)

not_above_itself : (a : Uid) → is_lt (uid_cmp a a) ≡ false
not_above_itself a = grind (arith, nat_tests)

not_above : (a b : Uid) → uid_cmp a b ≡ Less → is_lt (uid_cmp b a) ≡ false
not_above a b low = grind (arith, nat_tests)

first_high : (k : Uid) (es : List (Uid × Update)) → AllByRecursion (λ f. uid_cmp k f.0 ≡ Less) es → find (is_above uid_cmp k) es ≡ slice_get es 0
first_high k [] a = refl
first_high k (e ∷ es) a = ap (λ b. cond b (Some e) (find (is_above uid_cmp k) es)) (ap is_lt a.0)

in_at : (us : List Update) (n : ℕ) (u : Update) → slice_get us n ≡ Some u → In u us
in_at [] n u e = absurd (cc)
in_at (v ∷ us) zero u e = let s : v ≡ u = cc in inl (sym s)
in_at (v ∷ us) (suc n) u e = inr (in_at us n u e)

pub next_placed : (es : List (Uid × Update)) (n : ℕ) (u : Update) → AreUnder (λ u. u.uid) es → entries.IsRising uid_cmp es → slice_get (values_of es) n ≡ Some u
    → IsPlaced (values_of es) (n + 1) (find (is_above uid_cmp u.uid) es)
next_placed [] n u under up e = absurd (cc)
next_placed (e ∷ es) zero u under up at =
    let s : e.1 ≡ u = cc in
    let key : e.0 ≡ u.uid = under.0 ∙ ap (λ y. y.uid) s in
    subst (IsPlaced (values_of (e ∷ es)) 1)
    (sym (first_high e.0 es up.0) ∙ sym (ap (λ b. cond b (Some e) (find (is_above uid_cmp e.0) es)) (not_above_itself e.0)) ∙ ap (λ k. find (is_above uid_cmp k) (e ∷ es)) key)
    (first_placed es under.1)
next_placed (e ∷ es) (suc n) u under up at =
    let low : uid_cmp e.0 u.uid ≡ Less = high_key uids_are_ordered (λ u. u.uid) one_uid e.0 u es under.1 up.0 (in_at (values_of es) n u at) in
    let place : suc n + 1 ≡ suc (n + 1) = omega arith in
    subst (λ m. IsPlaced (values_of (e ∷ es)) m (find (is_above uid_cmp u.uid) (e ∷ es))) (sym place)
    (subst (IsPlaced (values_of es) (n + 1)) (sym (ap (λ b. cond b (Some e) (find (is_above uid_cmp u.uid) es)) (not_above e.0 u.uid low))) (next_placed es n u under.1 up.1 at))

pub taken_next : {X : Type 0} (xs : List X) (n : ℕ) (x : X) → slice_get xs n ≡ Some x → take n xs ++ x ∷ [] ≡ take (n + 1) xs
taken_next [] n x e = absurd (cc)
taken_next (y ∷ xs) zero x e = let s : y ≡ x = cc in ap (λ z. z ∷ []) (sym s)
taken_next (y ∷ xs) (suc n) x e = let k : suc n + 1 ≡ suc (n + 1) = omega arith in ap (λ l. y ∷ l) (taken_next xs n x e) ∙ sym (ap (λ m. take m (y ∷ xs)) k)

pub taken_whole : {X : Type 0} (xs : List X) (n : ℕ) → slice_get xs n ≡ None → take n xs ≡ xs
taken_whole [] zero e = refl
taken_whole [] (suc n) e = refl
taken_whole (y ∷ xs) zero e = absurd (cc)
taken_whole (y ∷ xs) (suc n) e = ap (λ l. y ∷ l) (taken_whole xs n e)

pub in_bounds : {X : Type 0} (xs : List X) (n : ℕ) (x : X) → slice_get xs n ≡ Some x → n < length xs
in_bounds [] n x e = absurd (cc)
in_bounds (y ∷ xs) zero x e = omega arith
in_bounds (y ∷ xs) (suc n) x e = let l = in_bounds xs n x e in omega (arith, l)

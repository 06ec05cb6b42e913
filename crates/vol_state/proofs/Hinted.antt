-- Each change keeps the hints.
use Rattle.std.proofs.Common.{◌≡◌, ◌⊎◌, inl, inr, ℕ, Bool, true, cond, eqb, List, [], ◌∷◌, ◌++◌, Option, Some, None, refl, sym, ap, ◌∙◌, subst, arith}
use Rattle.std.proofs.lemmas.Bool.Decides.{nat_tests, eqb_tells}
use Rattle.std.proofs.lemmas.Bool.{false≢true}
use Rattle.vol_state.specs.declared.object.Object.{Object}
use Rattle.vol_state.specs.declared.hints.Link.{Link}
use Rattle.frs_base.specs.Options.{In, some_is}
use Rattle.vol_state.specs.Tree.{IsTree}
use Rattle.vol_state.specs.Hints.{AreHinted, IsShelf, KeepsBut, Leads, LeadsFrom, head_of, is_keyed, key_of, place_keys, uid_key, uid_keys}
use Rattle.vol_state.specs.Effects.{at_place, edit, stamp, with_bytes, without}
use Rattle.vol_state.specs.State.{uid_of}
use Rattle.vol_state.proofs.Climbing.{by_cases}
use Rattle.vol_state.proofs.Finding.{in_at}
use Rattle.vol_state.proofs.Trees.{in_push}

-- a hint that goes led to no object with its key
pub hinted_put : (keys : Object → Option ℕ) (old new : List Link) (objects : List Object) (key : ℕ) (keyed : Bool) → IsTree objects → keyed ≡ some_is (is_keyed keys objects key) (head_of key old) → KeepsBut keyed key old new → AreHinted keys old objects → AreHinted keys new objects
hinted_put keys old new objects key keyed t said keeps hinted o k i e = by_cases (keeps k o.fid (hinted o k i e))
    (λ l. l)
    (λ gone. absurd (false≢true (sym gone.0 ∙ said ∙ ap (some_is (is_keyed keys objects key)) gone.2 ∙ here gone.1)))
  where
    same : (n : ℕ) → eqb n n ≡ true
    same n = grind (arith, nat_tests)

    here : k ≡ key → is_keyed keys objects key o.fid ≡ true
    here is =
        ap (some_is (λ x. some_is (λ n. eqb n key) (keys x))) (in_at 0 o objects t.rising i)
        ∙ ap (some_is (λ n. eqb n key)) e
        ∙ ap (λ n. eqb n key) is ∙ same key

leads_key : (links : List Link) (found : Option ℕ) (fid key : ℕ) → LeadsFrom links found fid → found ≡ Some key → Leads links key fid
leads_key links None fid key l e = absurd (cc)
leads_key links (Some n) fid key l e = let s : n ≡ key = cc in subst (λ x. Leads links x fid) s l

pub hinted_push : (keys : Object → Option ℕ) (links : List Link) (os : List Object) (o : Object) → AreHinted keys links os → LeadsFrom links (keys o) o.fid → AreHinted keys links (os ++ o ∷ [])
hinted_push keys links os o h n b key i e = by_cases (in_push b o os i)
    (λ j. h b key j e)
    (λ s. subst (λ y. Leads links key y.fid) (sym s) (leads_key links (keys o) o.fid key n (ap keys (sym s) ∙ e)))

in_some_edit : (f : Object → Object) (fid : ℕ) (b : Object) (os : List Object) → In b (edit fid f os) → ((o : Object) × In o os × (o.fid ≡ fid) × (b ≡ f o)) ⊎ In b os
in_some_edit f fid b [] i = absurd i
in_some_edit f fid b (x ∷ os) i =
    by_cases (eqb_tells x.fid fid)
    (λ t. let j : In b (f x ∷ os) = subst (In b) (ap (λ c. cond c (f x ∷ os) (x ∷ edit fid f os)) t.0) i in
    by_cases j (λ e. inl (x, inl refl, t.1, e)) (λ k. inr (inr k)))
    (λ t. let j : In b (x ∷ edit fid f os) = subst (In b) (ap (λ c. cond c (f x ∷ os) (x ∷ edit fid f os)) t.0) i in
    by_cases j (λ e. inr (inl e)) (λ k. by_cases (in_some_edit f fid b os k) (λ w. inl (w.0, inr w.1, w.2, w.3)) (λ l. inr (inr l))))

-- the changed object has a hint of its new key
pub hinted_moved : (keys : Object → Option ℕ) (links : List Link) (os : List Object) (f : Object → Object) (fid : ℕ) (found : Option ℕ) → ((o : Object) → (f o).fid ≡ o.fid) → ((o : Object) → keys (f o) ≡ found) → AreHinted keys links os → LeadsFrom links found fid → AreHinted keys links (edit fid f os)
hinted_moved keys links os f fid found fids keyed h n b key i e = by_cases (in_some_edit f fid b os i)
    (λ w. let same : b.fid ≡ fid = ap (λ y. y.fid) w.3 ∙ fids w.0 ∙ w.2 in
    subst (Leads links key) (sym same) (leads_key links found fid key n (sym (keyed w.0) ∙ ap keys (sym w.3) ∙ e)))
    (λ j. h b key j e)

-- the changed object keeps its key
pub hinted_same : (keys : Object → Option ℕ) (links : List Link) (os : List Object) (f : Object → Object) (fid : ℕ) → ((o : Object) → (f o).fid ≡ o.fid) → ((o : Object) → keys (f o) ≡ keys o) → AreHinted keys links os → AreHinted keys links (edit fid f os)
hinted_same keys links os f fid fids keyed h b key i e = by_cases (in_some_edit f fid b os i)
    (λ w. let same : b.fid ≡ w.0.fid = ap (λ y. y.fid) w.3 ∙ fids w.0 in
    subst (Leads links key) (sym same) (h w.0 key w.1 (sym (keyed w.0) ∙ ap keys (sym w.3) ∙ e)))
    (λ j. h b key j e)

in_some_without : (fid : ℕ) (b : Object) (os : List Object) → In b (without fid os) → In b os
in_some_without fid b [] i = absurd i
in_some_without fid b (x ∷ os) i =
    by_cases (eqb_tells x.fid fid)
    (λ t. inr (subst (In b) (ap (λ c. cond c os (x ∷ without fid os)) t.0) i))
    (λ t. let j : In b (x ∷ without fid os) = subst (In b) (ap (λ c. cond c os (x ∷ without fid os)) t.0) i in
    by_cases j (λ e. inl e) (λ k. inr (in_some_without fid b os k)))

pub hinted_without : (keys : Object → Option ℕ) (links : List Link) (os : List Object) (fid : ℕ) → AreHinted keys links os → AreHinted keys links (without fid os)
hinted_without keys links os fid h b key i e = h b key (in_some_without fid b os i) e

-- ---- what the shelf keeps

pub shelf_pushed : (own : ℕ) (places uids places' uids' : List Link) (os : List Object) (o : Object) → IsShelf own places uids os → AreHinted place_keys places' os → LeadsFrom places' (key_of o.place) o.fid
    → AreHinted (uid_keys own) uids' os → Leads uids' (uid_key (uid_of own o)) o.fid → IsTree (os ++ o ∷ []) → IsShelf own places' uids' (os ++ o ∷ [])
shelf_pushed own places uids places' uids' os o h placed here named there tree = record {
  tree = tree;
  placed = hinted_push place_keys places' os o placed here;
  named = hinted_push (uid_keys own) uids' os o named there;
}

pub shelf_placed : (own : ℕ) (places uids places' : List Link) (os : List Object) (fid : ℕ) (place : Option (ℕ × List ℕ)) (local : Bool) (usn : ℕ) → IsShelf own places uids os → AreHinted place_keys places' os → LeadsFrom places' (key_of place) fid
    → IsTree (edit fid (λ o. stamp local usn (at_place place o)) os) → IsShelf own places' uids (edit fid (λ o. stamp local usn (at_place place o)) os)
shelf_placed own places uids places' os fid place local usn h placed here tree = record {
  tree = tree;
  placed = hinted_moved place_keys places' os (λ o. stamp local usn (at_place place o)) fid (key_of place) (λ o. refl) (λ o. refl) placed here;
  named = hinted_same (uid_keys own) uids os (λ o. stamp local usn (at_place place o)) fid (λ o. refl) (λ o. refl) h.named;
}

pub shelf_filled : (own : ℕ) (places uids : List Link) (os : List Object) (fid : ℕ) (bytes : List ℕ) (local : Bool) (usn : ℕ) → IsShelf own places uids os
    → IsTree (edit fid (λ o. stamp local usn (with_bytes bytes o)) os) → IsShelf own places uids (edit fid (λ o. stamp local usn (with_bytes bytes o)) os)
shelf_filled own places uids os fid bytes local usn h tree = record {
  tree = tree;
  placed = hinted_same place_keys places os (λ o. stamp local usn (with_bytes bytes o)) fid (λ o. refl) (λ o. refl) h.placed;
  named = hinted_same (uid_keys own) uids os (λ o. stamp local usn (with_bytes bytes o)) fid (λ o. refl) (λ o. refl) h.named;
}

pub shelf_without : (own : ℕ) (places uids : List Link) (os : List Object) (fid : ℕ) → IsShelf own places uids os → IsTree (without fid os) → IsShelf own places uids (without fid os)
shelf_without own places uids os fid h tree = record {
  tree = tree;
  placed = hinted_without place_keys places os fid h.placed;
  named = hinted_without (uid_keys own) uids os fid h.named;
}

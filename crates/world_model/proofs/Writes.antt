-- The tree of places after each kind of write.
use Rattle.std.proofs.Common.{◌≡◌, ◌≢◌, ◌⊎◌, ℕ, zero, suc, true, false, List, refl, sym, ap, ◌∙◌, subst, inl, inr, Some, None}
use Rattle.vol_state.specs.declared.object.Object.{Object}
use Rattle.vol_state.specs.declared.record.VolRecord.{VolRecord}
use Rattle.vol_state.specs.State.{uid_of}
use Rattle.vol_state.specs.Maps.{Maps}
use Rattle.vol_state.specs.Tables.{IsBeneath, IsDirectory, IsEmpty, IsFree, Leads, LeadsBy}
use Rattle.world_model.specs.Invariant.{PlacesAreATree}
use Rattle.world_model.proofs.Facts.{at_case, none_some, some_is}
use Rattle.world_model.proofs.Writing.{wrote}
use Rattle.world_model.proofs.Chains.{KeepsPlaces, directory_kept, directory_without, leads_beside, leads_kept, leads_through, leads_without, there, tree_written, written_keeps}

-- what leads to the root leads to the root or to limbo
pub reached_leads : (m : Maps) (n f : ℕ) → LeadsBy false m n f → LeadsBy true m n f
reached_leads m zero f h = h
reached_leads m (suc n) f (inl z) = inl z
reached_leads m (suc n) f (inr (x, at, inl (l, e))) = inr (x, at, inl (refl, e))
reached_leads m (suc n) f (inr (x, at, inr (p, e, h))) = inr (x, at, inr (p, e, reached_leads m n p.0 h))

-- so does each directory
pub directory_leads : (own : ℕ) (m : Maps) (f : ℕ) → PlacesAreATree own m → IsDirectory m f → Leads true m f
directory_leads own m f t (inl z) = (0, z)
directory_leads own m f t (inr (o, at, d)) = t.leads f o at

-- contents change
pub tree_keep : (own : ℕ) (m : Maps) (f : ℕ) (o x : Object) (e : VolRecord) → PlacesAreATree own m → m.at f ≡ Some o → x.place ≡ o.place → x.kind ≡ o.kind → uid_of own x ≡ uid_of own o
    → PlacesAreATree own (wrote m f (Some x) e)
tree_keep own m f o x e t at place directory uid = tree_written own m f (Some x) e t
    (λ g y a. at_case (Leads true (wrote m f (Some x) e) g) m.at f (Some x) g (Some y) a
    (λ i s. let (n, l) = t.leads f o at in (n, leads_kept true m (wrote m f (Some x) e) keeps n g (subst (LeadsBy true m n) (sym i) l)))
    (λ i s. let (n, l) = t.leads g y s in (n, leads_kept true m (wrote m f (Some x) e) keeps n g l)))
    (λ y p s q. let r : o.place ≡ Some p = sym place ∙ ap (λ z. z.place) (some_is x y s) ∙ q in
    (λ g z b c d w k. t.apart g f z o b p c at d r w k, directory_kept m f x e same p.0 (t.parents f o p at r)))
    (λ y g z s n a k. n (t.uids g f z o a at (k ∙ ap (uid_of own) (sym (some_is x y s)) ∙ uid)))
    (λ g y q n a s. directory_kept m f x e same q.0 (t.parents g y q a s))
  where
    same : (old : Object) → m.at f ≡ Some old → x.kind ≡ old.kind
    same old a = directory ∙ ap (λ z. z.kind) (some_is o old (sym at ∙ a))

    keeps : KeepsPlaces m (wrote m f (Some x) e)
    keeps = written_keeps m f x e (λ old a. place ∙ ap (λ z. z.place) (some_is o old (sym at ∙ a)))

-- an object gets another place, or one at all
pub tree_move : (own : ℕ) (m : Maps) (f : ℕ) (o x : Object) (p : ℕ × List ℕ) (e : VolRecord) → PlacesAreATree own m → m.at f ≡ Some o → x.place ≡ Some p → x.kind ≡ o.kind
    → uid_of own x ≡ uid_of own o
    → IsDirectory m p.0 → (IsBeneath m f p.0 → ⊥) → IsFree m f p.0 p.1 → PlacesAreATree own (wrote m f (Some x) e)
tree_move own m f o x p e t at place directory uid dir beneath free = tree_written own m f (Some x) e t
    (λ g y a. at_case (Leads true (wrote m f (Some x) e) g) m.at f (Some x) g (Some y) a
    (λ i s. subst (Leads true (wrote m f (Some x) e)) (sym i) on)
    (λ i s. let (n, l) = t.leads g y s in leads_through true m f (Some x) e on n g l))
    (λ y q s r. let same_place : p ≡ q = some_is p q (sym place ∙ ap (λ z. z.place) (some_is x y s) ∙ r) in
    subst (λ z. IsFree m f z.0 z.1 × IsDirectory (wrote m f (Some x) e) z.0) same_place (free, directory_kept m f x e same p.0 dir))
    (λ y g z s n a k. n (t.uids g f z o a at (k ∙ ap (uid_of own) (sym (some_is x y s)) ∙ uid)))
    (λ g y q n a s. directory_kept m f x e same q.0 (t.parents g y q a s))
  where
    same : (old : Object) → m.at f ≡ Some old → x.kind ≡ old.kind
    same old a = directory ∙ ap (λ z. z.kind) (some_is o old (sym at ∙ a))

    on : Leads true (wrote m f (Some x) e) f
    on = let (n, l) = directory_leads own m p.0 t dir in (suc n, inr (x, there m f (Some x) e, inr (p, place, leads_beside true m f (Some x) e n p.0 beneath l)))

-- an object goes to limbo
pub tree_park : (own : ℕ) (m : Maps) (f : ℕ) (o x : Object) (e : VolRecord) → PlacesAreATree own m → m.at f ≡ Some o → x.place ≡ None → x.kind ≡ o.kind → uid_of own x ≡ uid_of own o
    → PlacesAreATree own (wrote m f (Some x) e)
tree_park own m f o x e t at place directory uid = tree_written own m f (Some x) e t
    (λ g y a. at_case (Leads true (wrote m f (Some x) e) g) m.at f (Some x) g (Some y) a
    (λ i s. subst (Leads true (wrote m f (Some x) e)) (sym i) on)
    (λ i s. let (n, l) = t.leads g y s in leads_through true m f (Some x) e on n g l))
    (λ y q s r. absurd (none_some q (sym place ∙ ap (λ z. z.place) (some_is x y s) ∙ r)))
    (λ y g z s n a k. n (t.uids g f z o a at (k ∙ ap (uid_of own) (sym (some_is x y s)) ∙ uid)))
    (λ g y q n a s. directory_kept m f x e same q.0 (t.parents g y q a s))
  where
    same : (old : Object) → m.at f ≡ Some old → x.kind ≡ old.kind
    same old a = directory ∙ ap (λ z. z.kind) (some_is o old (sym at ∙ a))

    on : Leads true (wrote m f (Some x) e) f
    on = (1, inr (x, there m f (Some x) e, inl (refl, place)))

-- an object with nothing beneath it goes
pub tree_gone : (own : ℕ) (m : Maps) (f : ℕ) (e : VolRecord) → PlacesAreATree own m → IsEmpty m f → PlacesAreATree own (wrote m f None e)
tree_gone own m f e t b = tree_written own m f None e t
    (λ g y a. at_case (Leads true (wrote m f None e) g) m.at f None g (Some y) a
    (λ i s. absurd (none_some y s))
    (λ i s. let (n, l) = t.leads g y s in (n, leads_without true m f None e b n g i l)))
    (λ y p s q. absurd (none_some y s))
    (λ y g z s n a k. none_some y s)
    (λ g y q n a s. directory_without m f None e q.0 (b g y q a s) (t.parents g y q a s))

-- a new object, placed or in limbo
pub tree_new : (own : ℕ) (m : Maps) (f : ℕ) (x : Object) (e : VolRecord) → PlacesAreATree own m → m.at f ≡ None
    → ((g : ℕ) (y : Object) → m.at g ≡ Some y → uid_of own y ≢ uid_of own x)
    → (x.place ≡ None) ⊎ ((p : ℕ × List ℕ) × (x.place ≡ Some p) × IsDirectory m p.0 × IsFree m f p.0 p.1)
    → PlacesAreATree own (wrote m f (Some x) e)
tree_new own m f x e t at others place = tree_written own m f (Some x) e t
    (λ g y a. at_case (Leads true (wrote m f (Some x) e) g) m.at f (Some x) g (Some y) a
    (λ i s. subst (Leads true (wrote m f (Some x) e)) (sym i) (on place))
    (λ i s. let (n, l) = t.leads g y s in (n, leads_kept true m (wrote m f (Some x) e) keeps n g l)))
    (λ y q s r. placed place q (ap (λ z. z.place) (some_is x y s) ∙ r))
    (λ y g z s n a k. others g z a (k ∙ ap (uid_of own) (sym (some_is x y s))))
    (λ g y q n a s. directory_kept m f x e (λ old b. absurd (none_some old (sym at ∙ b))) q.0 (t.parents g y q a s))
  where
    keeps : KeepsPlaces m (wrote m f (Some x) e)
    keeps = written_keeps m f x e (λ old b. absurd (none_some old (sym at ∙ b)))

    on : (x.place ≡ None) ⊎ ((p : ℕ × List ℕ) × (x.place ≡ Some p) × IsDirectory m p.0 × IsFree m f p.0 p.1) → Leads true (wrote m f (Some x) e) f
    on (inl s) = (1, inr (x, there m f (Some x) e, inl (refl, s)))
    on (inr (p, s, dir, free)) = let (n, l) = directory_leads own m p.0 t dir in (suc n, inr (x, there m f (Some x) e, inr (p, s, leads_kept true m (wrote m f (Some x) e) keeps n p.0 l)))

    placed : (x.place ≡ None) ⊎ ((p : ℕ × List ℕ) × (x.place ≡ Some p) × IsDirectory m p.0 × IsFree m f p.0 p.1) → (q : ℕ × List ℕ) → x.place ≡ Some q → IsFree m f q.0 q.1 × IsDirectory (wrote m f (Some x) e) q.0
    placed (inl s) q r = absurd (none_some q (sym s ∙ r))
    placed (inr (p, s, dir, free)) q r =
        subst (λ z. IsFree m f z.0 z.1 × IsDirectory (wrote m f (Some x) e) z.0) (some_is p q (sym s ∙ r))
        (free, directory_kept m f x e (λ old b. absurd (none_some old (sym at ∙ b))) p.0 dir)

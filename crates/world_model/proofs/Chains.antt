-- Chains of places, where one object is written.
use Rattle.std.proofs.Common.{◌≡◌, ◌≢◌, ◌<◌, ◌≤◌, ◌+◌, ℕ, zero, suc, max, Bool, true, false, List, refl, sym, ap, ◌∙◌, subst, arith, inl, inr, Option, Some, None}
use Rattle.std.proofs.lemmas.Bool.{cases_eq}
use Rattle.vol_state.specs.declared.object.Object.{Object}
use Rattle.vol_state.specs.declared.record.VolRecord.{VolRecord}
use Rattle.vol_state.specs.State.{uid_of}
use Rattle.vol_state.specs.Places.{is_directory}
use Rattle.vol_state.specs.Maps.{Maps, with_at}
use Rattle.vol_state.specs.Tables.{IsBeneath, IsDirectory, IsEmpty, IsFree, Leads, LeadsBy}
use Rattle.name_rules.specs.Recorded.{is_deletion}
use Rattle.world_model.specs.Invariant.{JournalIsTrue, NumbersAreFresh, PlacesAreATree}
use Rattle.world_model.proofs.Changing.{at_other, at_same}
use Rattle.world_model.proofs.Facts.{at_case, none_some, some_is}
use Rattle.world_model.proofs.Names.{matches_sym}
use Rattle.world_model.proofs.Writing.{wrote}

-- ---- a written volume

-- the object that was written
pub there : (m : Maps) (f : ℕ) (o : Option Object) (e : VolRecord) → (wrote m f o e).at f ≡ o
there m f o e = at_same m.at f o

-- another object
pub beside : (m : Maps) (f : ℕ) (o : Option Object) (e : VolRecord) (g : ℕ) (x : Option Object) → g ≢ f → m.at g ≡ x → (wrote m f o e).at g ≡ x
beside m f o e g x n h = at_other m.at f o g n ∙ h

-- every object keeps its place
abbrev pub KeepsPlaces : Maps → Maps → Type 0
KeepsPlaces m new = (g : ℕ) (x : Object) → m.at g ≡ Some x → (y : Object) × (new.at g ≡ Some y) × (y.place ≡ x.place)

-- where objects keep their places, each chain stays
pub leads_kept : (limbo : Bool) (m new : Maps) → KeepsPlaces m new → (n g : ℕ) → LeadsBy limbo m n g → LeadsBy limbo new n g
leads_kept limbo m new k zero g h = h
leads_kept limbo m new k (suc n) g (inl e) = inl e
leads_kept limbo m new k (suc n) g (inr (x, at, inl (l, e))) = let (y, at', s) = k g x at in inr (y, at', inl (l, s ∙ e))
leads_kept limbo m new k (suc n) g (inr (x, at, inr (p, e, h))) = let (y, at', s) = k g x at in inr (y, at', inr (p, s ∙ e, leads_kept limbo m new k n p.0 h))

-- a chain that comes to f goes on from there
pub leads_through : (limbo : Bool) (m : Maps) (f : ℕ) (o : Option Object) (e : VolRecord) → Leads limbo (wrote m f o e) f → (n g : ℕ) → LeadsBy limbo m n g → Leads limbo (wrote m f o e) g
leads_through limbo m f o e on zero g h = (0, h)
leads_through limbo m f o e on (suc n) g (inl z) = (0, z)
leads_through limbo m f o e on (suc n) g (inr (x, at, inl l)) = elim (cases_eq g f) [
  | inl s ↦ subst (Leads limbo (wrote m f o e)) (sym s) on
  | inr d ↦ (1, inr (x, beside m f o e g (Some x) d at, inl l))
]
leads_through limbo m f o e on (suc n) g (inr (x, at, inr (p, s, h))) = elim (cases_eq g f) [
  | inl s ↦ subst (Leads limbo (wrote m f o e)) (sym s) on
  | inr d ↦ let (k, h') = leads_through limbo m f o e on n p.0 h in (suc k, inr (x, beside m f o e g (Some x) d at, inr (p, s, h')))
]

-- a chain that doesn't come to f stays
pub leads_beside : (limbo : Bool) (m : Maps) (f : ℕ) (o : Option Object) (e : VolRecord) (n g : ℕ) → (IsBeneath m f g → ⊥) → LeadsBy limbo m n g → LeadsBy limbo (wrote m f o e) n g
leads_beside limbo m f o e zero g b h = h
leads_beside limbo m f o e (suc n) g b (inl z) = inl z
leads_beside limbo m f o e (suc n) g b (inr (x, at, inl l)) = inr (x, beside m f o e g (Some x) (λ s. b (0, s)) at, inl l)
leads_beside limbo m f o e (suc n) g b (inr (x, at, inr (p, s, h))) =
    inr (x, beside m f o e g (Some x) (λ s. b (0, s)) at, inr (p, s, leads_beside limbo m f o e n p.0 (λ k. b (suc k.0, inr (x, p, at, s, k.1))) h))

-- f has nothing beneath it, and goes
pub leads_without : (limbo : Bool) (m : Maps) (f : ℕ) (o : Option Object) (e : VolRecord) → IsEmpty m f → (n g : ℕ) → g ≢ f → LeadsBy limbo m n g → LeadsBy limbo (wrote m f o e) n g
leads_without limbo m f o e b zero g d h = h
leads_without limbo m f o e b (suc n) g d (inl z) = inl z
leads_without limbo m f o e b (suc n) g d (inr (x, at, inl l)) = inr (x, beside m f o e g (Some x) d at, inl l)
leads_without limbo m f o e b (suc n) g d (inr (x, at, inr (p, s, h))) =
    inr (x, beside m f o e g (Some x) d at, inr (p, s, leads_without limbo m f o e b n p.0 (b g x p at s) h))

-- so it is where the written object keeps its own
pub written_keeps : (m : Maps) (f : ℕ) (x : Object) (e : VolRecord) → ((old : Object) → m.at f ≡ Some old → x.place ≡ old.place) → KeepsPlaces m (wrote m f (Some x) e)
written_keeps m f x e same g y at = elim (cases_eq g f) [
  | inl s ↦ (x, subst (λ i. (wrote m f (Some x) e).at i ≡ Some x) (sym s) (there m f (Some x) e), same y (subst (λ i. m.at i ≡ Some y) s at))
  | inr d ↦ (y, beside m f (Some x) e g (Some y) d at, refl)
]

-- a directory stays one where the object is written with its kind
pub directory_kept : (m : Maps) (f : ℕ) (x : Object) (e : VolRecord) → ((old : Object) → m.at f ≡ Some old → x.kind ≡ old.kind) → (h : ℕ) → IsDirectory m h
    → IsDirectory (wrote m f (Some x) e) h
directory_kept m f x e same h (inl z) = inl z
directory_kept m f x e same h (inr (y, at, d)) = elim (cases_eq h f) [
  | inl s ↦ inr (x, subst (λ i. (wrote m f (Some x) e).at i ≡ Some x) (sym s) (there m f (Some x) e), ap is_directory (same y (subst (λ i. m.at i ≡ Some y) s at)) ∙ d)
  | inr n ↦ inr (y, beside m f (Some x) e h (Some y) n at, d)
]

-- so does one that isn't the object
pub directory_without : (m : Maps) (f : ℕ) (o : Option Object) (e : VolRecord) (h : ℕ) → h ≢ f → IsDirectory m h → IsDirectory (wrote m f o e) h
directory_without m f o e h n (inl z) = inl z
directory_without m f o e h n (inr (y, at, d)) = inr (y, beside m f o e h (Some y) n at, d)

-- ---- the tree of places

-- places are a tree after a write, by what holds of the written object
pub tree_written : (own : ℕ) (m : Maps) (f : ℕ) (o : Option Object) (e : VolRecord) → PlacesAreATree own m
    → ((g : ℕ) (x : Object) → (wrote m f o e).at g ≡ Some x → Leads true (wrote m f o e) g)
    → ((x : Object) (p : ℕ × List ℕ) → o ≡ Some x → x.place ≡ Some p → IsFree m f p.0 p.1 × IsDirectory (wrote m f o e) p.0)
    → ((x : Object) (g : ℕ) (y : Object) → o ≡ Some x → g ≢ f → m.at g ≡ Some y → uid_of own y ≢ uid_of own x)
    → ((g : ℕ) (y : Object) (q : ℕ × List ℕ) → g ≢ f → m.at g ≡ Some y → y.place ≡ Some q → IsDirectory (wrote m f o e) q.0)
    → PlacesAreATree own (wrote m f o e)
tree_written own m f o e t leads place uid dirs = record {
  leads = leads;
  apart = λ g h x y p q a b c d s w. at_case (g ≡ h) m.at f o g (Some x) a
      (λ i xo. at_case (g ≡ h) m.at f o h (Some y) b
      (λ j yo. i ∙ sym j)
      (λ n yo. i ∙ sym ((place x p xo c).0 h y q yo d (sym s) (matches_sym p.1 q.1 w))))
      (λ n xo. at_case (g ≡ h) m.at f o h (Some y) b
      (λ j yo. (place y q yo d).0 g x p xo c s w ∙ sym j)
      (λ n' yo. t.apart g h x y p q xo yo c d s w));
  uids = λ g h x y a b s. at_case (g ≡ h) m.at f o g (Some x) a
      (λ i xo. at_case (g ≡ h) m.at f o h (Some y) b
      (λ j yo. i ∙ sym j)
      (λ n yo. absurd (uid x h y xo n yo (sym s))))
      (λ n xo. at_case (g ≡ h) m.at f o h (Some y) b
      (λ j yo. absurd (uid y g x yo n xo s))
      (λ n' yo. t.uids g h x y xo yo s));
  parents = λ g x p a c. at_case (IsDirectory (wrote m f o e) p.0) m.at f o g (Some x) a
      (λ i xo. (place x p xo c).1)
      (λ n xo. dirs g x p n xo c);
}

-- numbers stay fresh after a write
pub numbers_written : (m : Maps) (c f : ℕ) (o : Option Object) (e : VolRecord) → NumbersAreFresh m c → f ≢ 0 → e.fid ≡ f
    → ((x : Object) → o ≡ Some x → (x.born ≤ m.next_usn) × (x.last_local ≤ m.next_usn) × (x.tag ≡ None → x.born ≤ x.last_local)) → NumbersAreFresh (wrote m f o e) c
numbers_written m c f o e h root fid new = record {
  root = at_other m.at f o 0 (λ s. root (sym s)) ∙ h.root;
  next = let a = h.next in omega (arith, a);
  fids = λ g x a. at_case (g < max m.next_fid (f + 1)) m.at f o g (Some x) a (λ i xo. omega (arith, i)) (λ n xo. let l = h.fids g x xo in omega (arith, l));
  named = λ n d a. at_case (d.fid < max m.next_fid (f + 1)) m.entry m.next_usn (Some e) n (Some d) a
      (λ i s. let same : d.fid ≡ f = ap (λ y. y.fid) (sym (some_is e d s)) ∙ fid in omega (arith, same))
      (λ w s. let l = h.named n d s in omega (arith, l));
  born = λ g x a. at_case (x.born < m.next_usn + 1) m.at f o g (Some x) a (λ i xo. let l = (new x xo).0 in omega (arith, l)) (λ n xo. let l = h.born g x xo in omega (arith, l));
  last = λ g x a. at_case (x.last_local < m.next_usn + 1) m.at f o g (Some x) a (λ i xo. let l = (new x xo).1 in omega (arith, l)) (λ n xo. let l = h.last g x xo in omega (arith, l));
  first = λ g x a t. at_case (x.born ≤ x.last_local) m.at f o g (Some x) a (λ i xo. (new x xo).2 t) (λ n xo. h.first g x xo t);
  entries = λ n d a. at_case (n < m.next_usn + 1) m.entry m.next_usn (Some e) n (Some d) a (λ i s. omega (arith, i)) (λ w s. let l = h.entries n d s in omega (arith, l));
  consumed_is = let l = h.consumed_is in omega (arith, l);
  whole = λ n low high. elim (cases_eq n m.next_usn) [
    | inl s ↦ (e, subst (λ i. with_at m.entry m.next_usn (Some e) i ≡ Some e) (sym s) (at_same m.entry m.next_usn (Some e)))
    | inr k ↦ let (r, at) = h.whole n low (omega (arith, high, k)) in (r, at_other m.entry m.next_usn (Some e) n k ∙ at)
  ];
}

-- ---- the journal, after a local operation that leaves the object, and after one that takes it away

-- the journal stays true after a local operation that leaves the object
pub journal_wrote : (own : ℕ) (m : Maps) (c f : ℕ) (x : Object) (e : VolRecord) → NumbersAreFresh m c → JournalIsTrue own m c
    → e.local ≡ true → is_deletion e ≡ false → e.fid ≡ f → e.uid ≡ uid_of own x → x.last_local ≡ m.next_usn
    → ((g : ℕ) (y : Object) → g ≢ f → m.at g ≡ Some y → uid_of own y ≢ uid_of own x)
    → ((n : ℕ) (d : VolRecord) → c ≤ n → m.entry n ≡ Some d → d.local ≡ true → d.fid ≡ f → uid_of own x ≡ d.uid)
    → JournalIsTrue own (wrote m f (Some x) e) c
journal_wrote own m c f x e h j local keeps fid uid last others earlier = record {
  later = λ g y n d a l b t s. at_case (n ≤ y.last_local) m.at f (Some x) g (Some y) a
      (λ i xo. let same : y.last_local ≡ m.next_usn = ap (λ z. z.last_local) (sym (some_is x y xo)) ∙ last in
      at_case (n ≤ y.last_local) m.entry m.next_usn (Some e) n (Some d) b (λ k q. omega (arith, k, same)) (λ k q. let w = h.entries n d q in omega (arith, w, same)))
      (λ i yo. at_case (n ≤ y.last_local) m.entry m.next_usn (Some e) n (Some d) b
      (λ k q. absurd (others g y i yo (sym s ∙ ap (λ z. z.uid) (sym (some_is e d q)) ∙ uid)))
      (λ k q. j.later g y n d yo l q t s));
  last = λ g y a l. at_case ((d : VolRecord) × ((wrote m f (Some x) e).entry y.last_local ≡ Some d) × (d.local ≡ true) × (is_deletion d ≡ false) × (d.fid ≡ g) × (d.uid ≡ uid_of own y)) m.at f (Some x) g (Some y) a
      (λ i xo. let same = some_is x y xo in
      (e, subst (λ z. with_at m.entry m.next_usn (Some e) z ≡ Some e) (sym last ∙ ap (λ z. z.last_local) same) (at_same m.entry m.next_usn (Some e)), local, keeps, fid ∙ sym i, uid ∙ ap (uid_of own) same))
      (λ i yo. let (d, q, r1, r2, r3, r4) = j.last g y yo l in let w = h.entries y.last_local d q in
      (d, at_other m.entry m.next_usn (Some e) y.last_local (λ k. omega (arith, k, w)) ∙ q, r1, r2, r3, r4));
  named = λ n d y l b t a. at_case (uid_of own y ≡ d.uid) m.entry m.next_usn (Some e) n (Some d) b
      (λ k q. let same = some_is e d q in at_case (uid_of own y ≡ d.uid) m.at f (Some x) d.fid (Some y) a
      (λ i xo. ap (uid_of own) (sym (some_is x y xo)) ∙ sym uid ∙ ap (λ z. z.uid) same)
      (λ i yo. absurd (i (ap (λ z. z.fid) (sym same) ∙ fid))))
      (λ k q. at_case (uid_of own y ≡ d.uid) m.at f (Some x) d.fid (Some y) a
      (λ i xo. ap (uid_of own) (sym (some_is x y xo)) ∙ earlier n d l q t i)
      (λ i yo. j.named n d y l q t yo));
  gone = λ n d l b t del a. at_case ((k : ℕ) × (z : VolRecord) × (n < k) × ((wrote m f (Some x) e).entry k ≡ Some z) × (z.local ≡ true) × (z.uid ≡ d.uid)) m.at f (Some x) d.fid None a
      (λ i q. absurd (none_some x (sym q)))
      (λ i q. at_case ((k : ℕ) × (z : VolRecord) × (n < k) × ((wrote m f (Some x) e).entry k ≡ Some z) × (z.local ≡ true) × (z.uid ≡ d.uid)) m.entry m.next_usn (Some e) n (Some d) b
      (λ k r. absurd (i (ap (λ z. z.fid) (sym (some_is e d r)) ∙ fid)))
      (λ k r. let (w, z, less, at, r1, r2) = j.gone n d l r t del q in let u = h.entries w z at in
      (w, z, less, at_other m.entry m.next_usn (Some e) w (λ s. omega (arith, s, u)) ∙ at, r1, r2)));
}

-- and after one that takes it away
pub journal_removed : (own : ℕ) (m : Maps) (c f : ℕ) (x : Object) (e : VolRecord) → NumbersAreFresh m c → JournalIsTrue own m c → m.at f ≡ Some x
    → e.local ≡ true → is_deletion e ≡ true → e.fid ≡ f → e.uid ≡ uid_of own x
    → ((g : ℕ) (y : Object) → g ≢ f → m.at g ≡ Some y → uid_of own y ≢ uid_of own x)
    → JournalIsTrue own (wrote m f None e) c
journal_removed own m c f x e h j was local deletes fid uid others = record {
  later = λ g y n d a l b t s. at_case (n ≤ y.last_local) m.at f None g (Some y) a
      (λ i xo. absurd (none_some y xo))
      (λ i yo. at_case (n ≤ y.last_local) m.entry m.next_usn (Some e) n (Some d) b
      (λ k q. absurd (others g y i yo (sym s ∙ ap (λ z. z.uid) (sym (some_is e d q)) ∙ uid)))
      (λ k q. j.later g y n d yo l q t s));
  last = λ g y a l. at_case ((d : VolRecord) × ((wrote m f None e).entry y.last_local ≡ Some d) × (d.local ≡ true) × (is_deletion d ≡ false) × (d.fid ≡ g) × (d.uid ≡ uid_of own y)) m.at f None g (Some y) a
      (λ i xo. absurd (none_some y xo))
      (λ i yo. let (d, q, r1, r2, r3, r4) = j.last g y yo l in let w = h.entries y.last_local d q in
      (d, at_other m.entry m.next_usn (Some e) y.last_local (λ k. omega (arith, k, w)) ∙ q, r1, r2, r3, r4));
  named = λ n d y l b t a. at_case (uid_of own y ≡ d.uid) m.at f None d.fid (Some y) a
      (λ i xo. absurd (none_some y xo))
      (λ i yo. at_case (uid_of own y ≡ d.uid) m.entry m.next_usn (Some e) n (Some d) b
      (λ k q. absurd (i (ap (λ z. z.fid) (sym (some_is e d q)) ∙ fid)))
      (λ k q. j.named n d y l q t yo));
  gone = λ n d l b t del a. at_case ((k : ℕ) × (z : VolRecord) × (n < k) × ((wrote m f None e).entry k ≡ Some z) × (z.local ≡ true) × (z.uid ≡ d.uid)) m.entry m.next_usn (Some e) n (Some d) b
      (λ k r. absurd (kept d r del))
      (λ k r. at_case ((k : ℕ) × (z : VolRecord) × (n < k) × ((wrote m f None e).entry k ≡ Some z) × (z.local ≡ true) × (z.uid ≡ d.uid)) m.at f None d.fid None a
      (λ i q. let w = h.entries n d r in (m.next_usn, e, w, at_same m.entry m.next_usn (Some e), local, uid ∙ j.named n d x l r t (subst (λ s. m.at s ≡ Some x) (sym i) was)))
      (λ i q. let (w, z, less, at, r1, r2) = j.gone n d l r t del q in let u = h.entries w z at in
      (w, z, less, at_other m.entry m.next_usn (Some e) w (λ s. omega (arith, s, u)) ∙ at, r1, r2)));
}
  where
    kept : (d : VolRecord) → Some e ≡ Some d → is_deletion d ≡ false → ⊥
    kept d r del = let s : is_deletion e ≡ is_deletion d = ap is_deletion (some_is e d r) in cc

-- the journal, after a step of the installer
pub journal_quiet : (own : ℕ) (m : Maps) (c : ℕ) → ((n : ℕ) (d : VolRecord) → c ≤ n → m.entry n ≡ Some d → d.local ≡ true → ⊥)
    → ((g : ℕ) (y : Object) → m.at g ≡ Some y → c ≤ y.last_local → ⊥) → JournalIsTrue own m c
journal_quiet own m c quiet old = record {
  later = λ g y n d a l b t s. absurd (quiet n d l b t);
  last = λ g y a l. absurd (old g y a l);
  named = λ n d y l b t a. absurd (quiet n d l b t);
  gone = λ n d l b t del a. absurd (quiet n d l b t);
}

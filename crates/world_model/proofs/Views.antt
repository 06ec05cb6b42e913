-- Every file of a world has a view, and so few steps of the installer are done for it.
use Rattle.std.proofs.Common.{◌≡◌, ◌⊎◌, ◌<◌, ◌≤◌, ◌+◌, ℕ, zero, suc, Bool, true, false, cond, List, [], ◌∷◌, refl, sym, ap, ◌∙◌, subst, arith, inl, inr, Option, Some, None}
use Rattle.std.specs.Prelude.{count_by}
use Rattle.std.proofs.lemmas.List.Sums.{sum_by-cons}
use Rattle.frs_base.specs.declared.sum.Sum.{Sum}
use Rattle.frs_base.specs.declared.version.Uid.{Uid}
use Rattle.win_order.specs.declared.update.Update.{Update}
use Rattle.vol_state.specs.declared.object.Object.{Object}
use Rattle.vol_state.specs.State.{uid_of}
use Rattle.vol_state.specs.Maps.{Maps}
use Rattle.vol_state.specs.Tables.{IsNew}
use Rattle.record_db.specs.Records.{Has}
use Rattle.record_db.proofs.Keys.{uid_cases}
use Rattle.name_rules.specs.Recorded.{parent_uid}
use Rattle.name_rules.specs.Tree.{IsShown, is_file}
use Rattle.name_rules.specs.declared.step.Step.{Step as InstallStep}
use Rattle.name_rules.specs.declared.step.Step.TheVariants as install_step
use Rattle.name_rules.proofs.Showing.{shown_record}
use Rattle.world_model.specs.World.{World, IsRecordOf}
use Rattle.world_model.specs.Events.{Consume, Install, Unstage}
use Rattle.world_model.specs.Invariant.{Invariant, NumbersAreFresh, PlacesAreATree}
use Rattle.world_model.specs.Due.{IsObject, Lowers, Sees, Tells, View, due}
use Rattle.world_model.specs.Laws.{AreDone, AtMostFourAreDone, IsDone, SeesAt, ViewsAreThere, is_for}
use Rattle.world_model.proofs.Facts.{none_some, some_is, true_false}
use Rattle.world_model.proofs.Deciding.{Decided, IsListed, has_decided, list_decided, records_listed, shown_decided, true_decided}
use Rattle.world_model.proofs.Due.{IsSite, at_most_four, site, steps_lower}
use Rattle.world_model.proofs.Steps.{step_keeps}

-- ---- a file's object and record

-- the file's object, below a number
below : (own : ℕ) (m : Maps) (uid : Uid) (k : ℕ) → Decided ((f : ℕ) × (o : Object) × (f < k) × IsObject own m uid f o)
below own m uid zero = inr (λ (f, o, l, h). omega (arith, l))
below own m uid (suc k) = by (m.at k) refl (below own m uid k)
  where
    Here : Type 0
    Here = (f : ℕ) × (o : Object) × (f < suc k) × IsObject own m uid f o

    lower : Decided ((f : ℕ) × (o : Object) × (f < k) × IsObject own m uid f o) → ((o : Object) → IsObject own m uid k o → ⊥) → Decided Here
    lower (inl (f, o, l, h)) none = inl (f, o, omega (arith, l), h)
    lower (inr n) none = inr (λ (f, o, l, h). elim (cases f l) [ inl e ↦ none o (subst (λ i. IsObject own m uid i o) e h) | inr less ↦ n (f, o, less, h) ])
      where
        cases : (f : ℕ) → f < suc k → (f ≡ k) ⊎ (f < k)
        cases f l = grind (arith, l)

    by : (x : Option Object) → m.at k ≡ x → Decided ((f : ℕ) × (o : Object) × (f < k) × IsObject own m uid f o) → Decided Here
    by None e r = lower r (λ o h. none_some o (sym e ∙ h.0))
    by (Some q) e r = elim (uid_cases (uid_of own q) uid) [
      | inl is ↦ inl (k, q, omega arith, (e, is))
      | inr n ↦ lower r (λ o h. n (ap (uid_of own) (some_is q o (sym e ∙ h.0)) ∙ h.1))
    ]

-- a file has one object or none
abbrev pub HasSite : ℕ → Maps → Uid → Type 0
HasSite own m uid = ((f : ℕ) × (o : Object) × IsSite own m uid f o) ⊎ IsNew own m uid

pub has_site : (own : ℕ) (m : Maps) (consumed : ℕ) (uid : Uid) → PlacesAreATree own m → NumbersAreFresh m consumed → HasSite own m uid
has_site own m consumed uid tree fresh = elim (below own m uid m.next_fid) [
  | inl (f, o, l, h) ↦ inl (f, o, site own m f o uid tree h.0 h.1)
  | inr n ↦ inr (λ f o at id. n (f, o, fresh.fids f o at, (at, id)))
]

-- ---- what a view tells

told_by : {P : Type 0} → Decided P → (b : Bool) × Tells b P
told_by (inl p) = (true, inl (refl, p))
told_by (inr n) = (false, inr (refl, n))

-- whether a file's record passes a test
pub of_record : (R : Update → Type 0) (l : IsListed R) (uid : Uid) (P : Update → Type 0) → ((u : Update) → R u → Decided (P u)) → Decided ((u : Update) × R u × (u.uid ≡ uid) × P u)
of_record R l uid P each = elim (has_decided R l uid) [
  | inl (u, r, id) ↦ elim (each u r) [ inl p ↦ inl (u, r, id, p) | inr n ↦ inr (λ (q, r', id', p). n (subst P (l.one q u r' r (id' ∙ sym id)) p)) ]
  | inr n ↦ inr (λ (q, r', id', p). n (q, r', id'))
]

-- whether a file's object is placed, and is so at its record's place
is_placed : (own : ℕ) (m : Maps) (uid : Uid) → HasSite own m uid → Decided ((f : ℕ) × (o : Object) × (p : ℕ × List ℕ) × IsObject own m uid f o × (o.place ≡ Some p))
is_placed own m uid (inr n) = inr (λ (f, o, p, h, e). n f o h.0 h.1)
is_placed own m uid (inl (f, o, s)) = by o.place refl
  where
    by : (place : Option (ℕ × List ℕ)) → o.place ≡ place → Decided ((f : ℕ) × (o : Object) × (p : ℕ × List ℕ) × IsObject own m uid f o × (o.place ≡ Some p))
    by (Some p) e = inl (f, o, p, (s.there, s.is), e)
    by None e = inr (λ (g, z, p, h, k). none_some p (sym e ∙ (ap (λ w. w.place) (s.only g z h).1 ∙ k)))

abbrev IsExact : (Update → Type 0) → ℕ → Maps → Uid → Type 0
IsExact R own m uid = (f : ℕ) × (o : Object) × (p : ℕ × List ℕ) × (u : Update) × IsObject own m uid f o × (o.place ≡ Some p)
    × R u × (u.uid ≡ uid) × (u.parent ≡ parent_uid own m p.0) × (u.name ≡ p.1)

is_exact : (R : Update → Type 0) (l : IsListed R) (own : ℕ) (m : Maps) (uid : Uid) → HasSite own m uid → Decided (IsExact R own m uid)
is_exact R l own m uid (inr n) = inr (λ (f, o, p, u, h, e, r, id, up, name). n f o h.0 h.1)
is_exact R l own m uid (inl (f, o, s)) = by o.place refl (has_decided R l uid)
  where
    at : (p : ℕ × List ℕ) → o.place ≡ Some p → (u : Update) → R u → u.uid ≡ uid → Decided (u.parent ≡ parent_uid own m p.0) → Decided (u.name ≡ p.1) → Decided (IsExact R own m uid)
    at p e u r id (inl up) (inl name) = inl (f, o, p, u, (s.there, s.is), e, r, id, up, name)
    at p e u r id (inr n) name = inr (λ (g, z, q, v, h, k, r', id', up, _).
        n (ap (λ w. w.parent) (l.one u v r r' (id ∙ sym id')) ∙ (up ∙ ap (λ w. parent_uid own m w.0) (some_is q p (sym k ∙ (ap (λ w. w.place) (sym (s.only g z h).1) ∙ e))))))
    at p e u r id (inl up) (inr n) = inr (λ (g, z, q, v, h, k, r', id', _, name).
        n (ap (λ w. w.name) (l.one u v r r' (id ∙ sym id')) ∙ (name ∙ ap (λ w. w.1) (some_is q p (sym k ∙ (ap (λ w. w.place) (sym (s.only g z h).1) ∙ e))))))

    by : (place : Option (ℕ × List ℕ)) → o.place ≡ place → Decided (Has R uid) → Decided (IsExact R own m uid)
    by None e h = inr (λ (g, z, p, u, k, e', r, id, up, name). none_some p (sym e ∙ (ap (λ w. w.place) (s.only g z k).1 ∙ e')))
    by (Some p) e (inr n) = inr (λ (g, z, q, u, k, e', r, id, up, name). n (u, r, id))
    by (Some p) e (inl (u, r, id)) = at p e u r id (uid_cases u.parent (parent_uid own m p.0)) (list_decided u.name p.1)

-- whether two sums are one
pub sum_decided : (a b : Sum) → Decided (a ≡ b)
sum_decided a b = elim (list_decided a.0 b.0) [ inl e ↦ inl (λ i. record { 0 = e i }) | inr n ↦ inr (λ e. n (ap (λ (s : Sum). s.0) e)) ]

-- whether a file's object has another sum than its record
is_other : (R : Update → Type 0) (l : IsListed R) (own : ℕ) (m : Maps) (uid : Uid) → HasSite own m uid
    → Decided ((f : ℕ) × (o : Object) × (u : Update) × IsObject own m uid f o × R u × (u.uid ≡ uid) × (o.sum ≡ u.hash → ⊥))
is_other R l own m uid (inr n) = inr (λ (f, o, u, h, r, id, d). n f o h.0 h.1)
is_other R l own m uid (inl (f, o, s)) = elim (has_decided R l uid) [
  | inr n ↦ inr (λ (g, z, u, h, r, id, d). n (u, r, id))
  | inl (u, r, id) ↦ elim (sum_decided o.sum u.hash) [
    | inl e ↦ inr (λ (g, z, v, h, r', id', d). d (ap (λ w. w.sum) (sym (s.only g z h).1) ∙ (e ∙ ap (λ w. w.hash) (l.one u v r r' (id ∙ sym id')))))
    | inr d ↦ inl (f, o, u, (s.there, s.is), r, id, d)
  ]
]

is_object : (own : ℕ) (m : Maps) (uid : Uid) → HasSite own m uid → Decided ((f : ℕ) × (o : Object) × IsObject own m uid f o)
is_object own m uid (inl (f, o, s)) = inl (f, o, (s.there, s.is))
is_object own m uid (inr n) = inr (λ (f, o, h). n f o h.0 h.1)

pub is_shown : (R : Update → Type 0) (l : IsListed R) (uid : Uid) → Decided ((u : Update) × IsShown R u × (u.uid ≡ uid))
is_shown R l uid = elim (of_record R l uid (IsShown R) (shown_decided R l)) [
  | inl (u, r, id, s) ↦ inl (u, s, id)
  | inr n ↦ inr (λ (u, s, id). n (u, shown_record R u s, id, s))
]

is_staged : (content : Option Sum) → Decided ((sum : Sum) × (content ≡ Some sum))
is_staged None = inr (λ (s, e). none_some s e)
is_staged (Some s) = inl (s, refl)

false_decided : (b : Bool) → Decided (b ≡ false)
false_decided true = inr (λ e. true_false true refl e)
false_decided false = inl refl

view_of : (R : Update → Type 0) → IsListed R → (own : ℕ) (m : Maps) (contents : Uid → Option Sum) (uid : Uid) → HasSite own m uid → (v : View) × Sees R own m contents uid v
view_of R l own m contents uid s =
    let shown = told_by (is_shown R l uid) in
    let tombstone = told_by (of_record R l uid (λ u. u.present ≡ false) (λ u r. false_decided u.present)) in
    let file = told_by (of_record R l uid (λ u. is_file u ≡ true) (λ u r. true_decided (is_file u))) in
    let object = told_by (is_object own m uid s) in
    let placed = told_by (is_placed own m uid s) in
    let exact = told_by (is_exact R l own m uid s) in
    let differs = told_by (is_other R l own m uid s) in
    let staged = told_by (is_staged (contents uid)) in (
      record { shown = shown.0; tombstone = tombstone.0; file = file.0; object = object.0; placed = placed.0; exact = exact.0; differs = differs.0; staged = staged.0 },
      record { shown = shown.1; tombstone = tombstone.1; file = file.1; object = object.1; placed = placed.1; exact = exact.1; differs = differs.1; staged = staged.1 },
    )

pub views_there : ViewsAreThere
views_there w h d uid = view_of (IsRecordOf w d) (records_listed w.all (w.at d).known h.versions.one_each) d (w.at d).volume (w.at d).staged uid
    (has_site d (w.at d).volume (w.at d).consumed uid (h.members d).places (h.members d).numbers)

-- ---- how many steps are done

-- a step that is done is an event, which keeps the invariant
pub kept : (w : World) (d : ℕ) (step : InstallStep) (new : World) → Invariant w → IsDone w d step new → Invariant new
kept w d (install_step.Park file) new h (op, by, step) = step_keeps w d (Install op) new h step
kept w d (install_step.Erase file) new h (op, by, step) = step_keeps w d (Install op) new h step
kept w d (install_step.Make file) new h (op, by, step) = step_keeps w d (Install op) new h step
kept w d (install_step.Rewrite file) new h (op, by, step) = step_keeps w d (Install op) new h step
kept w d (install_step.Place file) new h (op, by, step) = step_keeps w d (Install op) new h step
kept w d (install_step.Unstage file) new h step = step_keeps w d (Unstage file) new h step
kept w d (install_step.Skip usn) new h (moment, is, quiet, step) = step_keeps w d (Consume moment) new h step

-- the steps for a file are counted one by one
pub counted : (step : InstallStep) (steps : List InstallStep) (uid : Uid)
    → count_by (λ other. is_for other uid) (step ∷ steps) ≡ cond (is_for step uid) 1 0 + count_by (λ other. is_for other uid) steps
counted step steps uid = sum_by-cons (λ other. cond (is_for other uid) 1 0) step steps

-- no more are done for a file than are due
few_done : (w : World) → Invariant w → (d : ℕ) (steps : List InstallStep) (new : World) → AreDone w d steps new → (uid : Uid) (v : View) → SeesAt w d uid v → count_by (λ step. is_for step uid) steps ≤ due v
few_done w h d [] new done uid v s = omega arith
few_done w h d (step ∷ steps) new (mid, done, more) uid v s =
    let (v', s') = views_there mid (kept w d step mid h done) d uid in
    let rest = few_done mid (kept w d step mid h done) d steps new more uid v' s' in
    subst (λ n. n ≤ due v) (sym (counted step steps uid)) (by (is_for step uid) refl v' s' rest)
  where
    low : Lowers (SeesAt w d) (SeesAt mid d) (is_for step)
    low = steps_lower w h d step mid done

    by : (b : Bool) → is_for step uid ≡ b → (v' : View) → SeesAt mid d uid v' → count_by (λ other. is_for other uid) steps ≤ due v' → cond b 1 0 + count_by (λ other. is_for other uid) steps ≤ due v
    by true e v' s' rest = let less : due v' < due v = low.less uid v v' e s s' in omega (arith, rest, less)
    by false e v' s' rest = let no_more : due v' ≤ due v = low.no_more uid v v' s s' in omega (arith, rest, no_more)

pub at_most_four_done : AtMostFourAreDone
at_most_four_done w h d steps new done uid =
    let (v, s) = views_there w h d uid in
    let few = few_done w h d steps new done uid v s in
    let four = at_most_four w h d uid v s in
    omega (arith, few, four)

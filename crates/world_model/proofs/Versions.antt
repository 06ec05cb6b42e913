-- Each version is made once, and what was sent stays covered.
use Rattle.std.proofs.Common.{◌≡◌, ◌<◌, ◌≤◌, ◌+◌, ◌⊎◌, ℕ, true, ◌∷◌, refl, sym, ap, ◌∙◌, subst, arith, inl, inr, Option, Some, None}
use Rattle.std.specs.Prelude.{option_to_list}
use Rattle.std.proofs.lemmas.Bool.{cases_eq}
use Rattle.frs_base.specs.Options.{In}
use Rattle.frs_base.specs.declared.version.Gvsn.{Gvsn}
use Rattle.win_order.specs.declared.update.Update.{Update}
use Rattle.vol_state.specs.Maps.{with_at}
use Rattle.record_db.specs.Records.{Covered}
use Rattle.record_db.proofs.Sets.{both_cases, both_old, in_append, plus_cases, plus_new, plus_old}
use Rattle.name_rules.proofs.Cases.{made_version}
use Rattle.world_model.specs.World.{Member, SentUpdate, SentVector, World, IsConsumed, with_member}
use Rattle.world_model.specs.Events.{Event, IsOfFile, IsOfPage, Records, Step, Local, Consume, SendVector, SendUpdate, Adopt, Finish, Install, Unstage, consumed_by, consumes}
use Rattle.world_model.specs.Invariant.{SentIsKnown, VersionsAreMade}
use Rattle.world_model.specs.Runs.{Grows}
use Rattle.world_model.proofs.Changing.{at_each, at_same}
use Rattle.world_model.proofs.Growth.{consume_grows, later, step_grows}

-- ---- a member that has consumed as much

pub same_consumed : (w : World) (d : ℕ) (x : Member) → x.consumed ≡ (w.at d).consumed → (j : ℕ) → (with_at w.at d x j).consumed ≡ (w.at j).consumed
same_consumed w d x e = at_each (λ j y. y.consumed ≡ (w.at j).consumed) w.at d x e (λ j n. refl)

-- what was consumed is consumed
pub to_new : (w : World) (d : ℕ) (x : Member) → x.consumed ≡ (w.at d).consumed → (g : Gvsn) → IsConsumed w g → IsConsumed (with_member w d x) g
to_new w d x e g (low, high) = let s = same_consumed w d x e g.db in (low, omega (arith, high, s))

-- and nothing else
pub to_old : (w : World) (d : ℕ) (x : Member) → x.consumed ≡ (w.at d).consumed → (g : Gvsn) → IsConsumed (with_member w d x) g → IsConsumed w g
to_old w d x e g (low, high) = let s = same_consumed w d x e g.db in (low, omega (arith, high, s))

-- a member that covers more, all of it consumed
member_made : (w : World) (d : ℕ) (x : Member) → VersionsAreMade w → x.consumed ≡ (w.at d).consumed → ((g : Gvsn) → x.known g ≡ true → IsConsumed w g)
    → ((g : Gvsn) → (w.at d).known g ≡ true → x.known g ≡ true) → VersionsAreMade (with_member w d x)
member_made w d x h e made more = record {
  begun = λ j. let s = same_consumed w d x e j in let b = h.begun j in omega (arith, s, b);
  one_each = h.one_each;
  recorded = λ u k. to_new w d x e u.gvsn (h.recorded u k);
  known = at_each (λ j y. (g : Gvsn) → y.known g ≡ true → IsConsumed (with_member w d x) g) w.at d x (λ g k. to_new w d x e g (made g k)) (λ j n g k. to_new w d x e g (h.known j g k));
  sent = λ s g k t. to_new w d x e g (h.sent s g k t);
  own = λ g k. at_each (λ j y. (w.at j).known g ≡ true → y.known g ≡ true) w.at d x (more g) (λ j n t. t) g.db (h.own g (to_old w d x e g k));
}

version_is : (g : Gvsn) (d n : ℕ) → g.db ≡ d → g.version ≡ n → g ≡ record { db = d; version = n }
version_is g d n e v = λ i. record { db = e i; version = v i }

-- ---- a member that consumed a record

consume_made : (w : World) (d moment : ℕ) (made : Option Update) → VersionsAreMade w → Records w d moment made → VersionsAreMade (consumes w d made)
consume_made w d moment made h r = record {
  begun = at_each (λ j y. 9 ≤ y.consumed) w.at d new (let b = h.begun d in omega (arith, b)) (λ j n. h.begun j);
  one_each = λ u v a b s. one u v (in_append u w.all (option_to_list made) a) (in_append v w.all (option_to_list made) b) s;
  recorded = λ u a. elim (in_append u w.all (option_to_list made) a) [ inl old ↦ next u.gvsn (h.recorded u old) | inr now ↦ subst (IsConsumed (consumes w d made)) (sym (version u now)) at_now ];
  known = at_each (λ j y. (g : Gvsn) → y.known g ≡ true → IsConsumed (consumes w d made) g) w.at d new
      (λ g t. elim (plus_cases (w.at d).known (record { db = d; version = (w.at d).consumed }) g t) [ inl s ↦ subst (IsConsumed (consumes w d made)) (sym s) at_now | inr k ↦ next g (h.known d g k) ])
      (λ j n g k. next g (h.known j g k));
  sent = λ s g k t. next g (h.sent s g k t);
  own = λ g k. at_each (λ j y. g.db ≡ j → 9 ≤ g.version → g.version < y.consumed → y.known g ≡ true) w.at d new
      (λ e low high. mine g e low high) (λ j n e low high. subst (λ y. (w.at y).known g ≡ true) e (h.own g (low, subst (λ y. g.version < (w.at y).consumed) (sym e) high))) g.db refl k.0 k.1;
}
  where
    new : Member
    new = consumed_by d made (w.at d)

    next : (g : Gvsn) → IsConsumed w g → IsConsumed (consumes w d made) g
    next g k = later w (consumes w d made) (consume_grows w d moment made r) g k

    version : (u : Update) → In u (option_to_list made) → u.gvsn ≡ record { db = d; version = (w.at d).consumed }
    version u now = by made r now
      where
        by : (o : Option Update) → Records w d moment o → In u (option_to_list o) → u.gvsn ≡ record { db = d; version = (w.at d).consumed }
        by None q k = absurd k
        by (Some x) q (inr k) = absurd k
        by (Some x) (r, held, at, is_held, is) (inl s) = ap (λ y. y.gvsn) s ∙ made_version d (w.at d).volume _ (w.at d).consumed moment r held x is

    at_now : IsConsumed (consumes w d made) (record { db = d; version = (w.at d).consumed })
    at_now = (h.begun d, subst (λ (y : Member). (w.at d).consumed < y.consumed) (sym (at_same w.at d new)) (omega arith))

    apart : (u v : Update) → In u w.all → In v (option_to_list made) → u.gvsn ≡ v.gvsn → ⊥
    apart u v old now s =
        let bad : (w.at d).consumed < (w.at d).consumed = subst (λ y. y.version < (w.at y.db).consumed) (s ∙ version v now) (h.recorded u old).1 in
        omega (arith, bad)

    single : (o : Option Update) (u v : Update) → In u (option_to_list o) → In v (option_to_list o) → u ≡ v
    single None u v a b = absurd a
    single (Some x) u v (inr a) b = absurd a
    single (Some x) u v (inl a) (inr b) = absurd b
    single (Some x) u v (inl a) (inl b) = a ∙ sym b

    one : (u v : Update) → In u w.all ⊎ In u (option_to_list made) → In v w.all ⊎ In v (option_to_list made) → u.gvsn ≡ v.gvsn → u ≡ v
    one u v (inl a) (inl b) s = h.one_each u v a b s
    one u v (inl a) (inr b) s = absurd (apart u v a b s)
    one u v (inr a) (inl b) s = absurd (apart v u b a (sym s))
    one u v (inr a) (inr b) s = single made u v a b

    mine : (g : Gvsn) → g.db ≡ d → 9 ≤ g.version → g.version < (w.at d).consumed + 1 → new.known g ≡ true
    mine g e low high = elim (cases_eq g.version (w.at d).consumed) [
      | inl v ↦ subst (λ x. new.known x ≡ true) (sym (version_is g d (w.at d).consumed e v)) (plus_new (w.at d).known (record { db = d; version = (w.at d).consumed }))
      | inr n ↦ plus_old (w.at d).known _ g (subst (λ y. (w.at y).known g ≡ true) e (h.own g (low, subst (λ y. g.version < (w.at y).consumed) (sym e) (omega (arith, high, n)))))
    ]

-- ---- every event

-- makes each version once
pub step_made : (w : World) (d : ℕ) (e : Event) (new : World) → VersionsAreMade w → SentIsKnown w → Step w d e new → VersionsAreMade new
step_made w d (Local op) new h k (_, is) = subst VersionsAreMade (sym is) (member_made w d _ h refl (h.known d) (λ g t. t))
step_made w d (Consume moment) new h k (_, made, r, is) = subst VersionsAreMade (sym is) (consume_made w d moment made h r)
step_made w d SendVector new h k is = subst VersionsAreMade (sym is) (record {
  begun = h.begun;
  one_each = h.one_each;
  recorded = h.recorded;
  known = h.known;
  sent = λ s g a t. sent s g a t;
  own = h.own;
})
  where
    sent : (s : SentVector) (g : Gvsn) → In s (record { from = d; versions = (w.at d).known } ∷ w.vectors) → s.versions g ≡ true → IsConsumed w g
    sent s g (inl e) t = h.known d g (subst (λ x. x.versions g ≡ true) e t)
    sent s g (inr a) t = h.sent s g a t
step_made w d (SendUpdate u) new h k (_, is) = subst VersionsAreMade (sym is) (record { begun = h.begun; one_each = h.one_each; recorded = h.recorded; known = h.known; sent = h.sent; own = h.own })
step_made w d (Adopt u) new h k ((from, sent), _, is) =
    subst VersionsAreMade (sym is) (member_made w d _ h refl
    (λ g t. elim (plus_cases (w.at d).known u.gvsn g t) [ inl e ↦ subst (IsConsumed w) (sym e) (h.recorded u (k.updates _ sent).0) | inr old ↦ h.known d g old ])
    (λ g t. plus_old (w.at d).known u.gvsn g t))
step_made w d (Finish s) new h k ((from, sent), _, is) =
    subst VersionsAreMade (sym is) (member_made w d _ h refl
    (λ g t. elim (both_cases (w.at d).known s g t) [ inl old ↦ h.known d g old | inr t ↦ h.sent _ g sent t ])
    (λ g t. both_old (w.at d).known s g t))
step_made w d (Install op) new h k (_, _, _, is) = subst VersionsAreMade (sym is) (member_made w d _ h refl (h.known d) (λ g t. t))
step_made w d (Unstage id) new h k (_, _, _, _, _, is) = subst VersionsAreMade (sym is) (member_made w d _ h refl (h.known d) (λ g t. t))

-- where nothing is sent
sent_kept : (w new : World) → Grows w new → ((s : SentVector) → In s new.vectors → In s w.vectors) → ((s : SentUpdate) → In s new.updates → In s w.updates) → SentIsKnown w → SentIsKnown new
sent_kept w new h v u k = record {
  vectors = λ s g a t. h.known s.from g (k.vectors s g (v s a) t);
  updates = λ s a. let c = k.updates s (u s a) in (h.all s.update c.0, h.known s.from s.update.gvsn c.1);
}

-- keeps what was sent covered
pub step_sent : (w : World) (d : ℕ) (e : Event) (new : World) → SentIsKnown w → Step w d e new → SentIsKnown new
step_sent w d (Local op) new k s = sent_kept w new (step_grows w d (Local op) new s) (λ x a. subst (λ y. In x y.vectors) s.1 a) (λ x a. subst (λ y. In x y.updates) s.1 a) k
step_sent w d (Consume moment) new k s = sent_kept w new (step_grows w d (Consume moment) new s) (λ x a. subst (λ y. In x y.vectors) s.3 a) (λ x a. subst (λ y. In x y.updates) s.3 a) k
step_sent w d SendVector new k s = subst SentIsKnown (sym s) (record { vectors = λ x g a t. vectors x g a t; updates = k.updates })
  where
    vectors : (s : SentVector) (g : Gvsn) → In s (record { from = d; versions = (w.at d).known } ∷ w.vectors) → s.versions g ≡ true → (w.at s.from).known g ≡ true
    vectors s g (inl e) t = subst (λ x. (w.at x.from).known g ≡ true) (sym e) (subst (λ x. x.versions g ≡ true) e t)
    vectors s g (inr a) t = k.vectors s g a t
step_sent w d (SendUpdate u) new k s = subst SentIsKnown (sym s.1) (record { vectors = k.vectors; updates = λ x a. updates x a })
  where
    known : IsOfPage w d u ⊎ IsOfFile w d u → Covered w.all (w.at d).known u
    known (inl (s, a, r)) = (r.among.0, k.vectors _ u.gvsn a r.among.1)
    known (inr r) = r.0.among

    updates : (x : SentUpdate) → In x (record { from = d; update = u } ∷ w.updates) → Covered w.all (w.at x.from).known x.update
    updates x (inl e) = subst (λ y. Covered w.all (w.at y.from).known y.update) (sym e) (known s.0)
    updates x (inr a) = k.updates x a
step_sent w d (Adopt u) new k s = sent_kept w new (step_grows w d (Adopt u) new s) (λ x a. subst (λ y. In x y.vectors) s.2 a) (λ x a. subst (λ y. In x y.updates) s.2 a) k
step_sent w d (Finish v) new k s = sent_kept w new (step_grows w d (Finish v) new s) (λ x a. subst (λ y. In x y.vectors) s.2 a) (λ x a. subst (λ y. In x y.updates) s.2 a) k
step_sent w d (Install op) new k s = sent_kept w new (step_grows w d (Install op) new s) (λ x a. subst (λ y. In x y.vectors) s.3 a) (λ x a. subst (λ y. In x y.updates) s.3 a) k
step_sent w d (Unstage id) new k s = sent_kept w new (step_grows w d (Unstage id) new s) (λ x a. subst (λ y. In x y.vectors) s.5 a) (λ x a. subst (λ y. In x y.updates) s.5 a) k

-- What grows in every event: All, what is consumed, what is covered, what was sent; and by new versions only.
use Rattle.std.proofs.Common.{◌≡◌, ◌<◌, ◌≤◌, ℕ, true, List, [], ◌∷◌, sym, ap, ◌∙◌, subst, arith, inl, inr, Option, Some, None}
use Rattle.std.specs.Prelude.{option_to_list}
use Rattle.frs_base.specs.Options.{In}
use Rattle.frs_base.specs.declared.version.Gvsn.{Gvsn}
use Rattle.win_order.specs.declared.update.Update.{Update}
use Rattle.record_db.specs.Records.{Versions}
use Rattle.record_db.proofs.Sets.{both_old, in_append, in_before, plus_old}
use Rattle.name_rules.specs.Recorded.{base_fence, recorded_of}
use Rattle.name_rules.proofs.Cases.{made_version}
use Rattle.world_model.specs.World.{Member, World, IsConsumed, with_member}
use Rattle.world_model.specs.Events.{Event, Records, Step, Local, Consume, SendVector, SendUpdate, Adopt, Finish, Install, Unstage, consumed_by, consumes}
use Rattle.world_model.specs.Runs.{CoversAlike, Grows, Happening, Run}
use Rattle.world_model.proofs.Changing.{at_each}

pub grows_refl : (w : World) → Grows w w
grows_refl w = record { all = λ u h. h; fresh = λ u h. inl h; consumed = λ d. omega arith; known = λ d g h. h; vectors = λ s h. h; updates = λ s h. h }

-- what was consumed is consumed later
pub later : (w new : World) → Grows w new → (g : Gvsn) → IsConsumed w g → IsConsumed new g
later w new h g (low, high) = let more = h.consumed g.db in (low, omega (arith, high, more))

pub grows_trans : (a b c : World) → Grows a b → Grows b c → Grows a c
grows_trans a b c p q = record {
  all = λ u h. q.all u (p.all u h);
  fresh = λ u h. elim (q.fresh u h) [ inl old ↦ p.fresh u old | inr n ↦ inr (λ k. n (later a b p u.gvsn k)) ];
  consumed = λ d. let x = p.consumed d in let y = q.consumed d in omega (arith, x, y);
  known = λ d g h. q.known d g (p.known d g h);
  vectors = λ s h. q.vectors s (p.vectors s h);
  updates = λ s h. q.updates s (p.updates s h);
}

-- a member that has consumed as much, and covers as much
pub member_grows : (w : World) (d : ℕ) (x : Member) → (w.at d).consumed ≤ x.consumed → ((g : Gvsn) → (w.at d).known g ≡ true → x.known g ≡ true) → Grows w (with_member w d x)
member_grows w d x c k = record {
  all = λ u h. h;
  fresh = λ u h. inl h;
  consumed = at_each (λ j y. (w.at j).consumed ≤ y.consumed) w.at d x c (λ j n. omega arith);
  known = at_each (λ j y. (g : Gvsn) → (w.at j).known g ≡ true → y.known g ≡ true) w.at d x k (λ j n g h. h);
  vectors = λ s h. h;
  updates = λ s h. h;
}

-- a member that consumed a record
pub consume_grows : (w : World) (d moment : ℕ) (made : Option Update) → Records w d moment made → Grows w (consumes w d made)
consume_grows w d moment made (r, held, at, is_held, is) = record {
  all = λ u h. in_before u w.all (option_to_list made) h;
  fresh = λ u h. elim (in_append u w.all (option_to_list made) h) [ inl old ↦ inl old | inr new ↦ inr (by made is u new) ];
  consumed = at_each (λ j y. (w.at j).consumed ≤ y.consumed) w.at d (consumed_by d made (w.at d)) (omega arith) (λ j n. omega arith);
  known = at_each (λ j y. (g : Gvsn) → (w.at j).known g ≡ true → y.known g ≡ true) w.at d (consumed_by d made (w.at d)) (λ g h. plus_old (w.at d).known _ g h) (λ j n g h. h);
  vectors = λ s h. h;
  updates = λ s h. h;
}
  where
    by : (made : Option Update) → made ≡ recorded_of d (w.at d).volume (base_fence (w.at d).phase (w.at d).kind) (w.at d).consumed moment r held → (u : Update)
        → In u (option_to_list made) → IsConsumed w u.gvsn → ⊥
    by None is u h c = h
    by (Some x) is u (inr h) c = h
    by (Some x) is u (inl s) (low, high) =
        let g : u.gvsn ≡ record { db = d; version = (w.at d).consumed } = ap (λ y. y.gvsn) s ∙ made_version d (w.at d).volume _ (w.at d).consumed moment r held x is in
        let bad : (w.at d).consumed < (w.at d).consumed = subst (λ y. y.version < (w.at y.db).consumed) g high in
        omega (arith, bad)

-- every event
pub step_grows : (w : World) (d : ℕ) (e : Event) (new : World) → Step w d e new → Grows w new
step_grows w d (Local op) new (_, is) = subst (Grows w) (sym is) (member_grows w d _ (omega arith) (λ g h. h))
step_grows w d (Consume moment) new (_, made, r, is) = subst (Grows w) (sym is) (consume_grows w d moment made r)
step_grows w d SendVector new is =
    subst (Grows w) (sym is) (record { all = λ u h. h; fresh = λ u h. inl h; consumed = λ j. omega arith; known = λ j g h. h; vectors = λ s h. inr h; updates = λ s h. h })
step_grows w d (SendUpdate u) new (_, is) =
    subst (Grows w) (sym is) (record { all = λ u h. h; fresh = λ u h. inl h; consumed = λ j. omega arith; known = λ j g h. h; vectors = λ s h. h; updates = λ s h. inr h })
step_grows w d (Adopt u) new (_, _, is) = subst (Grows w) (sym is) (member_grows w d _ (omega arith) (λ g h. plus_old (w.at d).known u.gvsn g h))
step_grows w d (Finish s) new (_, _, is) = subst (Grows w) (sym is) (member_grows w d _ (omega arith) (λ g h. both_old (w.at d).known s g h))
step_grows w d (Install op) new (_, _, _, is) = subst (Grows w) (sym is) (member_grows w d _ (omega arith) (λ g h. h))
step_grows w d (Unstage uid) new (_, _, _, _, _, is) = subst (Grows w) (sym is) (member_grows w d _ (omega arith) (λ g h. h))

-- and every run
pub run_grows : (w : World) (hs : List Happening) (new : World) → Run w hs new → Grows w new
run_grows w [] new e = subst (Grows w) (sym e) (grows_refl w)
run_grows w (h ∷ hs) new (mid, s, r) = grows_trans w mid new (step_grows w h.at h.event mid s) (run_grows mid hs new r)

-- what consumed versions cover doesn't change
pub stays : (w new : World) (s : Versions) → ((g : Gvsn) → s g ≡ true → IsConsumed w g) → Grows w new → CoversAlike w new s
stays w new s c h = record {
  stays = λ u k. (h.all u k.0, k.1);
  only = λ u k. elim (h.fresh u k.0) [ inl old ↦ (old, k.1) | inr n ↦ absurd (n (c u.gvsn k.1)) ];
}

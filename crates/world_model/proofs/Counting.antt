-- All has at most an update for each version that was consumed.
use Rattle.std.proofs.Common.{◌≡◌, ◌⊎◌, ◌≤◌, ◌+◌, ◌-◌, ℕ, All, List, [], ◌∷◌, length, sum_by, sym, ap, subst, arith, inl, inr, Option, Some, None}
use Rattle.std.specs.Prelude.{option_to_list}
use Rattle.std.proofs.lemmas.List.Elements.{All-head, All-tail}
use Rattle.std.proofs.lemmas.List.Sums.{sum_by-cons, sum_by-le-sum_by}
use Rattle.std.proofs.Common.{length-append}
use Rattle.frs_base.specs.Options.{In}
use Rattle.world_model.specs.World.{Member, World}
use Rattle.world_model.specs.Events.{Event, Step, Local, Consume, SendVector, SendUpdate, Adopt, Finish, Install, Unstage, consumed_by}
use Rattle.world_model.specs.Runs.{Grows, Happening, Run}
use Rattle.world_model.specs.Laws.{AllIsCounted}
use Rattle.world_model.proofs.Changing.{at_same}
use Rattle.world_model.proofs.Growth.{step_grows}

-- ---- sums

-- a sum of terms that are no smaller, and of which one is larger
pub sum_more : {X : Type 0} (f g : X → ℕ) (xs : List X) (k : X) → ((d : X) → f d ≤ g d) → f k + 1 ≤ g k → In k xs → sum_by f xs + 1 ≤ sum_by g xs
sum_more f g [] k more one h = absurd h
sum_more f g (x ∷ xs) k more one (inl e) =
    let here : f x + 1 ≤ g x = subst (λ j. f j + 1 ≤ g j) e one in
    omega (arith, here, sum_by-le-sum_by f g xs more, sum_by-cons f x xs, sum_by-cons g x xs)
sum_more f g (x ∷ xs) k more one (inr h) = omega (arith, more x, sum_more f g xs k more one h, sum_by-cons f x xs, sum_by-cons g x xs)

-- ---- events

-- how many versions a member has consumed
abbrev consumed_past : World → ℕ → ℕ
consumed_past w d = (w.at d).consumed - 9

option_length : {X : Type 0} (o : Option X) → length (option_to_list o) ≤ 1
option_length None = omega arith
option_length (Some x) = omega arith

-- All stays, or has one more, and the member has consumed one more
step_counts : (w : World) (d : ℕ) (e : Event) (new : World) → Step w d e new → (new.all ≡ w.all) ⊎ ((length new.all ≤ length w.all + 1) × ((new.at d).consumed ≡ (w.at d).consumed + 1))
step_counts w d (Local op) new s = inl (ap (λ (z : World). z.all) s.1)
step_counts w d (Consume moment) new (_, made, r, is) = inr (
  subst (λ (z : World). length z.all ≤ length w.all + 1) (sym is) (omega (arith, length-append w.all (option_to_list made), option_length made)),
  subst (λ (z : World). (z.at d).consumed ≡ (w.at d).consumed + 1) (sym is) (ap (λ (x : Member). x.consumed) (at_same w.at d (consumed_by d made (w.at d)))),
)
step_counts w d SendVector new s = inl (ap (λ (z : World). z.all) s)
step_counts w d (SendUpdate u) new s = inl (ap (λ (z : World). z.all) s.1)
step_counts w d (Adopt u) new s = inl (ap (λ (z : World). z.all) s.2)
step_counts w d (Finish v) new s = inl (ap (λ (z : World). z.all) s.2)
step_counts w d (Install op) new s = inl (ap (λ (z : World). z.all) s.3)
step_counts w d (Unstage uid) new s = inl (ap (λ (z : World). z.all) s.5)

-- ---- runs

run_counts : (members : List ℕ) (w : World) (hs : List Happening) (new : World) → ((d : ℕ) → 9 ≤ (w.at d).consumed) → length w.all ≤ sum_by (consumed_past w) members
    → All (λ (h : Happening). In h.at members) hs → Run w hs new → length new.all ≤ sum_by (consumed_past new) members
run_counts members w [] new begun counted all is = subst (λ (z : World). length z.all ≤ sum_by (consumed_past z) members) (sym is) counted
run_counts members w (h ∷ hs) new begun counted all (mid, s, rest) =
    run_counts members mid hs new (λ d. let a = begun d in let b = g.consumed d in omega (arith, a, b)) (by (step_counts w h.at h.event mid s)) (All-tail (λ (x : Happening). In x.at members) h hs all) rest
  where
    g : Grows w mid
    g = step_grows w h.at h.event mid s

    more : (d : ℕ) → consumed_past w d ≤ consumed_past mid d
    more d = let b = g.consumed d in omega (arith, b)

    by : (mid.all ≡ w.all) ⊎ ((length mid.all ≤ length w.all + 1) × ((mid.at h.at).consumed ≡ (w.at h.at).consumed + 1)) → length mid.all ≤ sum_by (consumed_past mid) members
    by (inl e) = let same : length mid.all ≡ length w.all = ap length e in let sums = sum_by-le-sum_by (consumed_past w) (consumed_past mid) members more in omega (arith, same, sums, counted)
    by (inr (longer, one)) =
        let b = begun h.at in
        let up : consumed_past w h.at + 1 ≤ consumed_past mid h.at = omega (arith, b, one) in
        let sums = sum_more (consumed_past w) (consumed_past mid) members h.at more up (All-head (λ (x : Happening). In x.at members) h hs all) in
        omega (arith, longer, sums, counted)

pub all_counted : AllIsCounted
all_counted kinds members hs new all run = run_counts members _ hs new (λ d. omega arith) (omega arith) all run

-- The list of a member's records, and what another asks for of it.
use Rattle.std.proofs.Common.{◌≡◌, ◌⊎◌, Bool, true, false, not, List, [], ◌∷◌, refl, sym, ap, ◌∙◌, subst, inl, inr, Option, Some, None, MatchOption, ℕ}
use Rattle.frs_base.specs.Options.{In}
use Rattle.win_order.specs.Order.{Beats, key_lt, key_of}
use Rattle.win_order.specs.declared.update.Update.{Update}
use Rattle.record_db.specs.Lists.{Lists}
use Rattle.record_db.specs.Records.{Covered, IsHeld, IsRecord, Versions}
use Rattle.record_db.proofs.Best.{best_one, held_is}
use Rattle.record_db.proofs.Keys.{uid_trans}
use Rattle.world_model.specs.World.{World, IsRecordOf}
use Rattle.world_model.specs.Invariant.{VersionsAreMade}
use Rattle.world_model.specs.Rounds.{IsWanted}
use Rattle.world_model.proofs.Facts.{true_false}
use Rattle.script_engine.specs.Pulling.{IsAsked}
use Rattle.script_engine.proofs.Orders.{Before, Lower, gvsn_tells, gvsn_trans, passing, sorted_of, to_rising, to_version, uid_tells}

-- each version is of one update
abbrev OneEach : List Update → Type 0
OneEach all = (u v : Update) → In u all → In v all → u.gvsn ≡ v.gvsn → u ≡ v

-- the winners of the files of some updates
abbrev HasWinners : List Update → Versions → List Update → Type 0
HasWinners all known us = (ys : List Update) × ((x : Update) → In x ys → IsRecord all known x) × ((x : Update) → In x us → IsRecord all known x → In x ys)

winners : (all : List Update) (known : Versions) (us : List Update) → OneEach all → HasWinners all known us
winners all known [] one = ([], (λ x h. absurd h), (λ x h r. h))
winners all known (u ∷ us) one = by (held_is all known u.uid) (winners all known us one)
  where
    by : (held : Option Update) × IsHeld (Covered all known) u.uid held → HasWinners all known us → HasWinners all known (u ∷ us)
    by (None, h) (ys, each, whole) = (ys, each, λ x a r. elim a [ inl e ↦ absurd (h x r.among (ap (λ z. z.uid) e)) | inr k ↦ whole x k r ])
    by (Some r, h) (ys, each, whole) = (
      r ∷ ys,
      (λ x a. elim a [ inl e ↦ subst (IsRecord all known) (sym e) h.0 | inr k ↦ each x k ]),
      (λ x a w. elim a [ inl e ↦ inl (best_one x r (λ i j p q g. one i j p.0 q.0 g) w h.0 (ap (λ z. z.uid) e ∙ sym h.1)) | inr k ↦ inr (whole x k w) ]),
    )

-- a member's records are a list
pub records_some : (w : World) (d : ℕ) → VersionsAreMade w → (records : List Update) × Lists (IsRecordOf w d) records
records_some w d h =
    let (ys, each, whole) = winners w.all (w.at d).known w.all h.one_each in
    let (zs, s) = sorted_of (IsRecordOf w d) Lower (λ x y z p q. uid_trans x.uid y.uid z.uid p q)
    (λ x y p q. elim (uid_tells x.uid y.uid) [ inl l ↦ inl l | inr (inl e) ↦ inr (inl (best_one x y (λ i j a b g. h.one_each i j a.0 b.0 g) p q e)) | inr (inr g) ↦ inr (inr g) ])
    ys each in
    (zs, record { rising = to_rising zs s.up; each = λ u a. each u (s.from u a); whole = λ u r. s.to u (whole u r.among.0 r) })

-- so is what another doesn't cover of them
pub page_some : (w : World) (puller server : ℕ) → VersionsAreMade w → (page : List Update) × IsAsked w puller server page
page_some w puller server h =
    let (records, l) = records_some w server h in
    let (us, from, to) = passing (λ u. not ((w.at puller).known u.gvsn)) records in
    let (ys, s) = sorted_of (IsRecordOf w server) Before (λ x y z p q. gvsn_trans x.gvsn y.gvsn z.gvsn p q)
    (λ x y p q. elim (gvsn_tells x.gvsn y.gvsn) [ inl a ↦ inl a | inr (inl e) ↦ inr (inl (h.one_each x y p.among.0 q.among.0 e)) | inr (inr g) ↦ inr (inr g) ])
    us (λ x a. l.each x (from x a).0) in (
      ys,
      record {
        ordered = to_version ys s.up;
        each = λ u a. let (i, t) = from u (s.from u a) in (l.each u i, not_true ((w.at puller).known u.gvsn) t);
        whole = λ u r f. s.to u (to u (l.whole u r) (not_false ((w.at puller).known u.gvsn) f));
      },
    )
  where
    not_true : (b : Bool) → not b ≡ true → b ≡ false
    not_true true e = absurd (cc)
    not_true false e = refl

    not_false : (b : Bool) → b ≡ false → not b ≡ true
    not_false true e = absurd (cc)
    not_false false e = refl

-- an update beats a member's record of its file, or not
pub wanted_or : (w : World) (d : ℕ) (u : Update) → VersionsAreMade w → IsWanted w d u ⊎ (IsWanted w d u → ⊥)
wanted_or w d u h = by (held_is w.all (w.at d).known u.uid)
  where
    by : (held : Option Update) × IsHeld (Covered w.all (w.at d).known) u.uid held → IsWanted w d u ⊎ (IsWanted w d u → ⊥)
    by (None, k) = inl (None, k, tt)
    by (Some r, k) = test (key_lt (key_of r) (key_of u)) refl
      where
        beaten : key_lt (key_of r) (key_of u) ≡ false → (held : Option Update) → IsHeld (Covered w.all (w.at d).known) u.uid held → MatchOption held (Unit {0}) (λ x. Beats u x) → ⊥
        beaten e None g b = g r k.0.among k.1
        beaten e (Some x) g b =
            let same : x ≡ r = best_one x r (λ i j p q s. h.one_each i j p.0 q.0 s) g.0 k.0 (g.1 ∙ sym k.1) in
            true_false (key_lt (key_of r) (key_of u)) (subst (λ y. key_lt (key_of y) (key_of u) ≡ true) same b.greater) e

        test : (b : Bool) → key_lt (key_of r) (key_of u) ≡ b → IsWanted w d u ⊎ (IsWanted w d u → ⊥)
        test true e = inl (Some r, k, record { file = sym k.1; greater = e })
        test false e = inr (λ (held, g, b). beaten e held g b)

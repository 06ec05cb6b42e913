-- The small sets of records and the small journal, computed.
use Rattle.std.proofs.Common.{◌≡◌, ◌≤◌, ℕ, zero, suc, true, false, [], ◌∷◌, refl, sym, ap, ◌∙◌, subst, arith, inl, inr, Some}
use Rattle.frs_base.specs.Options.{In}
use Rattle.win_order.specs.Order.{key_lt, key_of}
use Rattle.win_order.specs.declared.update.Update.{Update}
use Rattle.vol_state.specs.declared.record.VolRecord.{VolRecord}
use Rattle.name_rules.specs.Next.{Do, Drained, IsAnswer, Next, NotYet}
use Rattle.name_rules.specs.Shown.{Among}
use Rattle.name_rules.specs.Tree.{HasName, IsShown, ShownBy}
use Rattle.name_rules.specs.Examples.{AloneIsShown, ChildOfPresent, ChildOfRemoved, ComesFirst, MatchingNames, PendingComesFirst, capital, child, removed, small, two_puts}

not_true : {P : Type 0} → true ≡ false → P
not_true e = absurd (cc)

not_false : {P : Type 0} → false ≡ true → P
not_false e = absurd (cc)

-- ---- matching names

pub matching_names_are : MatchingNames
matching_names_are = ((1, (name, inl refl)), hidden)
  where
    name : HasName (Among (capital ∷ small ∷ [])) small
    name = record { among = inr (inl refl); present = refl; greatest = λ v among there up same. by v among }
      where
        by : (v : Update) → In v (capital ∷ small ∷ []) → key_lt (key_of small) (key_of v) ≡ false
        by v (inl e) = subst (λ u. key_lt (key_of small) (key_of u) ≡ false) (sym e) refl
        by v (inr (inl e)) = subst (λ u. key_lt (key_of small) (key_of u) ≡ false) (sym e) refl
        by v (inr (inr h)) = absurd h

    hidden : IsShown (Among (capital ∷ small ∷ [])) capital → ⊥
    hidden (zero, h) = h
    hidden (suc n, (name, above)) = not_true (name.greatest small (inr (inl refl)) refl refl refl)

pub alone_is_shown : AloneIsShown
alone_is_shown = (1, (record { among = inl refl; present = refl; greatest = λ v among there up same. by v among }, inl refl))
  where
    by : (v : Update) → In v (capital ∷ []) → key_lt (key_of capital) (key_of v) ≡ false
    by v (inl e) = subst (λ u. key_lt (key_of capital) (key_of u) ≡ false) (sym e) refl
    by v (inr h) = absurd h

-- ---- a child of what was removed

pub child_of_removed : ChildOfRemoved
child_of_removed u (n, shown) = hidden n u shown
  where
    Here : Update → Type 0
    Here = Among (removed ∷ child ∷ [])

    hidden : (n : ℕ) (u : Update) → ShownBy Here n u → ⊥
    hidden zero u h = h
    hidden (suc n) u (name, above) = by name.among (λ p h. hidden n p h)
      where
        by : In u (removed ∷ child ∷ []) → ((p : Update) → ShownBy Here n p → ⊥) → ⊥
        by (inl e) above_hidden = not_false (sym (ap (λ v. v.present) e) ∙ name.present)
        by (inr (inl e)) above_hidden = elim above [
          | inl root ↦ (let bad : 9 ≡ 1 = ap (λ i. i.version) (sym (ap (λ v. v.parent) e) ∙ root) in absurd (omega (arith, bad)))
          | inr (p, is, directory, shown) ↦ above_hidden p shown
        ]
        by (inr (inr h)) above_hidden = h

pub child_of_present : ChildOfPresent
child_of_present = (2, (name child (inr (inl refl)) refl lowest, inr (there, refl, refl, (name there (inl refl) refl first, inl refl))))
  where
    there : Update
    there = record removed { present = true }

    Here : Update → Type 0
    Here = Among (there ∷ child ∷ [])

    name : (u : Update) → Here u → u.present ≡ true → ((v : Update) → Here v → v.parent ≡ u.parent → key_lt (key_of u) (key_of v) ≡ false) → HasName Here u
    name u among present greatest = record { among = among; present = present; greatest = λ v here there up same. greatest v here up }

    lowest : (v : Update) → Here v → v.parent ≡ child.parent → key_lt (key_of child) (key_of v) ≡ false
    lowest v (inl e) up = subst (λ u. key_lt (key_of child) (key_of u) ≡ false) (sym e) refl
    lowest v (inr (inl e)) up = subst (λ u. key_lt (key_of child) (key_of u) ≡ false) (sym e) refl
    lowest v (inr (inr h)) up = absurd h

    first : (v : Update) → Here v → v.parent ≡ there.parent → key_lt (key_of there) (key_of v) ≡ false
    first v (inl e) up = subst (λ u. key_lt (key_of there) (key_of u) ≡ false) (sym e) refl
    first v (inr (inl e)) up = (let bad : 9 ≡ 1 = ap (λ i. i.version) (sym (ap (λ w. w.parent) e) ∙ up) in absurd (omega (arith, bad)))
    first v (inr (inr h)) up = absurd h

-- ---- two pending records

local_first : (usn : ℕ) (r : VolRecord) → two_puts.entry usn ≡ Some r → r.local ≡ true → ComesFirst usn
local_first usn r at local records staged next =
    (to next, λ e. subst (IsAnswer (Among records) 1 two_puts staged usn) (sym e) (record { pending = (r, omega arith, at, local); least = λ n p. p.1 }))
  where
    to : (next : Next) → IsAnswer (Among records) 1 two_puts staged usn next → next ≡ NotYet usn
    to (Do step) (quiet, is) = not_true (sym local ∙ quiet usn r (omega arith) at)
    to Drained drained = not_true (sym local ∙ drained.quiet usn r (omega arith) at)
    to (NotYet n) first = ap NotYet (same (first.least usn (r, omega arith, at, local)) first.pending.1)
      where
        same : n ≤ usn → usn ≤ n → n ≡ usn
        same low high = omega (arith, low, high)

pub pending_comes_first : PendingComesFirst
pending_comes_first = (local_first 9 _ refl refl, local_first 10 _ refl refl)

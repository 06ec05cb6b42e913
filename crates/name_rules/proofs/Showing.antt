-- Equal records show the same, in the same rows.
use Rattle.std.proofs.Common.{ℕ, zero, suc, List, [], ◌∷◌, inl, inr}
use Rattle.frs_base.specs.declared.kind.Kind.{Kind}
use Rattle.frs_base.specs.declared.sum.Sum.{Sum}
use Rattle.frs_base.specs.declared.version.Uid.{Uid}
use Rattle.win_order.specs.declared.update.Update.{Update}
use Rattle.vol_state.specs.Conditions.{root_uid}
use Rattle.name_rules.specs.Tree.{HasName, IsRow, IsShown, IsUnder, ShownBy}

-- each of the one is of the other
pub record AreSame (R S : Update → Type 0) : Type 0 where
  pub to : (u : Update) → R u → S u
  pub back : (u : Update) → S u → R u

pub same_back : {R S : Update → Type 0} → AreSame R S → AreSame S R
same_back same = record { to = same.back; back = same.to }

shown_by : {R S : Update → Type 0} → AreSame R S → (n : ℕ) (u : Update) → ShownBy R n u → ShownBy S n u
shown_by same zero u h = absurd h
shown_by same (suc n) u (name, up) = (
  record { among = same.to u name.among; present = name.present; greatest = λ v k p q m. name.greatest v (same.back v k) p q m },
  elim up [ inl root ↦ inl root | inr (p, uid, d, h) ↦ inr (p, uid, d, shown_by same n p h) ],
)

pub shown_same : {R S : Update → Type 0} → AreSame R S → (u : Update) → IsShown R u → IsShown S u
shown_same same u (n, h) = (n, shown_by same n u h)

under_same : {R S : Update → Type 0} → AreSame R S → (path : List (List ℕ)) (parent : Uid) (u : Update) → IsUnder R parent path u → IsUnder S parent path u
under_same same [] parent u h = absurd h
under_same same (name ∷ []) parent u (shown, p, n) = (shown_same same u shown, p, n)
under_same same (name ∷ next ∷ path) parent u (up, shown, p, n, d, h) = (up, shown_same same up shown, p, n, d, under_same same (next ∷ path) up.uid u h)

pub row_same : {R S : Update → Type 0} → AreSame R S → (path : List (List ℕ)) (kind : Kind) (sum : Sum) → IsRow R path kind sum → IsRow S path kind sum
row_same same path kind sum (u, under, k, s) = (u, under_same same path root_uid u under, k, s)

-- what is shown has its name
pub shown_name : (R : Update → Type 0) (u : Update) → IsShown R u → HasName R u
shown_name R u (zero, h) = absurd h
shown_name R u (suc n, h) = h.0

-- what is shown is one of the records
pub shown_record : (R : Update → Type 0) (u : Update) → IsShown R u → R u
shown_record R u (zero, h) = absurd h
shown_record R u (suc n, h) = h.0.among
